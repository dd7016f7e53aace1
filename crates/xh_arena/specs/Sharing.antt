-- What a call does to a lot and a tally, and what it does to a vault: its arena, its books, and the shares of both.
use Rattle.std.specs.Prelude.{◌≡◌, ℕ, ◌+◌, ◌-◌, ◌<◌}
use Rattle.xh_model.specs.Cover.{length_of}
use Rattle.xh_model.specs.Arena.{ArenaState, IsCarved, IsCut, IsGivenBack}
use Rattle.xh_arena.specs.Views.{LotOf, TallyOf, VaultOf}

-- the lot is of a record of the arena, and its length is that record's
pub record IsLotOfArena {B : Type 0} (arena : ArenaState) (lot : LotOf B) : Type 0 where
  pub known : lot.index < arena.records
  pub length : length_of lot.index arena.cover ≡ lot.len

-- ---- the part of a lot and a tally

-- n bytes were carved for the lot, and the tally has taken them
pub record IsLotCarved {B : Type 0} (n : ℕ) (lot lot' : LotOf B) (tally tally' : TallyOf) : Type 0 where
  pub has : lot' ≡ record lot { len = n }
  pub taken : tally' ≡ record tally { taken = tally.taken + n }

-- the head was cut after k bytes, and the tail has the rest
pub record IsLotCut {B : Type 0} (k : ℕ) (head head' tail tail' : LotOf B) : Type 0 where
  pub first : head' ≡ record head { len = k }
  pub rest : tail' ≡ record tail { len = head.len - k }

-- the bytes of the lot were given back, by the tally
pub record IsLotGivenBack {B : Type 0} (lot lot' : LotOf B) (tally tally' : TallyOf) : Type 0 where
  pub has : lot' ≡ record lot { len = 0 }
  pub back : tally' ≡ record tally { back = tally.back + lot.len }

-- ---- the whole of a vault

pub record IsVaultCarved {B : Type 0} (n at : ℕ) (vault vault' : VaultOf) (lot lot' : LotOf B) (tally tally' : TallyOf) : Type 0 where
  pub arena : IsCarved lot.index n at vault.arena vault'.arena
  pub shares : IsLotCarved n lot lot' tally tally'
  pub books : vault' ≡ record vault { arena = vault'.arena }

pub record IsVaultCut {B : Type 0} (k : ℕ) (vault vault' : VaultOf) (head head' tail tail' : LotOf B) : Type 0 where
  pub arena : IsCut head.index tail.index k vault.arena vault'.arena
  pub shares : IsLotCut k head head' tail tail'
  pub books : vault' ≡ record vault { arena = vault'.arena }

pub record IsVaultGivenBack {B : Type 0} (vault vault' : VaultOf) (lot lot' : LotOf B) (tally tally' : TallyOf) : Type 0 where
  pub arena : IsGivenBack lot.index vault.arena vault'.arena
  pub shares : IsLotGivenBack lot lot' tally tally'
  pub books : vault' ≡ record vault { arena = vault'.arena; back = vault.back + lot.len }
