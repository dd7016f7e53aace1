-- Two records at once: what the private steps of an open do to a seat.
use Rattle.std.specs.Prelude.{◌≡◌, ◌≢◌, ℕ, ◌/◌, [], ◌∷◌, ◌++◌, Some}
use Rattle.xh_arena.specs.Views.{LotOf}
use Rattle.xh_model.specs.declared.limits.TheConstants.{MAX_RECORDS}
use Rattle.xh_model.specs.Keyed.{Among, keys, value_at}
use Rattle.xh_records.specs.Showing.{IsEmpty, IsLotOf}
use Rattle.xh_records.specs.Seats.{Held, IsRecord}
use Rattle.xh_place.specs.declared.body.Body.{Body}
use Rattle.xh_place.specs.Bodies.{fits_in}
use Rattle.xh_place.specs.Seen.{Acts}
use Rattle.xh_place.specs.Deeds.{claimed}
use Rattle.xh_place.specs.Places.{IsBlock}

-- two more records of the arena, neither of which it had, claimed in this order
pub record HasTwoMore (arena : ℕ) (old new : Held Body) (r t : ℕ) (l m : LotOf Body) : Type 0 where
  pub lots : Acts (claimed old.process (r ∷ t ∷ [])) (old.lots ++ (r, l) ∷ (t, m) ∷ []) old new
  pub first_fresh : Among (keys old.lots) r → ⊥
  pub second_fresh : Among (keys old.lots) t → ⊥
  pub apart : r ≢ t
  pub first_arena : r / MAX_RECORDS ≡ arena
  pub second_arena : t / MAX_RECORDS ≡ arena

-- it has both, of one arena, and their lots have no bytes
pub record AreEmpty (seat : Held Body) (r t : ℕ) (l m : LotOf Body) : Type 0 where
  pub first : (value_at r seat.lots ≡ Some l) × IsRecord seat.shape r × IsLotOf seat.shape r l
  pub second : (value_at t seat.lots ≡ Some m) × IsRecord seat.shape t × IsLotOf seat.shape t m
  pub apart : r ≢ t
  pub near : m.id ≡ l.id
  pub empty : (l.len ≡ 0) × (m.len ≡ 0)

-- they are empty
pub record AreClaimed (arena : ℕ) (old new : Held Body) (r t : ℕ) (l m : LotOf Body) : Type 0 where
  pub two : HasTwoMore arena old new r t l m
  pub first : IsRecord old.shape r × IsLotOf old.shape r l × IsEmpty fits_in l
  pub second : IsRecord old.shape t × IsLotOf old.shape t m × IsEmpty fits_in m

-- they are blocks
pub record AreMade (arena : ℕ) (old new : Held Body) (r t : ℕ) (l m : LotOf Body) : Type 0 where
  pub two : HasTwoMore arena old new r t l m
  pub first : IsBlock old.shape r l
  pub second : IsBlock old.shape t m
