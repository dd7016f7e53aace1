-- The closed words of a channel: each is 0 or 1, one seat alone stores it, and a seat that saw its peer's word at 1 knows that it stays.
use Rattle.std.specs.Prelude.{◌≡◌, ◌≢◌, ◌⊎◌, ℕ, suc, ◌-◌, ◌<◌, ◌≤◌, Bool, true, false, not, cond, ◌&&◌, ◌||◌, List, []}
use mathlib.Core.Option.{some}
use lib.ListN.{get_elem?}
use Rattle.atomic_table.specs.Seated.{TableId}
use Rattle.atomic_table.specs.Table.{State, Step, Me}
use Rattle.xh_channel.specs.declared.closed_rule.Sight.{Sight}

abbrev pub sight : ℕ → ℕ → ℕ → Bool → Bool → Sight
sight channel from upto shut peer_shut = record { channel = channel; from = from; upto = upto; shut = shut; peer_shut = peer_shut }

abbrev pub bit : Bool → ℕ
bit false = 0
bit true = 1

module _ (keeper : ℕ → ℕ) (words : List ℕ) (id : ℕ) (v : Sight) where
  abbrev pub KeepsWord : Type 0
  KeepsWord = (w : ℕ) → v.from ≤ w → w < v.upto → (keeper w ≡ id) × (get_elem? words w ≡ some (bit v.shut))

  abbrev pub FitsSight : Type 0
  FitsSight = KeepsWord × (v.shut ≡ true → get_elem? words v.from ≡ some 1) × (v.peer_shut ≡ true → get_elem? words (1 - v.from) ≡ some 1)

-- no words show this: word 1 is 0 as its own, and 1 as its peer's
abbrev pub never_shown : Sight
never_shown = sight 0 0 2 false true

module _ {S : Type 0} where
  abbrev pub ShowsWords : State S Sight → Type 0
  ShowsWords s = (keeper : ℕ → ℕ) × ((w n : ℕ) → get_elem? s.words w ≡ some n → (n ≡ 0) ⊎ (n ≡ 1))
      × ((id : ℕ) (v : Sight) → get_elem? s.views id ≡ some v → FitsSight keeper s.words id v)

  abbrev pub Shut : Step S → Me S Sight → ℕ → Me S Sight → Type 0
  Shut st m r m' = m' ≡ (record m.0 { shut = true }, m.1)

  abbrev pub IsShown : Step S → Me S Sight → ℕ → Me S Sight → Type 0
  IsShown st m r m' = (m' ≡ m) × (m.0 ≢ never_shown)

  abbrev pub Looked : Step S → Me S Sight → ℕ → Me S Sight → Type 0
  Looked st m r m' = (r ≡ 1 → m' ≡ (record m.0 { peer_shut = true }, m.1)) × (r ≢ 1 → (m' ≡ m) × (m.0.peer_shut ≡ false))

-- what a seat knows is told to its peer. The note has no word to store
abbrev pub told : Sight → Sight
told v = sight v.channel (1 - v.from) (1 - v.from) v.peer_shut v.shut

-- a seat knows of its peer what it or the note does; unless it was seen shut and isn't, which never is so
abbrev pub hearing : Sight → Sight → Sight
hearing v w = cond (w.shut && not v.shut) never_shown (record v { peer_shut = v.peer_shut || w.peer_shut })

-- what contracts see of a side's closed word, and of what is told to it: of which channel and side it is, whether it was shut, and whether its peer was
pub record ClosedView : Type 0 where
  pub table : TableId
  pub channel : ℕ
  pub side : ℕ
  pub shut : Bool
  pub peer_shut : Bool

abbrev pub own_shut : ClosedView → ClosedView
own_shut m = record m { shut = true }

abbrev pub peer_seen_shut : ClosedView → ClosedView
peer_seen_shut m = record m { peer_shut = true }

-- the seat is that of one side's word in the table, and holds no slot
pub record IsWordSeat (table seat : TableId) (me : Me (Unit {0}) Sight) (side : ℕ) : Type 0 where
  pub same : seat ≡ table
  pub size : seat.words ≡ 2
  pub slots : me.1 ≡ []
  pub from : me.0.from ≡ side
  pub upto : me.0.upto ≡ suc side
  pub there : side < 2
