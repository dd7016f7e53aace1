-- What a give does to its seat where blocks come back.
use Rattle.std.specs.Prelude.{◌≡◌, ◌⊎◌, ℕ, ◌==◌, List, [], ◌∷◌, ◌++◌, Some, is_some}
use Rattle.std.specs.List.{list_any}
use Rattle.xh_arena.specs.Views.{LotOf}
use Rattle.xh_model.specs.Keyed.{Among, keys, value_at}
use Rattle.xh_records.specs.Seats.{Held, SawAt}
use Rattle.xh_place.specs.declared.body.Body.{Body}
use Rattle.xh_place.specs.Deeds.{accepted_on}
use Rattle.xh_place.specs.Places.{IsBlock, item_of}
use Rattle.xh_place.specs.Seen.{Acts, Arrived, IsElsewhere, Sight, bears, brings}

-- a record did not come back, since the seat saw another word, and nothing changed but what it has seen; or it was accepted on the direction, with so many bytes
abbrev pub CameBack : ℕ → ℕ → Held Body → Held Body → List ℕ → List ℕ → ℕ → Type 0
CameBack d r old new had back bytes = ((back ≡ had) × Acts [] old.lots old new × (bytes ≡ 0) × IsElsewhere (SawAt old.shape old.front new.front) d r)
    ⊎ ((l : LotOf Body) × (back ≡ had ++ r ∷ []) × (Among (keys old.lots) r → ⊥)
    × Acts (accepted_on old.process d ((r, item_of l) ∷ [])) (old.lots ++ (r, l) ∷ []) old new × IsBlock old.shape r l × Arrived old.process old.front new.front r d (item_of l) × (bytes ≡ l.len))

-- what a seat saw at a record, from the one front to the other
abbrev pub IsSeenBy : Held Body → Held Body → ℕ → Sight → Type 0
IsSeenBy old new r (bears word) = SawAt old.shape old.front new.front r word
IsSeenBy old new r (brings d x) = Arrived old.process old.front new.front r d x

-- of the given records the seat has those that came back, all well formed
pub record AreBack (given back : List ℕ) (seat : Held Body) : Type 0 where
  pub here : (r : ℕ) → Among given r → list_any (λ q. q == r) back ≡ is_some (value_at r seat.lots)
  pub only : (r : ℕ) → Among back r → Among given r
  pub good : (r : ℕ) (l : LotOf Body) → Among given r → value_at r seat.lots ≡ Some l → IsBlock seat.shape r l
