-- What reclaiming does: the sweep, and the calls that end an endpoint or a process.
use Rattle.std.specs.Prelude.{◌≡◌, ℕ, suc, ◌+◌, ◌<◌, ◌≤◌, List, [], ◌∷◌, ◌++◌, length, take, drop, Some, Result}
use Rattle.xh_arena.specs.Views.{LotOf, TallyOf}
use Rattle.xh_core.specs.declared.refused.Refused.{Refused}
use Rattle.xh_model.specs.declared.event.Event.{Event}
use Rattle.xh_model.specs.declared.event.Event.TheVariants.{Accept, Vacate}
use Rattle.xh_model.specs.Keyed.{keys, value_at, without}
use Rattle.xh_core.specs.Calls.{reclaimed}
use Rattle.xh_model.specs.declared.limits.TheConstants.{MAX_BUDGET}
use Rattle.xh_place.specs.declared.body.Body.{Body}
use Rattle.xh_place.specs.Bodies.{direction_toward}
use Rattle.xh_place.specs.Endpoints.{EndsWith}
use Rattle.xh_place.specs.Deeds.{accepted_on, vacated}
use Rattle.xh_place.specs.Places.{Item, PlaceSeen, item_of, shown}
use Rattle.xh_place.specs.Seen.{Becomes, IsSeen, Sight}

-- `saw r s` says what was seen at the record r
module _ (saw : ℕ → Sight → Type 0) where
  -- A sweep: blocks of the process p went, the first one first, each as it ends, as far as the budget goes. What came with each was accepted on the direction toward it, to the end of the list,
  -- to go with the others; then its record was vacated. These are left, and so many bytes went.
  abbrev pub Sweeps : ℕ → ℕ → List (ℕ × Item) → List (ℕ × Item) → ℕ → List (Event × Item) → Type 0
  Sweeps p (suc budget) (y ∷ ys) left bytes log = (came : List (ℕ × Item)) × (more : ℕ) × (later : List (Event × Item)) × EndsWith saw y.1.content came × (bytes ≡ y.1.len + more)
      × (log ≡ accepted_on p (direction_toward y.1.content) came ++ (vacated p y.0 ++ later)) × Sweeps p budget (ys ++ came) left more later
  Sweeps p budget ys left bytes log = (left ≡ ys) × (bytes ≡ 0) × (log ≡ [])

  -- a sweep of these blocks from `from` on
  abbrev pub IsSwept : ℕ → ℕ → ℕ → List (ℕ × Item) → List (ℕ × Item) → ℕ → List (Event × Item) → Type 0
  IsSwept p from budget old new bytes log = (left : List (ℕ × Item)) × Sweeps p budget (drop from old) left bytes log × (new ≡ take from old ++ left)

-- the blocks that these deeds accepted, and the records that they vacated, in their order
abbrev pub came_by : List (Event × Item) → List (ℕ × Item)
came_by [] = []
came_by ((Accept p r d, x) ∷ log) = (r, x) ∷ came_by log
came_by (deed ∷ log) = came_by log

abbrev pub gone_by : List (Event × Item) → List ℕ
gone_by [] = []
gone_by ((Vacate p r, x) ∷ log) = r ∷ gone_by log
gone_by (deed ∷ log) = gone_by log

-- The same as one equation: the blocks that came by these deeds stand behind those from `from` on, and of all these the first ones went, as many as the budget allows, or all.
abbrev pub IsSweptSo : ℕ → ℕ → List (ℕ × Item) → List (ℕ × Item) → List (Event × Item) → Type 0
IsSweptSo from budget old new log = (k : ℕ) × (k ≤ budget) × (gone_by log ≡ keys (take k (drop from old ++ came_by log))) × (new ≡ take from old ++ drop k (drop from old ++ came_by log))
    × (from < length new → k ≡ budget)

-- of each arena the worker has given some bytes back, or none: so many of all; and it moved no others
abbrev pub HasGivenBack : ℕ → List TallyOf → List TallyOf → Type 0
HasGivenBack bytes [] [] = bytes ≡ 0
HasGivenBack bytes (t ∷ old) (u ∷ new) = (n : ℕ) × (more : ℕ) × (bytes ≡ n + more) × (u ≡ record t { back = t.back + n }) × HasGivenBack more old new
HasGivenBack bytes _ _ = ⊥

-- ---- close

-- the endpoint is swept, and what is left of it and of what came with it stands last
abbrev pub IsClosed : ℕ → PlaceSeen → PlaceSeen → ℕ → Result ℕ Refused → Type 0
IsClosed e old new bytes result = (l : LotOf Body) × (left : List (ℕ × Item)) × (log : List (Event × Item)) × (value_at e old.seat.lots ≡ Some l)
    × Sweeps (IsSeen old.seat new.seat) old.seat.process MAX_BUDGET ((e, item_of l) ∷ []) left bytes log × (shown new.seat.lots new.list ≡ without e (shown old.seat.lots old.list) ++ left)
    × Becomes new.seat.lots new.list log old new × (result ≡ reclaimed bytes (length left))
