-- What each event did, in the order of the log: the lot that the process took or gave by it.
use Rattle.std.specs.Prelude.{◌≡◌, ◌≢◌, ℕ, List, [], ◌∷◌, ◌++◌, ◌==◌, cond, map}
use Rattle.xh_arena.specs.Views.{LotOf}
use Rattle.xh_model.specs.declared.event.Event.{Event}
use Rattle.xh_model.specs.declared.event.Event.TheVariants.{Pass, Accept}
use Rattle.xh_model.specs.Keyed.{Among}
use Rattle.xh_model.specs.Words.{place_of, process_of, record_of}

-- an event, and the lot of its record as it was then
abbrev pub Deed : Type 0 → Type 0
Deed B = Event × LotOf B

module _ {B : Type 0} where
  abbrev pub events : List (Deed B) → List Event
  events = map (λ d. d.0)

  -- those of the processes at the place q, in their order
  abbrev pub deeds_by : ℕ → List (Deed B) → List (Deed B)
  deeds_by q [] = []
  deeds_by q (d ∷ ds) = cond (place_of (process_of d.0) == q) (d ∷ deeds_by q ds) (deeds_by q ds)

  -- what was added from the one front to the other has just these deeds of the place q, in this order
  abbrev pub Adds : ℕ → List (Deed B) → List (Deed B) → List (Deed B) → Type 0
  Adds q own from to = (more : List (Deed B)) × (to ≡ from ++ more) × (deeds_by q more ≡ own)

  -- this deed stands last
  abbrev pub IsLast : Deed B → List (Deed B) → Type 0
  IsLast d all = (before : List (Deed B)) × (all ≡ before ++ d ∷ [])

  -- the last of the deeds on the record r passed it to the direction d, and left this lot
  abbrev pub IsLeft : List (Deed B) → ℕ → ℕ → LotOf B → Type 0
  IsLeft all r d l = (q : ℕ) × (before since : List (Deed B)) × (all ≡ before ++ (Pass q r d, l) ∷ since) × ((e : Event) → Among (events since) e → record_of e ≢ r)

  -- whatever was accepted is as the pass before left it
  abbrev pub Arrives : List (Deed B) → Type 0
  Arrives all = (before after : List (Deed B)) (p r d : ℕ) (l : LotOf B) → all ≡ before ++ (Accept p r d, l) ∷ after → IsLeft before r d l
