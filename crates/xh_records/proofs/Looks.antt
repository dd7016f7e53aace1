-- A seat that looked before it did something.
use Rattle.xh_records.proofs.Common.{ℕ, List, [], ◌∷◌, ◌++◌, ap, ◌∙◌, subst, LotOf, Deed, Event, place_of, record_of, StartsWith, IsLotOf, Held, HasSeenWord, Knows, TellsWord, events, index_of}
use Rattle.xh_records.proofs.Common.{HasGained, HasLooked, MAX_RECORDS, SawTaken, get_or, sym, ◌+◌, ◌*◌, ◌<◌}
use Rattle.xh_records.proofs.Common.{Adds, seen}
use Rattle.xh_records.proofs.Deeds.{adds_more}
use Rattle.xh_records.proofs.History.{starts_twice}

module _ {B : Type 0} (x y : Held B) (look : HasLooked x y) where
  -- and then it did these deeds
  adds_on : (own : List (Deed B)) (z : Held B) → Adds (place_of y.process) own y.front z.front → Adds (place_of x.process) own x.front z.front
  adds_on own z next = adds_more (place_of x.process) [] own x.front y.front z.front look.1 (subst (λ (p : ℕ). Adds (place_of p) own y.front z.front) (ap (λ h. h.process) look.0) next)

  pub looks_on : (z : Held B) → HasLooked y z → HasLooked x z
  looks_on z next = (next.0 ∙ ap (seen z.front) look.0, adds_on [] z next.1)

  pub gains_on : (by : ℕ → Event) (is : LotOf B → Type 0) (z : Held B) → HasGained (by y.process) is y z → HasGained (by x.process) is x z
  gains_on by is z gained =
      let e : Event = by x.process in
      let next = subst (λ (p : ℕ). HasGained (by p) is y z) (ap (λ h. h.process) look.0) gained in (
        next.0,
        (next.1.0 ∙ ap (λ (h : Held B). record h { lots = h.lots ++ (record_of e, next.0) ∷ []; front = z.front }) look.0, adds_on ((e, next.0) ∷ []) z next.1.1),
        subst (λ s. IsLotOf s (record_of e) next.0) (ap (λ h. h.shape) look.0) next.2,
        next.3,
        next.4,
      )

  pub starts_on : (front : List (Deed B)) → StartsWith front y.front → StartsWith front x.front
  starts_on front later = starts_twice x.front y.front front (look.1.0, look.1.1) later

  pub seen_on : (r word : ℕ) (z : Held B) → HasSeenWord r word y z → HasSeenWord r word x z
  seen_on r word z saw = (
    subst (λ h. Knows h r word) look.0 saw.0,
    subst (λ h. TellsWord h.shape.records (events z.front) (index_of h.shape.records r) word) look.0 saw.1,
    looks_on z saw.2,
  )

  pub taken_on : (arena : ℕ) (words : List ℕ) (z : Held B) → SawTaken arena words y z → SawTaken arena words x z
  taken_on arena words z saw = (
    saw.0 ∙ ap (λ h. h.shape.records) look.0,
    λ k below. let t = saw.1 k (subst (λ (n : ℕ). k < n) (sym (ap (λ h. h.shape.records) look.0)) below) in (
      t.0,
      subst (λ h. Knows h (arena * MAX_RECORDS + k) (get_or words k 0)) look.0 t.1,
      (t.2.0, starts_on t.2.0 t.2.1, t.2.2, subst (λ s. TellsWord s.records (events t.2.0) (index_of s.records (arena * MAX_RECORDS + k)) (get_or words k 0)) (ap (λ h. h.shape) look.0) t.2.3),
    ),
  )
