-- What a place's calls say of the tallies that they were lent.
use Rattle.xh_calls.proofs.Common.{Accepts, Block, Err, FrontOf, HasGivenBack, History, Leaves, List, Ok, PartsOf, PlaceSeen, ReceivesOr, Refused, Result, TallyOf, VaultOf, [], ap, arith, inl, inr}
use Rattle.xh_calls.proofs.Common.{none_back, refl, subst, sym, ℕ, ⊎_elim, ◌∙◌, ◌∷◌, ◌≡◌}
use Rattle.xh_calls.specs.Vaults.{Entered}
use Rattle.xh_place.proofs.Swept.{still}
use Rattle.xh_place.specs.Vaults.{AsksEach, BringsBack}
use Rattle.xh_calls.specs.Places.{GivesBack}
use Rattle.xh_calls.specs.declared.heap.Till.{Till}

-- an endpoint that came to a place, or came too late
module _ {V : Type 0} {from to : V} (changes : V → V → ℕ → VaultOf → VaultOf → Type 0) (tallies : V → List TallyOf) where
  pub received : (q r d : ℕ) (old new : PlaceSeen) (result : Result Block Refused) → Accepts changes tallies q r d old new from to result
      → (bytes : ℕ) × ReceivesOr q d r bytes old new result × BringsBack changes tallies bytes from to
  received q r d old new (Ok b) h = (0, (refl, (h.here.0, h.here.1, h.here.2)), still changes tallies from to h.here.3)
  received q r d old new (Err e) h = ⊎_elim
      (λ s. (0, (h.away.0, inl ((s.0, refl), s.2)), still changes tallies from to s.1))
      (λ m. (m.2.0, (h.away.0, inr (m.0, m.1, m.2.1)), m.2.2)) h.away.1

-- what is entered of the calls on vaults that know what the worker has seen
entered_each : {V : Type 0} (parts : PartsOf) (arenas : List ℕ) (x y : V) (front : V → FrontOf VaultOf) → AsksEach (λ v w. Leaves parts (front v) (front w)) arenas x y
    → Entered arenas (front x) (front y)
entered_each {V} parts [] x y front h = ap front h
entered_each {V} parts (a ∷ arenas) x y front h =
    let mid : V = h.0 in let entry = h.1.2.1 in (
      entry.others,
      h.1.1,
      entry.not_its_own,
      subst (λ (seen : FrontOf VaultOf). Entered arenas seen (front y)) entry.seen (entered_each parts arenas mid y front h.2),
    )

-- of vaults that were lent with what lies in a till, from the till that was brought to what it is at the end
module _ {V : Type 0} (parts : PartsOf) (x y : V) (till : V → Till) {f g : Till} (start : till x ≡ f) (end : g ≡ till y) where
  abbrev changes : V → V → ℕ → VaultOf → VaultOf → Type 0
  changes v w = Leaves parts (till v).seen (till w).seen

  pub lent : (P : Till → Till → Type 0) → P (till x) (till y) → P f g
  lent P h = subst (λ (z : Till × Till). P z.0 z.1) (λ i. (start i, sym end i)) h

  pub entered : (arenas : List ℕ) → AsksEach changes arenas x y → Entered arenas f.seen g.seen
  entered arenas h = lent (λ s t. Entered arenas s.seen t.seen) (entered_each parts arenas x y (λ v. (till v).seen) h)

  pub came : {n : ℕ} → BringsBack changes (λ v. (till v).tallies.items) n x y → GivesBack n f g
  came {n} h = (lent (λ s t. HasGivenBack n s.tallies.items t.tallies.items) h.0, (h.1.0, entered h.1.0 h.1.1, h.1.2))

-- nothing came back, and no arena was asked
pub none_given : (f : Till) → GivesBack 0 f f
none_given f = (none_back refl, ([], refl, omega arith))
