-- One more call of a history.
use Rattle.xh_kernel.proofs.Common.{AccountOf, Call, Does, Entry, Glance, Goes, History, IsFound, IsHistoryOf, IsLaw, Leading, Leads, PartsOf, PlaceSeen, Refused, Repeats}
use Rattle.xh_kernel.proofs.Common.{Result, Stays, Steps, [], glance_of, stays_again, stays_itself, subst, suc, sym, ℕ, ∥∥₁_elim, ∥∥₁_map, ◌++◌, ◌<◌, ◌∷◌, ◌≡◌}
use Rattle.xh_kernel.proofs.Common.{Some, length, total_of, true, ◌≤◌}
use Rattle.xh_arena.specs.Views.{LotOf}
use Rattle.xh_core.specs.Statuses.{is_over}
use Rattle.xh_kernel.specs.Places.{IsSoundPlace}
use Rattle.xh_model.specs.Keyed.{Distinct, value_at}
use Rattle.xh_model.specs.Words.{generation_of}
use Rattle.xh_place.specs.Bodies.{fits_in}
use Rattle.xh_place.specs.Places.{AreBlocks, Lists}
use Rattle.xh_place.specs.declared.body.Body.{Body}
use Rattle.xh_records.specs.History.{StartsWith}
use Rattle.xh_records.specs.Showing.{IsFull}

-- what is more of the place before the last call and after it
pub so_too : (leads : Leading) (k : ℕ) (h : History Entry) (R S : PlaceSeen → PlaceSeen → Type 0) → ((old new : PlaceSeen) → R old new → S old new) → Steps leads k h R → Steps leads k h S
so_too leads k h R S f steps = ∥∥₁_map steps (λ s. (s.0, s.1, s.2, s.3, s.4, s.5, s.6, f s.2 s.3 s.7))

-- what is so of the one place and the other, by a call from the one to the other
pub at_step : (leads : Leading) (k : ℕ) (h : History Entry) (R : PlaceSeen → PlaceSeen → Type 0) (from to : PlaceSeen) → R from to
    → Steps leads k h (λ old new. (old ≡ from) × (new ≡ to)) → Steps leads k h R
at_step leads k h R from to so steps =
    so_too leads k h (λ old new. (old ≡ from) × (new ≡ to)) R (λ old new s. subst (λ (x : PlaceSeen × PlaceSeen). R x.0 x.1) (λ j. (sym s.0 j, sym s.1 j)) so) steps

module _ (parts : PartsOf) where
  leads_on : (a b c : PlaceSeen) (h : History Entry) (e : ℕ × Entry) → Leads parts a h b → Goes parts e b c → Leads parts a (h ++ e ∷ []) c
  leads_on a b c [] e l g = (b, c, l, g, stays_itself c)
  leads_on a b c (x ∷ h) e l g = (l.0, l.1, l.2, l.3, leads_on l.1 b c h e l.4 g)

  leads_rests : (a b c : PlaceSeen) (h : History Entry) → Leads parts a h b → Stays b c → Leads parts a h c
  leads_rests a b c [] l s = stays_again a b c l s
  leads_rests a b c (x ∷ h) l s = (l.0, l.1, l.2, l.3, leads_rests l.1 b c h l.4 s)

  -- the place has seen more, and is the same
  pub rests : (k : ℕ) (h : History Entry) (b c : PlaceSeen) → IsHistoryOf parts k h b → Stays b c → IsHistoryOf parts k h c
  rests k h b c was s = ∥∥₁_map was (λ l. (l.0, l.1, leads_rests l.0 b c h l.2 s))

  -- one more call: the place is what the history leads to
  pub longer : {k n : ℕ} {glance : Glance} {new : PlaceSeen} (h : History Entry) (e : Call) (from : PlaceSeen) → IsHistoryOf parts k h from → n < parts.workers → Does parts e from new
      → IsFound parts new → StartsWith new.seat.front from.seat.front → glance ≡ glance_of new → IsHistoryOf parts k (h ++ (n, record { call = e; glance = glance }) ∷ []) new
  longer {k} {n} {glance} {new} h e from was worker does found seen is =
      ∥∥₁_map was (λ l. (l.0, l.1, leads_on l.0 from new h _ l.2 (record { worker = worker; does = does; found = found; seen = seen; glance = is })))

  -- from what a history led to before its last call, to what it leads to after that; whatever is true of these
  pub led : (leads : Leading) → IsLaw parts leads → (k : ℕ) (x : ℕ × Entry) (before after : History Entry) (old new : PlaceSeen) (R : PlaceSeen → PlaceSeen → Type 0)
      → IsHistoryOf parts k before old → IsHistoryOf parts k after new → after ≡ before ++ x ∷ [] → R old new → Steps leads k after R
  led leads law k x before after old new R was now_ more so =
      ∥∥₁_elim ((law k before old).0 was) squash₁ (λ a. ∥∥₁_map ((law k after new).0 now_) (λ b. (before, x, old, new, more, a, b, so)))

-- ---- looks in vain

-- the worker made the call as often as it was in vain
abbrev pub InVain : {A : Type 0} → (Result A Refused → AccountOf → AccountOf → Type 0) → (Result A Refused → Type 0) → AccountOf → AccountOf → Type 0
InVain {A} Did IsVain old new = (n : ℕ) × Repeats (λ from to. (vain : Result A Refused) × IsVain vain × Did vain from to) n old new

-- one more
pub in_vain : {A : Type 0} (Did : Result A Refused → AccountOf → AccountOf → Type 0) (IsVain : Result A Refused → Type 0) (answer : Result A Refused) (old mid new : AccountOf)
    → IsVain answer → InVain Did IsVain old mid → Did answer mid new → InVain Did IsVain old new
in_vain Did IsVain answer old mid new is was now_ = (suc was.0, (mid, was.1, (answer, is, now_)))

-- ---- a place that has seen more

blocks_stay : (old new : PlaceSeen) → Stays old new → AreBlocks old → AreBlocks new
blocks_stay old new same b = let is = sym same.0 in record {
  distinct = subst (λ (p : PlaceSeen). Distinct p.list) is b.distinct;
  lists = subst (λ (p : PlaceSeen). Lists p.seat.lots p.list) is b.lists;
  whole = subst (λ (p : PlaceSeen). (r : ℕ) (l : LotOf Body) → value_at r p.seat.lots ≡ Some l → IsFull fits_in l) is b.whole;
  few = subst (λ (p : PlaceSeen). length p.list ≤ 2048) is b.few;
  sum = subst (λ (p : PlaceSeen). total_of p ≤ 274877906944) is b.sum;
}

pub sound_stays : (old new : PlaceSeen) → Stays old new → IsSoundPlace old → IsSoundPlace new
sound_stays old new same s = let is = sym same.0 in record {
  process = subst (λ (p : PlaceSeen). generation_of p.seat.process < 2047) is s.process;
  blocks = ∥∥₁_map s.blocks (blocks_stay old new same);
  none = subst (λ (p : PlaceSeen). is_over p.state ≡ true → length p.list ≡ 0) is s.none;
}
