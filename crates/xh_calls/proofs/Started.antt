-- A call whose first tests refused: it did nothing. And a start, which does nothing to records.
use Rattle.xh_calls.proofs.Common.{Block, Err, List, Ok, OnErr, PlaceSeen, RefusedOr, Refused, Result, Some, SpaceOf, Stays, Status, Tests, [], alloc_tests, arith}
use Rattle.xh_calls.proofs.Common.{first_append, first_refusal, refl, start, subst, sym, stays_itself, ℕ, ◌++◌, ◌≡◌}
use Rattle.xh_place.proofs.Deeds.{acts_itself}
use Rattle.xh_place.specs.Calls.{Makes}
use Rattle.xh_place.specs.Places.{started}
use Rattle.xh_place.specs.Seen.{LeavesIt}

-- it claimed nothing
pub unclaimed : {A : Type 0} (result : Result A Refused) (most arena : ℕ) (p : PlaceSeen) → OnErr result (LeavesIt most arena p p)
unclaimed (Ok a) most arena p = tt
unclaimed (Err e) most arena p = (([], omega arith, (λ r a. absurd a), acts_itself p.seat), refl, refl)

-- and answers the first of them that does, whatever more are behind
module _ {A : Type 0} (first more : Tests) (result : Result A Refused) (e : Refused) (refuses : first_refusal first ≡ Some e) (is : result ≡ Err e) where
  pub stopped_first : {same : Type 0} (done : Type 0) → same → RefusedOr (first ++ more) result same done
  stopped_first done h = rw (first_append first more e refuses) (is, h)

-- so a call that makes a block made none
module _ (status : Status) where
  pub unmade : (space : SpaceOf) (n : ℕ) (xs : List ℕ) (arena : ℕ) (p : PlaceSeen) (result : Result Block Refused) (e : Refused) → first_refusal (start status) ≡ Some e → result ≡ Err e
      → Makes status space n xs arena p p result
  unmade space n xs arena p result e refuses is = record {
    made = rw is tt;
    block = rw is tt;
    refused = unclaimed result 1 arena p;
    why = stopped_first (start status) (alloc_tests arena space.arenas n space.size) result e refuses is _ (stays_itself p);
  }

-- the place's next process runs
pub starts : (old new : PlaceSeen) → new ≡ started old → Stays (started old) new
starts old new e = subst (Stays (started old)) (sym e) (stays_itself (started old))
