-- What a give, a take, a close or a stop says of a place leaves it the same place.
use Rattle.xh_place.proofs.Words.{◌≡◌, ℕ, List, ◌++◌, Bool, None, Some, Option, Ok, Err, Result, Refused, MatchOption, MatchResult, ap, is_some, value_at, IsSamePlace, IsSent, IsTaken, IsUntaken}
use Rattle.xh_place.proofs.Words.{PlaceSeen, RefusedOr, Status, Stays, Taken, end_tests, first_refusal, found, given_tests, start, stop}
use Rattle.xh_place.specs.Calls.{Closes, Stops}
use Rattle.xh_place.specs.Messages.{Gives, TakesAt}
use Rattle.xh_place.proofs.Deeds.{acts_same, becomes_same}

-- whether it was refused or not
either_way : {A X : Type 0} (tests : List (Bool × Refused)) (result : Result A Refused) (same done : Type 0) → (same → X) → (done → X) → RefusedOr tests result same done → X
either_way {A} {X} tests result same done f g h = go (first_refusal tests) h where
  go : (o : Option Refused) → MatchOption o done (λ (e : Refused). (result ≡ Err e) × same) → X
  go None h = g h
  go (Some e) h = f h.1

pub gave_same : (status : Status) (e tag : ℕ) (given : List ℕ) (old new : PlaceSeen) (result : Result ℕ Refused) → Gives status e tag given old new result → IsSamePlace old new
gave_same status e tag given old new result h =
    either_way (start status ++ end_tests (found old.seat e) ++ given_tests (λ r. is_some (value_at r old.seat.lots)) e given) result (Stays old new) (IsSent e tag given old new result)
    (becomes_same _ _ _ old new) (λ is. becomes_same _ _ _ old new is.moved) h

pub took_same : (status : Status) (e : ℕ) (old new : PlaceSeen) (result : Result Taken Refused) → TakesAt status e old new result → IsSamePlace old new
took_same status e old new result h =
    either_way (start status ++ end_tests (found old.seat e)) result (Stays old new) (MatchResult result (IsTaken e old new) (IsUntaken e old new)) (becomes_same _ _ _ old new) (go result) h where
      go : (r : Result Taken Refused) → MatchResult r (IsTaken e old new) (IsUntaken e old new) → IsSamePlace old new
      go (Ok taken) is = becomes_same _ _ _ old new is.list
      go (Err refused) is = becomes_same _ _ _ old new is.list

pub stopped_same : (status : Status) (budget back : ℕ) (old new : PlaceSeen) (result : Result ℕ Refused) → Stops status budget back old new result → IsSamePlace old new
stopped_same status budget back old new result h = either_way (stop status) result _ _ (λ s. becomes_same _ _ _ old new s.0)
    (λ is. acts_same is.0 new.seat.lots old.seat new.seat (ap (λ (p : PlaceSeen). p.seat) is.2.0, is.2.1)) h

pub closed_same : (status : Status) (e back : ℕ) (old new : PlaceSeen) (result : Result ℕ Refused) → Closes status e back old new result → IsSamePlace old new
closed_same status e back old new result h = either_way (start status ++ end_tests (found old.seat e)) result _ _ (λ s. becomes_same _ _ _ old new s.0) (λ is. becomes_same _ _ _ old new is.6) h
