use Rattle.xh_records.proofs.Common.{◌≡◌, ◌≢◌, ℕ, ◌+◌, ◌*◌, ◌<◌, length, get_or, HasLooked, Knows, MAX_RECORDS, SawAt}
use Rattle.xh_records.proofs.records.Records.claim_seen.Given as goal

abbrev pub invariant-loop-index : goal.invariant-loop-index
invariant-loop-index g l = record {
  looked : HasLooked l.initial.seat l.seat;
  long : length l.seen.words.items ≡ l.index;
  seen : (k : ℕ) → k < l.index → (get_or l.seen.words.items k 0 ≢ 0) × Knows l.initial.seat (l.fn.arena * MAX_RECORDS + k) (get_or l.seen.words.items k 0)
      × SawAt l.initial.seat.shape l.initial.seat.front l.seat.front (l.fn.arena * MAX_RECORDS + k) (get_or l.seen.words.items k 0);
}
