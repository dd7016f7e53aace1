use Rattle.xh_records.proofs.Common.{◌≡◌, ℕ, ◌++◌, List, length, [], vec_len, Sits, Held, IsGathered}
use Rattle.xh_records.proofs.closing.join_all.Given as goal

abbrev pub invariant-loop-seat : goal.invariant-loop-seat
invariant-loop-seat g l =
    (done : List (Held g.row.B.Denot)) × (p : ℕ)
    × record {
      split : l.fn.seats.items ≡ l.seats.items ++ done;
      placed : Sits l.token.me.0 p;
      table : l.token.table_id ≡ l.board.table_id;
      bare : l.token.me.1 ≡ [];
      gathered : IsGathered (length l.seats.items) l.fn.seats.items l.token.me.0 l.held.items;
      long : vec_len l.held ≡ vec_len l.fn.held;
    }

abbrev pub decreases-loop-seat : goal.decreases-loop-seat
decreases-loop-seat g l = length l.seats.items
