use Rattle.xh_records.proofs.Common.{◌≡◌, ℕ, ◌<◌, ◌++◌, List, length, Option, vec_len, LotOf, in_slot, slot_at, or_else}
use Rattle.xh_records.proofs.closing.empty_out.Given as goal

abbrev pub invariant-loop-k : goal.invariant-loop-k
invariant-loop-k g l =
    (front : List (ℕ × Option (LotOf g.row.B.Denot))) × (back : List (ℕ × Option (LotOf g.row.B.Denot))) × (junk : List (ℕ × Option (LotOf g.row.B.Denot)))
    × record {
      split : l.initial.token.me.1 ≡ front ++ back;
      done : length front ≡ l.k;
      left : l.token.me.1 ≡ back ++ junk;
      view : l.token.me.0 ≡ l.initial.token.me.0;
      table : l.token.table_id ≡ l.initial.token.table_id;
      long : vec_len l.held ≡ vec_len l.fn.held;
      lots : (r : ℕ) → r < vec_len l.fn.held → slot_at l.held.items r ≡ or_else (in_slot r front) (slot_at l.fn.held.items r);
    }
