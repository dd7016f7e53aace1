use Rattle.xh_records.proofs.Common.{◌≡◌, ℕ, ◌-◌, ◌≤◌, [], length, vec_capacity, some, get_elem?, Held, dealer}
use Rattle.xh_records.proofs.making.seats_of.Given as goal

abbrev pub invariant-loop-place : goal.invariant-loop-place
invariant-loop-place g l = record {
  here : l.all.table_id ≡ l.board.table_id;
  view : l.all.me.0 ≡ dealer l.board.key l.place (l.places - l.place);
  long : length l.seats.items ≡ l.place;
  room : l.places ≤ vec_capacity l.seats;
  seats : (k : ℕ) (x : Held g.row.B.Denot) → get_elem? l.seats.items k ≡ some x → (x.table ≡ l.board.table_id) × (x.shape ≡ l.board.key) × (x.process ≡ k) × (x.lots ≡ [])
      × (x.front ≡ []);
}
