use Rattle.xh_records.proofs.Common.{◌≡◌, ℕ, ◌≤◌, ◌<◌, take, get_or, true, false, Some, vec_len, vec_capacity, slots_items, slots_len, slots_filled, some, get_elem?, slot_at, or_else}
use Rattle.xh_records.proofs.closing.unload.Given as goal

abbrev pub invariant-loop-slot : goal.invariant-loop-slot
invariant-loop-slot g l = record {
  words_stay : l.closed.words ≡ l.fn.closed.words;
  slots_stay : slots_items l.closed.slots ≡ slots_items l.fn.closed.slots;
  same_count : slots_len l.closed.slots ≡ slots_len l.fn.closed.slots;
  left : (k : ℕ) → l.slot ≤ k → k < slots_len l.fn.closed.slots → get_or (slots_filled l.closed.slots) k false ≡ true;
  gone : (k : ℕ) → k < l.slot → get_or (slots_filled l.closed.slots) k false ≡ false;
  words : l.words.items ≡ take l.slot (slots_items l.fn.closed.words);
  words_long : vec_len l.words ≡ l.slot;
  lots_long : vec_len l.lots ≡ l.slot;
  words_room : slots_len l.fn.closed.slots ≤ vec_capacity l.words;
  lots_room : slots_len l.fn.closed.slots ≤ vec_capacity l.lots;
  held_long : vec_len l.held ≡ vec_len l.fn.held;
  held : (r : ℕ) → l.slot ≤ r → slot_at l.held.items r ≡ slot_at l.fn.held.items r;
  lots : (r : ℕ) (x : g.row.L.Denot) → get_elem? l.lots.items r ≡ some x → or_else (slot_at l.fn.held.items r) (slot_at (slots_items l.fn.closed.slots) r) ≡ Some x;
}
