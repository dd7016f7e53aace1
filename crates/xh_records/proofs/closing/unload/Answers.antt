use Rattle.xh_records.proofs.Common.{rules, arith, ◌≡◌, ℕ, suc, ◌+◌, ◌<◌, ◌≤◌, ⊎_elim, length, take, get_or, set, false, refl, sym, ap, ◌∙◌, subst, [], ◌∷◌, ◌++◌, get_or-set_same}
use Rattle.xh_records.proofs.Common.{get_or-set_other, Some, None, vec_len, slots_items, slots_len, slots_filled, slots_counts, some, dite, ℕ_discrete, get_elem?, slot_at, or_else}
use Rattle.xh_records.proofs.Elements.{snoc_at}
use Rattle.xh_records.proofs.Ended.{take_one_more}
use Rattle.xh_records.proofs.closing.unload.Given.{Over}
use Rattle.xh_records.proofs.closing.unload.Goals.{After-word}
use Rattle.xh_records.proofs.closing.unload.Goals as goal

-- the slot is one of the table's
within : (g : Over) (c : After-word g) → c.loop-slot.slot < slots_len c.args.closed.slots
within g c = let same : slots_len c.loop-slot.closed.slots ≡ slots_len c.args.closed.slots = c.loop-slot.invariant.same_count in
    let h : c.loop-slot.slot < c.slot_count-slot-end.result = c.loop-slot-test.true in search rules

pub lot_left-requires-clause-some_lot : goal.lot_left-requires-clause-some_lot
lot_left-requires-clause-some_lot g c =
    let v = c.loop-slot.invariant in let i : ℕ = c.loop-slot.slot in
    let some_lot = c.requires.some_lot i (within g (goal.at.lot_left-requires-clause-some_lot g c).After-word) in
    (some_lot.0, (λ j. or_else (v.held i (omega arith) j) (slot_at (v.slots_stay j) i)) ∙ some_lot.1)

pub loop-slot-preserved : goal.loop-slot-preserved
loop-slot-preserved g c =
    let v = c.loop-slot.invariant in
    let i : ℕ = c.loop-slot.slot in
    let below : i < slots_len c.args.closed.slots = (let k : slots_len c.loop-slot.closed.slots ≡ slots_len c.args.closed.slots = v.same_count in
    let h : i < c.slot_count-slot-end.result = c.loop-slot-test.true in search rules) in
    let left = c.lot_left.ensures in
    let others = left.closed in
    let next : suc i ≡ i + 1 = omega arith in
    let counted : slots_len c.loop-slot.closed.slots ≡ length (slots_filled c.loop-slot.closed.slots) = (slots_counts c.loop-slot.closed.slots).1 in
    let long : i < length (slots_filled c.loop-slot.closed.slots) = (let k : slots_len c.loop-slot.closed.slots ≡ slots_len c.args.closed.slots = v.same_count in omega arith) in record {
      words_stay = others.3 ∙ v.words_stay;
      slots_stay = others.0 ∙ v.slots_stay;
      same_count = others.2 ∙ v.same_count;
      left = λ k le h. ap (λ z. get_or z k false) others.1 ∙ get_or-set_other (slots_filled c.loop-slot.closed.slots) i k false false (λ e. omega arith) ∙ v.left k (omega arith) h;
      gone = λ k h. ap (λ z. get_or z k false) others.1 ∙ dite (ℕ_discrete k i)
          (λ e. ap (get_or (set (slots_filled c.loop-slot.closed.slots) i false) k) refl ∙ ap (λ n. get_or (set (slots_filled c.loop-slot.closed.slots) i false) n false) e
          ∙ get_or-set_same (slots_filled c.loop-slot.closed.slots) i false false long)
          (λ n. get_or-set_other (slots_filled c.loop-slot.closed.slots) i k false false n ∙ v.gone k (omega arith));
      words = c.push_reserved.ensures.items ∙ ap (λ z. z ++ c.word.result ∷ []) v.words ∙ sym
          (take_one_more (slots_items c.args.closed.words) i c.word.result (subst (λ z. get_elem? (slots_items z) i ≡ some c.word.result) v.words_stay c.word.ensures))
          ∙ ap (λ n. take n (slots_items c.args.closed.words)) next;
      words_long = c.push_reserved.ensures.len ∙ ap (λ n. n + 1) v.words_long;
      lots_long = c.push_reserved-in-loop-slot.ensures.len ∙ ap (λ n. n + 1) v.lots_long;
      words_room = subst (λ n. slots_len c.args.closed.slots ≤ n) (sym c.push_reserved.ensures.capacity) v.words_room;
      lots_room = subst (λ n. slots_len c.args.closed.slots ≤ n) (sym c.push_reserved-in-loop-slot.ensures.capacity) v.lots_room;
      held_long = search rules;
      held = λ r le. ap (λ z. get_or z r None) left.held ∙ get_or-set_other c.loop-slot.held.items i r _ None (λ e. omega arith) ∙ v.held r (omega arith);
      lots = λ r x at. ⊎_elim
          (λ old. v.lots r x old)
          (λ new. let at_i : r ≡ i = new.1 ∙ (let a : vec_len c.loop-slot.lots ≡ i = v.lots_long in search rules) in ap
          (λ (n : ℕ). or_else (slot_at c.args.held.items n) (slot_at (slots_items c.args.closed.slots) n)) at_i ∙ (λ j. or_else (sym (v.held i (omega arith)) j) (slot_at (sym v.slots_stay j) i))
          ∙ left.lot ∙ ap Some new.0)
          (snoc_at c.loop-slot.lots.items _ x r (subst (λ z. get_elem? z r ≡ some x) c.push_reserved-in-loop-slot.ensures.items at));
    }
