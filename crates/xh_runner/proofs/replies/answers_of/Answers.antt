use Rattle.xh_runner.proofs.Common.{List, NumberedReply, Reply, [], ap, append-nil, append_assoc, arith, drop, get_or, into_iter_items, length, length-map, map, refl, set, sym, ◌+◌, ◌<◌, ◌∙◌, ◌∷◌, ◌≡◌, ℕ}
use Rattle.std.proofs.Common.{rules}
use Rattle.std.proofs.lemmas.List.{drop_all, drop_more, get_or-map, map-set, nil_from_length}
use Rattle.xh_runner.specs.Plays.{part_of}
use Rattle.xh_runner.proofs.Plays.{enough_next, some_left, told_next}
use Rattle.xh_runner.proofs.replies.answers_of.Goals as goal

held_at : {X : Type 0} (f : X → List Reply) (xs : List X) (i p : ℕ) (x : X) → i ≡ p → x ≡ get_or xs i x → i < length xs → get_or (map f xs) p [] ≡ f x
held_at f xs i p x at is within = rw (sym at, get_or-map f xs i x [] within) (ap f (sym is))

pub unreachable-requires : goal.unreachable-requires
unreachable-requires c =
    let l = c.loop-line in
    let lines = c.args.lines.now in
    let line = c.line-item.result in
    let held = held_at into_iter_items l.parts.items c.from-part.result _ _ (c.from-part.ensures ∙ c.part_of.ensures.is) c.index_mut.ensures.value
    (omega (arith, c.from-part.ensures, c.part_of.ensures.within, l.invariant.count, l.parts.ok)) in
    let here : drop l.line-index lines ≡ line ∷ drop (l.line-index + 1) lines = rw (drop_more lines l.line-index line c.loop-line-test.true, sym c.line-item.is) refl in
    let some = some_left c.args.processes.now line (drop (l.line-index + 1) lines) (map into_iter_items l.parts.items) (rw c.part_of.ensures.is at c.part_of.ensures.within) (rw here at l.invariant.enough) in
    omega (arith, some, ap (λ q. length q) held, c.index_mut.result.now.rest.ok, c.in_default.ensures.cases.0)

pub loop-line-init : goal.loop-line-init
loop-line-init c = record { tells = λ late tells. rw c.in_ok-answers.ensures.items tells; enough = c.requires.enough; count = c.requires.count }

pub loop-line-preserved : goal.loop-line-preserved
loop-line-preserved c =
    let l = c.loop-line in
    let s = c.args.processes.now in
    let lines = c.args.lines.now in
    let line = c.line-item.result in
    let later = drop (l.line-index + 1) lines in
    let parts = map into_iter_items l.parts.items in
    let rest = into_iter_items c.next.new.self in
    let at = c.from-part.ensures ∙ c.part_of.ensures.is in
    let held = held_at into_iter_items l.parts.items c.from-part.result _ _ at c.index_mut.ensures.value
    (omega (arith, c.from-part.ensures, c.part_of.ensures.within, l.invariant.count, l.parts.ok)) in
    let within : part_of s line < length parts = omega (arith, at, c.part_of.ensures.within, l.invariant.count, l.parts.ok, length-map l.parts.items (λ p. into_iter_items p)) in
    let here : drop l.line-index lines ≡ line ∷ later = rw (drop_more lines l.line-index line c.loop-line-test.true, sym c.line-item.is) refl in
    let left : map into_iter_items (set l.parts.items c.from-part.result c.next.new.self) ≡ set parts (part_of s line) rest = rw (map-set into_iter_items l.parts.items c.from-part.result c.next.new.self, at) refl in
    let answer : NumberedReply = record { line = line.number; reply = c.in-Some.reply } in record {
      tells = λ late tells. rw (c.in_ok-push.ensures.items, append_assoc l.answers.items (answer ∷ []) late) (l.invariant.tells (answer ∷ late)
          (rw here (ap (λ ns. line.number ∷ ns) tells.0, told_next s line later c.in-Some.reply rest parts within (held ∙ c.in-Some.ensures.items) answer late refl (rw left at tells.1))));
      enough = rw left (enough_next s line later c.in-Some.reply rest parts within (held ∙ c.in-Some.ensures.items) (rw here at l.invariant.enough));
      count = search rules;
    }

pub returns : goal.returns
returns c =
    let l = c.loop-line in
    let none : drop l.line-index c.args.lines.now ≡ [] = drop_all l.line-index c.args.lines.now (omega (arith, c.loop-line-test.false)) in
    let (same, told) = l.invariant.tells [] (rw none (refl, λ k under. sym (nil_from_length (get_or (map into_iter_items l.parts.items) k []) (rw none at (l.invariant.enough k under))))) in
    (rw append-nil at same, λ k under. rw append-nil at (told k under))
