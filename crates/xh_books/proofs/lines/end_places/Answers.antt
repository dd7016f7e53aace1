use Rattle.xh_books.proofs.Common.{All-push, IsListed, List, PlaceLine, PlaceSeen, [], ap, append_assoc, arith, cons_option, into_iter_items, into_iter_len, map_push}
use Rattle.xh_books.proofs.Common.{place_lines, rules, sum_by, sum_by-append, sum_by-cons, sym, total_of, vec_len, ◌++◌, ◌+◌, ◌∙◌, ◌∷◌, ◌≡◌}
use Rattle.xh_books.proofs.Ending.{line_bytes, next_line, one_more}
use Rattle.xh_books.proofs.lines.end_places.Goals as goal

pub loop-place-preserved : goal.loop-place-preserved
loop-place-preserved c =
    let l = c.loop-place in let was = l.invariant in let step = c.in-Some.ensures.steps in let rest = into_iter_items c.next.new.self in let lines = l.lines.items in
    let p = c.in-Some.place in let line = c.end-seat.result.1 in let ends = c.end-seat.ensures in let more = c.push_line.ensures in let done = was.0.0 in (
      (
        done ++ p ∷ [],
        was.0.1 ∙ ap (λ ps. done ++ ps) step.0 ∙ sym (append_assoc done (p ∷ []) rest),
        c.in_ok-push.ensures.items ∙ (λ i. was.0.2 i ++ ends.same i ∷ []) ∙ sym (map_push (λ (q : PlaceSeen). q.seat) done p),
        All-push IsListed done p was.0.3 (record { distinct = c.total-bytes.ensures.blocks.distinct; lists = ends.lists.0; whole = ends.lists.1 }),
      ),
      ap (λ ls. ls ++ place_lines rest) more ∙ next_line lines (place_lines rest) line ∙ ap (λ o. lines ++ cons_option o (place_lines rest)) ends.line ∙ rw step.0 at was.1,
      (let a = ap (λ (ls : List PlaceLine). sum_by (λ z. z.bytes) ls) more in let b = sum_by-append (λ (z : PlaceLine). z.bytes) lines (cons_option line []) in
          let bytes = line_bytes p line ends.lists.0 ends.nothing ends.line in let d = sum_by-cons total_of p rest in
          let before = rw step.0 at was.2 in omega arith),
      search rules,
      (let next = one_more lines c.push_line.new.lines.items line more in let one : vec_len c.push.new.self ≡ vec_len l.seats + 1 = search rules in
          let seats : vec_len c.push.new.self + into_iter_len c.next.new.self ≡ vec_len c.args.places = search rules in let before = was.3 in let few = was.4 in omega arith),
    )
