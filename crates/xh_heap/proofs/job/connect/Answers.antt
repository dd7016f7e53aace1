use Rattle.std.proofs.Common.{ap, arith, refl, sym, ◌∙◌, ◌<◌, ◌++◌, get_or, length}
use Rattle.std.proofs.lemmas.List.{set-append_left, set-append_right}
use Rattle.std.specs.Prelude.{slice_set}
use Rattle.xh_heap.proofs.Wired.{opened, wired}
use Rattle.xh_heap.proofs.job.connect.Goals as goal

pub returns-then-one-other : goal.returns-then-one-other
returns-then-one-other g c =
    let i = c.args.one in let j = c.args.other in let inside : i < length c.args.all.now = omega (arith, c.if-all-max.false, c.max.ensures) in
    opened _ _ _ _ i j _ _ _ _ c.index-all-one.result c.open_by.new.own refl refl inside c.if-one-other.true c.open_by.ensures

pub returns-then-one-other-2 : goal.returns-then-one-other-2
returns-then-one-other-2 g c =
    let s = c.split_at_mut-low.ensures in let i = c.args.one in let j = c.args.other in let xs = c.split_at_mut-low.result.0.now in let ys = c.split_at_mut-low.result.1.now in
    let p = c.wire_by.new.own in let less : i < j = c.if-one-other-2.true in let inside : j < length c.args.all.now = omega (arith, c.if-all-max.false, c.max.ensures) in
    let d = c.index-low-one.result in let e = c.index-high-0.result in
    wired _ _ _ _ i j _ _ _ _ _ d e p (s.by_index.0 i d less) (s.by_index.1 0 e ∙ ap (λ k. get_or c.args.all.now k e) (omega arith))
    (sym (ap (λ l. slice_set l i p) s.value ∙ set-append_left xs ys i p (omega (arith, s.front_len, less)))) (omega (arith, less, inside)) inside (λ e. omega (arith, e, less)) c.wire_by.ensures

pub returns-else-one-other-2 : goal.returns-else-one-other-2
returns-else-one-other-2 g c =
    let s = c.split_at_mut-low-else-one-other-2.ensures in let i = c.args.one in let j = c.args.other in
    let xs = c.split_at_mut-low-else-one-other-2.result.0.now in let ys = c.split_at_mut-low-else-one-other-2.result.1.now in
    let p = c.wire_by-else-one-other-2.new.own in let inside : i < length c.args.all.now = omega (arith, c.if-all-max.false, c.max.ensures) in
    let less : j < i = omega (arith, c.if-one-other.false, c.if-one-other-2.false) in
    let d = c.index-high-0-else-one-other-2.result in let e = c.index-low-other.result in
    wired _ _ _ _ i j _ _ _ _ _ d e p (s.by_index.1 0 d ∙ ap (λ k. get_or c.args.all.now k d) (omega arith)) (s.by_index.0 j e less)
    (sym (ap (λ l. slice_set l i p) s.value ∙ (set-append_right xs ys i i p s.front_len (omega arith) ∙ ap (λ k. xs ++ slice_set ys k p) (omega arith)))) inside (omega (arith, less, inside))
    (λ e. omega (arith, e, less)) c.wire_by-else-one-other-2.ensures
