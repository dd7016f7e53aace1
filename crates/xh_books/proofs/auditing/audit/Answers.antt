use Rattle.xh_books.proofs.Common.{Body, List, LotOf, VaultOf, all_lengths, ap, arith, div-lt_iff_lt-mul, get_or, get_or-map, length, lens_of, rules, set, set-get_or, sym, there, ℕ, ◌/◌, ◌<◌, ◌∙◌}
use Rattle.xh_books.proofs.Common.{◌≡◌}
use borrow.Author.Count.{below_more}
use Rattle.xh_books.proofs.Audited.{at_index}
use Rattle.xh_books.proofs.auditing.audit.Goals as goal

pub loop-k-preserved : goal.loop-k-preserved
loop-k-preserved c =
    let l = c.loop-k in let was = l.invariant in let vs : List VaultOf = c.args.vaults.now in let ls : List (LotOf Body) = c.args.lots.now in
    let k : ℕ = l.k in let n : ℕ = c.args.records in let v : VaultOf = c.index-vaults-k.result in let lot : LotOf Body = c.index-lots-k.result in
    let inside : k < length ls = search rules in let arena : k / n < length vs = (div-lt_iff_lt-mul c.requires.some).1 (omega (arith, inside, c.requires.long)) in
    let known = rw (was.0, was.1, (c.requires.at k (get_or ls k lot) (there ls k lot inside)).1) at c.audit.ensures.lot.length in (
      ap (set l.vaults (k / n)) c.audit.ensures.same.0 ∙ set-get_or l.vaults (k / n) v ∙ was.0,
      ap (set l.lots k) c.audit.ensures.same.1 ∙ set-get_or l.lots k lot ∙ was.1,
      below_more (λ i. (d : ℕ) → get_or (lens_of ls) i d ≡ get_or (all_lengths vs) i d) k was.2
          (λ d. get_or-map (λ (x : LotOf Body). x.len) ls k lot d inside ∙ sym known ∙ sym (at_index vs n k d v c.requires.some c.requires.each arena)),
    )
