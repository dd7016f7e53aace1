use Rattle.xh_books.proofs.Common.{Body, List, LotOf, arith, common_steps, cond, get_or-zip, length, length-map, length-zip, lens_of, nat_tests, sum_by_more, take, take_all, zip, ℕ, ◌*◌, ◌+◌, ◌<◌}
use Rattle.xh_books.proofs.Common.{◌==◌, ◌≡◌}
use Rattle.xh_books.proofs.flight.line_of.Goals.{else-words-k, then-words-k}
use Rattle.xh_books.proofs.flight.line_of.Goals as goal

pub loop-k-preserved : goal.loop-k-preserved
loop-k-preserved c =
    let k = c.loop-k.k in let ws : List ℕ = c.args.words.now in let lens : List ℕ = lens_of c.args.lots.now in let all = zip ws lens in let word : ℕ = 2 + 4 * c.args.direction in
    let long : length lens ≡ length c.args.lots.now = length-map c.args.lots.now (λ (x : LotOf Body). x.len) in
    let inside : k < length all = omega (arith, length-zip ws lens) in let r = get_or-zip ws lens k (0, 0) (omega arith) (omega arith) in
    let blocks = sum_by_more (λ (x : ℕ × ℕ). cond {A = ℕ} (x.0 == word) 1 0) all k (0, 0) inside in
    let bytes = sum_by_more (λ (x : ℕ × ℕ). cond {A = ℕ} (x.0 == word) x.1 0) all k (0, 0) inside in
    elim c.if-words-k.branch [ then-words-k w ↦ grind (arith, common_steps, nat_tests, blocks, bytes, r) | else-words-k w ↦ grind (arith, common_steps, nat_tests, blocks, bytes, r) ]

pub returns : goal.returns
returns c =
    let all = zip c.args.words.now (lens_of c.args.lots.now) in let long = length-map c.args.lots.now (λ (x : LotOf Body). x.len) in
    let whole : take c.loop-k.k all ≡ all = take_all c.loop-k.k all (omega (arith, length-zip c.args.words.now (lens_of c.args.lots.now), long)) in
    let was = rw whole at c.loop-k.invariant in λ i. record { direction = c.args.direction; blocks = was.0 i; bytes = was.1 i }
