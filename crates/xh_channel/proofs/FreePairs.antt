-- A pair more at the end of the places.
use Rattle.xh_channel.proofs.Common.{IsSome, List, None, Option, Some, StandAtTheirNumbers, [], ap, arith, at_place, false, get_or, has_depth, length, refl, set, subst, suc, sym, true}
use Rattle.xh_channel.proofs.Common.{true≢false, zero, ℕ, ◌++◌, ◌+◌, ◌<◌, ◌==◌, ◌∙◌, ◌∷◌, ◌≡◌}
use Rattle.std.proofs.lemmas.Bool.Decides.{nat_tests}
use Rattle.std.proofs.lemmas.Option.{none-some}
use Rattle.xh_channel.specs.declared.free_pair.FreePair.{FreePair}

abbrev channel_of : Option FreePair → ℕ
channel_of None = 0
channel_of (Some r) = r.low.spot.channel

push_at : (xs : List (Option FreePair)) (k : ℕ) (p : FreePair) → ((i : ℕ) (q : FreePair) → at_place xs i ≡ Some q → q.low.spot.channel ≡ i + k) → p.low.spot.channel ≡ length xs + k
    → (i : ℕ) (q : FreePair) → at_place (xs ++ Some p ∷ []) i ≡ Some q → q.low.spot.channel ≡ i + k
push_at [] k p old is zero q e = ap channel_of (sym e) ∙ is
push_at [] k p old is (suc i) q e = absurd (none-some q e)
push_at (y ∷ ys) k p old is zero q e = old 0 q e
push_at (y ∷ ys) k p old is (suc i) q e = push_at ys (suc k) p (λ j r f. old (suc j) r f ∙ omega arith) (is ∙ omega arith) i q e ∙ omega arith

pub placed_push : (xs : List (Option FreePair)) (n : ℕ) (p : FreePair) → length xs ≡ n → StandAtTheirNumbers xs → p.low.spot.channel ≡ n → StandAtTheirNumbers (xs ++ Some p ∷ [])
placed_push xs n p long old is i q e = push_at xs 0 p (λ j r f. old j r f ∙ omega arith) (omega arith) i q e ∙ omega arith

pub free_push : (d : ℕ) (xs : List (Option FreePair)) (n : ℕ) (x : Option FreePair) → length xs ≡ n → ((i : ℕ) → i < n → has_depth d (at_place xs i) ≡ true) → has_depth d x ≡ true
    → (i : ℕ) → i < n + 1 → has_depth d (at_place (xs ++ x ∷ []) i) ≡ true
free_push d [] n x long old new zero h = new
free_push d [] n x long old new (suc i) h = absurd (omega arith)
free_push d (y ∷ ys) zero x long old new i h = absurd (omega arith)
free_push d (y ∷ ys) (suc n) x long old new zero h = old 0 (omega arith)
free_push d (y ∷ ys) (suc n) x long old new (suc i) h = free_push d ys n x (omega arith) (λ k b. old (suc k) (omega arith)) new i (omega arith)

set_at : (xs : List (Option FreePair)) (k n : ℕ) (x : Option FreePair) → ((i : ℕ) (q : FreePair) → at_place xs i ≡ Some q → q.low.spot.channel ≡ i + k)
    → ((q : FreePair) → x ≡ Some q → q.low.spot.channel ≡ n + k)
    → (i : ℕ) (q : FreePair) → at_place (set xs n x) i ≡ Some q → q.low.spot.channel ≡ i + k
set_at [] k n x old is i q e = old i q e
set_at (y ∷ ys) k zero x old is zero q e = is q e
set_at (y ∷ ys) k zero x old is (suc i) q e = old (suc i) q e
set_at (y ∷ ys) k (suc n) x old is zero q e = old 0 q e
set_at (y ∷ ys) k (suc n) x old is (suc i) q e = set_at ys (suc k) n x (λ j r f. old (suc j) r f ∙ omega arith) (λ r f. is r f ∙ omega arith) i q e ∙ omega arith

pub placed_some : (xs : List (Option FreePair)) (n : ℕ) (p : FreePair) → StandAtTheirNumbers xs → p.low.spot.channel ≡ n → StandAtTheirNumbers (set xs n (Some p))
placed_some xs n p old is i q e = set_at xs 0 n (Some p) (λ j r f. old j r f ∙ omega arith) (λ r f. ap channel_of (sym f) ∙ is ∙ omega arith) i q e ∙ omega arith

pub placed_none : (xs : List (Option FreePair)) (n : ℕ) → StandAtTheirNumbers xs → StandAtTheirNumbers (set xs n None)
placed_none xs n old i q e = set_at xs 0 n None (λ j r f. old j r f ∙ omega arith) (λ r f. absurd (none-some r f)) i q e ∙ omega arith

-- what stands at a place, whatever is said of places past the end
pub stands_at : (xs : List (Option FreePair)) (k n : ℕ) (d : Option FreePair) → length xs ≡ n → k < n → at_place xs k ≡ get_or xs k d
stands_at [] k n d long h = absurd (omega arith)
stands_at (x ∷ xs) zero n d long h = refl
stands_at (x ∷ xs) (suc k) zero d long h = absurd (omega arith)
stands_at (x ∷ xs) (suc k) (suc n) d long h = stands_at xs k n d (omega (arith, long)) (omega arith)

pub has_pair : (d : ℕ) (x y : Option FreePair) → x ≡ y → has_depth d x ≡ true → IsSome y
has_pair d x None is e = absurd (true≢false (sym e ∙ ap (has_depth d) is))
has_pair d x (Some p) is e = refl

-- the pair of the lowest number that is free was taken out
pub opened : (xs : List (Option FreePair)) (at d : ℕ) (p : FreePair) (left : Option FreePair) → StandAtTheirNumbers xs → at_place xs at ≡ Some p → left ≡ None
    → has_depth d (at_place xs at) ≡ true → ((j : ℕ) → j < at → has_depth d (at_place xs j) ≡ false)
    → (p.low.depth ≡ d) × (at_place xs p.low.spot.channel ≡ Some p) × (set xs at left ≡ set xs p.low.spot.channel None)
    × ((j : ℕ) → j < p.low.spot.channel → has_depth d (at_place xs j) ≡ false)
opened xs at d p left stand is gone fits below =
    let here : at ≡ p.low.spot.channel = sym (stand at p is) in
    let same : (p.low.depth == d) ≡ true = sym (ap (has_depth d) is) ∙ fits in
    let deep : p.low.depth ≡ d = grind (arith, nat_tests) in
    (deep, subst (λ (k : ℕ). at_place xs k ≡ Some p) here is, (λ i. set xs (here i) (gone i)), λ j less. below j (omega (arith, here, less)))
