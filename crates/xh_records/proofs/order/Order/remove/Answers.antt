use Rattle.xh_records.proofs.Common.{arith, ◌≡◌, ℕ, zero, suc, ◌+◌, List, [], ◌∷◌, drop, refl, sym, ap, ◌∙◌, remove}
use Rattle.xh_records.proofs.order.Order.remove.Goals as goal

nothing : (k : ℕ) → remove {X = ℕ} [] k ≡ []
nothing zero = refl
nothing (suc k) = refl

-- an element past the start goes
behind : (s k n : ℕ) (xs : List ℕ) → n ≡ s + k → drop s (remove xs n) ≡ remove (drop s xs) k
behind zero k n xs e = ap (remove xs) (omega (arith, e))
behind (suc s) k n [] e = let more : n ≡ suc (s + k) = omega (arith, e) in ap (λ m. drop (suc s) (remove [] m)) more ∙ sym (nothing k)
behind (suc s) k n (x ∷ xs) e = let more : n ≡ suc (s + k) = omega (arith, e) in ap (λ m. drop (suc s) (remove (x ∷ xs) m)) more ∙ behind s k (s + k) xs refl

-- the one at the start goes
first : (s : ℕ) (xs : List ℕ) → drop (suc s) xs ≡ remove (drop s xs) 0
first zero xs = refl
first (suc s) [] = refl
first (suc s) (x ∷ xs) = first s xs

pub returns-then-k-eq0-clause-items : goal.returns-then-k-eq0-clause-items
returns-then-k-eq0-clause-items c =
    let s = c.self.inside.start in let xs = c.self.inside.all.items in
    let next : s + 1 ≡ suc s = omega arith in ap (λ n. drop n xs) next ∙ first s xs ∙ (λ i. remove (c.self.view_is i).items (sym c.if-k-eq0.true i))

pub returns-clause-items : goal.returns-clause-items
returns-clause-items c =
    let s = c.self.inside.start in let xs = c.self.inside.all.items in
    ap (drop s) c.remove.ensures.items ∙ behind s c.args.k (s + c.args.k) xs refl ∙ ap (λ o. remove o.items c.args.k) c.self.view_is
