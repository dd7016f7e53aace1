-- Each step of a vault's seat keeps the rule.
use Rattle.xh_arena.proofs.Common.{nat_tests, ◌≡◌, ℕ, ◌+◌, List, [], ◌∷◌, ◌++◌, length, set, refl, sym, ap, ◌∙◌, subst, arith, replicate, slice_set, slice_index, some, none, get_elem?, Part}
use Rattle.xh_arena.proofs.Common.{Books, Length, Moved, weigh, books, whole, first_parts, Kept, AreOneWhole, Keeps, Changed, top, below, under, with_length, with_taken, with_back}
use Rattle.std.proofs.Common.{length-set}
use Rattle.atomic_table.specs.Table.{Me, step, keeps, Allows, Splits, Joins, opening}
use Rattle.atomic_table.proofs.Lists.{set_again}
use Rattle.xh_arena.proofs.Weights.{weigh-append, weigh-set, others_of}
use Rattle.xh_arena.proofs.Wholes.{weigh-whole, listed-set, lot_stands, tally_stands, books_stand}

-- what the rule says of one view beside the others, and that the rule holds if that still holds after a change
pub beside : (views : List (List Part)) (id : ℕ) (v : List Part) (ls : List ℕ) (ts : List (ℕ × ℕ))
    → ((h : Part → ℕ) → weigh (weigh h) views ≡ weigh h (whole ls ts)) → get_elem? views id ≡ some v
    → (os : List Part) × AreOneWhole v os × ((w : List Part) (h : Part → ℕ) → weigh (weigh h) (set views id w) ≡ weigh h w + weigh h os)
beside views id v ls ts e at =
    let o = others_of views id v at in
    (o.0, (ls, ts, λ h. sym (o.1 v h) ∙ ap (λ vs. weigh (weigh h) vs) (set_again views id v at) ∙ e h), o.1)

-- The word stays 0
pub word_stays : (f : ℕ → ℕ) (ws : List ℕ) → f 0 ≡ 0 → ws ≡ 0 ∷ [] → slice_set ws 0 (f (slice_index ws 0)) ≡ 0 ∷ []
word_stays f ws z e = subst (λ (us : List ℕ). slice_set us 0 (f (slice_index us 0)) ≡ 0 ∷ []) (sym e) (λ i. z i ∷ [])

pub changes : {S : Type 0} (f : List Part → List Part) (slots id : ℕ) (me : Me S (List Part)) → Keeps f → Allows Kept slots id me 0 (λ m. m) (Changed f (step slots 0 0 0 none) me)
changes f slots id me keep s kept len at fits =
    let b = beside s.views id me.0 kept.1.0 kept.1.1 kept.1.2 at in
    let k = keep me.0 b.0 b.1 in (
      f me.0,
      keeps,
      tt,
      (word_stays (λ m. m) s.words refl kept.0, (k.0, k.1, λ h. b.2 (f me.0) h ∙ k.2 h)),
      (refl, (b.0, b.1)),
    )

weigh-cut : (h : Part → ℕ) (v : List Part) → weigh h (below v) + weigh h (top v) ≡ weigh h v
weigh-cut h v = grind (arith, nat_tests)

pub splits : {S : Type 0} (id : ℕ) (v : List Part) → Splits {S = S} Kept id v (below v) (top v)
splits id v s kept at =
    let b = beside s.views id v kept.1.0 kept.1.1 kept.1.2 at in (
      kept.0,
      (b.1.0, b.1.1, λ h. omega (arith, weigh-append (weigh h) (set s.views id (below v)) (top v ∷ []), b.2 (below v) h, weigh-cut h v, b.1.2 h)),
    )

pub splits_nothing : {S : Type 0} (id : ℕ) (v : List Part) → Splits {S = S} Kept id v v []
splits_nothing id v s kept at =
    let b = beside s.views id v kept.1.0 kept.1.1 kept.1.2 at in (
      kept.0,
      (b.1.0, b.1.1, λ h. omega (arith, weigh-append (weigh h) (set s.views id v) ([] ∷ []), b.2 v h, b.1.2 h)),
    )

-- two views as one, in whatever order
joins_as : {S : Type 0} (id : ℕ) (v : List Part) (other : ℕ) (w both : List Part) → ((h : Part → ℕ) → weigh h both ≡ weigh h v + weigh h w) → Joins {S = S} Kept id v other w both []
joins_as id v other w both total s kept at apart there =
    let b = beside s.views id v kept.1.0 kept.1.1 kept.1.2 at in
    let o = others_of (set s.views id both) other w there in (
      kept.0,
      (
        b.1.0,
        b.1.1,
        λ h.
            let again : weigh (weigh h) (set s.views id both) ≡ weigh h w + weigh h o.0 = ap (λ vs. weigh (weigh h) vs) (sym (set_again (set s.views id both) other w there)) ∙ o.1 w h in
            omega (arith, o.1 [] h, again, b.2 both h, total h, b.1.2 h),
      ),
    )

pub joins : {S : Type 0} (id : ℕ) (v : List Part) (other : ℕ) (w : List Part) → Joins {S = S} Kept id v other w (w ++ v) []
joins id v other w = joins_as id v other w (w ++ v) (λ h. omega (arith, weigh-append h w v))

pub joins_under : {S : Type 0} (id : ℕ) (v : List Part) (other : ℕ) (w : List Part) → Joins {S = S} Kept id v other w (under v w) []
joins_under id v other w = joins_as id v other w (under v w) (λ h. omega (arith, weigh-append h (top v) (w ++ below v), weigh-append h w (below v), weigh-cut h v))

pub begins : (S : Type 0) (records workers : ℕ) → Kept {S = S} (opening (0 ∷ []) [] (first_parts records workers))
begins S records workers = (refl, (replicate records 0, replicate workers (0, 0), λ h. omega arith))

pub sets : (n : ℕ) → Keeps (with_length n)
sets n (Length r x ∷ Books ms t b k ∷ rest) os f =
    let v = Length r x ∷ Books ms t b k ∷ rest in
    let same = books_stand v os f ms t b k (λ h. omega arith) in
    let at = lot_stands v os f r x (λ h. omega arith) in
    let listed : f.0 ≡ ms = cc in
    let now : books (set f.0 r n) f.1 ≡ Books (set ms r n) t b k = cc in (
      set f.0 r n,
      f.1,
      λ h. omega (
        arith,
        f.2 h,
        ap h same,
        ap h now,
        weigh-whole h f.0 f.1,
        weigh-whole h (set f.0 r n) f.1,
        listed-set (λ i n. Length i n) h 0 f.0 r r x n (omega arith) at,
      ),
    )
sets n v os f = f

-- the tally on top of the books, and they with it, say more
counts : (j x y u w : ℕ) (ms : List ℕ) (t b k t' b' : ℕ) (rest os : List Part) → AreOneWhole (Moved j x y ∷ Books ms t b k ∷ rest) os → t' + x ≡ t + u → b' + y ≡ b + w
    → AreOneWhole (Moved j u w ∷ Books ms t' b' k ∷ rest) os
counts j x y u w ms t b k t' b' rest os f et eb =
    let v = Moved j x y ∷ Books ms t b k ∷ rest in
    let same = books_stand v os f ms t b k (λ h. omega arith) in
    let at = tally_stands v os f j x y (λ h. omega arith) in
    let new = set f.1 j (u, w) in
    let listed : f.0 ≡ ms = cc in
    let t_is : weigh (λ (u : ℕ × ℕ). u.0) f.1 ≡ t = cc in
    let b_is : weigh (λ (u : ℕ × ℕ). u.1) f.1 ≡ b = cc in
    let k_is : length f.1 ≡ k = cc in
    let t_new : weigh (λ (u : ℕ × ℕ). u.0) new ≡ t' = omega (arith, weigh-set (λ (u : ℕ × ℕ). u.0) f.1 j (x, y) (u, w) at) in
    let b_new : weigh (λ (u : ℕ × ℕ). u.1) new ≡ b' = omega (arith, weigh-set (λ (u : ℕ × ℕ). u.1) f.1 j (x, y) (u, w) at) in
    let now : books f.0 new ≡ Books ms t' b' k = λ i. Books (listed i) (t_new i) (b_new i) ((length-set f.1 j (u, w) ∙ k_is) i) in (
      f.0,
      new,
      λ h. omega (
        arith,
        f.2 h,
        ap h same,
        ap h now,
        weigh-whole h f.0 f.1,
        weigh-whole h f.0 new,
        listed-set (λ i t. Moved i t.0 t.1) h 0 f.1 j j (x, y) (u, w) (omega arith) at,
      ),
    )

pub takes : (n : ℕ) → Keeps (with_taken n)
takes n (Moved j x y ∷ Books ms t b k ∷ rest) os f = counts j x y (x + n) y ms t b k (t + n) b rest os f (omega arith) (omega arith)
takes n v os f = f

pub gives : (n : ℕ) → Keeps (with_back n)
gives n (Moved j x y ∷ Books ms t b k ∷ rest) os f = counts j x y x (y + n) ms t b k t (b + n) rest os f (omega arith) (omega arith)
gives n v os f = f
