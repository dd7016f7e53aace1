-- Each step on a closed word keeps the rule.
use Rattle.xh_channel.proofs.Common.{Allows, Bool, Joins, List, Me, Splits, State, [], ap, arith, at_index, at_set, cond, false, false_from_ne_true, get_elem?, inl, inr}
use Rattle.xh_channel.proofs.Common.{keeps, length, length-replicate, none, not, opening, or_cases, refl, replicate, set, set-get_or, set_else, set_here, slice_index, some, some-injective}
use Rattle.xh_channel.proofs.Common.{some-ne-none, step, subst, suc, sym, true, true≢false, zero, ℕ, ⊎_elim, ◌&&◌, ◌-◌, ◌<◌, ◌∙◌, ◌∷◌, ◌≡◌, ◌≢◌}
use mathlib.Core.Logic.{dite}
use native.Mathlib.Decide.{ℕ_discrete}
use Rattle.xh_core.proofs.FreshPlain.{at_replicate}
use Rattle.xh_channel.specs.declared.closed_rule.Sight.{Sight}
use Rattle.xh_channel.specs.inner.ClosedWords.{FitsSight, IsShown, Looked, ShowsWords, Shut, bit, hearing, never_shown, sight, told}
use Rattle.xh_channel.proofs.Views.{every_set, every_two, every_snoc, one_view}

found : (ws : List ℕ) (w n : ℕ) → get_elem? ws w ≡ some n → slice_index ws w ≡ n
found [] w n e = absurd (some-ne-none n (sym e))
found (x ∷ xs) zero n e = some-injective x n e
found (x ∷ xs) (suc w) n e = found xs w n e

all_zero : (k w : ℕ) → w < k → get_elem? {A = ℕ} (replicate k 0) w ≡ some 0
all_zero k w h = at_index (replicate {A = ℕ} k 0) w 0 (rw (length-replicate {A = ℕ} k 0) h) (sym (at_replicate k w 0))

only_zero : (k w n : ℕ) → get_elem? {A = ℕ} (replicate k 0) w ≡ some n → n ≡ 0
only_zero k w n e = sym (found (replicate {A = ℕ} k 0) w n e) ∙ at_replicate k w 0

there : (ws : List ℕ) (w n : ℕ) → get_elem? ws w ≡ some n → w < length ws
there [] w n e = absurd (some-ne-none n (sym e))
there (x ∷ xs) zero n e = omega arith
there (x ∷ xs) (suc w) n e = let h = there xs w n e in omega arith

unshut : {P : Type 0} → false ≡ true → P
unshut p = absurd (true≢false (sym p))

pub begins : {S : Type 0} (xs : List S) (k : ℕ) → ShowsWords (opening (replicate 2 0) xs (sight k 0 2 false false))
begins xs k =
    let ws : List ℕ = replicate 2 0 in
    ((λ _. 0), (λ w n e. inl (only_zero 2 w n e)), one_view (FitsSight (λ _. 0) ws) (sight k 0 2 false false) ((λ w _ h. (refl, all_zero 2 w h)), unshut, unshut))

-- the keeper of word 0 changes to k
abbrev kept_by : (ℕ → ℕ) → ℕ → ℕ → ℕ
kept_by keeper k zero = k
kept_by keeper k (suc u) = keeper (suc u)

kept_else : (keeper : ℕ → ℕ) (k u : ℕ) → u ≢ 0 → kept_by keeper k u ≡ keeper u
kept_else keeper k zero ne = absurd (ne refl)
kept_else keeper k (suc u) ne = refl

pub splits : {S : Type 0} (id : ℕ) (v : Sight) → v ≡ sight v.channel 0 2 false false → Splits (ShowsWords {S = S}) id v (sight v.channel 1 2 false false) (sight v.channel 0 1 false false)
splits id v is s h at =
    let mine = (subst (FitsSight h.0 s.words id) is (h.2 id v at)).0 in
    let first = mine 0 (omega arith) (omega arith) in
    let second = mine 1 (omega arith) (omega arith) in
    let vs : List Sight = set s.views id (sight v.channel 1 2 false false) in
    let keeper = kept_by h.0 (length vs) in
    let is_kept : ℕ → ℕ → Type 0 = λ n u. (keeper u ≡ n) × (get_elem? s.words u ≡ some 0) in (
      keeper,
      h.1,
      every_snoc (FitsSight keeper s.words) vs (sight v.channel 0 1 false false) ((λ w a b. let same : 0 ≡ w = omega arith in subst (is_kept (length vs)) same (refl, first.1)), unshut, unshut)
          (every_set (FitsSight keeper s.words) s.views id (sight v.channel 1 2 false false) ((λ w a b. let same : 1 ≡ w = omega arith in subst (is_kept id) same second), unshut, unshut)
          (λ j u other e. let f = h.2 j u e in
          ((λ w a b. let m = f.0 w a b in (kept_else h.0 (length vs) w (λ is. other (sym m.0 ∙ ap h.0 is ∙ first.0)) ∙ m.0, m.1)), f.1, f.2))),
    )

pub shuts : {S : Type 0} (slots id : ℕ) (me : Me S Sight) → me.0.upto ≡ suc me.0.from
    → Allows ShowsWords slots id me me.0.from (λ _. 1) (λ _. Shut (step slots me.0.from 1 0 none) me 1)
shuts slots id me one s h _ at _ =
    let v = me.0 in
    let w : Sight = record v { shut = true } in
    let mine = (h.2 id v at).0 v.from (omega arith) (omega arith) in
    let ws : List ℕ = set s.words v.from 1 in
    let here = set_here s.words v.from 1 (there s.words v.from (bit v.shut) mine.1) in
    let still : (u : ℕ) → get_elem? s.words u ≡ some 1 → get_elem? ws u ≡ some 1 =
    λ u e. dite (ℕ_discrete u v.from) (λ is. subst (λ (x : ℕ). get_elem? ws x ≡ some 1) (sym is) here) (λ ne. set_else s.words v.from u 1 ne ∙ e) in (
      w,
      keeps,
      tt,
      (
        h.0,
        (λ u n e. ⊎_elim (λ (x : (u ≡ v.from) × (1 ≡ n)). inr (sym x.1)) (λ (x : (u ≢ v.from) × (get_elem? s.words u ≡ some n)). h.1 u n x.1) (at_set s.words v.from u 1 n e)),
        every_set (FitsSight h.0 ws) s.views id w
            ((λ u a b. let same : v.from ≡ u = omega arith in subst (λ (x : ℕ). (h.0 x ≡ id) × (get_elem? ws x ≡ some 1)) same (mine.0, here)), (λ _. here), λ p. still (1 - v.from) ((h.2 id v at).2 p))
            (λ j u other e. let f = h.2 j u e in
            ((λ x a b. let m = f.0 x a b in (m.0, set_else s.words v.from x 1 (λ is. other (sym m.0 ∙ ap h.0 is ∙ mine.0)) ∙ m.1)), (λ p. still u.from (f.1 p)), λ p. still (1 - u.from) (f.2 p))),
      ),
      refl,
    )

at_one : (ws : List ℕ) (w : ℕ) → slice_index ws w ≡ 1 → get_elem? ws w ≡ some 1
at_one [] w e = absurd (omega arith)
at_one (x ∷ xs) zero e = ap some e
at_one (x ∷ xs) (suc w) e = at_one xs w e

-- the words stay, and the seat has a view that is true of them
same_words : {S : Type 0} (s : State S Sight) (id i : ℕ) (v w : Sight) (h : ShowsWords s) → get_elem? s.views id ≡ some v → FitsSight h.0 s.words id w
    → ShowsWords {S = S} (record { words = set s.words i (slice_index s.words i); homes = s.homes; views = set s.views id w })
same_words s id i v w h at fits =
    subst (λ (ws : List ℕ). ShowsWords (record { words = ws; homes = s.homes; views = set s.views id w })) (sym (set-get_or s.words i 0))
    (h.0, h.1, every_set (FitsSight h.0 s.words) s.views id w fits (λ j u _ e. h.2 j u e))

pub looks : {S : Type 0} (slots id : ℕ) (me : Me S Sight) (i : ℕ) → i ≡ 1 - me.0.from
    → Allows ShowsWords slots id me i (λ n. n) (Looked (step slots i 0 0 none) me)
looks slots id me i is s h _ at _ =
    let v = me.0 in
    let seen : Sight = record v { peer_shut = true } in
    let mine = h.2 id v at in
    let is_one : (w : ℕ) → Type 0 = λ w. get_elem? s.words w ≡ some 1 in
    dite (ℕ_discrete (slice_index s.words i) 1)
    (λ one. (seen, keeps, tt, same_words s id i v seen h at (mine.0, mine.1, λ _. subst is_one is (at_one s.words i one)), ((λ _. refl), λ ne. absurd (ne one))))
    (λ ne. (v, keeps, tt, same_words s id i v v h at mine, ((λ e. absurd (ne e)), λ _. (refl, false_from_ne_true v.peer_shut (λ p. ne (found s.words i 1 (subst is_one (sym is) (mine.2 p))))))))

pub shuts_at : {S : Type 0} (slots id : ℕ) (me : Me S Sight) (i : ℕ) → me.0.from ≡ i → me.0.upto ≡ suc i
    → Allows ShowsWords slots id me i (λ _. 1) (λ _. Shut (step slots i 1 0 none) me 1)
shuts_at slots id me i is one = subst (λ (w : ℕ). Allows ShowsWords slots id me w (λ _. 1) (λ _. Shut (step slots w 1 0 none) me 1)) is (shuts slots id me (one ∙ ap suc (sym is)))

pub tells : {S : Type 0} (id : ℕ) (v : Sight) → v.from < 2 → Splits (ShowsWords {S = S}) id v v (told v)
tells id v two s h at =
    let mine = h.2 id v at in
    let vs : List Sight = set s.views id v in
    let back : v.from ≡ 1 - (1 - v.from) = omega arith in
    let note : FitsSight h.0 s.words (length vs) (told v) = ((λ w a b. absurd (omega arith)), mine.2, λ p. subst (λ (w : ℕ). get_elem? s.words w ≡ some 1) back (mine.1 p)) in
    (h.0, h.1, every_snoc (FitsSight h.0 s.words) vs (told v) note (every_set (FitsSight h.0 s.words) s.views id v mine (λ j u _ e. h.2 j u e)))

-- what holds of a seat holds of it after it heard what is so
still : (F : Sight → Type 0) (a b : Bool) (v : Sight) → (a ≡ true → b ≡ false → ⊥) → F v → F (cond (a && not b) never_shown v)
still F false b v apart f = f
still F true true v apart f = f
still F true false v apart f = absurd (apart refl refl)

pub hears : {S : Type 0} (id : ℕ) (v : Sight) (other : ℕ) (w : Sight) → v.upto ≡ suc v.from → w.from ≡ v.from → Joins (ShowsWords {S = S}) id v other w (hearing v w) (sight 0 0 0 false false)
hears id v other w one same s h at two at' =
    let was : get_elem? s.views other ≡ some w = ⊎_elim (λ x. absurd (two x.0)) (λ x. x.1) (at_set s.views id other (hearing v w) w at') in
    let mine = h.2 id v at in
    let theirs = h.2 other w was in
    let own = (mine.0 v.from (omega arith) (omega arith)).1 in
    let seen : w.shut ≡ true → bit v.shut ≡ 1 = λ p. some-injective (bit v.shut) 1 (sym own ∙ subst (λ (x : ℕ). get_elem? s.words x ≡ some 1) same (theirs.1 p)) in
    let fits = still (FitsSight h.0 s.words id) w.shut v.shut _ (λ p q. let a = seen p in let b = ap bit q in absurd (omega arith))
    (mine.0, mine.1, λ p. ⊎_elim mine.2 (λ q. subst (λ (x : ℕ). get_elem? s.words (1 - x) ≡ some 1) same (theirs.2 q)) (or_cases v.peer_shut w.peer_shut p)) in
    (h.0, h.1, every_two (FitsSight h.0 s.words) s.views id other (hearing v w) (sight 0 0 0 false false) fits ((λ w a b. absurd (omega arith)), unshut, unshut) (λ j u _ _ e. h.2 j u e))

not_shown : (keeper : ℕ → ℕ) (words : List ℕ) (id : ℕ) → FitsSight keeper words id never_shown → ⊥
not_shown keeper words id f = let e = some-injective 0 1 (sym (f.0 1 (omega arith) (omega arith)).1 ∙ f.2 refl) in absurd (omega (arith, e))

pub shown : {S : Type 0} (slots id : ℕ) (me : Me S Sight) (i : ℕ) → Allows ShowsWords slots id me i (λ n. n) (IsShown (step slots i 0 0 none) me)
shown slots id me i s h _ at _ =
    let mine = h.2 id me.0 at in
    (me.0, keeps, tt, same_words s id i me.0 me.0 h at mine, (refl, λ e. not_shown h.0 s.words id (subst (λ (v : Sight). FitsSight h.0 s.words id v) e mine)))
