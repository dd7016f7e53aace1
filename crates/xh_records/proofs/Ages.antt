-- A step after which a place has its next generation keeps the rule.
use Rattle.xh_records.proofs.Common.{nat_tests, ◌≡◌, ℕ, ◌+◌, ◌<◌, ◌≢◌, ◌⊎◌, Bool, List, [], ◌∷◌, map, set, get_or, sym, refl, ap, ◌∙◌, subst, inl, inr, arith, Option, Some, none, some}
use Rattle.xh_records.proofs.Common.{get_elem?, Me, keeps, step, Allows, at_set, set_again, LotOf, Among, Distinct, Shape, View, Process, Ownership, IsHeldBy, place_of, Sits}
use Rattle.xh_records.proofs.Common.{ViewFits, ViewTells, Shows, Shown, renewed, aged}
use mathlib.Core.Option as maybe
use Rattle.xh_records.proofs.Common.{set_here, set_else, dite, ℕ_discrete, some-injective}
use Rattle.xh_records.proofs.Elements.{either_way, in_range, only_one}
use Rattle.xh_records.proofs.Keeps.{At, at}
use Rattle.xh_records.proofs.Cuts.{reseats}

module _ {B : Type 0} (fits : B → ℕ → Bool) (s : Shape) where
  -- a place of the next generation, where its process holds no record
  pub renews : (o : Ownership) (ws : List ℕ) (hs : List (maybe.Option (Option (LotOf B)))) (vs : List (View B)) (id p : ℕ) (v : View B) → Shows fits s o ws hs vs → get_elem? vs id ≡ some v
      → v.processes ≡ p ∷ [] → v.records ≡ [] → p + 32 < 65504 → Shows fits s o ws hs (set vs id (renewed v))
  renews o ws hs vs id p v shown here mine bare small = reseats fits s o ws hs vs (set vs id w) shown
      (λ k x j y u is there sat same. either_way (now j y u there sat)
      (λ t. absurd (none_held k x is (sym same ∙ ap place_of t.1 ∙ sym turn)))
      (λ t. shown.latest k x j y u is t.1 sat same))
      (λ q below. let f = shown.seated q below in dite (ℕ_discrete f.0 id)
      (λ e. let is : f.1 ≡ p = only_one (subst (λ (k : List ℕ). Among k f.1) mine (subst (λ (z : View B). Sits z f.1) (some-injective f.2 v (sym f.3 ∙ ap (get_elem? vs) e ∙ here)) f.4)) in
      (id, p + 32, w, set_here vs id w (in_range vs id v here), subst (λ (k : List ℕ). Among k (p + 32)) (sym mine_now) (inl refl), sym turn ∙ ap place_of (sym is) ∙ f.5))
      (λ n. (f.0, f.1, f.2, set_else vs id f.0 w n ∙ f.3, f.4, f.5)))
      (λ j x u there sat. either_way (now j x u there sat) (λ t. let at = shown.inside id p v here sits in grind (arith, nat_tests)) (λ t. shown.inside j x u t.1 sat))
      (λ i j x y u z at_u at_z sat sat' same. either_way (now i x u at_u sat)
      (λ a. either_way (now j y z at_z sat') (λ b. (a.0 ∙ sym b.0, a.1 ∙ sym b.1))
      (λ b. absurd (b.0 (sym (shown.alone id j p y v z here b.1 sits sat' (turn ∙ sym (ap place_of a.1) ∙ same)).0))))
      (λ a. either_way (now j y z at_z sat') (λ b. absurd (a.0 (shown.alone i id x p u v a.1 here sat sits (same ∙ ap place_of b.1 ∙ sym turn)).0))
      (λ b. shown.alone i j x y u z a.1 b.1 sat sat' same)))
      (λ j u there. either_way (at_set vs id j w u there) (λ t. subst (λ (z : View B). ViewFits s o z × ViewTells shown.log z) t.1 (
        record {
          is_owner = λ k x owns. absurd (subst (λ (l : List (ℕ × ℕ)). Among l (k, x)) bare owns);
          owns_all = λ k x is sat. absurd (none_held k x is (ap place_of (only_now x sat) ∙ sym turn));
          knows = λ x sat. (shown.views_fit id v here).knows p sits;
          places = subst (λ (l : List ℕ). Distinct (map place_of l)) (sym mine_now) ((λ z. z), tt);
        },
        record {
          begins = told.begins;
          only = λ y f among few. let t = told.only y f among few in let same : t.0 ≡ p = only_one (subst (λ (k : List ℕ). Among k t.0) mine t.1) in
              (p + 32, subst (λ (k : List ℕ). Among k (p + 32)) (sym mine_now) (inl refl), t.2 ∙ ap place_of same ∙ turn, t.3);
        },
      )) (λ t. (shown.views_fit j u t.1, shown.history.tells j u t.1)))
    where
      w : View B
      w = renewed v

      told : ViewTells shown.log v
      told = shown.history.tells id v here

      sits : Sits v p
      sits = subst (λ (k : List ℕ). Among k p) (sym mine) (inl refl)

      mine_now : w.processes ≡ (p + 32) ∷ []
      mine_now = ap (map (λ (x : ℕ). x + 32)) mine

      only_now : (x : ℕ) → Sits w x → x ≡ p + 32
      only_now x there = only_one (subst (λ (k : List ℕ). Among k x) mine_now there)

      turn : place_of p ≡ place_of (p + 32)
      turn = omega arith

      none_held : (k x : ℕ) → IsHeldBy o k (Some (Process x)) → place_of x ≡ place_of p → ⊥
      none_held k x is e = let same : p ≡ x = shown.latest k x id p v is here sits (sym e) in
          subst (λ (l : List (ℕ × ℕ)). Among l (k, x)) bare ((shown.views_fit id v here).owns_all k x is (subst (Sits v) same sits))

      -- where a process sits now
      now : (j x : ℕ) (u : View B) → get_elem? (set vs id w) j ≡ some u → Sits u x → ((j ≡ id) × (x ≡ p + 32)) ⊎ ((j ≢ id) × (get_elem? vs j ≡ some u))
      now j x u there sat = either_way (at_set vs id j w u there) (λ t. inl (t.0, only_now x (subst (λ (z : View B). Sits z x) (sym t.1) sat))) (λ t. inr t)

  -- a load, by a seat whose place has its next generation
  pub ages : (slots id : ℕ) (me : Me (Option (LotOf B)) (View B)) (p : ℕ) → 0 < slots → me.0.processes ≡ p ∷ [] → me.0.records ≡ [] → p + 32 < 65504
      → Allows (Shown fits s) slots id me 0 (λ n. n) (aged (step slots 0 0 0 none) me)
  ages slots id me p some_slot mine bare small t holds long seen fit =
      let a : At fits s t holds.0 0 = at fits s t holds.0 0 slots holds.1 long some_slot in (
        renewed me.0,
        keeps,
        tt,
        (
          holds.0,
          subst (λ (l : List ℕ). Shows fits s holds.0 l t.homes (set t.views id (renewed me.0))) (sym (set_again t.words 0 (get_or t.words 0 0) a.word_at))
              (renews holds.0 t.words t.homes t.views id p me.0 holds.1 seen mine bare small),
        ),
        refl,
      )
