-- What a cut and a giving back make of an arena that is kept.
use Rattle.xh_arena.proofs.Common.{◌≡◌, ℕ, ◌+◌, ◌-◌, ◌<◌, ◌≤◌, ◌%◌, List, ◌++◌, length, get_or, set, true, false, cond, refl, sym, ap, ◌∙◌, subst, Option, Some, None, arith, inl, inr, is_none}
use Rattle.xh_arena.proofs.Common.{is_some, ◌≢◌, All, not, cases_eq, cases_Bool, false≢true, nat_tests, is_of, bytes_out, within, in_hole, owner_of, cover_of, has_byte, AreDisjoint, IsPlaced}
use Rattle.xh_arena.proofs.Common.{IsKept, join_run}
use Rattle.std.proofs.lemmas.List.{length-set}
use Rattle.xh_model.specs.Cover.{cut_past, given_back}
use Rattle.xh_arena.proofs.HoleRuns.{within-in, within-out, within-at}
use Rattle.xh_arena.proofs.HoleRuns.{or_swap, in_hole-append, join_run-apart, join_run-in_hole, FirstReaches}
use Rattle.xh_arena.proofs.Owners.{owner_is, nothing_within, owner_of_test, disjoint-set, owner-set, has_byte-set_same, has_byte-set_other}
use Rattle.xh_arena.proofs.Covers.{same_table, table, count_adds, given_back-table, cut_past-table}
use Rattle.xh_arena.proofs.Kept.{empty_has, placed-set}

-- ---- cutting

abbrev pub cut_extents : List (ℕ × ℕ) → ℕ → ℕ → ℕ → ℕ → ℕ → List (ℕ × ℕ)
cut_extents extents r t s m k = set (set extents r (s, k)) t (s + k, m - k)

same_count : (f g : ℕ → Option ℕ) (size : ℕ) → ((i : ℕ) → is_some (g i) ≡ is_some (f i)) → bytes_out (table f 0 size) ≡ bytes_out (table g 0 size)
same_count f g size h =
    let e : bytes_out (table g 0 size) ≡ bytes_out (table f 0 size) + 0 =
    count_adds is_some f g 0 size 0 0 (omega arith) (omega arith) (λ i x y. rw (nothing_within i) (h i)) (λ i x y. absurd (omega arith)) in
    omega arith

-- a cut of the record r, whose extent is (s, m), after k bytes for the empty record t
module _ (size : ℕ) (extents holes : List (ℕ × ℕ)) (out r t s m k : ℕ) (kept : IsKept size extents holes out) (known : r < length extents) (tail_known : t < length extents) (other : t ≢ r)
    (extent : get_or extents r (0, 0) ≡ (s, m)) (empty : (get_or extents t (0, 0)).1 ≡ 0) (some : 0 < k) (multiple : k % 16 ≡ 0) (fits : k < m) where
  has : (i : ℕ) → has_byte extents r i ≡ within (s, m) i
  has i = ap (λ e. within e i) extent

  disjoint_head : AreDisjoint (set extents r (s, k))
  disjoint_head =
      disjoint-set extents r (s, k) kept.disjoint known (λ q i w ne.
      let p = within-at s k i w in
      elim (cases_Bool (has_byte extents q i)) [
        | inr x ↦ x
        | inl y ↦ absurd (ne (kept.disjoint q r i y (has i ∙ within-in s m i p.0 (omega arith))))
      ])

  tail_there : t < length (set extents r (s, k))
  tail_there = omega (arith, length-set extents r (s, k))

  cut-disjoint : AreDisjoint (cut_extents extents r t s m k)
  cut-disjoint =
      disjoint-set (set extents r (s, k)) t (s + k, m - k) disjoint_head tail_there (λ q i w ne.
      let p = within-at (s + k) (m - k) i w in
      elim (cases_eq q r) [
        | inl e ↦ rw e (has_byte-set_same extents r (s, k) i known ∙ within-out s k i (inr p.0))
        | inr nr ↦ has_byte-set_other extents r (s, k) q i nr ∙ elim (cases_Bool (has_byte extents q i)) [
          | inr x ↦ x
          | inl y ↦ absurd (nr (kept.disjoint q r i y (has i ∙ within-in s m i (omega arith) (omega arith))))
        ]
      ])

  -- away from the tail nothing changes
  owner_head : (i : ℕ) → within (s + k, m - k) i ≡ false → owner_of (set extents r (s, k)) i ≡ owner_of extents i
  owner_head i w = grind (arith, nat_tests, owner-set, disjoint_head, has, owner_is)

  cut-owner : (i : ℕ) → owner_of (cut_extents extents r t s m k) i ≡ cond (within (s + k, m - k) i) (Some t) (owner_of extents i)
  cut-owner i = grind (arith, nat_tests, owner-set, disjoint_head, cut-disjoint, tail_there, has_byte-set_other, empty_has, owner_head)

  pub cutting-cover : cover_of size (cut_extents extents r t s m k) ≡ cut_past r t k (cover_of size extents)
  cutting-cover =
      let none : k - (0 - s) ≡ k = omega arith in
      same_table (owner_of (cut_extents extents r t s m k)) (λ i. cond (within (s + k, m - k) i) (Some t) (owner_of extents i)) 0 size (λ i g h. cut-owner i)
      ∙ sym (rw none at (cut_past-table r t k (owner_of extents) s m 0 size (omega arith) (λ i g h. owner_of_test extents r i kept.disjoint ∙ has i)))

  -- a byte is covered after the cut where it was before
  covered : (i : ℕ) → is_some (owner_of (cut_extents extents r t s m k) i) ≡ is_some (owner_of extents i)
  covered i =
      ap is_some (cut-owner i) ∙ elim (cases_Bool (within (s + k, m - k) i)) [
        | inl y ↦ let p = within-at (s + k) (m - k) i y in rw (y, owner_is extents r i kept.disjoint (has i ∙ within-in s m i (omega arith) (omega arith))) refl
        | inr x ↦ rw x refl
      ]

  pub cutting-kept : IsKept size (cut_extents extents r t s m k) holes out
  cutting-kept =
      let run : IsPlaced size (s, m) = let P : ℕ × ℕ → Type 0 = λ e. IsPlaced size e in subst P extent (kept.placed r) in
      let start : s % 16 ≡ 0 = run.start in
      let len : m % 16 ≡ 0 = run.length in
      let end : s + m ≤ size = run.end in
      let tail : IsPlaced size (s + k, m - k) = record { start = omega arith; length = omega arith; end = omega arith } in
      let head : IsPlaced size (s, k) = record { start = start; length = multiple; end = omega arith } in
      record {
        apart = kept.apart;
        placed = placed-set size (set extents r (s, k)) t (s + k, m - k) tail_there tail (placed-set size extents r (s, k) known head kept.placed);
        disjoint = cut-disjoint;
        free = λ i l. kept.free i l ∙ ap not (sym (covered i));
        counted = kept.counted ∙ same_count (owner_of extents) (owner_of (cut_extents extents r t s m k)) size covered;
      }

-- ---- giving back

is_some_from_test : (r : ℕ) (o : Option ℕ) → is_of r o ≡ true → is_some o ≡ true
is_some_from_test r o e = grind (arith, nat_tests)

-- a giving back of the run (s, m) of the record r, where the holes in a end before s
module _ (size : ℕ) (extents a b : List (ℕ × ℕ)) (out r s m : ℕ) (kept : IsKept size extents (a ++ b) out) (known : r < length extents) (extent : get_or extents r (0, 0) ≡ (s, m))
    (some : 0 < m) (before : All (λ hole. hole.0 + hole.1 < s) a) (after : FirstReaches s b) where
  pub returning-placed : IsPlaced size (s, m)
  returning-placed = let P : ℕ × ℕ → Type 0 = λ e. IsPlaced size e in subst P extent (kept.placed r)

  back-disjoint : AreDisjoint (set extents r (0, 0))
  back-disjoint = disjoint-set extents r (0, 0) kept.disjoint known (λ q i w ne. absurd (false≢true (sym (nothing_within i) ∙ w)))

  back-owner : (i : ℕ) → owner_of (set extents r (0, 0)) i ≡ cond (is_of r (owner_of extents i)) None (owner_of extents i)
  back-owner i = owner-set extents r (0, 0) i kept.disjoint back-disjoint known ∙ rw (nothing_within i, owner_of_test extents r i kept.disjoint) refl

  pub returning-cover : cover_of size (set extents r (0, 0)) ≡ given_back r (cover_of size extents)
  returning-cover = grind (arith, nat_tests, same_table, back-owner, given_back-table)

  test : (i : ℕ) → is_of r (owner_of extents i) ≡ within (s, m) i
  test i = owner_of_test extents r i kept.disjoint ∙ ap (λ e. within e i) extent

  pub returning-counted : bytes_out (cover_of size (set extents r (0, 0))) + m ≡ out
  returning-counted =
      let end : s + m ≤ size = returning-placed.end in
      let e : bytes_out (cover_of size extents) ≡ bytes_out (cover_of size (set extents r (0, 0))) + m =
      count_adds is_some (owner_of (set extents r (0, 0))) (owner_of extents) 0 size s m (omega arith) (omega arith)
      (λ i g h. elim (cases_Bool (within (s, m) i)) [
        | inl y ↦ rw y (is_some_from_test r (owner_of extents i) (test i ∙ y))
        | inr x ↦ rw (x, back-owner i, test i, x) refl
      ])
      (λ i g h. rw (back-owner i, test i, within-in s m i g h) refl) in
      sym e ∙ sym kept.counted

  taken : (i : ℕ) → s ≤ i → i < s + m → in_hole (a ++ b) i ≡ false
  taken i g h =
      let end : s + m ≤ size = returning-placed.end in
      kept.free i (omega arith) ∙ ap not (is_some_from_test r (owner_of extents i) (test i ∙ within-in s m i g h))

  back-free : (i : ℕ) → i < size → in_hole (a ++ join_run s m b) i ≡ is_none (owner_of (set extents r (0, 0)) i)
  back-free i l = grind (arith, nat_tests, in_hole-append, join_run-in_hole, or_swap, back-owner, test)

  pub returning-kept : IsKept size (set extents r (0, 0)) (a ++ join_run s m b) (out - m)
  returning-kept =
      let run = returning-placed in
      let end : s + m ≤ size = run.end in
      let count = returning-counted in
      record {
        apart = join_run-apart 0 a s m b (size + 1) kept.apart (omega arith) before after some (omega arith) taken;
        placed = placed-set size extents r (0, 0) known (record { start = refl; length = refl; end = (let e : 0 + 0 ≤ size = omega arith in e) }) kept.placed;
        disjoint = back-disjoint;
        free = back-free;
        counted = (let e : out - m ≡ bytes_out (cover_of size (set extents r (0, 0))) = omega arith in e);
      }
