-- The lengths of an arena's records as a list, and what a change of one or two records makes of it.
use Rattle.std.proofs.Common.{◌≡◌, ℕ, ◌<◌, cond, length, map, refl, sym, ap, ◌∙◌, Some, None, arith, zero-add, inl, inr, get_or-set_same, get_or-set_other}
use Rattle.std.specs.Prelude.{◌≢◌, ◌==◌, slice_set, slice_get, replicate, sum}
use Rattle.std.specs.List.{range_with_len, sum_by}
use Rattle.std.proofs.lemmas.Bool.Decides.{nat_tests}
use Rattle.std.proofs.lemmas.Bool.{cases_eq, eq-eqb, ne_eqb}
use Rattle.std.proofs.lemmas.List.Sums.{sum-map}
use Rattle.std.proofs.lemmas.List.FromFn.{length-map-range_with_len, get_or-map-range_with_len, fill_by_all}
use Rattle.std.proofs.lemmas.List.Folds.{sum_by-replicate}
use Rattle.std.proofs.lemmas.List.{length-set, length-replicate, get_or-replicate}
use Rattle.std.proofs.lemmas.Option.{slice_get_within, slice_get-get_or, same_Some}
use Rattle.xh_model.specs.Cover.{is_of, length_of}
use Rattle.xh_model.specs.Arena.{ArenaState, lengths_of}

-- a table of which entry r alone changes
table_set : (f g : ℕ → ℕ) (n r m : ℕ) → r < n → g r ≡ m → ((q : ℕ) → q ≢ r → g q ≡ f q) →
    map g (range_with_len 0 n) ≡ slice_set (map f (range_with_len 0 n)) r m
table_set f g n r m l e h =
    let old = map f (range_with_len 0 n) in
    let size : length old ≡ n = length-map-range_with_len f 0 n in
    sym (fill_by_all g (slice_set old r m) n 0 (length-set old r m ∙ size) (λ k below. elim (cases_eq k r) [
      | inl same ↦ rw (same, get_or-set_same old r m 0 (rw size l)) (sym e)
      | inr ne ↦ get_or-set_other old r k m 0 ne ∙ get_or-map-range_with_len f 0 n k k 0 below (zero-add k) ∙ sym (h k ne)
    ]))

-- one record has a new length
pub lengths_set : (old new : ArenaState) (r n : ℕ) → new.records ≡ old.records → r < old.records → length_of r new.cover ≡ n →
    ((q : ℕ) → q ≢ r → length_of q new.cover ≡ length_of q old.cover) → lengths_of new ≡ slice_set (lengths_of old) r n
unfolding lengths_of
lengths_set old new r n e l is others =
    ap (λ k. map (λ q. length_of q new.cover) (range_with_len 0 k)) e
    ∙ table_set (λ q. length_of q old.cover) (λ q. length_of q new.cover) old.records r n l is others

-- two records have new lengths
pub lengths_set_two : (old new : ArenaState) (r t k m : ℕ) → new.records ≡ old.records → r < old.records → t < old.records → t ≢ r →
    length_of r new.cover ≡ k → length_of t new.cover ≡ m →
    ((q : ℕ) → q ≢ r → q ≢ t → length_of q new.cover ≡ length_of q old.cover) → lengths_of new ≡ slice_set (slice_set (lengths_of old) r k) t m
unfolding lengths_of
lengths_set_two old new r t k m e l l' ne head tail others =
    let between : ℕ → ℕ = λ q. cond (q == r) k (length_of q old.cover) in
    let first : map between (range_with_len 0 old.records) ≡ slice_set (map (λ q. length_of q old.cover) (range_with_len 0 old.records)) r k =
    table_set (λ q. length_of q old.cover) between old.records r k l (rw (eq-eqb r r refl) refl) (λ q nq. rw (ne_eqb q r nq) refl) in
    let second : map (λ q. length_of q new.cover) (range_with_len 0 old.records) ≡ slice_set (map between (range_with_len 0 old.records)) t m =
    table_set between (λ q. length_of q new.cover) old.records t m l' tail (λ q nt. grind (arith, nat_tests, head, nt, others q)) in
    ap (λ j. map (λ q. length_of q new.cover) (range_with_len 0 j)) e ∙ (second ∙ ap (λ xs. slice_set xs t m) first)

pub length-lengths : (state : ArenaState) → length (lengths_of state) ≡ state.records
unfolding lengths_of
length-lengths state = length-map-range_with_len (λ q. length_of q state.cover) 0 state.records

-- what the list has at a record is its length
pub length_at : (state : ArenaState) (r : ℕ) → r < state.records → slice_get (lengths_of state) r ≡ Some (length_of r state.cover)
unfolding lengths_of
length_at state r l =
    slice_get-get_or (lengths_of state) r 0 (rw (length-lengths state) l)
    ∙ ap (λ n. Some n) (get_or-map-range_with_len (λ q. length_of q state.cover) 0 state.records r r 0 l (zero-add r))

pub length_is : (state : ArenaState) (r n : ℕ) → slice_get (lengths_of state) r ≡ Some n → (r < state.records) × (length_of r state.cover ≡ n)
length_is state r n e =
    let l : r < state.records = rw (length-lengths state) at (slice_get_within (lengths_of state) r n e) in
    (l, same_Some _ _ (sym (length_at state r l) ∙ e))

-- no entry of nothing but nothing is a record
pub none_of : (r n : ℕ) → length_of r (replicate n None) ≡ 0
none_of r n = omega (arith, sum_by-replicate (λ x. cond (is_of r x) 1 0) n None)

-- the records of a new arena are empty
pub lengths_new : (state : ArenaState) (size : ℕ) → state.cover ≡ replicate size None → lengths_of state ≡ replicate state.records 0
unfolding lengths_of
lengths_new state size e = sym (fill_by_all (λ q. length_of q state.cover) (replicate state.records 0) state.records 0 (length-replicate state.records 0)
    (λ k below. get_or-replicate state.records k 0 0 below ∙ sym (ap (λ cover. length_of k cover) e ∙ none_of k size)))

-- the lengths of all records, added up
pub sum-lengths : (state : ArenaState) → sum (lengths_of state) ≡ sum_by (λ r. length_of r state.cover) (range_with_len 0 state.records)
unfolding lengths_of
sum-lengths state = sum-map (λ r. length_of r state.cover) (range_with_len 0 state.records)
