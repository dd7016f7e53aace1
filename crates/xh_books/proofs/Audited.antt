-- The lengths of the lots are those of the vaults.
use Rattle.xh_books.proofs.Common.{All, All-take, Body, List, LotOf, Some, VaultOf, [], all_lengths, ap, arith, div-add-mod, get_or, get_or-flat_map, get_or_from_slice_get, length}
use Rattle.xh_books.proofs.Common.{length-append, length-lengths, length-map, length-take-le, length_at, length_of, lengths_of, lens_of, map, mod-lt, mul_comm, refl, same_lists, slice_get, suc}
use Rattle.xh_books.proofs.Common.{suc-mul, sym, take, zero, ℕ, ◌%◌, ◌*◌, ◌+◌, ◌/◌, ◌<◌, ◌∙◌, ◌∷◌, ◌≡◌}

abbrev Each : ℕ → List VaultOf → Type 0
Each n vs = All (λ v. v.arena.records ≡ n) vs

long : (xs : List VaultOf) (n : ℕ) → Each n xs → length (all_lengths xs) ≡ length xs * n
long [] n each = omega arith
long (x ∷ xs) n each =
    grind (arith, each 0 x (omega arith), long xs n (λ k y h. each (suc k) y (omega arith)), length-append (lengths_of x.arena) (all_lengths xs), length-lengths x.arena, suc-mul (length xs) n)

-- the length of the record at an index
pub at_index : (xs : List VaultOf) (n k e : ℕ) (d : VaultOf) → 0 < n → Each n xs → k / n < length xs → get_or (all_lengths xs) k e ≡ length_of (k % n) (get_or xs (k / n) d).arena.cover
at_index xs n k e d some each lt =
    let a : ℕ = k / n in let i : ℕ = k % n in let here = (get_or xs a d).arena in let count : here.records ≡ n = each a d lt in let inside : i < n = mod-lt k some in
    let before : length (all_lengths (take a xs)) ≡ a * n = long (take a xs) n (All-take (λ (x : VaultOf). x.arena.records ≡ n) a xs each) ∙ ap (λ z. z * n) (length-take-le a xs (omega arith)) in
    let at : k ≡ length (all_lengths (take a xs)) + i = sym (ap (λ z. z + i) (before ∙ mul_comm a n) ∙ div-add-mod k n) in
    ap (λ z. get_or (all_lengths xs) z e) at ∙ get_or-flat_map (λ (x : VaultOf). lengths_of x.arena) xs a i d e lt (omega (arith, length-lengths here, count, inside))
    ∙ get_or_from_slice_get (lengths_of here) i (length_of i here.cover) e (length_at here i (omega (arith, inside, count)))

pub at_map : {A B : Type 0} (f : A → B) (xs : List A) (k : ℕ) (y : B) → slice_get (map f xs) k ≡ Some y → (x : A) × (slice_get xs k ≡ Some x) × (f x ≡ y)
at_map f [] k y e = absurd (cc)
at_map f (x ∷ xs) zero y e = (x, refl, cc)
at_map f (x ∷ xs) (suc k) y e = at_map f xs k y e

-- once each was audited
pub audited : (xs : List VaultOf) (ls : List (LotOf Body)) (n : ℕ) → Each n xs → length ls ≡ length xs * n
    → ((k d : ℕ) → k < length ls → get_or (lens_of ls) k d ≡ get_or (all_lengths xs) k d) → lens_of ls ≡ all_lengths xs
audited xs ls n each count known =
    let long_ = length-map ls (λ (l : LotOf Body). l.len) in
    same_lists (lens_of ls) (all_lengths xs) (long_ ∙ count ∙ sym (long xs n each)) (λ k d below. known k d (omega (arith, below, long_)))
