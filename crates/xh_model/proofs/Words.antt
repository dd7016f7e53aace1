-- Laws of owner words and of record numbers.
use Rattle.std.proofs.Common.{◌≡◌, ℕ, ◌+◌, ◌*◌, ◌/◌, ◌%◌, ◌<◌, ◌≤◌, refl, sym, ap, ◌∙◌, subst, arith}
use Rattle.std.specs.Prelude.{Option, Some, None}
use Rattle.std.proofs.Math.Nat.{mod-lt, mul_comm, div-add-mod}
use Rattle.std.proofs.lemmas.Nat.{div-mul-add, mod-mul-add}
use Rattle.xh_model.specs.declared.event.Holder.{Holder}
use Rattle.xh_model.specs.declared.event.Holder.TheVariants.{Process, Direction}
use Rattle.xh_model.specs.Slots.{index_of}
use Rattle.xh_model.specs.Words.{word_of, number_of}

-- no two holders have one word
pub word_injective : (h k : Option Holder) → word_of h ≡ word_of k → h ≡ k
word_injective None None e = refl
word_injective None (Some (Process p)) e = absurd (omega arith)
word_injective None (Some (Direction p)) e = absurd (omega arith)
word_injective (Some (Process p)) None e = absurd (omega arith)
word_injective (Some (Process p)) (Some (Process q)) e = let same : p ≡ q = omega arith in ap (λ (x : ℕ). Some (Process x)) same
word_injective (Some (Process p)) (Some (Direction q)) e = absurd (omega arith)
word_injective (Some (Direction p)) None e = absurd (omega arith)
word_injective (Some (Direction p)) (Some (Process q)) e = absurd (omega arith)
word_injective (Some (Direction p)) (Some (Direction q)) e = let same : p ≡ q = omega arith in ap (λ (x : ℕ). Some (Direction x)) same

-- the arena and the place in it, of a record's number
pub arena_of_number : (n k : ℕ) → k % n < 256 → number_of n k / 256 ≡ k / n
arena_of_number n k h = let a : ℕ = k / n in let b : ℕ = k % n in let small : b < 256 = h in let e : (a * 256 + b) / 256 ≡ a = omega arith in e

pub place_of_number : (n k : ℕ) → k % n < 256 → number_of n k % 256 ≡ k % n
place_of_number n k h = let a : ℕ = k / n in let b : ℕ = k % n in let small : b < 256 = h in let e : (a * 256 + b) % 256 ≡ b = omega arith in e

-- a record's index and its number lead to each other
pub index_of_number : (n k : ℕ) → k % n < 256 → index_of n (number_of n k) ≡ k / n * n + k % n
index_of_number n k h = (λ i. arena_of_number n k h i * n + place_of_number n k h i)

pub index_back : (n k : ℕ) → 0 < n → n ≤ 256 → index_of n (number_of n k) ≡ k
index_back n k some most = let l : k % n < n = mod-lt k some in let small : k % n < 256 = omega arith in
    index_of_number n k small ∙ ap (λ (z : ℕ). z + k % n) (mul_comm (k / n) n) ∙ div-add-mod k n

pub number_back : (n r : ℕ) → r % 256 < n → number_of n (index_of n r) ≡ r
number_back n r h =
    let q : index_of n r / n ≡ r / 256 = div-mul-add (r / 256) n (r % 256) h in
    let m : index_of n r % n ≡ r % 256 = mod-mul-add (r / 256) n (r % 256) h in
    let e : (r / 256) * 256 + r % 256 ≡ r = omega arith in
    (λ i. q i * 256 + m i) ∙ e

-- a record's index is within the table, and the other way round
pub number_inside : (n k : ℕ) → 0 < n → n ≤ 256 → number_of n k % 256 < n
number_inside n k some most = let l : k % n < n = mod-lt k some in let small : k % n < 256 = omega arith in subst (λ (z : ℕ). z < n) (sym (place_of_number n k small)) l
