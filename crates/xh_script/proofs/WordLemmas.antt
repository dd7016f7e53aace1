-- Lemmas on the words of a line.
use Rattle.xh_script.proofs.Common.{Bor, List, [], arith, drop, drop-cons, get_or, hex_bytes, hex_value, length, refl, suc, ℕ, ◌*◌, ◌+◌, ◌<◌, ◌∷◌, ◌≡◌, ◌≤◌}

-- what is read beyond the last word
abbrev pub no_word : Bor (List ℕ)
no_word = record { ref_ptr = (0, 0); now = [] }

-- the bytes from the i-th digit on
pub hex_at : (word : List ℕ) (i j k : ℕ) → j ≡ i + 1 → k ≡ i + 2 → j < length word
    → hex_bytes (drop i word) ≡ (16 * hex_value (get_or word i 0) + hex_value (get_or word j 0)) ∷ hex_bytes (drop k word)
hex_at word i j k e f below =
    let first : i < length word = omega arith in
    let second : suc i < length word = omega arith in
    let next : suc i ≡ j = omega arith in
    let last : suc (suc i) ≡ k = omega arith in
    rw (drop-cons word i 0 first, drop-cons word (suc i) 0 second, next, ← next, last) refl

-- a last digit alone says nothing
pub hex_none : (word : List ℕ) → length word ≤ 1 → hex_bytes word ≡ []
hex_none [] h = refl
hex_none (a ∷ []) h = refl
hex_none (a ∷ b ∷ more) h = absurd (omega arith)
