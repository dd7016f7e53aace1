-- Lemmas on what names for blocks stand for.
use Rattle.xh_serial.specs.MessageCommands.{without_records}
use Rattle.xh_session.proofs.Common.{BlockNames, List, Option, Word, ap, bound_each, drop, length, refl, ℕ, ◌≡◌, ◌≤◌}
use Rattle.std.proofs.Common.{[], arith, min, suc, zero, ◌∷◌}
use Rattle.std.proofs.Math.Seq.{drop-nil}
use Rattle.xh_core.specs.declared.block.Block.{Block}

bound_each-none : (b : BlockNames) (p : ℕ) (xs : List (Word)) → bound_each b p xs [] ≡ b
bound_each-none b p [] = refl
bound_each-none b p (x ∷ xs) = refl

-- past the last name, or the last block, nothing is bound
pub bound_each_end : (b : BlockNames) (p : ℕ) (xs : List (Word)) (ys : List (Option Block)) (i : ℕ) → min (length xs) (length ys) ≤ i
    → bound_each b p (drop i xs) (drop i ys) ≡ b
bound_each_end b p [] ys i h = rw (drop-nil {A = Word} i) refl
bound_each_end b p (x ∷ xs) [] i h = rw (drop-nil {A = Option Block} i) (bound_each-none b p (drop i (x ∷ xs)))
bound_each_end b p (x ∷ xs) (y ∷ ys) zero h = absurd (omega arith)
bound_each_end b p (x ∷ xs) (y ∷ ys) (suc i) h = bound_each_end b p xs ys i (omega arith)

-- of what did not come back, nothing is left out
pub without_none : (records : List ℕ) → without_records [] records ≡ records
without_none [] = refl
without_none (r ∷ records) = ap (λ rs. r ∷ rs) (without_none records)
