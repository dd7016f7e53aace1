-- The lengths of the records where one arena is another.
use Rattle.xh_core.proofs.Common.{ArenaState, SameRun, Store, ap, arena_at, arena_of, arith, cases_eq, get_or-set_other, get_or-set_same, inl, inr, len, length, length_of, no_arena, refl, sym}
use Rattle.xh_core.proofs.Common.{with_arena, ℕ, ◌%◌, ◌/◌, ◌<◌, ◌∙◌, ◌≡◌, ◌≢◌}

pub same_number : (q r : ℕ) → q / 256 ≡ r / 256 → q % 256 ≡ r % 256 → q ≡ r
same_number q r a b = omega arith

-- a record of the arena that is put in
pub len_here : (s : Store) (k q : ℕ) (a : ArenaState) → k < length s.arenas → q / 256 ≡ k → len (with_arena k a s) q ≡ length_of (q % 256) a.cover
len_here s k q a l e = rw (e, get_or-set_same s.arenas k a no_arena l) refl

-- a record of another arena
pub len_else : (s : Store) (k q : ℕ) (a : ArenaState) → q / 256 ≢ k → len (with_arena k a s) q ≡ len s q
len_else s k q a n = ap (λ (b : ArenaState). length_of (q % 256) b.cover) (get_or-set_other s.arenas k (q / 256) a no_arena n)

-- all records but r and t keep their lengths
pub len_but_two : (s : Store) (r t : ℕ) (a : ArenaState) → r / 256 < length s.arenas → r / 256 ≡ t / 256 → ((j : ℕ) → j ≢ r % 256 → j ≢ t % 256 → SameRun j (arena_of s r).cover a.cover) →
    (q : ℕ) → q ≢ r → q ≢ t → len (with_arena (r / 256) a s) q ≡ len s q
len_but_two s r t a l both others q n m = elim (cases_eq (q / 256) (r / 256)) [
  | inl e ↦ len_here s (r / 256) q a l e ∙ ((others (q % 256) (λ f. n (same_number q r e f)) (λ f. m (same_number q t (e ∙ both) f))).1 ∙ ap (λ k. length_of (q % 256) (arena_at s k).cover) (sym e))
  | inr d ↦ len_else s (r / 256) q a d
]

-- all records but r keep their lengths
pub len_but_one : (s : Store) (r : ℕ) (a : ArenaState) → r / 256 < length s.arenas → ((j : ℕ) → j ≢ r % 256 → SameRun j (arena_of s r).cover a.cover) →
    (q : ℕ) → q ≢ r → len (with_arena (r / 256) a s) q ≡ len s q
len_but_one s r a l others q n = len_but_two s r r a l refl (λ j x _. others j x) q n n
