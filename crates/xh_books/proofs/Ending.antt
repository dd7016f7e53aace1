-- The places' seats and lines, one place after the other.
use Rattle.xh_books.proofs.Common.{Among, Body, List, Lists, LotOf, None, Option, PlaceLine, PlaceSeen, Some, Status, [], ap, append_assoc, common_steps, arith, cons_option, inl, is_over, keys, length}
use Rattle.xh_books.proofs.Common.{line_in, place_line, refl, subst, sum_by, total_of, true, value_at, ℕ, ◌++◌, ◌+◌, ◌∙◌, ◌∷◌, ◌≡◌, ◌≤◌}
use Rattle.std.proofs.Common.{append-nil}
use Rattle.xh_place.specs.Places.{lens}

-- a seat that holds nothing is that of a place without blocks
no_list : (lots : List (ℕ × LotOf Body)) (rs : List ℕ) → Lists lots rs → lots ≡ [] → rs ≡ []
no_list lots [] lists e = refl
no_list lots (r ∷ rs) lists e = absurd (subst (λ (ls : List (ℕ × LotOf Body)). Among (keys ls) r) e (lists.held r (inl refl)))

without_blocks : (s : Status) (p : PlaceSeen) → (is_over s ≡ true → total_of p ≡ 0) → sum_by (λ l. l.bytes) (cons_option (line_in s (place_line p)) []) ≡ total_of p
without_blocks s p none = grind (arith, common_steps, none)

-- the line of a place has its bytes, and a place without a line has none
pub line_bytes : (p : PlaceSeen) (o : Option PlaceLine) → Lists p.seat.lots p.list → (is_over p.state ≡ true → p.seat.lots ≡ []) → o ≡ line_in p.state (place_line p)
    → sum_by (λ l. l.bytes) (cons_option o []) ≡ total_of p
line_bytes p o lists none is = ap (λ z. sum_by (λ l. l.bytes) (cons_option z [])) is
    ∙ without_blocks p.state p (λ over. ap (λ (rs : List ℕ). lens rs (λ r. value_at r p.seat.lots)) (no_list p.seat.lots p.list lists (none over)))

pub next_line : (lines rest : List PlaceLine) (o : Option PlaceLine) → (lines ++ cons_option o []) ++ rest ≡ lines ++ cons_option o rest
next_line lines rest None = ap (λ ls. ls ++ rest) (append-nil lines)
next_line lines rest (Some l) = append_assoc lines (l ∷ []) rest

pub one_more : (lines lines' : List PlaceLine) (o : Option PlaceLine) → lines' ≡ lines ++ cons_option o [] → length lines' ≤ length lines + 1
one_more lines lines' o e = grind (arith, common_steps, e)
