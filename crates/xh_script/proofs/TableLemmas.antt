-- The test of a table tells what a contract is.
use Rattle.xh_script.proofs.Common.{AllPass-from_list_all, Bool, List, Row, [], and_from, and_parts, arith, cases_Bool, false, get_or, inl, inr, length, list_all, nat_tests, refl, suc, true, zero}
use Rattle.xh_script.proofs.Common.{ℕ, ◌<◌, ◌∷◌, ◌≡◌, ◌≢◌}
use Rattle.xh_model.specs.Rows.{Agree, IsInRange, IsRow, IsValid, no_row, row_at}
use Rattle.xh_core.specs.Tables.{IsNoContract}
use Rattle.xh_core.specs.declared.refused.Refused.{Refused}
use Rattle.xh_script.specs.Tables.{agree, all_agree, is_row, is_table}

agree_true : (a b : Row) → Agree a b → agree a b ≡ true
agree_true a b h =
    let side : a.state ≡ b.state → a.side ≡ b.side = λ e. (h e).0 in let tag : a.state ≡ b.state → a.tag ≢ b.tag = λ e. (h e).1 in grind (arith, nat_tests)

true_agree : (a b : Row) → agree a b ≡ true → Agree a b
true_agree a b h e = (grind (arith, nat_tests), grind (arith, nat_tests))

all_of : {A : Type 0} (p : A → Bool) (xs : List A) (d : A) → ((i : ℕ) → i < length xs → p (get_or xs i d) ≡ true) → list_all p xs ≡ true
all_of p [] d h = refl
all_of p (x ∷ xs) d h = and_from _ _ (h 0 (omega arith)) (all_of p xs d (λ i below. h (suc i) (omega arith)))

agree_all : (rows : List Row) → IsValid rows → all_agree rows ≡ true
agree_all [] h = refl
agree_all (row ∷ rows) h = and_from _ _
    (all_of (agree row) rows no_row (λ i below. agree_true row (row_at rows i) (h 0 (suc i) (omega arith) (omega arith))))
    (agree_all rows (λ i j first second. h (suc i) (suc j) (omega arith) (omega arith)))

all_agree_valid : (rows : List Row) → all_agree rows ≡ true → IsValid rows
all_agree_valid [] h i j first second = absurd (omega arith)
all_agree_valid (row ∷ rows) h i zero first second = absurd (omega arith)
all_agree_valid (row ∷ rows) h zero (suc j) first second =
    true_agree row (row_at rows j) (AllPass-from_list_all (agree row) rows (and_parts _ _ h).0 j no_row (omega arith))
all_agree_valid (row ∷ rows) h (suc i) (suc j) first second =
    all_agree_valid rows (and_parts _ _ h).1 i j (omega arith) (omega arith)

row_true : (row : Row) → IsRow row → is_row row ≡ true
row_true row h = grind (arith, nat_tests, h.0, h.1, h.2)

true_row : (row : Row) → is_row row ≡ true → IsRow row
true_row row h = (grind (arith, nat_tests), grind (arith, nat_tests), grind (arith, nat_tests))

pub table_true : (rows : List Row) → IsInRange rows → IsValid rows → is_table rows ≡ true
unfolding is_table
table_true rows range valid =
    grind (arith, nat_tests, range.0, range.1, all_of is_row rows no_row (λ i below. row_true (row_at rows i) (range.2 i below)), agree_all rows valid)

table_range : (rows : List Row) → is_table rows ≡ true → IsInRange rows
unfolding is_table
table_range rows h =
    let all : list_all is_row rows ≡ true = grind (arith, nat_tests, h) in
    (grind (arith, nat_tests, h), grind (arith, nat_tests, h), λ i below. true_row (row_at rows i) (AllPass-from_list_all is_row rows all i no_row below))

table_valid : (rows : List Row) → is_table rows ≡ true → IsValid rows
unfolding is_table
table_valid rows h = all_agree_valid rows (and_parts _ _ h).1

-- a table that is no contract, for either reason
no_table : (rows : List Row) (e : Refused) → IsNoContract rows e → is_table rows ≡ true → ⊥
no_table rows e bad h = grind (arith, table_range rows h, table_valid rows h)

pub table_false : (rows : List Row) (e : Refused) → IsNoContract rows e → is_table rows ≡ false
table_false rows e bad = elim (cases_Bool (is_table rows)) [ inl y ↦ absurd (no_table rows e bad y) | inr n ↦ n ]
