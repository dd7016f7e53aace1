-- The vaults take in the accounts.
use Rattle.xh_books.proofs.Common.{All, All-cons, All-head, All-nil, All-tail, AreGathered, IsOpen, List, Move, PartsOf, TallyOf, VaultOf, [], ap, append_assoc, arena_line, arith, common_steps, drop}
use Rattle.xh_books.proofs.Common.{get_or, get_or-map, ids_of, length, length-map, lengths_of, move_at, refl, set, suc, sum_by, sum_by-cons, sym, take, vault_names, with_all, with_moves, ℕ, ◌+◌}
use Rattle.xh_books.proofs.Common.{◌++◌, ◌<◌, ◌∙◌, ◌∷◌, ◌≡◌}
use Rattle.std.proofs.{Common.add-one, lemmas.List.drop-set-lt, lemmas.List.drop_more, lemmas.List.take_more_set}

pub as_many : (ts : List TallyOf) (vs : List VaultOf) → ids_of ts ≡ vault_names vs → length ts ≡ length vs
as_many ts vs e = sym (length-map ts (λ (x : TallyOf). x.id)) ∙ ap length e ∙ length-map vs (λ (x : VaultOf). x.id)

-- a worker's next tally is that of the next vault, and what the worker moved there
pub next_tally : (ts rest : List TallyOf) (vs : List VaultOf) (a : ℕ) (t : TallyOf) (d : VaultOf) → ids_of ts ≡ vault_names vs → drop a ts ≡ t ∷ rest → a < length vs
    → (t.id ≡ (get_or vs a d).id) × (rest ≡ drop (a + 1) ts) × (record { number = t.number; taken = t.taken; back = t.back } ≡ move_at a ts)
next_tally ts rest vs a t d same first inside =
    let given : a < length ts = omega (arith, inside, as_many ts vs same) in let next = drop_more ts a t given in
    let number = get_or-map (λ (x : TallyOf). x.number) ts a t 0 given in let taken = get_or-map (λ (x : TallyOf). x.taken) ts a t 0 given in
    let back = get_or-map (λ (x : TallyOf). x.back) ts a t 0 given in let mine = get_or-map (λ (x : TallyOf). x.id) ts a t d.id given in
    let its = get_or-map (λ (x : VaultOf). x.id) vs a d d.id inside in let is : t ≡ get_or ts a t = cc in (cc, cc, cc)

-- one vault more took in the tallies of these workers
pub one_more : (all : List (List TallyOf)) (vs : List VaultOf) (a : ℕ) (d w : VaultOf) → a < length vs → w ≡ record (get_or vs a d) { collected = with_moves a all (get_or vs a d).collected }
    → take (a + 1) (set vs a w) ++ with_all (a + 1) all (drop (a + 1) (set vs a w)) ≡ take a vs ++ with_all a all (drop a vs)
one_more all vs a d w below is =
    let first = take_more_set vs a w below in let rest = drop-set-lt (a + 1) vs a w (omega arith) in let next = drop_more vs a d below in
    rw (first, rest, append_assoc, next, add-one, is) refl

-- one worker's tallies, and then those of others
pub all_more : (a : ℕ) (ts : List TallyOf) (all : List (List TallyOf)) (vs : List VaultOf) → with_all a all (with_all a (ts ∷ []) vs) ≡ with_all a (ts ∷ all) vs
all_more a ts all [] = refl
all_more a ts all (v ∷ vs) = ap (λ ws. record v { collected = with_moves a (ts ∷ all) v.collected } ∷ ws) (all_more (suc a) ts all vs)

pub none_more : (a : ℕ) (vs : List VaultOf) → with_all a [] vs ≡ vs
none_more a [] = refl
none_more a (v ∷ vs) = ap (λ ws. v ∷ ws) (none_more (suc a) vs)

pub same_names : (a : ℕ) (all : List (List TallyOf)) (vs : List VaultOf) → vault_names (with_all a all vs) ≡ vault_names vs
same_names a all [] = refl
same_names a all (v ∷ vs) = ap (λ names. v.id ∷ names) (same_names (suc a) all vs)

-- what was moved in one way
sums : (way : Move → ℕ) (a : ℕ) (all : List (List TallyOf)) (ms : List Move) → sum_by way (with_moves a all ms) ≡ sum_by way ms + sum_by (λ ts. way (move_at a ts)) all
sums way a [] ms = grind (arith, common_steps)
sums way a (ts ∷ all) ms = grind (arith, sums way a all (move_at a ts ∷ ms), sum_by-cons way (move_at a ts) ms, sum_by-cons (λ us. way (move_at a us)) ts all)

as_many_moves : (a : ℕ) (all : List (List TallyOf)) (ms : List Move) → length (with_moves a all ms) ≡ length ms + length all
as_many_moves a [] ms = omega arith
as_many_moves a (ts ∷ all) ms = omega (arith, as_many_moves a all (move_at a ts ∷ ms))

pub gathered : (p : PartsOf) (all : List (List TallyOf)) (a : ℕ) (vs : List VaultOf) → length all ≡ p.workers → All (IsOpen p) vs → AreGathered p.records.shape.records all a vs (with_all a all vs)
gathered p all a [] count fresh =
    record {
      names = refl;
      lengths = refl;
      records_are = All-nil (λ (w : VaultOf). w.arena.records ≡ p.records.shape.records);
      full = All-nil (λ (w : VaultOf). length w.collected ≡ w.workers);
      lines = refl;
    }
gathered p all a (v ∷ vs) count fresh =
    let rest = gathered p all (suc a) vs count (All-tail (IsOpen p) v vs fresh) in let is = All-head (IsOpen p) v vs fresh in let none = is.1 in
    let sum : (way : Move → ℕ) → sum_by way (with_moves a all v.collected) ≡ sum_by (λ ts. way (move_at a ts)) all = λ way. omega (arith, sums way a all v.collected, ap (sum_by way) none) in record {
      names = ap (λ names. v.id ∷ names) rest.names;
      lengths = ap (λ ns. lengths_of v.arena ++ ns) rest.lengths;
      records_are = All-cons (λ (w : VaultOf). w.arena.records ≡ p.records.shape.records) (record v { collected = with_moves a all v.collected }) (with_all (suc a) all vs) is.3 rest.records_are;
      full = All-cons (λ (w : VaultOf). length w.collected ≡ w.workers) (record v { collected = with_moves a all v.collected }) (with_all (suc a) all vs)
          (omega (arith, as_many_moves a all v.collected, ap length none, is.0, count)) rest.full;
      lines = λ i. record (arena_line v.arena) { taken = sum (λ m. m.taken) i; back = sum (λ m. m.back) i } ∷ rest.lines i;
    }
