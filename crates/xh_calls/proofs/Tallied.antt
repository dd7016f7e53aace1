-- The tally of an arena among a worker's.
use Rattle.std.proofs.Common.{set}
use Rattle.std.proofs.lemmas.Grind.{common_steps}
use Rattle.std.proofs.lemmas.List.{set-get_or}
use Rattle.std.proofs.lemmas.Option.{gets}
use Rattle.xh_arena.specs.declared.refused.Refused.{Refused as ArenaRefused}
use Rattle.xh_place.specs.Vaults.{ByTally}
use Rattle.xh_place.specs.Tallies.{took}
use Rattle.xh_calls.proofs.Common.{◌≡◌, ℕ, zero, suc, ◌+◌, ◌<◌, List, [], ◌∷◌, length, get_or, sym, ap}
use Rattle.xh_calls.proofs.Common.{◌∙◌, subst, arith, Some, slice_get, refl, TableId, TallyOf, ids_of, gave, Result, Ok, Err, MatchResult}

ids_long : (ts : List TallyOf) → length (ids_of ts) ≡ length ts
ids_long [] = refl
ids_long (t ∷ ts) = ap (λ (n : ℕ). suc n) (ids_long ts)

-- the tally of an arena, where they are of these arenas
pub tallied : (ts : List TallyOf) {names : List TableId} (i : ℕ) {arena : ℕ} → ids_of ts ≡ names → i ≡ arena → arena < length names → i < length ts
tallied ts {names} i {arena} same is h = subst (λ (n : ℕ). n < length ts) (sym is) (subst (λ (n : ℕ). arena < n) (ap length (sym same) ∙ ids_long ts) h)

-- one of them became another
set_as : (ts : List TallyOf) (a n : ℕ) (d : TallyOf) → a < length ts → (set ts a (record (get_or ts a d) { taken = (get_or ts a d).taken + n }) ≡ took a n ts)
    × (set ts a (record (get_or ts a d) { back = (get_or ts a d).back + n }) ≡ gave a n ts) × ((u : TallyOf) → u.id ≡ (get_or ts a d).id → ids_of (set ts a u) ≡ ids_of ts)
set_as [] a n d h = absurd (omega arith)
set_as (t ∷ ts) zero n d h = (refl, refl, λ u e. ap (λ (z : TableId). z ∷ ids_of ts) e)
set_as (t ∷ ts) (suc a) n d h =
    let is = set_as ts a n d (omega arith) in (ap (λ (l : List TallyOf). t ∷ l) is.0, ap (λ (l : List TallyOf). t ∷ l) is.1, λ u e. ap (λ (l : List TableId). t.id ∷ l) (is.2 u e))

at_tally : (ts : List TallyOf) (i : ℕ) (d : TallyOf) {id : TableId} → slice_get (ids_of ts) i ≡ Some id → (i < length ts) × ((get_or ts i d).id ≡ id)
at_tally [] i d h = absurd (cc)
at_tally (t ∷ ts) zero d h = (omega arith, (cc))
at_tally (t ∷ ts) (suc i) d h = let is = at_tally ts i d h in (omega (arith, is.0), is.1)

-- that of the arena a, which was t, became u
module _ (ts : List TallyOf) {names : List TableId} (i : ℕ) {a : ℕ} {id : TableId} (t u : TallyOf) (value : t ≡ get_or ts i t) (own : ids_of ts ≡ names) (is : i ≡ a)
    (at : slice_get names a ≡ Some id) where
  here : (i < length ts) × ((get_or ts i t).id ≡ id)
  here = at_tally ts i t ((λ k. slice_get (own k) (is k)) ∙ at)

  pub named : t.id ≡ id
  named = ap (λ (z : TallyOf). z.id) value ∙ here.1

  pub by_tally : (does : TallyOf → TallyOf → Type 0) → does t u → ByTally ts (set ts i u) a does
  by_tally does done =
      let inside = here.0 in (t, u, grind (arith, common_steps, gets, value, is), grind (arith, common_steps, gets, is), done)

  pub taken : (n : ℕ) → u ≡ record t { taken = t.taken + n } → (ids_of (set ts i u) ≡ names) × (set ts i u ≡ took a n ts)
  taken n e =
      let all = set_as ts i n t here.0 in let from = e ∙ ap (λ (z : TallyOf). record z { taken = z.taken + n }) value in
      (all.2 u (ap (λ (z : TallyOf). z.id) from) ∙ own, ap (set ts i) from ∙ all.0 ∙ (λ k. took (is k) n ts))

  pub given : (n : ℕ) → u ≡ record t { back = t.back + n } → (ids_of (set ts i u) ≡ names) × ((set ts i u ≡ gave a n ts) × (a < length ts))
  given n e =
      let all = set_as ts i n t here.0 in let from = e ∙ ap (λ (z : TallyOf). record z { back = z.back + n }) value in
      (all.2 u (ap (λ (z : TallyOf). z.id) from) ∙ own, (ap (set ts i) from ∙ all.1 ∙ (λ k. gave (is k) n ts), subst (λ (j : ℕ). j < length ts) is here.0))

  pub taken_or_not : (result : Result ℕ ArenaRefused) (n : ℕ) (P : ℕ → Type 0) (Q : ArenaRefused → Type 0) → ((at : ℕ) → P at → u ≡ record t { taken = t.taken + n }) → ((e : ArenaRefused) → Q e → u ≡ t)
      → MatchResult result P (λ _. Unit {0}) → MatchResult result (λ _. Unit {0}) Q → (ids_of (set ts i u) ≡ names) × MatchResult result (λ _. set ts i u ≡ took a n ts) (λ _. set ts i u ≡ ts)
  taken_or_not (Ok at) n P Q more same done refused = taken n (more at done)
  taken_or_not (Err e) n P Q more same done refused = let still = ap (set ts i) (same e refused ∙ value) ∙ set-get_or ts i t in (ap ids_of still ∙ own, still)
