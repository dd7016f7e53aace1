-- What came back of the tallies that an account lent.
use Rattle.xh_kernel.proofs.Common.{HasGivenBack, List, Ok, Err, MatchResult, IfErr, OnOk, PlaceSeen, Refused, Result, TallyOf, FrontOf, VaultOf, PartsOf}
use Rattle.xh_kernel.proofs.Common.{[], ap, arith, length, subst, ℕ, ◌+◌, ◌-◌, ◌<◌, ◌∷◌, ◌≡◌}
use Rattle.atomic_table.specs.Seated.{TableId}
use Rattle.std.specs.Result.{result_map_both}
use Rattle.xh_calls.specs.Vaults.{AsksVault, Entered}
use Rattle.xh_core.specs.declared.status.Status.{Status}
use Rattle.xh_calls.proofs.Tallied.{tallied}
use Rattle.xh_place.specs.Calls.{GivesUp}
use Rattle.xh_place.specs.Tallies.{gave, ids_of, took}
use Rattle.std.proofs.Common.{refl}

-- the bytes that a worker has given back, of all arenas
abbrev pub back_of : List TallyOf → ℕ
back_of [] = 0
back_of (t ∷ ts) = t.back + back_of ts

back_sum : (n : ℕ) (old new : List TallyOf) → HasGivenBack n old new → back_of new ≡ back_of old + n
back_sum n [] [] h = omega (arith, h)
back_sum n [] (u ∷ new) h = absurd h
back_sum n (t ∷ old) [] h = absurd h
back_sum n (t ∷ old) (u ∷ new) h =
    let all : n ≡ h.0 + h.1 = h.2 in let here : u.back ≡ t.back + h.0 = ap (λ (x : TallyOf). x.back) h.3 in let rest : back_of new ≡ back_of old + h.1 = back_sum h.1 old new h.4 in
    omega (arith, all, here, rest)

-- what a call did with the bytes that came back, it did with those that the tallies have more than before
pub came_back : {old before : List TallyOf} {P Q : ℕ → Type 0} (new : List TallyOf) → before ≡ old → (bytes : ℕ) × P bytes × (HasGivenBack bytes old new × Q bytes)
    → P (back_of new - back_of before) × (HasGivenBack (back_of new - back_of before) old new × Q (back_of new - back_of before))
came_back {old} {before} {P} {Q} new was d =
    let sum : back_of new ≡ back_of old + d.0 = back_sum d.0 old new d.2.0 in let same : back_of before ≡ back_of old = ap back_of was in
    let more : d.0 ≡ back_of new - back_of before = omega (arith, sum, same) in
    subst (λ n. P n × (HasGivenBack n old new × Q n)) more (d.1, d.2)

-- bytes of the arena were taken, so many by the answer, or none
pub taken : {A : Type 0} (old new : List TallyOf) (begun seen : FrontOf VaultOf) (result : Result A Refused) (size : A → ℕ) (parts : PartsOf) (arena n : ℕ) (arenas : List ℕ)
    → MatchResult result (λ a. new ≡ took arena (size a) old) (λ _. new ≡ old) → OnOk result (Entered arenas begun seen) → IfErr result (AsksVault parts arena n begun seen)
    → MatchResult result (λ a. (new ≡ took arena (size a) old) × Entered arenas begun seen) (λ why. (new ≡ old) × AsksVault parts arena n begun seen why)
taken old new begun seen (Ok a) size parts arena n arenas moved asked why = (moved, asked)
taken old new begun seen (Err e) size parts arena n arenas moved asked why = (moved, why)

-- the bytes of a block came back, so many by the answer, whose record is of an arena of these names, which was asked; or nothing did, and none was
pub given : {A : Type 0} (old new : List TallyOf) (begun seen : FrontOf VaultOf) (result : Result A Refused) (size : A → ℕ) (arena : ℕ) (names : List TableId)
    → ids_of old ≡ names → OnOk result (arena < length names) → MatchResult result (λ a. new ≡ gave arena (size a) old) (λ _. new ≡ old)
    → MatchResult result (λ _. Entered (arena ∷ []) begun seen) (λ _. seen ≡ begun)
    → MatchResult result (λ a. (new ≡ gave arena (size a) old) × (arena < length old) × Entered (arena ∷ []) begun seen) (λ _. (new ≡ old) × (seen ≡ begun))
given old new begun seen (Ok a) size arena names same there moved asked = (moved, tallied old arena same refl there, asked)
given old new begun seen (Err e) size arena names same there moved asked = (moved, asked)

-- the same by what the answer is to the histories
pub mapped : {A B : Type 0} (result : Result A Refused) (f : A → B) (P : B → Type 0) (Q : Refused → Type 0) → MatchResult result (λ a. P (f a)) Q → MatchResult (result_map_both f (λ e. e) result) P Q
mapped (Ok a) f P Q h = h
mapped (Err e) f P Q h = h

pub gives_up : {A B : Type 0} {status : Status} {r : ℕ} {old new : PlaceSeen} (result : Result A Refused) (f : A → B) (tells : B → Type 0) → GivesUp (λ a. tells (f a)) status r old new result
    → GivesUp tells status r old new (result_map_both f (λ e. e) result)
gives_up (Ok a) f tells h = record { freed = h.freed; refused = h.refused }
gives_up (Err e) f tells h = record { freed = h.freed; refused = h.refused }
