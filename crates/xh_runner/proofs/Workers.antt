-- Lemmas on workers that are hired, and that leave, and on their takes.
use Rattle.std.proofs.Common.{◌≡◌, ◌++◌, ◌∙◌, IfErr, List, [], ◌∷◌, ap, append_assoc, false, length, map, refl, sym, true, ℕ}
use Rattle.std.specs.Prelude.{◌≢◌, Result, Ok, Err}
use Rattle.std.proofs.lemmas.List.{append-nil, map_push, nil_from_length}
use Rattle.xh_calls.specs.Leading.{Leading}
use Rattle.xh_calls.specs.Parts.{PartsOf}
use Rattle.xh_core.specs.declared.refused.Refused.{Refused}
use Rattle.xh_core.specs.declared.refused.Refused.TheVariants.{Empty}
use Rattle.xh_kernel.specs.Accounts.{AccountOf}
use Rattle.xh_kernel.specs.Did.{DidTake}
use Rattle.xh_kernel.specs.Waits.{AtLast}
use Rattle.xh_place.specs.declared.got.Taken.{Taken}
use Rattle.xh_runner.specs.Workers.{Asked, gotten_answer}
use Rattle.xh_session.specs.declared.machine.Received.{Received}
use Rattle.xh_session.specs.Questions.{Take}

-- one more worker has what was first of the rest
pub hired_more : {X Y : Type 0} (f : X → Y) (xs more : List X) (x : X) (rest later all : List Y) → more ≡ xs ++ x ∷ [] → rest ≡ f x ∷ later → map f xs ++ rest ≡ all → map f more ++ later ≡ all
hired_more f xs more x rest later all e r h =
    ap (λ l. map f l ++ later) e ∙ ap (λ l. l ++ later) (map_push f xs x) ∙ append_assoc (map f xs) (f x ∷ []) later ∙ ap (λ l. map f xs ++ l) (sym r) ∙ h

-- nobody is left
pub none_left : {Y : Type 0} (ys rest all : List Y) → length rest ≡ 0 → ys ++ rest ≡ all → ys ≡ all
none_left ys rest all none h = sym (append-nil ys) ∙ ap (λ l. ys ++ l) (sym (nil_from_length rest none)) ∙ h

pub map_twice : {X Y Z : Type 0} (f : Y → Z) (g : X → Y) (xs : List X) → map f (map g xs) ≡ map (λ x. f (g x)) xs
map_twice f g [] = refl
map_twice f g (x ∷ xs) = ap (λ l. f (g x) ∷ l) (map_twice f g xs)

-- ---- a take

not_empty : (t : Result Taken Refused) → IfErr t (λ why. why ≢ Empty) → gotten_answer t ≢ Err Empty
not_empty (Ok message) waits is = absurd (cc)
not_empty (Err why) waits is = waits (cc)

pub took : (parts : PartsOf) (leads : Leading) (p e : ℕ) (t : Result Taken Refused) (a : Result Received Refused) (old new : AccountOf) → a ≡ gotten_answer t
    → DidTake leads p e t old new → Asked parts leads (Take p e false) a old new
took parts leads p e t a old new is did = (t, is, did)

pub waited : (parts : PartsOf) (leads : Leading) (p e : ℕ) (t : Result Taken Refused) (a : Result Received Refused) (old new : AccountOf) → a ≡ gotten_answer t
    → IfErr t (λ why. why ≢ Empty) → AtLast (DidTake leads p e) (Err Empty) t old new
    → Asked parts leads (Take p e true) a old new
waited parts leads p e t a old new is waits did = (t, is, (λ empty. not_empty t waits (sym is ∙ empty)), did)
