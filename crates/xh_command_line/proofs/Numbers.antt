-- What a number's text says.
use Rattle.std.proofs.Common.{◌≡◌, ◌∙◌, ◌<◌, ◌^◌, ℕ, Bool, true, false, List, Option, Some, None, Result, Ok, ap, arith, sym, subst, refl, decimal, option_map}
use Rattle.std.proofs.lemmas.Fmt.{decimal_is_IsNumeral, parse-decimal}
use Rattle.std.specs.Borrow.{Bor}
use Rattle.std.specs.Bool.{then_some}
use Rattle.std.specs.Option.{MatchOption}
use Rattle.std.specs.Result.{result_ok}
use Rattle.std.specs.Str.Parse.{HasUnsignedDigitsIfOk, ParsesUnsigned, digits_value}
use Rattle.clap.proofs.WalkLemmas.{first_value-rows}
use Rattle.clap.specs.Words.{Row, Text, first_of, first_value, rows_of}
use Rattle.clap.specs.declared.parser.matches.Found.{Found}
use Rattle.xh_command_line.specs.Asked.{HasLimits}
use Rattle.xh_command_line.specs.inner.Args.{ReadsNumber}
use Rattle.xh_model.specs.declared.config.Config.{Config}
use Rattle.xh_script.specs.Config.{IsScriptConfig}

module _ {T E : Type 0} (gives : List ℕ → Result T E → Type 0) (written : T → List ℕ) where
  none_read : (t : Option (List ℕ)) (r : Option T) → r ≡ None → ((n : T) → t ≡ Some (written n) → ((x : Result T E) → gives (written n) x → x ≡ Ok n) → ⊥)
      → ReadsNumber gives written t r
  none_read t None e h = h
  none_read t (Some n) e h = cc

  module _ (f : Found) (id : Text) (s : Option (Bor (List ℕ))) (r : Option T) (is : option_map (λ s. s.now) s ≡ first_value f id) where
    -- there is no text
    pub no_text : s ≡ None → r ≡ None → ReadsNumber gives written (first_of id (rows_of f)) r
    no_text none e = none_read _ r e (λ n same h.
        let bad : None ≡ Some (written n) = ap (option_map (λ (s : Bor (List ℕ)). s.now)) (sym none) ∙ is ∙ first_value-rows f id ∙ same in
        cc)

    same_text : (t : Bor (List ℕ)) (n : T) → s ≡ Some t → first_of id (rows_of f) ≡ Some (written n) → t.now ≡ written n
    same_text t n some same =
        let both : Some t.now ≡ Some (written n) = ap (option_map (λ (s : Bor (List ℕ)). s.now)) (sym some) ∙ is ∙ first_value-rows f id ∙ same in
        cc

    -- the text is no number
    pub no_number : (t : Bor (List ℕ)) (x : Result T E) → s ≡ Some t → gives t.now x → result_ok x ≡ None → r ≡ None → ReadsNumber gives written (first_of id (rows_of f)) r
    no_number t x some given bad e = none_read _ r e (λ n same h.
        let ok : x ≡ Ok n = h x (subst (λ w. gives w x) (same_text t n some same) given) in
        let both : Some n ≡ None = ap result_ok (sym ok) ∙ bad in
        cc)

    -- it is one, written so or not
    pub a_number : (t : Bor (List ℕ)) (x : Result T E) (n : T) → s ≡ Some t → gives t.now x → result_ok x ≡ Some n → (b : Bool)
        → (b ≡ true → written n ≡ t.now) → (written n ≡ t.now → b ≡ true) → r ≡ then_some b n → ReadsNumber gives written (first_of id (rows_of f)) r
    a_number t x n some given ok true same so e = subst (λ r. ReadsNumber gives written (first_of id (rows_of f)) r) (sym e)
        (sym (first_value-rows f id) ∙ (sym is ∙ (ap (option_map (λ (s : Bor (List ℕ)). s.now)) some ∙ ap Some (sym (same refl)))))
    a_number t x n some given ok false same so e = none_read _ r e (λ m is_m h.
        let text = same_text t m some is_m in
        let read : x ≡ Ok m = h x (subst (λ w. gives w x) text given) in
        let both : Some m ≡ Some n = ap result_ok (sym read) ∙ ok in
        let one : m ≡ n = cc in
        let bad : false ≡ true = so (ap written (sym one) ∙ sym text) in
        cc)

-- a number of so many bits that has a text is read of it
pub has_read : {E : Type 0} (explains : List ℕ → Result ℕ E → Type 0) (k n : ℕ) (t : Option (List ℕ))
    → ReadsNumber (λ bs x. ParsesUnsigned k 10 bs x × explains bs x × HasUnsignedDigitsIfOk bs x) decimal t None
    → n < 2 ^ k → n < 2 ^ 64 → t ≡ Some (decimal n) → ⊥
has_read explains k n t h below short e = h n e (λ x given. parse-decimal k n (decimal n) x below short refl given.0)

-- texts tell numbers apart
same_number : (n m : ℕ) (t : Option (List ℕ)) → n < 2 ^ 64 → m < 2 ^ 64 → t ≡ Some (decimal n) → t ≡ Some (decimal m) → n ≡ m
same_number n m t short small e f =
    let both : Some (decimal n) ≡ Some (decimal m) = sym e ∙ f in
    let same : decimal n ≡ decimal m = cc in
    sym (decimal_is_IsNumeral n short).1 ∙ (ap (digits_value 10) same ∙ (decimal_is_IsNumeral m small).1)

abbrev pub InRange : Config → Type 0
InRange c = (c.arenas < 2 ^ 8) × (c.bytes < 2 ^ 32) × (c.records < 2 ^ 16) × (c.depth < 2 ^ 8) × (c.wear < 2 ^ 64)

pub in_range : (c : Config) → IsScriptConfig c → InRange c
in_range c is = (
  omega (arith, is.machine.most_arenas),
  omega (arith, is.bytes),
  omega (arith, is.machine.arena.most_records),
  omega (arith, is.machine.most_depth),
  omega (arith, is.machine.arena.most_wear),
)

abbrev with_fields : ℕ → ℕ → ℕ → ℕ → ℕ → Config
with_fields arenas bytes records depth wear = record { arenas = arenas; bytes = bytes; records = records; depth = depth; wear = wear }

-- and limits
pub same_limits : (rows : List Row) (a b : Config) → InRange a → InRange b → HasLimits rows a → HasLimits rows b → IsScriptConfig b → IsScriptConfig a
same_limits rows a b in_a in_b has_a has_b is =
    let arenas = same_number a.arenas b.arenas _ (omega (arith, in_a.0)) (omega (arith, in_b.0)) has_a.0 has_b.0 in
    let bytes = same_number a.bytes b.bytes _ (omega (arith, in_a.1)) (omega (arith, in_b.1)) has_a.1 has_b.1 in
    let records = same_number a.records b.records _ (omega (arith, in_a.2)) (omega (arith, in_b.2)) has_a.2 has_b.2 in
    let depth = same_number a.depth b.depth _ (omega (arith, in_a.3)) (omega (arith, in_b.3)) has_a.3 has_b.3 in
    let wear = same_number a.wear b.wear _ in_a.4 in_b.4 has_a.4 has_b.4 in
    let same : with_fields a.arenas a.bytes a.records a.depth a.wear ≡ with_fields b.arenas b.bytes b.records b.depth b.wear = rw (arenas, bytes, records, depth, wear) refl in
    subst IsScriptConfig (sym same) is

-- where one of the numbers can't be read there are no limits
pub no_limits : (rows : List Row) (r : Option Config) → r ≡ None → ((config : Config) → IsScriptConfig config → HasLimits rows config → ⊥)
    → MatchOption r ((config : Config) → IsScriptConfig config → HasLimits rows config → ⊥) (HasLimits rows)
no_limits rows None e h = h
no_limits rows (Some config) e h = cc
