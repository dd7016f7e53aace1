-- The deeds of the log, as it grows.
use Rattle.xh_records.proofs.Common.{nat_tests, ◌≡◌, ℕ, ◌≢◌, ◌⊎◌, Bool, List, [], ◌∷◌, ◌++◌, sym, refl, ap, ◌∙◌, subst, inl, inr, arith, cond, eq-eqb, ne_eqb, LotOf, Event, Accept, Pass, Among}
use Rattle.xh_records.proofs.Common.{among_either}
use Rattle.xh_records.proofs.Common.{Adds, append-nil, append_assoc, place_of, record_of, process_of, Arrives, Deed, IsLeft, deeds_by, events, tail_of}
use Rattle.xh_records.proofs.Elements.{either_way, only_one}

module _ {B : Type 0} where
  pub events_more : (log : List (Deed B)) (d : Deed B) → events (log ++ d ∷ []) ≡ events log ++ d.0 ∷ []
  events_more [] d = refl
  events_more (x ∷ xs) d = ap (λ (z : List Event). x.0 ∷ z) (events_more xs d)

  cond_append : (b : Bool) (x : Deed B) (l m : List (Deed B)) → cond b (x ∷ (l ++ m)) (l ++ m) ≡ cond b (x ∷ l) l ++ m
  cond_append b x l m = grind (arith, nat_tests)

  pub deeds_append : (q : ℕ) (log more : List (Deed B)) → deeds_by q (log ++ more) ≡ deeds_by q log ++ deeds_by q more
  deeds_append q [] more = refl
  deeds_append q (x ∷ xs) more = grind (arith, nat_tests, cond_append, deeds_append q xs more)

  pub deeds_same : (q : ℕ) (log : List (Deed B)) (d : Deed B) → place_of (process_of d.0) ≢ q → deeds_by q (log ++ d ∷ []) ≡ deeds_by q log
  deeds_same q log d n = deeds_append q log (d ∷ []) ∙ ap (λ (b : Bool). deeds_by q log ++ cond b (d ∷ []) []) (ne_eqb (place_of (process_of d.0)) q n) ∙ append-nil (deeds_by q log)

  pub own_deed : (q : ℕ) (d : Deed B) → place_of (process_of d.0) ≡ q → deeds_by q (d ∷ []) ≡ d ∷ []
  own_deed q d at = ap (λ (b : Bool). cond b (d ∷ []) []) (eq-eqb (place_of (process_of d.0)) q at)

  -- one after another
  pub adds_more : (q : ℕ) (own more a b c : List (Deed B)) → Adds q own a b → Adds q more b c → Adds q (own ++ more) a c
  adds_more q own more a b c x y =
      (x.0 ++ y.0, y.1 ∙ ap (λ (z : List (Deed B)). z ++ y.0) x.1 ∙ append_assoc a x.0 y.0, deeds_append q x.0 y.0 ∙ (λ i. x.2 i ++ y.2 i))

  -- what a pass left is left by it until the next deed on the record
  pub left_now : (log : List (Deed B)) (q r d : ℕ) (l : LotOf B) → IsLeft (log ++ (Pass q r d, l) ∷ []) r d l
  left_now log q r d l = (q, log, [], refl, λ e h. absurd h)

  pub left_still : (log : List (Deed B)) (r d : ℕ) (l : LotOf B) (x : Deed B) → record_of x.0 ≢ r → IsLeft log r d l → IsLeft (log ++ x ∷ []) r d l
  left_still log r d l x other left = (
    left.0,
    left.1,
    left.2 ++ x ∷ [],
    ap (λ (z : List (Deed B)). z ++ x ∷ []) left.3 ∙ append_assoc left.1 ((Pass left.0 r d, l) ∷ left.2) (x ∷ []),
    λ e h. either_way (among_either (events left.2) (x.0 ∷ []) e (subst (λ (z : List Event). Among z e) (events_more left.2 x) h)) (left.4 e)
        (λ b. subst (λ (z : Event). record_of z ≢ r) (sym (only_one b)) other),
  )

  -- nothing stands in an empty log
  pub empty_else : (zs : List (Deed B)) (y : Deed B) (after : List (Deed B)) → [] ≡ zs ++ y ∷ after → ⊥
  empty_else [] y after e = absurd (cc)
  empty_else (x ∷ xs) y after e = absurd (cc)

  -- where a deed stands in a log that has one more
  stands_in : (log : List (Deed B)) (d y : Deed B) (before after : List (Deed B)) → log ++ d ∷ [] ≡ before ++ y ∷ after
      → ((before ≡ log) × (y ≡ d)) ⊎ ((more : List (Deed B)) × (log ≡ before ++ y ∷ more))
  stands_in [] d y [] after e = inl (refl, (let f : d ∷ [] ≡ y ∷ after = e in let g : d ≡ y = cc in sym g))
  stands_in [] d y (z ∷ zs) after e = absurd (empty_else zs y after (ap (λ (l : List (Deed B)). tail_of l) e))
  stands_in (x ∷ xs) d y [] after e = inr (xs, (let g : x ≡ y = cc in ap (λ (z : Deed B). z ∷ xs) g))
  stands_in (x ∷ xs) d y (z ∷ zs) after e =
      let first : x ≡ z = cc in either_way (stands_in xs d y zs after (ap (λ (l : List (Deed B)). tail_of l) e))
      (λ a. inl ((λ i. sym first i ∷ a.0 i), a.1))
      (λ b. inr (b.0, λ i. first i ∷ b.1 i))

  -- one more, which accepted what was left, if it accepted
  pub arrives_more : (log : List (Deed B)) (x : Deed B) → Arrives log → ((p r d : ℕ) → x.0 ≡ Accept p r d → IsLeft log r d x.1) → Arrives (log ++ x ∷ [])
  arrives_more log x before_too now before after p r d l e = either_way (stands_in log x (Accept p r d, l) before after e)
      (λ a. subst (λ (z : List (Deed B) × LotOf B). IsLeft z.0 r d z.1) (λ i. (sym a.0 i, (sym a.1 i).1)) (now p r d (ap (λ (z : Deed B). z.0) (sym a.1))))
      (λ b. before_too before b.0 p r d l b.1)
