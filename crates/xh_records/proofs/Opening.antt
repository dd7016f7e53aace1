-- The table at the start: no record is held, and one seat stands for all places.
use Rattle.xh_records.proofs.Common.{nat_tests, ◌≡◌, ℕ, zero, suc, ◌≤◌, Bool, List, [], ◌∷◌, ◌++◌, map, length, replicate, sym, refl, ap, ◌∙◌, subst, arith, length-map, length-replicate, Option}
use Rattle.xh_records.proofs.Common.{Some, None, some, some-injective, some-ne-none, get_elem?, opening, at_map, LotOf, Holder, Process, IsHeldBy, IsHolder, word_of, Shape, View, Deed, deeds_by}
use Rattle.xh_records.proofs.Common.{IsLotAt, IsEmpty, IsSmall, HomeFits, ViewFits, ViewTells, Shown, places_from, all_places}
use Rattle.xh_records.proofs.Common.{◌+◌, ◌<◌, ◌%◌, Among, dite, ℕ_discrete, inl, inr}
use Rattle.xh_records.proofs.Common.{Direction}
use Rattle.xh_records.proofs.Deeds.{empty_else}
use Rattle.xh_records.proofs.History.{lists_back}
use Rattle.xh_records.proofs.Elements.{in_range, is_there}
use Rattle.xh_records.proofs.Distinct.{few_places, least}

-- the table at the start
none_there : (n r : ℕ) (h : Option Holder) → IsHeldBy (replicate n None) r h → h ≡ None
none_there zero r h e = absurd (some-ne-none h (sym e))
none_there (suc n) zero h e = sym (some-injective None h e)
none_there (suc n) (suc r) h e = none_there n r h e

all_free : (n : ℕ) → replicate n 0 ≡ map word_of (replicate n None)
all_free zero = refl
all_free (suc n) = ap (λ (l : List ℕ). 0 ∷ l) (all_free n)

sits_from : (a k p : ℕ) → a ≤ p → p < a + k → Among (places_from a k) p
sits_from a zero p lo hi = absurd (omega arith)
sits_from a (suc k) p lo hi = dite (ℕ_discrete p a) (λ e. inl e) (λ n. inr (sits_from (suc a) k p (omega arith) (omega arith)))

pub opens : {B : Type 0} (fits : B → ℕ → Bool) (s : Shape) (n : ℕ) (words : List ℕ) (lots : List (LotOf B)) (slots : List (Option (LotOf B))) → s.places ≤ 32 → words ≡ replicate n 0
    → slots ≡ map Some lots → length lots ≡ n → ((k : ℕ) (l : LotOf B) → get_elem? lots k ≡ some l → IsLotAt s k l × IsEmpty fits l) → IsSmall s
    → Shown fits s (opening words slots (all_places s))
opens {B} fits s n words lots slots few zeros wrapped long empty small = (
  replicate n None,
  record {
    words_are = zeros ∙ all_free n;
    holders = λ r h is. subst IsHolder (sym (none_there n r h is)) tt;
    homes_long = length-map slots some ∙ ap length wrapped ∙ length-map lots Some ∙ long ∙ sym (length-replicate {A = Option Holder} n None);
    homes_are = λ r h is.
        let there = is_there lots r (let i = in_range (replicate n None) r h is in let e = length-replicate {A = Option Holder} n None in omega arith) in
        let e = empty r there.0 there.1 in
        let at : get_elem? (map some slots) r ≡ some (some (Some there.0)) = at_map some slots r (Some there.0)
        (subst (λ (z : List (Option (LotOf B))). get_elem? z r ≡ some (Some there.0)) (sym wrapped) (at_map Some lots r there.0 there.1)) in
        (some (Some there.0), at, subst (λ (k : Option Holder). HomeFits fits s r k (some (Some there.0))) (sym (none_there n r h is)) (there.0, refl, e.0, e.1));
    placed = λ r p is. absurd (nobody r p is);
    latest = λ r p id q v is there sits same. absurd (nobody r p is);
    seated = λ q below. (0, q, all_places s, refl, sits_from 0 s.places q (omega arith) (omega arith), (let m : s.places ≤ 32 = few in let e : q % 32 ≡ q = omega arith in e));
    inside = λ id p v there sits. grind (arith, nat_tests, least);
    alone = λ i j p q u v at_u at_v sits sits' same. grind (arith, nat_tests, only, least);
    views_fit = λ id v there. subst (ViewFits s (replicate n None)) (only id v there).1 begins;
    small = small;
    log = [];
    history = record {
      leads = ap (λ (k : ℕ). replicate k None) (sym (length-replicate {A = Option Holder} n None));
      theirs = λ e h. absurd h;
      tells = λ id v there. subst (ViewTells [])
          (only id v there).1 untold;
      arrives = λ before after p r d l e. absurd (empty_else before _ after e);
    };
    left = λ k d l is there. absurd (never d k is);
  },
)
  where
    never : (d k : ℕ) → IsHeldBy (replicate n None) k (Some (Direction d)) → ⊥
    never d k is = let e : Some (Direction d) ≡ None = none_there n k (Some (Direction d)) is in let w : word_of (Some (Direction d)) ≡ word_of None = ap word_of e in absurd (omega arith)

    nobody : (r p : ℕ) → IsHeldBy (replicate n None) r (Some (Process p)) → ⊥
    nobody r p is = let e : Some (Process p) ≡ None = none_there n r (Some (Process p)) is in let w : word_of (Some (Process p)) ≡ word_of None = ap word_of e in absurd (omega arith)

    only : (id : ℕ) (v : View B) → get_elem? (all_places s ∷ []) id ≡ some v → (id ≡ 0) × (all_places s ≡ v)
    only zero v there = (refl, some-injective (all_places s) v there)
    only (suc id) v there = absurd (some-ne-none v (sym there))

    begins : ViewFits {B = B} s (replicate n None) (all_places s)
    begins = record { is_owner = λ r p h. absurd h; owns_all = λ r p is h. absurd (nobody r p is); knows = λ p h. refl; places = few_places 0 s.places (omega (arith, few)) }

    untold : ViewTells {B = B} [] (all_places s)
    untold = record {
      begins = λ q f there. ([], sym (ap (λ (z : List (Deed B)). z ++ []) (lists_back (places_from 0 s.places) q f there).3));
      only = λ q f there few. let t = lists_back (places_from 0 s.places) q f there in (t.0, t.1, t.2, ap (deeds_by q) t.3);
    }
