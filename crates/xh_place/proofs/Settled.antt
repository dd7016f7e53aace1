-- A give that settled the list with the seat.
use Rattle.xh_place.proofs.Words.{◌≡◌, ◌≢◌, ℕ, ◌+◌, ◌≤◌, List, [], ◌∷◌, refl, sym, ap, ◌∙◌, subst, Bool, true, false, is_some, arith, Some, None, Option, dite, ℕ_discrete, dec_among, LotOf, Status}
use Rattle.xh_place.proofs.Words.{Shape, Among, Distinct}
use Rattle.xh_place.proofs.Words.{keys, value_at, at_key, Body, End, fits_in, content_of, is_over, IsBlock, IsPlace, item_of, Item, len_at, lens, less_all, EndpointOf, EndDoes, endpoint}
use Rattle.xh_place.proofs.Listing.{all_distinct, all_stays, all_was, lens_dropped, lens_given, lens_part}
use Rattle.xh_place.proofs.Steps.{listed_at, lot_at, quiet_alive, some_of}
use Rattle.xh_place.specs.Messages.{refusal}
use Rattle.arrayvec.specs.ArrayVec.{ArrayVec}
use Rattle.xh_channel.specs.declared.unsent.Unsent.{Unsent}
use Rattle.xh_place.proofs.Words.{Err, MatchResult, Ok, OnOk, Refused, Result}

none_long : (o : Option (LotOf Body)) (b : Bool) → b ≡ is_some o → b ≡ false → len_at o ≡ 0
none_long None b e f = refl
none_long (Some l) b e f = let no_one : true ≡ false = sym e ∙ f in absurd (cc)

module _ {s : Shape} {lots : List (ℕ × LotOf Body)} {xs : List ℕ} {room total : ℕ} {state : Status} (is : IsPlace s lots xs room total state) (given : List ℕ) (d : Distinct given)
    (held : (r : ℕ) → Among given r → (l : LotOf Body) × (value_at r lots ≡ Some l)) where
  -- what was passed is at most all
  pub passed_below : lens given (λ r. value_at r lots) ≤ total
  passed_below = omega (arith, is.sum, lens_part given xs (λ r. value_at r lots) d is.distinct (λ r a. listed_at is r (held r a).1))

  -- whatever came back: each given record has what its seat has for it now, and its old place; the endpoint did something; all others are as they were
  module _ (lots' : List (ℕ × LotOf Body)) (stays : ℕ → Bool) (here : (r : ℕ) → Among given r → stays r ≡ is_some (value_at r lots')) (good : (r : ℕ) (l : LotOf Body) → Among given r
      → value_at r lots' ≡ Some l → IsBlock s r l)
      (e : ℕ) {l m : LotOf Body} (at : value_at e lots ≡ Some l) (now : value_at e lots' ≡ Some m) (end : IsBlock s e m) (len : m.len ≡ l.len)
      (others : (q : ℕ) → (Among given q → ⊥) → e ≢ q → value_at q lots' ≡ value_at q lots) where
    same_len : (q : ℕ) → (Among given q → ⊥) → len_at (value_at q lots') ≡ len_at (value_at q lots)
    same_len q n = dite (ℕ_discrete e q) (λ f. subst (λ (z : ℕ). len_at (value_at z lots') ≡ len_at (value_at z lots)) f (ap len_at now ∙ len ∙ sym (ap len_at at))) (λ o. ap len_at (others q n o))

    pub settled : {total' : ℕ} (alive : is_over state ≡ true → ⊥) → total' + lens given (λ r. value_at r lots) ≡ total + lens given (λ r. value_at r lots')
        → IsPlace s lots' (less_all given stays xs) room total' state
    settled {total'} alive sums = record {
      lists = record {
        held = λ q a. let t = all_was given stays xs q a in dite (dec_among given q)
            (λ g. let k = some_of (value_at q lots') (sym (here q g) ∙ t.1 g) in at_key q k.0 lots' k.1)
            (λ n. dite (ℕ_discrete e q)
            (λ f. subst (λ (z : ℕ). Among (keys lots') z) f (at_key e m lots' now))
            (λ o. let k = lot_at q lots (is.lists.held q t.0) in at_key q k.0 lots' (others q n o ∙ k.1)));
        listed = λ q a. let k = lot_at q lots' a in all_stays given stays xs q
            (dite (dec_among given q) (λ g. listed_at is q (held q g).1)
            (λ n. dite (ℕ_discrete e q) (λ f. subst (λ (z : ℕ). Among xs z) f (listed_at is e at)) (λ o. listed_at is q (sym (others q n o) ∙ k.1))))
            (λ g. here q g ∙ ap is_some k.1);
      };
      whole = λ q k a. dite (dec_among given q) (λ g. good q k g a)
          (λ n. dite (ℕ_discrete e q)
          (λ f. let same : Some m ≡ Some k = sym now ∙ ap (λ (z : ℕ). value_at z lots') f ∙ a in let one : m ≡ k = cc in subst (λ (z : ℕ × LotOf Body). IsBlock s z.0 z.1) (λ i. (f i, one i)) end)
          (λ o. is.whole q k (sym (others q n o) ∙ a)));
      distinct = all_distinct given stays xs is.distinct;
      sum = omega (
        arith,
        is.sum,
        sums,
        lens_dropped given stays xs (λ r. value_at r lots') (λ r a f. none_long (value_at r lots') (stays r) (here r a) f),
        lens_given given xs (λ r. value_at r lots) (λ r. value_at r lots') d is.distinct (λ r a. listed_at is r (held r a).1) same_len,
      );
      room = is.room;
      quiet = quiet_alive state (less_all given stays xs) alive;
    }

-- a give is answered as its put, with what came back
pub answered : (back : ArrayVec ℕ) (put : Result ℕ Unsent) (result : Result ℕ Refused) → OnOk put (back.items ≡ [])
    → MatchResult put (λ n. result ≡ Ok n) (λ unsent. result ≡ Err (refusal back unsent))
    → MatchResult put (λ n. (result ≡ Ok n) × (back.items ≡ [])) (λ unsent. (named : ArrayVec ℕ) × (result ≡ Err (refusal named unsent)) × (named.items ≡ back.items))
answered back (Ok n) result none is = (is, none)
answered back (Err unsent) result none is = (back, is, refl)
