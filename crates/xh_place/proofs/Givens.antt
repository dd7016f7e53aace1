-- The loops of a give over its blocks.
use Rattle.xh_channel.specs.declared.unsent.Unsent.{Unsent}
use Rattle.arrayvec.specs.ArrayVec.{ArrayVec}
use Rattle.xh_place.specs.Bodies.{content_of, kind_of}
use Rattle.xh_place.proofs.Words.{dec_among, map-append, arith, eqb, eq-eqb, ◌≡◌, ℕ, Bool, true, false, ⊎_elim, List, [], ◌∷◌, refl, sym, ap, ◌∙◌, ◌==◌, ◌||◌, ◌&&◌, Option, Some, None, is_some}
use Rattle.xh_place.proofs.Words.{nat_tests, list_all, list_any, Among, Distinct, value_at, given_tests, Item, ◌≢◌, ◌+◌, ◌*◌, ◌≤◌, inl, inr, length, subst, cond, dite}
use Rattle.xh_place.proofs.Words.{ℕ_discrete, LotOf, Status, is_over, keys, put, without, distinct_without, put_at, put_keys, put_other, without_at, without_other, Held, with_lots, HasNow, AreBack}
use Rattle.xh_place.proofs.Words.{len_at, lens, less_all, Body, item_of, item_in, shown, IsBlock, IsPlace, length-append, append-nil, append_assoc}
use Rattle.xh_place.proofs.Words.{Err, Ok, Result, Refused, OnOk, MatchResult, ◌++◌, Acts, Did, Event, Accept, AreGot, Got, IsSeenAfter, IsSeenBy, Shape, map, place_of, record_got}
use Rattle.xh_place.proofs.Words.{StartsWith, Pass, among_either, last_at, last_other, accepted_on, passed_on, SawAt, CameBack}
use Rattle.xh_core.specs.Several.{has_twice}
use Rattle.std.proofs.Math.Bool.{or-false}
use Rattle.std.proofs.lemmas.List.Folds.{list_any-append}
use Rattle.xh_place.proofs.Listing.{lens_none, lens_same, lens_one, unequal}
use Rattle.xh_place.proofs.Seeing.{all_got_as, arrived_wide, did_starts, got_both, saw_wide, split_at, starts_same}
use Rattle.xh_place.specs.Seen.{Arrived, Sight, bears, brings}
use Rattle.xh_place.specs.declared.got.Got.TheVariants.{Here, Missing}
use Rattle.xh_records.specs.Deeds.{Deed, deeds_by}
use Rattle.xh_place.proofs.Deeds.{acts_none, acts_twice, own_acts}
use Rattle.xh_place.proofs.Shown.{shown_append, shown_same}
use Rattle.xh_place.proofs.Steps.{some_of}
use Rattle.xh_place.proofs.Words.{first_refusal}

neither : (a b : Bool) → (a || b) ≡ false → (a ≡ false) × (b ≡ false)
neither true b e = absurd (cc)
neither false b e = (refl, e)

pub none_of : (e : ℕ) (rs : List ℕ) → list_any (λ q. q == e) rs ≡ false → Among rs e → ⊥
none_of e [] h a = a
none_of e (r ∷ rs) h a = let t = neither (eqb r e) (list_any (λ q. q == e) rs) h in
    ⊎_elim (λ s. let is : eqb r e ≡ true = eq-eqb r e (sym s) in let not_so : true ≡ false = sym is ∙ t.0 in absurd (cc)) (λ b. none_of e rs t.1 b) a

both : (a b : Bool) → (a && b) ≡ true → (a ≡ true) × (b ≡ true)
both true b e = (refl, e)
both false b e = absurd (cc)

once : (rs : List ℕ) → has_twice rs ≡ false → Distinct rs
once [] h = tt
once (r ∷ rs) h = let t = neither (list_any (λ q. q == r) rs) (has_twice rs) h in (none_of r rs t.0, once rs t.1)

abbrev holds_in : List (ℕ × LotOf Body) → ℕ → Bool
holds_in lots r = is_some (value_at r lots)

each : (lots : List (ℕ × LotOf Body)) (rs : List ℕ) → list_all (holds_in lots) rs ≡ true → (r : ℕ) → Among rs r → (l : LotOf Body) × (value_at r lots ≡ Some l)
each lots [] h r a = absurd a
each lots (q ∷ rs) h r a = let t = both (holds_in lots q) (list_all (holds_in lots) rs) h in
    ⊎_elim (λ e. let f = some_of (value_at q lots) t.0 in (f.0, ap (λ (z : ℕ). value_at z lots) e ∙ f.1)) (λ b. each lots rs t.1 r b) a

-- the given blocks are held, each once, and the endpoint is none of them
pub fine : (lots : List (ℕ × LotOf Body)) (e : ℕ) (rs : List ℕ) → first_refusal (given_tests (holds_in lots) e rs) ≡ None
    → (Distinct rs × (Among rs e → ⊥)) × ((r : ℕ) → Among rs r → (l : LotOf Body) × (value_at r lots ≡ Some l))
fine lots e rs h =
    let listed : list_all (holds_in lots) rs ≡ true = grind (arith, nat_tests) in let apart : list_any (λ q. q == e) rs ≡ false = grind (arith, nat_tests) in
    let twice : has_twice rs ≡ false = grind (arith, nat_tests) in ((once rs twice, none_of e rs apart), each lots rs listed)

-- ---- the loops of a give over its blocks

-- of the given records those in `more` are to be passed on the direction, and the others, `gone`, were
abbrev pub IsPassing : ℕ → List ℕ → List ℕ → List ℕ → Held Body → Held Body → Type 0
IsPassing d given gone more old seat = Acts (passed_on old.process d (shown old.lots gone)) seat.lots old seat
    × ((r : ℕ) → (Among more r → ⊥) → Among given r → value_at r seat.lots ≡ None)
    × ((r : ℕ) → Among more r → value_at r seat.lots ≡ value_at r old.lots)
    × ((r : ℕ) → (Among given r → ⊥) → value_at r seat.lots ≡ value_at r old.lots)
    × Distinct more

pub passing : (d : ℕ) (given gone more : List ℕ) (r : ℕ) (l : LotOf Body) (old seat last : Held Body) → Among given r → IsPassing d given gone (r ∷ more) old seat → value_at r old.lots ≡ Some l
    → Acts (passed_on seat.process d ((r, item_of l) ∷ [])) (without r seat.lots) seat last → IsPassing d given (gone ++ r ∷ []) more old last
passing d given gone more r l old seat last among is here new =
    let p : ℕ = old.process in
    let whose : seat.process ≡ p = ap (λ (h : Held Body). h.process) is.0.0 in
    let log : passed_on p d (shown old.lots gone) ++ passed_on seat.process d ((r, item_of l) ∷ []) ≡ passed_on p d (shown old.lots (gone ++ r ∷ [])) =
    (λ i. passed_on p d (shown old.lots gone) ++ (Pass (whose i) r d, item_in (sym here i)) ∷ [])
    ∙ sym (map-append (λ (x : ℕ × Item). (Pass p x.0 d, x.1)) (shown old.lots gone) (shown old.lots (r ∷ []))) ∙ ap (passed_on p d) (sym (shown_append old.lots gone (r ∷ []))) in
    let at : (q : ℕ) → value_at q last.lots ≡ value_at q (without r seat.lots) = λ q. ap (λ (h : Held Body). value_at q h.lots) new.0 in
    let other : (q : ℕ) → r ≢ q → value_at q last.lots ≡ value_at q seat.lots = λ q n. at q ∙ without_other q r seat.lots n in (
      subst (λ (es : List (Event × Item)). Acts es last.lots old last) log (own_acts (passed_on p d (shown old.lots gone) ++ passed_on seat.process d ((r, item_of l) ∷ []))
          (without r seat.lots) old last
          (acts_twice (passed_on p d (shown old.lots gone)) (passed_on seat.process d ((r, item_of l) ∷ [])) seat.lots (without r seat.lots) old seat last is.0 new)),
      (λ q n a. dite (ℕ_discrete r q)
          (λ e. at q ∙ subst (λ (z : ℕ). value_at z (without r seat.lots) ≡ None) e (without_at r seat.lots))
          (λ o. other q o ∙ is.1 q (λ h. ⊎_elim (λ (e : q ≡ r). o (sym e)) n h) a)),
      (λ q a. other q (λ e. is.4.0 (subst (λ (z : ℕ). Among more z) (sym e) a)) ∙ is.2 q (inr a)),
      (λ q n. other q (λ e. n (subst (λ (z : ℕ). Among given z) e among)) ∙ is.3 q n),
      is.4.1,
    )

-- the bytes of those that went, and of those that stay, are those of all
pub passed_bytes : (given more gone : List ℕ) (d r bytes n : ℕ) (l : LotOf Body) (old seat last : Held Body) → Distinct given → Among given r → IsPassing d given gone (r ∷ more) old seat
    → value_at r old.lots ≡ Some l → last.lots ≡ without r seat.lots → n ≡ l.len
    → bytes + lens given (λ q. value_at q seat.lots) ≡ lens given (λ q. value_at q old.lots) → bytes + n + lens given (λ q. value_at q last.lots) ≡ lens given (λ q. value_at q old.lots)
passed_bytes given more gone d r bytes n l old seat last once among is at new len sum =
    let more : lens given (λ q. value_at q seat.lots) ≡ lens given (λ q. value_at q last.lots) + len_at (value_at r seat.lots) =
    lens_one given r (λ q. value_at q last.lots) (λ q. value_at q seat.lots) once among (ap (value_at r) new ∙ without_at r seat.lots) (λ q n. sym (without_other q r seat.lots n)
    ∙ sym (ap (value_at q) new)) in
    let here : len_at (value_at r seat.lots) ≡ l.len = ap len_at (is.2 r (inl refl) ∙ at) in omega arith

-- Of the given records those in `more` are still away; the others, `gone`, were tried in this order, and what came of each is told. Those that came back are in the seat.
abbrev pub IsAccepting : ℕ → List ℕ → List ℕ → List ℕ → Held Body → Held Body → List ℕ → ℕ → Type 0
IsAccepting d gone given more old seat back bytes = Acts (accepted_on old.process d (shown seat.lots back)) seat.lots old seat
    × AreBack given back seat
    × ((r : ℕ) → Among more r → value_at r seat.lots ≡ None)
    × ((r : ℕ) → (Among given r → ⊥) → value_at r seat.lots ≡ value_at r old.lots)
    × Distinct more × (bytes ≡ lens given (λ q. value_at q seat.lots))
    × ((gots : List Got) × (map record_got gots ≡ gone) × AreGot (IsSeenBy old seat) d (shown seat.lots back) gots)

-- nothing of what went came back
pub back_none : (given : List ℕ) (seat : Held Body) (back : List ℕ) → back ≡ [] → ((r : ℕ) → Among given r → value_at r seat.lots ≡ None) → AreBack given back seat
back_none given seat back new none = subst (λ (l : List ℕ). AreBack given l seat) (sym new) (record {
  here = λ r a. sym (ap is_some (none r a));
  only = λ r a. absurd a;
  good = λ r l a e. let no : None ≡ Some l = sym (none r a) ∙ e in absurd (cc);
})

pub accepting_none : (d : ℕ) (given : List ℕ) (seat : Held Body) (back : List ℕ) → back ≡ [] → ((r : ℕ) → Among given r → value_at r seat.lots ≡ None) → Distinct given
    → IsAccepting d [] given given seat seat back 0
accepting_none d given seat back new none once = subst (λ (l : List ℕ). IsAccepting d [] given given seat seat l 0) (sym new) (
  acts_none seat.lots seat seat refl,
  back_none given seat [] refl none,
  none,
  (λ r n. refl),
  once,
  sym (lens_none given (λ q. value_at q seat.lots) none),
  ([], refl, refl),
)

-- what was seen at a step of several
seen_wide : (old seat next last : Held Body) → seat.shape ≡ old.shape → seat.process ≡ old.process → StartsWith seat.front old.front → StartsWith last.front next.front
    → (r : ℕ) (s : Sight) → IsSeenBy seat next r s → IsSeenBy old last r s
seen_wide old seat next last shape whose before after r (bears word) saw =
    subst (λ (z : Shape). SawAt z old.front last.front r word) shape (saw_wide seat.shape seat.front next.front old.front last.front r word before after saw)
seen_wide old seat next last shape whose before after r (brings d x) saw =
    subst (λ (z : ℕ). Arrived z old.front last.front r d x) whose (arrived_wide seat.process seat.front next.front old.front last.front r d x before after saw)

pub accepting : (d : ℕ) (gone given more : List ℕ) (r bytes n : ℕ) (old seat last : Held Body) (back new : List ℕ) → Distinct given → Among given r
    → IsAccepting d gone given (r ∷ more) old seat back bytes → CameBack d r seat last back new n → IsAccepting d (gone ++ r ∷ []) given more old last new (bytes + n)
accepting d gone given more r bytes n old seat last back new once among is came = ⊎_elim
    (λ h. let lots : last.lots ≡ seat.lots = ap (λ (k : Held Body). k.lots) h.1.0 in let shape : seat.shape ≡ last.shape = sym (ap (λ (k : Held Body). k.shape) h.1.0) in
    let sum : bytes + n ≡ bytes = (let z : n ≡ 0 = h.2 in omega arith) in
    let log : accepted_on p d (shown seat.lots back) ++ [] ≡ accepted_on p d (shown last.lots back) =
    append-nil (accepted_on p d (shown seat.lots back)) ∙ ap (λ (ls : List (ℕ × LotOf Body)). accepted_on p d (shown ls back)) (sym lots) in
    let after = did_starts seat.process [] seat.front last.front h.1.1 in
    let got : Got = Missing r h.3.0 in
    let told : AreGot (IsSeenBy old last) d (shown last.lots back) (is.6.0 ++ got ∷ []) =
    subst (λ (ys : List (ℕ × Item)). AreGot (IsSeenBy old last) d ys (is.6.0 ++ got ∷ [])) (append-nil (shown seat.lots back) ∙ ap (λ (ls : List (ℕ × LotOf Body)). shown ls back) (sym lots))
    (got_both (IsSeenBy old last) d (shown seat.lots back) [] is.6.0 (got ∷ []) (before after) (h.3.1, step seat last after (bears h.3.0) h.3.2, refl)) in
    subst (λ (z : List ℕ). IsAccepting d (gone ++ r ∷ []) given more old last z (bytes + n)) (sym h.0) (
      own_acts (accepted_on p d (shown last.lots back)) seat.lots old last (subst (λ (es : List (Event × Item)). Acts es seat.lots old last) log
          (acts_twice (accepted_on p d (shown seat.lots back)) [] seat.lots seat.lots old seat last is.0 h.1)),
      record {
        here = λ q a. is.1.here q a ∙ ap (λ (l : List (ℕ × LotOf Body)). is_some (value_at q l)) (sym lots);
        only = is.1.only;
        good = λ q m a f. subst (λ s. IsBlock s q m) shape (is.1.good q m a (ap (value_at q) (sym lots) ∙ f));
      },
      (λ q a. ap (value_at q) lots ∙ is.2 q (inr a)),
      (λ q o. ap (value_at q) lots ∙ is.3 q o),
      is.4.1,
      sum ∙ is.5 ∙ ap (λ (l : List (ℕ × LotOf Body)). lens given (λ q. value_at q l)) (sym lots),
      (is.6.0 ++ got ∷ [], records got refl, told),
    ))
    (λ h. let l = h.0 in let none : value_at r seat.lots ≡ None = is.2 r (inl refl) in
    let lots : last.lots ≡ seat.lots ++ (r, l) ∷ [] = ap (λ (k : Held Body). k.lots) h.3.0 in
    let mine : value_at r last.lots ≡ Some l = ap (value_at r) lots ∙ last_at r l seat.lots h.2 in
    let at : (q : ℕ) → r ≢ q → value_at q last.lots ≡ value_at q seat.lots = λ q o. ap (value_at q) lots ∙ last_other q r l seat.lots o in
    let away : Among back r → ⊥ = none_of r back (is.1.here r among ∙ ap is_some none) in
    let kept : shown seat.lots back ≡ shown last.lots back =
    shown_same back seat.lots last.lots (λ q a. sym (at q (λ e. away (subst (λ (z : ℕ). Among back z) (sym e) a)))) in
    let blocks : shown seat.lots back ++ (r, item_of l) ∷ [] ≡ shown last.lots new =
    (λ i. kept i ++ (r, item_in (sym mine i)) ∷ []) ∙ sym (shown_append last.lots back (r ∷ [])) ∙ ap (shown last.lots) (sym h.1) in
    let log : accepted_on p d (shown seat.lots back) ++ accepted_on seat.process d ((r, item_of l) ∷ []) ≡ accepted_on p d (shown last.lots new) =
    (λ i. accepted_on p d (shown seat.lots back) ++ (Accept (whose i) r d, item_of l) ∷ [])
    ∙ sym (map-append (λ (x : ℕ × Item). (Accept p x.0 d, x.1)) (shown seat.lots back) ((r, item_of l) ∷ [])) ∙ ap (accepted_on p d) blocks in
    let after = did_starts seat.process (accepted_on seat.process d ((r, item_of l) ∷ [])) seat.front last.front h.3.1 in
    let got : Got = Here (record { rec = r; len = l.len }) (kind_of (content_of l.body)) in
    let told : AreGot (IsSeenBy old last) d (shown last.lots new) (is.6.0 ++ got ∷ []) =
    subst (λ (ys : List (ℕ × Item)). AreGot (IsSeenBy old last) d ys (is.6.0 ++ got ∷ [])) blocks
    (got_both (IsSeenBy old last) d (shown seat.lots back) ((r, item_of l) ∷ []) is.6.0 (got ∷ []) (before after) (item_of l, [], refl, refl, step seat last after (brings d (item_of l)) h.5, refl)) in
    let any : (q : ℕ) → list_any (λ z. z == q) new ≡ (list_any (λ z. z == q) back || (r == q || false)) = λ q. ap (list_any (λ z. z == q)) h.1 ∙ list_any-append (λ z. z == q) back (r ∷ []) in
    let shape : seat.shape ≡ last.shape = sym (ap (λ (k : Held Body). k.shape) h.3.0) in
    let more_bytes : lens given (λ q. value_at q last.lots) ≡ lens given (λ q. value_at q seat.lots) + len_at (value_at r last.lots) =
    lens_one given r (λ q. value_at q seat.lots) (λ q. value_at q last.lots) once among none at in
    let len : len_at (value_at r last.lots) ≡ l.len = ap len_at mine in let told_len : n ≡ l.len = h.6 in
    let had : bytes ≡ lens given (λ q. value_at q seat.lots) = is.5 in (
      own_acts (accepted_on p d (shown last.lots new)) (seat.lots ++ (r, l) ∷ []) old last (subst (λ (es : List (Event × Item)). Acts es (seat.lots ++ (r, l) ∷ []) old last) log
          (acts_twice (accepted_on p d (shown seat.lots back)) (accepted_on seat.process d ((r, item_of l) ∷ [])) seat.lots (seat.lots ++ (r, l) ∷ []) old seat last is.0 h.3)),
      record {
        here = λ q a. dite (ℕ_discrete r q)
            (λ e. subst (λ (z : ℕ). list_any (λ y. y == z) new ≡ is_some (value_at z last.lots)) e
            (any r ∙ (λ i. (is.1.here r among ∙ ap is_some none) i || (eq-eqb r r refl i || false)) ∙ sym (ap is_some mine)))
            (λ o. any q ∙ ap (λ (b : Bool). list_any (λ z. z == q) back || (b || false)) (unequal r q o) ∙ or-false (list_any (λ z. z == q) back) ∙ is.1.here q a ∙ sym (ap is_some (at q o)));
        only = λ q a. ⊎_elim (λ b. is.1.only q b) (λ b. ⊎_elim (λ e. subst (λ (z : ℕ). Among given z) (sym e) among) (λ z. absurd z) b)
            (among_either back (r ∷ []) q (subst (λ (ks : List ℕ). Among ks q) h.1 a));
        good = λ q m a f. dite (ℕ_discrete r q)
            (λ e. let two : Some l ≡ Some m = sym mine ∙ ap (λ (z : ℕ). value_at z last.lots) e ∙ f in let one : l ≡ m = cc in
            subst (λ (z : ℕ × LotOf Body). IsBlock last.shape z.0 z.1) (λ i. (e i, one i)) (subst (λ s. IsBlock s r l) shape h.4))
            (λ o. subst (λ s. IsBlock s q m) shape (is.1.good q m a (sym (at q o) ∙ f)));
      },
      (λ q a. at q (λ e. is.4.0 (subst (λ (z : ℕ). Among more z) (sym e) a)) ∙ is.2 q (inr a)),
      (λ q o. at q (λ e. o (subst (λ (z : ℕ). Among given z) e among)) ∙ is.3 q o),
      is.4.1,
      omega arith,
      (is.6.0 ++ got ∷ [], records got refl, told),
    ))
    came where
      p : ℕ
      p = old.process

      whose : seat.process ≡ p
      whose = ap (λ (k : Held Body). k.process) is.0.0

      step : (next last : Held Body) → StartsWith last.front next.front → (s : Sight) → IsSeenBy seat last r s → IsSeenBy old last r s
      step next last after s saw = seen_wide old seat last last (ap (λ (k : Held Body). k.shape) is.0.0) whose
          (did_starts p (accepted_on p d (shown seat.lots back)) old.front seat.front is.0.1) (starts_same refl) r s saw

      before : StartsWith last.front seat.front → AreGot (IsSeenBy old last) d (shown seat.lots back) is.6.0
      before after = all_got_as (IsSeenBy old seat) (IsSeenBy old last) (seen_wide old old seat last refl refl (starts_same refl) after) d (shown seat.lots back) is.6.0 is.6.2

      records : (got : Got) → record_got got ≡ r → map record_got (is.6.0 ++ got ∷ []) ≡ gone ++ r ∷ []
      records got e = map-append record_got is.6.0 (got ∷ []) ∙ (λ i. is.6.1 i ++ e i ∷ [])

-- ---- what was seen after a pass

-- each given record was passed
passed_own : (p d r : ℕ) (lots : List (ℕ × LotOf Body)) (given : List ℕ) (own : List (Deed Body)) → map (λ (x : Deed Body). (x.0, item_of x.1)) own ≡ passed_on p d (shown lots given) → Among given r
    → (l : LotOf Body) × Among own (Pass p r d, l)
passed_own p d r lots [] own e a = absurd a
passed_own p d r lots (q ∷ qs) [] e a = absurd (cc)
passed_own p d r lots (q ∷ qs) (x ∷ xs) e a =
    let first : (x.0, item_of x.1) ≡ (Pass p q d, item_in (value_at q lots)) = cc in
    let rest : map (λ (y : Deed Body). (y.0, item_of y.1)) xs ≡ passed_on p d (shown lots qs) = cc in
    let event : x.0 ≡ Pass p q d = ap (λ (z : Event × Item). z.0) first in
    ⊎_elim (λ (s : r ≡ q). (x.1, inl (λ i. ((ap (λ (z : ℕ). Pass p z d) s ∙ sym event) i, x.1)))) (λ b. let t = passed_own p d r lots qs xs rest b in (t.0, inr t.1)) a

pub seen_after : (d : ℕ) (given : List ℕ) (old mid new : Held Body) → mid.process ≡ old.process → mid.shape ≡ old.shape
    → Did old.process (passed_on old.process d (shown old.lots given)) old.front mid.front → (r : ℕ) → Among given r → (s : Sight) → IsSeenBy mid new r s
    → IsSeenAfter d old.process old.shape old.front new.front r s
seen_after d given old mid new whose shape did r among (bears word) saw =
    let p : ℕ = old.process in let t = passed_own p d r old.lots given (deeds_by (place_of p) did.0) did.2 among in let own : Deed Body = (Pass p r d, t.0) in
    let s = split_at (place_of p) did.0 own t.1 in
    let before : List (Deed Body) = old.front ++ s.0 in
    let e : mid.front ≡ (before ++ own ∷ []) ++ s.1 =
    did.1 ∙ ap (λ (z : List (Deed Body)). old.front ++ z) s.2 ∙ sym (append_assoc old.front s.0 (own ∷ s.1)) ∙ sym (append_assoc before (own ∷ []) s.1) in (
      before,
      t.0,
      (s.0, refl),
      subst (λ (z : Shape). SawAt z (before ++ own ∷ []) new.front r word) shape
          (saw_wide mid.shape mid.front new.front (before ++ own ∷ []) new.front r word (s.1, e) (starts_same refl) saw),
    )
seen_after d given old mid new whose shape did r among (brings way x) saw =
    subst (λ (z : ℕ). Arrived z old.front new.front r way x) whose
    (arrived_wide mid.process mid.front new.front old.front new.front r way x (did_starts old.process (passed_on old.process d (shown old.lots given)) old.front mid.front did) (starts_same refl) saw)

pub one_longer : (d r bytes : ℕ) (old new : Held Body) (had back : List ℕ) → CameBack d r old new had back bytes → (k : ℕ) → length had ≤ k → length back ≤ k + 1
one_longer d r bytes old new had back came k few = ⊎_elim
    (λ h. let e : length back ≡ length had = ap length h.0 in omega arith)
    (λ h. let e : length back ≡ length had + 1 = ap length h.1 ∙ length-append had (r ∷ []) in omega arith) came
