-- An endpoint of a place that takes one message after another, and what a call did that only looked before.
use Rattle.xh_place.specs.Seen.{Sight, bears, brings}
use Rattle.xh_place.proofs.Words.{on_err_weaker, ◌≡◌, ℕ, ◌≤◌, inl, inr, List, [], ◌∷◌, ◌++◌, append_assoc, append-nil, length, refl, sym, ap, ◌∙◌, subst, Some, Ok, Err, Result, suc, ⊎_elim}
use Rattle.xh_place.proofs.Words.{map, map-append, Message, EndpointOf, Refused, put, value_at, front_at, put_at, put_same, put_twice, keys, keys_append, endpoint, direction_toward, away}
use Rattle.xh_place.proofs.Words.{content_of, Taken}
use Rattle.xh_place.proofs.Words.{AreFetched, AreGot, Body, End, EndDoes, EndsWith, Event, IsDrained, EndpointShuts, EndpointTakes, Shape, StartsWith, TakesEach, flat_map, Held, LotOf, with_lots}
use Rattle.xh_place.proofs.Words.{Acts}
use Rattle.xh_place.proofs.Words.{Becomes, Changes, Clears, Did, Drains, IsUntaken, IsSeenAfter, IsSent, IsTaken, Item, IsSeen, PlaceSeen, Status, items_of, accepted_on, passed_on, shown, kind_of}
use Rattle.xh_place.proofs.Words.{true, false, ◌+◌, arith, Content, bytes, item_of}
use Rattle.std.proofs.Common.{is_some, length-append}
use Rattle.std.proofs.lemmas.Bool.{false_from_ne_true}
use Rattle.xh_model.specs.declared.limits.TheConstants.{MAX_MESSAGES}
use Rattle.xh_records.specs.Deeds.{Deed}
use Rattle.xh_place.proofs.Listing.{put_front}
use Rattle.xh_place.proofs.Seeing.{after_wide, all_fetched_as, all_got_as, did_more, did_starts, fetched, fetched_both, seen_wide, starts_same}
use Rattle.xh_place.proofs.Deeds.{came_twice, did_since, looked_at, now_of, stays_again}
use Rattle.xh_place.proofs.EndLots.{empty_keeps, same_len, still_block}
use Rattle.xh_place.proofs.Steps.{changes, now_is}
use Rattle.xh_place.proofs.Swept.{unrefused}
use Rattle.xh_place.proofs.Words.{Bool, IfErr, IsPlace, MatchBool, MatchOption, MatchResult, None, Option, Running, Stays, end_tests, first_refusal, found, header_of, option_map, start}
use Rattle.std.specs.Prelude.{not}
use Rattle.xh_core.specs.Headers.{has_end, is_data}
use Rattle.xh_core.specs.declared.header.Kind.{Kind}
use Rattle.xh_core.specs.declared.refused.Refused.TheVariants.{Empty, NotEndpoint}
use Rattle.xh_place.specs.Messages.{TakesAt}
use Rattle.xh_core.specs.declared.header.Kind.TheVariants as kind

-- ---- one endpoint

abbrev end_in : EndpointOf → Body → EndpointOf
end_in p (End q) = q
end_in p b = p

one_end : (b : Body) (p q : EndpointOf) → b ≡ End p → b ≡ End q → p ≡ q
one_end b p q e f = sym (ap (end_in p) e) ∙ ap (end_in p) f

pub end_body : (b : Body) → kind_of (content_of b) ≡ kind.End → (p : EndpointOf) × (b ≡ End p)
end_body (End p) e = (p, refl)
end_body b e = absurd (cc)

way_taken : (m : Message) (old new : EndpointOf) → EndpointTakes (Ok m) old new → direction_toward (endpoint new) ≡ direction_toward (endpoint old)
way_taken m old new t = ap (λ (e : EndpointOf). direction_toward (endpoint e)) t.1.0

way_shut : (old new : EndpointOf) → EndpointShuts old new → direction_toward (endpoint new) ≡ direction_toward (endpoint old)
way_shut old new t = ap (λ (e : EndpointOf). direction_toward (endpoint e)) t.0

each_more : (ms : List Message) (m : Message) (old mid new : EndpointOf) → TakesEach ms old mid → EndpointTakes (Ok m) mid new → TakesEach (ms ++ m ∷ []) old new
each_more [] m old mid new each one = (new, subst (λ (p : EndpointOf). EndpointTakes (Ok m) p new) each one, refl)
each_more (n ∷ ms) m old mid new each one = (each.0, each.1, each_more ms m each.0 mid new each.2 one)

-- it goes by the contract that it went by
each_stays : (ms : List Message) (old new : EndpointOf) → TakesEach ms old new → new.contract ≡ old.contract
each_stays [] old new each = ap (λ (e : EndpointOf). e.contract) each
each_stays (m ∷ ms) old new each = each_stays ms each.0 new each.2 ∙ ap (λ (e : EndpointOf). e.contract) each.1.1.0

-- no more messages come with a contract than may be numbered
each_few : (ms : List Message) (old new : EndpointOf) → TakesEach ms old new → is_some old.contract ≡ true → 1 ≤ length ms → length old.got + length ms ≤ MAX_MESSAGES
each_few [] old new each has some = absurd (omega arith)
each_few (m ∷ []) old new each has some = let no = each.1.0 in let few = each.1.4 has in omega (arith, no, few)
each_few (m ∷ n ∷ ms) old new each has some =
    let mid : EndpointOf = each.0 in let took = each.1.1.0 in
    let one : length mid.got ≡ length (old.got ++ m ∷ []) = ap (λ (e : EndpointOf). length e.got) took in
    let more = each_few (n ∷ ms) mid new each.2 (ap (λ (e : EndpointOf). is_some e.contract) took ∙ has) (omega arith) in
    omega (arith, one, length-append old.got (m ∷ []), more)

each_many : (ms : List Message) (old new : EndpointOf) → TakesEach ms old new → 18446744073709551615 ≤ length ms → is_some new.contract ≡ false
each_many ms old new each many =
    false_from_ne_true (is_some new.contract) (λ has. let few = each_few ms old new each (ap is_some (sym (each_stays ms old new each)) ∙ has) (omega arith) in absurd (omega (arith, few, many)))

each_way : (ms : List Message) (old new : EndpointOf) → TakesEach ms old new → direction_toward (endpoint new) ≡ direction_toward (endpoint old)
each_way [] old new each = ap (λ (p : EndpointOf). direction_toward (endpoint p)) each
each_way (m ∷ ms) old new each = each_way ms each.0 new each.2 ∙ way_taken m old each.0 each.1

-- where it has taken these, after n others, and then ends so
drained_of : (n : ℕ) (ms : List Message) (old last new : EndpointOf) → TakesEach ms old last → IsDrained (n + length ms) [] last new → IsDrained n ms old new
drained_of n [] old last new each end = subst (λ (p : EndpointOf). IsDrained n [] p new) each (⊎_elim inl (λ h. inr (omega (arith, h.0), h.1, h.2)) end)
drained_of n (m ∷ ms) old last new each end = (each.0, each.1, drained_of (suc n) ms each.0 last new each.2 (⊎_elim inl (λ h. inr (omega (arith, h.0), h.1, h.2)) end))

blocks_more : (ms : List Message) (m : Message) → flat_map (λ (m : Message). m.blocks.items) (ms ++ m ∷ []) ≡ flat_map (λ (m : Message). m.blocks.items) ms ++ m.blocks.items
blocks_more [] m = append-nil m.blocks.items
blocks_more (n ∷ ms) m = ap (λ (l : List ℕ). n.blocks.items ++ l) (blocks_more ms m) ∙ sym (append_assoc n.blocks.items (flat_map (λ (m : Message). m.blocks.items) ms) m.blocks.items)

-- a lot whose endpoint became another, and then another
does_then : (first next both : EndpointOf → EndpointOf → Type 0) → ((a b c : EndpointOf) → first a b → next b c → both a c) → (l m k : LotOf Body) → EndDoes first l m → EndDoes next m k
    → EndDoes both l k
does_then first next both f l m k one two = record {
  before = one.before;
  after = two.after;
  was = one.was;
  becomes = two.becomes ∙ ap (λ (z : LotOf Body). record z { body = End two.after }) one.becomes;
  did = f one.before one.after two.after one.did (subst (λ (p : EndpointOf). next p two.after) (one_end m.body two.before one.after two.was (ap (λ (z : LotOf Body). z.body) one.becomes)) two.did);
}

-- ---- a place whose endpoint did something, and then more

pub changes_then : (e : ℕ) (l m k : LotOf Body) (gained more : List (ℕ × LotOf Body)) (old mid new : PlaceSeen) (d : ℕ) → Changes e l m gained old mid → direction_toward (content_of l.body) ≡ d
    → Becomes (put e k mid.seat.lots ++ more) (mid.list ++ keys more) (accepted_on mid.seat.process d (items_of more)) mid new → Changes e l k (gained ++ more) old new
changes_then e l m k gained more old mid new d first way next =
    let p : ℕ = old.seat.process in let lots : List (ℕ × LotOf Body) = old.seat.lots in
    let all : put e k (put e m lots ++ gained) ++ more ≡ put e k lots ++ (gained ++ more) =
    ap (λ (z : List (ℕ × LotOf Body)). z ++ more) (put_front e k m (put e m lots) gained (put_at e m l lots first.0) ∙ ap (λ (z : List (ℕ × LotOf Body)). z ++ gained) (put_twice e k m lots))
    ∙ append_assoc (put e k lots) gained more in
    let one = subst (λ (n : ℕ). Becomes (put e m lots ++ gained) (old.list ++ keys gained) (accepted_on p n (items_of gained)) old mid) way first.1 in (
      first.0,
      subst (λ (z : List (ℕ × LotOf Body) × ℕ). Becomes z.0 (old.list ++ keys (gained ++ more)) (accepted_on p z.1 (items_of (gained ++ more))) old new) (λ i. (all i, sym way i))
          (came_twice d (put e k) (put e m lots ++ gained) gained more old mid new one next),
    )

-- a lot that became itself
unchanged : (e : ℕ) (l : LotOf Body) (old : PlaceSeen) → value_at e old.seat.lots ≡ Some l → Becomes (put e l old.seat.lots ++ []) (old.list ++ []) [] old old
unchanged e l old at = (
  (λ i. record { seat = with_lots old.seat ((sym (put_same e l old.seat.lots at) ∙ sym (append-nil (put e l old.seat.lots))) i); list = sym (append-nil old.list) i; state = old.state }),
  ([], sym (append-nil old.seat.front), refl),
)

-- ---- an endpoint that was drained

-- of what was seen until there
module _ (e : ℕ) (ms : List Message) (old mid new : PlaceSeen) (is : Drains TakesEach e ms old mid) (after : StartsWith new.seat.front mid.seat.front) where
  abbrev pub d : ℕ
  d = direction_toward (content_of is.0.body)

  pub draining_at : value_at e mid.seat.lots ≡ Some is.1
  draining_at = ap (λ (p : PlaceSeen). value_at e p.seat.lots) is.4.1.0 ∙ front_at e is.1 (put e is.1 old.seat.lots) is.2 (put_at e is.1 is.0 old.seat.lots is.4.0)

  -- its direction
  draining_way : (k : LotOf Body) → k ≡ is.1 → direction_toward (content_of k.body) ≡ d
  draining_way k same = ap (λ (z : LotOf Body). direction_toward (content_of z.body)) same ∙ ap (λ (z : LotOf Body). direction_toward (content_of z.body)) is.3.becomes
      ∙ each_way ms is.3.before is.3.after is.3.did ∙ sym (ap (λ (b : Body). direction_toward (content_of b)) is.3.was)

  -- it is an endpoint still
  pub draining_end : has_end (found mid.seat e) ≡ true
  draining_end = ap (λ (o : Option (LotOf Body)). has_end (option_map header_of (option_map item_of o))) draining_at ∙ ap (λ (z : LotOf Body). not (is_data (kind_of (content_of z.body)))) is.3.becomes

  one_lot : (k : LotOf Body) → value_at e mid.seat.lots ≡ Some k → k ≡ is.1
  one_lot k at = let both : Some k ≡ Some is.1 = sym at ∙ draining_at in cc

  had : AreFetched (IsSeen old.seat new.seat) d (flat_map (λ (m : Message). m.blocks.items) ms) (items_of is.2)
  had = all_fetched_as (IsSeen old.seat mid.seat) (IsSeen old.seat new.seat) (seen_wide old.seat mid.seat old.seat new.seat refl refl (starts_same refl) after) d
      (flat_map (λ (m : Message). m.blocks.items) ms) (items_of is.2) is.5

  pub draining_more : (taken : Taken) (t : IsTaken e mid new taken) → Drains TakesEach e (ms ++ t.message ∷ []) old new
  draining_more taken t =
      let same : t.before ≡ is.1 = one_lot t.before t.held.0 in let way = draining_way t.before same in
      let wide = seen_wide mid.seat new.seat old.seat new.seat (ap (λ (p : PlaceSeen). p.seat.shape) is.4.1.0) (ap (λ (p : PlaceSeen). p.seat.process) is.4.1.0)
      (did_starts old.seat.process (accepted_on old.seat.process d (items_of is.2)) old.seat.front mid.seat.front is.4.1.1) (starts_same refl) in
      let got = subst (λ (z : ℕ × List (ℕ × Item)). AreGot (IsSeen mid.seat new.seat) z.0 z.1 taken.blocks.items) (λ i. (way i, t.came i)) t.got in
      let one = subst (λ (rs : List ℕ). AreFetched (IsSeen old.seat new.seat) d rs (items_of t.gained)) t.told.2
      (fetched (IsSeen old.seat new.seat) d (items_of t.gained) taken.blocks.items
      (all_got_as (IsSeen mid.seat new.seat) (IsSeen old.seat new.seat) wide d (items_of t.gained) taken.blocks.items got)) in
      let list = subst (λ (z : ℕ × List (ℕ × Item)). Becomes (put e t.after mid.seat.lots ++ t.gained) (mid.list ++ keys t.gained) (accepted_on mid.seat.process z.0 z.1) mid new)
      (λ i. (way i, t.came i)) t.list in (
        is.0,
        t.after,
        is.2 ++ t.gained,
        does_then (TakesEach ms) (EndpointTakes (Ok t.message)) (TakesEach (ms ++ t.message ∷ [])) (each_more ms t.message) is.0 is.1 t.after is.3
            (subst (λ (z : LotOf Body). EndDoes (EndpointTakes (Ok t.message)) z t.after) same t.made),
        changes_then e is.0 is.1 t.after is.2 t.gained old mid new d is.4 refl list,
        subst (λ (z : List ℕ × List (ℕ × Item)). AreFetched (IsSeen old.seat new.seat) d z.0 z.1)
            (λ i. (sym (blocks_more ms t.message) i, sym (map-append (λ (x : ℕ × LotOf Body). (x.0, item_of x.1)) is.2 t.gained) i))
            (fetched_both (IsSeen old.seat new.seat) d (flat_map (λ (m : Message). m.blocks.items) ms) t.message.blocks.items (items_of is.2) (items_of t.gained) had one),
      )

  pub drained : (refused : Refused) (t : IsUntaken e mid new refused) → Drains (IsDrained 0) e ms old new
  drained refused t =
      let same : t.before ≡ is.1 = one_lot t.before t.held.0 in
      let none : Becomes (put e t.after mid.seat.lots ++ []) (mid.list ++ []) [] mid new = (
        t.list.0 ∙ (λ i. record {
          seat = record mid.seat { lots = sym (append-nil (put e t.after mid.seat.lots)) i; front = new.seat.front };
          list = sym (append-nil mid.list) i;
          state = mid.state;
        }),
        t.list.1,
      ) in (
        is.0,
        t.after,
        is.2,
        does_then (TakesEach ms) (EndpointTakes (Err t.none)) (IsDrained 0 ms) (λ a b c each one. drained_of 0 ms a b c each (inl (t.none, one))) is.0 is.1 t.after is.3
            (subst (λ (z : LotOf Body). EndDoes (EndpointTakes (Err t.none)) z t.after) same t.made),
        subst (λ (g : List (ℕ × LotOf Body)). Changes e is.0 t.after g old new) (append-nil is.2) (changes_then e is.0 is.1 t.after is.2 [] old mid new d is.4 refl none),
        had,
      )

pub drained_all : (e : ℕ) (ms : List Message) (old new : PlaceSeen) → Drains TakesEach e ms old new → 18446744073709551615 ≤ length ms → Drains (IsDrained 0) e ms old new
drained_all e ms old new is all = (
  is.0,
  is.1,
  is.2,
  record {
    before = is.3.before;
    after = is.3.after;
    was = is.3.was;
    becomes = is.3.becomes;
    did = drained_of 0 ms is.3.before is.3.after is.3.after is.3.did (inr (omega (arith, all), refl, each_many ms is.3.before is.3.after is.3.did all));
  },
  is.4,
  is.5,
)

pub draining_none : (e : ℕ) (l : LotOf Body) (p : EndpointOf) (old : PlaceSeen) → value_at e old.seat.lots ≡ Some l → l.body ≡ End p → Drains TakesEach e [] old old
draining_none e l p old at was = (l, l, [], record { before = p; after = p; was = was; becomes = (λ i. record l { body = was i }); did = refl }, (at, unchanged e l old at), refl)

-- ---- a block that is about to go

-- an endpoint was shut, and then drained
pub cleared : (r : ℕ) (l s : LotOf Body) (ms : List Message) (old mid new : PlaceSeen) → value_at r old.seat.lots ≡ Some l → EndDoes EndpointShuts l s
    → mid ≡ record old { seat = with_lots old.seat (put r s old.seat.lots) } → (is : Drains (IsDrained 0) r ms mid new) → Clears r l is.1 is.2 old new
cleared r l s ms old mid new at shut is_mid is =
    let here : value_at r mid.seat.lots ≡ Some s = ap (λ (p : PlaceSeen). value_at r p.seat.lots) is_mid ∙ put_at r s l old.seat.lots at in
    let both : Some is.0 ≡ Some s = sym is.4.0 ∙ here in let same : is.0 ≡ s = cc in
    let before : l.body ≡ End shut.before = shut.was in
    let one : is.3.before ≡ shut.after = one_end s.body is.3.before shut.after (ap (λ (z : LotOf Body). z.body) (sym same) ∙ is.3.was) (ap (λ (z : LotOf Body). z.body) shut.becomes) in
    let way : direction_toward (content_of is.0.body) ≡ direction_toward (content_of l.body) =
    ap (λ (b : Body). direction_toward (content_of b)) is.3.was ∙ ap (λ (p : EndpointOf). direction_toward (endpoint p)) one ∙ way_shut shut.before shut.after shut.did
    ∙ sym (ap (λ (b : Body). direction_toward (content_of b)) before) in
    let saw = IsSeen old.seat new.seat in
    let wide = subst (λ (p : PlaceSeen). AreFetched (IsSeen p.seat new.seat) (direction_toward (content_of is.0.body)) (flat_map (λ (m : Message). m.blocks.items) ms) (items_of is.2)) is_mid is.5 in
    let got = subst (λ (n : ℕ). AreFetched saw n (flat_map (λ (m : Message). m.blocks.items) ms) (items_of is.2)) (way ∙ ap (λ (b : Body). direction_toward (content_of b)) before) wide in
    let moved = subst (λ (p : PlaceSeen). Becomes (put r is.1 p.seat.lots ++ is.2) (p.list ++ keys is.2) (accepted_on p.seat.process (direction_toward (content_of is.0.body)) (items_of is.2)) p
    new) is_mid is.4.1 in
    let lots : put r is.1 (put r s old.seat.lots) ++ is.2 ≡ put r is.1 old.seat.lots ++ is.2 = ap (λ (z : List (ℕ × LotOf Body)). z ++ is.2) (put_twice r is.1 s old.seat.lots) in (
      (
        at,
        subst (λ (z : List (ℕ × LotOf Body) × ℕ). Becomes z.0 (old.list ++ keys is.2) (accepted_on old.seat.process z.1 (items_of is.2)) old new) (λ i. (lots i, way i)) moved,
      ),
      ap (λ (z : LotOf Body). z.len) is.3.becomes ∙ ap (λ (z : LotOf Body). z.len) same ∙ ap (λ (z : LotOf Body). z.len) shut.becomes,
      subst (λ (b : Body). EndsWith saw (content_of b) (items_of is.2)) (sym before)
          (ms, shut.after, is.3.after, shut.did, subst (λ (p : EndpointOf). IsDrained 0 ms p is.3.after) one is.3.did, got),
    )

-- nothing came with bytes
pub cleared_bytes : (r : ℕ) (l : LotOf Body) (old new : PlaceSeen) → value_at r old.seat.lots ≡ Some l → kind_of (content_of l.body) ≡ kind.Data → new ≡ old → Clears r l l [] old new
cleared_bytes r l old new at plain same = subst (λ (p : PlaceSeen). Clears r l l [] old p) (sym same) ((at, unchanged r l old at), refl, none (content_of l.body) plain) where
  none : (c : Content) → kind_of c ≡ kind.Data → EndsWith (IsSeen old.seat old.seat) c []
  none (bytes xs) e = refl
  none (endpoint p) e = absurd (cc)

-- where its kind is known, what is said of an endpoint alone
pub is_end : {b : Bool} {X : Type 0} (Y : Type 0) → b ≡ true → MatchBool b X Y → X
is_end {b} {X} Y e h = subst (λ (z : Bool). MatchBool z X Y) e h

pub when_end : {b : Bool} {X : Type 0} (Y : Type 0) → b ≡ true → X → MatchBool b X Y
when_end {b} {X} Y e h = subst (λ (z : Bool). MatchBool z X Y) (sym e) h

-- what is told of an option that is known
pub told_none : (A : Type 0) (B : ℕ → Type 0) (o : Option ℕ) → o ≡ None → MatchOption o A B → A
told_none A B o e h = subst (λ (z : Option ℕ). MatchOption z A B) e h

pub told_some : (A : Type 0) (B : ℕ → Type 0) (o : Option ℕ) (n : ℕ) → o ≡ Some n → MatchOption o A B → B n
told_some A B o n e h = subst (λ (z : Option ℕ). MatchOption z A B) e h

pub when_not : {b : Bool} {Y : Type 0} (X : Type 0) → b ≡ false → Y → MatchBool b X Y
when_not {b} {Y} X e h = subst (λ (z : Bool). MatchBool z X Y) (sym e) h

-- ---- a block on whose lot a take works, if it is an endpoint's

module _ {seat : Held Body} {xs : List ℕ} {room total : ℕ} {state : Status} (is : IsPlace seat.shape seat.lots xs room total state) (e : ℕ) {l : LotOf Body} (at : value_at e seat.lots ≡ Some l)
    (last : Held Body) (rel : EndpointOf → EndpointOf → Type 0) where
  pub tried_place : (way : Option ℕ) → (m : LotOf Body) × MatchOption way (m ≡ l) (λ _. EndDoes rel l m) × (last ≡ with_lots seat (put e m seat.lots))
      → IsPlace last.shape last.lots xs room total state
  tried_place None t = subst (λ (h : Held Body). IsPlace h.shape h.lots xs room total state)
      (sym (t.2 ∙ ap (λ (z : LotOf Body). with_lots seat (put e z seat.lots)) t.1 ∙ ap (with_lots seat) (put_same e l seat.lots at))) is
  tried_place (Some d) t = now_is seat last (now_of seat last (put e t.0 seat.lots) t.2)
      (changes is at (still_block rel (is.whole e l at) t.1) (ap (λ (n : ℕ). total + n) (sym (same_len rel (is.whole e l at) t.1))))

end_at : (l : LotOf Body) (k : Kind) → kind_of (content_of l.body) ≡ k → has_end (option_map header_of (option_map item_of (Some l))) ≡ not (is_data k)
end_at l k is = ap (λ (z : Kind). not (is_data z)) is

-- whether a block of the seat is an endpoint
pub kind_at : (seat : Held Body) (e : ℕ) {l : LotOf Body} → value_at e seat.lots ≡ Some l → (k : Kind) → kind_of (content_of l.body) ≡ k → has_end (found seat e) ≡ not (is_data k)
kind_at seat e {l} at k is = ap (λ (o : Option (LotOf Body)). has_end (option_map header_of (option_map item_of o))) at ∙ end_at l k is

-- ---- a call that did its tests before, which looked only

module _ (e : ℕ) (seat mid : Held Body) (list : List ℕ) (state : Status) (new : PlaceSeen) (same : Acts [] seat.lots seat mid) where
  abbrev pub was : PlaceSeen
  was = record { seat = mid; list = list; state = state }

  abbrev pub Now : Held Body → PlaceSeen
  Now h = record { seat = h; list = list; state = state }

  before : StartsWith mid.front seat.front
  before = did_starts seat.process [] seat.front mid.front same.1

  wide : (r : ℕ) (s : Sight) → IsSeen mid new.seat r s → IsSeen (record mid { front = seat.front }) new.seat r s
  wide = seen_wide mid new.seat (record mid { front = seat.front }) new.seat refl refl before (starts_same refl)

  pub sent_from : (tag : ℕ) (given : List ℕ) (result : Result ℕ Refused) → IsSent e tag given was new result → IsSent e tag given (Now seat) new result
  sent_from tag given result is =
      let p : ℕ = mid.process in let d : ℕ = away (content_of is.before.body) in
      subst (λ (h : Held Body). IsSent e tag given (Now h) new result) (looked_at seat mid same.0) (record {
        before = is.before;
        after = is.after;
        answered = is.answered;
        back = is.back;
        held = is.held;
        made = is.made;
        others = is.others;
        moved = (is.moved.0, did_since seat mid new.seat.front _ same is.moved.1);
        seen = on_err_weaker is.answered (all_fetched_as (IsSeenAfter d p mid.shape mid.front new.seat.front) (IsSeenAfter d p mid.shape seat.front new.seat.front)
            (after_wide d p mid.shape mid.front new.seat.front seat.front before) d given (shown new.seat.lots is.back)) is.seen;
        answer = is.answer;
      })

  pub taken_from : (taken : Taken) → IsTaken e was new taken → IsTaken e (Now seat) new taken
  taken_from taken is = subst (λ (h : Held Body). IsTaken e (Now h) new taken) (looked_at seat mid same.0) (record {
    before = is.before;
    after = is.after;
    message = is.message;
    gained = is.gained;
    blocks = is.blocks;
    came = is.came;
    held = is.held;
    made = is.made;
    told = is.told;
    list = (is.list.0, did_since seat mid new.seat.front _ same is.list.1);
    got = all_got_as (IsSeen mid new.seat) (IsSeen (record mid { front = seat.front }) new.seat) wide (direction_toward (content_of is.before.body)) is.blocks taken.blocks.items is.got;
  })

  pub untaken_from : (refused : Refused) → IsUntaken e was new refused → IsUntaken e (Now seat) new refused
  untaken_from refused is = subst (λ (h : Held Body). IsUntaken e (Now h) new refused) (looked_at seat mid same.0) (record {
    before = is.before;
    after = is.after;
    none = is.none;
    held = is.held;
    made = is.made;
    list = (is.list.0, did_since seat mid new.seat.front [] same is.list.1);
    answer = is.answer;
  })

  -- ---- a take at a block of the list by a process that runs

  -- what it did, where the block is an endpoint or isn't
  abbrev pub Tried : Bool → Result Taken Refused → Type 0
  Tried end result = MatchBool end (MatchResult result (IsTaken e was new) (IsUntaken e was new)) ((result ≡ Err NotEndpoint) × Stays was new)

  took : (result : Result Taken Refused) → MatchResult result (IsTaken e was new) (IsUntaken e was new) → MatchResult result (IsTaken e (Now seat) new) (IsUntaken e (Now seat) new)
  took (Ok taken) = taken_from taken
  took (Err refused) = untaken_from refused

  pub tried_empty : (result : Result Taken Refused) (end : Bool) → Tried end result → IfErr result (λ u. u ≡ Empty → Stays (Now seat) new)
  tried_empty (Ok taken) true h = tt
  tried_empty (Err refused) true h = empty_keeps e (Now seat) new refused (untaken_from refused h)
  tried_empty result false h = subst (λ (r : Result Taken Refused). IfErr r (λ u. u ≡ Empty → Stays (Now seat) new)) (sym h.0) (λ s. absurd (cc))

  pub tried : (result : Result Taken Refused) (s : Status) (l : LotOf Body) → first_refusal (start s) ≡ None → value_at e seat.lots ≡ Some l → Tried (has_end (found mid e)) result
      → TakesAt s e (Now seat) new result
  tried result Running l fine at h = go (kind_of (content_of l.body)) refl where
    here : found seat e ≡ Some (header_of (item_of l))
    here = ap (λ (o : Option (LotOf Body)). option_map header_of (option_map item_of o)) at

    mid_end : has_end (found mid e) ≡ not (is_data (kind_of (content_of l.body)))
    mid_end = ap (λ (h : Held Body). has_end (found h e)) same.0 ∙ ap has_end here

    tests : (k : Kind) → kind_of (content_of l.body) ≡ k → first_refusal (start Running ++ end_tests (found seat e)) ≡ first_refusal (end_tests (Some (record { len = l.len; kind = k })))
    tests k is = ap (λ o. first_refusal (end_tests o)) here ∙ ap (λ k. first_refusal (end_tests (Some (record { len = l.len; kind = k })))) is

    go : (k : Kind) → kind_of (content_of l.body) ≡ k → TakesAt Running e (Now seat) new result
    go kind.End is = unrefused (start Running ++ end_tests (found seat e)) result (Stays (Now seat) new) (MatchResult result (IsTaken e (Now seat) new) (IsUntaken e (Now seat) new))
        (tests kind.End is)
        (took result (subst (λ (b : Bool). Tried b result) (mid_end ∙ ap (λ k. not (is_data k)) is) h))
    go kind.Data is =
        let no = subst (λ (b : Bool). Tried b result) (mid_end ∙ ap (λ k. not (is_data k)) is) h in
        subst (λ (o : Option Refused). MatchOption o (MatchResult result (IsTaken e (Now seat) new) (IsUntaken e (Now seat) new)) (λ (r : Refused). (result ≡ Err r) × Stays (Now seat) new))
        (sym (tests kind.Data is)) (no.0, stays_again (Now seat) was new ((λ i. Now (same.0 i)), same.1) no.1)
  tried result s l fine at h = absurd (cc)
