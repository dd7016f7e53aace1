-- What the looks at several endpoints find, from one look to the next.
use Rattle.xh_calls.proofs.Common.{AnswersAt, FindNone, AreEnds, AreReady, Bool, Empty, EndDoes, Err, HaveLooked, HaveNone, IsUntaken, List, None, NotEndpoint, Ok, Option, PeerClosed, Stays}
use Rattle.xh_calls.proofs.Common.{PlaceSeen, Refused, Result, Some, [], ap, append_assoc, arith, peer_closed, cond, end_tests, first_later, first_refusal, found, inl, inr, not, refl}
use Rattle.xh_calls.proofs.Common.{TakesAt, drop, get_or, length, start, status_at, subst, suc, sym, take, true, ℕ, ◌+◌, ◌<◌, ⊎_elim, ◌++◌, ◌∙◌, ◌∷◌, ◌≡◌, ◌⊎◌}
use Rattle.std.specs.Option.{option_or}
use Rattle.std.specs.Prelude.{◌≢◌}
use Rattle.std.proofs.lemmas.List.{drop_more, length-take-le, set-get_or, set_split, take_more}
use Rattle.xh_calls.specs.inner.Looking.{HasAnswer}
use Rattle.xh_channel.specs.declared.refused.Refused.{Refused as NoMessage}
use Rattle.xh_channel.specs.declared.refused.Refused.TheVariants as none
use Rattle.xh_channel.specs.Refusals.{same_refusal}
use Rattle.xh_core.specs.Headers.{has_end}
use Rattle.xh_core.specs.declared.header.Header.{Header}
use Rattle.xh_model.proofs.Keyed.{put_at, put_other}
use Rattle.xh_place.specs.declared.got.Taken.{Taken}
use Rattle.xh_channel.specs.Calls.{EndpointTakes}
use Rattle.xh_calls.specs.declared.several.AnsweredAt.{AnsweredAt}

-- ---- endpoints stay

stays : (e r : ℕ) (p q : PlaceSeen) (why : Refused) → IsUntaken e p q why → has_end (found p.seat r) ≡ true → has_end (found q.seat r) ≡ true
stays e r p q why d h =
    let lots = ap (λ (x : PlaceSeen). x.seat.lots) d.list.0 in let was = d.held.0 in let is = d.made.becomes in let body = d.made.was in
    rw lots (grind (arith, put_at, put_other))

all_stay : (e : ℕ) (es : List ℕ) (p q : PlaceSeen) (why : Refused) → IsUntaken e p q why → AreEnds (found p.seat) es → AreEnds (found q.seat) es
all_stay e [] p q why d h = h
all_stay e (r ∷ rs) p q why d h = (stays e r p q why d h.0, all_stay e rs p q why d h.1)

end_passes : (o : Option Header) → has_end o ≡ true → first_refusal (end_tests o) ≡ None
end_passes None h = absurd (cc)
end_passes (Some b) h = ap (λ (x : Bool). cond (not x) (Some NotEndpoint) None) h

-- ---- a look that finds no message

module _ (p e : ℕ) (s t : PlaceSeen) (why : Refused) (runs : first_refusal (start (status_at p s)) ≡ None) (end : has_end (found s.seat e) ≡ true) (takes : TakesAt
    (status_at p s) e s t (Err why)) where
  untaken : IsUntaken e s t why
  untaken = rw (first_later (start (status_at p s)) (end_tests (found s.seat e)) runs ∙ end_passes (found s.seat e) end) at takes

  pub ready_after : (es : List ℕ) → AreEnds (found s.seat) es → AreReady p t es
  ready_after es h = (ap (λ (x : PlaceSeen). first_refusal (start (status_at p x))) untaken.list.0 ∙ runs, all_stay e es s t why untaken h)

  which : (why ≡ Empty) ⊎ (why ≡ peer_closed)
  which = go untaken.none untaken.made untaken.answer where
    go : (n : NoMessage) → EndDoes (EndpointTakes (Err n)) untaken.before untaken.after → why ≡ same_refusal n → (why ≡ Empty) ⊎ (why ≡ peer_closed)
    go none.Empty d h = inl h
    go (none.PeerClosed back) d h = inr (h ∙ ap (λ (xs : List ℕ). PeerClosed (record { items = xs })) d.did.0.0)
    go n d h = absurd d.did.0

-- ---- looks one after the other

none_more : (p e : ℕ) (es : List ℕ) (s t u : PlaceSeen) (why : Refused) → HaveNone p es s t → TakesAt (status_at p t) e t u (Err why) → HaveNone p (es ++ e ∷ []) s u
none_more p e [] s t u why h k = (u, why, subst (λ (x : PlaceSeen). TakesAt (status_at p x) e x u (Err why)) h k, refl)
none_more p e (x ∷ es) s t u why h k = (h.0, h.1, h.2, none_more p e es h.0 t u why h.3 k)

empty_more : (p e : ℕ) (es : List ℕ) (s t u : PlaceSeen) → FindNone p es s t → TakesAt (status_at p t) e t u (Err Empty) → Stays t u → FindNone p (es ++ e ∷ []) s u
empty_more p e [] s t u h k same = (u, subst (λ (x : PlaceSeen). TakesAt (status_at p x) e x u (Err Empty)) h k, subst (λ (x : PlaceSeen). Stays x u) h same, refl)
empty_more p e (x ∷ es) s t u h k same = (h.0, h.1, h.2, empty_more p e es h.0 t u h.3 k same)

abbrev answered : ℕ → Result Taken Refused → AnsweredAt
answered at answer = record { at = at; answer = answer }

module _ (p e : ℕ) (es : List ℕ) (s t u : PlaceSeen) where
  -- an endpoint without a message is the last
  behind : (at : ℕ) (why : Refused) → TakesAt (status_at p t) e t u (Err why) → AnswersAt p es s t (answered at (Err peer_closed))
      → AnswersAt p (es ++ e ∷ []) s u (answered at (Err peer_closed))
  behind at why k h = record {
    before = h.before;
    e = h.e;
    after = h.after ++ e ∷ [];
    first = h.first;
    mid = h.mid;
    ends_are = ap (λ (xs : List ℕ). xs ++ e ∷ []) h.ends_are ∙ append_assoc h.before (h.e ∷ h.after) (e ∷ []);
    index = h.index;
    takes = h.takes;
    looks = (h.looks.0, h.looks.1, none_more p e h.after h.mid t u why h.looks.2 k);
  }

-- the endpoint of the index is looked at, behind those that have no message
module _ (p : ℕ) (ends : List ℕ) (at : ℕ) (s t u : PlaceSeen) (below : at < length ends) where
  abbrev e : ℕ
  e = get_or ends at 0

  pub took : (taken : Taken) → HaveNone p (take at ends) s t → TakesAt (status_at p t) e t u (Ok taken) → AnswersAt p ends s u (answered at (Ok taken))
  took taken h k = record {
    before = take at ends;
    e = e;
    after = drop (suc at) ends;
    first = t;
    mid = u;
    ends_are = sym (set-get_or ends at 0) ∙ set_split ends at e below;
    index = sym (length-take-le at ends (omega arith));
    takes = k;
    looks = (h, refl);
  }

  module _ (why : Refused) (ready : AreReady p t (drop at ends)) (k : TakesAt (status_at p t) e t u (Err why)) where
    here : AreReady p t (e ∷ drop (at + 1) ends)
    here = subst (AreReady p t) (drop_more ends at 0 below) ready

    still_ready : AreReady p u (drop (at + 1) ends)
    still_ready = ready_after p e t u why here.0 here.1.0 k (drop (at + 1) ends) here.1.1

    -- it is empty
    pub empty : (closed : Option (ℕ × Refused)) → why ≡ Empty → Stays t u → HaveLooked p (take at ends) s t closed
        → AreReady p u (drop (at + 1) ends) × HaveLooked p (take (at + 1) ends) s u closed
    empty closed is same h = (still_ready, rw (take_more ends at 0 below) (none_more p e (take at ends) s t u why h.0 k, go closed h.1)) where
      go : (c : Option (ℕ × Refused)) → HasAnswer p (take at ends) s t c → HasAnswer p (take at ends ++ e ∷ []) s u c
      go None none = empty_more p e (take at ends) s t u none (rw is at k) same
      go (Some c) a = (a.0, rw a.0 (behind p e (take at ends) s t u c.0 why k (rw a.0 at a.1)))

    -- its peer is closed
    pub shut : (closed : Option (ℕ × Refused)) → (why ≢ Empty) → HaveLooked p (take at ends) s t closed
        → AreReady p u (drop (at + 1) ends) × HaveLooked p (take (at + 1) ends) s u (option_or closed (Some (at, why)))
    shut closed other h = (still_ready, rw (take_more ends at 0 below) (none_more p e (take at ends) s t u why h.0 k, go closed h.1)) where
      is : why ≡ peer_closed
      is = ⊎_elim (λ (w : why ≡ Empty). absurd (other w)) (λ (w : why ≡ peer_closed). w) (which p e t u why here.0 here.1.0 k)

      go : (c : Option (ℕ × Refused)) → HasAnswer p (take at ends) s t c → HasAnswer p (take at ends ++ e ∷ []) s u (option_or c (Some (at, why)))
      go None none = (
        is,
        record {
          before = take at ends;
          e = e;
          after = [];
          first = t;
          mid = u;
          ends_are = refl;
          index = sym (length-take-le at ends (omega arith));
          takes = k;
          looks = (is, none, refl);
        },
      )
      go (Some c) a = (a.0, rw a.0 (behind p e (take at ends) s t u c.0 why k (rw a.0 at a.1)))
