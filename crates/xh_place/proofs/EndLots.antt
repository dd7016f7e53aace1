-- An endpoint that a call works on in its lot.
use Rattle.xh_place.proofs.Words.{rules, END_BYTES, ◌≡◌, ℕ, true, refl, sym, ap, ◌∙◌, subst, LotOf, Shape, EndpointOf, Body, End, content_of, endpoint, fits_in, EndDoes, IsBlock, Content, bytes}
use Rattle.xh_place.proofs.Words.{kind_of}
use Rattle.xh_place.proofs.Words.{Err, EndpointTakes, IsUntaken, PlaceSeen, Refused, Stays, put, put_same, with_lots}
use Rattle.xh_place.specs.Bodies.{IsEndAt}
use Rattle.xh_channel.specs.declared.refused.Refused.{Refused as NoMessage}
use Rattle.xh_channel.specs.declared.refused.Refused.TheVariants as none
use Rattle.xh_channel.specs.Refusals.{same_refusal}
use Rattle.xh_core.specs.declared.refused.Refused.TheVariants.{Empty}
use Rattle.xh_core.specs.declared.header.Kind.TheVariants as kind

-- who is at a channel and a side is an endpoint
pub end_kind : (c : Content) (channel side : ℕ) → IsEndAt c channel side → kind_of c ≡ kind.End
end_kind (bytes xs) channel side h = absurd h
end_kind (endpoint e) channel side h = refl

end_long : (n : ℕ) (p : EndpointOf) → fits_in (End p) n ≡ true → n ≡ END_BYTES
end_long n p e = search rules

module _ (does : EndpointOf → EndpointOf → Type 0) {s : Shape} {e : ℕ} {l m : LotOf Body} (block : IsBlock s e l) (moved : EndDoes does l m) where
  fits : fits_in (End moved.before) l.len ≡ true
  fits = sym (ap (λ (b : Body). fits_in b l.len) moved.was) ∙ block.full.1

  pub is_long : l.len ≡ END_BYTES
  is_long = end_long l.len moved.before fits

  -- the lot is a block still
  pub still_block : IsBlock s e m
  still_block = subst (IsBlock s e) (sym moved.becomes) record { exists = block.exists; lot = block.lot; full = (block.full.0, fits) }

  pub same_len : m.len ≡ l.len
  same_len = ap (λ (z : LotOf Body). z.len) moved.becomes

-- ---- a take that answers Empty changes nothing

same_end : (p q : EndpointOf) → EndpointTakes (Err none.Empty) p q → q ≡ p
same_end p q t = t.1.0 ∙ (λ i. record p { peer_shut = (t.0.2 ∙ sym t.0.1) i })

pub empty_keeps : (e : ℕ) (old new : PlaceSeen) (refused : Refused) → IsUntaken e old new refused → refused ≡ Empty → Stays old new
empty_keeps e old new refused t is = go t.none t.made (sym is ∙ t.answer) where
  go : (n : NoMessage) → EndDoes (EndpointTakes (Err n)) t.before t.after → Empty ≡ same_refusal n → Stays old new
  go none.Empty d h =
      let same : t.after ≡ t.before = d.becomes ∙ (λ i. record t.before { body = (ap (λ (p : EndpointOf). End p) (same_end d.before d.after d.did) ∙ sym d.was) i }) in (
        t.list.0 ∙ (λ i. record {
          seat = record old.seat { lots = (ap (λ (z : LotOf Body). put e z old.seat.lots) same ∙ put_same e t.before old.seat.lots t.held.0) i; front = new.seat.front };
          list = old.list;
          state = old.state;
        }),
        t.list.1,
      )
  go n d h = absurd (cc)
