-- What an end keeps and shows.
use Rattle.xh_channel.proofs.Common.{◌++◌, ◌∷◌, [], AgreesWith, Bool, EndpointOf, EndpointTakes, Err, LineView, SeatDoes}
use Rattle.xh_channel.proofs.Common.{List, None, Ok, QueueView, Result, Some, ap, arith, cond, endpoint_of, false, is_some, length, length_push, on_line, refl, subst}
use Rattle.xh_channel.proofs.Common.{suc, sym, take, take-length, true, true≢false, ℕ, ◌∙◌, ◌≡◌, ◌≤◌}
use Rattle.xh_model.specs.declared.row.Row.{Row}
use Rattle.xh_channel.specs.declared.spot.Spot.{Spot}
use Rattle.xh_channel.specs.inner.ClosedWords.{ClosedView}
use Rattle.xh_channel.specs.declared.message.Message.{Message}
use Rattle.xh_channel.specs.declared.refused.Refused.{Refused}
use Rattle.xh_channel.specs.Directions.{WaitsAfter}
use Rattle.xh_channel.specs.inner.Ends.{IsByLine, IsEnd}
use Rattle.xh_model.specs.declared.limits.TheConstants.{MAX_MESSAGES}

pub is_ruled : (b : Bool) (rows : List Row) → is_some (cond b (Some rows) None) ≡ b
is_ruled true rows = refl
is_ruled false rows = refl

pub agrees : (s t : Spot) (a b : Bool) (o p i j : QueueView) (v w : ClosedView) (m n : ℕ) (k l : LineView) → a ≡ false → b ≡ false
    → i.role.told_put ≤ length p.role.sent → o.role.told_taken ≤ length j.role.got → (items : List Message) × WaitsAfter p.role.sent i.role.got items
    → (v.peer_shut ≡ false → m ≡ length o.role.sent) → (v.peer_shut ≡ true → w.shut ≡ true)
    → AgreesWith (endpoint_of s a o i v m k) (endpoint_of t b p j w n l)
agrees s t true b o p i j v w m n k l x y put taken prefix all shut = absurd (true≢false x)
agrees s t false true o p i j v w m n k l x y put taken prefix all shut = absurd (true≢false y)
agrees s t false false o p i j v w m n k l x y put taken prefix all shut =
    record { told_put = put; told_taken = taken; told_shut = shut; taken = prefix; sent = λ saw. sym (ap (λ z. take z o.role.sent) (all saw) ∙ take-length o.role.sent) }

-- a take leaves what was sent, and a put adds one message to it
pub take_sent : (old new : EndpointOf) (r : Result Message Refused) → EndpointTakes r old new → new.sent ≡ old.sent
take_sent old new (Ok m) t = ap (λ (e : EndpointOf). e.sent) t.1.0
take_sent old new (Err refused) t = ap (λ (e : EndpointOf). e.sent) t.1.0

pub put_sent : (old new : EndpointOf) (m : Message) (n : ℕ) → new ≡ record old { sent = old.sent ++ m ∷ []; pushed = old.pushed ++ m ∷ []; state = new.state }
    → n ≡ suc (length old.sent) → n ≡ length new.sent
put_sent old new m n goes is = let same = ap (λ (e : EndpointOf). length e.sent) goes in omega (arith, length_push old.sent m, same, is)

-- the end whose channel has a contract, by its seat at the line
pub lined : (s : Spot) (b : Bool) (o i : QueueView) (w : ClosedView) (m n : ℕ) (k l : LineView) → b ≡ true → l.depth ≡ o.depth → on_line (endpoint_of s b o i w m k) l ≡ endpoint_of s b o i w n l
lined s true o i w m n k l _ deep = λ j. record (endpoint_of s true o i w n l) { depth = deep j }
lined s false o i w m n k l h _ = absurd (true≢false (sym h))

module _ {s : Spot} {b : Bool} {o i : QueueView} {w : ClosedView} {m : ℕ} {k : LineView} (is : IsEnd s b o i w m k) {now : EndpointOf} (view : endpoint_of s b o i w m k ≡ now) where
  -- whether its channel has a contract
  pub ruled : (t : Bool) → is_some now.contract ≡ t → b ≡ t
  ruled t h = sym (is_ruled b k.rows) ∙ ap (λ (e : EndpointOf). is_some e.contract) view ∙ h

  module _ (has : is_some now.contract ≡ true) where
    abbrev by_seat : IsByLine o i w m k
    by_seat = is.by_line (ruled true has)

    pub seen_lined : on_line now k ≡ now
    seen_lined = subst (λ (e : EndpointOf). on_line e k ≡ e) view (lined s b o i w m m k k (ruled true has) by_seat.2)

    -- it does what its seat does
    pub as_seat : (l : LineView) → l.depth ≡ k.depth → (R : EndpointOf → EndpointOf → Type 0) → SeatDoes k l R → (n : ℕ) → R now (endpoint_of s b o i w n l)
    as_seat l same R does n =
        let after = ap (λ (e : EndpointOf). on_line e l) (sym view) ∙ lined s b o i w m n k l (ruled true has) (same ∙ by_seat.2) in
        subst (λ (x : EndpointOf × EndpointOf). R x.0 x.1) (λ j. (seen_lined j, after j)) (does now (ap (λ (e : EndpointOf). e.spot.side) (sym view) ∙ sym is.own_seat))

    pub still_end : (l : LineView) → (l.side ≡ k.side) × (l.depth ≡ k.depth) → (n : ℕ) → n ≤ MAX_MESSAGES → n ≡ length l.sent → IsEnd s b o i w n l
    still_end l same n few count = record {
      own_word = is.own_word;
      own_seat = same.0 ∙ is.own_seat;
      pushes = is.pushes;
      pops = is.pops;
      numbers = few;
      by_line = λ p. let was = is.by_line p in (was.0, subst (λ (d : ℕ). 1 ≤ d) (sym same.1) was.1, same.1 ∙ was.2, count);
      by_queues = λ p. absurd (true≢false (sym (ruled true has) ∙ p));
    }
