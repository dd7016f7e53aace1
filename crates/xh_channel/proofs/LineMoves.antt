-- What a put, a take and a shut of the line that a seat holds make of its account, and what contracts see of that.
use Rattle.xh_channel.proofs.Common.{LineAccount, Bool, Counts, EndpointOf, EndpointPuts, EndpointShuts, EndpointTakes, Err, Grows, IfOk, IsEndBy, IsSettled, IsSome, LiesFor, LineEnd}
use Rattle.xh_channel.proofs.Common.{LinePuts, LineShuts, LineTakes, LineView, SeatDoes, Lined, List, Me, Message, None, Ok}
use Rattle.xh_channel.proofs.Common.{OnErr, OnlySaw, Option, LinePart, Result, Some, TableId, [], ap, append_assoc, arith}
use Rattle.xh_channel.proofs.Common.{line_end_of, false, false_from_ne_true, holding, inl, inr, length, length-append, length_push, line_view, on_line}
use Rattle.xh_channel.proofs.Common.{now_shut, numbers_before, numbers_join, one_put, one_taken, refl, rest, subst, suc, sym, take, take-append_seam, true, true≢false, unwrap_or, waiting}
use Rattle.xh_channel.proofs.Common.{zero, ℕ, ⊎_elim, ◌++◌, ◌+◌, ◌-◌, ◌<◌, ◌||◌, ◌∙◌, ◌∷◌, ◌≡◌, ◌≤◌}
use Rattle.arrayvec.specs.ArrayVec.{ArrayVec}
use Rattle.xh_model.specs.declared.row.Row.{Row}
use Rattle.xh_channel.proofs.Common.{AreNumberedFrom, ◌⊎◌}
use Rattle.xh_channel.specs.Directions.{WaitsAfter}
use Rattle.xh_model.specs.Rows.{allowed}
use Rattle.xh_channel.specs.declared.refused.Refused.{Refused}
use Rattle.xh_channel.specs.declared.refused.Refused.TheVariants as refused
use Rattle.xh_channel.specs.declared.unsent.Unsent.{Unsent}
use Rattle.xh_channel.specs.declared.unsent.Unsent.TheVariants.{Full, PeerClosed, Protocol}
use Rattle.xh_channel.specs.inner.LineRule.{Found, IsTold, counts_in, own_by, peer_by, settled_part, settled_by}
use Rattle.xh_model.specs.declared.limits.TheConstants.{MAX_MESSAGES}
use Rattle.xh_channel.specs.Directions.{message_number}

-- what was seen of the peer leaves what was pushed
none_pushed : (old new : EndpointOf) (m : Message) → OnlySaw old new
    → OnlySaw (record old { pushed = new.pushed }) new × ((new.pushed ≡ old.pushed) ⊎ ((new.pushed ≡ old.pushed ++ m ∷ []) × (new.peer_shut ≡ true)))
none_pushed old new m saw =
    let same : new.pushed ≡ old.pushed = ap (λ (e : EndpointOf). e.pushed) saw.0 in
    ((saw.0 ∙ (λ i. record old { pushed = sym same i; peer_shut = new.peer_shut }), saw.1), inl same)

or_right : (a b : Bool) → b ≡ true → (a || b) ≡ true
or_right true b e = refl
or_right false b e = e

-- a line lies where the seat's side has a depth
pub has_line : (k : ℕ) (l : Option Lined) (own peer : LineAccount) → LiesFor k l own peer → 1 ≤ own.depth → (line : Lined) × (l ≡ Some line)
has_line k (Some line) own peer lies begun = (line, refl)
has_line zero None own peer lies begun = let none = ap (λ (a : LineAccount). a.depth) lies.0 in absurd (omega arith)
has_line (suc k) None own peer lies begun = let none = ap (λ (a : LineAccount). a.depth) lies.1 in absurd (omega arith)

abbrev Ends : ℕ → Lined → LineAccount → LineAccount → Type 0
Ends k line own peer = IsEndBy line (line_end_of line k) own peer × IsEndBy line (line_end_of line (1 - k)) peer own

ends : (k : ℕ) (line : Lined) (own peer : LineAccount) → k ≤ 1 → LiesFor k (Some line) own peer → Ends k line own peer
ends zero line own peer few lies = lies
ends (suc zero) line own peer few lies = (lies.1, lies.0)
ends (suc (suc k)) line own peer few lies = absurd (omega arith)

lies : (k : ℕ) (line : Lined) (own peer : LineAccount) → k ≤ 1 → Ends k line own peer → LiesFor k (Some line) own peer
lies zero line own peer few e = e
lies (suc zero) line own peer few e = (e.1, e.0)
lies (suc (suc k)) line own peer few e = absurd (omega arith)

-- the account as a part of the line
abbrev placed : LineAccount → List Row → ℕ → ℕ → LineAccount
placed a rows depth state = record a { rows = rows; depth = depth; state = state }

-- the accounts that the seat has by the line are those of which it is true
pub accounts : (v : LinePart) (peer own : LineAccount) (rows : List Row) (depth state : ℕ) (line : Lined) → Ends v.side line own (placed peer rows depth state)
    → (own_by (holding v peer) line ≡ own) × (peer_by (holding v peer) line ≡ placed peer rows depth state)
accounts v peer own rows depth state line e =
    let counts = e.0.counts in (
      (λ i. record {
        rows = e.0.rows i;
        depth = e.0.depth i;
        state = e.0.state i;
        sent = sym e.1.waits.0 i;
        got = (ap (λ (c : Counts). take c.taken peer.sent) counts ∙ ap (take (length own.got)) e.0.waits.0 ∙ take-append_seam own.got (waiting (line_end_of line v.side))) i;
        shut = (counts i).shut;
      }),
      (λ i. record peer { rows = e.1.rows i; depth = e.1.depth i; state = e.1.state i }),
    )

settled_so : (v : LinePart) (peer own : LineAccount) (line : Lined) → v.side ≤ 1 → Ends v.side line own peer → Grows v.own own → IsTold v.told peer
    → IsSettled (holding v peer) line × (own_by (holding v peer) line ≡ own)
settled_so v peer own line few e grows told = let a = accounts v peer own peer.rows peer.depth peer.state line e in (
  (
    subst (λ (x : LineAccount × LineAccount). LiesFor v.side (Some line) x.0 x.1) (λ i. (sym a.0 i, sym a.1 i)) (lies v.side line own peer few e),
    subst (Grows v.own) (sym a.0) grows,
    inl a.1,
    told,
  ),
  a.0,
)

module _ (table : TableId) (v : LinePart) (peer : LineAccount) (line line' : Lined) (found : Found v peer line) where
  abbrev k : ℕ
  k = v.side

  abbrev own : LineAccount
  own = v.own

  abbrev was : Ends k line own peer
  was = ends k line own peer found.few found.lies

  -- the peer's end stays, and what this side sent
  peer_same : line'.rows ≡ line.rows → line'.depth ≡ line.depth → line_end_of line' (1 - k) ≡ line_end_of line (1 - k) → (own' : LineAccount) → own.sent ≡ own'.sent → IsEndBy line' (line_end_of line' (1 - k)) peer own'
  peer_same rows depth same own' sent = record {
    rows = rows ∙ was.1.rows;
    depth = depth ∙ was.1.depth;
    state = ap (λ (x : LineEnd). x.state) same ∙ was.1.state;
    counts = ap (λ (x : LineEnd). x.counts) same ∙ was.1.counts;
    waits = subst (λ (x : List Message × LineEnd). WaitsAfter x.0 peer.got (waiting x.1)) (λ i. (sent i, sym same i)) was.1.waits;
  }

  -- what contracts see of the seat once it gave the line back
  abbrev seen : LineView
  seen = line_view table (settled_by (holding v peer) (Some line'))

  abbrev saw : Bool
  saw = v.told.shut || peer.shut

  seen_is : (own' : LineAccount) → own_by (holding v peer) line' ≡ own' → seen ≡ record (line_view table (record v { own = own' })) { peer_shut = saw }
  seen_is own' is = ap (λ (a : LineAccount). record (line_view table (record v { own = a })) { peer_shut = saw }) is

  saw_no_less : v.told.shut ≡ true → saw ≡ true
  saw_no_less e = ap (λ b. b || peer.shut) e

  saw_shut : (line_end_of line (1 - k)).counts.shut ≡ true → saw ≡ true
  saw_shut e = or_right v.told.shut peer.shut (ap (λ (c : Counts). c.shut) (sym was.1.counts) ∙ e)

  saw_open : (line_end_of line (1 - k)).counts.shut ≡ false → (v.told.shut ≡ false) × (saw ≡ false)
  saw_open e =
      let closed : peer.shut ≡ false = ap (λ (c : Counts). c.shut) (sym was.1.counts) ∙ e in
      let told = false_from_ne_true v.told.shut (λ p. true≢false (sym (found.told.2 p) ∙ closed)) in
      (told, (λ i. told i || closed i))

  -- where the line stayed as it was
  kept : line' ≡ line → IsSettled (holding v peer) line' × (own_by (holding v peer) line' ≡ own)
  kept same = settled_so v peer own line' found.few (subst (λ (l : Lined). Ends k l own peer) (sym same) was) (omega arith, omega arith, λ p. p) found.told

  only_saw : line' ≡ line → (e : EndpointOf) → OnlySaw (on_line e (line_view table v)) (on_line e seen)
  only_saw same e = (ap (on_line e) (seen_is own (kept same).1), saw_no_less)

  -- what the contract allows by the line it allows by the account
  step_by : (tag side : ℕ) (next : Option ℕ) → allowed line.rows (line_end_of line k).state tag side ≡ next → allowed own.rows own.state tag side ≡ next
  step_by tag side next e = (λ i. allowed (sym was.0.rows i) (sym was.0.state i) tag side) ∙ e

  module _ (tag : ℕ) (blocks : ArrayVec ℕ) where
    abbrev next_message : Message
    next_message = record { no = suc (length own.sent); tag = tag; blocks = blocks }

    next_at : (e : EndpointOf) → e.spot.side ≡ k → (next : Option ℕ) → allowed line.rows (line_end_of line k).state tag k ≡ next → allowed own.rows own.state tag e.spot.side ≡ next
    next_at e at next is = ap (allowed own.rows own.state tag) at ∙ step_by tag k next is

    full : length (waiting (line_end_of line (1 - k))) ≡ line.depth → v.told.taken + own.depth ≤ length own.sent
    full e = let sent = ap length was.1.waits.0 in let deep = was.0.depth in let told = found.told.1 in omega (arith, length-append peer.got (waiting (line_end_of line (1 - k))))

    pub put_done : (r : Result ℕ Unsent) → LinePuts line line' k tag blocks r → OnErr r (line' ≡ line)
        → IsSettled (holding v peer) line' × SeatDoes (line_view table v) seen (EndpointPuts tag blocks r)
    put_done (Ok n) p _ =
        let m : Message = record { no = n; tag = tag; blocks = blocks } in
        let o = was.0 in
        let e = was.1 in
        let r = p.put in
        let is_next : n ≡ suc (length own.sent) = r.0 ∙ ap (λ (c : Counts). suc c.put) o.counts in
        let longer : length (own.sent ++ m ∷ []) ≡ suc (length own.sent) = omega (arith, length_push own.sent m) in
        let numbered = numbers_join message_number 0 own.sent m e.waits.1 (is_next ∙ ap suc (omega arith)) in
        let own' : LineAccount = record own { sent = own.sent ++ m ∷ []; state = (line_end_of line' k).state } in
        let counts : counts_in own' ≡ one_put (counts_in own) = λ i. record { put = longer i; taken = length own.got; shut = own.shut } in
        let ends' : Ends k line' own' peer = (
          record {
            rows = p.rules.0 ∙ o.rows;
            depth = p.rules.1 ∙ o.depth;
            state = refl;
            counts = r.1 ∙ ap one_put o.counts ∙ sym counts;
            waits = subst (WaitsAfter peer.sent own.got) (sym p.waits) o.waits;
          },
          record {
            rows = p.rules.0 ∙ e.rows;
            depth = p.rules.1 ∙ e.depth;
            state = p.state ∙ e.state;
            counts = p.counts ∙ e.counts;
            waits = (ap (λ l. l ++ m ∷ []) e.waits.0 ∙ append_assoc peer.got (waiting (line_end_of line (1 - k))) (m ∷ []) ∙ ap (λ l. peer.got ++ l) (sym r.3), numbered);
          },
        ) in
        let s = settled_so v peer own' line' found.few ends' (omega arith, omega arith, λ q. q) found.told in
        let unshut = saw_open r.2 in
        let after : LineView = record (line_view table (record v { own = own' })) { peer_shut = saw } in
        let same : after ≡ record after { peer_shut = v.told.shut } = λ i. record after { peer_shut = (unshut.1 ∙ sym unshut.0) i } in
        let so : SeatDoes (line_view table v) after (EndpointPuts tag blocks (Ok n)) =
        λ f at. (is_next, unshut.0, ap (on_line f) same, numbered, next_at f at (Some own'.state) r.4) in
        (s.0, λ f at. subst (λ x. EndpointPuts tag blocks (Ok n) (on_line f (line_view table v)) (on_line f x)) (sym (seen_is own' s.1)) (so f at))
    put_done (Err Protocol) p same =
        let more = λ (e : EndpointOf). none_pushed (on_line e (line_view table v)) (on_line e seen) next_message (only_saw same e) in
        ((kept same).0, λ e at. (next_at e at None p.put, (more e).0, (more e).1))
    put_done (Err PeerClosed) p same =
        let more = λ (e : EndpointOf). none_pushed (on_line e (line_view table v)) (on_line e seen) next_message (only_saw same e) in
        ((kept same).0, λ e at. ((subst IsSome (sym (next_at e at _ refl)) p.put.0, saw_shut p.put.1), (more e).0, (more e).1))
    put_done (Err Full) p same =
        let more = λ (e : EndpointOf). none_pushed (on_line e (line_view table v)) (on_line e seen) next_message (only_saw same e) in
        let unshut = saw_open p.put.1 in
        let far = ⊎_elim (λ e. inl (full e)) (λ e. inr (ap (λ (c : Counts). c.put) (sym was.0.counts) ∙ e)) p.put.2 in
        ((kept same).0, λ e at. ((subst IsSome (sym (next_at e at _ refl)) p.put.0, unshut.0, unshut.1, far), (more e).0, (more e).1))

  emptied : waiting (line_end_of line k) ≡ [] → v.told.put ≤ length own.got
  emptied e = let sent = ap length was.0.waits.0 in let none = ap length e in let told = found.told.0 in omega (arith, length-append own.got (waiting (line_end_of line k)))

  pub take_done : (r : Result Message Refused) → LineTakes line line' k r → OnErr r (line' ≡ line) → IfOk r (λ m. m.no ≤ MAX_MESSAGES)
      → IsSettled (holding v peer) line' × SeatDoes (line_view table v) seen (EndpointTakes r)
  take_done (Ok m) t _ few =
      let o = was.0 in
      let r = t.taken in
      let own' : LineAccount = record own { got = own.got ++ m ∷ []; state = (line_end_of line' k).state } in
      let longer : length (own.got ++ m ∷ []) ≡ suc (length own.got) = omega (arith, length_push own.got m) in
      let counts : counts_in own' ≡ one_taken (counts_in own) = λ i. record { put = length own.sent; taken = longer i; shut = own.shut } in
      let split : peer.sent ≡ (own.got ++ m ∷ []) ++ waiting (line_end_of line' k) = o.waits.0 ∙ ap (λ l. own.got ++ l) r.2 ∙ sym (append_assoc own.got (m ∷ []) (waiting (line_end_of line' k))) in
      let ends' : Ends k line' own' peer = (
        record { rows = t.rules.0 ∙ o.rows; depth = t.rules.1 ∙ o.depth; state = refl; counts = r.1 ∙ ap one_taken o.counts ∙ sym counts; waits = (split, o.waits.1) },
        peer_same t.rules.0 t.rules.1 t.peer own' refl,
      ) in
      let s = settled_so v peer own' line' found.few ends' (omega arith, omega arith, λ q. q) found.told in
      let numbered = numbers_before message_number 0 (own.got ++ m ∷ []) (waiting (line_end_of line' k)) (subst (AreNumberedFrom message_number 0) split o.waits.1) in
      let so : SeatDoes (line_view table v) (record (line_view table (record v { own = own' })) { peer_shut = saw }) (EndpointTakes (Ok m)) =
      λ e at. (
        r.0 ∙ ap (λ (c : Counts). suc c.taken) o.counts,
        (refl, saw_no_less),
        numbered,
        ap (λ n. allowed own.rows own.state m.tag (1 - n)) at ∙ step_by m.tag (1 - k) (Some own'.state) r.3,
        λ _. few,
      ) in
      (s.0, λ e at. subst (λ x. EndpointTakes (Ok m) (on_line e (line_view table v)) (on_line e x)) (sym (seen_is own' s.1)) (so e at))
  take_done (Err (refused.PeerClosed back)) t same _ = ((kept same).0, λ e _. ((t.taken.0, emptied t.taken.1, saw_shut t.taken.2), only_saw same e))
  take_done (Err refused.Empty) t same _ = let unshut = saw_open t.taken.1 in ((kept same).0, λ e _. ((emptied t.taken.0, unshut.0, unshut.1), only_saw same e))
  take_done (Err refused.OutOfMemory) t same _ = absurd t.taken
  take_done (Err refused.BadSize) t same _ = absurd t.taken

  pub shut_done : LineShuts line line' k → IsSettled (holding v peer) line' × SeatDoes (line_view table v) seen EndpointShuts
  shut_done t =
      let o = was.0 in
      let own' : LineAccount = record own { shut = true } in
      let ends' : Ends k line' own' peer = (
        record {
          rows = t.rules.0 ∙ o.rows;
          depth = t.rules.1 ∙ o.depth;
          state = t.state ∙ o.state;
          counts = t.shut ∙ ap now_shut o.counts;
          waits = subst (WaitsAfter peer.sent own.got) (sym t.waits) o.waits;
        },
        peer_same t.rules.0 t.rules.1 t.peer own' refl,
      ) in
      let s = settled_so v peer own' line' found.few ends' (omega arith, omega arith, λ _. refl) found.told in
      (s.0, λ e _. (ap (on_line e) (seen_is own' s.1), saw_no_less))

pub has_word : (a b : TableId) → a ≡ b → a.words ≡ 16 → 0 < b.words
has_word a b same words = subst (λ (t : TableId). 0 < t.words) same (omega arith)

pub slot_first : (held : List (ℕ × Option Lined)) (x : Option Lined) → held ≡ (0, x) ∷ [] → held ≡ (0, x) ∷ rest held
slot_first held x e = e ∙ ap (λ l. (0, x) ∷ l) (sym (ap rest e))

abbrev line_of : Lined → List (ℕ × Option Lined) → Lined
line_of line [] = line
line_of line (x ∷ xs) = unwrap_or x.1 line

-- what was done to what lies in the slot was done to the line that the seat found
module _ (v : LinePart) (peer : LineAccount) (line : Lined) (me : Me (Option Lined) LinePart) (held : me ≡ (holding v peer, (0, Some line) ∷ [])) where
  pub done_here : (side : ℕ) (slot : Option Lined) (line1 line2 : Lined) (P : Lined → Lined → ℕ → Type 0) → v.side ≡ side → me.1 ≡ (0, slot) ∷ rest me.1 → slot ≡ Some line1 → P line1 line2 side
      → P line line2 v.side
  done_here side slot line1 line2 P is front some p =
      let same : line1 ≡ line = ap (λ (x : Option Lined). unwrap_or x line1) (sym some) ∙ ap (line_of line1) (sym front) ∙ ap (λ (m : Me (Option Lined) LinePart). line_of line1 m.1) held in
      subst (λ (x : Lined × ℕ). P x.0 line2 x.1) (λ j. (same j, sym is j)) p

  pub still_held : (line2 : Lined) → ◌≡◌ {A = Me (Option Lined) LinePart} (me.0, (0, Some line2) ∷ rest me.1) (holding v peer, (0, Some line2) ∷ [])
  still_held line2 = ap (λ (m : Me (Option Lined) LinePart). (m.0, (0, Some line2) ∷ rest m.1)) held

-- the seat that gave the line back
pub view_after : (table : TableId) (v : LinePart) (peer : LineAccount) (line : Lined) (before after : Me (Option Lined) LinePart) → before ≡ (holding v peer, (0, Some line) ∷ [])
    → after ≡ (settled_part before.0 before.1, [])
    → line_view table after.0 ≡ line_view table (settled_by (holding v peer) (Some line))
view_after table v peer line before after held gone = ap (λ m. line_view table m.0) gone ∙ ap (λ m. line_view table (settled_part m.0 m.1)) held
