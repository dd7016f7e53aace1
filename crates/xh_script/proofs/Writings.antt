-- Lemmas on what is written in several calls.
use Rattle.xh_script.proofs.Common.{Err, Fault, IsErrAnd, List, None, Ok, Option, Result, Some, WritesBytes, WritesPrefix, WritesOrFails, add-one, answer_texts, ap, append_assoc, drop, drop-cons}
use Rattle.xh_script.proofs.Common.{get_or, inner_of, length, reply_text, suc, sym, ℕ, ◌++◌, ◌+◌, ◌<◌, ◌∙◌, ◌≡◌}
use Rattle.xh_script.specs.declared.replies.NumberedReply.{NumberedReply}
use Rattle.std.specs.Io.KnownBytes.{Appends}
use Rattle.xh_script.specs.declared.streams.Watched.{Watched}

pub Appends-then : (a b c : Option (List ℕ)) (x y : List ℕ) → Appends a b x → Appends b c y → Appends a c (x ++ y)
Appends-then None b c x y p q = tt
Appends-then (Some k) None c x y p q = absurd p
Appends-then (Some k) (Some l) None x y p q = absurd q
Appends-then (Some k) (Some l) (Some m) x y p q = q ∙ ap (λ t. t ++ y) p ∙ append_assoc k x y

module _ {T : Type 0} (contents : T → Option (List ℕ)) where
  pub Writes-then : (a b c : Watched T) (x y : List ℕ) → WritesBytes contents a b x → WritesBytes contents b c y → WritesBytes contents a c (x ++ y)
  Writes-then a b c x y p q = record {
    held = Appends-then (contents (inner_of a)) (contents (inner_of b)) (contents (inner_of c)) x y p.held q.held;
    still = q.still ∙ p.still;
  }

  -- a prefix of what follows is a prefix of the whole
  pub WritesPrefix-then : (a b c : Watched T) (x y : List ℕ) → WritesBytes contents a b x → WritesPrefix contents b c y → WritesPrefix contents a c (x ++ y)
  WritesPrefix-then a b c x y p q = record {
    prefix = x ++ q.prefix;
    rest = q.rest;
    whole = ap (λ t. x ++ t) q.whole ∙ sym (append_assoc x q.prefix q.rest);
    held = Appends-then (contents (inner_of a)) (contents (inner_of b)) (contents (inner_of c)) x q.prefix p.held q.held;
    failed = λ e. q.failed (e ∙ sym p.still);
  }

  -- nothing that follows is written
  pub WritesPrefix-stops : (a b : Watched T) (x y : List ℕ) → WritesPrefix contents a b x → WritesPrefix contents a b (x ++ y)
  WritesPrefix-stops a b x y q = record {
    prefix = q.prefix;
    rest = q.rest ++ y;
    whole = ap (λ t. t ++ y) q.whole ∙ append_assoc q.prefix q.rest y;
    held = q.held;
    failed = q.failed;
  }

  pub WritesOrFails-then : (a b c : Watched T) (r : Result (Unit {0}) Fault) (x y : List ℕ) → WritesBytes contents a b x → WritesOrFails contents b c r y → WritesOrFails contents a c r (x ++ y)
  WritesOrFails-then a b c (Ok u) x y p q = Writes-then a b c x y p q
  WritesOrFails-then a b c (Err e) x y p q = (q.0, WritesPrefix-then a b c x y p q.1)

  -- so much of a whole was written that this rest of it is left
  abbrev pub Wrote : Watched T → Watched T → List ℕ → List ℕ → Type 0
  Wrote a b whole rest = (written : List ℕ) × WritesBytes contents a b written × (whole ≡ written ++ rest)

  -- of what is written piece by piece, one piece is the next
  pub goes_on : (a b c : Watched T) (piece more rest whole : List ℕ) → Wrote a b whole rest → rest ≡ piece ++ more → WritesBytes contents b c piece → Wrote a c whole more
  goes_on a b c piece more rest whole w s q = (w.0 ++ piece, Writes-then a b c w.0 piece w.1 q, w.2 ∙ ap (λ t. w.0 ++ t) s ∙ sym (append_assoc w.0 piece more))

  -- the rest is all that follows
  pub ends : (a b c : Watched T) (r : Result (Unit {0}) Fault) (rest whole : List ℕ) → Wrote a b whole rest → WritesOrFails contents b c r rest → WritesOrFails contents a c r whole
  ends a b c r rest whole w q = rw w.2 (WritesOrFails-then a b c r w.0 rest w.1 q)

  -- a fault that is passed on, and that is then the fault of all
  pub passes : (a b : Watched T) (r : Result (Unit {0}) Fault) (e : Fault) (x : List ℕ) → IsErrAnd r (λ f. f ≡ e) → WritesOrFails contents a b (Err e) x → WritesOrFails contents a b r x
  passes a b (Ok u) e x h q = absurd h
  passes a b (Err f) e x h q = (h ∙ q.0, q.1)

  pub stops : (a b : Watched T) (r : Result (Unit {0}) Fault) (e : Fault) (x y : List ℕ) → IsErrAnd r (λ f. f ≡ e) → WritesOrFails contents a b (Err e) x → WritesOrFails contents a b r (x ++ y)
  stops a b r e x y h q = passes a b r e (x ++ y) h (q.0, WritesPrefix-stops a b x y q.1)

  pub stops_at : (a b c : Watched T) (r : Result (Unit {0}) Fault) (e : Fault) (piece more rest whole : List ℕ) → Wrote a b whole rest → rest ≡ piece ++ more → IsErrAnd r (λ f. f ≡ e) →
      WritesOrFails contents b c (Err e) piece → WritesOrFails contents a c r whole
  stops_at a b c r e piece more rest whole w s h q = ends a b c r rest whole w (rw s (stops b c r e piece more h q))

pub answers_at : (answers : List NumberedReply) (i : ℕ) (a : NumberedReply) → a ≡ get_or answers i a → i < length answers
    → answer_texts (drop i answers) ≡ reply_text a.line a.reply ++ answer_texts (drop (i + 1) answers)
answers_at answers i a item below = rw (drop-cons answers i a, add-one i) (ap (λ b. reply_text b.line b.reply ++ answer_texts (drop (suc i) answers)) (sym item))
