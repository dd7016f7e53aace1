-- Lemmas on how a run ends.
use Rattle.xh_session.proofs.Common.{Err, Fault, List, Ok, Option, Result, Watched, WritesBytes, WritesOrFails, refl, subst, sym, ℕ, ◌≡◌}
use Rattle.std.proofs.Common.{IfErr, OnOk, [], append-nil}
use Rattle.xh_model.specs.declared.config.Config.{Config}
use Rattle.xh_script.specs.declared.fault.Fault.TheVariants.{Memory, Write}
use Rattle.xh_script.specs.Scripts.{Listing}
use Rattle.xh_script.proofs.Writings.{WritesOrFails-then}
use Rattle.xh_session.specs.Ends.{Done, Stopped}
use Rattle.xh_session.specs.Reading.{GivesScript, Unread}

-- what is written, and then sent on its way
pub flushed : {W : Type 0} (contents : W → Option (List ℕ)) (a b c : Watched W) (r : Result (Unit {0}) Fault) (x : List ℕ)
    → WritesBytes contents a b x → WritesOrFails contents b c r [] → WritesOrFails contents a c r x
flushed contents a b c r x p q = subst (λ (bytes : List ℕ). WritesOrFails contents a c r bytes) (append-nil x) (WritesOrFails-then contents a b c r x [] p q)

module _ {R W : Type 0} (remaining : R → Option (List ℕ)) (contents : W → Option (List ℕ)) (IsFor : Listing → List ℕ → Type 0) where
  -- a fault before a script is there leaves nothing written
  pub unread_stops : (config : Config) (reader reader' : Watched R) (writer : Watched W) (e : Fault)
      → Unread remaining config reader reader' e → Stopped remaining contents IsFor config reader reader' writer writer e
  unread_stops config reader reader' writer Write h = absurd h
  unread_stops config reader reader' writer e h = (h, refl)

  -- and so does want of memory
  pub memory_stops : (config : Config) (reader reader' : Watched R) (writer : Watched W) (e : Fault)
      → e ≡ Memory → Stopped remaining contents IsFor config reader reader' writer writer e
  memory_stops config reader reader' writer e h = unread_stops config reader reader' writer e (subst (Unread remaining config reader reader') (sym h) tt)

  -- what was written in full
  pub wrote_all : (reader reader' : Watched R) (writer writer' : Watched W) (r : Result (Unit {0}) Fault) (text : List ℕ) (script : Listing) (bytes : List ℕ)
      → GivesScript remaining reader reader' text script → IsFor script bytes → WritesOrFails contents writer writer' r bytes
      → OnOk r (Done remaining contents IsFor reader reader' writer writer')
  wrote_all reader reader' writer writer' (Ok u) text script bytes reads is_for w =
      record { text = text; script = script; bytes = bytes; reads = reads; is_for = is_for; writes = w }
  wrote_all reader reader' writer writer' (Err e) text script bytes reads is_for w = tt

  -- what was written in part
  pub wrote_part : (config : Config) (reader reader' : Watched R) (writer writer' : Watched W) (r : Result (Unit {0}) Fault) (text : List ℕ) (script : Listing) (bytes : List ℕ)
      → GivesScript remaining reader reader' text script → IsFor script bytes → WritesOrFails contents writer writer' r bytes
      → IfErr r (Stopped remaining contents IsFor config reader reader' writer writer')
  wrote_part config reader reader' writer writer' (Ok u) text script bytes reads is_for w = tt
  wrote_part config reader reader' writer writer' (Err e) text script bytes reads is_for w =
      subst (Stopped remaining contents IsFor config reader reader' writer writer') (sym w.0)
      (record { text = text; script = script; bytes = bytes; reads = reads; is_for = is_for; writes = w.1 })
