-- Lemmas on plans: what one comes to on the serial machine, where memory isn't refused.
use Rattle.xh_session.proofs.Common.{Bindings, Err, List, Machine, Result, Word, ap, comes_to, refl, step, subst}
use Rattle.std.proofs.Common.{rules, ◌∙◌, ◌≡◌, ◌≢◌}
use Rattle.xh_model.specs.declared.row.Row.{Row}
use Rattle.xh_core.specs.declared.refused.Refused.{Refused}
use Rattle.xh_core.specs.declared.refused.Refused.TheVariants.{OutOfMemory}
use Rattle.xh_script.specs.declared.command.Command.{Command}
use Rattle.xh_script.specs.declared.form.Form.{Form}
use Rattle.xh_script.specs.declared.form.Form.TheVariants.{Contract}
use Rattle.xh_script.specs.declared.replies.Reply.{Reply}
use Rattle.xh_script.specs.declared.replies.Reply.TheVariants.{No}
use Rattle.xh_session.specs.Machines.{DoesCommand, Lacks, command}
use Rattle.xh_session.specs.Plans.{FollowsPlan, Plan, World, asks, plan, plan_by, replied, says}
use Rattle.xh_session.specs.Questions.{AnswerTo}

-- a plan says that memory was refused
abbrev SaysLack : Plan → Type 0
SaysLack p = (names : Bindings) × (p ≡ says (No OutOfMemory) names)

-- a plan says so wherever memory is refused
abbrev Heeds : Plan → Type 0
Heeds (says reply names) = Unit {0}
Heeds (asks q next) = (a : AnswerTo q) → (Lacks q a → SaysLack (next a)) × Heeds (next a)

came : (p : Plan) (old : World Machine) (reply : Reply) (new : World Machine) → Heeds p → FollowsPlan DoesCommand p old reply new → reply ≢ No OutOfMemory → comes_to p old ≡ (reply, new)
came (says r names) old reply new heeds f granted = rw (f.0, f.1) refl
came (asks q next) old reply new heeds f granted =
    let said : Lacks q f.0 → reply ≡ No OutOfMemory = λ lack. (subst (λ p. FollowsPlan DoesCommand p (record old { machine = f.1 }) reply new) ((heeds f.0).0 lack).1 f.3).0 in
    let e : command q old.machine ≡ (f.0, f.1) = f.2 (λ lack. granted (said lack)) in
    ap (λ (x : AnswerTo q × Machine). comes_to (next x.0) (record old { machine = x.1 })) e ∙ came (next f.0) _ reply new (heeds f.0).1 f.3 granted

lacks_replied : {A : Type 0} (reply : A → Reply) (change : A → Bindings) (names : Bindings) (a : Result A Refused) → a ≡ Err OutOfMemory → SaysLack (replied reply change names a)
lacks_replied reply change names a lack = (names, ap (replied reply change names) lack)

-- each command's plan heeds lack of memory
heeds_plan : (b : Bindings) (contracts : List (List Row)) (form : Form) (ws : List Word) → Heeds (plan_by b contracts form ws)
unfolding plan_by
heeds_plan b contracts Contract ws = tt
heeds_plan b contracts form ws = search (rules, lacks_replied)

-- where memory isn't refused, a session on the serial machine does what a command means there
pub stepped : (w : World Machine) (c : Command) (reply : Reply) (new : World Machine)
    → FollowsPlan DoesCommand (plan w.names w.contracts c) w reply new → reply ≢ No OutOfMemory → step w c ≡ (reply, new)
stepped w c reply new f granted = came _ w reply new (heeds_plan w.names w.contracts c.form c.words.items) f granted
