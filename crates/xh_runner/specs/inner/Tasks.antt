-- What the workers of a run on threads do, and where their replies go.
use Rattle.std.specs.Prelude.{◌≡◌, ◌≤◌, suc, if◌then◌else◌, Bool, ℕ, List, [], get_or, length, map, MatchResult, Result}
use Rattle.xh_model.specs.declared.row.Row.{Row}
use Rattle.xh_runner.specs.declared.crew.Hand.{Hand}
use Rattle.xh_runner.specs.declared.crew.Hand.TheVariants.{Works, Idle}
use Rattle.xh_runner.specs.declared.task.Done.{Done}
use Rattle.xh_runner.specs.declared.task.Task.{Task}
use Rattle.xh_runner.specs.declared.task.Crew.{Crew}
use Rattle.xh_runner.specs.Plays.{AllZipFrom, AreAnswersTo, ArePlayed, began_at, DoesAmong, LAST, MayStop, PlayAll, Plays, names_renewed, other_of, part, replies_in}
use Rattle.xh_script.specs.declared.command.Line.{Line}
use Rattle.xh_script.specs.declared.fault.Fault.{Fault}
use Rattle.xh_script.specs.declared.replies.NumberedReply.{NumberedReply}
use Rattle.xh_script.specs.declared.replies.Reply.{Reply}
use Rattle.xh_script.specs.declared.script.Script.{Script}
use Rattle.xh_session.specs.declared.bindings.Bindings.{Bindings}
use Rattle.xh_session.specs.Bindings.{renumbered}
use Rattle.xh_session.specs.declared.bindings.Processes.{Processes}
use Rattle.xh_session.specs.declared.session.Session.{Session}
use Rattle.xh_session.specs.Plans.{World, world_of}
use Rattle.xh_session.specs.Questions.{Question, AnswerTo}

-- ---- a task

-- by which number the other process goes by then that the line's command names, where one of the lines starts it again
abbrev pub Hears : List Line → Line → Bindings → Bindings → Type 0
Hears lines line old new = (n : ℕ) × (new ≡ (if names_renewed lines line then record old { processes = renumbered old.processes (other_of line) n } else old))

-- the lines of the place k were played from a world on, with these replies
abbrev pub PlaysAt : {G S : Type 0} → (S → (q : Question) → AnswerTo q → S → Type 0) → Crew G → ℕ → World S → List Reply → World S → Type 0
PlaysAt did crew k old replies new = Plays (DoesAmong did crew.lines.now) old (part crew.ready.now.processes (suc k) crew.lines.now) replies new

module _ {M S : Type 0} (state : M → S) where
  -- the task of the place k on this machine, from what the head left on
  pub record IsTask {G : Type 0} (crew : Crew G) (k : ℕ) (machine : M) (task : Task M) : Type 0 where
    pub world : world_of state task.session ≡ began_at crew.ready.now crew.contracts.now k (state machine)
    pub place : task.place ≡ k

  module _ (did : S → (q : Question) → AnswerTo q → S → Type 0) where
    -- a machine played the lines of the place k from a world on, by what the names stood for after the head
    abbrev pub Left : Processes → List Line → ℕ → World S → Done M → Type 0
    Left s lines k old done = (end : World S) × Plays (DoesAmong did lines) old (part s (suc k) lines) done.replies.items end × (end.machine ≡ state done.machine)

    -- what is left of the place k, by the machine, from what the head left on
    abbrev pub PlaceIsDone : Bindings → List (List Row) → List Line → ℕ → M → Done M → Type 0
    PlaceIsDone b contracts lines k machine done = Left b.processes lines k (began_at b contracts k (state machine)) done

    -- what is left of all places by their machines
    abbrev pub LeavesPlaces : Bindings → List (List Row) → List Line → List M → List (Done M) → Type 0
    LeavesPlaces b contracts lines = AllZipFrom (PlaceIsDone b contracts lines) 0

    -- all lines were played by the head's session and the machines of the places, which are these then
    abbrev pub AllPlay : Session M → List Line → List NumberedReply → List M → Session M → List M → Type 0
    AllPlay old lines answers machines new left =
        PlayAll did old.contracts.now lines answers (state old.machine) (map state machines) (state new.machine) (map state left)

    -- and by these machines, of which the first is the head's
    abbrev pub PlayScript : Script → List NumberedReply → List M → List M → Type 0
    PlayScript script answers machines left = ArePlayed did script.contracts.items script.lines.items answers (map state machines) (map state left)

-- ---- a thread

module _ {M G S : Type 0} (state : M → S) (did : S → (q : Question) → AnswerTo q → S → Type 0) where
  -- a task is done
  abbrev pub IsTaskDone : Crew G → Task M → Done M → Type 0
  IsTaskDone crew task done = Left state did crew.ready.now.processes crew.lines.now task.place (world_of state task.session) done

  -- or its worker was stopped
  abbrev pub LeavesTask : Bool → Crew G → Task M → Result (Done M) Fault → Type 0
  LeavesTask always crew task left = MatchResult left (IsTaskDone crew task) (MayStop always)

  -- what is joined of a hand
  abbrev pub Joins : Hand M G → Done M → Type 0
  Joins (Works handle) done = IsTaskDone handle.promise.crew.now handle.promise.task.value done
  Joins (Idle left) done = done ≡ left

  -- what was started for the place k and its machine: whatever is joined of it is what is left of the place
  abbrev pub IsHand : Crew G → ℕ → M → Hand M G → Type 0
  IsHand crew k machine hand = (done : Done M) → Joins hand done → PlaceIsDone state did crew.ready.now crew.contracts.now crew.lines.now k machine done

  -- what is left of the places
  abbrev pub ArePlacesDone : Crew G → List M → List (Done M) → Type 0
  ArePlacesDone crew = LeavesPlaces state did crew.ready.now crew.contracts.now crew.lines.now

-- ---- the replies

-- each part has a reply to each of its lines
abbrev pub AreEnough : Processes → List Line → List (List Reply) → Type 0
AreEnough s lines parts = (k : ℕ) → k ≤ LAST → length (get_or parts k []) ≡ length (part s k lines)

-- the answers tell these replies of the parts
abbrev pub AreTold : Processes → List Line → List NumberedReply → List (List Reply) → Type 0
AreTold s lines answers parts = (k : ℕ) → k ≤ LAST → replies_in s k lines answers ≡ get_or parts k []

-- and are answers to the lines
abbrev pub Tells : Processes → List Line → List NumberedReply → List (List Reply) → Type 0
Tells s lines answers parts = AreAnswersTo lines answers × AreTold s lines answers parts
