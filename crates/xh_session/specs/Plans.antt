-- What a command means on any machine: what it asks, and what follows of the answer.
use Rattle.std.specs.Prelude.{◌≡◌, ℕ, ◌%◌, ◌==◌, ◌||◌, min, Bool, true, false, not, List, [], ◌∷◌, drop, map, if◌then◌else◌, option_and_then, option_map, Option, Result, Ok, Err, slice_get}
use Rattle.xh_model.specs.declared.limits.TheConstants.{PLACES, MAX_BUDGET}
use Rattle.xh_model.specs.declared.row.Row.{Row}
use Rattle.xh_core.specs.declared.block.Block.{Block}
use Rattle.xh_core.specs.declared.glance.Glance.{Glance as Look}
use Rattle.xh_core.specs.declared.refused.Refused.{Refused}
use Rattle.xh_core.specs.declared.refused.Refused.TheVariants.{NoProcess, Ended, Twice, Full, PeerClosed, Protocol}
use Rattle.xh_core.specs.Statuses.{is_ended}
use Rattle.xh_script.specs.declared.command.Command.{Command}
use Rattle.xh_script.specs.declared.command.Word.{Word}
use Rattle.xh_script.specs.declared.form.Form.{Form}
use Rattle.xh_script.specs.declared.form.Form.TheVariants.{Contract, Process, Wire, Open, Alloc, Split, Read, Write, Give, Take, Await, Free, Close, Exit, Kill, Glance, Again}
use Rattle.xh_script.specs.declared.limits.TheConstants.{MAX_LEN, MAX_TAG}
use Rattle.xh_script.specs.declared.replies.Reply.{Reply}
use Rattle.xh_script.specs.declared.replies.Reply.TheVariants.{Started, Bytes, Taken, NotGiven, No}
use Rattle.xh_script.specs.Texts.{done}
use Rattle.xh_serial.specs.MessageCommands.{without_records}
use Rattle.xh_script.specs.Operands.{name, number, number_or, contract, bytes}
use Rattle.xh_session.specs.declared.session.Session.{Session}
use Rattle.xh_session.specs.declared.bindings.Bindings.{Bindings}
use Rattle.xh_session.specs.Bindings.{number_at, has_place, with_started}
use Rattle.xh_session.specs.BlockNames.{BlockNames, record_at, records_of, bound, bound_each, unbound, unbound_each, unbound_all}
use Rattle.xh_session.specs.Questions.{Question, AnswerTo}
use Rattle.xh_session.specs.Questions as ask

-- a command says its reply and what names stand for from then on, or asks the machine and goes on by the answer
pub data Plan : Type 0 where
  says : Reply → Bindings → Plan
  asks : (q : Question) → (AnswerTo q → Plan) → Plan

-- the machine, what the names of the script stand for, and the script's contracts by number
pub record World (S : Type 0) : Type 0 where
  pub machine : S
  pub names : Bindings
  pub contracts : List (List Row)

-- the world of a session
abbrev pub world_of : {M S : Type 0} → (M → S) → Session M → World S
world_of state s = record { machine = state s.machine; names = s.names; contracts = s.contracts.now }

-- where a machine does what it says at each question, a plan may come to this reply, and leave this world
abbrev pub FollowsPlan : {S : Type 0} → (S → (q : Question) → AnswerTo q → S → Type 0) → Plan → World S → Reply → World S → Type 0
FollowsPlan did (says r names) old reply new = (reply ≡ r) × (new ≡ record old { names = names })
FollowsPlan {S} did (asks q next) old reply new = (a : AnswerTo q) × (mid : S) × did old.machine q a mid × FollowsPlan did (next a) (record old { machine = mid }) reply new

-- the contract with a number, where a line names one
abbrev pub contract_at : List (List Row) → Option ℕ → Option (List Row)
contract_at contracts number = option_and_then (slice_get contracts) number

-- with success the reply tells the answer and names may stand for something else; a refusal binds nothing
abbrev pub replied : {A : Type 0} → (A → Reply) → (A → Bindings) → Bindings → Result A Refused → Plan
replied reply change names (Ok a) = says (reply a) (change a)
replied reply change names (Err refused) = says (No refused) names

-- the two ends of a new channel get their names, side 0 the first
abbrev pub with_ends : Bindings → ℕ → ℕ → ℕ → ℕ → Block × Block → Bindings
with_ends names p e q f ends = record names { blocks = bound (bound names.blocks p e ends.0.rec) q f ends.1.rec }

-- of the blocks that a refused give does not hand back, the names are unbound
abbrev pub handed_back : ℕ → List ℕ → Refused → BlockNames → BlockNames
handed_back p rs (Full back) names = unbound_each names p (without_records back.items rs)
handed_back p rs (PeerClosed back) names = unbound_each names p (without_records back.items rs)
handed_back p rs (Protocol back) names = unbound_each names p (without_records back.items rs)
handed_back p rs _ names = names

-- the names of blocks that went are unbound
abbrev pub given_plan : Bindings → ℕ → List ℕ → Result ℕ Refused → Plan
given_plan names p rs (Ok number) = says (done (number ∷ [])) (record names { blocks = unbound_each names.blocks p rs })
given_plan names p rs (Err refused) = says (NotGiven refused) (record names { blocks = handed_back p rs refused names.blocks })

-- what a place shows of a process: Ended where it shows a later one
abbrev pub look_shown : ℕ → Result Look Refused → Result Look Refused
look_shown n (Ok look) = if look.process == n then Ok look else Err Ended
look_shown n (Err refused) = Err refused

-- whether a process runs, or is being reclaimed
abbrev pub is_alive : Result Look Refused → Bool
is_alive (Ok look) = not (is_ended look.state)
is_alive (Err refused) = false

-- ---- each command

-- the process that a word names, by its number, and the record of a block of the line's process
abbrev pub number_named : Bindings → List Word → ℕ → ℕ
number_named b ws i = number_at b.processes (name ws i)

abbrev pub record_in : Bindings → List Word → ℕ → ℕ
record_in b ws i = record_at b.blocks (name ws 0) (name ws i)

-- a tag is at most so great
abbrev pub give_plan : Bindings → ℕ → ℕ → ℕ → List Word → Plan
give_plan b p e tag xs = asks (ask.Give (number_at b.processes p) (record_at b.blocks p e) (min tag MAX_TAG) (records_of b.blocks p xs)) (given_plan b p (records_of b.blocks p xs))

-- a message is taken, and waited for or not
abbrev pub take_plan : Bool → Bindings → List Word → Plan
take_plan waits b ws = asks (ask.Take (number_named b ws 0) (record_in b ws 1) waits) (replied
    (λ message. Taken message.number message.tag (record { items = map (option_map (λ k. k.len)) message.blocks.items }))
    (λ message. record b { blocks = bound_each b.blocks (name ws 0) (drop 2 ws) message.blocks.items }) b)

-- what a command asks, and what follows; the words stand where the form's row of the table has them. A line reads at most so many bytes,
-- and a sweep has the greatest budget where none is named
unfoldable pub plan_by : Bindings → List (List Row) → Form → List Word → Plan
plan_by b contracts Contract ws = says (done []) b
plan_by b contracts Process ws = if has_place b.processes (name ws 0) then says (No Twice) b
    else asks ask.Spawn (replied Started (λ n. record b { processes = with_started b.processes (name ws 0) n }) b)
plan_by b contracts Wire ws = asks (ask.Wire (number_named b ws 0) (number_named b ws 2) (number ws 4) (contract_at contracts (contract ws 5)))
    (replied (λ _. done []) (λ ends. with_ends b (name ws 0) (name ws 1) (name ws 2) (name ws 3) ends) b)
plan_by b contracts Open ws = asks (ask.Open (number_named b ws 0) (number ws 3) (contract_at contracts (contract ws 4)))
    (replied (λ _. done []) (λ ends. with_ends b (name ws 0) (name ws 1) (name ws 0) (name ws 2) ends) b)
plan_by b contracts Alloc ws = asks (ask.Alloc (number_named b ws 0) (number ws 2) (number ws 3)) (replied (λ k. done (k.len ∷ [])) (λ k. record b { blocks = bound b.blocks (name ws 0) (name ws 1) k.rec }) b)
plan_by b contracts Split ws = asks (ask.Split (number_named b ws 0) (record_in b ws 1) (number ws 2))
    (replied (λ parts. done (parts.0.len ∷ parts.1.len ∷ [])) (λ parts. record b { blocks = bound b.blocks (name ws 0) (name ws 3) parts.1.rec }) b)
plan_by b contracts Read ws = asks (ask.Read (number_named b ws 0) (record_in b ws 1) (number ws 2) (min (number ws 3) MAX_LEN)) (replied (λ bytes. Bytes (record { items = bytes })) (λ _. b) b)
plan_by b contracts Write ws = asks (ask.Write (number_named b ws 0) (record_in b ws 1) (number ws 2) (bytes ws 3)) (replied (λ _. done []) (λ _. b) b)
plan_by b contracts Give ws = give_plan b (name ws 0) (name ws 1) (number ws 2) (drop 3 ws)
plan_by b contracts Take ws = take_plan false b ws
plan_by b contracts Await ws = take_plan true b ws
plan_by b contracts Free ws = asks (ask.Free (number_named b ws 0) (record_in b ws 1)) (replied (λ n. done (n ∷ [])) (λ _. record b { blocks = unbound b.blocks (name ws 0) (record_in b ws 1) }) b)
plan_by b contracts Close ws = asks (ask.Close (number_named b ws 0) (record_in b ws 1)) (replied (λ n. done (n ∷ [])) (λ _. record b { blocks = unbound b.blocks (name ws 0) (record_in b ws 1) }) b)
plan_by b contracts Exit ws = asks (ask.Exit (number_named b ws 0) (number_or ws 1 MAX_BUDGET)) (replied (λ n. done (n ∷ [])) (λ _. b) b)
plan_by b contracts Kill ws = asks (ask.Kill (number_named b ws 0) (number_named b ws 1) (number_or ws 2 MAX_BUDGET)) (replied (λ n. done (n ∷ [])) (λ _. b) b)
plan_by b contracts Glance ws =
    if not (has_place b.processes (name ws 0)) || not (has_place b.processes (name ws 1)) then says (No NoProcess) b
    else asks (ask.Glance (number_named b ws 1 % PLACES)) (λ a. replied (λ look. done (look.blocks ∷ look.bytes ∷ [])) (λ _. b) b (look_shown (number_named b ws 1) a))
plan_by b contracts Again ws =
    if not (has_place b.processes (name ws 0)) then says (No NoProcess) b
    else asks (ask.Glance (number_named b ws 0 % PLACES)) (λ a. if is_alive (look_shown (number_named b ws 0) a) then says (No Twice) b
    else asks ask.Spawn (replied Started (λ n. record { processes = with_started b.processes (name ws 0) n; blocks = unbound_all b.blocks (name ws 0) }) b))

-- a machine did a command of this form: what it asks was answered by the machine, and the reply and the names follow of the answers
abbrev pub DoesForm : {S : Type 0} → (S → (q : Question) → AnswerTo q → S → Type 0) → Form → List Word → World S → Reply → World S → Type 0
DoesForm did form ws old reply new = FollowsPlan did (plan_by old.names old.contracts form ws) old reply new

-- a refusal is a reply too
abbrev pub reply_of : Result Reply Refused → Reply
reply_of (Ok reply) = reply
reply_of (Err refused) = No refused

abbrev pub plan : Bindings → List (List Row) → Command → Plan
plan b contracts c = plan_by b contracts c.form c.words.items
