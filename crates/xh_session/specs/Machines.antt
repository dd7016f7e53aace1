-- What the serial machine answers.
use Rattle.std.specs.Prelude.{◌≡◌, false, map, Some, Ok, Err}
use Rattle.xh_core.specs.declared.refused.Refused.TheVariants.{OutOfMemory}
use Rattle.xh_serial.specs.Machine.{Machine}
use Rattle.xh_serial.specs.PlaceCommands.{spawn, glance}
use Rattle.xh_serial.specs.BlockCommands.{alloc, split, read, write, free}
use Rattle.xh_serial.specs.ChannelCommands.{open_channel, wire_channel}
use Rattle.xh_serial.specs.MessageCommands.{give, take}
use Rattle.xh_serial.specs.EndingCommands.{close, exit, kill}
use Rattle.xh_serial.specs.declared.message.Taken.{Taken as Message}
use Rattle.xh_serial.specs.Commands.{Answer as Answered}
use Rattle.xh_session.specs.declared.machine.Received.{Received}
use Rattle.xh_session.specs.Questions.{Question, AnswerTo, Spawn, Open, Wire, Alloc, Split, Read, Write, Give, Take, Free, Close, Exit, Kill, Glance}

-- a message whose blocks are all there
abbrev pub received : Message → Received
received message = record { number = message.no; tag = message.tag; blocks = record { items = map (λ b. Some b) message.blocks.items } }

-- what a take answers, with such a message
abbrev pub receives : Answered Message → Answered Received
receives (Ok message, m) = (Ok (received message), m)
receives (Err refused, m) = (Err refused, m)

-- the command of a question: its answer, and the machine after it
abbrev pub command : (q : Question) → Machine → AnswerTo q × Machine
command Spawn m = spawn m
command (Open p arena contract) m = open_channel p arena contract m
command (Wire p q arena contract) m = wire_channel p q arena contract m
command (Alloc p bytes arena) m = alloc false p bytes arena m
command (Split p r at) m = split false p r at m
command (Read p r at len) m = read p r at len m
command (Write p r at bytes) m = write p r at bytes m
command (Give p e tag blocks) m = give p e tag blocks m
command (Take p e waits) m = receives (take p e m)
command (Free p r) m = free p r m
command (Close p e) m = close p e m
command (Exit p budget) m = exit p budget m
command (Kill by victim budget) m = kill by victim budget m
command (Glance place) m = (glance place m, m)

-- memory was refused
abbrev pub Lacks : (q : Question) → AnswerTo q → Type 0
Lacks (Alloc p bytes arena) answer = answer ≡ Err OutOfMemory
Lacks (Split p r at) answer = answer ≡ Err OutOfMemory
Lacks q answer = ⊥

-- unless memory was refused, a call answers what its command answers, and leaves the machine as the command does
abbrev pub DoesCommand : Machine → (q : Question) → AnswerTo q → Machine → Type 0
DoesCommand old q answer new = ¬ Lacks q answer → command q old ≡ (answer, new)
