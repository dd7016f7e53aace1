-- What a script means on the serial machine: the reply to each command, and what the machine holds at the end.
use Rattle.std.specs.Prelude.{List, [], ◌∷◌}
use Rattle.xh_model.specs.declared.config.Config.{Config}
use Rattle.xh_model.specs.declared.row.Row.{Row}
use Rattle.xh_serial.specs.Machine.{Machine}
use Rattle.xh_serial.specs.PlaceCommands.{new_machine}
use Rattle.xh_script.specs.declared.command.Command.{Command}
use Rattle.xh_script.specs.declared.command.Line.{Line}
use Rattle.xh_script.specs.declared.replies.Reply.{Reply}
use Rattle.xh_script.specs.declared.replies.NumberedReply.{NumberedReply}
use Rattle.xh_session.specs.Bindings.{no_bindings}
use Rattle.xh_session.specs.Machines.{command}
use Rattle.xh_session.specs.Plans.{Plan, says, asks, World, plan}

abbrev pub new_world : Config → List (List Row) → World Machine
new_world config contracts = record { machine = new_machine config; names = no_bindings; contracts = contracts }

-- what a plan comes to: its reply, and the world after it
abbrev pub comes_to : Plan → World Machine → Reply × World Machine
comes_to (says reply names) w = (reply, record w { names = names })
comes_to (asks q next) w = comes_to (next (command q w.machine).0) (record w { machine = (command q w.machine).1 })

-- the reply to a command, and the world after it
abbrev pub step : World Machine → Command → Reply × World Machine
step w c = comes_to (plan w.names w.contracts c) w

-- the reply to each line's command, in order
abbrev pub answers : World Machine → List Line → List NumberedReply
answers w [] = []
answers w (l ∷ lines) = record { line = l.number; reply = (step w l.command).0 } ∷ answers (step w l.command).1 lines

-- the world after them
abbrev pub world_after : World Machine → List Line → World Machine
world_after w [] = w
world_after w (l ∷ lines) = world_after (step w l.command).1 lines
