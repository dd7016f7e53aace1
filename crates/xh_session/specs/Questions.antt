-- What the commands of a script ask of a machine, and what it answers.
use Rattle.std.specs.Prelude.{ℕ, Bool, List, Option, Result, Ok, Err}
use Rattle.xh_model.specs.declared.row.Row.{Row}
use Rattle.xh_core.specs.declared.block.Block.{Block}
use Rattle.xh_core.specs.declared.glance.Glance.{Glance as Look}
use Rattle.xh_core.specs.declared.refused.Refused.{Refused}
use Rattle.xh_session.specs.declared.machine.Received.{Received}

-- a call of a machine, with its words: a process by its number, and a block or an end by its record
pub data Question : Type 0 where
  Spawn : Question
  Open : (p arena : ℕ) (contract : Option (List Row)) → Question
  Wire : (p q arena : ℕ) (contract : Option (List Row)) → Question
  Alloc : (p bytes arena : ℕ) → Question
  Split : (p r at : ℕ) → Question
  Read : (p r at len : ℕ) → Question
  Write : (p r at : ℕ) (bytes : List ℕ) → Question
  Give : (p e tag : ℕ) (blocks : List ℕ) → Question
  Take : (p e : ℕ) (waits : Bool) → Question
  Free : (p r : ℕ) → Question
  Close : (p e : ℕ) → Question
  Exit : (p budget : ℕ) → Question
  Kill : (by victim budget : ℕ) → Question
  Glance : (place : ℕ) → Question

-- what the machine tells where it doesn't refuse: a number, the blocks, the bytes that were read, a message, or how much came back
abbrev pub Granted : Question → Type 0
Granted Spawn = ℕ
Granted (Open p arena contract) = Block × Block
Granted (Wire p q arena contract) = Block × Block
Granted (Alloc p bytes arena) = Block
Granted (Split p r at) = Block × Block
Granted (Read p r at len) = List ℕ
Granted (Write p r at bytes) = Unit {0}
Granted (Give p e tag blocks) = ℕ
Granted (Take p e waits) = Received
Granted (Free p r) = ℕ
Granted (Close p e) = ℕ
Granted (Exit p budget) = ℕ
Granted (Kill by victim budget) = ℕ
Granted (Glance place) = Look

abbrev pub AnswerTo : Question → Type 0
AnswerTo q = Result (Granted q) Refused

-- what a read answers that fills a room
abbrev pub filled : List ℕ → Result (Unit {0}) Refused → Result (List ℕ) Refused
filled room (Ok u) = Ok room
filled room (Err refused) = Err refused
