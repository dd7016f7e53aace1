-- The parts of an endpoint.
use Rattle.std.specs.Prelude.{◌≡◌, ℕ, ◌≤◌, Bool, true, false, cond, List, [], ◌∷◌, ◌++◌, length, take, Some, None}
use Rattle.xh_model.specs.declared.limits.TheConstants.{MAX_MESSAGES}
use Rattle.xh_channel.specs.declared.message.Message.{Message}
use Rattle.xh_channel.specs.declared.spot.Spot.{Spot}
use Rattle.xh_channel.specs.Endpoint.{EndpointOf}
use Rattle.xh_channel.specs.LineSeats.{LineView, IsBegun, IsBlank}
use Rattle.xh_channel.specs.Queues.{QueueView}
use Rattle.xh_channel.specs.inner.ClosedWords.{ClosedView}

-- what contracts see of the parts: with a contract the line carries the messages, and else the queues
abbrev pub endpoint_of : Spot → Bool → QueueView → QueueView → ClosedView → ℕ → LineView → EndpointOf
endpoint_of spot has_contract out into word put line = record {
  spot = spot;
  depth = out.depth;
  contract = cond has_contract (Some line.rows) None;
  state = cond has_contract line.state 0;
  out = out.queue;
  into = into.queue;
  closed = word.table;
  line = line.table;
  sent = cond has_contract line.sent (take put out.role.sent);
  pushed = cond has_contract line.sent out.role.sent;
  got = cond has_contract line.got into.role.got;
  shut = cond has_contract line.shut word.shut;
  peer_shut = cond has_contract line.peer_shut word.peer_shut;
  told_put = cond has_contract line.told_put into.role.told_put;
  told_taken = cond has_contract line.told_taken out.role.told_taken;
}

-- nothing was pushed, popped or shut, and nothing was told
abbrev pub AreIdle : QueueView → QueueView → ClosedView → Type 0
AreIdle out into word = (out.role.sent ≡ []) × (into.role.got ≡ []) × (word.shut ≡ false) × (word.peer_shut ≡ false) × (into.role.told_put ≡ 0) × (out.role.told_taken ≡ 0)

-- with a contract the queues are idle, and the line was begun with their depth and has carried as many messages as were put
abbrev pub IsByLine : QueueView → QueueView → ClosedView → ℕ → LineView → Type 0
IsByLine out into word put line = AreIdle out into word × IsBegun line × (line.depth ≡ out.depth) × (put ≡ length line.sent)

-- without one the line is blank, and of what was pushed all was sent but one message at most, which met a shut peer
abbrev pub IsByQueues : QueueView → ClosedView → ℕ → LineView → Type 0
IsByQueues out word put line = IsBlank line × (put ≤ length out.role.sent) × (word.peer_shut ≡ false → put ≡ length out.role.sent)

-- the parts of an endpoint are those of its spot
pub record IsEnd (spot : Spot) (has_contract : Bool) (out into : QueueView) (word : ClosedView) (put : ℕ) (line : LineView) : Type 0 where
  pub own_word : (word.channel ≡ spot.channel) × (word.side ≡ spot.side)
  pub own_seat : line.side ≡ spot.side
  pub pushes : out.role.pushes ≡ true
  pub pops : into.role.pops ≡ true
  pub numbers : put ≤ MAX_MESSAGES
  pub by_line : has_contract ≡ true → IsByLine out into word put line
  pub by_queues : has_contract ≡ false → IsByQueues out word put line

-- the last message that was sent is only pushed: the peer was shut meanwhile
abbrev pub IsUnsent : EndpointOf → EndpointOf → Type 0
IsUnsent old new = (new ≡ record old { sent = new.sent; peer_shut = true }) × ((before : List Message) (m : Message) → old.sent ≡ before ++ m ∷ [] → new.sent ≡ before)
