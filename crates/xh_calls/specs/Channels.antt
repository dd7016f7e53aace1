-- What opening a channel does to a place.
use Rattle.std.specs.Prelude.{◌≡◌, ℕ, ◌*◌, List, ◌++◌, length, Option, None, Some, Result, Err, IfErr, IfOk, MatchOption, OnErr, true}
use Rattle.xh_channel.specs.Pairs.{IsPair}
use Rattle.xh_channel.specs.Endpoint.{EndpointOf}
use Rattle.xh_arena.specs.declared.refused.Refused.TheVariants as arena
use Rattle.xh_core.specs.Calls.{arena_tests, start}
use Rattle.xh_core.specs.declared.block.Block.{Block}
use Rattle.xh_core.specs.declared.refused.Refused.{Refused}
use Rattle.xh_core.specs.declared.refused.Refused.TheVariants.{NoChannel, NoRecord, NoSpace, OutOfMemory, Worn}
use Rattle.xh_core.specs.Refusing.{first_refusal}
use Rattle.xh_model.specs.declared.limits.TheConstants.{END_BYTES}
use Rattle.xh_model.specs.declared.row.Row.{Row}
use Rattle.xh_model.specs.Rows.{row_at}
use Rattle.xh_place.specs.Opening.{HasBoth, IsEndIn}
use Rattle.xh_place.specs.Places.{PlaceSeen}
use Rattle.xh_place.specs.Seen.{FindsFull, LeavesIt, Stays}
use Rattle.xh_calls.specs.Calls.{space_of}
use Rattle.xh_calls.specs.Parts.{PartsOf}
use Rattle.xh_calls.specs.Places.{status_at}

-- ---- open

-- no channel was had, or where channels come back no memory for one, and nothing was done, as `same` says; or no two records were free, as `full` says; or 64 bytes could not be carved of the arena
abbrev pub IsNoChannel : PartsOf → Type 0 → Type 0 → ℕ → Refused → Type 0
IsNoChannel parts same full a NoChannel = same
IsNoChannel parts same full a OutOfMemory = (parts.comes_back ≡ true) × same
IsNoChannel parts same full a NoRecord = full
IsNoChannel parts same full a NoSpace = (space_of parts).refuses a (2 * END_BYTES) arena.NoSpace
IsNoChannel parts same full a Worn = (space_of parts).refuses a (2 * END_BYTES) arena.Worn
IsNoChannel parts same full a _ = ⊥

-- the end's channel goes by the contract, from its first state on, or by none
abbrev pub GoesBy : Option (List Row) → EndpointOf → Type 0
GoesBy None end = end.contract ≡ None
GoesBy (Some rows) end = (end.contract ≡ Some rows) × (end.state ≡ (row_at rows 0).state)

-- both ends of a new channel, which goes by the contract or by none, side 0 first, each of 32 bytes of the arena, are the last blocks of the list, and their records were claimed in this order;
-- or records were claimed in vain, at most two, and none where a test refused;
-- as many messages may wait in a direction of it as the parts were made for
pub record OpensChannel (parts : PartsOf) (p arena : ℕ) (contract : Option (List Row)) (old new : PlaceSeen) (result : Result (Block × Block) Refused) : Type 0 where
  pub opened : IfOk result (λ ends. (low : EndpointOf) × (high : EndpointOf) × IsPair low high × (low.depth ≡ parts.depth) × GoesBy contract low × HasBoth low high ends old new)
  pub blocks : IfOk result (λ ends. IsEndIn arena ends.0 × IsEndIn arena ends.1)
  pub refused : OnErr result (LeavesIt 2 arena old new)
  pub why : MatchOption (first_refusal (start (status_at p old) ++ arena_tests arena (length parts.records.shape.names)))
      (IfErr result (IsNoChannel parts (Stays old new) (FindsFull 1 old.seat new.seat arena) arena)) (λ refused. (result ≡ Err refused) × Stays old new)
