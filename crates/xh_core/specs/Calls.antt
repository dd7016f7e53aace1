-- Why each call is refused: its tests in their order, over how far a process has come, and what stands at a record.
use Rattle.std.specs.Prelude.{ℕ, ◌+◌, ◌==◌, ◌&&◌, ◌||◌, Bool, not, cond, List, [], ◌∷◌, ◌++◌, Option, is_none, length, nat_le, nat_lt, Result, Ok, Err}
use Rattle.std.specs.List.{list_all}
use Rattle.xh_model.specs.declared.limits.TheConstants.{CHANNELS, MAX_BLOCKS}
use Rattle.xh_core.specs.declared.header.Header.{Header}
use Rattle.xh_core.specs.declared.refused.Refused.{Refused}
use Rattle.xh_core.specs.declared.refused.Refused.TheVariants.{
  NoArena,
  BadSize,
  NotOwned,
  NotData,
  NotEndpoint,
  BadCut,
  BadRange,
  NoProcess,
  Ended,
  NoChannel,
  TooMany,
  Twice,
  Protocol,
  PeerClosed,
  Full,
  Empty,
  Unfinished,
}
use Rattle.xh_core.specs.declared.status.Status.{Status}
use Rattle.xh_core.specs.Headers.{has_data, has_end, len_in}
use Rattle.xh_core.specs.Refusing.{Tests}
use Rattle.xh_core.specs.Several.{has_twice}
use Rattle.xh_core.specs.Space.{is_bad_cut}
use Rattle.xh_core.specs.Statuses.{is_vacant, is_running, is_ended}

-- ---- the process

-- of each call: the process is none, or does not run
abbrev pub start : Status → Tests
start status = (is_vacant status, NoProcess) ∷ (not (is_running status), Ended) ∷ []

-- of its end: the process is none, or has ended
abbrev pub stop : Status → Tests
stop status = (is_vacant status, NoProcess) ∷ (is_ended status, Ended) ∷ []

-- the bytes that were reclaimed, or how many blocks are left
abbrev pub reclaimed : ℕ → ℕ → Result ℕ Refused
reclaimed bytes left = cond (left == 0) (Ok bytes) (Err (Unfinished left))

-- ---- data blocks

-- there is no such arena, where there are so many
abbrev pub arena_tests : ℕ → ℕ → Tests
arena_tests arena arenas = (nat_le arenas arena, NoArena) ∷ []

-- n bytes of an arena, where each has so many
abbrev pub alloc_tests : ℕ → ℕ → ℕ → ℕ → Tests
alloc_tests arena arenas n size = arena_tests arena arenas ++ ((n == 0) || nat_lt size n, BadSize) ∷ []

-- nothing stands there, or an endpoint
abbrev pub data_tests : Option Header → Tests
data_tests found = (is_none found, NotOwned) ∷ (not (has_data found), NotData) ∷ []

-- a cut after k bytes
abbrev pub split_tests : Option Header → ℕ → Tests
split_tests found k = data_tests found ++ (is_bad_cut k (len_in found), BadCut) ∷ []

-- so many bytes from `at` on are not all in the block
abbrev pub range_tests : Option Header → ℕ → ℕ → Tests
range_tests found at count = data_tests found ++ (nat_lt (len_in found) (at + count), BadRange) ∷ []

-- ---- channels

-- a channel whose ends are in an arena, where so many channels were opened
abbrev pub channel_tests : ℕ → ℕ → ℕ → Tests
channel_tests arena arenas opened = arena_tests arena arenas ++ (nat_le CHANNELS opened, NoChannel) ∷ []

-- nothing stands there, or no endpoint
abbrev pub end_tests : Option Header → Tests
end_tests found = (is_none found, NotOwned) ∷ (not (has_end found), NotEndpoint) ∷ []

-- too many blocks are given, one that the process does not have, or one that stands twice among them and the endpoint
abbrev pub given_tests : (ℕ → Bool) → ℕ → List ℕ → Tests
given_tests is_owned e given = (nat_lt MAX_BLOCKS (length given), TooMany) ∷ (not (list_all is_owned given), NotOwned) ∷ (has_twice (e ∷ given), Twice) ∷ []

-- the contract does not allow the message, the peer is closed, or the direction has no room: the blocks come back
abbrev pub put_tests : Bool → Bool → Bool → List ℕ → Tests
put_tests is_banned is_closed is_full given =
    (is_banned, Protocol (record { items = given }))
    ∷ (is_closed, PeerClosed (record { items = given }))
    ∷ (is_full, Full (record { items = given })) ∷ []

-- no message waits, and none can come, or none has come yet
abbrev pub take_tests : Bool → Bool → Tests
take_tests is_empty is_closed = (is_empty && is_closed, PeerClosed (record { items = [] })) ∷ (is_empty, Empty) ∷ []
