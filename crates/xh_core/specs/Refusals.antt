-- The refusals, by number and by name.
use Rattle.std.specs.Prelude.{ℕ, List, codes}
use Rattle.xh_core.specs.declared.refused.Refused.{Refused}
use Rattle.xh_core.specs.declared.refused.Refused.TheVariants.{
  OutOfMemory,
  BadSize,
  NoArena,
  NoSpace,
  NoRecord,
  NotOwned,
  NotData,
  NotEndpoint,
  BadCut,
  BadRange,
  NoProcess,
  Ended,
  NoChannel,
  Full,
  PeerClosed,
  Empty,
  TooMany,
  Twice,
  Worn,
  Unfinished,
  NoPlace,
  Protocol,
}

-- the number of a refusal, as replies print it
abbrev pub refusal_number : Refused → ℕ
refusal_number OutOfMemory = 1
refusal_number BadSize = 2
refusal_number NoArena = 3
refusal_number NoSpace = 4
refusal_number NoRecord = 5
refusal_number NotOwned = 6
refusal_number NotData = 7
refusal_number NotEndpoint = 8
refusal_number BadCut = 9
refusal_number BadRange = 10
refusal_number NoProcess = 11
refusal_number Ended = 12
refusal_number NoChannel = 13
refusal_number (Full _) = 14
refusal_number (PeerClosed _) = 15
refusal_number Empty = 16
refusal_number TooMany = 17
refusal_number Twice = 18
refusal_number Worn = 19
refusal_number (Unfinished _) = 20
refusal_number NoPlace = 21
refusal_number (Protocol _) = 22

-- the name of a refusal, as replies print it
abbrev pub name_of : Refused → List ℕ
name_of OutOfMemory = codes "OutOfMemory"
name_of BadSize = codes "BadSize"
name_of NoArena = codes "NoArena"
name_of NoSpace = codes "NoSpace"
name_of NoRecord = codes "NoRecord"
name_of NotOwned = codes "NotOwned"
name_of NotData = codes "NotData"
name_of NotEndpoint = codes "NotEndpoint"
name_of BadCut = codes "BadCut"
name_of BadRange = codes "BadRange"
name_of NoProcess = codes "NoProcess"
name_of Ended = codes "Ended"
name_of NoChannel = codes "NoChannel"
name_of (Full _) = codes "Full"
name_of (PeerClosed _) = codes "PeerClosed"
name_of Empty = codes "Empty"
name_of TooMany = codes "TooMany"
name_of Twice = codes "Twice"
name_of Worn = codes "Worn"
name_of (Unfinished _) = codes "Unfinished"
name_of NoPlace = codes "NoPlace"
name_of (Protocol _) = codes "Protocol"
