-- The history of a place, and what makes it lawful: each call's answer, and what it did to the place, are that call's relation.
use Rattle.std.specs.Prelude.{◌≡◌, ◌<◌, ℕ, [], ◌∷◌, length}
use Rattle.xh_core.specs.declared.status.Status.TheVariants.{Vacant}
use Rattle.xh_history.specs.Histories.{History}
use Rattle.xh_calls.specs.Calls.{Looks, Spawns, space_of}
use Rattle.xh_calls.specs.Channels.{OpensChannel}
use Rattle.xh_calls.specs.Leading.{Leading}
use Rattle.xh_calls.specs.Parts.{PartsOf}
use Rattle.xh_calls.specs.Places.{status_at}
use Rattle.xh_calls.specs.Several.{TakesAny}
use Rattle.xh_calls.specs.Wires.{ClosesAgain, OpensToward, ReceivesOr, toward_high}
use Rattle.xh_calls.specs.declared.call.Call.{Call}
use Rattle.xh_calls.specs.declared.call.Call.TheVariants as call
use Rattle.xh_calls.specs.declared.call.Entry.{Entry}
use Rattle.xh_kernel.specs.Places.{IsFound}
use Rattle.xh_place.specs.Calls.{Allocates, Closes, FreesBlock, GivesUp, HasBytes, Makes, Reads, Splits, Stops, Writes}
use Rattle.xh_place.specs.Messages.{Gives, TakesAt}
use Rattle.xh_place.specs.Places.{PlaceSeen, glance_of}
use Rattle.xh_records.specs.History.{StartsWith}
use Rattle.xh_records.specs.Seats.{IsSeatOf}
use Rattle.xh_place.specs.Seen.{Stays}

-- ---- one call

-- what the call does to its place, and answers
abbrev pub Does : PartsOf → Call → PlaceSeen → PlaceSeen → Type 0
Does parts (call.Spawn result) old new = Spawns parts.generations old new result
Does parts (call.Look p result) old new = Looks p old new result
Does parts (call.Alloc p n arena result) old new = Allocates (status_at p old) (space_of parts) n arena old new result
Does parts (call.Put p xs arena result) old new = Makes (status_at p old) (space_of parts) (length xs) xs arena old new result
Does parts (call.Split p r k result) old new = Splits (status_at p old) r k old new result
Does parts (call.Read p r i shown result) old new = Reads (status_at p old) r i shown old new result
Does parts (call.Write p r i xs result) old new = Writes (status_at p old) r i xs old new result
Does parts (call.Free p r result) old new = FreesBlock (status_at p old) r old new result
Does parts (call.IntoBytes p r result) old new = GivesUp (HasBytes r old.seat) (status_at p old) r old new result
Does parts (call.Open p arena contract result) old new = OpensChannel parts p arena contract old new result
Does parts (call.OpenToward p arena contract result) old new = OpensToward parts p arena contract old new result
Does parts (call.Receive q r channel bytes result) old new = ReceivesOr q (toward_high channel) r bytes old new result
Does parts (call.CloseAgain p r channel bytes) old new = ClosesAgain p channel r old new bytes
Does parts (call.Give p e tag given result) old new = Gives (status_at p old) e tag given old new result
Does parts (call.Take p e result) old new = TakesAt (status_at p old) e old new result
Does parts (call.TakeAny p ends result) old new = TakesAny p ends old new result
Does parts (call.Close p e bytes result) old new = Closes (status_at p old) e bytes old new result
Does parts (call.Stop p budget bytes result) old new = Stops (status_at p old) budget bytes old new result

-- one call of a worker of the kernel, from a place to a lawful one, which it looks like afterwards
pub record Goes (parts : PartsOf) (c : ℕ × Entry) (old new : PlaceSeen) : Type 0 where
  pub worker : c.0 < parts.workers
  pub does : Does parts c.1.call old new
  pub found : IsFound parts new
  pub seen : StartsWith new.seat.front old.seat.front
  pub glance : c.1.glance ≡ glance_of new

-- ---- a history

-- the calls, one after another, lead from one place to the other; between two calls the place stays what it is
abbrev pub Leads : PartsOf → PlaceSeen → History Entry → PlaceSeen → Type 0
Leads parts old [] new = Stays old new
Leads parts old (c ∷ cs) new = (from : PlaceSeen) × (mid : PlaceSeen) × Stays old from × Goes parts c from mid × Leads parts mid cs new

-- the place k, while nobody has had it: it has done nothing, and has seen nothing
pub record IsUnowned (parts : PartsOf) (k : ℕ) (p : PlaceSeen) : Type 0 where
  pub own : IsSeatOf parts.records p.seat
  pub process : p.seat.process ≡ k
  pub state : p.state ≡ Vacant
  pub blocks : (p.seat.lots ≡ []) × (p.list ≡ [])
  pub front : p.seat.front ≡ []

-- the law of histories: the calls of the place k lead to the place from the one that nobody has had, each by what such a call does and answers
abbrev pub LeadsToPlace : PartsOf → Leading
LeadsToPlace parts k h place = (first : PlaceSeen) × IsUnowned parts k first × Leads parts first h place

abbrev pub IsHistoryOf : PartsOf → Leading
IsHistoryOf parts k h place = ∥ LeadsToPlace parts k h place ∥₁

-- the history leads to a place of which the call makes this one, which has forgotten nothing
abbrev pub ComesTo : PartsOf → ℕ → History Entry → Call → PlaceSeen → Type 0
ComesTo parts k h call new = (from : PlaceSeen) × IsHistoryOf parts k h from × Does parts call from new × StartsWith new.seat.front from.seat.front

-- histories lead where the law says, and nowhere else
abbrev pub IsLaw : PartsOf → Leading → Type 0
IsLaw parts leads = (k : ℕ) (h : History Entry) (place : PlaceSeen) → (IsHistoryOf parts k h place → ∥ leads k h place ∥₁) × (∥ leads k h place ∥₁ → IsHistoryOf parts k h place)
