-- The lines of what is in flight.
use Rattle.std.specs.Prelude.{◌≡◌, ◌<◌, ℕ, All, AllPairs, List}
use Rattle.std.specs.List.{sum_by}
use Rattle.xh_model.specs.declared.limits.TheConstants.{DIRECTIONS}
use Rattle.xh_core.specs.declared.flight.FlightLine.{FlightLine}

-- the lines of so many bytes in flight: they rise strictly in their directions, of which there are 128, each has blocks and bytes, and the bytes are their sum
pub record AreFlightLines (bytes : ℕ) (lines : List FlightLine) : Type 0 where
  pub rising : AllPairs (λ a b. a.direction < b.direction) lines
  pub each : All (λ l. (l.direction < DIRECTIONS) × (0 < l.blocks) × (0 < l.bytes)) lines
  pub sum : bytes ≡ sum_by (λ l. l.bytes) lines
