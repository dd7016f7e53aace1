-- What a check finds out of a command that it lets pass.
use Rattle.std.specs.Prelude.{◌≡◌, ℕ, ◌*◌, ◌/◌, ◌%◌, ◌<◌, ◌≤◌, List, true, false, Some, None, IsSome, length}
use Rattle.std.specs.List.{list_all}
use Rattle.xh_model.specs.declared.limits.TheConstants.{MAX_BLOCKS, MAX_MESSAGES, MAX_RECORDS, UNIT}
use Rattle.xh_model.specs.Store.{holds, len}
use Rattle.xh_model.specs.declared.event.Holder.TheVariants.{Process}
use Rattle.xh_serial.specs.Machine.{Machine, end_of, waiting}
use Rattle.xh_serial.specs.Commands.{IsRunning}
use Rattle.xh_core.specs.Space.{free_record}
use Rattle.xh_serial.specs.Lines.{contract_of, line, next_state, peer}
use Rattle.xh_core.specs.Several.{has_twice}

-- no test of a split that comes before its memory is true: t is the record for the tail
pub record MaySplit (m : Machine) (p r k t : ℕ) : Type 0 where
  pub runs : IsRunning m p
  pub held : holds m.store (Process p) r ≡ true
  pub no_end : end_of m r ≡ None
  pub some : 0 < k
  pub multiple : k % UNIT ≡ 0
  pub inside : k < len m.store r
  pub found : free_record m.store (r / MAX_RECORDS) ≡ Some t

-- no test of a give is true: d leads to e
pub record MayGive (m : Machine) (p e tag : ℕ) (bs : List ℕ) (d : ℕ) : Type 0 where
  pub runs : IsRunning m p
  pub toward : end_of m e ≡ Some d
  pub within : d < 2 * m.opened
  pub few : length bs ≤ MAX_BLOCKS
  pub held : list_all (λ r. holds m.store (Process p) r) bs ≡ true
  pub once : has_twice bs ≡ false
  pub allowed : IsSome (next_state (contract_of m.contracts d) (d % 2) (line m.lines d).state tag)
  pub not_shut : (line m.lines (peer d)).shut ≡ false
  pub room : length (waiting m (peer d)) < m.depth
  pub more : (line m.lines (peer d)).put < MAX_MESSAGES

-- no test of a take is true: d leads to e
pub record MayTake (m : Machine) (p e d : ℕ) : Type 0 where
  pub runs : IsRunning m p
  pub toward : end_of m e ≡ Some d
  pub within : d < 2 * m.opened
  pub some : 0 < length (waiting m d)
