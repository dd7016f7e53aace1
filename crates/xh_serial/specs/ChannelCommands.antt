-- The commands open and wire, with a contract or without.
use Rattle.std.specs.Prelude.{ℕ, ◌+◌, ◌*◌, List, ◌++◌, Option, Some, length, slice_set, Ok}
use Rattle.xh_model.specs.declared.limits.TheConstants.{END_BYTES}
use Rattle.xh_model.specs.declared.row.Row.{Row}
use Rattle.xh_core.specs.declared.block.Block.{Block}
use Rattle.xh_serial.specs.Lines.{new_line}
use Rattle.xh_serial.specs.Machine.{Machine, blank, serial_status, with_last}
use Rattle.xh_serial.specs.Commands.{Answer, answered}
use Rattle.xh_core.specs.Calls.{start, channel_tests}
use Rattle.xh_core.specs.Pairing.{moved, with_pair}
use Rattle.xh_core.specs.Refusing.{Tests, first_refusal}
use Rattle.xh_core.specs.Space.{low_end, high_end, pair_tests}

abbrev pub wire_heads : Machine → ℕ → ℕ → ℕ → Tests
wire_heads m p q a = start (serial_status m p) ++ start (serial_status m q) ++ channel_tests a (length m.store.arenas) m.opened

abbrev pub wire_refusals : Machine → ℕ → ℕ → ℕ → Tests
wire_refusals m p q a = wire_heads m p q a ++ pair_tests p m.store a

-- the two ends as blocks
abbrev pub ends_at : ℕ → ℕ → Block × Block
ends_at r t = (record { rec = r; len = END_BYTES }, record { rec = t; len = END_BYTES })

-- p claims two free records r and t, and 64 bytes are carved for r and cut in halves: r is side 0 and t side 1 of the next channel.
-- Side 1 goes to q; each stands at the end of its holder's list.
abbrev pub wired : ℕ → ℕ → ℕ → ℕ → Option (List Row) → Machine → Machine
wired p q r t contract m = record m {
  store = moved p q t (2 * m.opened + 1) (with_pair p r t m.store);
  bodies = slice_set (slice_set m.bodies r (blank (Some (2 * m.opened)))) t (blank (Some (2 * m.opened + 1)));
  places = with_last q t (with_last p r m.places);
  lines = slice_set (slice_set m.lines (2 * m.opened) (new_line contract)) (2 * m.opened + 1) (new_line contract);
  contracts = slice_set m.contracts m.opened contract;
  opened = m.opened + 1;
}

unfoldable pub wire_channel : ℕ → ℕ → ℕ → Option (List Row) → Machine → Answer (Block × Block)
wire_channel p q a contract m =
    let r : ℕ = low_end m.store a in
    let t : ℕ = high_end p m.store a in
    answered (first_refusal (wire_refusals m p q a)) m (Ok (ends_at r t), wired p q r t contract m)

-- one process has both ends
abbrev pub open_channel : ℕ → ℕ → Option (List Row) → Machine → Answer (Block × Block)
open_channel p a contract m = wire_channel p p a contract m
