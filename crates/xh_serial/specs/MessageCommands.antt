-- The commands give and take.
use Rattle.std.specs.Prelude.{◌≡◌, ℕ, ◌+◌, ◌-◌, ◌*◌, ◌%◌, ◌==◌, ◌⊎◌, not, List, [], ◌++◌, Some, None, is_none, length, slice_set, slice_index_or, Ok}
use Rattle.std.specs.List.{list_any, filter}
use Rattle.xh_model.specs.declared.event.Holder.TheVariants.{Process}
use Rattle.xh_model.specs.declared.row.Row.{Row}
use Rattle.xh_model.specs.Rows.{IsFrontAllowed}
use Rattle.xh_model.specs.Store.{holds}
use Rattle.xh_serial.specs.declared.message.Message.{Message}
use Rattle.xh_serial.specs.declared.message.Taken.{Taken}
use Rattle.xh_serial.specs.declared.line.Line.{Line}
use Rattle.xh_core.specs.Calls.{start, end_tests, given_tests, put_tests, take_tests}
use Rattle.xh_core.specs.Refusing.{Tests, first_refusal}
use Rattle.xh_serial.specs.Lines.{contract_of, is_full, line, next_state, no_message, peer, put_line, tags_of, taken_line, told_line}
use Rattle.xh_serial.specs.Machine.{Machine, blocks, relisted, serial_status, waiting}
use Rattle.xh_serial.specs.Commands.{Answer, accept_all, answered, described, header_found, pass_all, toward}

-- ---- give

-- the endpoint, the blocks, then the contract, the peer, and room in the direction
abbrev pub give_refusals : Machine → ℕ → ℕ → ℕ → List ℕ → Tests
give_refusals m p e tag bs =
    let own : ℕ = toward m e in
    let to : ℕ = peer own in
    start (serial_status m p) ++ end_tests (header_found m p e) ++ given_tests (holds m.store (Process p)) e bs
    ++ put_tests (is_none (next_state (contract_of m.contracts own) (own % 2) (line m.lines own).state tag)) (line m.lines to).shut (is_full m.depth (line m.lines to)) bs

-- the list without these records
abbrev pub without_records : List ℕ → List ℕ → List ℕ
without_records bs rs = filter (λ r. not (list_any (λ b. b == r) bs)) rs

-- each block is passed, in order, and leaves the list; the message goes to the back of the direction toward the other end
unfoldable pub given : ℕ → ℕ → ℕ → List ℕ → Machine → Machine
given p e tag bs m =
    let own : ℕ = toward m e in
    let to : ℕ = peer own in
    record m {
      store = pass_all p to bs m.store;
      places = relisted p (without_records bs (blocks m p)) m.places;
      lines = slice_set (slice_set m.lines own (told_line (contract_of m.contracts own) (own % 2) tag (line m.lines own))) to (put_line tag bs (line m.lines to));
    }

-- the number of the message in its direction
unfoldable pub give : ℕ → ℕ → ℕ → List ℕ → Machine → Answer ℕ
give p e tag bs m = answered (first_refusal (give_refusals m p e tag bs)) m (Ok ((line m.lines (peer (toward m e))).put + 1), given p e tag bs m)

-- ---- what a contract keeps

-- Under a contract the message at the front toward each end is one that its state allows, and messages wait for one of the two ends at most.
abbrev pub AreLinesOrderly : List Row → Line → Line → Type 0
AreLinesOrderly rows low high = IsFrontAllowed rows 0 low.state (tags_of low.waiting.items) × IsFrontAllowed rows 1 high.state (tags_of high.waiting.items) ×
    ((tags_of low.waiting.items ≡ []) ⊎ (tags_of high.waiting.items ≡ []))

-- so it is on each channel with a contract
abbrev pub HasOrderlyLines : Machine → Type 0
HasOrderlyLines m = (c : ℕ) (rows : List Row) → slice_index_or m.contracts c None ≡ Some rows → AreLinesOrderly rows (line m.lines (2 * c)) (line m.lines (2 * c + 1))

-- ---- take

abbrev pub take_refusals : Machine → ℕ → ℕ → Tests
take_refusals m p e = start (serial_status m p) ++ end_tests (header_found m p e) ++ take_tests (length (waiting m (toward m e)) == 0) (line m.lines (peer (toward m e))).shut

-- the message at the front of the direction toward e
abbrev pub front_message : Machine → ℕ → Message
front_message m e = slice_index_or (waiting m (toward m e)) 0 no_message

-- the front message is taken, and each of its blocks accepted, in order, at the end of the list
unfoldable pub taken : ℕ → ℕ → Machine → Machine
taken p e m =
    let d : ℕ = toward m e in
    let came : List ℕ = (front_message m e).blocks.items in
    record m {
      store = accept_all p d came m.store;
      places = relisted p (blocks m p ++ came) m.places;
      lines = slice_set m.lines d (taken_line (contract_of m.contracts d) (1 - d % 2) (front_message m e).tag (line m.lines d));
    }

-- the message and its blocks
abbrev pub told_message : Machine → Message → Taken
told_message m message = record { no = message.no; tag = message.tag; blocks = record { items = described m.store message.blocks.items } }

unfoldable pub take : ℕ → ℕ → Machine → Answer Taken
take p e m = answered (first_refusal (take_refusals m p e)) m (Ok (told_message m (front_message m e)), taken p e m)
