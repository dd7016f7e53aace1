use Rattle.xh_serial.proofs.Common.{List, Machine, Process, Some, Tests, ap, contract_of, holds, is_none, line, next_state, peer, toward}
use Rattle.xh_serial.proofs.Common.{ℕ, ◌%◌, end_tests, err_from_is_err_and, first_append, first_later, header_found, start, serial_status, sym, ◌++◌, ◌∙◌}
use Rattle.xh_core.specs.Calls.{given_tests, put_tests}
use Rattle.xh_serial.specs.Lines.{is_full}
use Rattle.xh_serial.proofs.serial.Serial.check_give.Goals as goal

-- what is tested of the blocks and of the message
abbrev message_tests : Machine → ℕ → ℕ → ℕ → List ℕ → Tests
message_tests m p e tag bs =
    let own : ℕ = toward m e in
    let to : ℕ = peer own in
    given_tests (holds m.store (Process p)) e bs
    ++ put_tests (is_none (next_state (contract_of m.contracts own) (own % 2) (line m.lines own).state tag)) (line m.lines to).shut (is_full m.depth (line m.lines to)) bs

pub returns-in_err-check_start : goal.returns-in_err-check_start
returns-in_err-check_start c =
    let p = err_from_is_err_and c.from_residual.result c.from_residual.ensures.1 in
    let later : Tests = message_tests c.args.self.now c.args.p c.args.e c.args.tag c.args.blocks.now in
    rw p.1 (first_append (start (serial_status c.args.self.now c.args.p)) (end_tests (header_found c.args.self.now c.args.p c.args.e) ++ later) p.0 (c.in_err-check_start.ensures ∙ ap (λ x. Some x) (sym p.2)))

pub returns-in_err-d : goal.returns-in_err-d
returns-in_err-d c =
    let p = err_from_is_err_and c.from_residual-in_err-d.result c.from_residual-in_err-d.ensures.1 in
    let later : Tests = message_tests c.args.self.now c.args.p c.args.e c.args.tag c.args.blocks.now in
    rw p.1 (first_later (start (serial_status c.args.self.now c.args.p)) (end_tests (header_found c.args.self.now c.args.p c.args.e) ++ later) c.in_ok-check_start.ensures.0
    ∙ first_append (end_tests (header_found c.args.self.now c.args.p c.args.e)) later p.0 (c.in_err-d.ensures ∙ ap (λ x. Some x) (sym p.2)))
