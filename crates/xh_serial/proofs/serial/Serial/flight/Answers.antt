use Rattle.xh_serial.proofs.Common.{AreFlightLines, IsWhole, Machine, ap, append-nil, arith, at_drop_all, serial_flights, flight_of, ledger_of, length, subst, sym, ◌++◌, ◌∙◌, ◌≡◌, ◌≤◌}
use Rattle.xh_serial.proofs.Flights.{are_lines, nothing}
use Rattle.xh_serial.proofs.serial.Serial.flight.Goals.{After-loop-direction}
use Rattle.xh_serial.proofs.serial.Serial.flight.Goals as goal

-- past the last direction the lines are those of all
complete : (c : After-loop-direction) → 128 ≤ c.loop-direction.direction → c.loop-direction.lines.items ≡ serial_flights c.args.self.now.store 0 c.args.self.now.lines
complete c past =
    let m : Machine = c.args.self.now in
    let long : length m.lines ≡ 128 = (subst IsWhole c.self.view_is c.self.invariant).channels.long in
    let none = at_drop_all (serial_flights m.store c.loop-direction.direction) m.lines c.loop-direction.direction (omega (arith, long)) in
    sym (append-nil c.loop-direction.lines.items) ∙ (ap (λ t. c.loop-direction.lines.items ++ t) (sym none) ∙ c.loop-direction.invariant.lines)

pub returns : goal.returns
unfolding flight_of
returns c =
    let m : Machine = c.args.self.now in let whole : IsWhole m = subst IsWhole c.self.view_is c.self.invariant in
    let lines = complete c c.loop-direction-test.false in record {
      lines = lines;
      sums = subst (AreFlightLines (ledger_of m).flight) (sym lines) (are_lines m whole);
      nothing = λ none. let n = nothing m whole none in (lines ∙ n.0, n.1);
    }
