use Rattle.xh_serial.proofs.Common.{Machine, ap, arith, carried, ledger_of, machine_of, serial_places, sum_by, sym, total, ℕ, ◌+◌, ◌-◌, ◌∙◌, ◌≡◌}
use Rattle.xh_serial.proofs.Room.{out_is}
use Rattle.xh_serial.proofs.serial.Serial.ledger.Goals.{After-owned-held}
use Rattle.xh_serial.proofs.serial.Serial.ledger.Goals as goal

abbrev owns : Machine → ℕ
owns m = sum_by (λ place. total m.store place.blocks.items) m.places

abbrev sends : Machine → ℕ
sends m = sum_by (λ line. total m.store (carried line.waiting.items)) m.lines

held_is : (c : After-owned-held) → c.owned-held.result ≡ owns (machine_of c.self.inside)
held_is c = rw (← c.self.view_is) at c.owned-held.ensures

-- what is handed out and not owned is in flight
books : (c : After-owned-held) → c.handed_out-out.result ≡ c.owned-held.result + sends (machine_of c.self.inside)
books c =
    let m : Machine = machine_of c.self.inside in
    c.handed_out-out.ensures ∙ (out_is m c.self.invariant ∙ ap (λ (n : ℕ). n + sends m) (sym (held_is c)))

pub overflow_sub-flight : goal.overflow_sub-flight
overflow_sub-flight c = let b = books (goal.at.overflow_sub-flight c).After-owned-held in omega (arith, b)

pub returns-clause-fields : goal.returns-clause-fields
unfolding ledger_of
returns-clause-fields c =
    let d = (goal.at.returns-clause-fields c).After-owned-held in
    let m : Machine = machine_of c.self.inside in
    let lines : c.place_lines.result.items ≡ serial_places m.store 0 m.places = rw (← c.self.view_is) at c.place_lines.ensures.lines in
    let flight : c.handed_out-out.result - c.owned-held.result ≡ sends m = (let b = books d in omega (arith, b)) in
    rw (← c.self.view_is) (λ i. record {
      arenas = record { items = c.arena_lines.ensures.lines i };
      places = record { items = lines i };
      owned = held_is d i;
      flight = flight i;
      out = c.handed_out-out.ensures i;
    })

pub returns-clause-sums : goal.returns-clause-sums
returns-clause-sums c = let b = books (goal.at.returns-clause-sums c).After-owned-held in omega (arith, b)
