use Rattle.xh_serial.proofs.Common.{IsLawful, IsWhole, Machine, None, Ok, Paired, Some, blank, err_from_is_err_and, first_append, first_later, first_refusal, length, length-set, machine_of, moved, nat_tests}
use Rattle.xh_serial.proofs.Common.{pair_tests, refl, subst, sym, with_pair, ℕ, ◌*◌, ◌+◌, ◌<◌, ◌==◌, ◌∙◌, ◌≡◌, true, arith}
use Rattle.xh_serial.specs.ChannelCommands.{ends_at, wire_channel, wire_heads, wired}
use Rattle.xh_serial.proofs.Opening.{Connects, connected_whole, pair_there, room_p, room_q}
use Rattle.xh_serial.proofs.serial.Serial.connect.Goals.{After-hand_over, In_ok-r}
use Rattle.xh_serial.proofs.serial.Serial.connect.Goals as goal
use Rattle.std.specs.Prelude.{◌||◌}

pub returns-in_err-check_wire : goal.returns-in_err-check_wire
unfolding wire_channel
returns-in_err-check_wire c =
    let e = err_from_is_err_and c.from_residual.result c.from_residual.ensures.1 in
    let m : Machine = c.args.self.now in
    rw (e.1, e.2, first_append (wire_heads m c.args.p c.args.q c.args.arena) (pair_tests c.args.p m.store c.args.arena) c.in_err-check_wire.field-0.0 c.in_err-check_wire.ensures) refl

pub returns-in_err-r : goal.returns-in_err-r
unfolding wire_channel
returns-in_err-r c =
    let e = err_from_is_err_and c.from_residual-in_err-r.result c.from_residual-in_err-r.ensures.1 in
    let room = subst (λ (x : Machine). first_refusal (pair_tests c.args.p x.store c.args.arena) ≡ Some c.in_err-r.field-0.0) c.self.view_is c.in_err-r.ensures.tests in
    let m : Machine = c.args.self.now in
    let passed = first_later (wire_heads m c.args.p c.args.q c.args.arena) (pair_tests c.args.p m.store c.args.arena) c.in_ok-check_wire.ensures.0 in
    rw (e.1, e.2, c.in_err-r.ensures.unchanged, c.self.view_is, passed, room) refl

-- ---- the two records have blocks

there : (c : In_ok-r) (k : ℕ) → ((k == c.in_ok-r.r) || (k == c.in_ok-r.t)) ≡ true → k < length c.self.inside.blocks
there c k y = rw c.self.invariant.bodies (pair_there _ _ _ _ _ _ c.in_ok-r.ensures.done k y)

pub bind-requires : goal.bind-requires
bind-requires c = there (goal.at.bind-requires c).In_ok-r c.in_ok-r.r (grind (arith, nat_tests))

pub bind-requires-2 : goal.bind-requires-2
bind-requires-2 c = rw (c.bind.ensures, length-set c.self.inside.blocks c.in_ok-r.r (blank (Some (2 * c.open-channel.result))))
    (there (goal.at.bind-requires-2 c).In_ok-r c.in_ok-r.t (grind (arith, nat_tests)))

-- ---- what the steps before the lists found

abbrev was : After-hand_over → Machine
was c = machine_of c.self.inside

handed : (c : After-hand_over) → c.hand_over.new.self ≡ moved c.args.p c.args.q c.in_ok-r.t (2 * (was c).opened + 1) (with_pair c.args.p c.in_ok-r.r c.in_ok-r.t (was c).store)
handed c = c.hand_over.ensures.store ∙ (λ i. moved c.args.p c.args.q c.in_ok-r.t (2 * c.open-channel.ensures.number i + 1) (c.in_ok-r.ensures.done.is i))

facts : (c : After-hand_over) → Connects c.args.p c.args.q c.args.arena c.in_ok-r.r c.in_ok-r.t c.args.contract (was c)
facts c =
    let checked = rw (← c.self.view_is) at c.in_ok-check_wire.ensures.1 in record {
      whole = c.self.invariant;
      runs_p = checked.0;
      runs_q = checked.1;
      more = checked.3;
      sound = c.open-channel.ensures.sound;
      pair = subst (Paired c.args.p c.args.arena c.in_ok-r.r c.in_ok-r.t (was c).store) c.in_ok-r.ensures.done.is c.in_ok-r.ensures.done;
      lawful = subst IsLawful (handed c) c.hand_over.ensures.lawful;
    }

pub add-requires : goal.add-requires
add-requires c = room_p _ _ _ _ _ _ _ (facts (goal.at.add-requires c).After-hand_over)

pub add-requires-2 : goal.add-requires-2
add-requires-2 c = rw c.add.ensures (room_q _ _ _ _ _ _ _ (facts (goal.at.add-requires-2 c).After-hand_over))

-- ---- the machine at the end

abbrev steps : goal.After-add-2 → After-hand_over
steps c = (goal.at.returns c).After-hand_over

abbrev is : goal.After-add-2 → Machine
is c = record (machine_of c.self.inside) {
  store = c.hand_over.new.self;
  bodies = c.bind-2.new.self;
  places = c.add-2.new.self;
  lines = c.open-channel.new.self.lines;
  contracts = c.open-channel.new.self.contracts;
  opened = c.open-channel.new.self.opened;
}

-- it is the one with a channel more
made : (c : goal.After-add-2) → is c ≡ wired c.args.p c.args.q c.in_ok-r.r c.in_ok-r.t c.args.contract (was (steps c))
made c = rw (handed (steps c), c.add-2.ensures, c.add.ensures, c.bind-2.ensures, c.bind.ensures, c.open-channel.ensures.number)
    (rw (c.open-channel.ensures.lines, c.open-channel.ensures.contracts, c.open-channel.ensures.opened) refl)

pub invariant_of-self-2 : goal.invariant_of-self-2
invariant_of-self-2 c = subst IsWhole (sym (made c)) (connected_whole _ _ _ _ _ _ _ (facts (steps c)))

pub returns : goal.returns
unfolding wire_channel
returns c =
    let m : Machine = was (steps c) in
    let heads = subst (λ (x : Machine). first_refusal (wire_heads x c.args.p c.args.q c.args.arena) ≡ None) (sym c.self.view_is) c.in_ok-check_wire.ensures.0 in
    let pair = c.in_ok-r.ensures.done in
    rw (← c.self.view_is, first_later (wire_heads m c.args.p c.args.q c.args.arena) (pair_tests c.args.p m.store c.args.arena) heads, c.in_ok-r.ensures.tests, pair.high, pair.low)
    (λ i. (Ok (ends_at c.in_ok-r.r c.in_ok-r.t), sym (made c) i))
