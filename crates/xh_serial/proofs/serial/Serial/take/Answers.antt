use Rattle.xh_serial.proofs.Common.{IsWhole, Machine, MayTake, Message, Ok, ap, described, front_message, machine_of, refl, subst, sym, taken, toward, ◌∙◌, ◌≡◌}
use Rattle.xh_serial.specs.MessageCommands.{take}
use Rattle.xh_serial.proofs.Messages.{front_allowed, taken_room, taken_whole}
use Rattle.xh_serial.proofs.serial.Serial.take.Goals.{After-take_front-message}
use Rattle.xh_serial.proofs.serial.Serial.take.Goals as goal

-- ---- the message that is taken

abbrev was : After-take_front-message → Machine
was c = machine_of c.self.inside

may_there : (c : After-take_front-message) → MayTake (was c) c.args.p c.args.e c.in_ok-d.d
may_there c = rw (← c.self.view_is) at c.in_ok-d.ensures.1

may : (c : After-take_front-message) → MayTake (was c) c.args.p c.args.e (toward (was c) c.args.e)
may c = rw ((may_there c).toward) (may_there c)

first : (c : After-take_front-message) → c.take_front-message.result ≡ front_message (was c) c.args.e
first c = rw ((may_there c).toward) c.take_front-message.ensures.front

pub add_all-requires : goal.add_all-requires
add_all-requires c =
    let d = (goal.at.add_all-requires c).After-take_front-message in
    rw (c.as_slice-2.ensures.value, first d) (taken_room (was d) c.args.p c.args.e c.self.invariant (may d))

-- ---- the machine after

abbrev begun : goal.After-add_all → After-take_front-message
begun c = (goal.at.returns c).After-take_front-message

abbrev is : goal.After-add_all → Machine
is c = record (machine_of c.self.inside) {
  store = c.accept_all.new.plain;
  places = c.add_all.new.self;
  lines = c.take_front-message.new.self.lines;
  contracts = c.take_front-message.new.self.contracts;
  opened = c.take_front-message.new.self.opened;
}

-- it is the one after the command
made : (c : goal.After-add_all) → is c ≡ taken c.args.p c.args.e (was (begun c))
unfolding taken
made c = rw (c.accept_all.ensures, c.add_all.ensures, c.as_slice.ensures.value, c.as_slice-2.ensures.value, c.take_front-message.ensures.is)
    (rw (c.take_front-message.ensures.front, (may_there (begun c)).toward, (may_there (begun c)).runs.0) refl)

pub invariant_of-self : goal.invariant_of-self
invariant_of-self c = subst IsWhole (sym (made c)) (taken_whole (was (begun c)) c.args.p c.args.e c.self.invariant (may (begun c)))

pub returns : goal.returns
unfolding take
returns c =
    let m : Machine = was (begun c) in
    let same : front_message m c.args.e ≡ c.take_front-message.result = sym (first (begun c)) in
    let blocks : described m.store (front_message m c.args.e).blocks.items ≡ c.describe-blocks.result.items = ap (λ (x : Message). described m.store x.blocks.items) same ∙ sym c.describe-blocks.ensures in
    record {
      is = rw (c.in_ok-d.ensures.0, ← c.self.view_is, made c) (λ i. (Ok (record { no = (same i).no; tag = (same i).tag; blocks = record { items = blocks i } }), taken c.args.p c.args.e m));
      allowed = rw (← c.self.view_is, first (begun c)) (front_allowed m c.args.p c.args.e c.self.invariant (may (begun c)) _ refl);
    }
