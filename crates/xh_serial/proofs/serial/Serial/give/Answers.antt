use Rattle.xh_serial.proofs.Common.{IsWhole, Line, Machine, MayGive, ap, contract_of, get_or-set_other, give, given, line, machine_of, no_line, peer, refl, slice_index_or, slice_set, subst, sym}
use Rattle.xh_serial.proofs.Common.{told_line, toward, unwrap_or, ◌%◌, ◌≡◌}
use Rattle.xh_serial.proofs.Machines.{peer_ne}
use Rattle.xh_serial.proofs.Messages.{given_whole}
use Rattle.xh_serial.proofs.serial.Serial.give.Goals as goal

-- ---- the machine before and after

abbrev was : goal.After-put → Machine
was c = machine_of c.self.inside

abbrev is : goal.After-put → Machine
is c = record (machine_of c.self.inside) {
  store = c.pass_all.new.plain;
  places = c.remove_all.new.self;
  lines = c.put.new.self.lines;
  contracts = c.put.new.self.contracts;
  opened = c.put.new.self.opened;
}

abbrev told : goal.After-put → Line
told c = told_line (contract_of (was c).contracts c.in_ok-own.own) (c.in_ok-own.own % 2) c.args.tag (line (was c).lines c.in_ok-own.own)

may_there : (c : goal.After-put) → MayGive (was c) c.args.p c.args.e c.args.tag c.args.blocks.now c.in_ok-own.own
may_there c = subst (λ (x : Machine). MayGive x c.args.p c.args.e c.args.tag c.args.blocks.now c.in_ok-own.own) (sym c.self.view_is) c.in_ok-own.ensures.1

may : (c : goal.After-put) → MayGive (was c) c.args.p c.args.e c.args.tag c.args.blocks.now (toward (was c) c.args.e)
may c = subst (MayGive (was c) c.args.p c.args.e c.args.tag c.args.blocks.now) (sym (ap (λ o. unwrap_or o 128) (may_there c).toward)) (may_there c)

other : (c : goal.After-put) → slice_index_or (slice_set (was c).lines c.in_ok-own.own (told c)) (peer c.in_ok-own.own) no_line ≡ line (was c).lines (peer c.in_ok-own.own)
other c = get_or-set_other (was c).lines c.in_ok-own.own (peer c.in_ok-own.own) (told c) no_line (peer_ne c.in_ok-own.own)

-- it is the one after the command
made : (c : goal.After-put) → is c ≡ given c.args.p c.args.e c.args.tag c.args.blocks.now (was c)
unfolding given
made c = rw (c.pass_all.ensures, c.remove_all.ensures, c.put.ensures.is, c.tell.ensures, c.peer-to.ensures.is, other c, (may_there c).toward, (may_there c).runs.0) refl

pub invariant_of-self : goal.invariant_of-self
invariant_of-self c = subst IsWhole (sym (made c)) (given_whole (was c) c.args.p c.args.e c.args.tag c.args.blocks.now c.self.invariant (may c))

pub returns : goal.returns
unfolding give
returns c = rw (c.in_ok-own.ensures.0, ← c.self.view_is, made c, c.put.ensures.number, c.tell.ensures, c.peer-to.ensures.is, other c, (may_there c).toward) refl
