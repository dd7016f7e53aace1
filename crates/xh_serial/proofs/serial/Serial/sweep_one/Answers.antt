use Rattle.xh_serial.proofs.Common.{place, IsWhole, List, Machine, all_out, ap, arith, blocks, end_of, len, length, machine_of, refl, slice_index_or, subst, sweep_one, sym, way_in, ℕ, ◌+◌}
use Rattle.xh_serial.proofs.Common.{◌<◌, ◌∙◌, ◌≡◌, ◌≤◌}
use Rattle.xh_serial.proofs.Machines.{current_blocks, lists_current}
use Rattle.xh_serial.proofs.Swept.{bytes_one, end_range, entry, entry_left, entry_len, entry_room, entry_there, whole_one}
use Rattle.xh_serial.proofs.serial.Serial.sweep_one.Goals.{After-end-end}
use Rattle.xh_serial.proofs.serial.Serial.sweep_one.Goals as goal

-- ---- the entry, as each step finds it

abbrev was : After-end-end → Machine
was c = machine_of c.self.inside

has : (c : After-end-end) → c.args.from < length (blocks (was c) c.args.p)
has c = subst (λ (x : Machine). c.args.from < length (blocks x c.args.p)) (sym c.self.view_is) c.requires

abbrev record_of : After-end-end → ℕ
record_of c = entry (was c) c.args.p c.args.from

read : (c : After-end-end) → slice_index_or c.blocks-2.result.now c.args.from 0 ≡ record_of c
read c = ap (λ (xs : List ℕ). slice_index_or xs c.args.from 0) (c.blocks-2.ensures.list ∙ sym (current_blocks (was c) c.args.p (lists_current (was c) c.args.p c.args.from (has c))))

there : (c : After-end-end) → record_of c < length (was c).bodies
there c = subst (λ (n : ℕ). record_of c < n) (sym c.self.invariant.bodies) (entry_there (was c) c.args.p c.args.from c.self.invariant (has c))

-- the direction toward the entry where it is an endpoint
end_is : (c : After-end-end) → c.end-end.result ≡ end_of (was c) (record_of c)
end_is c = c.end-end.ensures ∙ ap (end_of (was c)) (read c)

pub shut-came-requires : goal.shut-came-requires
shut-came-requires c = λ k e.
    let d = (goal.at.shut-came-requires c).After-end-end in
    rw c.self.invariant.channels.long at (end_range (was d) (record_of d) c.self.invariant k (sym (end_is d) ∙ e))

pub add_all-requires : goal.add_all-requires
add_all-requires c =
    let d = (goal.at.add_all-requires c).After-end-end in
    subst (λ (xs : List ℕ). length (place c.self.inside.places c.args.p).blocks.items + length xs ≤ 2048) (sym (c.as_slice-2.ensures.value ∙ c.shut-came.ensures.records))
    (entry_room (was d) c.args.p c.args.from c.end-end.result c.self.invariant (has d))

pub bind-requires : goal.bind-requires
bind-requires c = let d = (goal.at.bind-requires c).After-end-end in rw (read d) (there d)

-- ---- the machine after

abbrev is : goal.After-remove_at → Machine
is c = record (machine_of c.self.inside) {
  store = c.discard-bytes.new.self;
  bodies = c.bind.new.self;
  places = c.remove_at.new.self;
  lines = c.shut-came.new.self.lines;
  contracts = c.shut-came.new.self.contracts;
  opened = c.shut-came.new.self.opened;
}

abbrev begun : goal.After-remove_at → After-end-end
begun c = (goal.at.returns-clause-is c).After-end-end

-- it is the one after the sweep of the entry
made : (c : goal.After-remove_at) → is c ≡ sweep_one c.args.p c.args.from (was (begun c))
unfolding sweep_one
made c =
    let d = begun c in
    let came = c.as_slice-2.ensures.value ∙ (c.shut-came.ensures.records ∙ ap (way_in (was d).lines) (end_is d)) in
    let listed = entry_left (was d) c.args.p c.args.from c.as_slice-2.result.now c.add_all.new.self c.remove_at.new.self c.self.invariant (has d) came c.add_all.ensures c.remove_at.ensures in
    rw (listed, c.discard-bytes.ensures.store, c.accept_from.ensures, c.as_slice.ensures.value, c.bind.ensures)
    (rw (c.shut-came.ensures.records, c.shut-came.ensures.lines, end_is d, read d) refl)

pub invariant_of-self : goal.invariant_of-self
invariant_of-self c = subst IsWhole (sym (made c)) (whole_one (was (begun c)) c.args.p c.args.from c.self.invariant (has (begun c)))

pub returns-clause-is : goal.returns-clause-is
returns-clause-is c = made c ∙ ap (sweep_one c.args.p c.args.from) c.self.view_is

pub returns-clause-bytes : goal.returns-clause-bytes
returns-clause-bytes c =
    let d = begun c in
    let m : Machine = was d in
    let b : len m.store (record_of d) + all_out (sweep_one c.args.p c.args.from m).store ≡ all_out m.store = bytes_one m c.args.p c.args.from c.self.invariant (has d) in
    let out : all_out c.discard-bytes.new.self ≡ all_out (sweep_one c.args.p c.args.from m).store = ap (λ (x : Machine). all_out x.store) (made c) in
    let same : all_out m.store ≡ all_out c.args.self.now.store = ap (λ (x : Machine). all_out x.store) c.self.view_is in
    let own : c.discard-bytes.result ≡ len m.store (record_of d) = (rw (c.discard-bytes.ensures.length, c.accept_from.ensures, c.as_slice.ensures.value)
    (rw (c.shut-came.ensures.records, end_is d, read d) (entry_len m c.args.p c.args.from c.self.invariant (has d)))) in
    omega (arith, b, out, same, own)
