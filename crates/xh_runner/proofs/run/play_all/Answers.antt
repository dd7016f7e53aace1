use Rattle.xh_runner.proofs.Common.{Bindings, DoesLine, PlaceIsDone, Plays, ap, arith, into_iter_items, length, length-map, map, part, subst, sym, world_of, ◌∙◌, ◌≡◌}
use Rattle.xh_runner.proofs.Plays.{plays_length, zips_count}
use Rattle.xh_runner.proofs.Wholes.{all_enough, all_played, behind_count, same_head}
use Rattle.xh_runner.specs.Plays.{PlayAll, began}
use Rattle.xh_runner.specs.inner.Tasks.{AreEnough, AreTold}
use Rattle.xh_runner.proofs.run.play_all.Goals as goal

pub parts_of-requires : goal.parts_of-requires
parts_of-requires g c =
    let ready = world_of g.M.Machine.state c.run_part.new.head in
    let dones = c.in_ok-dones.dones in
    omega (
      arith,
      zips_count (PlaceIsDone g.M.Machine.state g.M.Machine.did ready.names ready.contracts c.args.lines.now) 0 c.args.machines.items dones.items c.in_ok-dones.ensures,
      c.args.machines.ok,
      dones.ok,
      c.requires.count,
    )

pub answers_of-requires : goal.answers_of-requires
answers_of-requires g c =
    let state = g.M.Machine.state in
    let did = g.M.Machine.did in
    let lines = c.args.lines.now in
    let ready = world_of state c.run_part.new.head in
    let dones = c.in_ok-dones.dones.items in
    let lasts = c.in_ok-last.last.items in
    let parts = c.in_ok-machines.parts in
    let count : length dones ≡ 32 = omega (arith, zips_count (PlaceIsDone state did ready.names ready.contracts lines) 0 c.args.machines.items dones c.in_ok-dones.ensures, c.args.machines.ok, c.requires.count) in
    let enough = all_enough state did lines ready c.args.machines.items c.in_ok-first.first.items lasts dones c.in_ok-dones.ensures count
    (plays_length (DoesLine did) _ _ _ _ c.in_ok-first.ensures ∙ ap (λ ls. length ls) (same_head c.new.result ready.names.processes lines))
    (plays_length (DoesLine did) _ _ _ _ c.in_ok-last.ensures) in record {
      count = omega (arith, ap (λ l. length l) c.in_ok-machines.ensures.parts, length-map parts.items (λ p. into_iter_items p), parts.ok, behind_count dones lasts, count);
      enough = subst (AreEnough ready.names.processes lines) (sym c.in_ok-machines.ensures.parts) enough;
    }

pub returns-clause-played : goal.returns-clause-played
returns-clause-played g c =
    let state = g.M.Machine.state in
    let did = g.M.Machine.did in
    let lines = c.args.lines.now in
    let ready = world_of state c.run_part.new.head in
    let end = world_of state c.run_part-2.new.head in
    let first = world_of state c.args.head.now in
    let firsts = c.in_ok-first.first.items in
    let lasts = c.in_ok-last.last.items in
    let dones = c.in_ok-dones.dones.items in
    let olds = c.args.machines.items in
    let answers = c.in_ok-answers.answers.items in
    let contracts = c.args.head.now.contracts.now in
    let old = state c.args.head.now.machine in
    let count : length dones ≡ 32 = omega (arith, zips_count (PlaceIsDone state did ready.names ready.contracts lines) 0 olds dones c.in_ok-dones.ensures, c.args.machines.ok, c.requires.count) in
    let began_is : first ≡ began old contracts = ap (λ (b : Bindings). record first { names = b }) c.requires.names in
    let head = subst (λ w. Plays (DoesLine did) w (part ready.names.processes 0 lines) firsts ready) began_is
    (subst (λ ls. Plays (DoesLine did) first ls firsts ready) (same_head c.new.result ready.names.processes lines) c.in_ok-first.ensures) in
    let told = subst (AreTold ready.names.processes lines answers) c.in_ok-machines.ensures.parts c.in_ok-answers.ensures.1 in
    subst (λ ms. PlayAll did contracts lines answers old (map state olds) end.machine (map state ms)) (sym c.in_ok-machines.ensures.machines)
    (all_played state did lines ready contracts answers old end olds firsts lasts dones count head c.in_ok-dones.ensures c.in_ok-last.ensures told)
