use Rattle.std.proofs.lemmas.Option.{slice_get_within}
use Rattle.xh_calls.proofs.Common.{ap, rules, ◌∙◌}
use Rattle.xh_calls.proofs.Tallied.{by_tally, given, named, tallied}
use Rattle.xh_calls.proofs.Vaulted.{back_stays, keeps, leaves}
use Rattle.xh_calls.specs.Vaults.{KeptOf}
use Rattle.xh_calls.proofs.arenas.LentVaults.give_back.Goals as goal

pub index_mut-requires : goal.index_mut-requires
index_mut-requires g c =
    let inside = tallied _ c.from.result c.args.self.now.own.0 c.from.ensures (slice_get_within _ _ _ c.requires.ids) in search (rules, inside)

pub give_back-requires-clause-ids : goal.give_back-requires-clause-ids
give_back-requires-clause-ids g c =
    let number = ap (λ (k : KeptOf). k.pen.number) (c.kept.view_is ∙ c.deref_mut-kept.ensures.value) ∙ c.requires.lock in
    let at = c.kept.invariant.1.0 in let ids = c.requires.ids in let t = c.index_mut.result.now in
    let tally = named _ c.from.result t t c.index_mut.ensures.value c.args.self.now.own.0 c.from.ensures c.requires.ids in (cc, cc)

pub invariant_of-kept : goal.invariant_of-kept
invariant_of-kept g c =
    let was = c.kept.invariant in let e = c.enter.ensures in
    keeps g.N.Names.parts c.kept.inside.vault c.kept.inside.pen c.enter.new.pen was e.same e.entered e.theirs (back_stays g.N.Names.parts _ _ _ _ _ _ _ was.1 c.give_back.ensures.done)

pub invariant_of-self : goal.invariant_of-self
invariant_of-self g c =
    let own = c.args.self.now.own in
    let tallies = given _ c.from.result _ _ c.index_mut.ensures.value own.0 c.from.ensures c.requires.ids c.args.lot.now.len c.give_back.ensures.done.shares.back in
    record { own = (tallies.0, c.enter.ensures.same.2) }

pub returns-clause-tallies : goal.returns-clause-tallies
returns-clause-tallies g c =
    (given _ c.from.result _ _ c.index_mut.ensures.value c.args.self.now.own.0 c.from.ensures c.requires.ids c.args.lot.now.len c.give_back.ensures.done.shares.back).1

pub returns-clause-given_back : goal.returns-clause-given_back
returns-clause-given_back g c =
    let e = c.enter.ensures in let number = ap (λ (k : KeptOf). k.pen.number) (c.kept.view_is ∙ c.deref_mut-kept.ensures.value) ∙ c.requires.lock in (
      _,
      _,
      leaves g.N.Names.parts c.kept.inside.vault c.kept.inside.pen c.enter.new.pen c.kept.invariant e.same e.entered number,
      by_tally _ c.from.result _ _ c.index_mut.ensures.value c.args.self.now.own.0 c.from.ensures c.requires.ids _ c.give_back.ensures.done,
    )
