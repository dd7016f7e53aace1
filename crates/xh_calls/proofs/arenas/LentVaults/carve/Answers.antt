use Rattle.std.proofs.lemmas.Option.{slice_get_within}
use Rattle.std.proofs.lemmas.Result.{MatchResult-weaker}
use Rattle.xh_calls.proofs.Common.{ap, rules, ◌∙◌}
use Rattle.xh_calls.proofs.Tallied.{by_tally, named, taken_or_not, tallied}
use Rattle.xh_calls.proofs.Vaulted.{carve_stays, keeps, leaves}
use Rattle.xh_calls.specs.Vaults.{KeptOf}
use Rattle.xh_calls.proofs.arenas.LentVaults.carve.Goals as goal

pub index_mut-requires : goal.index_mut-requires
index_mut-requires g c =
    let inside = tallied _ c.from.result c.args.self.now.own.0 c.from.ensures (slice_get_within _ _ _ c.requires.ids) in search (rules, inside)

pub carve-answer-requires-clause-ids : goal.carve-answer-requires-clause-ids
carve-answer-requires-clause-ids g c =
    let number = ap (λ (k : KeptOf). k.pen.number) (c.kept.view_is ∙ c.deref_mut-kept.ensures.value) ∙ c.kept-guard.ensures in
    let at = c.kept.invariant.1.0 in let ids = c.requires.ids in let t = c.index_mut.result.now in
    let tally = named _ c.from.result t t c.index_mut.ensures.value c.args.self.now.own.0 c.from.ensures c.requires.ids in (cc, cc)

pub invariant_of-kept : goal.invariant_of-kept
invariant_of-kept g c =
    let was = c.kept.invariant in let e = c.enter.ensures in let answer = c.carve-answer.ensures in
    keeps g.N.Names.parts c.kept.inside.vault c.kept.inside.pen c.enter.new.pen was e.same e.entered e.theirs
    (carve_stays g.N.Names.parts _ c.args.n _ _ _ _ _ _ c.carve-answer.result was.1 answer.done answer.refused)

pub invariant_of-self : goal.invariant_of-self
invariant_of-self g c =
    let own = c.args.self.now.own in let t = c.index_mut.result.now in let answer = c.carve-answer.ensures in
    let tallies = taken_or_not _ c.from.result t c.carve-answer.new.tally c.index_mut.ensures.value own.0 c.from.ensures c.requires.ids
    c.carve-answer.result c.args.n _ _ (λ at d. d.shares.taken) (λ e r. r.3) answer.done answer.refused in
    record { own = (tallies.0, c.enter.ensures.same.2) }

pub returns-clause-tallies : goal.returns-clause-tallies
returns-clause-tallies g c =
    let t = c.index_mut.result.now in let answer = c.carve-answer.ensures in
    (taken_or_not _ c.from.result t c.carve-answer.new.tally c.index_mut.ensures.value c.args.self.now.own.0 c.from.ensures c.requires.ids
    c.carve-answer.result c.args.n _ _ (λ at d. d.shares.taken) (λ e r. r.3) answer.done answer.refused).1

pub returns-clause-carved : goal.returns-clause-carved
returns-clause-carved g c =
    let e = c.enter.ensures in let number = ap (λ (k : KeptOf). k.pen.number) (c.kept.view_is ∙ c.deref_mut-kept.ensures.value) ∙ c.kept-guard.ensures in
    MatchResult-weaker c.carve-answer.result c.carve-answer.ensures.done (λ at done. (
      _,
      _,
      leaves g.N.Names.parts c.kept.inside.vault c.kept.inside.pen c.enter.new.pen c.kept.invariant e.same e.entered number,
      by_tally _ c.from.result _ _ c.index_mut.ensures.value c.args.self.now.own.0 c.from.ensures c.requires.ids _ done,
    )) (λ e h. tt)
