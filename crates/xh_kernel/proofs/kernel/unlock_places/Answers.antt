use Rattle.std.proofs.lemmas.Slice.Zip.{all_zipped_more}
use Rattle.xh_kernel.proofs.Common.{rules}
use Rattle.xh_kernel.proofs.Compared.{kept_places}
use Rattle.xh_kernel.proofs.kernel.unlock_places.Goals as goal

pub loop-lock-preserved : goal.loop-lock-preserved
loop-lock-preserved g c =
    let was = c.loop-lock.invariant in
    (search rules, rw (c.in_ok-push.ensures.items, c.in_ok-push-2.ensures.items) (all_zipped_more _ _ _ _ _ was.1 c.into_parts-place.ensures))

pub returns-clause-named : goal.returns-clause-named
returns-clause-named g c = (kept_places g.N.Names.parts _ _ c.loop-lock.invariant.1).0
