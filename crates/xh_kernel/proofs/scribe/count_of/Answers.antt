use Rattle.xh_kernel.proofs.Common.{ap, length, rules, ◌≡◌, ◌≤◌}
use Rattle.xh_kernel.proofs.scribe.count_of.Goals as goal

pub overflow_cast-result : goal.overflow_cast-result
overflow_cast-result c =
    let long : length c.blocks-2.result.now ≡ length c.args.place.now.list = ap length c.blocks-2.ensures.list in
    let few : length c.args.place.now.list ≤ 2048 = c.blocks-2.ensures.blocks.few in
    search rules

pub returns-clause-count : goal.returns-clause-count
returns-clause-count c = let long : length c.blocks-2.result.now ≡ length c.args.place.now.list = ap length c.blocks-2.ensures.list in search rules

pub returns-clause-few : goal.returns-clause-few
returns-clause-few c =
    let long : length c.blocks-2.result.now ≡ length c.args.place.now.list = ap length c.blocks-2.ensures.list in
    let few : length c.args.place.now.list ≤ 2048 = c.blocks-2.ensures.blocks.few in
    search rules

pub returns-clause-blocks : goal.returns-clause-blocks
returns-clause-blocks c = ∣ c.blocks-2.ensures.blocks ∣₁
