use Rattle.xh_channel.proofs.Common.{CHANNELS, rules, sym, ◌∙◌}
use Rattle.xh_channel.proofs.FreePairs.{has_pair, opened, placed_none, stands_at}
use Rattle.xh_channel.proofs.free_numbers.FreeNumbers.open.Goals as goal

pub invariant_of-self : goal.invariant_of-self
invariant_of-self c = record { placed = (search rules, rw c.take.ensures.after (placed_none _ _ (search rules))) }

pub unwrap-requires : goal.unwrap-requires
unwrap-requires c = has_pair c.args.depth _ _ (stands_at _ _ CHANNELS c.index_mut.result.now (search rules) c.in-Some.ensures.0 ∙ sym c.index_mut.ensures.value
    ∙ sym c.take.ensures.value) c.in-Some.ensures.1

pub returns : goal.returns
returns c = opened c.args.self.now.pairs.items c.in-Some.at c.args.depth c.unwrap.result c.take.new.self (search rules)
    (stands_at _ _ CHANNELS c.index_mut.result.now (search rules) c.in-Some.ensures.0 ∙ sym c.index_mut.ensures.value
    ∙ sym c.take.ensures.value ∙ c.unwrap.ensures) c.take.ensures.after c.in-Some.ensures.1 c.in-Some.ensures.2
