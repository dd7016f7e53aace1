use Rattle.xh_arena.proofs.Common.{rules, nat_lt, ◌+◌}
use Rattle.std.proofs.lemmas.List.Sorted.{IsPartitionedBy-ltb, IsPartitionPoint-from_clause}
use Rattle.xh_arena.proofs.Steps.{parted_place}
use Rattle.xh_arena.proofs.holes.place_of.Goals as goal

pub returns-clause-place : goal.returns-clause-place
returns-clause-place c = parted_place _ _ _ c.partition_point.ensures.bound (IsPartitionPoint-from_clause (λ hole. nat_lt (hole.0 + hole.1) c.args.start) _ _
    c.partition_point.ensures.partitioned (IsPartitionedBy-ltb (λ hole. hole.0 + hole.1) _ c.args.start c.requires) (λ a r f called. search rules))
