-- The names that most proofs cite, passed on from one place. Declares nothing.
pub use Rattle.atomic_table.proofs.Lists.{at_index, at_set, exchanged, set_else, set_here}
pub use Rattle.atomic_table.specs.Seated.{TableId}
pub use Rattle.atomic_table.specs.Table.{Allows, Joins, Me, Splits, State, carried_after, gives, keeps, opening, put_back, rest, step, takes}
pub use Rattle.std.proofs.Common.{Bool, Err, IfOk, IsSome, List, MatchOption, None, Ok, OnErr, Option, Result, Some, [], ap, append-nil, append_assoc, arith, cond, eq-eqb, eqb, eqb-true, false}
pub use Rattle.std.proofs.Common.{get_or, inl, inr, is_some, length, length-append, ne_eqb, not, refl, replicate, rules, set, slice_index, subst, suc, sym, take, true, true≢false, unwrap_or}
pub use Rattle.std.proofs.Common.{zero, ℕ, ⊎_elim, ◌&&◌, ◌*◌, ◌++◌, ◌+◌, ◌-◌, ◌<◌, ◌==◌, ◌||◌, ◌∙◌, ◌∷◌, ◌≡◌, ◌≢◌, ◌≤◌, ◌⊎◌}
pub use Rattle.std.proofs.Math.Seq.{take-append_seam, take-length}
pub use Rattle.std.proofs.lemmas.Bool.{and_parts, and_right, false_from_ne_true, or_cases}
pub use Rattle.std.proofs.lemmas.List.{length-replicate, length_push, map-append, set-get_or}
pub use Rattle.xh_channel.specs.Calls.{EndpointPuts, EndpointShuts, EndpointTakes, OnlySaw, next_state}
pub use Rattle.xh_channel.specs.Endpoint.{EndpointOf}
pub use Rattle.xh_channel.specs.LineSeats.{LineView, SeatDoes, on_line, told_across}
pub use Rattle.xh_channel.specs.Lines.{LinePuts, LineShuts, LineTakes, Lined, line_end_of, no_counts, now_shut, one_put, one_taken, waiting}
pub use Rattle.xh_channel.specs.Agreement.{AgreesWith}
pub use Rattle.xh_channel.specs.Queues.{QueueView}
pub use Rattle.xh_channel.specs.declared.counts.Counts.{Counts}
pub use Rattle.xh_channel.specs.declared.line_end.LineEnd.{LineEnd}
pub use Rattle.xh_channel.specs.declared.line_rule.LineAccount.{LineAccount}
pub use Rattle.xh_channel.specs.declared.line_rule.LinePart.{LinePart}
pub use Rattle.xh_channel.specs.declared.message.Message.{Message}
pub use Rattle.xh_channel.specs.inner.Ends.{IsUnsent, endpoint_of}
pub use Rattle.xh_channel.specs.inner.FreeNumbers.{StandAtTheirNumbers, at_place, has_depth}
pub use Rattle.xh_channel.specs.inner.LineRule.{Grows, IsEndBy, IsSettled, LiesFor, holding, line_view}
pub use Rattle.xh_model.specs.Direction.{AreNumberedFrom}
pub use Rattle.xh_model.proofs.Direction.{number_at, numbers_before, numbers_join}
pub use Rattle.xh_model.specs.declared.limits.TheConstants.{CHANNELS, DIRECTIONS}
pub use lib.ListN.{get_elem?}
pub use mathlib.Core.Option.{none, some, some-injective, some-ne-none}
pub use prog.Atomic.{either}
