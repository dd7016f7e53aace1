-- The names that most proofs cite, passed on from one place. Declares nothing.
pub use Rattle.std.proofs.Common.{Bool, List, MatchResult, None, [], add-one, ap, append-nil, append_assoc, arith, drop, drop-cons, false, filter}
pub use Rattle.std.proofs.Common.{get_or, if◌then◌else◌, length, map, refl, remove, replicate, rules, set, subst, suc, sym, take, true, zero, ℕ, ◌++◌, ◌+◌, ◌<◌}
pub use Rattle.std.proofs.Common.{◌==◌, ◌∙◌, ◌∷◌, ◌≡◌, ◌≤◌}
pub use Rattle.std.proofs.lemmas.Bool.Decides.{nat_tests}
pub use Rattle.std.proofs.lemmas.List.{length-map, nil_from_length}
pub use Rattle.std.specs.Vec.Iter.{into_iter_items, into_iter_len}
pub use Rattle.xh_runner.specs.Plays.{AreAnswersTo, ArePlayed, DoesLine, DoesAmong, LAST, Plays, began, began_at, part, part_of, told}
pub use Rattle.xh_runner.specs.inner.Tasks.{IsHand, Joins, Left, PlaceIsDone}
pub use Rattle.xh_model.specs.declared.limits.TheConstants.{PLACES}
pub use Rattle.xh_script.specs.declared.command.Line.{Line}
pub use Rattle.xh_script.specs.declared.replies.NumberedReply.{NumberedReply}
pub use Rattle.xh_script.specs.declared.replies.Reply.{Reply}
pub use Rattle.xh_session.specs.declared.bindings.Bindings.{Bindings}
pub use Rattle.xh_session.specs.Bindings.{no_processes, number_at, process_at}
pub use Rattle.xh_session.specs.declared.bindings.Processes.{Processes}
pub use Rattle.xh_session.specs.Plans.{World, world_of}
