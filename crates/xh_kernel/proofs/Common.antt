-- The names that most proofs cite, passed on from one place. Declares nothing.
pub use Rattle.std.proofs.Common.{All, Err, IfErr, List, MatchResult, Ok, OnOk, Result, Some, [], ap, append-nil, arith, drop, false, get_or, get_or-set_other, length, refl, rules, set}
pub use Rattle.std.proofs.Common.{slice_index_or, slice_set, subst, suc, sym, true, vec_len, ℕ, ◌*◌, ◌++◌, ◌+◌, ◌-◌, ◌<◌, ◌∙◌, ◌∷◌, ◌≡◌, ◌≤◌}
pub use Rattle.std.proofs.lemmas.List.{get_or_default, map-set, set-get_or}
pub use Rattle.std.proofs.lemmas.List.Elements.{All-cons, All-tail}
pub use Rattle.std.specs.Vec.Iter.{into_iter_items, into_iter_len}
pub use Rattle.xh_arena.specs.Views.{TallyOf, VaultOf}
pub use Rattle.xh_calls.proofs.Lists.{each_push, first_of, rest_of, there}
pub use Rattle.xh_calls.specs.Parts.{IsOpen, PartsOf}
pub use Rattle.xh_calls.specs.inner.Making.{IsBundle}
pub use Rattle.xh_core.specs.declared.glance.Glance.{Glance}
pub use Rattle.xh_core.specs.declared.refused.Refused.TheVariants.{Empty}
pub use Rattle.xh_history.specs.Histories.{FrontOf, HasSeen, History, LookOf, PenOf, StartsWith, at, fresh_front, fresh_pen}
pub use Rattle.xh_calls.specs.Leading.{Leading}
pub use Rattle.xh_calls.specs.Places.{status_at}
pub use Rattle.xh_place.proofs.Deeds.{stays_again, stays_itself}
pub use Rattle.xh_place.proofs.Seeing.{did_starts}
pub use Rattle.xh_kernel.specs.Accounts.{AccountOf, AreFresh, IsStill}
pub use Rattle.xh_kernel.specs.Calls.{Calls, Steps}
pub use Rattle.xh_kernel.specs.Did.{DidGive, DidTake, DidTakeAny}
pub use Rattle.xh_kernel.specs.Finished.{HasSeenAll, HasSeenEach, tallies_of}
pub use Rattle.xh_kernel.specs.Histories.{Does, Goes, IsHistoryOf, IsLaw, IsUnowned, Leads}
pub use Rattle.xh_kernel.specs.Kept.{AreKept, IsKeptPlace}
pub use Rattle.xh_kernel.specs.Places.{IsFound, last_glance}
pub use Rattle.xh_kernel.specs.Waits.{Repeats, no_room}
pub use Rattle.xh_calls.specs.declared.call.Call.{Call}
pub use Rattle.xh_calls.specs.declared.call.Entry.{Entry}
pub use Rattle.xh_calls.specs.declared.call.Call.TheVariants.{Close, CloseAgain, Receive, Stop, Take, TakeAny}
pub use Rattle.xh_kernel.specs.inner.Making.{IsFirstSeat}
pub use Rattle.xh_model.specs.declared.limits.TheConstants.{END_BYTES, PLACES}
pub use Rattle.xh_place.specs.Reclaiming.{HasGivenBack}
pub use Rattle.xh_place.specs.Places.{PlaceSeen, glance_of, total_of}
pub use Rattle.xh_place.specs.Seen.{IsSamePlace, Stays}
pub use Rattle.std.proofs.Math.Logic.{∥∥₁_elim, ∥∥₁_map}
pub use Rattle.std.specs.Prelude.{Bool, None, Option, cond, option_map, unwrap_or}
pub use Rattle.xh_core.specs.declared.refused.Refused.{Refused}
pub use Rattle.xh_kernel.specs.Lends.{LendsAll, LendsAllMut}
pub use Rattle.xh_model.specs.Words.{place_of}
pub use borrow.Author.Count.{below_more}
pub use borrow.Author.Rules.{lives}
