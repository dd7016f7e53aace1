-- The names that most proofs cite, passed on from one place. Declares nothing.
pub use Rattle.atomic_table.proofs.Lists.{at_index, at_last, at_longer, at_map, at_set, set_again, set_else, set_here}
pub use Rattle.atomic_table.specs.Seated.{TableId}
pub use Rattle.atomic_table.specs.Table.{Act, Allows, Final, Joins, Me, Seen, Splits, State, gives, keeps, opening, put_back, rest, step, stepped, takes, turned}
pub use Rattle.std.proofs.Common.{Bool, List, [], ap, append-nil, append_assoc, arith, cond, drop, eq-eqb, eqb, false, get_or, get_or-set_other, get_or-set_same, inl, inr, length, length-append}
pub use Rattle.std.proofs.Common.{length-set, map, mod-lt, ne_eqb, refl, replicate, rules, set, subst, suc, sym, take, true, zero, ℕ, ⊎_elim, ◌%◌, ◌*◌, ◌++◌, ◌+◌, ◌-◌, ◌/◌, ◌<◌, ◌∙◌, ◌∷◌, ◌≡◌}
pub use Rattle.std.proofs.Common.{◌≢◌, ◌≤◌, ◌⊎◌}
pub use Rattle.std.proofs.lemmas.Bool.Decides.{nat_tests}
pub use Rattle.std.proofs.lemmas.List.{length-map, length-replicate}
pub use Rattle.std.specs.Fn.{CalledAtMut, CalledAtPairMut}
pub use Rattle.std.specs.List.{AllByRecursion, list_any, remove}
pub use Rattle.std.specs.Prelude.{None, Option, Some, slice_get, ◌==◌}
pub use Rattle.std.specs.Slots.{slots_counts, slots_filled, slots_items, slots_len}
pub use Rattle.std.specs.Vec.{vec_capacity, vec_len}
pub use Rattle.xh_arena.specs.Views.{AreLots, LotOf}
pub use Rattle.xh_model.proofs.Keyed.{among_back, among_either, among_front, at_key, dec_among, distinct_push, distinct_split, here_first, keys_append, keys_push, length-keys, not_here, put_keys}
pub use Rattle.xh_model.proofs.Keyed.{put_split, put_swap, put_twice, split_at_key, without_split}
pub use Rattle.xh_model.proofs.Words.{arena_of_number, index_back, number_back, number_inside, place_of_number, word_injective}
pub use Rattle.xh_model.specs.Keyed.{Among, Distinct, keys, put, value_at, without}
pub use Rattle.xh_model.specs.Slots.{AreOwners, index_of}
pub use Rattle.xh_model.specs.Words.{IsDone, IsHeldBy, IsHolder, Ownership, from_of, generation_of, number_of, place_of, process_of, record_of, to_of, word_of}
pub use Rattle.xh_model.specs.declared.event.Event.{Event}
pub use Rattle.xh_model.specs.declared.event.Event.TheVariants.{Accept, Carve, Claim, Cut, GiveBack, Pass, Vacate}
pub use Rattle.xh_model.specs.declared.event.Holder.{Holder}
pub use Rattle.xh_model.specs.declared.event.Holder.TheVariants.{Direction, Process}
pub use Rattle.xh_model.specs.declared.limits.TheConstants.{GENERATIONS, MAX_RECORDS, PLACES}
pub use Rattle.xh_records.specs.After.{IsAfter, LeadsOnStores, Wants}
pub use Rattle.xh_records.specs.Deeds.{Adds, Arrives, Deed, IsLast, IsLeft, deeds_by, events}
pub use Rattle.xh_records.specs.Encoding.{holder_of}
pub use Rattle.xh_records.specs.History.{IsOneLog, LeadsTo, StartsWith, TellsWord}
pub use Rattle.xh_records.specs.Seats.{Ends, EndsAs, HasDone, HasGained, HasLooked, HasLost, HasSeenWord, Held, IsRecord, IsSeatOf, Knows, RecordsOf, SawAt, SawTaken, lot_in, with_lots}
pub use Rattle.xh_records.specs.Showing.{HomeFits, IsEmpty, IsHistory, IsLotAt, IsLotOf, IsSmall, Owns, Shown, Shows, Sits, ViewFits, ViewTells}
pub use Rattle.xh_records.specs.declared.shape.Shape.{Shape}
pub use Rattle.xh_records.specs.declared.view.View.{View}
pub use Rattle.xh_records.specs.inner.Events.{IsAway, IsHomeLot, giving, seen, taking}
pub use Rattle.xh_records.specs.inner.Gathering.{IsGathered, or_else, slot_at}
pub use Rattle.xh_records.specs.inner.Steps.{IsOthers, KnowsAt, SeesMore, aged, compared, gave_slot, looked, took_slot}
pub use Rattle.xh_records.specs.inner.Tokens.{AllBelow, AllLots, IsListed, IsSeat, IsTurned, in_slot, numbered, turns, with_lot}
pub use Rattle.xh_records.specs.inner.Views.{IsAlone, IsDealer, adds, all_places, dealer, dealt, dealt_from, doing, first_history, front_in, gained, head_of, joined, knowing, lost}
pub use Rattle.xh_records.specs.inner.Views.{indices, none_yet, note_of, owned_by, places_from, renewed, spent, tail_of, view_of}
pub use lib.ListN.{get_elem?}
pub use mathlib.Core.Logic.{dite}
pub use mathlib.Core.Option.{none, some, some-injective, some-ne-none}
pub use native.Mathlib.Decide.{ℕ_discrete}
