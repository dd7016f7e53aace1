-- The names that most proofs cite, passed on from one place. Declares nothing.
pub use Rattle.std.proofs.Common.{All, Bool, List, [], ap, append-nil, append_assoc, arith, cond, drop, false, filter, get_or, inl, inr, length, map, mod-lt, refl, rules, set, subst, suc, suc-mul, sum, sym, take}
pub use Rattle.std.proofs.Common.{true, vec_len, zero, ℕ, ⊎_elim, ◌⊎◌, ◌%◌, ◌*◌, ◌++◌, ◌+◌, ◌/◌, ◌<◌, ◌||◌, ◌∙◌, ◌∷◌, ◌≡◌, ◌≢◌, ◌≤◌}
pub use Rattle.std.proofs.lemmas.List.{Concat.get_or-flat_map, Elements.All-cons, Elements.All-filter, Elements.All-head, Elements.All-map, Elements.All-nil, Elements.All-push, Elements.All-tail, Elements.All-take}
pub use Rattle.std.proofs.lemmas.List.{Elements.filter_passes, Folds.list_any_at, Sums.sum_by-append, Sums.sum_by-cons, Sums.sum_by_more, get_or-map, length-append}
pub use Rattle.std.proofs.lemmas.List.{length-map, length-take-le, map_push, nil_from_length, same_lists, set-get_or, take_all}
pub use Rattle.std.proofs.lemmas.{Bool.Decides.nat_tests, Bool.false_from_ne_true, Bool.ltb-true, Grind.common_steps, Option.MatchOption-at_some, Option.get_or_from_slice_get, Option.same_Some}
pub use Rattle.std.proofs.lemmas.{Option.slice_get-map, Slice.Zip.AllZip-left, Slice.Zip.AllZip-long, Slice.Zip.AllZip-right, Slice.Zip.all_zipped_more, Slice.Zip.get_or-zip, Slice.Zip.length-zip}
pub use Rattle.std.proofs.Math.{Nat.div-add-mod, Nat.div-lt_iff_lt-mul, Nat.mul_comm, Seq.take-append_seam}
pub use Rattle.std.specs.Prelude.{IsSomeAnd, None, Option, Some, count_by, is_some, nat_lt, option_map, slice_get, ◌==◌}
pub use Rattle.std.specs.{List.cons_option, List.range_with_len, List.sum_by, List.zip, Vec.Iter.into_iter_items, Vec.Iter.into_iter_len}
pub use Rattle.arrayvec.specs.{ArrayVec.ArrayVec}
pub use Rattle.xh_arena.specs.{Views.LotOf, Views.Move, Views.TallyOf, Views.VaultOf}
pub use Rattle.xh_books.specs.{Flight.IsInFlight, Flight.Stands, Flight.flight_line, Flight.flight_lines, Ledgers.all_lengths, Ledgers.arena_lines, Ledgers.bytes_in_flight, Ledgers.bytes_owned}
pub use Rattle.xh_books.specs.{Ledgers.blocks_of, Ledgers.is_listed, Ledgers.place_lines, inner.Steps.AreAt, inner.Steps.AreGathered}
pub use Rattle.xh_books.specs.{inner.Steps.IsListed, inner.Steps.closed_line, inner.Steps.lens_of, inner.Steps.move_at, inner.Steps.with_all, inner.Steps.with_moves}
pub use Rattle.xh_calls.proofs.{Lists.below_get, Lists.there}
pub use Rattle.xh_calls.specs.{Parts.IsOpen, Parts.PartsOf, Parts.vault_names}
pub use Rattle.xh_core.proofs.{Ranges.picked}
pub use Rattle.xh_core.specs.{ArenaLines.arena_line, Flight.AreFlightLines, Statuses.is_over, declared.flight.FlightLine.FlightLine, declared.ledger.ArenaLine.ArenaLine}
pub use Rattle.xh_core.specs.{declared.ledger.PlaceLine.PlaceLine, declared.status.Status.Status, declared.status.Status.TheVariants.Vacant}
pub use Rattle.xh_kernel.specs.{Accounts.AccountOf, Finished.tallies_of}
pub use Rattle.xh_model.proofs.{Keyed.none_at, Keyed.value_here, Keyed.value_there, Lengths.length-lengths, Lengths.length_at, Totals.sum_add, Totals.sum_same, Totals.sum_zero}
pub use Rattle.xh_model.proofs.{Words.arena_of_number, Words.index_back, Words.number_back, Words.place_of_number}
pub use Rattle.xh_model.specs.{Arena.lengths_of, Cover.length_of, Keyed.Among, Keyed.Distinct, Keyed.keys, Keyed.value_at, Slots.index_of, declared.event.Holder.Holder, Words.IsHeldBy}
pub use Rattle.xh_model.specs.{Words.IsHolder, Words.number_of, Words.place_of, Words.word_of, declared.event.Holder.TheVariants.Direction, declared.event.Holder.TheVariants.Process}
pub use Rattle.xh_model.specs.{declared.limits.TheConstants.DIRECTIONS, declared.limits.TheConstants.PLACES}
pub use Rattle.xh_place.specs.{Tallies.ids_of, declared.body.Body.Body, Places.Item, Places.Lists, Places.PlaceSeen, Places.item_of, Places.place_line, Places.line_in, Places.total_of}
pub use Rattle.xh_records.proofs.{Elements.elem_slice, Elements.in_range, Elements.is_there, Elements.slice_elem, Keeps.never, Keeps.one_holder, Keeps.same_place}
pub use Rattle.xh_records.specs.{Deeds.IsLeft, Deeds.Deed, Deeds.deeds_by, History.StartsWith, Showing.IsLotAt, Showing.IsSmall, declared.shape.Shape.Shape, Seats.Ends}
pub use Rattle.xh_records.specs.{Seats.Held, Seats.IsSeatOf, Seats.RecordsOf, Seats.lot_in}
pub use mathlib.Core.Logic.{dite}
unfoldable pub use Rattle.xh_books.specs.inner.Steps.{TellFlight}
