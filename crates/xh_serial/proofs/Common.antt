-- The names that most proofs cite, passed on from one place. Declares nothing.
pub use Rattle.std.proofs.Common.{Bool, List, None, Ok, Some, [], ap, append-nil, append_assoc, arith, cond, drop, drop-cons, false, get_or, get_or-set_other, get_or-set_same, inl, inr, length}
pub use Rattle.std.proofs.Common.{length-drop, refl, rules, subst, suc, sym, take, true, zero, ℕ, ◌%◌, ◌*◌, ◌++◌, ◌+◌, ◌-◌, ◌/◌, ◌<◌, ◌∙◌, ◌∷◌, ◌≡◌, ◌≢◌, ◌≤◌, ◌⊎◌}
pub use Rattle.std.proofs.lemmas.{Bool.Decides.nat_tests, Grind.common_steps, List.Concat.flat_map-append, List.Edits.length-remove, List.Elements.All-cons, List.Elements.All-nil}
pub use Rattle.std.proofs.lemmas.{List.FromFn.length-range_with_len, List.Kept.AllPairs-cons, List.Quantifiers.position-Some, Option.none-some, Option.same_Some, Result.err_from_is_err_and}
pub use Rattle.std.proofs.lemmas.Bool.{cases_Bool, cases_eq, cases_lt, eq-eqb, eqb-true, false≢true, le-ltb, lt-ltb, ltb-true, ne_eqb}
pub use Rattle.std.proofs.lemmas.List.{at_drop_all, get_or_default, length-append, length-replicate, length-set, length-take-le, nil_from_length, set-get_or, set-set}
pub use Rattle.std.proofs.lemmas.List.Sums.{get_or-le-sum_by, passes_at_first, prefix_len-le-length, sum_by-append, sum_by-cons, sum_by-le, sum_by-remove, sum_by-take-drop, sum_by-take-le}
pub use Rattle.std.specs.List.{flat_map, list_all, list_any, position, position_or_len, range_with_len, remove, sum_by}
pub use Rattle.std.specs.Prelude.{All, AllPairs, IsSome, Option, is_none, is_some, map, nat_lt, not, ok_or, replicate, slice_index_or, slice_set, unwrap_or, ◌==◌}
pub use Rattle.xh_core.proofs.{Claiming.in_range, Claiming.no_bytes, Claiming.one_time, Firsts.first_append, Firsts.first_later, FreshPlain.at_replicate, Stores.arena_there, Stores.at_set, Stores.count_append}
pub use Rattle.xh_core.proofs.{Stores.done, Stores.is_there}
pub use Rattle.xh_core.proofs.{Stores.len_back, Stores.len_back_else, Stores.same_direction, Stores.same_known, Stores.same_len, Stores.same_process, Stores.times-cons}
pub use Rattle.xh_core.specs.{Calls.end_tests, Calls.start, Flight.AreFlightLines, Gaining.Gained, Pairing.Paired, Pairing.moved, Pairing.with_pair, Refusing.Tests, Refusing.first_refusal, Space.free_record}
pub use Rattle.xh_core.specs.{Space.pair_tests, Space.rounded, Space.space_tests, Statuses.is_over, declared.flight.FlightLine.FlightLine, declared.refused.Refused.TheVariants.NoPlace}
pub use Rattle.xh_core.specs.{declared.refused.Refused.TheVariants.OutOfMemory, declared.status.Status.Status, declared.status.Status.TheVariants.Ended, declared.status.Status.TheVariants.Ending}
pub use Rattle.xh_core.specs.Several.{has_twice, times}
pub use Rattle.xh_model.proofs.{InStep.cases_Option, InStep.drain_step, InStep.front_step, InStep.put_step, InStep.take_step, Totals.sum_add, Totals.sum_same, Totals.sum_zero, Totals.total_bytes}
pub use Rattle.xh_model.specs.{Config.IsConfig, Reclaimed.Frees, Reclaimed.Includes, Reclaimed.freed, Rows.InStep, Rows.IsValid, Rows.allowed, Rows.walk, declared.config.Config.Config}
pub use Rattle.xh_model.specs.{declared.event.Holder.Holder, declared.event.Holder.TheVariants.Direction, declared.event.Holder.TheVariants.Process, declared.row.Row.Row}
pub use Rattle.xh_model.specs.Store.{IsLawful, Store, after, all_out, bytes_of, change, holders, holds, is_held_by, is_known, len, numbers, owner}
pub use Rattle.xh_model.specs.declared.event.Event.TheVariants.{Carve, Claim, Cut, GiveBack, Pass, Vacate}
unfoldable pub use Rattle.xh_model.specs.Store.{all_holders, new_store}
pub use Rattle.xh_serial.specs.{BlockCommands.alloc_heads, BlockCommands.overwritten, BlockCommands.split_heads, Commands.IsRunning, Commands.header_found, Commands.toward, EndingCommands.last}
pub use Rattle.xh_serial.specs.{EndingCommands.moved_last, Sweeping.SweepsOver, Sweeping.sweep, View.machine_of, declared.line.Line.Line}
pub use Rattle.xh_serial.specs.{declared.message.Message.Message, declared.place.Place.Place, inner.Channeling.IsSound, inner.Checks.MayGive, inner.Checks.MaySplit, inner.Checks.MayTake}
pub use Rattle.xh_serial.specs.PlaceCommands.{started_at}
pub use Rattle.xh_serial.specs.Commands.{accept_all, accept_from, described, pass_all}
pub use Rattle.xh_serial.specs.Lines.{AreNumbered, IsNumbered, carried, contract_of, drained_state, line, new_line, next_state, no_line, no_message, peer, put_line, shut_in, shut_line}
pub use Rattle.xh_serial.specs.Lines.{tags_of, taken_line, told_line, way_in}
pub use Rattle.xh_serial.specs.Machine.{AreChannels, ArePlaces, AreWired, BodyOf, HaveEnds, IsEndRecord, IsWhole, Machine, arriving, blank, blocks, body, buffer}
pub use Rattle.xh_serial.specs.Machine.{end_of, is_current, listed, no_place, on_way, place, refilled, relisted, restated, serial_status, waiting, with_last}
pub use Rattle.xh_serial.specs.MessageCommands.{HasOrderlyLines, front_message, without_records}
pub use Rattle.xh_serial.specs.PlaceCommands.{serial_flight, serial_flights, is_ready, serial_places, serial_started, total}
unfoldable pub use Rattle.xh_serial.specs.{EndingCommands.close, EndingCommands.closed, MessageCommands.give, MessageCommands.given, MessageCommands.taken, Sweeping.sweep_one}
unfoldable pub use Rattle.xh_serial.specs.BlockCommands.{alloc, allocated, free, freed_block, parted, read, split, write}
unfoldable pub use Rattle.xh_serial.specs.PlaceCommands.{flight_of, ledger_of, new_machine, spawn}
