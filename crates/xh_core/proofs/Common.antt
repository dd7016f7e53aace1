-- The names that most proofs cite, passed on from one place. Declares nothing.
pub use Rattle.std.proofs.Common.{All, Bool, List, None, Option, Some, [], ap, arith, cond, drop, eq-eqb, get_or-set_other, get_or-set_same, inl, inr, is_some, length, length-set, lt-ltb, map}
pub use Rattle.std.proofs.Common.{nat_lt, ne_eqb, option_map, refl, replicate, rules, slice_index_or, slice_set, subst, suc, sum_by, sym, take, true, zero, ℕ, ◌%◌, ◌&&◌, ◌*◌, ◌++◌, ◌+◌, ◌-◌, ◌/◌}
pub use Rattle.std.proofs.Common.{◌<◌, ◌==◌, ◌∙◌, ◌∷◌, ◌≡◌, ◌≢◌, ◌≤◌}
pub use Rattle.std.proofs.lemmas.Bool.{and_parts, cases_Bool, cases_eq, false≢true}
pub use Rattle.std.proofs.lemmas.Bool.Decides.{nat_tests}
pub use Rattle.std.proofs.lemmas.List.{length-replicate, set-get_or}
pub use Rattle.std.proofs.lemmas.List.Elements.{All-get_or, All-replicate, All-set}
pub use Rattle.std.proofs.lemmas.List.FromFn.{get_or-range_with_len, length-range_with_len}
pub use Rattle.std.proofs.lemmas.List.Sums.{count_by-le-length, sum_by-append, sum_by-cons, sum_by-le}
pub use Rattle.std.specs.List.{position_or_len, range_with_len}
pub use Rattle.xh_core.specs.Refusing.{first_refusal}
pub use Rattle.xh_core.specs.Several.{handed, times}
pub use Rattle.xh_core.specs.Space.{free_record, space_tests}
pub use Rattle.xh_core.specs.Talks.{AreInStep, AreOrderly, talk_after_all}
pub use Rattle.xh_core.specs.View.{store_of}
pub use Rattle.xh_core.specs.Wearing.{AreCarved, IsWithinWear}
pub use Rattle.xh_core.specs.declared.refused.Refused.{Refused}
pub use Rattle.xh_model.proofs.Calls.{back_bytes, back_length, back_others, back_records, back_size, carved_bytes, carved_length, carved_size, cut_bytes, cut_head, cut_size, cut_tail, cut_wear}
pub use Rattle.xh_model.proofs.Changed.{IsTouched, known_there, one_touched, read_arena, touched_lawful, touched_records, two_touched}
pub use Rattle.xh_model.proofs.InStep.{front_step, put_step, swap_step}
pub use Rattle.xh_model.proofs.Lawful.{held_known, owner_lawful}
pub use Rattle.xh_model.proofs.Totals.{sum_add, sum_same, sum_zero}
pub use Rattle.xh_model.specs.Arena.{ArenaState, IsLawfulArena}
pub use Rattle.xh_model.specs.Config.{IsConfig}
pub use Rattle.xh_model.specs.Cover.{SameRun, bytes_out, is_of, length_of}
pub use Rattle.xh_model.specs.Rows.{Agree, InStep, IsRow, allowed, row_at}
pub use Rattle.xh_model.specs.Store.{IsLawful, IsOwner, Store, after, arena_at, arena_of, bytes_of, can, change, holds, is_held_by, is_known, len, no_arena, numbers, owner, with_arena, with_owner}
pub use Rattle.xh_model.specs.declared.event.Event.TheVariants.{Accept, Carve, Claim, Cut, GiveBack, Pass, Vacate}
pub use Rattle.xh_model.specs.declared.event.Holder.{Holder}
pub use Rattle.xh_model.specs.declared.event.Holder.TheVariants.{Direction, Process}
