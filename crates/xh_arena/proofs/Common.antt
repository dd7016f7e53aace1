-- The names that most proofs cite, passed on from one place. Declares nothing.
pub use Rattle.std.proofs.Common.{Bool, List, None, Option, Some, [], add-one, ap, append_assoc, arith, cond, drop, eqb, false, get_or, get_or-set_other, get_or-set_same, inl, inr, length}
pub use Rattle.std.proofs.Common.{length-append, map, refl, replicate, rules, set, subst, suc, sym, take, take-append-drop, true, zero, zero-add, ℕ, ⊎_elim, ◌%◌, ◌&&◌, ◌++◌, ◌+◌, ◌-◌, ◌<◌, ◌∙◌}
pub use Rattle.std.proofs.Common.{◌∷◌, ◌≡◌, ◌≤◌, ◌⊎◌}
pub use Rattle.std.proofs.lemmas.Bool.{and_parts, cases_Bool, cases_eq, cases_lt, eq-eqb, false≢true, le-leb, le-ltb, leb-false, leb-true, lt-leb, lt-ltb, ltb-false, ltb-true, ne_eqb, or_cases}
pub use Rattle.std.proofs.lemmas.Bool.{or_parts}
pub use Rattle.std.proofs.lemmas.Bool.Decides.{Decides-eqb, nat_tests}
pub use Rattle.std.proofs.lemmas.List.{append-nil, drop-set-lt, drop_more, get_or-map, get_or-take, get_or_default, get_or_past, get_or_read, length-map, length-replicate, length-take-le}
pub use Rattle.std.proofs.lemmas.List.{set_split, take_more_set}
pub use Rattle.std.proofs.lemmas.List.FromFn.{get_or-map-range_with_len, length-map-range_with_len}
pub use Rattle.std.proofs.lemmas.List.Quantifiers.{position-Some}
pub use Rattle.std.proofs.lemmas.List.Sums.{count_by-le-length, fails_before_first, passes_at_first, position_or_len_is, prefix_len-le-length, sum-map, sum_by-cons}
pub use Rattle.std.specs.Box.{boxed_slice_items}
pub use Rattle.std.specs.List.{position, position_or_len, range_with_len, refill}
pub use Rattle.std.specs.Prelude.{All, AllPairs, Contains, Err, count_by, is_none, is_some, nat_le, nat_lt, not, remove, slice_get, slice_index, slice_index_or, slice_set, sum, ◌==◌, ◌||◌, ◌≢◌}
pub use Rattle.xh_arena.specs.Views.{AreLots, AreSummed, AreTallies, LotOf, Move, TallyOf, VaultOf}
pub use Rattle.xh_arena.specs.declared.parts.Part.{Part}
pub use Rattle.xh_arena.specs.declared.parts.Part.TheVariants.{Books, Length, Moved}
pub use Rattle.xh_arena.specs.inner.Books.{Balanced, Booked, back_of, booked, moved_part, moves_of, vault_parts, workers_of}
pub use Rattle.xh_arena.specs.inner.Layout.{AreApart, AreDisjoint, IsKept, IsPlaced, cover_of, has_byte, hole_place, in_hole, join_above, join_run, owner_of, shrunk, within}
pub use Rattle.xh_arena.specs.inner.Parts.{AreOfOneWhole, AreOneWhole, Changed, Keeps, Kept, below, books, first_parts, listed_parts, lots_from, part_in, tallies_from, top, under, weigh, whole}
pub use Rattle.xh_arena.specs.inner.Parts.{with_back, with_length, with_taken}
pub use Rattle.xh_model.proofs.Calls.{back_length, back_lengths, back_limit, back_others, back_wear, carved_length, carved_lengths, carved_limit, carved_others, carved_wear, cut_lengths}
pub use Rattle.xh_model.proofs.Calls.{cut_limit, cut_others, cut_wear}
pub use Rattle.xh_model.proofs.Lengths.{length_is, none_of, sum-lengths}
pub use Rattle.xh_model.specs.Arena.{AreLimits, ArenaState, HasNoSpace, IsGoodCut, IsLawfulArena, lengths_of}
pub use Rattle.xh_model.specs.Cover.{AreHoles, IsFree, IsHole, IsLeastFree, IsRun, begins_free, bytes_out, holes_from, is_of, length_of, start_of, with_byte}
pub use lib.ListN.{get_elem?}
pub use mathlib.Core.Option.{none, some, some-ne-none}
