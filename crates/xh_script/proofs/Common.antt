-- The names that most proofs cite, passed on from one place. Declares nothing.
pub use Rattle.std.proofs.Common.{Bool, Bor, Err, IsErrAnd, List, None, Ok, Option, Result, Some, [], add-one, ap, append-nil, append_assoc, arith, codes, decimal, drop}
pub use Rattle.std.proofs.Common.{drop-cons, false, get_or, inl, inr, length, length-append, length-drop, map, refl, replicate, rules, suc, sym}
pub use Rattle.std.proofs.Common.{take, take-append-drop, true, zero, ℕ, ◌*◌, ◌++◌, ◌+◌, ◌<◌, ◌==◌, ◌^◌, ◌∙◌, ◌∷◌, ◌≡◌, ◌≢◌, ◌≤◌}
pub use Rattle.std.proofs.Math.ListN.{length-map}
pub use Rattle.std.proofs.lemmas.Bool.{and_from, and_parts, cases_Bool}
pub use Rattle.std.proofs.lemmas.Bool.Decides.{nat_tests}
pub use Rattle.std.proofs.lemmas.List.{at_drop_all, at_drop_more}
pub use Rattle.std.proofs.lemmas.List.Splits.{length-slice_split}
pub use Rattle.std.proofs.lemmas.List.Sums.{AllPass-from_list_all, count_by-le-length}
pub use Rattle.std.specs.List.{list_all, slice_split}
pub use Rattle.xh_model.specs.declared.row.Row.{Row}
pub use Rattle.xh_script.specs.Forms.{form_among}
pub use Rattle.xh_script.specs.Grammar.{check_from, is_filled}
pub use Rattle.xh_script.specs.Names.{number_from, number_in}
pub use Rattle.xh_script.specs.Numbering.{are_known, rows_in, words_in}
pub use Rattle.xh_script.specs.Scripts.{Fails, after_line, after_lines, at_line, nothing_read}
pub use Rattle.xh_script.specs.Steps.{◌>>=◌}
pub use Rattle.xh_script.specs.Texts.{answer_texts, arena_texts, flight_texts, hex_text, length_text, line_text, place_texts, reply_text, words_text}
pub use Rattle.xh_script.specs.Watching.{WritesBytes, WritesPrefix, WritesOrFails, inner_of}
pub use Rattle.xh_script.specs.Words.{hex_bytes, hex_value, value_of}
pub use Rattle.xh_script.specs.declared.fault.Fault.{Fault}
pub use Rattle.xh_script.specs.declared.fault.FaultKind.{FaultKind}
pub use Rattle.xh_script.specs.declared.limits.TheConstants.{MAX_PROCESSES, MAX_SCRIPT}
pub use Rattle.xh_script.specs.inner.Pieces.{piece_text}
