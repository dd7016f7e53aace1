-- The names that most proofs cite, passed on from one place. Declares nothing.
pub use Rattle.atomic_table.specs.{Seated.TableId}
pub use Rattle.std.proofs.Common.{All, Bool, Err, IfErr, IfOk, List, MatchOption, MatchResult, None, Ok, OnErr, Option, Result, Some, [], ap, arith, cond, false, get_or, inl}
pub use Rattle.std.proofs.Common.{inr, length, length-append, map, not, refl, rules, slice_get, slice_index_or, slice_set, subst, suc, suc-mul, sym, take, drop, true, vec_len, zero, ℕ, ⊎_elim, ◌%◌}
pub use Rattle.std.proofs.Common.{◌*◌, ◌++◌, ◌+◌, ◌/◌, ◌<◌, ◌∙◌, ◌∷◌, ◌≡◌, ◌≤◌, ◌⊎◌}
pub use Rattle.std.proofs.{lemmas.List.length-replicate, lemmas.List.map_push, lemmas.List.append_assoc, lemmas.List.Elements.All-push}
pub use Rattle.std.specs.{Prelude.option_map, Vec.Iter.into_iter_items, Vec.Iter.into_iter_len}
pub use Rattle.xh_arena.specs.{Views.AreLots, Views.LotOf, Views.TallyOf, Views.VaultOf}
pub use Rattle.xh_calls.specs.{Parts.IsNew, Parts.IsOpen, Parts.IsUnused, Parts.IsVaultOf, Parts.PartsOf, Parts.vault_names, Places.status_at, Several.AnswersAt, Several.FindNone, Several.HaveNone}
pub use Rattle.xh_calls.specs.{Several.peer_closed, Several.each_end, Several.several_tests, Tallies.fresh_tally, Vaults.AreTheirs, Vaults.EndsIn, Vaults.Enters, Vaults.IsKeptVault}
pub use Rattle.xh_calls.specs.{Vaults.IsRefusedBy, Vaults.Leaves, Wires.ClosesAgain, Wires.HasLow, Wires.ReceivesOr, Wires.toward_high, inner.Looking.AreEnds}
pub use Rattle.xh_calls.specs.{inner.Looking.AreReady, inner.Looking.HaveLooked, inner.Making.AreBundles, inner.Making.AreFreshTallies, inner.Making.AreMakings}
pub use Rattle.xh_calls.specs.{inner.Making.IsBundle}
pub use Rattle.xh_channel.specs.{Endpoint.EndpointOf}
pub use Rattle.xh_core.proofs.{Firsts.first_append, Firsts.first_later}
pub use Rattle.xh_core.specs.{Calls.alloc_tests, Calls.end_tests, Calls.given_tests, Calls.start, Refusing.Tests}
pub use Rattle.xh_core.specs.{Refusing.first_refusal, declared.block.Block.Block, declared.refused.Refused.Refused, declared.refused.Refused.TheVariants.Empty}
pub use Rattle.xh_core.specs.{declared.refused.Refused.TheVariants.NotEndpoint, declared.refused.Refused.TheVariants.PeerClosed, declared.refused.Refused.TheVariants.Twice}
pub use Rattle.xh_core.specs.{declared.status.Status.Status}
pub use Rattle.xh_history.specs.{Histories.FrontOf, Histories.HasSeen, Histories.History, Histories.PenOf, Histories.at, Histories.fresh_pen}
pub use Rattle.xh_model.specs.{declared.limits.TheConstants.END_BYTES, declared.limits.TheConstants.MAX_RECORDS}
pub use Rattle.xh_place.proofs.{Counted.none_back, Deeds.stays_itself, Seeing.did_starts}
pub use Rattle.xh_place.specs.{Bodies.Content, Bodies.IsEndAt, Bodies.bytes, Bodies.endpoint, Bodies.fits_in, Bodies.kind_of, Calls.Closes, Calls.IsLack}
pub use Rattle.xh_place.specs.{Calls.SpaceOf, Reclaiming.HasGivenBack, Reclaiming.IsClosed, Endpoints.EndDoes, Accepting.Accepts, Calls.RefusedOr}
pub use Rattle.xh_place.specs.{Messages.IsUntaken, Messages.TakesAt, Places.PlaceSeen}
pub use Rattle.xh_place.specs.{Places.found, Places.header_of, Seen.Becomes, Seen.FindsFull, Seen.IsSamePlace, Seen.IsSeen, Seen.Stays}
pub use Rattle.xh_place.specs.{Tallies.gave, Tallies.ids_of, declared.body.Body.Body}
