-- The names that most proofs cite, passed on from one place. Declares nothing.
pub use Rattle.std.proofs.Common.{Err, List, Ok, Option, Result, Some, ap, drop, if◌then◌else◌, length, map, option_map, refl, subst, sym, take, vec_capacity, vec_len}
pub use Rattle.std.proofs.Common.{ℕ, ◌++◌, ◌+◌, ◌-◌, ◌≡◌, ◌≤◌}
pub use Rattle.xh_script.specs.Watching.{ReadsBytes, WritesBytes, WritesOrFails}
pub use Rattle.xh_script.specs.declared.command.Word.{Word}
pub use Rattle.xh_script.specs.declared.fault.Fault.{Fault}
pub use Rattle.xh_script.specs.declared.limits.TheConstants.{MAX_SCRIPT}
pub use Rattle.xh_script.specs.declared.streams.Watched.{Watched}
pub use Rattle.xh_serial.specs.Machine.{Machine}
pub use Rattle.xh_session.specs.declared.bindings.Bindings.{Bindings}
pub use Rattle.xh_session.specs.BlockNames.{BlockNames, bound_each, cleared, record_at, unbound_each}
pub use Rattle.xh_session.specs.Meaning.{world_after, answers, comes_to, step}
