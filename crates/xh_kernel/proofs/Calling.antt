-- The names that the proofs of the calls cite, passed on from one place. Declares nothing.
pub use Rattle.xh_kernel.proofs.Common.{DidGive, DidTake, DidTakeAny, END_BYTES, Empty, Err, ap, no_room, rules, sym, ℕ, ◌*◌, ◌-◌, ◌≡◌}
pub use Rattle.xh_calls.specs.Wires.{ClosesAgain}
pub use Rattle.xh_kernel.proofs.Back.{back_of, came_back, given, gives_up, mapped, taken}
pub use Rattle.xh_kernel.proofs.Recorded.{in_vain, rests}
