-- The sweep: what reclaiming one entry of a list does, and as many as a budget allows.
use Rattle.std.specs.Prelude.{◌≡◌, ℕ, zero, suc, ◌<◌, ◌≤◌, cond, List, ◌++◌, Some, None, length, take, drop, nat_lt, slice_set, slice_index_or}
use Rattle.std.specs.List.{flat_map, remove}
use Rattle.xh_model.specs.declared.event.Holder.TheVariants.{Direction}
use Rattle.xh_model.specs.declared.event.Event.TheVariants.{GiveBack, Vacate}
use Rattle.xh_model.specs.Store.{owner, after}
use Rattle.xh_serial.specs.Commands.{accept_from}
use Rattle.xh_serial.specs.Lines.{shut_in}
use Rattle.xh_serial.specs.Machine.{Machine, arriving, blank, blocks, end_of, relisted}
use Rattle.xh_core.specs.Several.{times}

-- The entry at `from` of a list is swept: where it is an endpoint its side is shut, and what is on its way to it is accepted and put at the end of the list;
-- then its bytes are given back, its record is vacated, and it leaves the list.
unfoldable pub sweep_one : ℕ → ℕ → Machine → Machine
sweep_one p from m =
    let r : ℕ = slice_index_or (blocks m p) from 0 in
    record m {
      store = after (Vacate p r) (after (GiveBack p r) (accept_from p (end_of m r) (arriving m r) m.store));
      bodies = slice_set m.bodies r (blank None);
      places = relisted p (remove (blocks m p ++ arriving m r) from) m.places;
      lines = shut_in m.contracts m.lines (end_of m r);
    }

-- entry by entry, while the list is longer than `from` and the budget is not used up
abbrev pub sweep : ℕ → ℕ → ℕ → Machine → Machine
sweep p from zero m = m
sweep p from (suc budget) m = cond (nat_lt from (length (blocks m p))) (sweep p from budget (sweep_one p from m)) m

-- From `from` on the list is the old one from there, followed by what was accepted, without its first entries.
-- What was accepted is what was on its way to those entries; entries are left only where the budget is used up.
pub record SweepsOver (p from budget : ℕ) (m n : Machine) : Type 0 where
  pub taken : ℕ
  pub accepted : List ℕ
  pub within : taken ≤ budget
  pub there : taken ≤ length (drop from (blocks m p) ++ accepted)
  pub was_on_way : accepted ≡ flat_map (arriving m) (take taken (drop from (blocks m p) ++ accepted))
  pub once : (r : ℕ) → times r (drop from (blocks m p) ++ accepted) ≤ 1
  pub in_flight : (r : ℕ) → 0 < times r accepted → (d : ℕ) × (owner m.store r ≡ Some (Direction d))
  pub before : take from (blocks n p) ≡ take from (blocks m p)
  pub rest : drop from (blocks n p) ≡ drop taken (drop from (blocks m p) ++ accepted)
  pub left : from < length (blocks n p) → taken ≡ budget
