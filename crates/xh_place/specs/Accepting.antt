-- What an endpoint that is handed over does to the place that it comes to: it is accepted, or came too late.
use Rattle.std.specs.Prelude.{◌≡◌, ◌≢◌, ◌⊎◌, ℕ, ◌≤◌, ◌==◌, ◌&&◌, Bool, true, false, cond, List, [], ◌∷◌, ◌++◌, length, Result, IfErr, IfOk}
use Rattle.xh_arena.specs.Views.{LotOf, TallyOf, VaultOf}
use Rattle.xh_core.specs.declared.block.Block.{Block}
use Rattle.xh_core.specs.declared.refused.Refused.{Refused}
use Rattle.xh_core.specs.declared.refused.Refused.TheVariants.{Ended}
use Rattle.xh_core.specs.declared.status.Status.{Status}
use Rattle.xh_core.specs.declared.status.Status.TheVariants as status
use Rattle.xh_core.specs.Statuses.{is_running}
use Rattle.xh_model.specs.declared.event.Event.{Event}
use Rattle.xh_model.specs.declared.limits.TheConstants.{MAX_BUDGET}
use Rattle.xh_records.specs.Seats.{SawAt}
use Rattle.xh_place.specs.declared.body.Body.{Body}
use Rattle.xh_place.specs.Deeds.{accepted_on}
use Rattle.xh_place.specs.Places.{IsBlock, Item, PlaceSeen, item_of, shown}
use Rattle.xh_place.specs.Reclaiming.{Sweeps}
use Rattle.xh_place.specs.Seen.{Becomes, Gains, IsElsewhere, IsSeen, Stays, brings}
use Rattle.xh_place.specs.Vaults.{BringsBack}

-- the process runs here
abbrev pub is_here : PlaceSeen → ℕ → Bool
is_here p process = is_running p.state && (p.seat.process == process)

-- a process that had ended is ending again while blocks are left
abbrev pub ending_again : Status → ℕ → Status
ending_again status.Ended left = cond (left == 0) status.Ended status.Ending
ending_again status.Vacant left = status.Vacant
ending_again status.Running left = status.Running
ending_again status.Ending left = status.Ending

-- An endpoint came that nobody is here for: so it was swept, and no fewer bytes than it has were given back. What is left of it and of what came with it stands last, and the place is in this state.
abbrev pub IsTooLate : ℕ → ℕ → Status → PlaceSeen → PlaceSeen → ℕ → Type 0
IsTooLate d r state old new sum = (l : LotOf Body) × (left : List (ℕ × Item)) × (log : List (Event × Item))
    × Sweeps (IsSeen old.seat new.seat) old.seat.process MAX_BUDGET ((r, item_of l) ∷ []) left sum log × (shown new.seat.lots new.list ≡ shown old.seat.lots old.list ++ left)
    × Becomes new.seat.lots new.list (accepted_on old.seat.process d ((r, item_of l) ∷ []) ++ log) (record old { state = state }) new
    × IsBlock old.seat.shape r l × (l.len ≤ sum) × IsSeen old.seat new.seat r (brings d (item_of l))

-- It came on the direction to the end of the list of the process, which runs here; or the process doesn't, and then it came too late;
-- or nothing has changed, since nobody has the place, or another word was seen than "in flight on the direction".
pub record Accepts {V : Type 0} (changes : V → V → ℕ → VaultOf → VaultOf → Type 0) (tallies : V → List TallyOf) (process r direction : ℕ) (old new : PlaceSeen) (from to : V)
    (result : Result Block Refused) : Type 0 where
  pub here : IfOk result (λ b. (is_here old process ≡ true) × (b.rec ≡ r)
      × ((l : LotOf Body) × (l.len ≡ b.len) × Gains direction r l old new × IsBlock old.seat.shape r l × IsSeen old.seat new.seat r (brings direction (item_of l)))
      × (to ≡ from))
  pub away : IfErr result (λ e. (e ≡ Ended) × ((Stays old new × (to ≡ from) × ((old.state ≡ status.Vacant) ⊎ IsElsewhere (SawAt old.seat.shape old.seat.front new.seat.front) direction r))
      ⊎ ((is_here old process ≡ false) × (old.state ≢ status.Vacant)
      × ((bytes : ℕ) × IsTooLate direction r (ending_again old.state (length new.list)) old new bytes × BringsBack changes tallies bytes from to))))
