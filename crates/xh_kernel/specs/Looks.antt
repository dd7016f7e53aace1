-- What a look without the lock of a place sees.
use Rattle.std.specs.Prelude.{◌≡◌, ℕ, suc, ◌++◌, length, slice_set}
use Rattle.xh_calls.specs.declared.call.Entry.{Entry}
use Rattle.xh_core.specs.declared.glance.Glance.{Glance}
use Rattle.std.specs.Array.{FillsFrom}
use Rattle.xh_calls.specs.Parts.{PartsOf}
use Rattle.xh_calls.specs.Vaults.{Tells}
use Rattle.xh_history.specs.Histories.{HasSeen, History, LookOf, at}
use Rattle.xh_kernel.specs.Accounts.{AccountOf, look_of}
use Rattle.xh_kernel.specs.declared.overview.Overview.{Overview}
use Rattle.xh_kernel.specs.declared.overview.PlaceNow.{PlaceNow}
use Rattle.xh_kernel.specs.Places.{last_glance}
use Rattle.xh_model.specs.declared.limits.TheConstants.{PLACES}

-- looking once, the look saw the history of the place p to its end, and of the others what it had seen; and this is what the place was after the last call
abbrev pub HasGlanced : LookOf Entry → ℕ → Glance → LookOf Entry → Type 0
HasGlanced old p g new = (later : History Entry) × (new ≡ record old { fronts = slice_set old.fronts p (at old.fronts p ++ later); looks = suc old.looks })
    × (last_glance p (at new.fronts p) ≡ g)

-- so did the worker of this number: all that is new to it are calls of others
abbrev pub TellsPlace : ℕ → LookOf Entry → ℕ → PlaceNow → LookOf Entry → Type 0
TellsPlace number old p seen new = HasGlanced old p seen.glance new × HasSeen number (at old.fronts p) (at new.fronts p)

-- the worker looked at each arena, one after another, and once at each place; and nothing else of its account changed
pub record SeesAll (parts : PartsOf) (old new : AccountOf) (all : Overview) : Type 0 where
  pub every : (length all.arenas.items ≡ length parts.records.shape.names) × (length all.places.items ≡ PLACES)
  pub arenas : FillsFrom (Tells parts) old.vaults 0 all.arenas.items new.vaults
  pub places : FillsFrom (TellsPlace old.number) (look_of parts old) 0 all.places.items (look_of parts new)
  pub rest : new ≡ record old { fronts = new.fronts; looks = new.looks; vaults = new.vaults }
