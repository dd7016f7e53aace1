-- How a run over a reader and a writer may end, whatever it is that a run writes for a script.
use Rattle.std.specs.Prelude.{◌≡◌, ◌⊎◌, ℕ, List, Option}
use Rattle.xh_model.specs.declared.config.Config.{Config}
use Rattle.xh_script.specs.declared.fault.Fault.{Fault}
use Rattle.xh_script.specs.declared.fault.Fault.TheVariants.{Write}
use Rattle.xh_script.specs.declared.streams.Watched.{Watched}
use Rattle.xh_script.specs.Scripts.{Listing}
use Rattle.xh_script.specs.Watching.{WritesBytes, WritesPrefix}
use Rattle.xh_session.specs.Reading.{GivesScript, Unread}

-- the reader gave a script to its end; of what a run writes for it, this was written
pub record Wrote {R : Type 0} (remaining : R → Option (List ℕ)) (IsFor : Listing → List ℕ → Type 0) (reader reader' : Watched R) (IsWritten : List ℕ → Type 0) : Type 0 where
  pub text : List ℕ
  pub script : Listing
  pub bytes : List ℕ
  pub reads : GivesScript remaining reader reader' text script
  pub is_for : IsFor script bytes
  pub writes : IsWritten bytes

module _ {R W : Type 0} (remaining : R → Option (List ℕ)) (contents : W → Option (List ℕ)) (IsFor : Listing → List ℕ → Type 0) where
  -- all of it was written, and nothing else
  abbrev pub Done : Watched R → Watched R → Watched W → Watched W → Type 0
  Done reader reader' writer writer' = Wrote remaining IsFor reader reader' (WritesBytes contents writer writer')

  -- what a fault says: at Write the writer failed after a prefix of it, and at any other nothing was written
  abbrev pub Stopped : Config → Watched R → Watched R → Watched W → Watched W → Fault → Type 0
  Stopped config reader reader' writer writer' Write = Wrote remaining IsFor reader reader' (WritesPrefix contents writer writer')
  Stopped config reader reader' writer writer' fault = Unread remaining config reader reader' fault × (writer' ≡ writer)

  -- the status of a program's run: 0 where all was written, else that of the fault
  abbrev pub EndedWith : (Fault → ℕ) → Config → Watched R → Watched R → Watched W → Watched W → ℕ → Type 0
  EndedWith status_of config reader reader' writer writer' status = ((status ≡ 0) × Done reader reader' writer writer')
      ⊎ ((fault : Fault) × (status ≡ status_of fault) × Stopped config reader reader' writer writer' fault)
