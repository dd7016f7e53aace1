-- Reading a script.
use Rattle.std.specs.Prelude.{◌≡◌, ◌≢◌, ◌≤◌, ℕ, List, length, Option, Ok, Err, ⊤}
use Rattle.std.specs.Io.KnownBytes.{Consumes, IsAtEnd}
use Rattle.xh_model.specs.declared.config.Config.{Config}
use Rattle.xh_script.specs.Config.{IsScriptConfig}
use Rattle.xh_script.specs.declared.fault.Fault.{Fault}
use Rattle.xh_script.specs.declared.fault.Fault.TheVariants.{Script, Memory, Read, Write, Gate, BadConfig}
use Rattle.xh_script.specs.declared.limits.TheConstants.{MAX_SCRIPT}
use Rattle.xh_script.specs.declared.streams.Watched.{Watched}
use Rattle.xh_script.specs.Scripts.{Listing, script_of}
use Rattle.xh_script.specs.Watching.{failures, inner_of, ReadsBytes}

module _ {R : Type 0} (remaining : R → Option (List ℕ)) where
  -- the reader gave no more bytes than this
  abbrev pub ReadsAtMost : ℕ → Watched R → Watched R → Type 0
  ReadsAtMost most old new = (bytes : List ℕ) × Consumes (remaining (inner_of old)) (remaining (inner_of new)) bytes × (length bytes ≤ most)

  -- the reader gave these bytes, and has no more, or gave more than a script may have
  abbrev pub ReadsScript : Watched R → Watched R → List ℕ → Type 0
  ReadsScript old new text = ReadsBytes remaining old new text × (length text ≤ MAX_SCRIPT → IsAtEnd (remaining (inner_of new)))

  -- the reader gave these bytes, and has no more; and they are this script
  pub record GivesScript (old new : Watched R) (text : List ℕ) (script : Listing) : Type 0 where
    pub reads : ReadsBytes remaining old new text
    pub ends : IsAtEnd (remaining (inner_of new))
    pub says : script_of text ≡ Ok script

  -- what a fault says that comes before a script is there: a config outside its limits is found before anything is read, and Read comes only where a call failed in this run
  abbrev pub Unread : Config → Watched R → Watched R → Fault → Type 0
  Unread config old new BadConfig = ¬ IsScriptConfig config × (new ≡ old)
  Unread config old new Memory = ⊤
  Unread config old new Read = failures new ≢ failures old
  Unread config old new (Script n kind) = (text : List ℕ) × ReadsScript old new text × (script_of text ≡ Err (Script n kind))
  Unread config old new Write = ⊥
  Unread config old new Gate = ⊥
