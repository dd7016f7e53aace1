-- What is said of a reader or a writer whose failures are counted.
use Rattle.std.specs.Prelude.{◌≡◌, ◌≢◌, ℕ, List, ◌++◌, Option, Result, Ok, Err}
use Rattle.std.specs.Io.KnownBytes.{Appends, Consumes}
use Rattle.xh_script.specs.declared.streams.Watched.{Watched}
use Rattle.xh_script.specs.declared.fault.Fault.{Fault}
use Rattle.xh_script.specs.declared.fault.Fault.TheVariants.{Write}

module _ {T : Type 0} where
  -- how many of its calls have failed
  abbrev pub failures : Watched T → ℕ
  failures w = w.failures

  abbrev pub inner_of : Watched T → T
  inner_of w = w.inner

  -- a read gave these bytes, the next of those that remain
  pub record ReadsBytes (remaining : T → Option (List ℕ)) (old new : Watched T) (bytes : List ℕ) : Type 0 where
    pub taken : Consumes (remaining (inner_of old)) (remaining (inner_of new)) bytes
    pub still : failures new ≡ failures old

  -- these bytes were written behind what was there
  pub record WritesBytes (contents : T → Option (List ℕ)) (old new : Watched T) (bytes : List ℕ) : Type 0 where
    pub held : Appends (contents (inner_of old)) (contents (inner_of new)) bytes
    pub still : failures new ≡ failures old

  -- a prefix of these bytes was written, and then a call of the writer failed
  pub record WritesPrefix (contents : T → Option (List ℕ)) (old new : Watched T) (bytes : List ℕ) : Type 0 where
    pub prefix : List ℕ
    pub rest : List ℕ
    pub whole : bytes ≡ prefix ++ rest
    pub held : Appends (contents (inner_of old)) (contents (inner_of new)) prefix
    pub failed : failures new ≢ failures old

  -- all of the bytes were written at Ok, and a prefix of them at Err, which is Write
  abbrev pub WritesOrFails : (T → Option (List ℕ)) → Watched T → Watched T → Result (Unit {0}) Fault → List ℕ → Type 0
  WritesOrFails contents old new (Ok done) bytes = WritesBytes contents old new bytes
  WritesOrFails contents old new (Err e) bytes = (e ≡ Write) × WritesPrefix contents old new bytes
