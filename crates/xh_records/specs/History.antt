-- The events on the records of a table, in their order.
use Rattle.std.specs.Prelude.{◌≡◌, ◌⊎◌, ℕ, ◌%◌, ◌<◌, List, [], ◌∷◌, ◌++◌, length, replicate, None, Option}
use Rattle.xh_model.specs.declared.event.Event.{Event}
use Rattle.xh_model.specs.declared.event.Holder.{Holder}
use Rattle.xh_model.specs.declared.limits.TheConstants.{MAX_RECORDS}
use Rattle.xh_model.specs.Words.{Ownership, IsDone, IsHeldBy, IsHolder, record_of, to_of, word_of}

-- The events, in this order, lead from the ownership o to o', with n records in an arena.
-- An arena has the record of each, and who has it then is a holder.
abbrev pub LeadsTo : ℕ → Ownership → List Event → Ownership → Type 0
LeadsTo n o [] o' = o' ≡ o
LeadsTo n o (e ∷ es) o' = (m : Ownership) × IsDone n o e m × ((record_of e % MAX_RECORDS < n) × IsHolder (to_of e)) × LeadsTo n m es o'

-- the front is a beginning of the log
abbrev pub StartsWith : {X : Type 0} → List X → List X → Type 0
StartsWith {X} log front = (later : List X) × (log ≡ front ++ later)

-- one of two fronts is a beginning of the other
abbrev pub IsOneLog : {X : Type 0} → List X → List X → Type 0
IsOneLog a b = StartsWith a b ⊎ StartsWith b a

-- after the events of the front, from no record held and with n records in an arena, the word at the index k is that of the record's holder
abbrev pub TellsWord : ℕ → List Event → ℕ → ℕ → Type 0
TellsWord n front k word = (o : Ownership) × LeadsTo n (replicate (length o) None) front o × (h : Option Holder) × IsHeldBy o k h × (word ≡ word_of h)
