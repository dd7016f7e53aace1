-- What a function answers that reads a part of a script.
use Rattle.std.specs.Prelude.{◌≡◌, Result, Ok, Err, ⊤}
use Rattle.xh_script.specs.declared.fault.FaultKind.{FaultKind}
use Rattle.xh_script.specs.declared.fault.Stop.{Stop}
use Rattle.xh_script.specs.declared.fault.Stop.TheVariants.{Bad, Memory}

-- a function stops at the fault of a reading, or because memory ran out
abbrev pub StopsReading : {B : Type 0} → Stop → Result B FaultKind → Type 0
StopsReading Memory reading = ⊤
StopsReading (Bad kind) reading = reading ≡ Err kind

-- a function answers what a reading gives, unless memory runs out
abbrev pub WordGives : {A B : Type 0} → (A → B) → Result A Stop → Result B FaultKind → Type 0
WordGives view (Ok x) reading = reading ≡ Ok (view x)
WordGives view (Err stop) reading = StopsReading stop reading
