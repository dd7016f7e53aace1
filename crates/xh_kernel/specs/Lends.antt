-- A block's bytes in the hands of a function, under the lock of the place: a read of them all, and where the function may change them a write of what it left.
use Rattle.std.specs.Borrow.{Bor, MutBor}
use Rattle.std.specs.Fn.{CalledAt, CalledAtMut, Mut}
use Rattle.std.specs.Prelude.{◌≡◌, ℕ, List, [], Result, Ok, Err, MatchResult}
use Rattle.xh_calls.specs.Leading.{Leading}
use Rattle.xh_calls.specs.Places.{status_at}
use Rattle.xh_calls.specs.declared.call.Call.TheVariants as call
use Rattle.xh_core.specs.declared.refused.Refused.{Refused}
use Rattle.xh_kernel.specs.Accounts.{AccountOf, IsStill}
use Rattle.xh_kernel.specs.Calls.{Calls}
use Rattle.xh_kernel.specs.Did.{DidRead, DidWrite}
use Rattle.xh_model.specs.Words.{place_of}
use Rattle.xh_place.specs.Calls.{HasBytes, Reads, Writes}

-- the worker read the whole block: these are its bytes, and no others
abbrev pub DidReadAll : Leading → (p r : ℕ) → List ℕ → AccountOf → AccountOf → Type 0
DidReadAll leads p r xs = Calls leads (place_of p) (call.Read p r 0 xs (Ok tt)) IsStill (λ from to. Reads (status_at p from) r 0 xs from to (Ok tt) × HasBytes r to.seat xs)

-- it wrote the one over the other, which was the whole block
abbrev pub DidWriteAll : Leading → (p r : ℕ) → List ℕ → List ℕ → AccountOf → AccountOf → Type 0
DidWriteAll leads p r shown left = Calls leads (place_of p) (call.Write p r 0 left (Ok tt)) IsStill
    (λ from to. HasBytes r from.seat shown × Writes (status_at p from) r 0 left from to (Ok tt) × HasBytes r to.seat left)

-- the worker read the whole block, and one call of the function had these bytes; or the refusal of a read of no bytes
abbrev pub LendsAll : {F A : Type 0} → Leading → Mut F (Bor (List ℕ) × Unit {0}) A → ℕ → ℕ → F → F → AccountOf → AccountOf → Result A Refused → Type 0
LendsAll leads g p r f f' old new result = MatchResult result
    (λ a. (shown : List ℕ) × DidReadAll leads p r shown old new × CalledAt g f shown a f')
    (λ why. DidRead leads p r 0 [] (Err why) old new × (f' ≡ f))

-- one call of the function had the bytes of the whole block and left others, and the worker wrote these over it; or the refusal of a write of no bytes
abbrev pub LendsAllMut : {F A : Type 0} → Leading → Mut F (MutBor (List ℕ) × Unit {0}) (A × (MutBor (List ℕ) × Unit {0})) → ℕ → ℕ → F → F → AccountOf → AccountOf → Result A Refused → Type 0
LendsAllMut leads g p r f f' old new result = MatchResult result
    (λ a. (shown : List ℕ) × (left : List ℕ) × DidWriteAll leads p r shown left old new × CalledAtMut g f shown a f' left)
    (λ why. DidWrite leads p r 0 [] (Err why) old new × (f' ≡ f))
