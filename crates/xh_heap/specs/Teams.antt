-- What a channel between two of a team is.
use Rattle.std.specs.Prelude.{◌≡◌, ◌≢◌, ◌<◌, ℕ, List, Option, Result, Err, length, slice_index_or, slice_set}
use Rattle.xh_calls.specs.Leading.{Leading}
use Rattle.xh_calls.specs.Parts.{PartsOf}
use Rattle.xh_core.specs.declared.refused.Refused.{Refused}
use Rattle.xh_core.specs.declared.refused.Refused.TheVariants.{NoProcess}
use Rattle.xh_heap.specs.Handles.{Acts, HandleOf}
use Rattle.xh_heap.specs.Values.{Answers, ends_of}
use Rattle.xh_heap.specs.declared.values.End.{End}
use Rattle.xh_kernel.specs.Wires.{OpensBoth, Wires}
use Rattle.xh_model.specs.declared.row.Row.{Row}

module _ (parts : PartsOf) (leads : Leading) (contract : Option (List Row)) where
  -- a process opened a channel, both sides its own
  abbrev pub OpensOwn : (own own' : HandleOf) → Result (End × End) Refused → Type 0
  OpensOwn own own' result = Acts (λ p. Answers (λ told old new. OpensBoth parts leads p 0 contract old new told) (ends_of p p) result) own own'

  -- it opened one of which side 1 is the other's
  abbrev pub WiresTo : HandleOf → (own own' : HandleOf) → Result (End × End) Refused → Type 0
  WiresTo other own own' result = let q = other.number in Acts (λ p. Answers (λ told old new. Wires parts leads p q 0 contract old new told) (ends_of p q) result) own own'

  -- side 0 is of the process at the one index, side 1 of that at the other, and every other process is as it was; or there is none at an index, and nothing was done
  pub record WiresTwo {P : Type 0} (handle : P → HandleOf) (one other : ℕ) (old new : List P) (result : Result (End × End) Refused) : Type 0 where
    pub none : (one < length old → other < length old → ⊥) → (result ≡ Err NoProcess) × (new ≡ old)
    pub both : (d : P) → one < length old → one ≡ other → let own = slice_index_or new one d in (new ≡ slice_set old one own) × OpensOwn (handle (slice_index_or old one d)) (handle own) result
    pub wire : (d : P) → one < length old → other < length old → one ≢ other → let own = slice_index_or new one d in
        (new ≡ slice_set old one own) × WiresTo (handle (slice_index_or old other d)) (handle (slice_index_or old one d)) (handle own) result
