-- What a split does to a place, and why it doesn't.
use Rattle.std.specs.Prelude.{◌≡◌, ◌⊎◌, ℕ, ◌+◌, ◌/◌, [], ◌∷◌, ◌++◌, Some}
use Rattle.xh_arena.specs.Views.{LotOf}
use Rattle.xh_core.specs.declared.block.Block.{Block}
use Rattle.xh_core.specs.declared.refused.Refused.{Refused}
use Rattle.xh_core.specs.declared.refused.Refused.TheVariants.{NoRecord, OutOfMemory}
use Rattle.xh_model.specs.declared.limits.TheConstants.{MAX_RECORDS}
use Rattle.xh_model.specs.Keyed.{put, value_at}
use Rattle.xh_place.specs.declared.body.Body.{Body}
use Rattle.xh_place.specs.Bodies.{content_of, head_of, tail_of}
use Rattle.xh_place.specs.Deeds.{claimed}
use Rattle.xh_place.specs.Places.{PlaceSeen, item_of}
use Rattle.xh_place.specs.Seen.{Becomes}

-- the block r keeps its first k bytes and its place in the list; those past them are a new block of the same arena, at its end, whose record was claimed
abbrev pub IsSplit : PlaceSeen → PlaceSeen → ℕ → ℕ → Block → Block → Type 0
IsSplit old new r k head tail = (l h m : LotOf Body) × (value_at r old.seat.lots ≡ Some l)
    × Becomes (put r h old.seat.lots ++ (tail.rec, m) ∷ []) (old.list ++ tail.rec ∷ []) (claimed old.seat.process (tail.rec ∷ [])) old new
    × (item_of h ≡ record { len = k; content = head_of k (content_of l.body) }) × (item_of m ≡ record { len = tail.len; content = tail_of k (content_of l.body) })
    × (head ≡ record { rec = r; len = k }) × (tail.rec / MAX_RECORDS ≡ r / MAX_RECORDS) × (k + tail.len ≡ l.len)

-- no record was found free, as `full` says; or a growth was refused
abbrev pub IsUncut : Type 0 → Refused → Type 0
IsUncut full refused = ((refused ≡ NoRecord) × full) ⊎ (refused ≡ OutOfMemory)
