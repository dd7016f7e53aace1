-- A vault's books, as parts of its table, and what they have to do with its arena.
use Rattle.std.specs.Prelude.{◌≡◌, ℕ, ◌+◌, ◌≤◌, List, [], ◌∷◌, map}
use Rattle.xh_arena.specs.declared.parts.Part.{Part}
use Rattle.xh_arena.specs.declared.parts.Part.TheVariants.{Books, Length, Moved}
use Rattle.xh_model.specs.Arena.{ArenaState, lengths_of}
use Rattle.xh_model.specs.declared.limits.TheConstants.{MAX_WEAR}
use Rattle.xh_arena.specs.Views.{Move, AreSummed}
use Rattle.xh_arena.specs.inner.Parts.{weigh}

-- the part of a tally that was collected
abbrev pub moved_part : Move → Part
moved_part m = Moved m.number m.taken m.back

-- the tallies among the parts
abbrev pub moves_of : List Part → List Move
moves_of [] = []
moves_of (Moved j x y ∷ ps) = record { number = j; taken = x; back = y } ∷ moves_of ps
moves_of (Books ls t b k ∷ ps) = moves_of ps
moves_of (Length r n ∷ ps) = moves_of ps

-- the bytes given back, by the books
abbrev pub back_of : List Part → ℕ
back_of (Books ls t b k ∷ ps) = b
back_of _ = 0

-- how many tallies there are, by the books
abbrev pub workers_of : List Part → ℕ
workers_of (Books ls t b k ∷ ps) = k
workers_of _ = 0

-- the vault's parts, with those of the tallies that it took in
abbrev pub vault_parts : List ℕ → ℕ → ℕ → ℕ → List Move → List Part
vault_parts lengths taken back workers ms = Books lengths taken back workers ∷ map moved_part ms

-- what the books are to say of an arena: the length of each record, and the bytes ever handed out
pub record Booked : Type 0 where
  pub lengths : List ℕ
  pub wear : ℕ

-- what they are to say of this arena
abbrev pub booked : ArenaState → Booked
booked state = record { lengths = lengths_of state; wear = state.wear }

-- the books are those of the arena: what was taken is what was given back and what the records have
abbrev pub Balanced : Booked → List Part → Type 0
Balanced a parts =
    (parts ≡ vault_parts a.lengths a.wear (back_of parts) (workers_of parts) (moves_of parts))
    × (a.wear ≡ back_of parts + weigh (λ n. n) a.lengths)
    × AreSummed a.wear (back_of parts) (workers_of parts) (moves_of parts)

-- a vault's arena and the parts of its seat: the books are the arena's, and no sum of them is too large
pub record IsVault (arena : ArenaState) (parts : List Part) : Type 0 where
  pub balanced : Balanced (booked arena) parts
  pub worn : arena.wear ≤ arena.limit
  pub most : arena.limit ≤ MAX_WEAR
