-- What the lines of a ledger have in common.
use Rattle.xh_books.proofs.Common.{All, All-cons, All-head, All-nil, All-tail, ArenaLine, IsOpen, List, PLACES, PartsOf, PlaceLine, PlaceSeen, Status, Vacant, VaultOf, [], ap}
use Rattle.xh_books.proofs.Common.{TallyOf, arena_lines, arith, cons_option, length, place_line, line_in, place_lines, refl, suc, vault_names, ℕ, ◌<◌, ◌∷◌, ◌≡◌}

abbrev IsWithin : PlaceLine → Type 0
IsWithin l = l.place < PLACES

line_within : (s : Status) (p : PlaceSeen) (lines : List PlaceLine) → All IsWithin lines → All IsWithin (cons_option (line_in s (place_line p)) lines)
line_within Vacant p lines h = h
line_within s p lines h = All-cons IsWithin (place_line p) lines (omega arith) h

-- the lines of the places are those of the first 32
pub lines_within : (places : List PlaceSeen) → All (λ l. l.place < PLACES) (place_lines places)
lines_within [] = All-nil IsWithin
lines_within (p ∷ places) = line_within p.state p (place_lines places) (lines_within places)

-- the lines of the arenas are as many as their vaults, and of their size
pub lines_are_of : (parts : PartsOf) (tallies : List (List TallyOf)) (arena : ℕ) (vaults : List VaultOf) → All (IsOpen parts) vaults
    → (length (arena_lines tallies arena vaults) ≡ length (vault_names vaults)) × All (λ a. a.size ≡ parts.size) (arena_lines tallies arena vaults)
lines_are_of parts tallies arena [] fresh = (refl, All-nil (λ (a : ArenaLine). a.size ≡ parts.size))
lines_are_of parts tallies arena (v ∷ vs) fresh =
    let rest = lines_are_of parts tallies (suc arena) vs (All-tail (IsOpen parts) v vs fresh) in (
      ap suc rest.0,
      All-cons (λ (a : ArenaLine). a.size ≡ parts.size) _ _ (All-head (IsOpen parts) v vs fresh).4 rest.1,
    )
