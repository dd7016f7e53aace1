-- The parts of a vault's knowledge, and the rule that they keep: each stands once.
use Rattle.std.specs.Prelude.{◌≡◌, ℕ, suc, ◌+◌, List, [], ◌∷◌, ◌++◌, length, replicate, slice_set}
use Rattle.atomic_table.specs.Table.{State, Step, Me}
use Rattle.xh_arena.specs.declared.parts.Part.{Part}
use Rattle.xh_arena.specs.declared.parts.Part.TheVariants.{Books, Length, Moved}

-- f of each, added up
abbrev pub weigh : {X : Type 0} → (X → ℕ) → List X → ℕ
weigh f [] = 0
weigh f (x ∷ xs) = f x + weigh f xs

-- a part for each of these, numbered from i on
abbrev pub listed_parts : {X : Type 0} → (ℕ → X → Part) → ℕ → List X → List Part
listed_parts part i [] = []
listed_parts part i (x ∷ xs) = part i x ∷ listed_parts part (suc i) xs

-- the lots of the records from r on, with these lengths
abbrev pub lots_from : ℕ → List ℕ → List Part
lots_from r ls = listed_parts (λ i n. Length i n) r ls

-- the tallies from number j on, each with what it has taken and given back
abbrev pub tallies_from : ℕ → List (ℕ × ℕ) → List Part
tallies_from j ts = listed_parts (λ i t. Moved i t.0 t.1) j ts

-- the vault's part: the books of taken and back are the sums over the tallies
abbrev pub books : List ℕ → List (ℕ × ℕ) → Part
books ls ts = Books ls (weigh (λ t. t.0) ts) (weigh (λ t. t.1) ts) (length ts)

-- every part of a vault whose records have the lengths ls and whose tallies have moved ts, each once
abbrev pub whole : List ℕ → List (ℕ × ℕ) → List Part
whole ls ts = lots_from 0 ls ++ (tallies_from 0 ts ++ books ls ts ∷ [])

-- the parts of a new vault: nothing was carved
abbrev pub first_parts : ℕ → ℕ → List Part
first_parts records workers = whole (replicate records 0) (replicate workers (0, 0))

-- the rule of a vault's table: the word is 0, and all views together have each part of a vault once. "Each once, in
-- whatever order" is said by weights: however parts are weighed, the views weigh what the whole weighs.
abbrev pub Kept : {S : Type 0} → State S (List Part) → Type 0
Kept s = (s.words ≡ 0 ∷ []) × ((ls : List ℕ) × (ts : List (ℕ × ℕ)) × ((h : Part → ℕ) → weigh (weigh h) s.views ≡ weigh h (whole ls ts)))

-- the first part, as a list
abbrev pub top : List Part → List Part
top [] = []
top (p ∷ ps) = p ∷ []

-- the parts but the first
abbrev pub below : List Part → List Part
below [] = []
below (p ∷ ps) = ps

-- these parts and the others are one whole
abbrev pub AreOneWhole : List Part → List Part → Type 0
AreOneWhole v os = (ls : List ℕ) × (ts : List (ℕ × ℕ)) × ((h : Part → ℕ) → weigh h v + weigh h os ≡ weigh h (whole ls ts))

-- these parts, with some others, are one whole
abbrev pub AreOfOneWhole : List Part → Type 0
AreOfOneWhole v = (others : List Part) × AreOneWhole v others

-- what a change of parts owes: what was one whole with others still is
abbrev pub Keeps : (List Part → List Part) → Type 0
Keeps f = (v os : List Part) → AreOneWhole v os → AreOneWhole (f v) os

-- the view is what f makes of it, and it belonged to one whole
abbrev pub Changed : (List Part → List Part) → {S : Type 0} → Step S → Me S (List Part) → ℕ → Me S (List Part) → Type 0
Changed f s v n w = (w ≡ (f v.0, v.1)) × AreOfOneWhole v.0

-- the one part of a share that isn't blank
abbrev pub part_in : List (List Part) → Part
part_in ((p ∷ ps) ∷ vs) = p
part_in _ = Length 0 0

-- a share is one part
abbrev pub IsOne : List (List Part) → Type 0
IsOne vs = vs ≡ (part_in vs ∷ []) ∷ []

-- the other's parts go under the top
abbrev pub under : List Part → List Part → List Part
under v w = top v ++ (w ++ below v)

-- the lot on top of the books has the length n
abbrev pub with_length : ℕ → List Part → List Part
with_length n (Length r x ∷ Books ls t b k ∷ rest) = Length r n ∷ Books (slice_set ls r n) t b k ∷ rest
with_length n v = v

-- the tally on top of the books has taken n more
abbrev pub with_taken : ℕ → List Part → List Part
with_taken n (Moved j x y ∷ Books ls t b k ∷ rest) = Moved j (x + n) y ∷ Books ls (t + n) b k ∷ rest
with_taken n v = v

-- the tally on top of the books has given n more back
abbrev pub with_back : ℕ → List Part → List Part
with_back n (Moved j x y ∷ Books ls t b k ∷ rest) = Moved j x (y + n) ∷ Books ls t (b + n) k ∷ rest
with_back n v = v
