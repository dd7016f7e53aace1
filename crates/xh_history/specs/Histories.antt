-- Each place has one history: the calls that were made on it, each beside the number of the worker that made it. The place's word shows the last of them.
use Rattle.std.specs.Prelude.{◌≡◌, ◌==◌, ℕ, cond, List, [], ◌∷◌, ◌++◌, replicate, slice_index_or, slice_set, MatchOption, Option, None, Some}
use Rattle.atomic_table.specs.Seated.{TableId}
use Rattle.xh_model.specs.declared.limits.TheConstants.{PLACES}

abbrev pub History : Type 0 → Type 0
History E = List (ℕ × E)

-- the calls of a worker, in their order
abbrev pub calls_of : {E : Type 0} → ℕ → History E → List E
calls_of k [] = []
calls_of k (c ∷ cs) = cond (c.0 == k) (c.1 ∷ calls_of k cs) (calls_of k cs)

-- the history begins with what was seen of it
abbrev pub StartsWith : {E : Type 0} → History E → History E → Type 0
StartsWith {E} h seen = (later : History E) × (h ≡ seen ++ later)

-- the history begins with what the worker has seen of it, and all that came since is of other workers
abbrev pub HasSeen : {E : Type 0} → ℕ → History E → History E → Type 0
HasSeen {E} k seen h = (others : History E) × (h ≡ seen ++ others) × (calls_of k others ≡ [])

-- what was seen of a place
abbrev pub at : {E : Type 0} → List (History E) → ℕ → History E
at fronts p = slice_index_or fronts p []

abbrev pub last_of : {A : Type 0} → List A → Option A
last_of [] = None
last_of (x ∷ []) = Some x
last_of (x ∷ y ∷ ys) = last_of (y ∷ ys)

-- The word n of the place p shows the last call of the history, where `shows p n e` says that it shows the call e; before the first call it is 0.
abbrev pub IsLastShown : {E : Type 0} → (ℕ → ℕ → E → Type 0) → ℕ → History E → ℕ → Type 0
IsLastShown shows p h n = MatchOption (last_of h) (n ≡ 0) (λ c. shows p n c.1)

-- the table, the place whose history the pen writes, and the whole of it
pub record PenOf (E : Type 0) : Type 0 where
  pub table : TableId
  pub number : ℕ
  pub history : History E

-- the table, the worker's number, of each place what the worker has seen of its history, and how often it looked
pub record FrontOf (E : Type 0) : Type 0 where
  pub table : TableId
  pub number : ℕ
  pub fronts : List (History E)
  pub looks : ℕ

-- the table, of each place what the look has seen of its history, and how often it looked
pub record LookOf (E : Type 0) : Type 0 where
  pub table : TableId
  pub fronts : List (History E)
  pub looks : ℕ

-- of a place on which nothing was called yet
abbrev pub fresh_pen : {E : Type 0} → TableId → ℕ → PenOf E
fresh_pen id k = record { table = id; number = k; history = [] }

-- of a worker who has seen nothing
abbrev pub fresh_front : {E : Type 0} → TableId → ℕ → FrontOf E
fresh_front id k = record { table = id; number = k; fronts = replicate PLACES []; looks = 0 }

-- of a look that has seen nothing
abbrev pub fresh_look : {E : Type 0} → TableId → LookOf E
fresh_look id = record { table = id; fronts = replicate PLACES []; looks = 0 }

-- the look saw the history of the place p to its end, and of the others what it had seen; the word n shows the last call
abbrev pub Sees : {E : Type 0} → (ℕ → ℕ → E → Type 0) → List (History E) → ℕ → ℕ → List (History E) → Type 0
Sees {E} shows before p n after = (later : History E) × (after ≡ slice_set before p (at before p ++ later)) × IsLastShown shows p (at after p) n

-- the name of no table
abbrev pub no_table : TableId
no_table = record { words = 0; slots = 0; views_name = 0; atom = 0; block = 0; offset = 0; slot_names = [] }

-- of nobody, at no table
abbrev pub no_front : {E : Type 0} → FrontOf E
no_front = record { table = no_table; number = 0; fronts = []; looks = 0 }
