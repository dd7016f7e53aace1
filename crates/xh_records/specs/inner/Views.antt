-- How a step changes the view of its seat.
use Rattle.std.specs.Prelude.{◌≡◌, ℕ, zero, suc, ◌+◌, List, [], ◌∷◌, ◌++◌, map, Option}
use Rattle.xh_model.specs.declared.event.Holder.{Holder}
use Rattle.xh_model.specs.declared.event.Event.{Event}
use Rattle.xh_model.specs.declared.limits.TheConstants.{PLACES}
use Rattle.xh_model.specs.Words.{place_of, number_of}
use Rattle.xh_model.specs.Keyed.{keys, without}
use Rattle.xh_model.specs.Slots.{index_of}
use Rattle.xh_arena.specs.Views.{LotOf}
use Rattle.xh_records.specs.Deeds.{Deed}
use Rattle.xh_records.specs.Seats.{Held}
use Rattle.xh_records.specs.inner.Events.{taking, giving}
use Rattle.xh_records.specs.declared.shape.Shape.{Shape}
use Rattle.xh_records.specs.declared.view.View.{View}

-- k places from p on, each of generation 0
abbrev pub places_from : ℕ → ℕ → List ℕ
places_from p zero = []
places_from p (suc k) = p ∷ places_from (suc p) k

-- nothing seen for each of these places
abbrev pub none_yet : {X : Type 0} → List ℕ → List (ℕ × List X)
none_yet [] = []
none_yet (p ∷ ps) = (place_of p, []) ∷ none_yet ps

-- the view of a seat that stands for k places from p on, each of generation 0, and has no record
abbrev pub dealer : {B : Type 0} → Shape → ℕ → ℕ → View B
dealer s p k = record { shape = s; processes = places_from p k; records = []; fronts = none_yet (places_from p k) }

-- the first seat stands for all places
abbrev pub all_places : {B : Type 0} → Shape → View B
all_places s = dealer s 0 s.places

abbrev pub no_shape : Shape
no_shape = record { records = 0; places = 0; names = [] }

-- a spent view
abbrev pub spent : {B : Type 0} → View B
spent = record { shape = no_shape; processes = []; records = []; fronts = [] }

-- the front of a view that stands for one place, and more in it
abbrev pub first_history : {X : Type 0} → List (ℕ × List X) → List X
first_history [] = []
first_history (x ∷ xs) = x.1

abbrev pub front_in : {B : Type 0} → View B → List (Deed B)
front_in v = first_history v.fronts

abbrev pub adds : {X : Type 0} → List X → List (ℕ × List X) → List (ℕ × List X)
adds es [] = []
adds es (x ∷ xs) = (x.0, x.1 ++ es) ∷ adds es xs

-- the view stands for the process p alone
abbrev pub IsAlone : {B : Type 0} → View B → ℕ → Type 0
IsAlone v p = (v.processes ≡ p ∷ []) × (v.fronts ≡ (place_of p, front_in v) ∷ [])

-- the view has seen these, too
abbrev pub knowing : {B : Type 0} → View B → List (Deed B) → View B
knowing v es = record v { fronts = adds es v.fronts }

-- the view has seen deeds of others, and did one
abbrev pub doing : {B : Type 0} → View B → List (Deed B) → Event → LotOf B → View B
doing v others e l = knowing v (others ++ (e, l) ∷ [])

-- the view of a process gains a record with its lot from where it was, or loses it to where it goes
abbrev pub gained : {B : Type 0} → View B → ℕ → ℕ → Option Holder → LotOf B → List (Deed B) → View B
gained v k p from l others = record (doing v others (taking p (number_of v.shape.records k) from) l) { records = v.records ++ (k, p) ∷ [] }

abbrev pub lost : {B : Type 0} → View B → ℕ → ℕ → Option Holder → LotOf B → List (Deed B) → View B
lost v k p to l others = record (doing v others (giving p (number_of v.shape.records k) to) l) { records = without k v.records }

-- it stands so for one place at least
abbrev pub IsDealer : {B : Type 0} → View B → Type 0
IsDealer v = (s : Shape) × (p : ℕ) × (k : ℕ) × (v ≡ dealer s p (suc k))

-- a seat that stands for several places deals its first one out, with no record
abbrev pub tail_of : {X : Type 0} → List X → List X
tail_of [] = []
tail_of (p ∷ ps) = ps

abbrev pub head_of : {X : Type 0} → List X → List X
head_of [] = []
head_of (p ∷ ps) = p ∷ []

abbrev pub dealt_from : {B : Type 0} → View B → View B
dealt_from v = record v { processes = tail_of v.processes; fronts = tail_of v.fronts }

abbrev pub dealt : {B : Type 0} → View B → View B
dealt v = record { shape = v.shape; processes = head_of v.processes; records = []; fronts = head_of v.fronts }

-- what a view has seen, for another seat to compare: beside a number past the places
abbrev pub note_of : {B : Type 0} → View B → View B
note_of v = record spent { fronts = (PLACES, front_in v) ∷ [] }

-- two views in one
abbrev pub joined : {B : Type 0} → View B → View B → View B
joined v w = record { shape = v.shape; processes = v.processes ++ w.processes; records = v.records ++ w.records; fronts = v.fronts ++ w.fronts }

-- the generation of each place rises by one
abbrev pub renewed : {B : Type 0} → View B → View B
renewed v = record v { processes = map (λ p. p + PLACES) v.processes }

-- the indices of a seat's records, each beside its process, and the seat's view
abbrev pub indices : {B : Type 0} → Held B → List ℕ
indices x = map (index_of x.shape.records) (keys x.lots)

abbrev pub owned_by : ℕ → List ℕ → List (ℕ × ℕ)
owned_by p [] = []
owned_by p (k ∷ ks) = (k, p) ∷ owned_by p ks

abbrev pub view_of : {B : Type 0} → Held B → View B
view_of x = record { shape = x.shape; processes = x.process ∷ []; records = owned_by x.process (indices x); fronts = (place_of x.process, x.front) ∷ [] }
