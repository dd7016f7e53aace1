-- What a seat knows, and the rule: there is one history a place, which the seat that writes it knows whole, of which each seat has seen a beginning, a worker one that has all of its own calls, and
-- of which the place's word shows the last call.
use Rattle.std.specs.Prelude.{◌≡◌, ℕ, suc, ◌-◌, ◌*◌, ◌/◌, ◌<◌, ◌≤◌, List, [], ◌∷◌, ◌++◌, length, map, replicate, slice_index, slice_set, unwrap_or, Option}
use mathlib.Core.Option.{some}
use lib.ListN.{get_elem?}
use Rattle.atomic_table.specs.Table.{State, Step, Me}
use Rattle.xh_history.specs.declared.view.View.{View}
use Rattle.xh_model.specs.declared.limits.TheConstants.{PLACES}
use Rattle.xh_history.specs.Histories.{FrontOf, History, HasSeen, IsLastShown, StartsWith, at, no_front}
use Rattle.atomic_table.specs.Seated.{TableId}

-- how many words lie from one place's word to the next's: those of a cache line, so that threads that store the words of their places don't wait for each other
abbrev pub stride : ℕ
stride = 8

-- how many words there are, of which those before and between the places' stay 0
abbrev pub all_words : ℕ
all_words = 264

-- the place that a word belongs to
abbrev pub place_of_word : ℕ → ℕ
place_of_word w = w / stride - 1

module _ {E : Type 0} where
  -- the seat writes the history of the place
  abbrev pub WritesPlace : View E → ℕ → Type 0
  WritesPlace v p = (v.place ≤ p) × (p < v.places_end)

  -- the seat has seen the places for the worker
  abbrev pub Serves : View E → ℕ → Type 0
  Serves v k = (v.worker ≤ k) × (k < v.workers_end)

  -- what the rule says of one view, where h is the history of each place, and the seats of each place and of each worker are known
  pub record Fits (h : ℕ → History E) (writer_of server_of : ℕ → ℕ) (id : ℕ) (v : View E) : Type 0 where
    pub whole : (p : ℕ) → WritesPlace v p → v.history ≡ h p
    pub writer : (p : ℕ) → WritesPlace v p → id ≡ writer_of p
    pub begun : (p : ℕ) → StartsWith (h p) (at v.fronts p)
    pub seen : (k : ℕ) → Serves v k → (p : ℕ) → HasSeen k (at v.fronts p) (h p)
    pub server : (k : ℕ) → Serves v k → id ≡ server_of k

  abbrev pub AllFit : (ℕ → History E) → (ℕ → ℕ) → (ℕ → ℕ) → List (View E) → Type 0
  AllFit h writer_of server_of views = (id : ℕ) (v : View E) → get_elem? views id ≡ some v → Fits h writer_of server_of id v

  -- each place's word shows the last call of its history
  abbrev pub AreShown : (ℕ → ℕ → E → Type 0) → (ℕ → History E) → List ℕ → Type 0
  AreShown shows h words = (length words ≡ all_words) × ((p : ℕ) → p < PLACES → IsLastShown shows p (h p) (slice_index words (stride * suc p)))

  abbrev pub AreKeptHistories : (ℕ → ℕ → E → Type 0) → {S : Type 0} → State S (View E) → Type 0
  AreKeptHistories shows s = (h : ℕ → History E) × (writer_of : ℕ → ℕ) × (server_of : ℕ → ℕ) × AreShown shows h s.words × AllFit h writer_of server_of s.views

  -- the seat of all places from p on and of all workers from k on, on which nothing was called yet
  abbrev pub view_from : ℕ → ℕ → View E
  view_from p k = record { place = p; places_end = PLACES; history = []; worker = k; workers_end = 256; fronts = replicate PLACES []; looks = 0 }

  -- the seat keeps its places from p on and its workers from k on
  abbrev pub kept_from : ℕ → ℕ → View E → View E
  kept_from p k v = record v { place = p; worker = k }

  -- and those before go to a seat that has seen as much
  abbrev pub given_before : ℕ → ℕ → View E → View E
  given_before p k v = record v { places_end = p; workers_end = k }

  -- the seat of a place takes in that of a worker, or what a look has seen
  abbrev pub both : View E → View E → View E
  both v w = record v { worker = w.worker; workers_end = w.workers_end; fronts = w.fronts; looks = w.looks }

  abbrev pub spent : View E
  spent = record { place = 0; places_end = 0; history = []; worker = 0; workers_end = 0; fronts = []; looks = 0 }

  -- the calls, each beside the number of its worker
  abbrev pub signed : ℕ → List E → History E
  signed k = map (λ e. (k, e))

  -- the worker's calls come to the end of the place's history, which the worker has seen then
  abbrev pub with_calls : List E → View E → View E
  with_calls es v = record v { history = v.history ++ signed v.worker es; fronts = slice_set v.fronts v.place (v.history ++ signed v.worker es) }

  -- where a word shows the last call of the one history, this one, or with none the same, shows that of the other
  abbrev pub ShowsNext : (ℕ → ℕ → E → Type 0) → ℕ → History E → History E → Option ℕ → Type 0
  ShowsNext shows p h h' word = (n : ℕ) → IsLastShown shows p h n → IsLastShown shows p h' (unwrap_or word n)

  -- the calls were added, and what the worker had seen was a beginning of the history
  abbrev pub Added : List E → {S : Type 0} → Step S → Me S (View E) → ℕ → Me S (View E) → Type 0
  Added es s v n w = (w ≡ (with_calls es v.0, v.1)) × HasSeen v.0.worker (at v.0.fronts v.0.place) v.0.history

  -- a load of the place's word, one look: the history was seen to its end, of which the word shows the last call; a seat that writes it knows that end, and had seen all calls of a worker whom it serves
  abbrev pub Looked : (ℕ → ℕ → E → Type 0) → {S : Type 0} → ℕ → Me S (View E) → ℕ → Me S (View E) → Type 0
  Looked shows p v n w = (later : History E) × (w ≡ (record v.0 { fronts = slice_set v.0.fronts p (at v.0.fronts p ++ later); looks = suc v.0.looks }, v.1))
      × IsLastShown shows p (at v.0.fronts p ++ later) n
      × (WritesPlace v.0 p → v.0.history ≡ at v.0.fronts p ++ later) × ((k : ℕ) → Serves v.0 k → HasSeen k (at v.0.fronts p) (at v.0.fronts p ++ later))

  -- the seat that writes the history of this one place, and serves no worker
  pub record IsPen (number : ℕ) (v : View E) : Type 0 where
    pub place : number < PLACES
    pub is : v.place ≡ number
    pub alone : v.places_end ≡ suc number
    pub none : v.workers_end ≤ v.worker

  -- a seat that serves no worker, and has seen of each place a beginning
  pub record IsOnlooker (v : View E) : Type 0 where
    pub none : v.workers_end ≤ v.worker
    pub fronts : length v.fronts ≡ PLACES

  abbrev pub view_in : List (View E) → View E
  view_in [] = spent
  view_in (v ∷ vs) = v

  -- a seat that serves one worker, and writes nothing
  pub record IsFront (views : List (View E)) : Type 0 where
    pub one : views ≡ view_in views ∷ []
    pub alone : (view_in views).workers_end ≡ suc (view_in views).worker
    pub none : (view_in views).places_end ≤ (view_in views).place
    pub fronts : length (view_in views).fronts ≡ PLACES

  -- or no seat
  abbrev pub IsFrontOrNone : List (View E) → Type 0
  IsFrontOrNone [] = Unit {0}
  IsFrontOrNone (v ∷ vs) = IsFront (v ∷ vs)

  -- what contracts see of it
  abbrev pub front_of : TableId → List (View E) → FrontOf E
  front_of id [] = no_front
  front_of id (v ∷ vs) = record { table = id; number = v.worker; fronts = v.fronts; looks = v.looks }
