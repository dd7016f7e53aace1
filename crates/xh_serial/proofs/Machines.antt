-- What is read of a machine's places and directions, after a change of one of them.
use Rattle.xh_serial.proofs.Common.{ArePlaces, Direction, Holder, IsRunning, IsWhole, Line, List, Machine, Place, Process, [], ap, arith, at_set, blocks, carried, cond, eqb-true, false}
use Rattle.xh_serial.proofs.Common.{false≢true, get_or-set_other, get_or-set_same, get_or_default, holds, is_current, is_over, length, length-set, listed, nat_tests, no_line, no_place, peer}
use Rattle.xh_serial.proofs.Common.{place, refl, relisted, set-set, slice_index_or, slice_set, sym, times, true, ℕ, ◌%◌, ◌/◌, ◌<◌, ◌==◌, ◌∙◌, ◌≡◌, ◌≢◌}

-- an entry that is there is the one that is read with any default
pub read_at : {A : Type 0} (xs : List A) (i k : ℕ) (x d : A) → k < length xs → i ≡ k → x ≡ slice_index_or xs i x → x ≡ slice_index_or xs k d
read_at xs i k x d l e h = h ∙ (ap (λ j. slice_index_or xs j x) e ∙ get_or_default xs k x d l)

-- ---- places

-- the list that a place gives to a process, and that of a process among places
abbrev pub listed_at : Place → ℕ → List ℕ
listed_at x p = cond (x.generation == (p / 32)) x.blocks.items []

abbrev pub list_in : List Place → ℕ → List ℕ
list_in ps p = listed_at (place ps p) p

pub place_here : (ps : List Place) (p : ℕ) (x : Place) → p % 32 < length ps → place (slice_set ps (p % 32) x) p ≡ x
place_here ps p x l = get_or-set_same ps (p % 32) x no_place l

-- a list that is changed again
pub relisted_list : (ps : List Place) (p : ℕ) (rs : List ℕ) → p % 32 < length ps → (place (relisted p rs ps) p).blocks.items ≡ rs
relisted_list ps p rs l = ap (λ (x : Place). x.blocks.items) (place_here ps p (record (place ps p) { blocks = record { items = rs } }) l)

pub relisted_again : (ps : List Place) (p : ℕ) (rs ss : List ℕ) → p % 32 < length ps → relisted p ss (relisted p rs ps) ≡ relisted p ss ps
relisted_again ps p rs ss l = grind (arith, nat_tests, place_here, set-set)

pub list_set : (ps : List Place) (p : ℕ) (rs : List ℕ) → p % 32 < length ps → (place ps p).generation ≡ p / 32 → (k : ℕ) → list_in (relisted p rs ps) k ≡ cond (k == p) rs (list_in ps k)
list_set ps p rs l g k = grind (arith, nat_tests, at_set ps (p % 32) (k % 32) (record (place ps p) { blocks = record { items = rs } }) no_place l)

-- a place that lists as before
pub same_lists : (ps : List Place) (p : ℕ) (x : Place) → p % 32 < length ps → ((k : ℕ) → listed_at x k ≡ listed_at (place ps p) k) → (k : ℕ) → list_in (slice_set ps (p % 32) x) k ≡ list_in ps k
same_lists ps p x l h k = grind (arith, nat_tests, at_set ps (p % 32) (k % 32) x no_place l, h k)

pub current_generation : (m : Machine) (p : ℕ) → is_current m p ≡ true → (place m.places p).generation ≡ p / 32
current_generation m p h = eqb-true _ _ h

-- a process with a list is the latest of its place
pub lists_current : (m : Machine) (p from : ℕ) → from < length (blocks m p) → is_current m p ≡ true
lists_current m p from l = grind (arith, nat_tests)

pub current_blocks : (m : Machine) (p : ℕ) → is_current m p ≡ true → blocks m p ≡ (place m.places p).blocks.items
current_blocks m p h = rw h refl

pub place_there : (m : Machine) (p : ℕ) → IsWhole m → p % 32 < length m.places
place_there m p w = let e = w.places.long in omega (arith, e)

pub current_range : (m : Machine) (p : ℕ) → IsWhole m → is_current m p ≡ true → p < 65504
current_range m p w h = let e : (place m.places p).generation ≡ p / 32 = current_generation m p h in let g : (place m.places p).generation < 128 = w.places.generations p in omega (arith, e, g)

-- a place whose list may be what it is
pub record IsPlace (x : Place) : Type 0 where
  pub generation : x.generation < 128
  pub idle : is_over x.status ≡ true → x.blocks.items ≡ []

-- the places but for one
pub places_set : (ps : List Place) (p : ℕ) (x : Place) → ArePlaces ps → IsPlace x → ArePlaces (slice_set ps (p % 32) x)
places_set ps p x a is = grind (arith, nat_tests, at_set, length-set)

-- a place that is not idle may have any list
pub busy_place : (m : Machine) (p : ℕ) (rs : List ℕ) → IsWhole m → is_over (place m.places p).status ≡ false →
    IsPlace (record (place m.places p) { blocks = record { items = rs } })
busy_place m p rs w b = record { generation = w.places.generations p; idle = λ h. absurd (false≢true (sym b ∙ h)) }

-- other places that list the same records
module _ (m : Machine) (ps : List Place) (w : IsWhole m) (a : ArePlaces ps) (same : (k q : ℕ) → times q (list_in ps k) ≡ times q (blocks m k)) where
  once_placed : (h : Holder) (q : ℕ) → times q (listed (record m { places = ps }) h) ≡ cond (holds m.store h q) 1 0
  once_placed (Process k) q = same k q ∙ w.once (Process k) q
  once_placed (Direction d) q = w.once (Direction d) q

  pub places_whole : IsWhole (record m { places = ps })
  places_whole = grind (arith, nat_tests, once_placed)

-- ---- directions

pub way_here : (lines : List Line) (d : ℕ) (x : Line) → d < length lines → carried (slice_index_or (slice_set lines d x) d no_line).waiting.items ≡ carried x.waiting.items
way_here lines d x l = ap (λ (y : Line). carried y.waiting.items) (get_or-set_same lines d x no_line l)

pub way_else : (lines : List Line) (d k : ℕ) (x : Line) → k ≢ d → carried (slice_index_or (slice_set lines d x) k no_line).waiting.items ≡ carried (slice_index_or lines k no_line).waiting.items
way_else lines d k x n = ap (λ (y : Line). carried y.waiting.items) (get_or-set_other lines d k x no_line n)

pub peer_half : (d : ℕ) → peer d / 2 ≡ d / 2
peer_half d = grind (arith, nat_tests)

pub peer_ne : (d : ℕ) → peer d ≢ d
peer_ne d = grind (arith, nat_tests)

-- ---- a process that runs

pub runs_busy : (m : Machine) (p : ℕ) → IsRunning m p → is_over (place m.places p).status ≡ false
runs_busy m p r = grind (arith, nat_tests, r.1)
