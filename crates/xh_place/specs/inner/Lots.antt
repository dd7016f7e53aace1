-- What the private steps of a place know of its seat and do to it.
use Rattle.std.specs.Prelude.{◌≡◌, ℕ, ◌+◌, ◌/◌, ◌<◌, ◌≤◌, List, [], ◌∷◌, ◌++◌, length, map, true, Option, option_map, unwrap_or}
use Rattle.xh_arena.specs.Views.{LotOf}
use Rattle.xh_model.specs.declared.limits.TheConstants.{MAX_RECORDS}
use Rattle.xh_model.specs.Keyed.{Among, keys, put}
use Rattle.xh_records.specs.Seats.{Held}
use Rattle.xh_place.specs.declared.body.Body.{Body}
use Rattle.xh_core.specs.declared.header.Kind.TheVariants as kind
use Rattle.xh_place.specs.Bodies.{bytes, content_of, fits_in, head_of, kind_of, tail_of}
use Rattle.xh_place.specs.Deeds.{claimed}
use Rattle.xh_place.specs.Places.{IsBlock, Item, item_of}
use Rattle.xh_place.specs.Seen.{Acts}

-- the block of a lot, and its length, where there is one
abbrev pub item_in : Option (LotOf Body) → Item
item_in o = unwrap_or (option_map item_of o) (record { len = 0; content = bytes [] })

abbrev pub len_at : Option (LotOf Body) → ℕ
len_at o = unwrap_or (option_map (λ l. l.len) o) 0

-- these lots as blocks
abbrev pub items_of : List (ℕ × LotOf Body) → List (ℕ × Item)
items_of lots = map (λ x. (x.0, item_of x.1)) lots

-- the seat has these lots now, and all else but what it has seen is as it was
abbrev pub HasNow : Held Body → List (ℕ × LotOf Body) → Held Body → Type 0
HasNow old lots new = new ≡ record old { lots = lots; front = new.front }

-- a data block's lot: a buffer of its length, which isn't 0
abbrev pub IsData : LotOf Body → Type 0
IsData l = (kind_of (content_of l.body) ≡ kind.Data) × (fits_in l.body l.len ≡ true) × (0 < l.len)

-- the lot l of the record r keeps its first k bytes, and those past them are in a record t of the same arena that the seat didn't hold
abbrev pub CutsLot : Held Body → Held Body → ℕ → ℕ → LotOf Body → ℕ → Type 0
CutsLot old new r k l t = (h m : LotOf Body) × (Among (keys old.lots) t → ⊥) × Acts (claimed old.process (t ∷ [])) (put r h old.lots ++ (t, m) ∷ []) old new
    × IsBlock old.shape r h × IsBlock old.shape t m × (h.len ≡ k) × (h.len + m.len ≡ l.len)
    × (content_of h.body ≡ head_of k (content_of l.body)) × (content_of m.body ≡ tail_of k (content_of l.body)) × (t / MAX_RECORDS ≡ r / MAX_RECORDS)

-- an endpoint's lot
abbrev pub IsEndLot : LotOf Body → Type 0
IsEndLot l = kind_of (content_of l.body) ≡ kind.End
