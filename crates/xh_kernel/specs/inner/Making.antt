-- What a kernel is made of, while it is made.
use Rattle.std.specs.Prelude.{◌≡◌, ℕ, ◌%◌, ◌<◌, ◌≤◌, Bool, List, [], length, All, slice_index_or}
use Rattle.atomic_table.specs.Seated.{TableId}
use Rattle.xh_arena.specs.Views.{VaultOf}
use Rattle.xh_history.specs.Histories.{FrontOf, LookOf, PenOf, fresh_front, fresh_look, fresh_pen}
use Rattle.xh_model.specs.declared.config.Config.{Config}
use Rattle.xh_model.specs.declared.limits.TheConstants.{GENERATIONS, MAX_ARENAS, MAX_BYTES, PLACES, UNIT}
use Rattle.xh_place.specs.declared.body.Body.{Body}
use Rattle.xh_records.specs.Seats.{Held, RecordsOf, IsSeatOf}
use Rattle.xh_calls.specs.declared.making.Bundle.{Bundle}
use Rattle.xh_calls.specs.inner.Making.{AreBundles, AreFreshFrom}
use Rattle.xh_calls.specs.Parts.{PartsOf, IsOpen, IsUnused, vault_names}
use Rattle.xh_calls.specs.declared.call.Entry.{Entry}

-- the seat of the place k, at its first generation: it holds nothing, has done nothing, and has seen nothing
abbrev pub IsFirstSeat : RecordsOf → ℕ → Held Body → Type 0
IsFirstSeat all k x = IsSeatOf all x × (x.process ≡ k) × (x.lots ≡ []) × (x.front ≡ [])

abbrev pub AreFirstSeats : RecordsOf → List (Held Body) → Type 0
AreFirstSeats all xs = (length xs ≡ PLACES) × ((k : ℕ) (d : Held Body) → k < PLACES → IsFirstSeat all k (slice_index_or xs k d))

-- the pen of each place's history, in which no call stands yet
abbrev pub ArePens : TableId → List (PenOf Entry) → Type 0
ArePens id pens = (length pens ≡ PLACES) × ((k : ℕ) (d : PenOf Entry) → k < PLACES → slice_index_or pens k d ≡ fresh_pen id k)

-- the front of each worker, who has seen no call yet
abbrev pub AreUnseen : {E : Type 0} → TableId → List (FrontOf E) → Type 0
AreUnseen {E} id fronts = (k : ℕ) (d : FrontOf E) → k < length fronts → slice_index_or fronts k d ≡ fresh_front id k

-- a kernel's parts of these records and histories, made by the configuration
abbrev pub parts_of : RecordsOf → ℕ → Config → ℕ → Bool → ℕ → TableId → TableId → PartsOf
parts_of records workers config depth comes_back generations table vaults = record {
  records = records;
  workers = workers;
  size = config.bytes;
  wear = config.wear;
  depth = depth;
  comes_back = comes_back;
  generations = generations;
  histories = table;
  vaults = vaults;
}

-- what the type of a kernel's parts keeps
pub record AreParts (p : PartsOf) (vs : List VaultOf) (xs : List (Held Body)) (bs : List Bundle) (pens : List (PenOf Entry)) (fronts : List (FrontOf Entry)) (looks : List (LookOf Entry))
    (vault_pens : List (PenOf VaultOf)) (seen : List (FrontOf VaultOf)) : Type 0 where
  pub vaults : vault_names vs ≡ p.records.shape.names
  pub open_vaults : All (IsOpen p) vs
  pub unused : All IsUnused vs
  pub arenas : length vs ≤ MAX_ARENAS
  pub size : (p.size % UNIT ≡ 0) × (p.size ≤ MAX_BYTES)
  pub places : p.records.shape.places ≡ PLACES
  pub often : p.generations ≤ GENERATIONS
  pub seats : AreFirstSeats p.records xs
  pub pens_are : ArePens p.histories pens
  pub bundles : AreBundles p.records.shape.names bs
  pub looks_are : (length looks ≡ length bs) × All (λ l. l ≡ fresh_look p.histories) looks
  pub fronts_are : (length fronts ≡ length bs) × AreUnseen p.histories fronts
  pub vault_pens_are : AreFreshFrom 0 vault_pens p.vaults
  pub seen_are : (length seen ≡ length bs) × AreUnseen p.vaults seen
