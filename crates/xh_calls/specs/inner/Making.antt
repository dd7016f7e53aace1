-- What the vaults and the tallies of a kernel are, while it is made.
use Rattle.std.specs.Prelude.{◌≡◌, ℕ, ◌+◌, ◌*◌, ◌/◌, ◌%◌, ◌<◌, List, length, map, All, Some, slice_get, slice_index_or}
use Rattle.atomic_table.specs.Seated.{TableId}
use Rattle.xh_arena.specs.Views.{LotOf, TallyOf, VaultOf}
use Rattle.xh_history.specs.Histories.{PenOf, fresh_pen}
use Rattle.xh_model.specs.declared.limits.TheConstants.{PLACES}
use Rattle.xh_place.specs.Bodies.{fits_in}
use Rattle.xh_place.specs.declared.body.Body.{Body}
use Rattle.xh_records.specs.Showing.{IsEmpty}
use Rattle.xh_calls.specs.declared.making.Bundle.{Bundle}
use Rattle.xh_calls.specs.Tallies.{fresh_tally}
use Rattle.xh_calls.specs.Parts.{IsNew, IsUnused, vault_names}

-- the tallies of the worker k, with nothing taken, for vaults of these names
abbrev pub AreFreshTallies : List TableId → ℕ → List TallyOf → Type 0
AreFreshTallies zs k ts = ts ≡ map (fresh_tally k) zs

-- the bundle of the worker k
abbrev pub IsBundle : List TableId → ℕ → Bundle → Type 0
IsBundle zs k b = (b.number ≡ k) × AreFreshTallies zs k b.tallies.items

abbrev pub AreBundles : List TableId → List Bundle → Type 0
AreBundles zs bs = (k : ℕ) (d : Bundle) → k < length bs → IsBundle zs k (slice_index_or bs k d)

-- the empty lots of whole vaults, n to each
abbrev pub AreAllLots : ℕ → List TableId → List (LotOf Body) → Type 0
AreAllLots n names ls = (length ls ≡ length names * n) × ((k : ℕ) (l : LotOf Body) → slice_get ls k ≡ Some l → (l.index ≡ k % n) × (slice_get names (k / n) ≡ Some l.id) × IsEmpty fits_in l)

-- new vaults with their lots and names
abbrev pub AreMakings : ℕ → ℕ → ℕ → ℕ → List VaultOf → List (LotOf Body) → List TableId → Type 0
AreMakings workers records size wear vs ls names = (vault_names vs ≡ names) × All (IsNew workers records size wear) vs × All IsUnused vs × AreAllLots records names ls

-- the pens of the histories from the number a on, in which nothing stands yet
abbrev pub AreFreshFrom : ℕ → List (PenOf VaultOf) → TableId → Type 0
AreFreshFrom a pens id = (a + length pens ≡ PLACES) × ((k : ℕ) (d : PenOf VaultOf) → k < length pens → slice_index_or pens k d ≡ fresh_pen id (a + k))
