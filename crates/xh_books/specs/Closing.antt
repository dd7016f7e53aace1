-- What a kernel was when it was closed: its places and vaults, their histories, and the ledger of them.
use Rattle.std.specs.Prelude.{◌≡◌, List, All, length}
use Rattle.xh_arena.specs.Views.{VaultOf}
use Rattle.xh_calls.specs.declared.call.Entry.{Entry}
use Rattle.xh_calls.specs.Parts.{PartsOf}
use Rattle.xh_calls.specs.Vaults.{AreKeptVaults}
use Rattle.xh_core.specs.declared.flight.FlightLine.{FlightLine}
use Rattle.xh_core.specs.declared.ledger.Ledger.{Ledger}
use Rattle.xh_history.specs.Histories.{LookOf, PenOf}
use Rattle.xh_kernel.specs.Accounts.{AccountOf}
use Rattle.xh_kernel.specs.Finished.{HaveSeen, tallies_of}
use Rattle.xh_kernel.specs.Kept.{AreKept}
use Rattle.xh_place.specs.Places.{PlaceSeen}
use Rattle.xh_books.specs.Flight.{IsInFlight}
use Rattle.xh_books.specs.Ledgers.{IsBalanced, all_lengths, arena_lines, bytes_in_flight, bytes_owned, place_lines}

-- The locks of the kernel kept lawful histories of its places, each led to the place beside it, and the histories of its
-- arenas, each ended in the vault beside it; and these are all accounts and looks of the workers that made them. The ledger
-- is of these places, vaults and accounts; the lines of directions are of these places and vaults.
pub record AreClosed (parts : PartsOf) (accounts : List AccountOf) (looks : List (LookOf Entry)) (l : Ledger) (directions : List FlightLine) : Type 0 where
  pub places : List PlaceSeen
  pub pens : List (PenOf Entry)
  pub vaults : List VaultOf
  pub vault_pens : List (PenOf VaultOf)
  pub kept : AreKept parts places pens
  pub kept_vaults : AreKeptVaults parts vaults vault_pens
  pub workers : length accounts ≡ parts.workers
  pub seen : HaveSeen accounts looks pens vault_pens
  pub arenas : l.arenas.items ≡ arena_lines (tallies_of accounts) 0 vaults
  pub lines : l.places.items ≡ place_lines places
  pub owned : l.owned ≡ bytes_owned places
  pub flight : l.flight ≡ bytes_in_flight places parts.records.shape.records 0 (all_lengths vaults)
  pub balanced : IsBalanced l
  pub in_flight : IsInFlight parts.records.shape places (all_lengths vaults) directions

-- a ledger has a line for each arena of a kernel of these parts, each of the arenas' size
abbrev pub HasArenasOf : PartsOf → Ledger → Type 0
HasArenasOf parts l = (length l.arenas.items ≡ length parts.records.shape.names) × All (λ a. a.size ≡ parts.size) l.arenas.items
