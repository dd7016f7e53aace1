-- What the workers of a kernel have seen of its places and arenas once they are done.
use Rattle.std.specs.Prelude.{◌≡◌, ℕ, List, All, length, map}
use Rattle.xh_arena.specs.Views.{TallyOf, VaultOf}
use Rattle.xh_calls.specs.Vaults.{AreInOrder}
use Rattle.xh_calls.specs.declared.call.Entry.{Entry}
use Rattle.xh_history.specs.Histories.{HasSeen, History, LookOf, PenOf, StartsWith, at}
use Rattle.xh_kernel.specs.Accounts.{AccountOf}
use Rattle.xh_model.specs.declared.limits.TheConstants.{PLACES}

-- what the accounts took and gave back
abbrev pub tallies_of : List AccountOf → List (List TallyOf)
tallies_of = map (λ a. a.tallies)

-- what the worker of this number has seen of the history that each pen knows whole is a beginning, in which all of the worker's calls stand
abbrev pub HasSeenEach : {E : Type 0} → List (PenOf E) → ℕ → List (History E) → Type 0
HasSeenEach {E} pens number fronts = All (λ p. HasSeen number (at fronts p.number) p.history) pens

-- so has the account of the places' histories, and of the arenas'
abbrev pub HasSeenAll : List (PenOf Entry) → List (PenOf VaultOf) → AccountOf → Type 0
HasSeenAll pens vault_pens a = HasSeenEach pens a.number a.fronts × HasSeenEach vault_pens a.vaults.number a.vaults.fronts

-- the pens are those of all places, in order; so has each account, and each look has seen a beginning of each place's
pub record HaveSeen (accounts : List AccountOf) (looks : List (LookOf Entry)) (pens : List (PenOf Entry)) (vault_pens : List (PenOf VaultOf)) : Type 0 where
  pub in_order : (length pens ≡ PLACES) × AreInOrder pens
  pub seen : All (HasSeenAll pens vault_pens) accounts
  pub looked : All (λ l. All (λ p. StartsWith p.history (at l.fronts p.number)) pens) looks
