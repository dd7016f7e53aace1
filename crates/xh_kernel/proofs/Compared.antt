-- Comparing what workers have seen with the pens of the histories, pen by pen and worker by worker.
use Rattle.xh_kernel.proofs.Common.{AccountOf, All, All-cons, AreKept, Entry, FrontOf, HasSeen, History, IsKeptPlace, IsOpen, List, LookOf, PartsOf, PenOf, PlaceSeen, StartsWith, VaultOf, [], ap, arith, at}
use Rattle.xh_kernel.proofs.Common.{below_more, get_or, get_or-set_other, map-set, set, set-get_or, slice_set, subst, sym, tallies_of, ℕ, ◌+◌, ◌<◌, ◌∙◌, ◌∷◌, ◌≡◌, ◌≤◌}
use Rattle.std.specs.List.{AllZip}
use Rattle.xh_calls.specs.Vaults.{IsKeptVault}
use Rattle.xh_records.specs.Seats.{IsSeatOf}

-- the look has seen a beginning of the history of each pen
abbrev pub LookSaw : List (PenOf Entry) → LookOf Entry → Type 0
LookSaw pens l = All (λ p. StartsWith p.history (at l.fronts p.number)) pens

-- ---- a front

module _ {E : Type 0} where
  -- it was compared with the first k pens, which are those of the first k histories
  pub record SeenSoFar (pens : List (PenOf E)) (old now_ : FrontOf E) (k : ℕ) : Type 0 where
    pub unmoved : now_ ≡ record old { fronts = now_.fronts }
    pub seen : (i : ℕ) → i < k → (d : PenOf E) → HasSeen old.number (at old.fronts (get_or pens i d).number) (get_or pens i d).history
    pub rest : (p : ℕ) → k ≤ p → at now_.fronts p ≡ at old.fronts p

  pub one_seen : (pens : List (PenOf E)) (old now_ new : FrontOf E) (k : ℕ) (pen : PenOf E) → SeenSoFar pens old now_ k → pen.number ≡ k → ((d : PenOf E) → get_or pens k d ≡ pen)
      → HasSeen now_.number (at now_.fronts pen.number) pen.history → new ≡ record now_ { fronts = slice_set now_.fronts pen.number pen.history } → SeenSoFar pens old new (k + 1)
  one_seen pens old now_ new k pen s same is seen m =
      let before : at now_.fronts pen.number ≡ at old.fronts pen.number = s.rest pen.number (omega (arith, same)) in
      let here : HasSeen old.number (at old.fronts pen.number) pen.history =
      subst (λ (z : ℕ × History E). HasSeen z.0 z.1 pen.history) (λ i. (ap (λ (f : FrontOf E). f.number) s.unmoved i, before i)) seen in record {
        unmoved = m ∙ ap (λ (f : FrontOf E). record f { fronts = slice_set now_.fronts pen.number pen.history }) s.unmoved
            ∙ ap (λ (fs : List (History E)). record old { fronts = fs }) (sym (ap (λ (f : FrontOf E). f.fronts) m));
        seen = below_more (λ i. (d : PenOf E) → HasSeen old.number (at old.fronts (get_or pens i d).number) (get_or pens i d).history) k s.seen
            (λ d. subst (λ (p : PenOf E). HasSeen old.number (at old.fronts p.number) p.history) (sym (is d)) here);
        rest = λ p le. ap (λ (f : FrontOf E). at f.fronts p) m ∙ get_or-set_other now_.fronts pen.number p pen.history [] (λ e. omega (arith, e, same, le)) ∙ s.rest p (omega arith);
      }

-- ---- all accounts

-- their tallies stay
pub same_tallies : (all : List AccountOf) (k : ℕ) (d a : AccountOf) → a.tallies ≡ (get_or all k d).tallies → tallies_of (set all k a) ≡ tallies_of all
same_tallies all k d a e =
    map-set (λ (b : AccountOf). b.tallies) all k a ∙ ap (set (tallies_of all) k) e
    ∙ sym (map-set (λ (b : AccountOf). b.tallies) all k (get_or all k d)) ∙ ap tallies_of (set-get_or all k d)

-- ---- the pens that locks kept

-- what is so of the one and the other wherever a lock kept both
zipped : {A B : Type 0} (R : A → B → Type 0) (P : A → Type 0) (Q : B → Type 0) → ((a : A) (b : B) → R a b → P a × Q b) → (xs : List A) (ys : List B) → AllZip R xs ys → All P xs × All Q ys
zipped R P Q so [] [] kept = (λ k d below. absurd (omega (arith, below)), λ k d below. absurd (omega (arith, below)))
zipped R P Q so [] (y ∷ ys) kept = absurd kept
zipped R P Q so (x ∷ xs) [] kept = absurd kept
zipped R P Q so (x ∷ xs) (y ∷ ys) kept = let here = so x y kept.0 in let rest = zipped R P Q so xs ys kept.1 in (All-cons P x xs here.0 rest.0, All-cons Q y ys here.1 rest.1)

module _ (parts : PartsOf) where
  pub kept_places : (places : List PlaceSeen) (pens : List (PenOf Entry)) → AreKept parts places pens → All (λ p. IsSeatOf parts.records p.seat) places × All (λ p. p.table ≡ parts.histories) pens
  kept_places = zipped (IsKeptPlace parts) (λ p. IsSeatOf parts.records p.seat) (λ p. p.table ≡ parts.histories) (λ place pen kept. (kept.found.0, kept.own))

  pub kept_vaults : (vaults : List VaultOf) (pens : List (PenOf VaultOf)) → AllZip (IsKeptVault parts) vaults pens → All (IsOpen parts) vaults × All (λ p. p.table ≡ parts.vaults) pens
  kept_vaults = zipped (IsKeptVault parts) (IsOpen parts) (λ p. p.table ≡ parts.vaults) (λ vault pen kept. (kept.1.1, kept.0))
