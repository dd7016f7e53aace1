-- Several records, or several events.
use Rattle.std.specs.Prelude.{ℕ, ◌==◌, ◌||◌, Bool, false, List, [], ◌∷◌}
use Rattle.std.specs.List.{count_by, list_any}
use Rattle.xh_model.specs.declared.event.Event.TheVariants.{Pass, Accept}
use Rattle.xh_model.specs.Store.{Store, after}

-- how often r stands in a list
abbrev pub times : ℕ → List ℕ → ℕ
times r rs = count_by (λ q. q == r) rs

-- whether a record stands twice among these
abbrev pub has_twice : List ℕ → Bool
has_twice [] = false
has_twice (r ∷ rs) = list_any (λ q. q == r) rs || has_twice rs

-- the end t is passed on its own direction d, and accepted by q
abbrev pub handed : ℕ → ℕ → ℕ → ℕ → Store → Store
handed p q t d s = after (Accept q t d) (after (Pass p t d) s)
