use Rattle.xh_kernel.proofs.Common.{Entry, PenOf, StartsWith, at, get_or, ℕ, ◌<◌, ◌≡◌}
use Rattle.xh_kernel.proofs.finishing.compare_look.Given as goal

abbrev pub invariant-loop-pen : goal.invariant-loop-pen
invariant-loop-pen l =
    (l.pens ≡ l.fn.pens) × (l.look ≡ l.fn.look)
    × ((k : ℕ) → k < l.pen-index → (d : PenOf Entry) → StartsWith (get_or l.fn.pens k d).history (at l.fn.look.fronts (get_or l.fn.pens k d).number))
