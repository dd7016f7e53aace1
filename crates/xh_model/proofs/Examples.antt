-- The worked examples of the comments of specs/Cover.antt, each proved by computing it.
use Rattle.std.proofs.Common.{◌≡◌, ℕ, List, [], ◌∷◌, refl, Option, Some, None}
use Rattle.xh_model.specs.Cover.{length_of, start_of, run_of, bytes_out, holes_of, first_fit, carved, cut_past, given_back}

-- 0, 0, nothing, nothing, nothing, 1, nothing, nothing
abbrev example : List (Option ℕ)
example = Some 0 ∷ Some 0 ∷ None ∷ None ∷ None ∷ Some 1 ∷ None ∷ None ∷ []

lengths : (length_of 0 example ≡ 2) × (length_of 2 example ≡ 0)
lengths = (refl, refl)

start : start_of 1 example ≡ 5
start = refl

runs : (run_of 0 example ≡ Some (0, 2)) × (run_of 2 example ≡ None)
unfolding run_of
runs = (refl, refl)

out : bytes_out example ≡ 3
out = refl

holes : holes_of example ≡ (2, 3) ∷ (6, 2) ∷ []
unfolding holes_of
holes = refl

fits : (first_fit 2 example ≡ Some 2) × (first_fit 4 example ≡ None)
unfolding first_fit
fits = (refl, refl)

-- record 2 gets the first 2 bytes that are free in a row
carving : carved 2 2 2 example ≡ Some 0 ∷ Some 0 ∷ Some 2 ∷ Some 2 ∷ None ∷ Some 1 ∷ None ∷ None ∷ []
unfolding carved
carving = refl

-- record 0 is cut after 1 byte, and record 3 has the rest
cutting : cut_past 0 3 1 example ≡ Some 0 ∷ Some 3 ∷ None ∷ None ∷ None ∷ Some 1 ∷ None ∷ None ∷ []
unfolding cut_past
cutting = refl

-- record 1 is given back
giving : given_back 1 example ≡ Some 0 ∷ Some 0 ∷ None ∷ None ∷ None ∷ None ∷ None ∷ None ∷ []
unfolding given_back
giving = refl
