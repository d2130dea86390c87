-- Sets of numbers as lists.
-- Assumes nothing: a definition.
use Rattle.std.specs.Prelude.{ℕ, Bool, false, ◌||◌, List, [], ◌∷◌, eqb}

-- k stands in the list
unfoldable pub elem : ℕ → List ℕ → Bool
elem k [] = false
elem k (x ∷ xs) = eqb k x || elem k xs
