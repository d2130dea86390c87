-- Sets of numbers as lists, with tests that compute.
-- Assumes nothing: definitions.
use Rattle.std.specs.Prelude.{ℕ, zero, suc, Bool, true, false, not, ◌&&◌, List, [], ◌∷◌}
use Rattle.grammar.specs.Sets.{elem}
unfoldable pub use Rattle.grammar.proofs.Sets.{subset}

-- xs where b, and nothing else
unfoldable pub only : Bool → List ℕ → List ℕ
only true xs = xs
only false xs = []

-- n numbers in a row, from a on
unfoldable pub row : (a n : ℕ) → List ℕ
row a zero = []
row a (suc n) = a ∷ row (suc a) n

-- a test holds of each of these numbers
unfoldable pub each : (ℕ → Bool) → List ℕ → Bool
each f [] = true
each f (n ∷ ns) = f n && each f ns

unfoldable pub disjoint : List ℕ → List ℕ → Bool
unfolding elem
disjoint [] ys = true
disjoint (x ∷ xs) ys = not (elem x ys) && disjoint xs ys
