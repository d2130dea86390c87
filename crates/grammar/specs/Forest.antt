-- Forests, what a derivation makes: a leaf is a token by its kind, a node a use of a rule over its children.
-- The last tree stands outermost. Assumes nothing: these are definitions.
use Rattle.std.specs.Prelude.{ℕ, suc, ◌+◌, List, [], ◌∷◌, ◌++◌}

pub data Forest : Type 0 where
  end : Forest
  leaf : Forest → ℕ → Forest
  node : Forest → ℕ → Forest → Forest

-- the trees of the first, then those of the second
unfoldable pub join : Forest → Forest → Forest
join f end = f
join f (leaf g k) = leaf (join f g) k
join f (node g r c) = node (join f g) r c

-- the kinds of the leaves, left to right
unfoldable pub leaves : Forest → List ℕ
leaves end = []
leaves (leaf f k) = leaves f ++ k ∷ []
leaves (node f r c) = leaves f ++ leaves c

-- the number of leaves: tokens
unfoldable pub width : Forest → ℕ
width end = 0
width (leaf f k) = suc (width f)
width (node f r c) = width f + width c

-- the number of nodes: uses of rules
unfoldable pub nodes : Forest → ℕ
nodes end = 0
nodes (leaf f k) = nodes f
nodes (node f r c) = suc (nodes f + nodes c)
