-- Laws of forests side by side: their widths and their nodes add up.
-- By induction on the second forest.
use Prim.Native.Nat.{◌+◌}
use mathlib.Core.Path.{◌≡◌, refl, ap, sym}
use native.Mathlib.Nat.{add-zero}
use native.Mathlib.Omega.{arith}
use Rattle.grammar.specs.Forest.{Forest, end, leaf, node, join, width, nodes}

pub join_end : (f : Forest) → join end f ≡ f
unfolding join
join_end end = refl
join_end (leaf f k) = ap (λ (x : Forest). leaf x k) (join_end f)
join_end (node f r c) = ap (λ (x : Forest). node x r c) (join_end f)

pub width_join : (f g : Forest) → width (join f g) ≡ width f + width g
unfolding width join
width_join f end = sym (add-zero (width f))
width_join f (leaf g k) = let h = width_join f g in omega arith
width_join f (node g r c) = let h = width_join f g in omega arith

pub nodes_join : (f g : Forest) → nodes (join f g) ≡ nodes f + nodes g
unfolding nodes join
nodes_join f end = omega arith
nodes_join f (leaf g k) = nodes_join f g
nodes_join f (node g r c) = let h = nodes_join f g in omega arith
