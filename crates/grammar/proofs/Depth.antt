-- Depth never exceeds the number of tokens before.
-- By induction on the tokens: each opens one at most.
use Prim.Native.Nat.{ℕ, zero, suc, ◌≤◌, pred}
use mathlib.Core.Bool.{Bool, true, false}
use native.Mathlib.Omega.{arith}
use Rattle.grammar.specs.Depth.{opening, closing, level, depth}

pred_below : (n m : ℕ) → n ≤ m → pred n ≤ suc m
pred_below n m h = omega arith

pub depth_bounded : (s : ℕ → ℕ) (q : ℕ) → depth s q ≤ q
unfolding depth level
depth_bounded s zero = omega arith
depth_bounded s (suc q) = go (opening (s q)) (closing (s q)) (depth_bounded s q)
  where
    go : (a b : Bool) → depth s q ≤ q → level a b (depth s q) ≤ suc q
    go true b h = omega arith
    go false true h = pred_below (depth s q) q h
    go false false h = omega arith
