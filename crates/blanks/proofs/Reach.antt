-- How far a comment reaches: past its first byte, and not past the end of the text.
-- A run and the search of */ stay in the rest after the first two bytes. Assumes nothing.
use mathlib.Core.Bool.{Bool, true, false, ◌&&◌, cond}
use mathlib.Core.List.{List, [], ◌∷◌}
use Prim.Native.Char.{code}
use lib.Dec.{eqb}
use Rattle.std.specs.Prelude.{Option, Some, None, IfSome}
use Rattle.std.specs.Option.{option_map}
use Prim.Native.Nat.{ℕ, suc, ◌+◌, ◌≤◌}
use native.Mathlib.Omega.{arith}
use lib.ListN.{length, drop, length-drop}
use Rattle.text.specs.Bytes.{in_line}
use Rattle.text.specs.Blanks.{line_comment, block_comment, closed, to_close}
use Rattle.text.proofs.Runs.{run_within}
use Rattle.text.proofs.Sizes.{Sized}
use Rattle.blanks.specs.Ends.{closes}

-- the end of the next */ lies in the text
pub close_within : (bs : List ℕ) → IfSome (to_close bs) (λ n. n ≤ length bs)
unfolding to_close
close_within [] = tt
close_within (b ∷ []) = step (eqb b (code "*"))
  where
    step : (x : Bool) → IfSome (cond (x && false) (Some 2) None) (λ n. n ≤ 1)
    step true = tt
    step false = tt
close_within (b ∷ c ∷ bs) = step (closes (b ∷ c ∷ bs)) (to_close (c ∷ bs)) (close_within (c ∷ bs))
  where
    step : (x : Bool) (found : Option ℕ) → IfSome found (λ n. n ≤ suc (length bs)) →
        IfSome (cond x (Some 2) (option_map suc found)) (λ n. n ≤ suc (suc (length bs)))
    step true found h = omega arith
    step false None h = tt
    step false (Some n) h = omega arith

closed_sized : (found : Option ℕ) (most : ℕ) → IfSome found (λ n. 2 + n ≤ most) → Sized most (closed found)
unfolding closed
closed_sized None most h = tt
closed_sized (Some n) most h = (omega arith, h)

module _ (bs : List ℕ) (two : 2 ≤ length bs) where
  pub line_comment_sized : Sized (length bs) (line_comment bs)
  unfolding line_comment
  line_comment_sized = omega (arith, run_within in_line (drop 2 bs), length-drop 2 bs)

  pub block_comment_sized : Sized (length bs) (block_comment bs)
  unfolding block_comment
  block_comment_sized = closed_sized (to_close (drop 2 bs)) (length bs) (go (to_close (drop 2 bs)) (close_within (drop 2 bs)))
    where
      go : (found : Option ℕ) → IfSome found (λ n. n ≤ length (drop 2 bs)) → IfSome found (λ n. 2 + n ≤ length bs)
      go None h = tt
      go (Some n) h = omega (arith, length-drop 2 bs)
