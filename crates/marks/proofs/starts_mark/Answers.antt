-- `marks::starts_mark` meets its contract: the bytes of its ranges start a mark, and no others.
-- With the bounds that the code has, that is one test computed at every byte. Assumes nothing.
use mathlib.Core.Bool.{Bool, ◌||◌}
use mathlib.Core.Path.{◌≡◌}
use Prim.Native.Nat.{ℕ, ◌<◌}
use native.Mathlib.Omega.{arith}
use lib.Dec.{T, eqb}
use Rattle.kinds.specs.Kinds.{mark}
use Rattle.text.specs.Bytes.{from, end}
use Rattle.text.proofs.Ranges.{agree, agreed, every, every_at}
use Rattle.marks.specs.Starts.{starts_mark}
use Rattle.marks.proofs.starts_mark.Goals as goal

module _ (lo₁ hi₁ lo₂ hi₂ k₁ lo₃ hi₃ k₂ lo₄ hi₄ lo₅ hi₅ : ℕ) where
  -- five ranges and two bytes
  abbrev ranges : ℕ → Bool
  ranges b = (((((from lo₁ hi₁ b || from lo₂ hi₂ b) || eqb b k₁) || from lo₃ hi₃ b) || eqb b k₂) || from lo₄ hi₄ b) || from lo₅ hi₅ b

  tested : T (every (λ b. agree (ranges b) (starts_mark b)) 0 end) → (b : ℕ) → b < end → ranges b ≡ starts_mark b
  tested t b h = agreed (ranges b) (starts_mark b) (every_at (λ b. agree (ranges b) (starts_mark b)) 0 end t (omega arith) h)

pub returns : goal.returns
unfolding mark
returns c = tested _ _ _ _ _ _ _ _ _ _ _ _ tt c.args.byte (omega arith)
