-- The measures of the readers of expressions, and what the loop over operations keeps.
-- The remaining depth falls at "(", and at one depth the level rises with each operation.
use Rattle.std.proofs.Common.{◌≡◌, ℕ, ◌+◌, ◌-◌, ◌*◌, List, [], ◌∷◌, length}
use Prim.Native.String.{String}
use Rattle.grammar.specs.Notation.{place}
use Rattle.prediction.specs.plans.Plan.{call}
use Rattle.readers_core.proofs.Cycle.{ranks}
use Rattle.readers_core.proofs.Repetition.{remaining}
use Rattle.readers_core.specs.Course.{one}
use Rattle.readers_core.specs.Reading.{Reads}
use Rattle.readers_expressions.proofs.Climbing.{Ready}
use Rattle.readers_expressions.specs.Levels.{operand}
use Rattle.readers_expressions.proofs.+expressions.Given as goal

-- the readers of the cycle: at one depth each calls those before it, and binary itself at a higher level, by operation
abbrev rank : String → ℕ
rank w = place w ("parenthesized" ∷ "primary" ∷ "unary" ∷ "binary" ∷ [])

-- levels count twice: an operation stands between the reader that calls it and that of its right operand
abbrev climb : (depth level above : ℕ) → ℕ
climb depth level above = ranks * depth + (rank "binary" + (2 * (operand - level) + above))

abbrev pub decreases-binary : goal.decreases-binary
decreases-binary l = climb l.depth l.level 1

abbrev pub decreases-operation : goal.decreases-operation
decreases-operation l = climb l.depth l.level 0

abbrev pub decreases-parenthesized : goal.decreases-parenthesized
decreases-parenthesized l = ranks * l.depth + rank "parenthesized"

abbrev pub decreases-primary : goal.decreases-primary
decreases-primary l = ranks * l.depth + rank "primary"

abbrev pub decreases-unary : goal.decreases-unary
decreases-unary l = ranks * l.depth + rank "unary"

-- all before the value is ready for what is next, once the first operand was read
abbrev pub invariant-binary-loop-found : goal.invariant-binary-loop-found
invariant-binary-loop-found l =
    (length l.tree ≡ length l.initial.tree) ×
    ((w : List ℕ) → Reads one l.tokens.table.now l.fn.depth (call operand) (l.fn.at, w) (l.initial.value, l.initial.tree) →
    Ready l.tokens.table.now l.fn.depth l.fn.level (l.fn.at, w) (l.value, l.tree))

abbrev pub decreases-binary-loop-found : goal.decreases-binary-loop-found
decreases-binary-loop-found l = remaining l.tokens.table.now l.value
