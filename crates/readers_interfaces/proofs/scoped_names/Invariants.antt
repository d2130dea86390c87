-- `scoped_names` reads names with commas between them, by any rule that is a scoped name alone and so leaves no record.
use Prim.Native.Nat.{ℕ}
use Rattle.readers_core.specs.Course.{one}
use Rattle.readers_core.proofs.Repetition.{Far, remaining}
use Rattle.readers_core.specs.Reading.{Reading}
use Rattle.readers_interfaces.specs.Plans.{Names}
use Rattle.readers_core.specs.Notation.{behind_comma}
use lib.ListN.{length}
use mathlib.Core.Path.{◌≡◌}
use Rattle.readers_interfaces.proofs.scoped_names.Given as goal

-- what the loop keeps: the length of the tree table, and the names so far, by any such rule
abbrev pub invariant-loop-tokens : goal.invariant-loop-tokens
invariant-loop-tokens l =
    (length l.tree ≡ length l.initial.tree) ×
    ((n d : ℕ) (start : Reading) → Names n → Far one l.tokens.table.now d start (behind_comma n) (l.initial.names, l.initial.tree) (l.names, l.tree))

abbrev pub decreases-loop-tokens : goal.decreases-loop-tokens
decreases-loop-tokens l = remaining l.tokens.table.now l.names
