-- `further_names` reads the steps behind a name: each turn is one more, and the steps end where no "::" stands ahead.
use Prim.Native.Nat.{ℕ}
use Rattle.readers_core.proofs.Repetition.{Far, remaining}
use Rattle.readers_names.specs.Plans.{further_name}
use Rattle.readers_core.specs.Course.{one}
use lib.ListN.{length}
use mathlib.Core.Path.{◌≡◌}
use Rattle.readers_names.proofs.further_names.Given as goal

abbrev pub invariant-loop-start : goal.invariant-loop-start
invariant-loop-start l =
    (length l.tree ≡ length l.initial.tree) × ((d : ℕ) → Far one l.tokens.table.now d l.start further_name (l.initial.names, l.initial.tree) (l.names, l.tree))

abbrev pub decreases-loop-start : goal.decreases-loop-start
decreases-loop-start l = remaining l.tokens.table.now l.names
