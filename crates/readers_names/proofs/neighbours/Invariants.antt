-- `neighbours` reads tokens of one kind as long as one stands ahead.
use Rattle.readers_core.specs.Course.{Course}
use Rattle.readers_core.specs.Reading.{Reading}
use Prim.Native.Nat.{ℕ}
use Rattle.prediction.specs.plans.Plan.{token}
use Rattle.readers_core.proofs.Repetition.{Far, remaining}
use mathlib.Core.List.{List}
use Rattle.readers_names.proofs.neighbours.Given as goal

abbrev pub invariant-loop-kind : goal.invariant-loop-kind
invariant-loop-kind l =
    (R : Course) (d : ℕ) (w : List ℕ) (start : Reading) → Far R l.tokens.table.now d start (token l.kind) (l.fn.at, w) (l.strings, w)

abbrev pub decreases-loop-kind : goal.decreases-loop-kind
decreases-loop-kind l = remaining l.tokens.table.now l.strings
