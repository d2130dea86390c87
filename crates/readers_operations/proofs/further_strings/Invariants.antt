-- `further_strings` reads string literals while a comma stands ahead.
use Rattle.kinds.specs.Kinds.{kind_of, string}
use Prim.Native.Nat.{ℕ}
use Rattle.prediction.specs.plans.Plan.{seq, token}
use Rattle.readers_core.specs.Course.{Course}
use Rattle.readers_core.specs.Reading.{Reading}
use Rattle.readers_core.proofs.Repetition.{Far, remaining}
use Rattle.readers_names.specs.Plans.{string_literal}
use mathlib.Core.List.{List}
use Rattle.readers_operations.proofs.further_strings.Given as goal

abbrev pub invariant-loop-tokens : goal.invariant-loop-tokens
invariant-loop-tokens l =
    (R : Course) (d : ℕ) (w : List ℕ) (start : Reading) →
    Far R l.tokens.table.now d start (seq (token (kind_of ",")) (string_literal string)) (l.initial.listed, w) (l.listed, w)

abbrev pub decreases-loop-tokens : goal.decreases-loop-tokens
decreases-loop-tokens l = remaining l.tokens.table.now l.listed
