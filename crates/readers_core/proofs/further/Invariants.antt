-- `further` reads the rest of a list while a comma stands ahead.
use Rattle.readers_core.proofs.Repetition.{Turning, remaining}
use Rattle.readers_core.specs.Notation.{behind_comma}
use Rattle.readers_core.proofs.further.Given as goal

abbrev pub invariant-loop-tokens : goal.invariant-loop-tokens
invariant-loop-tokens g l =
    Turning (behind_comma g.P.Part.rule) l.tokens.table.now l.initial.tree l.initial.last l.depth l.initial.last l.tree l.last

abbrev pub decreases-loop-tokens : goal.decreases-loop-tokens
decreases-loop-tokens g l = remaining l.tokens.table.now l.last
