-- `exports` reads the repetition of rule 9: each turn is one more, and it ends where no export can begin.
use Rattle.readers_core.proofs.Repetition.{Turning}
use Rattle.readers_core.specs.Notation.{<◌>}
use Rattle.readers_core.proofs.Repetition.{remaining}
use Rattle.readers_interfaces.proofs.exports.Given as goal

abbrev pub invariant-loop-tokens : goal.invariant-loop-tokens
invariant-loop-tokens l = Turning < "export" > l.tokens.table.now l.initial.tree l.initial.read l.depth l.initial.read l.tree l.read

abbrev pub decreases-loop-tokens : goal.decreases-loop-tokens
decreases-loop-tokens l = remaining l.tokens.table.now l.read
