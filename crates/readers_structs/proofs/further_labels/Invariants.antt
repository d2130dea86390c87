-- `further_labels` reads labels while one stands ahead.
use Rattle.readers_core.proofs.Repetition.{Turning}
use Rattle.readers_core.specs.Notation.{<◌>}
use Rattle.readers_core.proofs.Repetition.{remaining}
use Rattle.readers_structs.proofs.further_labels.Given as goal

abbrev pub invariant-loop-tokens : goal.invariant-loop-tokens
invariant-loop-tokens l = Turning (< "case_label" >) l.tokens.table.now l.initial.tree l.initial.last l.depth l.initial.last l.tree l.last

abbrev pub decreases-loop-tokens : goal.decreases-loop-tokens
decreases-loop-tokens l = remaining l.tokens.table.now l.last
