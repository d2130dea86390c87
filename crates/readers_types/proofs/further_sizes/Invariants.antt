-- `further_sizes` reads sizes while an opening bracket stands ahead.
use Rattle.readers_core.specs.Notation.{<◌>}
use Rattle.readers_core.proofs.Repetition.{Turning, remaining}
use Rattle.readers_types.proofs.further_sizes.Given as goal

abbrev pub invariant-loop-tokens : goal.invariant-loop-tokens
invariant-loop-tokens l = Turning < "fixed_array_size" > l.tokens.table.now l.initial.tree l.initial.sizes l.depth l.initial.sizes l.tree l.sizes

abbrev pub decreases-loop-tokens : goal.decreases-loop-tokens
decreases-loop-tokens l = remaining l.tokens.table.now l.sizes
