-- The measures of the readers of definitions and modules, and what the loop over definitions keeps.
-- The remaining depth falls at the "{" of a module; at one depth the rank of the reader falls.
use Rattle.std.proofs.Common.{ℕ, ◌+◌, ◌*◌, [], ◌∷◌}
use Prim.Native.String.{String}
use Rattle.grammar.specs.Notation.{place}
use Rattle.readers_core.proofs.Cycle.{ranks}
use Rattle.readers_core.proofs.Repetition.{Beginning, remaining}
use Rattle.readers_core.specs.Notation.{<◌>}
use Rattle.readers_specification.proofs.+modules.Given as goal

-- the readers of the cycle: at one depth each calls those before it
abbrev rank : String → ℕ
rank w =
    place w
    ("module_definition" ∷ "defined" ∷ "definition" ∷ "definitions" ∷ [])

abbrev pub decreases-defined : goal.decreases-defined
decreases-defined l = ranks * l.depth + rank "defined"

abbrev pub decreases-definition : goal.decreases-definition
decreases-definition l = ranks * l.depth + rank "definition"

abbrev pub decreases-definitions : goal.decreases-definitions
decreases-definitions l = ranks * l.depth + rank "definitions"

abbrev pub decreases-module_definition : goal.decreases-module_definition
decreases-module_definition l = ranks * l.depth + rank "module_definition"

abbrev pub invariant-definitions-loop-last : goal.invariant-definitions-loop-last
invariant-definitions-loop-last l =
    Beginning < "definition" > l.tokens.table.now l.initial.tree l.initial.last l.depth l.initial.last l.tree l.last

abbrev pub decreases-definitions-loop-last : goal.decreases-definitions-loop-last
decreases-definitions-loop-last l = remaining l.tokens.table.now l.last
