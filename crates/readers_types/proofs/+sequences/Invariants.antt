-- The measures of the readers of a sequence and of the types that it may hold.
-- The remaining depth falls at the opening mark of a sequence; at one depth the rank of the reader falls.
use Rattle.std.proofs.Common.{ℕ, ◌+◌, ◌*◌, [], ◌∷◌}
use Prim.Native.String.{String}
use Rattle.grammar.specs.Notation.{place}
use Rattle.readers_core.proofs.Cycle.{ranks}
use Rattle.readers_types.proofs.+sequences.Given as goal

-- the readers of the cycle: at one depth each calls those before it
abbrev rank : String → ℕ
rank w =
    place w
    ("sequence_body" ∷ "sequence_type" ∷ "template_type_spec" ∷ "simple_type_spec" ∷ [])

abbrev pub decreases-sequence_body : goal.decreases-sequence_body
decreases-sequence_body l = ranks * l.depth + rank "sequence_body"

abbrev pub decreases-sequence_type : goal.decreases-sequence_type
decreases-sequence_type l = ranks * l.depth + rank "sequence_type"

abbrev pub decreases-simple_type_spec : goal.decreases-simple_type_spec
decreases-simple_type_spec l = ranks * l.depth + rank "simple_type_spec"

abbrev pub decreases-template_type_spec : goal.decreases-template_type_spec
decreases-template_type_spec l = ranks * l.depth + rank "template_type_spec"
