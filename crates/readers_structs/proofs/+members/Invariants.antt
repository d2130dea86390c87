-- The measures of the readers of types and of what types hold, and what their loops keep.
-- The remaining depth falls at each opening mark; at one depth the rank of the reader falls.
use Rattle.std.proofs.Common.{ℕ, ◌+◌, ◌*◌, [], ◌∷◌}
use Prim.Native.String.{String}
use Rattle.grammar.specs.Notation.{place}
use Rattle.readers_core.proofs.Cycle.{ranks}
use Rattle.readers_core.proofs.Repetition.{Turning, remaining}
use Rattle.readers_core.specs.Notation.{<◌>}
use Rattle.readers_structs.proofs.+members.Given as goal

-- the readers of the cycle: at one depth each calls those before it
abbrev rank : String → ℕ
rank w =
    place w
    ("struct_body" ∷ "switch_block" ∷ "struct_type" ∷ "union_rest" ∷ "union_type" ∷ "constr_type_spec" ∷ "type_spec" ∷ "element_spec" ∷
    "member" ∷ "further_members" ∷ "member_list" ∷ "case_clause" ∷ "further_cases" ∷ "switch_body" ∷ [])

abbrev pub decreases-case_clause : goal.decreases-case_clause
decreases-case_clause l = ranks * l.depth + rank "case_clause"

abbrev pub decreases-constr_type_spec : goal.decreases-constr_type_spec
decreases-constr_type_spec l = ranks * l.depth + rank "constr_type_spec"

abbrev pub decreases-element_spec : goal.decreases-element_spec
decreases-element_spec l = ranks * l.depth + rank "element_spec"

abbrev pub decreases-further_cases : goal.decreases-further_cases
decreases-further_cases l = ranks * l.depth + rank "further_cases"

abbrev pub decreases-further_members : goal.decreases-further_members
decreases-further_members l = ranks * l.depth + rank "further_members"

abbrev pub decreases-member : goal.decreases-member
decreases-member l = ranks * l.depth + rank "member"

abbrev pub decreases-member_list : goal.decreases-member_list
decreases-member_list l = ranks * l.depth + rank "member_list"

abbrev pub decreases-struct_body : goal.decreases-struct_body
decreases-struct_body l = ranks * l.depth + rank "struct_body"

abbrev pub decreases-struct_type : goal.decreases-struct_type
decreases-struct_type l = ranks * l.depth + rank "struct_type"

abbrev pub decreases-switch_block : goal.decreases-switch_block
decreases-switch_block l = ranks * l.depth + rank "switch_block"

abbrev pub decreases-switch_body : goal.decreases-switch_body
decreases-switch_body l = ranks * l.depth + rank "switch_body"

abbrev pub decreases-type_spec : goal.decreases-type_spec
decreases-type_spec l = ranks * l.depth + rank "type_spec"

abbrev pub decreases-union_rest : goal.decreases-union_rest
decreases-union_rest l = ranks * l.depth + rank "union_rest"

abbrev pub decreases-union_type : goal.decreases-union_type
decreases-union_type l = ranks * l.depth + rank "union_type"

abbrev pub invariant-further_cases-loop-tokens : goal.invariant-further_cases-loop-tokens
invariant-further_cases-loop-tokens l = Turning < "case" > l.tokens.table.now l.initial.tree l.initial.last l.depth l.initial.last l.tree l.last

abbrev pub decreases-further_cases-loop-tokens : goal.decreases-further_cases-loop-tokens
decreases-further_cases-loop-tokens l = remaining l.tokens.table.now l.last

abbrev pub invariant-further_members-loop-tokens : goal.invariant-further_members-loop-tokens
invariant-further_members-loop-tokens l = Turning < "member" > l.tokens.table.now l.initial.tree l.initial.last l.depth l.initial.last l.tree l.last

abbrev pub decreases-further_members-loop-tokens : goal.decreases-further_members-loop-tokens
decreases-further_members-loop-tokens l = remaining l.tokens.table.now l.last
