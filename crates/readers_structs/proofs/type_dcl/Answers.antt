-- `type_dcl` reads rule 42: the kind ahead tells the choice.
-- A typedef or native type has a record of its own; else the node of what is declared is passed on. Assumes nothing.
use Rattle.std.proofs.Common.{arith}
use Rattle.grammar.specs.Names.{rule}
use Rattle.kinds.specs.Lists.{only}
use Rattle.readers_core.proofs.Choosing.{among, except}
use Rattle.readers_core.proofs.Computing.{computing}
use Rattle.readers_core.proofs.Frames.{frame_on, passed_on}
use Rattle.readers_core.proofs.Sequence.{◌▸◌, unrecorded}
use mathlib.Core.List.{[], ◌∷◌}
use mathlib.Core.Path.{refl}
use Rattle.readers_structs.proofs.type_dcl.Goals as goal

pub returns-in-TYPEDEF : goal.returns-in-TYPEDEF
unfolding computing
returns-in-TYPEDEF c =
    frame_on (rule "type_dcl") (among (only "typedef")) c.next_kind-next.ensures (omega arith)
    ((((c.take-word.ensures.reads _ _).in_any _ _) ▸
    (c.type_declarator-types.ensures.in_any _ _)) ▸ (c.node.ensures.wraps refl _ _ _ tt))

pub returns-in-STRUCT : goal.returns-in-STRUCT
unfolding computing
returns-in-STRUCT c =
    frame_on (rule "type_dcl") (among (only "struct")) c.next_kind-next.ensures (omega arith)
    ((c.struct_dcl.ensures.of_any _) ▸ unrecorded tt)

pub returns-in-UNION : goal.returns-in-UNION
unfolding computing
returns-in-UNION c =
    frame_on (rule "type_dcl") (among (only "union")) c.next_kind-next.ensures (omega arith)
    ((c.union_dcl.ensures.of_any _) ▸ unrecorded tt)

pub returns-in-ENUM : goal.returns-in-ENUM
unfolding computing
returns-in-ENUM c =
    passed_on (rule "type_dcl") (among (only "enum")) c.next_kind-next.ensures (omega arith) refl tt
    c.enum_type.ensures

pub returns-in_default : goal.returns-in_default
unfolding computing
returns-in_default c =
    frame_on (rule "type_dcl") (except (only "enum" ∷ only "union" ∷ only "struct" ∷ only "typedef" ∷ []))
    c.next_kind-next.ensures (omega arith)
    ((((c.take-word-in_default.ensures.reads _ _).in_any _ _) ▸
    (((c.one_token-name.ensures.reads refl refl).at_any _).in_any _ _)) ▸
    (c.node-in_default.ensures.wraps refl _ _ _ tt))
