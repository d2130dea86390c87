-- `op_type_spec` reads rule 89: "void" in a frame of its own, or a type, whose node is passed on.
-- The kind ahead tells which. Assumes nothing.
use Rattle.readers_core.proofs.Equality.{differs, same}
use Rattle.readers_core.proofs.Computing.{computing}
use Rattle.kinds.specs.Lists.{only}
use Rattle.grammar.specs.Names.{rule}
use Rattle.readers_core.proofs.Frames.{frame_on, passed_on}
use Rattle.readers_core.proofs.Choosing.{among, except}
use Rattle.readers_core.proofs.Sequence.{◌▸◌}
use mathlib.Core.List.{[], ◌∷◌}
use mathlib.Core.Path.{refl}
use Rattle.readers_operations.proofs.op_type_spec.Goals as goal

pub returns-then-eq : goal.returns-then-eq
unfolding computing
returns-then-eq c =
    frame_on (rule "op_type_spec") (among (only "void")) c.next_kind-next.ensures (same c.eq.ensures c.if-eq.true)
    ((c.take-word.ensures.reads _ _).in_any _ _ ▸ c.node.ensures.wraps refl _ _ _ tt)

pub returns : goal.returns
unfolding computing
returns c =
    passed_on (rule "op_type_spec") (except (only "void" ∷ [])) c.next_kind-next.ensures (tt, (differs c.eq.ensures c.if-eq.false)) refl tt
    c.param_type_spec.ensures
