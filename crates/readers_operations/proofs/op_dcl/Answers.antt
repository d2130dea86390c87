-- `op_dcl` reads rule 87 in a frame of its own.
-- Its calls are put together as its plan is. Assumes nothing.
use Rattle.readers_core.proofs.Computing.{computing}
use Rattle.grammar.specs.Names.{rule}
use Rattle.readers_core.proofs.Frames.{frame}
use Rattle.readers_core.proofs.Sequence.{◌▸◌}
use mathlib.Core.Path.{◌∙◌, refl}
use Rattle.readers_operations.proofs.op_dcl.Goals as goal

pub shape_of-tree : goal.shape_of-tree
shape_of-tree c =
    c.node.auto.tree ∙ c.context-whole.auto.tree ∙ c.raises-raising.auto.tree ∙
    c.parameter_dcls-taking.auto.tree ∙ c.op_type_spec-spec.auto.tree ∙
    c.oneway-attribute.auto.tree

pub returns : goal.returns
unfolding computing
returns c =
    frame (rule "op_dcl") ((c.oneway-attribute.ensures.at_any _).in_any _ _ ▸
    c.op_type_spec-spec.ensures.in_any _ _ ▸ (c.take-name.ensures.reads _ _).in_any _ _ ▸
    c.parameter_dcls-taking.ensures.in_any _ _ ▸ c.raises-raising.ensures.in_any _ _ ▸
    c.context-whole.ensures.in_any _ _ ▸ c.node.ensures.wraps refl _ _ _ tt)
