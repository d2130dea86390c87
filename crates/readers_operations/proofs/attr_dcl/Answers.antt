-- `attr_dcl` reads rule 85 in a frame of its own.
-- Its calls are put together as its plan is. Assumes nothing.
use Rattle.readers_core.proofs.Computing.{computing}
use Rattle.grammar.specs.Names.{rule}
use Rattle.readers_core.proofs.Frames.{frame}
use Rattle.readers_core.proofs.Lines.{◌▸▸◌, append}
use Rattle.readers_core.proofs.Sequence.{◌▸◌}
use mathlib.Core.Path.{refl}
use Rattle.readers_operations.proofs.attr_dcl.Goals as goal

pub returns : goal.returns
unfolding computing append
returns c =
    frame (rule "attr_dcl") ((c.readonly-word.ensures.reads _ _).in_any _ _ ▸
    (c.take-words.ensures.reads _ _).in_any _ _ ▸ c.param_type_spec-spec.ensures.in_any _ _ ▸
    (c.list-names.ensures.in_any _ _ ▸▸ c.node.ensures.wraps refl _ _ _ tt))
