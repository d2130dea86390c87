-- `enum_type` reads rule 78 in a frame of its own.
-- Its calls are put together as its plan is. Assumes nothing.
use Rattle.readers_core.proofs.Computing.{computing}
use Rattle.grammar.specs.Names.{rule}
use Rattle.readers_core.proofs.Frames.{frame}
use Rattle.readers_core.proofs.Sequence.{◌▸◌}
use mathlib.Core.Path.{refl}
use Rattle.readers_types.proofs.enum_type.Goals as goal

pub returns : goal.returns
unfolding computing
returns c =
    frame (rule "enum_type") (((c.take-word.ensures.reads _ _).in_any _ _)
    ▸ ((c.take-name.ensures.reads _ _).in_any _ _)
    ▸ (c.enumerators-body.ensures.in_any _ _) ▸ (c.node.ensures.wraps refl _ _ _ tt))
