-- `fixed_pt_type` reads rule 96 in a frame of its own.
-- Its calls are put together as its plan is. Assumes nothing.
use Rattle.readers_core.proofs.Computing.{computing}
use Rattle.grammar.specs.Names.{rule}
use Rattle.readers_core.proofs.Frames.{frame}
use Rattle.readers_core.proofs.Sequence.{◌▸◌}
use mathlib.Core.Path.{refl}
use Rattle.readers_types.proofs.fixed_pt_type.Goals as goal

pub returns : goal.returns
unfolding computing
returns c =
    frame (rule "fixed_pt_type") (((c.take-word.ensures.reads _ _).in_any _ _)
    ▸ (c.fixed_bounds-bounds.ensures.in_any _ _)
    ▸ (c.node.ensures.wraps refl _ _ _ tt))
