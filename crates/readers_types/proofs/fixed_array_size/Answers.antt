-- `fixed_array_size` reads rule 84 in a frame of its own.
-- Its calls are put together as its plan is. Assumes nothing.
use Rattle.readers_core.proofs.Computing.{computing}
use Rattle.grammar.specs.Names.{rule}
use Rattle.readers_core.proofs.Frames.{frame}
use Rattle.readers_core.proofs.Sequence.{◌▸◌}
use mathlib.Core.Path.{refl}
use Rattle.readers_types.proofs.fixed_array_size.Goals as goal

pub returns : goal.returns
unfolding computing
returns c =
    frame (rule "fixed_array_size") ((c.enclosed-size.ensures.in_any _ _)
    ▸ (c.node.ensures.wraps refl _ _ _ tt))
