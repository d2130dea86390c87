-- `init_dcl` reads rule 23 in a frame of its own.
-- Its calls are put together as its plan is. Assumes nothing.
use Rattle.readers_core.proofs.Computing.{computing}
use Rattle.grammar.specs.Names.{rule}
use Rattle.readers_core.proofs.Frames.{frame}
use Rattle.readers_core.proofs.Groups.{between}
use Rattle.readers_core.proofs.Sequence.{◌▸◌}
use mathlib.Core.Path.{refl}
use Rattle.readers_values.proofs.init_dcl.Goals as goal

pub returns : goal.returns
unfolding computing
returns c =
    frame (rule "init_dcl") ((c.take-word.ensures.reads _ _).in_any _ _ ▸ (c.take-name.ensures.reads _ _).in_any _ _ ▸
    (between c.open-inside.ensures c.inner.ensures c.parameters-parameters.ensures c.take-closed.ensures).in_any _ _ ▸
    (c.take-end.ensures.reads _ _).in_any _ _ ▸ c.node.ensures.wraps refl _ _ _ tt)
