-- `parameter_dcls` reads rule 90 in a frame of its own: parameters or none, at one level of depth less.
-- Its calls are put together as its plan is. Assumes nothing.
use Rattle.readers_core.proofs.Computing.{computing}
use Rattle.grammar.specs.Names.{rule}
use Rattle.readers_core.proofs.Frames.{frame}
use Rattle.readers_core.proofs.Groups.{between}
use Rattle.readers_core.proofs.Sequence.{◌▸◌}
use mathlib.Core.Path.{refl}
use Rattle.readers_operations.proofs.parameter_dcls.Goals as goal

pub returns : goal.returns
unfolding computing
returns c =
    frame (rule "parameter_dcls")
    ((between c.open-inside.ensures c.inner.ensures c.parameters-listed.ensures
    c.take-closed.ensures).in_any _ _ ▸ c.node.ensures.wraps refl _ _ _ tt)
