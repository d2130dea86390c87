-- `interface_body` reads rule 8 in a frame of its own: its record is always written.
-- Its calls are put together as its plan is. Assumes nothing.
use Rattle.readers_core.proofs.Computing.{computing}
use Rattle.grammar.specs.Names.{rule}
use Rattle.readers_core.proofs.Frames.{frame}
use Rattle.readers_core.proofs.Sequence.{◌▸◌}
use mathlib.Core.Path.{refl}
use Rattle.readers_interfaces.proofs.interface_body.Goals as goal

pub returns : goal.returns
unfolding computing
returns c = frame (rule "interface_body") (c.exports-exports.ensures.in_any _ _ ▸ c.node.ensures.wraps refl _ _ _ tt)
