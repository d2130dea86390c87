-- `specification` reads rule 1 in a frame of its own: its record is always written.
-- Its calls are put together as its plan is. Assumes nothing.
use Rattle.readers_core.proofs.Computing.{computing}
use Rattle.grammar.specs.Names.{rule}
use Rattle.readers_core.proofs.Frames.{frame}
use Rattle.readers_core.proofs.Lines.{◌▸▸◌, append}
use mathlib.Core.Path.{refl}
use Rattle.readers_specification.proofs.specification.Goals as goal

pub returns : goal.returns
unfolding computing append
returns c = frame (rule "specification") (c.definitions-definitions.ensures.in_any _ _ ▸▸ c.node.ensures.wraps refl _ _ _ tt)
