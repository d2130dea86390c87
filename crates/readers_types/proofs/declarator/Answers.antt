-- `declarator` reads rule 50 in a frame of its own.
-- Its calls are put together as its plan is. Assumes nothing.
use Rattle.readers_core.proofs.Computing.{computing}
use Rattle.grammar.specs.Names.{rule}
use Rattle.readers_core.proofs.Frames.{frame}
use Rattle.readers_core.proofs.Sequence.{◌▸◌, unrecorded}
use Rattle.readers_types.proofs.declarator.Goals as goal

pub returns : goal.returns
unfolding computing
returns c =
    frame (rule "declarator") (((c.take-name.ensures.reads _ _).in_any _ _)
    ▸ c.behind_name.ensures ▸ unrecorded tt)
