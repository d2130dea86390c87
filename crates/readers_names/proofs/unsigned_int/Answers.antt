-- `unsigned_int` reads rule 59 in a frame of its own.
-- Its calls are put together as its plan is. Assumes nothing.
use Rattle.readers_core.proofs.Computing.{computing}
use Rattle.grammar.specs.Names.{rule}
use Rattle.readers_core.proofs.Frames.{frame}
use Rattle.readers_core.proofs.Sequence.{◌▸◌, unrecorded}
use Rattle.readers_names.proofs.unsigned_int.Goals as goal

pub returns : goal.returns
unfolding computing
returns c =
    record {
      at_any = λ d. frame (rule "unsigned_int") (((c.take-word.ensures.reads _ _).in_any _ _)
          ▸ ((c.behind_unsigned.ensures.at_any _).of_any _) ▸ unrecorded tt);
    }
