-- `one_token` reads a rule that is one token, in a frame of its own, by whatever plan of that form the rule has.
-- Its calls are put together as its plan is. Assumes nothing.
use Rattle.readers_core.proofs.Computing.{computing}
use Rattle.readers_core.proofs.Frames.{frame_by}
use Rattle.readers_names.proofs.Words.{read_word}
use Rattle.readers_names.proofs.one_token.Goals as goal

pub returns : goal.returns
unfolding computing
returns c =
    record {
      reads = λ e q. record { at_any = λ d. frame_by _ q (read_word e tt c.take-token.ensures c.node.ensures) };
    }
