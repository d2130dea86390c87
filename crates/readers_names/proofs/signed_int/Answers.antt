-- `signed_int` reads rule 55 in a frame of its own: the kind ahead tells the choice.
-- Its calls are put together as its plan is. Assumes nothing.
use Rattle.std.proofs.Common.{arith}
use Rattle.readers_core.proofs.Computing.{computing}
use Rattle.kinds.specs.Lists.{only}
use Rattle.grammar.specs.Names.{rule}
use Rattle.readers_core.proofs.Choosing.{among, except}
use Rattle.readers_core.proofs.Frames.{frame_on}
use Rattle.readers_core.proofs.Sequence.{◌▸◌, unrecorded}
use Rattle.readers_names.proofs.Words.{read_word}
use mathlib.Core.List.{[], ◌∷◌}
use mathlib.Core.Path.{refl}
use Rattle.readers_names.proofs.signed_int.Goals as goal

pub returns-in-SHORT : goal.returns-in-SHORT
unfolding computing
returns-in-SHORT c =
    record {
      at_any = λ d. frame_on (rule "signed_int") (among (only "short")) c.next_kind-next.ensures
          (omega arith) (read_word refl tt c.take-word.ensures c.node.ensures
          ▸ unrecorded tt);
    }

pub returns-in_default : goal.returns-in_default
unfolding computing
returns-in_default c =
    record {
      at_any = λ d. frame_on (rule "signed_int") (except (only "short" ∷ [])) c.next_kind-next.ensures
          (omega arith)
          ((((c.take-word-in_default.ensures.reads _ _).in_any _ _) ▸ (c.behind_long.ensures.at_any _))
          ▸ unrecorded tt);
    }
