-- `boolean_literal` reads rule 40 in a frame of its own: the kind ahead tells the choice.
-- Its calls are put together as its plan is. Assumes nothing.
use Rattle.std.proofs.Common.{arith}
use Rattle.readers_core.proofs.Computing.{computing}
use Rattle.kinds.specs.Lists.{only}
use Rattle.grammar.specs.Names.{rule}
use Rattle.readers_core.proofs.Choosing.{among, except}
use Rattle.readers_core.proofs.Frames.{frame_on}
use Rattle.readers_names.proofs.Words.{read_word}
use mathlib.Core.List.{[], ◌∷◌}
use mathlib.Core.Path.{refl}
use Rattle.readers_names.proofs.boolean_literal.Goals as goal

pub returns-in-TRUE : goal.returns-in-TRUE
unfolding computing
returns-in-TRUE c =
    record {
      at_any = λ d. frame_on (rule "boolean_literal") (among (only "TRUE")) c.next_kind-next.ensures
          (omega arith) (read_word refl tt c.take-word.ensures c.node.ensures);
    }

pub returns-in_default : goal.returns-in_default
unfolding computing
returns-in_default c =
    record {
      at_any = λ d. frame_on (rule "boolean_literal") (except (only "TRUE" ∷ [])) c.next_kind-next.ensures
          (omega arith) (read_word refl tt c.take-word-in_default.ensures c.node-in_default.ensures);
    }
