-- `long_number` reads by its plan: "double" tells the first choice, and else the second is taken.
-- What the plan comes to is what was called. Assumes nothing.
use Rattle.std.proofs.Common.{arith}
use Rattle.readers_core.proofs.Computing.{computing}
use Rattle.kinds.specs.Lists.{only}
use Rattle.readers_core.proofs.Choosing.{among, except}
use Rattle.readers_core.proofs.Frames.{chosen}
use Rattle.readers_core.proofs.Sequence.{◌▸◌, unrecorded}
use Rattle.readers_names.proofs.Words.{read_word}
use mathlib.Core.List.{[], ◌∷◌}
use mathlib.Core.Path.{refl}
use Rattle.readers_names.proofs.long_number.Goals as goal

pub returns-in-DOUBLE : goal.returns-in-DOUBLE
unfolding computing
returns-in-DOUBLE c =
    record {
      at_any = λ d. chosen (among (only "double")) c.next_kind-next.ensures (omega arith)
          (read_word refl tt c.take-word.ensures c.node.ensures);
    }

pub returns-in_default : goal.returns-in_default
unfolding computing
returns-in_default c =
    record {
      at_any = λ d. chosen (except (only "double" ∷ [])) c.next_kind-next.ensures (omega arith)
          ((c.behind_long.ensures.at_any _) ▸ unrecorded tt ▸ unrecorded tt);
    }
