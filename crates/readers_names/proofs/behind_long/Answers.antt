-- `behind_long` reads by its plan: the kind ahead tells the choice.
-- What the plan comes to is what was called. Assumes nothing.
use Rattle.std.proofs.Common.{arith}
use Rattle.readers_core.proofs.Computing.{computing}
use Rattle.kinds.specs.Lists.{only}
use Rattle.readers_core.proofs.Choosing.{among, except}
use Rattle.readers_core.proofs.Frames.{chosen}
use Rattle.readers_names.proofs.Words.{read_word}
use mathlib.Core.List.{[], ◌∷◌}
use mathlib.Core.Path.{refl}
use Rattle.readers_names.proofs.behind_long.Goals as goal

pub returns-in-LONG : goal.returns-in-LONG
unfolding computing
returns-in-LONG c =
    record {
      at_any = λ d. chosen (among (only "long")) c.next_kind-next.ensures (omega arith)
          (read_word refl tt c.take-word.ensures c.node.ensures);
    }

pub returns-in_default : goal.returns-in_default
unfolding computing
returns-in_default c =
    record {
      at_any = λ d. chosen (except (only "long" ∷ [])) c.next_kind-next.ensures (omega arith)
          (c.node-in_default.ensures.wraps refl _ _ _ tt);
    }
