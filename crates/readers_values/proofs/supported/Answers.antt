-- `supported` reads by its plan: "supports" tells that interfaces are there.
-- What the plan comes to is what was called. Assumes nothing.
use Rattle.std.proofs.Common.{arith}
use Rattle.readers_core.proofs.Computing.{computing}
use Rattle.kinds.specs.Lists.{only}
use Rattle.readers_core.proofs.Choosing.{among, except}
use Rattle.readers_core.proofs.Parts.{left_out, picked}
use mathlib.Core.List.{[], ◌∷◌}
use Rattle.readers_values.proofs.supported.Goals as goal

pub returns-in-SUPPORTS : goal.returns-in-SUPPORTS
unfolding computing
returns-in-SUPPORTS c =
    record { at_any = λ d. picked (among (only "supports")) c.next_kind-next.ensures (omega arith) (c.supports.ensures.at_any d) }

pub returns-in_default : goal.returns-in_default
unfolding computing
returns-in_default c =
    record {
      at_any = λ d. picked (except (only "supports" ∷ [])) c.next_kind-next.ensures (omega arith)
          left_out;
    }
