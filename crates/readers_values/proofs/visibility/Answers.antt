-- `visibility` reads by its plan: one of two words.
-- What the plan comes to is what was called. Assumes nothing.
use Rattle.std.proofs.Common.{arith}
use Rattle.readers_core.proofs.Computing.{computing}
use Rattle.kinds.specs.Lists.{only}
use Rattle.readers_core.proofs.Choosing.{among, except}
use Rattle.readers_core.proofs.Parts.{picked}
use mathlib.Core.List.{[], ◌∷◌}
use Rattle.readers_values.proofs.visibility.Goals as goal

pub returns-in-PUBLIC : goal.returns-in-PUBLIC
unfolding computing
returns-in-PUBLIC c =
    record { reads = λ d w. picked (among (only "public")) c.next_kind-next.ensures (omega arith) (c.take.ensures.reads d w) }

pub returns-in_default : goal.returns-in_default
unfolding computing
returns-in_default c =
    record {
      reads = λ d w. picked (except (only "public" ∷ [])) c.next_kind-next.ensures (omega arith)
          (c.take-in_default.ensures.reads d w);
    }
