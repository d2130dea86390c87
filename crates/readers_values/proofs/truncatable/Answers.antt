-- `truncatable` reads by its plan: the word or nothing.
-- What the plan comes to is what was called. Assumes nothing.
use Rattle.std.proofs.Common.{arith}
use Rattle.readers_core.proofs.Computing.{computing}
use Rattle.kinds.specs.Lists.{only}
use Rattle.readers_core.proofs.Choosing.{among, except}
use Rattle.readers_core.proofs.Parts.{left_out, picked}
use mathlib.Core.List.{[], ◌∷◌}
use Rattle.readers_values.proofs.truncatable.Goals as goal

pub returns-in-TRUNCATABLE : goal.returns-in-TRUNCATABLE
unfolding computing
returns-in-TRUNCATABLE c =
    record { reads = λ d w. picked (among (only "truncatable")) c.next_kind-next.ensures (omega arith) (c.take.ensures.reads d w) }

pub returns-in_default : goal.returns-in_default
unfolding computing
returns-in_default c =
    record {
      reads = λ d w. picked (except (only "truncatable" ∷ [])) c.next_kind-next.ensures (omega arith)
          left_out;
    }
