-- `first_name` reads a name by its plan: "::" tells the second choice, and else the first is taken.
-- What the plan comes to, as the next kind tells, is what was called. Assumes nothing.
use Rattle.std.proofs.Common.{arith}
use Rattle.readers_core.proofs.Computing.{computing}
use Rattle.kinds.specs.Lists.{only}
use Rattle.readers_core.proofs.Choosing.{among, except}
use Rattle.readers_core.proofs.Frames.{chosen}
use Rattle.readers_core.proofs.Sequence.{◌▸◌}
use mathlib.Core.List.{[], ◌∷◌}
use Rattle.readers_names.proofs.first_name.Goals as goal

pub returns-in-SCOPE : goal.returns-in-SCOPE
unfolding computing
returns-in-SCOPE c =
    record {
      reads = λ d w. record {
        in_any = λ start hs. chosen (among (only "::")) c.next_kind-next.ensures
            (omega arith) (((c.take-mark.ensures.reads _ _).in_any _ _) ▸ ((c.take.ensures.reads _ _).in_any _ _));
      };
    }

pub returns-in_default : goal.returns-in_default
unfolding computing
returns-in_default c = record {
  reads = λ d w. record {
    in_any = λ start hs. chosen (except (only "::" ∷ [])) c.next_kind-next.ensures (omega arith)
        ((c.take-in_default.ensures.reads _ _).in_any _ _);
  };
}
