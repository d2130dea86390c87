-- `short_number` reads by its plan.
-- Its calls are put together as its plan is. Assumes nothing.
use Rattle.readers_core.proofs.Computing.{computing}
use Rattle.readers_core.proofs.Sequence.{◌▸◌, unrecorded}
use mathlib.Core.Path.{refl}
use Rattle.readers_names.proofs.short_number.Goals as goal

pub returns : goal.returns
unfolding computing
returns c = record {
  at_any = λ d. record {
    of_any = λ hs. ((c.take-word.ensures.reads _ _).in_any _ _)
        ▸ (c.node.ensures.wraps refl _ _ _ tt)
        ▸ unrecorded tt ▸ unrecorded tt;
  };
}
