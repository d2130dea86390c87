-- `list` reads a list by its plan.
-- Its calls are put together as its plan is. Assumes nothing.
use Rattle.readers_core.proofs.Sequence.{◌▸◌}
use Rattle.readers_core.proofs.list.Goals as goal

pub returns : goal.returns
returns g c = record {
  in_any = λ start hs. c.read-first.ensures.in_any _ _ ▸
      c.further.ensures.in_any _ _;
}
