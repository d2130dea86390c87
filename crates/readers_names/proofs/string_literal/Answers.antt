-- `string_literal` reads one string of the kind, and those beside it.
-- Its calls are put together as its plan is. Assumes nothing.
use Rattle.readers_core.proofs.Sequence.{◌▸◌}
use Rattle.readers_names.proofs.string_literal.Goals as goal

pub returns : goal.returns
returns c = record {
  reads = λ d w. record {
    in_any = λ start hs. ((c.take-first.ensures.reads _ _).in_any _ _)
        ▸ ((c.neighbours.ensures.reads _ _).in_any _ _);
  };
}
