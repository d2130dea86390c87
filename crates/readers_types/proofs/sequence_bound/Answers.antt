-- `sequence_bound` reads a bound behind a comma, or nothing.
-- The kind ahead tells which. Assumes nothing.
use Rattle.readers_core.proofs.Equality.{differs, same}
use Rattle.readers_core.proofs.Computing.{computing}
use Rattle.kinds.specs.Lists.{only}
use Rattle.readers_core.proofs.Choosing.{among, except}
use Rattle.readers_core.proofs.Frames.{chosen}
use Rattle.readers_core.proofs.Sequence.{◌▸◌, skipped}
use mathlib.Core.List.{[], ◌∷◌}
use Rattle.readers_types.proofs.sequence_bound.Goals as goal

pub returns-then-eq : goal.returns-then-eq
unfolding computing
returns-then-eq c =
    record {
      in_any = λ start hs. chosen (among (only ",")) c.next_kind-next.ensures (same c.eq.ensures c.if-eq.true)
          (((c.take-comma.ensures.reads _ _).in_any _ _) ▸ (c.positive_int_const.ensures.in_any _ _));
    }

pub returns : goal.returns
unfolding computing
returns c = record {
  in_any = λ start hs. chosen (except (only "," ∷ [])) c.next_kind-next.ensures (tt, (differs c.eq.ensures c.if-eq.false)) skipped;
}
