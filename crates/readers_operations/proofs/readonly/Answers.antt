-- `readonly` reads the word, or nothing.
-- The kind ahead tells which. Assumes nothing.
use Rattle.readers_core.proofs.Equality.{differs, same}
use Rattle.readers_core.proofs.Choosing.{among, except}
use Rattle.readers_core.proofs.Computing.{computing}
use Rattle.kinds.specs.Lists.{only}
use Rattle.readers_core.proofs.Parts.{left_out, picked}
use mathlib.Core.List.{[], ◌∷◌}
use Rattle.readers_operations.proofs.readonly.Goals as goal

pub returns-then-eq : goal.returns-then-eq
unfolding computing
returns-then-eq c = record {
  reads = λ d tree. picked (among (only "readonly")) c.next_kind-next.ensures (same c.eq.ensures c.if-eq.true)
      (c.take.ensures.reads d tree);
}

pub returns : goal.returns
unfolding computing
returns c =
    record {
      reads = λ d tree. picked (except (only "readonly" ∷ [])) c.next_kind-next.ensures (tt, (differs c.eq.ensures c.if-eq.false))
          left_out;
    }
