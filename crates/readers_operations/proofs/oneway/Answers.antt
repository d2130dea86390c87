-- `oneway` reads rule 88, or nothing.
-- The kind ahead tells which. Assumes nothing.
use Rattle.readers_core.proofs.Equality.{differs, same}
use Rattle.readers_core.proofs.Choosing.{among, except}
use Rattle.readers_core.proofs.Computing.{computing}
use Rattle.kinds.specs.Lists.{only}
use Rattle.readers_core.proofs.Parts.{left_out, picked}
use mathlib.Core.Path.{refl}
use mathlib.Core.List.{[], ◌∷◌}
use Rattle.readers_operations.proofs.oneway.Goals as goal

pub returns-then-eq : goal.returns-then-eq
unfolding computing
returns-then-eq c =
    record {
      at_any = λ d. picked (among (only "oneway")) c.next_kind-next.ensures (same c.eq.ensures c.if-eq.true)
          ((c.one_token.ensures.reads refl refl).at_any d);
    }

pub returns : goal.returns
unfolding computing
returns c =
    record {
      at_any = λ d. picked (except (only "oneway" ∷ [])) c.next_kind-next.ensures (tt, (differs c.eq.ensures c.if-eq.false)) left_out;
    }
