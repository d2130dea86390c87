-- `parameters` reads parameters, or nothing.
-- The kind ahead tells which. Assumes nothing.
use Rattle.readers_core.proofs.Choosing.{among, except}
use Rattle.readers_core.proofs.Computing.{computing}
use Rattle.readers_core.proofs.Starts.{is_in, is_out}
use Rattle.readers_core.proofs.Parts.{left_out, picked}
use Rattle.readers_operations.specs.Plans.{directions}
use mathlib.Core.List.{[], ◌∷◌}
use Rattle.readers_operations.proofs.parameters.Goals as goal

pub returns-then-is_one_of : goal.returns-then-is_one_of
unfolding computing
returns-then-is_one_of c =
    picked (among directions) c.next_kind-next.ensures
    (is_in directions c.next_kind-next.result c.is_one_of.ensures c.if-is_one_of.true)
    c.list.ensures

pub returns : goal.returns
unfolding computing
returns c =
    picked (except (directions ∷ [])) c.next_kind-next.ensures
    (is_out directions c.next_kind-next.result c.is_one_of.ensures c.if-is_one_of.false) left_out
