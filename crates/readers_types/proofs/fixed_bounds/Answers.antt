-- `fixed_bounds` reads two bounds at one level of depth less.
-- The opening mark, the bounds with a comma between them, the closing mark. Assumes nothing.
use Rattle.readers_core.proofs.Groups.{between}
use Rattle.readers_core.proofs.Parts.{◌then◌}
use Rattle.readers_types.proofs.fixed_bounds.Goals as goal

pub returns : goal.returns
returns c =
    between c.open-inside.ensures c.inner-below.ensures
    (c.positive_int_const-digits.ensures then c.take-comma.ensures.reads _ _ then c.positive_int_const-scale.ensures)
    c.take.ensures
