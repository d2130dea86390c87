-- `enclosed` reads a positive constant between two marks, at one level of depth less.
-- The opening mark, the constant, the closing mark. Assumes nothing.
use Rattle.readers_core.proofs.Groups.{between}
use Rattle.readers_types.proofs.enclosed.Goals as goal

pub returns : goal.returns
returns c =
    between c.open-inside.ensures
    c.inner.ensures c.positive_int_const-constant.ensures c.take.ensures
