-- `enumerators` reads enumerators at one level of depth less.
-- The opening mark, one enumerator and more behind commas, the closing mark. Assumes nothing.
use Rattle.readers_core.proofs.Computing.{computing}
use Rattle.readers_core.proofs.Groups.{between}
use Rattle.readers_types.proofs.enumerators.Goals as goal

pub returns : goal.returns
unfolding computing
returns c =
    between c.open-inside.ensures c.inner.ensures
    c.list-listed.ensures c.take.ensures
