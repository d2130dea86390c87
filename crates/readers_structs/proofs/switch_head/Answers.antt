-- `switch_head` reads the type of a switch at one level of depth less.
-- The opening mark, and behind it the body and the closing mark. Assumes nothing.
use Rattle.readers_core.proofs.Groups.{between}
use Rattle.readers_structs.proofs.switch_head.Goals as goal

pub returns : goal.returns
returns c =
    between c.open-inside.ensures c.inner.ensures c.switch_type_spec-spec.ensures c.take.ensures
