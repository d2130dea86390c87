-- `exception_body` reads members at one level of depth less.
-- The opening mark, and behind it the body and the closing mark. Assumes nothing.
use Rattle.readers_core.proofs.Groups.{between}
use Rattle.readers_structs.proofs.exception_body.Goals as goal

pub returns : goal.returns
returns c =
    between c.open-inside.ensures c.inner.ensures c.further_members-members.ensures c.take.ensures
