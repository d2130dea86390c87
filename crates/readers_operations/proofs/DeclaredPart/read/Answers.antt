-- A simple declarator in a list reads rule 51. One token in a frame of its own. Assumes nothing.
use Rattle.std.proofs.Common.{refl}
use Rattle.readers_core.proofs.Computing.{computing}
use Rattle.readers_operations.proofs.DeclaredPart.read.Goals as goal

pub returns : goal.returns
unfolding computing
returns c = (c.one_token.ensures.reads refl refl).at_any _
