-- `value_dcl` reads what stands behind the name of a value with a body: its header and the whole become nodes.
-- Its calls are put together as its plan is. Assumes nothing.
use Rattle.readers_core.proofs.Computing.{computing}
use Rattle.readers_core.proofs.Groups.{between}
use Rattle.readers_core.proofs.Sequence.{◌▸◌}
use mathlib.Core.Path.{refl}
use Rattle.readers_values.proofs.value_dcl.Goals as goal

pub returns : goal.returns
unfolding computing
returns c =
    (c.bases-bases.ensures.at_any _).in_any _ _ ▸ c.node-header.ensures.wraps refl _ _ _ tt ▸
    (between c.open-inside.ensures c.inner.ensures c.elements-elements.ensures c.take-whole.ensures).in_any _ _ ▸
    c.node.ensures.wraps refl _ _ _ tt
