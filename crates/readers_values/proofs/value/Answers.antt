-- `value` reads by its plan.
-- Its calls are put together as its plan is; rule 13 leaves no record. Assumes nothing.
use Rattle.readers_core.proofs.Computing.{computing}
use Rattle.readers_core.proofs.Sequence.{◌▸◌, unrecorded}
use Rattle.readers_core.proofs.Parts.{named}
use Rattle.readers_values.proofs.value.Goals as goal

pub returns : goal.returns
unfolding computing
returns c = named c.take-word.ensures c.take-name.ensures (c.behind_name.ensures ▸ unrecorded tt)
