-- `abstract_definition` reads by its plan: "interface" tells the first choice, and else the second is taken.
-- What the plan comes to is what was called. Assumes nothing.
use Rattle.std.proofs.Common.{arith}
use Rattle.readers_core.proofs.Computing.{computing}
use Rattle.kinds.specs.Lists.{only}
use Rattle.readers_core.proofs.Choosing.{among, except}
use Rattle.readers_core.proofs.Frames.{chosen}
use Rattle.readers_core.proofs.Parts.{behind}
use mathlib.Core.List.{[], ◌∷◌}
use Rattle.readers_specification.proofs.abstract_definition.Goals as goal

pub returns-in-INTERFACE : goal.returns-in-INTERFACE
unfolding computing
returns-in-INTERFACE c =
    behind c.take-word.ensures (chosen (among (only "interface")) c.next_kind-next.ensures (omega arith)
    (c.interface.ensures.of_any _))

pub returns-in_default : goal.returns-in_default
unfolding computing
returns-in_default c =
    behind c.take-word.ensures (chosen (except (only "interface" ∷ [])) c.next_kind-next.ensures (omega arith)
    (c.abstract_value.ensures.of_any _))
