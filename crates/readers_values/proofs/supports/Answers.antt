-- `supports` reads by its plan: interfaces behind "supports".
-- Its calls are put together as its plan is. Assumes nothing.
use Rattle.readers_interfaces.proofs.Names.{interface_names}
use Rattle.readers_core.proofs.Parts.{◌then◌}
use Rattle.readers_values.proofs.supports.Goals as goal

pub returns : goal.returns
returns c =
    record { at_any = λ d. c.take-word.ensures.reads d _ then (c.scoped_names.ensures.by_rule _ interface_names).at_any d }
