-- `parameters` reads by its plan: "in" tells that parameters are there.
-- What the plan comes to is what was called. Assumes nothing.
use Rattle.std.proofs.Common.{arith}
use Rattle.readers_core.proofs.Computing.{computing}
use Rattle.kinds.specs.Lists.{only}
use Rattle.readers_core.proofs.Choosing.{among, except}
use Rattle.readers_core.proofs.Parts.{left_out, picked}
use mathlib.Core.List.{[], ◌∷◌}
use Rattle.readers_values.proofs.parameters.Goals as goal

pub returns-in-IN : goal.returns-in-IN
unfolding computing
returns-in-IN c = picked (among (only "in")) c.next_kind-next.ensures (omega arith) c.init_param_decls.ensures

pub returns-in_default : goal.returns-in_default
unfolding computing
returns-in_default c = picked (except (only "in" ∷ [])) c.next_kind-next.ensures (omega arith) left_out
