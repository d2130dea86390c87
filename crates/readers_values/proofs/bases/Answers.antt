-- `bases` reads by its plan: ":" or "supports" tells that bases are there; else nothing is read or written.
-- What the plan comes to is what was called. Assumes nothing.
use Rattle.std.proofs.Common.{rules}
use Rattle.std.proofs.Common.{arith}
use Rattle.readers_core.proofs.Computing.{computing}
use Rattle.kinds.specs.Lists.{kinds_of}
use Rattle.readers_core.proofs.Choosing.{among, except}
use Rattle.readers_core.proofs.Parts.{left_out, picked}
use mathlib.Core.List.{[], ◌∷◌}
use Rattle.readers_values.proofs.bases.Goals as goal

pub returns-in-COLON : goal.returns-in-COLON
unfolding computing
returns-in-COLON c =
    record {
      at_any = λ d. picked (among (kinds_of ("supports" ∷ ":" ∷ []))) c.next_kind-next.ensures (search rules)
          (c.value_inheritance_spec.ensures.at_any d);
    }

pub returns-in_default : goal.returns-in_default
unfolding computing
returns-in_default c =
    record {
      at_any = λ d. picked (except (kinds_of ("supports" ∷ ":" ∷ []) ∷ [])) c.next_kind-next.ensures
          (omega arith) left_out;
    }
