-- `value_inheritance_spec` reads rule 19 in a frame of its own: ":" tells that values are inherited from.
-- Its calls are put together as its plan is. Assumes nothing.
use Rattle.std.proofs.Common.{arith}
use Rattle.readers_core.proofs.Computing.{computing}
use Rattle.kinds.specs.Lists.{only}
use Rattle.grammar.specs.Names.{rule}
use Rattle.readers_core.proofs.Choosing.{among, except}
use Rattle.readers_core.proofs.Frames.{frame_on}
use Rattle.readers_core.proofs.Sequence.{◌▸◌}
use mathlib.Core.Path.{refl}
use mathlib.Core.List.{[], ◌∷◌}
use Rattle.readers_values.proofs.value_inheritance_spec.Goals as goal

pub returns-in-COLON : goal.returns-in-COLON
unfolding computing
returns-in-COLON c =
    record {
      at_any = λ d. frame_on (rule "value_inheritance_spec") (among (only ":")) c.next_kind-next.ensures (omega arith)
          ((c.inherits-bases.ensures.at_any d).in_any _ _ ▸ c.node.ensures.wraps refl _ _ _ tt);
    }

pub returns-in_default : goal.returns-in_default
unfolding computing
returns-in_default c =
    record {
      at_any = λ d. frame_on (rule "value_inheritance_spec") (except (only ":" ∷ [])) c.next_kind-next.ensures
          (omega arith) ((c.supports-bases.ensures.at_any d).in_any _ _ ▸ c.node-in_default.ensures.wraps refl _ _ _
          tt);
    }
