-- `behind_name` reads by its plan: a type, ":" or "supports" or "{", or none of these behind the name.
-- What the plan comes to is what was called. Assumes nothing.
use Rattle.std.proofs.Common.{rules}
use Rattle.std.proofs.Common.{arith}
use Rattle.readers_core.proofs.Computing.{computing}
use Rattle.kinds.specs.Lists.{kinds_of}
use Rattle.readers_core.proofs.Choosing.{among, except}
use Rattle.readers_core.proofs.Frames.{chosen}
use Rattle.readers_core.proofs.Sequence.{◌▸◌}
use Rattle.readers_core.proofs.Starts.{is_in, is_out}
use Rattle.readers_structs.specs.Plans.{type_starts}
use mathlib.Core.Path.{refl}
use mathlib.Core.List.{[], ◌∷◌}
use Rattle.readers_values.proofs.behind_name.Goals as goal

pub returns-then-starts_type : goal.returns-then-starts_type
unfolding computing
returns-then-starts_type c =
    chosen (among type_starts) c.next_kind-next.ensures (is_in type_starts _ c.starts_type.ensures c.if-starts_type.true)
    (c.type_spec-boxed.ensures.in_any _ _ ▸ c.node.ensures.wraps refl _ _ _ tt)

pub returns-in-COLON : goal.returns-in-COLON
unfolding computing
returns-in-COLON c = chosen (among (kinds_of ("supports" ∷ "{" ∷ ":" ∷ []))) c.next_kind-next.ensures (search rules) c.value_dcl.ensures

pub returns-in_default : goal.returns-in_default
unfolding computing
returns-in_default c =
    chosen (except (type_starts ∷ kinds_of ("supports" ∷ "{" ∷ ":" ∷ []) ∷ [])) c.next_kind-next.ensures
    ((omega arith), (is_out type_starts _ c.starts_type.ensures c.if-starts_type.false).1)
    (c.node-in_default.ensures.wraps refl _ _ _ tt)
