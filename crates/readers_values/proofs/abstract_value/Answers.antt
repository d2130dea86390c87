-- `abstract_value` reads by its plan: ":" or "supports" or "{" tells that a body is there, and else it is a forward one.
-- What the plan comes to is what was called; rule 13 leaves no record. Assumes nothing.
use Rattle.std.proofs.Common.{rules}
use Rattle.std.proofs.Common.{arith}
use Rattle.readers_core.proofs.Computing.{computing}
use Rattle.kinds.specs.Lists.{kinds_of}
use Rattle.readers_core.proofs.Choosing.{among, except}
use Rattle.readers_core.proofs.Frames.{chosen}
use Rattle.readers_core.proofs.Groups.{between}
use Rattle.readers_core.proofs.Sequence.{◌▸◌, unrecorded}
use Rattle.readers_core.proofs.Parts.{named}
use mathlib.Core.Path.{refl}
use mathlib.Core.List.{[], ◌∷◌}
use Rattle.readers_values.proofs.abstract_value.Goals as goal

pub returns-in-COLON : goal.returns-in-COLON
unfolding computing
returns-in-COLON c =
    named c.take-word.ensures c.take-name.ensures
    (chosen (among (kinds_of ("supports" ∷ "{" ∷ ":" ∷ []))) c.next_kind-next.ensures (search rules)
    (((c.bases-bases.ensures.at_any _).in_any _ _ ▸
    (between c.open-inside.ensures c.inner.ensures c.exports-exports.ensures c.take-whole.ensures).in_any _ _ ▸
    c.node-in-COLON.ensures.wraps refl _ _ _ tt) ▸ unrecorded tt))

pub returns-in_default : goal.returns-in_default
unfolding computing
returns-in_default c =
    named c.take-word.ensures c.take-name.ensures
    (chosen (except (kinds_of ("supports" ∷ "{" ∷ ":" ∷ []) ∷ [])) c.next_kind-next.ensures (omega arith)
    (c.node.ensures.wraps refl _ _ _ tt ▸ unrecorded tt))
