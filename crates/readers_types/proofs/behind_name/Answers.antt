-- `behind_name` reads by its plan: an opening bracket tells an array.
-- What the plan comes to is what was called. Assumes nothing.
use Rattle.readers_core.proofs.Equality.{differs, same}
use Rattle.readers_core.proofs.Computing.{computing}
use Rattle.kinds.specs.Lists.{only}
use Rattle.readers_core.proofs.Choosing.{among, except}
use Rattle.readers_core.proofs.Frames.{chosen}
use Rattle.readers_core.proofs.Sequence.{◌▸◌, unrecorded}
use mathlib.Core.List.{[], ◌∷◌}
use mathlib.Core.Path.{refl}
use Rattle.readers_types.proofs.behind_name.Goals as goal

pub returns-then-eq : goal.returns-then-eq
unfolding computing
returns-then-eq c =
    chosen (among (only "[")) c.next_kind-next.ensures (same c.eq.ensures c.if-eq.true)
    ((c.fixed_array_size-size.ensures.in_any _ _) ▸ (c.further_sizes-sizes.ensures.in_any _ _)
    ▸ (c.node.ensures.wraps refl _ _ _ tt) ▸ unrecorded tt)

pub returns : goal.returns
unfolding computing
returns c =
    chosen (except (only "[" ∷ [])) c.next_kind-next.ensures (tt, (differs c.eq.ensures c.if-eq.false))
    (c.node-2.ensures.wraps refl _ _ _ tt)
