-- `struct_dcl` reads by its plan: an opening brace tells a declaration.
-- Its calls are put together as its plan is. Assumes nothing.
use Rattle.readers_core.proofs.Equality.{differs, same}
use Rattle.kinds.specs.Lists.{only}
use Rattle.readers_core.proofs.Choosing.{among, except}
use Rattle.readers_core.proofs.Computing.{computing}
use Rattle.readers_core.proofs.Frames.{chosen}
use Rattle.readers_core.proofs.Sequence.{◌▸◌}
use mathlib.Core.List.{[], ◌∷◌}
use mathlib.Core.Path.{refl}
use Rattle.readers_structs.proofs.struct_dcl.Goals as goal

pub returns-then-eq : goal.returns-then-eq
unfolding computing
returns-then-eq c =
    record {
      of_any = λ hs. ((c.take-word.ensures.reads _ _).in_any _ _) ▸
          ((c.take-name.ensures.reads _ _).in_any _ _) ▸
          chosen (among (only "{")) c.next_kind-next.ensures (same c.eq.ensures c.if-eq.true)
          ((c.struct_body-body.ensures.in_any _ _) ▸ (c.node.ensures.wraps refl _ _ _ tt));
    }

pub returns : goal.returns
unfolding computing
returns c =
    record {
      of_any = λ hs. ((c.take-word.ensures.reads _ _).in_any _ _) ▸
          ((c.take-name.ensures.reads _ _).in_any _ _) ▸
          chosen (except (only "{" ∷ [])) c.next_kind-next.ensures (tt, (differs c.eq.ensures c.if-eq.false))
          (c.node-2.ensures.wraps refl _ _ _ tt);
    }
