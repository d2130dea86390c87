-- `case_label` reads rule 76 in a frame of its own: the kind ahead tells the choice.
-- Its calls are put together as its plan is. Assumes nothing.
use Rattle.readers_core.proofs.Equality.{differs, same}
use Rattle.readers_core.proofs.Computing.{computing}
use Rattle.kinds.specs.Lists.{only}
use Rattle.grammar.specs.Names.{rule}
use Rattle.readers_core.proofs.Choosing.{among, except}
use Rattle.readers_core.proofs.Frames.{frame_on}
use Rattle.readers_core.proofs.Sequence.{◌▸◌}
use mathlib.Core.List.{[], ◌∷◌}
use mathlib.Core.Path.{refl}
use Rattle.readers_types.proofs.case_label.Goals as goal

pub returns-then-eq : goal.returns-then-eq
unfolding computing
returns-then-eq c =
    frame_on (rule "case_label") (among (only "case")) c.next_kind-next.ensures (same c.eq.ensures c.if-eq.true)
    ((((c.take-word.ensures.reads _ _).in_any _ _) ▸ (c.const_exp-value.ensures.in_any _ _)
    ▸ ((c.take-label.ensures.reads _ _).in_any _ _)) ▸ (c.node.ensures.wraps refl _ _ _ tt))

pub returns : goal.returns
unfolding computing
returns c =
    frame_on (rule "case_label") (except (only "case" ∷ [])) c.next_kind-next.ensures
    (tt, (differs c.eq.ensures c.if-eq.false)) ((((c.take-word-2.ensures.reads _ _).in_any _ _) ▸
    ((c.take-label-2.ensures.reads _ _).in_any _ _))
    ▸ (c.node-2.ensures.wraps refl _ _ _ tt))
