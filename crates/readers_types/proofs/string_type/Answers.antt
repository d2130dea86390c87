-- `string_type` reads rules 81 and 82, whichever begins with the word, in a frame of their own.
-- Its calls are put together as its plan is; a mark tells the bound. Assumes nothing.
use Rattle.readers_core.proofs.Equality.{differs, same}
use Rattle.kinds.specs.Lists.{only}
use Rattle.readers_core.proofs.Choosing.{among, except}
use Rattle.readers_core.proofs.Frames.{chosen, frame_by}
use Rattle.readers_core.proofs.Sequence.{◌▸◌, skipped}
use Rattle.readers_names.proofs.Words.{plan_of, plans_of}
use Rattle.readers_types.specs.Plans.{string_plan, string_rule, strings}
use mathlib.Core.List.{[], ◌∷◌}
use mathlib.Core.Path.{sym}
use Rattle.readers_types.proofs.string_type.Goals as goal

pub returns-then-eq : goal.returns-then-eq
unfolding plans_of
returns-then-eq c =
    frame_by _ (plan_of string_rule string_plan strings _ c.requires tt)
    (((c.take-word.ensures.reads _ _).in_any _ _)
    ▸ chosen (among (only "<")) c.next_kind-next.ensures (same c.eq.ensures c.if-eq.true)
    (c.enclosed-bound.ensures.in_any _ _)
    ▸ (c.node.ensures.wraps (sym c.string_rule-rule.ensures) _ _ _ tt))

pub returns : goal.returns
unfolding plans_of
returns c =
    frame_by _ (plan_of string_rule string_plan strings _ c.requires tt)
    (((c.take-word.ensures.reads _ _).in_any _ _)
    ▸ chosen (except (only "<" ∷ [])) c.next_kind-next.ensures (tt, (differs c.eq.ensures c.if-eq.false)) skipped
    ▸ (c.node-2.ensures.wraps (sym c.string_rule-rule.ensures) _ _ _ tt))
