-- `raises` reads rule 93 in a frame of its own, or nothing: the names of exceptions at one level of depth less.
-- The kind ahead tells which. Assumes nothing.
use Rattle.readers_core.proofs.Equality.{differs, same}
use Rattle.readers_core.proofs.Choosing.{among, except}
use Rattle.readers_core.proofs.Computing.{computing}
use Rattle.kinds.specs.Lists.{only}
use Rattle.grammar.specs.Names.{rule}
use Rattle.readers_core.proofs.Frames.{frame}
use Rattle.readers_core.proofs.Groups.{between}
use Rattle.readers_core.proofs.Sequence.{◌▸◌}
use Rattle.readers_core.proofs.Parts.{left_out, picked}
use mathlib.Core.Path.{refl}
use mathlib.Core.List.{[], ◌∷◌}
use Rattle.readers_operations.proofs.raises.Goals as goal

pub returns-then-eq : goal.returns-then-eq
unfolding computing
returns-then-eq c =
    picked (among (only "raises")) c.next_kind-next.ensures (same c.eq.ensures c.if-eq.true)
    (frame (rule "raises_expr") ((c.take-word.ensures.reads _ _).in_any _ _ ▸
    (between c.open-inside.ensures c.inner.ensures c.list-names.ensures
    c.take-closed.ensures).in_any _ _ ▸ c.node.ensures.wraps refl _ _ _ tt))

pub returns : goal.returns
unfolding computing
returns c = picked (except (only "raises" ∷ [])) c.next_kind-next.ensures (tt, (differs c.eq.ensures c.if-eq.false)) left_out
