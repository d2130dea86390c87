-- `context` reads rule 94 in a frame of its own, or nothing: string literals at one level of depth less.
-- The kind ahead tells which. Assumes nothing.
use Rattle.readers_core.proofs.Equality.{differs, same}
use Rattle.readers_core.proofs.Choosing.{among, except}
use Rattle.readers_core.proofs.Computing.{computing}
use Rattle.kinds.specs.Lists.{only}
use Rattle.grammar.specs.Names.{rule}
use Rattle.readers_core.proofs.Frames.{frame}
use Rattle.readers_core.proofs.Groups.{enclosed}
use Rattle.readers_core.proofs.Lines.{◌▸▸◌, append}
use Rattle.readers_core.proofs.Sequence.{◌▸◌}
use Rattle.readers_core.proofs.Parts.{left_out, picked}
use mathlib.Core.Path.{refl}
use mathlib.Core.List.{[], ◌∷◌}
use Rattle.readers_operations.proofs.context.Goals as goal

pub returns-then-eq : goal.returns-then-eq
unfolding computing append
returns-then-eq c =
    picked (among (only "context")) c.next_kind-next.ensures (same c.eq.ensures c.if-eq.true)
    (frame (rule "context_expr") ((c.take-word.ensures.reads _ _).in_any _ _ ▸
    (enclosed c.open-inside.ensures (record {
      in_any = λ start hs. (c.string_literal-first.ensures.reads _ _).in_any _ _ ▸▸
          (c.further_strings-listed.ensures.reads _ _).in_any _ _;
    }) c.take-closed.ensures).in_any _ _ ▸
    c.node.ensures.wraps refl _ _ _ tt))

pub returns : goal.returns
unfolding computing
returns c = picked (except (only "context" ∷ [])) c.next_kind-next.ensures (tt, (differs c.eq.ensures c.if-eq.false)) left_out
