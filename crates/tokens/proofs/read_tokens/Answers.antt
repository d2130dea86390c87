-- `tokens::read_tokens` meets its contract: what reading the whole text finds decides the reply and the table.
-- The count of tokens fits 32 bits, and where they have room, their records are all stored. Assumes nothing.
use mathlib.Core.Path.{sym, ◌∙◌}
use native.Mathlib.Omega.{arith}
use Rattle.tokens.proofs.Answers.{few, room_kept}
use Rattle.tokens.proofs.read_tokens.Goals as goal

pub overflow_cast-count : goal.overflow_cast-count
overflow_cast-count c = omega (arith, few _ _ (sym c.takes.ensures ∙ c.if-not-takes.false) c.in-Ok.ensures)

pub overflow_cast-count-in-Ok-2 : goal.overflow_cast-count-in-Ok-2
overflow_cast-count-in-Ok-2 c = omega (arith, few _ _ (sym c.takes.ensures ∙ c.if-not-takes.false) c.in-Ok.ensures)

pub returns-in-Ok-clause-table : goal.returns-in-Ok-clause-table
returns-in-Ok-clause-table c =
    room_kept _ _ (sym c.takes.ensures ∙ c.if-not-takes.false) c.in-Ok.ensures (omega (arith, c.scan.auto.tokens))
