-- `literals::character` meets its contract: one character, and then the end.
-- A character stands in the text, so the sum fits. Assumes nothing.
use Prim.Native.Char.{code}
use native.Mathlib.Omega.{arith}
use Rattle.text.proofs.Rests.{rest}
use Rattle.literals.specs.Widths.{is_wide}
use Rattle.literals.proofs.Taken.{character_within, zero_within}
use Rattle.literals.proofs.character.Goals as goal

pub overflow_add-read : goal.overflow_add-read
overflow_add-read c =
    let read = c.args.read in
    let bs = c.args.bs.now in
    let wide = is_wide c.args.width in
    grind (arith, rest bs read, character_within wide (code "'") read bs, zero_within wide (code "'") read bs)

pub closing-requires : goal.closing-requires
closing-requires c =
    let read = c.args.read in
    let bs = c.args.bs.now in
    let wide = is_wide c.args.width in
    grind (arith, rest bs read, character_within wide (code "'") read bs, zero_within wide (code "'") read bs)
