-- `blanks::block_comment` meets its contract: two bytes, and those to the end of the next */, or open where there is none.
-- The search of */ stays in the rest after the two bytes, so the sum fits. Assumes nothing.
use Rattle.std.proofs.Common.{◌∙◌, ap, sym, drop, rules}
use Rattle.std.proofs.lemmas.List.{length-drop}
use Rattle.text.specs.Blanks.{to_close, closed, block_comment}
use Rattle.text.proofs.Rests.{rest}
use Rattle.blanks.proofs.Reach.{close_within}
use Rattle.blanks.proofs.block_comment.Goals as goal

pub returns-in_err-size : goal.returns-in_err-size
unfolding block_comment closed
returns-in_err-size c =
    let none = sym (ap to_close (rest c.args.bs.now 2)) ∙ sym c.to_close.ensures ∙ c.in_err-size.ensures.ok_part in
    let is_open = ap closed (sym none) in
    search rules

pub returns : goal.returns
unfolding block_comment closed
returns c =
    let some = sym (ap to_close (rest c.args.bs.now 2)) ∙ sym c.to_close.ensures ∙ c.in_ok-size.ensures.ok_part in
    ap closed (sym some)

pub overflow_add-result : goal.overflow_add-result
overflow_add-result c =
    let some = sym (ap to_close (rest c.args.bs.now 2)) ∙ sym c.to_close.ensures ∙ c.in_ok-size.ensures.ok_part in
    let within = rw some at (close_within (drop 2 c.args.bs.now)) in
    let left = length-drop 2 c.args.bs.now in
    search rules
