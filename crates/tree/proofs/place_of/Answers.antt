-- `place_of` meets its contract: the number behind the kind, where the list reaches so far.
-- Past the end stands the default, the text's length. Assumes nothing.
use Rattle.tree.proofs.Lists.{getD_inside}
use lib.ListN.{get_or-eq_default}
use mathlib.Core.Path.{sym}
use Rattle.tree.proofs.place_of.Goals as goal

pub returns-then-at-list : goal.returns-then-at-list
returns-then-at-list c = sym (getD_inside c.args.list.now _ c.args.text 0 c.if-at-list.true)

pub returns-else-at-list : goal.returns-else-at-list
returns-else-at-list c = sym (get_or-eq_default c.args.list.now c.args.text c.if-at-list.false)
