-- `is_complete` meets its contract: going on, and at the end of the list.
-- Each way out is a case of the definition. Assumes nothing.
use Rattle.readers_core.proofs.Halting.{going_if, stopped_if}
use Rattle.tree.specs.Conclusion.{complete}
use borrow.Author.Tests.{eq-eqb, ne_eqb}
use Rattle.tree.proofs.is_complete.Goals as goal

pub returns-then-not-has_stopped : goal.returns-then-not-has_stopped
unfolding complete
returns-then-not-has_stopped c =
    simp (c.place.ensures, eq-eqb _ 0 (going_if c.args.state c.has_stopped.ensures c.if-not-has_stopped.true))

pub returns-else-not-has_stopped : goal.returns-else-not-has_stopped
unfolding complete
returns-else-not-has_stopped c =
    simp (c.if-not-has_stopped.false, ne_eqb _ 0 (stopped_if c.args.state c.has_stopped.ensures c.if-not-has_stopped.false))
