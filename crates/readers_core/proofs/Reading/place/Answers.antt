-- `place` gives the number of the next token, and at a stop that of its token.
-- By the test of the state. Assumes nothing.
use Rattle.std.proofs.Common.{sym, ◌∙◌}
use Rattle.readers_core.proofs.Views.{going_at, stop_at}
use Rattle.readers_core.proofs.Reading.place.Goals as goal

pub returns-then-self-ge-STOP : goal.returns-then-self-ge-STOP
returns-then-self-ge-STOP c = rw (← c.self.view_is) (sym (stop_at c.self.inside.state c.if-self-ge-STOP.true))

pub returns : goal.returns
returns c = rw (← c.self.view_is) (c.low.ensures ∙ sym (going_at c.self.inside.state c.if-self-ge-STOP.false))
