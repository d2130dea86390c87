-- `next_kind` gives the kind ahead, and that of the end where reading has stopped.
-- By the test of the state. Assumes nothing.
use Rattle.std.proofs.Common.{ℕ, sym, ap, ◌∙◌}
use Rattle.readers_core.specs.Reading.{kind_at, view}
use Rattle.readers_core.proofs.Frames.{ahead_kind, ahead_none}
use Rattle.readers_core.proofs.Views.{goes_on, going_at, has_stopped}
use Rattle.readers_core.proofs.next_kind.Goals as goal

pub returns-then-at-ge-STOP : goal.returns-then-at-ge-STOP
returns-then-at-ge-STOP c =
    let s = c.at.inside.state in
    rw (← c.at.view_is) (ahead_none c.args.tokens.now (view s) (has_stopped s c.if-at-ge-STOP.true))

pub returns : goal.returns
returns c =
    let s = c.at.inside.state in
    let going = c.if-at-ge-STOP.false in
    rw (← c.at.view_is) (c.kind_at.ensures
    ∙ ap (λ (i : ℕ). kind_at c.args.tokens.now i) (c.low.ensures ∙ sym (going_at s going))
    ∙ sym (ahead_kind c.args.tokens.now (view s) (goes_on s going)))
