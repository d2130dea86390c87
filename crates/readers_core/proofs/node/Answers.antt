-- `node` makes one node of what was read since its start, and writes its record.
-- At the ceiling of the count, and after a stop, nothing is done. Assumes nothing.
use Rattle.std.proofs.Common.{◌<◌, sym, ◌∙◌, arith}
use Rattle.readers_core.proofs.Sequence.{full_node, recorded_node}
use Rattle.readers_core.proofs.Storing.{write_below}
use Rattle.readers_core.proofs.Views.{counted_at, counted_count, counted_goes, counted_since, goes_on, going_at, started_at}
use Rattle.readers_core.specs.Reading.{ceiling, view}
use Rattle.readers_core.proofs.node.Goals as goal

pub returns-then-at-ge-STOP : goal.returns-then-at-ge-STOP
returns-then-at-ge-STOP c =
    rw (← c.at.view_is) (record { wraps = λ is ks d hs t. full_node t (omega (arith, c.if-at-ge-STOP.true)) })

pub returns-then-counted-ge-STOP : goal.returns-then-counted-ge-STOP
returns-then-counted-ge-STOP c =
    rw (← c.at.view_is) (record { wraps = λ is ks d hs t. full_node t (omega (arith, c.if-counted-ge-STOP.true)) })

pub returns : goal.returns
returns c =
    let s = c.at.inside.state in
    let t = c.start.inside.state in
    let going = c.if-at-ge-STOP.false in
    let low : (view s).count < ceiling = omega (arith, c.if-counted-ge-STOP.false) in
    rw (← c.at.view_is, ← c.start.view_is) (record {
      wraps = λ is ks d hs e.
          recorded_node is e (goes_on s going) low (counted_goes s low) (counted_at s low) (counted_count s low)
          (λ le le'. c.put.ensures ∙ rw c.from.ensures (write_below c.args.tree.now c.args.rule low c.high-place.ensures
          (c.low.ensures ∙ started_at s low t le')
          (c.low-2.ensures ∙ sym (going_at s going))
          (c.high-size.ensures ∙ counted_since s low t le' le (omega arith) (omega (arith, le', c.if-counted-ge-STOP.false)))));
    })
