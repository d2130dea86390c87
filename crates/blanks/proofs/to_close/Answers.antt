-- `blanks::to_close` meets its contract. The loop's invariant: no */ begins before the rest.
-- Two bytes that are */ end the search; any others move it on to the next star. Assumes nothing.
use Rattle.std.proofs.Common.{◌∙◌, sym, rules}
use Rattle.text.specs.Classes.{starless}
use Rattle.text.proofs.Rests.{rest}
use Rattle.text.proofs.Runs.{run_within}
use Rattle.blanks.proofs.Closing.{passed_closed, passed_more, passed_all}
use Rattle.blanks.proofs.to_close.Goals as goal

pub loop-behind-preserved : goal.loop-behind-preserved
loop-behind-preserved c =
    let behind = c.in-Some.behind.now in
    rw (rest behind c.starless_run.result, c.starless_run.ensures)
    (passed_more _ _ c.loop-behind.invariant _ behind c.in-Some.ensures.cases.0 (sym c.closes.ensures ∙ c.if-closes.false))

pub returns-then-closes : goal.returns-then-closes
returns-then-closes c = passed_closed _ _ c.loop-behind.invariant _ _ c.in-Some.ensures.cases.0 (sym c.closes.ensures ∙ c.if-closes.true)

pub slice_bounds-rest-count : goal.slice_bounds-rest-count
slice_bounds-rest-count c = let within = run_within starless c.in-Some.behind.now in search rules

pub slice_bounds-rest-start : goal.slice_bounds-rest-start
slice_bounds-rest-start c = let within = run_within starless c.in-Some.behind.now in search rules

pub returns : goal.returns
returns c = passed_all _ _ c.loop-behind.invariant c.in_default.ensures.cases
