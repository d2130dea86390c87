-- `text::run_behind` meets its contract: the windows before the one in which the run ends, and what is of the run in that one.
-- A window that the run fills is passed; behind the last one the rest of the run is counted. Assumes nothing.
use Rattle.std.proofs.Common.{◌<◌, length, ◌/◌, arith, rules}
use Rattle.text.proofs.Blocks.{passed_more, passed_stop, parts_fit}
use Rattle.text.proofs.run_behind.Goals as goal

pub returns-then-end : goal.returns-then-end
returns-then-end g c =
    let text = c.args.text.now in
    let n = g.row.N in
    let i = c.loop-passed.passed in
    let many = c.as_chunks.ensures in
    let inside : i < length text / n = omega (arith, c.loop-passed-test.true, many.front_len) in
    let found = c.end_in_window-end.ensures in
    let is = rw many.front at c.index-windows-passed.is in
    let stop = passed_stop g.C.Class.member n (length text / n) text i inside c.loop-passed.invariant _ is (omega (arith, found, c.if-end.true)) in
    omega (arith, found, c.if-end.true, stop)

pub loop-passed-preserved : goal.loop-passed-preserved
loop-passed-preserved g c =
    let text = c.args.text.now in
    let n = g.row.N in
    let i = c.loop-passed.passed in
    let many = c.as_chunks.ensures in
    let inside : i < length text / n = omega (arith, c.loop-passed-test.true, many.front_len) in
    passed_more g.C.Class.member n (length text / n) text i inside c.loop-passed.invariant _ (rw many.front at c.index-windows-passed.is)
    (omega (arith, c.end_in_window-end.ensures, c.if-end.false))

pub overflow_add-result-2 : goal.overflow_add-result-2
overflow_add-result-2 g c =
    let many = c.as_chunks.ensures in
    let within = parts_fit g.C.Class.member g.row.N _ _ c.args.text.now _ many.front_len many.back c.run_of.ensures in
    search rules
