-- `text::run_by_windows` meets its contract: the end in the first window, or that window and the run behind it.
-- A run that reaches so far is split there. Assumes nothing.
use Rattle.std.proofs.Common.{◌+◌, ◌≤◌, length, arith, rules}
use Rattle.text.proofs.Blocks.{run_take, run_split}
use Rattle.text.proofs.Runs.{run_within}
use Rattle.text.proofs.run_by_windows.Goals as goal

pub returns-then-end : goal.returns-then-end
returns-then-end g c =
    let found = rw c.in-Some.ensures.cases.0 at c.end_in_window-end.ensures in
    omega (arith, found, run_take g.C.Class.member g.row.N c.args.text.now, c.if-end.true)

pub returns-else-end : goal.returns-else-end
returns-else-end g c =
    let class = g.C.Class.member in
    let text = c.args.text.now in
    let n = g.row.N in
    let found = rw c.in-Some.ensures.cases.0 at c.end_in_window-end.ensures in
    let behind = rw c.in-Some.ensures.cases.1 at c.run_behind.ensures in
    omega (arith, behind, run_split class text n (omega (arith, found, run_take class n text, c.if-end.false)))

pub overflow_add-result : goal.overflow_add-result
overflow_add-result g c =
    let class = g.C.Class.member in
    let text = c.args.text.now in
    let within : g.row.N + c.run_behind.result ≤ length text =
    omega (arith, c.run_behind.ensures, run_within class c.in-Some.behind.now, c.in-Some.ensures.cases.2) in
    search rules
