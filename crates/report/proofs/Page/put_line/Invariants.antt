-- `report::Page::put_line` meets its contract: at each turn what is written and the line of the numbers left are the whole line.
-- The last number is always among those left. Assumes nothing.
use Rattle.std.proofs.Common.{◌≡◌, [], ◌∷◌, ◌++◌, drop}
use Rattle.report.specs.Report.{line}
use Rattle.report.proofs.Written.{Left}
use Rattle.report.proofs.Page.put_line.Given as goal

abbrev pub invariant-loop-n : goal.invariant-loop-n
invariant-loop-n l = record {
  same_reference : l.self.out.ghost_name ≡ l.initial.self.out.ghost_name;
  left : Left l.initial.self l.self (line (drop l.n-index l.front ++ l.last ∷ [])) (line l.numbers);
}
