-- `report::Page::put_line` meets its contract: at each turn what is written and the line of the numbers left are the whole line.
-- The last number is always among those left. Assumes nothing.
use Rattle.std.proofs.Common.{ℕ, ◌+◌, ◌<◌, ◌≤◌, List, [], ◌∷◌, ◌++◌, ◌∙◌, length, drop, append-nil}
use lib.ListN.{get_or}
use Rattle.std.proofs.Math.ListN.{drop_of_length-le}
use Rattle.report.specs.declared.Page.{Page}
use Rattle.report.specs.Report.{blank, line_end, line, number}
use Rattle.report.proofs.Lines.{line_step, line_last, line_empty}
use Rattle.report.proofs.Written.{Left, left_more, left_fits, left_none, front_fits, writes_none}
use Rattle.report.proofs.Page.put_line.Goals as goal

-- the next number stands before the others that are left
next : {start page : Page} (front : List ℕ) (i last : ℕ) {whole : List ℕ} → i < length front →
    Left start page (line (drop i front ++ last ∷ [])) whole →
    Left start page ((number (get_or front i 0) ++ blank ∷ []) ++ line (drop (i + 1) front ++ last ∷ [])) whole
next front i last h left = rw (line_step front i last h) at left

-- the last is left alone
alone : {start page : Page} (front : List ℕ) (i last : ℕ) {whole : List ℕ} → length front ≤ i →
    Left start page (line (drop i front ++ last ∷ [])) whole → Left start page ((number last ++ line_end ∷ []) ++ []) whole
alone front i last h left = rw (drop_of_length-le front h, line_last last, ← append-nil (number last ++ line_end ∷ [])) at left

pub put_number-requires : goal.put_number-requires
put_number-requires c =
    let front = c.in-Some.front.now in
    let n = get_or front c.loop-n.n-index 0 in
    let left = next front c.loop-n.n-index c.in-Some.last.now c.loop-n-test.true c.loop-n.invariant.left in
    front_fits c.loop-n.self (number n ++ blank ∷ []) _ (left_fits left c.requires)

pub loop-n-preserved : goal.loop-n-preserved
loop-n-preserved c =
    let left = next c.in-Some.front.now c.loop-n.n-index c.in-Some.last.now c.loop-n-test.true c.loop-n.invariant.left in record {
      same_reference = c.put_number.ensures.same_reference ∙ c.loop-n.invariant.same_reference;
      left = left_more _ _ left c.put_number.ensures.written;
    }

pub put_number-requires-in-Some : goal.put_number-requires-in-Some
put_number-requires-in-Some c =
    let left = alone c.in-Some.front.now c.loop-n.n-index c.in-Some.last.now c.loop-n-test.false c.loop-n.invariant.left in
    front_fits c.loop-n.self (number c.in-Some.last.now ++ line_end ∷ []) [] (left_fits left c.requires)

pub returns-after-loop-n-clause-written : goal.returns-after-loop-n-clause-written
returns-after-loop-n-clause-written c =
    let left = alone c.in-Some.front.now c.loop-n.n-index c.in-Some.last.now c.loop-n-test.false c.loop-n.invariant.left in
    left_none (left_more _ [] left c.put_number-in-Some.ensures.written)

pub returns-in_default-clause-written : goal.returns-in_default-clause-written
returns-in_default-clause-written c = rw (line_empty c.args.numbers.now c.in_default.ensures.cases) (writes_none c.args.self.now)
