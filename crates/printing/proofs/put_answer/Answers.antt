-- `printing::put_answer` meets its contract: the report of reply 1 for a longer text, and of the reader's answer for any other.
-- The tables are lent as the definition has them. Assumes nothing.
use mathlib.Core.Path.{refl, ◌∙◌}
use borrow.Author.Rules.{rules}
use Rattle.printing.specs.Printed.{lent}
use Rattle.printing.proofs.Answers.{prints_longer, prints_answer}
use Rattle.printing.proofs.put_answer.Goals as goal

pub returns-then-text-gt-LONGEST-clause-written : goal.returns-then-text-gt-LONGEST-clause-written
returns-then-text-gt-LONGEST-clause-written c = λ sense means.
    c.put_report.ensures.written ∙ prints_longer c.args.text.now _ sense c.if-text-gt-LONGEST.true c.outside_limits.ensures

pub returns-clause-written : goal.returns-clause-written
unfolding lent
returns-clause-written c = λ sense means.
    c.put_report-2.ensures.written
    ∙ prints_answer c.read-reply.ensures c.if-text-gt-LONGEST.false (search rules) refl refl sense means
