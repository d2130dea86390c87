-- `blanks::line_comment` meets its contract: two bytes, and the bytes in a row that end no line.
-- A run stays in the rest after the two bytes, so the sum fits. Assumes nothing.
use Rattle.std.proofs.Common.{ap, ℕ, ◌+◌, Ok, rules}
use Rattle.text.specs.Blanks.{line_comment}
use Rattle.text.specs.Bytes.{in_line}
use Rattle.text.specs.declared.Lexeme.TheVariants.{Blank}
use Rattle.text.proofs.Rests.{counted}
use Rattle.blanks.proofs.line_comment.Goals as goal

pub returns : goal.returns
unfolding line_comment
returns c = ap (λ (n : ℕ). Ok (Blank (2 + n))) (counted in_line c.args.bs.now c.requires c.line_run.ensures).is_run

pub overflow_add-result : goal.overflow_add-result
overflow_add-result c =
    let within = (counted in_line c.args.bs.now c.requires c.line_run.ensures).fits in
    search rules
