-- `lexemes::slash` meets its contract: two slashes, a slash and a star, or the mark.
-- Where a second byte stands, the text has two. Assumes nothing.
use mathlib.Core.Path.{◌∙◌}
use native.Mathlib.Omega.{arith}
use Rattle.lexemes.proofs.Sorting.{second, no_second, slash_line, slash_block, slash_mark}
use Rattle.lexemes.proofs.slash.Goals as goal

pub returns-in-Some-eq47 : goal.returns-in-Some-eq47
returns-in-Some-eq47 c =
    c.line_comment.ensures ∙ slash_line _ c.requires (second c.byte_at.ensures c.in-Some-eq47.is ∙ c.in-Some-eq47.field-0-test)

pub returns-in-Some-eq42 : goal.returns-in-Some-eq42
returns-in-Some-eq42 c =
    c.block_comment.ensures ∙ slash_block _ c.requires (second c.byte_at.ensures c.in-Some-eq42.is ∙ c.in-Some-eq42.field-0-test)

pub returns-in_default : goal.returns-in_default
returns-in_default c =
    slash_mark _ c.requires (λ f. c.in_default.field-0-test.0.1 (c.in_default.ensures ∙ f)) (λ f. c.in_default.field-0-test.1 (c.in_default.ensures ∙ f))

pub returns-in_default-2 : goal.returns-in_default-2
returns-in_default-2 c =
    let e = no_second c.byte_at.ensures c.in_default.is in
    slash_mark _ c.requires (λ f. omega (arith, e, f)) (λ f. omega (arith, e, f))
