-- `level_of` tells the level that a kind is an operator of.
-- The operators of a level stand in a row of kinds, and all of them do. Assumes nothing.
use Rattle.std.proofs.Common.{◌≡◌, ◌≤◌, refl, ap, arith, rules}
use Rattle.grammar.specs.Names.{rule}
use Rattle.kinds.specs.Kinds.{kind_of}
use Rattle.prediction.specs.Sets.{each, row}
use Rattle.readers_expressions.proofs.Operations.{in_row, outside}
use Rattle.readers_expressions.specs.Levels.{level_of, some_level}
use Rattle.readers_expressions.proofs.level_of.Goals as goal

pub returns-in-BAR : goal.returns-in-BAR
unfolding level_of
returns-in-BAR c = let e : c.args.kind ≡ kind_of "|" = omega arith in rw e refl

pub returns-in-CARET : goal.returns-in-CARET
unfolding level_of
returns-in-CARET c = let e : c.args.kind ≡ kind_of "^" = omega arith in rw e refl

pub returns-in-AMPERSAND : goal.returns-in-AMPERSAND
unfolding level_of
returns-in-AMPERSAND c = let e : c.args.kind ≡ kind_of "&" = omega arith in rw e refl

pub returns-in-SHIFT_RIGHT : goal.returns-in-SHIFT_RIGHT
unfolding level_of each row
returns-in-SHIFT_RIGHT c =
    let x = c.args.kind in
    let h : (kind_of ">>" ≤ x) × (x ≤ kind_of "<<") = search rules in
    ap some_level (in_row (rule "shift_expr") (kind_of ">>") (kind_of "<<") x tt h.0 h.1)

pub returns-in-PLUS : goal.returns-in-PLUS
unfolding level_of each row
returns-in-PLUS c =
    let x = c.args.kind in
    let h : (kind_of "+" ≤ x) × (x ≤ kind_of "-") = search rules in
    ap some_level (in_row (rule "add_expr") (kind_of "+") (kind_of "-") x tt h.0 h.1)

pub returns-in-STAR : goal.returns-in-STAR
unfolding level_of each row
returns-in-STAR c =
    let x = c.args.kind in
    let h : (kind_of "*" ≤ x) × (x ≤ kind_of "%") = search rules in
    ap some_level (in_row (rule "mult_expr") (kind_of "*") (kind_of "%") x tt h.0 h.1)

pub returns-in_default : goal.returns-in_default
returns-in_default c = ap some_level (outside c.args.kind (search rules))
