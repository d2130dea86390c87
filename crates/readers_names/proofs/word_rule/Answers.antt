-- `word_rule` gives the rule of a type that is one word.
-- By the kind; of one that is none of theirs no test holds. Assumes nothing.
use Rattle.std.proofs.Common.{◌≡◌, refl, arith, rules}
use Rattle.readers_core.proofs.Choosing.{AnyOf, NoneOf}
use Rattle.readers_names.specs.Plans.{rule_in, words}
use Rattle.readers_names.proofs.Words.{otherwise}
use Rattle.readers_names.proofs.word_rule.Goals as goal

pub returns-in-CHAR : goal.returns-in-CHAR
unfolding rule_in
returns-in-CHAR c = let e : c.args.kind ≡ 25 = omega arith in rw e refl

pub returns-in-WCHAR : goal.returns-in-WCHAR
unfolding rule_in
returns-in-WCHAR c = let e : c.args.kind ≡ 62 = omega arith in rw e refl

pub returns-in-BOOLEAN : goal.returns-in-BOOLEAN
unfolding rule_in
returns-in-BOOLEAN c = let e : c.args.kind ≡ 23 = omega arith in rw e refl

pub returns-in-OCTET : goal.returns-in-OCTET
unfolding rule_in
returns-in-OCTET c = let e : c.args.kind ≡ 43 = omega arith in rw e refl

pub returns-in-ANY : goal.returns-in-ANY
unfolding rule_in
returns-in-ANY c = let e : c.args.kind ≡ 21 = omega arith in rw e refl

pub returns-in-OBJECT : goal.returns-in-OBJECT
unfolding rule_in
returns-in-OBJECT c = let e : c.args.kind ≡ 17 = omega arith in rw e refl

pub returns-in-FIXED : goal.returns-in-FIXED
unfolding rule_in
returns-in-FIXED c = let e : c.args.kind ≡ 34 = omega arith in rw e refl

pub returns-in_default : goal.returns-in_default
unfolding rule_in NoneOf AnyOf
returns-in_default c = otherwise words c.args.kind (search rules)
