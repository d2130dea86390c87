-- `switch_type_spec` reads rule 73, which passes another rule's node on.
-- The kind ahead tells which. Assumes nothing.
use Rattle.std.proofs.Common.{arith}
use Rattle.readers_core.proofs.Computing.{computing}
use Rattle.kinds.specs.Lists.{kinds_of, only}
use Rattle.grammar.specs.Names.{rule}
use Rattle.readers_core.proofs.Frames.{passed_on}
use Rattle.readers_core.proofs.Choosing.{among, except}
use Rattle.readers_names.proofs.Words.{by_word, passes_word}
use Prim.Native.Nat.{ℕ}
use borrow.Author.Rules.{rules}
use mathlib.Core.List.{List, [], ◌∷◌}
use mathlib.Core.Path.{refl}
use Rattle.readers_types.proofs.switch_type_spec.Goals as goal

abbrev integers : List ℕ
integers = kinds_of ("long" ∷ "short" ∷ "unsigned" ∷ [])

abbrev words : List ℕ
words = kinds_of ("boolean" ∷ "char" ∷ [])

pub returns-in-LONG : goal.returns-in-LONG
unfolding computing
returns-in-LONG c =
    passed_on (rule "switch_type_spec") (among integers) c.next_kind-next.ensures (search rules) refl tt
    (c.integer_type.ensures.at_any _)

pub returns-in-CHAR : goal.returns-in-CHAR
unfolding passes_word
returns-in-CHAR c =
    by_word (rule "switch_type_spec") words c.next_kind-next.ensures (search rules)
    c.word_rule.ensures tt c.one_token.ensures

pub returns-in-ENUM : goal.returns-in-ENUM
unfolding computing
returns-in-ENUM c =
    passed_on (rule "switch_type_spec") (among (only "enum")) c.next_kind-next.ensures (omega arith) refl tt
    c.enum_type.ensures

pub returns-in_default : goal.returns-in_default
unfolding computing
returns-in_default c =
    passed_on (rule "switch_type_spec") (except (only "enum" ∷ words ∷ integers ∷ [])) c.next_kind-next.ensures
    (omega arith) refl tt (c.scoped_name.ensures.at_any _)
