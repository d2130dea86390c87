-- `const_type` reads rule 28: a number type in a frame of its own, or another rule, whose node is passed on.
-- The kind ahead tells which. Assumes nothing.
use Rattle.std.proofs.Common.{arith}
use Rattle.readers_core.proofs.Computing.{computing}
use Rattle.kinds.specs.Lists.{kinds_of}
use Rattle.grammar.specs.Names.{rule}
use Rattle.readers_core.proofs.Frames.{frame_on, passed_by, passed_on}
use Rattle.readers_core.proofs.Choosing.{among, except}
use Rattle.readers_core.proofs.Sequence.{◌▸◌, unrecorded}
use Rattle.readers_names.proofs.Words.{by_word, numbers, passes_word}
use Rattle.readers_types.specs.Plans.{string_rule, strings}
use Prim.Native.Nat.{ℕ}
use borrow.Author.Rules.{rules}
use mathlib.Core.List.{List, [], ◌∷◌}
use mathlib.Core.Path.{refl}
use Rattle.readers_types.proofs.const_type.Goals as goal

abbrev words : List ℕ
words = kinds_of ("boolean" ∷ "char" ∷ "fixed" ∷ "octet" ∷ "wchar" ∷ [])

pub returns-in-LONG : goal.returns-in-LONG
unfolding computing
returns-in-LONG c =
    frame_on (rule "const_type") (among numbers) c.next_kind-next.ensures (search rules)
    ((c.number_type.ensures.at_any _) ▸ unrecorded tt)

pub returns-in-CHAR : goal.returns-in-CHAR
unfolding passes_word
returns-in-CHAR c =
    by_word (rule "const_type") words c.next_kind-next.ensures (search rules)
    c.word_rule.ensures tt c.one_token.ensures

pub returns-in-STRING : goal.returns-in-STRING
unfolding passes_word
returns-in-STRING c =
    passed_by (rule "const_type") string_rule strings c.next_kind-next.ensures (search rules) tt
    c.string_type.ensures

pub returns-in_default : goal.returns-in_default
unfolding computing
returns-in_default c =
    passed_on (rule "const_type") (except (strings ∷ words ∷ numbers ∷ [])) c.next_kind-next.ensures
    (omega arith) refl tt (c.scoped_name.ensures.at_any _)
