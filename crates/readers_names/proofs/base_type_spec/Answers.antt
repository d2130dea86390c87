-- `base_type_spec` reads rule 46: a number type in a frame of its own, or a rule of one word, whose node is passed on.
-- The kind ahead tells which. Assumes nothing.
use Rattle.std.proofs.Common.{arith}
use Rattle.readers_core.proofs.Computing.{computing}
use Rattle.kinds.specs.Lists.{kinds_of}
use Rattle.grammar.specs.Names.{rule}
use Rattle.readers_core.proofs.Frames.{frame_on, passed_on}
use Rattle.readers_core.proofs.Choosing.{among, except}
use Rattle.readers_core.proofs.Sequence.{◌▸◌, unrecorded}
use Rattle.readers_names.proofs.Words.{by_word, numbers, passes_word}
use Prim.Native.Nat.{ℕ}
use borrow.Author.Rules.{rules}
use mathlib.Core.List.{List, [], ◌∷◌}
use mathlib.Core.Path.{refl}
use Rattle.readers_names.proofs.base_type_spec.Goals as goal

abbrev words : List ℕ
words = kinds_of ("Object" ∷ "any" ∷ "boolean" ∷ "char" ∷ "octet" ∷ "wchar" ∷ [])

pub returns-in-LONG : goal.returns-in-LONG
unfolding computing
returns-in-LONG c =
    record {
      at_any = λ d. frame_on (rule "base_type_spec") (among numbers) c.next_kind-next.ensures (search rules)
          ((c.number_type.ensures.at_any _) ▸ unrecorded tt);
    }

pub returns-in-CHAR : goal.returns-in-CHAR
unfolding passes_word
returns-in-CHAR c =
    record {
      at_any = λ d. by_word (rule "base_type_spec") words c.next_kind-next.ensures (search rules)
          c.word_rule.ensures tt c.one_token-in-CHAR.ensures;
    }

pub returns-in_default : goal.returns-in_default
unfolding computing
returns-in_default c =
    record {
      at_any = λ d. passed_on (rule "base_type_spec") (except (words ∷ numbers ∷ [])) c.next_kind-next.ensures
          (omega arith) refl tt ((c.one_token.ensures.reads refl refl).at_any d);
    }
