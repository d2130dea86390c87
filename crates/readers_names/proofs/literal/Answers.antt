-- `literal` reads rule 39: one token or a string literal in a frame of its own, or a boolean literal, whose node is passed on.
-- A choice takes the token that is there, strings by their kind; else the last alternative is read. Assumes nothing.
use Rattle.readers_core.proofs.Computing.{computing}
use Rattle.kinds.specs.Kinds.{integer, string}
use Rattle.grammar.specs.Names.{rule}
use Rattle.prediction.specs.plans.Plan.{seq}
use Rattle.prediction.specs.Sets.{row}
use Rattle.readers_core.proofs.Choosing.{AnyOf, among, any_row, except}
use Rattle.readers_core.proofs.Frames.{frame, passed_on, taken_of}
use Rattle.readers_core.proofs.Sequence.{◌▸◌}
use Rattle.readers_core.specs.Notation.{make}
use Rattle.readers_names.specs.Plans.{string_literal}
use Rattle.readers_names.proofs.Words.{chosen_by, comes_as, read_word}
use mathlib.Core.List.{[], ◌∷◌}
use mathlib.Core.Path.{refl}
use native.Mathlib.Omega.{arith}
use borrow.Author.Rules.{rules}
use Rattle.readers_names.proofs.literal.Goals as goal

pub returns-in-INTEGER : goal.returns-in-INTEGER
unfolding computing row
returns-in-INTEGER c =
    let next = c.next_kind-next in record {
      at_any = λ d. frame (rule "literal") (taken_of (among (row integer 5)) next.ensures
          (any_row integer 4 next.result (omega arith) (omega arith)) tt
          (read_word refl tt c.take-token.ensures c.node-in-INTEGER.ensures));
    }

pub returns-in-STRING_LITERAL : goal.returns-in-STRING_LITERAL
unfolding comes_as AnyOf row
returns-in-STRING_LITERAL c =
    let next = c.next_kind-next in record {
      at_any = λ d. frame (rule "literal") (chosen_by (λ k. seq (string_literal k) (make "literal")) (row string 2)
          next.ensures (any_row string 1 next.result (omega arith) (omega arith)) tt
          (((c.string_literal-strings.ensures.reads _ _).in_any _ _) ▸ (c.node.ensures.wraps refl _ _ _ tt)));
    }

pub returns-in_default : goal.returns-in_default
unfolding computing row
returns-in_default c =
    let next = c.next_kind-next in record {
      at_any = λ d. passed_on (rule "literal") (except (row integer 7 ∷ [])) next.ensures (search rules) refl tt
          (c.boolean_literal.ensures.at_any d);
    }
