-- A sequence holds a simple type, which may be a sequence: four readers that call each other, each by its plan.
-- Remaining depth falls at the opening mark of a sequence, and else the rank of the reader. Assumes nothing.
use Rattle.kinds.specs.Lists.{kinds_of, only}
use Rattle.grammar.specs.Names.{rule}
use Rattle.readers_core.proofs.Frames.{frame, passed_by, passed_on}
use Rattle.readers_core.proofs.Choosing.{among, except}
use Rattle.readers_core.proofs.Groups.{enclosed, room, shut}
use Rattle.readers_core.proofs.Sequence.{◌▸◌}
use Rattle.readers_names.proofs.Words.{names, passes_word}
use Rattle.readers_types.specs.Plans.{string_rule, strings}
use Prim.Native.Nat.{ℕ}
use borrow.Author.Rules.{rules}
use mathlib.Core.List.{List, [], ◌∷◌}
use mathlib.Core.Path.{refl}
use native.Mathlib.Omega.{arith}
use Rattle.readers_types.proofs.+sequences.Goals as goal

-- the first words of template types
abbrev templates : List ℕ
templates = kinds_of ("fixed" ∷ "sequence" ∷ "string" ∷ "wstring" ∷ [])

pub sequence_body-returns-then-has_stopped : goal.sequence_body-returns-then-has_stopped
sequence_body-returns-then-has_stopped t c = shut c.open-inside.ensures c.has_stopped.ensures c.if-has_stopped.true

pub sequence_body-overflow_sub-depth : goal.sequence_body-overflow_sub-depth
sequence_body-overflow_sub-depth t c = omega (arith, room c.open-inside.ensures c.has_stopped.ensures c.if-has_stopped.false)

pub sequence_body-simple_type_spec-element-requires : goal.sequence_body-simple_type_spec-element-requires
sequence_body-simple_type_spec-element-requires t c =
    let left = room c.open-inside.ensures c.has_stopped.ensures c.if-has_stopped.false in omega arith

pub sequence_body-overflow_sub-depth-2 : goal.sequence_body-overflow_sub-depth-2
sequence_body-overflow_sub-depth-2 t c = omega (arith, room c.open-inside.ensures c.has_stopped.ensures c.if-has_stopped.false)

pub sequence_body-returns : goal.sequence_body-returns
sequence_body-returns t c =
    enclosed c.open-inside.ensures (record {
      in_any = λ start hs. (c.simple_type_spec-element.ensures.in_any _ _) ▸
          (c.sequence_bound-bound.ensures.in_any _ _);
    }) c.take.ensures

pub sequence_type-sequence_body-body-requires : goal.sequence_type-sequence_body-body-requires
sequence_type-sequence_body-body-requires t c = omega arith

pub sequence_type-returns : goal.sequence_type-returns
unfolding passes_word
sequence_type-returns t c =
    frame (rule "sequence_type") (((c.take-word.ensures.reads _ _).in_any _ _) ▸ (c.sequence_body-body.ensures.in_any _ _) ▸
    (c.node.ensures.wraps refl _ _ _ tt))

pub simple_type_spec-template_type_spec-requires : goal.simple_type_spec-template_type_spec-requires
simple_type_spec-template_type_spec-requires t c = omega arith

pub simple_type_spec-returns-in-SEQUENCE : goal.simple_type_spec-returns-in-SEQUENCE
unfolding passes_word
simple_type_spec-returns-in-SEQUENCE t c =
    passed_on (rule "simple_type_spec") (among templates) c.next_kind-next.ensures (search rules) refl tt c.template_type_spec.ensures

pub simple_type_spec-returns-in-IDENTIFIER : goal.simple_type_spec-returns-in-IDENTIFIER
unfolding passes_word
simple_type_spec-returns-in-IDENTIFIER t c =
    passed_on (rule "simple_type_spec") (among names) c.next_kind-next.ensures (search rules) refl tt (c.scoped_name.ensures.at_any _)

pub simple_type_spec-returns-in_default : goal.simple_type_spec-returns-in_default
unfolding passes_word
simple_type_spec-returns-in_default t c =
    passed_on (rule "simple_type_spec") (except (names ∷ templates ∷ [])) c.next_kind-next.ensures
    (omega arith) refl tt (c.base_type_spec.ensures.at_any _)

pub template_type_spec-sequence_type-requires : goal.template_type_spec-sequence_type-requires
template_type_spec-sequence_type-requires t c = omega arith

pub template_type_spec-returns-in-SEQUENCE : goal.template_type_spec-returns-in-SEQUENCE
unfolding passes_word
template_type_spec-returns-in-SEQUENCE t c =
    passed_on (rule "template_type_spec") (among (only "sequence")) c.next_kind-next.ensures (omega arith) refl tt
    c.sequence_type.ensures

pub template_type_spec-returns-in-STRING : goal.template_type_spec-returns-in-STRING
unfolding passes_word
template_type_spec-returns-in-STRING t c =
    passed_by (rule "template_type_spec") string_rule strings c.next_kind-next.ensures (search rules) tt c.string_type.ensures

pub template_type_spec-returns-in_default : goal.template_type_spec-returns-in_default
unfolding passes_word
template_type_spec-returns-in_default t c =
    passed_on (rule "template_type_spec") (except (strings ∷ only "sequence" ∷ [])) c.next_kind-next.ensures
    (omega arith) refl tt c.fixed_pt_type.ensures
