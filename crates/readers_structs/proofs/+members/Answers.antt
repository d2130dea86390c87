-- Types hold members that hold types: type, struct, member and union readers call each other, each by its plan.
-- Remaining depth falls at each opening mark, and else the rank of the reader. Assumes nothing.
use Rattle.std.proofs.Common.{rules}
use mathlib.Core.List.{[], ◌∷◌}
use mathlib.Core.Path.{refl}
use native.Mathlib.Omega.{arith}
use Rattle.kinds.specs.Lists.{kinds_of, only}
use Rattle.grammar.specs.Names.{rule}
use Rattle.readers_core.proofs.Computing.{computing}
use Rattle.readers_core.proofs.Choosing.{among, except}
use Rattle.readers_core.proofs.Frames.{frame, passed_on}
use Rattle.readers_core.proofs.Groups.{enclosed, room, shut}
use Rattle.readers_core.proofs.Lists.{one_part, several_parts}
use Rattle.readers_core.proofs.Loops.{no_turn, turn_less, turn_again, turned}
use Rattle.readers_core.proofs.Sequence.{◌▸◌}
use Rattle.readers_core.proofs.Starts.{is_in, is_out}
use Rattle.readers_structs.specs.Plans.{case_starts, type_starts}
use Rattle.readers_structs.proofs.+members.Goals as goal

pub case_clause-element_spec-element-requires : goal.case_clause-element_spec-element-requires
case_clause-element_spec-element-requires t c = omega arith

pub case_clause-returns : goal.case_clause-returns
unfolding computing
case_clause-returns t c =
    frame (rule "case") ((c.case_label-label.ensures.in_any _ _) ▸ (c.further_labels-labels.ensures.in_any _ _) ▸
    (c.element_spec-element.ensures.in_any _ _) ▸ ((c.take-end.ensures.reads _ _).in_any _ _) ▸
    (c.node.ensures.wraps refl _ _ _ tt))

pub constr_type_spec-struct_type-requires : goal.constr_type_spec-struct_type-requires
constr_type_spec-struct_type-requires t c = omega arith

pub constr_type_spec-union_type-requires : goal.constr_type_spec-union_type-requires
constr_type_spec-union_type-requires t c = omega arith

pub constr_type_spec-returns-in-STRUCT : goal.constr_type_spec-returns-in-STRUCT
unfolding computing
constr_type_spec-returns-in-STRUCT t c =
    passed_on (rule "constr_type_spec") (among (only "struct")) c.next_kind-next.ensures (omega arith) refl tt c.struct_type.ensures

pub constr_type_spec-returns-in-UNION : goal.constr_type_spec-returns-in-UNION
unfolding computing
constr_type_spec-returns-in-UNION t c =
    passed_on (rule "constr_type_spec") (among (only "union")) c.next_kind-next.ensures (omega arith) refl tt c.union_type.ensures

pub constr_type_spec-returns-in_default : goal.constr_type_spec-returns-in_default
unfolding computing
constr_type_spec-returns-in_default t c =
    passed_on (rule "constr_type_spec") (except (only "union" ∷ only "struct" ∷ [])) c.next_kind-next.ensures
    (omega arith) refl tt c.enum_type.ensures

pub element_spec-type_spec-spec-requires : goal.element_spec-type_spec-spec-requires
element_spec-type_spec-spec-requires t c = omega arith

pub element_spec-returns : goal.element_spec-returns
unfolding computing
element_spec-returns t c =
    frame (rule "element_spec") ((c.type_spec-spec.ensures.in_any _ _) ▸ (c.declarator-name.ensures.in_any _ _) ▸
    (c.node.ensures.wraps refl _ _ _ tt))

pub further_cases-loop-tokens-init : goal.further_cases-loop-tokens-init
further_cases-loop-tokens-init t c = no_turn

pub further_cases-case_clause-last-requires : goal.further_cases-case_clause-last-requires
further_cases-case_clause-last-requires t c = omega arith

pub further_cases-loop-tokens-smaller : goal.further_cases-loop-tokens-smaller
unfolding computing
further_cases-loop-tokens-smaller t c =
    turn_less case_starts c.next_kind.ensures (is_in case_starts _ c.starts_case.ensures c.loop-tokens-test.true) tt
    c.case_clause-last.ensures

pub further_cases-loop-tokens-preserved : goal.further_cases-loop-tokens-preserved
unfolding computing
further_cases-loop-tokens-preserved t c =
    turn_again case_starts c.next_kind.ensures (is_in case_starts _ c.starts_case.ensures c.loop-tokens-test.true) tt
    c.case_clause-last.ensures c.case_clause-last.auto.tree c.loop-tokens.invariant

pub further_cases-returns : goal.further_cases-returns
unfolding computing
further_cases-returns t c =
    turned case_starts c.next_kind.ensures (is_out case_starts _ c.starts_case.ensures c.loop-tokens-test.false) tt
    c.loop-tokens.invariant

pub further_members-loop-tokens-init : goal.further_members-loop-tokens-init
further_members-loop-tokens-init t c = no_turn

pub further_members-member-last-requires : goal.further_members-member-last-requires
further_members-member-last-requires t c = omega arith

pub further_members-loop-tokens-smaller : goal.further_members-loop-tokens-smaller
unfolding computing
further_members-loop-tokens-smaller t c =
    turn_less type_starts c.next_kind.ensures (is_in type_starts _ c.starts_type.ensures c.loop-tokens-test.true) tt
    c.member-last.ensures

pub further_members-loop-tokens-preserved : goal.further_members-loop-tokens-preserved
unfolding computing
further_members-loop-tokens-preserved t c =
    turn_again type_starts c.next_kind.ensures (is_in type_starts _ c.starts_type.ensures c.loop-tokens-test.true) tt
    c.member-last.ensures c.member-last.auto.tree c.loop-tokens.invariant

pub further_members-returns : goal.further_members-returns
unfolding computing
further_members-returns t c =
    turned type_starts c.next_kind.ensures (is_out type_starts _ c.starts_type.ensures c.loop-tokens-test.false) tt
    c.loop-tokens.invariant

pub member-type_spec-spec-requires : goal.member-type_spec-spec-requires
member-type_spec-spec-requires t c = omega arith

pub member-returns : goal.member-returns
unfolding computing
member-returns t c =
    frame (rule "member") ((c.type_spec-spec.ensures.in_any _ _) ▸ (c.declarators-names.ensures.in_any _ _) ▸
    ((c.take-end.ensures.reads _ _).in_any _ _) ▸ (c.node.ensures.wraps refl _ _ _ tt))

pub member_list-member-first-requires : goal.member_list-member-first-requires
member_list-member-first-requires t c = omega arith

pub member_list-further_members-last-requires : goal.member_list-further_members-last-requires
member_list-further_members-last-requires t c = omega arith

pub member_list-returns-then-starts_type : goal.member_list-returns-then-starts_type
unfolding computing
member_list-returns-then-starts_type t c =
    several_parts refl c.member-first.ensures (among type_starts) c.next_kind.ensures
    (is_in type_starts _ c.starts_type.ensures c.if-starts_type.true) tt c.further_members-last.ensures refl c.node.ensures tt

pub member_list-returns : goal.member_list-returns
unfolding computing
member_list-returns t c =
    one_part refl c.member-first.ensures (except (type_starts ∷ [])) c.next_kind.ensures
    (is_out type_starts _ c.starts_type.ensures c.if-starts_type.false) (λ u. u) tt tt

pub struct_body-returns-then-has_stopped : goal.struct_body-returns-then-has_stopped
unfolding computing
struct_body-returns-then-has_stopped t c = shut c.open-inside.ensures c.has_stopped.ensures c.if-has_stopped.true

pub struct_body-overflow_sub-depth : goal.struct_body-overflow_sub-depth
struct_body-overflow_sub-depth t c = omega (arith, room c.open-inside.ensures c.has_stopped.ensures c.if-has_stopped.false)

pub struct_body-member_list-members-requires : goal.struct_body-member_list-members-requires
struct_body-member_list-members-requires t c =
    let pre = c.requires in omega (arith, pre, room c.open-inside.ensures c.has_stopped.ensures c.if-has_stopped.false)

pub struct_body-returns : goal.struct_body-returns
unfolding computing
struct_body-returns t c = enclosed c.open-inside.ensures c.member_list-members.ensures c.take.ensures

pub struct_type-struct_body-body-requires : goal.struct_type-struct_body-body-requires
struct_type-struct_body-body-requires t c = omega arith

pub struct_type-returns : goal.struct_type-returns
unfolding computing
struct_type-returns t c =
    frame (rule "struct_type") (((c.take-word.ensures.reads _ _).in_any _ _) ▸ ((c.take-name.ensures.reads _ _).in_any _ _) ▸
    (c.struct_body-body.ensures.in_any _ _) ▸ (c.node.ensures.wraps refl _ _ _ tt))

pub switch_block-returns-then-has_stopped : goal.switch_block-returns-then-has_stopped
unfolding computing
switch_block-returns-then-has_stopped t c = shut c.open-inside.ensures c.has_stopped.ensures c.if-has_stopped.true

pub switch_block-overflow_sub-depth : goal.switch_block-overflow_sub-depth
switch_block-overflow_sub-depth t c = omega (arith, room c.open-inside.ensures c.has_stopped.ensures c.if-has_stopped.false)

pub switch_block-switch_body-cases-requires : goal.switch_block-switch_body-cases-requires
switch_block-switch_body-cases-requires t c =
    let pre = c.requires in omega (arith, pre, room c.open-inside.ensures c.has_stopped.ensures c.if-has_stopped.false)

pub switch_block-returns : goal.switch_block-returns
unfolding computing
switch_block-returns t c = enclosed c.open-inside.ensures c.switch_body-cases.ensures c.take.ensures

pub switch_body-case_clause-first-requires : goal.switch_body-case_clause-first-requires
switch_body-case_clause-first-requires t c = omega arith

pub switch_body-further_cases-last-requires : goal.switch_body-further_cases-last-requires
switch_body-further_cases-last-requires t c = omega arith

pub switch_body-returns-then-starts_case : goal.switch_body-returns-then-starts_case
unfolding computing
switch_body-returns-then-starts_case t c =
    several_parts refl c.case_clause-first.ensures (among case_starts) c.next_kind.ensures
    (is_in case_starts _ c.starts_case.ensures c.if-starts_case.true) tt c.further_cases-last.ensures refl c.node.ensures tt

pub switch_body-returns : goal.switch_body-returns
unfolding computing
switch_body-returns t c =
    one_part refl c.case_clause-first.ensures (except (case_starts ∷ [])) c.next_kind.ensures
    (is_out case_starts _ c.starts_case.ensures c.if-starts_case.false) (λ u. u) tt tt

pub type_spec-constr_type_spec-requires : goal.type_spec-constr_type_spec-requires
type_spec-constr_type_spec-requires t c = omega arith

pub type_spec-returns-in-STRUCT : goal.type_spec-returns-in-STRUCT
unfolding computing
type_spec-returns-in-STRUCT t c =
    passed_on (rule "type_spec") (among (kinds_of ("enum" ∷ "struct" ∷ "union" ∷ []))) c.next_kind-next.ensures (search rules) refl tt
    c.constr_type_spec.ensures

pub type_spec-returns-in_default : goal.type_spec-returns-in_default
unfolding computing
type_spec-returns-in_default t c =
    passed_on (rule "type_spec") (except (kinds_of ("enum" ∷ "struct" ∷ "union" ∷ []) ∷ [])) c.next_kind-next.ensures
    (omega arith) refl tt c.simple_type_spec.ensures

pub union_rest-switch_block-block-requires : goal.union_rest-switch_block-block-requires
union_rest-switch_block-block-requires t c = omega arith

pub union_rest-returns : goal.union_rest-returns
unfolding computing
union_rest-returns t c =
    record {
      of_any = λ hs. ((c.take-word.ensures.reads _ _).in_any _ _) ▸ (c.switch_head-head.ensures.in_any _ _) ▸
          (c.switch_block-block.ensures.in_any _ _) ▸ (c.node.ensures.wraps refl _ _ _ tt);
    }

pub union_type-union_rest-requires : goal.union_type-union_rest-requires
union_type-union_rest-requires t c = omega arith

pub union_type-returns : goal.union_type-returns
unfolding computing
union_type-returns t c =
    frame (rule "union_type") (((c.take-word.ensures.reads _ _).in_any _ _) ▸ ((c.take-name.ensures.reads _ _).in_any _ _) ▸
    (c.union_rest.ensures.of_any _))
