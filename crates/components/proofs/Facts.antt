-- Facts on the rules of edition 2, as on those of edition 1; and which of these it changes.
-- Computed, each as one test over the table.
use mathlib.Core.Path.{◌≡◌, refl}
use mathlib.Core.Bool.{not, decide}
use mathlib.Core.List.{[], ◌∷◌, ◌++◌}
use native.Mathlib.Decide.{ℕ_discrete}
use lib.Dec.{T}
use Rattle.kinds.specs.Kinds.{keywords, component_keywords, component_kind_of}
use Rattle.grammar.specs.Idl.{idl}
use Rattle.grammar.specs.Notation.{names}
use Rattle.grammar.specs.Record.{tree_record, records}
use Rattle.grammar.specs.Rule.{right_side, RightSide-discrete}
use Rattle.grammar.proofs.Facts.{Facts, each_side, spelled, joined, avoids_errors, unused_rules, numbered, terminals_are}
use Rattle.grammar.proofs.Facts.{empty_rules, recorded_always, chosen, empty_declared}
use Rattle.grammar.proofs.Nesting.{nests}
use Rattle.components.specs.Components.{published, components}

pub components_facts : Facts component_kind_of published (names published) components
unfolding each_side spelled joined avoids_errors unused_rules nests component_kind_of names published components
components_facts = record { spelled_right = tt; strings_joined = tt; errors_avoided = tt; each_rule_used = refl; rules_nest = tt }

pub rules_numbered : numbered components ≡ (1, 138)
unfolding numbered components
rules_numbered = refl

-- the 48 keywords, and "17 more keywords"
pub each_kind_used : T (terminals_are component_kind_of (keywords ++ component_keywords) components)
unfolding terminals_are component_kind_of component_keywords components
each_kind_used = tt

-- the bodies of an interface and of a component may be empty, and nothing else
pub two_empty_rules : empty_rules components ≡ 8 ∷ 118 ∷ []
unfolding empty_rules components
two_empty_rules = refl

pub always_recorded : recorded_always components ≡ 1 ∷ 8 ∷ []
unfolding recorded_always components
always_recorded = refl

-- the rules of edition 1 that edition 2 changes: all others are the same in both, repairs and joined strings with them
pub rules_changed : chosen
    (λ r. not (decide (RightSide-discrete ℕ_discrete (right_side idl r) (right_side components r)))) idl ≡
    1 ∷ 2 ∷ 9 ∷ 23 ∷ 85 ∷ []
unfolding chosen right_side idl components decide ℕ_discrete
rules_changed = refl

-- `component C { };`: the empty body is recorded at the token number of its "}"
pub empty_body_recorded : records components 0 (empty_declared (component_kind_of "component") 115 118 114 112) ≡
    tree_record 115 0 2 1 ∷ tree_record 118 3 3 1 ∷ tree_record 114 0 4 3 ∷ tree_record 2 0 5 4 ∷ tree_record 1 0 5 5 ∷ []
unfolding records empty_declared components
empty_body_recorded = refl
