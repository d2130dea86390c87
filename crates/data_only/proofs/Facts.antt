-- Facts on the rules of edition 3, as on those of edition 1; of the errors, two signs and the rank of shifts concern rules that it has.
-- Computed, each as one test over the table.
use mathlib.Core.Path.{◌≡◌, refl}
use mathlib.Core.List.{[], ◌∷◌}
use lib.Dec.{T}
use Rattle.kinds.specs.Kinds.{data_only_keywords, kind_of}
use Rattle.grammar.proofs.Facts.{Facts, each_side, spelled, joined, avoids_errors, unused_rules, numbered, terminals_are}
use Rattle.grammar.proofs.Facts.{empty_rules, recorded_always}
use Rattle.grammar.proofs.Nesting.{nests}
use Rattle.data_only.specs.DataOnly.{published, rule_names, data_only}

pub data_only_facts : Facts kind_of published rule_names data_only
unfolding each_side spelled joined avoids_errors unused_rules nests rule_names published data_only
data_only_facts = record { spelled_right = tt; strings_joined = tt; errors_avoided = tt; each_rule_used = refl; rules_nest = tt }

-- "Its rules have no numbers; count them from the top starting at 201"
pub rules_numbered : numbered data_only ≡ (201, 268)
unfolding numbered data_only
rules_numbered = refl

-- "Its keywords are its own alphabetic terminals"
pub each_kind_used : T (terminals_are kind_of data_only_keywords data_only)
unfolding terminals_are data_only_keywords data_only
each_kind_used = tt

pub no_empty_rule : empty_rules data_only ≡ []
unfolding empty_rules data_only
no_empty_rule = refl

-- "Specification is the only starred or repeated rule recorded always"
pub always_recorded : recorded_always data_only ≡ 201 ∷ []
unfolding recorded_always data_only
always_recorded = refl
