-- The rules that editions 2 and 3 share with edition 1, each by its number in edition 1, and their numbers in edition 3.
-- Computed from the plans and the names of the rules.
use Rattle.std.specs.Prelude.{ℕ, suc, List, [], ◌∷◌, get_or}
use Prim.Native.String.{String}
use Rattle.kinds.specs.Kinds.{bytes, same, search_from}
use Rattle.grammar.specs.Idl.{published}
use Rattle.grammar.specs.Notation.{names, place}
use Rattle.prediction.specs.sharing.Renaming.{as_it_is}
use Rattle.prediction.specs.sharing.Shared.{shared_with_idl}
use Rattle.components.specs.Plans.{components_prediction}
use Rattle.data_only.specs.DataOnly as third
use Rattle.data_only.specs.DataOnly.{skipped}
use Rattle.data_only.specs.Plans.{data_only_prediction}

-- edition 2 has the numbers of edition 1
unfoldable pub shared_2 : List ℕ
unfolding shared_with_idl components_prediction
shared_2 = shared_with_idl as_it_is components_prediction.plans

-- the name in edition 3 of a rule of edition 1: of those that are shared, const_exp and enum_type have another there
unfoldable pub name_3 : String → String
name_3 w = get_or (w ∷ "const_expr" ∷ "enum_dcl" ∷ []) (place w ("const_exp" ∷ "enum_type" ∷ [])) w

-- the number in edition 3 of rule n of edition 1; 0 where no rule has its name
unfoldable pub number_3 : ℕ → ℕ
unfolding names published third.published name_3
number_3 n = search_from (suc skipped) same (bytes (name_3 (get_or ("" ∷ names published) n ""))) (names third.published)

unfoldable pub shared_3 : List ℕ
unfolding shared_with_idl number_3 data_only_prediction
shared_3 = shared_with_idl number_3 data_only_prediction.plans
