-- Editions 2 and 3 share 86 and 40 rules with edition 1: these have the same plans in both but for the numbers, and name no others.
-- Computed.
use mathlib.Core.Path.{◌≡◌, refl}
use mathlib.Core.List.{[], ◌∷◌, ◌++◌}
use lib.Dec.{T}
use Rattle.prediction.specs.sharing.Renaming.{as_it_is}
use Rattle.prediction.specs.Sets.{row, each}
use Rattle.prediction.specs.sharing.Shared.{agrees}
use Rattle.prediction.specs.plans.IdlPlans.{idl_prediction}
use Rattle.components.specs.Plans.{components_prediction}
use Rattle.data_only.specs.Plans.{data_only_prediction}
use Rattle.courses.specs.Shared.{shared_2, number_3, shared_3}

-- all but 1, 2, 9, 23 and 85, which edition 2 changes, and those that use them: 3, 4, 5, 8, 13, 16, 17 and 21
pub two_shares_these : shared_2 ≡ 6 ∷ 7 ∷ 10 ∷ 11 ∷ 12 ∷ 14 ∷ 15 ∷ 18 ∷ 19 ∷ 20 ∷ 22 ∷ row 24 61 ++ row 86 14
unfolding shared_2 row
two_shares_these = refl

pub agree_2 : T (each (agrees as_it_is idl_prediction.plans components_prediction.plans shared_2) shared_2)
unfolding each agrees shared_2 idl_prediction components_prediction
agree_2 = tt

-- names; constants and their expressions; declarators, types of a word or two; labels, enumerations, strings, arrays, fixed types
pub three_shares_these : shared_3 ≡ 12 ∷ row 27 15 ++ 51 ∷ row 53 14 ++ 76 ∷ 78 ∷ 79 ∷ 81 ∷ 82 ∷ 83 ∷ 84 ∷ 96 ∷ 97 ∷ []
unfolding shared_3 row
three_shares_these = refl

pub agree_3 : T (each (agrees number_3 idl_prediction.plans data_only_prediction.plans shared_3) shared_3)
unfolding each agrees number_3 shared_3 idl_prediction data_only_prediction
agree_3 = tt
