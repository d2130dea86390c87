-- The courses of editions 2 and 3.
-- Assumes nothing: these are definitions.
use Rattle.std.specs.Prelude.{ℕ, cond, List, [], ◌∷◌, eqb}
use Rattle.prediction.specs.sharing.Renaming.{as_it_is}
use Rattle.components.specs.Components.{components}
use Rattle.components.proofs.Checked.{components_checked}
use Rattle.data_only.specs.DataOnly.{data_only}
use Rattle.data_only.proofs.Checked.{data_only_checked}
use Rattle.readers_core.specs.Course.{Course}
use Rattle.courses.specs.Shared.{number_3, shared_3}

-- readers write the numbers of its rules
abbrev pub two : Course
two = record { edition = components; checked = components_checked; code = as_it_is }

-- the first of the rules ns of edition 1 that has the number r in edition 3; r where none has
unfoldable pub written_as : (ns : List ℕ) (r : ℕ) → ℕ
unfolding number_3
written_as [] r = r
written_as (n ∷ ns) r = cond (eqb (number_3 n) r) n (written_as ns r)

-- for a rule that both editions share, readers write its number in edition 1
unfoldable pub code_3 : ℕ → ℕ
unfolding written_as shared_3
code_3 = written_as shared_3

abbrev pub three : Course
three = record { edition = data_only; checked = data_only_checked; code = code_3 }
