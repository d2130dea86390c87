-- Edition 2 passes its test: its plans derive what its rules derive, and each choice is made by one token.
-- Computed.
use lib.Dec.{T}
use Rattle.components.proofs.Facts.{components_facts}
use Rattle.components.specs.Components.{components}
use Rattle.prediction.specs.validator.Check.{passes, Checked}
use Rattle.components.specs.Plans.{components_prediction}

pub components_passes : T (passes components components_prediction)
unfolding passes components components_prediction
components_passes = tt

abbrev pub components_checked : Checked components
components_checked = record {
  prediction = components_prediction;
  passed = components_passes;
  nested = components_facts.rules_nest;
}
