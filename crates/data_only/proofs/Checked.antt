-- Edition 3 passes its test: its plans derive what its rules derive, and each choice is made by one token.
-- Computed.
use lib.Dec.{T}
use Rattle.data_only.proofs.Facts.{data_only_facts}
use Rattle.data_only.specs.DataOnly.{data_only}
use Rattle.prediction.specs.validator.Check.{passes, Checked}
use Rattle.data_only.specs.Plans.{data_only_prediction}

pub data_only_passes : T (passes data_only data_only_prediction)
unfolding passes data_only data_only_prediction
data_only_passes = tt

abbrev pub data_only_checked : Checked data_only
data_only_checked = record {
  prediction = data_only_prediction;
  passed = data_only_passes;
  nested = data_only_facts.rules_nest;
}
