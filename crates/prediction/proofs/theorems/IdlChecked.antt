-- Edition 1 passes its test: its plans derive what its rules derive, and each choice is made by one token.
-- Computed.
use lib.Dec.{T}
use Rattle.grammar.proofs.Facts.{idl_facts}
use Rattle.grammar.specs.Idl.{idl}
use Rattle.prediction.specs.plans.IdlPlans.{idl_prediction}
use Rattle.prediction.specs.validator.Check.{passes, Checked}

pub idl_passes : T (passes idl idl_prediction)
unfolding passes idl idl_prediction
idl_passes = tt

abbrev pub idl_checked : Checked idl
idl_checked = record { prediction = idl_prediction; passed = idl_passes; nested = idl_facts.rules_nest }
