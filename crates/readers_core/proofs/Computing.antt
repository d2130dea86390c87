-- What the proof of a reader computes with: the plans of edition 1, what they come to, which uses are recorded.
-- A name for an `unfolding` line: it opens whatever its own line names.
use Rattle.prediction.specs.validator.Check.{table}
use Rattle.prediction.specs.validator.Fixpoint.{plan_at, round}
use Rattle.prediction.specs.plans.IdlPlans.{idl_prediction}
use Rattle.readers_core.specs.Reading.{all_recorded, none_recorded}
use Rattle.readers_core.proofs.Shapes.{leaves}
use Rattle.readers_core.proofs.Choosing.{Knows, choose, goes_on, is_over, one_of}
use Rattle.readers_core.proofs.Repetition.{repeats}
use Rattle.readers_core.proofs.Frames.{comes_to, passes_on}

unfoldable pub computing : Unit {0}
unfolding table round plan_at idl_prediction choose Knows goes_on is_over one_of repeats comes_to passes_on leaves all_recorded none_recorded
computing = tt
