-- `words::sorted` meets its contract: the search among the keywords near a word sorts it as the definition does.
-- The law of the search says so. Assumes nothing.
use mathlib.Core.Path.{◌∙◌}
use Rattle.words.proofs.Sorting.{near_enough}
use Rattle.words.proofs.sorted.Goals as goal

pub returns : goal.returns
returns c = c.search.ensures.value ∙ near_enough c.args.word.now
