-- `text::run_of` meets its contract: the place of the first byte that is not of the class, or the length where all are.
-- The bytes before that place are the run. Assumes nothing.
use Rattle.std.proofs.Common.{◌∙◌, ℕ, not, rules, tests}
use Rattle.std.proofs.lemmas.Iterator.{YieldsList-from_slice}
use Rattle.std.proofs.lemmas.Iterator.Search.{position_from_yields_List}
use Rattle.text.proofs.Runs.{run_found}
use Rattle.text.proofs.run_of.Goals as goal

pub returns : goal.returns
returns g c =
    let text = c.args.text.now in
    let stops = λ (b : ℕ). not (g.C.Class.member b) in
    let found =
    position_from_yields_List stops _ _ c.position.result c.position.ensures.ran (YieldsList-from_slice text cc) (λ x b q k. search (rules, tests)) in
    rw found at c.unwrap_or.ensures ∙ run_found g.C.Class.member text
