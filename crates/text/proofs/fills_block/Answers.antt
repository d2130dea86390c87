-- `text::fills_block` meets its contract: the run fills the block where every byte of it is of the class.
-- By induction on the bytes. Assumes nothing.
use Rattle.std.proofs.Common.{◌∙◌, ◌&&◌, ap, true, Bool, ℕ, leb, rules, tests}
use Rattle.std.proofs.lemmas.Iterator.{YieldsList-from_slice}
use Rattle.std.proofs.lemmas.Iterator.Consumers.{fold_from_yields_List}
use Rattle.text.specs.Bytes.{run}
use Rattle.text.proofs.Blocks.{fills}
use Rattle.text.proofs.fills_block.Goals as goal

pub returns : goal.returns
returns g c =
    let class = g.C.Class.member in
    let bytes = c.args.bytes.now in
    let both = λ (all : Bool) (b : ℕ). all && class b in
    let folded =
    fold_from_yields_List _ both true c.fold.result c.fold.ensures.ran (YieldsList-from_slice bytes cc) (λ a x b q k. search (rules, tests)) in
    folded ∙ fills class bytes ∙ ap (λ (n : ℕ). leb n (run class bytes)) (search rules)
