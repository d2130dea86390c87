-- `words::word` meets its contract: the run at the front, sorted.
-- A run is no longer than the text, so the part that is lent has its length; a letter begins one. Assumes nothing.
use mathlib.Core.Path.{ap, sym, ◌∙◌}
use Prim.Native.Nat.{ℕ, ◌≤◌, ◌<◌}
use lib.ListN.{length, take}
use lib.Seq.{length-take-le, get_or-take}
use Rattle.text.specs.Bytes.{end, run, letter, wordly}
use Rattle.text.specs.Words.{spelled, sorted, word}
use Rattle.text.proofs.Runs.{run_within}
use Rattle.words.proofs.Sizes.{begun}
use Rattle.words.proofs.word.Goals as goal

pub slice_bounds-sorted-end : goal.slice_bounds-sorted-end
slice_bounds-sorted-end c =
    let bs = c.args.rest.now in
    let n : c.word_run.result ≤ length bs = rw c.word_run.ensures (run_within wordly bs) in
    sym (length-take-le c.word_run.result bs n)

-- the word starts with the text's first byte
pub sorted-requires : goal.sorted-requires
sorted-requires c =
    let bs = c.args.rest.now in
    let n : 0 < c.word_run.result = rw c.word_run.ensures (begun bs c.requires) in
    ap letter (get_or-take c.word_run.result bs 0 end n) ∙ c.requires

pub returns : goal.returns
unfolding word spelled
returns c =
    let bs = c.args.rest.now in
    c.sorted.ensures ∙ ap (λ (n : ℕ). sorted (take n bs) (length (take n bs))) c.word_run.ensures
    ∙ ap (sorted (spelled bs)) (length-take-le (run wordly bs) bs (run_within wordly bs))
