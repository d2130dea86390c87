-- `tokens::past_space` meets its contract: no white space, one byte of it, or a run that is counted.
-- The run stands in the rest of the text, so its end lies in the text. Assumes nothing.
use Prim.Native.Nat.{ℕ, zero, suc, ◌<◌}
use mathlib.Core.Bool.{true, false≢true}
use mathlib.Core.List.{List, [], ◌∷◌}
use mathlib.Core.Path.{◌≡◌, ap, sym, ◌∙◌}
use native.Mathlib.Numerals.{add-one}
use native.Mathlib.Omega.{arith}
use lib.ListN.{length, drop, length-drop}
use Rattle.text.specs.Bytes.{at, space}
use Rattle.text.proofs.Rests.{rest}
use Rattle.text.proofs.Runs.{run_within, run_none_at, run_one_at}
use Rattle.tokens.proofs.past_space.Goals as goal

-- white space stands inside the text
space_inside : (bs : List ℕ) (n : ℕ) → space (at bs n) ≡ true → n < length bs
unfolding space
space_inside [] n e = absurd (false≢true e)
space_inside (b ∷ bs) zero e = omega arith
space_inside (b ∷ bs) (suc n) e = let l = space_inside bs n e in omega arith

pub returns-then-not-is_space_at : goal.returns-then-not-is_space_at
returns-then-not-is_space_at c =
    let args = c.args in
    let none = run_none_at space args.text.now args.place (sym c.is_space_at.ensures ∙ c.if-not-is_space_at.true) in
    omega arith

-- the first byte is white space
pub returns-then-not-is_space_at-2 : goal.returns-then-not-is_space_at-2
returns-then-not-is_space_at-2 c =
    let text = c.args.text.now in
    let place = c.args.place in
    let first = sym c.is_space_at.ensures ∙ c.if-not-is_space_at.false in
    let one =
    run_one_at space text place (space_inside text place first) first
    (ap (λ (n : ℕ). space (at text n)) (sym (add-one place)) ∙ sym c.is_space_at-2.ensures ∙ c.if-not-is_space_at-2.true) in
    omega arith

-- what was counted is the run in the rest of the text
pub overflow_add-result-2 : goal.overflow_add-result-2
overflow_add-result-2 c =
    let text = c.args.text.now in
    let place = c.args.place in
    let counted = rw (rest text place) at c.space_run.ensures in
    omega (arith, counted, run_within space (drop place text), length-drop place text)
