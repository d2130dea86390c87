-- `literals::zeros` meets its contract: what `all` answered is the definition's test of each digit in turn.
-- The definition recurses as std's own does. Assumes nothing.
use mathlib.Core.Path.{refl, ◌∙◌}
use mathlib.Core.Bool.{◌&&◌}
use Prim.Native.Char.{code}
use Prim.Native.Nat.{ℕ}
use lib.Dec.{eqb}
use Rattle.std.specs.List.{list_all}
use Rattle.std.proofs.Common.{rules, tests}
use Rattle.std.proofs.lemmas.Iterator.{YieldsList-from_slice}
use Rattle.std.proofs.lemmas.Iterator.Search.{all_from_yields_List}
use Rattle.std.proofs.lemmas.List.Recursion.{same_from_clauses}
use Rattle.text.specs.Literals.{zeros}
use Rattle.literals.proofs.zeros.Goals as goal

pub returns : goal.returns
unfolding zeros
returns c =
    let digits = c.args.digits.now in
    let is_zero = λ (digit : ℕ). eqb digit (code "0") in
    let by_call = all_from_yields_List is_zero _ _ c.all.result c.all.ensures.ran (YieldsList-from_slice digits cc) (λ x b q k. search (rules, tests)) in
    by_call ∙ same_from_clauses (list_all is_zero) zeros (λ digit others. is_zero digit && others) refl (λ _ _. refl) (λ _ _. refl) digits
