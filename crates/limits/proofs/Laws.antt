-- Which limits the constructor answers tells whether the call is good; the text of a good call is not too long.
-- By the cases of the tests. Assumes nothing.
use Rattle.std.proofs.Common.{◌≡◌, refl, ℕ, Bool, true, false, ◌&&◌, cond, Some, None}
use Rattle.limits.specs.declared.Limits.{Limits}
use Rattle.limits.specs.Limits.{good_text, good_depth, good_call, bounded}

none_false : (b : Bool) (l : Limits) → None ≡ cond b (Some l) None → b ≡ false
none_false true l e = cc
none_false false l e = refl

some_true : (b : Bool) (l m : Limits) → Some m ≡ cond b (Some l) None → b ≡ true
some_true true l m e = refl
some_true false l m e = cc

both_first : (a b : Bool) → (a && b) ≡ true → a ≡ true
both_first true b e = refl
both_first false b e = e

module _ (text setting : ℕ) where
  pub text_good : good_call text setting ≡ true → good_text text ≡ true
  text_good = both_first (good_text text) (good_depth setting)

  pub none_bad : None ≡ bounded text setting → good_call text setting ≡ false
  none_bad = none_false (good_call text setting) _

  pub some_good : {l : Limits} → Some l ≡ bounded text setting → good_call text setting ≡ true
  some_good {l} = some_true (good_call text setting) _ l
