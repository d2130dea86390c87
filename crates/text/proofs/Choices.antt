-- Two tests at once, one of two tests, and the value that a test chooses: what holds of both values holds of the one that is chosen.
-- By the answers of the tests. Assumes nothing.
use mathlib.Core.Path.{◌≡◌, refl}
use mathlib.Core.Bool.{Bool, true, false, ◌&&◌, ◌||◌, cond, false≢true}

pub both : (x y : Bool) → x && y ≡ true → (x ≡ true) × (y ≡ true)
both true y e = (refl, e)
both false y e = absurd (false≢true e)

pub either : {P : Type 0} (x y : Bool) → (x ≡ true → P) → (y ≡ true → P) → x || y ≡ true → P
either true y f g e = f refl
either false y f g e = g e

pub choose : {A : Type 0} (P : A → Type 0) (test : Bool) {x y : A} → (test ≡ true → P x) → P y → P (cond test x y)
choose P true h k = h refl
choose P false h k = k
