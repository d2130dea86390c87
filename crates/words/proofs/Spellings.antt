-- Spellings compared: the same, the same but for case, or near, byte by byte.
-- By induction on the two spellings. Assumes nothing.
use mathlib.Core.Path.{◌≡◌, refl, ap, sym, ◌∙◌}
use mathlib.Core.Bool.{Bool, true, false, false≢true, and-eq-true_iff}
use mathlib.Core.List.{List, [], ◌∷◌}
use Prim.Native.Nat.{ℕ, suc}
use borrow.Author.Tests.{eqb-true, eq-eqb}
use lib.Dec.{eqb}
use lib.ListN.{length}
use Rattle.kinds.specs.Kinds.{same}
use Rattle.text.specs.Bytes.{at}
use Rattle.text.specs.Words.{lower, same_but_case}
use Rattle.words.specs.Search.{near, near_to}

-- what fails where a weaker test fails
pub unless : (a b : Bool) → (a ≡ true → b ≡ true) → b ≡ false → a ≡ false
unless true b f e = sym (f refl) ∙ e
unless false b f e = refl

-- by what a test answers
pub either : {C : Type 0} (b : Bool) → (b ≡ true → C) → (b ≡ false → C) → C
either true = λ yes no. yes refl
either false = λ yes no. no refl

pub same_equal : (w v : List ℕ) → same w v ≡ true → w ≡ v
same_equal [] [] e = refl
same_equal [] (y ∷ ys) e = absurd (false≢true e)
same_equal (x ∷ xs) [] e = absurd (false≢true e)
same_equal (x ∷ xs) (y ∷ ys) e =
    let p = (and-eq-true_iff (eqb x y) (same xs ys)).0 e in
    let a = eqb-true x y p.0 in
    let b = same_equal xs ys p.1 in
    cc

pub same_reflexive : (v : List ℕ) → same v v ≡ true
same_reflexive [] = refl
same_reflexive (x ∷ xs) = rw (eq-eqb x x refl, same_reflexive xs)

case_reflexive : (v : List ℕ) → same_but_case v v ≡ true
unfolding same_but_case
case_reflexive [] = refl
case_reflexive (x ∷ xs) = rw (eq-eqb (lower x) (lower x) refl, case_reflexive xs)

-- spelled the same, they are the same but for case
pub same_case : (w v : List ℕ) → same w v ≡ true → same_but_case w v ≡ true
same_case w v e = ap (same_but_case w) (sym (same_equal w v e)) ∙ case_reflexive w

-- the same but for case, they are so as each other spelling
pub case_like : (w v x : List ℕ) → same_but_case w v ≡ true → same_but_case w x ≡ same_but_case v x
unfolding same_but_case
case_like [] [] x e = refl
case_like [] (b ∷ v) x e = absurd (false≢true e)
case_like (a ∷ w) [] x e = absurd (false≢true e)
case_like (a ∷ w) (b ∷ v) [] e = refl
case_like (a ∷ w) (b ∷ v) (c ∷ x) e =
    let p = (and-eq-true_iff (eqb (lower a) (lower b)) (same_but_case w v)).0 e in
    rw (eqb-true (lower a) (lower b) p.0, case_like w v x p.1)

case_length : (w v : List ℕ) → same_but_case w v ≡ true → length w ≡ length v
unfolding same_but_case
case_length [] [] e = refl
case_length [] (y ∷ ys) e = absurd (false≢true e)
case_length (x ∷ xs) [] e = absurd (false≢true e)
case_length (x ∷ xs) (y ∷ ys) e = ap suc (case_length xs ys ((and-eq-true_iff (eqb (lower x) (lower y)) (same_but_case xs ys)).0 e).1)

case_letter : (w v : List ℕ) → same_but_case w v ≡ true → lower (at w 0) ≡ lower (at v 0)
unfolding same_but_case
case_letter [] [] e = refl
case_letter [] (y ∷ ys) e = absurd (false≢true e)
case_letter (x ∷ xs) [] e = absurd (false≢true e)
case_letter (x ∷ xs) (y ∷ ys) e = eqb-true (lower x) (lower y) ((and-eq-true_iff (eqb (lower x) (lower y)) (same_but_case xs ys)).0 e).0

-- the same but for case, they have one length and, case aside, one first letter
pub case_near : (w v : List ℕ) → same_but_case w v ≡ true → near_to w v ≡ true
unfolding near
case_near w v e = rw (eq-eqb (length w) (length v) (case_length w v e), eq-eqb (lower (at w 0)) (lower (at v 0)) (case_letter w v e))

-- a spelling near another has its length and, case aside, its first letter
pub near_length : (letter n : ℕ) (v : List ℕ) → near letter n v ≡ true → n ≡ length v
unfolding near
near_length letter n v e = eqb-true n (length v) ((and-eq-true_iff (eqb n (length v)) (eqb letter (lower (at v 0)))).0 e).0

pub near_letter : (letter n : ℕ) (v : List ℕ) → near letter n v ≡ true → letter ≡ lower (at v 0)
unfolding near
near_letter letter n v e = eqb-true letter (lower (at v 0)) ((and-eq-true_iff (eqb n (length v)) (eqb letter (lower (at v 0)))).0 e).1
