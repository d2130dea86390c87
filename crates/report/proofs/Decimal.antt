-- What std writes for a 32-bit number is the number in decimal digits, as the definition has it, and those are ten at most.
-- By induction on the digits: a number of two or more digits has one more than its tenth part. Assumes nothing.
use Rattle.std.proofs.Common.{◌≡◌, ℕ, zero, suc, ◌/◌, ◌%◌, ◌^◌, ◌<◌, ◌≤◌}
use Rattle.std.proofs.Common.{Bool, true, false, cond, List, [], ◌∷◌, ◌++◌, refl, sym, ◌∙◌, arith, length, append_assoc, append-nil}
use Rattle.std.specs.Fmt.{decimal, digits, digits_onto}
use native.Mathlib.Nat.{pow-succ'}
use borrow.Author.Tests.{eq-eqb, ne_eqb, ltb-true, ltb-false}
use lib.Dec.{ltb}
use lib.ListN.{length-append}
use Rattle.io.specs.Digits.{hex_digit_ascii, last_digits}
use Rattle.report.specs.Report.{base, further_digits, width, number}

one_digit : (k n : ℕ) (list : List ℕ) → n < base → digits_onto (suc k) base false n list ≡ hex_digit_ascii (n % base) ∷ list
one_digit k n list low =
    let none : n / base ≡ 0 = omega arith in
    simp (eq-eqb _ _ none)

more_digits : (k n : ℕ) (list : List ℕ) → base ≤ n →
    digits_onto (suc k) base false n list ≡ digits_onto k base false (n / base) (hex_digit_ascii (n % base) ∷ list)
more_digits k n list high =
    let some : n / base ≡ 0 → ⊥ = λ e. omega arith in
    simp (ne_eqb _ _ some)

spelled_by : (b : Bool) (k n w : ℕ) (list : List ℕ) → ltb n base ≡ b →
    (base ≤ n → digits_onto k base false (n / base) (hex_digit_ascii (n % base) ∷ list) ≡
    last_digits base w (n / base) ++ hex_digit_ascii (n % base) ∷ list) →
    digits_onto (suc k) base false n list ≡ last_digits base (cond b 1 (suc w)) n ++ list
spelled_by true k n w list e rest = one_digit k n list (ltb-true _ _ e)
spelled_by false k n w list e rest =
    let high = ltb-false _ _ e in
    more_digits k n list high ∙ rest high ∙ sym (append_assoc (last_digits base w (n / base)) (hex_digit_ascii (n % base) ∷ []) list)

spelled_onto : (besides k n : ℕ) (list : List ℕ) → besides < k → n < base ^ suc besides →
    digits_onto k base false n list ≡ last_digits base (width besides n) n ++ list
unfolding width
spelled_onto besides zero n list h low = absurd (omega arith)
spelled_onto zero (suc k) n list h low = one_digit k n list (omega arith)
spelled_onto (suc besides) (suc k) n list h low =
    spelled_by (ltb n base) k n (width besides (n / base)) list refl
    (λ high. spelled_onto besides k (n / base) (hex_digit_ascii (n % base) ∷ list) (omega arith) (omega (arith, pow-succ' base (suc besides))))

pub spelled : (n : ℕ) → n < 2 ^ 32 → decimal n ≡ number n
unfolding digits
spelled n h = spelled_onto further_digits 64 n [] (omega arith) (omega arith) ∙ append-nil _

either_most : (b : Bool) (k m : ℕ) → k ≤ m → cond b 1 (suc k) ≤ suc m
either_most true k m h = omega arith
either_most false k m h = omega arith

width_most : (besides n : ℕ) → width besides n ≤ suc besides
unfolding width
width_most zero n = omega arith
width_most (suc besides) n = either_most (ltb n base) (width besides (n / base)) (suc besides) (width_most besides (n / base))

length-last_digits : (k n : ℕ) → length (last_digits base k n) ≡ k
length-last_digits zero n = refl
length-last_digits (suc k) n =
    let e = length-last_digits k (n / base) in
    simp (length-append, e) (omega arith)

pub number_most : (n : ℕ) → length (number n) ≤ suc further_digits
number_most n = rw (length-last_digits (width further_digits n) n) (width_most further_digits n)
