-- Letters in either case: in lower case they are small, with the bit of the case set, too; their low five bits are the place in the alphabet, from 1 on.
-- Each by one test computed at every byte. Assumes nothing.
use mathlib.Core.Path.{◌≡◌, ap, sym, ◌∙◌}
use mathlib.Core.Bool.{Bool, true, not, ◌||◌}
use Prim.Native.Nat.{ℕ, ◌+◌, ◌-◌, ◌%◌, ◌^◌, ◌≤◌, ◌<◌}
use native.Mathlib.Omega.{arith}
use lib.Bits.{bit_and, bit_or, and_mask}
use lib.Dec.{T, eqb, leb, eqb→eq, leb→le}
use Rattle.text.specs.Bytes.{from, letter}
use Rattle.text.specs.Words.{case_distance, lower}
use Rattle.text.proofs.Ranges.{agree, agreed, and_left, and_right, every, every_at, or_else}
use Rattle.words.specs.Comparison.{byte_end}
use Rattle.words.specs.Table.{first_letter, last_letter}

-- the bounds of a range, of a number that is tested to be in it
pub from_holds : (lo hi n : ℕ) → T (from lo hi n) → (lo ≤ n) × (n ≤ hi)
from_holds lo hi n t = (leb→le lo n (and_left (leb lo n) (leb n hi) t), leb→le n hi (and_right (leb lo n) (leb n hi) t))

-- a letter in lower case
abbrev small : ℕ → Bool
small = from first_letter last_letter

-- what a test says at every byte, and at every letter
at_byte : (test : ℕ → Bool) → T (every test 0 byte_end) → {b : ℕ} → b < byte_end → T (test b)
at_byte test t h = every_at test 0 byte_end t (omega arith) h

no_fail : {a : Bool} → a ≡ true → T (not a) → ⊥
no_fail e = rw e (λ t. t)

at_letter : (test : ℕ → Bool) → T (every (λ b. not (letter b) || test b) 0 byte_end) → {b : ℕ} → b < byte_end → letter b ≡ true → T (test b)
at_letter test t {b} h e = or_else (not (letter b)) (test b) (at_byte (λ c. not (letter c) || test c) t h) (no_fail e)

-- a byte is a letter exactly if it is a small one in lower case, and exactly if it is one with the bit of the case set
lowers : T (every (λ b. agree (letter b) (small (lower b))) 0 byte_end)
unfolding letter lower
lowers = tt

lowered : {b : ℕ} → b < byte_end → letter b ≡ small (lower b)
lowered {b} h = agreed (letter b) (small (lower b)) (at_byte (λ c. agree (letter c) (small (lower c))) lowers h)

sets : T (every (λ b. agree (letter b) (small (bit_or b case_distance))) 0 byte_end)
unfolding letter
sets = tt

set : {b : ℕ} → b < byte_end → letter b ≡ small (bit_or b case_distance)
set {b} h = agreed (letter b) (small (bit_or b case_distance)) (at_byte (λ c. agree (letter c) (small (bit_or c case_distance))) sets h)

-- a letter with the bit set is in lower case
as_lowers : T (every (λ b. not (letter b) || eqb (bit_or b case_distance) (lower b)) 0 byte_end)
unfolding letter lower
as_lowers = tt

as_lower : {b : ℕ} → b < byte_end → letter b ≡ true → bit_or b case_distance ≡ lower b
as_lower h e = eqb→eq _ _ (at_letter (λ b. eqb (bit_or b case_distance) (lower b)) as_lowers h e)

-- its low bits are its place
abbrev place_bits : ℕ
place_bits = 5

low_bits : T (every (λ b. not (letter b) || eqb (b % 2 ^ place_bits + first_letter) (lower b + 1)) 0 byte_end)
unfolding letter lower
low_bits = tt

-- what is so of a letter
pub record Lettered (b : ℕ) : Type 0 where
  pub a_to_z : (first_letter ≤ lower b) × (lower b ≤ last_letter)
  pub placed : bit_and b (2 ^ place_bits - 1) + first_letter ≡ lower b + 1

pub letter_at : {b : ℕ} → b < byte_end → letter b ≡ true → Lettered b
letter_at {b} h e = record {
  a_to_z = from_holds first_letter last_letter (lower b) (rw (sym (lowered h) ∙ e) tt);
  placed =
      ap (λ (n : ℕ). n + first_letter) (and_mask b place_bits)
      ∙ eqb→eq _ _ (at_letter (λ c. eqb (c % 2 ^ place_bits + first_letter) (lower c + 1)) low_bits h e);
}

-- so a byte and a letter, both with the bit set, are equal exactly where they are the same but for case
module _ {a b : ℕ} (ha : a < byte_end) (hb : b < byte_end) (e : letter b ≡ true) where
  pub set_lower : bit_or a case_distance ≡ bit_or b case_distance → lower a ≡ lower b
  set_lower f =
      let l : letter a ≡ true = set ha ∙ ap small f ∙ sym (set hb) ∙ e in
      sym (as_lower ha l) ∙ f ∙ as_lower hb e

  pub lower_set : lower a ≡ lower b → bit_or a case_distance ≡ bit_or b case_distance
  lower_set f =
      let l : letter a ≡ true = lowered ha ∙ ap small f ∙ sym (lowered hb) ∙ e in
      as_lower ha l ∙ f ∙ sym (as_lower hb e)
