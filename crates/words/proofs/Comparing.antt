-- Spellings compared part by part, a part as one number, and with a bit set in each byte: what is settled of the whole.
-- Parts that are the same make the front the same; the digits of a number are told by it. Assumes nothing.
use mathlib.Core.Path.{◌≡◌, refl, ap, sym, ◌∙◌}
use mathlib.Core.Bool.{Bool, true, false, ◌&&◌, and-eq-true_iff}
use mathlib.Core.List.{List, [], ◌∷◌, map}
use Prim.Native.Nat.{ℕ, zero, suc, ◌+◌, ◌*◌, ◌≤◌, ◌<◌}
use native.Mathlib.Omega.{arith}
use borrow.Author.Tests.{eqb-true, eq-eqb, ne_eqb}
use lib.Bits.{bit_or, or_block, or_lt, or_zero_r}
use lib.Dec.{eqb}
use lib.ListN.{length, get_or, take, length-map}
use lib.Seq.{drop-cons, take-add, take_all, take-take}
use Rattle.kinds.specs.Kinds.{same}
use Rattle.text.specs.Bytes.{letter}
use Rattle.text.specs.Words.{case_distance, lower, same_but_case}
use Rattle.words.specs.Comparison.{at_once, part, byte_bits, byte_end, packed, with_bit, all_letters}
use Rattle.words.proofs.Letters.{set_lower, lower_set}
use Rattle.words.proofs.Spellings.{unless, same_equal, same_reflexive}

-- truth values that follow each from the other
each_way : (a b : Bool) → (a ≡ true → b ≡ true) → (b ≡ true → a ≡ true) → a ≡ b
each_way true b f g = sym (f refl)
each_way false b f g = sym (unless b false g refl)

module _ (w v : List ℕ) where
  -- spelled the same, they have the same parts
  same_part : (n i : ℕ) → same w v ≡ true → same (part n i w) (part n i v) ≡ true
  same_part n i e = rw (same_equal w v e) (same_reflexive (part n i v))

  -- parts that differ settle it
  pub part_stop : (n i : ℕ) → same (part n i w) (part n i v) ≡ false → false ≡ same w v
  part_stop n i e = sym (unless (same w v) (same (part n i w) (part n i v)) (same_part n i) e)

  -- the first i bytes are the same, and n more
  pub part_more : (n i : ℕ) → take i w ≡ take i v → same (part n i w) (part n i v) ≡ true → take (i + n) w ≡ take (i + n) v
  part_more n i e f = rw (take-add i n w, take-add i n v, e, same_equal (part n i w) (part n i v) f)

  -- all of them are
  pub part_end : (i : ℕ) → length w ≤ i → length v ≤ i → take i w ≡ take i v → true ≡ same w v
  part_end i h l e =
      let equal : w ≡ v = sym (take_all i w h) ∙ e ∙ take_all i v l in
      sym (rw equal (same_reflexive v))

  -- where at most the last n bytes are left, these settle it, though some of them were passed
  pub part_last : (n k i : ℕ) → length w ≡ length v → k + n ≡ length w → k ≤ i → take i w ≡ take i v →
      same (part n k w) (part n k v) ≡ same w v
  part_last n k i l m h e = each_way _ _ whole (same_part n k)
    where
      whole : same (part n k w) (part n k v) ≡ true → same w v ≡ true
      whole f =
          let passed : take k w ≡ take k v = sym (take-take k i w h) ∙ ap (take k) e ∙ take-take k i v h in
          sym (part_end (k + n) (omega arith) (omega arith) (part_more n k passed f))

-- a part of one byte, and of as many as are compared at once
next_byte : (w : List ℕ) (n i j : ℕ) → i + 1 ≡ j → j ≤ length w → part (suc n) i w ≡ get_or w i 0 ∷ part n j w
next_byte w n i j e h =
    let s : suc i ≡ j = omega arith in
    ap (take (suc n)) (drop-cons w i 0 (omega arith)) ∙ ap (λ (k : ℕ). get_or w i 0 ∷ part n k w) s

one_byte : (w : List ℕ) (i : ℕ) → i < length w → part 1 i w ≡ get_or w i 0 ∷ []
one_byte w i h = next_byte w 0 i (i + 1) refl (omega arith)

pub four_bytes : (w : List ℕ) (i : ℕ) → i + at_once ≤ length w →
    part at_once i w ≡ get_or w i 0 ∷ get_or w (i + 1) 0 ∷ get_or w (i + 2) 0 ∷ get_or w (i + 3) 0 ∷ []
four_bytes w i h =
    rw (
      next_byte w 3 i (i + 1) refl (omega arith),
      next_byte w 2 (i + 1) (i + 2) (omega arith) (omega arith),
      next_byte w 1 (i + 2) (i + 3) (omega arith) (omega arith),
      next_byte w 0 (i + 3) (i + at_once) (omega arith) h,
    )

-- numbers that are bytes
pub data Bytes : List ℕ → Type 0 where
  none : Bytes []
  one : {b : ℕ} {bs : List ℕ} → b < byte_end → Bytes bs → Bytes (b ∷ bs)

-- a number tells its bytes
digit_same : (x y p q : ℕ) (s : Bool) → x < byte_end → y < byte_end → eqb p q ≡ s → eqb (x + byte_end * p) (y + byte_end * q) ≡ (eqb x y && s)
digit_same x y p q s h l e = each_way _ _ apart together
  where
    apart : eqb (x + byte_end * p) (y + byte_end * q) ≡ true → (eqb x y && s) ≡ true
    apart f =
        let n = eqb-true (x + byte_end * p) (y + byte_end * q) f in
        (and-eq-true_iff (eqb x y) s).1 (eq-eqb x y (omega arith), sym e ∙ eq-eqb p q (omega arith))

    together : (eqb x y && s) ≡ true → eqb (x + byte_end * p) (y + byte_end * q) ≡ true
    together f =
        let t = (and-eq-true_iff (eqb x y) s).0 f in
        eq-eqb (x + byte_end * p) (y + byte_end * q) (omega (arith, eqb-true x y t.0, eqb-true p q (e ∙ t.1)))

packed_same : {xs ys : List ℕ} → Bytes xs → Bytes ys → length xs ≡ length ys → eqb (packed xs) (packed ys) ≡ same xs ys
packed_same none none e = refl
packed_same none (one h ys) e = absurd (omega arith)
packed_same (one h xs) none e = absurd (omega arith)
packed_same (one {b = x} {bs = xs} h b) (one {b = y} {bs = ys} l c) e = digit_same x y (packed xs) (packed ys) (same xs ys) h l (packed_same b c (omega arith))

-- a bit set in each byte of a part, and in each byte of its number
take_bit : (bit n : ℕ) (w : List ℕ) → take n (with_bit bit w) ≡ with_bit bit (take n w)
take_bit bit zero w = refl
take_bit bit (suc n) [] = refl
take_bit bit (suc n) (b ∷ w) = ap (λ (bs : List ℕ). bit_or b bit ∷ bs) (take_bit bit n w)

part_bit : (bit n i : ℕ) (w : List ℕ) → part n i (with_bit bit w) ≡ with_bit bit (part n i w)
part_bit bit n zero w = take_bit bit n w
part_bit bit n (suc i) [] = take_bit bit n []
part_bit bit n (suc i) (b ∷ w) = part_bit bit n i w

byte_bit : (bit : ℕ) (w : List ℕ) (i : ℕ) → i < length w → part 1 i (with_bit bit w) ≡ bit_or (get_or w i 0) bit ∷ []
byte_bit bit w i h = part_bit bit 1 i w ∙ ap (with_bit bit) (one_byte w i h)

pub length_bit : (bit : ℕ) (w : List ℕ) → length (with_bit bit w) ≡ length w
length_bit bit w = length-map w (λ b. bit_or b bit)

-- a byte that differs with the bit set settles it, and one that does not is one more
module _ (bit : ℕ) (w v : List ℕ) (i : ℕ) (l : length w ≡ length v) (h : i < length w) where
  of_spelling : part 1 i (with_bit bit v) ≡ bit_or (get_or v i 0) bit ∷ []
  of_spelling = byte_bit bit v i (omega arith)

  pub byte_stop : (bit_or (get_or w i 0) bit ≡ bit_or (get_or v i 0) bit → ⊥) → false ≡ same (with_bit bit w) (with_bit bit v)
  byte_stop e =
      part_stop (with_bit bit w) (with_bit bit v) 1 i
      (rw (byte_bit bit w i h, of_spelling, ne_eqb (bit_or (get_or w i 0) bit) (bit_or (get_or v i 0) bit) e))

  pub byte_more : bit_or (get_or w i 0) bit ≡ bit_or (get_or v i 0) bit → take i (with_bit bit w) ≡ take i (with_bit bit v) →
      take (i + 1) (with_bit bit w) ≡ take (i + 1) (with_bit bit v)
  byte_more e f =
      part_more (with_bit bit w) (with_bit bit v) 1 i f
      (rw (byte_bit bit w i h, of_spelling, eq-eqb (bit_or (get_or w i 0) bit) (bit_or (get_or v i 0) bit) e))

module _ {bit : ℕ} (hb : bit < byte_end) where
  bytes_bit : {bs : List ℕ} → Bytes bs → Bytes (with_bit bit bs)
  bytes_bit none = none
  bytes_bit (one {b} h bs) = one (or_lt byte_bits b bit h hb) (bytes_bit bs)

  packed_bit : {bs : List ℕ} → Bytes bs → bit_or (packed bs) (packed (map (λ b. bit) bs)) ≡ packed (with_bit bit bs)
  packed_bit none = refl
  packed_bit (one {b} {bs} h more) =
      let turned : (c n : ℕ) → c + byte_end * n ≡ n * byte_end + c = λ c n. omega arith in
      let bits = packed (map (λ b. bit) bs) in
      rw (turned b (packed bs), turned bit bits, or_block byte_bits (packed bs) bits b bit h hb, packed_bit more)
      (sym (turned (bit_or b bit) (packed (with_bit bit bs))))

-- a one in each byte that is compared at once
abbrev pub each_byte : ℕ
each_byte = 1 + byte_end * (1 + byte_end * (1 + byte_end))

-- a spelling of bytes
abbrev pub AllBytes : List ℕ → Type 0
AllBytes w = (j : ℕ) → get_or w j 0 < byte_end

module _ {bit : ℕ} (hb : bit < byte_end) where
  four : (w : List ℕ) (i : ℕ) → AllBytes w → i + at_once ≤ length w → Bytes (part at_once i w)
  four w i b h = rw (four_bytes w i h) (one (b i) (one (b (i + 1)) (one (b (i + 2)) (one (b (i + 3)) none))))

  four_bit : (w : List ℕ) (i : ℕ) → AllBytes w → i + at_once ≤ length w →
      bit_or (packed (part at_once i w)) (bit * each_byte) ≡ packed (part at_once i (with_bit bit w))
  four_bit w i b h =
      let bits : packed (map (λ b. bit) (part at_once i w)) ≡ bit * each_byte = rw (four_bytes w i h) (omega arith) in
      ap (bit_or (packed (part at_once i w))) (sym bits) ∙ packed_bit hb (four w i b h) ∙ ap packed (sym (part_bit bit at_once i w))

  -- the numbers are the same exactly where the parts are
  pub four_tell : (w v : List ℕ) (i : ℕ) → AllBytes w → AllBytes v → length w ≡ length v → i + at_once ≤ length w →
      eqb (bit_or (packed (part at_once i w)) (bit * each_byte)) (bit_or (packed (part at_once i v)) (bit * each_byte))
      ≡ same (part at_once i (with_bit bit w)) (part at_once i (with_bit bit v))
  four_tell w v i b c l h =
      let m : i + at_once ≤ length v = omega arith in
      rw (four_bit w i b h, four_bit v i c m, part_bit bit at_once i w, part_bit bit at_once i v)
      (packed_same (bytes_bit hb (four w i b h)) (bytes_bit hb (four v i c m)) (rw (four_bytes w i h, four_bytes v i m)))

-- with no bit set, spellings are compared as they are
pub no_bit : (w : List ℕ) → with_bit 0 w ≡ w
no_bit [] = refl
no_bit (b ∷ w) = rw (or_zero_r b, no_bit w)

-- with the bit of the case set, a spelling of letters is compared with the case of letters aside
pub case_bit : (w v : List ℕ) → AllBytes w → AllBytes v → all_letters v ≡ true →
    same (with_bit case_distance w) (with_bit case_distance v) ≡ same_but_case w v
unfolding same_but_case all_letters
case_bit [] [] b c e = refl
case_bit [] (y ∷ v) b c e = refl
case_bit (x ∷ w) [] b c e = refl
case_bit (x ∷ w) (y ∷ v) b c e =
    let l = (and-eq-true_iff (letter y) (all_letters v)).0 e in
    let one : eqb (bit_or x case_distance) (bit_or y case_distance) ≡ eqb (lower x) (lower y) =
    each_way _ _ (λ f. eq-eqb _ _ (set_lower (b 0) (c 0) l.0 (eqb-true _ _ f))) (λ f. eq-eqb _ _ (lower_set (b 0) (c 0) l.0 (eqb-true _ _ f))) in
    rw (one, case_bit w v (λ j. b (suc j)) (λ j. c (suc j)) l.1)
