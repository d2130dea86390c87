-- A word compared with a spelling: several bytes at once, as one number, and with a bit set in each, so that the case of letters is left aside.
-- Assumes nothing: these are definitions.
use Rattle.std.specs.Prelude.{Bool, true, ◌&&◌, cond, List, [], ◌∷◌, map, ℕ, ◌+◌, ◌*◌, ◌^◌, take, drop}
use Rattle.std.specs.Int.Bits.{bit_or}
use Rattle.kinds.specs.Kinds.{same}
use Rattle.text.specs.Bytes.{letter}
use Rattle.text.specs.Words.{same_but_case}
use Rattle.words.specs.declared.comparison.Likeness.{Likeness}
use Rattle.words.specs.declared.comparison.Likeness.TheVariants.{Same, ButCase, Different}

-- the bytes that are compared at once
abbrev pub at_once : ℕ
at_once = 4

-- n bytes from place i on
abbrev pub part : ℕ → ℕ → List ℕ → List ℕ
part n i w = take n (drop i w)

-- the bits of a byte, and one more than the largest
abbrev pub byte_bits : ℕ
byte_bits = 8

abbrev pub byte_end : ℕ
byte_end = 2 ^ byte_bits

-- bytes as one number, the first of them lowest
abbrev pub packed : List ℕ → ℕ
packed [] = 0
packed (b ∷ bs) = b + byte_end * packed bs

-- each byte with a bit set
abbrev pub with_bit : ℕ → List ℕ → List ℕ
with_bit bit = map (λ b. bit_or b bit)

-- a spelling of letters alone
unfoldable pub all_letters : List ℕ → Bool
unfolding letter
all_letters [] = true
all_letters (b ∷ bs) = letter b && all_letters bs

-- how a word stands to a spelling
unfoldable pub likeness : List ℕ → List ℕ → Likeness
unfolding same_but_case
likeness w v = cond (same w v) Same (cond (same_but_case w v) ButCase Different)
