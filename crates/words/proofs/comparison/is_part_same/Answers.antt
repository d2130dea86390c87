-- `words::comparison::is_part_same` meets its contract: the numbers are the same exactly where the parts are, with the bit set in each byte.
-- The law of numbers says so. Assumes nothing.
use mathlib.Core.Path.{◌≡◌, ◌∙◌}
use Prim.Native.Nat.{◌*◌}
use native.Mathlib.Omega.{arith}
use Rattle.words.proofs.Comparing.{each_byte, four_tell}
use Rattle.words.proofs.comparison.is_part_same.Goals as goal

pub returns : goal.returns
returns c =
    let bits : c.from_le_bytes-bits.result ≡ c.args.bit * each_byte = c.from_le_bytes-bits.ensures ∙ omega arith in
    rw (c.packed.ensures, c.packed-2.ensures, bits)
    (four_tell c.ranges.bit.fits c.args.word.now c.args.spelling.now c.args.i
    (λ j. (c.type_inv.word j).fits) (λ j. (c.type_inv.spelling j).fits)
    c.requires.0 c.requires.1)
