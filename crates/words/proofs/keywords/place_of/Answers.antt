-- `words::keywords::place_of` meets its contract: a letter's low five bits are its place in the alphabet, from 1 on.
-- The law of letters says so. Assumes nothing.
use native.Mathlib.Omega.{arith}
use Rattle.words.proofs.Letters.{Lettered, letter_at}
use Rattle.words.proofs.keywords.place_of.Goals as goal

pub returns : goal.returns
returns c =
    let l : Lettered c.args.byte = letter_at (omega arith) c.requires in
    record { value = omega (arith, c.from.ensures, l.placed); bounds = omega (arith, c.from.ensures, l.placed, l.a_to_z.0, l.a_to_z.1) }
