-- `words::comparison::packed` meets its contract: the bytes of the part are those that it reads, and the number is made as the definition makes it.
-- Each is below 256, so nothing overflows. Assumes nothing.
use native.Mathlib.Omega.{arith}
use Rattle.words.proofs.Comparing.{four_bytes}
use Rattle.words.proofs.comparison.packed.Goals as goal

pub returns : goal.returns
returns c =
    let start = c.before.before.before.before.before.before in
    rw (four_bytes start.args.bytes.now start.args.i start.requires) (omega arith)
