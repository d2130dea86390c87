-- `tokens::is_space_at` meets its contract: the byte is tested where there is one.
-- White space is not above byte 32; past the end stands `end`, which is none. Assumes nothing.
use mathlib.Core.Path.{ap, sym, ◌∙◌}
use Rattle.text.specs.Bytes.{space}
use Rattle.lexemes.proofs.Sorting.{above_space}
use Rattle.tokens.proofs.is_space_at.Goals as goal

pub returns-in_default : goal.returns-in_default
returns-in_default c = sym (above_space _ c.if-byte-le32.false) ∙ ap space c.in-Some.ensures

pub returns-in_default-2 : goal.returns-in_default-2
unfolding space
returns-in_default-2 c = ap space c.in_default.ensures
