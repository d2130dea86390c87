-- `lexemes::underscore` meets its contract: a letter directly after the underscore makes an identifier.
-- Past the end of the text stands no letter. Assumes nothing.
use mathlib.Core.Path.{ap, sym, ◌∙◌}
use Rattle.text.specs.Bytes.{letter}
use Rattle.lexemes.proofs.Sorting.{second, no_second, underscore_word, underscore_alone}
use Rattle.lexemes.proofs.underscore.Goals as goal

pub returns-in-Some : goal.returns-in-Some
returns-in-Some c =
    c.escaped_word.ensures
    ∙ underscore_word _ c.requires (ap letter (second c.byte_at.ensures c.in-Some.is) ∙ sym c.has.ensures ∙ c.if-has.true)

pub returns-in_default : goal.returns-in_default
returns-in_default c =
    underscore_alone _ c.requires (ap letter (second c.byte_at.ensures c.in-Some.is) ∙ sym c.has.ensures ∙ c.if-has.false)

pub returns-in_default-2 : goal.returns-in_default-2
unfolding letter
returns-in_default-2 c = underscore_alone _ c.requires (ap letter (no_second c.byte_at.ensures c.in_default.is))
