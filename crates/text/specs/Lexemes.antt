-- The lexeme at the front of the rest of a text: paper 01, "Otherwise the longest lexeme is taken", and "Marks".
-- Assumes nothing: these are definitions.
use Rattle.std.specs.Prelude.{Bool, ◌&&◌, ◌||◌, cond, List, [], ◌∷◌, ℕ, eqb, ltb, Result, Ok, Err}
use Prim.Native.Char.{code}
use Rattle.kinds.specs.Kinds as kinds
use Rattle.text.specs.Bytes.{at, run, space, letter, digit}
use Rattle.text.specs.Blanks.{line_comment, block_comment}
use Rattle.text.specs.Words.{word, escaped_word}
use Rattle.text.specs.Numbers.{number}
use Rattle.text.specs.Literals.{quote, literal, wide_literal}
use Rattle.text.specs.declared.Lexeme.{Lexeme}
use Rattle.text.specs.declared.Lexeme.TheVariants.{Blank, Token}
use Rattle.text.specs.declared.Fault.{Fault}
use Rattle.text.specs.declared.Fault.TheVariants.{NoLexeme}

-- the longer mark at the front: marks have one byte or two
unfoldable pub mark : List ℕ → Result Lexeme Fault
unfolding kinds.mark
mark bs =
    let two = kinds.mark (at bs 0 ∷ at bs 1 ∷ []) in
    let one = kinds.mark (at bs 0 ∷ []) in
    cond (ltb 0 two) (Ok (Token two 2)) (cond (ltb 0 one) (Ok (Token one 1)) (Err NoLexeme))

-- the text goes on with these two bytes
abbrev pub starts : ℕ → ℕ → List ℕ → Bool
starts x y bs = eqb (at bs 0) x && eqb (at bs 1) y

-- white space, a comment, a literal, a word, a number or a mark
unfoldable pub lexeme : List ℕ → Result Lexeme Fault
unfolding space run line_comment block_comment quote literal wide_literal letter word escaped_word digit number mark
lexeme bs =
    cond (space (at bs 0)) (Ok (Blank (run space bs)))
    (cond (starts (code "/") (code "/") bs) (line_comment bs)
    (cond (starts (code "/") (code "*") bs) (block_comment bs)
    (cond (quote (at bs 0)) (literal bs)
    (cond (eqb (at bs 0) (code "L") && quote (at bs 1)) (wide_literal bs)
    (cond (letter (at bs 0)) (word bs)
    (cond (eqb (at bs 0) (code "_") && letter (at bs 1)) (escaped_word bs)
    (cond (digit (at bs 0) || eqb (at bs 0) (code ".")) (number bs)
    (mark bs))))))))
