-- What follows of each sort of lexeme, where its first bytes stand, follows of the lexeme at the front.
-- By the tests of the definition, in their order. Assumes nothing.
use mathlib.Core.Bool.{true, ◌&&◌, ◌||◌}
use mathlib.Core.List.{List}
use mathlib.Core.Path.{◌≡◌}
use Prim.Native.Char.{code}
use Prim.Native.Nat.{ℕ}
use borrow.Author.Tests.{eqb-true}
use lib.Dec.{eqb}
use Rattle.text.specs.Blanks.{line_comment, block_comment}
use Rattle.text.specs.Bytes.{at, run, space, letter, digit}
use Rattle.text.specs.Lexemes.{starts, mark, lexeme}
use Rattle.text.specs.Literals.{quote, literal, wide_literal}
use Rattle.text.specs.Numbers.{number}
use Rattle.text.specs.Words.{word, escaped_word}
use Rattle.std.specs.Prelude.{Result, Ok}
use Rattle.text.specs.declared.Fault.{Fault}
use Rattle.text.specs.declared.Lexeme.{Lexeme}
use Rattle.text.specs.declared.Lexeme.TheVariants.{Blank}
use Rattle.text.proofs.Choices.{both, choose}

module _ (bs : List ℕ) (Says : Result Lexeme Fault → Type 0)
    (of_spaces : space (at bs 0) ≡ true → Says (Ok (Blank (run space bs))))
    (of_line_comment : starts (code "/") (code "/") bs ≡ true → Says (line_comment bs))
    (of_block_comment : starts (code "/") (code "*") bs ≡ true → Says (block_comment bs))
    (of_literal : quote (at bs 0) ≡ true → Says (literal bs))
    (of_wide_literal : at bs 0 ≡ code "L" → quote (at bs 1) ≡ true → Says (wide_literal bs))
    (of_word : letter (at bs 0) ≡ true → Says (word bs))
    (of_escaped_word : Says (escaped_word bs))
    (of_number : Says (number bs))
    (of_mark : Says (mark bs)) where
  wide : eqb (at bs 0) (code "L") && quote (at bs 1) ≡ true → Says (wide_literal bs)
  wide e =
      let w = both (eqb (at bs 0) (code "L")) (quote (at bs 1)) e in
      of_wide_literal (eqb-true (at bs 0) (code "L") w.0) w.1

  pub by_sort : Says (lexeme bs)
  unfolding lexeme
  by_sort =
      choose Says (space (at bs 0)) of_spaces
      (choose Says (starts (code "/") (code "/") bs) of_line_comment
      (choose Says (starts (code "/") (code "*") bs) of_block_comment
      (choose Says (quote (at bs 0)) of_literal
      (choose Says (eqb (at bs 0) (code "L") && quote (at bs 1)) wide
      (choose Says (letter (at bs 0)) of_word
      (choose Says (eqb (at bs 0) (code "_") && letter (at bs 1)) (λ e. of_escaped_word)
      (choose Says (digit (at bs 0) || eqb (at bs 0) (code ".")) (λ e. of_number) of_mark)))))))
