-- Every lexeme takes a byte at least, and none past the end of the text; where it is a keyword in another case, the word at the front is.
-- By the tests of its first bytes: each kind of lexeme does so, and none but a word is refused for its case. Assumes nothing.
use mathlib.Core.Bool.{true}
use mathlib.Core.List.{List, [], ◌∷◌}
use mathlib.Core.Path.{◌≡◌}
use Prim.Native.Char.{code}
use Prim.Native.Nat.{ℕ, ◌≤◌, ◌<◌}
use native.Mathlib.Omega.{arith}
use borrow.Author.Tests.{eqb-true}
use lib.Dec.{eqb}
use lib.ListN.{length}
use Rattle.text.specs.Bytes.{end, at, run, space}
use Rattle.text.specs.Blanks.{line_comment, block_comment}
use Rattle.text.specs.Lexemes.{mark, lexeme, starts}
use Rattle.text.specs.Literals.{literal, wide_literal}
use Rattle.text.specs.Numbers.{number}
use Rattle.text.specs.Words.{CaseAlone, spelled, escaped_word}
use Rattle.std.specs.Prelude.{Ok}
use Rattle.text.specs.declared.Lexeme.TheVariants.{Blank}
use Rattle.text.proofs.Choices.{both}
use Rattle.text.proofs.Rests.{byte_inside}
use Rattle.text.proofs.Runs.{run_within}
use Rattle.text.proofs.Sizes.{SizedOr, Sized, sized_or}
use Rattle.blanks.proofs.Reach.{line_comment_sized, block_comment_sized}
use Rattle.literals.proofs.Reach.{literal_sized, wide_literal_sized}
use Rattle.marks.proofs.Reach.{mark_sized}
use Rattle.numbers.proofs.Within.{number_sized}
use Rattle.words.proofs.Sizes.{word_sized, escaped_word_sized}
use Rattle.lexemes.proofs.Sorts.{by_sort}

space_sized : (bs : List ℕ) → 0 < length bs → space (at bs 0) ≡ true → Sized (length bs) (Ok (Blank (run space bs)))
unfolding run
space_sized [] h e = absurd (omega arith)
space_sized (b ∷ bs) h e = let l = run_within space (b ∷ bs) in (rw e (omega arith), l)

-- a text that goes on with two bytes has two
two_bytes : (x y : ℕ) (bs : List ℕ) → y < end → starts x y bs ≡ true → 2 ≤ length bs
two_bytes x y bs h e =
    let f = eqb-true (at bs 1) y (both (eqb (at bs 0) x) (eqb (at bs 1) y) e).1 in
    byte_inside bs 1 (omega arith)

pub lexeme_sized : (bs : List ℕ) → 0 < length bs → SizedOr (CaseAlone (spelled bs)) (length bs) (lexeme bs)
lexeme_sized bs h =
    let other = sized_or (CaseAlone (spelled bs)) (length bs) in
    by_sort bs (SizedOr (CaseAlone (spelled bs)) (length bs)) (space_sized bs h)
    (λ e. other (line_comment bs) (line_comment_sized bs (two_bytes (code "/") (code "/") bs (omega arith) e)))
    (λ e. other (block_comment bs) (block_comment_sized bs (two_bytes (code "/") (code "*") bs (omega arith) e)))
    (λ e. other (literal bs) (literal_sized bs e)) (λ e f. other (wide_literal bs) (wide_literal_sized bs h f))
    (word_sized bs) (other (escaped_word bs) (escaped_word_sized bs h)) (other (number bs) (number_sized bs))
    (other (mark bs) (mark_sized bs))
