-- How far a word reaches: past its first byte, and not past the end of the text; and what it is where it is refused: a keyword in another case.
-- Its letters, digits and underscores are a run, whose first byte is a letter. Assumes nothing.
use mathlib.Core.Path.{◌≡◌, refl}
use mathlib.Core.Bool.{Bool, true, false, cond, false≢true}
use mathlib.Core.List.{List, [], ◌∷◌}
use Prim.Native.Nat.{ℕ, ◌≤◌, ◌<◌}
use native.Mathlib.Omega.{arith}
use borrow.Author.Tests.{ltb-true, ltb-false}
use lib.Dec.{ltb}
use lib.ListN.{length, drop, length-drop}
use Rattle.std.specs.Prelude.{Ok, Err}
use Rattle.kinds.specs.Kinds.{keyword, identifier}
use Rattle.text.specs.Bytes.{at, run, letter, wordly}
use Rattle.text.specs.Words.{keyword_but_case, CaseAlone, spelled, sorted, word, escaped_word}
use Rattle.text.specs.declared.Lexeme.TheVariants.{Token}
use Rattle.text.specs.declared.Fault.TheVariants.{OtherCase}
use Rattle.text.proofs.Runs.{run_within}
use Rattle.text.proofs.Sizes.{SizedOr, Sized}
use Rattle.words.proofs.OtherCase.{case_alone}

-- where a letter stands, a run has begun
pub begun : (bs : List ℕ) → letter (at bs 0) ≡ true → 0 < run wordly bs
unfolding run wordly letter
begun [] e = absurd (false≢true e)
begun (b ∷ bs) e = rw e (omega arith)

either_sized : (Case : ℕ → Type 0) (a b : Bool) (k j i : ℕ) {n most : ℕ} → (0 < n) × (n ≤ most) → (a ≡ false → b ≡ true → Case j) →
    SizedOr Case most (cond a (Ok (Token k n)) (cond b (Err (OtherCase j)) (Ok (Token i n))))
either_sized Case true b k j i h c = h
either_sized Case false true k j i h c = c refl refl
either_sized Case false false k j i h c = h

pub word_sized : (bs : List ℕ) → letter (at bs 0) ≡ true → SizedOr (CaseAlone (spelled bs)) (length bs) (word bs)
unfolding word sorted
word_sized bs e =
    let w = spelled bs in
    either_sized (CaseAlone w) (ltb 0 (keyword w)) (ltb 0 (keyword_but_case w)) (keyword w) (keyword_but_case w) identifier
    (begun bs e, run_within wordly bs)
    (λ none some. case_alone w (omega (arith, ltb-false 0 (keyword w) none)) (ltb-true 0 (keyword_but_case w) some))

pub escaped_word_sized : (bs : List ℕ) → 0 < length bs → Sized (length bs) (escaped_word bs)
unfolding escaped_word
escaped_word_sized bs h = omega (arith, run_within wordly (drop 1 bs), length-drop 1 bs)
