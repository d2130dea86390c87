-- The lexeme at the front by its first byte, and its second where that one leaves a choice.
-- Each rewrites the definition's tests by what is known of the two bytes. Assumes nothing.
use mathlib.Core.Bool.{Bool, true, false, cond, or-false, false≢true}
use mathlib.Core.List.{List}
use mathlib.Core.Logic.{◌⊎◌, inl, inr, ⊎_elim}
use mathlib.Core.Path.{◌≡◌, refl, ap, sym, ◌∙◌}
use Prim.Native.Char.{code}
use Prim.Native.Nat.{ℕ, ◌<◌}
use native.Mathlib.Omega.{arith}
use borrow.Author.Tests.{le-leb, lt-leb, leb-true, leb-false, ne_eqb}
use lib.Dec.{leb}
use Rattle.kinds.specs.Kinds as kinds
use Rattle.text.specs.Blanks.{line_comment, block_comment}
use Rattle.text.specs.Bytes.{end, at, run, space, letter, digit}
use Rattle.text.specs.Lexemes.{lexeme, mark}
use Rattle.text.specs.Literals.{quote, literal, wide_literal}
use Rattle.text.specs.Numbers.{number}
use Rattle.text.specs.Words.{word, escaped_word}
use Rattle.std.specs.Prelude.{Option, Some, None, Ok, Err}
use Rattle.std.specs.Option.{unwrap_or}
use Rattle.text.specs.declared.Lexeme.TheVariants.{Blank, Token}
use Rattle.text.specs.declared.Fault.TheVariants.{NoLexeme}
use Rattle.marks.specs.Starts.{starts_mark}
use Rattle.marks.proofs.Starts.{no_other, no_mark}
use Rattle.lexemes.specs.Fronts.{slash, wide, underscore}

-- the byte that stands at a place, and the end where none does
pub second : {found : Option ℕ} {b byte : ℕ} → unwrap_or found end ≡ b → found ≡ Some byte → b ≡ byte
second e is = sym e ∙ ap (λ (b : Option ℕ). unwrap_or b end) is

pub no_second : {found : Option ℕ} {b : ℕ} → unwrap_or found end ≡ b → found ≡ None → b ≡ end
no_second e is = sym e ∙ ap (λ (b : Option ℕ). unwrap_or b end) is

-- a byte that a class decides: the start of a mark, a letter, a digit, or none of these
pub record Plain (b : ℕ) : Type 0 where
  pub no_space : space b ≡ false
  pub no_slash : b ≡ slash → ⊥
  pub no_quote : (b ≡ code "\"") ⊎ (b ≡ code "'") → ⊥
  pub no_wide : b ≡ wide → ⊥
  pub no_underscore : b ≡ underscore → ⊥
  pub no_point : b ≡ code "." → ⊥

-- a letter is above white space, and is none of the bytes that decide
letter_above : (b : ℕ) → letter b ≡ true → code " " < b
unfolding letter
letter_above b e = go (leb b (code " ")) refl
  where
    go : (x : Bool) → leb b (code " ") ≡ x → code " " < b
    go true l =
        let h = leb-true b (code " ") l in
        let none : letter b ≡ false = simp (lt-leb (code "A") b (omega arith), lt-leb (code "a") b (omega arith)) in
        absurd (false≢true (sym none ∙ e))
    go false l = leb-false b (code " ") l

pub above_space : (b : ℕ) → code " " < b → space b ≡ false
unfolding space
above_space b h = simp (le-leb (code "\t") b (omega arith), lt-leb b (code "\r") (omega arith), ne_eqb b (code " ") (omega arith))

pub letter_plain : {b : ℕ} → letter b ≡ true → (b ≡ wide → ⊥) → Plain b
unfolding letter
letter_plain {b} e n = record {
  no_space = above_space b (letter_above b e);
  no_slash = λ q. false≢true (ap letter (sym q) ∙ e);
  no_quote = λ q. ⊎_elim (λ p. false≢true (ap letter (sym p) ∙ e)) (λ p. false≢true (ap letter (sym p) ∙ e)) q;
  no_wide = n;
  no_underscore = λ q. false≢true (ap letter (sym q) ∙ e);
  no_point = λ q. false≢true (ap letter (sym q) ∙ e);
}

-- where no letter stands, no L does
pub no_letter_wide : {b : ℕ} → letter b ≡ false → b ≡ wide → ⊥
unfolding letter
no_letter_wide e q = false≢true (sym e ∙ ap letter q)

module _ (bs : List ℕ) where
  pub lexeme_space : space (at bs 0) ≡ true → Ok (Blank (run space bs)) ≡ lexeme bs
  unfolding lexeme
  lexeme_space e = simp e

  module _ (e : at bs 0 ≡ slash) where
    pub slash_line : at bs 1 ≡ slash → line_comment bs ≡ lexeme bs
    unfolding lexeme space
    slash_line f = simp (e, f)

    pub slash_block : at bs 1 ≡ code "*" → block_comment bs ≡ lexeme bs
    unfolding lexeme space
    slash_block f = simp (e, f)

    pub slash_mark : (at bs 1 ≡ slash → ⊥) → (at bs 1 ≡ code "*" → ⊥) → Ok (Token (kinds.kind_of "/") 1) ≡ lexeme bs
    unfolding lexeme space quote letter digit mark kinds.mark
    slash_mark f g = simp (e, ne_eqb (at bs 1) slash f, ne_eqb (at bs 1) (code "*") g)

  pub quote_literal : (at bs 0 ≡ code "\"") ⊎ (at bs 0 ≡ code "'") → literal bs ≡ lexeme bs
  unfolding lexeme space quote
  quote_literal (inl e) = simp e
  quote_literal (inr e) = simp e

  module _ (e : at bs 0 ≡ wide) where
    pub wide_quote : quote (at bs 1) ≡ true → wide_literal bs ≡ lexeme bs
    unfolding lexeme space quote
    wide_quote f = simp (e, f)

    pub wide_word : quote (at bs 1) ≡ false → word bs ≡ lexeme bs
    unfolding lexeme space quote letter
    wide_word f = simp (e, f)

  module _ (e : at bs 0 ≡ underscore) where
    pub underscore_word : letter (at bs 1) ≡ true → escaped_word bs ≡ lexeme bs
    unfolding lexeme space quote letter
    underscore_word f = simp (e, f)

    pub underscore_alone : letter (at bs 1) ≡ false → Err NoLexeme ≡ lexeme bs
    unfolding lexeme space quote letter digit mark kinds.mark
    underscore_alone f = simp (e, f)

  pub point_number : at bs 0 ≡ code "." → number bs ≡ lexeme bs
  unfolding lexeme space quote letter digit
  point_number e = simp e

  module _ (p : Plain (at bs 0)) where
    classed : lexeme bs ≡ cond (letter (at bs 0)) (word bs) (cond (digit (at bs 0)) (number bs) (mark bs))
    unfolding lexeme quote
    classed =
        simp (
          p.no_space,
          ne_eqb _ _ p.no_slash,
          ne_eqb _ _ (λ q. p.no_quote (inl q)),
          ne_eqb _ _ (λ q. p.no_quote (inr q)),
          ne_eqb _ _ p.no_wide,
          ne_eqb _ _ p.no_underscore,
          ne_eqb _ _ p.no_point,
          or-false,
        )

    pub letter_word : letter (at bs 0) ≡ true → word bs ≡ lexeme bs
    letter_word e = rw (classed, e)

    pub digit_number : letter (at bs 0) ≡ false → digit (at bs 0) ≡ true → number bs ≡ lexeme bs
    digit_number e f = rw (classed, e, f)

    other_mark : letter (at bs 0) ≡ false → digit (at bs 0) ≡ false → mark bs ≡ lexeme bs
    other_mark e f = rw (classed, e, f)

    pub start_mark : at bs 0 < end → starts_mark (at bs 0) ≡ true → mark bs ≡ lexeme bs
    unfolding kinds.mark letter digit
    start_mark h e = other_mark (no_other letter tt h e) (no_other digit tt h e)

    pub no_lexeme : letter (at bs 0) ≡ false → digit (at bs 0) ≡ false → starts_mark (at bs 0) ≡ false → Err NoLexeme ≡ lexeme bs
    no_lexeme e f g = no_mark bs g ∙ other_mark e f
