-- Reading a literal from place to place: what follows wherever it may end, follows of the literal. So its size: a byte at least, and no more than there are.
-- By the clauses of the definitions: a character takes bytes that stand for themselves, and there are more steps than bytes. Assumes nothing.
use mathlib.Core.Path.{◌≡◌, refl, ap, ◌∙◌}
use mathlib.Core.Bool.{Bool, true, false, ◌||◌, cond, false≢true}
use mathlib.Core.List.{List}
use Prim.Native.Char.{code}
use Prim.Native.Nat.{ℕ, zero, suc, ◌+◌, ◌≤◌, ◌<◌}
use native.Mathlib.Nat.{add-zero}
use native.Mathlib.Omega.{arith}
use borrow.Author.Tests.{eqb-true}
use lib.Dec.{eqb}
use lib.ListN.{length, drop, length-drop}
use lib.Seq.{get_or-drop}
use Rattle.text.specs.Bytes.{end, at}
use Rattle.text.specs.Literals.{plain, piece, character_kind, string_kind, after_character, closing, one_character, character}
use Rattle.text.specs.Literals.{string_piece, string_in, string, quote, quoted, literal, wide_literal}
use Rattle.text.specs.declared.Lexeme.{Lexeme}
use Rattle.text.specs.declared.Lexeme.TheVariants.{Token}
use Rattle.text.specs.declared.Fault.{Fault}
use Rattle.text.specs.declared.Fault.TheVariants.{NoLexeme, Open, BadLiteral, OtherCase}
use Rattle.text.specs.declared.Piece.{Piece}
use Rattle.text.specs.declared.Piece.TheVariants.{Character, Zero, Close}
use Rattle.std.specs.Prelude.{Result, Ok, Err}
use Rattle.text.proofs.Sizes.{Sized}
use Rattle.literals.proofs.Taken.{Taken, taken_one, taken_within, LeftOpen, Stands, piece_stands}

-- `Read` holds of each place that is read to, `Says` of what the literal is where it ends
module _ (bs : List ℕ) (Read : ℕ → Type 0) (Says : Result Lexeme Fault → Type 0)
    (within : (n : ℕ) → Read n → n ≤ length bs)
    (further : (n m : ℕ) → Read n → Taken (drop n bs) m → Read (n + m))
    (closed : (kind n : ℕ) → Read (n + 1) → Says (Ok (Token kind (n + 1))))
    (left_open : (n : ℕ) → Read n → LeftOpen (drop n bs) → Says (Err Open))
    (bad : Says (Err BadLiteral)) where
  past_quote : (q n : ℕ) → plain q ≡ true → Read n → at (drop n bs) 0 ≡ q → Read (n + 1)
  past_quote q n p h e = further n 1 h (taken_one (drop n bs) (ap plain e ∙ p))

  after_character_says : (kind n : ℕ) (p : Result Piece Fault) → Read n → Stands (code "'") (drop n bs) p → Says (after_character kind n p)
  unfolding after_character plain
  after_character_says kind n (Ok Close) h s = closed kind n (past_quote (code "'") n refl h s)
  after_character_says kind n (Err NoLexeme) h s = absurd s
  after_character_says kind n (Err Open) h s = left_open n h s
  after_character_says kind n (Ok (Character m)) h s = bad
  after_character_says kind n (Ok (Zero m)) h s = bad
  after_character_says kind n (Err BadLiteral) h s = bad
  after_character_says given n (Err (OtherCase kind)) h s = absurd s

  closing_says : (wide : Bool) (n : ℕ) → Read n → Says (closing wide n bs)
  unfolding closing
  closing_says wide n h =
      after_character_says (character_kind wide) n (piece wide (code "'") (drop n bs)) h (piece_stands (code "'") (drop n bs) wide)

  one_character_says : (wide : Bool) (n : ℕ) (p : Result Piece Fault) → Read n → Stands (code "'") (drop n bs) p →
      Says (one_character (λ m. closing wide (n + m) bs) p)
  unfolding one_character
  one_character_says wide n (Ok Close) h s = bad
  one_character_says wide n (Err NoLexeme) h s = absurd s
  one_character_says wide n (Err Open) h s = left_open n h s
  one_character_says wide n (Ok (Character m)) h s = closing_says wide (n + m) (further n m h s.1)
  one_character_says wide n (Ok (Zero m)) h s = closing_says wide (n + m) (further n m h s.1)
  one_character_says wide n (Err BadLiteral) h s = bad
  one_character_says wide n (Err (OtherCase kind)) h s = absurd s

  character_says : (wide : Bool) (n : ℕ) → Read n → Says (character wide n bs)
  unfolding character
  character_says wide n h =
      one_character_says wide n (piece wide (code "'") (drop n bs)) h (piece_stands (code "'") (drop n bs) wide)

  string_piece_says : (kind n : ℕ) (more : ℕ → Result Lexeme Fault) (p : Result Piece Fault) → Read n → Stands (code "\"") (drop n bs) p →
      ((m : ℕ) → 0 < m → Read (n + m) → Says (more m)) → Says (string_piece (Token kind (n + 1)) more p)
  unfolding string_piece plain
  string_piece_says kind n more (Ok Close) h s on = closed kind n (past_quote (code "\"") n refl h s)
  string_piece_says kind n more (Err NoLexeme) h s on = absurd s
  string_piece_says kind n more (Err Open) h s on = left_open n h s
  string_piece_says kind n more (Ok (Character m)) h s on = on m s.0 (further n m h s.1)
  string_piece_says kind n more (Ok (Zero m)) h s on = bad
  string_piece_says kind n more (Err BadLiteral) h s on = bad
  string_piece_says given n more (Err (OtherCase kind)) h s on = absurd s

  string_says : (steps : ℕ) (wide : Bool) (n : ℕ) → length bs < steps + n → Read n → Says (string_in steps wide n bs)
  unfolding string_in
  string_says zero wide n enough h = absurd (omega (arith, within n h))
  string_says (suc steps) wide n enough h =
      string_piece_says (string_kind wide) n (λ m. string_in steps wide (n + m) bs) (piece wide (code "\"") (drop n bs)) h
      (piece_stands (code "\"") (drop n bs) wide) (λ m l. string_says steps wide (n + m) (omega arith))

  -- from its opening quote on
  pub quoted_says : (wide : Bool) (n : ℕ) → Read n → quote (at bs n) ≡ true → Says (quoted wide n bs)
  unfolding quoted string quote plain
  quoted_says wide n h = go (eqb (at bs n) (code "'")) (eqb (at bs n) (code "\"")) refl refl
    where
      opened : (q : ℕ) → plain q ≡ true → eqb (at bs n) q ≡ true → Read (n + 1)
      opened q p e = past_quote q n p h (get_or-drop n bs 0 end ∙ ap (at bs) (add-zero n) ∙ eqb-true (at bs n) q e)

      go : (x y : Bool) → eqb (at bs n) (code "'") ≡ x → eqb (at bs n) (code "\"") ≡ y → x || y ≡ true →
          Says (cond x (character wide (n + 1) bs) (cond y (string wide (n + 1) bs) (Err NoLexeme)))
      go true y e f t = character_says wide (n + 1) (opened (code "'") refl e)
      go false true e f t = string_says (suc (length bs)) wide (n + 1) (omega arith) (opened (code "\"") refl f)
      go false false e f t = absurd (false≢true t)

-- the size of a literal: one past the place of its closing quote
quoted_sized : (bs : List ℕ) (wide : Bool) (n : ℕ) → n ≤ length bs → quote (at bs n) ≡ true → Sized (length bs) (quoted wide n bs)
quoted_sized bs =
    quoted_says bs (λ n. n ≤ length bs) (Sized (length bs)) (λ n h. h)
    (λ n m h t. omega (arith, taken_within (drop n bs) m t, length-drop n bs, h)) (λ kind n h. (omega arith, h)) (λ n h o. tt) tt

pub literal_sized : (bs : List ℕ) → quote (at bs 0) ≡ true → Sized (length bs) (literal bs)
unfolding literal
literal_sized bs = quoted_sized bs false 0 (omega arith)

pub wide_literal_sized : (bs : List ℕ) → 0 < length bs → quote (at bs 1) ≡ true → Sized (length bs) (wide_literal bs)
unfolding wide_literal
wide_literal_sized bs h = quoted_sized bs true 1 h
