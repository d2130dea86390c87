-- The tokens of a text, or its first fault: paper 01, "The two tables" and "What the reader says", replies 2 to 5.
-- Assumes nothing: these are definitions.
use Rattle.std.specs.Prelude.{List, [], ◌∷◌, ℕ, zero, suc, ◌+◌, drop, length, Result, Ok, Err}
use Rattle.replies.specs.Faults.{Fault, no_lexeme, left_open, bad_literal, other_case}
use Rattle.text.specs.Lexemes.{lexeme}
use Rattle.text.specs.declared.Lexeme.{Lexeme}
use Rattle.text.specs.declared.Lexeme.TheVariants.{Blank, Token}
use Rattle.text.specs.declared.Fault as declared
use Rattle.text.specs.declared.Fault.TheVariants.{NoLexeme, Open, BadLiteral, OtherCase}

-- a token record: kind, first byte, length in bytes
abbrev pub token : ℕ → ℕ → ℕ → List ℕ
token kind first size = kind ∷ first ∷ size ∷ []

-- what a text is as tokens: the records of its tokens, or its first fault
pub data Tokens : Type 0 where
  tokens : List (List ℕ) → Tokens
  fault : Fault → Tokens

-- a token in front of what follows
unfoldable pub before : List ℕ → Tokens → Tokens
before t (tokens ts) = tokens (t ∷ ts)
before t (fault f) = fault f

-- what a lexeme at a place is, with what follows it
unfoldable pub then : Result Lexeme declared.Fault → ℕ → (ℕ → Tokens) → Tokens
unfolding before
then (Ok (Blank n)) place rest = rest n
then (Ok (Token kind n)) place rest = before (token kind place n) (rest n)
then (Err NoLexeme) place rest = fault (no_lexeme place)
then (Err Open) place rest = fault (left_open place)
then (Err BadLiteral) place rest = fault (bad_literal place)
then (Err (OtherCase kind)) place rest = fault (other_case place kind)

-- the rest of a text from a place on, in as many lexemes at most
unfoldable pub tokens_in : ℕ → ℕ → List ℕ → Tokens
unfolding then lexeme
tokens_in zero place bs = tokens []
tokens_in (suc most) place [] = tokens []
tokens_in (suc most) place (b ∷ bs) =
    then (lexeme (b ∷ bs)) place (λ n. tokens_in most (place + n) (drop n (b ∷ bs)))

-- the whole text. Each lexeme takes a byte at least, so there are no more of them than bytes
unfoldable pub tokens_of : List ℕ → Tokens
unfolding tokens_in
tokens_of text = tokens_in (length text) 0 text
