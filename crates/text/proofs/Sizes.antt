-- The size of a lexeme: a blank or a token takes a byte at least, and no more than there are; and whether it can be a keyword in another case.
-- Definitions, which the laws of each lexeme's size cite. Assumes nothing.
use Prim.Native.Nat.{ℕ, ◌≤◌, ◌<◌}
use Rattle.std.specs.Prelude.{Result, Ok, Err}
use Rattle.text.specs.declared.Lexeme.{Lexeme}
use Rattle.text.specs.declared.Lexeme.TheVariants.{Blank, Token}
use Rattle.text.specs.declared.Fault.{Fault}
use Rattle.text.specs.declared.Fault.TheVariants.{NoLexeme, Open, BadLiteral, OtherCase}

-- `Case` is what holds of the kind where the lexeme is a keyword in another case
abbrev pub SizedOr : (Case : ℕ → Type 0) → ℕ → Result Lexeme Fault → Type 0
SizedOr Case most (Ok (Blank n)) = (0 < n) × (n ≤ most)
SizedOr Case most (Ok (Token kind n)) = (0 < n) × (n ≤ most)
SizedOr Case most (Err NoLexeme) = Unit
SizedOr Case most (Err Open) = Unit
SizedOr Case most (Err BadLiteral) = Unit
SizedOr Case most (Err (OtherCase kind)) = Case kind

-- of every lexeme but a word: it is never a keyword in another case
abbrev pub Sized : ℕ → Result Lexeme Fault → Type 0
Sized most l = SizedOr (λ kind. ⊥) most l

pub sized_or : (Case : ℕ → Type 0) (most : ℕ) (l : Result Lexeme Fault) → Sized most l → SizedOr Case most l
sized_or Case most (Ok (Blank n)) h = h
sized_or Case most (Ok (Token kind n)) h = h
sized_or Case most (Err NoLexeme) h = tt
sized_or Case most (Err Open) h = tt
sized_or Case most (Err BadLiteral) h = tt
sized_or Case most (Err (OtherCase kind)) h = absurd h
