-- Where a text's first fault is a keyword in another case, the word at its place differs from that keyword in case alone.
-- Lexeme by lexeme: each is passed, is another fault, or is that word. Assumes nothing.
use mathlib.Core.List.{List}
use mathlib.Core.Path.{◌≡◌, subst}
use Prim.Native.Nat.{ℕ}
use Rattle.std.specs.Prelude.{Result, Ok, Err}
use lib.ListN.{length, drop}
use Rattle.replies.specs.Faults.{no_lexeme, left_open, bad_literal, other_case}
use Rattle.text.specs.Lexemes.{lexeme}
use Rattle.text.specs.Tokens.{Tokens, tokens, fault, token, before, then, tokens_of}
use Rattle.text.specs.Words.{CaseAlone, spelled}
use Rattle.text.specs.declared.Lexeme.{Lexeme}
use Rattle.text.specs.declared.Lexeme.TheVariants.{Blank, Token}
use Rattle.text.specs.declared.Fault as declared
use Rattle.text.specs.declared.Fault.TheVariants.{NoLexeme, Open, BadLiteral, OtherCase}
use Rattle.text.proofs.Sizes.{SizedOr}
use Rattle.lexemes.proofs.Sizes.{lexeme_sized}
use Rattle.tokens.proofs.Lexemes.{by_lexemes}

module _ (text : List ℕ) where
  -- what is said of a text by its first fault
  abbrev Named : Tokens → Type 0
  Named (tokens ts) = Unit
  Named (fault (no_lexeme place)) = Unit
  Named (fault (left_open place)) = Unit
  Named (fault (bad_literal place)) = Unit
  Named (fault (other_case place kind)) = CaseAlone (spelled (drop place text)) kind

  behind : (t : List ℕ) (rest : Tokens) → Named rest → Named (before t rest)
  unfolding before
  behind t (tokens ts) h = tt
  behind t (fault f) h = h

  one_lexeme : (at : ℕ) (rest : ℕ → Tokens) (l : Result Lexeme declared.Fault) → SizedOr (CaseAlone (spelled (drop at text))) (length (drop at text)) l →
      ((n : ℕ) → Named (rest n)) → Named (then l at rest)
  unfolding then
  one_lexeme at rest (Ok (Blank n)) w more = more n
  one_lexeme at rest (Ok (Token kind n)) w more = behind (token kind at n) (rest n) (more n)
  one_lexeme at rest (Err NoLexeme) w more = tt
  one_lexeme at rest (Err Open) w more = tt
  one_lexeme at rest (Err BadLiteral) w more = tt
  one_lexeme at rest (Err (OtherCase kind)) w more = w

  pub keyword_found : (place kind : ℕ) → tokens_of text ≡ fault (other_case place kind) → CaseAlone (spelled (drop place text)) kind
  keyword_found place kind e =
      subst Named e
      (by_lexemes text (λ at. Named) (λ at. tt)
      (λ at h rest more. one_lexeme at rest (lexeme (drop at text)) (lexeme_sized (drop at text) h) more))
