-- The lexemes of a text one after the other: what follows of each, with what comes behind it, follows of the whole text.
-- By induction on the lexemes; each is read off the rest of the text from its place on. Assumes nothing.
use mathlib.Core.List.{List, [], ◌∷◌}
use mathlib.Core.Path.{◌≡◌, refl, ap, subst⁻¹, ◌∙◌}
use Prim.Native.Nat.{ℕ, zero, suc, ◌+◌, ◌<◌}
use native.Mathlib.Omega.{arith}
use lib.ListN.{length, drop}
use lib.Seq.{drop-drop}
use Rattle.text.specs.Lexemes.{lexeme}
use Rattle.text.specs.Tokens.{Tokens, tokens, then, tokens_in, tokens_of}

-- `Says` is said of what the rest of the text from a place on is as tokens
module _ (text : List ℕ) (Says : ℕ → Tokens → Type 0) (none : (place : ℕ) → Says place (tokens []))
    (one : (place : ℕ) → 0 < length (drop place text) → (rest : ℕ → Tokens) → ((n : ℕ) → Says (place + n) (rest n)) →
    Says place (then (lexeme (drop place text)) place rest)) where
  from_place : (most place : ℕ) (bs : List ℕ) → bs ≡ drop place text → Says place (tokens_in most place bs)
  unfolding tokens_in
  from_place zero place bs d = none place
  from_place (suc most) place [] d = none place
  from_place (suc most) place (b ∷ bs) d =
      let rest : ℕ → Tokens = λ n. tokens_in most (place + n) (drop n (b ∷ bs)) in
      subst⁻¹ (λ (cs : List ℕ). Says place (then (lexeme cs) place rest)) d
      (one place (omega (arith, ap length d)) rest (λ n. from_place most (place + n) (drop n (b ∷ bs)) (ap (drop n) d ∙ drop-drop n place text)))

  pub by_lexemes : Says 0 (tokens_of text)
  unfolding tokens_of
  by_lexemes = from_place (length text) 0 text refl
