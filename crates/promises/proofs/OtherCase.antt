-- Request A3: reply 5 names the keyword, in the token part and in the whole reader.
-- Of the faults one alone has this number, and its word differs from the keyword in case alone.
use Prim.Native.Nat.{ℕ}
use mathlib.Core.Path.{◌≡◌, refl}
use mathlib.Core.Bool.{Bool, true, false, cond}
use mathlib.Core.List.{List}
use native.Mathlib.Omega.{arith}
use lib.ListN.{length}
use Rattle.limits.specs.Limits.{good_text}
use Rattle.replies.specs.declared.Reply.{Reply}
use Rattle.replies.specs.Replies as rows
use Rattle.replies.specs.Faults.{Fault, no_lexeme, left_open, bad_literal, other_case, row}
use Rattle.text.specs.Tokens.{Tokens, tokens, fault, tokens_of}
use Rattle.tokens.specs.Answer.{room, answer, token_reply}
use Rattle.tokens.proofs.OtherCase.{keyword_found}
use Rattle.promises.specs.Demands.{Faulted, KeywordNamed}

module _ (text : List ℕ) where
  named : (f : Fault) → tokens_of text ≡ fault f → (row f).number ≡ 5 → KeywordNamed text (row f)
  named (no_lexeme place) e z = absurd (omega arith)
  named (left_open place) e z = absurd (omega arith)
  named (bad_literal place) e z = absurd (omega arith)
  named (other_case place kind) e z = record { place = place; kind = kind; said = refl; differs = keyword_found text place kind e }

  -- the whole reader
  pub keyword_named : {r : Reply} → Faulted text r → r.number ≡ 5 → KeywordNamed text r
  keyword_named f z = rw f.said (named f.first_fault f.found (rw f.said at z))

  -- the token part
  answer_named : (table : List ℕ) (found : Tokens) → tokens_of text ≡ found → (answer (length text) table found).number ≡ 5 →
      KeywordNamed text (answer (length text) table found)
  answer_named table (fault f) e z = named f e z
  answer_named table (tokens ts) e z = absurd (go (room table ts) z)
    where
      go : (b : Bool) → (cond b (rows.accepted (length text) (length ts) 0) (rows.more_tokens (length text) (length ts))).number ≡ 5 → ⊥
      go true y = omega arith
      go false y = omega arith

  pub token_keyword_named : (table : List ℕ) → (token_reply text table).number ≡ 5 → KeywordNamed text (token_reply text table)
  token_keyword_named table = go (good_text (length text))
    where
      reply : Bool → Reply
      reply good = cond good (answer (length text) table (tokens_of text)) rows.outside_limits

      go : (good : Bool) → (reply good).number ≡ 5 → KeywordNamed text (reply good)
      go true z = answer_named table (tokens_of text) refl z
      go false z = absurd (omega arith)
