-- What a good call finds, from the meaning of its text and what it was lent: paper 01, "A good call answers the fault if there is one".
-- Assumes nothing: these are definitions.
use Rattle.std.specs.Prelude.{ℕ, cond, List, map, ltb, length}
use Rattle.grammar.specs.Derivation.{kind_at}
use Rattle.replies.specs.Faults.{Fault}
use Rattle.meaning.specs.Deep.{first_too_deep}
use Rattle.meaning.specs.Sense.{Sense, blamed, derived, TextSense, faulty, read, kind}

-- what the tree part finds: the token blamed, the mark refused for its depth, the tree records needed, or the accepted tree
pub data Verdict : Type 0 where
  grammar : (token : ℕ) → Verdict
  deep : (token : ℕ) → Verdict
  full : (needed : ℕ) → Verdict
  accepted : (records : List (List ℕ)) → Verdict

-- "it is 9, naming r, exactly when the tree table holds fewer than r records, and else 0"
abbrev pub fitted : (room : ℕ) → (records : List (List ℕ)) → Verdict
fitted room rs = cond (ltb room (length rs)) (full (length rs)) (accepted rs)

-- "Otherwise look at the first opening mark that would take depth past the setting. If there is one, and it stands before the place of
-- blame or there is no blame, the answer is 8 there. If not, a place of blame gives 7 there. Without either, it is 9, .. and else 0"
unfoldable pub judged : (too_deep tokens room : ℕ) → Sense → Verdict
judged p t room (blamed q) = cond (ltb p q) (deep p) (grammar q)
judged p t room (derived rs) = cond (ltb p t) (deep p) (fitted room rs)

-- the verdict on t tokens of these kinds, for a depth setting and a tree table that holds so many records
unfoldable pub verdict : (setting room : ℕ) → (kinds : List ℕ) → Sense → Verdict
unfolding judged first_too_deep
verdict setting room kinds sense =
    judged (first_too_deep setting (kind_at kinds) (length kinds)) (length kinds) room sense

-- what the whole reader finds: a fault, the tokens needed, or the tree part's verdict on the tokens
pub data TextVerdict : Type 0 where
  fault : Fault → TextVerdict
  full_tokens : (needed : ℕ) → TextVerdict
  judgement : (records : List (List ℕ)) → Verdict → TextVerdict

-- "A good call answers the fault if there is one. Without a fault it answers 6, naming t, exactly when the token table holds
-- fewer than t records."
abbrev pub tokens_fitted : (room : ℕ) → (records : List (List ℕ)) → Verdict → TextVerdict
tokens_fitted room ts v = cond (ltb room (length ts)) (full_tokens (length ts)) (judgement ts v)

unfoldable pub text_verdict : (setting token_room tree_room : ℕ) → TextSense → TextVerdict
unfolding verdict
text_verdict setting token_room tree_room (faulty f) = fault f
text_verdict setting token_room tree_room (read ts sense) = tokens_fitted token_room ts (verdict setting tree_room (map kind ts) sense)
