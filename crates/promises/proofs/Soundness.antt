-- What a verdict says of the text and of what was lent: a fault is the text's; a place of blame is one by the rules, with nothing too deep
-- before it; accepted records are a derivation's, and fit. By the cases of the meaning and of the tests that the verdict makes.
use Prim.Native.Nat.{ℕ, ◌≤◌}
use mathlib.Core.Path.{◌≡◌, refl, sym, subst}
use mathlib.Core.Bool.{Bool, true, false, not, cond}
use mathlib.Core.List.{List, map}
use lib.Dec.{T, ltb, nltb→le}
use lib.ListN.{length}
use Rattle.grammar.specs.Blame.{Blame}
use Rattle.grammar.specs.Depth.{Within}
use Rattle.grammar.specs.Derivation.{kind_at, Derivation}
use Rattle.grammar.specs.Forest.{Forest}
use Rattle.grammar.specs.Rule.{Edition}
use Rattle.grammar.specs.Record.{records}
use Rattle.limits.specs.Limits.{good_call}
use Rattle.replies.specs.declared.Reply.{Reply}
use Rattle.tables.specs.Tables.{Records, capacity, token_width, node_width}
use Rattle.text.specs.Tokens as scanned
use Rattle.text.specs.Tokens.{tokens, tokens_of}
use Rattle.meaning.specs.Deep.{first_too_deep}
use Rattle.meaning.specs.Sense.{Sense, Means, means_blame, means_tree, TextSense, TextMeans, means_fault, means_tokens, kind, tree_records}
use Rattle.meaning.specs.Verdict as verdict
use Rattle.meaning.specs.Verdict.{Verdict, TextVerdict, fault, full_tokens, judgement, text_verdict}
use Rattle.meaning.specs.Answer.{text_reply, text_tokens_after, text_tree_after}
use Rattle.meaning.specs.Calls.{Answered}
use Rattle.meaning.proofs.Deep.{first_within}
use Rattle.meaning.proofs.Laws.{four_wide}
use Rattle.prediction.specs.validator.Check.{Checked}
use Rattle.meaning.proofs.OneMeaning.{some_text_sense}

-- the records of a tree are those of a derivation of the tokens; they fit, and no mark is too deep
pub record Tree (E : Edition) (setting room : ℕ) (tokens rs : List (List ℕ)) : Type 0 where
  pub forest : Forest
  pub derives : Derivation E (map kind tokens) forest
  pub records_are : rs ≡ tree_records E forest
  pub fit : length rs ≤ room
  pub shallow : Within (kind_at (map kind tokens)) setting 0 (length (map kind tokens))

unfoldable pub SoundTree : Edition → (setting room : ℕ) → (tokens : List (List ℕ)) → Verdict → Type 0
SoundTree E setting room ts (verdict.grammar q) = Blame E (map kind ts) q × Within (kind_at (map kind ts)) setting 0 q
SoundTree E setting room ts (verdict.deep p) = Unit
SoundTree E setting room ts (verdict.full r) = Unit
SoundTree E setting room ts (verdict.accepted rs) = Tree E setting room ts rs

unfoldable pub Sound : Edition → (text : List ℕ) → (setting token_room tree_room : ℕ) → TextVerdict → Type 0
unfolding SoundTree
Sound E text setting token_room tree_room (fault f) = tokens_of text ≡ scanned.fault f
Sound E text setting token_room tree_room (full_tokens t) = Unit
Sound E text setting token_room tree_room (judgement ts v) =
    (tokens_of text ≡ tokens ts) × ((length ts ≤ token_room) × SoundTree E setting tree_room ts v)

module _ {E : Edition} (setting room : ℕ) (ts : List (List ℕ)) where
  -- the tree part
  pub tree_sound : (s : Sense) → Means E (map kind ts) s → SoundTree E setting room ts (verdict.verdict setting room (map kind ts) s)
  unfolding SoundTree verdict.verdict verdict.judged
  tree_sound s m = go s m
    where
      ks : List ℕ
      ks = map kind ts

      p : ℕ
      p = first_too_deep setting (kind_at ks) (length ks)

      within : (j : ℕ) → j ≤ p → Within (kind_at ks) setting 0 j
      within = first_within setting (kind_at ks) (length ks)

      go : (s : Sense) → Means E ks s → SoundTree E setting room ts (verdict.judged p (length ks) room s)
      go s (means_blame {q} b) = blamed (ltb p q) (nltb→le p q)
        where
          blamed : (x : Bool) → (T (not x) → q ≤ p) → SoundTree E setting room ts (cond x (verdict.deep p) (verdict.grammar q))
          blamed true h = tt
          blamed false h = (b, within q (h tt))
      go s (means_tree g d) = derived (ltb p (length ks)) (ltb room (length rs)) (nltb→le p (length ks)) (nltb→le room (length rs))
        where
          rs : List (List ℕ)
          rs = tree_records E g

          derived : (x y : Bool) → (T (not x) → length ks ≤ p) → (T (not y) → length rs ≤ room) →
              SoundTree E setting room ts (cond x (verdict.deep p) (cond y (verdict.full (length rs)) (verdict.accepted rs)))
          derived true y h k = tt
          derived false true h k = tt
          derived false false h k = record { forest = g; derives = d; records_are = refl; fit = k tt; shallow = within (length ks) (h tt) }

-- the whole reader
pub sound : {E : Edition} (text : List ℕ) (setting token_room tree_room : ℕ) (s : TextSense) → TextMeans E text s →
    Sound E text setting token_room tree_room (text_verdict setting token_room tree_room s)
unfolding Sound text_verdict
sound text setting token_room tree_room s (means_fault e) = e
sound {E} text setting token_room tree_room s (means_tokens {ts = ts} {sense = x} e m) =
    go (ltb token_room (length ts)) (nltb→le token_room (length ts))
  where
    v : Verdict
    v = verdict.verdict setting tree_room (map kind ts) x

    go : (b : Bool) → (T (not b) → length ts ≤ token_room) →
        Sound E text setting token_room tree_room (cond b (full_tokens (length ts)) (judgement ts v))
    go true h = tt
    go false h = (e, (h tt, tree_sound setting tree_room ts x m))

-- each tree record has four numbers
pub tree_wide : {E : Edition} {setting room : ℕ} {ts rs : List (List ℕ)} → Tree E setting room ts rs → Records node_width rs
unfolding tree_records
tree_wide {E} t = subst (λ (rs : List (List ℕ)). Records node_width rs) (sym t.records_are) (four_wide (records E 0 t.forest))

-- The verdict of a good call, by the one meaning of its text: it is what the call answers, and it is sound.
module _ {E : Edition} (c : Checked E) (text : List ℕ) (setting : ℕ) (tokens tree : List ℕ) where
  unfoldable pub found : TextVerdict
  found = text_verdict setting (capacity token_width tokens) (capacity node_width tree) (some_text_sense c text).0

  pub found_sound : Sound E text setting (capacity token_width tokens) (capacity node_width tree) found
  unfolding found
  found_sound = sound text setting (capacity token_width tokens) (capacity node_width tree) (some_text_sense c text).0 (some_text_sense c text).1

  pub answers_found : {r : Reply} {tokens' tree' : List ℕ} → Answered E text tokens tree setting r tokens' tree' →
      good_call (length text) setting ≡ true →
      (r ≡ text_reply (length text) found) × ((tokens' ≡ text_tokens_after found tokens) × (tree' ≡ text_tree_after found tree))
  unfolding found
  answers_found a g = a.inside g (some_text_sense c text).0 (some_text_sense c text).1
