-- Each list of tokens, and each text, has exactly one meaning, for any edition that passes its test.
-- Derivations are unique, places of blame are unique, there is always one of the two and never both.
use Prim.Native.Nat.{ℕ}
use mathlib.Core.Path.{◌≡◌, refl, ap, sym, ◌∙◌, subst}
use mathlib.Core.List.{List, map}
use Rattle.grammar.specs.Forest.{Forest}
use Rattle.grammar.specs.Rule.{Edition}
use Rattle.grammar.specs.Meaning.{Meaning, derived, blamed}
use Rattle.text.specs.Tokens as text
use Rattle.meaning.specs.Sense as sense
use Rattle.meaning.specs.Sense.{Sense, Means, means_blame, means_tree, TextSense, TextMeans, means_fault, means_tokens, kind, tree_records}
use Rattle.prediction.specs.validator.Check.{Checked}
use Rattle.prediction.proofs.theorems.Theorems.{meaning, unique, never_both, blamed_once}

module _ {E : Edition} (c : Checked E) where
  -- a list of tokens has a meaning
  pub some_sense : (ks : List ℕ) → (s : Sense) × Means E ks s
  some_sense ks = go (meaning c ks)
    where
      go : Meaning E ks → (s : Sense) × Means E ks s
      go (derived g d) = (sense.derived (tree_records E g), means_tree g d)
      go (blamed q b) = (sense.blamed q, means_blame b)

  -- and one alone
  pub one_sense : (ks : List ℕ) (s s' : Sense) → Means E ks s → Means E ks s' → s' ≡ s
  one_sense ks s s' (means_blame {q} b) (means_blame {q = q'} b') = ap sense.blamed (blamed_once c ks q q' b b')
  one_sense ks s s' (means_blame {q} b) (means_tree g d) = absurd (never_both c ks q g b d)
  one_sense ks s s' (means_tree g d) (means_blame {q} b) = absurd (never_both c ks q g b d)
  one_sense ks s s' (means_tree g d) (means_tree g' d') = ap (λ (f : Forest). sense.derived (tree_records E f)) (unique c ks g g' d d')

  -- so has a text
  pub some_text_sense : (bytes : List ℕ) → (s : TextSense) × TextMeans E bytes s
  some_text_sense bytes = go (text.tokens_of bytes) refl
    where
      go : (t : text.Tokens) → text.tokens_of bytes ≡ t → (s : TextSense) × TextMeans E bytes s
      go (text.tokens ts) e = let m = some_sense (map kind ts) in (sense.read ts m.0, means_tokens e m.1)
      go (text.fault f) e = (sense.faulty f, means_fault e)

  pub one_text_sense : (bytes : List ℕ) (s s' : TextSense) → TextMeans E bytes s → TextMeans E bytes s' → s' ≡ s
  one_text_sense bytes s s' (means_fault e) (means_fault e') = let p = sym e ∙ e' in cc
  one_text_sense bytes s s' (means_fault e) (means_tokens e' m) = let p = sym e ∙ e' in cc
  one_text_sense bytes s s' (means_tokens e m) (means_fault e') = let p = sym e ∙ e' in cc
  one_text_sense bytes s s' (means_tokens {ts = ts} {sense = x} e m) (means_tokens {ts = ts'} {sense = x'} e' m') =
      let p : ts' ≡ ts = cc (sym e ∙ e') in
      let q = one_sense (map kind ts) x x' m (subst (λ (l : List (List ℕ)). Means E (map kind l) x') p m') in
      cc
