-- Paper 01, "Try these stand-ins": readers that the words of the demands shut out. Each is shown from a promise alone, so that one that
-- is weakened is noticed here. The accepted texts are starred samples; their trees differ in the first number.
use Prim.Native.Nat.{ℕ, suc, ◌+◌, ◌≤◌, ◌<◌}
use mathlib.Core.Path.{◌≡◌, refl, ap, sym, subst, ◌∙◌}
use mathlib.Core.Bool.{Bool, true, false, false≢true, cond}
use mathlib.Core.Logic.{inl, inr}
use mathlib.Core.List.{List, ◌∷◌, map}
use native.Mathlib.Omega.{arith}
use lib.Dec.{ltb}
use lib.ListN.{length, get_or, drop}
use Rattle.kinds.specs.Kinds.{bytes, keywords, nth_keyword, same}
use Rattle.grammar.specs.Names.{rule}
use Rattle.grammar.specs.Derivation.{kind_at}
use Rattle.promises.specs.Editions.{edition_1}
use Rattle.grammar.specs.Idl.{idl}
use Rattle.replies.specs.declared.Reply.{Reply}
use Rattle.replies.specs.Faults as faults
use Rattle.replies.specs.Faults.{Fault}
use Rattle.tables.specs.Tables.{capacity, row, front, token_width, token_length, node_width}
use Rattle.text.specs.Bytes.{at}
use Rattle.text.specs.Tokens.{fault, tokens_of}
use Rattle.text.specs.Words.{CaseAlone, spelled}
use Rattle.meaning.specs.Deep.{first_too_deep}
use Rattle.meaning.specs.Sense as sense
use Rattle.meaning.specs.Sense.{means_tree, means_tokens, kind, first, tree_records}
use Rattle.meaning.specs.Verdict as verdict
use Rattle.meaning.specs.Verdict.{full_tokens, judgement, text_verdict}
use Rattle.meaning.specs.Answer.{tree_reply, text_reply}
use Rattle.meaning.specs.Calls.{Answered}
use Rattle.meaning.specs.Samples.{Row, tree_of, usual, ample, Holds, All, more, starred}
use Rattle.meaning.proofs.Samples.{starred_hold}
use Rattle.promises.specs.Demands.{Accepted, KeywordNamed, LiteralPrintable, IsLiteral, OtherByte, Blames, Kept, Again}
use Rattle.promises.proofs.Main.{some_meaning, other_byte_bad}

-- Demand 2.

module _ (setting token_room tree_room : ℕ) (ts rs : List (List ℕ)) where
  -- a verdict that accepts derived records accepts all of them
  derived_tree : (n : ℕ) → let v = text_verdict setting token_room tree_room (sense.read ts (sense.derived rs)) in
      (text_reply n v).number ≡ 0 → tree_of v ≡ rs
  unfolding text_verdict verdict.verdict verdict.judged text_reply tree_reply tree_of
  derived_tree n = go (ltb token_room (length ts)) (ltb p (length ks)) (ltb tree_room (length rs))
    where
      ks : List ℕ
      ks = map kind ts

      p : ℕ
      p = first_too_deep setting (kind_at ks) (length ks)

      go : (x y z : Bool) →
          let v = cond x (full_tokens (length ts)) (judgement ts (cond y (verdict.deep p) (cond z (verdict.full (length rs)) (verdict.accepted rs)))) in
          (text_reply n v).number ≡ 0 → tree_of v ≡ rs
      go true y z e = absurd (omega arith)
      go false true z e = absurd (omega arith)
      go false false true e = absurd (omega arith)
      go false false false e = refl

-- an accepted sample leaves its own tree at the front of the tree table
sample_tree : (s : Row) → Holds s → s.said.number ≡ 0 → {table tree : List ℕ} {setting : ℕ} {r : Reply} {table' tree' : List ℕ} →
    Accepted idl (bytes s.text) table tree setting r table' tree' → tree' ≡ front node_width s.tree tree
unfolding Holds
sample_tree s h z {tree = tree} x =
    let t = x.tree_part in
    let f = tree_records idl t.forest in
    let e = h (sense.read x.list (sense.derived f)) (means_tokens x.splits (means_tree t.forest t.derives)) in
    let n = length (bytes s.text) in
    let d = derived_tree s.setting s.token_room s.tree_room x.list f n (ap (λ (y : Reply). y.number) e.0 ∙ z) in
    t.tree_written ∙ ap (λ (l : List (List ℕ)). front node_width l tree) (sym d ∙ e.1)

-- the second and the seventh of the starred rows
second : {P : Row → Type 0} {a b : Row} {rs : List Row} → All P (a ∷ b ∷ rs) → P b
second (more p (more q l)) = q

seventh : {P : Row → Type 0} {a b c d e f g : Row} {rs : List Row} → All P (a ∷ b ∷ c ∷ d ∷ e ∷ f ∷ g ∷ rs) → P g
seventh (more p (more q (more r (more s (more t (more u (more v l))))))) = v

module _ {table tree : List ℕ} {setting : ℕ} {r : Reply} {table' tree' : List ℕ}
    (a : Accepted idl (bytes "native A;") table tree setting r table' tree') where
  -- "that writes no records": the tree table does not stay as it was
  pub no_records : (get_or tree 0 0 ≡ rule "simple_declarator" → ⊥) → tree' ≡ tree → ⊥
  unfolding starred row
  no_records n e =
      n (ap (λ (l : List ℕ). get_or l 0 0) (sym e ∙ sample_tree _ (second starred_hold) refl a))

  -- "one tree for all": another text leaves another tree in the same table
  pub one_tree : {table₂ : List ℕ} {setting₂ : ℕ} {r₂ : Reply} {table₂' tree₂' : List ℕ} →
      Accepted idl (bytes "exception A { };") table₂ tree setting₂ r₂ table₂' tree₂' → tree' ≡ tree₂' → ⊥
  unfolding starred row
  one_tree b e =
      let z : ◌≡◌ {A = ℕ} (rule "simple_declarator") (rule "except_dcl") =
      ap (λ (l : List ℕ). get_or l 0 0) (sym (sample_tree _ (second starred_hold) refl a) ∙ e ∙ sample_tree _ (seventh starred_hold) refl b) in
      omega arith

-- "one that refuses everything": `native A;` is accepted with the sample table's room
pub refuses_everything : {table tree : List ℕ} {r : Reply} {table' tree' : List ℕ} →
    Answered idl (bytes "native A;") table tree usual r table' tree' → capacity token_width table ≡ ample → capacity node_width tree ≡ ample →
    r.number ≡ 0
unfolding starred Holds
refuses_everything {table} {tree} a c k =
    let s = some_meaning edition_1 (bytes "native A;") in
    let x = rw (c, k) at (a.inside refl s.0 s.1).0 in
    ap (λ (y : Reply). y.number) (x ∙ (second starred_hold s.0 s.1).0)

-- Demand 3.

-- "one that counts falsely": with the count named the table is not full, and with one less it is
pub count_enough : {count : ℕ} {r r' : Reply} → Again count count r r' → r'.number ≡ r.number → ⊥
count_enough a e = omega (arith, a.only_below e)

pub count_needed : {n : ℕ} {r r' : Reply} → Again (suc n) n r r' → r' ≡ r
count_needed a = a.below (omega arith)

module _ {r r' : Reply} {tokens tokens' tree tree' : List ℕ} (k : Kept r r' tokens tokens' tree tree') where
  -- one whose acceptance counts otherwise in a larger call, or whose blame moves or gives way to another
  pub counts_stay : r.number ≡ 0 → (r'.tokens ≡ r.tokens) × (r'.records ≡ r.records)
  counts_stay z = let e = (k.acceptance z).0 in (ap (λ (x : Reply). x.tokens) e, ap (λ (x : Reply). x.records) e)

  pub blame_stays : r.number ≡ 7 → (r'.number ≡ 7) × (r'.place ≡ r.place)
  unfolding Blames
  blame_stays z = let e = k.blame (inr z) in (ap (λ (x : Reply). x.number) e ∙ z, ap (λ (x : Reply). x.place) e)

  -- one that names another keyword in a larger call
  pub keyword_stays : r.number ≡ 5 → r'.tokens ≡ r.tokens
  unfolding Blames
  keyword_stays z = ap (λ (x : Reply). x.tokens) (k.blame (inl (omega arith)))

  -- one that blames the very mark that it refused for its depth, or a place before it
  pub mark_blamed : r.number ≡ 8 → r'.number ≡ 7 → r'.place ≤ r.place → ⊥
  unfolding Blames
  mark_blamed z y h = omega (arith, k.depth z (inr y))

-- Request A3.

module _ {text : List ℕ} {r : Reply} (k : KeywordNamed text r) where
  -- one that loses the kind on the way
  pub kind_lost : r.tokens ≡ 0 → ⊥
  kind_lost z = omega (arith, ap (λ (x : Reply). x.tokens) k.said, k.differs.its_kind)

  -- one that refuses a keyword in its own case
  pub own_case : (n : ℕ) → n < length keywords → same (spelled (drop r.place text)) (nth_keyword n) ≡ true → ⊥
  own_case n l e =
      let p : r.place ≡ k.place = ap (λ (x : Reply). x.place) k.said in
      false≢true (sym (k.differs.unlike n l) ∙ rw p at e)

  -- one that names another keyword for the word
  pub other_keyword : {r' : Reply} → KeywordNamed text r' → r'.place ≡ r.place → r'.tokens ≡ r.tokens
  other_keyword k' e =
      let p : k'.place ≡ k.place = sym (ap (λ (x : Reply). x.place) k'.said) ∙ e ∙ ap (λ (x : Reply). x.place) k.said in
      let c = k.differs in
      let c' = subst (λ (at : ℕ). CaseAlone (spelled (drop at text)) k'.kind) p k'.differs in
      let n = c.alone c'.number c'.in_list c'.alike in
      omega (arith, ap (λ (x : Reply). x.tokens) k.said, ap (λ (x : Reply). x.tokens) k'.said, c.its_kind, c'.its_kind)

-- Request A7.

-- one that takes a byte above 126 in a literal
pub high_byte_taken : (text token : List ℕ) → LiteralPrintable text token → IsLiteral (kind token) → (n : ℕ) → n < get_or token token_length 0 →
    126 < at text (first token + n) → ⊥
high_byte_taken text token p l n h b = omega (arith, (p l n h).1)

-- one that calls the literal open where it has one
pub high_byte_open : (text : List ℕ) (f : Fault) → tokens_of text ≡ fault f → OtherByte text (faults.row f).place → (faults.row f).number ≡ 3 → ⊥
high_byte_open text f e o z = omega (arith, ap (λ (x : Reply). x.number) (other_byte_bad text f e o))
