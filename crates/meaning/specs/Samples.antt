-- The starred rows of paper 01, "Sample texts", as one table in the paper's order, and what it is for a row to hold.
-- Assumes nothing: these are definitions. That every row holds is shown in proofs/Samples.antt.
use Rattle.std.specs.Prelude.{ℕ, ◌≡◌, List, [], ◌∷◌, length}
use Prim.Native.String.{String}
use Rattle.kinds.specs.Kinds.{bytes}
use Rattle.grammar.specs.Idl.{idl}
use Rattle.replies.specs.declared.Reply.{Reply}
use Rattle.replies.specs.Replies.{reply}
use Rattle.meaning.specs.Sense.{TextSense, TextMeans}
use Rattle.meaning.specs.Verdict.{grammar, deep, full, accepted, TextVerdict, fault, full_tokens, judgement, text_verdict}
use Rattle.meaning.specs.Answer.{text_reply}

-- a text, its depth setting, the records that its token table and its tree table hold;
-- the reply with its number, place and both counts, and the tree records where the text is accepted
pub record Row : Type 0 where
  pub text : String
  pub setting : ℕ
  pub token_room : ℕ
  pub tree_room : ℕ
  pub said : Reply
  pub tree : List (List ℕ)

abbrev pub row : (text : String) (setting token_room tree_room : ℕ) (said : Reply) (tree : List (List ℕ)) → Row
row text setting token_room tree_room said tree =
    record { text = text; setting = setting; token_room = token_room; tree_room = tree_room; said = said; tree = tree }

-- the tree records that a verdict accepts
unfoldable pub tree_of : TextVerdict → List (List ℕ)
tree_of (fault f) = []
tree_of (full_tokens t) = []
tree_of (judgement ts (grammar q)) = []
tree_of (judgement ts (deep p)) = []
tree_of (judgement ts (full r)) = []
tree_of (judgement ts (accepted rs)) = rs

-- a row holds: for every meaning of its text the verdict gives this reply and these tree records
unfoldable pub Holds : Row → Type 0
Holds r =
    (s : TextSense) → TextMeans idl (bytes r.text) s →
    let v = text_verdict r.setting r.token_room r.tree_room s in
    (text_reply (length (bytes r.text)) v ≡ r.said) × (tree_of v ≡ r.tree)

-- every row of a table is so
pub data All (P : Row → Type 0) : List Row → Type 0 where
  none : All P []
  more : {r : Row} {rs : List Row} → P r → All P rs → All P (r ∷ rs)

-- a tree record
abbrev node : (rule first past size : ℕ) → List ℕ
node rule first past size = rule ∷ first ∷ past ∷ size ∷ []

-- "Depth 64 and ample tables unless said."
abbrev pub usual : ℕ
usual = 64

abbrev pub ample : ℕ
ample = 64

unfoldable pub starred : List Row
starred =
    row "" usual ample ample (reply 7 0 0 0) [] ∷
    row "native A;" usual ample ample (reply 0 9 3 4) (node 51 1 2 1 ∷ node 42 0 2 2 ∷ node 2 0 3 3 ∷ node 1 0 3 4 ∷ []) ∷
    row "const long A = 1 << 8 + 4;" usual ample ample (reply 0 26 10 9)
    (node 57 1 2 1 ∷ node 39 4 5 1 ∷ node 39 6 7 1 ∷ node 39 8 9 1 ∷ node 34 6 9 3 ∷ node 33 4 9 5 ∷ node 27 0 9 7 ∷ node 2 0 10 8 ∷
    node 1 0 10 9 ∷ []) ∷
    row "const long A = - -1;" usual ample ample (reply 7 17 8 0) [] ∷
    row "typedef sequence<sequence<long>> T;" usual ample ample (reply 7 30 9 0) [] ∷
    row "struct A { };" usual ample ample (reply 7 11 5 0) [] ∷
    row "exception A { };" usual ample ample (reply 0 16 5 3) (node 86 0 4 1 ∷ node 2 0 5 2 ∷ node 1 0 5 3 ∷ []) ∷
    row "enum E { A, };" usual ample ample (reply 7 12 7 0) [] ∷
    row "interface A : B;" usual ample ample (reply 7 15 5 0) [] ∷
    row "interface Factory { };" usual ample ample (reply 5 10 33 0) [] ∷
    row "interface _factory { };" usual ample ample (reply 0 23 5 5)
    (node 7 0 2 1 ∷ node 8 3 3 1 ∷ node 5 0 4 3 ∷ node 2 0 5 4 ∷ node 1 0 5 5 ∷ []) ∷
    row "const long A = ((1));" 1 ample ample (reply 8 16 10 0) [] ∷
    row "const long A = ((1));" 2 ample ample (reply 0 21 10 7)
    (node 57 1 2 1 ∷ node 39 6 7 1 ∷ node 38 5 8 2 ∷ node 38 4 9 3 ∷ node 27 0 9 5 ∷ node 2 0 10 6 ∷ node 1 0 10 7 ∷ []) ∷
    -- "With 8 tree records it is reply 9, counts 10 and 9; with 9 tokens of room, reply 6, count 10."
    row "const long A = 1 << 8 + 4;" usual ample 8 (reply 9 26 10 9) [] ∷
    row "const long A = 1 << 8 + 4;" usual 9 ample (reply 6 26 10 0) [] ∷ []
