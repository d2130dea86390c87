-- The demands in their words: what an acceptance, a fault and a grammar refusal say of the text, and how a second call follows from a first.
-- Assumes nothing: these are definitions. That each call meets them is shown in proofs/; proofs/Main.antt is the page to read.
use Prim.Native.Char.{code}
use Rattle.std.specs.Prelude.{ℕ, ◌+◌, ◌*◌, ◌≤◌, ◌<◌, true, false, ◌||◌, ◌≡◌, ◌⊎◌, List, map, length, get_or, take, drop}
use Rattle.grammar.specs.Blame.{Blame}
use Rattle.grammar.specs.Depth.{Within}
use Rattle.grammar.specs.Derivation.{kind_at, Derivation}
use Rattle.grammar.specs.Forest.{Forest}
use Rattle.grammar.specs.Rule.{Edition}
use Rattle.kinds.specs.Kinds as kinds
use Rattle.replies.specs.declared.Reply.{Reply}
use Rattle.replies.specs.Replies as rows
use Rattle.replies.specs.Faults.{Fault, row}
use Rattle.tables.specs.Tables.{capacity, front, token_width, token_length, node_width}
use Rattle.text.specs.Bytes.{at, line_end, ended}
use Rattle.text.specs.Literals.{quote}
use Rattle.text.specs.Tokens.{tokens, fault, tokens_of}
use Rattle.text.specs.Words.{CaseAlone, spelled}
use Rattle.meaning.specs.Sense.{kind, first, tree_records}
use Rattle.meaning.specs.Verdict as verdict
use Rattle.meaning.specs.Verdict.{Verdict}
use Rattle.meaning.specs.Answer.{place, tree_reply}

-- Request A1, a mixture: the kinds of a narrow string and a wide one, in either order
pub data Mixed (k l : ℕ) : Type 0 where
  wide_behind_narrow : k ≡ kinds.string → l ≡ kinds.wide_string → Mixed k l
  narrow_behind_wide : k ≡ kinds.wide_string → l ≡ kinds.string → Mixed k l

-- Demand 2, an acceptance of a list of tokens: the grammar derives it, room and depth are enough; the reply has its place and both counts,
-- and the tree table holds the tree
pub record TreeAccepted (E : Edition) (text : ℕ) (list : List (List ℕ)) (tree : List ℕ) (setting : ℕ) (r : Reply) (tree' : List ℕ) : Type 0 where
  pub forest : Forest
  pub derives : Derivation E (map kind list) forest
  pub records_fit : length (tree_records E forest) ≤ capacity node_width tree
  pub shallow : Within (kind_at (map kind list)) setting 0 (length (map kind list))
  pub said : r ≡ rows.accepted text (length list) (length (tree_records E forest))
  pub tree_written : tree' ≡ front node_width (tree_records E forest) tree

-- of a text: it splits into lexemes, and its tokens fit, are so accepted, and stand in the token table
pub record Accepted (E : Edition) (text table tree : List ℕ) (setting : ℕ) (r : Reply) (table' tree' : List ℕ) : Type 0 where
  pub list : List (List ℕ)
  pub splits : tokens_of text ≡ tokens list
  pub tokens_fit : length list ≤ capacity token_width table
  pub tree_part : TreeAccepted E (length text) list tree setting r tree'
  pub tokens_written : table' ≡ front token_width list table

-- Demand 2, a refusal of a text that does not split into lexemes: the row of its first fault
pub record Faulted (text : List ℕ) (r : Reply) : Type 0 where
  pub first_fault : Fault
  pub found : tokens_of text ≡ fault first_fault
  pub said : r ≡ row first_fault

-- Request A3, reply 5: the word at the place differs in case alone from the keyword of this kind
pub record KeywordNamed (text : List ℕ) (r : Reply) : Type 0 where
  pub place : ℕ
  pub kind : ℕ
  pub said : r ≡ rows.other_case place kind
  pub differs : CaseAlone (spelled (drop place text)) kind

-- Request A7: a byte from 32 to 126
abbrev pub Printable : ℕ → Type 0
Printable b = (32 ≤ b) × (b ≤ 126)

-- the kind of a character or string literal, narrow or wide
abbrev pub IsLiteral : ℕ → Type 0
IsLiteral k = (kinds.character ≤ k) × (k ≤ kinds.wide_string)

-- each byte of a token that is such a literal is such a byte
abbrev pub LiteralPrintable : (text token : List ℕ) → Type 0
LiteralPrintable text token = IsLiteral (kind token) → (n : ℕ) → n < get_or token token_length 0 → Printable (at text (first token + n))

-- a literal starts here, with its quote or with the L before it
pub data OpensLiteral (bs : List ℕ) : Type 0 where
  opens_narrow : quote (at bs 0) ≡ true → OpensLiteral bs
  opens_wide : at bs 0 ≡ code "L" → quote (at bs 1) ≡ true → OpensLiteral bs

-- at place p of a text a literal starts, and a byte that is not printable stands behind that in the same line
pub record OtherByte (text : List ℕ) (p : ℕ) : Type 0 where
  pub opens : OpensLiteral (drop p text)
  pub behind : ℕ
  pub other : Printable (at (drop p text) behind) → ⊥
  pub in_its_line : (n : ℕ) → n ≤ behind → line_end (at (drop p text) n) || ended (at (drop p text) n) ≡ false

-- Demand 2, a grammar refusal of a list of tokens: it has this place of blame, and no opening mark before it exceeds the depth setting; the
-- reply names the place and the tokens
pub record TreeBlamed (E : Edition) (text : ℕ) (list : List (List ℕ)) (setting : ℕ) (r : Reply) : Type 0 where
  pub token : ℕ
  pub blame : Blame E (map kind list) token
  pub shallow : Within (kind_at (map kind list)) setting 0 token
  pub said : r ≡ rows.grammar (place text list token) (length list)

-- of a text: it splits into lexemes, and its tokens fit and are so refused
pub record Blamed (E : Edition) (text table : List ℕ) (setting : ℕ) (r : Reply) : Type 0 where
  pub list : List (List ℕ)
  pub splits : tokens_of text ≡ tokens list
  pub tokens_fit : length list ≤ capacity token_width table
  pub tree_part : TreeBlamed E (length text) list setting r

-- "Replies 2 to 5 and 7 blame the text; 6, 8 and 9 don't."
unfoldable pub Blames : ℕ → Type 0
Blames number = ((2 ≤ number) × (number ≤ 5)) ⊎ (number ≡ 7)

-- Demand 3, the second call with depth and tables nowhere smaller: how its reply r' and its tables follow from those of the first
pub record Kept (r r' : Reply) (tokens tokens' tree tree' : List ℕ) : Type 0 where
  -- "an acceptance stays, with the same counts and records"
  pub acceptance : r.number ≡ 0 →
      (r' ≡ r) × ((take (token_width * r.tokens) tokens' ≡ take (token_width * r.tokens) tokens)
      × (take (node_width * r.records) tree' ≡ take (node_width * r.records) tree))
  -- "a blame of the text stays, number, place and counts"
  pub blame : Blames r.number → r' ≡ r
  -- "A depth refusal's place, and any before it, is never blamed later."
  pub depth : r.number ≡ 8 → Blames r'.number → r.place < r'.place

-- Demand 3, "A full-table refusal names the count needed, and a call that differs only in that table gets it again exactly when its table
-- holds fewer": the second call's table holds room' records
pub record Again (count room' : ℕ) (r r' : Reply) : Type 0 where
  pub below : room' < count → r' ≡ r
  pub only_below : r'.number ≡ r.number → room' < count

-- Demand 3 of the tree part, where "Places are compared by the number of the token blamed or refused": v and v' are the two verdicts
pub record TreeKept (text : ℕ) (list : List (List ℕ)) (v v' : Verdict) (r r' : Reply) (tree tree' : List ℕ) : Type 0 where
  pub said : r ≡ tree_reply text list v
  pub said_later : r' ≡ tree_reply text list v'
  pub acceptance : r.number ≡ 0 → (r' ≡ r) × (take (node_width * r.records) tree' ≡ take (node_width * r.records) tree)
  pub blame : r.number ≡ 7 → (r' ≡ r) × (v' ≡ v)
  pub depth : (p q : ℕ) → v ≡ verdict.deep p → v' ≡ verdict.grammar q → p < q
