-- The limitless meaning of a text, fixed by the text and the grammar alone: paper 01, "Demand 2's limitless meaning of a text".
-- A relation; that each text has exactly one meaning is a theorem. Assumes nothing: these are definitions.
use Rattle.std.specs.Prelude.{ℕ, ◌≡◌, List, [], ◌∷◌, map, get_or}
use Rattle.grammar.specs.Forest.{Forest}
use Rattle.grammar.specs.Rule.{Edition}
use Rattle.grammar.specs.Derivation.{Derivation}
use Rattle.grammar.specs.Record.{TreeRecord, tree_record, records}
use Rattle.grammar.specs.Blame.{Blame}
use Rattle.replies.specs.Faults.{Fault}
use Rattle.tables.specs.Tables.{token_first}
use Rattle.text.specs.Tokens.{tokens_of, tokens, fault}

-- what a list of tokens is: blamed at a place, or derived with these tree records
pub data Sense : Type 0 where
  blamed : (place : ℕ) → Sense
  derived : (records : List (List ℕ)) → Sense

-- what a text is: faulty, or its token records with their sense
pub data TextSense : Type 0 where
  faulty : Fault → TextSense
  read : (records : List (List ℕ)) → Sense → TextSense

-- the kind of a token record, which stands first in it, and its first byte
abbrev pub kind : List ℕ → ℕ
kind t = get_or t 0 0

abbrev pub first : List ℕ → ℕ
first t = get_or t token_first 0

-- the four numbers of a tree record
abbrev pub numbers : TreeRecord → List ℕ
numbers (tree_record rule first past size) = rule ∷ first ∷ past ∷ size ∷ []

-- the tree records of a derivation
unfoldable pub tree_records : Edition → Forest → List (List ℕ)
unfolding records
tree_records E g = map numbers (records E 0 g)

-- "The tokens have a place of blame, or else their one derivation, with r tree records by the recording rule."
pub data Means (E : Edition) (kinds : List ℕ) : Sense → Type 0 where
  means_blame : {q : ℕ} → Blame E kinds q → Means E kinds (blamed q)
  means_tree : (g : Forest) → Derivation E kinds g → Means E kinds (derived (tree_records E g))

-- "A text has its first fault of 2 to 5 in the order above, or else its tokens, t of them."
pub data TextMeans (E : Edition) (text : List ℕ) : TextSense → Type 0 where
  means_fault : {f : Fault} → tokens_of text ≡ fault f → TextMeans E text (faulty f)
  means_tokens : {ts : List (List ℕ)} {sense : Sense} → tokens_of text ≡ tokens ts → Means E (map kind ts) sense →
      TextMeans E text (read ts sense)
