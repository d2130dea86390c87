-- Tree records of a derivation: four numbers for each use of a rule that is recorded, children before their parent.
-- Assumes nothing: these are definitions.
use Rattle.std.specs.Prelude.{ℕ, suc, ◌+◌, Bool, not, ◌||◌, cond, List, [], ◌∷◌, ◌++◌, eqb, length}
use Rattle.grammar.specs.Sets.{elem}
use Rattle.grammar.specs.Forest.{Forest, end, leaf, node, width}
use Rattle.grammar.specs.Rule.{Edition}

-- "rule number of 000, first token, one past the last token, records in its subtree with itself"
pub data TreeRecord : Type 0 where
  tree_record : (rule first past size : ℕ) → TreeRecord

-- a right side as used: 0 is nothing, 1 exactly one nonterminal, 2 anything else
unfoldable pub shape : Forest → ℕ
shape end = 0
shape (leaf f k) = 2
shape (node end r c) = 1
shape (node (leaf f k) r c) = 2
shape (node (node f r' c') r c) = 2

-- "A use of a rule is recorded unless its right side, as used, is exactly one nonterminal; rules 1 and 8 are
-- recorded always."
unfoldable pub recorded : Edition → (rule shape : ℕ) → Bool
unfolding elem
recorded E r n = not (eqb n 1) || elem r E.always

-- the records of the children, then that of the use of rule r over them, if it is recorded
unfoldable pub with_parent : Edition → (rule first past shape : ℕ) → List TreeRecord → List TreeRecord
unfolding recorded
with_parent E r first past n children =
    children ++ cond (recorded E r n) (tree_record r first past (suc (length children)) ∷ []) []

-- the records of the forest whose first token is number i
unfoldable pub records : Edition → ℕ → Forest → List TreeRecord
unfolding width shape with_parent
records E i end = []
records E i (leaf f k) = records E i f
records E i (node f r c) =
    records E i f ++ with_parent E r (i + width f) (i + width f + width c) (shape c) (records E (i + width f) c)
