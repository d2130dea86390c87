-- Laws for those who prove the calls: a fault's row has a number from 2 to 5, a tree record has four numbers, what has room is judged and
-- accepted, and a place of blame is given where no mark before it is too deep. By the cases of the definitions.
use Prim.Native.Nat.{ℕ, ◌≤◌}
use mathlib.Core.Path.{◌≡◌, refl}
use mathlib.Core.List.{List, [], ◌∷◌, map}
use native.Mathlib.Omega.{arith}
use borrow.Author.Tests.{le-ltb}
use lib.ListN.{length}
use Rattle.grammar.specs.Record.{TreeRecord, tree_record}
use Rattle.replies.specs.Faults.{Fault, no_lexeme, left_open, bad_literal, other_case, row}
use Rattle.tables.specs.Tables.{Records, none, more, front, token_width, node_width}
use Rattle.meaning.specs.Sense.{blamed, derived, numbers}
use Rattle.meaning.specs.Verdict.{Verdict, grammar, deep, full, accepted, fitted, judged, judgement, tokens_fitted}
use Rattle.meaning.specs.Answer.{tree_reply, tokens_kept}

pub fault_range : (f : Fault) → (2 ≤ (row f).number) × ((row f).number ≤ 5)
fault_range (no_lexeme place) = (omega arith, omega arith)
fault_range (left_open place) = (omega arith, omega arith)
fault_range (bad_literal place) = (omega arith, omega arith)
fault_range (other_case place kind) = (omega arith, omega arith)

pub four_wide : (rs : List TreeRecord) → Records node_width (map numbers rs)
four_wide [] = none
four_wide (tree_record a b c d ∷ rs) = more refl (four_wide rs)

-- with room the tokens are judged, and the records accepted
pub room_judged : (room : ℕ) (ts : List (List ℕ)) (v : Verdict) → length ts ≤ room → tokens_fitted room ts v ≡ judgement ts v
room_judged room ts v h = simp (le-ltb room (length ts) h)

pub room_accepted : (room : ℕ) (rs : List (List ℕ)) → length rs ≤ room → fitted room rs ≡ accepted rs
room_accepted room rs h = simp (le-ltb room (length rs) h)

-- "7 winning at the same token": with no mark before it too deep, a place of blame is given; with none at all, the records are
pub blame_given : (p t room q : ℕ) → q ≤ p → judged p t room (blamed q) ≡ grammar q
unfolding judged
blame_given p t room q h = simp (le-ltb p q h)

pub records_given : (p t room : ℕ) (rs : List (List ℕ)) → t ≤ p → judged p t room (derived rs) ≡ fitted room rs
unfolding judged
records_given p t room rs h = simp (le-ltb p t h)

-- the tokens stay where the tree is accepted
pub tokens_stay : (text : ℕ) (ts : List (List ℕ)) (table : List ℕ) (v : Verdict) → (tree_reply text ts v).number ≡ 0 →
    tokens_kept v ts table ≡ front token_width ts table
unfolding tree_reply tokens_kept
tokens_stay text ts table (grammar q) e = absurd (omega arith)
tokens_stay text ts table (deep q) e = absurd (omega arith)
tokens_stay text ts table (full r) e = absurd (omega arith)
tokens_stay text ts table (accepted rs) e = refl
