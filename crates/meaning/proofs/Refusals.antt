-- A verdict accepts, or it refuses: with a number from 2 to 9, from 7 in the tree part, and then every number of the lent tables is zero.
-- By the cases of the verdict.
use Prim.Native.Nat.{ℕ, ◌≤◌}
use mathlib.Core.Path.{◌≡◌, refl}
use mathlib.Core.Logic.{◌⊎◌, inl, inr}
use mathlib.Core.List.{List}
use native.Mathlib.Omega.{arith}
use Rattle.replies.specs.declared.Reply.{Reply}
use Rattle.tables.specs.Tables.{zeroed}
use Rattle.meaning.specs.Verdict.{Verdict, grammar, deep, full, accepted, TextVerdict, fault, full_tokens, judgement}
use Rattle.meaning.specs.Answer.{tree_reply, tree_after, text_reply, tokens_kept, text_tokens_after, text_tree_after}
use Rattle.meaning.proofs.Laws.{fault_range}

-- the reply has a number from the least refusal to 9, and the lent tables are zeroed
pub record Refused (least : ℕ) (r : Reply) (Zeroed : Type 0) : Type 0 where
  pub from : least ≤ r.number
  pub to : r.number ≤ 9
  pub zeros : Zeroed

-- the tree part
pub tree_either : (n : ℕ) (ts : List (List ℕ)) (v : Verdict) (tree : List ℕ) →
    ((tree_reply n ts v).number ≡ 0) ⊎ Refused 7 (tree_reply n ts v) (tree_after v tree ≡ zeroed tree)
unfolding tree_reply tree_after
tree_either n ts (grammar q) tree = inr (record { from = omega arith; to = omega arith; zeros = refl })
tree_either n ts (deep p) tree = inr (record { from = omega arith; to = omega arith; zeros = refl })
tree_either n ts (full r) tree = inr (record { from = omega arith; to = omega arith; zeros = refl })
tree_either n ts (accepted rs) tree = inl refl

-- the whole reader
pub text_either : (n : ℕ) (v : TextVerdict) (tokens tree : List ℕ) →
    ((text_reply n v).number ≡ 0)
    ⊎ Refused 2 (text_reply n v) ((text_tokens_after v tokens ≡ zeroed tokens) × (text_tree_after v tree ≡ zeroed tree))
unfolding text_reply tree_reply text_tokens_after tokens_kept text_tree_after tree_after
text_either n (fault f) tokens tree =
    let h = fault_range f in
    inr (record { from = h.0; to = omega (arith, h.1); zeros = (refl, refl) })
text_either n (full_tokens t) tokens tree = inr (record { from = omega arith; to = omega arith; zeros = (refl, refl) })
text_either n (judgement ts (grammar q)) tokens tree = inr (record { from = omega arith; to = omega arith; zeros = (refl, refl) })
text_either n (judgement ts (deep p)) tokens tree = inr (record { from = omega arith; to = omega arith; zeros = (refl, refl) })
text_either n (judgement ts (full r)) tokens tree = inr (record { from = omega arith; to = omega arith; zeros = (refl, refl) })
text_either n (judgement ts (accepted rs)) tokens tree = inl refl
