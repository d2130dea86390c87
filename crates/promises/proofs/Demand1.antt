-- Demand 1 of anything that answers as promised: reply 1 exactly for a bad call, and every later refusal zeroes the lent tables throughout.
-- By the cases of the verdict for the one meaning of the text.
use Prim.Native.Nat.{ℕ, ◌≤◌}
use mathlib.Core.Path.{◌≡◌, refl, ap}
use mathlib.Core.Logic.{◌⊎◌, inl, inr}
use mathlib.Core.Bool.{Bool, true, false}
use mathlib.Core.List.{List, map}
use native.Mathlib.Omega.{arith}
use lib.ListN.{length}
use Rattle.grammar.specs.Rule.{Edition}
use Rattle.limits.specs.Limits.{good_call}
use Rattle.replies.specs.declared.Reply.{Reply}
use Rattle.tables.specs.Tables.{capacity, token_width, node_width, zeroed}
use Rattle.meaning.specs.Sense.{kind}
use Rattle.meaning.specs.Verdict.{verdict}
use Rattle.meaning.specs.Calls.{Answered, first_records, good_tree_call, TreeAnswered}
use Rattle.meaning.proofs.Refusals.{Refused, tree_either, text_either}
use Rattle.prediction.specs.validator.Check.{Checked}
use Rattle.meaning.proofs.OneMeaning.{some_sense}
use Rattle.promises.proofs.Soundness.{found, answers_found}

-- so a call is bad and answered 1, or good and accepted or refused
module _ (good : Bool) (least : ℕ) (r : Reply) (Zeroed : Type 0) (two : 2 ≤ least) (bad : good ≡ false → r.number ≡ 1)
    (either : good ≡ true → (r.number ≡ 0) ⊎ Refused least r Zeroed) where
  bad_alone : r.number ≡ 1 → good ≡ false
  bad_alone z = go good refl
    where
      no_one : (r.number ≡ 0) ⊎ Refused least r Zeroed → ⊥
      no_one (inl e) = omega arith
      no_one (inr f) = omega (arith, f.from)

      go : (x : Bool) → good ≡ x → good ≡ false
      go true e = absurd (no_one (either e))
      go false e = e

  zeroes : 2 ≤ r.number → Refused least r Zeroed
  zeroes h = go good refl
    where
      refused : (r.number ≡ 0) ⊎ Refused least r Zeroed → Refused least r Zeroed
      refused (inl e) = absurd (omega arith)
      refused (inr f) = f

      go : (x : Bool) → good ≡ x → Refused least r Zeroed
      go true e = refused (either e)
      go false e = absurd (omega (arith, bad e))

module _ {E : Edition} (c : Checked E) (text tokens tree : List ℕ) (setting : ℕ) {r : Reply} {tokens' tree' : List ℕ}
    (a : Answered E text tokens tree setting r tokens' tree') where
  either : good_call (length text) setting ≡ true → (r.number ≡ 0) ⊎ Refused 2 r ((tokens' ≡ zeroed tokens) × (tree' ≡ zeroed tree))
  either g =
      let x = answers_found c text setting tokens tree a g in
      rw (x.0, x.1.0, x.1.1) (text_either (length text) (found c text setting tokens tree) tokens tree)

  pub bad_call_alone : r.number ≡ 1 → good_call (length text) setting ≡ false
  bad_call_alone = bad_alone _ 2 r _ (omega arith) (λ b. ap (λ (y : Reply). y.number) (a.outside b).0) either

  pub refusal_zeroes : 2 ≤ r.number → (r.number ≤ 9) × ((tokens' ≡ zeroed tokens) × (tree' ≡ zeroed tree))
  refusal_zeroes h = let f = zeroes _ 2 r _ (omega arith) (λ b. ap (λ (y : Reply). y.number) (a.outside b).0) either h in (f.to, f.zeros)

module _ {E : Edition} (c : Checked E) (tokens : List ℕ) (count text : ℕ) (tree : List ℕ) (setting : ℕ) {r : Reply} {tree' : List ℕ}
    (a : TreeAnswered E tokens count text tree setting r tree') where
  tree_part_either : good_tree_call tokens count text setting ≡ true → (r.number ≡ 0) ⊎ Refused 7 r (tree' ≡ zeroed tree)
  tree_part_either g =
      let ts = first_records token_width count tokens in
      let s = some_sense c (map kind ts) in
      let x = a.inside g s.0 s.1 in
      rw (x.0, x.1) (tree_either text ts (verdict setting (capacity node_width tree) (map kind ts) s.0) tree)

  pub bad_tree_call_alone : r.number ≡ 1 → good_tree_call tokens count text setting ≡ false
  bad_tree_call_alone = bad_alone _ 7 r _ (omega arith) (λ b. ap (λ (y : Reply). y.number) (a.outside b).0) tree_part_either

  pub tree_refusal_zeroes : 2 ≤ r.number → ((7 ≤ r.number) × (r.number ≤ 9)) × (tree' ≡ zeroed tree)
  tree_refusal_zeroes h =
      let f = zeroes _ 7 r _ (omega arith) (λ b. ap (λ (y : Reply). y.number) (a.outside b).0) tree_part_either h in
      ((f.from, f.to), f.zeros)
