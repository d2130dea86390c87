-- Demand 3 of the tree part called alone, on two token tables that agree up to the count: these are one text.
-- Both calls answer for the one meaning of the tokens; how the second verdict follows from the first is a law of verdicts.
use Prim.Native.Nat.{ℕ, ◌≤◌}
use mathlib.Core.Path.{◌≡◌, refl, ap, sym, subst, ◌∙◌}
use mathlib.Core.Bool.{true}
use mathlib.Core.List.{List, map}
use native.Mathlib.Omega.{arith}
use Rattle.grammar.specs.Rule.{Edition}
use Rattle.replies.specs.declared.Reply.{Reply}
use Rattle.tables.specs.Tables.{capacity, token_width, node_width}
use Rattle.meaning.specs.Sense.{Sense, Means, kind}
use Rattle.meaning.specs.Verdict as verdict
use Rattle.meaning.specs.Verdict.{Verdict}
use Rattle.meaning.specs.Answer.{tree_reply, tree_after}
use Rattle.meaning.specs.Calls.{first_records, good_tree_call, TreeAnswered}
use Rattle.meaning.proofs.Laws.{room_accepted}
use Rattle.meaning.proofs.SecondCall.{Follows, verdict_follows}
use Rattle.prediction.specs.validator.Check.{Checked}
use Rattle.meaning.proofs.OneMeaning.{some_sense}
use Rattle.promises.specs.Demands.{Again, TreeKept}
use Rattle.promises.proofs.Soundness.{SoundTree, tree_sound, tree_wide}
use Rattle.promises.proofs.Demand3.{same_front, records_again}

module _ (E : Edition) (text : ℕ) (ts : List (List ℕ)) (setting room room' : ℕ) (more_tree : room ≤ room') (tree₁ tree₂ : List ℕ) where
  kept : (v v' : Verdict) → SoundTree E setting room ts v → Follows room' v v' →
      TreeKept text ts v v' (tree_reply text ts v) (tree_reply text ts v') (tree_after v tree₁) (tree_after v' tree₂)
  unfolding SoundTree Follows tree_reply tree_after
  kept (verdict.accepted rs) v' s f =
      let e = f ∙ room_accepted room' rs (omega (arith, s.fit)) in
      rw e (record {
        said = refl;
        said_later = refl;
        acceptance = λ z. (refl, same_front node_width tree₂ tree₁ (tree_wide s));
        blame = λ z. absurd (omega arith);
        depth = λ p q i j. let z : ◌≡◌ {A = ℕ} 0 1 = cc in absurd (omega arith);
      })
  kept (verdict.full r) v' s f = record {
    said = refl;
    said_later = refl;
    acceptance = λ z. absurd (omega arith);
    blame = λ z. absurd (omega arith);
    depth = λ p q i j. let z : ◌≡◌ {A = ℕ} 0 1 = cc in absurd (omega arith);
  }
  kept (verdict.grammar q) v' s f = record {
    said = refl;
    said_later = refl;
    acceptance = λ z. absurd (omega arith);
    blame = λ z. (ap (tree_reply text ts) f, f);
    depth = λ p n i j. let z : ◌≡◌ {A = ℕ} 0 1 = cc in absurd (omega arith);
  }
  kept (verdict.deep p) v' s f = record {
    said = refl;
    said_later = refl;
    acceptance = λ z. absurd (omega arith);
    blame = λ z. absurd (omega arith);
    depth = λ n q i j. let e : p ≡ n = cc in omega (arith, f q j);
  }

module _ {E : Edition} (c : Checked E) {tokens₁ tokens₂ : List ℕ} (count text : ℕ) {tree₁ tree₂ : List ℕ} {setting₁ setting₂ : ℕ} {r₁ r₂ : Reply}
    {tree₁' tree₂' : List ℕ} (a : TreeAnswered E tokens₁ count text tree₁ setting₁ r₁ tree₁')
    (b : TreeAnswered E tokens₂ count text tree₂ setting₂ r₂ tree₂') (g : good_tree_call tokens₁ count text setting₁ ≡ true)
    (h : good_tree_call tokens₂ count text setting₂ ≡ true)
    (same : first_records token_width count tokens₁ ≡ first_records token_width count tokens₂) (deeper : setting₁ ≤ setting₂) where
  abbrev list : List (List ℕ)
  list = first_records token_width count tokens₁

  abbrev found : (setting : ℕ) (tree : List ℕ) → Sense → Verdict
  found setting tree s = verdict.verdict setting (capacity node_width tree) (map kind list) s

  -- the second call's answer, by the first call's list
  second : (s : Sense) → Means E (map kind list) s →
      (r₂ ≡ tree_reply text list (found setting₂ tree₂ s)) × (tree₂' ≡ tree_after (found setting₂ tree₂ s) tree₂)
  second = subst (λ (ts : List (List ℕ)). (s : Sense) → Means E (map kind ts) s →
      (r₂ ≡ tree_reply text ts (verdict.verdict setting₂ (capacity node_width tree₂) (map kind ts) s))
      × (tree₂' ≡ tree_after (verdict.verdict setting₂ (capacity node_width tree₂) (map kind ts) s) tree₂)) (sym same) (b.inside h)

  follows : (s : Sense) → Follows (capacity node_width tree₂) (found setting₁ tree₁ s) (found setting₂ tree₂ s)
  follows s = verdict_follows setting₁ setting₂ (capacity node_width tree₁) (capacity node_width tree₂) (map kind list) s deeper

  -- a tree table nowhere smaller
  pub larger_tree_call : capacity node_width tree₁ ≤ capacity node_width tree₂ → (s : Sense) → Means E (map kind list) s →
      TreeKept text list (found setting₁ tree₁ s) (found setting₂ tree₂ s) r₁ r₂ tree₁' tree₂'
  larger_tree_call more_tree s m =
      let x = a.inside g s m in
      let y = second s m in
      rw (x.0, x.1, y.0, y.1)
      (kept E text list setting₁ (capacity node_width tree₁) (capacity node_width tree₂) more_tree tree₁ tree₂ _ _
      (tree_sound setting₁ (capacity node_width tree₁) list s m) (follows s))

  -- a full tree table, beside a tree table of any size
  pub full_table : r₁.number ≡ 9 → Again r₁.records (capacity node_width tree₂) r₁ r₂
  full_table z =
      let m = some_sense c (map kind list) in
      let x = (a.inside g m.0 m.1).0 in
      let y = (second m.0 m.1).0 in
      rw (x, y) (records_again text list (capacity node_width tree₂) _ _ (follows m.0) (sym (ap (λ (q : Reply). q.number) x) ∙ z))
