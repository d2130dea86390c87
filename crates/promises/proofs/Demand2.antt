-- Demand 2 of anything that answers as promised: what an acceptance, a fault and a grammar refusal say, and when they are given.
-- By the cases of the verdict for the one meaning of the tokens, and of the text.
use Prim.Native.Nat.{ℕ, ◌≤◌}
use mathlib.Core.Path.{◌≡◌, refl, ap, sym, subst, ◌∙◌}
use mathlib.Core.Bool.{true}
use mathlib.Core.List.{List, map}
use native.Mathlib.Omega.{arith}
use lib.ListN.{length}
use Rattle.grammar.specs.Blame.{Blame}
use Rattle.grammar.specs.Depth.{Within}
use Rattle.grammar.specs.Derivation.{kind_at, Derivation}
use Rattle.grammar.specs.Forest.{Forest}
use Rattle.grammar.specs.Rule.{Edition}
use Rattle.limits.specs.Limits.{good_call}
use Rattle.replies.specs.declared.Reply.{Reply}
use Rattle.replies.specs.Replies as rows
use Rattle.replies.specs.Faults.{Fault, row}
use Rattle.tables.specs.Tables.{capacity, front, token_width, node_width}
use Rattle.text.specs.Tokens as scanned
use Rattle.text.specs.Tokens.{tokens, tokens_of}
use Rattle.meaning.specs.Deep.{first_too_deep}
use Rattle.meaning.specs.Sense as sense
use Rattle.meaning.specs.Sense.{means_blame, means_tree, means_fault, means_tokens, kind, tree_records}
use Rattle.meaning.specs.Verdict as verdict
use Rattle.meaning.specs.Verdict.{Verdict, TextVerdict, fault, full_tokens, judgement, text_verdict}
use Rattle.meaning.specs.Answer.{place, tree_reply, tree_after, text_reply, text_tokens_after, text_tree_after}
use Rattle.meaning.specs.Calls.{Answered, first_records, good_tree_call, TreeAnswered}
use Rattle.meaning.proofs.Deep.{first_after}
use Rattle.meaning.proofs.Laws.{fault_range, room_judged, room_accepted, blame_given, records_given, tokens_stay}
use Rattle.prediction.specs.validator.Check.{Checked}
use Rattle.meaning.proofs.OneMeaning.{some_sense}
use Rattle.promises.specs.Demands.{TreeAccepted, Accepted, Faulted, TreeBlamed, Blamed}
use Rattle.promises.proofs.Soundness.{SoundTree, Sound, tree_sound, found_sound, answers_found}

-- What a verdict says.

module _ (E : Edition) (text : ℕ) (ts : List (List ℕ)) (tree : List ℕ) (setting : ℕ) where
  tree_acceptance_says : (v : Verdict) → SoundTree E setting (capacity node_width tree) ts v → (tree_reply text ts v).number ≡ 0 →
      TreeAccepted E text ts tree setting (tree_reply text ts v) (tree_after v tree)
  unfolding SoundTree tree_reply tree_after
  tree_acceptance_says (verdict.grammar q) s z = absurd (omega arith)
  tree_acceptance_says (verdict.deep p) s z = absurd (omega arith)
  tree_acceptance_says (verdict.full r) s z = absurd (omega arith)
  tree_acceptance_says (verdict.accepted rs) s z =
      let e = s.records_are in
      record {
        forest = s.forest;
        derives = s.derives;
        records_fit = subst (λ (x : List (List ℕ)). length x ≤ capacity node_width tree) e s.fit;
        shallow = s.shallow;
        said = ap (λ (x : List (List ℕ)). rows.accepted text (length ts) (length x)) e;
        tree_written = ap (λ (x : List (List ℕ)). front node_width x tree) e;
      }

  tree_blame_says : (v : Verdict) → SoundTree E setting (capacity node_width tree) ts v → (tree_reply text ts v).number ≡ 7 →
      TreeBlamed E text ts setting (tree_reply text ts v)
  unfolding SoundTree tree_reply
  tree_blame_says (verdict.grammar q) s z = record { token = q; blame = s.0; shallow = s.1; said = refl }
  tree_blame_says (verdict.deep p) s z = absurd (omega arith)
  tree_blame_says (verdict.full r) s z = absurd (omega arith)
  tree_blame_says (verdict.accepted rs) s z = absurd (omega arith)

module _ (E : Edition) (text table tree : List ℕ) (setting : ℕ) where
  acceptance_says : (v : TextVerdict) → Sound E text setting (capacity token_width table) (capacity node_width tree) v →
      (text_reply (length text) v).number ≡ 0 →
      Accepted E text table tree setting (text_reply (length text) v) (text_tokens_after v table) (text_tree_after v tree)
  unfolding Sound text_reply text_tokens_after text_tree_after
  acceptance_says (fault f) s z = absurd (omega (arith, (fault_range f).0))
  acceptance_says (full_tokens t) s z = absurd (omega arith)
  acceptance_says (judgement ts v) s z = record {
    list = ts;
    splits = s.0;
    tokens_fit = s.1.0;
    tree_part = tree_acceptance_says E (length text) ts tree setting v s.1.1 z;
    tokens_written = tokens_stay (length text) ts table v z;
  }

  fault_says : (v : TextVerdict) → Sound E text setting (capacity token_width table) (capacity node_width tree) v →
      2 ≤ (text_reply (length text) v).number → (text_reply (length text) v).number ≤ 5 → Faulted text (text_reply (length text) v)
  unfolding Sound text_reply tree_reply
  fault_says (fault f) s l m = record { first_fault = f; found = s; said = refl }
  fault_says (full_tokens t) s l m = absurd (omega arith)
  fault_says (judgement ts (verdict.grammar q)) s l m = absurd (omega arith)
  fault_says (judgement ts (verdict.deep p)) s l m = absurd (omega arith)
  fault_says (judgement ts (verdict.full r)) s l m = absurd (omega arith)
  fault_says (judgement ts (verdict.accepted rs)) s l m = absurd (omega arith)

  blame_says : (v : TextVerdict) → Sound E text setting (capacity token_width table) (capacity node_width tree) v →
      (text_reply (length text) v).number ≡ 7 → Blamed E text table setting (text_reply (length text) v)
  unfolding Sound text_reply
  blame_says (fault f) s z = absurd (omega (arith, (fault_range f).1))
  blame_says (full_tokens t) s z = absurd (omega arith)
  blame_says (judgement ts v) s z = record {
    list = ts;
    splits = s.0;
    tokens_fit = s.1.0;
    tree_part = tree_blame_says E (length text) ts tree setting v s.1.1 z;
  }

-- When it is given: with room and depth enough.

module _ (setting room : ℕ) (ks : List ℕ) where
  derived_accepted : (rs : List (List ℕ)) → length rs ≤ room → Within (kind_at ks) setting 0 (length ks) →
      verdict.verdict setting room ks (sense.derived rs) ≡ verdict.accepted rs
  unfolding verdict.verdict
  derived_accepted rs h w =
      records_given (first_too_deep setting (kind_at ks) (length ks)) (length ks) room rs
      (first_after setting (kind_at ks) {t = length ks} (omega arith) w)
      ∙ room_accepted room rs h

  blame_named : (q : ℕ) → q ≤ length ks → Within (kind_at ks) setting 0 q → verdict.verdict setting room ks (sense.blamed q) ≡ verdict.grammar q
  unfolding verdict.verdict
  blame_named q h w =
      blame_given (first_too_deep setting (kind_at ks) (length ks)) (length ks) room q (first_after setting (kind_at ks) {t = length ks} h w)

-- The whole reader.

module _ {E : Edition} (c : Checked E) (text : List ℕ) {table tree : List ℕ} {setting : ℕ} {r : Reply} {table' tree' : List ℕ}
    (a : Answered E text table tree setting r table' tree') (g : good_call (length text) setting ≡ true) where
  pub accepted_only : r.number ≡ 0 → Accepted E text table tree setting r table' tree'
  accepted_only z =
      let x = answers_found c text setting table tree a g in
      rw (x.0, x.1.0, x.1.1)
      (acceptance_says E text table tree setting _ (found_sound c text setting table tree) (sym (ap (λ (y : Reply). y.number) x.0) ∙ z))

  pub fault_only : 2 ≤ r.number → r.number ≤ 5 → Faulted text r
  fault_only l m =
      let x = (answers_found c text setting table tree a g).0 in
      rw x (fault_says E text table tree setting _ (found_sound c text setting table tree) (rw x at l) (rw x at m))

  pub fault_always : (f : Fault) → tokens_of text ≡ scanned.fault f → r ≡ row f
  unfolding text_verdict text_reply
  fault_always f e = (a.inside g (sense.faulty f) (means_fault e)).0

  pub blamed_only : r.number ≡ 7 → Blamed E text table setting r
  blamed_only z =
      let x = (answers_found c text setting table tree a g).0 in
      rw x (blame_says E text table tree setting _ (found_sound c text setting table tree) (sym (ap (λ (y : Reply). y.number) x) ∙ z))

  module _ (ts : List (List ℕ)) (e : tokens_of text ≡ tokens ts) (room : length ts ≤ capacity token_width table) where
    pub accepted_always : (f : Forest) → Derivation E (map kind ts) f → length (tree_records E f) ≤ capacity node_width tree →
        Within (kind_at (map kind ts)) setting 0 (length (map kind ts)) → r.number ≡ 0
    unfolding text_verdict text_reply tree_reply
    accepted_always f d h w =
        let x = (a.inside g (sense.read ts (sense.derived (tree_records E f))) (means_tokens e (means_tree f d))).0 in
        let accepts = derived_accepted setting (capacity node_width tree) (map kind ts) (tree_records E f) h w in
        let v = room_judged (capacity token_width table) ts _ room ∙ ap (judgement ts) accepts in
        ap (λ (y : Reply). y.number) (x ∙ ap (text_reply (length text)) v)

    pub blamed_always : (q : ℕ) → Blame E (map kind ts) q → Within (kind_at (map kind ts)) setting 0 q →
        r ≡ rows.grammar (place (length text) ts q) (length ts)
    unfolding text_verdict text_reply tree_reply
    blamed_always q b w =
        let x = (a.inside g (sense.read ts (sense.blamed q)) (means_tokens e (means_blame b))).0 in
        let names = blame_named setting (capacity node_width tree) (map kind ts) q b.within w in
        let v = room_judged (capacity token_width table) ts _ room ∙ ap (judgement ts) names in
        x ∙ ap (text_reply (length text)) v

-- The tree part called alone.

module _ {E : Edition} (c : Checked E) (tokens : List ℕ) (count text : ℕ) {tree : List ℕ} {setting : ℕ} {r : Reply} {tree' : List ℕ}
    (a : TreeAnswered E tokens count text tree setting r tree') (g : good_tree_call tokens count text setting ≡ true) where
  abbrev list : List (List ℕ)
  list = first_records token_width count tokens

  pub tree_accepted_only : r.number ≡ 0 → TreeAccepted E text list tree setting r tree'
  tree_accepted_only z =
      let s = some_sense c (map kind list) in
      let x = a.inside g s.0 s.1 in
      rw (x.0, x.1)
      (tree_acceptance_says E text list tree setting _ (tree_sound setting (capacity node_width tree) list s.0 s.1)
      (sym (ap (λ (y : Reply). y.number) x.0) ∙ z))

  pub tree_blamed_only : r.number ≡ 7 → TreeBlamed E text list setting r
  tree_blamed_only z =
      let s = some_sense c (map kind list) in
      let x = (a.inside g s.0 s.1).0 in
      rw x
      (tree_blame_says E text list tree setting _ (tree_sound setting (capacity node_width tree) list s.0 s.1)
      (sym (ap (λ (y : Reply). y.number) x) ∙ z))

  pub tree_accepted_always : (f : Forest) → Derivation E (map kind list) f → length (tree_records E f) ≤ capacity node_width tree →
      Within (kind_at (map kind list)) setting 0 (length (map kind list)) → r.number ≡ 0
  unfolding tree_reply
  tree_accepted_always f d h w =
      let x = (a.inside g (sense.derived (tree_records E f)) (means_tree f d)).0 in
      ap (λ (y : Reply). y.number) (x ∙ ap (tree_reply text list) (derived_accepted setting (capacity node_width tree) (map kind list) (tree_records E f) h w))

  pub tree_blamed_always : (q : ℕ) → Blame E (map kind list) q → Within (kind_at (map kind list)) setting 0 q →
      r ≡ rows.grammar (place text list q) (length list)
  unfolding tree_reply
  tree_blamed_always q b w =
      let x = (a.inside g (sense.blamed q) (means_blame b)).0 in
      x ∙ ap (tree_reply text list) (blame_named setting (capacity node_width tree) (map kind list) q b.within w)
