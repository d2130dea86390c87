-- What a predictive reader finds is the verdict on its tokens, whatever it was lent.
-- By the cases of what its answer says and of the meaning; the first mark too deep comes before the place of blame or it does not.
use Prim.Native.Nat.{ℕ, suc, ◌≤◌, ◌<◌}
use mathlib.Core.Path.{◌≡◌}
use mathlib.Core.Bool.{Bool, true, false, not, cond}
use mathlib.Core.List.{List}
use native.Mathlib.Omega.{arith}
use borrow.Author.Tests.{lt-ltb, le-ltb, eq-eqb, ne_eqb}
use lib.Dec.{T, eqb, ltb, ltb→lt, nltb→le}
use lib.ListN.{length}
use Rattle.grammar.specs.Rule.{Edition}
use Rattle.grammar.specs.Derivation.{kind_at}
use Rattle.grammar.specs.Blame.{Begins, Blame}
use Rattle.grammar.proofs.Blame.{shorter}
use Rattle.meaning.specs.Deep.{first_too_deep}
use Rattle.meaning.proofs.Deep.{first_relation, first_after}
use Rattle.meaning.specs.Sense.{Sense, Means, means_blame, means_tree, tree_records}
use Rattle.meaning.specs.Verdict.{Verdict, grammar, deep, full, accepted, judged, verdict}
use Rattle.prediction.specs.validator.Check.{Checked}
use Rattle.prediction.specs.Interpreter as run
use Rattle.prediction.proofs.theorems.Theorems.{unique, never_both, blamed_once}
use Rattle.prediction.proofs.theorems.Verdict.{Says, says_derived, says_more, says_blamed, says_deep}

-- the verdict that an outcome on t tokens stands for
unfoldable pub of_outcome : Edition → (tokens room : ℕ) → run.Outcome → Verdict
unfolding tree_records
of_outcome E t room (run.done j g) =
    cond (eqb j t)
    (cond (ltb room (length (tree_records E g))) (full (length (tree_records E g))) (accepted (tree_records E g))) (grammar j)
of_outcome E t room (run.blame q) = grammar q
of_outcome E t room (run.deep q) = deep q

-- what is viable through token q is blamed behind it
behind : {E : Edition} {ks : List ℕ} {p q : ℕ} → p < length ks → Begins E ks (suc p) → Blame E ks q → p < q
behind {p = p} {q = q} h v b = go (ltb p q) (ltb→lt p q) (nltb→le p q)
  where
    go : (x : Bool) → (T x → p < q) → (T (not x) → q ≤ p) → p < q
    go true a c = a tt
    go false a c = absurd (b.dead (omega (arith, c tt)) (shorter (suc q) (suc p) (omega (arith, c tt)) v))

module _ {E : Edition} (c : Checked E) (setting room : ℕ) (ks : List ℕ) where
  pub outcome_verdict : {x : run.Outcome} {s : Sense} → Says E setting ks x → Means E ks s →
      of_outcome E (length ks) room x ≡ verdict setting room ks s
  unfolding of_outcome verdict judged
  outcome_verdict (says_derived {g} {j} e d w) (means_blame {q} b) = absurd (never_both c ks q g b d)
  outcome_verdict (says_derived {g} {j} e d w) (means_tree g' d') =
      let a = first_after setting (kind_at ks) {t = length ks} {j = j} (omega arith) w in
      let same = unique c ks g g' d d' in
      simp (eq-eqb j (length ks) e, le-ltb (first_too_deep setting (kind_at ks) (length ks)) (length ks) (omega arith), same)
  outcome_verdict (says_more {g} {j} h b w) (means_blame {q} b') =
      let a = first_after setting (kind_at ks) {t = length ks} {j = j} (omega arith) w in
      let same = blamed_once c ks j q b b' in
      simp (ne_eqb j (length ks) (λ e. omega arith), same, le-ltb (first_too_deep setting (kind_at ks) (length ks)) j (omega arith))
  outcome_verdict (says_more {g} {j} h b w) (means_tree g' d') = absurd (never_both c ks j g' b d')
  outcome_verdict (says_blamed {q} b w) (means_blame {q = q'} b') =
      let a = first_after setting (kind_at ks) {t = length ks} {j = q} b.within w in
      let same = blamed_once c ks q q' b b' in
      simp (same, le-ltb (first_too_deep setting (kind_at ks) (length ks)) q (omega arith))
  outcome_verdict (says_blamed {q} b w) (means_tree g d) = absurd (never_both c ks q g b d)
  outcome_verdict (says_deep {q} h v t) (means_blame {q = q'} b) =
      let a = first_relation setting (kind_at ks) {t = length ks} {q = q} h t in
      let l = behind h v b in
      simp (a, lt-ltb q q' l)
  outcome_verdict (says_deep {q} h v t) (means_tree g d) =
      let a = first_relation setting (kind_at ks) {t = length ks} {q = q} h t in
      simp (a, lt-ltb q (length ks) h)
