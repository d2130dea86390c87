-- Every starred row of paper 01's sample table holds.
-- One computed test: the table with its answers computed anew is the table. What is computed is the verdict of every meaning of a text.
use Prim.Native.Nat.{ℕ}
use mathlib.Core.Path.{◌≡◌, refl, ap}
use mathlib.Core.Bool.{cond}
use mathlib.Core.List.{List, [], ◌∷◌, map}
use lib.Dec.{ltb}
use lib.ListN.{length}
use Rattle.kinds.specs.Kinds.{bytes}
use Rattle.grammar.specs.Idl.{idl}
use Rattle.text.specs.Tokens as scanned
use Rattle.text.specs.Tokens.{Tokens, tokens, tokens_of}
use Rattle.meaning.specs.Sense.{TextSense, TextMeans, means_fault, means_tokens, kind}
use Rattle.meaning.specs.Verdict.{TextVerdict, fault, full_tokens, judgement, text_verdict}
use Rattle.meaning.specs.Answer.{text_reply}
use Rattle.prediction.specs.validator.Check.{table}
use Rattle.prediction.specs.plans.IdlPlans.{idl_prediction}
use Rattle.prediction.proofs.theorems.IdlChecked.{idl_checked}
use Rattle.prediction.proofs.theorems.Theorems.{parse}
use Rattle.prediction.proofs.theorems.Verdict.{says}
use Rattle.meaning.proofs.Outcomes.{of_outcome, outcome_verdict}
use Rattle.meaning.specs.Samples.{Row, row, tree_of, Holds, All, none, more, starred}

module _ (setting token_room tree_room : ℕ) where
  -- the verdict on the tokens of a text, or on its fault, through the reader of `prediction`
  unfoldable computed : Tokens → TextVerdict
  unfolding of_outcome parse
  computed (scanned.fault f) = fault f
  computed (tokens ts) =
      cond (ltb token_room (length ts)) (full_tokens (length ts))
      (judgement ts (of_outcome idl (length (map kind ts)) tree_room (parse idl_checked setting (map kind ts)).0))

  -- it is the verdict of every meaning of the text
  computed_right : {text : List ℕ} {s : TextSense} → TextMeans idl text s →
      computed (tokens_of text) ≡ text_verdict setting token_room tree_room s
  unfolding computed text_verdict
  computed_right (means_fault e) = rw e
  computed_right (means_tokens {ts = ts} e m) =
      let ks = map kind ts in
      let x = parse idl_checked setting ks in
      rw (e, outcome_verdict idl_checked setting tree_room ks (says idl_checked setting ks x.0 x.1) m)

-- a row with its answer computed anew
unfoldable recomputed : Row → Row
unfolding computed tokens_of text_reply tree_of
recomputed r =
    let v = computed r.setting r.token_room r.tree_room (tokens_of (bytes r.text)) in
    row r.text r.setting r.token_room r.tree_room (text_reply (length (bytes r.text)) v) (tree_of v)

computed_holds : (r : Row) → recomputed r ≡ r → Holds r
unfolding recomputed Holds
computed_holds r e =
    λ s m.
    let c = computed_right r.setting r.token_room r.tree_room m in
    let said = ap (λ (x : Row). x.said) e in
    let tree = ap (λ (x : Row). x.tree) e in
    (cc, cc)

all_hold : (rs : List Row) → map recomputed rs ≡ rs → All Holds rs
all_hold [] e = none
all_hold (r ∷ rs) e = more (computed_holds r cc) (all_hold rs cc)

-- the computed test
same_table : map recomputed starred ≡ starred
unfolding recomputed starred table idl_prediction
same_table = refl

pub starred_hold : All Holds starred
starred_hold = all_hold starred same_table
