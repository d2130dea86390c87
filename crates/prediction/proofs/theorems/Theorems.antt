-- What holds of every list of tokens, for any edition that passes its test. The statements speak of the rules alone.
-- The proofs go through the plans: each list is read, and each answer of the reader says what it is by the rules.
use Prim.Native.Nat.{ℕ, suc, ◌*◌, ◌≤◌}
use mathlib.Core.Path.{◌≡◌}
use mathlib.Core.List.{List}
use native.Mathlib.Omega.{arith}
use lib.ListN.{length}
use Rattle.grammar.specs.Blame.{Blame}
use Rattle.grammar.specs.Depth.{depth, Within}
use Rattle.grammar.proofs.Blame.{one_blame}
use Rattle.grammar.proofs.Depth.{depth_bounded}
use Rattle.grammar.specs.Derivation.{kind_at, Derivation}
use Rattle.grammar.specs.Forest.{Forest, end, leaves}
use Rattle.grammar.proofs.Leaves.{leaves_are_tokens}
use Rattle.grammar.specs.Meaning.{Meaning, derived, blamed}
use Rattle.grammar.proofs.Nesting.{nesting, marks_closed, depth_bounds_nesting}
use Rattle.grammar.specs.Record.{records}
use Rattle.grammar.specs.Rule.{Edition}
use Rattle.prediction.specs.plans.Plan.{call}
use Rattle.prediction.specs.plans.RulesAsPlans.{as_plan}
use Rattle.prediction.specs.validator.Typing.{typed}
use Rattle.prediction.specs.validator.Check.{rounds, Checked, table_of}
use Rattle.prediction.specs.Interpreter.{Outcome, done, blame, deep}
use Rattle.prediction.proofs.validator.Check.{all_typed, all_founded}
use Rattle.prediction.proofs.correct.Inside.{zero_past}
use Rattle.prediction.proofs.complete.Compare.{one_forest}
use Rattle.prediction.proofs.complete.Parser.{Result, total}
use Rattle.prediction.proofs.theorems.SamePlans.{to_plans}
use Rattle.prediction.proofs.theorems.Verdict.{Says, says_derived, says_more, says_blamed, says_deep, says}
use Rattle.prediction.proofs.theorems.Bound.{bounded}

module _ {E : Edition} (c : Checked E) where
  -- the reader's answer to a list of kinds, at depth setting d: it computes
  unfoldable pub parse : (d : ℕ) (ks : List ℕ) → Result (table_of c) (kind_at ks) d (call E.start) 0 end
  unfolding typed total
  parse d ks =
      total (table_of c) (all_typed c) (kind_at ks) (length ks) (λ q h. zero_past ks q h) (suc rounds) (all_founded c)
      d 0 (call E.start) end tt (omega arith)

  -- no list of tokens has two derivations
  pub unique : (ks : List ℕ) (g g' : Forest) → Derivation E ks g → Derivation E ks g' → g' ≡ g
  unfolding Derivation as_plan typed
  unique ks g g' d d' =
      one_forest (table_of c) (kind_at ks) (all_typed c) {p = call E.start} tt (to_plans c (kind_at ks) d)
      (to_plans c (kind_at ks) d')

  -- each list of tokens has its derivation or its place of blame
  pub meaning : (ks : List ℕ) → Meaning E ks
  meaning ks =
      go (parse (length ks) ks).0
      (says c (length ks) ks (parse (length ks) ks).0 (parse (length ks) ks).1)
    where
      go : (x : Outcome) → Says E (length ks) ks x → Meaning E ks
      go (done j g) (says_derived e d l) = derived g d
      go (done j g) (says_more h b l) = blamed j b
      go (blame q) (says_blamed b l) = blamed q b
      go (deep q) (says_deep h b t) = let w = depth_bounded (kind_at ks) q in let e = t.full in absurd (omega arith)

  -- and never both
  pub never_both : (ks : List ℕ) (q : ℕ) (g : Forest) → Blame E ks q → Derivation E ks g → ⊥
  never_both ks q g b d = b.lacking g d

  -- the place of blame is one
  pub blamed_once : (ks : List ℕ) (q q' : ℕ) → Blame E ks q → Blame E ks q' → q' ≡ q
  blamed_once ks q q' b b' = one_blame E ks q q' b b'

  -- the leaves of a derivation are the tokens in order
  pub leaves_in_order : (ks : List ℕ) (g : Forest) → Derivation E ks g → leaves g ≡ ks
  leaves_in_order ks g d = leaves_are_tokens E ks g d

  -- at most 32 records for each token
  pub records_bounded : (ks : List ℕ) (g : Forest) → Derivation E ks g → length (records E 0 g) ≤ 32 * length ks
  records_bounded ks g d = bounded c ks g d

  -- every opening mark of a derivation is closed
  pub all_marks_closed : (ks : List ℕ) (g : Forest) → Derivation E ks g → depth (kind_at ks) (length ks) ≡ 0
  all_marks_closed ks g d = marks_closed E c.nested ks g d

  -- where no opening mark takes depth past n, no way down the tree has more than 32 uses of rules for each level
  pub nesting_bounded : (ks : List ℕ) (g : Forest) (n : ℕ) → Derivation E ks g → Within (kind_at ks) n 0 (length ks) →
      nesting g ≤ 32 * suc n
  nesting_bounded ks g n d w = depth_bounds_nesting E c.nested ks g n d w
