-- The rules that two lists of plans share: their plans are the same but for the numbers of the rules, and name shared rules alone.
-- Definitions; what they say of each shared rule is shown in proofs/sharing/Shared.antt.
use Prim.Native.Nat.{ℕ, zero, suc, pred}
use Rattle.std.specs.Prelude.{Bool, ◌&&◌, length}
use Rattle.std.proofs.Math.Bool.{cond}
use mathlib.Core.List.{List, [], ◌∷◌}
use Rattle.prediction.specs.Sets.{row}
use Rattle.prediction.specs.plans.Plan.{Plan, same_plan}
use Rattle.prediction.specs.plans.IdlPlans.{idl_prediction}
use Rattle.prediction.specs.validator.Fixpoint.{plan_at}
use Rattle.prediction.specs.sharing.Renaming.{renamed, inside}

module _ (number : ℕ → ℕ) (ps qs : List Plan) where
  -- rule n has the same plan in both lists, and names rules of S alone
  unfoldable pub agrees : (S : List ℕ) → ℕ → Bool
  unfolding same_plan plan_at inside renamed
  agrees S n = same_plan (plan_at qs (number n)) (renamed number (plan_at ps n)) && inside S (plan_at ps n)

  unfoldable pub agreeing : (S ns : List ℕ) → List ℕ
  unfolding agrees
  agreeing S [] = []
  agreeing S (n ∷ ns) = cond (agrees S n) (n ∷ agreeing S ns) (agreeing S ns)

  -- of the rules ns those that agree with one another, after so many rounds
  unfoldable pub shared : (rounds : ℕ) (ns : List ℕ) → List ℕ
  unfolding agreeing
  shared zero ns = ns
  shared (suc k) ns = shared k (agreeing ns ns)

-- rounds enough for the editions that there are: a rule is left out at most three uses behind a changed one
abbrev sharing_rounds : ℕ
sharing_rounds = 4

-- the rules of edition 1 that a list of plans shares with it, each by its number there
unfoldable pub shared_with_idl : (number : ℕ → ℕ) → List Plan → List ℕ
unfolding shared row idl_prediction
shared_with_idl number qs =
    let ps = idl_prediction.plans in
    shared number ps qs sharing_rounds (row 1 (pred (length ps)))
