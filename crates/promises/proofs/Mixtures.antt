-- A mixture of strings is blamed at its second token, unless a token before that is, in each edition that is offered.
-- By the law of neighbours: for either order it is computed that no plan of the edition has the one directly behind the other.
use Prim.Native.Nat.{ℕ, suc, ◌<◌}
use mathlib.Core.List.{List}
use lib.Dec.{T}
use lib.ListN.{length}
use Rattle.grammar.specs.Blame.{Begins, Blame}
use Rattle.grammar.specs.Derivation.{kind_at}
use Rattle.promises.specs.Editions.{Offered, edition_1}
use Rattle.grammar.specs.Rule.{Edition}
use Rattle.kinds.specs.Kinds.{string, wide_string}
use Rattle.prediction.specs.validator.Check.{Checked, plans_of, table}
use Rattle.prediction.specs.validator.Fixpoint.{every, plan_at, round}
use Rattle.prediction.specs.plans.IdlPlans.{idl_prediction}
use Rattle.promises.proofs.Editions.{checked_of}
use Rattle.prediction.proofs.theorems.Neighbours.{keeps_apart, blamed_beside}
use Rattle.promises.specs.Demands.{Mixed, wide_behind_narrow, narrow_behind_wide}

-- no plan has a token of kind l directly behind one of kind k
abbrev Apart : {E : Edition} → Checked E → (k l : ℕ) → Type 0
Apart c k l = T (every (keeps_apart c k l) (plans_of c))

no_wide_behind_narrow : {E : Edition} (offered : Offered E) → Apart (checked_of offered) string wide_string
unfolding checked_of every keeps_apart table round plan_at idl_prediction
no_wide_behind_narrow edition_1 = tt

no_narrow_behind_wide : {E : Edition} (offered : Offered E) → Apart (checked_of offered) wide_string string
unfolding checked_of every keeps_apart table round plan_at idl_prediction
no_narrow_behind_wide edition_1 = tt

pub mixture_blamed : {E : Edition} → Offered E → (ks : List ℕ) (q : ℕ) → suc q < length ks →
    Mixed (kind_at ks q) (kind_at ks (suc q)) → Begins E ks (suc q) → Blame E ks (suc q)
mixture_blamed o ks q h (wide_behind_narrow e e') =
    blamed_beside (checked_of o) string wide_string (no_wide_behind_narrow o) ks q h e e'
mixture_blamed o ks q h (narrow_behind_wide e e') =
    blamed_beside (checked_of o) wide_string string (no_narrow_behind_wide o) ks q h e e'
