-- (11) interface_name and (20) value_name are a scoped name alone, so that a scoped name is read as either.
-- Computed from their plans; a node over exactly one other leaves no record. Assumes nothing.
use Rattle.readers_core.proofs.Computing.{computing}
use Prim.Native.Nat.{ℕ}
use mathlib.Core.Path.{refl, ap}
use mathlib.Core.List.{List, []}
use Rattle.grammar.specs.Names.{rule}
use Rattle.prediction.specs.plans.Plan.{Plan, call}
use Rattle.readers_core.specs.Notation.{<◌>}
use Rattle.readers_core.specs.Course.{one, table_in}
use Rattle.readers_core.specs.Reading.{Reading, Reads}
use Rattle.readers_core.proofs.Choosing.{except, choose}
use Rattle.readers_core.proofs.Frames.{passed_on}
use Rattle.readers_interfaces.specs.Plans.{Names}

pub interface_names : Names (rule "interface_name")
unfolding computing
interface_names = record { plan_is = refl; no_record = tt }

pub value_names : Names (rule "value_name")
unfolding computing
value_names = record { plan_is = refl; no_record = tt }

pub by_name : {n : ℕ} {ks : List ℕ} {d : ℕ} {s u : Reading} {w w' : List ℕ} → Names n → Reads one ks d < "scoped_name" > (s, w) (u, w') →
    Reads one ks d (call n) (s, w) (u, w')
unfolding computing
by_name {n} h x =
    passed_on n (except []) refl tt (ap (λ (p : Plan). choose (table_in one) (except []) p) h.plan_is) h.no_record x
