-- `init_param_decls` reads rule 24: a comma tells that there are several, and else it has no record.
-- By the law of such lists. Assumes nothing.
use Rattle.readers_core.proofs.Equality.{differs, same}
use Rattle.kinds.specs.Lists.{only}
use Rattle.readers_core.proofs.Computing.{computing}
use Rattle.readers_core.proofs.Choosing.{among, except}
use Rattle.readers_core.proofs.Lists.{one_part, several_parts}
use mathlib.Core.List.{[], ◌∷◌}
use mathlib.Core.Path.{refl}
use Rattle.readers_operations.proofs.init_param_decls.Goals as goal

pub returns-then-eq : goal.returns-then-eq
unfolding computing
returns-then-eq c =
    several_parts refl c.init_param_decl-first.ensures (among (only ","))
    c.next_kind-next.ensures (same c.eq.ensures c.if-eq.true) tt c.further-listed.ensures refl c.node.ensures tt

pub returns : goal.returns
unfolding computing
returns c =
    one_part refl c.init_param_decl-first.ensures (except (only "," ∷ []))
    c.next_kind-next.ensures (tt, (differs c.eq.ensures c.if-eq.false)) (λ u. u) tt tt
