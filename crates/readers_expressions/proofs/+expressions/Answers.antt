-- The readers of expressions, which call each other, meet their contracts: each reads its rule as its plan is.
-- The remaining depth falls at "(", and at one depth the level rises with each operation. Assumes nothing.
use Rattle.std.proofs.Common.{rules}
use Rattle.readers_core.proofs.Computing.{computing}
use Rattle.kinds.specs.Kinds.{identifier}
use Rattle.kinds.specs.Lists.{only}
use Rattle.grammar.specs.Names.{rule}
use Rattle.prediction.specs.plans.Plan.{Plan, call}
use Rattle.readers_core.proofs.Choosing.{among, except}
use Rattle.readers_core.proofs.Frames.{frame_on, passed_on}
use Rattle.readers_core.proofs.Groups.{enclosed, room, shut}
use Rattle.readers_core.proofs.Sequence.{◌▸◌}
use Rattle.readers_core.specs.Course.{one}
use Rattle.readers_core.specs.Reading.{Reads, State}
use Rattle.readers_expressions.proofs.Climbing.{climbed, less, operated, settled}
use Rattle.readers_expressions.proofs.Operations.{below_operand, bounded, leveled, no_level, operator_kind, the_level}
use Rattle.readers_core.proofs.Starts.{is_in, is_out}
use Rattle.readers_expressions.specs.Levels.{level_of as level_of', operand, signs}
use mathlib.Core.List.{List, [], ◌∷◌}
use mathlib.Core.Path.{◌∙◌, ◌≡◌, ap, refl, subst, sym}
use native.Mathlib.Omega.{arith}
use Prim.Native.Nat.{ℕ, ◌<◌, ◌≤◌}
use Rattle.readers_expressions.proofs.+expressions.Goals as goal

-- an operand that has no sign is read from where the sign would stand
unmoved : {ks : List ℕ} {d : ℕ} {p : Plan} {s s' t : State} → s' ≡ s → Reads one ks d p s' t → Reads one ks d p s t
unmoved {ks} {d} {p} {t = t} e = subst (λ (s : State). Reads one ks d p s t) e

-- an operand, and operations as long as an operator of the level or above is next
pub binary-loop-found-init : goal.binary-loop-found-init
binary-loop-found-init t c =
    (refl, λ w r. settled c.args.level operand c.requires.0 c.requires.1 (omega arith) (bounded _) r)

pub binary-returns-in_default : goal.binary-returns-in_default
binary-returns-in_default t c =
    let next = c.next_kind.ensures in
    let none = no_level (level_of' c.next_kind.result) c.in_default.is c.level_of.ensures in
    record {
      reads = (c.loop-found.invariant.1 _ c.unary-value.ensures).over next refl (omega (arith, none, c.requires));
      looser = rw (sym next) (omega (arith, none, c.requires));
    }

pub binary-returns-then-lt : goal.binary-returns-then-lt
binary-returns-then-lt t c =
    let next = c.next_kind.ensures in
    let found = the_level (level_of' c.next_kind.result) c.in-Some.is c.level_of.ensures in
    let looser : c.in-Some.found < c.args.level = search rules in
    record {
      reads = (c.loop-found.invariant.1 _ c.unary-value.ensures).over next found looser;
      looser = rw (sym next) (omega (arith, found, looser));
    }

pub binary-operation-value-requires : goal.binary-operation-value-requires
binary-operation-value-requires t c =
    let found = the_level (level_of' c.next_kind.result) c.in-Some.is c.level_of.ensures in
    let tighter : c.args.level ≤ c.in-Some.found = search rules in
    (omega (arith, c.requires, tighter), (found ∙ ap level_of' c.next_kind.ensures, omega (arith, c.requires, tighter)))

pub binary-loop-found-smaller : goal.binary-loop-found-smaller
binary-loop-found-smaller t c =
    let found = the_level (level_of' c.next_kind.result) c.in-Some.is c.level_of.ensures in
    let tighter : c.args.level ≤ c.in-Some.found = search rules in
    less (leveled _ _ found (omega (arith, c.requires, tighter))) c.next_kind.ensures c.operation-value.ensures.within

pub binary-loop-found-preserved : goal.binary-loop-found-preserved
binary-loop-found-preserved t c =
    let operation = c.operation-value in
    let loop = c.loop-found in
    let found = the_level (level_of' c.next_kind.result) c.in-Some.is c.level_of.ensures in
    let tighter : c.args.level ≤ c.in-Some.found = search rules in (
      operation.auto.tree ∙ loop.invariant.0,
      λ w r. climbed (leveled _ _ found (omega (arith, c.requires, tighter))) c.next_kind.ensures operation.ensures.within
          c.args.level c.requires.0 tighter operation.ensures.looser (loop.invariant.1 w r),
    )

-- the operator that is next, its right operand one level tighter, and the node
pub operation-take-operator-requires : goal.operation-take-operator-requires
operation-take-operator-requires t c =
    operator_kind _ _ (c.requires.0 ∙ ap level_of' (sym c.next_kind-next.ensures)) c.requires.1

pub operation-tighter-requires : goal.operation-tighter-requires
operation-tighter-requires t c = omega (arith, below_operand _ _ c.requires.0)

pub operation-binary-operand-requires : goal.operation-binary-operand-requires
operation-binary-operand-requires t c =
    let h = below_operand _ _ c.requires.0 in omega (arith, h, c.requires.1, c.tighter.ensures)

pub operation-returns : goal.operation-returns
operation-returns t c =
    let right = c.binary-operand in
    let next = c.next_kind-next.ensures in
    let reads = subst
    (λ (n : ℕ). Reads one c.args.tokens.table.now c.args.depth (call n) (c.take-operator.result, c.args.tree.now)
    (right.result, right.new.tree)) c.tighter.ensures right.ensures.reads in
    let read = operated (leveled _ _ (c.requires.0 ∙ ap level_of' (sym next)) c.requires.1) next c.take-operator.ensures
    reads c.node.ensures (omega (arith, right.ensures.looser, c.tighter.ensures)) in
    record { within = read.0; looser = read.1 }

-- between the marks, an expression at one level of depth less
pub parenthesized-returns-then-has_stopped : goal.parenthesized-returns-then-has_stopped
parenthesized-returns-then-has_stopped t c = shut c.open-inside.ensures c.has_stopped.ensures c.if-has_stopped.true

pub parenthesized-overflow_sub-depth : goal.parenthesized-overflow_sub-depth
parenthesized-overflow_sub-depth t c =
    room c.open-inside.ensures c.has_stopped.ensures c.if-has_stopped.false

pub parenthesized-binary-value-requires : goal.parenthesized-binary-value-requires
parenthesized-binary-value-requires t c =
    let h = room c.open-inside.ensures c.has_stopped.ensures c.if-has_stopped.false in omega arith

pub parenthesized-returns : goal.parenthesized-returns
unfolding computing
parenthesized-returns t c =
    enclosed c.open-inside.ensures
    (passed_on (rule "const_exp") (except []) refl tt refl tt c.binary-value.ensures.reads)
    c.take.ensures

-- a name, a literal or an expression in parentheses, as the next kind tells
pub primary-returns-in-IDENTIFIER : goal.primary-returns-in-IDENTIFIER
unfolding computing
primary-returns-in-IDENTIFIER t c =
    passed_on (rule "primary_expr") (among (identifier ∷ only "::")) c.next_kind-next.ensures
    (search rules) refl tt (c.scoped_name.ensures.at_any _)

pub primary-returns-in-OPEN_PARENTHESIS : goal.primary-returns-in-OPEN_PARENTHESIS
unfolding computing
primary-returns-in-OPEN_PARENTHESIS t c =
    frame_on (rule "primary_expr") (among (only "(")) c.next_kind-next.ensures (omega arith)
    (c.parenthesized-group.ensures.in_any _ _ ▸
    c.node.ensures.wraps refl _ _ _ tt)

pub primary-returns-in_default : goal.primary-returns-in_default
unfolding computing
primary-returns-in_default t c =
    passed_on (rule "primary_expr") (except (only "(" ∷ (identifier ∷ only "::") ∷ [])) c.next_kind-next.ensures
    (omega arith) refl tt (c.literal.ensures.at_any _)

-- an operand with its sign in a frame of its own, or an operand alone
pub unary-returns-then-signed : goal.unary-returns-then-signed
unfolding computing
unary-returns-then-signed t c =
    let next = c.next_kind-next in
    frame_on (rule "unary_expr") (among signs) next.ensures
    (is_in signs next.result c.is_one_of-signed.ensures c.if-signed.true)
    ((((c.sign-behind.ensures.reads c.if-signed.true).at_any _).in_any _ _ ▸ c.primary-operand.ensures.in_any _ _) ▸
    c.node.ensures.wraps refl _ _ _ tt)

pub unary-returns : goal.unary-returns
unfolding computing
unary-returns t c =
    let next = c.next_kind-next in
    passed_on (rule "unary_expr") (except (signs ∷ [])) next.ensures
    (is_out signs next.result c.is_one_of-signed.ensures c.if-signed.false) refl tt
    (unmoved (c.sign-behind.ensures.stays c.if-signed.false) c.primary-operand.ensures)
