-- `open` reads an opening mark: it moves on, blames, stops for depth, or passes a stop.
-- By the tests, in the order of the cases. Assumes nothing.
use Rattle.std.proofs.Common.{ℕ, sym, refl, ap, ◌∙◌, arith}
use Rattle.readers_core.specs.Reading.{kind_at, opens_blamed, opens_stopped}
use Rattle.readers_core.proofs.Equality.{differs, same}
use Rattle.readers_core.proofs.Frames.{opens_past, fits}
use Rattle.readers_core.proofs.Views.{goes_on, going_at, has_stopped}
use Rattle.readers_core.proofs.Tokens.open.Goals as goal

pub overflow_add-result : goal.overflow_add-result
overflow_add-result c =
    let ks = c.args.self.table.now in
    let there = sym (c.kind_at.ensures ∙ ap (λ (i : ℕ). kind_at ks i) c.low.ensures) ∙ same c.eq.ensures c.if-eq.true in
    omega (arith, fits ks c.args.mark c.at.inside.state c.args.self.addressable c.requires there)

pub returns-then-depth-gt0 : goal.returns-then-depth-gt0
returns-then-depth-gt0 c =
    let ks = c.args.self.table.now in
    let there = sym (c.kind_at.ensures ∙ ap (λ (i : ℕ). kind_at ks i) c.low.ensures) ∙ same c.eq.ensures c.if-eq.true in
    rw (← c.at.view_is) (opens_past ks c.args.mark c.at.inside.state c.args.self.addressable c.requires there
    c.if-depth-gt0.true)

pub returns-then-at-ge-STOP : goal.returns-then-at-ge-STOP
returns-then-at-ge-STOP c = rw (← c.at.view_is) (opens_stopped (has_stopped c.at.inside.state c.if-at-ge-STOP.true) refl refl)

pub returns-then-at-ge-STOP-2 : goal.returns-then-at-ge-STOP-2
returns-then-at-ge-STOP-2 c = rw (← c.at.view_is) (opens_stopped (has_stopped c.at.inside.state c.if-at-ge-STOP-2.true) refl refl)

pub returns : goal.returns
returns c =
    let s = c.at.inside.state in
    let going = c.if-at-ge-STOP-2.false in
    let found = c.kind_at.ensures ∙ ap (λ (i : ℕ). kind_at c.args.self.table.now i) (c.low.ensures ∙ sym (going_at s going)) in
    rw (← c.at.view_is) (opens_blamed (goes_on s going) (λ e. differs c.eq.ensures c.if-eq.false (found ∙ e)) c.blamed.ensures.answers
    c.blamed.ensures.places)
