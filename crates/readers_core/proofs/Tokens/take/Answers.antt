-- `take` reads by the plan of one token: it moves on, blames the token that is there, or passes a stop.
-- A token that is there stands in the table, so the place still fits its half. Assumes nothing.
use Rattle.std.proofs.Common.{ℕ, sym, ap, ◌∙◌, arith}
use Rattle.readers_core.specs.Reading.{kind_at}
use Rattle.readers_core.proofs.Equality.{differs, same}
use Rattle.readers_core.proofs.Frames.{moves_past, fits}
use Rattle.readers_core.proofs.Sequence.{missed, stays}
use Rattle.readers_core.proofs.Views.{goes_on, going_at, has_stopped}
use Rattle.readers_core.proofs.Tokens.take.Goals as goal

pub overflow_add-result : goal.overflow_add-result
overflow_add-result c =
    let ks = c.args.self.table.now in
    let there = sym (c.kind_at.ensures ∙ ap (λ (i : ℕ). kind_at ks i) c.low.ensures) ∙ same c.eq.ensures c.if-eq.true in
    omega (arith, fits ks c.args.kind c.at.inside.state c.args.self.addressable c.requires there)

pub returns-then-eq : goal.returns-then-eq
returns-then-eq c =
    let ks = c.args.self.table.now in
    let there = sym (c.kind_at.ensures ∙ ap (λ (i : ℕ). kind_at ks i) c.low.ensures) ∙ same c.eq.ensures c.if-eq.true in
    rw (← c.at.view_is) (record {
      reads = λ d w. record {
        in_any = λ start hs.
            moves_past ks c.args.kind c.at.inside.state c.args.self.addressable c.requires there;
      };
    })

pub returns-then-at-ge-STOP : goal.returns-then-at-ge-STOP
returns-then-at-ge-STOP c =
    rw (← c.at.view_is) (record {
      reads = λ d w. record { in_any = λ start hs. stays (has_stopped c.at.inside.state c.if-at-ge-STOP.true) };
    })

pub returns : goal.returns
returns c =
    let s = c.at.inside.state in
    let going = c.if-at-ge-STOP.false in
    let found = c.kind_at.ensures ∙ ap (λ (i : ℕ). kind_at c.args.self.table.now i) (c.low.ensures ∙ sym (going_at s going)) in
    rw (← c.at.view_is) (record {
      reads = λ d w. record {
        in_any = λ start hs.
            missed (goes_on s going) (λ e. differs c.eq.ensures c.if-eq.false (found ∙ e)) c.blamed.ensures.answers
            c.blamed.ensures.places;
      };
    })
