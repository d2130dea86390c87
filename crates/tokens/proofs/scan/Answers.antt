-- `tokens::scan` meets its contract. The loop's invariant: the tokens passed and the rest of the text are what the whole text is.
-- Each lexeme moves it on, and a fault or the end of the text decides it. Assumes nothing.
use Rattle.std.proofs.Common.{arith}
use Rattle.tokens.proofs.Scans.{reading_starts, passes_blank, passes_token, stops, reading_ends}
use Rattle.tokens.proofs.scan.Goals as goal

pub loop-at-init : goal.loop-at-init
loop-at-init c = reading_starts _ _

-- a blank
pub overflow_add-at : goal.overflow_add-at
overflow_add-at c =
    let passed = passes_blank _ _ c.loop-at-test.true c.loop-at.invariant c.in-Ok-Blank.field-0-is c.in-Ok-Blank.ensures in
    omega (arith, passed.inside)

pub past_space-at-requires : goal.past_space-at-requires
past_space-at-requires c =
    let passed = passes_blank _ _ c.loop-at-test.true c.loop-at.invariant c.in-Ok-Blank.field-0-is c.in-Ok-Blank.ensures in
    passed.inside

pub loop-at-smaller-in-Ok-Blank : goal.loop-at-smaller-in-Ok-Blank
loop-at-smaller-in-Ok-Blank c =
    let passed = passes_blank _ _ c.loop-at-test.true c.loop-at.invariant c.in-Ok-Blank.field-0-is c.in-Ok-Blank.ensures in
    omega (arith, passed.some, passed.inside, c.past_space-at.ensures)

pub loop-at-preserved-in-Ok-Blank : goal.loop-at-preserved-in-Ok-Blank
loop-at-preserved-in-Ok-Blank c =
    let passed = passes_blank _ _ c.loop-at-test.true c.loop-at.invariant c.in-Ok-Blank.field-0-is c.in-Ok-Blank.ensures in
    rw c.past_space-at.ensures passed.goes_on

-- a token
pub overflow_cast-size : goal.overflow_cast-size
overflow_cast-size c =
    let passed = passes_token _ _ c.loop-at-test.true c.loop-at.invariant c.in-Ok-Token.field-0-is c.in-Ok-Token.ensures in
    omega (arith, passed.inside)

pub overflow_add-at-in-Ok-Token : goal.overflow_add-at-in-Ok-Token
overflow_add-at-in-Ok-Token c =
    let passed = passes_token _ _ c.loop-at-test.true c.loop-at.invariant c.in-Ok-Token.field-0-is c.in-Ok-Token.ensures in
    omega (arith, passed.inside)

pub past_space-at-requires-in-Ok-Token : goal.past_space-at-requires-in-Ok-Token
past_space-at-requires-in-Ok-Token c =
    let passed = passes_token _ _ c.loop-at-test.true c.loop-at.invariant c.in-Ok-Token.field-0-is c.in-Ok-Token.ensures in
    passed.inside

pub loop-at-smaller : goal.loop-at-smaller
loop-at-smaller c =
    let passed = passes_token _ _ c.loop-at-test.true c.loop-at.invariant c.in-Ok-Token.field-0-is c.in-Ok-Token.ensures in
    omega (arith, passed.some, passed.inside, c.past_space-at-in-Ok-Token.ensures)

pub loop-at-preserved : goal.loop-at-preserved
loop-at-preserved c =
    let passed = passes_token _ _ c.loop-at-test.true c.loop-at.invariant c.in-Ok-Token.field-0-is c.in-Ok-Token.ensures in
    rw (c.put.ensures, c.past_space-at-in-Ok-Token.ensures) passed.goes_on

-- a fault, and the end of the text
pub returns-in-Err : goal.returns-in-Err
returns-in-Err c = stops _ _ c.loop-at-test.true c.loop-at.invariant c.in-Err.ensures c.fault_reply.ensures

pub returns : goal.returns
returns c = reading_ends _ _ c.loop-at-test.false c.loop-at.invariant
