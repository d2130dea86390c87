-- `words::search` meets its contract. The loop's invariant: what is left of the near keywords from this row on, and how many came before.
-- A keyword that the word is not, case aside, is passed and counted; the rows up to the next near one add none. Assumes nothing.
use mathlib.Core.Path.{sym, ◌∙◌}
use Rattle.words.proofs.Searching.{at_row, first_place, begun, no_row, room, ended, found_same, found_but_case, gone_on}
use Rattle.words.proofs.search.Goals as goal

pub loop-near-init : goal.loop-near-init
loop-near-init c = rw c.requires.compared_value (begun _ (first_place _ c.first_near-near.ensures))

pub compare-requires : goal.compare-requires
compare-requires c =
    let s = at_row c.in-Some.is c.loop-near.invariant in
    (s.there c.in-Some.row.in_table, room _ s c.in-Some.row.in_table)

pub returns-in-Same-clause-value : goal.returns-in-Same-clause-value
returns-in-Same-clause-value c =
    rw c.kind.ensures
    (found_same _ (at_row c.in-Some.is c.loop-near.invariant) c.in-Some.row.in_table (sym c.in-Same.is ∙ c.compare.ensures.value)).0

pub returns-in-Same-clause-compared_after : goal.returns-in-Same-clause-compared_after
returns-in-Same-clause-compared_after c =
    rw c.compare.ensures.compared_after
    (found_same _ (at_row c.in-Some.is c.loop-near.invariant) c.in-Some.row.in_table (sym c.in-Same.is ∙ c.compare.ensures.value)).1

pub returns-in-ButCase-clause-value : goal.returns-in-ButCase-clause-value
returns-in-ButCase-clause-value c =
    rw c.kind-in-ButCase.ensures
    (found_but_case _ (at_row c.in-Some.is c.loop-near.invariant) c.in-Some.row.in_table (sym c.in-ButCase.is ∙ c.compare.ensures.value)).0

pub returns-in-ButCase-clause-compared_after : goal.returns-in-ButCase-clause-compared_after
returns-in-ButCase-clause-compared_after c =
    rw c.compare.ensures.compared_after
    (found_but_case _ (at_row c.in-Some.is c.loop-near.invariant) c.in-Some.row.in_table (sym c.in-ButCase.is ∙ c.compare.ensures.value)).1

pub loop-near-preserved : goal.loop-near-preserved
loop-near-preserved c =
    rw c.compare.ensures.compared_after
    (gone_on _ (at_row c.in-Some.is c.loop-near.invariant) c.in-Some.row.in_table (sym c.in-Different.is ∙ c.compare.ensures.value)
    (first_place _ c.next_near-near.ensures))

pub returns-clause-value : goal.returns-clause-value
returns-clause-value c = (ended _ c.loop-near.invariant (no_row _ c.in_default.not-Some)).0

pub returns-clause-compared_after : goal.returns-clause-compared_after
returns-clause-compared_after c = (ended _ c.loop-near.invariant (no_row _ c.in_default.not-Some)).1
