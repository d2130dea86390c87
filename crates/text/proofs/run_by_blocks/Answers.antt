-- `text::run_by_blocks` meets its contract: the full blocks, and the run in the first that is not full or in the bytes behind them.
-- The blocks before the one that the search finds are of the class. Assumes nothing.
use Rattle.std.proofs.Common.{sym, ◌/◌, rules, tests, length}
use Rattle.std.specs.Simd.{first_chunks}
use Rattle.std.proofs.lemmas.Iterator.{YieldsList-from_slice}
use Rattle.std.proofs.lemmas.Iterator.Search.{position_from_yields_List}
use Rattle.text.specs.Classes.{block}
use Rattle.text.proofs.Blocks.{ends_in, ends_at, passed_all, parts_fit}
use Rattle.text.proofs.run_by_blocks.Goals as goal

pub returns-in-Some : goal.returns-in-Some
returns-in-Some g c =
    let class = g.C.Class.member in
    let text = c.args.text.now in
    let k = length text / block in
    let parts = first_chunks block k text in
    let ends = ends_in class block k text in
    let found =
    position_from_yields_List ends _ _ c.position.result c.position.ensures.ran (YieldsList-from_slice parts cc) (λ x b q k. search (rules, tests)) in
    let e = ends_at class block k text c.position.result found c.in-Some.full c.in-Some.is in
    rw (c.run_of.ensures, c.as_chunks.ensures.front) e

pub returns-in-None : goal.returns-in-None
returns-in-None g c =
    let class = g.C.Class.member in
    let text = c.args.text.now in
    let k = length text / block in
    let parts = first_chunks block k text in
    let ends = ends_in class block k text in
    let found =
    position_from_yields_List ends _ _ c.position.result c.position.ensures.ran (YieldsList-from_slice parts cc) (λ x b q k. search (rules, tests)) in
    let e = passed_all class block k text c.position.result found c.in-None.is in
    rw (c.run_of-in-None.ensures, c.as_chunks.ensures.back, c.as_chunks.ensures.front_len) (sym e)

pub overflow_add-result-in-None : goal.overflow_add-result-in-None
overflow_add-result-in-None g c =
    let many = c.as_chunks.ensures in
    let within = parts_fit g.C.Class.member block _ _ c.args.text.now _ many.front_len many.back c.run_of-in-None.ensures in
    search rules
