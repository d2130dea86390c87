-- `report::Page::put_number` meets its contract: there is room for the byte after the digits.
-- They are the number's, as std has them. Assumes nothing.
use Rattle.std.proofs.Common.{[], ◌∷◌, ◌∙◌, subst, arith}
use Rattle.report.specs.Page.{Writes}
use Rattle.report.specs.Report.{number}
use Rattle.report.proofs.Decimal.{spelled}
use Rattle.report.proofs.Written.{rest_fits}
use Rattle.report.proofs.Page.put_number.Goals as goal

pub put-requires-2 : goal.put-requires-2
put-requires-2 c =
    let text = c.as_bytes.ensures.value ∙ c.format.ensures.text ∙ spelled c.args.n (omega arith) in
    rest_fits (number c.args.n) (c.args.after ∷ []) c.requires (subst (Writes c.args.self.now c.put.new.self) text c.put.ensures.written)
