-- Each edition that is offered passes its test.
-- Computed for each.
use Rattle.grammar.specs.Rule.{Edition}
use Rattle.promises.specs.Editions.{Offered, edition_1}
use Rattle.prediction.specs.validator.Check.{Checked}
use Rattle.prediction.proofs.theorems.IdlChecked.{idl_checked}

unfoldable pub checked_of : {E : Edition} → Offered E → Checked E
checked_of edition_1 = idl_checked
