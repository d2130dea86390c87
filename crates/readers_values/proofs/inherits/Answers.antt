-- `inherits` reads by its plan: values behind ":", and the interfaces that are supported besides.
-- Its calls are put together as its plan is. Assumes nothing.
use Rattle.readers_core.proofs.Lines.{◌▸▸◌, append}
use Rattle.readers_interfaces.proofs.Names.{value_names}
use Rattle.readers_core.proofs.Parts.{◌then◌}
use Rattle.readers_values.proofs.inherits.Goals as goal

pub returns : goal.returns
unfolding append
returns c =
    record {
      at_any = λ d. c.take-colon.ensures.reads d _ then c.truncatable-word.ensures.reads d _ then record {
        in_any = λ start hs. ((c.scoped_names-names.ensures.by_rule _ value_names).at_any d).in_any _ _ ▸▸
            (c.supported.ensures.at_any d).in_any _ _;
      };
    }
