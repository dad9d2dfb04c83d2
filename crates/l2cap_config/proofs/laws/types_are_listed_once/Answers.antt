use Rattle.std.specs.Prelude.{filter, map}
use Rattle.l2cap_config.specs.Types.{is_unknown}
use Rattle.l2cap_config.proofs.Once.{types_once}
use Rattle.l2cap_config.proofs.laws.types_are_listed_once.Goals as goal

pub returns : goal.returns
returns c = λ items. types_once (filter is_unknown (map (λ item. item.octet) items))
