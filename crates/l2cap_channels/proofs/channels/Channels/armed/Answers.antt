use Rattle.std.proofs.Common.{rules, ap, ◌∙◌}
use Rattle.std.proofs.lemmas.Iterator.{YieldsList-from_slice}
use Rattle.std.proofs.lemmas.Iterator.Search.{any_from_yields_List}
use Rattle.channel_model.specs.Calls.{armed, is_armed}
use Rattle.l2cap_channels.specs.Machine.{Machine}
use Rattle.l2cap_channels.proofs.Armed.{armed_by}
use Rattle.l2cap_channels.proofs.channels.Channels.armed.Goals as goal

pub returns-else-is_some : goal.returns-else-is_some
returns-else-is_some c =
    armed_by c.self.inside c.any.result (search rules)
    (any_from_yields_List (λ held. is_armed held.stage) _ _ _ c.any.ensures.ran (YieldsList-from_slice c.self.inside.places.items cc) (λ x b q k. search rules))
    ∙ ap (λ (m : Machine). armed m.channels) c.self.view_is
