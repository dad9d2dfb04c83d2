use Rattle.std.proofs.Common.{rules, ap, ◌∙◌}
use Rattle.std.specs.List.{list_any}
use Rattle.std.proofs.lemmas.Iterator.{YieldsList-from_slice}
use Rattle.std.proofs.lemmas.Iterator.Search.{any_from_yields_List}
use Rattle.channel_model.specs.Changing.{is_live_peer}
use Rattle.channel_model.specs.Changing as changing
use Rattle.l2cap_channels.specs.Machine.{Machine}
use Rattle.l2cap_channels.proofs.channels.Channels.has_live_peer.Goals as goal

pub returns : goal.returns
returns c =
    any_from_yields_List (λ held. is_live_peer c.args.endpoint held.stage) _ _ _ c.any.ensures.ran (YieldsList-from_slice c.self.inside.places.items cc) (λ x b q k. search rules)
    ∙ ap (λ (m : Machine). list_any (changing.has_live_peer c.args.endpoint) m.channels.held) c.self.view_is
