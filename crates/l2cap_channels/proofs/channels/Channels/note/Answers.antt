use Rattle.std.proofs.Common.{◌<◌, length, subst, sym, ap}
use Rattle.channel_model.specs.Value.{Held}
use Rattle.l2cap_channels.specs.Steps.{with_change, noted}
use Rattle.l2cap_channels.specs.Machine.{Machine}
use Rattle.l2cap_channels.proofs.Changed.{sound_set, set_machine}
use Rattle.l2cap_channels.proofs.channels.Channels.note.Goals as goal

pub invariant_of-self : goal.invariant_of-self
invariant_of-self c =
    sound_set c.self.inside c.args.at c.index_mut-place.result.now c.note.new.self c.self.invariant
    (subst (λ (x : Machine). c.args.at < length x.channels.held) (sym c.self.view_is) c.requires) c.index_mut-place.ensures.value (ap (λ (k : Held). k.own) c.note.ensures)

pub returns : goal.returns
returns c =
    set_machine c.self.inside c.args.self.now c.args.at c.index_mut-place.result.now c.note.new.self (λ k. with_change (noted c.args.options) k.stage) c.self.view_is c.self.invariant c.requires
    c.index_mut-place.ensures.value c.note.ensures
