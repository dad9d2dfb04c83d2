use Rattle.std.proofs.Common.{◌<◌, length, subst, sym, ap}
use Rattle.channel_model.specs.Value.{Held}
use Rattle.l2cap_channels.specs.Parts.{request_value}
use Rattle.l2cap_channels.specs.Steps.{asking_stage}
use Rattle.l2cap_channels.specs.Machine.{Machine}
use Rattle.l2cap_channels.proofs.Changed.{sound_set, set_machine}
use Rattle.l2cap_channels.proofs.channels.Channels.set_asking.Goals as goal

pub invariant_of-self : goal.invariant_of-self
invariant_of-self c =
    sound_set c.self.inside c.args.at c.index_mut-place.result.now c.connect.new.self c.self.invariant
    (subst (λ (x : Machine). c.args.at < length x.channels.held) (sym c.self.view_is) c.requires) c.index_mut-place.ensures.value (ap (λ (k : Held). k.own) c.connect.ensures)

pub returns : goal.returns
returns c =
    set_machine c.self.inside c.args.self.now c.args.at c.index_mut-place.result.now c.connect.new.self (λ k. asking_stage c.args.peer (request_value c.args.request) c.args.options) c.self.view_is c.self.invariant c.requires
    c.index_mut-place.ensures.value c.connect.ensures
