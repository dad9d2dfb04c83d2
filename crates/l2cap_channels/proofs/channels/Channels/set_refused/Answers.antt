use Rattle.std.proofs.Common.{◌<◌, length, subst, sym, ap}
use Rattle.std.specs.Prelude.{Option}
use Rattle.channel_model.specs.Value.{Held}
use Rattle.channel_model.specs.Configuring.{refused_setup}
use Rattle.l2cap_channels.specs.Steps.{with_change, refused_on}
use Rattle.l2cap_channels.specs.Machine.{Machine}
use Rattle.l2cap_channels.specs.Finding.{place_setup}
use Rattle.l2cap_channels.proofs.Changed.{sound_set, set_machine}
use Rattle.l2cap_channels.proofs.Giving.{place_read}
use Rattle.l2cap_channels.proofs.channels.Channels.set_refused.Goals as goal

pub refuse-requires : goal.refuse-requires
refuse-requires c =
    subst (λ (o : Option Held). refused_on (place_setup o) < 2)
    (place_read c.self.inside c.args.self.now c.args.at c.index_mut-place.result.now c.self.view_is c.requires.place c.index_mut-place.ensures.value) c.requires.few

pub invariant_of-self : goal.invariant_of-self
invariant_of-self c =
    sound_set c.self.inside c.args.at c.index_mut-place.result.now c.refuse.new.self c.self.invariant
    (subst (λ (x : Machine). c.args.at < length x.channels.held) (sym c.self.view_is) c.requires.place) c.index_mut-place.ensures.value (ap (λ (k : Held). k.own) c.refuse.ensures)

pub returns : goal.returns
returns c =
    set_machine c.self.inside c.args.self.now c.args.at c.index_mut-place.result.now c.refuse.new.self (λ k. with_change refused_setup k.stage) c.self.view_is c.self.invariant c.requires.place
    c.index_mut-place.ensures.value c.refuse.ensures
