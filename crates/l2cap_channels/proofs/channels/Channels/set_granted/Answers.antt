use Rattle.std.proofs.Common.{◌∙◌, ◌<◌, length, subst, sym, ap}
use Rattle.std.specs.Prelude.{Option}
use Rattle.channel_model.specs.Value.{Held}
use Rattle.channel_model.specs.Configuring.{granted_setup}
use Rattle.l2cap_channels.specs.Steps.{with_change, carries_on, granted}
use Rattle.l2cap_channels.specs.Machine.{Machine}
use Rattle.l2cap_channels.specs.Finding.{place_setup}
use Rattle.l2cap_channels.proofs.Changed.{sound_set, set_machine, changed_there}
use Rattle.l2cap_channels.proofs.Giving.{place_read}
use Rattle.l2cap_channels.proofs.channels.Channels.set_granted.Goals as goal

pub invariant_of-self : goal.invariant_of-self
invariant_of-self c =
    sound_set c.self.inside c.args.at c.index_mut-place.result.now c.grant.new.self c.self.invariant
    (subst (λ (x : Machine). c.args.at < length x.channels.held) (sym c.self.view_is) c.requires) c.index_mut-place.ensures.value (ap (λ (k : Held). k.own) c.grant.ensures.after)

pub returns-clause-opens : goal.returns-clause-opens
returns-clause-opens c =
    c.grant.ensures.opens
    ∙ ap (λ (o : Option Held). carries_on (place_setup o)) (sym (place_read c.self.inside c.args.self.now c.args.at c.index_mut-place.result.now c.self.view_is c.requires c.index_mut-place.ensures.value))

pub returns-clause-after : goal.returns-clause-after
returns-clause-after c =
    set_machine c.self.inside c.args.self.now c.args.at c.index_mut-place.result.now c.grant.new.self (λ k. with_change granted_setup k.stage) c.self.view_is c.self.invariant c.requires
    c.index_mut-place.ensures.value c.grant.ensures.after

pub returns-clause-there : goal.returns-clause-there
returns-clause-there c =
    changed_there c.self.inside c.args.self.now c.args.at c.index_mut-place.result.now c.grant.new.self granted c.self.view_is c.requires c.index_mut-place.ensures.value c.grant.ensures.after
