use Rattle.std.proofs.Common.{◌≡◌, ◌<◌, length, false, subst, sym, ap}
use Rattle.std.specs.Prelude.{Option}
use Rattle.channel_model.specs.Value.{Held}
use Rattle.l2cap_channels.specs.Parts.{request_value}
use Rattle.l2cap_channels.specs.Steps.{with_change, asked_anew, is_past_asking_at}
use Rattle.l2cap_channels.specs.Machine.{Machine}
use Rattle.l2cap_channels.proofs.Changed.{sound_set, set_machine}
use Rattle.l2cap_channels.proofs.Giving.{place_read}
use Rattle.l2cap_channels.proofs.channels.Channels.set_renewed.Goals as goal

pub renew-requires : goal.renew-requires
renew-requires c =
    subst (λ (o : Option Held). is_past_asking_at o ≡ false)
    (place_read c.self.inside c.args.self.now c.args.at c.index_mut-place.result.now c.self.view_is c.requires.place c.index_mut-place.ensures.value) c.requires.few

pub invariant_of-self : goal.invariant_of-self
invariant_of-self c =
    sound_set c.self.inside c.args.at c.index_mut-place.result.now c.renew.new.self c.self.invariant
    (subst (λ (x : Machine). c.args.at < length x.channels.held) (sym c.self.view_is) c.requires.place) c.index_mut-place.ensures.value (ap (λ (k : Held). k.own) c.renew.ensures)

pub returns : goal.returns
returns c =
    set_machine c.self.inside c.args.self.now c.args.at c.index_mut-place.result.now c.renew.new.self (λ k. with_change (asked_anew (request_value c.args.request) c.args.options) k.stage) c.self.view_is c.self.invariant c.requires.place
    c.index_mut-place.ensures.value c.renew.ensures
