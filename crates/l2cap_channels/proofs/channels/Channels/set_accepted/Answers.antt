use Rattle.std.proofs.Common.{◌∙◌, ◌<◌, length, refl, subst, sym, ap}
use Rattle.std.specs.Prelude.{Option}
use Rattle.std.proofs.lemmas.Option.{slice_get_read}
use Rattle.channel_model.specs.Value.{Held}
use Rattle.l2cap_channels.specs.Parts.{request_value}
use Rattle.l2cap_channels.specs.Steps.{with_change, accepted, acceptance_on}
use Rattle.l2cap_channels.specs.Machine.{Machine}
use Rattle.l2cap_channels.specs.Finding.{place_setup}
use Rattle.l2cap_channels.specs.Sound.{owns}
use Rattle.l2cap_channels.proofs.Sounding.{owns_set}
use Rattle.l2cap_channels.proofs.Changed.{sound_set, set_machine}
use Rattle.l2cap_channels.proofs.Giving.{place_read}
use Rattle.l2cap_channels.proofs.channels.Channels.set_accepted.Goals as goal

pub invariant_of-self : goal.invariant_of-self
invariant_of-self c =
    sound_set c.self.inside c.args.at c.index_mut-place.result.now c.accept.new.self c.self.invariant
    (subst (λ (x : Machine). c.args.at < length x.channels.held) (sym c.self.view_is) c.requires.place) c.index_mut-place.ensures.value (ap (λ (k : Held). k.own) c.accept.ensures.after)

pub returns-clause-follows : goal.returns-clause-follows
returns-clause-follows c =
    c.accept.ensures.follows
    ∙ ap (λ (o : Option Held). acceptance_on (place_setup o)) (sym (place_read c.self.inside c.args.self.now c.args.at c.index_mut-place.result.now c.self.view_is c.requires.place c.index_mut-place.ensures.value))

pub returns-clause-after : goal.returns-clause-after
returns-clause-after c =
    set_machine c.self.inside c.args.self.now c.args.at c.index_mut-place.result.now c.accept.new.self (λ k. with_change (accepted c.args.agreed.now (request_value c.args.request) c.args.options) k.stage) c.self.view_is c.self.invariant c.requires.place
    c.index_mut-place.ensures.value c.accept.ensures.after

pub returns-clause-owns : goal.returns-clause-owns
returns-clause-owns c =
    let items = c.self.inside.places.items in
    let within : c.args.at < length items = subst (λ (x : Machine). c.args.at < length x.channels.held) (sym c.self.view_is) c.requires.place in
    owns_set items c.args.at c.index_mut-place.result.now c.accept.new.self (slice_get_read items (length items) c.args.at c.index_mut-place.result.now refl within c.index_mut-place.ensures.value)
    (ap (λ (k : Held). k.own) c.accept.ensures.after)
    ∙ ap (λ (m : Machine). owns m.channels.held) c.self.view_is
