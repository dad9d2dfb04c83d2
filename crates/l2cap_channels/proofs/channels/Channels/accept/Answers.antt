use Rattle.std.proofs.Common.{◌≡◌, ◌∙◌, ap, rules}
use Rattle.std.specs.Prelude.{slice_get}
use Rattle.channel_model.specs.declared.errand.Errand.TheVariants.{Configuration}
use Rattle.channel_model.specs.Asking.{new_request, asks}
use Rattle.l2cap_channels.specs.Finding.{on_place, place_setup}
use Rattle.l2cap_channels.specs.Machine.{Machine, with_channels}
use Rattle.l2cap_channels.specs.Steps.{acceptance_on}
use Rattle.l2cap_channels.specs.declared.progress.Acceptance.TheVariants.{Asks}
use Rattle.l2cap_channels.proofs.Following.{accepted_at, asks_by}
use Rattle.l2cap_channels.proofs.channels.Channels.accept.Goals as goal

pub returns-in-Asks-clause-after : goal.returns-in-Asks-clause-after
returns-in-Asks-clause-after c =
    let m = c.args.self.now in
    let o = slice_get m.channels.held c.args.at in
    let own = c.endpoint-own.result in
    let kept : c.set_accepted.new.self ≡ with_channels m (on_place (accepted_at c.args.wish.now c.args.options.now (new_request m.channels)) o m.channels) = search rules in
    let first : acceptance_on (place_setup o) ≡ Asks = search rules in
    c.ask.ensures
    ∙ ap (λ (x : Machine). with_channels x (asks (Configuration own) x.channels)) kept
    ∙ ap (with_channels m) (asks_by o c.args.wish.now c.args.options.now own m.channels c.endpoint-own.ensures.own first c.requires.there)
