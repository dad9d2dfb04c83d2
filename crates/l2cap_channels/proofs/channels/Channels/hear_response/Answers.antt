use Rattle.std.proofs.Common.{rules, ◌≡◌, ◌∙◌, ap}
use Rattle.std.specs.Prelude.{Option}
use Rattle.std.specs.List.{slice_get}
use Rattle.std.proofs.lemmas.Bool.{eq-eqb}
use Rattle.l2cap_config.specs.declared.agreement.Settled.{Settled}
use Rattle.l2cap_channels.specs.Finding.{on_place}
use Rattle.l2cap_channels.specs.Steps.{with_setup_at}
use Rattle.channel_model.specs.Responses as responses
use Rattle.channel_model.specs.Value.{Held}
use Rattle.channel_model.specs.Changing.{held_at}
use Rattle.l2cap_channels.specs.Machine.{policy_of, with_channels}
use Rattle.l2cap_channels.specs.Parts.{request_value}
use Rattle.l2cap_channels.proofs.Responding.{response_by}
use Rattle.l2cap_channels.proofs.channels.Channels.hear_response.Goals as goal

pub returns-clause-after : goal.returns-clause-after
returns-clause-after c =
    let there : slice_get c.args.self.now.channels.held c.in-Some.at ≡ held_at c.args.own c.args.self.now.channels = search rules in
    let heard = response_by (slice_get c.args.self.now.channels.held c.in-Some.at) (policy_of c.args.self.now) c.wish-wish.result c.args.identifier c.args.answer c.args.octets.now (request_value c.in-Some-asked.request) c.in-Ok.options c.args.self.now.channels
    (search rules) (eq-eqb c.in-Some-asked.request.identifier c.args.identifier (search rules)) (search rules) (search rules) in
    c.hear_settled.ensures.after ∙ ap (with_channels c.args.self.now) (ap (λ (s : Settled). on_place (with_setup_at (responses.hears_settled s)) (slice_get c.args.self.now.channels.held c.in-Some.at) c.args.self.now.channels) c.settle.ensures ∙ heard ∙ ap (λ (o : Option Held). responses.hears_response o (policy_of c.args.self.now) c.args.identifier c.args.answer c.args.octets.now c.args.self.now.channels) there)
