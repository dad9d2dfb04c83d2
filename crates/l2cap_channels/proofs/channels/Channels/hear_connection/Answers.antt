use Rattle.std.proofs.Common.{rules, ◌≡◌, ◌∙◌, ℕ, ap, sym}
use Rattle.std.specs.Prelude.{Some}
use Rattle.l2cap_signal.specs.Commands.{Content, connection_request}
use Rattle.channel_model.specs.Answers as table
use Rattle.channel_model.specs.Following as following
use Rattle.channel_model.specs.Policies.{Policy}
use Rattle.channel_model.specs.declared.request_kind.RequestKind.TheVariants as kinds
use Rattle.l2cap_channels.specs.Machine.{Machine, policy_of, with_channels}
use Rattle.l2cap_channels.specs.Responses.{response_value}
use Rattle.l2cap_channels.proofs.Questions.{question_heard, stays}
use Rattle.l2cap_channels.proofs.channels.Channels.hear_connection.Goals as goal

pub returns-then-admits-clause-after : goal.returns-then-admits-clause-after
returns-then-admits-clause-after c =
    let fresh = sym c.repeats.ensures.repeated ∙ c.if-repeats.false in
    let same : c.repeats.new.self ≡ c.args.self.now = stays c.args.self.now c.repeats.new.self kinds.Connection c.args.identifier fresh c.repeats.ensures.after in
    let answers : c.connection_result-answer.result ≡ table.connection_result (policy_of c.admits.new.self) c.args.psm c.args.source c.admits.new.self.channels = search rules in
    let policies : policy_of c.admits.new.self ≡ policy_of c.args.self.now = ap policy_of c.admits.ensures.after ∙ ap policy_of same in
    let fits : c.connection_result-answer.result ≡ table.connection_result (policy_of c.args.self.now) c.args.psm c.args.source c.admits.new.self.channels =
    answers ∙ ap (λ (p : Policy). table.connection_result p c.args.psm c.args.source c.admits.new.self.channels) policies in
    let said : response_value c.connection_answer-response.result ≡ table.connection_answer (table.connection_result (policy_of c.args.self.now) c.args.psm c.args.source c.args.self.now.channels) c.args.source c.args.self.now.channels =
    c.connection_answer-response.ensures
    ∙ ap (λ (n : ℕ). table.connection_answer n c.args.source c.repeats.new.self.channels) c.connection_result-answer.ensures
    ∙ ap (λ (m : Machine). table.connection_answer (table.connection_result (policy_of m) c.args.psm c.args.source m.channels) c.args.source m.channels) same in
    question_heard c.args.self.now c.repeats.new.self c.admits.new.self c.follow_connection.new.self kinds.Connection c.args.identifier (Some (response_value c.connection_answer-response.result))
    (following.follows (policy_of c.args.self.now) (connection_request c.args.psm c.args.source))
    fresh c.repeats.ensures.after (sym c.admits.ensures.room ∙ c.if-admits.true) c.admits.ensures.after
    (c.follow_connection.ensures ∙ ap (λ (n : ℕ). with_channels c.admits.new.self (following.follows_connection n c.args.psm c.args.source c.admits.new.self.channels)) fits)
    ∙ ap (λ (x : Content). with_channels c.args.self.now (following.hears_request kinds.Connection c.args.identifier (Some x) (following.follows (policy_of c.args.self.now) (connection_request c.args.psm c.args.source)) c.args.self.now.channels)) said
