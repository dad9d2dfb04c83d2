use Rattle.std.proofs.Common.{rules, ◌≡◌, ◌∙◌, ◌≤◌, ◌+◌, ℕ, List, length, ap, sym, subst}
use Rattle.std.specs.Prelude.{Some, option_map}
use Rattle.std.specs.List.{slice_get, find}
use Rattle.l2cap_signal.specs.Commands.{Content, configuration_request}
use Rattle.channel_model.specs.Answers as table
use Rattle.channel_model.specs.Changing.{has_own, held_at}
use Rattle.channel_model.specs.Configuring.{Verdict, judged_stage, verdict}
use Rattle.channel_model.specs.Following as following
use Rattle.channel_model.specs.Value.{Held}
use Rattle.channel_model.specs.declared.request_kind.RequestKind.TheVariants as kinds
use Rattle.l2cap_channels.specs.Machine.{Machine, policy_of, with_channels}
use Rattle.l2cap_channels.specs.Responses.{response_value}
use Rattle.l2cap_channels.specs.Steps.{verdict_value}
use Rattle.l2cap_channels.proofs.Questions.{question_heard, stays, admitted_held, admitted_events}
use Rattle.l2cap_channels.proofs.Responding.{configured_by, judged_by}
use Rattle.l2cap_channels.proofs.channels.Channels.hear_configuration.Goals as goal

pub returns-then-is_there-clause-after : goal.returns-then-is_there-clause-after
returns-then-is_there-clause-after c =
    let fresh = sym c.repeats.ensures.repeated ∙ c.if-repeats.false in
    let same : c.repeats.new.self ≡ c.args.self.now = stays c.args.self.now c.repeats.new.self kinds.Configuration c.args.identifier fresh c.repeats.ensures.after in
    let held : c.admits.new.self.channels.held ≡ c.repeats.new.self.channels.held = ap (λ (m : Machine). m.channels.held) c.admits.ensures.after ∙ admitted_held _ _ _ _ _ in
    let there : slice_get c.repeats.new.self.channels.held c.in-Some.at ≡ held_at c.args.own c.repeats.new.self.channels = search rules in
    let there_now : slice_get c.admits.new.self.channels.held c.in-Some.at ≡ held_at c.args.own c.admits.new.self.channels =
    ap (λ (l : List Held). slice_get l c.in-Some.at) held ∙ there ∙ ap (λ (l : List Held). find (has_own c.args.own) l) (sym held) in
    let wished_now : option_map (λ (h : Held). (policy_of c.args.self.now).wish h.psm) (slice_get c.admits.new.self.channels.held c.in-Some.at) ≡ Some c.wish-wish.result =
    ap (λ (l : List Held). option_map (λ (h : Held). (policy_of c.args.self.now).wish h.psm) (slice_get l c.in-Some.at)) held
    ∙ ap (λ (m : Machine). option_map (λ (h : Held). (policy_of m).wish h.psm) (slice_get c.repeats.new.self.channels.held c.in-Some.at)) (sym same)
    ∙ c.wish-wish.ensures.wish in
    let judged_now : option_map (λ (h : Held). judged_stage h.stage c.wish-wish.result c.args.flags c.args.octets.now) (slice_get c.admits.new.self.channels.held c.in-Some.at) ≡ Some (verdict_value c.judge-verdict.result) =
    ap (λ (l : List Held). option_map (λ (h : Held). judged_stage h.stage c.wish-wish.result c.args.flags c.args.octets.now) (slice_get l c.in-Some.at)) held ∙ c.judge-verdict.ensures.verdict in
    let said : response_value c.response-response.result ≡ table.configuration_answer (verdict (policy_of c.args.self.now) c.args.own c.args.flags c.args.octets.now c.args.self.now.channels) c.args.own =
    c.response-response.ensures
    ∙ ap (λ (x : Verdict). table.configuration_answer x c.args.own) (judged_by (slice_get c.repeats.new.self.channels.held c.in-Some.at) c.args.own c.args.flags c.args.octets.now (policy_of c.repeats.new.self) c.wish-wish.result (verdict_value c.judge-verdict.result) c.repeats.new.self.channels there c.wish-wish.ensures.wish c.judge-verdict.ensures.verdict
    ∙ ap (λ (m : Machine). verdict (policy_of m) c.args.own c.args.flags c.args.octets.now m.channels) same) in
    question_heard c.args.self.now c.repeats.new.self c.admits.new.self c.follow_verdict.new.self kinds.Configuration c.args.identifier (Some (response_value c.response-response.result))
    (following.follows (policy_of c.args.self.now) (configuration_request c.args.own c.args.flags c.args.octets.now))
    fresh c.repeats.ensures.after (sym c.admits.ensures.room ∙ c.if-admits.true) c.admits.ensures.after
    (c.follow_verdict.ensures.after ∙ ap (with_channels c.admits.new.self) (configured_by (slice_get c.admits.new.self.channels.held c.in-Some.at) c.args.own c.args.flags c.args.octets.now (policy_of c.args.self.now) c.wish-wish.result (verdict_value c.judge-verdict.result) c.admits.new.self.channels there_now wished_now judged_now))
    ∙ ap (λ (x : Content). with_channels c.args.self.now (following.hears_request kinds.Configuration c.args.identifier (Some x) (following.follows (policy_of c.args.self.now) (configuration_request c.args.own c.args.flags c.args.octets.now)) c.args.self.now.channels)) said

pub returns-then-is_there-clause-few : goal.returns-then-is_there-clause-few
returns-then-is_there-clause-few c =
    let fresh = sym c.repeats.ensures.repeated ∙ c.if-repeats.false in
    let same : c.repeats.new.self ≡ c.args.self.now = stays c.args.self.now c.repeats.new.self kinds.Configuration c.args.identifier fresh c.repeats.ensures.after in
    subst (λ (n : ℕ). length c.follow_verdict.new.self.channels.events ≤ n + 1) (ap (λ (m : Machine). length m.channels.events) c.admits.ensures.after ∙ ap length (admitted_events _ _ _ _ _) ∙ ap (λ (m : Machine). length m.channels.events) same) c.follow_verdict.ensures.few
