-- What is remembered of a request is its response.
use Rattle.std.proofs.Common.{◌≡◌, ℕ, List, Bool, true, false, cond, eqb, Option, Some, None, refl, sym, ap, ◌∙◌}
use Rattle.std.specs.Prelude.{option_map, nat_le}
use Rattle.talk_laws.specs.l2cap_signal.specs.Commands.{Content, Command, reject, connection_request, connection_response, configuration_request, configuration_response, disconnection_request, disconnection_response, echo_request, echo_response, information_request, information_response}
use Rattle.talk_laws.specs.l2cap_config.specs.declared.agreement.ConfigAnswer.{ConfigAnswer}
use Rattle.talk_laws.specs.l2cap_config.specs.declared.agreement.ConfigAnswer.TheVariants.{Accept, Unacceptable, Unknown}
use Rattle.talk_laws.specs.l2cap_config.specs.declared.options.Options.{Options}
use Rattle.talk_laws.specs.l2cap_config.specs.declared.wish.Wish.{Wish}
use Rattle.channel_model.specs.declared.event.CloseReason.{CloseReason}
use Rattle.channel_model.specs.declared.event.CloseReason.TheVariants.{NoAgreement}
use Rattle.channel_model.specs.declared.request_kind.RequestKind.{RequestKind}
use Rattle.channel_model.specs.declared.request_kind.RequestKind.TheVariants as kinds
use Rattle.channel_model.specs.Value.{Own, Unasked, Asking, Granted, Setup, no_setup, Stage, Requested, Connected, Leaving, Closing, Crossed, Held, Remembered, Memory, Channels}
use Rattle.channel_model.specs.Policies.{Policy}
use Rattle.channel_model.specs.Changing.{held_at, is_peer, setup_of, stage_with, with_setup, to_setup}
use Rattle.channel_model.specs.Closing.{closes, closes_at, peer_closes_at}
use Rattle.channel_model.specs.Configuring.{Verdict, NoChannel, TooLate, Unreadable, Incomplete, Judged, verdict, accepted_setup, accepts_with, refused_setup, follows_answer, follows_verdict}
use Rattle.channel_model.specs.Answers.{remembered, with_remembered, connection_result, answer_to}
use Rattle.channel_model.specs.Following.{with_channel, follows_setup, follows_configuration, follows_disconnection, follows, remembers, says, can_say, hears_new, hears_again, hears_kind}
use Rattle.channel_model.specs.Hearing.{hears_content}
use Rattle.channel_model.proofs.Lookups.{eqb-same}
use Rattle.own_channel_laws.specs.OwnTalk.{command_if, response_by, response_to}
use Rattle.own_channel_laws.specs.Repeats.{RepeatsAreAnswered}

-- ---- nothing that follows is remembered

closes_memory : (stage : Stage) (reason : CloseReason) (held : Held) (v : Channels) → (closes_at stage reason held v).memory ≡ v.memory
closes_memory (Requested request) reason held v = refl
closes_memory (Connected peer setup) reason held v = refl
closes_memory (Leaving peer setup request) reason held v = refl
closes_memory (Closing peer request checked) reason held v = refl
closes_memory (Crossed peer request) reason held v = refl

peer_memory : (stage : Stage) (held : Held) (v : Channels) → (peer_closes_at stage held v).memory ≡ v.memory
peer_memory (Requested request) held v = refl
peer_memory (Connected peer setup) held v = refl
peer_memory (Leaving peer setup request) held v = refl
peer_memory (Closing peer request checked) held v = refl
peer_memory (Crossed peer request) held v = refl

accepts_memory : (own : Own) (wish : Wish) (held : Held) (setup : Setup) (v : Channels) → (accepts_with own wish held setup v).memory ≡ v.memory
accepts_memory Unasked wish held setup v = refl
accepts_memory (Asking request options) wish held setup v = refl
accepts_memory Granted wish held setup v = refl

refuses_memory : (third : Bool) (held : Held) (setup : Setup) (v : Channels) → (cond third (closes NoAgreement (with_setup held setup) (to_setup held setup v)) (to_setup held setup v)).memory ≡ v.memory
refuses_memory true held setup v = closes_memory (stage_with setup held.stage) NoAgreement (with_setup held setup) (to_setup held setup v)
refuses_memory false held setup v = refl

answer_memory : (answer : ConfigAnswer) (wish : Wish) (options : Options) (held : Held) (setup : Setup) (v : Channels) → (follows_answer answer wish options held setup v).memory ≡ v.memory
answer_memory (Accept given) wish options held setup v = accepts_memory setup.own wish held (accepted_setup wish options setup) v
answer_memory (Unacceptable refusal given) wish options held setup v = refuses_memory (nat_le 3 (refused_setup setup).refused) held (refused_setup setup) v
answer_memory Unknown wish options held setup v = refl

verdict_memory : (now : Verdict) (wish : Wish) (held : Held) (setup : Setup) (v : Channels) → (follows_verdict now wish held setup v).memory ≡ v.memory
verdict_memory NoChannel wish held setup v = refl
verdict_memory (TooLate peer) wish held setup v = refl
verdict_memory (Unreadable peer) wish held setup v = refl
verdict_memory (Incomplete peer options) wish held setup v = refl
verdict_memory (Judged peer options answer) wish held setup v = answer_memory answer wish options held setup v

setup_memory : (setup : Option Setup) (policy : Policy) (held : Held) (flags : ℕ) (octets : List ℕ) (v : Channels) → (follows_setup setup policy held flags octets v).memory ≡ v.memory
setup_memory None policy held flags octets v = refl
setup_memory (Some setup) policy held flags octets v = verdict_memory (verdict policy held.own flags octets v) (policy.wish held.psm) held setup v

configuration_memory : (held : Option Held) (policy : Policy) (flags : ℕ) (octets : List ℕ) (v : Channels) → (follows_configuration held policy flags octets v).memory ≡ v.memory
configuration_memory None policy flags octets v = refl
configuration_memory (Some held) policy flags octets v = setup_memory (setup_of held.stage) policy held flags octets v

disconnection_memory : (held : Option Held) (peer : ℕ) (v : Channels) → (follows_disconnection held peer v).memory ≡ v.memory
disconnection_memory None peer v = refl
disconnection_memory (Some held) peer v = by (is_peer peer held.stage)
  where
    by : (same : Bool) → (cond same (peer_closes_at held.stage held v) v).memory ≡ v.memory
    by true = peer_memory held.stage held v
    by false = refl

follows_memory : (policy : Policy) (content : Content) (v : Channels) → (follows policy content v).memory ≡ v.memory
follows_memory policy (reject reason rest) v = refl
follows_memory policy (connection_request psm source) v = by (eqb (connection_result policy psm source v) 0)
  where
    by : (granted : Bool) → (cond granted (with_channel psm (Connected source no_setup) v) v).memory ≡ v.memory
    by true = refl
    by false = refl
follows_memory policy (connection_response destination source answer status) v = refl
follows_memory policy (configuration_request destination flags options) v = configuration_memory (held_at destination v) policy flags options v
follows_memory policy (configuration_response source flags answer options) v = refl
follows_memory policy (disconnection_request destination source) v = disconnection_memory (held_at destination v) source v
follows_memory policy (disconnection_response destination source) v = refl
follows_memory policy (echo_request octets) v = refl
follows_memory policy (echo_response octets) v = refl
follows_memory policy (information_request kind) v = refl
follows_memory policy (information_response kind answer rest) v = refl

-- ---- the response is

says_memory : (identifier : ℕ) (response : Option Content) (v : Channels) → (says identifier response v).memory ≡ v.memory
says_memory identifier None v = refl
says_memory identifier (Some content) v = refl

remembered_now : (kind : RequestKind) (last : Remembered) (memory : Memory) → remembered kind (with_remembered kind last memory) ≡ Some last
remembered_now kinds.Connection last memory = refl
remembered_now kinds.Configuration last memory = refl
remembered_now kinds.Disconnection last memory = refl
remembered_now kinds.Echo last memory = refl
remembered_now kinds.Information last memory = refl

new_again : (kind : RequestKind) (identifier : ℕ) (response other : Option Content) (more : Channels → Channels) (v : Channels) → ((u : Channels) → (more u).memory ≡ u.memory) → (can : Bool) → can ≡ true
    → response_by (remembered kind (cond can (more (says identifier response (remembers kind identifier response v))) v).memory) identifier other ≡ response
new_again kind identifier response other more v keeps true is =
    let last : Remembered = record { identifier = identifier; response = response } in
    ap (λ m. response_by (remembered kind m) identifier other) (keeps (says identifier response (remembers kind identifier response v)) ∙ says_memory identifier response (remembers kind identifier response v))
    ∙ (ap (λ l. response_by l identifier other) (remembered_now kind last v.memory) ∙ ap (λ t. cond t response other) (eqb-same identifier))
new_again kind identifier response other more v keeps false is = cc

again_by : (kind : RequestKind) (identifier : ℕ) (fresh other : Option Content) (more : Channels → Channels) (v : Channels) (last : Option Remembered) → remembered kind v.memory ≡ last → ((u : Channels) → (more u).memory ≡ u.memory)
    → can_say (response_by last identifier fresh) v ≡ true → response_by (remembered kind (hears_kind last kind identifier fresh more v).memory) identifier other ≡ response_by last identifier fresh
again_by kind identifier fresh other more v None is keeps can = new_again kind identifier fresh other more v keeps (can_say fresh v) can
again_by kind identifier fresh other more v (Some last) is keeps can = by (eqb last.identifier identifier) refl can
  where
    said : (can_now : Bool) → (cond can_now (says identifier last.response v) v).memory ≡ v.memory
    said true = says_memory identifier last.response v
    said false = refl

    by : (same : Bool) → eqb last.identifier identifier ≡ same → can_say (cond same last.response fresh) v ≡ true
        → response_by (remembered kind (cond same (hears_again identifier last.response v) (hears_new kind identifier fresh more v)).memory) identifier other ≡ cond same last.response fresh
    by true now can_now =
        ap (λ m. response_by (remembered kind m) identifier other) (said (can_say last.response v))
        ∙ (ap (λ l. response_by l identifier other) is ∙ ap (λ t. cond t last.response other) now)
    by false now can_now = new_again kind identifier fresh other more v keeps (can_say fresh v) can_now

-- ---- a command

responds_again : (policy : Policy) (identifier : ℕ) (content : Content) (v : Channels) → can_say (response_to policy identifier content v) v ≡ true
    → response_to policy identifier content (hears_content policy identifier content v) ≡ response_to policy identifier content v
responds_again policy identifier (reject reason rest) v can = refl
responds_again policy identifier (connection_request psm source) v can =
    again_by kinds.Connection identifier (answer_to policy (connection_request psm source) v) _ (follows policy (connection_request psm source)) v v.memory.connection refl (follows_memory policy (connection_request psm source)) can
responds_again policy identifier (connection_response destination source answer status) v can = refl
responds_again policy identifier (configuration_request destination flags options) v can =
    again_by kinds.Configuration identifier (answer_to policy (configuration_request destination flags options) v) _ (follows policy (configuration_request destination flags options)) v v.memory.configuration refl
    (follows_memory policy (configuration_request destination flags options)) can
responds_again policy identifier (configuration_response source flags answer options) v can = refl
responds_again policy identifier (disconnection_request destination source) v can =
    again_by kinds.Disconnection identifier (answer_to policy (disconnection_request destination source) v) _ (follows policy (disconnection_request destination source)) v v.memory.disconnection refl
    (follows_memory policy (disconnection_request destination source)) can
responds_again policy identifier (disconnection_response destination source) v can = refl
responds_again policy identifier (echo_request octets) v can =
    again_by kinds.Echo identifier (answer_to policy (echo_request octets) v) _ (follows policy (echo_request octets)) v v.memory.echo refl (follows_memory policy (echo_request octets)) can
responds_again policy identifier (echo_response octets) v can = refl
responds_again policy identifier (information_request kind) v can =
    again_by kinds.Information identifier (answer_to policy (information_request kind) v) _ (follows policy (information_request kind)) v v.memory.information refl (follows_memory policy (information_request kind)) can
responds_again policy identifier (information_response kind answer rest) v can = refl

can_same : (identifier : ℕ) (response : Option Content) (v : Channels) → can_say (option_map (λ (c : Command). c.content) (command_if identifier response)) v ≡ can_say response v
can_same identifier None v = refl
can_same identifier (Some content) v = refl

pub repeats-are_answered : RepeatsAreAnswered
repeats-are_answered policy command v can =
    ap (command_if command.identifier) (responds_again policy command.identifier command.content v (sym (can_same command.identifier (response_to policy command.identifier command.content v) v) ∙ can))
