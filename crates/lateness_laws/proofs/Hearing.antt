-- What a host hears of requests for options, and that it remembers the last one.
use Rattle.std.proofs.Common.{◌≡◌, ℕ, List, [], ◌∷◌, Bool, true, false, cond, eqb, Option, Some, None, Ok, refl, sym, ap, subst, ◌∙◌}
use Rattle.std.specs.Prelude.{option_map}
use Rattle.std.proofs.lemmas.Bool.{eqb-true}
use Rattle.channel_laws.specs.capture.specs.declared.flow.Flow.TheVariants.{Into}
use Rattle.channel_laws.specs.l2cap_signal.specs.Commands.{Content, Command, configuration_request}
use Rattle.channel_laws.specs.link_talk.specs.Sayings.{Saying}
use Rattle.channel_laws.specs.link_talk.specs.Sayings as sayings
use Rattle.channel_laws.specs.channel_model.specs.declared.request_kind.RequestKind.TheVariants as kinds
use Rattle.channel_laws.specs.channel_model.specs.Answers.{configuration_answer}
use Rattle.channel_laws.specs.channel_model.specs.Configuring.{verdict}
use Rattle.channel_laws.specs.channel_model.specs.Following.{follows, remembers, says, can_say, hears_new, hears_again, hears_kind}
use Rattle.channel_laws.specs.channel_model.specs.Hearing.{hears_content, hears_command}
use Rattle.channel_laws.specs.channel_model.specs.Policies.{Policy}
use Rattle.channel_laws.specs.channel_model.specs.Value.{Remembered, Memory, Channels}
use Rattle.channel_laws.specs.OwnTalk.{command_with, response_by, command_if, reply_to, said_with_all}
use Rattle.channel_laws.specs.Runs.{Occurrence, said_in, value_after}
use Rattle.channel_laws.specs.Signals.{StandsIn}
use Rattle.channel_laws.proofs.Conversing.{says_memory}
use Rattle.channel_laws.proofs.Lasting.{follows-lasts}
use Rattle.disconnection_laws.proofs.Ending.{BringsNone, said-memory, silent-occurs}
use Rattle.accepting_laws.proofs.Hearing.{Deaf, hears-none, heard-is}
use Rattle.lateness_laws.specs.Late.{IsLast}

abbrev pub heard_options : (identifier own flags : ℕ) → List ℕ → Saying
heard_options identifier own flags options = sayings.Command Into (Ok (command_with identifier (configuration_request own flags options)))

-- where nothing comes in on the signalling channel nothing is heard, and what is remembered stays
pub deaf-occurs : (policy : Policy) (one : Occurrence) (v : Channels) → BringsNone one → ((value_after policy one v).memory.configuration ≡ v.memory.configuration) × Deaf (said_in policy one v)
deaf-occurs policy one v none = (ap (λ (m : Memory). m.configuration) (silent-occurs policy one v none).0, hears-none policy one v none)

-- ---- a request that is heard is the last one

last_of : (policy : Policy) (v : Channels) (identifier own flags : ℕ) (options : List ℕ) → (let answer : Content = configuration_answer (verdict policy own flags options v) own in
    can_say (option_map (λ (c : Command). c.content) (command_if identifier (response_by v.memory.configuration identifier (Some answer)))) v ≡ true → IsLast identifier (hears_content policy identifier (configuration_request own flags options) v))
last_of policy v identifier own flags options = by v.memory.configuration refl
  where
    content : Content
    content = configuration_request own flags options

    answer : Content
    answer = configuration_answer (verdict policy own flags options v) own

    u : Channels
    u = remembers kinds.Configuration identifier (Some answer) v

    new : (can : Bool) → can ≡ true → IsLast identifier (cond can (follows policy content (says identifier (Some answer) u)) v)
    new true ample = let it : Remembered = record { identifier = identifier; response = Some answer } in
        (it, ap (λ (m : Memory). m.configuration) ((follows-lasts policy content (says identifier (Some answer) u)).1 ∙ says_memory identifier (Some answer) u), refl)
    new false ample = let never : false ≡ true = ample in absurd cc

    by : (last : Option Remembered) → v.memory.configuration ≡ last → can_say (option_map (λ (c : Command). c.content) (command_if identifier (response_by last identifier (Some answer)))) v ≡ true
        → IsLast identifier (hears_kind last kinds.Configuration identifier (Some answer) (follows policy content) v)
    by None at can = new (can_say (Some answer) v) can
    by (Some last) at can = on (eqb last.identifier identifier) refl can
      where
        on : (same : Bool) → eqb last.identifier identifier ≡ same → can_say (option_map (λ (c : Command). c.content) (command_if identifier (cond same last.response (Some answer)))) v ≡ true
            → IsLast identifier (cond same (hears_again identifier last.response v) (hears_new kinds.Configuration identifier (Some answer) (follows policy content) v))
        on true is ample = (last, ap (λ (m : Memory). m.configuration) (said-memory identifier last.response v (can_say last.response v)) ∙ at, eqb-true last.identifier identifier is)
        on false is ample = new (can_say (Some answer) v) ample

-- so is one that stands in what is said as a command comes in
pub heard-last : (policy : Policy) (command : Command) (v : Channels) (identifier own flags : ℕ) (options : List ℕ) → StandsIn (heard_options identifier own flags options) (said_with_all policy (Ok command ∷ []) v) → IsLast identifier (hears_command policy (Ok command) v)
heard-last policy command v identifier own flags options is =
    let (same, can) = heard-is policy command (command_with identifier (configuration_request own flags options)) v is in
    subst (λ (c : Command). can_say (option_map (λ (d : Command). d.content) (reply_to policy (Ok c) v)) v ≡ true → IsLast identifier (hears_command policy (Ok c) v)) (sym same)
    (last_of policy v identifier own flags options) can
