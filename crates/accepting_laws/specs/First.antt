-- That a host asks for its first options alone while its peer suggests no others (Core 5.1, Volume 3 Part A, 4.4, 4.5 and 5).
use Rattle.std.specs.Prelude.{ℕ, ◌≡◌, ◌==◌, true, List, [], ◌∷◌, drop, Ok}
use Rattle.channel_laws.specs.acl_fragments.specs.Pieces.{channel_of}
use Rattle.channel_laws.specs.capture.specs.declared.flow.Flow.TheVariants.{Into}
use Rattle.channel_laws.specs.l2cap_config.specs.Writing.{written}
use Rattle.channel_laws.specs.l2cap_signal.specs.Commands.{configuration_request, configuration_response}
use Rattle.channel_laws.specs.l2cap_signal.specs.Reading.{answers}
use Rattle.channel_laws.specs.link_talk.specs.declared.channel.Channel.{Channel}
use Rattle.channel_laws.specs.link_talk.specs.Channels.{reading}
use Rattle.channel_laws.specs.link_talk.specs.Sayings.{Saying}
use Rattle.channel_laws.specs.link_talk.specs.Sayings as sayings
use Rattle.channel_laws.specs.channel_model.specs.Asking.{first_options}
use Rattle.channel_laws.specs.channel_model.specs.Policies.{Policy}
use Rattle.channel_laws.specs.Belonging.{AreRead, said_at}
use Rattle.channel_laws.specs.Endpoints.{IsOf}
use Rattle.channel_laws.specs.Ends.{end_at}
use Rattle.channel_laws.specs.Modes.{policy_of}
use Rattle.channel_laws.specs.OwnTalk.{spoken, command_with}
use Rattle.channel_laws.specs.Pairs.{Side, turned, Turn, pair_of}
use Rattle.channel_laws.specs.Runs.{Occurrence, run_of}
use Rattle.channel_laws.specs.Signals.{StandsIn}
use Rattle.channel_laws.specs.Views.{read_at}

-- no response that a host heard suggests other options (result 1, 4.5)
abbrev pub SuggestsNone : List Saying → Type 0
SuggestsNone said = (identifier own flags : ℕ) (options : List ℕ) → StandsIn (sayings.Command Into (Ok (command_with identifier (configuration_response own flags 1 options)))) said → ⊥

-- a request for options that names this endpoint of the peer: it is whole, and asks for the first options for the PSM of a channel that the host has with that endpoint
pub record IsForFirst (policy : Policy) (said : List Saying) (peer flags : ℕ) (octets : List ℕ) : Type 0 where
  pub own : ℕ
  pub channel : Channel
  pub has : IsOf channel (read_at own (reading said).entries)
  pub peer_is : channel.peer ≡ peer
  pub flags_are : flags ≡ 0
  pub octets_are : octets ≡ written (first_options (policy.wish channel.psm))

-- ---- the laws

-- While nothing else is suggested to it, each request for options that a host says is so.
abbrev pub FirstOptionsAreAsked : Type 0
FirstOptionsAreAsked = (policy : Policy) (list : List Occurrence) → SuggestsNone (run_of policy list).said → (identifier peer flags : ℕ) (options : List ℕ)
    → StandsIn (spoken (command_with identifier (configuration_request peer flags options))) (run_of policy list).said → IsForFirst policy (run_of policy list).said peer flags options

-- And so is each copy of one that is under way to the other host, whatever the link loses, repeats and damages.
abbrev pub FirstOptionsAreUnderWay : Type 0
FirstOptionsAreUnderWay = (near far : Policy) (turns : List Turn) → AreRead near far turns → (side : Side) → SuggestsNone (said_at side (pair_of near far turns))
    → (pdu : List ℕ) (identifier peer flags : ℕ) (options : List ℕ) → StandsIn pdu (end_at side (turned (pair_of near far turns))).coming → (channel_of pdu == 0x0001) ≡ true
    → answers (drop 4 pdu) ≡ Ok (command_with identifier (configuration_request peer flags options)) ∷ [] → IsForFirst (policy_of side near far) (said_at side (pair_of near far turns)) peer flags options
