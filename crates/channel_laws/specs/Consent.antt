-- That a host sends on a channel only where its peer has accepted its request for options (Core 5.1, Volume 3 Part A, 4.5, 6.1.3 and
-- 6.1.4).
use Rattle.std.specs.Prelude.{ℕ, ◌≡◌, ◌==◌, ◌%◌, true, List, Some, Ok, is_some, ◌⊎◌}
use Rattle.own_channel_laws.specs.talk_laws.specs.acl_fragments.specs.Pieces.{channel_of}
use Rattle.own_channel_laws.specs.talk_laws.specs.capture.specs.declared.flow.Flow.TheVariants.{Into}
use Rattle.own_channel_laws.specs.talk_laws.specs.l2cap_signal.specs.Commands.{configuration_request, configuration_response}
use Rattle.own_channel_laws.specs.talk_laws.specs.link_talk.specs.Sayings.{Saying, Carried}
use Rattle.own_channel_laws.specs.talk_laws.specs.link_talk.specs.Sayings as sayings
use Rattle.own_channel_laws.specs.talk_laws.specs.link_talk.specs.Channels.{Entry, reading}
use Rattle.own_channel_laws.specs.channel_model.specs.Value.{Granted, Setup, Carrier}
use Rattle.own_channel_laws.specs.channel_model.specs.Policies.{Policy}
use Rattle.own_channel_laws.specs.channel_model.specs.Changing.{held_at}
use Rattle.own_channel_laws.specs.channel_model.specs.Calls.{setup_on, carrier_at}
use Rattle.own_channel_laws.specs.OwnTalk.{spoken, command_with}
use Rattle.own_channel_laws.specs.Runs.{Occurrence, run_of}
use Rattle.own_channel_laws.specs.Views.{read_at}
use Rattle.own_channel_laws.specs.Signals.{StandsIn}
use Rattle.channel_laws.specs.Pairs.{Side, turned, Turn, pair_of}
use Rattle.channel_laws.specs.Ends.{end_at, AreFair}
use Rattle.channel_laws.specs.Belonging.{AreRead, said_at}
use Rattle.channel_laws.specs.Pipes.{AreCarried}

-- ---- what a host heard

-- success for its request for options of the channel of its endpoint
abbrev pub HasSuccess : (own : ℕ) → List Saying → Type 0
HasSuccess own said = (identifier : ℕ) × (flags : ℕ) × (options : List ℕ) × StandsIn (sayings.Command Into (Ok (command_with identifier (configuration_response own flags 0 options)))) said

-- a PDU on the channel, which a peer sends only behind its own success
abbrev pub HasPdu : (own : ℕ) → List Saying → Type 0
HasPdu own said = (pdu : List ℕ) × (channel_of pdu ≡ own) × StandsIn (Carried Into pdu) said

-- the one or the other
abbrev pub IsShown : (own : ℕ) → List Saying → Type 0
IsShown own said = HasSuccess own said ⊎ HasPdu own said

-- Whatever happens to a host: its request for options of a channel is accepted for it only where it heard so.
abbrev pub GrantsAreShown : Type 0
GrantsAreShown = (policy : Policy) (list : List Occurrence) (own : ℕ) (setup : Setup) → setup_on (held_at own (run_of policy list).value) ≡ Some setup → setup.own ≡ Granted → IsShown own (run_of policy list).said

-- ---- what a host said

-- it has a channel for this endpoint of its peer, of which it accepted options
pub record HasAccepted (peer : ℕ) (said : List Saying) : Type 0 where
  pub entry : Entry
  pub found : read_at entry.channel.own (reading said).entries ≡ Some entry
  pub peer_is : entry.channel.peer ≡ peer
  pub accepted : is_some entry.setup.accepted ≡ true

-- it heard a request for options that says that more of them follow
abbrev pub HasPart : List Saying → Type 0
HasPart said = (identifier : ℕ) × (own : ℕ) × (flags : ℕ) × (options : List ℕ) × ((flags % 2 == 1) ≡ true) × StandsIn (sayings.Command Into (Ok (command_with identifier (configuration_request own flags options)))) said

-- Whatever happens to a host: where it said success to a request for options, it accepted options of a channel for that endpoint of its
-- peer, or it heard a request of which more follows.
abbrev pub SuccessesAccept : Type 0
SuccessesAccept = (policy : Policy) (list : List Occurrence) (identifier peer flags : ℕ) (options : List ℕ) → StandsIn (spoken (command_with identifier (configuration_response peer flags 0 options))) (run_of policy list).said
    → HasAccepted peer (run_of policy list).said ⊎ HasPart (run_of policy list).said

-- ---- two hosts

-- Whatever the link loses, repeats and damages: where one end has a channel open, so that it may send on it, the other end has accepted
-- options of its channel for the endpoint of the first.
abbrev pub PeersHaveAccepted : Type 0
PeersHaveAccepted = (near far : Policy) (turns : List Turn) → AreFair near far turns → AreRead near far turns → AreCarried near far turns → (side : Side) (own : ℕ) (carrier : Carrier)
    → carrier_at own (end_at side (pair_of near far turns)).run.value ≡ Some carrier → HasAccepted own (said_at side (turned (pair_of near far turns)))
