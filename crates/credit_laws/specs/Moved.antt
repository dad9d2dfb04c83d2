-- What a host gave up takes none of the credits that it holds, by what moved (Core 5.1, Volume 3 Part A, 4.2 and 4.3; RFCOMM 1.2, 6.5).
use Rattle.std.specs.Prelude.{ℕ, ◌≡◌, ◌⊎◌, true, List, ◌++◌, Ok}
use Rattle.std.specs.List.{AllByRecursion, list_any}
use Rattle.inbox_laws.specs.acl_fragments.specs.Pieces.{channel_of}
use Rattle.inbox_laws.specs.capture.specs.declared.flow.Flow.{Flow}
use Rattle.inbox_laws.specs.capture.specs.declared.flow.Flow.TheVariants.{Out, Into}
use Rattle.inbox_laws.specs.l2cap_signal.specs.Commands.{connection_request, connection_response}
use Rattle.inbox_laws.specs.link_talk.specs.declared.channel.Channel.{Channel}
use Rattle.inbox_laws.specs.link_talk.specs.declared.party.Party.{Party}
use Rattle.inbox_laws.specs.link_talk.specs.Channels.{reading}
use Rattle.inbox_laws.specs.link_talk.specs.Requests.{is_own_call}
use Rattle.inbox_laws.specs.link_talk.specs.Sayings.{Saying, Command, Carried, GaveUp}
use Rattle.inbox_laws.specs.channel_laws.specs.Endpoints.{IsOf}
use Rattle.inbox_laws.specs.channel_laws.specs.OwnTalk.{command_with}
use Rattle.inbox_laws.specs.channel_laws.specs.Signals.{StandsIn}
use Rattle.inbox_laws.specs.channel_laws.specs.Views.{read_at}
use Rattle.inbox_laws.specs.host_laws.specs.Seen.{spoken_of}
use Rattle.credit_laws.specs.Seen.{AreCovered, IsSaidOut, HoldsSome}

-- a request for a channel, which went one way; and a response that granted one
abbrev pub WasAsked : Flow → (identifier psm source : ℕ) → List Saying → Type 0
WasAsked flow identifier psm source said = StandsIn (Command flow (Ok (command_with identifier (connection_request psm source)))) said

abbrev pub WasGranted : Flow → (identifier status destination source : ℕ) → List Saying → Type 0
WasGranted flow identifier status destination source said = StandsIn (Command flow (Ok (command_with identifier (connection_response destination source 0 status)))) said

-- one side asked for the channel, and the other's response to that granted it
abbrev pub IsAgreed : List Saying → Channel → Type 0
IsAgreed said channel = (identifier : ℕ) × (status : ℕ) × ((WasGranted Out identifier status channel.own channel.peer said × WasAsked Into identifier channel.psm channel.peer said)
    ⊎ (WasGranted Into identifier status channel.peer channel.own said × WasAsked Out identifier channel.psm channel.own said))

-- the host asked for a channel with its endpoint
abbrev pub HasCalled : (identifier own : ℕ) → List Saying → Type 0
HasCalled identifier own said = list_any (is_own_call identifier own) (reading said).requests.calls ≡ true

-- two channels with the same endpoint of the peer have the same one of the host
abbrev pub PeersApart : List Saying → Type 0
PeersApart said = (one other : Channel) → IsAgreed said one → IsAgreed said other → one.peer ≡ other.peer → one.own ≡ other.own

-- Besides, the host asked for a channel with this endpoint by one identifier alone, and where it did its peer asked for none.
pub record IsSole (own : ℕ) (said : List Saying) : Type 0 where
  pub apart : PeersApart said
  pub once : (one other : ℕ) → HasCalled one own said → HasCalled other own said → one ≡ other
  pub unasked : (identifier : ℕ) → HasCalled identifier own said → (other psm source : ℕ) → WasAsked Into other psm source said → ⊥

-- a PDU that goes out names the peer's endpoint of a channel that is read
pub record GoesOver (said : List Saying) (identifier : ℕ) : Type 0 where
  pub channel : Channel
  pub own : ℕ
  pub is : IsOf channel (read_at own (reading said).entries)
  pub named : identifier ≡ channel.peer

abbrev pub IsCarriedOver : List Saying → Saying → Type 0
IsCarriedOver said (Command flow answer) = Unit {0}
IsCarriedOver said (Carried Out pdu) = GoesOver said (channel_of pdu)
IsCarriedOver said (Carried Into pdu) = Unit {0}
IsCarriedOver said (GaveUp forgone) = Unit {0}

-- Where the SDUs on each channel of RFCOMM, by all that the host said, grant it at least what it spent there, what moved before that which it said last leaves it
-- credits that are not below nothing, whatever it gave up.
abbrev pub MovedHoldSome : Type 0
MovedHoldSome = (party : Party) (said last : List Saying) → AllByRecursion IsSaidOut last → ((own : ℕ) → IsSole own (said ++ last)) → AllByRecursion (IsCarriedOver (said ++ last)) (said ++ last) → AreCovered party (said ++ last) → HoldsSome party (spoken_of said)
