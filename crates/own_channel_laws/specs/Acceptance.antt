-- On which channels a host sends (Core 5.1, Volume 3 Part A, 4.5, 6.1.3 and 6.1.4).
use Rattle.std.specs.Prelude.{ℕ, ◌≡◌, true, false, List, [], ◌∷◌, ◌++◌, Some}
use Rattle.talk_laws.specs.acl_fragments.specs.Pieces.{channel_of}
use Rattle.talk_laws.specs.capture.specs.declared.flow.Flow.TheVariants.{Out}
use Rattle.talk_laws.specs.link_talk.specs.declared.party.Party.{Party}
use Rattle.talk_laws.specs.link_talk.specs.Sayings.{Saying, Carried}
use Rattle.talk_laws.specs.link_talk.specs.Setups.{is_set}
use Rattle.talk_laws.specs.link_talk.specs.Channels.{Entry, is_there, reading}
use Rattle.talk_laws.specs.link_talk.specs.Waits.{options_wait}
use Rattle.channel_model.specs.Policies.{Policy}
use Rattle.own_channel_laws.specs.Runs.{Occurrence, said_in, run_of}
use Rattle.own_channel_laws.specs.Sdus.{StatesFrame}
use Rattle.own_channel_laws.specs.Frames.{AreUttered}
use Rattle.own_channel_laws.specs.Views.{read_at}

-- what was said has a channel that is there for the peer's endpoint, on which each side has asked for its options: the host
-- accepted those of the peer, and its own request was answered, or shown to be accepted
pub record IsAccepted (party : Party) (said : List Saying) (peer : ℕ) : Type 0 where
  pub entry : Entry
  pub read : read_at entry.channel.own (reading said).entries ≡ Some entry
  pub peer_is : entry.channel.peer ≡ peer
  pub there : is_there entry.life ≡ true
  pub set : is_set entry.setup ≡ true
  pub answered : options_wait party said entry.channel ≡ false

-- A host says a PDU on a channel, an SDU or a frame, only where its own talk so far says so.
abbrev pub SendsBehindAcceptance : Type 0
SendsBehindAcceptance = (policy : Policy) (party : Party) (list : List Occurrence) (more : Occurrence) (pdu : List ℕ) → StatesFrame policy party → AreUttered policy (list ++ more ∷ [])
    → said_in policy more (run_of policy list).value ≡ Carried Out pdu ∷ [] → IsAccepted party (run_of policy list).said (channel_of pdu)
