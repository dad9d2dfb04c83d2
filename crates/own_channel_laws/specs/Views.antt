-- What is held of a channel, as its talk is read.
use Rattle.std.specs.Prelude.{ℕ, ◌≡◌, ◌==◌, ◌&&◌, Bool, find, is_some, List, Option, Some, None, option_map}
use Rattle.talk_laws.specs.l2cap_config.specs.declared.wish.Mode.{Mode}
use Rattle.talk_laws.specs.l2cap_config.specs.declared.wish.Mode.TheVariants.{Basic, Enhanced}
use Rattle.talk_laws.specs.l2cap_config.specs.declared.wish.Wish.{Wish}
use Rattle.talk_laws.specs.link_talk.specs.declared.channel.Channel.{Channel}
use Rattle.talk_laws.specs.link_talk.specs.declared.life.Life.{Life}
use Rattle.talk_laws.specs.link_talk.specs.declared.life.Life.TheVariants as lives
use Rattle.talk_laws.specs.link_talk.specs.Setups as read
use Rattle.talk_laws.specs.link_talk.specs.Setups.{is_enhanced}
use Rattle.talk_laws.specs.link_talk.specs.Channels.{Entry}
use Rattle.channel_model.specs.Value.{Own, Unasked, Asking, Granted, Carrier, Plain, Retransmitting, Setup, Stage, Requested, Connected, Leaving, Closing, Crossed, Held}
use Rattle.channel_model.specs.Policies.{Policy}

-- ---- how far a channel is

-- the peer's endpoint, once there is one
abbrev pub peer_of : Stage → Option ℕ
peer_of (Requested request) = None
peer_of (Connected peer setup) = Some peer
peer_of (Leaving peer setup request) = Some peer
peer_of (Closing peer request checked) = Some peer
peer_of (Crossed peer request) = Some peer

-- a channel that its host closed is on its way to its end, as one whose end it asked for
abbrev pub life_of : Stage → Life
life_of (Requested request) = lives.Alive
life_of (Connected peer setup) = lives.Alive
life_of (Leaving peer setup request) = lives.Leaving
life_of (Closing peer request checked) = lives.Leaving
life_of (Crossed peer request) = lives.Crossed

-- ---- modes

-- the mode that the host asks for, once it has asked
abbrev pub asked_mode : Wish → Own → Option Mode
asked_mode wish Unasked = None
asked_mode wish (Asking request options) = Some wish.mode
asked_mode wish Granted = Some wish.mode

abbrev pub carrier_mode : Carrier → Mode
carrier_mode (Plain agreed waiting) = Basic
carrier_mode (Retransmitting machine) = Enhanced

-- both sides' requests are read as they are held
pub record IsSetUp (wish : Wish) (setup : Setup) (said : read.Setup) : Type 0 where
  pub asked_is : said.asked ≡ asked_mode wish setup.own
  pub accepted_is : said.accepted ≡ option_map carrier_mode setup.carrier

-- ---- options

-- What is read of the options of a channel: nothing, as it is only asked for, or has ended for its host; how far both sides are
-- with them; or, where its host has closed it, whether what still comes in has a check word.
pub data Standing : Type 0 where
  Unread : Standing
  Agreeing : (setup : Setup) → Standing
  Shut : (checked : Bool) → Standing

abbrev pub standing : Stage → Standing
standing (Requested request) = Unread
standing (Connected peer setup) = Agreeing setup
standing (Leaving peer setup request) = Agreeing setup
standing (Closing peer request checked) = Shut checked
standing (Crossed peer request) = Unread

-- the host asked for enhanced retransmission mode, and has accepted the peer's request
abbrev pub is_checked_by : read.Setup → Bool
is_checked_by said = is_some said.accepted && is_enhanced said.asked

-- ---- a channel

abbrev pub channel_by : (psm own peer : ℕ) → Channel
channel_by psm own peer = record { psm = psm; own = own; peer = peer }

pub record IsThere (held : Held) (peer : ℕ) (entry : Entry) : Type 0 where
  pub channel_is : entry.channel ≡ channel_by held.psm held.own peer
  pub life_is : entry.life ≡ life_of held.stage

abbrev pub IsSetUpIf : Wish → Standing → read.Setup → Type 0
IsSetUpIf wish Unread said = Unit {0}
IsSetUpIf wish (Agreeing setup) said = IsSetUp wish setup said
IsSetUpIf wish (Shut checked) said = is_checked_by said ≡ checked

-- there is none yet where it was only asked for
abbrev pub IsReadBy : Policy → Held → (peer : Option ℕ) → Option Entry → Type 0
IsReadBy policy held None None = Unit {0}
IsReadBy policy held None (Some entry) = ⊥
IsReadBy policy held (Some peer) None = ⊥
IsReadBy policy held (Some peer) (Some entry) = IsThere held peer entry × IsSetUpIf (policy.wish held.psm) (standing held.stage) entry.setup

-- what is held at an own endpoint, and what is read of it: a channel that is not held any more is over
abbrev pub IsRead : Policy → Option Held → Option Entry → Type 0
IsRead policy None None = Unit {0}
IsRead policy None (Some entry) = entry.life ≡ lives.Over
IsRead policy (Some held) found = IsReadBy policy held (peer_of held.stage) found

-- what is read at an own endpoint
abbrev pub is_own : ℕ → Entry → Bool
is_own own entry = entry.channel.own == own

abbrev pub read_at : ℕ → List Entry → Option Entry
read_at own entries = find (is_own own) entries
