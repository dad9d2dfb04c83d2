-- How the mode of a channel is agreed on (Core 5.1, Volume 3 Part A, 4.4, 4.5, 5.4 and 7.1). It is that at the opening of
-- the channel, and nothing later changes it.
use Rattle.std.specs.Prelude.{ℕ, ◌==◌, ◌&&◌, Bool, true, false, List, [], ◌++◌, Option, Some, None, is_some, unwrap_or, option_map, Result, Ok, Err, if◌then◌else◌}
use Rattle.l2cap_config.specs.declared.options.Options.{Options}
use Rattle.l2cap_config.specs.declared.options.ConfigRefusal.{ConfigRefusal}
use Rattle.l2cap_config.specs.declared.wish.Mode.{Mode}
use Rattle.l2cap_config.specs.declared.wish.Mode.TheVariants.{Basic, Enhanced}
use Rattle.l2cap_config.specs.Reading.{options_read}
use Rattle.link_talk.specs.declared.channel.Channel.{Channel}
use Rattle.link_talk.specs.Meanings.{Part, Meaning, Makes, Answers, Wishes, Settles, Parts, Nothing}

-- ---- what options say of the mode

abbrev pub mode_numbered : ℕ → Mode
mode_numbered number = if number == 0x03 then Enhanced else Basic

abbrev pub mode_stated : Result Options ConfigRefusal → Option Mode
mode_stated (Ok options) = option_map (λ mode. mode_numbered mode.mode) options.mode
mode_stated (Err refusal) = None

-- the mode that a list of options asks for, if it has a mode option
abbrev pub mode_in : List ℕ → Option Mode
mode_in options = mode_stated (options_read options)

-- ---- what both sides ask for

-- on a channel, the host asks for options, or answers a request of the peer for options
pub data Term : Type 0 where
  Wished : (options : List ℕ) → Term
  Answered : (part : Part) → Term

abbrev pub term : Channel → Meaning → Option Term
term channel (Makes other) = None
term channel (Answers part) = if (part.own == channel.own) && (part.peer == channel.peer) then Some (Answered part) else None
term channel (Wishes identifier peer options) = if peer == channel.peer then Some (Wished options) else None
term channel (Settles identifier own) = None
term channel (Parts word own peer) = None
term channel Nothing = None

-- The mode of the host's last request, none before its first; the options accepted so far of a request of the peer that
-- comes in parts; the mode of the last request that was accepted whole, none before.
pub record Setup : Type 0 where
  pub asked : Option Mode
  pub parts : List ℕ
  pub accepted : Option Mode

abbrev pub no_setup : Setup
no_setup = record { asked = None; parts = []; accepted = None }

-- The channel is open once the host has asked for its options and has accepted those of the peer.
abbrev pub is_set : Setup → Bool
is_set setup = is_some setup.asked && is_some setup.accepted

-- a request without a mode option asks for the mode before it, and for basic mode at first
abbrev pub with_wish : Setup → List ℕ → Setup
with_wish setup options = record setup { asked = Some (unwrap_or (mode_in options) (unwrap_or setup.asked Basic)) }

-- The parts of a request are taken together; any other answer than success forgets those before it.
abbrev pub with_success : Setup → Part → Setup
with_success setup part =
    if part.more
    then record setup { parts = setup.parts ++ part.options }
    else record setup { parts = []; accepted = Some (unwrap_or (mode_in (setup.parts ++ part.options)) Basic) }

abbrev pub with_answer : Setup → Part → Setup
with_answer setup part = if part.accepted then with_success setup part else record setup { parts = [] }

abbrev pub with_term : Setup → Term → Setup
with_term setup (Wished options) = with_wish setup options
with_term setup (Answered part) = with_answer setup part

-- what is agreed on at the opening stands
abbrev pub setup_after : Setup → Option Term → Setup
setup_after setup None = setup
setup_after setup (Some more) = if is_set setup then setup else with_term setup more

-- ---- the mode

abbrev pub is_enhanced : Option Mode → Bool
is_enhanced None = false
is_enhanced (Some Basic) = false
is_enhanced (Some Enhanced) = true

-- enhanced retransmission mode where both sides asked for it
abbrev pub agreed_mode : Setup → Mode
agreed_mode setup = if is_enhanced setup.asked && is_enhanced setup.accepted then Enhanced else Basic
