-- What a channel carries and its mode, looking back over the whole talk (Core 5.1, Volume 3 Part A, 3.1, 4.5 and 7.1).
use Rattle.std.specs.Prelude.{ℕ, ◌≡◌, ◌==◌, ◌&&◌, not, Bool, false, List, [], ◌∷◌, ◌++◌, find, Option, Some, None, if◌then◌else◌}
use Rattle.link_talk.specs.acl_fragments.specs.Pieces.{channel_of}
use Rattle.link_talk.specs.capture.specs.declared.flow.Flow.{Flow}
use Rattle.link_talk.specs.capture.specs.declared.flow.Flow.TheVariants.{Out, Into}
use Rattle.link_talk.specs.capture.specs.Histories.{given_by}
use Rattle.link_talk.specs.l2cap_config.specs.declared.wish.Mode.{Mode}
use Rattle.link_talk.specs.l2cap_config.specs.declared.wish.Mode.TheVariants.{Basic}
use Rattle.link_talk.specs.declared.channel.Channel.{Channel}
use Rattle.link_talk.specs.Sayings.{Saying, Command, Carried, GaveUp}
use Rattle.link_talk.specs.Meanings.{Meaning, meanings}
use Rattle.link_talk.specs.Setups.{Setup, is_set, agreed_mode}
use Rattle.link_talk.specs.Channels.{Birth, Entry, births, since, words, is_closed, is_gone, Reading, nothing_read, read_on}
use Rattle.link_talk.specs.Carriages.{Carriage, endpoint, is_heard, is_passed, carried_by, stretch, passages, mode_of}
use Rattle.talk_laws.specs.Setups.{setup_agreed}

-- ---- which channel a PDU goes over

-- what both sides agreed on of a channel
abbrev pub agreed : List Meaning → Birth → Setup
agreed meant birth = setup_agreed birth.channel (since meant birth)

-- it had opened, and was not gone
abbrev pub is_held_back : List Meaning → Birth → Bool
is_held_back meant birth = is_set (agreed meant birth) && not (is_gone (words meant birth))

-- it had opened, and its host had not closed it
abbrev pub is_open_back : List Meaning → Birth → Bool
is_open_back meant birth = is_set (agreed meant birth) && not (is_closed (words meant birth))

abbrev pub is_heard_back : List Meaning → Flow → Birth → Bool
is_heard_back meant Out birth = is_held_back meant birth
is_heard_back meant Into birth = is_open_back meant birth

abbrev pub is_passed_back : List Meaning → Flow → Birth → Bool
is_passed_back meant flow birth = is_held_back meant birth

abbrev pub takes_back : (Flow → Birth → Bool) → Flow → ℕ → Birth → Bool
takes_back counts flow identifier birth = counts flow birth && (endpoint flow birth.channel == identifier)

abbrev pub is_of : Channel → Option Birth → Bool
is_of channel None = false
is_of channel (Some birth) = birth.channel.own == channel.own

-- a PDU goes over the first of the channels so far that takes it
abbrev pub carried_back : (List Meaning → Flow → Birth → Bool) → Channel → List Saying → Saying → List Carriage
carried_back counts channel past (Command flow answer) = []
carried_back counts channel past (Carried flow pdu) =
    if is_of channel (find (takes_back (counts (meanings past)) flow (channel_of pdu)) (births (meanings past))) then record { flow = flow; pdu = pdu } ∷ [] else []
carried_back counts channel past (GaveUp forgone) = []

-- ---- the mode

abbrev pub has_endpoint : Channel → Birth → Bool
has_endpoint channel birth = birth.channel.own == channel.own

abbrev pub birth_mode : List Meaning → Option Birth → Mode
birth_mode meant None = Basic
birth_mode meant (Some birth) = agreed_mode (agreed meant birth)

abbrev pub mode_back : Channel → List Saying → Mode
mode_back channel said = birth_mode (meanings said) (find (has_endpoint channel) (births (meanings said)))

-- ---- in one pass

abbrev pub carried_along : (Flow → Entry → Bool) → Channel → Reading → List Saying → List Carriage
carried_along counts channel held [] = []
carried_along counts channel held (saying ∷ said) = carried_by counts channel held.entries saying ++ carried_along counts channel (read_on held saying) said

-- ---- the laws

pub record CarriagesLookBack : Type 0 where
  pub stretch_is : (channel : Channel) (said : List Saying) → stretch channel said ≡ given_by (carried_back is_heard_back channel) said
  pub passages_are : (channel : Channel) (said : List Saying) → passages channel said ≡ given_by (carried_back is_passed_back channel) said
  pub mode_is : (channel : Channel) (said : List Saying) → mode_of channel said ≡ mode_back channel said
  pub stretch_along : (channel : Channel) (said : List Saying) → stretch channel said ≡ carried_along is_heard channel nothing_read said
  pub passages_along : (channel : Channel) (said : List Saying) → passages channel said ≡ carried_along is_passed channel nothing_read said
