-- Small talks, worked out by hand, on which another reading might be expected.
use Rattle.std.specs.Prelude.{ℕ, ◌≡◌, Bool, true, false, List, [], ◌∷◌, length, map}
use Rattle.link_talk.specs.l2cap_signal.specs.Commands.{connection_request, connection_response, configuration_request, configuration_response, disconnection_request, disconnection_response}
use Rattle.link_talk.specs.capture.specs.declared.flow.Flow.TheVariants.{Into}
use Rattle.link_talk.specs.Sayings.{Saying}
use Rattle.link_talk.specs.Channels.{reading}
use Rattle.link_talk.specs.Sdus.{Spoken}
use Rattle.link_talk.specs.Exchanges.{ends_object_with}
use Rattle.link_talk.specs.Silences.{channel_exchanges}
use Rattle.link_talk.specs.Waits.{waits, has_check_word}
use Rattle.link_talk.specs.Examples.{out, came, packet, first_put, granting, put_with_body, client, says, hears, asked, granted}

-- ---- channels

abbrev pub refused : Saying
refused = hears 1 (connection_response 0 0x40 2 0)

-- a second request, granted with the peer's endpoint of the first channel
abbrev pub second : List Saying
second = asked ∷ granted ∷ says 2 (connection_request 0x0001 0x41) ∷ hears 2 (connection_response 0x50 0x41 0 0) ∷ []

-- the host grants 0040, the channel ends, and it grants 0040 again
abbrev pub given_twice : List Saying
given_twice =
    hears 1 (connection_request 0x0001 0x50) ∷ says 1 (connection_response 0x40 0x50 0 0) ∷ hears 2 (disconnection_request 0x40 0x50) ∷ says 2 (disconnection_response 0x40 0x50)
    ∷ hears 3 (connection_request 0x0001 0x51) ∷ says 3 (connection_response 0x40 0x51 0 0) ∷ []

abbrev pub enhanced : List ℕ
enhanced = 0x04 ∷ 9 ∷ 3 ∷ 10 ∷ 4 ∷ 0 ∷ 0 ∷ 0 ∷ 0 ∷ 0xF2 ∷ 3 ∷ []

abbrev pub is_enhanced : List Saying
is_enhanced = asked ∷ granted ∷ says 2 (configuration_request 0x50 0 enhanced) ∷ hears 9 (configuration_request 0x40 0 enhanced) ∷ says 9 (configuration_response 0x50 0 0 []) ∷ []

-- What was refused stays so. A success that makes no channel answers nothing. An endpoint of the host is given once. On
-- PSM 0001 too a frame has a check word by the mode.
pub record ChannelsDiffer : Type 0 where
  pub refused_once : length (reading (asked ∷ refused ∷ asked ∷ granted ∷ [])).entries ≡ 0
  pub not_answered : (length (reading second).entries ≡ 1) × (waits client second ≡ true)
  pub given_once : length (reading given_twice).entries ≡ 1
  pub by_mode : has_check_word is_enhanced 0x40 ≡ true

-- ---- silence

-- a packet that states another length than it has
abbrev pub misstated : ℕ → List ℕ
misstated code = code ∷ 0 ∷ 9 ∷ []

-- A packet is refused, and a final PUT comes: before the refusal is said, and where the packet came before the mode was granted.
abbrev pub before_refusal : List Spoken
before_refusal = came first_put ∷ out granting ∷ came (misstated 0x82) ∷ came (put_with_body 0x82) ∷ out (packet 0xC0) ∷ came (packet 0x81) ∷ out (packet 0xA0) ∷ []

abbrev pub before_grant : List Spoken
before_grant = came first_put ∷ came (misstated 0x05) ∷ out granting ∷ out (packet 0xC0) ∷ came (put_with_body 0x82) ∷ came (packet 0x81) ∷ out (packet 0xA0) ∷ []

-- the same where the refusal is said first
abbrev pub behind_refusal : List Spoken
behind_refusal = came first_put ∷ out granting ∷ came (misstated 0x82) ∷ out (packet 0xC0) ∷ came (put_with_body 0x82) ∷ came (packet 0x81) ∷ out (packet 0xA0) ∷ []

abbrev pub successes : List Spoken → List Bool
successes packets = map (ends_object_with 0xA0) (channel_exchanges Into 1024 packets)

-- what a server passes over is read off what it has said
pub record SilencesDiffer : Type 0 where
  pub refusal_unsaid : successes before_refusal ≡ false ∷ false ∷ true ∷ []
  pub grant_unsaid : successes before_grant ≡ false ∷ false ∷ true ∷ []
  pub refusal_said : successes behind_refusal ≡ false ∷ false ∷ false ∷ []
