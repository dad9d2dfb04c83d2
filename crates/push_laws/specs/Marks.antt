-- What is said to a packet at which a call of the inbox failed, and to one that stores an object, over either transport (IrOBEX 1.5, 3.2.1).
use Rattle.std.specs.Prelude.{ℕ, ◌≡◌, true, false, List, [], ◌∷◌, ◌++◌, length, slice_index, if◌then◌else◌}
use Rattle.std.specs.List.{AllByRecursion}
use Rattle.link_talk.specs.bt_base.specs.declared.settings.Settings.{Settings}
use Rattle.link_talk.specs.bt_base.specs.declared.settings.Transport.{Transport}
use Rattle.link_talk.specs.Gains.{gained}
use Rattle.push_model.specs.Client.{own_maximum}
use Rattle.push_model.specs.Server.{Reacted}
use Rattle.push_model.specs.Service.{is_ignored}
use Rattle.push_model.specs.Sessions.{hears}
use Rattle.push_laws.specs.Occurrences.{Occurrence, done}
use Rattle.push_laws.specs.Readings.{packets_over}
use Rattle.push_laws.specs.Answers.{Replied, says_success}
use Rattle.push_laws.specs.Faults.{Marked, unmarked, mark_of, fails_at, stored_over}

-- what its session says to a packet; no octets where it is passed over in silence, or ignored
abbrev pub said_to : Transport → List ℕ → Reacted → Replied
said_to transport packet at =
    record { request = packet; response = if is_ignored transport packet at.server.listener.service then [] else (hears transport packet at.server.listener.service.sessions at.gift).response }

pub record SaysMark (settings : Settings) (transport : Transport) (past : List Marked) (at : Reacted) (one : Occurrence) (packet : List ℕ) : Type 0 where
  -- where a call fails at it D0 is said
  pub fault : is_ignored transport packet at.server.listener.service ≡ false → fails_at transport packet at.server.listener.service at.gift.answers ≡ true → slice_index (said_to transport packet at).response 0 ≡ 0xD0
  -- success is said to a PUT exactly where it stores an object
  pub success : length (gained (stored_over settings transport) past (mark_of (unmarked past) at one)) ≡ (if says_success (own_maximum transport settings) (said_to transport packet at) then 1 else 0)

-- of each packet that is whole with an occurrence
abbrev pub SayMarks : Settings → List Marked → Reacted → Occurrence → Type 0
SayMarks settings past at one = (transport : Transport) → AllByRecursion (SaysMark settings transport past at one) (gained (packets_over transport) (unmarked past) one)

abbrev pub AllSayMarks : Settings → List Marked → Reacted → List Occurrence → Type 0
AllSayMarks settings past at [] = Unit {0}
AllSayMarks settings past at (one ∷ rest) = SayMarks settings past at one × AllSayMarks settings (past ++ mark_of (unmarked past) at one ∷ []) (done one at) rest
