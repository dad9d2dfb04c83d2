-- What a finished capture says of the talk of each side (Core 5.1, Volume 2 Part E, 7.7.3 and 7.7.5, and Volume 3 Part A,
-- 3.1): its links, the PDUs of each, and what is read off them.
use Rattle.std.specs.Prelude.{ℕ, ℤ, pos, ◌∷◌, ◌++◌, Bool, List, [], map, Option, Some, None}
use Rattle.std.specs.List.{flat_map}
use Rattle.bt_base.specs.Objects.{Object}
use Rattle.push_terms.specs.declared.word.Side.{Side}
use Rattle.capture.specs.Entries.{Entry}
use Rattle.capture.specs.Histories.{given_by}
use Rattle.capture.specs.Links.{Link, links, link_up}
use Rattle.capture.specs.Peaks.{greatest}
use Rattle.link_talk.specs.Sayings.{Saying, talk}
use Rattle.link_talk.specs.declared.party.Party.{Party}
use Rattle.link_talk.specs.ObjectsHeard.{objects}
use Rattle.link_talk.specs.Accounts.{widest, credits}
use Rattle.link_talk.specs.Waits.{waits, has_check_word}

-- the talk of each link of a side, in their order: what moved between it and its controller
abbrev pub talks : Side → List Entry → List (List Saying)
talks side entries = map talk (links side entries)

abbrev pub last_talk : List (List Saying) → List Saying
last_talk [] = []
last_talk (said ∷ []) = said
last_talk (said ∷ next ∷ more) = last_talk (next ∷ more)

-- the objects that the packets spell which a side heard, in the order of their last packets
abbrev pub objects_heard : Party → Side → List Entry → List Object
objects_heard party side entries = flat_map (objects party) (talks side entries)

-- ---- accounts at a moment, and the greatest of all moments

-- the I-frames that are not acknowledged, on the channel of the last link with the most
abbrev pub window_held : Party → Side → List Entry → ℕ
window_held party side entries = widest party (last_talk (talks side entries))

abbrev pub window_peak : Party → Side → List Entry → ℕ
window_peak party side entries = greatest (given_by (λ past entry. window_held party side (past ++ entry ∷ []) ∷ []) entries)

-- the credits that a side holds on its last link
abbrev pub credits_of : Party → Side → List Entry → ℤ
credits_of party side entries = credits party (last_talk (talks side entries))

abbrev pub natural : ℤ → ℕ
natural (pos n) = n
natural below = 0

abbrev pub credits_peak : Party → Side → List Entry → ℕ
credits_peak party side entries = greatest (given_by (λ past entry. natural (credits_of party side (past ++ entry ∷ [])) ∷ []) entries)

-- ---- what is so on the link that is up

abbrev pub talk_on : Option Link → List Saying
talk_on None = []
talk_on (Some link) = talk link

-- the talk of the link that is up, nothing where none is
abbrev pub talk_now : Side → List Entry → List Saying
talk_now side entries = talk_on (link_up side entries)

-- the timer of a side is armed: its host waits for something there
abbrev pub is_armed : Party → Side → List Entry → Bool
is_armed party side entries = waits party (talk_now side entries)

-- a frame that comes there for an endpoint of the side's host has a check word
abbrev pub is_checked_at : Side → List Entry → ℕ → Bool
is_checked_at side entries own = has_check_word (talk_now side entries) own
