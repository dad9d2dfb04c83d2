-- The air obeys a radio script, over the finished capture: what comes into the hosts is what the words of the script
-- hand over, and nothing else (this project's own).
use Rattle.std.specs.Prelude.{ℕ, ◌-◌, ◌≡◌, ◌<◌, ◌||◌, not, Bool, true, false, List, [], ◌∷◌, ◌++◌, take, drop, Option, Some, None, is_some, unwrap_or, slice_get, if◌then◌else◌}
use Rattle.std.specs.List.{AllByRecursion}
use Rattle.capture.specs.Histories.{led_by, EachAfter}
use Rattle.h4_framing.specs.Packets.{Acl, Event}
use Rattle.push_terms.specs.declared.word.Side.{Side}
use Rattle.push_terms.specs.declared.word.Side.TheVariants as sides
use Rattle.push_terms.specs.declared.word.Way.{Way}
use Rattle.push_terms.specs.declared.word.Way.TheVariants.{Ab, Ba}
use Rattle.push_terms.specs.declared.word.Word.{Word}
use Rattle.push_terms.specs.declared.word.Word.TheVariants.{Cancel}
use Rattle.capture.specs.declared.flow.Flow.TheVariants.{Out, Into}
use Rattle.capture.specs.Entries.{Entry, Moved, Acted, Begun, Ended}
use Rattle.capture.specs.Links.{told_by, link_up}
use Rattle.capture.specs.Frames.{Direction, waiting, left}
use Rattle.capture.specs.Air.{Air, no_air, broken_off, direction, due, after_out, after_into, IsFirst, words_done, ComesBehind, IsSettled, before_last_ends}
use Rattle.radio_model.specs.declared.fate.Fate.{Fate}
use Rattle.radio_model.specs.declared.deed.Deed.{Deed}
use Rattle.radio_model.specs.declared.deed.Deed.TheVariants.{Nothing, Meets, Fires, FiresBoth, Breaks, Cancels}
use Rattle.radio_model.specs.Fates.{Meeting, meets}
use Rattle.radio_model.specs.Words.{receiver, deed_of, served_by}
use Rattle.radio_model.specs.Radio.{first_channel}

-- What the air asks of the hosts: whether the timer of one is armed after some entries, and whether it has a check word
-- for a channel then.
pub record Hosts : Type 0 where
  pub armed : Side → List Entry → Bool
  pub checks : Side → List Entry → ℕ → Bool

-- ---- what a word does

-- the frame at the position meets its fate: the position goes on unless it stays, and what is handed over is due to the
-- host that the direction leads to
abbrev pub moved_on : List (List ℕ) → Direction → Direction
moved_on [] way = left way
moved_on (frame ∷ rest) way = way

abbrev pub with_meeting : Way → Meeting → Air → Air
with_meeting Ab meeting air = record air { ab = moved_on meeting.stays air.ab; due_b = air.due_b ++ meeting.pieces }
with_meeting Ba meeting air = record air { ba = moved_on meeting.stays air.ba; due_a = air.due_a ++ meeting.pieces }

abbrev pub after_meeting : ℕ → Way → Fate → (checked : Bool) → List (List ℕ) → Air → Air
after_meeting size way fate checked [] air = air
after_meeting size way fate checked (frame ∷ rest) air = record (with_meeting way (meets size fate checked frame) air) { served = served_by way fate air.served }

-- whether the receiver of the first frame that waits in a direction has a check word for its channel
abbrev pub checks_channel : Hosts → Side → List Entry → Option ℕ → Bool
checks_channel hosts side past None = false
checks_channel hosts side past (Some channel) = hosts.checks side past channel

abbrev pub is_checked : Hosts → List Entry → Air → Way → Bool
is_checked hosts past air way = checks_channel hosts (receiver way) past (first_channel (waiting (direction way air)))

-- what a word finds in the air
abbrev pub found : Word → Air → Deed
found word air = deed_of word air.served (waiting air.ab) (waiting air.ba) (not air.broken)

-- The air after it; none where there is nothing to act on. A timer that is not armed does not fire.
abbrev pub after_deed : Hosts → ℕ → List Entry → Air → Deed → Option Air
after_deed hosts size past air Nothing = None
after_deed hosts size past air (Meets way fate) = Some (after_meeting size way fate (is_checked hosts past air way) (waiting (direction way air)) air)
after_deed hosts size past air (Fires side) = if hosts.armed side past then Some air else None
after_deed hosts size past air FiresBoth = if hosts.armed sides.A past || hosts.armed sides.B past then Some air else None
after_deed hosts size past air Breaks = Some (broken_off air)
after_deed hosts size past air Cancels = Some air

abbrev pub acted : Hosts → ℕ → List Entry → Air → Word → Option Air
acted hosts size past air word = after_deed hosts size past air (found word air)

-- whether `cancel` finds a push to cancel is no matter of the air
abbrev pub FindsNothing : Hosts → ℕ → List Entry → Air → Word → Type 0
FindsNothing hosts size past air Cancel = Unit {0}
FindsNothing hosts size past air word = acted hosts size past air word ≡ None

-- ---- the course of the air: a small machine over the entries

abbrev pub after_entry : Hosts → ℕ → List Entry → Air → Entry → Air
after_entry hosts size past air (Moved side Out packet) = after_out past air side packet
after_entry hosts size past air (Moved side Into packet) = after_into past air side packet
after_entry hosts size past air (Acted ordinal word) = unwrap_or (acted hosts size past air word) air
after_entry hosts size past air (Begun push) = air
after_entry hosts size past air (Ended push outcome) = air

-- the air after some entries; controllers hand frames over in pieces of at most `size` octets
abbrev pub air_after : Hosts → ℕ → List Entry → Air
air_after hosts size entries = led_by (after_entry hosts size) [] no_air entries

-- ---- the rules

-- Word number `ordinal` of the script acts: it stands behind the words that acted, those between find nothing, it finds
-- something itself, and all that was handed over before has come.
pub record IsNext (hosts : Hosts) (size : ℕ) (script : List Word) (past : List Entry) (ordinal : ℕ) (word : Word) : Type 0 where
  pub rises : words_done past < ordinal
  pub stands : slice_get script (ordinal - 1) ≡ Some word
  pub between : AllByRecursion (FindsNothing hosts size past (air_after hosts size past)) (take (ordinal - 1 - words_done past) (drop (words_done past) script))
  pub finds : is_some (acted hosts size past (air_after hosts size past) word) ≡ true
  pub settled : IsSettled past (air_after hosts size past)

-- what the air says of one entry after those before it
abbrev pub KeepsTo : Hosts → ℕ → List Word → List Entry → Entry → Type 0
KeepsTo hosts size script past (Moved side Into (Acl word octets)) = IsFirst word octets (link_up side past) (due side (air_after hosts size past))
KeepsTo hosts size script past (Moved side Into (Event code params)) = ComesBehind (told_by code params) (due side (air_after hosts size past))
KeepsTo hosts size script past (Acted ordinal word) = IsNext hosts size script past ordinal word
KeepsTo hosts size script past entry = Unit {0}

-- the words behind those that did something find nothing
abbrev pub LeftFindNothing : Hosts → ℕ → List Word → List Entry → Type 0
LeftFindNothing hosts size script entries = AllByRecursion (FindsNothing hosts size entries (air_after hosts size entries)) (drop (words_done entries) script)

-- The air obeyed the script: each entry keeps to it, and at the end all that was handed over has come, and the words
-- that are left find nothing. The ends of pushes that stand last are written when the script has ended.
pub record Obeys (hosts : Hosts) (size : ℕ) (script : List Word) (entries : List Entry) : Type 0 where
  pub each : EachAfter (KeepsTo hosts size script) [] entries
  pub settled : IsSettled entries (air_after hosts size entries)
  pub left : LeftFindNothing hosts size script (before_last_ends entries)
