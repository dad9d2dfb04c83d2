-- That one pass reads what was defined, for every talk.
use Rattle.std.specs.Prelude.{◌≡◌, not, List, [], ◌∷◌, map, fold}
use Rattle.link_talk.specs.Sayings.{Saying}
use Rattle.link_talk.specs.Senses.{sense}
use Rattle.link_talk.specs.Requests.{requests}
use Rattle.link_talk.specs.Meanings.{Meaning, meanings}
use Rattle.link_talk.specs.Channels.{Birth, births, words, is_closed, is_gone, is_left, setup_of, Entry, is_alive, is_there, waits_for_end, entries_after, reading}

-- what is held of a channel is what was said of it
pub record IsRead (meant : List Meaning) (birth : Birth) (entry : Entry) : Type 0 where
  pub channel_is : entry.channel ≡ birth.channel
  pub alive_is : is_alive entry.life ≡ not (is_closed (words meant birth))
  pub there_is : is_there entry.life ≡ not (is_gone (words meant birth))
  pub left_is : waits_for_end entry.life ≡ is_left (words meant birth)
  pub setup_is : entry.setup ≡ setup_of meant birth

-- of each channel, in the order in which they came to be
abbrev pub AreRead : List Meaning → List Birth → List Entry → Type 0
AreRead meant [] [] = Unit {0}
AreRead meant [] (entry ∷ entries) = ⊥
AreRead meant (birth ∷ births) [] = ⊥
AreRead meant (birth ∷ births) (entry ∷ entries) = IsRead meant birth entry × AreRead meant births entries

abbrev pub EntriesAreRead : Type 0
EntriesAreRead = (meant : List Meaning) → AreRead meant (births meant) (fold entries_after [] meant)

pub record ReadsTalk (said : List Saying) : Type 0 where
  pub requests_are : (reading said).requests ≡ requests (map sense said)
  pub entries_are : AreRead (meanings said) (births (meanings said)) (reading said).entries

abbrev pub ReadingIsRight : Type 0
ReadingIsRight = (said : List Saying) → ReadsTalk said
