-- Which frames have a check word, looking back over a talk (Core 5.1, Volume 3 Part A, 3.3.5, 5.4 and 5.5).
use Rattle.std.specs.Prelude.{ℕ, ◌≡◌, ◌==◌, ◌&&◌, not, Bool, List, [], ◌∷◌, ◌++◌, is_some}
use Rattle.std.specs.List.{list_any}
use Rattle.link_talk.specs.Sayings.{Saying}
use Rattle.link_talk.specs.Meanings.{Meaning, meanings}
use Rattle.link_talk.specs.Setups.{Setup, is_enhanced}
use Rattle.link_talk.specs.Channels.{Birth, births, since, words, is_gone, reading, read_on}
use Rattle.link_talk.specs.Waits.{is_checked, has_check_word}
use Rattle.talk_laws.specs.Setups.{setup_agreed}

-- the host asked for enhanced retransmission mode, and has accepted a request of the peer
abbrev pub asks_for_checks : Setup → Bool
asks_for_checks setup = is_some setup.accepted && is_enhanced setup.asked

-- the channel has this endpoint of the host, is not gone, and is agreed on so
abbrev pub is_checked_back : List Meaning → ℕ → Birth → Bool
is_checked_back meant own birth = ((birth.channel.own == own) && not (is_gone (words meant birth))) && asks_for_checks (setup_agreed birth.channel (since meant birth))

abbrev pub has_check_word_back : List Saying → ℕ → Bool
has_check_word_back said own = list_any (is_checked_back (meanings said) own) (births (meanings said))

pub record CheckWordsLookBack : Type 0 where
  pub back : (said : List Saying) (own : ℕ) → has_check_word said own ≡ has_check_word_back said own
  -- one saying more
  pub grow : (said : List Saying) (more : Saying) (own : ℕ) → has_check_word (said ++ more ∷ []) own ≡ list_any (is_checked own) (read_on (reading said) more).entries
