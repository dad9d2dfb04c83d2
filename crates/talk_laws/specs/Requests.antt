-- Which requests for information and for options wait, looking back (Core 5.1, Volume 3 Part A, 4.1, 4.4 and 4.10).
use Rattle.std.specs.Prelude.{ℕ, ◌≡◌, ◌==◌, Bool, true, false, List, Option, Some, None, is_some}
use Rattle.std.specs.List.{filter_map}
use Rattle.link_talk.specs.capture.specs.Histories.{given_by}
use Rattle.link_talk.specs.declared.channel.Channel.{Channel}
use Rattle.link_talk.specs.declared.party.Party.{Party}
use Rattle.link_talk.specs.Sayings.{Saying}
use Rattle.link_talk.specs.Waits.{Notice, AsksInformation, InformationEnds, notice, information_waits, Demand, AsksOptions, OptionsAnswered, OptionsImplied, demand, options_wait}
use Rattle.talk_laws.specs.Unanswered.{last_unanswered}

-- ---- requests for information

abbrev pub information_asked : Notice → Option ℕ
information_asked (AsksInformation identifier) = Some identifier
information_asked (InformationEnds identifier) = None

abbrev pub ends_information : ℕ → Notice → Bool
ends_information waiting (AsksInformation identifier) = false
ends_information waiting (InformationEnds identifier) = waiting == identifier

-- ---- requests for options

abbrev pub options_asked : Demand → Option ℕ
options_asked (AsksOptions identifier) = Some identifier
options_asked (OptionsAnswered identifier) = None
options_asked OptionsImplied = None

-- what implies an answer answers every request
abbrev pub answers_options : ℕ → Demand → Bool
answers_options waiting (AsksOptions identifier) = false
answers_options waiting (OptionsAnswered identifier) = waiting == identifier
answers_options waiting OptionsImplied = true

-- ---- the laws

pub record RequestsLookBack : Type 0 where
  pub information : (said : List Saying) → information_waits said ≡ is_some (last_unanswered information_asked ends_information (filter_map notice said))
  pub options : (party : Party) (said : List Saying) (channel : Channel) → options_wait party said channel ≡ is_some (last_unanswered options_asked answers_options (given_by (demand party channel) said))
