-- An inbox that answers one list, and goes on with what is left of it, with each thing that its host hears (this project's own).
use Rattle.std.specs.Prelude.{◌≡◌, ◌≤◌, List, [], ◌∷◌, Option}
use Rattle.std.specs.List.{AllByRecursion}
use Rattle.pair_laws.specs.bt_base.specs.declared.settings.Settings.{Settings}
use Rattle.pair_laws.specs.bt_base.specs.Objects.{Contents}
use Rattle.pair_laws.specs.obex_session.specs.InboxCalls.{Answer}
use Rattle.pair_laws.specs.push_laws.specs.Faults.{faults_of, spent_from}
use Rattle.pair_laws.specs.push_laws.specs.Premises.{NoneShort}
use Rattle.pair_laws.specs.host_model.specs.Circumstances.{Circumstance, answers_in}
use Rattle.pair_laws.specs.host_model.specs.Servers.{ServerProfile, server_profile}
use Rattle.pair_laws.specs.host_laws.specs.Feeds.{Feed, Gifts, Learns, Receives, Happens, Sent, Steps, fed}
use Rattle.pair_laws.specs.host_laws.specs.Gifts.{gifts_of}
use Rattle.pair_laws.specs.host_laws.specs.Serving.{served_from, reacted}

-- a server is given what its inbox is still to answer
abbrev pub IsLeft : ServerProfile → Feed → Type 0
IsLeft serving (Gifts circumstances) = answers_in circumstances ≡ serving.inbox.answers
IsLeft serving (Learns circumstances news) = Unit {0}
IsLeft serving (Receives own psm sdu) = Unit {0}
IsLeft serving (Happens event v) = Unit {0}
IsLeft serving (Sent v) = Unit {0}
IsLeft serving (Steps v) = Unit {0}

-- so it is with all that its profile goes through
abbrev pub AreLeft : Settings → Option Contents → ServerProfile → List Feed → Type 0
AreLeft settings content serving [] = Unit {0}
AreLeft settings content serving (feed ∷ feeds) = IsLeft serving feed × AreLeft settings content (fed (server_profile settings content) serving feed) feeds

-- with the first thing that it hears it is given all answers, and then what is left of them
abbrev pub AreGivenOnce : Settings → Option Contents → List Answer → List Feed → Type 0
AreGivenOnce settings content answers [] = Unit {0}
AreGivenOnce settings content answers (feed ∷ feeds) =
    (circumstances : List Circumstance) × (feed ≡ Gifts circumstances) × (answers_in circumstances ≡ answers) × AreLeft settings content (fed (server_profile settings content) (server_profile settings content).first feed) feeds

-- ---- the laws

-- Then its calls use up no more faults than there are in that list.
abbrev pub SpendsWhatIsGiven : Type 0
SpendsWhatIsGiven = (settings : Settings) (content : Option Contents) (answers : List Answer) (feeds : List Feed) → AreGivenOnce settings content answers feeds
    → spent_from (reacted (server_profile settings content).first) (served_from settings content (server_profile settings content).first feeds) ≤ faults_of answers

-- And where none of the answers is want of memory, none of those that it is given is.
abbrev pub GivesWhatIsLeft : Type 0
GivesWhatIsLeft = (settings : Settings) (content : Option Contents) (answers : List Answer) (feeds : List Feed) → AreGivenOnce settings content answers feeds → NoneShort answers
    → AllByRecursion (λ (gift : List Circumstance). NoneShort (answers_in gift)) (gifts_of feeds)
