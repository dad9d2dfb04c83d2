-- A tape that has all answers of an inbox at first, and then what is left of them (this project's own).
use Rattle.std.specs.Prelude.{◌≤◌, Bool, true, false, List, [], ◌∷◌, map, Option, if◌then◌else◌}
use Rattle.std.specs.List.{AllByRecursion}
use Rattle.inbox_laws.specs.bt_base.specs.declared.settings.Settings.{Settings}
use Rattle.inbox_laws.specs.bt_base.specs.Objects.{Contents}
use Rattle.inbox_laws.specs.obex_session.specs.InboxCalls.{Answer}
use Rattle.inbox_laws.specs.push_laws.specs.Faults.{faults_of, spent_from}
use Rattle.inbox_laws.specs.push_laws.specs.Premises.{NoneShort}
use Rattle.inbox_laws.specs.host_model.specs.Circumstances.{Circumstance, Stored, answers_in}
use Rattle.inbox_laws.specs.host_model.specs.Servers.{ServerProfile, server_profile}
use Rattle.inbox_laws.specs.host_laws.specs.Feeds.{Feed, Gifts, Learns, Receives, Happens, Sent, Steps}
use Rattle.inbox_laws.specs.host_laws.specs.Gifts.{gifts_of}
use Rattle.inbox_laws.specs.host_laws.specs.Serving.{served_from, reacted}
use Rattle.tape_laws.specs.Runs.{HearsNewsAlone}
use Rattle.tape_laws.specs.Taped.{Tape, taped, untaped}

-- it tells whether it has run
abbrev pub once : List Answer → Tape ServerProfile Bool
once answers = record {
  first = false;
  gives = λ has_run serving. if has_run then map Stored serving.inbox.answers else map Stored answers;
  runs_on = λ has_run serving. true;
}

-- the first thing that a profile goes through is what it is given
abbrev pub BeginsGiven : List Feed → Type 0
BeginsGiven [] = Unit {0}
BeginsGiven (Gifts circumstances ∷ feeds) = Unit {0}
BeginsGiven (Learns circumstances news ∷ feeds) = ⊥
BeginsGiven (Receives own psm sdu ∷ feeds) = ⊥
BeginsGiven (Happens event v ∷ feeds) = ⊥
BeginsGiven (Sent v ∷ feeds) = ⊥
BeginsGiven (Steps v ∷ feeds) = ⊥

-- what the server then goes through that has no tape
abbrev pub given_once : (settings : Settings) (content : Option Contents) (answers : List Answer) → List Feed → List Feed
given_once settings content answers feeds = let A = server_profile settings content in untaped A (once answers) (taped A (once answers)).first feeds

-- ---- the laws

-- what a server makes of news hangs on the news alone
abbrev pub ServersHearNewsAlone : Type 0
ServersHearNewsAlone = (settings : Settings) (content : Option Contents) → HearsNewsAlone (server_profile settings content)

-- its calls use up no more faults than there are in that list; and where none of those answers is want of memory, none that it is given is
pub record SpendsOnce (settings : Settings) (content : Option Contents) (answers : List Answer) (feeds : List Feed) : Type 0 where
  pub few : spent_from (reacted (server_profile settings content).first) (served_from settings content (server_profile settings content).first feeds) ≤ faults_of answers
  pub enough : NoneShort answers → AllByRecursion (λ (gift : List Circumstance). NoneShort (answers_in gift)) (gifts_of feeds)

abbrev pub ServersSpendOnce : Type 0
ServersSpendOnce = (settings : Settings) (content : Option Contents) (answers : List Answer) (feeds : List Feed) → BeginsGiven feeds → SpendsOnce settings content answers (given_once settings content answers feeds)
