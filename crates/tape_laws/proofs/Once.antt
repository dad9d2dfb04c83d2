-- A server that has the answers of its inbox from a tape.
use Rattle.std.proofs.Common.{◌≡◌, Bool, true, List, [], ◌∷◌, ◌++◌, map, Option, refl, ap}
use Rattle.inbox_laws.specs.bt_base.specs.declared.settings.Settings.{Settings}
use Rattle.inbox_laws.specs.bt_base.specs.Objects.{Contents}
use Rattle.inbox_laws.specs.obex_session.specs.InboxCalls.{Answer}
use Rattle.inbox_laws.specs.world_model.specs.Machines.{Up, Down, Linked, Failed, Heard, TimerFired, Cancelled, Opening}
use Rattle.inbox_laws.specs.host_model.specs.Circumstances.{Stored, answers_in}
use Rattle.inbox_laws.specs.host_model.specs.Profiles.{Profile}
use Rattle.inbox_laws.specs.host_model.specs.Servers.{ServerProfile, server_profile}
use Rattle.inbox_laws.specs.host_laws.specs.Feeds.{Feed, Gifts, Learns, Receives, Happens, Sent, Steps}
use Rattle.inbox_laws.specs.Spending.{AreLeft, AreGivenOnce}
use Rattle.inbox_laws.proofs.Spending.{spends_what_is_given, gives_what_is_left}
use Rattle.tape_laws.specs.Taped.{Taped, taped, untaped}
use Rattle.tape_laws.specs.Once.{once, BeginsGiven, given_once, ServersHearNewsAlone, ServersSpendOnce}

pub answers_are : (answers : List Answer) → answers_in (map Stored answers) ≡ answers
answers_are [] = refl
answers_are (answer ∷ answers) = ap (λ (l : List Answer). answer ∷ l) (answers_are answers)

module _ (settings : Settings) (content : Option Contents) (answers : List Answer) where
  abbrev A : Profile ServerProfile
  A = server_profile settings content

  abbrev B : Profile (Taped ServerProfile Bool)
  B = taped A (once answers)

  -- once it has run, it tells what is left
  left_so : (feeds : List Feed) (serving : ServerProfile) (past : List Feed) → AreLeft settings content serving (untaped A (once answers) (record { profile = serving; at = true; past = past }) feeds)
  left_so [] serving past = tt
  left_so (Gifts circumstances ∷ feeds) serving past = (answers_are serving.inbox.answers, left_so feeds (A.given (map Stored serving.inbox.answers) serving) (past ++ Gifts circumstances ∷ []))
  left_so (Learns circumstances news ∷ feeds) serving past = (tt, left_so feeds (A.told circumstances news serving) (past ++ Learns circumstances news ∷ []))
  left_so (Receives own psm sdu ∷ feeds) serving past = (tt, left_so feeds (A.received own psm sdu serving) (past ++ Receives own psm sdu ∷ []))
  left_so (Happens event v ∷ feeds) serving past = (tt, left_so feeds (A.happened event v serving) (past ++ Happens event v ∷ []))
  left_so (Sent v ∷ feeds) serving past = (tt, left_so feeds (A.sent v serving) (past ++ Sent v ∷ []))
  left_so (Steps v ∷ feeds) serving past = (tt, left_so feeds (A.steps v serving).profile (past ++ Steps v ∷ []))

  once_so : (feeds : List Feed) → BeginsGiven feeds → AreGivenOnce settings content answers (given_once settings content answers feeds)
  once_so [] begins = tt
  once_so (Gifts circumstances ∷ feeds) begins = (map Stored answers, refl, answers_are answers, left_so feeds (A.given (map Stored answers) A.first) (Gifts circumstances ∷ []))
  once_so (Learns circumstances news ∷ feeds) begins = absurd begins
  once_so (Receives own psm sdu ∷ feeds) begins = absurd begins
  once_so (Happens event v ∷ feeds) begins = absurd begins
  once_so (Sent v ∷ feeds) begins = absurd begins
  once_so (Steps v ∷ feeds) begins = absurd begins

pub servers_spend_once : ServersSpendOnce
servers_spend_once settings content answers feeds begins =
    let once = once_so settings content answers feeds begins in
    let given = given_once settings content answers feeds in
    record { few = spends_what_is_given settings content answers given once; enough = λ none. gives_what_is_left settings content answers given once none }

pub servers_hear_news_alone : ServersHearNewsAlone
servers_hear_news_alone settings content one other (Linked Up) serving = refl
servers_hear_news_alone settings content one other (Linked (Down reason)) serving = refl
servers_hear_news_alone settings content one other (Failed status) serving = refl
servers_hear_news_alone settings content one other (Heard pdu) serving = refl
servers_hear_news_alone settings content one other TimerFired serving = refl
servers_hear_news_alone settings content one other Cancelled serving = refl
servers_hear_news_alone settings content one other (Opening name) serving = refl
