-- A client goes through no answer of its shelf that is not as long as it asked for.
use Rattle.std.proofs.Common.{◌≡◌, ◌==◌, ℕ, Bool, true, false, List, [], ◌∷◌, map, length, None, Ok, Err, refl, if◌then◌else◌}
use Rattle.std.proofs.lemmas.Bool.{eqb-true}
use Rattle.std.specs.List.{AllByRecursion}
use Rattle.shelf_model.specs.bt_base.specs.declared.ports.PortFault.TheVariants as fault
use Rattle.shelf_model.specs.bt_base.specs.declared.settings.Settings.{Settings}
use Rattle.push_laws.specs.push_model.specs.Client.{Client}
use Rattle.push_laws.specs.push_model.specs.Laws.{Deed, Hears, Asks, Finishes, Cancels}
use Rattle.push_laws.specs.push_model.specs.Steps.{Part, put_count}
use Rattle.push_laws.specs.Sending.{AnswersTo}
use Rattle.shelf_model.specs.world_model.specs.Machines.{News, Linked, Failed, Heard, TimerFired, Cancelled, Opening}
use Rattle.shelf_model.specs.host_model.specs.Circumstances.{Circumstance, Excerpt}
use Rattle.shelf_model.specs.host_model.specs.Clients.{ClientProfile}
use Rattle.shelf_model.specs.host_model.specs.Shelves.{is_next, measured, bare_part, fitting}
use Rattle.shelf_model.specs.host_model.proofs.Shelves.{names_are_short, size_told}
use Rattle.host_laws.specs.Answered.{IsAnswered, TellsAtMost, BeginsAtMost, ClientsAreAnswered}
use Rattle.host_laws.specs.Feeds.{Feed, Gifts, Learns, Receives, Happens, Sent, Steps}
use Rattle.host_laws.proofs.AllAsked.{IsBare, FeedSo, all_asked}

-- ---- a step

measured_answers : (client : Client) (answer : Part) (parts : List Part) → AnswersTo None (Asks (measured (put_count client) answer ∷ parts)) client
measured_answers client (Err cause) parts = tt
measured_answers client (Ok part) parts = by (length part == put_count client) (λ test. eqb-true (length part) (put_count client) test)
  where
    by : (test : Bool) → (test ≡ true → length part ≡ put_count client) → AnswersTo None (Asks ((if test then Ok part else Err fault.Failed) ∷ parts)) client
    by true is = (is refl, tt)
    by false is = tt

next_answers : (client : Client) (answer : Part) (parts : List Part) (test : Bool) → AnswersTo None (Asks ((if test then measured (put_count client) answer else Err fault.Failed) ∷ parts)) client
next_answers client answer parts true = measured_answers client answer parts
next_answers client answer parts false = tt

fitting_answers : (client : Client) (excerpts : List Excerpt) → AnswersTo None (Asks (fitting client excerpts)) client
fitting_answers client [] = tt
fitting_answers client (excerpt ∷ excerpts) = next_answers client excerpt.answer (map bare_part excerpts) (is_next client excerpt)

-- ---- all of it

module _ (most : ℕ) where
  bare_answered : (deed : Deed) (client : Client) → IsBare deed → AnswersTo None deed client
  bare_answered (Hears news) client bare = tt
  bare_answered (Asks []) client bare = tt
  bare_answered (Asks (part ∷ parts)) client bare = absurd bare
  bare_answered Finishes client bare = tt
  bare_answered Cancels client bare = tt

  news_answered : (circumstances : List Circumstance) (news : News) (pushing : ClientProfile) → TellsAtMost most circumstances news → FeedSo (IsAnswered most) bare_answered pushing (Learns circumstances news)
  news_answered circumstances (Linked event) pushing told = tt
  news_answered circumstances (Failed status) pushing told = tt
  news_answered circumstances (Heard pdu) pushing told = tt
  news_answered circumstances TimerFired pushing told = tt
  news_answered circumstances Cancelled pushing told = tt
  news_answered circumstances (Opening name) pushing told = record { short = names_are_short name; bounded = λ count is. told count (size_told circumstances name count is) }

  feed_answered : (pushing : ClientProfile) (feed : Feed) → BeginsAtMost most feed → FeedSo (IsAnswered most) bare_answered pushing feed
  feed_answered pushing (Gifts circumstances) told = tt
  feed_answered pushing (Learns circumstances news) told = news_answered circumstances news pushing told
  feed_answered pushing (Receives own psm sdu) told = tt
  feed_answered pushing (Happens event v) told = tt
  feed_answered pushing (Sent v) told = tt
  feed_answered pushing (Steps v) told = fitting_answers pushing.client pushing.parts

pub clients_are_answered : ClientsAreAnswered
clients_are_answered most settings pushing feeds told =
    all_asked (IsAnswered most) (bare_answered most) settings (λ pushing. Unit {0}) (BeginsAtMost most) (λ pushing feed told stays. tt) (λ pushing feed told stays. feed_answered most pushing feed told) feeds pushing tt told
