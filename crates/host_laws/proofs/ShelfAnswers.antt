-- A client goes through parts of its objects alone, each as long as it asked for, where its shelf tells what it holds.
use Rattle.std.proofs.Common.{ℕ, ◌≡◌, ◌==◌, ◌&&◌, Bool, true, false, List, [], ◌∷◌, length, map, Option, Some, Result, Ok, Err, IfSome, refl, sym, subst, if◌then◌else◌}
use Rattle.std.proofs.lemmas.Bool.{eqb-true, and_parts}
use Rattle.std.proofs.lemmas.Slice.Eq.{bytes_eq-Decides}
use Rattle.std.specs.List.{AllByRecursion}
use Rattle.std.specs.Str.{bytes_eq}
use Rattle.shelf_model.specs.bt_base.specs.declared.ports.PortFault.TheVariants.{Failed as FailedShelf}
use Rattle.shelf_model.specs.bt_base.specs.Objects.{Object}
use Rattle.shelf_model.specs.obex_session.specs.PutPackets.{place_of}
use Rattle.push_laws.specs.push_model.specs.Client.{Client}
use Rattle.push_laws.specs.push_model.specs.Laws.{Deed, Hears, Asks, Finishes, Cancels}
use Rattle.push_laws.specs.push_model.specs.Steps.{Part, put_count}
use Rattle.push_laws.specs.Sending.{AnswersTo}
use Rattle.shelf_model.specs.world_model.specs.Machines.{News, Linked, Failed, Heard, TimerFired, Cancelled, Opening}
use Rattle.shelf_model.specs.host_model.specs.Circumstances.{Circumstance, Excerpt, size_in}
use Rattle.shelf_model.specs.host_model.specs.Clients.{ClientProfile}
use Rattle.shelf_model.specs.host_model.specs.Shelves.{is_short, size_if, name_if, measured, bare_part, fitting}
use Rattle.shelf_model.specs.Held.{IsThere, IsHeld, length_of}
use Rattle.host_laws.specs.Feeds.{Feed, Gifts, Learns, Receives, Happens, Sent, Steps}
use Rattle.host_laws.specs.ShelfAnswers.{TellsSizeOf, AnswersOf, IsGiven, ClientsAreGivenObjects}
use Rattle.host_laws.proofs.AllAsked.{IsBare, FeedSo, all_asked}
use Rattle.host_laws.proofs.Excerpts.{HasAll, GivesAll, feed_held}

module _ (shelf : Option (List Object)) where
  -- ---- a step

  measured_given : (client : Client) (answer : Part) (parts : List Part) → IsThere shelf client.name (place_of client.session.put) answer → AnswersTo shelf (Asks (measured (put_count client) answer ∷ parts)) client
  measured_given client (Err cause) parts there = tt
  measured_given client (Ok part) parts there = by (length part == put_count client) (λ test. eqb-true (length part) (put_count client) test)
    where
      by : (test : Bool) → (test ≡ true → length part ≡ put_count client) → AnswersTo shelf (Asks ((if test then Ok part else Err FailedShelf) ∷ parts)) client
      by true is = (is refl, there.1)
      by false is = tt

  next_given : (client : Client) (name : List ℕ) (at : ℕ) (answer : Part) (parts : List Part) (test : Bool) → (bytes_eq name client.name && at == place_of client.session.put) ≡ test → IsThere shelf name at answer
      → AnswersTo shelf (Asks ((if test then measured (put_count client) answer else Err FailedShelf) ∷ parts)) client
  next_given client name at answer parts false is there = tt
  next_given client name at answer parts true is there =
      let place = place_of client.session.put in
      let both = and_parts (bytes_eq name client.name) (at == place) is in
      measured_given client answer parts (subst (λ (n : List ℕ). IsThere shelf n place answer) ((bytes_eq-Decides name client.name).0 both.0) (subst (λ (k : ℕ). IsThere shelf name k answer) (eqb-true at place both.1) there))

  fitting_given : (client : Client) (excerpts : List Excerpt) → AllByRecursion (IsHeld shelf) excerpts → AnswersTo shelf (Asks (fitting client excerpts)) client
  fitting_given client [] held = tt
  fitting_given client (excerpt ∷ excerpts) held = next_given client excerpt.name excerpt.at excerpt.answer (map bare_part excerpts) (bytes_eq excerpt.name client.name && excerpt.at == place_of client.session.put) refl held.0

  -- ---- a push begins

  size_given : (circumstances : List Circumstance) (name : List ℕ) (test : Bool) (count : ℕ) → TellsSizeOf shelf circumstances (Opening name) → size_if test (size_in circumstances) ≡ Ok count → IfSome shelf (λ objects. length_of (name_if test name) objects ≡ Some count)
  size_given circumstances name true count told is = (told count is).1
  size_given circumstances name false count told is = cc

  -- ---- what it is given

  abbrev HasHeld : ClientProfile → Type 0
  HasHeld pushing = HasAll (IsHeld shelf) pushing

  answers_give : (feed : Feed) → AnswersOf shelf feed → GivesAll (IsHeld shelf) feed
  answers_give (Gifts circumstances) answers = answers
  answers_give (Learns circumstances news) answers = tt
  answers_give (Receives own psm sdu) answers = tt
  answers_give (Happens event v) answers = tt
  answers_give (Sent v) answers = tt
  answers_give (Steps v) answers = tt

  -- ---- all of it

  bare_given : (deed : Deed) (client : Client) → IsBare deed → AnswersTo shelf deed client
  bare_given (Hears news) client bare = tt
  bare_given (Asks []) client bare = tt
  bare_given (Asks (part ∷ parts)) client bare = absurd bare
  bare_given Finishes client bare = tt
  bare_given Cancels client bare = tt

  news_given : (circumstances : List Circumstance) (news : News) (pushing : ClientProfile) → TellsSizeOf shelf circumstances news → FeedSo (IsGiven shelf) bare_given pushing (Learns circumstances news)
  news_given circumstances (Linked event) pushing told = tt
  news_given circumstances (Failed status) pushing told = tt
  news_given circumstances (Heard pdu) pushing told = tt
  news_given circumstances TimerFired pushing told = tt
  news_given circumstances Cancelled pushing told = tt
  news_given circumstances (Opening name) pushing told = λ count is. size_given circumstances name (is_short name) count told is

  feed_given : (pushing : ClientProfile) (feed : Feed) → AnswersOf shelf feed → HasHeld pushing → FeedSo (IsGiven shelf) bare_given pushing feed
  feed_given pushing (Gifts circumstances) answers held = tt
  feed_given pushing (Learns circumstances news) answers held = news_given circumstances news pushing answers
  feed_given pushing (Receives own psm sdu) answers held = tt
  feed_given pushing (Happens event v) answers held = tt
  feed_given pushing (Sent v) answers held = tt
  feed_given pushing (Steps v) answers held = fitting_given pushing.client pushing.parts held

pub clients_are_given_objects : ClientsAreGivenObjects
clients_are_given_objects shelf settings pushing feeds held answers =
    all_asked (IsGiven shelf) (bare_given shelf) settings (HasHeld shelf) (AnswersOf shelf) (λ p feed of has. feed_held (IsHeld shelf) settings p feed (answers_give shelf feed of) has) (λ p feed of has. feed_given shelf p feed of has) feeds pushing held answers
