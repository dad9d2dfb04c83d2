-- What the shelf told and the inbox answered, as it is said of all that a host went through.
use Rattle.std.proofs.Common.{ℕ, List, [], ◌∷◌, Option, None}
use Rattle.std.specs.List.{AllByRecursion}
use Rattle.pair_laws.specs.bt_base.specs.Objects.{Object}
use Rattle.pair_laws.specs.obex_session.specs.InboxCalls.{Answer}
use Rattle.pair_laws.specs.world_model.specs.Machines.{News, Linked, Failed, Heard, TimerFired, Cancelled, Opening}
use Rattle.pair_laws.specs.host_model.specs.Circumstances.{Circumstance, Excerpt, parts_in, answers_in}
use Rattle.pair_laws.specs.shelf_model.specs.Held.{longest_octets, IsHeld}
use Rattle.pair_laws.specs.shelf_model.proofs.Sizes.{held_any}
use Rattle.pair_laws.specs.host_laws.specs.Answered.{TellsAtMost, BeginsAtMost}
use Rattle.pair_laws.specs.host_laws.specs.Feeds.{Feed, Gifts, Learns, Receives, Happens, Sent, Steps}
use Rattle.pair_laws.specs.host_laws.specs.Gifts.{gifts_of}
use Rattle.pair_laws.specs.host_laws.specs.ShelfAnswers.{TellsSizeOf, AnswersOf}
use Rattle.request_laws.specs.BothFed.{InboxAnswers}
use Rattle.request_laws.specs.TogetherHeard.{GivesOctets}

-- ---- the shelf

few_told : (shelf : Option (List Object)) (circumstances : List Circumstance) (news : News) → TellsSizeOf shelf circumstances news → TellsAtMost longest_octets circumstances news
few_told shelf circumstances (Linked event) told = tt
few_told shelf circumstances (Failed status) told = tt
few_told shelf circumstances (Heard pdu) told = tt
few_told shelf circumstances TimerFired told = tt
few_told shelf circumstances Cancelled told = tt
few_told shelf circumstances (Opening name) told = λ size is. (told size is).0

-- what follows for each of all that the client went through
module _ (most : ℕ) (shelf : Option (List Object)) (tells : (circumstances : List Circumstance) (news : News) → TellsSizeOf shelf circumstances news → TellsAtMost most circumstances news) where
  pub all_tell : (feeds : List Feed) → AllByRecursion (AnswersOf shelf) feeds → AllByRecursion (BeginsAtMost most) feeds
  all_tell [] all = tt
  all_tell (Gifts circumstances ∷ feeds) all = (tt, all_tell feeds all.1)
  all_tell (Learns circumstances news ∷ feeds) all = (tells circumstances news all.0, all_tell feeds all.1)
  all_tell (Receives own psm sdu ∷ feeds) all = (tt, all_tell feeds all.1)
  all_tell (Happens event v ∷ feeds) all = (tt, all_tell feeds all.1)
  all_tell (Sent v ∷ feeds) all = (tt, all_tell feeds all.1)
  all_tell (Steps v ∷ feeds) all = (tt, all_tell feeds all.1)

-- no length that it told is longer than a client can push
pub none_longer : (shelf : Option (List Object)) (feeds : List Feed) → AllByRecursion (AnswersOf shelf) feeds → AllByRecursion (BeginsAtMost longest_octets) feeds
none_longer shelf feeds all = all_tell longest_octets shelf (few_told shelf) feeds all

all_octets : (shelf : Option (List Object)) (excerpts : List Excerpt) → AllByRecursion (IsHeld shelf) excerpts → AllByRecursion (IsHeld None) excerpts
all_octets shelf [] all = tt
all_octets shelf (excerpt ∷ excerpts) all = (held_any shelf excerpt.name excerpt.at excerpt.answer all.0, all_octets shelf excerpts all.1)

pub gives_octets : (shelf : Option (List Object)) (feeds : List Feed) → AllByRecursion (AnswersOf shelf) feeds → AllByRecursion GivesOctets feeds
gives_octets shelf [] all = tt
gives_octets shelf (Gifts circumstances ∷ feeds) all = (all_octets shelf (parts_in circumstances) all.0, gives_octets shelf feeds all.1)
gives_octets shelf (Learns circumstances news ∷ feeds) all = (tt, gives_octets shelf feeds all.1)
gives_octets shelf (Receives own psm sdu ∷ feeds) all = (tt, gives_octets shelf feeds all.1)
gives_octets shelf (Happens event v ∷ feeds) all = (tt, gives_octets shelf feeds all.1)
gives_octets shelf (Sent v ∷ feeds) all = (tt, gives_octets shelf feeds all.1)
gives_octets shelf (Steps v ∷ feeds) all = (tt, gives_octets shelf feeds all.1)

-- ---- the inbox

pub all_answer : (Are : List Answer → Type 0) (feeds : List Feed) → AllByRecursion (λ (gift : List Circumstance). Are (answers_in gift)) (gifts_of feeds) → AllByRecursion (InboxAnswers Are) feeds
all_answer Are [] all = tt
all_answer Are (Gifts circumstances ∷ feeds) all = (all.0, all_answer Are feeds all.1)
all_answer Are (Learns circumstances news ∷ feeds) all = (tt, all_answer Are feeds all)
all_answer Are (Receives own psm sdu ∷ feeds) all = (tt, all_answer Are feeds all)
all_answer Are (Happens event v ∷ feeds) all = (tt, all_answer Are feeds all)
all_answer Are (Sent v ∷ feeds) all = (tt, all_answer Are feeds all)
all_answer Are (Steps v ∷ feeds) all = (tt, all_answer Are feeds all)
