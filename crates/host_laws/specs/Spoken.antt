-- Objects are read off what moved: what a host gave up, and what it said last, spells none (Core 5.1, Volume 3 Part A, 4.2 to 4.7).
use Rattle.std.specs.Prelude.{◌≡◌, ◌==◌, true, false, IfSome, List, [], ◌++◌}
use Rattle.std.specs.List.{AllByRecursion}
use Rattle.shelf_model.specs.capture.specs.Histories.{EachAfter}
use Rattle.shelf_model.specs.capture.specs.declared.flow.Flow.TheVariants.{Out}
use Rattle.push_laws.specs.link_talk.specs.declared.channel.Channel.{Channel}
use Rattle.push_laws.specs.link_talk.specs.declared.party.Party.{Party}
use Rattle.push_laws.specs.link_talk.specs.declared.call.Call.{Call}
use Rattle.push_laws.specs.link_talk.specs.Sayings.{Saying}
use Rattle.push_laws.specs.link_talk.specs.Senses.{sense}
use Rattle.push_laws.specs.link_talk.specs.Requests.{call, went}
use Rattle.push_laws.specs.link_talk.specs.Meanings.{meant}
use Rattle.push_laws.specs.link_talk.specs.Channels.{Entry, made_by, reading}
use Rattle.push_laws.specs.link_talk.specs.ObjectsHeard.{objects}
use Rattle.host_laws.specs.OverLinks.{GoesOut}
use Rattle.host_laws.specs.Seen.{spoken_of}

-- the host does not ask for a channel with it
abbrev pub AsksForNone : Saying → Type 0
AsksForNone saying = IfSome (call (sense saying)) (λ (one : Call). went Out one ≡ false)

-- another channel has another endpoint of the peer
abbrev pub IsApart : Channel → Entry → Type 0
IsApart channel entry = (entry.channel.peer == channel.peer) ≡ true → (entry.channel.own == channel.own) ≡ true

abbrev pub GrantsAnew : List Saying → Saying → Type 0
GrantsAnew past more = IfSome (made_by (meant (reading past).requests (sense more))) (λ (channel : Channel). AllByRecursion (IsApart channel) (reading past).entries)

-- A host that asks for no channel, and whose peer gives each of its endpoints to one channel.
pub record IsServed (moved : List Saying) : Type 0 where
  pub asks_for_none : AllByRecursion AsksForNone moved
  pub given_once : EachAfter GrantsAnew [] moved

-- The objects of its own talk are those of what moved, whatever it gave up, and whatever it let wait at the end.
abbrev pub ObjectsMove : Type 0
ObjectsMove = (party : Party) (said moved waits : List Saying) → spoken_of said ≡ moved ++ waits → AllByRecursion GoesOut waits → IsServed moved → objects party said ≡ objects party moved
