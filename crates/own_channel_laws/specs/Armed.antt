-- What a timer of a host finds on a link (Core 5.1, Volume 3 Part A, 4.1, 6.2 and 8.6).
use Rattle.std.specs.Prelude.{◌≡◌, ◌||◌, ◌&&◌, Bool, List}
use Rattle.std.specs.List.{list_any}
use Rattle.talk_laws.specs.link_talk.specs.declared.party.Party.{Party}
use Rattle.talk_laws.specs.link_talk.specs.Sayings.{Saying}
use Rattle.talk_laws.specs.link_talk.specs.Channels.{Entry, is_there, reading}
use Rattle.talk_laws.specs.link_talk.specs.Waits.{query_waits, waits}
use Rattle.channel_model.specs.Policies.{Policy}
use Rattle.channel_model.specs.Calls.{armed}
use Rattle.own_channel_laws.specs.Runs.{Occurrence, run_of}
use Rattle.own_channel_laws.specs.Sdus.{StatesFrame}
use Rattle.own_channel_laws.specs.Frames.{AreUttered}

-- a request for services waits on a channel that is there
abbrev pub asks_services : Party → List Saying → Entry → Bool
asks_services party said entry = is_there entry.life && query_waits party said entry.channel

abbrev pub services_wait : Party → List Saying → Bool
services_wait party said = list_any (asks_services party said) (reading said).entries

-- The channels of a host are armed exactly where its own talk says that something waits, but for requests for services, of
-- which they do not know.
abbrev pub ArmedIsWhatWaits : Type 0
ArmedIsWhatWaits = (policy : Policy) (party : Party) (list : List Occurrence) → StatesFrame policy party → AreUttered policy list
    → waits party (run_of policy list).said ≡ (armed (run_of policy list).value || services_wait party (run_of policy list).said)
