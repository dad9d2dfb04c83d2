-- Runs that broke off, over the capture alone (this project's own).
use Rattle.std.specs.Prelude.{◌≡◌, List, [], ◌∷◌, ◌++◌, Option, Some}
use Rattle.radio_world.specs.bt_base.specs.declared.settings.Transport.TheVariants.{L2cap}
use Rattle.radio_world.specs.bt_base.specs.Objects.{Object, Contents}
use Rattle.radio_world.specs.push_script.specs.declared.scenario.Scenario.{Scenario}
use Rattle.radio_world.specs.push_terms.specs.declared.word.Side.{Side}
use Rattle.radio_world.specs.push_terms.specs.declared.word.Side.TheVariants.{B}
use Rattle.radio_world.specs.capture.specs.Entries.{Entry}
use Rattle.host_laws.specs.link_talk.specs.Captures.{objects_heard}
use Rattle.host_laws.specs.link_talk.specs.declared.party.Party.{Party}
use Rattle.host_laws.specs.push_laws.specs.Laws.{stored_in}
use Rattle.host_laws.specs.Calls.{HostsAsk}
use Rattle.radio_world.specs.run_laws.specs.Breaking.{IsWritten}
use Rattle.host_laws.specs.turn_laws.specs.Laws.{IsFront}
use Rattle.host_laws.specs.world_model.specs.Worlds.{Happening, Does, entries_of, all_entries}
use Rattle.scenario_laws.specs.Captures.{client_of, server_of, BothHosts, Happened, Ran}
use Rattle.scenario_laws.specs.Gains.{holding, OrderlyServer}
use Rattle.scenario_laws.specs.Parties.{party_of}

-- what a front of a capture spells are the first objects that all of it spells
abbrev pub FrontsSpellFronts : Type 0
FrontsSpellFronts = (party : Party) (side : Side) (capture front : List Entry) → IsFront front capture → IsFront (objects_heard party side front) (objects_heard party side capture)

-- A run broke off where an entry was written, and nothing came of it yet or not all of it. The capture with that entry is the capture of a
-- run, which goes on from both hosts as they were.
pub record GoesOnAs (scenario : Scenario) (content : Option Contents) (happenings : List Happening) (world : BothHosts) (next : Happening) : Type 0 where
  pub new : BothHosts
  pub does : Does (client_of scenario) (server_of scenario content) next world new
  pub happened : Happened scenario content (happenings ++ next ∷ []) new
  pub ran : Ran scenario content (all_entries happenings ++ entries_of next)

abbrev pub BrokenGoesOn : Type 0
BrokenGoesOn = (scenario : Scenario) (content : Option Contents) (happenings : List Happening) (world : BothHosts) (next : Happening) → Happened scenario content happenings world
    → IsWritten (client_of scenario) (server_of scenario content) next world → GoesOnAs scenario content happenings world next

-- What the inbox had gained where a run broke off with an entry written: all that was spelled before, and so the first objects that the
-- capture spells with that entry.
pub record GainedSoFar (scenario : Scenario) (before : List Object) (happenings : List Happening) (world : BothHosts) (next : Happening) : Type 0 where
  pub gain : List Object
  pub stored : stored_in world.b.upper.profile.inbox.content ≡ Some (before ++ gain)
  pub all : gain ≡ objects_heard (party_of scenario.settings B) B (all_entries happenings)
  pub first : IsFront gain (objects_heard (party_of scenario.settings B) B (all_entries happenings ++ entries_of next))

abbrev pub EarlyEndsGain : Type 0
EarlyEndsGain = (asks : HostsAsk) (scenario : Scenario) (before : List Object) (happenings : List Happening) (world : BothHosts) (next : Happening) → Happened scenario (holding before) happenings world
    → scenario.settings.transport ≡ L2cap → OrderlyServer asks scenario.settings before (all_entries happenings) world.b.upper → GainedSoFar scenario before happenings world next
