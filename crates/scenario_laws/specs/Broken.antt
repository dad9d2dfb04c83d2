-- What is so of a scenario that broke off, over its capture so far alone (this project's own).
use Rattle.std.specs.Prelude.{◌≡◌, ◌||◌, true, List, [], ◌++◌, Option, Some}
use Rattle.radio_world.specs.bt_base.specs.declared.settings.Transport.TheVariants.{L2cap}
use Rattle.radio_world.specs.bt_base.specs.Objects.{Object, Contents}
use Rattle.radio_world.specs.push_script.specs.declared.scenario.Scenario.{Scenario}
use Rattle.radio_world.specs.push_terms.specs.declared.word.Side.TheVariants.{A, B}
use Rattle.radio_world.specs.push_terms.specs.declared.word.Word.{Word}
use Rattle.radio_world.specs.capture.specs.Air.{words_of}
use Rattle.radio_world.specs.capture.specs.Buffers.{KeepsWithin}
use Rattle.radio_world.specs.capture.specs.Entries.{Entry}
use Rattle.radio_world.specs.capture.specs.Histories.{EachAfter}
use Rattle.host_laws.specs.link_talk.specs.Captures.{objects_heard}
use Rattle.radio_world.specs.radio_model.specs.Air.{KeepsTo}
use Rattle.radio_world.specs.radio_model.specs.Course.{PushesInTurn}
use Rattle.radio_world.specs.radio_model.specs.Honest.{AreHonest}
use Rattle.radio_world.specs.radio_model.specs.Queues.{is_crowded}
use Rattle.host_laws.specs.air_laws.specs.Crowded.{IsCrowded}
use Rattle.host_laws.specs.push_laws.specs.Laws.{stored_in}
use Rattle.host_laws.specs.turn_laws.specs.Laws.{IsFront}
use Rattle.host_laws.specs.world_model.specs.Worlds.{Happening, all_entries, all_words}
use Rattle.host_laws.specs.Calls.{HostsAsk}
use Rattle.scenario_laws.specs.Air.{hosts_of}
use Rattle.scenario_laws.specs.Captures.{BothHosts, Happened, Ran}
use Rattle.scenario_laws.specs.Gains.{holding, OrderlyServer}
use Rattle.scenario_laws.specs.Parties.{party_of}

-- All that happened stands in `past`, and `capture` has the entry behind it as well, if one was begun. The inbox gained all objects that the
-- past spells, and so the first of those that the capture spells; the buffers of both controllers at each moment, honest controllers and the
-- pushes are as in a run that goes on; and each entry keeps to the words of the script.
pub record BrokeOff (scenario : Scenario) (before : List Object) (stored : Option (List Object)) (past capture : List Entry) : Type 0 where
  pub gain : List Object
  pub gained : stored ≡ Some (before ++ gain)
  pub all : gain ≡ objects_heard (party_of scenario.settings B) B past
  pub first : IsFront gain (objects_heard (party_of scenario.settings B) B capture)
  pub within_a : KeepsWithin A scenario.acl_count capture
  pub within_b : KeepsWithin B scenario.acl_count capture
  pub honest : AreHonest capture
  pub in_turn : PushesInTurn capture
  pub keeps : EachAfter (KeepsTo (hosts_of scenario.settings) scenario.acl_length (words_of scenario.script)) [] capture

-- So it is of every scenario over L2CAP that broke off so, where host b is orderly.
abbrev pub ScenariosBreakOff : Type 0
ScenariosBreakOff = (asks : HostsAsk) (scenario : Scenario) (before : List Object) (happenings : List Happening) (world : BothHosts) (next : List Entry) (later : List Word) → Happened scenario (holding before) happenings world
    → (ran : Ran scenario (holding before) (all_entries happenings ++ next)) → words_of scenario.script ≡ all_words ran.happenings ++ later → scenario.settings.transport ≡ L2cap
    → OrderlyServer asks scenario.settings before (all_entries happenings) world.b.upper
    → BrokeOff scenario before (stored_in world.b.upper.profile.inbox.content) (all_entries happenings) (all_entries happenings ++ next)

-- Where a run led to where more frames wait in a direction of the air, or more octets of them, than memory is reserved for, its capture says
-- so.
abbrev pub CrowdsAreTold : Type 0
CrowdsAreTold = (scenario : Scenario) (content : Option Contents) (happenings : List Happening) (world : BothHosts) → Happened scenario content happenings world
    → (is_crowded world.radio.a.waiting || is_crowded world.radio.b.waiting) ≡ true → IsCrowded (hosts_of scenario.settings) scenario.acl_length (all_entries happenings)
