-- The air obeys the script, over the capture alone (this project's own).
use Rattle.std.specs.Prelude.{List, [], ◌++◌, Option}
use Rattle.radio_world.specs.bt_base.specs.declared.settings.Settings.{Settings}
use Rattle.radio_world.specs.bt_base.specs.Objects.{Contents}
use Rattle.radio_world.specs.push_script.specs.declared.scenario.Scenario.{Scenario}
use Rattle.radio_world.specs.push_terms.specs.declared.word.Word.{Word}
use Rattle.radio_world.specs.capture.specs.Air.{words_of}
use Rattle.radio_world.specs.capture.specs.Entries.{Entry}
use Rattle.radio_world.specs.capture.specs.Histories.{EachAfter}
use Rattle.host_laws.specs.link_talk.specs.Captures.{is_armed, is_checked_at}
use Rattle.radio_world.specs.radio_model.specs.Air.{Hosts, KeepsTo, Obeys}
use Rattle.host_laws.specs.world_model.specs.Worlds.{all_words}
use Rattle.scenario_laws.specs.Captures.{Ran, Finished}
use Rattle.scenario_laws.specs.Parties.{party_of}

-- what the capture says of timers and check words: what waits, and which channels have check words, on the link that is up
abbrev pub hosts_of : Settings → Hosts
hosts_of settings = record {
  armed = λ side past. is_armed (party_of settings side) side past;
  checks = λ side past own. is_checked_at side past own;
}

-- A scenario that ran to its end obeyed its script: what came into the hosts is what the words handed over, and words without an entry found
-- nothing to act on.
abbrev pub AirIsObeyed : Type 0
AirIsObeyed = (scenario : Scenario) (content : Option Contents) (capture : List Entry) → Finished scenario content capture → Obeys (hosts_of scenario.settings) scenario.acl_length (words_of scenario.script) capture

-- and wherever it broke off, each entry keeps to the words that were turned, whatever words are left
abbrev pub AirIsKept : Type 0
AirIsKept = (scenario : Scenario) (content : Option Contents) (capture : List Entry) (later : List Word) (ran : Ran scenario content capture)
    → EachAfter (KeepsTo (hosts_of scenario.settings) scenario.acl_length (all_words ran.happenings ++ later)) [] capture
