-- In what mode both hosts of a run have the channel of the object over L2CAP, over its capture (Core 5.1, Volume 3 Part A, 5.4 and 7.1).
use Rattle.std.specs.Prelude.{ℕ, ◌≡◌, true, List, Option, Some}
use Rattle.std.specs.List.{AllByRecursion}
use Rattle.scenario_laws.specs.bt_base.specs.Objects.{Contents}
use Rattle.scenario_laws.specs.push_script.specs.declared.scenario.Scenario.{Scenario}
use Rattle.scenario_laws.specs.push_terms.specs.declared.word.Side.{Side}
use Rattle.scenario_laws.specs.capture.specs.Entries.{Entry}
use Rattle.scenario_laws.specs.l2cap_config.specs.declared.wish.Mode.TheVariants.{Enhanced}
use Rattle.scenario_laws.specs.link_talk.specs.Captures.{talks}
use Rattle.scenario_laws.specs.link_talk.specs.Channels.{Entry as Known, reading}
use Rattle.scenario_laws.specs.link_talk.specs.Packets.{carrier, OverL2cap}
use Rattle.scenario_laws.specs.link_talk.specs.Sayings.{Saying}
use Rattle.scenario_laws.specs.link_talk.specs.Setups.{is_set}
use Rattle.channel_laws.specs.Views.{read_at}
use Rattle.scenario_laws.specs.Captures.{Ran}

-- Of each channel of a talk that carries objects over L2CAP and that opened, its host accepted a request of the peer for enhanced mode, and no other one.
abbrev pub AcceptsEnhanced : List Saying → Type 0
AcceptsEnhanced said = (own : ℕ) (entry : Known) → read_at own (reading said).entries ≡ Some entry → is_set entry.setup ≡ true → carrier entry.channel.psm ≡ OverL2cap → entry.setup.accepted ≡ Some Enhanced

-- Both hosts do so on each of their links: what the one accepted is what the other asked for, so the channel is enhanced on both sides.
abbrev pub AreEnhanced : List Entry → Type 0
AreEnhanced capture = (side : Side) → AllByRecursion AcceptsEnhanced (talks side capture)

-- So it is in each run, wherever it broke off and whatever its ports answered: also on channels that were closed, and where requests were given up.
abbrev pub RunsAreEnhanced : Type 0
RunsAreEnhanced = (scenario : Scenario) (content : Option Contents) (capture : List Entry) → Ran scenario content capture → AreEnhanced capture
