-- Which pushes do not end as closed by their peer, against the words of a run (Core 5.1, Volume 2 Part D, 1.3, and Volume 3 Part A, 4.6 and 6.2.1; which words are adverse is this project's own).
use Rattle.std.specs.Prelude.{◌≡◌, ◌<◌, Bool, true, false, List, ◌++◌, Option}
use Rattle.std.specs.List.{AllByRecursion}
use Rattle.limit_laws.specs.pair_laws.specs.bt_base.specs.Objects.{Contents}
use Rattle.limit_laws.specs.pair_laws.specs.push_script.specs.declared.scenario.Scenario.{Scenario}
use Rattle.cause_laws.specs.push_terms.specs.declared.outcome.Outcome.{Outcome}
use Rattle.cause_laws.specs.push_terms.specs.declared.outcome.Outcome.TheVariants.{PeerClosed}
use Rattle.cause_laws.specs.capture.specs.Entries.{Entry, Ended}
use Rattle.cause_laws.specs.world_model.specs.Worlds.{Happening, all_words, all_entries}
use Rattle.cause_laws.specs.scenario_laws.specs.Captures.{client_of, BothHosts, Happened}
use Rattle.cause_laws.specs.radio_world.specs.Standing.{last_entries}
use Rattle.limit_laws.specs.pair_laws.specs.Costs.{adverse_in}

abbrev pub is_closed_by_peer : Outcome → Bool
is_closed_by_peer PeerClosed = true
is_closed_by_peer outcome = false

abbrev pub EndsByAnother : Entry → Type 0
EndsByAnother (Ended push outcome) = is_closed_by_peer outcome ≡ false
EndsByAnother entry = Unit {0}

-- no push of a capture ends as closed by its peer: the other host closed none of its channels, and did not end its link
abbrev pub PeersCloseNone : List Entry → Type 0
PeersCloseNone capture = AllByRecursion EndsByAnother capture

-- So it is of each run, over either transport, wherever it broke off, of which fewer words are adverse than its scenario has the hosts try, and whose client did not lack memory; and with the end of the
-- push that goes on behind it.
pub record FewWordsPartNone : Type 0 where
  pub moments : (scenario : Scenario) (content : Option Contents) (happenings : List Happening) (world : BothHosts) → Happened scenario content happenings world → adverse_in (all_words happenings) < scenario.settings.tries → world.a.upper.profile.client.failed ≡ false
      → PeersCloseNone (all_entries happenings)
  pub ends : (scenario : Scenario) (content : Option Contents) (happenings : List Happening) (world : BothHosts) → Happened scenario content happenings world → adverse_in (all_words happenings) < scenario.settings.tries → world.a.upper.profile.client.failed ≡ false
      → PeersCloseNone (all_entries happenings ++ last_entries ((client_of scenario).outcome world.a.upper) world.pushes)
