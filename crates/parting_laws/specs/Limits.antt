-- Which pushes do not end since a limit was met, against the words of a run (Core 5.1, Volume 3 Part A, 4.6, 6.2.1 and 8.6.5; which words are adverse is this project's own).
use Rattle.std.specs.Prelude.{◌≡◌, ◌<◌, List, Option, Some}
use Rattle.limit_laws.specs.pair_laws.specs.bt_base.specs.Objects.{Contents}
use Rattle.limit_laws.specs.pair_laws.specs.push_script.specs.declared.scenario.Scenario.{Scenario}
use Rattle.cause_laws.specs.push_terms.specs.declared.outcome.Outcome.TheVariants.{RetryLimit}
use Rattle.cause_laws.specs.world_model.specs.Worlds.{Happening, all_words}
use Rattle.cause_laws.specs.scenario_laws.specs.Captures.{client_of, BothHosts, Happened}
use Rattle.limit_laws.specs.pair_laws.specs.Costs.{adverse_in}

-- At each moment of each run, over either transport, of which fewer words are adverse than its scenario has the hosts try: where its push ends since a limit was met, this is the one of its client's own
-- request to the service records, which it may not send any more. No channel, no request for one, for its options or its end, and no question for the features met one.
abbrev pub FewWordsLimitPush : Type 0
FewWordsLimitPush = (scenario : Scenario) (content : Option Contents) (happenings : List Happening) (world : BothHosts) → Happened scenario content happenings world → adverse_in (all_words happenings) < scenario.settings.tries
    → (client_of scenario).outcome world.a.upper ≡ Some RetryLimit → world.a.upper.profile.client.left ≡ 0
