-- While few words of a run are adverse, its client ends no push since a limit was met, but by its own request.
use Rattle.std.proofs.Common.{◌<◌, List, [], Option, sym, append-nil}
use Rattle.cause_laws.specs.bt_base.specs.Objects.{Contents}
use Rattle.cause_laws.specs.push_script.specs.declared.scenario.Scenario.{Scenario}
use Rattle.cause_laws.specs.push_terms.specs.declared.word.Side.TheVariants.{A}
use Rattle.cause_laws.specs.world_model.specs.Worlds.{Happening, all_entries, all_words}
use Rattle.cause_laws.specs.host_model.specs.Clients.{ClientProfile, client_profile}
use Rattle.cause_laws.specs.host_model.specs.Profiles.{Profile}
use Rattle.cause_laws.specs.host_laws.proofs.Keeping.{servers_lend}
use Rattle.cause_laws.specs.host_laws.proofs.OverLinks.{fed_woven}
use Rattle.cause_laws.specs.scenario_laws.specs.Captures.{BothHosts, Happened, Ran}
use Rattle.limit_laws.specs.pair_laws.specs.Costs.{adverse_in, PairsCost, DisturbancesCostWords}
use Rattle.limit_laws.specs.pair_laws.specs.OnLinks.{LivedOver}
use Rattle.limit_laws.specs.pair_laws.proofs.Windows.{both_ask}
use Rattle.limit_laws.specs.Spares.{FewWordsLimitNone}
use Rattle.parting_laws.specs.Limits.{FewWordsLimitPush}
use Rattle.parting_laws.proofs.Deeds.{Spent}
use Rattle.parting_laws.proofs.Runs.{both_step, within_both}
use Rattle.parting_laws.proofs.Weaving.{links_spent}

module _ (costs : DisturbancesCostWords) (limit : FewWordsLimitNone) (scenario : Scenario) (content : Option Contents) (happenings : List Happening) (world : BothHosts) (happened : Happened scenario content happenings world) (few : adverse_in (all_words happenings) < scenario.settings.tries) where
  abbrev P : Profile ClientProfile
  P = client_profile scenario.settings

  abbrev ran : Ran scenario content (all_entries happenings)
  ran = record { happenings = happenings; world = world; happened = happened; ends = []; last = tt; capture_is = sym (append-nil (all_entries happenings)) }

  pairs : PairsCost both_ask scenario content (all_entries happenings) ran
  pairs = costs both_ask scenario content (all_entries happenings) ran

  abbrev a : LivedOver P (both_ask.clients scenario.settings) A (all_entries happenings) world.a.upper
  a = pairs.turns.pairs.a

  spent : Spent world.a.upper.profile.client
  spent =
      let lives = a.fed.so.lives in
      links_spent scenario.settings (both_ask.clients scenario.settings) (both_step scenario.settings) lives.spans lives.now P.first world.a.upper.profile lives.spans_told
      (λ k. limit both_ask scenario content (all_entries happenings) ran pairs within_both (both_step scenario.settings) (servers_lend scenario.settings content) few k)
      (fed_woven P (both_ask.clients scenario.settings) lives.spans lives.now lives.feeds P.first world.a.upper.profile a.fed.fed) (λ limits. cc)

pub few-words_limit_push : DisturbancesCostWords → FewWordsLimitNone → FewWordsLimitPush
few-words_limit_push costs limit scenario content happenings world happened few is = (spent costs limit scenario content happenings world happened few is).0
