-- On each link of a run over RFCOMM one channel alone carries packets at host b.
use Rattle.std.proofs.Common.{◌≡◌, ℕ, List, [], true, Option, subst}
use Rattle.std.specs.Prelude.{get_or}
use Rattle.std.specs.List.{AllByRecursion}
use Rattle.inbox_laws.specs.bt_base.specs.Objects.{Contents}
use Rattle.inbox_laws.specs.bt_base.specs.declared.settings.Transport.{Transport}
use Rattle.inbox_laws.specs.bt_base.specs.declared.settings.Transport.TheVariants.{Rfcomm}
use Rattle.inbox_laws.specs.push_script.specs.declared.scenario.Scenario.{Scenario}
use Rattle.inbox_laws.specs.push_terms.specs.declared.word.Side.TheVariants as sides
use Rattle.inbox_laws.specs.capture.specs.Entries.{Entry}
use Rattle.inbox_laws.specs.push_model.specs.Server.{rfcomm_psm}
use Rattle.inbox_laws.specs.channel_model.specs.Policies.{policy}
use Rattle.inbox_laws.specs.host_model.specs.Servers.{server_profile}
use Rattle.inbox_laws.specs.host_laws.specs.OneOnLinks.{packets_psm, CarriesOneOn}
use Rattle.inbox_laws.specs.host_laws.proofs.Asking.{hosts_ask}
use Rattle.inbox_laws.specs.host_laws.proofs.InOrder.{asks-nothing}
use Rattle.inbox_laws.specs.scenario_laws.specs.Captures.{Ran}
use Rattle.inbox_laws.specs.scenario_laws.proofs.Alone.{runs-carry_alone}
use Rattle.inbox_laws.specs.pair_laws.specs.OnLinks.{LivedOver}
use Rattle.request_laws.proofs.AlongStreams.{at_place, none_carry}
use Rattle.request_laws.proofs.Paired.{lists_of}

pub all_alone : (scenario : Scenario) (content : Option Contents) (capture : List Entry) (ran : Ran scenario content capture) (b : LivedOver (server_profile scenario.settings content) (hosts_ask.servers scenario.settings content) sides.B capture ran.world.b.upper)
    → scenario.settings.transport ≡ Rfcomm → (number : ℕ) → CarriesOneOn rfcomm_psm (policy scenario.settings true) (get_or (lists_of b.fed.so.lives.spans b.fed.so.lives.now) number [])
all_alone scenario content capture ran b muxed number =
    let wanted = policy scenario.settings true in
    let lists = lists_of b.fed.so.lives.spans b.fed.so.lives.now in
    let alone = runs-carry_alone scenario content capture ran (hosts_ask.servers scenario.settings content) b.came b.fed.so (asks-nothing scenario.settings content) in
    at_place (CarriesOneOn rfcomm_psm wanted) (none_carry rfcomm_psm wanted) lists (subst (λ (T : Transport). AllByRecursion (CarriesOneOn (packets_psm T) wanted) lists) muxed alone) number
