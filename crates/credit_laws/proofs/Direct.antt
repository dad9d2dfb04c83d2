-- Over L2CAP no link of host b has a channel of RFCOMM, so it holds no credits.
use Rattle.std.proofs.Common.{◌≡◌, ◌==◌, Bool, true, false, List, [], ◌∷◌, Option, refl, sym, ap, subst, ◌∙◌}
use Rattle.std.specs.List.{AllByRecursion}
use Rattle.inbox_laws.specs.bt_base.specs.Objects.{Contents}
use Rattle.inbox_laws.specs.bt_base.specs.declared.settings.Transport.{Transport}
use Rattle.inbox_laws.specs.bt_base.specs.declared.settings.Transport.TheVariants.{L2cap}
use Rattle.inbox_laws.specs.push_script.specs.declared.scenario.Scenario.{Scenario}
use Rattle.inbox_laws.specs.push_terms.specs.declared.word.Side.TheVariants.{B}
use Rattle.inbox_laws.specs.capture.specs.Entries.{Entry}
use Rattle.inbox_laws.specs.link_talk.specs.Channels.{Entry as Known, reading}
use Rattle.inbox_laws.specs.link_talk.specs.declared.channel.Channel.{Channel}
use Rattle.inbox_laws.specs.link_talk.specs.declared.party.Party.{Party}
use Rattle.inbox_laws.specs.link_talk.specs.Sayings.{Saying}
use Rattle.inbox_laws.specs.channel_model.specs.Policies.{Policy, policy}
use Rattle.inbox_laws.specs.channel_laws.specs.Runs.{Occurrence, run_of}
use Rattle.inbox_laws.specs.push_model.specs.Server.{object_psm}
use Rattle.inbox_laws.specs.host_laws.specs.OneCarrier.{IsFor}
use Rattle.inbox_laws.specs.host_laws.specs.OneOnLinks.{packets_psm, CarriesOneOn}
use Rattle.inbox_laws.specs.host_laws.proofs.Asking.{hosts_ask}
use Rattle.inbox_laws.specs.host_laws.proofs.InOrder.{asks-nothing}
use Rattle.request_laws.proofs.Paired.{lists_of}
use Rattle.inbox_laws.specs.scenario_laws.specs.Captures.{Ran}
use Rattle.inbox_laws.specs.scenario_laws.specs.Parties.{party_of}
use Rattle.inbox_laws.specs.scenario_laws.proofs.Alone.{runs-carry_alone}
use Rattle.inbox_laws.specs.pair_laws.proofs.Pairing.{hosts-are_pairs}
use Rattle.credit_laws.specs.Kept.{IsSolvent}
use Rattle.credit_laws.specs.Seen.{IsCoveredOn, AreCovered}
use Rattle.credit_laws.proofs.Landing.{capture_holds}

-- where the one channel that carries packets is of objects, none is of RFCOMM
none_muxed : (party : Party) (said : List Saying) (channel : Channel) (known : List Known) → channel.psm ≡ object_psm → AllByRecursion (λ (entry : Known). IsFor channel entry.channel) known
    → AllByRecursion (λ (entry : Known). entry.channel.psm ≡ 0x0003 → IsCoveredOn party entry.channel said) known
none_muxed party said channel [] object alone = tt
none_muxed party said channel (entry ∷ known) object alone = (by (entry.channel.own == channel.own) refl, none_muxed party said channel known object alone.1)
  where
    by : (b : Bool) → (entry.channel.own == channel.own) ≡ b → entry.channel.psm ≡ 0x0003 → IsCoveredOn party entry.channel said
    by true is psm = absurd (let same = ap (λ (c : Channel). c.psm) (alone.0.same is) in let none : object_psm ≡ 0x0003 = sym object ∙ sym same ∙ psm in cc)
    by false is psm = absurd ((alone.0.aside is).1 psm)

lists_covered : (party : Party) (policy : Policy) (lists : List (List Occurrence)) → AllByRecursion (CarriesOneOn object_psm policy) lists → AllByRecursion (λ (list : List Occurrence). AreCovered party (run_of policy list).said) lists
lists_covered party policy [] alone = tt
lists_covered party policy (list ∷ lists) alone =
    let said = (run_of policy list).said in (none_muxed party said alone.0.channel (reading said).entries alone.0.psm_is alone.0.alone, lists_covered party policy lists alone.1)

pub direct_solvent : (scenario : Scenario) (content : Option Contents) (capture : List Entry) (ran : Ran scenario content capture) → scenario.settings.transport ≡ L2cap → IsSolvent scenario.settings B capture
direct_solvent scenario content capture ran direct =
    let settings = scenario.settings in
    let asks = hosts_ask.servers settings content in
    let wanted = policy settings true in
    let b = (hosts-are_pairs hosts_ask scenario content capture ran).b in
    let lives = b.fed.so.lives in
    let nothing = asks-nothing settings content in
    let alone = runs-carry_alone scenario content capture ran asks b.came b.fed.so nothing in
    capture_holds scenario content capture ran asks b nothing
    (lists_covered (party_of settings B) wanted (lists_of lives.spans lives.now) (subst (λ (T : Transport). AllByRecursion (CarriesOneOn (packets_psm T) wanted) (lists_of lives.spans lives.now)) direct alone))
