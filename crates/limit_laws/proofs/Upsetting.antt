-- Turns that upset are paid by adverse words, and machines withstand fewer of them than their hosts try.
use Rattle.std.proofs.Common.{◌≡◌, ℕ, ◌<◌, arith, List, [], ◌++◌, Bool, true, false, cond, eqb, Some, refl, ap, subst, ◌∙◌}
use Rattle.pair_laws.specs.bt_base.specs.declared.settings.Settings.{Settings}
use Rattle.pair_laws.specs.capture.specs.Histories.{EachAfter}
use Rattle.pair_laws.specs.ertm_model.specs.Giving.{timed}
use Rattle.pair_laws.specs.ertm_model.specs.Value.{Ertm}
use Rattle.pair_laws.specs.l2cap_config.specs.declared.wish.Agreed.{Agreed}
use Rattle.pair_laws.specs.l2cap_config.specs.declared.wish.Mode.TheVariants.{Basic}
use Rattle.pair_laws.specs.l2cap_config.specs.declared.wish.Wish.{Wish}
use Rattle.channel_laws.specs.channel_model.specs.Calls.{carrier_at}
use Rattle.channel_laws.specs.channel_model.specs.Carrying.{machine_heard, read_by}
use Rattle.channel_laws.specs.channel_model.specs.Policies.{Policy, enhanced_wish, wished}
use Rattle.channel_laws.specs.channel_model.specs.Value.{Retransmitting}
use Rattle.channel_laws.specs.Agreements.{AgreementsAreOnHeard}
use Rattle.channel_laws.specs.Belonging.{IsRead}
use Rattle.channel_laws.specs.Ends.{DoesSo, end_at}
use Rattle.channel_laws.specs.Frames.{IsUttered}
use Rattle.channel_laws.specs.Pairs.{End, Turn, new_pair, pair_of, IsRunOf}
use Rattle.channel_laws.specs.Pipes.{IsCarried}
use Rattle.channel_laws.specs.Runs.{Run}
use Rattle.channel_laws.proofs.Mating.{front-each}
use Rattle.channel_laws.proofs.Pairing.{each-end_runs}
use Rattle.recovered_laws.specs.Calm.{SettledUpsetNoMore, all_upsets}
use Rattle.recovered_laws.specs.Paid.{IsPaid, EndIsPaid, MachinesArePaid}
use Rattle.pair_laws.specs.host_model.specs.Clients.{client_profile}
use Rattle.pair_laws.specs.host_model.specs.Servers.{server_profile}
use Rattle.pair_laws.specs.Within.{PairsAreCarried}
use Rattle.pair_laws.proofs.Whole.{both_can}
use Rattle.staying_laws.specs.forgoing_laws.specs.lasting_laws.proofs.Machines.{upsets-ahead, none-closes}
use Rattle.limit_laws.specs.Upsets.{UpsetsCostWords, EndOutlasts, MachinesOutlastWords}

pub upsets-cost_words : SettledUpsetNoMore → UpsetsCostWords
upsets-cost_words settled asks scenario content capture ran pairs number =
    let less = settled (client_profile scenario.settings).policy (server_profile scenario.settings content).policy (pairs.turns.pairs.pairs number).turns (pairs.settled number) in
    let few = pairs.cost number in
    omega (arith, less, few)

-- ---- how often a machine tries

pub wishes-tries : (settings : Settings) (psm : ℕ) → (wished settings psm).tries ≡ settings.tries
wishes-tries settings psm = by (eqb psm 0x0001) (eqb psm 0x0003)
  where
    by : (services rfcomm : Bool) → (let wish : Wish = cond services (record (enhanced_wish settings) { mode = Basic; mtu = 672 }) (cond rfcomm (record (enhanced_wish settings) { mode = Basic }) (enhanced_wish settings)) in wish.tries ≡ settings.tries)
    by true rfcomm = refl
    by false true = refl
    by false false = refl

machine_tries : AgreementsAreOnHeard → (settings : Settings) (policy : Policy) → policy.wish ≡ wished settings → (run : Run) → IsRunOf policy run → (own : ℕ) (m : Ertm) → carrier_at own run.value ≡ Some (Retransmitting m) → m.agreed.tries ≡ settings.tries
machine_tries heard settings policy wishes run (list, is) own m carries =
    let (channel, is_of, mode, by) = heard policy list own (Retransmitting m) (subst (λ (r : Run). carrier_at own r.value ≡ Some (Retransmitting m)) is carries) in
    ap (λ (a : Agreed). a.tries) by.agreed_is ∙ (ap (λ (w : ℕ → Wish). (w channel.psm).tries) wishes ∙ wishes-tries settings channel.psm)

-- ---- what is paid for closes nothing

end_outlasts : (own : ℕ) (end' : End) (wrong tries : ℕ) → wrong < tries → ((m : Ertm) → carrier_at own end'.run.value ≡ Some (Retransmitting m) → m.agreed.tries ≡ tries) → EndIsPaid wrong own end' → EndOutlasts own end'
end_outlasts own end' wrong tries few alike paid m carries =
    let it : IsPaid wrong own end'.coming m = paid m carries in
    let tries_are = alike m carries in
    let less : wrong < m.agreed.tries = omega (arith, tries_are, few) in
    record {
      timer = none-closes (timed m).closed m.agreed.tries wrong less it.at_timer;
      frame = λ pdu behind is here. none-closes (machine_heard (read_by m pdu) m).closed m.agreed.tries wrong less (λ reason closes. it.at_frame pdu behind reason is here closes);
    }

-- what is so at each turn was so ahead of a moment
each_ahead : (P : List Turn → Turn → Type 0) (turns past later : List Turn) → turns ≡ past ++ later → EachAfter P [] turns → EachAfter P [] past
each_ahead P turns past later is each = front-each P [] past later (subst (EachAfter P []) is each)

pub machines-outlast_words : UpsetsCostWords → PairsAreCarried → MachinesArePaid → AgreementsAreOnHeard → MachinesOutlastWords
machines-outlast_words upsets carried paid heard asks scenario content capture ran pairs within few number past later is channel have there beyond =
    let near : Policy = (client_profile scenario.settings).policy in
    let far : Policy = (server_profile scenario.settings content).policy in
    let link = pairs.turns.pairs.pairs number in
    let ahead = upsets-ahead (new_pair near far) past later in
    let same : all_upsets (new_pair near far) link.turns ≡ all_upsets (new_pair near far) (past ++ later) = ap (all_upsets (new_pair near far)) is in
    let most = upsets asks scenario content capture ran pairs number in
    let less : all_upsets (new_pair near far) past < scenario.settings.tries = omega (arith, ahead, same, most, few) in
    let both = paid near far past channel
    (each_ahead (λ front turn. DoesSo IsUttered turn.happening (end_at turn.side (pair_of near far front))) link.turns past later is link.fair)
    (each_ahead (λ front turn. IsRead turn.happening (end_at turn.side (pair_of near far front))) link.turns past later is link.read)
    (each_ahead (λ front turn. IsCarried turn.happening (end_at turn.side (pair_of near far front))) link.turns past later is (carried asks scenario content capture ran pairs.turns.pairs within number))
    have (both_can scenario.settings channel.psm) there beyond in
    let runs = each-end_runs near far past in (
      end_outlasts channel.own (pair_of near far past).near (all_upsets (new_pair near far) past) scenario.settings.tries less (machine_tries heard scenario.settings near refl (pair_of near far past).near.run runs.0 channel.own) both.0,
      end_outlasts channel.peer (pair_of near far past).far (all_upsets (new_pair near far) past) scenario.settings.tries less (machine_tries heard scenario.settings far refl (pair_of near far past).far.run runs.1 channel.peer) both.1,
    )
