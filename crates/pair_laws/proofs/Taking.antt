-- Each SDU that a host of a run has for a channel is one that its peer takes.
use Rattle.std.proofs.Common.{◌≡◌, ℕ, zero, suc, ◌≤◌, Bool, true, false, List, [], ◌∷◌, ◌++◌, map, length, get_or, Option, Some, None, refl, sym, ap, subst, ◌∙◌}
use Rattle.std.specs.Prelude.{not, ◌&&◌}
use Rattle.std.proofs.lemmas.Bool.{and_parts, leb-true}
use Rattle.std.proofs.lemmas.List.Sums.{fold-append}
use Rattle.scenario_laws.specs.bt_base.specs.Objects.{Contents}
use Rattle.scenario_laws.specs.bt_base.specs.declared.settings.Settings.{Settings}
use Rattle.scenario_laws.specs.capture.specs.Histories.{EachAfter}
use Rattle.channel_laws.specs.channel_model.specs.Calls.{peer_mtu, waits}
use Rattle.channel_laws.specs.channel_model.specs.Policies.{Policy}
use Rattle.channel_laws.specs.channel_model.specs.Value.{Channels, no_channels}
use Rattle.channel_laws.specs.Pipes.{IsTakeable}
use Rattle.channel_laws.specs.Runs.{Occurrence, Run, new_link, run_on, run_of, value_after}
use Rattle.scenario_laws.specs.push_model.specs.Payloads.{Payload}
use Rattle.scenario_laws.specs.push_model.specs.Server.{Lent, lends, lent_sdu}
use Rattle.scenario_laws.specs.push_model.specs.Steps.{Step, Wait, MakeLink, AskFeatures as AskForFeatures, OpenChannel, SendSdu, CloseChannel, BreakLink, Ended, NoMemory, steps}
use Rattle.scenario_laws.specs.host_model.specs.Clients.{ClientProfile, client_profile, fitted}
use Rattle.scenario_laws.specs.host_model.specs.Servers.{ServerProfile, server_profile}
use Rattle.scenario_laws.specs.host_model.specs.Endpoints.{endpoint_of, fits, takes_sdu}
use Rattle.scenario_laws.specs.host_model.specs.Pdus.{sdu_of}
use Rattle.scenario_laws.specs.host_model.specs.Profiles.{Profile}
use Rattle.host_laws.specs.Calls.{Call, Connect, AskFeatures, Disconnect, Send, Asks, from_call, values_after}
use Rattle.host_laws.specs.Lives.{Span}
use Rattle.host_laws.specs.Woven.{Strand, Hearing, Giving, Firing, Telling, Gifting, Learning, Checking, Stepping, strand_list, strand_profile, woven_list, Woven}
use Rattle.host_laws.specs.Feeds.{Feed}
use Rattle.host_laws.specs.Fed.{AreFed, behind_span}
use Rattle.scenario_laws.specs.host_model.specs.Pdus.{are_octets}
use Rattle.scenario_laws.specs.host_model.specs.Shelves.{unused}
use Rattle.host_laws.proofs.Asking.{send_if, sends_on, closes_on, asked, hosts_ask, clients_ask, clients-call, lent_call, servers-call}
use Rattle.pair_laws.specs.Pairs.{TakesAll}
use Rattle.pair_laws.proofs.Seeing.{all-damage_is_seen}
use Rattle.pair_laws.specs.Within.{SendsWithin, HostsSendWithin, PairsAreCarried}

-- ---- what a profile asks

within_most : (own most : ℕ) (sdu : List ℕ) (v : Channels) → takes_sdu own sdu v ≡ true → peer_mtu own v ≡ Some most → length sdu ≤ most
within_most own most sdu v taken is =
    let fit : fits (length sdu) (peer_mtu own v) ≡ true = (and_parts (fits (length sdu) (peer_mtu own v)) (not (waits own v)) (and_parts (fits (length sdu) (peer_mtu own v) && not (waits own v)) (are_octets sdu) taken).0).0 in
    leb-true (length sdu) most (subst (λ (mtu : Option ℕ). fits (length sdu) mtu ≡ true) is fit)

send_taken : (taken : Bool) (v : Channels) (channel own : ℕ) (payload : Payload) (sdu : List ℕ) → takes_sdu channel (sdu_of payload) v ≡ taken → send_if taken channel payload ≡ Some (Send own sdu) → takes_sdu own sdu v ≡ true
send_taken true v channel own payload sdu is sends = let one : channel ≡ own = cc in let two : sdu_of payload ≡ sdu = cc in ap (λ (n : ℕ). takes_sdu n sdu v) (sym one) ∙ (ap (λ (s : List ℕ). takes_sdu channel s v) (sym two) ∙ is)
send_taken false v channel own payload sdu is sends = cc

on_taken : (v : Channels) (found : Option ℕ) (own : ℕ) (payload : Payload) (sdu : List ℕ) → sends_on v payload found ≡ Some (Send own sdu) → takes_sdu own sdu v ≡ true
on_taken v None own payload sdu sends = cc
on_taken v (Some channel) own payload sdu sends = send_taken (takes_sdu channel (sdu_of payload) v) v channel own payload sdu refl sends

closes_none : (found : Option ℕ) (own : ℕ) (sdu : List ℕ) (v : Channels) → closes_on found ≡ Some (Send own sdu) → takes_sdu own sdu v ≡ true
closes_none None own sdu v is = cc
closes_none (Some channel) own sdu v is = cc

asked_taken : (step : Step) (v : Channels) (after : ClientProfile) (own : ℕ) (sdu : List ℕ) → asked step v after ≡ Some (Send own sdu) → takes_sdu own sdu v ≡ true
asked_taken Wait v after own sdu is = cc
asked_taken MakeLink v after own sdu is = cc
asked_taken AskForFeatures v after own sdu is = cc
asked_taken (OpenChannel psm) v after own sdu is = cc
asked_taken (SendSdu psm payload) v after own sdu is = on_taken v (endpoint_of psm after.endpoints) own payload sdu is
asked_taken (CloseChannel psm) v after own sdu is = closes_none (endpoint_of psm after.endpoints) own sdu v is
asked_taken BreakLink v after own sdu is = cc
asked_taken (Ended outcome) v after own sdu is = cc
asked_taken NoMemory v after own sdu is = cc

lent_taken : (lent : Option Lent) (v : Channels) (serving : ServerProfile) (own : ℕ) (sdu : List ℕ) → lent_call lent v serving ≡ Some (Send own sdu) → takes_sdu own sdu v ≡ true
lent_taken None v serving own sdu is = cc
lent_taken (Some lent) v serving own sdu is = on_taken v (endpoint_of lent.psm serving.endpoints) own lent.payload sdu is

pub clients_within : (settings : Settings) → SendsWithin (client_profile settings) (clients_ask settings)
clients_within settings v pushing own most sdu is mtu =
    let one = steps pushing.client (fitted pushing) in
    let after : ClientProfile = record pushing { client = one.client; parts = unused one.left pushing.parts } in
    within_most own most sdu v (asked_taken one.step v after own sdu (sym (clients-call settings v pushing) ∙ is)) mtu

pub servers_within : (settings : Settings) (content : Option Contents) → SendsWithin (server_profile settings content) (hosts_ask.servers settings content)
servers_within settings content v serving own most sdu is mtu = within_most own most sdu v (lent_taken (lent_sdu (lends serving.server)) v serving own sdu (sym (servers-call settings content v serving) ∙ is)) mtu

pub hosts-send_within : HostsSendWithin
hosts-send_within = record { asks = record { clients = clients_ask; servers = hosts_ask.servers }; within = record { clients = clients_within; servers = servers_within } }

-- ---- what happens on a link

abbrev TakesFrom : Policy → Channels → List Occurrence → Type 0
TakesFrom policy v [] = Unit {0}
TakesFrom policy v (one ∷ list) = IsTakeable one v × TakesFrom policy (value_after policy one v) list

takes_both : (policy : Policy) (v : Channels) (xs ys : List Occurrence) → TakesFrom policy v xs → TakesFrom policy (values_after policy v xs) ys → TakesFrom policy v (xs ++ ys)
takes_both policy v [] ys one two = two
takes_both policy v (x ∷ xs) ys one two = (one.0, takes_both policy (value_after policy x v) xs ys one.1 two)

later_takes : (policy : Policy) (past later : List Occurrence) → TakesFrom policy (run_of policy past).value later → EachAfter (λ front one. IsTakeable one (run_of policy front).value) past later
later_takes policy past [] takes = tt
later_takes policy past (more ∷ later) takes =
    let further : run_of policy (past ++ more ∷ []) ≡ run_on policy (run_of policy past) more = fold-append (run_on policy) new_link past (more ∷ []) in
    (takes.0, later_takes policy (past ++ more ∷ []) later (subst (λ (r : Run). TakesFrom policy r.value later) (sym further) takes.1))

module _ {P : Type 0} (A : Profile P) (asks : Asks A) (within : SendsWithin A asks) where
  call_takes : (call : Option Call) (v : Channels) (p : P) → asks.call v p ≡ call → TakesFrom A.policy v (from_call call)
  call_takes None v p is = tt
  call_takes (Some (Connect psm)) v p is = (tt, tt)
  call_takes (Some AskFeatures) v p is = (tt, tt)
  call_takes (Some (Disconnect own)) v p is = (tt, tt)
  call_takes (Some (Send own sdu)) v p is = (λ most mtu. within v p own most sdu is mtu, tt)

  strand_takes : (strand : Strand) (v : Channels) (p : P) → TakesFrom A.policy v (strand_list A asks strand v p)
  strand_takes (Hearing pdu) v p = (tt, tt)
  strand_takes (Giving pdu) v p = (tt, tt)
  strand_takes Firing v p = (tt, tt)
  strand_takes Telling v p = (tt, tt)
  strand_takes (Gifting circumstances) v p = tt
  strand_takes (Learning circumstances news) v p = tt
  strand_takes Checking v p = tt
  strand_takes Stepping v p = call_takes (asks.call v p) v p refl

  weave_takes : (weave : List Strand) (v : Channels) (p : P) → TakesFrom A.policy v (woven_list A asks weave v p)
  weave_takes [] v p = tt
  weave_takes (strand ∷ weave) v p =
      let here = strand_list A asks strand v p in
      let w = values_after A.policy v here in
      let q = strand_profile A strand v p in
      takes_both A.policy v here (woven_list A asks weave w q) (strand_takes strand v p) (weave_takes weave w q)

  woven_takes : (list : List Occurrence) (first last : P) → Woven A asks list first last → TakesAll A.policy list
  woven_takes list first last woven = later_takes A.policy [] list (subst (TakesFrom A.policy no_channels) (sym woven.list_is) (weave_takes woven.weave no_channels first))

  all_take : (spans : List Span) (now : List Occurrence) (feeds : List Feed) (first last : P) (number : ℕ) → AreFed A asks spans now feeds first last → TakesAll A.policy (get_or (map (λ (span : Span). span.list) spans ++ now ∷ []) number [])
  all_take [] now feeds first last zero fed = woven_takes now first last fed.woven
  all_take [] now feeds first last (suc number) fed = tt
  all_take (span ∷ spans) now feeds first last zero (fed, later, is, rest) = woven_takes span.list first fed.mid fed.so.woven
  all_take (span ∷ spans) now feeds first last (suc number) (fed, later, is, rest) = all_take spans now later (behind_span A asks span first fed) last number rest

pub pairs-are_carried : PairsAreCarried
pairs-are_carried asks scenario content capture ran pairs within number =
    let client = client_profile scenario.settings in
    let server = server_profile scenario.settings content in
    let a = pairs.a.fed in
    let b = pairs.b.fed in
    let pair = pairs.pairs number in
    pair.carried
    (all_take client (asks.clients scenario.settings) (within.clients scenario.settings) a.so.lives.spans a.so.lives.now a.so.lives.feeds client.first ran.world.a.upper.profile number a.fed)
    (all_take server (asks.servers scenario.settings content) (within.servers scenario.settings content) b.so.lives.spans b.so.lives.now b.so.lives.feeds server.first ran.world.b.upper.profile number b.fed)
    (all-damage_is_seen client.policy server.policy pair.turns (λ psm. refl) pair.fair pair.read pair.changes pair.addressed)
