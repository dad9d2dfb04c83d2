-- Along the turns of a pair that keeps its order the channels of the multiplexers are pipes.
use Rattle.std.proofs.Common.{◌≡◌, ℕ, true, false, zero, suc, List, [], ◌∷◌, ◌++◌, Option, refl, sym, ap, subst, ◌∙◌, inl, inr, append_assoc, append-nil}
use Rattle.std.specs.Prelude.{get_or}
use Rattle.std.specs.List.{AllByRecursion, flat_map}
use Rattle.std.proofs.lemmas.List.Concat.{flat_map-append}
use Rattle.pair_laws.specs.bt_base.specs.declared.settings.Settings.{Settings}
use Rattle.pair_laws.specs.bt_base.specs.declared.settings.Transport.TheVariants.{Rfcomm}
use Rattle.pair_laws.specs.bt_base.specs.Objects.{Contents, Object}
use Rattle.pair_laws.specs.push_terms.specs.declared.word.Side.TheVariants as sides
use Rattle.pair_laws.specs.push_script.specs.declared.scenario.Scenario.{Scenario}
use Rattle.pair_laws.specs.capture.specs.Entries.{Entry}
use Rattle.pair_laws.specs.capture.specs.Histories.{EachAfter}
use Rattle.pair_laws.specs.l2cap_config.specs.declared.wish.Mode.TheVariants.{Basic}
use Rattle.pair_laws.specs.link_talk.specs.Channels.{reading}
use Rattle.pair_laws.specs.channel_model.specs.Policies.{Policy, policy}
use Rattle.pair_laws.specs.channel_laws.specs.Belonging.{IsRead}
use Rattle.pair_laws.specs.channel_laws.specs.Common.{mirrored}
use Rattle.pair_laws.specs.channel_laws.specs.Delivered.{IsRunBy}
use Rattle.pair_laws.specs.channel_laws.specs.Endpoints.{IsOf}
use Rattle.pair_laws.specs.channel_laws.specs.Ends.{end_at}
use Rattle.pair_laws.specs.channel_laws.specs.Frames.{AreUttered}
use Rattle.pair_laws.specs.channel_laws.specs.Pairs.{Turn, new_pair, pair_of}
use Rattle.pair_laws.specs.channel_laws.specs.Pipes.{HaveChannel, IsFront}
use Rattle.pair_laws.specs.channel_laws.specs.Runs.{Occurrence, Run, run_of, sdus_up}
use Rattle.pair_laws.specs.channel_laws.specs.Taken.{taken_of}
use Rattle.pair_laws.specs.channel_laws.specs.Views.{read_at}
use Rattle.pair_laws.specs.push_model.specs.Server.{rfcomm_psm}
use Rattle.pair_laws.specs.push_laws.specs.Parties.{IsFrontOf}
use Rattle.pair_laws.specs.host_model.specs.Clients.{ClientProfile, client_profile}
use Rattle.pair_laws.specs.host_model.specs.Servers.{ServerProfile, server_profile}
use Rattle.pair_laws.specs.host_laws.specs.Lives.{on_links}
use Rattle.pair_laws.specs.host_laws.specs.OneCarrier.{CarriesAlone}
use Rattle.pair_laws.specs.host_laws.specs.OneOnLinks.{packets_psm, CarriesOneOn}
use Rattle.pair_laws.specs.host_laws.specs.OverLinks.{talk_marks}
use Rattle.pair_laws.specs.host_laws.specs.Woven.{strand_list}
use Rattle.pair_laws.specs.host_laws.proofs.Asking.{clients_ask, hosts_ask}
use Rattle.pair_laws.specs.host_laws.proofs.InOrder.{asks-nothing}
use Rattle.pair_laws.specs.scenario_laws.specs.Captures.{Ran}
use Rattle.pair_laws.specs.scenario_laws.specs.Gains.{holding, serving, asked_by}
use Rattle.pair_laws.specs.scenario_laws.proofs.Alone.{runs-carry_alone}
use Rattle.pair_laws.specs.Keeping.{PairsKeepOrder}
use Rattle.pair_laws.specs.Fronts.{IsFrontOfTurns}
use Rattle.pair_laws.specs.OnLinks.{happened_on}
use Rattle.pair_laws.specs.Orders.{Joint, near_in, far_in, joints_from}
use Rattle.pair_laws.specs.Pairs.{PairOnLink}
use Rattle.pair_laws.specs.PlainPipes.{IsPlainPipe, ArePlainPipes}
use Rattle.pair_laws.specs.Within.{BothSendWithin}
use Rattle.pair_laws.proofs.Facing.{each_split}
use Rattle.pair_laws.proofs.Fronts.{fronts-are_run}
use Rattle.pair_laws.proofs.PlainPipes.{plain-pairs_are_pipes}
use Rattle.pair_laws.proofs.Taking.{clients_within, servers_within}
use Rattle.request_laws.specs.BothFed.{over_stored}
use Rattle.request_laws.specs.HandedUp.{handed_for}
use Rattle.request_laws.specs.Joined.{joints_of}
use Rattle.request_laws.specs.MuxPipes.{StaysOn, MultiplexersArePiped}
use Rattle.request_laws.specs.Streams.{taken_at, Streams, no_streams, streams_after, AreStreams, AllStayStreams}
use Rattle.request_laws.specs.Twists.{Twist, AtClient, AtServer, of_client, of_server, Both, new_both, both_after}
use Rattle.request_laws.proofs.ClientTakes.{took, took-is}
use Rattle.request_laws.proofs.HandedUp.{ups_of, handed_from, handed_both, strand_come}
use Rattle.request_laws.proofs.ServerTakes.{goes_by, went, went-is}
use Rattle.request_laws.proofs.Sole.{Moment, CarriesPackets, far-agrees, RequestsCome, requests-come, ResponsesCome, responses-come, asked-agrees}
use Rattle.request_laws.proofs.Summing.{both_ask, asking, near_list, far_list, behind, joints-both, near-joints, far-joints, strand_hears}

-- ---- what was carried up to a moment

further : (before here mid rest after : List (List ℕ)) → mid ≡ before ++ here → after ≡ mid ++ rest → after ≡ before ++ (here ++ rest)
further before here mid rest after one two = two ∙ (ap (λ (l : List (List ℕ)). l ++ rest) one ∙ append_assoc before here rest)

module _ (carrier : ℕ) (settings : Settings) (content : Option Contents) where
  abbrev pub streams_all : List Twist → Both → Streams → Streams
  streams_all [] both s = s
  streams_all (twist ∷ twists) both s = streams_all twists (both_after (asking settings content) twist both) (streams_after carrier (asking settings content) twist both s)

  stay-streams : (twists : List Twist) (both : Both) (s : Streams) → ((front rest : List Twist) → twists ≡ front ++ rest → AreStreams (streams_all front both s)) → AllStayStreams carrier (asking settings content) twists both s
  stay-streams [] both s each = tt
  stay-streams (twist ∷ twists) both s each = (
    each (twist ∷ []) twists refl,
    stay-streams twists (both_after (asking settings content) twist both) (streams_after carrier (asking settings content) twist both s) (λ front rest is. each (twist ∷ front) rest (ap (λ (l : List Twist). twist ∷ l) is)),
  )

  pub record Sums (twists : List Twist) (both : Both) (before after : Streams) : Type 0 where
    pub taken : after.taken ≡ before.taken ++ took carrier settings (flat_map of_client twists) both.near both.client
    pub come : after.come ≡ before.come ++ handed_from carrier (policy settings true) both.far (far_list settings content twists both)
    pub gone : after.gone ≡ before.gone ++ went carrier settings content (flat_map of_server twists) both.far both.server
    pub heard : after.heard ≡ before.heard ++ handed_from carrier (policy settings false) both.near (near_list settings content twists both)

  pub sums : (twists : List Twist) (both : Both) (s : Streams) → Sums twists both s (streams_all twists both s)
  sums [] both s = record { taken = sym (append-nil s.taken); come = sym (append-nil s.come); gone = sym (append-nil s.gone); heard = sym (append-nil s.heard) }
  sums (AtClient strand ∷ twists) both s =
      let next = both_after (asking settings content) (AtClient strand) both in
      let mid = streams_after carrier (asking settings content) (AtClient strand) both s in
      let last = streams_all twists next mid in
      let rest = sums twists next mid in
      let here = strand_list (client_profile settings) (clients_ask settings) strand both.near both.client in
      record {
        taken = rest.taken ∙ append_assoc s.taken (taken_at carrier strand both.near both.client) (took carrier settings (flat_map of_client twists) next.near next.client);
        come = rest.come;
        gone = rest.gone;
        heard = further s.heard (handed_from carrier (policy settings false) both.near here) mid.heard (handed_from carrier (policy settings false) next.near (near_list settings content twists next)) last.heard
            (ap (λ (l : List (List ℕ)). s.heard ++ l) (strand_hears settings content carrier strand both.near both.client)) rest.heard
            ∙ ap (λ (l : List (List ℕ)). s.heard ++ l) (sym (handed_both carrier (policy settings false) here (near_list settings content twists next) both.near));
      }
  sums (AtServer strand ∷ twists) both s =
      let next = both_after (asking settings content) (AtServer strand) both in
      let mid = streams_after carrier (asking settings content) (AtServer strand) both s in
      let last = streams_all twists next mid in
      let rest = sums twists next mid in
      let here = strand_list (server_profile settings content) (hosts_ask.servers settings content) strand both.far both.server in
      record {
        taken = rest.taken;
        heard = rest.heard;
        gone = further s.gone (goes_by carrier settings content strand both.far both.server) mid.gone (went carrier settings content (flat_map of_server twists) next.far next.server) last.gone refl rest.gone;
        come = further s.come (handed_from carrier (policy settings true) both.far here) mid.come (handed_from carrier (policy settings true) next.far (far_list settings content twists next)) last.come
            (ap (λ (l : List (List ℕ)). s.come ++ l) (strand_come carrier settings content (hosts_ask.servers settings content) strand both.far both.server)) rest.come
            ∙ ap (λ (l : List (List ℕ)). s.come ++ l) (sym (handed_both carrier (policy settings true) here (far_list settings content twists next) both.far));
      }

-- ---- at a moment

front_of : (front all front' all' : List (List ℕ)) → front' ≡ front → all' ≡ all → IsFront front all → IsFrontOf front' all'
front_of front all front' all' front_is all_is (behind', so) = (behind', all_is ∙ (so ∙ ap (λ (l : List (List ℕ)). l ++ behind') (sym front_is)))

none_of : (front all : List (List ℕ)) → front ≡ [] → IsFrontOf front all
none_of front all none = (all, ap (λ (l : List (List ℕ)). l ++ all) (sym none))

each_ahead : (P : List Turn → Turn → Type 0) (turns past later : List Turn) → turns ≡ past ++ later → EachAfter P [] turns → EachAfter P [] past
each_ahead P turns past later is each = (each_split P [] past later (subst (EachAfter P []) is each)).0

-- both hosts wish basic mode of the PSM
pub record BothBasic (settings : Settings) (carrier : ℕ) : Type 0 where
  pub near_mode : ((policy settings false).wish carrier).mode ≡ Basic
  pub far_mode : ((policy settings true).wish carrier).mode ≡ Basic

module _ (carrier : ℕ) (settings : Settings) (content : Option Contents) (basic : BothBasic settings carrier) (carries : CarriesPackets carrier) (near_all far_all : List Occurrence) (pair : PairOnLink (policy settings false) (policy settings true) near_all far_all)
    (plain : ArePlainPipes (policy settings false) (policy settings true) pair.turns) (near_utters : AreUttered (policy settings false) near_all) (far_utters : AreUttered (policy settings true) far_all) (only : CarriesOneOn carrier (policy settings true) far_all)
    (client : ClientProfile) (server : ServerProfile) (client_none : client.endpoints ≡ []) (server_none : server.endpoints ≡ []) where
  abbrev P : Policy
  P = policy settings false

  abbrev Q : Policy
  Q = policy settings true

  abbrev first : Both
  first = new_both client server

  record At (front : List Twist) : Type 0 where
    past : List Turn
    later : List Occurrence
    moment : Moment carrier (policy settings false) (policy settings true) past (near_list settings content front (new_both client server)) (far_list settings content front (new_both client server)) later only.channel

  at_moment : (twists front rest : List Twist) → joints_of (asking settings content) twists (new_both client server) ≡ joints_from (new_pair (policy settings false) (policy settings true)) pair.turns → twists ≡ front ++ rest → At front
  at_moment twists front rest is split = record { past = run.past; later = flat_map far_in after; moment = so }
    where
      ahead : List Joint
      ahead = joints_of (asking settings content) front first

      after : List Joint
      after = joints_of (asking settings content) rest (behind settings content front first)

      joints_are : joints_from (new_pair P Q) pair.turns ≡ ahead ++ after
      joints_are = sym is ∙ (ap (λ (l : List Twist). joints_of (asking settings content) l first) split ∙ joints-both settings content front rest first)

      near_is : near_all ≡ flat_map near_in (ahead ++ after)
      near_is = sym pair.near_list ∙ ap (flat_map near_in) joints_are

      far_is : far_all ≡ flat_map far_in (ahead ++ after)
      far_is = sym pair.far_list ∙ ap (flat_map far_in) joints_are

      far_parts : far_all ≡ far_list settings content front first ++ flat_map far_in after
      far_parts = far_is ∙ (flat_map-append far_in ahead after ∙ ap (λ (l : List Occurrence). l ++ flat_map far_in after) (far-joints settings content front first))

      run : IsFrontOfTurns P Q pair.turns ahead
      run = fronts-are_run P Q pair.turns ahead after joints_are (subst (AreUttered P) near_is near_utters) (subst (AreUttered Q) far_is far_utters)

      near_by : IsRunBy P (pair_of P Q run.past).near.run (near_list settings content front first)
      near_by = subst (IsRunBy P (pair_of P Q run.past).near.run) (near-joints settings content front first) run.near_by

      far_by : IsRunBy Q (pair_of P Q run.past).far.run (far_list settings content front first)
      far_by = subst (IsRunBy Q (pair_of P Q run.past).far.run) (far-joints settings content front first) run.far_by

      piped : HaveChannel P Q run.past (mirrored only.channel) → IsPlainPipe P Q (flat_map near_in ahead) (flat_map far_in ahead) (mirrored only.channel)
      piped has =
          plain ahead after (mirrored only.channel) joints_are
          (record {
            near_has = subst (λ (r : Run). IsOf (mirrored only.channel) (read_at only.channel.peer (reading r.said).entries)) run.near_by.run_is has.near_has;
            far_has = subst (λ (r : Run). IsOf only.channel (read_at only.channel.own (reading r.said).entries)) run.far_by.run_is has.far_has;
            near_mode = ap (λ n. (P.wish n).mode) only.psm_is ∙ basic.near_mode;
            far_mode = ap (λ n. (Q.wish n).mode) only.psm_is ∙ basic.far_mode;
          })

      delivers : HaveChannel P Q run.past (mirrored only.channel)
          → IsFront (sdus_up only.channel.peer (pair_of P Q run.past).near.run.up) (taken_of Q only.channel.own (far_list settings content front first)) × IsFront (sdus_up only.channel.own (pair_of P Q run.past).far.run.up) (taken_of P only.channel.peer (near_list settings content front first))
      delivers has =
          let both = piped has in (
            subst (λ (r : Run). IsFront (sdus_up only.channel.peer r.up) (taken_of Q only.channel.own (far_list settings content front first))) (sym run.near_by.run_is)
                (subst (λ (l : List Occurrence). IsFront (sdus_up only.channel.peer (run_of P (flat_map near_in ahead)).up) (taken_of Q only.channel.own l)) (far-joints settings content front first) both.near_comes),
            subst (λ (r : Run). IsFront (sdus_up only.channel.own r.up) (taken_of P only.channel.peer (near_list settings content front first))) (sym run.far_by.run_is)
                (subst (λ (l : List Occurrence). IsFront (sdus_up only.channel.own (run_of Q (flat_map far_in ahead)).up) (taken_of P only.channel.peer l)) (near-joints settings content front first) both.far_comes),
          )

      so : Moment carrier P Q run.past (near_list settings content front first) (far_list settings content front first) (flat_map far_in after) only.channel
      so = record {
        read = each_ahead (λ past turn. IsRead turn.happening (end_at turn.side (pair_of P Q past))) pair.turns run.past run.later run.turns_are pair.read;
        carries = carries;
        delivers = delivers;
        near_by = near_by;
        far_by = far_by;
        psm_is = only.psm_is;
        alone = subst (λ (l : List Occurrence). CarriesAlone only.channel (run_of Q l).said) far_parts only.alone;
      }

  streams_at : (front : List Twist) → At front → AreStreams (streams_all carrier settings content front (new_both client server) no_streams)
  streams_at front at = record {
    forth = forth (requests-come carrier P Q at.past one other at.later only.channel at.moment);
    back = back (responses-come carrier P Q at.past one other at.later only.channel at.moment);
  }
    where
      one : List Occurrence
      one = near_list settings content front first

      other : List Occurrence
      other = far_list settings content front first

      now : Streams
      now = streams_all carrier settings content front first no_streams

      sum : Sums carrier settings content front first no_streams now
      sum = sums carrier settings content front first no_streams

      come_is : now.come ≡ handed_for carrier (run_of Q other).up
      come_is = sum.come ∙ ap (handed_for carrier) (sym (ups_of Q other))

      heard_is : now.heard ≡ handed_for carrier (run_of P one).up
      heard_is = sum.heard ∙ ap (handed_for carrier) (sym (ups_of P one))

      forth : RequestsCome carrier P Q at.past one other at.later only.channel at.moment → IsFrontOf now.come now.taken
      forth (inl none) = none_of now.come now.taken (come_is ∙ none)
      forth (inr (has, front')) =
          front_of (handed_for carrier (run_of Q other).up) (taken_of P only.channel.peer one) now.come now.taken come_is
          (sum.taken ∙ took-is carrier settings only.channel.peer (flat_map of_client front) client client_none (λ identifier psm own other_psm asked opened. asked-agrees carrier P Q at.past one other at.later only.channel at.moment has identifier psm own other_psm asked opened)) front'

      back : ResponsesCome carrier P Q at.past one other at.later only.channel at.moment → IsFrontOf now.heard now.gone
      back (inl none) = none_of now.heard now.gone (heard_is ∙ none)
      back (inr front') =
          front_of (handed_for carrier (run_of P one).up) (taken_of Q only.channel.own other) now.heard now.gone heard_is
          (sum.gone ∙ went-is carrier settings content only.channel.own (flat_map of_server front) server server_none (λ psm own opened. far-agrees carrier P Q at.past one other at.later only.channel at.moment psm own opened)) front'

  pub stays-on : StaysOn carrier (asking settings content) pair.turns client server
  stays-on twists is = stay-streams carrier settings content twists (new_both client server) no_streams (λ front rest split. streams_at front (at_moment twists front rest is split))

-- ---- of a run

pub at_place : (P : List Occurrence → Type 0) → P [] → (lists : List (List Occurrence)) → AllByRecursion P lists → (number : ℕ) → P (get_or lists number [])
at_place P none [] all number = none
at_place P none (list ∷ lists) all zero = all.0
at_place P none (list ∷ lists) all (suc number) = at_place P none lists all.1 number

-- where nothing happened there is no channel
pub none_carry : (carrier : ℕ) (policy : Policy) → CarriesOneOn carrier policy []
none_carry carrier policy = record { channel = record { psm = carrier; own = 0; peer = 0 }; psm_is = refl; alone = tt }

-- on each link one channel alone carries packets
pub all_carry : (scenario : Scenario) (before : List Object) (capture : List Entry) (ran : Ran scenario (holding before) capture) (order : PairsKeepOrder both_ask scenario (holding before) capture ran) → scenario.settings.transport ≡ Rfcomm
    → (number : ℕ) → CarriesOneOn rfcomm_psm (serving scenario.settings before).policy (happened_on (serving scenario.settings before) (asked_by both_ask scenario.settings before) sides.B capture ran.world.b.upper order.turns.pairs.b number)
all_carry scenario before capture ran order muxed number =
    let B = serving scenario.settings before in
    let asks = asked_by both_ask scenario.settings before in
    let b = order.turns.pairs.b in
    let lists = on_links B asks (flat_map talk_marks b.came.talk) ran.world.b.upper b.fed.so.lives in
    let alone = runs-carry_alone scenario (holding before) capture ran asks b.came b.fed.so (asks-nothing scenario.settings (holding before)) in
    at_place (CarriesOneOn rfcomm_psm B.policy) (none_carry rfcomm_psm B.policy) lists (subst (λ T. AllByRecursion (CarriesOneOn (packets_psm T) B.policy) lists) muxed alone) number

pub multiplexers_piped : (scenario : Scenario) (before : List Object) (capture : List Entry) (ran : Ran scenario (holding before) capture) (order : PairsKeepOrder both_ask scenario (holding before) capture ran) → scenario.settings.transport ≡ Rfcomm
    → (number : ℕ) (client : ClientProfile) (server : ServerProfile) → client.endpoints ≡ [] → server.endpoints ≡ [] → StaysOn rfcomm_psm (over_stored both_ask scenario.settings before) (order.turns.pairs.pairs number).turns client server
multiplexers_piped scenario before capture ran order muxed number client server client_none server_none =
    let settings = scenario.settings in
    let A = client_profile settings in
    let B = serving settings before in
    let pairs = order.turns.pairs in
    let within : BothSendWithin both_ask = record { clients = clients_within; servers = servers_within } in
    stays-on rfcomm_psm settings (holding before) (record { near_mode = refl; far_mode = refl }) (λ psm aside is. aside.1 is) _ _ (pairs.pairs number) (plain-pairs_are_pipes both_ask scenario (holding before) capture ran order within number)
    (at_place (AreUttered A.policy) tt (on_links A (both_ask.clients settings) (flat_map talk_marks pairs.a.came.talk) ran.world.a.upper pairs.a.fed.so.lives) pairs.a.uttered number)
    (at_place (AreUttered B.policy) tt (on_links B (asked_by both_ask settings before) (flat_map talk_marks pairs.b.came.talk) ran.world.b.upper pairs.b.fed.so.lives) pairs.b.uttered number) (all_carry scenario before capture ran order muxed number) client server client_none server_none

pub multiplexers_are_piped : MultiplexersArePiped
multiplexers_are_piped = record { asks = both_ask; pipes = multiplexers_piped }
