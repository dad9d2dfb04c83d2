-- On the channels to the service records nothing is made up, whatever a link loses, repeats, cuts and damages: what comes there is among what the other host's channel took.
use Rattle.std.proofs.Common.{◌≡◌, ℕ, true, false, List, [], ◌∷◌, ◌++◌, Option, Some, None, inl, inr, refl, sym, ap, subst, ◌∙◌}
use Rattle.std.specs.Prelude.{zero, suc, replicate}
use Rattle.std.specs.List.{AllByRecursion, Contains, flat_map}
use Rattle.std.proofs.lemmas.Bool.{eqb-true, eq-eqb}
use Rattle.std.proofs.lemmas.List.Elements.{All-weaker, All-contains, All-from_recursion, recursion_from_All, All-contains_itself}
use Rattle.request_laws.specs.bt_base.specs.Objects.{Contents}
use Rattle.request_laws.specs.bt_base.specs.declared.settings.Settings.{Settings}
use Rattle.request_laws.specs.capture.specs.Histories.{EachAfter}
use Rattle.request_laws.specs.capture.specs.declared.flow.Flow.TheVariants.{Out}
use Rattle.request_laws.specs.push_terms.specs.declared.word.Side.TheVariants as sides
use Rattle.request_laws.specs.link_talk.specs.declared.channel.Channel.{Channel}
use Rattle.request_laws.specs.link_talk.specs.declared.party.Party.{Party}
use Rattle.request_laws.specs.link_talk.specs.Carriages.{mode_of}
use Rattle.request_laws.specs.link_talk.specs.Channels.{Entry, reading}
use Rattle.request_laws.specs.link_talk.specs.Sdus.{sdus}
use Rattle.request_laws.specs.l2cap_config.specs.declared.wish.Mode.TheVariants.{Basic}
use Rattle.request_laws.specs.channel_model.specs.Policies.{Policy, policy}
use Rattle.request_laws.specs.channel_laws.specs.Arrivals.{Arrives, IsFerry}
use Rattle.request_laws.specs.channel_laws.specs.Belonging.{HasGranted, HasAsked, Belongs, IsRead, AreRead, said_at}
use Rattle.request_laws.specs.channel_laws.specs.Common.{mirrored}
use Rattle.request_laws.specs.channel_laws.specs.Delivered.{IsRunBy}
use Rattle.request_laws.specs.channel_laws.specs.Endpoints.{IsOf}
use Rattle.request_laws.specs.channel_laws.specs.Ends.{DoesSo, end_at}
use Rattle.request_laws.specs.channel_laws.specs.Frames.{IsUttered, AreUttered}
use Rattle.request_laws.specs.channel_laws.specs.Pairs.{Side, Near, Far, Turn, turned, new_pair, pair_of}
use Rattle.request_laws.specs.channel_laws.specs.Pipes.{HaveChannel, IsCarried, AreCarried}
use Rattle.request_laws.specs.channel_laws.specs.Runs.{Occurrence, Run, run_of, sdus_up}
use Rattle.request_laws.specs.channel_laws.specs.Taken.{taken_of}
use Rattle.request_laws.specs.channel_laws.specs.Views.{channel_by, read_at}
use Rattle.request_laws.specs.channel_laws.proofs.Arrived.{basic-arrive}
use Rattle.request_laws.specs.channel_laws.proofs.Belonging.{channels-belong}
use Rattle.request_laws.specs.channel_laws.proofs.Bestowing.{endpoints-are_granted_once, endpoints-ask_for_one_psm}
use Rattle.request_laws.specs.channel_laws.proofs.PlainTaken.{basic_mode, plain-goes_out}
use Rattle.request_laws.specs.channel_laws.proofs.Sharing.{channels-are_common}
use Rattle.request_laws.specs.push_model.specs.Events.{search_psm}
use Rattle.request_laws.specs.host_model.specs.Clients.{ClientProfile}
use Rattle.request_laws.specs.host_model.specs.Servers.{ServerProfile}
use Rattle.request_laws.specs.pair_laws.specs.scenario_laws.specs.Parties.{party_of}
use Rattle.request_laws.specs.pair_laws.specs.Fronts.{IsFrontOfTurns}
use Rattle.request_laws.specs.pair_laws.specs.Orders.{Joint, near_in, far_in, joints_from}
use Rattle.request_laws.specs.pair_laws.specs.Pairs.{PairOnLink}
use Rattle.request_laws.specs.pair_laws.proofs.Facing.{each_split}
use Rattle.request_laws.specs.pair_laws.proofs.Fronts.{fronts-are_run}
use Rattle.request_laws.specs.HandedUp.{handed_for}
use Rattle.request_laws.specs.Joined.{joints_of}
use Rattle.request_laws.specs.Streams.{Streams, no_streams, streams_after}
use Rattle.request_laws.specs.Twists.{Twist, of_client, of_server, Both, new_both, both_after}
use Rattle.request_laws.proofs.Accepted.{Accepted, Opened, all-opened}
use Rattle.request_laws.proofs.AlongStreams.{streams_all, Sums, sums}
use Rattle.request_laws.proofs.AmongTaken.{took-among, went-among}
use Rattle.request_laws.proofs.Delivering.{ups-all}
use Rattle.request_laws.proofs.HandedUp.{ups_of}
use Rattle.request_laws.proofs.Sole.{is_of}
use Rattle.request_laws.proofs.Summing.{asking, near_list, far_list, behind, joints-both, near-joints, far-joints}
use Rattle.request_laws.proofs.Truths.{AreTrue, AllStayTrue}

-- ---- what arrives is of what was sent

many_so : (F : List ℕ → Type 0) (times : ℕ) (x : List ℕ) (rest : List (List ℕ)) → F x → AllByRecursion F rest → AllByRecursion F (replicate times x ++ rest)
many_so F zero x rest so all = all
many_so F (suc times) x rest so all = (so, many_so F times x rest so all)

arrives_so : (F : List ℕ → Type 0) (came sent : List (List ℕ)) → Arrives came sent → AllByRecursion F sent → AllByRecursion F came
arrives_so F came [] none all = subst (AllByRecursion F) (sym none) tt
arrives_so F came (x ∷ sent) (times, rest, is, more) all = subst (AllByRecursion F) (sym is) (many_so F times x rest all.0 (arrives_so F rest sent more all.1))

abbrev Among : (some all : List (List ℕ)) → Type 0
Among some all = AllByRecursion (Contains all) some

themselves : (all : List (List ℕ)) → Among all all
themselves all = recursion_from_All (Contains all) all (All-contains_itself all)

among_so : (F : List ℕ → Type 0) (some all : List (List ℕ)) → Among some all → AllByRecursion F all → AllByRecursion F some
among_so F some all are so =
    recursion_from_All F some (All-weaker (Contains all) F (λ sdu in'. All-contains F all sdu (All-from_recursion F all so) in') some (All-from_recursion (Contains all) some are))

-- what one host hands up of its endpoint is among what the channel of the other took
ferried : (policy : Policy) (party : Party) (sent : Channel) (run ups : Run) (list : List Occurrence) (own : ℕ) → IsRunBy policy run list → IsOf sent (read_at sent.own (reading run.said).entries) → (policy.wish sent.psm).mode ≡ Basic
    → IsFerry sent run.said own ups.up → Among (sdus_up own ups.up) (taken_of policy sent.own list)
ferried policy party sent run ups list own runs has basic ferry =
    let has' : IsOf sent (read_at sent.own (reading (run_of policy list).said).entries) = subst (λ (r : Run). IsOf sent (read_at sent.own (reading r.said).entries)) runs.run_is has in
    let gone : sdus party sent Out run.said ≡ taken_of policy sent.own list = ap (λ (r : Run). sdus party sent Out r.said) runs.run_is ∙ plain-goes_out policy party list sent runs.uttered has' basic in
    let mode : mode_of sent run.said ≡ Basic = ap (λ (r : Run). mode_of sent r.said) runs.run_is ∙ basic_mode policy list sent has' basic in
    arrives_so (Contains (taken_of policy sent.own list)) (sdus_up own ups.up) (sdus party sent Out run.said) (ferry party mode) (subst (AllByRecursion (Contains (taken_of policy sent.own list))) (sym gone) (themselves (taken_of policy sent.own list)))

-- ---- at a moment of a pair

same_psm : (one other : Channel) (found : Option Entry) → IsOf one found → Accepted other found → other.psm ≡ one.psm
same_psm one other None of is = absurd of
same_psm one other (Some entry) of is = ap (λ (c : Channel). c.psm) (sym is.0 ∙ of)

each_ahead : (P : List Turn → Turn → Type 0) (turns past later : List Turn) → turns ≡ past ++ later → EachAfter P [] turns → EachAfter P [] past
each_ahead P turns past later is each = (each_split P [] past later (subst (EachAfter P []) is each)).0

-- both hosts' channels at some moment: each end of a channel to the service records hands up what the other took
record Met (near far : Policy) (one other : List Occurrence) : Type 0 where
  past : List Turn
  read : AreRead near far past
  near_by : IsRunBy near (pair_of near far past).near.run one
  far_by : IsRunBy far (pair_of near far past).far.run other
  comes : (own peer : ℕ) → HaveChannel near far past (channel_by search_psm own peer)
      → Among (sdus_up own (pair_of near far past).near.run.up) (taken_of far peer other) × Among (sdus_up peer (pair_of near far past).far.run.up) (taken_of near own one)

module _ (near far : Policy) (one other : List Occurrence) (m : Met near far one other) where
  common : (side : Side) (own peer : ℕ) → Accepted (channel_by search_psm own peer) (read_at own (reading (said_at side (pair_of near far m.past))).entries) → IsOf (channel_by search_psm peer own) (read_at peer (reading (said_at side (turned (pair_of near far m.past)))).entries)
  common side own peer is = by (read_at own (reading (said_at side (pair_of near far m.past))).entries) refl is
    where
      by : (found : Option Entry) → read_at own (reading (said_at side (pair_of near far m.past))).entries ≡ found → Accepted (channel_by search_psm own peer) found → IsOf (channel_by search_psm peer own) (read_at peer (reading (said_at side (turned (pair_of near far m.past)))).entries)
      by None at is = absurd is
      by (Some entry) at is = subst (λ (x : Channel). IsOf (mirrored x) (read_at x.peer (reading (said_at side (turned (pair_of near far m.past)))).entries)) is.0 (channels-are_common near far m.past m.read side own entry at is.1)

  near_ups : (F : List ℕ → Type 0) → ((own peer : ℕ) → IsOf (channel_by search_psm peer own) (read_at peer (reading (run_of far other).said).entries) → AllByRecursion F (taken_of far peer other)) → AllByRecursion F (handed_for search_psm (run_of near one).up)
  near_ups F each = ups-all F search_psm (run_of near one).said (run_of near one).up on (all-opened near one)
    where
      on : (own : ℕ) → Opened (run_of near one).said search_psm own → AllByRecursion F (sdus_up own (run_of near one).up)
      on own (peer, is) =
          let here : Accepted (channel_by search_psm own peer) (read_at own (reading (pair_of near far m.past).near.run.said).entries) = subst (λ (r : Run). Accepted (channel_by search_psm own peer) (read_at own (reading r.said).entries)) (sym m.near_by.run_is) is in
          let opposite : IsOf (channel_by search_psm peer own) (read_at peer (reading (pair_of near far m.past).far.run.said).entries) = common Near own peer here in
          let has : HaveChannel near far m.past (channel_by search_psm own peer) = record { near_has = is_of (channel_by search_psm own peer) (read_at own (reading (pair_of near far m.past).near.run.said).entries) here; far_has = opposite } in
          among_so F (sdus_up own (run_of near one).up) (taken_of far peer other) (subst (λ (r : Run). Among (sdus_up own r.up) (taken_of far peer other)) m.near_by.run_is (m.comes own peer has).0)
          (each own peer (subst (λ (r : Run). IsOf (channel_by search_psm peer own) (read_at peer (reading r.said).entries)) m.far_by.run_is opposite))

  far_ups : (F : List ℕ → Type 0) → ((own peer : ℕ) → IsOf (channel_by search_psm peer own) (read_at peer (reading (run_of near one).said).entries) → AllByRecursion F (taken_of near peer one)) → AllByRecursion F (handed_for search_psm (run_of far other).up)
  far_ups F each = ups-all F search_psm (run_of far other).said (run_of far other).up on (all-opened far other)
    where
      on : (own : ℕ) → Opened (run_of far other).said search_psm own → AllByRecursion F (sdus_up own (run_of far other).up)
      on own (peer, is) =
          let here : Accepted (channel_by search_psm own peer) (read_at own (reading (pair_of near far m.past).far.run.said).entries) = subst (λ (r : Run). Accepted (channel_by search_psm own peer) (read_at own (reading r.said).entries)) (sym m.far_by.run_is) is in
          let opposite : IsOf (channel_by search_psm peer own) (read_at peer (reading (pair_of near far m.past).near.run.said).entries) = common Far own peer here in
          let has : HaveChannel near far m.past (channel_by search_psm peer own) = record { near_has = opposite; far_has = is_of (channel_by search_psm own peer) (read_at own (reading (pair_of near far m.past).far.run.said).entries) here } in
          among_so F (sdus_up own (run_of far other).up) (taken_of near peer one) (subst (λ (r : Run). Among (sdus_up own r.up) (taken_of near peer one)) m.far_by.run_is (m.comes peer own has).1)
          (each own peer (subst (λ (r : Run). IsOf (channel_by search_psm peer own) (read_at peer (reading r.said).entries)) m.near_by.run_is opposite))

  -- a channel of the near host that it asked for has the PSM that it asked for
  asked_psm : (identifier psm own peer : ℕ) → HasAsked identifier psm own (run_of near one).said → IsOf (channel_by search_psm own peer) (read_at own (reading (run_of near one).said).entries) → search_psm ≡ psm
  asked_psm identifier psm own peer asked is =
      of_psm (read_at own (reading (pair_of near far m.past).near.run.said).entries) refl (subst (λ (r : Run). IsOf (channel_by search_psm own peer) (read_at own (reading r.said).entries)) (sym m.near_by.run_is) is)
    where
      by : Belongs (pair_of near far m.past).near.run.said (pair_of near far m.past).far.run.said (channel_by search_psm own peer) → search_psm ≡ psm
      by (id, status, inl (granted, asks)) =
          absurd ((endpoints-are_granted_once near one id status own peer (subst (λ (r : Run). HasGranted id status own peer r.said) m.near_by.run_is granted)).1 identifier psm asked)
      by (id, status, inr (asks, granted)) = endpoints-ask_for_one_psm near one id search_psm own identifier psm (subst (λ (r : Run). HasAsked id search_psm own r.said) m.near_by.run_is asks) asked

      of_psm : (found : Option Entry) → read_at own (reading (pair_of near far m.past).near.run.said).entries ≡ found → IsOf (channel_by search_psm own peer) found → search_psm ≡ psm
      of_psm None at is = absurd is
      of_psm (Some entry) at is = by (subst (Belongs (pair_of near far m.past).near.run.said (pair_of near far m.past).far.run.said) is (channels-belong near far m.past m.read Near own entry at))

-- ---- along the turns of a pair

module _ (settings : Settings) (content : Option Contents) (near_all far_all : List Occurrence) (pair : PairOnLink (policy settings false) (policy settings true) near_all far_all) (carried : AreCarried (policy settings false) (policy settings true) pair.turns)
    (near_utters : AreUttered (policy settings false) near_all) (far_utters : AreUttered (policy settings true) far_all) (client : ClientProfile) (server : ServerProfile) (client_none : client.endpoints ≡ []) (server_none : server.endpoints ≡ []) where
  abbrev P : Policy
  P = policy settings false

  abbrev Q : Policy
  Q = policy settings true

  abbrev first : Both
  first = new_both client server

  met_at : (ahead after : List Joint) → joints_from (new_pair (policy settings false) (policy settings true)) pair.turns ≡ ahead ++ after → Met (policy settings false) (policy settings true) (flat_map near_in ahead) (flat_map far_in ahead)
  met_at ahead after joints_are = record { past = run.past; read = reads; near_by = run.near_by; far_by = run.far_by; comes = arrive }
    where
      run : IsFrontOfTurns P Q pair.turns ahead
      run =
          fronts-are_run P Q pair.turns ahead after joints_are (subst (AreUttered P) (sym pair.near_list ∙ ap (flat_map near_in) joints_are) near_utters)
          (subst (AreUttered Q) (sym pair.far_list ∙ ap (flat_map far_in) joints_are) far_utters)

      reads : AreRead P Q run.past
      reads = each_ahead (λ past turn. IsRead turn.happening (end_at turn.side (pair_of P Q past))) pair.turns run.past run.later run.turns_are pair.read

      arrive : (own peer : ℕ) → HaveChannel P Q run.past (channel_by search_psm own peer)
          → Among (sdus_up own (pair_of P Q run.past).near.run.up) (taken_of Q peer (flat_map far_in ahead)) × Among (sdus_up peer (pair_of P Q run.past).far.run.up) (taken_of P own (flat_map near_in ahead))
      arrive own peer has =
          let both = basic-arrive P Q run.past (channel_by search_psm own peer)
          (each_ahead (λ past turn. DoesSo IsUttered turn.happening (end_at turn.side (pair_of P Q past))) pair.turns run.past run.later run.turns_are pair.fair) reads
          (each_ahead (λ past turn. IsCarried turn.happening (end_at turn.side (pair_of P Q past))) pair.turns run.past run.later run.turns_are carried) has (inl refl) in (
            ferried Q (party_of settings sides.B) (channel_by search_psm peer own) (pair_of P Q run.past).far.run (pair_of P Q run.past).near.run (flat_map far_in ahead) own run.far_by has.far_has refl both.0,
            ferried P (party_of settings sides.A) (channel_by search_psm own peer) (pair_of P Q run.past).near.run (pair_of P Q run.past).far.run (flat_map near_in ahead) peer run.near_by has.near_has refl both.1,
          )

  met_on : (twists front rest : List Twist) → joints_of (asking settings content) twists (new_both client server) ≡ joints_from (new_pair (policy settings false) (policy settings true)) pair.turns → twists ≡ front ++ rest
      → Met (policy settings false) (policy settings true) (near_list settings content front (new_both client server)) (far_list settings content front (new_both client server))
  met_on twists front rest is split =
      let ahead = joints_of (asking settings content) front first in
      let after = joints_of (asking settings content) rest (behind settings content front first) in
      let joints_are : joints_from (new_pair P Q) pair.turns ≡ ahead ++ after = sym is ∙ (ap (λ (l : List Twist). joints_of (asking settings content) l first) split ∙ joints-both settings content front rest first) in
      subst (λ (l : List Occurrence). Met P Q l (far_list settings content front first)) (near-joints settings content front first)
      (subst (λ (l : List Occurrence). Met P Q (flat_map near_in ahead) l) (far-joints settings content front first) (met_at ahead after joints_are))

  true_at : (front : List Twist) → Met (policy settings false) (policy settings true) (near_list settings content front (new_both client server)) (far_list settings content front (new_both client server)) → AreTrue (streams_all search_psm settings content front (new_both client server) no_streams)
  true_at front met = record {
    forth = All-from_recursion (Contains now.taken) now.come (subst (AllByRecursion (Contains now.taken)) (sym (sum.come ∙ ap (handed_for search_psm) (sym (ups_of Q other)))) (far_ups P Q one other met (Contains now.taken) asked));
    back = All-from_recursion (Contains now.gone) now.heard (subst (AllByRecursion (Contains now.gone)) (sym (sum.heard ∙ ap (handed_for search_psm) (sym (ups_of P one)))) (near_ups P Q one other met (Contains now.gone) granted));
  }
    where
      one : List Occurrence
      one = near_list settings content front first

      other : List Occurrence
      other = far_list settings content front first

      now : Streams
      now = streams_all search_psm settings content front first no_streams

      sum : Sums search_psm settings content front first no_streams now
      sum = sums search_psm settings content front first no_streams

      asked : (own peer : ℕ) → IsOf (channel_by search_psm peer own) (read_at peer (reading (run_of (policy settings false) (near_list settings content front (new_both client server))).said).entries)
          → AllByRecursion (Contains (streams_all search_psm settings content front (new_both client server) no_streams).taken) (taken_of (policy settings false) peer (near_list settings content front (new_both client server)))
      asked own peer is =
          took-among (Contains now.taken) search_psm settings peer (flat_map of_client front) client client_none
          (λ identifier at at_own was here. eq-eqb at search_psm (sym (asked_psm P Q one other met identifier at peer own (subst (λ n. HasAsked identifier at n (run_of P one).said) (eqb-true at_own peer here) was) is)))
          (subst (λ (l : List (List ℕ)). AllByRecursion (Contains now.taken) l) sum.taken (themselves now.taken))

      granted : (own peer : ℕ) → IsOf (channel_by search_psm peer own) (read_at peer (reading (run_of (policy settings true) (far_list settings content front (new_both client server))).said).entries)
          → AllByRecursion (Contains (streams_all search_psm settings content front (new_both client server) no_streams).gone) (taken_of (policy settings true) peer (far_list settings content front (new_both client server)))
      granted own peer is =
          went-among (Contains now.gone) search_psm settings content peer (flat_map of_server front) server server_none
          (λ at at_own (at_peer, opened) here. eq-eqb at search_psm (same_psm (channel_by search_psm peer own) (channel_by at at_own at_peer) (read_at peer (reading (run_of Q other).said).entries) is (subst (λ n. Accepted (channel_by at at_own at_peer) (read_at n (reading (run_of Q other).said).entries)) (eqb-true at_own peer here) opened)))
          (subst (λ (l : List (List ℕ)). AllByRecursion (Contains now.gone) l) sum.gone (themselves now.gone))

  stay_true : (twists : List Twist) (both : Both) (s : Streams) → ((front rest : List Twist) → twists ≡ front ++ rest → AreTrue (streams_all search_psm settings content front both s)) → AllStayTrue search_psm refl (asking settings content) twists both s
  stay_true [] both s each = tt
  stay_true (twist ∷ twists) both s each = (
    each (twist ∷ []) twists refl,
    stay_true twists (both_after (asking settings content) twist both) (streams_after search_psm (asking settings content) twist both s) (λ front rest is. each (twist ∷ front) rest (ap (λ (l : List Twist). twist ∷ l) is)),
  )

  -- nothing is made up there, at each moment
  pub records-stay_true : (twists : List Twist) → joints_of (asking settings content) twists (new_both client server) ≡ joints_from (new_pair (policy settings false) (policy settings true)) pair.turns → AllStayTrue search_psm refl (asking settings content) twists (new_both client server) no_streams
  records-stay_true twists is = stay_true twists (new_both client server) no_streams (λ front rest split. true_at front (met_on twists front rest is split))
