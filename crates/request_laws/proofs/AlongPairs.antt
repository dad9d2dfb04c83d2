-- Along the turns of a pair the channels of the object are pipes.
use Rattle.std.proofs.Common.{◌≡◌, ℕ, true, false, List, [], ◌++◌, Option, refl, sym, ap, subst, ◌∙◌, inl, inr}
use Rattle.std.specs.List.{AllByRecursion, flat_map}
use Rattle.std.proofs.lemmas.List.Concat.{flat_map-append}
use Rattle.pair_laws.specs.bt_base.specs.declared.settings.Settings.{Settings}
use Rattle.pair_laws.specs.bt_base.specs.Objects.{Contents}
use Rattle.pair_laws.specs.capture.specs.Histories.{EachAfter}
use Rattle.pair_laws.specs.push_terms.specs.declared.word.Side.TheVariants as sides
use Rattle.pair_laws.specs.link_talk.specs.declared.channel.Channel.{Channel}
use Rattle.pair_laws.specs.link_talk.specs.Sayings.{Saying}
use Rattle.pair_laws.specs.channel_model.specs.Policies.{Policy, policy}
use Rattle.pair_laws.specs.channel_model.specs.Value.{no_channels}
use Rattle.pair_laws.specs.channel_laws.specs.Belonging.{IsRead, AreRead}
use Rattle.pair_laws.specs.channel_laws.specs.Common.{mirrored}
use Rattle.pair_laws.specs.channel_laws.specs.Delivered.{IsRunBy}
use Rattle.pair_laws.specs.channel_laws.specs.Ends.{DoesSo, end_at}
use Rattle.pair_laws.specs.channel_laws.specs.Frames.{IsUttered, AreUttered}
use Rattle.pair_laws.specs.channel_laws.specs.Pairs.{Turn, new_pair, pair_of}
use Rattle.pair_laws.specs.channel_laws.specs.Pipes.{IsCarried, AreCarried, IsFront}
use Rattle.pair_laws.specs.channel_laws.specs.Runs.{Occurrence, run_of}
use Rattle.pair_laws.specs.channel_laws.specs.Taken.{taken_of}
use Rattle.pair_laws.specs.channel_laws.proofs.Delivered.{wished-is_delivered}
use Rattle.pair_laws.specs.push_model.specs.Server.{object_psm}
use Rattle.pair_laws.specs.push_laws.specs.Parties.{Pipes, no_pipes, IsFrontOf, ArePipes}
use Rattle.pair_laws.specs.host_model.specs.Clients.{ClientProfile}
use Rattle.pair_laws.specs.host_model.specs.Servers.{ServerProfile, server_profile}
use Rattle.pair_laws.specs.host_laws.specs.GainingOver.{IsNoPdu, CarriesOne}
use Rattle.pair_laws.specs.host_laws.specs.OneCarrier.{CarriesAlone}
use Rattle.pair_laws.specs.host_laws.specs.Woven.{Strand, woven_list}
use Rattle.pair_laws.specs.host_laws.proofs.Asking.{hosts_ask}
use Rattle.pair_laws.specs.scenario_laws.specs.Parties.{party_of}
use Rattle.pair_laws.specs.scenario_laws.proofs.Wishes.{states_frame}
use Rattle.pair_laws.specs.Fronts.{IsFrontOfTurns}
use Rattle.pair_laws.specs.Orders.{Joint, near_in, far_in, joints_from}
use Rattle.pair_laws.specs.Pairs.{PairOnLink}
use Rattle.pair_laws.proofs.Facing.{each_split}
use Rattle.pair_laws.proofs.Fronts.{fronts-are_run}
use Rattle.pair_laws.proofs.Whole.{both_can}
use Rattle.request_laws.specs.HandedUp.{handed_for}
use Rattle.request_laws.specs.Joined.{joints_of}
use Rattle.request_laws.specs.ObjectPipes.{StaysPiped}
use Rattle.request_laws.specs.Twists.{Twist, of_client, of_server, Both, new_both}
use Rattle.request_laws.proofs.ClientTakes.{took-is}
use Rattle.request_laws.proofs.HandedUp.{ups_of}
use Rattle.request_laws.proofs.ServerTakes.{went-is, none-said}
use Rattle.request_laws.proofs.Sole.{Moment, far-agrees, RequestsCome, requests-come, ResponsesCome, responses-come, asked-agrees}
use Rattle.request_laws.proofs.Summing.{asking, near_list, far_list, behind, joints-both, near-joints, far-joints, carried_all, stay-piped, Sums, sums}

-- ---- the one channel of the object in the far host's talk

record SoleIn (policy : Policy) (list : List Occurrence) : Type 0 where
  channel : Channel
  psm_is : channel.psm ≡ object_psm
  alone : CarriesAlone channel (run_of policy list).said

-- where nothing came in there is none at all
sole_in : (settings : Settings) (content : Option Contents) (weave : List Strand) (server : ServerProfile) (list : List Occurrence) → server.endpoints ≡ []
    → list ≡ woven_list (server_profile settings content) (hosts_ask.servers settings content) weave no_channels server → CarriesOne (policy settings true) list → SoleIn (policy settings true) list
sole_in settings content weave server list none is (inl still) =
    let here : Channel = record { psm = object_psm; own = 0; peer = 0 } in
    let quiet : (run_of (policy settings true) list).said ≡ [] =
    ap (λ (l : List Occurrence). (run_of (policy settings true) l).said) is ∙ none-said object_psm settings content weave server none (subst (AllByRecursion IsNoPdu) is still) in
    record { channel = here; psm_is = refl; alone = subst (λ (l : List Saying). CarriesAlone here l) (sym quiet) tt }
sole_in settings content weave server list none is (inr one) = record { channel = one.channel; psm_is = one.psm_is; alone = one.alone }

-- ---- at a moment

front_of : (front all front' all' : List (List ℕ)) → front' ≡ front → all' ≡ all → IsFront front all → IsFrontOf front' all'
front_of front all front' all' front_is all_is (behind', so) = (behind', all_is ∙ (so ∙ ap (λ (l : List (List ℕ)). l ++ behind') (sym front_is)))

none_of : (front all : List (List ℕ)) → front ≡ [] → IsFrontOf front all
none_of front all none = (all, ap (λ (l : List (List ℕ)). l ++ all) (sym none))

each_ahead : (P : List Turn → Turn → Type 0) (turns past later : List Turn) → turns ≡ past ++ later → EachAfter P [] turns → EachAfter P [] past
each_ahead P turns past later is each = (each_split P [] past later (subst (EachAfter P []) is each)).0

module _ (settings : Settings) (content : Option Contents) (near_all far_all : List Occurrence) (pair : PairOnLink (policy settings false) (policy settings true) near_all far_all) (carried : AreCarried (policy settings false) (policy settings true) pair.turns)
    (near_utters : AreUttered (policy settings false) near_all) (far_utters : AreUttered (policy settings true) far_all) (carries : CarriesOne (policy settings true) far_all)
    (client : ClientProfile) (server : ServerProfile) (client_none : client.endpoints ≡ []) (server_none : server.endpoints ≡ []) where
  abbrev P : Policy
  P = policy settings false

  abbrev Q : Policy
  Q = policy settings true

  abbrev first : Both
  first = new_both client server

  record At (front : List Twist) : Type 0 where
    past : List Turn
    later : List Occurrence
    channel : Channel
    moment : Moment object_psm (policy settings false) (policy settings true) past (near_list settings content front (new_both client server)) (far_list settings content front (new_both client server)) later channel

  at_moment : (twists front rest : List Twist) → joints_of (asking settings content) twists (new_both client server) ≡ joints_from (new_pair (policy settings false) (policy settings true)) pair.turns → twists ≡ front ++ rest → At front
  at_moment twists front rest is split = record { past = run.past; later = flat_map far_in after; channel = only.channel; moment = so }
    where
      ahead : List Joint
      ahead = joints_of (asking settings content) front first

      after : List Joint
      after = joints_of (asking settings content) rest (behind settings content front first)

      joints_are : joints_from (new_pair P Q) pair.turns ≡ ahead ++ after
      joints_are = sym is ∙ (ap (λ (l : List Twist). joints_of (asking settings content) l first) split ∙ joints-both settings content front rest first)

      near_is : near_all ≡ flat_map near_in (ahead ++ after)
      near_is = sym pair.near_list ∙ ap (flat_map near_in) joints_are

      far_is : far_all ≡ flat_map far_in (ahead ++ after)
      far_is = sym pair.far_list ∙ ap (flat_map far_in) joints_are

      far_parts : far_all ≡ far_list settings content front first ++ flat_map far_in after
      far_parts = far_is ∙ (flat_map-append far_in ahead after ∙ ap (λ (l : List Occurrence). l ++ flat_map far_in after) (far-joints settings content front first))

      run : IsFrontOfTurns P Q pair.turns ahead
      run = fronts-are_run P Q pair.turns ahead after joints_are (subst (AreUttered P) near_is near_utters) (subst (AreUttered Q) far_is far_utters)

      only : SoleIn Q far_all
      only =
          sole_in settings content (flat_map of_server twists) server far_all server_none (sym pair.far_list ∙ (ap (flat_map far_in) (sym is) ∙ far-joints settings content twists first)) carries

      reads : AreRead P Q run.past
      reads = each_ahead (λ past turn. IsRead turn.happening (end_at turn.side (pair_of P Q past))) pair.turns run.past run.later run.turns_are pair.read

      near_by : IsRunBy P (pair_of P Q run.past).near.run (near_list settings content front first)
      near_by = subst (IsRunBy P (pair_of P Q run.past).near.run) (near-joints settings content front first) run.near_by

      far_by : IsRunBy Q (pair_of P Q run.past).far.run (far_list settings content front first)
      far_by = subst (IsRunBy Q (pair_of P Q run.past).far.run) (far-joints settings content front first) run.far_by

      so : Moment object_psm P Q run.past (near_list settings content front first) (far_list settings content front first) (flat_map far_in after) only.channel
      so = record {
        read = reads;
        carries = λ psm aside is. aside.0 is;
        delivers = λ has.
            let both = wished-is_delivered P Q run.past (mirrored only.channel) (near_list settings content front first) (far_list settings content front first)
            (each_ahead (λ past turn. DoesSo IsUttered turn.happening (end_at turn.side (pair_of P Q past))) pair.turns run.past run.later run.turns_are pair.fair) reads
            (each_ahead (λ past turn. IsCarried turn.happening (end_at turn.side (pair_of P Q past))) pair.turns run.past run.later run.turns_are carried) has
            (both_can settings only.channel.psm) (ap (λ n. (P.wish n).mode) only.psm_is) (ap (λ n. (Q.wish n).mode) only.psm_is) near_by far_by in
            (both.0 (party_of settings sides.B) (states_frame settings true sides.B), both.1 (party_of settings sides.A) (states_frame settings false sides.A));
        near_by = near_by;
        far_by = far_by;
        psm_is = only.psm_is;
        alone = subst (λ (l : List Occurrence). CarriesAlone only.channel (run_of Q l).said) far_parts only.alone;
      }

  pipes_at : (front : List Twist) → At front → ArePipes (carried_all settings content front (new_both client server) no_pipes)
  pipes_at front at = record {
    requests = requests (requests-come object_psm P Q at.past one other at.later at.channel at.moment);
    responses = responses (responses-come object_psm P Q at.past one other at.later at.channel at.moment);
  }
    where
      one : List Occurrence
      one = near_list settings content front first

      other : List Occurrence
      other = far_list settings content front first

      now : Pipes
      now = carried_all settings content front first no_pipes

      sum : Sums settings content front first no_pipes now
      sum = sums settings content front first no_pipes

      come_is : now.requests_come ≡ handed_for object_psm (run_of Q other).up
      come_is = sum.come ∙ ap (handed_for object_psm) (sym (ups_of Q other))

      heard_is : now.responses_come ≡ handed_for object_psm (run_of P one).up
      heard_is = sum.heard ∙ ap (handed_for object_psm) (sym (ups_of P one))

      requests : RequestsCome object_psm P Q at.past one other at.later at.channel at.moment → IsFrontOf now.requests_come now.requests_sent
      requests (inl none) = none_of now.requests_come now.requests_sent (come_is ∙ none)
      requests (inr (has, front')) =
          front_of (handed_for object_psm (run_of Q other).up) (taken_of P at.channel.peer one) now.requests_come now.requests_sent come_is
          (sum.sent ∙ took-is object_psm settings at.channel.peer (flat_map of_client front) client client_none (λ identifier psm own other_psm asked opened. asked-agrees object_psm P Q at.past one other at.later at.channel at.moment has identifier psm own other_psm asked opened)) front'

      responses : ResponsesCome object_psm P Q at.past one other at.later at.channel at.moment → IsFrontOf now.responses_come now.responses_sent
      responses (inl none) = none_of now.responses_come now.responses_sent (heard_is ∙ none)
      responses (inr front') =
          front_of (handed_for object_psm (run_of P one).up) (taken_of Q at.channel.own other) now.responses_come now.responses_sent heard_is
          (sum.gone ∙ went-is object_psm settings content at.channel.own (flat_map of_server front) server server_none (λ psm own opened. far-agrees object_psm P Q at.past one other at.later at.channel at.moment psm own opened)) front'

  pub stays-piped : StaysPiped (asking settings content) pair.turns client server
  stays-piped twists is = stay-piped settings content twists (new_both client server) no_pipes (λ front rest split. pipes_at front (at_moment twists front rest is split))
