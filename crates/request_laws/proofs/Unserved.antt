-- On a link over L2CAP nothing comes to a client on a channel to a PSM that a service may have, but to that of the object: a server sends on no other.
use Rattle.std.proofs.Common.{◌≡◌, ℕ, Bool, true, false, cond, eqb, ◌&&◌, List, [], ◌∷◌, ◌++◌, Option, Some, None, refl, sym, ap, ap₂, subst, ◌∙◌}
use Rattle.std.specs.Prelude.{not}
use Rattle.std.specs.List.{AllByRecursion, flat_map}
use Rattle.std.proofs.lemmas.Bool.{eqb-true, eq-eqb}
use Rattle.pair_laws.specs.bt_base.specs.declared.settings.Settings.{Settings}
use Rattle.pair_laws.specs.bt_base.specs.Objects.{Contents}
use Rattle.pair_laws.specs.push_terms.specs.declared.word.Side.TheVariants as sides
use Rattle.pair_laws.specs.sdp_elements.specs.Targets.{is_service_psm}
use Rattle.pair_laws.specs.l2cap_config.specs.declared.wish.Mode.TheVariants.{Basic, Enhanced}
use Rattle.pair_laws.specs.l2cap_config.specs.declared.wish.Wish.{Wish}
use Rattle.pair_laws.specs.link_talk.specs.declared.channel.Channel.{Channel}
use Rattle.pair_laws.specs.link_talk.specs.Channels.{Entry, reading}
use Rattle.pair_laws.specs.acl_fragments.specs.Pieces.{channel_of}
use Rattle.pair_laws.specs.channel_model.specs.Carrying.{Up as Handed, Nothing, Received}
use Rattle.pair_laws.specs.channel_model.specs.Hearing.{up}
use Rattle.pair_laws.specs.channel_model.specs.Policies.{Policy, policy, enhanced_wish, wished}
use Rattle.pair_laws.specs.channel_model.specs.Value.{Channels, no_channels}
use Rattle.pair_laws.specs.channel_laws.specs.Common.{mirrored}
use Rattle.pair_laws.specs.channel_laws.specs.Delivered.{IsRunBy}
use Rattle.pair_laws.specs.channel_laws.specs.Endpoints.{IsOf}
use Rattle.pair_laws.specs.channel_laws.specs.Frames.{AreUttered}
use Rattle.pair_laws.specs.channel_laws.specs.Pairs.{Near, Pair, pair_of}
use Rattle.pair_laws.specs.channel_laws.specs.Pipes.{HaveChannel, AreCarried, IsFront}
use Rattle.pair_laws.specs.channel_laws.specs.Runs.{Occurrence, Run, run_of, sdus_up}
use Rattle.pair_laws.specs.channel_laws.specs.Taken.{taken_of}
use Rattle.pair_laws.specs.channel_laws.specs.Views.{channel_by, read_at}
use Rattle.pair_laws.specs.channel_laws.proofs.Delivered.{wished-is_delivered}
use Rattle.pair_laws.specs.channel_laws.proofs.Sharing.{channels-are_common}
use Rattle.pair_laws.specs.push_model.specs.declared.outlet.Outlet.{Outlet}
use Rattle.pair_laws.specs.push_model.specs.declared.outlet.Outlet.TheVariants as outlets
use Rattle.pair_laws.specs.push_model.specs.Server as server
use Rattle.pair_laws.specs.push_model.specs.Server.{Server, Lent, lends, lent_sdu, frame_lent, search_psm, rfcomm_psm, object_psm}
use Rattle.pair_laws.specs.push_laws.specs.Occurrences as served
use Rattle.pair_laws.specs.push_laws.specs.Parties.{sdu_if}
use Rattle.pair_laws.specs.rfcomm_frames.specs.Frames.{PlainFrame}
use Rattle.pair_laws.specs.host_model.specs.Endpoints.{endpoint_of, takes_sdu}
use Rattle.pair_laws.specs.host_model.specs.Pdus.{sdu_of}
use Rattle.pair_laws.specs.host_model.specs.Servers.{ServerProfile, server_profile}
use Rattle.pair_laws.specs.host_laws.specs.Calls.{values_after}
use Rattle.pair_laws.specs.host_laws.specs.Fed.{feeds_up}
use Rattle.pair_laws.specs.host_laws.specs.Serving.{taken_by, lent_by, served_from}
use Rattle.pair_laws.specs.host_laws.specs.Woven.{Strand, Hearing, Giving, Firing, Telling, Gifting, Learning, Checking, Stepping, strand_list, strand_profile, woven_list}
use Rattle.pair_laws.specs.host_laws.proofs.Asking.{hosts_ask}
use Rattle.pair_laws.specs.scenario_laws.specs.Parties.{party_of}
use Rattle.pair_laws.specs.scenario_laws.proofs.Wishes.{states_frame}
use Rattle.pair_laws.specs.Pairs.{PairOnLink}
use Rattle.pair_laws.proofs.Whole.{both_can}
use Rattle.request_laws.specs.HandedUp.{handed_for}
use Rattle.request_laws.specs.Streams.{gone_on}
use Rattle.request_laws.proofs.Accepted.{Accepted, Opened, all-opened}
use Rattle.request_laws.proofs.AmongTaken.{went-among, OpensFor}
use Rattle.request_laws.proofs.Delivering.{ups-all}
use Rattle.request_laws.proofs.ServerTakes.{told_goes, news_go, goes_by, went}
use Rattle.request_laws.proofs.Sole.{is_of}

-- ---- of such a PSM

first_of : (a b : Bool) → (a && b) ≡ true → a ≡ true
first_of true b is = refl
first_of false b is = cc

second_of : (a b : Bool) → (a && b) ≡ true → b ≡ true
second_of true b is = is
second_of false b is = cc

none_of : (b : Bool) → not b ≡ true → b ≡ false
none_of false is = refl
none_of true is = cc

turned : (a b : ℕ) → eqb b a ≡ false → eqb a b ≡ false
turned a b is = by (eqb a b) refl
  where
    by : (same : Bool) → eqb a b ≡ same → eqb a b ≡ false
    by false at = at
    by true at = let never : true ≡ false = sym (eq-eqb b a (sym (eqb-true a b at))) ∙ is in cc

none_left : (list : List (List ℕ)) → AllByRecursion (λ (sdu : List ℕ). ⊥) list → list ≡ []
none_left [] all = refl
none_left (sdu ∷ list) all = absurd all.0

front_none : (front all : List (List ℕ)) → all ≡ [] → IsFront front all → front ≡ []
front_none [] all none front = refl
front_none (sdu ∷ rest) all none front = let never : sdu ∷ (rest ++ front.0) ≡ [] = sym front.1 ∙ none in cc

module _ (psm : ℕ) (service : is_service_psm psm ≡ true) (away : eqb psm object_psm ≡ false) where
  not_search : eqb psm 0x0001 ≡ false
  not_search = none_of (eqb psm 0x0001) (first_of (not (eqb psm 0x0001)) (not (eqb psm 0x0003)) (second_of _ (not (eqb psm 0x0001) && not (eqb psm 0x0003)) service))

  not_mux : eqb psm 0x0003 ≡ false
  not_mux = none_of (eqb psm 0x0003) (second_of (not (eqb psm 0x0001)) (not (eqb psm 0x0003)) (second_of _ (not (eqb psm 0x0001) && not (eqb psm 0x0003)) service))

  -- ---- what goes from the server

  LendsOther : Option Lent → Type 0
  LendsOther None = Unit {0}
  LendsOther (Some lent) = eqb lent.psm psm ≡ false

  frame_other : (frame : Option PlainFrame) → LendsOther (frame_lent frame)
  unfolding LendsOther
  frame_other None = tt
  frame_other (Some frame) = turned rfcomm_psm psm not_mux

  lends_other : (outlet : Option Outlet) (s : Server) → LendsOther (server.lent_by outlet s)
  unfolding LendsOther frame_other
  lends_other None s = tt
  lends_other (Some outlets.Records) s = turned search_psm psm not_search
  lends_other (Some outlets.Direct) s = turned object_psm psm away
  lends_other (Some outlets.Muxed) s = frame_other s.frame

  if_none : (here : Bool) (sdu : List ℕ) → here ≡ false → sdu_if here sdu ++ [] ≡ []
  if_none false sdu is = refl
  if_none true sdu is = cc

  lent_none : (lent : Option Lent) (v : Channels) (p : ServerProfile) → LendsOther lent → flat_map (gone_on psm) (lent_by lent v p ++ []) ≡ []
  unfolding LendsOther
  lent_none None v p other = refl
  lent_none (Some lent) v p other = on (endpoint_of lent.psm p.endpoints)
    where
      by : (taken : Bool) → flat_map (gone_on psm) (cond taken (served.Went lent.psm (sdu_of lent.payload) ∷ []) [] ++ []) ≡ []
      by false = refl
      by true = if_none (eqb lent.psm psm) (sdu_of lent.payload) other

      on : (found : Option ℕ) → flat_map (gone_on psm) (taken_by found lent v ++ []) ≡ []
      on None = refl
      on (Some at) = by (takes_sdu at (sdu_of lent.payload) v)

  module _ (settings : Settings) (content : Option Contents) where
    strand_none : (strand : Strand) (v : Channels) (p : ServerProfile) → goes_by psm settings content strand v p ≡ []
    strand_none (Hearing pdu) v p = up_none (up (channel_of pdu) pdu v)
      where
        up_none : (brought : Handed) → flat_map (gone_on psm) (served_from settings content p (feeds_up brought)) ≡ []
        up_none Nothing = refl
        up_none (Received at other sdu) = refl
    strand_none (Giving pdu) v p = refl
    strand_none Firing v p = refl
    strand_none Telling v p = told_goes psm settings content v.events v p
    strand_none (Gifting circumstances) v p = refl
    strand_none (Learning circumstances news) v p = news_go psm settings content news
    strand_none Checking v p = refl
    strand_none Stepping v p = lent_none (lent_sdu (lends p.server)) v p (lends_other (lends p.server).lent (lends p.server))

    went_none : (weave : List Strand) (v : Channels) (p : ServerProfile) → went psm settings content weave v p ≡ []
    went_none [] v p = refl
    went_none (strand ∷ weave) v p =
        let B = server_profile settings content in
        ap₂ (λ (a b : List (List ℕ)). a ++ b) (strand_none strand v p) (went_none weave (values_after B.policy v (strand_list B (hosts_ask.servers settings content) strand v p)) (strand_profile B strand v p))

  -- ---- on a link

  enhanced : (search muxed : Bool) (a b c : Wish) → search ≡ false → muxed ≡ false → c.mode ≡ Enhanced → (cond search a (cond muxed b c)).mode ≡ Enhanced
  enhanced false false a b c one two is = is
  enhanced true muxed a b c one two is = cc
  enhanced false true a b c one two is = cc

  wishes : (settings : Settings) → (wished settings psm).mode ≡ Enhanced
  wishes settings = enhanced (eqb psm 0x0001) (eqb psm 0x0003) (record (enhanced_wish settings) { mode = Basic; mtu = 672 }) (record (enhanced_wish settings) { mode = Basic }) (enhanced_wish settings) not_search not_mux refl

  same_psm : (one other : Channel) (found : Option Entry) → IsOf one found → Accepted other found → other.psm ≡ one.psm
  same_psm one other None of is = absurd of
  same_psm one other (Some entry) of is = ap (λ (c : Channel). c.psm) (sym is.0 ∙ of)

  module _ (settings : Settings) (content : Option Contents) (near_all far_all : List Occurrence) (pair : PairOnLink (policy settings false) (policy settings true) near_all far_all) (carried : AreCarried (policy settings false) (policy settings true) pair.turns)
      (near_utters : AreUttered (policy settings false) near_all) (far_utters : AreUttered (policy settings true) far_all) (weave : List Strand) (first : ServerProfile) (new : first.endpoints ≡ [])
      (far_is : far_all ≡ woven_list (server_profile settings content) (hosts_ask.servers settings content) weave no_channels first) where
    abbrev P : Policy
    P = policy settings false

    abbrev Q : Policy
    Q = policy settings true

    both : Pair
    both = pair_of P Q pair.turns

    common : (own peer : ℕ) → Accepted (channel_by psm own peer) (read_at own (reading (pair_of P Q pair.turns).near.run.said).entries) → IsOf (channel_by psm peer own) (read_at peer (reading (pair_of P Q pair.turns).far.run.said).entries)
    common own peer is = by (read_at own (reading (pair_of P Q pair.turns).near.run.said).entries) refl is
      where
        by : (found : Option Entry) → read_at own (reading (pair_of P Q pair.turns).near.run.said).entries ≡ found → Accepted (channel_by psm own peer) found → IsOf (channel_by psm peer own) (read_at peer (reading (pair_of P Q pair.turns).far.run.said).entries)
        by None at is = absurd is
        by (Some entry) at is =
            subst (λ (c : Channel). IsOf (mirrored c) (read_at c.peer (reading (pair_of P Q pair.turns).far.run.said).entries)) is.0 (channels-are_common P Q pair.turns pair.read Near own entry at is.1)

    taken_none : (own peer : ℕ) → IsOf (channel_by psm peer own) (read_at peer (reading (run_of Q far_all).said).entries) → taken_of Q peer far_all ≡ []
    taken_none own peer there =
        let list = woven_list (server_profile settings content) (hosts_ask.servers settings content) weave no_channels first in
        let sure : OpensFor (λ (sdu : List ℕ). ⊥) psm settings content list peer =
        λ at at_own (at_peer, opened) here.
        eq-eqb at psm (same_psm (channel_by psm peer own) (channel_by at at_own at_peer) (read_at peer (reading (run_of Q list).said).entries) (subst (λ (l : List Occurrence). IsOf (channel_by psm peer own) (read_at peer (reading (run_of Q l).said).entries)) far_is there)
        (subst (λ (n : ℕ). Accepted (channel_by at at_own at_peer) (read_at n (reading (run_of Q list).said).entries)) (eqb-true at_own peer here) opened)) in
        none_left (taken_of Q peer far_all)
        (subst (λ (l : List Occurrence). AllByRecursion (λ (sdu : List ℕ). ⊥) (taken_of Q peer l)) (sym far_is)
        (went-among (λ (sdu : List ℕ). ⊥) psm settings content peer weave first new sure
        (subst (AllByRecursion (λ (sdu : List ℕ). ⊥)) (sym (went_none settings content weave no_channels first)) tt)))

    up_none : (own : ℕ) → Opened (run_of P near_all).said psm own → AllByRecursion (λ (sdu : List ℕ). ⊥) (sdus_up own (run_of P near_all).up)
    up_none own (peer, is) =
        let here = subst (λ (r : Run). Accepted (channel_by psm own peer) (read_at own (reading r.said).entries)) (sym pair.near_is) is in
        let there = common own peer here in
        let has : HaveChannel P Q pair.turns (channel_by psm own peer) = record { near_has = is_of (channel_by psm own peer) (read_at own (reading (pair_of P Q pair.turns).near.run.said).entries) here; far_has = there } in
        let near_by : IsRunBy P (pair_of P Q pair.turns).near.run near_all = record { run_is = pair.near_is; uttered = near_utters } in
        let far_by : IsRunBy Q (pair_of P Q pair.turns).far.run far_all = record { run_is = pair.far_is; uttered = far_utters } in
        let delivers = wished-is_delivered P Q pair.turns (channel_by psm own peer) near_all far_all pair.fair pair.read carried has (both_can settings psm) (wishes settings) (wishes settings) near_by far_by in
        let front : IsFront (sdus_up own (pair_of P Q pair.turns).near.run.up) (taken_of Q peer far_all) = delivers.0 (party_of settings sides.B) (states_frame settings true sides.B) in
        let none = front_none (sdus_up own (pair_of P Q pair.turns).near.run.up) (taken_of Q peer far_all)
        (taken_none own peer (subst (λ (r : Run). IsOf (channel_by psm peer own) (read_at peer (reading r.said).entries)) pair.far_is there)) front in
        subst (AllByRecursion (λ (sdu : List ℕ). ⊥)) (sym (ap (λ (r : Run). sdus_up own r.up) (sym pair.near_is) ∙ none)) tt

    pub none_comes : handed_for psm (run_of (policy settings false) near_all).up ≡ []
    none_comes = none_left (handed_for psm (run_of P near_all).up) (ups-all (λ (sdu : List ℕ). ⊥) psm (run_of P near_all).said (run_of P near_all).up up_none (all-opened P near_all))
