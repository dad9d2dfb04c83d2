-- What comes and goes on the one channel of a PSM, both ways in its order, is what the talk of its host has spoken there.
use Rattle.std.proofs.Common.{◌≡◌, ℕ, List, [], ◌∷◌, ◌++◌, map, filter_map, Bool, true, false, cond, eqb, ◌&&◌, Option, Some, None, refl, sym, ap, ap₂, subst, ◌∙◌, append_assoc}
use Rattle.std.specs.Prelude.{option_map}
use Rattle.std.specs.List.{AllByRecursion, flat_map, cons_option}
use Rattle.std.proofs.lemmas.Bool.{eqb-true, eq-eqb}
use Rattle.std.proofs.lemmas.List.{map-append}
use Rattle.std.proofs.lemmas.List.Elements.{filter_map-append}
use Rattle.pair_laws.specs.acl_fragments.specs.Pieces.{channel_of}
use Rattle.pair_laws.specs.bt_base.specs.declared.settings.Settings.{Settings}
use Rattle.pair_laws.specs.bt_base.specs.Objects.{Contents}
use Rattle.pair_laws.specs.capture.specs.declared.flow.Flow.TheVariants.{Out, Into}
use Rattle.pair_laws.specs.capture.specs.Histories.{each_after, given_by}
use Rattle.pair_laws.specs.l2cap_config.specs.declared.wish.Mode.TheVariants.{Basic}
use Rattle.pair_laws.specs.link_talk.specs.declared.party.Party.{Party}
use Rattle.pair_laws.specs.link_talk.specs.Channels.{Entry, reading}
use Rattle.pair_laws.specs.link_talk.specs.Carriages.{mode_of}
use Rattle.pair_laws.specs.link_talk.specs.GrowingLaws.{has_opened}
use Rattle.pair_laws.specs.link_talk.specs.Sdus.{Spoken, spoken_as, spoken_with, spoken}
use Rattle.pair_laws.specs.channel_model.specs.declared.event.ChannelEvent.{ChannelEvent}
use Rattle.pair_laws.specs.channel_model.specs.Calls.{carrier_at, carrier_mtu}
use Rattle.pair_laws.specs.channel_model.specs.Carrying.{Up as Handed, Nothing, Received}
use Rattle.pair_laws.specs.channel_model.specs.Hearing.{up}
use Rattle.pair_laws.specs.channel_model.specs.Policies.{Policy, policy}
use Rattle.pair_laws.specs.channel_model.specs.Value.{Carrier, Channels, no_channels}
use Rattle.pair_laws.specs.channel_laws.specs.Endpoints.{IsOf}
use Rattle.pair_laws.specs.channel_laws.specs.Exchanged.{heard_in, exchanged_in, exchanged_of}
use Rattle.pair_laws.specs.channel_laws.specs.Frames.{AreUttered}
use Rattle.pair_laws.specs.channel_laws.specs.Runs.{Occurrence, Comes, Connects, AsksFeatures, Disconnects, Sends, Gives, Fires, Tells, up_with, value_after, Run, run_of}
use Rattle.pair_laws.specs.channel_laws.specs.Taken.{is_free}
use Rattle.pair_laws.specs.channel_laws.specs.Views.{channel_by, read_at}
use Rattle.pair_laws.specs.channel_laws.proofs.Entries.{read-own}
use Rattle.pair_laws.specs.channel_laws.proofs.Exchanged.{exchanged-is_spoken}
use Rattle.pair_laws.specs.channel_laws.proofs.Stretching.{unopened-stretch}
use Rattle.pair_laws.specs.push_model.specs.Server.{lends, lent_sdu}
use Rattle.pair_laws.specs.push_laws.specs.Occurrences as served
use Rattle.pair_laws.specs.push_laws.specs.Parties.{sdu_if}
use Rattle.pair_laws.specs.host_model.specs.Servers.{ServerProfile, server_profile}
use Rattle.pair_laws.specs.host_laws.specs.Calls.{Call, Connect, AskFeatures, Disconnect, Send, from_call, values_after}
use Rattle.pair_laws.specs.host_laws.specs.Carriers.{move_on}
use Rattle.pair_laws.specs.host_laws.specs.Fed.{feeds_up, next_happening, strand_feeds, woven_feeds}
use Rattle.pair_laws.specs.host_laws.specs.OneCarrier.{IsFor}
use Rattle.pair_laws.specs.host_laws.specs.OneOnLinks.{CarriesOneOn}
use Rattle.pair_laws.specs.host_laws.specs.Serving.{news_served, event_served, lent_by, served_from}
use Rattle.pair_laws.specs.host_laws.specs.Woven.{Strand, Hearing, Giving, Firing, Telling, Gifting, Learning, Checking, Stepping, strand_list, strand_profile, woven_list}
use Rattle.pair_laws.specs.host_laws.proofs.Asking.{hosts_ask}
use Rattle.pair_laws.specs.host_laws.proofs.Gaining.{found_in}
use Rattle.pair_laws.specs.host_laws.proofs.StrandsFed.{strand_so}
use Rattle.request_laws.specs.BothFed.{ComesNone}
use Rattle.request_laws.specs.Streams.{come_on, gone_on}
use Rattle.request_laws.proofs.Accepted.{Accepted, Opened, opened-stays, opened-open, OpenedUp, opened-up, up-stays}
use Rattle.request_laws.proofs.Feeding.{all_both, served-both, event_shape, news_shape, lent_shape}
use Rattle.request_laws.proofs.ServerTakes.{Open, Sure, strand_open, strand_goes, told_goes, news_go}
use Rattle.request_laws.proofs.Sole.{CarriesPackets, is_of, for_of, sole}
use Rattle.request_laws.proofs.Takes.{takes_from, run_more, value_behind, AllEndpoints}

-- ---- what a host's channels exchange, from some moment on

module _ (policy : Policy) (own : ℕ) where
  abbrev pub exchanged_from : Channels → List Occurrence → List Spoken
  exchanged_from v [] = []
  exchanged_from v (one ∷ list) = exchanged_in own one v ++ exchanged_from (value_after policy one v) list

  pub exchanged_both : (xs ys : List Occurrence) (v : Channels) → exchanged_from v (xs ++ ys) ≡ exchanged_from v xs ++ exchanged_from (values_after policy v xs) ys
  exchanged_both [] ys v = refl
  exchanged_both (x ∷ xs) ys v =
      let w = value_after policy x v in
      ap (λ (l : List Spoken). exchanged_in own x v ++ l) (exchanged_both xs ys w) ∙ sym (append_assoc (exchanged_in own x v) (exchanged_from w xs) (exchanged_from (values_after policy w xs) ys))

  exchanged_on : (past list : List Occurrence) → each_after (λ front more. exchanged_in own more (run_of policy front).value) past list ≡ exchanged_from (run_of policy past).value list
  exchanged_on past [] = refl
  exchanged_on past (one ∷ list) =
      let v = (run_of policy past).value in
      ap (λ (l : List Spoken). exchanged_in own one v ++ l) (exchanged_on (past ++ one ∷ []) list ∙ ap (λ (r : Run). exchanged_from r.value list) (run_more policy past one))

  pub exchanged_all : (list : List Occurrence) → exchanged_of policy own list ≡ exchanged_from no_channels list
  exchanged_all list = exchanged_on [] list

  -- ---- a channel that is not there

  abbrev Never : List Occurrence → Type 0
  Never all = (psm : ℕ) → Opened (run_of policy all).said psm own → ⊥

  none_heard : (front later : List Occurrence) (brought : Handed) → Never (front ++ later) → OpenedUp (run_of policy (front ++ later)).said brought → heard_in own brought ≡ []
  none_heard front later Nothing never opened = refl
  none_heard front later (Received at psm sdu) never opened = by (eqb at own) refl
    where
      by : (here : Bool) → eqb at own ≡ here → cond here (spoken_as Into sdu ∷ []) [] ≡ []
      by true is = absurd (never psm (subst (λ n. Opened (run_of policy (front ++ later)).said psm n) (eqb-true at own is) opened))
      by false is = refl

  none_taken : (front later : List Occurrence) (at : ℕ) (sdu : List ℕ) → Never (front ++ later) → map (spoken_as Out) (cond (eqb at own && is_free (carrier_at at (run_of policy front).value)) (sdu ∷ []) []) ≡ []
  none_taken front later at sdu never = by (eqb at own) refl (carrier_at at (run_of policy front).value) refl
    where
      by : (here : Bool) → eqb at own ≡ here → (carrier : Option Carrier) → carrier_at at (run_of policy front).value ≡ carrier → map (spoken_as Out) (cond (here && is_free carrier) (sdu ∷ []) []) ≡ []
      by false is carrier at_is = refl
      by true is None at_is = refl
      by true is (Some carrier) at_is =
          let open' = opened-open policy front at (carrier_mtu carrier) (ap (option_map carrier_mtu) at_is) in
          absurd (never open'.0 (subst (λ n. Opened (run_of policy (front ++ later)).said open'.0 n) (eqb-true at own is) (opened-stays policy front later open'.0 at open'.1)))

  none_one : (front later : List Occurrence) (one : Occurrence) → Never (front ++ later) → exchanged_in own one (run_of policy front).value ≡ []
  none_one front later (Comes pdu) never =
      ap (λ (l : List Spoken). l ++ []) (none_heard front later (up_with (Comes pdu) (run_of policy front).value) never (up-stays policy front later (up_with (Comes pdu) (run_of policy front).value) (opened-up policy front (Comes pdu))))
  none_one front later (Connects psm) never = refl
  none_one front later AsksFeatures never = refl
  none_one front later (Disconnects at) never = refl
  none_one front later (Sends at sdu) never = none_taken front later at sdu never
  none_one front later (Gives pdu) never = refl
  none_one front later Fires never = refl
  none_one front later Tells never = refl

  none_exchanged : (front list : List Occurrence) → Never (front ++ list) → exchanged_from (run_of policy front).value list ≡ []
  none_exchanged front [] never = refl
  none_exchanged front (one ∷ list) never =
      ap₂ (λ (a b : List Spoken). a ++ b) (none_one front (one ∷ list) one never)
      (ap (λ (r : Run). exchanged_from r.value list) (sym (run_more policy front one))
      ∙ none_exchanged (front ++ one ∷ []) list (subst Never (sym (append_assoc front (one ∷ []) list)) never))

-- ---- what comes and goes for a server

abbrev pub moves_in : (carrier : ℕ) → List served.Occurrence → List Spoken
moves_in carrier occurrences = filter_map (move_on carrier) occurrences

abbrev outs : List (List ℕ) → List Spoken
outs sdus = map (spoken_as Out) sdus

module _ (carrier : ℕ) where
  never_came : (psm : ℕ) (sdu : List ℕ) → come_on psm (served.Came psm sdu) ≡ [] → ⊥
  never_came psm sdu none = by (eqb psm psm) (eq-eqb psm psm refl) none
    where
      by : (here : Bool) → here ≡ true → sdu_if here sdu ≡ [] → ⊥
      by true is none = cc
      by false is none = cc

  -- where nothing comes, what goes is all
  out_moves : (occurrences : List served.Occurrence) → AllByRecursion ComesNone occurrences → moves_in carrier occurrences ≡ outs (flat_map (gone_on carrier) occurrences)
  out_moves [] none = refl
  out_moves (served.Came psm sdu ∷ rest) none = absurd (never_came psm sdu (none.0 psm))
  out_moves (served.Went psm sdu ∷ rest) none = by (eqb psm carrier) (out_moves rest none.1)
    where
      by : (here : Bool) → moves_in carrier rest ≡ outs (flat_map (gone_on carrier) rest)
          → cons_option (cond here (Some (spoken_as Out sdu)) None) (moves_in carrier rest) ≡ outs (sdu_if here sdu ++ flat_map (gone_on carrier) rest)
      by true same = ap (λ (l : List Spoken). spoken_as Out sdu ∷ l) same
      by false same = same
  out_moves (served.Closed psm ∷ rest) none = out_moves rest none.1
  out_moves (served.LinkDown ∷ rest) none = out_moves rest none.1
  out_moves (served.Asked ∷ rest) none = out_moves rest none.1
  out_moves (served.Answering answers ∷ rest) none = out_moves rest none.1

  quiet_moves : (occurrences : List served.Occurrence) → AllByRecursion ComesNone occurrences → flat_map (gone_on carrier) occurrences ≡ [] → moves_in carrier occurrences ≡ []
  quiet_moves occurrences none gone = out_moves occurrences none ∙ ap outs gone

  -- a call hands nothing up
  pub call_exchanges : (policy : Policy) (own : ℕ) (call : Option Call) (v : Channels) → outs (takes_from policy own v (from_call call)) ≡ exchanged_from policy own v (from_call call)
  call_exchanges policy own None v = refl
  call_exchanges policy own (Some (Connect psm)) v = refl
  call_exchanges policy own (Some AskFeatures) v = refl
  call_exchanges policy own (Some (Disconnect at)) v = refl
  call_exchanges policy own (Some (Send at sdu)) v = map-append (spoken_as Out) (cond (eqb at own && is_free (carrier_at at v)) (sdu ∷ []) []) []

module _ (carrier : ℕ) (settings : Settings) (content : Option Contents) where
  abbrev P : Policy
  P = policy settings true

  abbrev list_of : Strand → Channels → ServerProfile → List Occurrence
  list_of strand v p = strand_list (server_profile settings content) (hosts_ask.servers settings content) strand v p

  abbrev moves_by : Strand → Channels → ServerProfile → List Spoken
  moves_by strand v p = moves_in carrier (served_from settings content p (strand_feeds strand v))

  up_moves : (here : ℕ) (brought : Handed) (p : ServerProfile) (all : List Occurrence) → OpenedUp (run_of (policy settings true) all).said brought → Sure carrier settings content all here
      → moves_in carrier (served_from settings content p (feeds_up brought)) ≡ (heard_in here brought ++ []) ++ []
  up_moves here Nothing p all opened sure = refl
  up_moves here (Received at psm sdu) p all opened sure = by (eqb psm carrier) (eqb at here) (sure psm at opened)
    where
      by : (one two : Bool) → one ≡ two → cons_option (cond one (Some (spoken_as Into sdu)) None) [] ≡ (cond two (spoken_as Into sdu ∷ []) [] ++ []) ++ []
      by true true same = refl
      by false false same = refl
      by true false same = cc
      by false true same = cc

  strand_moves : (front later : List Occurrence) (here : ℕ) (strand : Strand) (v : Channels) (p : ServerProfile) → v ≡ (run_of (policy settings true) front).value → Open carrier settings content front p → Sure carrier settings content (front ++ later) here
      → moves_by strand v p ≡ exchanged_from (policy settings true) here v (list_of strand v p)
  strand_moves front later here (Hearing pdu) v p at all sure =
      up_moves here (up (channel_of pdu) pdu v) p (front ++ later)
      (up-stays P front later (up (channel_of pdu) pdu v) (subst (λ (w : Channels). OpenedUp (run_of P front).said (up (channel_of pdu) pdu w)) (sym at) (opened-up P front (Comes pdu)))) sure
  strand_moves front later here (Giving pdu) v p at all sure = refl
  strand_moves front later here Firing v p at all sure = refl
  strand_moves front later here Telling v p at all sure = by v.events
    where
      by : (found : List ChannelEvent) → moves_in carrier (served_from settings content p (next_happening found v)) ≡ []
      by [] = refl
      by (event ∷ found) = quiet_moves carrier (event_served event ++ []) (all_both ComesNone (event_served event) [] (event_shape event) tt) (told_goes carrier settings content (event ∷ found) v p)
  strand_moves front later here (Gifting circumstances) v p at all sure = refl
  strand_moves front later here (Learning circumstances news) v p at all sure = quiet_moves carrier (news_served news ++ []) (news_shape news) (news_go carrier settings content news)
  strand_moves front later here Checking v p at all sure = refl
  strand_moves front later here Stepping v p at all sure =
      let lent = lent_by (lent_sdu (lends p.server)) v p in
      out_moves carrier (lent ++ []) (all_both ComesNone lent [] (lent_shape (lent_sdu (lends p.server)) v p) tt)
      ∙ (ap outs (strand_goes carrier settings content front later here Stepping v p all sure) ∙ call_exchanges carrier P here ((hosts_ask.servers settings content).call v p) v)

  weave_moves : (here : ℕ) (weave : List Strand) (front : List Occurrence) (v : Channels) (p : ServerProfile) → v ≡ (run_of (policy settings true) front).value → Open carrier settings content front p
      → Sure carrier settings content (front ++ woven_list (server_profile settings content) (hosts_ask.servers settings content) weave v p) here
      → moves_in carrier (served_from settings content p (woven_feeds (server_profile settings content) (hosts_ask.servers settings content) weave v p))
      ≡ exchanged_from (policy settings true) here v (woven_list (server_profile settings content) (hosts_ask.servers settings content) weave v p)
  weave_moves here [] front v p at all sure = refl
  weave_moves here (strand ∷ weave) front v p at all sure =
      let B = server_profile settings content in
      let asks = hosts_ask.servers settings content in
      let list = list_of strand v p in
      let w = values_after P v list in
      let q = strand_profile B strand v p in
      let rest = woven_list B asks weave w q in
      let feeds = strand_feeds strand v in
      let more = woven_feeds B asks weave w q in
      ap (moves_in carrier) (served-both settings content feeds more p ∙ ap (λ (x : ServerProfile). served_from settings content p feeds ++ served_from settings content x more) (strand_so B asks strand v p))
      ∙ (filter_map-append (move_on carrier) (served_from settings content p feeds) (served_from settings content q more)
      ∙ (ap₂ (λ (a b : List Spoken). a ++ b) (strand_moves front (list ++ rest) here strand v p at all sure)
      (weave_moves here weave (front ++ list) w q (value_behind P front list v at) (strand_open carrier settings content front strand v p at all)
      (subst (λ (l : List Occurrence). Sure carrier settings content l here) (sym (append_assoc front list rest)) sure))
      ∙ sym (exchanged_both P here list rest v)))

  -- ---- on a link

  -- of a server that keeps no endpoint when the link comes up, where one channel alone carries packets, that is to be in basic mode
  pub link-moves : (party : Party) (list : List Occurrence) (weave : List Strand) (p : ServerProfile) → list ≡ woven_list (server_profile settings content) (hosts_ask.servers settings content) weave no_channels p → p.endpoints ≡ [] → CarriesPackets carrier
      → (one : CarriesOneOn carrier (policy settings true) list) → ((policy settings true).wish carrier).mode ≡ Basic → AreUttered (policy settings true) list
      → moves_in carrier (served_from settings content p (woven_feeds (server_profile settings content) (hosts_ask.servers settings content) weave no_channels p)) ≡ spoken party one.channel (run_of (policy settings true) list).said
  link-moves party list weave p is none carries one basic uttered =
      weave_moves one.channel.own weave [] no_channels p refl (subst (AllEndpoints (λ e. Opened [] e.psm e.own)) (sym none) tt) (subst (λ (l : List Occurrence). Sure carrier settings content l one.channel.own) is sure)
      ∙ (ap (exchanged_from P one.channel.own no_channels) (sym is) ∙ by (read_at one.channel.own (reading (run_of P list).said).entries) refl)
    where
      sure : Sure carrier settings content list one.channel.own
      sure psm at (peer, opened) =
          (sole carrier one.channel (channel_by psm at peer) carries one.psm_is
          (for_of one.channel (channel_by psm at peer) (run_of P list).said at one.alone (is_of (channel_by psm at peer) (read_at at (reading (run_of P list).said).entries) opened))).agrees

      by : (found : Option Entry) → read_at one.channel.own (reading (run_of P list).said).entries ≡ found → exchanged_from P one.channel.own no_channels list ≡ spoken party one.channel (run_of P list).said
      by None unread =
          none_exchanged P one.channel.own [] list (λ psm (peer, opened). subst (Accepted (channel_by psm one.channel.own peer)) unread opened)
          ∙ sym (ap (λ cs. given_by (spoken_with party (mode_of one.channel (run_of P list).said)) cs) (unopened-stretch one.channel (run_of P list).said (ap has_opened unread)))
      by (Some entry) found =
          let fit : IsFor one.channel entry.channel = found_in one.channel.own (λ (e : Entry). IsFor one.channel e.channel) (reading (run_of P list).said).entries entry one.alone found in
          let same : entry.channel ≡ one.channel = fit.same (eq-eqb entry.channel.own one.channel.own (read-own one.channel.own (reading (run_of P list).said).entries entry found)) in
          let has : IsOf one.channel (read_at one.channel.own (reading (run_of P list).said).entries) = subst (IsOf one.channel) (sym found) same in
          sym (exchanged_all P one.channel.own list) ∙ sym (exchanged-is_spoken P party list one.channel uttered has (ap (λ n. (P.wish n).mode) one.psm_is ∙ basic))
