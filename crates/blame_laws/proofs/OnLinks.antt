-- Both hosts through a link: what each hears on the channels to the service records is the request, and the reply to it.
use Rattle.std.proofs.Common.{◌≡◌, ℕ, Bool, true, false, ◌==◌, List, [], ◌∷◌, ◌++◌, Option, refl, sym, ap, subst, ◌∙◌}
use Rattle.std.specs.List.{All, AllByRecursion, Contains, flat_map}
use Rattle.std.proofs.lemmas.List.Elements.{All-weaker, All-contains, All-from_recursion, recursion_from_All}
use Rattle.request_laws.specs.acl_fragments.specs.Pieces.{channel_of}
use Rattle.request_laws.specs.bt_base.specs.Objects.{Contents}
use Rattle.request_laws.specs.bt_base.specs.declared.settings.Settings.{Settings}
use Rattle.request_laws.specs.channel_model.specs.declared.event.ChannelEvent.{ChannelEvent}
use Rattle.request_laws.specs.channel_model.specs.Carrying.{Up as Handed, Nothing, Received}
use Rattle.request_laws.specs.channel_model.specs.Hearing.{up}
use Rattle.request_laws.specs.channel_model.specs.Policies.{policy}
use Rattle.request_laws.specs.channel_model.specs.Value.{Channels, no_channels}
use Rattle.request_laws.specs.channel_laws.specs.Frames.{AreUttered}
use Rattle.request_laws.specs.channel_laws.specs.Pairs.{new_pair}
use Rattle.request_laws.specs.channel_laws.specs.Pipes.{AreCarried}
use Rattle.request_laws.specs.channel_laws.specs.Runs as channels
use Rattle.request_laws.specs.push_model.specs.Events.{search_psm}
use Rattle.request_laws.specs.push_laws.specs.Parties.{sdu_if}
use Rattle.request_laws.specs.push_laws.proofs.Lookups.{reply}
use Rattle.request_laws.specs.world_model.specs.Machines.{News, Linked, Failed, Heard, TimerFired, Cancelled, Opening}
use Rattle.request_laws.specs.host_model.specs.Circumstances.{Circumstance}
use Rattle.request_laws.specs.host_model.specs.Clients.{ClientProfile, client_profile}
use Rattle.request_laws.specs.host_model.specs.Servers.{ServerProfile, server_profile}
use Rattle.request_laws.specs.host_laws.specs.Fed.{feeds_up, next_happening, strand_feeds}
use Rattle.request_laws.specs.host_laws.specs.Pushing.{Affair, Begins, Does, pushed_from}
use Rattle.request_laws.specs.host_laws.specs.Serving.{served_from}
use Rattle.request_laws.specs.host_laws.specs.Woven.{Strand, Hearing, Giving, Firing, Telling, Gifting, Learning, Checking, Stepping, strand_profile, woven_profile, Woven}
use Rattle.request_laws.specs.host_laws.proofs.StrandsFed.{strand_so}
use Rattle.request_laws.specs.pair_laws.specs.Orders.{joints_from}
use Rattle.request_laws.specs.pair_laws.specs.Pairs.{PairOnLink}
use Rattle.request_laws.specs.Streams.{come_on, gone_on, heard_on, taken_at, Streams, no_streams, streams_after}
use Rattle.request_laws.specs.Twists.{Twist, AtClient, AtServer, of_client, of_server, Both, new_both, both_after, all_deeds, OpensNone}
use Rattle.request_laws.proofs.Feeding.{all_ahead, all_both, Holds, NewsSo, FeedSo, all_so, strand_client}
use Rattle.request_laws.proofs.Joining.{lift}
use Rattle.request_laws.proofs.ServerTakes.{told_goes, news_go, goes_by}
use Rattle.request_laws.proofs.Summing.{asking, behind, both_ask}
use Rattle.request_laws.proofs.Truths.{AllStayTrue}
use Rattle.blame_laws.proofs.Arriving.{records-stay_true}
use Rattle.blame_laws.proofs.Asking.{Fits, Well, all_well, takes_requests}
use Rattle.blame_laws.proofs.Replying.{IsRequest, IsReply, Replies, fed_replies, goes_reply, comes-right}

-- what is among such is such
among : (F : List ℕ → Type 0) (some all : List (List ℕ)) → All (Contains all) some → AllByRecursion F all → AllByRecursion F some
among F some all are so = recursion_from_All F some (All-weaker (Contains all) F (λ sdu in'. All-contains F all sdu (All-from_recursion F all so) in') some are)

module _ (settings : Settings) (content : Option Contents) where
  -- ---- what a client hears

  abbrev FitsSo : Affair → Type 0
  FitsSo (Begins size name) = ⊥
  FitsSo (Does deed) = Fits settings.serves deed

  fits_hold : Holds FitsSo
  fits_hold = record { asks = λ parts. tt; finishes = tt; cancels = tt; down = λ reason. tt; failed = λ status. tt; opened = λ psm mtu. tt; closed = λ psm cause. tt; told = tt; lost = tt; timer = tt }

  sdu_fits : (here : Bool) (sdu : List ℕ) → AllByRecursion (IsReply settings.serves) (sdu_if here sdu ++ []) → here ≡ true → sdu ≡ reply settings.serves
  sdu_fits true sdu all is = all.0
  sdu_fits false sdu all is = absurd (let never : false ≡ true = is in cc)

  abbrev HearsReplies : ClientProfile → Strand → Channels → Type 0
  HearsReplies p strand v = AllByRecursion (IsReply settings.serves) (flat_map (heard_on search_psm) (all_deeds (pushed_from settings p (strand_feeds strand v))))

  up_fits : (brought : Handed) (p : ClientProfile) → AllByRecursion (IsReply settings.serves) (flat_map (heard_on search_psm) (all_deeds (pushed_from settings p (feeds_up brought)))) → AllByRecursion (FeedSo FitsSo) (feeds_up brought)
  up_fits Nothing p all = tt
  up_fits (Received own psm sdu) p all = (sdu_fits (psm == search_psm) sdu all, tt)

  next_fits : (found : List ChannelEvent) (v : Channels) → AllByRecursion (FeedSo FitsSo) (next_happening found v)
  next_fits [] v = tt
  next_fits (event ∷ found) v = (tt, tt)

  learned_fits : (circumstances : List Circumstance) (heard : News) → OpensNone (Learning circumstances heard) → NewsSo FitsSo heard
  learned_fits circumstances (Linked event) none = absurd none
  learned_fits circumstances (Failed status) none = absurd none
  learned_fits circumstances (Heard pdu) none = tt
  learned_fits circumstances TimerFired none = tt
  learned_fits circumstances Cancelled none = tt
  learned_fits circumstances (Opening name) none = none

  feeds_fit : (strand : Strand) (v : Channels) (p : ClientProfile) → OpensNone strand → HearsReplies p strand v → AllByRecursion (FeedSo FitsSo) (strand_feeds strand v)
  feeds_fit (Hearing pdu) v p none all = up_fits (up (channel_of pdu) pdu v) p all
  feeds_fit (Giving pdu) v p none all = tt
  feeds_fit Firing v p none all = tt
  feeds_fit Telling v p none all = next_fits v.events v
  feeds_fit (Gifting circumstances) v p none all = (tt, tt)
  feeds_fit (Learning circumstances heard) v p none all = (learned_fits circumstances heard none, tt)
  feeds_fit Checking v p none all = (tt, tt)
  feeds_fit Stepping v p none all = (tt, tt)

  deeds_fit : (affairs : List Affair) → AllByRecursion FitsSo affairs → AllByRecursion (Fits settings.serves) (all_deeds affairs)
  deeds_fit [] all = tt
  deeds_fit (Begins size name ∷ affairs) all = absurd all.0
  deeds_fit (Does deed ∷ affairs) all = (all.0, deeds_fit affairs all.1)

  strand_well : (strand : Strand) (v : Channels) (p : ClientProfile) → OpensNone strand → HearsReplies p strand v → Well settings p.client → Well settings (strand_profile (client_profile settings) strand v p).client
  strand_well strand v p none all well =
      let affairs = pushed_from settings p (strand_feeds strand v) in
      subst (Well settings) (sym (strand_client settings (both_ask.clients settings) strand v p none))
      (all_well settings (all_deeds affairs) p.client (deeds_fit affairs (all_so FitsSo fits_hold settings (strand_feeds strand v) p (feeds_fit strand v p none all))) well)

  strand_takes : (strand : Strand) (v : Channels) (p : ClientProfile) → Well settings p.client → AllByRecursion IsRequest (taken_at search_psm strand v p)
  strand_takes (Hearing pdu) v p well = tt
  strand_takes (Giving pdu) v p well = tt
  strand_takes Firing v p well = tt
  strand_takes Telling v p well = tt
  strand_takes (Gifting circumstances) v p well = tt
  strand_takes (Learning circumstances heard) v p well = tt
  strand_takes Checking v p well = tt
  strand_takes Stepping v p well = takes_requests settings p v well

  -- ---- what goes from a server

  up_goes : (brought : Handed) (q : ServerProfile) → AllByRecursion (IsReply settings.serves) (flat_map (gone_on search_psm) (served_from settings content q (feeds_up brought)))
  up_goes Nothing q = tt
  up_goes (Received own psm sdu) q = tt

  strand_goes : (strand : Strand) (v : Channels) (q : ServerProfile) → Replies settings.serves q.server → AllByRecursion (IsReply settings.serves) (goes_by search_psm settings content strand v q)
  strand_goes (Hearing pdu) v q so = up_goes (up (channel_of pdu) pdu v) q
  strand_goes (Giving pdu) v q so = tt
  strand_goes Firing v q so = tt
  strand_goes Telling v q so = subst (AllByRecursion (IsReply settings.serves)) (sym (told_goes search_psm settings content v.events v q)) tt
  strand_goes (Gifting circumstances) v q so = tt
  strand_goes (Learning circumstances heard) v q so = subst (AllByRecursion (IsReply settings.serves)) (sym (news_go search_psm settings content heard)) tt
  strand_goes Checking v q so = tt
  strand_goes Stepping v q so = goes_reply settings.serves v q so

  strand_replies : (strand : Strand) (v : Channels) (q : ServerProfile) → AllByRecursion IsRequest (flat_map (come_on search_psm) (served_from settings content q (strand_feeds strand v))) → Replies settings.serves q.server
      → Replies settings.serves (strand_profile (server_profile settings content) strand v q).server
  strand_replies strand v q come so =
      subst (λ (x : ServerProfile). Replies settings.serves x.server) (strand_so (server_profile settings content) (both_ask.servers settings content) strand v q)
      (fed_replies settings.serves settings content (strand_feeds strand v) q (comes-right (served_from settings content q (strand_feeds strand v)) come) so)

  -- ---- both, one thing after the other

  record State (both : Both) (s : Streams) : Type 0 where
    well : Well settings both.client.client
    replies : Replies settings.serves both.server.server
    taken : AllByRecursion IsRequest s.taken
    gone : AllByRecursion (IsReply settings.serves) s.gone

  record Ends (both : Both) : Type 0 where
    well : Well settings both.client.client
    replies : Replies settings.serves both.server.server

  through : (twists : List Twist) (both : Both) (s : Streams) → AllByRecursion OpensNone (flat_map of_client twists) → AllStayTrue search_psm refl (asking settings content) twists both s → State both s → Ends (behind settings content twists both)
  through [] both s opens stays so = record { well = so.well; replies = so.replies }
  through (AtClient strand ∷ twists) both s opens stays so =
      let next = both_after (asking settings content) (AtClient strand) both in
      let after = streams_after search_psm (asking settings content) (AtClient strand) both s in
      let here = flat_map (heard_on search_psm) (all_deeds (pushed_from settings both.client (strand_feeds strand both.near))) in
      let heard = all_ahead (IsReply settings.serves) s.heard here (among (IsReply settings.serves) after.heard after.gone stays.0.back so.gone) in
      through twists next after opens.1 stays.1 (record {
        well = strand_well strand both.near both.client opens.0 heard.1 so.well;
        replies = so.replies;
        taken = all_both IsRequest s.taken (taken_at search_psm strand both.near both.client) so.taken (strand_takes strand both.near both.client so.well);
        gone = so.gone;
      })
  through (AtServer strand ∷ twists) both s opens stays so =
      let next = both_after (asking settings content) (AtServer strand) both in
      let after = streams_after search_psm (asking settings content) (AtServer strand) both s in
      let here = flat_map (come_on search_psm) (served_from settings content both.server (strand_feeds strand both.far)) in
      let come = all_ahead IsRequest s.come here (among IsRequest after.come after.taken stays.0.forth so.taken) in
      through twists next after opens stays.1 (record {
        well = so.well;
        replies = strand_replies strand both.far both.server come.1 so.replies;
        taken = so.taken;
        gone = all_both (IsReply settings.serves) s.gone (goes_by search_psm settings content strand both.far both.server) so.gone (strand_goes strand both.far both.server so.replies);
      })

  behind_client : (twists : List Twist) (both : Both) → (behind settings content twists both).client ≡ woven_profile (client_profile settings) (both_ask.clients settings) (flat_map of_client twists) both.near both.client
  behind_client [] both = refl
  behind_client (AtClient strand ∷ twists) both = behind_client twists (both_after (asking settings content) (AtClient strand) both)
  behind_client (AtServer strand ∷ twists) both = behind_client twists (both_after (asking settings content) (AtServer strand) both)

  behind_server : (twists : List Twist) (both : Both) → (behind settings content twists both).server ≡ woven_profile (server_profile settings content) (both_ask.servers settings content) (flat_map of_server twists) both.far both.server
  behind_server [] both = refl
  behind_server (AtClient strand ∷ twists) both = behind_server twists (both_after (asking settings content) (AtClient strand) both)
  behind_server (AtServer strand ∷ twists) both = behind_server twists (both_after (asking settings content) (AtServer strand) both)

  -- ---- through a link

  pub record LinkEnds (client : ClientProfile) (server : ServerProfile) : Type 0 where
    pub well : Well settings client.client
    pub replies : Replies settings.serves server.server

  pub through_link : (near far : List channels.Occurrence) (pair : PairOnLink (policy settings false) (policy settings true) near far) → AreCarried (policy settings false) (policy settings true) pair.turns → AreUttered (policy settings false) near → AreUttered (policy settings true) far
      → (client last_a : ClientProfile) (server last_b : ServerProfile) (a : Woven (client_profile settings) (both_ask.clients settings) near client last_a) → Woven (server_profile settings content) (both_ask.servers settings content) far server last_b
      → client.endpoints ≡ [] → server.endpoints ≡ [] → AllByRecursion OpensNone a.weave → Well settings client.client → Replies settings.serves server.server → LinkEnds last_a last_b
  through_link near far pair carried near_utters far_utters client last_a server last_b a b client_none server_none opens well replies =
      let all = lift (asking settings content) (joints_from (new_pair (policy settings false) (policy settings true)) pair.turns) a.weave b.weave (new_both client server) (pair.near_list ∙ a.list_is) (pair.far_list ∙ b.list_is) in
      let stays = records-stay_true settings content near far pair carried near_utters far_utters client server client_none server_none all.twists all.joints_are in
      let ends = through all.twists (new_both client server) no_streams (subst (AllByRecursion OpensNone) (sym all.near_is) opens) stays (record { well = well; replies = replies; taken = tt; gone = tt }) in
      let A = client_profile settings in
      let B = server_profile settings content in
      record {
        well = subst (λ (p : ClientProfile). Well settings p.client)
            (behind_client all.twists (new_both client server) ∙ (ap (λ (w : List Strand). woven_profile A (both_ask.clients settings) w no_channels client) all.near_is ∙ sym a.last_is)) ends.well;
        replies = subst (λ (q : ServerProfile). Replies settings.serves q.server)
            (behind_server all.twists (new_both client server) ∙ (ap (λ (w : List Strand). woven_profile B (both_ask.servers settings content) w no_channels server) all.far_is ∙ sym b.last_is)) ends.replies;
      }
