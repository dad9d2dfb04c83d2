-- The own talk of host a covers what it spent on each link over RFCOMM.
use Rattle.std.proofs.Common.{suc, ◌≡◌, ℕ, Bool, true, false, ◌&&◌, not, List, [], ◌∷◌, ◌++◌, map, Some, None, Ok, refl, sym, ap, subst, ◌∙◌, inl, arith, find}
use Rattle.std.specs.Prelude.{get_or}
use Rattle.std.specs.List.{AllByRecursion, flat_map}
use Rattle.inbox_laws.specs.bt_base.specs.declared.settings.Settings.{Settings}
use Rattle.inbox_laws.specs.bt_base.specs.declared.settings.Transport.TheVariants.{Rfcomm}
use Rattle.inbox_laws.specs.bt_base.specs.Objects.{Object}
use Rattle.inbox_laws.specs.capture.specs.Histories.{each_after}
use Rattle.inbox_laws.specs.push_terms.specs.declared.word.Side.TheVariants as sides
use Rattle.inbox_laws.specs.rfcomm_frames.specs.declared.connection.Role.TheVariants.{Initiator}
use Rattle.inbox_laws.specs.rfcomm_frames.specs.Frames.{PlainFrame}
use Rattle.inbox_laws.specs.rfcomm_frames.specs.Multiplexing.{frames}
use Rattle.inbox_laws.specs.link_talk.specs.declared.channel.Channel.{Channel}
use Rattle.inbox_laws.specs.link_talk.specs.declared.party.Party.{Party}
use Rattle.inbox_laws.specs.link_talk.specs.Carriages.{Carriage, mode_of, has_own}
use Rattle.inbox_laws.specs.link_talk.specs.Channels.{Entry, reading}
use Rattle.inbox_laws.specs.link_talk.specs.GrowingLaws.{has_opened}
use Rattle.inbox_laws.specs.link_talk.specs.Packets.{passed}
use Rattle.inbox_laws.specs.link_talk.specs.Sayings.{Saying}
use Rattle.inbox_laws.specs.link_talk.specs.Sdus.{Spoken, spoken_with, spoken}
use Rattle.inbox_laws.specs.talk_laws.proofs.Owning.{alone}
use Rattle.inbox_laws.specs.channel_model.specs.Policies.{policy}
use Rattle.inbox_laws.specs.channel_model.specs.Value.{Channels, no_channels}
use Rattle.inbox_laws.specs.channel_laws.specs.Endpoints.{IsOf}
use Rattle.inbox_laws.specs.channel_laws.specs.Exchanged.{exchanged_of}
use Rattle.inbox_laws.specs.channel_laws.specs.Frames.{AreUttered}
use Rattle.inbox_laws.specs.channel_laws.specs.Runs.{Occurrence, run_of}
use Rattle.inbox_laws.specs.channel_laws.specs.Views.{read_at}
use Rattle.inbox_laws.specs.channel_laws.proofs.Both.{and-right}
use Rattle.inbox_laws.specs.channel_laws.proofs.Exchanged.{exchanged-is_spoken}
use Rattle.inbox_laws.specs.channel_laws.proofs.Stretching.{unopened-stretch}
use Rattle.inbox_laws.specs.push_model.specs.Client.{Client, is_idle, with_object}
use Rattle.inbox_laws.specs.push_model.specs.Events as events
use Rattle.inbox_laws.specs.push_model.specs.Laws.{Deed, Hears, done, all_done}
use Rattle.inbox_laws.specs.push_model.specs.Server.{rfcomm_psm}
use Rattle.inbox_laws.specs.push_laws.specs.Carriage.{frames_by, heard_by}
use Rattle.inbox_laws.specs.world_model.specs.Machines.{LinkEvent, Up, Down}
use Rattle.inbox_laws.specs.host_model.specs.Circumstances.{Circumstance}
use Rattle.inbox_laws.specs.host_model.specs.Clients.{ClientProfile, is_paging, client_profile}
use Rattle.inbox_laws.specs.host_laws.specs.Asked.{AreAsked}
use Rattle.inbox_laws.specs.host_laws.specs.Calls.{values_after}
use Rattle.inbox_laws.specs.host_laws.specs.Fed.{WovenFed, FedSpan, span_feeds, behind_span, AreFed}
use Rattle.inbox_laws.specs.host_laws.specs.Feeds.{Feed, all_fed}
use Rattle.inbox_laws.specs.host_laws.specs.Lives.{Span, all_marks}
use Rattle.inbox_laws.specs.host_laws.specs.OverLinks.{AreTimely}
use Rattle.inbox_laws.specs.host_laws.specs.Pushing.{Affair, Begins, Does, client_behind, pushed_from, AllAsked}
use Rattle.inbox_laws.specs.host_laws.specs.Woven.{Strand, turned}
use Rattle.inbox_laws.specs.host_laws.proofs.Pushing.{all_pushed}
use Rattle.request_laws.specs.BothFed.{over_stored}
use Rattle.inbox_laws.specs.host_laws.proofs.StrandsFed.{here_so}
use Rattle.request_laws.specs.Carried.{frames_over, IsReadSo}
use Rattle.request_laws.specs.Twists.{Set, all_deeds, OpensNone}
use Rattle.request_laws.proofs.Accepted.{Accepted}
use Rattle.request_laws.proofs.ClientTakes.{WasAsked, Sure}
use Rattle.request_laws.proofs.Feeding.{all_both, IsDeed}
use Rattle.request_laws.proofs.Linked.{up_opens, wanted_up, down_off}
use Rattle.request_laws.proofs.Moved.{exchanged_from, exchanged_all}
use Rattle.request_laws.proofs.MuxHeard.{GoodMux}
use Rattle.request_laws.proofs.MuxPushed.{IsSo, IsHeldOver, goes-on, TrueTwined, no-push, one-push}
use Rattle.request_laws.proofs.OnPsm.{mux_heard_one}
use Rattle.request_laws.proofs.Opening.{fed_between, begins_between, turned_free}
use Rattle.request_laws.proofs.Paired.{lists_of}
use Rattle.request_laws.proofs.Pushes.{asked_ahead, good_all, begun_at, Splits, splits, deeds_on}
use Rattle.request_laws.proofs.Silent.{AllSilent}
use Rattle.request_laws.proofs.Summing.{both_ask}
use Rattle.request_laws.proofs.Takes.{AllEndpoints}
use Rattle.request_laws.proofs.Timely.{HearsNothing, is_up, goes_down, is_deaf, is_deaf_now, is_down}
use Rattle.inbox_laws.specs.scenario_laws.specs.Parties.{party_of}
use Rattle.credit_laws.specs.Clients.{own_frame, all_framed}
use Rattle.credit_laws.specs.Seen.{IsCoveredOn, AreCovered}
use Rattle.credit_laws.proofs.Courses.{Course, Ahead, course_deeds, quiet_framed}
use Rattle.credit_laws.proofs.Deaf.{deaf-covered}
use Rattle.credit_laws.proofs.Paying.{Paid, paid_covers}
use Rattle.credit_laws.proofs.Each.{all_found, each_with}
use Rattle.credit_laws.proofs.Weaving.{Pushing, Going, passes, AgreesOn, woven, pushed_in, weave_pushes}

-- ---- the talk of a link

-- a channel of the talk that is for the multiplexer is the only one that is, of those that have opened
abbrev pub IsMuxed : Settings → List Occurrence → Type 0
IsMuxed settings list = (channel : Channel) → Accepted channel (read_at channel.own (reading (run_of (policy settings false) list).said).entries) → channel.psm ≡ rfcomm_psm → AgreesOn settings channel.own list × Sure rfcomm_psm settings list channel.own

-- what passed on it covers what it spent
abbrev pub PaysOver : Settings → List Occurrence → Type 0
PaysOver settings list = (here : ℕ) → AgreesOn settings here list → Sure rfcomm_psm settings list here → Paid 18 Initiator (passes settings here (exchanged_of (policy settings false) here list))

-- where nothing passed on a channel that has not opened, the talk is covered where those that have are
pub opened-cover : (party : Party) (said : List Saying) → ((entry : Entry) → read_at entry.channel.own (reading said).entries ≡ Some entry → Accepted entry.channel (read_at entry.channel.own (reading said).entries) → entry.channel.psm ≡ 0x0003 → IsCoveredOn party entry.channel said) → AreCovered party said
opened-cover party said opened = each_with (reading said).entries (λ entry found too. covers entry found) (all_found (reading said).entries (alone said)) (all_found (reading said).entries (alone said))
  where
    nothing : (entry : Entry) → has_opened (find (has_own entry.channel) (reading said).entries) ≡ false → IsCoveredOn party entry.channel said
    nothing entry unopened =
        let none : spoken party entry.channel said ≡ [] = ap (λ (cs : List Carriage). each_after (spoken_with party (mode_of entry.channel said)) [] cs) (unopened-stretch entry.channel said unopened) in
        paid_covers party.dlci party.role (map (passed party) (spoken party entry.channel said)) (subst (λ (l : List Spoken). Paid party.dlci party.role (frames (map (passed party) l))) (sym none) (omega arith))

    covers : (entry : Entry) → read_at entry.channel.own (reading said).entries ≡ Some entry → entry.channel.psm ≡ 0x0003 → IsCoveredOn party entry.channel said
    covers entry found psm = by (has_opened (Some entry)) refl
      where
        by : (now : Bool) → has_opened (Some entry) ≡ now → IsCoveredOn party entry.channel said
        by false is = nothing entry (ap has_opened found ∙ is)
        by true is = opened entry found (subst (Accepted entry.channel) (sym found) (refl, and-right _ _ is)) psm

list_covered : (settings : Settings) (list : List Occurrence) → AreUttered (policy settings false) list → IsMuxed settings list → PaysOver settings list → AreCovered (party_of settings sides.A) (run_of (policy settings false) list).said
list_covered settings list uttered muxed pays =
    let said = (run_of (policy settings false) list).said in
    let party = party_of settings sides.A in
    opened-cover party said
    (λ entry found accepted psm.
    let there = muxed entry.channel accepted psm in
    let spoke : spoken party entry.channel said ≡ exchanged_of (policy settings false) entry.channel.own list =
    exchanged-is_spoken (policy settings false) party list entry.channel uttered (subst (λ o. IsOf entry.channel o) (sym found) refl) (ap (λ n. ((policy settings false).wish n).mode) psm) in
    paid_covers party.dlci party.role (map (passed party) (spoken party entry.channel said)) (subst (λ (l : List Spoken). Paid 18 Initiator (passes settings entry.channel.own l)) (sym spoke) (pays entry.channel.own there.0 there.1)))

-- ---- a push that begins

silent_framed : (deeds : List Deed) (client : Client) → AllSilent deeds client → all_framed deeds client ≡ []
silent_framed deeds client silent = quiet_framed deeds client (none_heard deeds client silent) ∙ ap (map own_frame) (none_asked deeds client silent)
  where
    none_heard : (list : List Deed) (c : Client) → AllSilent list c → flat_map heard_by list ≡ []
    none_heard [] c all = refl
    none_heard (deed ∷ list) c all = ap (λ (l : List (List ℕ)). l ++ flat_map heard_by list) (mux_heard_one deed ∙ all.0.heard rfcomm_psm) ∙ none_heard list (done deed c) all.1

    none_asked : (list : List Deed) (c : Client) → AllSilent list c → frames_over list c ≡ []
    none_asked [] c all = refl
    none_asked (deed ∷ list) c all = ap (λ (l : List PlainFrame). l ++ frames_over list (done deed c)) all.0.frames ∙ none_asked list (done deed c) all.1

begun_course : (settings : Settings) (name : List ℕ) (size : ℕ) (old : Client) (deeds : List Deed) → GoodMux settings old → AllSilent deeds (with_object name size old) → Course 18 (done (Hears events.LinkUp) (all_done deeds (with_object name size old))) []
begun_course settings name size old deeds good silent =
    let begun = with_object name size old in
    let first : Course 18 begun [] =
    Ahead (record {
      mux = old.mux;
      walk = record { transport = old.transport; targets = []; taken = [] };
      role = good.numbers.0;
      muxed = good.good.direct;
      early = (refl, refl, good.good.direct);
      stands = record { same = refl; none = refl; is = refl };
      peers = tt;
    }) in
    let mid : Course 18 (all_done deeds begun) [] = subst (Course 18 (all_done deeds begun)) (silent_framed deeds begun silent) (course_deeds 18 deeds begun [] (omega arith) first) in
    course_deeds 18 (Hears events.LinkUp ∷ []) (all_done deeds begun) [] (omega arith) mid

-- ---- over all links

module _ (settings : Settings) (before : List Object) (muxed : settings.transport ≡ Rfcomm) where
  abbrev set : Set
  set = over_stored both_ask settings before

  abbrev Covers : List Occurrence → Type 0
  Covers list = AreCovered (party_of settings sides.A) (run_of (policy settings false) list).said

  framed_over : (affairs : List Affair) (client : Client) → AllByRecursion IsDeed affairs → AllAsked (IsSo None) affairs client → AllByRecursion IsReadSo (frames_over (all_deeds affairs) client)
  framed_over [] client all so = tt
  framed_over (Begins size name ∷ affairs) client all so = absurd all.0
  framed_over (Does deed ∷ affairs) client all so = all_both IsReadSo (frames_by deed client) (frames_over (all_deeds affairs) (done deed client)) so.0.framed (framed_over affairs (done deed client) all.1 so.1)

  -- it comes up as a push has begun
  up_course : (near : Span) (client : ClientProfile) (a : FedSpan (client_profile settings) (both_ask.clients settings) near client) → near.event ≡ Up → (client_profile settings).wants_link a.mid ≡ true → AllByRecursion HearsNothing near.list → is_paging client.bid ≡ false
      → GoodMux settings client.client → AllAsked (IsSo None) (pushed_from settings client a.here) client.client → Pushing (behind_span (client_profile settings) (both_ask.clients settings) near client a) []
  up_course near client a up wants deaf free good asked =
      let A = client_profile settings in
      let asks = both_ask.clients settings in
      let pages : is_paging (all_fed A client a.here).bid ≡ true = subst (λ (p : ClientProfile). is_paging p.bid ≡ true) (sym (here_so A asks near client a)) (paging (is_paging a.mid.bid) (not (is_idle a.mid.client)) wants) in
      let begins = begins_between settings client a.here (fed_between settings asks near.list a.here client a.mid a.so deaf) free pages in
      let affairs = pushed_from settings client a.here in
      let old = client_behind begins.earlier client.client in
      let good_old : GoodMux settings old =
      good_all set (IsSo None) (GoodMux settings) (IsHeldOver None) (TrueTwined set) (goes-on None settings) (one-push None set muxed) (no-push None settings muxed set) begins.earlier client.client
      (asked_ahead (IsSo None) begins.earlier (Begins (Ok begins.size) begins.name ∷ map Does begins.deeds) client.client (subst (λ (l : List Affair). AllAsked (IsSo None) l client.client) begins.affairs_are asked)) good in
      let mid : a.mid.client ≡ all_done begins.deeds (with_object begins.name begins.size old) =
      ap (λ (p : ClientProfile). p.client) (sym (here_so A asks near client a))
      ∙ (all_pushed settings a.here client ∙ begun_at set (IsSo None) (GoodMux settings) (IsHeldOver None) (TrueTwined set) (goes-on None settings) (one-push None set muxed) (no-push None settings muxed set) affairs client.client begins) in
      let up_is : (behind_span A asks near client a).client ≡ done (Hears events.LinkUp) (all_done begins.deeds (with_object begins.name begins.size old)) =
      ap (λ (e : LinkEvent). (turned A a.circumstances e (values_after A.policy no_channels near.list) a.mid).client) up ∙ ap (done (Hears events.LinkUp)) mid in
      Going (subst (λ (c : Client). Course 18 c []) (sym up_is) (begun_course settings begins.name begins.size old begins.deeds good_old begins.silent))
      (inl (ap (λ (e : LinkEvent). (turned A a.circumstances e (values_after A.policy no_channels near.list) a.mid).submitted) up))
    where
      paging : (one other : Bool) → (one && other) ≡ true → one ≡ true
      paging true other is = refl
      paging false other is = is

  -- all that happens on it
  link_covers : (list : List Occurrence) (feeds : List Feed) (p last : ClientProfile) (so : WovenFed (client_profile settings) (both_ask.clients settings) list feeds p last) → p.endpoints ≡ [] → AllByRecursion OpensNone so.woven.weave → AllAsked (IsSo None) (pushed_from settings p feeds) p.client
      → Pushing p [] → AreUttered (policy settings false) list → IsMuxed settings list → AreCovered (party_of settings sides.A) (run_of (policy settings false) list).said
  link_covers list feeds p last so bare opens asked pushing uttered mux = list_covered settings list uttered mux pays
    where
      weave : List Strand
      weave = so.woven.weave

      pays : PaysOver settings list
      pays here agrees sure =
          let list_is : list ≡ woven settings here weave no_channels p = so.woven.list_is in
          let here_asked : AllAsked (IsSo None) (pushed_in settings here weave no_channels p) p.client = subst (λ (l : List Feed). AllAsked (IsSo None) (pushed_from settings p l) p.client) so.feeds_are asked in
          subst (λ (l : List Spoken). Paid 18 Initiator (passes settings here l)) (sym (exchanged_all (policy settings false) here list ∙ ap (exchanged_from (policy settings false) here no_channels) list_is))
          (weave_pushes settings here weave [] no_channels p [] refl (subst (AllEndpoints (WasAsked [])) (sym bare) tt) (subst (λ (l : List Occurrence). Sure rfcomm_psm settings l here) list_is sure) (subst (AgreesOn settings here) list_is agrees) opens
          (framed_over (pushed_in settings here weave no_channels p) p.client (deeds_on set weave no_channels p opens) here_asked) pushing)

  up_bare : (circumstances : List Circumstance) (event : LinkEvent) (v : Channels) (p : ClientProfile) → (turned (client_profile settings) circumstances event v p).endpoints ≡ []
  up_bare circumstances Up v p = refl
  up_bare circumstances (Down reason) v p = refl

  abbrev Wants : ClientProfile → Type 0
  Wants p = (client_profile settings).wants_link p ≡ true

  parted : (near : Span) (client : ClientProfile) (a : FedSpan (client_profile settings) (both_ask.clients settings) near client) (later feeds : List Feed) → feeds ≡ span_feeds (client_profile settings) (both_ask.clients settings) near client a ++ later
      → GoodMux settings client.client → AllAsked (IsSo None) (pushed_from settings client feeds) client.client → Splits set (IsSo None) (GoodMux settings) (IsHeldOver None) (TrueTwined set) (goes-on None settings) (one-push None set muxed) (no-push None settings muxed set) near client a later
  parted near client a later feeds is good asked = splits set (IsSo None) (GoodMux settings) (IsHeldOver None) (TrueTwined set) (goes-on None settings) (one-push None set muxed) (no-push None settings muxed set) near client a later feeds is good asked

  pub links-cover : (spans : List Span) (now : List Occurrence) (feeds : List Feed) (client last : ClientProfile) (fed : AreFed (client_profile settings) (both_ask.clients settings) spans now feeds client last)
      → AreAsked (client_profile settings) (both_ask.clients settings) Wants false spans now feeds client last fed → AreTimely false (all_marks spans now) → is_paging client.bid ≡ false → GoodMux settings client.client → AllAsked (IsSo None) (pushed_from settings client feeds) client.client
      → AllByRecursion (AreUttered (policy settings false)) (lists_of spans now) → ((number : ℕ) → IsMuxed settings (get_or (lists_of spans now) number [])) → AllByRecursion Covers (lists_of spans now)
  links-cover [] now feeds client last fed asked timely free good so uttered mux = (deaf-covered (party_of settings sides.A) (policy settings false) now (is_deaf_now now timely), tt)
  links-cover (near ∷ []) now feeds client last (here, later, is, fed) (ahead, wanted, none) timely free good so uttered mux =
      let up_is = is_up near [] now timely in
      let deaf = is_deaf near [] now up_is timely in
      let parts = parted near client here later feeds is good so in
      let up = behind_span (client_profile settings) (both_ask.clients settings) near client here in
      let pushing = up_course near client here up_is (wanted_up Wants near.event here.mid up_is wanted) deaf.deaf free good parts.here in (
        deaf-covered (party_of settings sides.A) (policy settings false) near.list deaf.deaf,
        (link_covers now later up last fed (up_bare here.circumstances near.event (values_after (policy settings false) no_channels near.list) here.mid) (up_opens near.event fed.woven.weave up_is none) parts.rest pushing uttered.1.0 (mux 1), tt),
      )
  links-cover (near ∷ link ∷ spans) now feeds client last (here, later, is, (there, rest, are, fed)) (ahead, wanted, (none, down_wanted, more)) timely free good so uttered mux =
      let A = client_profile settings in
      let asks = both_ask.clients settings in
      let up_is = is_up near (link ∷ spans) now timely in
      let deaf = is_deaf near (link ∷ spans) now up_is timely in
      let down = goes_down link spans now deaf.rest in
      let up = behind_span A asks near client here in
      let after = behind_span A asks link up there in
      let parts = parted near client here later feeds is good so in
      let on_link = parted link up there rest later are parts.good parts.rest in
      let pushing = up_course near client here up_is (wanted_up Wants near.event here.mid up_is wanted) deaf.deaf free good parts.here in (
        deaf-covered (party_of settings sides.A) (policy settings false) near.list deaf.deaf,
        (
          link_covers link.list there.here up there.mid there.so (up_bare here.circumstances near.event (values_after (policy settings false) no_channels near.list) here.mid) (up_opens near.event there.so.woven.weave up_is none) on_link.here pushing uttered.1.0 (mux 1),
          links-cover spans now rest after last fed (subst (λ (b : Bool). AreAsked A asks Wants b spans now rest after last fed) (down_off link.event down) more) (is_down link spans now down deaf.rest)
              (turned_free settings there.circumstances link.event (values_after (policy settings false) no_channels link.list) there.mid) on_link.good on_link.rest uttered.1.1 (λ number. mux (suc (suc number))),
        ),
      )
