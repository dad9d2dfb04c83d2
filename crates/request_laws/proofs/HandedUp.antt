-- What comes at either host on the channels of a PSM is what they handed up.
use Rattle.std.proofs.Common.{◌≡◌, ℕ, Bool, true, false, cond, ◌==◌, List, [], ◌∷◌, ◌++◌, Option, Some, None, fold, refl, sym, ap, ap₂, ◌∙◌, append_assoc, append-nil}
use Rattle.std.specs.List.{AllByRecursion, flat_map, cons_option}
use Rattle.std.proofs.lemmas.List.Concat.{flat_map-append}
use Rattle.std.proofs.lemmas.List.Elements.{filter_map-append}
use Rattle.pair_laws.specs.acl_fragments.specs.Pieces.{channel_of}
use Rattle.pair_laws.specs.bt_base.specs.declared.settings.Settings.{Settings}
use Rattle.pair_laws.specs.bt_base.specs.Objects.{Contents}
use Rattle.pair_laws.specs.channel_model.specs.declared.event.ChannelEvent.{ChannelEvent}
use Rattle.pair_laws.specs.channel_model.specs.Carrying.{Up as Handed, Nothing, Received}
use Rattle.pair_laws.specs.channel_model.specs.Hearing.{up}
use Rattle.pair_laws.specs.channel_model.specs.Policies.{Policy, policy}
use Rattle.pair_laws.specs.channel_model.specs.Value.{Channels, no_channels}
use Rattle.pair_laws.specs.channel_laws.specs.Runs.{Occurrence, Run, new_link, run_on, run_of, value_after, up_with}
use Rattle.pair_laws.specs.push_model.specs.Server.{lends, lent_sdu, object_psm}
use Rattle.pair_laws.specs.push_laws.specs.Occurrences as push
use Rattle.pair_laws.specs.push_model.specs.Steps as steps
use Rattle.pair_laws.specs.push_model.specs.Steps.{Step, Wait, MakeLink, OpenChannel, SendSdu, CloseChannel, BreakLink, Ended, NoMemory}
use Rattle.pair_laws.specs.host_model.specs.Endpoints.{Endpoint}
use Rattle.pair_laws.specs.push_laws.specs.Parties.{sdu_if}
use Rattle.pair_laws.specs.world_model.specs.Machines.{News, Linked, Failed, Heard, TimerFired, Cancelled, Opening}
use Rattle.pair_laws.specs.host_model.specs.Circumstances.{Circumstance}
use Rattle.pair_laws.specs.host_model.specs.Clients.{ClientProfile, client_profile, fitted}
use Rattle.pair_laws.specs.host_model.specs.Servers.{ServerProfile, server_profile}
use Rattle.pair_laws.specs.host_laws.specs.Calls.{Call, Connect, AskFeatures, Disconnect, Send, Asks, from_call, values_after}
use Rattle.pair_laws.specs.host_laws.specs.Fed.{feeds_up, next_happening, strand_feeds, woven_feeds}
use Rattle.pair_laws.specs.host_laws.specs.Feeds.{Feed, Learns, Sent, Steps}
use Rattle.pair_laws.specs.host_laws.specs.Pushing.{Affair, pushed_from}
use Rattle.pair_laws.specs.host_laws.specs.Serving.{news_served, event_served, lent_by, served_from}
use Rattle.pair_laws.specs.host_laws.specs.Woven.{Strand, Hearing, Giving, Firing, Telling, Gifting, Learning, Checking, Stepping, strand_list, strand_profile, woven_list}
use Rattle.pair_laws.specs.host_laws.proofs.StrandsFed.{strand_so}
use Rattle.request_laws.specs.BothFed.{ComesNone}
use Rattle.request_laws.specs.HandedUp.{up_for, handed_for, ObjectsAreHandedUp}
use Rattle.request_laws.specs.Streams.{come_on, heard_on, taken_by, taken_at}
use Rattle.request_laws.specs.Twists.{deeds_in, all_deeds, taken_with, taken_in, OpensNone}
use Rattle.request_laws.proofs.OnPsm.{come_is, heard_is}
use Rattle.request_laws.proofs.Feeding.{all_both, pushed-both, served-both, Holds, FeedSo, all_so, news_shape, event_shape, lent_shape}

-- ---- what a run hands up

abbrev pub ups_from : Policy → Channels → List Occurrence → List Handed
ups_from policy v [] = []
ups_from policy v (one ∷ list) = up_with one v ∷ ups_from policy (value_after policy one v) list

ups_on : (policy : Policy) (list : List Occurrence) (run : Run) → (fold (run_on policy) run list).up ≡ run.up ++ ups_from policy run.value list
ups_on policy [] run = sym (append-nil run.up)
ups_on policy (one ∷ list) run = ups_on policy list (run_on policy run one) ∙ append_assoc run.up (up_with one run.value ∷ []) (ups_from policy (value_after policy one run.value) list)

pub ups_of : (policy : Policy) (list : List Occurrence) → (run_of policy list).up ≡ ups_from policy no_channels list
ups_of policy list = ups_on policy list new_link

ups_both : (policy : Policy) (xs ys : List Occurrence) (v : Channels) → ups_from policy v (xs ++ ys) ≡ ups_from policy v xs ++ ups_from policy (values_after policy v xs) ys
ups_both policy [] ys v = refl
ups_both policy (x ∷ xs) ys v = ap (λ (l : List Handed). up_with x v ∷ l) (ups_both policy xs ys (value_after policy x v))

abbrev pub handed_from : (carrier : ℕ) → Policy → Channels → List Occurrence → List (List ℕ)
handed_from carrier policy v list = handed_for carrier (ups_from policy v list)

pub handed_both : (carrier : ℕ) (policy : Policy) (xs ys : List Occurrence) (v : Channels) → handed_from carrier policy v (xs ++ ys) ≡ handed_from carrier policy v xs ++ handed_from carrier policy (values_after policy v xs) ys
handed_both carrier policy xs ys v = ap (handed_for carrier) (ups_both policy xs ys v) ∙ filter_map-append (up_for carrier) (ups_from policy v xs) (ups_from policy (values_after policy v xs) ys)

call_hands : (carrier : ℕ) (policy : Policy) (call : Option Call) (v : Channels) → handed_from carrier policy v (from_call call) ≡ []
call_hands carrier policy None v = refl
call_hands carrier policy (Some (Connect psm)) v = refl
call_hands carrier policy (Some AskFeatures) v = refl
call_hands carrier policy (Some (Disconnect own)) v = refl
call_hands carrier policy (Some (Send own sdu)) v = refl

if_handed : (here : Bool) (sdu : List ℕ) → sdu_if here sdu ++ [] ≡ cons_option (cond here (Some sdu) None) []
if_handed true sdu = refl
if_handed false sdu = refl

-- ---- the server

pub none_flat : (carrier : ℕ) (occurrences : List push.Occurrence) → AllByRecursion ComesNone occurrences → flat_map (come_on carrier) occurrences ≡ []
none_flat carrier [] none = refl
none_flat carrier (one ∷ rest) none = ap₂ (λ (a b : List (List ℕ)). a ++ b) (none.0 carrier) (none_flat carrier rest none.1)

module _ (carrier : ℕ) (settings : Settings) (content : Option Contents) (asks : Asks (server_profile settings content)) where
  come_up : (brought : Handed) (p : ServerProfile) → flat_map (come_on carrier) (served_from settings content p (feeds_up brought)) ≡ handed_for carrier (brought ∷ [])
  come_up Nothing p = refl
  come_up (Received own psm sdu) p = if_handed (psm == carrier) sdu

  told_come : (events : List ChannelEvent) (v : Channels) (p : ServerProfile) → flat_map (come_on carrier) (served_from settings content p (next_happening events v)) ≡ []
  told_come [] v p = refl
  told_come (event ∷ events) v p = none_flat carrier (event_served event ++ []) (all_both ComesNone (event_served event) [] (event_shape event) tt)

  pub strand_come : (strand : Strand) (v : Channels) (p : ServerProfile) → flat_map (come_on carrier) (served_from settings content p (strand_feeds strand v)) ≡ handed_from carrier (policy settings true) v (strand_list (server_profile settings content) asks strand v p)
  strand_come (Hearing pdu) v p = come_up (up (channel_of pdu) pdu v) p
  strand_come (Giving pdu) v p = refl
  strand_come Firing v p = refl
  strand_come Telling v p = told_come v.events v p
  strand_come (Gifting circumstances) v p = refl
  strand_come (Learning circumstances heard) v p = none_flat carrier (news_served heard ++ []) (news_shape heard)
  strand_come Checking v p = refl
  strand_come Stepping v p =
      let lent = lent_by (lent_sdu (lends p.server)) v p in
      none_flat carrier (lent ++ []) (all_both ComesNone lent [] (lent_shape (lent_sdu (lends p.server)) v p) tt) ∙ sym (call_hands carrier (policy settings true) (asks.call v p) v)

  weave_come : (weave : List Strand) (v : Channels) (p : ServerProfile)
      → flat_map (come_on carrier) (served_from settings content p (woven_feeds (server_profile settings content) asks weave v p)) ≡ handed_from carrier (policy settings true) v (woven_list (server_profile settings content) asks weave v p)
  weave_come [] v p = refl
  weave_come (strand ∷ weave) v p =
      let B = server_profile settings content in
      let here = strand_list B asks strand v p in
      let w = values_after B.policy v here in
      let q = strand_profile B strand v p in
      let feeds = strand_feeds strand v in
      let more = woven_feeds B asks weave w q in
      ap (flat_map (come_on carrier)) (served-both settings content feeds more p ∙ ap (λ (x : ServerProfile). served_from settings content p feeds ++ served_from settings content x more) (strand_so B asks strand v p))
      ∙ (flat_map-append (come_on carrier) (served_from settings content p feeds) (served_from settings content q more)
      ∙ (ap₂ (λ (a b : List (List ℕ)). a ++ b) (strand_come strand v p) (weave_come weave w q) ∙ sym (handed_both carrier (policy settings true) here (woven_list B asks weave w q) v)))

-- ---- the client

abbrev pub heard_in : (carrier : ℕ) → Affair → List (List ℕ)
heard_in carrier affair = flat_map (heard_on carrier) (deeds_in affair)

abbrev pub Unheard : (carrier : ℕ) → Affair → Type 0
Unheard carrier affair = heard_in carrier affair ≡ []

unheard_holds : (carrier : ℕ) → Holds (Unheard carrier)
unheard_holds carrier = record { asks = λ parts. refl; finishes = refl; cancels = refl; down = λ reason. refl; failed = λ status. refl; opened = λ psm mtu. refl; closed = λ psm cause. refl; told = refl; lost = refl; timer = refl }

pub heard_flat : (carrier : ℕ) (affairs : List Affair) → AllByRecursion (Unheard carrier) affairs → flat_map (heard_on carrier) (all_deeds affairs) ≡ []
heard_flat carrier [] none = refl
heard_flat carrier (one ∷ rest) none = flat_map-append (heard_on carrier) (deeds_in one) (all_deeds rest) ∙ ap₂ (λ (a b : List (List ℕ)). a ++ b) none.0 (heard_flat carrier rest none.1)

module _ (carrier : ℕ) (settings : Settings) (asks : Asks (client_profile settings)) where
  heard_up : (brought : Handed) (p : ClientProfile) → flat_map (heard_on carrier) (all_deeds (pushed_from settings p (feeds_up brought))) ≡ handed_for carrier (brought ∷ [])
  heard_up Nothing p = refl
  heard_up (Received own psm sdu) p = if_handed (psm == carrier) sdu

  quiet_heard : (feeds : List Feed) (p : ClientProfile) → AllByRecursion (FeedSo (Unheard carrier)) feeds → flat_map (heard_on carrier) (all_deeds (pushed_from settings p feeds)) ≡ []
  quiet_heard feeds p so = heard_flat carrier (pushed_from settings p feeds) (all_so (Unheard carrier) (unheard_holds carrier) settings feeds p so)

  next_quiet : (events : List ChannelEvent) (v : Channels) → AllByRecursion (FeedSo (Unheard carrier)) (next_happening events v)
  next_quiet [] v = tt
  next_quiet (event ∷ events) v = (tt, tt)

  learned_quiet : (circumstances : List Circumstance) (heard : News) → OpensNone (Learning circumstances heard) → AllByRecursion (FeedSo (Unheard carrier)) (Learns circumstances heard ∷ [])
  learned_quiet circumstances (Linked event) none = absurd none
  learned_quiet circumstances (Failed status) none = absurd none
  learned_quiet circumstances (Opening name) none = absurd none
  learned_quiet circumstances (Heard pdu) none = (tt, tt)
  learned_quiet circumstances TimerFired none = (tt, tt)
  learned_quiet circumstances Cancelled none = (tt, tt)

  pub strand_heard : (strand : Strand) (v : Channels) (p : ClientProfile) → OpensNone strand → flat_map (heard_on carrier) (all_deeds (pushed_from settings p (strand_feeds strand v))) ≡ handed_from carrier (policy settings false) v (strand_list (client_profile settings) asks strand v p)
  strand_heard (Hearing pdu) v p none = heard_up (up (channel_of pdu) pdu v) p
  strand_heard (Giving pdu) v p none = refl
  strand_heard Firing v p none = refl
  strand_heard Telling v p none = quiet_heard (next_happening v.events v) p (next_quiet v.events v)
  strand_heard (Gifting circumstances) v p none = refl
  strand_heard (Learning circumstances heard) v p none = quiet_heard (Learns circumstances heard ∷ []) p (learned_quiet circumstances heard none)
  strand_heard Checking v p none = quiet_heard (Sent v ∷ []) p (tt, tt)
  strand_heard Stepping v p none = quiet_heard (Steps v ∷ []) p (tt, tt) ∙ sym (call_hands carrier (policy settings false) (asks.call v p) v)

  pub weave_heard : (weave : List Strand) (v : Channels) (p : ClientProfile) → AllByRecursion OpensNone weave
      → flat_map (heard_on carrier) (all_deeds (pushed_from settings p (woven_feeds (client_profile settings) asks weave v p))) ≡ handed_from carrier (policy settings false) v (woven_list (client_profile settings) asks weave v p)
  weave_heard [] v p none = refl
  weave_heard (strand ∷ weave) v p none =
      let A = client_profile settings in
      let here = strand_list A asks strand v p in
      let w = values_after A.policy v here in
      let q = strand_profile A strand v p in
      let feeds = strand_feeds strand v in
      let more = woven_feeds A asks weave w q in
      let one = pushed_from settings p feeds in
      let two = pushed_from settings q more in
      ap (λ (l : List Affair). flat_map (heard_on carrier) (all_deeds l)) (pushed-both settings feeds more p ∙ ap (λ (x : ClientProfile). one ++ pushed_from settings x more) (strand_so A asks strand v p))
      ∙ (ap (flat_map (heard_on carrier)) (flat_map-append deeds_in one two)
      ∙ (flat_map-append (heard_on carrier) (all_deeds one) (all_deeds two)
      ∙ (ap₂ (λ (a b : List (List ℕ)). a ++ b) (strand_heard strand v p none.0) (weave_heard weave w q none.1) ∙ sym (handed_both carrier (policy settings false) here (woven_list A asks weave w q) v))))

with_is : (step : Step) (endpoints : List Endpoint) (v : Channels) → taken_with step endpoints v ≡ taken_by object_psm step endpoints v
with_is Wait endpoints v = refl
with_is MakeLink endpoints v = refl
with_is steps.AskFeatures endpoints v = refl
with_is (OpenChannel psm) endpoints v = refl
with_is (SendSdu psm payload) endpoints v = refl
with_is (CloseChannel psm) endpoints v = refl
with_is BreakLink endpoints v = refl
with_is (Ended outcome) endpoints v = refl
with_is NoMemory endpoints v = refl

pub taken_is : (strand : Strand) (v : Channels) (p : ClientProfile) → taken_in strand v p ≡ taken_at object_psm strand v p
taken_is (Hearing pdu) v p = refl
taken_is (Giving pdu) v p = refl
taken_is Firing v p = refl
taken_is Telling v p = refl
taken_is (Gifting circumstances) v p = refl
taken_is (Learning circumstances heard) v p = refl
taken_is Checking v p = refl
taken_is Stepping v p = with_is (steps.steps p.client (fitted p)).step p.endpoints v

pub objects_are_handed_up : ObjectsAreHandedUp
objects_are_handed_up = record {
  servers = λ settings content asks list feeds first last so.
      come_is (served_from settings content first feeds) ∙ (ap (λ (l : List Feed). flat_map (come_on object_psm) (served_from settings content first l)) so.feeds_are
      ∙ (weave_come object_psm settings content asks so.woven.weave no_channels first
      ∙ (ap (handed_from object_psm (policy settings true) no_channels) (sym so.woven.list_is) ∙ ap (handed_for object_psm) (sym (ups_of (policy settings true) list)))));
  clients = λ settings asks list feeds first last so none.
      heard_is (all_deeds (pushed_from settings first feeds)) ∙ (ap (λ (l : List Feed). flat_map (heard_on object_psm) (all_deeds (pushed_from settings first l))) so.feeds_are
      ∙ (weave_heard object_psm settings asks so.woven.weave no_channels first none
      ∙ (ap (handed_from object_psm (policy settings false) no_channels) (sym so.woven.list_is) ∙ ap (handed_for object_psm) (sym (ups_of (policy settings false) list)))));
}
