-- Along all that a server goes through on a link each request that has a response comes behind the response to the one before.
use Rattle.std.proofs.Common.{◌≡◌, ◌≤◌, ◌+◌, ℕ, Bool, true, false, cond, eqb, List, [], ◌∷◌, ◌++◌, length, filter_map, Option, Some, None, refl, sym, ap, ap₂, subst, ◌∙◌, append_assoc, append-nil, length-append, arith}
use Rattle.std.specs.List.{AllByRecursion, flat_map, cons_option}
use Rattle.std.proofs.lemmas.List.Elements.{filter_map-append}
use Rattle.request_laws.specs.acl_fragments.specs.Pieces.{channel_of}
use Rattle.request_laws.specs.bt_base.specs.declared.settings.Settings.{Settings}
use Rattle.request_laws.specs.bt_base.specs.Objects.{Contents}
use Rattle.request_laws.specs.channel_model.specs.declared.event.ChannelEvent.{ChannelEvent}
use Rattle.request_laws.specs.channel_model.specs.declared.event.ChannelEvent.TheVariants as events
use Rattle.request_laws.specs.channel_model.specs.Carrying.{Up as Handed, Nothing, Received}
use Rattle.request_laws.specs.channel_model.specs.Hearing.{up}
use Rattle.request_laws.specs.channel_model.specs.Policies.{Policy, policy}
use Rattle.request_laws.specs.channel_model.specs.Value.{Channels, no_channels}
use Rattle.request_laws.specs.channel_laws.specs.Runs.{Comes, run_of}
use Rattle.request_laws.specs.channel_laws.specs.Runs as channels
use Rattle.request_laws.specs.channel_laws.specs.Taken.{taken_of}
use Rattle.request_laws.specs.obex_session.specs.Calls.{session_behind}
use Rattle.request_laws.specs.obex_session.specs.Views.{is_silent}
use Rattle.request_laws.specs.push_model.specs.Server.{Lent, lends, lent_sdu, object_psm}
use Rattle.request_laws.specs.push_laws.specs.Answers.{said}
use Rattle.request_laws.specs.push_laws.specs.Occurrences.{Occurrence, Came, Went, Closed, LinkDown, Asked, Answering}
use Rattle.request_laws.specs.push_laws.specs.Parties.{sdu_if}
use Rattle.request_laws.specs.world_model.specs.Machines.{News, Linked, Failed, Heard, TimerFired, Cancelled, Opening}
use Rattle.request_laws.specs.host_model.specs.Endpoints.{endpoint_of, takes_sdu}
use Rattle.request_laws.specs.host_model.specs.Pdus.{sdu_of}
use Rattle.request_laws.specs.host_model.specs.Profiles.{Profile}
use Rattle.request_laws.specs.host_model.specs.Servers.{ServerProfile, is_told, server_profile}
use Rattle.request_laws.specs.host_laws.specs.Calls.{Call, Connect, AskFeatures, Disconnect, Send, Asks, from_call, values_after}
use Rattle.request_laws.specs.host_laws.specs.Fed.{feeds_up, next_happening, strand_feeds, woven_feeds}
use Rattle.request_laws.specs.host_laws.specs.Feeds.{tidings_by}
use Rattle.request_laws.specs.host_laws.specs.Gaining.{IsDirect}
use Rattle.request_laws.specs.host_laws.specs.Serving.{news_served, event_served, taken_by, lent_by, served_from}
use Rattle.request_laws.specs.host_laws.specs.Woven.{Strand, Hearing, Giving, Firing, Telling, Gifting, Learning, Checking, Stepping, IsOnLink, strand_list, strand_profile, woven_list}
use Rattle.request_laws.specs.host_laws.proofs.Asking.{hosts_ask}
use Rattle.request_laws.specs.host_laws.proofs.StrandsFed.{strand_so}
use Rattle.request_laws.specs.BothFed.{ComesNone}
use Rattle.request_laws.specs.HandedUp.{handed_for}
use Rattle.request_laws.specs.Streams.{gone_on}
use Rattle.request_laws.proofs.Accepted.{Opened, opened-stays, OpenedUp, opened-up}
use Rattle.request_laws.proofs.Feeding.{all_both, served-both}
use Rattle.request_laws.proofs.HandedUp.{ups_of, handed_from, handed_both}
use Rattle.request_laws.proofs.ServerTakes.{WasOpened, Open, strand_open, Sure, strand_goes}
use Rattle.request_laws.proofs.Silent.{IsStill}
use Rattle.request_laws.proofs.Takes.{takes_from, takes_both, takes_of, value_behind, endpoint_so}
use Rattle.orderly_laws.proofs.Counting.{gone, more_came, more_went, MayAsk, AskInTurn, NoMoreGo}
use Rattle.orderly_laws.specs.Answered.{fresh_session, responses_due}

-- ---- requests in turn, and what follows where no more responses went than are due

abbrev pub TakesTurns : Settings → Type 0 → (rs : List (List ℕ)) (m : ℕ) → List Occurrence → Type 0
TakesTurns settings G rs m occurrences = AskInTurn settings rs m occurrences × (NoMoreGo settings rs m occurrences → G)

one_turn : (settings : Settings) (G : Type 0) (rs : List (List ℕ)) (m : ℕ) (one : Occurrence) (rest : List Occurrence) → MayAsk settings rs m one → TakesTurns settings G (more_came rs one) (more_went m one) rest → TakesTurns settings G rs m (one ∷ rest)
one_turn settings G rs m one rest may later = ((may, later.0), λ few. later.1 few.1)

pub few-at : (settings : Settings) (rs : List (List ℕ)) (m : ℕ) (occurrences : List Occurrence) → NoMoreGo settings rs m occurrences → m ≤ responses_due settings rs
few-at settings rs m [] few = few
few-at settings rs m (one ∷ rest) few = few.0

-- ---- the link goes down

none_asks : (settings : Settings) (rs : List (List ℕ)) (m : ℕ) (one : Occurrence) → ComesNone one → MayAsk settings rs m one
none_asks settings rs m (Came psm sdu) none = λ is loud. let never : sdu ∷ [] ≡ [] = subst (λ (p : ℕ). sdu_if (eqb p object_psm) sdu ≡ []) is (none object_psm) in absurd cc
none_asks settings rs m (Went psm sdu) none = tt
none_asks settings rs m (Closed psm) none = tt
none_asks settings rs m LinkDown none = tt
none_asks settings rs m Asked none = tt
none_asks settings rs m (Answering answers) none = tt

pub down-turns : (settings : Settings) (G : Type 0) (rs : List (List ℕ)) (m : ℕ) (ahead rest : List Occurrence) → AllByRecursion ComesNone ahead → TakesTurns settings G [] 0 rest → TakesTurns settings G rs m (ahead ++ LinkDown ∷ rest)
down-turns settings G rs m [] rest none later = one_turn settings G rs m LinkDown rest tt later
down-turns settings G rs m (one ∷ ahead) rest none later = one_turn settings G rs m one (ahead ++ LinkDown ∷ rest) (none_asks settings rs m one none.0) (down-turns settings G (more_came rs one) (more_went m one) ahead rest none.1 later)

-- ---- nothing comes and nothing goes

pub still-turns : (settings : Settings) (G : Type 0) (rs : List (List ℕ)) (m : ℕ) (still rest : List Occurrence) → AllByRecursion IsStill still → ((k : ℕ) → TakesTurns settings G rs k rest) → TakesTurns settings G rs m (still ++ rest)
still-turns settings G rs m [] rest all later = later m
still-turns settings G rs m (Came psm sdu ∷ still) rest all later =
    let same : rs ++ sdu_if (eqb psm object_psm) sdu ≡ rs = ap (λ (l : List (List ℕ)). rs ++ l) (all.0.come object_psm) ∙ append-nil rs in
    one_turn settings G rs m (Came psm sdu) (still ++ rest) (none_asks settings rs m (Came psm sdu) all.0.come)
    (subst (λ (l : List (List ℕ)). TakesTurns settings G l m (still ++ rest)) (sym same) (still-turns settings G rs m still rest all.1 later))
still-turns settings G rs m (Went psm sdu ∷ still) rest all later = one_turn settings G rs m (Went psm sdu) (still ++ rest) tt (still-turns settings G rs (more_went m (Went psm sdu)) still rest all.1 later)
still-turns settings G rs m (Closed psm ∷ still) rest all later = one_turn settings G rs m (Closed psm) (still ++ rest) tt (still-turns settings G rs m still rest all.1 later)
still-turns settings G rs m (LinkDown ∷ still) rest all later = let never : true ≡ false = all.0.open_yet object_psm in absurd cc
still-turns settings G rs m (Asked ∷ still) rest all later = one_turn settings G rs m Asked (still ++ rest) tt (still-turns settings G rs m still rest all.1 later)
still-turns settings G rs m (Answering answers ∷ still) rest all later = one_turn settings G rs m (Answering answers) (still ++ rest) tt (still-turns settings G rs m still rest all.1 later)

-- ---- nothing comes, and the link stays

abbrev Stays : Occurrence → Type 0
Stays (Came psm sdu) = ⊥
Stays (Went psm sdu) = Unit {0}
Stays (Closed psm) = Unit {0}
Stays LinkDown = ⊥
Stays Asked = Unit {0}
Stays (Answering answers) = Unit {0}

abbrev went_in : List Occurrence → ℕ
went_in occurrences = length (filter_map said (flat_map (gone_on object_psm) occurrences))

more_in : (psm : ℕ) (sdu : List ℕ) (rest : List Occurrence) → went_in (Went psm sdu ∷ rest) ≡ length (gone (Went psm sdu)) + went_in rest
more_in psm sdu rest =
    ap length (filter_map-append said (sdu_if (eqb psm object_psm) sdu) (flat_map (gone_on object_psm) rest))
    ∙ length-append (filter_map said (sdu_if (eqb psm object_psm) sdu)) (filter_map said (flat_map (gone_on object_psm) rest))

stay_turns : (settings : Settings) (G : Type 0) (rs : List (List ℕ)) (m : ℕ) (stay rest : List Occurrence) → AllByRecursion Stays stay → ((k : ℕ) → m + went_in stay ≤ k → TakesTurns settings G rs k rest) → TakesTurns settings G rs m (stay ++ rest)
stay_turns settings G rs m [] rest all later = later m (omega arith)
stay_turns settings G rs m (Came psm sdu ∷ stay) rest all later = absurd all.0
stay_turns settings G rs m (Went psm sdu ∷ stay) rest all later =
    let parts = more_in psm sdu stay in
    one_turn settings G rs m (Went psm sdu) (stay ++ rest) tt (stay_turns settings G rs (more_went m (Went psm sdu)) stay rest all.1 (λ k few. later k (omega (arith, parts, few))))
stay_turns settings G rs m (Closed psm ∷ stay) rest all later = one_turn settings G rs m (Closed psm) (stay ++ rest) tt (stay_turns settings G rs m stay rest all.1 later)
stay_turns settings G rs m (LinkDown ∷ stay) rest all later = absurd all.0
stay_turns settings G rs m (Asked ∷ stay) rest all later = one_turn settings G rs m Asked (stay ++ rest) tt (stay_turns settings G rs m stay rest all.1 later)
stay_turns settings G rs m (Answering answers ∷ stay) rest all later = one_turn settings G rs m (Answering answers) (stay ++ rest) tt (stay_turns settings G rs m stay rest all.1 later)

event_stays : (event : ChannelEvent) → AllByRecursion Stays (event_served event)
event_stays (events.Opened own psm) = tt
event_stays (events.Closed own psm reason) = by (is_told reason)
  where
    by : (told : Bool) → AllByRecursion Stays (cond told (Closed psm ∷ []) [])
    by true = (tt, tt)
    by false = tt
event_stays (events.Features features) = tt
event_stays events.FeaturesLost = tt
event_stays (events.DisconnectLost own) = tt

news_stay : (news : News) → tidings_by news ≡ [] → AllByRecursion Stays (news_served news ++ [])
news_stay (Linked event) none = cc
news_stay (Failed status) none = tt
news_stay (Heard pdu) none = tt
news_stay TimerFired none = tt
news_stay Cancelled none = tt
news_stay (Opening name) none = tt

taken_stay : (own : Option ℕ) (lent : Lent) (v : Channels) → AllByRecursion Stays (taken_by own lent v)
taken_stay None lent v = tt
taken_stay (Some own) lent v = by (takes_sdu own (sdu_of lent.payload) v)
  where
    by : (taken : Bool) → AllByRecursion Stays (cond taken (Went lent.psm (sdu_of lent.payload) ∷ []) [])
    by true = (tt, tt)
    by false = tt

lent_stay : (lent : Option Lent) (v : Channels) (p : ServerProfile) → AllByRecursion Stays (lent_by lent v p)
lent_stay None v p = tt
lent_stay (Some lent) v p = taken_stay (endpoint_of lent.psm p.endpoints) lent v

-- ---- nothing over RFCOMM

event_direct : (event : ChannelEvent) → AllByRecursion IsDirect (event_served event)
event_direct (events.Opened own psm) = tt
event_direct (events.Closed own psm reason) = by (is_told reason)
  where
    by : (told : Bool) → AllByRecursion IsDirect (cond told (Closed psm ∷ []) [])
    by true = (tt, tt)
    by false = tt
event_direct (events.Features features) = tt
event_direct events.FeaturesLost = tt
event_direct (events.DisconnectLost own) = tt

news_direct : (news : News) → tidings_by news ≡ [] → AllByRecursion IsDirect (news_served news ++ [])
news_direct (Linked event) none = cc
news_direct (Failed status) none = tt
news_direct (Heard pdu) none = tt
news_direct TimerFired none = tt
news_direct Cancelled none = tt
news_direct (Opening name) none = tt

-- ---- on a link

module _ (settings : Settings) (content : Option Contents) (all : List channels.Occurrence) (here : ℕ) (sure : Sure object_psm settings content all here) where
  abbrev own : Policy
  own = policy settings true

  abbrev B : Profile ServerProfile
  B = server_profile settings content

  abbrev asks : Asks (server_profile settings content)
  asks = hosts_ask.servers settings content

  abbrev pub handed_at : List channels.Occurrence → List (List ℕ)
  handed_at front = handed_for object_psm (run_of (policy settings true) front).up

  abbrev pub taken_at : List channels.Occurrence → ℕ
  taken_at front = length (filter_map said (taken_of (policy settings true) here front))

  -- ---- what one thing more does to the counts

  handed_more : (front list : List channels.Occurrence) (v : Channels) → v ≡ (run_of own front).value → handed_at (front ++ list) ≡ handed_at front ++ handed_from object_psm own v list
  handed_more front list v at =
      ap (λ (ups : List Handed). handed_for object_psm ups) (ups_of own (front ++ list))
      ∙ (handed_both object_psm own front list no_channels
      ∙ ap₂ (λ (a b : List (List ℕ)). a ++ b) (sym (ap (λ (ups : List Handed). handed_for object_psm ups) (ups_of own front))) (ap (λ (w : Channels). handed_from object_psm own w list) (value_behind own [] front no_channels refl ∙ sym at)))

  -- with what brings no SDU
  handed_same : (front list : List channels.Occurrence) (v : Channels) → v ≡ (run_of own front).value → handed_from object_psm own v list ≡ [] → handed_at (front ++ list) ≡ handed_at front
  handed_same front list v at none = handed_more front list v at ∙ (ap (λ (l : List (List ℕ)). handed_at front ++ l) none ∙ append-nil (handed_at front))

  taken_more : (front list : List channels.Occurrence) (v : Channels) → v ≡ (run_of own front).value → taken_at (front ++ list) ≡ taken_at front + length (filter_map said (takes_from own here v list))
  taken_more front list v at =
      ap (λ (l : List (List ℕ)). length (filter_map said l))
      (takes_of own here (front ++ list)
      ∙ (takes_both own here front list no_channels
      ∙ ap₂ (λ (a b : List (List ℕ)). a ++ b) (sym (takes_of own here front)) (ap (λ (w : Channels). takes_from own here w list) (value_behind own [] front no_channels refl ∙ sym at))))
      ∙ (ap length (filter_map-append said (taken_of own here front) (takes_from own here v list)) ∙ length-append (filter_map said (taken_of own here front)) (filter_map said (takes_from own here v list)))

  handed_one : (front : List channels.Occurrence) (pdu : List ℕ) (v : Channels) (at psm : ℕ) (sdu : List ℕ) → v ≡ (run_of own front).value → up (channel_of pdu) pdu v ≡ Received at psm sdu → handed_at (front ++ Comes pdu ∷ []) ≡ handed_at front ++ sdu_if (eqb psm object_psm) sdu
  handed_one front pdu v at psm sdu is brought =
      handed_more front (Comes pdu ∷ []) v is ∙ ap (λ (l : List (List ℕ)). handed_at front ++ l) (ap (λ (u : Handed). handed_for object_psm (u ∷ [])) brought ∙ by (eqb psm object_psm))
    where
      by : (same : Bool) → cons_option (cond same (Some sdu) None) [] ≡ sdu_if same sdu
      by true = refl
      by false = refl

  call_brings : (call : Option Call) (v : Channels) → handed_from object_psm own v (from_call call) ≡ []
  call_brings None v = refl
  call_brings (Some (Connect psm)) v = refl
  call_brings (Some AskFeatures) v = refl
  call_brings (Some (Disconnect at)) v = refl
  call_brings (Some (Send at sdu)) v = refl

  -- ---- in turn

  module _ (G : Type 0) (behind : (front rest : List channels.Occurrence) (pdu : List ℕ) (at : ℕ) (sdu : List ℕ) → all ≡ front ++ Comes pdu ∷ rest → up (channel_of pdu) pdu (run_of (policy settings true) front).value ≡ Received at object_psm sdu
      → is_silent (session_behind (fresh_session settings) (handed_for object_psm (run_of (policy settings true) front).up)) sdu ≡ false
      → responses_due settings (handed_for object_psm (run_of (policy settings true) front).up) ≤ length (filter_map said (taken_of (policy settings true) here front))) where
    -- so it goes on behind a front of what happened
    abbrev pub Later : List channels.Occurrence → List Occurrence → Type 0
    Later front rest = (rs : List (List ℕ)) (m : ℕ) → rs ≡ handed_for object_psm (run_of (policy settings true) front).up → length (filter_map said (taken_of (policy settings true) here front)) ≤ m → TakesTurns settings G rs m rest

    stay_later : (front later : List channels.Occurrence) (strand : Strand) (v : Channels) (p : ServerProfile) (rest : List Occurrence) → all ≡ front ++ (strand_list B asks strand v p ++ later) → v ≡ (run_of own front).value → Open object_psm settings content front p
        → handed_from object_psm own v (strand_list B asks strand v p) ≡ [] → AllByRecursion Stays (served_from settings content p (strand_feeds strand v)) → Later (front ++ strand_list B asks strand v p) rest → Later front (served_from settings content p (strand_feeds strand v) ++ rest)
    stay_later front later strand v p rest is at open' none stay next rs m same many =
        let list = strand_list B asks strand v p in
        let goes = ap (λ (l : List (List ℕ)). length (filter_map said l)) (strand_goes object_psm settings content front (list ++ later) here strand v p open' (subst (λ (l : List channels.Occurrence). Sure object_psm settings content l here) is sure)) in
        let more = taken_more front list v at in
        stay_turns settings G rs m (served_from settings content p (strand_feeds strand v)) rest stay (λ k much. next rs k (same ∙ sym (handed_same front list v at none)) (omega (arith, much, many, goes, more)))

    hear_later : (front later : List channels.Occurrence) (pdu : List ℕ) (v : Channels) (p : ServerProfile) (rest : List Occurrence) (brought : Handed) → all ≡ front ++ Comes pdu ∷ later → v ≡ (run_of own front).value → up (channel_of pdu) pdu v ≡ brought
        → Later (front ++ Comes pdu ∷ []) rest → Later front (served_from settings content p (feeds_up brought) ++ rest)
    hear_later front later pdu v p rest Nothing is at brings next rs m same many =
        let none : handed_from object_psm own v (Comes pdu ∷ []) ≡ [] = ap (λ (u : Handed). handed_for object_psm (u ∷ [])) brings in
        let more = taken_more front (Comes pdu ∷ []) v at in
        next rs m (same ∙ sym (handed_same front (Comes pdu ∷ []) v at none)) (omega (arith, many, more))
    hear_later front later pdu v p rest (Received from psm sdu) is at brings next rs m same many =
        let grows = handed_one front pdu v from psm sdu at brings in
        let more = taken_more front (Comes pdu ∷ []) v at in
        let few = ap (responses_due settings) same in
        one_turn settings G rs m (Came psm sdu) rest
        (λ object loud.
        let turn = behind front later pdu from sdu is (ap (λ (w : Channels). up (channel_of pdu) pdu w) (sym at) ∙ (brings ∙ ap (λ (k : ℕ). Received from k sdu) object))
        (subst (λ (l : List (List ℕ)). is_silent (session_behind (fresh_session settings) l) sdu ≡ false) same loud) in
        omega (arith, few, turn, many))
        (next (more_came rs (Came psm sdu)) m (ap (λ (l : List (List ℕ)). l ++ sdu_if (eqb psm object_psm) sdu) same ∙ sym grows) (omega (arith, many, more)))

    strand_later : (front later : List channels.Occurrence) (strand : Strand) (v : Channels) (p : ServerProfile) (rest : List Occurrence) → all ≡ front ++ (strand_list B asks strand v p ++ later) → v ≡ (run_of own front).value → Open object_psm settings content front p → IsOnLink strand
        → Later (front ++ strand_list B asks strand v p) rest → Later front (served_from settings content p (strand_feeds strand v) ++ rest)
    strand_later front later (Hearing pdu) v p rest is at open' on next = hear_later front later pdu v p rest (up (channel_of pdu) pdu v) is at refl next
    strand_later front later (Giving pdu) v p rest is at open' on next = stay_later front later (Giving pdu) v p rest is at open' refl tt next
    strand_later front later Firing v p rest is at open' on next = stay_later front later Firing v p rest is at open' refl tt next
    strand_later front later Telling v p rest is at open' on next = stay_later front later Telling v p rest is at open' refl (told v.events) next
      where
        told : (list : List ChannelEvent) → AllByRecursion Stays (served_from settings content p (next_happening list v))
        told [] = tt
        told (event ∷ list) = all_both Stays (event_served event) [] (event_stays event) tt
    strand_later front later (Gifting circumstances) v p rest is at open' on next = stay_later front later (Gifting circumstances) v p rest is at open' refl (tt, tt) next
    strand_later front later (Learning circumstances news) v p rest is at open' on next = stay_later front later (Learning circumstances news) v p rest is at open' refl (news_stay news on) next
    strand_later front later Checking v p rest is at open' on next = stay_later front later Checking v p rest is at open' refl tt next
    strand_later front later Stepping v p rest is at open' on next =
        stay_later front later Stepping v p rest is at open' (call_brings (asks.call v p) v) (tt, all_both Stays (lent_by (lent_sdu (lends p.server)) v p) [] (lent_stay (lent_sdu (lends p.server)) v p) tt) next

    pub weave-later : (weave : List Strand) (front : List channels.Occurrence) (v : Channels) (p : ServerProfile) (rest : List Occurrence) → all ≡ front ++ woven_list (server_profile settings content) (hosts_ask.servers settings content) weave v p → v ≡ (run_of (policy settings true) front).value
        → Open object_psm settings content front p → AllByRecursion IsOnLink weave → Later all rest → Later front (served_from settings content p (woven_feeds (server_profile settings content) (hosts_ask.servers settings content) weave v p) ++ rest)
    weave-later [] front v p rest is at open' on last = subst (λ (l : List channels.Occurrence). Later l rest) (is ∙ append-nil front) last
    weave-later (strand ∷ weave) front v p rest is at open' on last =
        let list = strand_list B asks strand v p in
        let w = values_after own v list in
        let q = strand_profile B strand v p in
        let more = woven_list B asks weave w q in
        let S = served_from settings content p (strand_feeds strand v) in
        let T = served_from settings content q (woven_feeds B asks weave w q) in
        let next = weave-later weave (front ++ list) w q rest (is ∙ sym (append_assoc front list more)) (value_behind own front list v at) (strand_open object_psm settings content front strand v p at open') on.1 last in
        subst (Later front)
        (sym (ap (λ (l : List Occurrence). l ++ rest) (served-both settings content (strand_feeds strand v) (woven_feeds B asks weave w q) p ∙ ap (λ (x : ServerProfile). S ++ served_from settings content x (woven_feeds B asks weave w q)) (strand_so B asks strand v p)) ∙ append_assoc S T rest))
        (strand_later front more strand v p (T ++ rest) is at open' on.0 next)

-- ---- nothing over RFCOMM

module _ (settings : Settings) (content : Option Contents) (all : List channels.Occurrence) (plain : (psm at : ℕ) → Opened (run_of (policy settings true) all).said psm at → psm ≡ 0x0003 → ⊥) where
  abbrev rules : Policy
  rules = policy settings true

  abbrev served_by : Profile ServerProfile
  served_by = server_profile settings content

  abbrev asked_by : Asks (server_profile settings content)
  asked_by = hosts_ask.servers settings content

  heard_direct : (front later : List channels.Occurrence) (pdu : List ℕ) (v : Channels) (p : ServerProfile) (brought : Handed) → all ≡ front ++ Comes pdu ∷ later → v ≡ (run_of rules front).value → up (channel_of pdu) pdu v ≡ brought → AllByRecursion IsDirect (served_from settings content p (feeds_up brought))
  heard_direct front later pdu v p Nothing is at brings = tt
  heard_direct front later pdu v p (Received from psm sdu) is at brings =
      let here' : Opened (run_of rules front).said psm from = subst (OpenedUp (run_of rules front).said) (ap (λ (w : Channels). up (channel_of pdu) pdu w) (sym at) ∙ brings) (opened-up rules front (Comes pdu)) in
      (plain psm from (subst (λ (l : List channels.Occurrence). Opened (run_of rules l).said psm from) (sym is) (opened-stays rules front (Comes pdu ∷ later) psm from here')), tt)

  lent_direct : (front later : List channels.Occurrence) (lent : Option Lent) (v : Channels) (p : ServerProfile) → all ≡ front ++ later → Open object_psm settings content front p → AllByRecursion IsDirect (lent_by lent v p)
  lent_direct front later None v p is open' = tt
  lent_direct front later (Some lent) v p is open' = by (endpoint_of lent.psm p.endpoints) refl
    where
      sent : (at : ℕ) (taken : Bool) → endpoint_of lent.psm p.endpoints ≡ Some at → AllByRecursion IsDirect (cond taken (Went lent.psm (sdu_of lent.payload) ∷ []) [])
      sent at true found =
          (plain lent.psm at (subst (λ (l : List channels.Occurrence). Opened (run_of rules l).said lent.psm at) (sym is) (opened-stays rules front later lent.psm at (endpoint_so (WasOpened object_psm settings content front) lent.psm at p.endpoints open' found))), tt)
      sent at false found = tt

      by : (found : Option ℕ) → endpoint_of lent.psm p.endpoints ≡ found → AllByRecursion IsDirect (taken_by found lent v)
      by None found = tt
      by (Some at) found = sent at (takes_sdu at (sdu_of lent.payload) v) found

  strand_direct : (front later : List channels.Occurrence) (strand : Strand) (v : Channels) (p : ServerProfile) → all ≡ front ++ (strand_list served_by asked_by strand v p ++ later) → v ≡ (run_of rules front).value → Open object_psm settings content front p → IsOnLink strand
      → AllByRecursion IsDirect (served_from settings content p (strand_feeds strand v))
  strand_direct front later (Hearing pdu) v p is at open' on = heard_direct front later pdu v p (up (channel_of pdu) pdu v) is at refl
  strand_direct front later (Giving pdu) v p is at open' on = tt
  strand_direct front later Firing v p is at open' on = tt
  strand_direct front later Telling v p is at open' on = told v.events
    where
      told : (list : List ChannelEvent) → AllByRecursion IsDirect (served_from settings content p (next_happening list v))
      told [] = tt
      told (event ∷ list) = all_both IsDirect (event_served event) [] (event_direct event) tt
  strand_direct front later (Gifting circumstances) v p is at open' on = (tt, tt)
  strand_direct front later (Learning circumstances news) v p is at open' on = news_direct news on
  strand_direct front later Checking v p is at open' on = tt
  strand_direct front later Stepping v p is at open' on =
      (tt, all_both IsDirect (lent_by (lent_sdu (lends p.server)) v p) [] (lent_direct front (strand_list served_by asked_by Stepping v p ++ later) (lent_sdu (lends p.server)) v p is open') tt)

  pub weave-direct : (weave : List Strand) (front : List channels.Occurrence) (v : Channels) (p : ServerProfile) → all ≡ front ++ woven_list (server_profile settings content) (hosts_ask.servers settings content) weave v p → v ≡ (run_of (policy settings true) front).value
      → Open object_psm settings content front p → AllByRecursion IsOnLink weave → AllByRecursion IsDirect (served_from settings content p (woven_feeds (server_profile settings content) (hosts_ask.servers settings content) weave v p))
  weave-direct [] front v p is at open' on = tt
  weave-direct (strand ∷ weave) front v p is at open' on =
      let list = strand_list served_by asked_by strand v p in
      let w = values_after rules v list in
      let q = strand_profile served_by strand v p in
      let more = woven_list served_by asked_by weave w q in
      let S = served_from settings content p (strand_feeds strand v) in
      let T = served_from settings content q (woven_feeds served_by asked_by weave w q) in
      subst (AllByRecursion IsDirect)
      (sym (served-both settings content (strand_feeds strand v) (woven_feeds served_by asked_by weave w q) p ∙ ap (λ (x : ServerProfile). S ++ served_from settings content x (woven_feeds served_by asked_by weave w q)) (strand_so served_by asked_by strand v p)))
      (all_both IsDirect S T (strand_direct front more strand v p is at open' on.0)
      (weave-direct weave (front ++ list) w q (is ∙ sym (append_assoc front list more)) (value_behind rules front list v at) (strand_open object_psm settings content front strand v p at open') on.1))
