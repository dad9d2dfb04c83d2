-- Over all links of a server each request comes behind the response to the one before on its channel, and all that comes on its channels of objects is handed up.
use Rattle.std.proofs.Common.{◌≡◌, ◌≤◌, ℕ, Bool, true, false, cond, eqb, List, [], ◌∷◌, ◌++◌, Option, Some, inl, refl, sym, ap, subst, ◌∙◌, append_assoc, append-nil, arith}
use Rattle.std.specs.List.{AllByRecursion}
use Rattle.std.proofs.lemmas.Bool.{eq-eqb}
use Rattle.request_laws.specs.bt_base.specs.declared.settings.Settings.{Settings}
use Rattle.request_laws.specs.bt_base.specs.Objects.{Contents}
use Rattle.request_laws.specs.link_talk.specs.Channels.{Entry, reading}
use Rattle.request_laws.specs.channel_model.specs.Policies.{policy}
use Rattle.request_laws.specs.channel_model.specs.Value.{Channels, no_channels}
use Rattle.request_laws.specs.channel_laws.specs.Endpoints.{IsOf}
use Rattle.request_laws.specs.channel_laws.specs.Runs.{run_of}
use Rattle.request_laws.specs.channel_laws.specs.Runs as channels
use Rattle.request_laws.specs.channel_laws.specs.Views.{channel_by, is_own, read_at}
use Rattle.request_laws.specs.channel_laws.specs.talk_laws.proofs.Owning.{Alone, alone, eqb_other, found_other}
use Rattle.request_laws.specs.push_model.specs.Server.{object_psm}
use Rattle.request_laws.specs.push_laws.specs.Occurrences.{Occurrence, Came, Went, Closed, LinkDown, Asked, Answering}
use Rattle.request_laws.specs.push_laws.specs.Parties.{sdu_if}
use Rattle.request_laws.specs.world_model.specs.Machines.{LinkEvent, Up, Down}
use Rattle.request_laws.specs.host_model.specs.Circumstances.{Circumstance}
use Rattle.request_laws.specs.host_model.specs.Profiles.{Profile}
use Rattle.request_laws.specs.host_model.specs.Servers.{ServerProfile, server_profile}
use Rattle.request_laws.specs.host_laws.specs.Calls.{Asks}
use Rattle.request_laws.specs.host_laws.specs.Fed.{WovenFed, turned_feeds, behind_span, AreFed}
use Rattle.request_laws.specs.host_laws.specs.Feeds.{Feed}
use Rattle.request_laws.specs.host_laws.specs.Gaining.{HandsAllUp}
use Rattle.request_laws.specs.host_laws.specs.Lives.{Span, all_marks}
use Rattle.request_laws.specs.host_laws.specs.OverLinks.{AreTimely}
use Rattle.request_laws.specs.host_laws.specs.Serving.{served_from}
use Rattle.request_laws.specs.host_laws.specs.Told.{told_on}
use Rattle.request_laws.specs.host_laws.proofs.Asking.{hosts_ask}
use Rattle.request_laws.specs.host_laws.proofs.Gains.{state}
use Rattle.request_laws.specs.host_laws.proofs.Silence.{channels-are_named}
use Rattle.request_laws.specs.host_laws.proofs.Telling.{sdus_run}
use Rattle.request_laws.specs.BothFed.{ComesNone, IsDown}
use Rattle.request_laws.proofs.Between.{between_still}
use Rattle.request_laws.proofs.Feeding.{up_served, down_served}
use Rattle.request_laws.proofs.ServerTakes.{WasOpened}
use Rattle.request_laws.proofs.Silent.{IsStill}
use Rattle.request_laws.proofs.Takes.{AllEndpoints}
use Rattle.request_laws.proofs.Timely.{is_up, goes_down, is_deaf, is_deaf_now, is_down}
use Rattle.orderly_laws.specs.Answered.{responses_due}
use Rattle.orderly_laws.proofs.Counting.{MayAsk}
use Rattle.orderly_laws.proofs.Linking.{new_server, span_served, value_at}
use Rattle.following_laws.specs.Following.{object_sdus_told, IsWholeEntry}
use Rattle.following_laws.proofs.Current.{current-none}
use Rattle.behind_laws.proofs.Counting.{went, Proceeds}
use Rattle.behind_laws.proofs.Requests.{took, all-handed_up}
use Rattle.behind_laws.proofs.Standing.{HasBrought, most-due, told-same}
use Rattle.behind_laws.proofs.Weaving.{IsOfObjects, ReadsLink, Standing, weave-later}

-- ---- all that comes on the channels of objects of a link is handed up

abbrev pub HandsObjectsUp : Settings → List channels.Occurrence → Type 0
HandsObjectsUp settings list = AllByRecursion (IsWholeEntry (policy settings true) list) (reading (run_of (policy settings true) list).said).entries

-- each entry is the one that is read at its endpoint
each_read : (P : Entry → Type 0) (entries : List Entry) → Alone entries → ((entry : Entry) → read_at entry.channel.own entries ≡ Some entry → P entry) → AllByRecursion P entries
each_read P [] lone so = tt
each_read P (first ∷ entries) lone so = (
  so first (ap (λ (b : Bool). cond b (Some first) (read_at first.channel.own entries)) (eq-eqb first.channel.own first.channel.own refl)),
  each_read P entries lone.1 (λ entry at.
      so entry (ap (λ (b : Bool). cond b (Some first) (read_at entry.channel.own entries)) (eqb_other entry.channel.own first.channel.own (found_other first.channel (is_own entry.channel.own) entries entry lone.0 at)) ∙ at)),
)

-- no more responses were taken there than are due
abbrev Few : Settings → List channels.Occurrence → Type 0
Few settings list = (own : ℕ) → IsOfObjects settings list own → took settings own list ≤ responses_due settings (object_sdus_told own (told_on (policy settings true) list))

hands_up : (settings : Settings) (list : List channels.Occurrence) → ReadsLink settings list → Few settings list → HandsObjectsUp settings list
hands_up settings list read few = each_read (IsWholeEntry (policy settings true) list) entries (alone (run_of (policy settings true) list).said) by
  where
    entries : List Entry
    entries = (reading (run_of (policy settings true) list).said).entries

    by : (entry : Entry) → read_at entry.channel.own entries ≡ Some entry → entry.channel.psm ≡ object_psm → HandsAllUp (policy settings true) list entry.channel
    by entry at object =
        let one = entry.channel in
        let there : IsOf entry.channel (read_at entry.channel.own entries) = subst (IsOf entry.channel) (sym at) refl in
        let named : IsOf (channel_by object_psm entry.channel.own entry.channel.peer) (read_at entry.channel.own entries) =
        subst (λ (n : ℕ). IsOf (channel_by n entry.channel.own entry.channel.peer) (read_at entry.channel.own entries)) object there in
        let same = told-same entries one.own one.peer named (told_on (policy settings true) list) (channels-are_named (policy settings true) list) ∙ sym (sdus_run (policy settings true) one.own list) in
        all-handed_up settings list read.talk read.outs read.said_is read.go_out read.uttered read.answered one object there
        (subst (λ (l : List (List ℕ)). took settings one.own list ≤ responses_due settings l) same (few one.own (one.peer, named))) read.told

-- ---- on each link

abbrev pub AllReadLinks : Settings → List Span → Type 0
AllReadLinks settings spans = AllByRecursion (λ (span : Span). ReadsLink settings span.list) spans

abbrev pub AllHandUp : (settings : Settings) (spans : List Span) (now : List channels.Occurrence) → Type 0
AllHandUp settings [] now = Unit {0}
AllHandUp settings (up ∷ []) now = HandsObjectsUp settings now
AllHandUp settings (up ∷ down ∷ spans) now = HandsObjectsUp settings down.list × AllHandUp settings spans now

-- ---- what proceeds

module _ (settings : Settings) where
  and_so : (G H : Type 0) → (G → H) → (rs : List (List ℕ)) (m : ℕ) (occurrences : List Occurrence) → Proceeds settings G rs m occurrences → Proceeds settings H rs m occurrences
  and_so G H to rs m [] proceeds = λ few. to (proceeds few)
  and_so G H to rs m (one ∷ rest) proceeds = λ few. ((proceeds few).0, and_so G H to (state rs one) (went m one) rest (proceeds few).1)

  -- with what is so where it begins
  with_so : (F G : Type 0) (rs : List (List ℕ)) (m : ℕ) (occurrences : List Occurrence) → (m ≤ responses_due settings rs → F) → Proceeds settings G rs m occurrences → Proceeds settings (F × G) rs m occurrences
  with_so F G rs m [] so proceeds = λ few. (so few, proceeds few)
  with_so F G rs m (one ∷ rest) so proceeds = λ few. ((proceeds few).0, and_so G (F × G) (λ g. (so few, g)) (state rs one) (went m one) rest (proceeds few).1)

  none_asks : (rs : List (List ℕ)) (m : ℕ) (one : Occurrence) → ComesNone one → MayAsk settings rs m one
  none_asks rs m (Came psm sdu) none = λ is loud. let never : sdu ∷ [] ≡ [] = subst (λ (p : ℕ). sdu_if (eqb p object_psm) sdu ≡ []) is (none object_psm) in absurd cc
  none_asks rs m (Went psm sdu) none = tt
  none_asks rs m (Closed psm) none = tt
  none_asks rs m LinkDown none = tt
  none_asks rs m Asked none = tt
  none_asks rs m (Answering answers) none = tt

  -- the link goes down
  down_proceeds : (G : Type 0) (rs : List (List ℕ)) (m : ℕ) (ahead rest : List Occurrence) → AllByRecursion ComesNone ahead → Proceeds settings G [] 0 rest → Proceeds settings G rs m (ahead ++ LinkDown ∷ rest)
  down_proceeds G rs m [] rest none later = λ few. (tt, later)
  down_proceeds G rs m (one ∷ ahead) rest none later = λ few. (none_asks rs m one none.0, down_proceeds G (state rs one) (went m one) ahead rest none.1 later)

  -- nothing comes, goes or is closed
  still_state : (rs : List (List ℕ)) (one : Occurrence) → IsStill one → state rs one ≡ rs
  still_state rs (Came psm sdu) still = by (eqb psm object_psm) (still.come object_psm)
    where
      by : (here : Bool) → sdu_if here sdu ≡ [] → cond here (rs ++ sdu ∷ []) rs ≡ rs
      by true none = cc
      by false none = refl
  still_state rs (Went psm sdu) still = refl
  still_state rs (Closed psm) still = ap (λ (b : Bool). cond b [] rs) (still.open_yet object_psm)
  still_state rs LinkDown still = let never : true ≡ false = still.open_yet object_psm in absurd cc
  still_state rs Asked still = refl
  still_state rs (Answering answers) still = refl

  still_proceeds : (G : Type 0) (rs : List (List ℕ)) (m : ℕ) (still rest : List Occurrence) → AllByRecursion IsStill still → ((k : ℕ) → Proceeds settings G rs k rest) → Proceeds settings G rs m (still ++ rest)
  still_proceeds G rs m [] rest all later = later m
  still_proceeds G rs m (one ∷ still) rest all later =
      λ few. (none_asks rs m one all.0.come, subst (λ (l : List (List ℕ)). Proceeds settings G l (went m one) (still ++ rest)) (sym (still_state rs one all.0)) (still_proceeds G rs (went m one) still rest all.1 later))

-- ---- over all links

module _ (settings : Settings) (content : Option Contents) where
  abbrev B : Profile ServerProfile
  B = server_profile settings content

  abbrev asks : Asks (server_profile settings content)
  asks = hosts_ask.servers settings content

  abbrev served : ServerProfile → List Feed → List Occurrence
  served p feeds = served_from settings content p feeds

  begins : (list : List channels.Occurrence) (read : ReadsLink settings list) (p : ServerProfile) (m : ℕ) → p.endpoints ≡ [] → Standing settings content list read [] p [] m
  begins list read p m none = record {
    current = current-none;
    alone = λ own. inl refl;
    rs_is = refl;
    counts = λ own object. omega arith;
    opens = subst (AllEndpoints (WasOpened object_psm settings content [])) (sym none) tt;
    brought = subst (AllEndpoints (HasBrought [])) (sym none) tt;
  }

  ends_few : (list : List channels.Occurrence) (read : ReadsLink settings list) (p : ServerProfile) (rs : List (List ℕ)) (m : ℕ) → Standing settings content list read list p rs m → m ≤ responses_due settings rs → Few settings list
  ends_few list read p rs m st few own object =
      let counted = st.counts own object in
      let due = most-due settings (told_on (policy settings true) list) m own (subst (λ (l : List (List ℕ)). m ≤ responses_due settings l) st.rs_is few) st.current (st.alone own) in
      omega (arith, counted, due)

  -- from a link's beginning
  link_proceeds : (G : Type 0) (list : List channels.Occurrence) (feeds : List Feed) (first last : ServerProfile) (rest : List Occurrence) (m : ℕ) → WovenFed B asks list feeds first last → ReadsLink settings list → first.endpoints ≡ []
      → ((rs : List (List ℕ)) (k : ℕ) → (k ≤ responses_due settings rs → HandsObjectsUp settings list) → Proceeds settings G rs k rest) → Proceeds settings G [] m (served first feeds ++ rest)
  link_proceeds G list feeds first last rest m so read none next =
      subst (λ (l : List Feed). Proceeds settings G [] m (served first l ++ rest)) (sym so.feeds_are)
      (weave-later settings content list read G so.woven.weave [] no_channels first rest so.woven.list_is refl so.woven.on_link (λ q rs k st. next rs k (λ few. hands_up settings list read (ends_few list read q rs k st few))) [] m (begins list read first m none))

  turned_up : (G : Type 0) (m : ℕ) (circumstances : List Circumstance) (event : LinkEvent) (v : Channels) (p : ServerProfile) (rest : List Occurrence) → event ≡ Up → Proceeds settings G [] m rest → Proceeds settings G [] m (served p (turned_feeds circumstances event v) ++ rest)
  turned_up G m circumstances event v p rest rises proceeds = subst (λ (l : List Occurrence). Proceeds settings G [] m (l ++ rest)) (sym (up_served settings content circumstances event v p rises)) proceeds

  turned_down : (G : Type 0) (rs : List (List ℕ)) (m : ℕ) (circumstances : List Circumstance) (event : LinkEvent) (v : Channels) (p : ServerProfile) (rest : List Occurrence) → IsDown event → Proceeds settings G [] 0 rest → Proceeds settings G rs m (served p (turned_feeds circumstances event v) ++ rest)
  turned_down G rs m circumstances Up v p rest drops proceeds = absurd drops
  turned_down G rs m circumstances (Down reason) v p rest drops proceeds =
      let down = down_served settings content circumstances reason v p in
      subst (Proceeds settings G rs m) (sym (ap (λ (l : List Occurrence). l ++ rest) down.is ∙ append_assoc down.ahead (LinkDown ∷ []) rest)) (down_proceeds settings G rs m down.ahead rest down.quiet proceeds)

  pub all-proceed : (spans : List Span) (now : List channels.Occurrence) (feeds : List Feed) (first last : ServerProfile) → AreFed B asks spans now feeds first last → first.endpoints ≡ [] → AreTimely false (all_marks spans now) → AllReadLinks settings spans → ReadsLink settings now → (m : ℕ)
      → Proceeds settings (AllHandUp settings spans now) [] m (served first feeds)
  all-proceed [] now feeds first last so none timely reads read m =
      subst (Proceeds settings (Unit {0}) [] m) (append-nil (served first feeds)) (still_proceeds settings (Unit {0}) [] m (served first feeds) [] (between_still settings content asks now feeds first last so (is_deaf_now now timely)) (λ k few. tt))
  all-proceed (up ∷ []) now feeds first last (here, later, is, so) none timely reads read m =
      let rises = is_up up [] now timely in
      let deaf = is_deaf up [] now rises timely in
      let G = HandsObjectsUp settings now in
      let mid = behind_span B asks up first here in
      let link : (k : ℕ) → Proceeds settings G [] k (served mid later) = λ k.
      subst (Proceeds settings G [] k) (append-nil (served mid later)) (link_proceeds G now later mid last [] k so read (new_server settings content here.circumstances up.event (value_at settings content up) here.mid) (λ rs j hands. hands)) in
      subst (Proceeds settings G [] m) (sym (span_served settings content up first here feeds later is))
      (still_proceeds settings G [] m (served first here.here) (served here.mid (turned_feeds here.circumstances up.event (value_at settings content up)) ++ served mid later) (between_still settings content asks up.list here.here first here.mid here.so deaf.deaf)
      (λ k. turned_up G k here.circumstances up.event (value_at settings content up) here.mid (served mid later) rises (link k)))
  all-proceed (up ∷ down ∷ spans) now feeds first last (here, later, is, (there, rest, rest_is, so)) none timely reads read m =
      let rises = is_up up (down ∷ spans) now timely in
      let deaf = is_deaf up (down ∷ spans) now rises timely in
      let drops = goes_down down spans now deaf.rest in
      let H = AllHandUp settings spans now in
      let G = HandsObjectsUp settings down.list × H in
      let mid = behind_span B asks up first here in
      let after = behind_span B asks down mid there in
      let behind = all-proceed spans now rest after last so (new_server settings content there.circumstances down.event (value_at settings content down) there.mid) (is_down down spans now drops deaf.rest) reads.1.1 read 0 in
      let turn = served there.mid (turned_feeds there.circumstances down.event (value_at settings content down)) ++ served after rest in
      let link : (k : ℕ) → Proceeds settings G [] k (served mid later) = λ k.
      subst (Proceeds settings G [] k) (sym (span_served settings content down mid there later rest rest_is))
      (link_proceeds G down.list there.here mid there.mid turn k there.so reads.1.0 (new_server settings content here.circumstances up.event (value_at settings content up) here.mid)
      (λ rs j hands. with_so settings (HandsObjectsUp settings down.list) H rs j turn hands (turned_down H rs j there.circumstances down.event (value_at settings content down) there.mid (served after rest) drops behind))) in
      subst (Proceeds settings G [] m) (sym (span_served settings content up first here feeds later is))
      (still_proceeds settings G [] m (served first here.here) (served here.mid (turned_feeds here.circumstances up.event (value_at settings content up)) ++ served mid later) (between_still settings content asks up.list here.here first here.mid here.so deaf.deaf)
      (λ k. turned_up G k here.circumstances up.event (value_at settings content up) here.mid (served mid later) rises (link k)))
