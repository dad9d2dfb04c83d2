-- Through what happens on a link: an outcome that an SDU brings about comes with one.
use Rattle.std.proofs.Common.{◌≡◌, ℕ, Bool, true, false, ◌&&◌, ◌==◌, List, [], ◌∷◌, ◌++◌, fold, Option, Some, None, Result, Ok, Err, refl, sym, ap, subst, ◌∙◌, ◌⊎◌, inl, inr, append_assoc, append-nil, arith, if◌then◌else◌}
use Rattle.std.specs.Prelude.{IfSome}
use Rattle.std.specs.List.{AllByRecursion}
use Rattle.std.proofs.lemmas.Bool.{eq-eqb}
use Rattle.std.proofs.lemmas.List.Sums.{fold-append}
use Rattle.scenario_laws.specs.bt_base.specs.declared.ports.PortFault.{PortFault}
use Rattle.scenario_laws.specs.bt_base.specs.declared.ports.PortFault.TheVariants as fault
use Rattle.scenario_laws.specs.bt_base.specs.declared.settings.Settings.{Settings}
use Rattle.scenario_laws.specs.acl_fragments.specs.Pieces.{channel_of}
use Rattle.scenario_laws.specs.push_terms.specs.declared.outcome.Outcome.{Outcome}
use Rattle.scenario_laws.specs.push_terms.specs.declared.outcome.Outcome.TheVariants.{Cancelled as PushCancelled}
use Rattle.scenario_laws.specs.channel_model.specs.Carrying.{Up as Handed, Nothing, Received}
use Rattle.scenario_laws.specs.channel_model.specs.Hearing.{up}
use Rattle.scenario_laws.specs.channel_model.specs.declared.event.ChannelEvent.{ChannelEvent}
use Rattle.scenario_laws.specs.channel_model.specs.Policies.{Policy, policy}
use Rattle.scenario_laws.specs.channel_model.specs.Value.{Channels}
use Rattle.scenario_laws.specs.channel_laws.specs.Runs.{Occurrence, Comes, Run, new_link, run_on, run_of}
use Rattle.scenario_laws.specs.push_model.specs.Causes.{cause_of_page}
use Rattle.scenario_laws.specs.push_model.specs.Client.{Client, begins, begun_by, cancelled, may_cancel}
use Rattle.scenario_laws.specs.push_model.specs.Events as events
use Rattle.scenario_laws.specs.push_model.specs.Events.{hears_news}
use Rattle.scenario_laws.specs.push_model.specs.Laws.{Hears, Cancels, done}
use Rattle.scenario_laws.specs.push_model.specs.Shown.{sdu_shows}
use Rattle.scenario_laws.specs.push_model.specs.Steps.{steps}
use Rattle.scenario_laws.specs.push_model.proofs.CauseLaws.{first_causes_stay}
use Rattle.scenario_laws.specs.push_model.proofs.ShownLaws.{outcomes_are_shown}
use Rattle.scenario_laws.specs.world_model.specs.Machines.{News, Linked, Failed, Heard, TimerFired, Cancelled, Opening}
use Rattle.scenario_laws.specs.host_model.specs.Circumstances.{Circumstance}
use Rattle.scenario_laws.specs.host_model.specs.Clients.{ClientProfile, client_profile, ended, fitted}
use Rattle.scenario_laws.specs.host_model.specs.Shelves.{size_for, name_for}
use Rattle.scenario_laws.specs.host_model.specs.Hosts.{handed}
use Rattle.scenario_laws.specs.host_model.specs.Profiles.{Profile}
use Rattle.scenario_laws.specs.host_laws.specs.Calls.{Asks, values_after}
use Rattle.scenario_laws.specs.host_laws.specs.Feeds.{Feed, Learns, Happens, Sent, Steps, fed, tidings_by}
use Rattle.scenario_laws.specs.host_laws.specs.Pushing.{Affair, Begins, Does, client_behind, then_ends, then_calls, pushed_with}
use Rattle.scenario_laws.specs.host_laws.proofs.Pushing.{feed_so}
use Rattle.scenario_laws.specs.host_laws.specs.Woven.{Strand, Hearing, Giving, Firing, Telling, Gifting, Learning, Checking, Stepping, IsOnLink, told_next, strand_list, strand_profile, woven_list, woven_profile}
use Rattle.scenario_laws.specs.host_laws.proofs.FramesSent.{IsOver, stays_over}
use Rattle.scenario_laws.specs.host_laws.proofs.Links.{value_run}
use Rattle.scenario_laws.specs.push_laws.specs.Opening.{whole_way}
use Rattle.scenario_laws.specs.push_laws.proofs.Opening.{Walk, Stands, At, course_of, behind_deed, deed_stands}
use Rattle.scenario_laws.specs.push_model.specs.Responding.{is_object, hears_frame}
use Rattle.scenario_laws.specs.push_model.specs.declared.course.Stage.{Stage}
use Rattle.scenario_laws.specs.push_model.specs.declared.course.Stage.TheVariants.{Object}
use Rattle.scenario_laws.specs.bt_base.specs.declared.settings.Transport.{Transport}
use Rattle.scenario_laws.specs.bt_base.specs.declared.settings.Transport.TheVariants.{Rfcomm}
use Rattle.scenario_laws.specs.push_terms.specs.declared.word.Side.TheVariants.{A}
use Rattle.scenario_laws.specs.capture.specs.declared.flow.Flow.TheVariants.{Into}
use Rattle.scenario_laws.specs.link_talk.specs.Sayings.{Carried}
use Rattle.scenario_laws.specs.channel_model.specs.Carrying.{takes}
use Rattle.scenario_laws.specs.channel_laws.specs.OwnTalk.{asked_between}
use Rattle.scenario_laws.specs.Parties.{party_of}
use Rattle.scenario_laws.proofs.Wishes.{states_frame}
use Rattle.cause_laws.specs.Said.{Decision, decision_of, Brings}
use Rattle.cause_laws.proofs.Clients.{is_unsaid, any_unsaid, unsaid_says, some_goes, Within, ShowsWithin, more_shown, timer_shown, Came, IsWithin, came_behind, none_later}
use Rattle.cause_laws.proofs.Profiles.{any_more, end_within, call_within, event_within, sent_within, step_within}
use Rattle.cause_laws.proofs.Off.{IsOff, strand_off}
use Rattle.cause_laws.proofs.AnswersTold.{grown}
use Rattle.cause_laws.proofs.Hearings.{plain_sdu, said_then}
use Rattle.cause_laws.proofs.Holding.{HoldsSo, holds_none, holds_grow, IsApart, end_apart, call_apart, event_apart, sent_apart, step_apart, both_apart, elsewhere_held, frame_holds, object_is, behind_holds}
use Rattle.cause_laws.proofs.Saying.{Says, channel_fits, brings_octets, sdu_says}

module _ (settings : Settings) where
  abbrev wanted : Policy
  wanted = policy settings false

  abbrev C : Profile ClientProfile
  C = client_profile settings

  -- a PDU came in, with which this SDU was handed up
  pub record CameIn (decision : Decision) (list : List Occurrence) : Type 0 where
    pub front : List Occurrence
    pub pdu : List ℕ
    pub back : List Occurrence
    pub list_is : list ≡ front ++ Comes pdu ∷ back
    pub own : ℕ
    pub psm : ℕ
    pub sdu : List ℕ
    pub brought : up (channel_of pdu) pdu (run_of (policy settings false) front).value ≡ Received own psm sdu
    pub brings : Brings settings.transport decision (run_of (policy settings false) front).said psm sdu

  abbrev pub HasCame : Option Outcome → List Occurrence → Type 0
  HasCame None list = Unit {0}
  HasCame (Some outcome) list = IfSome (decision_of outcome) (λ decision. CameIn decision list)

  came_more : (list more : List Occurrence) (decision : Decision) → CameIn decision list → CameIn decision (list ++ more)
  came_more list more decision came = record {
    front = came.front;
    pdu = came.pdu;
    back = came.back ++ more;
    list_is = ap (λ (l : List Occurrence). l ++ more) came.list_is ∙ append_assoc came.front (Comes came.pdu ∷ came.back) more;
    own = came.own;
    psm = came.psm;
    sdu = came.sdu;
    brought = came.brought;
    brings = came.brings;
  }

  has_more : (cause : Option Outcome) (list more : List Occurrence) → HasCame cause list → HasCame cause (list ++ more)
  has_more None list more has = tt
  has_more (Some outcome) list more has = some_goes (λ decision. CameIn decision list) (λ decision. CameIn decision (list ++ more)) (came_more list more) (decision_of outcome) has

  unsaid_has : (old new : Option Outcome) (list more : List Occurrence) → Came is_unsaid old new → HasCame old list → HasCame new (list ++ more)
  unsaid_has None None list more came has = tt
  unsaid_has None (Some outcome) list more came has = unsaid_says (λ decision. CameIn decision (list ++ more)) outcome came
  unsaid_has (Some outcome) new list more came has = subst (λ (c : Option Outcome). HasCame c (list ++ more)) (sym came) (has_more (Some outcome) list more has)

  -- ---- what is known of a client on its link

  -- its transport and how it stands on its way, the SDU that its outcome came of, and over RFCOMM what it holds of a packet
  pub record Known (c : Client) (past : List Occurrence) : Type 0 where
    pub over : IsOver settings.transport c
    pub walk : Walk
    pub stands : Stands walk c
    pub has : HasCame c.cause past
    pub held : settings.transport ≡ Rfcomm → HoldsSo c.held (run_of (policy settings false) past).said

  held_more : (held : List ℕ) (past more : List Occurrence) → HoldsSo held (run_of wanted past).said → HoldsSo held (run_of wanted (past ++ more)).said
  held_more held past more so =
      let rest = grown wanted more (run_of wanted past) in
      subst (HoldsSo held) (sym (ap (λ (r : Run). r.said) (fold-append (run_on wanted) new_link past more) ∙ rest.is)) (holds_grow held (run_of wanted past).said rest.more so)

  known_more : (c : Client) (past more : List Occurrence) → Known c past → Known c (past ++ more)
  known_more c past more known = record { over = known.over; walk = known.walk; stands = known.stands; has = has_more c.cause past more known.has; held = λ muxed. held_more c.held past more (known.held muxed) }

  walks_behind : (affairs : List Affair) (c : Client) → AllByRecursion (IsWithin is_unsaid) affairs → (walk : Walk) → Stands walk c → (later : Walk) × Stands later (client_behind affairs c)
  walks_behind [] c all walk stands = (walk, stands)
  walks_behind (Begins size name ∷ affairs) c all walk stands = absurd all.0
  walks_behind (Does deed ∷ affairs) c all walk stands = walks_behind affairs (done deed c) all.1 (behind_deed walk deed c) (deed_stands walk deed c stands)

  known_behind : (affairs : List Affair) (c : Client) (past more : List Occurrence) → AllByRecursion (IsWithin is_unsaid) affairs → AllByRecursion IsApart affairs → Known c past → Known (client_behind affairs c) (past ++ more)
  known_behind affairs c past more all apart known =
      let (walk, stands) = walks_behind affairs c all known.walk known.stands in
      record {
        over = stays_over settings.transport affairs c known.over;
        walk = walk;
        stands = stands;
        has = unsaid_has c.cause (client_behind affairs c).cause past more (came_behind is_unsaid affairs c all) known.has;
        held = λ muxed. held_more (client_behind affairs c).held past more (behind_holds settings.transport affairs c (run_of wanted past).said apart muxed known.over (known.held muxed));
      }

  -- ---- it is told something else

  fed_known : (p : ClientProfile) (feed : Feed) (past more : List Occurrence) → AllByRecursion (IsWithin is_unsaid) (pushed_with p feed) → AllByRecursion IsApart (pushed_with p feed) → Known p.client past → Known (fed (client_profile settings) p feed).client (past ++ more)
  fed_known p feed past more all apart known = subst (λ (c : Client). Known c (past ++ more)) (sym (feed_so settings p feed)) (known_behind (pushed_with p feed) p.client past more all apart known)

  cancels_unsaid : ShowsWithin is_unsaid Cancels
  cancels_unsaid client = by (may_cancel client)
    where
      by : (may : Bool) → Within is_unsaid (if may then Some PushCancelled else None)
      by true = refl
      by false = tt

  fails_unsaid : (status : ℕ) → ShowsWithin is_unsaid (Hears (events.LinkFailed status))
  fails_unsaid status client = by (events.is_paging client.stage)
    where
      by : (paging : Bool) → Within is_unsaid (if paging then Some (cause_of_page status) else None)
      by true = refl
      by false = tt

  -- a push that begins has no outcome yet, or one that no SDU brings about, and stands where its way begins
  begun_known : (size : Result ℕ PortFault) (name : List ℕ) (c : Client) (past : List Occurrence) → Known c past → Known (begins size name c) past
  begun_known size name c past known = on c.failed (stays_over settings.transport (Begins size name ∷ []) c known.over)
    where
      fresh : Walk
      fresh = record { transport = c.transport; targets = []; taken = [] }

      by : (answered : Result ℕ PortFault) → IsOver settings.transport (begun_by answered name c) → Known (begun_by answered name c) past
      by (Ok n) over = record { over = over; walk = fresh; stands = record { same = refl; none = refl; is = refl }; has = tt; held = λ muxed. holds_none (run_of wanted past).said }
      by (Err fault.Failed) over = record { over = over; walk = fresh; stands = record { one = omega arith; behind = whole_way c.transport []; way = refl }; has = tt; held = λ muxed. holds_none (run_of wanted past).said }
      by (Err fault.NoMemory) over = record { over = over; walk = known.walk; stands = known.stands; has = known.has; held = known.held }

      on : (failed : Bool) → (let d = if failed then c else begun_by size name c in IsOver settings.transport d → Known d past)
      on true over = known
      on false over = by size over

  both_within : (one two : List Affair) → AllByRecursion (IsWithin is_unsaid) one → AllByRecursion (IsWithin is_unsaid) two → AllByRecursion (IsWithin is_unsaid) (one ++ two)
  both_within [] two x y = y
  both_within (affair ∷ one) two x y = (x.0, both_within one two x.1 y)

  opening_known : (circumstances : List Circumstance) (name : List ℕ) (p : ClientProfile) (past : List Occurrence) → Known p.client past → Known ((client_profile settings).told circumstances (Opening name) p).client (past ++ [])
  opening_known circumstances name p past known =
      let size = size_for circumstances name in
      let begun = begins size (name_for name) p.client in
      let rest = then_ends begun ++ then_calls (ended begun) in
      let within = both_within (then_ends begun) (then_calls (ended begun)) (any_more is_unsaid any_unsaid (then_ends begun) (end_within (steps begun []).step)) (any_more is_unsaid any_unsaid (then_calls (ended begun)) (call_within (steps (ended begun) []).step)) in
      subst (λ (c : Client). Known c (past ++ [])) (sym (feed_so settings p (Learns circumstances (Opening name)))) (known_behind rest begun past [] within (both_apart (then_ends begun) (then_calls (ended begun)) (end_apart (steps begun []).step) (call_apart (steps (ended begun) []).step)) (begun_known size (name_for name) p.client past known))

  news_known : (circumstances : List Circumstance) (news : News) (p : ClientProfile) (past : List Occurrence) → tidings_by news ≡ [] → Known p.client past → Known ((client_profile settings).told circumstances news p).client (past ++ [])
  news_known circumstances (Linked event) p past of known = cc
  news_known circumstances (Failed status) p past of known =
      let failed = hears_news (events.LinkFailed status) p.client in
      fed_known p (Learns circumstances (Failed status)) past [] (fails_unsaid status, any_more is_unsaid any_unsaid (then_ends failed) (end_within (steps failed []).step)) (tt, end_apart (steps failed []).step) known
  news_known circumstances (Heard pdu) p past of known = known_more p.client past [] known
  news_known circumstances TimerFired p past of known = fed_known p (Learns circumstances TimerFired) past [] (more_shown is_unsaid any_unsaid (Hears events.Timer) timer_shown, tt) (tt, tt) known
  news_known circumstances Cancelled p past of known =
      fed_known p (Learns circumstances Cancelled) past [] (cancels_unsaid, any_more is_unsaid any_unsaid (then_ends (cancelled p.client)) (end_within (steps (cancelled p.client) []).step)) (tt, end_apart (steps (cancelled p.client) []).step) known
  news_known circumstances (Opening name) p past of known = opening_known circumstances name p past known

  next_known : (event_list : List ChannelEvent) (v : Channels) (p : ClientProfile) (past more : List Occurrence) → Known p.client past → Known (told_next (client_profile settings) event_list v p).client (past ++ more)
  next_known [] v p past more known = known_more p.client past more known
  next_known (event ∷ rest) v p past more known =
      let u : Channels = record v { events = rest } in fed_known p (Happens event u) past more (any_more is_unsaid any_unsaid _ (event_within event u)) (event_apart event u) known

  -- ---- an SDU comes in

  module _ (past : List Occurrence) (pdu : List ℕ) (own psm : ℕ) (sdu : List ℕ) (is : up (channel_of pdu) pdu (run_of (policy settings false) past).value ≡ Received own psm sdu) where
    came_now : (decision : Decision) → Brings settings.transport decision (run_of (policy settings false) past).said psm sdu → CameIn decision (past ++ Comes pdu ∷ [])
    came_now decision brings = record { front = past; pdu = pdu; back = []; list_is = refl; own = own; psm = psm; sdu = sdu; brought = is; brings = brings }

    shown_has : (shown : Option Outcome) → Says settings.transport (run_of (policy settings false) past).said psm sdu shown → HasCame shown (past ++ Comes pdu ∷ [])
    shown_has None says = tt
    shown_has (Some outcome) says = some_goes (λ decision. Brings settings.transport decision (run_of wanted past).said psm sdu) (λ decision. CameIn decision (past ++ Comes pdu ∷ [])) came_now (decision_of outcome) says

    received_known : (c : Client) → Known c past → Known (done (Hears (events.Sdu psm sdu)) c) (past ++ Comes pdu ∷ [])
    received_known c known = record {
      over = stays_over settings.transport (Does (Hears (events.Sdu psm sdu)) ∷ []) c known.over;
      walk = behind_deed known.walk (Hears (events.Sdu psm sdu)) c;
      stands = deed_stands known.walk (Hears (events.Sdu psm sdu)) c known.stands;
      has = by c.cause refl known.has;
      held = λ muxed. holds muxed (is_object c.stage && (psm == c.psm)) refl;
    }
      where
        later : Client
        later = done (Hears (events.Sdu psm sdu)) c

        -- a frame on the channel of its object
        framed : settings.transport ≡ Rfcomm → (c.stage ≡ Object) × (psm ≡ c.psm) → HoldsSo later.held (run_of wanted (past ++ Comes pdu ∷ [])).said
        framed muxed (at, here) =
            let run = run_of wanted past in
            let party = party_of settings A in
            let so : psm ≡ 0x0003 = here ∙ channel_fits Rfcomm known.walk c (known.over.0 ∙ muxed) (subst (λ (s : Stage). At known.walk s (course_of c)) at known.stands) in
            let came : HoldsSo (hears_frame sdu c).held (run.said ++ Carried Into pdu ∷ []) =
            frame_holds sdu c run.said (Carried Into pdu) (ap Some (sym (plain_sdu settings past pdu own psm sdu so is))) (λ octets brought. brings_octets sdu c.mux octets brought) (known.held muxed) in
            let said_is : (run_of wanted (past ++ Comes pdu ∷ [])).said ≡ (run.said ++ Carried Into pdu ∷ []) ++ asked_between run.value (takes (channel_of pdu) pdu run.value) =
            ap (λ (r : Run). r.said) (fold-append (run_on wanted) new_link past (Comes pdu ∷ [])) ∙ said_then wanted party past pdu own psm sdu (states_frame settings false A) is in
            let heard_is : later ≡ hears_frame sdu c =
            ap (λ (s : Stage). events.sdu_at s psm sdu c) at
            ∙ (ap (λ (b : Bool). if b then events.hears_object c.transport sdu c else c) (eq-eqb psm c.psm here) ∙ ap (λ (t : Transport). events.hears_object t sdu c) (known.over.0 ∙ muxed)) in
            subst (λ (d : Client). HoldsSo d.held (run_of wanted (past ++ Comes pdu ∷ [])).said) (sym heard_is)
            (subst (HoldsSo (hears_frame sdu c).held) (sym said_is) (holds_grow (hears_frame sdu c).held (run.said ++ Carried Into pdu ∷ []) (asked_between run.value (takes (channel_of pdu) pdu run.value)) came))

        holds : settings.transport ≡ Rfcomm → (here : Bool) → (is_object c.stage && (psm == c.psm)) ≡ here → HoldsSo later.held (run_of wanted (past ++ Comes pdu ∷ [])).said
        holds muxed true is' = framed muxed (object_is c.stage psm c.psm is')
        holds muxed false is' = held_more later.held past (Comes pdu ∷ []) (subst (λ (held : List ℕ). HoldsSo held (run_of wanted past).said) (sym (elsewhere_held c.stage psm sdu c is')) (known.held muxed))

        by : (cause : Option Outcome) → c.cause ≡ cause → HasCame cause past → HasCame (done (Hears (events.Sdu psm sdu)) c).cause (past ++ Comes pdu ∷ [])
        by None none has =
            subst (λ (x : Option Outcome). HasCame x (past ++ Comes pdu ∷ [])) (sym (outcomes_are_shown (Hears (events.Sdu psm sdu) ∷ []) c none ∙ none_later (sdu_shows c.stage psm sdu c)))
            (shown_has (sdu_shows c.stage psm sdu c) (sdu_says settings.transport (run_of wanted past).said psm sdu c known.over.0 known.walk known.held c.stage known.stands))
        by (Some outcome) some has =
            subst (λ (x : Option Outcome). HasCame x (past ++ Comes pdu ∷ [])) (sym (first_causes_stay (Hears (events.Sdu psm sdu) ∷ []) c outcome some)) (has_more (Some outcome) past (Comes pdu ∷ []) has)

  handed_known : (past : List Occurrence) (pdu : List ℕ) (brought : Handed) (p : ClientProfile) → up (channel_of pdu) pdu (run_of (policy settings false) past).value ≡ brought → Known p.client past
      → Known (handed (client_profile settings) brought p).client (past ++ Comes pdu ∷ [])
  handed_known past pdu Nothing p is known = known_more p.client past (Comes pdu ∷ []) known
  handed_known past pdu (Received own psm sdu) p is known = received_known past pdu own psm sdu is p.client known

  -- ---- all that happens

  module _ (asks : Asks (client_profile settings)) where
    strand_known : (strand : Strand) (past : List Occurrence) (p : ClientProfile) → IsOnLink strand → Known p.client past
        → (let v = (run_of (policy settings false) past).value in Known (strand_profile (client_profile settings) strand v p).client (past ++ strand_list (client_profile settings) asks strand v p))
    strand_known (Hearing pdu) past p on known = handed_known past pdu (up (channel_of pdu) pdu (run_of wanted past).value) p refl known
    strand_known (Giving pdu) past p on known = known_more p.client past _ known
    strand_known Firing past p on known = known_more p.client past _ known
    strand_known Telling past p on known = next_known (run_of wanted past).value.events (run_of wanted past).value p past _ known
    strand_known (Gifting circumstances) past p on known = known_more p.client past [] known
    strand_known (Learning circumstances news) past p on known = news_known circumstances news p past on known
    strand_known Checking past p on known = fed_known p (Sent (run_of wanted past).value) past [] (any_more is_unsaid any_unsaid _ (sent_within p.submitted (run_of wanted past).value)) (sent_apart p.submitted (run_of wanted past).value) known
    strand_known Stepping past p on known =
        fed_known p (Steps (run_of wanted past).value) past _ (any_more is_unsaid any_unsaid _ (step_within (steps p.client (fitted p)).step (fitted p))) (step_apart (steps p.client (fitted p)).step (fitted p)) known

    -- no push goes on, or what came is known
    abbrev pub Knows : ClientProfile → List Occurrence → Type 0
    Knows p past = IsOff p ⊎ Known p.client past

    strand_knows : (strand : Strand) (past : List Occurrence) (p : ClientProfile) → IsOnLink strand → Knows p past
        → (let v = (run_of (policy settings false) past).value in Knows (strand_profile (client_profile settings) strand v p) (past ++ strand_list (client_profile settings) asks strand v p))
    strand_knows strand past p on (inl off) = inl (strand_off settings strand (run_of wanted past).value p on off)
    strand_knows strand past p on (inr known) = inr (strand_known strand past p on known)

    pub weave_knows : (weave : List Strand) (past : List Occurrence) (p : ClientProfile) (v : Channels) → (run_of (policy settings false) past).value ≡ v → AllByRecursion IsOnLink weave → Knows p past
        → Knows (woven_profile (client_profile settings) asks weave v p) (past ++ woven_list (client_profile settings) asks weave v p)
    weave_knows [] past p v is on knows = subst (Knows p) (sym (append-nil past)) knows
    weave_knows (strand ∷ weave) past p v is on knows =
        let list = strand_list C asks strand v p in
        let q = strand_profile C strand v p in
        let w = values_after wanted v list in
        let here : Knows q (past ++ list) = subst (λ (u : Channels). Knows (strand_profile C strand u p) (past ++ strand_list C asks strand u p)) is (strand_knows strand past p on.0 knows) in
        let behind : run_of wanted (past ++ list) ≡ fold (run_on wanted) (run_of wanted past) list = fold-append (run_on wanted) new_link past list in
        let value : (run_of wanted (past ++ list)).value ≡ w = ap (λ (r : Run). r.value) behind ∙ (value_run wanted list (run_of wanted past) ∙ ap (λ (u : Channels). values_after wanted u list) is) in
        subst (λ (l : List Occurrence). Knows (woven_profile C asks weave w q) l) (append_assoc past list (woven_list C asks weave w q)) (weave_knows weave (past ++ list) q w value on.1 here)
