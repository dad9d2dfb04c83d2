-- A client waits for services exactly where its own talk says so.
use Rattle.std.proofs.Common.{◌≡◌, ℕ, List, [], ◌∷◌, ◌++◌, fold, Bool, true, false, cond, eqb, not, ◌&&◌, ◌||◌, Option, Some, None, refl, sym, ap, subst, ◌∙◌, inl, inr, append_assoc, append-nil}
use Rattle.std.specs.Prelude.{find, is_some}
use Rattle.std.specs.List.{AllByRecursion, list_any}
use Rattle.std.proofs.lemmas.Bool.{eqb-true, eq-eqb}
use Rattle.std.proofs.lemmas.List.Sums.{fold-append}
use Rattle.shelf_model.specs.bt_base.specs.declared.settings.Settings.{Settings}
use Rattle.shelf_model.specs.capture.specs.Histories.{EachAfter}
use Rattle.push_laws.specs.link_talk.specs.declared.channel.Channel.{Channel}
use Rattle.push_laws.specs.link_talk.specs.declared.party.Party.{Party}
use Rattle.push_laws.specs.link_talk.specs.Channels.{Entry, is_there, reading}
use Rattle.push_laws.specs.link_talk.specs.Sdus.{spoken}
use Rattle.push_laws.specs.link_talk.specs.ServiceAnswers.{waiting_after}
use Rattle.push_laws.specs.link_talk.specs.Waits.{query_waits}
use Rattle.shelf_model.specs.sdp_client.specs.Views.{is_awaiting}
use Rattle.channel_laws.specs.channel_model.specs.declared.event.ChannelEvent.TheVariants.{Closed, FeaturesLost}
use Rattle.channel_laws.specs.channel_model.specs.Calls as channels
use Rattle.channel_laws.specs.channel_model.specs.Calls.{is_armed}
use Rattle.channel_laws.specs.channel_model.specs.Changing.{has_own, held_at}
use Rattle.channel_laws.specs.channel_model.specs.Policies.{Policy, policy}
use Rattle.channel_laws.specs.channel_model.specs.Value.{Setup, Stage as Held_stage, Requested, Connected, Leaving, Closing, Crossed, Held, Channels, no_channels}
use Rattle.channel_laws.specs.channel_model.proofs.Lookups.{eqb-same}
use Rattle.channel_laws.specs.Armed.{asks_services, services_wait}
use Rattle.channel_laws.specs.Endpoints.{IsOf}
use Rattle.channel_laws.specs.Frames.{IsUttered}
use Rattle.channel_laws.specs.Runs.{Occurrence, Gives, Fires, Sends, Run, new_link, run_on, run_of}
use Rattle.channel_laws.specs.Views.{peer_of, life_of, read_at}
use Rattle.channel_laws.proofs.Awaiting.{any-other}
use Rattle.channel_laws.proofs.Both.{and-left, and-right, both-true}
use Rattle.channel_laws.proofs.Entries.{read-own, any-found}
use Rattle.channel_laws.proofs.Exchanged.{basic-spoken}
use Rattle.channel_laws.proofs.PlainTaken.{basic_mode}
use Rattle.channel_laws.proofs.Running.{all-sound}
use Rattle.channel_laws.proofs.Sound.{ReadsBy, Reads}
use Rattle.push_laws.specs.push_model.specs.declared.course.Point.TheVariants.{Due, Asked}
use Rattle.push_laws.specs.push_model.specs.declared.course.Stage.{Stage}
use Rattle.push_laws.specs.push_model.specs.declared.course.Stage.TheVariants.{Rest, Link, SearchChannel, Search, SearchEnd, Features, ObjectChannel, Object, ObjectEnd, LinkEnd, Over}
use Rattle.push_laws.specs.push_model.specs.Client.{Client}
use Rattle.push_laws.specs.push_model.specs.Events.{is_search, is_asking_features, armed}
use Rattle.push_laws.specs.push_model.specs.Steps as course
use Rattle.push_laws.specs.push_model.specs.Steps.{Part, Step, Wait, MakeLink, AskFeatures, OpenChannel, SendSdu, CloseChannel, BreakLink, Ended, NoMemory, Stepped, steps}
use Rattle.shelf_model.specs.sdp_client.specs.Asking.{is_due}
use Rattle.shelf_model.specs.host_model.specs.Endpoints.{Endpoint, endpoint_of, takes_sdu}
use Rattle.shelf_model.specs.host_model.specs.Pdus.{sdu_of}
use Rattle.shelf_model.specs.host_model.specs.Profiles.{Profile, Stride}
use Rattle.shelf_model.specs.host_model.specs.Clients as clients
use Rattle.shelf_model.specs.host_model.specs.Clients.{ClientProfile, client_profile, submits, takes, fitted}
use Rattle.shelf_model.specs.host_model.specs.Shelves.{unused}
use Rattle.host_laws.specs.Asked.{BeginsNone}
use Rattle.host_laws.specs.Calls.{Call, Send, Asks, from_call, values_after}
use Rattle.host_laws.specs.Leaving.{in_use}
use Rattle.host_laws.specs.Searching.{step_call, sent_call, AsksAsItSteps, ComesInOctets, BeginsSearch, SearchesOn, ClientsAwaitServices}
use Rattle.host_laws.specs.Woven.{Strand, Hearing, Giving, Firing, Telling, Gifting, Learning, Checking, Stepping, strand_list, strand_profile, woven_list, woven_profile}
use Rattle.host_laws.proofs.Changes.{kind, gives-fine, timed-fine}
use Rattle.host_laws.proofs.Courses.{StepSo, StepsSo, steps_so, steps_off}
use Rattle.host_laws.proofs.Faces.{Goes}
use Rattle.host_laws.proofs.Links.{value_run}
use Rattle.host_laws.proofs.OneChannel.{notes}
use Rattle.host_laws.proofs.Querying.{awaited, some_awaited}
use Rattle.host_laws.proofs.Searching.{waiting_on, OnSearch, Of, Finds, at_of, of_at, used_finds}
use Rattle.host_laws.proofs.SearchingTold.{Sees, Off, Doomed, Well, well, hearing, changes, telling, learning, checking}
use Rattle.host_laws.proofs.SearchingOn.{has_one}
use Rattle.host_laws.proofs.SearchingSteps.{G, Utters, request_step, opens_search, requests_search, ends_search}
use Rattle.host_laws.proofs.StandingClients.{Clean, Lives, Ends, Idle, Waits, Told as ToldThem, Fatal, Shut, Missed}
use Rattle.host_laws.proofs.Taking.{Taken, Gone, Lost, Stood, step_taken, takes_off}

pub each_split : {X : Type 0} (P : List X → X → Type 0) (past xs ys : List X) → EachAfter P past (xs ++ ys) → EachAfter P past xs × EachAfter P (past ++ xs) ys
each_split P past [] ys each = (tt, subst (λ l. EachAfter P l ys) (sym (append-nil past)) each)
each_split P past (x ∷ xs) ys (now, each) =
    let both = each_split P (past ++ x ∷ []) xs ys each in ((now, both.0), subst (λ l. EachAfter P l ys) (append_assoc past (x ∷ []) xs) both.1)

pub all_split : {X : Type 0} (P : X → Type 0) (xs ys : List X) → AllByRecursion P (xs ++ ys) → AllByRecursion P xs × AllByRecursion P ys
all_split P [] ys all = (tt, all)
all_split P (x ∷ xs) ys (now, all) = let both = all_split P xs ys all in ((now, both.0), both.1)

module _ (settings : Settings) where
  abbrev wanted : Policy
  wanted = policy settings false

  abbrev A : Profile ClientProfile
  A = client_profile settings

  -- ---- a step

  module _ (list : List Occurrence) (p : ClientProfile) (clean : Clean p.client (run_of (policy settings false) list).value) (so : Of (policy settings false) p.endpoints p.submitted (run_of (policy settings false) list) p.client) where
    abbrev c : Client
    c = p.client

    abbrev v : Channels
    v = (run_of wanted list).value

    abbrev S : Stepped → Type 0
    S one = Utters settings list p clean so one → G settings list p clean so one

    -- on the channel of its object
    used : (d : Client) (endpoints : List _) (submitted : Option ℕ) (then : Run) → c.stage ≡ Object → in_use d.stage d.psm ≡ in_use c.stage c.psm → Finds wanted endpoints submitted then d
    used d endpoints submitted then at same = inr (used_finds wanted endpoints submitted then d.stage d c.psm refl (same ∙ ap (λ s. in_use s c.psm) at) (of_at wanted p.endpoints p.submitted (run_of wanted list) Object c at so))

    goes_used : (d : Client) (endpoints : List _) (submitted : Option ℕ) (then : Run) → c.stage ≡ Object → Goes c d → Finds wanted endpoints submitted then d
    goes_used d endpoints submitted then at (inl off) = inl off
    goes_used d endpoints submitted then at (inr keeps) = used d endpoints submitted then at keeps.used

    object_step : (step : Step) (d : Client) (left : List Part) → c.stage ≡ Object → StepSo c d step → (let one : Stepped = record { client = d; step = step; left = left } in S one)
    object_step Wait d left at goes utters now = goes_used d p.endpoints p.submitted _ at goes
    object_step MakeLink d left at off utters now = inr so
    object_step AskFeatures d left at (none, quiet, asks) utters now = let never : None ≡ Some c.psm = sym none ∙ ap (λ s. in_use s c.psm) at in absurd cc
    object_step (OpenChannel psm) d left at (none, quiet, uses, may) utters now = let never : None ≡ Some c.psm = sym none ∙ ap (λ s. in_use s c.psm) at in absurd cc
    object_step (SendSdu psm payload) d left at goes utters now = by (endpoint_of psm p.endpoints)
      where
        after : ClientProfile
        after = record p { client = d; parts = unused left p.parts }

        taken : (own : ℕ) (then : Run) (b : Bool) → (let gone : Stride ClientProfile = cond b (clients.waiting (channels.sends own (sdu_of payload) v) (record after { submitted = Some own })) (clients.waiting v after) in Finds wanted gone.profile.endpoints gone.profile.submitted then gone.profile.client)
        taken own then true = goes_used d p.endpoints (Some own) then at goes
        taken own then false = goes_used d p.endpoints p.submitted then at goes

        by : (found : Option ℕ) → (let gone = submits found payload v after in let then = fold (run_on wanted) (run_of wanted list) (from_call (sent_call v payload found)) in Finds wanted gone.profile.endpoints gone.profile.submitted then gone.profile.client)
        by None = goes_used d p.endpoints p.submitted (run_of wanted list) at goes
        by (Some own) = taken own _ (takes_sdu own (sdu_of payload) v)
    object_step (CloseChannel psm) d left at (same, closing, may, quiet) utters now = used (clients.done (record p { client = d; parts = unused left p.parts })).client p.endpoints p.submitted _ at same
    object_step BreakLink d left at off utters now = inl off
    object_step (Ended outcome) d left at off utters now = inl off
    object_step NoMemory d left at goes utters now = goes_used d p.endpoints p.submitted _ at goes

    over_step : (cause : Option _) → S (course.tells_end cause c (fitted p))
    over_step None utters now = inr so
    over_step (Some outcome) utters now = inl refl

    at_step : (stage : Stage) → c.stage ≡ stage → c.given ≡ false → StepsSo c (course.steps_at stage c (fitted p)) → S (course.steps_at stage c (fitted p))
    at_step Rest at free goes = λ utters now. inr so
    at_step (Link Due) at free goes = λ utters now. inr so
    at_step (Link Asked) at free goes = λ utters now. inr so
    at_step (SearchChannel Due) at free goes = λ utters now. opens_search settings list p clean so at now
    at_step (SearchChannel Asked) at free goes = λ utters now. inr so
    at_step Search at free goes = by (is_due c.query) refl
      where
        by : (due : Bool) → is_due c.query ≡ due → S (cond due (request_step settings list p clean so) (course.rests c (fitted p)))
        by true is = λ utters now. requests_search settings list p clean so at free is utters now
        by false is = λ utters now. inr so
    at_step (SearchEnd Due) at free goes = λ utters now. ends_search settings list p clean so at now
    at_step (SearchEnd Asked) at free goes = λ utters now. inr so
    at_step (Features Due) at free goes = λ utters now. inr (of_at wanted p.endpoints p.submitted (run_of wanted list) (Features Due) c at so)
    at_step (Features Asked) at free goes = λ utters now. inr so
    at_step (ObjectChannel Due) at free goes = λ utters now. inr (of_at wanted p.endpoints p.submitted (run_of wanted list) (ObjectChannel Due) c at so)
    at_step (ObjectChannel Asked) at free goes = λ utters now. inr so
    at_step Object at free goes = let one = course.steps_object c.transport c (fitted p) in object_step one.step one.client one.left at goes
    at_step (ObjectEnd Due) at free goes = λ utters now. inr (of_at wanted p.endpoints p.submitted (run_of wanted list) (ObjectEnd Due) c at so)
    at_step (ObjectEnd Asked) at free goes = λ utters now. inr so
    at_step (LinkEnd Due) at free goes = λ utters now. inl refl
    at_step (LinkEnd Asked) at free goes = λ utters now. inr so
    at_step Over at free goes = over_step c.cause

    all_steps : S (steps c (fitted p))
    all_steps = by c.failed refl (steps_so c (fitted p))
      where
        lacking : Stepped
        lacking = record { client = c; step = NoMemory; left = (fitted p) }

        on : (given : Bool) → c.given ≡ given → StepsSo c (cond given (course.rests c (fitted p)) (course.steps_at c.stage c (fitted p))) → S (cond given (course.rests c (fitted p)) (course.steps_at c.stage c (fitted p)))
        on true is goes = λ utters now. inr so
        on false is goes = at_step c.stage refl is goes

        by : (failed : Bool) → c.failed ≡ failed → StepsSo c (cond failed lacking (cond c.given (course.rests c (fitted p)) (course.steps_at c.stage c (fitted p)))) → S (cond failed lacking (cond c.given (course.rests c (fitted p)) (course.steps_at c.stage c (fitted p))))
        by true is goes = λ utters now. inr so
        by false is goes = on c.given refl goes

  module _ (asks : Asks (client_profile settings)) (as_steps : AsksAsItSteps settings asks) where
    stepping : (list : List Occurrence) (p : ClientProfile) → (let run = run_of wanted list in ((own : ℕ) (sdu : List ℕ) → asks.call run.value p ≡ Some (Send own sdu) → IsUttered (Sends own sdu) run.value) → Sees settings p run
        → Sees settings (A.steps run.value p).profile (fold (run_on wanted) run (from_call (asks.call run.value p))))
    stepping list p utters sees = subst (λ call. Sees settings stride.profile (fold (run_on wanted) run (from_call call))) (sym (as_steps v p)) (by sees)
      where
        run : Run
        run = run_of wanted list

        v : Channels
        v = run.value

        one : Stepped
        one = steps p.client (fitted p)

        after : ClientProfile
        after = record p { client = one.client; parts = unused one.left p.parts }

        stride : Stride ClientProfile
        stride = takes one.step v after p

        then : Run
        then = fold (run_on wanted) run (from_call (step_call one.step v after))

        value_is : stride.channels ≡ then.value
        value_is = asks.steps_are v p ∙ (ap (λ call. values_after wanted v (from_call call)) (as_steps v p) ∙ sym (value_run wanted (from_call (step_call one.step v after)) run))

        by : Sees settings p run → Sees settings stride.profile then
        by (Off off) = Off (takes_off one.step v after p (steps_off p.client (fitted p) off) off)
        by (Doomed fatal) = on (step_taken {S = ⊥} one.step v after p (steps_so p.client (fitted p)) (inr fatal))
          where
            on : Taken ⊥ stride.profile.client v stride.channels → Sees settings stride.profile then
            on (Gone off) = Off off
            on (Lost now) = Doomed (subst (Fatal stride.profile.client) value_is now)
            on (Stood never now same) = absurd never
        by (Well clean so) = on (step_taken {S = Unit {0}} one.step v after p (steps_so p.client (fitted p)) (inl (tt, clean)))
          where
            on : Taken (Unit {0}) stride.profile.client v stride.channels → Sees settings stride.profile then
            on (Gone off) = Off off
            on (Lost now) = Doomed (subst (Fatal stride.profile.client) value_is now)
            on (Stood done now same) =
                let later = subst (Clean stride.profile.client) value_is now in
                well settings stride.profile then later (all_steps list p clean so (λ own sdu sent. utters own sdu (as_steps v p ∙ sent)) later)

    -- ---- all that happens

    abbrev pub UttersAt : List Occurrence → Occurrence → Type 0
    UttersAt front one = IsUttered one (run_of wanted front).value

    pub call_utters : (past : List Occurrence) (call : Option Call) → EachAfter UttersAt past (from_call call) → (own : ℕ) (sdu : List ℕ) → call ≡ Some (Send own sdu) → IsUttered (Sends own sdu) (run_of wanted past).value
    call_utters past call each own sdu is = (subst (λ x. EachAfter UttersAt past (from_call x)) is each).0

    pub strand_sees : (strand : Strand) (past : List Occurrence) (p : ClientProfile) → BeginsNone strand → (let v = (run_of wanted past).value in EachAfter UttersAt past (strand_list A asks strand v p) → AllByRecursion ComesInOctets (strand_list A asks strand v p) → Sees settings p (run_of wanted past)
        → Sees settings (strand_profile A strand v p) (fold (run_on wanted) (run_of wanted past) (strand_list A asks strand v p)))
    strand_sees (Hearing pdu) past p none uttered octets sees = hearing settings past pdu p octets.0 sees
    strand_sees (Giving pdu) past p none uttered octets sees = changes settings past (Gives pdu) p (λ K fine k. gives-fine K fine (run_of wanted past).value (all-sound wanted past).core.lone k) tt uttered.0 (λ own. refl) sees
    strand_sees Firing past p none uttered octets sees = changes settings past Fires p (λ K fine k. timed-fine K fine wanted (run_of wanted past).value k) tt tt (λ own. refl) sees
    strand_sees Telling past p none uttered octets sees = telling settings past p sees
    strand_sees (Gifting circumstances) past p none uttered octets (Off off) = Off off
    strand_sees (Gifting circumstances) past p none uttered octets (Doomed fatal) = Doomed fatal
    strand_sees (Gifting circumstances) past p none uttered octets (Well clean so) = Well clean so
    strand_sees (Learning circumstances news) past p none uttered octets sees = learning settings circumstances news (run_of wanted past) p none sees
    strand_sees Checking past p none uttered octets sees = checking settings (run_of wanted past) p sees
    strand_sees Stepping past p none uttered octets sees = stepping past p (call_utters past (asks.call (run_of wanted past).value p) uttered) sees

    pub run_behind : (past list : List Occurrence) → run_of wanted (past ++ list) ≡ fold (run_on wanted) (run_of wanted past) list
    run_behind past list = fold-append (run_on wanted) new_link past list

    weave_sees : (weave : List Strand) (past : List Occurrence) (p : ClientProfile) (v : Channels) → (run_of wanted past).value ≡ v → AllByRecursion BeginsNone weave → EachAfter UttersAt past (woven_list A asks weave v p) → AllByRecursion ComesInOctets (woven_list A asks weave v p)
        → Sees settings p (run_of wanted past) → Sees settings (woven_profile A asks weave v p) (run_of wanted (past ++ woven_list A asks weave v p))
    weave_sees [] past p v is none uttered octets sees = subst (λ l. Sees settings p (run_of wanted l)) (sym (append-nil past)) sees
    weave_sees (strand ∷ weave) past p v is none uttered octets sees =
        let list = strand_list A asks strand v p in
        let q = strand_profile A strand v p in
        let u = values_after wanted v list in
        let rest = woven_list A asks weave u q in
        let utters = each_split UttersAt past list rest uttered in
        let comes = all_split ComesInOctets list rest octets in
        let here = subst (λ w. EachAfter UttersAt past (strand_list A asks strand w p) → AllByRecursion ComesInOctets (strand_list A asks strand w p) → Sees settings p (run_of wanted past)
        → Sees settings (strand_profile A strand w p) (fold (run_on wanted) (run_of wanted past) (strand_list A asks strand w p))) is (strand_sees strand past p none.0) utters.0 comes.0 sees in
        let value : (run_of wanted (past ++ list)).value ≡ u = ap (λ (r : Run). r.value) (run_behind past list) ∙ (value_run wanted list (run_of wanted past) ∙ ap (λ w. values_after wanted w list) is) in
        subst (λ l. Sees settings (woven_profile A asks weave u q) (run_of wanted l)) (append_assoc past list rest)
        (weave_sees weave (past ++ list) q u value none.1 utters.1 comes.1 (subst (Sees settings q) (sym (run_behind past list)) here))

    pub begins_sees : (first : ClientProfile) → BeginsSearch first → Sees settings first new_link
    begins_sees first (inl (at, new, empty)) = Well (Idle (record { held_is = refl; quiet = refl; notes_are = refl })) (at_of wanted first.endpoints first.submitted new_link (SearchChannel Due) first.client at (new, empty))
    begins_sees first (inr off) = Off off

    pub searches_see : (list : List Occurrence) (first last : ClientProfile) → SearchesOn settings asks list first last → Sees settings last (run_of wanted list)
    searches_see list first last on =
        let weave = on.woven.weave in
        let all = woven_list A asks weave no_channels first in
        let there = weave_sees weave [] first no_channels refl on.begins (subst (EachAfter UttersAt []) on.woven.list_is on.uttered) (subst (AllByRecursion ComesInOctets) on.woven.list_is on.octets) (begins_sees first on.first_is) in
        subst (λ l. Sees settings last (run_of wanted l)) (sym on.woven.list_is) (subst (λ q. Sees settings q (run_of wanted all)) (sym on.woven.last_is) there)

-- ---- where its channels wait for nothing

both_on : (a b : Bool) → a ≡ true → b ≡ true → (a && b) ≡ true
both_on true b is other = other
both_on false b is other = cc

-- it is there, and its host has not asked for its end
record IsThere (one : Held) : Type 0 where
  peer : ℕ
  setup : Setup
  is : one.stage ≡ Connected peer setup

there_one : (one : Held) → is_armed one.stage ≡ false → IsThere one
there_one one quiet = by one.stage refl quiet
  where
    by : (stage : Held_stage) → one.stage ≡ stage → is_armed stage ≡ false → IsThere one
    by (Requested request) is none = cc
    by (Connected peer setup) is none = record { peer = peer; setup = setup; is = is }
    by (Leaving peer setup request) is none = cc
    by (Closing peer request checked) is none = cc
    by (Crossed peer request) is none = cc

one_apart : ◌≡◌ {A = ℕ} 1 2 → ⊥
one_apart is = cc

either_none : (a b : Bool) → (a || b) ≡ false → (a ≡ false) × (b ≡ false)
either_none true b is = cc
either_none false b is = (refl, is)

quiet_one : (v : Channels) (one : Held) → channels.armed v ≡ false → v.held ≡ one ∷ [] → is_armed one.stage ≡ false
quiet_one v one none is = (either_none (is_armed one.stage) false (sym (ap (list_any (λ (held : Held). is_armed held.stage)) is) ∙ (either_none (is_some v.features) (list_any (λ (held : Held). is_armed held.stage) v.held) none).1)).0

module _ (settings : Settings) (party : Party) (list : List Occurrence) (c : Client) (endpoints : List Endpoint) (submitted : Option ℕ) where
  abbrev own_policy : Policy
  own_policy = policy settings false

  abbrev run : Run
  run = run_of own_policy list

  -- what its own talk says of a channel of service discovery
  spoken_waits : (own : ℕ) (entry : Entry) → read_at own (reading run.said).entries ≡ Some entry → entry.channel.psm ≡ 0x0001 → fold waiting_after None (spoken party entry.channel run.said) ≡ waiting_on entry.channel run.said
  spoken_waits own entry found psm =
      let own_is : entry.channel.own ≡ own = read-own own (reading run.said).entries entry found in
      let has : IsOf entry.channel (read_at entry.channel.own (reading run.said).entries) = subst (IsOf entry.channel) (sym (ap (λ n. read_at n (reading run.said).entries) own_is ∙ found)) refl in
      ap (fold waiting_after None) (basic-spoken party entry.channel run.said (basic_mode own_policy list entry.channel has (ap (λ n. (own_policy.wish n).mode) psm)))

  -- ---- its talk says that a request waits

  module _ (clean : Clean c run.value) (so : Of own_policy endpoints submitted run c) (ends : c.stage ≡ SearchEnd Due → is_awaiting c.query ≡ false) (quiet : channels.armed run.value ≡ false) where
    said_waits : (one : Held) → run.value.held ≡ one ∷ [] → (stage : Stage) → c.stage ≡ stage → in_use stage c.psm ≡ Some 0x0001 → (channel : Channel) → channel.own ≡ one.own → is_some (waiting_on channel run.said) ≡ true → armed c ≡ true
    said_waits one held_is Search at used channel own waits =
        let (asking, other, other_is, is) = of_at own_policy endpoints submitted run Search c at so in
        let lists : other ∷ [] ≡ one ∷ [] = sym other_is ∙ held_is in
        let same : other ≡ one = cc in
        let mine : waiting_on channel run.said ≡ awaited c.query = is.waits_so refl channel (own ∙ ap (λ (h : Held). h.own) (sym same)) in
        ap (λ s. is_search s && is_awaiting c.query) at ∙ (sym (some_awaited c.query) ∙ (ap is_some (sym mine) ∙ waits))
    said_waits one held_is (SearchChannel Asked) at used channel own waits =
        let (new, empty, free, is) = of_at own_policy endpoints submitted run (SearchChannel Asked) c at so in
        let none = (is one held_is).waits_so refl channel own in
        let never : false ≡ true = sym (ap is_some none) ∙ waits in absurd cc
    said_waits one held_is (SearchEnd Due) at used channel own waits =
        let (named, is) = of_at own_policy endpoints submitted run (SearchEnd Due) c at so in
        let none = (is one held_is).waits_so (ap not (ends at)) channel own in
        let never : false ≡ true = sym (ap is_some none) ∙ waits in absurd cc
    said_waits one held_is (SearchEnd Asked) at used channel own waits =
        let (named, is) = of_at own_policy endpoints submitted run (SearchEnd Asked) c at so in
        let there = there_one one (quiet_one run.value one quiet held_is) in
        absurd (one_apart (sym (ap kind there.is) ∙ is one held_is))
    said_waits one held_is (ObjectChannel Asked) at used channel own waits =
        let other = of_at own_policy endpoints submitted run (ObjectChannel Asked) c at so in
        let same : c.psm ≡ 0x0001 = cc in let never : true ≡ false = sym (ap (λ n. eqb n 0x0001) same) ∙ other in absurd cc
    said_waits one held_is Object at used channel own waits =
        let other = of_at own_policy endpoints submitted run Object c at so in
        let same : c.psm ≡ 0x0001 = cc in let never : true ≡ false = sym (ap (λ n. eqb n 0x0001) same) ∙ other in absurd cc
    said_waits one held_is (ObjectEnd point) at used channel own waits =
        let other = of_at own_policy endpoints submitted run (ObjectEnd point) c at so in
        let same : c.psm ≡ 0x0001 = cc in let never : true ≡ false = sym (ap (λ n. eqb n 0x0001) same) ∙ other in absurd cc
    said_waits one held_is Rest at used channel own waits = cc
    said_waits one held_is (Link point) at used channel own waits = cc
    said_waits one held_is (SearchChannel Due) at used channel own waits = cc
    said_waits one held_is (Features point) at used channel own waits = cc
    said_waits one held_is (ObjectChannel Due) at used channel own waits = cc
    said_waits one held_is (LinkEnd point) at used channel own waits = cc
    said_waits one held_is Over at used channel own waits = cc

    -- what is read there is what it holds
    held_waits : (own : ℕ) (entry : Entry) (held : Option Held) → held_at own run.value ≡ held → read_at own (reading run.said).entries ≡ Some entry → Reads own_policy held (Some entry) → asks_services party run.said entry ≡ true → armed c ≡ true
    held_waits own entry None at found reads asks =
        let there = (both-true (is_there entry.life) (query_waits party run.said entry.channel) asks).0 in
        let never : false ≡ true = sym (ap is_there reads) ∙ there in absurd cc
    held_waits own entry (Some held) at found reads asks = by clean
      where
        two : (is_there entry.life ≡ true) × (query_waits party run.said entry.channel ≡ true)
        two = both-true (is_there entry.life) (query_waits party run.said entry.channel) asks

        psm_is : entry.channel.psm ≡ 0x0001
        psm_is = eqb-true entry.channel.psm 0x0001 (and-left (eqb entry.channel.psm 0x0001) (is_some (fold waiting_after None (spoken party entry.channel run.said))) two.1)

        waits : is_some (waiting_on entry.channel run.said) ≡ true
        waits = ap is_some (sym (spoken_waits own entry found psm_is)) ∙ and-right (eqb entry.channel.psm 0x0001) (is_some (fold waiting_after None (spoken party entry.channel run.said))) two.1

        none : {X : Type 0} → run.value.held ≡ [] → X
        none is = let never : None ≡ Some held = sym (ap (find (has_own own)) is) ∙ at in absurd cc

        alone : (one : Held) → run.value.held ≡ one ∷ [] → (one ≡ held) × (one.own ≡ own)
        alone one is = on (eqb one.own own) refl (sym (ap (find (has_own own)) is) ∙ at)
          where
            on : (b : Bool) → eqb one.own own ≡ b → cond b (Some one) None ≡ Some held → (one ≡ held) × (one.own ≡ own)
            on true mine same = (cc, eqb-true one.own own mine)
            on false mine same = cc

        peer_psm : (stage : Held_stage) → ReadsBy own_policy held (peer_of stage) (Some entry) → entry.channel.psm ≡ held.psm
        peer_psm (Requested request) reads' = elim reads' [ ]
        peer_psm (Connected peer setup) (there, agrees) = ap (λ (k : Channel). k.psm) there.channel_is
        peer_psm (Leaving peer setup request) (there, agrees) = ap (λ (k : Channel). k.psm) there.channel_is
        peer_psm (Closing peer request checked) (there, agrees) = ap (λ (k : Channel). k.psm) there.channel_is
        peer_psm (Crossed peer request) (there, agrees) = ap (λ (k : Channel). k.psm) there.channel_is

        by : Clean c run.value → armed c ≡ true
        by (Lives psm asked leaving uses live) =
            let (same, mine) = alone live.one live.held_is in
            let psm_same : psm ≡ 0x0001 = sym live.psm_is ∙ (ap (λ (h : Held). h.psm) same ∙ (sym (peer_psm held.stage reads) ∙ psm_is)) in
            said_waits live.one live.held_is c.stage refl (uses.used ∙ ap Some psm_same) entry.channel (read-own own (reading run.said).entries entry found ∙ sym mine) waits
        by (Ends psm other used closes bare) = none bare.held_is
        by (Idle bare) = none bare.held_is
        by (Waits asks' waits') = none waits'.held_is
        by (ToldThem asks' features bare) = none bare.held_is

    -- ---- it waits

    search_is : (stage : Stage) → is_search stage ≡ true → stage ≡ Search
    search_is Search is = refl
    search_is Rest is = cc
    search_is (Link point) is = cc
    search_is (SearchChannel point) is = cc
    search_is (SearchEnd point) is = cc
    search_is (Features point) is = cc
    search_is (ObjectChannel point) is = cc
    search_is Object is = cc
    search_is (ObjectEnd point) is = cc
    search_is (LinkEnd point) is = cc
    search_is Over is = cc

    client_waits : armed c ≡ true → services_wait party run.said ≡ true
    client_waits on =
        let two = both-true (is_search c.stage) (is_awaiting c.query) on in
        let at = search_is c.stage two.0 in
        let (asking, one, held_is, is) = of_at own_policy endpoints submitted run Search c at so in
        let there = there_one one (quiet_one run.value one quiet held_is) in
        by one held_is is there at two.1 (read_at one.own (reading run.said).entries) refl
      where
        by : (one : Held) → run.value.held ≡ one ∷ [] → OnSearch own_policy endpoints submitted true (not c.given) true (awaited c.query) run one → IsThere one → c.stage ≡ Search → is_awaiting c.query ≡ true → (found : Option Entry) → read_at one.own (reading run.said).entries ≡ found → services_wait party run.said ≡ true
        by one held_is is there at awaits found read = entries found read (subst (λ p. ReadsBy own_policy one p found) (ap peer_of there.is) (subst (Reads own_policy (Some one)) read (subst (λ h. Reads own_policy h (read_at one.own (reading run.said).entries)) here ((all-sound own_policy list).core.reads one.own))))
          where
            here : held_at one.own run.value ≡ Some one
            here = ap (find (has_own one.own)) held_is ∙ ap (λ b. cond b (Some one) None) (eqb-same one.own)

            psm_is : one.psm ≡ 0x0001
            psm_is = let has = has_one c run.value one (ap is_asking_features at) held_is clean in ap (λ (h : Held). h.psm) (sym has.is) ∙ (has.live.psm_is ∙ same has.psm (sym has.uses.used ∙ ap (λ s. in_use s c.psm) at))
              where
                same : (n : ℕ) → Some n ≡ Some 0x0001 → n ≡ 0x0001
                same n is' = cc

            entries : (found : Option Entry) → read_at one.own (reading run.said).entries ≡ found → ReadsBy own_policy one (Some there.peer) found → services_wait party run.said ≡ true
            entries None read' reads = elim reads [ ]
            entries (Some entry) read' (is_there', agrees) =
                let psm : entry.channel.psm ≡ 0x0001 = ap (λ (k : Channel). k.psm) is_there'.channel_is ∙ psm_is in
                let own : entry.channel.own ≡ one.own = read-own one.own (reading run.said).entries entry read' in
                let some : is_some (fold waiting_after None (spoken party entry.channel run.said)) ≡ true = ap is_some (spoken_waits one.own entry read' psm ∙ is.waits_so refl entry.channel own) ∙ (some_awaited c.query ∙ awaits) in
                let asks : asks_services party run.said entry ≡ true = both_on (is_there entry.life) (query_waits party run.said entry.channel) (ap is_there (is_there'.life_is ∙ ap life_of there.is)) (both_on (eqb entry.channel.psm 0x0001) _ (eq-eqb entry.channel.psm 0x0001 psm) some) in
                any-other (λ (e : Entry). eqb e.channel.own one.own) (asks_services party run.said) (reading run.said).entries entry read' asks

    as_said : armed c ≡ services_wait party run.said
    as_said = by (armed c) (services_wait party run.said) refl refl
      where
        by : (mine said : Bool) → armed c ≡ mine → services_wait party run.said ≡ said → armed c ≡ services_wait party run.said
        by true said is waits = is ∙ sym (client_waits is)
        by false false is waits = is ∙ sym waits
        by false true is waits =
            let (own, entry, found, asks) = any-found (asks_services party run.said) (reading run.said).entries (all-sound own_policy list).core.distinct waits in
            let never : false ≡ true = sym is ∙ held_waits own entry (held_at own run.value) refl found (subst (Reads own_policy (held_at own run.value)) found ((all-sound own_policy list).core.reads own)) asks in absurd cc

pub clients_await_services : ClientsAwaitServices
clients_await_services settings asks party list first last as_steps on none goes ends quiet = by (searches_see settings asks as_steps list first last on)
  where
    run' : Run
    run' = run_of (policy settings false) list

    by : Sees settings last run' → armed last.client ≡ services_wait party run'.said
    by (Off off) = let never : true ≡ false = sym off ∙ goes in absurd cc
    by (Doomed (Shut own psm reason more used why told)) = let never : [] ≡ Closed own psm reason ∷ more = ap notes (sym none) ∙ told in absurd cc
    by (Doomed (Missed asks' (more, told))) = let never : [] ≡ FeaturesLost ∷ more = ap notes (sym none) ∙ told in absurd cc
    by (Well clean so) = as_said settings party list last.client last.endpoints last.submitted clean so ends quiet
