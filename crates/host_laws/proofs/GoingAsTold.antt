-- A client goes by what it was told on its link.
use Rattle.std.proofs.Common.{◌≡◌, ℕ, List, [], ◌∷◌, ◌++◌, fold, Bool, true, false, cond, Option, Some, None, refl, sym, ap, subst, ◌∙◌, inl, inr}
use Rattle.std.specs.List.{AllByRecursion}
use Rattle.shelf_model.specs.bt_base.specs.declared.settings.Settings.{Settings}
use Rattle.shelf_model.specs.capture.specs.Histories.{EachAfter}
use Rattle.shelf_model.specs.capture.proofs.HistoryLaws.{each_after-both}
use Rattle.push_laws.specs.link_talk.specs.declared.party.Party.{Party}
use Rattle.channel_laws.specs.channel_model.specs.Hearing.{up}
use Rattle.channel_laws.specs.channel_model.specs.Policies.{Policy, policy}
use Rattle.channel_laws.specs.channel_model.specs.Value.{Channels, no_channels}
use Rattle.channel_laws.specs.Runs.{Occurrence, Gives, Fires, Run, new_link, run_on, run_of}
use Rattle.channel_laws.proofs.Running.{all-sound}
use Rattle.push_laws.specs.push_model.specs.Steps.{Step, Wait, MakeLink, AskFeatures, OpenChannel, SendSdu, CloseChannel, BreakLink, Ended, NoMemory, Stepped, steps}
use Rattle.shelf_model.specs.world_model.specs.Machines.{News, Linked, Failed, Heard, TimerFired, Cancelled, Opening}
use Rattle.push_laws.proofs.Opening.{course_of, At}
use Rattle.shelf_model.specs.host_model.specs.Endpoints.{endpoint_of, takes_sdu}
use Rattle.shelf_model.specs.host_model.specs.Pdus.{sdu_of}
use Rattle.shelf_model.specs.host_model.specs.Profiles.{Profile}
use Rattle.shelf_model.specs.host_model.specs.Clients.{ClientProfile, client_profile, fitted}
use Rattle.shelf_model.specs.host_model.specs.Shelves.{unused}
use Rattle.host_laws.specs.AsTold.{ClientsGoAsTold}
use Rattle.host_laws.specs.Asked.{IsOfLink, BeginsNone}
use Rattle.host_laws.specs.Calls.{Send, Asks, from_call, values_after}
use Rattle.host_laws.specs.Fed.{strand_feeds}
use Rattle.host_laws.specs.Feeds.{Feed, all_fed, tidings_by}
use Rattle.host_laws.specs.InOrder.{CallsInOrder}
use Rattle.host_laws.specs.Leaving.{is_off}
use Rattle.host_laws.specs.Pushing.{pushed_from}
use Rattle.host_laws.specs.Searching.{sent_call, closed_call, step_call, AsksAsItSteps, ComesInOctets, BeginsSearch, SearchesOn}
use Rattle.host_laws.specs.Seen.{spoken_of}
use Rattle.host_laws.specs.Services.{GoesAsTold}
use Rattle.host_laws.specs.Woven.{Strand, Hearing, Giving, Firing, Telling, Gifting, Learning, Checking, Stepping, IsOnLink, strand_list, strand_profile, woven_list}
use Rattle.host_laws.proofs.AsTold as as_told
use Rattle.host_laws.proofs.AsTold.{Holds, Away, Lost, Sure}
use Rattle.host_laws.proofs.Changes.{gives-fine, timed-fine}
use Rattle.host_laws.proofs.FramesSent.{IsOver, stays_over}
use Rattle.host_laws.proofs.KeepingClients as keeping
use Rattle.host_laws.proofs.Knowing.{Knows, JoinsIn}
use Rattle.host_laws.proofs.Links.{value_run}
use Rattle.host_laws.proofs.Phases.{phase}
use Rattle.host_laws.proofs.Pushing.{all_pushed}
use Rattle.host_laws.proofs.SaidAsTold.{told_by, AsksAsTold, said_as_told}
use Rattle.host_laws.proofs.SearchingTold.{Sees}
use Rattle.host_laws.proofs.SearchingWeave.{each_split, all_split, UttersAt, call_utters, strand_sees, run_behind, begins_sees}
use Rattle.host_laws.proofs.StandingClients.{Idle}
use Rattle.host_laws.proofs.StrandsFed.{strand_so}
use Rattle.host_laws.proofs.StepsAsTold.{none_lost, stepping}
use Rattle.host_laws.proofs.StepsTold.{StepGoes, KnowsWay, step_goes}

-- ---- a client over its transport stays so

module _ (settings : Settings) where
  abbrev A : Profile ClientProfile
  A = client_profile settings

  pub fed_over : (feeds : List Feed) (p : ClientProfile) → IsOver settings.transport p.client → IsOver settings.transport (all_fed A p feeds).client
  fed_over feeds p over = subst (IsOver settings.transport) (sym (all_pushed settings feeds p)) (stays_over settings.transport (pushed_from settings p feeds) p.client over)

  pub first_over : IsOver settings.transport A.first.client
  first_over = (refl, tt)

  pub strand_over : (asks : Asks A) (strand : Strand) (v : Channels) (p : ClientProfile) → IsOver settings.transport p.client → IsOver settings.transport (strand_profile A strand v p).client
  strand_over asks strand v p over = subst (λ (q : ClientProfile). IsOver settings.transport q.client) (strand_so A asks strand v p) (fed_over (strand_feeds strand v) p over)

-- ---- on a link no push begins

pub no_tidings : (news : News) → IsOfLink news → tidings_by news ≡ []
no_tidings (Linked event) of = absurd of
no_tidings (Failed status) of = absurd of
no_tidings (Heard pdu) of = refl
no_tidings TimerFired of = refl
no_tidings Cancelled of = refl
no_tidings (Opening name) of = absurd of

pub on_link : (strand : Strand) → BeginsNone strand → IsOnLink strand
on_link (Hearing pdu) none = tt
on_link (Giving pdu) none = tt
on_link Firing none = tt
on_link Telling none = tt
on_link (Gifting circumstances) none = tt
on_link (Learning circumstances news) none = no_tidings news none
on_link Checking none = tt
on_link Stepping none = tt

-- ---- all that happens on it

module _ (settings : Settings) (party : Party) (asks : Asks (client_profile settings)) (as_steps : AsksAsItSteps settings asks) where
  abbrev wanted : Policy
  wanted = policy settings false

  abbrev C : Profile ClientProfile
  C = client_profile settings

  -- how it stands, what it holds of its search, and what it knows of the way to its object
  record Goes (p : ClientProfile) (run : Run) : Type 0 where
    sees : Sees settings p run
    stands : keeping.Stands settings asks p.client run
    holds : Holds settings party asks p run
    over : IsOver settings.transport p.client

  abbrev ToldAt : List Occurrence → Occurrence → Type 0
  ToldAt front one = AsksAsTold settings.transport (told_by (policy settings false) party front) one

  way : (p : ClientProfile) (run : Run) → Holds settings party asks p run → KnowsWay party p.client run.said
  way p run (Away off) = record { opens = λ at. let never : true ≡ false = sym off ∙ ap is_off at in cc; uses = λ at. let never : true ≡ false = sym off ∙ ap is_off at in cc }
  way p run (Lost fatal knows) = record { opens = λ at. absurd (none_lost p.client run.value at fatal); uses = λ at. knows (ap phase at) }
  way p run (Sure knows joins) = record { opens = λ at. knows; uses = λ at. knows }

  -- ---- what it asks for

  step_told : (past : List Occurrence) (step : Step) (v : Channels) (after : ClientProfile) → StepGoes settings.transport (told_by wanted party past) step → EachAfter ToldAt past (from_call (step_call step v after))
  step_told past Wait v after goes = tt
  step_told past MakeLink v after goes = tt
  step_told past AskFeatures v after goes = (tt, tt)
  step_told past (OpenChannel psm) v after goes = (goes, tt)
  step_told past (SendSdu psm payload) v after goes = by (endpoint_of psm after.endpoints)
    where
      on : (own : ℕ) (taken : Bool) → EachAfter ToldAt past (from_call (cond taken (Some (Send own (sdu_of payload))) None))
      on own true = (goes, tt)
      on own false = tt

      by : (found : Option ℕ) → EachAfter ToldAt past (from_call (sent_call v payload found))
      by None = tt
      by (Some own) = on own (takes_sdu own (sdu_of payload) v)
  step_told past (CloseChannel psm) v after goes = by (endpoint_of psm after.endpoints)
    where
      by : (found : Option ℕ) → EachAfter ToldAt past (from_call (closed_call found))
      by None = tt
      by (Some own) = (tt, tt)
  step_told past BreakLink v after goes = tt
  step_told past (Ended outcome) v after goes = tt
  step_told past NoMemory v after goes = tt

  strand_told : (strand : Strand) (past : List Occurrence) (p : ClientProfile) → Goes p (run_of wanted past) → EachAfter ToldAt past (strand_list C asks strand (run_of wanted past).value p)
  strand_told (Hearing pdu) past p goes = (tt, tt)
  strand_told (Giving pdu) past p goes = (tt, tt)
  strand_told Firing past p goes = (tt, tt)
  strand_told Telling past p goes = (tt, tt)
  strand_told (Gifting circumstances) past p goes = tt
  strand_told (Learning circumstances news) past p goes = tt
  strand_told Checking past p goes = tt
  strand_told Stepping past p goes =
      let run = run_of wanted past in
      let one : Stepped = steps p.client (fitted p) in
      let after : ClientProfile = record p { client = one.client; parts = unused one.left p.parts } in
      subst (λ call. EachAfter ToldAt past (from_call call)) (sym (as_steps run.value p)) (step_told past one.step run.value after (step_goes party settings.transport run.said p.client goes.over (way p run goes.holds) (fitted p)))

  -- ---- how it stands then

  abbrev Behind : Strand → List Occurrence → ClientProfile → Run
  Behind strand past p = fold (run_on (policy settings false)) (run_of (policy settings false) past) (strand_list (client_profile settings) asks strand (run_of (policy settings false) past).value p)

  strand_holds : (strand : Strand) (past : List Occurrence) (p : ClientProfile) → (let v = (run_of wanted past).value in let q = strand_profile C strand v p in BeginsNone strand → EachAfter (UttersAt settings asks as_steps) past (strand_list C asks strand v p)
      → Sees settings p (run_of wanted past) → Sees settings q (Behind strand past p) → keeping.Stands settings asks p.client (run_of wanted past) → Holds settings party asks p (run_of wanted past) → Holds settings party asks q (Behind strand past p))
  strand_holds (Hearing pdu) past p none uttered sees later stands holds = as_told.hearing settings party asks past pdu p sees stands holds
  strand_holds (Giving pdu) past p none uttered sees later stands holds = as_told.changes settings party asks past (Gives pdu) p (λ K fine k. gives-fine K fine (run_of wanted past).value (all-sound wanted past).core.lone k) uttered.0 (λ own. refl) sees holds
  strand_holds Firing past p none uttered sees later stands holds = as_told.changes settings party asks past Fires p (λ K fine k. timed-fine K fine wanted (run_of wanted past).value k) tt (λ own. refl) sees holds
  strand_holds Telling past p none uttered sees later stands holds = as_told.telling settings party asks past p sees holds
  strand_holds (Gifting circumstances) past p none uttered sees later stands holds = as_told.gifting settings party asks circumstances (run_of wanted past) p holds
  strand_holds (Learning circumstances news) past p none uttered sees later stands holds = as_told.learning settings party asks circumstances news (run_of wanted past) p none holds
  strand_holds Checking past p none uttered sees later stands holds = as_told.checking settings party asks (run_of wanted past) p holds
  strand_holds Stepping past p none uttered sees later stands holds = stepping settings party asks as_steps past p (call_utters settings asks as_steps past (asks.call (run_of wanted past).value p) uttered) sees later holds

  strand_goes : (strand : Strand) (past : List Occurrence) (p : ClientProfile) → (let v = (run_of wanted past).value in BeginsNone strand → EachAfter (UttersAt settings asks as_steps) past (strand_list C asks strand v p) → AllByRecursion ComesInOctets (strand_list C asks strand v p)
      → Goes p (run_of wanted past) → Goes (strand_profile C strand v p) (Behind strand past p))
  strand_goes strand past p none uttered octets goes =
      let later = strand_sees settings asks as_steps strand past p none uttered octets goes.sees in
      record {
        sees = later;
        stands = keeping.strand_stands settings asks strand past p (on_link strand none) goes.stands;
        holds = strand_holds strand past p none uttered goes.sees later goes.stands goes.holds;
        over = strand_over settings asks strand (run_of wanted past).value p goes.over;
      }

  weave_told : (weave : List Strand) (past : List Occurrence) (p : ClientProfile) (v : Channels) → (run_of wanted past).value ≡ v → AllByRecursion BeginsNone weave → EachAfter (UttersAt settings asks as_steps) past (woven_list C asks weave v p) → AllByRecursion ComesInOctets (woven_list C asks weave v p)
      → Goes p (run_of wanted past) → EachAfter ToldAt past (woven_list C asks weave v p)
  weave_told [] past p v is none uttered octets goes = tt
  weave_told (strand ∷ weave) past p v is none uttered octets goes =
      let list = strand_list C asks strand v p in
      let q = strand_profile C strand v p in
      let u = values_after wanted v list in
      let rest = woven_list C asks weave u q in
      let utters = each_split (UttersAt settings asks as_steps) past list rest uttered in
      let comes = all_split ComesInOctets list rest octets in
      let told = subst (λ w. EachAfter ToldAt past (strand_list C asks strand w p)) is (strand_told strand past p goes) in
      let here = subst (λ w. EachAfter (UttersAt settings asks as_steps) past (strand_list C asks strand w p) → AllByRecursion ComesInOctets (strand_list C asks strand w p) → Goes p (run_of wanted past)
      → Goes (strand_profile C strand w p) (fold (run_on wanted) (run_of wanted past) (strand_list C asks strand w p))) is (strand_goes strand past p none.0) utters.0 comes.0 goes in
      let value : (run_of wanted (past ++ list)).value ≡ u = ap (λ (r : Run). r.value) (run_behind settings asks as_steps past list) ∙ (value_run wanted list (run_of wanted past) ∙ ap (λ w. values_after wanted w list) is) in
      each_after-both ToldAt past list rest told (weave_told weave (past ++ list) q u value none.1 utters.1 comes.1 (subst (Goes q) (sym (run_behind settings asks as_steps past list)) here))

  -- ---- from when it comes up

  begins_holds : (first : ClientProfile) → BeginsSearch first → Holds settings party asks first new_link
  begins_holds first (inl (at, new, empty)) = Sure knows (subst (λ s. JoinsIn (phase s) first.client.query.joined new_link) (sym at) tt)
    where
      knows : Knows party first.client []
      knows = record { walk = record { transport = first.client.transport; targets = []; taken = [] }; stands = subst (λ s. At (record { transport = first.client.transport; targets = []; taken = [] }) s (course_of first.client)) (sym at) (record { same = refl; none = refl; is = refl }); told = tt }
  begins_holds first (inr off) = Away off

  pub link_goes : (list : List Occurrence) (first last : ClientProfile) → IsOver settings.transport first.client → SearchesOn settings asks list first last → CallsInOrder settings.transport wanted list → GoesAsTold party settings.transport (spoken_of (run_of wanted list).said)
  link_goes list first last over on order =
      let weave = on.woven.weave in
      let begins : Goes first new_link = record {
        sees = begins_sees settings asks as_steps first on.first_is;
        stands = keeping.Well (Idle (record { held_is = refl; quiet = refl; notes_are = refl })) tt;
        holds = begins_holds first on.first_is;
        over = over;
      } in
      let all = weave_told weave [] first no_channels refl on.begins (subst (EachAfter (UttersAt settings asks as_steps) []) on.woven.list_is on.uttered) (subst (AllByRecursion ComesInOctets) on.woven.list_is on.octets) begins in
      said_as_told settings party list order (subst (EachAfter ToldAt []) (sym on.woven.list_is) all)

pub clients_go_as_told : ClientsGoAsTold
clients_go_as_told settings asks party before list first last as_steps fed on order =
    link_goes settings party asks as_steps list first last (subst (λ (p : ClientProfile). IsOver settings.transport p.client) (sym fed) (fed_over settings before (client_profile settings).first (first_over settings))) on order
