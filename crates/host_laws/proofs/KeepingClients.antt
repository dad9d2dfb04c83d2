-- A client that gave up a request, or took one back, has nothing left but its link.
use Rattle.std.proofs.Common.{◌≡◌, ℕ, List, [], ◌∷◌, ◌++◌, length, drop, fold, Bool, true, false, cond, ◌||◌, Option, Some, None, refl, sym, ap, subst, ◌∙◌, ◌⊎◌, inl, inr, append_assoc, append-nil, length-append, ◌+◌, arith}
use Rattle.std.specs.Prelude.{find, is_some, option_map}
use Rattle.std.specs.List.{AllByRecursion, list_any}
use Rattle.std.proofs.lemmas.List.Sums.{fold-append}
use Rattle.shelf_model.specs.acl_fragments.specs.Pieces.{channel_of}
use Rattle.shelf_model.specs.bt_base.specs.declared.settings.Settings.{Settings}
use Rattle.channel_laws.specs.channel_model.specs.declared.event.ChannelEvent.{ChannelEvent}
use Rattle.channel_laws.specs.channel_model.specs.declared.event.ChannelEvent.TheVariants.{Opened, Closed, Features, FeaturesLost, DisconnectLost}
use Rattle.channel_laws.specs.channel_model.specs.declared.event.CloseReason.TheVariants.{OwnClosed}
use Rattle.channel_laws.specs.channel_model.specs.Value.{Stage, Requested, Connected, Leaving, Closing, Crossed, Held, Channels, no_channels}
use Rattle.channel_laws.specs.channel_model.specs.Policies.{Policy, policy}
use Rattle.channel_laws.specs.channel_model.specs.Changing.{has_own, held_at}
use Rattle.channel_laws.specs.channel_model.specs.Closing.{closes_at}
use Rattle.channel_laws.specs.channel_model.specs.Calls.{open_carrier, setup_on, carrier_mtu, connected, asks_features, disconnected_at, disconnected_held, disconnected, carrier_at, peer_mtu, waits}
use Rattle.channel_laws.specs.channel_model.specs.Carrying.{Up as Handed, Nothing, Received}
use Rattle.channel_laws.specs.channel_model.specs.Hearing.{up}
use Rattle.channel_laws.specs.OwnTalk.{asked_between}
use Rattle.channel_laws.specs.Runs.{Occurrence, Comes, Disconnects, Sends, Gives, Fires, Tells, given_up, said_in, value_after, peer_at, Run, new_link, run_on, run_of}
use Rattle.channel_laws.proofs.Running.{all-sound}
use Rattle.push_laws.specs.push_model.specs.Client.{Client, begins, cancelled}
use Rattle.push_laws.specs.push_model.specs.Events as events
use Rattle.push_laws.specs.push_model.specs.Events.{is_asking_features, hears_news}
use Rattle.push_laws.specs.push_model.specs.Steps.{Step, Wait, MakeLink, AskFeatures, OpenChannel, SendSdu, CloseChannel, BreakLink, Ended, NoMemory, Stepped, steps}
use Rattle.shelf_model.specs.world_model.specs.Machines.{News, Linked, Failed, Heard, TimerFired, Cancelled, Opening}
use Rattle.shelf_model.specs.host_model.specs.Circumstances.{Circumstance}
use Rattle.shelf_model.specs.host_model.specs.Profiles.{Profile, Stride}
use Rattle.shelf_model.specs.host_model.specs.Hosts.{handed}
use Rattle.shelf_model.specs.host_model.specs.Clients as clients
use Rattle.shelf_model.specs.host_model.specs.Clients.{ClientProfile, client_profile, NoBid, after_end, ended, after_call, calls, opened_by, closed_by, cause_of, event_heard, sent_on, submits, closes, takes, fitted}
use Rattle.shelf_model.specs.host_model.specs.Shelves.{size_for, name_for, unused}
use Rattle.host_laws.specs.Calls.{Call, Connect, AskFeatures as AskThem, Disconnect, Send, Asks, from_call, values_after}
use Rattle.host_laws.specs.Feeds.{tidings_by}
use Rattle.host_laws.specs.Keeping.{IsMoreThanAsked, IsThere, TakesNoneBack, is_loss, ClientsKeepOn}
use Rattle.host_laws.specs.Leaving.{is_off}
use Rattle.host_laws.specs.Woven.{Strand, Hearing, Giving, Firing, Telling, Gifting, Learning, Checking, Stepping, IsOnLink, told_next, strand_list, strand_profile, woven_list, woven_profile}
use Rattle.host_laws.proofs.Changes.{kind, Fine, comes-fine, gives-fine, timed-fine}
use Rattle.host_laws.proofs.Courses.{StepSo, steps_so, steps_off}
use Rattle.host_laws.proofs.Faces.{same_face, Keeps, Goes, same, goes_both, heard_goes, heard_off, timer_goes, timer_off, cancelled_goes, cancelled_off, failed_goes, failed_off, begins_goes, begins_off}
use Rattle.host_laws.proofs.Forgoing.{any_lost, AllSpoken, both_spoken, carrier_spoken, asked_spoken, left_spoken, said_spoken, all_passed}
use Rattle.host_laws.proofs.Links.{value_run}
use Rattle.host_laws.proofs.OneChannel.{notes, lives_by, IsLive, IsBare}
use Rattle.host_laws.proofs.StandingClients.{Uses, Clean, Lives, Ends, Idle, Waits, Told, Fatal, Shut, Missed, KeepsMost, most, clean_keeps, fatal_keeps, fatal-fine, fine_clean, shut_off, missed_off, opened_most, open_lives, event_off}
use Rattle.host_laws.proofs.Taking.{Taken, Gone, Lost, Stood, step_taken, takes_off}

-- ---- where nothing was lost

losses : (list : List ChannelEvent) → list_any is_loss list ≡ list_any is_loss (notes list)
losses [] = refl
losses (Opened own psm ∷ list) = losses list
losses (Closed own psm reason ∷ list) = ap (λ b. is_loss (Closed own psm reason) || b) (losses list)
losses (Features features ∷ list) = losses list
losses (FeaturesLost ∷ list) = refl
losses (DisconnectLost own ∷ list) = refl

no_loss : (v : Channels) (told : List ChannelEvent) → notes v.events ≡ told → list_any is_loss told ≡ false → any_lost true v.events ≡ false
no_loss v told is none = losses v.events ∙ (ap (list_any is_loss) is ∙ none)

pub clean_quiet : (c : Client) (v : Channels) → Clean c v → any_lost true v.events ≡ false
clean_quiet c v (Lives psm asked leaving uses live) = no_loss v [] live.none refl
clean_quiet c v (Ends psm own used closes' bare) = no_loss v (Closed own psm OwnClosed ∷ []) bare.notes_are refl
clean_quiet c v (Idle bare) = no_loss v [] bare.notes_are refl
clean_quiet c v (Waits asks waits') = no_loss v [] waits'.none refl
clean_quiet c v (Told asks features bare) = no_loss v (Features features ∷ []) bare.notes_are refl

-- ---- it is told what happened

live_told : (psm : ℕ) (asked asked' leaving : Bool) (v w : Channels) → w.held ≡ v.held → w.features ≡ v.features → notes w.events ≡ notes v.events → (live : IsLive psm asked leaving v) → lives_by asked' leaving (kind live.one.stage) ≡ true → IsLive psm asked' leaving w
live_told psm asked asked' leaving v w held_is features_are notes_are live lives =
    record { one = live.one; held_is = held_is ∙ live.held_is; psm_is = live.psm_is; stage_is = lives; quiet = ap is_some features_are ∙ live.quiet; none = notes_are ∙ live.none }

bare_told : (told : List ChannelEvent) (v w : Channels) → w.held ≡ v.held → w.features ≡ v.features → notes w.events ≡ told → is_some v.features ≡ false → v.held ≡ [] → IsBare told w
bare_told told v w held_is features_are notes_are quiet none = record { held_is = held_is ∙ none; quiet = ap is_some features_are ∙ quiet; notes_are = notes_are }

-- the first thing that is to be told is told
pub record TellsFirst (v w u : Channels) (event : ChannelEvent) (list : List ChannelEvent) : Type 0 where
  pub events_are : v.events ≡ event ∷ list
  pub held_is : w.held ≡ v.held
  pub features_are : w.features ≡ v.features
  pub rest_is : w.events ≡ list
  pub seen_is : u.held ≡ v.held

abbrev pub Result : (d : Client) (F : Client → Channels → Type 0) (w : Channels) → Type 0
Result d F w = (is_off d.stage ≡ true) ⊎ F d w

opened_clean : (own psm : ℕ) (list : List ChannelEvent) (c : Client) (v w u : Channels) → TellsFirst v w u (Opened own psm) list → Clean c v → Result (opened_by (peer_mtu own u) psm c) Clean w
opened_clean own psm list c v w u tells clean = by (opened_most (peer_mtu own u) psm c) clean
  where
    d : Client
    d = opened_by (peer_mtu own u) psm c

    left : notes w.events ≡ notes v.events
    left = ap notes tells.rest_is ∙ sym (ap notes tells.events_are)

    lives : (psm' : ℕ) (asked leaving : Bool) → Uses c psm' asked leaving → IsLive psm' asked leaving v → (mtu : Option ℕ) → peer_mtu own u ≡ mtu → (is_off (opened_by mtu psm c).stage ≡ true) ⊎ KeepsMost c (opened_by mtu psm c) → Result (opened_by mtu psm c) Clean w
    lives psm' asked leaving uses live None is goes = inr (Lives psm' asked leaving uses (live_told psm' asked asked leaving v w tells.held_is tells.features_are left live live.stage_is))
    lives psm' asked leaving uses live (Some mtu) is (inl off) = inl off
    lives psm' asked leaving uses live (Some mtu) is (inr keeps) =
        let open' : peer_mtu own v ≡ Some mtu = ap (λ hs. option_map carrier_mtu (open_carrier (setup_on (find (has_own own) hs)))) (sym tells.seen_is) ∙ is in
        inr (Lives psm' false leaving (record { used = keeps.used ∙ uses.used; may = λ m. cc; closes = λ m. keeps.closes (uses.closes m) })
        (live_told psm' asked false leaving v w tells.held_is tells.features_are left live (open_lives own mtu psm' asked leaving v live open')))

    by : (is_off d.stage ≡ true) ⊎ KeepsMost c d → Clean c v → Result d Clean w
    by (inl off) clean = inl off
    by (inr keeps) (Lives psm' asked leaving uses live) = lives psm' asked leaving uses live (peer_mtu own u) refl (inr keeps)
    by (inr keeps) (Ends psm' own' used closes' bare) = inr (Ends psm' own' (keeps.used ∙ used) (keeps.closes closes') (bare_told (Closed own' psm' OwnClosed ∷ []) v w tells.held_is tells.features_are (left ∙ bare.notes_are) bare.quiet bare.held_is))
    by (inr keeps) (Idle bare) = inr (Idle (bare_told [] v w tells.held_is tells.features_are (left ∙ bare.notes_are) bare.quiet bare.held_is))
    by (inr keeps) (Waits asks waits') = inr (Waits (keeps.asks asks) (record { held_is = tells.held_is ∙ waits'.held_is; asks = ap is_some tells.features_are ∙ waits'.asks; none = left ∙ waits'.none }))
    by (inr keeps) (Told asks features bare) = inr (Told (keeps.asks asks) features (bare_told (Features features ∷ []) v w tells.held_is tells.features_are (left ∙ bare.notes_are) bare.quiet bare.held_is))

opened_fatal : (own psm : ℕ) (list : List ChannelEvent) (c : Client) (v w u : Channels) → TellsFirst v w u (Opened own psm) list → Fatal c v → Result (opened_by (peer_mtu own u) psm c) Fatal w
opened_fatal own psm list c v w u tells fatal = by (opened_most (peer_mtu own u) psm c)
  where
    d : Client
    d = opened_by (peer_mtu own u) psm c

    left : notes v.events ≡ notes w.events
    left = ap notes tells.events_are ∙ sym (ap notes tells.rest_is)

    there : Fatal c v → Fatal c w
    there (Shut own' psm' reason more used why told) = Shut own' psm' reason more used why (sym left ∙ told)
    there (Missed asks (more, told)) = Missed asks (more, sym left ∙ told)

    by : (is_off d.stage ≡ true) ⊎ KeepsMost c d → Result d Fatal w
    by (inl off) = inl off
    by (inr keeps) = inr (fatal_keeps c d w keeps (there fatal))

-- what is notable is what it was to be told
headed : (v w u : Channels) (event : ChannelEvent) (list told : List ChannelEvent) → TellsFirst v w u event list → notes v.events ≡ told → notes (event ∷ list) ≡ told
headed v w u event list told tells is = ap notes (sym tells.events_are) ∙ is

pub event_clean : (event : ChannelEvent) (list : List ChannelEvent) (c : Client) (v w u : Channels) → TellsFirst v w u event list → Clean c v → Result (event_heard event u c) Clean w
event_clean (Opened own psm) list c v w u tells clean = opened_clean own psm list c v w u tells clean
event_clean (Closed own psm reason) list c v w u tells (Lives psm' asked leaving uses live) = let is = headed v w u (Closed own psm reason) list [] tells live.none in cc
event_clean (Closed own psm reason) list c v w u tells (Ends psm' own' used closes' bare) =
    let is = headed v w u (Closed own psm reason) list (Closed own' psm' OwnClosed ∷ []) tells bare.notes_are in
    let none : notes list ≡ [] = cc in
    inr (Idle (bare_told [] v w tells.held_is tells.features_are (ap notes tells.rest_is ∙ none) bare.quiet bare.held_is))
event_clean (Closed own psm reason) list c v w u tells (Idle bare) = let is = headed v w u (Closed own psm reason) list [] tells bare.notes_are in cc
event_clean (Closed own psm reason) list c v w u tells (Waits asks waits') = let is = headed v w u (Closed own psm reason) list [] tells waits'.none in cc
event_clean (Closed own psm reason) list c v w u tells (Told asks features bare) = let is = headed v w u (Closed own psm reason) list (Features features ∷ []) tells bare.notes_are in cc
event_clean (Features told) list c v w u tells (Lives psm' asked leaving uses live) = let is = headed v w u (Features told) list [] tells live.none in cc
event_clean (Features told) list c v w u tells (Ends psm' own' used closes' bare) = let is = headed v w u (Features told) list (Closed own' psm' OwnClosed ∷ []) tells bare.notes_are in cc
event_clean (Features told) list c v w u tells (Idle bare) = let is = headed v w u (Features told) list [] tells bare.notes_are in cc
event_clean (Features told) list c v w u tells (Waits asks waits') = let is = headed v w u (Features told) list [] tells waits'.none in cc
event_clean (Features told) list c v w u tells (Told asks features bare) =
    let is = headed v w u (Features told) list (Features features ∷ []) tells bare.notes_are in
    let none : notes list ≡ [] = cc in
    inr (Idle (bare_told [] v w tells.held_is tells.features_are (ap notes tells.rest_is ∙ none) bare.quiet bare.held_is))
event_clean FeaturesLost list c v w u tells clean = absurd (never clean)
  where
    never : Clean c v → ⊥
    never (Lives psm' asked leaving uses live) = let is = headed v w u FeaturesLost list [] tells live.none in cc
    never (Ends psm' own' used closes' bare) = let is = headed v w u FeaturesLost list (Closed own' psm' OwnClosed ∷ []) tells bare.notes_are in cc
    never (Idle bare) = let is = headed v w u FeaturesLost list [] tells bare.notes_are in cc
    never (Waits asks waits') = let is = headed v w u FeaturesLost list [] tells waits'.none in cc
    never (Told asks features bare) = let is = headed v w u FeaturesLost list (Features features ∷ []) tells bare.notes_are in cc
event_clean (DisconnectLost own) list c v w u tells clean = absurd (never clean)
  where
    never : Clean c v → ⊥
    never (Lives psm' asked leaving uses live) = let is = headed v w u (DisconnectLost own) list [] tells live.none in cc
    never (Ends psm' own' used closes' bare) = let is = headed v w u (DisconnectLost own) list (Closed own' psm' OwnClosed ∷ []) tells bare.notes_are in cc
    never (Idle bare) = let is = headed v w u (DisconnectLost own) list [] tells bare.notes_are in cc
    never (Waits asks waits') = let is = headed v w u (DisconnectLost own) list [] tells waits'.none in cc
    never (Told asks features bare) = let is = headed v w u (DisconnectLost own) list (Features features ∷ []) tells bare.notes_are in cc

pub event_fatal : (event : ChannelEvent) (list : List ChannelEvent) (c : Client) (v w u : Channels) → TellsFirst v w u event list → Fatal c v → Result (event_heard event u c) Fatal w
event_fatal (Opened own psm) list c v w u tells fatal = opened_fatal own psm list c v w u tells fatal
event_fatal (Closed own psm reason) list c v w u tells (Shut own' psm' reason' more used why told) =
    let is = headed v w u (Closed own psm reason) list (Closed own' psm' reason' ∷ more) tells told in
    let psm_same : psm' ≡ psm = cc in
    let reason_same : reason' ≡ reason = cc in
    inl (subst (λ n. is_off (closed_by (cause_of reason) n c).stage ≡ true) psm_same (subst (λ r. is_off (closed_by (cause_of r) psm' c).stage ≡ true) reason_same (shut_off reason' c psm' why used)))
event_fatal (Closed own psm reason) list c v w u tells (Missed asks (more, told)) = let is = headed v w u (Closed own psm reason) list (FeaturesLost ∷ more) tells told in cc
event_fatal (Features features) list c v w u tells (Shut own' psm' reason' more used why told) = let is = headed v w u (Features features) list (Closed own' psm' reason' ∷ more) tells told in cc
event_fatal (Features features) list c v w u tells (Missed asks (more, told)) = let is = headed v w u (Features features) list (FeaturesLost ∷ more) tells told in cc
event_fatal FeaturesLost list c v w u tells (Shut own' psm' reason' more used why told) = let is = headed v w u FeaturesLost list (Closed own' psm' reason' ∷ more) tells told in cc
event_fatal FeaturesLost list c v w u tells (Missed asks missed) = inl (missed_off c asks)
event_fatal (DisconnectLost own) list c v w u tells (Shut own' psm' reason' more used why told) = let is = headed v w u (DisconnectLost own) list (Closed own' psm' reason' ∷ more) tells told in cc
event_fatal (DisconnectLost own) list c v w u tells (Missed asks (more, told)) = let is = headed v w u (DisconnectLost own) list (FeaturesLost ∷ more) tells told in cc

-- ---- what it asks of its channels

-- of what it asked nothing more is to be told, so nothing was taken back
grows_not : (list : List ChannelEvent) (event : ChannelEvent) → list ++ event ∷ [] ≡ list → ⊥
grows_not list event is = let sizes : length (list ++ event ∷ []) ≡ length list = ap length is in let more : length (list ++ event ∷ []) ≡ length list + 1 = length-append list (event ∷ []) in absurd (omega (arith, sizes, more))

module _ (settings : Settings) (asks : Asks (client_profile settings)) where
  abbrev wanted : Policy
  wanted = policy settings false

  abbrev A : Profile ClientProfile
  A = client_profile settings

  quiet_call : (run : Run) (call : Option Call) → (values_after wanted run.value (from_call call)).events ≡ run.value.events → AllSpoken run.said → AllSpoken (fold (run_on wanted) run (from_call call)).said
  quiet_call run None same_events spoken = spoken
  quiet_call run (Some (Connect psm)) same_events spoken = both_spoken run.said (asked_between run.value (connected psm run.value)) spoken (asked_spoken run.value (connected psm run.value))
  quiet_call run (Some AskThem) same_events spoken = both_spoken run.said (asked_between run.value (asks_features run.value)) spoken (asked_spoken run.value (asks_features run.value))
  quiet_call run (Some (Send own sdu)) same_events spoken = both_spoken run.said (said_in wanted (Sends own sdu) run.value) spoken (carrier_spoken (carrier_at own run.value) (peer_at (held_at own run.value)) sdu)
  quiet_call run (Some (Disconnect own)) same_events spoken =
      both_spoken run.said (said_in wanted (Disconnects own) run.value) spoken
      (both_spoken (asked_between v (disconnected own v)) (given_up own v (disconnected own v)) (asked_spoken v (disconnected own v)) (left_spoken v own (held_at own v) refl (there (held_at own v) refl)))
    where
      v : Channels
      v = run.value

      there : (found : Option Held) → held_at own v ≡ found → IsThere found
      there None is = tt
      there (Some held) is = by held.stage refl
        where
          by : (stage : Stage) → held.stage ≡ stage → IsMoreThanAsked stage
          by (Requested request) at =
              let taken : (disconnected own v).events ≡ v.events ++ Closed held.own held.psm OwnClosed ∷ [] =
              ap (λ found. (disconnected_held found v).events) is ∙ (ap (λ stage. (disconnected_at stage held v).events) at ∙ ap (λ stage. (closes_at stage OwnClosed held v).events) at) in
              grows_not v.events (Closed held.own held.psm OwnClosed) (sym taken ∙ same_events)
          by (Connected peer setup) at = tt
          by (Leaving peer setup request) at = tt
          by (Closing peer request checked) at = tt
          by (Crossed peer request) at = tt

  -- ---- how it stands, and what was said

  pub data Stands (c : Client) (run : Run) : Type 0 where
    Off : is_off c.stage ≡ true → Stands c run
    Doomed : Fatal c run.value → Stands c run
    Well : Clean c run.value → AllSpoken run.said → Stands c run

  keeps_on : (c d : Client) (run : Run) → (is_off c.stage ≡ true → is_off d.stage ≡ true) → Keeps c d → Stands c run → Stands d run
  keeps_on c d run stays keeps (Off off) = Off (stays off)
  keeps_on c d run stays keeps (Doomed fatal) = Doomed (fatal_keeps c d run.value (most c d keeps) fatal)
  keeps_on c d run stays keeps (Well clean spoken) = Well (clean_keeps c d run.value keeps clean) spoken

  moves : (c d : Client) (run : Run) → (is_off c.stage ≡ true → is_off d.stage ≡ true) → (is_off c.stage ≡ false → Goes c d) → Stands c run → Stands d run
  moves c d run stays goes stands = by (is_off c.stage) refl
    where
      on : Goes c d → Stands d run
      on (inl off) = Off off
      on (inr keeps) = keeps_on c d run stays keeps stands

      by : (off : Bool) → is_off c.stage ≡ off → Stands d run
      by true is = Off (stays is)
      by false is = on (goes is)

  -- something happens to its channels that it did not ask for
  changes : (c : Client) (run : Run) (one : Occurrence) → TakesNoneBack one run.value → ((K : Channels → Type 0) → Fine K → K run.value → K (value_after wanted one run.value)) → Stands c run → Stands c (run_on wanted run one)
  changes c run one back goes (Off off) = Off off
  changes c run one back goes (Doomed fatal) = Doomed (goes (Fatal c) (fatal-fine c) fatal)
  changes c run one back goes (Well clean spoken) = by (fine_clean c run.value (value_after wanted one run.value) goes clean)
    where
      by : Clean c (value_after wanted one run.value) ⊎ Fatal c (value_after wanted one run.value) → Stands c (run_on wanted run one)
      by (inl now) = Well now (both_spoken run.said (said_in wanted one run.value) spoken (said_spoken true wanted one run.value back (λ ends. cc) (clean_quiet c (value_after wanted one run.value) now)))
      by (inr fatal) = Doomed fatal

  -- ---- it is told what happened

  telling : (run : Run) (p : ClientProfile) → Stands p.client run → Stands (told_next A run.value.events run.value p).client (run_on wanted run Tells)
  telling run p stands = by run.value.events refl
    where
      v : Channels
      v = run.value

      w : Channels
      w = value_after wanted Tells v

      by : (list : List ChannelEvent) → v.events ≡ list → Stands (told_next A list v p).client (run_on wanted run Tells)
      by [] is = none stands
        where
          same_value : v ≡ w
          same_value = ap (λ (list : List ChannelEvent). let x : Channels = record v { events = list } in x) (is ∙ sym (ap (drop 1) is))

          none : Stands p.client run → Stands p.client (run_on wanted run Tells)
          none (Off off) = Off off
          none (Doomed fatal) = Doomed (subst (Fatal p.client) same_value fatal)
          none (Well clean spoken) = Well (subst (Clean p.client) same_value clean) (both_spoken run.said [] spoken tt)
      by (event ∷ list) is = some stands
        where
          u : Channels
          u = record v { events = list }

          tells : TellsFirst v w u event list
          tells = record { events_are = is; held_is = refl; features_are = refl; rest_is = ap (drop 1) is; seen_is = refl }

          some : Stands p.client run → Stands (event_heard event u p.client) (run_on wanted run Tells)
          some (Off off) = Off (event_off event u p.client off)
          some (Doomed fatal) = doomed (event_fatal event list p.client v w u tells fatal)
            where
              doomed : Result (event_heard event u p.client) Fatal w → Stands (event_heard event u p.client) (run_on wanted run Tells)
              doomed (inl off) = Off off
              doomed (inr now) = Doomed now
          some (Well clean spoken) = well (event_clean event list p.client v w u tells clean)
            where
              well : Result (event_heard event u p.client) Clean w → Stands (event_heard event u p.client) (run_on wanted run Tells)
              well (inl off) = Off off
              well (inr now) = Well now (both_spoken run.said [] spoken tt)

  -- ---- it hears news

  end_so : (step : Step) (c d : Client) → StepSo c d step → Goes c (after_end step d c)
  end_so (Ended outcome) c d so = inl so
  end_so Wait c d so = same c
  end_so MakeLink c d so = same c
  end_so AskFeatures c d so = same c
  end_so (OpenChannel psm) c d so = same c
  end_so (SendSdu psm payload) c d so = same c
  end_so (CloseChannel psm) c d so = same c
  end_so BreakLink c d so = same c
  end_so NoMemory c d so = same c

  end_off : (step : Step) (c d : Client) → is_off c.stage ≡ true → is_off d.stage ≡ true → is_off (after_end step d c).stage ≡ true
  end_off (Ended outcome) c d off now = now
  end_off Wait c d off now = off
  end_off MakeLink c d off now = off
  end_off AskFeatures c d off now = off
  end_off (OpenChannel psm) c d off now = off
  end_off (SendSdu psm payload) c d off now = off
  end_off (CloseChannel psm) c d off now = off
  end_off BreakLink c d off now = off
  end_off NoMemory c d off now = off

  ended_goes : (c : Client) → Goes c (ended c)
  ended_goes c = let one = steps c [] in end_so one.step c one.client (steps_so c [])

  ended_off : (c : Client) → is_off c.stage ≡ true → is_off (ended c).stage ≡ true
  ended_off c off = let one = steps c [] in end_off one.step c one.client off (steps_off c [] off)

  call_so : (step : Step) (p : ClientProfile) (d : Client) → StepSo p.client d step → Goes p.client (after_call step d p).client
  call_so MakeLink p d so = inl so
  call_so Wait p d so = same p.client
  call_so AskFeatures p d so = same p.client
  call_so (OpenChannel psm) p d so = same p.client
  call_so (SendSdu psm payload) p d so = same p.client
  call_so (CloseChannel psm) p d so = same p.client
  call_so BreakLink p d so = same p.client
  call_so (Ended outcome) p d so = same p.client
  call_so NoMemory p d so = same p.client

  call_off : (step : Step) (p : ClientProfile) (d : Client) → is_off p.client.stage ≡ true → is_off d.stage ≡ true → is_off (after_call step d p).client.stage ≡ true
  call_off MakeLink p d off now = now
  call_off Wait p d off now = off
  call_off AskFeatures p d off now = off
  call_off (OpenChannel psm) p d off now = off
  call_off (SendSdu psm payload) p d off now = off
  call_off (CloseChannel psm) p d off now = off
  call_off BreakLink p d off now = off
  call_off (Ended outcome) p d off now = off
  call_off NoMemory p d off now = off

  calls_goes : (p : ClientProfile) → Goes p.client (calls p).client
  calls_goes p = let one = steps p.client [] in call_so one.step p one.client (steps_so p.client [])

  calls_off : (p : ClientProfile) → is_off p.client.stage ≡ true → is_off (calls p).client.stage ≡ true
  calls_off p off = let one = steps p.client [] in call_off one.step p one.client off (steps_off p.client [] off)

  then_ended : (c d : Client) → Goes c d → Goes c (ended d)
  then_ended c d goes = goes_both c d (ended d) goes (ended_off d) (λ on. ended_goes d)

  learning : (circumstances : List Circumstance) (news : News) (run : Run) (p : ClientProfile) → tidings_by news ≡ [] → Stands p.client run → Stands (A.told circumstances news p).client run
  learning circumstances (Linked event) run p aside stands = cc
  learning circumstances (Failed status) run p aside stands =
      let c = p.client in let d = hears_news (events.LinkFailed status) c in moves c (ended d) run (λ off. ended_off d (failed_off status c off)) (λ on. then_ended c d (failed_goes status c)) stands
  learning circumstances (Heard pdu) run p aside stands = stands
  learning circumstances TimerFired run p aside stands = moves p.client (hears_news events.Timer p.client) run (timer_off p.client) (timer_goes p.client) stands
  learning circumstances Cancelled run p aside stands =
      let c = p.client in let d = cancelled c in moves c (ended d) run (λ off. ended_off d (cancelled_off c off)) (λ on. then_ended c d (cancelled_goes c on)) stands
  learning circumstances (Opening name) run p aside stands =
      let c = p.client in
      let d = begins (size_for circumstances name) (name_for name) c in
      let begun : ClientProfile = record p { client = ended d; submitted = None; bid = NoBid } in
      moves c (calls begun).client run (λ off. calls_off begun (ended_off d (begins_off (size_for circumstances name) (name_for name) c off)))
      (λ on. goes_both c (ended d) (calls begun).client (then_ended c d (begins_goes (size_for circumstances name) (name_for name) c)) (calls_off begun) (λ still. calls_goes begun)) stands

  receiving : (handed_up : Handed) (run : Run) (p : ClientProfile) → Stands p.client run → Stands (handed A handed_up p).client run
  receiving Nothing run p stands = stands
  receiving (Received own psm sdu) run p stands = moves p.client (hears_news (events.Sdu psm sdu) p.client) run (heard_off psm sdu p.client) (λ on. heard_goes psm sdu p.client) stands

  checking : (submitted : Option ℕ) (run : Run) (p : ClientProfile) → Stands p.client run → Stands (sent_on submitted run.value p).client run
  checking None run p stands = stands
  checking (Some own) run p stands = by (waits own run.value)
    where
      by : (b : Bool) → Stands (cond b p (clients.done (record p { submitted = None }))).client run
      by true = stands
      by false = keeps_on p.client (clients.done (record p { submitted = None })).client run (λ off. off) (same_face p.client.stage p.client.psm (is_some p.client.cause)) stands

  -- ---- it takes a step

  stepping : (run : Run) (p : ClientProfile) → Stands p.client run → Stands (A.steps run.value p).profile.client (fold (run_on wanted) run (from_call (asks.call run.value p)))
  stepping run p stands = by stands
    where
      v : Channels
      v = run.value

      one : Stepped
      one = steps p.client (fitted p)

      after : ClientProfile
      after = record p { client = one.client; parts = unused one.left p.parts }

      stride : Stride ClientProfile
      stride = takes one.step v after p

      list : List Occurrence
      list = from_call (asks.call v p)

      then : Run
      then = fold (run_on wanted) run list

      value_is : stride.channels ≡ then.value
      value_is = asks.steps_are v p ∙ sym (value_run wanted list run)

      result : Taken (AllSpoken run.said) stride.profile.client v stride.channels → Stands stride.profile.client then
      result (Gone off) = Off off
      result (Lost fatal) = Doomed (subst (Fatal stride.profile.client) value_is fatal)
      result (Stood spoken clean same_events) = Well (subst (Clean stride.profile.client) value_is clean) (quiet_call run (asks.call v p) (ap (λ (w : Channels). w.events) (sym (asks.steps_are v p)) ∙ same_events) spoken)

      by : Stands p.client run → Stands stride.profile.client then
      by (Off off) = Off (takes_off one.step v after p (steps_off p.client (fitted p) off) off)
      by (Doomed fatal) = result (step_taken one.step v after p (steps_so p.client (fitted p)) (inr fatal))
      by (Well clean spoken) = result (step_taken one.step v after p (steps_so p.client (fitted p)) (inl (spoken, clean)))

  -- ---- all that happens

  run_behind : (past list : List Occurrence) → run_of wanted (past ++ list) ≡ fold (run_on wanted) (run_of wanted past) list
  run_behind past list = fold-append (run_on wanted) new_link past list

  pub strand_stands : (strand : Strand) (past : List Occurrence) (p : ClientProfile) → IsOnLink strand → Stands p.client (run_of wanted past)
      → (let v = (run_of wanted past).value in Stands (strand_profile A strand v p).client (fold (run_on wanted) (run_of wanted past) (strand_list A asks strand v p)))
  strand_stands (Hearing pdu) past p on stands =
      let run = run_of wanted past in
      receiving (up (channel_of pdu) pdu run.value) (run_on wanted run (Comes pdu)) p (changes p.client run (Comes pdu) tt (λ K fine k. comes-fine K fine wanted (λ psm. refl) pdu run.value k) stands)
  strand_stands (Giving pdu) past p on stands =
      let run = run_of wanted past in changes p.client run (Gives pdu) tt (λ K fine k. gives-fine K fine run.value (all-sound wanted past).core.lone k) stands
  strand_stands Firing past p on stands = let run = run_of wanted past in changes p.client run Fires tt (λ K fine k. timed-fine K fine wanted run.value k) stands
  strand_stands Telling past p on stands = telling (run_of wanted past) p stands
  strand_stands (Gifting circumstances) past p on stands = stands
  strand_stands (Learning circumstances news) past p on stands = learning circumstances news (run_of wanted past) p on stands
  strand_stands Checking past p on stands = checking p.submitted (run_of wanted past) p stands
  strand_stands Stepping past p on stands = stepping (run_of wanted past) p stands

  weave_stands : (weave : List Strand) (past : List Occurrence) (p : ClientProfile) → AllByRecursion IsOnLink weave → Stands p.client (run_of wanted past)
      → (let v = (run_of wanted past).value in Stands (woven_profile A asks weave v p).client (run_of wanted (past ++ woven_list A asks weave v p)))
  weave_stands [] past p on stands = subst (λ (l : List Occurrence). Stands p.client (run_of wanted l)) (sym (append-nil past)) stands
  weave_stands (strand ∷ weave) past p on stands =
      let v = (run_of wanted past).value in
      let list = strand_list A asks strand v p in
      let q = strand_profile A strand v p in
      let u = values_after wanted v list in
      let value : (run_of wanted (past ++ list)).value ≡ u = ap (λ (r : Run). r.value) (run_behind past list) ∙ value_run wanted list (run_of wanted past) in
      let later = weave_stands weave (past ++ list) q on.1 (subst (Stands q.client) (sym (run_behind past list)) (strand_stands strand past p on.0 stands)) in
      let moved = subst (λ (w : Channels). Stands (woven_profile A asks weave w q).client (run_of wanted ((past ++ list) ++ woven_list A asks weave w q))) value later in
      subst (λ (l : List Occurrence). Stands (woven_profile A asks weave u q).client (run_of wanted l)) (append_assoc past list (woven_list A asks weave u q)) moved

  -- at the end nothing is to be told, and it is not off
  stands_well : (c : Client) (run : Run) → run.value.events ≡ [] → is_off c.stage ≡ false → Stands c run → AllSpoken run.said
  stands_well c run none on (Off off) = let never : true ≡ false = sym off ∙ on in absurd cc
  stands_well c run none on (Doomed (Shut own psm reason more used why told)) = let never : [] ≡ Closed own psm reason ∷ more = ap notes (sym none) ∙ told in absurd cc
  stands_well c run none on (Doomed (Missed asks' (more, told))) = let never : [] ≡ FeaturesLost ∷ more = ap notes (sym none) ∙ told in absurd cc
  stands_well c run none on (Well clean spoken) = spoken

pub clients_keep_on : ClientsKeepOn
clients_keep_on settings asks list first last woven none on =
    let A = client_profile settings in
    let wanted = policy settings false in
    let all = woven_list A asks woven.weave no_channels first in
    let begun : Stands settings asks first.client new_link = Well (Idle (record { held_is = refl; quiet = refl; notes_are = refl })) tt in
    let ended' = weave_stands settings asks woven.weave [] first woven.on_link begun in
    let there = subst (λ (p : ClientProfile). Stands settings asks p.client (run_of wanted all)) (sym woven.last_is) ended' in
    let stands = subst (λ (l : List Occurrence). Stands settings asks last.client (run_of wanted l)) (sym woven.list_is) there in
    all_passed (run_of wanted list).said (stands_well settings asks last.client (run_of wanted list) none on stands)
