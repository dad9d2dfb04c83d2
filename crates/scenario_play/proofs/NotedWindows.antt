-- What a host notes of its windows: no less than it holds, and no more than it states.
use Rattle.std.proofs.Common.{◌≡◌, ℕ, zero, suc, ◌≤◌, Bool, true, false, List, [], ◌∷◌, ◌++◌, Option, Some, None, refl, sym, ap, subst, ◌∙◌, arith, if◌then◌else◌}
use Rattle.std.specs.Prelude.{is_some}
use Rattle.std.proofs.lemmas.List.Sums.{fold-append}
use Rattle.bt_host.specs.channel_model.specs.declared.event.ChannelEvent.{ChannelEvent}
use Rattle.bt_host.specs.acl_fragments.specs.Pieces.{channel_of}
use Rattle.bt_host.specs.channel_model.specs.Calls.{window_used, carrier_window, setup_window, link_down, setup_on}
use Rattle.bt_host.specs.channel_model.specs.Carrying.{Up as Handed, Nothing, Received}
use Rattle.bt_host.specs.channel_model.specs.Changing.{setup_of}
use Rattle.bt_host.specs.channel_model.specs.Giving.{Given, next_given, after_given}
use Rattle.bt_host.specs.channel_model.specs.Hearing.{hears, up}
use Rattle.bt_host.specs.channel_model.specs.Timing.{timed_out}
use Rattle.bt_host.specs.channel_model.specs.Value.{Setup, Held, Channels, no_channels}
use Rattle.bt_host.specs.channel_model.proofs.Lookups.{Distinct, own_of}
use Rattle.noting_laws.specs.channel_laws.specs.Runs.{Occurrence, Comes, Gives, Fires, Tells, Run, new_link, run_on, run_of, value_after}
use Rattle.noting_laws.specs.channel_laws.proofs.Running.{all-sound}
use Rattle.noting_laws.specs.world_model.specs.Machines.{News, Linked, Up, Down, Failed, Heard, TimerFired, Cancelled, Opening}
use Rattle.bt_host.specs.host_model.specs.Circumstances.{Circumstance}
use Rattle.bt_host.specs.host_model.specs.Hosts.{Host, drives, settles, strides, tells_each, tells_events, handed, hears_news, ready, hear, after_said, says, next, with_channels, most_steps, steps_behind}
use Rattle.bt_host.specs.host_model.specs.Pdus.{pdu_of, is_frame}
use Rattle.bt_host.specs.host_model.specs.Profiles.{Profile}
use Rattle.noting_laws.specs.host_laws.specs.Calls.{Asks, Call, occurrence_of, from_call, values_after}
use Rattle.noting_laws.specs.scenario_laws.proofs.Windows.{windows_within}
use Rattle.bt_host.specs.Noting.{Noted, noting}
use Rattle.scenario_play.proofs.Unacknowledged.{AllUnder, window_on, used_under, each_under}
use Rattle.scenario_play.proofs.Stepping.{StepsLess}

module _ {S : Type 0} (credits_in : S → ℕ) (A : Profile S) (asks : Asks A) (less : StepsLess A) (window : ℕ) (wished : (psm : ℕ) → (A.policy.wish psm).window ≡ window) where
  abbrev N : Profile (Noted S)
  N = noting credits_in A

  -- ---- its channels

  -- what happens to the channels of a link led to these
  abbrev Come : Channels → Type 0
  Come v = (list : List Occurrence) × (v ≡ (run_of A.policy list).value)

  comes_on : (v : Channels) (one : Occurrence) → Come v → Come (value_after A.policy one v)
  comes_on v one (list, is) = (list ++ one ∷ [], ap (value_after A.policy one) is ∙ sym (ap (λ (r : Run). r.value) (fold-append (run_on A.policy) new_link list (one ∷ []))))

  -- its profile was told all that happened
  all_told : (events : List ChannelEvent) (v : Channels) → Come (record v { events = events }) → Come (record v { events = [] })
  all_told [] v come = come
  all_told (event ∷ events) v come = all_told events v (comes_on (record v { events = event ∷ events }) Tells come)

  call_comes : (v : Channels) (call : Option Call) → Come v → Come (values_after A.policy v (from_call call))
  call_comes v None come = come
  call_comes v (Some call) come = comes_on v (occurrence_of call) come

  step_comes : (v : Channels) (profile : S) → Come v → Come (A.steps v profile).channels
  step_comes v profile come = subst Come (sym (asks.steps_are v profile)) (call_comes v (asks.call v profile) come)

  setup_within : (held : Held) (found : Option Setup) → setup_of held.stage ≡ found → ((setup : Setup) → setup_of held.stage ≡ Some setup → carrier_window setup.carrier ≤ window) → window_on held ≤ window
  setup_within held None is under = subst (λ (s : Option Setup). setup_window s ≤ window) (sym is) (omega arith)
  setup_within held (Some setup) is under = subst (λ (s : Option Setup). setup_window s ≤ window) (sym is) (under setup is)

  within : (v : Channels) → Come v → window_used v ≤ window
  within v (list, is) =
      let w : Channels = (run_of A.policy list).value in
      let lone : Distinct own_of w.held = (all-sound A.policy list).core.lone in
      let all : AllUnder window w.held = each_under window w.held lone
      (λ own held found. setup_within held (setup_of held.stage) refl (λ setup has. windows_within A.policy window own list setup wished (ap setup_on found ∙ has))) in
      subst (λ (u : Channels). window_used u ≤ window) (sym is) (used_under window w all)

  -- ---- what it notes

  tells_window : (events : List ChannelEvent) (v : Channels) (noted : Noted S) → (tells_each N events v noted).window ≡ noted.window
  tells_window [] v noted = refl
  tells_window (event ∷ events) v noted = tells_window events (record v { events = events }) (N.happened event (record v { events = events }) noted)

  -- no less than it noted before, and no more than it states
  pub record Goes (least : ℕ) (host : Host (Noted S)) : Type 0 where
    pub come : Come host.channels
    pub more : least ≤ host.profile.window
    pub high : host.profile.window ≤ window

  -- and no less than it holds
  pub record Fine (least : ℕ) (host : Host (Noted S)) : Type 0 where
    pub goes : Goes least host
    pub low : window_used host.channels ≤ host.profile.window

  settles_fine : (least : ℕ) (host : Host (Noted S)) → Goes least host → Fine least (settles N host)
  settles_fine least host goes =
      let under = within host.channels goes.come in
      let more = goes.more in
      let high = goes.high in
      record { goes = record { come = goes.come; more = omega arith; high = omega arith }; low = omega arith }

  told_fine : (least : ℕ) (host : Host (Noted S)) → Fine least host → Fine least (tells_events N host)
  told_fine least host fine =
      let same = tells_window host.channels.events host.channels host.profile in
      record {
        goes = record {
          come = all_told host.channels.events host.channels fine.goes.come;
          more = subst (λ (n : ℕ). least ≤ n) (sym same) fine.goes.more;
          high = subst (λ (n : ℕ). n ≤ window) (sym same) fine.goes.high;
        };
        low = subst (λ (n : ℕ). window_used host.channels ≤ n) (sym same) fine.low;
      }

  told_goes : (least : ℕ) (host : Host (Noted S)) → Goes least host → Goes least (tells_events N host)
  told_goes least host goes =
      let same = tells_window host.channels.events host.channels host.profile in
      record {
        come = all_told host.channels.events host.channels goes.come;
        more = subst (λ (n : ℕ). least ≤ n) (sym same) goes.more;
        high = subst (λ (n : ℕ). n ≤ window) (sym same) goes.high;
      }

  strides_fine : (least : ℕ) (host : Host (Noted S)) → Fine least host → Fine least (strides N (N.steps host.channels host.profile) host)
  strides_fine least host fine =
      let stride = N.steps host.channels host.profile in
      let on : Host (Noted S) = record host { channels = stride.channels; profile = stride.profile } in
      let fewer = less host.channels host.profile.end in
      let low = fine.low in
      told_fine least on (record {
        goes = record { come = step_comes host.channels host.profile.end fine.goes.come; more = fine.goes.more; high = fine.goes.high };
        low = omega (arith, fewer, low);
      })

  either_fine : (least : ℕ) (given again : Bool) (stay go on : Host (Noted S)) → Fine least stay → Fine least go → Fine least on → Fine least (if given then stay else (if again then go else on))
  either_fine least true again stay go on one two three = one
  either_fine least false true stay go on one two three = two
  either_fine least false false stay go on one two three = three

  drives_fine : (least count : ℕ) (host : Host (Noted S)) → Goes least host → Fine least (drives N count host)
  unfolding drives
  drives_fine least zero host goes = settles_fine least host goes
  drives_fine least (suc count) host goes =
      let still = settles N host in
      let on = strides N (N.steps still.channels still.profile) still in
      let settled = settles_fine least host goes in
      let strode = strides_fine least still settled in
      either_fine least (is_some (next_given host.channels)) (A.steps still.channels still.profile.end).more still (drives N count on) on settled (drives_fine least count on strode.goes) strode

  -- ---- as it hears

  handed_window : (up : Handed) (noted : Noted S) → (handed N up noted).window ≡ noted.window
  handed_window Nothing noted = refl
  handed_window (Received own psm sdu) noted = refl

  news_goes : (least : ℕ) (gifts : List Circumstance) (news : News) (host : Host (Noted S)) → host.channels.events ≡ [] → Goes least host → Goes least (hears_news N gifts news host)
  news_goes least gifts (Linked Up) host quiet goes =
      record { come = ([], ap (λ (events : List ChannelEvent). let v : Channels = record no_channels { events = events } in v) quiet); more = goes.more; high = goes.high }
  news_goes least gifts (Linked (Down reason)) host quiet goes =
      let v = link_down host.channels in
      let same = tells_window v.events v host.profile in
      record { come = ([], refl); more = subst (λ (n : ℕ). least ≤ n) (sym same) goes.more; high = subst (λ (n : ℕ). n ≤ window) (sym same) goes.high }
  news_goes least gifts (Failed status) host quiet goes = record { come = goes.come; more = goes.more; high = goes.high }
  news_goes least gifts (Heard pdu) host quiet goes =
      let same = handed_window (up (channel_of pdu) pdu host.channels) host.profile in
      let heard : Host (Noted S) = record host { channels = hears A.policy (channel_of pdu) pdu host.channels; profile = handed N (up (channel_of pdu) pdu host.channels) host.profile } in
      told_goes least heard (record {
        come = comes_on host.channels (Comes pdu) goes.come;
        more = subst (λ (n : ℕ). least ≤ n) (sym same) goes.more;
        high = subst (λ (n : ℕ). n ≤ window) (sym same) goes.high;
      })
  news_goes least gifts TimerFired host quiet goes =
      let fired : Host (Noted S) = with_channels (timed_out A.policy host.channels) host in
      let told = told_goes least fired (record { come = comes_on host.channels Fires goes.come; more = goes.more; high = goes.high }) in
      record { come = told.come; more = told.more; high = told.high }
  news_goes least gifts Cancelled host quiet goes = record { come = goes.come; more = goes.more; high = goes.high }
  news_goes least gifts (Opening name) host quiet goes = record { come = goes.come; more = goes.more; high = goes.high }

  pub hear_fine : (least : ℕ) (gifts : List Circumstance) (news : News) (host : Host (Noted S)) → host.channels.events ≡ [] → Goes least host → Fine least (hear N gifts news host)
  hear_fine least gifts news host quiet goes =
      let readied = ready N gifts host in
      drives_fine least most_steps (hears_news N gifts news readied) (news_goes least gifts news readied quiet (record { come = goes.come; more = goes.more; high = goes.high }))

  -- ---- as it says

  abbrev pub FineSaid : ℕ → Option (List ℕ × Host (Noted S)) → Type 0
  FineSaid least None = Unit {0}
  FineSaid least (Some one) = Fine least one.1

  frame_fine : (least : ℕ) (frame : Bool) (pdu : List ℕ) (after : Host (Noted S)) → Fine least after → FineSaid least (if frame then Some (pdu, after) else None)
  frame_fine least true pdu after fine = fine
  frame_fine least false pdu after fine = tt

  says_fine : (least : ℕ) (given : Option Given) (count : ℕ) (host : Host (Noted S)) → Goes least host → FineSaid least (says N given count host)
  says_fine least None count host goes = tt
  says_fine least (Some given) zero host goes = tt
  says_fine least (Some given) (suc count) host goes =
      let gave : Host (Noted S) = with_channels (after_given host.channels) host in
      let fine = drives_fine least (steps_behind count) gave (record { come = comes_on host.channels (Gives []) goes.come; more = goes.more; high = goes.high }) in
      frame_fine least (is_frame (pdu_of given)) (pdu_of given) (after_said N count host) (record { goes = record { come = fine.goes.come; more = fine.goes.more; high = fine.goes.high }; low = fine.low })

  pub next_fine : (least : ℕ) (host : Host (Noted S)) → Goes least host → FineSaid least (next N host)
  next_fine least host goes = says_fine least (next_given host.channels) host.may_say host goes
