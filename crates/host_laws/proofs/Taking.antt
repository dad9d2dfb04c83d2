-- A client takes a step: it asks its channels for what it will, and stands with them as before, or is to be told the end of its channel.
use Rattle.std.proofs.Common.{◌≡◌, ℕ, List, [], ◌∷◌, ◌++◌, Bool, true, false, cond, Option, Some, None, refl, sym, ap, ◌∙◌, ◌⊎◌, inl, inr}
use Rattle.std.specs.Prelude.{find, is_some}
use Rattle.channel_laws.specs.channel_model.specs.declared.errand.Errand.TheVariants as errands
use Rattle.channel_laws.specs.channel_model.specs.declared.event.ChannelEvent.{ChannelEvent}
use Rattle.channel_laws.specs.channel_model.specs.declared.event.ChannelEvent.TheVariants.{Closed}
use Rattle.channel_laws.specs.channel_model.specs.declared.event.CloseReason.TheVariants.{OwnClosed}
use Rattle.channel_laws.specs.channel_model.specs.Value.{Setup, Stage, Requested, Connected, Leaving, Closing, Crossed, Held, Channels}
use Rattle.channel_laws.specs.channel_model.specs.Changing.{has_own, held_at, setup_of}
use Rattle.channel_laws.specs.channel_model.specs.Asking.{new_request, asks}
use Rattle.channel_laws.specs.channel_model.specs.Closing.{closes_at}
use Rattle.channel_laws.specs.channel_model.specs.Following.{with_channel}
use Rattle.channel_laws.specs.channel_model.specs.Calls.{can_connect, connected, asks_features, disconnected_at, disconnected_held, sends_on, sends_held, sends}
use Rattle.channel_laws.specs.channel_model.proofs.Walking.{found-own, append_none}
use Rattle.push_laws.specs.push_model.specs.declared.course.Stage.TheVariants as stages
use Rattle.push_laws.specs.push_model.specs.declared.course.Stage.{Stage as Course}
use Rattle.push_laws.specs.push_model.specs.Client.{Client}
use Rattle.push_laws.specs.push_model.specs.Events.{is_asking_features}
use Rattle.push_laws.specs.push_model.specs.Payloads.{Payload}
use Rattle.push_laws.specs.push_model.specs.Steps.{Step, Wait, MakeLink, AskFeatures, OpenChannel, SendSdu, CloseChannel, BreakLink, Ended, NoMemory}
use Rattle.shelf_model.specs.host_model.specs.Endpoints.{endpoint_of, takes_sdu}
use Rattle.shelf_model.specs.host_model.specs.Pdus.{sdu_of}
use Rattle.shelf_model.specs.host_model.specs.Profiles.{Stride}
use Rattle.shelf_model.specs.host_model.specs.Clients as clients
use Rattle.shelf_model.specs.host_model.specs.Clients.{ClientProfile, submits, closes, takes}
use Rattle.host_laws.specs.Leaving.{is_off, in_use, is_closing}
use Rattle.host_laws.proofs.Changes.{kind, Fine, sends-fine}
use Rattle.host_laws.proofs.Courses.{StepSo}
use Rattle.host_laws.proofs.Faces.{ends_link, may_ask, Goes, same}
use Rattle.host_laws.proofs.OneChannel.{notes_with, lives_by, IsLive, IsBare, alone, goes_on}
use Rattle.host_laws.proofs.StandingClients.{Uses, Clean, Lives, Ends, Idle, Waits, Told, Fatal, Shut, Missed, KeepsMost, most, clean_keeps, fatal_keeps, fatal_more, fatal-fine, fine_clean}

-- behind the step it is off, or is to be told the end of its channel, or nothing more is to be told
-- and then `S` is so as before
pub data Taken (S : Type 0) (e : Client) (v w : Channels) : Type 0 where
  Gone : is_off e.stage ≡ true → Taken S e v w
  Lost : Fatal e w → Taken S e v w
  Stood : S → Clean e w → w.events ≡ v.events → Taken S e v w

-- as it stood before
abbrev pub Standing : Type 0 → Client → Channels → Type 0
Standing S c v = (S × Clean c v) ⊎ Fatal c v

-- ---- its channels change, and nothing is told

taken_by : {S : Type 0} (c e : Client) (v w : Channels) → Goes c e → ((K : Channels → Type 0) → Fine K → K v → K w) → w.events ≡ v.events → Standing S c v → Taken S e v w
taken_by c e v w (inl off) change same_events stood = Gone off
taken_by c e v w (inr keeps) change same_events (inr fatal) = Lost (fatal_keeps c e w (most c e keeps) (change (Fatal c) (fatal-fine c) fatal))
taken_by {S} c e v w (inr keeps) change same_events (inl (said, clean)) = by (fine_clean c v w change clean)
  where
    by : Clean c w ⊎ Fatal c w → Taken S e v w
    by (inl now) = Stood said (clean_keeps c e w keeps now) same_events
    by (inr fatal) = Lost (fatal_keeps c e w (most c e keeps) fatal)

rests : {S : Type 0} (c e : Client) (v : Channels) → Goes c e → Standing S c v → Taken S e v v
rests c e v goes stood = taken_by c e v v goes (λ K fine k. k) refl stood

-- ---- an SDU is sent

sends_events : (own : ℕ) (sdu : List ℕ) (v : Channels) → (sends own sdu v).events ≡ v.events
sends_events own sdu v = by (held_at own v)
  where
    on : (found : Option Setup) (held : Held) → (sends_on found sdu held v).events ≡ v.events
    on None held = refl
    on (Some setup) held = refl

    by : (found : Option Held) → (sends_held found sdu v).events ≡ v.events
    by None = refl
    by (Some held) = on (setup_of held.stage) held

submits_taken : {S : Type 0} (own : Option ℕ) (payload : Payload) (v : Channels) (c : Client) (after : ClientProfile) → Goes c after.client → Standing S c v → (let stride = submits own payload v after in Taken S stride.profile.client v stride.channels)
submits_taken None payload v c after goes stood = rests c after.client v goes stood
submits_taken {S} (Some own) payload v c after goes stood = by (takes_sdu own (sdu_of payload) v)
  where
    sent : Stride ClientProfile
    sent = clients.waiting (sends own (sdu_of payload) v) (record after { submitted = Some own })

    by : (b : Bool) → (let stride : Stride ClientProfile = cond b sent (clients.waiting v after) in Taken S stride.profile.client v stride.channels)
    by true = taken_by c after.client v (sends own (sdu_of payload) v) goes (λ K fine k. sends-fine K fine own (sdu_of payload) v k) (sends_events own (sdu_of payload) v) stood
    by false = rests c after.client v goes stood

-- ---- a channel is asked for, or features

idle_of : {S : Type 0} (c : Client) (v : Channels) → in_use c.stage c.psm ≡ None → is_asking_features c.stage ≡ false → Standing S c v → S × IsBare [] v
idle_of c v none quiet (inl (said, Lives psm asked leaving uses live)) = let never : None ≡ Some psm = sym none ∙ uses.used in absurd cc
idle_of c v none quiet (inl (said, Ends psm own used closes' bare)) = let never : None ≡ Some psm = sym none ∙ used in absurd cc
idle_of c v none quiet (inl (said, Idle bare)) = (said, bare)
idle_of c v none quiet (inl (said, Waits asks' waits')) = let never : true ≡ false = sym asks' ∙ quiet in absurd cc
idle_of c v none quiet (inl (said, Told asks' features bare)) = let never : true ≡ false = sym asks' ∙ quiet in absurd cc
idle_of c v none quiet (inr (Shut own psm reason more used why told)) = let never : None ≡ Some psm = sym none ∙ used in absurd cc
idle_of c v none quiet (inr (Missed asks' missed)) = let never : true ≡ false = sym asks' ∙ quiet in absurd cc

connects_taken : {S : Type 0} (psm : ℕ) (v : Channels) (e : Client) → in_use e.stage e.psm ≡ Some psm → may_ask e.stage (is_some e.cause) ≡ true → S × IsBare [] v → Taken S e v (connected psm v)
connects_taken {S} psm v e used may (said, bare) = by (can_connect v)
  where
    new : Held
    new = record { psm = psm; own = v.next; stage = Requested (new_request v) }

    by : (b : Bool) → Taken S e v (cond b (asks (errands.Connection v.next) (with_channel psm (Requested (new_request v)) v)) v)
    by true = Stood said (Lives psm true false (record { used = used; may = λ m. may; closes = λ m. cc }) (record {
      one = new;
      held_is = ap (λ (hs : List Held). hs ++ new ∷ []) bare.held_is;
      psm_is = refl;
      stage_is = refl;
      quiet = bare.quiet;
      none = bare.notes_are;
    })) refl
    by false = Stood said (Idle bare) refl

asks_taken : {S : Type 0} (v : Channels) (e : Client) → is_asking_features e.stage ≡ true → S × IsBare [] v → Taken S e v (asks_features v)
asks_taken {S} v e asks' (said, bare) = by (is_some v.features) refl
  where
    by : (b : Bool) → is_some v.features ≡ b → Taken S e v (cond b v (asks errands.Features (record v { features = Some (new_request v) })))
    by true is = let never : true ≡ false = sym is ∙ bare.quiet in absurd cc
    by false is = Stood said (Waits asks' (record { held_is = bare.held_is; asks = refl; none = bare.notes_are })) refl

-- ---- the end of its channel is asked for

ends_may : (stage : Course) (cause : Bool) → ends_link stage cause ≡ true → may_ask stage cause ≡ true
ends_may stages.Rest cause is = cc
ends_may (stages.Link point) cause is = cc
ends_may (stages.SearchChannel point) cause is = cc
ends_may stages.Search cause is = cc
ends_may (stages.SearchEnd point) cause is = is
ends_may (stages.Features point) cause is = cc
ends_may (stages.ObjectChannel point) cause is = cc
ends_may stages.Object cause is = cc
ends_may (stages.ObjectEnd point) cause is = refl
ends_may (stages.LinkEnd point) cause is = cc
ends_may stages.Over cause is = cc

lives_more : (asked leaving : Bool) (stage : Stage) → lives_by asked leaving (kind stage) ≡ true → lives_by asked true (kind stage) ≡ true
lives_more asked leaving (Requested request) is = is
lives_more asked leaving (Connected peer setup) is = refl
lives_more asked leaving (Leaving peer setup request) is = refl
lives_more asked leaving (Closing peer request checked) is = cc
lives_more asked leaving (Crossed peer request) is = cc

module _ (S : Type 0) (c e : Client) (v : Channels) (same_use : in_use e.stage e.psm ≡ in_use c.stage c.psm) (closing : is_closing e.stage ≡ true) (may : may_ask c.stage (is_some c.cause) ≡ true → ends_link e.stage (is_some e.cause) ≡ true) (quiet : is_asking_features c.stage ≡ false) where
  keeps : KeepsMost c e
  keeps = record {
    used = same_use;
    closes = λ is. closing;
    asks = λ is. let never : true ≡ false = sym is ∙ quiet in cc;
    ends = λ is. may (ends_may c.stage (is_some c.cause) is);
  }

  uses_still : (psm : ℕ) (asked leaving leaves : Bool) → Uses c psm asked leaving → Uses e psm asked leaves
  uses_still psm asked leaving leaves uses = record { used = same_use ∙ uses.used; may = λ is. ends_may e.stage (is_some e.cause) (may (uses.may is)); closes = λ is. closing }

  -- nothing happens to its channels
  stays : Standing S c v → Taken S e v v
  stays (inr fatal) = Lost (fatal_keeps c e v keeps fatal)
  stays (inl (said, Lives psm asked leaving uses live)) = Stood said (Lives psm asked leaving (uses_still psm asked leaving leaving uses) live) refl
  stays (inl (said, Ends psm own used closes' bare)) = Stood said (Ends psm own (same_use ∙ used) closing bare) refl
  stays (inl (said, Idle bare)) = Stood said (Idle bare) refl
  stays (inl (said, Waits asks' waits')) = let never : true ≡ false = sym asks' ∙ quiet in absurd cc
  stays (inl (said, Told asks' features bare)) = let never : true ≡ false = sym asks' ∙ quiet in absurd cc

  lives_taken : S → (psm : ℕ) (asked leaving : Bool) → Uses c psm asked leaving → (live : IsLive psm asked leaving v) → (held : Held) → live.one ≡ held → find (has_own held.own) v.held ≡ Some held → (stage : Stage) → held.stage ≡ stage → Taken S e v (disconnected_at stage held v)
  lives_taken said psm asked leaving uses live held is at (Requested request) at_stage =
      let w : Channels = closes_at held.stage OwnClosed held v in
      let told : w.events ≡ v.events ++ Closed held.own held.psm OwnClosed ∷ [] = ap (λ stage. (closes_at stage OwnClosed held v).events) at_stage in
      Lost (Shut held.own psm OwnClosed [] (same_use ∙ uses.used) (inr (may (uses.may (sym (ap (λ stage. lives_by asked leaving (kind stage)) (ap (λ (h : Held). h.stage) is ∙ at_stage)) ∙ live.stage_is)), refl))
      (notes_with v w (Closed held.own held.psm OwnClosed ∷ []) [] told live.none ∙ ap (λ n. Closed held.own n OwnClosed ∷ []) (ap (λ (h : Held). h.psm) (sym is) ∙ live.psm_is)))
  lives_taken said psm asked leaving uses live held is at (Connected peer setup) at_stage =
      let w : Channels = disconnected_at (Connected peer setup) held v in
      let more : IsLive psm asked true v = record { one = live.one; held_is = live.held_is; psm_is = live.psm_is; stage_is = lives_more asked leaving live.one.stage live.stage_is; quiet = live.quiet; none = live.none } in
      Stood said (Lives psm asked true (uses_still psm asked leaving true uses) (goes_on psm asked true v w held (Leaving peer setup (new_request v)) at refl refl refl refl more)) refl
  lives_taken said psm asked leaving uses live held is at (Leaving peer setup request) at_stage = stays (inl (said, Lives psm asked leaving uses live))
  lives_taken said psm asked leaving uses live held is at (Closing peer request checked) at_stage = stays (inl (said, Lives psm asked leaving uses live))
  lives_taken said psm asked leaving uses live held is at (Crossed peer request) at_stage = stays (inl (said, Lives psm asked leaving uses live))

  fatal_taken : (found : Option Held) → Fatal c v → Taken S e v (disconnected_held found v)
  fatal_taken None fatal = Lost (fatal_keeps c e v keeps fatal)
  fatal_taken (Some held) fatal = by held.stage
    where
      more : (w : Channels) (list : List ChannelEvent) → w.events ≡ v.events ++ list → Taken S e v w
      more w list is = Lost (fatal_keeps c e w keeps (fatal_more c v w list is fatal))

      own : (stage : Stage) → Taken S e v (closes_at stage OwnClosed held v)
      own (Requested request) = more (closes_at (Requested request) OwnClosed held v) (Closed held.own held.psm OwnClosed ∷ []) refl
      own (Connected peer setup) = more (closes_at (Connected peer setup) OwnClosed held v) (Closed held.own held.psm OwnClosed ∷ []) refl
      own (Leaving peer setup request) = more (closes_at (Leaving peer setup request) OwnClosed held v) (Closed held.own held.psm OwnClosed ∷ []) refl
      own (Closing peer request checked) = more v [] (append_none v.events)
      own (Crossed peer request) = more v [] (append_none v.events)

      by : (stage : Stage) → Taken S e v (disconnected_at stage held v)
      by (Requested request) = own held.stage
      by (Connected peer setup) = more (disconnected_at (Connected peer setup) held v) [] (append_none v.events)
      by (Leaving peer setup request) = more v [] (append_none v.events)
      by (Closing peer request checked) = more v [] (append_none v.events)
      by (Crossed peer request) = more v [] (append_none v.events)

  found_taken : (own : ℕ) (found : Option Held) → held_at own v ≡ found → Standing S c v → Taken S e v (disconnected_held found v)
  found_taken own None is stood = stays stood
  found_taken own (Some held) is (inr fatal) = fatal_taken (Some held) fatal
  found_taken own (Some held) is (inl (said, Lives psm asked leaving uses live)) =
      let at = found-own own v held is in lives_taken said psm asked leaving uses live held (alone v live.one held live.held_is at) at held.stage refl
  found_taken own (Some held) is (inl (said, Ends psm other used closes' bare)) = let never : None ≡ Some held = ap (find (has_own own)) (sym bare.held_is) ∙ is in absurd cc
  found_taken own (Some held) is (inl (said, Idle bare)) = let never : None ≡ Some held = ap (find (has_own own)) (sym bare.held_is) ∙ is in absurd cc
  found_taken own (Some held) is (inl (said, Waits asks' waits')) = let never : true ≡ false = sym asks' ∙ quiet in absurd cc
  found_taken own (Some held) is (inl (said, Told asks' features bare)) = let never : true ≡ false = sym asks' ∙ quiet in absurd cc

  pub closes_taken : (own : Option ℕ) → Standing S c v → Taken S e v (closes own v)
  closes_taken None stood = stays stood
  closes_taken (Some own) stood = found_taken own (held_at own v) refl stood

-- ---- its step

pub step_taken : {S : Type 0} (step : Step) (v : Channels) (after before : ClientProfile) → StepSo before.client after.client step → Standing S before.client v → (let stride = takes step v after before in Taken S stride.profile.client v stride.channels)
step_taken Wait v after before so stood = rests before.client after.client v so stood
step_taken MakeLink v after before so stood = rests before.client before.client v (same before.client) stood
step_taken AskFeatures v after before (none, quiet, asks') stood = asks_taken v (clients.done after).client asks' (idle_of before.client v none quiet stood)
step_taken (OpenChannel psm) v after before (none, quiet, used, may) stood = connects_taken psm v (takes (OpenChannel psm) v after before).profile.client used may (idle_of before.client v none quiet stood)
step_taken (SendSdu psm payload) v after before so stood = submits_taken (endpoint_of psm after.endpoints) payload v before.client after so stood
step_taken {S} (CloseChannel psm) v after before (same_use, closing, may, quiet) stood = closes_taken S before.client (clients.done after).client v same_use closing may quiet (endpoint_of psm after.endpoints) stood
step_taken BreakLink v after before so stood = Gone so
step_taken (Ended outcome) v after before so stood = Gone so
step_taken NoMemory v after before so stood = rests before.client after.client v so stood

submits_off : (own : Option ℕ) (payload : Payload) (v : Channels) (after : ClientProfile) → is_off after.client.stage ≡ true → is_off (submits own payload v after).profile.client.stage ≡ true
submits_off None payload v after off = off
submits_off (Some own) payload v after off = by (takes_sdu own (sdu_of payload) v)
  where
    by : (b : Bool) → (let stride : Stride ClientProfile = cond b (clients.waiting (sends own (sdu_of payload) v) (record after { submitted = Some own })) (clients.waiting v after) in is_off stride.profile.client.stage ≡ true)
    by true = off
    by false = off

pub takes_off : (step : Step) (v : Channels) (after before : ClientProfile) → is_off after.client.stage ≡ true → is_off before.client.stage ≡ true → is_off (takes step v after before).profile.client.stage ≡ true
takes_off Wait v after before off was = off
takes_off MakeLink v after before off was = was
takes_off AskFeatures v after before off was = off
takes_off (OpenChannel psm) v after before off was = off
takes_off (SendSdu psm payload) v after before off was = submits_off (endpoint_of psm after.endpoints) payload v after off
takes_off (CloseChannel psm) v after before off was = off
takes_off BreakLink v after before off was = off
takes_off (Ended outcome) v after before off was = off
takes_off NoMemory v after before off was = off
