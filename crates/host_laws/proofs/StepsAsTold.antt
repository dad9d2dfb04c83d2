-- A client takes a step: what it knows on its link stays so.
use Rattle.std.proofs.Common.{◌≡◌, ℕ, ◌-◌, ◌≤◌, List, [], ◌∷◌, ◌++◌, fold, Bool, true, false, cond, eqb, Option, Some, None, refl, sym, ap, subst, ◌∙◌, ◌⊎◌, inl, inr, append-nil, arith}
use Rattle.std.specs.Prelude.{find}
use Rattle.shelf_model.specs.bt_base.specs.declared.settings.Settings.{Settings}
use Rattle.shelf_model.specs.push_terms.specs.declared.outcome.Outcome.{Outcome}
use Rattle.push_laws.specs.link_talk.specs.declared.channel.Channel.{Channel}
use Rattle.push_laws.specs.link_talk.specs.declared.party.Party.{Party}
use Rattle.push_laws.specs.link_talk.specs.Sayings.{Saying}
use Rattle.shelf_model.specs.sdp_client.specs.Asking.{is_due, request_octets, after_request}
use Rattle.channel_laws.specs.talk_laws.specs.LinkAnswers.{unfinished_after, unfinished_of}
use Rattle.channel_laws.specs.channel_model.specs.declared.errand.Errand.TheVariants.{Connection}
use Rattle.channel_laws.specs.channel_model.specs.Asking.{new_request, asks as asks_for}
use Rattle.channel_laws.specs.channel_model.specs.Calls.{can_connect, connected, sends}
use Rattle.channel_laws.specs.channel_model.specs.Following.{with_channel}
use Rattle.channel_laws.specs.channel_model.specs.Policies.{Policy, policy}
use Rattle.channel_laws.specs.channel_model.specs.Value.{Requested, Held, Channels}
use Rattle.channel_laws.specs.Frames.{IsUttered}
use Rattle.channel_laws.specs.Runs.{Occurrence, Connects, Sends, said_in, Run, run_on, run_of}
use Rattle.channel_laws.specs.Taken.{taken_in}
use Rattle.channel_laws.proofs.Exchanged.{spoken_on, unread-silent, occurs_spoken}
use Rattle.channel_laws.proofs.Running.{all-sound}
use Rattle.push_laws.specs.push_model.specs.declared.course.Point.TheVariants.{Due, Asked}
use Rattle.push_laws.specs.push_model.specs.declared.course.Stage.{Stage}
use Rattle.push_laws.specs.push_model.specs.declared.course.Stage.TheVariants.{Rest, Link, SearchChannel, Search, SearchEnd, Features, ObjectChannel, Object, ObjectEnd, LinkEnd, Over}
use Rattle.push_laws.specs.push_model.specs.Client.{Client}
use Rattle.push_laws.specs.push_model.specs.Events.{is_asking_features}
use Rattle.push_laws.specs.push_model.specs.Laws.{Asks as AsksStep, Finishes, done}
use Rattle.push_laws.specs.push_model.specs.Payloads.{Payload, Octets}
use Rattle.push_laws.specs.push_model.specs.Steps as course
use Rattle.push_laws.specs.push_model.specs.Steps.{Part, Step, Wait, MakeLink, AskFeatures, OpenChannel, SendSdu, CloseChannel, BreakLink, Ended, NoMemory, Stepped, steps}
use Rattle.shelf_model.specs.host_model.specs.Clients as clients
use Rattle.shelf_model.specs.host_model.specs.Clients.{ClientProfile, client_profile, submits, takes, fitted}
use Rattle.shelf_model.specs.host_model.specs.Endpoints.{endpoint_of, takes_sdu}
use Rattle.shelf_model.specs.host_model.specs.Pdus.{sdu_of}
use Rattle.shelf_model.specs.host_model.specs.Profiles.{Stride}
use Rattle.shelf_model.specs.host_model.specs.Shelves.{unused}
use Rattle.host_laws.specs.Calls.{Call, Connect, AskFeatures as AskThem, Disconnect, Send, Asks, from_call, values_after}
use Rattle.host_laws.specs.Leaving.{in_use, is_off}
use Rattle.host_laws.specs.Searching.{sent_call, step_call, AsksAsItSteps}
use Rattle.host_laws.proofs.AsTold.{Holds, Away, Lost, Sure, carried}
use Rattle.host_laws.proofs.Courses.{steps_so, steps_off}
use Rattle.host_laws.proofs.Knowing.{Knows, knows_more, knows_deed, out_none, SoFar, JoinsIn, Joins, Seeks, joins_on, unfinished_on}
use Rattle.host_laws.proofs.Links.{value_run}
use Rattle.host_laws.proofs.Phases.{Phase, Opening, Carrying, Aside, phase, Moved, still, moved_both, IsPlainStage, stage_moves, step_moves, deed_moves}
use Rattle.host_laws.proofs.Searching.{OnSearch, Of, of_at}
use Rattle.host_laws.proofs.SearchingOn.{has_one, none_basic}
use Rattle.host_laws.proofs.SearchingSteps.{none_held}
use Rattle.host_laws.proofs.SearchingTold as seeing
use Rattle.host_laws.proofs.SearchingTold.{Sees}
use Rattle.host_laws.proofs.StandingClients.{Clean, Fatal, Shut, Missed}
use Rattle.host_laws.proofs.Taking.{Taken, Gone, Lost as LostNow, Stood, step_taken, takes_off}

-- ---- the client behind a step

-- it is as it was, or as it stepped, or the step is done
pub taken_client : (P : Client → Type 0) (step : Step) (v : Channels) (after before : ClientProfile) → P before.client → P after.client → P (done Finishes after.client) → P (takes step v after before).profile.client
taken_client P Wait v after before was now then = now
taken_client P MakeLink v after before was now then = was
taken_client P AskFeatures v after before was now then = then
taken_client P (OpenChannel psm) v after before was now then = then
taken_client P (SendSdu psm payload) v after before was now then = by (endpoint_of psm after.endpoints)
  where
    on : (own : ℕ) (b : Bool) → (let stride : Stride ClientProfile = cond b (clients.waiting (sends own (sdu_of payload) v) (record after { submitted = Some own })) (clients.waiting v after) in P stride.profile.client)
    on own true = now
    on own false = now

    by : (found : Option ℕ) → P (submits found payload v after).profile.client
    by None = now
    by (Some own) = on own (takes_sdu own (sdu_of payload) v)
taken_client P (CloseChannel psm) v after before was now then = then
taken_client P BreakLink v after before was now then = then
taken_client P (Ended outcome) v after before was now then = now
taken_client P NoMemory v after before was now then = now

-- ---- the two steps in which it asks for a channel

-- where a client stands that is to ask for a channel, or has just asked
pub asks_phase : (c : Client) (parts : List Part) (P : Stage → Type 0) → P c.stage → P (course.steps_at c.stage c parts).client.stage → P (steps c parts).client.stage
asks_phase c parts P was now = by c.failed
  where
    on : (given : Bool) → P (cond given (course.rests c parts) (course.steps_at c.stage c parts)).client.stage
    on true = was
    on false = now

    by : (failed : Bool) → P (cond failed (let one : Stepped = record { client = c; step = NoMemory; left = parts } in one) (cond c.given (course.rests c parts) (course.steps_at c.stage c parts))).client.stage
    by true = was
    by false = on c.given

-- it asks for the channel of its search
abbrev pub IsAhead : Stage → Type 0
IsAhead stage = (phase stage ≡ Aside) ⊎ (phase stage ≡ Opening)

-- it asks for the channel of its object
abbrev pub IsBehind : Stage → Type 0
IsBehind stage = (phase stage ≡ Aside) ⊎ (phase stage ≡ Carrying)

pub ahead : (c : Client) (parts : List Part) → c.stage ≡ SearchChannel Due → IsAhead (steps c parts).client.stage
ahead c parts at = asks_phase c parts IsAhead (inl (ap phase at)) (subst (λ s. IsAhead (course.steps_at s c parts).client.stage) (sym at) (inr refl))

pub data Due' (s : Stage) : Type 0 where
  AtSearch : s ≡ SearchChannel Due → Due' s
  AtObject : s ≡ ObjectChannel Due → Due' s
  Plain : IsPlainStage s → Due' s

pub due_or : (s : Stage) → Due' s
due_or (SearchChannel Due) = AtSearch refl
due_or (ObjectChannel Due) = AtObject refl
due_or (SearchChannel Asked) = Plain (λ is. cc, λ is. cc)
due_or (ObjectChannel Asked) = Plain (λ is. cc, λ is. cc)
due_or Search = Plain (λ is. cc, λ is. cc)
due_or Rest = Plain (λ is. cc, λ is. cc)
due_or (Link point) = Plain (λ is. cc, λ is. cc)
due_or (SearchEnd point) = Plain (λ is. cc, λ is. cc)
due_or (Features point) = Plain (λ is. cc, λ is. cc)
due_or Object = Plain (λ is. cc, λ is. cc)
due_or (ObjectEnd point) = Plain (λ is. cc, λ is. cc)
due_or (LinkEnd point) = Plain (λ is. cc, λ is. cc)
due_or Over = Plain (λ is. cc, λ is. cc)

-- ahead of the channel of its object it is to be told of no loss
pub none_lost : (c : Client) (v : Channels) → c.stage ≡ ObjectChannel Due → Fatal c v → ⊥
none_lost c v at (Shut own psm reason more used why told) = let never : None ≡ Some psm = sym (ap (λ s. in_use s c.psm) at) ∙ used in cc
none_lost c v at (Missed asks missed) = let never : true ≡ false = sym asks ∙ ap is_asking_features at in cc

module _ (settings : Settings) (party : Party) (asks : Asks (client_profile settings)) where
  abbrev wanted : Policy
  wanted = policy settings false

  module _ (list : List Occurrence) (p : ClientProfile) where
    abbrev run : Run
    run = run_of wanted list

    abbrev v : Channels
    v = run.value

    abbrev c : Client
    c = p.client

    abbrev after : Stepped → ClientProfile
    after one = record p { client = one.client; parts = unused one.left p.parts }

    abbrev called : Stepped → Option Call
    called one = step_call one.step v (after one)

    abbrev behind : Stepped → Run
    behind one = fold (run_on wanted) run (from_call (called one))

    abbrev stride : Stepped → Stride ClientProfile
    stride one = takes one.step v (after one) p

    abbrev it : Stepped
    it = steps c (fitted p)

    -- ---- what it knows

    -- more is said, if anything
    said_more : (call : Option Call) → (more : List Saying) × ((fold (run_on wanted) run (from_call call)).said ≡ run.said ++ more)
    said_more None = ([], sym (append-nil run.said))
    said_more (Some (Connect psm)) = (said_in wanted (Connects psm) v, refl)
    said_more (Some AskThem) = (_, refl)
    said_more (Some (Disconnect own)) = (_, refl)
    said_more (Some (Send own sdu)) = (said_in wanted (Sends own sdu) v, refl)

    knows_on : (one : Stepped) → one ≡ it → Knows party c run.said → Knows party (stride one).profile.client (behind one).said
    knows_on one is knows =
        let (more, said_is) = said_more (called one) in
        let grown : Knows party c (behind one).said = subst (Knows party c) (sym said_is) (knows_more party c run.said more knows) in
        let stepped : Knows party one.client (behind one).said = subst (λ (s : Stepped). Knows party s.client (behind one).said) (sym is) (knows_deed party (AsksStep (fitted p)) c (behind one).said tt grown) in
        taken_client (λ d. Knows party d (behind one).said) one.step v (after one) p grown stepped (knows_deed party Finishes one.client (behind one).said tt stepped)

    -- ---- where it goes

    moved_on : (one : Stepped) → Moved c one.client → Moved c (stride one).profile.client
    moved_on one moved = taken_client (Moved c) one.step v (after one) p (still c) moved (moved_both c one.client (done Finishes one.client) moved (deed_moves Finishes one.client tt))

    -- what it carries it carried, where it is to be told of a loss
    carried_on : Fatal c v → phase (stride it).profile.client.stage ≡ Carrying → phase c.stage ≡ Carrying
    carried_on fatal carrying = by (due_or c.stage)
      where
        never : IsAhead (stride it).profile.client.stage → phase c.stage ≡ Carrying
        never (inl aside) = let no : Aside ≡ Carrying = sym aside ∙ carrying in cc
        never (inr opening) = let no : Opening ≡ Carrying = sym opening ∙ carrying in cc

        by : Due' c.stage → phase c.stage ≡ Carrying
        by (AtSearch at) = never (taken_client (λ d. IsAhead d.stage) it.step v (after it) p (inl (ap phase at)) (ahead c (fitted p) at) (ahead c (fitted p) at))
        by (AtObject at) = absurd (none_lost c v at fatal)
        by (Plain plain) = carried settings party asks c (stride it).profile.client (moved_on it (step_moves c (fitted p) plain)) carrying

    -- ---- what its channel of service discovery has

    module _ (clean : Clean c v) (so : Of wanted p.endpoints p.submitted run c) (joins : Joins c run) (utters : (own : ℕ) (sdu : List ℕ) → called (steps p.client (fitted p)) ≡ Some (Send own sdu) → IsUttered (Sends own sdu) v) where
      abbrev J : Stepped → Type 0
      J one = ((own : ℕ) (sdu : List ℕ) → called one ≡ Some (Send own sdu) → IsUttered (Sends own sdu) v) → Of wanted (stride one).profile.endpoints (stride one).profile.submitted (behind one) (stride one).profile.client → Joins (stride one).profile.client (behind one)

      -- one that is new has nothing
      new_none : v.held ≡ [] → (can : Bool) (one : Held) → (cond can (asks_for (Connection v.next) (with_channel 0x0001 (Requested (new_request v)) v)) v).held ≡ one ∷ [] → (channel : Channel) → channel.own ≡ one.own → unfinished_of (spoken_on channel (run_on wanted run (Connects 0x0001)).said) ≡ []
      new_none none false one is channel own = let never : [] ≡ one ∷ [] = sym none ∙ is in cc
      new_none none true one is channel own =
          let new : Held = record { psm = 0x0001; own = v.next; stage = Requested (new_request v) } in
          let lists : new ∷ [] ≡ one ∷ [] = sym (ap (λ (hs : List Held). hs ++ new ∷ []) none) ∙ is in
          let same : new ≡ one = cc in
          let mine : channel.own ≡ v.next = own ∙ ap (λ (h : Held). h.own) (sym same) in
          let silent : spoken_on channel run.said ≡ [] = unread-silent channel run.said ((all-sound wanted list).core.read_below channel.own (subst (λ n. v.next ≤ n) (sym mine) (omega arith))) in
          ap unfinished_of (occurs_spoken wanted channel run.said v (all-sound wanted list) (none_basic settings channel.own v none) (Connects 0x0001) tt ∙ (append-nil (spoken_on channel run.said) ∙ silent))

      opens_joins : c.stage ≡ SearchChannel Due → J (course.gives (OpenChannel 0x0001) (SearchChannel Asked) c (fitted p))
      opens_joins at utters' later one is channel own = new_none (none_held settings list p clean so (ap (λ s. in_use s c.psm) at) (ap is_asking_features at)) (can_connect v) one is channel own

      -- its request is no part of an answer
      abbrev asked_step : Stepped
      asked_step = course.sends_sdu 0x0001 (Octets (request_octets c.query)) (record c { query = after_request c.query; left = c.left - 1; rest = request_octets c.query }) (fitted p)

      request_far : (own : ℕ) (sdu : List ℕ) (submitted : Option ℕ) → c.stage ≡ Search → IsUttered (Sends own sdu) v → (let then = run_on wanted run (Sends own sdu) in Of wanted p.endpoints submitted then asked_step.client → SoFar then c.query.joined)
      request_far own sdu submitted at uttered later next next_is channel mine =
          let then = run_on wanted run (Sends own sdu) in
          let (asking, one, held_is, on) = of_at wanted p.endpoints p.submitted run Search c at so in
          let (asking', other, other_is, on') = of_at wanted p.endpoints submitted then Search asked_step.client at later in
          let lists : other ∷ [] ≡ next ∷ [] = sym other_is ∙ next_is in
          let same : other ≡ next = cc in
          let ends : Some other.own ≡ Some one.own = sym on'.endpoint ∙ on.endpoint in
          let own_is : channel.own ≡ one.own = mine ∙ (ap (λ (h : Held). h.own) (sym same) ∙ some_own other.own one.own ends) in
          let has = has_one c v one (ap is_asking_features at) held_is clean in
          let psm_is : one.psm ≡ 0x0001 = ap (λ (h : Held). h.psm) (sym has.is) ∙ (has.live.psm_is ∙ some_own has.psm 0x0001 (sym has.uses.used ∙ ap (λ s. in_use s c.psm) at)) in
          unfinished_on settings list (Sends own sdu) one channel held_is psm_is own_is uttered
          ∙ (ap (unfinished_after (unfinished_of (spoken_on channel run.said))) (out_none _ (taken_in channel.own (Sends own sdu) v)) ∙ subst (λ s. JoinsIn (phase s) c.query.joined run) at joins one held_is channel own_is)
        where
          some_own : (a b : ℕ) → Some a ≡ Some b → a ≡ b
          some_own a b is = cc

      request_joins : c.stage ≡ Search → J asked_step
      request_joins at = by (endpoint_of 0x0001 p.endpoints)
        where
          req : List ℕ
          req = request_octets c.query

          J_at : Option ℕ → Type 0
          J_at found = (let gone = submits found (Octets req) v (after asked_step) in let then = fold (run_on wanted) run (from_call (sent_call v (Octets req) found)) in
              ((own : ℕ) (sdu : List ℕ) → sent_call v (Octets req) found ≡ Some (Send own sdu) → IsUttered (Sends own sdu) v) → Of wanted gone.profile.endpoints gone.profile.submitted then gone.profile.client → Joins gone.profile.client then)

          sent : ℕ → Stride ClientProfile
          sent own = clients.waiting (sends own req v) (record (after asked_step) { submitted = Some own })

          taken : (own : ℕ) (b : Bool) → (let gone : Stride ClientProfile = cond b (sent own) (clients.waiting v (after asked_step)) in let then = fold (run_on wanted) run (from_call (cond b (Some (Send own req)) None)) in
              ((other : ℕ) (sdu : List ℕ) → cond b (Some (Send own req)) None ≡ Some (Send other sdu) → IsUttered (Sends other sdu) v) → Of wanted gone.profile.endpoints gone.profile.submitted then gone.profile.client → Joins gone.profile.client then)
          taken own true = λ utters' later. subst (λ s. JoinsIn (phase s) c.query.joined (run_on wanted run (Sends own req))) (sym at) (request_far own req (Some own) at (utters' own req refl) later)
          taken own false = λ utters' later. joins

          by : (found : Option ℕ) → J_at found
          by None = λ utters' later. joins
          by (Some own) = taken own (takes_sdu own req v)

      -- in other stages nothing is joined
      apart : (stage : Stage) → c.stage ≡ stage → (Seeks (phase stage) → ⊥) → (one : Stepped) → Moved c one.client → Joins (stride one).profile.client (behind one)
      apart stage at none one moved = joins_on c (stride one).profile.client run (behind one) (moved_on one moved) (λ seeks. absurd (none (subst (λ s. Seeks (phase s)) at seeks))) joins

      over_joins : (cause : Option Outcome) → J (course.tells_end cause c (fitted p))
      over_joins None utters' later = joins
      over_joins (Some outcome) utters' later = tt

      stage_joins : (stage : Stage) → c.stage ≡ stage → J (course.steps_at stage c (fitted p))
      stage_joins Rest at = λ utters' later. joins
      stage_joins (Link Due) at = λ utters' later. joins
      stage_joins (Link Asked) at = λ utters' later. joins
      stage_joins (SearchChannel Due) at = opens_joins at
      stage_joins (SearchChannel Asked) at = λ utters' later. joins
      stage_joins Search at = by (is_due c.query)
        where
          by : (due : Bool) → J (cond due asked_step (course.rests c (fitted p)))
          by true = request_joins at
          by false = λ utters' later. joins
      stage_joins (SearchEnd Due) at = λ utters' later. tt
      stage_joins (SearchEnd Asked) at = λ utters' later. joins
      stage_joins (Features Due) at = λ utters' later. tt
      stage_joins (Features Asked) at = λ utters' later. joins
      stage_joins (ObjectChannel Due) at = λ utters' later. tt
      stage_joins (ObjectChannel Asked) at = λ utters' later. joins
      stage_joins Object at = λ utters' later. apart Object at (λ seeks. seeks) (course.steps_object c.transport c (fitted p)) (stage_moves c (fitted p) Object at (λ is. cc, λ is. cc))
      stage_joins (ObjectEnd Due) at = λ utters' later. tt
      stage_joins (ObjectEnd Asked) at = λ utters' later. joins
      stage_joins (LinkEnd Due) at = λ utters' later. tt
      stage_joins (LinkEnd Asked) at = λ utters' later. joins
      stage_joins Over at = over_joins c.cause

      all_joins : J it
      all_joins = by c.failed
        where
          on : (given : Bool) → J (cond given (course.rests c (fitted p)) (course.steps_at c.stage c (fitted p)))
          on true = λ utters' later. joins
          on false = stage_joins c.stage refl

          lacking : Stepped
          lacking = record { client = c; step = NoMemory; left = fitted p }

          by : (failed : Bool) → J (cond failed lacking (cond c.given (course.rests c (fitted p)) (course.steps_at c.stage c (fitted p))))
          by true = λ utters' later. joins
          by false = on c.given

    -- ---- its step

    module _ (utters : (own : ℕ) (sdu : List ℕ) → called (steps p.client (fitted p)) ≡ Some (Send own sdu) → IsUttered (Sends own sdu) v) where
      value_is : (stride it).channels ≡ values_after wanted v (from_call (called it)) → (stride it).channels ≡ (behind it).value
      value_is same = same ∙ sym (value_run wanted (from_call (called it)) run)

      lost_on : (stride it).channels ≡ (behind it).value → Fatal c v → (phase c.stage ≡ Carrying → Knows party c run.said) → Holds settings party asks (stride it).profile (behind it)
      lost_on value fatal knows = on (step_taken {S = ⊥} it.step v (after it) p (steps_so c (fitted p)) (inr fatal))
        where
          on : Taken ⊥ (stride it).profile.client v (stride it).channels → Holds settings party asks (stride it).profile (behind it)
          on (Gone off) = Away off
          on (LostNow now) = Lost (subst (Fatal (stride it).profile.client) value now) (λ carrying. knows_on it refl (knows (carried_on fatal carrying)))
          on (Stood never now same) = absurd never

      stepped : (stride it).channels ≡ (behind it).value → Sees settings p run → Sees settings (stride it).profile (behind it) → Holds settings party asks p run → Holds settings party asks (stride it).profile (behind it)
      stepped value sees sees' (Away off) = Away (takes_off it.step v (after it) p (steps_off c (fitted p) off) off)
      stepped value sees sees' (Lost fatal knows) = lost_on value fatal knows
      stepped value (seeing.Off off) sees' (Sure knows joins) = Away (takes_off it.step v (after it) p (steps_off c (fitted p) off) off)
      stepped value (seeing.Doomed fatal) sees' (Sure knows joins) = lost_on value fatal (λ carrying. knows)
      stepped value (seeing.Well clean so) (seeing.Off off) (Sure knows joins) = Away off
      stepped value (seeing.Well clean so) (seeing.Doomed fatal) (Sure knows joins) = Lost fatal (λ carrying. knows_on it refl knows)
      stepped value (seeing.Well clean so) (seeing.Well now later) (Sure knows joins) = Sure (knows_on it refl knows) (all_joins clean so joins utters utters later)

  pub stepping : AsksAsItSteps settings asks → (list : List Occurrence) (p : ClientProfile) → (let run = run_of (policy settings false) list in let q = ((client_profile settings).steps run.value p).profile in let then = fold (run_on (policy settings false)) run (from_call (asks.call run.value p)) in
      ((own : ℕ) (sdu : List ℕ) → asks.call run.value p ≡ Some (Send own sdu) → IsUttered (Sends own sdu) run.value) → Sees settings p run → Sees settings q then → Holds settings party asks p run → Holds settings party asks q then)
  stepping as_steps list p utters sees sees' holds =
      let call_is = as_steps (run_of wanted list).value p in
      let q = (stride list p (it list p)).profile in
      let run = run_of wanted list in
      subst (λ call. Holds settings party asks q (fold (run_on wanted) run (from_call call))) (sym call_is)
      (stepped list p (λ own sdu sent. utters own sdu (call_is ∙ sent)) (value_is list p (λ own sdu sent. utters own sdu (call_is ∙ sent)) (asks.steps_are run.value p ∙ ap (λ call. values_after wanted run.value (from_call call)) call_is)) sees
      (subst (λ call. Sees settings q (fold (run_on wanted) run (from_call call))) call_is sees') holds)
