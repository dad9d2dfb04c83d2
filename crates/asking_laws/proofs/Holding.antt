-- A client has one channel at a time: it asks for one where none counts.
use Rattle.std.proofs.Common.{◌≡◌, ℕ, List, [], ◌∷◌, ◌++◌, fold, map, Bool, true, false, cond, eqb, Option, Some, None, refl, sym, ap, subst, ◌∙◌, append_assoc, append-nil}
use Rattle.std.specs.Prelude.{find}
use Rattle.std.specs.List.{AllByRecursion}
use Rattle.std.proofs.lemmas.Bool.{eqb-true}
use Rattle.std.proofs.lemmas.List.Sums.{fold-append}
use Rattle.pair_laws.specs.bt_base.specs.declared.settings.Settings.{Settings}
use Rattle.pair_laws.specs.capture.specs.Histories.{EachAfter}
use Rattle.pair_laws.specs.capture.proofs.HistoryLaws.{each_after-both}
use Rattle.pair_laws.specs.push_model.specs.declared.course.Stage.{Stage}
use Rattle.pair_laws.specs.push_model.specs.declared.course.Stage.TheVariants as stages
use Rattle.pair_laws.specs.push_model.specs.Client.{Client}
use Rattle.pair_laws.specs.push_model.specs.Events.{is_asking_features}
use Rattle.pair_laws.specs.push_model.specs.Steps.{Step, Wait, MakeLink, AskFeatures, OpenChannel, SendSdu, CloseChannel, BreakLink, Ended, NoMemory, Stepped, steps}
use Rattle.pair_laws.specs.channel_model.specs.declared.errand.Errand.TheVariants.{Connection}
use Rattle.pair_laws.specs.channel_model.specs.Asking.{new_request, asks as asks_for}
use Rattle.pair_laws.specs.channel_model.specs.Calls.{can_connect}
use Rattle.pair_laws.specs.channel_model.specs.Changing.{has_own, held_at}
use Rattle.pair_laws.specs.channel_model.specs.Following.{with_channel}
use Rattle.pair_laws.specs.channel_model.specs.Policies.{Policy, policy}
use Rattle.pair_laws.specs.channel_model.specs.Value.{Requested, Held, Channels, no_channels}
use Rattle.pair_laws.specs.channel_model.proofs.Going.{new_held}
use Rattle.channel_laws.specs.Runs.{Occurrence, Comes, Connects, AsksFeatures, Disconnects, Sends, Gives, Fires, Tells, Run, new_link, run_on, run_of}
use Rattle.channel_laws.specs.Singly.{AsksForNoChannel}
use Rattle.channel_laws.proofs.Inviting.{held_others}
use Rattle.pair_laws.specs.host_model.specs.Clients.{ClientProfile, client_profile, fitted}
use Rattle.pair_laws.specs.host_model.specs.Endpoints.{endpoint_of, takes_sdu}
use Rattle.pair_laws.specs.host_model.specs.Pdus.{sdu_of}
use Rattle.pair_laws.specs.host_model.specs.Profiles.{Profile}
use Rattle.pair_laws.specs.host_model.specs.Shelves.{unused}
use Rattle.pair_laws.specs.host_laws.specs.Calls.{Send, Asks, from_call, values_after}
use Rattle.pair_laws.specs.host_laws.specs.Leaving.{in_use, is_off}
use Rattle.pair_laws.specs.host_laws.specs.Lives.{Span}
use Rattle.pair_laws.specs.host_laws.specs.Searching.{sent_call, closed_call, step_call, AsksAsItSteps}
use Rattle.pair_laws.specs.host_laws.specs.Woven.{Strand, Hearing, Giving, Firing, Telling, Gifting, Learning, Checking, Stepping, IsOnLink, strand_list, strand_profile, woven_list, Woven, turned, AreWoven}
use Rattle.pair_laws.specs.host_laws.proofs.Courses.{StepSo, steps_so, steps_off}
use Rattle.pair_laws.specs.host_laws.proofs.KeepingClients.{Stands, Off, Doomed, Well, strand_stands}
use Rattle.pair_laws.specs.host_laws.proofs.Links.{value_run}
use Rattle.pair_laws.specs.host_laws.proofs.Refusing.{value-more, stays-free}
use Rattle.pair_laws.specs.host_laws.proofs.StandingClients.{Lives, Ends, Idle, Waits, Told, Shut, Missed}
use Rattle.lateness_laws.specs.Once.{CountsOne}
use Rattle.asking_laws.specs.Singly.{HoldsOne, ClientsHoldOne}

-- ---- one channel, or none

-- every other endpoint is free
record HasOne (v : Channels) : Type 0 where
  at : ℕ
  free : (own : ℕ) → eqb at own ≡ false → held_at own v ≡ None

counts_one : (v : Channels) → HasOne v → CountsOne v
counts_one v one own other held also found found_too = sym (here own held found (eqb one.at own) refl) ∙ here other also found_too (eqb one.at other) refl
  where
    here : (n : ℕ) (some : Held) → held_at n v ≡ Some some → (b : Bool) → eqb one.at n ≡ b → one.at ≡ n
    here n some is true same = eqb-true one.at n same
    here n some is false apart = let never : None ≡ Some some = sym (one.free n apart) ∙ is in absurd cc

-- a stage in which nothing goes on over the link uses no channel
off_unused : (stage : Stage) (object psm : ℕ) → is_off stage ≡ true → in_use stage object ≡ Some psm → ⊥
off_unused stages.Rest object psm off used = cc
off_unused (stages.Link point) object psm off used = cc
off_unused (stages.SearchChannel point) object psm off used = cc
off_unused stages.Search object psm off used = cc
off_unused (stages.SearchEnd point) object psm off used = cc
off_unused (stages.Features point) object psm off used = cc
off_unused (stages.ObjectChannel point) object psm off used = cc
off_unused stages.Object object psm off used = cc
off_unused (stages.ObjectEnd point) object psm off used = cc
off_unused (stages.LinkEnd point) object psm off used = cc
off_unused stages.Over object psm off used = cc

module _ (settings : Settings) (asks : Asks (client_profile settings)) (as_steps : AsksAsItSteps settings asks) where
  abbrev wanted : Policy
  wanted = policy settings false

  abbrev A : Profile ClientProfile
  A = client_profile settings

  abbrev One : List Occurrence → Type 0
  One past = HasOne (run_of (policy settings false) past).value

  -- as it is at each moment, and behind all
  abbrev Throughout : (past list : List Occurrence) → Type 0
  Throughout past list = EachAfter (λ front one. CountsOne (run_of (policy settings false) front).value) past list × One (past ++ list)

  -- ---- one thing more

  none_more : (past : List Occurrence) → One past → Throughout past []
  none_more past one = (tt, subst One (sym (append-nil past)) one)

  quiet_more : (past : List Occurrence) (more : Occurrence) → AsksForNoChannel more → One past → Throughout past (more ∷ [])
  quiet_more past more quiet one = ((counts_one (run_of wanted past).value one, tt), record { at = one.at; free = λ own apart. stays-free wanted (λ psm. refl) past more quiet own (one.free own apart) })

  -- a channel is asked for where there is none
  connects : (past : List Occurrence) (psm : ℕ) → (run_of wanted past).value.held ≡ [] → One past → Throughout past (Connects psm ∷ [])
  connects past psm none one = ((counts_one v one, tt), subst HasOne (sym (value-more wanted past (Connects psm))) (by (can_connect v)))
    where
      v : Channels
      v = (run_of wanted past).value

      free : (own : ℕ) → held_at own v ≡ None
      free own = ap (find (has_own own)) none

      by : (can : Bool) → HasOne (cond can (asks_for (Connection v.next) (with_channel psm (Requested (new_request v)) v)) v)
      by true = record { at = v.next; free = λ own apart. held_others v.held (new_held psm v.next (Requested (new_request v))) own apart ∙ free own }
      by false = record { at = v.next; free = λ own apart. free own }

  -- ---- a step

  -- where none is used, and no features are asked for
  none_held : (c : Client) (run : Run) → in_use c.stage c.psm ≡ None → is_asking_features c.stage ≡ false → (is_off c.stage ≡ true → ⊥) → Stands settings asks c run → run.value.held ≡ []
  none_held c run none quiet on (Off off) = absurd (on off)
  none_held c run none quiet on (Doomed (Shut own psm reason more used why told)) = let never : None ≡ Some psm = sym none ∙ used in absurd cc
  none_held c run none quiet on (Doomed (Missed asking missed)) = let never : true ≡ false = sym asking ∙ quiet in absurd cc
  none_held c run none quiet on (Well (Lives psm asked leaving uses live) spoken) = let never : None ≡ Some psm = sym none ∙ uses.used in absurd cc
  none_held c run none quiet on (Well (Ends psm own used closing bare) spoken) = let never : None ≡ Some psm = sym none ∙ used in absurd cc
  none_held c run none quiet on (Well (Idle bare) spoken) = bare.held_is
  none_held c run none quiet on (Well (Waits asking waiting) spoken) = let never : true ≡ false = sym asking ∙ quiet in absurd cc
  none_held c run none quiet on (Well (Told asking features bare) spoken) = let never : true ≡ false = sym asking ∙ quiet in absurd cc

  step_more : (past : List Occurrence) (c d : Client) (step : Step) (v : Channels) (after : ClientProfile) → StepSo c d step → (is_off c.stage ≡ true → is_off d.stage ≡ true) → Stands settings asks c (run_of wanted past) → One past → Throughout past (from_call (step_call step v after))
  step_more past c d Wait v after so stays stands one = none_more past one
  step_more past c d MakeLink v after so stays stands one = none_more past one
  step_more past c d AskFeatures v after so stays stands one = quiet_more past AsksFeatures tt one
  step_more past c d (OpenChannel psm) v after (none, quiet, uses, may) stays stands one = connects past psm (none_held c (run_of wanted past) none quiet (λ off. off_unused d.stage d.psm psm (stays off) uses) stands) one
  step_more past c d (SendSdu psm payload) v after so stays stands one = by (endpoint_of psm after.endpoints)
    where
      on : (own : ℕ) (taken : Bool) → Throughout past (from_call (cond taken (Some (Send own (sdu_of payload))) None))
      on own true = quiet_more past (Sends own (sdu_of payload)) tt one
      on own false = none_more past one

      by : (found : Option ℕ) → Throughout past (from_call (sent_call v payload found))
      by None = none_more past one
      by (Some own) = on own (takes_sdu own (sdu_of payload) v)
  step_more past c d (CloseChannel psm) v after so stays stands one = by (endpoint_of psm after.endpoints)
    where
      by : (found : Option ℕ) → Throughout past (from_call (closed_call found))
      by None = none_more past one
      by (Some own) = quiet_more past (Disconnects own) tt one
  step_more past c d BreakLink v after so stays stands one = none_more past one
  step_more past c d (Ended outcome) v after so stays stands one = none_more past one
  step_more past c d NoMemory v after so stays stands one = none_more past one

  -- ---- all that happens

  strand_more : (strand : Strand) (past : List Occurrence) (p : ClientProfile) → Stands settings asks p.client (run_of wanted past) → One past → Throughout past (strand_list A asks strand (run_of wanted past).value p)
  strand_more (Hearing pdu) past p stands one = quiet_more past (Comes pdu) tt one
  strand_more (Giving pdu) past p stands one = quiet_more past (Gives pdu) tt one
  strand_more Firing past p stands one = quiet_more past Fires tt one
  strand_more Telling past p stands one = quiet_more past Tells tt one
  strand_more (Gifting circumstances) past p stands one = none_more past one
  strand_more (Learning circumstances news) past p stands one = none_more past one
  strand_more Checking past p stands one = none_more past one
  strand_more Stepping past p stands one =
      let v = (run_of wanted past).value in
      let now : Stepped = steps p.client (fitted p) in
      let after : ClientProfile = record p { client = now.client; parts = unused now.left p.parts } in
      subst (λ call. Throughout past (from_call call)) (sym (as_steps v p)) (step_more past p.client now.client now.step v after (steps_so p.client (fitted p)) (steps_off p.client (fitted p)) stands one)

  both : (past list more : List Occurrence) → Throughout past list → Throughout (past ++ list) more → Throughout past (list ++ more)
  both past list more first second = (each_after-both (λ front one. CountsOne (run_of wanted front).value) past list more first.0 second.0, subst One (append_assoc past list more) second.1)

  weave_more : (weave : List Strand) (past : List Occurrence) (p : ClientProfile) (v : Channels) → (run_of wanted past).value ≡ v → AllByRecursion IsOnLink weave → Stands settings asks p.client (run_of wanted past) → One past → Throughout past (woven_list A asks weave v p)
  weave_more [] past p v is on stands one = none_more past one
  weave_more (strand ∷ weave) past p v is on stands one =
      let list = strand_list A asks strand v p in
      let q = strand_profile A strand v p in
      let u = values_after wanted v list in
      let rest = woven_list A asks weave u q in
      let here : Throughout past list = subst (λ w. Throughout past (strand_list A asks strand w p)) is (strand_more strand past p stands one) in
      let now : Stands settings asks q.client (fold (run_on wanted) (run_of wanted past) list)
      = subst (λ w. Stands settings asks (strand_profile A strand w p).client (fold (run_on wanted) (run_of wanted past) (strand_list A asks strand w p))) is (strand_stands settings asks strand past p on.0 stands) in
      let value : (run_of wanted (past ++ list)).value ≡ u = ap (λ (r : Run). r.value) (fold-append (run_on wanted) new_link past list) ∙ (value_run wanted list (run_of wanted past) ∙ ap (λ w. values_after wanted w list) is) in
      both past list rest here (weave_more weave (past ++ list) q u value on.1 (subst (Stands settings asks q.client) (sym (fold-append (run_on wanted) new_link past list)) now) here.1)

  -- ---- on all links

  link_one : (list : List Occurrence) (first last : ClientProfile) → Woven A asks list first last → HoldsOne settings list
  link_one list first last woven =
      let begun : Stands settings asks first.client new_link = Well (Idle (record { held_is = refl; quiet = refl; notes_are = refl })) tt in
      let all = weave_more woven.weave [] first no_channels refl woven.on_link begun (record { at = 0; free = λ own apart. refl }) in
      subst (HoldsOne settings) (sym woven.list_is) (all.0, counts_one (run_of wanted (woven_list A asks woven.weave no_channels first)).value all.1)

  links_one : (spans : List Span) (now : List Occurrence) (first last : ClientProfile) → AreWoven A asks spans now first last → AllByRecursion (HoldsOne settings) (map (λ (span : Span). span.list) spans ++ now ∷ [])
  links_one [] now first last woven = (link_one now first last woven, tt)
  links_one (span ∷ spans) now first last (mid, circumstances, woven, later) =
      (link_one span.list first mid woven, links_one spans now (turned A circumstances span.event (values_after wanted no_channels span.list) mid) last later)

pub clients-hold_one : ClientsHoldOne
clients-hold_one settings asks talk now as_steps woven = links_one settings asks as_steps woven.so.lives.spans woven.so.lives.now (client_profile settings).first now.profile woven.woven
