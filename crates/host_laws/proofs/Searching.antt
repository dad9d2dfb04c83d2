-- What a client holds of its search, stage by stage: what its own talk says of its channel of service discovery, and that the channel of the
-- object is another one.
use Rattle.std.proofs.Common.{◌≡◌, ℕ, List, [], ◌∷◌, fold, Bool, true, false, cond, eqb, not, ◌&&◌, ◌||◌, bit_and, Option, Some, None, refl, sym, ap, subst, ◌∙◌, ◌⊎◌, inl, inr}
use Rattle.std.proofs.lemmas.Bool.{and_parts}
use Rattle.shelf_model.specs.bt_base.specs.declared.settings.Transport.{Transport}
use Rattle.shelf_model.specs.bt_base.specs.declared.settings.Transport.TheVariants.{L2cap, Rfcomm}
use Rattle.shelf_model.specs.push_terms.specs.declared.outcome.Outcome.{Outcome}
use Rattle.shelf_model.specs.push_terms.specs.declared.outcome.Outcome.TheVariants as outcomes
use Rattle.shelf_model.specs.sdp_elements.specs.declared.target.Target.{Target}
use Rattle.shelf_model.specs.sdp_elements.specs.Targets.{is_service_psm, is_server_channel}
use Rattle.shelf_model.specs.sdp_client.specs.declared.reason.Found.{Found}
use Rattle.shelf_model.specs.sdp_client.specs.declared.reason.Found.TheVariants.{More, Service, NoService, Refused}
use Rattle.shelf_model.specs.sdp_client.specs.Asking.{Asking, begun, is_due, after_resend}
use Rattle.shelf_model.specs.sdp_client.specs.Views.{is_awaiting}
use Rattle.push_laws.specs.link_talk.specs.declared.channel.Channel.{Channel}
use Rattle.push_laws.specs.link_talk.specs.Sayings.{Saying}
use Rattle.push_laws.specs.link_talk.specs.ServiceAnswers.{waiting_after}
use Rattle.channel_laws.specs.channel_model.specs.Policies.{Policy}
use Rattle.channel_laws.specs.channel_model.specs.Value.{Held}
use Rattle.channel_laws.specs.channel_model.specs.Value as channel
use Rattle.channel_laws.specs.Runs.{Run}
use Rattle.channel_laws.proofs.Exchanged.{spoken_on}
use Rattle.channel_laws.proofs.Keeping.{StageKeeps}
use Rattle.channel_laws.proofs.Ready.{Ready, IsReady}
use Rattle.push_laws.specs.push_model.specs.declared.course.Point.TheVariants.{Due, Asked}
use Rattle.push_laws.specs.push_model.specs.declared.course.Stage.{Stage}
use Rattle.push_laws.specs.push_model.specs.declared.course.Stage.TheVariants.{Rest, Link, SearchChannel, Search, SearchEnd, Features, ObjectChannel, Object, ObjectEnd, LinkEnd, Over}
use Rattle.push_laws.specs.push_model.specs.Causes.{Ending, InOrder, AtOnce, ending_of, cause_of_query}
use Rattle.push_laws.specs.push_model.specs.Client.{Client, in_order, stage_after, ends_by, ends, ends_if}
use Rattle.push_laws.specs.push_model.specs.Events as events
use Rattle.push_laws.specs.push_model.specs.Events.{is_search, armed, kept_of, found_psm, found_channel, found_way, finds, hears_news}
use Rattle.shelf_model.specs.host_model.specs.Endpoints.{Endpoint, endpoint_of}
use Rattle.host_laws.specs.Leaving.{in_use, is_off}
use Rattle.host_laws.proofs.Changes.{kind}
use Rattle.host_laws.proofs.Faces.{off_at_once}
use Rattle.host_laws.proofs.Querying.{awaited, none_awaited, IsAsking, again_asks, again_awaited}

-- ---- what its talk says

abbrev pub waiting_on : Channel → List Saying → Option ℕ
waiting_on channel said = fold waiting_after None (spoken_on channel said)

-- of the channel of an endpoint, where it is asked
abbrev pub WaitsAt : (known : Bool) (own : ℕ) → List Saying → Option ℕ → Type 0
WaitsAt known own said waits = known ≡ true → (channel : Channel) → channel.own ≡ own → waiting_on channel said ≡ waits

-- its channel is the one that it asked for, what it had for it went there, and so much of its talk waits
pub record OnSearch (wanted : Policy) (endpoints : List Endpoint) (submitted : Option ℕ) (opens frees known : Bool) (waits : Option ℕ) (run : Run) (one : Held) : Type 0 where
  pub endpoint : endpoint_of 0x0001 endpoints ≡ Some one.own
  pub submits : (own : ℕ) → submitted ≡ Some own → own ≡ one.own
  pub ready : IsReady wanted opens frees one
  pub waits_so : WaitsAt known one.own run.said waits
  -- where it is open, no step is under way but that of an SDU that it has
  pub settled : opens ≡ true → submitted ≡ None → frees ≡ true

abbrev pub Only : Run → (Held → Type 0) → Type 0
Only run P = (one : Held) → run.value.held ≡ one ∷ [] → P one

-- where it goes on it has found a channel that is not this one
abbrev pub IsNamed : Option Outcome → ℕ → Type 0
IsNamed None psm = eqb psm 0x0001 ≡ false
IsNamed (Some outcome) psm = Unit {0}

abbrev pub SeeksBy : Policy → Stage → Asking → Option Outcome → (psm : ℕ) → (given : Bool) → List Endpoint → (submitted : Option ℕ) → Run → Type 0
SeeksBy wanted (SearchChannel Due) query cause psm given endpoints submitted run = (query ≡ begun) × (submitted ≡ None)
SeeksBy wanted (SearchChannel Asked) query cause psm given endpoints submitted run = (query ≡ begun) × (submitted ≡ None) × (given ≡ false) × Only run (OnSearch wanted endpoints submitted false true true None run)
SeeksBy wanted Search query cause psm given endpoints submitted run = IsAsking query × (one : Held) × (run.value.held ≡ one ∷ []) × OnSearch wanted endpoints submitted true (not given) true (awaited query) run one
SeeksBy wanted (SearchEnd Due) query cause psm given endpoints submitted run = IsNamed cause psm × Only run (OnSearch wanted endpoints submitted false false (not (is_awaiting query)) None run)
SeeksBy wanted (SearchEnd Asked) query cause psm given endpoints submitted run = IsNamed cause psm × Only run (λ one. kind one.stage ≡ 2)
SeeksBy wanted (Features point) query cause psm given endpoints submitted run = eqb psm 0x0001 ≡ false
SeeksBy wanted (ObjectChannel point) query cause psm given endpoints submitted run = eqb psm 0x0001 ≡ false
SeeksBy wanted Object query cause psm given endpoints submitted run = eqb psm 0x0001 ≡ false
SeeksBy wanted (ObjectEnd point) query cause psm given endpoints submitted run = eqb psm 0x0001 ≡ false
SeeksBy wanted Rest query cause psm given endpoints submitted run = Unit {0}
SeeksBy wanted (Link point) query cause psm given endpoints submitted run = Unit {0}
SeeksBy wanted (LinkEnd point) query cause psm given endpoints submitted run = Unit {0}
SeeksBy wanted Over query cause psm given endpoints submitted run = Unit {0}

module _ (wanted : Policy) (endpoints : List Endpoint) (submitted : Option ℕ) (run : Run) where
  abbrev pub Of : Client → Type 0
  Of c = SeeksBy wanted c.stage c.query c.cause c.psm c.given endpoints submitted run

  -- it is off, or holds so of its search
  abbrev pub Finds : Client → Type 0
  Finds c = (is_off c.stage ≡ true) ⊎ Of c

  abbrev pub At : Stage → Client → Type 0
  At stage c = SeeksBy wanted stage c.query c.cause c.psm c.given endpoints submitted run

  pub at_of : (stage : Stage) (c : Client) → c.stage ≡ stage → At stage c → Of c
  at_of stage c at so = subst (λ (s : Stage). At s c) (sym at) so

  pub of_at : (stage : Stage) (c : Client) → c.stage ≡ stage → Of c → At stage c
  of_at stage c at so = subst (λ (s : Stage). At s c) at so

  -- ---- an end

  -- less is asked of its channel
  ready_less : (opens frees : Bool) (one : Held) → IsReady wanted opens frees one → IsReady wanted false false one
  ready_less opens frees one ready = by one.stage
    where
      by : (stage : channel.Stage) → StageKeeps (Ready false false) (wanted.wish one.psm) stage
      by (channel.Requested request) = (λ is. cc, λ is. cc)
      by (channel.Connected peer setup) = (λ is. cc, λ is. cc)
      by (channel.Leaving peer setup request) = (λ is. cc, λ is. cc)
      by (channel.Closing peer request checked) = tt
      by (channel.Crossed peer request) = tt

  not_on : (b : Bool) → not b ≡ true → b ≡ false
  not_on true is = cc
  not_on false is = refl

  ends_one : (opens frees : Bool) (waits : Option ℕ) (query : Asking) (one : Held) → (is_awaiting query ≡ false → waits ≡ None) → OnSearch wanted endpoints submitted opens frees true waits run one → OnSearch wanted endpoints submitted false false (not (is_awaiting query)) None run one
  ends_one opens frees waits query one none so = record {
    endpoint = so.endpoint;
    submits = so.submits;
    ready = ready_less opens frees one so.ready;
    waits_so = λ quiet channel own. so.waits_so refl channel own ∙ none (not_on (is_awaiting query) quiet);
    settled = λ opened. cc;
  }

  ordered : (stage : Stage) (c : Client) (outcome : Outcome) → At stage c → (let d : Client = record c { cause = Some outcome; stage = in_order stage } in Finds d)
  ordered Rest c outcome so = inl refl
  ordered (Link Due) c outcome so = inl refl
  ordered (Link Asked) c outcome so = inl refl
  ordered (SearchChannel Due) c outcome so = inl refl
  ordered (SearchChannel Asked) c outcome (new, none, free, so) = inr (tt, λ one is. ends_one false true None c.query one (λ quiet. refl) (so one is))
  ordered Search c outcome (asking, one, is, so) = inr (
    tt,
    λ other also.
        let lists : one ∷ [] ≡ other ∷ [] = sym is ∙ also in
        let same : one ≡ other = cc in
        subst (OnSearch wanted endpoints submitted false false (not (is_awaiting c.query)) None run) same (ends_one true (not c.given) (awaited c.query) c.query one (none_awaited c.query) so),
  )
  ordered (SearchEnd Due) c outcome so = inr (tt, so.1)
  ordered (SearchEnd Asked) c outcome so = inr (tt, so.1)
  ordered (Features point) c outcome so = inl refl
  ordered (ObjectChannel Due) c outcome so = inl refl
  ordered (ObjectChannel Asked) c outcome so = inr so
  ordered Object c outcome so = inr so
  ordered (ObjectEnd point) c outcome so = inr so
  ordered (LinkEnd point) c outcome so = inl refl
  ordered Over c outcome so = inl refl

  pub ends_find : (outcome : Outcome) (c : Client) → Of c → Finds (ends outcome c)
  ends_find outcome c so = by c.cause
    where
      after : (ending : Ending) → (let d : Client = record c { cause = Some outcome; stage = stage_after ending c.stage } in Finds d)
      after InOrder = ordered c.stage c outcome so
      after AtOnce = inl (off_at_once c.stage)

      by : (cause : Option Outcome) → Finds (ends_by cause outcome c)
      by None = after (ending_of outcome)
      by (Some earlier) = inl (off_at_once c.stage)

  pub if_find : (cause : Option Outcome) (c : Client) → Of c → Finds (ends_if cause c)
  if_find None c so = inr so
  if_find (Some outcome) c so = ends_find outcome c so

  pub either_find : (b : Bool) (c d : Client) → Finds c → Finds d → Finds (cond b c d)
  either_find true c d one other = one
  either_find false c d one other = other

  -- ---- a reply

  other_psm : (psm : ℕ) → is_service_psm psm ≡ true → eqb psm 0x0001 ≡ false
  other_psm psm is = not_on (eqb psm 0x0001) (and_parts (not (eqb psm 0x0001)) (not (eqb psm 0x0003)) (and_parts (eqb (bit_and psm 0x0101) 0x0001) (not (eqb psm 0x0001) && not (eqb psm 0x0003)) is).1).0

  -- it ends its search with a channel that is another one
  found_end : (c d : Client) → c.stage ≡ Search → d.stage ≡ SearchEnd Due → d.query ≡ c.query → eqb d.psm 0x0001 ≡ false → IsNamed d.cause d.psm → Of c → Of d
  found_end c d at to same other named so =
      let here = of_at Search c at so in
      at_of (SearchEnd Due) d to (
        named,
        λ one is.
            let lists : here.1 ∷ [] ≡ one ∷ [] = sym here.2 ∙ is in
            let same_one : here.1 ≡ one = cc in
            subst (λ (q : Asking). OnSearch wanted endpoints submitted false false (not (is_awaiting q)) None run one) (sym same)
            (subst (OnSearch wanted endpoints submitted false false (not (is_awaiting c.query)) None run) same_one (ends_one true (not c.given) (awaited c.query) c.query here.1 (none_awaited c.query) here.3)),
      )

  named_any : (cause : Option Outcome) (psm : ℕ) → eqb psm 0x0001 ≡ false → IsNamed cause psm
  named_any None psm other = other
  named_any (Some outcome) psm other = tt

  psm_find : (found : Option ℕ) (c : Client) → c.stage ≡ Search → Of c → Finds (found_psm (kept_of is_service_psm found) c)
  psm_find None c at so = ends_find outcomes.NoService c so
  psm_find (Some psm) c at so = by (is_service_psm psm) refl
    where
      by : (kept : Bool) → is_service_psm psm ≡ kept → Finds (found_psm (cond kept (Some psm) None) c)
      by false is = ends_find outcomes.NoService c so
      by true is =
          let d : Client = record c { psm = psm; stage = SearchEnd Due } in
          inr (found_end c d at refl refl (other_psm psm is) (named_any c.cause psm (other_psm psm is)) so)

  channel_find : (found : Option ℕ) (c : Client) → c.stage ≡ Search → Of c → Finds (found_channel (kept_of is_server_channel found) c)
  channel_find None c at so = ends_find outcomes.NoService c so
  channel_find (Some number) c at so = by (is_server_channel number)
    where
      by : (kept : Bool) → Finds (found_channel (cond kept (Some number) None) c)
      by false = ends_find outcomes.NoService c so
      by true =
          let d : Client = record c { psm = events.rfcomm_psm; channel = number; stage = SearchEnd Due } in
          inr (found_end c d at refl refl refl (named_any c.cause 0x0003 refl) so)

  way_find : (transport : Transport) (target : Target) (c : Client) → c.stage ≡ Search → Of c → Finds (found_way transport target c)
  way_find L2cap target c at so = psm_find target.l2cap c at so
  way_find Rfcomm target c at so = channel_find target.rfcomm c at so

  pub finds_find : (found : Found) (c : Client) → c.stage ≡ Search → Of c → Finds (finds found c)
  finds_find More c at so = inr so
  finds_find (Service target) c at so = way_find c.transport target c at so
  finds_find NoService c at so = ends_find outcomes.NoService c so
  finds_find (Refused reason) c at so = if_find (cause_of_query reason) c so

  -- ---- the timer

  search_is : (stage : Stage) → is_search stage ≡ true → stage ≡ Search
  search_is Search is = refl
  search_is Rest is = cc
  search_is (Link point) is = cc
  search_is (SearchChannel point) is = cc
  search_is (SearchEnd point) is = cc
  search_is (Features point) is = cc
  search_is (ObjectChannel point) is = cc
  search_is Object is = cc
  search_is (ObjectEnd point) is = cc
  search_is (LinkEnd point) is = cc
  search_is Over is = cc

  pub timer_find : (c : Client) → Of c → Finds (hears_news events.Timer c)
  timer_find c so = by (is_search c.stage) refl
    where
      again : Client
      again = record c { query = after_resend c.query }

      late : Client
      late = cond (eqb c.left 0) (ends outcomes.RetryLimit c) again

      rest : Bool
      rest = not (c.given || is_due c.query)

      resent : c.stage ≡ Search → Finds again
      resent at =
          let here = of_at Search c at so in
          inr (at_of Search again at (again_asks c.query here.0, here.1, here.2, subst (λ w. OnSearch wanted endpoints submitted true (not c.given) true w run here.1) (sym (again_awaited c.query)) here.3))

      by : (search : Bool) → is_search c.stage ≡ search → Finds (cond ((is_search c.stage && is_awaiting c.query) && rest) late c)
      by false is = subst Finds (sym (ap (λ b. cond ((b && is_awaiting c.query) && rest) late c) is)) (inr so)
      by true is = either_find ((is_search c.stage && is_awaiting c.query) && rest) late c (either_find (eqb c.left 0) (ends outcomes.RetryLimit c) again (ends_find outcomes.RetryLimit c so) (resent (search_is c.stage is))) (inr so)

  -- ---- another channel

  -- one that it uses is none of its search
  pub used_finds : (stage : Stage) (c : Client) (psm : ℕ) → c.stage ≡ stage → in_use stage c.psm ≡ Some psm → eqb psm 0x0001 ≡ false → Of c
  used_finds Rest c psm at used other = cc
  used_finds (Link point) c psm at used other = cc
  used_finds (SearchChannel Due) c psm at used other = cc
  used_finds (SearchChannel Asked) c psm at used other = let same : 0x0001 ≡ psm = cc in let never : true ≡ false = ap (λ n. eqb n 0x0001) same ∙ other in cc
  used_finds Search c psm at used other = let same : 0x0001 ≡ psm = cc in let never : true ≡ false = ap (λ n. eqb n 0x0001) same ∙ other in cc
  used_finds (SearchEnd point) c psm at used other = let same : 0x0001 ≡ psm = cc in let never : true ≡ false = ap (λ n. eqb n 0x0001) same ∙ other in cc
  used_finds (Features point) c psm at used other = cc
  used_finds (ObjectChannel Due) c psm at used other = cc
  used_finds (ObjectChannel Asked) c psm at used other = let same : c.psm ≡ psm = cc in at_of (ObjectChannel Asked) c at (ap (λ n. eqb n 0x0001) same ∙ other)
  used_finds Object c psm at used other = let same : c.psm ≡ psm = cc in at_of Object c at (ap (λ n. eqb n 0x0001) same ∙ other)
  used_finds (ObjectEnd point) c psm at used other = let same : c.psm ≡ psm = cc in at_of (ObjectEnd point) c at (ap (λ n. eqb n 0x0001) same ∙ other)
  used_finds (LinkEnd point) c psm at used other = cc
  used_finds Over c psm at used other = cc
