-- What each thing that happens to a client over RFCOMM makes of the frames that it asks to send, and of the SDUs that its channel took.
use Rattle.std.proofs.Common.{◌≡◌, ℕ, ◌-◌, Bool, true, false, cond, List, [], ◌∷◌, ◌++◌, map, Option, Some, None, Result, Ok, Err, refl, sym, ap, subst, ◌∙◌, ◌⊎◌, inl, inr, append-nil}
use Rattle.std.proofs.lemmas.Bool.{cond-true, cond-false}
use Rattle.pair_laws.specs.acl_fragments.specs.Pieces.{channel_of}
use Rattle.pair_laws.specs.bt_base.specs.declared.ports.PortFault.{PortFault}
use Rattle.pair_laws.specs.bt_base.specs.declared.settings.Settings.{Settings}
use Rattle.pair_laws.specs.bt_base.specs.declared.settings.Transport.{Transport}
use Rattle.pair_laws.specs.bt_base.specs.declared.settings.Transport.TheVariants.{L2cap, Rfcomm}
use Rattle.pair_laws.specs.channel_model.specs.declared.event.ChannelEvent.{ChannelEvent}
use Rattle.pair_laws.specs.channel_model.specs.declared.event.ChannelEvent.TheVariants as channels
use Rattle.pair_laws.specs.channel_model.specs.Carrying.{Up as Handed, Nothing, Received}
use Rattle.pair_laws.specs.channel_model.specs.Calls.{peer_mtu, waits}
use Rattle.pair_laws.specs.channel_model.specs.Hearing.{up}
use Rattle.pair_laws.specs.channel_model.specs.Value.{Channels}
use Rattle.pair_laws.specs.push_terms.specs.declared.outcome.Outcome.{Outcome}
use Rattle.pair_laws.specs.rfcomm_frames.specs.Frames.{PlainFrame}
use Rattle.pair_laws.specs.rfcomm_model.specs.Machine.{leaves}
use Rattle.pair_laws.specs.rfcomm_model.specs.Saying.{Said, next}
use Rattle.pair_laws.specs.sdp_client.specs.Asking.{is_due, request_octets, after_request}
use Rattle.pair_laws.specs.push_model.specs.declared.closing.CloseCause.{CloseCause}
use Rattle.pair_laws.specs.push_model.specs.declared.course.Contact.TheVariants.{Closing}
use Rattle.pair_laws.specs.push_model.specs.declared.course.Point.TheVariants.{Due, Asked}
use Rattle.pair_laws.specs.push_model.specs.declared.course.Stage.{Stage}
use Rattle.pair_laws.specs.push_model.specs.declared.course.Stage.TheVariants as stages
use Rattle.pair_laws.specs.push_model.specs.Client.{Client, cancelled}
use Rattle.pair_laws.specs.push_model.specs.Laws.{Deed, Asks, Finishes, Cancels}
use Rattle.pair_laws.specs.push_model.specs.Payloads.{Payload, Octets, Framed}
use Rattle.pair_laws.specs.push_model.specs.Server.{rfcomm_psm}
use Rattle.pair_laws.specs.push_model.specs.Steps as steps
use Rattle.pair_laws.specs.push_model.specs.Steps.{Part, Step, Stepped, Made, Wait, MakeLink, AskFeatures, OpenChannel, SendSdu, CloseChannel, BreakLink, Ended, NoMemory, Ask, Connect, Put, Abort, Disconnect, Close}
use Rattle.pair_laws.specs.push_laws.specs.Carriage.{frames_of, frames_by}
use Rattle.pair_laws.specs.world_model.specs.Machines.{News, Linked, Failed, Heard, TimerFired, Cancelled, Opening}
use Rattle.pair_laws.specs.host_model.specs.Circumstances.{Circumstance}
use Rattle.pair_laws.specs.host_model.specs.Clients as profile
use Rattle.pair_laws.specs.host_model.specs.Clients.{ClientProfile, ended, cause_of, client_profile, fitted}
use Rattle.pair_laws.specs.host_model.specs.Endpoints.{Endpoint, endpoint_of}
use Rattle.pair_laws.specs.host_model.specs.Hosts.{handed}
use Rattle.pair_laws.specs.host_model.specs.Pdus.{mux_octets}
use Rattle.pair_laws.specs.host_model.specs.Shelves.{unused}
use Rattle.pair_laws.specs.host_laws.specs.Fed.{feeds_up, next_happening, strand_feeds}
use Rattle.pair_laws.specs.host_laws.specs.Feeds.{Learns}
use Rattle.pair_laws.specs.host_laws.specs.Pushing.{Affair, Does, end_asked, then_ends, opened_pushed, closed_pushed, event_pushed, sent_pushed, step_pushed, pushed_from}
use Rattle.pair_laws.specs.host_laws.specs.Woven.{Strand, Hearing, Giving, Firing, Telling, Gifting, Learning, Checking, Stepping, told_next, strand_profile}
use Rattle.request_laws.specs.Carried.{frames_over}
use Rattle.request_laws.specs.Streams.{taken_by, taken_at}
use Rattle.request_laws.specs.Twists.{all_deeds, taken_on, OpensNone}
use Rattle.request_laws.proofs.Asking.{Even, Stuck, Makes, Same, Takes, same_makes, same_submitted, not_held, submits_sent, submits_client, none_submitted}
use Rattle.request_laws.proofs.Taking.{event_same, sdu_same, fires_same, cancelled_same, ended_held}

-- ---- the step that a client gives

-- none that sends; one that sends to the records of services; or one that sends a frame on the channel of the multiplexer
pub data Kind (client : Client) (o : Stepped) : Type 0 where
  Rests : frames_of o.step ≡ [] → ((endpoints : List Endpoint) (v : Channels) → taken_by rfcomm_psm o.step endpoints v ≡ []) → ((psm : ℕ) (payload : Payload) → o.step ≡ SendSdu psm payload → ⊥) → Kind client o
  Searches : (octets : List ℕ) → o.step ≡ SendSdu 0x0001 (Octets octets) → o.client.given ≡ true → Kind client o
  Sends : (frame : PlainFrame) → o.step ≡ SendSdu rfcomm_psm (Framed frame) → o.client.given ≡ true → Kind client o

rests_kind : (client after : Client) (parts : List Part) → (let o : Stepped = record { client = after; step = Wait; left = parts } in Kind client o)
rests_kind client after parts = Rests refl (λ endpoints v. refl) (λ psm payload is. cc)

lacks_kind : (client after : Client) (parts : List Part) → (let o : Stepped = record { client = after; step = NoMemory; left = parts } in Kind client o)
lacks_kind client after parts = Rests refl (λ endpoints v. refl) (λ psm payload is. cc)

either_kind : (client : Client) (test : Bool) (a b : Stepped) → Kind client a → Kind client b → Kind client (cond test a b)
either_kind client true a b x y = x
either_kind client false a b x y = y

said_kind : (said : Option Said) (first client : Client) (parts : List Part) → Kind first (steps.said_by said client parts)
said_kind None first client parts = rests_kind first _ parts
said_kind (Some said) first client parts = Sends said.frame refl refl

says_kind : (first client : Client) (parts : List Part) → Kind first (steps.says client parts)
says_kind first client parts = let full = steps.filled client in said_kind (next full.mux) first full parts

muxed_kind : (first : Client) (outcome : Result (Unit {0}) PortFault) (request : Made) → Kind first (steps.sends_muxed outcome request)
muxed_kind first (Ok done) request = says_kind first request.client request.left
muxed_kind first (Err fault) request = lacks_kind first _ request.left

through_kind : (ask : Ask) (first client : Client) (parts : List Part) → Kind first (steps.asks_through ask client parts)
through_kind ask first client parts =
    let request = steps.requests ask (record client { rest = [] }) parts in either_kind first (steps.takes_some client.mux) (steps.sends_muxed request.outcome request) (steps.rests client parts) (muxed_kind first request.outcome request) (rests_kind first client parts)

ask_kind : (ask : Ask) (first client : Client) (parts : List Part) → Kind first (steps.asks_muxed ask client parts)
ask_kind Close first client parts = says_kind first (record client { mux = leaves client.mux; contact = Closing }) parts
ask_kind steps.Nothing first client parts = rests_kind first client parts
ask_kind Connect first client parts = through_kind Connect first client parts
ask_kind Put first client parts = through_kind Put first client parts
ask_kind Abort first client parts = through_kind Abort first client parts
ask_kind Disconnect first client parts = through_kind Disconnect first client parts

goes_kind : (said : Option Said) (first client : Client) (parts : List Part) → Kind first (steps.goes_muxed said client parts)
goes_kind None first client parts =
    let quiet : Client = record client { frame = None } in either_kind first (steps.may_ask quiet) (steps.asks_muxed (steps.next_ask quiet) quiet parts) (steps.rests quiet parts) (ask_kind (steps.next_ask quiet) first quiet parts) (rests_kind first quiet parts)
goes_kind (Some said) first client parts = said_kind (Some said) first client parts

object_kind : (transport : Transport) (client : Client) (parts : List Part) → transport ≡ Rfcomm → Kind client (steps.steps_object transport client parts)
object_kind Rfcomm client parts is = let full = steps.filled client in goes_kind (next full.mux) client full parts
object_kind L2cap client parts is = cc

end_kind : (cause : Option Outcome) (client : Client) (parts : List Part) → Kind client (steps.tells_end cause client parts)
end_kind None client parts = rests_kind client client parts
end_kind (Some outcome) client parts = Rests refl (λ endpoints v. refl) (λ psm payload is. cc)

search_kind : (client : Client) (parts : List Part) → Kind client (steps.steps_search client parts)
search_kind client parts =
    let octets = request_octets client.query in
    let asked : Client = record client { query = after_request client.query; left = client.left - 1; rest = octets } in
    either_kind client (is_due client.query) (steps.sends_sdu 0x0001 (Octets octets) asked parts) (steps.rests client parts) (Searches octets refl refl) (rests_kind client client parts)

pub at_kind : (stage : Stage) (client : Client) (parts : List Part) → client.transport ≡ Rfcomm → Kind client (steps.steps_at stage client parts)
at_kind stages.Rest client parts muxed = rests_kind client client parts
at_kind (stages.Link Due) client parts muxed = Rests refl (λ endpoints v. refl) (λ psm payload e. cc)
at_kind (stages.Link Asked) client parts muxed = rests_kind client client parts
at_kind (stages.SearchChannel Due) client parts muxed = Rests refl (λ endpoints v. refl) (λ psm payload e. cc)
at_kind (stages.SearchChannel Asked) client parts muxed = rests_kind client client parts
at_kind stages.Search client parts muxed = search_kind client parts
at_kind (stages.SearchEnd Due) client parts muxed = Rests refl (λ endpoints v. refl) (λ psm payload e. cc)
at_kind (stages.SearchEnd Asked) client parts muxed = rests_kind client client parts
at_kind (stages.Features Due) client parts muxed = Rests refl (λ endpoints v. refl) (λ psm payload e. cc)
at_kind (stages.Features Asked) client parts muxed = rests_kind client client parts
at_kind (stages.ObjectChannel Due) client parts muxed = Rests refl (λ endpoints v. refl) (λ psm payload e. cc)
at_kind (stages.ObjectChannel Asked) client parts muxed = rests_kind client client parts
at_kind stages.Object client parts muxed = object_kind client.transport client parts muxed
at_kind (stages.ObjectEnd Due) client parts muxed = Rests refl (λ endpoints v. refl) (λ psm payload e. cc)
at_kind (stages.ObjectEnd Asked) client parts muxed = rests_kind client client parts
at_kind (stages.LinkEnd Due) client parts muxed = Rests refl (λ endpoints v. refl) (λ psm payload e. cc)
at_kind (stages.LinkEnd Asked) client parts muxed = rests_kind client client parts
at_kind stages.Over client parts muxed = end_kind client.cause client parts

-- ---- one thing

abbrev pub octets_over : List Deed → Client → List (List ℕ)
octets_over deeds client = map mux_octets (frames_over deeds client)

abbrev octets_with : List Affair → Client → List (List ℕ)
octets_with affairs client = octets_over (all_deeds affairs) client

module _ (settings : Settings) where
  up_makes : (brought : Handed) (v : Channels) (p : ClientProfile) → Makes p (handed (client_profile settings) brought p) [] (octets_with (pushed_from settings p (feeds_up brought)) p.client)
  up_makes Nothing v p = same_makes p p [] refl refl refl
  up_makes (Received own psm sdu) v p = same_makes p (profile.received own psm sdu p) _ refl refl (sdu_same p.client.stage psm sdu p.client)

  opened_none : (mtu : Option ℕ) (psm : ℕ) (client : Client) → octets_with (opened_pushed mtu psm ++ []) client ≡ []
  opened_none None psm client = refl
  opened_none (Some mtu) psm client = refl

  closed_none : (cause : Option CloseCause) (psm : ℕ) (client : Client) → octets_with (closed_pushed cause psm ++ []) client ≡ []
  closed_none None psm client = refl
  closed_none (Some cause) psm client = refl

  event_none : (event : ChannelEvent) (v : Channels) (client : Client) → octets_with (event_pushed event v ++ []) client ≡ []
  event_none (channels.Opened own psm) v client = opened_none (peer_mtu own v) psm client
  event_none (channels.Closed own psm reason) v client = closed_none (cause_of reason) psm client
  event_none (channels.Features features) v client = refl
  event_none channels.FeaturesLost v client = refl
  event_none (channels.DisconnectLost own) v client = refl

  told_makes : (events : List ChannelEvent) (v : Channels) (p : ClientProfile) → Makes p (told_next (client_profile settings) events v p) [] (octets_with (pushed_from settings p (next_happening events v)) p.client)
  told_makes [] v p = same_makes p p [] refl refl refl
  told_makes (event ∷ events) v p = let now : Channels = record v { events = events } in same_makes p (profile.happened event now p) _ (event_none event now p.client) refl (event_same event now p.client)

  -- a step that ends the push sends nothing
  end_none : (step : Step) (client : Client) → step ≡ (steps.steps client []).step → octets_with (end_asked step) client ≡ []
  end_none (Ended outcome) client is = ap (λ (s : Step). map mux_octets (frames_of s ++ [])) (sym is)
  end_none Wait client is = refl
  end_none MakeLink client is = refl
  end_none AskFeatures client is = refl
  end_none (OpenChannel psm) client is = refl
  end_none (SendSdu psm payload) client is = refl
  end_none (CloseChannel psm) client is = refl
  end_none BreakLink client is = refl
  end_none NoMemory client is = refl

  learned_makes : (heard : News) (circumstances : List Circumstance) (p : ClientProfile) → OpensNone (Learning circumstances heard) → Makes p (profile.told circumstances heard p) [] (octets_with (pushed_from settings p (Learns circumstances heard ∷ [])) p.client)
  learned_makes (Linked event) circumstances p none = absurd none
  learned_makes (Failed status) circumstances p none = absurd none
  learned_makes (Opening name) circumstances p none = absurd none
  learned_makes (Heard pdu) circumstances p none = same_makes p p [] refl refl refl
  learned_makes TimerFired circumstances p none = same_makes p (profile.told circumstances TimerFired p) _ refl refl (fires_same p.client)
  learned_makes Cancelled circumstances p none =
      let now = cancelled p.client in
      let nothing : octets_with (Does Cancels ∷ (then_ends now ++ [])) p.client ≡ [] =
      ap (λ (l : List Affair). octets_with (Does Cancels ∷ l) p.client) (append-nil (then_ends now)) ∙ end_none (steps.steps now []).step now refl in
      let held : p.client.given ≡ true → (ended now).given ≡ true = λ given. let still = cancelled_same p.client ∙ given in ap (λ (c : Client). c.given) (ended_held now still) ∙ still in
      Same nothing refl (even held) (λ stuck. record { none = stuck.none; held = held stuck.held })
    where
      even : (p.client.given ≡ true → (ended (cancelled p.client)).given ≡ true) → Even p → Even (profile.told circumstances Cancelled p)
      even held (inl none) = inl none
      even held (inr given) = inr (held given)

  checked_makes : (own : Option ℕ) (v : Channels) (p : ClientProfile) → own ≡ p.submitted → Makes p (profile.sent_on own v p) [] (octets_with (sent_pushed own v ++ []) p.client)
  checked_makes None v p is = same_makes p p [] refl refl refl
  checked_makes (Some own) v p is = by (waits own v)
    where
      never : Stuck p → ⊥
      never stuck = let e : Some own ≡ None = is ∙ stuck.none in cc

      by : (waiting : Bool) → Makes p (cond waiting p (profile.done (record p { submitted = None }))) [] (octets_with (cond waiting [] (Does Finishes ∷ []) ++ []) p.client)
      by true = same_makes p p [] refl refl refl
      by false = Same refl refl (λ even. inl refl) (λ stuck. absurd (never stuck))

  -- ---- a step

  -- it sends nothing
  none_step : (step : Step) (client : Client) (parts : List Part) → frames_by (Asks parts) client ≡ [] → octets_with (step_pushed step parts ++ []) client ≡ []
  none_step Wait client parts none = ap (λ (l : List PlainFrame). map mux_octets (l ++ [])) none
  none_step MakeLink client parts none = refl
  none_step AskFeatures client parts none = ap (λ (l : List PlainFrame). map mux_octets (l ++ [])) none
  none_step (OpenChannel psm) client parts none = ap (λ (l : List PlainFrame). map mux_octets (l ++ [])) none
  none_step (SendSdu psm payload) client parts none = ap (λ (l : List PlainFrame). map mux_octets (l ++ [])) none
  none_step (CloseChannel psm) client parts none = ap (λ (l : List PlainFrame). map mux_octets (l ++ [])) none
  none_step BreakLink client parts none = ap (λ (l : List PlainFrame). map mux_octets (l ++ [])) none
  none_step (Ended outcome) client parts none = ap (λ (l : List PlainFrame). map mux_octets (l ++ [])) none
  none_step NoMemory client parts none = ap (λ (l : List PlainFrame). map mux_octets (l ++ [])) none

  -- that of the step
  asked_is : (client : Client) (parts : List Part) (o : Stepped) → o ≡ steps.steps client parts → frames_by (Asks parts) client ≡ frames_of o.step
  asked_is client parts o is = ap (λ (x : Stepped). frames_of x.step) (sym is)

  abbrev Stepping_makes : ClientProfile → Channels → Stepped → Type 0
  Stepping_makes p v o =
      Makes p (profile.takes o.step v (record p { client = o.client; parts = unused o.left p.parts }) p).profile (taken_by rfcomm_psm o.step p.endpoints v) (octets_with (step_pushed o.step (fitted p) ++ []) p.client)

  kind_makes : (p : ClientProfile) (v : Channels) (o : Stepped) → o ≡ steps.steps p.client (fitted p) → p.client.given ≡ false → p.submitted ≡ None → Kind p.client o → Stepping_makes p v o
  kind_makes p v o is free none (Rests quiet untaken rests) =
      let after : ClientProfile = record p { client = o.client; parts = unused o.left p.parts } in
      Same (none_step o.step p.client (fitted p) (asked_is p.client (fitted p) o is ∙ quiet)) (untaken p.endpoints v) (λ even. inl (same_submitted settings o.step v after p rests refl ∙ none)) (λ stuck. absurd (not_held settings p free stuck.held))
  kind_makes p v o is free none (Searches octets step held) =
      let after : ClientProfile = record p { client = o.client; parts = unused o.left p.parts } in
      let asked : frames_by (Asks (fitted p)) p.client ≡ [] = asked_is p.client (fitted p) o is ∙ ap frames_of step in
      let sent : octets_with (step_pushed o.step (fitted p) ++ []) p.client ≡ [] =
      ap (λ (s : Step). octets_with (step_pushed s (fitted p) ++ []) p.client) step ∙ ap (λ (l : List PlainFrame). map mux_octets (l ++ [])) asked in
      let taken : taken_by rfcomm_psm o.step p.endpoints v ≡ [] = ap (λ (s : Step). taken_by rfcomm_psm s p.endpoints v) step in
      Takes (λ stuck. not_held settings p free stuck.held) (sent ∙ sym taken)
      (inr (ap (λ (s : Step). (profile.takes s v after p).profile.client.given) step ∙ (ap (λ (c : Client). c.given) (submits_client settings (endpoint_of 0x0001 p.endpoints) (Octets octets) v after) ∙ held)))
  kind_makes p v o is free none (Sends frame step held) =
      let after : ClientProfile = record p { client = o.client; parts = unused o.left p.parts } in
      let asked : frames_by (Asks (fitted p)) p.client ≡ frame ∷ [] = asked_is p.client (fitted p) o is ∙ ap frames_of step in
      let sent : octets_with (step_pushed o.step (fitted p) ++ []) p.client ≡ mux_octets frame ∷ [] =
      ap (λ (s : Step). octets_with (step_pushed s (fitted p) ++ []) p.client) step ∙ ap (λ (l : List PlainFrame). map mux_octets (l ++ [])) asked in
      subst (λ (s : Step). Makes p (profile.takes s v after p).profile (taken_by rfcomm_psm s p.endpoints v) (octets_with (step_pushed o.step (fitted p) ++ []) p.client)) (sym step)
      (subst (λ (l : List (List ℕ)). Makes p (profile.submits (endpoint_of rfcomm_psm p.endpoints) (Framed frame) v after).profile (taken_on (endpoint_of rfcomm_psm p.endpoints) (mux_octets frame) v) l) (sym sent)
      (submits_sent settings (endpoint_of rfcomm_psm p.endpoints) (Framed frame) v p o.client (unused o.left p.parts) none free held))

  rest_makes : (p : ClientProfile) (v : Channels) (step : Step) → (let o : Stepped = record { client = p.client; step = step; left = fitted p } in o ≡ steps.steps p.client (fitted p)) → (step ≡ Wait) ⊎ (step ≡ NoMemory)
      → (let o : Stepped = record { client = p.client; step = step; left = fitted p } in Stepping_makes p v o)
  rest_makes p v step is (inl waits) =
      let o : Stepped = record { client = p.client; step = step; left = fitted p } in
      subst (λ (s : Step). Makes p (profile.takes s v (record p { client = p.client; parts = unused (fitted p) p.parts }) p).profile (taken_by rfcomm_psm s p.endpoints v) (octets_with (step_pushed s (fitted p) ++ []) p.client)) (sym waits)
      (same_makes p (record p { parts = unused (fitted p) p.parts }) _ (ap (λ (l : List PlainFrame). map mux_octets (l ++ [])) (asked_is p.client (fitted p) o is ∙ ap frames_of waits)) refl refl)
  rest_makes p v step is (inr lacks) =
      let o : Stepped = record { client = p.client; step = step; left = fitted p } in
      subst (λ (s : Step). Makes p (profile.takes s v (record p { client = p.client; parts = unused (fitted p) p.parts }) p).profile (taken_by rfcomm_psm s p.endpoints v) (octets_with (step_pushed s (fitted p) ++ []) p.client)) (sym lacks)
      (same_makes p (record p { parts = unused (fitted p) p.parts }) _ (ap (λ (l : List PlainFrame). map mux_octets (l ++ [])) (asked_is p.client (fitted p) o is ∙ ap frames_of lacks)) refl refl)

  steps_makes : (failed given : Bool) (p : ClientProfile) (v : Channels) → p.client.failed ≡ failed → p.client.given ≡ given → p.client.transport ≡ Rfcomm → Even p → Stepping_makes p v (steps.steps p.client (fitted p))
  steps_makes true given p v failed_is given_is muxed even = let is = sym (cond-true p.client.failed _ _ failed_is) in subst (Stepping_makes p v) is (rest_makes p v NoMemory is (inr refl))
  steps_makes false true p v failed_is given_is muxed even =
      let is = sym (cond-false p.client.failed _ _ failed_is ∙ cond-true p.client.given _ _ given_is) in subst (Stepping_makes p v) is (rest_makes p v Wait is (inl refl))
  steps_makes false false p v failed_is given_is muxed even =
      let is = sym (cond-false p.client.failed _ _ failed_is ∙ cond-false p.client.given _ _ given_is) in
      kind_makes p v (steps.steps p.client (fitted p)) refl given_is (none_submitted settings p given_is even) (subst (Kind p.client) is (at_kind p.client.stage p.client (fitted p) muxed))

  -- ---- any thing

  pub strand_makes : (strand : Strand) (v : Channels) (p : ClientProfile) → OpensNone strand → p.client.transport ≡ Rfcomm → Even p
      → Makes p (strand_profile (client_profile settings) strand v p) (taken_at rfcomm_psm strand v p) (octets_with (pushed_from settings p (strand_feeds strand v)) p.client)
  strand_makes (Hearing pdu) v p none muxed even = up_makes (up (channel_of pdu) pdu v) v p
  strand_makes (Giving pdu) v p none muxed even = same_makes p p [] refl refl refl
  strand_makes Firing v p none muxed even = same_makes p p [] refl refl refl
  strand_makes Telling v p none muxed even = told_makes v.events v p
  strand_makes (Gifting circumstances) v p none muxed even = same_makes p ((client_profile settings).given circumstances p) [] refl refl refl
  strand_makes (Learning circumstances heard) v p none muxed even = learned_makes heard circumstances p none
  strand_makes Checking v p none muxed even = checked_makes p.submitted v p refl
  strand_makes Stepping v p none muxed even = steps_makes p.client.failed p.client.given p v refl refl muxed even
