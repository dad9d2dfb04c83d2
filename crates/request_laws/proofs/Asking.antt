-- What each thing that happens to a client makes of the SDUs that it asks to send, and of those that its channel took.
use Rattle.std.proofs.Common.{◌≡◌, ℕ, ◌-◌, Bool, true, false, cond, ◌==◌, List, [], ◌∷◌, ◌++◌, Option, Some, None, Result, Ok, Err, refl, sym, ap, subst, ◌∙◌, ◌⊎◌, inl, inr, append-nil}
use Rattle.std.proofs.lemmas.Bool.{cond-true, cond-false}
use Rattle.pair_laws.specs.acl_fragments.specs.Pieces.{channel_of}
use Rattle.pair_laws.specs.bt_base.specs.declared.ports.PortFault.{PortFault}
use Rattle.pair_laws.specs.bt_base.specs.declared.ports.PortFault.TheVariants as fault
use Rattle.pair_laws.specs.bt_base.specs.declared.settings.Settings.{Settings}
use Rattle.pair_laws.specs.bt_base.specs.declared.settings.Transport.{Transport}
use Rattle.pair_laws.specs.bt_base.specs.declared.settings.Transport.TheVariants.{L2cap, Rfcomm}
use Rattle.pair_laws.specs.channel_model.specs.declared.event.ChannelEvent.{ChannelEvent}
use Rattle.pair_laws.specs.channel_model.specs.declared.event.ChannelEvent.TheVariants as channels
use Rattle.pair_laws.specs.channel_model.specs.Carrying.{Up as Handed, Nothing, Received}
use Rattle.pair_laws.specs.channel_model.specs.Calls.{peer_mtu, sends, waits}
use Rattle.pair_laws.specs.channel_model.specs.Hearing.{up}
use Rattle.pair_laws.specs.channel_model.specs.Value.{Channels}
use Rattle.pair_laws.specs.push_terms.specs.declared.outcome.Outcome.{Outcome}
use Rattle.pair_laws.specs.push_terms.specs.declared.outcome.Outcome.TheVariants as outcomes
use Rattle.pair_laws.specs.sdp_client.specs.Asking.{is_due, request_octets, after_request}
use Rattle.pair_laws.specs.push_model.specs.declared.closing.CloseCause.{CloseCause}
use Rattle.pair_laws.specs.push_model.specs.declared.course.Point.TheVariants.{Due, Asked}
use Rattle.pair_laws.specs.push_model.specs.declared.course.Stage.{Stage}
use Rattle.pair_laws.specs.push_model.specs.declared.course.Stage.TheVariants as stages
use Rattle.pair_laws.specs.push_model.specs.Client.{Client, cancelled, may_cancel, ends, ends_by}
use Rattle.pair_laws.specs.push_model.specs.Events as events
use Rattle.pair_laws.specs.push_model.specs.Laws as push
use Rattle.pair_laws.specs.push_model.specs.Laws.{Deed, Hears, Asks, Finishes, Cancels, all_done}
use Rattle.pair_laws.specs.push_model.specs.Payloads.{Payload, Octets}
use Rattle.pair_laws.specs.push_model.specs.Responding.{is_object}
use Rattle.pair_laws.specs.push_model.specs.Server.{object_psm}
use Rattle.pair_laws.specs.push_model.specs.Steps as steps
use Rattle.pair_laws.specs.push_model.specs.Steps.{Part, Step, Stepped, Made, Wait, MakeLink, AskFeatures, OpenChannel, SendSdu, CloseChannel, BreakLink, Ended, NoMemory, Ask, Connect, Put, Abort, Disconnect, Close}
use Rattle.pair_laws.specs.push_laws.specs.Parties.{sent_by}
use Rattle.pair_laws.specs.push_laws.specs.Sending.{sdus_of, packets_through}
use Rattle.pair_laws.specs.world_model.specs.Machines.{News, Linked, Failed, Heard, TimerFired, Cancelled, Opening}
use Rattle.pair_laws.specs.host_model.specs.Circumstances.{Circumstance, Excerpt}
use Rattle.pair_laws.specs.host_model.specs.Clients as profile
use Rattle.pair_laws.specs.host_model.specs.Clients.{ClientProfile, ended, cause_of, client_profile, fitted}
use Rattle.pair_laws.specs.host_model.specs.Endpoints.{Endpoint, endpoint_of, takes_sdu}
use Rattle.pair_laws.specs.host_model.specs.Hosts.{handed}
use Rattle.pair_laws.specs.host_model.specs.Pdus.{sdu_of}
use Rattle.pair_laws.specs.host_model.specs.Shelves.{unused}
use Rattle.pair_laws.specs.host_laws.specs.Fed.{feeds_up, next_happening, strand_feeds}
use Rattle.pair_laws.specs.host_laws.specs.Feeds.{Learns}
use Rattle.pair_laws.specs.host_laws.specs.Pushing.{Affair, Does, end_asked, then_ends, opened_pushed, closed_pushed, event_pushed, sent_pushed, step_pushed, pushed_from}
use Rattle.pair_laws.specs.host_laws.specs.Woven.{Strand, Hearing, Giving, Firing, Telling, Gifting, Learning, Checking, Stepping, told_next, strand_profile}
use Rattle.request_laws.specs.Twists.{all_deeds, taken_on, taken_with, taken_in, OpensNone}
use Rattle.request_laws.proofs.Taking.{event_same, sdu_same, fires_same, cancelled_same, ended_held}

-- ---- what deeds ask to send

abbrev pub sent_over : List Deed → Client → List (List ℕ)
sent_over [] client = []
sent_over (deed ∷ deeds) client = sent_by deed client ++ sent_over deeds (push.done deed client)

none_if : (test : Bool) (sent : List (List ℕ)) → sent ≡ [] → cond test sent [] ≡ []
none_if true sent none = none
none_if false sent none = refl

hears_none : (news : events.News) (client : Client) → sent_over (Hears news ∷ []) client ≡ []
hears_none news client = ap (λ (l : List (List ℕ)). l ++ []) (none_if (client.psm == object_psm) [] refl)

-- ---- the step that a client gives

-- none that sends; one that sends to the records of services; or one that sends a request on the channel of the object
data Kind (client : Client) (o : Stepped) : Type 0 where
  Rests : sdus_of o.step ≡ [] → ((endpoints : List Endpoint) (v : Channels) → taken_with o.step endpoints v ≡ []) → ((psm : ℕ) (payload : Payload) → o.step ≡ SendSdu psm payload → ⊥) → Kind client o
  Searches : (payload : Payload) → o.step ≡ SendSdu 0x0001 payload → is_object client.stage ≡ false → o.client.given ≡ true → Kind client o
  Sends : (octets : List ℕ) → o.step ≡ SendSdu client.psm (Octets octets) → is_object client.stage ≡ true → o.client.given ≡ true → Kind client o

rests_kind : (client after : Client) (parts : List Part) → (let o : Stepped = record { client = after; step = Wait; left = parts } in Kind client o)
rests_kind client after parts = Rests refl (λ endpoints v. refl) (λ psm payload is. cc)

lacks_kind : (client after : Client) (parts : List Part) → (let o : Stepped = record { client = after; step = NoMemory; left = parts } in Kind client o)
lacks_kind client after parts = Rests refl (λ endpoints v. refl) (λ psm payload is. cc)

either_kind : (client : Client) (test : Bool) (a b : Stepped) → Kind client a → Kind client b → Kind client (cond test a b)
either_kind client true a b x y = x
either_kind client false a b x y = y

-- ---- a request is for the channel of the object

abbrev IsFor : ℕ → Made → Type 0
IsFor psm request = request.client.psm ≡ psm

ends_psm : (cause : Option Outcome) (o : Outcome) (client : Client) → (ends_by cause o client).psm ≡ client.psm
ends_psm None o client = refl
ends_psm (Some earlier) o client = refl

leaves_psm : (ask : Ask) (client : Client) (parts : List Part) → IsFor client.psm (steps.leaves_by ask client parts)
leaves_psm Connect client parts = refl
leaves_psm Put client parts = refl
leaves_psm Abort client parts = refl
leaves_psm Disconnect client parts = refl
leaves_psm Close client parts = refl
leaves_psm steps.Nothing client parts = refl

failing_psm : (client : Client) (parts : List Part) → IsFor client.psm (steps.failing client parts)
failing_psm client parts =
    let ended : Client = ends outcomes.ShelfFault client in
    leaves_psm (steps.next_ask ended) ended parts ∙ ends_psm client.cause outcomes.ShelfFault client

part_psm : (part : Part) (client : Client) (parts : List Part) → (let put = steps.puts_part part client parts in IsFor client.psm (steps.puts_or_leaves put.outcome put))
part_psm (Ok part) client parts = refl
part_psm (Err fault.Failed) client parts = failing_psm client parts
part_psm (Err fault.NoMemory) client parts = refl

from_psm : (parts : List Part) (client : Client) → (let put = steps.puts_from parts client in IsFor client.psm (steps.puts_or_leaves put.outcome put))
from_psm [] client = failing_psm client []
from_psm (part ∷ parts) client = part_psm part client parts

puts_psm : (client : Client) (parts : List Part) → IsFor client.psm (steps.requests Put client parts)
puts_psm client parts = by (steps.put_count client == 0)
  where
    by : (none : Bool) → (let put : Made = cond none (steps.puts_part (Ok []) client parts) (steps.puts_from parts client) in IsFor client.psm (steps.puts_or_leaves put.outcome put))
    by true = part_psm (Ok []) client parts
    by false = from_psm parts client

direct_kind : (client : Client) (outcome : Result (Unit {0}) PortFault) (request : Made) → is_object client.stage ≡ true → IsFor client.psm request → Kind client (steps.sends_direct outcome request)
direct_kind client (Ok done) request works for = Sends request.client.rest (ap (λ (n : ℕ). SendSdu n (Octets request.client.rest)) for) works refl
direct_kind client (Err fault) request works for = lacks_kind client _ request.left

ask_kind : (ask : Ask) (client : Client) (parts : List Part) → is_object client.stage ≡ true → Kind client (steps.asks_direct ask (record client { rest = [] }) parts)
ask_kind Close client parts works = Rests refl (λ endpoints v. refl) (λ psm payload is. cc)
ask_kind steps.Nothing client parts works = rests_kind client _ parts
ask_kind Connect client parts works = let quiet : Client = record client { rest = [] } in let request = steps.requests Connect quiet parts in direct_kind client request.outcome request works refl
ask_kind Put client parts works = let quiet : Client = record client { rest = [] } in let request = steps.requests Put quiet parts in direct_kind client request.outcome request works (puts_psm quiet parts)
ask_kind Abort client parts works = let quiet : Client = record client { rest = [] } in let request = steps.requests Abort quiet parts in direct_kind client request.outcome request works refl
ask_kind Disconnect client parts works = let quiet : Client = record client { rest = [] } in let request = steps.requests Disconnect quiet parts in direct_kind client request.outcome request works refl

object_kind : (transport : Transport) (client : Client) (parts : List Part) → transport ≡ L2cap → is_object client.stage ≡ true → Kind client (steps.steps_object transport client parts)
object_kind L2cap client parts is works = either_kind client (steps.may_ask client) _ _ (ask_kind (steps.next_ask client) client parts works) (rests_kind client client parts)
object_kind Rfcomm client parts is works = cc

end_kind : (cause : Option Outcome) (client : Client) (parts : List Part) → Kind client (steps.tells_end cause client parts)
end_kind None client parts = rests_kind client client parts
end_kind (Some outcome) client parts = Rests refl (λ endpoints v. refl) (λ psm payload is. cc)

search_kind : (client : Client) (parts : List Part) → is_object client.stage ≡ false → Kind client (steps.steps_search client parts)
search_kind client parts away =
    let octets = request_octets client.query in
    let asked : Client = record client { query = after_request client.query; left = client.left - 1; rest = octets } in
    either_kind client (is_due client.query) (steps.sends_sdu 0x0001 (Octets octets) asked parts) (steps.rests client parts) (Searches (Octets octets) refl away refl) (rests_kind client client parts)

at_kind : (stage : Stage) (client : Client) (parts : List Part) → stage ≡ client.stage → client.transport ≡ L2cap → Kind client (steps.steps_at stage client parts)
at_kind stages.Rest client parts is direct = rests_kind client client parts
at_kind (stages.Link Due) client parts is direct = Rests refl (λ endpoints v. refl) (λ psm payload e. cc)
at_kind (stages.Link Asked) client parts is direct = rests_kind client client parts
at_kind (stages.SearchChannel Due) client parts is direct = Rests refl (λ endpoints v. refl) (λ psm payload e. cc)
at_kind (stages.SearchChannel Asked) client parts is direct = rests_kind client client parts
at_kind stages.Search client parts is direct = search_kind client parts (ap is_object (sym is))
at_kind (stages.SearchEnd Due) client parts is direct = Rests refl (λ endpoints v. refl) (λ psm payload e. cc)
at_kind (stages.SearchEnd Asked) client parts is direct = rests_kind client client parts
at_kind (stages.Features Due) client parts is direct = Rests refl (λ endpoints v. refl) (λ psm payload e. cc)
at_kind (stages.Features Asked) client parts is direct = rests_kind client client parts
at_kind (stages.ObjectChannel Due) client parts is direct = Rests refl (λ endpoints v. refl) (λ psm payload e. cc)
at_kind (stages.ObjectChannel Asked) client parts is direct = rests_kind client client parts
at_kind stages.Object client parts is direct = object_kind client.transport client parts direct (ap is_object (sym is))
at_kind (stages.ObjectEnd Due) client parts is direct = Rests refl (λ endpoints v. refl) (λ psm payload e. cc)
at_kind (stages.ObjectEnd Asked) client parts is direct = rests_kind client client parts
at_kind (stages.LinkEnd Due) client parts is direct = Rests refl (λ endpoints v. refl) (λ psm payload e. cc)
at_kind (stages.LinkEnd Asked) client parts is direct = rests_kind client client parts
at_kind stages.Over client parts is direct = end_kind client.cause client parts

-- ---- where it is with what it sends

-- an SDU that waits in its channel is one that it gave, and no step was given where none does; or its channel did not take what it gave
abbrev pub Even : ClientProfile → Type 0
Even p = (p.submitted ≡ None) ⊎ (p.client.given ≡ true)

pub record Stuck (p : ClientProfile) : Type 0 where
  pub none : p.submitted ≡ None
  pub held : p.client.given ≡ true

-- it asked for what its channel took; or for one more, and is stuck
pub data Sent (p : ClientProfile) (taken sent : List (List ℕ)) : Type 0 where
  All : Even p → sent ≡ taken → Sent p taken sent
  OneMore : Stuck p → (one : List ℕ) → sent ≡ taken ++ one ∷ [] → Sent p taken sent

-- what one thing makes of it
pub data Makes (before after : ClientProfile) (taken sent : List (List ℕ)) : Type 0 where
  Same : sent ≡ [] → taken ≡ [] → (Even before → Even after) → (Stuck before → Stuck after) → Makes before after taken sent
  Takes : (Stuck before → ⊥) → sent ≡ taken → Even after → Makes before after taken sent
  Refuses : (Stuck before → ⊥) → taken ≡ [] → (one : List ℕ) → sent ≡ one ∷ [] → Stuck after → Makes before after taken sent

-- the SDU that waits, and the step that was given, stay
pub same_makes : (before after : ClientProfile) (sent : List (List ℕ)) → sent ≡ [] → after.submitted ≡ before.submitted → after.client.given ≡ before.client.given → Makes before after [] sent
same_makes before after sent none submitted given = Same none refl even (λ stuck. record { none = submitted ∙ stuck.none; held = given ∙ stuck.held })
  where
    even : Even before → Even after
    even (inl none) = inl (submitted ∙ none)
    even (inr held) = inr (given ∙ held)

pub sent_more : (before after : ClientProfile) (taken sent more_taken more_sent : List (List ℕ)) → Sent before taken sent → Makes before after more_taken more_sent → Sent after (taken ++ more_taken) (sent ++ more_sent)
sent_more before after taken sent more_taken more_sent (All even is) (Same none untaken evens stucks) =
    All (evens even) (ap (λ (l : List (List ℕ)). sent ++ l) none ∙ (append-nil sent ∙ (is ∙ (sym (append-nil taken) ∙ ap (λ (l : List (List ℕ)). taken ++ l) (sym untaken)))))
sent_more before after taken sent more_taken more_sent (All even is) (Takes free same even_after) = All even_after (ap (λ (l : List (List ℕ)). l ++ more_sent) is ∙ ap (λ (l : List (List ℕ)). taken ++ l) same)
sent_more before after taken sent more_taken more_sent (All even is) (Refuses free untaken one some stuck) =
    OneMore stuck one (ap (λ (l : List (List ℕ)). l ++ more_sent) is ∙ (ap (λ (l : List (List ℕ)). taken ++ l) some ∙ ap (λ (l : List (List ℕ)). l ++ one ∷ []) (sym (append-nil taken) ∙ ap (λ (l : List (List ℕ)). taken ++ l) (sym untaken))))
sent_more before after taken sent more_taken more_sent (OneMore stuck one is) (Same none untaken evens stucks) =
    OneMore (stucks stuck) one (ap (λ (l : List (List ℕ)). sent ++ l) none ∙ (append-nil sent ∙ (is ∙ ap (λ (l : List (List ℕ)). l ++ one ∷ []) (sym (append-nil taken) ∙ ap (λ (l : List (List ℕ)). taken ++ l) (sym untaken)))))
sent_more before after taken sent more_taken more_sent (OneMore stuck one is) (Takes free same even_after) = absurd (free stuck)
sent_more before after taken sent more_taken more_sent (OneMore stuck one is) (Refuses free untaken other some then) = absurd (free stuck)

-- ---- one thing

abbrev sent_with : List Affair → Client → List (List ℕ)
sent_with affairs client = sent_over (all_deeds affairs) client

module _ (settings : Settings) where
  up_makes : (brought : Handed) (v : Channels) (p : ClientProfile) → Makes p (handed (client_profile settings) brought p) [] (sent_with (pushed_from settings p (feeds_up brought)) p.client)
  up_makes Nothing v p = same_makes p p [] refl refl refl
  up_makes (Received own psm sdu) v p = same_makes p (profile.received own psm sdu p) _ (hears_none (events.Sdu psm sdu) p.client) refl (sdu_same p.client.stage psm sdu p.client)

  opened_none : (mtu : Option ℕ) (psm : ℕ) (client : Client) → sent_with (opened_pushed mtu psm ++ []) client ≡ []
  opened_none None psm client = refl
  opened_none (Some mtu) psm client = hears_none (events.ChannelOpen psm mtu) client

  closed_none : (cause : Option CloseCause) (psm : ℕ) (client : Client) → sent_with (closed_pushed cause psm ++ []) client ≡ []
  closed_none None psm client = refl
  closed_none (Some cause) psm client = hears_none (events.ChannelClosed psm cause) client

  event_none : (event : ChannelEvent) (v : Channels) (client : Client) → sent_with (event_pushed event v ++ []) client ≡ []
  event_none (channels.Opened own psm) v client = opened_none (peer_mtu own v) psm client
  event_none (channels.Closed own psm reason) v client = closed_none (cause_of reason) psm client
  event_none (channels.Features features) v client = hears_none events.FeaturesTold client
  event_none channels.FeaturesLost v client = hears_none events.FeaturesLost client
  event_none (channels.DisconnectLost own) v client = refl

  told_makes : (events : List ChannelEvent) (v : Channels) (p : ClientProfile) → Makes p (told_next (client_profile settings) events v p) [] (sent_with (pushed_from settings p (next_happening events v)) p.client)
  told_makes [] v p = same_makes p p [] refl refl refl
  told_makes (event ∷ events) v p = let now : Channels = record v { events = events } in same_makes p (profile.happened event now p) _ (event_none event now p.client) refl (event_same event now p.client)

  -- a step that ends the push sends nothing
  end_none : (step : Step) (client : Client) → step ≡ (steps.steps client []).step → client.transport ≡ L2cap → sent_with (end_asked step) client ≡ []
  end_none (Ended outcome) client is direct =
      ap (λ (l : List (List ℕ)). l ++ [])
      (none_if (client.psm == object_psm) _ (none_if (is_object client.stage) _ (ap (λ (t : Transport). packets_through t client []) direct ∙ ap sdus_of (sym is))))
  end_none Wait client is direct = refl
  end_none MakeLink client is direct = refl
  end_none AskFeatures client is direct = refl
  end_none (OpenChannel psm) client is direct = refl
  end_none (SendSdu psm payload) client is direct = refl
  end_none (CloseChannel psm) client is direct = refl
  end_none BreakLink client is direct = refl
  end_none NoMemory client is direct = refl

  cancelled_direct : (client : Client) → client.transport ≡ L2cap → (cancelled client).transport ≡ L2cap
  cancelled_direct client direct = if_direct (may_cancel client) (ends outcomes.Cancelled client) (by client.cause)
    where
      by : (cause : Option Outcome) → (ends_by cause outcomes.Cancelled client).transport ≡ L2cap
      by None = direct
      by (Some earlier) = direct

      if_direct : (test : Bool) (other : Client) → other.transport ≡ L2cap → (cond test other client).transport ≡ L2cap
      if_direct true other is = is
      if_direct false other is = direct

  learned_makes : (heard : News) (circumstances : List Circumstance) (p : ClientProfile) → OpensNone (Learning circumstances heard) → p.client.transport ≡ L2cap → Makes p (profile.told circumstances heard p) [] (sent_with (pushed_from settings p (Learns circumstances heard ∷ [])) p.client)
  learned_makes (Linked event) circumstances p none direct = absurd none
  learned_makes (Failed status) circumstances p none direct = absurd none
  learned_makes (Opening name) circumstances p none direct = absurd none
  learned_makes (Heard pdu) circumstances p none direct = same_makes p p [] refl refl refl
  learned_makes TimerFired circumstances p none direct = same_makes p (profile.told circumstances TimerFired p) _ (hears_none events.Timer p.client) refl (fires_same p.client)
  learned_makes Cancelled circumstances p none direct =
      let now = cancelled p.client in
      let nothing : sent_with (Does Cancels ∷ (then_ends now ++ [])) p.client ≡ [] =
      ap (λ (l : List Affair). sent_with (Does Cancels ∷ l) p.client) (append-nil (then_ends now))
      ∙ (ap (λ (l : List (List ℕ)). l ++ sent_with (then_ends now) now) (none_if (p.client.psm == object_psm) [] refl) ∙ end_none (steps.steps now []).step now refl (cancelled_direct p.client direct)) in
      let held : p.client.given ≡ true → (ended now).given ≡ true = λ given. let still = cancelled_same p.client ∙ given in ap (λ (c : Client). c.given) (ended_held now still) ∙ still in
      Same nothing refl (even held) (λ stuck. record { none = stuck.none; held = held stuck.held })
    where
      even : (p.client.given ≡ true → (ended (cancelled p.client)).given ≡ true) → Even p → Even (profile.told circumstances Cancelled p)
      even held (inl none) = inl none
      even held (inr given) = inr (held given)

  checked_makes : (own : Option ℕ) (v : Channels) (p : ClientProfile) → own ≡ p.submitted → Makes p (profile.sent_on own v p) [] (sent_with (sent_pushed own v ++ []) p.client)
  checked_makes None v p is = same_makes p p [] refl refl refl
  checked_makes (Some own) v p is = by (waits own v)
    where
      never : Stuck p → ⊥
      never stuck = let e : Some own ≡ None = is ∙ stuck.none in cc

      by : (waiting : Bool) → Makes p (cond waiting p (profile.done (record p { submitted = None }))) [] (sent_with (cond waiting [] (Does Finishes ∷ []) ++ []) p.client)
      by true = same_makes p p [] refl refl refl
      by false = Same (ap (λ (l : List (List ℕ)). l ++ []) (none_if (p.client.psm == object_psm) [] refl)) refl (λ even. inl refl) (λ stuck. absurd (never stuck))

  -- ---- a step

  finish_none : (client : Client) → sent_over (Finishes ∷ []) client ≡ []
  finish_none client = ap (λ (l : List (List ℕ)). l ++ []) (none_if (client.psm == object_psm) [] refl)

  none_step : (step : Step) (client : Client) (parts : List Part) → sent_by (Asks parts) client ≡ [] → sent_with (step_pushed step parts ++ []) client ≡ []
  none_step Wait client parts none = ap (λ (l : List (List ℕ)). l ++ []) none
  none_step MakeLink client parts none = refl
  none_step AskFeatures client parts none = ap (λ (l : List (List ℕ)). l ++ sent_over (Finishes ∷ []) (push.done (Asks parts) client)) none ∙ finish_none (push.done (Asks parts) client)
  none_step (OpenChannel psm) client parts none = ap (λ (l : List (List ℕ)). l ++ sent_over (Finishes ∷ []) (push.done (Asks parts) client)) none ∙ finish_none (push.done (Asks parts) client)
  none_step (SendSdu psm payload) client parts none = ap (λ (l : List (List ℕ)). l ++ []) none
  none_step (CloseChannel psm) client parts none = ap (λ (l : List (List ℕ)). l ++ sent_over (Finishes ∷ []) (push.done (Asks parts) client)) none ∙ finish_none (push.done (Asks parts) client)
  none_step BreakLink client parts none = ap (λ (l : List (List ℕ)). l ++ sent_over (Finishes ∷ []) (push.done (Asks parts) client)) none ∙ finish_none (push.done (Asks parts) client)
  none_step (Ended outcome) client parts none = ap (λ (l : List (List ℕ)). l ++ []) none
  none_step NoMemory client parts none = ap (λ (l : List (List ℕ)). l ++ []) none

  pub same_submitted : (step : Step) (v : Channels) (after before : ClientProfile) → ((psm : ℕ) (payload : Payload) → step ≡ SendSdu psm payload → ⊥) → after.submitted ≡ before.submitted → (profile.takes step v after before).profile.submitted ≡ before.submitted
  same_submitted Wait v after before rests same = same
  same_submitted MakeLink v after before rests same = refl
  same_submitted AskFeatures v after before rests same = same
  same_submitted (OpenChannel psm) v after before rests same = same
  same_submitted (SendSdu psm payload) v after before rests same = absurd (rests psm payload refl)
  same_submitted (CloseChannel psm) v after before rests same = same
  same_submitted BreakLink v after before rests same = same
  same_submitted (Ended outcome) v after before rests same = same
  same_submitted NoMemory v after before rests same = same

  -- what it asks to send, on the channel of the object
  asked_is : (client : Client) (parts : List Part) (o : Stepped) → o ≡ steps.steps client parts → client.transport ≡ L2cap → sent_by (Asks parts) client ≡ cond (client.psm == object_psm) (cond (is_object client.stage) (sdus_of o.step) []) []
  asked_is client parts o is direct =
      ap (λ (l : List (List ℕ)). cond (client.psm == object_psm) (cond (is_object client.stage) l []) []) (ap (λ (t : Transport). packets_through t client parts) direct ∙ ap (λ (x : Stepped). sdus_of x.step) (sym is))

  asked_none : (client : Client) (parts : List Part) (o : Stepped) → o ≡ steps.steps client parts → client.transport ≡ L2cap → sdus_of o.step ≡ [] → sent_by (Asks parts) client ≡ []
  asked_none client parts o is direct none = asked_is client parts o is direct ∙ none_if (client.psm == object_psm) _ (none_if (is_object client.stage) _ none)

  pub not_held : (p : ClientProfile) → p.client.given ≡ false → p.client.given ≡ true → ⊥
  not_held p free held = let e : false ≡ true = sym free ∙ held in cc

  abbrev Stepping_makes : ClientProfile → Channels → Stepped → Type 0
  Stepping_makes p v o =
      Makes p (profile.takes o.step v (record p { client = o.client; parts = unused o.left p.parts }) p).profile (taken_with o.step p.endpoints v) (sent_with (step_pushed o.step (fitted p) ++ []) p.client)

  -- an SDU goes to its channel, or it does not
  pub submits_sent : (own : Option ℕ) (payload : Payload) (v : Channels) (p : ClientProfile) (client : Client) (parts : List Excerpt) → p.submitted ≡ None → p.client.given ≡ false → client.given ≡ true
      → (let after : ClientProfile = record p { client = client; parts = parts } in Makes p (profile.submits own payload v after).profile (taken_on own (sdu_of payload) v) (sdu_of payload ∷ []))
  submits_sent None payload v p client parts none free held = Refuses (λ stuck. not_held p free stuck.held) refl (sdu_of payload) refl (record { none = none; held = held })
  submits_sent (Some own) payload v p client parts none free held = by (takes_sdu own (sdu_of payload) v)
    where
      by : (taken : Bool)
          → Makes p (cond taken (profile.waiting (sends own (sdu_of payload) v) (record p { client = client; parts = parts; submitted = Some own })) (profile.waiting v (record p { client = client; parts = parts }))).profile (cond taken (sdu_of payload ∷ []) []) (sdu_of payload ∷ [])
      by true = Takes (λ stuck. not_held p free stuck.held) refl (inr held)
      by false = Refuses (λ stuck. not_held p free stuck.held) refl (sdu_of payload) refl (record { none = none; held = held })

  pub submits_client : (own : Option ℕ) (payload : Payload) (v : Channels) (after : ClientProfile) → (profile.submits own payload v after).profile.client ≡ after.client
  submits_client None payload v after = refl
  submits_client (Some own) payload v after = by (takes_sdu own (sdu_of payload) v)
    where
      by : (taken : Bool) → (cond taken (profile.waiting (sends own (sdu_of payload) v) (record after { submitted = Some own })) (profile.waiting v after)).profile.client ≡ after.client
      by true = refl
      by false = refl

  request_makes : (here : Bool) (octets : List ℕ) (v : Channels) (p : ClientProfile) (client : Client) (parts : List Excerpt) → (p.client.psm == object_psm) ≡ here → p.submitted ≡ None → p.client.given ≡ false → client.given ≡ true
      → (let after : ClientProfile = record p { client = client; parts = parts } in
      Makes p (profile.submits (endpoint_of p.client.psm p.endpoints) (Octets octets) v after).profile (cond here (taken_on (endpoint_of p.client.psm p.endpoints) octets v) []) (cond here (octets ∷ []) []))
  request_makes true octets v p client parts is none free held = submits_sent (endpoint_of p.client.psm p.endpoints) (Octets octets) v p client parts none free held
  request_makes false octets v p client parts is none free held =
      let after : ClientProfile = record p { client = client; parts = parts } in
      Takes (λ stuck. not_held p free stuck.held) refl (inr (ap (λ (c : Client). c.given) (submits_client (endpoint_of p.client.psm p.endpoints) (Octets octets) v after) ∙ held))

  pub none_submitted : (p : ClientProfile) → p.client.given ≡ false → Even p → p.submitted ≡ None
  none_submitted p free (inl none) = none
  none_submitted p free (inr held) = absurd (not_held p free held)

  kind_makes : (p : ClientProfile) (v : Channels) (o : Stepped) → o ≡ steps.steps p.client (fitted p) → p.client.transport ≡ L2cap → p.client.given ≡ false → p.submitted ≡ None → Kind p.client o → Stepping_makes p v o
  kind_makes p v o is direct free none (Rests quiet untaken rests) =
      let after : ClientProfile = record p { client = o.client; parts = unused o.left p.parts } in
      Same (none_step o.step p.client (fitted p) (asked_none p.client (fitted p) o is direct quiet)) (untaken p.endpoints v) (λ even. inl (same_submitted o.step v after p rests refl ∙ none)) (λ stuck. absurd (not_held p free stuck.held))
  kind_makes p v o is direct free none (Searches payload step away held) =
      let after : ClientProfile = record p { client = o.client; parts = unused o.left p.parts } in
      let asked : sent_by (Asks (fitted p)) p.client ≡ [] =
      asked_is p.client (fitted p) o is direct ∙ none_if (p.client.psm == object_psm) _ (cond-false (is_object p.client.stage) (sdus_of o.step) [] away) in
      let sent = none_step o.step p.client (fitted p) asked in
      let taken : taken_with o.step p.endpoints v ≡ [] = ap (λ (s : Step). taken_with s p.endpoints v) step in
      Takes (λ stuck. not_held p free stuck.held) (sent ∙ sym taken)
      (inr (ap (λ (s : Step). (profile.takes s v after p).profile.client.given) step ∙ (ap (λ (c : Client). c.given) (submits_client (endpoint_of 0x0001 p.endpoints) payload v after) ∙ held)))
  kind_makes p v o is direct free none (Sends octets step works held) =
      let after : ClientProfile = record p { client = o.client; parts = unused o.left p.parts } in
      let here = p.client.psm == object_psm in
      let asked : sent_by (Asks (fitted p)) p.client ≡ cond here (octets ∷ []) [] =
      asked_is p.client (fitted p) o is direct ∙ ap (λ (l : List (List ℕ)). cond here l []) (cond-true (is_object p.client.stage) (sdus_of o.step) [] works ∙ ap sdus_of step) in
      let sent : sent_with (step_pushed o.step (fitted p) ++ []) p.client ≡ cond here (octets ∷ []) [] =
      ap (λ (s : Step). sent_with (step_pushed s (fitted p) ++ []) p.client) step ∙ (append-nil (sent_by (Asks (fitted p)) p.client) ∙ asked) in
      subst (λ (s : Step). Makes p (profile.takes s v after p).profile (taken_with s p.endpoints v) (sent_with (step_pushed o.step (fitted p) ++ []) p.client)) (sym step)
      (subst (λ (l : List (List ℕ)). Makes p (profile.submits (endpoint_of p.client.psm p.endpoints) (Octets octets) v after).profile (cond here (taken_on (endpoint_of p.client.psm p.endpoints) octets v) []) l) (sym sent)
      (request_makes here octets v p o.client (unused o.left p.parts) refl none free held))

  rest_makes : (p : ClientProfile) (v : Channels) (step : Step) → (let o : Stepped = record { client = p.client; step = step; left = fitted p } in o ≡ steps.steps p.client (fitted p)) → p.client.transport ≡ L2cap → (step ≡ Wait) ⊎ (step ≡ NoMemory)
      → (let o : Stepped = record { client = p.client; step = step; left = fitted p } in Stepping_makes p v o)
  rest_makes p v step is direct (inl waits) =
      let o : Stepped = record { client = p.client; step = step; left = fitted p } in
      subst (λ (s : Step). Makes p (profile.takes s v (record p { client = p.client; parts = unused (fitted p) p.parts }) p).profile (taken_with s p.endpoints v) (sent_with (step_pushed s (fitted p) ++ []) p.client)) (sym waits)
      (same_makes p (record p { parts = unused (fitted p) p.parts }) _ (none_step Wait p.client (fitted p) (asked_none p.client (fitted p) o is direct (ap sdus_of waits))) refl refl)
  rest_makes p v step is direct (inr lacks) =
      let o : Stepped = record { client = p.client; step = step; left = fitted p } in
      subst (λ (s : Step). Makes p (profile.takes s v (record p { client = p.client; parts = unused (fitted p) p.parts }) p).profile (taken_with s p.endpoints v) (sent_with (step_pushed s (fitted p) ++ []) p.client)) (sym lacks)
      (same_makes p (record p { parts = unused (fitted p) p.parts }) _ (none_step NoMemory p.client (fitted p) (asked_none p.client (fitted p) o is direct (ap sdus_of lacks))) refl refl)

  steps_makes : (failed given : Bool) (p : ClientProfile) (v : Channels) → p.client.failed ≡ failed → p.client.given ≡ given → p.client.transport ≡ L2cap → Even p → Stepping_makes p v (steps.steps p.client (fitted p))
  steps_makes true given p v failed_is given_is direct even =
      let is = sym (cond-true p.client.failed _ _ failed_is) in subst (Stepping_makes p v) is (rest_makes p v NoMemory is direct (inr refl))
  steps_makes false true p v failed_is given_is direct even =
      let is = sym (cond-false p.client.failed _ _ failed_is ∙ cond-true p.client.given _ _ given_is) in subst (Stepping_makes p v) is (rest_makes p v Wait is direct (inl refl))
  steps_makes false false p v failed_is given_is direct even =
      let is = sym (cond-false p.client.failed _ _ failed_is ∙ cond-false p.client.given _ _ given_is) in
      kind_makes p v (steps.steps p.client (fitted p)) refl direct given_is (none_submitted p given_is even) (subst (Kind p.client) is (at_kind p.client.stage p.client (fitted p) refl direct))

  -- ---- any thing

  pub strand_makes : (strand : Strand) (v : Channels) (p : ClientProfile) → OpensNone strand → p.client.transport ≡ L2cap → Even p → Makes p (strand_profile (client_profile settings) strand v p) (taken_in strand v p) (sent_with (pushed_from settings p (strand_feeds strand v)) p.client)
  strand_makes (Hearing pdu) v p none direct even = up_makes (up (channel_of pdu) pdu v) v p
  strand_makes (Giving pdu) v p none direct even = same_makes p p [] refl refl refl
  strand_makes Firing v p none direct even = same_makes p p [] refl refl refl
  strand_makes Telling v p none direct even = told_makes v.events v p
  strand_makes (Gifting circumstances) v p none direct even = same_makes p ((client_profile settings).given circumstances p) [] refl refl refl
  strand_makes (Learning circumstances heard) v p none direct even = learned_makes heard circumstances p none direct
  strand_makes Checking v p none direct even = checked_makes p.submitted v p refl
  strand_makes Stepping v p none direct even = steps_makes p.client.failed p.client.given p v refl refl direct even

pub even_of : (p : ClientProfile) (taken sent : List (List ℕ)) → Sent p taken sent → Even p
even_of p taken sent (All even is) = even
even_of p taken sent (OneMore stuck one is) = inr stuck.held
