-- Where the push of a client stands, by what its host holds on its link: nothing at all where `Unheld`, one channel at most where `Single`, and
-- none that is only asked for where `Settled`; nor where `Told`, when it asked for the peer's features.
use Rattle.std.proofs.Common.{◌≡◌, ℕ, Bool, true, false, eqb, ◌-◌, ◌&&◌, ◌||◌, not, bit_and, is_some, min, nat_lt, List, [], Option, Some, None, Result, Ok, Err, refl, sym, ap, subst, ◌∙◌, ◌⊎◌, inl, inr, if◌then◌else◌}
use Rattle.std.proofs.lemmas.Bool.{and_parts}
use Rattle.shelf_model.specs.bt_base.specs.declared.ports.PortFault.{PortFault}
use Rattle.shelf_model.specs.bt_base.specs.declared.ports.PortFault.TheVariants as fault
use Rattle.shelf_model.specs.bt_base.specs.declared.settings.Transport.{Transport}
use Rattle.shelf_model.specs.bt_base.specs.declared.settings.Transport.TheVariants.{L2cap, Rfcomm}
use Rattle.shelf_model.specs.push_terms.specs.declared.outcome.Outcome.{Outcome}
use Rattle.shelf_model.specs.push_terms.specs.declared.outcome.Outcome.TheVariants as outcomes
use Rattle.shelf_model.specs.sdp_elements.specs.declared.target.Target.{Target}
use Rattle.shelf_model.specs.sdp_elements.specs.Targets.{is_service_psm, is_server_channel}
use Rattle.shelf_model.specs.sdp_client.specs.declared.reason.Found.{Found}
use Rattle.shelf_model.specs.sdp_client.specs.declared.reason.Found.TheVariants.{More, Service, NoService, Refused}
use Rattle.shelf_model.specs.sdp_client.specs.Asking.{is_due, after_resend, after_request, request_octets}
use Rattle.shelf_model.specs.sdp_client.specs.Hearing.{found_at, after_reply}
use Rattle.channel_laws.specs.channel_model.specs.declared.event.ChannelEvent.{ChannelEvent}
use Rattle.channel_laws.specs.channel_model.specs.declared.event.ChannelEvent.TheVariants as channels
use Rattle.channel_laws.specs.channel_model.specs.Value.{Channels}
use Rattle.channel_laws.specs.channel_model.specs.Calls.{peer_mtu}
use Rattle.push_laws.specs.push_model.specs.declared.closing.CloseCause.{CloseCause}
use Rattle.push_laws.specs.push_model.specs.declared.course.Point.TheVariants.{Due, Asked}
use Rattle.push_laws.specs.push_model.specs.declared.course.Stage.{Stage}
use Rattle.push_laws.specs.push_model.specs.declared.course.Stage.TheVariants.{Rest, Link, SearchChannel, Search, SearchEnd, Features, ObjectChannel, Object, ObjectEnd, LinkEnd, Over}
use Rattle.push_laws.specs.push_model.specs.Causes.{Ending, InOrder, AtOnce, ending_of, cause_of_link, cause_of_page, cause_of_close, cause_of_query, small_channel, unawaited_response}
use Rattle.push_laws.specs.push_model.specs.Client.{Client, ends, ends_by, ends_if, may_cancel, in_order, at_once, stage_after, begun_by, begins, cancelled}
use Rattle.push_laws.specs.push_model.specs.Events as events
use Rattle.push_laws.specs.push_model.specs.Payloads.{Octets}
use Rattle.push_laws.specs.push_model.specs.Steps.{Part, Step, Wait, MakeLink, AskFeatures, OpenChannel, SendSdu, CloseChannel, BreakLink, Ended, NoMemory, Stepped, steps_object, tells_end, steps_at, steps, rests, sends_sdu}
use Rattle.push_laws.specs.Opening.{way_in}
use Rattle.push_laws.proofs.Late.{anchor_of, Anchor, IsLate, Late, either, object_late, object_quiet}
use Rattle.shelf_model.specs.host_model.specs.Clients.{event_heard, opened_by, closed_by, cause_of, after_end, ended}
use Rattle.host_laws.proofs.AskingOnce.{may_name}

-- ---- where it stands

-- An end in order leaves a channel that may only be asked for, and then the link. No other channel follows.
abbrev pub EndsSearch : (Settled : Type 0) → Option Outcome → Type 0
EndsSearch Settled None = Settled
EndsSearch Settled (Some outcome) = Unit {0}

abbrev pub At : (Unheld Single Settled Told : Type 0) → Stage → Option Outcome → Type 0
At Unheld Single Settled Told Rest cause = Unit {0}
At Unheld Single Settled Told (Link point) cause = Unit {0}
At Unheld Single Settled Told (SearchChannel Due) cause = Unheld
At Unheld Single Settled Told (SearchChannel Asked) cause = Single
At Unheld Single Settled Told Search cause = Settled
At Unheld Single Settled Told (SearchEnd point) cause = EndsSearch Settled cause
At Unheld Single Settled Told (Features Due) cause = Settled
At Unheld Single Settled Told (Features Asked) cause = Told
At Unheld Single Settled Told (ObjectChannel Due) cause = Told
At Unheld Single Settled Told (ObjectChannel Asked) cause = Unit {0}
At Unheld Single Settled Told Object cause = Unit {0}
At Unheld Single Settled Told (ObjectEnd point) cause = Unit {0}
At Unheld Single Settled Told (LinkEnd point) cause = Unit {0}
At Unheld Single Settled Told Over cause = Unit {0}

-- the channel of its object has a PSM for packets over its transport, once one is found
pub record Stands (T : Transport) (Unheld Single Settled Told : Type 0) (client : Client) : Type 0 where
  pub direct : client.transport ≡ T
  pub named : may_name T client.psm ≡ true
  pub at : At Unheld Single Settled Told client.stage client.cause

-- a step asks for a channel
pub record Opening (T : Transport) (Unheld Told : Type 0) (psm : ℕ) (client : Client) : Type 0 where
  pub direct : client.transport ≡ T
  pub named : may_name T client.psm ≡ true
  pub how : (Unheld × (psm ≡ 0x0001) × (client.stage ≡ SearchChannel Asked)) ⊎ (Told × (may_name T psm ≡ true) × (client.stage ≡ ObjectChannel Asked))

-- a step asks for the peer's features
pub record Questioning (T : Transport) (Settled : Type 0) (client : Client) : Type 0 where
  pub direct : client.transport ≡ T
  pub named : may_name T client.psm ≡ true
  pub settled : Settled
  pub stage_is : client.stage ≡ Features Asked

abbrev pub StandsBehind : (T : Transport) (Unheld Single Settled Told : Type 0) → Step → Client → Type 0
StandsBehind T Unheld Single Settled Told Wait client = Stands T Unheld Single Settled Told client
StandsBehind T Unheld Single Settled Told MakeLink client = Stands T Unheld Single Settled Told client
StandsBehind T Unheld Single Settled Told AskFeatures client = Questioning T Settled client
StandsBehind T Unheld Single Settled Told (OpenChannel psm) client = Opening T Unheld Told psm client
StandsBehind T Unheld Single Settled Told (SendSdu psm payload) client = Stands T Unheld Single Settled Told client
StandsBehind T Unheld Single Settled Told (CloseChannel psm) client = Stands T Unheld Single Settled Told client
StandsBehind T Unheld Single Settled Told BreakLink client = Stands T Unheld Single Settled Told client
StandsBehind T Unheld Single Settled Told (Ended outcome) client = Stands T Unheld Single Settled Told client
StandsBehind T Unheld Single Settled Told NoMemory client = Stands T Unheld Single Settled Told client

-- where all may be, and where one level leads to another
pub at-each : (Unheld Single Settled Told Unheld' Single' Settled' Told' : Type 0) → (Unheld → Unheld') → (Single → Single') → (Settled → Settled') → (Told → Told') → (stage : Stage) (cause : Option Outcome) → At Unheld Single Settled Told stage cause → At Unheld' Single' Settled' Told' stage cause
at-each Unheld Single Settled Told Unheld' Single' Settled' Told' u o n t Rest cause at = tt
at-each Unheld Single Settled Told Unheld' Single' Settled' Told' u o n t (Link point) cause at = tt
at-each Unheld Single Settled Told Unheld' Single' Settled' Told' u o n t (SearchChannel Due) cause at = u at
at-each Unheld Single Settled Told Unheld' Single' Settled' Told' u o n t (SearchChannel Asked) cause at = o at
at-each Unheld Single Settled Told Unheld' Single' Settled' Told' u o n t Search cause at = n at
at-each Unheld Single Settled Told Unheld' Single' Settled' Told' u o n t (SearchEnd point) None at = n at
at-each Unheld Single Settled Told Unheld' Single' Settled' Told' u o n t (SearchEnd point) (Some outcome) at = tt
at-each Unheld Single Settled Told Unheld' Single' Settled' Told' u o n t (Features Due) cause at = n at
at-each Unheld Single Settled Told Unheld' Single' Settled' Told' u o n t (Features Asked) cause at = t at
at-each Unheld Single Settled Told Unheld' Single' Settled' Told' u o n t (ObjectChannel Due) cause at = t at
at-each Unheld Single Settled Told Unheld' Single' Settled' Told' u o n t (ObjectChannel Asked) cause at = tt
at-each Unheld Single Settled Told Unheld' Single' Settled' Told' u o n t Object cause at = tt
at-each Unheld Single Settled Told Unheld' Single' Settled' Told' u o n t (ObjectEnd point) cause at = tt
at-each Unheld Single Settled Told Unheld' Single' Settled' Told' u o n t (LinkEnd point) cause at = tt
at-each Unheld Single Settled Told Unheld' Single' Settled' Told' u o n t Over cause at = tt

pub at-all : (Unheld Single Settled Told : Type 0) → Unheld → Single → Settled → Told → (stage : Stage) (cause : Option Outcome) → At Unheld Single Settled Told stage cause
at-all Unheld Single Settled Told u o n t Rest cause = tt
at-all Unheld Single Settled Told u o n t (Link point) cause = tt
at-all Unheld Single Settled Told u o n t (SearchChannel Due) cause = u
at-all Unheld Single Settled Told u o n t (SearchChannel Asked) cause = o
at-all Unheld Single Settled Told u o n t Search cause = n
at-all Unheld Single Settled Told u o n t (SearchEnd point) None = n
at-all Unheld Single Settled Told u o n t (SearchEnd point) (Some outcome) = tt
at-all Unheld Single Settled Told u o n t (Features Due) cause = n
at-all Unheld Single Settled Told u o n t (Features Asked) cause = t
at-all Unheld Single Settled Told u o n t (ObjectChannel Due) cause = t
at-all Unheld Single Settled Told u o n t (ObjectChannel Asked) cause = tt
at-all Unheld Single Settled Told u o n t Object cause = tt
at-all Unheld Single Settled Told u o n t (ObjectEnd point) cause = tt
at-all Unheld Single Settled Told u o n t (LinkEnd point) cause = tt
at-all Unheld Single Settled Told u o n t Over cause = tt

-- a service over L2CAP has a PSM of its own
other_psm : (psm : ℕ) → is_service_psm psm ≡ true → may_name L2cap psm ≡ true
other_psm psm is = off (eqb psm 0x0001) (not (eqb psm 0x0003)) (and_parts (not (eqb psm 0x0001)) (not (eqb psm 0x0003)) (and_parts (eqb (bit_and psm 0x0101) 0x0001) (not (eqb psm 0x0001) && not (eqb psm 0x0003)) is).1).1
  where
    off : (a b : Bool) → b ≡ true → (a || b) ≡ true
    off true b is = refl
    off false b is = is

module _ (T : Transport) (Unheld Single Settled Told : Type 0) (settles : Settled → Told) where
  abbrev So : Client → Type 0
  So client = Stands T Unheld Single Settled Told client

  -- ---- an end

  once_at : (stage : Stage) (cause : Option Outcome) → At Unheld Single Settled Told (at_once stage) cause
  once_at Rest cause = tt
  once_at (Link Due) cause = tt
  once_at (Link Asked) cause = tt
  once_at (SearchChannel point) cause = tt
  once_at Search cause = tt
  once_at (SearchEnd point) cause = tt
  once_at (Features point) cause = tt
  once_at (ObjectChannel point) cause = tt
  once_at Object cause = tt
  once_at (ObjectEnd point) cause = tt
  once_at (LinkEnd point) cause = tt
  once_at Over cause = tt

  order_at : (stage : Stage) (o : Outcome) → At Unheld Single Settled Told (in_order stage) (Some o)
  order_at Rest o = tt
  order_at (Link Due) o = tt
  order_at (Link Asked) o = tt
  order_at (SearchChannel Due) o = tt
  order_at (SearchChannel Asked) o = tt
  order_at Search o = tt
  order_at (SearchEnd point) o = tt
  order_at (Features point) o = tt
  order_at (ObjectChannel Due) o = tt
  order_at (ObjectChannel Asked) o = tt
  order_at Object o = tt
  order_at (ObjectEnd point) o = tt
  order_at (LinkEnd point) o = tt
  order_at Over o = tt

  ending_at : (ending : Ending) (stage : Stage) (o : Outcome) → At Unheld Single Settled Told (stage_after ending stage) (Some o)
  ending_at InOrder stage o = order_at stage o
  ending_at AtOnce stage o = once_at stage (Some o)

  by_stand : (cause : Option Outcome) (o : Outcome) (client : Client) → So client → So (ends_by cause o client)
  by_stand None o client s = record { direct = s.direct; named = s.named; at = ending_at (ending_of o) client.stage o }
  by_stand (Some earlier) o client s = record { direct = s.direct; named = s.named; at = once_at client.stage client.cause }

  ends_stand : (o : Outcome) (client : Client) → So client → So (ends o client)
  ends_stand o client s = by_stand client.cause o client s

  ends_if_stand : (found : Option Outcome) (client : Client) → So client → So (ends_if found client)
  ends_if_stand None client s = s
  ends_if_stand (Some o) client s = ends_stand o client s

  pub cancels-stand : (client : Client) → So client → So (cancelled client)
  cancels-stand client s = either So (may_cancel client) (ends outcomes.Cancelled client) client (ends_stand outcomes.Cancelled client s) s

  over_stands : (cause : Option Outcome) (o : Outcome) (client : Client) → So client → So (events.over_by cause o client)
  over_stands None o client s = record { direct = s.direct; named = s.named; at = tt }
  over_stands (Some earlier) o client s = record { direct = s.direct; named = s.named; at = tt }

  -- ---- links

  pub down-stands : (reason : ℕ) (client : Client) → So client → So (events.hears_news (events.LinkDown reason) client)
  down-stands reason client s = either So (events.is_linked client.stage) (events.over (cause_of_link reason) client) client (over_stands client.cause (cause_of_link reason) client s) s

  pub failed-stands : (status : ℕ) (client : Client) → So client → So (events.hears_news (events.LinkFailed status) client)
  failed-stands status client s = either So (events.is_paging client.stage) (events.over (cause_of_page status) client) client (over_stands client.cause (cause_of_page status) client s) s

  linked_stands : Unheld → (stage : Stage) (client : Client) → So client → So (events.linked_at stage client)
  linked_stands new (Link Asked) client s =
      either So (is_some client.cause) (record client { stage = LinkEnd Due }) (record client { stage = SearchChannel Due }) (record { direct = s.direct; named = s.named; at = tt }) (record { direct = s.direct; named = s.named; at = new })
  linked_stands new Rest client s = s
  linked_stands new (Link Due) client s = s
  linked_stands new (SearchChannel point) client s = s
  linked_stands new Search client s = s
  linked_stands new (SearchEnd point) client s = s
  linked_stands new (Features point) client s = s
  linked_stands new (ObjectChannel point) client s = s
  linked_stands new Object client s = s
  linked_stands new (ObjectEnd point) client s = s
  linked_stands new (LinkEnd point) client s = s
  linked_stands new Over client s = s

  -- a link that came up has no channel yet
  pub up-stands : Unheld → (client : Client) → So client → So (events.hears_news events.LinkUp client)
  up-stands new client s = linked_stands new client.stage client s

  -- ---- channels

  object_opens : (t : Transport) (mtu : ℕ) (client : Client) → So client → So (events.object_opened t mtu client)
  object_opens L2cap mtu client s = either So (nat_lt mtu 255) (ends small_channel client) (record client { stage = Object; limit = min mtu 32767 }) (ends_stand small_channel client s) (record { direct = s.direct; named = s.named; at = tt })
  object_opens Rfcomm mtu client s = record { direct = s.direct; named = s.named; at = tt }

  opened_stands : (Single → Settled) → (stage : Stage) (psm mtu : ℕ) (client : Client) → At Unheld Single Settled Told stage client.cause → So client → So (events.opened_at stage psm mtu client)
  opened_stands one (SearchChannel Asked) psm mtu client at s = either So (eqb psm events.search_psm) (record client { stage = Search }) client (record { direct = s.direct; named = s.named; at = one at }) s
  opened_stands one (ObjectChannel Asked) psm mtu client at s = either So (eqb psm client.psm) (events.object_opened client.transport mtu client) client (object_opens client.transport mtu client s) s
  opened_stands one Rest psm mtu client at s = s
  opened_stands one (Link point) psm mtu client at s = s
  opened_stands one (SearchChannel Due) psm mtu client at s = s
  opened_stands one Search psm mtu client at s = s
  opened_stands one (SearchEnd point) psm mtu client at s = s
  opened_stands one (Features point) psm mtu client at s = s
  opened_stands one (ObjectChannel Due) psm mtu client at s = s
  opened_stands one Object psm mtu client at s = s
  opened_stands one (ObjectEnd point) psm mtu client at s = s
  opened_stands one (LinkEnd point) psm mtu client at s = s
  opened_stands one Over psm mtu client at s = s

  behind_at : (t : Transport) (cause : Option Outcome) → Settled → At Unheld Single Settled Told (events.stage_behind t) cause
  behind_at L2cap cause none = none
  behind_at Rfcomm cause none = settles none

  left_stands : (cause : Option Outcome) (client : Client) → EndsSearch Settled cause → So client → So (events.search_left cause client)
  left_stands None client at s = record { direct = s.direct; named = s.named; at = behind_at client.transport client.cause at }
  left_stands (Some cause) client at s = record { direct = s.direct; named = s.named; at = tt }

  search_closed_stands : (found : Option Outcome) (client : Client) → EndsSearch Settled client.cause → So client → So (events.search_closed found client)
  search_closed_stands None client at s = left_stands client.cause client at s
  search_closed_stands (Some o) client at s = ends_stand o client s

  closed_stands : (stage : Stage) (psm : ℕ) (cause : CloseCause) (client : Client) → At Unheld Single Settled Told stage client.cause → So client → So (events.closed_at stage psm cause client)
  closed_stands (SearchChannel Asked) psm cause client at s = either So (eqb psm events.search_psm) (ends_if (cause_of_close cause) client) client (ends_if_stand (cause_of_close cause) client s) s
  closed_stands Search psm cause client at s = either So (eqb psm events.search_psm) (ends_if (cause_of_close cause) client) client (ends_if_stand (cause_of_close cause) client s) s
  closed_stands (SearchEnd point) psm cause client at s = either So (eqb psm events.search_psm) (events.search_closed (cause_of_close cause) client) client (search_closed_stands (cause_of_close cause) client at s) s
  closed_stands (ObjectChannel Asked) psm cause client at s = either So (eqb psm client.psm) (ends_if (cause_of_close cause) client) client (ends_if_stand (cause_of_close cause) client s) s
  closed_stands Object psm cause client at s = either So (eqb psm client.psm) (ends_if (cause_of_close cause) client) client (ends_if_stand (cause_of_close cause) client s) s
  closed_stands (ObjectEnd point) psm cause client at s = either So (eqb psm client.psm) (record client { stage = LinkEnd Due }) client (record { direct = s.direct; named = s.named; at = tt }) s
  closed_stands Rest psm cause client at s = s
  closed_stands (Link point) psm cause client at s = s
  closed_stands (SearchChannel Due) psm cause client at s = s
  closed_stands (Features point) psm cause client at s = s
  closed_stands (ObjectChannel Due) psm cause client at s = s
  closed_stands (LinkEnd point) psm cause client at s = s
  closed_stands Over psm cause client at s = s

  told_stands : (stage : Stage) (client : Client) → At Unheld Single Settled Told stage client.cause → So client → So (if events.is_asking_features stage then record client { stage = ObjectChannel Due } else client)
  told_stands (Features Asked) client at s = record { direct = s.direct; named = s.named; at = at }
  told_stands (Features Due) client at s = s
  told_stands Rest client at s = s
  told_stands (Link point) client at s = s
  told_stands (SearchChannel point) client at s = s
  told_stands Search client at s = s
  told_stands (SearchEnd point) client at s = s
  told_stands (ObjectChannel point) client at s = s
  told_stands Object client at s = s
  told_stands (ObjectEnd point) client at s = s
  told_stands (LinkEnd point) client at s = s
  told_stands Over client at s = s

  opens_by : (found : Option ℕ) (psm : ℕ) → ((mtu : ℕ) → found ≡ Some mtu → Single → Settled) → (client : Client) → So client → So (opened_by found psm client)
  opens_by None psm one client s = s
  opens_by (Some mtu) psm one client s = opened_stands (one mtu refl) client.stage psm mtu client s.at s

  closes_by : (found : Option CloseCause) (psm : ℕ) (client : Client) → So client → So (closed_by found psm client)
  closes_by None psm client s = s
  closes_by (Some cause) psm client s = closed_stands client.stage psm cause client s.at s

  -- what happened, where the one channel that was asked for is there once it may be sent on
  pub event-stands : (event : ChannelEvent) (v : Channels) → ((own mtu : ℕ) → peer_mtu own v ≡ Some mtu → Single → Settled) → (client : Client) → So client → So (event_heard event v client)
  event-stands (channels.Opened own psm) v one client s = opens_by (peer_mtu own v) psm (one own) client s
  event-stands (channels.Closed own psm reason) v one client s = closes_by (cause_of reason) psm client s
  event-stands (channels.Features features) v one client s = told_stands client.stage client s.at s
  event-stands channels.FeaturesLost v one client s = either So (events.is_asking_features client.stage) (ends outcomes.RetryLimit client) client (ends_stand outcomes.RetryLimit client s) s
  event-stands (channels.DisconnectLost own) v one client s = s

  -- ---- SDUs

  named_at : (cause : Option Outcome) → Settled → EndsSearch Settled cause
  named_at None none = none
  named_at (Some o) none = tt

  way_stands : (t : Transport) (target : Target) (client : Client) → T ≡ t → Settled → So client → So (events.found_way t target client)
  way_stands L2cap target client t none s = by target.l2cap
    where
      kept : (psm : ℕ) (is : Bool) → is_service_psm psm ≡ is → So (events.found_psm (if is then Some psm else None) client)
      kept psm true is = record { direct = s.direct; named = subst (λ way. may_name way psm ≡ true) (sym t) (other_psm psm is); at = named_at client.cause none }
      kept psm false is = ends_stand outcomes.NoService client s

      by : (found : Option ℕ) → So (events.found_psm (events.kept_of is_service_psm found) client)
      by None = ends_stand outcomes.NoService client s
      by (Some psm) = kept psm (is_service_psm psm) refl
  way_stands Rfcomm target client t none s = by (events.kept_of is_server_channel target.rfcomm)
    where
      by : (found : Option ℕ) → So (events.found_channel found client)
      by None = ends_stand outcomes.NoService client s
      by (Some channel) = record { direct = s.direct; named = subst (λ way. may_name way events.rfcomm_psm ≡ true) (sym t) refl; at = named_at client.cause none }

  finds_stand : (found : Found) (client : Client) → Settled → So client → So (events.finds found client)
  finds_stand More client none s = record { direct = s.direct; named = s.named; at = s.at }
  finds_stand (Service target) client none s = way_stands client.transport target client (sym s.direct) none s
  finds_stand NoService client none s = ends_stand outcomes.NoService client s
  finds_stand (Refused reason) client none s = ends_if_stand (cause_of_query reason) client s

  late_at : (stage : Stage) (cause : Option Outcome) → IsLate stage → At Unheld Single Settled Told stage cause
  late_at Object cause late = tt
  late_at (ObjectEnd point) cause late = tt
  late_at (LinkEnd point) cause late = tt
  late_at Over cause late = tt
  late_at Rest cause late = tt
  late_at (Link point) cause late = absurd late
  late_at (SearchChannel point) cause late = absurd late
  late_at Search cause late = absurd late
  late_at (SearchEnd point) cause late = absurd late
  late_at (Features point) cause late = absurd late
  late_at (ObjectChannel point) cause late = absurd late

  -- it stays with its channel
  anchored : (before after : Client) → Late (anchor_of before) after → So before → So after
  anchored before after (late, same) s =
      record { direct = ap (λ (a : Anchor). a.transport) same ∙ s.direct; named = ap (λ (a : Anchor). may_name T a.psm) same ∙ s.named; at = late_at after.stage after.cause late }

  outside_stands : (t : Transport) (client : Client) → So client → So (events.hears_outside t client)
  outside_stands L2cap client s = ends_stand unawaited_response client s
  outside_stands Rfcomm client s = s

  sdu_stands : (stage : Stage) (psm : ℕ) (sdu : List ℕ) (client : Client) → stage ≡ client.stage → At Unheld Single Settled Told stage client.cause → So client → So (events.sdu_at stage psm sdu client)
  sdu_stands Search psm sdu client is at s =
      let asked : Client = record client { query = after_reply client.query sdu } in
      either So (eqb psm events.search_psm) (events.hears_reply sdu client) client (finds_stand (found_at client.query sdu) asked at (record { direct = s.direct; named = s.named; at = s.at })) s
  sdu_stands (ObjectChannel point) psm sdu client is at s = either So (eqb psm client.psm) (events.hears_outside client.transport client) client (outside_stands client.transport client s) s
  sdu_stands Object psm sdu client is at s =
      either So (eqb psm client.psm) (events.hears_object client.transport sdu client) client
      (anchored client (events.hears_object client.transport sdu client) (object_late (anchor_of client) client.transport sdu client (subst IsLate is tt, refl)) s) s
  sdu_stands (ObjectEnd point) psm sdu client is at s = either So (eqb psm client.psm) (events.hears_outside client.transport client) client (outside_stands client.transport client s) s
  sdu_stands Rest psm sdu client is at s = s
  sdu_stands (Link point) psm sdu client is at s = s
  sdu_stands (SearchChannel point) psm sdu client is at s = s
  sdu_stands (SearchEnd point) psm sdu client is at s = s
  sdu_stands (Features point) psm sdu client is at s = s
  sdu_stands (LinkEnd point) psm sdu client is at s = s
  sdu_stands Over psm sdu client is at s = s

  pub receives-stand : (psm : ℕ) (sdu : List ℕ) (client : Client) → So client → So (events.hears_news (events.Sdu psm sdu) client)
  receives-stand psm sdu client s = sdu_stands client.stage psm sdu client refl s.at s

  -- ---- the timer, and a push that begins

  pub fires-stand : (client : Client) → So client → So (events.hears_news events.Timer client)
  fires-stand client s =
      let fired : Client = record client { query = after_resend client.query } in
      either So (events.armed client && not (client.given || is_due client.query)) (if eqb client.left 0 then ends outcomes.RetryLimit client else fired) client
      (either So (eqb client.left 0) (ends outcomes.RetryLimit client) fired (ends_stand outcomes.RetryLimit client s) (record { direct = s.direct; named = s.named; at = s.at })) s

  begun_stands : (size : Result ℕ PortFault) (name : List ℕ) (client : Client) → So client → So (begun_by size name client)
  begun_stands (Ok size) name client s = record { direct = s.direct; named = s.named; at = tt }
  begun_stands (Err fault.Failed) name client s = record { direct = s.direct; named = s.named; at = tt }
  begun_stands (Err fault.NoMemory) name client s = record { direct = s.direct; named = s.named; at = s.at }

  pub begins-stand : (size : Result ℕ PortFault) (name : List ℕ) (client : Client) → So client → So (begins size name client)
  begins-stand size name client s = either So client.failed client (begun_by size name client) s (begun_stands size name client s)

  -- ---- steps

  abbrev Behind : Stepped → Type 0
  Behind one = StandsBehind T Unheld Single Settled Told one.step one.client

  one_of : (test : Bool) (a b : Stepped) → Behind a → Behind b → Behind (if test then a else b)
  one_of true a b x y = x
  one_of false a b x y = y

  quiet_behind : (step : Step) (client : Client) → way_in step ≡ [] → So client → StandsBehind T Unheld Single Settled Told step client
  quiet_behind Wait client none s = s
  quiet_behind MakeLink client none s = s
  quiet_behind AskFeatures client none s = cc
  quiet_behind (OpenChannel psm) client none s = cc
  quiet_behind (SendSdu psm payload) client none s = s
  quiet_behind (CloseChannel psm) client none s = s
  quiet_behind BreakLink client none s = s
  quiet_behind (Ended outcome) client none s = s
  quiet_behind NoMemory client none s = s

  tells_behind : (cause : Option Outcome) (client : Client) (parts : List Part) → So client → Behind (tells_end cause client parts)
  tells_behind None client parts s = s
  tells_behind (Some outcome) client parts s = record { direct = s.direct; named = s.named; at = tt }

  at_behind : (stage : Stage) (client : Client) (parts : List Part) → stage ≡ client.stage → At Unheld Single Settled Told stage client.cause → So client → Behind (steps_at stage client parts)
  at_behind Rest client parts is at s = s
  at_behind (Link Due) client parts is at s = record { direct = s.direct; named = s.named; at = tt }
  at_behind (Link Asked) client parts is at s = s
  at_behind (SearchChannel Due) client parts is at s = record { direct = s.direct; named = s.named; how = inl (at, refl, refl) }
  at_behind (SearchChannel Asked) client parts is at s = s
  at_behind Search client parts is at s =
      let asked : Client = record client { query = after_request client.query; left = client.left - 1; rest = request_octets client.query } in
      one_of (is_due client.query) (sends_sdu events.search_psm (Octets (request_octets client.query)) asked parts) (rests client parts) (record { direct = s.direct; named = s.named; at = s.at }) s
  at_behind (SearchEnd Due) client parts is at s = record { direct = s.direct; named = s.named; at = at }
  at_behind (SearchEnd Asked) client parts is at s = s
  at_behind (Features Due) client parts is at s = record { direct = s.direct; named = s.named; settled = at; stage_is = refl }
  at_behind (Features Asked) client parts is at s = s
  at_behind (ObjectChannel Due) client parts is at s = record { direct = s.direct; named = s.named; how = inr (at, s.named, refl) }
  at_behind (ObjectChannel Asked) client parts is at s = s
  at_behind Object client parts is at s =
      let one = steps_object client.transport client parts in
      let quiet = object_quiet (anchor_of client) client.transport client parts (subst IsLate is tt, refl) in quiet_behind one.step one.client quiet.1 (anchored client one.client quiet.0 s)
  at_behind (ObjectEnd Due) client parts is at s = record { direct = s.direct; named = s.named; at = tt }
  at_behind (ObjectEnd Asked) client parts is at s = s
  at_behind (LinkEnd Due) client parts is at s = record { direct = s.direct; named = s.named; at = tt }
  at_behind (LinkEnd Asked) client parts is at s = s
  at_behind Over client parts is at s = tells_behind client.cause client parts s

  pub steps-stand : (client : Client) (parts : List Part) → So client → Behind (steps client parts)
  steps-stand client parts s =
      one_of client.failed (record { client = client; step = NoMemory; left = parts }) (if client.given then rests client parts else steps_at client.stage client parts) s
      (one_of client.given (rests client parts) (steps_at client.stage client parts) s (at_behind client.stage client parts refl s.at s))

  end_stands : (step : Step) (after before : Client) → StandsBehind T Unheld Single Settled Told step after → So before → So (after_end step after before)
  end_stands Wait after before behind s = s
  end_stands MakeLink after before behind s = s
  end_stands AskFeatures after before behind s = s
  end_stands (OpenChannel psm) after before behind s = s
  end_stands (SendSdu psm payload) after before behind s = s
  end_stands (CloseChannel psm) after before behind s = s
  end_stands BreakLink after before behind s = s
  end_stands (Ended outcome) after before behind s = behind
  end_stands NoMemory after before behind s = s

  pub ended-stands : (client : Client) → So client → So (ended client)
  ended-stands client s = let one = steps client [] in end_stands one.step one.client client (steps-stand client [] s) s
