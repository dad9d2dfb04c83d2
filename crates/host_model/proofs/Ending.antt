-- A client waits within a few steps: each channel that it ends is one less.
use Rattle.std.proofs.Common.{ap, ◌≡◌, ◌≤◌, ℕ, ◌==◌, nat_lt, min, Bool, true, false, List, [], ◌∷◌, Option, Some, None, refl, arith, if◌then◌else◌}
use Rattle.rest_laws.specs.bt_base.specs.declared.settings.Settings.{Settings}
use Rattle.rest_laws.specs.bt_base.specs.declared.settings.Transport.{Transport}
use Rattle.rest_laws.specs.bt_base.specs.declared.settings.Transport.TheVariants.{L2cap, Rfcomm}
use Rattle.rest_laws.specs.push_terms.specs.declared.outcome.Outcome.{Outcome}
use Rattle.rest_laws.specs.push_terms.specs.declared.outcome.Outcome.TheVariants as outcomes
use Rattle.channel_model.specs.declared.event.ChannelEvent.{ChannelEvent}
use Rattle.channel_model.specs.declared.event.ChannelEvent.TheVariants as event
use Rattle.channel_model.specs.Value.{Channels}
use Rattle.channel_model.specs.Calls.{peer_mtu}
use Rattle.push_model.specs.declared.closing.CloseCause.{CloseCause}
use Rattle.push_model.specs.declared.course.Point.TheVariants.{Due, Asked}
use Rattle.push_model.specs.declared.course.Stage.{Stage}
use Rattle.push_model.specs.declared.course.Stage.TheVariants.{Rest, Link, SearchChannel, Search, SearchEnd, Features, ObjectChannel, Object, ObjectEnd, LinkEnd, Over}
use Rattle.push_model.specs.Causes.{Ending, InOrder, AtOnce, ending_of, cause_of_close, small_channel}
use Rattle.push_model.specs.Client.{Client, ends, ends_by, ends_if, in_order, at_once, stage_after}
use Rattle.push_model.specs.Events as events
use Rattle.host_model.specs.Hosts.{tells_each}
use Rattle.host_model.specs.Clients.{ClientProfile, client_profile, cause_of, closed_by, opened_by, event_heard, happened}

-- how many channels it may still end
abbrev pub left : Stage → ℕ
left Rest = 0
left (Link Due) = 2
left (Link Asked) = 2
left (SearchChannel Due) = 2
left (SearchChannel Asked) = 2
left Search = 2
left (SearchEnd Due) = 2
left (SearchEnd Asked) = 1
left (Features Due) = 1
left (Features Asked) = 1
left (ObjectChannel Due) = 1
left (ObjectChannel Asked) = 1
left Object = 1
left (ObjectEnd Due) = 1
left (ObjectEnd Asked) = 0
left (LinkEnd Due) = 0
left (LinkEnd Asked) = 0
left Over = 0

in_order_low : (stage : Stage) → left (in_order stage) ≤ left stage
in_order_low Rest = omega arith
in_order_low (Link Due) = omega arith
in_order_low (Link Asked) = omega arith
in_order_low (SearchChannel Due) = omega arith
in_order_low (SearchChannel Asked) = omega arith
in_order_low Search = omega arith
in_order_low (SearchEnd Due) = omega arith
in_order_low (SearchEnd Asked) = omega arith
in_order_low (Features Due) = omega arith
in_order_low (Features Asked) = omega arith
in_order_low (ObjectChannel Due) = omega arith
in_order_low (ObjectChannel Asked) = omega arith
in_order_low Object = omega arith
in_order_low (ObjectEnd Due) = omega arith
in_order_low (ObjectEnd Asked) = omega arith
in_order_low (LinkEnd Due) = omega arith
in_order_low (LinkEnd Asked) = omega arith
in_order_low Over = omega arith

at_once_low : (stage : Stage) → left (at_once stage) ≤ left stage
at_once_low Rest = omega arith
at_once_low (Link Due) = omega arith
at_once_low (Link Asked) = omega arith
at_once_low (SearchChannel Due) = omega arith
at_once_low (SearchChannel Asked) = omega arith
at_once_low Search = omega arith
at_once_low (SearchEnd Due) = omega arith
at_once_low (SearchEnd Asked) = omega arith
at_once_low (Features Due) = omega arith
at_once_low (Features Asked) = omega arith
at_once_low (ObjectChannel Due) = omega arith
at_once_low (ObjectChannel Asked) = omega arith
at_once_low Object = omega arith
at_once_low (ObjectEnd Due) = omega arith
at_once_low (ObjectEnd Asked) = omega arith
at_once_low (LinkEnd Due) = omega arith
at_once_low (LinkEnd Asked) = omega arith
at_once_low Over = omega arith

ending_low : (ending : Ending) (stage : Stage) → left (stage_after ending stage) ≤ left stage
ending_low InOrder stage = in_order_low stage
ending_low AtOnce stage = at_once_low stage

-- it may end no more channels than before
abbrev pub Low : Client → Client → Type 0
Low before after = left after.stage ≤ left before.stage

ends_low : (cause : Option Outcome) (outcome : Outcome) (client : Client) → Low client (ends_by cause outcome client)
ends_low None outcome client = ending_low (ending_of outcome) client.stage
ends_low (Some earlier) outcome client = at_once_low client.stage

ends_if_low : (outcome : Option Outcome) (client : Client) → Low client (ends_if outcome client)
ends_if_low None client = omega arith
ends_if_low (Some outcome) client = ends_low client.cause outcome client

either : (test : Bool) (client a b : Client) → Low client a → Low client b → Low client (if test then a else b)
either true client a b low_a low_b = low_a
either false client a b low_a low_b = low_b

same : (client : Client) → Low client client
same client = omega arith

-- ---- what happens to its channels

object_low : (transport : Transport) (mtu : ℕ) (client : Client) → left client.stage ≡ 1 → Low client (events.object_opened transport mtu client)
object_low L2cap mtu client is = either (nat_lt mtu 255) client (ends small_channel client) (record client { stage = Object; limit = min mtu 32767 }) (ends_low client.cause small_channel client) (omega (arith, is))
object_low Rfcomm mtu client is = omega (arith, is)

opened_low : (stage : Stage) (psm mtu : ℕ) (client : Client) → client.stage ≡ stage → Low client (events.opened_at stage psm mtu client)
opened_low Rest psm mtu client is = same client
opened_low (Link Due) psm mtu client is = same client
opened_low (Link Asked) psm mtu client is = same client
opened_low (SearchChannel Due) psm mtu client is = same client
opened_low (SearchChannel Asked) psm mtu client is = let two = ap left is in either (psm == events.search_psm) client (record client { stage = Search }) client (omega (arith, two)) (same client)
opened_low Search psm mtu client is = same client
opened_low (SearchEnd Due) psm mtu client is = same client
opened_low (SearchEnd Asked) psm mtu client is = same client
opened_low (Features Due) psm mtu client is = same client
opened_low (Features Asked) psm mtu client is = same client
opened_low (ObjectChannel Due) psm mtu client is = same client
opened_low (ObjectChannel Asked) psm mtu client is = either (psm == client.psm) client (events.object_opened client.transport mtu client) client (object_low client.transport mtu client (ap left is)) (same client)
opened_low Object psm mtu client is = same client
opened_low (ObjectEnd Due) psm mtu client is = same client
opened_low (ObjectEnd Asked) psm mtu client is = same client
opened_low (LinkEnd Due) psm mtu client is = same client
opened_low (LinkEnd Asked) psm mtu client is = same client
opened_low Over psm mtu client is = same client

behind_one : (transport : Transport) → left (events.stage_behind transport) ≡ 1
behind_one L2cap = refl
behind_one Rfcomm = refl

search_left_low : (cause : Option Outcome) (client : Client) → 1 ≤ left client.stage → Low client (events.search_left cause client)
search_left_low None client some = let one = behind_one client.transport in omega (arith, one, some)
search_left_low (Some cause) client some = omega arith

search_low : (outcome : Option Outcome) (client : Client) → 1 ≤ left client.stage → Low client (events.search_closed outcome client)
search_low None client some = search_left_low client.cause client some
search_low (Some outcome) client some = ends_low client.cause outcome client

closed_low : (stage : Stage) (psm : ℕ) (cause : CloseCause) (client : Client) → client.stage ≡ stage → Low client (events.closed_at stage psm cause client)
closed_low Rest psm cause client is = same client
closed_low (Link Due) psm cause client is = same client
closed_low (Link Asked) psm cause client is = same client
closed_low (SearchChannel Due) psm cause client is = same client
closed_low (SearchChannel Asked) psm cause client is = either (psm == events.search_psm) client (ends_if (cause_of_close cause) client) client (ends_if_low (cause_of_close cause) client) (same client)
closed_low Search psm cause client is = either (psm == events.search_psm) client (ends_if (cause_of_close cause) client) client (ends_if_low (cause_of_close cause) client) (same client)
closed_low (SearchEnd Due) psm cause client is = let some = ap left is in either (psm == events.search_psm) client (events.search_closed (cause_of_close cause) client) client (search_low (cause_of_close cause) client (omega (arith, some))) (same client)
closed_low (SearchEnd Asked) psm cause client is = let some = ap left is in either (psm == events.search_psm) client (events.search_closed (cause_of_close cause) client) client (search_low (cause_of_close cause) client (omega (arith, some))) (same client)
closed_low (Features Due) psm cause client is = same client
closed_low (Features Asked) psm cause client is = same client
closed_low (ObjectChannel Due) psm cause client is = same client
closed_low (ObjectChannel Asked) psm cause client is = either (psm == client.psm) client (ends_if (cause_of_close cause) client) client (ends_if_low (cause_of_close cause) client) (same client)
closed_low Object psm cause client is = either (psm == client.psm) client (ends_if (cause_of_close cause) client) client (ends_if_low (cause_of_close cause) client) (same client)
closed_low (ObjectEnd Due) psm cause client is = either (psm == client.psm) client (record client { stage = LinkEnd Due }) client (omega arith) (same client)
closed_low (ObjectEnd Asked) psm cause client is = either (psm == client.psm) client (record client { stage = LinkEnd Due }) client (omega arith) (same client)
closed_low (LinkEnd Due) psm cause client is = same client
closed_low (LinkEnd Asked) psm cause client is = same client
closed_low Over psm cause client is = same client

told_low : (stage : Stage) (client : Client) → client.stage ≡ stage → Low client (if events.is_asking_features stage then record client { stage = ObjectChannel Due } else client)
told_low Rest client is = same client
told_low (Link Due) client is = same client
told_low (Link Asked) client is = same client
told_low (SearchChannel Due) client is = same client
told_low (SearchChannel Asked) client is = same client
told_low Search client is = same client
told_low (SearchEnd Due) client is = same client
told_low (SearchEnd Asked) client is = same client
told_low (Features Due) client is = same client
told_low (Features Asked) client is = let one = ap left is in omega (arith, one)
told_low (ObjectChannel Due) client is = same client
told_low (ObjectChannel Asked) client is = same client
told_low Object client is = same client
told_low (ObjectEnd Due) client is = same client
told_low (ObjectEnd Asked) client is = same client
told_low (LinkEnd Due) client is = same client
told_low (LinkEnd Asked) client is = same client
told_low Over client is = same client

opens_low : (mtu : Option ℕ) (psm : ℕ) (client : Client) → Low client (opened_by mtu psm client)
opens_low None psm client = same client
opens_low (Some mtu) psm client = opened_low client.stage psm mtu client refl

closes_low : (cause : Option CloseCause) (psm : ℕ) (client : Client) → Low client (closed_by cause psm client)
closes_low None psm client = same client
closes_low (Some cause) psm client = closed_low client.stage psm cause client refl

event_low : (one : ChannelEvent) (channels : Channels) (client : Client) → Low client (event_heard one channels client)
event_low (event.Opened own psm) channels client = opens_low (peer_mtu own channels) psm client
event_low (event.Closed own psm reason) channels client = closes_low (cause_of reason) psm client
event_low (event.Features features) channels client = told_low client.stage client refl
event_low event.FeaturesLost channels client = either (events.is_asking_features client.stage) client (ends outcomes.RetryLimit client) client (ends_low client.cause outcomes.RetryLimit client) (same client)
event_low (event.DisconnectLost own) channels client = same client

pub all_low : (settings : Settings) (channels : Channels) (list : List ChannelEvent) (pushing : ClientProfile) → Low pushing.client (tells_each (client_profile settings) list channels pushing).client
all_low settings channels [] pushing = same pushing.client
all_low settings channels (one ∷ list) pushing =
    let now = record channels { events = list } in
    let first = event_low one now pushing.client in
    let rest = all_low settings now list (happened one now pushing) in
    omega (arith, first, rest)
