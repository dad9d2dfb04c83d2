-- A host that offers no channel takes few identifiers, whatever happens to it.
use Rattle.std.proofs.Common.{◌≡◌, ℕ, ◌+◌, ◌≤◌, ◌⊎◌, inl, inr, List, [], ◌∷◌, map, drop, Bool, true, false, cond, eqb, not, Option, Some, None, Ok, Err, refl, sym, ap, ◌∙◌, arith}
use Rattle.std.specs.Option.{option_or}
use Rattle.std.proofs.lemmas.Bool.{eqb-true}
use Rattle.std.specs.Prelude.{find, option_map, is_some, nat_le}
use Rattle.own_channel_laws.specs.talk_laws.specs.acl_fragments.specs.Pieces.{channel_of}
use Rattle.own_channel_laws.specs.talk_laws.specs.l2cap_signal.specs.Commands.{Content, Command, reject, connection_request, connection_response, configuration_request, configuration_response, disconnection_request, disconnection_response, echo_request, echo_response, information_request, information_response}
use Rattle.own_channel_laws.specs.talk_laws.specs.l2cap_signal.specs.Reading.{Answer as Read, answers}
use Rattle.own_channel_laws.specs.talk_laws.specs.l2cap_signal.specs.declared.refusal.SignalRefusal.TheVariants.{ZeroIdentifier, BadLength, UnknownCode, AboveMtu}
use Rattle.own_channel_laws.specs.channel_model.specs.ertm_model.specs.Giving.{timed}
use Rattle.own_channel_laws.specs.channel_model.specs.declared.errand.Errand.{Errand}
use Rattle.own_channel_laws.specs.channel_model.specs.declared.errand.Errand.TheVariants as errands
use Rattle.own_channel_laws.specs.channel_model.specs.declared.event.CloseReason.TheVariants.{OwnClosed, RetryLimit}
use Rattle.own_channel_laws.specs.channel_model.specs.declared.request_kind.RequestKind.{RequestKind}
use Rattle.own_channel_laws.specs.channel_model.specs.declared.request_kind.RequestKind.TheVariants as kinds
use Rattle.own_channel_laws.specs.channel_model.specs.Value.{Request, Queued, Answer, Ask, Own, Unasked, Asking, Granted, Carrier, Plain, Retransmitting, Setup, Stage, Requested, Connected, Leaving, Closing, Crossed, Held, Remembered, Channels}
use Rattle.own_channel_laws.specs.channel_model.specs.Policies.{Policy}
use Rattle.own_channel_laws.specs.channel_model.specs.Changing.{has_own, held_at, is_open, setup_of, queued, is_due}
use Rattle.own_channel_laws.specs.channel_model.specs.Asking.{new_request, asks, StillDue, OnceMore, Spent}
use Rattle.own_channel_laws.specs.channel_model.specs.Closing.{closes, ends}
use Rattle.own_channel_laws.specs.channel_model.specs.Answers.{kind_of_code, remembered, not_understood, too_long, answer_to}
use Rattle.own_channel_laws.specs.channel_model.specs.Following.{with_channel, follows_connection, follows, remembers, says, can_say, hears_new, hears_again, hears_kind}
use Rattle.own_channel_laws.specs.channel_model.specs.Responses.{features_in}
use Rattle.own_channel_laws.specs.channel_model.specs.Hearing.{hears_content, hears_malformed, is_response_code, is_kind, hears_unread, hears_command, hears_commands}
use Rattle.own_channel_laws.specs.channel_model.specs.Carrying.{takes}
use Rattle.own_channel_laws.specs.channel_model.specs.Timing.{fires, times, times_carrier, times_setup, times_stage, times_held, loses_end, times_end_at, times_end, loses_features, times_features, times_channels}
use Rattle.own_channel_laws.specs.channel_model.specs.Giving.{connection_at, configuration_by, configuration_at, disconnection_at, on_held, features_command, one_more, own_given, connection_given, configuration_given, disconnection_given, stage_given, counted, carrier_given, gives, carrier_spent, held_given, queue_given}
use Rattle.own_channel_laws.specs.channel_model.specs.Calls.{can_connect, disconnected_at, disconnected_held, sends_setup, sends_on, sends_held, carrier_with}
use Rattle.own_channel_laws.specs.channel_model.proofs.Lookups.{own_of, Distinct, find-append, distinct-append, found-distinct}
use Rattle.own_channel_laws.specs.channel_model.proofs.Going.{staged, new_held}
use Rattle.own_channel_laws.specs.channel_model.proofs.Walking.{found-own}
use Rattle.channel_laws.specs.Connections.{requests_by}
use Rattle.own_channel_laws.specs.Runs.{Occurrence, Comes, Connects, AsksFeatures, Disconnects, Sends, Gives, Fires, Tells, value_after}
use Rattle.channel_laws.proofs.Identifiers.{first_left, renewals, left_of, append-left, TakesFew, Spends, both-spend, still-spends, stills-spend, same-spends, either, goes-on, next-less, next-more, asks-end_on, named-so, WaitsAnew, anew-named, closed-spends, ends-spend, setup-spends, configuration-spends, disconnection-spends, grant-spends, response-spends, end-spends, features-spend, settles-spend, taken-held}

-- ---- commands

pub says_spend : (v : Channels) (identifier : ℕ) (response : Option Content) → Spends v (says identifier response v)
says_spend v identifier None = same-spends v
says_spend v identifier (Some content) = still-spends v (says identifier (Some content) v) refl refl refl

pub again_spends : (v : Channels) (identifier : ℕ) (response : Option Content) → Spends v (hears_again identifier response v)
again_spends v identifier response = either (can_say response v) v (says identifier response v) v (says_spend v identifier response) (same-spends v)

pub new_spends : (v : Channels) (kind : RequestKind) (identifier : ℕ) (response : Option Content) (more : Channels → Channels) → ((u : Channels) → Spends u (more u)) → Spends v (hears_new kind identifier response more v)
new_spends v kind identifier response more goes =
    let t : Channels = remembers kind identifier response v in
    let u : Channels = says identifier response t in
    either (can_say response v) v (more u) v (both-spend v u (more u) (both-spend v t u (still-spends v t refl refl refl) (says_spend t identifier response)) (goes u)) (same-spends v)

pub kind_spends : (v : Channels) (last : Option Remembered) (kind : RequestKind) (identifier : ℕ) (response : Option Content) (more : Channels → Channels) → ((u : Channels) → Spends u (more u)) → Spends v (hears_kind last kind identifier response more v)
kind_spends v None kind identifier response more goes = new_spends v kind identifier response more goes
kind_spends v (Some last) kind identifier response more goes =
    either (eqb last.identifier identifier) v (hears_again identifier last.response v) (hears_new kind identifier response more v) (again_spends v identifier last.response) (new_spends v kind identifier response more goes)

module _ (policy : Policy) (none : (psm : ℕ) → policy.offers psm ≡ false) where
  -- a channel that is asked for of it is refused
  called_spends : (psm source : ℕ) (u : Channels) → Spends u (follows policy (connection_request psm source) u)
  called_spends psm source u = by (policy.offers psm) _ (none psm)
    where
      by : (offers : Bool) (other : ℕ) → offers ≡ false → Spends u (follows_connection (cond (not offers) 2 other) psm source u)
      by true other is = cc
      by false other is = same-spends u

  follows_spend : (content : Content) (u : Channels) → Spends u (follows policy content u)
  follows_spend (reject reason rest) u = same-spends u
  follows_spend (connection_request psm source) u = called_spends psm source u
  follows_spend (connection_response destination source answer status) u = same-spends u
  follows_spend (configuration_request destination flags options) u = configuration-spends u destination (held_at destination u) policy flags options refl
  follows_spend (configuration_response source flags answer options) u = same-spends u
  follows_spend (disconnection_request destination source) u = disconnection-spends u destination (held_at destination u) source refl
  follows_spend (disconnection_response destination source) u = same-spends u
  follows_spend (echo_request octets) u = same-spends u
  follows_spend (echo_response octets) u = same-spends u
  follows_spend (information_request kind) u = same-spends u
  follows_spend (information_response kind answer rest) u = same-spends u

  content_spends : (identifier : ℕ) (content : Content) (v : Channels) → Spends v (hears_content policy identifier content v)
  content_spends identifier (reject reason rest) v = features-spend v identifier None
  content_spends identifier (connection_request psm source) v = let c : Content = connection_request psm source in kind_spends v v.memory.connection kinds.Connection identifier (answer_to policy c v) (follows policy c) (follows_spend c)
  content_spends identifier (connection_response destination source answer status) v = grant-spends v source (held_at source v) policy identifier destination answer refl
  content_spends identifier (configuration_request destination flags options) v = let c : Content = configuration_request destination flags options in kind_spends v v.memory.configuration kinds.Configuration identifier (answer_to policy c v) (follows policy c) (follows_spend c)
  content_spends identifier (configuration_response source flags answer options) v = response-spends v source (held_at source v) policy identifier answer options refl
  content_spends identifier (disconnection_request destination source) v = let c : Content = disconnection_request destination source in kind_spends v v.memory.disconnection kinds.Disconnection identifier (answer_to policy c v) (follows policy c) (follows_spend c)
  content_spends identifier (disconnection_response destination source) v = end-spends v (held_at source v) destination
  content_spends identifier (echo_request octets) v = let c : Content = echo_request octets in kind_spends v v.memory.echo kinds.Echo identifier (answer_to policy c v) (follows policy c) (follows_spend c)
  content_spends identifier (echo_response octets) v = same-spends v
  content_spends identifier (information_request kind) v = let c : Content = information_request kind in kind_spends v v.memory.information kinds.Information identifier (answer_to policy c v) (follows policy c) (follows_spend c)
  content_spends identifier (information_response kind answer rest) v = features-spend v identifier (features_in kind answer rest)

  malformed_spends : (kind : Option RequestKind) (identifier : ℕ) (v : Channels) → Spends v (hears_malformed kind identifier v)
  malformed_spends None identifier v = same-spends v
  malformed_spends (Some kind) identifier v = kind_spends v (remembered kind v.memory) kind identifier (Some not_understood) (λ w. w) (λ u. same-spends u)

  unread_spends : (code identifier : ℕ) (v : Channels) → Spends v (hears_unread code identifier v)
  unread_spends code identifier v =
      let malformed = hears_malformed (kind_of_code code) identifier v in
      let again = hears_again identifier (Some not_understood) v in
      let known = cond (is_kind (kind_of_code code)) malformed again in
      either (eqb identifier 0) v v (cond (is_response_code code) v known) (same-spends v)
      (either (is_response_code code) v v known (same-spends v) (either (is_kind (kind_of_code code)) v malformed again (malformed_spends (kind_of_code code) identifier v) (again_spends v identifier (Some not_understood))))

  command_spends : (one : Read) (v : Channels) → Spends v (hears_command policy one v)
  command_spends (Ok command) v = content_spends command.identifier command.content v
  command_spends (Err (ZeroIdentifier code identifier)) v = same-spends v
  command_spends (Err (BadLength code None)) v = same-spends v
  command_spends (Err (BadLength code (Some identifier))) v = unread_spends code identifier v
  command_spends (Err (UnknownCode code None)) v = same-spends v
  command_spends (Err (UnknownCode code (Some identifier))) v = unread_spends code identifier v
  command_spends (Err (AboveMtu code None)) v = same-spends v
  command_spends (Err (AboveMtu code (Some identifier))) v = either (eqb identifier 0) v v (hears_again identifier (Some too_long) v) (same-spends v) (again_spends v identifier (Some too_long))

  commands_spend : (list : List Read) (v : Channels) → Spends v (hears_commands policy list v)
  commands_spend [] v = same-spends v
  commands_spend (one ∷ list) v = let w : Channels = hears_command policy one v in both-spend v w (hears_commands policy list w) (command_spends one v) (commands_spend list w)

-- ---- the timer

pub times_spend : (v : Channels) (tries : ℕ) (errand : Errand) (request : Request) (spent : Channels → Channels) → Spends v (spent v) → Spends v (times tries errand request spent v)
times_spend v tries errand request spent goes = by (is_due errand v) (nat_le tries request.given)
  where
    by : (due most : Bool) → Spends v (fires (cond due StillDue (cond most Spent OnceMore)) errand spent v)
    by true most = same-spends v
    by false true = goes
    by false false = still-spends v (queued (Ask errand) v) refl refl refl

pub carrier_spends : (v : Channels) (carrier : Option Carrier) (held : Held) (setup : Setup) → find (has_own held.own) v.held ≡ Some held → setup_of held.stage ≡ Some setup → Spends v (times_carrier carrier held setup v)
carrier_spends v None held setup found is = same-spends v
carrier_spends v (Some (Plain agreed waits)) held setup found is = same-spends v
carrier_spends v (Some (Retransmitting machine)) held setup found is = settles-spend v (timed machine).closed (timed machine) held setup found is

pub own_spends : (v : Channels) (own : Own) (tries : ℕ) (held : Held) (setup : Setup) → find (has_own held.own) v.held ≡ Some held → setup_of held.stage ≡ Some setup → Spends v (times_setup own tries held setup v)
own_spends v Unasked tries held setup found is = carrier_spends v setup.carrier held setup found is
own_spends v (Asking request options) tries held setup found is = times_spend v tries (errands.Configuration held.own) request (closes RetryLimit held) (closed-spends v held RetryLimit found)
own_spends v Granted tries held setup found is = carrier_spends v setup.carrier held setup found is

pub stage_spends : (v : Channels) (stage : Stage) (tries : ℕ) (held : Held) → held.stage ≡ stage → find (has_own held.own) v.held ≡ Some held → Spends v (times_stage stage tries held v)
stage_spends v (Requested request) tries held is found = times_spend v tries (errands.Connection held.own) request (closes RetryLimit held) (closed-spends v held RetryLimit found)
stage_spends v (Connected peer setup) tries held is found = own_spends v setup.own tries held setup found (ap setup_of is)
stage_spends v (Leaving peer setup request) tries held is found = own_spends v setup.own tries held setup found (ap setup_of is)
stage_spends v (Closing peer request checked) tries held is found = same-spends v
stage_spends v (Crossed peer request) tries held is found = same-spends v

pub held_spends : (v : Channels) (own : ℕ) (held : Option Held) (tries : ℕ) → find (has_own own) v.held ≡ held → Spends v (times_held held tries v)
held_spends v own None tries is = same-spends v
held_spends v own (Some held) tries is = stage_spends v held.stage tries held refl (found-own own v held is)

pub loses_spends : (v : Channels) (held : Held) → Spends v (loses_end held v)
loses_spends v held = let u : Channels = ends RetryLimit held v in both-spend v u (loses_end held v) (ends-spend v held RetryLimit held.stage) (still-spends u (loses_end held v) refl refl refl)

pub leaves_spend : (v : Channels) (stage : Stage) (tries : ℕ) (held : Held) → Spends v (times_end_at stage tries held v)
leaves_spend v (Requested request) tries held = same-spends v
leaves_spend v (Connected peer setup) tries held = same-spends v
leaves_spend v (Leaving peer setup request) tries held = times_spend v tries (errands.Disconnection held.own) request (ends RetryLimit held) (ends-spend v held RetryLimit held.stage)
leaves_spend v (Closing peer request checked) tries held = times_spend v tries (errands.Disconnection held.own) request (loses_end held) (loses_spends v held)
leaves_spend v (Crossed peer request) tries held = times_spend v tries (errands.Disconnection held.own) request (loses_end held) (loses_spends v held)

pub ended_spends : (v : Channels) (held : Option Held) (tries : ℕ) → Spends v (times_end held tries v)
ended_spends v None tries = same-spends v
ended_spends v (Some held) tries = leaves_spend v held.stage tries held

pub channels_spend : (tries : ℕ) (owns : List ℕ) (v : Channels) → Spends v (times_channels tries owns v)
channels_spend tries [] v = same-spends v
channels_spend tries (own ∷ owns) v =
    let u : Channels = times_held (held_at own v) tries v in
    let w : Channels = times_end (held_at own u) tries u in
    both-spend v w (times_channels tries owns w) (both-spend v u w (held_spends v own (held_at own v) tries refl) (ended_spends u (held_at own u) tries)) (channels_spend tries owns w)

pub asked_features_spend : (v : Channels) (features : Option Request) (tries : ℕ) → Spends v (times_features features tries v)
asked_features_spend v None tries = same-spends v
asked_features_spend v (Some request) tries = times_spend v tries errands.Features request loses_features (stills-spend v (loses_features v) refl refl (inl refl))

-- ---- what the host does by itself

pub left_at : (v : Channels) (held : Held) (stage : Stage) → held.stage ≡ stage → find (has_own held.own) v.held ≡ Some held → Spends v (disconnected_at stage held v)
left_at v held (Requested request) is found = closed-spends v held OwnClosed found
left_at v held (Connected peer setup) is found =
    let now : left_of held.stage ≡ first_left setup.own + (renewals setup.renewed + 1) = ap left_of is in
    asks-end_on v (disconnected_at (Connected peer setup) held v) held (Leaving peer setup (new_request v)) found refl refl refl (omega (arith, now)) (inl refl) (inr (sym (ap configuration_at is))) (λ command asked. named-so (new_request v) _ command asked)
left_at v held (Leaving peer setup request) is found = same-spends v
left_at v held (Closing peer request checked) is found = same-spends v
left_at v held (Crossed peer request) is found = same-spends v

pub left_held : (v : Channels) (own : ℕ) (held : Option Held) → find (has_own own) v.held ≡ held → Spends v (disconnected_held held v)
left_held v own None is = same-spends v
left_held v own (Some held) is = left_at v held held.stage refl (found-own own v held is)

pub sent_same : (setup : Setup) (sdu : List ℕ) → (first_left (sends_setup setup sdu).own ≤ first_left setup.own) × ((sends_setup setup sdu).renewed ≡ setup.renewed) × ((sends_setup setup sdu).own ≡ setup.own)
sent_same setup sdu = by (is_open setup)
  where
    by : (b : Bool) → (let after : Setup = record setup { carrier = option_map (λ carrier. carrier_with carrier sdu) setup.carrier } in (first_left (cond b after setup).own ≤ first_left setup.own) × ((cond b after setup).renewed ≡ setup.renewed) × ((cond b after setup).own ≡ setup.own))
    by true = (omega arith, refl, refl)
    by false = (omega arith, refl, refl)

pub sent_on : (v : Channels) (setup : Option Setup) (sdu : List ℕ) (held : Held) → find (has_own held.own) v.held ≡ Some held → setup_of held.stage ≡ setup → Spends v (sends_on setup sdu held v)
sent_on v None sdu held found is = same-spends v
sent_on v (Some setup) sdu held found is = let same = sent_same setup sdu in setup-spends v (sends_on (Some setup) sdu held v) held setup (sends_setup setup sdu) found is refl refl refl same.0 same.1 (λ peer. inr (ap (λ own. configuration_by own peer) same.2))

pub sent_held : (v : Channels) (own : ℕ) (held : Option Held) (sdu : List ℕ) → find (has_own own) v.held ≡ held → Spends v (sends_held held sdu v)
sent_held v own None sdu is = same-spends v
sent_held v own (Some held) sdu is = sent_on v (setup_of held.stage) sdu held (found-own own v held is) refl

-- ---- the next PDU is given

pub own_same : (own : Own) → first_left (own_given own) ≡ first_left own
own_same Unasked = refl
own_same (Asking request options) = refl
own_same Granted = refl

pub connection_same : (stage : Stage) → left_of (connection_given stage) ≡ left_of stage
connection_same (Requested request) = refl
connection_same (Connected peer setup) = refl
connection_same (Leaving peer setup request) = refl
connection_same (Closing peer request checked) = refl
connection_same (Crossed peer request) = refl

pub configuration_same : (stage : Stage) → left_of (configuration_given stage) ≡ left_of stage
configuration_same (Requested request) = refl
configuration_same (Connected peer setup) = ap (λ n. n + (renewals setup.renewed + 1)) (own_same setup.own)
configuration_same (Leaving peer setup request) = own_same setup.own
configuration_same (Closing peer request checked) = refl
configuration_same (Crossed peer request) = refl

pub disconnection_same : (stage : Stage) → left_of (disconnection_given stage) ≡ left_of stage
disconnection_same (Requested request) = refl
disconnection_same (Connected peer setup) = refl
disconnection_same (Leaving peer setup request) = refl
disconnection_same (Closing peer request checked) = refl
disconnection_same (Crossed peer request) = refl

-- nothing but how often it was given
pub record IsSame (given : Stage → Stage) : Type 0 where
  pub left : (stage : Stage) → left_of (given stage) ≡ left_of stage
  pub channel : (held : Held) (stage : Stage) → connection_at (given stage) (staged held (given stage)) ≡ connection_at stage held
  pub options : (stage : Stage) → configuration_at (given stage) ≡ configuration_at stage
  pub ending : (held : Held) (stage : Stage) → disconnection_at (given stage) (staged held (given stage)) ≡ disconnection_at stage held

pub connection_is : IsSame connection_given
connection_is = record { left = connection_same; channel = channel; options = options; ending = ending }
  where
    channel : (held : Held) (stage : Stage) → connection_at (connection_given stage) (staged held (connection_given stage)) ≡ connection_at stage held
    channel held (Requested request) = refl
    channel held (Connected peer setup) = refl
    channel held (Leaving peer setup request) = refl
    channel held (Closing peer request checked) = refl
    channel held (Crossed peer request) = refl

    options : (stage : Stage) → configuration_at (connection_given stage) ≡ configuration_at stage
    options (Requested request) = refl
    options (Connected peer setup) = refl
    options (Leaving peer setup request) = refl
    options (Closing peer request checked) = refl
    options (Crossed peer request) = refl

    ending : (held : Held) (stage : Stage) → disconnection_at (connection_given stage) (staged held (connection_given stage)) ≡ disconnection_at stage held
    ending held (Requested request) = refl
    ending held (Connected peer setup) = refl
    ending held (Leaving peer setup request) = refl
    ending held (Closing peer request checked) = refl
    ending held (Crossed peer request) = refl

pub configuration_is : IsSame configuration_given
configuration_is = record { left = configuration_same; channel = channel; options = options; ending = ending }
  where
    channel : (held : Held) (stage : Stage) → connection_at (configuration_given stage) (staged held (configuration_given stage)) ≡ connection_at stage held
    channel held (Requested request) = refl
    channel held (Connected peer setup) = refl
    channel held (Leaving peer setup request) = refl
    channel held (Closing peer request checked) = refl
    channel held (Crossed peer request) = refl

    asked : (own : Own) (peer : ℕ) → configuration_by (own_given own) peer ≡ configuration_by own peer
    asked Unasked peer = refl
    asked (Asking request options) peer = refl
    asked Granted peer = refl

    options : (stage : Stage) → configuration_at (configuration_given stage) ≡ configuration_at stage
    options (Requested request) = refl
    options (Connected peer setup) = asked setup.own peer
    options (Leaving peer setup request) = asked setup.own peer
    options (Closing peer request checked) = refl
    options (Crossed peer request) = refl

    ending : (held : Held) (stage : Stage) → disconnection_at (configuration_given stage) (staged held (configuration_given stage)) ≡ disconnection_at stage held
    ending held (Requested request) = refl
    ending held (Connected peer setup) = refl
    ending held (Leaving peer setup request) = refl
    ending held (Closing peer request checked) = refl
    ending held (Crossed peer request) = refl

pub disconnection_is : IsSame disconnection_given
disconnection_is = record { left = disconnection_same; channel = channel; options = options; ending = ending }
  where
    channel : (held : Held) (stage : Stage) → connection_at (disconnection_given stage) (staged held (disconnection_given stage)) ≡ connection_at stage held
    channel held (Requested request) = refl
    channel held (Connected peer setup) = refl
    channel held (Leaving peer setup request) = refl
    channel held (Closing peer request checked) = refl
    channel held (Crossed peer request) = refl

    options : (stage : Stage) → configuration_at (disconnection_given stage) ≡ configuration_at stage
    options (Requested request) = refl
    options (Connected peer setup) = refl
    options (Leaving peer setup request) = refl
    options (Closing peer request checked) = refl
    options (Crossed peer request) = refl

    ending : (held : Held) (stage : Stage) → disconnection_at (disconnection_given stage) (staged held (disconnection_given stage)) ≡ disconnection_at stage held
    ending held (Requested request) = refl
    ending held (Connected peer setup) = refl
    ending held (Leaving peer setup request) = refl
    ending held (Closing peer request checked) = refl
    ending held (Crossed peer request) = refl

pub counted_at : (v : Channels) (given : Stage → Stage) (own : ℕ) (held : Option Held) → IsSame given → find (has_own own) v.held ≡ held → Spends v (stage_given given held v)
counted_at v given own None same is = same-spends v
counted_at v given own (Some held) same is =
    let as_many = same.left held.stage in
    goes-on v (stage_given given (Some held) v) held (given held.stage) (found-own own v held is) refl refl refl (omega (arith, as_many))
    (record { channel = inr (same.channel held held.stage); options = inr (same.options held.stage); ending = inr (same.ending held held.stage) })

pub features_same : (features : Option Request) → features_command (option_map one_more features) ≡ features_command features
features_same None = refl
features_same (Some request) = refl

pub counted_spends : (v : Channels) (errand : Errand) → Spends v (counted errand v)
counted_spends v (errands.Connection own) = counted_at v connection_given own (held_at own v) connection_is refl
counted_spends v (errands.Configuration own) = counted_at v configuration_given own (held_at own v) configuration_is refl
counted_spends v (errands.Disconnection own) = counted_at v disconnection_given own (held_at own v) disconnection_is refl
counted_spends v errands.Features = stills-spend v (counted errands.Features v) refl refl (inr (features_same v.features))

pub given_spends : (v : Channels) (held : Option Held) → find gives v.held ≡ held → Spends v (held_given held v)
given_spends v None is lone = same-spends v lone
given_spends v (Some held) is lone = by (setup_of held.stage) refl lone
  where
    by : (setup : Option Setup) → setup_of held.stage ≡ setup → Spends v (carrier_spent setup held v)
    by None none = same-spends v
    by (Some setup) some =
        let after : Setup = record setup { carrier = option_map carrier_given setup.carrier } in
        setup-spends v (carrier_spent (Some setup) held v) held setup after (found-distinct own_of gives v.held held lone is) some refl refl refl (omega arith) refl (λ peer. inr refl)

pub queue_spends : (v : Channels) (queue : List Queued) → Spends v (queue_given queue v)
queue_spends v [] = given_spends v (find gives v.held) refl
queue_spends v (Answer command ∷ behind) = still-spends v (queue_given (Answer command ∷ behind) v) refl refl refl
queue_spends v (Ask errand ∷ behind) =
    let u : Channels = record v { queue = behind } in both-spend v u (counted errand u) (still-spends v u refl refl refl) (counted_spends u errand)

-- ---- whatever happens

pub more_spent : (more : ℕ) (v w : Channels) → Spends v w → Distinct own_of v.held → TakesFew more v w
more_spent more v w spends lone =
    let one = spends lone in
    let less = one.less in
    record { lone = one.lone; less = omega (arith, less); rises = λ few. one.rises (omega (arith, few)); named = λ few. one.named (omega (arith, few)) }

pub called : (v : Channels) (psm : ℕ) (can : Bool) → find (has_own v.next) v.held ≡ None → Distinct own_of v.held → (let w : Channels = asks (errands.Connection v.next) (with_channel psm (Requested (new_request v)) v) in TakesFew 5 v (cond can w v))
called v psm false none lone = more_spent 5 v v (same-spends v) lone
called v psm true none lone =
    let new : Held = new_held psm v.next (Requested (new_request v)) in
    let whole = append-left v.held new in
    let next = next-less v.identifier in
    record {
      lone = distinct-append own_of v.held new none lone;
      less = omega (arith, whole, next);
      rises = λ few. let now = next-more v.identifier (omega (arith, few)) in omega (arith, now);
      named = λ few. anew-named (errands.Connection v.next) v w (next-more v.identifier (omega (arith, few))) anew;
    }
  where
    w : Channels
    w = asks (errands.Connection v.next) (with_channel psm (Requested (new_request v)) v)

    new : Held
    new = new_held psm v.next (Requested (new_request v))

    at : (f : Held → Option Command) (found : Option Held) (t : Bool) (command : Command) → f new ≡ None → on_held f (option_or found (cond t (Some new) None)) ≡ Some command → on_held f found ≡ Some command
    at f None true command empty is = let never : None ≡ Some command = sym empty ∙ is in absurd cc
    at f None false command empty is = is
    at f (Some held) t command empty is = is

    call : (own : ℕ) (found : Option Held) (t : Bool) → eqb v.next own ≡ t → (command : Command) → on_held (λ h. connection_at h.stage h) (option_or found (cond t (Some new) None)) ≡ Some command
        → (on_held (λ h. connection_at h.stage h) found ≡ Some command) ⊎ ((errands.Connection own ≡ errands.Connection v.next) × (command.identifier ≡ v.identifier))
    call own None true now command is = inr (ap errands.Connection (sym (eqb-true v.next own now)), named-so (new_request v) _ command is)
    call own None false now command is = inl is
    call own (Some held) t now command is = inl is

    anew : WaitsAnew (errands.Connection v.next) v w
    anew (errands.Connection own) command is = call own (find (has_own own) v.held) (eqb v.next own) refl command (sym (ap (on_held (λ h. connection_at h.stage h)) (find-append own_of own v.held new)) ∙ is)
    anew (errands.Configuration own) command is = inl (at (λ h. configuration_at h.stage) (find (has_own own) v.held) (eqb v.next own) command refl (sym (ap (on_held (λ h. configuration_at h.stage)) (find-append own_of own v.held new)) ∙ is))
    anew (errands.Disconnection own) command is = inl (at (λ h. disconnection_at h.stage h) (find (has_own own) v.held) (eqb v.next own) command refl (sym (ap (on_held (λ h. disconnection_at h.stage h)) (find-append own_of own v.held new)) ∙ is))
    anew errands.Features command is = inl is

pub asked : (v : Channels) (there : Bool) → Distinct own_of v.held → (let w : Channels = asks errands.Features (record v { features = Some (new_request v) }) in TakesFew 1 v (cond there v w))
asked v true lone = more_spent 1 v v (same-spends v) lone
asked v false lone =
    let next = next-less v.identifier in
    record {
      lone = lone;
      less = omega (arith, next);
      rises = λ few. let now = next-more v.identifier (omega (arith, few)) in omega (arith, now);
      named = λ few. anew-named errands.Features v (asks errands.Features (record v { features = Some (new_request v) })) (next-more v.identifier (omega (arith, few))) anew;
    }
  where
    anew : WaitsAnew errands.Features v (asks errands.Features (record v { features = Some (new_request v) }))
    anew (errands.Connection own) command is = inl is
    anew (errands.Configuration own) command is = inl is
    anew (errands.Disconnection own) command is = inl is
    anew errands.Features command is = inr (refl, named-so (new_request v) _ command is)

pub one-spends : (policy : Policy) → ((psm : ℕ) → policy.offers psm ≡ false) → (more : Occurrence) (v : Channels) → find (has_own v.next) v.held ≡ None → Distinct own_of v.held → TakesFew (requests_by more) v (value_after policy more v)
one-spends policy none (Comes pdu) v new lone =
    more_spent 0 v (value_after policy (Comes pdu) v)
    (either (eqb (channel_of pdu) 0x0001) v (hears_commands policy (answers (drop 4 pdu)) v) (takes (channel_of pdu) pdu v) (commands_spend policy none (answers (drop 4 pdu)) v) (taken-held v (channel_of pdu) (held_at (channel_of pdu) v) pdu refl)) lone
one-spends policy none (Connects psm) v new lone = called v psm (can_connect v) new lone
one-spends policy none AsksFeatures v new lone = asked v (is_some v.features) lone
one-spends policy none (Disconnects own) v new lone = left_held v own (held_at own v) refl lone
one-spends policy none (Sends own sdu) v new lone = sent_held v own (held_at own v) sdu refl lone
one-spends policy none (Gives pdu) v new lone = queue_spends v v.queue lone
one-spends policy none Fires v new lone =
    let u : Channels = times_channels policy.tries (map (λ held. held.own) v.held) v in
    both-spend v u (times_features u.features policy.tries u) (channels_spend policy.tries (map (λ held. held.own) v.held) v) (asked_features_spend u u.features policy.tries) lone
one-spends policy none Tells v new lone = still-spends v (value_after policy Tells v) refl refl refl lone
