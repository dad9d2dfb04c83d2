-- The channels of a run, and that a host leaves nothing to be told.
use Rattle.std.proofs.Common.{◌≡◌, ℕ, zero, suc, Bool, true, false, List, [], ◌∷◌, fold, find, Option, Some, None, is_some, refl, sym, ap, subst, ◌∙◌, if◌then◌else◌}
use Rattle.channel_laws.specs.channel_model.specs.declared.errand.Errand.{Errand}
use Rattle.channel_laws.specs.channel_model.specs.declared.errand.Errand.TheVariants as errands
use Rattle.channel_laws.specs.channel_model.specs.declared.event.ChannelEvent.{ChannelEvent}
use Rattle.channel_laws.specs.channel_model.specs.Value.{Queued, Answer, Ask, Setup, Stage, Held, Channels, no_channels}
use Rattle.channel_laws.specs.channel_model.specs.Policies.{Policy}
use Rattle.channel_laws.specs.channel_model.specs.Changing.{held_at, setup_of}
use Rattle.channel_laws.specs.channel_model.specs.Giving.{Given, next_given, after_given, gives, carrier_spent, held_given, stage_given, connection_given, configuration_given, disconnection_given, counted, queue_given}
use Rattle.channel_laws.specs.Runs.{Occurrence, Run, run_on}
use Rattle.shelf_model.specs.world_model.specs.Machines.{LinkEvent, Up, Down, News, Linked, Failed, Heard, TimerFired, Cancelled, Opening}
use Rattle.shelf_model.specs.host_model.specs.Circumstances.{Circumstance}
use Rattle.shelf_model.specs.host_model.specs.Pdus.{pdu_of, is_frame}
use Rattle.shelf_model.specs.host_model.specs.Profiles.{Stride, Profile}
use Rattle.shelf_model.specs.host_model.specs.Hosts.{Host, with_channels, settles, strides, goes_by, drives, most_steps, steps_behind, hears_news, ready, after_said, says}
use Rattle.shelf_model.specs.host_model.specs.Machines.{upper}
use Rattle.host_laws.specs.Acts.{Act, Hears, Says, Does}
use Rattle.host_laws.specs.Calls.{values_after}

-- ---- the channels of a run

pub value_run : (policy : Policy) (list : List Occurrence) (run : Run) → (fold (run_on policy) run list).value ≡ values_after policy run.value list
value_run policy [] run = refl
value_run policy (more ∷ list) run = value_run policy list (run_on policy run more)

-- ---- nothing is left to be told

-- giving tells nothing
stage_events : (f : Stage → Stage) (found : Option Held) (v : Channels) → (stage_given f found v).events ≡ v.events
stage_events f None v = refl
stage_events f (Some held) v = refl

counted_events : (errand : Errand) (v : Channels) → (counted errand v).events ≡ v.events
counted_events (errands.Connection own) v = stage_events connection_given (held_at own v) v
counted_events (errands.Configuration own) v = stage_events configuration_given (held_at own v) v
counted_events (errands.Disconnection own) v = stage_events disconnection_given (held_at own v) v
counted_events errands.Features v = refl

spent_events : (setup : Option Setup) (held : Held) (v : Channels) → (carrier_spent setup held v).events ≡ v.events
spent_events None held v = refl
spent_events (Some setup) held v = refl

given_events : (found : Option Held) (v : Channels) → (held_given found v).events ≡ v.events
given_events None v = refl
given_events (Some held) v = spent_events (setup_of held.stage) held v

queue_events : (queue : List Queued) (v : Channels) → (queue_given queue v).events ≡ v.events
queue_events [] v = given_events (find gives v.held) v
queue_events (Answer command ∷ behind) v = refl
queue_events (Ask errand ∷ behind) v = let after : Channels = record v { queue = behind } in counted_events errand after

abbrev pub IsTold : {P : Type 0} → Host P → Type 0
IsTold host = host.channels.events ≡ []

module _ {P : Type 0} (A : Profile P) where
  strides_told : (more : Host P → Host P) (test : Bool) (stride : Stride P) (host : Host P) → ((next : Host P) → IsTold next → IsTold (more next)) → IsTold (if test then more (strides A stride host) else strides A stride host)
  strides_told more true stride host goes = goes (strides A stride host) refl
  strides_told more false stride host goes = refl

  goes_told : (more : Host P → Host P) (test : Bool) (host : Host P) → ((next : Host P) → IsTold next → IsTold (more next)) → IsTold host → IsTold (if test then host else goes_by A more (A.steps host.channels host.profile) host)
  goes_told more true host goes is = is
  goes_told more false host goes is = let stride = A.steps host.channels host.profile in strides_told more stride.more stride host goes

  pub drives_told : (count : ℕ) (host : Host P) → IsTold host → IsTold (drives A count host)
  unfolding drives
  drives_told zero host is = is
  drives_told (suc count) host is = let now = settles A host in goes_told (λ next. drives A count next) (is_some (next_given now.channels)) now (λ next. drives_told count next) is

  pub heard_told : (circumstances : List Circumstance) (news : News) (host : Host P) → IsTold host → IsTold (hears_news A circumstances news host)
  heard_told circumstances (Linked Up) host is = is
  heard_told circumstances (Linked (Down reason)) host is = refl
  heard_told circumstances (Failed status) host is = is
  heard_told circumstances (Heard pdu) host is = refl
  heard_told circumstances TimerFired host is = refl
  heard_told circumstances Cancelled host is = is
  heard_told circumstances (Opening name) host is = is

  abbrev Says_told : Option (List ℕ × Host P) → Type 0
  Says_told None = Unit {0}
  Says_told (Some one) = IsTold one.1

  frames_told : (test : Bool) (pdu : List ℕ) (host : Host P) → IsTold host → Says_told (if test then Some (pdu, host) else None)
  frames_told true pdu host is = is
  frames_told false pdu host is = tt

  says_told : (given : Option Given) (count : ℕ) (host : Host P) → IsTold host → Says_told (says A given count host)
  says_told None count host is = tt
  says_told (Some given) zero host is = tt
  says_told (Some given) (suc count) host is =
      let gave = with_channels (after_given host.channels) host in
      frames_told (is_frame (pdu_of given)) (pdu_of given) (after_said A count host) (drives_told (steps_behind count) gave (queue_events host.channels.queue host.channels ∙ is))

  pub act_told : (act : Act Circumstance) (old new : Host P) → Does (upper A) act old new → IsTold old → IsTold new
  act_told (Hears circumstances news) old new does is =
      let readied = ready A circumstances old in
      subst (λ (host : Host P). IsTold host) (sym does) (drives_told most_steps (hears_news A circumstances news readied) (heard_told circumstances news readied is))
  act_told (Says pdu) old new does is = subst Says_told does (says_told (next_given old.channels) old.may_say old is)

  -- ---- links begin and end

  pub linked_new : (circumstances : List Circumstance) (event : LinkEvent) (host : Host P) → IsTold host → (hears_news A circumstances (Linked event) host).channels ≡ no_channels
  linked_new circumstances Up host is = ap (λ (events : List ChannelEvent). let v : Channels = record no_channels { events = events } in v) is
  linked_new circumstances (Down reason) host is = refl
