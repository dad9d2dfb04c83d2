-- Where a calm host has nothing to give, no command waits in its queue: each request that waits there waits for its response.
use Rattle.std.proofs.Common.{◌≡◌, ℕ, ◌≤◌, List, [], ◌∷◌, ◌++◌, length, Bool, true, false, cond, eqb, find, drop, Option, Some, None, option_map, is_some, sym, refl, subst, ◌∙◌, append_assoc, append-nil, arith}
use Rattle.std.proofs.lemmas.Bool.{eqb-true}
use Rattle.std.proofs.lemmas.List.Sums.{fold-append}
use Rattle.scenario_laws.specs.acl_fragments.specs.Pieces.{channel_of}
use Rattle.scenario_laws.specs.l2cap_signal.specs.Commands.{Command}
use Rattle.scenario_laws.specs.l2cap_signal.specs.Reading.{Answer as Read, answers}
use Rattle.channel_laws.specs.channel_model.specs.declared.errand.Errand.{Errand}
use Rattle.channel_laws.specs.channel_model.specs.declared.errand.Errand.TheVariants as errands
use Rattle.channel_laws.specs.channel_model.specs.Calls.{connected, asks_features, disconnected, sends_on, sends_held, sends, after_event}
use Rattle.channel_laws.specs.channel_model.specs.Carrying.{takes}
use Rattle.channel_laws.specs.channel_model.specs.Changing.{has_own, held_at, setup_of}
use Rattle.channel_laws.specs.channel_model.specs.Giving.{Signal, command_of, gives, queue_gives, carrier_spent, held_given, connection_given, configuration_given, disconnection_given, stage_given, queue_given, counted}
use Rattle.channel_laws.specs.channel_model.specs.Hearing.{hears_commands}
use Rattle.channel_laws.specs.channel_model.specs.Policies.{Policy}
use Rattle.channel_laws.specs.channel_model.specs.Value.{Queued, Answer, Ask, Stage, Setup, Held, Channels, no_channels}
use Rattle.channel_laws.specs.channel_model.proofs.Lookups.{own_of, Distinct}
use Rattle.channel_laws.specs.Runs.{Occurrence, Comes, Connects, AsksFeatures, Disconnects, Sends, Gives, Fires, Tells, value_after, Run, new_link, run_on, run_of}
use Rattle.channel_laws.proofs.Running.{all-sound}
use Rattle.host_laws.specs.Seen.{IsQuiet, IsOneCommand, AllDue, IsCalmAt, IsCalm}
use Rattle.host_laws.proofs.Adding.{none-replies, connected-adds, features-asked, disconnected-adds, takes-adds}
use Rattle.host_laws.proofs.Replying.{asked-so, command-heard}
use Rattle.host_laws.proofs.Waiting.{SameCommands, due-same, counted-same}

-- each request that waits to be given waits for its response
abbrev IsDue : Channels → Type 0
IsDue v = AllDue v.queue v

none_due : (w : Channels) → w.queue ≡ [] → IsDue w
none_due w none = subst (λ (queue : List Queued). AllDue queue w) (sym none) tt

empty : (queue : List Queued) (v : Channels) → AllDue queue v → queue_gives queue v ≡ None → queue ≡ []
empty [] v due none = refl
empty (Answer command ∷ queue) v due none = cc
empty (Ask errand ∷ queue) v due none = by (command_of errand v) due.0 none
  where
    by : (command : Option Command) → is_some command ≡ true → option_map Signal command ≡ None → Ask errand ∷ queue ≡ []
    by None some is = cc
    by (Some command) some is = cc

-- ---- the queue

-- another queue, and events that are taken, change no request
queue_same : (v : Channels) (queue : List Queued) → (let w : Channels = record v { queue = queue } in SameCommands v w)
queue_same v queue (errands.Connection own) = refl
queue_same v queue (errands.Configuration own) = refl
queue_same v queue (errands.Disconnection own) = refl
queue_same v queue errands.Features = refl

event_same : (v : Channels) → SameCommands v (after_event v)
event_same v (errands.Connection own) = refl
event_same v (errands.Configuration own) = refl
event_same v (errands.Disconnection own) = refl
event_same v errands.Features = refl

stage_queue : (f : Stage → Stage) (found : Option Held) (v : Channels) → (stage_given f found v).queue ≡ v.queue
stage_queue f None v = refl
stage_queue f (Some held) v = refl

counted_queue : (errand : Errand) (v : Channels) → (counted errand v).queue ≡ v.queue
counted_queue (errands.Connection own) v = stage_queue connection_given (held_at own v) v
counted_queue (errands.Configuration own) v = stage_queue configuration_given (held_at own v) v
counted_queue (errands.Disconnection own) v = stage_queue disconnection_given (held_at own v) v
counted_queue errands.Features v = refl

carrier_queue : (setup : Option Setup) (held : Held) (v : Channels) → (carrier_spent setup held v).queue ≡ v.queue
carrier_queue None held v = refl
carrier_queue (Some setup) held v = refl

spent_queue : (found : Option Held) (v : Channels) → (held_given found v).queue ≡ v.queue
spent_queue None v = refl
spent_queue (Some held) v = carrier_queue (setup_of held.stage) held v

on_queue : (setup : Option Setup) (sdu : List ℕ) (held : Held) (v : Channels) → (sends_on setup sdu held v).queue ≡ v.queue
on_queue None sdu held v = refl
on_queue (Some setup) sdu held v = refl

sent_queue : (found : Option Held) (sdu : List ℕ) (v : Channels) → (sends_held found sdu v).queue ≡ v.queue
sent_queue None sdu v = refl
sent_queue (Some held) sdu v = on_queue (setup_of held.stage) sdu held v

-- ---- whatever happens

heard_due : (policy : Policy) (list : List Read) (v : Channels) → length list ≤ 1 → v.queue ≡ [] → IsDue (hears_commands policy list v)
heard_due policy [] v short none = none_due v none
heard_due policy (one ∷ []) v short none = (command-heard policy one v none).due
heard_due policy (one ∷ other ∷ list) v short none = absurd (omega (arith, short))

comes_due : (policy : Policy) (v : Channels) (pdu : List ℕ) (signals : Bool) → eqb (channel_of pdu) 0x0001 ≡ signals → v.queue ≡ [] → IsOneCommand pdu → (let w : Channels = cond signals (hears_commands policy (answers (drop 4 pdu)) v) (takes (channel_of pdu) pdu v) in IsDue w)
comes_due policy v pdu true is none one = heard_due policy (answers (drop 4 pdu)) v (one (eqb-true (channel_of pdu) 0x0001 is)).1 none
comes_due policy v pdu false is none one = (asked-so v (takes (channel_of pdu) pdu v) none (takes-adds v (none-replies v.queue none) (channel_of pdu) pdu)).due

given_due : (v : Channels) (queue : List Queued) → v.queue ≡ queue → Distinct own_of v.held → AllDue queue v → IsDue (queue_given queue v)
given_due v [] is distinct due = none_due (held_given (find gives v.held) v) (spent_queue (find gives v.held) v ∙ is)
given_due v (Answer command ∷ queue) is distinct due = let w : Channels = record v { queue = queue } in due-same v w queue (queue_same v queue) due.1
given_due v (Ask errand ∷ queue) is distinct due =
    let u : Channels = record v { queue = queue } in
    let w : Channels = counted errand u in
    subst (λ (q : List Queued). AllDue q w) (sym (counted_queue errand u)) (due-same u w queue (counted-same errand u distinct).commands (due-same v u queue (queue_same v queue) due.1))

one_due : (policy : Policy) (one : Occurrence) (v : Channels) → IsDue v → IsCalmAt policy one v → Distinct own_of v.held → find (has_own v.next) v.held ≡ None → IsDue (value_after policy one v)
one_due policy (Comes pdu) v due calm distinct fresh = comes_due policy v pdu (eqb (channel_of pdu) 0x0001) refl (empty v.queue v due calm.0) calm.1
one_due policy (Connects psm) v due calm distinct fresh = let none = empty v.queue v due calm in (asked-so v (connected psm v) none (connected-adds v (none-replies v.queue none) psm fresh)).due
one_due policy AsksFeatures v due calm distinct fresh = let none = empty v.queue v due calm in (asked-so v (asks_features v) none (features-asked v (none-replies v.queue none))).due
one_due policy (Disconnects own) v due calm distinct fresh = let none = empty v.queue v due calm in (asked-so v (disconnected own v) none (disconnected-adds v (none-replies v.queue none) own)).due
one_due policy (Sends own sdu) v due calm distinct fresh = none_due (sends own sdu v) (sent_queue (held_at own v) sdu v ∙ empty v.queue v due calm)
one_due policy (Gives pdu) v due calm distinct fresh = given_due v v.queue refl distinct due
one_due policy Fires v due calm distinct fresh = (calm.1 (empty v.queue v due calm.0)).due
one_due policy Tells v due calm distinct fresh = due-same v (after_event v) v.queue (event_same v) due

all_due : (policy : Policy) (before list : List Occurrence) → IsDue (run_of policy before).value → IsCalm policy (run_of policy before).value list → IsDue (run_of policy (before ++ list)).value
all_due policy before [] due calm = subst (λ (l : List Occurrence). IsDue (run_of policy l).value) (sym (append-nil before)) due
all_due policy before (one ∷ list) due calm =
    let run = run_of policy before in
    let same : run_of policy (before ++ one ∷ []) ≡ run_on policy run one = fold-append (run_on policy) new_link before (one ∷ []) in
    let sound = all-sound policy before in
    let now = one_due policy one run.value due calm.0 sound.core.lone (sound.core.held_below run.value.next (omega arith)) in
    subst (λ (l : List Occurrence). IsDue (run_of policy l).value) (append_assoc before (one ∷ []) list)
    (all_due policy (before ++ one ∷ []) list (subst (λ (r : Run). IsDue r.value) (sym same) now) (subst (λ (r : Run). IsCalm policy r.value list) (sym same) calm.1))

-- a calm host that has nothing to give has an empty queue
pub calm-empty : (policy : Policy) (list : List Occurrence) → IsCalm policy no_channels list → IsQuiet (run_of policy list).value → (run_of policy list).value.queue ≡ []
calm-empty policy list calm quiet = empty (run_of policy list).value.queue (run_of policy list).value (all_due policy [] list tt calm) quiet
