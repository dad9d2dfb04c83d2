-- A whole run.
use Rattle.std.proofs.Common.{◌≡◌, ℕ, List, [], ◌∷◌, fold, map, drop, Bool, true, false, cond, eqb, Option, Some, None, refl, sym, subst, arith}
use Rattle.std.specs.Prelude.{is_some}
use Rattle.std.specs.List.{AllByRecursion}
use Rattle.std.proofs.lemmas.List.Sums.{fold-append}
use Rattle.talk_laws.specs.acl_fragments.specs.Pieces.{channel_of}
use Rattle.talk_laws.specs.capture.specs.declared.flow.Flow.TheVariants.{Out, Into}
use Rattle.talk_laws.specs.l2cap_signal.specs.Commands.{information_request}
use Rattle.talk_laws.specs.l2cap_signal.specs.Reading.{Answer as Read, answers}
use Rattle.talk_laws.specs.link_talk.specs.Sayings.{Carried}
use Rattle.talk_laws.specs.link_talk.specs.Channels.{Reading, nothing_read, read_on, reading}
use Rattle.channel_model.specs.declared.errand.Errand.TheVariants.{Features, Connection}
use Rattle.channel_model.specs.Value.{Request, Carrier, Plain, Retransmitting, Channels, Requested}
use Rattle.channel_model.specs.Policies.{Policy}
use Rattle.channel_model.specs.Changing.{held_at}
use Rattle.channel_model.specs.Asking.{new_request, asks}
use Rattle.channel_model.specs.Hearing.{hears_command, hears_commands}
use Rattle.channel_model.specs.Carrying.{takes}
use Rattle.channel_model.specs.Calls.{carrier_at, sends, can_connect}
use Rattle.channel_model.specs.Giving.{Given, Signal, Whole, Framed, headed, next_given, after_given}
use Rattle.own_channel_laws.specs.OwnTalk.{spoken, command_with, asked_between, said_with, said_with_all}
use Rattle.own_channel_laws.specs.Runs.{Occurrence, Comes, Connects, AsksFeatures, Disconnects, Sends, Gives, Fires, Tells, peer_at, said_by_carrier, said_as, said_in, value_after, Run, new_link, run_on, run_of}
use Rattle.own_channel_laws.specs.Views.{read_at}
use Rattle.own_channel_laws.specs.Laws.{ChannelsAreRead, EndpointsAreNew}
use Rattle.own_channel_laws.proofs.Sound.{Sound, is_read}
use Rattle.own_channel_laws.proofs.Moves.{quiet}
use Rattle.own_channel_laws.proofs.Asking.{asked-one, newest-asks}
use Rattle.own_channel_laws.proofs.Settling.{nothing-follows}
use Rattle.own_channel_laws.proofs.Commands.{IsTold, hears-any}
use Rattle.own_channel_laws.proofs.Told.{all-told}
use Rattle.own_channel_laws.proofs.Carrying.{takes-pdu}
use Rattle.own_channel_laws.proofs.Firing.{fires-sound}
use Rattle.own_channel_laws.proofs.Giving.{queue-given, sends-sound, disconnects-sound}
use Rattle.own_channel_laws.proofs.Calling.{call-new}
use Rattle.channel_model.specs.Following.{with_channel}

-- ---- the commands of a PDU

hears-all : (policy : Policy) (r : Reading) (v : Channels) (list : List Read) → AllByRecursion IsTold list → Sound policy r v → Sound policy (fold read_on r (said_with_all policy list v)) (hears_commands policy list v)
hears-all policy r v [] all sound = sound
hears-all policy r v (one ∷ list) (now, all) sound =
    let w : Channels = hears_command policy one v in
    subst (λ x. Sound policy x (hears_commands policy list w)) (sym (fold-append read_on r (said_with policy one v) (said_with_all policy list w)))
    (hears-all policy (fold read_on r (said_with policy one v)) w list all (hears-any policy r v one now sound))

comes-by : (policy : Policy) (r : Reading) (v : Channels) (pdu : List ℕ) (signals : Bool) → eqb (channel_of pdu) 0x0001 ≡ signals → Sound policy r v
    → Sound policy (fold read_on r (cond signals (said_with_all policy (answers (drop 4 pdu)) v) (Carried Into pdu ∷ asked_between v (takes (channel_of pdu) pdu v)))) (cond signals (hears_commands policy (answers (drop 4 pdu)) v) (takes (channel_of pdu) pdu v))
comes-by policy r v pdu true is sound = hears-all policy r v (answers (drop 4 pdu)) (all-told (drop 4 pdu)) sound
comes-by policy r v pdu false is sound = takes-pdu policy (read_on r (Carried Into pdu)) v (channel_of pdu) pdu (quiet policy r v (Carried Into pdu) refl sound)

-- ---- the features are asked for

features-by : (policy : Policy) (r : Reading) (v : Channels) (features : Option Request) → v.features ≡ features → Sound policy r v
    → (let w : Channels = cond (is_some features) v (asks Features (record v { features = Some (new_request v) })) in Sound policy (fold read_on r (asked_between v w)) w)
features-by policy r v (Some request) is sound = nothing-follows policy r v sound
features-by policy r v None is sound =
    let before : Channels = record v { features = Some (new_request v) } in
    let w : Channels = asks Features before in
    let said : asked_between v w ≡ spoken (command_with v.identifier (information_request 2)) ∷ [] = asked-one v w Features (command_with v.identifier (information_request 2)) refl (newest-asks Features before) refl in
    subst (λ rest. Sound policy (fold read_on r rest) w) (sym said) (quiet policy r w (spoken (command_with v.identifier (information_request 2))) refl (record { core = sound.core; kept = sound.kept; uncalled = sound.uncalled }))

-- ---- a channel is asked for

connects-by : (policy : Policy) (r : Reading) (v : Channels) (psm : ℕ) (can : Bool) → Sound policy r v
    → (let w : Channels = cond can (asks (Connection v.next) (with_channel psm (Requested (new_request v)) v)) v in Sound policy (fold read_on r (asked_between v w)) w)
connects-by policy r v psm true sound = call-new policy r v psm sound
connects-by policy r v psm false sound = nothing-follows policy r v sound

-- ---- an SDU is sent

sent-said : (policy : Policy) (r : Reading) (v : Channels) (carrier : Option Carrier) (peer : ℕ) (sdu : List ℕ) → Sound policy r v → Sound policy (fold read_on r (said_by_carrier carrier peer sdu)) v
sent-said policy r v None peer sdu sound = sound
sent-said policy r v (Some (Plain agreed (Some waiting))) peer sdu sound = sound
sent-said policy r v (Some (Plain agreed None)) peer sdu sound = quiet policy r v (Carried Out (headed peer sdu)) refl sound
sent-said policy r v (Some (Retransmitting machine)) peer sdu sound = sound

-- ---- the next PDU is given

given-quiet : (policy : Policy) (r : Reading) (v : Channels) (given : Option Given) (pdu : List ℕ) → Sound policy r v → Sound policy (fold read_on r (said_as given pdu)) v
given-quiet policy r v None pdu sound = sound
given-quiet policy r v (Some (Signal command)) pdu sound = sound
given-quiet policy r v (Some (Whole peer sdu)) pdu sound = sound
given-quiet policy r v (Some (Framed peer frame)) pdu sound = quiet policy r v (Carried Out pdu) refl sound

-- ---- whatever happens

one-more : (policy : Policy) (run : Run) (r : Reading) (more : Occurrence) → Sound policy r run.value → Sound policy (fold read_on r (said_in policy more run.value)) (value_after policy more run.value)
one-more policy run r (Comes pdu) sound = comes-by policy r run.value pdu (eqb (channel_of pdu) 0x0001) refl sound
one-more policy run r (Connects psm) sound = connects-by policy r run.value psm (can_connect run.value) sound
one-more policy run r AsksFeatures sound = features-by policy r run.value run.value.features refl sound
one-more policy run r (Disconnects own) sound = disconnects-sound policy r run.value own sound
one-more policy run r (Sends own sdu) sound =
    let sent : Sound policy r (sends own sdu run.value) = sends-sound policy r run.value own sdu sound in
    sent-said policy r (sends own sdu run.value) (carrier_at own run.value) (peer_at (held_at own run.value)) sdu sent
one-more policy run r (Gives pdu) sound = given-quiet policy r (after_given run.value) (next_given run.value) pdu (queue-given policy r run.value run.value.queue sound)
one-more policy run r Fires sound = fires-sound policy r run.value policy.tries (map (λ held. held.own) run.value.held) sound
one-more policy run r Tells sound = record { core = sound.core; kept = sound.kept; uncalled = sound.uncalled }

abbrev pub IsSound : Policy → Run → Type 0
IsSound policy run = Sound policy (reading run.said) run.value

pub run-more : (policy : Policy) (run : Run) (more : Occurrence) → IsSound policy run → IsSound policy (run_on policy run more)
run-more policy run more sound =
    subst (λ x. Sound policy x (value_after policy more run.value)) (sym (fold-append read_on nothing_read run.said (said_in policy more run.value))) (one-more policy run (reading run.said) more sound)

pub at_first : (policy : Policy) → IsSound policy new_link
at_first policy = record {
  core = record {
    reads = λ own. tt;
    held_below = λ own above. refl;
    read_below = λ own above. refl;
    held_low = λ own low. refl;
    read_low = λ own low. refl;
    start = omega arith;
    apart = λ a b x y at_a at_b. cc;
    distinct = tt;
    lone = tt;
  };
  kept = record { calls = refl; queries = refl; ends = tt; echoes = tt; informations = tt; wants = λ own. tt; outgoing = λ identifier own called. cc };
  uncalled = λ own above identifier. (refl, refl);
}

-- what holds at first, and on with each thing that happens, holds of every run
pub goes-on : (policy : Policy) (P : Run → Type 0) → ((run : Run) (more : Occurrence) → IsSound policy run → P run → P (run_on policy run more)) → (list : List Occurrence) (run : Run) → IsSound policy run → P run
    → IsSound policy (fold (run_on policy) run list) × P (fold (run_on policy) run list)
goes-on policy P step [] run sound holds = (sound, holds)
goes-on policy P step (more ∷ list) run sound holds = goes-on policy P step list (run_on policy run more) (run-more policy run more sound) (step run more sound holds)

pub along : (policy : Policy) (P : Run → Type 0) → P new_link → ((run : Run) (more : Occurrence) → IsSound policy run → P run → P (run_on policy run more)) → (list : List Occurrence) → IsSound policy (run_of policy list) × P (run_of policy list)
along policy P first step list = goes-on policy P step list new_link (at_first policy) first

pub all-sound : (policy : Policy) (list : List Occurrence) → IsSound policy (run_of policy list)
all-sound policy list = (along policy (λ run. Unit {0}) tt (λ run more sound any. tt) list).0

pub channels-are_read : ChannelsAreRead
channels-are_read policy list own =
    let sound : IsSound policy (run_of policy list) = all-sound policy list in
    is_read policy (held_at own (run_of policy list).value) (read_at own (reading (run_of policy list).said).entries) (sound.core.reads own)

pub endpoints-are_new : EndpointsAreNew
endpoints-are_new policy list =
    let run : Run = run_of policy list in
    let sound : IsSound policy run = all-sound policy list in
    record { high = sound.core.start; unheld = sound.core.held_below run.value.next (omega arith); unread = sound.core.read_below run.value.next (omega arith) }
