-- The channels of a host that asks for none, for no end of one and for no features: each was granted to its peer, or was closed since.
use Rattle.std.proofs.Common.{◌≡◌, ℕ, List, [], ◌∷◌, ◌++◌, map, drop, Bool, true, false, cond, eqb, not, Option, Some, None, Result, Ok, Err, refl, sym, subst, ◌||◌}
use Rattle.std.specs.Prelude.{find, filter, nat_le, is_some, option_map}
use Rattle.std.specs.List.{AllByRecursion}
use Rattle.shelf_model.specs.acl_fragments.specs.Pieces.{channel_of}
use Rattle.shelf_model.specs.l2cap_signal.specs.Commands.{Content, reject, connection_request, connection_response, configuration_request, configuration_response, disconnection_request, disconnection_response, echo_request, echo_response, information_request, information_response}
use Rattle.shelf_model.specs.l2cap_signal.specs.Reading.{Answer as Read, answers}
use Rattle.shelf_model.specs.l2cap_signal.specs.declared.refusal.SignalRefusal.{SignalRefusal}
use Rattle.shelf_model.specs.l2cap_signal.specs.declared.refusal.SignalRefusal.TheVariants.{ZeroIdentifier, BadLength, UnknownCode, AboveMtu}
use Rattle.shelf_model.specs.l2cap_config.specs.declared.options.Options.{Options}
use Rattle.shelf_model.specs.l2cap_config.specs.declared.options.ConfigRefusal.{ConfigRefusal}
use Rattle.shelf_model.specs.l2cap_config.specs.declared.agreement.ConfigAnswer.{ConfigAnswer}
use Rattle.shelf_model.specs.l2cap_config.specs.declared.agreement.ConfigAnswer.TheVariants.{Accept, Unacceptable, Unknown}
use Rattle.shelf_model.specs.l2cap_config.specs.declared.agreement.Settled.{Settled}
use Rattle.shelf_model.specs.l2cap_config.specs.declared.agreement.Settled.TheVariants.{Accepted, Again, Wait, Never}
use Rattle.shelf_model.specs.l2cap_config.specs.declared.wish.Wish.{Wish}
use Rattle.shelf_model.specs.l2cap_config.specs.Agreement.{settled}
use Rattle.shelf_model.specs.l2cap_config.specs.Reading.{options_read}
use Rattle.shelf_model.specs.ertm_model.specs.declared.reason.ErtmReason.{ErtmReason}
use Rattle.shelf_model.specs.ertm_model.specs.Value.{Ertm}
use Rattle.shelf_model.specs.ertm_model.specs.Giving.{timed}
use Rattle.channel_laws.specs.channel_model.specs.declared.errand.Errand.{Errand}
use Rattle.channel_laws.specs.channel_model.specs.declared.errand.Errand.TheVariants as errands
use Rattle.channel_laws.specs.channel_model.specs.declared.event.CloseReason.{CloseReason}
use Rattle.channel_laws.specs.channel_model.specs.declared.event.CloseReason.TheVariants.{NoAgreement, Refused, OwnClosed, RetryLimit}
use Rattle.channel_laws.specs.channel_model.specs.declared.event.ChannelEvent.TheVariants.{Features}
use Rattle.channel_laws.specs.channel_model.specs.declared.request_kind.RequestKind.{RequestKind}
use Rattle.channel_laws.specs.channel_model.specs.declared.request_kind.RequestKind.TheVariants as kinds
use Rattle.channel_laws.specs.channel_model.specs.Value.{Request, Queued, Answer, Ask, Own, Unasked, Asking, Granted, Carrier, Plain, Retransmitting, Setup, no_setup, Stage, Requested, Connected, Leaving, Closing, Crossed, Held, Remembered, Channels, no_channels}
use Rattle.channel_laws.specs.channel_model.specs.Policies.{Policy}
use Rattle.channel_laws.specs.channel_model.specs.Changing.{has_own, in_place_of, held_at, is_peer, to_stage, gone, setup_of, has_fcs_by, stage_with, with_setup, to_setup, forgets, tells, is_leaving}
use Rattle.channel_laws.specs.channel_model.specs.Asking.{new_request, asks_options, Fired, StillDue, OnceMore, Spent, fired}
use Rattle.channel_laws.specs.channel_model.specs.Closing.{closes, closes_at, peer_closes_at, ends, ends_at}
use Rattle.channel_laws.specs.channel_model.specs.Configuring.{Verdict, NoChannel, TooLate, Unreadable, Incomplete, Judged, verdict, accepted_setup, accepts_with, without_parts, refused_setup, follows_answer, follows_verdict, opens_if, granted_setup, grants}
use Rattle.channel_laws.specs.channel_model.specs.Responses.{is_fresh_endpoint, connects, hears_connected, hears_grant_at, hears_grant, renewed_setup, hears_settled, hears_options, is_asked, hears_response_on, hears_response, hears_end, has_identifier, hears_features, features_in}
use Rattle.channel_laws.specs.channel_model.specs.Answers.{kind_of_code, remembered, not_understood, too_long, connection_result, answer_to}
use Rattle.channel_laws.specs.channel_model.specs.Following.{with_channel, follows_setup, follows_configuration, follows_disconnection, follows, remembers, says, can_say, hears_new, hears_again, hears_kind, hears_request}
use Rattle.channel_laws.specs.channel_model.specs.Hearing.{hears_content, hears_malformed, is_response_code, is_kind, hears_unread, hears_refused, hears_command, hears_commands, hears}
use Rattle.channel_laws.specs.channel_model.specs.Carrying.{reason_of, settles_machine, machine_heard, read_by, carries, is_taken_with, opens_with, takes_with, takes_on, takes_held, takes}
use Rattle.channel_laws.specs.channel_model.specs.Timing.{fires, times_carrier, times_setup, times_stage, times_held, times_end_at, times_end, times_channel, times_channels, times_features, timed_out}
use Rattle.channel_laws.specs.channel_model.specs.Giving.{one_more, connection_given, configuration_given, disconnection_given, stage_given, counted, carrier_given, carrier_spent, held_given, queue_given, after_given, gives}
use Rattle.channel_laws.specs.channel_model.specs.Calls.{sends_setup, sends_on, sends_held, sends}

-- it is there, or was closed
abbrev pub IsPassive : Stage → Type 0
IsPassive (Requested request) = ⊥
IsPassive (Connected peer setup) = Unit {0}
IsPassive (Leaving peer setup request) = ⊥
IsPassive (Closing peer request checked) = Unit {0}
IsPassive (Crossed peer request) = Unit {0}

abbrev pub IsPassiveHeld : Held → Type 0
IsPassiveHeld held = IsPassive held.stage

pub record PassiveAll (channels : List Held) (asked : Option Request) : Type 0 where
  pub held : AllByRecursion IsPassiveHeld channels
  pub none_asked : asked ≡ None

abbrev pub Passive : Channels → Type 0
Passive v = PassiveAll v.held v.features

pub first-passive : Passive no_channels
first-passive = record { held = tt; none_asked = refl }

either : (b : Bool) (x y : Channels) → Passive x → Passive y → Passive (cond b x y)
either true x y one other = one
either false x y one other = other

-- ---- what is found

found_in : (p : Held → Bool) (held : List Held) (one : Held) → AllByRecursion IsPassiveHeld held → find p held ≡ Some one → IsPassive one.stage
found_in p [] one all is = cc
found_in p (first ∷ held) one all is = by (p first) (found_in p held one all.1) is
  where
    by : (b : Bool) → (find p held ≡ Some one → IsPassive one.stage) → cond b (Some first) (find p held) ≡ Some one → IsPassive one.stage
    by true later is = subst IsPassiveHeld (let same : first ≡ one = cc in same) all.0
    by false later is = later is

abbrev IsFound : Option Held → Type 0
IsFound None = Unit {0}
IsFound (Some held) = IsPassive held.stage

found_passive : (p : Held → Bool) (v : Channels) → Passive v → IsFound (find p v.held)
found_passive p v passive = by (find p v.held) refl
  where
    by : (found : Option Held) → find p v.held ≡ found → IsFound found
    by None is = tt
    by (Some held) is = found_in p v.held held passive.held is

pub at-passive : (own : ℕ) (v : Channels) (held : Held) → Passive v → held_at own v ≡ Some held → IsPassive held.stage
at-passive own v held passive is = found_in (has_own own) v.held held passive.held is

-- ---- steps

placed : (new : Held) (held : List Held) → IsPassive new.stage → AllByRecursion IsPassiveHeld held → AllByRecursion IsPassiveHeld (map (in_place_of new) held)
placed new [] now all = tt
placed new (one ∷ held) now all = (by (eqb one.own new.own), placed new held now all.1)
  where
    by : (b : Bool) → IsPassiveHeld (cond b new one)
    by true = now
    by false = all.0

staged : (held : Held) (stage : Stage) (v : Channels) → IsPassive stage → Passive v → Passive (to_stage held stage v)
staged held stage v now passive = record { held = placed (record held { stage = stage }) v.held now passive.held; none_asked = passive.none_asked }

with_stage : (stage : Stage) (setup : Setup) → IsPassive stage → IsPassive (stage_with setup stage)
with_stage (Requested request) setup passive = passive
with_stage (Connected peer before) setup passive = tt
with_stage (Leaving peer before request) setup passive = passive
with_stage (Closing peer request checked) setup passive = tt
with_stage (Crossed peer request) setup passive = tt

set_up : (held : Held) (setup : Setup) (v : Channels) → IsPassive held.stage → Passive v → Passive (to_setup held setup v)
set_up held setup v one passive = staged held (stage_with setup held.stage) v (with_stage held.stage setup one) passive

less : (p : Held → Bool) (held : List Held) → AllByRecursion IsPassiveHeld held → AllByRecursion IsPassiveHeld (filter p held)
less p [] all = tt
less p (one ∷ held) all = by (p one) (less p held all.1)
  where
    by : (b : Bool) → AllByRecursion IsPassiveHeld (filter p held) → AllByRecursion IsPassiveHeld (cond b (one ∷ filter p held) (filter p held))
    by true rest = (all.0, rest)
    by false rest = rest

left : (held : Held) (v : Channels) → Passive v → Passive (gone held v)
left held v passive = record { held = less (λ other. not (eqb other.own held.own)) v.held passive.held; none_asked = passive.none_asked }

more : (held : List Held) (one : Held) → AllByRecursion IsPassiveHeld held → IsPassive one.stage → AllByRecursion IsPassiveHeld (held ++ one ∷ [])
more [] one all now = (now, tt)
more (other ∷ held) one all now = (all.0, more held one all.1 now)

granted_to : (psm source : ℕ) (v : Channels) → Passive v → Passive (with_channel psm (Connected source no_setup) v)
granted_to psm source v passive = record { held = more v.held (record { psm = psm; own = v.next; stage = Connected source no_setup }) passive.held tt; none_asked = passive.none_asked }

-- ---- options

opened : (b : Bool) (held : Held) (v : Channels) → Passive v → Passive (opens_if b held v)
opened true held v passive = passive
opened false held v passive = passive

granted : (held : Held) (setup : Setup) (v : Channels) → IsPassive held.stage → Passive v → Passive (grants held setup v)
granted held setup v one passive = opened (is_some setup.carrier) held _ (set_up held (granted_setup setup) v one passive)

options_asked : (held : Held) (setup : Setup) (options : Options) (v : Channels) → IsPassive held.stage → Passive v → Passive (asks_options held setup options v)
options_asked held setup options v one passive = set_up held (record setup { own = Asking (new_request v) options }) v one passive

-- ---- ends

closed : (stage : Stage) (reason : CloseReason) (held : Held) (v : Channels) → Passive v → Passive (closes_at stage reason held v)
closed (Requested request) reason held v passive = left held v passive
closed (Connected peer setup) reason held v passive = staged held (Closing peer (new_request v) (has_fcs_by setup)) v tt passive
closed (Leaving peer setup request) reason held v passive = staged held (Closing peer request (has_fcs_by setup)) v tt passive
closed (Closing peer request checked) reason held v passive = passive
closed (Crossed peer request) reason held v passive = passive

peer_closed : (stage : Stage) (held : Held) (v : Channels) → Passive v → Passive (peer_closes_at stage held v)
peer_closed (Requested request) held v passive = passive
peer_closed (Connected peer setup) held v passive = left held v passive
peer_closed (Leaving peer setup request) held v passive = staged held (Crossed peer request) v tt passive
peer_closed (Closing peer request checked) held v passive = staged held (Crossed peer request) v tt passive
peer_closed (Crossed peer request) held v passive = passive

ended : (stage : Stage) (reason : CloseReason) (held : Held) (v : Channels) → Passive v → Passive (ends_at stage reason held v)
ended (Requested request) reason held v passive = passive
ended (Connected peer setup) reason held v passive = passive
ended (Leaving peer setup request) reason held v passive = left held v passive
ended (Closing peer request checked) reason held v passive = left held v passive
ended (Crossed peer request) reason held v passive = left held v passive

third : (held : Held) (setup : Setup) (v : Channels) → IsPassive held.stage → Passive v → Passive (closes NoAgreement (with_setup held setup) (to_setup held setup v))
third held setup v one passive = closed (stage_with setup held.stage) NoAgreement (with_setup held setup) (to_setup held setup v) (set_up held setup v one passive)

-- ---- what follows from a request of the peer

accepted : (own : Own) (wish : Wish) (held : Held) (setup : Setup) (v : Channels) → IsPassive held.stage → Passive v → Passive (accepts_with own wish held setup v)
accepted Unasked wish held setup v one passive = options_asked held setup _ v one passive
accepted (Asking request options) wish held setup v one passive = set_up held setup v one passive
accepted Granted wish held setup v one passive = set_up held setup v one passive

followed : (answer : ConfigAnswer) (wish : Wish) (options : Options) (held : Held) (setup : Setup) (v : Channels) → IsPassive held.stage → Passive v → Passive (follows_answer answer wish options held setup v)
followed (Accept given) wish options held setup v one passive = accepted setup.own wish held (accepted_setup wish options setup) v one passive
followed (Unacceptable refusal given) wish options held setup v one passive =
    let after : Setup = refused_setup setup in
    either (nat_le 3 after.refused) (closes NoAgreement (with_setup held after) (to_setup held after v)) (to_setup held after v) (third held after v one passive) (set_up held after v one passive)
followed Unknown wish options held setup v one passive = set_up held (without_parts setup) v one passive

verdict_follows : (now : Verdict) (wish : Wish) (held : Held) (setup : Setup) (v : Channels) → IsPassive held.stage → Passive v → Passive (follows_verdict now wish held setup v)
verdict_follows NoChannel wish held setup v one passive = passive
verdict_follows (TooLate peer) wish held setup v one passive = passive
verdict_follows (Unreadable peer) wish held setup v one passive = set_up held (without_parts setup) v one passive
verdict_follows (Incomplete peer options) wish held setup v one passive = set_up held (record setup { parts = options }) v one passive
verdict_follows (Judged peer options answer) wish held setup v one passive = followed answer wish options held setup v one passive

setup_follows : (found : Option Setup) (policy : Policy) (held : Held) (flags : ℕ) (octets : List ℕ) (v : Channels) → IsPassive held.stage → Passive v → Passive (follows_setup found policy held flags octets v)
setup_follows None policy held flags octets v one passive = passive
setup_follows (Some setup) policy held flags octets v one passive = verdict_follows (verdict policy held.own flags octets v) (policy.wish held.psm) held setup v one passive

configuration_follows : (found : Option Held) (policy : Policy) (flags : ℕ) (octets : List ℕ) (v : Channels) → IsFound found → Passive v → Passive (follows_configuration found policy flags octets v)
configuration_follows None policy flags octets v one passive = passive
configuration_follows (Some held) policy flags octets v one passive = setup_follows (setup_of held.stage) policy held flags octets v one passive

disconnection_follows : (found : Option Held) (peer : ℕ) (v : Channels) → Passive v → Passive (follows_disconnection found peer v)
disconnection_follows None peer v passive = passive
disconnection_follows (Some held) peer v passive = either (is_peer peer held.stage) (peer_closes_at held.stage held v) v (peer_closed held.stage held v passive) passive

follows_passive : (policy : Policy) (content : Content) (v : Channels) → Passive v → Passive (follows policy content v)
follows_passive policy (reject reason rest) v passive = passive
follows_passive policy (connection_request psm source) v passive = either (eqb (connection_result policy psm source v) 0) (with_channel psm (Connected source no_setup) v) v (granted_to psm source v passive) passive
follows_passive policy (connection_response destination source answer status) v passive = passive
follows_passive policy (configuration_request destination flags options) v passive = configuration_follows (held_at destination v) policy flags options v (found_passive (has_own destination) v passive) passive
follows_passive policy (configuration_response source flags answer options) v passive = passive
follows_passive policy (disconnection_request destination source) v passive = disconnection_follows (held_at destination v) source v passive
follows_passive policy (disconnection_response destination source) v passive = passive
follows_passive policy (echo_request octets) v passive = passive
follows_passive policy (echo_response octets) v passive = passive
follows_passive policy (information_request kind) v passive = passive
follows_passive policy (information_response kind answer rest) v passive = passive

said : (identifier : ℕ) (response : Option Content) (v : Channels) → Passive v → Passive (says identifier response v)
said identifier None v passive = passive
said identifier (Some content) v passive = passive

again : (identifier : ℕ) (response : Option Content) (v : Channels) → Passive v → Passive (hears_again identifier response v)
again identifier response v passive = either (can_say response v) (says identifier response v) v (said identifier response v passive) passive

anew : (kind : RequestKind) (identifier : ℕ) (response : Option Content) (goes_on : Channels → Channels) (v : Channels) → ((u : Channels) → Passive u → Passive (goes_on u)) → Passive v → Passive (hears_new kind identifier response goes_on v)
anew kind identifier response goes_on v goes passive =
    let u : Channels = remembers kind identifier response v in
    either (can_say response v) (goes_on (says identifier response u)) v (goes (says identifier response u) (said identifier response u passive)) passive

of_kind : (last : Option Remembered) (kind : RequestKind) (identifier : ℕ) (response : Option Content) (goes_on : Channels → Channels) (v : Channels) → ((u : Channels) → Passive u → Passive (goes_on u)) → Passive v → Passive (hears_kind last kind identifier response goes_on v)
of_kind None kind identifier response goes_on v goes passive = anew kind identifier response goes_on v goes passive
of_kind (Some last) kind identifier response goes_on v goes passive =
    either (eqb last.identifier identifier) (hears_again identifier last.response v) (hears_new kind identifier response goes_on v) (again identifier last.response v passive) (anew kind identifier response goes_on v goes passive)

questioned : (policy : Policy) (kind : RequestKind) (identifier : ℕ) (content : Content) (v : Channels) → Passive v → Passive (hears_request kind identifier (answer_to policy content v) (follows policy content) v)
questioned policy kind identifier content v passive = of_kind (remembered kind v.memory) kind identifier (answer_to policy content v) (follows policy content) v (λ u now. follows_passive policy content u now) passive

-- ---- what the peer responds

answered : (policy : Policy) (endpoint result : ℕ) (held : Held) (v : Channels) → Passive v → Passive (hears_connected policy endpoint result held v)
answered policy endpoint result held v passive =
    either (eqb result 0) (cond (is_fresh_endpoint endpoint v) (connects (policy.wish held.psm) endpoint held v) v) (cond (eqb result 1) v (closes (Refused result) held v))
    (either (is_fresh_endpoint endpoint v) (connects (policy.wish held.psm) endpoint held v) v (options_asked (record held { stage = Connected endpoint no_setup }) no_setup _ v tt passive) passive)
    (either (eqb result 1) v (closes (Refused result) held v) passive (closed held.stage (Refused result) held v passive))

grant_at : (stage : Stage) (policy : Policy) (identifier endpoint result : ℕ) (held : Held) (v : Channels) → Passive v → Passive (hears_grant_at stage policy identifier endpoint result held v)
grant_at (Requested request) policy identifier endpoint result held v passive = either (eqb request.identifier identifier) (hears_connected policy endpoint result held v) v (answered policy endpoint result held v passive) passive
grant_at (Connected peer setup) policy identifier endpoint result held v passive = passive
grant_at (Leaving peer setup request) policy identifier endpoint result held v passive = passive
grant_at (Closing peer request checked) policy identifier endpoint result held v passive = passive
grant_at (Crossed peer request) policy identifier endpoint result held v passive = passive

granted_by : (found : Option Held) (policy : Policy) (identifier endpoint result : ℕ) (v : Channels) → Passive v → Passive (hears_grant found policy identifier endpoint result v)
granted_by None policy identifier endpoint result v passive = passive
granted_by (Some held) policy identifier endpoint result v passive = grant_at held.stage policy identifier endpoint result held v passive

settled_passive : (now : Settled) (held : Held) (setup : Setup) (v : Channels) → IsPassive held.stage → Passive v → Passive (hears_settled now held setup v)
settled_passive Accepted held setup v one passive = granted held setup v one passive
settled_passive (Again options) held setup v one passive =
    let after : Setup = renewed_setup setup in
    either (is_leaving held.stage || nat_le 3 after.renewed) (closes NoAgreement (with_setup held after) (to_setup held after v)) (asks_options held after options v) (third held after v one passive) (options_asked held after options v one passive)
settled_passive Wait held setup v one passive = passive
settled_passive Never held setup v one passive = closed held.stage NoAgreement held v passive

options_passive : (found : Result Options ConfigRefusal) (policy : Policy) (result : ℕ) (held : Held) (setup : Setup) (v : Channels) → IsPassive held.stage → Passive v → Passive (hears_options found policy result held setup v)
options_passive (Ok options) policy result held setup v one passive = settled_passive (settled (policy.wish held.psm) result options) held setup v one passive
options_passive (Err refusal) policy result held setup v one passive = passive

response_on : (found : Option Setup) (policy : Policy) (identifier result : ℕ) (octets : List ℕ) (held : Held) (v : Channels) → IsPassive held.stage → Passive v → Passive (hears_response_on found policy identifier result octets held v)
response_on None policy identifier result octets held v one passive = passive
response_on (Some setup) policy identifier result octets held v one passive =
    either (is_asked identifier setup.own) (hears_options (options_read octets) policy result held setup v) v (options_passive (options_read octets) policy result held setup v one passive) passive

responded : (found : Option Held) (policy : Policy) (identifier result : ℕ) (octets : List ℕ) (v : Channels) → IsFound found → Passive v → Passive (hears_response found policy identifier result octets v)
responded None policy identifier result octets v one passive = passive
responded (Some held) policy identifier result octets v one passive = response_on (setup_of held.stage) policy identifier result octets held v one passive

ended_by : (found : Option Held) (peer : ℕ) (v : Channels) → Passive v → Passive (hears_end found peer v)
ended_by None peer v passive = passive
ended_by (Some held) peer v passive = either (is_peer peer held.stage) (ends OwnClosed held v) v (ended held.stage OwnClosed held v passive) passive

featured : (identifier : ℕ) (told : Option ℕ) (v : Channels) → Passive v → Passive (hears_features identifier told v)
featured identifier told v passive =
    either (has_identifier identifier v.features) (tells (Features told) (forgets errands.Features (record v { features = None }))) v (record { held = passive.held; none_asked = refl }) passive

-- ---- a command

content_passive : (policy : Policy) (identifier : ℕ) (content : Content) (v : Channels) → Passive v → Passive (hears_content policy identifier content v)
content_passive policy identifier (reject reason rest) v passive = featured identifier None v passive
content_passive policy identifier (connection_request psm source) v passive = questioned policy kinds.Connection identifier (connection_request psm source) v passive
content_passive policy identifier (connection_response destination source answer status) v passive = granted_by (held_at source v) policy identifier destination answer v passive
content_passive policy identifier (configuration_request destination flags options) v passive = questioned policy kinds.Configuration identifier (configuration_request destination flags options) v passive
content_passive policy identifier (configuration_response source flags answer options) v passive = responded (held_at source v) policy identifier answer options v (found_passive (has_own source) v passive) passive
content_passive policy identifier (disconnection_request destination source) v passive = questioned policy kinds.Disconnection identifier (disconnection_request destination source) v passive
content_passive policy identifier (disconnection_response destination source) v passive = ended_by (held_at source v) destination v passive
content_passive policy identifier (echo_request octets) v passive = questioned policy kinds.Echo identifier (echo_request octets) v passive
content_passive policy identifier (echo_response octets) v passive = passive
content_passive policy identifier (information_request kind) v passive = questioned policy kinds.Information identifier (information_request kind) v passive
content_passive policy identifier (information_response kind answer rest) v passive = featured identifier (features_in kind answer rest) v passive

malformed : (kind : Option RequestKind) (identifier : ℕ) (v : Channels) → Passive v → Passive (hears_malformed kind identifier v)
malformed None identifier v passive = passive
malformed (Some kind) identifier v passive = of_kind (remembered kind v.memory) kind identifier (Some not_understood) (λ w. w) v (λ u now. now) passive

unread_passive : (code identifier : ℕ) (v : Channels) → Passive v → Passive (hears_unread code identifier v)
unread_passive code identifier v passive =
    either (eqb identifier 0) v _ passive
    (either (is_response_code code) v _ passive
    (either (is_kind (kind_of_code code)) (hears_malformed (kind_of_code code) identifier v) (hears_again identifier (Some not_understood) v) (malformed (kind_of_code code) identifier v passive) (again identifier (Some not_understood) v passive)))

refused_passive : (refusal : SignalRefusal) (v : Channels) → Passive v → Passive (hears_refused refusal v)
refused_passive (ZeroIdentifier code identifier) v passive = passive
refused_passive (BadLength code None) v passive = passive
refused_passive (BadLength code (Some identifier)) v passive = unread_passive code identifier v passive
refused_passive (UnknownCode code None) v passive = passive
refused_passive (UnknownCode code (Some identifier)) v passive = unread_passive code identifier v passive
refused_passive (AboveMtu code None) v passive = passive
refused_passive (AboveMtu code (Some identifier)) v passive = either (eqb identifier 0) v (hears_again identifier (Some too_long) v) passive (again identifier (Some too_long) v passive)

command_passive : (policy : Policy) (one : Read) (v : Channels) → Passive v → Passive (hears_command policy one v)
command_passive policy (Ok command) v passive = content_passive policy command.identifier command.content v passive
command_passive policy (Err refusal) v passive = refused_passive refusal v passive

commands_passive : (policy : Policy) (list : List Read) (v : Channels) → Passive v → Passive (hears_commands policy list v)
commands_passive policy [] v passive = passive
commands_passive policy (one ∷ list) v passive = commands_passive policy list (hears_command policy one v) (command_passive policy one v passive)

-- ---- a PDU on a channel

settles_passive : (reason : Option ErtmReason) (machine : Ertm) (held : Held) (setup : Setup) (v : Channels) → IsPassive held.stage → Passive v → Passive (settles_machine reason machine held setup v)
settles_passive None machine held setup v one passive = set_up held (record setup { carrier = Some (Retransmitting machine) }) v one passive
settles_passive (Some reason) machine held setup v one passive = closed held.stage (reason_of reason) held v passive

carries_passive : (carrier : Carrier) (pdu : List ℕ) (held : Held) (setup : Setup) (v : Channels) → IsPassive held.stage → Passive v → Passive (carries carrier pdu held setup v)
carries_passive (Plain agreed waiting) pdu held setup v one passive = passive
carries_passive (Retransmitting machine) pdu held setup v one passive = let after : Ertm = machine_heard (read_by machine pdu) machine in settles_passive after.closed after held setup v one passive

opens_passive : (own : Own) (held : Held) (setup : Setup) (v : Channels) → IsPassive held.stage → Passive v → Passive (opens_with own held setup v)
opens_passive Unasked held setup v one passive = passive
opens_passive (Asking request options) held setup v one passive = granted held setup v one passive
opens_passive Granted held setup v one passive = passive

taken_with : (carrier : Option Carrier) (pdu : List ℕ) (held : Held) (setup : Setup) (v : Channels) → IsPassive held.stage → Passive v → Passive (takes_with carrier pdu held setup v)
taken_with None pdu held setup v one passive = passive
taken_with (Some carrier) pdu held setup v one passive =
    let u : Channels = opens_with setup.own held setup v in
    either (is_taken_with setup.own carrier pdu) (carries carrier pdu (with_setup held (granted_setup setup)) (granted_setup setup) u) v
    (carries_passive carrier pdu (with_setup held (granted_setup setup)) (granted_setup setup) u (with_stage held.stage (granted_setup setup) one) (opens_passive setup.own held setup v one passive)) passive

taken_on : (found : Option Setup) (pdu : List ℕ) (held : Held) (v : Channels) → IsPassive held.stage → Passive v → Passive (takes_on found pdu held v)
taken_on None pdu held v one passive = passive
taken_on (Some setup) pdu held v one passive = taken_with setup.carrier pdu held setup v one passive

taken_held : (found : Option Held) (pdu : List ℕ) (v : Channels) → IsFound found → Passive v → Passive (takes_held found pdu v)
taken_held None pdu v one passive = passive
taken_held (Some held) pdu v one passive = taken_on (setup_of held.stage) pdu held v one passive

pub comes-passive : (policy : Policy) (pdu : List ℕ) (v : Channels) → Passive v → Passive (hears policy (channel_of pdu) pdu v)
comes-passive policy pdu v passive =
    either (eqb (channel_of pdu) 0x0001) (hears_commands policy (answers (drop 4 pdu)) v) (takes (channel_of pdu) pdu v) (commands_passive policy (answers (drop 4 pdu)) v passive)
    (taken_held (held_at (channel_of pdu) v) pdu v (found_passive (has_own (channel_of pdu)) v passive) passive)

-- ---- an SDU is sent, and the next PDU given

sent_on : (found : Option Setup) (sdu : List ℕ) (held : Held) (v : Channels) → IsPassive held.stage → Passive v → Passive (sends_on found sdu held v)
sent_on None sdu held v one passive = passive
sent_on (Some setup) sdu held v one passive = set_up held (sends_setup setup sdu) v one passive

sent_held : (found : Option Held) (sdu : List ℕ) (v : Channels) → IsFound found → Passive v → Passive (sends_held found sdu v)
sent_held None sdu v one passive = passive
sent_held (Some held) sdu v one passive = sent_on (setup_of held.stage) sdu held v one passive

pub sends-passive : (own : ℕ) (sdu : List ℕ) (v : Channels) → Passive v → Passive (sends own sdu v)
sends-passive own sdu v passive = sent_held (held_at own v) sdu v (found_passive (has_own own) v passive) passive

connection_counted : (stage : Stage) → IsPassive stage → IsPassive (connection_given stage)
connection_counted (Requested request) passive = passive
connection_counted (Connected peer setup) passive = tt
connection_counted (Leaving peer setup request) passive = passive
connection_counted (Closing peer request checked) passive = tt
connection_counted (Crossed peer request) passive = tt

configuration_counted : (stage : Stage) → IsPassive stage → IsPassive (configuration_given stage)
configuration_counted (Requested request) passive = passive
configuration_counted (Connected peer setup) passive = tt
configuration_counted (Leaving peer setup request) passive = passive
configuration_counted (Closing peer request checked) passive = tt
configuration_counted (Crossed peer request) passive = tt

disconnection_counted : (stage : Stage) → IsPassive stage → IsPassive (disconnection_given stage)
disconnection_counted (Requested request) passive = passive
disconnection_counted (Connected peer setup) passive = tt
disconnection_counted (Leaving peer setup request) passive = passive
disconnection_counted (Closing peer request checked) passive = tt
disconnection_counted (Crossed peer request) passive = tt

stage_counted : (f : Stage → Stage) (found : Option Held) (v : Channels) → ((stage : Stage) → IsPassive stage → IsPassive (f stage)) → IsFound found → Passive v → Passive (stage_given f found v)
stage_counted f None v keeps one passive = passive
stage_counted f (Some held) v keeps one passive = staged held (f held.stage) v (keeps held.stage one) passive

counted_passive : (errand : Errand) (v : Channels) → Passive v → Passive (counted errand v)
counted_passive (errands.Connection own) v passive = stage_counted connection_given (held_at own v) v connection_counted (found_passive (has_own own) v passive) passive
counted_passive (errands.Configuration own) v passive = stage_counted configuration_given (held_at own v) v configuration_counted (found_passive (has_own own) v passive) passive
counted_passive (errands.Disconnection own) v passive = stage_counted disconnection_given (held_at own v) v disconnection_counted (found_passive (has_own own) v passive) passive
counted_passive errands.Features v passive = record { held = passive.held; none_asked = subst (λ (asked : Option Request). option_map one_more asked ≡ None) (sym passive.none_asked) refl }

spent_passive : (found : Option Setup) (held : Held) (v : Channels) → IsPassive held.stage → Passive v → Passive (carrier_spent found held v)
spent_passive None held v one passive = passive
spent_passive (Some setup) held v one passive = set_up held (record setup { carrier = option_map carrier_given setup.carrier }) v one passive

given_held : (found : Option Held) (v : Channels) → IsFound found → Passive v → Passive (held_given found v)
given_held None v one passive = passive
given_held (Some held) v one passive = spent_passive (setup_of held.stage) held v one passive

queue_passive : (queue : List Queued) (v : Channels) → Passive v → Passive (queue_given queue v)
queue_passive [] v passive = given_held (find gives v.held) v (found_passive gives v passive) passive
queue_passive (Answer command ∷ behind) v passive = passive
queue_passive (Ask errand ∷ behind) v passive = counted_passive errand (record v { queue = behind }) passive

pub gives-passive : (v : Channels) → Passive v → Passive (after_given v)
gives-passive v passive = queue_passive v.queue v passive

-- ---- the timer

fires_passive : (now : Fired) (errand : Errand) (spent : Channels → Channels) (v : Channels) → Passive (spent v) → Passive v → Passive (fires now errand spent v)
fires_passive StillDue errand spent v goes passive = passive
fires_passive OnceMore errand spent v goes passive = passive
fires_passive Spent errand spent v goes passive = goes

timed_carrier : (carrier : Option Carrier) (held : Held) (setup : Setup) (v : Channels) → IsPassive held.stage → Passive v → Passive (times_carrier carrier held setup v)
timed_carrier None held setup v one passive = passive
timed_carrier (Some (Plain agreed waiting)) held setup v one passive = passive
timed_carrier (Some (Retransmitting machine)) held setup v one passive = settles_passive (timed machine).closed (timed machine) held setup v one passive

timed_setup : (own : Own) (tries : ℕ) (held : Held) (setup : Setup) (v : Channels) → IsPassive held.stage → Passive v → Passive (times_setup own tries held setup v)
timed_setup Unasked tries held setup v one passive = timed_carrier setup.carrier held setup v one passive
timed_setup (Asking request options) tries held setup v one passive =
    fires_passive (fired tries (errands.Configuration held.own) request v) (errands.Configuration held.own) (closes RetryLimit held) v (closed held.stage RetryLimit held v passive) passive
timed_setup Granted tries held setup v one passive = timed_carrier setup.carrier held setup v one passive

timed_stage : (stage : Stage) (tries : ℕ) (held : Held) (v : Channels) → IsPassive held.stage → Passive v → Passive (times_stage stage tries held v)
timed_stage (Requested request) tries held v one passive = fires_passive (fired tries (errands.Connection held.own) request v) (errands.Connection held.own) (closes RetryLimit held) v (closed held.stage RetryLimit held v passive) passive
timed_stage (Connected peer setup) tries held v one passive = timed_setup setup.own tries held setup v one passive
timed_stage (Leaving peer setup request) tries held v one passive = timed_setup setup.own tries held setup v one passive
timed_stage (Closing peer request checked) tries held v one passive = passive
timed_stage (Crossed peer request) tries held v one passive = passive

timed_held : (found : Option Held) (tries : ℕ) (v : Channels) → IsFound found → Passive v → Passive (times_held found tries v)
timed_held None tries v one passive = passive
timed_held (Some held) tries v one passive = timed_stage held.stage tries held v one passive

pub waits-passive : (own tries : ℕ) (v : Channels) → Passive v → Passive (times_held (held_at own v) tries v)
waits-passive own tries v passive = timed_held (held_at own v) tries v (found_passive (has_own own) v passive) passive

end_at : (stage : Stage) (tries : ℕ) (held : Held) (v : Channels) → Passive v → Passive (times_end_at stage tries held v)
end_at (Requested request) tries held v passive = passive
end_at (Connected peer setup) tries held v passive = passive
end_at (Leaving peer setup request) tries held v passive = fires_passive (fired tries (errands.Disconnection held.own) request v) (errands.Disconnection held.own) (ends RetryLimit held) v (ended held.stage RetryLimit held v passive) passive
end_at (Closing peer request checked) tries held v passive = fires_passive (fired tries (errands.Disconnection held.own) request v) (errands.Disconnection held.own) _ v (ended held.stage RetryLimit held v passive) passive
end_at (Crossed peer request) tries held v passive = fires_passive (fired tries (errands.Disconnection held.own) request v) (errands.Disconnection held.own) _ v (ended held.stage RetryLimit held v passive) passive

end_held : (found : Option Held) (tries : ℕ) (v : Channels) → Passive v → Passive (times_end found tries v)
end_held None tries v passive = passive
end_held (Some held) tries v passive = end_at held.stage tries held v passive

pub ends-passive : (own tries : ℕ) (v : Channels) → Passive v → Passive (times_end (held_at own v) tries v)
ends-passive own tries v passive = end_held (held_at own v) tries v passive

pub channel-passive : (own tries : ℕ) (v : Channels) → Passive v → Passive (times_channel tries own v)
channel-passive own tries v passive = ends-passive own tries (times_held (held_at own v) tries v) (waits-passive own tries v passive)

-- no features are asked for, so none are waited for
pub features-passive : (tries : ℕ) (v : Channels) → Passive v → times_features v.features tries v ≡ v
features-passive tries v passive = subst (λ (asked : Option Request). times_features asked tries v ≡ v) (sym passive.none_asked) refl

channels_passive : (tries : ℕ) (owns : List ℕ) (v : Channels) → Passive v → Passive (times_channels tries owns v)
channels_passive tries [] v passive = passive
channels_passive tries (own ∷ owns) v passive = channels_passive tries owns (times_channel tries own v) (channel-passive own tries v passive)

pub timed-passive : (policy : Policy) (v : Channels) → Passive v → Passive (timed_out policy v)
timed-passive policy v passive =
    let after : Channels = times_channels policy.tries (map (λ held. held.own) v.held) v in
    let all = channels_passive policy.tries (map (λ held. held.own) v.held) v passive in
    subst Passive (sym (features-passive policy.tries after all)) all
