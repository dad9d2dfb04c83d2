-- From a host in which no request of its own waits to be given, a command or a call lets at most one wait.
use Rattle.std.proofs.Common.{◌≡◌, ℕ, List, [], ◌∷◌, ◌++◌, Bool, true, false, cond, not, eqb, find, filter, Option, Some, None, Result, Ok, Err, is_some, nat_le, refl, sym, ap, subst, ◌∙◌, ◌||◌}
use Rattle.std.specs.Option.{option_or}
use Rattle.std.specs.List.{AllByRecursion}
use Rattle.shelf_model.specs.l2cap_signal.specs.Commands.{Content, reject, connection_request, connection_response, configuration_request, configuration_response, disconnection_request, disconnection_response, echo_request, echo_response, information_request, information_response}
use Rattle.shelf_model.specs.l2cap_config.specs.declared.options.Options.{Options}
use Rattle.shelf_model.specs.l2cap_config.specs.declared.options.ConfigRefusal.{ConfigRefusal}
use Rattle.shelf_model.specs.l2cap_config.specs.declared.agreement.ConfigAnswer.{ConfigAnswer}
use Rattle.shelf_model.specs.l2cap_config.specs.declared.agreement.ConfigAnswer.TheVariants.{Accept, Unacceptable, Unknown}
use Rattle.shelf_model.specs.l2cap_config.specs.declared.agreement.Settled.{Settled}
use Rattle.shelf_model.specs.l2cap_config.specs.declared.agreement.Settled.TheVariants.{Accepted, Again, Wait, Never}
use Rattle.shelf_model.specs.l2cap_config.specs.declared.wish.Wish.{Wish}
use Rattle.shelf_model.specs.l2cap_config.specs.Reading.{options_read}
use Rattle.shelf_model.specs.l2cap_config.specs.Agreement.{settled}
use Rattle.shelf_model.specs.ertm_model.specs.declared.reason.ErtmReason.{ErtmReason}
use Rattle.shelf_model.specs.ertm_model.specs.Value.{Ertm}
use Rattle.channel_laws.specs.channel_model.specs.declared.errand.Errand.{Errand}
use Rattle.channel_laws.specs.channel_model.specs.declared.errand.Errand.TheVariants as errands
use Rattle.channel_laws.specs.channel_model.specs.declared.event.ChannelEvent.TheVariants.{Features}
use Rattle.channel_laws.specs.channel_model.specs.declared.event.CloseReason.{CloseReason}
use Rattle.channel_laws.specs.channel_model.specs.declared.event.CloseReason.TheVariants.{NoAgreement, Refused, OwnClosed}
use Rattle.channel_laws.specs.channel_model.specs.Value.{Request, Queued, Answer, Ask, Own, Unasked, Asking, Granted, Carrier, Plain, Retransmitting, Setup, no_setup, Stage, Requested, Connected, Leaving, Closing, Crossed, Held, Channels}
use Rattle.channel_laws.specs.channel_model.specs.Policies.{Policy}
use Rattle.channel_laws.specs.channel_model.specs.Changing.{has_own, has_fcs_by, held_at, is_peer, setup_of, stage_with, with_setup, to_setup, is_copy, is_copy_about, forgets, tells, is_leaving}
use Rattle.channel_laws.specs.channel_model.specs.Asking.{next_identifier, new_request, first_options, asks, asks_options}
use Rattle.channel_laws.specs.channel_model.specs.Closing.{closes, closes_at, peer_closes_at, ends_at}
use Rattle.channel_laws.specs.channel_model.specs.Configuring.{Verdict, NoChannel, TooLate, Unreadable, Incomplete, Judged, verdict, accepted_setup, accepts_with, refused_setup, follows_answer, follows_verdict, opens_if, granted_setup, grants}
use Rattle.channel_laws.specs.channel_model.specs.Answers.{connection_result}
use Rattle.channel_laws.specs.channel_model.specs.Following.{with_channel, follows_setup, follows_configuration, follows_disconnection, follows}
use Rattle.channel_laws.specs.channel_model.specs.Responses.{is_fresh_endpoint, connects, hears_connected, hears_grant_at, hears_grant, renewed_setup, hears_settled, hears_options, is_asked, hears_response_on, hears_response, hears_end, has_identifier, hears_features}
use Rattle.channel_laws.specs.channel_model.specs.Carrying.{reason_of, settles_machine, machine_heard, read_by, carries, is_taken_with, opens_with, takes_with, takes_on, takes_held, takes}
use Rattle.channel_laws.specs.channel_model.specs.Giving.{connection_at, configuration_at, disconnection_at, on_held, command_of}
use Rattle.channel_laws.specs.channel_model.specs.Calls.{can_connect, connected, asks_features, disconnected_at, disconnected_held, disconnected}
use Rattle.channel_laws.specs.channel_model.proofs.Lookups.{own_of, find-append, eqb-same, found-placed}
use Rattle.channel_laws.specs.channel_model.proofs.Walking.{found-own, with-found}
use Rattle.channel_laws.specs.channel_model.proofs.Calling.{granted-same}

-- ---- answers alone wait

abbrev IsReply : Queued → Type 0
IsReply (Answer command) = Unit {0}
IsReply (Ask errand) = ⊥

abbrev pub Replies : List Queued → Type 0
Replies queue = AllByRecursion IsReply queue

pub none-replies : (queue : List Queued) → queue ≡ [] → Replies queue
none-replies queue none = subst (λ (q : List Queued). Replies q) (sym none) tt

no_copies : (errand : Errand) (queue : List Queued) → Replies queue → filter (λ waiting. not (is_copy errand waiting)) queue ≡ queue
no_copies errand [] all = refl
no_copies errand (Answer command ∷ queue) all = ap (λ (rest : List Queued). Answer command ∷ rest) (no_copies errand queue all.1)
no_copies errand (Ask other ∷ queue) all = absurd all.0

none_about : (own : ℕ) (queue : List Queued) → Replies queue → filter (λ waiting. not (is_copy_about own waiting)) queue ≡ queue
none_about own [] all = refl
none_about own (Answer command ∷ queue) all = ap (λ (rest : List Queued). Answer command ∷ rest) (none_about own queue all.1)
none_about own (Ask other ∷ queue) all = absurd all.0

-- ---- what is added

-- nothing; or a request of its own, which waits for its response
pub data Adds (v w : Channels) : Type 0 where
  Stays : w.identifier ≡ v.identifier → w.queue ≡ v.queue → Adds v w
  Demands : (errand : Errand) → w.identifier ≡ next_identifier v.identifier → w.queue ≡ v.queue ++ Ask errand ∷ [] → is_some (command_of errand w) ≡ true → Adds v w

same_adds : (v : Channels) → Adds v v
same_adds v = Stays refl refl

-- from what differs in neither
pub from-same : (u v w : Channels) → u.identifier ≡ v.identifier → u.queue ≡ v.queue → Adds u w → Adds v w
from-same u v w identifier_is queue_is (Stays same still) = Stays (same ∙ identifier_is) (still ∙ queue_is)
from-same u v w identifier_is queue_is (Demands errand next more some) =
    Demands errand (next ∙ ap next_identifier identifier_is) (more ∙ ap (λ (queue : List Queued). queue ++ Ask errand ∷ []) queue_is) some

if_adds : (b : Bool) (v one other : Channels) → Adds v one → Adds v other → Adds v (cond b one other)
if_adds true v one other this that = this
if_adds false v one other this that = that

-- ---- a channel is closed

closes_adds : (v : Channels) → Replies v.queue → (held : Held) (reason : CloseReason) (stage : Stage) → find (has_own held.own) v.held ≡ Some held → Adds v (closes_at stage reason held v)
closes_adds v all held reason (Requested request) found = Stays refl (none_about held.own v.queue all)
closes_adds v all held reason (Connected peer setup) found =
    let after : Held = record held { stage = Closing peer (new_request v) (has_fcs_by setup) } in
    Demands (errands.Disconnection held.own) refl
    (ap (λ (queue : List Queued). filter (λ waiting. not (is_copy (errands.Disconnection held.own) waiting)) queue ++ Ask (errands.Disconnection held.own) ∷ []) (no_copies (errands.Configuration held.own) v.queue all)
    ∙ ap (λ (queue : List Queued). queue ++ Ask (errands.Disconnection held.own) ∷ []) (no_copies (errands.Disconnection held.own) v.queue all))
    (ap (λ (h : Option Held). is_some (on_held (λ x. disconnection_at x.stage x) h)) (found-placed after held v.held found))
closes_adds v all held reason (Leaving peer setup request) found = Stays refl (no_copies (errands.Configuration held.own) v.queue all)
closes_adds v all held reason (Closing peer request checked) found = same_adds v
closes_adds v all held reason (Crossed peer request) found = same_adds v

peer_adds : (v : Channels) → Replies v.queue → (held : Held) (stage : Stage) → Adds v (peer_closes_at stage held v)
peer_adds v all held (Requested request) = same_adds v
peer_adds v all held (Connected peer setup) = Stays refl (none_about held.own v.queue all)
peer_adds v all held (Leaving peer setup request) = Stays refl (no_copies (errands.Configuration held.own) v.queue all)
peer_adds v all held (Closing peer request checked) = Stays refl refl
peer_adds v all held (Crossed peer request) = same_adds v

ends_adds : (v : Channels) → Replies v.queue → (held : Held) (reason : CloseReason) (stage : Stage) → Adds v (ends_at stage reason held v)
ends_adds v all held reason (Requested request) = same_adds v
ends_adds v all held reason (Connected peer setup) = same_adds v
ends_adds v all held reason (Leaving peer setup request) = Stays refl (none_about held.own v.queue all)
ends_adds v all held reason (Closing peer request checked) = Stays refl (none_about held.own v.queue all)
ends_adds v all held reason (Crossed peer request) = Stays refl (none_about held.own v.queue all)

-- ---- options

asking_some : (stage : Stage) (before after : Setup) (request : Request) (options : Options) → setup_of stage ≡ Some before → (let now : Setup = record after { own = Asking request options } in is_some (configuration_at (stage_with now stage)) ≡ true)
asking_some (Requested request) before after asked options is = cc
asking_some (Connected peer setup) before after asked options is = refl
asking_some (Leaving peer setup request) before after asked options is = refl
asking_some (Closing peer request checked) before after asked options is = cc
asking_some (Crossed peer request) before after asked options is = cc

options_add : (v : Channels) → Replies v.queue → (held was : Held) (before after : Setup) (options : Options) → find (has_own held.own) v.held ≡ Some was → setup_of held.stage ≡ Some before → Adds v (asks_options held after options v)
options_add v all held was before after options found is =
    let asked : Setup = record after { own = Asking (new_request v) options } in
    Demands (errands.Configuration held.own) refl
    (ap (λ (queue : List Queued). queue ++ Ask (errands.Configuration held.own) ∷ []) (no_copies (errands.Configuration held.own) v.queue all))
    (ap (λ (h : Option Held). is_some (on_held (λ x. configuration_at x.stage) h)) (found-placed (with_setup held asked) was v.held found) ∙ asking_some held.stage before after (new_request v) options is)

-- the third time closes
third_adds : (v : Channels) → Replies v.queue → (held : Held) (after : Setup) (third : Bool) → find (has_own held.own) v.held ≡ Some held → (other : Channels) → Adds v other
    → Adds v (cond third (closes NoAgreement (with_setup held after) (to_setup held after v)) other)
third_adds v all held after true found other adds =
    let now = with_setup held after in
    from-same (to_setup held after v) v (closes NoAgreement now (to_setup held after v)) refl refl (closes_adds (to_setup held after v) all now NoAgreement now.stage (with-found v held after found))
third_adds v all held after false found other adds = adds

accepts_add : (v : Channels) → Replies v.queue → (held : Held) (before after : Setup) (own : Own) (wish : Wish) → find (has_own held.own) v.held ≡ Some held → setup_of held.stage ≡ Some before → Adds v (accepts_with own wish held after v)
accepts_add v all held before after Unasked wish found is = options_add v all held held before after (first_options wish) found is
accepts_add v all held before after (Asking request options) wish found is = Stays refl refl
accepts_add v all held before after Granted wish found is = Stays refl refl

answer_adds : (v : Channels) → Replies v.queue → (held : Held) (setup : Setup) (answer : ConfigAnswer) (wish : Wish) (options : Options) → find (has_own held.own) v.held ≡ Some held → setup_of held.stage ≡ Some setup → Adds v (follows_answer answer wish options held setup v)
answer_adds v all held setup (Accept given) wish options found is = accepts_add v all held setup (accepted_setup wish options setup) setup.own wish found is
answer_adds v all held setup (Unacceptable refusal given) wish options found is =
    third_adds v all held (refused_setup setup) (nat_le 3 (refused_setup setup).refused) found (to_setup held (refused_setup setup) v) (Stays refl refl)
answer_adds v all held setup Unknown wish options found is = Stays refl refl

verdict_adds : (v : Channels) → Replies v.queue → (held : Held) (setup : Setup) (judged : Verdict) (wish : Wish) → find (has_own held.own) v.held ≡ Some held → setup_of held.stage ≡ Some setup → Adds v (follows_verdict judged wish held setup v)
verdict_adds v all held setup NoChannel wish found is = same_adds v
verdict_adds v all held setup (TooLate peer) wish found is = same_adds v
verdict_adds v all held setup (Unreadable peer) wish found is = Stays refl refl
verdict_adds v all held setup (Incomplete peer options) wish found is = Stays refl refl
verdict_adds v all held setup (Judged peer options answer) wish found is = answer_adds v all held setup answer wish options found is

setup_adds : (v : Channels) → Replies v.queue → (policy : Policy) (held : Held) (setup : Option Setup) (flags : ℕ) (octets : List ℕ) → find (has_own held.own) v.held ≡ Some held → setup_of held.stage ≡ setup → Adds v (follows_setup setup policy held flags octets v)
setup_adds v all policy held None flags octets found is = same_adds v
setup_adds v all policy held (Some setup) flags octets found is = verdict_adds v all held setup (verdict policy held.own flags octets v) (policy.wish held.psm) found is

configuration_adds : (v : Channels) → Replies v.queue → (policy : Policy) (own : ℕ) (held : Option Held) (flags : ℕ) (octets : List ℕ) → find (has_own own) v.held ≡ held → Adds v (follows_configuration held policy flags octets v)
configuration_adds v all policy own None flags octets is = same_adds v
configuration_adds v all policy own (Some held) flags octets is = setup_adds v all policy held (setup_of held.stage) flags octets (found-own own v held is) refl

bidding_adds : (v : Channels) → Replies v.queue → (peer : ℕ) (held : Option Held) → Adds v (follows_disconnection held peer v)
bidding_adds v all peer None = same_adds v
bidding_adds v all peer (Some held) = if_adds (is_peer peer held.stage) v (peer_closes_at held.stage held v) v (peer_adds v all held held.stage) (same_adds v)

-- what follows from a request
pub follows-adds : (policy : Policy) (content : Content) (v : Channels) → Replies v.queue → Adds v (follows policy content v)
follows-adds policy (reject reason rest) v all = same_adds v
follows-adds policy (connection_request psm source) v all =
    let new = with_channel psm (Connected source no_setup) v in if_adds (eqb (connection_result policy psm source v) 0) v new v (Stays refl refl) (same_adds v)
follows-adds policy (connection_response destination source answer status) v all = same_adds v
follows-adds policy (configuration_request destination flags options) v all = configuration_adds v all policy destination (held_at destination v) flags options refl
follows-adds policy (configuration_response source flags answer options) v all = same_adds v
follows-adds policy (disconnection_request destination source) v all = bidding_adds v all source (held_at destination v)
follows-adds policy (disconnection_response destination source) v all = same_adds v
follows-adds policy (echo_request octets) v all = same_adds v
follows-adds policy (echo_response octets) v all = same_adds v
follows-adds policy (information_request kind) v all = same_adds v
follows-adds policy (information_response kind answer rest) v all = same_adds v

-- ---- responses

connects_add : (v : Channels) → Replies v.queue → (held : Held) (wish : Wish) (peer : ℕ) → find (has_own held.own) v.held ≡ Some held → Adds v (connects wish peer held v)
connects_add v all held wish peer found =
    let u : Channels = forgets (errands.Connection held.own) v in
    let there : Held = record held { stage = Connected peer no_setup } in
    let same = no_copies (errands.Connection held.own) v.queue all in
    from-same u v (connects wish peer held v) refl same (options_add u (subst (λ (queue : List Queued). Replies queue) (sym same) all) there held no_setup no_setup (first_options wish) found refl)

granted_adds : (v : Channels) → Replies v.queue → (policy : Policy) (held : Held) (endpoint result : ℕ) → find (has_own held.own) v.held ≡ Some held → Adds v (hears_connected policy endpoint result held v)
granted_adds v all policy held endpoint result found = by (eqb result 0) (eqb result 1) (is_fresh_endpoint endpoint v)
  where
    by : (granted waits fresh : Bool) → Adds v (cond granted (cond fresh (connects (policy.wish held.psm) endpoint held v) v) (cond waits v (closes (Refused result) held v)))
    by true waits true = connects_add v all held (policy.wish held.psm) endpoint found
    by true waits false = same_adds v
    by false true fresh = same_adds v
    by false false fresh = closes_adds v all held (Refused result) held.stage found

grant_at_adds : (v : Channels) → Replies v.queue → (policy : Policy) (held : Held) (identifier endpoint result : ℕ) (stage : Stage) → find (has_own held.own) v.held ≡ Some held → Adds v (hears_grant_at stage policy identifier endpoint result held v)
grant_at_adds v all policy held identifier endpoint result (Requested request) found =
    if_adds (eqb request.identifier identifier) v (hears_connected policy endpoint result held v) v (granted_adds v all policy held endpoint result found) (same_adds v)
grant_at_adds v all policy held identifier endpoint result (Connected peer setup) found = same_adds v
grant_at_adds v all policy held identifier endpoint result (Leaving peer setup request) found = same_adds v
grant_at_adds v all policy held identifier endpoint result (Closing peer request checked) found = same_adds v
grant_at_adds v all policy held identifier endpoint result (Crossed peer request) found = same_adds v

pub grant-adds : (v : Channels) → Replies v.queue → (policy : Policy) (own : ℕ) (held : Option Held) (identifier endpoint result : ℕ) → find (has_own own) v.held ≡ held → Adds v (hears_grant held policy identifier endpoint result v)
grant-adds v all policy own None identifier endpoint result is = same_adds v
grant-adds v all policy own (Some held) identifier endpoint result is = grant_at_adds v all policy held identifier endpoint result held.stage (found-own own v held is)

record Granting (v w : Channels) : Type 0 where
  identifier_is : w.identifier ≡ v.identifier
  queue_is : w.queue ≡ v.queue

grants_same : (v : Channels) → Replies v.queue → (held : Held) (setup : Setup) → Granting v (grants held setup v)
grants_same v all held setup = by (is_some setup.carrier)
  where
    by : (some : Bool) → Granting v (opens_if some held (to_setup held (granted_setup setup) (forgets (errands.Configuration held.own) v)))
    by true = record { identifier_is = refl; queue_is = no_copies (errands.Configuration held.own) v.queue all }
    by false = record { identifier_is = refl; queue_is = no_copies (errands.Configuration held.own) v.queue all }

grants_add : (v : Channels) → Replies v.queue → (held : Held) (setup : Setup) → Adds v (grants held setup v)
grants_add v all held setup = let same = grants_same v all held setup in Stays same.identifier_is same.queue_is

settled_adds : (v : Channels) → Replies v.queue → (held : Held) (setup : Setup) (now : Settled) → find (has_own held.own) v.held ≡ Some held → setup_of held.stage ≡ Some setup → Adds v (hears_settled now held setup v)
settled_adds v all held setup Accepted found is = grants_add v all held setup
settled_adds v all held setup (Again options) found is =
    third_adds v all held (renewed_setup setup) (is_leaving held.stage || nat_le 3 (renewed_setup setup).renewed) found (asks_options held (renewed_setup setup) options v) (options_add v all held held setup (renewed_setup setup) options found is)
settled_adds v all held setup Wait found is = same_adds v
settled_adds v all held setup Never found is = closes_adds v all held NoAgreement held.stage found

response_by_adds : (v : Channels) → Replies v.queue → (policy : Policy) (held : Held) (setup : Setup) (answer : ℕ) (options : Result Options ConfigRefusal) → find (has_own held.own) v.held ≡ Some held → setup_of held.stage ≡ Some setup
    → Adds v (hears_options options policy answer held setup v)
response_by_adds v all policy held setup answer (Ok options) found is = settled_adds v all held setup (settled (policy.wish held.psm) answer options) found is
response_by_adds v all policy held setup answer (Err refusal) found is = same_adds v

response_on_adds : (v : Channels) → Replies v.queue → (policy : Policy) (held : Held) (identifier answer : ℕ) (octets : List ℕ) (setup : Option Setup) → find (has_own held.own) v.held ≡ Some held → setup_of held.stage ≡ setup
    → Adds v (hears_response_on setup policy identifier answer octets held v)
response_on_adds v all policy held identifier answer octets None found is = same_adds v
response_on_adds v all policy held identifier answer octets (Some setup) found is =
    if_adds (is_asked identifier setup.own) v (hears_options (options_read octets) policy answer held setup v) v (response_by_adds v all policy held setup answer (options_read octets) found is) (same_adds v)

pub response-adds : (v : Channels) → Replies v.queue → (policy : Policy) (own : ℕ) (held : Option Held) (identifier answer : ℕ) (octets : List ℕ) → find (has_own own) v.held ≡ held → Adds v (hears_response held policy identifier answer octets v)
response-adds v all policy own None identifier answer octets is = same_adds v
response-adds v all policy own (Some held) identifier answer octets is = response_on_adds v all policy held identifier answer octets (setup_of held.stage) (found-own own v held is) refl

pub end-adds : (v : Channels) → Replies v.queue → (held : Option Held) (peer : ℕ) → Adds v (hears_end held peer v)
end-adds v all None peer = same_adds v
end-adds v all (Some held) peer = if_adds (is_peer peer held.stage) v (ends_at held.stage OwnClosed held v) v (ends_adds v all held OwnClosed held.stage) (same_adds v)

pub features-add : (v : Channels) → Replies v.queue → (identifier : ℕ) (features : Option ℕ) → Adds v (hears_features identifier features v)
features-add v all identifier features = by (has_identifier identifier v.features)
  where
    by : (same : Bool) → Adds v (cond same (tells (Features features) (forgets errands.Features (record v { features = None }))) v)
    by true = Stays refl (no_copies errands.Features v.queue all)
    by false = same_adds v

-- ---- a PDU on a channel

machine_adds : (v : Channels) → Replies v.queue → (held : Held) (setup : Setup) (machine : Ertm) (closed : Option ErtmReason) → find (has_own held.own) v.held ≡ Some held → Adds v (settles_machine closed machine held setup v)
machine_adds v all held setup machine None found = Stays refl refl
machine_adds v all held setup machine (Some reason) found = closes_adds v all held (reason_of reason) held.stage found

carries_add : (v : Channels) → Replies v.queue → (carrier : Carrier) (pdu : List ℕ) (held : Held) (setup : Setup) → find (has_own held.own) v.held ≡ Some held → Adds v (carries carrier pdu held setup v)
carries_add v all (Plain agreed waiting) pdu held setup found = same_adds v
carries_add v all (Retransmitting machine) pdu held setup found =
    let after : Ertm = machine_heard (read_by machine pdu) machine in machine_adds v all held setup after after.closed found

granted_found : (v : Channels) (held : Held) (setup : Setup) → find (has_own held.own) v.held ≡ Some held → find (has_own held.own) (grants held setup v).held ≡ Some (with_setup held (granted_setup setup))
granted_found v held setup found = by (is_some setup.carrier)
  where
    by : (some : Bool) → find (has_own held.own) (opens_if some held (to_setup held (granted_setup setup) (forgets (errands.Configuration held.own) v))).held ≡ Some (with_setup held (granted_setup setup))
    by true = with-found v held (granted_setup setup) found
    by false = with-found v held (granted_setup setup) found

opened_adds : (v : Channels) → Replies v.queue → (carrier : Carrier) (pdu : List ℕ) (held : Held) (setup : Setup) (own : Own) → find (has_own held.own) v.held ≡ Some held → setup_of held.stage ≡ Some setup → setup.own ≡ own → (taken : Bool) → is_taken_with own carrier pdu ≡ taken
    → Adds v (cond taken (carries carrier pdu (with_setup held (granted_setup setup)) (granted_setup setup) (opens_with own held setup v)) v)
opened_adds v all carrier pdu held setup own found is own_is false taken_is = same_adds v
opened_adds v all carrier pdu held setup Unasked found is own_is true taken_is = cc
opened_adds v all carrier pdu held setup (Asking request options) found is own_is true taken_is =
    let u : Channels = grants held setup v in
    let same = grants_same v all held setup in
    from-same u v (carries carrier pdu (with_setup held (granted_setup setup)) (granted_setup setup) u) same.identifier_is same.queue_is
    (carries_add u (subst (λ (queue : List Queued). Replies queue) (sym same.queue_is) all) carrier pdu (with_setup held (granted_setup setup)) (granted_setup setup) (granted_found v held setup found))
opened_adds v all carrier pdu held setup Granted found is own_is true taken_is =
    let same : with_setup held (granted_setup setup) ≡ held = ap (λ (s : Stage). let h : Held = record held { stage = s } in h) (granted-same held.stage setup is own_is) in
    carries_add v all carrier pdu (with_setup held (granted_setup setup)) (granted_setup setup) (found ∙ ap Some (sym same))

taken_adds : (v : Channels) → Replies v.queue → (pdu : List ℕ) (held : Held) (setup : Setup) (carrier : Option Carrier) → find (has_own held.own) v.held ≡ Some held → setup_of held.stage ≡ Some setup → Adds v (takes_with carrier pdu held setup v)
taken_adds v all pdu held setup None found is = same_adds v
taken_adds v all pdu held setup (Some carrier) found is = opened_adds v all carrier pdu held setup setup.own found is refl (is_taken_with setup.own carrier pdu) refl

takes_on_adds : (v : Channels) → Replies v.queue → (pdu : List ℕ) (held : Held) (setup : Option Setup) → find (has_own held.own) v.held ≡ Some held → setup_of held.stage ≡ setup → Adds v (takes_on setup pdu held v)
takes_on_adds v all pdu held None found is = same_adds v
takes_on_adds v all pdu held (Some setup) found is = taken_adds v all pdu held setup setup.carrier found is

takes_held_adds : (v : Channels) → Replies v.queue → (pdu : List ℕ) (own : ℕ) (held : Option Held) → find (has_own own) v.held ≡ held → Adds v (takes_held held pdu v)
takes_held_adds v all pdu own None is = same_adds v
takes_held_adds v all pdu own (Some held) is = takes_on_adds v all pdu held (setup_of held.stage) (found-own own v held is) refl

pub takes-adds : (v : Channels) → Replies v.queue → (own : ℕ) (pdu : List ℕ) → Adds v (takes own pdu v)
takes-adds v all own pdu = takes_held_adds v all pdu own (held_at own v) refl

-- ---- calls

pub connected-adds : (v : Channels) → Replies v.queue → (psm : ℕ) → find (has_own v.next) v.held ≡ None → Adds v (connected psm v)
connected-adds v all psm fresh = by (can_connect v)
  where
    new : Held
    new = record { psm = psm; own = v.next; stage = Requested (new_request v) }

    by : (can : Bool) → Adds v (cond can (asks (errands.Connection v.next) (with_channel psm (Requested (new_request v)) v)) v)
    by true =
        Demands (errands.Connection v.next) refl (ap (λ (queue : List Queued). queue ++ Ask (errands.Connection v.next) ∷ []) (no_copies (errands.Connection v.next) v.queue all))
        (ap (λ (h : Option Held). is_some (on_held (λ x. connection_at x.stage x) h))
        (find-append own_of v.next v.held new ∙ (ap (λ (o : Option Held). option_or o (cond (eqb v.next v.next) (Some new) None)) fresh ∙ ap (λ b. cond b (Some new) None) (eqb-same v.next))))
    by false = same_adds v

pub features-asked : (v : Channels) → Replies v.queue → Adds v (asks_features v)
features-asked v all = by (is_some v.features)
  where
    by : (some : Bool) → (let w : Channels = asks errands.Features (record v { features = Some (new_request v) }) in Adds v (cond some v w))
    by true = same_adds v
    by false = Demands errands.Features refl (ap (λ (queue : List Queued). queue ++ Ask errands.Features ∷ []) (no_copies errands.Features v.queue all)) refl

left_adds : (v : Channels) → Replies v.queue → (held : Held) (stage : Stage) → find (has_own held.own) v.held ≡ Some held → Adds v (disconnected_at stage held v)
left_adds v all held (Requested request) found = closes_adds v all held OwnClosed held.stage found
left_adds v all held (Connected peer setup) found =
    let after : Held = record held { stage = Leaving peer setup (new_request v) } in
    Demands (errands.Disconnection held.own) refl (ap (λ (queue : List Queued). queue ++ Ask (errands.Disconnection held.own) ∷ []) (no_copies (errands.Disconnection held.own) v.queue all))
    (ap (λ (h : Option Held). is_some (on_held (λ x. disconnection_at x.stage x) h)) (found-placed after held v.held found))
left_adds v all held (Leaving peer setup request) found = same_adds v
left_adds v all held (Closing peer request checked) found = same_adds v
left_adds v all held (Crossed peer request) found = same_adds v

left_held_adds : (v : Channels) → Replies v.queue → (own : ℕ) (held : Option Held) → find (has_own own) v.held ≡ held → Adds v (disconnected_held held v)
left_held_adds v all own None is = same_adds v
left_held_adds v all own (Some held) is = left_adds v all held held.stage (found-own own v held is)

pub disconnected-adds : (v : Channels) → Replies v.queue → (own : ℕ) → Adds v (disconnected own v)
disconnected-adds v all own = left_held_adds v all own (held_at own v) refl
