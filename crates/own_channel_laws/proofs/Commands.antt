-- Each command of the peer.
use Rattle.std.proofs.Common.{◌≡◌, ℕ, List, [], ◌∷◌, ◌++◌, fold, Bool, true, false, cond, eqb, Option, Some, None, Ok, Err, refl, sym, ap, subst, ◌∙◌}
use Rattle.std.specs.Prelude.{option_to_list}
use Rattle.std.proofs.lemmas.Bool.{eqb-true}
use Rattle.talk_laws.specs.capture.specs.declared.flow.Flow.TheVariants.{Out, Into}
use Rattle.talk_laws.specs.l2cap_signal.specs.Commands.{Content, Command, reject, connection_request, connection_response, configuration_request, configuration_response, disconnection_request, disconnection_response, echo_request, echo_response, information_request, information_response}
use Rattle.talk_laws.specs.l2cap_signal.specs.Reading.{Answer as Read}
use Rattle.talk_laws.specs.l2cap_signal.specs.declared.refusal.SignalRefusal.TheVariants.{ZeroIdentifier, BadLength, UnknownCode, AboveMtu}
use Rattle.talk_laws.specs.link_talk.specs.Sayings.{Saying}
use Rattle.talk_laws.specs.link_talk.specs.Senses.{Quiet, Asks, Unread, sense, sense_of}
use Rattle.talk_laws.specs.link_talk.specs.declared.call.Wanted.{Wanted}
use Rattle.talk_laws.specs.link_talk.specs.Requests.{Requests, Query, Terms, requests_after}
use Rattle.talk_laws.specs.link_talk.specs.Meanings.{Nothing, meant}
use Rattle.talk_laws.specs.link_talk.specs.Channels.{Entry, entries_after, Reading, read_on}
use Rattle.channel_model.specs.declared.request_kind.RequestKind.{RequestKind}
use Rattle.channel_model.specs.declared.request_kind.RequestKind.TheVariants as kinds
use Rattle.channel_model.specs.declared.errand.Errand.TheVariants as errands
use Rattle.channel_model.specs.declared.event.ChannelEvent.TheVariants.{Features}
use Rattle.channel_model.specs.Value.{Channels}
use Rattle.channel_model.specs.Changing.{forgets, tells}
use Rattle.channel_model.specs.Policies.{Policy}
use Rattle.channel_model.specs.Answers.{kind_of_code, not_understood, too_long, information_answer}
use Rattle.channel_model.specs.Following.{hears_again}
use Rattle.channel_model.specs.Hearing.{hears_command, hears_malformed, is_response_code, is_kind}
use Rattle.channel_model.specs.Responses.{hears_features, has_identifier, features_in}
use Rattle.own_channel_laws.specs.OwnTalk.{spoken, command_with, asked_between, said_with, exchanged, command_if, response_malformed}
use Rattle.own_channel_laws.proofs.Entries.{nothing-same}
use Rattle.own_channel_laws.proofs.Sound.{Sound}
use Rattle.own_channel_laws.proofs.Moves.{quiet, Passes, passed, quiet-passes}
use Rattle.own_channel_laws.proofs.Questions.{heard, asked-none, again-by, hears-echo, hears-information}
use Rattle.own_channel_laws.proofs.Ending.{hears-bidding, hears-bidding_unread}
use Rattle.own_channel_laws.proofs.Inviting.{came, Invites, invites-by, hears-inviting, hears-inviting_unread}
use Rattle.own_channel_laws.proofs.Configuring.{Queries, queries-by}
use Rattle.own_channel_laws.proofs.Hearing.{hears-configuring, hears-configuring_unread}
use Rattle.own_channel_laws.proofs.Connecting.{hears-granting}
use Rattle.own_channel_laws.proofs.Settling.{hears-settling, hears-ended, nothing-follows}

-- what a command comes to
abbrev pub Heard : Policy → Reading → Channels → Read → Type 0
Heard policy r v one = Sound policy (fold read_on r (said_with policy one v)) (hears_command policy one v)

-- ---- features

features_by : (policy : Policy) (r : Reading) (v : Channels) (identifier : ℕ) (features : Option ℕ) → Sound policy r v → (let w : Channels = hears_features identifier features v in Sound policy (fold read_on r (asked_between v w)) w)
features_by policy r v identifier features sound = by (has_identifier identifier v.features)
  where
    by : (awaited : Bool) → (let w : Channels = cond awaited (tells (Features features) (forgets errands.Features (record v { features = None }))) v in Sound policy (fold read_on r (asked_between v w)) w)
    by true =
        let w : Channels = tells (Features features) (forgets errands.Features (record v { features = None })) in
        subst (λ rest. Sound policy (fold read_on r rest) w) (sym (asked-none v w refl)) (record { core = sound.core; kept = sound.kept; uncalled = sound.uncalled })
    by false = nothing-follows policy r v sound

-- ---- a command that can be read

abbrev readable : (identifier : ℕ) → Content → Read
readable identifier content = Ok (command_with identifier content)

abbrev hear : (identifier : ℕ) → Content → Saying
hear identifier content = heard (readable identifier content)

pub hears-read : (policy : Policy) (r : Reading) (v : Channels) (identifier : ℕ) (content : Content) → Sound policy r v → (let command : Command = record { identifier = identifier; content = content } in Heard policy r v (Ok command))
hears-read policy r v identifier (reject reason rest) sound = features_by policy (read_on r (hear identifier (reject reason rest))) v identifier None (quiet policy r v (hear identifier (reject reason rest)) refl sound)
hears-read policy r v identifier (connection_request psm source) sound = hears-inviting policy r v (readable identifier (connection_request psm source)) identifier psm source (invites-by (readable identifier (connection_request psm source)) identifier (let wanted : Wanted = record { psm = psm; source = source } in Some wanted) (λ asked. refl) (λ asked. refl)) sound
hears-read policy r v identifier (connection_response destination source answer status) sound = hears-granting policy r v (hear identifier (connection_response destination source answer status)) identifier destination source answer refl sound
hears-read policy r v identifier (configuration_request destination flags options) sound = hears-configuring policy r v (readable identifier (configuration_request destination flags options)) identifier destination flags options (queries-by (readable identifier (configuration_request destination flags options)) identifier (let terms : Terms = record { own = destination; options = options } in Some terms) (λ asked. refl) (λ asked. refl)) sound
hears-read policy r v identifier (configuration_response source flags answer options) sound = hears-settling policy r v (hear identifier (configuration_response source flags answer options)) identifier source flags answer options refl sound
hears-read policy r v identifier (disconnection_request destination source) sound = hears-bidding policy r v (readable identifier (disconnection_request destination source)) identifier destination source (quiet-passes (hear identifier (disconnection_request destination source)) refl) sound
hears-read policy r v identifier (disconnection_response destination source) sound = hears-ended policy r v (hear identifier (disconnection_response destination source)) source destination refl sound
hears-read policy r v identifier (echo_request octets) sound = hears-echo policy r v identifier (readable identifier (echo_request octets)) (Some (echo_response octets)) (quiet-passes (hear identifier (echo_request octets)) refl) (λ n. refl) sound
hears-read policy r v identifier (echo_response octets) sound = nothing-follows policy (read_on r (hear identifier (echo_response octets))) v (quiet policy r v (hear identifier (echo_response octets)) refl sound)
hears-read policy r v identifier (information_request kind) sound = hears-information policy r v identifier (readable identifier (information_request kind)) (Some (information_answer kind)) (quiet-passes (hear identifier (information_request kind)) refl) (λ n. by (eqb kind 2) (eqb kind 3) n) sound
  where
    by : (a b : Bool) (n : ℕ) → sense_of Out n (cond a (information_response kind 0 (0xA8 ∷ 0x00 ∷ 0x00 ∷ 0x00 ∷ [])) (cond b (information_response kind 0 (0x02 ∷ 0x00 ∷ 0x00 ∷ 0x00 ∷ 0x00 ∷ 0x00 ∷ 0x00 ∷ 0x00 ∷ [])) (information_response kind 1 []))) ≡ Quiet
    by true b n = refl
    by false true n = refl
    by false false n = refl
hears-read policy r v identifier (information_response kind answer rest) sound = features_by policy (read_on r (hear identifier (information_response kind answer rest))) v identifier (features_in kind answer rest) (quiet policy r v (hear identifier (information_response kind answer rest)) refl sound)

-- ---- a command that cannot be read

-- an unknown code is that of no request
abbrev pub IsTold : Read → Type 0
IsTold (Ok command) = Unit {0}
IsTold (Err (ZeroIdentifier code identifier)) = Unit {0}
IsTold (Err (BadLength code identifier)) = Unit {0}
IsTold (Err (UnknownCode code identifier)) = is_kind (kind_of_code code) ≡ false
IsTold (Err (AboveMtu code identifier)) = Unit {0}

-- a refusal that is nothing for channels
again-not : (policy : Policy) (r : Reading) (v : Channels) (one : Read) (identifier : ℕ) (content : Content) → ((x : Reading) → Sound policy x v → Sound policy (read_on x (heard one)) v) → ((n : ℕ) → sense_of Out n content ≡ Quiet) → Sound policy r v
    → (let w : Channels = hears_again identifier (Some content) v in Sound policy (fold read_on r (exchanged one (command_if identifier (Some content)) v ++ asked_between v w)) w)
again-not policy r v one identifier content hears harmless sound =
    again-by policy r v one identifier (Some content) (quiet policy (read_on r (heard one)) v (spoken (command_with identifier content)) (harmless identifier) (hears r sound)) sound

-- of a code that is no request's
unknown-by : (policy : Policy) (r : Reading) (v : Channels) (one : Read) (identifier : ℕ) (kind : Option RequestKind) (zero response : Bool) → is_kind kind ≡ false → ((x : Reading) → Sound policy x v → Sound policy (read_on x (heard one)) v) → Sound policy r v
    → (let reply : Option Content = cond zero None (cond response None (response_malformed kind identifier v)) in
    let w : Channels = cond zero v (cond response v (cond (is_kind kind) (hears_malformed kind identifier v) (hears_again identifier (Some not_understood) v))) in
    Sound policy (fold read_on r (exchanged one (command_if identifier reply) v ++ asked_between v w)) w)
unknown-by policy r v one identifier kind true response is hears sound = nothing-follows policy (read_on r (heard one)) v (hears r sound)
unknown-by policy r v one identifier kind false true is hears sound = nothing-follows policy (read_on r (heard one)) v (hears r sound)
unknown-by policy r v one identifier None false false is hears sound = again-not policy r v one identifier not_understood hears (λ n. refl) sound
unknown-by policy r v one identifier (Some kind) false false is hears sound = cc

-- ---- a command of a wrong length

abbrev unread_query : ℕ → Query
unread_query identifier = record { identifier = identifier; terms = None }

abbrev short : (code identifier : ℕ) → Read
short code identifier = Err (BadLength code (Some identifier))

short-sense : (code identifier : ℕ) → eqb identifier 0 ≡ false → sense (heard (short code identifier)) ≡ Asks Into identifier (Unread code)
short-sense code identifier is = ap (λ t. cond t Quiet (Asks Into identifier (Unread code))) is

-- one that is no request for a channel or for options
short-passes : (code identifier : ℕ) → eqb identifier 0 ≡ false → eqb code 2 ≡ false → eqb code 4 ≡ false → Passes (heard (short code identifier))
short-passes code identifier is two four r =
    ap (λ q. let after : Reading = record { requests = requests_after r.requests q; entries = entries_after r.entries (meant r.requests q) } in after) (short-sense code identifier is)
    ∙ (ap (λ t. let asked : Requests = record { calls = option_to_list (cond t (Some (came identifier None)) None) ++ r.requests.calls; queries = option_to_list (cond (eqb code 4) (Some (unread_query identifier)) None) ++ r.requests.queries; failures = r.requests.failures } in
    let after : Reading = record { requests = asked; entries = entries_after r.entries Nothing } in after) two
    ∙ (ap (λ t. let asked : Requests = record { calls = r.requests.calls; queries = option_to_list (cond t (Some (unread_query identifier)) None) ++ r.requests.queries; failures = r.requests.failures } in
    let after : Reading = record { requests = asked; entries = entries_after r.entries Nothing } in after) four
    ∙ ap (λ (es : List Entry). let after : Reading = record { requests = r.requests; entries = es } in after) (nothing-same r.entries)))

-- what it comes to, where it has an identifier
abbrev Short : Policy → Reading → Channels → (identifier code : ℕ) → Type 0
Short policy r v identifier code =
    (let reply : Option Content = cond (is_response_code code) None (response_malformed (kind_of_code code) identifier v) in
    let w : Channels = cond (is_response_code code) v (cond (is_kind (kind_of_code code)) (hears_malformed (kind_of_code code) identifier v) (hears_again identifier (Some not_understood) v)) in
    Sound policy (fold read_on r (exchanged (short code identifier) (command_if identifier reply) v ++ asked_between v w)) w)

short-invites : (identifier : ℕ) → eqb identifier 0 ≡ false → Invites (short 2 identifier) identifier None
short-invites identifier is = invites-by (short 2 identifier) identifier None (λ asked. ap (requests_after asked) (short-sense 2 identifier is)) (λ asked. ap (meant asked) (short-sense 2 identifier is))

pub short-queries : (identifier : ℕ) → eqb identifier 0 ≡ false → Queries (short 4 identifier) identifier None
short-queries identifier is = queries-by (short 4 identifier) identifier None (λ asked. ap (requests_after asked) (short-sense 4 identifier is)) (λ asked. ap (meant asked) (short-sense 4 identifier is))

short-two : (policy : Policy) (r : Reading) (v : Channels) (identifier : ℕ) → eqb identifier 0 ≡ false → Sound policy r v → Short policy r v identifier 2
short-two policy r v identifier is sound = hears-inviting_unread policy r v (short 2 identifier) identifier 0x0000 [] (short-invites identifier is) sound

short-four : (policy : Policy) (r : Reading) (v : Channels) (identifier : ℕ) → eqb identifier 0 ≡ false → Sound policy r v → Short policy r v identifier 4
short-four policy r v identifier is sound = hears-configuring_unread policy r v (short 4 identifier) identifier 0x0000 [] (short-queries identifier is) sound

short-six : (policy : Policy) (r : Reading) (v : Channels) (identifier : ℕ) → eqb identifier 0 ≡ false → Sound policy r v → Short policy r v identifier 6
short-six policy r v identifier is sound = hears-bidding_unread policy r v (short 6 identifier) identifier 0x0000 [] (short-passes 6 identifier is refl refl) sound

short-eight : (policy : Policy) (r : Reading) (v : Channels) (identifier : ℕ) → eqb identifier 0 ≡ false → Sound policy r v → Short policy r v identifier 8
short-eight policy r v identifier is sound = hears-echo policy r v identifier (short 8 identifier) (Some not_understood) (short-passes 8 identifier is refl refl) (λ n. refl) sound

short-ten : (policy : Policy) (r : Reading) (v : Channels) (identifier : ℕ) → eqb identifier 0 ≡ false → Sound policy r v → Short policy r v identifier 10
short-ten policy r v identifier is sound = hears-information policy r v identifier (short 10 identifier) (Some not_understood) (short-passes 10 identifier is refl refl) (λ n. refl) sound

-- no request's code
pub no_kind : (a b c d e : Bool) → a ≡ false → b ≡ false → c ≡ false → d ≡ false → e ≡ false
    → is_kind (cond a (Some kinds.Connection) (cond b (Some kinds.Configuration) (cond c (Some kinds.Disconnection) (cond d (Some kinds.Echo) (cond e (Some kinds.Information) None))))) ≡ false
no_kind false false false false false p q s t u = refl
no_kind true b c d e p q s t u = cc
no_kind false true c d e p q s t u = cc
no_kind false false true d e p q s t u = cc
no_kind false false false true e p q s t u = cc
no_kind false false false false true p q s t u = cc

short-at : (policy : Policy) (r : Reading) (v : Channels) (identifier code : ℕ) (a b c d e : Bool) → eqb code 2 ≡ a → eqb code 4 ≡ b → eqb code 6 ≡ c → eqb code 8 ≡ d → eqb code 10 ≡ e → eqb identifier 0 ≡ false → Sound policy r v → Short policy r v identifier code
short-at policy r v identifier code true b c d e is_a is_b is_c is_d is_e some sound = subst (Short policy r v identifier) (sym (eqb-true code 2 is_a)) (short-two policy r v identifier some sound)
short-at policy r v identifier code false true c d e is_a is_b is_c is_d is_e some sound = subst (Short policy r v identifier) (sym (eqb-true code 4 is_b)) (short-four policy r v identifier some sound)
short-at policy r v identifier code false false true d e is_a is_b is_c is_d is_e some sound = subst (Short policy r v identifier) (sym (eqb-true code 6 is_c)) (short-six policy r v identifier some sound)
short-at policy r v identifier code false false false true e is_a is_b is_c is_d is_e some sound = subst (Short policy r v identifier) (sym (eqb-true code 8 is_d)) (short-eight policy r v identifier some sound)
short-at policy r v identifier code false false false false true is_a is_b is_c is_d is_e some sound = subst (Short policy r v identifier) (sym (eqb-true code 10 is_e)) (short-ten policy r v identifier some sound)
short-at policy r v identifier code false false false false false is_a is_b is_c is_d is_e some sound =
    unknown-by policy r v (short code identifier) identifier (kind_of_code code) false (is_response_code code)
    (no_kind (eqb code 2) (eqb code 4) (eqb code 6) (eqb code 8) (eqb code 10) is_a is_b is_c is_d is_e)
    (λ x so. passed policy x v (heard (short code identifier)) (short-passes code identifier some is_a is_b) so) sound

short-by : (policy : Policy) (r : Reading) (v : Channels) (code identifier : ℕ) (zero : Bool) → eqb identifier 0 ≡ zero → Sound policy r v
    → (let reply : Option Content = cond zero None (cond (is_response_code code) None (response_malformed (kind_of_code code) identifier v)) in
    let w : Channels = cond zero v (cond (is_response_code code) v (cond (is_kind (kind_of_code code)) (hears_malformed (kind_of_code code) identifier v) (hears_again identifier (Some not_understood) v))) in
    Sound policy (fold read_on r (exchanged (short code identifier) (command_if identifier reply) v ++ asked_between v w)) w)
short-by policy r v code identifier true is sound =
    nothing-follows policy (read_on r (heard (short code identifier))) v (quiet policy r v (heard (short code identifier)) (ap (λ t. cond t Quiet (Asks Into identifier (Unread code))) is) sound)
short-by policy r v code identifier false is sound = short-at policy r v identifier code (eqb code 2) (eqb code 4) (eqb code 6) (eqb code 8) (eqb code 10) refl refl refl refl refl is sound

-- ---- all commands

too-long : (policy : Policy) (r : Reading) (v : Channels) (one : Read) (identifier : ℕ) (zero : Bool) → sense (heard one) ≡ Quiet → Sound policy r v
    → (let reply : Option Content = cond zero None (Some too_long) in let w : Channels = cond zero v (hears_again identifier (Some too_long) v) in Sound policy (fold read_on r (exchanged one (command_if identifier reply) v ++ asked_between v w)) w)
too-long policy r v one identifier true is sound = nothing-follows policy (read_on r (heard one)) v (quiet policy r v (heard one) is sound)
too-long policy r v one identifier false is sound = again-not policy r v one identifier too_long (λ x so. quiet policy x v (heard one) is so) (λ n. refl) sound

pub hears-any : (policy : Policy) (r : Reading) (v : Channels) (one : Read) → IsTold one → Sound policy r v → Heard policy r v one
hears-any policy r v (Ok command) told sound = hears-read policy r v command.identifier command.content sound
hears-any policy r v (Err (ZeroIdentifier code identifier)) told sound =
    let one : Read = Err (ZeroIdentifier code identifier) in nothing-follows policy (read_on r (heard one)) v (quiet policy r v (heard one) refl sound)
hears-any policy r v (Err (BadLength code None)) told sound =
    let one : Read = Err (BadLength code None) in nothing-follows policy (read_on r (heard one)) v (quiet policy r v (heard one) refl sound)
hears-any policy r v (Err (BadLength code (Some identifier))) told sound = short-by policy r v code identifier (eqb identifier 0) refl sound
hears-any policy r v (Err (UnknownCode code None)) told sound =
    let one : Read = Err (UnknownCode code None) in nothing-follows policy (read_on r (heard one)) v (quiet policy r v (heard one) refl sound)
hears-any policy r v (Err (UnknownCode code (Some identifier))) told sound =
    let one : Read = Err (UnknownCode code (Some identifier)) in
    unknown-by policy r v one identifier (kind_of_code code) (eqb identifier 0) (is_response_code code) told (λ x so. quiet policy x v (heard one) refl so) sound
hears-any policy r v (Err (AboveMtu code None)) told sound =
    let one : Read = Err (AboveMtu code None) in nothing-follows policy (read_on r (heard one)) v (quiet policy r v (heard one) refl sound)
hears-any policy r v (Err (AboveMtu code (Some identifier))) told sound =
    let one : Read = Err (AboveMtu code (Some identifier)) in too-long policy r v one identifier (eqb identifier 0) refl sound
