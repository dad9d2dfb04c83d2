-- The transport that is shown on a link is L2CAP where no request there is for a channel of multiplexers, and nowhere else.
use Rattle.std.proofs.Common.{◌≡◌, ℕ, Bool, true, false, ◌||◌, eqb, List, [], ◌∷◌, ◌++◌, filter, Option, Some, None, option_to_list, Ok, Err, refl, sym, ap, ap₂, subst, ◌∙◌, if◌then◌else◌}
use Rattle.std.specs.List.{AllByRecursion, list_any}
use Rattle.std.proofs.lemmas.Bool.{cond_both, eqb-true, false_from_ne_true}
use Rattle.request_laws.specs.bt_base.specs.declared.settings.Transport.TheVariants.{L2cap, Rfcomm}
use Rattle.request_laws.specs.capture.specs.declared.flow.Flow.{Flow}
use Rattle.request_laws.specs.capture.specs.declared.flow.Flow.TheVariants.{Out, Into}
use Rattle.request_laws.specs.l2cap_signal.specs.Commands.{Content, reject, connection_request, connection_response, configuration_request, configuration_response, disconnection_request, disconnection_response, echo_request, echo_response, information_request, information_response}
use Rattle.request_laws.specs.l2cap_signal.specs.declared.refusal.SignalRefusal.{SignalRefusal}
use Rattle.request_laws.specs.l2cap_signal.specs.declared.refusal.SignalRefusal.TheVariants.{ZeroIdentifier, BadLength, UnknownCode, AboveMtu}
use Rattle.request_laws.specs.link_talk.specs.declared.call.Call.{Call}
use Rattle.request_laws.specs.link_talk.specs.Requests.{call, went}
use Rattle.request_laws.specs.link_talk.specs.Sayings.{Saying, Command, Carried, GaveUp, Connection, Disconnection, Information}
use Rattle.request_laws.specs.link_talk.specs.Senses.{Sense, sense_of, sense_refused}
use Rattle.request_laws.specs.channel_laws.specs.Singly.{calls_that_went}
use Rattle.request_laws.specs.channel_laws.proofs.Singling.{calls-more}
use Rattle.behind_laws.specs.InTurn.{AsksDirectly, IsDirectCall}
use Rattle.either_laws.specs.ByLinks.{seeks_multiplexer, transport_shown}

-- ---- one of some

or_false : (a b : Bool) → (a || b) ≡ false → (a ≡ false) × (b ≡ false)
or_false true b is = absurd (let never : true ≡ false = is in cc)
or_false false b is = (refl, is)

abbrev SeeksNone : List Call → Type 0
SeeksNone calls = list_any seeks_multiplexer calls ≡ false

none_either : (xs ys : List Call) → SeeksNone (xs ++ ys) → SeeksNone xs × SeeksNone ys
none_either [] ys none = (refl, none)
none_either (x ∷ xs) ys none =
    let first = or_false (seeks_multiplexer x) (list_any seeks_multiplexer (xs ++ ys)) none in
    let rest = none_either xs ys first.1 in
    (ap₂ (λ (a b : Bool). a || b) first.0 rest.0, rest.1)

none_both : (xs ys : List Call) → SeeksNone xs → SeeksNone ys → SeeksNone (xs ++ ys)
none_both [] ys one two = two
none_both (x ∷ xs) ys one two =
    let first = or_false (seeks_multiplexer x) (list_any seeks_multiplexer xs) one in
    ap₂ (λ (a b : Bool). a || b) first.0 (none_both xs ys first.1 two)

-- ---- what one command asks for

-- the requests in it that come in
abbrev asked_in : Sense → List Call
asked_in sense = filter (went Into) (option_to_list (call sense) ++ [])

not_asked : (psm : ℕ) → (eqb psm 0x0003 || false) ≡ false → psm ≡ 0x0003 → ⊥
not_asked psm none is = let some : true ≡ false = subst (λ (n : ℕ). (eqb n 0x0003 || false) ≡ false) is none in absurd cc

content_direct : (identifier : ℕ) (content : Content) → SeeksNone (asked_in (sense_of Into identifier content)) → IsDirectCall (call (sense_of Into identifier content))
content_direct identifier (connection_request psm source) none = not_asked psm none
content_direct identifier (reject reason rest) none = tt
content_direct identifier (connection_response destination source answer status) none = tt
content_direct identifier (configuration_request destination flags options) none = tt
content_direct identifier (configuration_response source flags answer options) none = tt
content_direct identifier (disconnection_request destination source) none = tt
content_direct identifier (disconnection_response destination source) none = tt
content_direct identifier (echo_request octets) none = tt
content_direct identifier (echo_response octets) none = tt
content_direct identifier (information_request kind) none = tt
content_direct identifier (information_response kind answer rest) none = tt

content_none : (identifier : ℕ) (content : Content) → IsDirectCall (call (sense_of Into identifier content)) → SeeksNone (asked_in (sense_of Into identifier content))
content_none identifier (connection_request psm source) not = ap (λ (b : Bool). b || false) (false_from_ne_true (eqb psm 0x0003) (λ is. not (eqb-true psm 0x0003 is)))
content_none identifier (reject reason rest) not = refl
content_none identifier (connection_response destination source answer status) not = refl
content_none identifier (configuration_request destination flags options) not = refl
content_none identifier (configuration_response source flags answer options) not = refl
content_none identifier (disconnection_request destination source) not = refl
content_none identifier (disconnection_response destination source) not = refl
content_none identifier (echo_request octets) not = refl
content_none identifier (echo_response octets) not = refl
content_none identifier (information_request kind) not = refl
content_none identifier (information_response kind answer rest) not = refl

content_out : (identifier : ℕ) (content : Content) → SeeksNone (asked_in (sense_of Out identifier content))
content_out identifier (connection_request psm source) = refl
content_out identifier (reject reason rest) = refl
content_out identifier (connection_response destination source answer status) = refl
content_out identifier (configuration_request destination flags options) = refl
content_out identifier (configuration_response source flags answer options) = refl
content_out identifier (disconnection_request destination source) = refl
content_out identifier (disconnection_response destination source) = refl
content_out identifier (echo_request octets) = refl
content_out identifier (echo_response octets) = refl
content_out identifier (information_request kind) = refl
content_out identifier (information_response kind answer rest) = refl

-- one that cannot be read is for no PSM
refused_direct : (refusal : SignalRefusal) → IsDirectCall (call (sense_refused Into refusal))
refused_direct (ZeroIdentifier code identifier) = tt
refused_direct (BadLength code None) = tt
refused_direct (BadLength code (Some identifier)) = cond_both (eqb identifier 0) _ _ (λ (s : Sense). IsDirectCall (call s)) (λ is. tt) (λ is. cond_both (eqb code 0x02) _ _ IsDirectCall (λ e. tt) (λ e. tt))
refused_direct (UnknownCode code identifier) = tt
refused_direct (AboveMtu code identifier) = tt

refused_none : (flow : Flow) (refusal : SignalRefusal) → SeeksNone (asked_in (sense_refused flow refusal))
refused_none flow (ZeroIdentifier code identifier) = refl
refused_none flow (BadLength code None) = refl
refused_none flow (BadLength code (Some identifier)) =
    cond_both (eqb identifier 0) _ _ (λ (s : Sense). SeeksNone (asked_in s)) (λ is. refl) (λ is. cond_both (eqb code 0x02) _ _ (λ (asked : Option Call). SeeksNone (filter (went Into) (option_to_list asked ++ []))) (λ e. unread_none flow) (λ e. refl))
  where
    unread_none : (way : Flow) → SeeksNone (filter (went Into) ((let one : Call = record { flow = way; identifier = identifier; wanted = None } in one) ∷ []))
    unread_none Out = refl
    unread_none Into = refl
refused_none flow (UnknownCode code identifier) = refl
refused_none flow (AboveMtu code identifier) = refl

one_directly : (said : Saying) → SeeksNone (calls_that_went Into (said ∷ [])) → AsksDirectly said
one_directly (Command Out answer) none = tt
one_directly (Command Into (Ok command)) none = content_direct command.identifier command.content none
one_directly (Command Into (Err refusal)) none = refused_direct refusal
one_directly (Carried flow pdu) none = tt
one_directly (GaveUp forgone) none = tt

one_none : (said : Saying) → AsksDirectly said → SeeksNone (calls_that_went Into (said ∷ []))
one_none (Command Out (Ok command)) direct = content_out command.identifier command.content
one_none (Command Into (Ok command)) direct = content_none command.identifier command.content direct
one_none (Command flow (Err refusal)) direct = refused_none flow refusal
one_none (Carried flow pdu) direct = refl
one_none (GaveUp (Connection identifier own)) direct = refl
one_none (GaveUp (Disconnection own peer)) direct = refl
one_none (GaveUp (Information identifier)) direct = refl

-- ---- a talk

all_directly : (talk : List Saying) → SeeksNone (calls_that_went Into talk) → AllByRecursion AsksDirectly talk
all_directly [] none = tt
all_directly (said ∷ talk) none =
    let parts = none_either (calls_that_went Into talk) (calls_that_went Into (said ∷ [])) (sym (ap (list_any seeks_multiplexer) (calls-more Into (said ∷ []) talk)) ∙ none) in
    (one_directly said parts.1, all_directly talk parts.0)

all_none : (talk : List Saying) → AllByRecursion AsksDirectly talk → SeeksNone (calls_that_went Into talk)
all_none [] direct = refl
all_none (said ∷ talk) direct =
    ap (list_any seeks_multiplexer) (calls-more Into (said ∷ []) talk) ∙ none_both (calls_that_went Into talk) (calls_that_went Into (said ∷ [])) (all_none talk direct.1) (one_none said direct.0)

none_shown : (b : Bool) → (if b then Rfcomm else L2cap) ≡ L2cap → b ≡ false
none_shown true is = absurd (let never : Rfcomm ≡ L2cap = is in cc)
none_shown false is = refl

pub shown-directly : (talk : List Saying) → transport_shown talk ≡ L2cap → AllByRecursion AsksDirectly talk
shown-directly talk is = all_directly talk (none_shown (list_any seeks_multiplexer (calls_that_went Into talk)) is)

pub directly-shown : (talk : List Saying) → AllByRecursion AsksDirectly talk → transport_shown talk ≡ L2cap
directly-shown talk direct = ap (λ (b : Bool). if b then Rfcomm else L2cap) (all_none talk direct)
