-- Where the channels of a talk come from.
use Rattle.std.proofs.Common.{◌≡◌, ℕ, List, [], ◌∷◌, ◌++◌, Bool, true, false, cond, eqb, not, ◌&&◌, Option, Some, None, Ok, Err, refl, sym, ap, subst, ◌∙◌, ◌⊎◌, inl, inr}
use Rattle.std.specs.Prelude.{filter, nat_le, option_to_list}
use Rattle.std.specs.Option.{option_or}
use Rattle.std.specs.List.{list_any}
use Rattle.std.proofs.lemmas.Bool.{eqb-true}
use Rattle.talk_laws.specs.capture.specs.declared.flow.Flow.{Flow}
use Rattle.talk_laws.specs.capture.specs.declared.flow.Flow.TheVariants.{Out, Into}
use Rattle.talk_laws.specs.capture.specs.Pdus.{same_flow}
use Rattle.talk_laws.specs.l2cap_signal.specs.Commands.{Content, reject, connection_request, connection_response, configuration_request, configuration_response, disconnection_request, disconnection_response, echo_request, echo_response, information_request, information_response}
use Rattle.talk_laws.specs.l2cap_config.specs.Reading.{options_read}
use Rattle.talk_laws.specs.l2cap_signal.specs.declared.refusal.SignalRefusal.TheVariants.{ZeroIdentifier, BadLength, UnknownCode, AboveMtu}
use Rattle.talk_laws.specs.link_talk.specs.declared.call.Wanted.{Wanted}
use Rattle.talk_laws.specs.link_talk.specs.declared.call.Call.{Call}
use Rattle.talk_laws.specs.link_talk.specs.declared.channel.Channel.{Channel}
use Rattle.talk_laws.specs.link_talk.specs.Sayings.{Saying, Command, Carried, GaveUp, Connection, Disconnection, Information}
use Rattle.talk_laws.specs.link_talk.specs.Senses.{Asks, Quiet, Unread, sense}
use Rattle.talk_laws.specs.link_talk.specs.Requests.{call, went, has_source, is_call, first_of_run, last_run, call_wanted, answered_call, answered_query, has_failed}
use Rattle.talk_laws.specs.link_talk.specs.Meanings.{Meaning, Makes, Answers, Wishes, Settles, Parts, Nothing, granted, made, answered, is_read, meant}
use Rattle.talk_laws.specs.link_talk.specs.Channels.{Entry, fresh, entry_after, made_by, is_owner, entries_after, Reading, reading}
use Rattle.talk_laws.proofs.Passes.{from_end}
use Rattle.own_channel_laws.specs.OwnTalk.{command_with}
use Rattle.own_channel_laws.specs.Views.{read_at}
use Rattle.own_channel_laws.specs.Signals.{StandsIn}
use Rattle.own_channel_laws.proofs.Both.{both-true}
use Rattle.own_channel_laws.proofs.Entries.{makes-fresh, read-after, read-append}
use Rattle.own_channel_laws.proofs.Sound.{some-of_map}
use Rattle.own_channel_laws.proofs.Saying.{stands-left, stands-right}
use Rattle.own_channel_laws.proofs.Conversing.{reading-on}

-- ---- requests for channels

-- a request that was said one way
abbrev pub Asked : Flow → (identifier psm source : ℕ) → List Saying → Type 0
Asked flow identifier psm source said = StandsIn (Command flow (Ok (command_with identifier (connection_request psm source)))) said

abbrev IsAsked : List Saying → Call → Type 0
IsAsked past one = (wanted : Wanted) → one.wanted ≡ Some wanted → Asked one.flow one.identifier wanted.psm wanted.source past

some_wanted : (a b : Wanted) → Some a ≡ Some b → a ≡ b
some_wanted a b is = cc

-- what a saying calls for it says
called_by : (past : List Saying) (s : Saying) (one : Call) → call (sense s) ≡ Some one → IsAsked (past ++ s ∷ []) one
called_by past (Command flow (Ok command)) one is = by command.content refl is
  where
    by : (content : Content) → command.content ≡ content → call (sense (Command flow (Ok (command_with command.identifier content)))) ≡ Some one → IsAsked (past ++ Command flow (Ok command) ∷ []) one
    by (reject reason rest) is_c made = cc
    by (connection_request psm source) is_c made = λ wanted wants.
        let called : Call = record { flow = flow; identifier = command.identifier; wanted = Some (record { psm = psm; source = source }) } in
        let same : called ≡ one = cc in
        let it : Wanted = record { psm = psm; source = source } in
        let right : it ≡ wanted = some_wanted it wanted (ap (λ (c : Call). c.wanted) same ∙ wants) in
        let whole : command ≡ command_with command.identifier (connection_request psm source) = ap (λ c. command_with command.identifier c) is_c in
        subst (λ (c : Call). Asked c.flow c.identifier wanted.psm wanted.source (past ++ Command flow (Ok command) ∷ [])) same
        (subst (λ (w : Wanted). Asked flow command.identifier w.psm w.source (past ++ Command flow (Ok command) ∷ [])) right
        (stands-right (Command flow (Ok (command_with command.identifier (connection_request psm source)))) past (Command flow (Ok command) ∷ []) (inl (ap (λ c. Command flow (Ok c)) whole))))
    by (connection_response destination source answer status) is_c made = cc
    by (configuration_request destination flags options) is_c made = cc
    by (configuration_response source flags answer options) is_c made = cc
    by (disconnection_request destination source) is_c made = away flow made
      where
        away : (flow : Flow) → call (sense (Command flow (Ok (command_with command.identifier (disconnection_request destination source))))) ≡ Some one → IsAsked (past ++ Command flow (Ok command) ∷ []) one
        away Out made = cc
        away Into made = cc
    by (disconnection_response destination source) is_c made = away flow made
      where
        away : (flow : Flow) → call (sense (Command flow (Ok (command_with command.identifier (disconnection_response destination source))))) ≡ Some one → IsAsked (past ++ Command flow (Ok command) ∷ []) one
        away Out made = cc
        away Into made = cc
    by (echo_request octets) is_c made = cc
    by (echo_response octets) is_c made = cc
    by (information_request kind) is_c made = cc
    by (information_response kind answer rest) is_c made = cc
called_by past (Command flow (Err (ZeroIdentifier code identifier))) one is = cc
called_by past (Command flow (Err (BadLength code None))) one is = cc
called_by past (Command flow (Err (BadLength code (Some identifier)))) one is = by (eqb identifier 0) is
  where
    after : List Saying
    after = past ++ Command flow (Err (BadLength code (Some identifier))) ∷ []

    unread : (two : Bool) → (let unread_call : Call = record { flow = flow; identifier = identifier; wanted = None } in cond two (Some unread_call) None ≡ Some one) → IsAsked after one
    unread true made = λ wanted wants.
        let unread_call : Call = record { flow = flow; identifier = identifier; wanted = None } in
        let same : unread_call ≡ one = cc in
        let never : None ≡ Some wanted = ap (λ (c : Call). c.wanted) same ∙ wants in absurd cc
    unread false made = cc

    by : (none : Bool) → call (cond none Quiet (Asks flow identifier (Unread code))) ≡ Some one → IsAsked after one
    by true made = cc
    by false made = unread (eqb code 2) made
called_by past (Command flow (Err (UnknownCode code identifier))) one is = cc
called_by past (Command flow (Err (AboveMtu code identifier))) one is = cc
called_by past (Carried flow pdu) one is = cc
called_by past (GaveUp (Connection identifier own)) one is = cc
called_by past (GaveUp (Disconnection own peer)) one is = cc
called_by past (GaveUp (Information identifier)) one is = cc

all_called : (past : List Saying) (one : Call) → StandsIn one (reading past).requests.calls → IsAsked past one
all_called past = from_end (λ said. (one : Call) → StandsIn one (reading said).requests.calls → IsAsked said one) (λ one stands. elim stands [ ]) step past
  where
    older : (said : List Saying) (more : Saying) (one : Call) → IsAsked said one → IsAsked (said ++ more ∷ []) one
    older said more one asked wanted wants = stands-left _ said (more ∷ []) (asked wanted wants)

    by : (said : List Saying) (more : Saying) (one : Call) (found : Option Call) → call (sense more) ≡ found → ((other : Call) → StandsIn other (reading said).requests.calls → IsAsked said other)
        → StandsIn one (option_to_list found ++ (reading said).requests.calls) → IsAsked (said ++ more ∷ []) one
    by said more one None is before stands = older said more one (before one stands)
    by said more one (Some new) is before (inl same) = called_by said more one (is ∙ ap Some same)
    by said more one (Some new) is before (inr old) = older said more one (before one old)

    step : (said : List Saying) (more : Saying) → ((one : Call) → StandsIn one (reading said).requests.calls → IsAsked said one) → (one : Call) → StandsIn one (reading (said ++ more ∷ [])).requests.calls → IsAsked (said ++ more ∷ []) one
    step said more before one stands = by said more one (call (sense more)) refl before (subst (λ (r : Reading). StandsIn one r.requests.calls) (reading-on said (more ∷ [])) stands)

-- ---- the request that is answered

-- a member that passes
pub record Passes {X : Type 0} (passes : X → Bool) (xs : List X) (x : X) : Type 0 where
  pub stands : StandsIn x xs
  pub fits : passes x ≡ true

first_passes : {X : Type 0} (passes : X → Bool) (x : X) (xs : List X) → passes x ≡ true → Passes passes (x ∷ xs) (first_of_run passes x xs)
first_passes passes x [] fits = record { stands = inl refl; fits = fits }
first_passes {X = X} passes x (y ∷ ys) fits = by (passes y) refl (first_passes passes y ys)
  where
    by : (b : Bool) → passes y ≡ b → (passes y ≡ true → Passes passes (y ∷ ys) (first_of_run passes y ys)) → Passes passes (x ∷ y ∷ ys) (cond b (first_of_run passes y ys) x)
    by true now later = let found = later now in record { stands = inr found.stands; fits = found.fits }
    by false now later = record { stands = inl refl; fits = fits }

pub last-passes : {X : Type 0} (passes : X → Bool) (xs : List X) (x : X) → last_run passes xs ≡ Some x → Passes passes xs x
last-passes passes [] x is = cc
last-passes {X = X} passes (y ∷ ys) x is = by (passes y) refl is (last-passes passes ys x)
  where
    by : (b : Bool) → passes y ≡ b → cond b (Some (first_of_run passes y ys)) (last_run passes ys) ≡ Some x → (last_run passes ys ≡ Some x → Passes passes ys x) → Passes passes (y ∷ ys) x
    by true now is later = let same : first_of_run passes y ys ≡ x = cc in subst (Passes passes (y ∷ ys)) same (first_passes passes y ys now)
    by false now is later = let found = later is in record { stands = inr found.stands; fits = found.fits }

kept_stands : {X : Type 0} (keeps : X → Bool) (xs : List X) (x : X) → StandsIn x (filter keeps xs) → Passes keeps xs x
kept_stands keeps [] x is = elim is [ ]
kept_stands {X = X} keeps (y ∷ ys) x is = by (keeps y) refl is (kept_stands keeps ys x)
  where
    by : (b : Bool) → keeps y ≡ b → StandsIn x (cond b (y ∷ filter keeps ys) (filter keeps ys)) → (StandsIn x (filter keeps ys) → Passes keeps ys x) → Passes keeps (y ∷ ys) x
    by true now (inl same) later = record { stands = inl same; fits = ap keeps (sym same) ∙ now }
    by true now (inr old) later = let found = later old in record { stands = inr found.stands; fits = found.fits }
    by false now is later = let found = later is in record { stands = inr found.stands; fits = found.fits }

flow_is : (flow other : Flow) → same_flow flow other ≡ true → other ≡ flow
flow_is Out Out is = refl
flow_is Out Into is = cc
flow_is Into Out is = cc
flow_is Into Into is = refl

-- it was said, with the endpoint that the response names
pub answered-asked : (past : List Saying) (flow : Flow) (identifier source : ℕ) (wanted : Wanted) → answered_call (reading past).requests flow identifier source ≡ Some wanted → Asked flow identifier wanted.psm source past
answered-asked past flow identifier source wanted is = by (last_run (is_call identifier source) (filter (went flow) (reading past).requests.calls)) refl is
  where
    by : (found : Option Call) → last_run (is_call identifier source) (filter (went flow) (reading past).requests.calls) ≡ found → call_wanted found ≡ Some wanted → Asked flow identifier wanted.psm source past
    by None found wants = cc
    by (Some one) found wants =
        let fits = last-passes (is_call identifier source) (filter (went flow) (reading past).requests.calls) one found in
        let kept = kept_stands (went flow) (reading past).requests.calls one fits.stands in
        let named = both-true (eqb one.identifier identifier) (has_source source one.wanted) fits.fits in
        subst (λ n. Asked flow n wanted.psm source past) (eqb-true one.identifier identifier named.0)
        (subst (λ n. Asked flow one.identifier wanted.psm n past) (eqb-true wanted.source source (sym (ap (has_source source) wants) ∙ named.1))
        (subst (λ f. Asked f one.identifier wanted.psm wanted.source past) (flow_is flow one.flow kept.fits) (all_called past one kept.stands wanted wants)))

-- ---- a channel that comes to be

abbrev pub Granted : Flow → (identifier status destination source : ℕ) → List Saying → Type 0
Granted flow identifier status destination source said = StandsIn (Command flow (Ok (command_with identifier (connection_response destination source 0 status)))) said

-- one side asked for it, and the other's response to that granted it
abbrev pub Origin : List Saying → Channel → Type 0
Origin said channel = (identifier : ℕ) × (status : ℕ) × ((Granted Out identifier status channel.own channel.peer said × Asked Into identifier channel.psm channel.peer said) ⊎ (Granted Into identifier status channel.peer channel.own said × Asked Out identifier channel.psm channel.own said))

pub older-origin : (past : List Saying) (more : Saying) (channel : Channel) → Origin past channel → Origin (past ++ more ∷ []) channel
older-origin past more channel (identifier, status, inl (granted, asked)) = (identifier, status, inl (stands-left _ past (more ∷ []) granted, stands-left _ past (more ∷ []) asked))
older-origin past more channel (identifier, status, inr (granted, asked)) = (identifier, status, inr (stands-left _ past (more ∷ []) granted, stands-left _ past (more ∷ []) asked))

-- what a response grants
granted_by : (past : List Saying) (own peer : ℕ) (wanted : Option Wanted) (channel : Channel) → made_by (granted own peer wanted) ≡ Some channel → (w : Wanted) × (wanted ≡ Some w) × (let new : Channel = record { psm = w.psm; own = own; peer = peer } in channel ≡ new)
granted_by past own peer None channel is = cc
granted_by past own peer (Some w) channel is =
    let new : Channel = record { psm = w.psm; own = own; peer = peer } in
    let same : new ≡ channel = cc in (w, refl, sym same)

made_out : (past : List Saying) (identifier destination source status : ℕ) (channel : Channel) → made_by (granted destination source (answered_call (reading past).requests Into identifier source)) ≡ Some channel
    → (let s : Saying = Command Out (Ok (command_with identifier (connection_response destination source 0 status))) in Origin (past ++ s ∷ []) channel)
made_out past identifier destination source status channel is =
    let s : Saying = Command Out (Ok (command_with identifier (connection_response destination source 0 status))) in
    let (wanted, found, same) = granted_by past destination source (answered_call (reading past).requests Into identifier source) channel is in
    subst (Origin (past ++ s ∷ [])) (sym same) (identifier, status, inl (stands-right s past (s ∷ []) (inl refl), stands-left _ past (s ∷ []) (answered-asked past Into identifier source wanted found)))

made_into : (past : List Saying) (identifier destination source status : ℕ) (channel : Channel) (refused : Bool) → made_by (cond refused Nothing (granted source destination (answered_call (reading past).requests Out identifier source))) ≡ Some channel
    → (let s : Saying = Command Into (Ok (command_with identifier (connection_response destination source 0 status))) in Origin (past ++ s ∷ []) channel)
made_into past identifier destination source status channel true is = cc
made_into past identifier destination source status channel false is =
    let s : Saying = Command Into (Ok (command_with identifier (connection_response destination source 0 status))) in
    let (wanted, found, same) = granted_by past source destination (answered_call (reading past).requests Out identifier source) channel is in
    subst (Origin (past ++ s ∷ [])) (sym same) (identifier, status, inr (stands-right s past (s ∷ []) (inl refl), stands-left _ past (s ∷ []) (answered-asked past Out identifier source wanted found)))

made_response : (past : List Saying) (flow : Flow) (identifier destination source answer status : ℕ) (channel : Channel) (zero high : Bool) → eqb answer 0 ≡ zero
    → made_by (cond (zero && high) (made (reading past).requests flow identifier destination source) Nothing) ≡ Some channel
    → (let s : Saying = Command flow (Ok (command_with identifier (connection_response destination source answer status))) in Origin (past ++ s ∷ []) channel)
made_response past flow identifier destination source answer status channel false high is_zero is = cc
made_response past flow identifier destination source answer status channel true false is_zero is = cc
made_response past flow identifier destination source answer status channel true true is_zero is =
    subst (λ n. let s : Saying = Command flow (Ok (command_with identifier (connection_response destination source n status))) in Origin (past ++ s ∷ []) channel) (sym (eqb-true answer 0 is_zero)) (by flow is)
  where
    by : (flow : Flow) → made_by (made (reading past).requests flow identifier destination source) ≡ Some channel → (let s : Saying = Command flow (Ok (command_with identifier (connection_response destination source 0 status))) in Origin (past ++ s ∷ []) channel)
    by Out is = made_out past identifier destination source status channel is
    by Into is = made_into past identifier destination source status channel (has_failed (reading past).requests identifier source) is

never_answered : (peer flags answer : ℕ) (terms : _) (channel : Channel) → made_by (answered peer flags answer terms) ≡ Some channel → ⊥
never_answered peer flags answer None channel is = cc
never_answered peer flags answer (Some terms) channel is = cc

never_if : (b : Bool) (identifier own : ℕ) (channel : Channel) → made_by (cond b (Settles identifier own) Nothing) ≡ Some channel → ⊥
never_if true identifier own channel is = cc
never_if false identifier own channel is = cc

pub made-from : (past : List Saying) (s : Saying) (channel : Channel) → made_by (meant (reading past).requests (sense s)) ≡ Some channel → Origin (past ++ s ∷ []) channel
made-from past (Command flow (Ok command)) channel is = subst (λ c. Origin (past ++ Command flow (Ok c) ∷ []) channel) (whole command) (by command.content flow is)
  where
    whole : (c : _) → command_with c.identifier c.content ≡ c
    whole c = refl

    by : (content : Content) (flow : Flow) → made_by (meant (reading past).requests (sense (Command flow (Ok (command_with command.identifier content))))) ≡ Some channel → Origin (past ++ Command flow (Ok (command_with command.identifier content)) ∷ []) channel
    by (reject reason rest) flow made_it = cc
    by (connection_request psm source) Out made_it = cc
    by (connection_request psm source) Into made_it = cc
    by (connection_response destination source answer status) flow made_it = made_response past flow command.identifier destination source answer status channel (eqb answer 0) (nat_le 0x0040 destination) refl made_it
    by (configuration_request destination flags options) Out made_it = cc
    by (configuration_request destination flags options) Into made_it = cc
    by (configuration_response source flags answer options) Out made_it = absurd (never_answered source flags answer (answered_query (reading past).requests command.identifier) channel made_it)
    by (configuration_response source flags answer options) Into made_it = absurd (never_if (is_read (options_read options) && not (eqb answer 4)) command.identifier source channel made_it)
    by (disconnection_request destination source) Out made_it = cc
    by (disconnection_request destination source) Into made_it = cc
    by (disconnection_response destination source) Out made_it = cc
    by (disconnection_response destination source) Into made_it = cc
    by (echo_request octets) flow made_it = cc
    by (echo_response octets) flow made_it = cc
    by (information_request kind) flow made_it = cc
    by (information_response kind answer rest) flow made_it = cc
made-from past (Command flow (Err (ZeroIdentifier code identifier))) channel is = cc
made-from past (Command flow (Err (BadLength code None))) channel is = cc
made-from past (Command flow (Err (BadLength code (Some identifier)))) channel is = absurd (by flow (eqb identifier 0) is)
  where
    by : (flow : Flow) (none : Bool) → made_by (meant (reading past).requests (cond none Quiet (Asks flow identifier (Unread code)))) ≡ Some channel → ⊥
    by flow true made_it = cc
    by Out false made_it = cc
    by Into false made_it = cc
made-from past (Command flow (Err (UnknownCode code identifier))) channel is = cc
made-from past (Command flow (Err (AboveMtu code identifier))) channel is = cc
made-from past (Carried flow pdu) channel is = cc
made-from past (GaveUp (Connection identifier own)) channel is = cc
made-from past (GaveUp (Disconnection own peer)) channel is = cc
made-from past (GaveUp (Information identifier)) channel is = cc

-- ---- all channels

pub makes-it : (m : Meaning) (channel : Channel) → made_by m ≡ Some channel → m ≡ Makes channel
makes-it (Makes other) channel is = let same : other ≡ channel = cc in ap Makes same
makes-it (Answers part) channel is = cc
makes-it (Wishes identifier peer options) channel is = cc
makes-it (Settles identifier own) channel is = cc
makes-it (Parts word own peer) channel is = cc
makes-it Nothing channel is = cc

abbrev IsFrom : List Saying → Type 0
IsFrom said = (own : ℕ) (entry : Entry) → read_at own (reading said).entries ≡ Some entry → Origin said entry.channel

one_from : (past : List Saying) (s : Saying) → IsFrom past → IsFrom (past ++ s ∷ [])
one_from past s before own entry found = by (made_by m) refl (sym (ap (λ (r : Reading). read_at own r.entries) (reading-on past (s ∷ []))) ∙ found)
  where
    m : Meaning
    m = meant (reading past).requests (sense s)

    entries : List Entry
    entries = (reading past).entries

    -- a new one, or one that was there
    fresh_or : (channel : Channel) → made_by m ≡ Some channel → (old : Option Entry) → read_at own entries ≡ old → (same : Bool) → eqb channel.own own ≡ same → option_or old (cond same (Some (fresh channel)) None) ≡ Some entry → Origin (past ++ s ∷ []) entry.channel
    fresh_or channel makes (Some x) at same is one = let it : x ≡ entry = cc in older-origin past s entry.channel (before own entry (at ∙ ap Some it))
    fresh_or channel makes None at true is one = let it : fresh channel ≡ entry = cc in subst (λ (e : Entry). Origin (past ++ s ∷ []) e.channel) it (made-from past s channel makes)
    fresh_or channel makes None at false is one = cc

    owned : (channel : Channel) → made_by m ≡ Some channel → (taken : Bool) → read_at own (cond taken entries (entries ++ fresh channel ∷ [])) ≡ Some entry → Origin (past ++ s ∷ []) entry.channel
    owned channel makes true at = older-origin past s entry.channel (before own entry at)
    owned channel makes false at = fresh_or channel makes (read_at own entries) refl (eqb channel.own own) refl (sym (read-append own entries channel) ∙ at)

    by : (found : Option Channel) → made_by m ≡ found → read_at own (entries_after entries m) ≡ Some entry → Origin (past ++ s ∷ []) entry.channel
    by None none at =
        let (x, there, is) = some-of_map (entry_after m) (read_at own entries) entry (sym (read-after m entries own none) ∙ at) in
        subst (λ (e : Entry). Origin (past ++ s ∷ []) e.channel) is (older-origin past s x.channel (before own x there))
    by (Some channel) makes at =
        owned channel makes (list_any (is_owner channel) entries) (sym (ap (read_at own) (ap (entries_after entries) (makes-it m channel makes) ∙ makes-fresh channel entries)) ∙ at)

pub entries-from : (said : List Saying) (own : ℕ) (entry : Entry) → read_at own (reading said).entries ≡ Some entry → Origin said entry.channel
entries-from said = from_end IsFrom (λ own entry found. cc) one_from said
