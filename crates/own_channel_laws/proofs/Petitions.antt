-- A channel whose options a host accepted is one for which its peer asked for options.
use Rattle.std.proofs.Common.{◌≡◌, ℕ, List, [], ◌∷◌, ◌++◌, Bool, true, false, cond, eqb, not, ◌&&◌, Option, Some, None, Ok, Err, refl, sym, ap, subst, ◌∙◌, inl, inr}
use Rattle.std.specs.Prelude.{is_some, nat_le, option_to_list}
use Rattle.std.specs.Option.{option_or}
use Rattle.std.specs.List.{list_any}
use Rattle.std.proofs.lemmas.Bool.{eqb-true}
use Rattle.talk_laws.specs.capture.specs.declared.flow.Flow.{Flow}
use Rattle.talk_laws.specs.capture.specs.declared.flow.Flow.TheVariants.{Out, Into}
use Rattle.talk_laws.specs.l2cap_signal.specs.Commands.{Content, reject, connection_request, connection_response, configuration_request, configuration_response, disconnection_request, disconnection_response, echo_request, echo_response, information_request, information_response}
use Rattle.talk_laws.specs.l2cap_signal.specs.declared.refusal.SignalRefusal.TheVariants.{ZeroIdentifier, BadLength, UnknownCode, AboveMtu}
use Rattle.talk_laws.specs.l2cap_config.specs.Reading.{options_read}
use Rattle.talk_laws.specs.link_talk.specs.declared.call.Wanted.{Wanted}
use Rattle.talk_laws.specs.link_talk.specs.declared.channel.Channel.{Channel}
use Rattle.talk_laws.specs.link_talk.specs.Sayings.{Saying, Command, Carried, GaveUp, Connection, Disconnection, Information}
use Rattle.talk_laws.specs.link_talk.specs.Senses.{Asks, Quiet, Unread, sense}
use Rattle.talk_laws.specs.link_talk.specs.Requests.{Terms, Query, query, has_identifier, last_run, query_terms, answered_call, answered_query, has_failed}
use Rattle.talk_laws.specs.link_talk.specs.Meanings.{Part, Meaning, Makes, Answers, Wishes, Settles, Parts, Nothing, granted, made, answered, is_read, meant}
use Rattle.talk_laws.specs.link_talk.specs.Setups.{Setup, Term, Wished, Answered, no_setup, term, is_set, with_wish, with_answer, with_term, setup_after}
use Rattle.talk_laws.specs.link_talk.specs.Channels.{Entry, fresh, entry_after, is_there, made_by, is_owner, entries_after, Reading, reading}
use Rattle.talk_laws.proofs.Passes.{from_end}
use Rattle.own_channel_laws.specs.OwnTalk.{command_with}
use Rattle.own_channel_laws.specs.Views.{read_at}
use Rattle.own_channel_laws.specs.Signals.{StandsIn}
use Rattle.own_channel_laws.proofs.Both.{and-left}
use Rattle.own_channel_laws.proofs.Entries.{makes-fresh, read-after, read-append, read-own}
use Rattle.own_channel_laws.proofs.Sound.{part_of, some-of_map}
use Rattle.own_channel_laws.proofs.Saying.{stands-left, stands-right}
use Rattle.own_channel_laws.proofs.Conversing.{reading-on}
use Rattle.own_channel_laws.proofs.Origins.{last-passes, makes-it}

-- the peer asked for options of the channel of the endpoint
abbrev pub IsAskedOf : (own : ℕ) (options : List ℕ) → List Saying → Type 0
IsAskedOf own options said = (identifier : ℕ) × (flags : ℕ) × StandsIn (Command Into (Ok (command_with identifier (configuration_request own flags options)))) said

abbrev pub IsPetitioned : (own : ℕ) → List Saying → Type 0
IsPetitioned own said = (options : List ℕ) × IsAskedOf own options said

pub asked-before : (own : ℕ) (options : List ℕ) (past : List Saying) (s : Saying) → IsAskedOf own options past → IsAskedOf own options (past ++ s ∷ [])
asked-before own options past s (identifier, flags, stands) = (identifier, flags, stands-left _ past (s ∷ []) stands)

-- ---- requests that count

abbrev IsHeard : List Saying → Query → Type 0
IsHeard past one = (terms : Terms) → one.terms ≡ Some terms → IsAskedOf terms.own terms.options past

queried_by : (past : List Saying) (s : Saying) (one : Query) → query (sense s) ≡ Some one → IsHeard (past ++ s ∷ []) one
queried_by past (Command flow (Ok command)) one is = by flow command.content refl is
  where
    by : (f : Flow) (content : Content) → command.content ≡ content → query (sense (Command f (Ok (command_with command.identifier content)))) ≡ Some one → IsHeard (past ++ Command f (Ok command) ∷ []) one
    by Out (reject reason rest) is_c made_it = cc
    by Into (reject reason rest) is_c made_it = cc
    by Out (connection_request psm source) is_c made_it = cc
    by Into (connection_request psm source) is_c made_it = cc
    by Out (connection_response destination source answer status) is_c made_it = cc
    by Into (connection_response destination source answer status) is_c made_it = cc
    by Out (configuration_request destination flags options) is_c made_it = cc
    by Into (configuration_request destination flags options) is_c made_it = λ terms has.
        let asked : Terms = record { own = destination; options = options } in
        let it : Query = record { identifier = command.identifier; terms = Some asked } in
        let same : it ≡ one = cc in
        let both : Some asked ≡ Some terms = ap (λ (q : Query). q.terms) same ∙ has in
        let right : asked ≡ terms = cc in
        let whole : command ≡ command_with command.identifier (configuration_request destination flags options) = ap (λ c. command_with command.identifier c) is_c in
        subst (λ (t : Terms). IsAskedOf t.own t.options (past ++ Command Into (Ok command) ∷ [])) right
        (command.identifier, flags, stands-right _ past (Command Into (Ok command) ∷ []) (inl (ap (λ c. Command Into (Ok c)) whole)))
    by Out (configuration_response source flags answer options) is_c made_it = cc
    by Into (configuration_response source flags answer options) is_c made_it = cc
    by Out (disconnection_request destination source) is_c made_it = cc
    by Into (disconnection_request destination source) is_c made_it = cc
    by Out (disconnection_response destination source) is_c made_it = cc
    by Into (disconnection_response destination source) is_c made_it = cc
    by Out (echo_request octets) is_c made_it = cc
    by Into (echo_request octets) is_c made_it = cc
    by Out (echo_response octets) is_c made_it = cc
    by Into (echo_response octets) is_c made_it = cc
    by Out (information_request kind) is_c made_it = cc
    by Into (information_request kind) is_c made_it = cc
    by Out (information_response kind answer rest) is_c made_it = cc
    by Into (information_response kind answer rest) is_c made_it = cc
queried_by past (Command flow (Err (ZeroIdentifier code identifier))) one is = cc
queried_by past (Command flow (Err (BadLength code None))) one is = cc
queried_by past (Command flow (Err (BadLength code (Some identifier)))) one is = by flow (eqb identifier 0) is
  where
    unread : (four : Bool) → (let none : Query = record { identifier = identifier; terms = None } in cond four (Some none) None ≡ Some one) → IsHeard (past ++ Command flow (Err (BadLength code (Some identifier))) ∷ []) one
    unread true made_it = λ terms has.
        let none : Query = record { identifier = identifier; terms = None } in
        let same : none ≡ one = cc in
        let never : None ≡ Some terms = ap (λ (q : Query). q.terms) same ∙ has in absurd cc
    unread false made_it = cc

    by : (f : Flow) (zero : Bool) → query (cond zero Quiet (Asks f identifier (Unread code))) ≡ Some one → IsHeard (past ++ Command flow (Err (BadLength code (Some identifier))) ∷ []) one
    by f true made_it = cc
    by Out false made_it = cc
    by Into false made_it = unread (eqb code 4) made_it
queried_by past (Command flow (Err (UnknownCode code identifier))) one is = cc
queried_by past (Command flow (Err (AboveMtu code identifier))) one is = cc
queried_by past (Carried flow pdu) one is = cc
queried_by past (GaveUp (Connection identifier own)) one is = cc
queried_by past (GaveUp (Disconnection own peer)) one is = cc
queried_by past (GaveUp (Information identifier)) one is = cc

all_heard : (past : List Saying) (one : Query) → StandsIn one (reading past).requests.queries → IsHeard past one
all_heard past = from_end (λ said. (one : Query) → StandsIn one (reading said).requests.queries → IsHeard said one) (λ one stands. elim stands [ ]) step past
  where
    by : (said : List Saying) (s : Saying) (one : Query) (found : Option Query) → query (sense s) ≡ found → ((other : Query) → StandsIn other (reading said).requests.queries → IsHeard said other)
        → StandsIn one (option_to_list found ++ (reading said).requests.queries) → IsHeard (said ++ s ∷ []) one
    by said s one None is before stands = λ terms has. asked-before terms.own terms.options said s (before one stands terms has)
    by said s one (Some new) is before (inl same) = queried_by said s one (is ∙ ap Some same)
    by said s one (Some new) is before (inr old) = λ terms has. asked-before terms.own terms.options said s (before one old terms has)

    step : (said : List Saying) (s : Saying) → ((one : Query) → StandsIn one (reading said).requests.queries → IsHeard said one) → (one : Query) → StandsIn one (reading (said ++ s ∷ [])).requests.queries → IsHeard (said ++ s ∷ []) one
    step said s before one stands = by said s one (query (sense s)) refl before (subst (λ (r : Reading). StandsIn one r.requests.queries) (reading-on said (s ∷ [])) stands)

answered_heard : (past : List Saying) (identifier : ℕ) (terms : Terms) → answered_query (reading past).requests identifier ≡ Some terms → IsAskedOf terms.own terms.options past
answered_heard past identifier terms is = by (last_run (has_identifier identifier) (reading past).requests.queries) refl is
  where
    by : (found : Option Query) → last_run (has_identifier identifier) (reading past).requests.queries ≡ found → query_terms found ≡ Some terms → IsAskedOf terms.own terms.options past
    by None found has = cc
    by (Some one) found has = all_heard past one (last-passes (has_identifier identifier) (reading past).requests.queries one found).stands terms has

-- ---- an answer

never_part : (refused : Bool) (own peer : ℕ) (wanted : Option Wanted) (part : Part) → cond refused Nothing (granted own peer wanted) ≡ Answers part → ⊥
never_part true own peer wanted part is = cc
never_part false own peer None part is = cc
never_part false own peer (Some w) part is = cc

settles_none : (b : Bool) (identifier own : ℕ) (part : Part) → cond b (Settles identifier own) Nothing ≡ Answers part → ⊥
settles_none true identifier own part is = cc
settles_none false identifier own part is = cc

grants_none : (past : List Saying) (flow : Flow) (identifier destination source : ℕ) (zero high : Bool) (part : Part) → cond (zero && high) (made (reading past).requests flow identifier destination source) Nothing ≡ Answers part → ⊥
grants_none past flow identifier destination source false high part is = cc
grants_none past flow identifier destination source true false part is = cc
grants_none past Out identifier destination source true true part is = never_part false destination source (answered_call (reading past).requests Into identifier source) part is
grants_none past Into identifier destination source true true part is = never_part (has_failed (reading past).requests identifier source) source destination (answered_call (reading past).requests Out identifier source) part is

part_heard : (past : List Saying) (identifier peer flags answer : ℕ) (part : Part) (found : Option Terms) → answered_query (reading past).requests identifier ≡ found → answered peer flags answer found ≡ Answers part → IsAskedOf part.own part.options past
part_heard past identifier peer flags answer part None at is = cc
part_heard past identifier peer flags answer part (Some terms) at is =
    let whole : part_of terms peer flags answer ≡ part = cc in subst (λ (p : Part). IsAskedOf p.own p.options past) whole (answered_heard past identifier terms at)

answers_heard : (past : List Saying) (s : Saying) (part : Part) → meant (reading past).requests (sense s) ≡ Answers part → IsAskedOf part.own part.options past
answers_heard past (Command flow (Ok command)) part is = by flow command.content is
  where
    by : (f : Flow) (content : Content) → meant (reading past).requests (sense (Command f (Ok (command_with command.identifier content)))) ≡ Answers part → IsAskedOf part.own part.options past
    by Out (reject reason rest) is = cc
    by Into (reject reason rest) is = cc
    by Out (connection_request psm source) is = cc
    by Into (connection_request psm source) is = cc
    by f (connection_response destination source answer status) is = absurd (grants_none past f command.identifier destination source (eqb answer 0) (nat_le 0x0040 destination) part is)
    by Out (configuration_request destination flags options) is = cc
    by Into (configuration_request destination flags options) is = cc
    by Out (configuration_response source flags answer options) is = part_heard past command.identifier source flags answer part (answered_query (reading past).requests command.identifier) refl is
    by Into (configuration_response source flags answer options) is = absurd (settles_none (is_read (options_read options) && not (eqb answer 4)) command.identifier source part is)
    by Out (disconnection_request destination source) is = cc
    by Into (disconnection_request destination source) is = cc
    by Out (disconnection_response destination source) is = cc
    by Into (disconnection_response destination source) is = cc
    by Out (echo_request octets) is = cc
    by Into (echo_request octets) is = cc
    by Out (echo_response octets) is = cc
    by Into (echo_response octets) is = cc
    by Out (information_request kind) is = cc
    by Into (information_request kind) is = cc
    by Out (information_response kind answer rest) is = cc
    by Into (information_response kind answer rest) is = cc
answers_heard past (Command flow (Err (ZeroIdentifier code identifier))) part is = cc
answers_heard past (Command flow (Err (BadLength code None))) part is = cc
answers_heard past (Command flow (Err (BadLength code (Some identifier)))) part is = absurd (by flow (eqb identifier 0) is)
  where
    by : (f : Flow) (zero : Bool) → meant (reading past).requests (cond zero Quiet (Asks f identifier (Unread code))) ≡ Answers part → ⊥
    by f true is = cc
    by Out false is = cc
    by Into false is = cc
answers_heard past (Command flow (Err (UnknownCode code identifier))) part is = cc
answers_heard past (Command flow (Err (AboveMtu code identifier))) part is = cc
answers_heard past (Carried flow pdu) part is = cc
answers_heard past (GaveUp (Connection identifier own)) part is = cc
answers_heard past (GaveUp (Disconnection own peer)) part is = cc
answers_heard past (GaveUp (Information identifier)) part is = cc

-- ---- what is read of the options of a channel

-- what holds of it, of all that was said, where each request of the host and each answer to a request that it heard keeps it
pub record Survives (P : List Saying → (own : ℕ) → Setup → Type 0) : Type 0 where
  pub older : (own : ℕ) (past : List Saying) (s : Saying) (setup : Setup) → P past own setup → P (past ++ s ∷ []) own setup
  pub first : (said : List Saying) (own : ℕ) → P said own no_setup
  pub wished : (said : List Saying) (own : ℕ) (setup : Setup) (options : List ℕ) → P said own setup → P said own (with_wish setup options)
  pub answered : (said : List Saying) (own : ℕ) (setup : Setup) (part : Part) → IsAskedOf own part.options said → P said own setup → P said own (with_answer setup part)

term_keeps : (P : List Saying → (own : ℕ) → Setup → Type 0) → Survives P → (past : List Saying) (s : Saying) (own : ℕ) (channel : Channel) (setup : Setup) → channel.own ≡ own → P past own setup → P past own (setup_after setup (term channel (meant (reading past).requests (sense s))))
term_keeps P survives past s own channel setup own_is holds = by (meant (reading past).requests (sense s)) refl
  where
    unless : (t : Term) → P past own (with_term setup t) → (set : Bool) → P past own (cond set setup (with_term setup t))
    unless t now true = holds
    unless t now false = now

    wish : (options : List ℕ) (b : Bool) → P past own (setup_after setup (cond b (Some (Wished options)) None))
    wish options true = unless (Wished options) (survives.wished past own setup options holds) (is_set setup)
    wish options false = holds

    answer : (part : Part) → meant (reading past).requests (sense s) ≡ Answers part → (b : Bool) → (eqb part.own channel.own && eqb part.peer channel.peer) ≡ b → P past own (setup_after setup (cond b (Some (Answered part)) None))
    answer part is true same =
        let owned : part.own ≡ own = eqb-true part.own channel.own (and-left (eqb part.own channel.own) (eqb part.peer channel.peer) same) ∙ own_is in
        unless (Answered part) (survives.answered past own setup part (subst (λ n. IsAskedOf n part.options past) owned (answers_heard past s part is)) holds) (is_set setup)
    answer part is false same = holds

    by : (m : Meaning) → meant (reading past).requests (sense s) ≡ m → P past own (setup_after setup (term channel m))
    by (Makes other) is = holds
    by (Answers part) is = answer part is (eqb part.own channel.own && eqb part.peer channel.peer) refl
    by (Wishes identifier peer options) is = wish options (eqb peer channel.peer)
    by (Settles identifier own) is = holds
    by (Parts word own peer) is = holds
    by Nothing is = holds

abbrev AllHold : (P : List Saying → (own : ℕ) → Setup → Type 0) → List Saying → Type 0
AllHold P said = (own : ℕ) (entry : Entry) → read_at own (reading said).entries ≡ Some entry → P said own entry.setup

one_holds : (P : List Saying → (own : ℕ) → Setup → Type 0) → Survives P → (past : List Saying) (s : Saying) → AllHold P past → AllHold P (past ++ s ∷ [])
one_holds P survives past s before own entry found = by (made_by m) refl (sym (ap (λ (r : Reading). read_at own r.entries) (reading-on past (s ∷ []))) ∙ found)
  where
    m : Meaning
    m = meant (reading past).requests (sense s)

    entries : List Entry
    entries = (reading past).entries

    -- one that was there goes on
    on : (x : Entry) → read_at own entries ≡ Some x → (there : Bool) → P past own (cond there (setup_after x.setup (term x.channel m)) x.setup)
    on x at true = term_keeps P survives past s own x.channel x.setup (read-own own entries x at) (before own x at)
    on x at false = before own x at

    went_on : (x : Entry) → read_at own entries ≡ Some x → entry_after m x ≡ entry → P (past ++ s ∷ []) own entry.setup
    went_on x at is = survives.older own past s entry.setup (subst (λ (e : Entry). P past own e.setup) is (on x at (is_there x.life)))

    fresh_or : (channel : Channel) → (old : Option Entry) → read_at own entries ≡ old → (same : Bool) → option_or old (cond same (Some (fresh channel)) None) ≡ Some entry → P (past ++ s ∷ []) own entry.setup
    fresh_or channel (Some x) at same one = survives.older own past s entry.setup (before own entry (at ∙ one))
    fresh_or channel None at true one = let it : fresh channel ≡ entry = cc in subst (λ (e : Entry). P (past ++ s ∷ []) own e.setup) it (survives.first (past ++ s ∷ []) own)
    fresh_or channel None at false one = cc

    owned : (channel : Channel) (taken : Bool) → read_at own (cond taken entries (entries ++ fresh channel ∷ [])) ≡ Some entry → P (past ++ s ∷ []) own entry.setup
    owned channel true at = survives.older own past s entry.setup (before own entry at)
    owned channel false at = fresh_or channel (read_at own entries) refl (eqb channel.own own) (sym (read-append own entries channel) ∙ at)

    by : (found : Option Channel) → made_by m ≡ found → read_at own (entries_after entries m) ≡ Some entry → P (past ++ s ∷ []) own entry.setup
    by None none at = let (x, there, is) = some-of_map (entry_after m) (read_at own entries) entry (sym (read-after m entries own none) ∙ at) in went_on x there is
    by (Some channel) makes at = owned channel (list_any (is_owner channel) entries) (sym (ap (read_at own) (ap (entries_after entries) (makes-it m channel makes) ∙ makes-fresh channel entries)) ∙ at)

pub all-survive : (P : List Saying → (own : ℕ) → Setup → Type 0) → Survives P → (said : List Saying) (own : ℕ) (entry : Entry) → read_at own (reading said).entries ≡ Some entry → P said own entry.setup
all-survive P survives said = from_end (AllHold P) (λ own entry found. cc) (one_holds P survives) said

-- a channel whose options are accepted is one for which the peer asked for options
abbrev IsBehindPetition : List Saying → (own : ℕ) → Setup → Type 0
IsBehindPetition said own setup = is_some setup.accepted ≡ true → IsPetitioned own said

petition_survives : Survives IsBehindPetition
petition_survives = record {
  older = λ own past s setup holds accepted. let (options, asked) = holds accepted in (options, asked-before own options past s asked);
  first = λ said own accepted. cc;
  wished = λ said own setup options holds accepted. holds accepted;
  answered = λ said own setup part asked holds accepted. (part.options, asked);
}

pub accepted-petitioned : (said : List Saying) (own : ℕ) (entry : Entry) → read_at own (reading said).entries ≡ Some entry → is_some entry.setup.accepted ≡ true → IsPetitioned own said
accepted-petitioned said own entry found accepted = all-survive IsBehindPetition petition_survives said own entry found accepted
