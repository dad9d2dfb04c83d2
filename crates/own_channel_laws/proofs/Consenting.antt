-- The peer asks for options: it is answered.
use Rattle.std.proofs.Common.{◌≡◌, ℕ, List, [], ◌++◌, fold, map, Bool, true, false, cond, eqb, Option, Some, None, refl, sym, ap, subst, ◌∙◌}
use Rattle.std.specs.Prelude.{find, option_to_list}
use Rattle.std.specs.Option.{option_and_then}
use Rattle.talk_laws.specs.l2cap_signal.specs.Commands.{Content, Command, reject, connection_request, connection_response, configuration_request, configuration_response, disconnection_request, disconnection_response, echo_request, echo_response, information_request, information_response}
use Rattle.talk_laws.specs.l2cap_signal.specs.Reading.{Answer as Read}
use Rattle.talk_laws.specs.link_talk.specs.Requests.{Requests, Query, Terms, query_terms, answered_query}
use Rattle.talk_laws.specs.link_talk.specs.Senses.{sense}
use Rattle.talk_laws.specs.link_talk.specs.Meanings.{Part, Answers, meant, answered as meant_by}
use Rattle.talk_laws.specs.link_talk.specs.Setups as read
use Rattle.talk_laws.specs.link_talk.specs.Setups.{is_set, setup_after, Answered}
use Rattle.talk_laws.specs.link_talk.specs.Channels.{is_there, Entry, entries_after, Reading, read_on}
use Rattle.channel_model.specs.declared.errand.Errand.{Errand}
use Rattle.channel_model.specs.declared.errand.Errand.TheVariants.{Connection, Configuration, Disconnection, Features}
use Rattle.channel_model.specs.declared.request_kind.RequestKind.TheVariants as kinds
use Rattle.channel_model.specs.Value.{Setup, Held, Remembered, Memory, Channels}
use Rattle.channel_model.specs.Policies.{Policy}
use Rattle.channel_model.specs.Changing.{has_own, setup_of, to_setup, stage_with, with_setup}
use Rattle.channel_model.specs.Following.{remembers, says}
use Rattle.channel_model.specs.Giving.{command_of, configuration_at, configuration_by}
use Rattle.own_channel_laws.specs.OwnTalk.{spoken, command_with, command_if, asked_between, said_of, newest}
use Rattle.own_channel_laws.specs.Views.{peer_of, life_of, standing, read_at}
use Rattle.channel_model.proofs.Lookups.{found-placed, find-placed, own_of, Distinct, placed-distinct}
use Rattle.own_channel_laws.proofs.Sound.{Agrees, AgreesIf, Core, RepeatsIn, Repeats, part_of, RepeatsOf, IsRepeated, QueriesKept, Kept, Sound, Uncalled}
use Rattle.own_channel_laws.proofs.Moves.{quiet, Found, found-there}
use Rattle.own_channel_laws.proofs.Answering.{Alters, answers-others, answers-name, core-alters, kept-alters}
use Rattle.own_channel_laws.proofs.Questions.{exchange, asked-none, IsNew}
use Rattle.own_channel_laws.proofs.Configuring.{queried, Queries, queried-kept, query-new, begins_same, repeat-terms}

-- ---- an answer that changes nothing

pub repeated-said : (policy : Policy) (r : Reading) (v : Channels) (identifier : ℕ) (content : Content) → IsRepeated (answered_query r.requests identifier) v.held r.entries (Some content) → Sound policy r v
    → Sound policy (read_on r (spoken (command_with identifier content))) v
repeated-said policy r v identifier (configuration_response peer flags answer options) repeated sound =
    let now = repeat-terms policy r v (answered_query r.requests identifier) peer flags answer repeated sound in
    record { core = now.core; kept = now.kept; uncalled = sound.uncalled }
repeated-said policy r v identifier (reject reason rest) repeated sound = quiet policy r v (spoken (command_with identifier (reject reason rest))) refl sound
repeated-said policy r v identifier (connection_request psm source) repeated sound = elim repeated [ ]
repeated-said policy r v identifier (connection_response destination source answer status) repeated sound = elim repeated [ ]
repeated-said policy r v identifier (configuration_request destination flags options) repeated sound = elim repeated [ ]
repeated-said policy r v identifier (disconnection_request destination source) repeated sound = elim repeated [ ]
repeated-said policy r v identifier (disconnection_response destination source) repeated sound = elim repeated [ ]
repeated-said policy r v identifier (echo_request octets) repeated sound = elim repeated [ ]
repeated-said policy r v identifier (echo_response octets) repeated sound = elim repeated [ ]
repeated-said policy r v identifier (information_request kind) repeated sound = elim repeated [ ]
repeated-said policy r v identifier (information_response kind answer rest) repeated sound = elim repeated [ ]

said_repeated : (policy : Policy) (r : Reading) (v : Channels) (identifier : ℕ) (response : Option Content) → IsRepeated (answered_query r.requests identifier) v.held r.entries response → Sound policy r v
    → Sound policy (fold read_on r (map spoken (option_to_list (command_if identifier response)))) v
said_repeated policy r v identifier None repeated sound = sound
said_repeated policy r v identifier (Some content) repeated sound = repeated-said policy r v identifier content repeated sound

queries-of : (asked : Requests) (held : List Held) (entries : List Entry) (kept : Option Remembered) (l : Remembered) → kept ≡ Some l → QueriesKept asked held entries kept → QueriesKept asked held entries (Some l)
queries-of asked held entries kept l is all = subst (QueriesKept asked held entries) is all

pub queries-again : (policy : Policy) (r : Reading) (v : Channels) (one : Read) (identifier : ℕ) (terms : Option Terms) → Queries one identifier terms → (l : Remembered) → v.memory.configuration ≡ Some l → l.identifier ≡ identifier → Sound policy r v
    → Sound policy (fold read_on r (exchange one identifier l.response)) v
queries-again policy r v one identifier terms queries l at same sound =
    let kept : QueriesKept r.requests v.held r.entries (Some l) = queries-of r.requests v.held r.entries v.memory.configuration l at sound.kept.queries in
    let query : Query = record { identifier = identifier; terms = terms } in
    let past : Reading = queried r identifier terms in
    let still : answered_query past.requests l.identifier ≡ answered_query r.requests l.identifier = ap query_terms (begins_same l.identifier l.identifier query r.requests.queries refl kept.0 (sym same)) in
    let repeated : IsRepeated (answered_query past.requests l.identifier) v.held r.entries l.response = subst (λ t. IsRepeated t v.held r.entries l.response) (sym still) kept.1 in
    let now : Sound policy past v = record {
      core = sound.core;
      kept = queried-kept r identifier terms v.held v.memory v.memory sound.kept refl refl refl refl (subst (QueriesKept past.requests v.held r.entries) (sym at) (sym same, repeated));
      uncalled = sound.uncalled;
    } in
    subst (λ before. Sound policy (fold read_on before (map spoken (option_to_list (command_if identifier l.response)))) v) (sym (queries r))
    (said_repeated policy past v identifier l.response (subst (λ n. IsRepeated (answered_query past.requests n) v.held r.entries l.response) same repeated) now)

-- an answer that could be given again at once
pub queries-stays : (policy : Policy) (r : Reading) (v : Channels) (one : Read) (identifier : ℕ) (terms : Option Terms) (content : Content) → Queries one identifier terms → IsNew v.memory.configuration identifier
    → IsRepeated terms v.held r.entries (Some content) → Sound policy r v
    → (let w : Channels = says identifier (Some content) (remembers kinds.Configuration identifier (Some content) v) in Sound policy (fold read_on r (exchange one identifier (Some content) ++ asked_between v w)) w)
queries-stays policy r v one identifier terms content queries new repeated sound =
    let w : Channels = says identifier (Some content) (remembers kinds.Configuration identifier (Some content) v) in
    let past : Reading = queried r identifier terms in
    let is : answered_query past.requests identifier ≡ terms = query-new r identifier terms v.held v.memory.configuration sound.kept.queries new in
    let now_repeated : IsRepeated (answered_query past.requests identifier) v.held r.entries (Some content) = subst (λ t. IsRepeated t v.held r.entries (Some content)) (sym is) repeated in
    let now : Sound policy past w = record {
      core = sound.core;
      kept = queried-kept r identifier terms v.held v.memory w.memory sound.kept refl refl refl refl (refl, now_repeated);
      uncalled = sound.uncalled;
    } in
    subst (λ rest. Sound policy (fold read_on r (exchange one identifier (Some content) ++ rest)) w) (sym (asked-none v w refl))
    (subst (λ before. Sound policy (read_on before (spoken (command_with identifier content))) w) (sym (queries r)) (repeated-said policy past w identifier content now_repeated now))

-- ---- an answer that changes what is agreed on

abbrev pub silent_memory : (identifier : ℕ) → Memory → Memory
silent_memory identifier memory = record memory { configuration = Some (record { identifier = identifier; response = None }) }

abbrev pub with_memory : Memory → Channels → Channels
with_memory memory v = record v { memory = memory }

-- what is said does not depend on what is remembered
pub command-free : (errand : Errand) (memory : Memory) (w : Channels) → command_of errand (with_memory memory w) ≡ command_of errand w
command-free (Connection own) memory w = refl
command-free (Configuration own) memory w = refl
command-free (Disconnection own) memory w = refl
command-free Features memory w = refl

said_free : (errand : Option Errand) (memory : Memory) (w : Channels) → said_of errand (with_memory memory w) ≡ said_of errand w
said_free None memory w = refl
said_free (Some errand) memory w = ap (λ c. map spoken (option_to_list c)) (command-free errand memory w)

pub asked-free : (v w : Channels) (memory : Memory) → asked_between v (with_memory memory w) ≡ asked_between v w
asked-free v w memory = ap (cond (eqb w.identifier v.identifier) []) (said_free (newest w.queue) memory w)

-- requests of the host are no requests of the peer
pub spoken-queries : (r : Reading) (command : Command) → (read_on r (spoken command)).requests.queries ≡ r.requests.queries
spoken-queries r command = by command.content
  where
    by : (content : Content) → (read_on r (spoken (command_with command.identifier content))).requests.queries ≡ r.requests.queries
    by (reject reason rest) = refl
    by (connection_request psm source) = refl
    by (connection_response destination source answer status) = refl
    by (configuration_request destination flags options) = refl
    by (configuration_response source flags answer options) = refl
    by (disconnection_request destination source) = refl
    by (disconnection_response destination source) = refl
    by (echo_request octets) = refl
    by (echo_response octets) = refl
    by (information_request kind) = refl
    by (information_response kind answer rest) = refl

if_queries : (r : Reading) (found : Option Command) → (fold read_on r (map spoken (option_to_list found))).requests.queries ≡ r.requests.queries
if_queries r None = refl
if_queries r (Some command) = spoken-queries r command

pub asked-queries : (r : Reading) (v w : Channels) → (fold read_on r (asked_between v w)).requests.queries ≡ r.requests.queries
asked-queries r v w = by (eqb w.identifier v.identifier)
  where
    by : (t : Bool) → (fold read_on r (cond t [] (said_of (newest w.queue) w))).requests.queries ≡ r.requests.queries
    by true = refl
    by false = if_queries r (option_and_then (λ one. command_of one w) (newest w.queue))

-- what could be said again is remembered
pub remembers-sound : (policy : Policy) (r : Reading) (u w : Channels) (identifier : ℕ) (content : Content) (memory : Memory) → w.held ≡ u.held → w.next ≡ u.next → u.memory ≡ silent_memory identifier memory
    → w.memory ≡ record memory { configuration = Some (record { identifier = identifier; response = Some content }) } → IsRepeated (answered_query r.requests identifier) u.held r.entries (Some content) → Sound policy r u → Sound policy r w
remembers-sound policy r u w identifier content memory held_is next_is silent memory_is repeated sound =
    let core : Core policy r.entries w.held w.next = subst (λ h. Core policy r.entries h w.next) (sym held_is) (subst (Core policy r.entries u.held) (sym next_is) sound.core) in
    let before : Kept r.requests r.entries u.held (silent_memory identifier memory) = subst (Kept r.requests r.entries u.held) silent sound.kept in
    let after : Memory = record memory { configuration = Some (record { identifier = identifier; response = Some content }) } in
    let kept : Kept r.requests r.entries u.held after = record {
      calls = before.calls;
      queries = (before.queries.0, repeated);
      ends = before.ends;
      echoes = before.echoes;
      outgoing = before.outgoing;
      informations = before.informations;
      wants = before.wants;
    } in
    record { core = core; kept = subst (λ m. Kept r.requests r.entries w.held m) (sym memory_is) (subst (λ h. Kept r.requests r.entries h after) (sym held_is) kept); uncalled = subst (Uncalled r.requests) (sym next_is) sound.uncalled }

-- ---- a channel whose options change

-- the channel that is asked about, and its options before and after
pub record Talks (v : Channels) (held : Held) (peer : ℕ) (setup : Setup) : Type 0 where
  pub found : find (has_own held.own) v.held ≡ Some held
  pub peer_is : peer_of held.stage ≡ Some peer
  pub setup_is : setup_of held.stage ≡ Some setup
  pub there : is_there (life_of held.stage) ≡ true
  pub peer_with : (after : Setup) → peer_of (stage_with after held.stage) ≡ Some peer
  pub life_with : (after : Setup) → life_of (stage_with after held.stage) ≡ life_of held.stage
  pub setup_with : (after : Setup) → setup_of (stage_with after held.stage) ≡ Some after
  pub request_with : (after : Setup) → configuration_at (stage_with after held.stage) ≡ configuration_by after.own peer

pub alters-to : (v w : Channels) (held : Held) (peer : ℕ) (setup after : Setup) → Talks v held peer setup → w.held ≡ (to_setup held after v).held → Alters v.held w.held held (with_setup held after) peer setup after
alters-to v w held peer setup after talks is = record {
  found = talks.found;
  peer_is = talks.peer_is;
  setup_is = talks.setup_is;
  there = talks.there;
  found_after = ap (find (has_own held.own)) is ∙ found-placed (with_setup held after) held v.held talks.found;
  psm_after = refl;
  own_after = refl;
  peer_after = talks.peer_with after;
  life_after_is = talks.life_with after;
  setup_after_is = talks.setup_with after;
  others = λ own apart. ap (find (has_own own)) is ∙ find-placed (with_setup held after) v.held own apart;
  lone = λ distinct. subst (Distinct own_of) (sym is) (placed-distinct (with_setup held after) v.held distinct);
}

-- the first thing that happens: the answer is said
pub answers-first : (policy : Policy) (r : Reading) (v u : Channels) (one : Read) (identifier : ℕ) (held : Held) (peer : ℕ) (setup after : Setup) (octets : List ℕ) (flags answer : ℕ) (given : List ℕ) → (let terms : Terms = record { own = held.own; options = octets } in Queries one identifier (Some terms))
    → IsNew v.memory.configuration identifier → Talks v held peer setup → u.held ≡ (to_setup held after v).held → u.next ≡ v.next → u.memory ≡ silent_memory identifier v.memory
    → ((said : read.Setup) → Agrees (policy.wish held.psm) setup said → (let terms : Terms = record { own = held.own; options = octets } in Agrees (policy.wish held.psm) after (setup_after said (Some (Answered (part_of terms peer flags answer))))))
    → Sound policy r v → Sound policy (fold read_on r (exchange one identifier (Some (configuration_response peer flags answer given)))) u
answers-first policy r v u one identifier held peer setup after octets flags answer given queries new talks held_is next_is memory_is agrees sound =
    let terms : Terms = record { own = held.own; options = octets } in
    let part : Part = part_of terms peer flags answer in
    let content : Content = configuration_response peer flags answer given in
    let past : Reading = queried r identifier (Some terms) in
    let silent : Memory = silent_memory identifier v.memory in
    let is : answered_query past.requests identifier ≡ Some terms = query-new r identifier (Some terms) v.held v.memory.configuration sound.kept.queries new in
    let alters : Alters v.held u.held held (with_setup held after) peer setup after = alters-to v u held peer setup after talks held_is in
    let kept : Kept past.requests r.entries v.held silent = queried-kept r identifier (Some terms) v.held v.memory silent sound.kept refl refl refl refl (refl, tt) in
    let core_on = core-alters policy r.entries v.held u.held v.next held (with_setup held after) peer setup after (Answers part) (Answered part) alters (answers-name part held.psm) sound.core (λ own apart. answers-others part r.entries own apart) agrees in
    let kept_on = kept-alters past.requests r.entries v.held u.held silent held (with_setup held after) peer setup after (Answers part) alters refl (refl, tt) kept in
    let more : meant past.requests (sense (spoken (command_with identifier content))) ≡ Answers part = ap (meant_by peer flags answer) is in
    subst (λ before. Sound policy (read_on before (spoken (command_with identifier content))) u) (sym (queries r))
    (record {
      core = subst (λ m. Core policy (entries_after r.entries m) u.held u.next) (sym more) (subst (Core policy (entries_after r.entries (Answers part)) u.held) (sym next_is) core_on);
      kept = subst (λ m. Kept past.requests (entries_after r.entries m) u.held u.memory) (sym more) (subst (Kept past.requests (entries_after r.entries (Answers part)) u.held) (sym memory_is) kept_on);
      uncalled = subst (Uncalled past.requests) (sym next_is) sound.uncalled;
    })

-- at last: it could be said again
pub repeats-now : (policy : Policy) (r : Reading) (u : Channels) (own peer flags answer : ℕ) (octets : List ℕ) (after : Held) (at : ℕ) → (let terms : Terms = record { own = own; options = octets } in answered_query r.requests at ≡ Some terms)
    → find (has_own own) u.held ≡ Some after → after.own ≡ own → peer_of after.stage ≡ Some peer
    → ((said : read.Setup) → AgreesIf (policy.wish after.psm) (standing after.stage) said → (let terms : Terms = record { own = own; options = octets } in RepeatsIn (standing after.stage) said (part_of terms peer flags answer)))
    → Sound policy r u → (given : List ℕ) → IsRepeated (answered_query r.requests at) u.held r.entries (Some (configuration_response peer flags answer given))
repeats-now policy r u own peer flags answer octets after at is here own_is peer_is repeats sound given =
    let terms : Terms = record { own = own; options = octets } in
    let there : find (has_own after.own) u.held ≡ Some after = ap (λ n. find (has_own n) u.held) own_is ∙ here in
    let found : Found policy after peer (read_at after.own r.entries) = found-there policy r.entries u.held u.next after peer sound.core there peer_is in
    subst (λ t. RepeatsOf u.held r.entries t peer flags answer) (sym is)
    (subst (λ h. Repeats h (read_at own r.entries) (part_of terms peer flags answer)) (sym here)
    (subst (λ e. Repeats (Some after) e (part_of terms peer flags answer)) (sym (ap (λ n. read_at n r.entries) (sym own_is) ∙ found.found_is)) (repeats found.entry.setup found.agrees)))
