-- The peer asks for options.
use Rattle.std.proofs.Common.{◌≡◌, ℕ, ◌<◌, ◌≤◌, List, [], ◌∷◌, ◌++◌, Bool, true, false, cond, ◌&&◌, eqb, not, Option, Some, None, refl, sym, ap, subst, ◌∙◌}
use Rattle.std.specs.Prelude.{find, filter, option_map, nat_lt, unwrap_or}
use Rattle.std.proofs.lemmas.Bool.{ltb-true, ltb-false}
use Rattle.talk_laws.specs.capture.specs.declared.flow.Flow.TheVariants.{Into}
use Rattle.talk_laws.specs.l2cap_signal.specs.Reading.{Answer as Read}
use Rattle.talk_laws.specs.l2cap_config.specs.declared.wish.Mode.TheVariants.{Basic}
use Rattle.talk_laws.specs.l2cap_config.specs.declared.wish.Wish.{Wish}
use Rattle.talk_laws.specs.link_talk.specs.Senses.{sense}
use Rattle.talk_laws.specs.link_talk.specs.Requests.{Requests, Query, Terms, requests_after, went, has_identifier, first_of_run, last_run, query_terms, answered_query}
use Rattle.talk_laws.specs.link_talk.specs.Meanings.{Part, Answers, Nothing, meant, answered as meant_by, Meaning}
use Rattle.talk_laws.specs.link_talk.specs.Setups as read
use Rattle.talk_laws.specs.link_talk.specs.Setups.{Term, is_set, mode_in, setup_after, term, with_answer, Answered}
use Rattle.talk_laws.specs.link_talk.specs.Channels.{is_there, Entry, entry_after, entries_after, Reading, read_on}
use Rattle.channel_model.specs.Value.{Setup, Stage, Requested, Connected, Leaving, Closing, Crossed, Held, Remembered, Memory, Channels}
use Rattle.channel_model.specs.Policies.{Policy}
use Rattle.channel_model.specs.Changing.{has_own}
use Rattle.own_channel_laws.specs.Views.{peer_of, Standing, Unread, Agreeing, Shut, standing, is_checked_by, read_at}
use Rattle.channel_model.proofs.Lookups.{eqb-same}
use Rattle.own_channel_laws.proofs.Entries.{nothing-same}
use Rattle.own_channel_laws.proofs.Sound.{Agrees, AgreesIf, ReadsBy, Reads, Core, BeginsWith, IsAgain, RepeatsIn, Repeats, part_of, RepeatsOf, QueriesKept, CallsKept, EndsKept, HarmlessKept, identifier_asked, WantsAt, Wants, Kept, Sound, IsPlaced, placed-read}
use Rattle.own_channel_laws.proofs.Steps.{core-one, kept-one}
use Rattle.own_channel_laws.proofs.Agreeing.{Answers as AnswersSo, answer-agrees, refused-answers, part-answers, set-stays}
use Rattle.own_channel_laws.proofs.Answering.{answers-others}
use Rattle.own_channel_laws.proofs.Questions.{heard, IsNew}
use Rattle.own_channel_laws.proofs.Granting.{no_repeats}

-- ---- a request is heard

abbrev pub queried : Reading → (identifier : ℕ) → Option Terms → Reading
queried r identifier terms =
    let one : Query = record { identifier = identifier; terms = terms } in
    record { requests = record { calls = r.requests.calls; queries = one ∷ r.requests.queries; failures = r.requests.failures }; entries = r.entries }

abbrev pub Queries : Read → (identifier : ℕ) → Option Terms → Type 0
Queries one identifier terms = (r : Reading) → read_on r (heard one) ≡ queried r identifier terms

pub queries-by : (one : Read) (identifier : ℕ) (terms : Option Terms)
    → ((asked : Requests) → (let query : Query = record { identifier = identifier; terms = terms } in let more : Requests = record { calls = asked.calls; queries = query ∷ asked.queries; failures = asked.failures } in requests_after asked (sense (heard one)) ≡ more))
    → ((asked : Requests) → meant asked (sense (heard one)) ≡ Nothing) → Queries one identifier terms
queries-by one identifier terms asks none r =
    ap (λ (q : Requests). let after : Reading = record { requests = q; entries = entries_after r.entries (meant r.requests (sense (heard one))) } in after) (asks r.requests)
    ∙ ap (λ (es : List Entry). let after : Reading = record { requests = (queried r identifier terms).requests; entries = es } in after) (ap (entries_after r.entries) (none r.requests) ∙ nothing-same r.entries)

wants_at : (asked : Requests) (queries : List Query) (held : Held) (stage : Stage) → WantsAt asked held stage → (let more : Requests = record { calls = asked.calls; queries = queries; failures = asked.failures } in WantsAt more held stage)
wants_at asked queries held (Requested request) wants = wants
wants_at asked queries held (Connected peer setup) wants = tt
wants_at asked queries held (Leaving peer setup request) wants = tt
wants_at asked queries held (Closing peer request checked) wants = tt
wants_at asked queries held (Crossed peer request) wants = tt

wants_still : (asked : Requests) (queries : List Query) (found : Option Held) → Wants asked found → (let more : Requests = record { calls = asked.calls; queries = queries; failures = asked.failures } in Wants more found)
wants_still asked queries None wants = tt
wants_still asked queries (Some held) wants = wants_at asked queries held held.stage wants

pub queried-kept : (r : Reading) (identifier : ℕ) (terms : Option Terms) (held : List Held) (memory memory' : Memory) → Kept r.requests r.entries held memory → memory'.connection ≡ memory.connection → memory'.disconnection ≡ memory.disconnection
    → memory'.echo ≡ memory.echo → memory'.information ≡ memory.information → QueriesKept (queried r identifier terms).requests held r.entries memory'.configuration
    → Kept (queried r identifier terms).requests r.entries held memory'
queried-kept r identifier terms held memory memory' kept connection disconnection echo information queries = record {
  calls = subst (CallsKept (filter (went Into) r.requests.calls) r.entries) (sym connection) kept.calls;
  queries = queries;
  ends = subst (EndsKept r.entries) (sym disconnection) kept.ends;
  echoes = subst HarmlessKept (sym echo) kept.echoes;
  outgoing = kept.outgoing;
  informations = subst HarmlessKept (sym information) kept.informations;
  wants = λ own. wants_still r.requests (queried r identifier terms).requests.queries (find (has_own own) held) (kept.wants own);
}

-- ---- which request an answer is for

pub begins_same : (identifier last : ℕ) (query : Query) (queries : List Query) → last ≡ identifier → BeginsWith identifier_asked last queries → query.identifier ≡ identifier → last_run (has_identifier identifier) (query ∷ queries) ≡ last_run (has_identifier identifier) queries
begins_same identifier last query [] same begins is = elim begins [ ]
begins_same identifier last query (other ∷ queries) same begins is =
    let passes : eqb other.identifier identifier ≡ true = ap (λ n. eqb n identifier) (begins ∙ same) ∙ eqb-same identifier in
    let now : eqb query.identifier identifier ≡ true = ap (λ n. eqb n identifier) is ∙ eqb-same identifier in
    ap (λ t. cond t (Some (cond (eqb other.identifier identifier) (first_of_run (has_identifier identifier) other queries) query)) (last_run (has_identifier identifier) (other ∷ queries))) now
    ∙ (ap (λ t. Some (cond t (first_of_run (has_identifier identifier) other queries) query)) passes
    ∙ sym (ap (λ t. cond t (Some (first_of_run (has_identifier identifier) other queries)) (last_run (has_identifier identifier) queries)) passes))

begins_apart : (identifier last : ℕ) (query : Query) (queries : List Query) → eqb last identifier ≡ false → BeginsWith identifier_asked last queries → first_of_run (has_identifier identifier) query queries ≡ query
begins_apart identifier last query [] apart begins = refl
begins_apart identifier last query (other ∷ queries) apart begins =
    ap (λ t. cond t (first_of_run (has_identifier identifier) other queries) query) (ap (λ n. eqb n identifier) begins ∙ apart)

first-new : (identifier : ℕ) (query : Query) (asked : Requests) (held : List Held) (entries : List Entry) (last : Option Remembered) → QueriesKept asked held entries last → IsNew last identifier → first_of_run (has_identifier identifier) query asked.queries ≡ query
first-new identifier query asked held entries None kept new = ap (first_of_run (has_identifier identifier) query) kept
first-new identifier query asked held entries (Some last) kept new = begins_apart identifier last.identifier query asked.queries new kept.0

pub query-new : (r : Reading) (identifier : ℕ) (terms : Option Terms) (held : List Held) (last : Option Remembered) → QueriesKept r.requests held r.entries last → IsNew last identifier → answered_query (queried r identifier terms).requests identifier ≡ terms
query-new r identifier terms held last kept new =
    let query : Query = record { identifier = identifier; terms = terms } in
    ap (λ t. query_terms (cond t (Some (first_of_run (has_identifier identifier) query r.requests.queries)) (last_run (has_identifier identifier) r.requests.queries))) (eqb-same identifier)
    ∙ ap (λ q. query_terms (Some q)) (first-new identifier query r.requests held r.entries last kept new)

-- ---- an answer that changes nothing

again_answers : (wish : Wish) (setup : Setup) (said : read.Setup) (own peer : ℕ) (accepted more : Bool) (options : List ℕ) → Agrees wish setup said → is_set said ≡ false → IsAgain accepted more setup.parts.mode options
    → (let part : Part = record { own = own; peer = peer; accepted = accepted; more = more; options = options } in AnswersSo setup said part)
again_answers wish setup said own peer false more options agrees unset again = refused-answers wish setup setup said own peer more options agrees refl again
again_answers wish setup said own peer true false options agrees unset again = elim again [ ]
again_answers wish setup said own peer true true options agrees unset again = part-answers wish setup setup said own peer options again.stated agrees unset refl again.read_is (sym again.again)

again-agrees : (wish : Wish) (setup : Setup) (said : read.Setup) (part : Part) → Agrees wish setup said → (is_set said ≡ false → IsAgain part.accepted part.more setup.parts.mode part.options) → Agrees wish setup (setup_after said (Some (Answered part)))
again-agrees wish setup said part agrees again = answer-agrees wish setup setup said part agrees refl agrees.carrier_is (λ some. some) (λ unset. again_answers wish setup said part.own part.peer part.accepted part.more part.options agrees unset (again unset))

-- nor does it set up a channel that was closed
checks_again : (said : read.Setup) (part : Part) (set : Bool) → is_set said ≡ set → (is_set said ≡ false → (part.accepted && not part.more) ≡ false) → is_checked_by (setup_after said (Some (Answered part))) ≡ is_checked_by said
checks_again said part true is again = ap (λ t. is_checked_by (cond t said (with_answer said part))) is
checks_again said part false is again = ap (λ t. is_checked_by (cond t said (with_answer said part))) is ∙ by part.accepted part.more (again is)
  where
    by : (accepted more : Bool) → (accepted && not more) ≡ false
        → is_checked_by (cond accepted (cond more (record said { parts = said.parts ++ part.options }) (record said { parts = []; accepted = Some (unwrap_or (mode_in (said.parts ++ part.options)) Basic) })) (record said { parts = [] })) ≡ is_checked_by said
    by false more is = refl
    by true true is = refl
    by true false is = cc

said_again : (wish : Wish) (now : Standing) (said : read.Setup) (part : Part) (there names : Bool) → AgreesIf wish now said → RepeatsIn now said part
    → AgreesIf wish now (cond there (setup_after said (cond names (Some (Answered part)) None)) said)
said_again wish Unread said part there names agrees repeats = tt
said_again wish (Agreeing setup) said part false names agrees repeats = agrees
said_again wish (Agreeing setup) said part true false agrees repeats = agrees
said_again wish (Agreeing setup) said part true true agrees repeats = again-agrees wish setup said part agrees repeats
said_again wish (Shut checked) said part false names agrees repeats = agrees
said_again wish (Shut checked) said part true false agrees repeats = agrees
said_again wish (Shut checked) said part true true agrees repeats = checks_again said part (is_set said) refl repeats ∙ agrees

repeats_again : (now : Standing) (said : read.Setup) (part other : Part) (there names : Bool) → RepeatsIn now said other → RepeatsIn now (cond there (setup_after said (cond names (Some (Answered part)) None)) said) other
repeats_again Unread said part other there names repeats = tt
repeats_again (Agreeing setup) said part other false names repeats = repeats
repeats_again (Agreeing setup) said part other true false repeats = repeats
repeats_again (Agreeing setup) said part other true true repeats = λ unset. repeats (set-stays said (Answered part) unset)
repeats_again (Shut checked) said part other false names repeats = repeats
repeats_again (Shut checked) said part other true false repeats = repeats
repeats_again (Shut checked) said part other true true repeats = λ unset. repeats (set-stays said (Answered part) unset)

reads_again_by : (policy : Policy) (held : Held) (peer : Option ℕ) (entry : Entry) (part : Part) → ReadsBy policy held peer (Some entry) → RepeatsIn (standing held.stage) entry.setup part → ReadsBy policy held peer (Some (entry_after (Answers part) entry))
reads_again_by policy held None entry part reads repeats = elim reads [ ]
reads_again_by policy held (Some peer) entry part reads repeats = (
  record { channel_is = reads.0.channel_is; life_is = reads.0.life_is },
  said_again (policy.wish held.psm) (standing held.stage) entry.setup part (is_there entry.life) (eqb part.own entry.channel.own && eqb part.peer entry.channel.peer) reads.1 repeats,
)

reads_again : (policy : Policy) (held : Option Held) (found : Option Entry) (part : Part) → Reads policy held found → Repeats held found part → Reads policy held (option_map (entry_after (Answers part)) found)
reads_again policy held None part reads repeats = elim (never held part repeats) [ ]
  where
    never : (held : Option Held) (part : Part) → Repeats held None part → ⊥
    never None part is = is
    never (Some h) part is = is
reads_again policy None (Some entry) part reads repeats = reads
reads_again policy (Some held) (Some entry) part reads repeats = reads_again_by policy held (peer_of held.stage) entry part reads repeats

repeats_still : (held : Option Held) (found : Option Entry) (part other : Part) → Repeats held found other → Repeats held (option_map (entry_after (Answers part)) found) other
repeats_still held None part other repeats = repeats
repeats_still None (Some entry) part other repeats = tt
repeats_still (Some held) (Some entry) part other repeats = repeats_again (standing held.stage) entry.setup part other (is_there entry.life) (eqb part.own entry.channel.own && eqb part.peer entry.channel.peer) repeats

repeats-below : (policy : Policy) (entries : List Entry) (held : List Held) (next : ℕ) (part : Part) → Core policy entries held next → Repeats (find (has_own part.own) held) (read_at part.own entries) part → (b : Bool) → nat_lt part.own next ≡ b → part.own < next
repeats-below policy entries held next part core repeats true is = ltb-true part.own next is
repeats-below policy entries held next part core repeats false is =
    elim (no_repeats (find (has_own part.own) held) part (subst (λ e. Repeats (find (has_own part.own) held) e part) (core.read_below part.own (ltb-false part.own next is)) repeats)) [ ]

repeats-above : (policy : Policy) (entries : List Entry) (held : List Held) (next : ℕ) (part : Part) → Core policy entries held next → Repeats (find (has_own part.own) held) (read_at part.own entries) part → (b : Bool) → nat_lt part.own 0x0040 ≡ b → 0x0040 ≤ part.own
repeats-above policy entries held next part core repeats true is =
    elim (no_repeats (find (has_own part.own) held) part (subst (λ e. Repeats (find (has_own part.own) held) e part) (core.read_low part.own (ltb-true part.own 0x0040 is)) repeats)) [ ]
repeats-above policy entries held next part core repeats false is = ltb-false part.own 0x0040 is

placed_repeats : (more : Meaning) (held : Option Held) (found : Option Entry) (part : Part) → Repeats held found part → IsPlaced held (option_map (entry_after more) found)
placed_repeats more None None part repeats = repeats
placed_repeats more (Some held) None part repeats = elim repeats [ ]
placed_repeats more held (Some entry) part repeats = placed-read held (entry_after more entry)

pub repeat-step : (policy : Policy) (asked : Requests) (entries : List Entry) (held : List Held) (next : ℕ) (memory : Memory) (part : Part) → Repeats (find (has_own part.own) held) (read_at part.own entries) part
    → Core policy entries held next → Kept asked entries held memory → Core policy (entries_after entries (Answers part)) held next × Kept asked (entries_after entries (Answers part)) held memory
repeat-step policy asked entries held next memory part repeats core kept = (
  core-one policy entries held held next (Answers part) part.own refl (repeats-below policy entries held next part core repeats (nat_lt part.own next) refl) (repeats-above policy entries held next part core repeats (nat_lt part.own 0x0040) refl) core (λ own apart. refl) (λ own apart. answers-others part entries own apart) core.lone
      (reads_again policy (find (has_own part.own) held) (read_at part.own entries) part (core.reads part.own) repeats),
  kept-one asked entries held held memory (Answers part) part.own refl kept (λ own apart. refl) (λ own apart. answers-others part entries own apart)
      (λ other was. repeats_still (find (has_own part.own) held) (read_at part.own entries) part other was) (kept.wants part.own)
      (placed_repeats (Answers part) (find (has_own part.own) held) (read_at part.own entries) part repeats),
)

-- ---- it is answered as before

pub repeat-terms : (policy : Policy) (r : Reading) (v : Channels) (terms : Option Terms) (peer flags answer : ℕ) → RepeatsOf v.held r.entries terms peer flags answer → Sound policy r v
    → (let after : Reading = record { requests = r.requests; entries = entries_after r.entries (meant_by peer flags answer terms) } in Sound policy after v)
repeat-terms policy r v None peer flags answer repeats sound =
    let same = nothing-same r.entries in
    record { core = subst (λ es. Core policy es v.held v.next) (sym same) sound.core; kept = subst (λ es. Kept r.requests es v.held v.memory) (sym same) sound.kept; uncalled = sound.uncalled }
repeat-terms policy r v (Some terms) peer flags answer repeats sound =
    let step = repeat-step policy r.requests r.entries v.held v.next v.memory (part_of terms peer flags answer) repeats sound.core sound.kept in
    record { core = step.0; kept = step.1; uncalled = sound.uncalled }
