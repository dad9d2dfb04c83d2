-- The peer asks for a channel.
use Rattle.std.proofs.Common.{◌≡◌, ℕ, ◌≤◌, List, [], ◌∷◌, ◌++◌, fold, map, Bool, true, false, cond, ◌||◌, ◌&&◌, eqb, not, Option, Some, None, refl, sym, ap, subst, ◌∙◌, ◌⊎◌, inl, inr, arith}
use Rattle.std.specs.Prelude.{find, filter, option_to_list, nat_le, nat_lt, length}
use Rattle.std.specs.Option.{option_or}
use Rattle.std.specs.List.{list_any}
use Rattle.std.proofs.lemmas.Bool.{eqb-true, leb-false}
use Rattle.talk_laws.specs.capture.specs.declared.flow.Flow.TheVariants.{Out, Into}
use Rattle.talk_laws.specs.l2cap_signal.specs.Commands.{Content, reject, connection_request, connection_response, configuration_request, configuration_response, disconnection_request, disconnection_response, echo_request, echo_response, information_request, information_response}
use Rattle.talk_laws.specs.l2cap_signal.specs.Reading.{Answer as Read}
use Rattle.talk_laws.specs.link_talk.specs.declared.call.Call.{Call}
use Rattle.talk_laws.specs.link_talk.specs.declared.call.Failure.{Failure}
use Rattle.talk_laws.specs.link_talk.specs.declared.call.Wanted.{Wanted}
use Rattle.talk_laws.specs.link_talk.specs.declared.channel.Channel.{Channel}
use Rattle.talk_laws.specs.link_talk.specs.Senses.{Opens, OnChannel, sense}
use Rattle.talk_laws.specs.link_talk.specs.Requests.{Requests, requests_after, went, is_call, first_of_run, last_run, call_wanted, has_source, answered_call}
use Rattle.talk_laws.specs.link_talk.specs.Meanings.{Makes, Nothing, granted, made, meant}
use Rattle.talk_laws.specs.link_talk.specs.Channels.{is_there, Entry, fresh, is_owner, with_fresh, entries_after, Reading, read_on}
use Rattle.channel_model.specs.declared.request_kind.RequestKind.TheVariants as kinds
use Rattle.channel_model.specs.Value.{no_setup, Stage, Requested, Connected, Leaving, Closing, Crossed, Held, Remembered, Memory, Channels}
use Rattle.channel_model.specs.Policies.{Policy}
use Rattle.channel_model.specs.Changing.{has_own, has_peer, is_peer}
use Rattle.channel_model.specs.Answers.{connection_result, connection_answer}
use Rattle.channel_model.specs.Following.{remembers, says, hears_kind, follows_connection, with_channel}
use Rattle.own_channel_laws.specs.OwnTalk.{spoken, command_with, response_by, command_if, exchanged, asked_between}
use Rattle.own_channel_laws.specs.Views.{peer_of, channel_by, read_at}
use Rattle.channel_model.proofs.Lookups.{own_of, find-append, eqb-same, distinct-append, or_on}
use Rattle.own_channel_laws.proofs.Entries.{nothing-same, makes-fresh, found-passes, any-found, read-own}
use Rattle.own_channel_laws.proofs.Sound.{ReadsBy, Reads, Core, BeginsWith, IsSome, IsKnown, CallsKept, QueriesKept, EndsKept, HarmlessKept, WantsAt, Wants, identifier_of, Kept, Sound}
use Rattle.own_channel_laws.proofs.Granting.{Comes, core-fresh, kept-fresh, fresh-here}
use Rattle.own_channel_laws.proofs.Questions.{heard, exchange, asked-none, question-by, IsNew}

-- ---- what is granted already is granted again

pub granted-again : (entries : List Entry) (own peer : ℕ) (wanted : Option Wanted) → IsSome (read_at own entries) → entries_after entries (granted own peer wanted) ≡ entries
granted-again entries own peer None is = nothing-same entries
granted-again entries own peer (Some wanted) is = makes-fresh (channel_by wanted.psm own peer) entries ∙ by (read_at own entries) refl is
  where
    by : (found : Option Entry) → read_at own entries ≡ found → IsSome found → with_fresh entries (channel_by wanted.psm own peer) ≡ entries
    by None at some = elim some [ ]
    by (Some entry) at some =
        let owns : is_owner (channel_by wanted.psm own peer) entry ≡ true =
        ap (λ n. eqb n own || (eqb entry.channel.peer peer && is_there entry.life)) (read-own own entries entry at)
        ∙ ap (λ t. t || (eqb entry.channel.peer peer && is_there entry.life)) (eqb-same own) in
        ap (λ t. cond t entries (entries ++ fresh (channel_by wanted.psm own peer) ∷ [])) (found-passes (channel_by wanted.psm own peer) own entries entry at owns)

-- a response that is said again makes nothing
response-again : (asked : Requests) (entries : List Entry) (identifier destination source answer : ℕ) → (answer ≡ 0 → IsSome (read_at destination entries))
    → entries_after entries (meant asked (Opens Out identifier (OnChannel destination source answer))) ≡ entries
response-again asked entries identifier destination source answer known = by (eqb answer 0) refl (nat_le 0x0040 destination)
  where
    by : (t : Bool) → eqb answer 0 ≡ t → (high : Bool) → entries_after entries (cond (t && high) (made asked Out identifier destination source) Nothing) ≡ entries
    by true is true = granted-again entries destination source (answered_call asked Into identifier source) (known (eqb-true answer 0 is))
    by true is false = nothing-same entries
    by false is high = nothing-same entries

known-again : (policy : Policy) (r : Reading) (v : Channels) (identifier : ℕ) (content : Content) → IsKnown r.entries (Some content) → Sound policy r v → Sound policy (read_on r (spoken (command_with identifier content))) v
known-again policy r v identifier (connection_response destination source answer status) known sound =
    let same = response-again r.requests r.entries identifier destination source answer known in
    record { core = subst (λ es. Core policy es v.held v.next) (sym same) sound.core; kept = subst (λ es. Kept r.requests es v.held v.memory) (sym same) sound.kept; uncalled = sound.uncalled }
known-again policy r v identifier (reject reason rest) known sound =
    let same = nothing-same r.entries in
    record { core = subst (λ es. Core policy es v.held v.next) (sym same) sound.core; kept = subst (λ es. Kept r.requests es v.held v.memory) (sym same) sound.kept; uncalled = sound.uncalled }
known-again policy r v identifier (connection_request psm source) known sound = elim known [ ]
known-again policy r v identifier (configuration_request destination flags options) known sound = elim known [ ]
known-again policy r v identifier (configuration_response source flags answer options) known sound = elim known [ ]
known-again policy r v identifier (disconnection_request destination source) known sound = elim known [ ]
known-again policy r v identifier (disconnection_response destination source) known sound = elim known [ ]
known-again policy r v identifier (echo_request octets) known sound = elim known [ ]
known-again policy r v identifier (echo_response octets) known sound = elim known [ ]
known-again policy r v identifier (information_request kind) known sound = elim known [ ]
known-again policy r v identifier (information_response kind answer rest) known sound = elim known [ ]

-- ---- a request is heard

-- a request of the peer for a channel, one that cannot be read too
abbrev pub came : (identifier : ℕ) → Option Wanted → Call
came identifier wanted = record { flow = Into; identifier = identifier; wanted = wanted }

abbrev pub invited : Reading → (identifier : ℕ) → Option Wanted → Reading
invited r identifier wanted = record { requests = record { calls = came identifier wanted ∷ r.requests.calls; queries = r.requests.queries; failures = r.requests.failures }; entries = r.entries }

abbrev pub Invites : Read → (identifier : ℕ) → Option Wanted → Type 0
Invites one identifier wanted = (r : Reading) → read_on r (heard one) ≡ invited r identifier wanted

-- where its request is read so
pub invites-by : (one : Read) (identifier : ℕ) (wanted : Option Wanted) → ((asked : Requests) → (let more : Requests = record { calls = came identifier wanted ∷ asked.calls; queries = asked.queries; failures = asked.failures } in requests_after asked (sense (heard one)) ≡ more))
    → ((asked : Requests) → meant asked (sense (heard one)) ≡ Nothing) → Invites one identifier wanted
invites-by one identifier wanted asks none r =
    ap (λ (q : Requests). let after : Reading = record { requests = q; entries = entries_after r.entries (meant r.requests (sense (heard one))) } in after) (asks r.requests)
    ∙ ap (λ (es : List Entry). let after : Reading = record { requests = (invited r identifier wanted).requests; entries = es } in after) (ap (entries_after r.entries) (none r.requests) ∙ nothing-same r.entries)

pub queries-same : (asked : Requests) (calls : List Call) (failures : List Failure) (held : List Held) (entries : List Entry) (last : Option Remembered) → QueriesKept asked held entries last
    → (let more : Requests = record { calls = calls; queries = asked.queries; failures = failures } in QueriesKept more held entries last)
queries-same asked calls failures held entries None kept = kept
queries-same asked calls failures held entries (Some last) kept = kept

wants_at : (asked : Requests) (identifier : ℕ) (wanted : Option Wanted) (held : Held) (stage : Stage) → WantsAt asked held stage
    → (let more : Requests = record { calls = came identifier wanted ∷ asked.calls; queries = asked.queries; failures = asked.failures } in WantsAt more held stage)
wants_at asked identifier wanted held (Requested request) wants = wants
wants_at asked identifier wanted held (Connected peer setup) wants = tt
wants_at asked identifier wanted held (Leaving peer setup request) wants = tt
wants_at asked identifier wanted held (Closing peer request checked) wants = tt
wants_at asked identifier wanted held (Crossed peer request) wants = tt

wants_still : (asked : Requests) (identifier : ℕ) (wanted : Option Wanted) (found : Option Held) → Wants asked found
    → (let more : Requests = record { calls = came identifier wanted ∷ asked.calls; queries = asked.queries; failures = asked.failures } in Wants more found)
wants_still asked identifier wanted None wants = tt
wants_still asked identifier wanted (Some held) wants = wants_at asked identifier wanted held held.stage wants

invited-kept : (r : Reading) (identifier : ℕ) (wanted : Option Wanted) (held : List Held) (memory memory' : Memory) → Kept r.requests r.entries held memory → memory'.configuration ≡ memory.configuration → memory'.disconnection ≡ memory.disconnection
    → memory'.echo ≡ memory.echo → memory'.information ≡ memory.information → CallsKept (came identifier wanted ∷ filter (went Into) r.requests.calls) r.entries memory'.connection
    → Kept (invited r identifier wanted).requests r.entries held memory'
invited-kept r identifier wanted held memory memory' kept configuration disconnection echo information calls = record {
  calls = calls;
  queries = subst (QueriesKept (invited r identifier wanted).requests held r.entries) (sym configuration) (queries-same r.requests (came identifier wanted ∷ r.requests.calls) r.requests.failures held r.entries memory.configuration kept.queries);
  ends = subst (EndsKept r.entries) (sym disconnection) kept.ends;
  echoes = subst HarmlessKept (sym echo) kept.echoes;
  outgoing = kept.outgoing;
  informations = subst HarmlessKept (sym information) kept.informations;
  wants = λ own. wants_still r.requests identifier wanted (find (has_own own) held) (kept.wants own);
}

-- ---- it is answered as before

calls-of : (calls : List Call) (entries : List Entry) (kept : Option Remembered) (l : Remembered) → kept ≡ Some l → CallsKept calls entries kept → CallsKept calls entries (Some l)
calls-of calls entries kept l is all = subst (CallsKept calls entries) is all

said_known : (policy : Policy) (r : Reading) (v : Channels) (identifier : ℕ) (response : Option Content) → IsKnown r.entries response → Sound policy r v → Sound policy (fold read_on r (map spoken (option_to_list (command_if identifier response)))) v
said_known policy r v identifier None known sound = sound
said_known policy r v identifier (Some content) known sound = known-again policy r v identifier content known sound

invites-again : (policy : Policy) (r : Reading) (v : Channels) (one : Read) (identifier : ℕ) (wanted : Option Wanted) → Invites one identifier wanted → (l : Remembered) → v.memory.connection ≡ Some l → l.identifier ≡ identifier → Sound policy r v
    → Sound policy (fold read_on r (exchange one identifier l.response)) v
invites-again policy r v one identifier wanted invites l at same sound =
    let kept : CallsKept (filter (went Into) r.requests.calls) r.entries (Some l) = calls-of (filter (went Into) r.requests.calls) r.entries v.memory.connection l at sound.kept.calls in
    let now : Sound policy (invited r identifier wanted) v = record {
      core = sound.core;
      kept = invited-kept r identifier wanted v.held v.memory v.memory sound.kept refl refl refl refl (subst (CallsKept (came identifier wanted ∷ filter (went Into) r.requests.calls) r.entries) (sym at) (sym same, kept.1));
      uncalled = sound.uncalled;
    } in
    subst (λ past. Sound policy (fold read_on past (map spoken (option_to_list (command_if identifier l.response)))) v) (sym (invites r)) (said_known policy (invited r identifier wanted) v identifier l.response kept.1 now)

-- ---- it is refused

invites-refused : (policy : Policy) (r : Reading) (v : Channels) (one : Read) (identifier : ℕ) (wanted : Option Wanted) (content : Content) → Invites one identifier wanted → ((entries : List Entry) → IsKnown entries (Some content)) → Sound policy r v
    → (let w : Channels = says identifier (Some content) (remembers kinds.Connection identifier (Some content) v) in Sound policy (fold read_on r (exchange one identifier (Some content) ++ asked_between v w)) w)
invites-refused policy r v one identifier wanted content invites known sound =
    let w : Channels = says identifier (Some content) (remembers kinds.Connection identifier (Some content) v) in
    let now : Sound policy (invited r identifier wanted) w = record {
      core = sound.core;
      kept = invited-kept r identifier wanted v.held v.memory w.memory sound.kept refl refl refl refl (refl, known r.entries);
      uncalled = sound.uncalled;
    } in
    subst (λ rest. Sound policy (fold read_on r (exchange one identifier (Some content) ++ rest)) w) (sym (asked-none v w refl))
    (subst (λ past. Sound policy (read_on past (spoken (command_with identifier content))) w) (sym (invites r)) (known-again policy (invited r identifier wanted) w identifier content (known r.entries) now))

-- ---- it is granted

begins_apart : (identifier source : ℕ) (last : ℕ) (call : Call) (calls : List Call) → eqb last identifier ≡ false → BeginsWith identifier_of last calls → first_of_run (is_call identifier source) call calls ≡ call
begins_apart identifier source last call [] apart begins = refl
begins_apart identifier source last call (other ∷ calls) apart begins =
    ap (λ n. cond (eqb n identifier && has_source source other.wanted) (first_of_run (is_call identifier source) other calls) call) begins
    ∙ ap (λ t. cond (t && has_source source other.wanted) (first_of_run (is_call identifier source) other calls) call) apart

first-new : (identifier source : ℕ) (call : Call) (calls : List Call) (entries : List Entry) (last : Option Remembered) → CallsKept calls entries last → IsNew last identifier → first_of_run (is_call identifier source) call calls ≡ call
first-new identifier source call calls entries None kept new = ap (first_of_run (is_call identifier source) call) kept
first-new identifier source call calls entries (Some last) kept new = begins_apart identifier source last.identifier call calls new kept.0

-- what it asked for is what is granted
call-new : (asked : Requests) (identifier psm source : ℕ) (entries : List Entry) (last : Option Remembered) → CallsKept (filter (went Into) asked.calls) entries last → IsNew last identifier
    → (let wanted : Wanted = record { psm = psm; source = source } in
    let more : Requests = record { calls = came identifier (Some wanted) ∷ asked.calls; queries = asked.queries; failures = asked.failures } in
    answered_call more Into identifier source ≡ Some wanted)
call-new asked identifier psm source entries last kept new =
    let wanted : Wanted = record { psm = psm; source = source } in
    let calls : List Call = filter (went Into) asked.calls in
    ap (λ t. call_wanted (cond (t && eqb source source) (Some (first_of_run (is_call identifier source) (came identifier (Some wanted)) calls)) (last_run (is_call identifier source) calls))) (eqb-same identifier)
    ∙ (ap (λ t. call_wanted (cond t (Some (first_of_run (is_call identifier source) (came identifier (Some wanted)) calls)) (last_run (is_call identifier source) calls))) (eqb-same source)
    ∙ ap (λ c. call_wanted (Some c)) (first-new identifier source (came identifier (Some wanted)) calls entries last kept new))

-- no channel has the peer's endpoint
found_any : (q : Held → Bool) (own : ℕ) (held : List Held) (found : Held) → find (has_own own) held ≡ Some found → q found ≡ true → list_any q held ≡ true
found_any q own [] found is passes = cc
found_any q own (h ∷ held) found is passes = by (has_own own h) (λ some. found_any q own held found some passes) is
  where
    by : (t : Bool) → (find (has_own own) held ≡ Some found → list_any q held ≡ true) → cond t (Some h) (find (has_own own) held) ≡ Some found → (q h || list_any q held) ≡ true
    by true later some = let same : h ≡ found = cc in ap (λ e. q e || list_any q held) same ∙ ap (λ t. t || list_any q held) passes
    by false later some = ap (λ t. q h || t) (later some) ∙ or_on (q h)

peers : (stage : Stage) (peer endpoint : ℕ) → peer_of stage ≡ Some peer → endpoint ≡ peer → is_peer endpoint stage ≡ true
peers (Requested request) peer endpoint at is = cc
peers (Connected own setup) peer endpoint at is = let same : own ≡ peer = cc in ap (eqb endpoint) (same ∙ sym is) ∙ eqb-same endpoint
peers (Leaving own setup request) peer endpoint at is = let same : own ≡ peer = cc in ap (eqb endpoint) (same ∙ sym is) ∙ eqb-same endpoint
peers (Closing own request checked) peer endpoint at is = let same : own ≡ peer = cc in ap (eqb endpoint) (same ∙ sym is) ∙ eqb-same endpoint
peers (Crossed own request) peer endpoint at is = let same : own ≡ peer = cc in ap (eqb endpoint) (same ∙ sym is) ∙ eqb-same endpoint

never : {X : Type 0} (b : Bool) → b ≡ true → b ≡ false → X
never true one two = cc
never false one two = cc

-- an entry that is there is of a channel that is held
pub peer-held : (policy : Policy) (held : Option Held) (entry : Entry) → Reads policy held (Some entry) → is_there entry.life ≡ true → (found : Held) × (held ≡ Some found) × (peer_of found.stage ≡ Some entry.channel.peer)
peer-held policy None entry reads there = never (is_there entry.life) there (ap is_there reads)
peer-held policy (Some found) entry reads there = (found, refl, by (peer_of found.stage) reads)
  where
    by : (peer : Option ℕ) → ReadsBy policy found peer (Some entry) → peer ≡ Some entry.channel.peer
    by None now = elim now [ ]
    by (Some peer) now = ap Some (sym (ap (λ (c : Channel). c.peer) now.0.channel_is))

either : (a b : Bool) → (a || b) ≡ true → (a ≡ true) ⊎ (b ≡ true)
either true b is = inl refl
either false b is = inr is

both_first : (a b : Bool) → (a && b) ≡ true → a ≡ true
both_first true b is = refl
both_first false b is = is

both_second : (a b : Bool) → (a && b) ≡ true → b ≡ true
both_second true b is = is
both_second false b is = cc

-- the channel is nobody's, where its own endpoint was never read and the peer's is held by none that is there
pub free-by : (policy : Policy) (entries : List Entry) (held : List Held) (next : ℕ) (channel : Channel) (q : Held → Bool) → Core policy entries held next → read_at channel.own entries ≡ None → list_any q held ≡ false
    → ((h : Held) (entry : Entry) → Reads policy (Some h) (Some entry) → is_there entry.life ≡ true → peer_of h.stage ≡ Some channel.peer → q h ≡ true) → list_any (is_owner channel) entries ≡ false
free-by policy entries held next channel q core unread none passes = by (list_any (is_owner channel) entries) refl
  where
    taken : list_any (is_owner channel) entries ≡ true → ⊥
    taken is =
        let (own, entry, at, owns) = any-found (is_owner channel) entries core.distinct is in
        elim (either (eqb entry.channel.own channel.own) (eqb entry.channel.peer channel.peer && is_there entry.life) owns) [
          | inl same ↦ let gone : None ≡ Some entry = sym unread ∙ (ap (λ n. read_at n entries) (sym (eqb-true entry.channel.own channel.own same) ∙ read-own own entries entry at) ∙ at) in absurd cc
          | inr both ↦
              let there : is_there entry.life ≡ true = both_second (eqb entry.channel.peer channel.peer) (is_there entry.life) both in
              let same : entry.channel.peer ≡ channel.peer = eqb-true entry.channel.peer channel.peer (both_first (eqb entry.channel.peer channel.peer) (is_there entry.life) both) in
              let reads : Reads policy (find (has_own own) held) (Some entry) = subst (Reads policy (find (has_own own) held)) at (core.reads own) in
              let (h, held_is, peer_is) = peer-held policy (find (has_own own) held) entry reads there in
              never (list_any q held) (found_any q own held h held_is (passes h entry (subst (λ f. Reads policy f (Some entry)) held_is reads) there (peer_is ∙ ap Some same))) none
        ]

    by : (t : Bool) → list_any (is_owner channel) entries ≡ t → t ≡ false
    by false is = refl
    by true is = elim (taken is) [ ]

-- the rows of the table in which a channel is granted
granted_row : (a b c d e : Bool) → (let row : ℕ = cond a 2 (cond b 4 (cond c 4 (cond d 6 (cond e 7 0)))) in row ≡ 0) → e ≡ false
granted_row true b c d e is = cc
granted_row false true c d e is = cc
granted_row false false true d e is = cc
granted_row false false false true e is = cc
granted_row false false false false true is = cc
granted_row false false false false false is = refl

le_true : (a b : ℕ) → a ≤ b → nat_le a b ≡ true
le_true a b below = by (nat_le a b) refl
  where
    by : (t : Bool) → nat_le a b ≡ t → t ≡ true
    by true is = refl
    by false is = absurd (omega (arith, below, leb-false a b is))

pub held_others : (held : List Held) (new : Held) (own : ℕ) → eqb new.own own ≡ false → find (has_own own) (held ++ new ∷ []) ≡ find (has_own own) held
held_others held new own apart = find-append own_of own held new ∙ (ap (λ t. option_or (find (has_own own) held) (cond t (Some new) None)) apart ∙ or_none (find (has_own own) held))
  where
    or_none : (found : Option Held) → option_or found None ≡ found
    or_none None = refl
    or_none (Some found) = refl

pub held_here : (held : List Held) (new : Held) → find (has_own new.own) held ≡ None → find (has_own new.own) (held ++ new ∷ []) ≡ Some new
held_here held new none =
    find-append own_of new.own held new
    ∙ (ap (λ o. option_or o (cond (eqb new.own new.own) (Some new) None)) none ∙ ap (λ t. cond t (Some new) None) (eqb-same new.own))

-- what is asked and answered now is a channel
grant-is : (policy : Policy) (r : Reading) (v : Channels) (identifier psm source : ℕ) → IsNew v.memory.connection identifier → Sound policy r v
    → (let wanted : Wanted = record { psm = psm; source = source } in meant (invited r identifier (Some wanted)).requests (Opens Out identifier (OnChannel v.next source 0)) ≡ Makes (channel_by psm v.next source))
grant-is policy r v identifier psm source new sound =
    let wanted : Wanted = record { psm = psm; source = source } in
    let asked : Requests = (invited r identifier (Some wanted)).requests in
    ap (λ t. cond t (made asked Out identifier v.next source) Nothing) (le_true 0x0040 v.next sound.core.start)
    ∙ ap (granted v.next source) (call-new r.requests identifier psm source r.entries v.memory.connection sound.kept.calls new)

entries-granted : (policy : Policy) (entries : List Entry) (held : List Held) (next : ℕ) (psm source : ℕ) → Core policy entries held next → list_any (has_peer source) held ≡ false
    → list_any (is_owner (channel_by psm next source)) entries ≡ false
entries-granted policy entries held next psm source core none =
    free-by policy entries held next (channel_by psm next source) (has_peer source) core (core.read_below next (omega arith)) none (λ h entry reads there at. peers h.stage source source at refl)

invites-granted : (policy : Policy) (r : Reading) (v : Channels) (one : Read) (identifier psm source : ℕ) → (let wanted : Wanted = record { psm = psm; source = source } in Invites one identifier (Some wanted)) → IsNew v.memory.connection identifier
    → list_any (has_peer source) v.held ≡ false → Sound policy r v
    → (let content : Content = connection_response v.next source 0 0 in
    let w : Channels = with_channel psm (Connected source no_setup) (says identifier (Some content) (remembers kinds.Connection identifier (Some content) v)) in
    Sound policy (fold read_on r (exchange one identifier (Some content) ++ asked_between v w)) w)
invites-granted policy r v one identifier psm source invites new none sound =
    let wanted : Wanted = record { psm = psm; source = source } in
    let content : Content = connection_response v.next source 0 0 in
    let w : Channels = with_channel psm (Connected source no_setup) (says identifier (Some content) (remembers kinds.Connection identifier (Some content) v)) in
    let past : Reading = invited r identifier (Some wanted) in
    let channel : Channel = channel_by psm v.next source in
    let held : Held = record { psm = psm; own = v.next; stage = Connected source no_setup } in
    let unread : read_at v.next r.entries ≡ None = sound.core.read_below v.next (omega arith) in
    let free : list_any (is_owner channel) r.entries ≡ false = entries-granted policy r.entries v.held v.next psm source sound.core none in
    let comes : Comes policy r.entries v.held w.held v.next w.next held source = record {
      stage_is = refl;
      unread = unread;
      free = free;
      others = λ own apart. held_others v.held held own apart;
      here = held_here v.held held (sound.core.held_below v.next (omega arith));
      lone = distinct-append own_of v.held held (sound.core.held_below v.next (omega arith));
      below = omega arith;
      high = sound.core.start;
      rises = omega arith;
    } in
    let silent : Memory = record v.memory { connection = Some (record { identifier = identifier; response = None }) } in
    let kept = kept-fresh policy past.requests r.entries v.held w.held v.next w.next silent held source comes (invited-kept r identifier (Some wanted) v.held v.memory silent sound.kept refl refl refl refl (refl, tt)) in
    let is : entries_after r.entries (meant past.requests (Opens Out identifier (OnChannel v.next source 0))) ≡ r.entries ++ fresh channel ∷ [] =
    ap (entries_after r.entries) (grant-is policy r v identifier psm source new sound) ∙ (makes-fresh channel r.entries ∙ ap (λ t. cond t r.entries (r.entries ++ fresh channel ∷ [])) free) in
    let there : read_at v.next (r.entries ++ fresh channel ∷ []) ≡ Some (fresh channel) = fresh-here r.entries channel unread in
    subst (λ rest. Sound policy (fold read_on r (exchange one identifier (Some content) ++ rest)) w) (sym (asked-none v w refl))
    (subst (λ before. Sound policy (read_on before (spoken (command_with identifier content))) w) (sym (invites r))
    (record {
      core = subst (λ es. Core policy es w.held w.next) (sym is) (core-fresh policy r.entries v.held w.held v.next w.next held source comes sound.core);
      kept = subst (λ es. Kept past.requests es w.held w.memory) (sym is) (record {
        calls = (refl, λ granted. subst IsSome (sym there) tt);
        queries = kept.queries;
        ends = kept.ends;
        echoes = kept.echoes;
        outgoing = kept.outgoing;
        informations = kept.informations;
        wants = kept.wants;
      });
      uncalled = λ own above. sound.uncalled own (omega (arith, above));
    }))

-- ---- a request for a channel

invites-new : (policy : Policy) (r : Reading) (v : Channels) (one : Read) (identifier psm source answer : ℕ) → (let wanted : Wanted = record { psm = psm; source = source } in Invites one identifier (Some wanted)) → IsNew v.memory.connection identifier
    → connection_result policy psm source v ≡ answer → Sound policy r v → (granted_now : Bool) → eqb answer 0 ≡ granted_now
    → (let content : Content = connection_answer answer source v in
    let w : Channels = follows_connection answer psm source (says identifier (Some content) (remembers kinds.Connection identifier (Some content) v)) in
    Sound policy (fold read_on r (exchange one identifier (Some content) ++ asked_between v w)) w)
invites-new policy r v one identifier psm source answer invites new is sound true at =
    let zero_is : answer ≡ 0 = eqb-true answer 0 at in
    subst (λ n. let content : Content = connection_answer n source v in
    let w : Channels = follows_connection n psm source (says identifier (Some content) (remembers kinds.Connection identifier (Some content) v)) in
    Sound policy (fold read_on r (exchange one identifier (Some content) ++ asked_between v w)) w) (sym zero_is)
    (invites-granted policy r v one identifier psm source invites new
    (granted_row (not (policy.offers psm)) (nat_le 4 (length v.held)) (nat_lt 0xFFFF v.next) (nat_lt source 0x0040) (list_any (has_peer source) v.held) (is ∙ zero_is)) sound)
invites-new policy r v one identifier psm source answer invites new is sound false at =
    let content : Content = connection_answer answer source v in
    subst (λ t. let before : Channels = says identifier (Some content) (remembers kinds.Connection identifier (Some content) v) in
    let w : Channels = cond t (with_channel psm (Connected source no_setup) before) before in
    Sound policy (fold read_on r (exchange one identifier (Some content) ++ asked_between v w)) w) (sym at)
    (invites-refused policy r v one identifier _ content invites (λ entries granted. never (eqb answer 0) (ap (λ n. eqb n 0) granted) at) sound)

pub hears-inviting : (policy : Policy) (r : Reading) (v : Channels) (one : Read) (identifier psm source : ℕ) → (let wanted : Wanted = record { psm = psm; source = source } in Invites one identifier (Some wanted)) → Sound policy r v
    → (let fresh : Option Content = Some (connection_answer (connection_result policy psm source v) source v) in
    let w : Channels = hears_kind v.memory.connection kinds.Connection identifier fresh (λ u. follows_connection (connection_result policy psm source u) psm source u) v in
    Sound policy (fold read_on r (exchanged one (command_if identifier (response_by v.memory.connection identifier fresh)) v ++ asked_between v w)) w)
hears-inviting policy r v one identifier psm source invites sound =
    question-by policy r v kinds.Connection one identifier (Some (connection_answer (connection_result policy psm source v) source v)) (λ u. follows_connection (connection_result policy psm source u) psm source u) v.memory.connection
    (λ l at same. invites-again policy r v one identifier _ invites l at same sound)
    (λ new. invites-new policy r v one identifier psm source (connection_result policy psm source v) invites new refl sound (eqb (connection_result policy psm source v) 0) refl)
    sound

-- one that cannot be read
pub hears-inviting_unread : (policy : Policy) (r : Reading) (v : Channels) (one : Read) (identifier : ℕ) (reason : ℕ) (rest : List ℕ) → Invites one identifier None → Sound policy r v
    → (let fresh : Option Content = Some (reject reason rest) in
    let w : Channels = hears_kind v.memory.connection kinds.Connection identifier fresh (λ u. u) v in
    Sound policy (fold read_on r (exchanged one (command_if identifier (response_by v.memory.connection identifier fresh)) v ++ asked_between v w)) w)
hears-inviting_unread policy r v one identifier reason rest invites sound =
    question-by policy r v kinds.Connection one identifier (Some (reject reason rest)) (λ u. u) v.memory.connection
    (λ l at same. invites-again policy r v one identifier None invites l at same sound)
    (λ new. invites-refused policy r v one identifier None (reject reason rest) invites (λ entries. tt) sound)
    sound
