-- What one meaning more does to what always holds.
use Rattle.std.proofs.Common.{◌≡◌, ℕ, ◌<◌, ◌≤◌, List, Bool, true, false, eqb, Option, Some, None, refl, sym, ap, subst, ◌∙◌, arith}
use Rattle.std.specs.Prelude.{find, filter, option_map}
use Rattle.std.proofs.lemmas.Bool.{eqb-true}
use Rattle.talk_laws.specs.capture.specs.declared.flow.Flow.TheVariants.{Into}
use Rattle.talk_laws.specs.l2cap_signal.specs.Commands.{Content, reject, connection_request, connection_response, configuration_request, configuration_response, disconnection_request, disconnection_response, echo_request, echo_response, information_request, information_response}
use Rattle.talk_laws.specs.link_talk.specs.declared.call.Call.{Call}
use Rattle.talk_laws.specs.link_talk.specs.Requests.{Requests, Terms, went, answered_query}
use Rattle.talk_laws.specs.link_talk.specs.Meanings.{Meaning, Part}
use Rattle.talk_laws.specs.link_talk.specs.Channels.{word, Entry, entry_after, made_by, entries_after}
use Rattle.channel_model.specs.Value.{Held, Remembered, Memory}
use Rattle.channel_model.specs.Policies.{Policy}
use Rattle.channel_model.specs.Changing.{has_own}
use Rattle.own_channel_laws.specs.Views.{read_at}
use Rattle.channel_model.proofs.Lookups.{own_of, Distinct}
use Rattle.own_channel_laws.proofs.Entries.{read-after, gone-stays, distinct-after}
use Rattle.own_channel_laws.proofs.Sound.{Reads, Core, IsSome, IsKnown, CallsKept, IsAway, IsEnded, EndsKept, Repeats, part_of, RepeatsOf, IsRepeated, QueriesKept, Wants, Kept, at_each, moved, apart-after, IsPlaced, Outgoing, placed-read}

false_if : (b : Bool) → (b ≡ true → ⊥) → b ≡ false
false_if true never = absurd (never refl)
false_if false never = refl

pub less-apart : (a b : ℕ) → a < b → eqb a b ≡ false
less-apart a b below = false_if (eqb a b) (λ same. omega (arith, eqb-true a b same, below))

pub more-apart : (a b : ℕ) → b < a → eqb a b ≡ false
more-apart a b above = false_if (eqb a b) (λ same. omega (arith, eqb-true a b same, above))

-- ---- channels

pub core-one : (policy : Policy) (entries : List Entry) (held held' : List Held) (next : ℕ) (more : Meaning) (here : ℕ) → made_by more ≡ None → here < next → 0x0040 ≤ here → Core policy entries held next
    → ((own : ℕ) → eqb here own ≡ false → find (has_own own) held' ≡ find (has_own own) held) → ((own : ℕ) → eqb here own ≡ false → moved more own entries ≡ read_at own entries)
    → Distinct own_of held' → Reads policy (find (has_own here) held') (moved more here entries) → Core policy (entries_after entries more) held' next
core-one policy entries held held' next more here none below high core held_others read_others lone now = record {
  reads = λ own. subst (Reads policy (find (has_own own) held')) (sym (read-after more entries own none))
      (at_each (λ n. Reads policy (find (has_own n) held) (read_at n entries)) (λ n. Reads policy (find (has_own n) held') (moved more n entries)) here
      (λ n apart reads. subst (Reads policy (find (has_own n) held')) (sym (read_others n apart)) (subst (λ h. Reads policy h (read_at n entries)) (sym (held_others n apart)) reads)) now core.reads own);
  held_below = λ own above. held_others own (less-apart here own (omega (arith, below, above))) ∙ core.held_below own above;
  read_below = λ own above. read-after more entries own none ∙ ap (option_map (entry_after more)) (core.read_below own above);
  held_low = λ own low. held_others own (more-apart here own (omega (arith, high, low))) ∙ core.held_low own low;
  read_low = λ own low. read-after more entries own none ∙ ap (option_map (entry_after more)) (core.read_low own low);
  start = core.start;
  apart = apart-after more entries none core.apart;
  distinct = distinct-after more entries none core.distinct;
  lone = lone;
}

-- ---- what is remembered

-- a channel that was read is still read
abbrev pub Lasts : List Entry → List Entry → Type 0
Lasts entries entries' = (own : ℕ) → IsSome (read_at own entries) → IsSome (read_at own entries')

-- and one that has ended for its host still has
abbrev pub StaysAway : List Entry → List Entry → Type 0
StaysAway entries entries' = (own : ℕ) → IsAway (read_at own entries) → IsAway (read_at own entries')

known-on : (entries entries' : List Entry) → Lasts entries entries' → (content : Option Content) → IsKnown entries content → IsKnown entries' content
known-on entries entries' lasts None known = tt
known-on entries entries' lasts (Some (connection_response destination source answer status)) known = λ granted. lasts destination (known granted)
known-on entries entries' lasts (Some (reject reason rest)) known = tt
known-on entries entries' lasts (Some (connection_request psm source)) known = known
known-on entries entries' lasts (Some (configuration_request destination flags options)) known = known
known-on entries entries' lasts (Some (configuration_response source flags answer options)) known = known
known-on entries entries' lasts (Some (disconnection_request destination source)) known = known
known-on entries entries' lasts (Some (disconnection_response destination source)) known = known
known-on entries entries' lasts (Some (echo_request octets)) known = known
known-on entries entries' lasts (Some (echo_response octets)) known = known
known-on entries entries' lasts (Some (information_request kind)) known = known
known-on entries entries' lasts (Some (information_response kind answer rest)) known = known

pub calls-on : (calls : List Call) (entries entries' : List Entry) → Lasts entries entries' → (last : Option Remembered) → CallsKept calls entries last → CallsKept calls entries' last
calls-on calls entries entries' lasts None kept = kept
calls-on calls entries entries' lasts (Some last) kept = (kept.0, known-on entries entries' lasts last.response kept.1)

ended-on : (entries entries' : List Entry) → StaysAway entries entries' → (content : Option Content) → IsEnded entries content → IsEnded entries' content
ended-on entries entries' away None ended = tt
ended-on entries entries' away (Some (disconnection_response destination source)) ended = away destination ended
ended-on entries entries' away (Some (reject reason rest)) ended = tt
ended-on entries entries' away (Some (connection_request psm source)) ended = ended
ended-on entries entries' away (Some (connection_response destination source answer status)) ended = ended
ended-on entries entries' away (Some (configuration_request destination flags options)) ended = ended
ended-on entries entries' away (Some (configuration_response source flags answer options)) ended = ended
ended-on entries entries' away (Some (disconnection_request destination source)) ended = ended
ended-on entries entries' away (Some (echo_request octets)) ended = ended
ended-on entries entries' away (Some (echo_response octets)) ended = ended
ended-on entries entries' away (Some (information_request kind)) ended = ended
ended-on entries entries' away (Some (information_response kind answer rest)) ended = ended

pub ends-on : (entries entries' : List Entry) → StaysAway entries entries' → (last : Option Remembered) → EndsKept entries last → EndsKept entries' last
ends-on entries entries' away None kept = kept
ends-on entries entries' away (Some last) kept = ended-on entries entries' away last.response kept

-- what is said again goes on to change nothing
abbrev pub RepeatsOn : List Held → List Entry → List Held → List Entry → Type 0
RepeatsOn held entries held' entries' = (own : ℕ) (part : Part) → Repeats (find (has_own own) held) (read_at own entries) part → Repeats (find (has_own own) held') (read_at own entries') part

of-terms : (held : List Held) (entries : List Entry) (held' : List Held) (entries' : List Entry) → RepeatsOn held entries held' entries' → (terms : Option Terms) (peer flags answer : ℕ)
    → RepeatsOf held entries terms peer flags answer → RepeatsOf held' entries' terms peer flags answer
of-terms held entries held' entries' on None peer flags answer repeats = tt
of-terms held entries held' entries' on (Some terms) peer flags answer repeats = on terms.own (part_of terms peer flags answer) repeats

repeated-on : (held : List Held) (entries : List Entry) (held' : List Held) (entries' : List Entry) → RepeatsOn held entries held' entries' → (terms : Option Terms) (content : Option Content)
    → IsRepeated terms held entries content → IsRepeated terms held' entries' content
repeated-on held entries held' entries' on terms None repeated = tt
repeated-on held entries held' entries' on terms (Some (configuration_response peer flags answer options)) repeated = of-terms held entries held' entries' on terms peer flags answer repeated
repeated-on held entries held' entries' on terms (Some (reject reason rest)) repeated = tt
repeated-on held entries held' entries' on terms (Some (connection_request psm source)) repeated = repeated
repeated-on held entries held' entries' on terms (Some (connection_response destination source answer status)) repeated = repeated
repeated-on held entries held' entries' on terms (Some (configuration_request destination flags options)) repeated = repeated
repeated-on held entries held' entries' on terms (Some (disconnection_request destination source)) repeated = repeated
repeated-on held entries held' entries' on terms (Some (disconnection_response destination source)) repeated = repeated
repeated-on held entries held' entries' on terms (Some (echo_request octets)) repeated = repeated
repeated-on held entries held' entries' on terms (Some (echo_response octets)) repeated = repeated
repeated-on held entries held' entries' on terms (Some (information_request kind)) repeated = repeated
repeated-on held entries held' entries' on terms (Some (information_response kind answer rest)) repeated = repeated

pub queries-on : (asked : Requests) (held : List Held) (entries : List Entry) (held' : List Held) (entries' : List Entry) → RepeatsOn held entries held' entries' → (last : Option Remembered)
    → QueriesKept asked held entries last → QueriesKept asked held' entries' last
queries-on asked held entries held' entries' on None kept = kept
queries-on asked held entries held' entries' on (Some last) kept = (kept.0, repeated-on held entries held' entries' on (answered_query asked last.identifier) last.response kept.1)

-- ---- one channel goes on

some-after : (more : Meaning) (found : Option Entry) → IsSome found → IsSome (option_map (entry_after more) found)
some-after more None is = is
some-after more (Some entry) is = tt

away-after : (more : Meaning) (found : Option Entry) → IsAway found → IsAway (option_map (entry_after more) found)
away-after more None is = is
away-after more (Some entry) is = gone-stays entry.life (word entry.channel more) is

pub lasts-after : (more : Meaning) (entries : List Entry) → made_by more ≡ None → Lasts entries (entries_after entries more)
lasts-after more entries none own is = subst IsSome (sym (read-after more entries own none)) (some-after more (read_at own entries) is)

pub away-stays : (more : Meaning) (entries : List Entry) → made_by more ≡ None → StaysAway entries (entries_after entries more)
away-stays more entries none own is = subst IsAway (sym (read-after more entries own none)) (away-after more (read_at own entries) is)

placed_moved : (more : Meaning) (held : Option Held) (found : Option Entry) → IsPlaced held found → IsPlaced held (option_map (entry_after more) found)
placed_moved more held None placed = placed
placed_moved more held (Some entry) placed = placed-read held (entry_after more entry)

-- what was asked for still comes to something
pub outgoing-after : (asked : Requests) (entries : List Entry) (held held' : List Held) (more : Meaning) (here : ℕ) → made_by more ≡ None → ((own : ℕ) → eqb here own ≡ false → find (has_own own) held' ≡ find (has_own own) held)
    → IsPlaced (find (has_own here) held') (read_at here (entries_after entries more)) → Outgoing asked held entries → Outgoing asked held' (entries_after entries more)
outgoing-after asked entries held held' more here none others now outgoing identifier own called hopeful =
    at_each (λ n. Unit {0}) (λ n. IsPlaced (find (has_own n) held) (read_at n entries) → IsPlaced (find (has_own n) held') (read_at n (entries_after entries more))) here
    (λ n apart any is. subst (λ h. IsPlaced h (read_at n (entries_after entries more))) (sym (others n apart)) (subst (IsPlaced (find (has_own n) held)) (sym (read-after more entries n none)) (placed_moved more (find (has_own n) held) (read_at n entries) is)))
    (λ is. now) (λ n. tt) own (outgoing identifier own called hopeful)

pub kept-one : (asked : Requests) (entries : List Entry) (held held' : List Held) (memory : Memory) (more : Meaning) (here : ℕ) → made_by more ≡ None → Kept asked entries held memory
    → ((own : ℕ) → eqb here own ≡ false → find (has_own own) held' ≡ find (has_own own) held) → ((own : ℕ) → eqb here own ≡ false → moved more own entries ≡ read_at own entries)
    → ((part : Part) → Repeats (find (has_own here) held) (read_at here entries) part → Repeats (find (has_own here) held') (moved more here entries) part)
    → Wants asked (find (has_own here) held') → IsPlaced (find (has_own here) held') (moved more here entries) → Kept asked (entries_after entries more) held' memory
kept-one asked entries held held' memory more here none kept held_others read_others repeats wants placed = record {
  calls = calls-on (filter (went Into) asked.calls) entries (entries_after entries more) (lasts-after more entries none) memory.connection kept.calls;
  queries = queries-on asked held entries held' (entries_after entries more)
      (λ own part. at_each (λ n. Unit {0}) (λ n. Repeats (find (has_own n) held) (read_at n entries) part → Repeats (find (has_own n) held') (read_at n (entries_after entries more)) part) here
      (λ n apart any is. subst (λ e. Repeats (find (has_own n) held') e part) (sym (read-after more entries n none ∙ read_others n apart)) (subst (λ h. Repeats h (read_at n entries) part) (sym (held_others n apart)) is))
      (λ is. subst (λ e. Repeats (find (has_own here) held') e part) (sym (read-after more entries here none)) (repeats part is))
      (λ n. tt) own)
      memory.configuration kept.queries;
  ends = ends-on entries (entries_after entries more) (away-stays more entries none) memory.disconnection kept.ends;
  echoes = kept.echoes;
  outgoing = outgoing-after asked entries held held' more here none held_others (subst (IsPlaced (find (has_own here) held')) (sym (read-after more entries here none)) placed) kept.outgoing;
  informations = kept.informations;
  wants = at_each (λ n. Wants asked (find (has_own n) held)) (λ n. Wants asked (find (has_own n) held')) here (λ n apart is. subst (Wants asked) (sym (held_others n apart)) is) wants kept.wants;
}
