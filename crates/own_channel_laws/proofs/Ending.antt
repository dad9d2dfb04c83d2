-- The end of a channel: what is said of it, and what is held then.
use Rattle.std.proofs.Common.{◌≡◌, ℕ, List, ◌++◌, fold, Bool, true, false, cond, ◌&&◌, eqb, not, Option, Some, None, refl, sym, ap, subst, ◌∙◌}
use Rattle.std.specs.Prelude.{find, filter, option_map}
use Rattle.std.proofs.lemmas.Bool.{eqb-true}
use Rattle.talk_laws.specs.l2cap_signal.specs.Commands.{Content, reject, connection_request, connection_response, configuration_request, configuration_response, disconnection_request, disconnection_response, echo_request, echo_response, information_request, information_response}
use Rattle.talk_laws.specs.l2cap_signal.specs.Reading.{Answer as Read}
use Rattle.talk_laws.specs.link_talk.specs.Requests.{Requests, requests_after}
use Rattle.talk_laws.specs.link_talk.specs.declared.life.Life.{Life}
use Rattle.talk_laws.specs.link_talk.specs.declared.life.Life.TheVariants as lives
use Rattle.talk_laws.specs.link_talk.specs.declared.word.Word.{Word}
use Rattle.talk_laws.specs.link_talk.specs.declared.word.Word.TheVariants.{AnswersEnd}
use Rattle.talk_laws.specs.link_talk.specs.Sayings.{Saying}
use Rattle.talk_laws.specs.link_talk.specs.Senses.{Ends, sense}
use Rattle.talk_laws.specs.link_talk.specs.Meanings.{Meaning, Parts, meant}
use Rattle.talk_laws.specs.link_talk.specs.Setups as read
use Rattle.talk_laws.specs.link_talk.specs.Channels.{life_after, is_there, word, Entry, entry_after, made_by, entries_after, Reading, read_on}
use Rattle.channel_model.specs.declared.request_kind.RequestKind.TheVariants as kinds
use Rattle.channel_model.specs.declared.event.CloseReason.{CloseReason}
use Rattle.channel_model.specs.Value.{Stage, Requested, Connected, Leaving, Closing, Crossed, Held, Remembered, Memory, Channels}
use Rattle.channel_model.specs.Policies.{Policy}
use Rattle.channel_model.specs.Changing.{has_own, held_at, is_peer, to_stage}
use Rattle.channel_model.specs.Closing.{peer_closes_at, ends_at}
use Rattle.channel_model.specs.Answers.{disconnection_by, disconnection_answer, no_such_channel}
use Rattle.channel_model.specs.Following.{remembers, says, hears_kind, follows_disconnection}
use Rattle.own_channel_laws.specs.OwnTalk.{spoken, command_with, response_by, command_if, exchanged, asked_between}
use Rattle.own_channel_laws.specs.Views.{peer_of, life_of, standing, read_at}
use Rattle.channel_model.proofs.Lookups.{own_of, Distinct, distinct-filter, placed-distinct, find-gone, find-others, found-placed, find-placed, found-has, eqb-same}
use Rattle.own_channel_laws.proofs.Entries.{entry-is, either_same, read-after, distinct-after}
use Rattle.own_channel_laws.proofs.Sound.{Reads, Core, IsAway, IsEnded, EndsKept, CallsKept, QueriesKept, IsHarmless, HarmlessKept, Repeats, Kept, Sound, moved, at_each, apart-after, IsPlaced, Uncalled}
use Rattle.own_channel_laws.proofs.Steps.{calls-on, ends-on, queries-on, lasts-after, away-stays}
use Rattle.own_channel_laws.proofs.Moves.{quiet, Passes, passed, SetupsTo, parts-step, parts-others, PartsTo, Found, found-there}
use Rattle.own_channel_laws.proofs.Questions.{heard, exchange, asked-none, question-by, harmless-said}

-- ---- one channel goes on

-- all others stay as they are
pub record Leads (v w : Channels) (held : Held) (peer : ℕ) (said : Word) : Type 0 where
  pub others : (own : ℕ) → eqb held.own own ≡ false → find (has_own own) w.held ≡ find (has_own own) v.held
  pub to : PartsTo held peer said (find (has_own held.own) w.held)
  pub lone : Distinct own_of v.held → Distinct own_of w.held
  pub next_is : w.next ≡ v.next
  pub memory_is : w.memory ≡ v.memory

pub leads-on : (policy : Policy) (asked : Requests) (entries : List Entry) (v w : Channels) (memory : Memory) (held : Held) (peer : ℕ) (said : Word) → find (has_own held.own) v.held ≡ Some held → peer_of held.stage ≡ Some peer
    → Leads v w held peer said → Core policy entries v.held v.next → Kept asked entries v.held memory
    → Core policy (entries_after entries (Parts said held.own peer)) w.held w.next × Kept asked (entries_after entries (Parts said held.own peer)) w.held memory
leads-on policy asked entries v w memory held peer said is at leads core kept =
    subst (λ n. Core policy (entries_after entries (Parts said held.own peer)) w.held n × Kept asked (entries_after entries (Parts said held.own peer)) w.held memory) (sym leads.next_is)
    (parts-step policy asked entries v.held w.held v.next memory said held peer is at core kept leads.others (leads.lone core.lone) leads.to)

-- the same where it is said
pub leads-said : (policy : Policy) (r : Reading) (v w : Channels) (held : Held) (peer : ℕ) (said : Word) (saying : Saying) → sense saying ≡ Ends said held.own peer → find (has_own held.own) v.held ≡ Some held → peer_of held.stage ≡ Some peer
    → Leads v w held peer said → Sound policy r v → Sound policy (read_on r saying) w
leads-said policy r v w held peer said saying is at peer_is leads sound =
    let on = leads-on policy r.requests r.entries v w v.memory held peer said at peer_is leads sound.core sound.kept in
    subst (λ q. let after : Reading = record { requests = requests_after r.requests q; entries = entries_after r.entries (meant r.requests q) } in Sound policy after w) (sym is)
    (record { core = on.0; kept = subst (λ m. Kept r.requests (entries_after r.entries (Parts said held.own peer)) w.held m) (sym leads.memory_is) on.1; uncalled = subst (Uncalled r.requests) (sym leads.next_is) sound.uncalled })

-- ---- the peer's request is answered

pub to-stage : (v : Channels) (held : Held) (peer : ℕ) (said : Word) (stage : Stage) → find (has_own held.own) v.held ≡ Some held → PartsTo held peer said (let after : Held = record held { stage = stage } in Some after) → Leads v (to_stage held stage v) held peer said
to-stage v held peer said stage is to =
    let after : Held = record held { stage = stage } in
    record {
      others = λ own apart. find-placed after v.held own apart;
      to = subst (PartsTo held peer said) (sym (found-placed after held v.held is)) to;
      lone = placed-distinct after v.held;
      next_is = refl;
      memory_is = refl;
    }

is-gone : (v w : Channels) (held : Held) (peer : ℕ) (said : Word) → w.held ≡ filter (λ other. not (eqb other.own held.own)) v.held → w.next ≡ v.next → w.memory ≡ v.memory → life_after (life_of held.stage) (Some said) ≡ lives.Over → Leads v w held peer said
is-gone v w held peer said held_is next_is memory_is over = record {
  others = λ own apart. ap (find (has_own own)) held_is ∙ find-others own_of held.own own v.held apart;
  to = subst (PartsTo held peer said) (sym (ap (find (has_own held.own)) held_is ∙ find-gone own_of held.own v.held)) over;
  lone = λ distinct. subst (Distinct own_of) (sym held_is) (distinct-filter own_of (λ other. not (eqb other.own held.own)) v.held distinct);
  next_is = next_is;
  memory_is = memory_is;
}

stays-held : (v : Channels) (held : Held) (peer : ℕ) (said : Word) → find (has_own held.own) v.held ≡ Some held → PartsTo held peer said (Some held) → Leads v v held peer said
stays-held v held peer said is to = record { others = λ own apart. refl; to = subst (PartsTo held peer said) (sym is) to; lone = λ distinct. distinct; next_is = refl; memory_is = refl }

peer-closes-leads : (v : Channels) (held : Held) (peer : ℕ) (stage : Stage) → held.stage ≡ stage → peer_of stage ≡ Some peer → find (has_own held.own) v.held ≡ Some held → Leads v (peer_closes_at stage held v) held peer AnswersEnd
peer-closes-leads v held peer (Requested request) is at found = cc
peer-closes-leads v held peer (Connected own_peer setup) is at found = is-gone v (peer_closes_at (Connected own_peer setup) held v) held peer AnswersEnd refl refl refl (ap (λ s. life_after (life_of s) (Some AnswersEnd)) is)
peer-closes-leads v held peer (Leaving own_peer setup request) is at found =
    let leads = to-stage v held peer AnswersEnd (Crossed own_peer request) found (refl, refl, at, sym (ap (λ s. life_after (life_of s) (Some AnswersEnd)) is), tt) in
    record { others = leads.others; to = leads.to; lone = leads.lone; next_is = refl; memory_is = refl }
peer-closes-leads v held peer (Closing own_peer request checked) is at found =
    to-stage v held peer AnswersEnd (Crossed own_peer request) found (refl, refl, at, sym (ap (λ s. life_after (life_of s) (Some AnswersEnd)) is), tt)
peer-closes-leads v held peer (Crossed own_peer request) is at found =
    stays-held v held peer AnswersEnd found
    (refl, refl, ap peer_of is ∙ at, ap life_of is ∙ sym (ap (λ s. life_after (life_of s) (Some AnswersEnd)) is), subst (λ s. SetupsTo (standing s) (standing s)) (sym is) tt)

-- ---- an own request is done with

pub ends-leads : (v : Channels) (held : Held) (peer : ℕ) (reason : CloseReason) (said : Word) (stage : Stage) → held.stage ≡ stage → peer_of stage ≡ Some peer → find (has_own held.own) v.held ≡ Some held
    → life_after lives.Leaving (Some said) ≡ lives.Over → life_after lives.Crossed (Some said) ≡ lives.Over → life_after lives.Alive (Some said) ≡ lives.Alive → Leads v (ends_at stage reason held v) held peer said
ends-leads v held peer reason said (Requested request) is at found leaving crossed alive = cc
ends-leads v held peer reason said (Connected own_peer setup) is at found leaving crossed alive =
    stays-held v held peer said found
    (refl, refl, ap peer_of is ∙ at, ap life_of is ∙ sym (ap (λ s. life_after (life_of s) (Some said)) is ∙ alive), subst (λ s. SetupsTo (standing s) (standing s)) (sym is) refl)
ends-leads v held peer reason said (Leaving own_peer setup request) is at found leaving crossed alive =
    is-gone v (ends_at (Leaving own_peer setup request) reason held v) held peer said refl refl refl (ap (λ s. life_after (life_of s) (Some said)) is ∙ leaving)
ends-leads v held peer reason said (Closing own_peer request checked) is at found leaving crossed alive =
    is-gone v (ends_at (Closing own_peer request checked) reason held v) held peer said refl refl refl (ap (λ s. life_after (life_of s) (Some said)) is ∙ leaving)
ends-leads v held peer reason said (Crossed own_peer request) is at found leaving crossed alive =
    is-gone v (ends_at (Crossed own_peer request) reason held v) held peer said refl refl refl (ap (λ s. life_after (life_of s) (Some said)) is ∙ crossed)

-- ---- nothing goes on

pub same-reads : (policy : Policy) (asked : Requests) (entries : List Entry) (held : List Held) (next : ℕ) (memory : Memory) (more : Meaning) → made_by more ≡ None → ((n : ℕ) → moved more n entries ≡ read_at n entries)
    → Core policy entries held next → Kept asked entries held memory → Core policy (entries_after entries more) held next × Kept asked (entries_after entries more) held memory
same-reads policy asked entries held next memory more none same core kept = (
  record {
    reads = λ own. subst (Reads policy (find (has_own own) held)) (sym (read-after more entries own none ∙ same own)) (core.reads own);
    held_below = core.held_below;
    read_below = λ own above. read-after more entries own none ∙ (same own ∙ core.read_below own above);
    held_low = core.held_low;
    read_low = λ own low. read-after more entries own none ∙ (same own ∙ core.read_low own low);
    start = core.start;
    apart = apart-after more entries none core.apart;
    distinct = distinct-after more entries none core.distinct;
    lone = core.lone;
  },
  record {
    calls = calls-on _ entries (entries_after entries more) (lasts-after more entries none) memory.connection kept.calls;
    queries = queries-on asked held entries held (entries_after entries more) (λ own part is. subst (λ e. Repeats (find (has_own own) held) e part) (sym (read-after more entries own none ∙ same own)) is) memory.configuration kept.queries;
    ends = ends-on entries (entries_after entries more) (away-stays more entries none) memory.disconnection kept.ends;
    echoes = kept.echoes;
    outgoing = λ identifier own called hopeful. subst (IsPlaced (find (has_own own) held)) (sym (read-after more entries own none ∙ same own)) (kept.outgoing identifier own called hopeful);
    informations = kept.informations;
    wants = kept.wants;
  },
)

away-same : (life : Life) → is_there life ≡ false → life_after life (Some AnswersEnd) ≡ life
away-same lives.Alive is = cc
away-same lives.Leaving is = cc
away-same lives.Crossed is = refl
away-same lives.Over is = refl

away-entry : (own peer : ℕ) (found : Option Entry) → IsAway found → option_map (entry_after (Parts AnswersEnd own peer)) found ≡ found
away-entry own peer None away = elim away [ ]
away-entry own peer (Some entry) away = ap Some (by (eqb own entry.channel.own && eqb peer entry.channel.peer))
  where
    setups : cond (is_there entry.life) (read.setup_after entry.setup None) entry.setup ≡ entry.setup
    setups = either_same (is_there entry.life) (read.setup_after entry.setup None) entry.setup refl

    by : (names : Bool) → (let e : Entry = record { channel = entry.channel; life = life_after entry.life (cond names (Some AnswersEnd) None); setup = cond (is_there entry.life) (read.setup_after entry.setup None) entry.setup } in e ≡ entry)
    by true = entry-is entry (life_after entry.life (Some AnswersEnd)) (cond (is_there entry.life) (read.setup_after entry.setup None) entry.setup) (away-same entry.life away) setups
    by false = entry-is entry (life_after entry.life None) (cond (is_there entry.life) (read.setup_after entry.setup None) entry.setup) refl setups

away-all : (own peer : ℕ) (entries : List Entry) → IsAway (read_at own entries) → (n : ℕ) → moved (Parts AnswersEnd own peer) n entries ≡ read_at n entries
away-all own peer entries away n = at_each (λ m. Unit {0}) (λ m. moved (Parts AnswersEnd own peer) m entries ≡ read_at m entries) own (λ m apart any. parts-others AnswersEnd own peer entries m apart) (away-entry own peer (read_at own entries) away) (λ m. tt) n

-- what was answered is answered again
ended-again : (policy : Policy) (r : Reading) (v : Channels) (identifier : ℕ) (content : Content) → IsEnded r.entries (Some content) → Sound policy r v → Sound policy (read_on r (spoken (command_with identifier content))) v
ended-again policy r v identifier (disconnection_response own peer) ended sound =
    let same = same-reads policy r.requests r.entries v.held v.next v.memory (Parts AnswersEnd own peer) refl (away-all own peer r.entries ended) sound.core sound.kept in
    record { core = same.0; kept = same.1; uncalled = sound.uncalled }
ended-again policy r v identifier (reject reason rest) ended sound = quiet policy r v (spoken (command_with identifier (reject reason rest))) refl sound
ended-again policy r v identifier (connection_request psm source) ended sound = elim ended [ ]
ended-again policy r v identifier (connection_response destination source answer status) ended sound = elim ended [ ]
ended-again policy r v identifier (configuration_request destination flags options) ended sound = elim ended [ ]
ended-again policy r v identifier (configuration_response source flags answer options) ended sound = elim ended [ ]
ended-again policy r v identifier (disconnection_request destination source) ended sound = elim ended [ ]
ended-again policy r v identifier (echo_request octets) ended sound = elim ended [ ]
ended-again policy r v identifier (echo_response octets) ended sound = elim ended [ ]
ended-again policy r v identifier (information_request kind) ended sound = elim ended [ ]
ended-again policy r v identifier (information_response kind answer rest) ended sound = elim ended [ ]

pub ended-said : (policy : Policy) (r : Reading) (v : Channels) (one : Read) (identifier : ℕ) (response : Option Content) → Passes (heard one) → ((entries : List Entry) → entries ≡ r.entries → IsEnded entries response) → Sound policy r v
    → Sound policy (fold read_on r (exchange one identifier response)) v
ended-said policy r v one identifier None is ended sound = passed policy r v (heard one) is sound
ended-said policy r v one identifier (Some content) is ended sound =
    let now = passed policy r v (heard one) is sound in
    ended-again policy (read_on r (heard one)) v identifier content (ended (read_on r (heard one)).entries (ap (λ (x : Reading). x.entries) (is r))) now

-- ---- the peer asks for the end

says-held : (identifier : ℕ) (response : Option Content) (v : Channels) → (says identifier response v).held ≡ v.held
says-held identifier None v = refl
says-held identifier (Some content) v = refl

eqb-turned : (a b : ℕ) (same : Bool) → eqb a b ≡ same → eqb b a ≡ same
eqb-turned a b true is = ap (eqb b) (eqb-true a b is) ∙ eqb-same b
eqb-turned a b false is = by (eqb b a) refl
  where
    by : (t : Bool) → eqb b a ≡ t → t ≡ false
    by false now = refl
    by true now = let never : true ≡ false = sym (eqb-same a) ∙ (ap (eqb a) (sym (eqb-true b a now)) ∙ is) in absurd cc

with-memory : (policy : Policy) (asked : Requests) (entries : List Entry) (held : List Held) (memory memory' : Memory) → Kept asked entries held memory → memory'.connection ≡ memory.connection → memory'.configuration ≡ memory.configuration
    → memory'.echo ≡ memory.echo → memory'.information ≡ memory.information → EndsKept entries memory'.disconnection → Kept asked entries held memory'
with-memory policy asked entries held memory memory' kept connection configuration echo information ends = record {
  calls = subst (CallsKept _ entries) (sym connection) kept.calls;
  queries = subst (QueriesKept asked held entries) (sym configuration) kept.queries;
  ends = ends;
  echoes = subst HarmlessKept (sym echo) kept.echoes;
  outgoing = kept.outgoing;
  informations = subst HarmlessKept (sym information) kept.informations;
  wants = kept.wants;
}

-- nothing is answered that is anything for channels, and nothing follows
rejected : (policy : Policy) (r : Reading) (v : Channels) (one : Read) (identifier : ℕ) (response : Option Content) → Passes (heard one) → IsHarmless response → ((entries : List Entry) → IsEnded entries response) → Sound policy r v
    → (let w : Channels = says identifier response (remembers kinds.Disconnection identifier response v) in Sound policy (fold read_on r (exchange one identifier response ++ asked_between v w)) w)
rejected policy r v one identifier None is harmless ended sound =
    let w : Channels = remembers kinds.Disconnection identifier None v in
    subst (λ rest. Sound policy (fold read_on r (exchange one identifier None ++ rest)) w) (sym (asked-none v w refl))
    (harmless-said policy r w one identifier None is tt (record { core = sound.core; kept = with-memory policy r.requests r.entries v.held v.memory w.memory sound.kept refl refl refl refl tt; uncalled = sound.uncalled }))
rejected policy r v one identifier (Some content) is harmless ended sound =
    let w : Channels = says identifier (Some content) (remembers kinds.Disconnection identifier (Some content) v) in
    subst (λ rest. Sound policy (fold read_on r (exchange one identifier (Some content) ++ rest)) w) (sym (asked-none v w refl))
    (harmless-said policy r w one identifier (Some content) is harmless (record { core = sound.core; kept = with-memory policy r.requests r.entries v.held v.memory w.memory sound.kept refl refl refl refl (ended r.entries); uncalled = sound.uncalled }))

away-now : (life : Life) → is_there (life_after life (Some AnswersEnd)) ≡ false
away-now lives.Alive = refl
away-now lives.Leaving = refl
away-now lives.Crossed = refl
away-now lives.Over = refl

peer-closes-identifier : (stage : Stage) (held : Held) (v : Channels) → (peer_closes_at stage held v).identifier ≡ v.identifier
peer-closes-identifier (Requested request) held v = refl
peer-closes-identifier (Connected peer setup) held v = refl
peer-closes-identifier (Leaving peer setup request) held v = refl
peer-closes-identifier (Closing peer request checked) held v = refl
peer-closes-identifier (Crossed peer request) held v = refl

-- it names both endpoints
bids : (policy : Policy) (r : Reading) (v : Channels) (one : Read) (identifier : ℕ) (held : Held) (peer : ℕ) → Passes (heard one) → find (has_own held.own) v.held ≡ Some held → peer_of held.stage ≡ Some peer → Sound policy r v
    → (let response : Option Content = Some (disconnection_response held.own peer) in
    let w : Channels = peer_closes_at held.stage held (says identifier response (remembers kinds.Disconnection identifier response v)) in
    Sound policy (fold read_on r (exchange one identifier response ++ asked_between v w)) w)
bids policy r v one identifier held peer is at peer_is sound =
    let response : Option Content = Some (disconnection_response held.own peer) in
    let before : Channels = says identifier response (remembers kinds.Disconnection identifier response v) in
    let w : Channels = peer_closes_at held.stage held before in
    let now : Sound policy (read_on r (heard one)) v = passed policy r v (heard one) is sound in
    let past : Reading = read_on r (heard one) in
    let more : Meaning = Parts AnswersEnd held.own peer in
    let leads : Leads before w held peer AnswersEnd = peer-closes-leads before held peer held.stage refl peer_is at in
    let on = leads-on policy past.requests past.entries before w v.memory held peer AnswersEnd at peer_is leads now.core now.kept in
    let found : Found policy held peer (read_at held.own past.entries) = found-there policy past.entries v.held v.next held peer now.core at peer_is in
    let parted : is_there (life_after found.entry.life (word found.entry.channel more)) ≡ false =
    ap (λ (c : _). is_there (life_after found.entry.life (word c more))) found.there.channel_is
    ∙ (ap (λ t. is_there (life_after found.entry.life (cond (t && eqb peer peer) (Some AnswersEnd) None))) (eqb-same held.own)
    ∙ (ap (λ t. is_there (life_after found.entry.life (cond t (Some AnswersEnd) None))) (eqb-same peer) ∙ away-now found.entry.life)) in
    let away : IsAway (read_at held.own (entries_after past.entries more)) = subst IsAway (sym (read-after more past.entries held.own refl ∙ ap (option_map (entry_after more)) found.found_is)) parted in
    subst (λ rest. Sound policy (fold read_on r (exchange one identifier response ++ rest)) w) (sym (asked-none v w (peer-closes-identifier held.stage held before)))
    (record {
      core = on.0;
      kept = subst (λ m. Kept past.requests (entries_after past.entries more) w.held m) (sym leads.memory_is)
          (with-memory policy past.requests (entries_after past.entries more) w.held v.memory before.memory on.1 refl refl refl refl away);
      uncalled = subst (Uncalled past.requests) (sym leads.next_is) now.uncalled;
    })

-- whatever it names
bids-by : (policy : Policy) (r : Reading) (v : Channels) (one : Read) (identifier source : ℕ) (held : Held) (peer : ℕ) (same : Bool) → eqb peer source ≡ same → Passes (heard one) → find (has_own held.own) v.held ≡ Some held → peer_of held.stage ≡ Some peer → Sound policy r v
    → (let response : Option Content = cond same (Some (disconnection_response held.own source)) None in
    let before : Channels = says identifier response (remembers kinds.Disconnection identifier response v) in
    let w : Channels = cond (eqb source peer) (peer_closes_at held.stage held before) before in
    Sound policy (fold read_on r (exchange one identifier response ++ asked_between v w)) w)
bids-by policy r v one identifier source held peer true is quiet_is at peer_is sound =
    let names : peer ≡ source = eqb-true peer source is in
    subst (λ n. let response : Option Content = Some (disconnection_response held.own n) in
    let before : Channels = says identifier response (remembers kinds.Disconnection identifier response v) in
    let w : Channels = cond (eqb n peer) (peer_closes_at held.stage held before) before in
    Sound policy (fold read_on r (exchange one identifier response ++ asked_between v w)) w) names
    (subst (λ t. let response : Option Content = Some (disconnection_response held.own peer) in
    let before : Channels = says identifier response (remembers kinds.Disconnection identifier response v) in
    let w : Channels = cond t (peer_closes_at held.stage held before) before in
    Sound policy (fold read_on r (exchange one identifier response ++ asked_between v w)) w) (sym (eqb-same peer))
    (bids policy r v one identifier held peer quiet_is at peer_is sound))
bids-by policy r v one identifier source held peer false is quiet_is at peer_is sound =
    subst (λ t. let before : Channels = remembers kinds.Disconnection identifier None v in
    let w : Channels = cond t (peer_closes_at held.stage held before) before in
    Sound policy (fold read_on r (exchange one identifier None ++ asked_between v w)) w) (sym (eqb-turned peer source false is))
    (rejected policy r v one identifier None quiet_is tt (λ entries. tt) sound)

bids-at : (policy : Policy) (r : Reading) (v : Channels) (one : Read) (identifier source : ℕ) (held : Held) (stage : Stage) → held.stage ≡ stage → Passes (heard one) → find (has_own held.own) v.held ≡ Some held → Sound policy r v
    → (let response : Option Content = disconnection_by stage held.own source in
    let before : Channels = says identifier response (remembers kinds.Disconnection identifier response v) in
    let w : Channels = cond (is_peer source stage) (peer_closes_at held.stage held before) before in
    Sound policy (fold read_on r (exchange one identifier response ++ asked_between v w)) w)
bids-at policy r v one identifier source held (Requested request) is quiet_is at sound = rejected policy r v one identifier (Some (no_such_channel held.own source)) quiet_is (λ n. refl) (λ entries. tt) sound
bids-at policy r v one identifier source held (Connected peer setup) is quiet_is at sound = bids-by policy r v one identifier source held peer (eqb peer source) refl quiet_is at (ap peer_of is) sound
bids-at policy r v one identifier source held (Leaving peer setup request) is quiet_is at sound = bids-by policy r v one identifier source held peer (eqb peer source) refl quiet_is at (ap peer_of is) sound
bids-at policy r v one identifier source held (Closing peer request checked) is quiet_is at sound = bids-by policy r v one identifier source held peer (eqb peer source) refl quiet_is at (ap peer_of is) sound
bids-at policy r v one identifier source held (Crossed peer request) is quiet_is at sound = bids-by policy r v one identifier source held peer (eqb peer source) refl quiet_is at (ap peer_of is) sound

bids-of : (policy : Policy) (r : Reading) (v : Channels) (one : Read) (identifier own source : ℕ) (found : Option Held) → find (has_own own) v.held ≡ found → Passes (heard one) → Sound policy r v
    → (let response : Option Content = disconnection_answer found own source in
    let before : Channels = says identifier response (remembers kinds.Disconnection identifier response v) in
    let w : Channels = follows_disconnection found source before in
    Sound policy (fold read_on r (exchange one identifier response ++ asked_between v w)) w)
bids-of policy r v one identifier own source None is quiet_is sound = rejected policy r v one identifier (Some (no_such_channel own source)) quiet_is (λ n. refl) (λ entries. tt) sound
bids-of policy r v one identifier own source (Some held) is quiet_is sound =
    let same : held.own ≡ own = found-has own_of own v.held held is in
    subst (λ n. let response : Option Content = disconnection_by held.stage n source in
    let before : Channels = says identifier response (remembers kinds.Disconnection identifier response v) in
    let w : Channels = cond (is_peer source held.stage) (peer_closes_at held.stage held before) before in
    Sound policy (fold read_on r (exchange one identifier response ++ asked_between v w)) w) same
    (bids-at policy r v one identifier source held held.stage refl quiet_is (ap (λ n. find (has_own n) v.held) same ∙ is) sound)

ends-response : (entries : List Entry) (kept : Option Remembered) (l : Remembered) → kept ≡ Some l → EndsKept entries kept → IsEnded entries l.response
ends-response entries kept l is ended = subst (EndsKept entries) is ended

pub hears-bidding : (policy : Policy) (r : Reading) (v : Channels) (one : Read) (identifier own source : ℕ) → Passes (heard one) → Sound policy r v
    → (let fresh : Option Content = disconnection_answer (held_at own v) own source in
    let w : Channels = hears_kind v.memory.disconnection kinds.Disconnection identifier fresh (λ u. follows_disconnection (held_at own u) source u) v in
    Sound policy (fold read_on r (exchanged one (command_if identifier (response_by v.memory.disconnection identifier fresh)) v ++ asked_between v w)) w)
hears-bidding policy r v one identifier own source is sound =
    let fresh : Option Content = disconnection_answer (held_at own v) own source in
    let before : Channels = says identifier fresh (remembers kinds.Disconnection identifier fresh v) in
    question-by policy r v kinds.Disconnection one identifier fresh (λ u. follows_disconnection (held_at own u) source u) v.memory.disconnection
    (λ l at same. ended-said policy r v one identifier l.response is (λ entries also. subst (λ es. IsEnded es l.response) (sym also) (ends-response r.entries v.memory.disconnection l at sound.kept.ends)) sound)
    (λ new. subst (λ h. let w : Channels = follows_disconnection h source before in Sound policy (fold read_on r (exchange one identifier fresh ++ asked_between v w)) w) (sym (ap (find (has_own own)) (says-held identifier fresh (remembers kinds.Disconnection identifier fresh v))))
    (bids-of policy r v one identifier own source (held_at own v) refl is sound))
    sound

-- a request for the end that cannot be read
pub hears-bidding_unread : (policy : Policy) (r : Reading) (v : Channels) (one : Read) (identifier : ℕ) (reason : ℕ) (rest : List ℕ) → Passes (heard one) → Sound policy r v
    → (let fresh : Option Content = Some (reject reason rest) in
    let w : Channels = hears_kind v.memory.disconnection kinds.Disconnection identifier fresh (λ u. u) v in
    Sound policy (fold read_on r (exchanged one (command_if identifier (response_by v.memory.disconnection identifier fresh)) v ++ asked_between v w)) w)
hears-bidding_unread policy r v one identifier reason rest is sound =
    question-by policy r v kinds.Disconnection one identifier (Some (reject reason rest)) (λ u. u) v.memory.disconnection
    (λ l at same. ended-said policy r v one identifier l.response is (λ entries also. subst (λ es. IsEnded es l.response) (sym also) (ends-response r.entries v.memory.disconnection l at sound.kept.ends)) sound)
    (λ new. rejected policy r v one identifier (Some (reject reason rest)) is (λ n. refl) (λ entries. tt) sound)
    sound
