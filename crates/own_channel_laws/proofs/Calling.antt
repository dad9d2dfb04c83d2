-- Own requests for channels: one is said, or comes to nothing.
use Rattle.std.proofs.Common.{◌≡◌, ℕ, ◌≤◌, ◌<◌, List, [], ◌∷◌, ◌++◌, fold, Bool, true, false, cond, ◌&&◌, ◌||◌, eqb, not, Option, Some, None, refl, sym, ap, subst, ◌∙◌, arith}
use Rattle.std.specs.Prelude.{find, filter}
use Rattle.std.specs.List.{list_any}
use Rattle.std.proofs.lemmas.Bool.{eqb-true}
use Rattle.talk_laws.specs.capture.specs.declared.flow.Flow.TheVariants.{Out}
use Rattle.talk_laws.specs.l2cap_signal.specs.Commands.{Command, connection_request}
use Rattle.talk_laws.specs.link_talk.specs.declared.call.Wanted.{Wanted}
use Rattle.talk_laws.specs.link_talk.specs.declared.call.Call.{Call}
use Rattle.talk_laws.specs.link_talk.specs.declared.call.Failure.{Failure}
use Rattle.talk_laws.specs.link_talk.specs.Sayings.{Saying, GaveUp}
use Rattle.talk_laws.specs.link_talk.specs.Sayings as sayings
use Rattle.talk_laws.specs.link_talk.specs.Requests.{Requests, went, is_call, is_own_call, is_failure, counted, first_of_run, last_run, call_wanted, has_failed}
use Rattle.talk_laws.specs.link_talk.specs.Channels.{Entry, Reading, read_on}
use Rattle.channel_model.specs.declared.errand.Errand.TheVariants.{Connection}
use Rattle.channel_model.specs.declared.event.CloseReason.{CloseReason}
use Rattle.channel_model.specs.Value.{Request, Stage, Requested, Connected, Leaving, Closing, Crossed, Held, Memory, Channels}
use Rattle.channel_model.specs.Policies.{Policy}
use Rattle.channel_model.specs.Changing.{has_own, held_at}
use Rattle.channel_model.specs.Asking.{new_request, asks}
use Rattle.channel_model.specs.Closing.{closes_at}
use Rattle.channel_model.specs.Following.{with_channel}
use Rattle.channel_model.specs.Giving.{on_held, connection_at}
use Rattle.own_channel_laws.specs.OwnTalk.{spoken, command_with, asked_between}
use Rattle.own_channel_laws.specs.Runs.{forgone_at, forgone_between}
use Rattle.own_channel_laws.specs.Views.{read_at}
use Rattle.channel_model.proofs.Lookups.{own_of, Distinct, distinct-append, distinct-filter, find-gone, find-others, found-has, eqb-same, and_off}
use Rattle.own_channel_laws.proofs.Entries.{nothing-same, or_left, or_right}
use Rattle.own_channel_laws.proofs.Sound.{Reads, Core, QueriesKept, Repeats, has_called, wanted_by, Awaits, WantsAt, Wants, IsPlaced, Uncalled, placed-held, requested-unread, Kept, Sound, at_each}
use Rattle.own_channel_laws.proofs.Steps.{less-apart, more-apart, queries-on}
use Rattle.own_channel_laws.proofs.Moves.{is-below, is-above}
use Rattle.own_channel_laws.proofs.Questions.{asked-none}
use Rattle.own_channel_laws.proofs.Granting.{no_repeats}
use Rattle.own_channel_laws.proofs.Inviting.{queries-same, held_others, held_here}
use Rattle.own_channel_laws.proofs.Asking.{asked-one, newest-asks}

-- ---- one is said

abbrev pub own_call : (identifier psm own : ℕ) → Call
own_call identifier psm own = record { flow = Out; identifier = identifier; wanted = Some (wanted_by psm own) }

abbrev pub calling : Requests → (identifier psm own : ℕ) → Requests
calling asked identifier psm own = record { calls = own_call identifier psm own ∷ asked.calls; queries = asked.queries; failures = asked.failures }

-- it is none for another endpoint
call-other : (identifier psm own other n : ℕ) → eqb own n ≡ false → is_call other n (own_call identifier psm own) ≡ false
call-other identifier psm own other n apart = ap (λ t. eqb identifier other && t) apart ∙ and_off (eqb identifier other)

called-other : (asked : Requests) (identifier psm own other n : ℕ) → eqb own n ≡ false → has_called (calling asked identifier psm own) other n ≡ has_called asked other n
called-other asked identifier psm own other n apart = ap (λ t. t || has_called asked other n) (call-other identifier psm own other n apart)

awaits-other : (asked : Requests) (identifier psm own : ℕ) (n : ℕ) → eqb own n ≡ false → (wished other : ℕ) → Awaits asked wished n other → Awaits (calling asked identifier psm own) wished n other
awaits-other asked identifier psm own n apart wished other (answered, hopeful, alone) =
    let call : Call = own_call identifier psm own in
    let outs : List Call = filter (went Out) asked.calls in (
      ap (λ t. call_wanted (cond t (Some (first_of_run (is_call other n) call outs)) (last_run (is_call other n) outs))) (call-other identifier psm own other n apart) ∙ answered,
      hopeful,
      λ another called. alone another (sym (called-other asked identifier psm own another n apart) ∙ called),
    )

-- with those before it, it asks for what it asks for
first-here : (passes : Call → Bool) (call : Call) (outs : List Call) (wanted : Option Wanted) → call.wanted ≡ wanted → ((x : Call) → last_run passes outs ≡ Some x → x.wanted ≡ wanted) → (first_of_run passes call outs).wanted ≡ wanted
first-here passes call [] wanted is earlier = is
first-here passes call (before ∷ outs) wanted is earlier = by (passes before) earlier
  where
    by : (t : Bool) → ((x : Call) → cond t (Some (first_of_run passes before outs)) (last_run passes outs) ≡ Some x → x.wanted ≡ wanted) → (cond t (first_of_run passes before outs) call).wanted ≡ wanted
    by true all = all (first_of_run passes before outs) refl
    by false all = is

awaits-here : (asked : Requests) (identifier psm own : ℕ) → ((x : Call) → last_run (is_call identifier own) (filter (went Out) asked.calls) ≡ Some x → x.wanted ≡ Some (wanted_by psm own)) → has_failed asked identifier own ≡ false
    → ((other : ℕ) → has_called asked other own ≡ true → other ≡ identifier) → Awaits (calling asked identifier psm own) psm own identifier
awaits-here asked identifier psm own earlier hopeful alone =
    let call : Call = own_call identifier psm own in
    let outs : List Call = filter (went Out) asked.calls in
    let p : Call → Bool = is_call identifier own in (
      ap (λ t. call_wanted (cond (t && eqb own own) (Some (first_of_run p call outs)) (last_run p outs))) (eqb-same identifier)
          ∙ (ap (λ t. call_wanted (cond t (Some (first_of_run p call outs)) (last_run p outs))) (eqb-same own) ∙ first-here p call outs (Some (wanted_by psm own)) refl earlier),
      hopeful,
      λ other called. by other (eqb identifier other) refl called,
    )
  where
    by : (other : ℕ) (same : Bool) → eqb identifier other ≡ same → ((same && eqb own own) || has_called asked other own) ≡ true → other ≡ identifier
    by other true is called = sym (eqb-true identifier other is)
    by other false is called = alone other called

pub awaits-again : (asked : Requests) (psm own identifier : ℕ) → Awaits asked psm own identifier → Awaits (calling asked identifier psm own) psm own identifier
awaits-again asked psm own identifier (answered, hopeful, alone) = awaits-here asked identifier psm own (λ x is. sym (ap call_wanted is) ∙ answered) hopeful alone

no_run : (identifier own : ℕ) (calls : List Call) → list_any (is_own_call identifier own) calls ≡ false → last_run (is_call identifier own) (filter (went Out) calls) ≡ None
no_run identifier own [] none = refl
no_run identifier own (call ∷ calls) none =
    by (went Out call) (or_left (went Out call && is_call identifier own call) (list_any (is_own_call identifier own) calls) none)
    (no_run identifier own calls (or_right (went Out call && is_call identifier own call) (list_any (is_own_call identifier own) calls) none))
  where
    by : (t : Bool) → (t && is_call identifier own call) ≡ false → last_run (is_call identifier own) (filter (went Out) calls) ≡ None
        → last_run (is_call identifier own) (cond t (call ∷ filter (went Out) calls) (filter (went Out) calls)) ≡ None
    by true none_now rest = ap (λ t. cond t (Some (first_of_run (is_call identifier own) call (filter (went Out) calls))) (last_run (is_call identifier own) (filter (went Out) calls))) none_now ∙ rest
    by false none_now rest = rest

pub no-answer : (asked : Requests) (identifier own : ℕ) → has_called asked identifier own ≡ false → call_wanted (last_run (is_call identifier own) (filter (went Out) asked.calls)) ≡ None
no-answer asked identifier own none = ap call_wanted (no_run identifier own asked.calls none)

awaits-new : (asked : Requests) (identifier psm own : ℕ) → ((other : ℕ) → (has_called asked other own ≡ false) × (has_failed asked other own ≡ false)) → Awaits (calling asked identifier psm own) psm own identifier
awaits-new asked identifier psm own none =
    awaits-here asked identifier psm own (λ x is. let never : None ≡ Some x = sym (no_run identifier own asked.calls (none identifier).0) ∙ is in absurd cc) (none identifier).1
    (λ other called. let never : true ≡ false = sym called ∙ (none other).0 in absurd cc)

-- what one that waits waits for
pub wants-on : (asked more : Requests) (n : ℕ) (found : Option Held) → ((f : Held) → found ≡ Some f → f.own ≡ n) → ((psm identifier : ℕ) → Awaits asked psm n identifier → Awaits more psm n identifier) → Wants asked found → Wants more found
wants-on asked more n None at on wants = tt
wants-on asked more n (Some f) at on wants = by f.stage wants
  where
    by : (stage : Stage) → WantsAt asked f stage → WantsAt more f stage
    by (Requested request) w = subst (λ m. Awaits more f.psm m request.identifier) (sym (at f refl)) (on f.psm request.identifier (subst (λ m. Awaits asked f.psm m request.identifier) (at f refl) w))
    by (Connected peer setup) w = tt
    by (Leaving peer setup request) w = tt
    by (Closing peer request checked) w = tt
    by (Crossed peer request) w = tt

-- of the channels one changes, that nothing was read of
abbrev UnreadOn : List Entry → List Held → List Held → ℕ → Type 0
UnreadOn entries held held' own = (read_at own entries ≡ None) × ((n : ℕ) → eqb own n ≡ false → find (has_own n) held' ≡ find (has_own n) held)

unread-queries : (asked : Requests) (calls : List Call) (failures : List Failure) (entries : List Entry) (held held' : List Held) (memory : Memory) (own : ℕ) → UnreadOn entries held held' own → QueriesKept asked held entries memory.configuration
    → (let more : Requests = record { calls = calls; queries = asked.queries; failures = failures } in QueriesKept more held' entries memory.configuration)
unread-queries asked calls failures entries held held' memory own (unread, others) queries =
    queries-same asked calls failures held' entries memory.configuration
    (queries-on asked held entries held' entries
    (λ m part. at_each (λ n. Unit {0}) (λ n. Repeats (find (has_own n) held) (read_at n entries) part → Repeats (find (has_own n) held') (read_at n entries) part) own
    (λ n apart any is. subst (λ h. Repeats h (read_at n entries) part) (sym (others n apart)) is)
    (λ is. elim (no_repeats (find (has_own own) held) part (subst (λ e. Repeats (find (has_own own) held) e part) unread is)) [ ])
    (λ n. tt) m)
    memory.configuration queries)

call-kept : (asked : Requests) (entries : List Entry) (held held' : List Held) (memory : Memory) (here : Held) (request : Request) → here.stage ≡ Requested request → find (has_own here.own) held' ≡ Some here → UnreadOn entries held held' here.own
    → Awaits (calling asked request.identifier here.psm here.own) here.psm here.own request.identifier → Kept asked entries held memory → Kept (calling asked request.identifier here.psm here.own) entries held' memory
call-kept asked entries held held' memory here request stage_is here_is unread awaits kept =
    let more : Requests = calling asked request.identifier here.psm here.own in
    record {
      calls = kept.calls;
      queries = unread-queries asked more.calls asked.failures entries held held' memory here.own unread kept.queries;
      ends = kept.ends;
      echoes = kept.echoes;
      informations = kept.informations;
      wants = at_each (λ n. Wants asked (find (has_own n) held)) (λ n. Wants more (find (has_own n) held')) here.own
          (λ n apart is. subst (Wants more) (sym (unread.1 n apart)) (wants-on asked more n (find (has_own n) held) (λ f at. found-has own_of n held f at) (λ psm identifier w. awaits-other asked request.identifier here.psm here.own n apart psm identifier w) is))
          (subst (Wants more) (sym here_is) (subst (WantsAt more here) (sym stage_is) awaits)) kept.wants;
      outgoing = λ identifier own called hopeful. at_each (λ n. Unit {0}) (λ n. has_called more identifier n ≡ true → has_failed asked identifier n ≡ false → IsPlaced (find (has_own n) held') (read_at n entries)) here.own
          (λ n apart any now hoped. subst (λ h. IsPlaced h (read_at n entries)) (sym (unread.1 n apart)) (kept.outgoing identifier n (sym (called-other asked request.identifier here.psm here.own identifier n apart) ∙ now) hoped))
          (λ now hoped. subst (λ h. IsPlaced h (read_at here.own entries)) (sym here_is) (placed-held here (read_at here.own entries))) (λ n. tt) own called hopeful;
    }

call-uncalled : (asked : Requests) (identifier psm own next next' : ℕ) → own < next' → next ≤ next' → Uncalled asked next → Uncalled (calling asked identifier psm own) next'
call-uncalled asked identifier psm own next next' below rises uncalled n above other =
    let none = uncalled n (omega (arith, rises, above)) other in (called-other asked identifier psm own other n (less-apart own n (omega (arith, below, above))) ∙ none.0, none.1)

-- the same request again
pub call-again : (policy : Policy) (r : Reading) (v : Channels) (held : Held) (request : Request) → held.stage ≡ Requested request → find (has_own held.own) v.held ≡ Some held → Sound policy r v
    → Sound policy (read_on r (spoken (command_with request.identifier (connection_request held.psm held.own)))) v
call-again policy r v held request is at sound =
    let more : Requests = calling r.requests request.identifier held.psm held.own in
    let unread : read_at held.own r.entries ≡ None = requested-unread policy held request (read_at held.own r.entries) is (subst (λ h. Reads policy h (read_at held.own r.entries)) at (sound.core.reads held.own)) in
    let awaits : Awaits r.requests held.psm held.own request.identifier = subst (WantsAt r.requests held) is (subst (Wants r.requests) at (sound.kept.wants held.own)) in
    let kept : Kept more r.entries v.held v.memory = call-kept r.requests r.entries v.held v.held v.memory held request is at (unread, λ n apart. refl) (awaits-again r.requests held.psm held.own request.identifier awaits) sound.kept in
    record {
      core = subst (λ es. Core policy es v.held v.next) (sym (nothing-same r.entries)) sound.core;
      kept = subst (λ es. Kept more es v.held v.memory) (sym (nothing-same r.entries)) kept;
      uncalled = call-uncalled r.requests request.identifier held.psm held.own v.next v.next (is-below policy r.entries v.held v.next held sound.core at) (omega arith) sound.uncalled;
    }

-- a new one
pub call-new : (policy : Policy) (r : Reading) (v : Channels) (psm : ℕ) → Sound policy r v
    → (let w : Channels = asks (Connection v.next) (with_channel psm (Requested (new_request v)) v) in Sound policy (fold read_on r (asked_between v w)) w)
call-new policy r v psm sound =
    let core = sound.core in
    let w : Channels = asks (Connection v.next) (with_channel psm (Requested (new_request v)) v) in
    let new : Held = record { psm = psm; own = v.next; stage = Requested (new_request v) } in
    let more : Requests = calling r.requests v.identifier psm v.next in
    let command : Command = command_with v.identifier (connection_request psm v.next) in
    let none : find (has_own v.next) v.held ≡ None = core.held_below v.next (omega arith) in
    let unread : read_at v.next r.entries ≡ None = core.read_below v.next (omega arith) in
    let here : find (has_own v.next) w.held ≡ Some new = held_here v.held new none in
    let said : asked_between v w ≡ spoken command ∷ [] =
    asked-one v w (Connection v.next) command refl (newest-asks (Connection v.next) (with_channel psm (Requested (new_request v)) v)) (ap (on_held (λ h. connection_at h.stage h)) here) in
    let kept : Kept more r.entries w.held v.memory =
    call-kept r.requests r.entries v.held w.held v.memory new (new_request v) refl here (unread, λ n apart. held_others v.held new n apart) (awaits-new r.requests v.identifier psm v.next (λ other. sound.uncalled v.next (omega arith) other)) sound.kept in
    let grown : Core policy r.entries w.held w.next = record {
      reads = at_each (λ n. Reads policy (find (has_own n) v.held) (read_at n r.entries)) (λ n. Reads policy (find (has_own n) w.held) (read_at n r.entries)) v.next
          (λ n apart is. subst (λ h. Reads policy h (read_at n r.entries)) (sym (held_others v.held new n apart)) is)
          (subst (λ h. Reads policy h (read_at v.next r.entries)) (sym here) (subst (Reads policy (Some new)) (sym unread) tt)) core.reads;
      held_below = λ own above. held_others v.held new own (less-apart v.next own (omega (arith, above))) ∙ core.held_below own (omega (arith, above));
      read_below = λ own above. core.read_below own (omega (arith, above));
      held_low = λ own low. held_others v.held new own (more-apart v.next own (omega (arith, core.start, low))) ∙ core.held_low own low;
      read_low = core.read_low;
      start = omega (arith, core.start);
      apart = core.apart;
      distinct = core.distinct;
      lone = distinct-append own_of v.held new none core.lone;
    } in
    subst (λ rest. Sound policy (fold read_on r rest) w) (sym said) (record {
      core = subst (λ es. Core policy es w.held w.next) (sym (nothing-same r.entries)) grown;
      kept = subst (λ es. Kept more es w.held v.memory) (sym (nothing-same r.entries)) kept;
      uncalled = call-uncalled r.requests v.identifier psm v.next v.next w.next (omega arith) (omega arith) sound.uncalled;
    })

-- ---- one comes to nothing

abbrev pub failure_of : (identifier own : ℕ) → Failure
failure_of identifier own = record { identifier = identifier; own = own }

abbrev pub failing : Requests → (identifier own : ℕ) → Requests
failing asked identifier own = record { calls = asked.calls; queries = asked.queries; failures = counted asked.calls (Some (failure_of identifier own)) ++ asked.failures }

-- another request has not failed by it
pub failed-same : (asked : Requests) (identifier own other n : ℕ) → is_failure other n (failure_of identifier own) ≡ false → has_failed (failing asked identifier own) other n ≡ has_failed asked other n
failed-same asked identifier own other n apart = by (has_called asked identifier own)
  where
    by : (t : Bool) → list_any (is_failure other n) (cond t (failure_of identifier own ∷ []) [] ++ asked.failures) ≡ has_failed asked other n
    by true = ap (λ t. t || has_failed asked other n) apart
    by false = refl

pub failed-before : (asked : Requests) (identifier own other n : ℕ) → has_failed (failing asked identifier own) other n ≡ false → has_failed asked other n ≡ false
failed-before asked identifier own other n hopeful = by (has_called asked identifier own) hopeful
  where
    by : (t : Bool) → list_any (is_failure other n) (cond t (failure_of identifier own ∷ []) [] ++ asked.failures) ≡ false → has_failed asked other n ≡ false
    by true none = or_right (is_failure other n (failure_of identifier own)) (has_failed asked other n) none
    by false none = none

failed-now : (asked : Requests) (identifier own : ℕ) → has_called asked identifier own ≡ true → has_failed (failing asked identifier own) identifier own ≡ true
failed-now asked identifier own called =
    ap (λ t. list_any (is_failure identifier own) (cond t (failure_of identifier own ∷ []) [] ++ asked.failures)) called
    ∙ (ap (λ t. (t && eqb own own) || has_failed asked identifier own) (eqb-same identifier) ∙ ap (λ t. t || has_failed asked identifier own) (eqb-same own))

failure-other : (identifier own other n : ℕ) → eqb own n ≡ false → is_failure other n (failure_of identifier own) ≡ false
failure-other identifier own other n apart = ap (λ t. eqb identifier other && t) apart ∙ and_off (eqb identifier other)

pub awaits-failing : (asked : Requests) (identifier own psm n other : ℕ) → is_failure other n (failure_of identifier own) ≡ false → Awaits asked psm n other → Awaits (failing asked identifier own) psm n other
awaits-failing asked identifier own psm n other apart (answered, hopeful, alone) = (answered, failed-same asked identifier own other n apart ∙ hopeful, alone)

pub fail-kept : (asked : Requests) (entries : List Entry) (held held' : List Held) (memory : Memory) (identifier own : ℕ) → ((n : ℕ) → eqb own n ≡ false → find (has_own n) held' ≡ find (has_own n) held)
    → QueriesKept (failing asked identifier own) held' entries memory.configuration → Wants (failing asked identifier own) (find (has_own own) held')
    → ((other : ℕ) → has_called asked other own ≡ true → has_failed (failing asked identifier own) other own ≡ false → IsPlaced (find (has_own own) held') (read_at own entries))
    → Kept asked entries held memory → Kept (failing asked identifier own) entries held' memory
fail-kept asked entries held held' memory identifier own others queries wants placed kept =
    let more : Requests = failing asked identifier own in
    record {
      calls = kept.calls;
      queries = queries;
      ends = kept.ends;
      echoes = kept.echoes;
      informations = kept.informations;
      wants = at_each (λ n. Wants asked (find (has_own n) held)) (λ n. Wants more (find (has_own n) held')) own
          (λ n apart is. subst (Wants more) (sym (others n apart)) (wants-on asked more n (find (has_own n) held) (λ f at. found-has own_of n held f at) (λ psm other w. awaits-failing asked identifier own psm n other (failure-other identifier own other n apart) w) is))
          wants kept.wants;
      outgoing = λ other m called hopeful. at_each (λ n. Unit {0}) (λ n. has_called asked other n ≡ true → has_failed more other n ≡ false → IsPlaced (find (has_own n) held') (read_at n entries)) own
          (λ n apart any now hoped. subst (λ h. IsPlaced h (read_at n entries)) (sym (others n apart)) (kept.outgoing other n now (failed-before asked identifier own other n hoped)))
          (placed other) (λ n. tt) m called hopeful;
    }

pub fail-uncalled : (asked : Requests) (identifier own next : ℕ) → Uncalled asked next → Uncalled (failing asked identifier own) next
fail-uncalled asked identifier own next uncalled n above other = ((uncalled n above other).0, by (eqb own n) refl)
  where
    by : (t : Bool) → eqb own n ≡ t → has_failed (failing asked identifier own) other n ≡ false
    by false apart = failed-same asked identifier own other n (failure-other identifier own other n apart) ∙ (uncalled n above other).1
    by true same =
        ap (λ t. list_any (is_failure other n) (cond t (failure_of identifier own ∷ []) [] ++ asked.failures)) (ap (has_called asked identifier) (eqb-true own n same) ∙ (uncalled n above identifier).0) ∙ (uncalled n above other).1

abbrev pub failed_reading : Reading → (identifier own : ℕ) → Reading
failed_reading r identifier own = record { requests = failing r.requests identifier own; entries = r.entries }

-- the channel that it asked for is no more
pub lost-call : (policy : Policy) (r : Reading) (v w : Channels) (held : Held) (request : Request) → held.stage ≡ Requested request → find (has_own held.own) v.held ≡ Some held → w.held ≡ filter (λ other. not (eqb other.own held.own)) v.held → w.next ≡ v.next → w.memory ≡ v.memory
    → Sound policy r v → Sound policy (failed_reading r request.identifier held.own) w
lost-call policy r v w held request is at held_is next_is memory_is sound =
    let core = sound.core in
    let more : Requests = failing r.requests request.identifier held.own in
    let gone : find (has_own held.own) w.held ≡ None = ap (find (has_own held.own)) held_is ∙ find-gone own_of held.own v.held in
    let others : (n : ℕ) → eqb held.own n ≡ false → find (has_own n) w.held ≡ find (has_own n) v.held = λ n apart. ap (find (has_own n)) held_is ∙ find-others own_of held.own n v.held apart in
    let unread : read_at held.own r.entries ≡ None = requested-unread policy held request (read_at held.own r.entries) is (subst (λ h. Reads policy h (read_at held.own r.entries)) at (core.reads held.own)) in
    let awaits : Awaits r.requests held.psm held.own request.identifier = subst (WantsAt r.requests held) is (subst (Wants r.requests) at (sound.kept.wants held.own)) in
    let (answered, hoped, alone) = awaits in
    let below = is-below policy r.entries v.held v.next held core at in
    let kept : Kept more r.entries w.held v.memory = fail-kept r.requests r.entries v.held w.held v.memory request.identifier held.own others
    (unread-queries r.requests more.calls more.failures r.entries v.held w.held v.memory held.own (unread, others) sound.kept.queries)
    (subst (Wants more) (sym gone) tt)
    (λ other called hopeful.
    let same : other ≡ request.identifier = alone other called in
    let never : true ≡ false = sym (failed-now r.requests request.identifier held.own (ap (λ n. has_called r.requests n held.own) (sym same) ∙ called)) ∙ (ap (λ n. has_failed more n held.own) (sym same) ∙ hopeful) in absurd cc)
    sound.kept in
    record {
      core = subst (Core policy r.entries w.held) (sym next_is) (record {
        reads = at_each (λ n. Reads policy (find (has_own n) v.held) (read_at n r.entries)) (λ n. Reads policy (find (has_own n) w.held) (read_at n r.entries)) held.own
            (λ n apart so. subst (λ h. Reads policy h (read_at n r.entries)) (sym (others n apart)) so)
            (subst (λ h. Reads policy h (read_at held.own r.entries)) (sym gone) (subst (Reads policy None) (sym unread) tt)) core.reads;
        held_below = λ own above. others own (less-apart held.own own (omega (arith, below, above))) ∙ core.held_below own above;
        read_below = core.read_below;
        held_low = λ own low. others own (more-apart held.own own (omega (arith, is-above policy r.entries v.held v.next held core at, low))) ∙ core.held_low own low;
        read_low = core.read_low;
        start = core.start;
        apart = core.apart;
        distinct = core.distinct;
        lone = subst (Distinct own_of) (sym held_is) (distinct-filter own_of (λ other. not (eqb other.own held.own)) v.held core.lone);
      });
      kept = subst (Kept more r.entries w.held) (sym memory_is) kept;
      uncalled = subst (Uncalled more) (sym next_is) (fail-uncalled r.requests request.identifier held.own v.next sound.uncalled);
    }

-- it is given up
pub gave-up : (r : Reading) (identifier own : ℕ) → read_on r (GaveUp (sayings.Connection identifier own)) ≡ failed_reading r identifier own
gave-up r identifier own = ap (λ (es : List Entry). let after : Reading = record { requests = failing r.requests identifier own; entries = es } in after) (nothing-same r.entries)

pub forgone-on : (policy : Policy) (r : Reading) (v : Channels) (held : Held) (request : Request) (reason : CloseReason) (stage : Stage) → stage ≡ Requested request → held.stage ≡ Requested request → find (has_own held.own) v.held ≡ Some held → Sound policy r v
    → (let w : Channels = closes_at stage reason held v in Sound policy (fold read_on r (asked_between v w ++ forgone_between (held_at held.own v) (held_at held.own w))) w)
forgone-on policy r v held request reason (Requested other) same is at sound =
    let w : Channels = closes_at (Requested other) reason held v in
    let gone : find (has_own held.own) w.held ≡ None = find-gone own_of held.own v.held in
    let given_up : forgone_between (held_at held.own v) (held_at held.own w) ≡ GaveUp (sayings.Connection request.identifier held.own) ∷ [] =
    ap (λ h. forgone_between h (held_at held.own w)) at ∙ (ap (forgone_between (Some held)) gone ∙ ap (λ s. forgone_at s held.own) is) in
    subst (λ said. Sound policy (fold read_on r (asked_between v w ++ said)) w) (sym given_up)
    (subst (λ said. Sound policy (fold read_on r (said ++ (GaveUp (sayings.Connection request.identifier held.own) ∷ []))) w) (sym (asked-none v w refl))
    (subst (λ x. Sound policy x w) (sym (gave-up r request.identifier held.own)) (lost-call policy r v w held request is at refl refl refl sound)))
forgone-on policy r v held request reason (Connected peer setup) same is at sound = cc
forgone-on policy r v held request reason (Leaving peer setup waiting) same is at sound = cc
forgone-on policy r v held request reason (Closing peer waiting checked) same is at sound = cc
forgone-on policy r v held request reason (Crossed peer waiting) same is at sound = cc
