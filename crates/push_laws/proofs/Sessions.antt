-- One packet more, and an object let go, at two sessions over one inbox.
use Rattle.std.proofs.Common.{inl, inr, ◌⊎◌, Bool, true, false, ◌+◌, ◌≤◌, ◌≡◌, ℕ, List, [], ◌∷◌, ◌++◌, Option, Some, None, Ok, Err, is_err, arith, refl, sym, ap, subst, ◌∙◌, append-nil}
use Rattle.std.specs.Option.{option_map}
use Rattle.std.proofs.lemmas.Bool.{cases_Bool, cond_both, cond-false}
use Rattle.std.proofs.lemmas.List.{map-append}
use Rattle.link_talk.specs.bt_base.specs.declared.settings.Transport.{Transport}
use Rattle.link_talk.specs.bt_base.specs.declared.settings.Transport.TheVariants.{L2cap, Rfcomm}
use Rattle.link_talk.specs.bt_base.specs.declared.ports.PortFault.{PortFault}
use Rattle.link_talk.specs.bt_base.specs.declared.ports.PortFault.TheVariants.{Failed, NoMemory}
use Rattle.link_talk.specs.bt_base.specs.Objects.{Object, Contents, aborted}
use Rattle.push_model.specs.obex_headers.specs.declared.packet.Phase.TheVariants.{Request}
use Rattle.push_model.specs.obex_headers.specs.Packets.{PlainHeader, PlainPacket}
use Rattle.push_model.specs.obex_headers.specs.Reading.{packet_in}
use Rattle.push_model.specs.obex_headers.specs.Runs.{run_headers, objects_from}
use Rattle.push_model.specs.obex_session.specs.declared.course.Progress.{Progress}
use Rattle.push_model.specs.obex_session.specs.InboxCalls.{InboxCall, Answer, come_of, left_by, all_done}
use Rattle.push_model.specs.obex_session.specs.Rules.{Ruling, aborts, is_under_way, at_packet, progress_in}
use Rattle.push_model.specs.obex_session.specs.Hearing.{progress_after}
use Rattle.push_model.specs.obex_session.specs.Past.{Heard, put_heard, puts_heard, open_from, open_headers, progress_of, pending_of, Serving}
use Rattle.push_model.specs.obex_session.specs.Serving.{kind_heard, ruling_on, verdict_or, outcome_on, heard_with}
use Rattle.push_model.specs.obex_session.specs.Turns.{said_after}
use Rattle.push_model.specs.obex_session.specs.Views.{rested, is_shortage}
use Rattle.push_model.specs.obex_session.proofs.PastLaws.{Leaves, packet_leaves, headers_keep, open-more}
use Rattle.push_model.specs.obex_session.proofs.RuleLaws.{held}
use Rattle.push_model.specs.obex_session.proofs.TurnLaws.{progress_behind}
use Rattle.push_model.specs.obex_session.proofs.GrantedLaws.{held_done, held_failed, ruling_last, abort_held, spoken, spoken_failed, no_aborts, quiet, let_go, idle_progress}
use Rattle.push_laws.specs.Faults.{counted, faults_of}
use Rattle.push_laws.specs.Premises.{NoneShort}
use Rattle.push_model.specs.Sessions as model
use Rattle.push_model.specs.Sessions.{Sessions, Gift, Parted, session_of, other_of, with_session, after_calls, is_short, lets_go, answers_to, is_naming, hears_after, hears}

-- ---- transports

pub either_way : (P : Transport → Type 0) (t : Transport) → P t → P (other_of t) → (u : Transport) → P u
either_way P L2cap p q L2cap = p
either_way P L2cap p q Rfcomm = q
either_way P Rfcomm p q L2cap = q
either_way P Rfcomm p q Rfcomm = p

other_twice : (t : Transport) → other_of (other_of t) ≡ t
other_twice L2cap = refl
other_twice Rfcomm = refl

which : (t on : Transport) → (on ≡ t) ⊎ (on ≡ other_of t)
which L2cap L2cap = inl refl
which L2cap Rfcomm = inr refl
which Rfcomm L2cap = inr refl
which Rfcomm Rfcomm = inl refl

pub same_session : (t : Transport) (session : Serving) (sessions : Sessions) → session_of t (with_session t session sessions) ≡ session
same_session L2cap session sessions = refl
same_session Rfcomm session sessions = refl

pub other_session : (t : Transport) (session : Serving) (sessions : Sessions) → session_of (other_of t) (with_session t session sessions) ≡ session_of (other_of t) sessions
other_session L2cap session sessions = refl
other_session Rfcomm session sessions = refl

pub kept_session : (t : Transport) (session : Serving) (sessions : Sessions) → session_of t (with_session (other_of t) session sessions) ≡ session_of t sessions
kept_session L2cap session sessions = refl
kept_session Rfcomm session sessions = refl

-- a call fails that a packet asks for
abbrev pub come_fails : Transport → List ℕ → Sessions → List Answer → Bool
come_fails t packet sessions answers = is_err (come_of (ruling_on (session_of t sessions) packet).calls answers)

-- ---- what was heard over each transport, and what is under way

abbrev pub Pasts : Type 0
Pasts = Transport → List Heard

abbrev pub headers : (Transport → ℕ) → Pasts → Transport → List PlainHeader
headers most past t = open_headers (most t) (past t)

abbrev pub pending : (Transport → ℕ) → Pasts → Transport → Option Object
pending most past t = pending_of (headers most past t)

-- the sessions and the inbox behind what was heard: one transport at most has an object under way, which is the pending one
pub record Stands (most : Transport → ℕ) (past : Pasts) (stored : List Object) (sessions : Sessions) (content : Option Contents) : Type 0 where
  pub maxima : (t : Transport) → (session_of t sessions).maximum ≡ most t
  pub progress : (t : Transport) → progress_in (session_of t sessions).course ≡ progress_of (headers most past t)
  pub on : Transport
  pub idle : pending most past (other_of on) ≡ None
  pub holds : content ≡ Some (held stored (headers most past on))

-- the same, after a reaction
pub record StandsAfter (most : Transport → ℕ) (past : Pasts) (stored : List Object) (sessions : Sessions) (gift : Gift) (short : Bool) : Type 0 where
  pub stands : Stands most past stored sessions gift.content
  pub none_short : NoneShort gift.answers
  pub enough : short ≡ false

-- ---- answers

fault_apart : (fault : PortFault) → (let answer : Answer = Err fault in answer) ≡ Ok tt → ⊥
fault_apart fault e = cc

pub come_enough : (calls : List InboxCall) (answers : List Answer) → NoneShort answers → come_of calls answers ≡ Err NoMemory → ⊥
come_enough [] answers all e = fault_apart NoMemory (sym e)
come_enough (call ∷ calls) [] all e = fault_apart NoMemory (sym e)
come_enough (call ∷ calls) (Ok done ∷ answers) all e = come_enough calls answers all.1 e
come_enough (call ∷ calls) (Err fault ∷ answers) all e = all.0 e

left_enough : (calls : List InboxCall) (answers : List Answer) → NoneShort answers → NoneShort (left_by calls answers)
left_enough [] answers all = all
left_enough (call ∷ calls) [] all = tt
left_enough (call ∷ calls) (Ok done ∷ answers) all = left_enough calls answers all.1
left_enough (call ∷ calls) (Err fault ∷ answers) all = all.1

-- a call that fails uses up a fault
left_faults : (calls : List InboxCall) (answers : List Answer) → faults_of (left_by calls answers) + counted (is_err (come_of calls answers)) ≤ faults_of answers
left_faults [] answers = omega arith
left_faults (call ∷ calls) [] = omega arith
left_faults (call ∷ calls) (Ok done ∷ answers) = left_faults calls answers
left_faults (call ∷ calls) (Err fault ∷ answers) = omega arith

holds_by : (most : Transport → ℕ) (past : Pasts) (stored : List Object) (content : Option Contents) (on t : Transport) → pending most past (other_of on) ≡ None → content ≡ Some (held stored (headers most past on))
    → pending most past (other_of t) ≡ None → content ≡ Some (held stored (headers most past t))
holds_by most past stored content L2cap L2cap idle holds free = holds
holds_by most past stored content Rfcomm Rfcomm idle holds free = holds
holds_by most past stored content L2cap Rfcomm idle holds free = holds ∙ ap (λ (p : Option Object). Some (record { stored = stored; pending = p })) (free ∙ sym idle)
holds_by most past stored content Rfcomm L2cap idle holds free = holds ∙ ap (λ (p : Option Object). Some (record { stored = stored; pending = p })) (free ∙ sym idle)

-- where nothing is under way over the other transport, the inbox holds what is under way over this one
pub holds_on : (most : Transport → ℕ) (past : Pasts) (stored : List Object) (sessions : Sessions) (content : Option Contents) (t : Transport) → Stands most past stored sessions content
    → pending most past (other_of t) ≡ None → content ≡ Some (held stored (headers most past t))
holds_on most past stored sessions content t s free = holds_by most past stored content s.on t s.idle s.holds free

-- ---- one packet more

-- one transport heard one packet more
pub record Adds (t : Transport) (heard : Heard) (past past' : Pasts) : Type 0 where
  pub here : past' t ≡ past t ++ heard ∷ []
  pub there : past' (other_of t) ≡ past (other_of t)

abbrev pub run_of : (Transport → ℕ) → Pasts → Transport → List PlainPacket
run_of most past t = open_from [] (puts_heard (most t) (past t))

-- what it spells
abbrev pub gain : (Transport → ℕ) → Pasts → Transport → Heard → List Object
gain most past t one = objects_from (run_of most past t) (put_heard (most t) one ∷ [])

abbrev pub run_behind : (Transport → ℕ) → Pasts → Transport → Heard → List PlainPacket
run_behind most past t one = open_from (run_of most past t) (put_heard (most t) one ∷ [])

pub headers_behind : (most : Transport → ℕ) (past past' : Pasts) (t : Transport) (one : Heard) → Adds t one past past' → headers most past' t ≡ run_headers (run_behind most past t one)
headers_behind most past past' t one adds =
    ap (λ (hs : List Heard). open_headers (most t) hs) adds.here
    ∙ ap (λ (ps : List (Option PlainPacket)). run_headers (open_from [] ps)) (map-append (put_heard (most t)) (past t) (one ∷ []))
    ∙ ap run_headers (open-more [] (puts_heard (most t) (past t)) (put_heard (most t) one))

abbrev LeavesIt : (Transport → ℕ) → Pasts → Transport → List ℕ → List Object → Ruling → Type 0
LeavesIt most past t packet stored ruling = Leaves stored (headers most past t) (gain most past t (packet, false)) (run_behind most past t (packet, false)) ruling

leaves_it : (most : Transport → ℕ) (past : Pasts) (t : Transport) (packet : List ℕ) (session : Serving) (stored : List Object) → session.maximum ≡ most t → progress_in session.course ≡ progress_of (headers most past t)
    → LeavesIt most past t packet stored (ruling_on session packet)
leaves_it most past t packet session stored maximum progress =
    subst (LeavesIt most past t packet stored) (ap (λ (n : ℕ). at_packet session.course (packet_in Request n packet)) (sym maximum))
    (packet_leaves session.course (run_of most past t) (packet_in Request (most t) packet) stored (headers_keep (most t) (past t)) progress)

-- where the inbox stands then
record Settles (most : Transport → ℕ) (past : Pasts) (stored : List Object) (content : Option Contents) : Type 0 where
  on : Transport
  idle : pending most past (other_of on) ≡ None
  holds : content ≡ Some (held stored (headers most past on))

rests_here : (most : Transport → ℕ) (past past' : Pasts) (t : Transport) (packet : List ℕ) (stored : List Object) (ruling : Ruling) (content : Option Contents) → Adds t (packet, false) past past'
    → LeavesIt most past t packet stored ruling → pending most past (other_of t) ≡ None → content ≡ Some (held stored (headers most past t))
    → Settles most past' (stored ++ gain most past t (packet, false)) (option_map (all_done ruling.calls) content)
rests_here most past past' t packet stored ruling content adds leaves free holds = record {
  on = t;
  idle = ap (λ (hs : List Heard). pending_of (open_headers (most (other_of t)) hs)) adds.there ∙ free;
  holds = ap (option_map (all_done ruling.calls)) holds ∙ ap Some leaves.contents_are ∙ ap (λ (hs : List PlainHeader). Some (held (stored ++ gain most past t (packet, false)) hs)) (sym (headers_behind most past past' t (packet, false) adds));
}

none_done : (content : Option Contents) → option_map (all_done []) content ≡ content
none_done None = refl
none_done (Some contents) = refl

rests_there : (most : Transport → ℕ) (past past' : Pasts) (t : Transport) (packet : List ℕ) (stored : List Object) (ruling : Ruling) (content : Option Contents) → Adds t (packet, false) past past'
    → LeavesIt most past t packet [] ruling → ruling.calls ≡ [] → pending most past t ≡ None → content ≡ Some (held stored (headers most past (other_of t)))
    → Settles most past' (stored ++ gain most past t (packet, false)) (option_map (all_done ruling.calls) content)
rests_there most past past' t packet stored ruling content adds leaves none free holds =
    let still : held [] (headers most past t) ≡ held (gain most past t (packet, false)) (run_headers (run_behind most past t (packet, false))) = ap (λ (cs : List InboxCall). all_done cs (held [] (headers most past t))) (sym none) ∙ leaves.contents_are in
    let nothing : gain most past t (packet, false) ≡ [] = ap (λ (c : Contents). c.stored) (sym still) in
    record {
      on = other_of t;
      idle = ap (pending most past') (other_twice t) ∙ ap pending_of (headers_behind most past past' t (packet, false) adds) ∙ ap (λ (c : Contents). c.pending) (sym still) ∙ free;
      holds = ap (λ (cs : List InboxCall). option_map (all_done cs) content) none ∙ none_done content ∙ holds
          ∙ ap (λ (hs : List Heard). Some (held stored (open_headers (most (other_of t)) hs))) (sym adds.there)
          ∙ ap (λ (os : List Object). Some (held os (headers most past' (other_of t)))) (sym (append-nil stored) ∙ ap (λ (os : List Object). stored ++ os) (sym nothing));
    }

-- ---- a session hears a packet

here_at : (most : Transport → ℕ) (past : Pasts) (t on : Transport) → on ≡ other_of t → pending most past (other_of on) ≡ None → pending most past t ≡ None
here_at most past t on e idle = ap (pending most past) (sym (ap other_of e ∙ other_twice t)) ∙ idle

-- it was heard, and a call failed at it or not
pub record HeardAs (most : Transport → ℕ) (past : Pasts) (t : Transport) (packet : List ℕ) (stored : List Object) (gift : Gift) (fails : Bool) (sessions' : Sessions) (gift' : Gift) (short : Bool) : Type 0 where
  pub failed : Bool
  pub is : failed ≡ fails
  pub stands : (past' : Pasts) → Adds t (packet, failed) past past' → StandsAfter most past' (stored ++ gain most past t (packet, failed)) sessions' gift' short
  pub paid : faults_of gift'.answers + counted failed ≤ faults_of gift.answers

-- where nothing is under way over the other transport, or the packet has nothing to do with the inbox
minded : (most : Transport → ℕ) (past : Pasts) (t : Transport) (packet : List ℕ) (stored : List Object) (sessions : Sessions) (gift : Gift) → Stands most past stored sessions gift.content
    → (is_naming t packet sessions ≡ true → pending most past (other_of t) ≡ None)
    → (pending most past (other_of t) ≡ None) ⊎ ((s_on : gift.content ≡ Some (held stored (headers most past (other_of t)))) × ((ruling_on (session_of t sessions) packet).calls ≡ []) × (pending most past t ≡ None))
minded most past t packet stored sessions gift s alone =
    elim (which t s.on) [
      | inl e ↦ inl (subst (λ (u : Transport). pending most past (other_of u) ≡ None) e s.idle)
      | inr e ↦ elim (cases_Bool (is_naming t packet sessions)) [
        | inl named ↦ inl (alone named)
        | inr unnamed ↦
            let free = here_at most past t s.on e s.idle in
            let session : Serving = session_of t sessions in
            inr (
              subst (λ (u : Transport). gift.content ≡ Some (held stored (headers most past u))) e s.holds,
              quiet session.course (packet_in Request session.maximum packet) (ap is_under_way (s.progress t ∙ idle_progress (headers most past t) free)) unnamed,
              free,
            )
      ]
    ]

answered_well : (most : Transport → ℕ) (past past' : Pasts) (t : Transport) (packet : List ℕ) (stored : List Object) (sessions : Sessions) (gift : Gift) → Stands most past stored sessions gift.content → NoneShort gift.answers
    → come_of (ruling_on (session_of t sessions) packet).calls gift.answers ≡ Ok tt
    → Adds t (packet, false) past past' → (is_naming t packet sessions ≡ true → pending most past (other_of t) ≡ None)
    → StandsAfter most past' (stored ++ gain most past t (packet, false)) (answers_to t packet sessions gift).sessions (answers_to t packet sessions gift).gift (answers_to t packet sessions gift).short
answered_well most past past' t packet stored sessions gift s enough well adds alone =
    let session : Serving = session_of t sessions in
    let ruling : Ruling = ruling_on session packet in
    let turn = heard_with session packet gift.answers in
    let leaves = λ (os : List Object). leaves_it most past t packet session os (s.maxima t) (s.progress t) in
    let come = ap (verdict_or ruling.verdict) well in
    let rests : Settles most past' (stored ++ gain most past t (packet, false)) (option_map (all_done ruling.calls) gift.content) =
    elim (minded most past t packet stored sessions gift s alone) [
      | inl free ↦ rests_here most past past' t packet stored ruling gift.content adds (leaves stored) free (holds_on most past stored sessions gift.content t s free)
      | inr still ↦ rests_there most past past' t packet stored ruling gift.content adds (leaves []) still.1 still.2 still.0
    ] in
    record {
      stands = record {
        maxima = either_way (λ u. (session_of u (with_session t turn.session sessions)).maximum ≡ most u) t (ap (λ (x : Serving). x.maximum) (same_session t turn.session sessions) ∙ s.maxima t)
            (ap (λ (x : Serving). x.maximum) (other_session t turn.session sessions) ∙ s.maxima (other_of t));
        progress = either_way (λ u. progress_in (session_of u (with_session t turn.session sessions)).course ≡ progress_of (headers most past' u)) t
            (ap (λ (x : Serving). progress_in x.course) (same_session t turn.session sessions)
            ∙ progress_behind session.offered session.course (kind_heard session packet) (outcome_on session packet gift.answers) ∙ ap progress_after come ∙ (leaves stored).progress_is
            ∙ ap progress_of (sym (headers_behind most past past' t (packet, false) adds)))
            (ap (λ (x : Serving). progress_in x.course) (other_session t turn.session sessions) ∙ s.progress (other_of t) ∙ ap (λ (hs : List Heard). progress_of (open_headers (most (other_of t)) hs)) (sym adds.there));
        on = rests.on;
        idle = rests.idle;
        holds = held_done ruling.calls gift.answers gift.content well ∙ rests.holds;
      };
      none_short = left_enough ruling.calls gift.answers enough;
      enough = ap (λ o. is_shortage (said_after session.offered session.course (kind_heard session packet) o)) come ∙ spoken session.offered session.course (kind_heard session packet) ruling.verdict;
    }

no_fault_come : (fault : PortFault) → (let answer : Answer = Ok tt in answer) ≡ Err fault → ⊥
no_fault_come fault e = cc

-- where a call failed nothing is under way over this transport
answered_badly : (most : Transport → ℕ) (past past' : Pasts) (t : Transport) (packet : List ℕ) (stored : List Object) (sessions : Sessions) (gift : Gift) → Stands most past stored sessions gift.content → NoneShort gift.answers
    → come_of (ruling_on (session_of t sessions) packet).calls gift.answers ≡ Err Failed
    → Adds t (packet, true) past past' → (is_naming t packet sessions ≡ true → pending most past (other_of t) ≡ None)
    → StandsAfter most past' (stored ++ gain most past t (packet, true)) (answers_to t packet sessions gift).sessions (answers_to t packet sessions gift).gift (answers_to t packet sessions gift).short
answered_badly most past past' t packet stored sessions gift s enough badly adds alone =
    let session : Serving = session_of t sessions in
    let ruling : Ruling = ruling_on session packet in
    let turn = heard_with session packet gift.answers in
    let come = ap (verdict_or ruling.verdict) badly in
    let cleared : headers most past' t ≡ [] = headers_behind most past past' t (packet, true) adds in
    let free : pending most past (other_of t) ≡ None =
    elim (minded most past t packet stored sessions gift s alone) [
      | inl free ↦ free
      | inr still ↦ absurd (no_fault_come Failed (sym (ap (λ (cs : List InboxCall). come_of cs gift.answers) still.1) ∙ badly))
    ] in
    record {
      stands = record {
        maxima = either_way (λ u. (session_of u (with_session t turn.session sessions)).maximum ≡ most u) t (ap (λ (x : Serving). x.maximum) (same_session t turn.session sessions) ∙ s.maxima t)
            (ap (λ (x : Serving). x.maximum) (other_session t turn.session sessions) ∙ s.maxima (other_of t));
        progress = either_way (λ u. progress_in (session_of u (with_session t turn.session sessions)).course ≡ progress_of (headers most past' u)) t
            (ap (λ (x : Serving). progress_in x.course) (same_session t turn.session sessions)
            ∙ progress_behind session.offered session.course (kind_heard session packet) (outcome_on session packet gift.answers) ∙ ap progress_after come ∙ ap progress_of (sym cleared))
            (ap (λ (x : Serving). progress_in x.course) (other_session t turn.session sessions) ∙ s.progress (other_of t) ∙ ap (λ (hs : List Heard). progress_of (open_headers (most (other_of t)) hs)) (sym adds.there));
        on = t;
        idle = ap (λ (hs : List Heard). pending_of (open_headers (most (other_of t)) hs)) adds.there ∙ free;
        holds = held_failed ruling.calls gift.answers gift.content Failed (ruling_last session.course (packet_in Request session.maximum packet)) badly ∙ ap (option_map aborted) (holds_on most past stored sessions gift.content t s free)
            ∙ ap (λ (hs : List PlainHeader). Some (held stored hs)) (sym cleared) ∙ ap (λ (os : List Object). Some (held os (headers most past' t))) (sym (append-nil stored));
      };
      none_short = left_enough ruling.calls gift.answers enough;
      enough = ap (λ o. is_shortage (said_after session.offered session.course (kind_heard session packet) o)) come ∙ spoken_failed session.offered session.course (kind_heard session packet);
    }

answered_by : (come : Answer) (most : Transport → ℕ) (past : Pasts) (t : Transport) (packet : List ℕ) (stored : List Object) (sessions : Sessions) (gift : Gift) → come_of (ruling_on (session_of t sessions) packet).calls gift.answers ≡ come
    → Stands most past stored sessions gift.content → NoneShort gift.answers → (is_naming t packet sessions ≡ true → pending most past (other_of t) ≡ None)
    → HeardAs most past t packet stored gift (come_fails t packet sessions gift.answers) (answers_to t packet sessions gift).sessions (answers_to t packet sessions gift).gift (answers_to t packet sessions gift).short
answered_by (Ok done) most past t packet stored sessions gift e s enough alone = record {
  failed = false;
  is = sym (ap is_err e);
  stands = λ past' adds. answered_well most past past' t packet stored sessions gift s enough e adds alone;
  paid = subst (λ (a : Answer). faults_of (left_by (ruling_on (session_of t sessions) packet).calls gift.answers) + counted (is_err a) ≤ faults_of gift.answers) e (left_faults (ruling_on (session_of t sessions) packet).calls gift.answers);
}
answered_by (Err Failed) most past t packet stored sessions gift e s enough alone = record {
  failed = true;
  is = sym (ap is_err e);
  stands = λ past' adds. answered_badly most past past' t packet stored sessions gift s enough e adds alone;
  paid = subst (λ (a : Answer). faults_of (left_by (ruling_on (session_of t sessions) packet).calls gift.answers) + counted (is_err a) ≤ faults_of gift.answers) e (left_faults (ruling_on (session_of t sessions) packet).calls gift.answers);
}
answered_by (Err NoMemory) most past t packet stored sessions gift e s enough alone = absurd (come_enough (ruling_on (session_of t sessions) packet).calls gift.answers enough e)

-- ---- a session lets go of its object

come_short : (come : Answer) → (come ≡ Err NoMemory → ⊥) → is_short come ≡ false
come_short (Ok done) n = refl
come_short (Err Failed) n = refl
come_short (Err NoMemory) n = absurd (n refl)

pub gone : (most : Transport → ℕ) (past past' : Pasts) (t : Transport) (stored : List Object) (sessions : Sessions) (gift : Gift) → Stands most past stored sessions gift.content → NoneShort gift.answers
    → pending most past' t ≡ None → past' (other_of t) ≡ past (other_of t) → StandsAfter most past' stored (lets_go t sessions gift).sessions (lets_go t sessions gift).gift (lets_go t sessions gift).short
gone most past past' t stored sessions gift s enough cleared there =
    let session : Serving = session_of t sessions in
    let calls : List InboxCall = aborts (progress_in session.course) in
    let other_same : headers most past' (other_of t) ≡ headers most past (other_of t) = ap (open_headers (most (other_of t))) there in
    let here = λ (free : pending most past (other_of t) ≡ None). (let r : Settles most past' stored (option_map (all_done calls) gift.content) = record {
      on = t;
      idle = ap pending_of other_same ∙ free;
      holds = ap (option_map (all_done calls)) (holds_on most past stored sessions gift.content t s free)
          ∙ ap Some (ap (λ (p : Progress). all_done (aborts p) (held stored (headers most past t))) (s.progress t) ∙ let_go (headers most past t) stored)
          ∙ ap (λ (p : Option Object). Some (record { stored = stored; pending = p })) (sym cleared);
    } in r) in
    let elsewhere = λ (e : s.on ≡ other_of t). (let r : Settles most past' stored (option_map (all_done calls) gift.content) = record {
      on = other_of t;
      idle = ap (pending most past') (other_twice t) ∙ cleared;
      holds = ap (λ (cs : List InboxCall). option_map (all_done cs) gift.content) (no_aborts (progress_in session.course) (ap is_under_way (s.progress t ∙ idle_progress (headers most past t) (here_at most past t s.on e s.idle))))
          ∙ none_done gift.content ∙ subst (λ (u : Transport). gift.content ≡ Some (held stored (headers most past u))) e s.holds ∙ ap (λ (hs : List PlainHeader). Some (held stored hs)) (sym other_same);
    } in r) in
    let rests : Settles most past' stored (option_map (all_done calls) gift.content) =
    elim (which t s.on) [ inl e ↦ here (subst (λ (u : Transport). pending most past (other_of u) ≡ None) e s.idle) | inr e ↦ elsewhere e ] in
    record {
      stands = record {
        maxima = either_way (λ u. (session_of u (with_session t (rested session) sessions)).maximum ≡ most u) t (ap (λ (x : Serving). x.maximum) (same_session t (rested session) sessions) ∙ s.maxima t)
            (ap (λ (x : Serving). x.maximum) (other_session t (rested session) sessions) ∙ s.maxima (other_of t));
        progress = either_way (λ u. progress_in (session_of u (with_session t (rested session) sessions)).course ≡ progress_of (headers most past' u)) t
            (ap (λ (x : Serving). progress_in x.course) (same_session t (rested session) sessions) ∙ sym (idle_progress (headers most past' t) cleared))
            (ap (λ (x : Serving). progress_in x.course) (other_session t (rested session) sessions) ∙ s.progress (other_of t) ∙ ap progress_of (sym other_same));
        on = rests.on;
        idle = rests.idle;
        holds = abort_held (progress_in session.course) gift.answers gift.content ∙ rests.holds;
      };
      none_short = left_enough calls gift.answers enough;
      enough = come_short (come_of calls gift.answers) (come_enough calls gift.answers enough);
    }

pub gone_paid : (t : Transport) (sessions : Sessions) (gift : Gift) → faults_of (lets_go t sessions gift).gift.answers ≤ faults_of gift.answers
gone_paid t sessions gift = let paid = left_faults (aborts (progress_in (session_of t sessions).course)) gift.answers in omega arith

-- ---- a packet comes

abbrev HeardWell : (Transport → ℕ) → Pasts → Transport → List ℕ → List Object → Gift → Bool → model.Heard → Type 0
HeardWell most past t packet stored gift fails h = HeardAs most past t packet stored gift fails h.sessions h.gift h.short

pub heard : (most : Transport → ℕ) (past : Pasts) (t : Transport) (packet : List ℕ) (stored : List Object) (sessions : Sessions) (gift : Gift) → Stands most past stored sessions gift.content → NoneShort gift.answers
    → (is_naming t packet sessions ≡ true → pending most past (other_of t) ≡ None)
    → HeardAs most past t packet stored gift (come_fails t packet sessions gift.answers) (hears t packet sessions gift).sessions (hears t packet sessions gift).gift (hears t packet sessions gift).short
heard most past t packet stored sessions gift s enough alone =
    cond_both (is_naming t packet sessions) _ _ (HeardWell most past t packet stored gift (come_fails t packet sessions gift.answers))
    (λ named.
    let free = alone named in
    let parted = lets_go (other_of t) sessions gift in
    let before = gone most past past (other_of t) stored sessions gift s enough free refl in
    let then = answered_by (come_of (ruling_on (session_of t parted.sessions) packet).calls parted.gift.answers) most past t packet stored parted.sessions parted.gift refl before.stands before.none_short (λ again. free) in
    let none : aborts (progress_in (session_of (other_of t) sessions).course) ≡ [] = no_aborts (progress_in (session_of (other_of t) sessions).course) (ap is_under_way (s.progress (other_of t) ∙ idle_progress (headers most past (other_of t)) free)) in
    let same : come_fails t packet parted.sessions parted.gift.answers ≡ come_fails t packet sessions gift.answers =
    ap (λ (x : Serving). is_err (come_of (ruling_on x packet).calls parted.gift.answers)) (kept_session t (rested (session_of (other_of t) sessions)) sessions)
    ∙ ap (λ (cs : List InboxCall). come_fails t packet sessions (left_by cs gift.answers)) none in
    subst (HeardWell most past t packet stored gift (come_fails t packet sessions gift.answers)) (sym (cond-false parted.short _ (answers_to t packet parted.sessions parted.gift) before.enough))
    (record { failed = then.failed; is = then.is ∙ same; stands = then.stands; paid = (let first = gone_paid (other_of t) sessions gift in let second = then.paid in omega arith) }))
    (λ unnamed. answered_by (come_of (ruling_on (session_of t sessions) packet).calls gift.answers) most past t packet stored sessions gift refl s enough (λ named. alone named))
