-- What a session does with a packet, from what was heard and what was said.
use Rattle.std.proofs.Common.{Bool, true, false, cond, ◌≡◌, ℕ, List, [], ◌∷◌, ◌++◌, Option, Some, None, Result, Ok, Err, refl, sym, ap, subst, ◌∙◌}
use Rattle.std.specs.Prelude.{is_err}
use Rattle.std.specs.Option.{option_map}
use Rattle.bt_base.specs.Counts.{HasCause}
use Rattle.bt_base.specs.Objects.{Object, Contents, aborted}
use Rattle.bt_base.specs.declared.ports.PortFault.{PortFault}
use Rattle.bt_base.specs.declared.ports.PortFault.TheVariants.{Failed, NoMemory}
use Rattle.obex_session.specs.declared.course.Course.{Course}
use Rattle.obex_session.specs.declared.course.Course.TheVariants.{Rests, Ignores, Runs}
use Rattle.obex_session.specs.declared.course.Progress.TheVariants.{Unnamed}
use Rattle.obex_session.specs.declared.course.Verdict.{Verdict}
use Rattle.obex_session.specs.declared.course.Verdict.TheVariants.{Open, Whole, Ended, PassedOver}
use Rattle.obex_session.specs.declared.marks.Kind.{Kind}
use Rattle.obex_session.specs.declared.responding.Saying.{Saying}
use Rattle.obex_session.specs.declared.server.Reply.{Reply}
use Rattle.obex_session.specs.InboxCalls.{InboxCall, Answer, come_of, left_by, held_after, all_done}
use Rattle.obex_session.specs.Hearing.{Heeds, progress_after}
use Rattle.obex_session.specs.Rules.{progress_in}
use Rattle.obex_session.specs.Turns.{is_followed, without_object, course_after, said_after}
use Rattle.obex_session.specs.Past.{Heard, Serving, StandsFor}
use Rattle.obex_session.specs.Serving.{Turn, kind_heard, ruling_on, verdict_or, turn_by, Says, Hears}
use Rattle.obex_session.proofs.PastLaws.{after_packet, after_fault}

-- ---- answers that grant all calls

abbrev granted : List InboxCall → List Answer
granted [] = []
granted (call ∷ calls) = Ok tt ∷ granted calls

all_granted : (calls : List InboxCall) (rest : List Answer) → come_of calls (granted calls ++ rest) ≡ Ok tt
all_granted [] rest = refl
all_granted (call ∷ calls) rest = all_granted calls rest

none_over : (calls : List InboxCall) (rest : List Answer) → left_by calls (granted calls ++ rest) ≡ rest
none_over [] rest = refl
none_over (call ∷ calls) rest = none_over calls rest

come_granted : (calls : List InboxCall) → come_of calls (granted calls) ≡ Ok tt
come_granted [] = refl
come_granted (call ∷ calls) = come_granted calls

done_in_turn : (call : InboxCall) (calls : List InboxCall) (content : Option Contents) → option_map (all_done calls) (option_map (all_done (call ∷ [])) content) ≡ option_map (all_done (call ∷ calls)) content
done_in_turn call calls None = refl
done_in_turn call calls (Some contents) = refl

held_granted : (calls : List InboxCall) (content : Option Contents) → held_after calls (granted calls) content ≡ option_map (all_done calls) content
held_granted [] None = refl
held_granted [] (Some contents) = refl
held_granted (call ∷ calls) content = held_granted calls (option_map (all_done (call ∷ [])) content) ∙ done_in_turn call calls content

-- ---- the course behind a packet

refused_rests : (followed : Bool) → progress_in (cond followed Ignores Rests) ≡ Unnamed
refused_rests true = refl
refused_rests false = refl

passed_rests : (final : Bool) → progress_in (cond final Rests Ignores) ≡ Unnamed
passed_rests true = refl
passed_rests false = refl

rests_without : (course : Course) → progress_in (without_object course) ≡ Unnamed
rests_without Rests = refl
rests_without Ignores = refl
rests_without (Runs progress single) = refl

pub progress_behind : (offered : Bool) (course : Course) (kind : Kind) (outcome : Result Verdict PortFault) → progress_in (course_after offered course kind outcome) ≡ progress_after outcome
progress_behind offered course kind (Ok (Open progress)) = refl
progress_behind offered course kind (Ok Whole) = refl
progress_behind offered course kind (Ok (Ended code)) = refused_rests (is_followed course kind)
progress_behind offered course kind (Ok (PassedOver final)) = passed_rests final
progress_behind offered course kind (Err Failed) = refused_rests (is_followed course kind)
progress_behind offered course kind (Err NoMemory) = rests_without course

-- ---- the causes are those of the calls

abbrev ok_of : {A : Type 0} → A → Result A PortFault
ok_of x = Ok x

abbrev err_of : {A : Type 0} → PortFault → Result A PortFault
err_of fault = Err fault

no_fault : (fault : PortFault) → ok_of {A = Unit {0}} tt ≡ err_of fault → ⊥
no_fault fault e = cc

same_fault : {A B : Type 0} (a b : PortFault) → err_of {A = A} a ≡ err_of b → err_of {A = B} a ≡ err_of b
same_fault a b e = let same : a ≡ b = cc in ap (λ (x : PortFault). err_of x) same

other_fault : {A : Type 0} (x : A) (fault : PortFault) → ok_of {A = A} x ≡ err_of fault → ⊥
other_fault x fault e = cc

ok_cause : (f f' s s' : ℕ) (x : Verdict) → HasCause {A = Verdict} f f' s s' (Ok x) → HasCause {A = Unit {0}} f f' s s' (Ok tt)
ok_cause f f' s s' x cause = record {
  faults_stay = cause.faults_stay;
  shortages_stay = cause.shortages_stay;
  failed = λ e. absurd (no_fault Failed e);
  short = λ e. absurd (no_fault NoMemory e);
  only_failed = λ lt. absurd (other_fault x Failed (cause.only_failed lt));
  only_short = λ lt. absurd (other_fault x NoMemory (cause.only_short lt));
}

err_cause : (f f' s s' : ℕ) (fault : PortFault) → HasCause {A = Verdict} f f' s s' (Err fault) → HasCause {A = Unit {0}} f f' s s' (Err fault)
err_cause f f' s s' fault cause = record {
  faults_stay = cause.faults_stay;
  shortages_stay = cause.shortages_stay;
  failed = λ e. cause.failed (same_fault fault Failed e);
  short = λ e. cause.short (same_fault fault NoMemory e);
  only_failed = λ lt. same_fault fault Failed (cause.only_failed lt);
  only_short = λ lt. same_fault fault NoMemory (cause.only_short lt);
}

-- ---- a turn

-- all of a packet that was heard
pub record Came (session session' : Serving) (packet : List ℕ) (kind : Kind) (saying : Saying) (content content' : Option Contents) (f f' s s' : ℕ) (room room' : List ℕ) (answer : Reply) (outcome : Result Verdict PortFault) : Type 0 where
  pub kind_is : kind ≡ kind_heard session packet
  pub heeds : Heeds (ruling_on session packet) content content' f f' s s' outcome
  pub session_is : session' ≡ record session { course = course_after session.offered session.course kind outcome }
  pub saying_is : saying ≡ said_after session.offered session.course kind outcome
  pub says : Says packet session.maximum saying room room' answer

abbrev turned : Serving → Saying → List Answer → Turn
turned session saying left = record { session = session; saying = saying; left = left }

same_turn : (a b : Serving) (x y : Saying) (l m : List Answer) → a ≡ b → x ≡ y → l ≡ m → turned a x l ≡ turned b y m
same_turn a b x y l m e f g = cc

turn_is : (session session' : Serving) (packet : List ℕ) (kind : Kind) (saying : Saying) (outcome outcome' : Result Verdict PortFault) (left left' : List Answer) → kind ≡ kind_heard session packet → outcome' ≡ outcome → left' ≡ left
    → session' ≡ record session { course = course_after session.offered session.course kind outcome } → saying ≡ said_after session.offered session.course kind outcome
    → turn_by session (kind_heard session packet) outcome' left' ≡ turned session' saying left
turn_is session session' packet kind saying outcome outcome' left left' k o l s t =
    ap (λ (x : Kind). turn_by session x outcome' left') (sym k) ∙ ap (λ (x : Result Verdict PortFault). turn_by session kind x left') o ∙ same_turn _ _ _ _ left' left (sym s) (sym t) l

course_is : (session session' : Serving) (kind : Kind) (outcome : Result Verdict PortFault) → session' ≡ record session { course = course_after session.offered session.course kind outcome } → progress_in session'.course ≡ progress_after outcome
course_is session session' kind outcome e = ap (λ (x : Serving). progress_in x.course) e ∙ progress_behind session.offered session.course kind outcome

heard_faultless : (come : Answer) (past : List Heard) (packet : List ℕ) (before : List Object) (session : Serving) (content : Option Contents) (failed : Bool) → is_err come ≡ failed → StandsFor before (past ++ (packet, failed) ∷ []) session content
    → StandsFor before (past ++ (packet, is_err come) ∷ []) session content
heard_faultless come past packet before session content failed e stands = subst (λ (b : Bool). StandsFor before (past ++ (packet, b) ∷ []) session content) (sym e) stands

fault_met : (calls : List InboxCall) (fault : PortFault) (rest : List Answer) → (calls ≡ [] → false ≡ true) → come_of calls (Err fault ∷ rest) ≡ Err fault
fault_met [] fault rest some = absurd (let never = some refl in cc)
fault_met (call ∷ calls) fault rest some = refl

fault_used : (calls : List InboxCall) (fault : PortFault) (rest : List Answer) → (calls ≡ [] → false ≡ true) → left_by calls (Err fault ∷ rest) ≡ rest
fault_used [] fault rest some = absurd (let never = some refl in cc)
fault_used (call ∷ calls) fault rest some = refl

fault_held : (calls : List InboxCall) (fault : PortFault) (content : Option Contents) → (calls ≡ [] → false ≡ true) → held_after calls (Err fault ∷ []) content ≡ option_map aborted content
fault_held [] fault content some = absurd (let never = some refl in cc)
fault_held (call ∷ calls) fault content some = refl

pub hears : (outcome : Result Verdict PortFault) (session session' : Serving) (packet : List ℕ) (kind : Kind) (saying : Saying) (content content' : Option Contents) (f f' s s' : ℕ) (room room' : List ℕ) (answer : Reply)
    → Came session session' packet kind saying content content' f f' s s' room room' answer outcome → Hears session session' packet content content' f f' s s' room room' answer
hears (Ok verdict) session session' packet kind saying content content' f f' s s' room room' answer came =
    let ruling = ruling_on session packet in
    record {
      used = granted ruling.calls;
      saying = saying;
      turn = λ rest.
          turn_is session session' packet kind saying (Ok verdict) _ rest _ came.kind_is (ap (verdict_or ruling.verdict) (all_granted ruling.calls rest) ∙ ap (λ (v : Verdict). ok_of v) (sym came.heeds.verdict)) (none_over ruling.calls rest) came.session_is came.saying_is;
      content_is = came.heeds.content_is ∙ sym (held_granted ruling.calls content);
      cause = subst (HasCause f f' s s') (sym (come_granted ruling.calls)) (ok_cause f f' s s' verdict came.heeds.cause);
      says = came.says;
      history = λ before past stands.
          heard_faultless (come_of ruling.calls (granted ruling.calls)) past packet before session' content' false (ap is_err (come_granted ruling.calls))
          (after_packet before past session session' content content' packet ruling stands (ap (λ (x : Serving). x.maximum) came.session_is) refl
          (course_is session session' kind (Ok verdict) came.session_is ∙ ap (λ (v : Verdict). progress_after (Ok v)) came.heeds.verdict) came.heeds.content_is);
    }
hears (Err fault) session session' packet kind saying content content' f f' s s' room room' answer came =
    let ruling = ruling_on session packet in
    record {
      used = Err fault ∷ [];
      saying = saying;
      turn = λ rest.
          turn_is session session' packet kind saying (Err fault) _ rest _ came.kind_is (ap (verdict_or ruling.verdict) (fault_met ruling.calls fault rest came.heeds.sure)) (fault_used ruling.calls fault rest came.heeds.sure) came.session_is came.saying_is;
      content_is = came.heeds.content_is ∙ sym (fault_held ruling.calls fault content came.heeds.sure);
      cause = subst (HasCause f f' s s') (sym (fault_met ruling.calls fault [] came.heeds.sure)) (err_cause f f' s s' fault came.heeds.cause);
      says = came.says;
      history = λ before past stands.
          heard_faultless (come_of ruling.calls (Err fault ∷ [])) past packet before session' content' true (ap is_err (fault_met ruling.calls fault [] came.heeds.sure))
          (after_fault before past session session' content content' packet stands (ap (λ (x : Serving). x.maximum) came.session_is) (course_is session session' kind (Err fault) came.session_is) came.heeds.content_is);
    }
