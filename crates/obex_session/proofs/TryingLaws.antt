-- The calls of a session over any list of packets, whatever its inbox answers.
use Rattle.std.proofs.Common.{Bool, true, false, ◌||◌, ◌≡◌, ℕ, List, [], ◌∷◌, ◌++◌, Option, Some, None, Ok, Err, refl, sym, ap, ◌∙◌, arith, append_assoc, if◌then◌else◌}
use Rattle.std.specs.Prelude.{is_err}
use Rattle.std.specs.List.{flat_map}
use Rattle.bt_base.specs.declared.ports.PortFault.{PortFault}
use Rattle.obex_headers.specs.declared.packet.Phase.TheVariants.{Request}
use Rattle.obex_headers.specs.Packets.{PlainPacket}
use Rattle.obex_headers.specs.Reading.{packet_in}
use Rattle.obex_headers.specs.Runs.{put_of, run_headers, breaks, is_final, KeepsRules}
use Rattle.obex_session.specs.Calls.{calls_of, stretch_calls}
use Rattle.obex_session.specs.Hearing.{progress_after}
use Rattle.obex_session.specs.InboxCalls.{InboxCall, Answer, come_of, left_by}
use Rattle.obex_session.specs.Past.{Serving, put_heard, open_from, progress_of}
use Rattle.obex_session.specs.Rules.{aborts, progress_in}
use Rattle.obex_session.specs.Serving.{kind_heard, ruling_on, verdict_or, outcome_on, heard_with}
use Rattle.obex_session.specs.Views.{rested}
use Rattle.obex_session.proofs.CallLaws.{aborts_behind, packet_called, calls_from, puts_within, calls_fall, open_falls}
use Rattle.obex_session.proofs.PastLaws.{packet_leaves, open_keeps}
use Rattle.obex_session.proofs.TurnLaws.{progress_behind}
use Rattle.obex_session.specs.Tried.{tried_by, calls_tried, session_left, calls_behind, run_behind, calls_due, run_left, InboxIsCalledInRuns, InboxIsCalledAnew}

pub nothing_kept : KeepsRules []
nothing_kept = record { one_name = omega arith; short_name = tt; name_first = refl; bounded = omega arith }

-- ---- one packet

module _ (session : Serving) (packet : List ℕ) (run : List PlainPacket) (answers : List Answer) (k : KeepsRules (run_headers run)) (p : progress_in session.course ≡ progress_of (run_headers run)) where
  abbrev pub most : ℕ
  most = session.maximum

  abbrev pub asked : List InboxCall
  asked = (ruling_on session packet).calls

  pub called : asked ≡ calls_behind most run packet
  called = packet_called session.course (run_headers run) (packet_in Request most packet) k p

  progress_by : (come : Answer) → progress_after (verdict_or (ruling_on session packet).verdict come) ≡ progress_of (run_headers (open_from run (put_heard most (packet, is_err come) ∷ [])))
  progress_by (Ok done) = let leaves = packet_leaves session.course run (packet_in Request most packet) [] k p in leaves.progress_is
  progress_by (Err fault) = refl

  pub progress_next : progress_in (heard_with session packet answers).session.course ≡ progress_of (run_headers (run_behind most run packet answers))
  progress_next =
      progress_behind session.offered session.course (kind_heard session packet) (outcome_on session packet answers) ∙ progress_by (come_of asked answers)
      ∙ ap (λ (calls : List InboxCall). progress_of (run_headers (open_from run (put_heard most (packet, is_err (come_of calls answers)) ∷ [])))) called

-- ---- packet after packet

record Called (session : Serving) (run : List PlainPacket) (packets : List (List ℕ)) (answers : List Answer) : Type 0 where
  calls : calls_tried session packets answers ≡ calls_due session.maximum run packets answers
  progress : progress_in (session_left session packets answers).course ≡ progress_of (run_headers (run_left session.maximum run packets answers))

all_called : (packets : List (List ℕ)) (session : Serving) (run : List PlainPacket) (answers : List Answer) → KeepsRules (run_headers run) → progress_in session.course ≡ progress_of (run_headers run) → Called session run packets answers
all_called [] session run answers k p = record { calls = refl; progress = p }
all_called (packet ∷ packets) session run answers k p =
    let most = session.maximum in
    let turn = heard_with session packet answers in
    let is = called session packet run answers k p in
    let behind : List PlainPacket = run_behind most run packet answers in
    let later = all_called packets turn.session behind turn.left (open_keeps run (put_heard most (packet, is_err (come_of (calls_behind most run packet) answers)) ∷ []) k) (progress_next session packet run answers k p) in
    let left : turn.left ≡ left_by (calls_behind most run packet) answers = ap (λ (calls : List InboxCall). left_by calls answers) is in
    record {
      calls = ap (λ (calls : List InboxCall). tried_by calls answers ++ calls_tried turn.session packets turn.left) is
          ∙ ap (λ (calls : List InboxCall). tried_by (calls_behind most run packet) answers ++ calls) (later.calls ∙ ap (calls_due most behind packets) left);
      progress = later.progress ∙ ap (λ (rest : List Answer). progress_of (run_headers (run_left most behind packets rest))) left;
    }

first_called : (session : Serving) (packets : List (List ℕ)) (answers : List Answer) → Called (rested session) [] packets answers
first_called session packets answers = all_called packets (rested session) [] answers nothing_kept refl

pub inbox-is_called_in_runs : InboxIsCalledInRuns
inbox-is_called_in_runs session packets answers =
    let so = first_called session packets answers in
    record { calls = so.calls; down = ap aborts so.progress ∙ aborts_behind (run_headers (run_left session.maximum [] packets answers)) }

-- ---- where all calls are granted

not_ok : {A : Type 0} (fault : PortFault) → (let come : Answer = Err fault in come) ≡ Ok tt → A
not_ok fault e = absurd cc

-- the calls of a front are granted
front_granted : (front rest : List InboxCall) (answers : List Answer) → come_of (front ++ rest) answers ≡ Ok tt → come_of front answers ≡ Ok tt
front_granted [] rest answers e = refl
front_granted (call ∷ front) rest [] e = refl
front_granted (call ∷ front) rest (Ok done ∷ answers) e = front_granted front rest answers e
front_granted (call ∷ front) rest (Err fault ∷ answers) e = not_ok fault e

none_fails : (calls : List InboxCall) → come_of calls [] ≡ Ok tt
none_fails [] = refl
none_fails (call ∷ calls) = refl

none_left : (calls : List InboxCall) → left_by calls [] ≡ []
none_left [] = refl
none_left (call ∷ calls) = refl

-- then they are all made, and the others are given what is left
rest_come : (front rest : List InboxCall) (answers : List Answer) → come_of front answers ≡ Ok tt → come_of (front ++ rest) answers ≡ come_of rest (left_by front answers)
rest_come [] rest answers e = refl
rest_come (call ∷ front) rest [] e = sym (none_fails rest)
rest_come (call ∷ front) rest (Ok done ∷ answers) e = rest_come front rest answers e
rest_come (call ∷ front) rest (Err fault ∷ answers) e = not_ok fault e

rest_left : (front rest : List InboxCall) (answers : List Answer) → come_of front answers ≡ Ok tt → left_by (front ++ rest) answers ≡ left_by rest (left_by front answers)
rest_left [] rest answers e = refl
rest_left (call ∷ front) rest [] e = sym (none_left rest)
rest_left (call ∷ front) rest (Ok done ∷ answers) e = rest_left front rest answers e
rest_left (call ∷ front) rest (Err fault ∷ answers) e = not_ok fault e

all_tried : (calls : List InboxCall) (answers : List Answer) → come_of calls answers ≡ Ok tt → tried_by calls answers ≡ calls
all_tried [] answers e = refl
all_tried (call ∷ calls) [] e = ap (λ (cs : List InboxCall). call ∷ cs) (all_tried calls [] (none_fails calls))
all_tried (call ∷ calls) (Ok done ∷ answers) e = ap (λ (cs : List InboxCall). call ∷ cs) (all_tried calls answers e)
all_tried (call ∷ calls) (Err fault ∷ answers) e = not_ok fault e

-- a run is opened packet after packet
open_if : (over : Bool) (run : List PlainPacket) (rest : List (Option PlainPacket)) → (if over then open_from [] rest else open_from run rest) ≡ open_from (if over then [] else run) rest
open_if true run rest = refl
open_if false run rest = refl

open_again : (run : List PlainPacket) (put : Option PlainPacket) (rest : List (Option PlainPacket)) → open_from run (put ∷ rest) ≡ open_from (open_from run (put ∷ [])) rest
open_again run None rest = refl
open_again run (Some put) rest = open_if (breaks (run_headers (run ++ put ∷ [])) || is_final put) (run ++ put ∷ []) rest

-- packets whose calls are granted, and those behind them
due_front : (maximum : ℕ) (front rest : List (List ℕ)) (run : List PlainPacket) (answers : List Answer) → (let calls = calls_from run (puts_within maximum front) in come_of calls answers ≡ Ok tt
    → calls_due maximum run (front ++ rest) answers ≡ calls ++ calls_due maximum (open_from run (puts_within maximum front)) rest (left_by calls answers))
due_front maximum [] rest run answers e = refl
due_front maximum (packet ∷ front) rest run answers e =
    let put : Option PlainPacket = put_of (packet_in Request maximum packet) in
    let now : List InboxCall = calls_behind maximum run packet in
    let next : List PlainPacket = open_from run (put ∷ []) in
    let then' : List InboxCall = calls_from next (puts_within maximum front) in
    let come : come_of now answers ≡ Ok tt = front_granted now then' answers e in
    let later : come_of then' (left_by now answers) ≡ Ok tt = sym (rest_come now then' answers come) ∙ e in
    let behind : run_behind maximum run packet answers ≡ next = ap (λ (a : Answer). open_from run (put_heard maximum (packet, is_err a) ∷ [])) come in
    ap (λ (cs : List InboxCall). cs ++ calls_due maximum (run_behind maximum run packet answers) (front ++ rest) (left_by now answers)) (all_tried now answers come)
    ∙ ap (λ (r : List PlainPacket). now ++ calls_due maximum r (front ++ rest) (left_by now answers)) behind
    ∙ ap (λ (cs : List InboxCall). now ++ cs) (due_front maximum front rest next (left_by now answers) later)
    ∙ sym (append_assoc now then' (calls_due maximum (open_from next (puts_within maximum front)) rest (left_by then' (left_by now answers))))
    ∙ ap (λ (r : List PlainPacket). (now ++ then') ++ calls_due maximum r rest (left_by then' (left_by now answers))) (sym (open_again run put (puts_within maximum front)))
    ∙ ap (λ (left : List Answer). (now ++ then') ++ calls_due maximum (open_from run (put ∷ puts_within maximum front)) rest left) (sym (rest_left now then' answers come))

pub inbox-is_called_anew : InboxIsCalledAnew
inbox-is_called_anew session packets objects falls packet rest answers fault granted failing =
    let maximum = session.maximum in
    let puts : List (Option PlainPacket) = puts_within maximum packets in
    let due : List InboxCall = calls_from [] puts in
    let is : due ≡ flat_map stretch_calls falls.stretches ++ calls_of (run_headers falls.open_run) = calls_fall puts objects falls in
    let run : open_from [] puts ≡ falls.open_run = open_falls puts objects falls in
    let calls : List InboxCall = calls_behind maximum falls.open_run packet in
    let come : come_of due answers ≡ Ok tt = ap (λ (cs : List InboxCall). come_of cs answers) is ∙ granted in
    let left : List Answer = left_by due answers in
    let so = first_called session (packets ++ packet ∷ rest) answers in
    let anew = first_called session rest (left_by calls left) in
    let failed : come_of calls left ≡ Err fault = ap (λ (cs : List InboxCall). come_of calls (left_by cs answers)) is ∙ failing in
    let over : run_behind maximum falls.open_run packet left ≡ [] = ap (λ (a : Answer). open_from falls.open_run (put_heard maximum (packet, is_err a) ∷ [])) failed in
    so.calls ∙ due_front maximum packets (packet ∷ rest) [] answers come
    ∙ ap (λ (r : List PlainPacket). due ++ calls_due maximum r (packet ∷ rest) left) run
    ∙ ap (λ (r : List PlainPacket). due ++ (tried_by calls left ++ calls_due maximum r rest (left_by calls left))) over
    ∙ ap (λ (cs : List InboxCall). due ++ (tried_by calls left ++ cs)) (sym anew.calls)
    ∙ ap (λ (cs : List InboxCall). cs ++ (tried_by calls (left_by cs answers) ++ calls_tried (rested session) rest (left_by calls (left_by cs answers)))) is
