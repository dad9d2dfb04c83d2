-- What comes and goes for a server on the channel of its multiplexer is covered on each link, where its credits since the last closing are a number at each moment.
use Rattle.std.proofs.Common.{arith, ◌≡◌, ◌≤◌, ◌-◌, ℕ, ◌+◌, ◌==◌, Bool, true, false, ◌&&◌, ◌||◌, cond, List, [], ◌∷◌, ◌++◌, Option, Some, None, Ok, Err, refl, sym, ap, subst, ◌∙◌, append-nil, append_assoc}
use Rattle.std.specs.Prelude.{ℤ, pos, ◌+ℤ◌, not, if◌then◌else◌}
use Rattle.std.specs.List.{AllByRecursion, flat_map, filter_map, cons_option}
use Rattle.std.proofs.Math.IntN.{pos-+ℤ-pos, -ℤ-+ℤ_cancel}
use Rattle.std.proofs.lemmas.List.Elements.{filter_map-append}
use Rattle.inbox_laws.specs.bt_base.specs.declared.settings.Settings.{Settings}
use Rattle.inbox_laws.specs.bt_base.specs.declared.settings.Transport.{Transport}
use Rattle.inbox_laws.specs.bt_base.specs.Objects.{Object, Contents}
use Rattle.inbox_laws.specs.obex_session.specs.InboxCalls.{Answer as Granting}
use Rattle.inbox_laws.specs.rfcomm_frames.specs.declared.connection.Role.{Role}
use Rattle.inbox_laws.specs.rfcomm_frames.specs.declared.connection.Role.TheVariants.{Responder}
use Rattle.inbox_laws.specs.rfcomm_frames.specs.Answers.{Answer}
use Rattle.inbox_laws.specs.rfcomm_frames.specs.Ending.{is_closed_by, Course, no_course, course_after, is_last, has_last, to_closing}
use Rattle.inbox_laws.specs.rfcomm_frames.specs.FrameReading.{frame_answer}
use Rattle.inbox_laws.specs.rfcomm_frames.specs.Frames.{PlainFrame}
use Rattle.inbox_laws.specs.rfcomm_frames.specs.Multiplexing.{Passed, Framed, framed, frames, Connections, no_connections, connections_after, is_role, granted_by, granted, spent_by, spent}
use Rattle.inbox_laws.specs.rfcomm_frames.specs.UserChannel.{live_frames, credits_held}
use Rattle.inbox_laws.specs.rfcomm_model.specs.ClosedSides.{IsOrderly}
use Rattle.inbox_laws.specs.rfcomm_model.specs.Machine.{new_mux}
use Rattle.inbox_laws.specs.rfcomm_model.proofs.Ended.{to_all, to_more, to_over}
use Rattle.inbox_laws.specs.rfcomm_model.proofs.Reading.{granted_more, spent_more, own_grants}
use Rattle.inbox_laws.specs.push_model.specs.Server.{Reacted, rfcomm_psm}
use Rattle.inbox_laws.specs.push_model.specs.Service.{Service}
use Rattle.inbox_laws.specs.push_laws.specs.Faults.{unmarked}
use Rattle.inbox_laws.specs.push_laws.specs.Laws.{new_over}
use Rattle.inbox_laws.specs.push_laws.specs.Occurrences.{Occurrence, Came, Went, Closed, LinkDown, Asked, Answering, done, all_done, begun}
use Rattle.inbox_laws.specs.push_laws.specs.Parties.{sdu_if}
use Rattle.inbox_laws.specs.push_laws.specs.Premises.{AllGranted, NoneShort, IsHeard, IsAlone, AllCome, AllMayCome, AllMayMiss}
use Rattle.inbox_laws.specs.push_laws.specs.Readings.{closes, since, since_from, passed_by}
use Rattle.inbox_laws.specs.push_laws.proofs.Frames.{carries_credits}
use Rattle.inbox_laws.specs.push_laws.proofs.Gaining.{clean, clean_same, clear_all, first_holds, credits-are_read}
use Rattle.request_laws.specs.Carried.{NoneComesBehind}
use Rattle.request_laws.specs.Streams.{come_on}
use Rattle.credit_laws.specs.Covered.{IsCovered}
use Rattle.credit_laws.specs.Serving.{AllGoQuietly}
use Rattle.credit_laws.proofs.Paying.{new_pays, paid_covers, pays_covered, frames_more}
use Rattle.credit_laws.proofs.Serving.{servers-are_covered}
use Rattle.credit_laws.proofs.Spans.{ends_link}

abbrev pub passed_in : List Occurrence → List Passed
passed_in list = filter_map passed_by list

abbrev from_own : List ℕ → Passed
from_own sdu = record { from = Responder; sdu = sdu }

-- ---- credits that are a number

abbrev pub HoldsNumber : List Passed → Type 0
HoldsNumber list = (left : ℕ) × (credits_held 18 Responder list ≡ pos left)

pos_same : (m n : ℕ) → pos m ≡ pos n → m ≡ n
pos_same m n e = cc

number_covers : (list : List Passed) → HoldsNumber list → IsCovered 18 Responder list
number_covers list (left, held) =
    let s : ℕ = spent 18 Responder (live_frames 18 Responder list) in
    let g : ℕ = granted 18 Responder no_connections (live_frames 18 Responder list) in
    let back : pos g ≡ pos (left + s) = sym (-ℤ-+ℤ_cancel (pos g) (pos s)) ∙ (ap (λ (m : ℤ). m +ℤ pos s) held ∙ pos-+ℤ-pos left s) in
    let same = pos_same g (left + s) back in
    paid_covers 18 Responder list (omega (arith, same))

come_front : (Are : List Granting → Type 0) (Comes : List Occurrence → Service → Transport → List ℕ → Type 0) (settings : Settings) (xs ys past : List Occurrence) (at : Reacted) → AllCome Are Comes settings past at (xs ++ ys) → AllCome Are Comes settings past at xs
come_front Are Comes settings [] ys past at all = tt
come_front Are Comes settings (x ∷ xs) ys past at all = (all.0, come_front Are Comes settings xs ys (past ++ x ∷ []) (done x at) all.1)

all_orderly : (settings : Settings) (occurrences past : List Occurrence) (at : Reacted) → IsOrderly at.server.mux.closed → AllMayCome settings past at occurrences → IsOrderly (all_done occurrences at).server.mux.closed
all_orderly settings [] past at orderly all = orderly
all_orderly settings (one ∷ rest) past at orderly all = all_orderly settings rest (past ++ one ∷ []) (done one at) all.0.orderly all.1

number_held : (settings : Settings) (before : List Object) (occurrences : List Occurrence) → AllMayCome settings [] (new_over settings before) occurrences → HoldsNumber (passed_in (since rfcomm_psm occurrences))
number_held settings before occurrences all =
    let at : Reacted = all_done occurrences (new_over settings before) in
    let c = clear_all settings before occurrences [] (new_over settings before) (record { holds = first_holds settings before; spared = refl; same = refl }) all in
    let has = carries_credits (settings.mtu - 6) settings.credits (passed_in (since rfcomm_psm (unmarked (clean settings before occurrences)))) c.holds.got at.server.mux at.server.frame c.holds.upholds.carries (all_orderly settings occurrences [] (new_over settings before) tt all) in
    (at.server.mux.account.held + has.spare, ap (λ (os : List Occurrence). credits_held 18 Responder (passed_in (since rfcomm_psm os))) (sym (clean_same settings before occurrences)) ∙ has.credits)

-- at each moment, on the channel since it was last closed
abbrev pub AllHold : List Occurrence → Type 0
AllHold list = (front later : List Occurrence) → front ++ later ≡ list → HoldsNumber (passed_in (since rfcomm_psm front))

pub hold_front : (xs ys : List Occurrence) → AllHold (xs ++ ys) → AllHold xs
hold_front xs ys all front later is = all front (later ++ ys) (sym (append_assoc front later ys) ∙ ap (λ (l : List Occurrence). l ++ ys) is)

-- where the server goes quietly
quiet_front : (xs ys : List Occurrence) (at : Reacted) → AllGoQuietly at (xs ++ ys) → AllGoQuietly at xs
quiet_front [] ys at all = tt
quiet_front (x ∷ xs) ys at all = (all.0, quiet_front xs ys (done x at) all.1)

pub quiet_hold : (settings : Settings) (content : Option Contents) (list : List Occurrence) → AllGoQuietly (begun settings content) list → AllHold list
quiet_hold settings content list all front later is =
    let covered = servers-are_covered settings content front (quiet_front front later (begun settings content) (subst (AllGoQuietly (begun settings content)) (sym is) all)) in
    (covered.left, covered.held)

-- where each request is heard, or requests are missed and calls of the inbox fail, but not for want of memory
pub heard_hold : (settings : Settings) (before : List Object) (list : List Occurrence) → AllMayCome settings [] (new_over settings before) list → AllHold list
heard_hold settings before list all front later is =
    number_held settings before front (come_front AllGranted (IsHeard settings) settings front later [] (new_over settings before) (subst (AllMayCome settings [] (new_over settings before)) (sym is) all))

pub missed_hold : (settings : Settings) (before : List Object) (list : List Occurrence) → AllMayMiss settings [] (new_over settings before) list → AllHold list
missed_hold settings before list all front later is =
    let has = credits-are_read settings before front (come_front NoneShort (IsAlone settings) settings front later [] (new_over settings before) (subst (AllMayMiss settings [] (new_over settings before)) (sym is) all)) in
    ((all_done front (new_over settings before)).server.mux.account.held + has.spare, has.credits)

-- ---- own frames behind the closing cost nothing

abbrev IsOwnSdu : Passed → Type 0
IsOwnSdu one = one.from ≡ Responder

abbrev IsOwnFrame : Framed → Type 0
IsOwnFrame f = f.from ≡ Responder

own_last : (course : Course) (f : Framed) → IsOwnFrame f → is_last 18 Responder course f ≡ false
own_last course f own = ap (λ (r : Role). not (is_role Responder r) && is_closed_by 18 f.from course.lines course.closing f.frame.kind f.frame.dlci f.frame.pf) own

none_last : (course : Course) (fs : List Framed) → AllByRecursion IsOwnFrame fs → has_last 18 Responder course fs ≡ false
none_last course [] all = refl
none_last course (f ∷ fs) all = ap (λ (b : Bool). b || has_last 18 Responder (course_after 18 Responder course f) fs) (own_last course f all.0) ∙ none_last (course_after 18 Responder course f) fs all.1

none_granted : (lines : Connections) (fs : List Framed) → AllByRecursion IsOwnFrame fs → granted 18 Responder lines fs ≡ 0
none_granted lines [] all = refl
none_granted lines (f ∷ fs) all =
    let here : granted_by 18 Responder lines f ≡ 0 = subst (λ (r : Role). granted_by 18 Responder lines (record { from = r; frame = f.frame }) ≡ 0) (sym all.0) (own_grants 18 Responder lines f.frame) in
    let later = none_granted (connections_after 18 lines f) fs all.1 in
    omega (arith, here, later)

frames_own : (list : List Passed) → AllByRecursion IsOwnSdu list → AllByRecursion IsOwnFrame (frames list)
frames_own [] all = tt
frames_own (one ∷ rest) all = by (frame_answer one.sdu) (frames_own rest all.1)
  where
    by : (a : Answer) → AllByRecursion IsOwnFrame (frames rest) → AllByRecursion IsOwnFrame (cons_option (framed one.from a) (frames rest))
    by (Ok f) later = (all.0, later)
    by (Err refusal) later = later

own_both : (xs ys : List Passed) → AllByRecursion IsOwnSdu xs → AllByRecursion IsOwnSdu ys → AllByRecursion IsOwnSdu (xs ++ ys)
own_both [] ys one two = two
own_both (x ∷ xs) ys one two = (one.0, own_both xs ys one.1 two)

-- what was said there spent nothing
spent_nothing : (list : List Passed) → AllByRecursion IsOwnSdu list → IsCovered 18 Responder list → spent 18 Responder (frames list) ≡ 0
spent_nothing list own covered =
    let all = frames_own list own in
    let live = to_all 18 Responder no_course (frames list) (none_last no_course (frames list) all) in
    let less : spent 18 Responder (frames list) ≤ granted 18 Responder no_connections (frames list) = subst (λ (xs : List Framed). spent 18 Responder xs ≤ granted 18 Responder no_connections xs) live covered.covered in
    let none = none_granted no_connections (frames list) all in
    omega (arith, less, none)

free_covered : (passed : List Passed) (f : PlainFrame) (sdu : List ℕ) → frame_answer sdu ≡ Ok f → spent_by 18 Responder (record { from = Responder; frame = f }) ≡ 0 → IsCovered 18 Responder passed → IsCovered 18 Responder (passed ++ record { from = Responder; sdu = sdu } ∷ [])
free_covered passed f sdu reads free covered = paid_covers 18 Responder (passed ++ record { from = Responder; sdu = sdu } ∷ []) (subst (λ (xs : List Framed). spent 18 Responder (to_closing 18 Responder no_course xs) ≤ granted 18 Responder no_connections (to_closing 18 Responder no_course xs)) (sym more) (by (has_last 18 Responder no_course (frames passed)) refl))
  where
    more : frames (passed ++ record { from = Responder; sdu = sdu } ∷ []) ≡ frames passed ++ record { from = Responder; frame = f } ∷ []
    more = frames_more passed (record { from = Responder; sdu = sdu } ∷ []) ∙ ap (λ (a : Answer). frames passed ++ cons_option (framed Responder a) []) reads

    by : (b : Bool) → has_last 18 Responder no_course (frames passed) ≡ b → spent 18 Responder (to_closing 18 Responder no_course (frames passed ++ record { from = Responder; frame = f } ∷ [])) ≤ granted 18 Responder no_connections (to_closing 18 Responder no_course (frames passed ++ record { from = Responder; frame = f } ∷ []))
    by true over = subst (λ (xs : List Framed). spent 18 Responder xs ≤ granted 18 Responder no_connections xs) (sym (to_over 18 Responder no_course (frames passed) (record { from = Responder; frame = f } ∷ []) over)) covered.covered
    by false none =
        let before : spent 18 Responder (frames passed) ≤ granted 18 Responder no_connections (frames passed) = subst (λ (xs : List Framed). spent 18 Responder xs ≤ granted 18 Responder no_connections xs) (to_all 18 Responder no_course (frames passed) none) covered.covered in
        let spends = spent_more 18 Responder (frames passed) (record { from = Responder; frame = f }) in
        let grants = granted_more 18 Responder no_connections (frames passed) (record { from = Responder; frame = f }) in
        subst (λ (xs : List Framed). spent 18 Responder xs ≤ granted 18 Responder no_connections xs) (sym (to_more 18 Responder no_course (frames passed) (record { from = Responder; frame = f }) none)) (omega (arith, before, spends, grants, free))

-- ---- the channel is closed on a link

abbrev shut_by : Bool → Occurrence → Bool
shut_by shut (Came psm sdu) = shut
shut_by shut (Went psm sdu) = shut
shut_by shut (Closed psm) = if psm == rfcomm_psm then true else shut
shut_by shut LinkDown = false
shut_by shut Asked = shut
shut_by shut (Answering answers) = shut

abbrev coming : List Occurrence → List (List ℕ)
coming list = flat_map (come_on rfcomm_psm) list

behind_none : (ahead rest : List (List ℕ)) → ahead ++ rest ≡ [] → rest ≡ []
behind_none [] rest none = none
behind_none (one ∷ ahead) rest none = cc

abbrev NoneYet : (shut : Bool) → List Occurrence → Type 0
NoneYet shut list = shut ≡ true → coming list ≡ []

yet_by : (shut : Bool) (one : Occurrence) (rest : List Occurrence) → NoneYet shut (one ∷ rest) → (closes rfcomm_psm one ≡ true → coming rest ≡ []) → NoneYet (shut_by shut one) rest
yet_by shut (Came psm sdu) rest none behind = λ is. behind_none (come_on rfcomm_psm (Came psm sdu)) (coming rest) (none is)
yet_by shut (Went psm sdu) rest none behind = none
yet_by shut (Closed psm) rest none behind = by (psm == rfcomm_psm) refl
  where
    by : (here : Bool) → (psm == rfcomm_psm) ≡ here → NoneYet (cond here true shut) rest
    by true is = λ now. behind is
    by false is = none
yet_by shut LinkDown rest none behind = λ is. let never : false ≡ true = is in cc
yet_by shut Asked rest none behind = none
yet_by shut (Answering answers) rest none behind = none

-- ---- what is so on a link

pub since_both : (kept xs ys : List Occurrence) → since_from rfcomm_psm kept (xs ++ ys) ≡ since_from rfcomm_psm (since_from rfcomm_psm kept xs) ys
since_both kept [] ys = refl
since_both kept (x ∷ xs) ys = since_both (cond (closes rfcomm_psm x) [] (kept ++ x ∷ [])) xs ys

passed_more : (xs : List Occurrence) (one : Occurrence) → passed_in (xs ++ one ∷ []) ≡ passed_in xs ++ cons_option (passed_by one) []
passed_more xs one = filter_map-append passed_by xs (one ∷ [])

-- behind the closing there are own frames alone, and what passed on the link stays covered
abbrev So : (shut : Bool) (base kept : List Occurrence) → Type 0
So false base kept = passed_in (since_from rfcomm_psm base kept) ≡ passed_in kept
So true base kept = AllByRecursion IsOwnSdu (passed_in (since_from rfcomm_psm base kept))

record Kept (shut : Bool) (base kept : List Occurrence) : Type 0 where
  covered : IsCovered 18 Responder (passed_in kept)
  so : So shut base kept

since_next : (base kept : List Occurrence) (one : Occurrence) → closes rfcomm_psm one ≡ false → passed_in (since_from rfcomm_psm base (kept ++ one ∷ [])) ≡ passed_in (since_from rfcomm_psm base kept) ++ cons_option (passed_by one) []
since_next base kept one none =
    ap passed_in (since_both base kept (one ∷ []) ∙ ap (λ (b : Bool). cond b [] (since_from rfcomm_psm base kept ++ one ∷ [])) none) ∙ passed_more (since_from rfcomm_psm base kept) one

open_more : (base kept : List Occurrence) (one : Occurrence) → closes rfcomm_psm one ≡ false → HoldsNumber (passed_in (since_from rfcomm_psm base (kept ++ one ∷ []))) → Kept false base kept → Kept false base (kept ++ one ∷ [])
open_more base kept one none number k =
    let same : passed_in (since_from rfcomm_psm base (kept ++ one ∷ [])) ≡ passed_in (kept ++ one ∷ []) =
    since_next base kept one none ∙ (ap (λ (ps : List Passed). ps ++ cons_option (passed_by one) []) k.so ∙ sym (passed_more kept one)) in
    record { covered = subst (IsCovered 18 Responder) same (number_covers (passed_in (since_from rfcomm_psm base (kept ++ one ∷ []))) number); so = same }

none_more : (ps : List Passed) (o : Option Passed) → o ≡ None → ps ++ cons_option o [] ≡ ps
none_more ps o none = ap (λ (x : Option Passed). ps ++ cons_option x []) none ∙ append-nil ps

shut_quiet : (base kept : List Occurrence) (one : Occurrence) → closes rfcomm_psm one ≡ false → passed_by one ≡ None → Kept true base kept → Kept true base (kept ++ one ∷ [])
shut_quiet base kept one none quiet k = record {
  covered = subst (IsCovered 18 Responder) (sym (passed_more kept one ∙ none_more (passed_in kept) (passed_by one) quiet)) k.covered;
  so = subst (AllByRecursion IsOwnSdu) (sym (since_next base kept one none ∙ none_more (passed_in (since_from rfcomm_psm base kept)) (passed_by one) quiet)) k.so;
}

own_goes : (before passed : List Passed) (sdu : List ℕ) → spent 18 Responder (frames (before ++ from_own sdu ∷ [])) ≡ 0 → IsCovered 18 Responder passed → IsCovered 18 Responder (passed ++ from_own sdu ∷ [])
own_goes before passed sdu none covered = by (frame_answer sdu) refl
  where
    by : (a : Answer) → frame_answer sdu ≡ a → IsCovered 18 Responder (passed ++ from_own sdu ∷ [])
    by (Ok f) reads =
        let parts : frames (before ++ from_own sdu ∷ []) ≡ frames before ++ record { from = Responder; frame = f } ∷ [] =
        frames_more before (from_own sdu ∷ []) ∙ ap (λ (a : Answer). frames before ++ cons_option (framed Responder a) []) reads in
        let both = ap (spent 18 Responder) (sym parts) ∙ none in
        let spends = spent_more 18 Responder (frames before) (record { from = Responder; frame = f }) in
        free_covered passed f sdu reads (omega (arith, both, spends)) covered
    by (Err refusal) reads =
        let same : frames (passed ++ from_own sdu ∷ []) ≡ frames passed =
        frames_more passed (from_own sdu ∷ []) ∙ (ap (λ (a : Answer). frames passed ++ cons_option (framed Responder a) []) reads ∙ append-nil (frames passed)) in
        paid_covers 18 Responder (passed ++ from_own sdu ∷ [])
        (subst (λ (xs : List Framed). spent 18 Responder (to_closing 18 Responder no_course xs) ≤ granted 18 Responder no_connections (to_closing 18 Responder no_course xs)) (sym same) covered.covered)

shut_goes : (base kept : List Occurrence) (psm : ℕ) (sdu : List ℕ) → HoldsNumber (passed_in (since_from rfcomm_psm base (kept ++ Went psm sdu ∷ []))) → Kept true base kept → Kept true base (kept ++ Went psm sdu ∷ [])
shut_goes base kept psm sdu number k = by (psm == rfcomm_psm) refl
  where
    by : (here : Bool) → (psm == rfcomm_psm) ≡ here → Kept true base (kept ++ Went psm sdu ∷ [])
    by false is = shut_quiet base kept (Went psm sdu) refl (ap (λ (b : Bool). cond b (Some (from_own sdu)) None) is) k
    by true is =
        let one_is : passed_by (Went psm sdu) ≡ Some (from_own sdu) = ap (λ (b : Bool). cond b (Some (from_own sdu)) None) is in
        let before : List Passed = passed_in (since_from rfcomm_psm base kept) in
        let later : passed_in (since_from rfcomm_psm base (kept ++ Went psm sdu ∷ [])) ≡ before ++ from_own sdu ∷ [] =
        since_next base kept (Went psm sdu) refl ∙ ap (λ (o : Option Passed). before ++ cons_option o []) one_is in
        let own : AllByRecursion IsOwnSdu (before ++ from_own sdu ∷ []) = own_both before (from_own sdu ∷ []) k.so (refl, tt) in
        let covered : IsCovered 18 Responder (before ++ from_own sdu ∷ []) = subst (IsCovered 18 Responder) later (number_covers (passed_in (since_from rfcomm_psm base (kept ++ Went psm sdu ∷ []))) number) in
        record {
          covered = subst (IsCovered 18 Responder) (sym (passed_more kept (Went psm sdu) ∙ ap (λ (o : Option Passed). passed_in kept ++ cons_option o []) one_is))
              (own_goes before (passed_in kept) sdu (spent_nothing (before ++ from_own sdu ∷ []) own covered) k.covered);
          so = subst (AllByRecursion IsOwnSdu) (sym later) own;
        }

closed_more : (base kept : List Occurrence) (psm : ℕ) (shut : Bool) → HoldsNumber (passed_in (since_from rfcomm_psm base (kept ++ Closed psm ∷ []))) → Kept shut base kept → Kept (cond (psm == rfcomm_psm) true shut) base (kept ++ Closed psm ∷ [])
closed_more base kept psm shut number k = by (psm == rfcomm_psm) refl
  where
    still : (b : Bool) → (psm == rfcomm_psm) ≡ false → Kept b base kept → Kept b base (kept ++ Closed psm ∷ [])
    still false is k' = open_more base kept (Closed psm) is number k'
    still true is k' = shut_quiet base kept (Closed psm) is refl k'

    by : (here : Bool) → (psm == rfcomm_psm) ≡ here → Kept (cond here true shut) base (kept ++ Closed psm ∷ [])
    by false is = still shut is k
    by true is = record {
      covered = subst (IsCovered 18 Responder) (sym (passed_more kept (Closed psm) ∙ append-nil (passed_in kept))) k.covered;
      so = subst (AllByRecursion IsOwnSdu) (sym (ap passed_in (since_both base kept (Closed psm ∷ []) ∙ ap (λ (b : Bool). cond b [] (since_from rfcomm_psm base kept ++ Closed psm ∷ [])) is))) tt;
    }

none_there : (here : Bool) (sdu : List ℕ) (more : List (List ℕ)) (one : Passed) → sdu_if here sdu ++ more ≡ [] → cond here (Some one) None ≡ None
none_there true sdu more one none = cc
none_there false sdu more one none = refl

step : (base kept : List Occurrence) (one : Occurrence) (rest : List Occurrence) (shut : Bool) → ends_link one ≡ false → NoneYet shut (one ∷ rest) → HoldsNumber (passed_in (since_from rfcomm_psm base (kept ++ one ∷ []))) → Kept shut base kept → Kept (shut_by shut one) base (kept ++ one ∷ [])
step base kept (Came psm sdu) rest false stays none number k = open_more base kept (Came psm sdu) refl number k
step base kept (Came psm sdu) rest true stays none number k = shut_quiet base kept (Came psm sdu) refl (none_there (psm == rfcomm_psm) sdu _ _ (none refl)) k
step base kept (Went psm sdu) rest false stays none number k = open_more base kept (Went psm sdu) refl number k
step base kept (Went psm sdu) rest true stays none number k = shut_goes base kept psm sdu number k
step base kept (Closed psm) rest shut stays none number k = closed_more base kept psm shut number k
step base kept LinkDown rest shut stays none number k = let never : true ≡ false = stays in cc
step base kept Asked rest false stays none number k = open_more base kept Asked refl number k
step base kept Asked rest true stays none number k = shut_quiet base kept Asked refl refl k
step base kept (Answering answers) rest false stays none number k = open_more base kept (Answering answers) refl number k
step base kept (Answering answers) rest true stays none number k = shut_quiet base kept (Answering answers) refl refl k

walk : (base whole : List Occurrence) → ((front after : List Occurrence) → front ++ after ≡ whole → HoldsNumber (passed_in (since_from rfcomm_psm base front))) → (shut : Bool) (kept rest : List Occurrence) → kept ++ rest ≡ whole → Kept shut base kept
    → NoneYet shut rest → NoneComesBehind rfcomm_psm rest → AllByRecursion (λ (one : Occurrence). ends_link one ≡ false) rest → IsCovered 18 Responder (passed_in whole)
walk base whole held shut kept [] is k none behind stays = subst (λ (l : List Occurrence). IsCovered 18 Responder (passed_in l)) (sym (append-nil kept) ∙ is) k.covered
walk base whole held shut kept (one ∷ rest) is k none behind stays =
    let later : (kept ++ one ∷ []) ++ rest ≡ whole = append_assoc kept (one ∷ []) rest ∙ is in
    walk base whole held (shut_by shut one) (kept ++ one ∷ []) rest later (step base kept one rest shut stays.0 none (held (kept ++ one ∷ []) rest later) k) (yet_by shut one rest none behind.0) behind.1 stays.1

pub heard_covered : (ahead here : List Occurrence) → passed_in (since rfcomm_psm ahead) ≡ [] → AllHold (ahead ++ here) → NoneComesBehind rfcomm_psm here → AllByRecursion (λ (one : Occurrence). ends_link one ≡ false) here → IsCovered 18 Responder (passed_in here)
heard_covered ahead here fresh all behind stays =
    walk (since rfcomm_psm ahead) here
    (λ front after is.
    subst (λ (l : List Occurrence). HoldsNumber (passed_in l)) (since_both [] ahead front)
    (all (ahead ++ front) after (append_assoc ahead front after ∙ ap (λ (l : List Occurrence). ahead ++ l) is)))
    false [] here refl (record { covered = pays_covered 18 Responder (new_mux Responder 18 0 0 0) [] (new_pays 18 Responder 0 0 0); so = fresh }) (λ is. let never : false ≡ true = is in cc) behind stays
