-- A session that stands for packets stands for one packet more.
use Rattle.std.proofs.Common.{inl, inr, Bool, true, false, cond, eqb, ◌&&◌, ◌||◌, ◌≡◌, ℕ, List, [], ◌∷◌, ◌++◌, length, Option, Some, None, Result, Ok, Err, refl, sym, ap, subst, ◌∙◌, arith, append_assoc}
use Rattle.std.specs.Prelude.{IfSome, not}
use Rattle.std.specs.List.{list_any}
use Rattle.std.specs.Option.{option_map}
use Rattle.std.proofs.lemmas.Bool.{cases_Bool, or_parts, or_from, or_left, or_right, ne_eqb, and_from, and_parts, and_left, and_right, cond-true, cond-false}
use Rattle.std.proofs.lemmas.List.{append-nil, map-append}
use Rattle.std.proofs.lemmas.Grind.{flat_map-append}
use Rattle.bt_base.specs.Objects.{Object, Contents, aborted, committed}
use Rattle.obex_headers.specs.declared.codes.Code.{Code}
use Rattle.obex_headers.specs.declared.codes.Code.TheVariants.{BadRequest}
use Rattle.obex_headers.specs.declared.fault.ObexRefusal.{ObexRefusal}
use Rattle.obex_headers.specs.declared.packet.Phase.TheVariants.{Request}
use Rattle.obex_headers.specs.Packets.{PlainHeader, PlainPacket}
use Rattle.obex_headers.specs.Reading.{packet_in}
use Rattle.obex_headers.specs.Runs.{put_of, is_final, names, bodies, run_headers, KeepsRules, breaks, lacks, object_of, objects_from}
use Rattle.obex_headers.proofs.RunLaws.{keeps, kept, ends_without, step_refused, step_final, step_open}
use Rattle.obex_session.specs.declared.course.Course.{Course}
use Rattle.obex_session.specs.declared.course.Course.TheVariants.{Rests, Ignores, Runs}
use Rattle.obex_session.specs.declared.course.Progress.{Progress}
use Rattle.obex_session.specs.declared.course.Progress.TheVariants.{Unnamed, Named}
use Rattle.obex_session.specs.declared.course.Verdict.{Verdict}
use Rattle.obex_session.specs.declared.course.Verdict.TheVariants.{Open, Whole, Ended, PassedOver}
use Rattle.obex_session.specs.InboxCalls.{InboxCall, all_done}
use Rattle.obex_session.specs.Marks.{is_name, is_body}
use Rattle.obex_session.specs.Rules.{Ruling, opens, ends, after_headers, then_on, finished, at_put, at_put_in, at_packet, other_response, progress_in, is_ignoring}
use Rattle.obex_session.specs.Hearing.{progress_after}
use Rattle.obex_session.specs.Past.{Heard, put_heard, puts_heard, stored_by, open_from, open_headers, progress_from, progress_of, pending_from, Serving, StandsFor}
use Rattle.obex_session.proofs.HeedingLaws.{all_done-append}
use Rattle.obex_session.proofs.PacketLaws.{without, nameless_put}
use Rattle.obex_session.proofs.RuleLaws.{held, Follows, follows}

-- ---- one packet more in a list

objects_at : (broken final lacking : Bool) (object : Object) (all others front front' : List Object) (run run' : List PlainPacket) (last : Option PlainPacket)
    → all ≡ front ++ objects_from run (last ∷ []) → others ≡ front' ++ objects_from run' (last ∷ [])
    → cond (broken || (final && lacking)) all (cond final (object ∷ all) others) ≡ cond (broken || (final && lacking)) front (cond final (object ∷ front) front') ++ objects_from (cond (broken || final) run run') (last ∷ [])
objects_at true final lacking object all others front front' run run' last e f = e
objects_at false true true object all others front front' run run' last e f = e
objects_at false true false object all others front front' run run' last e f = ap (λ (os : List Object). object ∷ os) e
objects_at false false lacking object all others front front' run run' last e f = f

pub objects-more : (run : List PlainPacket) (packets : List (Option PlainPacket)) (last : Option PlainPacket) → objects_from run (packets ++ last ∷ []) ≡ objects_from run packets ++ objects_from (open_from run packets) (last ∷ [])
objects-more run [] last = refl
objects-more run (None ∷ rest) last = objects-more [] rest last
objects-more run (Some put ∷ rest) last =
    objects_at (breaks (run_headers (run ++ put ∷ []))) (is_final put) (lacks (run_headers (run ++ put ∷ []))) (object_of (run_headers (run ++ put ∷ []))) _ _ _ _ _ _ last (objects-more [] rest last) (objects-more (run ++ put ∷ []) rest last)

open_at : (ends : Bool) (all others run run' : List PlainPacket) (last : Option PlainPacket) → all ≡ open_from run (last ∷ []) → others ≡ open_from run' (last ∷ []) → cond ends all others ≡ open_from (cond ends run run') (last ∷ [])
open_at true all others run run' last e f = e
open_at false all others run run' last e f = f

pub open-more : (run : List PlainPacket) (packets : List (Option PlainPacket)) (last : Option PlainPacket) → open_from run (packets ++ last ∷ []) ≡ open_from (open_from run packets) (last ∷ [])
open-more run [] last = refl
open-more run (None ∷ rest) last = open-more [] rest last
open-more run (Some put ∷ rest) last = open_at (breaks (run_headers (run ++ put ∷ [])) || is_final put) _ _ _ _ last (open-more [] rest last) (open-more (run ++ put ∷ []) rest last)

-- ---- the run that goes on keeps the rules

nothing_kept : KeepsRules []
nothing_kept = record { one_name = omega arith; short_name = tt; name_first = refl; bounded = omega arith }

open_keeps_at : (ends : Bool) (all others : List PlainPacket) → KeepsRules (run_headers all) → (ends ≡ false → KeepsRules (run_headers others)) → KeepsRules (run_headers (cond ends all others))
open_keeps_at true all others k l = k
open_keeps_at false all others k l = l refl

pub open_keeps : (run : List PlainPacket) (packets : List (Option PlainPacket)) → KeepsRules (run_headers run) → KeepsRules (run_headers (open_from run packets))
open_keeps run [] k = k
open_keeps run (None ∷ rest) k = open_keeps [] rest nothing_kept
open_keeps run (Some put ∷ rest) k = open_keeps_at (breaks (run_headers (run ++ put ∷ [])) || is_final put) _ _ (open_keeps [] rest nothing_kept)
    (λ e. open_keeps (run ++ put ∷ []) rest (keeps (run_headers (run ++ put ∷ [])) (or_parts (breaks (run_headers (run ++ put ∷ []))) (is_final put) e).0))

-- ---- what a packet leaves, behind a run

-- one object is stored where it is whole
abbrev pub count_of : Verdict → ℕ
count_of (Open progress) = 0
count_of Whole = 1
count_of (Ended code) = 0
count_of (PassedOver final) = 0

-- the objects that it stores, and the run that goes on behind it
pub record Leaves (stored : List Object) (before : List PlainHeader) (objects : List Object) (run : List PlainPacket) (ruling : Ruling) : Type 0 where
  pub progress_is : progress_after (Ok ruling.verdict) ≡ progress_of (run_headers run)
  pub contents_are : all_done ruling.calls (held stored before) ≡ held (stored ++ objects) (run_headers run)
  pub counted : length objects ≡ count_of ruling.verdict

held_same : (stored : List Object) (objects objects' : List Object) (run run' : List PlainPacket) → objects ≡ objects' → run ≡ run' → held (stored ++ objects') (run_headers run') ≡ held (stored ++ objects) (run_headers run)
held_same stored objects objects' run run' o r = ap (λ (os : List Object). held (stored ++ os) (run_headers run')) (sym o) ∙ ap (λ (ps : List PlainPacket). held (stored ++ objects) (run_headers ps)) (sym r)

ended : (stored : List Object) (before : List PlainHeader) (objects : List Object) (run : List PlainPacket) (calls : List InboxCall) (code : Code) → all_done calls (held stored before) ≡ held stored [] → objects ≡ [] → run ≡ []
    → Leaves stored before objects run (record { calls = calls; verdict = Ended code })
ended stored before objects run calls code c o r = record {
  progress_is = ap (λ (ps : List PlainPacket). progress_of (run_headers ps)) (sym r);
  contents_are = c ∙ ap (λ (os : List Object). held os []) (sym (append-nil stored)) ∙ held_same stored objects [] run [] o r;
  counted = ap (λ (os : List Object). length os) o;
}

-- the calls that end an object leave none pending
aborted_from : (ns bs : List (List ℕ)) (stored : List Object) (object : Object) (code : Code) → all_done (ends (progress_from ns bs) code).calls (record { stored = stored; pending = pending_from ns object }) ≡ held stored []
aborted_from [] bs stored object code = refl
aborted_from (n ∷ ns) [] stored object code = refl
aborted_from (n ∷ ns) (b ∷ bs) stored object code = refl

-- ---- a final PUT

open_ends : (run : List PlainPacket) (put : PlainPacket) → (breaks (run_headers (run ++ put ∷ [])) || is_final put) ≡ true → open_from run (Some put ∷ []) ≡ []
open_ends run put e = cond-true _ _ _ e

lacks_at : (a b : Bool) (broken final : Bool) → final ≡ true → (a || b) ≡ true → (broken || (final && (a || b))) ≡ true
lacks_at a b broken final f e = or_right broken _ (and_from final (a || b) f e)

-- the calls of headers, and those of the end behind them
both_done : (calls : List InboxCall) (ruling : Ruling) (before after : Contents) → all_done calls before ≡ after → all_done (calls ++ ruling.calls) before ≡ all_done ruling.calls after
both_done calls ruling before after e = all_done-append calls ruling.calls before ∙ ap (all_done ruling.calls) e

final_at : (run : List PlainPacket) (put : PlainPacket) (stored : List Object) (calls : List InboxCall) (ns bs : List (List ℕ)) → is_final put ≡ true → KeepsRules (run_headers (run ++ put ∷ []))
    → names (run_headers (run ++ put ∷ [])) ≡ ns → bodies (run_headers (run ++ put ∷ [])) ≡ bs → all_done calls (held stored (run_headers run)) ≡ held stored (run_headers (run ++ put ∷ []))
    → Leaves stored (run_headers run) (objects_from run (Some put ∷ [])) (open_from run (Some put ∷ [])) (record { calls = calls ++ (finished (progress_from ns bs)).calls; verdict = (finished (progress_from ns bs)).verdict })
final_at run put stored calls [] bs final k n b c =
    let hs = run_headers (run ++ put ∷ []) in
    let lacking : lacks hs ≡ true = or_left (eqb (length (names hs)) 0) (eqb (length (bodies hs)) 0) (ap (λ (xs : List (List ℕ)). eqb (length xs) 0) n) in
    ended stored (run_headers run) _ _ _ BadRequest
    (both_done calls (ends Unnamed BadRequest) (held stored (run_headers run)) _ (c ∙ ap (λ (xs : List (List ℕ)). record { stored = stored; pending = pending_from xs (object_of hs) }) n))
    (step_refused run put [] (lacks_at (eqb (length (names hs)) 0) (eqb (length (bodies hs)) 0) (breaks hs) (is_final put) final lacking)) (open_ends run put (or_right (breaks hs) (is_final put) final))
final_at run put stored calls (name ∷ ns) [] final k n b c =
    let hs = run_headers (run ++ put ∷ []) in
    let lacking : lacks hs ≡ true = or_right (eqb (length (names hs)) 0) (eqb (length (bodies hs)) 0) (ap (λ (xs : List (List ℕ)). eqb (length xs) 0) b) in
    ended stored (run_headers run) _ _ _ BadRequest
    (both_done calls (ends Named BadRequest) (held stored (run_headers run)) _ c)
    (step_refused run put [] (lacks_at (eqb (length (names hs)) 0) (eqb (length (bodies hs)) 0) (breaks hs) (is_final put) final lacking)) (open_ends run put (or_right (breaks hs) (is_final put) final))
final_at run put stored calls (name ∷ ns) (body ∷ bs) final k n b c =
    let hs = run_headers (run ++ put ∷ []) in
    let has_name : eqb (length (names hs)) 0 ≡ false = ap (λ (xs : List (List ℕ)). eqb (length xs) 0) n ∙ ne_eqb (length (name ∷ ns)) 0 (λ e. absurd (omega (arith, e))) in
    let has_body : eqb (length (bodies hs)) 0 ≡ false = ap (λ (xs : List (List ℕ)). eqb (length xs) 0) b ∙ ne_eqb (length (body ∷ bs)) 0 (λ e. absurd (omega (arith, e))) in
    let well : ends_without run put ≡ false = or_from (breaks hs) _ (kept hs k) (and_right (is_final put) (lacks hs) (or_from (eqb (length (names hs)) 0) (eqb (length (bodies hs)) 0) has_name has_body)) in
    let gone = open_ends run put (or_right (breaks hs) (is_final put) final) in
    record {
      progress_is = ap (λ (ps : List PlainPacket). progress_of (run_headers ps)) (sym gone);
      contents_are = both_done calls (finished (progress_from (name ∷ ns) (body ∷ bs))) (held stored (run_headers run)) _ c ∙ ap (λ (xs : List (List ℕ)). committed (record { stored = stored; pending = pending_from xs (object_of hs) })) n
          ∙ held_same stored _ (object_of hs ∷ []) _ [] (step_final run put [] well final) gone;
      counted = ap (λ (os : List Object). length os) (step_final run put [] well final);
    }

-- ---- a PUT

pub headers-more : (run : List PlainPacket) (put : PlainPacket) → run_headers (run ++ put ∷ []) ≡ run_headers run ++ put.headers
headers-more run put = flat_map-append (λ packet. packet.headers) run (put ∷ []) ∙ ap (λ (hs : List PlainHeader). run_headers run ++ hs) (append-nil put.headers)

put_at : (final : Bool) (run : List PlainPacket) (put : PlainPacket) (stored : List Object) (calls : List InboxCall) (heard : Verdict) → is_final put ≡ final
    → Follows (run_headers (run ++ put ∷ [])) heard stored (all_done calls (held stored (run_headers run)))
    → Leaves stored (run_headers run) (objects_from run (Some put ∷ [])) (open_from run (Some put ∷ [])) (then_on calls heard (λ next. cond final (finished next) (opens [] next)))
put_at final run put stored calls Whole is f = absurd f
put_at final run put stored calls (PassedOver last) is f = absurd f
put_at final run put stored calls (Ended code) is f =
    let hs = run_headers (run ++ put ∷ []) in
    let breaking : breaks hs ≡ true = elim (cases_Bool (breaks hs)) [ inl found ↦ found | inr none ↦ absurd (f.0 (keeps hs none)) ] in
    ended stored (run_headers run) _ _ calls code f.1 (step_refused run put [] (or_left (breaks hs) _ breaking)) (open_ends run put (or_left (breaks hs) (is_final put) breaking))
put_at false run put stored calls (Open next) is f =
    let hs = run_headers (run ++ put ∷ []) in
    let well : ends_without run put ≡ false = or_from (breaks hs) _ (kept hs f.keeps) (and_left (is_final put) (lacks hs) is) in
    let on : open_from run (Some put ∷ []) ≡ run ++ put ∷ [] = cond-false _ _ _ (or_from (breaks hs) (is_final put) (kept hs f.keeps) is) in
    record {
      progress_is = f.progress_is ∙ ap (λ (ps : List PlainPacket). progress_of (run_headers ps)) (sym on);
      contents_are = both_done calls (opens [] next) (held stored (run_headers run)) _ f.contents_are ∙ ap (λ (os : List Object). held os hs) (sym (append-nil stored)) ∙ held_same stored _ [] _ (run ++ put ∷ []) (step_open run put [] well is) on;
      counted = ap (λ (os : List Object). length os) (step_open run put [] well is);
    }
put_at true run put stored calls (Open next) is f =
    let hs = run_headers (run ++ put ∷ []) in
    subst (λ (p : Progress). Leaves stored (run_headers run) (objects_from run (Some put ∷ [])) (open_from run (Some put ∷ [])) (record { calls = calls ++ (finished p).calls; verdict = (finished p).verdict })) (sym f.progress_is)
    (final_at run put stored calls (names hs) (bodies hs) is f.keeps refl refl f.contents_are)

put_leaves : (run : List PlainPacket) (put : PlainPacket) (stored : List Object) → KeepsRules (run_headers run)
    → Leaves stored (run_headers run) (objects_from run (Some put ∷ [])) (open_from run (Some put ∷ [])) (at_put (progress_of (run_headers run)) put)
put_leaves run put stored k =
    let hs = run_headers run in
    let ruling = after_headers (progress_of hs) put.headers in
    put_at (is_final put) run put stored ruling.calls ruling.verdict refl
    (subst (λ (all : List PlainHeader). Follows all ruling.verdict stored (all_done ruling.calls (held stored hs))) (sym (headers-more run put)) (follows hs put.headers stored k))

-- ---- a PUT that is passed over

passed : (ended : Bool) (stored : List Object) (before : List PlainHeader) (objects : List Object) (run : List PlainPacket) (final : Bool) → Leaves stored before objects run (without ended) → Leaves stored before objects run (record { calls = []; verdict = PassedOver final })
passed true stored before objects run final leaves = record { progress_is = leaves.progress_is; contents_are = leaves.contents_are; counted = leaves.counted }
passed false stored before objects run final leaves = record { progress_is = leaves.progress_is; contents_are = leaves.contents_are; counted = leaves.counted }

pub not_true : (b : Bool) → not b ≡ true → b ≡ false
not_true true e = absurd cc
not_true false e = refl

pub ignoring_rests : (course : Course) → is_ignoring course ≡ true → progress_in course ≡ Unnamed
ignoring_rests Rests e = refl
ignoring_rests Ignores e = refl
ignoring_rests (Runs progress single) e = absurd cc

put_in_at : (passes : Bool) (course : Course) (run : List PlainPacket) (put : PlainPacket) (stored : List Object) → KeepsRules (run_headers run) → progress_in course ≡ progress_of (run_headers run)
    → (is_ignoring course && not (list_any is_name put.headers)) ≡ passes
    → Leaves stored (run_headers run) (objects_from run (Some put ∷ [])) (open_from run (Some put ∷ [])) (cond passes (record { calls = []; verdict = PassedOver (is_final put) }) (at_put (progress_in course) put))
put_in_at true course run put stored k p passes =
    let both = and_parts (is_ignoring course) (not (list_any is_name put.headers)) passes in
    passed (list_any is_body put.headers || is_final put) stored (run_headers run) _ _ (is_final put)
    (subst (λ (r : Ruling). Leaves stored (run_headers run) (objects_from run (Some put ∷ [])) (open_from run (Some put ∷ [])) r)
    (ap (λ (q : Progress). at_put q put) (sym p ∙ ignoring_rests course both.0) ∙ nameless_put put (not_true (list_any is_name put.headers) both.1)) (put_leaves run put stored k))
put_in_at false course run put stored k p passes =
    subst (λ (q : Progress). Leaves stored (run_headers run) (objects_from run (Some put ∷ [])) (open_from run (Some put ∷ [])) (at_put q put)) (sym p) (put_leaves run put stored k)

-- ---- any packet

idle : (course : Course) (headers : List PlainHeader) (stored : List Object) (code : Code) → progress_in course ≡ progress_of headers → all_done (ends (progress_in course) code).calls (held stored headers) ≡ held stored []
idle course headers stored code p =
    ap (λ (q : Progress). all_done (ends q code).calls (held stored headers)) p ∙ aborted_from (names headers) (bodies headers) stored (object_of headers) code

packet_at : (is_put : Bool) (course : Course) (run : List PlainPacket) (packet : PlainPacket) (stored : List Object) → KeepsRules (run_headers run) → progress_in course ≡ progress_of (run_headers run)
    → Leaves stored (run_headers run) (objects_from run (cond is_put (Some packet) None ∷ [])) (open_from run (cond is_put (Some packet) None ∷ []))
    (cond is_put (at_put_in course packet) (ends (progress_in course) (other_response packet.code)))
packet_at true course run packet stored k p = put_in_at (is_ignoring course && not (list_any is_name packet.headers)) course run packet stored k p refl
packet_at false course run packet stored k p = ended stored (run_headers run) _ _ _ (other_response packet.code) (idle course (run_headers run) stored (other_response packet.code) p) refl refl

pub packet_leaves : (course : Course) (run : List PlainPacket) (read : Result PlainPacket ObexRefusal) (stored : List Object) → KeepsRules (run_headers run) → progress_in course ≡ progress_of (run_headers run)
    → Leaves stored (run_headers run) (objects_from run (put_of read ∷ [])) (open_from run (put_of read ∷ [])) (at_packet course read)
packet_leaves course run (Ok packet) stored k p = packet_at (eqb packet.code 0x02 || eqb packet.code 0x82) course run packet stored k p
packet_leaves course run (Err refusal) stored k p = ended stored (run_headers run) _ _ _ BadRequest (idle course (run_headers run) stored BadRequest p) refl refl

-- ---- one packet more

-- the object of a session is one of the run that goes on
pub headers_keep : (maximum : ℕ) (past : List Heard) → KeepsRules (open_headers maximum past)
headers_keep maximum past = open_keeps [] (puts_heard maximum past) nothing_kept

told_then : (content content' : Option Contents) (change : Contents → Contents) (old new : Contents) → IfSome content (λ contents. contents ≡ old) → content' ≡ option_map change content → change old ≡ new → IfSome content' (λ contents. contents ≡ new)
told_then None content' change old new h e f = subst (λ (c : Option Contents). IfSome c (λ contents. contents ≡ new)) (sym e) tt
told_then (Some contents) content' change old new h e f = subst (λ (c : Option Contents). IfSome c (λ contents'. contents' ≡ new)) (sym e) (ap change h ∙ f)

-- what one packet more leaves, over the whole list
one_more : (before : List Object) (maximum : ℕ) (past : List Heard) (heard : Heard) (progress : Progress) (contents : Contents)
    → progress ≡ progress_of (run_headers (open_from (open_from [] (puts_heard maximum past)) (put_heard maximum heard ∷ [])))
    → contents ≡ held ((before ++ stored_by maximum past) ++ objects_from (open_from [] (puts_heard maximum past)) (put_heard maximum heard ∷ [])) (run_headers (open_from (open_from [] (puts_heard maximum past)) (put_heard maximum heard ∷ [])))
    → (progress ≡ progress_of (open_headers maximum (past ++ heard ∷ []))) × (contents ≡ held (before ++ stored_by maximum (past ++ heard ∷ [])) (open_headers maximum (past ++ heard ∷ [])))
one_more before maximum past heard progress contents p c =
    let all : puts_heard maximum (past ++ heard ∷ []) ≡ puts_heard maximum past ++ put_heard maximum heard ∷ [] = map-append (put_heard maximum) past (heard ∷ []) in
    let run : open_from (open_from [] (puts_heard maximum past)) (put_heard maximum heard ∷ []) ≡ open_from [] (puts_heard maximum (past ++ heard ∷ [])) =
    sym (open-more [] (puts_heard maximum past) (put_heard maximum heard)) ∙ ap (open_from []) (sym all) in
    let objects : stored_by maximum past ++ objects_from (open_from [] (puts_heard maximum past)) (put_heard maximum heard ∷ []) ≡ stored_by maximum (past ++ heard ∷ []) =
    sym (objects-more [] (puts_heard maximum past) (put_heard maximum heard)) ∙ ap (objects_from []) (sym all) in (
      p ∙ ap (λ (r : List PlainPacket). progress_of (run_headers r)) run,
      c ∙ ap (λ (os : List Object). held os (run_headers (open_from (open_from [] (puts_heard maximum past)) (put_heard maximum heard ∷ [])))) (append_assoc before (stored_by maximum past) _ ∙ ap (λ (os : List Object). before ++ os) objects)
          ∙ ap (λ (r : List PlainPacket). held (before ++ stored_by maximum (past ++ heard ∷ [])) (run_headers r)) run,
    )

-- where a call failed
pub after_fault : (before : List Object) (past : List Heard) (session session' : Serving) (content content' : Option Contents) (octets : List ℕ) → StandsFor before past session content → session'.maximum ≡ session.maximum
    → progress_in session'.course ≡ Unnamed → content' ≡ option_map aborted content → StandsFor before (past ++ (octets, true) ∷ []) session' content'
after_fault before past session session' content content' octets stands m p e =
    let stored = before ++ stored_by session.maximum past in
    let more = one_more before session.maximum past (octets, true) Unnamed (held (stored ++ []) []) refl refl in
    record {
      progress = p ∙ more.0 ∙ ap (λ (n : ℕ). progress_of (open_headers n (past ++ (octets, true) ∷ []))) (sym m);
      holds = subst (λ (n : ℕ). IfSome content' (λ contents. contents ≡ held (before ++ stored_by n (past ++ (octets, true) ∷ [])) (open_headers n (past ++ (octets, true) ∷ [])))) (sym m)
          (told_then content content' aborted _ _ stands.holds e (ap (λ (os : List Object). held os []) (sym (append-nil stored)) ∙ more.1));
    }

-- where none failed
pub after_packet : (before : List Object) (past : List Heard) (session session' : Serving) (content content' : Option Contents) (octets : List ℕ) (ruling : Ruling) → StandsFor before past session content → session'.maximum ≡ session.maximum
    → ruling ≡ at_packet session.course (packet_in Request session.maximum octets) → progress_in session'.course ≡ progress_after (Ok ruling.verdict) → content' ≡ option_map (all_done ruling.calls) content
    → StandsFor before (past ++ (octets, false) ∷ []) session' content'
after_packet before past session session' content content' octets ruling stands m r p e =
    let stored = before ++ stored_by session.maximum past in
    let read = packet_in Request session.maximum octets in
    let leaves = subst (λ (x : Ruling). Leaves stored (open_headers session.maximum past) (objects_from (open_from [] (puts_heard session.maximum past)) (put_of read ∷ [])) (open_from (open_from [] (puts_heard session.maximum past)) (put_of read ∷ [])) x) (sym r)
    (packet_leaves session.course (open_from [] (puts_heard session.maximum past)) read stored (headers_keep session.maximum past) stands.progress) in
    let more = one_more before session.maximum past (octets, false) _ _ leaves.progress_is leaves.contents_are in
    record {
      progress = p ∙ more.0 ∙ ap (λ (n : ℕ). progress_of (open_headers n (past ++ (octets, false) ∷ []))) (sym m);
      holds = subst (λ (n : ℕ). IfSome content' (λ contents. contents ≡ held (before ++ stored_by n (past ++ (octets, false) ∷ [])) (open_headers n (past ++ (octets, false) ∷ [])))) (sym m)
          (told_then content content' (all_done ruling.calls) _ _ stands.holds e more.1);
    }
