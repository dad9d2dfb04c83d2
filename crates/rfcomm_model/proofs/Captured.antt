-- The SDUs that passed show what a side holds.
use Rattle.std.proofs.Common.{arith, ◌≡◌, ℕ, ◌<◌, ◌+◌, List, [], ◌∷◌, ◌++◌, Option, Some, None, Ok, Err, refl, sym, ap, ◌∙◌, append_assoc, append-nil}
use Rattle.std.specs.Prelude.{pos, ◌-ℤ◌}
use Rattle.std.specs.List.{cons_option}
use Rattle.std.proofs.Math.IntN.{pos-+ℤ-pos, +ℤ-neg_ℤ_cancel}
use Rattle.std.proofs.lemmas.List.Elements.{filter_map-append}
use Rattle.rfcomm_frames.specs.declared.connection.Role.{Role}
use Rattle.rfcomm_frames.specs.Answers.{Answer}
use Rattle.rfcomm_frames.specs.FrameReading.{frame_answer}
use Rattle.rfcomm_frames.specs.Connections.{other_role}
use Rattle.rfcomm_frames.specs.Multiplexing.{Passed, Framed, framed, frames, no_connections, carried, granted, spent}
use Rattle.rfcomm_frames.specs.Ending.{no_course, to_closing}
use Rattle.rfcomm_frames.proofs.FrameReading.{spelled_answered}
use Rattle.rfcomm_model.specs.Saying.{Said, next}
use Rattle.rfcomm_model.specs.Sides.{Deed, Hears, Says, Sends, Leaves, Side, heard_frame, said_by, done, all_done, new_side, AlwaysRoom}
use Rattle.rfcomm_model.specs.ClosedSides.{ReadsToClosing}
use Rattle.rfcomm_model.specs.Captured.{Goes, Passes, AllPass, CaptureReads, CapturesRead, UnfloodedCapturesRead}
use Rattle.rfcomm_model.specs.Taken.{all_taken, SendsTaken}
use Rattle.rfcomm_model.proofs.Taking.{taken-is_sent}
use Rattle.rfcomm_model.proofs.Flooding.{all_find}
use Rattle.rfcomm_model.proofs.Owning.{Owns, all_own}
use Rattle.rfcomm_model.proofs.Ended.{closed-sides_read}

-- ---- the frames of the SDUs are those that were heard and said

heard_is : (from : Role) (a : Answer) → cons_option (framed from a) [] ≡ heard_frame from a
heard_is from (Ok frame) = refl
heard_is from (Err refusal) = refl

no_more : (side : Side) (new : List Passed) → new ≡ [] → side.talk ≡ side.talk ++ frames new
no_more side new is = sym (append-nil side.talk) ∙ ap (λ (ps : List Passed). side.talk ++ frames ps) (sym is)

said_talks : (o : Option Said) (side : Side) (new : List Passed) → Goes side.mux.role o new → (said_by o side).talk ≡ side.talk ++ frames new
said_talks None side new is = no_more side new is
said_talks (Some said) side new (sdu, octets, spells, is) =
    let role = side.mux.role in
    ap (λ (fs : List Framed). side.talk ++ fs) (sym (ap (heard_frame role) (spelled_answered said.frame sdu octets spells)) ∙ sym (heard_is role (frame_answer sdu)))
    ∙ ap (λ (ps : List Passed). side.talk ++ frames ps) (sym is)

done_talks : (deed : Deed) (side : Side) (new : List Passed) → Passes deed side.mux new → (done deed side).talk ≡ side.talk ++ frames new
done_talks (Hears sdu) side new is =
    ap (λ (fs : List Framed). side.talk ++ fs) (sym (heard_is (other_role side.mux.role) (frame_answer sdu))) ∙ ap (λ (ps : List Passed). side.talk ++ frames ps) (sym is)
done_talks Says side new goes = said_talks (next side.mux) side new goes
done_talks (Sends octets) side new is = no_more side new is
done_talks Leaves side new is = no_more side new is

all_talk : (deeds : List Deed) (side : Side) (passed : List Passed) → AllPass deeds side passed → (all_done deeds side).talk ≡ side.talk ++ frames passed
all_talk [] side passed is = no_more side passed is
all_talk (deed ∷ deeds) side passed (new, rest, parts, one, others) =
    all_talk deeds (done deed side) rest others
    ∙ (ap (λ (fs : List Framed). fs ++ frames rest) (done_talks deed side new one)
    ∙ (append_assoc side.talk (frames new) (frames rest)
    ∙ ap (λ (fs : List Framed). side.talk ++ fs) (sym (filter_map-append (λ (p : Passed). framed p.from (frame_answer p.sdu)) new rest) ∙ ap frames (sym parts))))

-- ---- what they carry and grant

left_over : (s h : ℕ) → pos (s + h) -ℤ pos s ≡ pos h
left_over s h = ap (λ n. pos n -ℤ pos s) (omega arith) ∙ (ap (λ m. m -ℤ pos s) (sym (pos-+ℤ-pos h s)) ∙ +ℤ-neg_ℤ_cancel (pos h) (pos s))

talk_reads : (d : ℕ) (role : Role) (side : Side) (taken : List ℕ) (passed : List Passed) → side.talk ≡ frames passed → ReadsToClosing d role side → SendsTaken d role side taken → Owns d role side.talk
    → CaptureReads d role side taken passed
talk_reads d role side taken passed is reads sends owns =
    let live : List Framed = to_closing d role no_course side.talk in
    let same : to_closing d role no_course (frames passed) ≡ live = ap (to_closing d role no_course) (sym is) in
    record {
      octets = ap (carried d (other_role role) no_connections) same ∙ sym reads.octets;
      credits =
          ap (λ (fs : List Framed). pos (granted d role no_connections fs) -ℤ pos (spent d role fs)) same
          ∙ (ap (λ n. pos n -ℤ pos (spent d role live)) reads.credits ∙ left_over (spent d role live) side.mux.account.held);
      rest = sends.rest;
      own = sends.front ∙ ap (λ (xs : List ℕ). xs ++ sends.rest) (sym owns ∙ sym (ap (carried d role no_connections) same));
    }

run_reads : (role : Role) (dlci largest own cap : ℕ) (deeds : List Deed) (passed : List Passed) → 0 < dlci →
    let new = new_side role dlci largest own cap in
    let side = all_done deeds new in
    AllPass deeds new passed → AlwaysRoom deeds new → ReadsToClosing dlci role side → CaptureReads dlci role side (all_taken deeds new) passed
run_reads role dlci largest own cap deeds passed some pass room reads =
    let new = new_side role dlci largest own cap in
    talk_reads dlci role (all_done deeds new) (all_taken deeds new) passed (all_talk deeds new passed pass) reads (taken-is_sent role dlci largest own cap deeds some) (all_own role dlci largest own cap deeds some room)

pub captures-read : CapturesRead
captures-read role dlci largest own cap deeds passed some pass orderly room =
    run_reads role dlci largest own cap deeds passed some pass room (closed-sides_read role dlci largest own cap deeds some orderly room)

pub unflooded-captures_read : UnfloodedCapturesRead
unflooded-captures_read role dlci largest own cap deeds passed some pass orderly few =
    captures-read role dlci largest own cap deeds passed some pass orderly (all_find 0 deeds (new_side role dlci largest own cap) (omega arith) few)
