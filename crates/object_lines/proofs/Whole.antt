-- What the view of a capture with its objects comes to.
use Rattle.std.proofs.Common.{◌≡◌, ℕ, List, [], ◌++◌, Option, None, Result, Ok, Err, ap, subst, ◌∙◌, inl, inr}
use Rattle.std.specs.Prelude.{OnOk, IfErr}
use Rattle.std.proofs.lemmas.List.{append-nil}
use Rattle.bt_base.specs.Objects.{Object}
use Rattle.bt_base.specs.Streams.{gained, GainedFront}
use Rattle.bt_base.proofs.PortLaws.{gained-gained, front_then, front_whole, front_longer}
use Rattle.push_terms.specs.declared.word.Side.TheVariants as sides
use Rattle.capture.specs.Entries.{Entry, IsCapture, capture_octets}
use Rattle.capture.specs.declared.entry_refusal.EntryRefusal.{EntryRefusal}
use Rattle.capture.specs.CaptureReading.{IsRefused}
use Rattle.capture.proofs.CaptureLaws.{one_reading}
use Rattle.capture.proofs.EntryLaws.{one_capture}
use Rattle.link_talk.specs.Captures.{objects_heard}
use Rattle.h4_view.specs.declared.refusal.ViewFault.{ViewFault}
use Rattle.h4_view.specs.declared.refusal.ViewFault.TheVariants.{Refused, ReadFault, WriteFault, NoMemory}
use Rattle.h4_view.specs.View.{IsOfSink}
use Rattle.h4_view.specs.Keeping.{of_side}
use Rattle.h4_view.specs.Tagged.{IsTaggedView, TaggedViews, tagged_lines}
use Rattle.object_lines.specs.Lines.{viewed, lines_of, object_lines}
use Rattle.object_lines.specs.Viewing.{FrontOfAll, CaptureViews}
use Rattle.object_lines.proofs.Hearing.{hear_by_their_own, own_capture}

ok_err : {X Y : Type 0} {x : X} {y : Y} → Ok x ≡ Err y → ⊥
ok_err {X} {Y} {x} {y} e = cc

-- a capture is not refused
pub not_refused : (octets : List ℕ) (entries : List Entry) (refusal : EntryRefusal) (place : ℕ) → IsCapture octets entries → IsRefused octets refusal place → ⊥
not_refused octets entries refusal place is refused = ok_err (one_reading octets (Ok entries) (Err (refusal, place)) is refused)

-- the lines of the objects of a capture that was read are those of the capture
pub lines_are : (octets text : List ℕ) (read entries : List Entry) (objects : List Object) → IsCapture octets read → IsCapture octets entries → objects ≡ objects_heard viewed sides.B read → text ≡ lines_of objects → text ≡ object_lines entries
lines_are octets text read entries objects one other heard is = is ∙ ap lines_of heard ∙ ap object_lines (one_capture octets read entries one other)

-- the view of an input that is read to its end shows its capture
pub is_capture : (input : List ℕ) (entries : List Entry) → IsTaggedView input entries None → IsCapture input entries
is_capture input entries view = record { each = view.begins.each; whole = view.begins.whole ∙ ap (λ (rest : List ℕ). capture_octets entries ++ rest) view.stops ∙ append-nil (capture_octets entries) }

-- no object was written yet
pub fault_views : (input : List ℕ) (left old new : Option (List ℕ)) (fault : ViewFault) → TaggedViews input left old new (Err fault) → CaptureViews input left old new (Err fault)
fault_views input left old new (Refused refusal place) views = views
fault_views input left old new ReadFault views = views
fault_views input left old new WriteFault views = inl views
fault_views input left old new NoMemory views = inl views

-- memory was wanting for the lines of the objects
pub short_views : (input : List ℕ) (left old new : Option (List ℕ)) → TaggedViews input left old new (Ok tt) → CaptureViews input left old new (Err NoMemory)
short_views input left old new (entries, view, wrote) = inr (entries, view, front_longer old new (tagged_lines [] 0 entries) (object_lines entries) (front_whole old new (tagged_lines [] 0 entries) wrote))

-- the lines of the objects were written behind those of the entries, or a front of them was
pub ok_views : (input : List ℕ) (left old mid new : Option (List ℕ)) (text : List ℕ) → TaggedViews input left old mid (Ok tt) → ((entries : List Entry) → IsCapture input entries → text ≡ object_lines entries) → new ≡ gained mid text → CaptureViews input left old new (Ok tt)
ok_views input left old mid new text (entries, view, wrote) lines more =
    (entries, view, more ∙ ap (λ (octets : List ℕ). gained mid octets) (lines entries (is_capture input entries view)) ∙ ap (λ (content : Option (List ℕ)). gained content (object_lines entries)) wrote ∙ gained-gained old (tagged_lines [] 0 entries) (object_lines entries))

front_views : (input : List ℕ) (left old mid new : Option (List ℕ)) (text : List ℕ) → TaggedViews input left old mid (Ok tt) → ((entries : List Entry) → IsCapture input entries → text ≡ object_lines entries) → GainedFront mid new text → FrontOfAll input old new
front_views input left old mid new text (entries, view, wrote) lines front =
    (entries, view, front_then old mid new (tagged_lines [] 0 entries) (object_lines entries) wrote (subst (λ (octets : List ℕ). GainedFront mid new octets) (lines entries (is_capture input entries view)) front))

pub err_views : (input : List ℕ) (left old mid new : Option (List ℕ)) (text : List ℕ) (fault : ViewFault) → TaggedViews input left old mid (Ok tt) → ((entries : List Entry) → IsCapture input entries → text ≡ object_lines entries) → GainedFront mid new text → IsOfSink fault
    → CaptureViews input left old new (Err fault)
err_views input left old mid new text (Refused refusal place) views lines front is = absurd is
err_views input left old mid new text ReadFault views lines front is = absurd is
err_views input left old mid new text WriteFault views lines front is = inr (front_views input left old mid new text views lines front)
err_views input left old mid new text NoMemory views lines front is = inr (front_views input left old mid new text views lines front)

pub written_views : (input : List ℕ) (left old mid new : Option (List ℕ)) (text : List ℕ) (result : Result (Unit {0}) ViewFault) → TaggedViews input left old mid (Ok tt) → ((entries : List Entry) → IsCapture input entries → text ≡ object_lines entries) → OnOk result (new ≡ gained mid text) → GainedFront mid new text
    → IfErr result IsOfSink → CaptureViews input left old new result
written_views input left old mid new text (Ok done) views lines ok front is = ok_views input left old mid new text views lines ok
written_views input left old mid new text (Err fault) views lines ok front is = err_views input left old mid new text fault views lines front is

-- the lines of the packets of host b are those of all
lines_of_own : (input octets text : List ℕ) (entries : List Entry) → IsCapture input entries → octets ≡ capture_octets (of_side sides.B entries) → ((own : List Entry) → IsCapture octets own → text ≡ object_lines own) → text ≡ object_lines entries
lines_of_own input octets text entries capture kept lines = lines (of_side sides.B entries) (own_capture sides.B octets entries capture.each kept) ∙ ap lines_of (hear_by_their_own viewed sides.B entries)

-- the text that was made of the octets kept is that of the input
pub kept_views : (input octets : List ℕ) (left old mid new : Option (List ℕ)) (text : List ℕ) (result : Result (Unit {0}) ViewFault) → TaggedViews input left old mid (Ok tt) → ((entries : List Entry) → IsCapture input entries → octets ≡ capture_octets (of_side sides.B entries))
    → ((entries : List Entry) → IsCapture octets entries → text ≡ object_lines entries) → OnOk result (new ≡ gained mid text) → GainedFront mid new text → IfErr result IsOfSink → CaptureViews input left old new result
kept_views input octets left old mid new text result views kept lines ok front is =
    written_views input left old mid new text result views (λ entries capture. lines_of_own input octets text entries capture (kept entries capture) lines) ok front is
