-- Each list of octets has a view as a capture of two hosts, and a capture is shown whole.
use Rattle.std.proofs.Common.{◌≡◌, ◌≢◌, ℕ, ◌+◌, ◌<◌, ◌≤◌, ◌⊎◌, List, [], ◌∷◌, ◌++◌, length, take, drop, min, Option, Some, None, Result, Ok, Err, refl, sym, ap, subst, ◌∙◌, append_assoc, arith, inl, inr, length-append}
use Rattle.std.proofs.lemmas.Bool.{cases_lt}
use Rattle.std.proofs.lemmas.List.{append-nil, take-append-drop, length-take, length-drop}
use Rattle.h4_framing.proofs.OctetLists.{IsOctets-take}
use Rattle.capture.specs.declared.entry_refusal.EntryRefusal.{EntryRefusal}
use Rattle.capture.specs.declared.entry_refusal.EntryRefusal.TheVariants as entry
use Rattle.capture.specs.Entries.{Entry, capture_octets}
use Rattle.capture.specs.EntryReading.{IsFront}
use Rattle.capture.specs.CaptureReading.{IsReading}
use Rattle.capture.proofs.FrontLaws.{cut_at_once}
use Rattle.tagged_entries.specs.Records.{least_length}
use Rattle.tagged_entries.proofs.Lengths.{cut_short}
use Rattle.tagged_entries.proofs.Fronts.{each_is_read}
use Rattle.item_stream.specs.Running.{input_limit}
use Rattle.btsnoop.specs.Converting.{read_of}
use Rattle.btsnoop.proofs.Limits.{some_behind, all_read}
use Rattle.h4_view.specs.declared.refusal.ViewRefusal.{ViewRefusal}
use Rattle.h4_view.specs.declared.refusal.ViewRefusal.TheVariants.{Truncated, TooLong, BadTag, BadRecord}
use Rattle.h4_view.specs.Tagged.{Stops, IsTaggedView, tagged_capture}
use Rattle.h4_view.specs.Laws.{EachIsViewedAs, CapturesAreShown}
use Rattle.h4_view.proofs.TaggedEnds.{tag_more}

-- ---- where the view stops

abbrev Stopped : ℕ → List ℕ → Type 0
Stopped from rest = (verdict : Option (ViewRefusal × ℕ)) × Stops from rest verdict

-- what is read behind the entries, and what the input has behind that
record Behind (from : ℕ) (front after : List ℕ) : Type 0 where
  within : from + length front ≤ input_limit
  full : (after ≡ []) ⊎ (from + length front ≡ input_limit)

some_left : (x : ℕ) (after : List ℕ) → x ∷ after ≢ []
some_left x after e = absurd cc

-- all that is read are entries
end_stopped : (from : ℕ) (after : List ℕ) → Behind from [] after → Stopped from after
end_stopped from [] b = (None, refl)
end_stopped from (x ∷ after) b =
    let full : from ≡ input_limit = elim b.full [ inl none ↦ absurd (some_left x after none) | inr f ↦ omega (arith, f) ] in
    let read : read_of from (x ∷ after) ≡ [] = all_read from [] (x ∷ after) b.within (inr (omega (arith, full))) in
    (Some (TooLong, input_limit), (refl, some_left x after, cut_at_once (read_of from (x ∷ after)) read, subst (λ (t : List ℕ). input_limit < from + least_length t) (sym read) (omega (arith, full))))

some_long : (front : List ℕ) → front ≢ [] → 0 < length front
some_long [] some = absurd (some refl)
some_long (x ∷ front) some = omega arith

-- the input ends within an entry
cut_stopped : (from : ℕ) (front after : List ℕ) → Behind from front after → front ≢ [] → IsFront front (Err entry.Truncated) → Stopped from (front ++ after)
cut_stopped from front after b some cut =
    let read = all_read from front after b.within b.full in
    let short = cut_short front cut in
    elim (cases_lt input_limit (from + least_length front)) [
      | inl past ↦ (
        Some (TooLong, input_limit),
        (refl, some_behind front after some, subst (λ (t : List ℕ). IsFront t (Err entry.Truncated)) (sym read) cut, subst (λ (t : List ℕ). input_limit < from + least_length t) (sym read) past),
      )
      | inr within ↦
          let none : after ≡ [] = elim b.full [ inl e ↦ e | inr f ↦ absurd (omega (arith, f, within, short)) ] in
          let all : front ++ after ≡ front = ap (λ (t : List ℕ). front ++ t) none ∙ append-nil front in (
            Some (Truncated, from),
            (refl, some_behind front after some, subst (λ (t : List ℕ). IsFront t (Err entry.Truncated)) (sym all) cut, subst (λ (t : List ℕ). from + least_length t ≤ input_limit) (sym all) within),
          )
    ]

refused_stopped : (from : ℕ) (front after : List ℕ) (refusal : EntryRefusal) → Behind from front after → front ≢ [] → IsFront front (Err refusal) → Stopped from (front ++ after)
refused_stopped from front after entry.BadTag b some front-is = (Some (BadTag, from), (refl, omega (arith, b.within, some_long front some), tag_more front after front-is))
refused_stopped from front after entry.Truncated b some front-is = cut_stopped from front after b some front-is
refused_stopped from front after entry.BadRecord b some front-is =
    (Some (BadRecord, from), (refl, subst (λ (t : List ℕ). IsFront t (Err entry.BadRecord)) (sym (all_read from front after b.within b.full)) front-is))

-- ---- the view

nothing_left : (octets : List ℕ) → length octets ≡ 0 → octets ≡ []
nothing_left [] e = refl
nothing_left (x ∷ octets) e = absurd (omega (arith, e))

behind_read : (input : List ℕ) (entries : List Entry) (front : List ℕ) → take input_limit input ≡ capture_octets entries ++ front → Behind (length (capture_octets entries)) front (drop input_limit input)
behind_read input entries front read =
    let size : length (capture_octets entries) + length front ≡ min input_limit (length input) = sym (length-append (capture_octets entries) front) ∙ ap length (sym read) ∙ length-take input_limit input in
    record {
      within = omega (arith, size);
      full = elim (cases_lt input_limit (length input)) [ inl more ↦ inr (omega (arith, size, more)) | inr all ↦ inl (nothing_left (drop input_limit input) (omega (arith, all, length-drop input_limit input))) ];
    }

whole_read : (input : List ℕ) (entries : List Entry) (front : List ℕ) → take input_limit input ≡ capture_octets entries ++ front → input ≡ capture_octets entries ++ (front ++ drop input_limit input)
whole_read input entries front read =
    sym (take-append-drop input_limit input) ∙ ap (λ (t : List ℕ). t ++ drop input_limit input) read ∙ append_assoc (capture_octets entries) front (drop input_limit input)

viewed : (input : List ℕ) → (reading : Result (List Entry) (EntryRefusal × ℕ)) → IsReading (take input_limit input) reading → (items : List Entry) × (verdict : Option (ViewRefusal × ℕ)) × IsTaggedView input items verdict
viewed input (Ok entries) read =
    let whole : take input_limit input ≡ capture_octets entries ++ [] = read.whole ∙ sym (append-nil (capture_octets entries)) in
    let b = behind_read input entries [] whole in
    let stopped = end_stopped (length (capture_octets entries)) (drop input_limit input) b in
    (entries, stopped.0, record { begins = record { each = read.each; within = omega (arith, b.within); rest = drop input_limit input; whole = whole_read input entries [] whole }; stops = stopped.1 })
viewed input (Err (refusal, place)) read =
    let b = behind_read input read.entries read.rest read.whole in
    let stopped = refused_stopped (length (capture_octets read.entries)) read.rest (drop input_limit input) refusal b read.more read.refused in (
      read.entries,
      stopped.0,
      record { begins = record { each = read.each; within = omega (arith, b.within); rest = read.rest ++ drop input_limit input; whole = whole_read input read.entries read.rest read.whole }; stops = stopped.1 },
    )

pub each_tagged_viewed : EachIsViewedAs tagged_capture
each_tagged_viewed input fits = let read = each_is_read (take input_limit input) (IsOctets-take input_limit input fits) in viewed input read.0 read.1

pub captures_shown : CapturesAreShown
captures_shown capture entries is short =
    record { begins = record { each = is.each; within = omega (arith, ap length is.whole, short); rest = []; whole = is.whole ∙ sym (append-nil (capture_octets entries)) }; stops = refl }
