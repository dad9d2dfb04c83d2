-- What the view of a capture comes to.
use Rattle.std.proofs.Common.{◌≡◌, ℕ, ◌+◌, ◌-◌, ◌<◌, ◌≤◌, ◌⊎◌, List, [], ◌++◌, length, take, Option, Some, None, Err, refl, sym, ap, subst, ◌∙◌, append_assoc, arith, inl, inr}
use Rattle.std.proofs.lemmas.List.{append-nil}
use Rattle.bt_base.specs.Streams.{gained, GainedFront}
use Rattle.capture.specs.declared.entry_refusal.EntryRefusal.TheVariants as entry
use Rattle.push_terms.specs.declared.word.Side.TheVariants as sides
use Rattle.capture.specs.Entries.{Entry, IsCapture, capture_octets}
use Rattle.capture.proofs.EntryLaws.{one_capture}
use Rattle.capture.specs.EntryReading.{record_octets, IsFront}
use Rattle.capture.proofs.FrontLaws.{cut_at_once}
use Rattle.tagged_entries.specs.Records.{least_length}
use Rattle.item_stream.specs.declared.end.Ending.{Ending}
use Rattle.item_stream.specs.declared.end.Ending.TheVariants as ending
use Rattle.item_stream.specs.declared.end.StreamFault.TheVariants as stream
use Rattle.item_stream.specs.Running.{input_limit, Told, GoesPast, Within, Behind, Ends, IsShort, FrontTold, Runs}
use Rattle.btsnoop.specs.Converting.{read_of}
use Rattle.h4_view.specs.declared.refusal.ViewRefusal.{ViewRefusal}
use Rattle.h4_view.specs.declared.refusal.ViewRefusal.TheVariants.{Truncated, TooLong, BadTag, BadRecord}
use Rattle.h4_view.specs.declared.refusal.ViewFault.TheVariants.{ReadFault}
use Rattle.h4_view.specs.declared.tagged.TaggedView.{TaggedView}
use Rattle.h4_view.specs.Tagged.{Stops, BeginsWith, tagged_capture, TaggedViews}
use Rattle.h4_view.specs.Viewing.{FrontShown, OfLines}
use Rattle.btsnoop.proofs.Limits.{some_behind, all_read, read_more}
use Rattle.h4_view.proofs.Viewing.{Shows}
use Rattle.h4_view.specs.Keeping.{of_side}
use Rattle.h4_view.specs.TaggedTelling.{HasShown, Finds, VerdictOf, IsNew}

-- entries that were shown begin the input
abbrev begins : (first now : TaggedView) (input taken rest said : List ℕ) (h : HasShown first now taken said) → input ≡ taken ++ rest → length taken ≤ input_limit → BeginsWith input h.entries
begins first now input taken rest said h whole within = record { each = h.each; within = omega (arith, ap length h.whole, within); rest = rest; whole = whole ∙ ap (λ (t : List ℕ). t ++ rest) h.whole }

record_more : (held more : List ℕ) → IsFront held (Err entry.BadRecord) → IsFront (held ++ more) (Err entry.BadRecord)
record_more held more (tag, payload, rest, is, whole, none) = (tag, payload, rest ++ more, is, ap (λ (t : List ℕ). t ++ more) whole ∙ append_assoc (record_octets tag payload) rest more, none)

pub tag_more : (held more : List ℕ) → IsFront held (Err entry.BadTag) → IsFront (held ++ more) (Err entry.BadTag)
tag_more held more (tag, rest, is, none) = (tag, rest ++ more, ap (λ (t : List ℕ). t ++ more) is, none)

past_stops : (now : TaggedView) (taken held left : List ℕ) → length taken + length held ≤ input_limit → GoesPast Finds now taken held left → Stops (length taken) (held ++ left) (Some (TooLong, input_limit))
past_stops now taken held left within (Within n (short, most, (some, front, is)) past end) =
    let read : read_of (length taken) (held ++ left) ≡ held = all_read (length taken) held left within end in
    (refl, some_behind held left some, subst (λ (t : List ℕ). IsFront t (Err entry.Truncated)) (sym read) front, subst (λ (t : List ℕ). input_limit < length taken + least_length t) (sym read) (omega (arith, past, is)))
past_stops now taken held left within (Behind none done full more) =
    let rest : held ++ left ≡ left = ap (λ (t : List ℕ). t ++ left) none in
    let none_left : input_limit - length taken ≡ 0 = omega (arith, full) in
    let read : read_of (length taken) (held ++ left) ≡ [] = ap (λ (n : ℕ). take n (held ++ left)) none_left in
    (refl, (λ e. more (sym rest ∙ e)), cut_at_once (read_of (length taken) (held ++ left)) read, subst (λ (t : List ℕ). input_limit < length taken + least_length t) (sym read) (omega (arith, full)))

shows : (first now : TaggedView) (input : List ℕ) (old new : Option (List ℕ)) (taken held rest : List ℕ) (verdict : Option (ViewRefusal × ℕ)) → (t : Told (HasShown first) input now taken held rest old new) → Stops (length taken) (held ++ rest) verdict → Shows tagged_capture input old new verdict
shows first now input old new taken held rest verdict t stops =
    let short : length taken ≤ input_limit = omega (arith, t.within) in (
      t.told.entries,
      record {
        begins = begins first now input taken (held ++ rest) t.said t.told (t.whole ∙ append_assoc taken held rest) short;
        stops = subst (λ (k : ℕ). Stops k (held ++ rest) verdict) (ap length t.told.whole) stops;
      },
      t.wrote ∙ ap (gained old) (t.told.lines short),
    )

refused_by : (first now : TaggedView) (input : List ℕ) (old new : Option (List ℕ)) (place : ℕ) (taken held rest : List ℕ) → (t : Told (HasShown first) input now taken held rest old new)
    → ((now.refusal ≡ BadTag) × IsFront held (Err entry.BadTag)) ⊎ ((now.refusal ≡ BadRecord) × IsFront held (Err entry.BadRecord)) → 0 < length held → place ≡ length taken → Shows tagged_capture input old new (Some (now.refusal, place))
refused_by first now input old new place taken held rest t (inl (is, front)) some at =
    subst (λ (r : ViewRefusal). Shows tagged_capture input old new (Some (r, place))) (sym is) (shows first now input old new taken held rest (Some (BadTag, place)) t (at, omega (arith, t.within, some), tag_more held rest front))
refused_by first now input old new place taken held rest t (inr (is, bad)) some at =
    subst (λ (r : ViewRefusal). Shows tagged_capture input old new (Some (r, place))) (sym is)
    (shows first now input old new taken held rest (Some (BadRecord, place)) t
    (at, subst (λ (x : List ℕ). IsFront x (Err entry.BadRecord)) (sym (read_more (length taken) held rest t.within)) (record_more held (take (input_limit - (length taken + length held)) rest) bad)))

ends_by : (first now : TaggedView) (input : List ℕ) (old new : Option (List ℕ)) (ends : Ending) → Ends (HasShown first) Finds now input old new ends → (verdict : Option (ViewRefusal × ℕ)) → VerdictOf now ends verdict → Shows tagged_capture input old new verdict
ends_by first now input old new ending.Whole (t, done) verdict is = subst (Shows tagged_capture input old new) (sym is) (shows first now input old new input [] [] None t refl)
ends_by first now input old new (ending.Truncated place) (taken, held, t, (n, (short, most, (some, front, least)), within), at) verdict is =
    subst (Shows tagged_capture input old new) (sym is) (shows first now input old new taken held [] (Some (Truncated, place)) t
    (at, some_behind held [] some, subst (λ (x : List ℕ). IsFront x (Err entry.Truncated)) (sym (append-nil held)) front, subst (λ (x : List ℕ). length taken + least_length x ≤ input_limit) (sym (append-nil held)) (omega (arith, within, least))))
ends_by first now input old new ending.TooLong (taken, held, rest, t, past) verdict is = subst (Shows tagged_capture input old new) (sym is) (shows first now input old new taken held rest (Some (TooLong, input_limit)) t (past_stops now taken held rest t.within past))
ends_by first now input old new (ending.Refused place) (taken, held, rest, t, (some, found), at) verdict is = subst (Shows tagged_capture input old new) (sym is) (refused_by first now input old new place taken held rest t found some at)

-- how a run ends is what the view shows
pub ends_shown : (first now : TaggedView) (input : List ℕ) (old new : Option (List ℕ)) (ends : Ending) (verdict : Option (ViewRefusal × ℕ)) → VerdictOf now ends verdict → Ends (HasShown first) Finds now input old new ends → Shows tagged_capture input old new verdict
ends_shown first now input old new ends verdict is e = ends_by first now input old new ends e verdict is

unfinished : (now : TaggedView) (held : List ℕ) → IsShort Finds now held → (held ≡ []) ⊎ IsFront held (Err entry.Truncated)
unfinished now held (inl (none, done)) = inl none
unfinished now held (inr (n, (short, most, (some, front, is)))) = inr front

pub read_views : (first now : TaggedView) (input : List ℕ) (left old new : Option (List ℕ)) → Runs (HasShown first) Finds now input left old new (Err stream.ReadFault) → TaggedViews input left old new (Err ReadFault)
read_views first now input left old new (taken, held, rest, t, left-is, short) = (
  t.told.entries,
  record {
    each = t.told.each;
    rest = held;
    took = (rest, t.whole ∙ ap (λ (x : List ℕ). (x ++ held) ++ rest) t.told.whole, left-is);
    within = omega (arith, ap length t.told.whole, t.within);
    unfinished = unfinished now held short;
  },
  t.wrote ∙ ap (gained old) (t.told.lines (omega (arith, t.within))),
)

pub front_views : (first : TaggedView) (input : List ℕ) (old new : Option (List ℕ)) → FrontTold (HasShown first) input old new → FrontShown tagged_capture input old new
front_views first input old new t =
    OfLines t.told.entries (begins first t.then_ input t.taken t.left t.said t.told t.whole t.within) (subst (λ (x : List ℕ). GainedFront old new x) (t.told.lines t.within) t.wrote)

pub none_begins : (all : List ℕ) → BeginsWith all []
none_begins all = record { each = tt; within = omega arith; rest = all; whole = refl }

pub new_shown : (view : TaggedView) → IsNew view → HasShown view view [] []
new_shown view is = record { entries = []; each = tt; whole = refl; lines = λ within. refl; place = λ within. is.place; knows = is.knows; kept = is.empty }

-- ---- a whole capture

none_some : {X : Type 0} {x : X} → None ≡ Some x → ⊥
none_some {X} {x} e = cc

-- of a capture that is shown to its end the packets of host b are kept
pub all_kept : (first now : TaggedView) (input : List ℕ) (old new : Option (List ℕ)) (ends : Ending) (verdict : Option (ViewRefusal × ℕ)) → VerdictOf now ends verdict → verdict ≡ None → Ends (HasShown first) Finds now input old new ends
    → (entries : List Entry) → IsCapture input entries → now.kept.items ≡ capture_octets (of_side sides.B entries)
all_kept first now input old new ending.Whole verdict is none (t, done) entries capture = t.told.kept ∙ ap (λ es. capture_octets (of_side sides.B es)) (one_capture input t.told.entries entries (record { each = t.told.each; whole = t.told.whole }) capture)
all_kept first now input old new (ending.Truncated place) verdict is none e entries capture = absurd (none_some (sym none ∙ is))
all_kept first now input old new ending.TooLong verdict is none e entries capture = absurd (none_some (sym none ∙ is))
all_kept first now input old new (ending.Refused place) verdict is none e entries capture = absurd (none_some (sym none ∙ is))
