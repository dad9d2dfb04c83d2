-- Each list of octets has a view as a btsnoop file, and a file is shown whole.
use Rattle.std.proofs.Common.{◌≡◌, ◌≢◌, ℕ, ◌+◌, ◌<◌, ◌≤◌, ◌⊎◌, List, [], ◌∷◌, ◌++◌, length, take, drop, min, map, Option, Some, None, refl, sym, ap, subst, ◌∙◌, append_assoc, arith, inl, inr, length-append}
use Rattle.std.specs.List.{AllByRecursion}
use Rattle.std.proofs.lemmas.Bool.{cases_lt}
use Rattle.std.proofs.lemmas.List.{append-nil, take-append-drop, take_all, length-take, length-drop}
use Rattle.h4_framing.proofs.OctetLists.{IsOctets-take}
use Rattle.tagged_entries.proofs.Fronts.{packet_in}
use Rattle.btsnoop.specs.declared.fields.Part.{Part}
use Rattle.btsnoop.specs.declared.fields.Part.TheVariants.{Header, Body}
use Rattle.btsnoop.specs.Files.{Record, IsRecord}
use Rattle.btsnoop.specs.Fields.{fault_in, told_length, IsUnfinished}
use Rattle.btsnoop.specs.Reading as reading
use Rattle.btsnoop.proofs.FieldLemmas.{Fault, told_header, nothing_unfinished}
use Rattle.btsnoop.proofs.LeadingLemmas.{told_some}
use Rattle.btsnoop.proofs.ReadingLemmas.{each_read, file_read}
use Rattle.item_stream.specs.Running.{input_limit}
use Rattle.btsnoop.specs.Converting.{read_of}
use Rattle.h4_view.specs.declared.refusal.ViewRefusal.{ViewRefusal}
use Rattle.h4_view.specs.declared.refusal.ViewRefusal.TheVariants.{Truncated, TooLong}
use Rattle.h4_view.specs.Snoop.{Kept, IsKept, view_refusal, Stops, AtEnd, Wrong, Cut, Long, led_by, IsSnoopView, snoop_file}
use Rattle.h4_view.specs.Laws.{EachIsViewedAs, FilesAreShown}
use Rattle.btsnoop.proofs.Limits.{some_behind, all_read}
use Rattle.h4_view.proofs.SnoopLines.{item_of}
use Rattle.h4_view.proofs.SnoopEnds.{is_unfinished}

-- each record with its packet
all_kept : (items : List Record) → AllByRecursion IsRecord items → (ks : List Kept) × AllByRecursion IsKept ks × (map item_of ks ≡ items)
all_kept [] each = ([], tt, refl)
all_kept (item ∷ items) (is, each) =
    let found = packet_in item.octets is.octets in
    let behind = all_kept items each in
    (record { item = item; packet = found.0 } ∷ behind.0, ((is, found.1), behind.1), ap (λ (rs : List Record). item ∷ rs) behind.2)

-- ---- where the view stops

-- what is read behind the records, and what the input has behind that
record Behind (part : Part) (from : ℕ) (front after : List ℕ) : Type 0 where
  within : from + length front ≤ input_limit
  full : (after ≡ []) ⊎ (from + length front ≡ input_limit)
  start : part ≡ Header → from ≡ 0

behind_read : (part : Part) (from : ℕ) (front after : List ℕ) → Behind part from front after → read_of from (front ++ after) ≡ front
behind_read part from front after b = all_read from front after b.within b.full

-- the view stops somewhere, and behind the last record of an input that is read whole
abbrev Stopped : Part → ℕ → List ℕ → List ℕ → Option Fault → Type 0
Stopped part from front after ending = (v : Option (ViewRefusal × ℕ)) × Stops part from (front ++ after) v × (ending ≡ None → after ≡ [] → v ≡ None)

end_stopped : (part : Part) (from : ℕ) (front after : List ℕ) (ending : Option Fault) → Behind part from front after → part ≡ Body → front ≡ [] → Stopped part from front after ending
end_stopped part from front [] ending b body none = (None, AtEnd body (append-nil front ∙ none) refl, λ e f. refl)
end_stopped part from front (x ∷ after) ending b body none =
    let read : read_of from (front ++ x ∷ after) ≡ [] = behind_read part from front (x ∷ after) b ∙ none in
    let full : from ≡ input_limit = elim b.full [ inl e ↦ absurd cc | inr f ↦ omega (arith, f, ap length none) ] in (
      Some (TooLong, input_limit),
      Long (λ e. let both = sym (ap (λ (t : List ℕ). t ++ x ∷ after) none) ∙ e in cc) (subst (IsUnfinished part) (sym read) (nothing_unfinished part))
          (subst (λ (t : List ℕ). input_limit < from + told_length part t) (sym read) (omega (arith, full, told_some part []))) refl,
      λ e f. absurd cc,
    )

-- a header never goes past the greatest length
long_some : (part : Part) (from : ℕ) (front after : List ℕ) → Behind part from front after → reading.IsCut part front → input_limit < from + told_length part front → front ++ after ≢ []
long_some Header from front after b cut past = absurd (omega (arith, b.start refl, told_header front, past))
long_some Body from front after b (some, cut) past = some_behind front after some

cut_stopped : (part : Part) (from : ℕ) (front after : List ℕ) (ending : Option Fault) (place : Fault) → Behind part from front after → reading.IsCut part front → ending ≡ Some place → Stopped part from front after ending
cut_stopped part from front after ending place b cut is =
    let read = behind_read part from front after b in
    let unfinished = is_unfinished part front cut in
    let never : ending ≡ None → ⊥ = λ e. let both = sym e ∙ is in cc in
    elim (cases_lt input_limit (from + told_length part front)) [
      | inl past ↦ (
        Some (TooLong, input_limit),
        Long (long_some part from front after b cut past) (subst (IsUnfinished part) (sym read) unfinished) (subst (λ (t : List ℕ). input_limit < from + told_length part t) (sym read) past) refl,
        λ e f. absurd (never e),
      )
      | inr within ↦
          let none : after ≡ [] = elim b.full [ inl e ↦ e | inr f ↦ absurd (omega (arith, f, within, unfinished.short)) ] in
          let all : front ++ after ≡ front = ap (λ (t : List ℕ). front ++ t) none ∙ append-nil front in (
            Some (Truncated, from),
            Cut (subst (reading.IsCut part) (sym all) cut) (subst (λ (t : List ℕ). from + told_length part t ≤ input_limit) (sym all) within) refl,
            λ e f. absurd (never e),
          )
    ]

stopped : (part : Part) (from : ℕ) (front after : List ℕ) (ending : Option Fault) → Behind part from front after → reading.Stops part from front ending → Stopped part from front after ending
stopped part from front after ending b (reading.AtEnd body none is) = end_stopped part from front after ending b body none
stopped part from front after ending b (reading.Within cut is) = cut_stopped part from front after ending _ b cut is
stopped part from front after ending b (reading.Wrong r place wrong is) =
    let read = behind_read part from front after b in
    (Some (view_refusal r, from + place), Wrong r place (ap (fault_in part) read ∙ wrong) refl, λ e f. let both = sym e ∙ is in absurd cc)

-- ---- the view

nothing_left : (octets : List ℕ) → length octets ≡ 0 → octets ≡ []
nothing_left [] e = refl
nothing_left (x ∷ octets) e = absurd (omega (arith, e))

none_kept : (ks : List Kept) → map item_of ks ≡ [] → ks ≡ []
none_kept [] e = refl
none_kept (k ∷ ks) e = absurd cc

start_of : (part : Part) (ks : List Kept) → part ≡ Header → length (led_by part ks) ≡ 0
start_of part ks header = ap (λ (p : Part). length (led_by p ks)) header

viewed : (input : List ℕ) (part : Part) (ks : List Kept) (front : List ℕ) (ending : Option Fault) → AllByRecursion IsKept ks → (part ≡ Header → ks ≡ []) → take input_limit input ≡ led_by part ks ++ front → reading.Stops part (length (led_by part ks)) front ending
    → (v : Option (ViewRefusal × ℕ)) × IsSnoopView input ks v × (ending ≡ None → length input ≤ input_limit → v ≡ None)
viewed input part ks front ending each early read stops =
    let from : ℕ = length (led_by part ks) in
    let after : List ℕ = drop input_limit input in
    let size : from + length front ≡ min input_limit (length input) = sym (length-append (led_by part ks) front) ∙ ap length (sym read) ∙ length-take input_limit input in
    let whole : input ≡ led_by part ks ++ (front ++ after) = sym (take-append-drop input_limit input) ∙ ap (λ (t : List ℕ). t ++ after) read ∙ append_assoc (led_by part ks) front after in
    let b : Behind part from front after = record {
      within = omega (arith, size);
      full = elim (cases_lt input_limit (length input)) [ inl more ↦ inr (omega (arith, size, more)) | inr all ↦ inl (nothing_left (drop input_limit input) (omega (arith, all, length-drop input_limit input))) ];
      start = start_of part ks;
    } in
    let s = stopped part from front after ending b stops in (
      s.0,
      record { begins = record { part = part; each = each; early = early; within = omega (arith, size); rest = front ++ after; whole = whole }; stops = s.1 },
      λ none short. s.2 none (nothing_left (drop input_limit input) (omega (arith, short, length-drop input_limit input))),
    )

pub each_snoop_viewed : EachIsViewedAs snoop_file
each_snoop_viewed input fits =
    let read = each_read (take input_limit input) (IsOctets-take input_limit input fits) in
    let ks = all_kept read.0 read.2.each in
    let led : led_by read.2.part ks.0 ≡ reading.lead read.2.part read.0 = ap (reading.lead read.2.part) ks.2 in
    let view = viewed input read.2.part ks.0 read.2.rest read.1 ks.1 (λ e. none_kept ks.0 (ks.2 ∙ read.2.early e)) (read.2.whole ∙ ap (λ (t : List ℕ). t ++ read.2.rest) (sym led))
    (subst (λ (k : ℕ). reading.Stops read.2.part k read.2.rest read.1) (ap length (sym led)) read.2.stops) in
    (ks.0, view.0, view.1)

pub files_shown : FilesAreShown
files_shown file items is short =
    let read = file_read file items is in
    let whole : take input_limit file ≡ file = take_all input_limit file short in
    let ks = all_kept items read.each in
    let led : led_by read.part ks.0 ≡ reading.lead read.part items = ap (reading.lead read.part) ks.2 in
    let view = viewed file read.part ks.0 read.rest None ks.1 (λ e. none_kept ks.0 (ks.2 ∙ read.early e)) (whole ∙ read.whole ∙ ap (λ (t : List ℕ). t ++ read.rest) (sym led))
    (subst (λ (k : ℕ). reading.Stops read.part k read.rest None) (ap length (sym led)) read.stops) in
    (ks.0, ks.2, subst (IsSnoopView file ks.0) (view.2 refl short) view.1)
