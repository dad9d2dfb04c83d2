-- What the view of a btsnoop file comes to.
use Rattle.std.proofs.Common.{◌≡◌, ◌≢◌, ℕ, ◌+◌, ◌-◌, ◌<◌, ◌≤◌, List, [], ◌++◌, length, take, Option, Some, Err, refl, sym, ap, subst, ◌∙◌, append_assoc, arith, inl, inr}
use Rattle.std.proofs.lemmas.List.{append-nil}
use Rattle.bt_base.specs.Streams.{gained, GainedFront}
use Rattle.btsnoop.specs.declared.refusal.SnoopRefusal.{SnoopRefusal}
use Rattle.btsnoop.specs.declared.fields.Part.{Part}
use Rattle.btsnoop.specs.declared.fields.Part.TheVariants.{Header, Body}
use Rattle.btsnoop.specs.Fields.{fault_in, told_length, IsUnfinished}
use Rattle.btsnoop.specs.Reading.{IsCut}
use Rattle.btsnoop.proofs.FieldLemmas.{fault_stays, told_header, nothing_unfinished}
use Rattle.btsnoop.proofs.LeadingLemmas.{told_some}
use Rattle.item_stream.specs.declared.end.Ending.{Ending}
use Rattle.item_stream.specs.declared.end.Ending.TheVariants as ending
use Rattle.item_stream.specs.declared.end.StreamFault.TheVariants as stream
use Rattle.item_stream.specs.Running.{input_limit, Told, GoesPast, Within, Behind, Ends, IsShort, FrontTold, Runs}
use Rattle.btsnoop.specs.Converting.{read_of}
use Rattle.h4_view.specs.declared.refusal.ViewRefusal.{ViewRefusal}
use Rattle.h4_view.specs.declared.refusal.ViewRefusal.TheVariants.{Truncated, TooLong}
use Rattle.h4_view.specs.declared.refusal.ViewFault.TheVariants.{ReadFault}
use Rattle.h4_view.specs.declared.snoop.SnoopView.{SnoopView}
use Rattle.h4_view.specs.Viewing.{FrontShown, OfLines}
use Rattle.h4_view.specs.Snoop.{Kept, view_refusal, Stops, AtEnd, Wrong, Cut, Long, led_by, BeginsWith, snoop_file, SnoopViews}
use Rattle.h4_view.specs.SnoopTelling.{HasShown, Finds, VerdictOf, IsNew}
use Rattle.btsnoop.proofs.Limits.{some_behind, all_read, read_more}
use Rattle.h4_view.proofs.Viewing.{Shows}

-- records that were shown begin the input
abbrev begins : (first now : SnoopView) (input taken rest said : List ℕ) (h : HasShown first now taken said) → input ≡ taken ++ rest → length taken ≤ input_limit → BeginsWith input h.items
begins first now input taken rest said h whole within = record { part = now.part; each = h.each; early = h.early; within = omega (arith, ap length h.whole, within); rest = rest; whole = whole ∙ ap (λ (t : List ℕ). t ++ rest) h.whole }

shows : (first now : SnoopView) (input : List ℕ) (old new : Option (List ℕ)) (taken held rest : List ℕ) (verdict : Option (ViewRefusal × ℕ)) → (t : Told (HasShown first) input now taken held rest old new) → Stops now.part (length taken) (held ++ rest) verdict
    → Shows snoop_file input old new verdict
shows first now input old new taken held rest verdict t stops =
    let short : length taken ≤ input_limit = omega (arith, t.within) in (
      t.told.items,
      record {
        begins = begins first now input taken (held ++ rest) t.said t.told (t.whole ∙ append_assoc taken held rest) short;
        stops = subst (λ (k : ℕ). Stops now.part k (held ++ rest) verdict) (ap length t.told.whole) stops;
      },
      t.wrote ∙ ap (gained old) (t.told.lines short),
    )

pub is_unfinished : (part : Part) (rest : List ℕ) → IsCut part rest → IsUnfinished part rest
is_unfinished Header rest cut = cut
is_unfinished Body rest (some, cut) = cut

-- only a record goes past the greatest length
past_some : (part : Part) (items : List Kept) (taken held : List ℕ) (n : ℕ) → taken ≡ led_by part items → IsCut part held → n ≡ told_length part held → input_limit < length taken + n → held ≢ []
past_some Header items taken held n led cut is past = absurd (omega (arith, ap length led, is, told_header held, past))
past_some Body items taken held n led (some, cut) is past = some

past_stops : (now : SnoopView) (items : List Kept) (taken held left : List ℕ) → taken ≡ led_by now.part items → length taken + length held ≤ input_limit → GoesPast Finds now taken held left → Stops now.part (length taken) (held ++ left) (Some (TooLong, input_limit))
past_stops now items taken held left led within (Within n (short, most, (cut, is)) past end) =
    let read : read_of (length taken) (held ++ left) ≡ held = all_read (length taken) held left within end in
    Long (some_behind held left (past_some now.part items taken held n led cut is past)) (subst (IsUnfinished now.part) (sym read) (is_unfinished now.part held cut))
    (subst (λ (t : List ℕ). input_limit < length taken + told_length now.part t) (sym read) (omega (arith, past, is))) refl
past_stops now items taken held left led within (Behind none done full more) =
    let rest : held ++ left ≡ left = ap (λ (t : List ℕ). t ++ left) none in
    let none_left : input_limit - length taken ≡ 0 = omega (arith, full) in
    let read : read_of (length taken) (held ++ left) ≡ [] = ap (λ (n : ℕ). take n (held ++ left)) none_left in
    Long (λ e. more (sym rest ∙ e)) (subst (IsUnfinished now.part) (sym read) (nothing_unfinished now.part))
    (subst (λ (t : List ℕ). input_limit < length taken + told_length now.part t) (sym read) (omega (arith, full, told_some now.part []))) refl

refused_by : (now : SnoopView) (taken held rest : List ℕ) (refusal : SnoopRefusal) (verdict : Option (ViewRefusal × ℕ)) → length taken + length held ≤ input_limit → fault_in now.part held ≡ Some (refusal, now.within) → now.refusal ≡ view_refusal refusal
    → verdict ≡ Some (now.refusal, length taken + now.within) → Stops now.part (length taken) (held ++ rest) verdict
refused_by now taken held rest refusal verdict within fault is verdict-is =
    Wrong refusal now.within (ap (fault_in now.part) (read_more (length taken) held rest within) ∙ fault_stays now.part held (take (input_limit - (length taken + length held)) rest) (refusal, now.within) fault)
    (verdict-is ∙ ap (λ (r : ViewRefusal). Some (r, length taken + now.within)) is)

-- how a run ends is what the view shows
pub ends_shown : (first now : SnoopView) (input : List ℕ) (old new : Option (List ℕ)) (ends : Ending) (verdict : Option (ViewRefusal × ℕ)) → VerdictOf now ends verdict → Ends (HasShown first) Finds now input old new ends → Shows snoop_file input old new verdict
ends_shown first now input old new ending.Whole verdict is (t, (body, none)) = shows first now input old new input [] [] verdict t (AtEnd body refl is)
ends_shown first now input old new (ending.Truncated place) verdict is (taken, held, t, (n, (short, most, (cut, least)), within), at) =
    shows first now input old new taken held [] verdict t
    (Cut (subst (IsCut now.part) (sym (append-nil held)) cut) (subst (λ (x : List ℕ). length taken + told_length now.part x ≤ input_limit) (sym (append-nil held)) (omega (arith, within, least))) (is ∙ ap (λ (k : ℕ). Some (Truncated, k)) at))
ends_shown first now input old new ending.TooLong verdict is (taken, held, rest, t, past) =
    subst (Shows snoop_file input old new) (sym is) (shows first now input old new taken held rest (Some (TooLong, input_limit)) t (past_stops now t.told.items taken held rest t.told.whole t.within past))
ends_shown first now input old new (ending.Refused place) verdict is (taken, held, rest, t, (some, (refusal, fault, r, small)), at) =
    shows first now input old new taken held rest verdict t
    (refused_by now taken held rest refusal verdict t.within fault r (is.1 ∙ ap (λ (k : ℕ). Some (now.refusal, k)) (is.2 (omega (arith, at, t.within)) small ∙ ap (λ (k : ℕ). k + now.within) at)))

unfinished : (now : SnoopView) (held : List ℕ) → IsShort Finds now held → IsUnfinished now.part held
unfinished now held (inl (none, done)) = subst (IsUnfinished now.part) (sym none) (nothing_unfinished now.part)
unfinished now held (inr (n, (short, most, (cut, is)))) = is_unfinished now.part held cut

pub read_views : (first now : SnoopView) (input : List ℕ) (left old new : Option (List ℕ)) → Runs (HasShown first) Finds now input left old new (Err stream.ReadFault) → SnoopViews input left old new (Err ReadFault)
read_views first now input left old new (taken, held, rest, t, left-is, short) = (
  t.told.items,
  record {
    part = now.part;
    each = t.told.each;
    early = t.told.early;
    rest = held;
    took = (rest, t.whole ∙ ap (λ (x : List ℕ). (x ++ held) ++ rest) t.told.whole, left-is);
    within = omega (arith, ap length t.told.whole, t.within);
    unfinished = unfinished now held short;
  },
  t.wrote ∙ ap (gained old) (t.told.lines (omega (arith, t.within))),
)

pub front_views : (first : SnoopView) (input : List ℕ) (old new : Option (List ℕ)) → FrontTold (HasShown first) input old new → FrontShown snoop_file input old new
front_views first input old new t =
    OfLines t.told.items (begins first t.then_ input t.taken t.left t.said t.told t.whole t.within) (subst (λ (x : List ℕ). GainedFront old new x) (t.told.lines t.within) t.wrote)

pub none_begins : (all : List ℕ) → BeginsWith all []
none_begins all = record { part = Header; each = tt; early = λ e. refl; within = omega arith; rest = all; whole = refl }

pub new_shown : (view : SnoopView) → IsNew view → HasShown view view [] []
new_shown view is = record {
  items = [];
  each = tt;
  early = λ e. refl;
  whole = ap (λ (p : Part). led_by p []) (sym is.part);
  lines = λ within. refl;
  place = λ within. is.place;
  knows = is.knows;
}
