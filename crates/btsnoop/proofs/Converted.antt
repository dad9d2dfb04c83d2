-- What a conversion comes to.
use Rattle.std.proofs.Common.{◌≡◌, ℕ, ◌+◌, ◌-◌, ◌<◌, ◌≤◌, ◌⊎◌, List, [], ◌++◌, length, take, Option, Some, None, IfSome, Ok, Err, refl, sym, ap, subst, ◌∙◌, append_assoc, arith, inl, inr}
use Rattle.std.proofs.lemmas.List.{append-nil, drop_all}
use Rattle.bt_base.specs.Streams.{gained, GainedFront}
use Rattle.push_terms.specs.declared.word.Side.{Side}
use Rattle.capture.specs.declared.entry_refusal.EntryRefusal.TheVariants as entry
use Rattle.capture.specs.Entries.{moved_tag}
use Rattle.capture.specs.EntryReading.{record_octets as tagged, IsFront}
use Rattle.capture.proofs.FrontLaws.{cut_at_once}
use Rattle.tagged_entries.specs.Records.{least_length}
use Rattle.item_stream.specs.declared.end.Ending.TheVariants as ending
use Rattle.item_stream.specs.declared.end.StreamFault.TheVariants as stream
use Rattle.item_stream.specs.Running.{input_limit, Told, GoesPast, Within, Behind, Ends, IsShort, FrontTold, Runs}
use Rattle.btsnoop.specs.declared.refusal.SnoopRefusal.{SnoopRefusal}
use Rattle.btsnoop.specs.declared.refusal.SnoopRefusal.TheVariants.{Truncated, BadTag, BadRecord, TooLong}
use Rattle.btsnoop.specs.declared.fault.SnoopFault.TheVariants.{Refused, ReadFault, WriteFault, NoMemory}
use Rattle.btsnoop.specs.declared.converting.Converter.{Converter}
use Rattle.btsnoop.specs.Files.{file_header, file_of}
use Rattle.btsnoop.specs.Writing.{Writes}
use Rattle.btsnoop.proofs.Items.{header_size}
use Rattle.btsnoop.proofs.Limits.{some_behind, all_read, read_more}
use Rattle.btsnoop.specs.Converting.{first_time, records_of, IsBadPacket, read_of, Stops, BeginsWith, IsReading, FrontWritten, Converts}
use Rattle.btsnoop.specs.Converter.{HasRead, Finds}

-- entries that were read begin the input
abbrev begins : (first now : Converter) (input taken rest said : List ℕ) (h : HasRead first now taken said) → input ≡ taken ++ rest → length taken ≤ input_limit → BeginsWith input h.items
begins first now input taken rest said h whole within = record { each = h.each; within = omega (arith, ap length h.whole); rest = rest; whole = whole ∙ ap (λ (t : List ℕ). t ++ rest) h.whole }

-- reading stops so behind them
reading : (first now : Converter) (input taken rest said : List ℕ) (verdict : Option (SnoopRefusal × ℕ)) (h : HasRead first now taken said) → input ≡ taken ++ rest → length taken ≤ input_limit → Stops (length taken) rest verdict → IsReading input h.items verdict
reading first now input taken rest said verdict h whole within stops = record { begins = begins first now input taken rest said h whole within; stops = subst (λ (k : ℕ). Stops k rest verdict) (ap length h.whole) stops }

bad_more : (held more : List ℕ) → IsBadPacket held → IsBadPacket (held ++ more)
bad_more held more bad = record { side = bad.side; flow = bad.flow; payload = bad.payload; more = bad.more ++ more; short = bad.short; whole = ap (λ (t : List ℕ). t ++ more) bad.whole ∙ append_assoc (tagged (moved_tag bad.side bad.flow) bad.payload) bad.more more; none = bad.none }

tag_more : (held more : List ℕ) → IsFront held (Err entry.BadTag) → IsFront (held ++ more) (Err entry.BadTag)
tag_more held more (tag, rest, is, none) = (tag, rest ++ more, ap (λ (t : List ℕ). t ++ more) is, none)

past_stops : (now : Converter) (taken held left : List ℕ) → length taken + length held ≤ input_limit → GoesPast Finds now taken held left → Stops (length taken) (held ++ left) (Some (TooLong, input_limit))
past_stops now taken held left within (Within n (short, most, (some, front, is)) past end) =
    let read : read_of (length taken) (held ++ left) ≡ held = all_read (length taken) held left within end in
    (refl, some_behind held left some, subst (λ (t : List ℕ). IsFront t (Err entry.Truncated)) (sym read) front, subst (λ (t : List ℕ). input_limit < length taken + least_length t) (sym read) (omega (arith, past, is)))
past_stops now taken held left within (Behind none done full more) =
    let rest : held ++ left ≡ left = ap (λ (t : List ℕ). t ++ left) none in
    let none_left : input_limit - length taken ≡ 0 = omega (arith, full) in
    let read : read_of (length taken) (held ++ left) ≡ [] = ap (λ (n : ℕ). take n (held ++ left)) none_left in
    (refl, (λ e. more (sym rest ∙ e)), cut_at_once (read_of (length taken) (held ++ left)) read, subst (λ (t : List ℕ). input_limit < length taken + least_length t) (sym read) (omega (arith, full)))

ends : (first now : Converter) (side : Side) (input : List ℕ) (left old new : Option (List ℕ)) (taken held rest : List ℕ) (verdict : Option (SnoopRefusal × ℕ)) → first.side ≡ side → (t : Told (HasRead first) input now taken held rest old new) → Stops (length taken) (held ++ rest) verdict
    → (items : _) × IsReading input items verdict × (new ≡ gained old (file_of (records_of side items)))
ends first now side input left old new taken held rest verdict own t stops = (
  t.told.items,
  reading first now input taken (held ++ rest) t.said verdict t.told (t.whole ∙ append_assoc taken held rest) (omega (arith, t.within)) stops,
  t.wrote ∙ ap (gained old) (t.told.file ∙ ap (λ (s : Side). file_of (records_of s t.told.items)) own),
)

fronts : (first : Converter) (side : Side) (input : List ℕ) (old new : Option (List ℕ)) → first.side ≡ side → FrontTold (HasRead first) input old new → FrontWritten side input old new
fronts first side input old new own t = record {
  items = t.told.items;
  begins = begins first t.then_ input t.taken t.left t.said t.told t.whole t.within;
  wrote = subst (λ (x : List ℕ). GainedFront old new x) (t.told.file ∙ ap (λ (s : Side). file_of (records_of s t.told.items)) own) t.wrote;
}

pub whole_converts : (first now : Converter) (side : Side) (input : List ℕ) (left old new : Option (List ℕ)) → first.side ≡ side → Ends (HasRead first) Finds now input old new ending.Whole → Converts side input left old new (Ok tt)
whole_converts first now side input left old new own (t, done) = (
  t.told.items,
  reading first now input input [] t.said None t.told (sym (append-nil input)) (omega (arith, t.within)) refl,
  t.wrote ∙ ap (gained old) (t.told.file ∙ ap (λ (s : Side). file_of (records_of s t.told.items)) own),
)

pub cut_converts : (first now : Converter) (side : Side) (input : List ℕ) (left old new : Option (List ℕ)) (place : ℕ) → first.side ≡ side → Ends (HasRead first) Finds now input old new (ending.Truncated place) → Converts side input left old new (Err (Refused Truncated place))
cut_converts first now side input left old new place own (taken, held, t, (n, (short, most, (some, front, is)), within), at) =
    ends first now side input left old new taken held [] (Some (Truncated, place)) own t
    (at, some_behind held [] some, subst (λ (x : List ℕ). IsFront x (Err entry.Truncated)) (sym (append-nil held)) front, subst (λ (x : List ℕ). length taken + least_length x ≤ input_limit) (sym (append-nil held)) (omega (arith, within, is)))

pub long_converts : (first now : Converter) (side : Side) (input : List ℕ) (left old new : Option (List ℕ)) → first.side ≡ side → Ends (HasRead first) Finds now input old new ending.TooLong → Converts side input left old new (Err (Refused TooLong input_limit))
long_converts first now side input left old new own (taken, held, rest, t, past) = ends first now side input left old new taken held rest (Some (TooLong, input_limit)) own t (past_stops now taken held rest t.within past)

pub refusal_converts : (first now : Converter) (side : Side) (input : List ℕ) (left old new : Option (List ℕ)) (place : ℕ) → first.side ≡ side → Ends (HasRead first) Finds now input old new (ending.Refused place) → Converts side input left old new (Err (Refused now.refusal place))
refusal_converts first now side input left old new place own (taken, held, rest, t, (some, inl (is, front)), at) =
    subst (λ (r : SnoopRefusal). Converts side input left old new (Err (Refused r place))) (sym is)
    (ends first now side input left old new taken held rest (Some (BadTag, place)) own t (at, omega (arith, t.within, some), tag_more held rest front))
refusal_converts first now side input left old new place own (taken, held, rest, t, (some, inr (is, bad)), at) =
    subst (λ (r : SnoopRefusal). Converts side input left old new (Err (Refused r place))) (sym is)
    (ends first now side input left old new taken held rest (Some (BadRecord, place)) own t
    (at, subst IsBadPacket (sym (read_more (length taken) held rest t.within)) (bad_more held (take (input_limit - (length taken + length held)) rest) bad)))

unfinished : (now : Converter) (held : List ℕ) → IsShort Finds now held → (held ≡ []) ⊎ IsFront held (Err entry.Truncated)
unfinished now held (inl (none, done)) = inl none
unfinished now held (inr (n, (short, most, (some, front, is)))) = inr front

pub read_converts : (first now : Converter) (side : Side) (input : List ℕ) (left old new : Option (List ℕ)) → first.side ≡ side → Runs (HasRead first) Finds now input left old new (Err stream.ReadFault) → Converts side input left old new (Err ReadFault)
read_converts first now side input left old new own (taken, held, rest, t, left-is, short) = record {
  items = t.told.items;
  each = t.told.each;
  rest = held;
  took = (rest, t.whole ∙ ap (λ (x : List ℕ). (x ++ held) ++ rest) t.told.whole, left-is);
  within = omega (arith, ap length t.told.whole, t.within);
  unfinished = unfinished now held short;
  wrote = t.wrote ∙ ap (gained old) (t.told.file ∙ ap (λ (s : Side). file_of (records_of s t.told.items)) own);
}

pub write_converts : (first now : Converter) (side : Side) (input : List ℕ) (left old new : Option (List ℕ)) → first.side ≡ side → Runs (HasRead first) Finds now input left old new (Err stream.WriteFault) → Converts side input left old new (Err WriteFault)
write_converts first now side input left old new own runs = fronts first side input old new own runs

pub memory_converts : (first now : Converter) (side : Side) (input : List ℕ) (left old new : Option (List ℕ)) → first.side ≡ side → Runs (HasRead first) Finds now input left old new (Err stream.NoMemory) → Converts side input left old new (Err NoMemory)
memory_converts first now side input left old new own runs = fronts first side input old new own runs

-- nothing was read yet, and the file header is the file of no records
pub new_read : (side : Side) (now : Converter) (old header : List ℕ) (count : ℕ) → now.time ≡ first_time → length old ≡ 16 → Writes old header count file_header → HasRead now now [] header
new_read side now old header count time size (count-is, wrote) = record {
  items = [];
  each = tt;
  whole = refl;
  file = wrote ∙ ap (λ (t : List ℕ). file_header ++ t) (drop_all (length file_header) old (omega (arith, size, header_size)));
  side = refl;
  time = time ∙ omega arith;
}

pub told_then : {P Q : List ℕ → Type 0} (input : Option (List ℕ)) → ((all : List ℕ) → P all → Q all) → IfSome input P → IfSome input Q
told_then None h told = tt
told_then (Some all) h told = h all told
