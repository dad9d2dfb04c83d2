-- A btsnoop file has one view.
use Rattle.std.proofs.Common.{◌≡◌, ℕ, ◌+◌, ◌-◌, ◌<◌, ◌≤◌, List, [], ◌∷◌, ◌++◌, length, take, map, Option, Some, None, refl, sym, ap, subst, ◌∙◌, arith, length-append}
use Rattle.std.specs.Prelude.{MatchOption}
use Rattle.std.specs.List.{AllByRecursion, flat_map}
use Rattle.std.proofs.lemmas.List.{take_all, append_cancel_left}
use Rattle.std.proofs.Math.Seq.{take-append-add, take-nil}
use Rattle.h4_framing.specs.Packets.{Packet, spelling, IsPacket}
use Rattle.h4_framing.proofs.ReadingLemmas.{same_split, nothing_none as no_packet}
use Rattle.btsnoop.specs.declared.fields.Part.{Part}
use Rattle.btsnoop.specs.declared.fields.Part.TheVariants.{Header, Body}
use Rattle.btsnoop.specs.Files.{Record, file_header, records_octets}
use Rattle.btsnoop.specs.Fields.{fault_in, told_length}
use Rattle.btsnoop.specs.Reading.{IsCut}
use Rattle.btsnoop.proofs.FieldLemmas.{Fault, told_header, nothing_unfinished}
use Rattle.btsnoop.proofs.Items.{header_front, header_size, one_record}
use Rattle.btsnoop.proofs.ReadingLemmas.{NoRecord, nothing_none, unfinished_none, wrong_none, behind_header, after_header}
use Rattle.item_stream.specs.Running.{input_limit}
use Rattle.btsnoop.specs.Converting.{read_of}
use Rattle.h4_view.specs.declared.refusal.ViewRefusal.{ViewRefusal}
use Rattle.h4_view.specs.Snoop.{Kept, IsNoPacket, IsKept, kept_octets, view_refusal, Stops, AtEnd, Wrong, Cut, Long, led_by, snoop_file}
use Rattle.h4_view.specs.Laws.{OneViewOf}
use Rattle.btsnoop.proofs.Limits.{begins_read}
use Rattle.btsnoop.proofs.OneItem.{same_items}
use Rattle.h4_view.proofs.SnoopLines.{item_of, kept_records}
use Rattle.h4_view.proofs.SnoopEnds.{is_unfinished}

-- ---- one record

one_packet : (p q : Packet) (octets : List ℕ) → IsPacket 65535 p → spelling p ≡ octets → IsPacket 65535 q → spelling q ≡ octets → p ≡ q
one_packet p q octets is e is' e' =
    let same = same_split 65535 (p ∷ []) (q ∷ []) [] [] (is, tt) (is', tt) (no_packet 65535) (no_packet 65535) (ap (λ (t : List ℕ). (t ++ []) ++ []) (e ∙ sym e')) in
    let lists : p ∷ [] ≡ q ∷ [] = same.0 in cc

same_packet : (octets : List ℕ) (p q : Option Packet) → MatchOption p (IsNoPacket octets) (λ packet. IsPacket 65535 packet × (spelling packet ≡ octets)) → MatchOption q (IsNoPacket octets) (λ packet. IsPacket 65535 packet × (spelling packet ≡ octets)) → p ≡ q
same_packet octets None None is is' = refl
same_packet octets None (Some q) none is = absurd (none q is.0 is.1)
same_packet octets (Some p) None is none = absurd (none p is.0 is.1)
same_packet octets (Some p) (Some q) is is' = ap Some (one_packet p q octets is.0 is.1 is'.0 is'.1)

abbrev kept_of : Record → Option Packet → Kept
kept_of item packet = record { item = item; packet = packet }

one_kept : (a b : Kept) (x y : List ℕ) → IsKept a → IsKept b → kept_octets a ++ x ≡ kept_octets b ++ y → (a ≡ b) × (x ≡ y)
one_kept a b x y is is' e =
    let same = one_record a.item b.item x y is.0 is'.0 e in
    let packets : a.packet ≡ b.packet = same_packet b.item.octets a.packet b.packet (subst (λ (r : Record). MatchOption a.packet (IsNoPacket r.octets) (λ packet. IsPacket 65535 packet × (spelling packet ≡ r.octets))) same.0 is.1) is'.1 in
    (ap (λ (r : Record). kept_of r a.packet) same.0 ∙ ap (λ (p : Option Packet). kept_of b.item p) packets, same.1)

-- ---- where and why the view stops

none_some : (f : Fault) → None ≡ Some f → ⊥
none_some f e = absurd cc

cut_read : (part : Part) (from : ℕ) (rest : List ℕ) → IsCut part rest → from + told_length part rest ≤ input_limit → read_of from rest ≡ rest
cut_read part from rest cut within = take_all (input_limit - from) rest (omega (arith, (is_unfinished part rest cut).short, within))

nothing_read : (from : ℕ) (rest : List ℕ) → rest ≡ [] → read_of from rest ≡ []
nothing_read from rest none = ap (read_of from) none ∙ take-nil (input_limit - from)

none_cut : (part : Part) (rest : List ℕ) → part ≡ Body → rest ≡ [] → IsCut part rest → ⊥
none_cut Header rest body none cut = absurd cc
none_cut Body rest body none (some, cut) = some none

no_record : (from : ℕ) (rest : List ℕ) (v : Option (ViewRefusal × ℕ)) → Stops Body from rest v → NoRecord (read_of from rest)
no_record from rest v (AtEnd body none is) = nothing_none (read_of from rest) (nothing_read from rest none)
no_record from rest v (Wrong r place wrong is) = wrong_none (read_of from rest) (r, place) wrong
no_record from rest v (Cut cut within is) = subst NoRecord (sym (cut_read Body from rest cut within)) (unfinished_none rest cut.1)
no_record from rest v (Long some unfinished past is) = unfinished_none (read_of from rest) unfinished

wrong_sound : (part : Part) (octets : List ℕ) (f : Fault) → fault_in part octets ≡ Some f → fault_in part octets ≡ None → ⊥
wrong_sound part octets f wrong sound = none_some f (sym sound ∙ wrong)

wrong_ended : (part : Part) (from : ℕ) (rest : List ℕ) (f : Fault) → fault_in part (read_of from rest) ≡ Some f → rest ≡ [] → ⊥
wrong_ended part from rest f wrong none = wrong_sound part [] f (ap (fault_in part) (sym (nothing_read from rest none)) ∙ wrong) (nothing_unfinished part).sound

wrong_cut : (part : Part) (from : ℕ) (rest : List ℕ) (f : Fault) → fault_in part (read_of from rest) ≡ Some f → IsCut part rest → from + told_length part rest ≤ input_limit → ⊥
wrong_cut part from rest f wrong cut within = wrong_sound part rest f (ap (fault_in part) (sym (cut_read part from rest cut within)) ∙ wrong) (is_unfinished part rest cut).sound

cut_long : (part : Part) (from : ℕ) (rest : List ℕ) → IsCut part rest → from + told_length part rest ≤ input_limit → input_limit < from + told_length part (read_of from rest) → ⊥
cut_long part from rest cut within past = omega (arith, within, subst (λ (t : List ℕ). input_limit < from + told_length part t) (cut_read part from rest cut within) past)

one_fault : (f g : Fault) → Some f ≡ Some g → f ≡ g
one_fault f g e = cc

stops_same : (part : Part) (from : ℕ) (rest : List ℕ) (v w : Option (ViewRefusal × ℕ)) → Stops part from rest v → Stops part from rest w → v ≡ w
stops_same part from rest v w (AtEnd body none is) (AtEnd body' none' is') = is ∙ sym is'
stops_same part from rest v w (AtEnd body none is) (Wrong r place wrong is') = absurd (wrong_ended part from rest (r, place) wrong none)
stops_same part from rest v w (AtEnd body none is) (Cut cut within is') = absurd (none_cut part rest body none cut)
stops_same part from rest v w (AtEnd body none is) (Long some unfinished past is') = absurd (some none)
stops_same part from rest v w (Wrong r place wrong is) (AtEnd body none is') = absurd (wrong_ended part from rest (r, place) wrong none)
stops_same part from rest v w (Wrong r place wrong is) (Wrong s there wrong' is') =
    is ∙ ap (λ (f : Fault). Some (view_refusal f.0, from + f.1)) (one_fault (r, place) (s, there) (sym wrong ∙ wrong')) ∙ sym is'
stops_same part from rest v w (Wrong r place wrong is) (Cut cut within is') = absurd (wrong_cut part from rest (r, place) wrong cut within)
stops_same part from rest v w (Wrong r place wrong is) (Long some unfinished past is') = absurd (wrong_sound part (read_of from rest) (r, place) wrong unfinished.sound)
stops_same part from rest v w (Cut cut within is) (AtEnd body none is') = absurd (none_cut part rest body none cut)
stops_same part from rest v w (Cut cut within is) (Wrong r place wrong is') = absurd (wrong_cut part from rest (r, place) wrong cut within)
stops_same part from rest v w (Cut cut within is) (Cut cut' within' is') = is ∙ sym is'
stops_same part from rest v w (Cut cut within is) (Long some unfinished past is') = absurd (cut_long part from rest cut within past)
stops_same part from rest v w (Long some unfinished past is) (AtEnd body none is') = absurd (some none)
stops_same part from rest v w (Long some unfinished past is) (Wrong r place wrong is') = absurd (wrong_sound part (read_of from rest) (r, place) wrong unfinished.sound)
stops_same part from rest v w (Long some unfinished past is) (Cut cut within is') = absurd (cut_long part from rest cut within past)
stops_same part from rest v w (Long some unfinished past is) (Long some' unfinished' past' is') = is ∙ sym is'

-- what is read of octets that the file header leads
header_read : (rest more : List ℕ) → rest ≡ file_header ++ more → read_of 0 rest ≡ file_header ++ take (input_limit - 16) more
header_read rest more whole =
    let limit : input_limit - 0 ≡ length file_header + (input_limit - 16) = omega (arith, header_size) in
    ap (read_of 0) whole ∙ ap (λ (n : ℕ). take n (file_header ++ more)) limit ∙ take-append-add file_header more (input_limit - 16)

-- no octets that the file header leads stop before it
none_early : (rest more : List ℕ) (v : Option (ViewRefusal × ℕ)) → Stops Header 0 rest v → rest ≡ file_header ++ more → ⊥
none_early rest more v (AtEnd body none is) whole = absurd cc
none_early rest more v (Wrong r place wrong is) whole = wrong_sound Header (read_of 0 rest) (r, place) wrong (header_front (read_of 0 rest) (take (input_limit - 16) more) (header_read rest more whole))
none_early rest more v (Cut cut within is) whole = omega (arith, cut.short, told_header rest, ap length whole, length-append file_header more, header_size)
none_early rest more v (Long some unfinished past is) whole =
    omega (arith, unfinished.short, told_header (read_of 0 rest), ap length (header_read rest more whole), length-append file_header (take (input_limit - 16) more), header_size)

-- ---- one view

one_by : (p q : Part) (input : List ℕ) (ks ls : List Kept) (x y : List ℕ) (v w : Option (ViewRefusal × ℕ)) → AllByRecursion IsKept ks → AllByRecursion IsKept ls → (p ≡ Header → ks ≡ []) → (q ≡ Header → ls ≡ [])
    → length (led_by p ks) ≤ input_limit → length (led_by q ls) ≤ input_limit → input ≡ led_by p ks ++ x → input ≡ led_by q ls ++ y → Stops p (length (led_by p ks)) x v → Stops q (length (led_by q ls)) y w → (ks ≡ ls) × (v ≡ w)
one_by Header Header input ks ls x y v w each each' early early' within within' is are stops halts =
    (early refl ∙ sym (early' refl), stops_same Header 0 x v w stops (subst (λ (t : List ℕ). Stops Header 0 t w) (sym are ∙ is) halts))
one_by Header Body input ks ls x y v w each each' early early' within within' is are stops halts = absurd (none_early x (records_octets (map item_of ls) ++ y) v stops (sym is ∙ behind_header input (map item_of ls) y are))
one_by Body Header input ks ls x y v w each each' early early' within within' is are stops halts = absurd (none_early y (records_octets (map item_of ks) ++ x) w halts (sym are ∙ behind_header input (map item_of ks) x is))
one_by Body Body input ks ls x y v w each each' early early' within within' is are stops halts =
    let from : ℕ = length (led_by Body ks) in
    let there : ℕ = length (led_by Body ls) in
    let read = behind_header (take input_limit input) (map item_of ks) (read_of from x) (begins_read input (led_by Body ks) x is within) in
    let read' = behind_header (take input_limit input) (map item_of ls) (read_of there y) (begins_read input (led_by Body ls) y are within') in
    let split = after_header (records_octets (map item_of ks) ++ read_of from x) (records_octets (map item_of ls) ++ read_of there y) (sym read ∙ read') in
    let split' : flat_map kept_octets ks ++ read_of from x ≡ flat_map kept_octets ls ++ read_of there y = ap (λ (t : List ℕ). t ++ read_of from x) (sym (kept_records ks)) ∙ split ∙ ap (λ (t : List ℕ). t ++ read_of there y) (kept_records ls) in
    let same = same_items kept_octets IsKept one_kept ks ls (read_of from x) (read_of there y) each each' (λ kept more good whole. no_record from x v stops kept.item more good.0 whole) (λ kept more good whole. no_record there y w halts kept.item more good.0 whole) split' in
    let rest : x ≡ y = append_cancel_left (led_by Body ks) x y (sym is ∙ are ∙ ap (λ (ts : List Kept). led_by Body ts ++ y) (sym same.0)) in
    let moved : Stops Body from x w = subst (λ (t : List ℕ). Stops Body from t w) (sym rest) (subst (λ (ts : List Kept). Stops Body (length (led_by Body ts)) y w) (sym same.0) halts) in
    (same.0, stops_same Body from x v w stops moved)

pub one_snoop_view : OneViewOf snoop_file
one_snoop_view input ks ls v w h k =
    one_by h.begins.part k.begins.part input ks ls h.begins.rest k.begins.rest v w h.begins.each k.begins.each h.begins.early k.begins.early h.begins.within k.begins.within h.begins.whole k.begins.whole h.stops k.stops
