-- Entries one after the other, read again.
use Rattle.std.proofs.Common.{◌≡◌, ℕ, ◌%◌, Bool, true, false, cond, List, [], ◌∷◌, ◌++◌, length, drop, eqb, ltb, refl, sym, ap, ◌∙◌, append_assoc, arith, length-append, length-drop, take-append-drop}
use Rattle.std.proofs.lemmas.List.{append-nil}
use Rattle.wire_packets.specs.Packets.{Packet, spelling}
use Rattle.wire_packets.proofs.Spelled.{one_packet}
use Rattle.wire_packets.proofs.Fronts.{slip_front}
use Rattle.wire_model.specs.declared.link.Way.{Way}
use Rattle.wire_model.specs.declared.link.Way.TheVariants.{Forth, Back}
use Rattle.wire_model.specs.Line.{line}
use Rattle.wire_model.specs.Trace.{Crossing, tag_of, entry, entries, IsCut}
use Rattle.wire_model.specs.Reading.{NumbersFit, TracesAreReadInOneWay}

-- what a tag says
abbrev way_in : ℕ → Way
way_in tag = cond (ltb tag 0x0A) Forth Back

abbrev lost_in : ℕ → Bool
lost_in tag = eqb (tag % 2) 1

way_again : (way : Way) (lost : Bool) → way_in (tag_of way lost) ≡ way
way_again Forth false = refl
way_again Forth true = refl
way_again Back false = refl
way_again Back true = refl

lost_again : (way : Way) (lost : Bool) → lost_in (tag_of way lost) ≡ lost
lost_again Forth false = refl
lost_again Forth true = refl
lost_again Back false = refl
lost_again Back true = refl

line_front : (p q : Packet) (r s : List ℕ) → line p ++ r ≡ line q ++ s → (spelling p ≡ spelling q) × (r ≡ s)
unfolding line
line_front p q r s e = slip_front (spelling p) (spelling q) r s e

-- what an entry in front says, and what stands behind it
record Front (c d : Crossing) (r s : List ℕ) : Type 0 where
  way : c.way ≡ d.way
  lost : c.lost ≡ d.lost
  spells : spelling c.packet ≡ spelling d.packet
  behind : r ≡ s

first_same : {x y : ℕ} {xs ys : List ℕ} → x ∷ xs ≡ y ∷ ys → x ≡ y
first_same e = cc

entry_front : (c d : Crossing) (r s : List ℕ) → entry c ++ r ≡ entry d ++ s → Front c d r s
entry_front c d r s e =
    let tag : tag_of c.way c.lost ≡ tag_of d.way d.lost = first_same e in
    let both = line_front c.packet d.packet r s (ap (drop 3) e) in
    record {
      way = sym (way_again c.way c.lost) ∙ ap way_in tag ∙ way_again d.way d.lost;
      lost = sym (lost_again c.way c.lost) ∙ ap lost_in tag ∙ lost_again d.way d.lost;
      spells = both.0;
      behind = both.1;
    }

-- a whole entry is no cut
no_cut : (d : Crossing) (r cut : List ℕ) → IsCut cut → cut ≡ entry d ++ r → ⊥
no_cut d r cut (c, n, lt, is) e =
    let more = drop n (entry c) in
    let whole : entry d ++ (r ++ more) ≡ entry c ++ [] =
    sym (append_assoc (entry d) r more) ∙ ap (λ (os : List ℕ). os ++ more) (sym e ∙ is) ∙ take-append-drop n (entry c) ∙ sym (append-nil (entry c)) in
    let none = (entry_front d c (r ++ more) [] whole).behind in
    omega (arith, lt, ap length none, length-append r more, length-drop n (entry c))

abbrev crossing_at : Way → Bool → Packet → Crossing
crossing_at way lost packet = record { way = way; lost = lost; packet = packet }

same_crossing : (c d : Crossing) (r s : List ℕ) → NumbersFit c → NumbersFit d → Front c d r s → c ≡ d
same_crossing c d r s cf df f =
    ap (λ (w : Way). crossing_at w c.lost c.packet) f.way ∙ ap (λ (l : Bool). crossing_at d.way l c.packet) f.lost
    ∙ ap (λ (p : Packet). crossing_at d.way d.lost p) (one_packet c.packet d.packet cf.0 cf.1 df.0 df.1 f.spells)

pub traces_read : TracesAreReadInOneWay
traces_read [] [] cut other fit fit' is is' e = (refl, e)
traces_read [] (d ∷ ds) cut other fit fit' is is' e = absurd (no_cut d (entries ds ++ other) cut is (e ∙ append_assoc (entry d) (entries ds) other))
traces_read (c ∷ cs) [] cut other fit fit' is is' e = absurd (no_cut c (entries cs ++ cut) other is' (sym e ∙ append_assoc (entry c) (entries cs) cut))
traces_read (c ∷ cs) (d ∷ ds) cut other fit fit' is is' e =
    let f = entry_front c d (entries cs ++ cut) (entries ds ++ other) (sym (append_assoc (entry c) (entries cs) cut) ∙ e ∙ append_assoc (entry d) (entries ds) other) in
    let rest = traces_read cs ds cut other fit.1 fit'.1 is is' f.behind in
    let same = same_crossing c d (entries cs ++ cut) (entries ds ++ other) fit.0 fit'.0 f in
    (ap (λ (x : Crossing). x ∷ cs) same ∙ ap (λ (xs : List Crossing). d ∷ xs) rest.0, rest.1)
