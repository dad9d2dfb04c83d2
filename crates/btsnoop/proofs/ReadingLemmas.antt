-- Octets are read in one way, and each list of octets is read.
use Rattle.std.proofs.Common.{◌≡◌, ℕ, zero, suc, ◌+◌, ◌<◌, ◌≤◌, List, [], ◌∷◌, ◌++◌, length, take, drop, Option, None, Some, refl, sym, ap, subst, ◌∙◌, append_assoc, length-append, arith, inl, inr}
use Rattle.std.specs.List.{AllByRecursion}
use Rattle.std.proofs.lemmas.List.{append-nil, length-take-le, length-drop, take-append-drop, drop_at}
use Rattle.std.proofs.lemmas.Bool.{cases_lt}
use Rattle.bt_base.specs.Octets.{IsOctets}
use Rattle.h4_framing.proofs.OctetLists.{IsOctets-take, IsOctets-drop}
use Rattle.btsnoop.specs.declared.refusal.SnoopRefusal.TheVariants.{Truncated}
use Rattle.btsnoop.specs.declared.fields.Part.{Part}
use Rattle.btsnoop.specs.declared.fields.Part.TheVariants.{Header, Body}
use Rattle.btsnoop.specs.Files.{Record, IsRecord, IsFile, file_header, record_octets, records_octets, file_of}
use Rattle.btsnoop.specs.Fields.{fault_in, told_length, record_at, IsUnfinished}
use Rattle.btsnoop.specs.Reading.{lead, IsCut, Stops, AtEnd, Within, Wrong, Reads}
use Rattle.btsnoop.proofs.FieldLemmas.{Fault, told_header, told_least, nothing_unfinished}
use Rattle.btsnoop.proofs.Items.{header_whole, header_front, header_size, record_whole, record_size, record_front, one_record}
use Rattle.btsnoop.proofs.TakingLemmas.{leading_front, record_told}

abbrev Ending : Type 0
Ending = Option Fault

none_some : (f : Fault) → None ≡ Some f → ⊥
none_some f e = absurd cc

-- the octets begin with no record
abbrev pub NoRecord : List ℕ → Type 0
NoRecord rest = (item : Record) (more : List ℕ) → IsRecord item → rest ≡ record_octets item ++ more → ⊥

record_some : (item : Record) → 0 < length (record_octets item)
record_some item = omega (arith, record_size item)

pub nothing_none : (rest : List ℕ) → rest ≡ [] → NoRecord rest
nothing_none rest none item more ok e = omega (arith, ap length (sym none ∙ e), length-append (record_octets item) more, record_some item)

pub unfinished_none : (rest : List ℕ) → IsUnfinished Body rest → NoRecord rest
unfinished_none rest u item more ok e = omega (arith, ap length e, length-append (record_octets item) more, (record_front rest more item ok e).told, u.short)

pub wrong_none : (rest : List ℕ) (f : Fault) → fault_in Body rest ≡ Some f → NoRecord rest
wrong_none rest f wrong item more ok e = none_some f (sym (record_front rest more item ok e).sound ∙ wrong)

pub stops_none : (from : ℕ) (rest : List ℕ) (e : Ending) → Stops Body from rest e → NoRecord rest
stops_none from rest e (AtEnd body none is) = nothing_none rest none
stops_none from rest e (Within cut is) = unfinished_none rest cut.1
stops_none from rest e (Wrong r place wrong is) = wrong_none rest (r, place) wrong

-- no octets in front of which the file header stands stop before it
pub early_none : (from : ℕ) (rest more : List ℕ) (e : Ending) → Stops Header from rest e → rest ≡ file_header ++ more → ⊥
early_none from rest more e (AtEnd body none is) whole = absurd cc
early_none from rest more e (Within cut is) whole = omega (arith, cut.short, told_header rest, ap length whole, length-append file_header more, header_size)
early_none from rest more e (Wrong r place wrong is) whole = none_some (r, place) (sym (header_front rest more whole) ∙ wrong)

-- ---- one reading

-- records that come first in the same octets are the first of the others
pub front_items : (rs ss : List Record) (x y : List ℕ) → AllByRecursion IsRecord rs → AllByRecursion IsRecord ss → NoRecord y → records_octets rs ++ x ≡ records_octets ss ++ y
    → (others : List Record) × (ss ≡ rs ++ others) × (x ≡ records_octets others ++ y)
front_items [] ss x y all-r all-s none e = (ss, refl, e)
front_items (r ∷ rs) [] x y all-r all-s none e = absurd (none r (records_octets rs ++ x) all-r.0 (sym e ∙ append_assoc (record_octets r) (records_octets rs) x))
front_items (r ∷ rs) (s ∷ ss) x y all-r all-s none e =
    let split : record_octets r ++ (records_octets rs ++ x) ≡ record_octets s ++ (records_octets ss ++ y) =
    sym (append_assoc (record_octets r) (records_octets rs) x) ∙ e ∙ append_assoc (record_octets s) (records_octets ss) y in
    let one = one_record r s (records_octets rs ++ x) (records_octets ss ++ y) all-r.0 all-s.0 split in
    let rest = front_items rs ss x y all-r.1 all-s.1 none one.1 in
    (rest.0, ap (λ (t : Record). t ∷ ss) (sym one.0) ∙ ap (λ (ts : List Record). r ∷ ts) rest.1, rest.2)

no_others : (others : List Record) (x y : List ℕ) → AllByRecursion IsRecord others → NoRecord x → x ≡ records_octets others ++ y → others ≡ []
no_others [] x y all none e = refl
no_others (s ∷ others) x y all none e = absurd (none s (records_octets others ++ y) all.0 (e ∙ append_assoc (record_octets s) (records_octets others) y))

all_behind : (rs others ss : List Record) → ss ≡ rs ++ others → AllByRecursion IsRecord ss → AllByRecursion IsRecord others
all_behind [] others ss e all = subst (AllByRecursion IsRecord) e all
all_behind (r ∷ rs) others [] e all = absurd cc
all_behind (r ∷ rs) others (s ∷ ss) e all = let tail : ss ≡ rs ++ others = cc in all_behind rs others ss tail all.1

same_items : (rs ss : List Record) (x y : List ℕ) → AllByRecursion IsRecord rs → AllByRecursion IsRecord ss → NoRecord x → NoRecord y → records_octets rs ++ x ≡ records_octets ss ++ y → (rs ≡ ss) × (x ≡ y)
same_items rs ss x y all-r all-s none-x none-y e =
    let first = front_items rs ss x y all-r all-s none-y e in
    let none = no_others first.0 x y (all_behind rs first.0 ss first.1 all-s) none-x first.2 in
    (sym (first.1 ∙ ap (λ (ts : List Record). rs ++ ts) none ∙ append-nil rs), first.2 ∙ ap (λ (ts : List Record). records_octets ts ++ y) none)

cut_sound : (part : Part) (rest : List ℕ) → IsCut part rest → fault_in part rest ≡ None
cut_sound Header rest u = u.sound
cut_sound Body rest u = u.1.sound

end_cut : (part : Part) (rest : List ℕ) → part ≡ Body → rest ≡ [] → IsCut part rest → ⊥
end_cut Header rest body none cut = absurd cc
end_cut Body rest body none cut = cut.0 none

end_wrong : (part : Part) (rest : List ℕ) (f : Fault) → rest ≡ [] → fault_in part rest ≡ Some f → ⊥
end_wrong part rest f none wrong = none_some f (sym (nothing_unfinished part).sound ∙ ap (fault_in part) (sym none) ∙ wrong)

same_fault : (f g : Fault) → Some f ≡ Some g → f ≡ g
same_fault f g e = cc

pub stops_same : (part : Part) (from : ℕ) (rest : List ℕ) (e f : Ending) → Stops part from rest e → Stops part from rest f → e ≡ f
stops_same part from rest e f (AtEnd b n is) (AtEnd b' n' is') = is ∙ sym is'
stops_same part from rest e f (AtEnd b n is) (Within cut is') = absurd (end_cut part rest b n cut)
stops_same part from rest e f (AtEnd b n is) (Wrong r place wrong is') = absurd (end_wrong part rest (r, place) n wrong)
stops_same part from rest e f (Within cut is) (AtEnd b n is') = absurd (end_cut part rest b n cut)
stops_same part from rest e f (Within cut is) (Within cut' is') = is ∙ sym is'
stops_same part from rest e f (Within cut is) (Wrong r place wrong is') = absurd (none_some (r, place) (sym (cut_sound part rest cut) ∙ wrong))
stops_same part from rest e f (Wrong r place wrong is) (AtEnd b n is') = absurd (end_wrong part rest (r, place) n wrong)
stops_same part from rest e f (Wrong r place wrong is) (Within cut is') = absurd (none_some (r, place) (sym (cut_sound part rest cut) ∙ wrong))
stops_same part from rest e f (Wrong r place wrong is) (Wrong s there wrong' is') = is ∙ ap (λ (g : Fault). Some (g.0, from + g.1)) (same_fault (r, place) (s, there) (sym wrong ∙ wrong')) ∙ sym is'

pub behind_header : (xs : List ℕ) (rs : List Record) (rest : List ℕ) → xs ≡ file_of rs ++ rest → xs ≡ file_header ++ (records_octets rs ++ rest)
behind_header xs rs rest e = e ∙ append_assoc file_header (records_octets rs) rest

pub after_header : (x y : List ℕ) → file_header ++ x ≡ file_header ++ y → x ≡ y
after_header x y e = sym (drop_at file_header x 16 header_size) ∙ ap (drop 16) e ∙ drop_at file_header y 16 header_size

pub read_once : (p q : Part) (xs : List ℕ) (rs ss : List Record) (x y : List ℕ) (e f : Ending) → AllByRecursion IsRecord rs → AllByRecursion IsRecord ss → (p ≡ Header → rs ≡ []) → (q ≡ Header → ss ≡ [])
    → xs ≡ lead p rs ++ x → xs ≡ lead q ss ++ y → Stops p (length (lead p rs)) x e → Stops q (length (lead q ss)) y f → (rs ≡ ss) × (e ≡ f)
read_once Header Header xs rs ss x y e f all-r all-s early-r early-s is are stops halts =
    (early-r refl ∙ sym (early-s refl), stops_same Header 0 x e f stops (subst (λ (t : List ℕ). Stops Header 0 t f) (sym are ∙ is) halts))
read_once Header Body xs rs ss x y e f all-r all-s early-r early-s is are stops halts = absurd (early_none 0 x (records_octets ss ++ y) e stops (sym is ∙ behind_header xs ss y are))
read_once Body Header xs rs ss x y e f all-r all-s early-r early-s is are stops halts = absurd (early_none 0 y (records_octets rs ++ x) f halts (sym are ∙ behind_header xs rs x is))
read_once Body Body xs rs ss x y e f all-r all-s early-r early-s is are stops halts =
    let split = after_header (records_octets rs ++ x) (records_octets ss ++ y) (sym (behind_header xs rs x is) ∙ behind_header xs ss y are) in
    let same = same_items rs ss x y all-r all-s (stops_none (length (file_of rs)) x e stops) (stops_none (length (file_of ss)) y f halts) split in
    let moved : Stops Body (length (file_of rs)) x f =
    subst (λ (t : List ℕ). Stops Body (length (file_of rs)) t f) (sym same.1) (subst (λ (ts : List Record). Stops Body (length (file_of ts)) y f) (sym same.0) halts) in
    (same.0, stops_same Body (length (file_of rs)) x e f stops moved)

pub one_reading : (xs : List ℕ) (rs ss : List Record) (e f : Ending) → Reads xs rs e → Reads xs ss f → (rs ≡ ss) × (e ≡ f)
one_reading xs rs ss e f h k = read_once h.part k.part xs rs ss h.rest k.rest e f h.each k.each h.early k.early h.whole k.whole h.stops k.stops

-- ---- each list of octets is read

-- what stands in front of octets
pub data Judged (part : Part) (xs : List ℕ) : Type 0 where
  wrong : (f : Fault) → fault_in part xs ≡ Some f → Judged part xs
  short : IsUnfinished part xs → Judged part xs
  full : fault_in part xs ≡ None → told_length part xs ≤ length xs → Judged part xs

judged_by : (part : Part) (xs : List ℕ) (o : Option Fault) → IsOctets xs → fault_in part xs ≡ o → Judged part xs
judged_by part xs (Some f) fits e = wrong f e
judged_by part xs None fits e = elim (cases_lt (length xs) (told_length part xs)) [ inl lt ↦ short (record { are_octets = fits; sound = e; short = lt }) | inr le ↦ full e le ]

judged : (part : Part) (xs : List ℕ) → IsOctets xs → Judged part xs
judged part xs fits = judged_by part xs (fault_in part xs) fits refl

-- what is read behind the file header
record Behind (from : ℕ) (xs : List ℕ) : Type 0 where
  pub items : List Record
  pub each : AllByRecursion IsRecord items
  pub rest : List ℕ
  pub whole : xs ≡ records_octets items ++ rest
  pub ending : Ending
  pub stops : Stops Body (from + length (records_octets items)) rest ending

stop_here : (from : ℕ) (xs : List ℕ) (e : Ending) → Stops Body from xs e → Behind from xs
stop_here from xs e stops = record { items = []; each = tt; rest = xs; whole = refl; ending = e; stops = subst (λ (n : ℕ). Stops Body n xs e) (omega arith) stops }

cut_here : (from : ℕ) (xs : List ℕ) → IsUnfinished Body xs → Behind from xs
cut_here from [] u = stop_here from [] None (AtEnd refl refl refl)
cut_here from (x ∷ xs) u = stop_here from (x ∷ xs) (Some (Truncated, from)) (Within ((λ none. absurd cc), u) refl)

behind : (fuel from : ℕ) (xs : List ℕ) → IsOctets xs → length xs ≤ fuel → Behind from xs
behind zero from [] fits le = stop_here from [] None (AtEnd refl refl refl)
behind zero from (x ∷ xs) fits le = absurd (omega arith)
behind (suc fuel) from xs fits le = elim (judged Body xs fits) [
  | wrong f e ↦ stop_here from xs (Some (f.0, from + f.1)) (Wrong f.0 f.1 e refl)
  | short u ↦ cut_here from xs u
  | full sound long ↦
      let n : ℕ = told_length Body xs in
      let least = told_least Body xs in
      let front = leading_front Body xs n refl long sound in
      let size : length (take n xs) ≡ n = length-take-le n xs long in
      let told = record_told Body (take n xs) n refl (front.1 ∙ size) (omega (arith, size)) in
      let made = record_whole (take n xs) (IsOctets-take n xs fits) (size ∙ sym told) front.0 in
      let item : Record = record_at (take n xs) in
      let rest = behind fuel (from + n) (drop n xs) (IsOctets-drop n xs fits) (omega (arith, length-drop n xs)) in
      let item-size : length (record_octets item) ≡ n = ap length made.1 ∙ size in
      record {
        items = item ∷ rest.items;
        each = (made.0, rest.each);
        rest = rest.rest;
        whole = sym (take-append-drop n xs) ∙ ap (λ (t : List ℕ). t ++ drop n xs) (sym made.1) ∙ ap (λ (t : List ℕ). record_octets item ++ t) rest.whole ∙ sym (append_assoc (record_octets item) (records_octets rest.items) rest.rest);
        ending = rest.ending;
        stops = subst (λ (k : ℕ). Stops Body k rest.rest rest.ending) (omega (arith, item-size, length-append (record_octets item) (records_octets rest.items))) rest.stops;
      }
]

from_none : (f : Fault) → ◌≡◌ {A = Option Fault} (Some (f.0, f.1)) (Some (f.0, 0 + f.1))
from_none f = let e : f.1 ≡ 0 + f.1 = omega arith in ap (λ (n : ℕ). Some (f.0, n)) e

pub each_read : (xs : List ℕ) → IsOctets xs → (items : List Record) × (ending : Option Fault) × Reads xs items ending
each_read xs fits = elim (judged Header xs fits) [
  | wrong f e ↦ ([], Some (f.0, f.1), record { part = Header; each = tt; early = λ h. refl; rest = xs; whole = refl; stops = Wrong f.0 f.1 e (from_none f) })
  | short u ↦ ([], Some (Truncated, 0), record { part = Header; each = tt; early = λ h. refl; rest = xs; whole = refl; stops = Within u refl })
  | full sound long ↦
      let le : 16 ≤ length xs = omega (arith, long, told_header xs) in
      let rest = behind (length xs) 16 (drop 16 xs) (IsOctets-drop 16 xs fits) (omega (arith, length-drop 16 xs)) in
      let size : length (file_of rest.items) ≡ 16 + length (records_octets rest.items) = omega (arith, length-append file_header (records_octets rest.items), header_size) in (
        rest.items,
        rest.ending,
        record {
          part = Body;
          each = rest.each;
          early = λ h. absurd cc;
          rest = rest.rest;
          whole = sym (take-append-drop 16 xs) ∙ ap (λ (t : List ℕ). t ++ drop 16 xs) (sym (header_whole xs fits le sound)) ∙ ap (λ (t : List ℕ). file_header ++ t) rest.whole ∙ sym (append_assoc file_header (records_octets rest.items) rest.rest);
          stops = subst (λ (k : ℕ). Stops Body k rest.rest rest.ending) (sym size) rest.stops;
        },
      )
]

-- ---- files

pub file_read : (xs : List ℕ) (items : List Record) → IsFile xs items → Reads xs items None
file_read xs items h = record { part = Body; each = h.each; early = λ e. absurd cc; rest = []; whole = h.whole ∙ sym (append-nil (file_of items)); stops = AtEnd refl refl refl }

read_whole : (part : Part) (xs : List ℕ) (items : List Record) (rest : List ℕ) (from : ℕ) (e : Ending) → e ≡ None → AllByRecursion IsRecord items → xs ≡ lead part items ++ rest → Stops part from rest e → IsFile xs items
read_whole Header xs items rest from e none each whole (AtEnd body nil is) = absurd cc
read_whole Body xs items rest from e none each whole (AtEnd body nil is) = record { each = each; whole = whole ∙ ap (λ (t : List ℕ). file_of items ++ t) nil ∙ append-nil (file_of items) }
read_whole part xs items rest from e none each whole (Within cut is) = absurd (none_some (Truncated, from) (sym none ∙ is))
read_whole part xs items rest from e none each whole (Wrong r place bad is) = absurd (none_some (r, from + place) (sym none ∙ is))

pub read_file : (xs : List ℕ) (items : List Record) → Reads xs items None → IsFile xs items
read_file xs items h = read_whole h.part xs items h.rest (length (lead h.part items)) None refl h.each h.whole h.stops
