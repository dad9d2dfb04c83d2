-- A reader's value accounts for all that it was fed, step by step.
use Rattle.std.proofs.Common.{◌≡◌, ℕ, ◌+◌, ◌≤◌, List, [], ◌∷◌, ◌++◌, length, take, Option, None, Some, Result, Ok, Err, refl, sym, ap, subst, ◌∙◌, append_assoc, length-append, arith}
use Rattle.std.specs.List.{AllByRecursion}
use Rattle.std.proofs.lemmas.List.{append-nil, length-take-le}
use Rattle.h4_framing.specs.Framing.{counted}
use Rattle.btsnoop.specs.declared.refusal.SnoopRefusal.{SnoopRefusal}
use Rattle.btsnoop.specs.declared.refusal.SnoopRefusal.TheVariants.{Truncated}
use Rattle.btsnoop.specs.declared.fields.Part.{Part}
use Rattle.btsnoop.specs.declared.fields.Part.TheVariants.{Header, Body}
use Rattle.btsnoop.specs.declared.reader.SnoopTaken.{SnoopTaken}
use Rattle.btsnoop.specs.declared.reader.SnoopTaken.TheVariants as taken
use Rattle.btsnoop.specs.Files.{Record, plain_record, IsRecord, IsFile, file_header, record_octets, records_octets, file_of}
use Rattle.btsnoop.specs.Fields.{fault_in, IsUnfinished}
use Rattle.btsnoop.specs.Reading.{lead, Stops, AtEnd, Within, Wrong, Reads}
use Rattle.btsnoop.specs.Taking.{Progress, no_progress, Takes, EndsWith}
use Rattle.btsnoop.specs.Accounts.{Accounts, given, used, TakesAll, all_used, all_given}
use Rattle.btsnoop.specs.Laws.{Tells}
use Rattle.btsnoop.proofs.FieldLemmas.{Fault, fault_stays, nothing_unfinished}
use Rattle.btsnoop.proofs.ReadingLemmas.{stops_none, early_none, behind_header, after_header, front_items, one_reading, file_read}
use Rattle.btsnoop.proofs.TakingLemmas.{progress}

pub new_accounts : Accounts [] [] no_progress
new_accounts = record { each = tt; early = λ h. refl; kept = (refl, nothing_unfinished Header, refl) }

counted_twice : (m n : ℕ) → counted (counted 0 m) n ≡ counted 0 (m + n)
counted_twice m n = omega arith

no_fault : (f : Fault) → Some f ≡ None → ⊥
no_fault f e = absurd cc

all_last : (items : List Record) (item : Record) → AllByRecursion IsRecord items → IsRecord item → AllByRecursion IsRecord (items ++ item ∷ [])
all_last [] item all ok = (ok, tt)
all_last (first ∷ items) item all ok = (all.0, all_last items item all.1 ok)

octets_last : (items : List Record) (item : Record) → records_octets (items ++ item ∷ []) ≡ records_octets items ++ record_octets item
octets_last [] item = append-nil (record_octets item)
octets_last (first ∷ items) item = ap (λ (t : List ℕ). record_octets first ++ t) (octets_last items item) ∙ sym (append_assoc (record_octets first) (records_octets items) (record_octets item))

file_last : (items : List Record) (item : Record) → file_of (items ++ item ∷ []) ≡ file_of items ++ record_octets item
file_last items item = ap (λ (t : List ℕ). file_header ++ t) (octets_last items item) ∙ sym (append_assoc file_header (records_octets items) (record_octets item))

-- something whole was taken, and the lead is longer by it
whole_step : (part : Part) (before n : ℕ) (held piece fed whole : List ℕ) (items all : List Record) → Accounts fed items (progress part before held None) → n ≤ length piece → whole ≡ held ++ take n piece
    → AllByRecursion IsRecord all → lead Body all ≡ lead part items ++ whole → Accounts (fed ++ take n piece) all (progress Body (counted before (length held + n)) [] None)
whole_step part before n held piece fed whole items all h le is each longer =
    let fed-is : fed ++ take n piece ≡ lead Body all =
    ap (λ (xs : List ℕ). xs ++ take n piece) h.kept.0 ∙ append_assoc (lead part items) held (take n piece) ∙ ap (λ (xs : List ℕ). lead part items ++ xs) (sym is) ∙ sym longer in
    let size : length (lead part items) + (length held + n) ≡ length (lead Body all) =
    omega (arith, ap length longer, length-append (lead part items) whole, ap length is, length-append held (take n piece), length-take-le n piece le) in
    record {
      each = each;
      early = λ e. absurd cc;
      kept = (
        fed-is ∙ sym (append-nil (lead Body all)),
        nothing_unfinished Body,
        ap (λ (m : ℕ). counted m (length held + n)) h.kept.2 ∙ counted_twice (length (lead part items)) (length held + n) ∙ ap (counted 0) size,
      );
    }

header_step : (part : Part) (before n : ℕ) (held piece fed : List ℕ) (items : List Record) → Accounts fed items (progress part before held None) → part ≡ Header → n ≤ length piece → file_header ≡ held ++ take n piece
    → Accounts (fed ++ take n piece) (items ++ []) (progress Body (counted before (length held + n)) [] None)
header_step part before n held piece fed items h header le is =
    let none : items ≡ [] = h.early header in
    let longer : lead Body (items ++ []) ≡ lead part items ++ file_header =
    ap (λ (rs : List Record). file_of (rs ++ [])) none ∙ append-nil file_header ∙ sym (ap (λ (p : Part). lead p items ++ file_header) header) in
    whole_step part before n held piece fed file_header items (items ++ []) h le is (subst (AllByRecursion IsRecord) (sym (append-nil items)) h.each) longer

record_step : (part : Part) (before n : ℕ) (held piece fed : List ℕ) (items : List Record) (item : Record) → Accounts fed items (progress part before held None) → part ≡ Body → n ≤ length piece → IsRecord item → record_octets item ≡ held ++ take n piece
    → Accounts (fed ++ take n piece) (items ++ item ∷ []) (progress Body (counted before (length held + n)) [] None)
record_step part before n held piece fed items item h body le ok is =
    whole_step part before n held piece fed (record_octets item) items (items ++ item ∷ []) h le is (all_last items item h.each ok)
    (file_last items item ∙ ap (λ (p : Part). lead p items ++ record_octets item) (sym body))

nothing_given : (fed : List ℕ) (items : List Record) (now : Progress) → Accounts fed items now → Accounts fed (items ++ []) now
nothing_given fed items now h = subst (λ (rs : List Record). Accounts fed rs now) (sym (append-nil items)) h

more_step : (part : Part) (before : ℕ) (held piece fed : List ℕ) (items : List Record) → Accounts fed items (progress part before held None) → IsUnfinished part (held ++ piece)
    → Accounts (fed ++ piece) (items ++ []) (progress part before (held ++ piece) None)
more_step part before held piece fed items h u =
    nothing_given (fed ++ piece) items (progress part before (held ++ piece) None)
    (record { each = h.each; early = h.early; kept = (ap (λ (xs : List ℕ). xs ++ piece) h.kept.0 ∙ append_assoc (lead part items) held piece, u, h.kept.2) })

refused_step : (part : Part) (before place n : ℕ) (held piece fed : List ℕ) (items : List Record) (r : SnoopRefusal) → Accounts fed items (progress part before held None) → fault_in part (held ++ piece) ≡ Some (r, n) → place ≡ counted before n
    → Accounts (fed ++ piece) (items ++ []) (progress part before held (Some (r, place)))
refused_step part before place n held piece fed items r h wrong at =
    nothing_given (fed ++ piece) items (progress part before held (Some (r, place)))
    (record {
      each = h.each;
      early = h.early;
      kept = (
        held ++ piece,
        n,
        ap (λ (xs : List ℕ). xs ++ piece) h.kept.0 ∙ append_assoc (lead part items) held piece,
        wrong,
        at ∙ ap (λ (m : ℕ). counted m n) h.kept.2 ∙ counted_twice (length (lead part items)) n,
      );
    })

again_step : (part : Part) (before place : ℕ) (held piece fed : List ℕ) (items : List Record) (r : SnoopRefusal) (f : Fault) → Accounts fed items (progress part before held (Some f)) → f ≡ (r, place)
    → Accounts (fed ++ piece) (items ++ []) (progress part before held (Some (r, place)))
again_step part before place held piece fed items r f h same =
    let moved : Accounts fed items (progress part before held (Some (r, place))) = subst (λ (g : Fault). Accounts fed items (progress part before held (Some g))) same h in
    let rest = moved.kept.0 in
    nothing_given (fed ++ piece) items (progress part before held (Some (r, place)))
    (record {
      each = moved.each;
      early = moved.early;
      kept = (
        rest ++ piece,
        moved.kept.1,
        ap (λ (xs : List ℕ). xs ++ piece) moved.kept.2 ∙ append_assoc (lead part items) rest piece,
        fault_stays part rest piece (r, moved.kept.1) moved.kept.3,
        moved.kept.4,
      );
    })

step : (part : Part) (before : ℕ) (held piece fed : List ℕ) (fault : Option Fault) (items : List Record) (t : SnoopTaken) (new : Progress) → Accounts fed items (progress part before held fault) → Takes (progress part before held fault) piece t new
    → Accounts (fed ++ used piece t) (items ++ given t) new
step part before held piece fed None items (taken.Header n) new h k = subst (Accounts (fed ++ take n piece) (items ++ [])) (sym k.5) (header_step part before n held piece fed items h k.1 k.3 k.4)
step part before held piece fed (Some f) items (taken.Header n) new h k = absurd (no_fault f k.0)
step part before held piece fed None items (taken.Record item n) new h k =
    subst (Accounts (fed ++ take n piece) (items ++ plain_record item ∷ [])) (sym k.6) (record_step part before n held piece fed items (plain_record item) h k.1 k.3 k.4 k.5)
step part before held piece fed (Some f) items (taken.Record item n) new h k = absurd (no_fault f k.0)
step part before held piece fed None items taken.More new h k = subst (Accounts (fed ++ piece) (items ++ [])) (sym k.2) (more_step part before held piece fed items h k.1)
step part before held piece fed (Some f) items taken.More new h k = absurd (no_fault f k.0)
step part before held piece fed None items (taken.Refused r place) new h k = subst (Accounts (fed ++ piece) (items ++ [])) (sym k.1) (refused_step part before place k.0.0 held piece fed items r h k.0.1 k.0.2)
step part before held piece fed (Some f) items (taken.Refused r place) new h k = subst (Accounts (fed ++ piece) (items ++ [])) (sym k.1) (again_step part before place held piece fed items r f h k.0)

taking_accounts : (fed piece : List ℕ) (items : List Record) (old new : Progress) (t : SnoopTaken) → Accounts fed items old → Takes old piece t new → Accounts (fed ++ used piece t) (items ++ given t) new
taking_accounts fed piece items old new t h k = step old.part old.before old.held piece fed old.fault items t new h k

takes_all : (fed : List ℕ) (items : List Record) (old new : Progress) (calls : List (List ℕ × SnoopTaken)) → Accounts fed items old → TakesAll old calls new → Accounts (fed ++ all_used calls) (items ++ all_given calls) new
takes_all fed items old new [] h k = subst (Accounts (fed ++ []) (items ++ [])) (sym k) (rw (append-nil fed, append-nil items) h)
takes_all fed items old new (call ∷ calls) h k =
    let first = taking_accounts fed call.0 items old k.0 call.1 h k.1 in
    let all = takes_all (fed ++ used call.0 call.1) (items ++ given call.1) k.0 new calls first k.2 in
    subst (λ (xs : List ℕ). Accounts xs (items ++ all_given (call ∷ calls)) new) (append_assoc fed (used call.0 call.1) (all_used calls))
    (subst (λ (rs : List Record). Accounts ((fed ++ used call.0 call.1) ++ all_used calls) rs new) (append_assoc items (given call.1) (all_given calls)) all)

pub all_account : (calls : List (List ℕ × SnoopTaken)) (now : Progress) → TakesAll no_progress calls now → Accounts (all_used calls) (all_given calls) now
all_account calls now k = takes_all [] [] no_progress now calls new_accounts k

-- ---- the end

abbrev Ended : Type 0
Ended = Result (Unit {0}) Fault

abbrev EndReads : List ℕ → List Record → Ended → Type 0
EndReads fed items ended = (ending : Option Fault) × Reads fed items ending × Tells ending ended

ended : (part : Part) (before : ℕ) (held fed : List ℕ) (fault : Option Fault) (items : List Record) (e : Ended) → Accounts fed items (progress part before held fault) → EndsWith (progress part before held fault) e → EndReads fed items e
ended part before held fed None items (Ok u) h k = (None, record { part = part; each = h.each; early = h.early; rest = held; whole = h.kept.0; stops = AtEnd k.1 k.2 refl }, tt)
ended part before held fed (Some f) items (Ok u) h k = absurd (no_fault f k.0)
ended part before held fed None items (Err g) h k = (
  Some (Truncated, length (lead part items)),
  record { part = part; each = h.each; early = h.early; rest = held; whole = h.kept.0; stops = Within k.0 refl },
  (ap (λ (f : Fault). f.0) k.1, ap (λ (f : Fault). f.1) k.1 ∙ h.kept.2),
)
ended part before held fed (Some f) items (Err g) h k =
    let kept = h.kept in (
      Some (f.0, length (lead part items) + kept.1),
      record { part = part; each = h.each; early = h.early; rest = kept.0; whole = kept.2; stops = Wrong f.0 kept.1 kept.3 refl },
      (ap (λ (t : Fault). t.0) (sym k), ap (λ (t : Fault). t.1) (sym k) ∙ kept.4),
    )

pub any_pieces : (calls : List (List ℕ × SnoopTaken)) (now : Progress) (e : Ended) → TakesAll no_progress calls now → EndsWith now e → EndReads (all_used calls) (all_given calls) e
any_pieces calls now e all k = ended now.part now.before now.held (all_used calls) now.fault (all_given calls) e (all_account calls now all) k

told_ok : (e : Ended) (ending : Option Fault) → ending ≡ None → Tells ending e → e ≡ Ok tt
told_ok (Ok u) ending none tells = refl
told_ok (Err f) None none tells = absurd tells
told_ok (Err f) (Some g) none tells = absurd (no_fault g none)

pub written_read : (items : List Record) (calls : List (List ℕ × SnoopTaken)) (now : Progress) (e : Ended) → IsFile (all_used calls) items → TakesAll no_progress calls now → EndsWith now e → (all_given calls ≡ items) × (e ≡ Ok tt)
written_read items calls now e file all k =
    let read = any_pieces calls now e all k in
    let same = one_reading (all_used calls) (all_given calls) items read.0 None read.1 (file_read (all_used calls) items file) in
    (same.0, told_ok e read.0 same.1 read.2)

-- ---- however the octets go on

-- the octets that were fed begin with the records that were given
fed_front : (part : Part) (before : ℕ) (held fed : List ℕ) (fault : Option Fault) (items : List Record) → Accounts fed items (progress part before held fault) → (rest : List ℕ) × (fed ≡ lead part items ++ rest)
fed_front part before held fed None items h = (held, h.kept.0)
fed_front part before held fed (Some f) items h = (h.kept.0, h.kept.2)

behind_come : (p : Part) (items all : List Record) (xs x y : List ℕ) (e : Option Fault) → AllByRecursion IsRecord items → AllByRecursion IsRecord all → xs ≡ file_of items ++ x → xs ≡ lead p all ++ y → Stops p (length (lead p all)) y e
    → (others : List Record) × (all ≡ items ++ others)
behind_come Header items all xs x y e each each' is are stops = absurd (early_none 0 y (records_octets items ++ x) e stops (sym are ∙ behind_header xs items x is))
behind_come Body items all xs x y e each each' is are stops =
    let split = after_header (records_octets items ++ x) (records_octets all ++ y) (sym (behind_header xs items x is) ∙ behind_header xs all y are) in
    let first = front_items items all x y each each' (stops_none (length (file_of all)) y e stops) split in
    (first.0, first.1)

come_first : (part : Part) (before : ℕ) (held fed more : List ℕ) (fault : Option Fault) (items all : List Record) (e : Option Fault) → Accounts fed items (progress part before held fault) → Reads (fed ++ more) all e → (others : List Record) × (all ≡ items ++ others)
come_first Header before held fed more fault items all e h k = (all, ap (λ (rs : List Record). rs ++ all) (sym (h.early refl)))
come_first Body before held fed more fault items all e h k =
    let front = fed_front Body before held fed fault items h in
    behind_come k.part items all (fed ++ more) (front.0 ++ more) k.rest e h.each k.each (ap (λ (xs : List ℕ). xs ++ more) front.1 ∙ append_assoc (file_of items) front.0 more) k.whole k.stops

pub given_first : (calls : List (List ℕ × SnoopTaken)) (now : Progress) (more : List ℕ) (items : List Record) (e : Option Fault) → TakesAll no_progress calls now → Reads (all_used calls ++ more) items e → (others : List Record) × (items ≡ all_given calls ++ others)
given_first calls now more items e all k = come_first now.part now.before now.held (all_used calls) more now.fault (all_given calls) items e (all_account calls now all) k
