-- A file header and a record from their octets, and their octets from them.
use Rattle.std.proofs.Common.{◌≡◌, ℕ, ◌+◌, ◌<◌, ◌≤◌, ◌^◌, List, ◌++◌, length, take, drop, None, refl, sym, ap, ◌∙◌, arith, length-append}
use Rattle.std.proofs.lemmas.List.{length-drop, length-take-le, take_at, drop_at}
use Rattle.byteorder.specs.Endian.{big_bytes}
use Rattle.byteorder.specs.Numbers.{big_from-lt, big_number-reads_back}
use Rattle.bt_base.specs.Octets.{IsOctets, be32}
use Rattle.bt_base.proofs.OctetLemmas.{be32-front, be32-number}
use Rattle.h4_framing.proofs.OctetLists.{IsOctets-drop, IsOctets-take}
use Rattle.btsnoop.specs.declared.fields.Part.TheVariants.{Header, Body}
use Rattle.btsnoop.specs.Files.{Record, IsRecord, identification, version, uart_datalink, file_header, record_octets}
use Rattle.btsnoop.specs.Fields.{field, fault_in, told_length, record_at}
use Rattle.tagged_entries.proofs.LongNumbers.{long_front}
use Rattle.btsnoop.proofs.Parts.{header_parts, record_parts}
use Rattle.btsnoop.proofs.FieldLemmas.{sound_header, header_sound, head_is, sound_body, body_sound, told_body}

-- ---- from the octets

field_octets : (place : ℕ) (xs : List ℕ) → IsOctets xs → place + 4 ≤ length xs → be32 (field place 4 xs) ≡ take 4 (drop place xs)
unfolding field
field_octets place xs fits le = be32-front (drop place xs) (IsOctets-drop place xs fits) (omega (arith, length-drop place xs))

long_octets : (place : ℕ) (xs : List ℕ) → IsOctets xs → place + 8 ≤ length xs → big_bytes 8 (field place 8 xs) ≡ take 8 (drop place xs)
unfolding field
long_octets place xs fits le = long_front (drop place xs) (IsOctets-drop place xs fits) (omega (arith, length-drop place xs))

field_fits : (place : ℕ) (xs : List ℕ) → IsOctets xs → field place 4 xs < 2 ^ 32
unfolding field
field_fits place xs fits = big_from-lt 0 4 (drop place xs) (IsOctets-drop place xs fits)

long_fits : (place : ℕ) (xs : List ℕ) → IsOctets xs → field place 8 xs < 2 ^ 64
unfolding field
long_fits place xs fits = big_from-lt 0 8 (drop place xs) (IsOctets-drop place xs fits)

three_same : (a b c a' b' c' : List ℕ) → a ≡ a' → b ≡ b' → c ≡ c' → a ++ (b ++ c) ≡ a' ++ (b' ++ c')
three_same a b c a' b' c' p q r = rw (p, q, r) refl

six_same : (a b c d e f a' b' c' d' e' f' : List ℕ) → a ≡ a' → b ≡ b' → c ≡ c' → d ≡ d' → e ≡ e' → f ≡ f'
    → a ++ (b ++ (c ++ (d ++ (e ++ f)))) ≡ a' ++ (b' ++ (c' ++ (d' ++ (e' ++ f'))))
six_same a b c d e f a' b' c' d' e' f' p q r s t u = rw (p, q, r, s, t, u) refl

header_octets : (m n k : ℕ) (a b c : List ℕ) → m ≡ identification → n ≡ version → k ≡ uart_datalink → big_bytes 8 m ≡ a → be32 n ≡ b → be32 k ≡ c → file_header ≡ a ++ (b ++ c)
unfolding file_header
header_octets m n k a b c p q r s t u = three_same _ _ _ a b c (ap (big_bytes 8) (sym p) ∙ s) (ap be32 (sym q) ∙ t) (ap be32 (sym r) ∙ u)

-- sixteen octets in which nothing is wrong are the file header
pub header_whole : (xs : List ℕ) → IsOctets xs → 16 ≤ length xs → fault_in Header xs ≡ None → file_header ≡ take 16 xs
header_whole xs fits le sound =
    let s = sound_header xs le (sym (head_is xs) ∙ sound) in
    header_octets (field 0 8 xs) (field 8 4 xs) (field 12 4 xs) (take 8 xs) (take 4 (drop 8 xs)) (take 4 (drop 12 xs)) s.0 s.1 s.2 (long_octets 0 xs fits (omega arith)) (field_octets 8 xs fits (omega arith)) (field_octets 12 xs fits (omega arith))
    ∙ header_parts xs

-- the octets of a record, by its fields
record_is : (item : Record) → record_octets item ≡ be32 item.original ++ (be32 (length item.octets) ++ (be32 item.flags ++ (be32 item.drops ++ (big_bytes 8 item.time ++ item.octets))))
unfolding record_octets
record_is item = refl

pub record_size : (item : Record) → length (record_octets item) ≡ 24 + length item.octets
unfolding record_octets
record_size item = omega arith

-- octets with whole lengths, in which nothing is wrong, are a record
pub record_whole : (xs : List ℕ) → IsOctets xs → length xs ≡ 24 + field 4 4 xs → fault_in Body xs ≡ None → IsRecord (record_at xs) × (record_octets (record_at xs) ≡ xs)
record_whole xs fits size sound =
    let n : ℕ = field 4 4 xs in
    let ok = sound_body xs (omega (arith, size)) sound in
    let kept : length (take n (drop 24 xs)) ≡ n = length-take-le n (drop 24 xs) (omega (arith, length-drop 24 xs, size)) in
    let item : Record = record_at xs in (
      record {
        original = field_fits 0 xs fits;
        flags = field_fits 8 xs fits;
        drops = field_fits 12 xs fits;
        time = long_fits 16 xs fits;
        octets = IsOctets-take n (drop 24 xs) (IsOctets-drop 24 xs fits);
        within = omega (arith, kept, ok.0);
        no_more = omega (arith, kept, ok.1);
      },
      record_is item
          ∙ six_same _ _ _ _ _ _ (take 4 xs) (take 4 (drop 4 xs)) (take 4 (drop 8 xs)) (take 4 (drop 12 xs)) (take 8 (drop 16 xs)) (take n (drop 24 xs)) (field_octets 0 xs fits (omega (arith, size))) (ap be32 kept ∙ field_octets 4 xs fits (omega (arith, size)))
          (field_octets 8 xs fits (omega (arith, size))) (field_octets 12 xs fits (omega (arith, size))) (long_octets 16 xs fits (omega (arith, size))) refl
          ∙ record_parts n xs size,
    )

-- ---- from the header and the record

-- the fields of octets that begin with a file header
header_fields : (rest : List ℕ) → (field 0 8 (file_header ++ rest) ≡ identification) × (field 8 4 (file_header ++ rest) ≡ version) × (field 12 4 (file_header ++ rest) ≡ uart_datalink)
unfolding field file_header
header_fields rest = (big_number-reads_back 8 identification (be32 version ++ (be32 uart_datalink ++ rest)) (omega arith), be32-number version (be32 uart_datalink ++ rest) (omega arith), be32-number uart_datalink rest (omega arith))

pub header_front : (xs rest : List ℕ) → xs ≡ file_header ++ rest → fault_in Header xs ≡ None
header_front xs rest e =
    let f = header_fields rest in
    head_is xs ∙ header_sound xs (ap (field 0 8) e ∙ f.0) (ap (field 8 4) e ∙ f.1) (ap (field 12 4) e ∙ f.2)

pub header_size : length file_header ≡ 16
unfolding file_header
header_size = refl

abbrev spread : ℕ → ℕ → ℕ → ℕ → ℕ → List ℕ → List ℕ
spread o n f d t rest = be32 o ++ (be32 n ++ (be32 f ++ (be32 d ++ (big_bytes 8 t ++ rest))))

-- the fields of octets that begin with a record
record Fields (o n f d t : ℕ) (rest : List ℕ) : Type 0 where
  pub original : field 0 4 (spread o n f d t rest) ≡ o
  pub included : field 4 4 (spread o n f d t rest) ≡ n
  pub flags : field 8 4 (spread o n f d t rest) ≡ f
  pub drops : field 12 4 (spread o n f d t rest) ≡ d
  pub time : field 16 8 (spread o n f d t rest) ≡ t
  pub body : drop 24 (spread o n f d t rest) ≡ rest

spread_fields : (o n f d t : ℕ) (rest : List ℕ) → o < 2 ^ 32 → n < 2 ^ 32 → f < 2 ^ 32 → d < 2 ^ 32 → t < 2 ^ 64 → Fields o n f d t rest
unfolding field
spread_fields o n f d t rest o-fits n-fits f-fits d-fits t-fits = record {
  original = be32-number o (be32 n ++ (be32 f ++ (be32 d ++ (big_bytes 8 t ++ rest)))) o-fits;
  included = be32-number n (be32 f ++ (be32 d ++ (big_bytes 8 t ++ rest))) n-fits;
  flags = be32-number f (be32 d ++ (big_bytes 8 t ++ rest)) f-fits;
  drops = be32-number d (big_bytes 8 t ++ rest) d-fits;
  time = big_number-reads_back 8 t rest t-fits;
  body = refl;
}

same_record : (a b : Record) → a.original ≡ b.original → a.flags ≡ b.flags → a.drops ≡ b.drops → a.time ≡ b.time → a.octets ≡ b.octets → a ≡ b
same_record a b p q r s t =
    ap (λ (o : ℕ). record { original = o; flags = a.flags; drops = a.drops; time = a.time; octets = a.octets }) p
    ∙ ap (λ (f : ℕ). record { original = b.original; flags = f; drops = a.drops; time = a.time; octets = a.octets }) q
    ∙ ap (λ (d : ℕ). record { original = b.original; flags = b.flags; drops = d; time = a.time; octets = a.octets }) r
    ∙ ap (λ (u : ℕ). record { original = b.original; flags = b.flags; drops = b.drops; time = u; octets = a.octets }) s
    ∙ ap (λ (xs : List ℕ). record { original = b.original; flags = b.flags; drops = b.drops; time = b.time; octets = xs }) t

-- the octets of a record, and what follows them
spread_is : (item : Record) (more : List ℕ) → record_octets item ++ more ≡ spread item.original (length item.octets) item.flags item.drops item.time (item.octets ++ more)
unfolding record_octets
spread_is item more = refl

-- what is told of octets that begin with a record
pub record Front (xs : List ℕ) (item : Record) : Type 0 where
  pub same : record_at xs ≡ item
  pub sound : fault_in Body xs ≡ None
  pub told : told_length Body xs ≡ length (record_octets item)

pub record_front : (xs more : List ℕ) (item : Record) → IsRecord item → xs ≡ record_octets item ++ more → Front xs item
record_front xs more item ok e =
    let n : ℕ = length item.octets in
    let is = e ∙ spread_is item more in
    let f = spread_fields item.original n item.flags item.drops item.time (item.octets ++ more) ok.original (omega (arith, ok.within)) ok.flags ok.drops ok.time in
    let included : field 4 4 xs ≡ n = ap (field 4 4) is ∙ f.included in
    let original : field 0 4 xs ≡ item.original = ap (field 0 4) is ∙ f.original in
    let body : drop 24 xs ≡ item.octets ++ more = ap (drop 24) is ∙ f.body in
    let long : 24 ≤ length xs = omega (arith, ap length e, length-append (record_octets item) more, record_size item) in
    let octets : take (field 4 4 xs) (drop 24 xs) ≡ item.octets = ap (λ (k : ℕ). take k (drop 24 xs)) included ∙ ap (take n) body ∙ take_at item.octets more n refl in
    record {
      same = same_record (record_at xs) item original (ap (field 8 4) is ∙ f.flags) (ap (field 12 4) is ∙ f.drops) (ap (field 16 8) is ∙ f.time) octets;
      sound = body_sound xs (omega arith) (omega (arith, included, ok.within)) (omega (arith, included, original, ok.no_more));
      told = omega (arith, told_body xs long, included, record_size item);
    }

-- no record's octets begin another's
pub one_record : (r s : Record) (x y : List ℕ) → IsRecord r → IsRecord s → record_octets r ++ x ≡ record_octets s ++ y → (r ≡ s) × (x ≡ y)
one_record r s x y ok-r ok-s e =
    let same : r ≡ s = sym (record_front (record_octets r ++ x) x r ok-r refl).same ∙ (record_front (record_octets r ++ x) y s ok-s e).same in
    let size : length (record_octets s) ≡ length (record_octets r) = ap (λ (t : Record). length (record_octets t)) (sym same) in
    (same, sym (drop_at (record_octets r) x (length (record_octets r)) refl) ∙ ap (drop (length (record_octets r))) e ∙ drop_at (record_octets s) y (length (record_octets r)) size)
