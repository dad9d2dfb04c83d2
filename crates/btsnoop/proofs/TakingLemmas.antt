-- What the steps of a reader owe, over plain values.
use Rattle.std.proofs.Common.{◌≡◌, ℕ, ◌+◌, ◌<◌, ◌≤◌, List, [], ◌++◌, length, take, drop, Option, None, Some, sym, ap, subst, ◌∙◌, length-append, arith, inl}
use Rattle.std.specs.Prelude.{MatchOption}
use Rattle.std.proofs.lemmas.List.{length-take-le, take_all, take-append-drop}
use Rattle.bt_base.specs.Octets.{IsOctets}
use Rattle.h4_framing.specs.Framing.{counted}
use Rattle.btsnoop.specs.declared.refusal.SnoopRefusal.{SnoopRefusal}
use Rattle.btsnoop.specs.declared.fields.Part.{Part}
use Rattle.btsnoop.specs.declared.fields.Part.TheVariants.{Header, Body}
use Rattle.btsnoop.specs.declared.record.Record.{Record as LentRecord}
use Rattle.btsnoop.specs.declared.reader.SnoopTaken.TheVariants as taken
use Rattle.btsnoop.specs.Files.{plain_record, IsRecord, file_header, record_octets}
use Rattle.btsnoop.specs.Fields.{field, fault_in, told_length, record_at, IsUnfinished}
use Rattle.btsnoop.specs.Taking.{Progress, Takes}
use Rattle.btsnoop.proofs.FieldLemmas.{Fault, told_header, told_least, told_body, fault_kept, told_kept}
use Rattle.btsnoop.proofs.Items.{header_whole, record_whole}

abbrev pub progress : Part → ℕ → List ℕ → Option Fault → Progress
progress part before held fault = record { part = part; before = before; held = held; fault = fault }

-- what of a piece is told to be whole
pub leading_front : (part : Part) (piece : List ℕ) (n : ℕ) → n ≡ told_length part piece → n ≤ length piece → fault_in part piece ≡ None
    → (fault_in part (take n piece) ≡ None) × (told_length part (take n piece) ≡ length (take n piece))
leading_front part piece n told le sound =
    let front = take n piece in
    let size : length front ≡ n = length-take-le n piece le in
    let long = told_least part piece in
    let whole : front ++ drop n piece ≡ piece = take-append-drop n piece in (
      sym (fault_kept part front (drop n piece) (inl (omega arith))) ∙ ap (fault_in part) whole ∙ sound,
      sym (told_kept part front (drop n piece) (inl (omega arith))) ∙ ap (told_length part) whole ∙ sym told ∙ sym size,
    )

-- how long a record is whose head is whole
pub record_told : (part : Part) (xs : List ℕ) (n : ℕ) → part ≡ Body → told_length part xs ≡ n → n ≤ length xs → 24 + field 4 4 xs ≡ n
record_told part xs n body told le =
    let told' : told_length Body xs ≡ n = ap (λ (p : Part). told_length p xs) (sym body) ∙ told in
    let least = told_least Body xs in
    omega (arith, told', told_body xs (omega (arith, told', least)))

-- nothing was held, and the piece is not whole
pub leading_more : (part : Part) (before : ℕ) (held piece kept : List ℕ) (fault : Option Fault) → fault ≡ None → held ≡ [] → IsUnfinished part piece → kept ≡ piece
    → Takes (progress part before held fault) piece taken.More (progress part before kept fault)
leading_more part before held piece kept fault sound empty u is =
    let whole : piece ≡ held ++ piece = ap (λ (xs : List ℕ). xs ++ piece) (sym empty) in
    (sound, subst (IsUnfinished part) whole u, ap (λ (xs : List ℕ). progress part before xs fault) (is ∙ whole))

-- a field is wrong, and what is held stays
pub goes_refused : (part : Part) (before place n : ℕ) (held piece kept : List ℕ) (fault : Option Fault) (r : SnoopRefusal) → fault ≡ None → fault_in part (held ++ piece) ≡ Some (r, n) → place ≡ counted before n → kept ≡ held
    → Takes (progress part before held fault) piece (taken.Refused r place) (progress part before kept (Some (r, place)))
goes_refused part before place n held piece kept fault r sound wrong at is = (
  subst (λ (o : Option Fault). MatchOption o ((n : ℕ) × (fault_in part (held ++ piece) ≡ Some (r, n)) × (place ≡ counted before n)) (λ fault. fault ≡ (r, place))) (sym sound) (n, wrong, at),
  ap (λ (xs : List ℕ). progress part before xs (Some (r, place))) is,
)

-- what was held, and octets of the piece, in a buffer, and nothing in it is wrong
pub record Full (part : Part) (held piece buffer : List ℕ) (n : ℕ) : Type 0 where
  pub some : 0 < n
  pub within : n ≤ length piece
  pub items : buffer ≡ held ++ take n piece
  pub octets : IsOctets buffer
  pub sound : fault_in part buffer ≡ None
  pub told : told_length part buffer ≡ length buffer

full_size : (part : Part) (held piece buffer : List ℕ) (n : ℕ) → Full part held piece buffer n → length buffer ≡ length held + n
full_size part held piece buffer n f = omega (arith, ap length f.items, length-append held (take n piece), length-take-le n piece f.within)

stepped : (part : Part) (before after n : ℕ) (held piece buffer kept : List ℕ) (fault : Option Fault) → Full part held piece buffer n → fault ≡ None → after ≡ counted before (length buffer) → kept ≡ []
    → progress Body after kept fault ≡ progress Body (counted before (length held + n)) [] None
stepped part before after n held piece buffer kept fault full sound count none =
    ap (λ (k : ℕ). progress Body k kept fault) (count ∙ ap (counted before) (full_size part held piece buffer n full))
    ∙ ap (λ (xs : List ℕ). progress Body (counted before (length held + n)) xs fault) none ∙ ap (λ (f : Option Fault). progress Body (counted before (length held + n)) [] f) sound

-- they are the file header
pub whole_header : (part : Part) (before after n : ℕ) (held piece buffer kept : List ℕ) (fault : Option Fault) → Full part held piece buffer n → part ≡ Header → fault ≡ None → after ≡ counted before (length buffer) → kept ≡ []
    → Takes (progress part before held fault) piece (taken.Header n) (progress Body after kept fault)
whole_header part before after n held piece buffer kept fault full header sound count none =
    let size : length buffer ≡ 16 = sym full.told ∙ ap (λ (p : Part). told_length p buffer) header ∙ told_header buffer in
    let is : file_header ≡ buffer = header_whole buffer full.octets (omega (arith, size)) (ap (λ (p : Part). fault_in p buffer) (sym header) ∙ full.sound) ∙ take_all 16 buffer (omega (arith, size)) in
    (sound, header, full.some, full.within, is ∙ full.items, stepped part before after n held piece buffer kept fault full sound count none)

-- they are a record
pub whole_record : (part : Part) (before after n : ℕ) (held piece buffer kept : List ℕ) (fault : Option Fault) (item : LentRecord) → Full part held piece buffer n → part ≡ Body → plain_record item ≡ record_at buffer → fault ≡ None
    → after ≡ counted before (length buffer) → kept ≡ [] → Takes (progress part before held fault) piece (taken.Record item n) (progress part after kept fault)
whole_record part before after n held piece buffer kept fault item full body made sound count none =
    let size : length buffer ≡ 24 + field 4 4 buffer = sym (record_told part buffer (length buffer) body full.told (omega arith)) in
    let whole = record_whole buffer full.octets size (ap (λ (p : Part). fault_in p buffer) (sym body) ∙ full.sound) in (
      sound,
      body,
      full.some,
      full.within,
      subst IsRecord (sym made) whole.0,
      ap record_octets made ∙ whole.1 ∙ full.items,
      ap (λ (p : Part). progress p after kept fault) body ∙ stepped part before after n held piece buffer kept fault full sound count none,
    )
