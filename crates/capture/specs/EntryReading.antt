-- What stands where an entry should begin (this project's own).
use Rattle.std.specs.Prelude.{ℕ, ◌≡◌, ◌≢◌, ◌≤◌, ◌<◌, ◌^◌, List, [], ◌∷◌, ◌++◌, length, Option, Some, None, Result, Ok, Err}
use Rattle.bt_base.specs.Octets.{be16}
use Rattle.capture.specs.declared.entry.Entry.{Entry as LentEntry}
use Rattle.capture.specs.declared.entry_refusal.EntryRefusal.{EntryRefusal}
use Rattle.capture.specs.declared.entry_refusal.EntryRefusal.TheVariants.{BadTag, Truncated, BadRecord}
use Rattle.capture.specs.Entries.{Entry, IsEntry, tag_of, payload_of, entry_octets}
use Rattle.capture.specs.Lent.{plain_entry}

-- the tags that there are
abbrev pub IsTag : ℕ → Type 0
IsTag tag = (0x01 ≤ tag) × (tag ≤ 0x07)

-- a record: a tag that there is, two octets with the length of a payload, and the payload, whatever that says
abbrev pub IsRecord : ℕ → List ℕ → Type 0
IsRecord tag payload = IsTag tag × (length payload < 2 ^ 16)

abbrev pub record_octets : ℕ → List ℕ → List ℕ
record_octets tag payload = tag ∷ (be16 (length payload) ++ payload)

-- the entry has that tag and that payload
abbrev pub IsOf : ℕ → List ℕ → Entry → Type 0
IsOf tag payload entry = IsEntry entry × (tag_of entry ≡ tag) × (payload_of entry ≡ payload)

-- no entry has them
abbrev pub OfNone : ℕ → List ℕ → Type 0
OfNone tag payload = (entry : Entry) → IsOf tag payload entry → ⊥

-- the entry that has them, if there is one
abbrev pub IsFound : ℕ → List ℕ → Option LentEntry → Type 0
IsFound tag payload (Some entry) = IsOf tag payload (plain_entry entry)
IsFound tag payload None = OfNone tag payload

-- What is read where an entry should begin: the entry, and how many octets it has; or the first octet is no tag; or
-- the octets are the beginning of a record, and not the whole of it; or a whole record stands there, of no entry.
abbrev pub IsFront : List ℕ → Result (Entry × ℕ) EntryRefusal → Type 0
IsFront octets (Ok (entry, used)) = (rest : List ℕ) × IsEntry entry × (octets ≡ entry_octets entry ++ rest) × (used ≡ length (entry_octets entry))
IsFront octets (Err BadTag) = (tag : ℕ) × (rest : List ℕ) × (octets ≡ tag ∷ rest) × (IsTag tag → ⊥)
IsFront octets (Err Truncated) = (tag : ℕ) × (payload more : List ℕ) × IsRecord tag payload × (more ≢ []) × (octets ++ more ≡ record_octets tag payload)
IsFront octets (Err BadRecord) = (tag : ℕ) × (payload rest : List ℕ) × IsRecord tag payload × (octets ≡ record_octets tag payload ++ rest) × OfNone tag payload

-- an answer, apart from where octets lie in memory
abbrev pub plain_front : Result (LentEntry × ℕ) EntryRefusal → Result (Entry × ℕ) EntryRefusal
plain_front (Ok (entry, used)) = Ok (plain_entry entry, used)
plain_front (Err refusal) = Err refusal

-- of octets one thing is read at most
abbrev pub OneFront : Type 0
OneFront = (octets : List ℕ) (answer other : Result (Entry × ℕ) EntryRefusal) → IsFront octets answer → IsFront octets other → answer ≡ other
