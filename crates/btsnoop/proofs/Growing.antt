-- How the records of a host grow with the entries that are read.
use Rattle.std.proofs.Common.{◌≡◌, ℕ, ◌+◌, ◌%◌, ◌^◌, ◌<◌, Bool, true, false, if◌then◌else◌, List, [], ◌∷◌, ◌++◌, length, refl, sym, ap, ◌∙◌, append_assoc, arith, length-append}
use Rattle.std.proofs.lemmas.List.{append-nil}
use Rattle.std.proofs.lemmas.Grind.{flat_map-append}
use Rattle.std.proofs.lemmas.List.Elements.{filter_map-append}
use Rattle.std.specs.List.{AllByRecursion}
use Rattle.h4_framing.specs.Packets.{Packet, Command, Acl, Sync, Event}
use Rattle.push_terms.specs.declared.word.Side.{Side}
use Rattle.push_terms.specs.declared.word.Side.TheVariants as sides
use Rattle.capture.specs.declared.flow.Flow.{Flow}
use Rattle.capture.specs.declared.flow.Flow.TheVariants.{Out, Into}
use Rattle.capture.specs.Moves.{Move}
use Rattle.btsnoop.specs.declared.converting.Converter.{Converter}
use Rattle.btsnoop.specs.Files.{Record, record_octets, records_octets, file_header, file_of}
use Rattle.btsnoop.specs.Converting.{Item, Moved, Passed, IsItem, item_octets, items_octets, move_in, moves_in, flow_flag, kind_flag, time_of, record_of, records_from}
use Rattle.btsnoop.specs.Converter.{HasRead, same_side, given_of, after}

pub flags_small : (flow : Flow) (packet : Packet) → flow_flag flow + kind_flag packet < 4
flags_small Out (Command opcode params) = omega arith
flags_small Out (Acl word octets) = omega arith
flags_small Out (Sync word octets) = omega arith
flags_small Out (Event code params) = omega arith
flags_small Into (Command opcode params) = omega arith
flags_small Into (Acl word octets) = omega arith
flags_small Into (Sync word octets) = omega arith
flags_small Into (Event code params) = omega arith

each_more : (xs : List Item) (x : Item) → AllByRecursion IsItem xs → IsItem x → AllByRecursion IsItem (xs ++ x ∷ [])
each_more [] x each is = (is, tt)
each_more (y ∷ xs) x (first, each) is = (first, each_more xs x each is)

-- ---- one entry more

octets_more : (items : List Item) (item : Item) → items_octets (items ++ item ∷ []) ≡ items_octets items ++ item_octets item
octets_more items item = flat_map-append item_octets items (item ∷ []) ∙ ap (λ (t : List ℕ). items_octets items ++ t) (append-nil (item_octets item))

moves_more : (side : Side) (items : List Item) (item : Item) (ms : List Move) → moves_in side (item ∷ []) ≡ ms → moves_in side (items ++ item ∷ []) ≡ moves_in side items ++ ms
moves_more side items item ms e = filter_map-append (move_in side) items (item ∷ []) ∙ ap (λ (t : List Move). moves_in side items ++ t) e

records_more : (n : ℕ) (ms ns : List Move) → records_from n (ms ++ ns) ≡ records_from n ms ++ records_from (n + length ms) ns
records_more n [] ns = ap (λ (k : ℕ). records_from k ns) (omega arith)
records_more n (m ∷ ms) ns = ap (λ (t : List Record). record_of n m ∷ t) (records_more (n + 1) ms ns ∙ ap (λ (k : ℕ). records_from (n + 1) ms ++ records_from k ns) (omega arith))

file_more : (rs qs : List Record) → file_of (rs ++ qs) ≡ file_of rs ++ records_octets qs
file_more rs qs = ap (λ (t : List ℕ). file_header ++ t) (flat_map-append record_octets rs qs) ∙ sym (append_assoc file_header (records_octets rs) (records_octets qs))

-- an entry more was read, that has these packets of the host
read_more : (first old new : Converter) (before said octets added : List ℕ) (item : Item) (ms : List Move) (h : HasRead first old before said) → IsItem item → octets ≡ item_octets item → moves_in first.side (item ∷ []) ≡ ms
    → added ≡ records_octets (records_from (length (moves_in first.side h.items)) ms) → new.side ≡ old.side → new.time ≡ time_of (length (moves_in first.side h.items) + length ms) → HasRead first new (before ++ octets) (said ++ added)
read_more first old new before said octets added item ms h is spelled moves gives side time =
    let known : List Move = moves_in first.side h.items in
    let all : moves_in first.side (h.items ++ item ∷ []) ≡ known ++ ms = moves_more first.side h.items item ms moves in
    record {
      items = h.items ++ item ∷ [];
      each = each_more h.items item h.each is;
      whole = ap (λ (t : List ℕ). t ++ octets) h.whole ∙ ap (λ (t : List ℕ). items_octets h.items ++ t) spelled ∙ sym (octets_more h.items item);
      file =
          ap (λ (t : List ℕ). t ++ added) h.file
          ∙ ap (λ (t : List ℕ). file_of (records_from 0 known) ++ t) gives
          ∙ sym (file_more (records_from 0 known) (records_from (length known) ms))
          ∙ ap (λ (k : ℕ). file_of (records_from 0 known ++ records_from k ms)) (omega arith)
          ∙ ap file_of (sym (records_more 0 known ms))
          ∙ ap (λ (t : List Move). file_of (records_from 0 t)) (sym all);
      side = side ∙ h.side;
      time = time ∙ ap time_of (sym (ap length all ∙ length-append known ms));
    }

-- ---- what an entry gives

own_moves : (side other : Side) (flow : Flow) (packet : Packet) → moves_in side (Moved other flow packet ∷ []) ≡ (if same_side other side then record { flow = flow; packet = packet } ∷ [] else [])
own_moves sides.A sides.A flow packet = refl
own_moves sides.A sides.B flow packet = refl
own_moves sides.B sides.A flow packet = refl
own_moves sides.B sides.B flow packet = refl

passed_moves : (side : Side) (tag : ℕ) (payload : List ℕ) → moves_in side (Passed tag payload ∷ []) ≡ []
passed_moves sides.A tag payload = refl
passed_moves sides.B tag payload = refl

next_time : (k : ℕ) → (time_of k + 1) % 2 ^ 64 ≡ time_of (k + 1)
next_time k = omega arith

-- the records that a packet gives where it is the host's, or is not
gives_by : (own : Bool) (old : Converter) (k : ℕ) (move : Move) → old.time ≡ time_of k
    → records_octets (if own then record (record_of 0 move) { time = old.time } ∷ [] else []) ≡ records_octets (records_from k (if own then move ∷ [] else []))
gives_by true old k move time = ap (λ (t : ℕ). records_octets (record (record_of 0 move) { time = t } ∷ [])) time
gives_by false old k move time = refl

side_by : (own : Bool) (old : Converter) → (if own then record old { time = (old.time + 1) % 2 ^ 64 } else old).side ≡ old.side
side_by true old = refl
side_by false old = refl

time_by : (own : Bool) (old : Converter) (k : ℕ) (move : Move) → old.time ≡ time_of k → (if own then record old { time = (old.time + 1) % 2 ^ 64 } else old).time ≡ time_of (k + length (if own then move ∷ [] else []))
time_by true old k move time = ap (λ (t : ℕ). (t + 1) % 2 ^ 64) time ∙ next_time k
time_by false old k move time = time ∙ ap time_of (omega arith)

pub packet_more : (first old new : Converter) (before said octets added : List ℕ) (side : Side) (flow : Flow) (packet : Packet) → HasRead first old before said → IsItem (Moved side flow packet) → octets ≡ item_octets (Moved side flow packet)
    → added ≡ records_octets (given_of old side (record { flow = flow; packet = packet })) → new ≡ after old side → HasRead first new (before ++ octets) (said ++ added)
packet_more first old new before said octets added side flow packet h is spelled gives new-is =
    let move : Move = record { flow = flow; packet = packet } in
    let own : Bool = same_side side old.side in
    let k : ℕ = length (moves_in first.side h.items) in
    let ms : List Move = if own then move ∷ [] else [] in
    let moves : moves_in first.side (Moved side flow packet ∷ []) ≡ ms = own_moves first.side side flow packet ∙ ap (λ (s : Side). if same_side side s then move ∷ [] else []) (sym h.side) in
    read_more first old new before said octets added (Moved side flow packet) ms h is spelled moves (gives ∙ gives_by own old k move h.time)
    (ap (λ (c : Converter). c.side) new-is ∙ side_by own old)
    (ap (λ (c : Converter). c.time) new-is ∙ time_by own old k move h.time)

pub passed_more : (first old new : Converter) (before said octets added : List ℕ) (tag : ℕ) (payload : List ℕ) → HasRead first old before said → IsItem (Passed tag payload) → octets ≡ item_octets (Passed tag payload) → added ≡ [] → new ≡ old
    → HasRead first new (before ++ octets) (said ++ added)
passed_more first old new before said octets added tag payload h is spelled none new-is =
    read_more first old new before said octets added (Passed tag payload) [] h is spelled (passed_moves first.side tag payload) none (ap (λ (c : Converter). c.side) new-is)
    (ap (λ (c : Converter). c.time) new-is ∙ h.time ∙ ap time_of (omega arith))
