-- Orders are read off their octets.
use Rattle.std.proofs.Common.{◌≡◌, ℕ, zero, suc, ◌+◌, ◌*◌, ◌/◌, ◌%◌, ◌<◌, ◌≤◌, ◌^◌, List, [], ◌∷◌, ◌++◌, length, take, drop, refl, ap, ap₂, ◌∙◌, arith, length-append}
use Rattle.std.proofs.Math.Seq.{take-append_seam}
use Rattle.std.proofs.lemmas.List.{drop-append-le, drop_all}
use Rattle.byteorder.specs.Endian.{little_number}
use Rattle.radio_world.specs.bt_base.specs.Octets.{le16}
use Rattle.radio_world.specs.bt_base.proofs.OctetLemmas.{le16-number}
use Rattle.radio_world.specs.h4_framing.specs.Packets.{Packet, Command, Acl, Sync, Event, spelling}
use Rattle.radio_world.specs.hci_packets.specs.declared.acl.Boundary.{Boundary}
use Rattle.radio_world.specs.hci_packets.specs.declared.acl.Boundary.TheVariants.{First, Continuing, FirstFromController}
use Rattle.radio_world.specs.hci_packets.specs.AclWords.{flag_of}
use Rattle.radio_world.specs.acl_fragments.specs.Pieces.{Piece}
use Rattle.radio_world.specs.push_terms.specs.declared.word.Side.{Side}
use Rattle.radio_world.specs.push_terms.specs.declared.word.Side.TheVariants.{A, B}
use Rattle.radio_world.specs.world_model.specs.Stations.{Order, ReadBuffers, ReadAddress, Scan, Page, Accept, End, Data, order_packet}
use Rattle.radio_world.specs.world_model.specs.Stations as orders
use Rattle.radio_world.specs.Hosts.{order_octets, IsSent, AreSent}
use Rattle.line_laws.specs.Reading.{boundary_by, data_in, orders_by}
use Rattle.line_laws.specs.Laws.{OrdersAreRead}

-- ---- one packet

flag_low : (boundary : Boundary) → flag_of boundary ≤ 2
flag_low First = omega arith
flag_low Continuing = omega arith
flag_low FirstFromController = omega arith

boundary_is : (boundary : Boundary) → boundary_by (flag_of boundary) ≡ boundary
boundary_is First = refl
boundary_is Continuing = refl
boundary_is FirstFromController = refl

data_is : (handle : ℕ) (piece : Piece) → handle ≤ 0x0EFF → data_in (handle + 0x1000 * flag_of piece.boundary) piece.octets ≡ Data handle piece
data_is handle piece low =
    let flag = flag_low piece.boundary in
    let link : (handle + 0x1000 * flag_of piece.boundary) % 0x1000 ≡ handle = omega arith in
    let flags : (handle + 0x1000 * flag_of piece.boundary) / 0x1000 ≡ flag_of piece.boundary = omega arith in
    ap₂ (λ (h : ℕ) (b : Boundary). Data h (record { boundary = b; octets = piece.octets })) link (ap boundary_by flags ∙ boundary_is piece.boundary)

front_is : (n : ℕ) (octets more : List ℕ) → n ≡ length octets → (take n (octets ++ more) ≡ octets) × (drop n (octets ++ more) ≡ more)
front_is n octets more is = (
  ap (λ (k : ℕ). take k (octets ++ more)) is ∙ take-append_seam octets more,
  ap (λ (k : ℕ). drop k (octets ++ more)) is ∙ drop-append-le (length octets) octets more (omega arith) ∙ ap (λ (l : List ℕ). l ++ more) (drop_all (length octets) octets (omega arith)),
)

read_data : (n word : ℕ) (octets more : List ℕ) → word < 2 ^ 16 → length octets < 2 ^ 16 → orders_by (suc n) (spelling (Acl word octets) ++ more) ≡ data_in word octets ∷ orders_by n more
read_data n word octets more low short =
    let count : ℕ = little_number 2 (le16 (length octets) ++ (octets ++ more)) in
    let first : little_number 2 (le16 word ++ (le16 (length octets) ++ (octets ++ more))) ≡ word = le16-number word (le16 (length octets) ++ (octets ++ more)) low in
    let parts = front_is count octets more (le16-number (length octets) (octets ++ more) short) in
    ap₂ (λ (w : ℕ) (l : List ℕ). data_in w l ∷ orders_by n (drop count (octets ++ more))) first parts.0 ∙ ap (λ (l : List ℕ). data_in word octets ∷ orders_by n l) parts.1

read_one : (n : ℕ) (side : Side) (order : Order) (more : List ℕ) → IsSent side order → orders_by (suc n) (spelling (order_packet side order) ++ more) ≡ order ∷ orders_by n more
read_one n A orders.Reset more sent = refl
read_one n B orders.Reset more sent = refl
read_one n A ReadBuffers more sent = refl
read_one n B ReadBuffers more sent = refl
read_one n A ReadAddress more sent = refl
read_one n B ReadAddress more sent = refl
read_one n A Scan more sent = refl
read_one n B Scan more sent = refl
read_one n A Page more sent = refl
read_one n B Page more sent = refl
read_one n A Accept more sent = refl
read_one n B Accept more sent = refl
read_one n A (End handle) more sent = let low = sent.handle in ap (λ (h : ℕ). End h ∷ orders_by n more) (le16-number handle (0x13 ∷ []) (omega arith))
read_one n B (End handle) more sent = let low = sent.handle in ap (λ (h : ℕ). End h ∷ orders_by n more) (le16-number handle (0x13 ∷ []) (omega arith))
read_one n A (Data handle piece) more sent =
    let is = sent.packet in read_data n (handle + 0x1000 * flag_of piece.boundary) piece.octets more is.0 is.1 ∙ ap (λ (o : Order). o ∷ orders_by n more) (data_is handle piece sent.handle)
read_one n B (Data handle piece) more sent =
    let is = sent.packet in read_data n (handle + 0x1000 * flag_of piece.boundary) piece.octets more is.0 is.1 ∙ ap (λ (o : Order). o ∷ orders_by n more) (data_is handle piece sent.handle)

-- ---- all of them

none_read : (n : ℕ) → orders_by n [] ≡ []
none_read zero = refl
none_read (suc n) = refl

read_all : (n : ℕ) (side : Side) (orders : List Order) → length orders ≤ n → AreSent side orders → orders_by n (order_octets side orders) ≡ orders
read_all n side [] enough sent = none_read n
read_all zero side (order ∷ orders) enough sent = absurd (omega arith)
read_all (suc n) side (order ∷ orders) enough (is, sent) =
    read_one n side order (order_octets side orders) is ∙ ap (λ (l : List Order). order ∷ l) (read_all n side orders (omega arith) sent)

some_octets : (packet : Packet) (more : List ℕ) → suc (length more) ≤ length (spelling packet ++ more)
some_octets (Command opcode params) more = let parts = length-append (le16 opcode ++ length params ∷ params) more in omega (arith, parts)
some_octets (Acl word octets) more = let parts = length-append (le16 word ++ le16 (length octets) ++ octets) more in omega (arith, parts)
some_octets (Sync word octets) more = let parts = length-append (le16 word ++ length octets ∷ octets) more in omega (arith, parts)
some_octets (Event code params) more = let parts = length-append (code ∷ length params ∷ params) more in omega (arith, parts)

enough_octets : (side : Side) (orders : List Order) → length orders ≤ length (order_octets side orders)
enough_octets side [] = omega arith
enough_octets side (order ∷ orders) =
    let rest = enough_octets side orders in
    let some = some_octets (order_packet side order) (order_octets side orders) in
    omega (arith, rest, some)

pub orders_are_read : OrdersAreRead
orders_are_read side orders sent = read_all (length (order_octets side orders)) side orders (enough_octets side orders) sent
