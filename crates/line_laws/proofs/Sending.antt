-- A host puts out packets that can be written, whatever it makes of itself and of what comes to it.
use Rattle.std.proofs.Common.{◌≡◌, ℕ, zero, suc, ◌-◌, ◌/◌, ◌%◌, ◌≤◌, ◌==◌, ◌&&◌, nat_le, nat_lt, is_none, min, Bool, true, false, List, [], ◌∷◌, ◌++◌, length, drop, Some, None, if◌then◌else◌, refl, sym, subst, arith}
use Rattle.std.specs.List.{AllByRecursion}
use Rattle.std.proofs.Math.Nat.{min-le_right}
use Rattle.std.proofs.lemmas.Bool.{ltb-true}
use Rattle.std.proofs.lemmas.List.{length-take}
use Rattle.byteorder.specs.Endian.{little_number}
use Rattle.radio_world.specs.bt_base.specs.Octets.{IsOctets, le16}
use Rattle.radio_world.specs.h4_framing.proofs.OctetLists.{IsOctets-cons, IsOctets-drop, IsOctets-nil, IsOctets-take}
use Rattle.radio_world.specs.hci_packets.specs.declared.acl.Boundary.{Boundary}
use Rattle.radio_world.specs.hci_packets.specs.declared.acl.Boundary.TheVariants.{First, Continuing, FirstFromController}
use Rattle.radio_world.specs.hci_packets.specs.AclWords.{flag_of}
use Rattle.radio_world.specs.hci_packets.specs.Commands.{command_params}
use Rattle.radio_world.specs.acl_fragments.specs.Pieces.{Piece}
use Rattle.radio_world.specs.acl_fragments.specs.Cuts.{first_pieces}
use Rattle.radio_world.specs.push_terms.specs.declared.word.Side.{Side}
use Rattle.radio_world.specs.push_terms.specs.declared.word.Side.TheVariants.{A, B}
use Rattle.radio_world.specs.radio_model.specs.Controllers.{Answer, Returned, Stated, Called, LinkMade, LinkGone, GivenBack}
use Rattle.radio_world.specs.world_model.specs.Machines.{Upper}
use Rattle.radio_world.specs.world_model.specs.Stations.{Order, ReadBuffers, ReadAddress, Scan, Page, Accept, End, Data, Station, Effort, Taking, Putting, Asking, Leaving, Commanding, MakesEffort, command_of, first_station, learns, may_accept, is_handle, hears_answer, hears_piece}
use Rattle.radio_world.specs.world_model.specs.Stations as orders
use Rattle.radio_world.specs.station_laws.specs.Coming.{MayCome}
use Rattle.radio_world.specs.station_laws.specs.Striving.{Makes}
use Rattle.radio_world.specs.Hosts.{IsSent}
use Rattle.line_laws.specs.Seeing.{SaysOctets, IsCarried, MaySend}

-- ---- orders

abbrev all_octets : List ℕ → Bool
all_octets [] = true
all_octets (x ∷ xs) = nat_lt x 256 && all_octets xs

first_true : (a b : Bool) → (a && b) ≡ true → a ≡ true
first_true true b is = refl
first_true false b is = cc

rest_true : (a b : Bool) → (a && b) ≡ true → b ≡ true
rest_true true b is = is
rest_true false b is = cc

octets_by : (xs : List ℕ) → all_octets xs ≡ true → IsOctets xs
octets_by [] is = IsOctets-nil
octets_by (x ∷ xs) is = IsOctets-cons x xs (ltb-true x 256 (first_true (nat_lt x 256) (all_octets xs) is)) (octets_by xs (rest_true (nat_lt x 256) (all_octets xs) is))

le16_octets : (n : ℕ) (more : List ℕ) → IsOctets more → IsOctets (le16 n ++ more)
le16_octets n more is = IsOctets-cons (n % 256) ((n / 256) % 256 ∷ more) (omega arith) (IsOctets-cons ((n / 256) % 256) more (omega arith) is)

plain_sent : (side : Side) → IsSent side orders.Reset × IsSent side ReadBuffers × IsSent side ReadAddress × IsSent side Scan × IsSent side Page × IsSent side Accept
plain_sent A = (
  record { packet = (omega arith, omega arith, octets_by (command_params (command_of A orders.Reset)) refl); handle = omega arith },
  record { packet = (omega arith, omega arith, octets_by (command_params (command_of A ReadBuffers)) refl); handle = omega arith },
  record { packet = (omega arith, omega arith, octets_by (command_params (command_of A ReadAddress)) refl); handle = omega arith },
  record { packet = (omega arith, omega arith, octets_by (command_params (command_of A Scan)) refl); handle = omega arith },
  record { packet = (omega arith, omega arith, octets_by (command_params (command_of A Page)) refl); handle = omega arith },
  record { packet = (omega arith, omega arith, octets_by (command_params (command_of A Accept)) refl); handle = omega arith },
)
plain_sent B = (
  record { packet = (omega arith, omega arith, octets_by (command_params (command_of B orders.Reset)) refl); handle = omega arith },
  record { packet = (omega arith, omega arith, octets_by (command_params (command_of B ReadBuffers)) refl); handle = omega arith },
  record { packet = (omega arith, omega arith, octets_by (command_params (command_of B ReadAddress)) refl); handle = omega arith },
  record { packet = (omega arith, omega arith, octets_by (command_params (command_of B Scan)) refl); handle = omega arith },
  record { packet = (omega arith, omega arith, octets_by (command_params (command_of B Page)) refl); handle = omega arith },
  record { packet = (omega arith, omega arith, octets_by (command_params (command_of B Accept)) refl); handle = omega arith },
)

end_sent : (side : Side) (handle : ℕ) → handle ≤ 0x0EFF → IsSent side (End handle)
end_sent A handle low = record { packet = (omega arith, omega arith, le16_octets handle (0x13 ∷ []) (octets_by (0x13 ∷ []) refl)); handle = low }
end_sent B handle low = record { packet = (omega arith, omega arith, le16_octets handle (0x13 ∷ []) (octets_by (0x13 ∷ []) refl)); handle = low }

flag_low : (boundary : Boundary) → flag_of boundary ≤ 2
flag_low First = omega arith
flag_low Continuing = omega arith
flag_low FirstFromController = omega arith

data_sent : (side : Side) (handle : ℕ) (piece : Piece) → handle ≤ 0x0EFF → IsCarried piece → IsSent side (Data handle piece)
data_sent A handle piece low carried = let flag = flag_low piece.boundary in let short = carried.short in record { packet = (omega arith, omega arith, short, carried.octets); handle = low }
data_sent B handle piece low carried = let flag = flag_low piece.boundary in let short = carried.short in record { packet = (omega arith, omega arith, short, carried.octets); handle = low }

one_more : {X : Type 0} (P : X → Type 0) (xs : List X) (x : X) → AllByRecursion P xs → P x → AllByRecursion P (xs ++ x ∷ [])
one_more P [] x all is = (is, tt)
one_more P (y ∷ xs) x (first, all) is = (first, one_more P xs x all is)

-- ---- pieces

cut_carried : (n size : ℕ) (boundary : Boundary) (octets : List ℕ) → size ≤ 1021 → IsOctets octets → AllByRecursion IsCarried (first_pieces n size boundary octets)
cut_carried zero size boundary octets short is = tt
cut_carried (suc n) size boundary [] short is = tt
cut_carried (suc n) size boundary (x ∷ xs) short is =
    let few = length-take size (x ∷ xs) in
    (record { octets = IsOctets-take size (x ∷ xs) is; short = omega (arith, few) }, cut_carried n size Continuing (drop size (x ∷ xs)) short (IsOctets-drop size (x ∷ xs) is))

-- ---- what it does by itself

effort_keeps : {S G : Type 0} (U : Upper S G) (side : Side) (effort : Effort) (old new : Station S) → SaysOctets U → MakesEffort U side effort old new → MaySend side old → MaySend side new
effort_keeps {S} U side Taking old new octets does sends =
    subst (λ (s : Station S). MaySend side s) (sym does.new_is)
    (record { out = sends.out; waiting = sends.waiting; pieces = cut_carried (length does.pdu) old.size First does.pdu sends.size (octets old.upper does.pdu does.after does.next); link = sends.link; size = sends.size })
effort_keeps {S} U side Putting old new octets does sends =
    let pieces = subst (AllByRecursion IsCarried) does.first sends.pieces in
    subst (λ (s : Station S). MaySend side s) (sym does.new_is)
    (record { out = one_more (IsSent side) old.out (Data does.handle does.piece) sends.out (data_sent side does.handle does.piece (sends.link does.handle does.link) pieces.0); waiting = sends.waiting; pieces = pieces.1; link = sends.link; size = sends.size })
effort_keeps {S} U A Asking old new octets does sends =
    subst (λ (s : Station S). MaySend A s) (sym does.new_is)
    (record { out = sends.out; waiting = one_more (IsSent A) old.waiting Page sends.waiting (plain_sent A).4; pieces = sends.pieces; link = sends.link; size = sends.size })
effort_keeps U B Asking old new octets does sends = absurd does
effort_keeps {S} U side Leaving old new octets does sends =
    subst (λ (s : Station S). MaySend side s) (sym does.new_is)
    (record { out = sends.out; waiting = one_more (IsSent side) old.waiting (End does.handle) sends.waiting (end_sent side does.handle (sends.link does.handle does.link)); pieces = sends.pieces; link = sends.link; size = sends.size })
effort_keeps {S} U side Commanding old new octets does sends =
    let waiting = subst (AllByRecursion (IsSent side)) does.first sends.waiting in
    subst (λ (s : Station S). MaySend side s) (sym does.new_is)
    (record { out = one_more (IsSent side) old.out does.order sends.out waiting.0; waiting = waiting.1; pieces = sends.pieces; link = sends.link; size = sends.size })

pub efforts_keep : {S G : Type 0} (U : Upper S G) (side : Side) (efforts : List Effort) (old new : Station S) → SaysOctets U → Makes U side efforts old new → MaySend side old → MaySend side new
efforts_keep {S} U side [] old new octets makes sends = subst (λ (s : Station S). MaySend side s) (sym makes) sends
efforts_keep U side (effort ∷ efforts) old new octets (mid, does, makes) sends = efforts_keep U side efforts mid new octets makes (effort_keeps U side effort old mid octets does sends)

pub first_sends : {S G : Type 0} (U : Upper S G) (side : Side) → MaySend side (first_station U side)
first_sends U A = record { out = tt; waiting = ((plain_sent A).0, ((plain_sent A).1, ((plain_sent A).2, tt))); pieces = tt; link = λ handle is. cc; size = omega arith }
first_sends U B = record { out = tt; waiting = ((plain_sent B).0, ((plain_sent B).1, ((plain_sent B).2, ((plain_sent B).3, tt)))); pieces = tt; link = λ handle is. cc; size = omega arith }

-- ---- what comes to it

told_sends : {S : Type 0} (side : Side) (station : Station S) (upper : S) → MaySend side station → MaySend side (record station { upper = upper })
told_sends side station upper sends = record { out = sends.out; waiting = sends.waiting; pieces = sends.pieces; link = sends.link; size = sends.size }

if_sends : {S : Type 0} (side : Side) (b : Bool) (one two : Station S) → MaySend side one → MaySend side two → MaySend side (if b then one else two)
if_sends side true one two first second = first
if_sends side false one two first second = second

some_low : (handle other : ℕ) → handle ≤ 0x0EFF → Some handle ≡ Some other → other ≤ 0x0EFF
some_low handle other low is = let same : handle ≡ other = cc in omega (arith, same, low)

learns_sends : {S : Type 0} (side : Side) (params : List ℕ) (station : Station S) → MaySend side station → MaySend side (learns params station)
learns_sends side params station sends =
    if_sends side (is_none station.link && nat_le 27 (little_number 2 (drop 1 params))) (record station { size = min (little_number 2 (drop 1 params)) 1021; total = min (little_number 2 (drop 4 params)) 64 }) station
    (record { out = sends.out; waiting = sends.waiting; pieces = sends.pieces; link = sends.link; size = min-le_right (little_number 2 (drop 1 params)) 1021 }) sends

after_sends : {S : Type 0} (side : Side) (answer : Answer) (station : Station S) → MayCome station.awaited answer → MaySend side station → MaySend side (orders.after_answer side answer station)
after_sends {S} side (Returned number params) station may sends =
    let answered : Station S = record station { awaited = orders.answered number station.awaited } in
    let plain : MaySend side answered = record { out = sends.out; waiting = sends.waiting; pieces = sends.pieces; link = sends.link; size = sends.size } in
    if_sends side (number == 0x1005) (learns params answered) answered (learns_sends side params answered plain) plain
after_sends side (Stated number) station may sends = record { out = sends.out; waiting = sends.waiting; pieces = sends.pieces; link = sends.link; size = sends.size }
after_sends side Called station may sends =
    if_sends side (may_accept side station) (record station { waiting = station.waiting ++ Accept ∷ [] }) station
    (record { out = sends.out; waiting = one_more (IsSent side) station.waiting Accept sends.waiting (plain_sent side).5; pieces = sends.pieces; link = sends.link; size = sends.size }) sends
after_sends {S} side (LinkMade handle) station may sends =
    let made : Station S = record station { asked = false; link = Some handle; ending = false; joining = [] } in
    let kept : Station S = record station { asked = false } in
    if_sends side station.asked (if is_none station.link then made else kept) station
    (if_sends side (is_none station.link) made kept
    (record { out = sends.out; waiting = sends.waiting; pieces = sends.pieces; link = λ other is. some_low handle other may is; size = sends.size })
    (record { out = sends.out; waiting = sends.waiting; pieces = sends.pieces; link = sends.link; size = sends.size })) sends
after_sends side (LinkGone handle reason) station may sends =
    if_sends side (is_handle handle station.link) (record station { outstanding = 0; link = None; ending = false; joining = []; pieces = [] }) station
    (record { out = sends.out; waiting = sends.waiting; pieces = tt; link = λ other is. cc; size = sends.size }) sends
after_sends side (GivenBack handle count) station may sends =
    if_sends side (is_handle handle station.link && nat_le count station.outstanding) (record station { outstanding = station.outstanding - count }) station
    (record { out = sends.out; waiting = sends.waiting; pieces = sends.pieces; link = sends.link; size = sends.size }) sends

pub answer_sends : {S G : Type 0} (U : Upper S G) (side : Side) (answers : List G) (answer : Answer) (station : Station S) → MayCome station.awaited answer → MaySend side station → MaySend side (hears_answer U answers side answer station)
answer_sends U side answers answer station may sends = told_sends side (orders.after_answer side answer station) _ (after_sends side answer station may sends)

pub piece_sends : {S G : Type 0} (U : Upper S G) (side : Side) (answers : List G) (handle : ℕ) (piece : Piece) (station : Station S) → MaySend side station → MaySend side (hears_piece U answers handle piece station)
piece_sends U side answers handle piece station sends =
    if_sends side (is_handle handle station.link) (record station { upper = _; joining = _ }) station
    (record { out = sends.out; waiting = sends.waiting; pieces = sends.pieces; link = sends.link; size = sends.size }) sends
