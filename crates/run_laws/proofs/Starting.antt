-- Both hosts start: their commands are answered, and they learn of the buffers.
use Rattle.std.proofs.Common.{◌≡◌, ℕ, ◌<◌, ◌^◌, nat_le, min, Bool, false, List, [], ◌∷◌, ◌++◌, drop, Some, None, if◌then◌else◌, refl, sym, ap, ap₂, ◌∙◌}
use Rattle.std.proofs.lemmas.Bool.{le-leb}
use Rattle.byteorder.specs.Endian.{little_number}
use Rattle.station_laws.specs.bt_base.specs.Octets.{le16}
use Rattle.station_laws.specs.bt_base.proofs.OctetLemmas.{le16-number}
use Rattle.station_laws.specs.push_terms.specs.declared.word.Side.TheVariants.{A, B}
use Rattle.station_laws.specs.radio_model.specs.Controllers.{Returned, address}
use Rattle.station_laws.specs.radio_model.specs.Radio.{Apart}
use Rattle.station_laws.specs.world_model.specs.Machines.{Upper}
use Rattle.station_laws.specs.world_model.specs.Pushes.{Pushes, no_pushes}
use Rattle.station_laws.specs.world_model.specs.Stations.{Order, ReadBuffers, ReadAddress, Scan, opcode, Station, Commanding, learns}
use Rattle.station_laws.specs.world_model.specs.Stations as orders
use Rattle.station_laws.specs.world_model.specs.Worlds.{World, Tries, Departure, Answering, first_world}
use Rattle.station_laws.specs.WorldLaws.{AreSizes}
use Rattle.run_laws.proofs.Owning.{Own, own, Goes, goes_none, goes_then, goes_on}
use Rattle.run_laws.proofs.Speaking.{one_of, station_of}
use Rattle.run_laws.proofs.Calm.{Shape, room, buffers, put, calm}

-- ---- what Read Buffer Size returns

abbrev sizes_of : (size count : ℕ) → List ℕ
sizes_of size count = 0 ∷ (le16 size ++ (0 ∷ (le16 count ++ le16 0)))

size_read : (size count : ℕ) → size < 2 ^ 16 → little_number 2 (drop 1 (sizes_of size count)) ≡ size
size_read size count fits = le16-number size (0 ∷ (le16 count ++ le16 0)) fits

count_read : (size count : ℕ) → count < 2 ^ 16 → little_number 2 (drop 4 (sizes_of size count)) ≡ count
count_read size count fits = le16-number count (le16 0) fits

abbrev fresh : {S : Type 0} → S → (size total : ℕ) → List Order → Station S
fresh s size total waiting = record (station_of s size total None [] []) { waiting = waiting }

learnt : {S : Type 0} (h : Shape) (s : S) (waiting : List Order) → AreSizes h.size h.count → learns (sizes_of h.size h.count) (fresh s 27 0 waiting) ≡ fresh s (room h) (buffers h) waiting
learnt {S} h s waiting sizes =
    let old : Station S = fresh s 27 0 waiting in
    let new : (m k : ℕ) → Station S = λ m k. record old { size = min m 1021; total = min k 64 } in
    ap₂ (λ (m k : ℕ). if nat_le 27 m then new m k else old) (size_read h.size h.count sizes.size_fits) (count_read h.size h.count sizes.count_fits)
    ∙ ap (λ (b : Bool). if b then new h.size h.count else old) (le-leb 27 h.size sizes.long)

-- ---- the start

abbrev pub begun : (size count : ℕ) → Shape
begun size count = record { size = size; count = count; number = 0; turned = 0; joining_a = []; joining_b = [] }

abbrev both : {S T : Type 0} → Shape → Pushes → Own S → Own T → World S T
both h pushes a b = put h None pushes Apart a b

a_starts :
    {S T G H : Type 0} (U : Upper S G) (V : Upper T H) (h : Shape) (pushes : Pushes) (s : S) (t : T) (other : Own T) → AreSizes h.size h.count
    → Goes U V [] (both h pushes (own (one_of 0 0 false [] []) (fresh s 27 0 (orders.Reset ∷ ReadBuffers ∷ ReadAddress ∷ []))) other) (both h pushes (own (one_of 0 0 false [] []) (station_of s (room h) (buffers h) None [] [])) other)
a_starts {S} {T} U V h pushes s t other sizes =
    let w0 : World S T = both h pushes (own (one_of 0 0 false [] []) (fresh s 27 0 (orders.Reset ∷ ReadBuffers ∷ ReadAddress ∷ []))) other in
    let o0 : World S T = both h pushes (own (one_of 0 0 false [] []) (record (fresh s 27 0 (ReadBuffers ∷ ReadAddress ∷ [])) { awaited = Some (opcode orders.Reset); out = orders.Reset ∷ [] })) other in
    let q0 : World S T = both h pushes (own (record (one_of 0 0 false [] []) { owed = Returned 0x0C03 (0 ∷ []) ∷ [] }) (record (fresh s 27 0 (ReadBuffers ∷ ReadAddress ∷ [])) { awaited = Some (opcode orders.Reset) })) other in
    let d0 : World S T = both h pushes (own (one_of 0 0 false [] []) (fresh s 27 0 (ReadBuffers ∷ ReadAddress ∷ []))) other in
    let o1 : World S T = both h pushes (own (one_of 0 0 false [] []) (record (fresh s 27 0 (ReadAddress ∷ [])) { awaited = Some (opcode ReadBuffers); out = ReadBuffers ∷ [] })) other in
    let q1 : World S T = both h pushes (own (record (one_of 0 0 false [] []) { owed = Returned 0x1005 (sizes_of h.size h.count) ∷ [] }) (record (fresh s 27 0 (ReadAddress ∷ [])) { awaited = Some (opcode ReadBuffers) })) other in
    let d1 : World S T = both h pushes (own (one_of 0 0 false [] []) (fresh s (room h) (buffers h) (ReadAddress ∷ []))) other in
    let o2 : World S T = both h pushes (own (one_of 0 0 false [] []) (record (fresh s (room h) (buffers h) []) { awaited = Some (opcode ReadAddress); out = ReadAddress ∷ [] })) other in
    let q2 : World S T = both h pushes (own (record (one_of 0 0 false [] []) { owed = Returned 0x1009 (0 ∷ address A) ∷ [] }) (record (fresh s (room h) (buffers h) []) { awaited = Some (opcode ReadAddress) })) other in
    let d2 : World S T = both h pushes (own (one_of 0 0 false [] []) (fresh s (room h) (buffers h) [])) other in
    goes_on U V [] (Tries A Commanding) w0 o0 _ refl (o0.a, record { order = orders.Reset; rest = (ReadBuffers ∷ ReadAddress ∷ []); first = refl; none_awaited = refl; new_is = refl }, refl)
    (goes_on U V [] (Departure A orders.Reset) o0 q0 _ refl ([], refl, refl)
    (goes_on U V [] (Answering A (Returned 0x0C03 (0 ∷ []))) q0 d0 _ refl ([], refl, refl, [], refl)
    (goes_on U V [] (Tries A Commanding) d0 o1 _ refl (o1.a, record { order = ReadBuffers; rest = (ReadAddress ∷ []); first = refl; none_awaited = refl; new_is = refl }, refl)
    (goes_on U V [] (Departure A ReadBuffers) o1 q1 _ refl ([], refl, refl)
    (goes_on U V [] (Answering A (Returned 0x1005 (sizes_of h.size h.count))) q1 d1 _ refl ([], refl, refl, [], ap (λ (x : Station S). record d1 { a = record x { upper = s } }) (sym (learnt h s (ReadAddress ∷ []) sizes)))
    (goes_on U V [] (Tries A Commanding) d1 o2 _ refl (o2.a, record { order = ReadAddress; rest = []; first = refl; none_awaited = refl; new_is = refl }, refl)
    (goes_on U V [] (Departure A ReadAddress) o2 q2 _ refl ([], refl, refl)
    (goes_on U V [] (Answering A (Returned 0x1009 (0 ∷ address A))) q2 d2 _ refl ([], refl, refl, [], refl)
    (goes_none U V d2)))))))))

b_starts :
    {S T G H : Type 0} (U : Upper S G) (V : Upper T H) (h : Shape) (pushes : Pushes) (s : S) (t : T) (other : Own S) → AreSizes h.size h.count
    → Goes U V [] (both h pushes other (own (one_of 0 0 false [] []) (fresh t 27 0 (orders.Reset ∷ ReadBuffers ∷ ReadAddress ∷ Scan ∷ [])))) (both h pushes other (own (one_of 3 0 false [] []) (station_of t (room h) (buffers h) None [] [])))
b_starts {S} {T} U V h pushes s t other sizes =
    let w0 : World S T = both h pushes other (own (one_of 0 0 false [] []) (fresh t 27 0 (orders.Reset ∷ ReadBuffers ∷ ReadAddress ∷ Scan ∷ []))) in
    let o0 : World S T = both h pushes other (own (one_of 0 0 false [] []) (record (fresh t 27 0 (ReadBuffers ∷ ReadAddress ∷ Scan ∷ [])) { awaited = Some (opcode orders.Reset); out = orders.Reset ∷ [] })) in
    let q0 : World S T = both h pushes other (own (record (one_of 0 0 false [] []) { owed = Returned 0x0C03 (0 ∷ []) ∷ [] }) (record (fresh t 27 0 (ReadBuffers ∷ ReadAddress ∷ Scan ∷ [])) { awaited = Some (opcode orders.Reset) })) in
    let d0 : World S T = both h pushes other (own (one_of 0 0 false [] []) (fresh t 27 0 (ReadBuffers ∷ ReadAddress ∷ Scan ∷ []))) in
    let o1 : World S T = both h pushes other (own (one_of 0 0 false [] []) (record (fresh t 27 0 (ReadAddress ∷ Scan ∷ [])) { awaited = Some (opcode ReadBuffers); out = ReadBuffers ∷ [] })) in
    let q1 : World S T = both h pushes other (own (record (one_of 0 0 false [] []) { owed = Returned 0x1005 (sizes_of h.size h.count) ∷ [] }) (record (fresh t 27 0 (ReadAddress ∷ Scan ∷ [])) { awaited = Some (opcode ReadBuffers) })) in
    let d1 : World S T = both h pushes other (own (one_of 0 0 false [] []) (fresh t (room h) (buffers h) (ReadAddress ∷ Scan ∷ []))) in
    let o2 : World S T = both h pushes other (own (one_of 0 0 false [] []) (record (fresh t (room h) (buffers h) (Scan ∷ [])) { awaited = Some (opcode ReadAddress); out = ReadAddress ∷ [] })) in
    let q2 : World S T = both h pushes other (own (record (one_of 0 0 false [] []) { owed = Returned 0x1009 (0 ∷ address B) ∷ [] }) (record (fresh t (room h) (buffers h) (Scan ∷ [])) { awaited = Some (opcode ReadAddress) })) in
    let d2 : World S T = both h pushes other (own (one_of 0 0 false [] []) (fresh t (room h) (buffers h) (Scan ∷ []))) in
    let o3 : World S T = both h pushes other (own (one_of 0 0 false [] []) (record (fresh t (room h) (buffers h) []) { awaited = Some (opcode Scan); out = Scan ∷ [] })) in
    let q3 : World S T = both h pushes other (own (record (one_of 3 0 false [] []) { owed = Returned 0x0C1A (0 ∷ []) ∷ [] }) (record (fresh t (room h) (buffers h) []) { awaited = Some (opcode Scan) })) in
    let d3 : World S T = both h pushes other (own (one_of 3 0 false [] []) (fresh t (room h) (buffers h) [])) in
    goes_on U V [] (Tries B Commanding) w0 o0 _ refl (o0.b, record { order = orders.Reset; rest = (ReadBuffers ∷ ReadAddress ∷ Scan ∷ []); first = refl; none_awaited = refl; new_is = refl }, refl)
    (goes_on U V [] (Departure B orders.Reset) o0 q0 _ refl ([], refl, refl)
    (goes_on U V [] (Answering B (Returned 0x0C03 (0 ∷ []))) q0 d0 _ refl ([], refl, refl, [], refl)
    (goes_on U V [] (Tries B Commanding) d0 o1 _ refl (o1.b, record { order = ReadBuffers; rest = (ReadAddress ∷ Scan ∷ []); first = refl; none_awaited = refl; new_is = refl }, refl)
    (goes_on U V [] (Departure B ReadBuffers) o1 q1 _ refl ([], refl, refl)
    (goes_on U V [] (Answering B (Returned 0x1005 (sizes_of h.size h.count))) q1 d1 _ refl ([], refl, refl, [], ap (λ (x : Station T). record d1 { b = record x { upper = t } }) (sym (learnt h t (ReadAddress ∷ Scan ∷ []) sizes)))
    (goes_on U V [] (Tries B Commanding) d1 o2 _ refl (o2.b, record { order = ReadAddress; rest = (Scan ∷ []); first = refl; none_awaited = refl; new_is = refl }, refl)
    (goes_on U V [] (Departure B ReadAddress) o2 q2 _ refl ([], refl, refl)
    (goes_on U V [] (Answering B (Returned 0x1009 (0 ∷ address B))) q2 d2 _ refl ([], refl, refl, [], refl)
    (goes_on U V [] (Tries B Commanding) d2 o3 _ refl (o3.b, record { order = Scan; rest = []; first = refl; none_awaited = refl; new_is = refl }, refl)
    (goes_on U V [] (Departure B Scan) o3 q3 _ refl ([], refl, refl)
    (goes_on U V [] (Answering B (Returned 0x0C1A (0 ∷ []))) q3 d3 _ refl ([], refl, refl, [], refl)
    (goes_none U V d3))))))))))))

pub it_starts :
    {S T G H : Type 0} (U : Upper S G) (V : Upper T H) (size count : ℕ) (names : List (List ℕ)) → AreSizes size count
    → Goes U V [] (first_world U V size count names) (calm (begun size count) false None (no_pushes names) U.first [] V.first [])
it_starts U V size count names sizes =
    let h : Shape = begun size count in
    goes_then U V [] [] (first_world U V size count names) _ (calm h false None (no_pushes names) U.first [] V.first [])
    (a_starts U V h (no_pushes names) U.first V.first (own (one_of 0 0 false [] []) (fresh V.first 27 0 (orders.Reset ∷ ReadBuffers ∷ ReadAddress ∷ Scan ∷ []))) sizes)
    (b_starts U V h (no_pushes names) U.first V.first (own (one_of 0 0 false [] []) (station_of U.first (room h) (buffers h) None [] [])) sizes)
