-- A link comes up, and goes down.
use Rattle.std.proofs.Common.{◌≡◌, ℕ, ◌+◌, ◌<◌, ◌&&◌, Bool, true, false, List, [], ◌∷◌, Option, Some, None, if◌then◌else◌, refl, sym, ap, ap₂}
use Rattle.std.proofs.lemmas.Bool.{eq-eqb, lt-ltb}
use Rattle.station_laws.specs.push_terms.specs.declared.word.Side.{Side}
use Rattle.station_laws.specs.push_terms.specs.declared.word.Side.TheVariants.{A, B}
use Rattle.station_laws.specs.push_terms.specs.declared.word.Way.{Way}
use Rattle.station_laws.specs.radio_model.specs.Controllers.{Stated, Called, LinkMade, LinkGone, Controller}
use Rattle.station_laws.specs.radio_model.specs.Radio.{Radio, Apart, Paging, Requested, Together, owes, may_page, after_reaching, parted_by}
use Rattle.station_laws.specs.world_model.specs.Machines.{Up, Down, Linked, Upper}
use Rattle.station_laws.specs.world_model.specs.Pushes.{Pushes}
use Rattle.station_laws.specs.world_model.specs.Stations.{Page, Accept, End, opcode, Station, Asking, Leaving, Commanding, hears_answer, upper_told}
use Rattle.station_laws.specs.world_model.specs.Worlds.{World, Tries, Departure, Answering}
use Rattle.run_laws.proofs.Owning.{Own, own, Hearing, Comes, Goes, goes_none, goes_then, goes_on, goes_a, goes_b}
use Rattle.run_laws.proofs.Speaking.{one_of, station_of, Place}
use Rattle.run_laws.proofs.Calm.{Shape, room, buffers, at_a, at_b, put, calm}

-- ---- it goes down

-- nothing is joined any more
abbrev pub cleared : Shape → Shape
cleared h = record h { joining_a = []; joining_b = [] }

-- a host is still to be told
abbrev pub gone_own : {S : Type 0} → Place → (reason : ℕ) → (ending : Bool) → S → Own S
gone_own p reason ending upper =
    own (record (one_of p.scan p.number true [] []) { owed = LinkGone p.number reason ∷ [] }) (record (station_of upper p.size p.total (Some p.number) p.joining []) { ending = ending })

abbrev left_own : {S : Type 0} → Place → S → Own S
left_own p upper = own (one_of p.scan p.number false [] []) (station_of upper p.size p.total None [] [])

gone_heard : {S G : Type 0} (U : Upper S G) (side : Side) (g : List G) (p : Place) (reason : ℕ) (ending : Bool) (upper : S)
    → hears_answer U g side (LinkGone p.number reason) (gone_own p reason ending upper).station ≡ (left_own p (U.hear g (Linked (Down reason)) upper)).station
gone_heard {S} U side g p reason ending upper =
    let s : Station S = (gone_own p reason ending upper).station in
    ap (λ (b : Bool). record (if b then record s { outstanding = 0; link = None; ending = false; joining = []; pieces = [] } else s) { upper = upper_told U g (if b then Some (Down reason) else None) upper })
    (eq-eqb p.number p.number refl)

tells_gone : {S G : Type 0} (U : Upper S G) (side : Side) (together : Bool) (g : List G) (p : Place) (reason : ℕ) (ending : Bool) (upper : S)
    → Comes U side together p.number (gone_own p reason ending upper) (left_own p (U.hear g (Linked (Down reason)) upper))
tells_gone {S} U side together g p reason ending upper = record {
  motions = Hearing (LinkGone p.number reason) ∷ [];
  runs = (
    left_own p (U.hear g (Linked (Down reason)) upper),
    ([], refl, refl, g, ap (λ (s : Station S). own (one_of p.scan p.number false [] []) s) (sym (gone_heard U side g p reason ending upper))),
    refl,
  );
}

pub both_told :
    {S T G H : Type 0} (U : Upper S G) (V : Upper T H) (h : Shape) (served : Option Way) (pushes : Pushes) (for_a for_b : ℕ) (by_a by_b : Bool) (g : List G) (k : List H) (s : S) (t : T)
    → Goes U V [] (put h served pushes Apart (gone_own (at_a h) for_a by_a s) (gone_own (at_b h) for_b by_b t))
    (calm (cleared h) false served pushes (U.hear g (Linked (Down for_a)) s) [] (V.hear k (Linked (Down for_b)) t) [])
both_told {S} {T} U V h served pushes for_a for_b by_a by_b g k s t =
    let w : World S T = put h served pushes Apart (gone_own (at_a h) for_a by_a s) (gone_own (at_b h) for_b by_b t) in
    let v : World S T = put h served pushes Apart (left_own (at_a h) (U.hear g (Linked (Down for_a)) s)) (gone_own (at_b h) for_b by_b t) in
    goes_then U V [] [] w v _ (goes_a U V w _ _ (tells_gone U A false g (at_a h) for_a by_a s)) (goes_b U V v _ _ (tells_gone V B false k (at_b h) for_b by_b t))

pub a_falls :
    {S T G H : Type 0} (U : Upper S G) (V : Upper T H) (h : Shape) (served : Option Way) (pushes : Pushes) (g : List G) (k : List H) (s : S) (qa : List (List ℕ)) (t : T) (qb : List (List ℕ)) → U.next s ≡ None → U.leaves_link s ≡ true
    → Goes U V [] (calm h true served pushes s qa t qb) (calm (cleared h) false served pushes (U.hear g (Linked (Down 0x16)) s) [] (V.hear k (Linked (Down 0x13)) t) [])
a_falls {S} {T} U V h served pushes g k s qa t qb none leaves =
    let n : ℕ = h.number in
    let host : Station S = station_of s (room h) (buffers h) (Some n) h.joining_a [] in
    let first : World S T = calm h true served pushes s qa t qb in
    let asked : World S T = record first { a = record host { waiting = End n ∷ []; ending = true } } in
    let ordered : World S T = record first { a = record host { awaited = Some (opcode (End n)); ending = true; out = End n ∷ [] } } in
    let mid : Station S = record host { awaited = Some (opcode (End n)); ending = true } in
    let stating : Own S = own (record (one_of 0 n true [] []) { owed = Stated 0x0406 ∷ LinkGone n 0x16 ∷ [] }) mid in
    let parting : World S T = put h served pushes Apart stating (gone_own (at_b h) 0x13 false t) in
    let told : World S T = put h served pushes Apart (gone_own (at_a h) 0x16 true s) (gone_own (at_b h) 0x13 false t) in
    let same = eq-eqb n n refl in
    let radio : Radio = owes A (Stated 0x0406 ∷ []) ordered.radio in
    goes_on U V [] (Tries A Leaving) first asked _ refl
    (asked.a, record { handle = n; link = refl; none_waits = refl; none_next = none; leaves = leaves; unended = refl; none_ends = refl; new_is = refl }, refl)
    (goes_on U V [] (Tries A Commanding) asked ordered _ refl (ordered.a, record { order = End n; rest = []; first = refl; none_awaited = refl; new_is = refl }, refl)
    (goes_on U V [] (Departure A (End n)) ordered parting _ refl
    ([], refl, ap (λ (b : Bool). record ordered { radio = if b then parted_by A radio else radio; a = mid }) (sym (ap₂ (λ (x y : Bool). x && y) same same)))
    (goes_on U V [] (Answering A (Stated 0x0406)) parting told _ refl (LinkGone n 0x16 ∷ [], refl, refl, [], refl)
    (both_told U V h served pushes 0x16 0x13 true false g k s t))))

pub b_falls :
    {S T G H : Type 0} (U : Upper S G) (V : Upper T H) (h : Shape) (served : Option Way) (pushes : Pushes) (g : List G) (k : List H) (s : S) (qa : List (List ℕ)) (t : T) (qb : List (List ℕ)) → V.next t ≡ None → V.leaves_link t ≡ true
    → Goes U V [] (calm h true served pushes s qa t qb) (calm (cleared h) false served pushes (U.hear g (Linked (Down 0x13)) s) [] (V.hear k (Linked (Down 0x16)) t) [])
b_falls {S} {T} U V h served pushes g k s qa t qb none leaves =
    let n : ℕ = h.number in
    let host : Station T = station_of t (room h) (buffers h) (Some n) h.joining_b [] in
    let first : World S T = calm h true served pushes s qa t qb in
    let asked : World S T = record first { b = record host { waiting = End n ∷ []; ending = true } } in
    let ordered : World S T = record first { b = record host { awaited = Some (opcode (End n)); ending = true; out = End n ∷ [] } } in
    let mid : Station T = record host { awaited = Some (opcode (End n)); ending = true } in
    let stating : Own T = own (record (one_of 3 n true [] []) { owed = Stated 0x0406 ∷ LinkGone n 0x16 ∷ [] }) mid in
    let parting : World S T = put h served pushes Apart (gone_own (at_a h) 0x13 false s) stating in
    let told : World S T = put h served pushes Apart (gone_own (at_a h) 0x13 false s) (gone_own (at_b h) 0x16 true t) in
    let same = eq-eqb n n refl in
    let radio : Radio = owes B (Stated 0x0406 ∷ []) ordered.radio in
    goes_on U V [] (Tries B Leaving) first asked _ refl
    (asked.b, record { handle = n; link = refl; none_waits = refl; none_next = none; leaves = leaves; unended = refl; none_ends = refl; new_is = refl }, refl)
    (goes_on U V [] (Tries B Commanding) asked ordered _ refl (ordered.b, record { order = End n; rest = []; first = refl; none_awaited = refl; new_is = refl }, refl)
    (goes_on U V [] (Departure B (End n)) ordered parting _ refl
    ([], refl, ap (λ (b : Bool). record ordered { radio = if b then parted_by B radio else radio; b = mid }) (sym (ap₂ (λ (x y : Bool). x && y) same same)))
    (goes_on U V [] (Answering B (Stated 0x0406)) parting told _ refl (LinkGone n 0x16 ∷ [], refl, refl, [], refl)
    (both_told U V h served pushes 0x13 0x16 false true g k s t))))

-- ---- it comes up

-- one link more, on which nothing is joined yet
abbrev pub linked : Shape → Shape
linked h = record h { number = h.number + 1; joining_a = []; joining_b = [] }

pub it_rises :
    {S T G H : Type 0} (U : Upper S G) (V : Upper T H) (h : Shape) (served : Option Way) (pushes : Pushes) (g : List G) (k : List H) (s : S) (t : T) → h.number < 0x0EFF → U.wants_link s ≡ true
    → Goes U V [] (calm h false served pushes s [] t []) (calm (linked h) true served pushes (U.hear g (Linked Up) s) [] (V.hear k (Linked Up) t) [])
it_rises {S} {T} U V h served pushes g k s t room_left wants =
    let n : ℕ = h.number in
    let sa : Station S = station_of s (room h) (buffers h) None h.joining_a [] in
    let sb : Station T = station_of t (room h) (buffers h) None h.joining_b [] in
    let one : Controller = one_of 0 n false [] [] in
    let two : Controller = one_of 3 n false [] [] in
    let paging : Station S = record sa { awaited = Some (opcode Page); asked = true } in
    let asked : Station S = record sa { asked = true } in
    let accepting : Station T = record sb { awaited = Some (opcode Accept); asked = true } in
    let first : World S T = calm h false served pushes s [] t [] in
    let wanted : World S T = put h served pushes Apart (own one (record sa { waiting = Page ∷ [] })) (own two sb) in
    let ordered : World S T = put h served pushes Apart (own one (record paging { out = Page ∷ [] })) (own two sb) in
    let paged : World S T = put h served pushes Requested (own (record one { owed = Stated 0x0405 ∷ [] }) paging) (own (record two { owed = Called ∷ [] }) sb) in
    let stated : World S T = put h served pushes Requested (own one asked) (own (record two { owed = Called ∷ [] }) sb) in
    let called : World S T = put h served pushes Requested (own one asked) (own two (record sb { waiting = Accept ∷ [] })) in
    let takes : World S T = put h served pushes Requested (own one asked) (own two (record accepting { out = Accept ∷ [] })) in
    let made : ℕ → World S T = λ m. put (record h { number = m }) served pushes Together (own (record one { owed = LinkMade m ∷ [] }) asked) (own (record two { owed = Stated 0x0409 ∷ LinkMade m ∷ [] }) accepting) in
    let knows : World S T = put (record h { number = n + 1 }) served pushes Together (own (record one { owed = LinkMade (n + 1) ∷ [] }) asked) (own (record two { owed = LinkMade (n + 1) ∷ [] }) (record sb { asked = true })) in
    let b_told : World S T = put (record h { number = n + 1 }) served pushes Together (own (record one { owed = LinkMade (n + 1) ∷ [] }) asked)
    (own (one_of 3 (n + 1) true [] []) (station_of (V.hear k (Linked Up) t) (room h) (buffers h) (Some (n + 1)) [] [])) in
    let radio : Radio = owes A (Stated 0x0405 ∷ []) ordered.radio in
    let same = eq-eqb n n refl in
    let may : may_page radio ≡ true = ap₂ (λ (x y : Bool). x && y) same (ap₂ (λ (x y : Bool). x && y) same (lt-ltb n 0x0EFF room_left)) in
    goes_on U V [] (Tries A Asking) first wanted _ refl (wanted.a, record { wants = wants; off = refl; unasked = refl; none_waits = refl; new_is = refl }, refl)
    (goes_on U V [] (Tries A Commanding) wanted ordered _ refl (ordered.a, record { order = Page; rest = []; first = refl; none_awaited = refl; new_is = refl }, refl)
    (goes_on U V [] (Departure A Page) ordered paged _ refl ([], refl, ap (λ (b : Bool). record ordered { radio = if b then after_reaching (record radio { phase = Paging }) else radio; a = paging }) (sym may))
    (goes_on U V [] (Answering A (Stated 0x0405)) paged stated _ refl ([], refl, refl, [], refl)
    (goes_on U V [] (Answering B Called) stated called _ refl ([], refl, refl, [], refl)
    (goes_on U V [] (Tries B Commanding) called takes _ refl (takes.b, record { order = Accept; rest = []; first = refl; none_awaited = refl; new_is = refl }, refl)
    (goes_on U V [] (Departure B Accept) takes (made (n + 1)) _ refl ([], refl, refl)
    (goes_on U V [] (Answering B (Stated 0x0409)) (made (n + 1)) knows _ refl (LinkMade (n + 1) ∷ [], refl, refl, [], refl)
    (goes_on U V [] (Answering B (LinkMade (n + 1))) knows b_told _ refl ([], refl, refl, k, refl)
    (goes_on U V [] (Answering A (LinkMade (n + 1))) b_told _ _ refl ([], refl, refl, g, refl)
    (goes_none U V (calm (linked h) true served pushes (U.hear g (Linked Up) s) [] (V.hear k (Linked Up) t) [])))))))))))
