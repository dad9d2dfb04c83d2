-- Orders that move lower what is left to happen: a link that goes on in its life weighs more than what both hosts are told.
use Rattle.std.proofs.Common.{◌≡◌, ℕ, ◌+◌, ◌-◌, ◌*◌, ◌<◌, ◌≤◌, ◌==◌, ◌&&◌, nat_le, Bool, true, false, List, [], ◌∷◌, ◌++◌, if◌then◌else◌, refl, sym, ap, ap₂, subst, arith, mul-le-mul_left}
use Rattle.rest_laws.specs.bt_base.specs.Octets.{le16}
use Rattle.rest_laws.specs.push_terms.specs.declared.word.Side.{Side}
use Rattle.rest_laws.specs.push_terms.specs.declared.word.Side.TheVariants.{A, B}
use Rattle.rest_laws.specs.radio_model.specs.Controllers.{Answer, Returned, Stated, Called, LinkMade, LinkGone, address, Controller, owing}
use Rattle.rest_laws.specs.radio_model.specs.Radio.{Radio, Phase, Apart, Paging, Requested, is_paging, is_requested, is_together, owes, after_reaching, joined, parted, knows_link}
use Rattle.rest_laws.specs.world_model.specs.Machines.{Upper}
use Rattle.rest_laws.specs.world_model.specs.Pushes.{Pushes}
use Rattle.rest_laws.specs.world_model.specs.Stations.{Order, Reset, ReadBuffers, ReadAddress, Scan, Page, Accept, End, Data, Station}
use Rattle.rest_laws.specs.world_model.specs.Worlds.{piece_on, after_order}
use Rattle.rest_laws.specs.turn_laws.specs.Premises.{Idles}
use Rattle.rest_laws.specs.turn_laws.proofs.Wiring.{asking, count}
use Rattle.rest_laws.specs.turn_laws.proofs.Keeping.{calling, Kept}
use Rattle.rest_laws.proofs.Living.{own_first}
use Rattle.rest_laws.proofs.Calling.{requested_is}
use Rattle.rest_laws.proofs.Lively.{Lively, fresh_of, together_is}
use Rattle.rest_laws.proofs.Departing.{apart_is, fresh_pages, going_of, paging_is, and_true}
use Rattle.rest_laws.proofs.Heights.{phase_height, pushes_height, links_height}
use Rattle.settling_laws.specs.Weights.{tiding_weight, link_weight, push_weight, answer_weight, owed_weight, side_weight, weight_at}
use Rattle.settling_laws.proofs.Weighing.{owed_one, pops_few, pops_less, bears_data}

-- ---- numbers

-- what weighs more than the rest gains falls
pub lower : (p x x' rest rest' : ℕ) → x' < x → rest' < rest + p → p * x' + rest' < p * x + rest
lower p x x' rest rest' less more =
    let low : x' + 1 ≤ x = omega (arith, less) in
    let product = mul-le-mul_left p low in
    omega (arith, product, more)

pub less_a : (p l l' a a' b b' : ℕ) → l' ≡ l → b' ≡ b → a' < a → p + (l' + (a' + b')) < p + (l + (a + b))
less_a p l l' a a' b b' links other less = omega arith

pub less_b : (p l l' a a' b b' : ℕ) → l' ≡ l → a' ≡ a → b' < b → p + (l' + (a' + b')) < p + (l + (a + b))
less_b p l l' a a' b b' links other less = omega arith

under : (p x y : ℕ) → x < y → p + x < p + y
under p x y less = omega arith

-- ---- one host is lower

pub a_less : {S T G H : Type 0} (U : Upper S G) (V : Upper T H) (most : ℕ) (radio radio' : Radio) (a a' : Station S) (b : Station T) (pushes : Pushes) → radio'.phase ≡ radio.phase → radio'.number ≡ radio.number → radio'.b ≡ radio.b
    → side_weight U A most radio'.a a' < side_weight U A most radio.a a → weight_at U V most radio' a' b pushes < weight_at U V most radio a b pushes
a_less U V most radio radio' a a' b pushes phase number same less =
    less_a _ _ _ _ _ _ _ (ap₂ (λ (n : ℕ) (p : Phase). link_weight most * (5 * (pushes.begun - n) + phase_height p)) number phase) (ap (λ (c : Controller). side_weight V B most c b) same) less

pub b_less : {S T G H : Type 0} (U : Upper S G) (V : Upper T H) (most : ℕ) (radio radio' : Radio) (a : Station S) (b b' : Station T) (pushes : Pushes) → radio'.phase ≡ radio.phase → radio'.number ≡ radio.number → radio'.a ≡ radio.a
    → side_weight V B most radio'.b b' < side_weight V B most radio.b b → weight_at U V most radio' a b' pushes < weight_at U V most radio a b pushes
b_less U V most radio radio' a b b' pushes phase number same less =
    less_b _ _ _ _ _ _ _ (ap₂ (λ (n : ℕ) (p : Phase). link_weight most * (5 * (pushes.begun - n) + phase_height p)) number phase) (ap (λ (c : Controller). side_weight U A most c a) same) less

-- the link goes on in its life
pub links_less : {S T G H : Type 0} (U : Upper S G) (V : Upper T H) (most : ℕ) (radio radio' : Radio) (a a' : Station S) (b b' : Station T) (pushes : Pushes) → links_height radio' pushes < links_height radio pushes
    → side_weight U A most radio'.a a' + side_weight V B most radio'.b b' < (side_weight U A most radio.a a + side_weight V B most radio.b b) + link_weight most
    → weight_at U V most radio' a' b' pushes < weight_at U V most radio a b pushes
links_less U V most radio radio' a a' b b' pushes links sides = under (push_weight most * pushes_height pushes) _ _ (lower (link_weight most) _ _ _ _ links sides)

-- ---- one that is answered alone

plain_a : {S T G H : Type 0} (U : Upper S G) (V : Upper T H) (most : ℕ) (radio : Radio) (a : Station S) (b : Station T) (pushes : Pushes) (order : Order) (rest : List Order) (answer : Answer) → a.out ≡ order ∷ rest → asking order ≡ 0 → answer_weight most answer ≡ 2
    → weight_at U V most (owes A (answer ∷ []) radio) (record a { out = rest }) b pushes < weight_at U V most radio a b pushes
plain_a U V most radio a b pushes order rest answer first unasked weighs =
    let one = owed_one most radio.a.owed answer in
    a_less U V most radio (owes A (answer ∷ []) radio) a (record a { out = rest }) b pushes refl refl refl (pops_less U A most radio.a (owing (answer ∷ []) radio.a) a order rest first unasked refl (omega arith))

plain_b : {S T G H : Type 0} (U : Upper S G) (V : Upper T H) (most : ℕ) (radio : Radio) (scan : ℕ) (a : Station S) (b : Station T) (pushes : Pushes) (order : Order) (rest : List Order) (answer : Answer) → b.out ≡ order ∷ rest → asking order ≡ 0 → answer_weight most answer ≡ 2
    → weight_at U V most (record radio { b = owing (answer ∷ []) (record radio.b { scan = scan }) }) a (record b { out = rest }) pushes < weight_at U V most radio a b pushes
plain_b U V most radio scan a b pushes order rest answer first unasked weighs =
    let one = owed_one most radio.b.owed answer in
    b_less U V most radio (record radio { b = owing (answer ∷ []) (record radio.b { scan = scan }) }) a b (record b { out = rest }) pushes refl refl refl (pops_less V B most radio.b (owing (answer ∷ []) (record radio.b { scan = scan })) b order rest first unasked refl (omega arith))

-- ---- what a host weighs where its controller owes more

owes_more : {S G : Type 0} (U : Upper S G) (side : Side) (most : ℕ) (one : Controller) (old : Station S) (answer : Answer) → side_weight U side most (owing (answer ∷ []) one) old ≡ side_weight U side most one old + answer_weight most answer
owes_more U side most one old answer = let more = owed_one most one.owed answer in omega arith

-- ---- a page

sums : (a a' b b' n k l : ℕ) → a' + 6 ≤ a + (9 * n + 2) → n ≤ 1 → b' ≤ b + 10 → l ≡ 2 * k + 30 → a' + b' < (a + b) + l
sums a a' b b' n k l one few two is = omega arith

no_more : (x y : ℕ) → x ≡ y + 10 → x ≤ y + 10
no_more x y is = omega arith

no_less : (x : ℕ) → x ≤ x + 10
no_less x = omega arith

page_by : {S T G H : Type 0} (U : Upper S G) (V : Upper T H) (most : ℕ) (radio : Radio) (a : Station S) (b : Station T) (pushes : Pushes) (rest : List Order) (reached : Bool) → radio.phase ≡ Apart → a.out ≡ Page ∷ rest
    → weight_at U V most (if reached then record (owes A (Stated 0x0405 ∷ []) radio) { b = owing (Called ∷ []) radio.b; phase = Requested } else record (owes A (Stated 0x0405 ∷ []) radio) { phase = Paging }) (record a { out = rest }) b pushes
    < weight_at U V most radio a b pushes
page_by U V most radio a b pushes rest true apart first =
    let was : phase_height radio.phase ≡ 3 = ap phase_height apart in
    let one = owed_one most radio.a.owed (Stated 0x0405) in
    let pops = pops_few U A most 2 radio.a (owing (Stated 0x0405 ∷ []) radio.a) a Page rest first refl (omega arith) in
    let more = owes_more V B most radio.b b Called in
    links_less U V most radio (record (owes A (Stated 0x0405 ∷ []) radio) { b = owing (Called ∷ []) radio.b; phase = Requested }) a (record a { out = rest }) b b pushes (omega (arith, was))
    (sums _ _ _ _ 1 (tiding_weight most) _ pops (omega arith) (no_more _ _ more) refl)
page_by U V most radio a b pushes rest false apart first =
    let was : phase_height radio.phase ≡ 3 = ap phase_height apart in
    let one = owed_one most radio.a.owed (Stated 0x0405) in
    let pops = pops_few U A most 2 radio.a (owing (Stated 0x0405 ∷ []) radio.a) a Page rest first refl (omega arith) in
    links_less U V most radio (record (owes A (Stated 0x0405 ∷ []) radio) { phase = Paging }) a (record a { out = rest }) b b pushes (omega (arith, was))
    (sums _ _ _ _ 1 (tiding_weight most) _ pops (omega arith) (no_less _) refl)

page_less : {S T G H : Type 0} (U : Upper S G) (V : Upper T H) (most : ℕ) (radio : Radio) (a : Station S) (b : Station T) (pushes : Pushes) (rest : List Order) → Idles U → a.out ≡ Page ∷ rest → Kept U V radio a b pushes.going → Lively U radio a b pushes
    → weight_at U V most (after_order A Page radio) (record a { out = rest }) b pushes < weight_at U V most radio a b pushes
page_less U V most radio a b pushes rest idles first kept is =
    let counted : count a.out ≡ 1 + count rest = ap count first in
    let few = kept.one.awaits.few in
    let wants = (kept.calls (omega arith)).wants in
    let fresh = fresh_of U radio pushes a.upper wants (omega arith) is.link in
    let room = fresh.room (going_of U a.upper radio pushes.going idles wants kept.rests) in
    let begun = is.begun_few in
    let names = is.names_few in
    let parts = fresh.parts in
    let apart = apart_is radio.phase (omega arith) fresh.separate in
    let owed : Radio = owes A (Stated 0x0405 ∷ []) radio in
    let may = fresh_pages owed pushes (record { parts = record { off_a = parts.off_a; off_b = parts.off_b; told_a = parts.told_a; told_b = parts.told_b }; separate = fresh.separate; room = fresh.room }) apart (omega arith) in
    subst (λ (b' : Bool). weight_at U V most (if b' then after_reaching (record owed { phase = Paging }) else owed) (record a { out = rest }) b pushes < weight_at U V most radio a b pushes) (sym may)
    (page_by U V most radio a b pushes rest (nat_le 2 radio.b.scan) apart first)

-- ---- a link is made, and ends

both_told : (a a' b b' n k l : ℕ) → a' ≡ a + k → b' + 6 ≤ b + (9 * n + (2 + k)) → n ≤ 1 → l ≡ 2 * k + 30 → a' + b' < (a + b) + l
both_told a a' b b' n k l one two few is = omega arith

other_told : (a a' b b' n k l : ℕ) → b' ≡ b + k → a' + 6 ≤ a + (9 * n + (2 + k)) → n ≤ 1 → l ≡ 2 * k + 30 → a' + b' < (a + b) + l
other_told a a' b b' n k l one two few is = omega arith

-- what an order makes of a host that is told of a link behind its answer
told_behind : {S G : Type 0} (U : Upper S G) (side : Side) (most : ℕ) (one one' : Controller) (old : Station S) (order : Order) (rest : List Order) (answer tells : Answer) → old.out ≡ order ∷ rest → answer_weight most answer ≡ 2 → answer_weight most tells ≡ tiding_weight most
    → one'.coming ≡ one.coming → one'.taken ≡ one.taken → one'.owed ≡ (one.owed ++ answer ∷ []) ++ tells ∷ []
    → side_weight U side most one' (record old { out = rest }) + 6 ≤ side_weight U side most one old + (9 * asking order + (2 + tiding_weight most))
told_behind U side most one one' old order rest answer tells first weighs tells_weigh coming taken owed =
    let first_owed = owed_one most one.owed answer in
    let then_owed = owed_one most (one.owed ++ answer ∷ []) tells in
    let all : owed_weight most one'.owed ≡ owed_weight most ((one.owed ++ answer ∷ []) ++ tells ∷ []) = ap (owed_weight most) owed in
    pops_few U side most (2 + tiding_weight most) one one' old order rest first coming (omega arith)

accept_less : {S T G H : Type 0} (U : Upper S G) (V : Upper T H) (most : ℕ) (radio : Radio) (a : Station S) (b : Station T) (pushes : Pushes) (rest : List Order) → Idles U → b.out ≡ Accept ∷ rest → Kept U V radio a b pushes.going → Lively U radio a b pushes
    → weight_at U V most (after_order B Accept radio) a (record b { out = rest }) pushes < weight_at U V most radio a b pushes
accept_less U V most radio a b pushes rest idles first kept is =
    let counted : count b.out ≡ 1 + count rest = ap count first in
    let requests = is.calls.requests in
    let phase = requested_is radio.phase (omega arith) in
    let called_is : calling radio.phase ≡ 1 = ap calling phase in
    let few = kept.one.awaits.few in
    let wants = (kept.calls (omega arith)).wants in
    let fresh = fresh_of U radio pushes a.upper wants (omega arith) is.link in
    let room = fresh.room (going_of U a.upper radio pushes.going idles wants kept.rests) in
    let was : phase_height radio.phase ≡ 1 = ap phase_height phase in
    let owed : Radio = owes B (Stated 0x0409 ∷ []) radio in
    let one = owes_more U A most radio.a a (LinkMade (radio.number + 1)) in
    let two = told_behind V B most radio.b (joined owed).b b Accept rest (Stated 0x0409) (LinkMade (radio.number + 1)) first refl refl refl refl refl in
    subst (λ (b' : Bool). weight_at U V most (if b' then joined owed else owed) a (record b { out = rest }) pushes < weight_at U V most radio a b pushes) (sym (ap is_requested phase))
    (links_less U V most radio (joined owed) a a b (record b { out = rest }) pushes (omega (arith, was, room)) (both_told _ _ _ _ 1 (tiding_weight most) _ one two (omega arith) refl))

part_less : (radio radio' : Radio) (pushes : Pushes) → is_together radio.phase ≡ true → radio'.phase ≡ Apart → radio'.number ≡ radio.number → links_height radio' pushes < links_height radio pushes
part_less radio radio' pushes up apart number =
    let was : phase_height radio.phase ≡ 4 = ap phase_height (together_is radio.phase up) in
    let is : phase_height radio'.phase ≡ 3 = ap phase_height apart in
    let same : pushes.begun - radio'.number ≡ pushes.begun - radio.number = ap (λ (n : ℕ). pushes.begun - n) number in
    omega arith

first_true : (a b c : Bool) → ((a && b) && c) ≡ true → a ≡ true
first_true true b c is = refl
first_true false b c is = absurd cc

end_a : {S T G H : Type 0} (U : Upper S G) (V : Upper T H) (most : ℕ) (radio : Radio) (a : Station S) (b : Station T) (pushes : Pushes) (handle : ℕ) (rest : List Order) (ends : Bool) → (ends ≡ true → is_together radio.phase ≡ true) → a.out ≡ End handle ∷ rest
    → weight_at U V most (if ends then parted 0x16 0x13 (owes A (Stated 0x0406 ∷ []) radio) else owes A (Stated 0x0406 ∷ []) radio) (record a { out = rest }) b pushes < weight_at U V most radio a b pushes
end_a U V most radio a b pushes handle rest true up first =
    let owed : Radio = owes A (Stated 0x0406 ∷ []) radio in
    let gone : Radio = parted 0x16 0x13 owed in
    let two = owes_more V B most radio.b b (LinkGone radio.number 0x13) in
    let one = told_behind U A most radio.a gone.a a (End handle) rest (Stated 0x0406) (LinkGone radio.number 0x16) first refl refl refl refl refl in
    links_less U V most radio gone a (record a { out = rest }) b b pushes (part_less radio gone pushes (up refl) refl refl) (other_told _ _ _ _ 0 (tiding_weight most) _ two one (omega arith) refl)
end_a U V most radio a b pushes handle rest false up first = plain_a U V most radio a b pushes (End handle) rest (Stated 0x0406) first refl refl

end_b : {S T G H : Type 0} (U : Upper S G) (V : Upper T H) (most : ℕ) (radio : Radio) (a : Station S) (b : Station T) (pushes : Pushes) (handle : ℕ) (rest : List Order) (ends : Bool) → (ends ≡ true → is_together radio.phase ≡ true) → b.out ≡ End handle ∷ rest
    → weight_at U V most (if ends then parted 0x13 0x16 (owes B (Stated 0x0406 ∷ []) radio) else owes B (Stated 0x0406 ∷ []) radio) a (record b { out = rest }) pushes < weight_at U V most radio a b pushes
end_b U V most radio a b pushes handle rest true up first =
    let owed : Radio = owes B (Stated 0x0406 ∷ []) radio in
    let gone : Radio = parted 0x13 0x16 owed in
    let one = owes_more U A most radio.a a (LinkGone radio.number 0x13) in
    let two = told_behind V B most radio.b gone.b b (End handle) rest (Stated 0x0406) (LinkGone radio.number 0x16) first refl refl refl refl refl in
    links_less U V most radio gone a a b (record b { out = rest }) pushes (part_less radio gone pushes (up refl) refl refl) (both_told _ _ _ _ 0 (tiding_weight most) _ one two (omega arith) refl)
end_b U V most radio a b pushes handle rest false up first = plain_b U V most radio radio.b.scan a b pushes (End handle) rest (Stated 0x0406) first refl refl

-- ---- host b scans

scan_sums : (a b b' k l : ℕ) → b' + 6 ≤ b + (9 * 0 + 12) → l ≡ 2 * k + 30 → a + b' < (a + b) + l
scan_sums a b b' k l one is = omega arith

scan_b : {S T G H : Type 0} (U : Upper S G) (V : Upper T H) (most : ℕ) (radio : Radio) (a : Station S) (b : Station T) (pushes : Pushes) (rest : List Order) (paged : Bool) → is_paging radio.phase ≡ paged → b.out ≡ Scan ∷ rest
    → weight_at U V most (if paged then record radio { b = owing (Called ∷ []) (owing (Returned 0x0C1A (0 ∷ []) ∷ []) (record radio.b { scan = 0x03 })); phase = Requested }
    else record radio { b = owing (Returned 0x0C1A (0 ∷ []) ∷ []) (record radio.b { scan = 0x03 }) }) a (record b { out = rest }) pushes < weight_at U V most radio a b pushes
scan_b U V most radio a b pushes rest true paged first =
    let was : phase_height radio.phase ≡ 2 = ap phase_height (paging_is radio.phase paged) in
    let scans : Radio = record radio { b = owing (Called ∷ []) (owing (Returned 0x0C1A (0 ∷ []) ∷ []) (record radio.b { scan = 0x03 })); phase = Requested } in
    let first_owed = owed_one most radio.b.owed (Returned 0x0C1A (0 ∷ [])) in
    let then_owed = owed_one most (radio.b.owed ++ Returned 0x0C1A (0 ∷ []) ∷ []) Called in
    let pops = pops_few V B most 12 radio.b scans.b b Scan rest first refl (omega arith) in
    links_less U V most radio scans a a b (record b { out = rest }) pushes (omega (arith, was)) (scan_sums _ _ _ (tiding_weight most) _ pops refl)
scan_b U V most radio a b pushes rest false paged first = plain_b U V most radio 0x03 a b pushes Scan rest (Returned 0x0C1A (0 ∷ [])) first refl refl

-- ---- any order

pub departs_a : {S T G H : Type 0} (U : Upper S G) (V : Upper T H) (most : ℕ) (radio : Radio) (a : Station S) (b : Station T) (pushes : Pushes) (order : Order) (rest : List Order) → Idles U → a.out ≡ order ∷ rest → Kept U V radio a b pushes.going → Lively U radio a b pushes
    → weight_at U V most (after_order A order radio) (record a { out = rest }) b pushes < weight_at U V most radio a b pushes
departs_a U V most radio a b pushes Reset rest idles first kept is = plain_a U V most radio a b pushes Reset rest (Returned 0x0C03 (0 ∷ [])) first refl refl
departs_a U V most radio a b pushes ReadBuffers rest idles first kept is = plain_a U V most radio a b pushes ReadBuffers rest (Returned 0x1005 (0 ∷ (le16 radio.size ++ (0 ∷ (le16 radio.count ++ le16 0))))) first refl refl
departs_a U V most radio a b pushes ReadAddress rest idles first kept is = plain_a U V most radio a b pushes ReadAddress rest (Returned 0x1009 (0 ∷ address A)) first refl refl
departs_a U V most radio a b pushes Scan rest idles first kept is = absurd (own_first A Scan a.out rest first is.a.own_out)
departs_a U V most radio a b pushes Page rest idles first kept is = page_less U V most radio a b pushes rest idles first kept is
departs_a U V most radio a b pushes Accept rest idles first kept is = absurd (own_first A Accept a.out rest first is.a.own_out)
departs_a U V most radio a b pushes (End handle) rest idles first kept is =
    end_a U V most radio a b pushes handle rest (knows_link A radio && (handle == radio.number)) (λ ends. first_true (is_together radio.phase) (radio.a.up && (radio.a.told == radio.number)) (handle == radio.number) ends) first
departs_a U V most radio a b pushes (Data handle piece) rest idles first kept is =
    let bears = bears_data most (knows_link A radio) handle (piece_on radio.a handle piece) radio.a in
    a_less U V most radio (after_order A (Data handle piece) radio) a (record a { out = rest }) b pushes refl refl refl
    (pops_less U A most radio.a (after_order A (Data handle piece) radio).a a (Data handle piece) rest first refl bears.coming bears.less)

pub departs_b : {S T G H : Type 0} (U : Upper S G) (V : Upper T H) (most : ℕ) (radio : Radio) (a : Station S) (b : Station T) (pushes : Pushes) (order : Order) (rest : List Order) → Idles U → b.out ≡ order ∷ rest → Kept U V radio a b pushes.going → Lively U radio a b pushes
    → weight_at U V most (after_order B order radio) a (record b { out = rest }) pushes < weight_at U V most radio a b pushes
departs_b U V most radio a b pushes Reset rest idles first kept is = plain_b U V most radio radio.b.scan a b pushes Reset rest (Returned 0x0C03 (0 ∷ [])) first refl refl
departs_b U V most radio a b pushes ReadBuffers rest idles first kept is = plain_b U V most radio radio.b.scan a b pushes ReadBuffers rest (Returned 0x1005 (0 ∷ (le16 radio.size ++ (0 ∷ (le16 radio.count ++ le16 0))))) first refl refl
departs_b U V most radio a b pushes ReadAddress rest idles first kept is = plain_b U V most radio radio.b.scan a b pushes ReadAddress rest (Returned 0x1009 (0 ∷ address B)) first refl refl
departs_b U V most radio a b pushes Scan rest idles first kept is =
    let to : Controller = owing (Returned 0x0C1A (0 ∷ []) ∷ []) (record radio.b { scan = 0x03 }) in
    subst (λ (paged : Bool). weight_at U V most (if paged then record radio { b = owing (Called ∷ []) to; phase = Requested } else record radio { b = to }) a (record b { out = rest }) pushes < weight_at U V most radio a b pushes) (sym (and_true (is_paging radio.phase)))
    (scan_b U V most radio a b pushes rest (is_paging radio.phase) refl first)
departs_b U V most radio a b pushes Page rest idles first kept is = absurd (own_first B Page b.out rest first is.b.own_out)
departs_b U V most radio a b pushes Accept rest idles first kept is = accept_less U V most radio a b pushes rest idles first kept is
departs_b U V most radio a b pushes (End handle) rest idles first kept is =
    end_b U V most radio a b pushes handle rest (knows_link B radio && (handle == radio.number)) (λ ends. first_true (is_together radio.phase) (radio.b.up && (radio.b.told == radio.number)) (handle == radio.number) ends) first
departs_b U V most radio a b pushes (Data handle piece) rest idles first kept is =
    let bears = bears_data most (knows_link B radio) handle (piece_on radio.b handle piece) radio.b in
    b_less U V most radio (after_order B (Data handle piece) radio) a b (record b { out = rest }) pushes refl refl refl
    (pops_less V B most radio.b (after_order B (Data handle piece) radio).b b (Data handle piece) rest first refl bears.coming bears.less)
