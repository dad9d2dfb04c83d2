-- Each thing that happens without a word lowers what is left: so settling ends.
use Rattle.std.proofs.Common.{◌≡◌, ℕ, zero, suc, ◌+◌, ◌-◌, ◌*◌, ◌<◌, ◌≤◌, ◌==◌, ◌&&◌, nat_le, Bool, true, false, List, [], ◌∷◌, ◌++◌, length, Some, None, if◌then◌else◌, inl, inr, refl, sym, ap, ap₂, subst, arith}
use Rattle.std.specs.Prelude.{slice_get}
use Rattle.std.proofs.lemmas.Option.{slice_get_within}
use Rattle.station_laws.specs.bt_base.specs.Octets.{le16}
use Rattle.station_laws.specs.acl_fragments.specs.Pieces.{Piece}
use Rattle.station_laws.specs.push_terms.specs.declared.word.Side.TheVariants.{A, B}
use Rattle.station_laws.specs.radio_model.specs.Controllers.{Answer, Returned, Stated, Called, LinkMade, LinkGone, GivenBack, address, Controller, owing, after_giving_back, after_telling}
use Rattle.station_laws.specs.radio_model.specs.Radio.{Radio, Phase, Apart, Paging, Requested, is_paging, is_requested, is_together, owes, after_reaching, joined, parted, knows_link, with_controller}
use Rattle.station_laws.specs.world_model.specs.Machines.{Upper}
use Rattle.station_laws.specs.world_model.specs.Pushes.{Pushes}
use Rattle.station_laws.specs.world_model.specs.Stations.{Order, Reset, ReadBuffers, ReadAddress, Scan, Page, Accept, End, Data, Station, hears_piece, hears_answer}
use Rattle.station_laws.specs.world_model.specs.Worlds.{World, Happening, Tries, Departure, GivingBack, Piecemeal, Answering, Turns, Misses, Opens, Closes, piece_on, after_order, Does, Runs, first_world}
use Rattle.station_laws.specs.turn_laws.specs.Premises.{Idles}
use Rattle.station_laws.specs.turn_laws.specs.WorldLaws.{Fits}
use Rattle.station_laws.specs.turn_laws.proofs.Leading.{Tiding, tiding_in, tidings, plain_tidings, made}
use Rattle.station_laws.specs.turn_laws.proofs.Wiring.{asking, count}
use Rattle.station_laws.specs.turn_laws.proofs.Departing.{gives_back_tidings}
use Rattle.station_laws.specs.turn_laws.proofs.Hearing.{with_owed, rest_tidings}
use Rattle.station_laws.specs.turn_laws.proofs.Coming.{handed_piece, handed_answer}
use Rattle.station_laws.specs.turn_laws.proofs.Keeping.{calling, Kept}
use Rattle.air_laws.proofs.Following.{runs_then, reached_first, along}
use Rattle.air_laws.proofs.Resting.{next_going}
use Rattle.station_laws.specs.WorldLaws.{AreSizes}
use Rattle.rest_laws.specs.Premises.{AreOrderly}
use Rattle.rest_laws.specs.Settling.{IsOwn, Settles, Settling, SettlingEnds}
use Rattle.rest_laws.proofs.Living.{own_first}
use Rattle.rest_laws.proofs.Calling.{called_by, requested_is}
use Rattle.rest_laws.proofs.Lively.{Lively, fresh_of, together_is}
use Rattle.rest_laws.proofs.Departing.{apart_is, fresh_pages, going_of, paging_is, and_true}
use Rattle.rest_laws.proofs.Happening.{LivelyIn}
use Rattle.rest_laws.proofs.Resting.{first_lively, keeps_lively}
use Rattle.rest_laws.proofs.Falling.{IsBelow, falls}
use Rattle.rest_laws.proofs.Heights.{going_height, pushes_height, phase_height, links_height, side_height, both_height, height, below_a, below_b, SideBelow, effort_below, pops_below, owed_more, back_below, bears_data, moves_below, IsPlain, heard_below}

-- ---- where the rest stays as it was

-- one side is lower, and the radio and the pushes are as high
pub record SameAbove (radio radio' : Radio) : Type 0 where
  pub phase : radio'.phase ≡ radio.phase
  pub number : radio'.number ≡ radio.number
  pub told_a : tidings radio'.a.owed ≡ tidings radio.a.owed
  pub told_b : tidings radio'.b.owed ≡ tidings radio.b.owed
  pub coming_a : radio'.a.coming ≡ radio.a.coming
  pub coming_b : radio'.b.coming ≡ radio.b.coming

same_above : (radio : Radio) → SameAbove radio radio
same_above radio = record { phase = refl; number = refl; told_a = refl; told_b = refl; coming_a = refl; coming_b = refl }

abbrev rest_height : {S T G H : Type 0} → Upper S G → Upper T H → Radio → Station S → Station T → List ℕ
rest_height U V radio a b = both_height (side_height U A radio.a a) (side_height V B radio.b b)

abbrev height_at : {S T G H : Type 0} → Upper S G → Upper T H → Radio → Station S → Station T → Pushes → List ℕ
height_at U V radio a b pushes =
    pushes_height pushes ∷ links_height radio pushes ∷ (length (tidings radio.a.owed) + length (tidings radio.b.owed)) ∷ (length radio.a.coming + length radio.b.coming) ∷ rest_height U V radio a b

rest_below : {S T G H : Type 0} (U : Upper S G) (V : Upper T H) (radio radio' : Radio) (a a' : Station S) (b b' : Station T) (pushes : Pushes) → SameAbove radio radio' → IsBelow (rest_height U V radio' a' b') (rest_height U V radio a b)
    → IsBelow (height_at U V radio' a' b' pushes) (height_at U V radio a b pushes)
rest_below U V radio radio' a a' b b' pushes same below =
    inr (
      refl,
      inr (
        ap₂ (λ (n : ℕ) (phase : Phase). 5 * (pushes.begun - n) + phase_height phase) same.number same.phase,
        inr (ap₂ (λ (one two : List Tiding). length one + length two) same.told_a same.told_b, inr (ap₂ (λ (one two : List Piece). length one + length two) same.coming_a same.coming_b, below)),
      ),
    )

a_below : {S T G H : Type 0} (U : Upper S G) (V : Upper T H) (radio radio' : Radio) (a a' : Station S) (b : Station T) (pushes : Pushes) → SameAbove radio radio' → radio'.b ≡ radio.b → SideBelow U A radio'.a a' radio.a a
    → IsBelow (height_at U V radio' a' b pushes) (height_at U V radio a b pushes)
a_below U V radio radio' a a' b pushes same other below =
    rest_below U V radio radio' a a' b b pushes same
    (subst (λ (c : Controller). IsBelow (both_height (side_height U A radio'.a a') (side_height V B c b)) (rest_height U V radio a b)) (sym other) (below_a _ _ _ _ _ _ _ _ _ below))

b_below : {S T G H : Type 0} (U : Upper S G) (V : Upper T H) (radio radio' : Radio) (a : Station S) (b b' : Station T) (pushes : Pushes) → SameAbove radio radio' → radio'.a ≡ radio.a → SideBelow V B radio'.b b' radio.b b
    → IsBelow (height_at U V radio' a b' pushes) (height_at U V radio a b pushes)
b_below U V radio radio' a b b' pushes same other below =
    rest_below U V radio radio' a a b b' pushes same
    (subst (λ (c : Controller). IsBelow (both_height (side_height U A c a) (side_height V B radio'.b b')) (rest_height U V radio a b)) (sym other) (below_b _ _ _ _ _ _ _ _ _ below))

-- ---- orders

plain_a : {S T G H : Type 0} (U : Upper S G) (V : Upper T H) (radio : Radio) (a : Station S) (b : Station T) (pushes : Pushes) (order : Order) (rest : List Order) (answer : Answer) → a.out ≡ order ∷ rest → asking order ≡ 0 → tiding_in answer ≡ [] → called_by answer ≡ 0
    → IsBelow (height_at U V (owes A (answer ∷ []) radio) (record a { out = rest }) b pushes) (height_at U V radio a b pushes)
plain_a U V radio a b pushes order rest answer first unasked plain none =
    a_below U V radio (owes A (answer ∷ []) radio) a (record a { out = rest }) b pushes (record { phase = refl; number = refl; told_a = plain_tidings radio.a.owed answer plain; told_b = refl; coming_a = refl; coming_b = refl }) refl
    (pops_below U A radio.a (owing (answer ∷ []) radio.a) a order rest first unasked (owed_more radio.a answer none))

plain_b : {S T G H : Type 0} (U : Upper S G) (V : Upper T H) (radio : Radio) (scan : ℕ) (a : Station S) (b : Station T) (pushes : Pushes) (order : Order) (rest : List Order) (answer : Answer) → b.out ≡ order ∷ rest → asking order ≡ 0 → tiding_in answer ≡ [] → called_by answer ≡ 0
    → IsBelow (height_at U V (record radio { b = owing (answer ∷ []) (record radio.b { scan = scan }) }) a (record b { out = rest }) pushes) (height_at U V radio a b pushes)
plain_b U V radio scan a b pushes order rest answer first unasked plain none =
    b_below U V radio (record radio { b = owing (answer ∷ []) (record radio.b { scan = scan }) }) a b (record b { out = rest }) pushes (record { phase = refl; number = refl; told_a = refl; told_b = plain_tidings radio.b.owed answer plain; coming_a = refl; coming_b = refl }) refl
    (pops_below V B radio.b (owing (answer ∷ []) (record radio.b { scan = scan })) b order rest first unasked (owed_more radio.b answer none))

-- the link goes on in its life
links_less : {S T G H : Type 0} (U : Upper S G) (V : Upper T H) (radio radio' : Radio) (a a' : Station S) (b b' : Station T) (pushes : Pushes) → links_height radio' pushes < links_height radio pushes → IsBelow (height_at U V radio' a' b' pushes) (height_at U V radio a b pushes)
links_less U V radio radio' a a' b b' pushes less = inr (refl, inl less)

reach_less : (radio : Radio) (pushes : Pushes) → radio.phase ≡ Apart → links_height (after_reaching (record radio { phase = Paging })) pushes < links_height radio pushes
reach_less radio pushes apart = by (nat_le 2 radio.b.scan)
  where
    was : phase_height radio.phase ≡ 3
    was = ap phase_height apart

    by : (some : Bool) → links_height (if some then record radio { b = owing (Called ∷ []) radio.b; phase = Requested } else record radio { phase = Paging }) pushes < links_height radio pushes
    by true = omega (arith, was)
    by false = omega (arith, was)

page_less : {S T G H : Type 0} (U : Upper S G) (V : Upper T H) (radio : Radio) (a : Station S) (b : Station T) (pushes : Pushes) (rest : List Order) → Idles U → a.out ≡ Page ∷ rest → Kept U V radio a b pushes.going → Lively U radio a b pushes
    → links_height (after_order A Page radio) pushes < links_height radio pushes
page_less U V radio a b pushes rest idles first kept is =
    let counted : count a.out ≡ 1 + count rest = ap count first in
    let few = kept.one.awaits.few in
    let wants = (kept.calls (omega arith)).wants in
    let fresh = fresh_of U radio pushes a.upper wants (omega arith) is.link in
    let room = fresh.room (going_of U a.upper radio pushes.going idles wants kept.rests) in
    let begun = is.begun_few in
    let names = is.names_few in
    let parts = fresh.parts in
    let apart = apart_is radio.phase (omega arith) fresh.separate in
    let owed : Radio = owes A (Stated 0x0405 ∷ []) radio in
    let may = fresh_pages owed pushes (record { parts = record { off_a = parts.off_a; off_b = parts.off_b; told_a = parts.told_a; told_b = parts.told_b }; separate = fresh.separate; room = fresh.room }) apart (omega arith) in
    subst (λ (b' : Bool). links_height (if b' then after_reaching (record owed { phase = Paging }) else owed) pushes < links_height radio pushes) (sym may) (reach_less owed pushes apart)

accept_less : {S T G H : Type 0} (U : Upper S G) (V : Upper T H) (radio : Radio) (a : Station S) (b : Station T) (pushes : Pushes) (rest : List Order) → Idles U → b.out ≡ Accept ∷ rest → Kept U V radio a b pushes.going → Lively U radio a b pushes
    → links_height (after_order B Accept radio) pushes < links_height radio pushes
accept_less U V radio a b pushes rest idles first kept is =
    let counted : count b.out ≡ 1 + count rest = ap count first in
    let requests = is.calls.requests in
    let phase = requested_is radio.phase (omega arith) in
    let called_is : calling radio.phase ≡ 1 = ap calling phase in
    let few = kept.one.awaits.few in
    let wants = (kept.calls (omega arith)).wants in
    let fresh = fresh_of U radio pushes a.upper wants (omega arith) is.link in
    let room = fresh.room (going_of U a.upper radio pushes.going idles wants kept.rests) in
    let was : phase_height radio.phase ≡ 1 = ap phase_height phase in
    let owed : Radio = owes B (Stated 0x0409 ∷ []) radio in
    subst (λ (b' : Bool). links_height (if b' then joined owed else owed) pushes < links_height radio pushes) (sym (ap is_requested phase)) (omega arith)

part_less : (radio : Radio) (pushes : Pushes) (for_a for_b : ℕ) → is_together radio.phase ≡ true → links_height (parted for_a for_b radio) pushes < links_height radio pushes
part_less radio pushes for_a for_b up = let was : phase_height radio.phase ≡ 4 = ap phase_height (together_is radio.phase up) in omega arith

first_true : (a b c : Bool) → ((a && b) && c) ≡ true → a ≡ true
first_true true b c is = refl
first_true false b c is = absurd cc

end_a : {S T G H : Type 0} (U : Upper S G) (V : Upper T H) (radio : Radio) (a : Station S) (b : Station T) (pushes : Pushes) (handle : ℕ) (rest : List Order) (ends : Bool) → (ends ≡ true → is_together radio.phase ≡ true) → a.out ≡ End handle ∷ rest
    → IsBelow (height_at U V (if ends then parted 0x16 0x13 (owes A (Stated 0x0406 ∷ []) radio) else owes A (Stated 0x0406 ∷ []) radio) (record a { out = rest }) b pushes) (height_at U V radio a b pushes)
end_a U V radio a b pushes handle rest true up first = links_less U V radio (parted 0x16 0x13 (owes A (Stated 0x0406 ∷ []) radio)) a (record a { out = rest }) b b pushes (part_less (owes A (Stated 0x0406 ∷ []) radio) pushes 0x16 0x13 (up refl))
end_a U V radio a b pushes handle rest false up first = plain_a U V radio a b pushes (End handle) rest (Stated 0x0406) first refl refl refl

end_b : {S T G H : Type 0} (U : Upper S G) (V : Upper T H) (radio : Radio) (a : Station S) (b : Station T) (pushes : Pushes) (handle : ℕ) (rest : List Order) (ends : Bool) → (ends ≡ true → is_together radio.phase ≡ true) → b.out ≡ End handle ∷ rest
    → IsBelow (height_at U V (if ends then parted 0x13 0x16 (owes B (Stated 0x0406 ∷ []) radio) else owes B (Stated 0x0406 ∷ []) radio) a (record b { out = rest }) pushes) (height_at U V radio a b pushes)
end_b U V radio a b pushes handle rest true up first = links_less U V radio (parted 0x13 0x16 (owes B (Stated 0x0406 ∷ []) radio)) a a b (record b { out = rest }) pushes (part_less (owes B (Stated 0x0406 ∷ []) radio) pushes 0x13 0x16 (up refl))
end_b U V radio a b pushes handle rest false up first = plain_b U V radio radio.b.scan a b pushes (End handle) rest (Stated 0x0406) first refl refl refl

scan_b : {S T G H : Type 0} (U : Upper S G) (V : Upper T H) (radio : Radio) (a : Station S) (b : Station T) (pushes : Pushes) (rest : List Order) (paged : Bool) → is_paging radio.phase ≡ paged → b.out ≡ Scan ∷ rest
    → IsBelow (height_at U V (if paged then record radio { b = owing (Called ∷ []) (owing (Returned 0x0C1A (0 ∷ []) ∷ []) (record radio.b { scan = 0x03 })); phase = Requested }
    else record radio { b = owing (Returned 0x0C1A (0 ∷ []) ∷ []) (record radio.b { scan = 0x03 }) }) a (record b { out = rest }) pushes) (height_at U V radio a b pushes)
scan_b U V radio a b pushes rest true paged first =
    let was : phase_height radio.phase ≡ 2 = ap phase_height (paging_is radio.phase paged) in
    links_less U V radio (record radio { b = owing (Called ∷ []) (owing (Returned 0x0C1A (0 ∷ []) ∷ []) (record radio.b { scan = 0x03 })); phase = Requested }) a a b (record b { out = rest }) pushes (omega arith)
scan_b U V radio a b pushes rest false paged first = plain_b U V radio 0x03 a b pushes Scan rest (Returned 0x0C1A (0 ∷ [])) first refl refl refl

departs_a : {S T G H : Type 0} (U : Upper S G) (V : Upper T H) (radio : Radio) (a : Station S) (b : Station T) (pushes : Pushes) (order : Order) (rest : List Order) → Idles U → a.out ≡ order ∷ rest → Kept U V radio a b pushes.going → Lively U radio a b pushes
    → IsBelow (height_at U V (after_order A order radio) (record a { out = rest }) b pushes) (height_at U V radio a b pushes)
departs_a U V radio a b pushes Reset rest idles first kept is = plain_a U V radio a b pushes Reset rest (Returned 0x0C03 (0 ∷ [])) first refl refl refl
departs_a U V radio a b pushes ReadBuffers rest idles first kept is = plain_a U V radio a b pushes ReadBuffers rest (Returned 0x1005 (0 ∷ (le16 radio.size ++ (0 ∷ (le16 radio.count ++ le16 0))))) first refl refl refl
departs_a U V radio a b pushes ReadAddress rest idles first kept is = plain_a U V radio a b pushes ReadAddress rest (Returned 0x1009 (0 ∷ address A)) first refl refl refl
departs_a U V radio a b pushes Scan rest idles first kept is = absurd (own_first A Scan a.out rest first is.a.own_out)
departs_a U V radio a b pushes Page rest idles first kept is = links_less U V radio (after_order A Page radio) a (record a { out = rest }) b b pushes (page_less U V radio a b pushes rest idles first kept is)
departs_a U V radio a b pushes Accept rest idles first kept is = absurd (own_first A Accept a.out rest first is.a.own_out)
departs_a U V radio a b pushes (End handle) rest idles first kept is =
    end_a U V radio a b pushes handle rest (knows_link A radio && (handle == radio.number)) (λ ends. first_true (is_together radio.phase) (radio.a.up && (radio.a.told == radio.number)) (handle == radio.number) ends) first
departs_a U V radio a b pushes (Data handle piece) rest idles first kept is =
    let bears = bears_data (knows_link A radio) handle (piece_on radio.a handle piece) radio.a in
    a_below U V radio (after_order A (Data handle piece) radio) a (record a { out = rest }) b pushes (record { phase = refl; number = refl; told_a = bears.rest; told_b = refl; coming_a = bears.coming; coming_b = refl }) refl
    (pops_below U A radio.a (after_order A (Data handle piece) radio).a a (Data handle piece) rest first refl bears.less)

departs_b : {S T G H : Type 0} (U : Upper S G) (V : Upper T H) (radio : Radio) (a : Station S) (b : Station T) (pushes : Pushes) (order : Order) (rest : List Order) → Idles U → b.out ≡ order ∷ rest → Kept U V radio a b pushes.going → Lively U radio a b pushes
    → IsBelow (height_at U V (after_order B order radio) a (record b { out = rest }) pushes) (height_at U V radio a b pushes)
departs_b U V radio a b pushes Reset rest idles first kept is = plain_b U V radio radio.b.scan a b pushes Reset rest (Returned 0x0C03 (0 ∷ [])) first refl refl refl
departs_b U V radio a b pushes ReadBuffers rest idles first kept is = plain_b U V radio radio.b.scan a b pushes ReadBuffers rest (Returned 0x1005 (0 ∷ (le16 radio.size ++ (0 ∷ (le16 radio.count ++ le16 0))))) first refl refl refl
departs_b U V radio a b pushes ReadAddress rest idles first kept is = plain_b U V radio radio.b.scan a b pushes ReadAddress rest (Returned 0x1009 (0 ∷ address B)) first refl refl refl
departs_b {S} {T} U V radio a b pushes Scan rest idles first kept is =
    let to : Controller = owing (Returned 0x0C1A (0 ∷ []) ∷ []) (record radio.b { scan = 0x03 }) in
    subst (λ (paged : Bool). IsBelow (height_at U V (if paged then record radio { b = owing (Called ∷ []) to; phase = Requested } else record radio { b = to }) a (record b { out = rest }) pushes) (height_at U V radio a b pushes)) (sym (and_true (is_paging radio.phase)))
    (scan_b U V radio a b pushes rest (is_paging radio.phase) refl first)
departs_b U V radio a b pushes Page rest idles first kept is = absurd (own_first B Page b.out rest first is.b.own_out)
departs_b U V radio a b pushes Accept rest idles first kept is = links_less U V radio (after_order B Accept radio) a a b (record b { out = rest }) pushes (accept_less U V radio a b pushes rest idles first kept is)
departs_b U V radio a b pushes (End handle) rest idles first kept is =
    end_b U V radio a b pushes handle rest (knows_link B radio && (handle == radio.number)) (λ ends. first_true (is_together radio.phase) (radio.b.up && (radio.b.told == radio.number)) (handle == radio.number) ends) first
departs_b U V radio a b pushes (Data handle piece) rest idles first kept is =
    let bears = bears_data (knows_link B radio) handle (piece_on radio.b handle piece) radio.b in
    b_below U V radio (after_order B (Data handle piece) radio) a b (record b { out = rest }) pushes (record { phase = refl; number = refl; told_a = refl; told_b = bears.rest; coming_a = refl; coming_b = bears.coming }) refl
    (pops_below V B radio.b (after_order B (Data handle piece) radio).b b (Data handle piece) rest first refl bears.less)

-- ---- what comes in

-- a link is told of
told_less : {S T G H : Type 0} (U : Upper S G) (V : Upper T H) (radio radio' : Radio) (a a' : Station S) (b b' : Station T) (pushes : Pushes) → radio'.phase ≡ radio.phase → radio'.number ≡ radio.number
    → length (tidings radio'.a.owed) + length (tidings radio'.b.owed) < length (tidings radio.a.owed) + length (tidings radio.b.owed) → IsBelow (height_at U V radio' a' b' pushes) (height_at U V radio a b pushes)
told_less U V radio radio' a a' b b' pushes phase number less = inr (refl, inr (ap₂ (λ (n : ℕ) (p : Phase). 5 * (pushes.begun - n) + phase_height p) number phase, inl less))

owed_long : (owed rest : List Answer) (answer : Answer) → owed ≡ answer ∷ rest → length (tiding_in answer) ≡ 1 → length (tidings owed) ≡ suc (length (tidings rest))
owed_long owed rest (LinkMade handle) first one = ap (λ (l : List Answer). length (tidings l)) first
owed_long owed rest (LinkGone handle reason) first one = ap (λ (l : List Answer). length (tidings l)) first
owed_long owed rest (Returned number params) first one = absurd (omega arith)
owed_long owed rest (Stated number) first one = absurd (omega arith)
owed_long owed rest Called first one = absurd (omega arith)
owed_long owed rest (GivenBack handle n) first one = absurd (omega arith)

plain_answer_a : {S T G H : Type 0} (U : Upper S G) (V : Upper T H) (radio : Radio) (a : Station S) (b : Station T) (pushes : Pushes) (answers : List G) (answer : Answer) (rest : List Answer) → IsPlain answer → tiding_in answer ≡ [] → radio.a.owed ≡ answer ∷ rest
    → IsBelow (height_at U V (record radio { a = with_owed rest radio.a }) (hears_answer U answers A answer a) b pushes) (height_at U V radio a b pushes)
plain_answer_a U V radio a b pushes answers answer rest plain none first =
    a_below U V radio (record radio { a = with_owed rest radio.a }) a (hears_answer U answers A answer a) b pushes (record { phase = refl; number = refl; told_a = rest_tidings radio.a.owed rest answer first none; told_b = refl; coming_a = refl; coming_b = refl }) refl
    (heard_below U answers A answer rest radio.a a plain first)

plain_answer_b : {S T G H : Type 0} (U : Upper S G) (V : Upper T H) (radio : Radio) (a : Station S) (b : Station T) (pushes : Pushes) (answers : List H) (answer : Answer) (rest : List Answer) → IsPlain answer → tiding_in answer ≡ [] → radio.b.owed ≡ answer ∷ rest
    → IsBelow (height_at U V (record radio { b = with_owed rest radio.b }) a (hears_answer V answers B answer b) pushes) (height_at U V radio a b pushes)
plain_answer_b U V radio a b pushes answers answer rest plain none first =
    b_below U V radio (record radio { b = with_owed rest radio.b }) a b (hears_answer V answers B answer b) pushes (record { phase = refl; number = refl; told_a = refl; told_b = rest_tidings radio.b.owed rest answer first none; coming_a = refl; coming_b = refl }) refl
    (heard_below V answers B answer rest radio.b b plain first)

answer_a : {S T G H : Type 0} (U : Upper S G) (V : Upper T H) (radio : Radio) (a : Station S) (b : Station T) (pushes : Pushes) (answers : List G) (answer : Answer) (rest : List Answer) → radio.a.owed ≡ answer ∷ rest
    → IsBelow (height_at U V (record radio { a = after_telling answer (with_owed rest radio.a) }) (hears_answer U answers A answer a) b pushes) (height_at U V radio a b pushes)
answer_a U V radio a b pushes answers (Returned number params) rest first = plain_answer_a U V radio a b pushes answers (Returned number params) rest tt refl first
answer_a U V radio a b pushes answers (Stated number) rest first = plain_answer_a U V radio a b pushes answers (Stated number) rest tt refl first
answer_a U V radio a b pushes answers Called rest first = plain_answer_a U V radio a b pushes answers Called rest tt refl first
answer_a U V radio a b pushes answers (GivenBack handle n) rest first = plain_answer_a U V radio a b pushes answers (GivenBack handle n) rest tt refl first
answer_a U V radio a b pushes answers (LinkMade handle) rest first =
    let long = owed_long radio.a.owed rest (LinkMade handle) first refl in
    told_less U V radio (record radio { a = after_telling (LinkMade handle) (with_owed rest radio.a) }) a (hears_answer U answers A (LinkMade handle) a) b b pushes refl refl (omega arith)
answer_a U V radio a b pushes answers (LinkGone handle reason) rest first =
    let long = owed_long radio.a.owed rest (LinkGone handle reason) first refl in
    told_less U V radio (record radio { a = after_telling (LinkGone handle reason) (with_owed rest radio.a) }) a (hears_answer U answers A (LinkGone handle reason) a) b b pushes refl refl (omega arith)

answer_b : {S T G H : Type 0} (U : Upper S G) (V : Upper T H) (radio : Radio) (a : Station S) (b : Station T) (pushes : Pushes) (answers : List H) (answer : Answer) (rest : List Answer) → radio.b.owed ≡ answer ∷ rest
    → IsBelow (height_at U V (record radio { b = after_telling answer (with_owed rest radio.b) }) a (hears_answer V answers B answer b) pushes) (height_at U V radio a b pushes)
answer_b U V radio a b pushes answers (Returned number params) rest first = plain_answer_b U V radio a b pushes answers (Returned number params) rest tt refl first
answer_b U V radio a b pushes answers (Stated number) rest first = plain_answer_b U V radio a b pushes answers (Stated number) rest tt refl first
answer_b U V radio a b pushes answers Called rest first = plain_answer_b U V radio a b pushes answers Called rest tt refl first
answer_b U V radio a b pushes answers (GivenBack handle n) rest first = plain_answer_b U V radio a b pushes answers (GivenBack handle n) rest tt refl first
answer_b U V radio a b pushes answers (LinkMade handle) rest first =
    let long = owed_long radio.b.owed rest (LinkMade handle) first refl in
    told_less U V radio (record radio { b = after_telling (LinkMade handle) (with_owed rest radio.b) }) a a b (hears_answer V answers B (LinkMade handle) b) pushes refl refl (omega arith)
answer_b U V radio a b pushes answers (LinkGone handle reason) rest first =
    let long = owed_long radio.b.owed rest (LinkGone handle reason) first refl in
    told_less U V radio (record radio { b = after_telling (LinkGone handle reason) (with_owed rest radio.b) }) a a b (hears_answer V answers B (LinkGone handle reason) b) pushes refl refl (omega arith)

piece_less : (one other rest : List Piece) (piece : Piece) → one ≡ piece ∷ rest → length rest + length other < length one + length other
piece_less one other rest piece first = let long : length one ≡ suc (length rest) = ap (λ (l : List Piece). length l) first in omega arith

-- ---- whatever happens without a word

none_asked_out : (asked : Bool) (n m : ℕ) → (1 ≤ n + m → asked ≡ true) → asked ≡ false → n ≡ 0
none_asked_out asked n m awaited off = by n awaited off
  where
    by : (n : ℕ) → (1 ≤ n + m → asked ≡ true) → asked ≡ false → n ≡ 0
    by zero awaited off = refl
    by (suc k) awaited off = let yes = awaited (omega arith) in absurd cc

below : {S T G H : Type 0} (U : Upper S G) (V : Upper T H) (happening : Happening) (old new : World S T) → Idles U → IsOwn happening old → Does U V happening old new → Kept U V old.radio old.a old.b old.pushes.going → LivelyIn U old
    → IsBelow (height U V new) (height U V old)
below U V (Tries A effort) old new idles own (station, makes, same) kept is =
    rw same (a_below U V old.radio old.radio old.a station old.b old.pushes (same_above old.radio) refl (effort_below U A effort old.radio.a old.a station makes (λ a off. none_asked_out old.a.asked (count old.a.out) (calling old.radio.phase + made (tidings old.radio.a.owed)) kept.one.awaits.awaited off)))
below U V (Tries B effort) old new idles own (station, makes, same) kept is =
    rw same (b_below U V old.radio old.radio old.a old.b station old.pushes (same_above old.radio) refl (effort_below V B effort old.radio.b old.b station makes (λ a off. absurd cc)))
below U V (Departure A order) old new idles own (rest, first, same) kept is = rw same (departs_a U V old.radio old.a old.b old.pushes order rest idles first kept is)
below U V (Departure B order) old new idles own (rest, first, same) kept is = rw same (departs_b U V old.radio old.a old.b old.pushes order rest idles first kept is)
below U V (GivingBack A) old new idles own same kept is =
    let less = back_below old.radio.a own in
    rw same (a_below U V old.radio (record old.radio { a = after_giving_back old.radio.a }) old.a old.a old.b old.pushes (record { phase = refl; number = refl; told_a = gives_back_tidings old.radio.a.told old.radio.a.taken old.radio.a.owed; told_b = refl; coming_a = refl; coming_b = refl }) refl
    (moves_below U A old.radio.a (after_giving_back old.radio.a) old.a old.a refl refl refl (omega arith)))
below U V (GivingBack B) old new idles own same kept is =
    let less = back_below old.radio.b own in
    rw same (b_below U V old.radio (record old.radio { b = after_giving_back old.radio.b }) old.a old.b old.b old.pushes (record { phase = refl; number = refl; told_a = refl; told_b = gives_back_tidings old.radio.b.told old.radio.b.taken old.radio.b.owed; coming_a = refl; coming_b = refl }) refl
    (moves_below V B old.radio.b (after_giving_back old.radio.b) old.b old.b refl refl refl (omega arith)))
below U V (Piecemeal A handle piece) old new idles own (rest, first, here, g, same) kept is =
    rw same (subst (λ (c : Controller). IsBelow (height_at U V (with_controller A c old.radio) (hears_piece U g handle piece old.a) old.b old.pushes) (height U V old)) (sym (handed_piece old.radio.a piece rest first))
    (inr (refl, inr (refl, inr (refl, inl (piece_less old.radio.a.coming old.radio.b.coming rest piece first))))))
below U V (Piecemeal B handle piece) old new idles own (rest, first, here, h, same) kept is =
    let long : length old.radio.b.coming ≡ suc (length rest) = ap (λ (l : List Piece). length l) first in
    rw same (subst (λ (c : Controller). IsBelow (height_at U V (with_controller B c old.radio) old.a (hears_piece V h handle piece old.b) old.pushes) (height U V old)) (sym (handed_piece old.radio.b piece rest first))
    (inr (refl, inr (refl, inr (refl, inl (omega arith))))))
below U V (Answering A answer) old new idles own (rest, none, first, g, same) kept is =
    rw same (subst (λ (c : Controller). IsBelow (height_at U V (with_controller A c old.radio) (hears_answer U g A answer old.a) old.b old.pushes) (height U V old)) (sym (handed_answer old.radio.a answer rest none first))
    (answer_a U V old.radio old.a old.b old.pushes g answer rest first))
below U V (Answering B answer) old new idles own (rest, none, first, h, same) kept is =
    rw same (subst (λ (c : Controller). IsBelow (height_at U V (with_controller B c old.radio) old.a (hears_answer V h B answer old.b) old.pushes) (height U V old)) (sym (handed_answer old.radio.b answer rest none first))
    (answer_b U V old.radio old.a old.b old.pushes h answer rest first))
below U V (Turns ordinal word) old new idles own does kept is = absurd own
below U V (Misses word) old new idles own does kept is = absurd own
below U V (Opens push name) old new idles own (idle, next, push_is, g, same) kept is =
    let still = next_going old.pushes.going (slice_get old.pushes.names old.pushes.begun) name next in
    let there : slice_get old.pushes.names old.pushes.begun ≡ Some name = subst (λ (going : Bool). (if going then None else slice_get old.pushes.names old.pushes.begun) ≡ Some name) still next in
    let within = slice_get_within old.pushes.names old.pushes.begun name there in
    rw same (inl (omega arith))
below U V (Closes push outcome) old new idles own (going, push_is, idle, came, apart, none_a, none_b, quiet_a, quiet_b, same) kept is =
    rw same (inl (closes_less (length old.pushes.names - old.pushes.begun) old.pushes.going going))
  where
    closes_less : (n : ℕ) (going : Bool) → going ≡ true → 2 * n + 0 < 2 * n + going_height going
    closes_less n true is = omega arith
    closes_less n false is = absurd cc

-- ---- so it ends

facts : {S T G H : Type 0} (U : Upper S G) (V : Upper T H) (size count : ℕ) (names : List (List ℕ)) (happenings : List Happening) (w : World S T) → AreOrderly U V → AreSizes size count → length names ≤ 0x0EFF → Runs U V happenings (first_world U V size count names) w
    → Kept U V w.radio w.a w.b w.pushes.going × LivelyIn U w
facts U V size count names happenings w orderly sizes few runs =
    let first = first_world U V size count names in
    let fits : Fits U V size = record { long = sizes.long; frames_a = orderly.frames_a; frames_b = orderly.frames_b; idles = orderly.idles } in
    let arrived = along U V happenings first (λ past words w. LivelyIn U w) happenings [] [] first w orderly.frames_a orderly.frames_b orderly.idles (keeps_lively U V size count names happenings orderly sizes) runs
    (reached_first U V size count names happenings fits) (first_lively U V size count names few) in
    (arrived.reached.kept, arrived.now)

-- of all worlds that a run leads to at that height
abbrev EndsAt : {S T G H : Type 0} → Upper S G → Upper T H → (size count : ℕ) → List (List ℕ) → List ℕ → Type 0
EndsAt {S} {T} U V size count names heights = (w : World S T) (happenings : List Happening) → height U V w ≡ heights → Runs U V happenings (first_world U V size count names) w → Settles U V w

pub settling_ends : {S T G H : Type 0} (U : Upper S G) (V : Upper T H) → SettlingEnds U V
settling_ends {S} {T} U V size count names happenings w orderly sizes few runs =
    falls 7 (EndsAt U V size count names)
    (λ xs long lower w done is to. Settling w (λ happening next own does.
    let known = facts U V size count names done w orderly sizes few to in
    lower (height U V next) refl (subst (λ (l : List ℕ). IsBelow (height U V next) l) is (below U V happening w next orderly.idles own does known.0 known.1)) next (done ++ happening ∷ []) refl
    (runs_then U V done happening (first_world U V size count names) w next to does)))
    (height U V w) refl w happenings refl runs
