-- A piece that a host has put out is of the last link that it was told of.
use Rattle.std.proofs.Common.{◌≡◌, ℕ, zero, suc, ◌+◌, ◌≤◌, ◌==◌, ◌&&◌, Bool, true, false, List, [], ◌∷◌, ◌++◌, Option, Some, None, if◌then◌else◌, refl, sym, ap, ◌∙◌, subst, arith}
use Rattle.std.proofs.lemmas.Bool.{eq-eqb}
use Rattle.std.proofs.lemmas.List.{append-nil}
use Rattle.std.proofs.lemmas.List.Concat.{flat_map-append}
use Rattle.turn_laws.specs.bt_base.specs.Octets.{le16}
use Rattle.turn_laws.specs.acl_fragments.specs.Pieces.{Piece}
use Rattle.turn_laws.specs.push_terms.specs.declared.word.Side.{Side}
use Rattle.turn_laws.specs.push_terms.specs.declared.word.Side.TheVariants.{A, B}
use Rattle.turn_laws.specs.push_terms.specs.declared.word.Way.{Way}
use Rattle.turn_laws.specs.push_terms.specs.declared.word.Way.TheVariants.{Ab, Ba}
use Rattle.turn_laws.specs.radio_model.specs.declared.fate.Fate.{Fate}
use Rattle.turn_laws.specs.radio_model.specs.Controllers.{Answer, Returned, Stated, Called, LinkMade, LinkGone, address, Controller}
use Rattle.turn_laws.specs.radio_model.specs.Radio.{Radio, Phase, Apart, Paging, Requested, Together, is_paging, is_requested, owes, scanning, is_reached, after_reaching, may_page, joined, knows_link, parted, with_piece, after_taking, after_meeting}
use Rattle.turn_laws.specs.world_model.specs.Stations.{Order, Reset, ReadBuffers, ReadAddress, Scan, Page, Accept, End, Data, asks}
use Rattle.turn_laws.specs.world_model.specs.Worlds.{piece_on, after_order}
use Rattle.turn_laws.proofs.Leading.{Tiding, Came, Went, tiding_in, tidings, made}
use Rattle.turn_laws.proofs.Wiring.{piece_at, asking, count, count-append}
use Rattle.turn_laws.proofs.Departing.{takes_packet}
use Rattle.turn_laws.proofs.Keeping.{calling}
use Rattle.turn_laws.proofs.Recording.{NoData}

-- ---- pieces among what was put out

abbrev pub AllAt : ℕ → List Order → Type 0
AllAt told [] = Unit {0}
AllAt told (Data handle piece ∷ rest) = (handle ≡ told) × (1 ≤ told) × AllAt told rest
AllAt told (order ∷ rest) = AllAt told rest

abbrev pub NoPieces : List Order → Type 0
NoPieces [] = Unit {0}
NoPieces (Data handle piece ∷ rest) = ⊥
NoPieces (order ∷ rest) = NoPieces rest

-- behind an order that asks for a link there is none
abbrev pub Behind : List Order → Type 0
Behind [] = Unit {0}
Behind (order ∷ rest) = (asks order ≡ true → NoPieces rest) × Behind rest

pub none_at : (told : ℕ) (out : List Order) → NoPieces out → AllAt told out
none_at told [] none = tt
none_at told (Data handle piece ∷ rest) none = absurd none
none_at told (Reset ∷ rest) none = none_at told rest none
none_at told (ReadBuffers ∷ rest) none = none_at told rest none
none_at told (ReadAddress ∷ rest) none = none_at told rest none
none_at told (Scan ∷ rest) none = none_at told rest none
none_at told (Page ∷ rest) none = none_at told rest none
none_at told (Accept ∷ rest) none = none_at told rest none
none_at told (End handle ∷ rest) none = none_at told rest none

none_tail : (order : Order) (rest : List Order) → NoPieces (order ∷ rest) → NoPieces rest
none_tail (Data handle piece) rest none = absurd none
none_tail Reset rest none = none
none_tail ReadBuffers rest none = none
none_tail ReadAddress rest none = none
none_tail Scan rest none = none
none_tail Page rest none = none
none_tail Accept rest none = none
none_tail (End handle) rest none = none

at_tail : (told : ℕ) (order : Order) (rest : List Order) → AllAt told (order ∷ rest) → AllAt told rest
at_tail told (Data handle piece) rest all = all.2
at_tail told Reset rest all = all
at_tail told ReadBuffers rest all = all
at_tail told ReadAddress rest all = all
at_tail told Scan rest all = all
at_tail told Page rest all = all
at_tail told Accept rest all = all
at_tail told (End handle) rest all = all

none_one : (order : Order) → NoData order → NoPieces (order ∷ [])
none_one (Data handle piece) plain = absurd plain
none_one Reset plain = tt
none_one ReadBuffers plain = tt
none_one ReadAddress plain = tt
none_one Scan plain = tt
none_one Page plain = tt
none_one Accept plain = tt
none_one (End handle) plain = tt

none_append : (one two : List Order) → NoPieces one → NoPieces two → NoPieces (one ++ two)
none_append [] two none more = more
none_append (Data handle piece ∷ one) two none more = absurd none
none_append (Reset ∷ one) two none more = none_append one two none more
none_append (ReadBuffers ∷ one) two none more = none_append one two none more
none_append (ReadAddress ∷ one) two none more = none_append one two none more
none_append (Scan ∷ one) two none more = none_append one two none more
none_append (Page ∷ one) two none more = none_append one two none more
none_append (Accept ∷ one) two none more = none_append one two none more
none_append (End handle ∷ one) two none more = none_append one two none more

at_append : (told : ℕ) (one two : List Order) → AllAt told one → AllAt told two → AllAt told (one ++ two)
at_append told [] two all more = more
at_append told (Data handle piece ∷ one) two all more = (all.0, all.1, at_append told one two all.2 more)
at_append told (Reset ∷ one) two all more = at_append told one two all more
at_append told (ReadBuffers ∷ one) two all more = at_append told one two all more
at_append told (ReadAddress ∷ one) two all more = at_append told one two all more
at_append told (Scan ∷ one) two all more = at_append told one two all more
at_append told (Page ∷ one) two all more = at_append told one two all more
at_append told (Accept ∷ one) two all more = at_append told one two all more
at_append told (End handle ∷ one) two all more = at_append told one two all more

-- an order behind all others
behind_plain : (out : List Order) (order : Order) → NoData order → Behind out → Behind (out ++ order ∷ [])
behind_plain [] order plain behind = ((λ asks. tt), tt)
behind_plain (first ∷ out) order plain (here, behind) = ((λ asks. none_append out (order ∷ []) (here asks) (none_one order plain)), behind_plain out order plain behind)

asks_none : (yes : Bool) (n : ℕ) (P : Type 0) → (if yes then 1 else 0) + n ≡ 0 → yes ≡ true → P
asks_none true n P none is = absurd (omega arith)
asks_none false n P none is = absurd cc

asks_rest : (yes : Bool) (n : ℕ) → (if yes then 1 else 0) + n ≡ 0 → n ≡ 0
asks_rest true n none = absurd (omega arith)
asks_rest false n none = omega arith

behind_piece : (out : List Order) (handle : ℕ) (piece : Piece) → count out ≡ 0 → Behind out → Behind (out ++ Data handle piece ∷ [])
behind_piece [] handle piece none behind = ((λ asks. tt), tt)
behind_piece (first ∷ out) handle piece none (here, behind) = ((λ yes. asks_none (asks first) (count out) _ none yes), behind_piece out handle piece (asks_rest (asks first) (count out) none) behind)

-- ---- a host, and how many links are about to be told to it

pub record Posted (told : ℕ) (up : Bool) (asked : ℕ) (waiting out : List Order) : Type 0 where
  pub here : AllAt told out
  pub behind : Behind out
  pub called : 1 ≤ asked → NoPieces out
  -- a link is asked for only where none is up
  pub off : 1 ≤ count waiting + (count out + asked) → up ≡ false

pub posted_less : (told told' : ℕ) (up up' : Bool) (asked asked' : ℕ) (waiting out : List Order) → told' ≡ told → up' ≡ up → asked' ≤ asked → Posted told up asked waiting out → Posted told' up' asked' waiting out
posted_less told told' up up' asked asked' waiting out same alike less posted = record {
  here = subst (λ (n : ℕ). AllAt n out) (sym same) posted.here;
  behind = posted.behind;
  called = λ some. posted.called (omega arith);
  off = λ some. alike ∙ posted.off (omega arith);
}

asks_one : (order : Order) → asks order ≡ true → asking order ≡ 1
asks_one order is = ap (λ (b : Bool). let n : ℕ = if b then 1 else 0 in n) is

called_by : (yes : Bool) (order : Order) (asked asked' : ℕ) (rest : List Order) → asks order ≡ yes → asked' ≤ asked + asking order → (asks order ≡ true → NoPieces rest) → (1 ≤ asked → NoPieces (order ∷ rest)) → 1 ≤ asked' → NoPieces rest
called_by true order asked asked' rest is less behind called some = behind is
called_by false order asked asked' rest is less behind called some =
    let none : asking order ≡ 0 = ap (λ (b : Bool). let n : ℕ = if b then 1 else 0 in n) is in
    none_tail order rest (called (omega arith))

-- an order moves
pub posted_out : (told told' : ℕ) (up up' : Bool) (asked asked' : ℕ) (waiting out : List Order) (order : Order) (rest : List Order) → out ≡ order ∷ rest → told' ≡ told → up' ≡ up → asked' ≤ asked + asking order → Posted told up asked waiting out → Posted told' up' asked' waiting rest
posted_out told told' up up' asked asked' waiting out order rest first same alike less posted =
    let now : Posted told up asked waiting (order ∷ rest) = subst (λ (l : List Order). Posted told up asked waiting l) first posted in
    record {
      here = subst (λ (n : ℕ). AllAt n rest) (sym same) (at_tail told order rest now.here);
      behind = now.behind.1;
      called = called_by (asks order) order asked asked' rest refl less now.behind.0 now.called;
      off = λ some. alike ∙ now.off (omega arith);
    }

zero_of : (n : ℕ) → (1 ≤ n → true ≡ false) → n ≡ 0
zero_of zero off = refl
zero_of (suc n) off = let no = off (omega arith) in absurd cc

off_none : (up : Bool) (n : ℕ) → up ≡ true → (1 ≤ n → up ≡ false) → n ≡ 0
off_none true n is off = zero_of n off
off_none false n is off = absurd cc

pub posted_puts : (told : ℕ) (up : Bool) (asked : ℕ) (waiting out : List Order) (handle : ℕ) (piece : Piece) → up ≡ true → told ≡ handle → 1 ≤ told → Posted told up asked waiting out → Posted told up asked waiting (out ++ Data handle piece ∷ [])
posted_puts told up asked waiting out handle piece on same least posted =
    let none = off_none up (count waiting + (count out + asked)) on posted.off in
    let more = count-append out (Data handle piece ∷ []) in
    record {
      here = at_append told out (Data handle piece ∷ []) posted.here (sym same, least, tt);
      behind = behind_piece out handle piece (omega arith) posted.behind;
      called = λ some. absurd (omega arith);
      off = λ some. absurd (omega arith);
    }

some_none : (piece : Piece) → ◌≡◌ {A = List Piece} (piece ∷ []) [] → ⊥
some_none piece is = cc

pub plain_of : (order : Order) → ((handle : ℕ) → piece_at handle order ≡ []) → NoData order
plain_of (Data handle piece) none = let one = none handle in let here = ap (λ (b : Bool). if b then piece ∷ [] else []) (eq-eqb handle handle refl) in absurd (some_none piece (sym here ∙ one))
plain_of Reset none = tt
plain_of ReadBuffers none = tt
plain_of ReadAddress none = tt
plain_of Scan none = tt
plain_of Page none = tt
plain_of Accept none = tt
plain_of (End handle) none = tt

pub posted_commands : (told : ℕ) (up : Bool) (asked : ℕ) (waiting out : List Order) (order : Order) (rest : List Order) → waiting ≡ order ∷ rest → NoData order → Posted told up asked waiting out → Posted told up asked rest (out ++ order ∷ [])
posted_commands told up asked waiting out order rest first plain posted =
    let more = count-append out (order ∷ []) in
    let all : count waiting ≡ asking order + count rest = ap count first in
    record {
      here = at_append told out (order ∷ []) posted.here (none_at told (order ∷ []) (none_one order plain));
      behind = behind_plain out order plain posted.behind;
      called = λ some. none_append out (order ∷ []) (posted.called some) (none_one order plain);
      off = λ some. posted.off (omega arith);
    }

off_by : (yes up : Bool) (n m : ℕ) → (yes ≡ true → up ≡ false) → (1 ≤ n + m → up ≡ false) → 1 ≤ n + (if yes then 1 else 0) + m → up ≡ false
off_by true up n m now before some = now refl
off_by false up n m now before some = before (omega arith)

-- one more waits: it asks for no link, or none is up
pub posted_waits : (told : ℕ) (up : Bool) (asked : ℕ) (waiting out : List Order) (order : Order) → (asks order ≡ true → up ≡ false) → Posted told up asked waiting out → Posted told up asked (waiting ++ order ∷ []) out
posted_waits told up asked waiting out order off posted =
    let more = count-append waiting (order ∷ []) in
    record { here = posted.here; behind = posted.behind; called = posted.called; off = λ some. off_by (asks order) up (count waiting) (count out + asked) off posted.off (omega arith) }

-- a link comes: nothing more is asked for
pub posted_made : (told handle asked asked' : ℕ) (up : Bool) (waiting out : List Order) → asked ≡ 1 + asked' → count waiting + (count out + asked) ≤ 1 → Posted told up asked waiting out → Posted handle true asked' waiting out
posted_made told handle asked asked' up waiting out one few posted = record {
  here = none_at handle out (posted.called (omega arith));
  behind = posted.behind;
  called = λ some. absurd (omega arith);
  off = λ some. absurd (omega arith);
}

pub posted_gone : (told asked asked' : ℕ) (up : Bool) (waiting out : List Order) → asked' ≤ asked → Posted told up asked waiting out → Posted told false asked' waiting out
posted_gone told asked asked' up waiting out less posted = record { here = posted.here; behind = posted.behind; called = λ some. posted.called (omega arith); off = λ some. refl }

-- ---- how many

abbrev pub asked_of : Side → Radio → ℕ
asked_of A radio = calling radio.phase + made (tidings radio.a.owed)
asked_of B radio = made (tidings radio.b.owed)

made_append : (one two : List Tiding) → made (one ++ two) ≡ made one + made two
made_append [] two = omega arith
made_append (Came handle ∷ one) two = let same = made_append one two in omega arith
made_append (Went handle reason ∷ one) two = made_append one two

pub made_more : (owed : List Answer) (answer : Answer) → made (tidings (owed ++ answer ∷ [])) ≡ made (tidings owed) + made (tiding_in answer)
made_more owed answer = ap made (flat_map-append tiding_in owed (answer ∷ []) ∙ ap (λ (l : List Tiding). tidings owed ++ l) (append-nil (tiding_in answer))) ∙ made_append (tidings owed) (tiding_in answer)

pub made_first : (owed : List Answer) (answer : Answer) (rest : List Answer) → owed ≡ answer ∷ rest → made (tidings owed) ≡ made (tiding_in answer) + made (tidings rest)
made_first owed answer rest first = ap (λ (l : List Answer). made (tidings l)) first ∙ made_append (tiding_in answer) (tidings rest)

less_if : (some : Bool) (side : Side) (one two : Radio) (n : ℕ) → (some ≡ true → asked_of side one ≤ n) → (some ≡ false → asked_of side two ≤ n) → asked_of side (if some then one else two) ≤ n
less_if true side one two n first second = first refl
less_if false side one two n first second = second refl

paging_calls : (phase : Phase) → is_paging phase ≡ true → calling phase ≡ 1
paging_calls Apart is = absurd cc
paging_calls Paging is = refl
paging_calls Requested is = absurd cc
paging_calls Together is = absurd cc

requested_calls : (phase : Phase) → is_requested phase ≡ true → calling phase ≡ 1
requested_calls Apart is = absurd cc
requested_calls Paging is = absurd cc
requested_calls Requested is = refl
requested_calls Together is = absurd cc

and_first : (a b : Bool) → (a && b) ≡ true → a ≡ true
and_first true b is = refl
and_first false b is = absurd cc

reach_asked : (side : Side) (radio : Radio) → asked_of side (after_reaching radio) ≤ asked_of side radio
reach_asked A radio = less_if (is_reached radio) A _ radio (asked_of A radio) (λ reached. let one = paging_calls radio.phase (and_first (is_paging radio.phase) _ reached) in omega arith) (λ not. omega arith)
reach_asked B radio = less_if (is_reached radio) B _ radio (asked_of B radio) (λ reached. let more = made_more radio.b.owed Called in omega arith) (λ not. omega arith)

-- a page is asked for by host a
abbrev one_of : Side → ℕ
one_of A = 1
one_of B = 0

page_asked : (side : Side) (radio : Radio) → asked_of side (if may_page radio then after_reaching (record radio { phase = Paging }) else radio) ≤ asked_of side radio + one_of side
page_asked A radio = less_if (may_page radio) A (after_reaching (record radio { phase = Paging })) radio (asked_of A radio + 1) (λ may. let less = reach_asked A (record radio { phase = Paging }) in omega arith) (λ not. omega arith)
page_asked B radio = less_if (may_page radio) B (after_reaching (record radio { phase = Paging })) radio (asked_of B radio + 0) (λ may. let less = reach_asked B (record radio { phase = Paging }) in omega arith) (λ not. omega arith)

owes_asked : (side by : Side) (answer : Answer) (radio : Radio) → made (tiding_in answer) ≡ 0 → asked_of side (owes by (answer ∷ []) radio) ≡ asked_of side radio
owes_asked A A answer radio none = let more = made_more radio.a.owed answer in omega arith
owes_asked B B answer radio none = let more = made_more radio.b.owed answer in omega arith
owes_asked A B answer radio none = refl
owes_asked B A answer radio none = refl

scan_asked : (side by : Side) (radio : Radio) → asked_of side (after_order by Scan radio) ≤ asked_of side radio
scan_asked A A radio = let one : Radio = owes A (Returned 0x0C1A (0 ∷ []) ∷ []) (scanning A 0x03 radio) in let more = made_more radio.a.owed (Returned 0x0C1A (0 ∷ [])) in let less = reach_asked A one in omega arith
scan_asked B A radio = reach_asked B (owes A (Returned 0x0C1A (0 ∷ []) ∷ []) (scanning A 0x03 radio))
scan_asked A B radio = reach_asked A (owes B (Returned 0x0C1A (0 ∷ []) ∷ []) (scanning B 0x03 radio))
scan_asked B B radio = let one : Radio = owes B (Returned 0x0C1A (0 ∷ []) ∷ []) (scanning B 0x03 radio) in let more = made_more radio.b.owed (Returned 0x0C1A (0 ∷ [])) in let less = reach_asked B one in omega arith

pub parted_asked : (for_a for_b : ℕ) (side : Side) (radio : Radio) → asked_of side (parted for_a for_b radio) ≤ asked_of side radio
parted_asked for_a for_b A radio = let more = made_more radio.a.owed (LinkGone radio.number for_a) in omega arith
parted_asked for_a for_b B radio = let more = made_more radio.b.owed (LinkGone radio.number for_b) in omega arith

-- a link that is made is told of to both; host a waited for it
abbrev other_one : Side → ℕ
other_one A = 0
other_one B = 1

joined_asked : (side : Side) (radio : Radio) → calling radio.phase ≡ 1 → asked_of side (joined radio) ≤ asked_of side radio + other_one side
joined_asked A radio called = let more = made_more radio.a.owed (LinkMade (radio.number + 1)) in omega arith
joined_asked B radio called = let more = made_more radio.b.owed (LinkMade (radio.number + 1)) in omega arith

owed_same : (flies : Bool) (piece : Option Piece) (one : Controller) → (with_piece flies piece one).owed ≡ one.owed
owed_same flies None one = refl
owed_same flies (Some piece) one = refl

data_tidings : (flies : Bool) (handle : ℕ) (piece : Piece) (one : Controller) → made (tidings (after_taking handle (with_piece flies (piece_on one handle piece) one)).owed) ≡ made (tidings one.owed)
data_tidings flies handle piece one =
    let took = takes_packet handle (with_piece flies (piece_on one handle piece) one) in
    ap (λ (c : Controller). made (tidings c.owed)) took.is ∙ ap made took.same ∙ ap (λ (l : List Answer). made (tidings l)) (owed_same flies (piece_on one handle piece) one)

-- what an order adds, at its own host
abbrev pub own_asking : Side → Side → Order → ℕ
own_asking A A order = asking order
own_asking B B order = asking order
own_asking side by order = 0

pub order_asked : (side by : Side) (order : Order) (radio : Radio) → asked_of side (after_order by order radio) ≤ asked_of side radio + own_asking side by order
order_asked side by Reset radio = let same = owes_asked side by (Returned 0x0C03 (0 ∷ [])) radio refl in omega arith
order_asked side by ReadBuffers radio = let same = owes_asked side by (Returned 0x1005 (0 ∷ (le16 radio.size ++ (0 ∷ (le16 radio.count ++ le16 0))))) radio refl in omega arith
order_asked side A ReadAddress radio = let same = owes_asked side A (Returned 0x1009 (0 ∷ address A)) radio refl in omega arith
order_asked side B ReadAddress radio = let same = owes_asked side B (Returned 0x1009 (0 ∷ address B)) radio refl in omega arith
order_asked side by Scan radio = let less = scan_asked side by radio in omega arith
order_asked A A Page radio = let same = owes_asked A A (Stated 0x0405) radio refl in let less = page_asked A (owes A (Stated 0x0405 ∷ []) radio) in omega arith
order_asked B A Page radio = let same = owes_asked B A (Stated 0x0405) radio refl in let less = page_asked B (owes A (Stated 0x0405 ∷ []) radio) in omega arith
order_asked side B Page radio = let same = owes_asked side B (Stated 0x0405) radio refl in omega arith
order_asked side A Accept radio = let same = owes_asked side A (Stated 0x0409) radio refl in omega arith
order_asked A B Accept radio =
    let one : Radio = owes B (Stated 0x0409 ∷ []) radio in
    let same = owes_asked A B (Stated 0x0409) radio refl in
    less_if (is_requested radio.phase) A (joined one) one (asked_of A radio + 0) (λ is. let less = joined_asked A one (requested_calls radio.phase is) in omega arith) (λ not. omega arith)
order_asked B B Accept radio =
    let one : Radio = owes B (Stated 0x0409 ∷ []) radio in
    let same = owes_asked B B (Stated 0x0409) radio refl in
    less_if (is_requested radio.phase) B (joined one) one (asked_of B radio + 1) (λ is. let less = joined_asked B one (requested_calls radio.phase is) in omega arith) (λ not. omega arith)
order_asked side A (End handle) radio =
    let one : Radio = owes A (Stated 0x0406 ∷ []) radio in
    let same = owes_asked side A (Stated 0x0406) radio refl in
    less_if (knows_link A radio && (handle == radio.number)) side (parted 0x16 0x13 one) one (asked_of side radio + own_asking side A (End handle)) (λ ends. let less = parted_asked 0x16 0x13 side one in omega arith) (λ not. omega arith)
order_asked side B (End handle) radio =
    let one : Radio = owes B (Stated 0x0406 ∷ []) radio in
    let same = owes_asked side B (Stated 0x0406) radio refl in
    less_if (knows_link B radio && (handle == radio.number)) side (parted 0x13 0x16 one) one (asked_of side radio + own_asking side B (End handle)) (λ ends. let less = parted_asked 0x13 0x16 side one in omega arith) (λ not. omega arith)
order_asked A A (Data handle piece) radio = let same = data_tidings (knows_link A radio) handle piece radio.a in omega arith
order_asked B B (Data handle piece) radio = let same = data_tidings (knows_link B radio) handle piece radio.b in omega arith
order_asked A B (Data handle piece) radio = omega arith
order_asked B A (Data handle piece) radio = omega arith

pub met_asked : (side : Side) (way : Way) (fate : Fate) (checked : Bool) (queue : List (List ℕ)) (radio : Radio) → asked_of side (after_meeting way fate checked queue radio) ≡ asked_of side radio
met_asked side way fate checked [] radio = refl
met_asked A Ab fate checked (frame ∷ rest) radio = refl
met_asked B Ab fate checked (frame ∷ rest) radio = refl
met_asked A Ba fate checked (frame ∷ rest) radio = refl
met_asked B Ba fate checked (frame ∷ rest) radio = refl
