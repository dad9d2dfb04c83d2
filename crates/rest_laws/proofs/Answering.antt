-- What comes into a host leaves it so.
use Rattle.std.proofs.Common.{◌≡◌, ◌⊎◌, ℕ, ◌+◌, ◌-◌, ◌==◌, ◌&&◌, ◌||◌, not, nat_le, min, leb, Bool, true, false, List, [], ◌∷◌, ◌++◌, drop, map, Option, Some, None, is_none, if◌then◌else◌, inl, inr, refl, sym, ap, ◌∙◌, subst, arith}
use Rattle.std.specs.List.{list_any, AllByRecursion}
use Rattle.std.proofs.lemmas.Bool.{eq-eqb, eqb-true, le-leb}
use Rattle.byteorder.specs.Endian.{little_number}
use Rattle.station_laws.specs.bt_base.specs.Octets.{le16}
use Rattle.station_laws.specs.bt_base.proofs.OctetLemmas.{le16-number}
use Rattle.station_laws.specs.acl_fragments.specs.Pieces.{Piece}
use Rattle.station_laws.specs.push_terms.specs.declared.word.Side.{Side}
use Rattle.station_laws.specs.push_terms.specs.declared.word.Side.TheVariants.{A, B}
use Rattle.station_laws.specs.radio_model.specs.Controllers.{Answer, Returned, Stated, Called, LinkMade, LinkGone, GivenBack, Controller, after_telling}
use Rattle.station_laws.specs.world_model.specs.Machines.{Heard, Upper}
use Rattle.station_laws.specs.world_model.specs.Stations.{Order, Accept, opcode, asks, Station, longest_pdu, gives, holds, is_handle, hears_each, hears_piece, answered, learns, may_accept, hears_answer}
use Rattle.station_laws.specs.turn_laws.proofs.Leading.{Tiding, Came, Went, tidings, made, Led}
use Rattle.station_laws.specs.turn_laws.proofs.Wiring.{count}
use Rattle.station_laws.specs.turn_laws.proofs.Stationing.{linked_handle, Steady}
use Rattle.station_laws.specs.turn_laws.proofs.Hearing.{with_owed, rest_tidings}
use Rattle.station_laws.specs.turn_laws.proofs.Answering.{made_by, gone_by}
use Rattle.station_laws.specs.Coming.{IsReturned, AreBuffers}
use Rattle.station_laws.proofs.Owing.{numbers_in, numbers_of, IsRight, IsRightOne}
use Rattle.station_laws.proofs.Pending.{Pending, number_awaited, it_is}
use Rattle.rest_laws.specs.Premises.{AsksOnce}
use Rattle.rest_laws.proofs.Living.{due, HasLearnt, LivesAt, LivesOf, lives_if, lives_waits}
use Rattle.rest_laws.proofs.Calling.{called_by}

-- ---- the answer to the command that is awaited

pub record Answers {S : Type 0} (number : ℕ) (station : Station S) : Type 0 where
  pub is : station.awaited ≡ Some number
  pub none_then : answered number station.awaited ≡ None

answers_it : {S : Type 0} (number : ℕ) (rest : List Answer) (station : Station S) → numbers_of station.out ++ number ∷ numbers_in rest ≡ number_awaited station.awaited → Answers number station
answers_it number rest station all =
    let it = it_is (numbers_of station.out) (numbers_in rest) number station.awaited all in
    record {
      is = it.is;
      none_then = ap (λ (awaited : Option ℕ). answered number awaited) it.is ∙ ap (λ (b : Bool). if b then None else Some number) (eq-eqb number number refl);
    }

altered : {S : Type 0} (side : Side) (extra told : ℕ) (up : Bool) (rest : List Tiding) (old : Station S) (awaited : Option ℕ) (size total : ℕ) → HasLearnt total (due awaited old.waiting) old.asked old.link
    → LivesAt side extra told up rest old → LivesAt side extra told up rest (record old { awaited = awaited; size = size; total = total })
altered side extra told up rest old awaited size total learnt lives = record { own_waiting = lives.own_waiting; own_out = lives.own_out; learnt = learnt; waited = lives.waited; ends = lives.ends }

first_same : (n m : ℕ) (one two : List ℕ) → n ∷ one ≡ m ∷ two → n ≡ m
first_same n m one two same = cc

-- one that is not of the buffers
learnt_next : (total number : ℕ) (later : List ℕ) (asked : Bool) (link : Option ℕ) → (number ≡ 0x1005 → ⊥) → HasLearnt total (number ∷ later) asked link → HasLearnt total later asked link
learnt_next total number later asked link other learnt = elim learnt [
  | inl some ↦ inl some
  | inr learning ↦
      elim learning.first [
        | inl all ↦ inr (record { first = inr (all.0, ap (λ (l : List ℕ). drop 1 l) all.1); unasked = learning.unasked; off = learning.off })
        | inr one ↦ absurd (other (first_same number 0x1005 later _ one.1))
      ]
]

due_is : {S : Type 0} (number : ℕ) (old : Station S) → old.awaited ≡ Some number → due old.awaited old.waiting ≡ number ∷ map opcode old.waiting
due_is number old is = ap (λ (awaited : Option ℕ). due awaited old.waiting) is

plain_learnt : {S : Type 0} (number : ℕ) (old : Station S) → Answers number old → (number ≡ 0x1005 → ⊥) → HasLearnt old.total (due old.awaited old.waiting) old.asked old.link → HasLearnt old.total (due (answered number old.awaited) old.waiting) old.asked old.link
plain_learnt number old answers other learnt =
    subst (λ (awaited : Option ℕ). HasLearnt old.total (due awaited old.waiting) old.asked old.link) (sym answers.none_then)
    (learnt_next old.total number (map opcode old.waiting) old.asked old.link other (subst (λ (l : List ℕ). HasLearnt old.total l old.asked old.link) (due_is number old answers.is) learnt))

-- ---- what Read Buffer Size returns

buffers_of : (number : ℕ) (params : List ℕ) → IsReturned number params → number ≡ 0x1005 → AreBuffers params
buffers_of number params returned is =
    elim returned [
      | inl reset ↦ absurd (other 0x0C03 number reset.0 is (λ same. omega arith))
      | inr more ↦
          elim more [
            | inl scan ↦ absurd (other 0x0C1A number scan.0 is (λ same. omega arith))
            | inr rest ↦ elim rest [ inl address ↦ absurd (other 0x1009 number address.0 is (λ same. omega arith)) | inr buffers ↦ buffers.1 ]
          ]
    ]
  where
    other : (n number : ℕ) → number ≡ n → number ≡ 0x1005 → (n ≡ 0x1005 → ⊥) → ⊥
    other n number one two apart = apart (sym one ∙ two)

both_true : (a b : Bool) → a ≡ true → b ≡ true → (a && b) ≡ true
both_true true b one two = two
both_true false b one two = absurd cc

returned_lives : {S : Type 0} (side : Side) (extra told : ℕ) (up : Bool) (rest : List Tiding) (old : Station S) (number : ℕ) (params : List ℕ) (buffers : Bool) → (number == 0x1005) ≡ buffers → IsReturned number params → Answers number old → LivesAt side extra told up rest old
    → LivesAt side extra told up rest (if buffers then learns params (record old { awaited = answered number old.awaited }) else record old { awaited = answered number old.awaited })
returned_lives side extra told up rest old number params false is returned answers lives =
    altered side extra told up rest old (answered number old.awaited) old.size old.total (plain_learnt number old answers (λ same. let test = eq-eqb number 0x1005 same in cc) lives.learnt) lives
returned_lives {S} side extra told up rest old number params true is returned answers lives =
    let are = buffers_of number params returned (eqb-true number 0x1005 is) in
    let size : ℕ = little_number 2 (drop 1 params) in
    let total : ℕ = little_number 2 (drop 4 params) in
    let size_is : size ≡ are.size = ap (λ (l : List ℕ). little_number 2 (drop 1 l)) are.are ∙ le16-number are.size (0 ∷ (le16 are.count ++ le16 0)) are.size_fits in
    let total_is : total ≡ are.count = ap (λ (l : List ℕ). little_number 2 (drop 4 l)) are.are ∙ le16-number are.count (le16 0) are.count_fits in
    let long = are.long in
    let some = are.some in
    let longs : leb 27 size ≡ true = le-leb 27 size (omega arith) in
    let awaited : Option ℕ = answered number old.awaited in
    lives_if side extra told up rest (is_none old.link && nat_le 27 size) (record old { awaited = awaited; size = min size 1021; total = min total 64 }) (record old { awaited = awaited })
    (λ learns_now. altered side extra told up rest old awaited (min size 1021) (min total 64) (inl (omega arith)) lives)
    (λ never. altered side extra told up rest old awaited old.size old.total
    (elim lives.learnt [
      | inl known ↦ inl known
      | inr learning ↦ let off : is_none old.link ≡ true = ap (λ (l : Option ℕ). is_none l) learning.off in let both = both_true (is_none old.link) (nat_le 27 size) off longs in absurd cc
    ]) lives)

-- ---- whatever answer comes

stated_other : (number : ℕ) → (number ≡ 0x0405) ⊎ ((number ≡ 0x0406) ⊎ (number ≡ 0x0409)) → number ≡ 0x1005 → ⊥
stated_other number stated is = elim stated [ inl one ↦ omega arith | inr more ↦ elim more [ inl two ↦ omega arith | inr three ↦ omega arith ] ]

left_as : {S : Type 0} (side : Side) (extra told : ℕ) (up : Bool) (one two : List Tiding) (station : Station S) → two ≡ one → LivesAt side extra told up one station → LivesAt side extra told up two station
left_as side extra told up one two station same lives = subst (λ (l : List Tiding). LivesAt side extra told up l station) (sym same) lives

called_lives : {S G : Type 0} (U : Upper S G) (answers : List G) (side : Side) (extra told : ℕ) (up : Bool) (rest : List Tiding) (old : Station S) → LivesAt side extra told up rest old → LivesAt side extra told up rest (hears_answer U answers side Called old)
called_lives U answers A extra told up rest old lives = lives
called_lives U answers B extra told up rest old lives =
    lives_if B extra told up rest (may_accept B old) (record old { waiting = old.waiting ++ Accept ∷ [] }) old (λ may. lives_waits B extra told up rest old Accept tt lives) (λ never. lives)

pub lives_answer : {S G : Type 0} (U : Upper S G) (answers : List G) (side : Side) (number : ℕ) (together : Bool) (extra : ℕ) (one : Controller) (old : Station S) (answer : Answer) (rest : List Answer) → one.owed ≡ answer ∷ rest
    → Steady U number together extra one old → IsRightOne one → Pending one.owed old → LivesOf side extra one old → LivesOf side extra (after_telling answer (with_owed rest one)) (hears_answer U answers side answer old)
lives_answer {S} U answers side number together extra one old (Returned opcode params) rest first steady right pending lives =
    let all = subst (AllByRecursion IsRight) first right.owed in
    let it = answers_it opcode rest old (ap (λ (owed : List Answer). numbers_of old.out ++ numbers_in owed) (sym first) ∙ pending.pends) in
    left_as side extra one.told one.up (tidings one.owed) (tidings rest) (hears_answer U answers side (Returned opcode params) old) (rest_tidings one.owed rest (Returned opcode params) first refl)
    (returned_lives side extra one.told one.up (tidings one.owed) old opcode params (opcode == 0x1005) refl all.0 it lives)
lives_answer {S} U answers side number together extra one old (Stated opcode) rest first steady right pending lives =
    let all = subst (AllByRecursion IsRight) first right.owed in
    let it = answers_it opcode rest old (ap (λ (owed : List Answer). numbers_of old.out ++ numbers_in owed) (sym first) ∙ pending.pends) in
    left_as side extra one.told one.up (tidings one.owed) (tidings rest) (hears_answer U answers side (Stated opcode) old) (rest_tidings one.owed rest (Stated opcode) first refl)
    (altered side extra one.told one.up (tidings one.owed) old (answered opcode old.awaited) old.size old.total (plain_learnt opcode old it (stated_other opcode all.0) lives.learnt) lives)
lives_answer U answers side number together extra one old Called rest first steady right pending lives =
    left_as side extra one.told one.up (tidings one.owed) (tidings rest) (hears_answer U answers side Called old) (rest_tidings one.owed rest Called first refl) (called_lives U answers side extra one.told one.up (tidings one.owed) old lives)
lives_answer {S} U answers side number together extra one old (LinkMade handle) rest first steady right pending lives =
    let owed : tidings one.owed ≡ Came handle ∷ tidings rest = ap tidings first in
    let led : Led one.told one.up (Came handle ∷ tidings rest) number together = subst (λ (l : List Tiding). Led one.told one.up l number together) owed steady.led in
    let counted : made (tidings one.owed) ≡ 1 + made (tidings rest) = ap made owed in
    let asked = steady.awaits.awaited (omega arith) in
    let off : old.link ≡ None = steady.link ∙ ap (λ (b : Bool). linked_handle b one.told) led.0 in
    subst (λ (s : Station S). LivesAt side extra handle true (tidings rest) s) (made_by U answers side handle old asked off)
    (record {
      own_waiting = lives.own_waiting;
      own_out = lives.own_out;
      learnt = elim lives.learnt [ inl known ↦ inl known | inr learning ↦ let unasked = learning.unasked in absurd cc ];
      waited = λ still. absurd cc;
      ends = λ ending on. absurd cc;
    })
lives_answer {S} U answers side number together extra one old (LinkGone handle reason) rest first steady right pending lives =
    let owed : tidings one.owed ≡ Went handle reason ∷ tidings rest = ap tidings first in
    let led : Led one.told one.up (Went handle reason ∷ tidings rest) number together = subst (λ (l : List Tiding). Led one.told one.up l number together) owed steady.led in
    let counted : made (tidings one.owed) ≡ made (tidings rest) = ap made owed in
    let link : old.link ≡ Some one.told = steady.link ∙ ap (λ (b : Bool). linked_handle b one.told) led.0 in
    let here : is_handle handle old.link ≡ true = ap (λ (l : Option ℕ). is_handle handle l) link ∙ eq-eqb one.told handle (sym led.1) in
    subst (λ (s : Station S). LivesAt side extra one.told false (tidings rest) s) (gone_by U answers side handle reason old here)
    (record {
      own_waiting = lives.own_waiting;
      own_out = lives.own_out;
      learnt = elim lives.learnt [ inl known ↦ inl known | inr learning ↦ let off = learning.off in absurd cc ];
      waited = λ asked. let some = lives.waited asked in omega arith;
      ends = λ ending on. absurd cc;
    })
lives_answer U answers side number together extra one old (GivenBack handle n) rest first steady right pending lives =
    left_as side extra one.told one.up (tidings one.owed) (tidings rest) (hears_answer U answers side (GivenBack handle n) old) (rest_tidings one.owed rest (GivenBack handle n) first refl)
    (lives_if side extra one.told one.up (tidings one.owed) (is_handle handle old.link && nat_le n old.outstanding) (record old { outstanding = old.outstanding - n }) old (λ gives_now. lives) (λ never. lives))

-- a piece
pub lives_piece : {S G : Type 0} (U : Upper S G) (answers : List G) (side : Side) (extra told : ℕ) (up : Bool) (rest : List Tiding) (handle : ℕ) (piece : Piece) (old : Station S) → LivesAt side extra told up rest old
    → LivesAt side extra told up rest (hears_piece U answers handle piece old)
lives_piece U answers side extra told up rest handle piece old lives =
    lives_if side extra told up rest (is_handle handle old.link) (record old { upper = hears_each U answers (gives longest_pdu old.joining piece) old.upper; joining = holds longest_pdu old.joining piece }) old (λ here. lives) (λ never. lives)

-- ---- its orders

abbrev pub orders_of : {S : Type 0} → Station S → List Order × List Order
orders_of station = (station.waiting, station.out)

pub if_orders : {S : Type 0} (some : Bool) (one two : Station S) → orders_of one ≡ orders_of two → orders_of (if some then one else two) ≡ orders_of two
if_orders true one two same = same
if_orders false one two same = refl

-- an answer that is no request leaves them
pub orders_stay : {S G : Type 0} (U : Upper S G) (answers : List G) (side : Side) (answer : Answer) (old : Station S) → called_by answer ≡ 0 → orders_of (hears_answer U answers side answer old) ≡ orders_of old
orders_stay {S} U answers side (Returned number params) old none =
    let plain : Station S = record old { awaited = answered number old.awaited } in
    if_orders (number == 0x1005) (learns params plain) plain
    (if_orders (is_none old.link && nat_le 27 (little_number 2 (drop 1 params))) (record plain { size = min (little_number 2 (drop 1 params)) 1021; total = min (little_number 2 (drop 4 params)) 64 }) plain refl)
orders_stay U answers side (Stated number) old none = refl
orders_stay U answers side Called old none = absurd (omega arith)
orders_stay {S} U answers side (LinkMade handle) old none =
    let up : Station S = record old { asked = false; link = Some handle; ending = false; joining = [] } in
    let off : Station S = record old { asked = false } in
    if_orders old.asked (if is_none old.link then up else off) old (if_orders (is_none old.link) up off refl)
orders_stay {S} U answers side (LinkGone handle reason) old none = if_orders (is_handle handle old.link) (record old { outstanding = 0; link = None; ending = false; joining = []; pieces = [] }) old refl
orders_stay {S} U answers side (GivenBack handle n) old none = if_orders (is_handle handle old.link && nat_le n old.outstanding) (record old { outstanding = old.outstanding - n }) old refl

pub piece_orders : {S G : Type 0} (U : Upper S G) (answers : List G) (handle : ℕ) (piece : Piece) (old : Station S) → orders_of (hears_piece U answers handle piece old) ≡ orders_of old
piece_orders U answers handle piece old = if_orders (is_handle handle old.link) (record old { upper = hears_each U answers (gives longest_pdu old.joining piece) old.upper; joining = holds longest_pdu old.joining piece }) old refl

-- ---- what its machine wants

pub each_wants : {S G : Type 0} (U : Upper S G) (answers : List G) (pdus : List (List ℕ)) (upper : S) → AsksOnce U → U.wants_link upper ≡ false → U.wants_link (hears_each U answers pdus upper) ≡ false
each_wants U answers [] upper once none = none
each_wants U answers (pdu ∷ pdus) upper once none = each_wants U answers pdus (U.hear answers (Heard pdu) upper) once (once.hears answers (Heard pdu) upper tt none)

pub if_upper : {S G : Type 0} (U : Upper S G) (some : Bool) (one two : Station S) → U.wants_link one.upper ≡ false → U.wants_link two.upper ≡ false → U.wants_link (if some then one else two).upper ≡ false
if_upper U true one two first second = first
if_upper U false one two first second = second

pub piece_wants : {S G : Type 0} (U : Upper S G) (answers : List G) (handle : ℕ) (piece : Piece) (old : Station S) → AsksOnce U → U.wants_link old.upper ≡ false → U.wants_link (hears_piece U answers handle piece old).upper ≡ false
piece_wants U answers handle piece old once none =
    if_upper U (is_handle handle old.link) (record old { upper = hears_each U answers (gives longest_pdu old.joining piece) old.upper; joining = holds longest_pdu old.joining piece }) old
    (each_wants U answers (gives longest_pdu old.joining piece) old.upper once none) none

-- ---- host b is asked, while it knows of no link

any_none : (orders : List Order) → count orders ≡ 0 → list_any asks orders ≡ false
any_none [] none = refl
any_none (order ∷ rest) none = none_by (asks order) (count rest) none (any_none rest)
  where
    none_by : (first : Bool) (n : ℕ) {more : Bool} → (if first then 1 else 0) + n ≡ 0 → (n ≡ 0 → more ≡ false) → (first || more) ≡ false
    none_by true n none rest = absurd (omega arith)
    none_by false n none rest = rest (omega arith)

pub accepts : {S : Type 0} (old : Station S) → old.link ≡ None → old.asked ≡ false → count old.waiting ≡ 0 → may_accept B old ≡ true
accepts old off unasked none =
    both_true (is_none old.link) (not old.asked && not (list_any asks old.waiting)) (ap (λ (l : Option ℕ). is_none l) off)
    (both_true (not old.asked) (not (list_any asks old.waiting)) (ap not unasked) (ap not (any_none old.waiting none)))
