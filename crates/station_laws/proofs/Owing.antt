-- What controllers owe their hosts, and the answers to commands among it.
use Rattle.std.proofs.Common.{◌≡◌, ℕ, ◌+◌, ◌<◌, ◌≤◌, ◌^◌, ◌==◌, ◌&&◌, ◌||◌, not, nat_lt, nat_le, eqb, Bool, true, false, List, [], ◌∷◌, ◌++◌, length, Option, Some, None, if◌then◌else◌, inl, inr, refl, sym, ap, ◌∙◌, subst, append_assoc, append-nil, arith}
use Rattle.std.specs.List.{AllByRecursion}
use Rattle.std.proofs.lemmas.Bool.{cases_Bool, ltb-true, eqb-false, or_left, or_right}
use Rattle.turn_laws.specs.bt_base.specs.Octets.{le16}
use Rattle.turn_laws.specs.bt_base.specs.Numbers.{IsHandle}
use Rattle.turn_laws.specs.acl_fragments.specs.Pieces.{Piece}
use Rattle.turn_laws.specs.push_terms.specs.declared.word.Side.{Side}
use Rattle.turn_laws.specs.push_terms.specs.declared.word.Side.TheVariants.{A, B}
use Rattle.turn_laws.specs.push_terms.specs.declared.word.Way.{Way}
use Rattle.turn_laws.specs.push_terms.specs.declared.word.Way.TheVariants.{Ab, Ba}
use Rattle.turn_laws.specs.radio_model.specs.declared.fate.Fate.{Fate}
use Rattle.turn_laws.specs.radio_model.specs.Controllers.{Answer, Returned, Stated, Called, LinkMade, LinkGone, GivenBack, address, other_side, Controller, owing, after_giving_back, after_telling, after_first_of, after_handing}
use Rattle.turn_laws.specs.radio_model.specs.Radio.{Radio, Paging, is_apart, is_paging, is_requested, controller, with_controller, owes, may_page, is_reached, after_reaching, after_paging, after_accepting, parting, parted, parted_by, knows_link, after_disconnecting, scanning, with_piece, after_taking, after_meeting}
use Rattle.turn_laws.specs.world_model.specs.Stations.{Order, ReadBuffers, ReadAddress, Scan, Page, Accept, End, Data, opcode}
use Rattle.turn_laws.specs.world_model.specs.Stations as orders
use Rattle.turn_laws.specs.world_model.specs.Worlds.{piece_on, after_order}
use Rattle.station_laws.specs.Coming.{IsReturned, IsStated}
use Rattle.station_laws.specs.WorldLaws.{AreSizes}

-- ---- the commands that have no answer yet

abbrev pub number_of : Order → List ℕ
number_of (Data handle piece) = []
number_of order = opcode order ∷ []

abbrev pub numbers_of : List Order → List ℕ
numbers_of [] = []
numbers_of (order ∷ orders) = number_of order ++ numbers_of orders

abbrev pub number_in : Answer → List ℕ
number_in (Returned number params) = number ∷ []
number_in (Stated number) = number ∷ []
number_in answer = []

abbrev pub numbers_in : List Answer → List ℕ
numbers_in [] = []
numbers_in (answer ∷ answers) = number_in answer ++ numbers_in answers

pub numbers_of-append : (one two : List Order) → numbers_of (one ++ two) ≡ numbers_of one ++ numbers_of two
numbers_of-append [] two = refl
numbers_of-append (order ∷ one) two = ap (λ (l : List ℕ). number_of order ++ l) (numbers_of-append one two) ∙ sym (append_assoc (number_of order) (numbers_of one) (numbers_of two))

numbers_in-append : (one two : List Answer) → numbers_in (one ++ two) ≡ numbers_in one ++ numbers_in two
numbers_in-append [] two = refl
numbers_in-append (answer ∷ one) two = ap (λ (l : List ℕ). number_in answer ++ l) (numbers_in-append one two) ∙ sym (append_assoc (number_in answer) (numbers_in one) (numbers_in two))

-- ---- what is true of a controller, and of the radio

-- an answer that may come once its command is awaited
abbrev pub IsRight : Answer → Type 0
IsRight (Returned number params) = IsReturned number params
IsRight (Stated number) = IsStated number
IsRight Called = Unit {0}
IsRight (LinkMade handle) = IsHandle handle
IsRight (LinkGone handle reason) = IsHandle handle
IsRight (GivenBack handle count) = IsHandle handle × (count < 2 ^ 16)

pub record IsRightOne (one : Controller) : Type 0 where
  pub owed : AllByRecursion IsRight one.owed
  pub told : one.told ≤ 0x0EFF
  pub taken : one.taken ≤ 65535

pub record IsRightRadio (size count : ℕ) (radio : Radio) : Type 0 where
  pub a : IsRightOne radio.a
  pub b : IsRightOne radio.b
  pub number : radio.number ≤ 0x0EFF
  -- there is a handle left for the link that is asked for
  pub room : (is_paging radio.phase || is_requested radio.phase) ≡ true → radio.number < 0x0EFF
  pub size_is : radio.size ≡ size
  pub count_is : radio.count ≡ count

-- a change after which no command more is answered
pub record OneGoes (old new : Controller) : Type 0 where
  pub right : IsRightOne new
  pub same : numbers_in new.owed ≡ numbers_in old.owed

pub record Goes (size count : ℕ) (old new : Radio) : Type 0 where
  pub right : IsRightRadio size count new
  pub same_a : numbers_in new.a.owed ≡ numbers_in old.a.owed
  pub same_b : numbers_in new.b.owed ≡ numbers_in old.b.owed

-- a change after which commands of these numbers are answered to the host of a side
pub record Owed (size count : ℕ) (side : Side) (numbers : List ℕ) (old new : Radio) : Type 0 where
  pub right : IsRightRadio size count new
  pub own : numbers_in (controller side new).owed ≡ numbers_in (controller side old).owed ++ numbers
  pub other : numbers_in (controller (other_side side) new).owed ≡ numbers_in (controller (other_side side) old).owed

unchanged : (size count : ℕ) (radio : Radio) → IsRightRadio size count radio → Goes size count radio radio
unchanged size count radio right = record { right = right; same_a = refl; same_b = refl }

quiet_is : (size count : ℕ) (side : Side) (old new : Radio) → Goes size count old new → Owed size count side [] old new
quiet_is size count A old new goes = record { right = goes.right; own = goes.same_a ∙ sym (append-nil (numbers_in old.a.owed)); other = goes.same_b }
quiet_is size count B old new goes = record { right = goes.right; own = goes.same_b ∙ sym (append-nil (numbers_in old.b.owed)); other = goes.same_a }

then_quiet : (size count : ℕ) (side : Side) (numbers : List ℕ) (old mid new : Radio) → Owed size count side numbers old mid → Goes size count mid new → Owed size count side numbers old new
then_quiet size count A numbers old mid new owed goes = record { right = goes.right; own = goes.same_a ∙ owed.own; other = goes.same_b ∙ owed.other }
then_quiet size count B numbers old mid new owed goes = record { right = goes.right; own = goes.same_b ∙ owed.own; other = goes.same_a ∙ owed.other }

after_quiet : (size count : ℕ) (side : Side) (numbers : List ℕ) (old mid new : Radio) → Goes size count old mid → Owed size count side numbers mid new → Owed size count side numbers old new
after_quiet size count A numbers old mid new goes owed =
    record { right = owed.right; own = owed.own ∙ ap (λ (l : List ℕ). l ++ numbers) goes.same_a; other = owed.other ∙ goes.same_b }
after_quiet size count B numbers old mid new goes owed =
    record { right = owed.right; own = owed.own ∙ ap (λ (l : List ℕ). l ++ numbers) goes.same_b; other = owed.other ∙ goes.same_a }

-- ---- one controller

all_more : (answers : List Answer) (answer : Answer) → AllByRecursion IsRight answers → IsRight answer → AllByRecursion IsRight (answers ++ answer ∷ [])
all_more [] answer all is = (is, tt)
all_more (first ∷ answers) answer (first_is, all) is = (first_is, all_more answers answer all is)

owing_right : (one : Controller) (answer : Answer) → IsRightOne one → IsRight answer → IsRightOne (owing (answer ∷ []) one)
owing_right one answer right is = record { owed = all_more one.owed answer right.owed is; told = right.told; taken = right.taken }

more_numbers : (answers : List Answer) (answer : Answer) → numbers_in (answers ++ answer ∷ []) ≡ numbers_in answers ++ number_in answer
more_numbers answers answer = numbers_in-append answers (answer ∷ []) ∙ ap (λ (l : List ℕ). numbers_in answers ++ l) (append-nil (number_in answer))

no_numbers : (answers : List Answer) (answer : Answer) → number_in answer ≡ [] → numbers_in (answers ++ answer ∷ []) ≡ numbers_in answers
no_numbers answers answer none = more_numbers answers answer ∙ ap (λ (l : List ℕ). numbers_in answers ++ l) none ∙ append-nil (numbers_in answers)

back_by : (one : Controller) (some : Bool) (taken : ℕ) → taken ≤ 65535 → IsRightOne one
    → OneGoes one (record one { taken = taken; owed = one.owed ++ (if some then GivenBack one.told one.taken ∷ [] else []) })
back_by one true taken few right =
    let fits = right.taken in
    record {
      right = record { owed = all_more one.owed (GivenBack one.told one.taken) right.owed (right.told, omega arith); told = right.told; taken = few };
      same = no_numbers one.owed (GivenBack one.told one.taken) refl;
    }
back_by one false taken few right =
    record {
      right = record { owed = subst (AllByRecursion IsRight) (sym (append-nil one.owed)) right.owed; told = right.told; taken = few };
      same = ap numbers_in (append-nil one.owed);
    }

pub gives_back_right : (one : Controller) → IsRightOne one → OneGoes one (after_giving_back one)
gives_back_right one right = back_by one (nat_lt 0 one.taken) 0 (omega arith) right

one_more : (n : ℕ) → eqb n 65535 ≡ false → n ≤ 65535 → n + 1 ≤ 65535
one_more n other few = let apart = eqb-false n 65535 other in omega (arith, apart)

taken_by : (one : Controller) (here full : Bool) → eqb one.taken 65535 ≡ full → IsRightOne one
    → OneGoes one (if here then (if full then record (after_giving_back one) { taken = 1 } else record one { taken = one.taken + 1 }) else one)
taken_by one true true is right = back_by one (nat_lt 0 one.taken) 1 (omega arith) right
taken_by one true false is right = record { right = record { owed = right.owed; told = right.told; taken = one_more one.taken is right.taken }; same = refl }
taken_by one false full is right = record { right = right; same = refl }

piece_joins : (flies : Bool) (found : Option Piece) (one : Controller) → IsRightOne one → OneGoes one (with_piece flies found one)
piece_joins flies None one right = record { right = right; same = refl }
piece_joins flies (Some piece) one right = record { right = record { owed = right.owed; told = right.told; taken = right.taken }; same = refl }

data_taken : (handle : ℕ) (flies : Bool) (found : Option Piece) (one : Controller) → IsRightOne one → OneGoes one (after_taking handle (with_piece flies found one))
data_taken handle flies found one right =
    let joins = piece_joins flies found one right in
    let mid : Controller = with_piece flies found one in
    let takes = taken_by mid ((handle == mid.told) && nat_le 1 mid.told) (eqb mid.taken 65535) refl joins.right in
    record { right = takes.right; same = takes.same ∙ joins.same }

-- ---- the radio

pub one_goes : (size count : ℕ) (side : Side) (radio : Radio) (new : Controller) → IsRightRadio size count radio → OneGoes (controller side radio) new → Goes size count radio (with_controller side new radio)
one_goes size count A radio new right goes =
    record {
      right = record { a = goes.right; b = right.b; number = right.number; room = right.room; size_is = right.size_is; count_is = right.count_is };
      same_a = goes.same;
      same_b = refl;
    }
one_goes size count B radio new right goes =
    record {
      right = record { a = right.a; b = goes.right; number = right.number; room = right.room; size_is = right.size_is; count_is = right.count_is };
      same_a = refl;
      same_b = goes.same;
    }

pub right_of : (size count : ℕ) (side : Side) (radio : Radio) → IsRightRadio size count radio → IsRightOne (controller side radio)
right_of size count A radio right = right.a
right_of size count B radio right = right.b

answered : (size count : ℕ) (side : Side) (answer : Answer) (radio : Radio) → IsRightRadio size count radio → IsRight answer → Owed size count side (number_in answer) radio (owes side (answer ∷ []) radio)
answered size count A answer radio right is =
    record {
      right = record { a = owing_right radio.a answer right.a is; b = right.b; number = right.number; room = right.room; size_is = right.size_is; count_is = right.count_is };
      own = more_numbers radio.a.owed answer;
      other = refl;
    }
answered size count B answer radio right is =
    record {
      right = record { a = right.a; b = owing_right radio.b answer right.b is; number = right.number; room = right.room; size_is = right.size_is; count_is = right.count_is };
      own = more_numbers radio.b.owed answer;
      other = refl;
    }

left_of : (a b : Bool) → (a && b) ≡ true → a ≡ true
left_of true b both = refl
left_of false b both = cc

right_side : (a b : Bool) → (a && b) ≡ true → b ≡ true
right_side true b both = both
right_side false b both = cc

reaching : (size count : ℕ) (radio : Radio) → IsRightRadio size count radio → Goes size count radio (after_reaching radio)
reaching size count radio right =
    elim (cases_Bool (is_reached radio)) [
      | inl reached ↦
          let paging = left_of (is_paging radio.phase) (nat_le 2 radio.b.scan) reached in
          let low = right.room (or_left (is_paging radio.phase) (is_requested radio.phase) paging) in
          rw reached (record {
            right = record {
              a = right.a;
              b = owing_right radio.b Called right.b tt;
              number = right.number;
              room = λ on. low;
              size_is = right.size_is;
              count_is = right.count_is;
            };
            same_a = refl;
            same_b = no_numbers radio.b.owed Called refl;
          })
      | inr not_yet ↦ rw not_yet (unchanged size count radio right)
    ]

room_to_page : (radio : Radio) → may_page radio ≡ true → radio.number < 0x0EFF
room_to_page radio may =
    let e = nat_lt radio.number 0x0EFF in
    let d = (radio.b.told == radio.number) && e in
    let c = (radio.a.told == radio.number) && d in
    let b = not radio.b.up && c in
    let a = not radio.a.up && b in
    ltb-true radio.number 0x0EFF
    (right_side (radio.b.told == radio.number) e
    (right_side (radio.a.told == radio.number) d
    (right_side (not radio.b.up) c (right_side (not radio.a.up) b (right_side (is_apart radio.phase) a may)))))

paging : (size count : ℕ) (side : Side) (radio : Radio) → IsRightRadio size count radio → Goes size count radio (after_paging side radio)
paging size count B radio right = unchanged size count radio right
paging size count A radio right =
    elim (cases_Bool (may_page radio)) [
      | inl may ↦
          let low = room_to_page radio may in
          let mid : Radio = record radio { phase = Paging } in
          let mid_right : IsRightRadio size count mid = record {
            a = right.a;
            b = right.b;
            number = right.number;
            room = λ on. low;
            size_is = right.size_is;
            count_is = right.count_is;
          } in
          let goes = reaching size count mid mid_right in
          rw may (record { right = goes.right; same_a = goes.same_a; same_b = goes.same_b })
      | inr may_not ↦ rw may_not (unchanged size count radio right)
    ]

accepting : (size count : ℕ) (side : Side) (radio : Radio) → IsRightRadio size count radio → Goes size count radio (after_accepting side radio)
accepting size count A radio right = unchanged size count radio right
accepting size count B radio right =
    elim (cases_Bool (is_requested radio.phase)) [
      | inl requested ↦
          let low : radio.number < 0x0EFF = right.room (or_right (is_paging radio.phase) (is_requested radio.phase) requested) in
          let made : Answer = LinkMade (radio.number + 1) in
          let handle : radio.number + 1 ≤ 0x0EFF = omega arith in
          rw requested (record {
            right = record {
              a = owing_right radio.a made right.a handle;
              b = owing_right radio.b made right.b handle;
              number = handle;
              room = λ on. cc;
              size_is = right.size_is;
              count_is = right.count_is;
            };
            same_a = no_numbers radio.a.owed made refl;
            same_b = no_numbers radio.b.owed made refl;
          })
      | inr not_yet ↦ rw not_yet (unchanged size count radio right)
    ]

parting_right : (number reason : ℕ) (one : Controller) → number ≤ 0x0EFF → IsRightOne one → OneGoes one (parting number reason one)
parting_right number reason one low right =
    record {
      right = record { owed = all_more one.owed (LinkGone number reason) right.owed low; told = right.told; taken = right.taken };
      same = no_numbers one.owed (LinkGone number reason) refl;
    }

pub parts : (size count for_a for_b : ℕ) (radio : Radio) → IsRightRadio size count radio → Goes size count radio (parted for_a for_b radio)
parts size count for_a for_b radio right =
    let one = parting_right radio.number for_a radio.a right.number right.a in
    let two = parting_right radio.number for_b radio.b right.number right.b in
    record {
      right = record { a = one.right; b = two.right; number = right.number; room = λ on. cc; size_is = right.size_is; count_is = right.count_is };
      same_a = one.same;
      same_b = two.same;
    }

parts_by : (size count : ℕ) (side : Side) (radio : Radio) → IsRightRadio size count radio → Goes size count radio (parted_by side radio)
parts_by size count A radio right = parts size count 0x16 0x13 radio right
parts_by size count B radio right = parts size count 0x13 0x16 radio right

disconnecting : (size count : ℕ) (side : Side) (handle : ℕ) (radio : Radio) → IsRightRadio size count radio → Goes size count radio (after_disconnecting side handle radio)
disconnecting size count side handle radio right =
    elim (cases_Bool (knows_link side radio && (handle == radio.number))) [
      | inl up ↦ rw up (parts_by size count side radio right)
      | inr gone ↦ rw gone (unchanged size count radio right)
    ]

scans : (size count : ℕ) (side : Side) (value : ℕ) (radio : Radio) → IsRightRadio size count radio → Goes size count radio (scanning side value radio)
scans size count side value radio right =
    let one = right_of size count side radio right in
    one_goes size count side radio (record (controller side radio) { scan = value }) right (record { right = record { owed = one.owed; told = one.told; taken = one.taken }; same = refl })

address_length : (side : Side) → length (address side) ≡ 6
address_length A = refl
address_length B = refl

-- a radio answers each command with its number, and no packet of data
pub order_goes : (size count : ℕ) (side : Side) (order : Order) (radio : Radio) → AreSizes size count → IsRightRadio size count radio
    → Owed size count side (number_of order) radio (after_order side order radio)
order_goes size count side orders.Reset radio sizes right = answered size count side (Returned 0x0C03 (0 ∷ [])) radio right (inl (refl, refl))
order_goes size count side ReadBuffers radio sizes right =
    let size_is = right.size_is in
    let count_is = right.count_is in
    let long = sizes.long in
    let some = sizes.some in
    let size_fits = sizes.size_fits in
    let count_fits = sizes.count_fits in
    answered size count side (Returned 0x1005 (0 ∷ (le16 radio.size ++ (0 ∷ (le16 radio.count ++ le16 0))))) radio right
    (inr (inr (inr (
      refl,
      record {
        size = radio.size;
        count = radio.count;
        long = omega arith;
        some = omega arith;
        size_fits = omega arith;
        count_fits = omega arith;
        are = refl;
      },
    ))))
order_goes size count side ReadAddress radio sizes right =
    answered size count side (Returned 0x1009 (0 ∷ address side)) radio right (inr (inr (inl (refl, address side, address_length side, refl))))
order_goes size count side Scan radio sizes right =
    let scan = scans size count side 0x03 radio right in
    let mid : Radio = scanning side 0x03 radio in
    let told = answered size count side (Returned 0x0C1A (0 ∷ [])) mid scan.right (inr (inl (refl, refl))) in
    let owed : Radio = owes side (Returned 0x0C1A (0 ∷ []) ∷ []) mid in
    after_quiet size count side (0x0C1A ∷ []) radio mid _ scan (then_quiet size count side (0x0C1A ∷ []) mid owed _ told (reaching size count owed told.right))
order_goes size count side Page radio sizes right =
    let told = answered size count side (Stated 0x0405) radio right (inl refl) in
    let owed : Radio = owes side (Stated 0x0405 ∷ []) radio in
    then_quiet size count side (0x0405 ∷ []) radio owed _ told (paging size count side owed told.right)
order_goes size count side Accept radio sizes right =
    let told = answered size count side (Stated 0x0409) radio right (inr (inr refl)) in
    let owed : Radio = owes side (Stated 0x0409 ∷ []) radio in
    then_quiet size count side (0x0409 ∷ []) radio owed _ told (accepting size count side owed told.right)
order_goes size count side (End handle) radio sizes right =
    let told = answered size count side (Stated 0x0406) radio right (inr (inl refl)) in
    let owed : Radio = owes side (Stated 0x0406 ∷ []) radio in
    then_quiet size count side (0x0406 ∷ []) radio owed _ told (disconnecting size count side handle owed told.right)
order_goes size count side (Data handle piece) radio sizes right =
    let one : Controller = controller side radio in
    quiet_is size count side radio _
    (one_goes size count side radio (after_taking handle (with_piece (knows_link side radio) (piece_on one handle piece) one)) right
    (data_taken handle (knows_link side radio) (piece_on one handle piece) one (right_of size count side radio right)))

-- ---- words, and what is handed over

pub meets_right : (size count : ℕ) (way : Way) (fate : Fate) (checked : Bool) (waiting : List (List ℕ)) (radio : Radio) → IsRightRadio size count radio
    → Goes size count radio (after_meeting way fate checked waiting radio)
meets_right size count way fate checked [] radio right = unchanged size count radio right
meets_right size count Ab fate checked (frame ∷ rest) radio right =
    record {
      right = record {
        a = record { owed = right.a.owed; told = right.a.told; taken = right.a.taken };
        b = record { owed = right.b.owed; told = right.b.told; taken = right.b.taken };
        number = right.number;
        room = right.room;
        size_is = right.size_is;
        count_is = right.count_is;
      };
      same_a = refl;
      same_b = refl;
    }
meets_right size count Ba fate checked (frame ∷ rest) radio right =
    record {
      right = record {
        a = record { owed = right.a.owed; told = right.a.told; taken = right.a.taken };
        b = record { owed = right.b.owed; told = right.b.told; taken = right.b.taken };
        number = right.number;
        room = right.room;
        size_is = right.size_is;
        count_is = right.count_is;
      };
      same_a = refl;
      same_b = refl;
    }

pub piece_handed : (one : Controller) (piece : Piece) (rest : List Piece) → one.coming ≡ piece ∷ rest → IsRightOne one → OneGoes one (after_handing one)
piece_handed one piece rest is right =
    subst (λ (coming : List Piece). OneGoes one (after_first_of coming one.owed one)) (sym is)
    (record { right = record { owed = right.owed; told = right.told; taken = right.taken }; same = refl })

-- what is left to come once an answer was handed over
pub record Handed (rest : List Answer) (new : Controller) : Type 0 where
  pub right : IsRightOne new
  pub owed_is : new.owed ≡ rest

telling : (answer : Answer) (rest : List Answer) (one : Controller) → AllByRecursion IsRight (answer ∷ rest) → IsRightOne one → Handed rest (after_telling answer (record one { owed = rest }))
telling (LinkMade handle) rest one (is, all) right = record { right = record { owed = all; told = is; taken = omega arith }; owed_is = refl }
telling (LinkGone handle reason) rest one (is, all) right = record { right = record { owed = all; told = right.told; taken = right.taken }; owed_is = refl }
telling (Returned number params) rest one (is, all) right = record { right = record { owed = all; told = right.told; taken = right.taken }; owed_is = refl }
telling (Stated number) rest one (is, all) right = record { right = record { owed = all; told = right.told; taken = right.taken }; owed_is = refl }
telling Called rest one (is, all) right = record { right = record { owed = all; told = right.told; taken = right.taken }; owed_is = refl }
telling (GivenBack handle count) rest one (is, all) right = record { right = record { owed = all; told = right.told; taken = right.taken }; owed_is = refl }

pub answer_handed : (one : Controller) (answer : Answer) (rest : List Answer) → one.coming ≡ [] → one.owed ≡ answer ∷ rest → IsRightOne one → Handed rest (after_handing one)
answer_handed one answer rest none is right =
    subst (λ (coming : List Piece). Handed rest (after_first_of coming one.owed one)) (sym none)
    (subst (λ (owed : List Answer). Handed rest (after_first_of [] owed one)) (sym is)
    (telling answer rest one (subst (AllByRecursion IsRight) is right.owed) right))
