-- In the world the radio wants memory only for frames that wait.
use Rattle.std.proofs.Common.{◌≡◌, ℕ, ◌||◌, Bool, true, false, List, [], ◌∷◌, ◌++◌, length, Option, inl, inr, refl, sym, ap, subst, ◌∙◌, arith}
use Rattle.std.specs.Prelude.{nat_le}
use Rattle.std.proofs.lemmas.Bool.{leb-true, le-leb, or_cases, or_left, or_right}
use Rattle.std.proofs.lemmas.List.{append-nil, append_assoc}
use Rattle.std.specs.List.{AllByRecursion}
use Rattle.bt_base.specs.Streams.{gained}
use Rattle.push_terms.specs.declared.word.Side.{Side}
use Rattle.push_terms.specs.declared.word.Side.TheVariants.{A, B}
use Rattle.capture.specs.Entries.{capture_octets, IsEntry}
use Rattle.radio_model.specs.Owed.{owes_many}
use Rattle.radio_model.specs.Queues.{is_crowded}
use Rattle.radio_model.specs.Radio.{Radio}
use Rattle.room_laws.specs.world_model.specs.Machines.{Upper}
use Rattle.room_laws.specs.world_model.specs.Stations.{Order, Station}
use Rattle.room_laws.specs.world_model.specs.Worlds.{Happening, after_order}
use Rattle.room_laws.specs.rest_laws.specs.Premises.{AreOrderly}
use Rattle.room_laws.specs.Rooms.{OwesNoneBack, PutsOut, HasRoom}
use Rattle.room_laws.proofs.Rooming.{few_are_owed, room_is_left}
use Rattle.radio_world.specs.Hosts.{Asking, answering, JoinAnswers}
use Rattle.radio_world.specs.Leaving.{Medium, in_radio, after_leaving, after_all, leaving_entries}
use Rattle.radio_world.specs.Halves.{Leaving, happenings_of, MakesAll, Goes}
use Rattle.radio_world.specs.Scenes.{Scene, Moment, moment, world_at, Plays, stage}
use Rattle.radio_world.specs.Standing.{starting, first_moment, IsReached}
use Rattle.radio_world.specs.Shortages.{Shortage, PortLacked, OrderWants, ReturnWants, Overflows, Wants, ShelfLacked, InboxLacked, AirCrowded}
use Rattle.radio_world.proofs.Starting.{orderly_from, runs_from}
use Rattle.radio_world.proofs.Leaving.{noted_radio}
use Rattle.radio_world.proofs.Moving.{leavings, leaving_are}
use Rattle.radio_world.proofs.Lifting.{plays_a, plays_b, advances_a, advances_b}
use Rattle.radio_world.proofs.Advancing.{plays_then}
use Rattle.radio_world.proofs.Standing.{runs_of, sizes_of}
use Rattle.radio_world.proofs.Hearing.{Reaches}
use Rattle.radio_world.proofs.Spelled.{each_of_same}

-- ---- the first orders of a host move

leave_some : {S G : Type 0} (U : Upper S G) (side : Side) (moved rest : List Order) (medium : Medium) (station : Station S) → station.out ≡ moved ++ rest
    → MakesAll U side (leavings moved) (record { medium = medium; station = station }) (record { medium = after_all side moved medium; station = record station { out = rest } })
leave_some U side [] rest medium station are = ap (λ out. record { medium = medium; station = record station { out = out } }) (sym are)
leave_some U side (order ∷ moved) rest medium station are =
    (record { medium = after_leaving side order medium; station = record station { out = moved ++ rest } }, (moved ++ rest, are, refl), leave_some U side moved rest (after_leaving side order medium) (record station { out = moved ++ rest }) refl)

pub goes_some :
    {S G P : Type 0} (U : Upper S G) (side : Side) (Answers : P → List G → P → Type 0) (moved rest : List Order) (medium : Medium) (host : Asking S G) (port port' : P) (trace trace' : Option (List ℕ)) → JoinAnswers Answers → host.out ≡ moved ++ rest
    → port' ≡ port → trace' ≡ gained trace (capture_octets (leaving_entries side moved)) → AllByRecursion IsEntry (leaving_entries side moved) → Goes U side Answers medium (after_all side moved medium) host (record host { out = rest }) port port' trace trace'
goes_some {P = P} U side Answers moved rest medium host port port' trace trace' joins are same written each = record {
  motions = leavings moved;
  used = [];
  answered = subst (λ (p : P). Answers port [] p) (sym same) (joins.none port);
  makes = λ later. leave_some U side moved rest medium (answering later host) are;
  written = written ∙ ap (λ es. gained trace (capture_octets es)) (sym (leaving_are side moved));
  each = each_of_same _ (leaving_entries side moved) (leaving_are side moved) each;
}

-- ---- what is known wherever a run leads, while orders move

record Roomy {S : Type 0} (side : Side) (Reached : Medium → Station S → Type 0) : Type 0 where
  next : (medium : Medium) (station : Station S) (order : Order) (rest : List Order) → station.out ≡ order ∷ rest → Reached medium station → Reached (after_leaving side order medium) (record station { out = rest })
  room : (medium : Medium) (station : Station S) (order : Order) (rest : List Order) → station.out ≡ order ∷ rest → Reached medium station → OwesNoneBack medium.radio → HasRoom side order medium.radio
  few : (medium : Medium) (station : Station S) → Reached medium station → OwesNoneBack medium.radio → owes_many 15 medium.radio ≡ false

leaves :
    {S : Type 0} (side : Side) (Reached : Medium → Station S → Type 0) (whole rest : List Order) (medium : Medium) (station : Station S) → Roomy side Reached → station.out ≡ whole ++ rest → Reached medium station → OwesNoneBack medium.radio
    → Reached (after_all side whole medium) (record station { out = rest }) × OwesNoneBack (after_all side whole medium).radio
leaves side Reached [] rest medium station roomy are reached none = (subst (λ (out : List Order). Reached medium (record station { out = out })) are reached, none)
leaves side Reached (order ∷ whole) rest medium station roomy are reached none =
    let room = roomy.room medium station order (whole ++ rest) are reached none in
    leaves side Reached whole rest (after_leaving side order medium) (record station { out = whole ++ rest }) roomy refl (roomy.next medium station order (whole ++ rest) are reached)
    (subst OwesNoneBack (sym (noted_radio side (in_radio (after_order side order medium.radio) medium))) room.none_back)

or_second : (a b : Bool) → a ≡ false → (a || b) ≡ true → b ≡ true
or_second true b none some = absurd cc
or_second false b none some = some

crowds :
    {S : Type 0} (side : Side) (Reached : Medium → Station S → Type 0) (medium : Medium) (station : Station S) (trace trace' : Option (List ℕ)) → Roomy side Reached → Reached medium station → OwesNoneBack medium.radio
    → (over : Overflows side station.out medium trace trace') → (is_crowded (after_all side (over.whole ++ over.due ∷ []) medium).radio.a.waiting || is_crowded (after_all side (over.whole ++ over.due ∷ []) medium).radio.b.waiting) ≡ true
crowds side Reached medium station trace trace' roomy reached none over =
    let mid : Medium = after_all side over.whole medium in
    let there : Station _ = record station { out = over.due ∷ over.left } in
    let led = leaves side Reached over.whole (over.due ∷ over.left) medium station roomy over.orders_are reached none in
    let room = roomy.room mid there over.due over.left refl led.0 led.1 in
    or_second (owes_many 15 mid.radio) _ (roomy.few mid there led.0 led.1) (over.wants room.none_a room.none_b)

fewer : (n : ℕ) → nat_le 16 n ≡ true → nat_le 15 n ≡ true
fewer n many = le-leb 15 n (omega (arith, leb-true 16 n many))

many_more : (radio : Radio) → owes_many 16 radio ≡ true → owes_many 15 radio ≡ true
many_more radio many =
    elim (or_cases (nat_le 16 (length radio.a.owed)) (nat_le 16 (length radio.b.owed)) many) [
      | inl one ↦ or_left (nat_le 15 (length radio.a.owed)) (nat_le 15 (length radio.b.owed)) (fewer (length radio.a.owed) one)
      | inr other ↦ or_right (nat_le 15 (length radio.a.owed)) (nat_le 15 (length radio.b.owed)) (fewer (length radio.b.owed) other)
    ]

returns_not : {S : Type 0} (side : Side) (Reached : Medium → Station S → Type 0) (medium : Medium) (station : Station S) → Roomy side Reached → Reached medium station → OwesNoneBack medium.radio → owes_many 16 (after_all side station.out medium).radio ≡ true → ⊥
returns_not side Reached medium station roomy reached none many =
    let led = leaves side Reached station.out [] medium station roomy (sym (append-nil station.out)) reached none in
    let few = roomy.few (after_all side station.out medium) (record station { out = [] }) led.0 led.1 in
    let more = many_more (after_all side station.out medium).radio many in
    cc

-- ---- both hosts

module _ {S T G H : Type 0} (U : Upper S G) (V : Upper T H) where
  reached_on : (at new : Moment S T) (happenings : List Happening) → IsReached U V at → Plays U V happenings at new → IsReached U V new
  reached_on at new happenings reached plays = record {
    size = reached.size;
    count = reached.count;
    names = reached.names;
    sized = reached.sized;
    counted = reached.counted;
    few = reached.few;
    first_a = reached.first_a;
    first_b = reached.first_b;
    idle = reached.idle;
    happenings = reached.happenings ++ happenings;
    plays = plays_then U V reached.happenings happenings _ at new reached.plays plays;
  }

  few_at : (at : Moment S T) → AreOrderly U V → IsReached U V at → OwesNoneBack at.scene.medium.radio → owes_many 15 at.scene.medium.radio ≡ false
  few_at at orderly reached none =
      let s = reached.first_a in
      let t = reached.first_b in
      let few = reached.few in
      let first = first_moment (starting s U) (starting t V) reached.size reached.count reached.names in
      few_are_owed (starting s U) (starting t V) reached.size reached.count reached.names reached.happenings (world_at at) (orderly_from U V s t reached.idle orderly)
      (sizes_of reached.size reached.count reached.sized reached.counted) (omega arith) (runs_from U V s t reached.happenings (world_at first) (world_at at) (runs_of U V reached.happenings first at reached.plays)) none

  room_at : (side : Side) (at : Moment S T) (order : Order) (rest : List Order) → AreOrderly U V → IsReached U V at → OwesNoneBack at.scene.medium.radio → PutsOut side order rest (world_at at) → HasRoom side order at.scene.medium.radio
  room_at side at order rest orderly reached none out =
      let s = reached.first_a in
      let t = reached.first_b in
      let few = reached.few in
      let first = first_moment (starting s U) (starting t V) reached.size reached.count reached.names in
      room_is_left (starting s U) (starting t V) reached.size reached.count reached.names reached.happenings (world_at at) side order rest (orderly_from U V s t reached.idle orderly)
      (sizes_of reached.size reached.count reached.sized reached.counted) (omega arith) (runs_from U V s t reached.happenings (world_at first) (world_at at) (runs_of U V reached.happenings first at reached.plays)) none out

  roomy_a : (scene : Scene) (b : Station T) → AreOrderly U V → Roomy A (λ medium station. IsReached U V (moment (record scene { medium = medium }) station b))
  roomy_a scene b orderly = record {
    next = λ medium station order rest out reached.
        reached_on (moment (record scene { medium = medium }) station b) (moment (record scene { medium = after_leaving A order medium }) (record station { out = rest }) b) (happenings_of A (Leaving order ∷ [])) reached
        (plays_a U V (Leaving order ∷ []) (record { medium = medium; station = station }) (record { medium = after_leaving A order medium; station = record station { out = rest } }) b scene.pushes scene.turned
        (record { medium = after_leaving A order medium; station = record station { out = rest } }, (rest, out, refl), refl));
    room = λ medium station order rest out reached none. room_at A (moment (record scene { medium = medium }) station b) order rest orderly reached none out;
    few = λ medium station reached none. few_at (moment (record scene { medium = medium }) station b) orderly reached none;
  }

  roomy_b : (scene : Scene) (a : Station S) → AreOrderly U V → Roomy B (λ medium station. IsReached U V (moment (record scene { medium = medium }) a station))
  roomy_b scene a orderly = record {
    next = λ medium station order rest out reached.
        reached_on (moment (record scene { medium = medium }) a station) (moment (record scene { medium = after_leaving B order medium }) a (record station { out = rest })) (happenings_of B (Leaving order ∷ [])) reached
        (plays_b U V (Leaving order ∷ []) (record { medium = medium; station = station }) (record { medium = after_leaving B order medium; station = record station { out = rest } }) a scene.pushes scene.turned
        (record { medium = after_leaving B order medium; station = record station { out = rest } }, (rest, out, refl), refl));
    room = λ medium station order rest out reached none. room_at B (moment (record scene { medium = medium }) a station) order rest orderly reached none out;
    few = λ medium station reached none. few_at (moment (record scene { medium = medium }) a station) orderly reached none;
  }

  pub exchange_wants_a :
      {P Q : Type 0} (RA : P → List G → P → Type 0) (RB : Q → List H → Q → Type 0) (LA : P → P → Type 0) (LB : Q → Q → Type 0) (old : Scene) (a : Asking S G) (b : Asking T H) (shelf shelf' : P) (inbox : Q) (trace trace' : Option (List ℕ))
      → JoinAnswers RA → JoinAnswers RB → AreOrderly U V → Reaches U V old a b → OwesNoneBack old.medium.radio → Shortage LA A a.out old.medium shelf shelf' trace trace'
      → Wants U V RA RB LA LB [] (stage old a b shelf inbox trace) shelf' inbox trace'
  exchange_wants_a RA RB LA LB old a b shelf shelf' inbox trace trace' joins_a joins_b orderly reached none (PortLacked lacked) = ShelfLacked lacked
  exchange_wants_a RA RB LA LB old a b shelf shelf' inbox trace trace' joins_a joins_b orderly reached none (OrderWants same over) =
      let orders : List Order = over.whole ++ over.due ∷ [] in
      let are : a.out ≡ orders ++ over.left = over.orders_are ∙ sym (append_assoc over.whole (over.due ∷ []) over.left) in
      AirCrowded (record {
        new = stage (record old { medium = after_all A orders old.medium }) (record a { out = over.left }) b shelf' inbox trace';
        turned = [];
        later = [];
        words_are = refl;
        advances = advances_a U V RA RB old.medium (after_all A orders old.medium) old.pushes old.turned a (record a { out = over.left }) b shelf shelf' inbox trace trace' joins_b
            (goes_some U A RA orders over.left old.medium a shelf shelf' trace trace' joins_a are same over.written over.each);
        crowded = crowds A (λ medium station. IsReached U V (moment (record old { medium = medium }) station (answering [] b))) old.medium (answering [] a) trace trace' (roomy_a old (answering [] b) orderly) (reached [] []) none over;
        shelf_is = refl;
        inbox_is = refl;
        trace_is = refl;
      })
  exchange_wants_a RA RB LA LB old a b shelf shelf' inbox trace trace' joins_a joins_b orderly reached none (ReturnWants many) =
      absurd (returns_not A (λ medium station. IsReached U V (moment (record old { medium = medium }) station (answering [] b))) old.medium (answering [] a) (roomy_a old (answering [] b) orderly) (reached [] []) none many)

  pub exchange_wants_b :
      {P Q : Type 0} (RA : P → List G → P → Type 0) (RB : Q → List H → Q → Type 0) (LA : P → P → Type 0) (LB : Q → Q → Type 0) (old : Scene) (a : Asking S G) (b : Asking T H) (shelf : P) (inbox inbox' : Q) (trace trace' : Option (List ℕ))
      → JoinAnswers RA → JoinAnswers RB → AreOrderly U V → Reaches U V old a b → OwesNoneBack old.medium.radio → Shortage LB B b.out old.medium inbox inbox' trace trace'
      → Wants U V RA RB LA LB [] (stage old a b shelf inbox trace) shelf inbox' trace'
  exchange_wants_b RA RB LA LB old a b shelf inbox inbox' trace trace' joins_a joins_b orderly reached none (PortLacked lacked) = InboxLacked lacked
  exchange_wants_b RA RB LA LB old a b shelf inbox inbox' trace trace' joins_a joins_b orderly reached none (OrderWants same over) =
      let orders : List Order = over.whole ++ over.due ∷ [] in
      let are : b.out ≡ orders ++ over.left = over.orders_are ∙ sym (append_assoc over.whole (over.due ∷ []) over.left) in
      AirCrowded (record {
        new = stage (record old { medium = after_all B orders old.medium }) a (record b { out = over.left }) shelf inbox' trace';
        turned = [];
        later = [];
        words_are = refl;
        advances = advances_b U V RA RB old.medium (after_all B orders old.medium) old.pushes old.turned a b (record b { out = over.left }) shelf inbox inbox' trace trace' joins_a
            (goes_some V B RB orders over.left old.medium b inbox inbox' trace trace' joins_b are same over.written over.each);
        crowded = crowds B (λ medium station. IsReached U V (moment (record old { medium = medium }) (answering [] a) station)) old.medium (answering [] b) trace trace' (roomy_b old (answering [] a) orderly) (reached [] []) none over;
        shelf_is = refl;
        inbox_is = refl;
        trace_is = refl;
      })
  exchange_wants_b RA RB LA LB old a b shelf inbox inbox' trace trace' joins_a joins_b orderly reached none (ReturnWants many) =
      absurd (returns_not B (λ medium station. IsReached U V (moment (record old { medium = medium }) (answering [] a) station)) old.medium (answering [] b) (roomy_b old (answering [] a) orderly) (reached [] []) none many)
