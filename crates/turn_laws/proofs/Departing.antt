-- What one host and its controller become when an order moves, and when the controller owes something that tells of no link.
use Rattle.std.proofs.Common.{◌≡◌, ◌⊎◌, ℕ, ◌+◌, ◌≤◌, ◌==◌, ◌&&◌, ◌||◌, Bool, true, false, List, [], ◌∷◌, ◌++◌, map, nat_lt, nat_le, Some, None, if◌then◌else◌, refl, sym, ap, ◌∙◌, inl, inr, arith, subst}
use Rattle.std.proofs.lemmas.Bool.{eq-eqb}
use Rattle.std.proofs.lemmas.List.{append-nil}
use Rattle.world_model.specs.acl_fragments.specs.Pieces.{Piece, starts}
use Rattle.world_model.specs.acl_fragments.specs.Answers.{Answer as Joined, Pdu, More, Dropped, answer}
use Rattle.world_model.specs.capture.specs.declared.flow.Flow.TheVariants.{Out}
use Rattle.world_model.specs.capture.specs.Pdus.{whole_of}
use Rattle.world_model.specs.radio_model.specs.Controllers.{Answer, GivenBack, Controller, gives_back, after_giving_back, is_empty}
use Rattle.world_model.specs.radio_model.specs.Radio.{frame_limit, frames_by, with_piece, after_taking}
use Rattle.world_model.specs.Machines.{LinkEvent, Upper}
use Rattle.world_model.specs.Talks.{Talk, Said}
use Rattle.world_model.specs.Carriages.{End, Motion, Departure, landed}
use Rattle.world_model.specs.Stations.{Order, Data, Station, gives, holds, whole_in}
use Rattle.turn_laws.proofs.Leading.{Tiding, tidings, plain_tidings, events, Led, knows}
use Rattle.world_model.specs.PerLink.{linkage}
use Rattle.turn_laws.proofs.Linkages.{said_more, linkage_one, moved_none}
use Rattle.turn_laws.proofs.Wiring.{piece_at, sent, AllFrames, flowing, Wired, moved_wired, landed_wired, Within, end_at, has_end, EndsLast, asking, count, Awaits}
use Rattle.turn_laws.proofs.Stationing.{Steady, end_of, Goes, Proceeds}

-- ---- a controller owes something more that tells of no link

abbrev pub aside : (scan taken : ℕ) → List Answer → Controller → Controller
aside scan taken owed one = record one { scan = scan; taken = taken; owed = owed }

pub aside_steady : {S G : Type 0} (U : Upper S G) (number : ℕ) (together : Bool) (extra : ℕ) (one : Controller) (station : Station S) (scan taken : ℕ) (owed : List Answer) → tidings owed ≡ tidings one.owed
    → Steady U number together extra one station → Steady U number together extra (aside scan taken owed one) station
aside_steady U number together extra one station scan taken owed same steady = record {
  led = subst (λ (l : List Tiding). Led one.told one.up l number together) (sym same) steady.led;
  link = steady.link;
  long = steady.long;
  off = steady.off;
  wired = steady.wired;
  incoming = steady.incoming;
  awaits = subst (λ (l : List Tiding). Awaits extra l station.waiting station.out station.asked) (sym same) steady.awaits;
  ends = steady.ends;
}

pub aside_same : {S : Type 0} (one : Controller) (station : Station S) (talk : List Talk) (scan taken : ℕ) (owed : List Answer) → tidings owed ≡ tidings one.owed → end_of (aside scan taken owed one) station talk ≡ end_of one station talk
aside_same one station talk scan taken owed same = λ i. record (end_of one station talk) { owed = events (same i) }

gives_by : (handle n : ℕ) (answers : List Answer) (some : Bool) → tidings (answers ++ (if some then GivenBack handle n ∷ [] else [])) ≡ tidings answers
gives_by handle n answers true = plain_tidings answers (GivenBack handle n) refl
gives_by handle n answers false = ap tidings (append-nil answers)

pub gives_back_tidings : (handle n : ℕ) (answers : List Answer) → tidings (answers ++ gives_back handle n) ≡ tidings answers
gives_back_tidings handle n answers = gives_by handle n answers (nat_lt 0 n)

-- ---- an order that carries no piece of its link moves

or_more : (a b c : Bool) → (a || c) ≡ true → (a || (b || c)) ≡ true
or_more true b c is = refl
or_more false true c is = refl
or_more false false c is = is

pub pops_steady : {S G : Type 0} (U : Upper S G) (number : ℕ) (together : Bool) (extra extra' : ℕ) (one : Controller) (old : Station S) (order : Order) (rest : List Order)
    → old.out ≡ order ∷ rest → piece_at one.told order ≡ [] → extra' ≤ extra + asking order → Steady U number together extra one old → Steady U number together extra' one (record old { out = rest })
pops_steady U number together extra extra' one old order rest first none less steady =
    let flow : sent one.told rest ++ old.pieces ≡ sent one.told old.out ++ old.pieces = ap (λ (l : List Piece). (l ++ sent one.told rest) ++ old.pieces) (sym none) ∙ ap (λ (l : List Order). sent one.told l ++ old.pieces) (sym first) in
    let counted : count old.out ≡ asking order + count rest = ap (λ (l : List Order). count l) first in
    let few = steady.awaits.few in
    let within : Within one.told (order ∷ rest) = subst (λ (l : List Order). Within one.told l) first steady.ends.within_out in
    let last : EndsLast one.told (order ∷ rest) = subst (λ (l : List Order). EndsLast one.told l) first steady.ends.last in
    record {
      led = steady.led;
      link = steady.link;
      long = steady.long;
      off = steady.off;
      wired = subst (λ (l : List Piece). Wired one.up one.begun one.waiting l) (sym flow) steady.wired;
      incoming = steady.incoming;
      awaits = record { few = omega arith; awaited = λ some. steady.awaits.awaited (omega arith) };
      ends = record {
        within_waiting = steady.ends.within_waiting;
        within_out = within.1;
        leaving = λ up ends. steady.ends.leaving up (ap (λ (l : List Order). has_end one.told old.waiting || has_end one.told l) first ∙ or_more (has_end one.told old.waiting) (end_at one.told order) (has_end one.told rest) ends);
        last = last.1;
        still = steady.ends.still;
      };
    }

pub pops_same : {S : Type 0} (one : Controller) (old : Station S) (talk : List Talk) (order : Order) (rest : List Order) → old.out ≡ order ∷ rest → piece_at one.told order ≡ []
    → end_of one (record old { out = rest }) talk ≡ end_of one old talk
pops_same one old talk order rest first none =
    let flow : sent one.told rest ++ old.pieces ≡ sent one.told old.out ++ old.pieces = ap (λ (l : List Piece). (l ++ sent one.told rest) ++ old.pieces) (sym none) ∙ ap (λ (l : List Order). sent one.told l ++ old.pieces) (sym first) in
    λ i. record (end_of one old talk) { waiting = flowing one.up one.begun (flow i) }

-- ---- a piece moves

-- what a controller joins is what pieces complete
joins_as : (judged : Joined) → map (λ pdu. pdu.octets) (whole_of Out judged) ≡ whole_in judged
joins_as (Pdu channel octets) = refl
joins_as More = refl
joins_as (Dropped reason) = refl

-- with what was completed landed in the air, where there is a link
abbrev pub lands : Bool → List (List ℕ) → List (List ℕ) → List (List ℕ)
lands true queue more = queue ++ more
lands false queue more = queue

lands_wired : (flies up : Bool) (begun : List ℕ) (queue more : List (List ℕ)) (flow : List Piece) → AllFrames more → Wired up begun queue flow → Wired up begun (lands flies queue more) flow
lands_wired true up begun queue more flow all wired = landed_wired up begun queue more flow all wired
lands_wired false up begun queue more flow all wired = wired

lands_none : (flies : Bool) (queue : List (List ℕ)) → lands flies queue [] ≡ queue
lands_none true queue = append-nil queue
lands_none false queue = refl

lands_one : (flies : Bool) (owed : List LinkEvent) (queue : List (List ℕ)) (pdu : List ℕ) → is_empty owed ≡ flies → lands flies queue (pdu ∷ []) ≡ landed owed queue pdu
lands_one true [] queue pdu is = refl
lands_one false [] queue pdu is = cc
lands_one true (event ∷ events) queue pdu is = cc
lands_one false (event ∷ events) queue pdu is = refl

-- at most one PDU is completed

whole_cases : (judged : Joined) → (whole_in judged ≡ []) ⊎ ((pdu : List ℕ) × (whole_in judged ≡ pdu ∷ []))
whole_cases (Pdu channel octets) = inr (octets, refl)
whole_cases More = inl refl
whole_cases (Dropped reason) = inl refl

-- a controller that took a packet
abbrev pub taken_by : Bool → Controller → Piece → (taken : ℕ) → List Answer → Controller
taken_by flies one piece taken owed =
    record one { taken = taken; begun = holds frame_limit one.begun piece; waiting = lands flies one.waiting (gives frame_limit one.begun piece); owed = owed }

moves_flow : {S : Type 0} (told : ℕ) (old : Station S) (piece : Piece) (rest : List Order) → old.out ≡ Data told piece ∷ rest → sent told old.out ++ old.pieces ≡ piece ∷ (sent told rest ++ old.pieces)
moves_flow told old piece rest first =
    ap (λ (l : List Order). sent told l ++ old.pieces) first ∙ ap (λ (b : Bool). ((if b then piece ∷ [] else []) ++ sent told rest) ++ old.pieces) (eq-eqb told told refl)

flowing_on : (up : Bool) (begun : List ℕ) (piece : Piece) (flow : List Piece) → up ≡ true → flowing up begun (piece ∷ flow) ≡ gives frame_limit begun piece ++ flowing up (holds frame_limit begun piece) flow
flowing_on true begun piece flow up = refl
flowing_on false begun piece flow up = cc

moved_on : (up : Bool) (begun : List ℕ) (queue : List (List ℕ)) (piece : Piece) (flow : List Piece) → up ≡ true → Wired up begun queue (piece ∷ flow) → Wired up (holds frame_limit begun piece) queue flow × AllFrames (gives frame_limit begun piece)
moved_on true begun queue piece flow up wired = moved_wired begun queue piece flow wired
moved_on false begun queue piece flow up wired = cc

empty_events : (rest : List Tiding) → is_empty (events rest) ≡ is_empty rest
empty_events [] = refl
empty_events (tiding ∷ rest) = refl

piece_goes :
    {S G : Type 0} (U : Upper S G) (flies : Bool) (one : Controller) (old : Station S) (talk : List Talk) (piece : Piece) (rest : List Order) (taken : ℕ) (owed : List Answer) (given : List (List ℕ)) → gives frame_limit one.begun piece ≡ given
    → (given ≡ []) ⊎ ((pdu : List ℕ) × (given ≡ pdu ∷ []))
    → one.up ≡ true → old.out ≡ Data one.told piece ∷ rest → tidings owed ≡ tidings one.owed → is_empty (events (tidings one.owed)) ≡ flies
    → (motions : List Motion) × (talk' : List Talk) × Goes U motions (end_of one old talk) (end_of (taken_by flies one piece taken owed) (record old { out = rest }) talk')
    × (linkage talk' ≡ said_more (gives frame_limit one.begun piece) (linkage talk))
piece_goes {S} U flies one old talk piece rest taken owed given is cases up first same knows_it =
    let flow = sent one.told rest ++ old.pieces in
    let all : flowing one.up one.begun (sent one.told old.out ++ old.pieces) ≡ given ++ flowing one.up (holds frame_limit one.begun piece) flow =
    ap (λ (l : List Piece). flowing one.up one.begun l) (moves_flow one.told old piece rest first) ∙ flowing_on one.up one.begun piece flow up ∙ ap (λ (l : List (List ℕ)). l ++ flowing one.up (holds frame_limit one.begun piece) flow) is in
    let queue : lands flies one.waiting (gives frame_limit one.begun piece) ≡ lands flies one.waiting given = ap (λ (l : List (List ℕ)). lands flies one.waiting l) is in
    let owes : events (tidings owed) ≡ events (tidings one.owed) = ap events same in
    let left = flowing one.up (holds frame_limit one.begun piece) flow in
    let e : End S = end_of one old talk in
    elim cases [
      | inl none ↦
          let waits : left ≡ e.waiting = sym (all ∙ ap (λ (l : List (List ℕ)). l ++ left) none) in
          let air : lands flies one.waiting (gives frame_limit one.begun piece) ≡ one.waiting = queue ∙ ap (λ (l : List (List ℕ)). lands flies one.waiting l) none ∙ lands_none flies one.waiting in
          ([], talk, (λ i. record e { owed = owes i; waiting = waits i; queue = air i }), sym (ap (λ (l : List (List ℕ)). said_more l (linkage talk)) (is ∙ none) ∙ moved_none Out (linkage talk)))
      | inr some ↦
          let pdu = some.0 in
          let waits : e.waiting ≡ pdu ∷ left = all ∙ ap (λ (l : List (List ℕ)). l ++ left) some.1 in
          let air : lands flies one.waiting (gives frame_limit one.begun piece) ≡ landed e.owed e.queue pdu =
          queue ∙ ap (λ (l : List (List ℕ)). lands flies one.waiting l) some.1 ∙ lands_one flies (events (tidings one.owed)) one.waiting pdu knows_it in (
            Departure pdu ∷ [],
            talk ++ Said pdu ∷ [],
            (
              record e { waiting = left; queue = landed e.owed e.queue pdu; talk = talk ++ Said pdu ∷ [] },
              record { on = up; left = left; first = waits; is = refl },
              λ i. record e { owed = owes i; waiting = left; queue = air i; talk = talk ++ Said pdu ∷ [] },
            ),
            linkage_one talk (Said pdu) ∙ sym (ap (λ (l : List (List ℕ)). said_more l (linkage talk)) (is ∙ some.1)),
          )
    ]

pub piece_departs :
    {S G : Type 0} (U : Upper S G) (number : ℕ) (together : Bool) (extra : ℕ) (flies : Bool) (one : Controller) (old : Station S) (talk : List Talk) (piece : Piece) (rest : List Order) (taken : ℕ) (owed : List Answer)
    → one.up ≡ true → flies ≡ (together && (one.up && (one.told == number))) → old.out ≡ Data one.told piece ∷ rest → tidings owed ≡ tidings one.owed → Steady U number together extra one old
    → Proceeds U (said_more (gives frame_limit one.begun piece)) number together extra one old talk (taken_by flies one piece taken owed) (record old { out = rest })
piece_departs {S} U number together extra flies one old talk piece rest taken owed up flies_is first same steady =
    let flow = sent one.told rest ++ old.pieces in
    let led : Led one.told true (tidings one.owed) number together = subst (λ (b : Bool). Led one.told b (tidings one.owed) number together) up steady.led in
    let knows_it : is_empty (events (tidings one.owed)) ≡ flies =
    empty_events (tidings one.owed) ∙ knows one.told (tidings one.owed) number together led ∙ ap (λ (b : Bool). together && (b && (one.told == number))) (sym up) ∙ sym flies_is in
    let moved = moved_on one.up one.begun one.waiting piece flow up (subst (λ (l : List Piece). Wired one.up one.begun one.waiting l) (moves_flow one.told old piece rest first) steady.wired) in
    let goes = piece_goes U flies one old talk piece rest taken owed (gives frame_limit one.begun piece) refl (whole_cases (answer frame_limit one.begun (starts piece.boundary) piece.octets)) up first same knows_it in
    let counted : count old.out ≡ 0 + count rest = ap (λ (l : List Order). count l) first in
    let few = steady.awaits.few in
    let within : Within one.told (Data one.told piece ∷ rest) = subst (λ (l : List Order). Within one.told l) first steady.ends.within_out in
    let last : EndsLast one.told (Data one.told piece ∷ rest) = subst (λ (l : List Order). EndsLast one.told l) first steady.ends.last in
    record {
      steady = record {
        led = subst (λ (l : List Tiding). Led one.told one.up l number together) (sym same) steady.led;
        link = steady.link;
        long = steady.long;
        off = steady.off;
        wired = lands_wired flies one.up (holds frame_limit one.begun piece) one.waiting (gives frame_limit one.begun piece) flow moved.1 moved.0;
        incoming = steady.incoming;
        awaits = subst (λ (l : List Tiding). Awaits extra l old.waiting rest old.asked) (sym same) (record { few = omega arith; awaited = λ some. steady.awaits.awaited (omega arith) });
        ends = record {
          within_waiting = steady.ends.within_waiting;
          within_out = within.1;
          leaving = λ on ends. steady.ends.leaving on (ap (λ (l : List Order). has_end one.told old.waiting || has_end one.told l) first ∙ ends);
          last = last.1;
          still = steady.ends.still;
        };
      };
      motions = goes.0;
      talk' = goes.1;
      goes = goes.2;
      links = goes.3;
    }

-- ---- a piece of a link that is gone moves

off_wired : (up : Bool) (begun : List ℕ) (queue : List (List ℕ)) (one two : List Piece) → up ≡ false → Wired up begun queue one → Wired up begun queue two
off_wired true begun queue one two off wired = cc
off_wired false begun queue one two off wired = record { left = λ up. cc; frames = tt; air = wired.air }

off_flowing : (up : Bool) (begun : List ℕ) (one two : List Piece) → up ≡ false → flowing up begun two ≡ flowing up begun one
off_flowing true begun one two off = cc
off_flowing false begun one two off = refl

pub stale_steady : {S G : Type 0} (U : Upper S G) (number : ℕ) (together : Bool) (extra : ℕ) (one : Controller) (old : Station S) (handle : ℕ) (piece : Piece) (rest : List Order)
    → old.out ≡ Data handle piece ∷ rest → one.up ≡ false → Steady U number together extra one old → Steady U number together extra one (record old { out = rest })
stale_steady U number together extra one old handle piece rest first off steady =
    let counted : count old.out ≡ 0 + count rest = ap (λ (l : List Order). count l) first in
    let few = steady.awaits.few in
    let within : Within one.told (Data handle piece ∷ rest) = subst (λ (l : List Order). Within one.told l) first steady.ends.within_out in
    let last : EndsLast one.told (Data handle piece ∷ rest) = subst (λ (l : List Order). EndsLast one.told l) first steady.ends.last in
    record {
      led = steady.led;
      link = steady.link;
      long = steady.long;
      off = steady.off;
      wired = off_wired one.up one.begun one.waiting (sent one.told old.out ++ old.pieces) (sent one.told rest ++ old.pieces) off steady.wired;
      incoming = steady.incoming;
      awaits = record { few = omega arith; awaited = λ some. steady.awaits.awaited (omega arith) };
      ends = record {
        within_waiting = steady.ends.within_waiting;
        within_out = within.1;
        leaving = λ up ends. steady.ends.leaving up (ap (λ (l : List Order). has_end one.told old.waiting || has_end one.told l) first ∙ ends);
        last = last.1;
        still = steady.ends.still;
      };
    }

pub stale_same : {S : Type 0} (one : Controller) (old : Station S) (talk : List Talk) (rest : List Order) → one.up ≡ false → end_of one (record old { out = rest }) talk ≡ end_of one old talk
stale_same one old talk rest off = λ i. record (end_of one old talk) { waiting = off_flowing one.up one.begun (sent one.told old.out ++ old.pieces) (sent one.told rest ++ old.pieces) off i }

-- ---- what a controller makes of a packet

pub record Taken (one : Controller) (to : Controller) : Type 0 where
  pub taken : ℕ
  pub owed : List Answer
  pub same : tidings owed ≡ tidings one.owed
  pub is : to ≡ record one { taken = taken; owed = owed }

taking_by : (handle : ℕ) (one : Controller) (ours full : Bool) → Taken one (if ours then (if full then record (after_giving_back one) { taken = 1 } else record one { taken = one.taken + 1 }) else one)
taking_by handle one true true = record { taken = 1; owed = one.owed ++ gives_back one.told one.taken; same = gives_back_tidings one.told one.taken one.owed; is = refl }
taking_by handle one true false = record { taken = one.taken + 1; owed = one.owed; same = refl; is = refl }
taking_by handle one false full = record { taken = one.taken; owed = one.owed; same = refl; is = refl }

pub takes_packet : (handle : ℕ) (one : Controller) → Taken one (after_taking handle one)
takes_packet handle one = taking_by handle one ((handle == one.told) && nat_le 1 one.told) (one.taken == 65535)

lands_if : (flies : Bool) (queue more : List (List ℕ)) → (if flies then queue ++ more else queue) ≡ lands flies queue more
lands_if true queue more = refl
lands_if false queue more = refl

-- with a piece of its link
pub with_piece_is : (flies : Bool) (one : Controller) (piece : Piece) → with_piece flies (Some piece) one ≡ record one { begun = holds frame_limit one.begun piece; waiting = lands flies one.waiting (gives frame_limit one.begun piece) }
with_piece_is flies one piece =
    let joined : frames_by one.begun piece ≡ gives frame_limit one.begun piece = joins_as (answer frame_limit one.begun (starts piece.boundary) piece.octets) in
    let air : (if flies then one.waiting ++ frames_by one.begun piece else one.waiting) ≡ lands flies one.waiting (gives frame_limit one.begun piece) =
    lands_if flies one.waiting (frames_by one.begun piece) ∙ ap (λ (l : List (List ℕ)). lands flies one.waiting l) joined in
    λ i. record one { begun = holds frame_limit one.begun piece; waiting = air i }

-- and with another
pub with_none_is : (flies : Bool) (one : Controller) → with_piece flies None one ≡ one
with_none_is flies one = refl
