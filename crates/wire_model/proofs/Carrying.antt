-- Whole runs from their start.
use Rattle.std.proofs.Common.{◌≡◌, ℕ, Bool, true, false, List, [], ◌∷◌, ◌++◌, length, Option, Some, None, slice_get, refl, sym, ap, subst, ◌∙◌, append_assoc, arith, length-append, inl, inr}
use Rattle.std.specs.Option.{option_to_list}
use Rattle.std.specs.List.{cons_option}
use Rattle.std.proofs.lemmas.List.{append-nil}
use Rattle.std.proofs.lemmas.List.Elements.{All-nil}
use Rattle.wire_packets.specs.Packets.{Packet}
use Rattle.wire_model.specs.declared.link.Stage.{Stage}
use Rattle.wire_model.specs.declared.link.Stage.TheVariants.{Uninitialized, Initialized, Active, Reset}
use Rattle.wire_model.specs.declared.link.Way.{Way}
use Rattle.wire_model.specs.declared.link.Way.TheVariants.{Forth, Back}
use Rattle.wire_model.specs.Machine.{Unit, Wire, Heard, Said, hears, is_reset, ticked, submitted, new_wire, ack_packet}
use Rattle.wire_model.specs.Trace.{Crossing, came, came_to_second}
use Rattle.wire_model.specs.Pair.{Pair, new_pair, IsUnit, Event, Took, Crossed, Rang, Happens, Runs, CrossesBy, hears_over, crossing_of, crossings_of, taken_of, taken, got_of, got_by, accepted}
use Rattle.wire_model.proofs.Saying.{Saying, message, unit, answer, saying_of, says_message_of, says_ack_of}
use Rattle.wire_model.proofs.Handshake.{Tame, IsOpen}
use Rattle.wire_model.proofs.Hearing.{stage_cases, ack_heard, ack_ignored}
use Rattle.wire_model.proofs.Standing.{Stands, message_forth, message_back, said_first, said_second, link_heard}
use Rattle.wire_model.proofs.Delivering.{unit_forth_active, unit_forth_idle, ack_forth, ack_back, took_one, rang}

-- the start
pub stands_first : Stands (new_wire 4) (new_wire 4) [] [] []
stands_first =
    let tame : Tame Uninitialized Uninitialized (new_wire 4).waiting = record { stays = tt; early = λ f. (tt, tt); answers = ((λ r. r), tt); opened = λ w. absurd w; silent = λ w. absurd w; ordered = ((λ r. absurd r), tt) } in
    record {
      there = tame;
      back = tame;
      done = [];
      left = [];
      took_is = refl;
      got_is = refl;
      sending = record { own = omega arith; some = omega arith; window = omega arith; wide = omega arith; held = omega arith; given = omega arith; next = omega arith; first = refl; idle = λ e. refl; units = All-nil IsUnit };
      none = refl;
      nothing = refl;
      expected = refl;
      low = omega arith;
      high = omega arith;
      come = refl;
      picks = refl;
    }

-- an acknowledgement brings no unit
ack_none : (ack : ℕ) (b : Wire) → (hears (ack_packet ack) b).unit ≡ None
ack_none ack b = elim (stage_cases b.stage) [
  | inl active ↦ ap (λ (h : Heard). h.unit) (ack_heard b ack active)
  | inr idle ↦ ap (λ (h : Heard). h.unit) (ack_ignored b ack idle)
]

-- the packet of the first end goes
pub forth_one : (a b : Wire) (took got : List Unit) (ps : List Packet) (lost : Bool) (said : Said) → Stands a b took got ps → Saying a said
    → Stands said.after (hears_over lost said.packet b).after took (got ++ option_to_list (hears_over lost said.packet b).unit) (ps ++ option_to_list (came_to_second Forth lost said.packet))
forth_one a b took got ps true said s saying =
    subst (λ (us : List Unit). Stands said.after b took us (ps ++ [])) (sym (append-nil got)) (subst (λ (qs : List Packet). Stands said.after b took got qs) (sym (append-nil ps)) (said_first a b took got ps said s saying))
forth_one a b took got ps false said s (message m rest sound at is) =
    subst (λ (x : Said). Stands x.after (hears x.packet b).after took (got ++ option_to_list (hears x.packet b).unit) (ps ++ x.packet ∷ [])) (sym is)
    (subst (λ (us : List Unit). Stands (says_message_of a m rest).after (hears (says_message_of a m rest).packet b).after took us (ps ++ (says_message_of a m rest).packet ∷ []))
    (sym (ap (λ (h : Heard). got ++ option_to_list h.unit) (link_heard m b) ∙ append-nil got))
    (message_forth a b took got ps m rest s at))
forth_one a b took got ps false said s (unit u active empty at is) =
    subst (λ (x : Said). Stands x.after (hears x.packet b).after took (got ++ option_to_list (hears x.packet b).unit) (ps ++ x.packet ∷ [])) (sym is)
    (elim (stage_cases b.stage) [
      | inl on ↦ unit_forth_active a b took got ps u s on active empty at
      | inr off ↦ unit_forth_idle a b took got ps u s off active empty at
    ])
forth_one a b took got ps false said s (answer active empty at due is) =
    let after = said_first a b took got ps (says_ack_of a) s (answer active empty at due refl) in
    subst (λ (x : Said). Stands x.after (hears x.packet b).after took (got ++ option_to_list (hears x.packet b).unit) (ps ++ x.packet ∷ [])) (sym is)
    (subst (λ (us : List Unit). Stands (says_ack_of a).after (hears (says_ack_of a).packet b).after took us (ps ++ (says_ack_of a).packet ∷ []))
    (sym (ap (λ (o : Option Unit). got ++ option_to_list o) (ack_none a.expected b) ∙ append-nil got))
    (ack_forth (says_ack_of a).after b took got ps a.expected after))

-- the packet of the second end goes
pub back_one : (a b : Wire) (took got : List Unit) (ps : List Packet) (lost : Bool) (said : Said) → Stands a b took got ps → Saying b said → Stands (hears_over lost said.packet a).after said.after took got ps
back_one a b took got ps true said s saying = said_second a b took got ps said s saying
back_one a b took got ps false said s (message m rest sound at is) =
    subst (λ (x : Said). Stands (hears x.packet a).after x.after took got ps) (sym is) (message_back a b took got ps m rest s at)
back_one a b took got ps false said s (unit u active empty at is) = absurd (let x : slice_get [] b.next ≡ Some u = subst (λ (us : List Unit). slice_get us b.next ≡ Some u) s.none at in cc)
back_one a b took got ps false said s (answer active empty at due is) =
    subst (λ (x : Said). Stands (hears x.packet a).after x.after took got ps) (sym is)
    (ack_back a (says_ack_of b).after took got ps (said_second a b took got ps (says_ack_of b) s (answer active empty at due refl)))

-- ---- events

abbrev pub tk : Event → List Unit
tk e = option_to_list (taken_of e)

abbrev pub gt : Event → List Unit
gt e = option_to_list (got_of e)

abbrev pub arrived : Option Crossing → List Packet
arrived None = []
arrived (Some c) = option_to_list (came_to_second c.way c.lost c.packet)

pub record Next (p : Pair) (took got : List Unit) (ps : List Packet) (e : Event) : Type 0 where
  pub stands : Stands p.first p.second (took ++ tk e) (got ++ gt e) (ps ++ arrived (crossing_of e))

crossed_one : (way : Way) (p q : Pair) (took got : List Unit) (ps : List Packet) (lost : Bool) (packet : Packet) (g : Option Unit) → Stands p.first p.second took got ps → CrossesBy way p lost packet g q
    → Stands q.first q.second (took ++ []) (got ++ option_to_list (got_by way g)) (ps ++ option_to_list (came_to_second way lost packet))
crossed_one Forth p q took got ps lost packet g s c =
    let f = forth_one p.first p.second took got ps lost (record { packet = packet; after = q.first }) s (saying_of p.first (record { packet = packet; after = q.first }) c.says) in
    subst (λ (us : List Unit). Stands q.first q.second us (got ++ option_to_list g) (ps ++ option_to_list (came_to_second Forth lost packet))) (sym (append-nil took))
    (subst (λ (o : Option Unit). Stands q.first q.second took (got ++ option_to_list o) (ps ++ option_to_list (came_to_second Forth lost packet))) (sym c.gets)
    (subst (λ (b : Wire). Stands q.first b took (got ++ option_to_list (hears_over lost packet p.second).unit) (ps ++ option_to_list (came_to_second Forth lost packet))) (sym c.hears) f))
crossed_one Back p q took got ps lost packet g s c =
    let f = back_one p.first p.second took got ps lost (record { packet = packet; after = q.second }) s (saying_of p.second (record { packet = packet; after = q.second }) c.says) in
    subst (λ (us : List Unit). Stands q.first q.second us (got ++ []) (ps ++ [])) (sym (append-nil took))
    (subst (λ (us : List Unit). Stands q.first q.second took us (ps ++ [])) (sym (append-nil got))
    (subst (λ (qs : List Packet). Stands q.first q.second took got qs) (sym (append-nil ps))
    (subst (λ (a : Wire). Stands a q.second took got ps) (sym c.hears) f)))

pub happened : (p q : Pair) (took got : List Unit) (ps : List Packet) (e : Event) → Stands p.first p.second took got ps → Happens p e q → Next q took got ps e
happened p q took got ps (Took u) s h = record {
  stands =
      subst (λ (x : Pair). Stands x.first x.second (took ++ u ∷ []) (got ++ []) (ps ++ [])) (sym h.becomes)
      (subst (λ (us : List Unit). Stands (submitted u p.first) p.second (took ++ u ∷ []) us (ps ++ [])) (sym (append-nil got))
      (subst (λ (qs : List Packet). Stands (submitted u p.first) p.second (took ++ u ∷ []) got qs) (sym (append-nil ps))
      (took_one p.first p.second took got ps u s h.is_unit h.active h.room)));
}
happened p q took got ps (Crossed c g) s h = record { stands = crossed_one c.way p q took got ps c.lost c.packet g s h }
happened p q took got ps Rang s h = record {
  stands =
      subst (λ (x : Pair). Stands x.first x.second (took ++ []) (got ++ []) (ps ++ [])) (sym h)
      (subst (λ (us : List Unit). Stands (ticked p.first) (ticked p.second) us (got ++ []) (ps ++ [])) (sym (append-nil took))
      (subst (λ (us : List Unit). Stands (ticked p.first) (ticked p.second) took us (ps ++ [])) (sym (append-nil got))
      (subst (λ (qs : List Packet). Stands (ticked p.first) (ticked p.second) took got qs) (sym (append-nil ps)) (rang p.first p.second took got ps s))));
}

cons_list : {A : Type 0} (o : Option A) (xs : List A) → option_to_list o ++ xs ≡ cons_option o xs
cons_list None xs = refl
cons_list (Some x) xs = refl

came_cons : (o : Option Crossing) (cs : List Crossing) → arrived o ++ came cs ≡ came (cons_option o cs)
came_cons None cs = refl
came_cons (Some c) cs = cons_list (came_to_second c.way c.lost c.packet) (came cs)

-- every run keeps it
pub stands_run : (p q : Pair) (took got : List Unit) (ps : List Packet) (events : List Event) → Stands p.first p.second took got ps → Runs p events q
    → Stands q.first q.second (took ++ taken events) (got ++ accepted events) (ps ++ came (crossings_of events))
stands_run p q took got ps [] s r =
    subst (λ (x : Pair). Stands x.first x.second (took ++ []) (got ++ []) (ps ++ [])) (sym r)
    (subst (λ (us : List Unit). Stands p.first p.second us (got ++ []) (ps ++ [])) (sym (append-nil took))
    (subst (λ (us : List Unit). Stands p.first p.second took us (ps ++ [])) (sym (append-nil got))
    (subst (λ (qs : List Packet). Stands p.first p.second took got qs) (sym (append-nil ps)) s)))
stands_run p q took got ps (e ∷ events) s r =
    let n = (happened p r.0 took got ps e s r.1).stands in
    let rest = stands_run r.0 q (took ++ tk e) (got ++ gt e) (ps ++ arrived (crossing_of e)) events n r.2 in
    subst (λ (us : List Unit). Stands q.first q.second us (got ++ accepted (e ∷ events)) (ps ++ came (crossings_of (e ∷ events)))) (append_assoc took (tk e) (taken events) ∙ ap (λ us. took ++ us) (cons_list (taken_of e) (taken events)))
    (subst (λ (us : List Unit). Stands q.first q.second ((took ++ tk e) ++ taken events) us (ps ++ came (crossings_of (e ∷ events)))) (append_assoc got (gt e) (accepted events) ∙ ap (λ us. got ++ us) (cons_list (got_of e) (accepted events)))
    (subst (λ (qs : List Packet). Stands q.first q.second ((took ++ tk e) ++ taken events) ((got ++ gt e) ++ accepted events) qs) (append_assoc ps (arrived (crossing_of e)) (came (crossings_of events)) ∙ ap (λ qs. ps ++ qs) (came_cons (crossing_of e) (crossings_of events)))
    rest))

pub stands_from : (number : Option ℕ) (events : List Event) (last : Pair) → Runs (new_pair number) events last → Stands last.first last.second (taken events) (accepted events) (came (crossings_of events))
stands_from number events last r = stands_run (new_pair number) last [] [] [] events stands_first r

pub open_not : (s : Stage) → IsOpen s → is_reset s ≡ false
open_not Uninitialized o = refl
open_not Initialized o = refl
open_not Active o = refl
open_not Reset o = absurd o

pub never : (a b : Wire) (took got : List Unit) (ps : List Packet) → Stands a b took got ps → (is_reset a.stage ≡ false) × (is_reset b.stage ≡ false)
never a b took got ps s = (open_not a.stage s.there.stays, open_not b.stage s.back.stays)

-- where nothing is unacknowledged all that was taken was accepted
pub all_got : (a b : Wire) (took got : List Unit) (ps : List Packet) → Stands a b took got ps → a.unacked ≡ [] → got ≡ took
all_got a b took got ps s none =
    let done : took ≡ s.done = s.took_is ∙ ap (λ us. s.done ++ us) none ∙ append-nil s.done in
    let long = length-append got s.left in
    let nothing : length s.left ≡ 0 = omega (arith, long, ap length s.got_is, ap length done, s.low) in
    sym (append-nil got) ∙ ap (λ us. got ++ us) (sym (empty s.left nothing)) ∙ sym s.got_is
  where
    empty : (xs : List Unit) → length xs ≡ 0 → xs ≡ []
    empty [] e = refl
    empty (x ∷ xs) e = absurd (omega arith)
