-- The call with which a piece of a PDU was fed that came to the client.
use Rattle.std.proofs.Common.{◌≡◌, ◌⊎◌, List, [], ◌∷◌, ◌++◌, map, Option, Some, None, inl, inr, refl, sym, ap, ap₂, subst, ◌∙◌}
use Rattle.std.specs.Prelude.{option_to_list}
use Rattle.std.proofs.lemmas.List.Concat.{flat_map-append}
use Rattle.lending_laws.specs.call_laws.specs.bt_host.specs.bt_base.specs.declared.settings.Settings.{Settings}
use Rattle.lending_laws.specs.call_laws.specs.bt_host.specs.host_link.specs.PuttingOut.{started}
use Rattle.lending_laws.specs.call_laws.specs.bt_host.specs.host_link.specs.Stands.{into, out_of}
use Rattle.lending_laws.specs.call_laws.specs.bt_host.specs.host_link.specs.declared.role.Role.TheVariants.{Client as Paging}
use Rattle.lending_laws.specs.call_laws.specs.bt_host.specs.host_model.specs.Circumstances.{Circumstance}
use Rattle.outcome_laws.specs.cause_laws.specs.world_model.specs.Machines.{News, TimerFired, Cancelled, Opening}
use Rattle.lending_laws.specs.call_laws.specs.HostCalls.{HostCall, Feed, OnTimer, Push, Cancel, PutOut, Taken, PageDevice}
use Rattle.outcome_laws.specs.unit_laws.specs.scenario_laws.specs.h4_framing.specs.Packets.{Packet}
use Rattle.outcome_laws.specs.unit_laws.specs.Units.{Comes, Learns, units_of, units}
use Rattle.outcome_laws.specs.cause_laws.specs.Said.{Decision}
use Rattle.outcome_laws.specs.SaidWith.{BeginsNone, WasSaid}
use Rattle.lending_laws.specs.receive_laws.specs.Moving.{MoveInTurns}
use Rattle.lending_laws.specs.Comings.{comings_in, comings_with, comings_along}
use Rattle.lending_laws.specs.Steps.{Step, turns_of}
use Rattle.lending_laws.proofs.Coming.{One, comings_both, none_ahead}
use Rattle.lending_laws.proofs.Happening.{HappensWith, HappenInSteps, HappenFromStart, comings_in_steps}
use Rattle.reporting_laws.specs.Reporting.{WasFed}
use Rattle.reporting_laws.proofs.Comings.{none_begins, behind_begins}

-- ---- one of a list

-- it stands in the first part, or behind that
record InFirst {X : Type 0} (first rest before : List X) (x : X) (after : List X) : Type 0 where
  tail : List X
  first_is : first ≡ before ++ x ∷ tail
  after_is : after ≡ tail ++ rest

record InRest {X : Type 0} (first rest before : List X) (x : X) (after : List X) : Type 0 where
  more : List X
  before_is : before ≡ first ++ more
  rest_is : rest ≡ more ++ x ∷ after

in_either : {X : Type 0} (first rest before : List X) (x : X) (after : List X) → first ++ rest ≡ before ++ x ∷ after → InFirst first rest before x after ⊎ InRest first rest before x after
in_either [] rest before x after is = inr (record { more = before; before_is = refl; rest_is = is })
in_either {X} (one ∷ first) rest [] x after is =
    let same : one ≡ x = cc in
    let behind : first ++ rest ≡ after = cc in
    inl (record { tail = first; first_is = ap (λ (y : X). y ∷ first) same; after_is = sym behind })
in_either {X} (one ∷ first) rest (other ∷ before) x after is =
    let same : one ≡ other = cc in
    let behind : first ++ rest ≡ before ++ x ∷ after = cc in
    elim (in_either first rest before x after behind) [
      | inl here ↦ inl (record { tail = here.tail; first_is = ap₂ (λ (y : X) (l : List X). y ∷ l) same here.first_is; after_is = here.after_is })
      | inr there ↦ inr (record { more = there.more; before_is = ap₂ (λ (y : X) (l : List X). y ∷ l) (sym same) there.before_is; rest_is = there.rest_is })
    ]

not_none : {X : Type 0} (xs ys : List X) (x : X) → xs ++ x ∷ ys ≡ [] → ⊥
not_none [] ys x is = cc
not_none (other ∷ xs) ys x is = cc

alone : {X : Type 0} (xs ys : List X) (x y : X) → xs ++ x ∷ ys ≡ y ∷ [] → (xs ≡ []) × (x ≡ y)
alone [] ys x y is = let same : x ≡ y = cc in (refl, same)
alone (other ∷ xs) ys x y is = let none : xs ++ x ∷ ys ≡ [] = cc in absurd (not_none xs ys x none)

-- ---- with a call

unit_same : (gifts : List Circumstance) (one two : Packet) → (let a : One = Comes gifts one in let b : One = Comes gifts two in a ≡ b) → one ≡ two
unit_same gifts one two is = cc

no_unit : (gifts : List Circumstance) (unit : Packet) (news : News) → (let a : One = Comes gifts unit in let b : One = Learns gifts news in a ≡ b) → ⊥
no_unit gifts unit news is = cc

-- a unit that comes with a call is the packet that is whole, and nothing comes ahead of it
came_with : (call : HostCall) (packet : Option Packet) (xs ys : List One) (unit : Packet) → xs ++ Comes [] unit ∷ ys ≡ comings_with call packet → (packet ≡ Some unit) × (xs ≡ [])
came_with (Feed piece) None xs ys unit is = absurd (not_none xs ys (Comes [] unit) is)
came_with (Feed piece) (Some whole) xs ys unit is = let one = alone xs ys (Comes [] unit) (Comes [] whole) is in (ap (λ (p : Packet). Some p) (sym (unit_same [] unit whole one.1)), one.0)
came_with OnTimer packet xs ys unit is = absurd (no_unit [] unit TimerFired (alone xs ys (Comes [] unit) (Learns [] TimerFired) is).1)
came_with (Push name) packet xs ys unit is = absurd (no_unit [] unit (Opening name) (alone xs ys (Comes [] unit) (Learns [] (Opening name)) is).1)
came_with Cancel packet xs ys unit is = absurd (no_unit [] unit Cancelled (alone xs ys (Comes [] unit) (Learns [] Cancelled) is).1)
came_with PutOut packet xs ys unit is = absurd (not_none xs ys (Comes [] unit) is)
came_with (Taken count) packet xs ys unit is = absurd (not_none xs ys (Comes [] unit) is)
came_with (PageDevice address) packet xs ys unit is = absurd (not_none xs ys (Comes [] unit) is)

-- and no unit moves ahead of it
fed_with : (step : Step) (first before tail : List One) (gifts : List Circumstance) (piece : Packet) → HappensWith step first → first ≡ before ++ Comes gifts piece ∷ tail → (step.turn.packet ≡ Some piece) × (units before ≡ [])
fed_with step first before tail gifts piece one is =
    let (packet, none) = came_with step.call step.turn.packet (comings_in before) (comings_in tail) piece (sym (comings_both before (Comes gifts piece ∷ tail)) ∙ (ap (λ (l : List One). comings_in l) (sym is) ∙ one.comings_are)) in
    let moved : units before ++ units (Comes gifts piece ∷ tail) ≡ into piece ∷ map out_of one.move.went =
    sym (flat_map-append units_of before (Comes gifts piece ∷ tail))
    ∙ (ap (λ (l : List One). units l) (sym is) ∙ (one.move.moves_are ∙ ap (λ (p : Option Packet). map into (option_to_list p) ++ map out_of one.move.went) packet)) in
    (packet, none_ahead before (units (Comes gifts piece ∷ tail)) (map out_of one.move.went) piece none moved)

-- ---- with one of several

record Found (steps : List Step) (before after : List One) (piece : Packet) : Type 0 where
  ahead : List Step
  step : Step
  behind : List Step
  steps_are : steps ≡ ahead ++ step ∷ behind
  none_begun : BeginsNone after → BeginsNone (comings_along behind)
  packet_is : step.turn.packet ≡ Some piece
  move : MoveInTurns (turns_of ahead) (units before)

found_in : (steps : List Step) (list before after : List One) (gifts : List Circumstance) (piece : Packet) → HappenInSteps steps list → list ≡ before ++ Comes gifts piece ∷ after → Found steps before after piece
found_in [] list before after gifts piece none is = absurd (not_none before after (Comes gifts piece) (sym is ∙ none))
found_in (step ∷ steps) list before after gifts piece (first, rest, one, more, all) is =
    elim (in_either first rest before (Comes gifts piece) after (sym all ∙ is)) [
      | inl here ↦
          let (packet, none) = fed_with step first before here.tail gifts piece one here.first_is in
          record {
            ahead = [];
            step = step;
            behind = steps;
            steps_are = refl;
            none_begun = λ begun. subst BeginsNone (comings_in_steps steps rest more) (none_begins rest (behind_begins here.tail rest (subst BeginsNone here.after_is begun)));
            packet_is = packet;
            move = none;
          }
      | inr there ↦
          let found = found_in steps rest there.more after gifts piece more there.rest_is in
          record {
            ahead = step ∷ found.ahead;
            step = found.step;
            behind = found.behind;
            steps_are = ap (λ (l : List Step). step ∷ l) found.steps_are;
            none_begun = found.none_begun;
            packet_is = found.packet_is;
            move = (units first, units there.more, one.move, found.move, ap (λ (l : List One). units l) there.before_is ∙ flat_map-append units_of first there.more);
          }
    ]

pub was_fed : (settings : Settings) (decision : Decision) (steps : List Step) (list : List One) → HappenFromStart (started Paging).out steps list → WasSaid settings decision list → WasFed settings decision steps
was_fed settings decision steps list (first, rest, begins, more, all) was =
    elim (in_either first rest was.before (Comes was.gifts was.piece) was.after (sym all ∙ was.occasions_are)) [
      | inl here ↦
          absurd (not_none (comings_in was.before) (comings_in here.tail) (Comes [] was.piece)
          (sym (comings_both was.before (Comes was.gifts was.piece ∷ here.tail)) ∙ (ap (λ (l : List One). comings_in l) (sym here.first_is) ∙ begins.none_come)))
      | inr there ↦
          let found = found_in steps rest there.more was.after was.gifts was.piece more there.rest_is in
          record {
            ahead = found.ahead;
            step = found.step;
            behind = found.behind;
            steps_are = found.steps_are;
            none_begun = found.none_begun was.none_begun;
            piece = was.piece;
            packet_is = found.packet_is;
            moved = units was.before;
            move = (units first, units there.more, begins.move, found.move, ap (λ (l : List One). units l) there.before_is ∙ flat_map-append units_of first there.more);
            said = was.said;
          }
    ]
