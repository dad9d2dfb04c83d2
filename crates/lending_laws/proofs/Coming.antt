-- Which of all that happens to a host comes to it, by what its ports were to answer and by the units that move.
use Rattle.std.proofs.Common.{◌≡◌, List, [], ◌∷◌, ◌++◌, refl, sym, ap, ap₂, ◌∙◌}
use Rattle.std.specs.List.{AllByRecursion}
use Rattle.std.proofs.lemmas.List.{append-nil}
use Rattle.std.proofs.lemmas.List.Concat.{flat_map-append}
use Rattle.call_laws.specs.unit_laws.specs.scenario_laws.specs.h4_framing.specs.Packets.{Packet}
use Rattle.call_laws.specs.bt_host.specs.capture.specs.declared.flow.Flow.{Flow}
use Rattle.call_laws.specs.bt_host.specs.capture.specs.declared.flow.Flow.TheVariants.{Out, Into}
use Rattle.call_laws.specs.bt_host.specs.capture.specs.Moves.{Move}
use Rattle.call_laws.specs.bt_host.specs.host_link.specs.Stands.{into}
use Rattle.call_laws.specs.bt_host.specs.host_model.specs.Circumstances.{Circumstance}
use Rattle.call_laws.specs.unit_laws.specs.Calls.{gifts_in}
use Rattle.call_laws.specs.unit_laws.specs.Laws.{FiresNone}
use Rattle.call_laws.specs.unit_laws.specs.Units.{Occasion, Comes, Learns, Says, Puts, Commands, Waits, units}
use Rattle.lending_laws.specs.Comings.{comings_of, comings_in}

abbrev pub One : Type 0
One = Occasion Circumstance

pub comings_both : (one two : List One) → comings_in (one ++ two) ≡ comings_in one ++ comings_in two
comings_both one two = flat_map-append comings_of one two

-- ---- where nothing comes

-- its ports were to answer nothing
pub none_come : (occasions : List One) → gifts_in occasions ≡ [] → comings_in occasions ≡ []
none_come [] none = refl
none_come (Comes gifts unit ∷ rest) none = let e : gifts ∷ gifts_in rest ≡ [] = none in cc
none_come (Learns gifts news ∷ rest) none = let e : gifts ∷ gifts_in rest ≡ [] = none in cc
none_come (Says pdu ∷ rest) none = none_come rest none
none_come (Puts handle piece ∷ rest) none = none_come rest none
none_come (Commands command ∷ rest) none = none_come rest none
none_come (Waits ∷ rest) none = none_come rest none

-- which way the first unit moves, and which it is
abbrev first_flow : List Move → Flow
first_flow [] = Out
first_flow (move ∷ moves) = move.flow

abbrev first_packet : Packet → List Move → Packet
first_packet other [] = other
first_packet other (move ∷ moves) = move.packet

went_first : (packet : Packet) (moves more : List Move) → first_flow moves ≡ Out → moves ≡ into packet ∷ more → ⊥
went_first packet moves more out is =
    let never : Out ≡ Into = sym out ∙ ap first_flow is in
    cc

-- no unit comes in ahead of it
pub none_ahead : (occasions : List One) (rest more : List Move) (packet : Packet) → comings_in occasions ≡ [] → units occasions ++ rest ≡ into packet ∷ more → units occasions ≡ []
none_ahead [] rest more packet none is = refl
none_ahead (Comes gifts unit ∷ list) rest more packet none is = let e : Comes [] unit ∷ comings_in list ≡ [] = none in cc
none_ahead (Learns gifts news ∷ list) rest more packet none is = let e : Learns [] news ∷ comings_in list ≡ [] = none in cc
none_ahead (Says pdu ∷ list) rest more packet none is = none_ahead list rest more packet none is
none_ahead (Puts handle piece ∷ list) rest more packet none is = absurd (went_first packet (units (Puts handle piece ∷ list) ++ rest) more refl is)
none_ahead (Commands command ∷ list) rest more packet none is = absurd (went_first packet (units (Commands command ∷ list) ++ rest) more refl is)
none_ahead (Waits ∷ list) rest more packet none is = none_ahead list rest more packet none is

-- ---- where a unit comes

first_move : (one two : Packet) (list more : List Move) → into one ∷ list ≡ into two ∷ more → one ≡ two
first_move one two list more is = ap (λ (moves : List Move). first_packet one moves) is

no_moves : (packet : Packet) (moves more : List Move) → moves ≡ [] → moves ≡ into packet ∷ more → ⊥
no_moves packet moves more none is = let never : [] ≡ into packet ∷ more = sym none ∙ is in cc

-- it alone, where its ports were to answer once
pub one_comes : (occasions : List One) (gifts : List Circumstance) (packet : Packet) (more : List Move) → gifts_in occasions ≡ gifts ∷ [] → units occasions ≡ into packet ∷ more → comings_in occasions ≡ Comes [] packet ∷ []
one_comes [] gifts packet more given is = let e : [] ≡ gifts ∷ [] = given in cc
one_comes (Comes some unit ∷ rest) gifts packet more given is =
    let e : some ∷ gifts_in rest ≡ gifts ∷ [] = given in
    let none : gifts_in rest ≡ [] = cc in
    ap₂ (λ (p : Packet) (l : List One). Comes [] p ∷ l) (first_move unit packet (units rest) more is) (none_come rest none)
one_comes (Learns some news ∷ rest) gifts packet more given is =
    let e : some ∷ gifts_in rest ≡ gifts ∷ [] = given in
    let none : gifts_in rest ≡ [] = cc in
    absurd (no_moves packet (units rest) more (none_ahead rest [] more packet (none_come rest none) (append-nil (units rest) ∙ is)) is)
one_comes (Says pdu ∷ rest) gifts packet more given is = one_comes rest gifts packet more given is
one_comes (Puts handle piece ∷ rest) gifts packet more given is = absurd (went_first packet (units (Puts handle piece ∷ rest)) more refl is)
one_comes (Commands command ∷ rest) gifts packet more given is = absurd (went_first packet (units (Commands command ∷ rest)) more refl is)
one_comes (Waits ∷ rest) gifts packet more given is = one_comes rest gifts packet more given is

-- ---- where no timer fires

pub untimed_by : (occasions : List One) → AllByRecursion FiresNone (comings_in occasions) → AllByRecursion FiresNone occasions
untimed_by [] all = tt
untimed_by (Comes gifts unit ∷ rest) all = (tt, untimed_by rest all.1)
untimed_by (Learns gifts news ∷ rest) all = (all.0, untimed_by rest all.1)
untimed_by (Says pdu ∷ rest) all = (tt, untimed_by rest all)
untimed_by (Puts handle piece ∷ rest) all = (tt, untimed_by rest all)
untimed_by (Commands command ∷ rest) all = (tt, untimed_by rest all)
untimed_by (Waits ∷ rest) all = (tt, untimed_by rest all)
