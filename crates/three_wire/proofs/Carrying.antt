-- How a run over the line goes on, and what it did where it ends.
use Rattle.std.proofs.Common.{◌≡◌, ◌≢◌, ℕ, zero, suc, slice_index_or, ◌+◌, ◌-◌, ◌<◌, ◌⊎◌, Bool, true, false, ltb, List, [], ◌∷◌, ◌++◌, length, take, drop, get_or, Option, Some, None, IfSome, Result, Ok, Err, IsErrOf, inl, inr, refl, sym, ap, subst, ◌∙◌, append_assoc, arith, length-append}
use Rattle.std.proofs.lemmas.List.{append-nil}
use Rattle.std.proofs.lemmas.Bool.{ltb-true, lt-ltb, and_parts, and_from, cases_Bool}
use Rattle.bt_base.specs.Counts.{HasRisen}
use Rattle.bt_base.specs.Streams.{gained, GainedFront}
use Rattle.bt_base.proofs.PortLaws.{gained-nil, front_whole, front_none}
use Rattle.h4_framing.specs.Packets.{Packet, Command, Acl, Sync, Event as H4Event, spelling, spellings, IsPacket}
use Rattle.wire_model.specs.declared.link.Way.TheVariants.{Forth}
use Rattle.wire_model.specs.Machine as machine
use Rattle.wire_model.specs.Trace.{Obeys, entries, carried, came, unit_octets, units_octets}
use Rattle.wire_model.specs.Pair.{Pair, new_pair, IsUnit, Event, Took, Crossed, Rang, Takes, Runs, crossings_of, taken, accepted}
use Rattle.wire_model.specs.Rounds.{takings, IsRound, joined, losses}
use Rattle.wire_model.proofs.Running.{runs_then, rounds_then, joined_then}
use Rattle.wire_model.proofs.Obeying.{obeys}
use Rattle.wire_model.proofs.Rounding.{losses_then, rounds_few}
use Rattle.wire_model.specs.Draws.{draws_from}
use Rattle.h4_framing.specs.declared.refusal.H4Refusal.TheVariants.{Truncated, BadIndicator, AclTooLong}
use Rattle.h4_framing.specs.Stream.{Whole, Cut, Fault}
use Rattle.h4_framing.proofs.ReadingLemmas.{one_reading}
use Rattle.wire_model.proofs.Carrying.{stands_from, all_got}
use Rattle.three_wire.specs.declared.carriage.Carriage.{Carriage}
use Rattle.three_wire.specs.declared.ends.Ends.{Ends}
use Rattle.three_wire.specs.declared.feed.Feed.{Feed}
use Rattle.three_wire.specs.declared.fault.CarryEnd.{CarryEnd}
use Rattle.three_wire.specs.declared.fault.CarryEnd.TheVariants.{All, Spent}
use Rattle.three_wire.specs.declared.fault.CarryFault.{CarryFault}
use Rattle.three_wire.specs.declared.fault.CarryFault.TheVariants.{Refused, ReadFault, WriteFault, NoMemory, TooLong}
use Rattle.three_wire.specs.declared.wire.WireSubmit.{WireSubmit}
use Rattle.three_wire.specs.declared.wire.WireSubmit.TheVariants.{NotActive, Busy, Taken}
use Rattle.three_wire.specs.Crossing.{Steady, BlamesBoth}
use Rattle.three_wire.specs.Wire.{is_ready, Submits}
use Rattle.three_wire.specs.Feeding.{IsRefusal, BlamesSource, acl_limit, HasShape, IsFeeding, IsFront, IsAll, StopsAt}
use Rattle.three_wire.specs.Going.{pair_of, IsSound, Went, Broke, WentRound}
use Rattle.three_wire.specs.Carrying.{Given, given, as_unit, as_units, GoesRound, most_rounds, EndsBy, Carries, AnyRose, IsBounded, IsWholeInput, EndsWell, ReadsOn, IsCarrying, HasCause, EndsHere}
use Rattle.three_wire.proofs.Feeding.{some_octet, few_fed, front_fed}
use Rattle.three_wire.proofs.Going.{went_none, went_then, broke_trace, broke_sink, taken_then, round_takes_none, no_cut}

-- ---- units

spelled : (p : Packet) → unit_octets (as_unit p) ≡ spelling p
spelled (Command opcode params) = refl
spelled (Acl word octets) = refl
spelled (Sync word octets) = refl
spelled (H4Event code params) = refl

pub units_spelled : (packets : List Packet) → units_octets (as_units packets) ≡ spellings packets
units_spelled [] = refl
units_spelled (p ∷ packets) = ap (λ (o : List ℕ). o ++ units_octets (as_units packets)) (spelled p) ∙ ap (λ (o : List ℕ). spelling p ++ o) (units_spelled packets)

pub is_unit : (p : Packet) → IsPacket acl_limit p → IsUnit (as_unit p)
is_unit (Command opcode params) is = record { above = omega arith; below = omega arith; fits = omega (arith, is.1) }
is_unit (Acl word octets) is = record { above = omega arith; below = omega arith; fits = omega (arith, is.2) }
is_unit (Sync word octets) is = record { above = omega arith; below = omega arith; fits = omega (arith, is.1) }
is_unit (H4Event code params) is = record { above = omega arith; below = omega arith; fits = omega (arith, is.1) }

-- ---- the start

pub carries_none : (number : Option ℕ) (input sink trace : Option (List ℕ)) (c : Carriage) → pair_of c.ends ≡ new_pair number → IsSound c.ends → HasShape c.feed → IsFeeding input input c.feed [] → c.ended ≡ false → c.units ≡ 0 → c.rounds ≡ 0
    → IsCarrying (given number input sink trace) input sink trace c
carries_none number input sink trace c pair sound shape feeding going units rounds = record {
  sound = sound;
  shape = shape;
  packets = [];
  front = front_fed input input c.feed [] feeding;
  read = subst (λ (b : Bool). ReadsOn b input input c.feed []) (sym going) feeding;
  few = omega arith;
  units_count = units;
  events = [];
  went = subst (λ (p : Pair). Went (new_pair number) p [] sink sink trace trace) (sym pair) (went_none (new_pair number) sink trace);
  takes = refl;
  round = record { rounds = []; units = []; between = pair_of c.ends; whole = pair; takes = refl; all = refl };
  rounds_count = rounds;
  in_time = omega (arith, rounds);
}

-- ---- a unit is taken

takings_more : (units : List machine.Unit) (u : machine.Unit) → takings (units ++ u ∷ []) ≡ takings units ++ Took u ∷ []
takings_more [] u = refl
takings_more (x ∷ units) u = ap (λ es. Took x ∷ es) (takings_more units u)

round_more : (number : Option ℕ) (events : List Event) (p q : Pair) (u : machine.Unit) → (g : GoesRound number events p) → Takes p u q → GoesRound number (events ++ Took u ∷ []) q
round_more number events p q u g takes = record {
  rounds = g.rounds;
  units = g.units ++ u ∷ [];
  between = g.between;
  whole = g.whole;
  takes = subst (λ (es : List Event). Runs g.between es q) (sym (takings_more g.units u)) (runs_then g.between p q (takings g.units) (Took u ∷ []) g.takes (q, takes, refl));
  all = ap (λ (es : List Event). es ++ Took u ∷ []) g.all ∙ append_assoc (joined g.rounds) (takings g.units) (Took u ∷ []) ∙ ap (λ (es : List Event). joined g.rounds ++ es) (sym (takings_more g.units u));
}

units_more : (packets : List Packet) (p : Packet) → as_units (packets ++ p ∷ []) ≡ as_units packets ++ as_unit p ∷ []
units_more [] p = refl
units_more (x ∷ packets) p = ap (λ us. as_unit x ∷ us) (units_more packets p)

pub ready_parts : (w : machine.Wire) → is_ready w ≡ true → (machine.is_active w.stage ≡ true) × (length w.unacked < w.window)
ready_parts w is = let parts = and_parts (machine.is_active w.stage) (ltb (length w.unacked) w.window) is in (parts.0, ltb-true (length w.unacked) w.window parts.1)

pub carries_unit : (g : Given) (left left' sink trace : Option (List ℕ)) (c c' : Carriage) (p : Packet) → (k : IsCarrying g left sink trace c) → is_ready c.ends.first ≡ true
    → IsFeeding g.input left' c'.feed (k.packets ++ p ∷ []) → IsPacket acl_limit p → HasShape c'.feed → IsSound c'.ends → pair_of c'.ends ≡ record (pair_of c.ends) { first = machine.submitted (as_unit p) c.ends.first }
    → c'.ended ≡ false → c'.units ≡ c.units + 1 → c'.rounds ≡ c.rounds → IsCarrying g left' sink trace c'
unfolding round_more
carries_unit g left left' sink trace c c' p k ready feeding is shape sound pair going units rounds =
    let parts = ready_parts c.ends.first ready in
    let takes : Takes (pair_of c.ends) (as_unit p) (pair_of c'.ends) = record { is_unit = is_unit p is; active = parts.0; room = parts.1; becomes = pair } in
    let one : Went (pair_of c.ends) (pair_of c'.ends) (Took (as_unit p) ∷ []) sink sink trace trace = record { runs = (pair_of c'.ends, takes, refl); writes = sym (gained-nil trace); gives = sym (gained-nil sink) } in
    record {
      sound = sound;
      shape = shape;
      packets = k.packets ++ p ∷ [];
      front = front_fed g.input left' c'.feed (k.packets ++ p ∷ []) feeding;
      read = subst (λ (b : Bool). ReadsOn b g.input left' c'.feed (k.packets ++ p ∷ [])) (sym going) feeding;
      few = few_fed g.input left' c'.feed (k.packets ++ p ∷ []) feeding;
      units_count = omega (arith, units, k.units_count, length-append k.packets (p ∷ []));
      events = k.events ++ Took (as_unit p) ∷ [];
      went = went_then (new_pair g.number) (pair_of c.ends) (pair_of c'.ends) k.events (Took (as_unit p) ∷ []) g.sink sink sink g.trace trace trace k.went one;
      takes = taken_then k.events (Took (as_unit p) ∷ []) ∙ ap (λ (us : List machine.Unit). us ++ as_unit p ∷ []) k.takes ∙ sym (units_more k.packets p);
      round = round_more g.number k.events (pair_of c.ends) (pair_of c'.ends) (as_unit p) k.round takes;
      rounds_count = rounds ∙ k.rounds_count;
      in_time = omega (arith, rounds, units, k.in_time);
    }

-- the source is at its end
pub carries_end : (g : Given) (left left' sink trace : Option (List ℕ)) (c c' : Carriage) → (k : IsCarrying g left sink trace c) → IfSome g.input (λ all. IsAll all k.packets) × IfSome left' (λ rest. rest ≡ [])
    → HasShape c'.feed → c'.ends ≡ c.ends → c'.ended ≡ true → c'.units ≡ c.units → c'.rounds ≡ c.rounds → IsCarrying g left' sink trace c'
carries_end g left left' sink trace c c' k all shape ends ended units rounds = record {
  sound = subst IsSound (sym ends) k.sound;
  shape = shape;
  packets = k.packets;
  front = k.front;
  read = subst (λ (b : Bool). ReadsOn b g.input left' c'.feed k.packets) (sym ended) all;
  few = k.few;
  units_count = units ∙ k.units_count;
  events = k.events;
  went = subst (λ (e : Ends). Went (new_pair g.number) (pair_of e) k.events g.sink sink g.trace trace) (sym ends) k.went;
  takes = k.takes;
  round = record { rounds = k.round.rounds; units = k.round.units; between = k.round.between; whole = k.round.whole; takes = subst (λ (e : Ends). Runs k.round.between (takings k.round.units) (pair_of e)) (sym ends) k.round.takes; all = k.round.all };
  rounds_count = rounds ∙ k.rounds_count;
  in_time = omega (arith, rounds, units, k.in_time);
}

-- ---- packets go

pub carries_round : (g : Given) (left sink sink' trace trace' : Option (List ℕ)) (c c' : Carriage) → (k : IsCarrying g left sink trace c) → (machine.is_active c.ends.first.stage ≡ true → c.ends.first.unacked ≢ [])
    → WentRound (pair_of c.ends) (pair_of c'.ends) sink sink' trace trace' → IsSound c'.ends → c'.feed ≡ c.feed → c'.ended ≡ c.ended → c'.units ≡ c.units → c'.rounds ≡ c.rounds + 1 → c.rounds < most_rounds c.units → IsCarrying g left sink' trace' c'
carries_round g left sink sink' trace trace' c c' k cause w sound feed ended units rounds time =
    let round : IsRound k.round.between (takings k.round.units ++ w.events) (pair_of c'.ends) = record { units = k.round.units; passing = w.events; middle = pair_of c.ends; takes = k.round.takes; cause = cause; passes = w.passes; all = refl } in
    let more = k.round.rounds ++ (takings k.round.units ++ w.events) ∷ [] in
    record {
      sound = sound;
      shape = subst HasShape (sym feed) k.shape;
      packets = k.packets;
      front = k.front;
      read = subst (λ (b : Bool). ReadsOn b g.input left c'.feed k.packets) (sym ended) (subst (λ (f : Feed). ReadsOn c.ended g.input left f k.packets) (sym feed) k.read);
      few = k.few;
      units_count = units ∙ k.units_count;
      events = k.events ++ w.events;
      went = went_then (new_pair g.number) (pair_of c.ends) (pair_of c'.ends) k.events w.events g.sink sink sink' g.trace trace trace' k.went w.went;
      takes = taken_then k.events w.events ∙ ap (λ (us : List machine.Unit). taken k.events ++ us) (round_takes_none (pair_of c.ends) (pair_of c'.ends) w.events w.passes) ∙ append-nil (taken k.events) ∙ k.takes;
      round = record {
        rounds = more;
        units = [];
        between = pair_of c'.ends;
        whole = rounds_then (new_pair g.number) k.round.between (pair_of c'.ends) k.round.rounds (takings k.round.units ++ w.events) k.round.whole round;
        takes = refl;
        all = ap (λ (es : List Event). es ++ w.events) k.round.all ∙ append_assoc (joined k.round.rounds) (takings k.round.units) w.events ∙ sym (joined_then k.round.rounds (takings k.round.units ++ w.events)) ∙ sym (append-nil (joined more));
      };
      rounds_count = omega (arith, rounds, k.rounds_count, length-append k.round.rounds ((takings k.round.units ++ w.events) ∷ []));
      in_time = omega (arith, rounds, units, time);
    }

-- ---- the ends

-- a run ends where the sink and the trace have all
pub carries_whole : (g : Given) (left sink trace : Option (List ℕ)) (c : Carriage) (Rose : Type 0) (result : Result CarryEnd CarryFault) → (k : IsCarrying g left sink trace c) → EndsBy g k.packets k.events (pair_of c.ends) result → Carries g sink trace Rose result
carries_whole g left sink trace c Rose result k ends =
    let s = stands_from g.number k.events (pair_of c.ends) k.went.runs in
    let gives : sink ≡ gained g.sink (units_octets (carried (crossings_of k.events))) = k.went.gives ∙ ap (λ (us : List machine.Unit). gained g.sink (units_octets us)) (sym s.picks) in
    record {
      packets = k.packets;
      front = k.front;
      events = k.events;
      last = pair_of c.ends;
      runs = k.went.runs;
      takes = k.takes;
      cut = [];
      is_cut = no_cut (record { way = Forth; lost = false; packet = machine.ack_packet 0 });
      traced = k.went.writes ∙ ap (gained g.trace) (sym (append-nil (entries (crossings_of k.events))));
      obeys = obeys (new_pair g.number) (pair_of c.ends) k.events k.went.runs;
      left = s.left;
      in_order = sym k.takes ∙ s.got_is ∙ ap (λ (us : List machine.Unit). us ++ s.left) (sym s.picks);
      delivers = front_whole g.sink sink (units_octets (carried (crossings_of k.events))) gives;
      whole = inl (record { no_cut = refl; gives = gives });
      ends = ends;
    }

-- a port breaks it off
pub carries_broke : (g : Given) (left sink sink' trace trace' : Option (List ℕ)) (c : Carriage) (Rose : Type 0) (result : Result CarryEnd CarryFault) → (k : IsCarrying g left sink trace c) → Rose → ((events : List Event) (last : Pair) → EndsBy g k.packets events last result)
    → Broke (pair_of c.ends) sink sink' trace trace' → Carries g sink' trace' Rose result
carries_broke g left sink sink' trace trace' c Rose result k rose ends b =
    let events = k.events ++ b.events in
    let runs = runs_then (new_pair g.number) (pair_of c.ends) b.last k.events b.events k.went.runs b.runs in
    let s = stands_from g.number events b.last runs in
    let takes : taken events ≡ as_units k.packets = taken_then k.events b.events ∙ ap (λ (us : List machine.Unit). taken k.events ++ us) b.none ∙ append-nil (taken k.events) ∙ k.takes in
    record {
      packets = k.packets;
      front = k.front;
      events = events;
      last = b.last;
      runs = runs;
      takes = takes;
      cut = b.cut;
      is_cut = b.is_cut;
      traced = broke_trace k.events b.events b.cut g.trace trace trace' k.went.writes b.writes;
      obeys = obeys (new_pair g.number) b.last events runs;
      left = s.left;
      in_order = sym takes ∙ s.got_is ∙ ap (λ (us : List machine.Unit). us ++ s.left) (sym s.picks);
      delivers = subst (λ (us : List machine.Unit). GainedFront g.sink sink' (units_octets us)) (sym s.picks) (broke_sink k.events b.events g.sink sink sink' k.went.gives b.front);
      whole = inr rose;
      ends = ends events b.last;
    }

-- the other causes of what did not come whole
pub carries_since : (g : Given) (sink trace : Option (List ℕ)) (Rose Rose' : Type 0) (result : Result CarryEnd CarryFault) → (Rose → Rose') → Carries g sink trace Rose result → Carries g sink trace Rose' result
carries_since g sink trace Rose Rose' result f k = record {
  packets = k.packets;
  front = k.front;
  events = k.events;
  last = k.last;
  runs = k.runs;
  takes = k.takes;
  cut = k.cut;
  is_cut = k.is_cut;
  traced = k.traced;
  obeys = k.obeys;
  left = k.left;
  in_order = k.in_order;
  delivers = k.delivers;
  whole = elim k.whole [ inl all ↦ inl all | inr rose ↦ inr (f rose) ];
  ends = k.ends;
}

-- ---- what the calls answer

abbrev unit_in : List ℕ → machine.Unit
unit_in octets = record { kind = get_or octets 0 0; octets = drop 1 octets }

-- the octets of a unit, with its indicator, are the unit
pub unit_read : (items : List ℕ) (n kind : ℕ) (p : Packet) → n ≡ length (spelling p) → take n items ≡ spelling p → kind ≡ slice_index_or items 0 kind → (let u : machine.Unit = record { kind = kind; octets = take (n - 1) (drop 1 items) } in u) ≡ as_unit p
unit_read [] n kind p long is at = let none = ap length (sym (take_nil n) ∙ is) in let some = some_octet p in absurd (omega (arith, none, some))
  where
    take_nil : (n : ℕ) → take n (let none : List ℕ = [] in none) ≡ []
    take_nil zero = refl
    take_nil (suc n) = refl
unit_read (x ∷ items) zero kind p long is at = let some = some_octet p in absurd (omega (arith, long, some))
unit_read (x ∷ items) (suc n) kind p long is at =
    let less : suc n - 1 ≡ n = omega arith in
    ap (λ (m : ℕ). let u : machine.Unit = record { kind = kind; octets = take m items } in u) less ∙ ap (λ (k : ℕ). let u : machine.Unit = record { kind = k; octets = take n items } in u) at ∙ ap unit_in is

pub submitted_ready : (old new : machine.Wire) (u : machine.Unit) (result : WireSubmit) → is_ready old ≡ true → Submits old u result new → new ≡ machine.submitted u old
submitted_ready old new u NotActive ready s = absurd (let x : true ≡ false = sym (ready_parts old ready).0 ∙ s.0 in cc)
submitted_ready old new u Busy ready s = absurd (omega (arith, (ready_parts old ready).1, s.1))
submitted_ready old new u Taken ready s = s.2

some_unit : (input : Option (List ℕ)) → IfSome input (λ all. Unit {0})
some_unit None = tt
some_unit (Some all) = tt

pub port_stops : (input : Option (List ℕ)) (packets : List Packet) (why : CarryFault) (a b c d e f g h : ℕ) → BlamesBoth {A = Unit {0}} a b c d e f g h (Err why) → IfSome input (λ all. StopsAt all packets why)
port_stops input packets WriteFault a b c d e f g h blame = some_unit input
port_stops input packets NoMemory a b c d e f g h blame = some_unit input
port_stops input packets ReadFault a b c d e f g h blame = absurd blame
port_stops input packets (Refused refusal place) a b c d e f g h blame = absurd blame
port_stops input packets (TooLong place) a b c d e f g h blame = absurd blame

pub rose_since : (why : CarryFault) (a a' a'' b b' b'' c c' c'' d d' d'' : ℕ) → Steady a a' b b' c c' d d' → BlamesBoth {A = Unit {0}} a' a'' b' b'' c' c'' d' d'' (Err why) → AnyRose a a'' b b'' c c'' d d''
rose_since WriteFault a a' a'' b b' b'' c c' c'' d d' d'' s (inl r) = inl (subst (λ x. HasRisen x a'') s.sink_faults r)
rose_since WriteFault a a' a'' b b' b'' c c' c'' d d' d'' s (inr r) = inr (inr (inl (subst (λ x. HasRisen x c'') s.trace_faults r)))
rose_since NoMemory a a' a'' b b' b'' c c' c'' d d' d'' s (inl r) = inr (inl (subst (λ x. HasRisen x b'') s.sink_shortages r))
rose_since NoMemory a a' a'' b b' b'' c c' c'' d d' d'' s (inr r) = inr (inr (inr (subst (λ x. HasRisen x d'') s.trace_shortages r)))
rose_since ReadFault a a' a'' b b' b'' c c' c'' d d' d'' s blame = absurd blame
rose_since (Refused refusal place) a a' a'' b b' b'' c c' c'' d d' d'' s blame = absurd blame
rose_since (TooLong place) a a' a'' b b' b'' c c' c'' d d' d'' s blame = absurd blame

pub same_fault : (a b : CarryFault) → (let r : Result CarryEnd CarryFault = Err a in r) ≡ Err b → a ≡ b
same_fault a b e = cc

pub read_since : (why : CarryFault) (a a' a'' b b' : ℕ) → a' ≡ a → BlamesSource {A = Unit {0}} a' a'' b b' (Err why) → why ≡ ReadFault → HasRisen a a''
read_since why a a' a'' b b' same blame is = subst (λ x. HasRisen x a'') same (subst (λ (w : CarryFault). BlamesSource {A = Unit {0}} a' a'' b b' (Err w)) is blame)

pub short_since : (why : CarryFault) (a a' b b' b'' : ℕ) → b' ≡ b → BlamesSource {A = Unit {0}} a a' b' b'' (Err why) → why ≡ NoMemory → HasRisen b b''
short_since why a a' b b' b'' same blame is = subst (λ x. HasRisen x b'') same (subst (λ (w : CarryFault). BlamesSource {A = Unit {0}} a a' b' b'' (Err w)) is blame)

pub no_write : (why : CarryFault) (a a' b b' : ℕ) → BlamesSource {A = Unit {0}} a a' b b' (Err why) → why ≡ WriteFault → ⊥
no_write why a a' b b' blame is = subst (λ (w : CarryFault). BlamesSource {A = Unit {0}} a a' b b' (Err w)) is blame

pub no_read : (why : CarryFault) (a a' b b' c c' d d' : ℕ) → BlamesBoth {A = Unit {0}} a a' b b' c c' d d' (Err why) → why ≡ ReadFault → ⊥
no_read why a a' b b' c c' d d' blame is = subst (λ (w : CarryFault). BlamesBoth {A = Unit {0}} a a' b b' c c' d d' (Err w)) is blame

pub written_since : (why : CarryFault) (a a' a'' b b' b'' c c' c'' d d' d'' : ℕ) → Steady a a' b b' c c' d d' → BlamesBoth {A = Unit {0}} a' a'' b' b'' c' c'' d' d'' (Err why) → why ≡ WriteFault → HasRisen a a'' ⊎ HasRisen c c''
written_since why a a' a'' b b' b'' c c' c'' d d' d'' s blame is = elim (subst (λ (w : CarryFault). BlamesBoth {A = Unit {0}} a' a'' b' b'' c' c'' d' d'' (Err w)) is blame) [
  | inl r ↦ inl (subst (λ x. HasRisen x a'') s.sink_faults r)
  | inr r ↦ inr (subst (λ x. HasRisen x c'') s.trace_faults r)
]

pub shorts_since : (why : CarryFault) (a a' a'' b b' b'' c c' c'' d d' d'' : ℕ) → Steady a a' b b' c c' d d' → BlamesBoth {A = Unit {0}} a' a'' b' b'' c' c'' d' d'' (Err why) → why ≡ NoMemory → HasRisen b b'' ⊎ HasRisen d d''
shorts_since why a a' a'' b b' b'' c c' c'' d d' d'' s blame is = elim (subst (λ (w : CarryFault). BlamesBoth {A = Unit {0}} a' a'' b' b'' c' c'' d' d'' (Err w)) is blame) [
  | inl r ↦ inl (subst (λ x. HasRisen x b'') s.sink_shortages r)
  | inr r ↦ inr (subst (λ x. HasRisen x d'') s.trace_shortages r)
]

-- ---- the rounds

no_losses : (units : List machine.Unit) → losses (takings units) ≡ 0
no_losses [] = refl
no_losses (u ∷ units) = let rest = no_losses units in omega (arith, rest)

units_length : (packets : List Packet) → length (as_units packets) ≡ length packets
units_length [] = refl
units_length (p ∷ packets) = let rest = units_length packets in omega (arith, rest)

bound_of : (number : Option ℕ) (events : List Event) (last : Pair) (packets : List Packet) → (g : GoesRound number events last) → taken events ≡ as_units packets → IsBounded (length g.rounds) packets events
bound_of number events last packets g takes =
    let bound = rounds_few number g.rounds g.between g.whole in
    let lost = ap losses g.all ∙ losses_then (joined g.rounds) (takings g.units) in
    let took = ap (λ (es : List Event). length (taken es)) g.all ∙ ap length (taken_then (joined g.rounds) (takings g.units)) ∙ length-append (taken (joined g.rounds)) (taken (takings g.units)) in
    omega (arith, bound, lost, no_losses g.units, took, ap length takes, units_length packets)

-- how a run ends before packets go
pub ends_here : (g : Given) (left sink trace : Option (List ℕ)) (c : Carriage) (end : CarryEnd) → (k : IsCarrying g left sink trace c) → EndsHere c (Some end) → EndsBy g k.packets k.events (pair_of c.ends) (Ok end)
ends_here g left sink trace c All k e =
    let s = stands_from g.number k.events (pair_of c.ends) k.went.runs in (
      (subst (λ (b : Bool). ReadsOn b g.input left c.feed k.packets) e.0 k.read).0,
      s.picks ∙ all_got c.ends.first c.ends.second (taken k.events) (accepted k.events) (came (crossings_of k.events)) s e.1 ∙ k.takes,
      e.1,
      (k.round, bound_of g.number k.events (pair_of c.ends) k.packets k.round k.takes),
    )
ends_here g left sink trace c Spent k e =
    let all : length k.round.rounds ≡ most_rounds (length k.packets) = omega (arith, e, k.in_time, k.rounds_count, k.units_count) in
    let bound = bound_of g.number k.events (pair_of c.ends) k.packets k.round k.takes in
    (k.round, all, omega (arith, all, bound))

-- where all is carried the source is at its end
pub finishes : (g : Given) (left sink trace : Option (List ℕ)) (c : Carriage) (end : CarryEnd) → IsCarrying g left sink trace c → EndsHere c (Some end) → (let r : Result CarryEnd CarryFault = Ok end in r) ≡ Ok All → IfSome left (λ rest. rest ≡ [])
finishes g left sink trace c All k e is = (subst (λ (b : Bool). ReadsOn b g.input left c.feed k.packets) e.0 k.read).1
finishes g left sink trace c Spent k e is = absurd cc

-- packets go where something is to be carried
pub cause_of : (g : Given) (left sink trace : Option (List ℕ)) (c : Carriage) → IsCarrying g left sink trace c → (c.ended ≡ false → is_ready c.ends.first ≡ false) → EndsHere c None → HasCause c
cause_of g left sink trace c k stops e active none = elim (cases_Bool c.ended) [
  | inl ended ↦ e.1 ended none
  | inr going ↦
      let s = stands_from g.number k.events (pair_of c.ends) k.went.runs in
      let room : ltb (length c.ends.first.unacked) c.ends.first.window ≡ true = lt-ltb (length c.ends.first.unacked) c.ends.first.window (omega (arith, ap length none, s.sending.wide)) in
      let x : true ≡ false = sym (and_from (machine.is_active c.ends.first.stage) (ltb (length c.ends.first.unacked) c.ends.first.window) active room) ∙ stops going in
      cc
]

-- a run that could not begin
pub carries_nothing : (number : Option ℕ) (input sink trace : Option (List ℕ)) (Rose : Type 0) → Carries (given number input sink trace) sink trace Rose (Err NoMemory)
carries_nothing number input sink trace Rose = record {
  packets = [];
  front = all_front input;
  events = [];
  last = new_pair number;
  runs = refl;
  takes = refl;
  cut = [];
  is_cut = no_cut (record { way = Forth; lost = false; packet = machine.ack_packet 0 });
  traced = sym (gained-nil trace);
  obeys = tt;
  left = [];
  in_order = refl;
  delivers = front_none sink (units_octets (carried []));
  whole = inl (record { no_cut = refl; gives = sym (gained-nil sink) });
  ends = some_unit input;
}
  where
    all_front : (input : Option (List ℕ)) → IfSome input (λ all. IsFront [] all)
    all_front None = tt
    all_front (Some all) = (all, refl)

-- ---- a run over a line that loses nothing, without a fault

obeys_none : (events : List Event) → Obeys None (crossings_of events) → losses events ≡ 0
obeys_none [] o = refl
obeys_none (Took u ∷ events) o = let rest = obeys_none events o in omega (arith, rest)
obeys_none (Crossed c got ∷ events) o = let rest = obeys_none events o.1 in omega (arith, ap machine.flag o.0, rest)
obeys_none (Rang ∷ events) o = let rest = obeys_none events o in omega (arith, rest)

stops_not : (all : List ℕ) (ps qs : List Packet) (why : CarryFault) → IsAll all ps → IsRefusal why → StopsAt all qs why → ⊥
stops_not all ps qs (Refused Truncated place) is r s = let same = (one_reading acl_limit all ps qs Whole Cut is.reads s.0).1 in absurd cc
stops_not all ps qs (Refused BadIndicator place) is r s = let same = (one_reading acl_limit all ps qs Whole (Fault BadIndicator place) is.reads s.0).1 in absurd cc
stops_not all ps qs (Refused AclTooLong place) is r s = let same = (one_reading acl_limit all ps qs Whole (Fault AclTooLong place) is.reads s.0).1 in absurd cc
stops_not all ps qs (TooLong place) is r (_, inl long) = omega (arith, long, is.within)
stops_not all ps qs (TooLong place) is r (_, inr cut) = let same = (one_reading acl_limit all ps qs Whole Cut is.reads cut).1 in absurd cc
stops_not all ps qs ReadFault is r s = r
stops_not all ps qs WriteFault is r s = r
stops_not all ps qs NoMemory is r s = r

pub ends_well : (input sink sink' trace trace' : Option (List ℕ)) (number : Option ℕ) (Rose Read Write : Type 0) (result : Result CarryEnd CarryFault) → Carries (given number input sink trace) sink' trace' Rose result → (IsErrOf result ReadFault → Read) → (IsErrOf result WriteFault → Write)
    → number ≡ None → IsWholeInput input → (Read → ⊥) → (Write → ⊥) → EndsWell result
ends_well input sink sink' trace trace' number Rose Read Write (Ok All) k read write none whole no_read' no_write' = inl refl
ends_well input sink sink' trace trace' number Rose Read Write (Ok Spent) k read write none whole no_read' no_write' =
    let lost = obeys_none k.events (subst (λ (n : Option ℕ). Obeys (draws_from n) (crossings_of k.events)) none k.obeys) in absurd (omega (arith, lost, k.ends.2))
ends_well input sink sink' trace trace' number Rose Read Write (Err ReadFault) k read write none whole no_read' no_write' = absurd (no_read' (read refl))
ends_well input sink sink' trace trace' number Rose Read Write (Err WriteFault) k read write none whole no_read' no_write' = absurd (no_write' (write refl))
ends_well input sink sink' trace trace' number Rose Read Write (Err NoMemory) k read write none whole no_read' no_write' = inr refl
ends_well None sink sink' trace trace' number Rose Read Write (Err (Refused refusal place)) k read write none whole no_read' no_write' = absurd whole
ends_well (Some all) sink sink' trace trace' number Rose Read Write (Err (Refused refusal place)) k read write none whole no_read' no_write' = absurd (stops_not all whole.0 k.packets (Refused refusal place) whole.1 tt k.ends)
ends_well None sink sink' trace trace' number Rose Read Write (Err (TooLong place)) k read write none whole no_read' no_write' = absurd whole
ends_well (Some all) sink sink' trace trace' number Rose Read Write (Err (TooLong place)) k read write none whole no_read' no_write' = absurd (stops_not all whole.0 k.packets (TooLong place) whole.1 tt k.ends)
