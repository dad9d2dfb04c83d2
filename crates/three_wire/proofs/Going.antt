-- What happened first and what happened then is what happened.
use Rattle.std.proofs.Common.{◌≡◌, ℕ, ◌⊎◌, Bool, true, false, ◌&&◌, ◌||◌, not, List, [], ◌∷◌, ◌++◌, Option, Some, None, Result, Ok, Err, inl, inr, refl, sym, ap, subst, ◌∙◌, arith}
use Rattle.std.proofs.lemmas.List.{append-nil, append_assoc}
use Rattle.std.proofs.lemmas.List.Elements.{filter_map-append}
use Rattle.std.proofs.lemmas.Grind.{flat_map-append}
use Rattle.std.specs.List.{list_any, cons_option}
use Rattle.std.specs.Option.{option_to_list}
use Rattle.bt_base.specs.Streams.{gained, GainedFront}
use Rattle.bt_base.proofs.PortLaws.{gained-gained, gained-nil, front_then, front_none}
use Rattle.wire_packets.specs.Packets.{Packet}
use Rattle.wire_model.specs.declared.link.Way.{Way}
use Rattle.wire_model.specs.declared.link.Way.TheVariants.{Forth, Back}
use Rattle.wire_model.specs.Machine as machine
use Rattle.wire_model.specs.Trace.{Crossing, entry, entries, unit_octets, units_octets, IsCut}
use Rattle.wire_model.specs.Pair.{Pair, Event, Took, Crossed, Rang, Runs, CrossesBy, crossing_of, crossings_of, taken_of, taken, got_of, got_by, accepted, AllGoBy, Passes, is_lost, is_some_event, is_calm, rings, ringing}
use Rattle.wire_model.proofs.Running.{runs_then}
use Rattle.wire_model.proofs.Saying.{says_falls}
use Rattle.three_wire.specs.declared.ends.Said.{Said}
use Rattle.three_wire.specs.declared.fault.CarryFault.{CarryFault}
use Rattle.three_wire.specs.Crossing.{CrossesIn, CrossesSo, CutsTrace, CutsSink, got_octets, Steady}
use Rattle.three_wire.specs.Going.{Went, Broke, WentOne, WentSo, WentRound, Goes, both_calm}

pub went_none : (p : Pair) (sink trace : Option (List ℕ)) → Went p p [] sink sink trace trace
went_none p sink trace = record { runs = refl; writes = sym (gained-nil trace); gives = sym (gained-nil sink) }

entries_then : (a b : List Event) → entries (crossings_of (a ++ b)) ≡ entries (crossings_of a) ++ entries (crossings_of b)
entries_then a b = ap entries (filter_map-append crossing_of a b) ∙ flat_map-append entry (crossings_of a) (crossings_of b)

units_then : (a b : List Event) → units_octets (accepted (a ++ b)) ≡ units_octets (accepted a) ++ units_octets (accepted b)
units_then a b = ap units_octets (filter_map-append got_of a b) ∙ flat_map-append unit_octets (accepted a) (accepted b)

pub went_then : (p q r : Pair) (a b : List Event) (sink sink' sink'' trace trace' trace'' : Option (List ℕ)) → Went p q a sink sink' trace trace' → Went q r b sink' sink'' trace' trace'' → Went p r (a ++ b) sink sink'' trace trace''
went_then p q r a b sink sink' sink'' trace trace' trace'' x y = record {
  runs = runs_then p q r a b x.runs y.runs;
  writes = y.writes ∙ ap (λ (c : Option (List ℕ)). gained c (entries (crossings_of b))) x.writes ∙ gained-gained trace (entries (crossings_of a)) (entries (crossings_of b)) ∙ ap (gained trace) (sym (entries_then a b));
  gives = y.gives ∙ ap (λ (c : Option (List ℕ)). gained c (units_octets (accepted b))) x.gives ∙ gained-gained sink (units_octets (accepted a)) (units_octets (accepted b)) ∙ ap (gained sink) (sym (units_then a b));
}

pub broke_trace : (a b : List Event) (cut : List ℕ) (trace trace' trace'' : Option (List ℕ)) → trace' ≡ gained trace (entries (crossings_of a)) → trace'' ≡ gained trace' (entries (crossings_of b) ++ cut) → trace'' ≡ gained trace (entries (crossings_of (a ++ b)) ++ cut)
broke_trace a b cut trace trace' trace'' x y =
    y ∙ ap (λ (c : Option (List ℕ)). gained c (entries (crossings_of b) ++ cut)) x ∙ gained-gained trace (entries (crossings_of a)) (entries (crossings_of b) ++ cut)
    ∙ ap (gained trace) (sym (append_assoc (entries (crossings_of a)) (entries (crossings_of b)) cut) ∙ ap (λ (es : List ℕ). es ++ cut) (sym (entries_then a b)))

pub broke_sink : (a b : List Event) (sink sink' sink'' : Option (List ℕ)) → sink' ≡ gained sink (units_octets (accepted a)) → GainedFront sink' sink'' (units_octets (accepted b)) → GainedFront sink sink'' (units_octets (accepted (a ++ b)))
broke_sink a b sink sink' sink'' x y = subst (GainedFront sink sink'') (sym (units_then a b)) (front_then sink sink' sink'' (units_octets (accepted a)) (units_octets (accepted b)) x y)

pub taken_then : (a b : List Event) → taken (a ++ b) ≡ taken a ++ taken b
taken_then a b = filter_map-append taken_of a b

went_broke : (p q : Pair) (a : List Event) (sink sink' sink'' trace trace' trace'' : Option (List ℕ)) → taken a ≡ [] → Went p q a sink sink' trace trace' → Broke q sink' sink'' trace' trace'' → Broke p sink sink'' trace trace''
went_broke p q a sink sink' sink'' trace trace' trace'' none x y = record {
  events = a ++ y.events;
  last = y.last;
  cut = y.cut;
  runs = runs_then p q y.last a y.events x.runs y.runs;
  none = taken_then a y.events ∙ ap (λ (us : List machine.Unit). us ++ taken y.events) none ∙ y.none;
  is_cut = y.is_cut;
  writes = broke_trace a y.events y.cut trace trace' trace'' x.writes y.writes;
  front = broke_sink a y.events sink sink' sink'' x.gives y.front;
}

-- ---- one packet

abbrev crossed : Way → Bool → Packet → Option machine.Unit → Event
crossed way lost packet got = Crossed (record { way = way; lost = lost; packet = packet }) got

same_got : (way : Way) (got : Option machine.Unit) (c : Crossing) → c.way ≡ way → units_octets (accepted (Crossed c got ∷ [])) ≡ got_octets way got
same_got way got c is = ap (λ (w : Way). units_octets (cons_option (got_by w got) [])) is ∙ same_list (got_by way got)
  where
    same_list : (o : Option machine.Unit) → units_octets (cons_option o []) ≡ units_octets (option_to_list o)
    same_list (Some u) = refl
    same_list None = refl

went_one : (way : Way) (p q : Pair) (lost : Bool) (packet : Packet) (got : Option machine.Unit) (sink sink' trace trace' : Option (List ℕ)) → CrossesBy way p lost packet got q
    → trace' ≡ gained trace (entry (record { way = way; lost = lost; packet = packet })) → sink' ≡ gained sink (got_octets way got) → Went p q (crossed way lost packet got ∷ []) sink sink' trace trace'
went_one way p q lost packet got sink sink' trace trace' crosses writes gives = record {
  runs = (q, crosses, refl);
  writes = writes ∙ ap (gained trace) (sym (append-nil (entry (record { way = way; lost = lost; packet = packet }))));
  gives = gives ∙ ap (gained sink) (sym (same_got way got (record { way = way; lost = lost; packet = packet }) refl));
}

pub one_forth : (p q : Pair) (sink sink' trace trace' : Option (List ℕ)) (lost : Bool) → CrossesIn Forth p.first q.first p.second q.second p.draws q.draws sink sink' trace trace' lost → WentOne Forth p q sink sink' trace trace' lost
one_forth p q sink sink' trace trace' lost c = record {
  event = crossed Forth lost c.packet c.got;
  goes = refl;
  fate = refl;
  went = went_one Forth p q lost c.packet c.got sink sink' trace trace' c.crosses c.writes c.gives;
  falls = says_falls p.first (record { packet = c.packet; after = q.first }) c.crosses.says;
}

pub one_back : (p q : Pair) (sink sink' trace trace' : Option (List ℕ)) (lost : Bool) → CrossesIn Back p.second q.second p.first q.first p.draws q.draws sink sink' trace trace' lost → WentOne Back p q sink sink' trace trace' lost
one_back p q sink sink' trace trace' lost c = record {
  event = crossed Back lost c.packet c.got;
  goes = refl;
  fate = refl;
  went = went_one Back p q lost c.packet c.got sink sink' trace trace' c.crosses c.writes c.gives;
  falls = says_falls p.second (record { packet = c.packet; after = q.second }) c.crosses.says;
}

-- ---- a port fails

pub cut_broke : (p : Pair) (sink sink' trace trace' : Option (List ℕ)) → CutsTrace sink sink' trace trace' → Broke p sink sink' trace trace'
cut_broke p sink sink' trace trace' c = record { events = []; last = p; cut = c.cut; runs = refl; none = refl; is_cut = c.is_cut; writes = c.writes; front = subst (λ (s : Option (List ℕ)). GainedFront sink s []) (sym c.gives) (front_none sink []) }

pub no_cut : (c : Crossing) → IsCut []
no_cut c = (c, 0, omega arith, refl)

sink_broke : (way : Way) (p q : Pair) (lost : Bool) (packet : Packet) (got : Option machine.Unit) (sink sink' trace trace' : Option (List ℕ)) → CrossesBy way p lost packet got q
    → trace' ≡ gained trace (entry (record { way = way; lost = lost; packet = packet })) → GainedFront sink sink' (got_octets way got) → Broke p sink sink' trace trace'
sink_broke way p q lost packet got sink sink' trace trace' crosses writes front = record {
  events = crossed way lost packet got ∷ [];
  last = q;
  cut = [];
  runs = (q, crosses, refl);
  none = refl;
  is_cut = no_cut (record { way = way; lost = lost; packet = packet });
  writes = writes ∙ ap (gained trace) (sym (append-nil (entry (record { way = way; lost = lost; packet = packet }) ++ []) ∙ append-nil (entry (record { way = way; lost = lost; packet = packet }))));
  front = subst (GainedFront sink sink') (sym (same_got way got (record { way = way; lost = lost; packet = packet }) refl)) front;
}

pub broke_forth : (p : Pair) (sink sink' trace trace' : Option (List ℕ)) → CutsTrace sink sink' trace trace' ⊎ CutsSink Forth p.first p.second p.draws sink sink' trace trace' → Broke p sink sink' trace trace'
broke_forth p sink sink' trace trace' (inl c) = cut_broke p sink sink' trace trace' c
broke_forth p sink sink' trace trace' (inr c) =
    sink_broke Forth p (record { first = c.from'; second = c.to'; draws = c.draws' }) c.lost c.packet c.got sink sink' trace trace' c.crosses c.writes c.front

pub broke_back : (p : Pair) (sink sink' trace trace' : Option (List ℕ)) → CutsTrace sink sink' trace trace' ⊎ CutsSink Back p.second p.first p.draws sink sink' trace trace' → Broke p sink sink' trace trace'
broke_back p sink sink' trace trace' (inl c) = cut_broke p sink sink' trace trace' c
broke_back p sink sink' trace trace' (inr c) =
    sink_broke Back p (record { first = c.to'; second = c.from'; draws = c.draws' }) c.lost c.packet c.got sink sink' trace trace' c.crosses c.writes c.front

-- ---- packets of one way

go_then : (way : Way) (a b : List Event) → AllGoBy way a → AllGoBy way b → AllGoBy way (a ++ b)
go_then way [] b x y = y
go_then way (event ∷ a) b x y = (x.0, go_then way a b x.1 y)

-- of these none is the taking of a unit
pub none_taken : (way : Way) (events : List Event) → AllGoBy way events → taken events ≡ []
none_taken way [] go = refl
none_taken way (Took u ∷ events) go = absurd go.0
none_taken way (Crossed c got ∷ events) go = none_taken way events go.1
none_taken way (Rang ∷ events) go = absurd go.0

no_ring : (calm : Bool) → taken (ringing calm) ≡ []
no_ring true = refl
no_ring false = refl

pub round_takes_none : (p q : Pair) (events : List Event) → Passes p events q → taken events ≡ []
round_takes_none p q events x =
    ap taken x.all ∙ taken_then x.forth (x.back ++ ringing (is_calm (x.forth ++ x.back))) ∙ ap (λ (us : List machine.Unit). us ++ taken (x.back ++ ringing (is_calm (x.forth ++ x.back)))) (none_taken Forth x.forth x.forth_said.go)
    ∙ taken_then x.back (ringing (is_calm (x.forth ++ x.back))) ∙ ap (λ (us : List machine.Unit). us ++ taken (ringing (is_calm (x.forth ++ x.back)))) (none_taken Back x.back x.back_said.go) ∙ no_ring (is_calm (x.forth ++ x.back))

some_then : (a : List Event) (event : Event) → is_some_event (a ++ event ∷ []) ≡ true
some_then [] event = refl
some_then (e ∷ a) event = refl

or_assoc : (a b c : Bool) → (a || (b || c)) ≡ ((a || b) || c)
or_assoc true b c = refl
or_assoc false b c = refl

or_false : (a : Bool) → (a || false) ≡ a
or_false true = refl
or_false false = refl

any_then : (a b : List Event) → list_any is_lost (a ++ b) ≡ (list_any is_lost a || list_any is_lost b)
any_then [] b = refl
any_then (e ∷ a) b = ap (λ x. is_lost e || x) (any_then a b) ∙ or_assoc (is_lost e) (list_any is_lost a) (list_any is_lost b)

some_both : (a b : List Event) → is_some_event (a ++ b) ≡ (is_some_event a || is_some_event b)
some_both [] b = refl
some_both (e ∷ a) b = refl

pub so_none : (way : Way) (p : Pair) (sink trace : Option (List ℕ)) → WentSo way p p sink sink trace trace (record { went = false; lost = false })
so_none way p sink trace = record { events = []; go = tt; went = went_none p sink trace; some = refl; lost = refl }

pub so_more : (way : Way) (p q r : Pair) (sink sink' sink'' trace trace' trace'' : Option (List ℕ)) (said : Said) (lost : Bool) → WentSo way p q sink sink' trace trace' said → WentOne way q r sink' sink'' trace' trace'' lost
    → WentSo way p r sink sink'' trace trace'' (record { went = true; lost = said.lost || lost })
so_more way p q r sink sink' sink'' trace trace' trace'' said lost x y = record {
  events = x.events ++ y.event ∷ [];
  go = go_then way x.events (y.event ∷ []) x.go (y.goes, tt);
  went = went_then p q r x.events (y.event ∷ []) sink sink' sink'' trace trace' trace'' x.went y.went;
  some = sym (some_then x.events y.event);
  lost = ap (λ b. b || lost) x.lost ∙ ap (λ b. list_any is_lost x.events || b) (sym y.fate ∙ sym (or_false (is_lost y.event))) ∙ sym (any_then x.events (y.event ∷ []));
}

pub so_broke : (way : Way) (p q : Pair) (sink sink' sink'' trace trace' trace'' : Option (List ℕ)) (said : Said) → WentSo way p q sink sink' trace trace' said → Broke q sink' sink'' trace' trace'' → Broke p sink sink'' trace trace''
so_broke way p q sink sink' sink'' trace trace' trace'' said x y = went_broke p q x.events sink sink' sink'' trace trace' trace'' (none_taken way x.events x.go) x.went y

-- ---- a round

pub both_calm_of : (a b : List Event) (forth back : Said) → forth.went ≡ is_some_event a → forth.lost ≡ list_any is_lost a → back.went ≡ is_some_event b → back.lost ≡ list_any is_lost b → both_calm forth back ≡ is_calm (a ++ b)
both_calm_of a b forth back p q r s =
    ap (λ (x : Bool). (x || back.went) && not (forth.lost || back.lost)) p ∙ ap (λ (x : Bool). (is_some_event a || x) && not (forth.lost || back.lost)) r
    ∙ ap (λ (x : Bool). (is_some_event a || is_some_event b) && not (x || back.lost)) q ∙ ap (λ (x : Bool). (is_some_event a || is_some_event b) && not (list_any is_lost a || x)) s
    ∙ ap (λ (x : Bool). x && not (list_any is_lost a || list_any is_lost b)) (sym (some_both a b)) ∙ ap (λ (x : Bool). is_some_event (a ++ b) && not x) (sym (any_then a b))

rings_run : (p : Pair) (calm : Bool) → Runs p (ringing calm) (rings calm p)
rings_run p true = refl
rings_run p false = (rings false p, refl, refl)

rings_say : (calm : Bool) → (entries (crossings_of (ringing calm)) ≡ []) × (units_octets (accepted (ringing calm)) ≡ [])
rings_say true = (refl, refl)
rings_say false = (refl, refl)

pub went_rings : (p : Pair) (calm : Bool) (sink trace : Option (List ℕ)) → Went p (rings calm p) (ringing calm) sink sink trace trace
went_rings p calm sink trace = record {
  runs = rings_run p calm;
  writes = sym (gained-nil trace) ∙ ap (gained trace) (sym (rings_say calm).0);
  gives = sym (gained-nil sink) ∙ ap (gained sink) (sym (rings_say calm).1);
}

pub round_of : (p q r s : Pair) (sink sink' sink'' trace trace' trace'' : Option (List ℕ)) (forth back : Said) → WentSo Forth p q sink sink' trace trace' forth → machine.says q.first ≡ None
    → WentSo Back q r sink' sink'' trace' trace'' back → machine.says r.second ≡ None → s ≡ rings (both_calm forth back) r → WentRound p s sink sink'' trace trace''
round_of p q r s sink sink' sink'' trace trace' trace'' forth back x silent y silent' is =
    let calm = both_calm_of x.events y.events forth back x.some x.lost y.some y.lost in
    let end : s ≡ rings (is_calm (x.events ++ y.events)) r = is ∙ ap (λ b. rings b r) calm in
    let rung = went_rings r (is_calm (x.events ++ y.events)) sink'' trace'' in
    let went = went_then p q (rings (is_calm (x.events ++ y.events)) r) x.events (y.events ++ ringing (is_calm (x.events ++ y.events))) sink sink' sink'' trace trace' trace'' x.went
    (went_then q r (rings (is_calm (x.events ++ y.events)) r) y.events (ringing (is_calm (x.events ++ y.events))) sink' sink'' sink'' trace' trace'' trace'' y.went rung) in
    record {
      events = x.events ++ (y.events ++ ringing (is_calm (x.events ++ y.events)));
      passes = record {
        forth = x.events;
        back = y.events;
        middle = q;
        end = r;
        forth_said = record { runs = x.went.runs; go = x.go; silent = silent };
        back_said = record { runs = y.went.runs; go = y.go; silent = silent' };
        becomes = end;
        all = refl;
      };
      went = subst (λ (t : Pair). Went p t (x.events ++ (y.events ++ ringing (is_calm (x.events ++ y.events)))) sink sink'' trace trace'') (sym end) went;
    }

-- ---- what the calls answer

same_pair : (p q : Pair) → q.first ≡ p.first → q.second ≡ p.second → q.draws ≡ p.draws → q ≡ p
same_pair p q a b c =
    let mk : machine.Wire → machine.Wire → Option ℕ → Pair = λ x y z. record { first = x; second = y; draws = z } in
    ap (λ x. mk x q.second q.draws) a ∙ ap (λ y. mk p.first y q.draws) b ∙ ap (mk p.first p.second) c

goes_forth : (p q : Pair) (sink sink' trace trace' : Option (List ℕ)) (result : Result (Option Bool) CarryFault) → CrossesSo Forth p.first q.first p.second q.second p.draws q.draws sink sink' trace trace' result
    → Goes Forth p q sink sink' trace trace' result
goes_forth p q sink sink' trace trace' (Ok None) c = (c.0, same_pair p q c.1 c.2 c.3, c.4, c.5)
goes_forth p q sink sink' trace trace' (Ok (Some lost)) c = one_forth p q sink sink' trace trace' lost c
goes_forth p q sink sink' trace trace' (Err fault) c = broke_forth p sink sink' trace trace' c

goes_back : (p q : Pair) (sink sink' trace trace' : Option (List ℕ)) (result : Result (Option Bool) CarryFault) → CrossesSo Back p.second q.second p.first q.first p.draws q.draws sink sink' trace trace' result
    → Goes Back p q sink sink' trace trace' result
goes_back p q sink sink' trace trace' (Ok None) c = (c.0, same_pair p q c.2 c.1 c.3, c.4, c.5)
goes_back p q sink sink' trace trace' (Ok (Some lost)) c = one_back p q sink sink' trace trace' lost c
goes_back p q sink sink' trace trace' (Err fault) c = broke_back p sink sink' trace trace' c

pub goes_forth_by : (way : Way) (p q : Pair) (sink sink' trace trace' : Option (List ℕ)) (result : Result (Option Bool) CarryFault) → way ≡ Forth
    → CrossesSo way p.first q.first p.second q.second p.draws q.draws sink sink' trace trace' result → Goes way p q sink sink' trace trace' result
goes_forth_by way p q sink sink' trace trace' result is c =
    subst (λ (w : Way). Goes w p q sink sink' trace trace' result) (sym is)
    (goes_forth p q sink sink' trace trace' result (subst (λ (w : Way). CrossesSo w p.first q.first p.second q.second p.draws q.draws sink sink' trace trace' result) is c))

pub goes_back_by : (way : Way) (p q : Pair) (sink sink' trace trace' : Option (List ℕ)) (result : Result (Option Bool) CarryFault) → way ≡ Back
    → CrossesSo way p.second q.second p.first q.first p.draws q.draws sink sink' trace trace' result → Goes way p q sink sink' trace trace' result
goes_back_by way p q sink sink' trace trace' result is c =
    subst (λ (w : Way). Goes w p q sink sink' trace trace' result) (sym is)
    (goes_back p q sink sink' trace trace' result (subst (λ (w : Way). CrossesSo w p.second q.second p.first q.first p.draws q.draws sink sink' trace trace' result) is c))

pub steady_then : (a a' a'' b b' b'' c c' c'' d d' d'' : ℕ) → Steady a a' b b' c c' d d' → Steady a' a'' b' b'' c' c'' d' d'' → Steady a a'' b b'' c c'' d d''
steady_then a a' a'' b b' b'' c c' c'' d d' d'' x y = record {
  sink_faults = y.sink_faults ∙ x.sink_faults;
  sink_shortages = y.sink_shortages ∙ x.sink_shortages;
  trace_faults = y.trace_faults ∙ x.trace_faults;
  trace_shortages = y.trace_shortages ∙ x.trace_shortages;
}
