-- What is true of one host and its controller whatever happens, and what they are when PDUs move one at a time.
use Rattle.std.proofs.Common.{◌≡◌, ◌⊎◌, ℕ, zero, suc, ◌+◌, ◌≤◌, ◌||◌, Bool, true, false, List, [], ◌∷◌, ◌++◌, Option, Some, None, if◌then◌else◌, refl, sym, ap, ◌∙◌, append_assoc, inl, inr, arith, subst}
use Rattle.std.specs.List.{list_any}
use Rattle.std.proofs.lemmas.Bool.{eq-eqb}
use Rattle.std.proofs.lemmas.List.{append-nil}
use Rattle.std.proofs.lemmas.List.Concat.{flat_map-append}
use Rattle.world_model.specs.hci_packets.specs.declared.acl.Boundary.TheVariants.{First}
use Rattle.world_model.specs.acl_fragments.specs.Pieces.{Piece}
use Rattle.world_model.specs.acl_fragments.specs.Cuts.{cut}
use Rattle.world_model.specs.radio_model.specs.Controllers.{Controller}
use Rattle.world_model.specs.Machines.{LinkEvent, Upper}
use Rattle.world_model.specs.Talks.{Talk}
use Rattle.world_model.specs.Carriages.{End, Motion, Saying, DoesMotion}
use Rattle.world_model.specs.Stations.{Order, Page, Accept, Data, asks, opcode, Station, Takes, Puts, Asks, Leaves, Commands, longest_pdu, gives, holds}
use Rattle.world_model.specs.Stations as stations
use Rattle.world_model.specs.PerLink.{Linkage, linkage}
use Rattle.turn_laws.specs.Premises.{IsFrame, SaysFrames}
use Rattle.turn_laws.proofs.Joining.{completions}
use Rattle.turn_laws.proofs.Leading.{tidings, events, made, Led}
use Rattle.turn_laws.proofs.Linkages.{as_was}
use Rattle.turn_laws.proofs.Wiring.{piece_at, sent, flowing, Wired, taken_wired, Within, within-append, end_at, has_end, has_end-append, or_true, last-append, asking, count, count-append, IsListening, Incoming, Awaits, IsLeaving, Ends}
use Rattle.turn_laws.specs.WorldLaws.{handle_of}

abbrev pub linked_handle : Bool → ℕ → Option ℕ
linked_handle true told = Some told
linked_handle false told = None

pub record Steady {S G : Type 0} (U : Upper S G) (number : ℕ) (together : Bool) (extra : ℕ) (one : Controller) (station : Station S) : Type 0 where
  pub led : Led one.told one.up (tidings one.owed) number together
  pub link : station.link ≡ linked_handle one.up one.told
  pub long : 27 ≤ station.size
  pub off : one.up ≡ false → station.pieces ≡ []
  pub wired : Wired one.up one.begun one.waiting (sent one.told station.out ++ station.pieces)
  pub incoming : Incoming U one.up one.told number station.upper station.pieces one.coming station.joining
  pub awaits : Awaits extra (tidings one.owed) station.waiting station.out station.asked
  pub ends : Ends U one.told one.up station.waiting station.out station.pieces station.upper

-- what they are when PDUs move one at a time
abbrev pub end_of : {S : Type 0} → Controller → Station S → List Talk → End S
end_of one station talk = record {
  upper = station.upper;
  linked = one.up;
  owed = events (tidings one.owed);
  waiting = flowing one.up one.begun (sent one.told station.out ++ station.pieces);
  queue = one.waiting;
  coming = completions longest_pdu station.joining one.coming;
  talk = talk;
}

abbrev pub Goes : {S G : Type 0} → Upper S G → List Motion → End S → End S → Type 0
Goes U [] old new = new ≡ old
Goes {S} U (motion ∷ motions) old new = (mid : End S) × DoesMotion U motion old mid × Goes U motions mid new

pub record Proceeds {S G : Type 0} (U : Upper S G) (by : Linkage → Linkage) (number : ℕ) (together : Bool) (extra : ℕ) (one : Controller) (station : Station S) (talk : List Talk) (one' : Controller) (station' : Station S) : Type 0 where
  pub steady : Steady U number together extra one' station'
  pub motions : List Motion
  pub talk' : List Talk
  pub goes : Goes U motions (end_of one station talk) (end_of one' station' talk')
  -- what it adds to its links
  pub links : linkage talk' ≡ by (linkage talk)

-- ---- small facts

pub on_link : (up : Bool) (told handle : ℕ) (link : Option ℕ) → link ≡ linked_handle up told → link ≡ Some handle → (up ≡ true) × (told ≡ handle)
on_link true told handle link is some = (refl, let same : Some told ≡ Some handle = sym is ∙ some in cc)
on_link false told handle link is some = cc

pub off_link : (up : Bool) (told : ℕ) (link : Option ℕ) → link ≡ linked_handle up told → link ≡ None → up ≡ false
off_link true told link is none = cc
off_link false told link is none = refl

none_first : (first : Bool) (rest : Bool) (n : ℕ) → (first || rest) ≡ false → (rest ≡ false → n ≡ 0) → (if first then 1 else 0) + n ≡ 0
none_first true rest n none more = cc
none_first false rest n none more = let same = more none in omega arith

pub none_asked : (orders : List Order) → list_any asks orders ≡ false → count orders ≡ 0
none_asked [] none = refl
none_asked (order ∷ rest) none = none_first (asks order) (list_any asks rest) (count rest) none (λ more. none_asked rest more)

append_none : (one two : List Piece) → one ++ two ≡ [] → (one ≡ []) × (two ≡ [])
append_none [] two none = (refl, none)
append_none (piece ∷ one) two none = cc

sent-append : (told : ℕ) (orders : List Order) (order : Order) → sent told (orders ++ order ∷ []) ≡ sent told orders ++ piece_at told order
sent-append told orders order = flat_map-append (piece_at told) orders (order ∷ []) ∙ ap (λ (l : List Piece). sent told orders ++ l) (append-nil (piece_at told order))

sent_same : (told : ℕ) (orders : List Order) (order : Order) → piece_at told order ≡ [] → sent told (orders ++ order ∷ []) ≡ sent told orders
sent_same told orders order none = sent-append told orders order ∙ ap (λ (l : List Piece). sent told orders ++ l) none ∙ append-nil (sent told orders)

-- the same flow, the same end
same_flow : {S : Type 0} (up : Bool) (begun : List ℕ) (one two : List Piece) (upper : S) (owed : List LinkEvent) (queue coming : List (List ℕ)) (talk : List Talk) → two ≡ one
    → Path (End S) (record { upper = upper; linked = up; owed = owed; waiting = flowing up begun two; queue = queue; coming = coming; talk = talk })
    (record { upper = upper; linked = up; owed = owed; waiting = flowing up begun one; queue = queue; coming = coming; talk = talk })
same_flow up begun one two upper owed queue coming talk same = λ i. record { upper = upper; linked = up; owed = owed; waiting = flowing up begun (same i); queue = queue; coming = coming; talk = talk }

wired_as : (up : Bool) (begun : List ℕ) (queue : List (List ℕ)) (one two : List Piece) → two ≡ one → Wired up begun queue one → Wired up begun queue two
wired_as up begun queue one two same wired = subst (λ (l : List Piece). Wired up begun queue l) (sym same) wired

-- ---- it asks its machine for a PDU

taken_on : (up : Bool) (begun : List ℕ) (queue : List (List ℕ)) (flow : List Piece) (size : ℕ) (pdu : List ℕ) → up ≡ true → 27 ≤ size → IsFrame pdu → Wired up begun queue flow
    → Wired up begun queue (flow ++ cut size First pdu) × (flowing up begun (flow ++ cut size First pdu) ≡ flowing up begun flow ++ pdu ∷ [])
taken_on true begun queue flow size pdu up long is wired = taken_wired begun queue flow size pdu long is wired
taken_on false begun queue flow size pdu up long is wired = cc

none_listens : {S G : Type 0} (U : Upper S G) (up : Bool) (told number : ℕ) (upper : S) (pieces coming : List Piece) → (IsListening U up told number upper pieces → coming ≡ []) → (coming ≡ []) ⊎ IsListening U up told number upper pieces → coming ≡ []
none_listens U up told number upper pieces coming never either = elim either [ inl none ↦ none | inr listening ↦ never listening ]

pub takes : {S G : Type 0} (U : Upper S G) (number : ℕ) (together : Bool) (extra : ℕ) (one : Controller) (old new : Station S) (talk : List Talk) → SaysFrames U → Takes U old new → Steady U number together extra one old
    → Proceeds U as_was number together extra one old talk one new
takes {S} U number together extra one old new talk frames does steady =
    let on = on_link one.up one.told does.handle old.link steady.link does.link in
    let pieces : List Piece = cut old.size First does.pdu in
    let empty : sent one.told old.out ++ old.pieces ≡ sent one.told old.out = ap (λ (l : List Piece). sent one.told old.out ++ l) does.none_waits ∙ append-nil (sent one.told old.out) in
    let flow : sent one.told old.out ++ pieces ≡ (sent one.told old.out ++ old.pieces) ++ pieces = ap (λ (l : List Piece). l ++ pieces) (sym empty) in
    let taken = taken_on one.up one.begun one.waiting (sent one.told old.out ++ old.pieces) old.size does.pdu on.0 steady.long (frames old.upper does.pdu does.after does.next) steady.wired in
    let none : one.coming ≡ [] = none_listens U one.up one.told number old.upper old.pieces one.coming (λ listening. let quiet = listening.none_next in let next = does.next in cc) steady.incoming.listens in
    let taken_station : Station S = record old { upper = does.after; pieces = pieces } in
    let all : flowing one.up one.begun (sent one.told old.out ++ pieces) ≡ flowing one.up one.begun (sent one.told old.out ++ old.pieces) ++ does.pdu ∷ [] = ap (λ (l : List Piece). flowing one.up one.begun l) flow ∙ taken.1 in
    let e : End S = end_of one old talk in
    rw does.new_is (record {
      steady = record {
        led = steady.led;
        link = steady.link;
        long = steady.long;
        off = λ off. cc;
        wired = wired_as one.up one.begun one.waiting ((sent one.told old.out ++ old.pieces) ++ pieces) (sent one.told old.out ++ pieces) flow taken.0;
        incoming = record { once = steady.incoming.once; listens = inl none };
        awaits = steady.awaits;
        ends = record {
          within_waiting = steady.ends.within_waiting;
          within_out = steady.ends.within_out;
          leaving = λ up ends. let leaving = steady.ends.leaving up ends in let quiet = leaving.none_next in let next = does.next in absurd cc;
          last = steady.ends.last;
          still = steady.ends.still;
        };
      };
      motions = Saying does.pdu ∷ [];
      talk' = talk;
      links = refl;
      goes = (
        record e { upper = does.after; waiting = e.waiting ++ does.pdu ∷ [] },
        record { on = on.0; after = does.after; next = does.next; none_comes = ap (λ (l : List Piece). completions longest_pdu old.joining l) none; is = refl },
        λ i. record e { upper = does.after; waiting = all i },
      );
    })

-- ---- it puts out a piece

out_with : (told handle : ℕ) (piece : Piece) (out : List Order) (rest : List Piece) → told ≡ handle → sent told (out ++ Data handle piece ∷ []) ++ rest ≡ sent told out ++ (piece ∷ rest)
out_with told handle piece out rest same =
    let here : piece_at told (Data handle piece) ≡ piece ∷ [] = ap (λ (b : Bool). if b then piece ∷ [] else []) (eq-eqb handle told (sym same)) in
    ap (λ (l : List Piece). l ++ rest) (sent-append told out (Data handle piece) ∙ ap (λ (l : List Piece). sent told out ++ l) here) ∙ append_assoc (sent told out) (piece ∷ []) rest

or_false : (a b : Bool) → (a || (b || false)) ≡ true → (a || b) ≡ true
or_false true b is = refl
or_false false true is = refl
or_false false false is = is

pub puts : {S G : Type 0} (U : Upper S G) (number : ℕ) (together : Bool) (extra : ℕ) (one : Controller) (old new : Station S) (talk : List Talk) → Puts old new → Steady U number together extra one old
    → Proceeds U as_was number together extra one old talk one new
puts {S} U number together extra one old new talk does steady =
    let on = on_link one.up one.told does.handle old.link steady.link does.link in
    let flow : sent one.told (old.out ++ Data does.handle does.piece ∷ []) ++ does.rest ≡ sent one.told old.out ++ old.pieces =
    out_with one.told does.handle does.piece old.out does.rest on.1 ∙ ap (λ (l : List Piece). sent one.told old.out ++ l) (sym does.first) in
    let none : one.coming ≡ [] = none_listens U one.up one.told number old.upper old.pieces one.coming (λ listening. let quiet = listening.none_goes in let first = does.first in cc) steady.incoming.listens in
    let never : (has_end one.told old.waiting || has_end one.told old.out) ≡ true → ⊥ = λ ends. let leaving = steady.ends.leaving on.0 ends in let quiet = leaving.none_goes in let first = does.first in cc in
    let counted = count-append old.out (Data does.handle does.piece ∷ []) in
    let same = on.1 in
    rw does.new_is (record {
      steady = record {
        led = steady.led;
        link = steady.link;
        long = steady.long;
        off = λ off. cc;
        wired = wired_as one.up one.begun one.waiting (sent one.told old.out ++ old.pieces) (sent one.told (old.out ++ Data does.handle does.piece ∷ []) ++ does.rest) flow steady.wired;
        incoming = record { once = steady.incoming.once; listens = inl none };
        awaits = record { few = let few = steady.awaits.few in omega arith; awaited = λ some. steady.awaits.awaited (omega arith) };
        ends = record {
          within_waiting = steady.ends.within_waiting;
          within_out = within-append one.told old.out (Data does.handle does.piece ∷ []) steady.ends.within_out (omega arith, tt);
          leaving = λ up ends. absurd (never (or_false (has_end one.told old.waiting) (has_end one.told old.out) (ap (λ (b : Bool). has_end one.told old.waiting || b) (sym (has_end-append one.told old.out (Data does.handle does.piece ∷ []))) ∙ ends)));
          last = last-append one.told old.out (Data does.handle does.piece) (λ ends. absurd (never (ap (λ (b : Bool). has_end one.told old.waiting || b) ends ∙ or_true (has_end one.told old.waiting)))) steady.ends.last;
          still = steady.ends.still;
        };
      };
      motions = [];
      talk' = talk;
      links = refl;
      goes = same_flow one.up one.begun (sent one.told old.out ++ old.pieces) (sent one.told (old.out ++ Data does.handle does.piece ∷ []) ++ does.rest) old.upper (events (tidings one.owed)) one.waiting (completions longest_pdu old.joining one.coming) talk flow;
    })

-- ---- a command waits

leaves_by : {S G : Type 0} (U : Upper S G) (upper : S) (pieces : List Piece) (a b c : Bool) → ((a || c) ≡ true → IsLeaving U upper pieces) → (b ≡ true → IsLeaving U upper pieces) → ((a || (b || false)) || c) ≡ true → IsLeaving U upper pieces
leaves_by U upper pieces true b c before now is = before refl
leaves_by U upper pieces false true c before now is = now refl
leaves_by U upper pieces false false c before now is = before is

pub unasked_none : (asked : Bool) (n : ℕ) → (1 ≤ n → asked ≡ true) → asked ≡ false → n ≡ 0
unasked_none asked zero awaited off = refl
unasked_none asked (suc n) awaited off = let yes = awaited (omega arith) in cc

pub waits_steady : {S G : Type 0} (U : Upper S G) (number : ℕ) (together : Bool) (extra : ℕ) (one : Controller) (old : Station S) (order : Order)
    → ((handle : ℕ) → piece_at handle order ≡ []) → handle_of order ≤ one.told → asking order + (count old.waiting + (count old.out + (extra + made (tidings one.owed)))) ≤ 1
    → (one.up ≡ true → end_at one.told order ≡ true → IsLeaving U old.upper old.pieces) → Steady U number together extra one old
    → Steady U number together extra one (record old { waiting = old.waiting ++ order ∷ [] })
waits_steady U number together extra one old order none low few leaving steady =
    let counted = count-append old.waiting (order ∷ []) in
    record {
      led = steady.led;
      link = steady.link;
      long = steady.long;
      off = steady.off;
      wired = steady.wired;
      incoming = steady.incoming;
      awaits = record { few = omega arith; awaited = steady.awaits.awaited };
      ends = record {
        within_waiting = within-append one.told old.waiting (order ∷ []) steady.ends.within_waiting (low, tt);
        within_out = steady.ends.within_out;
        leaving = λ up ends. leaves_by U old.upper old.pieces (has_end one.told old.waiting) (end_at one.told order) (has_end one.told old.out) (steady.ends.leaving up) (leaving up)
            (ap (λ (b : Bool). b || has_end one.told old.out) (sym (has_end-append one.told old.waiting (order ∷ []))) ∙ ends);
        last = steady.ends.last;
        still = λ handle. sent_same handle old.waiting order (none handle) ∙ steady.ends.still handle;
      };
    }

-- that it has ended its link is told by its commands
pub ending_steady : {S G : Type 0} (U : Upper S G) (number : ℕ) (together : Bool) (extra : ℕ) (one : Controller) (station : Station S) (ending : Bool) → Steady U number together extra one station
    → Steady U number together extra one (record station { ending = ending })
ending_steady U number together extra one station ending steady = record {
  led = steady.led;
  link = steady.link;
  long = steady.long;
  off = steady.off;
  wired = steady.wired;
  incoming = steady.incoming;
  awaits = steady.awaits;
  ends = steady.ends;
}

pub asks_link : {S G : Type 0} (U : Upper S G) (number : ℕ) (together : Bool) (extra : ℕ) (one : Controller) (old new : Station S) (talk : List Talk) → Asks U old new → Steady U number together extra one old
    → Proceeds U as_was number together extra one old talk one new
asks_link U number together extra one old new talk does steady =
    let none = none_asked old.waiting does.none_waits in
    let free : count old.out + (extra + made (tidings one.owed)) ≡ 0 = unasked_none old.asked (count old.out + (extra + made (tidings one.owed))) steady.awaits.awaited does.unasked in
    rw does.new_is (record {
      steady = waits_steady U number together extra one old Page (λ handle. refl) (omega arith) (omega arith) (λ up ends. cc) steady;
      motions = [];
      talk' = talk;
      links = refl;
      goes = refl;
    })

pub leaves_link : {S G : Type 0} (U : Upper S G) (number : ℕ) (together : Bool) (extra : ℕ) (one : Controller) (old new : Station S) (talk : List Talk) → Leaves U old new → Steady U number together extra one old
    → Proceeds U as_was number together extra one old talk one new
leaves_link U number together extra one old new talk does steady =
    let on = on_link one.up one.told does.handle old.link steady.link does.link in
    let same = on.1 in
    let few = steady.awaits.few in
    rw does.new_is (record {
      steady = ending_steady U number together extra one (record old { waiting = old.waiting ++ stations.End does.handle ∷ [] }) true
          (waits_steady U number together extra one old (stations.End does.handle) (λ handle. refl) (omega arith) (omega arith)
          (λ up ends. record { leaves = does.leaves; none_goes = does.none_waits; none_next = does.none_next }) steady);
      motions = [];
      talk' = talk;
      links = refl;
      goes = refl;
    })

-- ---- a command is put out

or_turn : (a b c : Bool) → (b || (c || (a || false))) ≡ ((a || b) || c)
or_turn true true c = refl
or_turn true false c = or_true c
or_turn false true c = refl
or_turn false false true = refl
or_turn false false false = refl

asked_then : (asked asks_now : Bool) (n m : ℕ) → (1 ≤ m → asked ≡ true) → n ≡ m + (if asks_now then 1 else 0) → 1 ≤ n → (asked || asks_now) ≡ true
asked_then asked true n m before is some = or_true asked
asked_then asked false n m before is some = let yes = before (omega arith) in rw yes refl

pub commands : {S G : Type 0} (U : Upper S G) (number : ℕ) (together : Bool) (extra : ℕ) (one : Controller) (old new : Station S) (talk : List Talk) → Commands old new → Steady U number together extra one old
    → Proceeds U as_was number together extra one old talk one new
commands {S} U number together extra one old new talk does steady =
    let order = does.order in
    let rest = does.rest in
    let plain : (handle : ℕ) → (piece_at handle order ≡ []) × (sent handle rest ≡ []) = λ handle. append_none (piece_at handle order) (sent handle rest) (ap (λ (l : List Order). sent handle l) (sym does.first) ∙ steady.ends.still handle) in
    let same : sent one.told (old.out ++ order ∷ []) ++ old.pieces ≡ sent one.told old.out ++ old.pieces = ap (λ (l : List Piece). l ++ old.pieces) (sent_same one.told old.out order (plain one.told).0) in
    let counted = count-append old.out (order ∷ []) in
    let waited : count old.waiting ≡ asking order + count rest = ap (λ (l : List Order). count l) does.first in
    let few = steady.awaits.few in
    let within : Within one.told (order ∷ rest) = subst (λ (l : List Order). Within one.told l) does.first steady.ends.within_waiting in
    let moved : (has_end one.told rest || has_end one.told (old.out ++ order ∷ [])) ≡ (has_end one.told old.waiting || has_end one.told old.out) =
    ap (λ (b : Bool). has_end one.told rest || b) (has_end-append one.told old.out (order ∷ []))
    ∙ or_turn (end_at one.told order) (has_end one.told rest) (has_end one.told old.out)
    ∙ ap (λ (l : List Order). has_end one.told l || has_end one.told old.out) (sym does.first) in
    rw does.new_is (record {
      steady = record {
        led = steady.led;
        link = steady.link;
        long = steady.long;
        off = steady.off;
        wired = wired_as one.up one.begun one.waiting (sent one.told old.out ++ old.pieces) (sent one.told (old.out ++ order ∷ []) ++ old.pieces) same steady.wired;
        incoming = steady.incoming;
        awaits = record {
          few = omega arith;
          awaited = λ some. asked_then old.asked (asks order) (count (old.out ++ order ∷ []) + (extra + made (tidings one.owed))) (count old.out + (extra + made (tidings one.owed))) steady.awaits.awaited (omega arith) some;
        };
        ends = record {
          within_waiting = within.1;
          within_out = within-append one.told old.out (order ∷ []) steady.ends.within_out (within.0, tt);
          leaving = λ up ends. steady.ends.leaving up (sym moved ∙ ends);
          last = last-append one.told old.out order (λ ends. (plain one.told).0) steady.ends.last;
          still = λ handle. (plain handle).1;
        };
      };
      motions = [];
      talk' = talk;
      links = refl;
      goes = same_flow one.up one.begun (sent one.told old.out ++ old.pieces) (sent one.told (old.out ++ order ∷ []) ++ old.pieces) old.upper (events (tidings one.owed)) one.waiting (completions longest_pdu old.joining one.coming) talk same;
    })
