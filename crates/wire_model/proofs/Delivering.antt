-- A unit or an acknowledgement is heard, a unit is taken, the timers fire; and whole runs.
use Rattle.std.proofs.Common.{◌≡◌, ℕ, zero, suc, ◌+◌, ◌-◌, ◌%◌, ◌<◌, ◌≤◌, All, Bool, true, false, cond, ◌||◌, List, [], ◌∷◌, ◌++◌, length, take, drop, Some, slice_get, eqb, leb, inl, inr, refl, sym, ap, subst, ◌∙◌, append_assoc, arith, length-append}
use Rattle.std.specs.Option.{option_to_list}
use Rattle.std.proofs.lemmas.Bool.{cases_Bool, eqb-true, ne_eqb, le-leb}
use Rattle.std.proofs.lemmas.List.{append-nil, take-append-drop, length-take, length-drop}
use Rattle.std.proofs.lemmas.List.Elements.{All-push, All-drop}
use Rattle.std.proofs.lemmas.Option.{slice_get_within, get_or_from_slice_get}
use Rattle.wire_packets.specs.Packets.{Packet}
use Rattle.wire_model.specs.declared.link.LinkMessage.{LinkMessage}
use Rattle.wire_model.specs.declared.link.Stage.{Stage}
use Rattle.wire_model.specs.declared.link.Stage.TheVariants.{Active}
use Rattle.wire_model.specs.Machine.{Unit, Wire, Heard, hears, hears_ack, takes_number, acknowledged, past, quiet, is_active, unit_packet, ack_packet, ticked, submitted}
use Rattle.wire_model.specs.Trace.{is_config_response, behind_response, has_number, picked}
use Rattle.wire_model.specs.Pair.{IsUnit}
use Rattle.wire_model.proofs.Saying.{unit, says_unit_of}
use Rattle.wire_model.proofs.Handshake.{Tame, tick_tame, tick_stage}
use Rattle.wire_model.proofs.Hearing.{tick_keeps, AcksNothing, acks_nothing, unit_heard, unit_ignored, ack_heard, ack_ignored, stage_cases}
use Rattle.wire_model.proofs.Picking.{has_come, unit_in, picked_at, has_come-push, behind_push, behind_none, behind_first, picked-push}
use Rattle.wire_model.proofs.Standing.{Sending, Stands, sending_keeps, said_first, picks_same}

-- ---- a unit is heard

-- the next unit to be got, where the number says so
next_left : (took done unacked got left : List Unit) (n : ℕ) (u : Unit) → took ≡ done ++ unacked → took ≡ got ++ left → slice_get unacked n ≡ Some u → length got ≡ length done + n → (rest : List Unit) × (left ≡ u ∷ rest)
next_left took [] unacked got left n u t g at long = reach unacked got left n u (sym t ∙ g) at long
  where
    reach : (unacked got left : List Unit) (n : ℕ) (u : Unit) → unacked ≡ got ++ left → slice_get unacked n ≡ Some u → length got ≡ 0 + n → (rest : List Unit) × (left ≡ u ∷ rest)
    reach [] got left n u e at long = absurd cc
    reach (x ∷ xs) [] left zero u e at long = let same : x ≡ u = cc in (xs, sym e ∙ ap (λ (y : Unit). y ∷ xs) same)
    reach (x ∷ xs) [] left (suc n) u e at long = absurd (omega arith)
    reach (x ∷ xs) (y ∷ got) left zero u e at long = absurd (omega arith)
    reach (x ∷ xs) (y ∷ got) left (suc n) u e at long = let tails : xs ≡ got ++ left = cc in reach xs got left n u tails at (omega arith)
next_left [] (d ∷ done) unacked got left n u t g at long = absurd cc
next_left (k ∷ took) (d ∷ done) unacked [] left n u t g at long = absurd (omega arith)
next_left (k ∷ took) (d ∷ done) unacked (x ∷ got) left n u t g at long =
    let t' : took ≡ done ++ unacked = cc in let g' : took ≡ got ++ left = cc in next_left took done unacked got left n u t' g' at (omega arith)

no_response : (seq ack : ℕ) (u : Unit) → IsUnit u → is_config_response (unit_packet seq ack u) ≡ false
no_response seq ack u is = rw (ne_eqb u.kind 15 (λ e. omega (arith, is.below))) refl

same_unit : (seq ack : ℕ) (u : Unit) → unit_in (unit_packet seq ack u) ≡ u
same_unit seq ack u = refl

pub unit_at : (a : Wire) (i : ℕ) (u : Unit) → All IsUnit a.unacked → slice_get a.unacked i ≡ Some u → IsUnit u
unit_at a i u all is = subst IsUnit (get_or_from_slice_get a.unacked i u u is) (all i u (slice_get_within a.unacked i u is))

-- the fields of the sending end behind a unit
said_unit : (a b : Wire) (took got : List Unit) (ps : List Packet) (u : Unit) → Stands a b took got ps → a.stage ≡ Active → a.waiting ≡ [] → slice_get a.unacked a.next ≡ Some u → Stands (says_unit_of a u).after b took got ps
said_unit a b took got ps u s active empty at = said_first a b took got ps (says_unit_of a u) s (unit u active empty at refl)

sending_said : (a : Wire) (done : List Unit) (u : Unit) → a.next < length a.unacked → Sending a done → Sending (says_unit_of a u).after done
sending_said a done u lt s = record { own = s.own; some = s.some; window = s.window; wide = s.wide; held = s.held; given = omega (arith, s.given, lt); next = omega (arith, lt); first = s.first; idle = s.idle; units = s.units }

-- the picking of a unit that came to an active end
picks_unit : (ps : List Packet) (got : List Unit) (seq ack : ℕ) (u : Unit) (test : Bool) → has_come ps ≡ true → picked 0 (behind_response ps) ≡ got → eqb seq (length got % 8) ≡ test
    → picked 0 (behind_response (ps ++ unit_packet seq ack u ∷ [])) ≡ got ++ picked_at test (unit_packet seq ack u)
picks_unit ps got seq ack u test come is at =
    let p = unit_packet seq ack u in
    let n : 0 + length (picked 0 (behind_response ps)) ≡ length got = omega (arith, ap length is) in
    ap (picked 0) (behind_push ps p come) ∙ picked-push 0 (behind_response ps) p ∙ ap (λ (xs : List Unit). xs ++ picked_at (has_number (0 + length (picked 0 (behind_response ps))) p) p) is
    ∙ ap (λ (k : ℕ). got ++ picked_at (eqb seq (k % 8)) p) n ∙ ap (λ (t : Bool). got ++ picked_at t p) at

come_same : (ps : List Packet) (p : Packet) (b : Bool) → is_config_response p ≡ false → has_come ps ≡ b → has_come (ps ++ p ∷ []) ≡ b
come_same ps p b other is = has_come-push ps p ∙ ap (λ x. has_come ps || x) other ∙ elim (has_come ps) as (λ x. (x || false) ≡ x) [ true ↦ refl | false ↦ refl ] ∙ is

pub unit_forth_idle : (a b : Wire) (took got : List Unit) (ps : List Packet) (u : Unit) → Stands a b took got ps → is_active b.stage ≡ false → a.stage ≡ Active → a.waiting ≡ [] → slice_get a.unacked a.next ≡ Some u
    → Stands (says_unit_of a u).after (hears (says_unit_of a u).packet b).after took (got ++ option_to_list (hears (says_unit_of a u).packet b).unit) (ps ++ (says_unit_of a u).packet ∷ [])
unit_forth_idle a b took got ps u s idle active empty at =
    let seq = (a.first + a.next) % 8 in
    let is = unit_at a a.next u s.sending.units at in
    let p = unit_packet seq a.expected u in
    let said = said_unit a b took got ps u s active empty at in
    let no = no_response seq a.expected u is in
    let none_come : has_come ps ≡ false = s.come ∙ idle in
    subst (λ (h : Heard). Stands (says_unit_of a u).after h.after took (got ++ option_to_list h.unit) (ps ++ p ∷ [])) (sym (unit_ignored b seq a.expected u is idle))
    (subst (λ (us : List Unit). Stands (says_unit_of a u).after b took us (ps ++ p ∷ [])) (sym (append-nil got)) (record {
      there = said.there;
      back = said.back;
      done = said.done;
      left = said.left;
      took_is = said.took_is;
      got_is = said.got_is;
      sending = said.sending;
      none = said.none;
      nothing = said.nothing;
      expected = said.expected;
      low = said.low;
      high = said.high;
      come = come_same ps p (is_active b.stage) no s.come;
      picks = ap (picked 0) (behind_first ps p none_come) ∙ sym (ap (picked 0) (behind_none ps none_come)) ∙ s.picks;
    }))

-- an end with another number
unit_dropped : (a b b' : Wire) (took got : List Unit) (ps : List Packet) (p : Packet) → Stands a b took got ps → AcksNothing b b' → has_come (ps ++ p ∷ []) ≡ is_active b.stage → picked 0 (behind_response (ps ++ p ∷ [])) ≡ got
    → Stands a (record b' { answers = true }) took got (ps ++ p ∷ [])
unit_dropped a b b' took got ps p s k come picks = record {
  there = subst (λ (x : Stage). Tame a.stage x a.waiting) (sym k.stage) s.there;
  back = subst (λ (x : Stage). Tame x a.stage b'.waiting) (sym k.stage) (subst (λ (xs : List LinkMessage). Tame b.stage a.stage xs) (sym k.waiting) s.back);
  done = s.done;
  left = s.left;
  took_is = s.took_is;
  got_is = s.got_is;
  sending = s.sending;
  none = k.unacked;
  nothing = k.given;
  expected = k.expected ∙ s.expected;
  low = s.low;
  high = s.high;
  come = come ∙ ap is_active (sym k.stage);
  picks = picks;
}

unit_taken : (a b b' : Wire) (took got rest : List Unit) (ps : List Packet) (p : Packet) (u : Unit) (s : Stands a b took got ps) → AcksNothing b b' → has_come (ps ++ p ∷ []) ≡ is_active b.stage
    → picked 0 (behind_response (ps ++ p ∷ [])) ≡ got ++ u ∷ [] → s.left ≡ u ∷ rest → length got + 1 ≤ length s.done + a.given
    → Stands a (record b' { expected = (b'.expected + 1) % 8; answers = true }) took (got ++ u ∷ []) (ps ++ p ∷ [])
unit_taken a b b' took got rest ps p u s k come picks left fits =
    let more = length-append got (u ∷ []) in
    record {
      there = subst (λ (x : Stage). Tame a.stage x a.waiting) (sym k.stage) s.there;
      back = subst (λ (x : Stage). Tame x a.stage b'.waiting) (sym k.stage) (subst (λ (xs : List LinkMessage). Tame b.stage a.stage xs) (sym k.waiting) s.back);
      done = s.done;
      left = rest;
      took_is = s.took_is;
      got_is = s.got_is ∙ ap (λ us. got ++ us) left ∙ sym (append_assoc got (u ∷ []) rest);
      sending = s.sending;
      none = k.unacked;
      nothing = k.given;
      expected = omega (arith, k.expected, s.expected, more);
      low = omega (arith, s.low, more);
      high = omega (arith, fits, more);
      come = come ∙ ap is_active (sym k.stage);
      picks = picks;
    }

-- an active end hears a unit
pub unit_forth_active : (a b : Wire) (took got : List Unit) (ps : List Packet) (u : Unit) → Stands a b took got ps → b.stage ≡ Active → a.stage ≡ Active → a.waiting ≡ [] → slice_get a.unacked a.next ≡ Some u
    → Stands (says_unit_of a u).after (hears (says_unit_of a u).packet b).after took (got ++ option_to_list (hears (says_unit_of a u).packet b).unit) (ps ++ (says_unit_of a u).packet ∷ [])
unit_forth_active a b took got ps u s at_b active empty at =
    let seq = (a.first + a.next) % 8 in
    let is = unit_at a a.next u s.sending.units at in
    let p = unit_packet seq a.expected u in
    let said = said_unit a b took got ps u s active empty at in
    let lt = slice_get_within a.unacked a.next u at in
    let k = acks_nothing a.expected b s.none s.nothing in
    let b' = hears_ack a.expected b in
    let come = come_same ps p (is_active b.stage) (no_response seq a.expected u is) s.come in
    let come_true : has_come ps ≡ true = s.come ∙ ap is_active at_b in
    let heard = unit_heard b seq a.expected u is at_b in
    subst (λ (h : Heard). Stands (says_unit_of a u).after h.after took (got ++ option_to_list h.unit) (ps ++ p ∷ [])) (sym heard)
    (elim (cases_Bool (eqb seq b'.expected)) [
      | inl e ↦
          let same = eqb-true seq b'.expected e in
          let place : length got ≡ length s.done + a.next = omega (arith, same, k.expected, s.expected, s.sending.first, s.low, s.high, s.sending.given, s.sending.held, s.sending.window, s.sending.own, lt) in
          let l = next_left took s.done a.unacked got s.left a.next u s.took_is s.got_is at place in
          let test : eqb seq (length got % 8) ≡ true = ap (eqb seq) (sym (k.expected ∙ s.expected)) ∙ e in
          let picks = picks_unit ps got seq a.expected u true come_true s.picks test in
          let done_same : Stands (says_unit_of a u).after b took got ps = record {
            there = said.there;
            back = said.back;
            done = s.done;
            left = s.left;
            took_is = s.took_is;
            got_is = s.got_is;
            sending = sending_said a s.done u lt s.sending;
            none = s.none;
            nothing = s.nothing;
            expected = s.expected;
            low = s.low;
            high = omega (arith, s.high);
            come = s.come;
            picks = s.picks;
          } in
          subst (λ (t : Bool). let h = takes_number t u b' in Stands (says_unit_of a u).after h.after took (got ++ option_to_list h.unit) (ps ++ p ∷ [])) (sym e)
          (unit_taken (says_unit_of a u).after b b' took got l.0 ps p u done_same k come picks l.1 (omega (arith, place)))
      | inr e ↦
          let test : eqb seq (length got % 8) ≡ false = ap (eqb seq) (sym (k.expected ∙ s.expected)) ∙ e in
          let picks = picks_unit ps got seq a.expected u false come_true s.picks test ∙ append-nil got in
          subst (λ (t : Bool). let h = takes_number t u b' in Stands (says_unit_of a u).after h.after took (got ++ option_to_list h.unit) (ps ++ p ∷ [])) (sym e)
          (subst (λ (us : List Unit). Stands (says_unit_of a u).after (record b' { answers = true }) took us (ps ++ p ∷ [])) (sym (append-nil got))
          (unit_dropped (says_unit_of a u).after b b' took got ps p said k come picks))
    ])

-- ---- an acknowledgement

pub ack_forth : (a b : Wire) (took got : List Unit) (ps : List Packet) (ack : ℕ) → Stands a b took got ps → Stands a (hears (ack_packet ack) b).after took got (ps ++ ack_packet ack ∷ [])
ack_forth a b took got ps ack s =
    let come = come_same ps (ack_packet ack) (is_active b.stage) refl s.come in
    let picks = picks_same ps (ack_packet ack) got refl s.picks in
    elim (stage_cases b.stage) [
      | inl active ↦
          let k = acks_nothing ack b s.none s.nothing in
          subst (λ (h : Heard). Stands a h.after took got (ps ++ ack_packet ack ∷ [])) (sym (ack_heard b ack active)) (record {
            there = subst (λ (x : Stage). Tame a.stage x a.waiting) (sym k.stage) s.there;
            back = subst (λ (x : Stage). Tame x a.stage (hears_ack ack b).waiting) (sym k.stage) (subst (λ (xs : List LinkMessage). Tame b.stage a.stage xs) (sym k.waiting) s.back);
            done = s.done;
            left = s.left;
            took_is = s.took_is;
            got_is = s.got_is;
            sending = s.sending;
            none = k.unacked;
            nothing = k.given;
            expected = k.expected ∙ s.expected;
            low = s.low;
            high = s.high;
            come = come ∙ ap is_active (sym k.stage);
            picks = picks;
          })
      | inr idle ↦
          subst (λ (h : Heard). Stands a h.after took got (ps ++ ack_packet ack ∷ [])) (sym (ack_ignored b ack idle)) (record {
            there = s.there;
            back = s.back;
            done = s.done;
            left = s.left;
            took_is = s.took_is;
            got_is = s.got_is;
            sending = s.sending;
            none = s.none;
            nothing = s.nothing;
            expected = s.expected;
            low = s.low;
            high = s.high;
            come = come;
            picks = picks;
          })
    ]

-- the second end acknowledges all that it accepted
pub acked_all : (a b : Wire) (took got : List Unit) (ps : List Packet) (s : Stands a b took got ps) → (past a.first b.expected ≡ length got - length s.done) × (leb (past a.first b.expected) a.given ≡ true)
acked_all a b took got ps s =
    let e : past a.first b.expected ≡ length got - length s.done = omega (arith, s.sending.first, s.expected, s.low, s.high, s.sending.given, s.sending.held, s.sending.window, s.sending.own) in
    (e, le-leb (past a.first b.expected) a.given (omega (arith, e, s.high)))

pub ack_back : (a b : Wire) (took got : List Unit) (ps : List Packet) → Stands a b took got ps → Stands (hears (ack_packet b.expected) a).after b took got ps
ack_back a b took got ps s = elim (stage_cases a.stage) [
  | inr idle ↦ subst (λ (h : Heard). Stands h.after b took got ps) (sym (ack_ignored a b.expected idle)) s
  | inl active ↦
      let all = acked_all a b took got ps s in
      let k = past a.first b.expected in
      let heard : hears (ack_packet b.expected) a ≡ quiet (acknowledged k a) = ack_heard a b.expected active ∙ ap (λ (t : Bool). quiet (cond t (acknowledged k a) a)) all.1 in
      let parts = take-append-drop k a.unacked in
      let t = length-take k a.unacked in
      let d = length-drop k a.unacked in
      let front = length-append s.done (take k a.unacked) in
      subst (λ (h : Heard). Stands h.after b took got ps) (sym heard) (record {
        there = s.there;
        back = s.back;
        done = s.done ++ take k a.unacked;
        left = s.left;
        took_is = s.took_is ∙ ap (λ us. s.done ++ us) (sym parts) ∙ sym (append_assoc s.done (take k a.unacked) (drop k a.unacked));
        got_is = s.got_is;
        sending = record {
          own = s.sending.own;
          some = s.sending.some;
          window = s.sending.window;
          wide = s.sending.wide;
          held = omega (arith, d, s.sending.held);
          given = omega (arith, d, s.sending.given);
          next = omega (arith, d, s.sending.next);
          first = omega (arith, s.sending.first, front, t, all.0, s.low, s.high, s.sending.given);
          idle = λ e. absurd (let x : true ≡ false = sym (ap is_active active) ∙ e in cc);
          units = All-drop IsUnit k a.unacked s.sending.units;
        };
        none = s.none;
        nothing = s.nothing;
        expected = s.expected;
        low = omega (arith, front, t, all.0, s.low);
        high = omega (arith, front, t, all.0, s.low, s.high, s.sending.given);
        come = s.come;
        picks = s.picks;
      })
]

-- ---- a unit is taken, and the timers fire

pub took_one : (a b : Wire) (took got : List Unit) (ps : List Packet) (u : Unit) → Stands a b took got ps → IsUnit u → is_active a.stage ≡ true → length a.unacked < a.window → Stands (submitted u a) b (took ++ u ∷ []) got ps
took_one a b took got ps u s is active room =
    let long = length-append a.unacked (u ∷ []) in
    record {
      there = s.there;
      back = s.back;
      done = s.done;
      left = s.left ++ u ∷ [];
      took_is = ap (λ us. us ++ u ∷ []) s.took_is ∙ append_assoc s.done a.unacked (u ∷ []);
      got_is = ap (λ us. us ++ u ∷ []) s.got_is ∙ append_assoc got s.left (u ∷ []);
      sending = record {
        own = s.sending.own;
        some = s.sending.some;
        window = s.sending.window;
        wide = s.sending.wide;
        held = omega (arith, long, room);
        given = omega (arith, long, s.sending.given);
        next = omega (arith, long, s.sending.next);
        first = s.sending.first;
        idle = λ e. absurd (let x : true ≡ false = sym active ∙ e in cc);
        units = All-push IsUnit a.unacked u s.sending.units is;
      };
      none = s.none;
      nothing = s.nothing;
      expected = s.expected;
      low = s.low;
      high = s.high;
      come = s.come;
      picks = s.picks;
    }

pub rang : (a b : Wire) (took got : List Unit) (ps : List Packet) → Stands a b took got ps → Stands (ticked a) (ticked b) took got ps
rang a b took got ps s =
    let ka = tick_keeps a in let kb = tick_keeps b in
    let sa = tick_stage a in let sb = tick_stage b in
    record {
      there = subst (λ (x : Stage). Tame (ticked a).stage x (ticked a).waiting) (sym sb) (tick_tame a b.stage s.there);
      back = subst (λ (x : Stage). Tame (ticked b).stage x (ticked b).waiting) (sym sa) (tick_tame b a.stage s.back);
      done = s.done;
      left = s.left;
      took_is = s.took_is ∙ ap (λ us. s.done ++ us) (sym ka.unacked);
      got_is = s.got_is;
      sending = sending_keeps a (ticked a) s.done ka s.sending;
      none = kb.unacked ∙ s.none;
      nothing = kb.given ∙ s.nothing;
      expected = kb.expected ∙ s.expected;
      low = s.low;
      high = omega (arith, s.high, ka.given);
      come = s.come ∙ ap is_active (sym sb);
      picks = s.picks;
    }
