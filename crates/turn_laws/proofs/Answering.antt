-- What one host and its controller become when an answer comes in.
use Rattle.std.proofs.Common.{◌≡◌, ℕ, ◌+◌, ◌-◌, ◌≤◌, ◌<◌, ◌==◌, ◌&&◌, ◌||◌, not, nat_le, min, Bool, true, false, List, [], ◌∷◌, ◌++◌, map, drop, Option, Some, None, is_none, if◌then◌else◌, refl, sym, ap, ◌∙◌, inl, arith, subst}
use Rattle.std.specs.List.{list_any}
use Rattle.std.proofs.lemmas.Bool.{eq-eqb, leb-true}
use Rattle.byteorder.specs.Endian.{little_number}
use Rattle.world_model.specs.acl_fragments.specs.Pieces.{Piece}
use Rattle.world_model.specs.push_terms.specs.declared.word.Side.{Side}
use Rattle.world_model.specs.radio_model.specs.Controllers.{Answer, Returned, Stated, Called, LinkMade, LinkGone, GivenBack, Controller, after_telling}
use Rattle.world_model.specs.Machines.{Up, Down, Linked, Upper}
use Rattle.world_model.specs.Talks.{Talk, Told, Unsent}
use Rattle.world_model.specs.Carriages.{End, Telling, is_told}
use Rattle.world_model.specs.Stations.{Accept, asks, Station, longest_pdu, is_handle, answered, learns, is_server, may_accept, hears_answer}
use Rattle.world_model.specs.radio_model.specs.Radio.{frame_limit}
use Rattle.turn_laws.proofs.Joining.{completions, held_behind, EndsOnce}
use Rattle.turn_laws.proofs.Leading.{Tiding, Came, Went, tidings, events, made, Led}
use Rattle.world_model.specs.PerLink.{link_begins, link_ends}
use Rattle.turn_laws.proofs.Linkages.{as_was, answer_by, linkage_one, linkage_ended}
use Rattle.turn_laws.proofs.Wiring.{sent, AllFrames, flowing, within_more, has_end, count, sent_above, end_above, last_above}
use Rattle.turn_laws.proofs.Stationing.{linked_handle, Steady, end_of, Proceeds, none_asked, unasked_none, waits_steady}
use Rattle.turn_laws.proofs.Departing.{aside_steady}
use Rattle.turn_laws.proofs.Hearing.{with_owed, rest_tidings, altered_proceeds}

-- ---- one that tells of no link

learnt :
    {S G : Type 0} (U : Upper S G) (number : ℕ) (together : Bool) (extra : ℕ) (one : Controller) (old : Station S) (talk : List Talk) (rest : List Answer) (awaited : Option ℕ) (size total : ℕ) (some : Bool)
    → (some ≡ true → 27 ≤ size) → tidings rest ≡ tidings one.owed → Steady U number together extra one old
    → Proceeds U as_was number together extra one old talk (with_owed rest one)
    (record (if some then record old { awaited = awaited; size = min size 1021; total = min total 64 } else record old { awaited = awaited }) { upper = old.upper })
learnt U number together extra one old talk rest awaited size total true long same steady =
    let low = long refl in altered_proceeds U number together extra one old talk rest awaited (min size 1021) (min total 64) old.outstanding same (omega arith) steady
learnt U number together extra one old talk rest awaited size total false long same steady =
    altered_proceeds U number together extra one old talk rest awaited old.size old.total old.outstanding same steady.long steady

both_true : (a b : Bool) → (a && b) ≡ true → b ≡ true
both_true true b is = is
both_true false b is = cc

returned_by :
    {S G : Type 0} (U : Upper S G) (number : ℕ) (together : Bool) (extra : ℕ) (one : Controller) (old : Station S) (talk : List Talk) (rest : List Answer) (awaited : Option ℕ) (params : List ℕ) (buffers : Bool)
    → tidings rest ≡ tidings one.owed → Steady U number together extra one old
    → Proceeds U as_was number together extra one old talk (with_owed rest one)
    (record (if buffers then learns params (record old { awaited = awaited }) else record old { awaited = awaited }) { upper = old.upper })
returned_by U number together extra one old talk rest awaited params true same steady =
    learnt U number together extra one old talk rest awaited (little_number 2 (drop 1 params)) (little_number 2 (drop 4 params)) (is_none old.link && nat_le 27 (little_number 2 (drop 1 params)))
    (λ some. leb-true 27 (little_number 2 (drop 1 params)) (both_true (is_none old.link) (nat_le 27 (little_number 2 (drop 1 params))) some)) same steady
returned_by U number together extra one old talk rest awaited params false same steady =
    altered_proceeds U number together extra one old talk rest awaited old.size old.total old.outstanding same steady.long steady

given_by :
    {S G : Type 0} (U : Upper S G) (number : ℕ) (together : Bool) (extra : ℕ) (one : Controller) (old : Station S) (talk : List Talk) (rest : List Answer) (left : ℕ) (some : Bool)
    → tidings rest ≡ tidings one.owed → Steady U number together extra one old
    → Proceeds U as_was number together extra one old talk (with_owed rest one) (record (if some then record old { outstanding = left } else old) { upper = old.upper })
given_by U number together extra one old talk rest left true same steady = altered_proceeds U number together extra one old talk rest old.awaited old.size old.total left same steady.long steady
given_by U number together extra one old talk rest left false same steady = altered_proceeds U number together extra one old talk rest old.awaited old.size old.total old.outstanding same steady.long steady

pub record MayAccept {S : Type 0} (station : Station S) : Type 0 where
  pub unasked : station.asked ≡ false
  pub none_waits : list_any asks station.waiting ≡ false

accepts_by : {S : Type 0} (station : Station S) (server off asked some : Bool) → asked ≡ station.asked → some ≡ list_any asks station.waiting → (server && (off && (not asked && not some))) ≡ true → MayAccept station
accepts_by station true true false false asked some is = record { unasked = sym asked; none_waits = sym some }
accepts_by station true true true some asked is may = cc
accepts_by station true true false true asked is may = cc
accepts_by station true false asked some is also may = cc
accepts_by station false off asked some is also may = cc

called_by :
    {S G : Type 0} (U : Upper S G) (number : ℕ) (together : Bool) (extra : ℕ) (one : Controller) (old : Station S) (talk : List Talk) (rest : List Answer) (may : Bool) → (may ≡ true → MayAccept old)
    → tidings rest ≡ tidings one.owed → Steady U number together extra one old
    → Proceeds U as_was number together extra one old talk (with_owed rest one) (record (if may then record old { waiting = old.waiting ++ Accept ∷ [] } else old) { upper = old.upper })
called_by U number together extra one old talk rest false accepts same steady = altered_proceeds U number together extra one old talk rest old.awaited old.size old.total old.outstanding same steady.long steady
called_by U number together extra one old talk rest true accepts same steady =
    let now = aside_steady U number together extra one old one.scan one.taken rest same steady in
    let may = accepts refl in
    let none = none_asked old.waiting may.none_waits in
    let free : count old.out + (extra + made (tidings rest)) ≡ 0 = unasked_none old.asked (count old.out + (extra + made (tidings rest))) now.awaits.awaited may.unasked in
    record {
      steady = waits_steady U number together extra (with_owed rest one) old Accept (λ handle. refl) (omega arith) (omega arith) (λ up ends. cc) now;
      motions = [];
      talk' = talk;
      links = refl;
      goes = λ i. record (end_of one old talk) { owed = events (same i) };
    }

-- ---- one that tells of a link

none_here : (joining : List ℕ) (coming : List Piece) → coming ≡ [] → completions longest_pdu joining coming ≡ []
none_here joining coming none = ap (λ (l : List Piece). completions longest_pdu joining l) none

once_none : (joining : List ℕ) (coming : List Piece) → coming ≡ [] → EndsOnce longest_pdu joining coming
once_none joining coming none = subst (λ (l : List Piece). EndsOnce longest_pdu joining l) (sym none) tt

neither : (a b : Bool) (P : Type 0) → a ≡ false → b ≡ false → (a || b) ≡ true → P
neither true b P none also is = absurd cc
neither false true P none also is = absurd cc
neither false false P none also is = absurd cc

abbrev pub came_up : {S G : Type 0} → Upper S G → List G → ℕ → Station S → Station S
came_up U answers handle station = record station { asked = false; link = Some handle; ending = false; joining = []; upper = U.hear answers (Linked Up) station.upper }

made_steady :
    {S G : Type 0} (U : Upper S G) (number : ℕ) (together : Bool) (extra : ℕ) (one : Controller) (old : Station S) (talk : List Talk) (answers : List G) (handle : ℕ) (rest : List Answer)
    → one.coming ≡ [] → one.owed ≡ LinkMade handle ∷ rest → Steady U number together extra one old
    → Proceeds U link_begins number together extra one old talk (record one { told = handle; up = true; taken = 0; begun = []; owed = rest }) (came_up U answers handle old)
made_steady {S} U number together extra one old talk answers handle rest none first steady =
    let owed : tidings one.owed ≡ Came handle ∷ tidings rest = ap tidings first in
    let led : Led one.told one.up (Came handle ∷ tidings rest) number together = subst (λ (l : List Tiding). Led one.told one.up l number together) owed steady.led in
    let few = steady.awaits.few in
    let counted : made (tidings one.owed) ≡ 1 + made (tidings rest) = ap made owed in
    let next = led.1 in
    let low : one.told < handle = omega arith in
    let pieces : old.pieces ≡ [] = steady.off led.0 in
    let flow : sent handle old.out ++ old.pieces ≡ [] = ap (λ (l : List Piece). l ++ old.pieces) (sent_above one.told handle old.out low steady.ends.within_out) ∙ pieces in
    let e : End S = end_of one old talk in
    let waits : e.waiting ≡ [] = ap (λ (b : Bool). flowing b one.begun (sent one.told old.out ++ old.pieces)) led.0 in
    record {
      steady = record {
        led = led.2;
        link = refl;
        long = steady.long;
        off = λ off. cc;
        wired = record { left = λ up. ap (λ (l : List Piece). held_behind frame_limit [] l) flow; frames = subst (λ (l : List Piece). AllFrames (completions frame_limit [] l)) (sym flow) tt; air = steady.wired.air };
        incoming = record { once = once_none [] one.coming none; listens = inl none };
        awaits = record { few = omega arith; awaited = λ some. absurd (omega arith) };
        ends = record {
          within_waiting = within_more one.told handle old.waiting (omega arith) steady.ends.within_waiting;
          within_out = within_more one.told handle old.out (omega arith) steady.ends.within_out;
          leaving = λ up ends. neither (has_end handle old.waiting) (has_end handle old.out) _ (end_above one.told handle old.waiting low steady.ends.within_waiting) (end_above one.told handle old.out low steady.ends.within_out) ends;
          last = last_above one.told handle old.out low steady.ends.within_out;
          still = steady.ends.still;
        };
      };
      motions = Telling Up ∷ [];
      talk' = talk ++ Told (Linked Up) ∷ [];
      links = linkage_one talk (Told (Linked Up));
      goes = (
        is_told U answers Up (events (tidings rest)) e,
        record { answers = answers; more = events (tidings rest); first = ap events owed; none_comes = none_here old.joining one.coming none; is = refl },
        λ i. record {
          upper = U.hear answers (Linked Up) old.upper;
          linked = true;
          owed = events (tidings rest);
          waiting = completions frame_limit [] (flow i);
          queue = one.waiting;
          coming = (none_here [] one.coming none ∙ sym (none_here old.joining one.coming none)) i;
          talk = talk ++ (map Unsent (sym waits i) ++ Told (Linked Up) ∷ []);
        },
      );
    }

abbrev pub went_down : {S G : Type 0} → Upper S G → List G → ℕ → Station S → Station S
went_down U answers reason station = record station { outstanding = 0; link = None; ending = false; joining = []; pieces = []; upper = U.hear answers (Linked (Down reason)) station.upper }

gone_steady :
    {S G : Type 0} (U : Upper S G) (number : ℕ) (together : Bool) (extra : ℕ) (one : Controller) (old : Station S) (talk : List Talk) (answers : List G) (handle reason : ℕ) (rest : List Answer)
    → one.coming ≡ [] → one.owed ≡ LinkGone handle reason ∷ rest → Steady U number together extra one old
    → Proceeds U link_ends number together extra one old talk (record one { up = false; owed = rest }) (went_down U answers reason old)
gone_steady {S} U number together extra one old talk answers handle reason rest none first steady =
    let owed : tidings one.owed ≡ Went handle reason ∷ tidings rest = ap tidings first in
    let led : Led one.told one.up (Went handle reason ∷ tidings rest) number together = subst (λ (l : List Tiding). Led one.told one.up l number together) owed steady.led in
    let counted : made (tidings one.owed) ≡ made (tidings rest) = ap made owed in
    let few = steady.awaits.few in
    let e : End S = end_of one old talk in
    record {
      steady = record {
        led = led.2;
        link = refl;
        long = steady.long;
        off = λ off. refl;
        wired = record { left = λ up. cc; frames = tt; air = steady.wired.air };
        incoming = record { once = once_none [] one.coming none; listens = inl none };
        awaits = record { few = omega arith; awaited = λ some. steady.awaits.awaited (omega arith) };
        ends = record { within_waiting = steady.ends.within_waiting; within_out = steady.ends.within_out; leaving = λ up ends. absurd cc; last = steady.ends.last; still = steady.ends.still };
      };
      motions = Telling (Down reason) ∷ [];
      talk' = talk ++ (map Unsent e.waiting ++ Told (Linked (Down reason)) ∷ []);
      links = linkage_ended talk e.waiting (Told (Linked (Down reason)));
      goes = (
        is_told U answers (Down reason) (events (tidings rest)) e,
        record { answers = answers; more = events (tidings rest); first = ap events owed; none_comes = none_here old.joining one.coming none; is = refl },
        λ i. record {
          upper = U.hear answers (Linked (Down reason)) old.upper;
          linked = false;
          owed = events (tidings rest);
          waiting = [];
          queue = one.waiting;
          coming = (none_here [] one.coming none ∙ sym (none_here old.joining one.coming none)) i;
          talk = talk ++ (map Unsent e.waiting ++ Told (Linked (Down reason)) ∷ []);
        },
      );
    }

-- ---- whatever comes

pub made_by :
    {S G : Type 0} (U : Upper S G) (answers : List G) (side : Side) (handle : ℕ) (old : Station S) → old.asked ≡ true → old.link ≡ None → came_up U answers handle old ≡ hears_answer U answers side (LinkMade handle) old
made_by U answers side handle old asked off = rw (asked, off) refl

pub gone_by :
    {S G : Type 0} (U : Upper S G) (answers : List G) (side : Side) (handle reason : ℕ) (old : Station S) → is_handle handle old.link ≡ true → went_down U answers reason old ≡ hears_answer U answers side (LinkGone handle reason) old
gone_by U answers side handle reason old here = rw here refl

pub answer_proceeds :
    {S G : Type 0} (U : Upper S G) (side : Side) (number : ℕ) (together : Bool) (extra : ℕ) (one : Controller) (old : Station S) (talk : List Talk) (answers : List G) (answer : Answer) (rest : List Answer)
    → one.coming ≡ [] → one.owed ≡ answer ∷ rest → Steady U number together extra one old
    → Proceeds U (answer_by answer) number together extra one old talk (after_telling answer (with_owed rest one)) (hears_answer U answers side answer old)
answer_proceeds U side number together extra one old talk answers (Returned opcode params) rest none first steady =
    returned_by U number together extra one old talk rest (answered opcode old.awaited) params (opcode == 0x1005) (rest_tidings one.owed rest (Returned opcode params) first refl) steady
answer_proceeds U side number together extra one old talk answers (Stated opcode) rest none first steady =
    altered_proceeds U number together extra one old talk rest (answered opcode old.awaited) old.size old.total old.outstanding (rest_tidings one.owed rest (Stated opcode) first refl) steady.long steady
answer_proceeds U side number together extra one old talk answers Called rest none first steady =
    called_by U number together extra one old talk rest (may_accept side old) (λ may. accepts_by old (is_server side) (is_none old.link) old.asked (list_any asks old.waiting) refl refl may) (rest_tidings one.owed rest Called first refl) steady
answer_proceeds U side number together extra one old talk answers (GivenBack handle n) rest none first steady =
    given_by U number together extra one old talk rest (old.outstanding - n) (is_handle handle old.link && nat_le n old.outstanding) (rest_tidings one.owed rest (GivenBack handle n) first refl) steady
answer_proceeds {S} U side number together extra one old talk answers (LinkMade handle) rest none first steady =
    let owed : tidings one.owed ≡ Came handle ∷ tidings rest = ap tidings first in
    let led : Led one.told one.up (Came handle ∷ tidings rest) number together = subst (λ (l : List Tiding). Led one.told one.up l number together) owed steady.led in
    let counted : made (tidings one.owed) ≡ 1 + made (tidings rest) = ap made owed in
    let asked = steady.awaits.awaited (omega arith) in
    let off : old.link ≡ None = steady.link ∙ ap (λ (b : Bool). linked_handle b one.told) led.0 in
    subst (λ (station : Station S). Proceeds U link_begins number together extra one old talk (after_telling (LinkMade handle) (with_owed rest one)) station) (made_by U answers side handle old asked off)
    (made_steady U number together extra one old talk answers handle rest none first steady)
answer_proceeds {S} U side number together extra one old talk answers (LinkGone handle reason) rest none first steady =
    let owed : tidings one.owed ≡ Went handle reason ∷ tidings rest = ap tidings first in
    let led : Led one.told one.up (Went handle reason ∷ tidings rest) number together = subst (λ (l : List Tiding). Led one.told one.up l number together) owed steady.led in
    let link : old.link ≡ Some one.told = steady.link ∙ ap (λ (b : Bool). linked_handle b one.told) led.0 in
    let here : is_handle handle old.link ≡ true = ap (λ (l : Option ℕ). is_handle handle l) link ∙ eq-eqb one.told handle (sym led.1) in
    subst (λ (station : Station S). Proceeds U link_ends number together extra one old talk (after_telling (LinkGone handle reason) (with_owed rest one)) station) (gone_by U answers side handle reason old here)
    (gone_steady U number together extra one old talk answers handle reason rest none first steady)
