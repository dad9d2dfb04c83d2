-- Whatever a host does by itself, puts out or hears is nothing where PDUs move one at a time, or one of the things that happen there.
use Rattle.std.proofs.Common.{◌≡◌, ◌+◌, ◌≤◌, ◌==◌, ◌&&◌, Bool, true, false, List, [], ◌∷◌, ◌++◌, refl, sym, ap, ◌∙◌, arith, subst}
use Rattle.world_model.specs.bt_base.specs.Octets.{le16}
use Rattle.world_model.specs.push_terms.specs.declared.word.Side.TheVariants.{A, B}
use Rattle.world_model.specs.radio_model.specs.Controllers.{Answer, Returned, Stated, address, gives_back}
use Rattle.world_model.specs.radio_model.specs.Radio.{is_requested, is_together, may_page, knows_link, after_offer}
use Rattle.world_model.specs.Machines.{Upper}
use Rattle.world_model.specs.Talks.{Talk}
use Rattle.world_model.specs.Carriages.{End}
use Rattle.world_model.specs.Stations.{Order, Reset, ReadBuffers, ReadAddress, Scan, Page, Accept, End as Ending, Data, Station, Effort, Taking, Putting, Asking, Leaving, Commanding, MakesEffort}
use Rattle.world_model.specs.Worlds.{World, after_order}
use Rattle.turn_laws.specs.Premises.{SaysFrames, Idles}
use Rattle.turn_laws.proofs.Leading.{plain_tidings}
use Rattle.turn_laws.proofs.Linkages.{as_was, order_by}
use Rattle.turn_laws.proofs.Wiring.{asking, count, count-append}
use Rattle.turn_laws.proofs.Stationing.{Proceeds, on_link, off_link, takes, puts, asks_link, leaves_link, commands}
use Rattle.turn_laws.proofs.Departing.{aside, aside_steady, aside_same, gives_back_tidings}
use Rattle.turn_laws.proofs.Keeping.{calling, Wants, Kept, page_parts}
use Rattle.turn_laws.proofs.Ordering.{at, Carried, silent, proceeds_a, proceeds_b, departed_a, departed_b, plain_departs_a, plain_departs_b, reach_departs_a, reach_departs_b, page_departs_by, end_departs_a_by, end_departs_b_by, known, accept_departs_by, data_departs_a, data_departs_b}

-- ---- orders

pub departs_a : {S T G H : Type 0} (U : Upper S G) (V : Upper T H) (w : World S T) (talk_a talk_b : List Talk) (order : Order) (rest : List Order) → Idles U → w.a.out ≡ order ∷ rest → Kept U V w.radio w.a w.b w.pushes.going
    → Carried U V (order_by order w.radio.a) as_was w (departed_a (after_order A order w.radio) rest w) talk_a talk_b []
departs_a U V w talk_a talk_b Reset rest idles first kept =
    plain_departs_a U V w talk_a talk_b Reset rest w.radio.a.scan (Returned 0x0C03 (0 ∷ []) ∷ []) first refl (plain_tidings w.radio.a.owed (Returned 0x0C03 (0 ∷ [])) refl) kept
departs_a U V w talk_a talk_b ReadBuffers rest idles first kept =
    let answer : Answer = Returned 0x1005 (0 ∷ (le16 w.radio.size ++ (0 ∷ (le16 w.radio.count ++ le16 0)))) in
    plain_departs_a U V w talk_a talk_b ReadBuffers rest w.radio.a.scan (answer ∷ []) first refl (plain_tidings w.radio.a.owed answer refl) kept
departs_a U V w talk_a talk_b ReadAddress rest idles first kept =
    plain_departs_a U V w talk_a talk_b ReadAddress rest w.radio.a.scan (Returned 0x1009 (0 ∷ address A) ∷ []) first refl (plain_tidings w.radio.a.owed (Returned 0x1009 (0 ∷ address A)) refl) kept
departs_a U V w talk_a talk_b Scan rest idles first kept =
    reach_departs_a U V w talk_a talk_b Scan rest 0x03 (Returned 0x0C1A (0 ∷ []) ∷ []) first refl (plain_tidings w.radio.a.owed (Returned 0x0C1A (0 ∷ [])) refl) kept
departs_a U V w talk_a talk_b Page rest idles first kept =
    page_departs_by U V w talk_a talk_b rest (may_page (record w.radio { a = aside w.radio.a.scan w.radio.a.taken (w.radio.a.owed ++ Stated 0x0405 ∷ []) w.radio.a })) idles
    (page_parts (record w.radio { a = aside w.radio.a.scan w.radio.a.taken (w.radio.a.owed ++ Stated 0x0405 ∷ []) w.radio.a })) first kept
departs_a U V w talk_a talk_b Accept rest idles first kept =
    plain_departs_a U V w talk_a talk_b Accept rest w.radio.a.scan (Stated 0x0409 ∷ []) first refl (plain_tidings w.radio.a.owed (Stated 0x0409) refl) kept
departs_a U V w talk_a talk_b (Ending handle) rest idles first kept =
    end_departs_a_by U V w talk_a talk_b handle rest (knows_link A w.radio && (handle == w.radio.number)) (known (is_together w.radio.phase) w.radio.a.up w.radio.a.told w.radio.number handle) first kept
departs_a U V w talk_a talk_b (Data handle piece) rest idles first kept = data_departs_a U V w talk_a talk_b handle piece rest (w.radio.a.up && (handle == w.radio.a.told)) refl first kept

pub departs_b : {S T G H : Type 0} (U : Upper S G) (V : Upper T H) (w : World S T) (talk_a talk_b : List Talk) (order : Order) (rest : List Order) → w.b.out ≡ order ∷ rest → Kept U V w.radio w.a w.b w.pushes.going
    → Carried U V as_was (order_by order w.radio.b) w (departed_b (after_order B order w.radio) rest w) talk_a talk_b []
departs_b U V w talk_a talk_b Reset rest first kept =
    plain_departs_b U V w talk_a talk_b Reset rest w.radio.b.scan (Returned 0x0C03 (0 ∷ []) ∷ []) first refl (plain_tidings w.radio.b.owed (Returned 0x0C03 (0 ∷ [])) refl) kept
departs_b U V w talk_a talk_b ReadBuffers rest first kept =
    let answer : Answer = Returned 0x1005 (0 ∷ (le16 w.radio.size ++ (0 ∷ (le16 w.radio.count ++ le16 0)))) in
    plain_departs_b U V w talk_a talk_b ReadBuffers rest w.radio.b.scan (answer ∷ []) first refl (plain_tidings w.radio.b.owed answer refl) kept
departs_b U V w talk_a talk_b ReadAddress rest first kept =
    plain_departs_b U V w talk_a talk_b ReadAddress rest w.radio.b.scan (Returned 0x1009 (0 ∷ address B) ∷ []) first refl (plain_tidings w.radio.b.owed (Returned 0x1009 (0 ∷ address B)) refl) kept
departs_b U V w talk_a talk_b Scan rest first kept =
    reach_departs_b U V w talk_a talk_b Scan rest 0x03 (Returned 0x0C1A (0 ∷ []) ∷ []) first refl (plain_tidings w.radio.b.owed (Returned 0x0C1A (0 ∷ [])) refl) kept
departs_b U V w talk_a talk_b Page rest first kept =
    plain_departs_b U V w talk_a talk_b Page rest w.radio.b.scan (Stated 0x0405 ∷ []) first refl (plain_tidings w.radio.b.owed (Stated 0x0405) refl) kept
departs_b U V w talk_a talk_b Accept rest first kept = accept_departs_by U V w talk_a talk_b rest (is_requested w.radio.phase) refl first kept
departs_b U V w talk_a talk_b (Ending handle) rest first kept =
    end_departs_b_by U V w talk_a talk_b handle rest (knows_link B w.radio && (handle == w.radio.number)) (known (is_together w.radio.phase) w.radio.b.up w.radio.b.told w.radio.number handle) first kept
departs_b U V w talk_a talk_b (Data handle piece) rest first kept = data_departs_b U V w talk_a talk_b handle piece rest (w.radio.b.up && (handle == w.radio.b.told)) refl first kept

-- ---- a controller gives back

pub gives_a : {S T G H : Type 0} (U : Upper S G) (V : Upper T H) (w : World S T) (talk_a talk_b : List Talk) → Kept U V w.radio w.a w.b w.pushes.going → Carried U V as_was as_was w (record w { radio = after_offer A w.radio }) talk_a talk_b []
gives_a {S} {T} U V w talk_a talk_b kept =
    let same = gives_back_tidings w.radio.a.told w.radio.a.taken w.radio.a.owed in
    silent U V w (record w { radio = after_offer A w.radio }) talk_a talk_b
    (record {
      long = kept.long;
      one = aside_steady U w.radio.number (is_together w.radio.phase) (calling w.radio.phase) w.radio.a w.a w.radio.a.scan 0 (w.radio.a.owed ++ gives_back w.radio.a.told w.radio.a.taken) same kept.one;
      other = kept.other;
      calls = kept.calls;
      parts = λ called. let parts = kept.parts called in record { off_a = parts.off_a; off_b = parts.off_b; told_a = parts.told_a; told_b = parts.told_b };
      rests = λ still. let rests = kept.rests still in record { idle = rests.idle; uncalled = rests.uncalled; separate = rests.separate; none_a = same ∙ rests.none_a; none_b = rests.none_b };
    })
    (ap (λ (x : End S). record (at w talk_a talk_b) { a = x }) (aside_same w.radio.a w.a talk_a w.radio.a.scan 0 (w.radio.a.owed ++ gives_back w.radio.a.told w.radio.a.taken) same))

pub gives_b : {S T G H : Type 0} (U : Upper S G) (V : Upper T H) (w : World S T) (talk_a talk_b : List Talk) → Kept U V w.radio w.a w.b w.pushes.going → Carried U V as_was as_was w (record w { radio = after_offer B w.radio }) talk_a talk_b []
gives_b {S} {T} U V w talk_a talk_b kept =
    let same = gives_back_tidings w.radio.b.told w.radio.b.taken w.radio.b.owed in
    silent U V w (record w { radio = after_offer B w.radio }) talk_a talk_b
    (record {
      long = kept.long;
      one = kept.one;
      other = aside_steady V w.radio.number (is_together w.radio.phase) 0 w.radio.b w.b w.radio.b.scan 0 (w.radio.b.owed ++ gives_back w.radio.b.told w.radio.b.taken) same kept.other;
      calls = kept.calls;
      parts = λ called. let parts = kept.parts called in record { off_a = parts.off_a; off_b = parts.off_b; told_a = parts.told_a; told_b = parts.told_b };
      rests = λ still. let rests = kept.rests still in record { idle = rests.idle; uncalled = rests.uncalled; separate = rests.separate; none_a = rests.none_a; none_b = same ∙ rests.none_b };
    })
    (ap (λ (x : End T). record (at w talk_a talk_b) { b = x }) (aside_same w.radio.b w.b talk_b w.radio.b.scan 0 (w.radio.b.owed ++ gives_back w.radio.b.told w.radio.b.taken) same))

-- ---- a host goes on by itself

-- of host a, whose controller stays
efforted_a : {S T G H : Type 0} (U : Upper S G) (V : Upper T H) (w : World S T) (talk_a talk_b : List Talk) (station : Station S)
    → Proceeds U as_was w.radio.number (is_together w.radio.phase) (calling w.radio.phase) w.radio.a w.a talk_a w.radio.a station
    → (1 ≤ count station.waiting + (count station.out + calling w.radio.phase) → Wants U station.upper w.radio.a.up) → (w.pushes.going ≡ false → U.is_idle station.upper ≡ true)
    → Kept U V w.radio w.a w.b w.pushes.going → Carried U V as_was as_was w (record w { a = station }) talk_a talk_b []
efforted_a U V w talk_a talk_b station proceeds calls idle kept =
    proceeds_a U V as_was w talk_a talk_b w.radio.a station proceeds (record {
      long = kept.long;
      one = proceeds.steady;
      other = kept.other;
      calls = calls;
      parts = kept.parts;
      rests = λ still. let rests = kept.rests still in record { idle = idle still; uncalled = rests.uncalled; separate = rests.separate; none_a = rests.none_a; none_b = rests.none_b };
    })

still_off : {S G : Type 0} (U : Upper S G) (upper : S) (up : Bool) (P : Type 0) → up ≡ true → Wants U upper up → P
still_off U upper up P on wants = let off = wants.off in absurd cc

pub efforts_a : {S T G H : Type 0} (U : Upper S G) (V : Upper T H) (w : World S T) (talk_a talk_b : List Talk) (effort : Effort) (station : Station S) → SaysFrames U → Idles U → MakesEffort U A effort w.a station
    → Kept U V w.radio w.a w.b w.pushes.going → Carried U V as_was as_was w (record w { a = station }) talk_a talk_b []
efforts_a {S} U V w talk_a talk_b Taking station frames idles does kept =
    let proceeds = takes U w.radio.number (is_together w.radio.phase) (calling w.radio.phase) w.radio.a w.a station talk_a frames does kept.one in
    let on = on_link w.radio.a.up w.radio.a.told does.handle w.a.link kept.one.link does.link in
    let upper : station.upper ≡ does.after = ap (λ (x : Station S). x.upper) does.new_is in
    let waits : count station.waiting ≡ count w.a.waiting = ap (λ (x : Station S). count x.waiting) does.new_is in
    let goes : count station.out ≡ count w.a.out = ap (λ (x : Station S). count x.out) does.new_is in
    efforted_a U V w talk_a talk_b station proceeds (λ some. still_off U w.a.upper w.radio.a.up _ on.0 (kept.calls (omega arith)))
    (λ still. ap U.is_idle upper ∙ idles.says w.a.upper does.pdu does.after does.next (kept.rests still).idle) kept
efforts_a {S} U V w talk_a talk_b Putting station frames idles does kept =
    let proceeds = puts U w.radio.number (is_together w.radio.phase) (calling w.radio.phase) w.radio.a w.a station talk_a does kept.one in
    let upper : station.upper ≡ w.a.upper = ap (λ (x : Station S). x.upper) does.new_is in
    let waits : count station.waiting ≡ count w.a.waiting = ap (λ (x : Station S). count x.waiting) does.new_is in
    let goes : count station.out ≡ count w.a.out + (0 + 0) = ap (λ (x : Station S). count x.out) does.new_is ∙ count-append w.a.out (Data does.handle does.piece ∷ []) in
    efforted_a U V w talk_a talk_b station proceeds (λ some. subst (λ (s : S). Wants U s w.radio.a.up) (sym upper) (kept.calls (omega arith))) (λ still. ap U.is_idle upper ∙ (kept.rests still).idle) kept
efforts_a {S} U V w talk_a talk_b Asking station frames idles does kept =
    let proceeds = asks_link U w.radio.number (is_together w.radio.phase) (calling w.radio.phase) w.radio.a w.a station talk_a does kept.one in
    let upper : station.upper ≡ w.a.upper = ap (λ (x : Station S). x.upper) does.new_is in
    let off = off_link w.radio.a.up w.radio.a.told w.a.link kept.one.link does.off in
    efforted_a U V w talk_a talk_b station proceeds (λ some. subst (λ (s : S). Wants U s w.radio.a.up) (sym upper) (record { wants = does.wants; off = off })) (λ still. ap U.is_idle upper ∙ (kept.rests still).idle) kept
efforts_a {S} U V w talk_a talk_b Leaving station frames idles does kept =
    let proceeds = leaves_link U w.radio.number (is_together w.radio.phase) (calling w.radio.phase) w.radio.a w.a station talk_a does kept.one in
    let upper : station.upper ≡ w.a.upper = ap (λ (x : Station S). x.upper) does.new_is in
    let waits : count station.waiting ≡ count w.a.waiting + (0 + 0) = ap (λ (x : Station S). count x.waiting) does.new_is ∙ count-append w.a.waiting (Ending does.handle ∷ []) in
    let goes : count station.out ≡ count w.a.out = ap (λ (x : Station S). count x.out) does.new_is in
    efforted_a U V w talk_a talk_b station proceeds (λ some. subst (λ (s : S). Wants U s w.radio.a.up) (sym upper) (kept.calls (omega arith))) (λ still. ap U.is_idle upper ∙ (kept.rests still).idle) kept
efforts_a {S} U V w talk_a talk_b Commanding station frames idles does kept =
    let proceeds = commands U w.radio.number (is_together w.radio.phase) (calling w.radio.phase) w.radio.a w.a station talk_a does kept.one in
    let upper : station.upper ≡ w.a.upper = ap (λ (x : Station S). x.upper) does.new_is in
    let waited : count w.a.waiting ≡ asking does.order + count does.rest = ap (λ (l : List Order). count l) does.first in
    let waits : count station.waiting ≡ count does.rest = ap (λ (x : Station S). count x.waiting) does.new_is in
    let goes : count station.out ≡ count w.a.out + (asking does.order + 0) = ap (λ (x : Station S). count x.out) does.new_is ∙ count-append w.a.out (does.order ∷ []) in
    efforted_a U V w talk_a talk_b station proceeds (λ some. subst (λ (s : S). Wants U s w.radio.a.up) (sym upper) (kept.calls (omega arith))) (λ still. ap U.is_idle upper ∙ (kept.rests still).idle) kept

efforted_b : {S T G H : Type 0} (U : Upper S G) (V : Upper T H) (w : World S T) (talk_a talk_b : List Talk) (station : Station T)
    → Proceeds V as_was w.radio.number (is_together w.radio.phase) 0 w.radio.b w.b talk_b w.radio.b station → Kept U V w.radio w.a w.b w.pushes.going → Carried U V as_was as_was w (record w { b = station }) talk_a talk_b []
efforted_b U V w talk_a talk_b station proceeds kept =
    proceeds_b U V as_was w talk_a talk_b w.radio.b station proceeds (record { long = kept.long; one = kept.one; other = proceeds.steady; calls = kept.calls; parts = kept.parts; rests = kept.rests })

pub efforts_b : {S T G H : Type 0} (U : Upper S G) (V : Upper T H) (w : World S T) (talk_a talk_b : List Talk) (effort : Effort) (station : Station T) → SaysFrames V → MakesEffort V B effort w.b station
    → Kept U V w.radio w.a w.b w.pushes.going → Carried U V as_was as_was w (record w { b = station }) talk_a talk_b []
efforts_b U V w talk_a talk_b Taking station frames does kept = efforted_b U V w talk_a talk_b station (takes V w.radio.number (is_together w.radio.phase) 0 w.radio.b w.b station talk_b frames does kept.other) kept
efforts_b U V w talk_a talk_b Putting station frames does kept = efforted_b U V w talk_a talk_b station (puts V w.radio.number (is_together w.radio.phase) 0 w.radio.b w.b station talk_b does kept.other) kept
efforts_b U V w talk_a talk_b Asking station frames does kept = absurd does
efforts_b U V w talk_a talk_b Leaving station frames does kept = efforted_b U V w talk_a talk_b station (leaves_link V w.radio.number (is_together w.radio.phase) 0 w.radio.b w.b station talk_b does kept.other) kept
efforts_b U V w talk_a talk_b Commanding station frames does kept = efforted_b U V w talk_a talk_b station (commands V w.radio.number (is_together w.radio.phase) 0 w.radio.b w.b station talk_b does kept.other) kept
