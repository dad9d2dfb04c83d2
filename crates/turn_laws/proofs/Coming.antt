-- Whatever comes into a host.
use Rattle.std.proofs.Common.{◌≡◌, ℕ, ◌+◌, ◌-◌, ◌==◌, ◌&&◌, nat_le, min, Bool, true, false, List, [], ◌∷◌, ◌++◌, drop, Some, None, is_none, if◌then◌else◌, refl, sym, ap, ◌∙◌, arith, subst}
use Rattle.byteorder.specs.Endian.{little_number}
use Rattle.world_model.specs.acl_fragments.specs.Pieces.{Piece}
use Rattle.world_model.specs.push_terms.specs.declared.word.Side.TheVariants.{A, B}
use Rattle.world_model.specs.radio_model.specs.Controllers.{Answer, Returned, Stated, Called, LinkMade, LinkGone, GivenBack, Controller, after_telling, after_first_of, after_handing}
use Rattle.world_model.specs.radio_model.specs.Radio.{Radio, Phase, Apart, Paging, Requested, Together, is_together, with_controller}
use Rattle.world_model.specs.Machines.{Upper}
use Rattle.world_model.specs.Talks.{Talk}
use Rattle.world_model.specs.Stations.{Station, longest_pdu, is_handle, gives, holds, hears_each, hears_piece, hears_answer, answered, learns, after_answer}
use Rattle.world_model.specs.Worlds.{World}
use Rattle.turn_laws.proofs.Leading.{Tiding, Came, Went, tidings, tiding_in, made, Led, led_off}
use Rattle.turn_laws.proofs.Linkages.{as_was, heard_more, answer_by}
use Rattle.turn_laws.proofs.Wiring.{count}
use Rattle.turn_laws.proofs.Stationing.{Steady}
use Rattle.turn_laws.proofs.Hearing.{with_coming, with_owed, listening, hears_piece_steady}
use Rattle.turn_laws.proofs.Answering.{answer_proceeds}
use Rattle.turn_laws.proofs.Keeping.{calling, Wants, Kept}
use Rattle.turn_laws.proofs.Ordering.{Carried, proceeds_a, proceeds_b}

-- ---- what is not touched

piece_waiting : {S : Type 0} (some : Bool) (one two : Station S) → two.waiting ≡ one.waiting → (if some then two else one).waiting ≡ one.waiting
piece_waiting true one two same = same
piece_waiting false one two same = refl

piece_out : {S : Type 0} (some : Bool) (one two : Station S) → two.out ≡ one.out → (if some then two else one).out ≡ one.out
piece_out true one two same = same
piece_out false one two same = refl

made_waiting : {S : Type 0} (asked off : Bool) (handle : ℕ) (station : Station S) → (if asked then (if off then record station { asked = false; link = Some handle; ending = false; joining = [] } else record station { asked = false }) else station).waiting ≡ station.waiting
made_waiting true true handle station = refl
made_waiting true false handle station = refl
made_waiting false off handle station = refl

made_out : {S : Type 0} (asked off : Bool) (handle : ℕ) (station : Station S) → (if asked then (if off then record station { asked = false; link = Some handle; ending = false; joining = [] } else record station { asked = false }) else station).out ≡ station.out
made_out true true handle station = refl
made_out true false handle station = refl
made_out false off handle station = refl

called_apart : (phase : Phase) → calling phase ≡ 1 → is_together phase ≡ false
called_apart Apart is = refl
called_apart Paging is = refl
called_apart Requested is = refl
called_apart Together is = absurd (omega arith)

-- ---- pieces

pub handed_piece : (one : Controller) (piece : Piece) (rest : List Piece) → one.coming ≡ piece ∷ rest → after_handing one ≡ with_coming rest one
handed_piece one piece rest first = ap (λ (l : List Piece). after_first_of l one.owed one) first

-- a host into which a piece comes knows of the link that there is
rests_never : {S G : Type 0} (U : Upper S G) (upper : S) (radio : Radio) (told : ℕ) (up : Bool) (rest : List Tiding) (P : Type 0) → up ≡ true → rest ≡ [] → Led told up rest radio.number (is_together radio.phase) → is_together radio.phase ≡ false → P
rests_never U upper radio told true rest P on none led separate =
    let now : Led told true [] radio.number (is_together radio.phase) = subst (λ (l : List Tiding). Led told true l radio.number (is_together radio.phase)) none led in
    let up = now.1 in absurd cc
rests_never U upper radio told false rest P on none led separate = absurd cc

pub piece_a : {S T G H : Type 0} (U : Upper S G) (V : Upper T H) (w : World S T) (talk_a talk_b : List Talk) (answers : List G) (handle : ℕ) (piece : Piece) (rest : List Piece) → w.radio.a.coming ≡ piece ∷ rest → handle ≡ w.radio.number
    → Kept U V w.radio w.a w.b w.pushes.going
    → Carried U V (heard_more (gives longest_pdu w.a.joining piece)) as_was w (record w { radio = with_controller A (after_handing w.radio.a) w.radio; a = hears_piece U answers handle piece w.a }) talk_a talk_b []
piece_a {S} {T} U V w talk_a talk_b answers handle piece rest first here kept =
    let proceeds = hears_piece_steady U w.radio.number (is_together w.radio.phase) (calling w.radio.phase) w.radio.a w.a talk_a answers piece rest first kept.one in
    let listens = listening U w.radio.a.up w.radio.a.told w.radio.number w.a.upper w.a.pieces w.radio.a.coming piece rest first kept.one.incoming.listens in
    let heard : Station S = hears_piece U answers w.radio.number piece w.a in
    let next : Station S = record w.a { upper = hears_each U answers (gives longest_pdu w.a.joining piece) w.a.upper; joining = holds longest_pdu w.a.joining piece } in
    let waits : count heard.waiting ≡ count w.a.waiting = ap count (piece_waiting (is_handle w.radio.number w.a.link) w.a next refl) in
    let goes : count heard.out ≡ count w.a.out = ap count (piece_out (is_handle w.radio.number w.a.link) w.a next refl) in
    let made_of = proceeds_a U V (heard_more (gives longest_pdu w.a.joining piece)) w talk_a talk_b (with_coming rest w.radio.a) heard proceeds (record {
      long = kept.long;
      one = proceeds.steady;
      other = kept.other;
      calls = λ some. let off = (kept.calls (omega arith)).off in let on = listens.on in absurd cc;
      parts = λ called. let parts = kept.parts called in record { off_a = parts.off_a; off_b = parts.off_b; told_a = parts.told_a; told_b = parts.told_b };
      rests = λ still. let rests = kept.rests still in rests_never U w.a.upper w.radio w.radio.a.told w.radio.a.up (tidings w.radio.a.owed) _ listens.on rests.none_a kept.one.led rests.separate;
    }) in
    subst (λ (c : Controller). Carried U V (heard_more (gives longest_pdu w.a.joining piece)) as_was w (record w { radio = record w.radio { a = c }; a = hears_piece U answers handle piece w.a }) talk_a talk_b []) (sym (handed_piece w.radio.a piece rest first))
    (subst (λ (n : ℕ). Carried U V (heard_more (gives longest_pdu w.a.joining piece)) as_was w (record w { radio = record w.radio { a = with_coming rest w.radio.a }; a = hears_piece U answers n piece w.a }) talk_a talk_b []) (sym here) made_of)

pub piece_b : {S T G H : Type 0} (U : Upper S G) (V : Upper T H) (w : World S T) (talk_a talk_b : List Talk) (answers : List H) (handle : ℕ) (piece : Piece) (rest : List Piece) → w.radio.b.coming ≡ piece ∷ rest → handle ≡ w.radio.number
    → Kept U V w.radio w.a w.b w.pushes.going
    → Carried U V as_was (heard_more (gives longest_pdu w.b.joining piece)) w (record w { radio = with_controller B (after_handing w.radio.b) w.radio; b = hears_piece V answers handle piece w.b }) talk_a talk_b []
piece_b {S} {T} U V w talk_a talk_b answers handle piece rest first here kept =
    let proceeds = hears_piece_steady V w.radio.number (is_together w.radio.phase) 0 w.radio.b w.b talk_b answers piece rest first kept.other in
    let made_of = proceeds_b U V (heard_more (gives longest_pdu w.b.joining piece)) w talk_a talk_b (with_coming rest w.radio.b) (hears_piece V answers w.radio.number piece w.b) proceeds (record {
      long = kept.long;
      one = kept.one;
      other = proceeds.steady;
      calls = kept.calls;
      parts = λ called. let parts = kept.parts called in record { off_a = parts.off_a; off_b = parts.off_b; told_a = parts.told_a; told_b = parts.told_b };
      rests = λ still. let rests = kept.rests still in record { idle = rests.idle; uncalled = rests.uncalled; separate = rests.separate; none_a = rests.none_a; none_b = rests.none_b };
    }) in
    subst (λ (c : Controller). Carried U V as_was (heard_more (gives longest_pdu w.b.joining piece)) w (record w { radio = record w.radio { b = c }; b = hears_piece V answers handle piece w.b }) talk_a talk_b []) (sym (handed_piece w.radio.b piece rest first))
    (subst (λ (n : ℕ). Carried U V as_was (heard_more (gives longest_pdu w.b.joining piece)) w (record w { radio = record w.radio { b = with_coming rest w.radio.b }; b = hears_piece V answers n piece w.b }) talk_a talk_b []) (sym here) made_of)

-- ---- answers

pub handed_answer : (one : Controller) (answer : Answer) (rest : List Answer) → one.coming ≡ [] → one.owed ≡ answer ∷ rest → after_handing one ≡ after_telling answer (with_owed rest one)
handed_answer one answer rest none first = ap (λ (l : List Piece). after_first_of l one.owed one) none ∙ ap (λ (l : List Answer). after_first_of [] l one) first

pub owed_first : (owed rest : List Answer) (answer : Answer) (tiding : Tiding) → owed ≡ answer ∷ rest → tiding_in answer ≡ tiding ∷ [] → tidings owed ≡ tiding ∷ tidings rest
owed_first owed rest answer tiding first is = ap tidings first ∙ ap (λ (l : List Tiding). l ++ tidings rest) is

owed_rest : (owed rest : List Answer) (answer : Answer) → owed ≡ answer ∷ rest → tiding_in answer ≡ [] → tidings rest ≡ tidings owed
owed_rest owed rest answer first is = sym (ap tidings first ∙ ap (λ (l : List Tiding). l ++ tidings rest) is)

-- no page goes on, and no push has ended, while a host is owed what became of a link
never_called : {S G : Type 0} (U : Upper S G) (number : ℕ) (phase : Phase) (extra : ℕ) (one : Controller) (station : Station S) (tiding : Tiding) (rest : List Tiding) (P : Type 0) → tidings one.owed ≡ tiding ∷ rest → calling phase ≡ 1 → one.up ≡ false → one.told ≡ number
    → Led one.told one.up (tidings one.owed) number (is_together phase) → P
never_called U number phase extra one station tiding rest P first called off told led =
    let led_now : Led one.told false (tidings one.owed) number false = subst (λ (b : Bool). Led one.told b (tidings one.owed) number false) off (subst (λ (b : Bool). Led one.told one.up (tidings one.owed) number b) (called_apart phase called) led) in
    let none = led_off one.told (tidings one.owed) number told led_now in absurd cc

-- one that tells of no link, into host a
plain_a_comes :
    {S T G H : Type 0} (U : Upper S G) (V : Upper T H) (w : World S T) (talk_a talk_b : List Talk) (answers : List G) (answer : Answer) (rest : List Answer)
    → w.radio.a.coming ≡ [] → w.radio.a.owed ≡ answer ∷ rest → tiding_in answer ≡ [] → after_telling answer (with_owed rest w.radio.a) ≡ with_owed rest w.radio.a
    → (hears_answer U answers A answer w.a).upper ≡ w.a.upper → (after_answer A answer w.a).waiting ≡ w.a.waiting → (after_answer A answer w.a).out ≡ w.a.out
    → Kept U V w.radio w.a w.b w.pushes.going
    → Kept U V (record w.radio { a = with_owed rest w.radio.a }) (hears_answer U answers A answer w.a) w.b w.pushes.going
plain_a_comes {S} U V w talk_a talk_b answers answer rest none first plain telling upper waits goes kept =
    let proceeds = answer_proceeds U A w.radio.number (is_together w.radio.phase) (calling w.radio.phase) w.radio.a w.a talk_a answers answer rest none first kept.one in
    let waiting = ap count waits in
    let going = ap count goes in
    let same = owed_rest w.radio.a.owed rest answer first plain in
    record {
      long = kept.long;
      one = subst (λ (c : Controller). Steady U w.radio.number (is_together w.radio.phase) (calling w.radio.phase) c (hears_answer U answers A answer w.a)) telling proceeds.steady;
      other = kept.other;
      calls = λ some. subst (λ (s : S). Wants U s w.radio.a.up) (sym upper) (kept.calls (omega arith));
      parts = λ called. let parts = kept.parts called in record { off_a = parts.off_a; off_b = parts.off_b; told_a = parts.told_a; told_b = parts.told_b };
      rests = λ still. let rests = kept.rests still in record { idle = ap U.is_idle upper ∙ rests.idle; uncalled = rests.uncalled; separate = rests.separate; none_a = same ∙ rests.none_a; none_b = rests.none_b };
    }

buffers_waiting : {S : Type 0} (buffers : Bool) (params : List ℕ) (station : Station S) → (if buffers then learns params station else station).waiting ≡ station.waiting
buffers_waiting true params station = piece_waiting (is_none station.link && nat_le 27 (little_number 2 (drop 1 params))) station (record station { size = min (little_number 2 (drop 1 params)) 1021; total = min (little_number 2 (drop 4 params)) 64 }) refl
buffers_waiting false params station = refl

buffers_out : {S : Type 0} (buffers : Bool) (params : List ℕ) (station : Station S) → (if buffers then learns params station else station).out ≡ station.out
buffers_out true params station = piece_out (is_none station.link && nat_le 27 (little_number 2 (drop 1 params))) station (record station { size = min (little_number 2 (drop 1 params)) 1021; total = min (little_number 2 (drop 4 params)) 64 }) refl
buffers_out false params station = refl

comes_kept_a :
    {S T G H : Type 0} (U : Upper S G) (V : Upper T H) (w : World S T) (talk_a talk_b : List Talk) (answers : List G) (answer : Answer) (rest : List Answer) → w.radio.a.coming ≡ [] → w.radio.a.owed ≡ answer ∷ rest → Kept U V w.radio w.a w.b w.pushes.going
    → Kept U V (record w.radio { a = after_telling answer (with_owed rest w.radio.a) }) (hears_answer U answers A answer w.a) w.b w.pushes.going
comes_kept_a U V w talk_a talk_b answers (Returned number params) rest none first kept =
    plain_a_comes U V w talk_a talk_b answers (Returned number params) rest none first refl refl refl
    (buffers_waiting (number == 0x1005) params (record w.a { awaited = answered number w.a.awaited })) (buffers_out (number == 0x1005) params (record w.a { awaited = answered number w.a.awaited })) kept
comes_kept_a U V w talk_a talk_b answers (Stated number) rest none first kept = plain_a_comes U V w talk_a talk_b answers (Stated number) rest none first refl refl refl refl refl kept
comes_kept_a U V w talk_a talk_b answers Called rest none first kept = plain_a_comes U V w talk_a talk_b answers Called rest none first refl refl refl refl refl kept
comes_kept_a U V w talk_a talk_b answers (GivenBack handle n) rest none first kept =
    plain_a_comes U V w talk_a talk_b answers (GivenBack handle n) rest none first refl refl refl
    (piece_waiting (is_handle handle w.a.link && nat_le n w.a.outstanding) w.a (record w.a { outstanding = w.a.outstanding - n }) refl) (piece_out (is_handle handle w.a.link && nat_le n w.a.outstanding) w.a (record w.a { outstanding = w.a.outstanding - n }) refl) kept
comes_kept_a {S} U V w talk_a talk_b answers (LinkMade handle) rest none first kept =
    let proceeds = answer_proceeds U A w.radio.number (is_together w.radio.phase) (calling w.radio.phase) w.radio.a w.a talk_a answers (LinkMade handle) rest none first kept.one in
    let owed = owed_first w.radio.a.owed rest (LinkMade handle) (Came handle) first refl in
    let counted : made (tidings w.radio.a.owed) ≡ 1 + made (tidings rest) = ap made owed in
    let few = kept.one.awaits.few in
    let waits : count (hears_answer U answers A (LinkMade handle) w.a).waiting ≡ count w.a.waiting = ap count (made_waiting w.a.asked (is_none w.a.link) handle w.a) in
    let goes : count (hears_answer U answers A (LinkMade handle) w.a).out ≡ count w.a.out = ap count (made_out w.a.asked (is_none w.a.link) handle w.a) in
    record {
      long = kept.long;
      one = proceeds.steady;
      other = kept.other;
      calls = λ some. absurd (omega arith);
      parts = λ called. let parts = kept.parts called in never_called U w.radio.number w.radio.phase 0 w.radio.a w.a (Came handle) (tidings rest) _ owed called parts.off_a parts.told_a kept.one.led;
      rests = λ still. let none_a = (kept.rests still).none_a in absurd cc;
    }
comes_kept_a {S} U V w talk_a talk_b answers (LinkGone handle reason) rest none first kept =
    let proceeds = answer_proceeds U A w.radio.number (is_together w.radio.phase) (calling w.radio.phase) w.radio.a w.a talk_a answers (LinkGone handle reason) rest none first kept.one in
    let owed = owed_first w.radio.a.owed rest (LinkGone handle reason) (Went handle reason) first refl in
    let led : Led w.radio.a.told w.radio.a.up (Went handle reason ∷ tidings rest) w.radio.number (is_together w.radio.phase) = subst (λ (l : List Tiding). Led w.radio.a.told w.radio.a.up l w.radio.number (is_together w.radio.phase)) owed kept.one.led in
    let up = led.0 in
    let gone : Station S = record w.a { outstanding = 0; link = None; ending = false; joining = []; pieces = [] } in
    let waits : count (hears_answer U answers A (LinkGone handle reason) w.a).waiting ≡ count w.a.waiting = ap count (piece_waiting (is_handle handle w.a.link) w.a gone refl) in
    let goes : count (hears_answer U answers A (LinkGone handle reason) w.a).out ≡ count w.a.out = ap count (piece_out (is_handle handle w.a.link) w.a gone refl) in
    record {
      long = kept.long;
      one = proceeds.steady;
      other = kept.other;
      calls = λ some. let off = (kept.calls (omega arith)).off in absurd cc;
      parts = λ called. let parts = kept.parts called in never_called U w.radio.number w.radio.phase 0 w.radio.a w.a (Went handle reason) (tidings rest) _ owed called parts.off_a parts.told_a kept.one.led;
      rests = λ still. let none_a = (kept.rests still).none_a in absurd cc;
    }

pub answer_a : {S T G H : Type 0} (U : Upper S G) (V : Upper T H) (w : World S T) (talk_a talk_b : List Talk) (answers : List G) (answer : Answer) (rest : List Answer) → w.radio.a.coming ≡ [] → w.radio.a.owed ≡ answer ∷ rest
    → Kept U V w.radio w.a w.b w.pushes.going
    → Carried U V (answer_by answer) as_was w (record w { radio = with_controller A (after_handing w.radio.a) w.radio; a = hears_answer U answers A answer w.a }) talk_a talk_b []
answer_a U V w talk_a talk_b answers answer rest none first kept =
    let proceeds = answer_proceeds U A w.radio.number (is_together w.radio.phase) (calling w.radio.phase) w.radio.a w.a talk_a answers answer rest none first kept.one in
    let made_of = proceeds_a U V (answer_by answer) w talk_a talk_b (after_telling answer (with_owed rest w.radio.a)) (hears_answer U answers A answer w.a) proceeds (comes_kept_a U V w talk_a talk_b answers answer rest none first kept) in
    subst (λ (c : Controller). Carried U V (answer_by answer) as_was w (record w { radio = record w.radio { a = c }; a = hears_answer U answers A answer w.a }) talk_a talk_b []) (sym (handed_answer w.radio.a answer rest none first)) made_of

-- into host b
plain_b_comes :
    {S T G H : Type 0} (U : Upper S G) (V : Upper T H) (w : World S T) (talk_b : List Talk) (answers : List H) (answer : Answer) (rest : List Answer)
    → w.radio.b.coming ≡ [] → w.radio.b.owed ≡ answer ∷ rest → tiding_in answer ≡ [] → after_telling answer (with_owed rest w.radio.b) ≡ with_owed rest w.radio.b → Kept U V w.radio w.a w.b w.pushes.going
    → Kept U V (record w.radio { b = with_owed rest w.radio.b }) w.a (hears_answer V answers B answer w.b) w.pushes.going
plain_b_comes U V w talk_b answers answer rest none first plain telling kept =
    let proceeds = answer_proceeds V B w.radio.number (is_together w.radio.phase) 0 w.radio.b w.b talk_b answers answer rest none first kept.other in
    let same = owed_rest w.radio.b.owed rest answer first plain in
    record {
      long = kept.long;
      one = kept.one;
      other = subst (λ (c : Controller). Steady V w.radio.number (is_together w.radio.phase) 0 c (hears_answer V answers B answer w.b)) telling proceeds.steady;
      calls = kept.calls;
      parts = λ called. let parts = kept.parts called in record { off_a = parts.off_a; off_b = parts.off_b; told_a = parts.told_a; told_b = parts.told_b };
      rests = λ still. let rests = kept.rests still in record { idle = rests.idle; uncalled = rests.uncalled; separate = rests.separate; none_a = rests.none_a; none_b = same ∙ rests.none_b };
    }

link_b_comes :
    {S T G H : Type 0} (U : Upper S G) (V : Upper T H) (w : World S T) (one : Controller) (station : Station T) (tiding : Tiding) (rest : List Tiding) → tidings w.radio.b.owed ≡ tiding ∷ rest
    → Steady V w.radio.number (is_together w.radio.phase) 0 one station → Kept U V w.radio w.a w.b w.pushes.going → Kept U V (record w.radio { b = one }) w.a station w.pushes.going
link_b_comes U V w one station tiding rest owed steady kept = record {
  long = kept.long;
  one = kept.one;
  other = steady;
  calls = kept.calls;
  parts = λ called. let parts = kept.parts called in never_called V w.radio.number w.radio.phase 0 w.radio.b w.b tiding rest _ owed called parts.off_b parts.told_b kept.other.led;
  rests = λ still. let none_b = (kept.rests still).none_b in absurd cc;
}

comes_kept_b :
    {S T G H : Type 0} (U : Upper S G) (V : Upper T H) (w : World S T) (talk_b : List Talk) (answers : List H) (answer : Answer) (rest : List Answer) → w.radio.b.coming ≡ [] → w.radio.b.owed ≡ answer ∷ rest → Kept U V w.radio w.a w.b w.pushes.going
    → Kept U V (record w.radio { b = after_telling answer (with_owed rest w.radio.b) }) w.a (hears_answer V answers B answer w.b) w.pushes.going
comes_kept_b U V w talk_b answers (Returned number params) rest none first kept = plain_b_comes U V w talk_b answers (Returned number params) rest none first refl refl kept
comes_kept_b U V w talk_b answers (Stated number) rest none first kept = plain_b_comes U V w talk_b answers (Stated number) rest none first refl refl kept
comes_kept_b U V w talk_b answers Called rest none first kept = plain_b_comes U V w talk_b answers Called rest none first refl refl kept
comes_kept_b U V w talk_b answers (GivenBack handle n) rest none first kept = plain_b_comes U V w talk_b answers (GivenBack handle n) rest none first refl refl kept
comes_kept_b U V w talk_b answers (LinkMade handle) rest none first kept =
    link_b_comes U V w _ _ (Came handle) (tidings rest) (owed_first w.radio.b.owed rest (LinkMade handle) (Came handle) first refl)
    (answer_proceeds V B w.radio.number (is_together w.radio.phase) 0 w.radio.b w.b talk_b answers (LinkMade handle) rest none first kept.other).steady kept
comes_kept_b U V w talk_b answers (LinkGone handle reason) rest none first kept =
    link_b_comes U V w _ _ (Went handle reason) (tidings rest) (owed_first w.radio.b.owed rest (LinkGone handle reason) (Went handle reason) first refl)
    (answer_proceeds V B w.radio.number (is_together w.radio.phase) 0 w.radio.b w.b talk_b answers (LinkGone handle reason) rest none first kept.other).steady kept

pub answer_b : {S T G H : Type 0} (U : Upper S G) (V : Upper T H) (w : World S T) (talk_a talk_b : List Talk) (answers : List H) (answer : Answer) (rest : List Answer) → w.radio.b.coming ≡ [] → w.radio.b.owed ≡ answer ∷ rest
    → Kept U V w.radio w.a w.b w.pushes.going
    → Carried U V as_was (answer_by answer) w (record w { radio = with_controller B (after_handing w.radio.b) w.radio; b = hears_answer V answers B answer w.b }) talk_a talk_b []
answer_b U V w talk_a talk_b answers answer rest none first kept =
    let proceeds = answer_proceeds V B w.radio.number (is_together w.radio.phase) 0 w.radio.b w.b talk_b answers answer rest none first kept.other in
    let made_of = proceeds_b U V (answer_by answer) w talk_a talk_b (after_telling answer (with_owed rest w.radio.b)) (hears_answer V answers B answer w.b) proceeds (comes_kept_b U V w talk_b answers answer rest none first kept) in
    subst (λ (c : Controller). Carried U V as_was (answer_by answer) w (record w { radio = record w.radio { b = c }; b = hears_answer V answers B answer w.b }) talk_a talk_b []) (sym (handed_answer w.radio.b answer rest none first)) made_of
