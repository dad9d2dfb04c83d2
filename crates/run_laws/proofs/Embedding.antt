-- Runs of machines that keep more are runs of the machines that they are.
use Rattle.std.proofs.Common.{◌≡◌, ℕ, ◌+◌, ◌-◌, ◌==◌, ◌&&◌, ◌||◌, not, Bool, true, false, List, [], ◌∷◌, ◌++◌, drop, Option, Some, None, is_none, nat_le, min, option_map, refl, sym, ap, ap₂, subst, ◌∙◌, if◌then◌else◌}
use Rattle.station_laws.specs.push_terms.specs.declared.word.Side.{Side}
use Rattle.station_laws.specs.push_terms.specs.declared.word.Side.TheVariants.{A, B}
use Rattle.station_laws.specs.push_terms.specs.declared.word.Way.TheVariants.{Ab, Ba}
use Rattle.station_laws.specs.acl_fragments.specs.Pieces.{Piece, channel_of}
use Rattle.station_laws.specs.acl_fragments.specs.Cuts.{cut}
use Rattle.station_laws.specs.hci_packets.specs.declared.acl.Boundary.TheVariants.{First}
use Rattle.byteorder.specs.Endian.{little_number}
use Rattle.station_laws.specs.radio_model.specs.declared.deed.Deed.{Deed}
use Rattle.station_laws.specs.radio_model.specs.declared.deed.Deed.TheVariants.{Nothing, Meets, Fires, FiresBoth, Breaks, Cancels}
use Rattle.station_laws.specs.radio_model.specs.Controllers.{Controller, Answer, Returned, Stated, Called, LinkMade, LinkGone, GivenBack, after_handing}
use Rattle.station_laws.specs.radio_model.specs.Radio.{Radio, controller, with_controller, after_meeting, after_offer, parted, found, is_together}
use Rattle.station_laws.specs.world_model.specs.Machines.{LinkEvent, Up, Down, News, Linked, Heard, TimerFired, Cancelled, Opening, Upper}
use Rattle.station_laws.specs.world_model.specs.Pushes.{Pushes, one_begun, one_ended}
use Rattle.station_laws.specs.world_model.specs.Turns.{IsCalm, FindsNothing}
use Rattle.station_laws.specs.world_model.specs.Stations.{Order, Page, Accept, End, Data, Station, opcode, asks, longest_pdu, Takes, Puts, Asks, Leaves, Commands, Effort, Taking, Putting, Asking, Leaving, Commanding, MakesEffort, gives, holds, hears_each, is_handle, hears_piece, answered, learns, may_accept, after_answer, event_in, upper_told, hears_answer, told}
use Rattle.station_laws.specs.world_model.specs.Worlds.{World, Happening, Tries, Departure, GivingBack, Piecemeal, Answering, Turns, Misses, Opens, Closes, after_order, IsStill, IsAtRest, fired, checks, Acts, one_turned, Does, Runs}
use Rattle.run_laws.specs.Embedding.{said_as, Embeds, station_as, world_as, RunsAreOfLess, RestIsOfLess}

-- ---- what it says

-- a PDU is said as more where it is said
abbrev Back : {S T : Type 0} → (S → T) → Option (List ℕ × S) → List ℕ → T → Type 0
Back {S} embed said pdu after = (mid : S) × (said ≡ Some (pdu, mid)) × (after ≡ embed mid)

first_of : {T : Type 0} → List ℕ → Option (List ℕ × T) → List ℕ
first_of other None = other
first_of other (Some one) = one.0

second_of : {T : Type 0} → T → Option (List ℕ × T) → T
second_of other None = other
second_of other (Some one) = one.1

said_back : {S T : Type 0} (embed : S → T) (said : Option (List ℕ × S)) (pdu : List ℕ) (after : T) → said_as embed said ≡ Some (pdu, after) → Back embed said pdu after
unfolding first_of second_of
said_back embed None pdu after is = cc
said_back embed (Some one) pdu after is = (one.1, ap (λ (x : List ℕ). Some (x, one.1)) (ap (first_of pdu) is), sym (ap (second_of after) is))

none_back : {S T : Type 0} (embed : S → T) (said : Option (List ℕ × S)) → said_as embed said ≡ None → said ≡ None
none_back embed None is = refl
none_back embed (Some one) is = cc

-- ---- one host

if_as : {S S' : Type 0} (embed : S → S') (test : Bool) (x y : Station S) → (if test then station_as embed x else station_as embed y) ≡ station_as embed (if test then x else y)
if_as embed true x y = refl
if_as embed false x y = refl

answer_as : {S S' : Type 0} (embed : S → S') (side : Side) (answer : Answer) (old : Station S) → after_answer side answer (station_as embed old) ≡ station_as embed (after_answer side answer old)
answer_as {S = S} {S' = S'} embed side (Returned number params) old =
    let now : Station S = record old { awaited = answered number old.awaited } in
    let learnt : Station S = record now { size = min (little_number 2 (drop 1 params)) 1021; total = min (little_number 2 (drop 4 params)) 64 } in
    ap (λ (one : Station S'). if number == 0x1005 then one else station_as embed now) (if_as embed (is_none now.link && nat_le 27 (little_number 2 (drop 1 params))) learnt now)
    ∙ if_as embed (number == 0x1005) (learns params now) now
answer_as embed side (Stated number) old = refl
answer_as {S = S} embed side Called old = let now : Station S = record old { waiting = old.waiting ++ Accept ∷ [] } in if_as embed (may_accept side old) now old
answer_as {S = S} {S' = S'} embed side (LinkMade handle) old =
    let made : Station S = record old { asked = false; link = Some handle; ending = false; joining = [] } in
    let late : Station S = record old { asked = false } in
    ap (λ (one : Station S'). if old.asked then one else station_as embed old) (if_as embed (is_none old.link) made late)
    ∙ if_as embed old.asked (if is_none old.link then made else late) old
answer_as {S = S} embed side (LinkGone handle reason) old =
    let gone : Station S = record old { outstanding = 0; link = None; ending = false; joining = []; pieces = [] } in if_as embed (is_handle handle old.link) gone old
answer_as {S = S} embed side (GivenBack handle count) old =
    let now : Station S = record old { outstanding = old.outstanding - count } in if_as embed (is_handle handle old.link && nat_le count old.outstanding) now old

event_as : {S S' : Type 0} (embed : S → S') (answer : Answer) (old : Station S) → event_in answer (station_as embed old) ≡ event_in answer old
event_as embed (Returned number params) old = refl
event_as embed (Stated number) old = refl
event_as embed Called old = refl
event_as embed (LinkMade handle) old = refl
event_as embed (LinkGone handle reason) old = refl
event_as embed (GivenBack handle count) old = refl

module _ {S S' G : Type 0} (embed : S → S') (U : Upper S G) (U' : Upper S' G) (e : Embeds embed U U') where
  next_back : (s : S) (pdu : List ℕ) (after : S') → U'.next (embed s) ≡ Some (pdu, after) → Back embed (U.next s) pdu after
  next_back s pdu after is = said_back embed (U.next s) pdu after (sym (e.next s) ∙ is)

  none_next_back : (s : S) → U'.next (embed s) ≡ None → U.next s ≡ None
  none_next_back s is = none_back embed (U.next s) (sym (e.next s) ∙ is)

  -- ---- by itself

  abbrev pub EffortBack : Side → Effort → Station S → Station S' → Type 0
  EffortBack side effort old new = (mid : Station S) × (new ≡ station_as embed mid) × MakesEffort U side effort old mid

  pub effort_back : (side : Side) (effort : Effort) (old : Station S) (new : Station S') → MakesEffort U' side effort (station_as embed old) new → EffortBack side effort old new
  effort_back side Taking old new t =
      let back = next_back old.upper t.pdu t.after t.next in
      let mid : Station S = record old { upper = back.0; pieces = cut old.size First t.pdu } in
      let seen = λ (x : S'). let one : Station S' = record (station_as embed old) { upper = x; pieces = cut old.size First t.pdu } in one in
      (mid, t.new_is ∙ ap seen back.2, record { handle = t.handle; link = t.link; none_waits = t.none_waits; free = t.free; pdu = t.pdu; after = back.0; next = back.1; new_is = refl })
  effort_back side Putting old new t =
      let mid : Station S = record old { outstanding = old.outstanding + 1; pieces = t.rest; out = old.out ++ Data t.handle t.piece ∷ [] } in
      (mid, t.new_is, record { handle = t.handle; link = t.link; free = t.free; piece = t.piece; rest = t.rest; first = t.first; new_is = refl })
  effort_back A Asking old new t =
      let mid : Station S = record old { waiting = old.waiting ++ Page ∷ [] } in
      (mid, t.new_is, record { wants = sym (e.wants_link old.upper) ∙ t.wants; off = t.off; unasked = t.unasked; none_waits = t.none_waits; new_is = refl })
  effort_back B Asking old new t = absurd t
  effort_back side Leaving old new t =
      let mid : Station S = record old { waiting = old.waiting ++ End t.handle ∷ []; ending = true } in (
        mid,
        t.new_is,
        record {
          handle = t.handle;
          link = t.link;
          none_waits = t.none_waits;
          none_next = none_next_back old.upper t.none_next;
          leaves = sym (e.leaves_link old.upper) ∙ t.leaves;
          unended = t.unended;
          none_ends = t.none_ends;
          new_is = refl;
        },
      )
  effort_back side Commanding old new t =
      let mid : Station S = record old { waiting = t.rest; awaited = Some (opcode t.order); asked = old.asked || asks t.order; out = old.out ++ t.order ∷ [] } in
      (mid, t.new_is, record { order = t.order; rest = t.rest; first = t.first; none_awaited = t.none_awaited; new_is = refl })

  -- ---- what it hears

  told_as : (answers : List G) (news : News) (old : Station S) → told U' answers news (station_as embed old) ≡ station_as embed (told U answers news old)
  told_as answers news old = ap (λ (x : S'). let one : Station S' = record (station_as embed old) { upper = x } in one) (e.hear answers news old.upper)

  each_as : (answers : List G) (pdus : List (List ℕ)) (s : S) → hears_each U' answers pdus (embed s) ≡ embed (hears_each U answers pdus s)
  each_as answers [] s = refl
  each_as answers (pdu ∷ pdus) s = ap (λ (x : S'). hears_each U' answers pdus x) (e.hear answers (Heard pdu) s) ∙ each_as answers pdus (U.hear answers (Heard pdu) s)

  piece_if : (test : Bool) (answers : List G) (pdus : List (List ℕ)) (joining : List ℕ) (old : Station S)
      → (let heard : Station S' = record (station_as embed old) { upper = hears_each U' answers pdus (embed old.upper); joining = joining } in
      let now : Station S = record old { upper = hears_each U answers pdus old.upper; joining = joining } in
      (if test then heard else station_as embed old) ≡ station_as embed (if test then now else old))
  piece_if true answers pdus joining old = ap (λ (x : S'). let one : Station S' = record (station_as embed old) { upper = x; joining = joining } in one) (each_as answers pdus old.upper)
  piece_if false answers pdus joining old = refl

  piece_as : (answers : List G) (handle : ℕ) (piece : Piece) (old : Station S) → hears_piece U' answers handle piece (station_as embed old) ≡ station_as embed (hears_piece U answers handle piece old)
  piece_as answers handle piece old = piece_if (is_handle handle old.link) answers (gives longest_pdu old.joining piece) (holds longest_pdu old.joining piece) old

  upper_as : (answers : List G) (event : Option LinkEvent) (s : S) → upper_told U' answers event (embed s) ≡ embed (upper_told U answers event s)
  upper_as answers None s = refl
  upper_as answers (Some event) s = e.hear answers (Linked event) s

  hears_as : (answers : List G) (side : Side) (answer : Answer) (old : Station S) → hears_answer U' answers side answer (station_as embed old) ≡ station_as embed (hears_answer U answers side answer old)
  hears_as answers side answer old =
      ap₂ (λ (one : Station S') (x : S'). let after : Station S' = record one { upper = x } in after) (answer_as embed side answer old)
      (ap (λ (event : Option LinkEvent). upper_told U' answers event (embed old.upper)) (event_as embed answer old) ∙ upper_as answers (event_in answer old) old.upper)

  fired_if : (test : Bool) (answers : List G) (old : Station S) → (if test then told U' answers TimerFired (station_as embed old) else station_as embed old) ≡ station_as embed (if test then told U answers TimerFired old else old)
  fired_if true answers old = told_as answers TimerFired old
  fired_if false answers old = refl

  fired_as : (answers : List G) (old : Station S) → fired U' answers (station_as embed old) ≡ station_as embed (fired U answers old)
  fired_as answers old =
      ap (λ (test : Bool). if test then told U' answers TimerFired (station_as embed old) else station_as embed old) (e.armed old.upper) ∙ fired_if (U.armed old.upper) answers old

  checks_as : (frames : List (List ℕ)) (old : Station S) → checks U' (station_as embed old) frames ≡ checks U old frames
  checks_as [] old = refl
  checks_as (frame ∷ rest) old = e.has_check old.upper (channel_of frame)

  still_back : (one : Controller) (old : Station S) → IsStill U' one (station_as embed old) → IsStill U one old
  still_back one old still = record {
    none_waits = still.none_waits;
    none_goes = still.none_goes;
    none_out = still.none_out;
    unasked = still.unasked;
    none_next = λ handle is. none_next_back old.upper (still.none_next handle is);
    none_comes = still.none_comes;
    none_owed = still.none_owed;
    returned = still.returned;
  }

-- ---- both hosts

module _ {S S' T T' G H : Type 0} (embed_a : S → S') (embed_b : T → T') (U : Upper S G) (U' : Upper S' G) (V : Upper T H) (V' : Upper T' H) (e : Embeds embed_a U U') (f : Embeds embed_b V V') where
  calm_back : (link : Bool) (pushes : Pushes) (s : S) (t : T) → IsCalm U' V' link pushes (embed_a s) (embed_b t) → IsCalm U V link pushes s t
  calm_back link pushes s t calm = record {
    no_rise = λ off going. sym (e.wants_link s) ∙ calm.no_rise off going;
    no_fall_a = λ up. sym (e.leaves_link s) ∙ calm.no_fall_a up;
    no_fall_b = λ up. sym (f.leaves_link t) ∙ calm.no_fall_b up;
    no_begin = λ none idle. calm.no_begin none (e.is_idle s ∙ idle);
    no_end = λ off going idle. sym (e.outcome s) ∙ calm.no_end off going (e.is_idle s ∙ idle);
  }

  pub rest_back : (w : World S T) → IsAtRest U' V' (world_as embed_a embed_b w) → IsAtRest U V w
  rest_back w rest = record {
    still_a = still_back embed_a U U' e w.radio.a w.a rest.still_a;
    still_b = still_back embed_b V V' f w.radio.b w.b rest.still_b;
    paged = rest.paged;
    calm = calm_back (is_together w.radio.phase) w.pushes w.a.upper w.b.upper rest.calm;
  }

  finds_back : (deed : Deed) (pushes : Pushes) (s : S) (t : T) → FindsNothing U' V' deed pushes (embed_a s) (embed_b t) → FindsNothing U V deed pushes s t
  finds_back Nothing pushes s t finds = finds
  finds_back (Meets way fate) pushes s t finds = absurd finds
  finds_back (Fires A) pushes s t finds = sym (e.armed s) ∙ finds
  finds_back (Fires B) pushes s t finds = sym (f.armed t) ∙ finds
  finds_back FiresBoth pushes s t finds = sym (ap₂ (λ (x y : Bool). x || y) (e.armed s) (f.armed t)) ∙ finds
  finds_back Breaks pushes s t finds = absurd finds
  finds_back Cancels pushes s t finds = sym (ap (λ (x : Bool). pushes.going && x) (e.may_cancel s)) ∙ finds

  abbrev more : World S T → World S' T'
  more w = world_as embed_a embed_b w

  abbrev ActsBack : Deed → World S T → World S' T' → Type 0
  ActsBack deed old new = (mid : World S T) × (new ≡ more mid) × Acts U V deed old mid

  acts_back : (deed : Deed) (old : World S T) (new : World S' T') → Acts U' V' deed (more old) new → ActsBack deed old new
  acts_back Nothing old new acts = absurd acts
  acts_back (Meets Ab fate) old new acts =
      let mid : World S T = record old { radio = after_meeting Ab fate (checks V old.b old.radio.a.waiting) old.radio.a.waiting old.radio } in
      (mid, acts ∙ ap (λ (test : Bool). let one : World S' T' = record (more old) { radio = after_meeting Ab fate test old.radio.a.waiting old.radio } in one) (checks_as embed_b V V' f old.radio.a.waiting old.b), refl)
  acts_back (Meets Ba fate) old new acts =
      let mid : World S T = record old { radio = after_meeting Ba fate (checks U old.a old.radio.b.waiting) old.radio.b.waiting old.radio } in
      (mid, acts ∙ ap (λ (test : Bool). let one : World S' T' = record (more old) { radio = after_meeting Ba fate test old.radio.b.waiting old.radio } in one) (checks_as embed_a U U' e old.radio.b.waiting old.a), refl)
  acts_back (Fires A) old new acts =
      let g = acts.1 in let mid : World S T = record old { a = told U g TimerFired old.a } in
      (mid, acts.2 ∙ ap (λ (x : Station S'). let one : World S' T' = record (more old) { a = x } in one) (told_as embed_a U U' e g TimerFired old.a), (sym (e.armed old.a.upper) ∙ acts.0, g, refl))
  acts_back (Fires B) old new acts =
      let h = acts.1 in let mid : World S T = record old { b = told V h TimerFired old.b } in
      (mid, acts.2 ∙ ap (λ (x : Station T'). let one : World S' T' = record (more old) { b = x } in one) (told_as embed_b V V' f h TimerFired old.b), (sym (f.armed old.b.upper) ∙ acts.0, h, refl))
  acts_back FiresBoth old new acts =
      let g = acts.1 in let h = acts.2 in let mid : World S T = record old { a = fired U g old.a; b = fired V h old.b } in (
        mid,
        acts.3 ∙ ap₂ (λ (x : Station S') (y : Station T'). let one : World S' T' = record (more old) { a = x; b = y } in one) (fired_as embed_a U U' e g old.a) (fired_as embed_b V V' f h old.b),
        (sym (ap₂ (λ (x y : Bool). x || y) (e.armed old.a.upper) (f.armed old.b.upper)) ∙ acts.0, g, h, refl),
      )
  acts_back Breaks old new acts = let mid : World S T = record old { radio = parted 0x08 0x08 old.radio } in (mid, acts, refl)
  acts_back Cancels old new acts =
      let g = acts.1 in let mid : World S T = record old { a = told U g Cancelled old.a } in (
        mid,
        acts.2 ∙ ap (λ (x : Station S'). let one : World S' T' = record (more old) { a = x } in one) (told_as embed_a U U' e g Cancelled old.a),
        (sym (ap (λ (x : Bool). old.pushes.going && x) (e.may_cancel old.a.upper)) ∙ acts.0, g, refl),
      )

  abbrev DoesBack : Happening → World S T → World S' T' → Type 0
  DoesBack happening old new = (mid : World S T) × (new ≡ more mid) × Does U V happening old mid

  does_back : (happening : Happening) (old : World S T) (new : World S' T') → Does U' V' happening (more old) new → DoesBack happening old new
  does_back (Tries A effort) old new does =
      let back = effort_back embed_a U U' e A effort old.a does.0 does.1 in let mid : World S T = record old { a = back.0 } in
      (mid, does.2 ∙ ap (λ (x : Station S'). let one : World S' T' = record (more old) { a = x } in one) back.1, (back.0, back.2, refl))
  does_back (Tries B effort) old new does =
      let back = effort_back embed_b V V' f B effort old.b does.0 does.1 in let mid : World S T = record old { b = back.0 } in
      (mid, does.2 ∙ ap (λ (x : Station T'). let one : World S' T' = record (more old) { b = x } in one) back.1, (back.0, back.2, refl))
  does_back (Departure A order) old new does =
      let mid : World S T = record old { radio = after_order A order old.radio; a = record (old.a) { out = does.0 } } in (mid, does.2, (does.0, does.1, refl))
  does_back (Departure B order) old new does =
      let mid : World S T = record old { radio = after_order B order old.radio; b = record (old.b) { out = does.0 } } in (mid, does.2, (does.0, does.1, refl))
  does_back (GivingBack side) old new does = let mid : World S T = record old { radio = after_offer side old.radio } in (mid, does, refl)
  does_back (Piecemeal A handle piece) old new does =
      let g = does.3 in let radio = with_controller A (after_handing old.radio.a) old.radio in
      let mid : World S T = record old { radio = radio; a = hears_piece U g handle piece old.a } in (
        mid,
        does.4 ∙ ap (λ (x : Station S'). let one : World S' T' = record (more old) { radio = radio; a = x } in one) (piece_as embed_a U U' e g handle piece old.a),
        (does.0, does.1, does.2, g, refl),
      )
  does_back (Piecemeal B handle piece) old new does =
      let h = does.3 in let radio = with_controller B (after_handing old.radio.b) old.radio in
      let mid : World S T = record old { radio = radio; b = hears_piece V h handle piece old.b } in (
        mid,
        does.4 ∙ ap (λ (x : Station T'). let one : World S' T' = record (more old) { radio = radio; b = x } in one) (piece_as embed_b V V' f h handle piece old.b),
        (does.0, does.1, does.2, h, refl),
      )
  does_back (Answering A answer) old new does =
      let g = does.3 in let radio = with_controller A (after_handing old.radio.a) old.radio in
      let mid : World S T = record old { radio = radio; a = hears_answer U g A answer old.a } in (
        mid,
        does.4 ∙ ap (λ (x : Station S'). let one : World S' T' = record (more old) { radio = radio; a = x } in one) (hears_as embed_a U U' e g A answer old.a),
        (does.0, does.1, does.2, g, refl),
      )
  does_back (Answering B answer) old new does =
      let h = does.3 in let radio = with_controller B (after_handing old.radio.b) old.radio in
      let mid : World S T = record old { radio = radio; b = hears_answer V h B answer old.b } in (
        mid,
        does.4 ∙ ap (λ (x : Station T'). let one : World S' T' = record (more old) { radio = radio; b = x } in one) (hears_as embed_b V V' f h B answer old.b),
        (does.0, does.1, does.2, h, refl),
      )
  does_back (Turns ordinal word) old new does =
      let back = acts_back (found word old.radio) old does.3 does.4 in
      (one_turned back.0, does.5 ∙ ap one_turned back.1, (rest_back old does.0, does.1, does.2, back.0, back.2, refl))
  does_back (Misses word) old new does =
      (one_turned old, does.2, (rest_back old does.0, finds_back (found word old.radio) old.pushes old.a.upper old.b.upper does.1, refl))
  does_back (Opens push name) old new does =
      let g = does.3 in let mid : World S T = record old { pushes = one_begun old.pushes; a = told U g (Opening name) old.a } in (
        mid,
        does.4 ∙ ap (λ (x : Station S'). let one : World S' T' = record (more old) { pushes = one_begun old.pushes; a = x } in one) (told_as embed_a U U' e g (Opening name) old.a),
        (sym (e.is_idle old.a.upper) ∙ does.0, does.1, does.2, g, refl),
      )
  does_back (Closes push outcome) old new does =
      let mid : World S T = record old { pushes = one_ended outcome old.pushes } in (
        mid,
        does.9,
        (
          does.0,
          does.1,
          sym (e.is_idle old.a.upper) ∙ does.2,
          sym (e.outcome old.a.upper) ∙ does.3,
          does.4,
          does.5,
          does.6,
          does.7,
          does.8,
          refl,
        ),
      )

  abbrev RunsBack : List Happening → World S T → World S' T' → Type 0
  RunsBack happenings old new = (mid : World S T) × (new ≡ more mid) × Runs U V happenings old mid

  runs_then : (happenings : List Happening) (old : World S' T') (now : World S T) (new : World S' T') → old ≡ more now → Runs U' V' happenings old new → Runs U' V' happenings (more now) new
  runs_then happenings old now new is runs = subst (λ (w : World S' T'). Runs U' V' happenings w new) is runs

  pub runs_back : (happenings : List Happening) (old : World S T) (new : World S' T') → Runs U' V' happenings (more old) new → RunsBack happenings old new
  runs_back [] old new runs = (old, runs, refl)
  runs_back (happening ∷ happenings) old new runs =
      let back = does_back happening old runs.0 runs.1 in
      let rest = runs_back happenings back.0 new (runs_then happenings runs.0 back.0 new back.1 runs.2) in
      (rest.0, rest.1, (back.0, back.2, rest.2))

pub runs_are_of_less : {S S' T T' G H : Type 0} (embed_a : S → S') (embed_b : T → T') (U : Upper S G) (U' : Upper S' G) (V : Upper T H) (V' : Upper T' H) → RunsAreOfLess embed_a embed_b U U' V V'
runs_are_of_less embed_a embed_b U U' V V' e f happenings old new runs = runs_back embed_a embed_b U U' V V' e f happenings old new runs

pub rest_is_of_less : {S S' T T' G H : Type 0} (embed_a : S → S') (embed_b : T → T') (U : Upper S G) (U' : Upper S' G) (V : Upper T H) (V' : Upper T' H) → RestIsOfLess embed_a embed_b U U' V V'
rest_is_of_less embed_a embed_b U U' V V' e f w rest = rest_back embed_a embed_b U U' V V' e f w rest
