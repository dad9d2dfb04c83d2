-- Runs of machines that cannot be told apart.
use Rattle.std.proofs.Common.{◌≡◌, ℕ, ◌-◌, ◌==◌, ◌&&◌, ◌||◌, Bool, true, false, List, [], ◌∷◌, ◌++◌, drop, Option, Some, None, is_none, nat_le, min, refl, sym, ap, ap₂, subst, ◌∙◌, if◌then◌else◌}
use Rattle.run_laws.specs.push_terms.specs.declared.word.Side.{Side}
use Rattle.run_laws.specs.push_terms.specs.declared.word.Side.TheVariants.{A, B}
use Rattle.run_laws.specs.push_terms.specs.declared.word.Way.TheVariants.{Ab, Ba}
use Rattle.run_laws.specs.acl_fragments.specs.Answers.{Answer as Joined, Pdu, answer as joined_by}
use Rattle.run_laws.specs.acl_fragments.specs.Pieces.{Piece, starts, channel_of}
use Rattle.byteorder.specs.Endian.{little_number}
use Rattle.run_laws.specs.radio_model.specs.declared.deed.Deed.{Deed}
use Rattle.run_laws.specs.radio_model.specs.declared.deed.Deed.TheVariants.{Nothing, Meets, Fires, FiresBoth, Breaks, Cancels}
use Rattle.run_laws.specs.radio_model.specs.Controllers.{Controller, Answer, Returned, Stated, Called, LinkMade, LinkGone, GivenBack, after_handing}
use Rattle.run_laws.specs.radio_model.specs.Radio.{with_controller, after_meeting, found, is_together}
use Rattle.run_laws.specs.world_model.specs.Machines.{LinkEvent, News, Linked, Heard, TimerFired, Cancelled, Opening, Upper}
use Rattle.run_laws.specs.world_model.specs.Pushes.{Pushes}
use Rattle.run_laws.specs.world_model.specs.Turns.{IsCalm, FindsNothing}
use Rattle.run_laws.specs.world_model.specs.Stations.{Accept, Station, longest_pdu, Effort, Taking, Putting, Asking, Leaving, Commanding, MakesEffort, whole_in, holds, hears_each, is_handle, hears_piece, answered, learns, may_accept, after_answer, event_in, upper_told, hears_answer, told}
use Rattle.run_laws.specs.world_model.specs.Worlds.{World, Happening, Tries, Departure, GivingBack, Piecemeal, Answering, Turns, Misses, Opens, Closes, IsStill, IsAtRest, fired, checks, Acts, Does, Runs}
use Rattle.run_laws.specs.Embedding.{station_as}
use Rattle.alike_laws.specs.Twins.{world_with, WorldsAlike}

-- Where the relation holds both machines say and tell the same, and it holds again after what they hear and say, whatever the ports of the
-- one answer, and for some answers of those of the other.
pub record AreAlike {S T G H : Type 0} (R : S → T → Type 0) (U : Upper S G) (V : Upper T H) : Type 0 where
  pub hear : (answers : List G) (news : News) (s : S) (t : T) → R s t → (others : List H) × R (U.hear answers news s) (V.hear others news t)
  pub says : (s : S) (t : T) → R s t → (pdu : List ℕ) (after : S) → U.next s ≡ Some (pdu, after) → (now : T) × R after now × (V.next t ≡ Some (pdu, now))
  pub silent : (s : S) (t : T) → R s t → U.next s ≡ None → V.next t ≡ None
  pub wants_link : (s : S) (t : T) → R s t → V.wants_link t ≡ U.wants_link s
  pub leaves_link : (s : S) (t : T) → R s t → V.leaves_link t ≡ U.leaves_link s
  pub is_idle : (s : S) (t : T) → R s t → V.is_idle t ≡ U.is_idle s
  pub outcome : (s : S) (t : T) → R s t → V.outcome t ≡ U.outcome s
  pub armed : (s : S) (t : T) → R s t → V.armed t ≡ U.armed s
  pub may_cancel : (s : S) (t : T) → R s t → V.may_cancel t ≡ U.may_cancel s
  pub has_check : (s : S) (t : T) (own : ℕ) → R s t → V.has_check t own ≡ U.has_check s own

-- a host with another machine in it
abbrev with : {S S' : Type 0} → S' → Station S → Station S'
with {S} x station = station_as (λ (s : S). x) station

-- ---- what a host hears of its controller, but for its machine

if_with : {S S' : Type 0} (x : S') (test : Bool) (one two : Station S) → (if test then with x one else with x two) ≡ with x (if test then one else two)
if_with x true one two = refl
if_with x false one two = refl

answer_with : {S S' : Type 0} (x : S') (side : Side) (answer : Answer) (old : Station S) → after_answer side answer (with x old) ≡ with x (after_answer side answer old)
answer_with {S = S} {S' = S'} x side (Returned number params) old =
    let now : Station S = record old { awaited = answered number old.awaited } in
    let learnt : Station S = record now { size = min (little_number 2 (drop 1 params)) 1021; total = min (little_number 2 (drop 4 params)) 64 } in
    ap (λ (one : Station S'). if number == 0x1005 then one else with x now) (if_with x (is_none now.link && nat_le 27 (little_number 2 (drop 1 params))) learnt now)
    ∙ if_with x (number == 0x1005) (learns params now) now
answer_with x side (Stated number) old = refl
answer_with {S = S} x side Called old = let now : Station S = record old { waiting = old.waiting ++ Accept ∷ [] } in if_with x (may_accept side old) now old
answer_with {S = S} {S' = S'} x side (LinkMade handle) old =
    let made : Station S = record old { asked = false; link = Some handle; ending = false; joining = [] } in
    let late : Station S = record old { asked = false } in
    ap (λ (one : Station S'). if old.asked then one else with x old) (if_with x (is_none old.link) made late) ∙ if_with x old.asked (if is_none old.link then made else late) old
answer_with {S = S} x side (LinkGone handle reason) old =
    let gone : Station S = record old { outstanding = 0; link = None; ending = false; joining = []; pieces = [] } in if_with x (is_handle handle old.link) gone old
answer_with {S = S} x side (GivenBack handle count) old =
    let now : Station S = record old { outstanding = old.outstanding - count } in if_with x (is_handle handle old.link && nat_le count old.outstanding) now old

event_with : {S S' : Type 0} (x : S') (answer : Answer) (old : Station S) → event_in answer (with x old) ≡ event_in answer old
event_with x (Returned number params) old = refl
event_with x (Stated number) old = refl
event_with x Called old = refl
event_with x (LinkMade handle) old = refl
event_with x (LinkGone handle reason) old = refl
event_with x (GivenBack handle count) old = refl

-- ---- one host

module _ {S S' G G' : Type 0} (R : S → S' → Type 0) (U : Upper S G) (U' : Upper S' G') (e : AreAlike R U U') where
  -- a machine of the other kind, to which what this station now has is related, and which makes of it that station
  abbrev Goes : Station S → Station S' → Type 0
  Goes new other = (y : S') × R new.upper y × (other ≡ with y new)

  abbrev pub EffortOn : Side → Effort → S' → Station S → Station S → Type 0
  EffortOn side effort x old new = (y : S') × R new.upper y × MakesEffort U' side effort (with x old) (with y new)

  pub effort_on : (side : Side) (effort : Effort) (x : S') (old new : Station S) → R old.upper x → MakesEffort U side effort old new → EffortOn side effort x old new
  effort_on side Taking x old new r t =
      let (y, q, next) = e.says old.upper x r t.pdu t.after t.next in
      rw t.new_is (y, q, record { handle = t.handle; link = t.link; none_waits = t.none_waits; free = t.free; pdu = t.pdu; after = y; next = next; new_is = refl })
  effort_on side Putting x old new r t = rw t.new_is (x, r, record { handle = t.handle; link = t.link; free = t.free; piece = t.piece; rest = t.rest; first = t.first; new_is = refl })
  effort_on A Asking x old new r t = rw t.new_is (x, r, record { wants = e.wants_link old.upper x r ∙ t.wants; off = t.off; unasked = t.unasked; none_waits = t.none_waits; new_is = refl })
  effort_on B Asking x old new r t = absurd t
  effort_on side Leaving x old new r t =
      rw t.new_is (
        x,
        r,
        record {
          handle = t.handle;
          link = t.link;
          none_waits = t.none_waits;
          none_next = e.silent old.upper x r t.none_next;
          leaves = e.leaves_link old.upper x r ∙ t.leaves;
          unended = t.unended;
          none_ends = t.none_ends;
          new_is = refl;
        },
      )
  effort_on side Commanding x old new r t = rw t.new_is (x, r, record { order = t.order; rest = t.rest; first = t.first; none_awaited = t.none_awaited; new_is = refl })

  -- ---- what it hears

  -- the same with some answers of its own ports
  abbrev GoesBy : Station S → (List G' → Station S') → Type 0
  GoesBy new other = (others : List G') × Goes new (other others)

  pub told_on : (answers : List G) (news : News) (x : S') (old : Station S) → R old.upper x → GoesBy (told U answers news old) (λ others. told U' others news (with x old))
  told_on answers news x old r = let (others, now) = e.hear answers news old.upper x r in (others, (U'.hear others news x, now, refl))

  -- a piece completes one PDU at most
  each_on : (answers : List G) (joined : Joined) (x : S') (s : S) → R s x → (others : List G') × R (hears_each U answers (whole_in joined) s) (hears_each U' others (whole_in joined) x)
  each_on answers (Pdu channel octets) x s r = e.hear answers (Heard octets) s x r
  each_on answers joined x s r = ([], r)

  piece_if : (test : Bool) (answers : List G) (joined : Joined) (joining : List ℕ) (x : S') (old : Station S) → R old.upper x
      → (let now : Station S = record old { upper = hears_each U answers (whole_in joined) old.upper; joining = joining } in
      GoesBy (if test then now else old)
      (λ others. let heard : Station S' = record (with x old) { upper = hears_each U' others (whole_in joined) x; joining = joining } in if test then heard else with x old))
  piece_if true answers joined joining x old r = let (others, now) = each_on answers joined x old.upper r in (others, (hears_each U' others (whole_in joined) x, now, refl))
  piece_if false answers joined joining x old r = ([], (x, r, refl))

  pub piece_on : (answers : List G) (handle : ℕ) (piece : Piece) (x : S') (old : Station S) → R old.upper x → GoesBy (hears_piece U answers handle piece old) (λ others. hears_piece U' others handle piece (with x old))
  piece_on answers handle piece x old r = piece_if (is_handle handle old.link) answers (joined_by longest_pdu old.joining (starts piece.boundary) piece.octets) (holds longest_pdu old.joining piece) x old r

  upper_on : (answers : List G) (event : Option LinkEvent) (x : S') (s : S) → R s x → (others : List G') × R (upper_told U answers event s) (upper_told U' others event x)
  upper_on answers None x s r = ([], r)
  upper_on answers (Some event) x s r = e.hear answers (Linked event) s x r

  pub hears_on : (answers : List G) (side : Side) (answer : Answer) (x : S') (old : Station S) → R old.upper x → GoesBy (hears_answer U answers side answer old) (λ others. hears_answer U' others side answer (with x old))
  hears_on answers side answer x old r =
      let (others, now) = upper_on answers (event_in answer old) x old.upper r in (
        others,
        (
          upper_told U' others (event_in answer old) x,
          now,
          ap₂ (λ (one : Station S') (event : Option LinkEvent). let after : Station S' = record one { upper = upper_told U' others event x } in after) (answer_with x side answer old) (event_with x answer old),
        ),
      )

  fired_if : (test : Bool) (answers : List G) (x : S') (old : Station S) → R old.upper x → GoesBy (if test then told U answers TimerFired old else old) (λ others. if test then told U' others TimerFired (with x old) else with x old)
  fired_if true answers x old r = told_on answers TimerFired x old r
  fired_if false answers x old r = ([], (x, r, refl))

  pub fired_on : (answers : List G) (x : S') (old : Station S) → R old.upper x → GoesBy (fired U answers old) (λ others. fired U' others (with x old))
  fired_on answers x old r =
      rw (e.armed old.upper x r) (fired_if (U.armed old.upper) answers x old r)

  pub checks_on : (frames : List (List ℕ)) (x : S') (old : Station S) → R old.upper x → checks U' (with x old) frames ≡ checks U old frames
  checks_on [] x old r = refl
  checks_on (frame ∷ rest) x old r = e.has_check old.upper x (channel_of frame) r

  pub still_on : (one : Controller) (x : S') (old : Station S) → R old.upper x → IsStill U one old → IsStill U' one (with x old)
  still_on one x old r still = record {
    none_waits = still.none_waits;
    none_goes = still.none_goes;
    none_out = still.none_out;
    unasked = still.unasked;
    none_next = λ handle is. e.silent old.upper x r (still.none_next handle is);
    none_comes = still.none_comes;
    none_owed = still.none_owed;
    returned = still.returned;
  }

-- ---- both hosts

module _ {S S' T T' G G' H H' : Type 0} (R : S → S' → Type 0) (Q : T → T' → Type 0) (U : Upper S G) (U' : Upper S' G') (V : Upper T H) (V' : Upper T' H') (e : AreAlike R U U') (f : AreAlike Q V V') where
  calm_on : (link : Bool) (pushes : Pushes) (s : S) (t : T) (x : S') (y : T') → R s x → Q t y → IsCalm U V link pushes s t → IsCalm U' V' link pushes x y
  calm_on link pushes s t x y r q calm = record {
    no_rise = λ off going. e.wants_link s x r ∙ calm.no_rise off going;
    no_fall_a = λ up. e.leaves_link s x r ∙ calm.no_fall_a up;
    no_fall_b = λ up. f.leaves_link t y q ∙ calm.no_fall_b up;
    no_begin = λ none idle. calm.no_begin none (sym (e.is_idle s x r) ∙ idle);
    no_end = λ off going idle. e.outcome s x r ∙ calm.no_end off going (sym (e.is_idle s x r) ∙ idle);
  }

  rest_with : (w : World S T) (x : S') (y : T') → R w.a.upper x → Q w.b.upper y → IsAtRest U V w → IsAtRest U' V' (world_with x y w)
  rest_with w x y r q rest = record {
    still_a = still_on R U U' e w.radio.a x w.a r rest.still_a;
    still_b = still_on Q V V' f w.radio.b y w.b q rest.still_b;
    paged = rest.paged;
    calm = calm_on (is_together w.radio.phase) w.pushes w.a.upper w.b.upper x y r q rest.calm;
  }

  pub rest_on : (w : World S T) (w' : World S' T') → WorldsAlike R Q w w' → IsAtRest U V w → IsAtRest U' V' w'
  rest_on w w' alike rest = subst (λ (v : World S' T'). IsAtRest U' V' v) (sym alike.same) (rest_with w w'.a.upper w'.b.upper alike.a alike.b rest)

  finds_on : (deed : Deed) (pushes : Pushes) (s : S) (t : T) (x : S') (y : T') → R s x → Q t y → FindsNothing U V deed pushes s t → FindsNothing U' V' deed pushes x y
  finds_on Nothing pushes s t x y r q finds = finds
  finds_on (Meets way fate) pushes s t x y r q finds = absurd finds
  finds_on (Fires A) pushes s t x y r q finds = e.armed s x r ∙ finds
  finds_on (Fires B) pushes s t x y r q finds = f.armed t y q ∙ finds
  finds_on FiresBoth pushes s t x y r q finds = ap₂ (λ (m n : Bool). m || n) (e.armed s x r) (f.armed t y q) ∙ finds
  finds_on Breaks pushes s t x y r q finds = absurd finds
  finds_on Cancels pushes s t x y r q finds = ap (λ (m : Bool). pushes.going && m) (e.may_cancel s x r) ∙ finds

  -- ---- what happens

  -- the other world, where this one leads to another
  abbrev Leads : (World S' T' → Type 0) → World S T → Type 0
  Leads Comes new = (x : S') × (y : T') × R new.a.upper x × Q new.b.upper y × Comes (world_with x y new)

  abbrev ActsOn : Deed → S' → T' → World S T → World S T → Type 0
  ActsOn deed x y old new = Leads (Acts U' V' deed (world_with x y old)) new

  acts_on : (deed : Deed) (x : S') (y : T') (old new : World S T) → R old.a.upper x → Q old.b.upper y → Acts U V deed old new → ActsOn deed x y old new
  acts_on Nothing x y old new r q acts = absurd acts
  acts_on (Meets Ab fate) x y old new r q acts =
      rw acts (x, y, r, q, ap (λ (test : Bool). let one : World S' T' = record (world_with x y old) { radio = after_meeting Ab fate test old.radio.a.waiting old.radio } in one) (sym (checks_on Q V V' f old.radio.a.waiting y old.b q)))
  acts_on (Meets Ba fate) x y old new r q acts =
      rw acts (x, y, r, q, ap (λ (test : Bool). let one : World S' T' = record (world_with x y old) { radio = after_meeting Ba fate test old.radio.b.waiting old.radio } in one) (sym (checks_on R U U' e old.radio.b.waiting x old.a r)))
  acts_on (Fires A) x y old new r q (armed, g, same) =
      let (others, now) = e.hear g TimerFired old.a.upper x r in rw same (U'.hear others TimerFired x, y, now, q, (e.armed old.a.upper x r ∙ armed, others, refl))
  acts_on (Fires B) x y old new r q (armed, h, same) =
      let (others, now) = f.hear h TimerFired old.b.upper y q in rw same (x, V'.hear others TimerFired y, r, now, (f.armed old.b.upper y q ∙ armed, others, refl))
  acts_on FiresBoth x y old new r q (armed, g, h, same) =
      let (g', (m, one, is_a)) = fired_on R U U' e g x old.a r in
      let (h', (n, two, is_b)) = fired_on Q V V' f h y old.b q in
      rw same (
        m,
        n,
        one,
        two,
        (
          ap₂ (λ (i j : Bool). i || j) (e.armed old.a.upper x r) (f.armed old.b.upper y q) ∙ armed,
          g',
          h',
          ap₂ (λ (i : Station S') (j : Station T'). let after : World S' T' = record (world_with x y old) { a = i; b = j } in after) (sym is_a) (sym is_b),
        ),
      )
  acts_on Breaks x y old new r q acts = rw acts (x, y, r, q, refl)
  acts_on Cancels x y old new r q (may, g, same) =
      let (others, now) = e.hear g Cancelled old.a.upper x r in
      rw same (U'.hear others Cancelled x, y, now, q, (ap (λ (m : Bool). old.pushes.going && m) (e.may_cancel old.a.upper x r) ∙ may, others, refl))

  abbrev DoesOn : Happening → S' → T' → World S T → World S T → Type 0
  DoesOn happening x y old new = Leads (Does U' V' happening (world_with x y old)) new

  does_on : (happening : Happening) (x : S') (y : T') (old new : World S T) → R old.a.upper x → Q old.b.upper y → Does U V happening old new → DoesOn happening x y old new
  does_on (Tries A effort) x y old new r q (station, makes, same) =
      let (m, one, makes') = effort_on R U U' e A effort x old.a station r makes in rw same (m, y, one, q, (with m station, makes', refl))
  does_on (Tries B effort) x y old new r q (station, makes, same) =
      let (n, two, makes') = effort_on Q V V' f B effort y old.b station q makes in rw same (x, n, r, two, (with n station, makes', refl))
  does_on (Departure A order) x y old new r q (rest, first, same) = rw same (x, y, r, q, (rest, first, refl))
  does_on (Departure B order) x y old new r q (rest, first, same) = rw same (x, y, r, q, (rest, first, refl))
  does_on (GivingBack side) x y old new r q same = rw same (x, y, r, q, refl)
  does_on (Piecemeal A handle piece) x y old new r q (rest, first, number, g, same) =
      let (others, (m, one, is)) = piece_on R U U' e g handle piece x old.a r in
      rw same (m, y, one, q, (rest, first, number, others, ap (λ (i : Station S'). let after : World S' T' = record (world_with x y old) { radio = with_controller A (after_handing old.radio.a) old.radio; a = i } in after) (sym is)))
  does_on (Piecemeal B handle piece) x y old new r q (rest, first, number, h, same) =
      let (others, (n, two, is)) = piece_on Q V V' f h handle piece y old.b q in
      rw same (x, n, r, two, (rest, first, number, others, ap (λ (i : Station T'). let after : World S' T' = record (world_with x y old) { radio = with_controller B (after_handing old.radio.b) old.radio; b = i } in after) (sym is)))
  does_on (Answering A answer) x y old new r q (rest, none, first, g, same) =
      let (others, (m, one, is)) = hears_on R U U' e g A answer x old.a r in
      rw same (m, y, one, q, (rest, none, first, others, ap (λ (i : Station S'). let after : World S' T' = record (world_with x y old) { radio = with_controller A (after_handing old.radio.a) old.radio; a = i } in after) (sym is)))
  does_on (Answering B answer) x y old new r q (rest, none, first, h, same) =
      let (others, (n, two, is)) = hears_on Q V V' f h B answer y old.b q in
      rw same (x, n, r, two, (rest, none, first, others, ap (λ (i : Station T'). let after : World S' T' = record (world_with x y old) { radio = with_controller B (after_handing old.radio.b) old.radio; b = i } in after) (sym is)))
  does_on (Turns ordinal word) x y old new r q (rest, spelled, number, mid, acts, same) =
      let (m, n, one, two, acts') = acts_on (found word old.radio) x y old mid r q acts in
      rw same (m, n, one, two, (rest_with old x y r q rest, spelled, number, world_with m n mid, acts', refl))
  does_on (Misses word) x y old new r q (rest, finds, same) =
      rw same (x, y, r, q, (rest_with old x y r q rest, finds_on (found word old.radio) old.pushes old.a.upper old.b.upper x y r q finds, refl))
  does_on (Opens push name) x y old new r q (idle, next, number, g, same) =
      let (others, now) = e.hear g (Opening name) old.a.upper x r in
      rw same (U'.hear others (Opening name) x, y, now, q, (e.is_idle old.a.upper x r ∙ idle, next, number, others, refl))
  does_on (Closes push outcome) x y old new r q (going, number, idle, came, apart, owed_a, owed_b, coming_a, coming_b, same) =
      rw same (x, y, r, q, (going, number, e.is_idle old.a.upper x r ∙ idle, e.outcome old.a.upper x r ∙ came, apart, owed_a, owed_b, coming_a, coming_b, refl))

  pub runs_on : (happenings : List Happening) (x : S') (y : T') (old new : World S T) → R old.a.upper x → Q old.b.upper y → Runs U V happenings old new
      → (new' : World S' T') × WorldsAlike R Q new new' × Runs U' V' happenings (world_with x y old) new'
  runs_on [] x y old new r q same = rw same (world_with x y old, record { a = r; b = q; same = refl }, refl)
  runs_on (happening ∷ happenings) x y old new r q (mid, does, runs) =
      let (m, n, one, two, does') = does_on happening x y old mid r q does in
      let (new', alike, runs') = runs_on happenings m n mid new one two runs in
      (new', alike, (world_with m n mid, does', runs'))
