-- Where host b never ends the link, host a is told of no end of it that its peer asked for as its user.
use Rattle.std.proofs.Common.{◌≡◌, ◌+◌, ℕ, List, [], ◌∷◌, ◌++◌, Bool, true, false, eqb, ◌&&◌, Option, Some, None, refl, sym, subst, ◌∙◌, if◌then◌else◌}
use Rattle.std.specs.Prelude.{◌-◌, min, nat_le, nat_lt, drop, is_none}
use Rattle.std.specs.List.{AllByRecursion}
use Rattle.byteorder.specs.Endian.{little_number}
use Rattle.cause_laws.specs.acl_fragments.specs.Pieces.{Piece}
use Rattle.cause_laws.specs.push_terms.specs.declared.word.Side.TheVariants.{A, B}
use Rattle.cause_laws.specs.push_terms.specs.declared.word.Way.TheVariants.{Ab, Ba}
use Rattle.cause_laws.specs.radio_model.specs.declared.deed.Deed.{Deed}
use Rattle.cause_laws.specs.radio_model.specs.declared.deed.Deed.TheVariants.{Nothing, Meets, Fires, FiresBoth, Breaks, Cancels}
use Rattle.cause_laws.specs.radio_model.specs.declared.fate.Fate.{Fate}
use Rattle.cause_laws.specs.radio_model.specs.Controllers.{Answer, Returned, Stated, Called, LinkMade, LinkGone, GivenBack, Controller, owing, gives_back, after_giving_back, after_telling, after_first_of, after_handing}
use Rattle.cause_laws.specs.radio_model.specs.Radio.{Radio, Paging, Requested, is_requested, may_page, is_reached, after_reaching, joined, parted, knows_link, scanning, owes, after_taking, with_piece, after_meeting, found}
use Rattle.cause_laws.specs.world_model.specs.Machines.{TimerFired, Upper}
use Rattle.cause_laws.specs.world_model.specs.Stations.{Order, Reset, ReadBuffers, ReadAddress, Scan, Page, Accept, End, Data, is_end, Station, Effort, Taking, Putting, Asking, Leaving, Commanding, MakesEffort, longest_pdu, gives, holds, hears_each, hears_piece, is_handle, may_accept, learns, answered, after_answer, hears_answer, told}
use Rattle.cause_laws.specs.world_model.specs.Worlds.{World, piece_on, after_order, Happening, Tries, Departure, GivingBack, Piecemeal, Answering, Turns, Misses, Opens, Closes, fired, checks, Acts, Does}

-- ---- lists

both_all : {X : Type 0} (P : X → Type 0) (xs ys : List X) → AllByRecursion P xs → AllByRecursion P ys → AllByRecursion P (xs ++ ys)
both_all P [] ys one two = two
both_all P (x ∷ xs) ys one two = (one.0, both_all P xs ys one.1 two)

-- ---- what host a is owed

-- not that its peer ended the link as its user
abbrev pub IsNotByPeer : Answer → Type 0
IsNotByPeer (LinkGone handle reason) = eqb reason 0x13 ≡ false
IsNotByPeer answer = Unit {0}

abbrev OwesWell : Controller → Type 0
OwesWell one = AllByRecursion IsNotByPeer one.owed

owes_more : (more : List Answer) (one : Controller) → AllByRecursion IsNotByPeer more → OwesWell one → OwesWell (owing more one)
owes_more more one new all = both_all IsNotByPeer one.owed more all new

given_back : (handle count : ℕ) → AllByRecursion IsNotByPeer (gives_back handle count)
given_back handle count = by (nat_lt 0 count)
  where
    by : (some : Bool) → AllByRecursion IsNotByPeer (if some then GivenBack handle count ∷ [] else [])
    by true = (tt, tt)
    by false = tt

gives_well : (one : Controller) → OwesWell one → OwesWell (after_giving_back one)
gives_well one all = both_all IsNotByPeer one.owed (gives_back one.told one.taken) all (given_back one.told one.taken)

pick : (P : Radio → Type 0) (test : Bool) (one other : Radio) → P one → P other → P (if test then one else other)
pick P true one other x y = x
pick P false one other x y = y

abbrev pub OwesA : Radio → Type 0
OwesA radio = OwesWell radio.a

reaches_well : (radio : Radio) → OwesA radio → OwesA (after_reaching radio)
reaches_well radio all = by (is_reached radio)
  where
    by : (reached : Bool) → OwesA (if reached then (let next : Radio = record radio { b = owing (Called ∷ []) radio.b; phase = Requested } in next) else radio)
    by true = all
    by false = all

piece_owed : (flies : Bool) (piece : Option Piece) (one : Controller) → OwesWell one → OwesWell (with_piece flies piece one)
piece_owed flies None one all = all
piece_owed flies (Some piece) one all = all

takes_well : (handle : ℕ) (one : Controller) → OwesWell one → OwesWell (after_taking handle one)
takes_well handle one all = by (eqb handle one.told && nat_le 1 one.told) (eqb one.taken 65535)
  where
    by : (here full : Bool) → OwesWell (if here then (if full then (let next : Controller = record (after_giving_back one) { taken = 1 } in next) else (let next : Controller = record one { taken = one.taken + 1 } in next)) else one)
    by true true = gives_well one all
    by true false = all
    by false full = all

-- ---- what either host orders

orders_a : (order : Order) (radio : Radio) → OwesA radio → OwesA (after_order A order radio)
orders_a Reset radio all = owes_more _ radio.a (tt, tt) all
orders_a ReadBuffers radio all = owes_more _ radio.a (tt, tt) all
orders_a ReadAddress radio all = owes_more _ radio.a (tt, tt) all
orders_a Scan radio all = reaches_well (owes A (Returned 0x0C1A (0 ∷ []) ∷ []) (scanning A 0x03 radio)) (owes_more _ radio.a (tt, tt) all)
orders_a Page radio all =
    let one : Radio = owes A (Stated 0x0405 ∷ []) radio in
    let paging : Radio = record one { phase = Paging } in
    let now : OwesA one = owes_more _ radio.a (tt, tt) all in
    pick OwesA (may_page one) (after_reaching paging) one (reaches_well paging now) now
orders_a Accept radio all = owes_more _ radio.a (tt, tt) all
orders_a (End handle) radio all =
    let one : Radio = owes A (Stated 0x0406 ∷ []) radio in
    let now : OwesA one = owes_more _ radio.a (tt, tt) all in
    pick OwesA (knows_link A one && eqb handle one.number) (parted 0x16 0x13 one) one (both_all IsNotByPeer one.a.owed (LinkGone one.number 0x16 ∷ []) now (refl, tt)) now
orders_a (Data handle piece) radio all = takes_well handle (with_piece (knows_link A radio) (piece_on radio.a handle piece) radio.a) (piece_owed (knows_link A radio) (piece_on radio.a handle piece) radio.a all)

-- host b does not end the link
orders_b : (order : Order) (radio : Radio) → is_end order ≡ false → OwesA radio → OwesA (after_order B order radio)
orders_b Reset radio none all = all
orders_b ReadBuffers radio none all = all
orders_b ReadAddress radio none all = all
orders_b Scan radio none all = reaches_well (owes B (Returned 0x0C1A (0 ∷ []) ∷ []) (scanning B 0x03 radio)) all
orders_b Page radio none all = all
orders_b Accept radio none all =
    let one : Radio = owes B (Stated 0x0409 ∷ []) radio in pick OwesA (is_requested one.phase) (joined one) one (both_all IsNotByPeer one.a.owed (LinkMade (one.number + 1) ∷ []) all (tt, tt)) all
orders_b (End handle) radio none all = cc
orders_b (Data handle piece) radio none all = all

-- ---- what comes in

hands_well : (one : Controller) → OwesWell one → OwesWell (after_handing one)
hands_well one all = by one.coming one.owed all
  where
    tells : (answer : Answer) (rest : List Answer) → AllByRecursion IsNotByPeer rest → OwesWell (after_telling answer (record one { owed = rest }))
    tells (LinkMade handle) rest so = so
    tells (LinkGone handle reason) rest so = so
    tells (Returned opcode params) rest so = so
    tells (Stated opcode) rest so = so
    tells Called rest so = so
    tells (GivenBack handle count) rest so = so

    by : (coming : List Piece) (owed : List Answer) → AllByRecursion IsNotByPeer owed → OwesWell (after_first_of coming owed one)
    by (piece ∷ coming) owed so = all
    by [] (answer ∷ owed) so = tells answer owed so.1
    by [] [] so = all

-- ---- what host b puts out

abbrev NoEnds : List Order → Type 0
NoEnds orders = AllByRecursion (λ order. is_end order ≡ false) orders

pub record KeepsOn {T : Type 0} (station : Station T) : Type 0 where
  pub waiting : NoEnds station.waiting
  pub out : NoEnds station.out

module _ {T H : Type 0} (V : Upper T H) where
  effort_on : (effort : Effort) (old new : Station T) → MakesEffort V B effort old new → V.leaves_link old.upper ≡ false → KeepsOn old → KeepsOn new
  effort_on Taking old new does stays on = subst KeepsOn (sym does.new_is) (record { waiting = on.waiting; out = on.out })
  effort_on Putting old new does stays on = subst KeepsOn (sym does.new_is) (record { waiting = on.waiting; out = both_all (λ order. is_end order ≡ false) old.out _ on.out (refl, tt) })
  effort_on Asking old new does stays on = absurd does
  effort_on Leaving old new does stays on = let never : false ≡ true = sym stays ∙ does.leaves in absurd cc
  effort_on Commanding old new does stays on =
      let all : NoEnds (does.order ∷ does.rest) = subst NoEnds does.first on.waiting in
      subst KeepsOn (sym does.new_is) (record { waiting = all.1; out = both_all (λ order. is_end order ≡ false) old.out (does.order ∷ []) on.out (all.0, tt) })

  answer_on : (answer : Answer) (station : Station T) → KeepsOn station → KeepsOn (after_answer B answer station)
  answer_on (Returned number params) station on = by (eqb number 0x1005)
    where
      next : Station T
      next = record station { awaited = answered number station.awaited }

      learnt : (test : Bool) → KeepsOn (if test then (let after : Station T = record next { size = min (little_number 2 (drop 1 params)) 1021; total = min (little_number 2 (drop 4 params)) 64 } in after) else next)
      learnt true = record { waiting = on.waiting; out = on.out }
      learnt false = record { waiting = on.waiting; out = on.out }

      by : (test : Bool) → KeepsOn (if test then learns params next else next)
      by true = learnt (is_none station.link && nat_le 27 (little_number 2 (drop 1 params)))
      by false = record { waiting = on.waiting; out = on.out }
  answer_on (Stated number) station on = record { waiting = on.waiting; out = on.out }
  answer_on Called station on = by (may_accept B station)
    where
      by : (may : Bool) → KeepsOn (if may then (let after : Station T = record station { waiting = station.waiting ++ Accept ∷ [] } in after) else station)
      by true = record { waiting = both_all (λ order. is_end order ≡ false) station.waiting (Accept ∷ []) on.waiting (refl, tt); out = on.out }
      by false = on
  answer_on (LinkMade handle) station on = by station.asked (is_none station.link)
    where
      by : (asked none : Bool) → KeepsOn (if asked then (if none then (let after : Station T = record station { asked = false; link = Some handle; ending = false; joining = [] } in after) else (let after : Station T = record station { asked = false } in after)) else station)
      by true true = record { waiting = on.waiting; out = on.out }
      by true false = record { waiting = on.waiting; out = on.out }
      by false none = on
  answer_on (LinkGone handle reason) station on = by (is_handle handle station.link)
    where
      by : (here : Bool) → KeepsOn (if here then (let after : Station T = record station { outstanding = 0; link = None; ending = false; joining = []; pieces = [] } in after) else station)
      by true = record { waiting = on.waiting; out = on.out }
      by false = on
  answer_on (GivenBack handle count) station on = by (is_handle handle station.link && nat_le count station.outstanding)
    where
      by : (here : Bool) → KeepsOn (if here then (let after : Station T = record station { outstanding = station.outstanding - count } in after) else station)
      by true = record { waiting = on.waiting; out = on.out }
      by false = on

  hears_on : (h : List H) (answer : Answer) (station : Station T) → KeepsOn station → KeepsOn (hears_answer V h B answer station)
  hears_on h answer station on = let after = answer_on answer station on in record { waiting = after.waiting; out = after.out }

  piece_on_b : (h : List H) (handle : ℕ) (piece : Piece) (station : Station T) → KeepsOn station → KeepsOn (hears_piece V h handle piece station)
  piece_on_b h handle piece station on = by (is_handle handle station.link)
    where
      by : (here : Bool) → KeepsOn (if here then (let heard : Station T = record station { upper = hears_each V h (gives longest_pdu station.joining piece) station.upper; joining = holds longest_pdu station.joining piece } in heard) else station)
      by true = record { waiting = on.waiting; out = on.out }
      by false = on

  fired_on : (h : List H) (station : Station T) → KeepsOn station → KeepsOn (fired V h station)
  fired_on h station on = by (V.armed station.upper)
    where
      by : (armed : Bool) → KeepsOn (if armed then told V h TimerFired station else station)
      by true = record { waiting = on.waiting; out = on.out }
      by false = on

  -- ---- whatever happens

  pub record Calm {S : Type 0} (w : World S T) : Type 0 where
    pub b : KeepsOn w.b
    pub owed : OwesA w.radio

  module _ {S G : Type 0} (U : Upper S G) where
    meets_well : (checked : Bool) (queue : List (List ℕ)) (fate : Fate) (radio : Radio) → OwesA radio → OwesA (after_meeting Ab fate checked queue radio)
    meets_well checked [] fate radio all = all
    meets_well checked (frame ∷ rest) fate radio all = all

    meets_back : (checked : Bool) (queue : List (List ℕ)) (fate : Fate) (radio : Radio) → OwesA radio → OwesA (after_meeting Ba fate checked queue radio)
    meets_back checked [] fate radio all = all
    meets_back checked (frame ∷ rest) fate radio all = all

    acts_calm : (deed : Deed) (old new : World S T) → Acts U V deed old new → Calm old → Calm new
    acts_calm Nothing old new acts calm = absurd acts
    acts_calm (Meets Ab fate) old new acts calm = subst Calm (sym acts) (record { b = calm.b; owed = meets_well (checks V old.b old.radio.a.waiting) old.radio.a.waiting fate old.radio calm.owed })
    acts_calm (Meets Ba fate) old new acts calm = subst Calm (sym acts) (record { b = calm.b; owed = meets_back (checks U old.a old.radio.b.waiting) old.radio.b.waiting fate old.radio calm.owed })
    acts_calm (Fires A) old new (armed, g, same) calm = subst Calm (sym same) (record { b = calm.b; owed = calm.owed })
    acts_calm (Fires B) old new (armed, h, same) calm = subst Calm (sym same) (record { b = record { waiting = calm.b.waiting; out = calm.b.out }; owed = calm.owed })
    acts_calm FiresBoth old new (armed, g, h, same) calm = subst Calm (sym same) (record { b = fired_on h old.b calm.b; owed = calm.owed })
    acts_calm Breaks old new same calm = subst Calm (sym same) (record { b = calm.b; owed = both_all IsNotByPeer old.radio.a.owed (LinkGone old.radio.number 0x08 ∷ []) calm.owed (refl, tt) })
    acts_calm Cancels old new (may, g, same) calm = subst Calm (sym same) (record { b = calm.b; owed = calm.owed })

    -- while host b's machine stays on its link
    pub does_calm : (happening : Happening) (old new : World S T) → Does U V happening old new → V.leaves_link old.b.upper ≡ false → Calm old → Calm new
    does_calm (Tries A effort) old new (station, makes, same) stays calm = subst Calm (sym same) (record { b = calm.b; owed = calm.owed })
    does_calm (Tries B effort) old new (station, makes, same) stays calm = subst Calm (sym same) (record { b = effort_on effort old.b station makes stays calm.b; owed = calm.owed })
    does_calm (Departure A order) old new (rest, first, same) stays calm = subst Calm (sym same) (record { b = calm.b; owed = orders_a order old.radio calm.owed })
    does_calm (Departure B order) old new (rest, first, same) stays calm =
        let all : NoEnds (order ∷ rest) = subst NoEnds first calm.b.out in subst Calm (sym same) (record { b = record { waiting = calm.b.waiting; out = all.1 }; owed = orders_b order old.radio all.0 calm.owed })
    does_calm (GivingBack A) old new same stays calm = subst Calm (sym same) (record { b = calm.b; owed = gives_well old.radio.a calm.owed })
    does_calm (GivingBack B) old new same stays calm = subst Calm (sym same) (record { b = calm.b; owed = calm.owed })
    does_calm (Piecemeal A handle piece) old new (rest, first, here, g, same) stays calm = subst Calm (sym same) (record { b = calm.b; owed = hands_well old.radio.a calm.owed })
    does_calm (Piecemeal B handle piece) old new (rest, first, here, h, same) stays calm = subst Calm (sym same) (record { b = piece_on_b h handle piece old.b calm.b; owed = calm.owed })
    does_calm (Answering A answer) old new (rest, none, first, g, same) stays calm = subst Calm (sym same) (record { b = calm.b; owed = hands_well old.radio.a calm.owed })
    does_calm (Answering B answer) old new (rest, none, first, h, same) stays calm = subst Calm (sym same) (record { b = hears_on h answer old.b calm.b; owed = calm.owed })
    does_calm (Turns ordinal word) old new (rest, is_word, ordinal_is, mid, acts, same) stays calm =
        let now = acts_calm (found word old.radio) old mid acts calm in subst Calm (sym same) (record { b = now.b; owed = now.owed })
    does_calm (Misses word) old new (rest, nothing, same) stays calm = subst Calm (sym same) (record { b = calm.b; owed = calm.owed })
    does_calm (Opens push name) old new (idle, next, push_is, g, same) stays calm = subst Calm (sym same) (record { b = calm.b; owed = calm.owed })
    does_calm (Closes push outcome) old new (going, push_is, idle, is, apart, none_a, none_b, quiet_a, quiet_b, same) stays calm = subst Calm (sym same) (record { b = calm.b; owed = calm.owed })
