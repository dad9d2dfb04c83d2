-- While pieces come into host b host a is at rest, and nothing is owed to either.
use Rattle.std.proofs.Common.{◌≡◌, ◌⊎◌, inl, inr, Bool, true, false, ℕ, ◌==◌, ◌&&◌, ◌+◌, nat_le, List, [], ◌∷◌, ◌++◌, Option, Some, None, refl, sym, ap, subst, ◌∙◌, if◌then◌else◌}
use Rattle.std.specs.Prelude.{slice_get}
use Rattle.cause_laws.specs.acl_fragments.specs.Pieces.{Piece}
use Rattle.tape_laws.specs.bt_base.specs.Objects.{Contents}
use Rattle.tape_laws.specs.push_script.specs.declared.scenario.Scenario.{Scenario}
use Rattle.tape_laws.specs.push_terms.specs.declared.word.Side.{Side}
use Rattle.tape_laws.specs.push_terms.specs.declared.word.Side.TheVariants.{A, B}
use Rattle.tape_laws.specs.push_terms.specs.declared.word.Way.TheVariants.{Ab, Ba}
use Rattle.tape_laws.specs.capture.specs.Entries.{Entry}
use Rattle.tape_laws.specs.capture.specs.Links.{link_up}
use Rattle.tape_laws.specs.world_model.specs.radio_model.specs.declared.deed.Deed.{Deed}
use Rattle.tape_laws.specs.world_model.specs.radio_model.specs.declared.deed.Deed.TheVariants.{Nothing, Meets, Fires, FiresBoth, Breaks, Cancels}
use Rattle.tape_laws.specs.world_model.specs.radio_model.specs.declared.fate.Fate.{Fate}
use Rattle.tape_laws.specs.world_model.specs.radio_model.specs.Controllers.{Answer, Returned, Stated, Called, LinkMade, LinkGone, GivenBack, Controller, owing, gives_back, after_giving_back, after_telling}
use Rattle.tape_laws.specs.world_model.specs.radio_model.specs.Radio.{Radio, Requested, Paging, is_together, is_requested, is_reached, after_reaching, may_page, knows_link, joined, parted, owes, scanning, with_piece, after_taking, after_meeting, found}
use Rattle.tape_laws.specs.world_model.specs.Machines.{Upper}
use Rattle.tape_laws.specs.world_model.specs.Stations.{Order, Reset, ReadBuffers, ReadAddress, Scan, Page, Accept, End, Data, Station, Effort, Taking, Putting, Asking, Leaving, Commanding, MakesEffort}
use Rattle.tape_laws.specs.world_model.specs.Worlds.{World, Happening, Tries, Departure, GivingBack, Piecemeal, Answering, Turns, Misses, Opens, Closes, all_entries, piece_on, after_order, checks, IsStill, IsAtRest, Acts, one_turned}
use Rattle.cause_laws.specs.turn_laws.proofs.Coming.{handed_piece, handed_answer}
use Rattle.cause_laws.specs.turn_laws.proofs.Hearing.{with_owed}
use Rattle.cause_laws.specs.turn_laws.proofs.Keeping.{Kept}
use Rattle.cause_laws.specs.turn_laws.proofs.Stationing.{linked_handle}
use Rattle.cause_laws.specs.turn_laws.proofs.Wiring.{IsListening}
use Rattle.tape_laws.specs.air_laws.proofs.Following.{Keeps, known_b, reached_first, along}
use Rattle.tape_laws.specs.air_laws.proofs.Resting.{rest_led, next_going}
use Rattle.tape_laws.specs.host_laws.specs.rest_laws.proofs.Answering.{piece_orders}
use Rattle.tape_laws.specs.scenario_laws.specs.Captures.{client_of, server_of, BothHosts, beginning, Happened}
use Rattle.tape_laws.specs.scenario_laws.proofs.Fronts.{fits}

-- ---- what comes into host b is no matter of orders

coming_if : (test : Bool) (one other : Radio) (coming : List Piece) → one.b.coming ≡ coming → other.b.coming ≡ coming → (if test then one else other).b.coming ≡ coming
coming_if true one other coming x y = x
coming_if false one other coming x y = y

coming_reached : (radio : Radio) → (after_reaching radio).b.coming ≡ radio.b.coming
coming_reached radio = coming_if (is_reached radio) (record radio { b = owing (Called ∷ []) radio.b; phase = Requested }) radio radio.b.coming refl refl

with_coming : (flies : Bool) (piece : Option Piece) (one : Controller) → (with_piece flies piece one).coming ≡ one.coming
with_coming flies None one = refl
with_coming flies (Some piece) one = refl

taken_coming : (handle : ℕ) (one : Controller) → (after_taking handle one).coming ≡ one.coming
taken_coming handle one = by ((handle == one.told) && nat_le 1 one.told) (one.taken == 65535)
  where
    by : (here all : Bool) → (if here then (if all then record (after_giving_back one) { taken = 1 } else record one { taken = one.taken + 1 }) else one).coming ≡ one.coming
    by true true = refl
    by true false = refl
    by false all = refl

order_coming : (side : Side) (order : Order) (radio : Radio) → (after_order side order radio).b.coming ≡ radio.b.coming
order_coming A Reset radio = refl
order_coming B Reset radio = refl
order_coming A ReadBuffers radio = refl
order_coming B ReadBuffers radio = refl
order_coming A ReadAddress radio = refl
order_coming B ReadAddress radio = refl
order_coming A Scan radio = coming_reached (owes A (Returned 0x0C1A (0 ∷ []) ∷ []) (scanning A 0x03 radio))
order_coming B Scan radio = coming_reached (owes B (Returned 0x0C1A (0 ∷ []) ∷ []) (scanning B 0x03 radio))
order_coming A Page radio =
    let one : Radio = owes A (Stated 0x0405 ∷ []) radio in
    let paging : Radio = record one { phase = Paging } in
    coming_if (may_page one) (after_reaching paging) one radio.b.coming (coming_reached paging) refl
order_coming B Page radio = refl
order_coming A Accept radio = refl
order_coming B Accept radio = let one : Radio = owes B (Stated 0x0409 ∷ []) radio in coming_if (is_requested radio.phase) (joined one) one radio.b.coming refl refl
order_coming A (End handle) radio = let one : Radio = owes A (Stated 0x0406 ∷ []) radio in coming_if (knows_link A one && (handle == one.number)) (parted 0x16 0x13 one) one radio.b.coming refl refl
order_coming B (End handle) radio = let one : Radio = owes B (Stated 0x0406 ∷ []) radio in coming_if (knows_link B one && (handle == one.number)) (parted 0x13 0x16 one) one radio.b.coming refl refl
order_coming A (Data handle piece) radio = refl
order_coming B (Data handle piece) radio =
    let one = with_piece (knows_link B radio) (piece_on radio.b handle piece) radio.b in
    taken_coming handle one ∙ with_coming (knows_link B radio) (piece_on radio.b handle piece) radio.b

told_coming : (answer : Answer) (one : Controller) → (after_telling answer one).coming ≡ one.coming
told_coming (LinkMade handle) one = refl
told_coming (LinkGone handle reason) one = refl
told_coming (Returned number params) one = refl
told_coming (Stated number) one = refl
told_coming Called one = refl
told_coming (GivenBack handle count) one = refl

-- where all was given back nothing is owed for it
none_back : (one : Controller) → one.owed ≡ [] → one.taken ≡ 0 → (after_giving_back one).owed ≡ []
none_back one none taken = ap (λ (l : List Answer). l ++ gives_back one.told one.taken) none ∙ ap (λ (n : ℕ). gives_back one.told n) taken

module _ {S T G H : Type 0} (U : Upper S G) (V : Upper T H) where
  -- host a is as at rest, on its link, and nothing is owed to host b nor put out by it
  pub record IsAlone (radio : Radio) (a : Station S) (b : Station T) : Type 0 where
    pub still : IsStill U radio.a a
    pub stays : U.leaves_link a.upper ≡ false
    pub up : radio.a.up ≡ true
    pub none_waits : b.waiting ≡ []
    pub none_out : b.out ≡ []
    pub none_owed : radio.b.owed ≡ []
    pub returned : radio.b.taken ≡ 0

  abbrev pub IsLone : World S T → Type 0
  IsLone w = (w.radio.b.coming ≡ []) ⊎ IsAlone w.radio w.a w.b

  -- ---- neither host does anything by itself

  a_stops : (effort : Effort) (one : Controller) (old new : Station S) (handle : ℕ) → IsStill U one old → U.leaves_link old.upper ≡ false → old.link ≡ Some handle → MakesEffort U A effort old new → ⊥
  a_stops Taking one old new handle still stays link does = let none = still.none_next does.handle does.link in let next = does.next in cc
  a_stops Putting one old new handle still stays link does = let none = still.none_goes in let first = does.first in cc
  a_stops Asking one old new handle still stays link does = let off = does.off in cc
  a_stops Leaving one old new handle still stays link does = let leaves = does.leaves in cc
  a_stops Commanding one old new handle still stays link does = let none = still.none_waits in let first = does.first in cc

  b_stops : (effort : Effort) (up : Bool) (told number : ℕ) (old new : Station T) → old.waiting ≡ [] → IsListening V up told number old.upper old.pieces → MakesEffort V B effort old new → ⊥
  b_stops Taking up told number old new waits listens does = let none = listens.none_next in let next = does.next in cc
  b_stops Putting up told number old new waits listens does = let none = listens.none_goes in let first = does.first in cc
  b_stops Asking up told number old new waits listens does = does
  b_stops Leaving up told number old new waits listens does = let stays = listens.stays in let leaves = does.leaves in cc
  b_stops Commanding up told number old new waits listens does = let first = does.first in cc

  linked : (radio : Radio) (a : Station S) (b : Station T) (going : Bool) → Kept U V radio a b going → radio.a.up ≡ true → a.link ≡ Some radio.a.told
  linked radio a b going kept up = kept.one.link ∙ ap (λ (x : Bool). linked_handle x radio.a.told) up

  -- into which a piece comes
  listens : (radio : Radio) (a : Station S) (b : Station T) (going : Bool) (piece : Piece) (rest : List Piece) → Kept U V radio a b going → radio.b.coming ≡ piece ∷ rest → IsListening V radio.b.up radio.b.told radio.number b.upper b.pieces
  listens radio a b going piece rest kept comes = elim kept.other.incoming.listens [ inl none ↦ (let never : piece ∷ rest ≡ [] = sym comes ∙ none in cc) | inr on ↦ on ]

  -- ---- a word

  -- frames go from host a alone into host b
  meets_lone : (old : World S T) (fate : Fate) (checked : Bool) (queue : List (List ℕ)) → IsAtRest U V old → (old.radio.a.up ≡ true → U.leaves_link old.a.upper ≡ false) → (queue ≡ []) ⊎ (old.radio.a.up ≡ true) → IsLone (record old { radio = after_meeting Ab fate checked queue old.radio })
  meets_lone old fate checked [] rest stays some = inl rest.still_b.none_comes
  meets_lone old fate checked (frame ∷ queue) rest stays (inl none) = cc
  meets_lone old fate checked (frame ∷ queue) rest stays (inr up) =
      let a = rest.still_a in
      let b = rest.still_b in
      inr (record {
        still = record { none_waits = a.none_waits; none_goes = a.none_goes; none_out = a.none_out; unasked = a.unasked; none_next = a.none_next; none_comes = a.none_comes; none_owed = a.none_owed; returned = a.returned };
        stays = stays up;
        up = up;
        none_waits = b.none_waits;
        none_out = b.none_out;
        none_owed = b.none_owed;
        returned = b.returned;
      })

  back_coming : (fate : Fate) (checked : Bool) (queue : List (List ℕ)) (radio : Radio) → (after_meeting Ba fate checked queue radio).b.coming ≡ radio.b.coming
  back_coming fate checked [] radio = refl
  back_coming fate checked (frame ∷ queue) radio = refl

  lone_there : (new to : World S T) → new ≡ to → IsLone to → IsLone new
  lone_there new to same lone = subst IsLone (sym same) lone

  acts_lone : (deed : Deed) (old mid : World S T) → IsAtRest U V old → (old.radio.a.up ≡ true → U.leaves_link old.a.upper ≡ false) → (old.radio.a.waiting ≡ []) ⊎ (old.radio.a.up ≡ true) → Acts U V deed old mid → IsLone mid
  acts_lone Nothing old mid rest stays some acts = absurd acts
  acts_lone (Meets Ab fate) old mid rest stays some acts = lone_there mid _ acts (meets_lone old fate (checks V old.b old.radio.a.waiting) old.radio.a.waiting rest stays some)
  acts_lone (Meets Ba fate) old mid rest stays some acts = inl (ap (λ (w : World S T). w.radio.b.coming) acts ∙ (back_coming fate (checks U old.a old.radio.b.waiting) old.radio.b.waiting old.radio ∙ rest.still_b.none_comes))
  acts_lone (Fires A) old mid rest stays some (armed, g, same) = inl (ap (λ (w : World S T). w.radio.b.coming) same ∙ rest.still_b.none_comes)
  acts_lone (Fires B) old mid rest stays some (armed, h, same) = inl (ap (λ (w : World S T). w.radio.b.coming) same ∙ rest.still_b.none_comes)
  acts_lone FiresBoth old mid rest stays some (armed, g, h, same) = inl (ap (λ (w : World S T). w.radio.b.coming) same ∙ rest.still_b.none_comes)
  acts_lone Breaks old mid rest stays some acts = inl (ap (λ (w : World S T). w.radio.b.coming) acts ∙ rest.still_b.none_comes)
  acts_lone Cancels old mid rest stays some (may, g, same) = inl (ap (λ (w : World S T). w.radio.b.coming) same ∙ rest.still_b.none_comes)

  -- ---- whatever happens

  keeps : (happenings : List Happening) (first : World S T) → Keeps U V happenings first (λ past words w. IsLone w)
  keeps happenings first (Tries A effort) ahead past words old new reached (station, does, same) next lone = elim lone [
    | inl none ↦ inl (ap (λ (w : World S T). w.radio.b.coming) same ∙ none)
    | inr alone ↦ absurd (a_stops effort old.radio.a old.a station old.radio.a.told alone.still alone.stays (linked old.radio old.a old.b old.pushes.going reached.kept alone.up) does)
  ]
  keeps happenings first (Tries B effort) ahead past words old new reached (station, does, same) next lone = elim lone [
    | inl none ↦ inl (ap (λ (w : World S T). w.radio.b.coming) same ∙ none)
    | inr alone ↦ by alone old.radio.b.coming refl
  ]
    where
      by : IsAlone old.radio old.a old.b → (coming : List Piece) → old.radio.b.coming ≡ coming → IsLone new
      by alone [] is = inl (ap (λ (w : World S T). w.radio.b.coming) same ∙ is)
      by alone (piece ∷ rest) is = absurd (b_stops effort old.radio.b.up old.radio.b.told old.radio.number old.b station alone.none_waits (listens old.radio old.a old.b old.pushes.going piece rest reached.kept is) does)
  keeps happenings first (Departure A order) ahead past words old new reached (rest, out, same) next lone = elim lone [
    | inl none ↦ inl (ap (λ (w : World S T). w.radio.b.coming) same ∙ (order_coming A order old.radio ∙ none))
    | inr alone ↦ (let none = alone.still.none_out in let never : order ∷ rest ≡ [] = sym out ∙ none in cc)
  ]
  keeps happenings first (Departure B order) ahead past words old new reached (rest, out, same) next lone = elim lone [
    | inl none ↦ inl (ap (λ (w : World S T). w.radio.b.coming) same ∙ (order_coming B order old.radio ∙ none))
    | inr alone ↦ (let never : order ∷ rest ≡ [] = sym out ∙ alone.none_out in cc)
  ]
  keeps happenings first (GivingBack A) ahead past words old new reached same next lone = lone_there new _ same (elim lone [
    | inl none ↦ inl none
    | inr alone ↦ (let still = alone.still in
        inr (record {
          still = record { none_waits = still.none_waits; none_goes = still.none_goes; none_out = still.none_out; unasked = still.unasked; none_next = still.none_next; none_comes = still.none_comes; none_owed = none_back old.radio.a still.none_owed still.returned; returned = refl };
          stays = alone.stays;
          up = alone.up;
          none_waits = alone.none_waits;
          none_out = alone.none_out;
          none_owed = alone.none_owed;
          returned = alone.returned;
        }))
  ])
  keeps happenings first (GivingBack B) ahead past words old new reached same next lone = lone_there new _ same (elim lone [
    | inl none ↦ inl none
    | inr alone ↦ inr (record { still = alone.still; stays = alone.stays; up = alone.up; none_waits = alone.none_waits; none_out = alone.none_out; none_owed = none_back old.radio.b alone.none_owed alone.returned; returned = refl })
  ])
  keeps happenings first (Piecemeal A handle piece) ahead past words old new reached (rest, comes, here, g, same) next lone = elim lone [
    | inl none ↦ inl (ap (λ (w : World S T). w.radio.b.coming) same ∙ none)
    | inr alone ↦ (let never : piece ∷ rest ≡ [] = sym comes ∙ alone.still.none_comes in cc)
  ]
  keeps happenings first (Piecemeal B handle piece) ahead past words old new reached (rest, comes, here, h, same) next lone = elim lone [
    | inl none ↦ (let never : piece ∷ rest ≡ [] = sym comes ∙ none in cc)
    | inr alone ↦ (let handed = handed_piece old.radio.b piece rest comes in
        let orders = piece_orders V h handle piece old.b in
        inr (subst (λ (w : World S T). IsAlone w.radio w.a w.b) (sym same) (record {
          still = alone.still;
          stays = alone.stays;
          up = alone.up;
          none_waits = ap (λ (o : List Order × List Order). o.0) orders ∙ alone.none_waits;
          none_out = ap (λ (o : List Order × List Order). o.1) orders ∙ alone.none_out;
          none_owed = ap (λ (c : Controller). c.owed) handed ∙ alone.none_owed;
          returned = ap (λ (c : Controller). c.taken) handed ∙ alone.returned;
        })))
  ]
  keeps happenings first (Answering A answer) ahead past words old new reached (rest, none_comes, owed, g, same) next lone = elim lone [
    | inl none ↦ inl (ap (λ (w : World S T). w.radio.b.coming) same ∙ none)
    | inr alone ↦ (let never : answer ∷ rest ≡ [] = sym owed ∙ alone.still.none_owed in cc)
  ]
  keeps happenings first (Answering B answer) ahead past words old new reached (rest, none_comes, owed, h, same) next lone =
      inl (ap (λ (w : World S T). w.radio.b.coming) same ∙ (ap (λ (c : Controller). c.coming) (handed_answer old.radio.b answer rest none_comes owed) ∙ (told_coming answer (with_owed rest old.radio.b) ∙ none_comes)))
  keeps happenings first (Turns ordinal word) ahead past words old new reached (rest, is_word, ordinal_is, mid, acts, same) next lone =
      let known = rest_led old.radio.a old.radio.number (is_together old.radio.phase) rest.still_a.none_owed reached.kept.one.led in
      let lone_now = acts_lone (found word old.radio) old mid rest (λ up. rest.calm.no_fall_a (sym known.1 ∙ up)) (by old.radio.a.up refl) acts in
      lone_there new (one_turned mid) same lone_now
    where
      by : (up : Bool) → old.radio.a.up ≡ up → (old.radio.a.waiting ≡ []) ⊎ (old.radio.a.up ≡ true)
      by true is = inr is
      by false is = inl (reached.both.a.off_queue is)
  keeps happenings first (Misses word) ahead past words old new reached (rest, nothing, same) next lone = lone_there new (one_turned old) same lone
  keeps happenings first (Opens push name) ahead past words old new reached (idle, next_is, push_is, g, same) next lone = elim lone [
    | inl none ↦ inl (ap (λ (w : World S T). w.radio.b.coming) same ∙ none)
    | inr alone ↦
        (let rests = reached.kept.rests (next_going old.pushes.going (slice_get old.pushes.names old.pushes.begun) name next_is) in
        let known = rest_led old.radio.a old.radio.number (is_together old.radio.phase) alone.still.none_owed reached.kept.one.led in
        let never : true ≡ false = sym alone.up ∙ (known.1 ∙ rests.separate) in cc)
  ]
  keeps happenings first (Closes push outcome) ahead past words old new reached (going, push_is, idle, is, apart, none_a, none_b, quiet_a, quiet_b, same) next lone = inl (ap (λ (w : World S T). w.radio.b.coming) same ∙ quiet_b)

-- ---- a run

-- as pieces come into host b nothing is owed to either host; and while it knows of its link the capture has it
pub record Lone (radio : Radio) (past : List Entry) : Type 0 where
  pub hears : (piece : Piece) (rest : List Piece) → radio.b.coming ≡ piece ∷ rest → (radio.a.owed ≡ []) × (radio.b.owed ≡ []) × (radio.b.up ≡ true)
  pub linked : radio.b.up ≡ true → link_up B past ≡ None → ⊥

pub lone_at : (scenario : Scenario) (content : Option Contents) (happenings : List Happening) (w : BothHosts) → Happened scenario content happenings w → Lone w.radio (all_entries happenings)
lone_at scenario content happenings w happened =
    let U = client_of scenario in
    let V = server_of scenario content in
    let first = beginning scenario content in
    let all = fits scenario content in
    let arrived = along U V happenings first (λ past words now. IsLone U V now) happenings [] [] first w all.frames_a all.frames_b all.idles (keeps U V happenings first) happened
    (reached_first U V scenario.acl_length scenario.acl_count scenario.names happenings all) (inl refl) in
    let kept = arrived.reached.kept in
    record {
      hears = λ piece rest comes. elim arrived.now [
        | inl none ↦ (let never : piece ∷ rest ≡ [] = sym comes ∙ none in cc)
        | inr alone ↦ (alone.still.none_owed, alone.none_owed, (listens U V w.radio w.a w.b w.pushes.going piece rest kept comes).on)
      ];
      linked = λ up down. (let link = (known_b U V happenings first [] (all_entries happenings) _ w arrived.reached).on up in let never : None ≡ Some link.link = sym down ∙ link.is in cc);
    }
