-- The pure world: two hosts, the radio between them, the pushes and the script; what may happen in it, one thing at a time, and what
-- the capture has of it (this project's own).
use Rattle.std.specs.Prelude.{ℕ, ◌≡◌, ◌+◌, ◌==◌, ◌&&◌, ◌||◌, Bool, true, false, List, [], ◌∷◌, ◌++◌, Option, Some, None, if◌then◌else◌}
use Rattle.std.specs.List.{flat_map}
use Rattle.bt_base.specs.Octets.{le16}
use Rattle.acl_fragments.specs.Pieces.{Piece, channel_of}
use Rattle.push_terms.specs.declared.word.Side.{Side}
use Rattle.push_terms.specs.declared.word.Side.TheVariants.{A, B}
use Rattle.push_terms.specs.declared.word.Way.TheVariants.{Ab, Ba}
use Rattle.push_terms.specs.declared.word.Word.{Word}
use Rattle.push_terms.specs.declared.outcome.Outcome.{Outcome}
use Rattle.push_terms.specs.Words.{IsWord}
use Rattle.capture.specs.declared.flow.Flow.TheVariants.{Out, Into}
use Rattle.capture.specs.Entries.{Entry, Moved as Passed, Acted, Begun, Ended}
use Rattle.radio_model.specs.declared.deed.Deed.{Deed}
use Rattle.radio_model.specs.declared.deed.Deed.TheVariants.{Nothing, Meets, Fires, FiresBoth, Breaks, Cancels}
use Rattle.radio_model.specs.Controllers.{Controller, Answer, Returned, Stated, answer_packet, piece_packet, address, after_handing}
use Rattle.radio_model.specs.Radio.{Radio, new_radio, controller, with_controller, owes, is_apart, is_paging, is_requested, is_together, after_paging, after_reaching, after_accepting, after_disconnecting, scanning, knows_link, with_piece, after_taking, after_offer, after_meeting, parted, found}
use Rattle.world_model.specs.Machines.{TimerFired, Cancelled, Opening, Upper}
use Rattle.world_model.specs.Pushes.{Pushes, no_pushes, next_name, one_begun, one_ended}
use Rattle.world_model.specs.Turns.{IsCalm, FindsNothing, may_be_cancelled}
use Rattle.world_model.specs.Stations.{Order, Reset, ReadBuffers, ReadAddress, Scan, Page, Accept, End, Data, order_packet, Station, first_station, Effort, MakesEffort, IsStopped, hears_piece, hears_answer, told}

pub record World (S T : Type 0) : Type 0 where
  pub radio : Radio
  pub a : Station S
  pub b : Station T
  pub pushes : Pushes
  -- how many words were turned
  pub turned : ℕ

-- ---- the radio

-- the piece of a packet on the link that its host knows of
abbrev pub piece_on : Controller → ℕ → Piece → Option Piece
piece_on one handle piece = if one.up && (handle == one.told) then Some piece else None

-- what a radio makes of an order
abbrev pub after_order : Side → Order → Radio → Radio
after_order side Reset radio = owes side (Returned 0x0C03 (0 ∷ []) ∷ []) radio
after_order side ReadBuffers radio = owes side (Returned 0x1005 (0 ∷ (le16 radio.size ++ (0 ∷ (le16 radio.count ++ le16 0)))) ∷ []) radio
after_order side ReadAddress radio = owes side (Returned 0x1009 (0 ∷ address side) ∷ []) radio
after_order side Scan radio = after_reaching (owes side (Returned 0x0C1A (0 ∷ []) ∷ []) (scanning side 0x03 radio))
after_order side Page radio = after_paging side (owes side (Stated 0x0405 ∷ []) radio)
after_order side Accept radio = after_accepting side (owes side (Stated 0x0409 ∷ []) radio)
after_order side (End handle) radio = after_disconnecting side handle (owes side (Stated 0x0406 ∷ []) radio)
after_order side (Data handle piece) radio =
    with_controller side (after_taking handle (with_piece (knows_link side radio) (piece_on (controller side radio) handle piece) (controller side radio))) radio

-- ---- happenings

pub data Happening : Type 0 where
  -- a host goes on by itself: nothing moves
  Tries : (side : Side) (effort : Effort) → Happening
  -- what a host put out moves to its controller, which gives its buffers back
  Departure : (side : Side) (order : Order) → Happening
  GivingBack : (side : Side) → Happening
  -- a piece, or another answer of its controller, comes into a host
  Piecemeal : (side : Side) (handle : ℕ) (piece : Piece) → Happening
  Answering : (side : Side) (answer : Answer) → Happening
  -- a word does something, or finds nothing
  Turns : (ordinal : ℕ) (word : Word) → Happening
  Misses : (word : Word) → Happening
  -- a push begins and ends
  Opens : (push : ℕ) (name : List ℕ) → Happening
  Closes : (push : ℕ) (outcome : Outcome) → Happening

-- what the capture has of it
abbrev pub entries_of : Happening → List Entry
entries_of (Tries side effort) = []
entries_of (Departure side order) = Passed side Out (order_packet side order) ∷ []
entries_of (GivingBack side) = []
entries_of (Piecemeal side handle piece) = Passed side Into (piece_packet handle piece) ∷ []
entries_of (Answering side answer) = Passed side Into (answer_packet side answer) ∷ []
entries_of (Turns ordinal word) = Acted ordinal word ∷ []
entries_of (Misses word) = []
entries_of (Opens push name) = Begun push ∷ []
entries_of (Closes push outcome) = Ended push outcome ∷ []

abbrev pub all_entries : List Happening → List Entry
all_entries happenings = flat_map entries_of happenings

abbrev pub words_in : Happening → List Word
words_in (Turns ordinal word) = word ∷ []
words_in (Misses word) = word ∷ []
words_in happening = []

abbrev pub all_words : List Happening → List Word
all_words happenings = flat_map words_in happenings

-- ---- at rest

-- nothing is left to be put out
pub record IsStill {S G : Type 0} (U : Upper S G) (one : Controller) (station : Station S) : Type 0 where
  pub none_waits : station.waiting ≡ []
  pub none_goes : station.pieces ≡ []
  pub none_out : station.out ≡ []
  pub unasked : station.asked ≡ false
  pub none_next : (handle : ℕ) → station.link ≡ Some handle → U.next station.upper ≡ None
  -- nor to come in, and all buffers are given back
  pub none_comes : one.coming ≡ []
  pub none_owed : one.owed ≡ []
  pub returned : one.taken ≡ 0

pub record IsAtRest {S T G H : Type 0} (U : Upper S G) (V : Upper T H) (w : World S T) : Type 0 where
  pub still_a : IsStill U w.radio.a w.a
  pub still_b : IsStill V w.radio.b w.b
  -- no page goes on
  pub paged : (is_paging w.radio.phase || is_requested w.radio.phase) ≡ false
  pub calm : IsCalm U V (is_together w.radio.phase) w.pushes w.a.upper w.b.upper

-- Nothing moves without a word: nothing is left to be taken or to come, no host can go on by itself, no push can begin, and none can
-- end. That such a world is at rest is a law.
pub record IsSettled {S T G H : Type 0} (U : Upper S G) (V : Upper T H) (w : World S T) : Type 0 where
  pub out_a : w.a.out ≡ []
  pub out_b : w.b.out ≡ []
  pub stopped_a : IsStopped U A w.a
  pub stopped_b : IsStopped V B w.b
  pub still_a : (w.radio.a.coming ≡ []) × (w.radio.a.owed ≡ [])
  pub still_b : (w.radio.b.coming ≡ []) × (w.radio.b.owed ≡ [])
  pub returned_a : w.radio.a.taken ≡ 0
  pub returned_b : w.radio.b.taken ≡ 0
  pub no_begin : U.is_idle w.a.upper ≡ true → next_name w.pushes ≡ None
  pub no_end : is_apart w.radio.phase ≡ true → w.pushes.going ≡ true → U.is_idle w.a.upper ≡ true → U.outcome w.a.upper ≡ None

-- ---- what each of them does

-- its timer fires if it is armed
abbrev pub fired : {S G : Type 0} → Upper S G → List G → Station S → Station S
fired U answers station = if U.armed station.upper then told U answers TimerFired station else station

-- a frame of that channel meets its fate; its receiver is asked whether it has a check word
abbrev pub checks : {S G : Type 0} → Upper S G → Station S → List (List ℕ) → Bool
checks U station [] = false
checks U station (frame ∷ rest) = U.has_check station.upper (channel_of frame)

abbrev pub Acts : {S T G H : Type 0} → Upper S G → Upper T H → Deed → World S T → World S T → Type 0
Acts U V Nothing old new = ⊥
Acts U V (Meets Ab fate) old new = new ≡ record old { radio = after_meeting Ab fate (checks V old.b old.radio.a.waiting) old.radio.a.waiting old.radio }
Acts U V (Meets Ba fate) old new = new ≡ record old { radio = after_meeting Ba fate (checks U old.a old.radio.b.waiting) old.radio.b.waiting old.radio }
Acts {G} U V (Fires A) old new = (U.armed old.a.upper ≡ true) × (g : List G) × (new ≡ record old { a = told U g TimerFired old.a })
Acts {H} U V (Fires B) old new = (V.armed old.b.upper ≡ true) × (h : List H) × (new ≡ record old { b = told V h TimerFired old.b })
Acts {G} {H} U V FiresBoth old new =
    ((U.armed old.a.upper || V.armed old.b.upper) ≡ true) × (g : List G) × (h : List H) × (new ≡ record old { a = fired U g old.a; b = fired V h old.b })
Acts U V Breaks old new = new ≡ record old { radio = parted 0x08 0x08 old.radio }
Acts {G} U V Cancels old new = (may_be_cancelled U old.pushes old.a.upper ≡ true) × (g : List G) × (new ≡ record old { a = told U g Cancelled old.a })

abbrev pub one_turned : {S T : Type 0} → World S T → World S T
one_turned w = record w { turned = w.turned + 1 }

abbrev pub Does : {S T G H : Type 0} → Upper S G → Upper T H → Happening → World S T → World S T → Type 0
Does {S} U V (Tries A effort) old new = (station : Station S) × MakesEffort U A effort old.a station × (new ≡ record old { a = station })
Does {T} U V (Tries B effort) old new = (station : Station T) × MakesEffort V B effort old.b station × (new ≡ record old { b = station })
Does U V (Departure A order) old new =
    (rest : List Order) × (old.a.out ≡ order ∷ rest) × (new ≡ record old { radio = after_order A order old.radio; a = record old.a { out = rest } })
Does U V (Departure B order) old new =
    (rest : List Order) × (old.b.out ≡ order ∷ rest) × (new ≡ record old { radio = after_order B order old.radio; b = record old.b { out = rest } })
Does U V (GivingBack side) old new = new ≡ record old { radio = after_offer side old.radio }
Does {G} U V (Piecemeal A handle piece) old new =
    (rest : List Piece) × (old.radio.a.coming ≡ piece ∷ rest) × (handle ≡ old.radio.number) × (g : List G)
    × (new ≡ record old { radio = with_controller A (after_handing old.radio.a) old.radio; a = hears_piece U g handle piece old.a })
Does {H} U V (Piecemeal B handle piece) old new =
    (rest : List Piece) × (old.radio.b.coming ≡ piece ∷ rest) × (handle ≡ old.radio.number) × (h : List H)
    × (new ≡ record old { radio = with_controller B (after_handing old.radio.b) old.radio; b = hears_piece V h handle piece old.b })
Does {G} U V (Answering A answer) old new =
    (rest : List Answer) × (old.radio.a.coming ≡ []) × (old.radio.a.owed ≡ answer ∷ rest) × (g : List G)
    × (new ≡ record old { radio = with_controller A (after_handing old.radio.a) old.radio; a = hears_answer U g A answer old.a })
Does {H} U V (Answering B answer) old new =
    (rest : List Answer) × (old.radio.b.coming ≡ []) × (old.radio.b.owed ≡ answer ∷ rest) × (h : List H)
    × (new ≡ record old { radio = with_controller B (after_handing old.radio.b) old.radio; b = hears_answer V h B answer old.b })
Does {S} {T} U V (Turns ordinal word) old new =
    IsAtRest U V old × IsWord word × (ordinal ≡ old.turned + 1) × (mid : World S T) × Acts U V (found word old.radio) old mid × (new ≡ one_turned mid)
Does U V (Misses word) old new =
    IsAtRest U V old × FindsNothing U V (found word old.radio) old.pushes old.a.upper old.b.upper × (new ≡ one_turned old)
-- host a is idle, and an object is left
Does {G} U V (Opens push name) old new =
    (U.is_idle old.a.upper ≡ true) × (next_name old.pushes ≡ Some name) × (push ≡ old.pushes.begun + 1) × (g : List G)
    × (new ≡ record old { pushes = one_begun old.pushes; a = told U g (Opening name) old.a })
-- host a is idle again, there is no link, and nothing is on its way to either host
Does U V (Closes push outcome) old new =
    (old.pushes.going ≡ true) × (push ≡ old.pushes.begun) × (U.is_idle old.a.upper ≡ true) × (U.outcome old.a.upper ≡ Some outcome)
    × (is_apart old.radio.phase ≡ true) × (old.radio.a.owed ≡ []) × (old.radio.b.owed ≡ []) × (old.radio.a.coming ≡ []) × (old.radio.b.coming ≡ [])
    × (new ≡ record old { pushes = one_ended outcome old.pushes })

-- one after the other
abbrev pub Runs : {S T G H : Type 0} → Upper S G → Upper T H → List Happening → World S T → World S T → Type 0
Runs U V [] old new = new ≡ old
Runs {S} {T} U V (happening ∷ happenings) old new = (mid : World S T) × Does U V happening old mid × Runs U V happenings mid new

abbrev pub first_world : {S T G H : Type 0} → Upper S G → Upper T H → (size count : ℕ) → (names : List (List ℕ)) → World S T
first_world U V size count names = record { radio = new_radio size count; a = first_station U A; b = first_station V B; pushes = no_pushes names; turned = 0 }
