-- What ties the pure world, with controllers, commands, buffers and pieces, to the world of turns, for every two machines.
use Rattle.std.specs.Prelude.{ℕ, ◌≡◌, ◌≤◌, true, List}
use Rattle.world_model.specs.push_terms.specs.declared.word.Side.{Side}
use Rattle.world_model.specs.push_terms.specs.declared.word.Side.TheVariants.{A, B}
use Rattle.world_model.specs.radio_model.specs.Radio.{Radio, is_together, after_packet}
use Rattle.world_model.specs.Machines.{Upper}
use Rattle.world_model.specs.Talks.{Talk}
use Rattle.world_model.specs.Turns.{Step, Pair, Passes, words_of, first_pair}
use Rattle.world_model.specs.PerLink.{linkage, captured}
use Rattle.world_model.specs.Stations.{Order, End, Data, order_packet}
use Rattle.world_model.specs.Worlds.{after_order, World, Happening, Runs, IsAtRest, all_entries, all_words, first_world}
use Rattle.turn_laws.specs.Premises.{SaysFrames, Idles}
use Rattle.turn_laws.specs.Laws.{GoesOn}

-- a pair in the world of turns is what a world at rest is
pub record Reflects {S T : Type 0} (w : World S T) (p : Pair S T) : Type 0 where
  pub size_is : p.size ≡ w.radio.size
  pub link_is : p.link ≡ is_together w.radio.phase
  pub served_is : p.served ≡ w.radio.served
  pub pushes_are : p.pushes ≡ w.pushes
  pub upper_a : p.a.upper ≡ w.a.upper
  pub upper_b : p.b.upper ≡ w.b.upper
  -- the frames in the air
  pub queue_a : p.a.queue ≡ w.radio.a.waiting
  pub queue_b : p.b.queue ≡ w.radio.b.waiting
  pub whole_a : p.a.whole ≡ true
  pub whole_b : p.b.whole ≡ true

-- controllers take packets of 27 octets at least; the machines say frames, and the client asks for no link while it is idle
pub record Fits {S T G H : Type 0} (U : Upper S G) (V : Upper T H) (size : ℕ) : Type 0 where
  pub long : 27 ≤ size
  pub frames_a : SaysFrames U
  pub frames_b : SaysFrames V
  pub idles : Idles U

-- a run of turns that a run of the world is
pub record Turned {S T G H : Type 0} (U : Upper S G) (V : Upper T H) (size : ℕ) (names : List (List ℕ)) (happenings : List Happening) (w : World S T) : Type 0 where
  pub steps : List Step
  pub pair : Pair S T
  pub passes : Passes U V steps (first_pair U V size names) pair
  pub words : words_of steps ≡ all_words happenings
  pub reflects : Reflects w pair
  -- what each host was told and said and what moved of it, link by link, is what the capture has
  pub links_a : linkage pair.a.talk ≡ captured A (all_entries happenings)
  pub links_b : linkage pair.b.talk ≡ captured B (all_entries happenings)

-- each run of the world that ends at rest is a run of turns, with the same words, machines and frames in the air
abbrev pub WorldIsTurned : {S T G H : Type 0} → Upper S G → Upper T H → Type 0
WorldIsTurned {S} {T} U V =
    (size count : ℕ) (names : List (List ℕ)) (happenings : List Happening) (w : World S T) → Fits U V size
    → Runs U V happenings (first_world U V size count names) w → IsAtRest U V w → Turned U V size names happenings w

-- a run of turns that a run of the world goes on as, wherever it broke off
pub record GoesOnAsTurns {S T G H : Type 0} (U : Upper S G) (V : Upper T H) (size : ℕ) (names : List (List ℕ)) (happenings : List Happening) : Type 0 where
  pub steps : List Step
  pub words : words_of steps ≡ all_words happenings
  pub talk_a : List Talk
  pub talk_b : List Talk
  -- from what each host was told and said so far
  pub goes_on : GoesOn U V size names steps talk_a talk_b
  pub links_a : linkage talk_a ≡ captured A (all_entries happenings)
  pub links_b : linkage talk_b ≡ captured B (all_entries happenings)

abbrev pub BrokenWorldGoesOn : {S T G H : Type 0} → Upper S G → Upper T H → Type 0
BrokenWorldGoesOn {S} {T} U V =
    (size count : ℕ) (names : List (List ℕ)) (happenings : List Happening) (w : World S T) → Fits U V size
    → Runs U V happenings (first_world U V size count names) w → GoesOnAsTurns U V size names happenings

-- ---- packets

-- the link that an order names
abbrev pub handle_of : Order → ℕ
handle_of (End handle) = handle
handle_of (Data handle piece) = handle
handle_of order = 0

-- a radio makes of a packet what it makes of the order that the packet spells
abbrev pub OrdersAreSpelled : Type 0
OrdersAreSpelled = (side : Side) (order : Order) (radio : Radio) → handle_of order ≤ 0x0EFF → after_packet side (order_packet side order) radio ≡ after_order side order radio
