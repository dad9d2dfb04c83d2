-- What ties PDUs that move one at a time to the world of turns, for every two machines and whatever their ports answer.
use Rattle.std.specs.Prelude.{ℕ, ◌≡◌, true, false, List, ◌++◌}
use Rattle.world_model.specs.push_terms.specs.declared.word.Side.TheVariants.{A, B}
use Rattle.world_model.specs.radio_model.specs.Controllers.{is_empty}
use Rattle.world_model.specs.Machines.{Upper}
use Rattle.world_model.specs.Pushes.{no_pushes}
use Rattle.world_model.specs.Talks.{Talk}
use Rattle.world_model.specs.Turns.{Step, Pair, Passes, words_of, first_pair}
use Rattle.world_model.specs.Carriages.{Carriage, Doing, Moved, Arrival, IsDone, IsQuiet, IsAtRest, Carries, all_words, all_steps, first_carriage}
use Rattle.world_model.specs.PerLink.{HearsFrom, links_told, InTurn}

-- a pair in the world of turns is what a carriage at rest is
pub record Mirrors {S T : Type 0} (c : Carriage S T) (p : Pair S T) : Type 0 where
  pub size_is : p.size ≡ c.size
  pub link_is : p.link ≡ c.link
  pub served_is : p.served ≡ c.served
  pub pushes_are : p.pushes ≡ c.pushes
  pub upper_a : p.a.upper ≡ c.a.upper
  pub upper_b : p.b.upper ≡ c.b.upper
  pub queue_a : p.a.queue ≡ c.a.queue
  pub queue_b : p.b.queue ≡ c.b.queue
  pub talk_a : p.a.talk ≡ c.a.talk
  pub talk_b : p.b.talk ≡ c.b.talk
  pub whole_a : p.a.whole ≡ true
  pub whole_b : p.b.whole ≡ true

-- each run that ends at rest is a run of turns
abbrev pub CarriedIsTurned : {S T G H : Type 0} → Upper S G → Upper T H → Type 0
CarriedIsTurned {S} {T} U V =
    (size : ℕ) (names : List (List ℕ)) (doings : List Doing) (c : Carriage S T) → Carries U V doings (first_carriage U V size names) c → IsAtRest U V c
    → (p : Pair S T) × Passes U V (all_steps doings) (first_pair U V size names) p × Mirrors c p

-- with the same words
abbrev pub SameWords : Type 0
SameWords = (doings : List Doing) → words_of (all_steps doings) ≡ all_words doings

abbrev pub IsFront : {X : Type 0} → List X → List X → Type 0
IsFront {X} front all = (rest : List X) × (all ≡ front ++ rest)

-- a run of turns goes on from what each host was told and said
pub record GoesOn {S T G H : Type 0} (U : Upper S G) (V : Upper T H) (size : ℕ) (names : List (List ℕ)) (steps : List Step) (talk_a talk_b : List Talk) : Type 0 where
  pub pair : Pair S T
  pub passes : Passes U V steps (first_pair U V size names) pair
  pub front_a : IsFront talk_a pair.a.talk
  pub front_b : IsFront talk_b pair.b.talk

-- each run, wherever it broke off
abbrev pub BrokenGoesOn : {S T G H : Type 0} → Upper S G → Upper T H → Type 0
BrokenGoesOn {S} {T} U V =
    (size : ℕ) (names : List (List ℕ)) (doings : List Doing) (c : Carriage S T) → Carries U V doings (first_carriage U V size names) c
    → GoesOn U V size names (all_steps doings) c.a.talk c.b.talk

-- a PDU comes into a host only where all that it said has moved, and it has nothing to say
abbrev pub HearsWhenQuiet : {S T G H : Type 0} → Upper S G → Upper T H → Type 0
HearsWhenQuiet {S} {T} U V =
    (size : ℕ) (names : List (List ℕ)) (doings : List Doing) (pdu : List ℕ) (old new : Carriage S T) → Carries U V doings (first_carriage U V size names) old
    → (IsDone U V (Moved A (Arrival pdu)) old new → IsQuiet U old.a.upper old.a.waiting) × (IsDone U V (Moved B (Arrival pdu)) old new → IsQuiet V old.b.upper old.b.waiting)

-- ---- laws of turns

-- what each host heard on each link is what came of what the other said
abbrev pub HearsWhatWasSaid : {S T G H : Type 0} → Upper S G → Upper T H → Type 0
HearsWhatWasSaid {S} {T} U V =
    (size : ℕ) (names : List (List ℕ)) (steps : List Step) (p : Pair S T) → Passes U V steps (first_pair U V size names) p
    → HearsFrom size p.b.talk p.a.talk × HearsFrom size p.a.talk p.b.talk

-- each host was told of as many links as the other
abbrev pub SameLinks : {S T G H : Type 0} → Upper S G → Upper T H → Type 0
SameLinks {S} {T} U V =
    (size : ℕ) (names : List (List ℕ)) (steps : List Step) (p : Pair S T) → Passes U V steps (first_pair U V size names) p
    → links_told p.a.talk ≡ links_told p.b.talk

-- pushes are in turn, and each link lies within one
abbrev pub PushesInTurn : {S T G H : Type 0} → Upper S G → Upper T H → Type 0
PushesInTurn {S} {T} U V =
    (size : ℕ) (names : List (List ℕ)) (steps : List Step) (p : Pair S T) → Passes U V steps (first_pair U V size names) p
    → InTurn (record { pushes = no_pushes names; up = false }) p.a.talk (record { pushes = p.pushes; up = p.link })

-- and a host is told what became of a link only while a push goes on
abbrev pub LinksWithinPushes : {S T G H : Type 0} → Upper S G → Upper T H → Type 0
LinksWithinPushes {S} {T} U V =
    (size : ℕ) (names : List (List ℕ)) (doings : List Doing) (c : Carriage S T) → Carries U V doings (first_carriage U V size names) c
    → (is_empty c.a.owed ≡ false → c.pushes.going ≡ true) × (is_empty c.b.owed ≡ false → c.pushes.going ≡ true)
