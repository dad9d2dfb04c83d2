-- What is left to happen without a word, as one number (this project's own).
use Rattle.std.specs.Prelude.{ℕ, ◌≡◌, ◌≤◌, ◌+◌, ◌*◌, List, [], ◌∷◌, length}
use Rattle.rest_laws.specs.push_terms.specs.declared.word.Side.{Side}
use Rattle.rest_laws.specs.push_terms.specs.declared.word.Side.TheVariants.{A, B}
use Rattle.rest_laws.specs.radio_model.specs.Controllers.{Answer, Returned, Stated, Called, LinkMade, LinkGone, GivenBack, Controller}
use Rattle.rest_laws.specs.radio_model.specs.Radio.{Radio}
use Rattle.rest_laws.specs.world_model.specs.Machines.{News, Upper}
use Rattle.rest_laws.specs.world_model.specs.Pushes.{Pushes}
use Rattle.rest_laws.specs.world_model.specs.Stations.{Station, longest_pdu}
use Rattle.rest_laws.specs.world_model.specs.Worlds.{World, Happening, Runs, all_entries, all_words, first_world}
use Rattle.rest_laws.specs.station_laws.specs.WorldLaws.{AreSizes}
use Rattle.rest_laws.specs.Premises.{AreOrderly}
use Rattle.rest_laws.proofs.Heights.{pushes_height, links_height, asks_height}

-- with each thing that it hears, a machine has at most so many PDUs more left to say
abbrev pub SaysAtMost : {S G : Type 0} → ℕ → Upper S G → Type 0
SaysAtMost {S} {G} most U = (answers : List G) (news : News) (s : S) → U.left (U.hear answers news s) ≤ most + U.left s

-- ---- what each thing weighs that may still happen: more than all that it may bring about

-- a PDU that is to be said brings about at most as many pieces as it has octets
abbrev pub pdu_weight : ℕ
pdu_weight = 8 * longest_pdu + 1

-- something that is heard brings about PDUs
abbrev pub hearing_weight : ℕ → ℕ
hearing_weight most = pdu_weight * most

abbrev pub piece_weight : ℕ → ℕ
piece_weight most = hearing_weight most + 1

-- where a link came up or went down, its end may be asked for once
abbrev pub tiding_weight : ℕ → ℕ
tiding_weight most = hearing_weight most + 10

-- a link goes on in its life: both hosts are told
abbrev pub link_weight : ℕ → ℕ
link_weight most = 2 * tiding_weight most + 30

-- a push begins or ends: the life of one link more
abbrev pub push_weight : ℕ → ℕ
push_weight most = 5 * link_weight most + hearing_weight most + 1

abbrev pub answer_weight : ℕ → Answer → ℕ
answer_weight most (Returned number params) = 2
answer_weight most (Stated number) = 2
answer_weight most Called = 10
answer_weight most (LinkMade handle) = tiding_weight most
answer_weight most (LinkGone handle reason) = tiding_weight most
answer_weight most (GivenBack handle count) = 2

abbrev pub owed_weight : ℕ → List Answer → ℕ
owed_weight most [] = 0
owed_weight most (answer ∷ answers) = answer_weight most answer + owed_weight most answers

-- ---- what all of them weigh

-- what waits in a host, what it put out, and what its controller has to give back
abbrev pub moves_weight : {S : Type 0} → (taken : ℕ) → Station S → ℕ
moves_weight taken station = 8 * length station.waiting + (8 * length station.pieces + (6 * length station.out + 3 * taken))

-- a host and its controller: what comes to it, what it may still ask for, what it has to say, and what moves
abbrev pub side_weight : {S G : Type 0} → Upper S G → Side → ℕ → Controller → Station S → ℕ
side_weight U side most one station =
    owed_weight most one.owed + (piece_weight most * length one.coming + (9 * asks_height side station + (pdu_weight * U.left station.upper + moves_weight one.taken station)))

-- both, the links that may still come and go, and the pushes
abbrev pub weight_at : {S T G H : Type 0} → Upper S G → Upper T H → ℕ → Radio → Station S → Station T → Pushes → ℕ
weight_at U V most radio a b pushes =
    push_weight most * pushes_height pushes + (link_weight most * links_height radio pushes + (side_weight U A most radio.a a + side_weight V B most radio.b b))

abbrev pub weight : {S T G H : Type 0} → Upper S G → Upper T H → ℕ → World S T → ℕ
weight U V most w = weight_at U V most w.radio w.a w.b w.pushes

-- Whatever happens without a word, one thing after the other, lowers that number by at least one for each entry of the capture. So from
-- each world that a run led to at most so many entries follow without a word, where both machines say at most so much more with each
-- thing that they hear.
abbrev pub SettlingIsBounded : {S T G H : Type 0} → Upper S G → Upper T H → Type 0
SettlingIsBounded {S} {T} U V =
    (most size count : ℕ) (names : List (List ℕ)) (before happenings : List Happening) (old new : World S T) → AreOrderly U V → SaysAtMost most U → SaysAtMost most V
    → AreSizes size count → length names ≤ 0x0EFF → Runs U V before (first_world U V size count names) old → Runs U V happenings old new → all_words happenings ≡ []
    → length (all_entries happenings) + weight U V most new ≤ weight U V most old
