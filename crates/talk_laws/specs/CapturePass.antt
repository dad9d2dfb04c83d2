-- One pass over a capture that holds something of the talk of each link of a side (Core 5.1, Volume 2 Part E, 5.4.2, 7.7.3
-- and 7.7.5, and Volume 3 Part A, 3.1).
use Rattle.std.specs.Prelude.{ℕ, ◌==◌, ◌&&◌, Bool, true, false, List, [], ◌∷◌, ◌++◌, map, fold, Option, Some, None, is_none, option_to_list, if◌then◌else◌}
use Rattle.std.specs.List.{flat_map}
use Rattle.std.specs.Option.{option_map, option_or}
use Rattle.link_talk.specs.push_terms.specs.declared.word.Side.{Side}
use Rattle.link_talk.specs.acl_fragments.specs.Pieces.{Piece, starts}
use Rattle.link_talk.specs.acl_fragments.specs.Answers.{answer, open_after, held_after}
use Rattle.link_talk.specs.capture.specs.declared.flow.Flow.{Flow}
use Rattle.link_talk.specs.capture.specs.declared.flow.Flow.TheVariants.{Out, Into}
use Rattle.link_talk.specs.capture.specs.Entries.{Entry}
use Rattle.link_talk.specs.capture.specs.Moves.{Move, move_of, moves}
use Rattle.link_talk.specs.capture.specs.Links.{Link, Linking, LinkNews, Asked, Answered, LinkEnded, NoNews, link_news, linking}
use Rattle.link_talk.specs.capture.specs.Pdus.{Pdu, pdu_limit, piece_of, piece_in, pieces, whole_of}
use Rattle.link_talk.specs.Sayings.{Saying, said_by, talk}

-- ---- a link

-- its handle, the octets of PDUs that are not whole, out of its host and into it, and what is held of its talk
pub record HeldLink (X : Type 0) : Type 0 where
  pub handle : ℕ
  pub out_ : List ℕ
  pub into : List ℕ
  pub state : X

abbrev pub unfinished : {X : Type 0} → Flow → HeldLink X → List ℕ
unfinished Out link = link.out_
unfinished Into link = link.into

-- the PDU that a piece completes, and what is held behind it
abbrev pub completed_with : Flow → List ℕ → Option Piece → List Pdu
completed_with flow held None = []
completed_with flow held (Some piece) = whole_of flow (answer (pdu_limit flow) held (starts piece.boundary) piece.octets)

abbrev pub octets_with : Flow → List ℕ → Option Piece → List ℕ
octets_with flow held None = held
octets_with flow held (Some piece) = held_after (pdu_limit flow) held (starts piece.boundary) piece.octets

-- what a packet brings to the talk
abbrev pub sayings_with : {X : Type 0} → HeldLink X → Move → List Saying
sayings_with link move = flat_map said_by (completed_with move.flow (unfinished move.flow link) (piece_of link.handle move.packet))

abbrev pub link_after : {X : Type 0} → (X → Saying → X) → Move → HeldLink X → HeldLink X
link_after step move link =
    record {
      handle = link.handle;
      out_ = octets_with Out link.out_ (piece_in Out link.handle move);
      into = octets_with Into link.into (piece_in Into link.handle move);
      state = fold step link.state (sayings_with link move);
    }

-- ---- the links of a side

-- whether the host asked for a connection, what is held of the talks of links that ended, and the link that is up
pub record HeldLinks (X : Type 0) : Type 0 where
  pub asked : Bool
  pub past : List X
  pub up : Option (HeldLink X)

abbrev pub no_held_links : (X : Type 0) → HeldLinks X
no_held_links X = record { asked = false; past = []; up = None }

abbrev pub new_link : {X : Type 0} → X → ℕ → HeldLink X
new_link start handle = record { handle = handle; out_ = []; into = []; state = start }

abbrev pub made_with : {X : Type 0} → X → (status handle : ℕ) → HeldLinks X → Option (HeldLink X)
made_with start status handle links = if links.asked && (status == 0) && is_none links.up then Some (new_link start handle) else None

abbrev pub ended_with : {X : Type 0} → (X → Saying → X) → ℕ → Move → HeldLinks X → Option (HeldLink X) → HeldLinks X
ended_with step handle move links None = links
ended_with step handle move links (Some link) =
    if link.handle == handle
    then record links { past = links.past ++ link.state ∷ []; up = None }
    else record links { up = option_map (link_after step move) links.up }

abbrev pub links_by : {X : Type 0} → (X → Saying → X) → X → Move → HeldLinks X → LinkNews → HeldLinks X
links_by step start move links Asked = record links { asked = true; up = option_map (link_after step move) links.up }
links_by step start move links (Answered status handle) =
    record links { asked = false; up = option_or (made_with start status handle links) (option_map (link_after step move) links.up) }
links_by step start move links (LinkEnded handle) = ended_with step handle move links links.up
links_by step start move links NoNews = record links { up = option_map (link_after step move) links.up }

abbrev pub links_after : {X : Type 0} → (X → Saying → X) → X → HeldLinks X → Move → HeldLinks X
links_after step start links move = links_by step start move links (link_news move)

-- an entry that moves nothing at the side changes nothing
abbrev pub links_with : {X : Type 0} → (X → Saying → X) → X → Side → HeldLinks X → Entry → HeldLinks X
links_with step start side links entry = fold (links_after step start) links (option_to_list (move_of side entry))

abbrev pub held_links : {X : Type 0} → (X → Saying → X) → X → Side → List Entry → HeldLinks X
held_links {X} step start side entries = fold (links_with step start side) (no_held_links X) entries

-- what is held of each talk, in their order
abbrev pub states : {X : Type 0} → HeldLinks X → List X
states links = links.past ++ option_to_list (option_map (λ link. link.state) links.up)

-- ---- looking back

abbrev pub link_back : {X : Type 0} → (List Saying → X) → Link → HeldLink X
link_back of link =
    record {
      handle = link.handle;
      out_ = open_after (pdu_limit Out) (pieces Out link.handle link.moves);
      into = open_after (pdu_limit Into) (pieces Into link.handle link.moves);
      state = of (talk link);
    }

abbrev pub links_back : {X : Type 0} → (List Saying → X) → Linking → HeldLinks X
links_back of now = record { asked = now.asked; past = map (λ link. of (talk link)) now.past; up = option_map (link_back of) now.up }

-- the same, by the whole talk of each link
abbrev pub held_back : {X : Type 0} → (List Saying → X) → Side → List Entry → HeldLinks X
held_back of side entries = links_back of (linking (moves side entries))
