-- The links of a host (Core 5.1, Volume 2 Part E, 7.1.5, 7.1.8, 7.7.3 and 7.7.5). A host has one link at a time.
use Rattle.std.specs.Prelude.{ℕ, ◌==◌, ◌||◌, ◌&&◌, Bool, true, false, List, [], ◌∷◌, ◌++◌, drop, fold, slice_index, Option, Some, None, is_none, option_to_list, if◌then◌else◌}
use Rattle.std.specs.Option.{option_map, option_or}
use Rattle.byteorder.specs.Endian.{little_number}
use Rattle.h4_framing.specs.Packets.{Packet, Command, Event}
use Rattle.hci_packets.specs.Commands.{command_refusal}
use Rattle.hci_packets.specs.Events.{event_refusal}
use Rattle.capture.specs.declared.flow.Flow.{Flow}
use Rattle.capture.specs.declared.flow.Flow.TheVariants.{Out, Into}
use Rattle.push_terms.specs.declared.word.Side.{Side}
use Rattle.capture.specs.Entries.{Entry}
use Rattle.capture.specs.Moves.{Move, moves}

-- what a packet means for the link of its host
pub data LinkNews : Type 0 where
  -- the host asks for a connection: Create Connection or Accept Connection Request
  Asked : LinkNews
  -- Connection Complete
  Answered : (status handle : ℕ) → LinkNews
  -- Disconnection Complete of a link that did end
  LinkEnded : (handle : ℕ) → LinkNews
  -- anything else
  NoNews : LinkNews

abbrev pub is_asked : LinkNews → Bool
is_asked Asked = true
is_asked _ = false

-- commands and events whose parameters are refused mean nothing
abbrev pub asked_by : ℕ → List ℕ → LinkNews
asked_by opcode params = if (opcode == 0x0405 || opcode == 0x0409) && is_none (command_refusal opcode params) then Asked else NoNews

abbrev pub ended_by : List ℕ → LinkNews
ended_by params = if slice_index params 0 == 0 then LinkEnded (little_number 2 (drop 1 params)) else NoNews

abbrev pub told_by : ℕ → List ℕ → LinkNews
told_by code params =
    if is_none (event_refusal code params) then
    (if code == 0x03 then Answered (slice_index params 0) (little_number 2 (drop 1 params)) else
    (if code == 0x05 then ended_by params else NoNews))
    else NoNews

abbrev pub news : Flow → Packet → LinkNews
news Out (Command opcode params) = asked_by opcode params
news Into (Event code params) = told_by code params
news _ _ = NoNews

abbrev pub link_news : Move → LinkNews
link_news move = news move.flow move.packet

-- a link: its handle, and what moved while it was up
pub record Link : Type 0 where
  pub handle : ℕ
  pub moves : List Move

-- the links of a host so far: whether it asked for a connection since it was last told of one, the links that ended,
-- and the one that is up
pub record Linking : Type 0 where
  pub asked : Bool
  pub past : List Link
  pub up : Option Link

abbrev pub longer : Move → Link → Link
longer move link = record { handle = link.handle; moves = link.moves ++ move ∷ [] }

-- the link that is up goes on
abbrev pub gone_on : Move → Linking → Linking
gone_on move linking = record linking { up = option_map (longer move) linking.up }

-- a connection that was asked for, and was made while no link was up, is a link
abbrev pub made : ℕ → ℕ → Linking → Option Link
made status handle linking =
    if linking.asked && (status == 0) && is_none linking.up then Some (record { handle = handle; moves = [] }) else None

-- a Disconnection Complete ends the link of its handle alone
abbrev pub ends_with : ℕ → Move → Linking → Option Link → Linking
ends_with handle move linking None = linking
ends_with handle move linking (Some link) =
    if link.handle == handle then record linking { past = linking.past ++ link ∷ []; up = None } else gone_on move linking

abbrev pub after_news : Move → Linking → LinkNews → Linking
after_news move linking Asked = record (gone_on move linking) { asked = true }
after_news move linking (Answered status handle) =
    record linking { asked = false; up = option_or (made status handle linking) (option_map (longer move) linking.up) }
after_news move linking (LinkEnded handle) = ends_with handle move linking linking.up
after_news move linking NoNews = gone_on move linking

abbrev pub after_move : Linking → Move → Linking
after_move linking move = after_news move linking (link_news move)

abbrev pub no_links : Linking
no_links = record { asked = false; past = []; up = None }

-- what a host's packets say of its links
abbrev pub linking : List Move → Linking
linking moved = fold after_move no_links moved

-- all links, in their order: the last one may be up
abbrev pub links : Side → List Entry → List Link
links side entries = (linking (moves side entries)).past ++ option_to_list (linking (moves side entries)).up

-- the link that is up at the end
abbrev pub link_up : Side → List Entry → Option Link
link_up side entries = (linking (moves side entries)).up
