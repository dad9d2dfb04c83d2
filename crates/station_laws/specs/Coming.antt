-- What comes into a host from the controllers of this world (Core 5.1, Volume 2 Part E, 7.7).
use Rattle.std.specs.Prelude.{ℕ, ◌≡◌, ◌≤◌, ◌<◌, ◌^◌, ◌⊎◌, List, [], ◌∷◌, ◌++◌, length, Option, Some, None, if◌then◌else◌}
use Rattle.turn_laws.specs.bt_base.specs.Octets.{le16}
use Rattle.turn_laws.specs.bt_base.specs.Numbers.{IsHandle}
use Rattle.turn_laws.specs.acl_fragments.specs.Pieces.{Piece, channel_of}
use Rattle.turn_laws.specs.radio_model.specs.Controllers.{Answer, Returned, Stated, Called, LinkMade, LinkGone, GivenBack}
use Rattle.host_link.specs.Hearing.{PlainNews, Nothing, LinkUp, LinkDown, Pdu}
use Rattle.turn_laws.specs.world_model.specs.Machines.{LinkEvent, Up, Down}
use Rattle.turn_laws.specs.world_model.specs.Stations.{Station, longest_pdu, is_handle, gives}

-- what Read Buffer Size returns: success, and at least one packet of at least 27 octets
pub record AreBuffers (params : List ℕ) : Type 0 where
  pub size : ℕ
  pub count : ℕ
  pub long : 27 ≤ size
  pub some : 1 ≤ count
  pub size_fits : size < 2 ^ 16
  pub count_fits : count < 2 ^ 16
  pub are : params ≡ 0 ∷ (le16 size ++ (0 ∷ (le16 count ++ le16 0)))

-- what a command returns with success: Reset, Write Scan Enable, Read BD_ADDR, Read Buffer Size
abbrev pub IsReturned : ℕ → List ℕ → Type 0
IsReturned opcode params =
    ((opcode ≡ 0x0C03) × (params ≡ 0 ∷ [])) ⊎ ((opcode ≡ 0x0C1A) × (params ≡ 0 ∷ []))
    ⊎ ((opcode ≡ 0x1009) × (to : List ℕ) × (length to ≡ 6) × (params ≡ 0 ∷ to)) ⊎ ((opcode ≡ 0x1005) × AreBuffers params)

-- the other three commands have their status alone: Create Connection, Disconnect, Accept Connection Request
abbrev pub IsStated : ℕ → Type 0
IsStated opcode = (opcode ≡ 0x0405) ⊎ (opcode ≡ 0x0406) ⊎ (opcode ≡ 0x0409)

-- a controller answers the command that is awaited, tells of links that have handles, and gives back no more than one event can
abbrev pub MayCome : Option ℕ → Answer → Type 0
MayCome awaited (Returned opcode params) = IsReturned opcode params × (awaited ≡ Some opcode)
MayCome awaited (Stated opcode) = IsStated opcode
MayCome awaited Called = Unit {0}
MayCome awaited (LinkMade handle) = IsHandle handle
MayCome awaited (LinkGone handle reason) = IsHandle handle
MayCome awaited (GivenBack handle count) = IsHandle handle × (count < 2 ^ 16)

-- ---- the same news

abbrev pub news_of_link : Option LinkEvent → PlainNews
news_of_link None = Nothing
news_of_link (Some Up) = LinkUp
news_of_link (Some (Down reason)) = LinkDown reason

-- of the PDUs that a piece completes, which is one at most
abbrev pub news_of_pdus : List (List ℕ) → PlainNews
news_of_pdus [] = Nothing
news_of_pdus (pdu ∷ pdus) = Pdu (channel_of pdu) pdu

-- the PDUs that a piece on that handle completes
abbrev pub pdus_by : {S : Type 0} → ℕ → Piece → Station S → List (List ℕ)
pdus_by handle piece station = if is_handle handle station.link then gives longest_pdu station.joining piece else []
