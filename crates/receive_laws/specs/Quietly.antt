-- Where nothing that a server has to say waits at each PDU that a stream brings it, by the packets that move between it and its controller: no answer is
-- missing then, also where it has just used up all buffers (Core 5.1, Volume 2 Part E, 4.1.1).
use Rattle.std.specs.Prelude.{ℕ, ◌≡◌, ◌⊎◌, true, false, List, [], ◌∷◌, ◌++◌, Option, Some, None}
use Rattle.receiving.specs.bt_base.specs.declared.settings.Settings.{Settings}
use Rattle.receiving.specs.bt_base.specs.Objects.{Object}
use Rattle.receiving.specs.h4_framing.specs.Packets.{Packet}
use Rattle.receiving.specs.capture.specs.Links.{Link, linking}
use Rattle.receiving.specs.capture.specs.Moves.{Move}
use Rattle.receiving.specs.host_link.specs.declared.role.Role.TheVariants.{Server}
use Rattle.receiving.specs.host_model.specs.Circumstances.{Circumstance}
use Rattle.receiving.specs.host_model.specs.Hosts.{Host, has_more}
use Rattle.receiving.specs.host_model.specs.Servers.{ServerProfile}
use Rattle.noting_laws.specs.scenario_laws.specs.Gains.{serving}
use Rattle.orderly_laws.specs.Orderly.{IsGranted}
use Rattle.orderly_laws.specs.unit_laws.specs.Capacity.{takes_more}
use Rattle.orderly_laws.specs.unit_laws.specs.Living.{Did}
use Rattle.orderly_laws.specs.unit_laws.specs.Units.{Lined, Occasion, units}
use Rattle.receiving.specs.Turns.{Turn}
use Rattle.receive_laws.specs.Freely.{TellsOn}
use Rattle.receive_laws.specs.Moving.{MoveFromStart}

-- no piece of a PDU waits, and the server has no PDU to say
pub record IsQuiet (now : Lined (Host ServerProfile)) : Type 0 where
  pub pieces : now.line.pieces ≡ []
  pub none_more : has_more now.upper ≡ false

-- So is the server of which these packets are the units, where its timer did not fire and its inbox granted all.
abbrev pub FallsQuiet : Settings → List Object → List Move → Type 0
FallsQuiet settings before moved =
    (occasions : List (Occasion Circumstance)) (now : Lined (Host ServerProfile)) → Did (serving settings before) Server occasions now → IsGranted occasions → units occasions ≡ moved → IsQuiet now

-- where a packet tells something on a link that is up its controller takes one packet more, or all was said before
abbrev pub IsQuietOn : Settings → List Object → Option Link → List Move → Packet → Type 0
IsQuietOn settings before None moved packet = Unit {0}
IsQuietOn settings before (Some link) moved packet = TellsOn link packet → (takes_more moved ≡ true) ⊎ FallsQuiet settings before moved

abbrev pub ComesQuietly : Settings → List Object → List Move → Option Packet → Type 0
ComesQuietly settings before moved None = Unit {0}
ComesQuietly settings before moved (Some packet) = IsQuietOn settings before (linking moved).up moved packet

-- so it is in each turn of a stream, behind all that moved before it
abbrev pub IsQuietStream : Settings → List Object → (said : List ℕ) → List Turn → Type 0
IsQuietStream settings before said turns =
    (ahead : List Turn) (turn : Turn) (behind : List Turn) → turns ≡ ahead ++ turn ∷ behind → (moved : List Move) → MoveFromStart said ahead moved → ComesQuietly settings before moved turn.packet
