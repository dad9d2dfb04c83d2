-- What a server over RFCOMM lends can be spelled (Object Push Profile 1.2, 4.3; RFCOMM 1.2, 5.1).
use Rattle.std.specs.Prelude.{◌≡◌, Option, Some, None}
use Rattle.pair_laws.specs.bt_base.specs.declared.settings.Settings.{Settings}
use Rattle.pair_laws.specs.bt_base.specs.Objects.{Contents}
use Rattle.pair_laws.specs.bt_base.specs.Octets.{IsOctets}
use Rattle.pair_laws.specs.rfcomm_frames.specs.Frames.{PlainFrame}
use Rattle.pair_laws.specs.push_model.specs.Payloads.{IsSaid}
use Rattle.pair_laws.specs.push_model.specs.Server.{Server, Reacted, Lent, lends, lent_sdu}
use Rattle.pair_laws.specs.push_laws.specs.Occurrences.{Occurrence, Came, Went, Closed, LinkDown, Asked, Answering, begun, done}
use Rattle.pair_laws.specs.host_model.specs.Pdus.{sdu_of}
use Rattle.request_laws.specs.Spellable.{IsSpellable, SaysSpellable}

-- an SDU that comes are octets
abbrev pub ComesInOctets : Occurrence → Type 0
ComesInOctets (Came psm sdu) = IsOctets sdu
ComesInOctets (Went psm sdu) = Unit {0}
ComesInOctets (Closed psm) = Unit {0}
ComesInOctets LinkDown = Unit {0}
ComesInOctets Asked = Unit {0}
ComesInOctets (Answering answers) = Unit {0}

abbrev pub IsSomeSpellable : Option PlainFrame → Type 0
IsSomeSpellable None = Unit {0}
IsSomeSpellable (Some frame) = IsSpellable frame

-- its multiplexer says what can be spelled, its frame that waits can be, and what is left of its response are octets
abbrev pub LendsSpellable : Server → Type 0
LendsSpellable server = SaysSpellable server.mux × IsOctets server.listener.service.answer × IsSomeSpellable server.frame

-- So is a new server, and stays so, whatever happens to it, where SDUs that come are octets; and the octets of what it lends are those that spell it.
pub record ServerFramesAreSaid : Type 0 where
  pub first : (settings : Settings) (content : Option Contents) → LendsSpellable (begun settings content).server
  pub doing : (one : Occurrence) (at : Reacted) → ComesInOctets one → LendsSpellable at.server → LendsSpellable (done one at).server
  pub saying : (server : Server) → LendsSpellable server → (lent : Lent) → lent_sdu (lends server) ≡ Some lent → IsSaid lent.payload (sdu_of lent.payload)
