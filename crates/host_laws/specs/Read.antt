-- What a host says is read as it was meant, whatever it heard (Core 5.1, Volume 3 Part A, 3.1 and 4).
use Rattle.std.specs.Prelude.{ℕ, ◌≡◌, List, Option, Some}
use Rattle.std.specs.List.{AllByRecursion}
use Rattle.shelf_model.specs.acl_fragments.specs.Pieces.{channel_of}
use Rattle.shelf_model.specs.bt_base.specs.declared.settings.Settings.{Settings}
use Rattle.shelf_model.specs.bt_base.specs.Octets.{IsOctets}
use Rattle.shelf_model.specs.bt_base.specs.Objects.{Contents}
use Rattle.shelf_model.specs.world_model.specs.Machines.{News, Linked, Failed, Heard, TimerFired, Cancelled, Opening}
use Rattle.shelf_model.specs.host_model.specs.Circumstances.{Circumstance}
use Rattle.shelf_model.specs.host_model.specs.Profiles.{Profile}
use Rattle.shelf_model.specs.host_model.specs.Hosts.{Host, first_host, next}
use Rattle.shelf_model.specs.host_model.specs.Clients.{client_profile}
use Rattle.shelf_model.specs.host_model.specs.Servers.{server_profile}
use Rattle.shelf_model.specs.host_model.specs.Machines.{upper}
use Rattle.host_laws.specs.Acts.{Act, Hears, Says, Acting}
use Rattle.host_laws.specs.Calm.{IsReadFrom}

-- a PDU on the signalling channel is octets
abbrev pub IsSoberPdu : List ℕ → Type 0
IsSoberPdu pdu = channel_of pdu ≡ 0x0001 → IsOctets pdu

-- so is a PDU that comes in
abbrev pub IsHeardSo : (List ℕ → Type 0) → News → Type 0
IsHeardSo S (Linked event) = Unit {0}
IsHeardSo S (Failed status) = Unit {0}
IsHeardSo S (Heard pdu) = S pdu
IsHeardSo S TimerFired = Unit {0}
IsHeardSo S Cancelled = Unit {0}
IsHeardSo S (Opening name) = Unit {0}

abbrev pub IsActSo : (List ℕ → Type 0) → Act Circumstance → Type 0
IsActSo S (Hears circumstances news) = IsHeardSo S news
IsActSo S (Says pdu) = Unit {0}

abbrev pub IsSoberAct : Act Circumstance → Type 0
IsSoberAct act = IsActSo IsSoberPdu act

-- Whatever a host hears, of octets, and whatever its ports answer: each PDU that it says is read as what its channels gave.
abbrev pub SaysAsRead : {P : Type 0} → Profile P → Type 0
SaysAsRead {P} A =
    (acts : List (Act Circumstance)) (now after : Host P) (pdu : List ℕ) → AllByRecursion IsSoberAct acts → Acting (upper A) acts (first_host A) now → next A now ≡ Some (pdu, after) → IsReadFrom pdu now

-- So do clients and servers.
pub record SaidIsRead : Type 0 where
  pub clients : (settings : Settings) → SaysAsRead (client_profile settings)
  pub servers : (settings : Settings) (content : Option Contents) → SaysAsRead (server_profile settings content)
