-- The form `receive`: a host that receives is fed a source (this project's own).
use Rattle.std.specs.Prelude.{ℕ, ◌≡◌, ◌⊎◌, List, [], Option, codes, Result, Ok, Err}
use Rattle.bt_base.specs.Counts.{HasRisen}
use Rattle.bt_base.specs.Objects.{Contents}
use Rattle.bt_base.specs.PlainSettings.{IsPlain}
use Rattle.bt_base.specs.declared.settings.Settings.{Settings}
use Rattle.btpush_forms.specs.declared.status.Status.{Status}
use Rattle.btpush_forms.specs.declared.status.Status.TheVariants as status
use Rattle.btpush_forms.specs.Carrying.{place_line}
use Rattle.btpush_forms.specs.Refusing.{Refuses}
use Rattle.bt_host.specs.obex_session.specs.Counting as counting
use Rattle.bt_host.specs.host_model.specs.Servers.{ServerProfile}
use Rattle.bt_host.specs.Newness.{new_stack}
use Rattle.bt_host.specs.Noting.{Noted}
use Rattle.bt_host.specs.NotedHosts.{noted_server, server_noting}
use Rattle.bt_host.specs.Stacks.{standing}
use Rattle.receiving.specs.declared.fault.StreamRefusal.{StreamRefusal}
use Rattle.receiving.specs.declared.fault.StreamRefusal.TheVariants.{BadIndicator, AclTooLong, Truncated, CommandFailed, BadBuffers, TooLong}
use Rattle.receiving.specs.declared.fault.ListenFault.{ListenFault}
use Rattle.receiving.specs.declared.fault.ListenFault.TheVariants.{Refused, ReadFault, WriteFault, NoMemory}
use Rattle.receiving.specs.Turns.{Stand, begun}
use Rattle.receiving.specs.Coming.{Unless, Comes, Beside}

-- the name of a refusal
abbrev pub refusal_name : StreamRefusal → List ℕ
refusal_name BadIndicator = codes "BadIndicator"
refusal_name AclTooLong = codes "AclTooLong"
refusal_name Truncated = codes "Truncated"
refusal_name CommandFailed = codes "CommandFailed"
refusal_name BadBuffers = codes "BadBuffers"
refusal_name TooLong = codes "TooLong"

-- How it is told what came of a stream: by the status alone, or, where the stream is refused, by a line in the trace too, of which
-- after a fault a front is there.
abbrev pub Tells : Result (Unit {0}) ListenFault → (trace trace' : Option (List ℕ)) → Status → Type 0
Tells (Ok done) trace trace' result = (result ≡ status.Ok) × (trace' ≡ trace)
Tells (Err (Refused refusal place)) trace trace' result = Refuses (place_line (refusal_name refusal) place) trace trace' result
Tells (Err ReadFault) trace trace' result = (result ≡ status.ReadFault) × (trace' ≡ trace)
Tells (Err WriteFault) trace trace' result = (result ≡ status.WriteFault) × (trace' ≡ trace)
Tells (Err NoMemory) trace trace' result = (result ≡ status.NoMemory) × (trace' ≡ trace)

-- a server of these settings before anything happened, whose inbox holds that
abbrev pub new_server_host : Settings → Option Contents → Stand (Noted ServerProfile)
new_server_host settings inbox = standing (server_noting (λ content. content)) inbox (new_stack settings)

-- what the inbox of a server holds
abbrev pub stored_by : Stand (Noted ServerProfile) → Option Contents
stored_by stands = (stands []).host.profile.end.inbox.content

abbrev pub beside_counts : Option (List ℕ) → counting.Counts → Beside
beside_counts sink counts = record { sink = sink; counts = counts }

-- A new server of plain settings began, and was fed the source to its end, or to where the stream is refused or a port failed: the sink
-- gained what it said, and the inbox what it stored, whose counts say what it answered. And it is told what came of that.
pub record Receives (source source' sink sink' trace trace' : Option (List ℕ)) (inbox inbox' : Option Contents) (counts counts' : counting.Counts) (result : Status) : Type 0 where
  pub settings : Settings
  pub plain : IsPlain settings
  pub stands : Stand (Noted ServerProfile)
  pub end : Result (Unit {0}) ListenFault
  pub comes : Comes (noted_server settings) (begun (new_server_host settings inbox)) source source' stands (beside_counts sink counts) (beside_counts sink' counts') end
  pub stored : Unless end (inbox' ≡ stored_by stands)
  pub tells : Tells end trace trace' result

-- what a host is fed of a source, before that is told
pub record Listened (source source' sink sink' : Option (List ℕ)) (inbox inbox' : Option Contents) (counts counts' : counting.Counts) (end : Result (Unit {0}) ListenFault) : Type 0 where
  pub settings : Settings
  pub plain : IsPlain settings
  pub stands : Stand (Noted ServerProfile)
  pub comes : Comes (noted_server settings) (begun (new_server_host settings inbox)) source source' stands (beside_counts sink counts) (beside_counts sink' counts') end
  pub stored : Unless end (inbox' ≡ stored_by stands)

-- nothing was read or written, and the inbox holds what it held
pub record IsUntouched (source source' sink sink' trace trace' : Option (List ℕ)) (inbox inbox' : Option Contents) : Type 0 where
  pub source_is : source' ≡ source
  pub sink_is : sink' ≡ sink
  pub trace_is : trace' ≡ trace
  pub inbox_is : inbox' ≡ inbox

-- a count of shortages rose
abbrev pub AnyShort : (source source' sink sink' trace trace' inbox inbox' : ℕ) → Type 0
AnyShort source source' sink sink' trace trace' inbox inbox' = HasRisen source source' ⊎ HasRisen sink sink' ⊎ HasRisen trace trace' ⊎ HasRisen inbox inbox'
