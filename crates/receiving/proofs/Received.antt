-- A new server that is fed a source.
use Rattle.std.proofs.Common.{◌≡◌, ℕ, Bool, true, false, nat_lt, List, length, refl, sym, subst}
use Rattle.std.specs.Prelude.{Option, None, Result, Err}
use Rattle.bt_base.specs.Objects.{Contents}
use Rattle.bt_base.specs.PlainSettings.{IsPlain}
use Rattle.bt_base.specs.declared.settings.Settings.{Settings}
use Rattle.bt_host.specs.obex_session.specs.Counting as counting
use Rattle.bt_host.specs.host_model.specs.Circumstances.{Circumstance}
use Rattle.bt_host.specs.Newness.{new_stack}
use Rattle.bt_host.specs.Noting.{Noted}
use Rattle.bt_host.specs.NotedHosts.{noted_server, server_noting}
use Rattle.bt_host.specs.Refusals.{fresh_framing}
use Rattle.bt_host.specs.Serving.{Served, Works}
use Rattle.bt_host.specs.Shells.{Shelled, settings_of}
use Rattle.bt_host.specs.Stacks.{standing, usual_peer}
use Rattle.receiving.specs.declared.fault.ListenFault.{ListenFault}
use Rattle.receiving.specs.declared.fault.ListenFault.TheVariants.{NoMemory}
use Rattle.bt_host.specs.host_model.specs.Settings.{plain_settings}
use Rattle.receiving.specs.Turns.{HasRest, begun}
use Rattle.receiving.specs.Coming.{Comes}
use Rattle.receiving.specs.Receiving.{Listened, Receives, Tells, new_server_host, stored_by, beside_counts}
use Rattle.btpush_forms.specs.declared.status.Status.{Status}
use Rattle.receiving.proofs.Beginning.{new_rests, nothing_comes, plain}
use Rattle.receiving.proofs.Streams.{unless_any}

abbrev new_server_shell : Settings → Shelled (Noted Served)
new_server_shell settings = record { framing = fresh_framing; stack = new_stack settings; refusal = None }

module _ {P : Type 0} (content : P → Option Contents) (settings : Settings) (host : Shelled (Noted Served)) (is : host ≡ new_server_shell settings) (port : P) where
  pub new_sound : (pending : Bool) → pending ≡ false → (host.refusal ≡ None) × Works host.stack.upper.end.end pending
  new_sound pending none = subst (λ (h : Shelled (Noted Served)). (h.refusal ≡ None) × Works h.stack.upper.end.end pending) (sym is) (refl, record { under_way = none; sound = refl })

  pub new_has_rest : HasRest (noted_server (settings_of host)) (standing (server_noting content) port host.stack)
  new_has_rest =
      subst (λ (h : Shelled (Noted Served)). HasRest (noted_server (settings_of h)) (standing (server_noting content) port h.stack)) (sym is)
      (λ rest. new_rests (noted_server settings) (standing (server_noting content) port (new_stack settings) rest).host usual_peer refl)

  pub new_room : (rest : List Circumstance) → nat_lt (length (standing (server_noting content) port host.stack rest).line.out) 65536 ≡ true
  new_room = subst (λ (h : Shelled (Noted Served)). (rest : List Circumstance) → nat_lt (length (standing (server_noting content) port h.stack rest).line.out) 65536 ≡ true) (sym is) (λ rest. refl)

  pub listened_by : IsPlain settings → (last : Shelled (Noted Served)) (port' : P) (source source' sink sink' : Option (List ℕ)) (counts counts' : counting.Counts) (result : Result (Unit {0}) ListenFault)
      → Comes (noted_server (settings_of host)) (begun (standing (server_noting content) port host.stack)) source source' (standing (server_noting content) port' last.stack) (beside_counts sink counts) (beside_counts sink' counts') result → Listened source source' sink sink' (content port) (content port') counts counts' result
  listened_by plain last port' source source' sink sink' counts counts' result comes = record {
    settings = settings;
    plain = plain;
    stands = standing (server_noting content) port' last.stack;
    comes = subst (λ (h : Shelled (Noted Served)). Comes (noted_server (settings_of h)) (begun (standing (server_noting content) port h.stack)) source source' (standing (server_noting content) port' last.stack) (beside_counts sink counts) (beside_counts sink' counts') result) is comes;
    stored = unless_any result (content port' ≡ stored_by (standing (server_noting content) port' last.stack)) refl;
  }

pub nothing_listened : (source sink : Option (List ℕ)) (inbox : Option Contents) (counts counts' : counting.Counts) → Listened source source sink sink inbox inbox counts counts' (Err NoMemory)
nothing_listened source sink inbox counts counts' = record {
  settings = plain_settings;
  plain = plain;
  stands = new_server_host plain_settings inbox;
  comes = nothing_comes (noted_server plain_settings) (begun (new_server_host plain_settings inbox)) source (new_server_host plain_settings inbox) (beside_counts sink counts) counts';
  stored = tt;
}

pub receives_by : (source source' sink sink' trace trace' : Option (List ℕ)) (inbox inbox' : Option Contents) (counts counts' : counting.Counts) (end : Result (Unit {0}) ListenFault) (result : Status) → Listened source source' sink sink' inbox inbox' counts counts' end → Tells end trace trace' result
    → Receives source source' sink sink' trace trace' inbox inbox' counts counts' result
receives_by source source' sink sink' trace trace' inbox inbox' counts counts' end result listened tells = record {
  settings = listened.settings;
  plain = listened.plain;
  stands = listened.stands;
  end = end;
  comes = listened.comes;
  stored = listened.stored;
  tells = tells;
}
