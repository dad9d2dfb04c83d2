-- New hosts have only begun (this project's own).
use Rattle.std.specs.Prelude.{◌≡◌, Bool, true, false, Option, List, [], ◌∷◌, refl}
use Rattle.std.proofs.Common.{sym, subst, true≢false, ◌∙◌}
use Rattle.bt_base.specs.Objects.{Object, Contents}
use Rattle.bt_base.specs.declared.settings.Settings.{Settings}
use Rattle.push_terms.specs.declared.word.Side.{Side}
use Rattle.push_terms.specs.declared.word.Side.TheVariants.{A, B}
use Rattle.host_link.specs.PuttingOut.{started}
use Rattle.shelf_model.specs.world_model.specs.Stations.{Commanding, first_station}
use Rattle.shelf_model.specs.station_laws.specs.Seen.{role_of}
use Rattle.shelf_model.specs.host_model.specs.Profiles.{Profile}
use Rattle.shelf_model.specs.host_model.specs.Settings.{SetHost, with_settings}
use Rattle.shelf_model.specs.host_model.proofs.Setting.{hosts_say_octets}
use Rattle.radio_world.specs.Standing.{starting}
use Rattle.radio_world.specs.Beginning.{HasBegun, Begins}
use Rattle.line_laws.specs.Seeing.{seen, IsSeen}
use Rattle.line_laws.specs.Laws.{GoesAsSeen}
use Rattle.line_laws.proofs.Seeing.{stations_are_seen}
use Rattle.bt_host.specs.Stacks.{Standing, standing, Rests}
use Rattle.bt_host.specs.Newness as served
use Rattle.bt_host.specs.Pushing as pushed
use Rattle.bt_host.specs.NotedHosts.{noted_client, noted_client_machine, noted_server_machine, client_noting, noted_server, server_noting}
use Rattle.bt_host.specs.Playing.{set_host, playing, fresh_client, fresh_server, PushesSoundly, ServesSoundly}

begins : {S : Type 0} (profile : Settings → Profile S) (side : Side) (first : SetHost S)
    → GoesAsSeen (starting first (with_settings profile)) side (Commanding ∷ []) (first_station (starting first (with_settings profile)) side) first (started (role_of side))
begins profile side first = stations_are_seen (starting first (with_settings profile)) side (hosts_say_octets profile)

-- its octets are those of its first command
pub new_seen : {S : Type 0} (profile : Settings → Profile S) (side : Side) (first : SetHost S) → IsSeen side first (started (role_of side))
new_seen profile side first = (begins profile side first).is_seen

rests_at : {S : Type 0} (P : Profile S) (side : Side) (now : Standing S) → P.wants_link now.host.profile ≡ false → Rests P (record now { line = started (role_of side) })
rests_at P A now wants = record { pieces = refl; command = refl; said = λ can. absurd (true≢false (sym can)); keeps = λ none more leaves. refl; asks = λ asked off few. absurd (true≢false (sym asked ∙ wants)) }
rests_at P B now wants = record { pieces = refl; command = refl; said = λ can. absurd (true≢false (sym can)); keeps = λ none more leaves. refl; asks = λ asked off few. absurd (true≢false (sym asked ∙ wants)) }

-- and it has done all that it can, where it wants no link
pub new_rests : {S : Type 0} (P : Profile S) (side : Side) (now : Standing S) → now.line ≡ started (role_of side) → P.wants_link now.host.profile ≡ false → Rests P now
new_rests P side now line wants = subst (λ l. Rests P (record now { line = l })) (sym line) (rests_at P side now wants)

-- it did no more than to put that command out
new_begun : {S : Type 0} (profile : Settings → Profile S) (side : Side) (first : SetHost S) → (with_settings profile).is_idle first ≡ true → HasBegun (with_settings profile) side (seen first (started (role_of side)))
new_begun profile side first idle = record { first = first; idle = idle; efforts = Commanding ∷ []; makes = (begins profile side first).makes }

-- ---- a client and a server

client_sound : {P : Type 0} (holds : P → Option (List Object)) (settings : Settings) (shelf : P) → PushesSoundly holds (fresh_client settings) shelf
client_sound holds settings shelf = (
  refl,
  (record { works = refl; called = refl; psm = refl; endpoints = tt }, refl),
  record {
    is_seen = λ rest. new_seen noted_client A (set_host (client_noting holds) shelf (pushed.new_stack settings) rest);
    rests = λ rest. new_rests (noted_client settings) A (standing (client_noting holds) shelf (pushed.new_stack settings) rest) refl refl;
  },
)

server_sound : {Q : Type 0} (content : Q → Option Contents) (pending : Q → Bool) (settings : Settings) (inbox : Q) → pending inbox ≡ false → ServesSoundly content pending (fresh_server settings) inbox
server_sound content pending settings inbox none = (
  refl,
  record { under_way = none; sound = refl },
  record {
    is_seen = λ rest. new_seen noted_server B (set_host (server_noting content) inbox (served.new_stack settings) rest);
    rests = λ rest. new_rests (noted_server settings) B (standing (server_noting content) inbox (served.new_stack settings) rest) refl refl;
  },
)

pub client_begins : {P : Type 0} (holds : P → Option (List Object)) (settings : Settings) (shelf : P)
    → Begins noted_client_machine A (playing (client_noting holds) shelf (fresh_client settings).stack) (fresh_client settings).framing.held (PushesSoundly holds (fresh_client settings) shelf)
client_begins holds settings shelf = record {
  begun = λ rest. new_begun noted_client A (set_host (client_noting holds) shelf (pushed.new_stack settings) rest) refl;
  none_held = refl;
  sound = client_sound holds settings shelf;
}

pub server_begins : {Q : Type 0} (content : Q → Option Contents) (pending : Q → Bool) (settings : Settings) (inbox : Q) → pending inbox ≡ false
    → Begins noted_server_machine B (playing (server_noting content) inbox (fresh_server settings).stack) (fresh_server settings).framing.held (ServesSoundly content pending (fresh_server settings) inbox)
server_begins content pending settings inbox none = record {
  begun = λ rest. new_begun noted_server B (set_host (server_noting content) inbox (served.new_stack settings) rest) refl;
  none_held = refl;
  sound = server_sound content pending settings inbox none;
}
