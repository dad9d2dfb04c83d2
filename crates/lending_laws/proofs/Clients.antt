-- A client in code goes as the client that is given what its shelf answers with each thing that it hears.
use Rattle.std.proofs.Common.{◌≡◌, ℕ, false, List, Option, Some, None, refl, sym, ap, ◌∙◌}
use Rattle.call_laws.specs.bt_host.specs.bt_base.specs.declared.settings.Settings.{Settings}
use Rattle.call_laws.specs.unit_laws.specs.scenario_laws.specs.world_model.specs.Machines.{News}
use Rattle.call_laws.specs.bt_host.specs.run_laws.specs.Embedding.{said_as}
use Rattle.noting_laws.specs.alike_laws.specs.Twins.{AreTwins}
use Rattle.call_laws.specs.bt_host.specs.host_model.specs.Circumstances.{Circumstance}
use Rattle.call_laws.specs.bt_host.specs.host_model.specs.Clients.{ClientProfile, client_profile}
use Rattle.call_laws.specs.bt_host.specs.host_model.specs.Hosts.{Host, hear, next, has_more}
use Rattle.call_laws.specs.bt_host.specs.host_model.specs.Machines.{upper}
use Rattle.call_laws.specs.bt_host.specs.host_model.specs.Profiles.{Profile}
use Rattle.call_laws.specs.bt_host.specs.host_model.specs.Settings.{SetHost, set_to, said_with, client_machine}
use Rattle.call_laws.specs.bt_host.specs.host_model.proofs.Orderly.{says_octets}
use Rattle.call_laws.specs.bt_host.specs.host_model.proofs.Setting.{said_by}
use Rattle.call_laws.specs.bt_host.specs.Noting.{Noted}
use Rattle.call_laws.specs.bt_host.specs.NotedHosts.{credits_of_shelved, noted_client}
use Rattle.call_laws.specs.bt_host.specs.Shelving.{Shelved, shelf_profile}
use Rattle.call_laws.specs.bt_host.specs.Stopping.{none_next}
use Rattle.noting_laws.specs.Noting.{plain_set}
use Rattle.noting_laws.specs.inbox_laws.proofs.Keeping.{hear_kept, next_kept}
use Rattle.noting_laws.proofs.Forgetting.{notes_are_more}
use Rattle.scenario_play.specs.Shelving.{bare_set, plain_client}
use Rattle.scenario_play.proofs.Bare.{shelf_machine, bare_alike}
use Rattle.lending_laws.proofs.Following.{Follows}
use Rattle.lending_laws.proofs.Roomy.{IsAble, keeps_able}

-- no machine tells itself apart
same_twins : (s t : SetHost ClientProfile) → t ≡ s → AreTwins client_machine s t
same_twins s t same = record {
  hear = λ answers news. ap (λ x. client_machine.hear answers news x) same;
  next = ap (λ x. client_machine.next x) same;
  wants_link = ap (λ x. client_machine.wants_link x) same;
  leaves_link = ap (λ x. client_machine.leaves_link x) same;
  is_idle = ap (λ x. client_machine.is_idle x) same;
  outcome = ap (λ x. client_machine.outcome x) same;
  armed = ap (λ x. client_machine.armed x) same;
  may_cancel = ap (λ x. client_machine.may_cancel x) same;
  has_check = λ own. ap (λ x. client_machine.has_check x own) same;
}

none_said : (settings : Settings) (said : Option (List ℕ × Host ClientProfile)) → said_with settings said ≡ None → said ≡ None
none_said settings None is = refl
none_said settings (Some one) is = cc

module _ (settings : Settings) where
  abbrev A : Profile ClientProfile
  A = client_profile settings

  abbrev N : Profile (Noted Shelved)
  N = noted_client settings

  -- without its notes and what its shelf tells it cannot be told apart from that client, and it lacked no memory
  abbrev pub IsClient : Host (Noted Shelved) → Host ClientProfile → Type 0
  IsClient host there =
      AreTwins client_machine (plain_client (set_to settings host)) (set_to settings there) × (there.channels ≡ host.channels) × (there.profile.client ≡ host.profile.end.pushing.client) × IsAble settings host.profile

  is_client : (host : Host (Noted Shelved)) (there : Host ClientProfile) → set_to settings there ≡ plain_client (set_to settings host) → IsAble settings host.profile → IsClient host there
  is_client host there same able = (
    same_twins (plain_client (set_to settings host)) (set_to settings there) same,
    ap (λ (s : SetHost ClientProfile). s.host.channels) same,
    ap (λ (s : SetHost ClientProfile). s.host.profile.client) same,
    able,
  )

  noted_says : (host : Host (Noted Shelved)) (said : Option (List ℕ × Host (Noted Shelved))) → next N host ≡ said → shelf_machine.next (plain_set (set_to settings host)) ≡ said_as plain_set (said_with settings said)
  noted_says host said is = (notes_are_more credits_of_shelved shelf_profile).next (set_to settings host) ∙ ap (λ (s : Option (List ℕ × Host (Noted Shelved))). said_as plain_set (said_with settings s)) is

  client_hears : (answers : List Circumstance) (news : News) (host : Host (Noted Shelved)) (there : Host ClientProfile) → IsClient host there → (gifts : List Circumstance) × IsClient (hear N answers news host) (hear A gifts news there)
  client_hears answers news host there (twins, channels, client, able) =
      let s = plain_set (set_to settings host) in
      let (gifts, heard) = bare_alike.hear answers news s (bare_set s) refl in
      let noted = (notes_are_more credits_of_shelved shelf_profile).hear answers news (set_to settings host) in
      (gifts, is_client (hear N answers news host) (hear A gifts news there) (twins.hear gifts news ∙ (heard ∙ ap bare_set noted)) (hear_kept N (IsAble settings) (keeps_able settings) answers news host able))

  client_says : (host : Host (Noted Shelved)) (there : Host ClientProfile) (pdu : List ℕ) (after : Host (Noted Shelved)) → IsClient host there → next N host ≡ Some (pdu, after) → (now : Host ClientProfile) × (next A there ≡ Some (pdu, now)) × IsClient after now
  client_says host there pdu after (twins, channels, client, able) is =
      let s = plain_set (set_to settings host) in
      let (now, now_is, said) = bare_alike.says s (bare_set s) refl pdu (plain_set (set_to settings after)) (noted_says host (Some (pdu, after)) is) in
      let (found, found_is, same) = said_by settings (next A there) pdu now (twins.next ∙ said) in
      (found, found_is, is_client after found (sym same ∙ now_is) (next_kept N (IsAble settings) (keeps_able settings) host pdu after is able))

  client_silent : (host : Host (Noted Shelved)) (there : Host ClientProfile) → IsClient host there → has_more host ≡ false → next A there ≡ None
  client_silent host there (twins, channels, client, able) off =
      let s = plain_set (set_to settings host) in
      none_said settings (next A there) (twins.next ∙ bare_alike.silent s (bare_set s) refl (noted_says host None (none_next N host off)))

  pub clients_follow : Follows N (upper A) IsClient
  clients_follow = record {
    octets = λ host pdu after is. says_octets A host pdu after is;
    hears = client_hears;
    says = client_says;
    silent = client_silent;
  }
