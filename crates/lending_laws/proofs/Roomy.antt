-- A client in code does not lack memory: what its shelf answers is no want of it.
use Rattle.std.proofs.Common.{◌≡◌, ℕ, Bool, true, false, List, [], ◌∷◌, ◌++◌, map, Option, Some, None, Result, Ok, Err, refl, sym, ap, ◌∙◌}
use Rattle.std.specs.List.{AllByRecursion}
use Rattle.std.proofs.lemmas.List.Sums.{fold-append}
use Rattle.call_laws.specs.bt_host.specs.bt_base.specs.Objects.{Object, octets_of}
use Rattle.call_laws.specs.bt_host.specs.bt_base.specs.declared.ports.PortFault.{PortFault}
use Rattle.call_laws.specs.bt_host.specs.bt_base.specs.declared.settings.Settings.{Settings}
use Rattle.call_laws.specs.unit_laws.specs.scenario_laws.specs.host_laws.specs.Feeds.{Feed, Gifts, Learns, Receives, Happens, Sent, Steps, fed, all_fed}
use Rattle.call_laws.specs.unit_laws.specs.scenario_laws.specs.host_laws.specs.Memory.{HasRoom, IsRoomy, IsRoomyFeed}
use Rattle.call_laws.specs.unit_laws.specs.scenario_laws.specs.host_laws.proofs.MemorySteps.{clients_have_memory}
use Rattle.call_laws.specs.unit_laws.specs.scenario_laws.specs.world_model.specs.Machines.{News, Linked, Failed as NotLinked, Heard, TimerFired, Cancelled, Opening}
use Rattle.call_laws.specs.bt_host.specs.push_model.specs.Steps.{Part as Octets}
use Rattle.call_laws.specs.bt_host.specs.host_model.specs.Circumstances.{Circumstance, Size, Part, Stored}
use Rattle.call_laws.specs.bt_host.specs.host_model.specs.Clients.{ClientProfile, client_profile}
use Rattle.call_laws.specs.bt_host.specs.shelf_model.specs.Held.{size_in_octets, part_in_octets, is_at, part_where, given_at, given_by, length_of, is_length, size_where, sized, sized_in, held_by}
use Rattle.call_laws.specs.bt_host.specs.Noting.{Noted}
use Rattle.call_laws.specs.bt_host.specs.NotedHosts.{noted_client}
use Rattle.call_laws.specs.bt_host.specs.Shelving.{Shelved, memory_found, in_memory}
use Rattle.noting_laws.specs.inbox_laws.proofs.Keeping.{KeepsSo}

-- ---- what its shelf answers

size_roomy : (answer : Result ℕ PortFault) → HasRoom (size_in_octets (memory_found answer))
size_roomy (Ok size) = tt
size_roomy (Err error) = tt

where_roomy : (there : Bool) (part : List ℕ) → HasRoom (part_where there part)
where_roomy true part = tt
where_roomy false part = tt

part_roomy : (shelf : Option (List Object)) (name : List ℕ) (at : ℕ) (answer : Octets) → HasRoom (given_at shelf name at (part_in_octets (memory_found answer)))
part_roomy None name at (Ok part) = tt
part_roomy None name at (Err error) = tt
part_roomy (Some objects) name at (Ok part) = where_roomy (is_at at _ (octets_of name objects)) _
part_roomy (Some objects) name at (Err error) = tt

given_roomy : (shelf : Option (List Object)) (answers : List Circumstance) → AllByRecursion IsRoomy (map (given_by shelf) (map in_memory answers))
given_roomy shelf [] = tt
given_roomy shelf (Size answer ∷ rest) = (size_roomy answer, given_roomy shelf rest)
given_roomy shelf (Part excerpt ∷ rest) = (part_roomy shelf excerpt.name excerpt.at excerpt.answer, given_roomy shelf rest)
given_roomy shelf (Stored answer ∷ rest) = (tt, given_roomy shelf rest)

length_roomy : (there : Bool) (size : ℕ) → HasRoom (size_where there size)
length_roomy true size = tt
length_roomy false size = tt

sized_roomy : (name : List ℕ) (objects : List Object) (answer : Result ℕ PortFault) → HasRoom answer → HasRoom (sized name objects answer)
sized_roomy name objects (Ok size) room = length_roomy (is_length (length_of name objects) size) size
sized_roomy name objects (Err fault) room = room

each_roomy : (name : List ℕ) (objects : List Object) (answers : List Circumstance) → AllByRecursion IsRoomy answers → AllByRecursion IsRoomy (map (sized_in name objects) answers)
each_roomy name objects [] all = tt
each_roomy name objects (Size answer ∷ rest) all = (sized_roomy name objects answer all.0, each_roomy name objects rest all.1)
each_roomy name objects (Part excerpt ∷ rest) all = (all.0, each_roomy name objects rest all.1)
each_roomy name objects (Stored answer ∷ rest) all = (all.0, each_roomy name objects rest all.1)

-- also as a push begins
held_roomy : (shelf : Option (List Object)) (news : News) (answers : List Circumstance) → AllByRecursion IsRoomy (held_by shelf news (map in_memory answers))
held_roomy None news answers = given_roomy None answers
held_roomy (Some objects) (Linked event) answers = given_roomy (Some objects) answers
held_roomy (Some objects) (NotLinked status) answers = given_roomy (Some objects) answers
held_roomy (Some objects) (Heard pdu) answers = given_roomy (Some objects) answers
held_roomy (Some objects) TimerFired answers = given_roomy (Some objects) answers
held_roomy (Some objects) Cancelled answers = given_roomy (Some objects) answers
held_roomy (Some objects) (Opening name) answers = each_roomy name objects (map (given_by (Some objects)) (map in_memory answers)) (given_roomy (Some objects) answers)

-- ---- what it went through

all_more : (feeds : List Feed) (feed : Feed) → AllByRecursion IsRoomyFeed feeds → IsRoomyFeed feed → AllByRecursion IsRoomyFeed (feeds ++ feed ∷ [])
all_more [] feed all one = (one, tt)
all_more (other ∷ feeds) feed all one = (all.0, all_more feeds feed all.1 one)

-- It is what it is of this, from its first moment on, and none of it wants memory.
pub record IsFedRoomily (settings : Settings) (pushing : ClientProfile) : Type 0 where
  pub feeds : List Feed
  pub roomy : AllByRecursion IsRoomyFeed feeds
  pub is : pushing ≡ all_fed (client_profile settings) (client_profile settings).first feeds

module _ (settings : Settings) where
  pub well_fed : (pushing : ClientProfile) → IsFedRoomily settings pushing → pushing.client.failed ≡ false
  well_fed pushing so = ap (λ (p : ClientProfile). p.client.failed) so.is ∙ clients_have_memory settings so.feeds so.roomy

  fed_more : (pushing : ClientProfile) (feed : Feed) → IsRoomyFeed feed → IsFedRoomily settings pushing → IsFedRoomily settings (fed (client_profile settings) pushing feed)
  fed_more pushing feed one so = record {
    feeds = so.feeds ++ feed ∷ [];
    roomy = all_more so.feeds feed so.roomy one;
    is = ap (λ (p : ClientProfile). fed (client_profile settings) p feed) so.is ∙ sym (fold-append (fed (client_profile settings)) (client_profile settings).first so.feeds (feed ∷ []));
  }

  -- at first, whatever its shelf is to answer
  pub first_fed : (shelf : Option (List Object)) (answers : List Circumstance) → IsFedRoomily settings (fed (client_profile settings) (client_profile settings).first (Gifts (map (given_by shelf) (map in_memory answers))))
  first_fed shelf answers = record { feeds = Gifts (map (given_by shelf) (map in_memory answers)) ∷ []; roomy = (given_roomy shelf answers, tt); is = refl }

  abbrev pub IsAble : Noted Shelved → Type 0
  IsAble noted = IsFedRoomily settings noted.end.pushing

  pub keeps_able : KeepsSo (noted_client settings) (λ (noted : Noted Shelved). IsFedRoomily settings noted.end.pushing)
  keeps_able = record {
    given = λ answers noted so. fed_more noted.end.pushing (Gifts (map (given_by noted.end.shelf) (map in_memory answers))) (given_roomy noted.end.shelf answers) so;
    told = λ answers news noted so. fed_more noted.end.pushing (Learns (held_by noted.end.shelf news (map in_memory answers)) news) (held_roomy noted.end.shelf news answers) so;
    received = λ own psm sdu noted so. fed_more noted.end.pushing (Receives own psm sdu) tt so;
    happened = λ event v noted so. fed_more noted.end.pushing (Happens event v) tt so;
    sent = λ v noted so. fed_more noted.end.pushing (Sent v) tt so;
    steps = λ v noted so. fed_more noted.end.pushing (Steps v) tt so;
  }
