-- What happens to the channels of both hosts on one link, in one order, and what both hosts go through along that order (this project's own).
use Rattle.std.specs.Prelude.{◌≡◌, List, [], ◌∷◌, ◌++◌, map}
use Rattle.std.specs.List.{AllByRecursion, flat_map}
use Rattle.pair_laws.specs.channel_model.specs.Value.{no_channels}
use Rattle.pair_laws.specs.push_laws.specs.Parties.{no_pipes}
use Rattle.pair_laws.specs.host_model.specs.Clients.{ClientProfile, client_profile}
use Rattle.pair_laws.specs.host_model.specs.Servers.{ServerProfile, server_profile}
use Rattle.pair_laws.specs.host_laws.specs.Woven.{Strand, strand_list, woven_list}
use Rattle.pair_laws.specs.Orders.{Joint, AtNear, AtFar, near_in, far_in}
use Rattle.request_laws.specs.Twists.{Twist, AtClient, AtServer, Both, new_both, Set, both_after, AllStayPiped, NoneBehind, served_on, OpensNone, Twined}

-- what happens to the channels while both go through this
abbrev pub twist_joints : Set → Twist → Both → List Joint
twist_joints set (AtClient strand) both = map AtNear (strand_list (client_profile set.settings) (set.asks.clients set.settings) strand both.near both.client)
twist_joints set (AtServer strand) both = map AtFar (strand_list (server_profile set.settings set.content) (set.asks.servers set.settings set.content) strand both.far both.server)

abbrev pub joints_of : Set → List Twist → Both → List Joint
joints_of set [] both = []
joints_of set (twist ∷ twists) both = twist_joints set twist both ++ joints_of set twists (both_after set twist both)

-- What happened to the channels of both on a link stands in one order; and whatever both went through in that order, their channels of the
-- object were pipes.
pub record Joined (set : Set) (near far : List Strand) (client : ClientProfile) (server : ServerProfile) : Type 0 where
  pub joints : List Joint
  pub near_is : flat_map near_in joints ≡ woven_list (client_profile set.settings) (set.asks.clients set.settings) near no_channels client
  pub far_is : flat_map far_in joints ≡ woven_list (server_profile set.settings set.content) (set.asks.servers set.settings set.content) far no_channels server
  pub opens : AllByRecursion OpensNone near
  pub piped : (twists : List Twist) → joints_of set twists (new_both client server) ≡ joints → AllStayPiped set twists (new_both client server) no_pipes
  pub behind : NoneBehind (served_on set far server)

-- So an order of what happened to the channels is one of all that both went through.
abbrev pub JoinedAreTwined : Type 0
JoinedAreTwined = (set : Set) (near far : List Strand) (client : ClientProfile) (server : ServerProfile) → Joined set near far client server → Twined set near far client server
