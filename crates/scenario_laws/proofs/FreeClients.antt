-- The client of a run is free, however it came to its links; so it lives through its talk.
use Rattle.radio_world.specs.push_terms.specs.declared.word.Side.TheVariants as sides
use Rattle.host_laws.specs.host_model.specs.Clients.{client_profile}
use Rattle.host_laws.proofs.Freeing.{hosts_hold_back_nothing, clients_fire_plainly}
use Rattle.scenario_laws.specs.FreeClients.{ClientsAreFree, ClientsLiveOverLinks}
use Rattle.scenario_laws.proofs.FreeServers.{always-free}
use Rattle.scenario_laws.proofs.Freeing.{all_one}
use Rattle.scenario_laws.proofs.Gentle.{both_tame, heard_tame}
use Rattle.scenario_laws.proofs.Orderly.{hosts-live_over_links}

pub clients_are_free : ClientsAreFree
clients_are_free scenario content capture ran came =
    let A = client_profile scenario.settings in
    always-free A (hosts_hold_back_nothing.clients scenario.settings) (λ acts now heard acting. clients_fire_plainly.fires scenario.settings acts now acting) came.over.acts
    (all_one came.over.acts (heard_tame A sides.A capture ran.world.a.upper came (both_tame scenario content capture ran).a))

pub clients_live_over_links : ClientsLiveOverLinks
clients_live_over_links asks scenario content capture ran came = (hosts-live_over_links asks scenario content capture ran).a came (clients_are_free scenario content capture ran came)
