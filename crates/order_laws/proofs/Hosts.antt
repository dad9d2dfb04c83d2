-- A host in code that had done all that it could is where rounds end.
use Rattle.std.proofs.Common.{◌++◌, List, subst, Some}
use Rattle.bt_host.specs.host_model.specs.Circumstances.{Circumstance}
use Rattle.bt_host.specs.host_model.specs.Profiles.{Profile}
use Rattle.bt_host.specs.NotedHosts.{noted_client, noted_server, client_noting, server_noting}
use Rattle.bt_host.specs.PushingLaws.{Answers}
use Rattle.bt_host.specs.Serving.{Asks}
use Rattle.bt_host.specs.Stacks.{standing}
use Rattle.order_laws.specs.Hosts.{GoesInRounds, ClientsGoInRounds, ServersGoInRounds}
use Rattle.order_laws.specs.Rounds.{EndsInRounds, midway_told, midway_heard}
use Rattle.order_laws.proofs.Heard.{packets_go_in_rounds, news_go_in_rounds}

goes_in_rounds : {E S P : Type 0} (A : Profile S) (Answered : P → List Circumstance → P → Type 0) (pushing : E → P → List Circumstance → S) → GoesInRounds A Answered pushing
goes_in_rounds A Answered pushing = record {
  hears = λ packet old new resting heard rest.
      let given = heard.reacts.used ++ rest in
      let now = standing pushing old.port old.stack given in
      subst (EndsInRounds A (midway_heard A packet given now)) (heard.reacts.exactly rest) (packets_go_in_rounds A packet given now (resting given) heard.fault);
  is_told = λ news old new resting told rest.
      let given = told.used ++ rest in
      let now = standing pushing old.port old.stack given in
      subst (EndsInRounds A (midway_told A given (Some news) now)) (told.exactly rest) (news_go_in_rounds A news given now (resting given));
}

pub clients_go_in_rounds : {P : Type 0} → ClientsGoInRounds P
clients_go_in_rounds content faults shortages settings = goes_in_rounds (noted_client settings) (Answers content faults shortages) (client_noting content)

pub servers_go_in_rounds : {P : Type 0} → ServersGoInRounds P
servers_go_in_rounds content faults shortages settings = goes_in_rounds (noted_server settings) (Asks faults shortages) (server_noting content)
