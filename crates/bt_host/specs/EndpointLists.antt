-- The channels that an end uses, as they are kept.
use Rattle.std.specs.Prelude.{List, map}
use Rattle.shelf_model.specs.host_model.specs.Endpoints as model
use Rattle.bt_host.specs.declared.endpoints.Endpoint.{Endpoint}

abbrev pub endpoint_value : Endpoint → model.Endpoint
endpoint_value endpoint = record { psm = endpoint.psm; own = endpoint.own }

abbrev pub endpoints_of : List Endpoint → List model.Endpoint
endpoints_of endpoints = map endpoint_value endpoints
