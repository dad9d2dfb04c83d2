-- A client pages the device that it is told of.
use Rattle.std.proofs.Common.{◌≡◌, ℕ, List, refl}
use Rattle.push_terms.specs.declared.word.Side.TheVariants.{A, B}
use Rattle.radio_world.specs.radio_model.specs.Controllers.{address}
use Rattle.bt_host.specs.NotedHosts.{noted_client}
use Rattle.bt_host.proofs.Striving.{Pages}

pub client_pages : (paged : List ℕ) → paged ≡ address B → Pages noted_client A paged
client_pages paged is settings old may = (refl, is)
