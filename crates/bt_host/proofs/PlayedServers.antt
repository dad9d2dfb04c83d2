-- A server pages nobody.
use Rattle.std.proofs.Common.{ℕ, List, true≢false, sym}
use Rattle.push_terms.specs.declared.word.Side.{Side}
use Rattle.bt_host.specs.NotedHosts.{noted_server}
use Rattle.bt_host.proofs.Striving.{Pages}

pub server_pages : (side : Side) (paged : List ℕ) → Pages noted_server side paged
server_pages side paged settings old may = absurd (true≢false (sym may.wants))
