use Rattle.std.proofs.Common.{rules, not, ◌==◌, ◌∙◌, ◌∷◌, ap}
use Rattle.arrayvec.proofs.ArrayVecLemmas.{filter-from_retain}
use Rattle.bt_host.specs.EndpointLists.{endpoints_of}
use Rattle.bt_host.proofs.Keeping.{put_first}
use Rattle.bt_host.proofs.endpoints.Endpoints.put.Goals as goal

pub returns : goal.returns
returns c =
    ap endpoints_of (c.insert.ensures.items ∙ ap (λ ys. record { psm = c.args.psm; own = c.args.own } ∷ ys) c.truncate.ensures.items)
    ∙ put_first c.args.psm c.args.own c.self.inside.items.items c.retain.new.self.items c.args.self.now
    (filter-from_retain _ (λ one. not (one.psm == c.args.psm)) _ (λ x b f' y k. search rules) _ _ c.retain.ensures.filtered) c.self.view_is
