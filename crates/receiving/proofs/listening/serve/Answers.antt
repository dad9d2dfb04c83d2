use Rattle.std.proofs.Common.{◌∙◌, [], sym, subst}
use Rattle.bt_host.specs.host_model.specs.Profiles.{Profile}
use Rattle.receiving.specs.Turns.{begun}
use Rattle.bt_host.specs.obex_session.specs.Counting.{counts_of}
use Rattle.receiving.specs.Coming.{Comes, beside}
use Rattle.receiving.specs.Faring.{Fares}
use Rattle.receiving.proofs.Beginning.{breaks_first, fares_first}
use Rattle.receiving.proofs.listening.serve.Goals as goal

pub returns-in-Err-clause-comes : goal.returns-in-Err-clause-comes
returns-in-Err-clause-comes g c =
    let host = g.L.FedHost in
    let content = g.K.Sink.content in
    let old = host.stands c.args.host c.args.port.now in
    (c.say.new.host, breaks_first (host.profile c.args.host) (begun old) (g.S.Source.content c.args.source.now) (host.stands c.say.new.host c.args.port.now) (content c.args.sink.now) (content c.say.new.sink) (counts_of host.faults host.shortages c.args.port.now) c.say.ensures.front c.say.ensures.stands c.in-Err.fault c.in-Err.ensures.of_sink)

pub returns-clause-comes : goal.returns-clause-comes
returns-clause-comes g c =
    let host = g.L.FedHost in
    let content = g.K.Sink.content in
    let old = host.stands c.args.host c.args.port.now in
    let fares = fares_first (host.profile c.args.host) (host.framing c.say.new.host) old (host.stands c.say.new.host c.args.port.now) (content c.args.sink.now) (content c.say.new.sink) (counts_of host.faults host.shortages c.args.port.now) (c.say.ensures.framing ∙ c.requires.fresh) c.requires.rests c.requires.room c.say.ensures.stands c.in-Ok.ensures.ok in (
      c.listen.new.host,
      subst (λ (A : Profile host.State). Comes A (begun old) (g.S.Source.content c.args.source.now) (g.S.Source.content c.listen.new.source) (host.stands c.listen.new.host c.listen.new.port) (beside (content c.args.sink.now) host.faults host.shortages c.args.port.now) (beside (content c.listen.new.sink) host.faults host.shortages c.listen.new.port) c.listen.result) c.say.ensures.profile
          (c.listen.ensures.comes (begun old) (beside (content c.args.sink.now) host.faults host.shortages c.args.port.now) (subst (λ (A : Profile host.State). Fares A (begun old) [] (host.framing c.say.new.host) (host.stands c.say.new.host c.args.port.now) (beside (content c.args.sink.now) host.faults host.shortages c.args.port.now) (beside (content c.say.new.sink) host.faults host.shortages c.args.port.now)) (sym c.say.ensures.profile) fares)
          (c.requires.framer ∙ sym (c.say.ensures.framing ∙ c.requires.fresh))),
    )
