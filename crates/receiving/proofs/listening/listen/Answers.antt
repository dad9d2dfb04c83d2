use Rattle.std.proofs.Common.{◌∙◌, Bool, Ok, Err, Result, refl, sym, ap, subst, arith}
use Rattle.h4_framing.specs.Framing.{Framing}
use Rattle.bt_host.specs.host_model.specs.Profiles.{Profile}
use Rattle.receiving.specs.declared.fault.ListenFault.{ListenFault}
use Rattle.receiving.specs.declared.fault.ListenFault.TheVariants.{ReadFault, WriteFault}
use Rattle.receiving.specs.Coming.{Comes, beside}
use Rattle.receiving.specs.Faring.{Follows, FollowsOn, EndsAtLimit}
use Rattle.receiving.proofs.Counting.{steady_faults, steady_shortages, unmoved}
use Rattle.receiving.proofs.Streams.{follows_none, limit_ends}
use Rattle.receiving.proofs.listening.listen.Goals as goal

pub loop-count-init : goal.loop-count-init
loop-count-init g c =
    let host = g.L.FedHost in
    let content = g.K.Sink.content in
    record {
      follows = λ first before fares same. follows_none (host.profile c.args.host.now) first (g.S.Source.content c.args.source.now) (host.framing c.args.host.now) (host.stands c.args.host.now c.args.port.now) before (beside (content c.args.sink.now) host.faults host.shortages c.args.port.now) fares;
      alike = λ first before fares same. same;
      sound = c.requires.sound;
      profile = refl;
      below = omega arith;
      source_faults = refl;
      source_shortages = refl;
      faults = refl;
      shortages = refl;
      port = omega arith;
    }

pub loop-count-preserved : goal.loop-count-preserved
loop-count-preserved g c =
    let host = g.L.FedHost in
    let content = g.K.Sink.content in
    let inv = c.loop-count.invariant in
    let is = c.in-Ok-true.is ∙ ap Ok c.in-Ok-true.field-0-test in
    record {
      follows = λ first before fares same.
          let old = subst (λ (A : Profile host.State). Follows A first (g.S.Source.content c.args.source.now) (g.S.Source.content c.loop-count.source) (host.framing c.loop-count.host) (host.stands c.loop-count.host c.loop-count.port) before (beside (content c.loop-count.sink) host.faults host.shortages c.loop-count.port) c.loop-count.count) (sym inv.profile) (inv.follows first before fares same) in
          subst (λ (A : Profile host.State). Follows A first (g.S.Source.content c.args.source.now) (g.S.Source.content c.hear_next.new.source) (host.framing c.hear_next.new.host) (host.stands c.hear_next.new.host c.hear_next.new.port) before (beside (content c.hear_next.new.sink) host.faults host.shortages c.hear_next.new.port) c.hear_next.new.count) inv.profile
          (subst (λ (r : Result Bool ListenFault). FollowsOn (host.profile c.loop-count.host) first (g.S.Source.content c.args.source.now) (g.S.Source.content c.hear_next.new.source) (host.framing c.hear_next.new.host) (host.stands c.hear_next.new.host c.hear_next.new.port) before (beside (content c.hear_next.new.sink) host.faults host.shortages c.hear_next.new.port) c.hear_next.new.count r) is (c.hear_next.ensures.follows first (g.S.Source.content c.args.source.now) before old (inv.alike first before fares same)));
      alike = λ first before fares same.
          let old = subst (λ (A : Profile host.State). Follows A first (g.S.Source.content c.args.source.now) (g.S.Source.content c.loop-count.source) (host.framing c.loop-count.host) (host.stands c.loop-count.host c.loop-count.port) before (beside (content c.loop-count.sink) host.faults host.shortages c.loop-count.port) c.loop-count.count) (sym inv.profile) (inv.follows first before fares same) in
          c.hear_next.ensures.alike first (g.S.Source.content c.args.source.now) before old (inv.alike first before fares same) is;
      sound = c.hear_next.ensures.sound is;
      profile = c.in-Ok-true.ensures.profile ∙ inv.profile;
      below = (c.hear_next.ensures.grows is).1;
      source_faults = steady_faults _ _ _ _ ReadFault c.in-Ok-true.field-0 c.in-Ok-true.ensures.source_counts ∙ inv.source_faults;
      source_shortages = steady_shortages _ _ _ _ ReadFault c.in-Ok-true.field-0 c.in-Ok-true.ensures.source_counts ∙ inv.source_shortages;
      faults = steady_faults _ _ _ _ WriteFault c.in-Ok-true.field-0 c.in-Ok-true.ensures.sink_counts ∙ inv.faults;
      shortages = steady_shortages _ _ _ _ WriteFault c.in-Ok-true.field-0 c.in-Ok-true.ensures.sink_counts ∙ inv.shortages;
      port = omega (arith, inv.port, c.hear_next.ensures.port);
    }

pub returns-in-Ok-false-clause-comes : goal.returns-in-Ok-false-clause-comes
returns-in-Ok-false-clause-comes g c first before fares same =
    let host = g.L.FedHost in
    let content = g.K.Sink.content in
    let inv = c.loop-count.invariant in
    let old = subst (λ (A : Profile host.State). Follows A first (g.S.Source.content c.args.source.now) (g.S.Source.content c.loop-count.source) (host.framing c.loop-count.host) (host.stands c.loop-count.host c.loop-count.port) before (beside (content c.loop-count.sink) host.faults host.shortages c.loop-count.port) c.loop-count.count) (sym inv.profile) (inv.follows first before fares same) in
    let is = c.in-Ok-false.is ∙ ap Ok c.in-Ok-false.field-0-test in
    subst (λ (A : Profile host.State). Comes A first (g.S.Source.content c.args.source.now) (g.S.Source.content c.hear_next.new.source) (host.stands c.hear_next.new.host c.hear_next.new.port) before (beside (content c.hear_next.new.sink) host.faults host.shortages c.hear_next.new.port) (Ok tt)) inv.profile
    (subst (λ (r : Result Bool ListenFault). FollowsOn (host.profile c.loop-count.host) first (g.S.Source.content c.args.source.now) (g.S.Source.content c.hear_next.new.source) (host.framing c.hear_next.new.host) (host.stands c.hear_next.new.host c.hear_next.new.port) before (beside (content c.hear_next.new.sink) host.faults host.shortages c.hear_next.new.port) c.hear_next.new.count r) is (c.hear_next.ensures.follows first (g.S.Source.content c.args.source.now) before old (inv.alike first before fares same)))

pub returns-in-Err-clause-comes : goal.returns-in-Err-clause-comes
returns-in-Err-clause-comes g c first before fares same =
    let host = g.L.FedHost in
    let content = g.K.Sink.content in
    let inv = c.loop-count.invariant in
    let old = subst (λ (A : Profile host.State). Follows A first (g.S.Source.content c.args.source.now) (g.S.Source.content c.loop-count.source) (host.framing c.loop-count.host) (host.stands c.loop-count.host c.loop-count.port) before (beside (content c.loop-count.sink) host.faults host.shortages c.loop-count.port) c.loop-count.count) (sym inv.profile) (inv.follows first before fares same) in
    subst (λ (A : Profile host.State). Comes A first (g.S.Source.content c.args.source.now) (g.S.Source.content c.hear_next.new.source) (host.stands c.hear_next.new.host c.hear_next.new.port) before (beside (content c.hear_next.new.sink) host.faults host.shortages c.hear_next.new.port) (Err c.in-Err.fault)) inv.profile
    (c.in-Err.ensures.follows first (g.S.Source.content c.args.source.now) before old (inv.alike first before fares same))

pub returns-in-Ok-clause-comes : goal.returns-in-Ok-clause-comes
returns-in-Ok-clause-comes g c first before fares same =
    let host = g.L.FedHost in
    let content = g.K.Sink.content in
    let inv = c.loop-count.invariant in
    let F = inv.follows first before fares same in
    let alike = inv.alike first before fares same in
    limit_ends (host.profile c.args.host.now) first (g.S.Source.content c.args.source.now) (g.S.Source.content c.loop-count.source) (host.framing c.loop-count.host) (host.stands c.loop-count.host c.loop-count.port) before (beside (content c.loop-count.sink) host.faults host.shortages c.loop-count.port) c.loop-count.count F (Ok tt) (g.S.Source.content c.past_limit.new.source) c.loop-count-test.false
    (subst (λ (f : Framing). EndsAtLimit f (g.S.Source.content c.loop-count.source) (g.S.Source.content c.past_limit.new.source) (Ok tt)) alike (c.in-Ok.ensures.ends (ap (λ (f : Framing). f.fault) alike ∙ F.fares.sound)))

pub returns-in-Err-past_limit-clause-comes : goal.returns-in-Err-past_limit-clause-comes
returns-in-Err-past_limit-clause-comes g c first before fares same =
    let host = g.L.FedHost in
    let content = g.K.Sink.content in
    let inv = c.loop-count.invariant in
    let F = inv.follows first before fares same in
    let alike = inv.alike first before fares same in
    limit_ends (host.profile c.args.host.now) first (g.S.Source.content c.args.source.now) (g.S.Source.content c.loop-count.source) (host.framing c.loop-count.host) (host.stands c.loop-count.host c.loop-count.port) before (beside (content c.loop-count.sink) host.faults host.shortages c.loop-count.port) c.loop-count.count F (Err c.in-Err-past_limit.fault) (g.S.Source.content c.past_limit.new.source) c.loop-count-test.false
    (subst (λ (f : Framing). EndsAtLimit f (g.S.Source.content c.loop-count.source) (g.S.Source.content c.past_limit.new.source) (Err c.in-Err-past_limit.fault)) alike (c.in-Err-past_limit.ensures.ends (ap (λ (f : Framing). f.fault) alike ∙ F.fares.sound)))

pub returns-in-Err-past_limit-clause-sink_counts : goal.returns-in-Err-past_limit-clause-sink_counts
returns-in-Err-past_limit-clause-sink_counts g c = unmoved _ _ _ _ WriteFault (Err c.in-Err-past_limit.fault) c.loop-count.invariant.faults c.loop-count.invariant.shortages c.in-Err-past_limit.ensures.no_write
