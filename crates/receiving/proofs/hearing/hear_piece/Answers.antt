use Rattle.std.proofs.Common.{◌≡◌, ◌+◌, ◌∙◌, List, ℕ, [], ◌∷◌, ◌++◌, get_or, take, drop, sym, ap, subst, refl, arith, length-append, take-append-drop}
use Rattle.std.proofs.lemmas.List.{take_more, length-take, take_all}
use Rattle.bt_host.specs.host_model.specs.Profiles.{Profile}
use Rattle.receiving.specs.Coming.{beside}
use Rattle.receiving.specs.Faring.{Fares, HearsOctet}
use Rattle.std.specs.Prelude.{Err}
use Rattle.receiving.proofs.Counting.{steady_faults, steady_shortages, counts_behind, lacked_behind}
use Rattle.receiving.proofs.Streams.{none_fed, more_fed, stops_within}
use Rattle.receiving.specs.declared.fault.ListenFault.TheVariants.{WriteFault}
use Rattle.receiving.proofs.hearing.hear_piece.Goals as goal

pub loop-i-init : goal.loop-i-init
loop-i-init g c =
    let host = g.L.FedHost in
    record {
      hears = λ first octets before small fares. none_fed (host.profile c.args.host.now) first octets (host.framing c.args.host.now) (host.stands c.args.host.now c.args.port.now) before (beside (g.K.Sink.content c.args.sink.now) host.faults host.shortages c.args.port.now) fares;
      alike = λ first octets before small fares same. same;
      sound = c.requires.sound;
      profile = refl;
      faults = refl;
      shortages = refl;
      port = omega arith;
    }

pub loop-i-preserved : goal.loop-i-preserved
loop-i-preserved g c =
    let host = g.L.FedHost in
    let content = g.K.Sink.content in
    let inv = c.loop-i.invariant in
    let x = get_or c.args.piece.now c.loop-i.i 0 in
    let front = take c.loop-i.i c.args.piece.now in
    let more : take (c.loop-i.i + 1) c.args.piece.now ≡ front ++ x ∷ [] = take_more c.args.piece.now c.loop-i.i 0 c.loop-i-test.true in
    record {
      hears = λ first octets before small fares.
          let old = subst (λ (A : Profile host.State). Fares A first (octets ++ front) (host.framing c.loop-i.host) (host.stands c.loop-i.host c.loop-i.port) before (beside (content c.loop-i.sink) host.faults host.shortages c.loop-i.port)) (sym inv.profile) (inv.hears first octets before small fares) in
          more_fed (host.profile c.args.host.now) first octets front (take (c.loop-i.i + 1) c.args.piece.now) x (host.framing c.hear_octet.new.host) (host.stands c.hear_octet.new.host c.hear_octet.new.port) before (beside (content c.hear_octet.new.sink) host.faults host.shortages c.hear_octet.new.port) more
          (subst (λ (A : Profile host.State). Fares A first ((octets ++ front) ++ x ∷ []) (host.framing c.hear_octet.new.host) (host.stands c.hear_octet.new.host c.hear_octet.new.port) before (beside (content c.hear_octet.new.sink) host.faults host.shortages c.hear_octet.new.port)) inv.profile
          (c.in-Ok.ensures.hears first (octets ++ front) before (omega (arith, length-append octets front, length-take c.loop-i.i c.args.piece.now, c.loop-i-test.true, small)) old));
      alike = λ first octets before small fares same.
          let old = subst (λ (A : Profile host.State). Fares A first (octets ++ front) (host.framing c.loop-i.host) (host.stands c.loop-i.host c.loop-i.port) before (beside (content c.loop-i.sink) host.faults host.shortages c.loop-i.port)) (sym inv.profile) (inv.hears first octets before small fares) in
          c.in-Ok.ensures.alike first (octets ++ front) before old (inv.alike first octets before small fares same);
      sound = c.in-Ok.ensures.sound;
      profile = c.in-Ok.ensures.profile ∙ inv.profile;
      faults = steady_faults _ _ _ _ WriteFault c.in-Ok.field-0 c.in-Ok.ensures.counts ∙ inv.faults;
      shortages = steady_shortages _ _ _ _ WriteFault c.in-Ok.field-0 c.in-Ok.ensures.counts ∙ inv.shortages;
      port = omega (arith, inv.port, c.hear_octet.ensures.port);
    }

pub returns-in-Err-clause-hears : goal.returns-in-Err-clause-hears
returns-in-Err-clause-hears g c first octets before small fares =
    let host = g.L.FedHost in
    let content = g.K.Sink.content in
    let inv = c.loop-i.invariant in
    let x = get_or c.args.piece.now c.loop-i.i 0 in
    let front = take c.loop-i.i c.args.piece.now in
    let behind = drop (c.loop-i.i + 1) c.args.piece.now in
    let more : take (c.loop-i.i + 1) c.args.piece.now ≡ front ++ x ∷ [] = take_more c.args.piece.now c.loop-i.i 0 c.loop-i-test.true in
    let old = subst (λ (A : Profile host.State). Fares A first (octets ++ front) (host.framing c.loop-i.host) (host.stands c.loop-i.host c.loop-i.port) before (beside (content c.loop-i.sink) host.faults host.shortages c.loop-i.port)) (sym inv.profile) (inv.hears first octets before small fares) in
    stops_within (host.profile c.args.host.now) first octets c.args.piece.now front behind x (host.framing c.hear_octet.new.host) (host.stands c.hear_octet.new.host c.hear_octet.new.port) before (beside (content c.hear_octet.new.sink) host.faults host.shortages c.hear_octet.new.port) c.in-Err.fault
    (sym (take-append-drop (c.loop-i.i + 1) c.args.piece.now) ∙ ap (λ (t : List ℕ). t ++ behind) more)
    (subst (λ (A : Profile host.State). HearsOctet A first ((octets ++ front) ++ x ∷ []) (host.framing c.hear_octet.new.host) (host.stands c.hear_octet.new.host c.hear_octet.new.port) before (beside (content c.hear_octet.new.sink) host.faults host.shortages c.hear_octet.new.port) (Err c.in-Err.fault)) inv.profile
    (c.in-Err.ensures.hears first (octets ++ front) before (omega (arith, length-append octets front, length-take c.loop-i.i c.args.piece.now, c.loop-i-test.true, small)) old))

pub returns-in-Err-clause-counts : goal.returns-in-Err-clause-counts
returns-in-Err-clause-counts g c = counts_behind _ _ _ _ _ _ WriteFault _ c.loop-i.invariant.faults c.loop-i.invariant.shortages c.in-Err.ensures.counts

pub returns-in-Err-clause-lacked : goal.returns-in-Err-clause-lacked
returns-in-Err-clause-lacked g c =
    lacked_behind 0 0 0 _ _ _ _ _ _ _ (omega arith) (omega arith) (omega (arith, c.loop-i.invariant.shortages)) c.hear_octet.ensures.counts.shortages_stay c.loop-i.invariant.port c.hear_octet.ensures.port c.in-Err.ensures.lacked

pub returns-clause-hears : goal.returns-clause-hears
returns-clause-hears g c first octets before small fares =
    let host = g.L.FedHost in
    subst (λ (t : List ℕ). Fares (host.profile c.args.host.now) first (octets ++ t) (host.framing c.loop-i.host) (host.stands c.loop-i.host c.loop-i.port) before (beside (g.K.Sink.content c.loop-i.sink) host.faults host.shortages c.loop-i.port)) (take_all c.loop-i.i c.args.piece.now c.loop-i-test.false)
    (c.loop-i.invariant.hears first octets before small fares)
