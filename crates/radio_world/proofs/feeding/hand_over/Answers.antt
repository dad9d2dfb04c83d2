use Rattle.std.proofs.Common.{◌≡◌, ◌≢◌, ℕ, List, [], ◌∷◌, length, refl, sym, ap, ◌∙◌, arith, Bool, false, true}
use Rattle.std.specs.Bool.{◌==◌}
use Rattle.std.proofs.lemmas.Bool.{eqb-true}
use Rattle.radio_world.proofs.Wanting.{any_err}
use Rattle.radio_world.proofs.Fed.{fed_first, fed_more}
use Rattle.radio_world.proofs.feeding.hand_over.Goals as goal

some_left : (xs : List ℕ) (empty : Bool) → empty ≡ (length xs == 0) → empty ≡ false → xs ≢ []
some_left xs empty is not none = let there : (length xs == 0) ≡ true = ap (λ ys. length ys == 0) none in absurd cc

all_gone : (xs : List ℕ) (empty : Bool) → empty ≡ (length xs == 0) → empty ≡ true → xs ≡ []
all_gone [] empty is all = refl
all_gone (x ∷ xs) empty is all = let none = eqb-true (length (x ∷ xs)) 0 (sym is ∙ all) in absurd (omega arith)

pub loop-rest-init : goal.loop-rest-init
loop-rest-init g c =
    let host = g.H.Host in
    λ coming may is spelled.
    fed_first host.machine host.side host.answers coming c.args.octets.now (host.held c.args.host.now) (host.station c.args.host.now c.args.port.now) c.args.port.now (host.is_sound c.args.host.now c.args.port.now)
    g.met.H.Host.joins spelled c.requires.none_held c.requires.sound

pub feed-requires : goal.feed-requires
feed-requires g c =
    let comes = c.requires.comes in
    record { sound = ((c.loop-rest.invariant comes.coming comes.may comes.is comes.spelled).under_way (some_left c.loop-rest.rest.now c.is_empty.result c.is_empty.ensures c.loop-rest-test.true)).3 }

pub loop-rest-preserved : goal.loop-rest-preserved
loop-rest-preserved g c =
    let host = g.H.Host in
    λ coming may is spelled.
    fed_more host.machine host.side host.answers coming c.args.octets.now c.loop-rest.rest.now c.split_at.result.0.now c.split_at.result.1.now (host.held c.loop-rest.host) (host.held c.feed.new.self)
    (host.station c.args.host.now c.args.port.now) (host.station c.loop-rest.host c.loop-rest.port) (host.station c.feed.new.self c.feed.new.port) c.args.port.now c.loop-rest.port c.feed.new.port
    (host.is_sound c.loop-rest.host c.loop-rest.port) (host.is_sound c.feed.new.self c.feed.new.port) g.met.H.Host.joins may is spelled
    (some_left c.loop-rest.rest.now c.is_empty.result c.is_empty.ensures c.loop-rest-test.true) c.split_at.ensures.by_index.0
    (c.loop-rest.invariant coming may is spelled) c.in_ok-feed.ensures.hears

pub returns : goal.returns
returns g c = record { hears = λ coming may is spelled. (c.loop-rest.invariant coming may is spelled).done (all_gone c.loop-rest.rest.now c.is_empty.result c.is_empty.ensures c.loop-rest-test.false); lacked = tt }

pub returns-in_err-feed-clause-lacked : goal.returns-in_err-feed-clause-lacked
returns-in_err-feed-clause-lacked g c =
    let comes = c.requires.comes in
    let so_far = (c.loop-rest.invariant comes.coming comes.may comes.is comes.spelled).under_way (some_left c.loop-rest.rest.now c.is_empty.result c.is_empty.ensures c.loop-rest-test.true) in
    any_err c.from_residual.result (g.met.H.Host.lacks c.args.port.now c.loop-rest.port c.feed.new.port [] so_far.2 c.in_err-feed.ensures.lacked)
