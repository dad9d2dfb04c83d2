-- A round in which nothing happened leaves all settled.
use Rattle.std.proofs.Common.{◌≡◌, ◌&&◌, Bool, true, false, List, [], None, sym, ap, subst, ◌∙◌}
use Rattle.push_terms.specs.declared.word.Side.TheVariants.{A, B}
use Rattle.radio_model.specs.Controllers.{Controller, is_empty}
use Rattle.radio_model.specs.Radio.{is_apart, is_idle, is_quiet}
use Rattle.room_laws.specs.world_model.specs.Machines.{Upper}
use Rattle.room_laws.specs.world_model.specs.Pushes.{next_name}
use Rattle.room_laws.specs.world_model.specs.Stations.{IsStopped}
use Rattle.room_laws.specs.world_model.specs.Worlds.{IsSettled}
use Rattle.radio_world.specs.Hosts.{Asking, answering}
use Rattle.radio_world.specs.Halves.{IsStillIn, StaysPut}
use Rattle.radio_world.specs.Scenes.{Scene, moment, world_at, may_end}

pub and_both : (a b : Bool) → a ≡ true → b ≡ true → (a && b) ≡ true
and_both true b one two = two
and_both false b one two = cc

pub idle_of : (c : Controller) → (c.coming ≡ []) × (c.owed ≡ []) → is_idle c ≡ true
idle_of c still = and_both (is_empty c.coming) (is_empty c.owed) (ap is_empty still.0) (ap is_empty still.1)

pub settles :
    {S T G H : Type 0} (U : Upper S G) (V : Upper T H) (start mid last : Scene) (a a' : Asking S G) (b b' : Asking T H)
    → ((rest : List G) → U.is_idle (a.upper rest) ≡ true → next_name start.pushes ≡ None)
    → IsStillIn A mid.medium → StaysPut A start.medium mid.medium a a' → mid.pushes ≡ start.pushes
    → IsStillIn B last.medium → StaysPut B mid.medium last.medium b b' → last.pushes ≡ mid.pushes
    → (may_end last ≡ true → (rest : List G) → U.is_idle (a'.upper rest) ≡ true → U.outcome (a'.upper rest) ≡ None)
    → ((rest : List G) → IsStopped U A (answering rest a')) → ((rest : List H) → IsStopped V B (answering rest b'))
    → (rest_a : List G) (rest_b : List H) → IsSettled U V (world_at (moment last (answering rest_a a') (answering rest_b b')))
settles {S} {T} {G} U V start mid last a a' b b' none_begins still_a put_a pushes_a still_b put_b pushes_b none_ends stopped_a stopped_b rest_a rest_b =
    let still : IsStillIn A last.medium = subst (λ (c : Controller). (c.coming ≡ []) × (c.owed ≡ [])) (sym put_b.other_is) still_a in
    let quiet : is_quiet last.medium.radio ≡ true = and_both (is_idle last.medium.radio.a) (is_idle last.medium.radio.b) (idle_of last.medium.radio.a still) (idle_of last.medium.radio.b still_b) in
    record {
      out_a = put_a.none_out;
      out_b = put_b.none_out;
      stopped_a = stopped_a rest_a;
      stopped_b = stopped_b rest_b;
      still_a = still;
      still_b = still_b;
      returned_a = ap (λ (c : Controller). c.taken) put_b.other_is ∙ put_a.returned;
      returned_b = put_b.returned;
      no_begin = λ idle. ap next_name (pushes_b ∙ pushes_a) ∙ none_begins rest_a (ap (λ (h : Asking S G). U.is_idle (h.upper rest_a)) (sym put_a.station_is) ∙ idle);
      no_end = λ apart going idle.
          none_ends (and_both last.pushes.going (is_apart last.medium.radio.phase && is_quiet last.medium.radio) going (and_both (is_apart last.medium.radio.phase) (is_quiet last.medium.radio) apart quiet)) rest_a idle;
    }
