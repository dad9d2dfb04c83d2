-- What all that the profile of a host does keeps, it keeps in each run, whatever its ports answer.
use Rattle.std.proofs.Common.{◌≡◌, List, refl, ap, ◌∙◌}
use Rattle.tape_laws.specs.world_model.specs.Machines.{News, Upper}
use Rattle.tape_laws.specs.world_model.specs.Worlds.{World, Happening, Runs}
use Rattle.tape_laws.specs.alike_laws.proofs.Alike.{AreAlike, runs_on}
use Rattle.tape_laws.specs.host_model.specs.Circumstances.{Circumstance}
use Rattle.tape_laws.specs.host_model.specs.Hosts.{Host}
use Rattle.tape_laws.specs.host_model.specs.Machines.{upper}
use Rattle.tape_laws.specs.host_model.specs.Profiles.{Profile}
use Rattle.tape_laws.specs.inbox_laws.proofs.Keeping.{KeepsSo, hear_kept, next_kept}
use Rattle.tape_laws.specs.pair_laws.specs.Granted.{answered_by}
use Rattle.tape_laws.specs.pair_laws.proofs.Answered.{IsSame, same_alike}
use Rattle.tape_laws.specs.pair_laws.proofs.Carrying.{as_it_is}

module _ {P : Type 0} (A : Profile P) (Z : P → Type 0) (keeps : KeepsSo A Z) where
  abbrev IsSo : Host P → Host P → Type 0
  IsSo s t = (t ≡ s) × Z s.profile

  so_alike : (to : News → List Circumstance → List Circumstance) → AreAlike IsSo (answered_by to (upper A)) (answered_by to (upper A))
  so_alike to =
      let V : Upper (Host P) Circumstance = answered_by to (upper A) in
      record {
        hear = λ circumstances news s t so. (circumstances, (ap (V.hear circumstances news) so.0, hear_kept A Z keeps (to news circumstances) news s so.1));
        says = λ s t so pdu after same. (after, (refl, next_kept A Z keeps s pdu after same so.1), ap V.next so.0 ∙ same);
        silent = λ s t so none. ap V.next so.0 ∙ none;
        wants_link = λ s t so. ap V.wants_link so.0;
        leaves_link = λ s t so. ap V.leaves_link so.0;
        is_idle = λ s t so. ap V.is_idle so.0;
        outcome = λ s t so. ap V.outcome so.0;
        armed = λ s t so. ap V.armed so.0;
        may_cancel = λ s t so. ap V.may_cancel so.0;
        has_check = λ s t own so. ap (λ x. V.has_check x own) so.0;
      }

  -- host b beside any machine, and host a
  pub runs_keep : {S G : Type 0} (U : Upper S G) (happenings : List Happening) (old new : World S (Host P)) → Runs U (upper A) happenings old new → Z old.b.upper.profile → Z new.b.upper.profile
  runs_keep {S} {G} U happenings old new runs so =
      let (there, alike, ran) = runs_on IsSame IsSo U U (upper A) (upper A) (same_alike (λ news (gifts : List G). gifts) U) (so_alike as_it_is) happenings old.a.upper old.b.upper old new refl (refl, so) runs in
      alike.b.1

  pub runs_keep_near : {T H : Type 0} (to : News → List Circumstance → List Circumstance) (V : Upper T H) (happenings : List Happening) (old new : World (Host P) T) → Runs (answered_by to (upper A)) V happenings old new → Z old.a.upper.profile → Z new.a.upper.profile
  runs_keep_near {T} {H} to V happenings old new runs so =
      let U : Upper (Host P) Circumstance = answered_by to (upper A) in
      let (there, alike, ran) = runs_on IsSo IsSame U U V V (so_alike to) (same_alike (λ news (gifts : List H). gifts) V) happenings old.a.upper old.b.upper old new (refl, so) refl runs in
      alike.a.1
