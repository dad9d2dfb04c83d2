-- What happens where the ports of both hosts give other answers happens where they give those.
use Rattle.std.proofs.Common.{◌≡◌, ℕ, Bool, List, refl, ap, ap₂, subst, ◌∙◌}
use Rattle.scenario_laws.specs.push_terms.specs.declared.word.Side.TheVariants.{A, B}
use Rattle.scenario_laws.specs.push_terms.specs.declared.word.Way.TheVariants.{Ab, Ba}
use Rattle.scenario_laws.specs.radio_model.specs.Controllers.{Controller}
use Rattle.scenario_laws.specs.radio_model.specs.Radio.{is_together}
use Rattle.scenario_laws.specs.radio_model.specs.declared.fate.Fate.{Fate}
use Rattle.scenario_laws.specs.radio_model.specs.declared.deed.Deed.{Deed}
use Rattle.scenario_laws.specs.radio_model.specs.declared.deed.Deed.TheVariants.{Nothing, Meets, Fires, FiresBoth, Breaks, Cancels}
use Rattle.scenario_laws.specs.world_model.specs.Machines.{News, Linked, Heard, TimerFired, Cancelled, Opening, Upper}
use Rattle.scenario_laws.specs.world_model.specs.Pushes.{Pushes}
use Rattle.scenario_laws.specs.world_model.specs.Turns.{IsCalm, FindsNothing}
use Rattle.scenario_laws.specs.world_model.specs.Carriages.{End, Carriage, Motion, Saying, Departure, Arrival, Telling, DoesMotion, IsIdle, IsAtRest, Doing, Moved, Deeds, Misses, Rises, Falls, Opens, Closes, ActsOn, MeetsFate, finds, IsDone}
use Rattle.scenario_laws.specs.world_model.specs.Stations.{Station}
use Rattle.scenario_laws.specs.world_model.specs.Worlds.{World, Happening, Runs}
use Rattle.scenario_laws.specs.world_model.specs.Worlds as worlds
use Rattle.scenario_laws.specs.turn_laws.specs.WorldLaws.{Fits}
use Rattle.alike_laws.specs.Twins.{world_with}
use Rattle.alike_laws.proofs.Alike.{AreAlike, runs_on}
use Rattle.pair_laws.specs.Granted.{answered_by}

-- ---- a run

abbrev pub IsSame : {S : Type 0} → S → S → Type 0
IsSame s t = t ≡ s

pub same_alike : {S G : Type 0} (to : News → List G → List G) (U : Upper S G) → AreAlike (IsSame {S = S}) (answered_by to U) U
same_alike to U = record {
  hear = λ answers news s t is. (to news answers, ap (U.hear (to news answers) news) is);
  says = λ s t is pdu after next. (after, refl, ap U.next is ∙ next);
  silent = λ s t is none. ap U.next is ∙ none;
  wants_link = λ s t is. ap U.wants_link is;
  leaves_link = λ s t is. ap U.leaves_link is;
  is_idle = λ s t is. ap U.is_idle is;
  outcome = λ s t is. ap U.outcome is;
  armed = λ s t is. ap U.armed is;
  may_cancel = λ s t is. ap U.may_cancel is;
  has_check = λ s t own is. ap (λ x. U.has_check x own) is;
}

-- a host alone
module _ {S G : Type 0} (U : Upper S G) (to : News → List G → List G) where
  abbrev One : Upper S G
  One = answered_by to U

  pub idle_so : (e : End S) → IsIdle One e → IsIdle U e
  idle_so e idle = record { none_owed = idle.none_owed; none_comes = idle.none_comes; said_all = λ on. record { none_waits = (idle.said_all on).none_waits; none_next = (idle.said_all on).none_next } }

  motion_so : (motion : Motion) (old new : End S) → DoesMotion One motion old new → DoesMotion U motion old new
  motion_so (Saying pdu) old new does = record { on = does.on; after = does.after; next = does.next; none_comes = does.none_comes; is = does.is }
  motion_so (Departure pdu) old new does = does
  motion_so (Arrival pdu) old new does = record { answers = to (Heard pdu) does.answers; first = does.first; is = does.is }
  motion_so (Telling event) old new does = record { answers = to (Linked event) does.answers; more = does.more; first = does.first; none_comes = does.none_comes; is = does.is }

  still_so : (one : Controller) (station : Station S) → worlds.IsStill One one station → worlds.IsStill U one station
  still_so one station still = record { none_waits = still.none_waits; none_goes = still.none_goes; none_out = still.none_out; unasked = still.unasked; none_next = still.none_next; none_comes = still.none_comes; none_owed = still.none_owed; returned = still.returned }

  still_back : (one : Controller) (station : Station S) → worlds.IsStill U one station → worlds.IsStill One one station
  still_back one station still = record { none_waits = still.none_waits; none_goes = still.none_goes; none_out = still.none_out; unasked = still.unasked; none_next = still.none_next; none_comes = still.none_comes; none_owed = still.none_owed; returned = still.returned }

-- both
module _ {S T G H : Type 0} (U : Upper S G) (V : Upper T H) (to_a : News → List G → List G) (to_b : News → List H → List H) where
  abbrev pub OtherA : Upper S G
  OtherA = answered_by to_a U

  abbrev pub Other : Upper T H
  Other = answered_by to_b V

  pub runs-so : (happenings : List Happening) (old new : World S T) → Runs OtherA Other happenings old new → Runs U V happenings old new
  runs-so happenings old new runs =
      let (there, alike, ran) = runs_on IsSame IsSame OtherA U Other V (same_alike to_a U) (same_alike to_b V) happenings old.a.upper old.b.upper old new refl refl runs in
      let same : there ≡ new = alike.same ∙ ap₂ (λ (x : S) (y : T). world_with x y new) alike.a alike.b in
      subst (λ (w : World S T). Runs U V happenings old w) same ran

  calm_so : (link : Bool) (pushes : Pushes) (s : S) (t : T) → IsCalm OtherA Other link pushes s t → IsCalm U V link pushes s t
  calm_so link pushes s t calm = record { no_rise = calm.no_rise; no_fall_a = calm.no_fall_a; no_fall_b = calm.no_fall_b; no_begin = calm.no_begin; no_end = calm.no_end }

  calm_back : (link : Bool) (pushes : Pushes) (s : S) (t : T) → IsCalm U V link pushes s t → IsCalm OtherA Other link pushes s t
  calm_back link pushes s t calm = record { no_rise = calm.no_rise; no_fall_a = calm.no_fall_a; no_fall_b = calm.no_fall_b; no_begin = calm.no_begin; no_end = calm.no_end }

  pub rest-so : (w : World S T) → worlds.IsAtRest OtherA Other w → worlds.IsAtRest U V w
  rest-so w rest = record {
    still_a = still_so U to_a w.radio.a w.a rest.still_a;
    still_b = still_so V to_b w.radio.b w.b rest.still_b;
    paged = rest.paged;
    calm = calm_so (is_together w.radio.phase) w.pushes w.a.upper w.b.upper rest.calm;
  }

  pub rest-back : (w : World S T) → worlds.IsAtRest U V w → worlds.IsAtRest OtherA Other w
  rest-back w rest = record {
    still_a = still_back U to_a w.radio.a w.a rest.still_a;
    still_b = still_back V to_b w.radio.b w.b rest.still_b;
    paged = rest.paged;
    calm = calm_back (is_together w.radio.phase) w.pushes w.a.upper w.b.upper rest.calm;
  }

  pub fits-so : (size : ℕ) → Fits U V size → Fits OtherA Other size
  fits-so size fits = record {
    long = fits.long;
    frames_a = fits.frames_a;
    frames_b = fits.frames_b;
    idles = record { first = fits.idles.first; wants_none = fits.idles.wants_none; hears = λ answers news s aside is. fits.idles.hears (to_a news answers) news s aside is; says = fits.idles.says };
  }

  -- ---- and one in which PDUs move one at a time

  pub rests-so : (c : Carriage S T) → IsAtRest OtherA Other c → IsAtRest U V c
  rests-so c rest = record { idle_a = idle_so U to_a c.a rest.idle_a; idle_b = idle_so V to_b c.b rest.idle_b; calm = calm_so c.link c.pushes c.a.upper c.b.upper rest.calm }

  meets_so : {X Y : Type 0} {K : Type 0} (W : Upper Y K) (to : News → List K → List K) (size : ℕ) (fate : Fate) (e : End X) (f : End Y) (e' : End X) (f' : End Y) → MeetsFate (answered_by to W) size fate e f e' f' → MeetsFate W size fate e f e' f'
  meets_so W to size fate e f e' f' meets = record { frame = meets.frame; rest = meets.rest; checked = meets.checked; is = meets.is; checked_is = meets.checked_is; one_is = meets.one_is; other_is = meets.other_is }

  acts_so : (deed : Deed) (old new : Carriage S T) → ActsOn OtherA Other deed old new → ActsOn U V deed old new
  acts_so Nothing old new acts = absurd acts
  acts_so (Meets Ab fate) old new (e, f, meets, same) = (e, f, meets_so V to_b old.size fate old.a old.b e f meets, same)
  acts_so (Meets Ba fate) old new (e, f, meets, same) = (e, f, meets_so U to_a old.size fate old.b old.a f e meets, same)
  acts_so (Fires A) old new (armed, g, same) = (armed, to_a TimerFired g, same)
  acts_so (Fires B) old new (armed, h, same) = (armed, to_b TimerFired h, same)
  acts_so FiresBoth old new (armed, g, h, same) = (armed, to_a TimerFired g, to_b TimerFired h, same)
  acts_so Breaks old new acts = acts
  acts_so Cancels old new (may, g, same) = (may, to_a Cancelled g, same)

  finds_so : (deed : Deed) (pushes : Pushes) (s : S) (t : T) → FindsNothing OtherA Other deed pushes s t → FindsNothing U V deed pushes s t
  finds_so Nothing pushes s t none = none
  finds_so (Meets way fate) pushes s t none = none
  finds_so (Fires A) pushes s t none = none
  finds_so (Fires B) pushes s t none = none
  finds_so FiresBoth pushes s t none = none
  finds_so Breaks pushes s t none = none
  finds_so Cancels pushes s t none = none

  pub done-so : (doing : Doing) (old new : Carriage S T) → IsDone OtherA Other doing old new → IsDone U V doing old new
  done-so (Moved A motion) old new (e, does, same) = (e, motion_so U to_a motion old.a e does, same)
  done-so (Moved B motion) old new (f, does, same) = (f, motion_so V to_b motion old.b f does, same)
  done-so (Deeds word) old new (rest, acts) = (rests-so old rest, acts_so (finds word old) old new acts)
  done-so (Misses word) old new (rest, none, same) = (rests-so old rest, finds_so (finds word old) old.pushes old.a.upper old.b.upper none, same)
  done-so Rises old new (down, idle, going, wants, same) = (down, idle_so U to_a old.a idle, going, wants, same)
  done-so (Falls A) old new (up, idle, leaves, same) = (up, idle_so U to_a old.a idle, leaves, same)
  done-so (Falls B) old new (up, idle, leaves, same) = (up, idle_so V to_b old.b idle, leaves, same)
  done-so (Opens name) old new (down, idle, pushes, next, g, same) = (down, idle_so U to_a old.a idle, pushes, next, to_a (Opening name) g, same)
  done-so (Closes outcome) old new (down, idle_a, idle_b, going, idle, came, same) = (down, idle_so U to_a old.a idle_a, idle_so V to_b old.b idle_b, going, idle, came, same)
