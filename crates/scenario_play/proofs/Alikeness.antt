-- What a world in code did from hosts whose ports have still to answer, both hosts of the scenario do.
use Rattle.std.proofs.Common.{◌≡◌, ◌⊎◌, List, [], ◌∷◌, ◌++◌, map, Option, Ok, inl, inr, refl, sym, ap, ap₂, subst, ◌∙◌}
use Rattle.std.proofs.Math.Path.{fun_ext}
use Rattle.bt_base.specs.Objects.{Object, Contents}
use Rattle.capture.specs.Entries.{Entry}
use Rattle.noting_laws.specs.obex_session.specs.InboxCalls.{Answer}
use Rattle.push_script.specs.declared.scenario.Scenario.{Scenario}
use Rattle.push_terms.specs.declared.outcome.Outcome.{Outcome}
use Rattle.capture.specs.Air.{words_of}
use Rattle.noting_laws.specs.world_model.specs.Machines.{News, Upper}
use Rattle.noting_laws.specs.world_model.specs.Pushes.{Pushes}
use Rattle.noting_laws.specs.world_model.specs.Worlds.{World, Happening, Runs, IsAtRest, all_entries, all_words}
use Rattle.noting_laws.specs.air_laws.specs.AirLaws.{IsLastEnd}
use Rattle.radio_world.specs.run_laws.specs.Embedding.{Embeds, world_as}
use Rattle.radio_world.specs.run_laws.proofs.Embedding.{runs_are_of_less, rest_is_of_less}
use Rattle.noting_laws.specs.alike_laws.specs.Twins.{AreTwins, IsOther, WorldsAlike}
use Rattle.noting_laws.specs.alike_laws.proofs.Alike.{runs_on}
use Rattle.noting_laws.specs.alike_laws.proofs.Twins.{alike as twins_alike, runs_are_of_twins, rest_is_of_twins}
use Rattle.radio_world.specs.Scenes.{world_at}
use Rattle.radio_world.specs.Standing.{starting, first_moment, last_ended, last_entries, all_outcomes}
use Rattle.bt_host.specs.host_model.specs.Circumstances.{Circumstance, Size, Part, Stored}
use Rattle.bt_host.specs.shelf_model.specs.Held.{held_by}
use Rattle.bt_host.specs.host_model.specs.Hosts.{Host}
use Rattle.bt_host.specs.host_model.specs.Clients.{ClientProfile}
use Rattle.bt_host.specs.host_model.specs.Servers.{ServerProfile}
use Rattle.noting_laws.specs.scenario_laws.specs.Captures.{client_of, server_of, beginning, BothHosts, Happened, Ran, Finished}
use Rattle.noting_laws.specs.scenario_laws.specs.Outcomes.{outcomes_of}
use Rattle.noting_laws.specs.scenario_laws.specs.Played.{AreHostsOf}
use Rattle.noting_laws.specs.scenario_laws.proofs.Outcomes.{outcomes_stated}
use Rattle.noting_laws.specs.scenario_laws.proofs.Played.{last_is}
use Rattle.noting_laws.specs.pair_laws.specs.Enough.{remembered, remembering, HappenedEnough}
use Rattle.noting_laws.specs.pair_laws.specs.Granted.{answered_by, granted, granting}
use Rattle.noting_laws.specs.pair_laws.specs.Served.{holding_on, HappenedHeld, HappenedServed}
use Rattle.noting_laws.specs.pair_laws.proofs.Answered.{IsSame, same_alike, runs-so}
use Rattle.done_laws.specs.tape_laws.specs.OwnPairs.{own_of, own_beginning, RanOwn}

-- what is told of both of two is told of each of them
pub told_same : {S X : Type 0} (tell : S → X) (first other s t : S) → tell other ≡ tell first → IsOther first other s t → tell t ≡ tell s
told_same tell first other s t same (inl is) = ap tell is
told_same tell first other s t same (inr (is_s, is_t)) = ap tell is_t ∙ same ∙ sym (ap tell is_s)

-- a run of both hosts of the scenario, whose world is that one but for machines that have heard nothing
pub record IsLike {S T : Type 0} (scenario : Scenario) (content : Option Contents) (as_a : Host ClientProfile → S) (as_b : Host ServerProfile → T) (s : S) (t : T) (happenings : List Happening) (at : World S T) : Type 0 where
  pub world : BothHosts
  pub happened : Happened scenario content happenings world
  pub alike : WorldsAlike (IsOther s (as_a (client_of scenario).first)) (IsOther t (as_b (server_of scenario content).first)) at (world_as as_a as_b world)

-- the scenario ran to its end, as it does where that run stands behind all that happened
pub record IsWhole {S T : Type 0} (scenario : Scenario) (content : Option Contents) (as_a : Host ClientProfile → S) (as_b : Host ServerProfile → T) (s : S) (t : T) (happenings : List Happening) (at : World S T)
    (like : IsLike scenario content as_a as_b s t happenings at) (came : Option Outcome) : Type 0 where
  pub finished : Finished scenario content (all_entries happenings ++ last_entries came at.pushes)
  pub world_is : finished.ran.world ≡ like.world
  pub happenings_are : finished.ran.happenings ≡ happenings
  pub ends : finished.ran.ends ≡ last_entries ((client_of scenario).outcome finished.ran.world.a.upper) finished.ran.world.pushes
  pub outcomes_are : all_outcomes (last_ended came at.pushes) ≡ outcomes_of scenario (all_entries happenings ++ last_entries came at.pushes)

module _ {S T : Type 0} (U : Upper S Circumstance) (V : Upper T Circumstance) (scenario : Scenario) (content : Option Contents) (as_a : Host ClientProfile → S) (as_b : Host ServerProfile → T) (hosts : AreHostsOf scenario content U V as_a as_b)
    (s : S) (t : T) (twins_a : AreTwins U s (as_a (client_of scenario).first)) (twins_b : AreTwins V t (as_b (server_of scenario content).first)) where
  abbrev Like : List Happening → World S T → Type 0
  Like happenings at = IsLike scenario content as_a as_b s t happenings at

  pub like_runs : (happenings : List Happening) (at : World S T) → Runs U V happenings (world_at (first_moment (starting s U) (starting t V) scenario.acl_length scenario.acl_count scenario.names)) at → Like happenings at
  like_runs happenings at ran =
      let first = first_moment (starting s U) (starting t V) scenario.acl_length scenario.acl_count scenario.names in
      let other_a = as_a (client_of scenario).first in
      let other_b = as_b (server_of scenario content).first in
      let (new, alike, runs) = runs_are_of_twins U V s other_a t other_b twins_a twins_b happenings (world_at first) at refl refl ran in
      let (world, same, happened) = runs_are_of_less as_a as_b (client_of scenario) U (server_of scenario content) V hosts.a hosts.b happenings (beginning scenario content) new runs in
      record { world = world; happened = happened; alike = subst (λ (w : World S T). WorldsAlike (IsOther s other_a) (IsOther t other_b) at w) same alike }

  module _ (happenings : List Happening) (at : World S T) (like : Like happenings at) where
    -- what is told of the machines that have heard nothing is told of all
    pub told_a : {X : Type 0} (tell : S → X) → tell (as_a (client_of scenario).first) ≡ tell s → tell (as_a like.world.a.upper) ≡ tell at.a.upper
    told_a tell same = told_same tell s (as_a (client_of scenario).first) at.a.upper (as_a like.world.a.upper) same like.alike.a

    pub told_b : {X : Type 0} (tell : T → X) → tell (as_b (server_of scenario content).first) ≡ tell t → tell (as_b like.world.b.upper) ≡ tell at.b.upper
    told_b tell same = told_same tell t (as_b (server_of scenario content).first) at.b.upper (as_b like.world.b.upper) same like.alike.b

    pushes_are : like.world.pushes ≡ at.pushes
    pushes_are = ap (λ (w : World S T). w.pushes) like.alike.same

    came_is : (client_of scenario).outcome like.world.a.upper ≡ U.outcome at.a.upper
    came_is = sym (hosts.a.outcome like.world.a.upper) ∙ told_a (λ (x : S). U.outcome x) twins_a.outcome

    pub like_rests : IsAtRest U V at → IsAtRest (client_of scenario) (server_of scenario content) like.world
    like_rests rest =
        rest_is_of_less as_a as_b (client_of scenario) U (server_of scenario content) V hosts.a hosts.b like.world
        (rest_is_of_twins U V s (as_a (client_of scenario).first) t (as_b (server_of scenario content).first) twins_a twins_b at (world_as as_a as_b like.world) like.alike rest)

    pub like_ends : IsAtRest U V at → all_words happenings ≡ words_of scenario.script → IsWhole scenario content as_a as_b s t happenings at like (U.outcome at.a.upper)
    like_ends rest words =
        let came = U.outcome at.a.upper in
        let ends = last_entries came at.pushes in
        let ran : Ran scenario content (all_entries happenings ++ ends) = record {
          happenings = happenings;
          world = like.world;
          happened = like.happened;
          ends = ends;
          last = subst (λ (p : Pushes). IsLastEnd p ends) (sym pushes_are) (last_is came at.pushes);
          capture_is = refl;
        } in
        record {
          finished = record {
            ran = ran;
            words_are = words;
            rests = like_rests rest;
          };
          world_is = refl;
          happenings_are = refl;
          ends = ap₂ (λ (c : Option Outcome) (p : Pushes). last_entries c p) (sym came_is) (sym pushes_are);
          outcomes_are = subst (λ (p : Pushes). all_outcomes (last_ended came p) ≡ outcomes_of scenario (all_entries happenings ++ last_entries came p)) pushes_are ((outcomes_stated scenario content (all_entries happenings ++ ends) ran).all came);
        }

-- ---- where the shelf tells what it holds, and the inbox lacks no memory or grants all

-- a run like that one, in which the shelf told what it holds and the inbox lacked no memory; and granted all calls where that is so
pub record IsLikeServed {S T : Type 0} (scenario : Scenario) (shelf : Option (List Object)) (content : Option Contents) (as_a : Host ClientProfile → S) (as_b : Host ServerProfile → T) (s : S) (t : T) (happenings : List Happening) (at : World S T) (Never : Type 0) : Type 0 where
  pub like : IsLike scenario content as_a as_b s t happenings at
  pub enough : HappenedEnough scenario shelf content happenings like.world
  pub granted : Never → HappenedServed scenario shelf content happenings like.world

abbrev grants : News → List Circumstance → List Circumstance
grants news answers = map granted answers

abbrev remembers : News → List Circumstance → List Circumstance
remembers news answers = map remembered answers

abbrev as_told : News → List Circumstance → List Circumstance
as_told news answers = answers

-- grants are answers of an inbox that lacks no memory
grants_stay : (answers : List Circumstance) → map granted answers ≡ map remembered (map granted answers)
grants_stay [] = refl
grants_stay (Size answer ∷ answers) = ap (λ (l : List Circumstance). Size answer ∷ l) (grants_stay answers)
grants_stay (Part answer ∷ answers) = ap (λ (l : List Circumstance). Part answer ∷ l) (grants_stay answers)
grants_stay (Stored answer ∷ answers) = ap (λ (l : List Circumstance). Stored (Ok tt) ∷ l) (grants_stay answers)

granted_enough : {S T : Type 0} (U : Upper S Circumstance) (V : Upper T Circumstance) (happenings : List Happening) (old new : World S T) → Runs U (granting V) happenings old new → Runs U (remembering V) happenings old new
granted_enough {T = T} U V happenings old new runs =
    let same : granting V ≡ answered_by grants (remembering V) = ap (λ (f : List Circumstance → List Circumstance). answered_by (λ news answers. f answers) V) (fun_ext grants_stay) in
    runs-so U (remembering V) as_told grants happenings old new (subst (λ (W : Upper T Circumstance). Runs U W happenings old new) same runs)

-- of a run whose inbox lacked no memory, what its shelf told
pub enough_held : (scenario : Scenario) (shelf : Option (List Object)) (content : Option Contents) (happenings : List Happening) (world : BothHosts) → HappenedEnough scenario shelf content happenings world → HappenedHeld scenario shelf content happenings world
enough_held scenario shelf content happenings world happened = runs-so (holding_on shelf (client_of scenario)) (server_of scenario content) as_told remembers happenings (beginning scenario content) world happened

-- a host is one of a machine whose ports give other answers as well
answering_host : {S T : Type 0} (embed : S → T) (U : Upper S Circumstance) (V : Upper T Circumstance) (to : News → List Circumstance → List Circumstance) → Embeds embed U V → Embeds embed (answered_by to U) (answered_by to V)
answering_host embed U V to e = record {
  hear = λ answers news host. e.hear (to news answers) news host;
  next = e.next;
  wants_link = e.wants_link;
  leaves_link = e.leaves_link;
  is_idle = e.is_idle;
  outcome = e.outcome;
  armed = e.armed;
  may_cancel = e.may_cancel;
  has_check = e.has_check;
}

module _ {S T : Type 0} (U : Upper S Circumstance) (V : Upper T Circumstance) (scenario : Scenario) (shelf : Option (List Object)) (content : Option Contents) (as_a : Host ClientProfile → S) (as_b : Host ServerProfile → T) (hosts : AreHostsOf scenario content U V as_a as_b)
    (s : S) (t : T) (holding_a : AreTwins (holding_on shelf U) s (as_a (client_of scenario).first)) (answering_b : (to : News → List Circumstance → List Circumstance) → AreTwins (answered_by to V) t (as_b (server_of scenario content).first)) where
  abbrev From : World S T
  From = world_at (first_moment (starting s U) (starting t V) scenario.acl_length scenario.acl_count scenario.names)

  -- a run like that one, in which the inbox gave these answers
  record IsLikeAnswered (to : News → List Circumstance → List Circumstance) (happenings : List Happening) (at : World S T) : Type 0 where
    like : IsLike scenario content as_a as_b s t happenings at
    happened : Runs (holding_on shelf (client_of scenario)) (answered_by to (server_of scenario content)) happenings (beginning scenario content) like.world

  like_answered : (to : News → List Circumstance → List Circumstance) (happenings : List Happening) (at : World S T) → Runs (holding_on shelf U) (answered_by to V) happenings From at → IsLikeAnswered to happenings at
  like_answered to happenings at run =
      let other_a = as_a (client_of scenario).first in
      let other_b = as_b (server_of scenario content).first in
      let client = client_of scenario in
      let server = server_of scenario content in
      let (new, alike, ran) = runs_are_of_twins (holding_on shelf U) (answered_by to V) s other_a t other_b holding_a (answering_b to) happenings From at refl refl run in
      let (world, same, happened) = runs_are_of_less as_a as_b (holding_on shelf client) (holding_on shelf U) (answered_by to server) (answered_by to V) (answering_host as_a client U (held_by shelf) hosts.a) (answering_host as_b server V to hosts.b) happenings (beginning scenario content) new ran in
      record {
        like = record {
          world = world;
          happened = runs-so client server (held_by shelf) to happenings (beginning scenario content) world happened;
          alike = subst (λ (w : World S T). WorldsAlike (IsOther s other_a) (IsOther t other_b) at w) same alike;
        };
        happened = happened;
      }

  -- it is where the inbox failed never that the answers are grants
  pub like_served : (happenings : List Happening) (at : World S T) (Never : Type 0) → Never ⊎ (Never → ⊥) → Runs (holding_on shelf U) (remembering V) happenings From at → (Never → Runs (holding_on shelf U) (granting V) happenings From at)
      → IsLikeServed scenario shelf content as_a as_b s t happenings at Never
  like_served happenings at Never (inr failed) run served = let so = like_answered remembers happenings at run in record { like = so.like; enough = so.happened; granted = λ never. absurd (failed never) }
  like_served happenings at Never (inl never) run served =
      let so = like_answered grants happenings at (served never) in
      record { like = so.like; enough = granted_enough (holding_on shelf (client_of scenario)) (server_of scenario content) happenings (beginning scenario content) so.like.world so.happened; granted = λ given. so.happened }

-- ---- where the server has all answers of its inbox from its first moment on

-- a run like that one, in which the server is that of the world in code, and the shelf told what it holds
pub record IsLikeOwn {S T : Type 0} (scenario : Scenario) (shelf : Option (List Object)) (content : Option Contents) (answers : List Answer) (as_a : Host ClientProfile → S) (as_b : Host ServerProfile → T) (s : S) (happenings : List Happening) (at : World S T) (came : Option Outcome) : Type 0 where
  pub world : BothHosts
  pub happened : Runs (holding_on shelf (client_of scenario)) (own_of scenario content answers) happenings (own_beginning scenario content answers) world
  pub client_is : IsOther s (as_a (client_of scenario).first) at.a.upper (as_a world.a.upper)
  pub server_is : as_b world.b.upper ≡ at.b.upper
  pub pushes_are : world.pushes ≡ at.pushes
  pub radio_is : world.radio ≡ at.radio
  pub outcome_is : (client_of scenario).outcome world.a.upper ≡ came

module _ {S T : Type 0} (U : Upper S Circumstance) (V : Upper T Circumstance) (scenario : Scenario) (shelf : Option (List Object)) (content : Option Contents) (answers : List Answer) (as_a : Host ClientProfile → S) (as_b : Host ServerProfile → T)
    (a : Embeds as_a (client_of scenario) U) (b : Embeds as_b (own_of scenario content answers) V) (s : S) (holding_a : AreTwins (holding_on shelf U) s (as_a (client_of scenario).first)) where
  abbrev Own : World S T
  Own = world_at (first_moment (starting s U) (starting (as_b (own_of scenario content answers).first) V) scenario.acl_length scenario.acl_count scenario.names)

  abbrev LikeOwn : List Happening → World S T → Type 0
  LikeOwn happenings at = IsLikeOwn scenario shelf content answers as_a as_b s happenings at (U.outcome at.a.upper)

  pub like_own : (happenings : List Happening) (at : World S T) → Runs (holding_on shelf U) V happenings Own at → LikeOwn happenings at
  like_own happenings at run =
      let other_a = as_a (client_of scenario).first in
      let first_b = as_b (own_of scenario content answers).first in
      let (new, alike, ran) = runs_on (IsOther s other_a) IsSame (holding_on shelf U) (holding_on shelf U) V V (twins_alike (holding_on shelf U) s other_a holding_a) (same_alike (λ (news : News) (gifts : List Circumstance). gifts) V) happenings other_a first_b Own at (inr (refl, refl)) refl run in
      let (world, same, happened) = runs_are_of_less as_a as_b (holding_on shelf (client_of scenario)) (holding_on shelf U) (own_of scenario content answers) V (answering_host as_a (client_of scenario) U (held_by shelf) a) b happenings (own_beginning scenario content answers) new ran in
      let client = subst (λ (w : World S T). IsOther s other_a at.a.upper w.a.upper) same alike.a in
      record {
        world = world;
        happened = happened;
        client_is = client;
        server_is = sym (ap (λ (w : World S T). w.b.upper) same) ∙ alike.b;
        pushes_are = sym (ap (λ (w : World S T). w.pushes) same) ∙ ap (λ (w : World S T). w.pushes) alike.same;
        radio_is = sym (ap (λ (w : World S T). w.radio) same) ∙ ap (λ (w : World S T). w.radio) alike.same;
        outcome_is = sym (a.outcome world.a.upper) ∙ told_same (λ (x : S). U.outcome x) s other_a at.a.upper (as_a world.a.upper) holding_a.outcome client;
      }

  -- with the end of the push that goes on behind it, it is the run of a capture
  abbrev pub own_ran : (happenings : List Happening) (at : World S T) (like : LikeOwn happenings at) (ends capture : List Entry) → IsLastEnd at.pushes ends → capture ≡ all_entries happenings ++ ends → RanOwn scenario shelf content answers capture
  own_ran happenings at like ends capture last is =
      record { happenings = happenings; world = like.world; happened = like.happened; ends = ends; last = subst (λ (p : Pushes). IsLastEnd p ends) (sym like.pushes_are) last; capture_is = is }
