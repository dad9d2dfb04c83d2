-- In each run over L2CAP the push that came to an outcome which an SDU alone brings is the last one in which its client did anything.
use Rattle.std.proofs.Common.{inl, inr, ◌⊎◌, ◌≡◌, ℕ, Bool, false, List, [], ◌∷◌, ◌++◌, Some, None, refl, sym, ap, subst, ◌∙◌, append_assoc, append-nil}
use Rattle.std.specs.List.{AllByRecursion}
use Rattle.cause_laws.proofs.Clients.{is_unsaid}
use Rattle.tape_laws.specs.bt_base.specs.declared.settings.Settings.{Settings}
use Rattle.tape_laws.specs.bt_base.specs.declared.settings.Transport.TheVariants.{L2cap}
use Rattle.tape_laws.specs.bt_base.specs.Objects.{Object}
use Rattle.tape_laws.specs.obex_session.specs.InboxCalls.{Answer}
use Rattle.tape_laws.specs.push_script.specs.declared.scenario.Scenario.{Scenario}
use Rattle.tape_laws.specs.push_terms.specs.declared.outcome.Outcome.{Outcome}
use Rattle.tape_laws.specs.push_terms.specs.declared.word.Side.TheVariants as sides
use Rattle.tape_laws.specs.capture.specs.Entries.{Entry}
use Rattle.tape_laws.specs.link_talk.specs.Captures.{objects_heard}
use Rattle.tape_laws.specs.push_laws.specs.Gains.{objects}
use Rattle.tape_laws.specs.push_laws.specs.Occurrences.{Occurrence}
use Rattle.tape_laws.specs.push_laws.specs.Parties.{Push, ended_with, over_pushes}
use Rattle.tape_laws.specs.push_laws.specs.Premises.{NoneShort}
use Rattle.tape_laws.specs.push_model.specs.Client.{new_client}
use Rattle.tape_laws.specs.world_model.specs.Pushes.{Pushes}
use Rattle.tape_laws.specs.world_model.specs.Worlds.{Happening, all_entries, Runs}
use Rattle.tape_laws.specs.air_laws.specs.AirLaws.{IsLastEnd}
use Rattle.tape_laws.specs.host_model.specs.Clients.{ClientProfile}
use Rattle.tape_laws.specs.host_model.specs.Hosts.{Host}
use Rattle.tape_laws.specs.host_laws.specs.Gaining.{IsDirect}
use Rattle.tape_laws.specs.scenario_laws.specs.Captures.{BothHosts}
use Rattle.tape_laws.specs.scenario_laws.specs.Gains.{holding}
use Rattle.tape_laws.specs.scenario_laws.specs.Parties.{party_of}
use Rattle.tape_laws.specs.request_laws.proofs.AllSizes.{run_offered}
use Rattle.tape_laws.specs.request_laws.proofs.Latest.{IsIdle, IsLast}
use Rattle.tape_laws.specs.request_laws.proofs.Told.{none_longer, all_answer}
use Rattle.tape_laws.specs.OwnPairs.{IsThereToo}
use Rattle.tape_laws.specs.Pairs.{TapedHosts}
use Rattle.tape_laws.specs.Runs.{untaped_world}
use Rattle.done_laws.proofs.Lasts.{over_one}
use Rattle.done_laws.proofs.Off.{CameTo}
use Rattle.done_laws.proofs.Runs.{U, V, begins, own_moment, pushed, ran_by, turns_by, spends_by}
use Rattle.unmarked_laws.specs.Unspelled.{AllSpellSo}
use Rattle.unmarked_laws.specs.Ends.{IsOverAt, EndsDecided, AreSpelled, EndsPushes, OwnServersEndSo}
use Rattle.unmarked_laws.proofs.Pushes.{withheld_spell_none}

-- ---- what is spelled of them

module _ (settings : Settings) where
  record Spelled (past : List Occurrence) (pushes : List Push) (last : Push) : Type 0 where
    spelled : List Object
    is : objects settings (past ++ over_pushes pushes last) ≡ objects settings past ++ spelled
    are : AreSpelled (pushes ++ last ∷ []) spelled

  all_spelled : (past : List Occurrence) (pushes : List Push) (last : Push) → AllSpellSo settings past pushes last → Spelled past pushes last
  all_spelled past [] last one = record { spelled = one.here; is = one.spelled; are = (one.here, [], sym (append-nil one.here), one.none, refl) }
  all_spelled past (push ∷ pushes) last each =
      let one = each.0 in
      let rest = all_spelled (past ++ ended_with push) pushes last each.1 in
      record {
        spelled = one.here ++ rest.spelled;
        is = ap (objects settings) (sym (over_one settings [] push pushes last past)) ∙ (rest.is ∙ (ap (λ (os : List Object). os ++ rest.spelled) one.spelled ∙ append_assoc (objects settings past) one.here rest.spelled));
        are = (one.here, rest.spelled, refl, one.none, rest.are);
      }

-- ---- the last one

came_last : (outcome : Outcome) (name : List ℕ) (settings : Settings) (pushes : List Push) → (CameTo outcome name (new_client settings) × AllByRecursion IsIdle pushes) ⊎ IsLast (CameTo outcome name) pushes → EndsDecided outcome pushes
came_last outcome name settings pushes (inl first) = absurd (let never : None ≡ Some outcome = first.0.0 in cc)
came_last outcome name settings pushes (inr last) = record { ahead = last.ahead; one = last.one; behind = last.behind; pushes_are = last.is; cause = last.so.0; idle = last.idle }

-- what is so of the world of a server that keeps its answers is so of that of one with their tape
pub over_there : (outcome : Outcome) (scenario : Scenario) (before : List Object) (answers : List Answer) (own plain : BothHosts) → IsThereToo scenario (holding before) answers own plain → IsOverAt outcome own → IsOverAt outcome plain
over_there outcome scenario before answers own plain there over = record {
  none_a = ap (λ (w : BothHosts). w.radio.a.owed) there.same ∙ over.none_a;
  none_b = ap (λ (w : BothHosts). w.radio.b.owed) there.same ∙ over.none_b;
  cause = ap (λ (h : Host ClientProfile). h.profile.client.cause) there.a ∙ over.cause;
}

-- ---- a run

module _ (outcome : Outcome) (said : is_unsaid outcome ≡ false) (scenario : Scenario) (shelf before : List Object) (answers : List Answer) (enough : NoneShort answers) (direct : scenario.settings.transport ≡ L2cap) where
  pub ends_so : (capture : List Entry) (done : List Happening) (ends : List Entry) (world : TapedHosts Bool) → Runs (U scenario shelf before answers) (V scenario shelf before answers) done (begins scenario shelf before answers) world → IsLastEnd world.pushes ends → capture ≡ all_entries done ++ ends
      → EndsPushes scenario shelf outcome (objects_heard (party_of scenario.settings sides.B) sides.B capture) (IsOverAt outcome (untaped_world world))
  ends_so capture done ends world runs last capture_is =
      let settings = scenario.settings in
      let ran = ran_by scenario shelf before answers capture done ends world runs last capture_is in
      let so = turns_by scenario shelf before answers capture done ends world runs last capture_is in
      let spends = spends_by scenario shelf before answers capture done ends world runs last capture_is in
      let near = so.turns.pairs.a.fed.so.lives.feeds in
      let far = so.turns.pairs.b.fed.so.lives.feeds in
      let run = run_offered NoneShort scenario before capture ran so.turns direct (none_longer (Some shelf) near so.told) (all_answer NoneShort far (spends.enough enough)) in
      let all = pushed scenario shelf before answers enough direct capture ran outcome said so.turns so.told run in
      let each = withheld_spell_none settings all.pushes all.last all.offered all.last_offered (subst (AllByRecursion IsDirect) all.is run.direct) in
      let spelled = all_spelled settings [] all.pushes all.last each in
      record {
        pushes = all.pushes ++ all.last ∷ [];
        named = all.named;
        of_shelf = all.of_shelf;
        spell = subst (AreSpelled (all.pushes ++ all.last ∷ [])) (sym spelled.is ∙ (ap (objects settings) (sym all.is) ∙ run.spells)) spelled.are;
        ends = λ over. came_last outcome ran.world.a.upper.profile.client.name settings (all.pushes ++ all.last ∷ []) (all.ties (so.level over.none_a over.none_b) (over.cause, refl));
      }

pub own_servers_end_so : OwnServersEndSo
own_servers_end_so outcome said scenario shelf before answers capture own direct enough =
    let now = own_moment scenario shelf before answers capture own direct enough in
    let there = now.there in
    let last : IsLastEnd there.pushes own.ends = subst (λ (pushes : Pushes). IsLastEnd pushes own.ends) (sym (ap (λ (w : BothHosts). w.pushes) now.alike.same)) own.last in
    let so = ends_so outcome said scenario shelf before answers enough direct capture own.happenings own.ends there now.runs last own.capture_is in
    record {
      pushes = so.pushes;
      named = so.named;
      of_shelf = so.of_shelf;
      spell = so.spell;
      ends = λ over. so.ends (over_there outcome scenario before answers own.world (untaped_world there) now.alike over);
    }
