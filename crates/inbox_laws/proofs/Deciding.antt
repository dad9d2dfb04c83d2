-- What an inbox answers decides what happens to its host, and not what it holds.
use Rattle.std.proofs.Common.{◌≡◌, ℕ, List, Option, Some, None, refl, sym, ap, ◌∙◌}
use Rattle.pair_laws.specs.bt_base.specs.Objects.{Contents}
use Rattle.pair_laws.specs.bt_base.specs.declared.settings.Settings.{Settings}
use Rattle.pair_laws.specs.world_model.specs.Machines.{News, Upper}
use Rattle.pair_laws.specs.run_laws.specs.Embedding.{said_as, Embeds}
use Rattle.pair_laws.specs.alike_laws.proofs.Alike.{AreAlike, runs_on}
use Rattle.pair_laws.specs.host_model.specs.Circumstances.{Circumstance}
use Rattle.pair_laws.specs.host_model.specs.Clients.{ClientProfile, client_profile}
use Rattle.pair_laws.specs.host_model.specs.Hosts.{Host, first_host}
use Rattle.pair_laws.specs.host_model.specs.Machines.{server_host}
use Rattle.pair_laws.specs.host_model.specs.Servers.{ServerProfile, server_profile}
use Rattle.pair_laws.specs.push_script.specs.declared.scenario.Scenario.{Scenario}
use Rattle.pair_laws.specs.scenario_laws.specs.Captures.{client_of, server_of, beginning}
use Rattle.pair_laws.specs.Granted.{answered_by}
use Rattle.pair_laws.proofs.Answered.{IsSame}
use Rattle.inbox_laws.specs.Untold.{untold, untold_host, AnswersAloneDecide}
use Rattle.inbox_laws.proofs.Seen.{host_embeds}
use Rattle.inbox_laws.proofs.Owning.{itself}
use Rattle.inbox_laws.proofs.Untelling.{servers_seen}

-- ---- two machines that are seen as one

-- where it says nothing, or this, as it is seen, it says so
none_back : {S T : Type 0} (seen : S → T) (said : Option (List ℕ × S)) → said_as seen said ≡ None → said ≡ None
none_back seen None is = refl
none_back seen (Some one) is = cc

abbrev SaysBack : {S T : Type 0} → (S → T) → Option (List ℕ × S) → List ℕ → T → Type 0
SaysBack {S} seen said pdu after = (now : S) × (seen now ≡ after) × (said ≡ Some (pdu, now))

first_of : {T : Type 0} → List ℕ → Option (List ℕ × T) → List ℕ
first_of other None = other
first_of other (Some one) = one.0

second_of : {T : Type 0} → T → Option (List ℕ × T) → T
second_of other None = other
second_of other (Some one) = one.1

said_back : {S T : Type 0} (seen : S → T) (said : Option (List ℕ × S)) (pdu : List ℕ) (after : T) → said_as seen said ≡ Some (pdu, after) → SaysBack seen said pdu after
unfolding first_of second_of
said_back seen None pdu after is = cc
said_back seen (Some one) pdu after is = (one.1, ap (second_of after) is, ap (λ (x : List ℕ). Some (x, one.1)) (ap (first_of pdu) is))

-- whatever answers are put in the place of those that are given
answered_embeds : {S T G : Type 0} (seen : S → T) (U : Upper S G) (V : Upper T G) (to : News → List G → List G) → Embeds seen U V → Embeds seen (answered_by to U) (answered_by to V)
answered_embeds seen U V to e = record {
  hear = λ answers news s. e.hear (to news answers) news s;
  next = e.next;
  wants_link = e.wants_link;
  leaves_link = e.leaves_link;
  is_idle = e.is_idle;
  outcome = e.outcome;
  armed = e.armed;
  may_cancel = e.may_cancel;
  has_check = e.has_check;
}

-- where they are seen as the same they go on as the same
pub seen_alike : {S T W G : Type 0} (seen : S → W) (seen' : T → W) (U : Upper S G) (V : Upper T G) (M : Upper W G) → Embeds seen U M → Embeds seen' V M → AreAlike (λ (s : S) (t : T). seen' t ≡ seen s) U V
seen_alike {W = W} seen seen' U V M e f = record {
  hear = λ answers news s t is. (answers, sym (f.hear answers news t) ∙ (ap (M.hear answers news) is ∙ e.hear answers news s));
  says = λ s t is pdu after said. said_back seen' (V.next t) pdu (seen after) (sym (f.next t) ∙ (ap M.next is ∙ (e.next s ∙ ap (said_as seen) said)));
  silent = λ s t is none. none_back seen' (V.next t) (sym (f.next t) ∙ (ap M.next is ∙ (e.next s ∙ ap (said_as seen) none)));
  wants_link = λ s t is. sym (f.wants_link t) ∙ (ap M.wants_link is ∙ e.wants_link s);
  leaves_link = λ s t is. sym (f.leaves_link t) ∙ (ap M.leaves_link is ∙ e.leaves_link s);
  is_idle = λ s t is. sym (f.is_idle t) ∙ (ap M.is_idle is ∙ e.is_idle s);
  outcome = λ s t is. sym (f.outcome t) ∙ (ap M.outcome is ∙ e.outcome s);
  armed = λ s t is. sym (f.armed t) ∙ (ap M.armed is ∙ e.armed s);
  may_cancel = λ s t is. sym (f.may_cancel t) ∙ (ap M.may_cancel is ∙ e.may_cancel s);
  has_check = λ s t own is. sym (f.has_check t own) ∙ (ap (λ (w : W). M.has_check w own) is ∙ e.has_check s own);
}

-- ---- both hosts of a scenario

abbrev Unseen : Host ServerProfile → Host ServerProfile → Type 0
Unseen one other = untold_host other ≡ untold_host one

servers_alike : (settings : Settings) (to : News → List Circumstance → List Circumstance) (content other : Option Contents) → AreAlike Unseen (answered_by to (server_host settings content)) (answered_by to (server_host settings other))
servers_alike settings to content other =
    let none = server_host settings None in
    let seen = λ (held : Option Contents). answered_embeds untold_host (server_host settings held) none to (host_embeds untold (server_profile settings held) (server_profile settings None) (servers_seen settings held)) in
    seen_alike untold_host untold_host (answered_by to (server_host settings content)) (answered_by to (server_host settings other)) (answered_by to none) (seen content) (seen other)

pub answers_decide : AnswersAloneDecide
answers_decide scenario to_a to_b content other happenings world runs =
    let client = answered_by to_a (client_of scenario) in
    runs_on IsSame Unseen client client (answered_by to_b (server_of scenario content)) (answered_by to_b (server_of scenario other)) (itself client) (servers_alike scenario.settings to_b content other) happenings
    (first_host (client_profile scenario.settings)) (first_host (server_profile scenario.settings other)) (beginning scenario content) world refl refl runs
