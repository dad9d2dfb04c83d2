-- Push after push over RFCOMM, of clients that find the server's channel in its own answers.
use Rattle.std.proofs.Common.{inl, inr, ◌⊎◌, ◌&&◌, ◌≡◌, ◌≤◌, ◌<◌, ◌^◌, ℕ, List, [], ◌∷◌, Some, None, refl, sym, ap, subst, ◌∙◌, arith, ◌++◌}
use Rattle.std.specs.List.{AllByRecursion}
use Rattle.link_talk.specs.bt_base.specs.Objects.{Object as Stored}
use Rattle.link_talk.specs.bt_base.specs.declared.settings.Serves.{Serves}
use Rattle.link_talk.specs.bt_base.specs.declared.settings.Serves.TheVariants as serving
use Rattle.link_talk.specs.bt_base.specs.declared.settings.Settings.{Settings}
use Rattle.link_talk.specs.bt_base.specs.declared.settings.Transport.{Transport}
use Rattle.link_talk.specs.bt_base.specs.declared.settings.Transport.TheVariants.{L2cap, Rfcomm}
use Rattle.push_model.specs.obex_session.specs.InboxCalls.{Answer}
use Rattle.push_model.specs.sdp_client.specs.Laws.{served_target}
use Rattle.push_model.specs.sdp_elements.specs.declared.target.Target.{Target}
use Rattle.push_model.specs.Client.{Client, new_client, own_maximum, is_direct, with_object}
use Rattle.push_model.specs.Laws.{Deed, all_done}
use Rattle.push_model.specs.Server.{Reacted, server_channel}
use Rattle.link_talk.specs.push_terms.specs.declared.outcome.Outcome.{Outcome}
use Rattle.link_talk.specs.push_terms.specs.declared.outcome.Outcome.TheVariants as outcomes
use Rattle.push_laws.specs.Dialogs.{AllServeCarried}
use Rattle.push_laws.specs.Laws.{new_over}
use Rattle.push_laws.specs.Occurrences.{Occurrence, done}
use Rattle.push_laws.specs.OneName.{AllNamedOnce, PushedGainLess}
use Rattle.push_laws.specs.Opening.{targets_heard}
use Rattle.push_laws.specs.Parties.{Push, begun_of, client_side, over_pushes, Move, OfServer, OfClient, of_client, IsFrontOf}
use Rattle.push_laws.specs.Searches.{IsAsked, AllAreOwn, FindsWhatIsServed, IsMuxedClient, MayBePushed, NewClientsAreMuxed, MuxedClientsStay, IsPushedOver, ServesSo, AllServe, PushedAreHeard, PushedAreTaken}
use Rattle.push_laws.specs.Sending.{MayPush}
use Rattle.push_laws.specs.Premises.{AllGranted, NoneShort, AllMayFail}
use Rattle.push_laws.specs.Spelled.{ArePushed, IsOfShelf, IsOfShelfOrStill, name_by, name_of, names_of, PushedSpellOnce}
use Rattle.push_laws.proofs.Among.{none_pushed, one_pushed}
use Rattle.link_talk.specs.ObjectsHeard.{spelled_within}
use Rattle.push_laws.proofs.Calm.{silent_stream}
use Rattle.push_laws.proofs.Spelt.{all_spelt}
use Rattle.push_laws.proofs.SpeltOnce.{stands_once, unsent_none}
use Rattle.push_laws.proofs.Apart.{IsApart, pushes_none, serves_carried}
use Rattle.push_laws.proofs.Carried.{pushes_are_heard, pushes_are_taken, pushes_taken}
use Rattle.push_laws.proofs.Finding.{targets-are_served}
use Rattle.push_laws.proofs.Losses.{named-once_gain_less}
use Rattle.push_laws.proofs.Naming.{NamesNoOther, NameNoOther, stays_there}
use Rattle.push_laws.proofs.Placing.{Pushes, Fit, task_of}
use Rattle.push_laws.proofs.Pushing.{Task, Fixed, Fresh}
use Rattle.push_laws.proofs.Sending.{all_stand}
use Rattle.push_laws.proofs.Staying.{multiplexers-stay}

-- ---- what a record of a server names

same_number : (a b : ℕ) → Some a ≡ Some b → b ≡ a
same_number a b e = cc

served_names : (serves : Serves) → NamesNoOther (served_target serves)
served_names serving.Both number is = same_number server_channel number is
served_names serving.L2cap number is = absurd (let none : None ≡ Some number = is in cc)
served_names serving.Rfcomm number is = same_number server_channel number is

found_names : (serves : Serves) (targets : List Target) → (targets ≡ []) ⊎ (targets ≡ served_target serves ∷ []) → NameNoOther targets
found_names serves targets (inl none) = subst NameNoOther (sym none) tt
found_names serves targets (inr one) = subst NameNoOther (sym one) (served_names serves, tt)

-- ---- a push

may_push : (client : Client) (name : List ℕ) (size : ℕ) → IsMuxedClient client → MayBePushed name size → MayPush client name size
may_push client name size c o = record { short = o.short; small = o.small; own = c.own; least = c.least; most = c.most }

pushes_of : (settings : Settings) (push : Push) → IsPushedOver push → FindsWhatIsServed settings push → Pushes push
pushes_of settings push p found =
    let c : IsMuxedClient push.client = p.client in
    record {
      pushed = record {
        muxed = c.muxed;
        role = c.role;
        fits = c.fits;
        some = c.some;
        few = c.few;
        there = stays_there push.client push.name push.size push.moves c.muxed (found_names settings.serves (targets_heard (client_side push.moves) (begun_of push)) found.heard);
        carried = p.carried;
      };
      may = may_push push.client push.name push.size c p.object;
      plain = c.plain;
      short = c.short;
      answers = p.answers;
    }

all_pushes : (settings : Settings) (pushes : List Push) → AllByRecursion IsPushedOver pushes → AllByRecursion (FindsWhatIsServed settings) pushes → AllByRecursion Pushes pushes
all_pushes settings [] all found = tt
all_pushes settings (push ∷ pushes) all found = (pushes_of settings push all.0 found.0, all_pushes settings pushes all.1 found.1)

all_asked : (pushes : List Push) → AllByRecursion IsPushedOver pushes → AllByRecursion IsAsked pushes
all_asked [] all = tt
all_asked (push ∷ pushes) all = (let first = all.0 in first.asked, all_asked pushes all.1)

all_apart : (pushes : List Push) → AllByRecursion IsPushedOver pushes → AllByRecursion IsApart pushes
all_apart [] all = tt
all_apart (push ∷ pushes) all = (apart_of push all.0, all_apart pushes all.1)
  where
    apart_of : (p : Push) → IsPushedOver p → IsApart p
    apart_of p is = record { muxed = let c = is.client in c.muxed; direct = is.direct }

all_own : (Are : List Answer → Type 0) (at : Reacted) (list : List Occurrence) → AllServe Are at list → AllAreOwn at list
all_own Are at [] serve = tt
all_own Are at (one ∷ rest) serve = let first : ServesSo Are at one = serve.0 in (first.own, all_own Are (done one at) rest serve.1)

-- ---- the laws

found : (settings : Settings) (before : List Stored) (pushes : List Push) (last : Push) → AllByRecursion IsPushedOver pushes → IsPushedOver last → AllAreOwn (new_over settings before) (over_pushes pushes last) → AllByRecursion (FindsWhatIsServed settings) pushes × FindsWhatIsServed settings last
found settings before pushes last all over own = targets-are_served settings (Some (record { stored = before; pending = None })) pushes last (all_asked pushes all) over.asked own

carried_of : (Are : List Answer → Type 0) (settings : Settings) (before : List Stored) (pushes : List Push) (last : Push) → AllByRecursion IsPushedOver pushes → IsPushedOver last → AllServe Are (new_over settings before) (over_pushes pushes last)
    → AllServeCarried Are (new_over settings before) (over_pushes pushes last)
carried_of Are settings before pushes last all over serve =
    let c : IsMuxedClient last.client = over.client in
    serves_carried Are (new_over settings before) (over_pushes pushes last) serve (pushes_none pushes last (all_apart pushes all) (record { muxed = c.muxed; direct = over.direct }))

pub pushed-are_heard : PushedAreHeard
pushed-are_heard settings before pushes last all over serve =
    let f = found settings before pushes last all over (all_own AllGranted (new_over settings before) (over_pushes pushes last) serve) in
    pushes_are_heard settings before pushes last (all_pushes settings pushes all f.0) (pushes_of settings last over f.1) (carried_of AllGranted settings before pushes last all over serve)

-- and one packet at most has a Name on each channel
taken : (settings : Settings) (before : List Stored) (pushes : List Push) (last : Push) → AllByRecursion IsPushedOver pushes → IsPushedOver last → AllServe NoneShort (new_over settings before) (over_pushes pushes last)
    → AllMayFail settings [] (new_over settings before) (over_pushes pushes last) × AllNamedOnce settings Rfcomm [] (over_pushes pushes last)
taken settings before pushes last all over serve =
    let f = found settings before pushes last all over (all_own NoneShort (new_over settings before) (over_pushes pushes last) serve) in
    pushes_taken settings before pushes last (all_pushes settings pushes all f.0) (pushes_of settings last over f.1) (carried_of NoneShort settings before pushes last all over serve)

pub pushed-are_taken : PushedAreTaken
pushed-are_taken settings before pushes last all over serve = (taken settings before pushes last all over serve).0

pub pushed-gain_less : PushedGainLess
pushed-gain_less settings before pushes last all over serve =
    let both = taken settings before pushes last all over serve in
    named-once_gain_less settings before Rfcomm (over_pushes pushes last) both.0 both.1

-- ---- what is spelled of them

module _ (settings : Settings) (shelf : List Stored) where
  -- a push in which its client does something is of an object of the shelf, or nothing is left to the client, which sent nothing
  abbrev Left : Push → List Move → List (List ℕ) → Type 0
  Left push moves sent = ((client_side moves ≡ []) × (sent ≡ [])) ⊎ (IsOfShelf shelf push.name push.size push.content × (name_of push ≡ push.name ∷ []))

  left_fewer : (push : Push) (move : Move) (moves : List Move) (sent : List (List ℕ)) → Left push (move ∷ moves) sent → (more : List (List ℕ)) → (of_client move ≡ [] → more ≡ []) → Left push moves (sent ++ more)
  left_fewer push (OfServer one) moves sent (inl (still, unsent)) more none = inl (still, ap (λ (ps : List (List ℕ)). ps ++ more) unsent ∙ none refl)
  left_fewer push (OfClient deed) moves sent (inl (still, unsent)) more none = absurd (let never : deed ∷ client_side moves ≡ [] = still in cc)
  left_fewer push move moves sent (inr held) more none = inr held

  left_once : (push : Push) (moves : List Move) (sent front : List (List ℕ)) (client : Client) → Fit (task_of push) sent client → Left push moves sent → IsFrontOf front sent → ArePushed shelf (name_of push) (spelled_within (own_maximum Rfcomm settings) front)
  left_once push moves sent front client fit (inl (still, unsent)) is = subst (ArePushed shelf (name_of push)) (sym (unsent_none (own_maximum Rfcomm settings) sent front unsent is)) (none_pushed shelf (name_of push))
  left_once push moves sent front client fit (inr (held, named)) is =
      let spelt = spelled_within (own_maximum Rfcomm settings) front in
      subst (λ (ns : List (List ℕ)). ArePushed shelf ns spelt) (sym named)
      (one_pushed shelf push.name spelt (stands_once (own_maximum Rfcomm settings) shelf (task_of push) sent front client (let high = settings.obex_high in omega (arith, high)) held fit.stands is))

  start_of : (push : Push) → IsOfShelfOrStill shelf push → Left push push.moves []
  start_of push (inl still) = inl (still, refl)
  start_of push (inr held) = by (client_side push.moves) refl
    where
      by : (deeds : List Deed) → client_side push.moves ≡ deeds → Left push push.moves []
      by [] is = inl (is, refl)
      by (deed ∷ deeds) is = inr (held, ap (λ (ds : List Deed). name_by ds push.name) is)

  starts_of : (pushes : List Push) (last : Push) → AllByRecursion (IsOfShelfOrStill shelf) (pushes ++ last ∷ []) → AllByRecursion (λ (push : Push). Left push push.moves []) pushes × Left last last.moves []
  starts_of [] last held = (tt, start_of last held.0)
  starts_of (push ∷ pushes) last held = let rest = starts_of pushes last held.1 in ((start_of push held.0, rest.0), rest.1)

pub pushed-spell_once : PushedSpellOnce
pushed-spell_once settings before shelf pushes last all over held serve =
    let f = found settings before pushes last all over (all_own NoneShort (new_over settings before) (over_pushes pushes last) serve) in
    let starts = starts_of settings shelf pushes last held in
    let taken =
    pushes_are_taken settings before (λ (push : Push). ArePushed shelf (name_of push)) (Left settings shelf) (left_fewer settings shelf) (left_once settings shelf) pushes last (all_pushes settings pushes all f.0) (pushes_of settings last over f.1) starts.0 starts.1
    (carried_of NoneShort settings before pushes last all over serve) in
    let spelt = all_spelt settings Rfcomm shelf pushes last [] (silent_stream [] refl) refl taken.1 in
    subst (ArePushed shelf (names_of (pushes ++ last ∷ []))) (sym spelt.spelled) spelt.once

-- ---- such clients

pub new-clients_are_muxed : NewClientsAreMuxed
new-clients_are_muxed settings is = by settings.transport refl is
  where
    by : (t : Transport) → settings.transport ≡ t → t ≡ Rfcomm → IsMuxedClient (new_client settings)
    by L2cap same muxed = absurd (let no : L2cap ≡ Rfcomm = muxed in cc)
    by Rfcomm same muxed =
        let low = settings.obex_low in
        let high = settings.obex_high in
        let own : own_maximum settings.transport settings ≡ settings.obex = ap (λ (t : Transport). own_maximum t settings) same in
        record {
          muxed = same;
          role = refl;
          fits = (let most = settings.mtu_high in omega (arith, most));
          some = settings.credits_low;
          few = settings.credits_high;
          plain = ap (λ (t : Transport). is_direct t && settings.srm) same;
          own = omega (arith, own, low);
          short = omega (arith, own, high);
          least = omega arith;
          most = omega arith;
        }

no_cause : (outcome : Outcome) → None ≡ Some outcome → ⊥
no_cause outcome e = cc

pub muxed-clients_stay : MuxedClientsStay
muxed-clients_stay client name size content list c o answers =
    let w : Task = record { maximum = client.session.maximum; wanted = client.session.wanted; name = name; size = size; content = content } in
    let begun = with_object name size client in
    let after = all_done list begun in
    let fixed : Fixed w begun.session name size client.limit = record { maximum = refl; wanted = refl; name_is = refl; size_is = refl; short = o.short; small = o.small; least = c.least; most = c.most } in
    let stands = all_stand w [] list begun answers (fixed, Fresh refl refl refl refl (λ e. c.own) (λ e. no_cause outcomes.Done e)) in
    let now = stands.0 in
    let all = multiplexers-stay begun list c.muxed in
    let n = all.1 in
    let maximum : after.session.maximum ≡ client.session.maximum = now.maximum in
    record {
      muxed = all.0;
      role = n.0 ∙ c.role;
      fits = subst (λ (k : ℕ). k < 2 ^ 16) (sym n.1) c.fits;
      some = subst (λ (k : ℕ). 1 ≤ k) (sym n.2) c.some;
      few = subst (λ (k : ℕ). k ≤ 40) (sym n.2) c.few;
      plain = now.wanted ∙ c.plain;
      own = subst (λ (k : ℕ). 255 ≤ k) (sym maximum) c.own;
      short = subst (λ (k : ℕ). k < 2 ^ 16) (sym maximum) c.short;
      least = now.least;
      most = now.most;
    }
