-- Push after push a client hears of the service what the server's record names, where nothing is made up on the channel to the service records.
use Rattle.std.proofs.Common.{inl, inr, ◌⊎◌, Bool, true, false, ◌≡◌, ◌==◌, ◌≤◌, ℕ, List, [], ◌∷◌, ◌++◌, length, refl, sym, ap, subst, ◌∙◌, arith, append-nil, append_assoc}
use Rattle.std.specs.List.{All, AllByRecursion, Contains, filter_map, flat_map}
use Rattle.std.proofs.lemmas.List.Elements.{All-nil, All-append, All-weaker, All-contains, All-from_recursion, Contains-append_left, Contains-push, All-contains_itself}
use Rattle.link_talk.specs.bt_base.specs.declared.settings.Serves.{Serves}
use Rattle.link_talk.specs.bt_base.specs.declared.settings.Settings.{Settings}
use Rattle.push_model.specs.sdp_client.specs.Laws.{served_target}
use Rattle.push_model.specs.sdp_elements.specs.declared.target.Target.{Target}
use Rattle.push_model.specs.Client.{Client}
use Rattle.push_model.specs.Events as events
use Rattle.push_model.specs.Events.{search_psm}
use Rattle.push_model.specs.Laws as deeds
use Rattle.push_model.specs.Laws.{Deed, Hears, Asks, Finishes, Cancels}
use Rattle.push_model.specs.Server.{Server, Reacted}
use Rattle.push_model.specs.Shown.{way_of}
use Rattle.push_model.specs.Steps.{Step}
use Rattle.push_laws.specs.Occurrences.{Occurrence, Came, Went, Closed, LinkDown, Asked, Answering, begun, done, IsOwn}
use Rattle.push_laws.specs.Opening.{targets_by, targets_heard, way_taken, way_to, whole_way, TakesTheWay}
use Rattle.push_laws.specs.Parties.{Move, OfServer, OfClient, server_side, client_side, sdu_if, IsFrontOf, Push, begun_of, ended_with, over_pushes}
use Rattle.push_laws.specs.Searches.{Traffic, no_traffic, sent_on, heard_on, come_on, gone_on, traffic_after, IsTrue, StaysTrue, IsAsked, AllAreOwn, FindsWhatIsServed, TargetsAreServed}
use Rattle.push_laws.proofs.Inquiring.{deed_asks}
use Rattle.push_laws.proofs.Lookups.{request, IsReply, HasReply, reply_stays, goes_there, first_has}
use Rattle.push_laws.proofs.Opening.{Walk, Stands, behind_deed, deed_stands, opens-the_target}
use Rattle.push_laws.proofs.Searching.{Searches, AreServed, deed_search, deed_told}

-- ---- what a channel brings

-- the last one of them
last_of : (P : List ℕ → Type 0) (before : List (List ℕ)) (here : Bool) (sdu : List ℕ) → All P (before ++ sdu_if here sdu) → here ≡ true → P sdu
last_of P before true sdu all is = All-contains P (before ++ sdu ∷ []) sdu all (Contains-push before sdu)
last_of P before false sdu all is = absurd (let never : false ≡ true = is in cc)

-- what is among such is such
among : (P : List ℕ → Type 0) (some all : List (List ℕ)) → All (Contains all) some → All P all → All P some
among P some all are so = All-weaker (Contains all) P (λ sdu in'. All-contains P all sdu so in') some are

-- what is a front of others is among them
pub front_among : (front all : List (List ℕ)) → IsFrontOf front all → All (Contains all) front
front_among front all f =
    All-weaker (Contains front) (Contains all) (λ sdu is. subst (λ (xs : List (List ℕ)). Contains xs sdu) (sym f.1) (Contains-append_left front f.0 sdu is)) front (All-contains_itself front)

-- ---- both, at one moment

module _ (serves : Serves) where
  abbrev IsRequest : List ℕ → Type 0
  IsRequest sdu = sdu ≡ request

  record Both (w : Walk) (client : Client) (i : Traffic) (at : Server) : Type 0 where
    stands : Stands w client
    searches : Searches client
    has : HasReply serves at
    asked : All IsRequest i.sent
    gone : All (IsReply serves) i.gone

  -- the server sends its reply alone
  gone_more : (one : Occurrence) (at : Server) (before : List (List ℕ)) → IsOwn one at → HasReply serves at → All (IsReply serves) before → All (IsReply serves) (before ++ gone_on search_psm one)
  gone_more (Went psm sdu) at before own has so = by (psm == search_psm) refl
    where
      by : (here : Bool) → (psm == search_psm) ≡ here → All (IsReply serves) (before ++ sdu_if here sdu)
      by true is = All-append (IsReply serves) before (sdu ∷ []) so (All-from_recursion (IsReply serves) (sdu ∷ []) (goes_there serves psm sdu at is own has, tt))
      by false is = subst (All (IsReply serves)) (sym (append-nil before)) so
  gone_more (Came psm sdu) at before own has so = subst (All (IsReply serves)) (sym (append-nil before)) so
  gone_more (Closed psm) at before own has so = subst (All (IsReply serves)) (sym (append-nil before)) so
  gone_more LinkDown at before own has so = subst (All (IsReply serves)) (sym (append-nil before)) so
  gone_more Asked at before own has so = subst (All (IsReply serves)) (sym (append-nil before)) so
  gone_more (Answering answers) at before own has so = subst (All (IsReply serves)) (sym (append-nil before)) so

  server_both : (w : Walk) (one : Occurrence) (client : Client) (i : Traffic) (at : Reacted) → IsOwn one at.server → IsTrue (traffic_after search_psm (OfServer one) client i) → Both w client i at.server → Both w client (traffic_after search_psm (OfServer one) client i) (done one at).server
  server_both w one client i at own true' b = record {
    stands = b.stands;
    searches = b.searches;
    has = reply_stays serves one at only b.has;
    asked = b.asked;
    gone = gone_more one at.server i.gone own b.has b.gone;
  }
    where
      come : All IsRequest (i.come ++ come_on search_psm one)
      come = among IsRequest (i.come ++ come_on search_psm one) i.sent true'.requests b.asked

      only : (psm : ℕ) (sdu : List ℕ) → one ≡ Came psm sdu → (psm == search_psm) ≡ true → sdu ≡ request
      only psm sdu is here = last_of IsRequest i.come (psm == search_psm) sdu (subst (λ (o : Occurrence). All IsRequest (i.come ++ come_on search_psm o)) is come) here

  -- the reply alone comes to the client
  only_reply : (deed : Deed) (client : Client) (i : Traffic) (at : Server) → IsTrue (traffic_after search_psm (OfClient deed) client i) → All (IsReply serves) i.gone → (psm : ℕ) (sdu : List ℕ) → deed ≡ Hears (events.Sdu psm sdu) → (psm == search_psm) ≡ true → IsReply serves sdu
  only_reply deed client i at true' gone psm sdu is here =
      let told : All (IsReply serves) (i.told ++ heard_on search_psm deed) = among (IsReply serves) (i.told ++ heard_on search_psm deed) i.gone true'.replies gone in
      last_of (IsReply serves) i.told (psm == search_psm) sdu (subst (λ (d : Deed). All (IsReply serves) (i.told ++ heard_on search_psm d)) is told) here

  client_both : (w : Walk) (deed : Deed) (client : Client) (i : Traffic) (at : Server) → IsTrue (traffic_after search_psm (OfClient deed) client i) → Both w client i at
      → Both (behind_deed w deed client) (deeds.done deed client) (traffic_after search_psm (OfClient deed) client i) at
  client_both w deed client i at true' b = record {
    stands = deed_stands w deed client b.stands;
    searches = deed_search serves deed client (only_reply deed client i at true' b.gone) b.searches;
    has = b.has;
    asked = All-append IsRequest i.sent (sent_on search_psm deed client) b.asked (All-from_recursion IsRequest (sent_on search_psm deed client) (deed_asks w deed client b.searches b.stands));
    gone = b.gone;
  }

  -- ---- a push

  abbrev IsServed : Target → Type 0
  IsServed target = target ≡ served_target serves

  served_by : (targets : List Target) → AreServed serves targets → AllByRecursion IsServed targets
  served_by targets (inl none) = subst (AllByRecursion IsServed) (sym none) tt
  served_by targets (inr one) = subst (AllByRecursion IsServed) (sym one) (refl, tt)

  served_more : (a b : List Target) → AllByRecursion IsServed a → AllByRecursion IsServed b → AllByRecursion IsServed (a ++ b)
  served_more [] b x y = y
  served_more (target ∷ a) b x y = (x.0, served_more a b x.1 y)

  -- what it heard, and what is behind it
  record Heard (moves : List Move) (client : Client) (at : Reacted) (tail : List Occurrence) : Type 0 where
    served : AllByRecursion IsServed (targets_heard (client_side moves) client)
    behind : Reacted
    has : HasReply serves behind.server
    own : AllAreOwn behind tail

  moves_heard : (moves : List Move) (w : Walk) (client : Client) (i : Traffic) (at : Reacted) (tail : List Occurrence) → StaysTrue search_psm moves client i → AllAreOwn at (server_side moves ++ tail) → Both w client i at.server → Heard moves client at tail
  moves_heard [] w client i at tail true' own b = record { served = tt; behind = at; has = b.has; own = own }
  moves_heard (OfServer one ∷ moves) w client i at tail true' own b =
      let later = moves_heard moves w client (traffic_after search_psm (OfServer one) client i) (done one at) tail true'.1 own.1 (server_both w one client i at own.0 true'.0 b) in
      record { served = later.served; behind = later.behind; has = later.has; own = later.own }
  moves_heard (OfClient deed ∷ moves) w client i at tail true' own b =
      let after : Client = deeds.done deed client in
      let later = moves_heard moves (behind_deed w deed client) after (traffic_after search_psm (OfClient deed) client i) at tail true'.1 own (client_both w deed client i at.server true'.0 b) in
      let now = served_by (targets_by deed client) (deed_told serves deed client (only_reply deed client i at.server true'.0 b.gone) b.searches) in
      record { served = served_more (targets_by deed client) (targets_heard (client_side moves) after) now later.served; behind = later.behind; has = later.has; own = later.own }

  begun_heard : (push : Push) (at : Reacted) (tail : List Occurrence) → IsAsked push → AllAreOwn at (server_side push.moves ++ tail) → HasReply serves at.server → Heard push.moves (begun_of push) at tail
  begun_heard push at tail asked own has =
      moves_heard push.moves (record { transport = push.client.transport; targets = []; taken = [] }) (begun_of push) no_traffic at tail asked own (record {
        stands = record { same = refl; none = refl; is = refl };
        searches = λ e. (_, refl);
        has = has;
        asked = All-nil IsRequest;
        gone = All-nil (IsReply serves);
      })

  one_served : (targets : List Target) → length targets ≤ 1 → AllByRecursion IsServed targets → (targets ≡ []) ⊎ (targets ≡ served_target serves ∷ [])
  one_served [] few all = inl refl
  one_served (target ∷ []) few all = inr (ap (λ (t : Target). t ∷ []) all.0)
  one_served (target ∷ other ∷ targets) few all = absurd (omega (arith, few))

abbrev heard_in : Push → List Target
heard_in push = targets_heard (client_side push.moves) (begun_of push)

abbrev taken_in : Push → List Step
taken_in push = way_taken (client_side push.moves) (begun_of push)

pub finds_served : (settings : Settings) (push : Push) → AllByRecursion (λ target. target ≡ served_target settings.serves) (heard_in push) → FindsWhatIsServed settings push
finds_served settings push all = by (one_served settings.serves (heard_in push) way.one all)
  where
    way : TakesTheWay push.client.transport (heard_in push) (taken_in push)
    way = opens-the_target push.client push.name push.size (client_side push.moves)

    by : (heard_in push ≡ []) ⊎ (heard_in push ≡ served_target settings.serves ∷ []) → FindsWhatIsServed settings push
    by (inr one) = record { heard = inr one; behind = way.behind; way = ap (whole_way push.client.transport) (sym one) ∙ way.way }
    by (inl none) =
        let t = push.client.transport in
        let rest : List Step = flat_map (way_to t) (filter_map (way_of t) (served_target settings.serves ∷ [])) in
        let first : whole_way t [] ≡ taken_in push ++ way.behind = ap (whole_way t) (sym none) ∙ way.way in
        record { heard = inl none; behind = way.behind ++ rest; way = ap (λ (xs : List Step). xs ++ rest) first ∙ append_assoc (taken_in push) way.behind rest }

-- ---- push after push

all_find : (settings : Settings) (pushes : List Push) (last : Push) (at : Reacted) → AllByRecursion IsAsked pushes → IsAsked last → HasReply settings.serves at.server → AllAreOwn at (over_pushes pushes last)
    → AllByRecursion (FindsWhatIsServed settings) pushes × FindsWhatIsServed settings last
all_find settings [] last at asked over has own =
    let heard = begun_heard settings.serves last at [] over (subst (AllAreOwn at) (sym (append-nil (server_side last.moves))) own) has in
    (tt, finds_served settings last heard.served)
all_find settings (push ∷ pushes) last at asked over has own =
    let others : List Occurrence = over_pushes pushes last in
    let same : over_pushes (push ∷ pushes) last ≡ server_side push.moves ++ LinkDown ∷ others =
    ap (λ (os : List Occurrence). os ++ server_side last.moves) (append_assoc (server_side push.moves) (LinkDown ∷ []) (flat_map ended_with pushes))
    ∙ append_assoc (server_side push.moves) (LinkDown ∷ flat_map ended_with pushes) (server_side last.moves) in
    let heard = begun_heard settings.serves push at (LinkDown ∷ others) asked.0 (subst (AllAreOwn at) same own) has in
    let now : HasReply settings.serves (done LinkDown heard.behind).server = reply_stays settings.serves LinkDown heard.behind (λ psm sdu is. absurd cc) heard.has in
    let later = all_find settings pushes last (done LinkDown heard.behind) asked.1 over now heard.own.1 in
    ((finds_served settings push heard.served, later.0), later.1)

pub targets-are_served : TargetsAreServed
targets-are_served settings content pushes last asked over own = all_find settings pushes last (begun settings content) asked over (first_has settings content) own
