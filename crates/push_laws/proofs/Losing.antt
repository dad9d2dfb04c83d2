-- Push after push the inbox gains what is spelled, but for one object at most for each fault.
use Rattle.std.proofs.Common.{inl, inr, ◌⊎◌, Bool, true, false, ◌≡◌, ◌==◌, ℕ, ◌+◌, ◌-◌, ◌≤◌, ◌||◌, arith, List, [], ◌∷◌, ◌++◌, length, map, Some, None, refl, sym, ap, subst, ◌∙◌, append-nil, append_assoc}
use Rattle.std.specs.List.{AllByRecursion, flat_map}
use Rattle.std.proofs.lemmas.Bool.{cases_Bool, cases_lt, eqb-true, cond_both}
use Rattle.link_talk.specs.bt_base.specs.declared.settings.Settings.{Settings}
use Rattle.link_talk.specs.bt_base.specs.declared.settings.Transport.TheVariants.{L2cap, Rfcomm}
use Rattle.link_talk.specs.bt_base.specs.Objects.{Object}
use Rattle.push_model.specs.obex_headers.specs.Runs.{objects_from}
use Rattle.push_model.specs.obex_session.specs.Past.{Heard, stored_by}
use Rattle.link_talk.specs.ObjectsHeard.{spelled_within}
use Rattle.push_model.specs.declared.course.Contact.TheVariants.{Unmet, Met}
use Rattle.push_model.specs.Client.{Client, own_maximum}
use Rattle.push_model.specs.Laws as deeds
use Rattle.push_model.specs.Server.{Reacted, lets_go_on, remuxed, unreplied, unanswered, object_psm}
use Rattle.link_talk.specs.push_terms.specs.declared.outcome.Outcome.{Outcome}
use Rattle.push_model.specs.obex_session.specs.Calls.{session_behind}
use Rattle.push_laws.specs.Calls.{new_session}
use Rattle.push_laws.specs.Faults as faulty
use Rattle.push_laws.specs.Faults.{Marked, unmarked, heard_as, heard_over, spends, spent_from}
use Rattle.push_laws.specs.Gains as clear
use Rattle.push_laws.specs.Laws.{new_over, stored_in}
use Rattle.push_laws.specs.Losing.{LeavesOut, PushesGainLess, PushesGainAll, NothingIsLeftOut}
use Rattle.push_laws.specs.OneName.{HasOneName}
use Rattle.push_laws.specs.Occurrences.{Occurrence, LinkDown, done, all_done}
use Rattle.push_laws.specs.Parties.{Move, OfServer, OfClient, server_side, client_side, Pipes, no_pipes, sent_by, come_by, sdu_if, pipes_after, IsFrontOf, StayPipes, Push, IsOffered, begun_of, ended_with, over_pushes, ServesDirectly, AllServeDirectly}
use Rattle.push_laws.specs.Premises.{NoneShort}
use Rattle.push_laws.specs.Readings.{closes, packets_over}
use Rattle.push_laws.specs.Turns.{serving}
use Rattle.push_laws.proofs.Failing.{Even, Ends, EndsBehind, more_behind, none_behind, walks, all_enough, none_spent}
use Rattle.push_laws.proofs.Gaining.{unfailed}
use Rattle.push_laws.proofs.Keeping.{Brings, brings, Keeps, keeps_more}
use Rattle.push_laws.proofs.Listening.{octets_of}
use Rattle.push_laws.proofs.Missing.{set_by, Stays, marked_at, stays_more, marks_later, first_stays}
use Rattle.push_laws.proofs.OneName.{one_name_leaves, one_name_few, one_name_front, uncounted_same}
use Rattle.push_laws.proofs.OneObject.{sent_named, sent_long, front_spells_none}
use Rattle.push_laws.proofs.OnObject.{none_sent, same_psm, none_come, on_object}
use Rattle.push_laws.proofs.Parties.{begun_so}
use Rattle.push_laws.proofs.Pushing.{Task, connect_of}
use Rattle.push_laws.proofs.Readings.{heard_more}
use Rattle.push_laws.proofs.Spelling.{no_put_within}
use Rattle.push_laws.proofs.Ways.{Flowing}

-- ---- objects that are left out

pub nothing-is_left_out : NothingIsLeftOut
nothing-is_left_out kept [] none = none
nothing-is_left_out kept (object ∷ objects) (inl stays) = stays.1 ∙ ap (λ (os : List Object). object ∷ os) (nothing-is_left_out stays.0 objects stays.2)
nothing-is_left_out kept (object ∷ objects) (inr left) = absurd (let none = left.1 in omega (arith, none))

pub leaves_none : (objects : List Object) (most : ℕ) → LeavesOut objects objects most
leaves_none [] most = refl
leaves_none (object ∷ objects) most = inl (objects, refl, leaves_none objects most)

pub leaves_more : (kept objects : List Object) (n m : ℕ) → LeavesOut kept objects n → LeavesOut kept objects (m + n)
leaves_more kept [] n m none = none
leaves_more kept (object ∷ objects) n m (inl stays) = inl (stays.0, stays.1, leaves_more stays.0 objects n m stays.2)
leaves_more kept (object ∷ objects) n m (inr left) = inr (m + left.0, (let same = left.1 in omega (arith, same)), leaves_more kept objects left.0 m left.2)

pub leaves_joined : (a b xs ys : List Object) (m n : ℕ) → LeavesOut a xs m → LeavesOut b ys n → LeavesOut (a ++ b) (xs ++ ys) (m + n)
leaves_joined a b [] ys m n none y = subst (λ (os : List Object). LeavesOut os ys (m + n)) (sym (ap (λ (os : List Object). os ++ b) none)) (leaves_more b ys n m y)
leaves_joined a b (object ∷ xs) ys m n (inl stays) y = inl (stays.0 ++ b, ap (λ (os : List Object). os ++ b) stays.1, leaves_joined stays.0 b xs ys m n stays.2 y)
leaves_joined a b (object ∷ xs) ys m n (inr left) y = inr (left.0 + n, (let same = left.1 in omega (arith, same)), leaves_joined a b xs ys left.0 n left.2 y)

-- none is kept of one at most, where a call failed
pub leaves_one : (objects : List Object) (most : ℕ) → length objects ≤ 1 → 1 ≤ most → LeavesOut [] objects most
leaves_one [] most few some = refl
leaves_one (object ∷ []) most few some = by most some
  where
    by : (n : ℕ) → 1 ≤ n → LeavesOut [] (object ∷ []) n
    by n least = inr (n - 1, omega (arith, least), refl)
leaves_one (object ∷ other ∷ objects) most few some = absurd (omega (arith, few))

-- ---- what one link leaves

module _ (settings : Settings) (before : List Object) where
  abbrev most : ℕ
  most = own_maximum L2cap settings

  -- what is stored of it and what is spelled
  record Link (ahead spelt : List Object) (past : List Occurrence) (at : Reacted) (spent : ℕ) : Type 0 where
    stays : Stays settings before past at
    gain : List Object
    objects : List Object
    stored : faulty.objects settings stays.marks ≡ ahead ++ gain
    spelled : clear.objects settings past ≡ spelt ++ objects
    leaves : LeavesOut gain objects spent

  link_of : (ahead spelt : List Object) (w : Task) (wide : 255 ≤ w.maximum) (past : List Occurrence) (at : Reacted) (spent : ℕ) → Ends settings before ahead spelt w wide past at spent → Link ahead spelt past at spent
  link_of ahead spelt w wide past at spent e = record {
    stays = e.stays;
    gain = stored_by most e.heard;
    objects = spelled_within most (map octets_of e.heard);
    stored = e.keeps.stored;
    spelled = e.keeps.spelled;
    leaves = by (one_name_leaves most e.heard named);
  }
    where
      all_named : HasOneName most e.sent
      all_named = sent_named most (connect_of w) w.wanted w.name w.size w.content e.cause e.sent (no_put_within most (connect_of w) refl) e.are_sent

      named : HasOneName most (map octets_of e.heard)
      named = one_name_front most (map octets_of e.heard) e.comes.0 (subst (HasOneName most) e.comes.1 all_named)

      same_all : stored_by most e.heard ≡ spelled_within most (map octets_of e.heard) → LeavesOut (stored_by most e.heard) (spelled_within most (map octets_of e.heard)) spent
      same_all same = subst (λ (os : List Object). LeavesOut os (spelled_within most (map octets_of e.heard)) spent) (sym same) (leaves_none (spelled_within most (map octets_of e.heard)) spent)

      none_of : stored_by most e.heard ≡ [] → LeavesOut (stored_by most e.heard) (spelled_within most (map octets_of e.heard)) spent
      none_of none = elim (cases_lt 16777215 w.size) [
        | inl long ↦ same_all (none ∙ sym (front_spells_none most (map octets_of e.heard) e.comes.0 (ap (spelled_within most) (sym e.comes.1) ∙ sent_long most (connect_of w) w.wanted w.name w.size w.content e.cause e.sent (no_put_within most (connect_of w) refl) long e.are_sent)))
        | inr bounded ↦ elim (e.judged bounded) [
          | inl counts ↦ same_all (ap (objects_from []) (uncounted_same most e.heard counts))
          | inr some ↦ subst (λ (os : List Object). LeavesOut os (spelled_within most (map octets_of e.heard)) spent) (sym none) (leaves_one (spelled_within most (map octets_of e.heard)) spent (one_name_few most (map octets_of e.heard) named) some)
        ]
      ]

      by : (stored_by most e.heard ≡ []) ⊎ (stored_by most e.heard ≡ spelled_within most (map octets_of e.heard)) → LeavesOut (stored_by most e.heard) (spelled_within most (map octets_of e.heard)) spent
      by (inl none) = none_of none
      by (inr same) = same_all same

  -- ---- its link goes down

  -- nothing of it is left
  record Begins (past : List Occurrence) (at : Reacted) (s : Stays settings before past at) : Type 0 where
    empty : at.server.listener.service.response ≡ []
    fresh : at.server.listener.service.sessions.direct ≡ set_by at.server
    none : heard_over L2cap s.marks ≡ []

  down_server : (past : List Occurrence) (at : Reacted) → Stays settings before past at
      → ((done LinkDown at).server.listener.service.response ≡ []) × ((done LinkDown at).server.listener.service.sessions.direct ≡ set_by (done LinkDown at).server)
  down_server past at s =
      let first : Reacted = lets_go_on L2cap (unanswered at.server) at.gift in
      subst (λ (r : Reacted). (r.server.listener.service.response ≡ []) × (r.server.listener.service.sessions.direct ≡ set_by r.server)) (sym (unfailed settings before s.marks at _ s.holds))
      (cond_both first.server.listener.service.failed first (lets_go_on Rfcomm (remuxed (unreplied first.server)) first.gift) (λ (r : Reacted). (r.server.listener.service.response ≡ []) × (r.server.listener.service.sessions.direct ≡ set_by r.server))
      (λ e. (refl, refl)) (λ e. (refl, refl)))

  down_begins : (past : List Occurrence) (at : Reacted) (s : Stays settings before past at) (serves : ServesDirectly NoneShort at LinkDown) → Begins (past ++ LinkDown ∷ []) (done LinkDown at) (stays_more settings before past at LinkDown s serves)
  down_begins past at s serves =
      let server = down_server past at s in
      record {
        empty = server.0;
        fresh = server.1;
        none = ap (heard_over L2cap) (marks_later settings before past at LinkDown s serves) ∙ heard_more L2cap s.marks (record { occurrence = LinkDown; refused = marked_at settings before past at LinkDown s serves });
      }

  module _ (ahead spelt : List Object) (w : Task) (wide : 255 ≤ w.maximum) where
    down_ends : (past : List Occurrence) (at : Reacted) (spent : ℕ) (e : Ends settings before ahead spelt w wide past at spent) (serves : ServesDirectly NoneShort at LinkDown)
        → Keeps settings before ahead spelt e.heard true (past ++ LinkDown ∷ []) (stays_more settings before past at LinkDown e.stays serves).marks
    down_ends past at spent e serves =
        let mark = marked_at settings before past at LinkDown e.stays serves in
        let last : Marked = record { occurrence = LinkDown; refused = mark } in
        subst (λ (ms : List Marked). Keeps settings before ahead spelt e.heard true (past ++ LinkDown ∷ []) ms) (sym (marks_later settings before past at LinkDown e.stays serves))
        (subst (λ (hs : List Heard). Keeps settings before ahead spelt hs true (past ++ LinkDown ∷ []) (e.stays.marks ++ last ∷ [])) (append-nil e.heard)
        (subst (λ (b : Bool). Keeps settings before ahead spelt (e.heard ++ []) b (past ++ LinkDown ∷ []) (e.stays.marks ++ last ∷ [])) (or_true e.closed)
        (keeps_more settings before ahead spelt e.heard past at LinkDown e.stays serves e.closed (λ shut. refl) e.keeps)))
      where
        or_true : (b : Bool) → (b || true) ≡ true
        or_true true = refl
        or_true false = refl

    down_of : (past : List Occurrence) (at : Reacted) (spent : ℕ) → Ends settings before ahead spelt w wide past at spent → ServesDirectly NoneShort at LinkDown → Ends settings before ahead spelt w wide (past ++ LinkDown ∷ []) (done LinkDown at) (spent + spends at LinkDown)
    down_of past at spent e serves = record {
      stays = stays_more settings before past at LinkDown e.stays serves;
      heard = e.heard;
      closed = true;
      keeps = down_ends past at spent e serves;
      sent = e.sent;
      cause = e.cause;
      comes = e.comes;
      are_sent = e.are_sent;
      judged = λ bounded. elim (e.judged bounded) [ inl counts ↦ inl counts | inr some ↦ inr (omega (arith, some)) ];
    }

    -- ---- a client on another channel: nothing comes

    no_cause : (o : Outcome) → None ≡ Some o → ⊥
    no_cause o e = cc

    none_brought : (one : Occurrence) (sent come : List (List ℕ)) → sent ≡ [] → IsFrontOf (come ++ come_by one) sent → come_by one ≡ []
    none_brought one sent come none front = by (brings one)
      where
        by : Brings one → come_by one ≡ []
        by b = of_here b.here b.sdu b.is
          where
            of_here : (here : Bool) (sdu : List ℕ) → come_by one ≡ sdu_if here sdu → come_by one ≡ []
            of_here true sdu is = absurd (none_come sent come sdu front.0 none (front.1 ∙ ap (λ (ps : List (List ℕ)). (come ++ ps) ++ front.0) is))
            of_here false sdu is = is

    away_walks : (moves : List Move) (past : List Occurrence) (at : Reacted) (client : Client) (pipes : Pipes) (spent : ℕ) (s : Stays settings before past at) → Keeps settings before ahead spelt [] pipes.closed past s.marks
        → ((deeds.all_done (client_side moves) client).psm == object_psm) ≡ false → pipes.requests_sent ≡ [] → StayPipes moves client pipes → AllServeDirectly NoneShort at (server_side moves) → EndsBehind settings before ahead spelt w wide (server_side moves) past at spent
    away_walks [] past at client pipes spent s k away none carried serve =
        none_behind settings before ahead spelt w wide past at spent
        (record { stays = s; heard = []; closed = pipes.closed; keeps = k; sent = []; cause = None; comes = ([], refl); are_sent = inl (refl, no_cause _); judged = λ bounded. inl tt })
    away_walks (OfServer one ∷ moves) past at client pipes spent s k away none carried serve =
        let nothing = none_brought one pipes.requests_sent pipes.requests_come none carried.0.requests in
        let mark = marked_at settings before past at one s serve.0 in
        let later = keeps_more settings before ahead spelt [] past at one s serve.0 pipes.closed (λ shut. nothing) k in
        more_behind settings before ahead spelt w wide past at one (server_side moves) spent
        (away_walks moves (past ++ one ∷ []) (done one at) client (pipes_after (OfServer one) client pipes) (spent + spends at one) (stays_more settings before past at one s serve.0)
        (subst (λ (ms : List Marked). Keeps settings before ahead spelt [] (pipes.closed || closes object_psm one) (past ++ one ∷ []) ms) (sym (marks_later settings before past at one s serve.0))
        (subst (λ (ps : List (List ℕ)). Keeps settings before ahead spelt (heard_as mark ps) (pipes.closed || closes object_psm one) (past ++ one ∷ []) (s.marks ++ record { occurrence = one; refused = mark } ∷ [])) nothing later))
        away none carried.2 serve.1)
    away_walks (OfClient deed ∷ moves) past at client pipes spent s k away none carried serve =
        away_walks moves past at (deeds.done deed client) (pipes_after (OfClient deed) client pipes) spent s k away
        (ap (λ (ps : List (List ℕ)). ps ++ sent_by deed client) none ∙ none_sent deed client (λ works. ap (λ (n : ℕ). n == object_psm) (sym (same_psm (deed ∷ client_side moves) client works)) ∙ away)) carried.2 serve

  -- ---- a push on a link of its own

  abbrev task_of : Push → Task
  task_of push = record { maximum = push.client.session.maximum; wanted = push.client.session.wanted; name = push.name; size = push.size; content = push.content }

  append_none : (os : List Object) → os ≡ os ++ []
  append_none os = sym (append-nil os)

  starts : (past : List Occurrence) (at : Reacted) (s : Stays settings before past at) → Begins past at s → Keeps settings before (faulty.objects settings s.marks) (clear.objects settings past) [] false past s.marks
  starts past at s b = record { stored = append_none (faulty.objects settings s.marks); spelled = append_none (clear.objects settings past); open_ = λ e. b.none }

  -- what the session is then
  session_then : (past : List Occurrence) (at : Reacted) (s : Stays settings before past at) → Begins past at s → at.server.listener.service.sessions.direct ≡ serving settings past
  session_then past at s b =
      let packets : packets_over L2cap past ≡ [] = ap (packets_over L2cap) (sym s.same) ∙ sym s.holds.direct ∙ ap (map octets_of) b.none in
      b.fresh ∙ s.set ∙ ap (session_behind (new_session (own_maximum L2cap settings) true)) (sym packets)

  not_met : Unmet ≡ Met → ⊥
  not_met e = cc

  link_ends : (push : Push) (offered : IsOffered push) (past : List Occurrence) (at : Reacted) (s : Stays settings before past at) → Begins past at s → AllServeDirectly NoneShort at (server_side push.moves)
      → EndsBehind settings before (faulty.objects settings s.marks) (clear.objects settings past) (task_of push) offered.may.own (server_side push.moves) past at 0
  link_ends push offered past at s b serve =
      let ahead = faulty.objects settings s.marks in
      let spelt = clear.objects settings past in
      let w = task_of push in
      let begun = begun_of push in
      elim (cases_Bool ((deeds.all_done (client_side push.moves) begun).psm == object_psm)) [
        | inl here ↦
            walks settings before ahead spelt w offered.may.own push.moves past at begun no_pipes [] 0
            (record {
              stays = s;
              keeps = starts past at s b;
              come = refl;
              front = ([], refl);
              direct = offered.direct;
              stands = begun_so w push.client offered.may refl refl;
              phase = λ bounded. Even false tt (record { calm = s.calm; free = λ e. b.empty; session = session_then past at s b })
                  (λ on. Flowing [] refl refl refl (inr (record { fits = λ e. absurd (not_met e); mode = tt })));
            })
            offered.answers (on_object push.moves begun (eqb-true (deeds.all_done (client_side push.moves) begun).psm object_psm here)) offered.carried serve
        | inr away ↦ away_walks ahead spelt w offered.may.own push.moves past at begun no_pipes 0 s (starts past at s b) away refl offered.carried serve
      ]

  -- ---- push after push

  serve_front : (front behind : List Occurrence) (at : Reacted) → AllServeDirectly NoneShort at (front ++ behind) → AllServeDirectly NoneShort at front × AllServeDirectly NoneShort (all_done front at) behind
  serve_front [] behind at serve = (tt, serve)
  serve_front (one ∷ front) behind at serve =
      let rest = serve_front front behind (done one at) serve.1 in
      ((serve.0, rest.0), rest.1)

  spent_joined : (front behind : List Occurrence) (at : Reacted) → spent_from at (front ++ behind) ≡ spent_from at front + spent_from (all_done front at) behind
  spent_joined [] behind at = omega arith
  spent_joined (one ∷ front) behind at = let rest = spent_joined front behind (done one at) in omega (arith, rest)

  done_joined : (front behind : List Occurrence) (at : Reacted) → all_done (front ++ behind) at ≡ all_done behind (all_done front at)
  done_joined [] behind at = refl
  done_joined (one ∷ front) behind at = done_joined front behind (done one at)

  -- what all of them leave, from a moment on
  abbrev Leaves : (past : List Occurrence) (at : Reacted) → Stays settings before past at → List Occurrence → Type 0
  Leaves past at s more = Link (faulty.objects settings s.marks) (clear.objects settings past) (past ++ more) (all_done more at) (spent_from at more)

  -- one link, and all others behind it
  two_links : (past : List Occurrence) (at : Reacted) (s : Stays settings before past at) (w : Task) (wide : 255 ≤ w.maximum) (front : List Occurrence) (behind : List Occurrence)
      → EndsBehind settings before (faulty.objects settings s.marks) (clear.objects settings past) w wide front past at 0 → ServesDirectly NoneShort (all_done front at) LinkDown
      → ((s' : Stays settings before ((past ++ front) ++ LinkDown ∷ []) (done LinkDown (all_done front at))) → Begins ((past ++ front) ++ LinkDown ∷ []) (done LinkDown (all_done front at)) s' → Leaves ((past ++ front) ++ LinkDown ∷ []) (done LinkDown (all_done front at)) s' behind)
      → Leaves past at s (front ++ LinkDown ∷ behind)
  unfolding link_of down_of
  two_links past at s w wide front behind e serves goes =
      let ahead = faulty.objects settings s.marks in
      let spelt = clear.objects settings past in
      let at' = all_done front at in
      let past' = past ++ front in
      let down = down_of ahead spelt w wide past' at' (0 + spent_from at front) e serves in
      let one = link_of ahead spelt w wide (past' ++ LinkDown ∷ []) (done LinkDown at') ((0 + spent_from at front) + spends at' LinkDown) down in
      let others = goes (stays_more settings before past' at' LinkDown e.stays serves) (down_begins past' at' e.stays serves) in
      let occurrences : (past' ++ LinkDown ∷ []) ++ behind ≡ past ++ (front ++ LinkDown ∷ behind) = append_assoc past' (LinkDown ∷ []) behind ∙ append_assoc past front (LinkDown ∷ behind) in
      let spent = spent_joined front (LinkDown ∷ behind) at in
      let same : ((0 + spent_from at front) + spends at' LinkDown) + spent_from (done LinkDown at') behind ≡ spent_from at (front ++ LinkDown ∷ behind) = omega (arith, spent) in
      subst (Link ahead spelt (past ++ (front ++ LinkDown ∷ behind)) (all_done (front ++ LinkDown ∷ behind) at)) same
      (subst (λ (r : Reacted). Link ahead spelt (past ++ (front ++ LinkDown ∷ behind)) r (((0 + spent_from at front) + spends at' LinkDown) + spent_from (done LinkDown at') behind)) (sym (done_joined front (LinkDown ∷ behind) at))
      (subst (λ (os : List Occurrence). Link ahead spelt os (all_done behind (done LinkDown at')) (((0 + spent_from at front) + spends at' LinkDown) + spent_from (done LinkDown at') behind)) occurrences
      (record {
        stays = others.stays;
        gain = one.gain ++ others.gain;
        objects = one.objects ++ others.objects;
        stored = others.stored ∙ ap (λ (os : List Object). os ++ others.gain) one.stored ∙ append_assoc ahead one.gain others.gain;
        spelled = others.spelled ∙ ap (λ (os : List Object). os ++ others.objects) one.spelled ∙ append_assoc spelt one.objects others.objects;
        leaves = leaves_joined one.gain others.gain one.objects others.objects ((0 + spent_from at front) + spends at' LinkDown) (spent_from (done LinkDown at') behind) one.leaves others.leaves;
      })))

  all_links : (pushes : List Push) (last : Push) (past : List Occurrence) (at : Reacted) (s : Stays settings before past at) → Begins past at s → AllByRecursion IsOffered pushes → IsOffered last → AllServeDirectly NoneShort at (over_pushes pushes last)
      → Leaves past at s (over_pushes pushes last)
  all_links [] last past at s b offered over serve =
      let e = link_ends last over past at s b serve in
      let same : 0 + spent_from at (server_side last.moves) ≡ spent_from at (server_side last.moves) = omega arith in
      subst (Link (faulty.objects settings s.marks) (clear.objects settings past) (past ++ server_side last.moves) (all_done (server_side last.moves) at)) same
      (link_of (faulty.objects settings s.marks) (clear.objects settings past) (task_of last) over.may.own (past ++ server_side last.moves) (all_done (server_side last.moves) at) (0 + spent_from at (server_side last.moves)) e)
  all_links (push ∷ pushes) last past at s b offered over serve =
      let front = server_side push.moves in
      let others : List Occurrence = over_pushes pushes last in
      let same : front ++ LinkDown ∷ others ≡ over_pushes (push ∷ pushes) last =
      sym (ap (λ (os : List Occurrence). os ++ server_side last.moves) (append_assoc front (LinkDown ∷ []) (flat_map ended_with pushes)) ∙ append_assoc front (LinkDown ∷ flat_map ended_with pushes) (server_side last.moves)) in
      let parts = serve_front front (LinkDown ∷ others) at (subst (AllServeDirectly NoneShort at) (sym same) serve) in
      subst (Leaves past at s) same
      (two_links past at s (task_of push) offered.0.may.own front others (link_ends push offered.0 past at s b parts.0) parts.1.0
      (λ s' b'. all_links pushes last ((past ++ front) ++ LinkDown ∷ []) (done LinkDown (all_done front at)) s' b' offered.1 over parts.1.1))

-- ---- the law

pub pushes-gain_less : PushesGainLess
pushes-gain_less settings before pushes last offered over serve =
    let all = all_links settings before pushes last [] (new_over settings before) (first_stays settings before) (record { empty = refl; fresh = refl; none = refl }) offered over serve in
    record {
      gain = all.gain;
      stored = ap stored_in all.stays.holds.upholds.listens.serves.stands.holds ∙ ap (λ (os : List Object). Some (before ++ os)) all.stored;
      leaves = subst (λ (os : List Object). LeavesOut all.gain os (spent_from (new_over settings before) (over_pushes pushes last))) (sym all.spelled) all.leaves;
    }

pub pushes-gain_all : PushesGainAll
pushes-gain_all settings before pushes last offered over serve =
    let less = pushes-gain_less settings before pushes last offered over (all_enough (over_pushes pushes last) (new_over settings before) serve) in
    let none = none_spent settings before (over_pushes pushes last) [] (new_over settings before) (first_stays settings before) serve refl in
    less.stored ∙ ap (λ (os : List Object). Some (before ++ os)) (nothing-is_left_out less.gain (clear.objects settings (over_pushes pushes last)) (subst (LeavesOut less.gain (clear.objects settings (over_pushes pushes last))) none less.leaves))
