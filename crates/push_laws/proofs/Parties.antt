-- The requests of a client come in turn to its server, push after push.
use Rattle.std.proofs.Common.{inl, inr, Bool, true, false, ◌≡◌, ◌==◌, ℕ, ◌≤◌, ◌||◌, List, [], ◌∷◌, ◌++◌, Option, Some, None, refl, sym, ap, subst, ◌∙◌, arith, append-nil, append_assoc, if◌then◌else◌}
use Rattle.std.specs.List.{AllByRecursion, flat_map}
use Rattle.std.proofs.lemmas.Bool.{cases_Bool, eqb-true}
use Rattle.link_talk.specs.bt_base.specs.declared.settings.Settings.{Settings}
use Rattle.link_talk.specs.bt_base.specs.declared.settings.Transport.TheVariants.{L2cap}
use Rattle.link_talk.specs.bt_base.specs.Objects.{Object}
use Rattle.link_talk.specs.push_terms.specs.declared.outcome.Outcome.{Outcome}
use Rattle.link_talk.specs.push_terms.specs.declared.outcome.Outcome.TheVariants as outcomes
use Rattle.push_model.specs.obex_session.specs.Calls.{session_behind}
use Rattle.push_model.specs.obex_session.specs.Past.{Serving}
use Rattle.push_model.specs.obex_session.specs.Serving.{heard_with}
use Rattle.push_model.specs.declared.course.Contact.TheVariants.{Unmet, Met}
use Rattle.push_model.specs.declared.outlet.Outlet.TheVariants as outlets
use Rattle.push_model.specs.Client.{Client, own_maximum, ends, ends_by, may_cancel, with_object}
use Rattle.push_model.specs.Laws as deeds
use Rattle.push_model.specs.Laws.{Deed, Hears, Asks, Finishes, Cancels}
use Rattle.push_model.specs.Server.{Reacted, object_psm}
use Rattle.push_laws.specs.Calls.{new_session}
use Rattle.push_laws.specs.Laws.{new_over}
use Rattle.push_laws.specs.Occurrences.{Occurrence, Came, Went, Closed, LinkDown, Asked, Answering, done}
use Rattle.push_laws.specs.Premises.{AllGranted}
use Rattle.push_laws.specs.Parties.{Move, OfServer, OfClient, server_side, client_side, Pipes, no_pipes, sent_by, come_by, pipes_after, ArePipes, ComesOpen, StayPipes, Push, IsPushed, ended_with, over_pushes, ServesDirectly, AllServeDirectly, RequestsComeInTurn, RequestsAreHeard, PushesLeaveAlike}
use Rattle.push_laws.specs.Readings.{closes, packets_over}
use Rattle.push_laws.specs.Sending.{AnswersTo, AllAnswer, MayPush}
use Rattle.push_laws.specs.Turns.{serving, due_behind, InTurn, AllTakeTurns}
use Rattle.push_laws.proofs.Deeds.{Bounds, deed_way}
use Rattle.push_laws.proofs.Inverting.{Sends, Rests, Connects, Puts, Aborts, Leaves, asks_send}
use Rattle.push_laws.proofs.OnObject.{AllOnObject, IsOnObject, sent_same, none_sent, same_psm, none_come, on_object}
use Rattle.push_laws.proofs.Partners.{Served, served_more, way_behind, in_turn}
use Rattle.push_laws.proofs.Pushing.{Task, Fresh, Stands}
use Rattle.push_laws.proofs.Sending.{deed_stands, all_stand}
use Rattle.push_laws.proofs.Talks.{Talk, talk_of, Kept, news_keeps, hears_by}
use Rattle.push_laws.proofs.Turns.{grants, first_clear, first_still, no-request_is_ignored}
use Rattle.push_laws.proofs.Ways.{Way, Flowing}

-- ---- a push stays over L2CAP

abbrev IsDirect : Talk → Type 0
IsDirect t = t.transport ≡ L2cap

abbrev Direct : Client → Type 0
Direct client = client.transport ≡ L2cap

ends_direct : (cause : Option Outcome) (o : Outcome) (client : Client) → Direct client → Direct (ends_by cause o client)
ends_direct None o client d = d
ends_direct (Some earlier) o client d = d

either : (test : Bool) (a b : Client) → Direct a → Direct b → Direct (if test then a else b)
either true a b x y = x
either false a b x y = y

direct_kept : Kept IsDirect
direct_kept = record {
  unheard = record { ends = λ outcome t free none d. d; opens = λ limit t least most d. d };
  hears = λ packet client d. hears_by IsDirect (λ o t x. x) (λ contact t x. x) packet client d d;
}

sends_direct : (content : Option (List Object)) (client : Client) (packets : List (List ℕ)) (after : Talk) → Sends content client packets after → after.transport ≡ client.transport
sends_direct content client packets after (Rests none s c t) = t
sends_direct content client packets after (Connects free is s c t) = t
sends_direct content client packets after (Puts part free met none told is s c t) = t
sends_direct content client packets after (Aborts free met is s c t) = t
sends_direct content client packets after (Leaves free met is s c t) = t

pub deed_direct : (content : Option (List Object)) (deed : Deed) (client : Client) → AnswersTo content deed client → Direct client → Direct (deeds.done deed client)
deed_direct content (Hears news) client answers d = news_keeps IsDirect direct_kept news client d
deed_direct content (Asks parts) client answers d = sends_direct content client _ (talk_of (deeds.done (Asks parts) client)) (asks_send content client parts d answers) ∙ d
deed_direct content Finishes client answers d = d
deed_direct content Cancels client answers d = either (may_cancel client) (ends outcomes.Cancelled client) client (ends_direct client.cause outcomes.Cancelled client d) d

-- ---- behind a push

all_direct : (content : Option (List Object)) (later : List Deed) (client : Client) → AllAnswer content later client → Direct client → Direct (deeds.all_done later client)
all_direct content [] client answers d = d
all_direct content (deed ∷ later) client answers d = all_direct content later (deeds.done deed client) answers.1 (deed_direct content deed client answers.0 d)

no_cause : (o : Outcome) → None ≡ Some o → ⊥
no_cause o e = cc

-- a push that begins
pub begun_so : (w : Task) (client : Client) → MayPush client w.name w.size → w.maximum ≡ client.session.maximum → w.wanted ≡ client.session.wanted → Stands w [] (talk_of (with_object w.name w.size client))
begun_so w client may same_maximum same_wanted = (
  record { maximum = sym same_maximum; wanted = sym same_wanted; name_is = refl; size_is = refl; short = may.short; small = may.small; least = may.least; most = may.most },
  Fresh refl refl refl refl (λ e. may.own) (λ e. no_cause outcomes.Done e),
)

pub pushes-leave_alike : PushesLeaveAlike
pushes-leave_alike client name size content later direct may answers =
    let w : Task = record { maximum = client.session.maximum; wanted = client.session.wanted; name = name; size = size; content = content } in
    let begun = with_object name size client in
    let fixed = (all_stand w [] later begun answers (begun_so w client may refl refl)).0 in
    record { transport = all_direct content later begun answers direct ∙ sym direct; maximum = fixed.maximum; wanted = fixed.wanted; least = fixed.least; most = fixed.most }

-- ---- both

pub serving_most : (packets : List (List ℕ)) (session : Serving) → (session_behind session packets).maximum ≡ session.maximum
serving_most [] session = refl
serving_most (packet ∷ packets) session = serving_most packets (heard_with session packet []).session

neither : (a b : Bool) → (a || b) ≡ false → (a ≡ false) × (b ≡ false)
neither true b e = absurd (let f : true ≡ false = e in cc)
neither false b e = (refl, e)

module _ (settings : Settings) (before : List Object) (rest : List Occurrence) where
  -- what the server goes on with
  abbrev GoesOn : Type 0
  GoesOn = (past : List Occurrence) (due : Bool) (at : Reacted) → Served settings before past due at → AllServeDirectly AllGranted at rest → AllTakeTurns settings past due at rest

  -- ---- a client on the server's channel

  module _ (w : Task) (wide : 255 ≤ w.maximum) (bounded : w.size ≤ 16777215) where
    record Both (past : List Occurrence) (due : Bool) (at : Reacted) (client : Client) (pipes : Pipes) : Type 0 where
      served : Served settings before past due at
      direct : Direct client
      stands : Stands w pipes.requests_sent (talk_of client)
      way : pipes.closed ≡ false → Way client.contact client.session (serving settings past) pipes due at.server.listener.service.response

    bounds : (past : List Occurrence) → Bounds w (serving settings past)
    bounds past =
        let same = serving_most (packets_over L2cap past) (new_session (own_maximum L2cap settings) true) in
        let obex_low = settings.obex_low in
        let obex_high = settings.obex_high in
        let mtu_low = settings.mtu_low in
        record { wide = wide; bounded = bounded; least = omega (arith, same, obex_low, mtu_low); most = omega (arith, same, obex_high) }

    client_more : (past : List Occurrence) (due : Bool) (at : Reacted) (deed : Deed) (client : Client) (pipes : Pipes) → AnswersTo w.content deed client → IsOnObject client → ArePipes (pipes_after (OfClient deed) client pipes) → Both past due at client pipes
        → Both past due at (deeds.done deed client) (pipes_after (OfClient deed) client pipes)
    client_more past due at deed client pipes answers here are b = record {
      served = b.served;
      direct = deed_direct w.content deed client answers b.direct;
      stands = subst (λ (ps : List (List ℕ)). Stands w (pipes.requests_sent ++ ps) (talk_of (deeds.done deed client))) (sym (sent_same deed client here)) (deed_stands w pipes.requests_sent deed client answers b.stands);
      way = λ on. deed_way w (serving settings past) (bounds past) pipes due at.server.listener.service.response pipes.requests_sent deed client b.direct here answers b.stands are.responses (b.way on);
    }

    server_turn : (past : List Occurrence) (due : Bool) (at : Reacted) (one : Occurrence) (client : Client) (pipes : Pipes) → ServesDirectly AllGranted at one → ArePipes (pipes_after (OfServer one) client pipes) → ComesOpen (OfServer one) pipes → Both past due at client pipes
        → InTurn settings past due one
    server_turn past due at one client pipes serves are opened b = in_turn settings before past client.contact client.session pipes one due at serves.direct opened are.requests b.way

    server_more : (past : List Occurrence) (due : Bool) (at : Reacted) (one : Occurrence) (client : Client) (pipes : Pipes) → ServesDirectly AllGranted at one → ArePipes (pipes_after (OfServer one) client pipes) → ComesOpen (OfServer one) pipes → Both past due at client pipes
        → Both (past ++ one ∷ []) (due_behind settings past due one) (done one at) client (pipes_after (OfServer one) client pipes)
    server_more past due at one client pipes serves are opened b = record {
      served = served_more settings before past due at one b.served serves (server_turn past due at one client pipes serves are opened b);
      direct = b.direct;
      stands = b.stands;
      way = λ on.
          let both = neither pipes.closed (closes object_psm one) on in
          way_behind settings before past client.contact client.session pipes one due at b.served.still b.served.whole b.served.clear.holds.upholds.listens.serves.enough (grants one at b.served.clear.spared) serves.direct serves.own both.1 are.requests (b.way both.0);
    }

    both_turn : (moves : List Move) (past : List Occurrence) (due : Bool) (at : Reacted) (client : Client) (pipes : Pipes) → AllAnswer w.content (client_side moves) client → AllOnObject moves client → StayPipes moves client pipes → AllServeDirectly AllGranted at (server_side moves ++ rest) → GoesOn
        → Both past due at client pipes → AllTakeTurns settings past due at (server_side moves ++ rest)
    both_turn [] past due at client pipes answers here carried serve on b = on past due at b.served serve
    both_turn (OfServer one ∷ moves) past due at client pipes answers here carried serve on b =
        let turn = server_turn past due at one client pipes serve.0 carried.0 carried.1 b in (
          record { own = serve.0.own; granted = serve.0.answers; turn = turn },
          both_turn moves (past ++ one ∷ []) (due_behind settings past due one) (done one at) client (pipes_after (OfServer one) client pipes) answers here carried.2 serve.1 on (server_more past due at one client pipes serve.0 carried.0 carried.1 b),
        )
    both_turn (OfClient deed ∷ moves) past due at client pipes answers here carried serve on b =
        both_turn moves past due at (deeds.done deed client) (pipes_after (OfClient deed) client pipes) answers.1 here.1 carried.2 serve on (client_more past due at deed client pipes answers.0 here.0 carried.0 b)

  -- ---- a client on another channel: nothing comes

  away_turn : (past : List Occurrence) (due : Bool) (at : Reacted) (one : Occurrence) (pipes : Pipes) → ServesDirectly AllGranted at one → pipes.requests_sent ≡ [] → ((behind : List (List ℕ)) × (pipes.requests_sent ≡ (pipes.requests_come ++ come_by one) ++ behind)) → InTurn settings past due one
  away_turn past due at (Came psm sdu) pipes serves none front = (
    serves.direct,
    λ here. absurd (none_come pipes.requests_sent pipes.requests_come sdu front.0 none (front.1 ∙ ap (λ (n : ℕ). (pipes.requests_come ++ come_by (Came n sdu)) ++ front.0) here)),
  )
  away_turn past due at (Went psm sdu) pipes serves none front = tt
  away_turn past due at (Closed psm) pipes serves none front = tt
  away_turn past due at LinkDown pipes serves none front = tt
  away_turn past due at Asked pipes serves none front = tt
  away_turn past due at (Answering answers) pipes serves none front = tt

  away_turns : (moves : List Move) (past : List Occurrence) (due : Bool) (at : Reacted) (client : Client) (pipes : Pipes) → ((deeds.all_done (client_side moves) client).psm == object_psm) ≡ false → pipes.requests_sent ≡ [] → StayPipes moves client pipes → AllServeDirectly AllGranted at (server_side moves ++ rest)
      → GoesOn → Served settings before past due at → AllTakeTurns settings past due at (server_side moves ++ rest)
  away_turns [] past due at client pipes away none carried serve on s = on past due at s serve
  away_turns (OfServer one ∷ moves) past due at client pipes away none carried serve on s =
      let turn = away_turn past due at one pipes serve.0 none carried.0.requests in (
        record { own = serve.0.own; granted = serve.0.answers; turn = turn },
        away_turns moves (past ++ one ∷ []) (due_behind settings past due one) (done one at) client (pipes_after (OfServer one) client pipes) away none carried.2 serve.1 on (served_more settings before past due at one s serve.0 turn),
      )
  away_turns (OfClient deed ∷ moves) past due at client pipes away none carried serve on s =
      away_turns moves past due at (deeds.done deed client) (pipes_after (OfClient deed) client pipes) away
      (ap (λ (ps : List (List ℕ)). ps ++ sent_by deed client) none ∙ none_sent deed client (λ works. ap (λ (n : ℕ). n == object_psm) (sym (same_psm (deed ∷ client_side moves) client works)) ∙ away)) carried.2 serve on s

  -- ---- a push, on a link of its own

  pub push_turns : (push : Push) → IsPushed push → (past : List Occurrence) (at : Reacted) → AllServeDirectly AllGranted at (server_side push.moves ++ rest) → GoesOn → Served settings before past false at → AllTakeTurns settings past false at (server_side push.moves ++ rest)
  push_turns push pushed past at serve on s =
      elim (cases_Bool ((deeds.all_done (client_side push.moves) begun).psm == object_psm)) [
        | inl here ↦
            both_turn w pushed.offered.may.own pushed.bounded push.moves past false at begun no_pipes pushed.offered.answers (on_object push.moves begun (eqb-true (deeds.all_done (client_side push.moves) begun).psm object_psm here)) pushed.offered.carried serve on
            (record {
              served = s;
              direct = pushed.offered.direct;
              stands = begun_so w push.client pushed.offered.may refl refl;
              way = λ opened. Flowing [] refl refl refl (inr (record { fits = λ e. absurd (let f : Unmet ≡ Met = e in cc); mode = tt }));
            })
        | inr away ↦ away_turns push.moves past false at begun no_pipes away refl pushed.offered.carried serve on s
      ]
    where
      begun : Client
      begun = with_object push.name push.size push.client

      w : Task
      w = record { maximum = push.client.session.maximum; wanted = push.client.session.wanted; name = push.name; size = push.size; content = push.content }

-- ---- push after push

linked : (settings : Settings) (before : List Object) → (pushes : List Push) (last : Push) (past : List Occurrence) (at : Reacted) → AllByRecursion IsPushed pushes → IsPushed last → Served settings before past false at → AllServeDirectly AllGranted at (over_pushes pushes last)
    → AllTakeTurns settings past false at (over_pushes pushes last)
linked settings before [] last past at pushed over s serve =
    let same = append-nil (server_side last.moves) in
    subst (AllTakeTurns settings past false at) same (push_turns settings before [] last over past at (subst (AllServeDirectly AllGranted at) (sym same) serve) (λ past' due' at' s' serve'. tt) s)
linked settings before (push ∷ pushes) last past at pushed over s serve =
    let others : List Occurrence = over_pushes pushes last in
    let same : server_side push.moves ++ LinkDown ∷ others ≡ over_pushes (push ∷ pushes) last =
    sym (ap (λ (os : List Occurrence). os ++ server_side last.moves) (append_assoc (server_side push.moves) (LinkDown ∷ []) (flat_map ended_with pushes))
    ∙ append_assoc (server_side push.moves) (LinkDown ∷ flat_map ended_with pushes) (server_side last.moves)) in
    subst (AllTakeTurns settings past false at) same
    (push_turns settings before (LinkDown ∷ others) push pushed.0 past at (subst (AllServeDirectly AllGranted at) (sym same) serve)
    (λ past' due at' s' serve'. (
      record { own = serve'.0.own; granted = serve'.0.answers; turn = tt },
      linked settings before pushes last (past' ++ LinkDown ∷ []) (done LinkDown at') pushed.1 over (served_more settings before past' due at' LinkDown s' serve'.0 tt) serve'.1,
    )) s)

-- ---- the laws

not_lent : None ≡ Some outlets.Direct → ⊥
not_lent e = cc

pub requests-come_in_turn : RequestsComeInTurn
requests-come_in_turn settings before pushes last pushed over serve =
    linked settings before pushes last [] (new_over settings before) pushed over (record { clear = first_clear settings before; still = first_still settings before; whole = λ e none. not_lent e }) serve

pub requests-are_heard : RequestsAreHeard
requests-are_heard settings before pushes last pushed over serve =
    no-request_is_ignored settings before (over_pushes pushes last) (requests-come_in_turn settings before pushes last pushed over serve)
