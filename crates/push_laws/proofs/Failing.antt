-- A push on a link of its own, where calls of the inbox may fail: while none did, each of its requests is heard.
use Rattle.std.proofs.Common.{inl, inr, ◌⊎◌, Bool, true, false, eqb, ◌≡◌, ◌==◌, ℕ, ◌+◌, ◌≤◌, ◌||◌, List, [], ◌∷◌, ◌++◌, map, None, Option, Ok, Err, is_err, refl, sym, ap, ap₂, subst, ◌∙◌, arith, append-nil, append_assoc}
use Rattle.std.specs.List.{AllByRecursion}
use Rattle.std.proofs.lemmas.Bool.{cases_Bool, cond-false, eqb-true}
use Rattle.std.proofs.lemmas.List.Sums.{sum_by-cons}
use Rattle.link_talk.specs.bt_base.specs.declared.settings.Settings.{Settings}
use Rattle.link_talk.specs.bt_base.specs.declared.settings.Transport.TheVariants.{L2cap, Rfcomm}
use Rattle.link_talk.specs.bt_base.specs.declared.ports.PortFault.TheVariants.{NoMemory}
use Rattle.link_talk.specs.bt_base.specs.Objects.{Object}
use Rattle.link_talk.specs.push_terms.specs.declared.outcome.Outcome.{Outcome}
use Rattle.push_model.specs.obex_session.specs.InboxCalls.{Answer, come_of}
use Rattle.push_model.specs.obex_session.specs.Past.{Heard}
use Rattle.push_model.specs.obex_session.specs.Serving.{ruling_on}
use Rattle.push_model.specs.Client.{Client, own_maximum}
use Rattle.push_model.specs.Laws as deeds
use Rattle.push_model.specs.Laws.{Deed}
use Rattle.push_model.specs.Service.{Service, is_ignored}
use Rattle.push_model.specs.Server.{Reacted, object_psm}
use Rattle.push_laws.specs.Calls.{new_session}
use Rattle.push_laws.specs.Faults.{Marked, unmarked, heard_as, counted, faults_of, fails_at, is_refused, any_refused, refuses_with, ignored_of, ignored_with, faults_before, spends, spent_from}
use Rattle.push_laws.specs.Occurrences.{Occurrence, Came, Went, Closed, LinkDown, Asked, Answering, done, all_done}
use Rattle.push_laws.specs.Parties.{Move, OfServer, OfClient, server_side, client_side, Pipes, come_by, sdu_if, pipes_after, ArePipes, IsFrontOf, ComesOpen, StayPipes, ServesDirectly, AllServeDirectly}
use Rattle.push_laws.specs.Premises.{AllGranted, NoneShort}
use Rattle.push_laws.specs.Readings.{closes, came_on, packets_over}
use Rattle.push_laws.specs.Sending.{AnswersTo, AllAnswer}
use Rattle.push_laws.specs.Turns.{serving, due_behind, InTurn}
use Rattle.push_laws.proofs.Calm.{none_direct, one_direct, none_muxed}
use Rattle.push_laws.proofs.Deeds.{Bounds, deed_way}
use Rattle.push_laws.proofs.Keeping.{Keeps, octets_later, keeps_more}
use Rattle.push_laws.proofs.Listening.{octets_of, or-false}
use Rattle.push_laws.proofs.Missing.{Stays, marking, marked_at, stays_more, marks_later}
use Rattle.push_laws.proofs.OnObject.{AllOnObject, IsOnObject, sent_same}
use Rattle.push_laws.proofs.Parties.{deed_direct, serving_most}
use Rattle.push_laws.proofs.Partners.{way_behind, in_turn}
use Rattle.push_laws.proofs.Pushing.{Task, Stands, HasSent, sent_of}
use Rattle.push_laws.proofs.Sending.{deed_stands}
use Rattle.push_laws.proofs.Talks.{talk_of}
use Rattle.push_laws.proofs.Turns as turns
use Rattle.push_laws.proofs.Turns.{IsGranted, Grants, request_taken, still_more}
use Rattle.push_laws.proofs.Ways.{Way}

-- none of them counts as refused
abbrev pub AllCount : List Heard → Type 0
AllCount heard = AllByRecursion (λ (one : Heard). one.1 ≡ false) heard

pub all_count : (a b : List Heard) → AllCount a → AllCount b → AllCount (a ++ b)
all_count [] b x y = y
all_count (one ∷ a) b x y = (x.0, all_count a b x.1 y)

neither : (a b : Bool) → (a || b) ≡ false → (a ≡ false) × (b ≡ false)
neither true b e = absurd (let f : true ≡ false = e in cc)
neither false b e = (refl, e)

-- ---- one occurrence: its calls are granted, or a fault is used up

module _ (settings : Settings) (before : List Object) (past : List Occurrence) (at : Reacted) where
  data Judged (one : Occurrence) (mark : Bool) : Type 0 where
    Granted : Grants one at → AllCount (heard_as mark (come_by one)) → Judged one mark
    Failed : 1 ≤ spends at one → Judged one mark

  come_good : (come : Answer) → is_err come ≡ false → come ≡ Ok tt
  come_good (Ok done) e = refl
  come_good (Err fault) e = absurd (let f : true ≡ false = e in cc)

  -- how a request is marked, and whether it is ignored
  judged_as : (sdu : List ℕ) (s : Stays settings before past at) (serves : ServesDirectly NoneShort at (Came 0x1001 sdu)) → marked_at settings before past at (Came 0x1001 sdu) s serves ≡ is_refused L2cap sdu at.server.listener.service at.gift.answers
  judged_as sdu s serves =
      let one : Occurrence = Came 0x1001 sdu in
      let service : Service = at.server.listener.service in
      let r = is_refused L2cap sdu service at.gift.answers in
      let quiet = (stays_more settings before past at one s serves).calm.quiet in
      (marking settings before past at one s serves).is ∙ ap (λ (os : List Occurrence). refuses_with os service at.gift.answers one) s.same
      ∙ ap₂ (λ (a b : Bool). a || b) (ap (any_refused L2cap service at.gift.answers) (one_direct past sdu)) (ap (any_refused Rfcomm service at.gift.answers) (none_muxed past one quiet))
      ∙ (or-false (r || false) ∙ or-false r)

  all_ignored : (sdu : List ℕ) (s : Stays settings before past at) (serves : ServesDirectly NoneShort at (Came 0x1001 sdu)) → ignored_with (unmarked s.marks) at.server.listener.service (Came 0x1001 sdu) ≡ counted (is_ignored L2cap sdu at.server.listener.service)
  all_ignored sdu s serves =
      let one : Occurrence = Came 0x1001 sdu in
      let service : Service = at.server.listener.service in
      let quiet = (stays_more settings before past at one s serves).calm.quiet in
      let direct = ap (ignored_of L2cap service) (one_direct past sdu) in
      let count = sum_by-cons (λ (packet : List ℕ). counted (is_ignored L2cap packet service)) sdu [] in
      let carried = ap (ignored_of Rfcomm service) (none_muxed past one quiet) in
      let same = ap (λ (os : List Occurrence). ignored_with os service one) s.same in
      let nothing : ignored_of Rfcomm service [] ≡ 0 = refl in
      omega (arith, direct, count, carried, same, nothing)

  module _ (sdu : List ℕ) (s : Stays settings before past at) (serves : ServesDirectly NoneShort at (Came 0x1001 sdu)) (taken : is_ignored L2cap sdu at.server.listener.service ≡ false) where
    abbrev one : Occurrence
    one = Came 0x1001 sdu

    abbrev mark : Bool
    mark = marked_at settings before past at one s serves

    marked : mark ≡ fails_at L2cap sdu at.server.listener.service at.gift.answers
    marked = judged_as sdu s serves ∙ ap (λ (b : Bool). b || fails_at L2cap sdu at.server.listener.service at.gift.answers) taken

    none_ignored : ignored_with (unmarked s.marks) at.server.listener.service one ≡ 0
    none_ignored = let all = all_ignored sdu s serves in let none = ap counted taken in omega (arith, all, none)

    came_judged : Judged one mark
    came_judged = by mark refl
      where
        by : (m : Bool) → mark ≡ m → Judged one mark
        by false is = Granted (λ here. come_good (come_of (ruling_on at.server.listener.service.sessions.direct sdu).calls at.gift.answers) (sym marked ∙ is)) (is, tt)
        by true is =
            let paid = (marking settings before past at one s serves).paid in
            let counts = ap counted is in
            Failed (omega (arith, paid, counts, none_ignored))

  away_counts : (b : Bool) (mark : Bool) (sdu : List ℕ) → b ≡ false → AllCount (heard_as mark (sdu_if b sdu))
  away_counts true mark sdu e = absurd (let f : true ≡ false = e in cc)
  away_counts false mark sdu e = tt

  no_object : (psm : ℕ) → eqb psm object_psm ≡ false → psm ≡ object_psm → ⊥
  no_object psm away here = let f : true ≡ false = sym (ap (λ (n : ℕ). eqb n object_psm) here) ∙ away in cc

  judged : (one : Occurrence) (s : Stays settings before past at) (serves : ServesDirectly NoneShort at one) → ((sdu : List ℕ) → one ≡ Came object_psm sdu → is_ignored L2cap sdu at.server.listener.service ≡ false) → Judged one (marked_at settings before past at one s serves)
  judged (Came psm sdu) s serves taken =
      elim (cases_Bool (eqb psm object_psm)) [
        | inl here ↦ by psm (eqb-true psm object_psm here) s serves taken
        | inr away ↦ Granted (λ here. absurd (no_object psm away here)) (away_counts (psm == object_psm) (marked_at settings before past at (Came psm sdu) s serves) sdu away)
      ]
    where
      by : (p : ℕ) → p ≡ object_psm → (s : Stays settings before past at) (serves : ServesDirectly NoneShort at (Came p sdu)) → ((x : List ℕ) → Came p sdu ≡ Came object_psm x → is_ignored L2cap x at.server.listener.service ≡ false)
          → Judged (Came p sdu) (marked_at settings before past at (Came p sdu) s serves)
      by p is s =
          subst (λ (n : ℕ). (serves : ServesDirectly NoneShort at (Came n sdu)) → ((x : List ℕ) → Came n sdu ≡ Came object_psm x → is_ignored L2cap x at.server.listener.service ≡ false) → Judged (Came n sdu) (marked_at settings before past at (Came n sdu) s serves))
          (sym is) (λ serves taken. came_judged sdu s serves (taken sdu refl))
  judged (Went psm sdu) s serves taken = Granted tt tt
  judged (Closed psm) s serves taken = Granted tt tt
  judged LinkDown s serves taken = Granted tt tt
  judged Asked s serves taken = Granted tt tt
  judged (Answering answers) s serves taken = Granted tt tt

-- ---- faults are used up, and none comes

module _ (settings : Settings) (before : List Object) (past : List Occurrence) (at : Reacted) where
  no_packet : (one : Occurrence) (s : Stays settings before past at) (serves : ServesDirectly NoneShort at one) → came_on object_psm one ≡ None → ignored_with (unmarked s.marks) at.server.listener.service one ≡ 0
  no_packet one s serves none =
      let service : Service = at.server.listener.service in
      let quiet = (stays_more settings before past at one s serves).calm.quiet in
      let direct = ap (ignored_of L2cap service) (none_direct past one none) in
      let carried = ap (ignored_of Rfcomm service) (none_muxed past one quiet) in
      let same = ap (λ (os : List Occurrence). ignored_with os service one) s.same in
      let nothing : ignored_of L2cap service [] ≡ 0 = refl in
      let nothing_carried : ignored_of Rfcomm service [] ≡ 0 = refl in
      omega (arith, direct, carried, same, nothing, nothing_carried)

  less_of : (one : Occurrence) (s : Stays settings before past at) (serves : ServesDirectly NoneShort at one) → came_on object_psm one ≡ None → faults_of (done one at).gift.answers ≤ faults_before one at.gift.answers
  less_of one s serves none = let paid = (marking settings before past at one s serves).paid in let nothing = no_packet one s serves none in omega (arith, paid, nothing)

  came_less : (sdu : List ℕ) (s : Stays settings before past at) (serves : ServesDirectly NoneShort at (Came 0x1001 sdu)) → faults_of (done (Came 0x1001 sdu) at).gift.answers ≤ faults_of at.gift.answers
  came_less sdu s serves = by (is_ignored L2cap sdu at.server.listener.service) refl
    where
      counts : (b : Bool) → b ≡ true → counted b ≡ 1
      counts true e = refl
      counts false e = absurd (let f : false ≡ true = e in cc)

      by : (ignored : Bool) → is_ignored L2cap sdu at.server.listener.service ≡ ignored → faults_of (done (Came 0x1001 sdu) at).gift.answers ≤ faults_of at.gift.answers
      by false is =
          let paid = (marking settings before past at (Came 0x1001 sdu) s serves).paid in
          let nothing = none_ignored settings before past at sdu s serves is in
          omega (arith, paid, nothing)
      by true is =
          let paid = (marking settings before past at (Came 0x1001 sdu) s serves).paid in
          let few = all_ignored settings before past at sdu s serves in
          let refused = counts (marked_at settings before past at (Came 0x1001 sdu) s serves) (judged_as settings before past at sdu s serves ∙ ap (λ (b : Bool). b || fails_at L2cap sdu at.server.listener.service at.gift.answers) is) in
          let one = ap counted is in
          omega (arith, paid, few, refused, one)

  pub uses_up : (one : Occurrence) (s : Stays settings before past at) → ServesDirectly NoneShort at one → faults_of (done one at).gift.answers ≤ faults_before one at.gift.answers
  uses_up (Came psm sdu) s serves =
      elim (cases_Bool (eqb psm object_psm)) [
        | inl here ↦ by psm (eqb-true psm object_psm here) s serves
        | inr away ↦ less_of (Came psm sdu) s serves (cond-false _ _ _ away)
      ]
    where
      by : (p : ℕ) → p ≡ object_psm → (s : Stays settings before past at) (serves : ServesDirectly NoneShort at (Came p sdu)) → faults_of (done (Came p sdu) at).gift.answers ≤ faults_of at.gift.answers
      by p is s = subst (λ (n : ℕ). (serves : ServesDirectly NoneShort at (Came n sdu)) → faults_of (done (Came n sdu) at).gift.answers ≤ faults_of at.gift.answers) (sym is) (λ serves. came_less sdu s serves)
  uses_up (Went psm sdu) s serves = less_of (Went psm sdu) s serves refl
  uses_up (Closed psm) s serves = less_of (Closed psm) s serves refl
  uses_up LinkDown s serves = less_of LinkDown s serves refl
  uses_up Asked s serves = less_of Asked s serves refl
  uses_up (Answering answers) s serves = less_of (Answering answers) s serves refl

granted_enough : (answers : List Answer) → AllGranted answers → NoneShort answers × (faults_of answers ≡ 0)
granted_enough [] all = (tt, refl)
granted_enough (Ok done ∷ answers) all = let rest = granted_enough answers all.1 in ((λ short. no_both (sym all.0 ∙ short), rest.0), rest.1)
  where
    no_both : (let answer : Answer = Ok tt in answer) ≡ Err NoMemory → ⊥
    no_both e = cc
granted_enough (Err fault ∷ answers) all = absurd (let e : (let answer : Answer = Err fault in answer) ≡ Ok tt = all.0 in cc)

serves_enough : (at : Reacted) (one : Occurrence) → ServesDirectly AllGranted at one → ServesDirectly NoneShort at one
serves_enough at (Came psm sdu) serves = record { own = serves.own; answers = tt; direct = serves.direct }
serves_enough at (Went psm sdu) serves = record { own = serves.own; answers = tt; direct = serves.direct }
serves_enough at (Closed psm) serves = record { own = serves.own; answers = tt; direct = serves.direct }
serves_enough at LinkDown serves = record { own = serves.own; answers = tt; direct = serves.direct }
serves_enough at Asked serves = record { own = serves.own; answers = tt; direct = serves.direct }
serves_enough at (Answering answers) serves = record { own = serves.own; answers = (granted_enough answers serves.answers).0; direct = serves.direct }

pub all_enough : (occurrences : List Occurrence) (at : Reacted) → AllServeDirectly AllGranted at occurrences → AllServeDirectly NoneShort at occurrences
all_enough [] at serve = tt
all_enough (one ∷ rest) at serve = (serves_enough at one serve.0, all_enough rest (done one at) serve.1)

before_none : (one : Occurrence) (at : Reacted) → ServesDirectly AllGranted at one → faults_of at.gift.answers ≡ 0 → faults_before one at.gift.answers ≡ 0
before_none (Came psm sdu) at serves none = none
before_none (Went psm sdu) at serves none = none
before_none (Closed psm) at serves none = none
before_none LinkDown at serves none = none
before_none Asked at serves none = none
before_none (Answering answers) at serves none = (granted_enough answers serves.answers).1

-- where all calls are granted none is used up
pub none_spent : (settings : Settings) (before : List Object) (occurrences past : List Occurrence) (at : Reacted) → Stays settings before past at → AllServeDirectly AllGranted at occurrences → faults_of at.gift.answers ≡ 0 → spent_from at occurrences ≡ 0
none_spent settings before [] past at s serve none = refl
none_spent settings before (one ∷ rest) past at s serve none =
    let serves = serves_enough at one serve.0 in
    let less = uses_up settings before past at one s serves in
    let nothing = before_none one at serve.0 none in
    let later = none_spent settings before rest (past ++ one ∷ []) (done one at) (stays_more settings before past at one s serves) serve.1 (omega (arith, less, nothing)) in
    omega (arith, nothing, later)

-- ---- both, on one link

module _ (settings : Settings) (before ahead spelt : List Object) (w : Task) (wide : 255 ≤ w.maximum) where
  abbrev most : ℕ
  most = own_maximum L2cap settings

  -- No call failed on it yet, and so each request was heard; or one did.
  pub data Phase (past : List Occurrence) (at : Reacted) (client : Client) (pipes : Pipes) (heard : List Heard) (spent : ℕ) : Type 0 where
    Even : (due : Bool) → AllCount heard → turns.Stands settings past due at.server → (pipes.closed ≡ false → Way client.contact client.session (serving settings past) pipes due at.server.listener.service.response) → Phase past at client pipes heard spent
    Spent : 1 ≤ spent → Phase past at client pipes heard spent

  pub record On (past : List Occurrence) (at : Reacted) (client : Client) (pipes : Pipes) (heard : List Heard) (spent : ℕ) : Type 0 where
    pub stays : Stays settings before past at
    pub keeps : Keeps settings before ahead spelt heard pipes.closed past stays.marks
    pub come : pipes.requests_come ≡ map octets_of heard
    pub front : IsFrontOf pipes.requests_come pipes.requests_sent
    pub direct : client.transport ≡ L2cap
    pub stands : Stands w pipes.requests_sent (talk_of client)
    pub phase : w.size ≤ 16777215 → Phase past at client pipes heard spent

  -- ---- a deed of the client

  bounds : w.size ≤ 16777215 → (past : List Occurrence) → Bounds w (serving settings past)
  bounds bounded past =
      let same = serving_most (packets_over L2cap past) (new_session (own_maximum L2cap settings) true) in
      let obex_low = settings.obex_low in
      let obex_high = settings.obex_high in
      let mtu_low = settings.mtu_low in
      record { wide = wide; bounded = bounded; least = omega (arith, same, obex_low, mtu_low); most = omega (arith, same, obex_high) }

  client_phase : w.size ≤ 16777215 → (past : List Occurrence) (at : Reacted) (deed : Deed) (client : Client) (pipes : Pipes) (heard : List Heard) (spent : ℕ) → AnswersTo w.content deed client → IsOnObject client → ArePipes (pipes_after (OfClient deed) client pipes)
      → client.transport ≡ L2cap → Stands w pipes.requests_sent (talk_of client) → Phase past at client pipes heard spent → Phase past at (deeds.done deed client) (pipes_after (OfClient deed) client pipes) heard spent
  client_phase bounded past at deed client pipes heard spent answers here are direct stands (Even due counts still way) =
      Even due counts still (λ on. deed_way w (serving settings past) (bounds bounded past) pipes due at.server.listener.service.response pipes.requests_sent deed client direct here answers stands are.responses (way on))
  client_phase bounded past at deed client pipes heard spent answers here are direct stands (Spent some) = Spent some

  client_more : (past : List Occurrence) (at : Reacted) (deed : Deed) (client : Client) (pipes : Pipes) (heard : List Heard) (spent : ℕ) → AnswersTo w.content deed client → IsOnObject client → ArePipes (pipes_after (OfClient deed) client pipes) → On past at client pipes heard spent
      → On past at (deeds.done deed client) (pipes_after (OfClient deed) client pipes) heard spent
  client_more past at deed client pipes heard spent answers here are o = record {
    stays = o.stays;
    keeps = o.keeps;
    come = o.come;
    front = are.requests;
    direct = deed_direct w.content deed client answers o.direct;
    stands = subst (λ (ps : List (List ℕ)). Stands w (pipes.requests_sent ++ ps) (talk_of (deeds.done deed client))) (sym (sent_same deed client here)) (deed_stands w pipes.requests_sent deed client answers o.stands);
    phase = λ bounded. client_phase bounded past at deed client pipes heard spent answers here are o.direct o.stands (o.phase bounded);
  }

  -- ---- an occurrence

  module _ (past : List Occurrence) (at : Reacted) (one : Occurrence) (client : Client) (pipes : Pipes) (heard : List Heard) (spent : ℕ) (s : Stays settings before past at) (serves : ServesDirectly NoneShort at one)
      (are : ArePipes (pipes_after (OfServer one) client pipes)) (opened : ComesOpen (OfServer one) pipes) where
    abbrev mark_now : Bool
    mark_now = marked_at settings before past at one s serves

    abbrev heard_then : List Heard
    heard_then = heard ++ heard_as mark_now (come_by one)

    taken_at : (due : Bool) → turns.Stands settings past due at.server → InTurn settings past due one → (sdu : List ℕ) → one ≡ Came object_psm sdu → is_ignored L2cap sdu at.server.listener.service ≡ false
    taken_at due still turn sdu is = request_taken settings before past due sdu at still ((subst (InTurn settings past due) is turn).1 refl)

    even_more : (due : Bool) → AllCount heard → turns.Stands settings past due at.server → (pipes.closed ≡ false → Way client.contact client.session (serving settings past) pipes due at.server.listener.service.response)
        → InTurn settings past due one → Judged settings before past at one mark_now → Phase (past ++ one ∷ []) (done one at) client (pipes_after (OfServer one) client pipes) heard_then (spent + spends at one)
    even_more due counts still way turn (Failed used) = Spent (omega (arith, used))
    even_more due counts still way turn (Granted granted count) =
        let sound = s.holds.upholds.listens.serves.enough in
        Even (due_behind settings past due one) (all_count heard (heard_as mark_now (come_by one)) counts count) (still_more settings before past one due at sound granted serves.own turn still)
        (λ on.
        let both = neither pipes.closed (closes object_psm one) on in
        way_behind settings before past client.contact client.session pipes one due at still s.whole sound granted serves.direct serves.own both.1 are.requests (way both.0))

    server_phase : Phase past at client pipes heard spent → Phase (past ++ one ∷ []) (done one at) client (pipes_after (OfServer one) client pipes) heard_then (spent + spends at one)
    server_phase (Even due counts still way) =
        let turn = in_turn settings before past client.contact client.session pipes one due at serves.direct opened are.requests way in
        even_more due counts still way turn (judged settings before past at one s serves (taken_at due still turn))
    server_phase (Spent some) = Spent (omega (arith, some))

  server_more : (past : List Occurrence) (at : Reacted) (one : Occurrence) (client : Client) (pipes : Pipes) (heard : List Heard) (spent : ℕ) (o : On past at client pipes heard spent) (serves : ServesDirectly NoneShort at one)
      → ArePipes (pipes_after (OfServer one) client pipes) → ComesOpen (OfServer one) pipes
      → On (past ++ one ∷ []) (done one at) client (pipes_after (OfServer one) client pipes) (heard ++ heard_as (marked_at settings before past at one o.stays serves) (come_by one)) (spent + spends at one)
  server_more past at one client pipes heard spent o serves are opened =
      let mark = marked_at settings before past at one o.stays serves in
      record {
        stays = stays_more settings before past at one o.stays serves;
        keeps = subst (λ (ms : List Marked). Keeps settings before ahead spelt (heard ++ heard_as mark (come_by one)) (pipes.closed || closes object_psm one) (past ++ one ∷ []) ms) (sym (marks_later settings before past at one o.stays serves))
            (keeps_more settings before ahead spelt heard past at one o.stays serves pipes.closed opened o.keeps);
        come = ap (λ (ps : List (List ℕ)). ps ++ come_by one) o.come ∙ sym (octets_later settings before ahead spelt heard past at one o.stays serves);
        front = are.requests;
        direct = o.direct;
        stands = o.stands;
        phase = λ bounded. server_phase past at one client pipes heard spent o.stays serves are opened (o.phase bounded);
      }

  -- ---- all moves

  -- what stands behind a link
  pub record Ends (past : List Occurrence) (at : Reacted) (spent : ℕ) : Type 0 where
    pub stays : Stays settings before past at
    pub heard : List Heard
    pub closed : Bool
    pub keeps : Keeps settings before ahead spelt heard closed past stays.marks
    pub sent : List (List ℕ)
    pub cause : Option Outcome
    pub comes : IsFrontOf (map octets_of heard) sent
    pub are_sent : HasSent w w.name w.size cause sent
    pub judged : w.size ≤ 16777215 → AllCount heard ⊎ (1 ≤ spent)

  ended : (past : List Occurrence) (at : Reacted) (client : Client) (pipes : Pipes) (heard : List Heard) (spent : ℕ) → On past at client pipes heard spent → Ends past at spent
  ended past at client pipes heard spent o =
      let t = talk_of client in
      let fixed = o.stands.0 in
      record {
        stays = o.stays;
        heard = heard;
        closed = pipes.closed;
        keeps = o.keeps;
        sent = pipes.requests_sent;
        cause = t.cause;
        comes = subst (λ (ps : List (List ℕ)). IsFrontOf ps pipes.requests_sent) o.come o.front;
        are_sent = subst (λ (n : ℕ). HasSent w w.name n t.cause pipes.requests_sent) fixed.size_is (subst (λ (n : List ℕ). HasSent w n t.size t.cause pipes.requests_sent) fixed.name_is (sent_of w pipes.requests_sent t o.stands));
        judged = λ bounded. of_phase (o.phase bounded);
      }
    where
      of_phase : Phase past at client pipes heard spent → AllCount heard ⊎ (1 ≤ spent)
      of_phase (Even due counts still way) = inl counts
      of_phase (Spent some) = inr some

  -- the walk's end, behind some occurrences
  abbrev pub EndsBehind : List Occurrence → List Occurrence → Reacted → ℕ → Type 0
  EndsBehind more past at spent = Ends (past ++ more) (all_done more at) (spent + spent_from at more)

  pub more_behind : (past : List Occurrence) (at : Reacted) (one : Occurrence) (more : List Occurrence) (spent : ℕ) → EndsBehind more (past ++ one ∷ []) (done one at) (spent + spends at one) → EndsBehind (one ∷ more) past at spent
  more_behind past at one more spent e =
      let same : (spent + spends at one) + spent_from (done one at) more ≡ spent + (spends at one + spent_from (done one at) more) = omega arith in
      subst (Ends (past ++ one ∷ more) (all_done more (done one at))) same
      (subst (λ (os : List Occurrence). Ends os (all_done more (done one at)) ((spent + spends at one) + spent_from (done one at) more)) (append_assoc past (one ∷ []) more) e)

  pub none_behind : (past : List Occurrence) (at : Reacted) (spent : ℕ) → Ends past at spent → EndsBehind [] past at spent
  none_behind past at spent e =
      let same : spent ≡ spent + 0 = omega arith in
      subst (Ends (past ++ []) at) same (subst (λ (os : List Occurrence). Ends os at spent) (sym (append-nil past)) e)

  pub walks : (moves : List Move) (past : List Occurrence) (at : Reacted) (client : Client) (pipes : Pipes) (heard : List Heard) (spent : ℕ) → On past at client pipes heard spent → AllAnswer w.content (client_side moves) client → AllOnObject moves client
      → StayPipes moves client pipes → AllServeDirectly NoneShort at (server_side moves) → EndsBehind (server_side moves) past at spent
  walks [] past at client pipes heard spent o answers here carried serve = none_behind past at spent (ended past at client pipes heard spent o)
  walks (OfServer one ∷ moves) past at client pipes heard spent o answers here carried serve =
      more_behind past at one (server_side moves) spent
      (walks moves (past ++ one ∷ []) (done one at) client (pipes_after (OfServer one) client pipes) (heard ++ heard_as (marked_at settings before past at one o.stays serve.0) (come_by one)) (spent + spends at one)
      (server_more past at one client pipes heard spent o serve.0 carried.0 carried.1) answers here carried.2 serve.1)
  walks (OfClient deed ∷ moves) past at client pipes heard spent o answers here carried serve =
      walks moves past at (deeds.done deed client) (pipes_after (OfClient deed) client pipes) heard spent (client_more past at deed client pipes heard spent answers.0 here.0 carried.0 o) answers.1 here.1 carried.2 serve
