-- What an occurrence adds to the responses of a server that say success, over L2CAP: no more than objects are stored with it, and packets come that are no PUT.
use Rattle.std.proofs.Common.{Bool, true, false, ◌||◌, ◌≡◌, ℕ, ◌+◌, ◌≤◌, List, [], ◌∷◌, ◌++◌, length, refl, sym, ap, subst, ◌∙◌, arith}
use Rattle.std.specs.List.{AllByRecursion}
use Rattle.std.proofs.lemmas.Bool.{cond_both, cond-true, cond-false, eqb-true}
use Rattle.std.proofs.lemmas.List.{length-append}
use Rattle.tape_laws.specs.bt_base.specs.declared.settings.Settings.{Settings}
use Rattle.tape_laws.specs.bt_base.specs.declared.settings.Transport.TheVariants.{L2cap, Rfcomm}
use Rattle.tape_laws.specs.bt_base.specs.Objects.{Object}
use Rattle.tape_laws.specs.capture.proofs.HistoryLaws.{given_by-more}
use Rattle.tape_laws.specs.obex_session.specs.Past.{Serving}
use Rattle.tape_laws.specs.link_talk.specs.Gains.{gained}
use Rattle.tape_laws.specs.push_model.specs.Client.{own_maximum}
use Rattle.tape_laws.specs.push_model.specs.Service.{Service, Served, response_over, is_ignored, hears_packet}
use Rattle.tape_laws.specs.push_model.specs.Sessions.{hears}
use Rattle.tape_laws.specs.push_model.specs.Server.{Reacted, hears_on, closed_on, lets_go_on, remuxed, unreplied, unanswered, object_psm}
use Rattle.tape_laws.specs.push_laws.specs.Answers.{says_success}
use Rattle.tape_laws.specs.push_laws.specs.Faults as faulty
use Rattle.tape_laws.specs.push_laws.specs.Faults.{Marked, unmarked, stored_over, counted, mark_of}
use Rattle.tape_laws.specs.push_laws.specs.Marks.{SaysMark, SayMarks}
use Rattle.tape_laws.specs.push_laws.specs.Occurrences as occurrences
use Rattle.tape_laws.specs.push_laws.specs.Occurrences.{Occurrence, Came, Closed, LinkDown, Asked, Answering, done}
use Rattle.tape_laws.specs.push_laws.specs.Parties.{come_by, gone_by, ServesDirectly}
use Rattle.tape_laws.specs.push_laws.specs.Premises.{NoneShort}
use Rattle.tape_laws.specs.push_laws.specs.Readings.{closes, packets_over}
use Rattle.tape_laws.specs.push_laws.proofs.Answering.{response_is}
use Rattle.tape_laws.specs.push_laws.proofs.Calm.{one_direct}
use Rattle.tape_laws.specs.push_laws.proofs.Codes.{said_to}
use Rattle.tape_laws.specs.push_laws.proofs.Crossings.{response_of, Kind, Apart, Comes, Went, Ends, kind_of}
use Rattle.tape_laws.specs.push_laws.proofs.Gaining.{unfailed}
use Rattle.tape_laws.specs.push_laws.proofs.Missing.{Stays, marking, marked_at, stays_more, marks_later}
use Rattle.done_laws.proofs.Successes.{success_in, successes, other_than_put, others}
use Rattle.done_laws.proofs.Replies.{reply_counts, over_counts}

abbrev pub stored_with : Settings → List Marked → ℕ
stored_with settings marks = length (faulty.objects settings marks)

module _ (settings : Settings) (before : List Object) (past : List Occurrence) (at : Reacted) where
  -- ---- what is stored with one occurrence more

  module _ (one : Occurrence) (s : Stays settings before past at) (serves : ServesDirectly NoneShort at one) where
    abbrev last : Marked
    last = record { occurrence = one; refused = marked_at settings before past at one s serves }

    pub last_is : last ≡ mark_of (unmarked s.marks) at one
    last_is = ap (λ (b : Bool). (let m : Marked = record { occurrence = one; refused = b } in m)) (marking settings before past at one s serves).is

    abbrev now_stored : ℕ
    now_stored = length (gained (stored_over settings L2cap) s.marks (mark_of (unmarked s.marks) at one))

    stored_now : stored_with settings s.marks + now_stored ≤ stored_with settings (s.marks ++ mark_of (unmarked s.marks) at one ∷ [])
    stored_now =
        let mark : Marked = mark_of (unmarked s.marks) at one in
        let direct : List Object = gained (stored_over settings L2cap) s.marks mark in
        let carried : List Object = gained (stored_over settings Rfcomm) s.marks mark in
        let all = ap length (given_by-more (faulty.objects_with settings) s.marks mark) in
        let sum = length-append (faulty.objects settings s.marks) (direct ++ carried) in
        let both = length-append direct carried in
        omega (arith, all, sum, both)

    pub stored_later : stored_with settings s.marks + now_stored ≤ stored_with settings (stays_more settings before past at one s serves).marks
    stored_later =
        subst (λ (ms : List Marked). stored_with settings s.marks + now_stored ≤ stored_with settings ms) (sym (marks_later settings before past at one s serves))
        (subst (λ (m : Marked). stored_with settings s.marks + now_stored ≤ stored_with settings (s.marks ++ m ∷ [])) (sym last_is) stored_now)

  -- ---- a request

  module _ (sdu : List ℕ) (s : Stays settings before past at) (serves : ServesDirectly NoneShort at (Came 0x1001 sdu)) (said : SayMarks settings s.marks at (Came 0x1001 sdu)) where
    abbrev service : Service
    service = at.server.listener.service

    abbrev stored : ℕ
    stored = now_stored (Came 0x1001 sdu) s serves

    abbrev most : ℕ
    most = own_maximum L2cap settings

    new_is : gained (packets_over L2cap) (unmarked s.marks) (Came 0x1001 sdu) ≡ sdu ∷ []
    new_is = one_direct (unmarked s.marks) sdu

    marked : SaysMark settings L2cap s.marks at (Came 0x1001 sdu) sdu
    marked = (subst (AllByRecursion (SaysMark settings L2cap s.marks at (Came 0x1001 sdu))) new_is (said L2cap)).0

    reply : is_ignored L2cap sdu service ≡ false → success_in (hears L2cap sdu service.sessions at.gift).response ≤ stored + other_than_put sdu
    reply taken =
        let session : Serving = service.sessions.direct in
        let serving = s.holds.upholds.listens.serves in
        let is : (hears L2cap sdu service.sessions at.gift).response ≡ said_to session sdu at.gift.answers = response_is L2cap sdu service.sessions at.gift (λ named. s.calm.idle) in
        let counts = reply_counts session sdu at.gift.answers serving.none_short in
        let success : stored ≡ counted (says_success most (record { request = sdu; response = said_to session sdu at.gift.answers })) =
        marked.success ∙ ap (λ (r : List ℕ). counted (says_success most (record { request = sdu; response = r }))) (cond-false _ _ _ taken ∙ is) in
        let same = ap (λ (k : ℕ). counted (says_success k (record { request = sdu; response = said_to session sdu at.gift.answers }))) (serving.stands.maxima L2cap) in
        let one = ap success_in is in
        omega (arith, counts, success, same, one)

    heard_as_one : success_in (hears_packet L2cap sdu service at.gift).service.response ≤ success_in service.response + (stored + other_than_put sdu)
    heard_as_one = by (is_ignored L2cap sdu service) refl
      where
        by : (ignored : Bool) → is_ignored L2cap sdu service ≡ ignored → success_in (hears_packet L2cap sdu service at.gift).service.response ≤ success_in service.response + (stored + other_than_put sdu)
        by true is =
            let same : success_in (hears_packet L2cap sdu service at.gift).service.response ≡ success_in service.response = ap (λ (x : Served). success_in x.service.response) (cond-true (is_ignored L2cap sdu service) _ _ is) in
            omega (arith, same)
        by false is =
            let h = hears L2cap sdu service.sessions at.gift in
            let then : Service = record service { sessions = h.sessions; failed = service.failed || h.short } in
            let same : success_in (hears_packet L2cap sdu service at.gift).service.response ≡ success_in (response_over L2cap h.response then).response =
            ap (λ (x : Served). success_in x.service.response) (cond-false (is_ignored L2cap sdu service) _ _ is) in
            let over = over_counts h.response then in
            let few = reply is in
            omega (arith, same, over, few)

    pub came_counts : success_in (response_of (done (Came 0x1001 sdu) at).server) ≤ success_in (response_of at.server) + (stored + other_than_put sdu)
    came_counts =
        let same = ap (λ (r : Reacted). success_in (response_of r.server)) (unfailed settings before s.marks at (hears_on 0x1001 sdu at.server at.gift) s.holds) in
        let few = heard_as_one in
        omega (arith, same, few)

  -- ---- the channel ends

  pub record Quiet (one : Occurrence) : Type 0 where
    pub come : come_by one ≡ []
    pub gone : gone_by one ≡ []
    pub none : response_of (done one at).server ≡ []

  down_none : Stays settings before past at → response_of (done LinkDown at).server ≡ []
  down_none s =
      let first : Reacted = lets_go_on L2cap (unanswered at.server) at.gift in
      subst (λ (r : Reacted). response_of r.server ≡ []) (sym (unfailed settings before s.marks at _ s.holds))
      (cond_both first.server.listener.service.failed first (lets_go_on Rfcomm (remuxed (unreplied first.server)) first.gift) (λ (r : Reacted). response_of r.server ≡ []) (λ e. refl) (λ e. refl))

  closed_none : Stays settings before past at → response_of (done (Closed 0x1001) at).server ≡ []
  closed_none s = subst (λ (r : Reacted). response_of r.server ≡ []) (sym (unfailed settings before s.marks at (closed_on 0x1001 at.server at.gift) s.holds)) refl

  pub ends_quiet : (one : Occurrence) → Stays settings before past at → closes object_psm one ≡ true → Quiet one
  ends_quiet (Came psm sdu) s e = absurd (let f : false ≡ true = e in cc)
  ends_quiet (occurrences.Went psm sdu) s e = absurd (let f : false ≡ true = e in cc)
  ends_quiet (Closed psm) s e = subst (λ (p : ℕ). Quiet (Closed p)) (sym (eqb-true psm object_psm e)) (record { come = refl; gone = refl; none = closed_none s })
  ends_quiet LinkDown s e = record { come = refl; gone = refl; none = down_none s }
  ends_quiet Asked s e = absurd (let f : false ≡ true = e in cc)
  ends_quiet (Answering answers) s e = absurd (let f : false ≡ true = e in cc)

  -- ---- any occurrence

  -- what goes with it and what waits behind it says success no more often than what waited, what is stored and what else came
  abbrev pub Counts : (one : Occurrence) (s : Stays settings before past at) → ServesDirectly NoneShort at one → Type 0
  Counts one s serves =
      successes (gone_by one) + success_in (response_of (done one at).server) ≤ success_in (response_of at.server) + (now_stored one s serves + others (come_by one))

  no_success : success_in [] ≡ 0
  no_success = refl

  pub server_counts : (one : Occurrence) (s : Stays settings before past at) (serves : ServesDirectly NoneShort at one) → SayMarks settings s.marks at one → Counts one s serves
  server_counts one s serves said = by (kind_of one at serves.direct serves.own s.calm.no_frame)
    where
      came : (sdu : List ℕ) → one ≡ Came object_psm sdu → Counts one s serves
      came sdu is =
          subst (λ (x : Occurrence). (serves' : ServesDirectly NoneShort at x) → SayMarks settings s.marks at x → Counts x s serves') (sym is)
          (λ serves' said'. let few = came_counts sdu s serves' said' in omega (arith, few)) serves said

      by : Kind one at → Counts one s serves
      by (Apart a) = let gone = ap successes a.gone in let same = ap success_in a.response in omega (arith, gone, same)
      by (Comes sdu is) = came sdu is
      by (Went sdu g) =
          let gone : successes (gone_by one) ≡ successes (sdu ∷ []) = ap (λ (x : Occurrence). successes (gone_by x)) g.is in
          let said_is = ap success_in g.octets in
          let none = ap success_in g.none in
          let nothing = no_success in
          omega (arith, gone, said_is, none, nothing)
      by (Ends closing) =
          let q = ends_quiet one s closing in
          let gone = ap successes q.gone in
          let none = ap success_in q.none in
          let nothing = no_success in
          omega (arith, gone, none, nothing)
