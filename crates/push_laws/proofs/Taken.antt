-- Where calls of the inbox fail: the requests of a client that wants no single response mode are taken, push after push.
use Rattle.std.proofs.Common.{inl, inr, Bool, true, false, ◌≡◌, ◌==◌, ℕ, ◌≤◌, ◌&&◌, ◌||◌, List, [], ◌∷◌, ◌++◌, length, Option, None, refl, sym, ap, subst, ◌∙◌, arith, append-nil, append_assoc}
use Rattle.std.specs.Prelude.{not}
use Rattle.std.specs.List.{AllByRecursion, flat_map}
use Rattle.std.proofs.lemmas.Bool.{cases_Bool, cond_both, eqb-true}
use Rattle.link_talk.specs.bt_base.specs.declared.settings.Settings.{Settings}
use Rattle.link_talk.specs.bt_base.specs.declared.settings.Transport.{Transport}
use Rattle.link_talk.specs.bt_base.specs.declared.settings.Transport.TheVariants.{L2cap, Rfcomm}
use Rattle.link_talk.specs.bt_base.specs.Objects.{Object}
use Rattle.push_model.specs.obex_headers.specs.declared.packet.Phase.TheVariants as phase
use Rattle.push_model.specs.obex_headers.specs.Reading.{packet_in}
use Rattle.push_model.specs.rfcomm_frames.specs.FrameReading.{is_empty}
use Rattle.push_model.specs.obex_session.specs.Views.{is_silent}
use Rattle.push_model.specs.Client.{Client, own_maximum, with_object}
use Rattle.push_model.specs.Laws as deeds
use Rattle.push_model.specs.Laws.{Deed, Hears, Asks, Finishes, Cancels}
use Rattle.push_model.specs.Listening.{has_bad_length}
use Rattle.push_model.specs.Server.{Reacted, lets_go_on, remuxed, unreplied, unanswered, object_psm}
use Rattle.push_laws.specs.Laws.{new_over}
use Rattle.push_laws.specs.Occurrences.{Occurrence, Came, Went, Closed, LinkDown, Asked, Answering, done}
use Rattle.push_laws.specs.Parties.{Move, OfServer, OfClient, server_side, client_side, Pipes, no_pipes, sent_by, come_by, gone_by, pipes_after, StayPipes, Push, IsPushedByTurns, ended_with, over_pushes, ServesDirectly, AllServeDirectly, RequestsAreTaken}
use Rattle.push_laws.specs.Premises.{NoneShort, IsTaken, MayCome, AllMayFail, new_packets}
use Rattle.push_laws.specs.Readings.{closes, came_on}
use Rattle.push_laws.specs.Sending.{AllAnswer}
use Rattle.push_laws.proofs.Calm.{IsCalm, calm_more, is_orderly, none_direct, one_direct, none_muxed}
use Rattle.push_laws.proofs.Gaining.{unfailed}
use Rattle.push_laws.proofs.Missing.{Stays, no_frame_comes, stays_more, first_stays}
use Rattle.push_laws.proofs.Crossings as crossings
use Rattle.push_laws.proofs.Crossings.{response_of, IsApart, Kind, Apart, Comes, Ends, kind_of}
use Rattle.push_laws.proofs.Lending.{LendsWhole}
use Rattle.push_laws.proofs.OnObject.{AllOnObject, none_sent, same_psm, none_come, on_object}
use Rattle.push_laws.proofs.OneByOne.{Exchange, Idle, free_then, comes, goes, alike, IsPlain, deed_plain, deed_moves, waits_of}

-- ---- the server

abbrev IsFree : Reacted → Occurrence → Type 0
IsFree at one = (sdu : List ℕ) → one ≡ Came object_psm sdu → response_of at.server ≡ []

module _ (settings : Settings) (before : List Object) (past : List Occurrence) (at : Reacted) where
  abbrev AreTaken : Occurrence → Type 0
  AreTaken one = AllByRecursion (IsTaken settings past at.server.listener.service L2cap) (new_packets L2cap past one)

  none_ignored : (sdu response answer : List ℕ) → response ≡ [] → answer ≡ [] → ((not (is_empty response) || not (is_empty answer)) && not (is_silent at.server.listener.service.sessions.direct sdu)) ≡ false
  none_ignored sdu response answer r a = ap (λ (x : List ℕ). (not (is_empty x) || not (is_empty answer)) && not (is_silent at.server.listener.service.sessions.direct sdu)) r ∙ ap (λ (x : List ℕ). not (is_empty x) && not (is_silent at.server.listener.service.sessions.direct sdu)) a

  taken_of : (one : Occurrence) → Kind one at → IsCalm past at.server → IsFree at one → AreTaken one
  taken_of one (Apart a) c free = subst (AllByRecursion (IsTaken settings past at.server.listener.service L2cap)) (sym (none_direct past one a.none)) tt
  taken_of one (Comes sdu is) c free =
      subst AreTaken (sym is)
      (subst (AllByRecursion (IsTaken settings past at.server.listener.service L2cap)) (sym (one_direct past sdu))
      (record { taken = none_ignored sdu (response_of at.server) at.server.listener.service.answer (free sdu is) c.answer; alone = λ named. c.idle }, tt))
  taken_of one (crossings.Went sdu g) c free = subst AreTaken (sym g.is) (subst (AllByRecursion (IsTaken settings past at.server.listener.service L2cap)) (sym (none_direct past (Went object_psm sdu) refl)) tt)
  taken_of one (Ends closing) c free = subst (AllByRecursion (IsTaken settings past at.server.listener.service L2cap)) (sym (none_direct past one (none_ends one closing))) tt
    where
      none_ends : (one : Occurrence) → closes object_psm one ≡ true → came_on object_psm one ≡ None
      none_ends (Came psm sdu) e = absurd (let f : false ≡ true = e in cc)
      none_ends (Went psm sdu) e = refl
      none_ends (Closed psm) e = refl
      none_ends LinkDown e = refl
      none_ends Asked e = refl
      none_ends (Answering answers) e = refl

  may_take : (one : Occurrence) → Stays settings before past at → ServesDirectly NoneShort at one → IsFree at one → MayCome NoneShort (IsTaken settings past at.server.listener.service) settings past at one
  may_take one s serves free =
      let later = calm_more past one at serves.direct serves.own s.calm in
      let new : new_packets Rfcomm past one ≡ [] = none_muxed past one later.quiet in
      record {
        own = serves.own;
        answers = serves.answers;
        requests = record {
          single = subst (λ (ps : List (List ℕ)). length ps ≤ 1) (sym new) (omega arith);
          heard = λ transport. heard_over new transport;
          lengths = subst (AllByRecursion (λ packet. has_bad_length (packet_in phase.Request (own_maximum Rfcomm settings) packet) ≡ false)) (sym new) tt;
        };
        frame = λ sdu is. absurd (no_frame_comes settings before past at one sdu serves.direct is);
        orderly = is_orderly (done one at).server.mux later.fresh;
      }
    where
      heard_over : new_packets Rfcomm past one ≡ [] → (transport : Transport) → AllByRecursion (IsTaken settings past at.server.listener.service transport) (new_packets transport past one)
      heard_over new L2cap = taken_of one (kind_of one at serves.direct serves.own s.calm.no_frame) s.calm free
      heard_over new Rfcomm = subst (AllByRecursion (IsTaken settings past at.server.listener.service Rfcomm)) (sym new) tt

-- ---- an occurrence

abbrev After : Pipes → Occurrence → Pipes
After pipes one = record pipes { requests_come = pipes.requests_come ++ come_by one; responses_sent = pipes.responses_sent ++ gone_by one; closed = pipes.closed || closes object_psm one }

abbrev IsFront : Pipes → Occurrence → Type 0
IsFront pipes one = (behind : List (List ℕ)) × (pipes.requests_sent ≡ (After pipes one).requests_come ++ behind)

occurs : (waits : Bool) (pipes : Pipes) (one : Occurrence) (at : Reacted) → Kind one at → LendsWhole at.server → closes object_psm one ≡ false → IsFront pipes one → Exchange waits pipes (response_of at.server) → Exchange waits (After pipes one) (response_of (done one at).server)
occurs waits pipes one at (Apart a) whole on front x =
    alike waits pipes (response_of at.server) (After pipes one) (response_of (done one at).server) refl (ap (λ (ps : List (List ℕ)). pipes.requests_come ++ ps) a.come ∙ append-nil pipes.requests_come)
    (ap (λ (ps : List (List ℕ)). pipes.responses_sent ++ ps) a.gone ∙ append-nil pipes.responses_sent) refl a.response x
occurs waits pipes one at (Comes sdu is) whole on front x =
    subst (λ (o : Occurrence). Exchange waits (After pipes o) (response_of (done o at).server)) (sym is)
    (let f = subst (IsFront pipes) is front in comes waits pipes (response_of at.server) sdu (response_of (done (Came 0x1001 sdu) at).server) f.0 (pipes.closed || false) f.1 x)
occurs waits pipes one at (crossings.Went sdu g) whole on front x =
    subst (λ (o : Occurrence). Exchange waits (After pipes o) (response_of (done o at).server)) (sym g.is)
    (subst (λ (r : List ℕ). Exchange waits (After pipes (Went 0x1001 sdu)) r) (sym (subst (λ (o : Occurrence). response_of (done o at).server ≡ []) g.is g.none)) (goes waits pipes (response_of at.server) sdu (pipes.closed || false) (whole g.lent) x))
occurs waits pipes one at (Ends closing) whole on front x = absurd (let f : true ≡ false = sym closing ∙ on in cc)

free_at : (waits closed : Bool) (pipes : Pipes) (at : Reacted) (one : Occurrence) → pipes.closed ≡ closed → (closed ≡ true → come_by one ≡ []) → IsFront pipes one → (pipes.closed ≡ false → Exchange waits pipes (response_of at.server)) → IsFree at one
free_at waits true pipes at one is none front x sdu came = absurd (no_sdu (sym (ap come_by came) ∙ none refl))
  where
    no_sdu : sdu ∷ [] ≡ [] → ⊥
    no_sdu e = cc
free_at waits false pipes at one is none front x sdu came = let f = subst (IsFront pipes) came front in free_then waits pipes (response_of at.server) sdu f.0 f.1 (x is)

neither : (a b : Bool) → (a || b) ≡ false → (a ≡ false) × (b ≡ false)
neither true b e = absurd (let f : true ≡ false = e in cc)
neither false b e = (refl, e)

-- ---- a push, on a link of its own

module _ (settings : Settings) (before : List Object) (rest : List Occurrence) where
  abbrev GoesOn : Type 0
  GoesOn = (past : List Occurrence) (at : Reacted) → Stays settings before past at → AllServeDirectly NoneShort at rest → AllMayFail settings past at rest

  record Both (past : List Occurrence) (at : Reacted) (client : Client) (pipes : Pipes) : Type 0 where
    serving : Stays settings before past at
    plain : IsPlain client
    exchange : pipes.closed ≡ false → Exchange (waits_of client) pipes (response_of at.server)

  both_taken : (content : Option (List Object)) (moves : List Move) (past : List Occurrence) (at : Reacted) (client : Client) (pipes : Pipes) → AllAnswer content (client_side moves) client → AllOnObject moves client → StayPipes moves client pipes
      → AllServeDirectly NoneShort at (server_side moves ++ rest) → GoesOn → Both past at client pipes → AllMayFail settings past at (server_side moves ++ rest)
  both_taken content [] past at client pipes answers here carried serve on b = on past at b.serving serve
  both_taken content (OfServer one ∷ moves) past at client pipes answers here carried serve on b =
      let free = free_at (waits_of client) pipes.closed pipes at one refl (λ e. carried.1 e) carried.0.requests b.exchange in (
        may_take settings before past at one b.serving serve.0 free,
        both_taken content moves (past ++ one ∷ []) (done one at) client (pipes_after (OfServer one) client pipes) answers here carried.2 serve.1 on
            (record {
              serving = stays_more settings before past at one b.serving serve.0;
              plain = b.plain;
              exchange = λ opened.
                  let both = neither pipes.closed (closes object_psm one) opened in
                  occurs (waits_of client) pipes one at (kind_of one at serve.0.direct serve.0.own b.serving.calm.no_frame) b.serving.whole both.1 carried.0.requests (b.exchange both.0);
            }),
      )
  both_taken content (OfClient deed ∷ moves) past at client pipes answers here carried serve on b =
      both_taken content moves past at (deeds.done deed client) (pipes_after (OfClient deed) client pipes) answers.1 here.1 carried.2 serve on
      (record {
        serving = b.serving;
        plain = deed_plain content deed client answers.0 b.plain;
        exchange = λ opened. deed_moves pipes (response_of at.server) content deed client b.plain here.0 answers.0 carried.0.responses (b.exchange opened);
      })

  away_free : (pipes : Pipes) (at : Reacted) (one : Occurrence) → pipes.requests_sent ≡ [] → IsFront pipes one → IsFree at one
  away_free pipes at one none front sdu came = let f = subst (IsFront pipes) came front in absurd (none_come pipes.requests_sent pipes.requests_come sdu f.0 none f.1)

  away_taken : (moves : List Move) (past : List Occurrence) (at : Reacted) (client : Client) (pipes : Pipes) → ((deeds.all_done (client_side moves) client).psm == object_psm) ≡ false → pipes.requests_sent ≡ [] → StayPipes moves client pipes
      → AllServeDirectly NoneShort at (server_side moves ++ rest) → GoesOn → Stays settings before past at → AllMayFail settings past at (server_side moves ++ rest)
  away_taken [] past at client pipes away none carried serve on s = on past at s serve
  away_taken (OfServer one ∷ moves) past at client pipes away none carried serve on s =
      let free = away_free pipes at one none carried.0.requests in (
        may_take settings before past at one s serve.0 free,
        away_taken moves (past ++ one ∷ []) (done one at) client (pipes_after (OfServer one) client pipes) away none carried.2 serve.1 on (stays_more settings before past at one s serve.0),
      )
  away_taken (OfClient deed ∷ moves) past at client pipes away none carried serve on s =
      away_taken moves past at (deeds.done deed client) (pipes_after (OfClient deed) client pipes) away
      (ap (λ (ps : List (List ℕ)). ps ++ sent_by deed client) none ∙ none_sent deed client (λ works. ap (λ (n : ℕ). n == object_psm) (sym (same_psm (deed ∷ client_side moves) client works)) ∙ away)) carried.2 serve on s

  push_taken : (push : Push) → IsPushedByTurns push → (past : List Occurrence) (at : Reacted) → response_of at.server ≡ [] → AllServeDirectly NoneShort at (server_side push.moves ++ rest) → GoesOn → Stays settings before past at → AllMayFail settings past at (server_side push.moves ++ rest)
  push_taken push answered past at empty serve on s =
      let begun : Client = with_object push.name push.size push.client in
      elim (cases_Bool ((deeds.all_done (client_side push.moves) begun).psm == object_psm)) [
        | inl here ↦
            both_taken push.content push.moves past at begun no_pipes answered.answers (on_object push.moves begun (eqb-true (deeds.all_done (client_side push.moves) begun).psm object_psm here)) answered.carried serve on
            (record { serving = s; plain = (answered.direct, answered.plain, refl); exchange = λ opened. Idle refl refl empty })
        | inr away ↦ away_taken push.moves past at begun no_pipes away refl answered.carried serve on s
      ]

-- ---- push after push

no_came : (sdu : List ℕ) → LinkDown ≡ Came object_psm sdu → ⊥
no_came sdu e = cc

module _ (settings : Settings) (before : List Object) where
  down_empty : (past : List Occurrence) (at : Reacted) → Stays settings before past at → response_of (done LinkDown at).server ≡ []
  down_empty past at s =
      let first : Reacted = lets_go_on L2cap (unanswered at.server) at.gift in
      subst (λ (r : Reacted). response_of r.server ≡ []) (sym (unfailed settings before s.marks at _ s.holds))
      (cond_both first.server.listener.service.failed first (lets_go_on Rfcomm (remuxed (unreplied first.server)) first.gift) (λ (r : Reacted). response_of r.server ≡ []) (λ e. refl) (λ e. refl))

  linked : (pushes : List Push) (last : Push) (past : List Occurrence) (at : Reacted) → response_of at.server ≡ [] → AllByRecursion IsPushedByTurns pushes → IsPushedByTurns last → Stays settings before past at → AllServeDirectly NoneShort at (over_pushes pushes last)
      → AllMayFail settings past at (over_pushes pushes last)
  linked [] last past at empty answered over s serve =
      let same = append-nil (server_side last.moves) in
      subst (AllMayFail settings past at) same (push_taken settings before [] last over past at empty (subst (AllServeDirectly NoneShort at) (sym same) serve) (λ past' at' s' serve'. tt) s)
  linked (push ∷ pushes) last past at empty answered over s serve =
      let others : List Occurrence = over_pushes pushes last in
      let same : server_side push.moves ++ LinkDown ∷ others ≡ over_pushes (push ∷ pushes) last =
      sym (ap (λ (os : List Occurrence). os ++ server_side last.moves) (append_assoc (server_side push.moves) (LinkDown ∷ []) (flat_map ended_with pushes))
      ∙ append_assoc (server_side push.moves) (LinkDown ∷ flat_map ended_with pushes) (server_side last.moves)) in
      subst (AllMayFail settings past at) same
      (push_taken settings before (LinkDown ∷ others) push answered.0 past at empty (subst (AllServeDirectly NoneShort at) (sym same) serve)
      (λ past' at' s' serve'. (
        may_take settings before past' at' LinkDown s' serve'.0 (λ sdu is. absurd (no_came sdu is)),
        linked pushes last (past' ++ LinkDown ∷ []) (done LinkDown at') (down_empty past' at' s') answered.1 over (stays_more settings before past' at' LinkDown s' serve'.0) serve'.1,
      )) s)

pub requests-are_taken : RequestsAreTaken
requests-are_taken settings before pushes last answered over serve =
    linked settings before pushes last [] (new_over settings before) refl answered over
    (first_stays settings before) serve
