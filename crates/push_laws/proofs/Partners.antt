-- A client and its server on one link: each move leaves both as they are to be.
use Rattle.std.proofs.Common.{Bool, true, false, ◌≡◌, ℕ, ◌&&◌, ◌||◌, List, [], ◌∷◌, ◌++◌, refl, sym, ap, subst, ◌∙◌, append-nil}
use Rattle.std.specs.Prelude.{not}
use Rattle.link_talk.specs.bt_base.specs.declared.settings.Settings.{Settings}
use Rattle.link_talk.specs.bt_base.specs.Objects.{Object}
use Rattle.push_model.specs.obex_session.specs.Asking.{Asking}
use Rattle.push_model.specs.obex_session.specs.Past.{Serving}
use Rattle.push_model.specs.declared.course.Contact.{Contact}
use Rattle.push_model.specs.Server.{Server, Reacted, hears_on, object_psm}
use Rattle.std.proofs.lemmas.Bool.{cond-false}
use Rattle.push_laws.specs.Occurrences.{Occurrence, Came, Went, Closed, LinkDown, Asked, Answering, done, IsOwn}
use Rattle.push_laws.specs.Premises.{AllGranted}
use Rattle.push_laws.specs.Parties.{Pipes, come_by, gone_by, NoFrame, ServesDirectly}
use Rattle.push_laws.specs.Readings.{closes}
use Rattle.push_laws.specs.Turns.{serving, in_silence, due_behind, InTurn, TakesTurn}
use Rattle.push_laws.proofs.Gaining.{Clear, clear_more}
use Rattle.push_laws.proofs.Crossings as crossings
use Rattle.push_laws.proofs.Crossings.{response_of, IsApart, Kind, Apart, Comes, Ends, kind_of}
use Rattle.push_laws.proofs.Lending.{LendsWhole, whole_more}
use Rattle.push_laws.proofs.Turns as turns
use Rattle.push_laws.proofs.Turns.{Still, IsGranted, Grants, grants, same_session, serving_more, response_now, still_more, may_come}
use Rattle.push_laws.proofs.Ways.{Way, due_none, came_way, went_way, same_way}

-- ---- a server that is as the laws of turns have it

-- the calls of its inbox were granted, and will be
pub record Served (settings : Settings) (before : List Object) (past : List Occurrence) (due : Bool) (at : Reacted) : Type 0 where
  pub clear : Clear settings before past at
  pub still : turns.Stands settings past due at.server
  pub whole : LendsWhole at.server

pub served_more : (settings : Settings) (before : List Object) (past : List Occurrence) (due : Bool) (at : Reacted) (one : Occurrence) → Served settings before past due at → ServesDirectly AllGranted at one → InTurn settings past due one
    → Served settings before (past ++ one ∷ []) (due_behind settings past due one) (done one at)
served_more settings before past due at one s serves turn =
    let takes : TakesTurn settings past due at one = record { own = serves.own; granted = serves.answers; turn = turn } in
    let later = still_more settings before past one due at s.clear.holds.upholds.listens.serves.enough (grants one at s.clear.spared) serves.own turn s.still in
    let may = may_come settings before past one due at s.clear takes s.still later in
    record { clear = clear_more settings before past one at s.clear may; still = later; whole = whole_more one at serves.direct s.whole }

-- ---- an occurrence

module _ (settings : Settings) (before : List Object) (past : List Occurrence) (contact : Contact) (session : Asking) (pipes : Pipes) where
  abbrev After : Occurrence → Pipes
  After one = record pipes { requests_come = pipes.requests_come ++ come_by one; responses_sent = pipes.responses_sent ++ gone_by one; closed = pipes.closed || closes object_psm one }

  abbrev WayBehind : Bool → Occurrence → Server → Type 0
  WayBehind due one server = Way contact session (serving settings (past ++ one ∷ [])) (After one) (due_behind settings past due one) (response_of server)

  -- one that is none of the channel's
  apart : (one : Occurrence) (due : Bool) (at : Reacted) → IsApart one at → Way contact session (serving settings past) pipes due (response_of at.server) → WayBehind due one (done one at).server
  apart one due at a way =
      subst (λ (s : Serving). Way contact session s (After one) (due_behind settings past due one) (response_of (done one at).server)) (same_session settings before past one a.stays a.none)
      (same_way contact session pipes (After one) (serving settings past) due (due_behind settings past due one) (response_of at.server) (response_of (done one at).server) refl
      (ap (λ (ps : List (List ℕ)). pipes.requests_come ++ ps) a.come ∙ append-nil pipes.requests_come) (ap (λ (ps : List (List ℕ)). pipes.responses_sent ++ ps) a.gone ∙ append-nil pipes.responses_sent) refl (a.due settings past due) a.response way)

  came_behind : (due : Bool) (sdu : List ℕ) (at : Reacted) → turns.Stands settings past due at.server → at.server.listener.service.failed ≡ false → IsGranted at sdu → Way contact session (serving settings past) pipes due (response_of at.server)
      → ((behind : List (List ℕ)) × (pipes.requests_sent ≡ (After (Came 0x1001 sdu)).requests_come ++ behind)) → WayBehind due (Came 0x1001 sdu) (done (Came 0x1001 sdu) at).server
  came_behind due sdu at still sound granted way front =
      let server : Serving = serving settings past in
      let free = due_none contact session pipes server due (response_of at.server) sdu front.0 front.1 way in
      let now = response_now settings before past due sdu at still granted (ap (λ (d : Bool). d && not (in_silence settings past sdu)) free) in
      subst (λ (r : Reacted). WayBehind due (Came 0x1001 sdu) r.server) (sym (cond-false _ _ (hears_on 0x1001 sdu at.server at.gift) sound))
      (subst (λ (x : Serving). Way contact session x (After (Came 0x1001 sdu)) (due || not (in_silence settings past sdu)) (response_of (hears_on 0x1001 sdu at.server at.gift).server)) (sym (serving_more settings before past sdu))
      (came_way contact session pipes server due (response_of at.server) (response_of (hears_on 0x1001 sdu at.server at.gift).server) sdu front.0 (pipes.closed || false) front.1 still.free now way))

  went_behind : (due : Bool) (sdu : List ℕ) (at : Reacted) → sdu ≡ response_of at.server → (response_of at.server ≡ [] → ⊥) → (due ≡ false → response_of at.server ≡ []) → response_of (done (Went 0x1001 sdu) at).server ≡ []
      → Way contact session (serving settings past) pipes due (response_of at.server) → WayBehind due (Went 0x1001 sdu) (done (Went 0x1001 sdu) at).server
  went_behind due sdu at octets some free none way =
      subst (λ (r : List ℕ). Way contact session (serving settings (past ++ Went 0x1001 sdu ∷ [])) (After (Went 0x1001 sdu)) false r) (sym none)
      (subst (λ (x : Serving). Way contact session x (After (Went 0x1001 sdu)) false []) (same_session settings before past (Went 0x1001 sdu) refl refl)
      (went_way contact session pipes (serving settings past) due (response_of at.server) sdu (pipes.closed || false) octets some free way))

  pub way_behind : (one : Occurrence) (due : Bool) (at : Reacted) → turns.Stands settings past due at.server → LendsWhole at.server → at.server.listener.service.failed ≡ false → Grants one at → NoFrame one → IsOwn one at.server → closes object_psm one ≡ false → ((behind : List (List ℕ)) × (pipes.requests_sent ≡ (After one).requests_come ++ behind))
      → Way contact session (serving settings past) pipes due (response_of at.server) → WayBehind due one (done one at).server
  way_behind one due at still whole sound granted direct own on front way = by (kind_of one at direct own still.calm.no_frame)
    where
      by : Kind one at → WayBehind due one (done one at).server
      by (Apart a) = apart one due at a way
      by (Comes sdu is) =
          subst (λ (x : Occurrence). WayBehind due x (done x at).server) (sym is)
          (came_behind due sdu at still sound ((subst (λ (x : Occurrence). Grants x at) is granted) refl) way (subst (λ (x : Occurrence). (behind : List (List ℕ)) × (pipes.requests_sent ≡ (After x).requests_come ++ behind)) is front))
      by (crossings.Went sdu g) =
          subst (λ (x : Occurrence). WayBehind due x (done x at).server) (sym g.is)
          (went_behind due sdu at g.octets (whole g.lent) still.free (subst (λ (x : Occurrence). response_of (done x at).server ≡ []) g.is g.none) way)
      by (Ends closing) = absurd (let f : true ≡ false = sym closing ∙ on in cc)

  -- each request comes when no response is due
  due_at : (due closed : Bool) (psm : ℕ) (sdu : List ℕ) (server : Server) → psm ≡ object_psm → pipes.closed ≡ closed → (closed ≡ true → come_by (Came psm sdu) ≡ []) → ((behind : List (List ℕ)) × (pipes.requests_sent ≡ (After (Came psm sdu)).requests_come ++ behind))
      → (pipes.closed ≡ false → Way contact session (serving settings past) pipes due (response_of server)) → due ≡ false
  due_at due true psm sdu server here is opened front way = absurd (no_sdu (sym (ap (λ (n : ℕ). come_by (Came n sdu)) here) ∙ opened refl))
    where
      no_sdu : sdu ∷ [] ≡ [] → ⊥
      no_sdu e = cc
  due_at due false psm sdu server here is opened front way =
      due_none contact session pipes (serving settings past) due (response_of server) sdu front.0 (front.1 ∙ ap (λ (n : ℕ). (pipes.requests_come ++ come_by (Came n sdu)) ++ front.0) here) (way is)

  pub in_turn : (one : Occurrence) (due : Bool) (at : Reacted) → NoFrame one → (pipes.closed ≡ true → come_by one ≡ []) → ((behind : List (List ℕ)) × (pipes.requests_sent ≡ (After one).requests_come ++ behind))
      → (pipes.closed ≡ false → Way contact session (serving settings past) pipes due (response_of at.server)) → InTurn settings past due one
  in_turn (Came psm sdu) due at direct opened front way = (
    direct,
    λ here. ap (λ (d : Bool). d && not (in_silence settings past sdu)) (due_at due pipes.closed psm sdu at.server here refl (λ e. opened e) front way),
  )
  in_turn (Went psm sdu) due at direct opened front way = tt
  in_turn (Closed psm) due at direct opened front way = tt
  in_turn LinkDown due at direct opened front way = tt
  in_turn Asked due at direct opened front way = tt
  in_turn (Answering answers) due at direct opened front way = tt
