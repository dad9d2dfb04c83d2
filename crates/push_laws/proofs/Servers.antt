-- A server behind what comes on its channels, goes on them and closes them.
use Rattle.std.proofs.Common.{inl, inr, Bool, true, false, cond, eqb, ◌&&◌, ◌≡◌, ℕ, List, ◌++◌, length, Option, Some, None, refl, sym, subst}
use Rattle.std.specs.Prelude.{not}
use Rattle.std.proofs.lemmas.Bool.{cases_Bool, cond_both, eqb-true, and_parts}
use Rattle.link_talk.specs.bt_base.specs.declared.settings.Transport.{Transport}
use Rattle.link_talk.specs.bt_base.specs.Objects.{Object}
use Rattle.push_model.specs.rfcomm_frames.specs.FrameReading.{is_empty}
use Rattle.push_model.specs.rfcomm_frames.specs.Frames.{PlainFrame}
use Rattle.push_model.specs.rfcomm_frames.specs.Multiplexing.{Passed}
use Rattle.push_model.specs.rfcomm_model.specs.Machine.{is_ready, leaves}
use Rattle.push_model.specs.rfcomm_model.specs.Hearing.{Up, nothing, opened, bytes, closed}
use Rattle.push_model.specs.rfcomm_model.specs.Saying.{Said, next}
use Rattle.push_model.specs.obex_session.specs.InboxCalls.{Answer}
use Rattle.push_model.specs.obex_session.specs.Past.{Heard}
use Rattle.push_laws.specs.Premises.{NoneShort}
use Rattle.push_model.specs.declared.outlet.Outlet.{Outlet}
use Rattle.push_model.specs.Sessions.{Gift}
use Rattle.push_model.specs.Listening.{Received, hears_stream}
use Rattle.push_model.specs.Server.{Server, Reacted, received_by, hears_octets, hears_up, filled, said_on, breaks_now, left_by, leaves_with, framed_by, framed, outlet_of, lends_new, lends_by, lends}
use Rattle.push_laws.proofs.Listening.{Listens, hears_more}
use Rattle.push_laws.proofs.Frames.{Carries, mux_said, frame_said, carries_says, carries_sends, carries_leaves}

-- ---- a server stands for what it heard, and for the SDUs that passed

pub record Upholds (most : Transport → ℕ) (largest cap : ℕ) (direct carried : List Heard) (passed : List Passed) (got : List ℕ) (stored : List Object) (server : Server) (gift : Gift) : Type 0 where
  pub listens : Listens most direct carried got stored server.listener server.held gift
  pub carries : Carries largest cap passed got server.mux server.frame

-- the same, while none of its frames waits
record IsFree (most : Transport → ℕ) (largest cap : ℕ) (direct carried : List Heard) (passed : List Passed) (got : List ℕ) (stored : List Object) (server : Server) (gift : Gift) : Type 0 where
  listens : Listens most direct carried got stored server.listener server.held gift
  carries : Carries largest cap passed got server.mux None

module _ (most : Transport → ℕ) (largest cap : ℕ) (direct carried : List Heard) (passed : List Passed) (got : List ℕ) (stored : List Object) where
  -- ---- what it sends next

  filled_frees : (server : Server) (gift : Gift) → IsFree most largest cap direct carried passed got stored server gift → IsFree most largest cap direct carried passed got stored (filled server) gift
  filled_frees server gift u =
      let answer : List ℕ = server.listener.service.answer in
      cond_both (is_ready server.mux && not (is_empty answer)) _ _ (λ (s : Server). IsFree most largest cap direct carried passed got stored s gift)
      (λ ready. record {
        listens = record { tail = u.listens.tail; serves = u.listens.serves; packets = u.listens.packets; cut = u.listens.cut };
        carries = carries_sends largest cap passed got server.mux None answer (and_parts (is_ready server.mux) _ ready).0 u.carries;
      })
      (λ busy. u)

  said_upholds : (o : Option Said) (server : Server) (gift : Gift) → Listens most direct carried got stored server.listener server.held gift → Carries largest cap passed got (mux_said o server.mux) (frame_said o)
      → Upholds most largest cap direct carried passed got stored (said_on o server) gift
  said_upholds None server gift l c = record { listens = l; carries = c }
  said_upholds (Some said) server gift l c = record { listens = l; carries = c }

  left_upholds : (server : Server) (gift : Gift) → IsFree most largest cap direct carried passed got stored server gift → Upholds most largest cap direct carried passed got stored (left_by server) gift
  left_upholds server gift u =
      said_upholds (next (leaves server.mux)) (record server { mux = leaves server.mux }) gift u.listens
      (carries_says largest cap passed got (leaves server.mux) (next (leaves server.mux)) refl (carries_leaves largest cap passed got server.mux None u.carries))

  leaves_upholds : (o : Option Said) (server : Server) (gift : Gift) → next server.mux ≡ o → IsFree most largest cap direct carried passed got stored server gift → Upholds most largest cap direct carried passed got stored (leaves_with o server) gift
  leaves_upholds None server gift e u =
      let quiet : Server = said_on None server in
      cond_both (breaks_now quiet) (left_by quiet) quiet (λ (s : Server). Upholds most largest cap direct carried passed got stored s gift)
      (λ now. left_upholds quiet gift (record { listens = u.listens; carries = u.carries }))
      (λ later. record { listens = u.listens; carries = u.carries })
  leaves_upholds (Some said) server gift e u = said_upholds (Some said) server gift u.listens (carries_says largest cap passed got server.mux (Some said) e u.carries)

  framed_upholds : (o : Option PlainFrame) (server : Server) (gift : Gift) → server.frame ≡ o → Upholds most largest cap direct carried passed got stored server gift → Upholds most largest cap direct carried passed got stored (framed_by o server) gift
  framed_upholds None server gift e u =
      leaves_upholds (next (filled server).mux) (filled server) gift refl
      (filled_frees server gift (record { listens = u.listens; carries = subst (λ (o : Option PlainFrame). Carries largest cap passed got server.mux o) e u.carries }))
  framed_upholds (Some frame) server gift e u = u

  new_upholds : (server : Server) (gift : Gift) → Upholds most largest cap direct carried passed got stored server gift → Upholds most largest cap direct carried passed got stored (lends_new server) gift
  new_upholds server gift u =
      let full : Server = framed server in
      let v = framed_upholds server.frame server gift refl u in
      cond_both (is_empty server.reply && is_empty server.listener.service.response) (record full { lent = outlet_of full }) (record server { lent = outlet_of server }) (λ (s : Server). Upholds most largest cap direct carried passed got stored s gift)
      (λ none. record { listens = v.listens; carries = v.carries })
      (λ some. record { listens = u.listens; carries = u.carries })

  lends_upholds : (o : Option Outlet) (server : Server) (gift : Gift) → Upholds most largest cap direct carried passed got stored server gift → Upholds most largest cap direct carried passed got stored (lends_by o server) gift
  lends_upholds None server gift u = new_upholds server gift u
  lends_upholds (Some outlet) server gift u = u

  pub asked_upholds : (server : Server) (gift : Gift) → Upholds most largest cap direct carried passed got stored server gift → Upholds most largest cap direct carried passed got stored (lends server) gift
  asked_upholds server gift u = lends_upholds server.lent server gift u

  -- ---- the inbox is to answer so

  pub answers_uphold : (server : Server) (gift : Gift) (answers : List Answer) → NoneShort answers → Upholds most largest cap direct carried passed got stored server gift
      → Upholds most largest cap direct carried passed got stored server (record gift { answers = answers })
  answers_uphold server gift answers all u = record {
    listens = record {
      tail = u.listens.tail;
      serves = record { stands = u.listens.serves.stands; none_short = all; enough = u.listens.serves.enough };
      packets = u.listens.packets;
      cut = u.listens.cut;
    };
    carries = u.carries;
  }

  -- ---- octets over RFCOMM

  octets_by : (breaks : Bool) (server : Server) (gift : Gift) (r : Received) (given : Received) → given ≡ cond breaks (record { listener = server.listener; held = server.held; gift = gift }) r → Listens most direct carried got stored given.listener given.held given.gift
      → Carries largest cap passed got server.mux server.frame
      → let reacted = cond breaks (record { server = server; gift = gift }) (received_by server r) in Upholds most largest cap direct carried passed got stored reacted.server reacted.gift
  octets_by true server gift r given is l c = let m = subst (λ (x : Received). Listens most direct carried got stored x.listener x.held x.gift) is l in record { listens = m; carries = c }
  octets_by false server gift r given is l c = let m = subst (λ (x : Received). Listens most direct carried got stored x.listener x.held x.gift) is l in record { listens = m; carries = c }

  pub octets_uphold : (octets : List ℕ) (server : Server) (gift : Gift) → Listens most direct carried got stored (hears_more octets server.listener server.held gift).listener (hears_more octets server.listener server.held gift).held (hears_more octets server.listener server.held gift).gift
      → Carries largest cap passed got server.mux server.frame → Upholds most largest cap direct carried passed got stored (hears_octets octets server gift).server (hears_octets octets server gift).gift
  octets_uphold octets server gift l c =
      octets_by server.listener.breaks server gift (hears_stream (length (server.held ++ octets)) (server.held ++ octets) server.listener gift) (hears_more octets server.listener server.held gift) refl l c

octets_give_by : (breaks : Bool) (server : Server) (gift : Gift) (r : Received) → (cond breaks (let x : Reacted = record { server = server; gift = gift } in x) (received_by server r)).gift ≡ (cond breaks (record { listener = server.listener; held = server.held; gift = gift }) r).gift
octets_give_by true server gift r = refl
octets_give_by false server gift r = refl

pub octets_give : (octets : List ℕ) (server : Server) (gift : Gift) → (hears_octets octets server gift).gift ≡ (hears_more octets server.listener server.held gift).gift
octets_give octets server gift = octets_give_by server.listener.breaks server gift (hears_stream (length (server.held ++ octets)) (server.held ++ octets) server.listener gift)

-- ---- which PSM it is

pub by_psm : (P : ℕ → Type 0) → P 0x0001 → P 0x0003 → P 0x1001 → ((psm : ℕ) → eqb psm 0x0001 ≡ false → eqb psm 0x0003 ≡ false → eqb psm 0x1001 ≡ false → P psm) → (psm : ℕ) → P psm
by_psm P one three object other psm =
    elim (cases_Bool (eqb psm 0x0001)) [
      | inl e ↦ subst P (sym (eqb-true psm 0x0001 e)) one
      | inr a ↦ elim (cases_Bool (eqb psm 0x0003)) [
        | inl e ↦ subst P (sym (eqb-true psm 0x0003 e)) three
        | inr b ↦ elim (cases_Bool (eqb psm 0x1001)) [ inl e ↦ subst P (sym (eqb-true psm 0x1001 e)) object | inr c ↦ other psm a b c ]
      ]
    ]

-- ---- what comes up leaves the multiplexer as it is

octets_keep_by : (breaks : Bool) (server : Server) (gift : Gift) (r : Received) → (cond breaks (record { server = server; gift = gift }) (received_by server r)).server.mux ≡ server.mux
octets_keep_by true server gift r = refl
octets_keep_by false server gift r = refl

pub up_keeps : (u : Up) (server : Server) (gift : Gift) → (hears_up u server gift).server.mux ≡ server.mux
up_keeps nothing server gift = refl
up_keeps opened server gift = refl
up_keeps (bytes octets) server gift = octets_keep_by server.listener.breaks server gift (hears_stream (length (server.held ++ octets)) (server.held ++ octets) server.listener gift)
up_keeps (closed reason) server gift = refl
