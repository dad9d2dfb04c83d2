-- A frame of the peer leaves the connections of a side as near to those that the frames say as they were.
use Rattle.std.proofs.Common.{◌≡◌, ◌≤◌, ◌⊎◌, inl, inr, ℕ, ◌==◌, Bool, true, false, ◌&&◌, ◌||◌, cond, List, [], ◌∷◌, Some, None, refl, sym, ap, subst, ◌∙◌}
use Rattle.std.specs.Prelude.{not}
use Rattle.inbox_laws.specs.rfcomm_frames.specs.declared.frame.MuxKind.{MuxKind}
use Rattle.inbox_laws.specs.rfcomm_frames.specs.declared.frame.MuxKind.TheVariants.{Sabm, Ua, Dm, Disc, Uih}
use Rattle.inbox_laws.specs.rfcomm_frames.specs.declared.connection.Role.{Role}
use Rattle.inbox_laws.specs.rfcomm_frames.specs.declared.connection.Role.TheVariants.{Initiator, Responder}
use Rattle.inbox_laws.specs.rfcomm_frames.specs.declared.connection.Dlc.{Dlc}
use Rattle.inbox_laws.specs.rfcomm_frames.specs.declared.connection.Dlc.TheVariants.{Idle, Asked, Open, Ended}
use Rattle.inbox_laws.specs.rfcomm_frames.specs.Frames.{PlainFrame}
use Rattle.inbox_laws.specs.rfcomm_frames.specs.Connections.{other_role, asked, turned, is_ended, is_left}
use Rattle.inbox_laws.specs.rfcomm_frames.specs.Multiplexing.{Connections}
use Rattle.inbox_laws.specs.rfcomm_model.specs.declared.state.MuxReason.{MuxReason}
use Rattle.inbox_laws.specs.rfcomm_model.specs.declared.state.MuxReason.TheVariants as reasons
use Rattle.inbox_laws.specs.rfcomm_model.specs.declared.state.Command.TheVariants.{OpenControl, Agree, OpenUser, Signal, LeaveUser, LeaveControl}
use Rattle.inbox_laws.specs.rfcomm_model.specs.declared.state.Asks.{Asks}
use Rattle.inbox_laws.specs.rfcomm_model.specs.declared.state.Asks.TheVariants.{Nothing, Due, Awaited}
use Rattle.inbox_laws.specs.rfcomm_model.specs.Machine.{Mux, closes}
use Rattle.inbox_laws.specs.rfcomm_model.specs.Written.{response_frame}
use Rattle.inbox_laws.specs.rfcomm_model.specs.Hearing.{has_room, answering, says_dm, hears_disc, control_answered, control_refused, user_refused, ends}
use Rattle.inbox_laws.specs.rfcomm_model.proofs.Closing.{keep_cond}
use Rattle.inbox_laws.specs.rfcomm_model.proofs.Stepping.{all_more}
use Rattle.credit_laws.proofs.Granting.{is_idle, agrees, IsAwaited, AllAwaited}

-- ---- a connection, as it is held and as it is read

-- A responder that had no room to agree holds it as it was, while the frames say that it is asked for.
abbrev pub Near : Role → (held read : Dlc) → Type 0
Near role held read = (read ≡ held) ⊎ ((role ≡ Responder) × (held ≡ Idle) × (read ≡ Asked))

-- own frames: a UA goes only where the connection is asked for
pub own_near : (role : Role) (kind : MuxKind) (held read : Dlc) → (is_idle held ≡ true → agrees kind ≡ false) → Near role held read → Near role (turned role kind held) (turned role kind read)
own_near role kind held read ok (inl same) = inl (ap (turned role kind) same)
own_near role kind held read ok (inr (r, h, a)) = by kind (ok (ap is_idle h))
  where
    turned_as : (k : MuxKind) → turned Responder k Idle ≡ Idle → turned Responder k Asked ≡ Asked → Near role (turned role k held) (turned role k read)
    turned_as k idle still = inr (r, ap (λ (x : Role). turned x k held) r ∙ ap (turned Responder k) h ∙ idle, ap (λ (x : Role). turned x k read) r ∙ ap (turned Responder k) a ∙ still)

    by : (k : MuxKind) → agrees k ≡ false → Near role (turned role k held) (turned role k read)
    by Sabm ag = turned_as Sabm refl refl
    by Ua ag = let never : true ≡ false = ag in cc
    by Dm ag = turned_as Dm refl refl
    by Disc ag = turned_as Disc refl refl
    by Uih ag = turned_as Uih refl refl

-- frames of the peer, but for DISC
pub peer_near : (role : Role) (kind : MuxKind) (held read : Dlc) → (kind ≡ Disc → ⊥) → Near role held read → Near role (turned (other_role role) kind held) (turned (other_role role) kind read)
peer_near role kind held read other (inl same) = inl (ap (turned (other_role role) kind) same)
peer_near Initiator kind held read other (inr (r, h, a)) = cc
peer_near Responder Sabm held read other (inr (r, h, a)) = inl (ap asked a ∙ sym (ap asked h))
peer_near Responder Ua held read other (inr (r, h, a)) = inr (r, h, a)
peer_near Responder Dm held read other (inr (r, h, a)) = inr (r, h, a)
peer_near Responder Disc held read other (inr (r, h, a)) = absurd (other refl)
peer_near Responder Uih held read other (inr (r, h, a)) = inr (r, h, a)

-- a SABM for which there is no room
pub late_near : (held read : Dlc) → Near Responder held read → Near Responder held (asked read)
late_near Idle read (inl same) = inr (refl, refl, ap asked same)
late_near Asked read (inl same) = inl (ap asked same)
late_near Open read (inl same) = inl (ap asked same)
late_near Ended read (inl same) = inl (ap asked same)
late_near held read (inr (r, h, a)) = inr (r, h, ap asked a)

pub near_ended : (role : Role) (held read : Dlc) → Near role held read → is_ended read ≡ is_ended held
near_ended role held read (inl same) = ap is_ended same
near_ended role held read (inr (r, h, a)) = ap is_ended a ∙ sym (ap is_ended h)

pub near_if : (role : Role) (b : Bool) (held x y : Dlc) → Near role held x → Near role held y → Near role held (cond b x y)
near_if role true held x y p q = p
near_if role false held x y p q = q

-- the peer leaves nothing
pub stays : (from : Role) (dlc : Dlc) → is_left from dlc ≡ false → turned from Disc dlc ≡ dlc
stays Initiator Idle is = refl
stays Responder Idle is = refl
stays Initiator Asked is = let never : true ≡ false = is in cc
stays Responder Asked is = refl
stays Initiator Open is = let never : true ≡ false = is in cc
stays Responder Open is = let never : true ≡ false = is in cc
stays Initiator Ended is = refl
stays Responder Ended is = refl

pub near_left : (role : Role) (held read : Dlc) → Near role held read → is_left (other_role role) held ≡ true → is_left (other_role role) read ≡ true
near_left role held read (inl same) is = ap (is_left (other_role role)) same ∙ is
near_left role held read (inr (r, h, a)) is = let never : false ≡ true = sym (ap (is_left (other_role role)) h) ∙ is in cc

-- ---- answers stay awaited

pub asked_some : (dlc : Dlc) → is_idle (asked dlc) ≡ false
asked_some Idle = refl
asked_some Asked = refl
asked_some Open = refl
asked_some Ended = refl

pub not_idle : (role : Role) (kind : MuxKind) (dlc : Dlc) → is_idle dlc ≡ false → is_idle (turned role kind dlc) ≡ false
not_idle role kind Idle is = let never : true ≡ false = is in cc
not_idle Initiator Sabm Asked is = refl
not_idle Responder Sabm Asked is = refl
not_idle Initiator Ua Asked is = refl
not_idle Responder Ua Asked is = refl
not_idle role Dm Asked is = refl
not_idle Initiator Disc Asked is = refl
not_idle Responder Disc Asked is = refl
not_idle role Uih Asked is = refl
not_idle Initiator Sabm Open is = refl
not_idle Responder Sabm Open is = refl
not_idle Initiator Ua Open is = refl
not_idle Responder Ua Open is = refl
not_idle role Dm Open is = refl
not_idle role Disc Open is = refl
not_idle role Uih Open is = refl
not_idle Initiator Sabm Ended is = refl
not_idle Responder Sabm Ended is = refl
not_idle Initiator Ua Ended is = refl
not_idle Responder Ua Ended is = refl
not_idle role Dm Ended is = refl
not_idle role Disc Ended is = refl
not_idle role Uih Ended is = refl

abbrev LessIdle : Dlc → Dlc → Type 0
LessIdle before after = is_idle before ≡ false → is_idle after ≡ false

one_awaited : (d : ℕ) (c u c' u' : Dlc) (f : PlainFrame) → LessIdle c c' → LessIdle u u' → IsAwaited d c u f → IsAwaited d c' u' f
one_awaited d c u c' u' f pc pu is = by (not (agrees f.kind)) (f.dlci == 0) (f.dlci == d) (is_idle c) (is_idle u) (is_idle c') (is_idle u') pc pu is
  where
    by : (k a b i j i' j' : Bool) → (i ≡ false → i' ≡ false) → (j ≡ false → j' ≡ false) → (k || (not (a && i) && not (b && j))) ≡ true → (k || (not (a && i') && not (b && j'))) ≡ true
    by true a b i j i' j' p q is = refl
    by false true b true j i' j' p q is = let never : false ≡ true = is in cc
    by false true true false true i' j' p q is = let never : false ≡ true = is in cc
    by false true true false false i' j' p q is = ap (λ (x : Bool). not x && not (true && j')) (p refl) ∙ ap (λ (x : Bool). not x) (q refl)
    by false true false false j i' j' p q is = ap (λ (x : Bool). not x && true) (p refl)
    by false false true i true i' j' p q is = let never : false ≡ true = is in cc
    by false false true i false i' j' p q is = ap (λ (x : Bool). not x) (q refl)
    by false false false i j i' j' p q is = refl

pub all_awaited : (d : ℕ) (c u c' u' : Dlc) (frames : List PlainFrame) → LessIdle c c' → LessIdle u u' → AllAwaited d c u frames → AllAwaited d c' u' frames
all_awaited d c u c' u' [] pc pu all = tt
all_awaited d c u c' u' (f ∷ rest) pc pu all = (one_awaited d c u c' u' f pc pu all.0, all_awaited d c u c' u' rest pc pu all.1)

pub less_idle : (role : Role) (kind : MuxKind) (here : Bool) (dlc : Dlc) → LessIdle dlc (cond here (turned role kind dlc) dlc)
less_idle role kind true dlc = not_idle role kind dlc
less_idle role kind false dlc = λ is. is

-- ---- a multiplexer

pub record IsNear (role : Role) (d : ℕ) (c : Connections) (x : Mux) : Type 0 where
  pub control : Near role x.control c.control
  pub user : Near role x.user c.user
  pub awaited : AllAwaited d x.control x.user x.answers

-- at most so many credits are held, and while it stands it is near
pub record After (role : Role) (d : ℕ) (c : Connections) (h : ℕ) (x : Mux) : Type 0 where
  pub held_is : x.account.held ≤ h
  pub near : x.closed ≡ None → IsNear role d c x

never : {A : Type 0} → (reason : MuxReason) → Some reason ≡ None → A
never reason is = cc

module _ (role : Role) (d : ℕ) (c : Connections) where
  pub kept : (h : ℕ) (x : Mux) → x.account.held ≤ h → IsNear role d c x → After role d c h x
  kept h x less near = record { held_is = less; near = λ stands. near }

  pub closed_after : (h : ℕ) (reason : MuxReason) (x : Mux) → x.account.held ≤ h → After role d c h (closes reason x)
  closed_after h reason x less = record { held_is = less; near = λ stands. never reason stands }

  pub answered : (h : ℕ) (f : PlainFrame) (x : Mux) → x.account.held ≤ h → IsAwaited d x.control x.user f → IsNear role d c x → After role d c h (answering f x)
  answered h f x less ok near = record { held_is = less; near = λ stands. record { control = near.control; user = near.user; awaited = all_more (IsAwaited d x.control x.user) x.answers f near.awaited ok } }

  pub dm_after : (h n : ℕ) (x : Mux) → x.account.held ≤ h → IsNear role d c x → After role d c h (says_dm n x)
  dm_after h n x less near = keep_cond (After role d c h) (has_room x) (answering (response_frame x.role Dm n) x) x (answered h (response_frame x.role Dm n) x less refl near) (kept h x less near)

  pub asks_after : (h : ℕ) (asks : Asks) (x : Mux) → x.account.held ≤ h → IsNear role d c x → After role d c h (record x { asks = asks })
  asks_after h asks x less near = record { held_is = less; near = λ stands. record { control = near.control; user = near.user; awaited = near.awaited } }

  -- ---- UA and DM, on the control channel and on the user channel

  pub control_ua : (h : ℕ) (asks : Asks) (x : Mux) → x.account.held ≤ h → IsNear role d c x → After role d c h (control_answered asks x)
  control_ua h Nothing x less near = kept h x less near
  control_ua h (Due command) x less near = kept h x less near
  control_ua h (Awaited OpenControl) x less near = asks_after h (Due Agree) x less near
  control_ua h (Awaited Agree) x less near = kept h x less near
  control_ua h (Awaited OpenUser) x less near = kept h x less near
  control_ua h (Awaited Signal) x less near = kept h x less near
  control_ua h (Awaited LeaveUser) x less near = kept h x less near
  control_ua h (Awaited LeaveControl) x less near = closed_after h reasons.Disc x less

  pub control_dm : (h : ℕ) (asks : Asks) (x : Mux) → x.account.held ≤ h → After role d c h (control_refused asks x)
  control_dm h Nothing x less = closed_after h reasons.Dm x less
  control_dm h (Due command) x less = closed_after h reasons.Dm x less
  control_dm h (Awaited OpenControl) x less = closed_after h reasons.Dm x less
  control_dm h (Awaited Agree) x less = closed_after h reasons.Dm x less
  control_dm h (Awaited OpenUser) x less = closed_after h reasons.Dm x less
  control_dm h (Awaited Signal) x less = closed_after h reasons.Dm x less
  control_dm h (Awaited LeaveUser) x less = closed_after h reasons.Dm x less
  control_dm h (Awaited LeaveControl) x less = closed_after h reasons.Disc x less

  pub user_dm : (h : ℕ) (asks : Asks) (x : Mux) → x.account.held ≤ h → IsNear role d c x → After role d c h (user_refused asks x)
  user_dm h Nothing x less near = closed_after h reasons.Dm x less
  user_dm h (Due command) x less near = closed_after h reasons.Dm x less
  user_dm h (Awaited OpenControl) x less near = closed_after h reasons.Dm x less
  user_dm h (Awaited Agree) x less near = closed_after h reasons.Dm x less
  user_dm h (Awaited OpenUser) x less near = closed_after h reasons.Dm x less
  user_dm h (Awaited Signal) x less near = closed_after h reasons.Dm x less
  user_dm h (Awaited LeaveUser) x less near = asks_after h (Due LeaveControl) x less near
  user_dm h (Awaited LeaveControl) x less near = closed_after h reasons.Dm x less

  -- ---- DISC

  pub disc_after : (h : ℕ) (from : Role) (n : ℕ) (x : Mux) → x.closed ≡ None → x.account.held ≤ h → ((n == 0) && is_left from x.control) ≡ false → ((n == x.dlci) && is_left from x.user) ≡ false → IsNear role d c x → (other_role x.role ≡ from)
      → After role d c h (hears_disc n x)
  disc_after h from n x standing less no_control no_user near is =
      subst (λ (r : Role). After role d c h (cond ((n == 0) && is_left r x.control) (cond (has_room x) first x) (cond ((n == x.dlci) && is_left r x.user) (cond (has_room x) second x) (says_dm n x)))) (sym is)
      (none ((n == 0) && is_left from x.control) ((n == x.dlci) && is_left from x.user) no_control no_user)
    where
      first : Mux
      first = answering (response_frame x.role Ua 0) (ends x.closed (record x { control = Ended }))

      second : Mux
      second = answering (response_frame x.role Ua x.dlci) (ends x.closed (record x { user = Ended }))

      none : (a b : Bool) → a ≡ false → b ≡ false → After role d c h (cond a (cond (has_room x) first x) (cond b (cond (has_room x) second x) (says_dm n x)))
      none a b fa fb = subst (λ (k : Bool). After role d c h (cond k (cond (has_room x) first x) (cond b (cond (has_room x) second x) (says_dm n x)))) (sym fa)
          (subst (λ (k : Bool). After role d c h (cond k (cond (has_room x) second x) (says_dm n x))) (sym fb) (dm_after h n x less near))
