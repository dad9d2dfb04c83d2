-- Push after push over RFCOMM: what comes to the server finds room, and its multiplexer refuses nothing.
use Rattle.std.proofs.Common.{arith, Bool, true, false, cond, ◌≡◌, ◌==◌, ◌≤◌, ◌<◌, ◌*◌, ◌-◌, ◌^◌, ℕ, List, [], ◌∷◌, ◌++◌, Option, Some, None, refl, sym, ap, subst, ◌∙◌, append-nil, append_assoc}
use Rattle.std.specs.List.{AllByRecursion, flat_map}
use Rattle.std.proofs.lemmas.Bool.{cond-false}
use Rattle.link_talk.specs.bt_base.specs.declared.settings.Settings.{Settings}
use Rattle.link_talk.specs.bt_base.specs.declared.settings.Transport.TheVariants.{L2cap, Rfcomm}
use Rattle.push_model.specs.rfcomm_frames.specs.declared.connection.Role.{Role}
use Rattle.push_model.specs.rfcomm_frames.specs.declared.connection.Role.TheVariants.{Initiator, Responder}
use Rattle.push_model.specs.rfcomm_frames.specs.Frames.{PlainFrame}
use Rattle.rfcomm_laws.specs.Links.{AreFrames}
use Rattle.rfcomm_laws.specs.Pairs.{Terms}
use Rattle.rfcomm_laws.proofs.Crossings.{offering}
use Rattle.rfcomm_laws.proofs.Rooms.{tidy_first}
use Rattle.push_model.specs.rfcomm_model.specs.Machine.{Mux, new_mux}
use Rattle.push_model.specs.declared.outlet.Outlet.{Outlet}
use Rattle.push_model.specs.declared.outlet.Outlet.TheVariants.{Records, Direct, Muxed}
use Rattle.push_model.specs.Client.{Client}
use Rattle.push_model.specs.Events.{own_frame}
use Rattle.push_model.specs.Laws as deeds
use Rattle.push_model.specs.Laws.{Deed}
use Rattle.push_model.specs.Responding.{is_object}
use Rattle.push_model.specs.Server.{Server, Reacted, Lent, frame_lent, lent_by, lets_go_on, lets_go_twice, remuxed, unreplied, unanswered, rfcomm_psm}
use Rattle.push_laws.specs.Carriage.{Carriage, no_carriage, frames_by, heard_by, come_by, gone_by, carriage_after, AreCarried, ComesOpen, StayCarried, ServesMuxed, AllServeMuxed, FrameFits, AllFramesFit, IsThere, StaysThere, IsPushedMuxed, PushedFramesFit}
use Rattle.push_laws.specs.Laws.{new_over}
use Rattle.push_laws.specs.Occurrences.{Occurrence, Came, Went, Closed, LinkDown, Asked, Answering, done, IsOwn}
use Rattle.push_laws.specs.Parties.{Move, OfServer, OfClient, server_side, sdu_if, Push, begun_of, ended_with, over_pushes}
use Rattle.push_laws.proofs.Calm.{IsCalm, first_calm, calm_more, is_orderly}
use Rattle.push_laws.proofs.Carriage.{Linked, Both, On, Off}
use Rattle.push_laws.proofs.Carrying.{reset_calm}
use Rattle.push_laws.proofs.Couples.{no_sums, waiting}
use Rattle.push_laws.proofs.Early.{IsEarly, IsOpened, Begun, Early, Opened, early_deed, early_frames}
use Rattle.push_laws.proofs.FramesFit as fit
use Rattle.push_laws.proofs.FramesFit.{no_octets, none_comes, off_goes, down_goes, deed_goes, late_at}
use Rattle.push_laws.proofs.Late.{Anchor, anchor_of}
use Rattle.push_laws.proofs.Numbers.{K, numbers_stay}
use Rattle.push_laws.proofs.Orders.{Order, order_first}

-- ---- lists that are empty

pub none_behind : {A : Type 0} (xs ys : List A) → xs ++ ys ≡ [] → ys ≡ []
none_behind [] ys e = e
none_behind (x ∷ xs) ys e = cc

pub none_before : {A : Type 0} (xs ys : List A) → xs ++ ys ≡ [] → xs ≡ []
none_before [] ys e = refl
none_before (x ∷ xs) ys e = cc

none_read : (sdus : List (List ℕ)) (frames : List PlainFrame) → AreFrames sdus frames → frames ≡ [] → sdus ≡ []
none_read [] frames are e = refl
none_read (sdu ∷ sdus) [] are e = absurd are
none_read (sdu ∷ sdus) (f ∷ frames) are e = cc

-- nothing was sent, so nothing came
pub none_came : (c : Carriage) → AreCarried c → c.sent ≡ [] → c.come ≡ []
none_came c are none = none_read c.come are.front are.read (none_before are.front are.behind (sym are.forth ∙ none))

-- ---- nothing goes from a calm server

same_lent : (a b : Lent) → Some a ≡ Some b → a ≡ b
same_lent a b e = cc

no_lent : (lent : Lent) → None ≡ Some lent → ⊥
no_lent lent e = cc

went_none : (o : Option Outlet) (psm : ℕ) (sdu : List ℕ) (server : Server) (lent : Lent) → lent_by o server ≡ Some lent → lent.psm ≡ psm → server.frame ≡ None → sdu_if (psm == rfcomm_psm) sdu ≡ []
went_none None psm sdu server lent e p none = absurd (no_lent lent e)
went_none (Some Records) psm sdu server lent e p none = sym (ap (λ (n : ℕ). sdu_if (n == rfcomm_psm) sdu) (ap (λ (l : Lent). l.psm) (same_lent _ lent e) ∙ p))
went_none (Some Direct) psm sdu server lent e p none = sym (ap (λ (n : ℕ). sdu_if (n == rfcomm_psm) sdu) (ap (λ (l : Lent). l.psm) (same_lent _ lent e) ∙ p))
went_none (Some Muxed) psm sdu server lent e p none = absurd (no_lent lent (sym (ap frame_lent none) ∙ e))

pub none_goes : (one : Occurrence) (at : Reacted) → IsOwn one at.server → at.server.frame ≡ None → gone_by one ≡ []
none_goes (Came psm sdu) at own none = refl
none_goes (Went psm sdu) at own none = went_none at.server.lent psm sdu at.server own.0 own.1 own.2 none
none_goes (Closed psm) at own none = refl
none_goes LinkDown at own none = refl
none_goes Asked at own none = refl
none_goes (Answering answers) at own none = refl

-- ---- a push

-- the numbers of both multiplexers
pub record Numbers : Type 0 where
  pub largest : ℕ
  pub least : 23 ≤ largest
  pub most : largest < 2 ^ 16
  pub cap : ℕ
  pub some : 1 ≤ cap
  pub few : cap ≤ 40

-- the client is not on its channel yet, or both are coupled, or the server's channel was closed
pub data Phase (mux : Mux) (past : List Occurrence) (client : Client) (c : Carriage) (at : Server) : Type 0 where
  Waits : IsEarly mux Rfcomm client → c.sent ≡ [] → c.come ≡ [] → c.gone ≡ [] → IsCalm past at → Phase mux past client c at
  Goes : (anchor : Anchor) → anchor.transport ≡ Rfcomm → anchor.psm ≡ rfcomm_psm → Both anchor past client c at → Phase mux past client c at

pub record PhaseBehind (mux : Mux) (past : List Occurrence) (client : Client) (c : Carriage) (at : Reacted) (one : Occurrence) : Type 0 where
  pub fits : FrameFits at one
  pub phase : Phase mux (past ++ one ∷ []) client (carriage_after (OfServer one) client c) (done one at).server

waits_goes : (mux : Mux) (past : List Occurrence) (client : Client) (c : Carriage) (at : Reacted) (one : Occurrence) → ServesMuxed at one → come_by one ≡ [] → IsEarly mux Rfcomm client → c.sent ≡ [] → c.come ≡ [] → c.gone ≡ [] → IsCalm past at.server
    → PhaseBehind mux past client c at one
waits_goes mux past client c at one serves none early sent come gone calm =
    let later = calm_more past one at (none_comes one none) serves.own calm in
    record {
      fits = record { room = λ sdu is. absurd (no_octets sdu (sym (ap come_by is) ∙ none)); orderly = is_orderly (done one at).server.mux later.fresh };
      phase = Waits early sent (ap (λ (xs : List (List ℕ)). c.come ++ xs) none ∙ (append-nil c.come ∙ come)) (ap (λ (xs : List (List ℕ)). c.gone ++ xs) (none_goes one at serves.own calm.no_frame) ∙ (append-nil c.gone ∙ gone)) later;
    }

pub phase_goes : (mux : Mux) (past : List Occurrence) (client : Client) (c : Carriage) (at : Reacted) (one : Occurrence) → ServesMuxed at one → AreCarried (carriage_after (OfServer one) client c) → ComesOpen (OfServer one) c → Phase mux past client c at.server
    → PhaseBehind mux past client c at one
phase_goes mux past client c at one serves are opened (Waits early sent come gone calm) =
    waits_goes mux past client c at one serves (none_behind c.come (come_by one) (none_came (carriage_after (OfServer one) client c) are sent)) early sent come gone calm
phase_goes mux past client c at one serves are opened (Goes anchor muxed there both) =
    let g = fit.goes anchor past client c at one serves are opened both in record { fits = g.fits; phase = Goes anchor muxed there g.both }

-- a calm server's multiplexer is new
new_again : (largest cap : ℕ) (past : List Occurrence) (server : Server) → K largest cap server.mux → IsCalm past server → server.mux ≡ new_mux Responder 18 largest largest cap
new_again largest cap past server k calm =
    let f = calm.fresh in
    let dlci : f.dlci ≡ 18 = sym (ap (λ (m : Mux). m.dlci) f.is) ∙ k.1 in
    let most : f.largest ≡ largest = sym (ap (λ (m : Mux). m.largest) f.is) ∙ k.2 in
    let given : f.cap ≡ cap = sym (ap (λ (m : Mux). m.account.cap) f.is) ∙ k.3 in
    f.is ∙ (ap (λ (n : ℕ). new_mux Responder n f.largest f.largest f.cap) dlci ∙ (ap (λ (n : ℕ). new_mux Responder 18 n n f.cap) most ∙ ap (λ (n : ℕ). new_mux Responder 18 largest largest n) given))

module _ (n : Numbers) (mux : Mux) (role : mux.role ≡ Initiator) (fits : mux.largest < 2 ^ 16) (some : 1 ≤ mux.account.cap) (few : mux.account.cap ≤ 40) where
  terms : (mtu : ℕ) → Terms
  terms mtu = record {
    dlci = 18;
    some = omega arith;
    few = omega arith;
    own = own_frame mux.largest mtu;
    own_peer = n.largest;
    least = omega arith;
    least_peer = n.least;
    most = omega arith;
    most_peer = n.most;
    cap = mux.account.cap;
    cap_peer = n.cap;
    cap_least = some;
    cap_peer_least = n.some;
    cap_most = few;
    cap_peer_most = n.few;
  }

  -- the channel has opened
  pub opened_linked : (past : List Occurrence) (client : Client) (c : Carriage) (at : Server) → IsOpened mux Rfcomm client → IsThere client → K n.largest n.cap at.mux → IsCalm past at → c.sent ≡ [] → c.come ≡ [] → c.gone ≡ [] → c.told ≡ []
      → Linked (anchor_of client) client c at (record no_sums { asked = client.rest; replied = at.listener.service.answer })
  unfolding terms
  opened_linked past client c at o there k calm sent come gone told =
      let here = there (ap is_object o.here) in
      let t = terms o.mtu in
      let dlci : 2 * client.channel ≡ 18 = ap (λ (m : ℕ). 2 * m) here.1 in
      let mux_is : new_mux Initiator 18 mux.largest (own_frame mux.largest o.mtu) mux.account.cap ≡ client.mux =
      sym (o.mux_is ∙ (ap (λ (r : Role). new_mux r (2 * client.channel) mux.largest (own_frame mux.largest o.mtu) mux.account.cap) role ∙ ap (λ (d : ℕ). new_mux Initiator d mux.largest (own_frame mux.largest o.mtu) mux.account.cap) dlci)) in
      record {
        heard = [];
        unheard = [];
        rest = client.rest;
        coupled = record {
          pair = offering t mux.largest;
          tidy = tidy_first t mux.largest;
          own_is = mux_is;
          mux_is = sym (new_again n.largest n.cap past at k calm);
          front = [];
          come_are = subst (λ (xs : List (List ℕ)). AreFrames xs []) (sym come) tt;
          sent_is = sent;
          frames = [];
          unheard_are = tt;
          queue_is = sym (ap waiting calm.no_frame);
          asked_is = refl;
          got_is = refl;
          replied_is = refl;
          told_is = refl;
          order = λ e. subst (λ (m : Mux). Order m [] at.mux []) mux_is
              (subst (λ (m : Mux). Order (new_mux Initiator 18 mux.largest (own_frame mux.largest o.mtu) mux.account.cap) [] m []) (sym (new_again n.largest n.cap past at k calm))
              (order_first mux.largest (own_frame mux.largest o.mtu) n.largest mux.account.cap n.cap));
        };
        gone_is = gone;
        told_is = λ works. told;
        rest_is = λ works. refl;
        late = (late_at client.stage o.here, refl);
      }

  opens : (past : List Occurrence) (client : Client) (c : Carriage) (at : Server) → IsOpened mux Rfcomm client → IsThere client → K n.largest n.cap at.mux → IsCalm past at → c.sent ≡ [] → c.come ≡ [] → c.gone ≡ [] → c.told ≡ [] → Phase mux past client c at
  opens past client c at o there k calm sent come gone told =
      Goes (anchor_of client) o.same (there (ap is_object o.here)).0 (On (record no_sums { asked = client.rest; replied = at.listener.service.answer }) (opened_linked past client c at o there k calm sent come gone told))

  pub deed_phase : (past : List Occurrence) (client : Client) (c : Carriage) (at : Server) (deed : Deed) → AreCarried (carriage_after (OfClient deed) client c) → IsThere (deeds.done deed client) → K n.largest n.cap at.mux → Phase mux past client c at
      → Phase mux past (deeds.done deed client) (carriage_after (OfClient deed) client c) at
  deed_phase past client c at deed are there k (Goes anchor muxed psm both) = Goes anchor muxed psm (deed_goes anchor muxed psm past client c at deed are both)
  deed_phase past client c at deed are there k (Waits early sent come gone calm) = by (early_deed mux deed client early)
    where
      sent' : c.sent ++ frames_by deed client ≡ []
      sent' = ap (λ (fs : List PlainFrame). c.sent ++ fs) (early_frames mux deed client early) ∙ (append-nil c.sent ∙ sent)

      by : Begun mux (deeds.done deed client) → Phase mux past (deeds.done deed client) (carriage_after (OfClient deed) client c) at
      by (Early later) = Waits later sent' come gone calm
      by (Opened o) = opens past (deeds.done deed client) (carriage_after (OfClient deed) client c) at o there k calm sent' come gone (none_before (c.told ++ heard_by deed) are.back.0 (sym are.back.1 ∙ gone))

  -- ---- its moves, and what is behind them

  module _ (tail : List Occurrence) where
    abbrev GoesOn : Type 0
    GoesOn = (past : List Occurrence) (client : Client) (c : Carriage) (at : Reacted) → K n.largest n.cap at.server.mux → Phase mux past client c at.server → AllServeMuxed at tail → AllFramesFit at tail

    moves_fit : (moves : List Move) (past : List Occurrence) (client : Client) (c : Carriage) (at : Reacted) → StaysThere moves client → StayCarried moves client c → AllServeMuxed at (server_side moves ++ tail) → K n.largest n.cap at.server.mux → Phase mux past client c at.server → GoesOn
        → AllFramesFit at (server_side moves ++ tail)
    moves_fit [] past client c at there carried serve k phase on = on past client c at k phase serve
    moves_fit (OfServer one ∷ moves) past client c at there carried serve k phase on =
        let g = phase_goes mux past client c at one serve.0 carried.0 carried.1 phase in
        (g.fits, moves_fit moves (past ++ one ∷ []) client (carriage_after (OfServer one) client c) (done one at) there.1 carried.2 serve.1 (numbers_stay n.largest n.cap one at k) g.phase on)
    moves_fit (OfClient deed ∷ moves) past client c at there carried serve k phase on =
        moves_fit moves past (deeds.done deed client) (carriage_after (OfClient deed) client c) at there.1 carried.2 serve k (deed_phase past client c at.server deed carried.0 there.0 k phase) on

  -- ---- its link goes down

  pub down_fits : (past : List Occurrence) (client : Client) (c : Carriage) (at : Reacted) → ServesMuxed at LinkDown → Phase mux past client c at.server → FrameFits at LinkDown
  down_fits past client c at serves (Waits early sent come gone calm) = (waits_goes mux past client c at LinkDown serves refl early sent come gone calm).fits
  down_fits past client c at serves (Goes anchor muxed there (On sums l)) = (down_goes anchor past client c at sums l serves.works).fits
  down_fits past client c at serves (Goes anchor muxed there (Off closed calm)) = (off_goes anchor past client c at LinkDown serves (λ e. refl) closed calm).fits

-- behind it the server is calm, or a call of its inbox answered want of memory
pub data IsDown (past : List Occurrence) (at : Reacted) : Type 0 where
  Rests : IsCalm (past ++ LinkDown ∷ []) (done LinkDown at).server → IsDown past at
  Fails : (done LinkDown at).server.listener.service.failed ≡ true → IsDown past at

pub is_down : (largest cap : ℕ) (past : List Occurrence) (at : Reacted) → at.server.listener.service.failed ≡ false → K largest cap at.server.mux → IsDown past at
is_down largest cap past at works k = by first.server.listener.service.failed refl
  where
    first : Reacted
    first = lets_go_on L2cap (unanswered at.server) at.gift

    done_is : (failed : Bool) → first.server.listener.service.failed ≡ failed → done LinkDown at ≡ cond failed first (lets_go_on Rfcomm (remuxed (unreplied first.server)) first.gift)
    done_is failed is =
        cond-false at.server.listener.service.failed (let r : Reacted = record { server = at.server; gift = at.gift } in r) (lets_go_twice first) works ∙ ap (λ (b : Bool). cond b first (lets_go_on Rfcomm (remuxed (unreplied first.server)) first.gift)) is

    by : (failed : Bool) → first.server.listener.service.failed ≡ failed → IsDown past at
    by true is = Fails (ap (λ (r : Reacted). r.server.listener.service.failed) (done_is true is) ∙ is)
    by false is = Rests (subst (λ (r : Reacted). IsCalm (past ++ LinkDown ∷ []) r.server) (sym (done_is false is)) (reset_calm past LinkDown (unreplied first.server) first.gift k.0 refl))

failed_fits : (rest : List Occurrence) (at : Reacted) → at.server.listener.service.failed ≡ true → AllServeMuxed at rest → AllFramesFit at rest
failed_fits [] at failed serve = tt
failed_fits (one ∷ rest) at failed serve = let works = serve.0.works in absurd (let never : true ≡ false = sym failed ∙ works in cc)

-- ---- push after push

push_fits : (n : Numbers) (tail : List Occurrence) (push : Push) (pushed : IsPushedMuxed push) (past : List Occurrence) (at : Reacted) → K n.largest n.cap at.server.mux → IsCalm past at.server → AllServeMuxed at (server_side push.moves ++ tail)
    → GoesOn n push.client.mux pushed.role pushed.fits pushed.some pushed.few tail → AllFramesFit at (server_side push.moves ++ tail)
push_fits n tail push pushed past at k calm serve on =
    moves_fit n push.client.mux pushed.role pushed.fits pushed.some pushed.few tail push.moves past (begun_of push) no_carriage at pushed.there pushed.carried serve k (Waits (refl, refl, pushed.muxed) refl refl refl calm) on

all_fit : (n : Numbers) (pushes : List Push) (last : Push) (past : List Occurrence) (at : Reacted) → AllByRecursion IsPushedMuxed pushes → IsPushedMuxed last → K n.largest n.cap at.server.mux → IsCalm past at.server → AllServeMuxed at (over_pushes pushes last)
    → AllFramesFit at (over_pushes pushes last)
all_fit n [] last past at pushed over k calm serve =
    let same = append-nil (server_side last.moves) in
    subst (AllFramesFit at) same (push_fits n [] last over past at k calm (subst (AllServeMuxed at) (sym same) serve) (λ past' client' c' at' k' phase' serve'. tt))
all_fit n (push ∷ pushes) last past at pushed over k calm serve =
    let others : List Occurrence = over_pushes pushes last in
    let same : server_side push.moves ++ LinkDown ∷ others ≡ over_pushes (push ∷ pushes) last =
    sym (ap (λ (os : List Occurrence). os ++ server_side last.moves) (append_assoc (server_side push.moves) (LinkDown ∷ []) (flat_map ended_with pushes))
    ∙ append_assoc (server_side push.moves) (LinkDown ∷ flat_map ended_with pushes) (server_side last.moves)) in
    let next : (past' : List Occurrence) (at' : Reacted) → K n.largest n.cap at'.server.mux → AllServeMuxed (done LinkDown at') others → IsDown past' at' → AllFramesFit (done LinkDown at') others =
    λ past' at' k' serve' down. elim down [
      | Rests calm' ↦ all_fit n pushes last (past' ++ LinkDown ∷ []) (done LinkDown at') pushed.1 over (numbers_stay n.largest n.cap LinkDown at' k') calm' serve'
      | Fails failed ↦ failed_fits others (done LinkDown at') failed serve'
    ] in
    subst (AllFramesFit at) same
    (push_fits n (LinkDown ∷ others) push pushed.0 past at k calm (subst (AllServeMuxed at) (sym same) serve)
    (λ past' client' c' at' k' phase' serve'. (
      down_fits n push.client.mux pushed.0.role pushed.0.fits pushed.0.some pushed.0.few past' client' c' at' serve'.0 phase',
      next past' at' k' serve'.1 (is_down n.largest n.cap past' at' serve'.0.works k'),
    )))

unfoldable pub numbers_of : Settings → Numbers
numbers_of settings =
    let mtu_low = settings.mtu_low in
    let mtu_high = settings.mtu_high in
    record { largest = settings.mtu - 6; least = omega (arith, mtu_low); most = omega (arith, mtu_high); cap = settings.credits; some = settings.credits_low; few = settings.credits_high }

pub pushed-frames_fit : PushedFramesFit
unfolding numbers_of
pushed-frames_fit settings before pushes last pushed over serve =
    all_fit (numbers_of settings) pushes last [] (new_over settings before) pushed over (refl, refl, refl, refl) (first_calm settings) serve
