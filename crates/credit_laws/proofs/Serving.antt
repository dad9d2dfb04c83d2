-- A server spends what its peer grants it, on each link.
use Rattle.std.proofs.Common.{arith, rules, ◌≡◌, ◌-◌, ℕ, ◌==◌, Bool, true, false, ◌&&◌, cond, List, [], ◌∷◌, ◌++◌, length, Option, Some, None, Ok, refl, sym, ap, subst, ◌∙◌, append-nil}
use Rattle.std.specs.Prelude.{not}
use Rattle.std.specs.List.{filter_map}
use Rattle.std.proofs.lemmas.Bool.{cond-false}
use Rattle.std.proofs.lemmas.List.Elements.{filter_map-append}
use Rattle.inbox_laws.specs.bt_base.specs.declared.settings.Transport.TheVariants.{L2cap, Rfcomm}
use Rattle.inbox_laws.specs.bt_base.specs.Octets.{IsOctets}
use Rattle.inbox_laws.specs.rfcomm_frames.specs.declared.connection.Role.{Role}
use Rattle.inbox_laws.specs.rfcomm_frames.specs.declared.connection.Role.TheVariants.{Initiator, Responder}
use Rattle.inbox_laws.specs.rfcomm_frames.specs.Frames.{PlainFrame}
use Rattle.inbox_laws.specs.rfcomm_frames.specs.FrameReading.{is_empty}
use Rattle.inbox_laws.specs.rfcomm_frames.specs.Multiplexing.{Passed, frames}
use Rattle.inbox_laws.specs.rfcomm_frames.proofs.FrameReading.{spelled_answered}
use Rattle.inbox_laws.specs.rfcomm_model.specs.Hearing.{Up, nothing, opened, bytes, closed, up, hears}
use Rattle.inbox_laws.specs.rfcomm_model.specs.Machine.{Mux, new_mux, reset, is_ready, sends, leaves, taken_count}
use Rattle.inbox_laws.specs.rfcomm_model.specs.Saying.{Said, next}
use Rattle.inbox_laws.specs.rfcomm_model.proofs.Keeping.{SaysKept, answers_keep}
use Rattle.inbox_laws.specs.push_model.specs.declared.outlet.Outlet.{Outlet}
use Rattle.inbox_laws.specs.push_model.specs.declared.outlet.Outlet.TheVariants.{Records, Direct, Muxed}
use Rattle.inbox_laws.specs.push_model.specs.Listening.{Received, hears_stream}
use Rattle.inbox_laws.specs.push_model.specs.Payloads.{Framed as FramedIn, IsSaid}
use Rattle.inbox_laws.specs.push_model.specs.Service.{Service, answer_cut}
use Rattle.inbox_laws.specs.push_model.specs.Sessions.{Gift}
use Rattle.inbox_laws.specs.push_model.specs.Server.{Server, Reacted, Lent, with_service, hears_search, received_by, hears_up, hears_on, unless_failed, filled, said_on, breaks_now, left_by, leaves_with, framed_by, framed, outlet_of, lends_by, lends, frame_lent, lent_by, taken_by, remuxed, unanswered, unreplied, lets_go_on, closed_on, lets_go_twice, rfcomm_psm}
use Rattle.inbox_laws.specs.push_laws.specs.Occurrences.{Occurrence, Came, Went, Closed, LinkDown, Asked, Answering, done, begun}
use Rattle.inbox_laws.specs.push_laws.specs.Readings.{closes, since_from, passed_by}
use Rattle.inbox_laws.specs.push_laws.proofs.Servers.{by_psm, up_keeps}
use Rattle.credit_laws.specs.Covered.{IsCovered}
use Rattle.credit_laws.specs.Serving.{GoesQuietly, AllGoQuietly, ServersAreCovered}
use Rattle.credit_laws.proofs.Paying.{Pays, hears_pays, sdu_pays, sends_pays, leaves_pays, new_pays, pays_covered, frames_more}

-- ---- a multiplexer and the frame that waits

-- it said the frame that waits, once what passed was paid for
pub record Waits (passed : List Passed) (mux : Mux) (f : PlainFrame) : Type 0 where
  pub before : Mux
  pub said : Said
  pub says : next before ≡ Some said
  pub frame_is : said.frame ≡ f
  pub after_is : said.after ≡ mux
  pub pays : Pays 18 Responder before (frames passed)

abbrev pub Paying : List Passed → Mux → Option PlainFrame → Type 0
Paying passed mux None = Pays 18 Responder mux (frames passed)
Paying passed mux (Some f) = Waits passed mux f

-- what passed since its channel was last closed is paid for
abbrev State : List Passed → Server → Type 0
State passed server = Paying passed server.mux server.frame

paying_covered : (passed : List Passed) (mux : Mux) (o : Option PlainFrame) → Paying passed mux o → IsCovered 18 Responder passed
paying_covered passed mux None pays = pays_covered 18 Responder mux passed pays
paying_covered passed mux (Some f) waits = pays_covered 18 Responder waits.before passed waits.pays

paying_kept : (passed : List Passed) (mux : Mux) (o : Option PlainFrame) → Paying passed mux o → (mux.role ≡ Responder) × (mux.dlci ≡ 18)
paying_kept passed mux None pays = (pays.role_is, pays.dlci_is)
paying_kept passed mux (Some f) waits =
    let kept : SaysKept waits.before (Some waits.said) = subst (SaysKept waits.before) waits.says (answers_keep waits.before.answers waits.before) in
    (ap (λ (m : Mux). m.role) (sym waits.after_is) ∙ (kept.0 ∙ waits.pays.role_is), ap (λ (m : Mux). m.dlci) (sym waits.after_is) ∙ (kept.1 ∙ waits.pays.dlci_is))

-- another server with the same multiplexer and frame
same_state : (passed : List Passed) (server other : Server) → other.mux ≡ server.mux → other.frame ≡ server.frame → State passed server → State passed other
same_state passed server other mux_is frame_is s = subst (λ (m : Mux). Paying passed m other.frame) (sym mux_is) (subst (Paying passed server.mux) (sym frame_is) s)

more_none : (passed : List Passed) (server : Server) → State passed server → State (passed ++ []) server
more_none passed server s = subst (λ (ps : List Passed). State ps server) (sym (append-nil passed)) s

-- ---- calls that may fail

works_so : (b : Bool) (server : Server) (gift : Gift) (r : Reacted) (P : Server → Type 0) → server.listener.service.failed ≡ b → (let no : Reacted = record { server = server; gift = gift } in (cond b no r).server.listener.service.failed ≡ false → P r.server → P (cond b no r).server)
works_so true server gift r P is works p = let never : true ≡ false = sym is ∙ works in absurd cc
works_so false server gift r P is works p = p

unless_works : (server : Server) (gift : Gift) (r : Reacted) (P : Server → Type 0) → (unless_failed server gift r).server.listener.service.failed ≡ false → P r.server → P (unless_failed server gift r).server
unless_works server gift r P works p = works_so server.listener.service.failed server gift r P refl works p

-- ---- an SDU comes

up_frame : (u : Up) (server : Server) (gift : Gift) → (hears_up u server gift).server.frame ≡ server.frame
up_frame nothing server gift = refl
up_frame opened server gift = refl
up_frame (bytes octets) server gift = by server.listener.breaks (hears_stream (length (server.held ++ octets)) (server.held ++ octets) server.listener gift)
  where
    by : (b : Bool) (r : Received) → (cond b (let no : Reacted = record { server = server; gift = gift } in no) (received_by server r)).server.frame ≡ server.frame
    by true r = refl
    by false r = refl
up_frame (closed reason) server gift = refl

search_same : (sdu : List ℕ) (server : Server) → ((hears_search sdu server).mux ≡ server.mux) × ((hears_search sdu server).frame ≡ server.frame)
search_same sdu server = (search rules, search rules)

frame_comes : (passed : List Passed) (sdu : List ℕ) (server : Server) (gift : Gift) → server.frame ≡ None → State passed server → State (passed ++ record { from = Initiator; sdu = sdu } ∷ []) (hears_up (up sdu server.mux) (record server { mux = hears sdu server.mux }) gift).server
frame_comes passed sdu server gift none s =
    let heard : Server = record server { mux = hears sdu server.mux } in
    let after : Server = (hears_up (up sdu server.mux) heard gift).server in
    let pays : Pays 18 Responder server.mux (frames passed) = subst (Paying passed server.mux) none s in
    let then : Pays 18 Responder (hears sdu server.mux) (frames (passed ++ record { from = Initiator; sdu = sdu } ∷ [])) =
    subst (Pays 18 Responder (hears sdu server.mux)) (sym (frames_more passed (record { from = Initiator; sdu = sdu } ∷ []))) (hears_pays 18 Responder sdu server.mux (frames passed) (omega arith) pays) in
    subst (λ (m : Mux). Paying (passed ++ record { from = Initiator; sdu = sdu } ∷ []) m after.frame) (sym (up_keeps (up sdu server.mux) heard gift))
    (subst (Paying (passed ++ record { from = Initiator; sdu = sdu } ∷ []) (hears sdu server.mux)) (sym (up_frame (up sdu server.mux) heard gift ∙ none)) then)

abbrev with_one : List Passed → Occurrence → List Passed
with_one passed one = passed ++ filter_map passed_by (one ∷ [])

came_state : (passed : List Passed) (sdu : List ℕ) (server : Server) (gift : Gift) → State passed server → (psm : ℕ) → (psm ≡ rfcomm_psm → server.frame ≡ None) → State (with_one passed (Came psm sdu)) (hears_on psm sdu server gift).server
came_state passed sdu server gift s psm =
    by_psm (λ p. (p ≡ rfcomm_psm → server.frame ≡ None) → State (with_one passed (Came p sdu)) (hears_on p sdu server gift).server)
    (λ quiet. let same = search_same sdu server in more_none passed (hears_search sdu server) (same_state passed server (hears_search sdu server) same.0 same.1 s))
    (λ quiet. frame_comes passed sdu server gift (quiet refl) s)
    (λ quiet. more_none passed (hears_on 0x1001 sdu server gift).server (same_state passed server (hears_on 0x1001 sdu server gift).server refl refl s))
    (λ p a b c quiet.
    subst (λ (ps : List Passed). State ps (hears_on p sdu server gift).server) (sym (ap (λ (k : Bool). passed ++ filter_map (λ (x : Bool). cond x (Some (let one : Passed = record { from = Initiator; sdu = sdu } in one)) None) (k ∷ [])) b ∙ append-nil passed))
    (subst (λ (r : Reacted). State passed r.server) (sym (cond-false _ _ _ a ∙ (cond-false _ _ _ b ∙ cond-false _ _ (let r : Reacted = record { server = server; gift = gift } in r) c))) s))
    psm

-- ---- an SDU goes

same_lent : (a b : Lent) → Some a ≡ Some b → a ≡ b
same_lent a b e = cc

none_lent : {A : Type 0} → (lent : Lent) → None ≡ Some lent → A
none_lent lent e = cc

frame_goes : (passed : List Passed) (sdu : List ℕ) (server : Server) (f : PlainFrame) → server.frame ≡ Some f → IsSaid (FramedIn f) sdu → IsOctets sdu → State passed server
    → State (passed ++ record { from = Responder; sdu = sdu } ∷ []) (record server { frame = None; lent = None })
frame_goes passed sdu server f is said octets s =
    let waits : Waits passed server.mux f = subst (Paying passed server.mux) is s in
    let reads = spelled_answered f sdu octets said.spelling ∙ ap (λ (x : PlainFrame). Ok x) (sym waits.frame_is) in
    let then = sdu_pays 18 Responder waits.before waits.said sdu (frames passed) (omega arith) waits.says reads waits.pays in
    subst (λ (m : Mux). Pays 18 Responder m (frames (passed ++ record { from = Responder; sdu = sdu } ∷ []))) waits.after_is
    (subst (Pays 18 Responder waits.said.after) (sym (frames_more passed (record { from = Responder; sdu = sdu } ∷ []))) then)

muxed_goes : (passed : List Passed) (psm : ℕ) (sdu : List ℕ) (server : Server) (lent : Lent) (o : Option PlainFrame) → server.frame ≡ o → frame_lent o ≡ Some lent → lent.psm ≡ psm → IsSaid lent.payload sdu → IsOctets sdu
    → State passed server → State (with_one passed (Went psm sdu)) (record server { frame = None; lent = None })
muxed_goes passed psm sdu server lent None is e p said octets s = none_lent lent e
muxed_goes passed psm sdu server lent (Some f) is e p said octets s =
    let same = same_lent (record { psm = 0x0003; payload = FramedIn f }) lent e in
    subst (λ (n : ℕ). State (with_one passed (Went n sdu)) (record server { frame = None; lent = None })) (ap (λ (l : Lent). l.psm) same ∙ p)
    (frame_goes passed sdu server f is (subst (λ (l : Lent). IsSaid l.payload sdu) (sym same) said) octets s)

went_state : (passed : List Passed) (psm : ℕ) (sdu : List ℕ) (server : Server) (o : Option Outlet) (lent : Lent) → lent_by o server ≡ Some lent → lent.psm ≡ psm → IsSaid lent.payload sdu → IsOctets sdu → State passed server
    → State (with_one passed (Went psm sdu)) (taken_by o server)
went_state passed psm sdu server None lent e p said octets s = none_lent lent e
went_state passed psm sdu server (Some Muxed) lent e p said octets s = muxed_goes passed psm sdu server lent server.frame refl e p said octets s
went_state passed psm sdu server (Some Records) lent e p said octets s =
    subst (λ (n : ℕ). State (with_one passed (Went n sdu)) (taken_by (Some Records) server)) (ap (λ (l : Lent). l.psm) (same_lent _ lent e) ∙ p)
    (more_none passed (taken_by (Some Records) server) (same_state passed server (taken_by (Some Records) server) refl refl s))
went_state passed psm sdu server (Some Direct) lent e p said octets s =
    subst (λ (n : ℕ). State (with_one passed (Went n sdu)) (taken_by (Some Direct) server)) (ap (λ (l : Lent). l.psm) (same_lent _ lent e) ∙ p)
    (more_none passed (taken_by (Some Direct) server) (same_state passed server (taken_by (Some Direct) server) refl refl s))

-- ---- a channel is closed, or the link goes down

reset_new : (m : Mux) (own : ℕ) → m.role ≡ Responder → m.dlci ≡ 18 → reset own m ≡ new_mux Responder 18 m.largest own m.account.cap
reset_new m own r d = ap (λ (x : Role). new_mux x m.dlci m.largest own m.account.cap) r ∙ ap (λ (n : ℕ). new_mux Responder n m.largest own m.account.cap) d

new_state : (server : Server) (gift : Gift) → server.mux.role ≡ Responder → server.mux.dlci ≡ 18 → State [] (lets_go_on Rfcomm (remuxed server) gift).server
new_state server gift r d = subst (λ (m : Mux). Pays 18 Responder m []) (sym (reset_new server.mux server.mux.largest r d)) (new_pays 18 Responder server.mux.largest server.mux.largest server.mux.account.cap)

-- where the channel of the multiplexer stays
none_passed : (kept : List Occurrence) (psm : ℕ) (server : Server) → State (filter_map passed_by kept) server → State (filter_map passed_by (kept ++ Closed psm ∷ [])) server
none_passed kept psm server s = subst (λ (ps : List Passed). State ps server) (sym (filter_map-append passed_by kept (Closed psm ∷ []) ∙ append-nil (filter_map passed_by kept))) s

closed_state : (kept : List Occurrence) (server : Server) (gift : Gift) → State (filter_map passed_by kept) server → (psm : ℕ) → State (filter_map passed_by (cond (psm == rfcomm_psm) [] (kept ++ Closed psm ∷ []))) (closed_on psm server gift).server
closed_state kept server gift s psm =
    let passed : List Passed = filter_map passed_by kept in
    let same = paying_kept passed server.mux server.frame s in
    by_psm (λ p. State (filter_map passed_by (cond (p == rfcomm_psm) [] (kept ++ Closed p ∷ []))) (closed_on p server gift).server)
    (none_passed kept 0x0001 (unreplied server) (same_state passed server (unreplied server) refl refl s))
    (new_state server gift same.0 same.1)
    (none_passed kept 0x1001 (lets_go_on L2cap (unanswered server) gift).server (same_state passed server (lets_go_on L2cap (unanswered server) gift).server refl refl s))
    (λ p a b c.
    subst (λ (k : Bool). State (filter_map passed_by (cond k [] (kept ++ Closed p ∷ []))) (closed_on p server gift).server) (sym b)
    (subst (λ (r : Reacted). State (filter_map passed_by (kept ++ Closed p ∷ [])) r.server) (sym (cond-false _ _ _ a ∙ (cond-false _ _ _ b ∙ cond-false _ _ (let r : Reacted = record { server = server; gift = gift } in r) c))) (none_passed kept p server s)))
    psm

down_so : (b : Bool) (first : Reacted) → first.server.listener.service.failed ≡ b → first.server.mux.role ≡ Responder → first.server.mux.dlci ≡ 18
    → (cond b first (lets_go_on Rfcomm (remuxed (unreplied first.server)) first.gift)).server.listener.service.failed ≡ false → State [] (cond b first (lets_go_on Rfcomm (remuxed (unreplied first.server)) first.gift)).server
down_so true first is r d works = let never : true ≡ false = sym is ∙ works in absurd cc
down_so false first is r d works = new_state (unreplied first.server) first.gift r d

down_works : (server : Server) (gift : Gift) (b : Bool) (r : Reacted) → server.listener.service.failed ≡ b → (let no : Reacted = record { server = server; gift = gift } in (cond b no r).server.listener.service.failed ≡ false → r.server.listener.service.failed ≡ false)
down_works server gift true r is works = let never : true ≡ false = sym is ∙ works in absurd cc
down_works server gift false r is works = works

down_state : (passed : List Passed) (server : Server) (gift : Gift) → State passed server → (done LinkDown (let at : Reacted = record { server = server; gift = gift } in at)).server.listener.service.failed ≡ false
    → State [] (done LinkDown (let at : Reacted = record { server = server; gift = gift } in at)).server
down_state passed server gift s works =
    let first : Reacted = lets_go_on L2cap (unanswered server) gift in
    let same = paying_kept passed server.mux server.frame s in
    let after = down_works server gift server.listener.service.failed (lets_go_twice first) refl works in
    unless_works server gift (lets_go_twice first) (State []) works (down_so first.server.listener.service.failed first refl same.0 same.1 after)

-- ---- it is asked what it sends

-- the multiplexer that takes of a response what it may, and keeps its frame
record Takes (passed : List Passed) (server after : Server) : Type 0 where
  pays : Pays 18 Responder after.mux (frames passed)
  frame_is : after.frame ≡ server.frame

filled_takes : (passed : List Passed) (server : Server) → Pays 18 Responder server.mux (frames passed) → Takes passed server (filled server)
filled_takes passed server pays = by (is_ready server.mux && not (is_empty server.listener.service.answer)) (answer_cut (taken_count (length server.listener.service.answer) server.mux) server.listener.service)
  where
    by : (b : Bool) (service : Service) → Takes passed server (cond b (with_service service (record server { mux = sends server.listener.service.answer server.mux })) server)
    by true service = record { pays = sends_pays 18 Responder server.listener.service.answer server.mux (frames passed) pays; frame_is = refl }
    by false service = record { pays = pays; frame_is = refl }

said_open : (passed : List Passed) (server : Server) (o : Option Said) → next server.mux ≡ o → Pays 18 Responder server.mux (frames passed) → Paying passed (said_on o server).mux (said_on o server).frame
said_open passed server None says pays = pays
said_open passed server (Some said) says pays = record { before = server.mux; said = said; says = says; frame_is = refl; after_is = refl; pays = pays }

leaves_open : (passed : List Passed) (server : Server) (o : Option Said) → next server.mux ≡ o → Pays 18 Responder server.mux (frames passed) → Paying passed (leaves_with o server).mux (leaves_with o server).frame
leaves_open passed server (Some said) says pays = said_open passed server (Some said) says pays
leaves_open passed server None says pays = by (breaks_now (said_on None server))
  where
    by : (b : Bool) → Paying passed (cond b (left_by (said_on None server)) (said_on None server)).mux (cond b (left_by (said_on None server)) (said_on None server)).frame
    by true = said_open passed (record (said_on None server) { mux = leaves server.mux }) (next (leaves server.mux)) refl (leaves_pays 18 Responder server.mux (frames passed) pays)
    by false = pays

framed_open : (passed : List Passed) (server : Server) (o : Option PlainFrame) → server.frame ≡ o → Paying passed server.mux o → Paying passed (framed_by o server).mux (framed_by o server).frame
framed_open passed server (Some f) is paying = subst (Paying passed server.mux) (sym is) paying
framed_open passed server None is pays =
    let full = filled_takes passed server pays in
    leaves_open passed (filled server) (next (filled server).mux) refl full.pays

lends_state : (passed : List Passed) (server : Server) (o : Option Outlet) → State passed server → State passed (lends_by o server)
lends_state passed server (Some outlet) s = s
lends_state passed server None s = by (is_empty server.reply && is_empty server.listener.service.response)
  where
    by : (b : Bool) → State passed (cond b (record (framed server) { lent = outlet_of (framed server) }) (record server { lent = outlet_of server }))
    by true = same_state passed (framed server) (record (framed server) { lent = outlet_of (framed server) }) refl refl (framed_open passed server server.frame refl s)
    by false = same_state passed server (record server { lent = outlet_of server }) refl refl s

-- ---- all occurrences

next_state : (kept : List Occurrence) (at : Reacted) (one : Occurrence) → State (filter_map passed_by kept) at.server → GoesQuietly at one → State (filter_map passed_by (cond (closes rfcomm_psm one) [] (kept ++ one ∷ []))) (done one at).server
next_state kept at (Came psm sdu) s g =
    subst (λ (ps : List Passed). State ps (done (Came psm sdu) at).server) (sym (filter_map-append passed_by kept (Came psm sdu ∷ [])))
    (unless_works at.server at.gift (hears_on psm sdu at.server at.gift) (State (with_one (filter_map passed_by kept) (Came psm sdu))) g.works
    (came_state (filter_map passed_by kept) sdu at.server at.gift s psm (λ is. g.quiet sdu (ap (λ (p : ℕ). Came p sdu) is))))
next_state kept at (Went psm sdu) s g =
    let lent = g.own.0 in
    subst (λ (ps : List Passed). State ps (done (Went psm sdu) at).server) (sym (filter_map-append passed_by kept (Went psm sdu ∷ [])))
    (went_state (filter_map passed_by kept) psm sdu at.server at.server.lent lent g.own.1 g.own.2 g.own.3 g.own.4 s)
next_state kept at (Closed psm) s g =
    unless_works at.server at.gift (closed_on psm at.server at.gift) (State (filter_map passed_by (cond (psm == rfcomm_psm) [] (kept ++ Closed psm ∷ [])))) g.works (closed_state kept at.server at.gift s psm)
next_state kept at LinkDown s g = down_state (filter_map passed_by kept) at.server at.gift s g.works
next_state kept at Asked s g =
    subst (λ (ps : List Passed). State ps (lends at.server)) (sym (filter_map-append passed_by kept (Asked ∷ [])))
    (more_none (filter_map passed_by kept) (lends at.server) (lends_state (filter_map passed_by kept) at.server at.server.lent s))
next_state kept at (Answering answers) s g =
    subst (λ (ps : List Passed). State ps at.server) (sym (filter_map-append passed_by kept (Answering answers ∷ []))) (more_none (filter_map passed_by kept) at.server s)

all_states : (kept rest : List Occurrence) (at : Reacted) → State (filter_map passed_by kept) at.server → AllGoQuietly at rest → IsCovered 18 Responder (filter_map passed_by (since_from rfcomm_psm kept rest))
all_states kept [] at s all = paying_covered (filter_map passed_by kept) at.server.mux at.server.frame s
all_states kept (one ∷ rest) at s all = all_states (cond (closes rfcomm_psm one) [] (kept ++ one ∷ [])) rest (done one at) (next_state kept at one s all.0) all.1

pub servers-are_covered : ServersAreCovered
servers-are_covered settings content occurrences all = all_states [] occurrences (begun settings content) (new_pays 18 Responder (settings.mtu - 6) (settings.mtu - 6) settings.credits) all
