-- A server lends its response over L2CAP only while one waits.
use Rattle.std.proofs.Common.{Bool, true, false, cond, ◌≡◌, ℕ, ◌&&◌, List, [], ◌∷◌, Option, Some, None, is_some, refl, sym, ap, subst, ◌∙◌}
use Rattle.std.specs.Prelude.{not}
use Rattle.std.proofs.lemmas.Bool.{cond_both, cond-false}
use Rattle.link_talk.specs.bt_base.specs.declared.settings.Transport.TheVariants.{L2cap, Rfcomm}
use Rattle.push_model.specs.rfcomm_frames.specs.FrameReading.{is_empty}
use Rattle.push_model.specs.declared.outlet.Outlet.{Outlet}
use Rattle.push_model.specs.declared.outlet.Outlet.TheVariants.{Records, Direct, Muxed}
use Rattle.push_model.specs.Service.{Service, Served, response_over, is_ignored, hears_packet}
use Rattle.push_model.specs.Sessions.{Gift, hears}
use Rattle.push_model.specs.Server.{Server, Reacted, hears_on, framed, outlet_of, lends_by, taken_by, unlent, closed_on, lets_go_on, remuxed, unreplied, unanswered}
use Rattle.push_laws.specs.Occurrences.{Occurrence, Came, Went, Closed, LinkDown, Asked, Answering, done}
use Rattle.push_laws.specs.Parties.{NoFrame}
use Rattle.push_laws.proofs.Servers.{by_psm}

abbrev pub LendsWhole : Server → Type 0
LendsWhole server = server.lent ≡ Some Direct → server.listener.service.response ≡ [] → ⊥

-- ---- a request leaves a response that waits

no_octet : (octet : ℕ) (octets : List ℕ) → octet ∷ octets ≡ [] → ⊥
no_octet octet octets e = cc

over_waits : (response : List ℕ) (service : Service) → (response_over L2cap response service).response ≡ [] → service.response ≡ []
over_waits [] service e = e
over_waits (octet ∷ octets) service e = absurd (no_octet octet octets e)

heard_waits : (sdu : List ℕ) (service : Service) (gift : Gift) → (hears_packet L2cap sdu service gift).service.response ≡ [] → service.response ≡ []
heard_waits sdu service gift =
    cond_both (is_ignored L2cap sdu service) _ _ (λ (s : Served). s.service.response ≡ [] → service.response ≡ [])
    (λ ignored e. e)
    (λ taken e. let h = hears L2cap sdu service.sessions gift in over_waits h.response _ e)

-- ---- what is lent

not_direct : (o : Option Outlet) → o ≡ None → o ≡ Some Direct → ⊥
not_direct o a b = let f : None ≡ Some Direct = sym a ∙ b in absurd cc

unlent_records : (o : Option Outlet) → unlent Records o ≡ Some Direct → o ≡ Some Direct
unlent_records None e = e
unlent_records (Some Records) e = absurd (let f : None ≡ Some Direct = e in cc)
unlent_records (Some Direct) e = refl
unlent_records (Some Muxed) e = absurd (let f : Some Muxed ≡ Some Direct = e in cc)

unlent_muxed : (o : Option Outlet) → unlent Muxed o ≡ Some Direct → o ≡ Some Direct
unlent_muxed None e = e
unlent_muxed (Some Records) e = absurd (let f : Some Records ≡ Some Direct = e in cc)
unlent_muxed (Some Direct) e = refl
unlent_muxed (Some Muxed) e = absurd (let f : None ≡ Some Direct = e in cc)

unlent_direct : (o : Option Outlet) → unlent Direct o ≡ Some Direct → ⊥
unlent_direct None e = let f : None ≡ Some Direct = e in absurd cc
unlent_direct (Some Records) e = let f : Some Records ≡ Some Direct = e in absurd cc
unlent_direct (Some Direct) e = let f : None ≡ Some Direct = e in absurd cc
unlent_direct (Some Muxed) e = let f : Some Muxed ≡ Some Direct = e in absurd cc

outlet_direct : (server : Server) → outlet_of server ≡ Some Direct → server.listener.service.response ≡ [] → ⊥
outlet_direct server e none = by (not (is_empty server.reply)) (is_some server.frame) (sym (ap (λ (r : List ℕ). if_outlet server (not (is_empty r))) none) ∙ e)
  where
    if_outlet : Server → Bool → Option Outlet
    if_outlet server waits = cond (not (is_empty server.reply)) (Some Records) (cond waits (Some Direct) (cond (is_some server.frame) (Some Muxed) None))

    by : (a b : Bool) → cond a (Some Records) (cond b (Some Muxed) None) ≡ Some Direct → ⊥
    by true b f = let g : Some Records ≡ Some Direct = f in absurd cc
    by false true f = let g : Some Muxed ≡ Some Direct = f in absurd cc
    by false false f = let g : None ≡ Some Direct = f in absurd cc

taken_whole : (o : Option Outlet) (server : Server) → o ≡ server.lent → LendsWhole server → LendsWhole (taken_by o server)
taken_whole None server is w e = absurd (not_direct server.lent (sym is) e)
taken_whole (Some Records) server is w e = absurd (not_direct None refl e)
taken_whole (Some Direct) server is w e = absurd (not_direct None refl e)
taken_whole (Some Muxed) server is w e = absurd (not_direct None refl e)

lends_whole : (o : Option Outlet) (server : Server) → LendsWhole server → LendsWhole (lends_by o server)
lends_whole None server w =
    let full : Server = framed server in
    cond_both (is_empty server.reply && is_empty server.listener.service.response) (record full { lent = outlet_of full }) (record server { lent = outlet_of server }) LendsWhole (λ e. outlet_direct full) (λ e. outlet_direct server)
lends_whole (Some outlet) server w = w

-- ---- any occurrence

unless : (failed : Bool) (server : Server) (gift : Gift) (after : Reacted) → LendsWhole server → LendsWhole after.server → LendsWhole (cond failed (let r : Reacted = record { server = server; gift = gift } in r) after).server
unless true server gift after x y = x
unless false server gift after x y = y

came_whole : (sdu : List ℕ) (at : Reacted) → LendsWhole at.server → (psm : ℕ) → NoFrame (Came psm sdu) → LendsWhole (hears_on psm sdu at.server at.gift).server
came_whole sdu at w psm =
    by_psm (λ p. NoFrame (Came p sdu) → LendsWhole (hears_on p sdu at.server at.gift).server)
    (λ direct. cond_both (is_empty at.server.reply) _ _ LendsWhole (λ e. w) (λ e. w))
    (λ direct. absurd (direct refl))
    (λ direct e none. w e (heard_waits sdu at.server.listener.service at.gift none))
    (λ p x y z direct. subst (λ (r : Reacted). LendsWhole r.server) (sym (cond-false _ _ _ x ∙ (cond-false _ _ _ y ∙ cond-false _ _ (let r : Reacted = record { server = at.server; gift = at.gift } in r) z))) w)
    psm

closed_whole : (at : Reacted) → LendsWhole at.server → (psm : ℕ) → LendsWhole (closed_on psm at.server at.gift).server
closed_whole at w psm =
    by_psm (λ p. LendsWhole (closed_on p at.server at.gift).server)
    (λ e none. w (unlent_records at.server.lent e) none)
    (λ e none. w (unlent_muxed at.server.lent e) none)
    (λ e none. unlent_direct at.server.lent e)
    (λ p x y z. subst (λ (r : Reacted). LendsWhole r.server) (sym (cond-false _ _ _ x ∙ (cond-false _ _ _ y ∙ cond-false _ _ (let r : Reacted = record { server = at.server; gift = at.gift } in r) z))) w)
    psm

down_whole : (at : Reacted) → LendsWhole (let first : Reacted = lets_go_on L2cap (unanswered at.server) at.gift in cond first.server.listener.service.failed first (lets_go_on Rfcomm (remuxed (unreplied first.server)) first.gift)).server
down_whole at =
    let first : Reacted = lets_go_on L2cap (unanswered at.server) at.gift in
    cond_both first.server.listener.service.failed first (lets_go_on Rfcomm (remuxed (unreplied first.server)) first.gift) (λ (r : Reacted). LendsWhole r.server)
    (λ failed e none. unlent_direct at.server.lent e) (λ on e none. unlent_direct at.server.lent (unlent_records (unlent Direct at.server.lent) (unlent_muxed (unlent Records (unlent Direct at.server.lent)) e)))

pub whole_more : (one : Occurrence) (at : Reacted) → NoFrame one → LendsWhole at.server → LendsWhole (done one at).server
whole_more (Came psm sdu) at direct w = unless at.server.listener.service.failed at.server at.gift (hears_on psm sdu at.server at.gift) w (came_whole sdu at w psm direct)
whole_more (Went psm sdu) at direct w = taken_whole at.server.lent at.server refl w
whole_more (Closed psm) at direct w = unless at.server.listener.service.failed at.server at.gift (closed_on psm at.server at.gift) w (closed_whole at w psm)
whole_more LinkDown at direct w =
    let first : Reacted = lets_go_on L2cap (unanswered at.server) at.gift in
    unless at.server.listener.service.failed at.server at.gift (cond first.server.listener.service.failed first (lets_go_on Rfcomm (remuxed (unreplied first.server)) first.gift)) w (down_whole at)
whole_more Asked at direct w = lends_whole at.server.lent at.server w
whole_more (Answering answers) at direct w = w
