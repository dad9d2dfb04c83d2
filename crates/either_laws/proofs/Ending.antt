-- Behind the end of a link a server is as a new one, over what its inbox holds then.
use Rattle.std.proofs.Common.{◌≡◌, ◌-◌, ℕ, Bool, true, false, List, [], ◌∷◌, ◌++◌, Option, Some, None, Ok, Err, refl, sym, ap, subst, ◌∙◌, arith}
use Rattle.std.proofs.lemmas.Bool.{cond-false}
use Rattle.request_laws.specs.bt_base.specs.declared.settings.Serves.{Serves}
use Rattle.request_laws.specs.bt_base.specs.declared.settings.Settings.{Settings}
use Rattle.request_laws.specs.bt_base.specs.declared.settings.Transport.{Transport}
use Rattle.request_laws.specs.bt_base.specs.declared.settings.Transport.TheVariants.{L2cap, Rfcomm}
use Rattle.request_laws.specs.bt_base.specs.Objects.{Object, Contents}
use Rattle.request_laws.specs.obex_session.specs.declared.course.Course.TheVariants.{Rests}
use Rattle.request_laws.specs.obex_session.specs.InboxCalls.{Answer}
use Rattle.request_laws.specs.obex_session.specs.Past.{Heard}
use Rattle.request_laws.specs.obex_session.proofs.RuleLaws.{held}
use Rattle.request_laws.specs.rfcomm_frames.specs.declared.connection.Role.{Role}
use Rattle.request_laws.specs.rfcomm_frames.specs.declared.connection.Role.TheVariants.{Responder}
use Rattle.request_laws.specs.push_model.specs.rfcomm_model.specs.Machine.{Mux, new_mux, reset}
use Rattle.request_laws.specs.push_model.specs.declared.outlet.Outlet.{Outlet}
use Rattle.request_laws.specs.push_model.specs.declared.outlet.Outlet.TheVariants.{Records, Direct, Muxed}
use Rattle.request_laws.specs.push_model.specs.Server.{Server, Reacted, unlent, lets_go_on, lets_go_twice, remuxed, unreplied, unanswered}
use Rattle.request_laws.specs.push_laws.specs.Faults.{heard_over, faults_of, objects}
use Rattle.request_laws.specs.push_laws.specs.Gains.{objects as spelled}
use Rattle.request_laws.specs.push_laws.specs.Laws.{stored_in, new_over}
use Rattle.request_laws.specs.push_laws.specs.Occurrences.{Occurrence, LinkDown, done, all_done}
use Rattle.request_laws.specs.push_laws.specs.Premises.{IsHeard, AllGranted, MayCome, AllMayCome}
use Rattle.request_laws.specs.push_laws.specs.Readings.{octets_heard}
use Rattle.request_laws.specs.push_laws.proofs.Attending.{Holding, holding_of}
use Rattle.request_laws.specs.push_laws.proofs.Frames.{reached_kept}
use Rattle.request_laws.specs.push_laws.proofs.Gaining.{Clear, clean, clean_same, clear_more, gains-what_is_heard}
use Rattle.request_laws.specs.push_laws.proofs.Listening.{pasts, direct_closed, carried_closed}
use Rattle.request_laws.specs.push_laws.proofs.Running.{most}
use Rattle.request_laws.specs.push_laws.proofs.Sessions.{headers}
use Rattle.request_laws.specs.push_laws.proofs.Turns.{first_clear}
use Rattle.either_laws.specs.Anew.{IsAsNew, LinksEndAsNew}
use Rattle.either_laws.proofs.Made.{IsMade, made_more, first_made}

-- whatever its inbox stored
record EndsAsNew (settings : Settings) (at : Reacted) : Type 0 where
  stored : List Object
  as_new : IsAsNew settings stored at

-- nothing is lent, whatever was
none_lent : (o : Option Outlet) → unlent Muxed (unlent Records (unlent Direct o)) ≡ None
none_lent None = refl
none_lent (Some Records) = refl
none_lent (Some Direct) = refl
none_lent (Some Muxed) = refl

-- where no fault is left all that is left is granted
all_left : (answers : List Answer) → faults_of answers ≡ 0 → AllGranted answers
all_left [] none = tt
all_left (Ok done ∷ answers) none = (refl, all_left answers none)
all_left (Err fault ∷ answers) none = absurd (omega (arith, none))

module _ (settings : Settings) (before : List Object) where
  none_held : (stored : List Object) (on : Transport) → (let contents : Contents = record { stored = stored; pending = None } in held stored (headers (most settings) (pasts [] [] []) on) ≡ contents)
  none_held stored L2cap = refl
  none_held stored Rfcomm = refl

  -- a server without anything that waits
  abbrev bare : Serves → (direct : ℕ) → Bool → (carried : ℕ) → Bool → Bool → Mux → Option Outlet → Server
  bare serves direct offered carried other failed mux lent = record {
    serves = serves;
    reply = [];
    listener = record {
      service = record {
        sessions = record { direct = record { maximum = direct; offered = offered; course = Rests }; carried = record { maximum = carried; offered = other; course = Rests } };
        response = [];
        answer = [];
        failed = failed;
      };
      breaks = false;
    };
    mux = mux;
    held = [];
    frame = None;
    lent = lent;
  }

  down_ends : (past : List Occurrence) (at : Reacted) → Clear settings before past at → IsMade settings.serves at.server → MayCome AllGranted (IsHeard settings past at.server.listener.service) settings past at LinkDown → EndsAsNew settings (done LinkDown at)
  down_ends past at c made may =
      let first : Reacted = lets_go_on L2cap (unanswered at.server) at.gift in
      let second : Reacted = lets_go_on Rfcomm (remuxed (unreplied first.server)) first.gift in
      let direct = heard_over L2cap (clean settings before past) in
      let carried = heard_over Rfcomm (clean settings before past) in
      let stored : List Object = before ++ objects settings (clean settings before past) in
      let l = c.holds.upholds.listens in
      let v = direct_closed (most settings) direct carried c.holds.got stored (unanswered at.server).listener at.server.held at.gift (record { tail = l.tail; serves = l.serves; packets = l.packets; cut = l.cut }) in
      let w = carried_closed (most settings) [] carried c.holds.got stored first.server.listener first.server.held first.gift v in
      let is : done LinkDown at ≡ second = cond-false at.server.listener.service.failed _ (lets_go_twice first) l.serves.enough ∙ cond-false first.server.listener.service.failed first second v.serves.enough in
      let holding : Holding settings past at = subst (λ (os : List Occurrence). Holding settings os at) (clean_same settings before past) (holding_of settings before (clean settings before past) at c.holds) in
      let m : Mux = at.server.mux in
      let k = reached_kept (settings.mtu - 6) settings.credits (record { mux = m; talk = holding.carries.talk; got = octets_heard past }) holding.carries.reached in
      let sessions = at.server.listener.service.sessions in
      let failed = second.server.listener.service.failed in
      let mux = reset m.largest m in
      let lent = unlent Muxed (unlent Records (unlent Direct at.server.lent)) in
      let direct_most = sessions.direct.maximum in
      let carried_most = sessions.carried.maximum in
      let serves = settings.serves in
      record {
        stored = stored;
        as_new = record {
          server_is = ap (λ (r : Reacted). r.server) is
              ∙ ap (λ (s : Serves). bare s direct_most sessions.direct.offered carried_most sessions.carried.offered failed mux lent) made.0
              ∙ ap (λ (n : ℕ). bare serves n sessions.direct.offered carried_most sessions.carried.offered failed mux lent) (w.serves.stands.maxima L2cap)
              ∙ ap (λ (b : Bool). bare serves (most settings L2cap) b carried_most sessions.carried.offered failed mux lent) made.1.0
              ∙ ap (λ (n : ℕ). bare serves (most settings L2cap) true n sessions.carried.offered failed mux lent) (w.serves.stands.maxima Rfcomm)
              ∙ ap (λ (b : Bool). bare serves (most settings L2cap) true (most settings Rfcomm) b failed mux lent) made.1.1
              ∙ ap (λ (b : Bool). bare serves (most settings L2cap) true (most settings Rfcomm) false b mux lent) w.serves.enough
              ∙ ap (λ (r : Role). bare serves (most settings L2cap) true (most settings Rfcomm) false false (new_mux r m.dlci m.largest m.largest m.account.cap) lent) k.0
              ∙ ap (λ (d : ℕ). bare serves (most settings L2cap) true (most settings Rfcomm) false false (new_mux Responder d m.largest m.largest m.account.cap) lent) k.1
              ∙ ap (λ (n : ℕ). bare serves (most settings L2cap) true (most settings Rfcomm) false false (new_mux Responder 18 n n m.account.cap) lent) k.2
              ∙ ap (λ (n : ℕ). bare serves (most settings L2cap) true (most settings Rfcomm) false false (new_mux Responder 18 (settings.mtu - 6) (settings.mtu - 6) n) lent) k.3
              ∙ ap (λ (o : Option Outlet). bare serves (most settings L2cap) true (most settings Rfcomm) false false (new_mux Responder 18 (settings.mtu - 6) (settings.mtu - 6) settings.credits) o) (none_lent at.server.lent);
          content_is = ap (λ (r : Reacted). r.gift.content) is
              ∙ (w.serves.stands.holds ∙ ap (λ (contents : Contents). Some contents) (ap (λ (tail : List Heard). held stored (headers (most settings) (pasts [] [] tail) w.serves.stands.on)) w.cut.quiet ∙ none_held stored w.serves.stands.on));
          granted = all_left (done LinkDown at).gift.answers (clear_more settings before past LinkDown at c may).spared;
        };
      }

  all_end : (front past : List Occurrence) (at : Reacted) → Clear settings before past at → IsMade settings.serves at.server → AllMayCome settings past at (front ++ LinkDown ∷ []) → EndsAsNew settings (all_done (front ++ LinkDown ∷ []) at)
  all_end [] past at c made may = down_ends past at c made may.0
  all_end (one ∷ front) past at c made may = all_end front (past ++ one ∷ []) (done one at) (clear_more settings before past one at c may.0) (made_more settings.serves one at made) may.1

same_stored : (xs ys : List Object) → Some xs ≡ Some ys → xs ≡ ys
same_stored xs ys same = cc

pub links_end_as_new : LinksEndAsNew
links_end_as_new settings before list may =
    let whole : List Occurrence = list ++ LinkDown ∷ [] in
    let ends = all_end settings before list [] (new_over settings before) (first_clear settings before) (first_made settings) may in
    let now = ends.as_new in
    let same : ends.stored ≡ before ++ spelled settings whole = same_stored ends.stored (before ++ spelled settings whole) (sym (ap stored_in now.content_is) ∙ gains-what_is_heard settings before whole may) in
    record { server_is = now.server_is; content_is = now.content_is ∙ ap (λ (stored : List Object). Some (let contents : Contents = record { stored = stored; pending = None } in contents)) same; granted = now.granted }
