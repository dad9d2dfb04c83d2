-- A server to which nothing but requests for service records came on its link answers each in the act in which it hears it: the server.
use Rattle.std.proofs.Common.{◌≡◌, ◌⊎◌, inl, inr, ℕ, Bool, true, false, cond, not, ◌||◌, ◌&&◌, List, [], ◌∷◌, length, Option, Some, None, is_some, refl, sym, ap, subst, ◌∙◌}
use Rattle.std.specs.List.{AllByRecursion}
use Rattle.std.proofs.lemmas.Bool.{cond_both, cond-false}
use Rattle.pair_laws.specs.bt_base.specs.declared.settings.Transport.TheVariants.{L2cap, Rfcomm}
use Rattle.pair_laws.specs.channel_model.specs.declared.event.ChannelEvent.{ChannelEvent}
use Rattle.pair_laws.specs.channel_model.specs.declared.event.ChannelEvent.TheVariants.{Opened, Closed, Features, FeaturesLost, DisconnectLost}
use Rattle.pair_laws.specs.channel_model.specs.Value.{Channels}
use Rattle.pair_laws.specs.push_model.specs.declared.outlet.Outlet.{Outlet}
use Rattle.pair_laws.specs.push_model.specs.declared.outlet.Outlet.TheVariants.{Records, Direct, Muxed}
use Rattle.pair_laws.specs.push_model.specs.rfcomm_frames.specs.declared.connection.Role.{Role}
use Rattle.pair_laws.specs.push_model.specs.rfcomm_frames.specs.declared.connection.Role.TheVariants.{Responder}
use Rattle.pair_laws.specs.push_model.specs.rfcomm_frames.specs.FrameReading.{is_empty}
use Rattle.pair_laws.specs.push_model.specs.rfcomm_frames.specs.Frames.{PlainFrame}
use Rattle.pair_laws.specs.push_model.specs.rfcomm_model.specs.Machine.{Mux, is_ready, leaves, sends, taken_count, new_mux}
use Rattle.pair_laws.specs.push_model.specs.rfcomm_model.specs.Saying.{Said, next}
use Rattle.pair_laws.specs.push_model.specs.rfcomm_model.proofs.Keeping.{SaysKept, answers_keep}
use Rattle.pair_laws.specs.push_model.specs.Service.{answer_cut}
use Rattle.pair_laws.specs.push_model.specs.Sessions.{Gift}
use Rattle.pair_laws.specs.push_model.specs.Server as server
use Rattle.pair_laws.specs.push_model.specs.Server.{Server, Reacted, Lent, search_psm, hears_search, hears_up, with_service, filled, said_on, breaks_now, left_by, leaves_with, framed_by, framed, outlet_of, lends_new, lends_by, lends, lent_by, lent_sdu, lets_go_on, lets_go_twice, remuxed, unanswered, unreplied}
use Rattle.pair_laws.specs.push_laws.proofs.Servers.{by_psm}
use Rattle.pair_laws.specs.host_model.specs.Endpoints.{Endpoint, is_of, endpoint_of, takes_sdu}
use Rattle.pair_laws.specs.channel_model.specs.Calls.{sends as sends_to}
use Rattle.pair_laws.specs.host_model.specs.Pdus.{sdu_of}
use Rattle.pair_laws.specs.host_model.specs.Servers as servers
use Rattle.pair_laws.specs.host_model.specs.Servers.{ServerProfile, is_told, next_stride}

-- all SDUs that came on its link were of service discovery
abbrev pub SearchesAlone : List Endpoint → Type 0
SearchesAlone endpoints = AllByRecursion (λ (e : Endpoint). is_of search_psm e ≡ true) endpoints

-- nothing waits to be sent but a reply, and the multiplexer is silent
pub record IsClean (s : Server) : Type 0 where
  pub lent : (s.lent ≡ None) ⊎ (s.lent ≡ Some Records)
  pub none_response : s.listener.service.response ≡ []
  pub none_answer : s.listener.service.answer ≡ []
  pub none_frame : s.frame ≡ None
  pub unbroken : s.listener.breaks ≡ false
  pub silent : next s.mux ≡ None

or_left : (a b : Bool) → (a || b) ≡ false → a ≡ false
or_left false b is = refl
or_left true b is = is

-- ---- its role

abbrev Role_is : Server → Type 0
Role_is s = s.mux.role ≡ Responder

said_role : (o : Option Said) (s : Server) → SaysKept s.mux o → Role_is s → Role_is (said_on o s)
said_role None s kept is = is
said_role (Some said) s kept is = kept.0 ∙ is

leaves_role : (m : Mux) → (leaves m).role ≡ m.role
leaves_role m = cond_both _ _ m (λ (x : Mux). x.role ≡ m.role) (λ e. refl) (λ e. refl)

sends_role : (octets : List ℕ) (m : Mux) → (sends octets m).role ≡ m.role
sends_role octets m = cond_both _ _ m (λ (x : Mux). x.role ≡ m.role) (λ e. refl) (λ e. refl)

next_kept : (m : Mux) → SaysKept m (next m)
next_kept m = answers_keep m.answers m

filled_role : (s : Server) → Role_is s → Role_is (filled s)
filled_role s is =
    let answer = s.listener.service.answer in
    cond_both (is_ready s.mux && not (is_empty answer)) (with_service (answer_cut (taken_count (length s.listener.service.answer) s.mux) s.listener.service) (record s { mux = sends answer s.mux })) s Role_is (λ e. sends_role answer s.mux ∙ is) (λ e. is)

left_role : (s : Server) → Role_is s → Role_is (left_by s)
left_role s is = let t : Server = record s { mux = leaves s.mux } in said_role (next (leaves s.mux)) t (next_kept (leaves s.mux)) (leaves_role s.mux ∙ is)

leaves_with_role : (o : Option Said) (s : Server) → SaysKept s.mux o → Role_is s → Role_is (leaves_with o s)
leaves_with_role None s kept is = let quiet = said_on None s in cond_both (breaks_now quiet) (left_by quiet) quiet Role_is (λ e. left_role quiet is) (λ e. is)
leaves_with_role (Some said) s kept is = said_role (Some said) s kept is

framed_role : (o : Option PlainFrame) (s : Server) → Role_is s → Role_is (framed_by o s)
framed_role None s is = let full = filled s in leaves_with_role (next full.mux) full (next_kept full.mux) (filled_role s is)
framed_role (Some frame) s is = is

pub lends_role : (o : Option Outlet) (s : Server) → Role_is s → Role_is (lends_by o s)
lends_role None s is =
    cond_both (is_empty s.reply && is_empty s.listener.service.response) (let full = framed s in record full { lent = outlet_of full }) (record s { lent = outlet_of s }) Role_is (λ e. framed_role s.frame s is) (λ e. is)
lends_role (Some outlet) s is = is

pub taken_role : (o : Option Outlet) (s : Server) → Role_is s → Role_is (server.taken_by o s)
taken_role None s is = is
taken_role (Some Records) s is = is
taken_role (Some Direct) s is = is
taken_role (Some Muxed) s is = is

-- ---- whether its inbox was short

abbrev failed : Server → Bool
failed s = s.listener.service.failed

abbrev Fails_as : Server → Server → Type 0
Fails_as s t = failed t ≡ failed s

said_fails : (o : Option Said) (s : Server) → Fails_as s (said_on o s)
said_fails None s = refl
said_fails (Some said) s = refl

leaves_fails : (o : Option Said) (s : Server) → Fails_as s (leaves_with o s)
leaves_fails None s = let quiet = said_on None s in cond_both (breaks_now quiet) (left_by quiet) quiet (Fails_as s) (λ e. said_fails (next (leaves quiet.mux)) (record quiet { mux = leaves quiet.mux })) (λ e. refl)
leaves_fails (Some said) s = refl

filled_fails : (s : Server) → Fails_as s (filled s)
filled_fails s =
    let answer = s.listener.service.answer in
    cond_both (is_ready s.mux && not (is_empty answer)) (with_service (answer_cut (taken_count (length s.listener.service.answer) s.mux) s.listener.service) (record s { mux = sends answer s.mux })) s (Fails_as s) (λ e. refl) (λ e. refl)

framed_fails : (o : Option PlainFrame) (s : Server) → Fails_as s (framed_by o s)
framed_fails None s = let full = filled s in leaves_fails (next full.mux) full ∙ filled_fails s
framed_fails (Some frame) s = refl

pub lends_fails : (o : Option Outlet) (s : Server) → Fails_as s (lends_by o s)
lends_fails None s =
    cond_both (is_empty s.reply && is_empty s.listener.service.response) (let full = framed s in record full { lent = outlet_of full }) (record s { lent = outlet_of s }) (Fails_as s) (λ e. framed_fails s.frame s) (λ e. refl)
lends_fails (Some outlet) s = refl

pub taken_fails : (o : Option Outlet) (s : Server) → Fails_as s (server.taken_by o s)
taken_fails None s = refl
taken_fails (Some Records) s = refl
taken_fails (Some Direct) s = refl
taken_fails (Some Muxed) s = refl

-- ---- the reply that waits

abbrev Waits_as : Server → Server → Type 0
Waits_as s t = t.reply ≡ s.reply

said_reply : (o : Option Said) (s : Server) → Waits_as s (said_on o s)
said_reply None s = refl
said_reply (Some said) s = refl

leaves_reply : (o : Option Said) (s : Server) → Waits_as s (leaves_with o s)
leaves_reply None s = let quiet = said_on None s in cond_both (breaks_now quiet) (left_by quiet) quiet (Waits_as s) (λ e. said_reply (next (leaves quiet.mux)) (record quiet { mux = leaves quiet.mux })) (λ e. refl)
leaves_reply (Some said) s = refl

filled_reply : (s : Server) → Waits_as s (filled s)
filled_reply s =
    let answer = s.listener.service.answer in
    cond_both (is_ready s.mux && not (is_empty answer)) (with_service (answer_cut (taken_count (length s.listener.service.answer) s.mux) s.listener.service) (record s { mux = sends answer s.mux })) s (Waits_as s) (λ e. refl) (λ e. refl)

framed_reply : (o : Option PlainFrame) (s : Server) → Waits_as s (framed_by o s)
framed_reply None s = let full = filled s in leaves_reply (next full.mux) full ∙ filled_reply s
framed_reply (Some frame) s = refl

pub lends_reply : (o : Option Outlet) (s : Server) → Waits_as s (lends_by o s)
lends_reply None s =
    cond_both (is_empty s.reply && is_empty s.listener.service.response) (let full = framed s in record full { lent = outlet_of full }) (record s { lent = outlet_of s }) (Waits_as s) (λ e. framed_reply s.frame s) (λ e. refl)
lends_reply (Some outlet) s = refl

-- ---- what it is asked for

-- what a clean server lends is its reply, or nothing
pub record Lends (s t : Server) : Type 0 where
  pub clean : IsClean t
  pub same : t.reply ≡ s.reply
  pub either : ((t.lent ≡ None) × (t.reply ≡ [])) ⊎ (t.lent ≡ Some Records)

empty_is : (xs : List ℕ) → is_empty xs ≡ true → xs ≡ []
empty_is [] is = refl
empty_is (x ∷ xs) is = cc

filled_same : (s : Server) → s.listener.service.answer ≡ [] → filled s ≡ s
filled_same s none = by (is_ready s.mux) (is_empty s.listener.service.answer) (ap is_empty none)
  where
    by : (ready empty : Bool) → empty ≡ true → cond (ready && not empty) (with_service (answer_cut (taken_count (length s.listener.service.answer) s.mux) s.listener.service) (record s { mux = sends s.listener.service.answer s.mux })) s ≡ s
    by true true is = refl
    by false true is = refl
    by true false is = cc
    by false false is = refl

-- no frame of it waits
framed_clean : (s : Server) → IsClean s → framed s ≡ (let t : Server = record s { frame = None } in t)
framed_clean s clean =
    ap (λ (o : Option PlainFrame). framed_by o s) clean.none_frame
    ∙ (ap (λ (full : Server). leaves_with (next full.mux) full) (filled_same s clean.none_answer)
    ∙ (ap (λ (o : Option Said). leaves_with o s) clean.silent ∙ by (s.listener.breaks) clean.unbroken))
  where
    quiet : Server
    quiet = said_on None s

    by : (breaks : Bool) → breaks ≡ false → cond (breaks && is_empty s.listener.service.answer) (left_by quiet) quiet ≡ quiet
    by true is = cc
    by false is = refl

framed_none : (s : Server) → IsClean s → s.reply ≡ [] → (let full : Server = framed s in let t : Server = record full { lent = outlet_of full } in Lends s t)
framed_none s clean none =
    let full : Server = record s { frame = None } in
    subst (λ (x : Server). let t : Server = record x { lent = outlet_of x } in Lends s t) (sym (framed_clean s clean)) (record {
      clean = record { lent = inl is; none_response = clean.none_response; none_answer = clean.none_answer; none_frame = refl; unbroken = clean.unbroken; silent = clean.silent };
      same = refl;
      either = inl (is, none);
    })
  where
    quiet : Server
    quiet = record s { frame = None }

    by : (reply response : Bool) → reply ≡ true → response ≡ true → cond (not reply) (Some Records) (cond (not response) (Some Direct) None) ≡ None
    by true true e f = refl
    by true false e f = cc
    by false b e f = cc

    is : outlet_of quiet ≡ None
    is = by (is_empty s.reply) (is_empty s.listener.service.response) (ap is_empty none) (ap is_empty clean.none_response)

new_clean : (s : Server) → IsClean s → Lends s (lends_new s)
new_clean s clean = by (is_empty s.reply) (is_empty s.listener.service.response) refl (ap is_empty clean.none_response)
  where
    outlet : (reply : Bool) → reply ≡ false → cond (not reply) (Some Records) (cond (not (is_empty s.listener.service.response)) (Some Direct) (cond (is_some s.frame) (Some Muxed) None)) ≡ Some Records
    outlet false is = refl
    outlet true is = cc

    by : (reply response : Bool) → is_empty s.reply ≡ reply → response ≡ true → Lends s (cond (reply && response) (let full = framed s in record full { lent = outlet_of full }) (record s { lent = outlet_of s }))
    by true true is here = framed_none s clean (empty_is s.reply is)
    by true false is here = cc
    by false response is here =
        let lent = outlet (is_empty s.reply) is in
        record {
          clean = record { lent = inr lent; none_response = clean.none_response; none_answer = clean.none_answer; none_frame = clean.none_frame; unbroken = clean.unbroken; silent = clean.silent };
          same = refl;
          either = inr lent;
        }

pub lends_clean : (s : Server) → IsClean s → Lends s (lends s)
lends_clean s clean = by clean.lent
  where
    by : (s.lent ≡ None) ⊎ (s.lent ≡ Some Records) → Lends s (lends s)
    by (inl none) = subst (λ (o : Option Outlet). Lends s (lends_by o s)) (sym none) (new_clean s clean)
    by (inr some) = subst (λ (o : Option Outlet). Lends s (lends_by o s)) (sym some) (record { clean = clean; same = refl; either = inr some })

-- ---- its profile

-- where its inbox was not short of memory, and nothing but requests for service records came: it is clean, and of its reply this is so
abbrev pub Fit : (List ℕ → Type 0) → ServerProfile → Type 0
Fit R q = (q.server.mux.role ≡ Responder) × (q.server.listener.service.failed ≡ false → SearchesAlone q.endpoints → IsClean q.server × R q.server.reply)

module _ (R : List ℕ → Type 0) (none : R []) where
  abbrev Good : Server → Type 0
  Good s = (s.mux.role ≡ Responder) × (failed s ≡ false → IsClean s × R s.reply)

  new_silent : (role : Role) (dlci largest own cap : ℕ) → role ≡ Responder → next (new_mux role dlci largest own cap) ≡ None
  new_silent role dlci largest own cap is = subst (λ (r : Role). next (new_mux r dlci largest own cap) ≡ None) (sym is) refl

  unlent_search : (o : Option Outlet) → (o ≡ None) ⊎ (o ≡ Some Records) → server.unlent Records o ≡ None
  unlent_search o (inl is) = ap (server.unlent Records) is
  unlent_search o (inr is) = ap (server.unlent Records) is

  unlent_muxed : (o : Option Outlet) → (o ≡ None) ⊎ (o ≡ Some Records) → (server.unlent Muxed o ≡ None) ⊎ (server.unlent Muxed o ≡ Some Records)
  unlent_muxed o (inl is) = inl (ap (server.unlent Muxed) is)
  unlent_muxed o (inr is) = inr (ap (server.unlent Muxed) is)

  unlent_direct : (o : Option Outlet) → (o ≡ None) ⊎ (o ≡ Some Records) → (server.unlent Direct o ≡ None) ⊎ (server.unlent Direct o ≡ Some Records)
  unlent_direct o (inl is) = inl (ap (server.unlent Direct) is)
  unlent_direct o (inr is) = inr (ap (server.unlent Direct) is)

  unreplied_good : (s : Server) → Good s → Good (unreplied s)
  unreplied_good s good = (good.0, λ well. let c = (good.1 well).0 in (record { lent = inl (unlent_search s.lent c.lent); none_response = c.none_response; none_answer = c.none_answer; none_frame = c.none_frame; unbroken = c.unbroken; silent = c.silent }, none))

  remuxed_good : (s : Server) (gift : Gift) → Good s → Good (lets_go_on Rfcomm (remuxed s) gift).server
  remuxed_good s gift good = (
    good.0,
    λ well.
        let (c, r) = good.1 (or_left (failed s) _ well) in
        (record { lent = unlent_muxed s.lent c.lent; none_response = c.none_response; none_answer = refl; none_frame = refl; unbroken = refl; silent = new_silent s.mux.role _ _ _ _ good.0 }, r),
  )

  unanswered_good : (s : Server) (gift : Gift) → Good s → Good (lets_go_on L2cap (unanswered s) gift).server
  unanswered_good s gift good = (
    good.0,
    λ well.
        let (c, r) = good.1 (or_left (failed s) _ well) in
        (record { lent = unlent_direct s.lent c.lent; none_response = refl; none_answer = c.none_answer; none_frame = c.none_frame; unbroken = c.unbroken; silent = c.silent }, r),
  )

  down_good : (psm : ℕ) (s : Server) (gift : Gift) → Good s → Good (server.channel_down psm s gift).server
  down_good psm s gift good =
      cond_both (failed s) (let r : Reacted = record { server = s; gift = gift } in r) (server.closed_on psm s gift) (λ (r : Reacted). Good r.server) (λ e. good) (λ e.
      by_psm (λ p. Good (server.closed_on p s gift).server) (unreplied_good s good) (remuxed_good s gift good) (unanswered_good s gift good)
      (λ p x y z. subst (λ (r : Reacted). Good r.server) (sym (cond-false _ _ _ x ∙ (cond-false _ _ _ y ∙ cond-false _ _ (let r : Reacted = record { server = s; gift = gift } in r) z))) good) psm)

  -- a link that ended leaves nothing, whatever waited
  link_good : (s : Server) (gift : Gift) → s.mux.role ≡ Responder → Good (server.link_down s gift).server
  link_good s gift role = cond_both (failed s) (let r : Reacted = record { server = s; gift = gift } in r) (lets_go_twice first) (λ (r : Reacted). Good r.server) (λ e. (role, λ well. let never : true ≡ false = sym e ∙ well in cc)) (λ e. twice)
    where
      first : Reacted
      first = lets_go_on L2cap (unanswered s) gift

      all_unlent : (o : Option Outlet) → server.unlent Muxed (server.unlent Records (server.unlent Direct o)) ≡ None
      all_unlent None = refl
      all_unlent (Some Records) = refl
      all_unlent (Some Direct) = refl
      all_unlent (Some Muxed) = refl

      twice : Good (lets_go_twice first).server
      twice = cond_both (failed first.server) first (lets_go_on Rfcomm (remuxed (unreplied first.server)) first.gift) (λ (r : Reacted). Good r.server) (λ e. (role, λ well. let never : true ≡ false = sym e ∙ well in cc)) (λ e. (
        role,
        λ well. (record { lent = inl (all_unlent s.lent); none_response = refl; none_answer = refl; none_frame = refl; unbroken = refl; silent = new_silent s.mux.role _ _ _ _ role }, none),
      ))

  -- ---- what happens to its profile

  good_fit : (q : ServerProfile) → Fit R q → SearchesAlone q.endpoints → Good q.server
  good_fit q fit alone = (fit.0, λ well. fit.1 well alone)

  reacts_fit : (psm : ℕ) (q : ServerProfile) → Fit R q → Fit R (servers.reacts (server.channel_down psm q.server q.inbox) q)
  reacts_fit psm q fit = (down_role psm q.server q.inbox fit.0, λ well alone. (down_good psm q.server q.inbox (good_fit q fit alone)).1 well)
    where
      down_role : (psm : ℕ) (s : Server) (gift : Gift) → s.mux.role ≡ Responder → (server.channel_down psm s gift).server.mux.role ≡ Responder
      down_role psm s gift role =
          cond_both (failed s) (let r : Reacted = record { server = s; gift = gift } in r) (server.closed_on psm s gift) (λ (r : Reacted). r.server.mux.role ≡ Responder) (λ e. role) (λ e.
          by_psm (λ p. (server.closed_on p s gift).server.mux.role ≡ Responder) role role role
          (λ p x y z. subst (λ (r : Reacted). r.server.mux.role ≡ Responder) (sym (cond-false _ _ _ x ∙ (cond-false _ _ _ y ∙ cond-false _ _ (let r : Reacted = record { server = s; gift = gift } in r) z))) role) psm)

  pub happens_fit : (event : ChannelEvent) (v : Channels) (q : ServerProfile) → Fit R q → Fit R (servers.happened event v q)
  happens_fit (Opened own psm) v q fit = fit
  happens_fit (Closed own psm reason) v q fit = cond_both (is_told reason) (servers.reacts (server.channel_down psm q.server q.inbox) q) q (Fit R) (λ e. reacts_fit psm q fit) (λ e. fit)
  happens_fit (Features features) v q fit = fit
  happens_fit FeaturesLost v q fit = fit
  happens_fit (DisconnectLost own) v q fit = fit

  pub ends_fit : (q : ServerProfile) → q.server.mux.role ≡ Responder → Fit R (servers.unlinked (servers.reacts (server.link_down q.server q.inbox) q))
  ends_fit q role = let good = link_good q.server q.inbox role in (good.0, λ well alone. good.1 well)

  -- ---- its steps

  submits_fit : (found : Option ℕ) (lent : Lent) (v : Channels) (s : Server) (q : ServerProfile) → s.mux.role ≡ Responder → (failed s ≡ false → SearchesAlone q.endpoints → IsClean s × R s.reply) → (failed s ≡ false → SearchesAlone q.endpoints → s.lent ≡ Some Records)
      → Fit R (servers.submits found lent v s q).profile
  submits_fit None lent v s q role so is = (role, so)
  submits_fit (Some own) lent v s q role so is = by (takes_sdu own (servers_sdu lent) v)
    where
      servers_sdu : Lent → List ℕ
      servers_sdu l = sdu_of l.payload

      stepped_fit : (o : Option Outlet) → s.lent ≡ o → (server.taken_by o s).mux.role ≡ Responder × (failed (server.taken_by o s) ≡ false → SearchesAlone q.endpoints → IsClean (server.taken_by o s) × R (server.taken_by o s).reply)
      stepped_fit o here = (
        taken_role o s role,
        λ well alone.
            let well' = sym (taken_fails o s) ∙ well in
            let c = (so well' alone).0 in
            subst (λ (x : Option Outlet). IsClean (server.taken_by x s) × R (server.taken_by x s).reply) (sym (is well' alone) ∙ here)
            (record { lent = inl refl; none_response = c.none_response; none_answer = c.none_answer; none_frame = c.none_frame; unbroken = c.unbroken; silent = c.silent }, none),
      )

      by : (taken : Bool) → Fit R (cond taken (record { channels = sends_to own (servers_sdu lent) v; profile = record q { server = server.stepped s }; more = true }) (servers.waiting v s q)).profile
      by true = stepped_fit s.lent refl
      by false = (role, so)

  takes_fit : (lent : Option Lent) (v : Channels) (s : Server) (q : ServerProfile) → s.mux.role ≡ Responder → (failed s ≡ false → SearchesAlone q.endpoints → IsClean s × R s.reply) → (is_some lent ≡ true → failed s ≡ false → SearchesAlone q.endpoints → s.lent ≡ Some Records)
      → Fit R (servers.takes lent v s q).profile
  takes_fit None v s q role so is = (role, so)
  takes_fit (Some lent) v s q role so is = submits_fit (endpoint_of lent.psm q.endpoints) lent v s q role so (is refl)

  lent_some : (s : Server) → ((s.lent ≡ None) × (s.reply ≡ [])) ⊎ (s.lent ≡ Some Records) → is_some (lent_sdu s) ≡ true → s.lent ≡ Some Records
  lent_some s (inl (is, empty)) some = let never : false ≡ true = sym (ap (λ (o : Option Outlet). is_some (lent_by o s)) is) ∙ some in cc
  lent_some s (inr is) some = is

  pub steps_fit : (v : Channels) (q : ServerProfile) → Fit R q → Fit R (next_stride v q).profile
  steps_fit v q fit =
      let s = lends q.server in
      takes_fit (lent_sdu s) v s q (lends_role q.server.lent q.server fit.0)
      (λ well alone. let (c, r) = fit.1 (sym (lends_fails q.server.lent q.server) ∙ well) alone in let l = lends_clean q.server c in (l.clean, subst R (sym l.same) r))
      (λ some well alone. let (c, r) = fit.1 (sym (lends_fails q.server.lent q.server) ∙ well) alone in lent_some s (lends_clean q.server c).either some)
