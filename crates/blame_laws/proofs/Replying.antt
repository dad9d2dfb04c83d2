-- A server at which one request alone comes on the channel to the service records: what it sends there is its reply, whole.
use Rattle.std.proofs.Common.{◌≡◌, ◌⊎◌, ℕ, Bool, true, false, cond, not, ◌&&◌, ◌==◌, List, [], ◌∷◌, ◌++◌, Option, Some, None, is_some, inl, inr, refl, sym, ap, subst, ◌∙◌}
use Rattle.std.specs.List.{AllByRecursion, flat_map}
use Rattle.std.proofs.lemmas.Bool.{cond_both, cond-false}
use Rattle.request_laws.specs.bt_base.specs.Objects.{Contents}
use Rattle.request_laws.specs.bt_base.specs.declared.settings.Serves.{Serves}
use Rattle.request_laws.specs.bt_base.specs.declared.settings.Settings.{Settings}
use Rattle.request_laws.specs.bt_base.specs.declared.settings.Transport.TheVariants.{L2cap, Rfcomm}
use Rattle.request_laws.specs.rfcomm_frames.specs.FrameReading.{is_empty}
use Rattle.request_laws.specs.rfcomm_frames.specs.Frames.{PlainFrame}
use Rattle.request_laws.specs.pair_laws.specs.rfcomm_model.specs.Hearing as hearing
use Rattle.request_laws.specs.pair_laws.specs.rfcomm_model.specs.Hearing.{Up, nothing, opened, bytes, closed, up}
use Rattle.request_laws.specs.push_model.specs.sdp_server.specs.Replies.{reply_to}
use Rattle.request_laws.specs.channel_model.specs.Value.{Channels}
use Rattle.request_laws.specs.push_model.specs.declared.outlet.Outlet.{Outlet}
use Rattle.request_laws.specs.push_model.specs.declared.outlet.Outlet.TheVariants.{Records, Direct, Muxed}
use Rattle.request_laws.specs.push_model.specs.Sessions.{Gift}
use Rattle.request_laws.specs.push_model.specs.Server as server
use Rattle.request_laws.specs.push_model.specs.Server.{Server, Reacted, Lent, hears_search, hears_up, reply_room, search_psm, framed, outlet_of, lends_by, lent_by, frame_lent, lends, lent_sdu, unlent, lets_go_on, lets_go_twice, remuxed, unanswered, unreplied}
use Rattle.request_laws.specs.push_laws.specs.Occurrences as occurrences
use Rattle.request_laws.specs.push_laws.specs.Occurrences.{Occurrence, Came, Went, Closed, LinkDown, Asked, Answering, done, all_done}
use Rattle.request_laws.specs.push_laws.specs.Parties.{sdu_if}
use Rattle.request_laws.specs.push_laws.proofs.Lookups.{request, request_is, reply, reply_is, HasReply, reply_stays, first_has}
use Rattle.request_laws.specs.push_laws.proofs.Servers.{by_psm}
use Rattle.request_laws.specs.host_model.specs.Endpoints.{endpoint_of, takes_sdu}
use Rattle.request_laws.specs.host_model.specs.Pdus.{sdu_of}
use Rattle.request_laws.specs.host_model.specs.Servers.{ServerProfile, server_profile}
use Rattle.request_laws.specs.host_laws.specs.Feeds.{Feed, fed, all_fed}
use Rattle.request_laws.specs.host_laws.specs.Serving as serving
use Rattle.request_laws.specs.host_laws.specs.Serving.{served_with, served_from, reacted}
use Rattle.request_laws.specs.host_laws.proofs.Serving.{feed_done}
use Rattle.request_laws.specs.Streams.{come_on, gone_on}
use Rattle.request_laws.proofs.Feeding.{all_ahead}

-- the request comes there alone
abbrev pub IsRequest : List ℕ → Type 0
IsRequest sdu = sdu ≡ request

abbrev pub ComesRight : Occurrence → Type 0
ComesRight one = (psm : ℕ) (sdu : List ℕ) → one ≡ Came psm sdu → (psm == search_psm) ≡ true → sdu ≡ request

module _ (serves : Serves) where
  abbrev pub IsReply : List ℕ → Type 0
  IsReply sdu = sdu ≡ reply serves

  -- where its reply is lent it has one
  abbrev pub LendsReply : Server → Type 0
  LendsReply at = at.lent ≡ Some Records → at.reply ≡ reply serves

  pub record Replies (at : Server) : Type 0 where
    pub has : HasReply serves at
    pub lends : LendsReply at

  -- ---- an SDU comes

  unless : (failed : Bool) (at : Server) (gift : Gift) (after : Reacted) → LendsReply at → LendsReply after.server → LendsReply (cond failed (let r : Reacted = record { server = at; gift = gift } in r) after).server
  unless true at gift after one other = one
  unless false at gift after one other = other

  replied : (at : Server) (sdu : List ℕ) → at.serves ≡ serves → sdu ≡ request → reply_to at.serves reply_room sdu ≡ reply serves
  replied at sdu same is = ap (λ (s : Serves). reply_to s reply_room sdu) same ∙ (ap (reply_to serves reply_room) (is ∙ request_is) ∙ sym (reply_is serves))

  search_lends : (at : Server) (sdu : List ℕ) → sdu ≡ request → Replies at → LendsReply (hears_search sdu at)
  search_lends at sdu is so = cond_both (is_empty at.reply) (record at { reply = reply_to at.serves reply_room sdu }) at LendsReply (λ e lent. replied at sdu so.has.0 is) (λ e. so.lends)

  up_lends : (u : Up) (at : Server) (gift : Gift) → LendsReply at → LendsReply (hears_up u at gift).server
  up_lends nothing at gift so = so
  up_lends opened at gift so = so
  up_lends (closed reason) at gift so = so
  up_lends (bytes octets) at gift so = cond_both at.listener.breaks _ _ (λ (r : Reacted). LendsReply r.server) (λ e. so) (λ e. so)

  hears_lends : (psm : ℕ) (sdu : List ℕ) (at : Server) (gift : Gift) → ((psm == search_psm) ≡ true → sdu ≡ request) → Replies at → LendsReply (server.hears_on psm sdu at gift).server
  hears_lends psm sdu at gift =
      by_psm (λ p. ((p == search_psm) ≡ true → sdu ≡ request) → Replies at → LendsReply (server.hears_on p sdu at gift).server) (λ is so. search_lends at sdu (is refl) so)
      (λ is so. up_lends (up sdu at.mux) (record at { mux = hearing.hears sdu at.mux }) gift so.lends) (λ is so. so.lends)
      (λ p x y z is so. subst (λ (r : Reacted). LendsReply r.server) (sym (cond-false _ _ _ x ∙ (cond-false _ _ _ y ∙ cond-false _ _ (let r : Reacted = record { server = at; gift = gift } in r) z))) so.lends) psm

  -- ---- what was lent is taken, or forgotten

  taken_lends : (o : Option Outlet) (at : Server) → LendsReply at → LendsReply (server.taken_by o at)
  taken_lends None at so = so
  taken_lends (Some Records) at so = λ e. absurd (let never : None ≡ Some Records = e in cc)
  taken_lends (Some Direct) at so = λ e. absurd (let never : None ≡ Some Records = e in cc)
  taken_lends (Some Muxed) at so = λ e. absurd (let never : None ≡ Some Records = e in cc)

  not_records : (o : Option Outlet) → unlent Records o ≡ Some Records → ⊥
  not_records None e = cc
  not_records (Some Records) e = cc
  not_records (Some Direct) e = cc
  not_records (Some Muxed) e = cc

  was_records : (o : Option Outlet) → (unlent Muxed o ≡ Some Records → o ≡ Some Records) × (unlent Direct o ≡ Some Records → o ≡ Some Records)
  was_records None = (λ e. e, λ e. e)
  was_records (Some Records) = (λ e. refl, λ e. refl)
  was_records (Some Direct) = (λ e. e, λ e. cc)
  was_records (Some Muxed) = (λ e. cc, λ e. e)

  closed_lends : (psm : ℕ) (at : Server) (gift : Gift) → LendsReply at → LendsReply (server.closed_on psm at gift).server
  closed_lends psm at gift so =
      by_psm (λ p. LendsReply (server.closed_on p at gift).server) (λ e. absurd (not_records at.lent e)) (λ e. so ((was_records at.lent).0 e)) (λ e. so ((was_records at.lent).1 e))
      (λ p x y z. subst (λ (r : Reacted). LendsReply r.server) (sym (cond-false _ _ _ x ∙ (cond-false _ _ _ y ∙ cond-false _ _ (let r : Reacted = record { server = at; gift = gift } in r) z))) so) psm

  twice_lends : (r : Reacted) → LendsReply r.server → LendsReply (lets_go_twice r).server
  twice_lends r so =
      cond_both r.server.listener.service.failed r (lets_go_on Rfcomm (remuxed (unreplied r.server)) r.gift) (λ (x : Reacted). LendsReply x.server) (λ e. so)
      (λ e is. absurd (not_records r.server.lent ((was_records (unlent Records r.server.lent)).0 is)))

  -- ---- it is asked for the SDU that it sends next

  other_outlet : (response frame : Bool) → cond response (Some Direct) (cond frame (Some Muxed) None) ≡ Some Records → ⊥
  other_outlet true frame e = cc
  other_outlet false true e = cc
  other_outlet false false e = cc

  there : (at : Server) → outlet_of at ≡ Some Records → is_empty at.reply ≡ false
  there at = by (is_empty at.reply)
    where
      by : (none : Bool) → cond (not none) (Some Records) (cond (not (is_empty at.listener.service.response)) (Some Direct) (cond (is_some at.frame) (Some Muxed) None)) ≡ Some Records → none ≡ false
      by false e = refl
      by true e = absurd (other_outlet (not (is_empty at.listener.service.response)) (is_some at.frame) e)

  some_reply : (octets : List ℕ) → (octets ≡ []) ⊎ (octets ≡ reply serves) → is_empty octets ≡ false → octets ≡ reply serves
  some_reply octets (inl none) some = absurd (let never : true ≡ false = ap is_empty (sym none) ∙ some in cc)
  some_reply octets (inr is) some = is

  fresh_lends : (at : Server) → (let new : Server = record at { lent = outlet_of at } in HasReply serves new → LendsReply new)
  fresh_lends at has = λ e. some_reply at.reply has.1 (there at e)

  asked_lends : (o : Option Outlet) (at : Server) → HasReply serves (lends_by o at) → LendsReply at → LendsReply (lends_by o at)
  asked_lends (Some outlet) at has so = so
  asked_lends None at has so = by (is_empty at.reply && is_empty at.listener.service.response) has
    where
      by : (none : Bool) → HasReply serves (cond none (let full = framed at in record full { lent = outlet_of full }) (record at { lent = outlet_of at })) → LendsReply (cond none (let full = framed at in record full { lent = outlet_of full }) (record at { lent = outlet_of at }))
      by true given = fresh_lends (framed at) given
      by false given = fresh_lends at given

  -- ---- whatever happens to it

  stays_lent : (one : Occurrence) (at : Reacted) → ComesRight one → HasReply serves (done one at).server → Replies at.server → LendsReply (done one at).server
  stays_lent (Came psm sdu) at only has so = unless at.server.listener.service.failed at.server at.gift (server.hears_on psm sdu at.server at.gift) so.lends (hears_lends psm sdu at.server at.gift (only psm sdu refl) so)
  stays_lent (Went psm sdu) at only has so = taken_lends at.server.lent at.server so.lends
  stays_lent (Closed psm) at only has so = unless at.server.listener.service.failed at.server at.gift (server.closed_on psm at.server at.gift) so.lends (closed_lends psm at.server at.gift so.lends)
  stays_lent LinkDown at only has so =
      unless at.server.listener.service.failed at.server at.gift (lets_go_twice (lets_go_on L2cap (unanswered at.server) at.gift)) so.lends
      (twice_lends (lets_go_on L2cap (unanswered at.server) at.gift) (λ e. so.lends ((was_records at.server.lent).1 e)))
  stays_lent Asked at only has so = asked_lends at.server.lent at.server has so.lends
  stays_lent (Answering answers) at only has so = so.lends

  one_replies : (one : Occurrence) (at : Reacted) → ComesRight one → Replies at.server → Replies (done one at).server
  one_replies one at only so = let has = reply_stays serves one at only so.has in record { has = has; lends = stays_lent one at only has so }

  all_reply : (list : List Occurrence) (at : Reacted) → AllByRecursion ComesRight list → Replies at.server → Replies (all_done list at).server
  all_reply [] at right so = so
  all_reply (one ∷ list) at right so = all_reply list (done one at) right.1 (one_replies one at right.0 so)

  -- so it is of what a profile goes through
  pub fed_replies : (settings : Settings) (content : Option Contents) (feeds : List Feed) (q : ServerProfile) → AllByRecursion ComesRight (served_from settings content q feeds) → Replies q.server → Replies (all_fed (server_profile settings content) q feeds).server
  fed_replies settings content [] q right so = so
  fed_replies settings content (feed ∷ feeds) q right so =
      let next = fed (server_profile settings content) q feed in
      let parts = all_ahead ComesRight (served_with q feed) (served_from settings content next feeds) right in
      fed_replies settings content feeds next parts.1 (subst (λ (r : Reacted). Replies r.server) (sym (feed_done settings content q feed)) (all_reply (served_with q feed) (reacted q) parts.0 so))

  -- ---- what goes

  abbrev SaysReply : Option Lent → Type 0
  SaysReply None = Unit {0}
  SaysReply (Some lent) = (lent.psm == search_psm) ≡ true → sdu_of lent.payload ≡ reply serves

  never : {X : Type 0} → false ≡ true → X
  never e = cc

  frame_says : (frame : Option PlainFrame) → SaysReply (frame_lent frame)
  frame_says None = tt
  frame_says (Some frame) = λ e. never e

  lent_says : (o : Option Outlet) (at : Server) → (o ≡ Some Records → at.reply ≡ reply serves) → SaysReply (lent_by o at)
  lent_says None at so = tt
  lent_says (Some Records) at so = λ e. so refl
  lent_says (Some Direct) at so = λ e. never e
  lent_says (Some Muxed) at so = frame_says at.frame

  sdu_replies : (here : Bool) (sdu : List ℕ) → (here ≡ true → sdu ≡ reply serves) → AllByRecursion IsReply (sdu_if here sdu ++ [])
  sdu_replies true sdu is = (is refl, tt)
  sdu_replies false sdu is = tt

  lent_replies : (lent : Option Lent) (v : Channels) (q : ServerProfile) → SaysReply lent → AllByRecursion IsReply (flat_map (gone_on search_psm) (serving.lent_by lent v q ++ []))
  lent_replies None v q says = tt
  lent_replies (Some lent) v q says = on (endpoint_of lent.psm q.endpoints)
    where
      by : (taken : Bool) → AllByRecursion IsReply (flat_map (gone_on search_psm) (cond taken (Went lent.psm (sdu_of lent.payload) ∷ []) [] ++ []))
      by true = sdu_replies (lent.psm == search_psm) (sdu_of lent.payload) says
      by false = tt

      on : (found : Option ℕ) → AllByRecursion IsReply (flat_map (gone_on search_psm) (serving.taken_by found lent v ++ []))
      on None = tt
      on (Some own) = by (takes_sdu own (sdu_of lent.payload) v)

  pub goes_reply : (v : Channels) (q : ServerProfile) → Replies q.server → AllByRecursion IsReply (flat_map (gone_on search_psm) (serving.lent_by (lent_sdu (lends q.server)) v q ++ []))
  goes_reply v q so =
      let asked = one_replies Asked (reacted q) (λ psm sdu is here. absurd (let never' : Asked ≡ Came psm sdu = is in cc)) so in
      lent_replies (lent_sdu (lends q.server)) v q (lent_says (lends q.server).lent (lends q.server) asked.lends)

pub first_replies : (settings : Settings) (content : Option Contents) → Replies settings.serves (occurrences.begun settings content).server
first_replies settings content = record { has = first_has settings content; lends = λ e. absurd (let never : None ≡ Some Records = e in cc) }

-- ---- what comes

came_if : (here : Bool) (sdu : List ℕ) (rest : List (List ℕ)) → AllByRecursion IsRequest (sdu_if here sdu ++ rest) → (here ≡ true → sdu ≡ request) × AllByRecursion IsRequest rest
came_if true sdu rest all = (λ e. all.0, all.1)
came_if false sdu rest all = (λ e. absurd (let never : false ≡ true = e in cc), all)

pub comes-right : (list : List Occurrence) → AllByRecursion IsRequest (flat_map (come_on search_psm) list) → AllByRecursion ComesRight list
comes-right [] all = tt
comes-right (Came psm sdu ∷ list) all =
    let parts = came_if (psm == search_psm) sdu (flat_map (come_on search_psm) list) all in
    (λ p s is here. by p s is here parts.0, comes-right list parts.1)
  where
    by : (p : ℕ) (s : List ℕ) → Came psm sdu ≡ Came p s → (p == search_psm) ≡ true → ((psm == search_psm) ≡ true → sdu ≡ request) → s ≡ request
    by p s is here so = let one : psm ≡ p = cc in let two : sdu ≡ s = cc in sym two ∙ so (ap (λ (n : ℕ). n == search_psm) one ∙ here)
comes-right (Went psm sdu ∷ list) all = (λ p s is here. absurd (let never : Went psm sdu ≡ Came p s = is in cc), comes-right list all)
comes-right (Closed psm ∷ list) all = (λ p s is here. absurd (let never : Closed psm ≡ Came p s = is in cc), comes-right list all)
comes-right (LinkDown ∷ list) all = (λ p s is here. absurd (let never : LinkDown ≡ Came p s = is in cc), comes-right list all)
comes-right (Asked ∷ list) all = (λ p s is here. absurd (let never : Asked ≡ Came p s = is in cc), comes-right list all)
comes-right (Answering answers ∷ list) all = (λ p s is here. absurd (let never : Answering answers ≡ Came p s = is in cc), comes-right list all)
