-- The calls of a server as those of its profile.
use Rattle.std.proofs.Common.{◌≡◌, ◌∙◌, ◌==◌, ◌&&◌, nat_lt, not, ℕ, Bool, true, false, List, [], ◌∷◌, ◌++◌, length, refl, sym, ap, subst, arith, tests, if◌then◌else◌, map, inl, inr}
use Rattle.std.specs.Prelude.{Option, Some, None}
use Rattle.std.specs.List.{AllByRecursion}
use Rattle.std.proofs.lemmas.Bool.{cases_Bool, eqb-true}
use Rattle.std.proofs.lemmas.List.{append-nil}
use Rattle.bt_base.specs.Numbers.{IsPsm}
use Rattle.bt_base.specs.Octets.{IsOctets}
use Rattle.bt_base.specs.Objects.{Contents}
use Rattle.bt_base.specs.declared.settings.Settings.{Settings}
use Rattle.channel_model.specs.declared.event.ChannelEvent.{ChannelEvent}
use Rattle.channel_model.specs.declared.event.ChannelEvent.TheVariants.{Closed}
use Rattle.channel_model.specs.declared.event.CloseReason.{CloseReason}
use Rattle.channel_model.specs.Value.{Channels}
use Rattle.channel_model.specs.Calls.{sends}
use Rattle.shelf_model.specs.obex_session.specs.Counting.{AreCounted, counts_of}
use Rattle.shelf_model.specs.obex_session.specs.InboxCalls.{Answer}
use Rattle.shelf_model.specs.rfcomm_frames.specs.Frames.{PlainFrame}
use Rattle.shelf_model.specs.rfcomm_frames.specs.FrameReading.{is_empty}
use Rattle.shelf_model.specs.rfcomm_model.specs.Machine.{Mux, is_ready, leaves}
use Rattle.shelf_model.specs.rfcomm_model.specs.Saying.{Said, next}
use Rattle.push_model.specs.declared.outlet.Outlet.{Outlet}
use Rattle.push_model.specs.declared.outlet.Outlet.TheVariants.{Records, Direct, Muxed}
use Rattle.push_model.specs.Payloads.{Payload}
use Rattle.push_model.specs.Sessions.{Gift, is_pending}
use Rattle.push_model.specs.Server as push
use Rattle.push_model.specs.Server.{Server, Reacted, Lent, on_sdu, hears_on, unless_failed, channel_down, link_down, lends, lent_sdu, stepped, filled, said_on, left_by, leaves_with, framed_by, framed, lends_by, lends_new, outlet_of, breaks_now}
use Rattle.h4_framing.proofs.OctetLists.{IsOctets-tail}
use Rattle.answer_laws.specs.Memory.{HadMemory, LackedNone}
use Rattle.answer_laws.proofs.Memory.{unfailed_lacked_none}
use Rattle.push_profile.specs.Reactions.{Comes}
use Rattle.push_profile.specs.Serving.{reacted, has_failed, IsPsmOf, AreLent}
use Rattle.shelf_model.specs.world_model.specs.Machines.{Linked, Down}
use Rattle.shelf_model.specs.host_model.specs.Circumstances.{Circumstance, Stored, answers_in}
use Rattle.shelf_model.specs.host_model.specs.Endpoints.{Endpoint, endpoint_of, with_endpoint, takes_sdu}
use Rattle.shelf_model.specs.host_model.specs.Pdus.{sdu_of, are_octets}
use Rattle.shelf_model.specs.host_model.specs.Profiles.{Stride}
use Rattle.shelf_model.specs.host_model.specs.Servers.{ServerProfile, is_told}
use Rattle.shelf_model.specs.host_model.specs.Servers as model
use Rattle.shelf_model.specs.host_model.proofs.Single.{only_sdu}
use Rattle.l2cap_channels.specs.Machine.{Machine, with_channels}
use Rattle.l2cap_channels.specs.Sending.{takes}
use Rattle.bt_host.specs.Calls.{Does}
use Rattle.bt_host.specs.Serving.{Served, serving, profile_of, Works, Asks}
use Rattle.bt_host.specs.ServingLaws.{joins}
use Rattle.bt_host.proofs.Calling.{does_none, does_to}

-- ---- answers of the inbox

answers_stored : (used : List Answer) (rest : List Circumstance) → answers_in (map Stored used ++ rest) ≡ used ++ answers_in rest
answers_stored [] rest = refl
answers_stored (answer ∷ used) rest = ap (λ xs. answer ∷ xs) (answers_stored used rest)

abbrev served : Server → List Endpoint → Bool → Served
served server endpoints breaks = record { server = server; endpoints = endpoints; breaks = breaks }

all_stored : (used : List Answer) → answers_in (map Stored used) ≡ used
all_stored [] = refl
all_stored (answer ∷ used) = ap (λ xs. answer ∷ xs) (all_stored used)

-- ---- an SDU in code is octets

octets_of : (xs : List ℕ) → IsOctets xs → are_octets xs ≡ true
octets_of [] octets = refl
octets_of (x ∷ xs) octets =
    let below = octets 0 in
    let first : nat_lt x 256 ≡ true = grind (arith, tests, below) in
    ap (λ (b : Bool). b && are_octets xs) first ∙ octets_of xs (IsOctets-tail x xs octets)

pub takes-octets : (own : ℕ) (sdu : List ℕ) (v : Channels) → IsOctets sdu → takes_sdu own sdu v ≡ takes own (length sdu) v
takes-octets own sdu v octets = ap (λ (b : Bool). takes own (length sdu) v && b) (octets_of sdu octets) ∙ and_on (takes own (length sdu) v)
  where
    and_on : (b : Bool) → (b && true) ≡ b
    and_on true = refl
    and_on false = refl

module _ {P : Type 0} (content : P → Option Contents) (faults shortages : P → ℕ) where
  abbrev Gave : P → List Circumstance → P → Type 0
  Gave first used last = Asks faults shortages first used last

  -- where the server has not failed behind them, none of the answers that were used up was want of memory
  none_short : (reaction : Gift → Reacted) (server : Server) (lacks : Bool) (first last : P) → ((gift : Gift) → LackedNone gift (reaction gift)) → has_failed server ≡ false
      → (k : Comes reaction (reacted server) (content first) (content last) (counts_of faults shortages first) (counts_of faults shortages last) lacks) → AllByRecursion HadMemory k.used
  none_short reaction server lacks first last had works k =
      let gift : Gift = record { content = content first; answers = k.used ++ [] } in
      let comes = subst (λ (after : Reacted). LackedNone gift after) (k.comes []) (had gift) in
      subst (λ (answers : List Answer). AllByRecursion HadMemory answers) (append-nil k.used) (comes works tt)

  comes_does : (reaction : Gift → Reacted) (server : Server) (lacks : Bool) (f : Reacted → ServerProfile) (first last : P) → ((gift : Gift) → LackedNone gift (reaction gift)) → has_failed server ≡ false
      → Comes reaction (reacted server) (content first) (content last) (counts_of faults shortages first) (counts_of faults shortages last) lacks
      → Does Gave (λ rest. f (reaction (record { content = content first; answers = answers_in rest }))) (λ rest. f (reacted server (record { content = content last; answers = answers_in rest }))) first last
  comes_does reaction server lacks f first last had works k = record {
    used = map Stored k.used;
    answered = record {
      counted = subst (λ (xs : List Answer). AreCounted xs (counts_of faults shortages first) (counts_of faults shortages last)) (sym (all_stored k.used)) k.counted;
      none_short = subst (λ (xs : List Answer). AllByRecursion HadMemory xs) (sym (all_stored k.used)) (none_short reaction server lacks first last had works k);
    };
    does = λ rest. ap (λ (xs : List Answer). f (reaction (record { content = content first; answers = xs }))) (answers_stored k.used rest) ∙ ap f (k.comes (answers_in rest));
  }

  pub link_down_does : (old new : Server) (endpoints : List Endpoint) (breaks lacks : Bool) (now after : Served) (reason : ℕ) (first last : P) → served old endpoints breaks ≡ now → after ≡ served new [] false → has_failed new ≡ false
      → Comes (link_down old) (reacted new) (content first) (content last) (counts_of faults shortages first) (counts_of faults shortages last) lacks
      → (settings : Settings) → Does Gave (λ rest. (profile_of settings).told [] (Linked (Down reason)) (serving now (content first) rest)) (λ rest. serving after (content last) rest) first last
  link_down_does old new endpoints breaks lacks now after reason first last view is works k settings =
      subst (λ (n : Served). Does Gave (λ rest. (profile_of settings).told [] (Linked (Down reason)) (serving n (content first) rest)) (λ rest. serving after (content last) rest) first last) view
      (does_to Gave _ (λ rest. serving (served new [] false) (content last) rest) _ first last (λ rest. ap (λ (s : Served). serving s (content last) rest) (sym is))
      (comes_does (link_down old) new lacks (λ r. record { server = r.server; inbox = r.gift; endpoints = []; breaks = false }) first last (unfailed_lacked_none.link old) works k))

  pub closed_does : (old new : Server) (endpoints : List Endpoint) (breaks lacks : Bool) (now : Served) (event : ChannelEvent) (own psm : ℕ) (reason : CloseReason) (channels : Channels) (first last : P) → served old endpoints breaks ≡ now
      → event ≡ Closed own psm reason → is_told reason ≡ true → has_failed new ≡ false
      → Comes (channel_down psm old) (reacted new) (content first) (content last) (counts_of faults shortages first) (counts_of faults shortages last) lacks
      → (settings : Settings) → Does Gave (λ rest. (profile_of settings).happened event channels (serving now (content first) rest)) (λ rest. serving (served new endpoints breaks) (content last) rest) first last
  closed_does old new endpoints breaks lacks now event own psm reason channels first last view is told works k settings =
      subst (λ (n : Served). Does Gave (λ rest. (profile_of settings).happened event channels (serving n (content first) rest)) (λ rest. serving (served new endpoints breaks) (content last) rest) first last) view
      (subst (λ (e : ChannelEvent). Does Gave (λ rest. (profile_of settings).happened e channels (serving (served old endpoints breaks) (content first) rest)) (λ rest. serving (served new endpoints breaks) (content last) rest) first last) (sym is)
      (subst (λ (b : Bool). Does Gave (λ rest. if b then model.reacts (channel_down psm old (record { content = content first; answers = answers_in rest })) (serving (served old endpoints breaks) (content first) rest) else serving (served old endpoints breaks) (content first) rest)
      (λ rest. serving (served new endpoints breaks) (content last) rest) first last) (sym told)
      (comes_does (channel_down psm old) new lacks (λ r. record { server = r.server; inbox = r.gift; endpoints = endpoints; breaks = breaks }) first last (unfailed_lacked_none.channel psm old) works k)))

  pub received_does : (old new : Server) (endpoints put : List Endpoint) (breaks lacks : Bool) (now : Served) (own psm raw : ℕ) (sdu : List ℕ) (first last : P) → served old endpoints breaks ≡ now
      → put ≡ with_endpoint raw own endpoints → psm ≡ raw → has_failed new ≡ false
      → Comes (on_sdu psm sdu old) (reacted new) (content first) (content last) (counts_of faults shortages first) (counts_of faults shortages last) lacks
      → (settings : Settings) → Does Gave (λ rest. (profile_of settings).received own raw sdu (serving now (content first) rest)) (λ rest. serving (served new put breaks) (content last) rest) first last
  received_does old new endpoints put breaks lacks now own psm raw sdu first last view put_is same works k settings =
      subst (λ (n : Served). Does Gave (λ rest. (profile_of settings).received own raw sdu (serving n (content first) rest)) (λ rest. serving (served new put breaks) (content last) rest) first last) view
      (subst (λ (es : List Endpoint). Does Gave (λ rest. (profile_of settings).received own raw sdu (serving (served old endpoints breaks) (content first) rest)) (λ rest. serving (served new es breaks) (content last) rest) first last) (sym put_is)
      (subst (λ (n : ℕ). Does Gave (λ rest. model.reacts (on_sdu n sdu old (record { content = content first; answers = answers_in rest })) (record (serving (served old endpoints breaks) (content first) rest) { endpoints = with_endpoint raw own endpoints }))
      (λ rest. serving (served new (with_endpoint raw own endpoints) breaks) (content last) rest) first last) same
      (comes_does (on_sdu psm sdu old) new lacks (λ r. record { server = r.server; inbox = r.gift; endpoints = with_endpoint raw own endpoints; breaks = breaks }) first last (unfailed_lacked_none.sdu psm sdu old) works k)))

  -- ---- an SDU of a PSM that is none

  apart : (psm one : ℕ) → (IsPsm psm → ⊥) → IsPsm one → (psm == one) ≡ false
  apart psm one none is = elim (cases_Bool (psm == one)) [ inl same ↦ absurd (none (subst IsPsm (sym (eqb-true psm one same)) is)) | inr off ↦ off ]

  either : (test : Bool) (a b c : Reacted) → a ≡ c → b ≡ c → (if test then a else b) ≡ c
  either true a b c first second = first
  either false a b c first second = second

  passes : (psm : ℕ) (sdu : List ℕ) (server : Server) (gift : Gift) → (IsPsm psm → ⊥) → on_sdu psm sdu server gift ≡ record { server = server; gift = gift }
  passes psm sdu server gift none =
      either server.listener.service.failed _ _ _ refl (rw (apart psm 0x0001 none refl, apart psm 0x0003 none refl, apart psm 0x1001 none refl) refl)

  pub passed_does : (old : Server) (endpoints put : List Endpoint) (breaks : Bool) (now : Served) (own raw : ℕ) (sdu : List ℕ) (port : P) → served old endpoints breaks ≡ now
      → put ≡ with_endpoint raw own endpoints → (IsPsm raw → ⊥)
      → (settings : Settings) → Does Gave (λ rest. (profile_of settings).received own raw sdu (serving now (content port) rest)) (λ rest. serving (served old put breaks) (content port) rest) port port
  passed_does old endpoints put breaks now own raw sdu port view put_is none settings =
      subst (λ (n : Served). Does Gave (λ rest. (profile_of settings).received own raw sdu (serving n (content port) rest)) (λ rest. serving (served old put breaks) (content port) rest) port port) view
      (subst (λ (es : List Endpoint). Does Gave (λ rest. (profile_of settings).received own raw sdu (serving (served old endpoints breaks) (content port) rest)) (λ rest. serving (served old es breaks) (content port) rest) port port) (sym put_is)
      (does_none Gave (joins faults shortages) _ _ port (λ rest. ap (λ (r : Reacted). model.reacts r (record (serving (served old endpoints breaks) (content port) rest) { endpoints = with_endpoint raw own endpoints })) (passes raw sdu old (record { content = content port; answers = answers_in rest }) none))))

  -- ---- a step

  abbrev steps_to : (v v' : Channels) (server : Server) (endpoints : List Endpoint) (breaks more : Bool) (now : Served) (port : P) → Type 0
  steps_to v v' server endpoints breaks more now port =
      (settings : Settings) → Does Gave (λ rest. (profile_of settings).steps v (serving now (content port) rest)) (λ rest. record { channels = v'; profile = serving (served server endpoints breaks) (content port) rest; more = more }) port port

  abbrev Finds : Option Lent → ℕ → List ℕ → Type 0
  Finds lent psm sdu = (payload : Payload) × (lent ≡ Some (record { psm = psm; payload = payload })) × (sdu ≡ sdu_of payload)

  finds : (lent : Option Lent) (psm : ℕ) (sdu : List ℕ) → IsPsmOf lent (Some psm) → AreLent lent sdu → Finds lent psm sdu
  finds None psm sdu is said = cc
  finds (Some one) psm sdu is said = let same : psm ≡ one.psm = cc in (one.payload, ap (λ (n : ℕ). Some (record { psm = n; payload = one.payload })) (sym same), only_sdu one.payload sdu said)

  abbrev strided : (v : Channels) (server : Server) (own : ℕ) (payload : Payload) (s : ServerProfile) (test : Bool) → Stride ServerProfile
  strided v server own payload s test =
      if test then record { channels = sends own (sdu_of payload) v; profile = record s { server = stepped server }; more = true } else model.waiting v server s

  abbrev submits_with : Option ℕ → Option Lent → Channels → Server → ServerProfile → Stride ServerProfile
  submits_with own None v server s = model.waiting v server s
  submits_with own (Some lent) v server s = model.submits own lent v server s

  one_step : (old new : Server) (endpoints : List Endpoint) (breaks test : Bool) (v : Channels) (psm own : ℕ) (sdu : List ℕ) (payload : Payload) (content_now : Option Contents) (rest : List Circumstance)
      → new ≡ lends old → lent_sdu new ≡ Some (record { psm = psm; payload = payload }) → sdu ≡ sdu_of payload → IsOctets sdu → endpoint_of psm endpoints ≡ Some own → takes own (length sdu) v ≡ test
      → model.next_stride v (serving (served old endpoints breaks) content_now rest) ≡ strided v new own payload (serving (served old endpoints breaks) content_now rest) test
  one_step old new endpoints breaks test v psm own sdu payload content_now rest is lent sdu_is octets endpoint may =
      let s = serving (served old endpoints breaks) content_now rest in
      ap (λ (one : Server). model.takes (lent_sdu one) v one s) (sym is)
      ∙ ap (λ (one : Option Lent). model.takes one v new s) lent
      ∙ ap (λ (at : Option ℕ). model.submits at (record { psm = psm; payload = payload }) v new s) endpoint
      ∙ ap (λ (xs : List ℕ). strided v new own payload s (takes_sdu own xs v)) (sym sdu_is)
      ∙ ap (λ (b : Bool). strided v new own payload s b) (takes-octets own sdu v octets ∙ may)

  -- an SDU of a PSM that has no channel waits
  placed : (lent : Option Lent) (psm : ℕ) → IsPsmOf lent (Some psm) → (payload : Payload) × (lent ≡ Some (record { psm = psm; payload = payload }))
  placed None psm is = cc
  placed (Some one) psm is = let same : psm ≡ one.psm = cc in (one.payload, ap (λ (n : ℕ). Some (record { psm = n; payload = one.payload })) (sym same))

  no_step : (old new : Server) (endpoints : List Endpoint) (breaks : Bool) (v : Channels) (psm : ℕ) (payload : Payload) (content_now : Option Contents) (rest : List Circumstance)
      → new ≡ lends old → lent_sdu new ≡ Some (record { psm = psm; payload = payload }) → endpoint_of psm endpoints ≡ None
      → model.next_stride v (serving (served old endpoints breaks) content_now rest) ≡ model.waiting v new (serving (served old endpoints breaks) content_now rest)
  no_step old new endpoints breaks v psm payload content_now rest is lent none =
      let s = serving (served old endpoints breaks) content_now rest in
      ap (λ (one : Server). model.takes (lent_sdu one) v one s) (sym is)
      ∙ ap (λ (one : Option Lent). model.takes one v new s) lent
      ∙ ap (λ (at : Option ℕ). model.submits at (record { psm = psm; payload = payload }) v new s) none

  pub unplaced_does : (old new : Server) (endpoints : List Endpoint) (breaks : Bool) (now : Served) (v : Channels) (psm : ℕ) (port : P) → served old endpoints breaks ≡ now
      → new ≡ lends old → IsPsmOf (lent_sdu new) (Some psm) → endpoint_of psm endpoints ≡ None → steps_to v v new endpoints breaks false now port
  unplaced_does old new endpoints breaks now v psm port view is psm_is none settings =
      let found = placed (lent_sdu new) psm psm_is in
      subst (λ (n : Served). Does Gave (λ rest. (profile_of settings).steps v (serving n (content port) rest)) (λ rest. record { channels = v; profile = serving (served new endpoints breaks) (content port) rest; more = false }) port port) view
      (does_none Gave (joins faults shortages) _ _ port (λ rest. no_step old new endpoints breaks v psm found.0 (content port) rest is found.1 none))

  pub waits_does : (old new : Server) (endpoints : List Endpoint) (breaks test : Bool) (now : Served) (v : Channels) (psm own : ℕ) (sdu : List ℕ) (port : P) → served old endpoints breaks ≡ now
      → new ≡ lends old → IsPsmOf (lent_sdu new) (Some psm) → AreLent (lent_sdu new) sdu → IsOctets sdu → endpoint_of psm endpoints ≡ Some own → takes own (length sdu) v ≡ test → test ≡ false → steps_to v v new endpoints breaks false now port
  waits_does old new endpoints breaks test now v psm own sdu port view is psm_is said octets endpoint may off settings =
      let found = finds (lent_sdu new) psm sdu psm_is said in
      subst (λ (n : Served). Does Gave (λ rest. (profile_of settings).steps v (serving n (content port) rest)) (λ rest. record { channels = v; profile = serving (served new endpoints breaks) (content port) rest; more = false }) port port) view
      (does_none Gave (joins faults shortages) _ _ port (λ rest. one_step old new endpoints breaks false v psm own sdu found.0 (content port) rest is found.1 found.2 octets endpoint (may ∙ off)))

  pub submits_does : (old new after : Server) (endpoints : List Endpoint) (breaks test : Bool) (now : Served) (machine machine' : Machine) (psm own : ℕ) (sdu : List ℕ) (port : P) → served old endpoints breaks ≡ now
      → new ≡ lends old → IsPsmOf (lent_sdu new) (Some psm) → AreLent (lent_sdu new) sdu → IsOctets sdu → endpoint_of psm endpoints ≡ Some own → takes own (length sdu) machine.channels ≡ test → test ≡ true
      → machine' ≡ with_channels machine (sends own sdu machine.channels) → after ≡ stepped new → steps_to machine.channels machine'.channels after endpoints breaks true now port
  submits_does old new after endpoints breaks test now machine machine' psm own sdu port view is psm_is said octets endpoint may on machine_is after_is settings =
      let v = machine.channels in
      let found = finds (lent_sdu new) psm sdu psm_is said in
      subst (λ (n : Served). Does Gave (λ rest. (profile_of settings).steps v (serving n (content port) rest)) (λ rest. record { channels = machine'.channels; profile = serving (served after endpoints breaks) (content port) rest; more = true }) port port) view
      (does_none Gave (joins faults shortages) _ _ port (λ rest. one_step old new endpoints breaks true v psm own sdu found.0 (content port) rest is found.1 found.2 octets endpoint (may ∙ on)
      ∙ ap (λ (w : Channels). record { channels = w; profile = serving (served (stepped new) endpoints breaks) (content port) rest; more = true }) (ap (λ xs. sends own xs v) (sym found.2) ∙ ap (λ (m : Machine). m.channels) (sym machine_is))
      ∙ ap (λ (s : Server). record { channels = machine'.channels; profile = serving (served s endpoints breaks) (content port) rest; more = true }) (sym after_is)))

-- ---- want of memory stays as it is

abbrev failed_of : Server → Bool
failed_of server = server.listener.service.failed

filled_keeps : (test : Bool) (a b : Server) (f : Bool) → failed_of a ≡ f → failed_of b ≡ f → failed_of (if test then a else b) ≡ f
filled_keeps true a b f first second = first
filled_keeps false a b f first second = second

said_keeps : (said : Option Said) (server : Server) → failed_of (said_on said server) ≡ failed_of server
said_keeps None server = refl
said_keeps (Some said) server = refl

leaves_keeps : (said : Option Said) (server : Server) → failed_of (leaves_with said server) ≡ failed_of server
leaves_keeps (Some said) server = refl
leaves_keeps None server = filled_keeps (breaks_now (said_on None server)) (left_by (said_on None server)) (said_on None server) (failed_of server) (said_keeps (next (left_mux server)) (record (said_on None server) { mux = left_mux server })) refl
  where
    left_mux : Server → Mux
    left_mux one = leaves one.mux

framed_keeps : (frame : Option PlainFrame) (server : Server) → failed_of (framed_by frame server) ≡ failed_of server
framed_keeps None server = leaves_keeps (next (filled server).mux) (filled server) ∙ filled_keeps (is_ready server.mux && not (is_empty server.listener.service.answer)) _ server (failed_of server) refl refl
framed_keeps (Some frame) server = refl

lends_keeps : (lent : Option Outlet) (server : Server) → failed_of (lends_by lent server) ≡ failed_of server
lends_keeps None server =
    filled_keeps (is_empty server.reply && is_empty server.listener.service.response) (let full = framed server in record full { lent = outlet_of full }) (record server { lent = outlet_of server }) (failed_of server) (framed_keeps server.frame server) refl
lends_keeps (Some outlet) server = refl

stepped_keeps : (lent : Option Outlet) (server : Server) → failed_of (push.taken_by lent server) ≡ failed_of server
stepped_keeps None server = refl
stepped_keeps (Some Records) server = refl
stepped_keeps (Some Direct) server = refl
stepped_keeps (Some Muxed) server = refl

-- a server that lends, and one that goes on, work as before
pub lent_works : (old new : Server) (endpoints : List Endpoint) (breaks : Bool) (now : Served) (pending : Bool) → served old endpoints breaks ≡ now → new ≡ lends old → new.listener.service.sessions ≡ old.listener.service.sessions
    → Works now pending → Works (served new endpoints breaks) pending
lent_works old new endpoints breaks now pending view is same works =
    let before = subst (λ (n : Served). Works n pending) (sym view) works in
    record { under_way = before.under_way ∙ ap is_pending (sym same); sound = ap failed_of is ∙ lends_keeps old.lent old ∙ before.sound }

pub stepped_works : (old new after : Server) (endpoints : List Endpoint) (breaks : Bool) (now : Served) (pending : Bool) → served old endpoints breaks ≡ now → new ≡ lends old → new.listener.service.sessions ≡ old.listener.service.sessions
    → after ≡ stepped new → after.listener.service.sessions ≡ new.listener.service.sessions → Works now pending → Works (served after endpoints breaks) pending
stepped_works old new after endpoints breaks now pending view is same after_is also works =
    let mid = lent_works old new endpoints breaks now pending view is same works in
    record { under_way = mid.under_way ∙ ap is_pending (sym also); sound = ap failed_of after_is ∙ stepped_keeps new.lent new ∙ mid.sound }
