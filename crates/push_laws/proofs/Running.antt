-- A server behind each occurrence stands for what can be read off them all.
use Rattle.std.proofs.Common.{Bool, false, cond, eqb, ◌+◌, ◌-◌, ◌≤◌, ◌≡◌, ℕ, List, [], ◌∷◌, ◌++◌, length, Option, Some, None, refl, sym, ap, ap₂, subst, ◌∙◌, ◌||◌, arith, append-nil}
use Rattle.std.specs.List.{filter_map, AllByRecursion}
use Rattle.std.proofs.Math.Seq.{drop-nil}
use Rattle.std.proofs.lemmas.Bool.{cond_both, cond-false}
use Rattle.std.proofs.lemmas.List.Sums.{sum_by-cons}
use Rattle.link_talk.specs.bt_base.specs.declared.settings.Settings.{Settings}
use Rattle.link_talk.specs.bt_base.specs.declared.settings.Transport.{Transport}
use Rattle.link_talk.specs.bt_base.specs.declared.settings.Transport.TheVariants.{L2cap, Rfcomm}
use Rattle.link_talk.specs.bt_base.specs.Objects.{Object}
use Rattle.link_talk.specs.bt_base.specs.Octets.{IsOctets}
use Rattle.push_model.specs.rfcomm_frames.specs.declared.connection.Role.{Role}
use Rattle.push_model.specs.rfcomm_frames.specs.declared.connection.Role.TheVariants.{Initiator, Responder}
use Rattle.push_model.specs.rfcomm_frames.specs.FrameReading.{is_empty}
use Rattle.push_model.specs.rfcomm_frames.specs.Frames.{PlainFrame}
use Rattle.push_model.specs.rfcomm_frames.specs.Multiplexing.{Passed}
use Rattle.push_model.specs.rfcomm_frames.specs.ObexPackets.{obex_packets}
use Rattle.push_model.specs.rfcomm_frames.specs.UserChannel.{user_octets}
use Rattle.push_model.specs.rfcomm_model.specs.Machine.{Mux, new_mux, reset}
use Rattle.push_model.specs.rfcomm_model.specs.Hearing.{Up, nothing, opened, bytes, closed, up, hears}
use Rattle.push_model.specs.rfcomm_model.specs.Sides.{handed}
use Rattle.push_model.specs.rfcomm_model.specs.ClosedSides.{IsOrderly}
use Rattle.link_talk.specs.Gains.{beyond}
use Rattle.push_model.specs.obex_session.specs.Past.{Heard, stored_by}
use Rattle.push_model.specs.declared.outlet.Outlet.{Outlet}
use Rattle.push_model.specs.declared.outlet.Outlet.TheVariants.{Records, Direct, Muxed}
use Rattle.push_model.specs.Client.{own_maximum}
use Rattle.push_model.specs.Payloads.{Framed, IsSaid}
use Rattle.push_model.specs.Sessions.{Gift}
use Rattle.push_model.specs.Service.{Service, is_ignored}
use Rattle.push_model.specs.Server.{Server, Reacted, Lent, hears_search, hears_up, hears_on, object_psm, rfcomm_psm, frame_lent, lent_by, taken_by, remuxed, unanswered, unreplied, lets_go_on, closed_on, lets_go_twice}
use Rattle.push_laws.specs.Occurrences.{Occurrence, Came, Went, Closed, LinkDown, Asked, Answering, done}
use Rattle.push_laws.specs.Readings.{closes, since, came_on, passed_by, octets_heard, packets_over}
use Rattle.push_laws.specs.Faults.{heard_as, counted, faults_of, is_refused, any_refused, refuses_with, faults_before, ignored_of, ignored_with}
use Rattle.push_laws.specs.Premises.{IsAlone, NoneShort, FrameIsHeard, MayCome, new_packets}
use Rattle.push_laws.proofs.Readings.{read_more, read_same, read_closed, drop_front, drop_same}
use Rattle.push_laws.proofs.Listening as listening
use Rattle.push_laws.proofs.Listening.{Listens, IsWell, OneAtATime, or-false, hears_more, direct_heard, direct_closed, carried_closed}
use Rattle.push_laws.proofs.Services.{let_go_paid}
use Rattle.push_laws.proofs.Frames.{Carries, carries_read, carries_new, carries_came, carries_went, reached_kept}
use Rattle.push_laws.proofs.Servers.{Upholds, octets_uphold, octets_give, by_psm, up_keeps}

abbrev pub most : Settings → Transport → ℕ
most settings = λ t. own_maximum t settings

abbrev pub passed : List Occurrence → List Passed
passed past = filter_map passed_by (since rfcomm_psm past)

-- ---- closings

module _ (most : Transport → ℕ) (largest cap : ℕ) (direct carried : List Heard) (on : List Passed) (got : List ℕ) (stored : List Object) (server : Server) (gift : Gift) where
  direct_upholds : Upholds most largest cap direct carried on got stored server gift → Upholds most largest cap [] carried on got stored (lets_go_on L2cap (unanswered server) gift).server (lets_go_on L2cap (unanswered server) gift).gift
  direct_upholds u = record {
    listens = direct_closed most direct carried got stored (unanswered server).listener server.held gift (record { tail = u.listens.tail; serves = u.listens.serves; packets = u.listens.packets; cut = u.listens.cut });
    carries = u.carries;
  }

  reset_is : Carries largest cap on got server.mux server.frame → reset server.mux.largest server.mux ≡ new_mux Responder 18 largest largest cap
  reset_is c =
      let m : Mux = server.mux in
      let k = reached_kept largest cap (record { mux = m; talk = c.talk; got = got }) c.reached in
      ap (λ (r : Role). new_mux r m.dlci m.largest m.largest m.account.cap) k.0 ∙ ap (λ (d : ℕ). new_mux Responder d m.largest m.largest m.account.cap) k.1
      ∙ ap (λ (l : ℕ). new_mux Responder 18 l l m.account.cap) k.2 ∙ ap (λ (n : ℕ). new_mux Responder 18 largest largest n) k.3

  carried_upholds : Upholds most largest cap direct carried on got stored server gift → Upholds most largest cap direct [] [] [] stored (lets_go_on Rfcomm (remuxed server) gift).server (lets_go_on Rfcomm (remuxed server) gift).gift
  carried_upholds u = record {
    listens = carried_closed most direct carried got stored server.listener server.held gift u.listens;
    carries = subst (λ (m : Mux). Carries largest cap [] [] m None) (sym (reset_is u.carries)) (carries_new largest cap);
  }

-- ---- gains

nothing_gained : (n : ℕ) (past : List Heard) → beyond (stored_by n past) (stored_by n past) ≡ []
nothing_gained n past = drop_same (stored_by n past)

all_forgotten : (n : ℕ) (past : List Heard) → beyond (stored_by n past) (stored_by n []) ≡ []
all_forgotten n past = drop-nil (length (stored_by n past))

no_gain : (stored a b : List Object) → a ≡ [] → b ≡ [] → stored ≡ stored ++ (a ++ b)
no_gain stored a b e f = sym (append-nil stored) ∙ ap (λ (os : List Object). stored ++ os) (ap (λ (os : List Object). os ++ []) (sym e) ∙ ap (λ (os : List Object). a ++ os) (sym f))

left_gain : (stored a b : List Object) → b ≡ [] → stored ++ a ≡ stored ++ (a ++ b)
left_gain stored a b f = ap (λ (os : List Object). stored ++ os) (sym (append-nil a) ∙ ap (λ (os : List Object). a ++ os) (sym f))

right_gain : (stored a b : List Object) → a ≡ [] → stored ++ b ≡ stored ++ (a ++ b)
right_gain stored a b e = ap (λ (os : List Object). stored ++ (os ++ b)) (sym e)

-- ---- one occurrence

module _ (settings : Settings) (past : List Occurrence) (direct carried : List Heard) (stored : List Object) (got : List ℕ) where
  abbrev pub direct_gain : List Heard → List Object
  direct_gain heard = beyond (stored_by (own_maximum L2cap settings) direct) (stored_by (own_maximum L2cap settings) heard)

  abbrev pub carried_gain : List Heard → List Object
  carried_gain heard = beyond (stored_by (own_maximum Rfcomm settings) carried) (stored_by (own_maximum Rfcomm settings) heard)

  abbrev pub Stands : (direct' carried' : List Heard) → List Passed → List ℕ → List Object → Reacted → Type 0
  Stands direct' carried' on octets held at = Upholds (most settings) (settings.mtu - 6) settings.credits direct' carried' on octets held at.server at.gift

  abbrev pub Now : Reacted → Type 0
  Now at = Stands direct carried (passed past) got stored at

  abbrev pub direct_after : Occurrence → Bool → List Heard
  direct_after one refused = cond (closes object_psm one) [] (direct ++ heard_as refused (new_packets L2cap past one))

  abbrev pub carried_after : Occurrence → Bool → List ℕ → List Heard
  carried_after one refused octets = cond (closes rfcomm_psm one) [] (carried ++ heard_as refused (beyond (obex_packets got) (obex_packets octets)))

  -- behind one occurrence more, whose packet counts as refused or not
  pub record Next (one : Occurrence) (service : Service) (gift : Gift) (at : Reacted) : Type 0 where
    pub refused : Bool
    pub is : refused ≡ refuses_with past service gift.answers one
    pub octets : List ℕ
    pub upholds : Stands (direct_after one refused) (carried_after one refused octets) (passed (past ++ one ∷ [])) octets (stored ++ (direct_gain (direct_after one refused) ++ carried_gain (carried_after one refused octets))) at
    pub paid : faults_of at.gift.answers + counted refused ≤ faults_before one gift.answers + ignored_with past service one

  next_by : (one : Occurrence) (service : Service) (gift : Gift) (at : Reacted) (refused : Bool) (direct' carried' : List Heard) (on : List Passed) (octets : List ℕ) (held : List Object) → refused ≡ refuses_with past service gift.answers one → direct_after one refused ≡ direct' → carried_after one refused octets ≡ carried'
      → passed (past ++ one ∷ []) ≡ on → held ≡ stored ++ (direct_gain direct' ++ carried_gain carried') → Stands direct' carried' on octets held at → faults_of at.gift.answers + counted refused ≤ faults_before one gift.answers + ignored_with past service one
      → Next one service gift at
  next_by one service gift at refused direct' carried' on octets held is d c p h u paid = record {
    refused = refused;
    is = is;
    octets = octets;
    upholds =
        subst (λ (ps : List Passed). Stands (direct_after one refused) (carried_after one refused octets) ps octets (stored ++ (direct_gain (direct_after one refused) ++ carried_gain (carried_after one refused octets))) at) (sym p)
        (subst (λ (ds : List Heard). Stands ds (carried_after one refused octets) on octets (stored ++ (direct_gain ds ++ carried_gain (carried_after one refused octets))) at) (sym d)
        (subst (λ (cs : List Heard). Stands direct' cs on octets (stored ++ (direct_gain direct' ++ carried_gain cs)) at) (sym c) (subst (λ (os : List Object). Stands direct' carried' on octets os at) h u)));
    paid = paid;
  }

  -- nothing new is whole
  direct_same : (one : Occurrence) (refused : Bool) → closes object_psm one ≡ false → packets_over L2cap (past ++ one ∷ []) ≡ packets_over L2cap past → direct_after one refused ≡ direct
  direct_same one refused stays same =
      cond-false _ _ _ stays ∙ ap (λ (ps : List (List ℕ)). direct ++ heard_as refused ps) (ap (beyond (packets_over L2cap past)) same ∙ drop_same (packets_over L2cap past)) ∙ append-nil direct

  carried_same : (one : Occurrence) (refused : Bool) → closes rfcomm_psm one ≡ false → carried_after one refused got ≡ carried
  carried_same one refused stays = cond-false _ _ _ stays ∙ ap (λ (ps : List (List ℕ)). carried ++ heard_as refused ps) (drop_same (obex_packets got)) ∙ append-nil carried

  nothing_new : stored ≡ stored ++ (direct_gain direct ++ carried_gain carried)
  nothing_new = no_gain stored (direct_gain direct) (carried_gain carried) (nothing_gained (own_maximum L2cap settings) direct) (nothing_gained (own_maximum Rfcomm settings) carried)

  -- which packets are whole with it
  no_direct : (one : Occurrence) → closes object_psm one ≡ false → came_on object_psm one ≡ None → new_packets L2cap past one ≡ []
  no_direct one stays none = ap (beyond (packets_over L2cap past)) (read_same (came_on object_psm) object_psm past one stays none) ∙ drop_same (packets_over L2cap past)

  pub no_carried : (one : Occurrence) → closes rfcomm_psm one ≡ false → passed_by one ≡ None → new_packets Rfcomm past one ≡ []
  no_carried one stays none = ap (λ (ps : List Passed). beyond (obex_packets (octets_heard past)) (obex_packets (user_octets 18 Responder Initiator ps))) (read_same passed_by rfcomm_psm past one stays none) ∙ drop_same (obex_packets (octets_heard past))

  none_refused : (service : Service) (gift : Gift) (one : Occurrence) → came_on object_psm one ≡ None → passed_by one ≡ None → false ≡ refuses_with past service gift.answers one
  none_refused service gift (Came psm sdu) came pass =
      sym (ap₂ (λ a b. a || b) (ap (any_refused L2cap service gift.answers) (no_direct (Came psm sdu) refl came)) (ap (any_refused Rfcomm service gift.answers) (no_carried (Came psm sdu) refl pass)))
  none_refused service gift (Went psm sdu) came pass = refl
  none_refused service gift (Closed psm) came pass = refl
  none_refused service gift LinkDown came pass = refl
  none_refused service gift Asked came pass = refl
  none_refused service gift (Answering answers) came pass = refl

  -- nothing is read off it
  pub same_next : (one : Occurrence) (service : Service) (gift : Gift) (at : Reacted) → closes object_psm one ≡ false → closes rfcomm_psm one ≡ false → came_on object_psm one ≡ None → passed_by one ≡ None → Now at → faults_of at.gift.answers ≤ faults_before one gift.answers → Next one service gift at
  same_next one service gift at a b came pass u paid =
      next_by one service gift at false direct carried (passed past) got stored (none_refused service gift one came pass) (direct_same one false a (read_same (came_on object_psm) object_psm past one a came)) (carried_same one false b) (read_same passed_by rfcomm_psm past one b pass) nothing_new u (omega arith)

  -- ---- an SDU comes

  search_next : (sdu : List ℕ) (at : Reacted) → Now at → Next (Came 0x0001 sdu) at.server.listener.service at.gift (record { server = hears_search sdu at.server; gift = at.gift })
  search_next sdu at u =
      same_next (Came 0x0001 sdu) at.server.listener.service at.gift (record { server = hears_search sdu at.server; gift = at.gift }) refl refl refl refl
      (cond_both (is_empty at.server.reply) _ _ (λ (s : Server). Now (record { server = s; gift = at.gift })) (λ none. record { listens = u.listens; carries = u.carries }) (λ some. u)) (omega arith)

  wells : (t : Transport) (service : Service) (packets : List (List ℕ)) → AllByRecursion (IsAlone settings past service t) packets → AllByRecursion (IsWell t service) packets
  wells t service [] all = tt
  wells t service (packet ∷ packets) all = (record { alone = all.0.alone }, wells t service packets all.1)

  object_next : (sdu : List ℕ) (at : Reacted) → AllByRecursion (IsAlone settings past at.server.listener.service L2cap) (new_packets L2cap past (Came 0x1001 sdu)) → Now at → Next (Came 0x1001 sdu) at.server.listener.service at.gift (hears_on 0x1001 sdu at.server at.gift)
  object_next sdu at requests u =
      let one : Occurrence = Came 0x1001 sdu in
      let new : new_packets L2cap past one ≡ sdu ∷ [] = ap (beyond (packets_over L2cap past)) (read_more (came_on object_psm) object_psm past one refl) ∙ drop_front (packets_over L2cap past) (sdu ∷ []) in
      let well = (wells L2cap at.server.listener.service (sdu ∷ []) (subst (AllByRecursion (IsAlone settings past at.server.listener.service L2cap)) new requests)).0 in
      let then = direct_heard (most settings) direct carried got stored at.server.listener at.server.held at.gift sdu u.listens well in
      let now : List Heard = direct ++ (sdu, then.refused) ∷ [] in
      let is : then.refused ≡ refuses_with past at.server.listener.service at.gift.answers one =
      then.is ∙ sym (ap₂ (λ a b. a || b) (ap (any_refused L2cap at.server.listener.service at.gift.answers) new) (ap (any_refused Rfcomm at.server.listener.service at.gift.answers) (no_carried one refl refl))
      ∙ ap (λ b. b || false) (or-false (is_refused L2cap sdu at.server.listener.service at.gift.answers)) ∙ or-false (is_refused L2cap sdu at.server.listener.service at.gift.answers)) in
      next_by one at.server.listener.service at.gift (hears_on 0x1001 sdu at.server at.gift) then.refused now carried (passed past) got (stored ++ direct_gain now) is (ap (λ (ps : List (List ℕ)). direct ++ heard_as then.refused ps) new) (carried_same one then.refused refl)
      (read_same passed_by rfcomm_psm past one refl refl) (left_gain stored (direct_gain now) (carried_gain carried) (nothing_gained (own_maximum Rfcomm settings) carried)) (record { listens = then.listens; carries = u.carries })
      (let paid = then.paid in let one = ap (ignored_of L2cap at.server.listener.service) new in let count = sum_by-cons (λ (packet : List ℕ). counted (is_ignored L2cap packet at.server.listener.service)) sdu [] in
      omega (arith, paid, one, count))

  -- what comes up of a frame
  record Comes (on : List Passed) (octets : List ℕ) (service : Service) (gift : Gift) (at : Reacted) : Type 0 where
    refused : Bool
    is : refused ≡ any_refused Rfcomm service gift.answers (beyond (obex_packets got) (obex_packets octets))
    stands : Stands direct (carried ++ heard_as refused (beyond (obex_packets got) (obex_packets octets))) on octets (stored ++ carried_gain (carried ++ heard_as refused (beyond (obex_packets got) (obex_packets octets)))) at
    paid : faults_of at.gift.answers + counted refused ≤ faults_of gift.answers + ignored_of Rfcomm service (beyond (obex_packets got) (obex_packets octets))

  no_octets : (on : List Passed) (server : Server) (gift : Gift) → Listens (most settings) direct carried got stored server.listener server.held gift → Carries (settings.mtu - 6) settings.credits on (got ++ []) server.mux server.frame
      → Comes on (got ++ []) server.listener.service gift (record { server = server; gift = gift })
  no_octets on server gift l c =
      let now : carried ++ heard_as false (beyond (obex_packets got) (obex_packets (got ++ []))) ≡ carried =
      ap (λ (xs : List ℕ). carried ++ heard_as false (beyond (obex_packets got) (obex_packets xs))) (append-nil got) ∙ ap (λ (ps : List (List ℕ)). carried ++ heard_as false ps) (drop_same (obex_packets got)) ∙ append-nil carried in
      let same : stored ≡ stored ++ carried_gain carried = sym (append-nil stored) ∙ ap (λ (os : List Object). stored ++ os) (sym (nothing_gained (own_maximum Rfcomm settings) carried)) in
      record {
        refused = false;
        is = sym (ap (λ (xs : List ℕ). any_refused Rfcomm server.listener.service gift.answers (beyond (obex_packets got) (obex_packets xs))) (append-nil got) ∙ ap (any_refused Rfcomm server.listener.service gift.answers) (drop_same (obex_packets got)));
        stands = subst (λ (cs : List Heard). Stands direct cs on (got ++ []) (stored ++ carried_gain cs) (record { server = server; gift = gift })) (sym now)
            (record {
              listens = subst (λ (os : List Object). Listens (most settings) direct carried (got ++ []) os server.listener server.held gift) same
                  (subst (λ (xs : List ℕ). Listens (most settings) direct carried xs stored server.listener server.held gift) (sym (append-nil got)) l);
              carries = c;
            });
        paid = omega arith;
      }

  up_comes : (u : Up) (on : List Passed) (server : Server) (gift : Gift) → Listens (most settings) direct carried got stored server.listener server.held gift
      → Carries (settings.mtu - 6) settings.credits on (got ++ handed u) server.mux server.frame → OneAtATime (most settings) server.listener.service (beyond (obex_packets got) (obex_packets (got ++ handed u)))
      → Comes on (got ++ handed u) server.listener.service gift (hears_up u server gift)
  up_comes nothing on server gift l c one = no_octets on server gift l c
  up_comes opened on server gift l c one = no_octets on server gift l c
  up_comes (closed reason) on server gift l c one = no_octets on server gift l c
  up_comes (bytes octets) on server gift l c one =
      let then = listening.octets_heard (most settings) direct carried got octets server.held stored server.listener gift (let low = settings.obex_low in omega arith) l one in
      let now : List Heard = carried ++ heard_as then.refused (beyond (obex_packets got) (obex_packets (got ++ octets))) in
      record {
        refused = then.refused;
        is = then.is;
        stands = octets_uphold (most settings) (settings.mtu - 6) settings.credits direct now on (got ++ octets) (stored ++ carried_gain now) octets server gift then.listens c;
        paid = subst (λ (g : Gift). faults_of g.answers + counted then.refused ≤ faults_of gift.answers + ignored_of Rfcomm server.listener.service (beyond (obex_packets got) (obex_packets (got ++ octets)))) (sym (octets_give octets server gift)) then.paid;
      }

  frame_next : (sdu : List ℕ) (at : Reacted) → octets_heard past ≡ got → MayCome NoneShort (IsAlone settings past at.server.listener.service) settings past at (Came 0x0003 sdu) → done (Came 0x0003 sdu) at ≡ hears_on 0x0003 sdu at.server at.gift → Now at
      → Next (Came 0x0003 sdu) at.server.listener.service at.gift (hears_on 0x0003 sdu at.server at.gift)
  frame_next sdu at heard may is u =
      let one : Occurrence = Came 0x0003 sdu in
      let server : Server = record (at.server) { mux = hears sdu at.server.mux } in
      let comes = up sdu at.server.mux in
      let octets : List ℕ = got ++ handed comes in
      let on : List Passed = passed past ++ record { from = Initiator; sdu = sdu } ∷ [] in
      let frame : FrameIsHeard sdu at.server = may.frame sdu refl in
      let carries = carries_came (settings.mtu - 6) settings.credits (passed past) got at.server.mux at.server.frame sdu u.carries frame.room frame.behind in
      let more : passed (past ++ one ∷ []) ≡ on = read_more passed_by rfcomm_psm past one refl in
      let orderly : IsOrderly (hears sdu at.server.mux).closed = subst (λ (m : Mux). IsOrderly m.closed) (ap (λ (r : Reacted). r.server.mux) is ∙ up_keeps comes server at.gift) may.orderly in
      let heard' : octets_heard (past ++ one ∷ []) ≡ octets = ap (user_octets 18 Responder Initiator) more ∙ carries_read (settings.mtu - 6) settings.credits on octets (hears sdu at.server.mux) at.server.frame carries orderly in
      let new : new_packets Rfcomm past one ≡ beyond (obex_packets got) (obex_packets octets) = ap (λ (xs : List ℕ). beyond (obex_packets xs) (obex_packets (octets_heard (past ++ one ∷ [])))) heard ∙ ap (λ (xs : List ℕ). beyond (obex_packets got) (obex_packets xs)) heard' in
      let requests = may.requests in
      let single : OneAtATime (most settings) at.server.listener.service (beyond (obex_packets got) (obex_packets octets)) =
      subst (OneAtATime (most settings) at.server.listener.service) new (record { single = requests.single; heard = wells Rfcomm at.server.listener.service (new_packets Rfcomm past one) (requests.heard Rfcomm); lengths = requests.lengths }) in
      let then = up_comes comes on server at.gift u.listens carries single in
      let now : List Heard = carried ++ heard_as then.refused (beyond (obex_packets got) (obex_packets octets)) in
      let is : then.refused ≡ refuses_with past at.server.listener.service at.gift.answers one =
      then.is ∙ sym (ap₂ (λ a b. a || b) (ap (any_refused L2cap at.server.listener.service at.gift.answers) (no_direct one refl refl)) (ap (any_refused Rfcomm at.server.listener.service at.gift.answers) new)) in
      next_by one at.server.listener.service at.gift (hears_on 0x0003 sdu at.server at.gift) then.refused direct now on octets (stored ++ carried_gain now) is
      (direct_same one then.refused refl (read_same (came_on object_psm) object_psm past one refl refl)) refl more (right_gain stored (direct_gain direct) (carried_gain now) (nothing_gained (own_maximum L2cap settings) direct)) then.stands
      (let paid = then.paid in let one = ap (ignored_of Rfcomm at.server.listener.service) new in omega (arith, paid, one))

  other_next : (psm : ℕ) (sdu : List ℕ) (at : Reacted) → eqb psm 0x0001 ≡ false → eqb psm 0x0003 ≡ false → eqb psm 0x1001 ≡ false → Now at → Next (Came psm sdu) at.server.listener.service at.gift (hears_on psm sdu at.server at.gift)
  other_next psm sdu at a b c u =
      subst (Next (Came psm sdu) at.server.listener.service at.gift) (sym (cond-false _ _ _ a ∙ (cond-false _ _ _ b ∙ cond-false _ _ (let r : Reacted = record { server = at.server; gift = at.gift } in r) c)))
      (same_next (Came psm sdu) at.server.listener.service at.gift at refl refl (cond-false _ _ _ c) (cond-false _ _ _ b) u (omega arith))

  pub came_next : (sdu : List ℕ) (at : Reacted) → octets_heard past ≡ got → Now at → (psm : ℕ) → MayCome NoneShort (IsAlone settings past at.server.listener.service) settings past at (Came psm sdu) → done (Came psm sdu) at ≡ hears_on psm sdu at.server at.gift
      → Next (Came psm sdu) at.server.listener.service at.gift (hears_on psm sdu at.server at.gift)
  came_next sdu at heard u psm =
      by_psm (λ p. MayCome NoneShort (IsAlone settings past at.server.listener.service) settings past at (Came p sdu) → done (Came p sdu) at ≡ hears_on p sdu at.server at.gift → Next (Came p sdu) at.server.listener.service at.gift (hears_on p sdu at.server at.gift))
      (λ may is. search_next sdu at u) (λ may is. frame_next sdu at heard may is u) (λ may is. object_next sdu at (may.requests.heard L2cap) u) (λ p a b c may is. other_next p sdu at a b c u) psm

  -- ---- an SDU goes

  same_lent : (a b : Lent) → Some a ≡ Some b → a ≡ b
  same_lent a b e = cc

  none_lent : (lent : Lent) → None ≡ Some lent → ⊥
  none_lent lent e = cc

  frame_went : (sdu : List ℕ) (at : Reacted) (f : PlainFrame) → at.server.frame ≡ Some f → IsSaid (Framed f) sdu → IsOctets sdu → Now at → Next (Went 0x0003 sdu) at.server.listener.service at.gift (record at { server = record (at.server) { frame = None; lent = None } })
  frame_went sdu at f is said octets u =
      let one : Occurrence = Went 0x0003 sdu in
      next_by one at.server.listener.service at.gift (record at { server = record (at.server) { frame = None; lent = None } }) false direct carried (passed past ++ record { from = Responder; sdu = sdu } ∷ []) got stored refl
      (direct_same one false refl (read_same (came_on object_psm) object_psm past one refl refl)) (carried_same one false refl) (read_more passed_by rfcomm_psm past one refl) nothing_new
      (record {
        listens = u.listens;
        carries = carries_went (settings.mtu - 6) settings.credits (passed past) got at.server.mux f sdu (subst (λ (o : Option PlainFrame). Carries (settings.mtu - 6) settings.credits (passed past) got at.server.mux o) is u.carries) octets said.spelling;
      }) (omega arith)

  muxed_next : (psm : ℕ) (sdu : List ℕ) (at : Reacted) (lent : Lent) (o : Option PlainFrame) → at.server.frame ≡ o → frame_lent o ≡ Some lent → lent.psm ≡ psm → IsSaid lent.payload sdu → IsOctets sdu → Now at
      → Next (Went psm sdu) at.server.listener.service at.gift (record at { server = record (at.server) { frame = None; lent = None } })
  muxed_next psm sdu at lent None is e p said octets u = absurd (none_lent lent e)
  muxed_next psm sdu at lent (Some f) is e p said octets u =
      let same = same_lent (record { psm = 0x0003; payload = Framed f }) lent e in
      subst (λ (n : ℕ). Next (Went n sdu) at.server.listener.service at.gift (record at { server = record (at.server) { frame = None; lent = None } })) (ap (λ (l : Lent). l.psm) same ∙ p)
      (frame_went sdu at f is (subst (λ (l : Lent). IsSaid l.payload sdu) (sym same) said) octets u)

  pub went_next : (o : Option Outlet) (psm : ℕ) (sdu : List ℕ) (at : Reacted) (lent : Lent) → lent_by o at.server ≡ Some lent → lent.psm ≡ psm → IsSaid lent.payload sdu → IsOctets sdu → Now at → Next (Went psm sdu) at.server.listener.service at.gift (record at { server = taken_by o at.server })
  went_next None psm sdu at lent e p said octets u = absurd (none_lent lent e)
  went_next (Some Muxed) psm sdu at lent e p said octets u = muxed_next psm sdu at lent at.server.frame refl e p said octets u
  went_next (Some Records) psm sdu at lent e p said octets u =
      subst (λ (n : ℕ). Next (Went n sdu) at.server.listener.service at.gift (record at { server = taken_by (Some Records) at.server })) (ap (λ (l : Lent). l.psm) (same_lent _ lent e) ∙ p)
      (same_next (Went 0x0001 sdu) at.server.listener.service at.gift (record at { server = taken_by (Some Records) at.server }) refl refl refl refl (record { listens = u.listens; carries = u.carries }) (omega arith))
  went_next (Some Direct) psm sdu at lent e p said octets u =
      subst (λ (n : ℕ). Next (Went n sdu) at.server.listener.service at.gift (record at { server = taken_by (Some Direct) at.server })) (ap (λ (l : Lent). l.psm) (same_lent _ lent e) ∙ p)
      (same_next (Went 0x1001 sdu) at.server.listener.service at.gift (record at { server = taken_by (Some Direct) at.server }) refl refl refl refl
      (record { listens = record { tail = u.listens.tail; serves = u.listens.serves; packets = u.listens.packets; cut = u.listens.cut }; carries = u.carries }) (omega arith))

  -- ---- a channel is closed, or the link goes down

  pub closed_next : (at : Reacted) → Now at → (psm : ℕ) → Next (Closed psm) at.server.listener.service at.gift (closed_on psm at.server at.gift)
  closed_next at u psm =
      by_psm (λ p. Next (Closed p) at.server.listener.service at.gift (closed_on p at.server at.gift))
      (same_next (Closed 0x0001) at.server.listener.service at.gift (closed_on 0x0001 at.server at.gift) refl refl refl refl (record { listens = u.listens; carries = u.carries }) (omega arith))
      (next_by (Closed 0x0003) at.server.listener.service at.gift (closed_on 0x0003 at.server at.gift) false direct [] [] [] stored refl (direct_same (Closed 0x0003) false refl (read_same (came_on object_psm) object_psm past (Closed 0x0003) refl refl)) refl
      (read_closed passed_by rfcomm_psm past (Closed 0x0003) refl) (no_gain stored (direct_gain direct) (carried_gain []) (nothing_gained (own_maximum L2cap settings) direct) (all_forgotten (own_maximum Rfcomm settings) carried))
      (carried_upholds (most settings) (settings.mtu - 6) settings.credits direct carried (passed past) got stored at.server at.gift u)
      (let paid = let_go_paid Rfcomm (remuxed at.server).listener.service at.gift in omega arith))
      (next_by (Closed 0x1001) at.server.listener.service at.gift (closed_on 0x1001 at.server at.gift) false [] carried (passed past) got stored refl refl (carried_same (Closed 0x1001) false refl)
      (read_same passed_by rfcomm_psm past (Closed 0x1001) refl refl) (no_gain stored (direct_gain []) (carried_gain carried) (all_forgotten (own_maximum L2cap settings) direct) (nothing_gained (own_maximum Rfcomm settings) carried))
      (direct_upholds (most settings) (settings.mtu - 6) settings.credits direct carried (passed past) got stored at.server at.gift u)
      (let paid = let_go_paid L2cap (unanswered at.server).listener.service at.gift in omega arith))
      (λ p a b c. subst (Next (Closed p) at.server.listener.service at.gift) (sym (cond-false _ _ _ a ∙ (cond-false _ _ _ b ∙ cond-false _ _ (let r : Reacted = record { server = at.server; gift = at.gift } in r) c)))
      (same_next (Closed p) at.server.listener.service at.gift at c b refl refl u (omega arith)))
      psm

  pub down_next : (at : Reacted) → Now at → Next LinkDown at.server.listener.service at.gift (lets_go_twice (lets_go_on L2cap (unanswered at.server) at.gift))
  down_next at u =
      let first : Reacted = lets_go_on L2cap (unanswered at.server) at.gift in
      let v = direct_upholds (most settings) (settings.mtu - 6) settings.credits direct carried (passed past) got stored at.server at.gift u in
      let second : Reacted = lets_go_on Rfcomm (remuxed (unreplied first.server)) first.gift in
      subst (Next LinkDown at.server.listener.service at.gift) (sym (cond-false _ first second v.listens.serves.enough))
      (next_by LinkDown at.server.listener.service at.gift second false [] [] [] [] stored refl refl refl (read_closed passed_by rfcomm_psm past LinkDown refl)
      (no_gain stored (direct_gain []) (carried_gain []) (all_forgotten (own_maximum L2cap settings) direct) (all_forgotten (own_maximum Rfcomm settings) carried))
      (carried_upholds (most settings) (settings.mtu - 6) settings.credits [] carried (passed past) got stored (unreplied first.server) first.gift (record { listens = v.listens; carries = v.carries }))
      (let one = let_go_paid L2cap (unanswered at.server).listener.service at.gift in let two = let_go_paid Rfcomm (remuxed (unreplied first.server)).listener.service first.gift in omega arith))
