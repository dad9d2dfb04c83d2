-- From a new server on, whatever may come: the inbox gains what the heard packets spell.
use Rattle.std.proofs.Common.{Bool, true, false, cond, ltb, ◌+◌, ◌-◌, ◌≤◌, ◌≡◌, ℕ, List, [], ◌∷◌, ◌++◌, length, map, Option, Some, None, Ok, Err, inl, arith, refl, sym, ap, subst, ◌∙◌, append_assoc, append-nil}
use Rattle.std.specs.List.{AllByRecursion, cons_option}
use Rattle.std.proofs.lemmas.Bool.{cond-false, ltb-false}
use Rattle.std.proofs.lemmas.List.{map-append}
use Rattle.std.proofs.lemmas.List.Sums.{sum_by-cons}
use Rattle.link_talk.specs.bt_base.specs.declared.settings.Settings.{Settings}
use Rattle.link_talk.specs.bt_base.specs.declared.settings.Transport.{Transport}
use Rattle.link_talk.specs.bt_base.specs.declared.settings.Transport.TheVariants.{L2cap, Rfcomm}
use Rattle.link_talk.specs.bt_base.specs.declared.ports.PortFault.TheVariants.{NoMemory}
use Rattle.link_talk.specs.bt_base.specs.Objects.{Object}
use Rattle.link_talk.specs.capture.proofs.HistoryLaws.{given_by-more}
use Rattle.push_model.specs.obex_headers.specs.Packets.{PlainHeader}
use Rattle.push_model.specs.obex_headers.specs.Runs.{names, bodies}
use Rattle.push_model.specs.obex_session.specs.InboxCalls.{Answer}
use Rattle.push_model.specs.obex_session.specs.Laws.{without_fault}
use Rattle.push_model.specs.obex_session.specs.Past.{Heard, stored_by, open_headers, progress_from, progress_of}
use Rattle.push_model.specs.obex_session.specs.Rules as rules
use Rattle.push_model.specs.obex_session.proofs.GrantedLaws.{idle_progress}
use Rattle.push_model.specs.rfcomm_frames.specs.declared.connection.Role.TheVariants.{Responder}
use Rattle.push_model.specs.rfcomm_frames.specs.Frames.{PlainFrame}
use Rattle.push_model.specs.rfcomm_frames.specs.ObexPackets.{obex_packets}
use Rattle.push_model.specs.rfcomm_frames.specs.UserChannel.{credits_held}
use Rattle.push_model.specs.rfcomm_model.specs.ClosedSides.{IsOrderly}
use Rattle.link_talk.specs.Gains.{beyond, gained}
use Rattle.push_model.specs.Client.{own_maximum}
use Rattle.push_model.specs.Sessions.{session_of, other_of, has_object}
use Rattle.push_model.specs.Service.{Service, is_ignored}
use Rattle.push_model.specs.Server.{Reacted, object_psm, rfcomm_psm}
use Rattle.push_laws.specs.Occurrences.{Occurrence, Came, Went, Closed, LinkDown, Asked, Answering, done, all_done}
use Rattle.push_laws.specs.Readings.{closes, came_on, octets_heard, packets_over}
use Rattle.push_laws.specs.Gains as clear
use Rattle.push_laws.specs.Gains.{objects_over}
use Rattle.push_laws.specs.Faults.{Marked, unmarked, heard_as, heard_behind, heard_from, heard_over, stored_over, objects_with, objects, counted, refusals, faults_of, refuses_with, mark_of, marked_from, faults_before, spent_from, ignored_of, ignored_with, ignored_from}
use Rattle.push_laws.specs.Faults as faulty
use Rattle.push_model.specs.obex_session.specs.Serving as serving
use Rattle.push_model.specs.obex_session.specs.Marks as marks
use Rattle.push_model.specs.obex_headers.specs.Reading as reading
use Rattle.push_model.specs.obex_headers.specs.declared.packet.Phase.TheVariants as phase
use Rattle.push_laws.specs.Premises.{is_under_way, IsHeard, IsTaken, IsAlone, AllGranted, NoneShort, AnswersAre, MayCome, AllMayCome, new_packets, AllMayFail, AllMayMiss}
use Rattle.push_laws.specs.Laws.{stored_in, new_over, paid_for, GainsWhatIsHeard, CreditsAreRead}
use Rattle.push_laws.proofs.Sessions as opened
use Rattle.push_laws.proofs.Readings.{read_more, read_closed, drop_front, unmarked_more, heard_more, spelled_stored}
use Rattle.push_laws.proofs.Streams.{no_packets}
use Rattle.push_laws.proofs.Listening.{pasts, octets_of, IsCut}
use Rattle.push_laws.proofs.Services.{Serves}
use Rattle.push_laws.proofs.Frames.{carries_read, carries_new, waiting_cost, carries_credits}
use Rattle.push_laws.proofs.Servers.{asked_upholds, answers_uphold}
use Rattle.push_laws.proofs.Running.{most, passed, Now, Next, direct_after, carried_after, same_next, came_next, went_next, closed_next, down_next}

-- what is so at every moment
pub record Holds (settings : Settings) (before : List Object) (past : List Marked) (at : Reacted) : Type 0 where
  pub got : List ℕ
  pub heard : octets_heard (unmarked past) ≡ got
  pub direct : map octets_of (heard_over L2cap past) ≡ packets_over L2cap (unmarked past)
  pub upholds : Now settings (unmarked past) (heard_over L2cap past) (heard_over Rfcomm past) (before ++ objects settings past) got at

module _ (settings : Settings) (before : List Object) where
  pub unfailed : (past : List Marked) (at calm : Reacted) → Holds settings before past at → cond at.server.listener.service.failed (let r : Reacted = record { server = at.server; gift = at.gift } in r) calm ≡ calm
  unfailed past at calm h = cond-false _ _ _ h.upholds.listens.serves.enough

  abbrev NextTo : List Marked → Reacted → List ℕ → Occurrence → Reacted → Type 0
  NextTo past at got one at' = Next settings (unmarked past) (heard_over L2cap past) (heard_over Rfcomm past) (before ++ objects settings past) got one at.server.listener.service at.gift at'

  next_after : (past : List Marked) (one : Occurrence) (at : Reacted) (h : Holds settings before past at) → MayCome NoneShort (IsAlone settings (unmarked past) at.server.listener.service) settings (unmarked past) at one → NextTo past at h.got one (done one at)
  next_after past (Came psm sdu) at h may =
      let is = unfailed past at _ h in
      subst (NextTo past at h.got (Came psm sdu)) (sym is)
      (came_next settings (unmarked past) (heard_over L2cap past) (heard_over Rfcomm past) (before ++ objects settings past) h.got sdu at h.heard h.upholds psm may is)
  next_after past (Went psm sdu) at h may =
      went_next settings (unmarked past) (heard_over L2cap past) (heard_over Rfcomm past) (before ++ objects settings past) h.got at.server.lent psm sdu at may.own.0 may.own.1 may.own.2 may.own.3 may.own.4 h.upholds
  next_after past (Closed psm) at h may =
      subst (NextTo past at h.got (Closed psm)) (sym (unfailed past at _ h)) (closed_next settings (unmarked past) (heard_over L2cap past) (heard_over Rfcomm past) (before ++ objects settings past) h.got at h.upholds psm)
  next_after past LinkDown at h may =
      subst (NextTo past at h.got LinkDown) (sym (unfailed past at _ h)) (down_next settings (unmarked past) (heard_over L2cap past) (heard_over Rfcomm past) (before ++ objects settings past) h.got at h.upholds)
  next_after past Asked at h may =
      same_next settings (unmarked past) (heard_over L2cap past) (heard_over Rfcomm past) (before ++ objects settings past) h.got Asked at.server.listener.service at.gift (done Asked at) refl refl refl refl
      (asked_upholds (most settings) (settings.mtu - 6) settings.credits (heard_over L2cap past) (heard_over Rfcomm past) (passed (unmarked past)) h.got (before ++ objects settings past) at.server at.gift h.upholds) (omega arith)
  next_after past (Answering answers) at h may =
      same_next settings (unmarked past) (heard_over L2cap past) (heard_over Rfcomm past) (before ++ objects settings past) h.got (Answering answers) at.server.listener.service at.gift (done (Answering answers) at) refl refl refl refl
      (answers_uphold (most settings) (settings.mtu - 6) settings.credits (heard_over L2cap past) (heard_over Rfcomm past) (passed (unmarked past)) h.got (before ++ objects settings past) at.server at.gift answers may.answers h.upholds)
      (omega arith)

  -- ---- one occurrence more

  packets_as : (refused : Bool) (packets : List (List ℕ)) → map octets_of (heard_as refused packets) ≡ packets
  packets_as refused [] = refl
  packets_as refused (packet ∷ packets) = ap (λ (ps : List (List ℕ)). packet ∷ ps) (packets_as refused packets)

  direct_by : (closing : Bool) (past : List Marked) (one : Occurrence) (refused : Bool) → closes object_psm one ≡ closing → map octets_of (heard_over L2cap past) ≡ packets_over L2cap (unmarked past)
      → map octets_of (cond closing [] (heard_over L2cap past ++ heard_as refused (new_packets L2cap (unmarked past) one))) ≡ packets_over L2cap (unmarked past ++ one ∷ [])
  direct_by true past one refused e is = sym (read_closed (came_on object_psm) object_psm (unmarked past) one e)
  direct_by false past one refused e is =
      let old : List (List ℕ) = packets_over L2cap (unmarked past) in
      let more = read_more (came_on object_psm) object_psm (unmarked past) one e in
      map-append octets_of (heard_over L2cap past) (heard_as refused (new_packets L2cap (unmarked past) one))
      ∙ ap (λ (ps : List (List ℕ)). map octets_of (heard_over L2cap past) ++ ps) (packets_as refused (new_packets L2cap (unmarked past) one) ∙ ap (beyond old) more ∙ drop_front old (cons_option (came_on object_psm one) []))
      ∙ ap (λ (ps : List (List ℕ)). ps ++ cons_option (came_on object_psm one) []) is ∙ sym more

  pub record More (past : List Marked) (one : Occurrence) (at : Reacted) : Type 0 where
    pub refused : Bool
    pub is : refused ≡ refuses_with (unmarked past) at.server.listener.service at.gift.answers one
    pub holds : Holds settings before (past ++ record { occurrence = one; refused = refused } ∷ []) (done one at)
    pub paid : faults_of (done one at).gift.answers + counted refused ≤ faults_before one at.gift.answers + ignored_with (unmarked past) at.server.listener.service one

  pub holds_more : (past : List Marked) (one : Occurrence) (at : Reacted) → Holds settings before past at → MayCome NoneShort (IsAlone settings (unmarked past) at.server.listener.service) settings (unmarked past) at one → More past one at
  holds_more past one at h may =
      let next = next_after past one at h may in
      let last : Marked = record { occurrence = one; refused = next.refused } in
      let later : List Marked = past ++ last ∷ [] in
      let occurrences : unmarked later ≡ unmarked past ++ one ∷ [] = unmarked_more past last in
      let heard : octets_heard (unmarked past ++ one ∷ []) ≡ next.octets = carries_read (settings.mtu - 6) settings.credits (passed (unmarked past ++ one ∷ [])) next.octets (done one at).server.mux (done one at).server.frame next.upholds.carries may.orderly in
      let direct : heard_over L2cap later ≡ direct_after settings (unmarked past) (heard_over L2cap past) (heard_over Rfcomm past) (before ++ objects settings past) h.got one next.refused = heard_more L2cap past last in
      let carried : heard_over Rfcomm later ≡ carried_after settings (unmarked past) (heard_over L2cap past) (heard_over Rfcomm past) (before ++ objects settings past) h.got one next.refused next.octets =
      heard_more Rfcomm past last
      ∙ ap (λ (xs : List ℕ). cond (closes rfcomm_psm one) [] (heard_over Rfcomm past ++ heard_as next.refused (beyond (obex_packets xs) (obex_packets (octets_heard (unmarked past ++ one ∷ [])))))) h.heard
      ∙ ap (λ (xs : List ℕ). cond (closes rfcomm_psm one) [] (heard_over Rfcomm past ++ heard_as next.refused (beyond (obex_packets h.got) (obex_packets xs)))) heard in
      let stored : (before ++ objects settings past) ++ objects_with settings past last ≡ before ++ objects settings later =
      append_assoc before (objects settings past) (objects_with settings past last) ∙ ap (λ (os : List Object). before ++ os) (sym (given_by-more (objects_with settings) past last)) in
      record {
        refused = next.refused;
        is = next.is;
        holds = record {
          got = next.octets;
          heard = ap octets_heard occurrences ∙ heard;
          direct = ap (map octets_of) (heard_more L2cap past last) ∙ direct_by (closes object_psm one) past one next.refused refl h.direct ∙ ap (packets_over L2cap) (sym occurrences);
          upholds = subst (λ (os : List Occurrence). Now settings os (heard_over L2cap later) (heard_over Rfcomm later) (before ++ objects settings later) next.octets (done one at)) (sym occurrences)
              (subst (λ (os : List Object). Now settings (unmarked past ++ one ∷ []) (heard_over L2cap later) (heard_over Rfcomm later) os next.octets (done one at)) stored
              (subst (λ (ds : List Heard). Now settings (unmarked past ++ one ∷ []) ds (heard_over Rfcomm later) ((before ++ objects settings past) ++ (beyond (stored_by (own_maximum L2cap settings) (heard_over L2cap past)) (stored_by (own_maximum L2cap settings) ds)
              ++ beyond (stored_by (own_maximum Rfcomm settings) (heard_over Rfcomm past)) (stored_by (own_maximum Rfcomm settings) (heard_over Rfcomm later)))) next.octets (done one at)) (sym direct)
              (subst (λ (cs : List Heard). Now settings (unmarked past ++ one ∷ []) (direct_after settings (unmarked past) (heard_over L2cap past) (heard_over Rfcomm past) (before ++ objects settings past) h.got one next.refused) cs
              ((before ++ objects settings past) ++ (beyond (stored_by (own_maximum L2cap settings) (heard_over L2cap past)) (stored_by (own_maximum L2cap settings) (direct_after settings (unmarked past) (heard_over L2cap past) (heard_over Rfcomm past) (before ++ objects settings past) h.got one next.refused))
              ++ beyond (stored_by (own_maximum Rfcomm settings) (heard_over Rfcomm past)) (stored_by (own_maximum Rfcomm settings) cs))) next.octets (done one at)) (sym carried) next.upholds)));
        };
        paid = next.paid;
      }

  -- ---- where calls fail

  pub record Walked (past : List Marked) (occurrences : List Occurrence) (at : Reacted) : Type 0 where
    pub holds : Holds settings before (past ++ marked_from (unmarked past) at occurrences) (all_done occurrences at)
    pub few : refusals (marked_from (unmarked past) at occurrences) ≤ spent_from at occurrences + ignored_from (unmarked past) at occurrences

  marked_more : (past : List Marked) (one : Occurrence) (rest : List Occurrence) (at : Reacted) → marked_from (unmarked (past ++ mark_of (unmarked past) at one ∷ [])) (done one at) rest ≡ marked_from (unmarked past ++ one ∷ []) (done one at) rest
  marked_more past one rest at = ap (λ (os : List Occurrence). marked_from os (done one at) rest) (unmarked_more past (mark_of (unmarked past) at one))

  pub holds_all : (occurrences : List Occurrence) (past : List Marked) (at : Reacted) → Holds settings before past at → AllMayMiss settings (unmarked past) at occurrences → Walked past occurrences at
  holds_all [] past at h all = record { holds = subst (λ (ms : List Marked). Holds settings before ms at) (sym (append-nil past)) h; few = omega arith }
  holds_all (one ∷ rest) past at h all =
      let more = holds_more past one at h all.0 in
      let last : Marked = mark_of (unmarked past) at one in
      let later : List Marked = past ++ last ∷ [] in
      let holds : Holds settings before later (done one at) = subst (λ (b : Bool). Holds settings before (past ++ record { occurrence = one; refused = b } ∷ []) (done one at)) more.is more.holds in
      let then = holds_all rest later (done one at) holds (subst (λ (os : List Occurrence). AllMayMiss settings os (done one at) rest) (sym (unmarked_more past last)) all.1) in
      let marks = marked_more past one rest at in
      record {
        holds = subst (λ (ms : List Marked). Holds settings before ms (all_done rest (done one at))) (append_assoc past (last ∷ []) (marked_from (unmarked later) (done one at) rest) ∙ ap (λ (ms : List Marked). past ++ last ∷ ms) marks) then.holds;
        few = (let paid = subst (λ (b : Bool). faults_of (done one at).gift.answers + counted b ≤ faults_before one at.gift.answers + ignored_with (unmarked past) at.server.listener.service one) more.is more.paid in
            let second = subst (λ (ms : List Marked). refusals ms ≤ spent_from (done one at) rest + ignored_from (unmarked later) (done one at) rest) marks then.few in
            let missed = ap (λ (os : List Occurrence). ignored_from os (done one at) rest) (unmarked_more past last) in
            let count = sum_by-cons (λ (m : Marked). counted m.refused) last (marked_from (unmarked past ++ one ∷ []) (done one at) rest) in omega (arith, paid, second, missed, count));
      }

  -- ---- at first

  same_first : (t : Transport) → (session_of t (new_over settings before).server.listener.service.sessions).maximum ≡ most settings t
  same_first L2cap = refl
  same_first Rfcomm = refl

  idle_first : (t : Transport) → rules.progress_in (session_of t (new_over settings before).server.listener.service.sessions).course ≡ progress_of (opened.headers (most settings) (pasts [] [] []) t)
  idle_first L2cap = refl
  idle_first Rfcomm = refl

  pub first_holds : Holds settings before [] (new_over settings before)
  first_holds = record {
    got = [];
    heard = refl;
    direct = refl;
    upholds = record {
      listens = record {
        tail = [];
        serves = subst (λ (os : List Object). Serves (most settings) (pasts [] [] []) os (new_over settings before).server.listener.service (new_over settings before).gift) (sym (append-nil before))
            (record { stands = record { maxima = same_first; progress = idle_first; on = L2cap; idle = refl; holds = refl }; none_short = tt; enough = refl });
        packets = sym no_packets;
        cut = record { quiet = refl; whole = refl; partial = inl (omega arith) };
      };
      carries = carries_new (settings.mtu - 6) settings.credits;
    };
  }

  -- ---- where none is ignored

  alone_all : (past : List Occurrence) (service : Service) (t : Transport) (packets : List (List ℕ)) → AllByRecursion (IsTaken settings past service t) packets → AllByRecursion (IsAlone settings past service t) packets
  alone_all past service t [] all = tt
  alone_all past service t (packet ∷ packets) all = (record { alone = all.0.alone }, alone_all past service t packets all.1)

  pub as_alone : (past : List Occurrence) (one : Occurrence) (at : Reacted) → MayCome NoneShort (IsTaken settings past at.server.listener.service) settings past at one → MayCome NoneShort (IsAlone settings past at.server.listener.service) settings past at one
  as_alone past one at may = record {
    own = may.own;
    answers = may.answers;
    requests = record { single = may.requests.single; heard = λ t. alone_all past at.server.listener.service t (new_packets t past one) (may.requests.heard t); lengths = may.requests.lengths };
    frame = may.frame;
    orderly = may.orderly;
  }

  pub all_alone : (occurrences past : List Occurrence) (at : Reacted) → AllMayFail settings past at occurrences → AllMayMiss settings past at occurrences
  all_alone [] past at all = tt
  all_alone (one ∷ rest) past at all = (as_alone past one at all.0, all_alone rest (past ++ one ∷ []) (done one at) all.1)

  none_of : (past : List Occurrence) (service : Service) (t : Transport) (packets : List (List ℕ)) → AllByRecursion (IsTaken settings past service t) packets → ignored_of t service packets ≡ 0
  none_of past service t [] all = refl
  none_of past service t (packet ∷ packets) all =
      let count = sum_by-cons (λ (p : List ℕ). counted (is_ignored t p service)) packet packets in
      let one = ap counted all.0.taken in
      let more = none_of past service t packets all.1 in
      omega (arith, count, one, more)

  pub none_with : (past : List Occurrence) (one : Occurrence) (at : Reacted) → MayCome NoneShort (IsTaken settings past at.server.listener.service) settings past at one → ignored_with past at.server.listener.service one ≡ 0
  none_with past one at may =
      let direct = none_of past at.server.listener.service L2cap (new_packets L2cap past one) (may.requests.heard L2cap) in
      let carried = none_of past at.server.listener.service Rfcomm (new_packets Rfcomm past one) (may.requests.heard Rfcomm) in
      omega (arith, direct, carried)

  pub none_from : (occurrences past : List Occurrence) (at : Reacted) → AllMayFail settings past at occurrences → ignored_from past at occurrences ≡ 0
  none_from [] past at all = refl
  none_from (one ∷ rest) past at all =
      let first = none_with past one at all.0 in
      let later = none_from rest (past ++ one ∷ []) (done one at) all.1 in
      omega (arith, first, later)

  -- ---- where none fails

  abbrev pub clean : List Occurrence → List Marked
  clean past = map (λ (one : Occurrence). (let m : Marked = record { occurrence = one; refused = false } in m)) past

  pub clean_same : (past : List Occurrence) → unmarked (clean past) ≡ past
  clean_same [] = refl
  clean_same (one ∷ past) = ap (λ (os : List Occurrence). one ∷ os) (clean_same past)

  kept_clean : (closing : Bool) (kept : List Heard) (packets : List (List ℕ)) → kept ≡ without_fault (map octets_of kept) → cond closing [] (kept ++ heard_as false packets) ≡ without_fault (map octets_of (cond closing [] (kept ++ heard_as false packets)))
  kept_clean true kept packets e = refl
  kept_clean false kept packets e =
      ap (λ (hs : List Heard). hs ++ heard_as false packets) e ∙ ap (λ (ps : List (List ℕ)). without_fault (map octets_of kept) ++ heard_as false ps) (sym (packets_as false packets))
      ∙ sym (map-append (λ (p : List ℕ). (let h : Heard = (p, false) in h)) (map octets_of kept) (map octets_of (heard_as false packets)))
      ∙ ap without_fault (sym (map-append octets_of kept (heard_as false packets)))

  from_clean : (t : Transport) (past : List Occurrence) (kept : List Heard) (rest : List Occurrence) → kept ≡ without_fault (map octets_of kept) → heard_from t past kept (clean rest) ≡ without_fault (map octets_of (heard_from t past kept (clean rest)))
  from_clean t past kept [] e = e
  from_clean t past kept (one ∷ rest) e =
      from_clean t (past ++ one ∷ []) (heard_behind t past kept (record { occurrence = one; refused = false })) rest (kept_clean (closes (faulty.psm_of t) one) kept (gained (packets_over t) past one) e)

  -- what is marked is what is read
  pub clean_reads : (past : List Occurrence) (at : Reacted) → Holds settings before (clean past) at → (t : Transport) → heard_over t (clean past) ≡ without_fault (packets_over t past)
  clean_reads past at h L2cap = from_clean L2cap [] [] past refl ∙ ap without_fault (h.direct ∙ ap (packets_over L2cap) (clean_same past))
  clean_reads past at h Rfcomm = from_clean Rfcomm [] [] past refl ∙ ap without_fault (h.upholds.listens.packets ∙ ap obex_packets (sym h.heard) ∙ ap (packets_over Rfcomm) (clean_same past))

  clean_over : (past : List Occurrence) (at : Reacted) → Holds settings before (clean past) at → (t : Transport) → stored_over settings t (clean past) ≡ objects_over settings t past
  clean_over past at h t = ap (stored_by (own_maximum t settings)) (clean_reads past at h t) ∙ spelled_stored (own_maximum t settings) (packets_over t past)

  no_names : (ns bs : List (List ℕ)) → ltb 0 (length ns) ≡ false → rules.is_under_way (progress_from ns bs) ≡ false
  no_names [] bs e = refl
  no_names (n ∷ ns) bs e = absurd (let none = ltb-false 0 (length (n ∷ ns)) e in omega arith)

  cut_idle : (breaks : Bool) (carried tail : List Heard) (got held : List ℕ) (packets : List (List ℕ)) → carried ≡ without_fault packets → IsCut (own_maximum Rfcomm settings) carried got held tail breaks
      → ltb 0 (length (names (open_headers (own_maximum Rfcomm settings) (without_fault packets)))) ≡ false → rules.is_under_way (progress_of (open_headers (own_maximum Rfcomm settings) (carried ++ tail))) ≡ false
  cut_idle false carried tail got held packets is cut e =
      ap (λ (hs : List Heard). rules.is_under_way (progress_of (open_headers (own_maximum Rfcomm settings) hs))) (ap (λ (hs : List Heard). carried ++ hs) cut.quiet ∙ append-nil carried ∙ is)
      ∙ no_names (names (open_headers (own_maximum Rfcomm settings) (without_fault packets))) (bodies (open_headers (own_maximum Rfcomm settings) (without_fault packets))) e
  cut_idle true carried tail got held packets is cut e = ap rules.is_under_way (idle_progress (open_headers (own_maximum Rfcomm settings) (carried ++ tail)) cut.cleared)

  pub idle_read : (past : List Occurrence) (at : Reacted) → Holds settings before (clean past) at → (t : Transport) → is_under_way settings t past ≡ false → has_object (session_of t at.server.listener.service.sessions) ≡ false
  idle_read past at h L2cap e =
      let hs : List PlainHeader = open_headers (own_maximum L2cap settings) (without_fault (packets_over L2cap past)) in
      ap rules.is_under_way (h.upholds.listens.serves.stands.progress L2cap ∙ ap (λ (ps : List Heard). progress_of (open_headers (own_maximum L2cap settings) ps)) (clean_reads past at h L2cap)) ∙ no_names (names hs) (bodies hs) e
  idle_read past at h Rfcomm e =
      let l = h.upholds.listens in
      ap rules.is_under_way (l.serves.stands.progress Rfcomm) ∙ cut_idle at.server.listener.breaks (heard_over Rfcomm (clean past)) l.tail h.got at.server.held (packets_over Rfcomm past) (clean_reads past at h Rfcomm) l.cut e

  pub taken_all : (past : List Occurrence) (at : Reacted) → Holds settings before (clean past) at → (t : Transport) (packets : List (List ℕ)) → AllByRecursion (IsHeard settings past at.server.listener.service t) packets
      → AllByRecursion (IsTaken settings past at.server.listener.service t) packets
  taken_all past at h t [] all = tt
  taken_all past at h t (packet ∷ packets) all = (
    record {
      taken = all.0.taken;
      alone = λ named. idle_read past at h (other_of t) (all.0.alone (ap (λ (n : ℕ). serving.has_name (marks.kind_of (reading.packet_in phase.Request n packet))) (sym (h.upholds.listens.serves.stands.maxima t)) ∙ named));
    },
    taken_all past at h t packets all.1,
  )

  granted_enough : (answers : List Answer) → AllGranted answers → NoneShort answers
  granted_enough [] all = tt
  granted_enough (answer ∷ answers) all = (λ short. no_both (sym all.0 ∙ short), granted_enough answers all.1)
    where
      no_both : (let answer : Answer = Ok tt in answer) ≡ Err NoMemory → ⊥
      no_both e = cc

  answers_enough : (one : Occurrence) → AnswersAre AllGranted one → AnswersAre NoneShort one
  answers_enough (Came psm sdu) all = tt
  answers_enough (Went psm sdu) all = tt
  answers_enough (Closed psm) all = tt
  answers_enough LinkDown all = tt
  answers_enough Asked all = tt
  answers_enough (Answering answers) all = granted_enough answers all

  granted_none : (answers : List Answer) → AllGranted answers → faults_of answers ≡ 0
  granted_none [] all = refl
  granted_none (Ok done ∷ answers) all = granted_none answers all.1
  granted_none (Err fault ∷ answers) all = absurd (let e : (let answer : Answer = Err fault in answer) ≡ Ok tt = all.0 in cc)

  answers_none : (one : Occurrence) (old : List Answer) → AnswersAre AllGranted one → faults_of old ≡ 0 → faults_before one old ≡ 0
  answers_none (Came psm sdu) old all none = none
  answers_none (Went psm sdu) old all none = none
  answers_none (Closed psm) old all none = none
  answers_none LinkDown old all none = none
  answers_none Asked old all none = none
  answers_none (Answering answers) old all none = granted_none answers all

  may_come : (past : List Occurrence) (one : Occurrence) (at : Reacted) → Holds settings before (clean past) at → MayCome AllGranted (IsHeard settings past at.server.listener.service) settings past at one
      → MayCome NoneShort (IsTaken settings past at.server.listener.service) settings past at one
  may_come past one at h may =
      let requests = may.requests in
      record {
        own = may.own;
        answers = answers_enough one may.answers;
        requests = record { single = requests.single; heard = λ t. taken_all past at h t (new_packets t past one) (requests.heard t); lengths = requests.lengths };
        frame = may.frame;
        orderly = may.orderly;
      }

  unrefused : (refused : Bool) → counted refused ≤ 0 → refused ≡ false
  unrefused true few = absurd (omega (arith, few))
  unrefused false few = refl

  -- no packet is marked, and the objects are those of the packets
  pub record Clear (past : List Occurrence) (at : Reacted) : Type 0 where
    pub holds : Holds settings before (clean past) at
    pub spared : faults_of at.gift.answers ≡ 0
    pub same : objects settings (clean past) ≡ clear.objects settings past

  pub clear_more : (past : List Occurrence) (one : Occurrence) (at : Reacted) → Clear past at → MayCome AllGranted (IsHeard settings past at.server.listener.service) settings past at one → Clear (past ++ one ∷ []) (done one at)
  clear_more past one at c may =
      let taken = subst (λ (os : List Occurrence). MayCome NoneShort (IsTaken settings os at.server.listener.service) settings os at one) (sym (clean_same past)) (may_come past one at c.holds may) in
      let more = holds_more (clean past) one at c.holds (as_alone (unmarked (clean past)) one at taken) in
      let missed = none_with (unmarked (clean past)) one at taken in
      let none = answers_none one at.gift.answers may.answers c.spared in
      let paid = more.paid in
      let spared = c.spared in
      let last : Marked = record { occurrence = one; refused = false } in
      let later : clean (past ++ one ∷ []) ≡ clean past ++ last ∷ [] = map-append (λ (o : Occurrence). (let m : Marked = record { occurrence = o; refused = false } in m)) past (one ∷ []) in
      let unmarked_one = unrefused more.refused (omega (arith, paid, none, missed, spared)) in
      let holds : Holds settings before (clean past ++ last ∷ []) (done one at) = subst (λ (b : Bool). Holds settings before (clean past ++ record { occurrence = one; refused = b } ∷ []) (done one at)) unmarked_one more.holds in
      let holds' : Holds settings before (clean (past ++ one ∷ [])) (done one at) = subst (λ (ms : List Marked). Holds settings before ms (done one at)) (sym later) holds in
      let gains = λ (t : Transport). ap (λ (os : List Object). beyond os (stored_over settings t (clean past ++ last ∷ []))) (clean_over past at c.holds t)
      ∙ ap (beyond (objects_over settings t past)) (ap (stored_over settings t) (sym later) ∙ clean_over (past ++ one ∷ []) (done one at) holds' t) in
      record {
        holds = holds';
        spared = omega (arith, paid, none, missed, spared);
        same = ap (objects settings) later ∙ given_by-more (objects_with settings) (clean past) last
            ∙ ap (λ (os : List Object). os ++ objects_with settings (clean past) last) c.same
            ∙ ap (λ (os : List Object). clear.objects settings past ++ (os ++ gained (stored_over settings Rfcomm) (clean past) last)) (gains L2cap)
            ∙ ap (λ (os : List Object). clear.objects settings past ++ (gained (objects_over settings L2cap) past one ++ os)) (gains Rfcomm)
            ∙ sym (given_by-more (clear.objects_with settings) past one);
      }

  pub clear_all : (occurrences past : List Occurrence) (at : Reacted) → Clear past at → AllMayCome settings past at occurrences → Clear (past ++ occurrences) (all_done occurrences at)
  clear_all [] past at c all = subst (λ (os : List Occurrence). Clear os at) (sym (append-nil past)) c
  clear_all (one ∷ rest) past at c all =
      subst (λ (os : List Occurrence). Clear os (all_done rest (done one at))) (append_assoc past (one ∷ []) rest) (clear_all rest (past ++ one ∷ []) (done one at) (clear_more past one at c all.0) all.1)

-- ---- the laws

pub gains-what_is_heard : GainsWhatIsHeard
gains-what_is_heard settings before occurrences all =
    let c = clear_all settings before occurrences [] (new_over settings before) (record { holds = first_holds settings before; spared = refl; same = refl }) all in
    ap stored_in c.holds.upholds.listens.serves.stands.holds ∙ ap (λ (os : List Object). Some (before ++ os)) c.same

-- ---- credits

-- marks leave what happened as it is
unmarked_all : (occurrences past : List Occurrence) (at : Reacted) → unmarked (marked_from past at occurrences) ≡ occurrences
unmarked_all [] past at = refl
unmarked_all (one ∷ rest) past at = ap (λ (os : List Occurrence). one ∷ os) (unmarked_all rest (past ++ one ∷ []) (done one at))

-- the multiplexer refused nothing to the end
still_orderly : (settings : Settings) (occurrences : List Occurrence) (past : List Occurrence) (at : Reacted) → IsOrderly at.server.mux.closed → AllMayMiss settings past at occurrences → IsOrderly (all_done occurrences at).server.mux.closed
still_orderly settings [] past at orderly all = orderly
still_orderly settings (one ∷ rest) past at orderly all = still_orderly settings rest (past ++ one ∷ []) (done one at) all.0.orderly all.1

waiting_paid : (frame : Option PlainFrame) → waiting_cost frame ≡ paid_for frame
waiting_paid None = refl
waiting_paid (Some frame) = refl

pub credits-are_read : CreditsAreRead
credits-are_read settings before occurrences all =
    let at : Reacted = all_done occurrences (new_over settings before) in
    let w = holds_all settings before occurrences [] (new_over settings before) (first_holds settings before) all in
    let marked : List Marked = marked_from [] (new_over settings before) occurrences in
    let has = carries_credits (settings.mtu - 6) settings.credits (passed (unmarked marked)) w.holds.got at.server.mux at.server.frame w.holds.upholds.carries (still_orderly settings occurrences [] (new_over settings before) tt all) in
    record {
      spare = has.spare;
      credits = ap (λ (os : List Occurrence). credits_held 18 Responder (passed os)) (sym (unmarked_all occurrences [] (new_over settings before))) ∙ has.credits;
      exact = λ open_. has.exact open_ ∙ waiting_paid at.server.frame;
    }
