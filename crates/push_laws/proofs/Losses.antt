-- From one closing of a channel to the next: one object at most is left out, and none where no call failed.
use Rattle.std.proofs.Common.{inl, inr, ◌⊎◌, Bool, true, false, ◌≡◌, ℕ, ◌+◌, ◌-◌, ◌≤◌, arith, List, [], ◌∷◌, ◌++◌, map, Some, refl, sym, ap, ap₂, subst, ◌∙◌, append-nil, append_assoc}
use Rattle.std.proofs.lemmas.Bool.{cond-true, cond-false}
use Rattle.std.proofs.lemmas.List.{map-append}
use Rattle.link_talk.specs.bt_base.specs.declared.settings.Settings.{Settings}
use Rattle.link_talk.specs.bt_base.specs.declared.settings.Transport.{Transport}
use Rattle.link_talk.specs.bt_base.specs.declared.settings.Transport.TheVariants.{L2cap, Rfcomm}
use Rattle.link_talk.specs.bt_base.specs.Objects.{Object}
use Rattle.link_talk.specs.capture.proofs.HistoryLaws.{given_by-more}
use Rattle.push_model.specs.obex_headers.specs.Runs.{objects_from}
use Rattle.push_model.specs.obex_session.specs.Laws.{without_fault}
use Rattle.push_model.specs.obex_session.specs.Past.{Heard, put_heard, puts_heard, open_from, stored_by}
use Rattle.push_model.specs.obex_session.proofs.SuccessLaws.{more_stored}
use Rattle.push_model.specs.rfcomm_frames.specs.ObexPackets.{obex_packets}
use Rattle.link_talk.specs.Gains.{beyond, gained}
use Rattle.link_talk.specs.ObjectsHeard.{spelled_within}
use Rattle.push_model.specs.Client.{own_maximum}
use Rattle.push_model.specs.Server.{Reacted}
use Rattle.push_model.specs.Sessions.{other_of}
use Rattle.push_laws.specs.Faults as faulty
use Rattle.push_laws.specs.Faults.{Marked, unmarked, psm_of, heard_as, heard_over, stored_over, counted, faults_of, mark_of, faults_before, spends, spent_from, ignored_with}
use Rattle.push_laws.specs.Gains as clear
use Rattle.push_laws.specs.Gains.{objects_over}
use Rattle.push_laws.specs.Laws.{new_over, stored_in}
use Rattle.push_laws.specs.Losing.{LeavesOut}
use Rattle.push_laws.specs.Occurrences.{Occurrence, Came, Went, Closed, LinkDown, Asked, Answering, done, all_done}
use Rattle.push_laws.specs.OneName.{HasOneName, IsNamedOnce, AllNamedOnce, faults_in, faults_told, IsKeptOrLeft, AllKeptOrLeft, TellsEach, LosesByFaults, NamedOnceTellEach, NamedOnceGainLess}
use Rattle.push_laws.specs.Premises.{NoneShort, IsAlone, MayCome, AllMayFail, AllMayMiss, new_packets}
use Rattle.push_laws.specs.Readings.{closes, packets_over}
use Rattle.push_laws.proofs.Failing.{AllCount, all_count}
use Rattle.push_laws.proofs.Gaining.{Holds, More, holds_more, first_holds, as_alone, all_alone, none_with}
use Rattle.push_laws.proofs.Keeping.{nothing_beyond, front_kept, no_heard, bare_is}
use Rattle.push_laws.proofs.Listening.{octets_of}
use Rattle.push_laws.proofs.Losing.{leaves_none, leaves_one, leaves_more, leaves_joined}
use Rattle.push_laws.proofs.Marking.{gains-all_but_refusals}
use Rattle.push_laws.proofs.OneName.{one_name_leaves, one_name_few, one_name_lost, uncounted_same}
use Rattle.push_laws.proofs.Readings.{unmarked_more, heard_more}
use Rattle.push_laws.proofs.Streams.{no_packets}

-- ---- lists of objects

-- what is gained behind others is a front of that
module _ (most : ℕ) where
  stored_on : (heard more : List Heard) → (behind : List Object) × (stored_by most (heard ++ more) ≡ stored_by most heard ++ behind)
  stored_on heard [] = ([], ap (stored_by most) (append-nil heard) ∙ sym (append-nil (stored_by most heard)))
  stored_on heard (one ∷ more) =
      let rest = stored_on (heard ++ one ∷ []) more in
      let first : List Object = objects_from (open_from [] (puts_heard most heard)) (put_heard most one ∷ []) in
      (first ++ rest.0, ap (stored_by most) (sym (append_assoc heard (one ∷ []) more)) ∙ rest.1 ∙ ap (λ (os : List Object). os ++ rest.0) (more_stored most heard one) ∙ append_assoc (stored_by most heard) first rest.0)

  stored_more : (heard more : List Heard) → stored_by most heard ++ beyond (stored_by most heard) (stored_by most (heard ++ more)) ≡ stored_by most (heard ++ more)
  stored_more heard more = let on = stored_on heard more in front_kept (stored_by most heard) (stored_by most (heard ++ more)) on.0 on.1

  bare_joined : (packets more : List (List ℕ)) → spelled_within most (packets ++ more) ≡ stored_by most (without_fault packets ++ without_fault more)
  bare_joined packets more = bare_is most (packets ++ more) ∙ ap (stored_by most) (map-append (λ (p : List ℕ). (let h : Heard = (p, false) in h)) packets more)

  pub spelled_more : (packets more : List (List ℕ)) → spelled_within most packets ++ beyond (spelled_within most packets) (spelled_within most (packets ++ more)) ≡ spelled_within most (packets ++ more)
  spelled_more packets more =
      ap₂ (λ (a b : List Object). a ++ beyond a b) (bare_is most packets) (bare_joined packets more) ∙ stored_more (without_fault packets) (without_fault more) ∙ sym (bare_joined packets more)

  -- what more packets store is what they spell, or nothing
  kept_or_left : (heard more : List Heard) → HasOneName most (map octets_of heard) → HasOneName most (map octets_of (heard ++ more))
      → (beyond (stored_by most heard) (stored_by most (heard ++ more)) ≡ [])
      ⊎ (beyond (stored_by most heard) (stored_by most (heard ++ more)) ≡ beyond (spelled_within most (map octets_of heard)) (spelled_within most (map octets_of (heard ++ more))))
  kept_or_left heard more once later = elim (one_name_leaves most (heard ++ more) later) [
    | inl none ↦ inl (nothing_of none)
    | inr same ↦ elim (one_name_leaves most heard once) [
      | inr was ↦ inr (ap₂ beyond was same)
      | inl lost ↦ by (spelled_within most (map octets_of heard)) refl lost same
    ]
  ]
    where
      drop_all : (old : List Object) → beyond old (let none : List Object = [] in none) ≡ []
      drop_all [] = refl
      drop_all (object ∷ old) = refl

      nothing_of : stored_by most (heard ++ more) ≡ [] → beyond (stored_by most heard) (stored_by most (heard ++ more)) ≡ []
      nothing_of none = ap (beyond (stored_by most heard)) none ∙ drop_all (stored_by most heard)

      some : (object : Object) (objects : List Object) → object ∷ objects ≡ [] → ⊥
      some object objects e = cc

      by : (spelt : List Object) → spelled_within most (map octets_of heard) ≡ spelt → stored_by most heard ≡ [] → stored_by most (heard ++ more) ≡ spelled_within most (map octets_of (heard ++ more))
          → (beyond (stored_by most heard) (stored_by most (heard ++ more)) ≡ [])
          ⊎ (beyond (stored_by most heard) (stored_by most (heard ++ more)) ≡ beyond (spelled_within most (map octets_of heard)) (spelled_within most (map octets_of (heard ++ more))))
      by [] is lost same = inr (ap₂ beyond (lost ∙ sym is) same)
      by (object ∷ objects) is lost same = inl (nothing_of (one_name_lost most heard more later lost (λ none. some object objects (sym is ∙ none))))

-- ---- one transport

module _ (settings : Settings) (before : List Object) (transport : Transport) where
  abbrev most : ℕ
  most = own_maximum transport settings

  heard_packets : (t : Transport) (past : List Marked) (at : Reacted) → Holds settings before past at → map octets_of (heard_over t past) ≡ packets_over t (unmarked past)
  heard_packets L2cap past at h = h.direct
  heard_packets Rfcomm past at h = h.upholds.listens.packets ∙ ap obex_packets (sym h.heard)

  -- where nothing is heard over the other one
  none_heard : (past : List Marked) (at : Reacted) → Holds settings before past at → IsNamedOnce settings transport (unmarked past) → heard_over (other_of transport) past ≡ []
  none_heard past at h once = no_heard (heard_over (other_of transport) past) (heard_packets (other_of transport) past at h ∙ once.alone)

  kept_here : (t : Transport) (past : List Marked) (last : Marked) → heard_over (other_of t) past ≡ [] → heard_over (other_of t) (past ++ last ∷ []) ≡ [] → faulty.objects_with settings past last ≡ gained (stored_over settings t) past last
  kept_here L2cap past last none later =
      ap (λ (os : List Object). gained (stored_over settings L2cap) past last ++ os) (nothing_beyond (stored_over settings Rfcomm past) (stored_over settings Rfcomm (past ++ last ∷ [])) (ap (stored_by (own_maximum Rfcomm settings)) (later ∙ sym none)))
      ∙ append-nil (gained (stored_over settings L2cap) past last)
  kept_here Rfcomm past last none later =
      ap (λ (os : List Object). os ++ gained (stored_over settings Rfcomm) past last) (nothing_beyond (stored_over settings L2cap past) (stored_over settings L2cap (past ++ last ∷ [])) (ap (stored_by (own_maximum L2cap settings)) (later ∙ sym none)))

  spelt_here : (t : Transport) (past : List Occurrence) (one : Occurrence) → packets_over (other_of t) past ≡ [] → packets_over (other_of t) (past ++ one ∷ []) ≡ [] → clear.objects_with settings past one ≡ gained (objects_over settings t) past one
  spelt_here L2cap past one none later =
      ap (λ (os : List Object). gained (objects_over settings L2cap) past one ++ os) (nothing_beyond (objects_over settings Rfcomm past) (objects_over settings Rfcomm (past ++ one ∷ [])) (ap (spelled_within (own_maximum Rfcomm settings)) (later ∙ sym none)))
      ∙ append-nil (gained (objects_over settings L2cap) past one)
  spelt_here Rfcomm past one none later =
      ap (λ (os : List Object). os ++ gained (objects_over settings Rfcomm) past one) (nothing_beyond (objects_over settings L2cap past) (objects_over settings L2cap (past ++ one ∷ [])) (ap (spelled_within (own_maximum L2cap settings)) (later ∙ sym none)))

  -- ---- since the channel was last closed

  -- Ahead of that less was stored by one object at most for each fault, and a fault is left for what is left out since, if any.
  record Short (past : List Marked) (spent : ℕ) : Type 0 where
    ahead : List Object
    spelt : List Object
    paid : ℕ
    stored : faulty.objects settings past ≡ ahead ++ stored_over settings transport past
    spelled : clear.objects settings (unmarked past) ≡ spelt ++ objects_over settings transport (unmarked past)
    leaves : LeavesOut ahead spelt paid
    judged : (AllCount (heard_over transport past) × (paid ≤ spent)) ⊎ (paid + 1 ≤ spent)

  -- with what came since
  record Closes (past : List Marked) (spent : ℕ) (s : Short past spent) : Type 0 where
    paid : ℕ
    few : paid ≤ spent
    leaves : LeavesOut (s.ahead ++ stored_over settings transport past) (s.spelt ++ objects_over settings transport (unmarked past)) paid

  module _ (past : List Marked) (at : Reacted) (h : Holds settings before past at) (once : IsNamedOnce settings transport (unmarked past)) where
    packets : map octets_of (heard_over transport past) ≡ packets_over transport (unmarked past)
    packets = heard_packets transport past at h

    named : HasOneName most (map octets_of (heard_over transport past))
    named = subst (HasOneName most) (sym packets) once.once

    spells : spelled_within most (map octets_of (heard_over transport past)) ≡ objects_over settings transport (unmarked past)
    spells = ap (spelled_within most) packets

    same_all : stored_over settings transport past ≡ objects_over settings transport (unmarked past) → (most' : ℕ) → LeavesOut (stored_over settings transport past) (objects_over settings transport (unmarked past)) most'
    same_all same n = subst (λ (os : List Object). LeavesOut os (objects_over settings transport (unmarked past)) n) (sym same) (leaves_none (objects_over settings transport (unmarked past)) n)

    one_lost : LeavesOut (stored_over settings transport past) (objects_over settings transport (unmarked past)) 1
    one_lost = elim (one_name_leaves most (heard_over transport past) named) [
      | inl none ↦ subst (λ (os : List Object). LeavesOut os (objects_over settings transport (unmarked past)) 1) (sym none)
          (leaves_one (objects_over settings transport (unmarked past)) 1 (one_name_few most (packets_over transport (unmarked past)) once.once) (omega arith))
      | inr same ↦ same_all (same ∙ spells) 1
    ]

    closed_by : (spent : ℕ) (s : Short past spent) → (AllCount (heard_over transport past) × (s.paid ≤ spent)) ⊎ (s.paid + 1 ≤ spent) → Closes past spent s
    closed_by spent s (inl counts) = record {
      paid = s.paid + 0;
      few = (let few = counts.1 in omega (arith, few));
      leaves = leaves_joined s.ahead (stored_over settings transport past) s.spelt (objects_over settings transport (unmarked past)) s.paid 0 s.leaves
          (same_all (ap (objects_from []) (uncounted_same most (heard_over transport past) counts.0) ∙ spells) 0);
    }
    closed_by spent s (inr some) = record {
      paid = s.paid + 1;
      few = some;
      leaves = leaves_joined s.ahead (stored_over settings transport past) s.spelt (objects_over settings transport (unmarked past)) s.paid 1 s.leaves one_lost;
    }

    closes_all : (spent : ℕ) (s : Short past spent) → Closes past spent s
    closes_all spent s = closed_by spent s s.judged

  -- ---- one occurrence more

  module _ (past : List Marked) (at : Reacted) (one : Occurrence) (h : Holds settings before past at) (once : IsNamedOnce settings transport (unmarked past)) (may : MayCome NoneShort (IsAlone settings (unmarked past) at.server.listener.service) settings (unmarked past) at one)
      (next : IsNamedOnce settings transport (unmarked past ++ one ∷ [])) where
    abbrev last : Marked
    last = mark_of (unmarked past) at one

    abbrev later : List Marked
    later = past ++ last ∷ []

    more : More settings before past one at
    more = holds_more settings before past one at h may

    holds_later : Holds settings before later (done one at)
    holds_later = subst (λ (b : Bool). Holds settings before (past ++ record { occurrence = one; refused = b } ∷ []) (done one at)) more.is more.holds

    abbrev NoneIgnored : Type 0
    NoneIgnored = ignored_with (unmarked past) at.server.listener.service one ≡ 0

    -- where it counts as refused and is not ignored, a fault is used up
    used : NoneIgnored → counted last.refused ≤ spends at one
    used none =
        let paid = more.paid in
        let same = ap counted more.is in
        omega (arith, paid, none, same)

    once_later : IsNamedOnce settings transport (unmarked later)
    once_later = subst (IsNamedOnce settings transport) (sym (unmarked_more past last)) next

    none : heard_over (other_of transport) past ≡ []
    none = none_heard past at h once

    none_later : heard_over (other_of transport) later ≡ []
    none_later = none_heard later (done one at) holds_later once_later

    kept_now : faulty.objects_with settings past last ≡ gained (stored_over settings transport) past last
    kept_now = kept_here transport past last none none_later

    spelt_now : clear.objects_with settings (unmarked past) one ≡ gained (objects_over settings transport) (unmarked past) one
    spelt_now = spelt_here transport (unmarked past) one once.alone next.alone

    stored_now : faulty.objects settings later ≡ faulty.objects settings past ++ gained (stored_over settings transport) past last
    stored_now = given_by-more (faulty.objects_with settings) past last ∙ ap (λ (os : List Object). faulty.objects settings past ++ os) kept_now

    spelled_now : clear.objects settings (unmarked later) ≡ clear.objects settings (unmarked past) ++ gained (objects_over settings transport) (unmarked past) one
    spelled_now =
        ap (clear.objects settings) (unmarked_more past last) ∙ given_by-more (clear.objects_with settings) (unmarked past) one
        ∙ ap (λ (os : List Object). clear.objects settings (unmarked past) ++ os) spelt_now

    packets_now : packets_over transport (unmarked past ++ one ∷ []) ≡ map octets_of (heard_over transport later)
    packets_now = ap (packets_over transport) (sym (unmarked_more past last)) ∙ sym (heard_packets transport later (done one at) holds_later)

    objects_now : objects_over settings transport (unmarked later) ≡ objects_over settings transport (unmarked past ++ one ∷ [])
    objects_now = ap (objects_over settings transport) (unmarked_more past last)

    before_in : (o : Occurrence) → faults_before o at.gift.answers ≤ faults_of at.gift.answers + faults_in o
    before_in (Came psm sdu) = omega arith
    before_in (Went psm sdu) = omega arith
    before_in (Closed psm) = omega arith
    before_in LinkDown = omega arith
    before_in Asked = omega arith
    before_in (Answering answers) = omega arith

    -- what it uses up was told
    told_now : NoneIgnored → spends at one + faults_of (done one at).gift.answers ≤ faults_of at.gift.answers + faults_in one
    told_now none =
        let paid = more.paid in
        let told = before_in one in
        omega (arith, paid, none, told)

    -- ---- the channel is closed

    module _ (closing : closes (psm_of transport) one ≡ true) where
      nothing_heard : heard_over transport later ≡ []
      nothing_heard = heard_more transport past last ∙ cond-true _ _ _ closing

      nothing_stored : stored_over settings transport later ≡ []
      nothing_stored = ap (stored_by most) nothing_heard

      nothing_spelt : objects_over settings transport (unmarked past ++ one ∷ []) ≡ []
      nothing_spelt = ap (spelled_within most) (packets_now ∙ ap (map octets_of) nothing_heard)

      drop_all : (old : List Object) → beyond old (let empty : List Object = [] in empty) ≡ []
      drop_all [] = refl
      drop_all (object ∷ old) = refl

      none_gained : gained (stored_over settings transport) past last ≡ []
      none_gained = ap (beyond (stored_over settings transport past)) nothing_stored ∙ drop_all (stored_over settings transport past)

      none_spelt : gained (objects_over settings transport) (unmarked past) one ≡ []
      none_spelt = ap (beyond (objects_over settings transport (unmarked past))) nothing_spelt ∙ drop_all (objects_over settings transport (unmarked past))

      closed_short : (spent : ℕ) → Short past spent → Short later (spent + spends at one)
      closed_short spent s =
          let c = closes_all past at h once spent s in
          let kept : List Object = s.ahead ++ stored_over settings transport past in
          let spelt : List Object = s.spelt ++ objects_over settings transport (unmarked past) in
          record {
            ahead = kept;
            spelt = spelt;
            paid = c.paid;
            stored = stored_now ∙ ap (λ (os : List Object). os ++ gained (stored_over settings transport) past last) s.stored ∙ ap (λ (os : List Object). kept ++ os) (none_gained ∙ sym nothing_stored);
            spelled = spelled_now ∙ ap (λ (os : List Object). os ++ gained (objects_over settings transport) (unmarked past) one) s.spelled
                ∙ ap (λ (os : List Object). spelt ++ os) (none_spelt ∙ sym (objects_now ∙ nothing_spelt));
            leaves = c.leaves;
            judged = inl (subst AllCount (sym nothing_heard) tt, (let few = c.few in omega (arith, few)));
          }

    -- ---- it stays

    module _ (on : closes (psm_of transport) one ≡ false) where
      abbrev heard : List Heard
      heard = heard_over transport past

      abbrev news : List Heard
      news = heard_as last.refused (new_packets transport (unmarked past) one)

      heard_now : heard_over transport later ≡ heard ++ news
      heard_now = heard_more transport past last ∙ cond-false _ _ _ on

      spelt_as : packets_over transport (unmarked past ++ one ∷ []) ≡ map octets_of (heard ++ news)
      spelt_as = packets_now ∙ ap (map octets_of) heard_now

      old_as : packets_over transport (unmarked past) ≡ map octets_of heard
      old_as = sym (heard_packets transport past at h)

      stored_front : stored_over settings transport past ++ gained (stored_over settings transport) past last ≡ stored_over settings transport later
      stored_front =
          ap (λ (hs : List Heard). stored_by most heard ++ beyond (stored_by most heard) (stored_by most hs)) heard_now ∙ stored_more most heard news ∙ ap (stored_by most) (sym heard_now)

      spelt_front : objects_over settings transport (unmarked past) ++ gained (objects_over settings transport) (unmarked past) one ≡ objects_over settings transport (unmarked past ++ one ∷ [])
      spelt_front =
          let both : map octets_of (heard ++ news) ≡ map octets_of heard ++ map octets_of news = map-append octets_of heard news in
          ap₂ (λ (old new : List (List ℕ)). spelled_within most old ++ beyond (spelled_within most old) (spelled_within most new)) old_as (spelt_as ∙ both)
          ∙ spelled_more most (map octets_of heard) (map octets_of news) ∙ ap (spelled_within most) (sym (spelt_as ∙ both))

      kept_is : faulty.objects_with settings past last ≡ beyond (stored_by most heard) (stored_by most (heard ++ news))
      kept_is = kept_now ∙ ap (λ (hs : List Heard). beyond (stored_by most heard) (stored_by most hs)) heard_now

      spelt_is : clear.objects_with settings (unmarked past) one ≡ beyond (spelled_within most (map octets_of heard)) (spelled_within most (map octets_of (heard ++ news)))
      spelt_is = spelt_now ∙ ap₂ (λ (old new : List (List ℕ)). beyond (spelled_within most old) (spelled_within most new)) old_as spelt_as

      each_now : IsKeptOrLeft settings past at one
      each_now =
          elim (kept_or_left most heard news (subst (HasOneName most) old_as once.once) (subst (HasOneName most) spelt_as next.once)) [
            | inl nothing ↦ inl (kept_is ∙ nothing)
            | inr same ↦ inr (kept_is ∙ same ∙ sym spelt_is)
          ]

      all_as : (packets : List (List ℕ)) → AllCount (heard_as false packets)
      all_as [] = tt
      all_as (packet ∷ packets) = (refl, all_as packets)

      judged_by : NoneIgnored → (refused : Bool) (paid spent : ℕ) → last.refused ≡ refused → (AllCount heard × (paid ≤ spent)) ⊎ (paid + 1 ≤ spent) → (AllCount (heard_over transport later) × (paid ≤ spent + spends at one)) ⊎ (paid + 1 ≤ spent + spends at one)
      judged_by none refused paid spent is (inr some) = inr (omega (arith, some))
      judged_by none true paid spent is (inl counts) = inr (let some = used none in let one = ap counted is in let few = counts.1 in omega (arith, some, one, few))
      judged_by none false paid spent is (inl counts) = inl (
        subst AllCount (sym (heard_now ∙ ap (λ (b : Bool). heard ++ heard_as b (new_packets transport (unmarked past) one)) is))
            (all_count heard (heard_as false (new_packets transport (unmarked past) one)) counts.0 (all_as (new_packets transport (unmarked past) one))),
        (let few = counts.1 in omega (arith, few)),
      )

      open_short : NoneIgnored → (spent : ℕ) → Short past spent → Short later (spent + spends at one)
      open_short none spent s = record {
        ahead = s.ahead;
        spelt = s.spelt;
        paid = s.paid;
        stored = stored_now ∙ ap (λ (os : List Object). os ++ gained (stored_over settings transport) past last) s.stored
            ∙ append_assoc s.ahead (stored_over settings transport past) (gained (stored_over settings transport) past last) ∙ ap (λ (os : List Object). s.ahead ++ os) stored_front;
        spelled = spelled_now ∙ ap (λ (os : List Object). os ++ gained (objects_over settings transport) (unmarked past) one) s.spelled
            ∙ append_assoc s.spelt (objects_over settings transport (unmarked past)) (gained (objects_over settings transport) (unmarked past) one)
            ∙ ap (λ (os : List Object). s.spelt ++ os) (spelt_front ∙ sym objects_now);
        leaves = s.leaves;
        judged = judged_by none last.refused s.paid spent refl s.judged;
      }

    short_by : (closing : Bool) → closes (psm_of transport) one ≡ closing → NoneIgnored → (spent : ℕ) → Short past spent → Short later (spent + spends at one)
    short_by true is taken = closed_short is
    short_by false is taken = open_short is taken

    short_next : NoneIgnored → (spent : ℕ) → Short past spent → Short later (spent + spends at one)
    short_next = short_by (closes (psm_of transport) one) refl

    each_by : (closing : Bool) → closes (psm_of transport) one ≡ closing → IsKeptOrLeft settings past at one
    each_by true is = inl (kept_now ∙ none_gained is)
    each_by false is = each_now is

    each_next : IsKeptOrLeft settings past at one
    each_next = each_by (closes (psm_of transport) one) refl

  -- ---- all of them

  all_each : (occurrences : List Occurrence) (past : List Marked) (at : Reacted) → Holds settings before past at → IsNamedOnce settings transport (unmarked past) → AllMayMiss settings (unmarked past) at occurrences → AllNamedOnce settings transport (unmarked past) occurrences
      → AllKeptOrLeft settings past at occurrences
  all_each [] past at h once may all = tt
  all_each (one ∷ rest) past at h once may all =
      let last : Marked = mark_of (unmarked past) at one in
      let same : unmarked past ++ one ∷ [] ≡ unmarked (past ++ last ∷ []) = sym (unmarked_more past last) in (
        each_next past at one h once may.0 all.0,
        all_each rest (past ++ last ∷ []) (done one at) (holds_later past at one h once may.0 all.0) (once_later past at one h once may.0 all.0)
            (subst (λ (os : List Occurrence). AllMayMiss settings os (done one at) rest) same may.1) (subst (λ (os : List Occurrence). AllNamedOnce settings transport os rest) same all.1),
      )

  record Walked (past : List Marked) (at : Reacted) (spent : ℕ) (occurrences : List Occurrence) : Type 0 where
    marks : List Marked
    same : unmarked marks ≡ unmarked past ++ occurrences
    holds : Holds settings before marks (all_done occurrences at)
    short : Short marks (spent + spent_from at occurrences)
    once : IsNamedOnce settings transport (unmarked marks)
    few : spent_from at occurrences + faults_of (all_done occurrences at).gift.answers ≤ faults_of at.gift.answers + faults_told occurrences

  all_short : (occurrences : List Occurrence) (past : List Marked) (at : Reacted) (spent : ℕ) → Holds settings before past at → Short past spent → IsNamedOnce settings transport (unmarked past) → AllMayFail settings (unmarked past) at occurrences
      → AllNamedOnce settings transport (unmarked past) occurrences → Walked past at spent occurrences
  all_short [] past at spent h s once may all = record {
    marks = past;
    same = sym (append-nil (unmarked past));
    holds = h;
    short = (let same : spent ≡ spent + 0 = omega arith in subst (Short past) same s);
    once = once;
    few = omega arith;
  }
  all_short (one ∷ rest) past at spent h s once may all =
      let last : Marked = mark_of (unmarked past) at one in
      let later : List Marked = past ++ last ∷ [] in
      let alone = as_alone settings before (unmarked past) one at may.0 in
      let none = none_with settings before (unmarked past) one at may.0 in
      let same : unmarked past ++ one ∷ [] ≡ unmarked later = sym (unmarked_more past last) in
      let then = all_short rest later (done one at) (spent + spends at one) (holds_later past at one h once alone all.0) (short_next past at one h once alone all.0 none spent s) (once_later past at one h once alone all.0)
      (subst (λ (os : List Occurrence). AllMayFail settings os (done one at) rest) same may.1) (subst (λ (os : List Occurrence). AllNamedOnce settings transport os rest) same all.1) in
      let sum : (spent + spends at one) + spent_from (done one at) rest ≡ spent + (spends at one + spent_from (done one at) rest) = omega arith in
      record {
        marks = then.marks;
        same = then.same ∙ ap (λ (os : List Occurrence). os ++ rest) (sym same) ∙ append_assoc (unmarked past) (one ∷ []) rest;
        holds = then.holds;
        short = subst (Short then.marks) sum then.short;
        once = then.once;
        few = (let now = told_now past at one h once alone all.0 none in let rest_told = then.few in omega (arith, now, rest_told));
      }

  -- ---- at first

  first_over : (t : Transport) → packets_over t [] ≡ []
  first_over L2cap = refl
  first_over Rfcomm = no_packets

  first_once : IsNamedOnce settings transport []
  first_once = record { alone = first_over (other_of transport); once = subst (HasOneName most) (sym (first_over transport)) tt }

  first_short : Short [] 0
  first_short = record { ahead = []; spelt = []; paid = 0; stored = refl; spelled = ap (spelled_within most) (sym (first_over transport)); leaves = refl; judged = inl (tt, omega arith) }

  fewer : (kept objects : List Object) (few most' : ℕ) → few ≤ most' → LeavesOut kept objects few → LeavesOut kept objects most'
  fewer kept objects few most' less leaves = (let same : (most' - few) + few ≡ most' = omega (arith, less) in subst (LeavesOut kept objects) same (leaves_more kept objects few (most' - few) leaves))

  tells_each : (occurrences : List Occurrence) → AllMayMiss settings [] (new_over settings before) occurrences → AllNamedOnce settings transport [] occurrences → TellsEach settings before occurrences
  tells_each occurrences may all = record { but = gains-all_but_refusals settings before occurrences may; each = all_each occurrences [] (new_over settings before) (first_holds settings before) first_once may all }

  less_all : (occurrences : List Occurrence) → AllMayFail settings [] (new_over settings before) occurrences → AllNamedOnce settings transport [] occurrences → LosesByFaults settings before occurrences
  less_all occurrences may all =
      let w = all_short occurrences [] (new_over settings before) 0 (first_holds settings before) first_short first_once may all in
      let at : Reacted = all_done occurrences (new_over settings before) in
      let spent : ℕ = spent_from (new_over settings before) occurrences in
      let c = closes_all w.marks at w.holds w.once (0 + spent) w.short in
      let gain : List Object = w.short.ahead ++ stored_over settings transport w.marks in
      let spelled : clear.objects settings occurrences ≡ w.short.spelt ++ objects_over settings transport (unmarked w.marks) = ap (clear.objects settings) (sym w.same) ∙ w.short.spelled in
      record {
        less = record {
          gain = gain;
          stored = ap stored_in w.holds.upholds.listens.serves.stands.holds ∙ ap (λ (os : List Object). Some (before ++ os)) w.short.stored;
          leaves = subst (λ (os : List Object). LeavesOut gain os spent) (sym spelled)
              (fewer gain (w.short.spelt ++ objects_over settings transport (unmarked w.marks)) c.paid spent (let few = c.few in omega (arith, few)) c.leaves);
        };
        few = (let few = w.few in omega (arith, few));
        tells = tells_each occurrences (all_alone settings before occurrences [] (new_over settings before) may) all;
      }

pub named-once_tell_each : NamedOnceTellEach
named-once_tell_each settings before transport occurrences may all = tells_each settings before transport occurrences may all

pub named-once_gain_less : NamedOnceGainLess
named-once_gain_less settings before transport occurrences may all = less_all settings before transport occurrences may all
