-- What came over the channel of the object on one link, each packet marked: what it stores and what it spells.
use Rattle.std.proofs.Common.{Bool, true, false, cond, ◌≡◌, ◌==◌, ℕ, ◌||◌, List, [], ◌∷◌, ◌++◌, length, map, Some, None, refl, sym, ap, ap₂, ◌∙◌, append_assoc, append-nil}
use Rattle.std.specs.List.{cons_option}
use Rattle.std.proofs.Math.Seq.{drop-nil}
use Rattle.std.proofs.lemmas.Bool.{cond-true, cond-false}
use Rattle.std.proofs.lemmas.List.{map-append}
use Rattle.link_talk.specs.bt_base.specs.declared.settings.Settings.{Settings}
use Rattle.link_talk.specs.bt_base.specs.declared.settings.Transport.TheVariants.{L2cap, Rfcomm}
use Rattle.link_talk.specs.bt_base.specs.Objects.{Object}
use Rattle.link_talk.specs.capture.proofs.HistoryLaws.{given_by-more}
use Rattle.push_model.specs.obex_session.specs.Laws.{without_fault}
use Rattle.push_model.specs.obex_session.specs.Past.{Heard, stored_by}
use Rattle.push_model.specs.obex_session.proofs.SuccessLaws.{more_stored}
use Rattle.push_model.specs.rfcomm_frames.specs.ObexPackets.{obex_packets}
use Rattle.link_talk.specs.Gains.{beyond, gained}
use Rattle.link_talk.specs.ObjectsHeard.{spelled_within}
use Rattle.push_model.specs.Client.{own_maximum}
use Rattle.push_model.specs.Server.{Reacted, object_psm}
use Rattle.push_laws.specs.Faults as faulty
use Rattle.push_laws.specs.Faults.{Marked, unmarked, heard_as, heard_over, stored_over}
use Rattle.push_laws.specs.Gains as clear
use Rattle.push_laws.specs.Occurrences.{Occurrence, Came, Went, Closed, LinkDown, Asked, Answering, done}
use Rattle.push_laws.specs.Parties.{sdu_if, come_by, ServesDirectly}
use Rattle.push_laws.specs.Premises.{NoneShort, new_packets}
use Rattle.push_laws.specs.Readings.{closes, came_on, packets_over}
use Rattle.push_laws.proofs.Calm.{silent_stream}
use Rattle.push_laws.proofs.Listening.{octets_of}
use Rattle.push_laws.proofs.Missing.{Stays, marked_at, stays_more, marks_later}
use Rattle.push_laws.proofs.Readings.{read_more, read_closed, drop_front, drop_same, heard_more, spelled_stored}

-- ---- what an occurrence brings there

pub record Brings (one : Occurrence) : Type 0 where
  pub here : Bool
  pub sdu : List ℕ
  pub is : come_by one ≡ sdu_if here sdu

pub brings : (one : Occurrence) → Brings one
brings (Came psm sdu) = record { here = psm == object_psm; sdu = sdu; is = refl }
brings (Went psm sdu) = record { here = false; sdu = []; is = refl }
brings (Closed psm) = record { here = false; sdu = []; is = refl }
brings LinkDown = record { here = false; sdu = []; is = refl }
brings Asked = record { here = false; sdu = []; is = refl }
brings (Answering answers) = record { here = false; sdu = []; is = refl }

-- what ends it brings nothing
end_brings : (one : Occurrence) → closes object_psm one ≡ true → come_by one ≡ []
end_brings (Came psm sdu) e = absurd (let f : false ≡ true = e in cc)
end_brings (Went psm sdu) e = refl
end_brings (Closed psm) e = refl
end_brings LinkDown e = refl
end_brings Asked e = refl
end_brings (Answering answers) e = refl

pub came_same : (one : Occurrence) → cons_option (came_on object_psm one) [] ≡ come_by one
came_same (Came psm sdu) = by (psm == object_psm)
  where
    by : (here : Bool) → cons_option (cond here (Some sdu) None) [] ≡ sdu_if here sdu
    by true = refl
    by false = refl
came_same (Went psm sdu) = refl
came_same (Closed psm) = refl
came_same LinkDown = refl
came_same Asked = refl
came_same (Answering answers) = refl

pub news_are : (past : List Occurrence) (one : Occurrence) → closes object_psm one ≡ false → new_packets L2cap past one ≡ come_by one
news_are past one on = ap (beyond (packets_over L2cap past)) (read_more (came_on object_psm) object_psm past one on) ∙ drop_front (packets_over L2cap past) (cons_option (came_on object_psm one) []) ∙ came_same one

-- ---- lists of objects

pub nothing_beyond : (old new : List Object) → new ≡ old → beyond old new ≡ []
nothing_beyond old new same = ap (beyond old) same ∙ drop_same old

pub front_kept : (old new more : List Object) → new ≡ old ++ more → old ++ beyond old new ≡ new
front_kept old new more is = ap (λ (os : List Object). old ++ os) (ap (beyond old) is ∙ drop_front old more) ∙ sym is

module _ (most : ℕ) where
  -- with no packet more or one
  stored_on : (heard : List Heard) (here refused : Bool) (sdu : List ℕ)
      → stored_by most heard ++ beyond (stored_by most heard) (stored_by most (heard ++ heard_as refused (sdu_if here sdu))) ≡ stored_by most (heard ++ heard_as refused (sdu_if here sdu))
  stored_on heard true refused sdu = front_kept (stored_by most heard) (stored_by most (heard ++ (sdu, refused) ∷ [])) _ (more_stored most heard (sdu, refused))
  stored_on heard false refused sdu =
      ap (λ (os : List Object). stored_by most heard ++ os) (nothing_beyond (stored_by most heard) (stored_by most (heard ++ [])) (ap (stored_by most) (append-nil heard))) ∙ append-nil (stored_by most heard)
      ∙ ap (stored_by most) (sym (append-nil heard))

  pub bare_is : (packets : List (List ℕ)) → spelled_within most packets ≡ stored_by most (without_fault packets)
  bare_is packets = sym (spelled_stored most packets)

  bare_more : (packets : List (List ℕ)) (here : Bool) (sdu : List ℕ) → without_fault (packets ++ sdu_if here sdu) ≡ without_fault packets ++ heard_as false (sdu_if here sdu)
  bare_more packets here sdu = map-append (λ (p : List ℕ). (let h : Heard = (p, false) in h)) packets (sdu_if here sdu)

  spelled_on : (packets : List (List ℕ)) (here : Bool) (sdu : List ℕ)
      → spelled_within most packets ++ beyond (spelled_within most packets) (spelled_within most (packets ++ sdu_if here sdu)) ≡ spelled_within most (packets ++ sdu_if here sdu)
  spelled_on packets here sdu =
      let old = bare_is packets in
      let new = bare_is (packets ++ sdu_if here sdu) ∙ ap (stored_by most) (bare_more packets here sdu) in
      ap₂ (λ (a b : List Object). a ++ beyond a b) old new ∙ stored_on (without_fault packets) here false sdu ∙ sym new

pub octets_as : (refused : Bool) (packets : List (List ℕ)) → map octets_of (heard_as refused packets) ≡ packets
octets_as refused [] = refl
octets_as refused (packet ∷ packets) = ap (λ (ps : List (List ℕ)). packet ∷ ps) (octets_as refused packets)

pub no_heard : (heard : List Heard) → map octets_of heard ≡ [] → heard ≡ []
no_heard [] e = refl
no_heard (one ∷ heard) e = absurd (some one.0 (map octets_of heard) e)
  where
    some : (x : List ℕ) (xs : List (List ℕ)) → x ∷ xs ≡ [] → ⊥
    some x xs e = cc

module _ (settings : Settings) (before : List Object) where
  abbrev pub most : ℕ
  most = own_maximum L2cap settings

  -- Nothing was heard over RFCOMM.
  none_carried : (past : List Occurrence) (at : Reacted) (s : Stays settings before past at) → heard_over Rfcomm s.marks ≡ []
  none_carried past at s =
      no_heard (heard_over Rfcomm s.marks) (s.holds.upholds.listens.packets ∙ ap obex_packets (sym s.holds.heard) ∙ ap (packets_over Rfcomm) s.same ∙ silent_stream past s.calm.quiet)

  -- what was stored and what was spelled ahead of the link, and with what came on it; while its channel is there, that is what was heard
  pub record Keeps (ahead spelt : List Object) (heard : List Heard) (closed : Bool) (past : List Occurrence) (marks : List Marked) : Type 0 where
    pub stored : faulty.objects settings marks ≡ ahead ++ stored_by most heard
    pub spelled : clear.objects settings past ≡ spelt ++ spelled_within most (map octets_of heard)
    pub open_ : closed ≡ false → heard_over L2cap marks ≡ heard

  module _ (ahead spelt : List Object) (heard : List Heard) (past : List Occurrence) (at : Reacted) (one : Occurrence) (s : Stays settings before past at) (serves : ServesDirectly NoneShort at one) where
    abbrev refused : Bool
    refused = marked_at settings before past at one s serves

    abbrev heard_later : List Heard
    heard_later = heard ++ heard_as refused (come_by one)

    abbrev last : Marked
    last = record { occurrence = one; refused = refused }

    later : Stays settings before (past ++ one ∷ []) (done one at)
    later = stays_more settings before past at one s serves

    marks_are : later.marks ≡ s.marks ++ last ∷ []
    unfolding later
    marks_are = marks_later settings before past at one s serves

    b : Brings one
    b = brings one

    -- nothing comes: the same was heard
    none_new : come_by one ≡ [] → heard_later ≡ heard
    none_new none = ap (λ (ps : List (List ℕ)). heard ++ heard_as refused ps) none ∙ append-nil heard

    over_more : (ending : Bool) → closes object_psm one ≡ ending → heard_over L2cap (s.marks ++ last ∷ []) ≡ cond ending [] (heard_over L2cap s.marks ++ heard_as refused (come_by one))
    over_more true is = heard_more L2cap s.marks last ∙ cond-true _ _ _ is
    over_more false is = heard_more L2cap s.marks last ∙ cond-false _ _ _ is ∙ ap (λ (ps : List (List ℕ)). heard_over L2cap s.marks ++ heard_as refused ps) (news_are (unmarked s.marks) one is)

    -- ---- what is stored

    gain_is : (ending closed : Bool) → closes object_psm one ≡ ending → (closed ≡ true → come_by one ≡ []) → (closed ≡ false → heard_over L2cap s.marks ≡ heard)
        → stored_by most heard ++ gained (stored_over settings L2cap) s.marks last ≡ stored_by most heard_later
    gain_is true closed is shut open_ =
        ap (λ (hs : List Heard). stored_by most heard ++ beyond (stored_over settings L2cap s.marks) (stored_by most hs)) (over_more true is)
        ∙ ap (λ (os : List Object). stored_by most heard ++ os) (drop-nil (length (stored_over settings L2cap s.marks))) ∙ append-nil (stored_by most heard)
        ∙ ap (stored_by most) (sym (none_new (end_brings one is)))
    gain_is false true is shut open_ =
        let same : heard_over L2cap (s.marks ++ last ∷ []) ≡ heard_over L2cap s.marks = over_more false is ∙ ap (λ (ps : List (List ℕ)). heard_over L2cap s.marks ++ heard_as refused ps) (shut refl) ∙ append-nil (heard_over L2cap s.marks) in
        ap (λ (os : List Object). stored_by most heard ++ os) (nothing_beyond (stored_over settings L2cap s.marks) (stored_over settings L2cap (s.marks ++ last ∷ [])) (ap (stored_by most) same))
        ∙ append-nil (stored_by most heard) ∙ ap (stored_by most) (sym (none_new (shut refl)))
    gain_is false false is shut open_ =
        ap₂ (λ (old new : List Heard). stored_by most heard ++ beyond (stored_by most old) (stored_by most new)) (open_ refl) (over_more false is ∙ ap (λ (hs : List Heard). hs ++ heard_as refused (come_by one)) (open_ refl))
        ∙ ap (λ (ps : List (List ℕ)). stored_by most heard ++ beyond (stored_by most heard) (stored_by most (heard ++ heard_as refused ps))) b.is
        ∙ stored_on most heard b.here refused b.sdu ∙ ap (λ (ps : List (List ℕ)). stored_by most (heard ++ heard_as refused ps)) (sym b.is)

    no_carried : gained (stored_over settings Rfcomm) s.marks last ≡ []
    no_carried =
        nothing_beyond (stored_over settings Rfcomm s.marks) (stored_over settings Rfcomm (s.marks ++ last ∷ []))
        (ap (stored_by (own_maximum Rfcomm settings)) (ap (heard_over Rfcomm) (sym marks_are) ∙ none_carried (past ++ one ∷ []) (done one at) later ∙ sym (none_carried past at s)))

    -- ---- what is spelled

    packets_now : packets_over L2cap past ≡ map octets_of (heard_over L2cap s.marks)
    packets_now = ap (packets_over L2cap) (sym s.same) ∙ sym s.holds.direct

    packets_later : packets_over L2cap (past ++ one ∷ []) ≡ map octets_of (heard_over L2cap (s.marks ++ last ∷ []))
    packets_later = ap (packets_over L2cap) (sym later.same) ∙ sym later.holds.direct ∙ ap (λ (ms : List Marked). map octets_of (heard_over L2cap ms)) marks_are

    pub octets_later : map octets_of heard_later ≡ map octets_of heard ++ come_by one
    octets_later = map-append octets_of heard (heard_as refused (come_by one)) ∙ ap (λ (ps : List (List ℕ)). map octets_of heard ++ ps) (octets_as refused (come_by one))

    spells_is : (ending closed : Bool) → closes object_psm one ≡ ending → (closed ≡ true → come_by one ≡ []) → (closed ≡ false → heard_over L2cap s.marks ≡ heard)
        → spelled_within most (map octets_of heard) ++ gained (clear.objects_over settings L2cap) past one ≡ spelled_within most (map octets_of heard_later)
    spells_is true closed is shut open_ =
        ap (λ (ps : List (List ℕ)). spelled_within most (map octets_of heard) ++ beyond (clear.objects_over settings L2cap past) (spelled_within most ps)) (read_closed (came_on object_psm) object_psm past one is)
        ∙ ap (λ (os : List Object). spelled_within most (map octets_of heard) ++ os) (drop-nil (length (clear.objects_over settings L2cap past))) ∙ append-nil (spelled_within most (map octets_of heard))
        ∙ ap (λ (hs : List Heard). spelled_within most (map octets_of hs)) (sym (none_new (end_brings one is)))
    spells_is false true is shut open_ =
        let same : packets_over L2cap (past ++ one ∷ []) ≡ packets_over L2cap past =
        read_more (came_on object_psm) object_psm past one is ∙ ap (λ (ps : List (List ℕ)). packets_over L2cap past ++ ps) (came_same one ∙ shut refl) ∙ append-nil (packets_over L2cap past) in
        ap (λ (os : List Object). spelled_within most (map octets_of heard) ++ os)
        (nothing_beyond (clear.objects_over settings L2cap past) (clear.objects_over settings L2cap (past ++ one ∷ [])) (ap (spelled_within most) same))
        ∙ append-nil (spelled_within most (map octets_of heard)) ∙ ap (λ (hs : List Heard). spelled_within most (map octets_of hs)) (sym (none_new (shut refl)))
    spells_is false false is shut open_ =
        let now : packets_over L2cap past ≡ map octets_of heard = packets_now ∙ ap (map octets_of) (open_ refl) in
        let new : packets_over L2cap (past ++ one ∷ []) ≡ map octets_of heard ++ sdu_if b.here b.sdu =
        packets_later ∙ ap (map octets_of) (over_more false is ∙ ap (λ (hs : List Heard). hs ++ heard_as refused (come_by one)) (open_ refl)) ∙ octets_later ∙ ap (λ (ps : List (List ℕ)). map octets_of heard ++ ps) b.is in
        ap₂ (λ (old later : List (List ℕ)). spelled_within most (map octets_of heard) ++ beyond (spelled_within most old) (spelled_within most later)) now new
        ∙ spelled_on most (map octets_of heard) b.here b.sdu
        ∙ ap (spelled_within most) (ap (λ (ps : List (List ℕ)). map octets_of heard ++ ps) (sym b.is) ∙ sym octets_later)

    none_spelled : gained (clear.objects_over settings Rfcomm) past one ≡ []
    none_spelled =
        nothing_beyond (clear.objects_over settings Rfcomm past) (clear.objects_over settings Rfcomm (past ++ one ∷ []))
        (ap (spelled_within (own_maximum Rfcomm settings)) (silent_stream (past ++ one ∷ []) later.calm.quiet ∙ sym (silent_stream past s.calm.quiet)))

    -- ---- both

    joined : (front gain : List Object) (x y z : List Object) → x ≡ front ++ y → z ≡ [] → x ++ (gain ++ z) ≡ front ++ (y ++ gain)
    joined front gain x y z is none =
        ap₂ (λ (a c : List Object). a ++ (gain ++ c)) is none ∙ ap (λ (os : List Object). (front ++ y) ++ os) (append-nil gain) ∙ append_assoc front y gain

    neither : (a c : Bool) → (a || c) ≡ false → (a ≡ false) × (c ≡ false)
    neither true c e = absurd (let f : true ≡ false = e in cc)
    neither false c e = (refl, e)

    pub keeps_more : (closed : Bool) → (closed ≡ true → come_by one ≡ []) → Keeps ahead spelt heard closed past s.marks → Keeps ahead spelt heard_later (closed || closes object_psm one) (past ++ one ∷ []) (s.marks ++ last ∷ [])
    keeps_more closed shut k = record {
      stored = given_by-more (faulty.objects_with settings) s.marks last ∙ joined ahead (gained (stored_over settings L2cap) s.marks last) (faulty.objects settings s.marks) (stored_by most heard) (gained (stored_over settings Rfcomm) s.marks last) k.stored no_carried
          ∙ ap (λ (os : List Object). ahead ++ os) (gain_is (closes object_psm one) closed refl shut k.open_);
      spelled = given_by-more (clear.objects_with settings) past one
          ∙ joined spelt (gained (clear.objects_over settings L2cap) past one) (clear.objects settings past) (spelled_within most (map octets_of heard)) (gained (clear.objects_over settings Rfcomm) past one) k.spelled none_spelled
          ∙ ap (λ (os : List Object). spelt ++ os) (spells_is (closes object_psm one) closed refl shut k.open_);
      open_ = λ e.
          let both = neither closed (closes object_psm one) e in
          over_more false both.1 ∙ ap (λ (hs : List Heard). hs ++ heard_as refused (come_by one)) (k.open_ both.0);
    }
