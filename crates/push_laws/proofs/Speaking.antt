-- A deed of a client over RFCOMM leaves one request under way at most.
use Rattle.std.proofs.Common.{inl, inr, zero, suc, Bool, true, false, ◌≡◌, ◌==◌, ◌&&◌, ◌≤◌, ℕ, List, [], ◌∷◌, ◌++◌, length, Option, refl, sym, ap, subst, ◌∙◌, arith, append-nil, if◌then◌else◌}
use Rattle.std.specs.List.{AllByRecursion}
use Rattle.link_talk.specs.bt_base.specs.Objects.{Object as Stored}
use Rattle.link_talk.specs.bt_base.specs.declared.settings.Transport.{Transport}
use Rattle.link_talk.specs.bt_base.specs.declared.settings.Transport.TheVariants.{Rfcomm}
use Rattle.push_model.specs.rfcomm_frames.specs.ObexPackets.{IsPacket}
use Rattle.push_model.specs.rfcomm_model.specs.Hearing.{Up, nothing, opened, bytes, closed, up, hears}
use Rattle.push_model.specs.rfcomm_model.specs.Sides.{handed}
use Rattle.push_model.specs.obex_session.specs.Asking.{Asking}
use Rattle.push_model.specs.obex_session.specs.NextPut.{is_waiting}
use Rattle.push_model.specs.declared.course.Point.TheVariants.{Due}
use Rattle.push_model.specs.declared.course.Stage.{Stage}
use Rattle.push_model.specs.declared.course.Stage.TheVariants.{Object, ObjectEnd}
use Rattle.push_model.specs.Causes.{cause_of_mux}
use Rattle.push_model.specs.Client.{Client, ends}
use Rattle.push_model.specs.Events as events
use Rattle.push_model.specs.Laws as deeds
use Rattle.push_model.specs.Laws.{Deed, Hears, Asks, Finishes, Cancels}
use Rattle.push_model.specs.Responding.{is_object, is_left, hears_front, hears_stream, hears_up}
use Rattle.push_model.specs.Server.{Server}
use Rattle.push_model.specs.Streams.{Front}
use Rattle.push_laws.specs.Carriage.{Carriage}
use Rattle.push_laws.specs.Occurrences.{Occurrence}
use Rattle.push_laws.specs.Readings.{octets_heard}
use Rattle.push_model.specs.Steps.{Part}
use Rattle.push_laws.specs.Sending.{packets_through, packets_by, AnswersTo}
use Rattle.push_laws.proofs.Bounding.{IsBounded, AwaitsFirst, same_bounded, none_bounded, less_bounded, all_bounded}
use Rattle.push_laws.proofs.Carriage.{Linked, Follows, up_by}
use Rattle.push_laws.proofs.Couples.{Sums, fronts}
use Rattle.push_laws.proofs.Driving.{IsQuiet, joined}
use Rattle.push_laws.proofs.Exchanging.{Exchange, Telling, NoneTold, PartTold, AllTold, tells, requests}
use Rattle.push_laws.proofs.Late.{Anchor, IsLate, either}
use Rattle.push_laws.proofs.Muxing.{Asked, Silent, Asking1, Ready, asks_asked}
use Rattle.push_laws.proofs.Parsing.{client_less, client_all, empty_front}
use Rattle.push_laws.proofs.Stating.{IsResponse}
use Rattle.push_laws.proofs.Talks.{talk_of, object_of}
use Rattle.push_laws.proofs.Working.{Same, ends_same, news_same, cancels_same, stream_work, asks_keeps, finished_quiet}

-- ---- both, in one exchange at most

pub record Dialog (most : ℕ) (past : List Occurrence) (client : Client) (at : Server) (sums : Sums) : Type 0 where
  pub packets : List (List ℕ)
  pub sound : AllByRecursion IsPacket packets
  pub waits : Bool
  pub held : List ℕ
  pub exchange : Exchange most sums packets waits held
  -- what the client awaits and holds, while it is on its channel
  pub waits_is : is_object client.stage ≡ true → waits ≡ is_waiting client.session.awaited
  pub held_is : is_object client.stage ≡ true → held ≡ client.held
  pub quiet : is_object client.stage ≡ true → IsQuiet client
  pub got_is : octets_heard past ≡ sums.got
  pub unbroken : at.listener.breaks ≡ false
  -- what it puts is no longer than its server takes
  pub bounded : IsBounded most client

not_both : (b : Bool) → b ≡ true → b ≡ false → ⊥
not_both b holds fails = let never : true ≡ false = sym holds ∙ fails in cc

same_sums : (most : ℕ) (sums : Sums) (packets : List (List ℕ)) (waits : Bool) (held asked told : List ℕ) → asked ≡ sums.asked → told ≡ sums.told → Exchange most sums packets waits held → Exchange most (record sums { asked = asked; told = told }) packets waits held
same_sums most sums packets waits held asked told a t x =
    subst (λ (xs : List ℕ). Exchange most (record sums { asked = xs; told = told }) packets waits held) (sym a) (subst (λ (xs : List ℕ). Exchange most (record sums { told = xs }) packets waits held) (sym t) x)

-- ---- what comes up to it

empty_same : (steps : ℕ) (client : Client) → ((hears_stream steps [] client).session.awaited ≡ client.session.awaited) × ((hears_stream steps [] client).held ≡ [])
unfolding hears_stream
empty_same zero client = (refl, refl)
empty_same (suc steps) client =
    let none = empty_front client.session.maximum in (
      ap (λ (f : Front). (hears_front (λ rest next. hears_stream steps rest next) [] f client).session.awaited) none,
      ap (λ (f : Front). (hears_front (λ rest next. hears_stream steps rest next) [] f client).held) none,
    )

module _ (most : ℕ) (past : List Occurrence) (at : Server) (sums : Sums) (client : Client) (d : Dialog most past client at sums) (zs : List ℕ) where
  abbrev Now : Client → Type 0
  Now after = Dialog most past after at (record sums { told = sums.told ++ zs })

  -- where it is on its channel behind it, it was there before
  abbrev Was : Client → Type 0
  Was after = is_object after.stage ≡ true → is_object client.stage ≡ true

  quiet_by : (after : Client) → after.going ≡ client.going → after.rest ≡ client.rest → IsQuiet client → IsQuiet after
  quiet_by after going rest quiet still = rest ∙ quiet (sym going ∙ still)

  -- no octets
  none_up : (after : Client) → Same client after → Was after → zs ≡ [] → Now after
  none_up after s was none = record {
    packets = d.packets;
    sound = d.sound;
    waits = d.waits;
    held = d.held;
    exchange = subst (λ (xs : List ℕ). Exchange most (record sums { told = xs }) d.packets d.waits d.held) (sym (ap (λ (xs : List ℕ). sums.told ++ xs) none ∙ append-nil sums.told)) d.exchange;
    waits_is = λ works. d.waits_is (was works) ∙ ap (λ (x : Asking). is_waiting x.awaited) (sym s.0);
    held_is = λ works. d.held_is (was works) ∙ sym s.1;
    quiet = λ works. quiet_by after s.2 s.3 (d.quiet (was works));
    got_is = d.got_is;
    unbroken = d.unbroken;
    bounded = same_bounded most client after s d.bounded;
  }

  module _ (heard : Client) (s : Same client heard) (first : AwaitsFirst heard) (here : is_object client.stage ≡ true) where
    so : IsBounded most heard
    so = same_bounded most client heard s d.bounded

    stream : List ℕ
    stream = heard.held ++ zs

    holds : d.held ++ zs ≡ stream
    unfolding stream
    holds = ap (λ (xs : List ℕ). xs ++ zs) (d.held_is here ∙ sym s.1)

    work : (steps : ℕ) → ((hears_stream steps stream heard).going ≡ client.going) × ((hears_stream steps stream heard).rest ≡ client.rest)
    work steps = stream_work client.going client.rest steps stream heard (s.2, s.3)

    -- the response is whole, or not
    told_by : (steps : ℕ) → length stream ≤ steps → Telling most sums d.packets d.waits d.held zs → Now (hears_stream steps stream heard)
    unfolding stream
    told_by steps enough (NoneTold none empty x) =
        let nothing_held : heard.held ++ zs ≡ [] = ap (λ (xs : List ℕ). heard.held ++ xs) none ∙ (append-nil heard.held ∙ (s.1 ∙ sym (d.held_is here) ∙ empty)) in
        let w = work steps in
        record {
          packets = d.packets;
          sound = d.sound;
          waits = d.waits;
          held = d.held;
          exchange = x;
          waits_is = λ works. d.waits_is here ∙ ap is_waiting (sym (awaits nothing_held));
          held_is = λ works. empty ∙ sym (keeps nothing_held);
          quiet = λ works. quiet_by (hears_stream steps (heard.held ++ zs) heard) w.0 w.1 (d.quiet here);
          got_is = d.got_is;
          unbroken = d.unbroken;
          bounded = subst (λ (xs : List ℕ). IsBounded most (hears_stream steps xs heard)) (sym nothing_held) (none_bounded most steps heard so);
        }
      where
        awaits : heard.held ++ zs ≡ [] → (hears_stream steps (heard.held ++ zs) heard).session.awaited ≡ client.session.awaited
        awaits e = ap (λ (xs : List ℕ). (hears_stream steps xs heard).session.awaited) e ∙ (empty_same steps heard).0 ∙ ap (λ (x : Asking). x.awaited) s.0

        keeps : heard.held ++ zs ≡ [] → (hears_stream steps (heard.held ++ zs) heard).held ≡ []
        keeps e = ap (λ (xs : List ℕ). (hears_stream steps xs heard).held) e ∙ (empty_same steps heard).1
    told_by steps enough (PartTold more some is x) =
        let w = work steps in
        let what = client_less steps (heard.held ++ zs) more heard (subst (λ (xs : List ℕ). IsPacket (xs ++ more)) holds is) some in
        record {
          packets = d.packets;
          sound = d.sound;
          waits = d.waits;
          held = d.held ++ zs;
          exchange = x;
          waits_is = λ works. elim what [
            | inl now ↦ d.waits_is here ∙ ap (λ (x : Asking). is_waiting x.awaited) (sym (ap (λ (c : Client). c.session) now ∙ s.0))
            | inr left ↦ absurd (not_both (is_object (hears_stream steps (heard.held ++ zs) heard).stage) works left)
          ];
          held_is = λ works. elim what [
            | inl now ↦ holds ∙ sym (ap (λ (c : Client). c.held) now)
            | inr left ↦ absurd (not_both (is_object (hears_stream steps (heard.held ++ zs) heard).stage) works left)
          ];
          quiet = λ works. quiet_by (hears_stream steps (heard.held ++ zs) heard) w.0 w.1 (d.quiet here);
          got_is = d.got_is;
          unbroken = d.unbroken;
          bounded = less_bounded most steps (heard.held ++ zs) more heard (subst (λ (xs : List ℕ). IsPacket (xs ++ more)) holds is) some so;
        }
    told_by steps enough (AllTold is x) =
        let w = work steps in
        let after : Client = hears_stream steps (heard.held ++ zs) heard in
        let what = client_all steps (heard.held ++ zs) heard (subst IsPacket holds is.packet) enough in
        record {
          packets = d.packets;
          sound = d.sound;
          waits = is_waiting after.session.awaited;
          held = [];
          exchange = x (is_waiting after.session.awaited);
          waits_is = λ works. refl;
          held_is = λ works. elim what [ inl none ↦ sym none | inr left ↦ absurd (not_both (is_object after.stage) works left) ];
          quiet = λ works. quiet_by after w.0 w.1 (d.quiet here);
          got_is = d.got_is;
          unbroken = d.unbroken;
          bounded = all_bounded most steps (heard.held ++ zs) heard (subst (IsResponse most) holds is) so first;
        }

-- ---- an SDU on its channel

module _ (most : ℕ) (past : List Occurrence) (at : Server) (sums : Sums) (client : Client) (d : Dialog most past client at sums) (here : is_object client.stage ≡ true) where
  up_now : (u : Up) (heard : Client) → Same client heard → AwaitsFirst heard → is_object heard.stage ≡ true → Telling most sums d.packets d.waits d.held (handed u) → Dialog most past (hears_up u heard) at (record sums { told = sums.told ++ handed u })
  unfolding stream
  up_now nothing heard s first on t = none_up most past at sums client d [] heard s (λ works. here) refl
  up_now opened heard s first on t = none_up most past at sums client d [] heard s (λ works. here) refl
  up_now (closed reason) heard s first on t =
      none_up most past at sums client d [] (hears_up (closed reason) heard) (either (Same client) (is_left heard.contact reason) (record heard { stage = ObjectEnd Due }) (ends (cause_of_mux reason) heard) s (ends_same client (cause_of_mux reason) heard s)) (λ works. here) refl
  up_now (bytes octets) heard s first on t = told_by most past at sums client d octets heard s first here (length (heard.held ++ octets)) (omega arith) t

-- ---- a deed

module _ (most : ℕ) (content : Option (List Stored)) (anchor : Anchor) (muxed : anchor.transport ≡ Rfcomm) (past : List Occurrence) (at : Server) where
  module _ (client : Client) (c : Carriage) (sums : Sums) (l : Linked anchor client c at sums) (d : Dialog most past client at sums) (r : Ready most (talk_of client)) (first : AwaitsFirst client) where
    transport : client.transport ≡ Rfcomm
    transport = let was = l.late in ap (λ (a : Anchor). a.transport) was.1 ∙ muxed

    front_told : (told : List ℕ) (after : Client) (c' : Carriage) (asked : List ℕ) → Linked anchor after c' at (record sums { asked = asked; told = told }) → (rest : List ℕ) × (sums.replied ≡ told ++ rest)
    front_told told after c' asked linked = (fronts after.mux c'.sent c'.come linked.unheard at.mux at.frame linked.rest at.listener.service.answer (record sums { asked = asked; told = told; breaks = at.listener.breaks }) linked.coupled).1

    -- what stays of it, where nothing comes up and nothing is asked
    calmly : (deed : Deed) (c' : Carriage) → (f : Follows anchor deed client c' at sums) → Same client (deeds.done deed client) → up_by deed client ≡ [] → packets_by deed client ≡ [] → Dialog most past (deeds.done deed client) at (record sums { asked = f.asked; told = f.told })
    calmly deed c' f s none also =
        record {
          packets = d.packets;
          sound = d.sound;
          waits = d.waits;
          held = d.held;
          exchange = same_sums most sums d.packets d.waits d.held f.asked f.told
              (f.asked_is d.quiet ∙ (ap (λ (ps : List (List ℕ)). sums.asked ++ joined ps) also ∙ append-nil sums.asked)) (f.told_is ∙ (ap (λ (xs : List ℕ). sums.told ++ xs) none ∙ append-nil sums.told)) d.exchange;
          waits_is = λ works. d.waits_is (f.was works) ∙ ap (λ (x : Asking). is_waiting x.awaited) (sym s.0);
          held_is = λ works. d.held_is (f.was works) ∙ sym s.1;
          quiet = λ works still. s.3 ∙ d.quiet (f.was works) (sym s.2 ∙ still);
          got_is = d.got_is;
          unbroken = d.unbroken;
          bounded = same_bounded most client (deeds.done deed client) s d.bounded;
        }

    late : IsLate client.stage
    late = let was = l.late in was.0

    -- it asks for nothing, or makes a request
    asking : (parts : List Part) (c' : Carriage) → (f : Follows anchor (Asks parts) client c' at sums) → Asked most client.session (packets_by (Asks parts) client) (deeds.done (Asks parts) client).session
        → Dialog most past (deeds.done (Asks parts) client) at (record sums { asked = f.asked; told = f.told })
    asking parts c' f (Silent none session) =
        let kept = asks_keeps client parts transport late in
        record {
          packets = d.packets;
          sound = d.sound;
          waits = d.waits;
          held = d.held;
          exchange = same_sums most sums d.packets d.waits d.held f.asked f.told (f.asked_is d.quiet ∙ (ap (λ (ps : List (List ℕ)). sums.asked ++ joined ps) none ∙ append-nil sums.asked)) (f.told_is ∙ append-nil sums.told) d.exchange;
          waits_is = λ works. d.waits_is (f.was works) ∙ ap (λ (x : Asking). is_waiting x.awaited) (sym session);
          held_is = λ works. d.held_is (f.was works) ∙ sym kept.0;
          quiet = λ works. kept.1 (d.quiet (f.was works));
          got_is = d.got_is;
          unbroken = d.unbroken;
          bounded = λ met free. let was = kept.2 (met, free) in subst (λ (x : Asking). x.limit ≤ most) (sym session) (d.bounded was.0 was.1);
        }
    asking parts c' f (Asking1 packet is still heavy) =
        let kept = asks_keeps client parts transport late in
        let here : is_object client.stage ≡ true = on_channel (is_object client.stage) refl in
        let more = requests most sums d.packets d.waits d.held packet (d.waits_is here ∙ still) heavy.request d.exchange in
        record {
          packets = d.packets;
          sound = d.sound;
          waits = true;
          held = d.held;
          exchange = subst (λ (xs : List ℕ). Exchange most (record sums { asked = xs; told = f.told }) d.packets true d.held)
              (sym (f.asked_is d.quiet ∙ ap (λ (ps : List (List ℕ)). sums.asked ++ joined ps) is ∙ ap (λ (xs : List ℕ). sums.asked ++ xs) (append-nil packet)))
              (subst (λ (xs : List ℕ). Exchange most (record sums { asked = sums.asked ++ packet; told = xs }) d.packets true d.held) (sym (f.told_is ∙ append-nil sums.told)) more);
          waits_is = λ works. sym heavy.waits;
          held_is = λ works. d.held_is here ∙ sym kept.0;
          quiet = λ works. kept.1 (d.quiet here);
          got_is = d.got_is;
          unbroken = d.unbroken;
          bounded = λ met free. let was = kept.2 (met, free) in subst (λ (n : ℕ). n ≤ most) (sym heavy.limit) (d.bounded was.0 was.1);
        }
      where
        on_channel : (object : Bool) → is_object client.stage ≡ object → object ≡ true
        on_channel true e = refl
        on_channel false e = absurd (let none : packets_by (Asks parts) client ≡ [] = ap (λ (b : Bool). if b then packets_through client.transport client parts else []) e in no_packet (sym none ∙ is))
          where
            no_packet : [] ≡ packet ∷ [] → ⊥
            no_packet g = cc

    -- an SDU comes
    sdu_told : (psm : ℕ) (sdu : List ℕ) (c' : Carriage) (mine : Bool) → (is_object client.stage && (psm == client.psm)) ≡ mine → (f : Follows anchor (Hears (events.Sdu psm sdu)) client c' at sums)
        → Dialog most past (deeds.done (Hears (events.Sdu psm sdu)) client) at (record sums { asked = f.asked; told = f.told })
    sdu_told psm sdu c' false off f =
        calmly (Hears (events.Sdu psm sdu)) c' f (news_same client (events.Sdu psm sdu) late (λ p s e. same_off p s e)) (ap (λ (b : Bool). if b then handed (up sdu client.mux) else []) off) refl
      where
        same_off : (p : ℕ) (s : List ℕ) → events.Sdu psm sdu ≡ events.Sdu p s → (is_object client.stage && (p == client.psm)) ≡ false
        same_off p s e = ap (λ (n : ℕ). is_object client.stage && (n == client.psm)) (sym (same_psm p s e)) ∙ off
          where
            same_psm : (p : ℕ) (s : List ℕ) → events.Sdu psm sdu ≡ events.Sdu p s → psm ≡ p
            same_psm p s g = cc
    sdu_told psm sdu c' true on f =
        let both = parts_of (is_object client.stage) (psm == client.psm) on in
        let stage : client.stage ≡ Object = object_of client.stage both.0 in
        let heard : Client = record client { mux = hears sdu client.mux } in
        let told : f.told ≡ sums.told ++ handed (up sdu client.mux) = f.told_is ∙ ap (λ (b : Bool). sums.told ++ (if b then handed (up sdu client.mux) else [])) on in
        let front = front_told f.told (deeds.done (Hears (events.Sdu psm sdu)) client) c' f.asked f.linked in
        let telling = tells most sums d.packets d.waits d.held (handed (up sdu client.mux)) (front.0, front.1 ∙ ap (λ (xs : List ℕ). xs ++ front.0) told) d.exchange in
        let now = up_now most past at sums client d both.0 (up sdu client.mux) heard (refl, refl, refl, refl, refl, λ e. e) first both.0 telling in
        let is : deeds.done (Hears (events.Sdu psm sdu)) client ≡ hears_up (up sdu client.mux) heard =
        ap (λ (st : Stage). events.sdu_at st psm sdu client) stage ∙ ap (λ (b : Bool). if b then events.hears_object client.transport sdu client else client) both.1 ∙ ap (λ (t : Transport). events.hears_object t sdu client) transport in
        let asked : f.asked ≡ sums.asked = f.asked_is d.quiet ∙ append-nil sums.asked in
        subst (λ (c : Client). Dialog most past c at (record sums { asked = f.asked; told = f.told })) (sym is)
        (subst (λ (xs : List ℕ). Dialog most past (hears_up (up sdu client.mux) heard) at (record sums { asked = xs; told = f.told })) (sym asked)
        (subst (λ (xs : List ℕ). Dialog most past (hears_up (up sdu client.mux) heard) at (record sums { told = xs })) (sym told) now))
      where
        parts_of : (a b : Bool) → (a && b) ≡ true → (a ≡ true) × (b ≡ true)
        parts_of true b e = (refl, e)
        parts_of false b e = absurd (let g : false ≡ true = e in cc)

    other_news : (news : events.News) (c' : Carriage) → (f : Follows anchor (Hears news) client c' at sums) → ((psm : ℕ) (sdu : List ℕ) → news ≡ events.Sdu psm sdu → ⊥) → up_by (Hears news) client ≡ []
        → Dialog most past (deeds.done (Hears news) client) at (record sums { asked = f.asked; told = f.told })
    other_news news c' f other none = calmly (Hears news) c' f (news_same client news late (λ p s e. absurd (other p s e))) none refl

    pub speaks : (deed : Deed) (c' : Carriage) → (f : Follows anchor deed client c' at sums) → AnswersTo content deed client → Dialog most past (deeds.done deed client) at (record sums { asked = f.asked; told = f.told })
    speaks (Hears (events.Sdu psm sdu)) c' f answers = sdu_told psm sdu c' (is_object client.stage && (psm == client.psm)) refl f
    speaks (Hears events.LinkUp) c' f answers = other_news events.LinkUp c' f (λ p s e. let g : events.LinkUp ≡ events.Sdu p s = e in cc) refl
    speaks (Hears (events.LinkDown reason)) c' f answers = other_news (events.LinkDown reason) c' f (λ p s e. let g : events.LinkDown reason ≡ events.Sdu p s = e in cc) refl
    speaks (Hears (events.LinkFailed status)) c' f answers = other_news (events.LinkFailed status) c' f (λ p s e. let g : events.LinkFailed status ≡ events.Sdu p s = e in cc) refl
    speaks (Hears (events.ChannelOpen psm mtu)) c' f answers = other_news (events.ChannelOpen psm mtu) c' f (λ p s e. let g : events.ChannelOpen psm mtu ≡ events.Sdu p s = e in cc) refl
    speaks (Hears (events.ChannelClosed psm cause)) c' f answers = other_news (events.ChannelClosed psm cause) c' f (λ p s e. let g : events.ChannelClosed psm cause ≡ events.Sdu p s = e in cc) refl
    speaks (Hears events.FeaturesTold) c' f answers = other_news events.FeaturesTold c' f (λ p s e. let g : events.FeaturesTold ≡ events.Sdu p s = e in cc) refl
    speaks (Hears events.FeaturesLost) c' f answers = other_news events.FeaturesLost c' f (λ p s e. let g : events.FeaturesLost ≡ events.Sdu p s = e in cc) refl
    speaks (Hears events.Timer) c' f answers = other_news events.Timer c' f (λ p s e. let g : events.Timer ≡ events.Sdu p s = e in cc) refl
    speaks (Asks parts) c' f answers = asking parts c' f (asks_asked most content client parts transport r answers)
    speaks Finishes c' f answers = record {
      packets = d.packets;
      sound = d.sound;
      waits = d.waits;
      held = d.held;
      exchange = same_sums most sums d.packets d.waits d.held f.asked f.told (f.asked_is d.quiet ∙ append-nil sums.asked) (f.told_is ∙ append-nil sums.told) d.exchange;
      waits_is = λ works. d.waits_is works;
      held_is = λ works. d.held_is works;
      quiet = λ works. finished_quiet client transport works (d.quiet works);
      got_is = d.got_is;
      unbroken = d.unbroken;
      bounded = d.bounded;
    }
    speaks Cancels c' f answers = calmly Cancels c' f (cancels_same client) refl refl
