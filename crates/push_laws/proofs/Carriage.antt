-- A client and a server over RFCOMM: each move leaves their multiplexers coupled, so what comes to the server finds room.
use Rattle.std.proofs.Common.{Bool, true, false, ◌≡◌, ◌==◌, ◌&&◌, ◌||◌, ℕ, List, [], ◌∷◌, ◌++◌, Option, Some, None, refl, sym, ap, subst, ◌∙◌, append-nil, append_assoc, if◌then◌else◌}
use Rattle.std.specs.Prelude.{not}
use Rattle.link_talk.specs.bt_base.specs.declared.settings.Transport.{Transport}
use Rattle.link_talk.specs.bt_base.specs.declared.settings.Transport.TheVariants.{L2cap, Rfcomm}
use Rattle.push_model.specs.rfcomm_frames.specs.Frames.{PlainFrame}
use Rattle.push_model.specs.rfcomm_model.specs.Hearing.{up, hears}
use Rattle.push_model.specs.rfcomm_model.specs.Sides.{handed}
use Rattle.push_model.specs.rfcomm_model.specs.Machine.{Mux}
use Rattle.push_model.specs.declared.course.Point.TheVariants.{Due, Asked}
use Rattle.push_model.specs.declared.course.Stage.{Stage}
use Rattle.push_model.specs.declared.course.Stage.TheVariants.{Rest, Link, SearchChannel, Search, SearchEnd, Features, ObjectChannel, Object, ObjectEnd, LinkEnd, Over}
use Rattle.push_model.specs.Causes.{unawaited_response}
use Rattle.push_model.specs.Client.{Client, is_direct}
use Rattle.push_model.specs.Events as events
use Rattle.push_model.specs.Laws as deeds
use Rattle.push_model.specs.Laws.{Deed, Hears, Asks, Finishes, Cancels}
use Rattle.push_model.specs.Responding.{is_object, hears_up}
use Rattle.push_model.specs.Server.{Server, rfcomm_psm}
use Rattle.push_model.specs.Steps as steps
use Rattle.push_model.specs.Steps.{Part, Stepped, steps_at, steps_object, steps_muxed, tells_end, rests}
use Rattle.push_laws.specs.Carriage.{Carriage, frames_of, frames_by, told_by, carriage_after, AreCarried}
use Rattle.push_laws.specs.Occurrences.{Occurrence}
use Rattle.push_laws.specs.Parties.{OfClient, sdu_if}
use Rattle.push_laws.specs.Sending.{packets_muxed, packets_through, packets_by}
use Rattle.push_laws.proofs.Calm.{IsCalm}
use Rattle.push_laws.proofs.Couples.{Coupled, Sums, client_hears}
use Rattle.push_laws.proofs.Driving.{Stays, IsQuiet, joined, up_stays, ends_stays, news_stays, cancels_stays, rests_after, steps_after}
use Rattle.push_laws.proofs.Late.{Anchor, Late, IsLate, by_late, either, all_late}

-- ---- both, while the server's channel stands

-- of what went from the server the client's multiplexer heard this; all that came, while it is on that channel
pub record Linked (anchor : Anchor) (client : Client) (c : Carriage) (at : Server) (sums : Sums) : Type 0 where
  pub heard : List (List ℕ)
  pub unheard : List (List ℕ)
  pub rest : List ℕ
  pub coupled : Coupled client.mux c.sent c.come unheard at.mux at.frame rest at.listener.service.answer (record sums { breaks = at.listener.breaks })
  pub gone_is : c.gone ≡ heard ++ unheard
  pub told_is : is_object client.stage ≡ true → c.told ≡ heard
  pub rest_is : is_object client.stage ≡ true → rest ≡ client.rest
  pub late : Late anchor client

-- the two are linked; or the server's channel was closed, and its multiplexer is new
pub data Both (anchor : Anchor) (past : List Occurrence) (client : Client) (c : Carriage) (at : Server) : Type 0 where
  On : (sums : Sums) → Linked anchor client c at sums → Both anchor past client c at
  Off : c.closed ≡ true → IsCalm past at → Both anchor past client c at

same_behind : (xs a b : List (List ℕ)) → xs ++ a ≡ xs ++ b → a ≡ b
same_behind [] a b e = e
same_behind (x ∷ xs) a b e = same_behind xs a b (tail e)
  where
    tail : x ∷ (xs ++ a) ≡ x ∷ (xs ++ b) → xs ++ a ≡ xs ++ b
    tail f = cc

not_both : (b : Bool) → b ≡ true → b ≡ false → ⊥
not_both b holds fails = let never : true ≡ false = sym holds ∙ fails in cc

-- ---- a deed of the client

-- what comes up of an SDU on the channel of its object
abbrev pub up_by : Deed → Client → List ℕ
up_by (Hears events.LinkUp) client = []
up_by (Hears (events.LinkDown reason)) client = []
up_by (Hears (events.LinkFailed status)) client = []
up_by (Hears (events.ChannelOpen psm mtu)) client = []
up_by (Hears (events.ChannelClosed psm cause)) client = []
up_by (Hears (events.Sdu psm sdu)) client = if is_object client.stage && (psm == client.psm) then handed (up sdu client.mux) else []
up_by (Hears events.FeaturesTold) client = []
up_by (Hears events.FeaturesLost) client = []
up_by (Hears events.Timer) client = []
up_by (Asks parts) client = []
up_by Finishes client = []
up_by Cancels client = []

-- both are linked behind a deed, and what was told and asked is so much more
pub record Follows (anchor : Anchor) (deed : Deed) (client : Client) (c : Carriage) (at : Server) (sums : Sums) : Type 0 where
  pub asked : List ℕ
  pub told : List ℕ
  pub linked : Linked anchor (deeds.done deed client) c at (record sums { asked = asked; told = told })
  pub told_is : told ≡ sums.told ++ up_by deed client
  pub asked_is : (is_object client.stage ≡ true → IsQuiet client) → asked ≡ sums.asked ++ joined (packets_by deed client)
  pub was : is_object (deeds.done deed client).stage ≡ true → is_object client.stage ≡ true

module _ (anchor : Anchor) (muxed : anchor.transport ≡ Rfcomm) (there : anchor.psm ≡ rfcomm_psm) (at : Server) where
  deed_late : (deed : Deed) (client : Client) → Late anchor client → Late anchor (deeds.done deed client)
  deed_late deed client late = all_late anchor (deed ∷ []) client late

  module _ (client : Client) (c : Carriage) (sums : Sums) (l : Linked anchor client c at sums) where
    abbrev Unmoved : Client → Type 0
    Unmoved after = Stays client.mux client.rest (is_object client.stage) after

    -- its multiplexer stays, and nothing is sent
    stays : (after : Client) (told : List (List ℕ)) → Unmoved after → Late anchor after → (is_object client.stage ≡ true → told ≡ c.told) → Linked anchor after (record c { sent = c.sent ++ []; told = told }) at sums
    stays after told s late same = record {
      heard = l.heard;
      unheard = l.unheard;
      rest = l.rest;
      coupled = subst (λ (m : Mux). Coupled m (c.sent ++ []) c.come l.unheard at.mux at.frame l.rest at.listener.service.answer (record sums { breaks = at.listener.breaks })) (sym s.2) (rests_after c.sent c.come l.unheard at.mux at.frame at.listener.service.answer (record sums { breaks = at.listener.breaks }) client.mux l.rest l.coupled);
      gone_is = l.gone_is;
      told_is = λ works. let was = s.1 works in same was ∙ l.told_is was;
      rest_is = λ works. l.rest_is (s.1 works) ∙ sym s.3;
      late = late;
    }

    unchanged : Unmoved client
    unchanged = (let late = l.late in late.0, λ works. works, refl, refl)

    follows : (deed : Deed) (told : List (List ℕ)) → Linked anchor (deeds.done deed client) (record c { sent = c.sent ++ []; told = told }) at sums → up_by deed client ≡ [] → packets_by deed client ≡ [] → (is_object (deeds.done deed client).stage ≡ true → is_object client.stage ≡ true)
        → Follows anchor deed client (record c { sent = c.sent ++ []; told = told }) at sums
    follows deed told linked none also was = record {
      asked = sums.asked;
      told = sums.told;
      linked = linked;
      told_is = sym (ap (λ (xs : List ℕ). sums.told ++ xs) none ∙ append-nil sums.told);
      asked_is = λ quiet. sym (ap (λ (ps : List (List ℕ)). sums.asked ++ joined ps) also ∙ append-nil sums.asked);
      was = was;
    }

    news_linked : (news : events.News) → ((psm : ℕ) (sdu : List ℕ) → news ≡ events.Sdu psm sdu → ⊥) → told_by news ≡ [] → up_by (Hears news) client ≡ [] → Follows anchor (Hears news) client (record c { sent = c.sent ++ []; told = c.told ++ told_by news }) at sums
    news_linked news none told up_none =
        let moved = news_stays client.mux client.rest (is_object client.stage) news client none unchanged in
        follows (Hears news) (c.told ++ told_by news)
        (stays (events.hears_news news client) (c.told ++ told_by news) moved (deed_late (Hears news) client l.late) (λ works. ap (λ (ts : List (List ℕ)). c.told ++ ts) told ∙ append-nil c.told)) up_none refl moved.1

    -- an SDU that its multiplexer hears
    heard_now : (sdu : List ℕ) (behind : List (List ℕ)) → client.stage ≡ Object → c.gone ≡ (c.told ++ sdu ∷ []) ++ behind → Late anchor (hears_up (up sdu client.mux) (record client { mux = hears sdu client.mux }))
        → Linked anchor (hears_up (up sdu client.mux) (record client { mux = hears sdu client.mux })) (record c { sent = c.sent ++ []; told = c.told ++ sdu ∷ [] }) at (record sums { told = sums.told ++ handed (up sdu client.mux) })
    heard_now sdu behind stage front late =
        let all = l.told_is (ap is_object stage) in
        let more : Sums = record sums { told = sums.told ++ handed (up sdu client.mux); breaks = at.listener.breaks } in
        let answer : List ℕ = at.listener.service.answer in
        let next : l.unheard ≡ sdu ∷ behind = same_behind l.heard l.unheard (sdu ∷ behind) (sym l.gone_is ∙ (front ∙ (append_assoc c.told (sdu ∷ []) behind ∙ ap (λ (ts : List (List ℕ)). ts ++ sdu ∷ behind) all))) in
        let coupled = client_hears client.mux c.sent c.come behind at.mux at.frame l.rest answer (record sums { breaks = at.listener.breaks }) sdu (subst (λ (us : List (List ℕ)). Coupled client.mux c.sent c.come us at.mux at.frame l.rest answer (record sums { breaks = at.listener.breaks })) next l.coupled) in
        let s = up_stays (hears sdu client.mux) client.rest true (up sdu client.mux) (record client { mux = hears sdu client.mux }) (let here = l.late in here.0, λ works. refl, refl, refl) in
        record {
          heard = l.heard ++ sdu ∷ [];
          unheard = behind;
          rest = l.rest;
          coupled = subst (λ (m : Mux). Coupled m (c.sent ++ []) c.come behind at.mux at.frame l.rest answer more) (sym s.2) (rests_after c.sent c.come behind at.mux at.frame answer more (hears sdu client.mux) l.rest coupled);
          gone_is = l.gone_is ∙ (ap (λ (us : List (List ℕ)). l.heard ++ us) next ∙ sym (append_assoc l.heard (sdu ∷ []) behind));
          told_is = λ works. ap (λ (ts : List (List ℕ)). ts ++ sdu ∷ []) all;
          rest_is = λ works. l.rest_is (ap is_object stage) ∙ sym s.3;
          late = late;
        }

    -- an SDU comes
    abbrev Told : ℕ → List ℕ → Carriage
    Told psm sdu = record c { sent = c.sent ++ []; told = c.told ++ sdu_if (psm == rfcomm_psm) sdu }

    same_psm : client.psm ≡ rfcomm_psm
    same_psm = let late = l.late in ap (λ (a : Anchor). a.psm) late.1 ∙ there

    -- so much comes up
    abbrev Comes : Client → ℕ → List ℕ → List ℕ → Type 0
    Comes after psm sdu more = Linked anchor after (Told psm sdu) at (record sums { told = sums.told ++ more })

    nothing_up : (after : Client) (psm : ℕ) (sdu : List ℕ) → Linked anchor after (Told psm sdu) at sums → Comes after psm sdu []
    nothing_up after psm sdu linked = subst (λ (xs : List ℕ). Linked anchor after (Told psm sdu) at (record sums { told = xs })) (sym (append-nil sums.told)) linked

    on_object : (psm : ℕ) (sdu : List ℕ) (behind : List (List ℕ)) → client.stage ≡ Object → c.gone ≡ (c.told ++ sdu_if (psm == rfcomm_psm) sdu) ++ behind → (mine : Bool) → (psm == client.psm) ≡ mine
        → Late anchor (if mine then events.hears_object client.transport sdu client else client) → Comes (if mine then events.hears_object client.transport sdu client else client) psm sdu (if mine then handed (up sdu client.mux) else [])
    on_object psm sdu behind stage front true mine late =
        let here : (psm == rfcomm_psm) ≡ true = ap (λ (n : ℕ). psm == n) (sym same_psm) ∙ mine in
        let more : Sums = record sums { told = sums.told ++ handed (up sdu client.mux) } in
        let transport : client.transport ≡ Rfcomm = let was = l.late in ap (λ (a : Anchor). a.transport) was.1 ∙ muxed in
        subst (λ (b : Bool). Linked anchor (events.hears_object client.transport sdu client) (record c { sent = c.sent ++ []; told = c.told ++ sdu_if b sdu }) at more) (sym here)
        (subst (λ (t : Transport). Linked anchor (events.hears_object t sdu client) (record c { sent = c.sent ++ []; told = c.told ++ sdu ∷ [] }) at more) (sym transport)
        (heard_now sdu behind stage (front ∙ ap (λ (b : Bool). (c.told ++ sdu_if b sdu) ++ behind) here) (subst (λ (t : Transport). Late anchor (events.hears_object t sdu client)) transport late)))
    on_object psm sdu behind stage front false away late =
        let apart : (psm == rfcomm_psm) ≡ false = ap (λ (n : ℕ). psm == n) (sym same_psm) ∙ away in
        nothing_up client psm sdu (stays client (c.told ++ sdu_if (psm == rfcomm_psm) sdu) unchanged late (λ works. ap (λ (b : Bool). c.told ++ sdu_if b sdu) apart ∙ append-nil c.told))

    outside : (t : Transport) → Unmoved (events.hears_outside t client)
    outside L2cap = ends_stays client.mux client.rest (is_object client.stage) unawaited_response client unchanged
    outside Rfcomm = unchanged

    abbrev SduStays : Stage → ℕ → List ℕ → Type 0
    SduStays stage psm sdu = is_object stage ≡ false → Unmoved (events.sdu_at stage psm sdu client)

    off_object : (psm : ℕ) (sdu : List ℕ) (stage : Stage) → IsLate stage → SduStays stage psm sdu
    off_object psm sdu =
        by_late (λ st. SduStays st psm sdu) (λ e. absurd (let never : true ≡ false = e in cc)) (λ point e. either Unmoved (psm == client.psm) (events.hears_outside client.transport client) client (outside client.transport) unchanged)
        (λ point e. unchanged) (λ e. unchanged) (λ e. unchanged)

    abbrev By : ℕ → List ℕ → Stage → Type 0
    By psm sdu stage = Linked anchor (events.sdu_at stage psm sdu client) (Told psm sdu) at (record sums { told = sums.told ++ (if is_object client.stage && (psm == client.psm) then handed (up sdu client.mux) else []) })

    sdu_linked : (psm : ℕ) (sdu : List ℕ) (behind : List (List ℕ)) → c.gone ≡ (c.told ++ sdu_if (psm == rfcomm_psm) sdu) ++ behind → Follows anchor (Hears (events.Sdu psm sdu)) client (Told psm sdu) at sums
    sdu_linked psm sdu behind front =
        record { asked = sums.asked; told = sums.told ++ up_by (Hears (events.Sdu psm sdu)) client; linked = by client.stage refl (let late = l.late in late.0); told_is = refl; asked_is = λ quiet. sym (append-nil sums.asked); was = was client.stage refl (let late = l.late in late.0) }
      where
        late' : Late anchor (events.sdu_at client.stage psm sdu client)
        late' = deed_late (Hears (events.Sdu psm sdu)) client l.late

        elsewhere : (stage : Stage) → client.stage ≡ stage → IsLate stage → is_object stage ≡ false → By psm sdu stage
        elsewhere stage is late none =
            subst (λ (b : Bool). Linked anchor (events.sdu_at stage psm sdu client) (Told psm sdu) at (record sums { told = sums.told ++ (if b && (psm == client.psm) then handed (up sdu client.mux) else []) })) (sym (ap is_object is ∙ none))
            (nothing_up (events.sdu_at stage psm sdu client) psm sdu
            (stays (events.sdu_at stage psm sdu client) (c.told ++ sdu_if (psm == rfcomm_psm) sdu) (off_object psm sdu stage late none) (subst (λ (st : Stage). Late anchor (events.sdu_at st psm sdu client)) is late')
            (λ works. absurd (not_both (is_object stage) (ap is_object (sym is) ∙ works) none))))

        was : (stage : Stage) → client.stage ≡ stage → IsLate stage → is_object (events.sdu_at stage psm sdu client).stage ≡ true → is_object client.stage ≡ true
        was Object is late works = ap is_object is
        was (ObjectEnd point) is late works = (off_object psm sdu (ObjectEnd point) late refl).1 works
        was (LinkEnd point) is late works = works
        was Over is late works = works
        was Rest is late works = works
        was (Link point) is late works = absurd late
        was (SearchChannel point) is late works = absurd late
        was Search is late works = absurd late
        was (SearchEnd point) is late works = absurd late
        was (Features point) is late works = absurd late
        was (ObjectChannel point) is late works = absurd late

        by : (stage : Stage) → client.stage ≡ stage → IsLate stage → By psm sdu stage
        by Object is late =
            subst (λ (b : Bool). Linked anchor (events.sdu_at Object psm sdu client) (Told psm sdu) at (record sums { told = sums.told ++ (if b && (psm == client.psm) then handed (up sdu client.mux) else []) })) (sym (ap is_object is))
            (on_object psm sdu behind is front (psm == client.psm) refl (subst (λ (st : Stage). Late anchor (events.sdu_at st psm sdu client)) is late'))
        by (ObjectEnd point) is late = elsewhere (ObjectEnd point) is late refl
        by (LinkEnd point) is late = elsewhere (LinkEnd point) is late refl
        by Over is late = elsewhere Over is late refl
        by Rest is late = elsewhere Rest is late refl
        by (Link point) is late = absurd late
        by (SearchChannel point) is late = absurd late
        by Search is late = absurd late
        by (SearchEnd point) is late = absurd late
        by (Features point) is late = absurd late
        by (ObjectChannel point) is late = absurd late

    -- it is asked for its next step
    record Goes (packets : List (List ℕ)) (s : Stepped) : Type 0 where
      asked : List ℕ
      rest : List ℕ
      coupled : Coupled s.client.mux (c.sent ++ frames_of s.step) c.come l.unheard at.mux at.frame rest at.listener.service.answer (record sums { asked = asked; breaks = at.listener.breaks })
      was : is_object s.client.stage ≡ true → is_object client.stage ≡ true
      rest_is : is_object s.client.stage ≡ true → rest ≡ s.client.rest
      asked_is : (is_object client.stage ≡ true → IsQuiet client) → asked ≡ sums.asked ++ joined packets

    -- nothing is sent
    stands : (s : Stepped) → s.client.mux ≡ client.mux → s.client.rest ≡ client.rest → frames_of s.step ≡ [] → (is_object s.client.stage ≡ true → is_object client.stage ≡ true) → Goes [] s
    stands s same left none was = record {
      asked = sums.asked;
      rest = l.rest;
      coupled = subst (λ (fs : List PlainFrame). Coupled s.client.mux (c.sent ++ fs) c.come l.unheard at.mux at.frame l.rest at.listener.service.answer (record sums { breaks = at.listener.breaks })) (sym none)
          (subst (λ (m : Mux). Coupled m (c.sent ++ []) c.come l.unheard at.mux at.frame l.rest at.listener.service.answer (record sums { breaks = at.listener.breaks })) (sym same) (rests_after c.sent c.come l.unheard at.mux at.frame at.listener.service.answer (record sums { breaks = at.listener.breaks }) client.mux l.rest l.coupled));
      was = was;
      rest_is = λ works. l.rest_is (was works) ∙ sym left;
      asked_is = λ quiet. sym (append-nil sums.asked);
    }

    no_object : false ≡ true → is_object client.stage ≡ true
    no_object e = absurd (let never : false ≡ true = e in cc)

    tells_stand : (cause : Option _) (parts : List Part) → Goes [] (tells_end cause client parts)
    tells_stand None parts = stands (rests client parts) refl refl refl (λ works. works)
    tells_stand (Some outcome) parts = stands (tells_end (Some outcome) client parts) refl refl refl no_object

    on_steps : (parts : List Part) → client.stage ≡ Object → Goes (packets_muxed client parts) (steps_muxed client parts)
    on_steps parts is =
        let here : is_object client.stage ≡ true = ap is_object is in
        let s = steps_after c.sent c.come l.unheard at.mux at.frame at.listener.service.answer (is_object client.stage ≡ true → IsQuiet client) (record sums { breaks = at.listener.breaks }) client parts (λ quiet. quiet here)
        (subst (λ (xs : List ℕ). Coupled client.mux c.sent c.come l.unheard at.mux at.frame xs at.listener.service.answer (record sums { breaks = at.listener.breaks })) (l.rest_is here) l.coupled) in
        record { asked = s.0; rest = (steps_muxed client parts).client.rest; coupled = s.1; was = λ works. here; rest_is = λ works. refl; asked_is = s.2 }

    at_steps : (parts : List Part) (stage : Stage) → client.stage ≡ stage → IsLate stage → Goes (if is_object stage then packets_muxed client parts else []) (steps_at stage client parts)
    at_steps parts Object is late =
        let transport : client.transport ≡ Rfcomm = let was = l.late in ap (λ (a : Anchor). a.transport) was.1 ∙ muxed in
        subst (λ (t : Transport). Goes (packets_muxed client parts) (steps_object t client parts)) (sym transport) (on_steps parts is)
    at_steps parts (ObjectEnd Due) is late = stands (steps_at (ObjectEnd Due) client parts) refl refl refl no_object
    at_steps parts (ObjectEnd Asked) is late = stands (rests client parts) refl refl refl (λ works. works)
    at_steps parts (LinkEnd Due) is late = stands (steps_at (LinkEnd Due) client parts) refl refl refl no_object
    at_steps parts (LinkEnd Asked) is late = stands (rests client parts) refl refl refl (λ works. works)
    at_steps parts Over is late = tells_stand client.cause parts
    at_steps parts Rest is late = stands (rests client parts) refl refl refl (λ works. works)
    at_steps parts (Link point) is late = absurd late
    at_steps parts (SearchChannel point) is late = absurd late
    at_steps parts Search is late = absurd late
    at_steps parts (SearchEnd point) is late = absurd late
    at_steps parts (Features point) is late = absurd late
    at_steps parts (ObjectChannel point) is late = absurd late

    none_sent : (object : Bool) → (if object then [] else []) ≡ (let none : List (List ℕ) = [] in none)
    none_sent true = refl
    none_sent false = refl

    all_steps : (parts : List Part) → Goes (packets_by (Asks parts) client) (steps.steps client parts)
    all_steps parts =
        let transport : client.transport ≡ Rfcomm = let was = l.late in ap (λ (a : Anchor). a.transport) was.1 ∙ muxed in
        subst (λ (t : Transport). Goes (if is_object client.stage then packets_through t client parts else []) (steps.steps client parts)) (sym transport) (by_failed client.failed client.given)
      where
        quiet_stands : (s : Stepped) → Goes [] s → Goes (if is_object client.stage then [] else []) s
        quiet_stands s g = subst (λ (ps : List (List ℕ)). Goes ps s) (sym (none_sent (is_object client.stage))) g

        by_failed : (failed given : Bool) → Goes (if is_object client.stage then (if failed || given then [] else packets_muxed client parts) else [])
            (if failed then record { client = client; step = steps.NoMemory; left = parts } else if given then rests client parts else steps_at client.stage client parts)
        by_failed true given = quiet_stands (record { client = client; step = steps.NoMemory; left = parts }) (stands (record { client = client; step = steps.NoMemory; left = parts }) refl refl refl (λ works. works))
        by_failed false true = quiet_stands (rests client parts) (stands (rests client parts) refl refl refl (λ works. works))
        by_failed false false = at_steps parts client.stage refl (let late = l.late in late.0)

    asks_linked : (parts : List Part) → Follows anchor (Asks parts) client (record c { sent = c.sent ++ frames_by (Asks parts) client; told = c.told ++ [] }) at sums
    asks_linked parts =
        let s = all_steps parts in
        record {
          asked = s.asked;
          told = sums.told;
          linked = record { heard = l.heard; unheard = l.unheard; rest = s.rest; coupled = s.coupled; gone_is = l.gone_is; told_is = λ works. append-nil c.told ∙ l.told_is (s.was works); rest_is = s.rest_is; late = deed_late (Asks parts) client l.late };
          told_is = sym (append-nil sums.told);
          asked_is = s.asked_is;
          was = s.was;
        }

    finishes : Follows anchor Finishes client (record c { sent = c.sent ++ []; told = c.told ++ [] }) at sums
    finishes =
        let linked = stays client (c.told ++ []) unchanged l.late (λ works. append-nil c.told) in
        let late = l.late in
        let transport : client.transport ≡ Rfcomm = ap (λ (a : Anchor). a.transport) late.1 ∙ muxed in
        follows Finishes (c.told ++ [])
        (record {
          heard = linked.heard;
          unheard = linked.unheard;
          rest = linked.rest;
          coupled = linked.coupled;
          gone_is = linked.gone_is;
          told_is = linked.told_is;
          rest_is = λ works. linked.rest_is works ∙ sym (ap (λ (t : Transport). if is_object client.stage && not (is_direct t) then client.rest else []) transport ∙ ap (λ (b : Bool). if b && true then client.rest else []) works);
          late = deed_late Finishes client l.late;
        })
        refl refl (λ works. works)

    pub client_more : (deed : Deed) → AreCarried (carriage_after (OfClient deed) client c) → Follows anchor deed client (carriage_after (OfClient deed) client c) at sums
    client_more (Hears events.LinkUp) are = news_linked events.LinkUp (λ psm sdu e. let f : events.LinkUp ≡ events.Sdu psm sdu = e in cc) refl refl
    client_more (Hears (events.LinkDown reason)) are = news_linked (events.LinkDown reason) (λ psm sdu e. let f : events.LinkDown reason ≡ events.Sdu psm sdu = e in cc) refl refl
    client_more (Hears (events.LinkFailed status)) are = news_linked (events.LinkFailed status) (λ psm sdu e. let f : events.LinkFailed status ≡ events.Sdu psm sdu = e in cc) refl refl
    client_more (Hears (events.ChannelOpen p mtu)) are = news_linked (events.ChannelOpen p mtu) (λ psm sdu e. let f : events.ChannelOpen p mtu ≡ events.Sdu psm sdu = e in cc) refl refl
    client_more (Hears (events.ChannelClosed p cause)) are = news_linked (events.ChannelClosed p cause) (λ psm sdu e. let f : events.ChannelClosed p cause ≡ events.Sdu psm sdu = e in cc) refl refl
    client_more (Hears (events.Sdu psm sdu)) are = sdu_linked psm sdu are.back.0 are.back.1
    client_more (Hears events.FeaturesTold) are = news_linked events.FeaturesTold (λ psm sdu e. let f : events.FeaturesTold ≡ events.Sdu psm sdu = e in cc) refl refl
    client_more (Hears events.FeaturesLost) are = news_linked events.FeaturesLost (λ psm sdu e. let f : events.FeaturesLost ≡ events.Sdu psm sdu = e in cc) refl refl
    client_more (Hears events.Timer) are = news_linked events.Timer (λ psm sdu e. let f : events.Timer ≡ events.Sdu psm sdu = e in cc) refl refl
    client_more (Asks parts) are = asks_linked parts
    client_more Finishes are = finishes
    client_more Cancels are =
        let moved = cancels_stays client.mux client.rest (is_object client.stage) client unchanged in
        follows Cancels (c.told ++ []) (stays (deeds.done Cancels client) (c.told ++ []) moved (deed_late Cancels client l.late) (λ works. append-nil c.told)) refl refl moved.1
