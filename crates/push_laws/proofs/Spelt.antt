-- Push after push, what is spelled is spelled of one push.
use Rattle.std.proofs.Common.{ℕ, Bool, true, false, ◌≡◌, List, [], ◌∷◌, ◌++◌, refl, sym, ap, subst, ◌∙◌, append_assoc, append-nil, inl, inr}
use Rattle.std.specs.Prelude.{◌⊎◌}
use Rattle.std.specs.List.{flat_map}
use Rattle.link_talk.specs.capture.proofs.HistoryLaws.{given_by-more}
use Rattle.link_talk.specs.bt_base.specs.declared.settings.Settings.{Settings}
use Rattle.link_talk.specs.bt_base.specs.declared.settings.Transport.{Transport}
use Rattle.link_talk.specs.bt_base.specs.declared.settings.Transport.TheVariants.{L2cap, Rfcomm}
use Rattle.link_talk.specs.bt_base.specs.Objects.{Object}
use Rattle.link_talk.specs.Gains.{beyond, gained}
use Rattle.link_talk.specs.ObjectsHeard.{spelled_within}
use Rattle.push_model.specs.Client.{own_maximum}
use Rattle.push_model.specs.Sessions.{other_of}
use Rattle.push_laws.specs.Gains.{objects_over, objects_with, objects}
use Rattle.push_laws.specs.Occurrences.{Occurrence}
use Rattle.push_laws.specs.Parties.{Push, server_side, ended_with, over_pushes}
use Rattle.push_laws.specs.Readings.{packets_over}
use Rattle.push_laws.specs.Spelled.{ArePushed, name_of, names_of}
use Rattle.push_laws.proofs.Among.{none_pushed, both_pushed}
use Rattle.push_laws.proofs.Keeping.{nothing_beyond}
use Rattle.push_laws.proofs.Losses.{spelled_more}

none_of : (xs : List Object) → beyond xs [] ≡ []
none_of [] = refl
none_of (x ∷ xs) = refl

module _ (settings : Settings) (t : Transport) where
  -- what one occurrence more spells, where over the other transport none are heard
  alone_with : (past : List Occurrence) (one : Occurrence) → packets_over (other_of t) past ≡ [] → packets_over (other_of t) (past ++ one ∷ []) ≡ []
      → objects settings (past ++ one ∷ []) ≡ objects settings past ++ gained (objects_over settings t) past one
  alone_with past one none later = given_by-more (objects_with settings) past one ∙ ap (λ (os : List Object). objects settings past ++ os) (by t none later)
    where
      other : (line : Transport) → packets_over line past ≡ [] → packets_over line (past ++ one ∷ []) ≡ [] → gained (objects_over settings line) past one ≡ []
      other line was is = nothing_beyond (objects_over settings line past) (objects_over settings line (past ++ one ∷ [])) (ap (spelled_within (own_maximum line settings)) (is ∙ sym was))

      by : (line : Transport) → packets_over (other_of line) past ≡ [] → packets_over (other_of line) (past ++ one ∷ []) ≡ [] → objects_with settings past one ≡ gained (objects_over settings line) past one
      by L2cap was is = ap (λ (os : List Object). gained (objects_over settings L2cap) past one ++ os) (other Rfcomm was is) ∙ append-nil (gained (objects_over settings L2cap) past one)
      by Rfcomm was is = ap (λ (os : List Object). os ++ gained (objects_over settings Rfcomm) past one) (other L2cap was is)

  module _ (Once : List Object → Type 0) where
    -- packets come behind those that came, and of all of them an object is spelled, or none
    abbrev pub Goes : List Occurrence → Occurrence → Type 0
    Goes past one = (new : List (List ℕ)) × (packets_over t (past ++ one ∷ []) ≡ packets_over t past ++ new) × Once (objects_over settings t (past ++ one ∷ []))

    -- so it is until no more come; and over the other transport none are heard
    abbrev pub Spells : (over : Bool) → List Occurrence → List Occurrence → Type 0
    Spells over past [] = Unit {0}
    Spells true past (one ∷ rest) = (packets_over (other_of t) (past ++ one ∷ []) ≡ []) × (packets_over t (past ++ one ∷ []) ≡ []) × Spells true (past ++ one ∷ []) rest
    Spells false past (one ∷ rest) =
        (packets_over (other_of t) (past ++ one ∷ []) ≡ []) × ((Goes past one × Spells false (past ++ one ∷ []) rest) ⊎ ((packets_over t (past ++ one ∷ []) ≡ []) × Spells true (past ++ one ∷ []) rest))

    -- what is spelled of them, behind what was
    pub record Spelt (ahead : List Object) (past occurrences : List Occurrence) : Type 0 where
      pub here : List Object
      pub spelled : objects settings (past ++ occurrences) ≡ ahead ++ here
      pub once : Once here
      pub apart : packets_over (other_of t) (past ++ occurrences) ≡ []

    -- what was spelled of them so far
    abbrev IsSoFar : Bool → List Occurrence → List Object → Type 0
    IsSoFar false past had = had ≡ objects_over settings t past
    IsSoFar true past had = packets_over t past ≡ []

    ends_with : (ahead had : List Object) (past : List Occurrence) (one : Occurrence) → objects settings past ≡ ahead ++ had → packets_over (other_of t) past ≡ [] → packets_over (other_of t) (past ++ one ∷ []) ≡ [] → packets_over t (past ++ one ∷ []) ≡ []
        → objects settings (past ++ one ∷ []) ≡ ahead ++ had
    ends_with ahead had past one is was later ended =
        alone_with past one was later
        ∙ (ap (λ (os : List Object). objects settings past ++ os) (ap (λ (ps : List (List ℕ)). beyond (objects_over settings t past) (spelled_within (own_maximum t settings) ps)) ended ∙ none_of (objects_over settings t past))
        ∙ (append-nil (objects settings past) ∙ is))

    goes_with : (ahead had : List Object) (past : List Occurrence) (one : Occurrence) → objects settings past ≡ ahead ++ had → had ≡ objects_over settings t past → packets_over (other_of t) past ≡ [] → packets_over (other_of t) (past ++ one ∷ []) ≡ [] → Goes past one
        → objects settings (past ++ one ∷ []) ≡ ahead ++ objects_over settings t (past ++ one ∷ [])
    goes_with ahead had past one is had_is was later goes =
        let most = own_maximum t settings in
        let old = packets_over t past in
        alone_with past one was later
        ∙ (ap (λ (os : List Object). os ++ gained (objects_over settings t) past one) (is ∙ ap (λ (os : List Object). ahead ++ os) had_is)
        ∙ (append_assoc ahead (objects_over settings t past) (gained (objects_over settings t) past one)
        ∙ ap (λ (os : List Object). ahead ++ os)
        (ap (λ (ps : List (List ℕ)). spelled_within most old ++ beyond (spelled_within most old) (spelled_within most ps)) goes.1
        ∙ (spelled_more most old goes.0 ∙ ap (spelled_within most) (sym goes.1)))))

    on : (ahead : List Object) (past : List Occurrence) (one : Occurrence) (rest : List Occurrence) → Spelt ahead (past ++ one ∷ []) rest → Spelt ahead past (one ∷ rest)
    on ahead past one rest later =
        let same = append_assoc past (one ∷ []) rest in
        record { here = later.here; spelled = ap (objects settings) (sym same) ∙ later.spelled; once = later.once; apart = ap (packets_over (other_of t)) (sym same) ∙ later.apart }

    walked : (ahead : List Object) (over : Bool) (occurrences past : List Occurrence) (had : List Object) → objects settings past ≡ ahead ++ had → Once had → IsSoFar over past had → packets_over (other_of t) past ≡ [] → Spells over past occurrences → Spelt ahead past occurrences
    walked ahead over [] past had is once so was spells =
        let same = append-nil past in
        record { here = had; spelled = ap (objects settings) same ∙ is; once = once; apart = ap (packets_over (other_of t)) same ∙ was }
    walked ahead true (one ∷ rest) past had is once so was (later, ended, spells) =
        on ahead past one rest (walked ahead true rest (past ++ one ∷ []) had (ends_with ahead had past one is was later ended) once ended later spells)
    walked ahead false (one ∷ rest) past had is once so was (later, inl (goes, spells)) =
        on ahead past one rest (walked ahead false rest (past ++ one ∷ []) (objects_over settings t (past ++ one ∷ [])) (goes_with ahead had past one is so was later goes) goes.2 refl later spells)
    walked ahead false (one ∷ rest) past had is once so was (later, inr (ended, spells)) =
        on ahead past one rest (walked ahead true rest (past ++ one ∷ []) had (ends_with ahead had past one is was later ended) once ended later spells)

    pub spelt_of : (past occurrences : List Occurrence) → Once [] → packets_over t past ≡ [] → packets_over (other_of t) past ≡ [] → Spells false past occurrences → Spelt (objects settings past) past occurrences
    spelt_of past occurrences none here there spells =
        walked (objects settings past) false occurrences past [] (sym (append-nil (objects settings past))) none (sym (ap (spelled_within (own_maximum t settings)) here)) there spells

  -- ---- push after push

  -- so it is of each push; and behind the end of its link nothing is heard
  abbrev pub AllSpell : (Once : Push → List Object → Type 0) (pushes : List Push) (last : Push) → List Occurrence → Type 0
  AllSpell Once [] last past = Spells (Once last) false past (server_side last.moves)
  AllSpell Once (push ∷ pushes) last past = Spells (Once push) false past (ended_with push) × (packets_over t (past ++ ended_with push) ≡ []) × AllSpell Once pushes last (past ++ ended_with push)

  pub record AllSpelt (shelf : List Object) (pushes : List Push) (last : Push) (past : List Occurrence) : Type 0 where
    pub here : List Object
    pub spelled : objects settings (past ++ over_pushes pushes last) ≡ objects settings past ++ here
    pub once : ArePushed shelf (names_of (pushes ++ last ∷ [])) here

  pub all_spelt : (shelf : List Object) (pushes : List Push) (last : Push) (past : List Occurrence) → packets_over t past ≡ [] → packets_over (other_of t) past ≡ [] → AllSpell (λ (push : Push). ArePushed shelf (name_of push)) pushes last past → AllSpelt shelf pushes last past
  all_spelt shelf [] last past here there spells =
      let one = spelt_of (ArePushed shelf (name_of last)) past (server_side last.moves) (none_pushed shelf (name_of last)) here there spells in
      record { here = one.here; spelled = one.spelled; once = subst (λ (ns : List (List ℕ)). ArePushed shelf ns one.here) (sym (append-nil (name_of last))) one.once }
  all_spelt shelf (push ∷ pushes) last past here there (spells, none, others) =
      let one = spelt_of (ArePushed shelf (name_of push)) past (ended_with push) (none_pushed shelf (name_of push)) here there spells in
      let rest = all_spelt shelf pushes last (past ++ ended_with push) none one.apart others in
      let whole : past ++ over_pushes (push ∷ pushes) last ≡ (past ++ ended_with push) ++ over_pushes pushes last =
      ap (λ (os : List Occurrence). past ++ os) (append_assoc (ended_with push) (flat_map ended_with pushes) (server_side last.moves)) ∙ sym (append_assoc past (ended_with push) (over_pushes pushes last)) in
      record {
        here = one.here ++ rest.here;
        spelled = ap (objects settings) whole ∙ (rest.spelled ∙ (ap (λ (os : List Object). os ++ rest.here) one.spelled ∙ append_assoc (objects settings past) one.here rest.here));
        once = both_pushed shelf (name_of push) (names_of (pushes ++ last ∷ [])) one.here rest.here one.once rest.once;
      }
