-- The last link of a host, as the capture has it, is what the host was told and said on it.
use Rattle.std.proofs.Common.{inl, inr, ◌⊎◌, arith, ◌≡◌, ℕ, Bool, true, false, List, [], ◌∷◌, ◌++◌, map, Option, Some, None, refl, sym, ap, subst, ◌∙◌, append-nil, append_assoc}
use Rattle.std.specs.Prelude.{is_some, option_to_list}
use Rattle.std.specs.List.{AllByRecursion, flat_map}
use Rattle.std.specs.Option.{option_map}
use Rattle.std.proofs.lemmas.List.{map-append, same_from_push}
use Rattle.tape_laws.specs.push_terms.specs.declared.word.Side.{Side}
use Rattle.tape_laws.specs.capture.specs.declared.flow.Flow.TheVariants.{Out, Into}
use Rattle.tape_laws.specs.capture.specs.Entries.{Entry}
use Rattle.tape_laws.specs.capture.specs.Links.{Link, links, link_up}
use Rattle.tape_laws.specs.capture.specs.Pdus.{Pdu, pdus}
use Rattle.tape_laws.specs.link_talk.specs.declared.party.Party.{Party}
use Rattle.tape_laws.specs.link_talk.specs.ObjectsHeard.{objects as objects_on}
use Rattle.tape_laws.specs.link_talk.specs.Sayings.{said_by}
use Rattle.tape_laws.specs.world_model.specs.Machines.{Linked, Up, Down, Heard}
use Rattle.tape_laws.specs.world_model.specs.PerLink.{Linkage, no_linkage, pdus_of, with_moved, link_begins, link_ends, linkage_from, linkage}
use Rattle.tape_laws.specs.world_model.specs.Talks.{Talk, Told, Said, Unsent}
use Rattle.tape_laws.specs.host_laws.specs.Calm.{pdus_in}
use Rattle.tape_laws.specs.host_laws.specs.OverLinks.{parts_from, parts, talk_marks, moved_in, AreTimely}
use Rattle.tape_laws.specs.host_laws.specs.Spoken.{IsServed}
use Rattle.tape_laws.specs.host_laws.proofs.Spoken.{all-out}
use Rattle.tape_laws.specs.scenario_laws.specs.Coming.{out_of}
use Rattle.tape_laws.specs.scenario_laws.proofs.Coming.{captured_links}
use Rattle.tape_laws.specs.scenario_laws.proofs.Gaining.{all_spell, all-out as unsent-out}
use Rattle.tape_laws.specs.scenario_laws.proofs.Parting.{now_from, linkage_append, all_links, all_last}
use Rattle.tape_laws.specs.request_laws.proofs.Feeding.{all_ahead}
use Rattle.tape_laws.proofs.Falling.{IsCaptured, IsUnheard, unheard_out, up_after, up_linked, still_some, not_empty, some_parts, one_part, falls_last}

-- ---- a part in which nothing was heard

abbrev AreOut : List Pdu → Type 0
AreOut list = (outs : List (List ℕ)) × (list ≡ map out_of outs)

out_more : (list : List Pdu) (pdu : List ℕ) → AreOut list → AreOut (list ++ pdus_of Out (pdu ∷ []))
out_more list pdu (outs, is) = (outs ++ pdu ∷ [], ap (λ (l : List Pdu). l ++ out_of pdu ∷ []) is ∙ sym (map-append out_of outs (pdu ∷ [])))

-- what is said there spells nothing
pub out_spells : (party : Party) (list : List Pdu) → AreOut list → objects_on party (flat_map said_by list) ≡ []
out_spells party list (outs, is) = ap (λ (l : List Pdu). objects_on party (flat_map said_by l)) is ∙ all-out party (flat_map said_by (map out_of outs)) (unsent-out outs)

out_before : (pdu : List ℕ) (part : List Talk) → ((outs : List (List ℕ)) → flat_map pdus_in part ≡ map out_of outs → ⊥) → (outs : List (List ℕ)) → out_of pdu ∷ flat_map pdus_in part ≡ map out_of outs → ⊥
out_before pdu part some [] is = cc
out_before pdu part some (out ∷ outs) is = some outs (let rest : flat_map pdus_in part ≡ map out_of outs = cc in rest)

-- or something was
heard_or : (part : List Talk) → AllByRecursion IsUnheard part ⊎ ((outs : List (List ℕ)) → flat_map pdus_in part ≡ map out_of outs → ⊥)
heard_or [] = inl tt
heard_or (Told (Heard pdu) ∷ part) = inr heard
  where
    into : Pdu
    into = record { flow = Into; octets = pdu }

    heard : (outs : List (List ℕ)) → into ∷ flat_map pdus_in part ≡ map out_of outs → ⊥
    heard [] is = cc
    heard (out ∷ outs) is = let same : into ≡ out_of out = cc in let never : Into ≡ Out = ap (λ (p : Pdu). p.flow) same in cc
heard_or (Said pdu ∷ part) = elim (heard_or part) [ inl none ↦ inl (tt, none) | inr some ↦ inr (out_before pdu part some) ]
heard_or (Unsent pdu ∷ part) = elim (heard_or part) [ inl none ↦ inl (tt, none) | inr some ↦ inr (out_before pdu part some) ]
heard_or (one ∷ part) = elim (heard_or part) [ inl none ↦ inl (tt, none) | inr some ↦ inr some ]

-- ---- the link of such a part

-- where no link turns any more none is added
past_still : (l : Linkage) (part talk x : List Talk) → parts_from part talk ≡ x ∷ [] → (linkage_from l talk).past ≡ l.past
past_still l part [] x is = refl
past_still l part (Told (Linked event) ∷ talk) x is = let none : parts_from [] talk ≡ [] = cc in absurd (some_parts [] talk none)
past_still l part (Told (Heard pdu) ∷ talk) x is = past_still (with_moved Into (pdu ∷ []) l) (part ++ Told (Heard pdu) ∷ []) talk x is
past_still l part (Said pdu ∷ talk) x is = past_still (with_moved Out (pdu ∷ []) l) (part ++ Said pdu ∷ []) talk x is
past_still l part (one ∷ talk) x is = past_still l (part ++ one ∷ []) talk x is

-- what moved since the link came up, where nothing was heard in this part of it
abbrev IsQuietUp : Linkage → List Talk → Type 0
IsQuietUp l part = (now : List Pdu) → l.up ≡ Some now → AllByRecursion IsUnheard part → AreOut now

record LastOut (past : List (List Pdu)) : Type 0 where
  ahead : List (List Pdu)
  last : List Pdu
  past_are : past ≡ ahead ++ last ∷ []
  out : AreOut last

quiet_with : (l : Linkage) (part : List Talk) (one : Talk) → IsQuietUp l part → IsQuietUp l (part ++ one ∷ [])
quiet_with l part one quiet now up none = quiet now up (all_ahead IsUnheard part (one ∷ []) none).0

quiet_said : (pdu : List ℕ) (l : Linkage) (part : List Talk) → IsQuietUp l part → IsQuietUp (with_moved Out (pdu ∷ []) l) (part ++ Said pdu ∷ [])
quiet_said pdu l part quiet now up none = by l.up refl up
  where
    by : (found : Option (List Pdu)) → l.up ≡ found → option_map (λ (list : List Pdu). list ++ pdus_of Out (pdu ∷ [])) found ≡ Some now → AreOut now
    by None is up' = cc
    by (Some list) is up' = let same : list ++ pdus_of Out (pdu ∷ []) ≡ now = cc in subst AreOut same (out_more list pdu (quiet list is (all_ahead IsUnheard part (Said pdu ∷ []) none).0))

quiet_heard : (pdu : List ℕ) (l : Linkage) (part : List Talk) → IsQuietUp l (part ++ Told (Heard pdu) ∷ [])
quiet_heard pdu l part now up none = absurd (all_ahead IsUnheard part (Told (Heard pdu) ∷ []) none).1.0

quiet_begun : (l : Linkage) → IsQuietUp (link_begins l) []
quiet_begun l now up none = let same : [] ≡ now = cc in ([], sym same)

quiet_none : (l : Linkage) (part : List Talk) → l.up ≡ None → IsQuietUp l part
quiet_none l part none now up unheard = let never : None ≡ Some now = sym none ∙ up in absurd cc

up_there : (l : Linkage) → is_some l.up ≡ true → (now : List Pdu) × (l.up ≡ Some now)
up_there l is = by l.up refl is
  where
    by : (found : Option (List Pdu)) → l.up ≡ found → is_some found ≡ true → (now : List Pdu) × (l.up ≡ Some now)
    by None same some = cc
    by (Some now) same some = (now, same)

last_out : (up : Bool) (l : Linkage) (part talk : List Talk) (before : List (List Talk)) (one x : List Talk) → parts_from part talk ≡ before ++ one ∷ x ∷ [] → is_some l.up ≡ up → up_after up talk ≡ false → AreTimely up (flat_map talk_marks talk) → IsQuietUp l part → AllByRecursion IsUnheard one
    → LastOut (linkage_from l talk).past
last_out up l part [] [] one x is on off timely quiet none = absurd cc
last_out up l part [] (b ∷ before) one x is on off timely quiet none = let nothing : before ++ one ∷ x ∷ [] ≡ [] = cc in absurd (not_empty (before ++ one ∷ []) x (append_assoc before (one ∷ []) (x ∷ []) ∙ nothing))
last_out up l part (Told (Linked Up) ∷ talk) [] one x is on off timely quiet none =
    let rest : parts_from [] talk ≡ x ∷ [] = cc in
    absurd (let never : true ≡ false = sym (one_part true [] talk x rest) ∙ off in cc)
last_out up l part (Told (Linked Up) ∷ talk) (b ∷ before) one x is on off timely quiet none =
    let rest : parts_from [] talk ≡ before ++ one ∷ x ∷ [] = cc in last_out true (link_begins l) [] talk before one x rest refl off timely.1 (quiet_begun l) none
last_out up l part (Told (Linked (Down reason)) ∷ talk) [] one x is on off timely quiet none =
    let same : part ≡ one = cc in
    let rest : parts_from [] talk ≡ x ∷ [] = cc in
    let there = up_there l (on ∙ timely.0) in
    record {
      ahead = l.past;
      last = there.0;
      past_are = past_still (link_ends l) [] talk x rest ∙ ap (λ (found : Option (List Pdu)). l.past ++ option_to_list found) there.1;
      out = quiet there.0 there.1 (subst (AllByRecursion IsUnheard) (sym same) none);
    }
last_out up l part (Told (Linked (Down reason)) ∷ talk) (b ∷ before) one x is on off timely quiet none =
    let rest : parts_from [] talk ≡ before ++ one ∷ x ∷ [] = cc in last_out false (link_ends l) [] talk before one x rest refl off timely.1 (quiet_none (link_ends l) [] refl) none
last_out up l part (Told (Heard pdu) ∷ talk) before one x is on off timely quiet none =
    last_out up (with_moved Into (pdu ∷ []) l) (part ++ Told (Heard pdu) ∷ []) talk before one x is (still_some (λ (now : List Pdu). now ++ pdus_of Into (pdu ∷ [])) l.up ∙ on) off timely.1 (quiet_heard pdu (with_moved Into (pdu ∷ []) l) part) none
last_out up l part (Said pdu ∷ talk) before one x is on off timely quiet none =
    last_out up (with_moved Out (pdu ∷ []) l) (part ++ Said pdu ∷ []) talk before one x is (still_some (λ (now : List Pdu). now ++ pdus_of Out (pdu ∷ [])) l.up ∙ on) off timely (quiet_said pdu l part quiet) none
last_out up l part (other ∷ talk) before one x is on off timely quiet none = last_out up l (part ++ other ∷ []) talk before one x is on off timely (quiet_with l part other quiet) none

-- ---- the last link

-- it spells what this part of the talk does
pub record IsLastTalk (side : Side) (capture : List Entry) (part : List Talk) : Type 0 where
  pub ahead : List (List Pdu)
  pub link : List Pdu
  pub links_are : map pdus (links side capture) ≡ ahead ++ link ∷ []
  pub spells : (party : Party) → IsServed (moved_in part) → objects_on party (flat_map said_by link) ≡ objects_on party (moved_in part)

-- a link whose PDUs the part has, and behind them those that did not move
link_spells : (party : Party) (part : List Talk) (link : List Pdu) (unsent : List (List ℕ)) → flat_map pdus_in part ≡ link ++ map out_of unsent → IsServed (moved_in part) → objects_on party (flat_map said_by link) ≡ objects_on party (moved_in part)
link_spells party part link unsent is served =
    sym (append-nil (objects_on party (flat_map said_by link))) ∙ (sym (all_spell party (part ∷ []) (link ∷ []) (inr (link, [], unsent, refl, is, refl)) (served, tt)) ∙ append-nil (objects_on party (moved_in part)))

unsent_same : (l : Linkage) (waiting : List (List ℕ)) → linkage_from l (map Unsent waiting) ≡ l
unsent_same l [] = refl
unsent_same l (pdu ∷ waiting) = unsent_same l waiting

-- behind the part of the link that is up there is none, and behind that of one that is gone one more
abbrev pub IsBehind : (up : Bool) (rest : List (List Talk)) → Type 0
IsBehind true rest = rest ≡ []
IsBehind false rest = (x : List Talk) × (rest ≡ x ∷ [])

module _ (side : Side) (capture : List Entry) (talk : List Talk) (on : IsCaptured side capture talk) where
  is_moved : on.linked ≡ false → talk ≡ on.moved
  is_moved off = on.talk_is ∙ (ap (λ (w : List (List ℕ)). on.moved ++ map Unsent w) (on.none_waits off) ∙ append-nil on.moved)

  is_off : on.linked ≡ false → up_after false talk ≡ false
  is_off off = sym (up_linked no_linkage talk) ∙ (ap (λ (t : List Talk). is_some (linkage t).up) (is_moved off) ∙ ap is_some (on.parted.down off).1)

  last_off : on.linked ≡ false → (before : List (List Talk)) (part x : List Talk) → parts talk ≡ before ++ part ∷ x ∷ [] → AreTimely false (flat_map talk_marks talk) → IsLastTalk side capture part
  last_off off before part x are timely = elim (heard_or part) [
    | inr some ↦ (let found = falls_last side capture talk on before part (x ∷ []) are (omega arith) timely some in
        record {
          ahead = found.ahead;
          link = found.link;
          links_are = found.links_are;
          spells = λ party served. link_spells party part found.link found.unsent found.moved_is served;
        })
    | inl none ↦ (let moved = is_moved off in
        let last = last_out false no_linkage [] talk before part x are refl (is_off off) timely (quiet_none no_linkage [] refl) none in
        let outs = unheard_out part none in
        record {
          ahead = last.ahead;
          link = last.last;
          links_are = sym (ap all_links on.links_are ∙ captured_links side capture) ∙ (ap (λ (u : Option (List Pdu)). (linkage on.moved).past ++ option_to_list u) (on.parted.down off).1 ∙ (append-nil (linkage on.moved).past
              ∙ (ap (λ (t : List Talk). (linkage t).past) (sym moved) ∙ last.past_are)));
          spells = λ party served. out_spells party last.last last.out ∙ sym (out_spells party (flat_map pdus_in part) outs);
        })
  ]

  -- while it is up
  last_on : on.linked ≡ true → (before : List (List Talk)) (part : List Talk) → parts talk ≡ before ++ part ∷ [] → IsLastTalk side capture part
  last_on is before part are =
      let now = flat_map pdus_in (now_from [] on.moved) in
      let last = all_last on.linked on.moved on.waiting now on.parted (on.parted.up is) in
      let at = same_from_push before last.0 part last.1 (sym are ∙ (ap parts on.talk_is ∙ last.3)) in
      let moved_is : flat_map pdus_in part ≡ now ++ map out_of last.2 = ap (flat_map pdus_in) at.1 ∙ last.4 in
      record {
        ahead = (linkage on.moved).past;
        link = now;
        links_are = sym (ap all_links on.links_are ∙ captured_links side capture) ∙ ap (λ (u : Option (List Pdu)). (linkage on.moved).past ++ option_to_list u) (on.parted.up is);
        spells = λ party served. link_spells party part now last.2 moved_is served;
      }

  on_up : on.linked ≡ true → up_after false talk ≡ true
  on_up is =
      sym (up_linked no_linkage talk)
      ∙ (ap (λ (t : List Talk). is_some (linkage t).up) on.talk_is
      ∙ (ap (λ (l : Linkage). is_some l.up) (linkage_append no_linkage on.moved (map Unsent on.waiting) ∙ unsent_same (linkage on.moved) on.waiting) ∙ ap is_some (on.parted.up is)))

  -- by what was told, the capture has no link up
  pub is_unlinked : up_after false talk ≡ false → link_up side capture ≡ None
  is_unlinked off = by on.linked refl
    where
      none_of : (found : Option Link) → option_map pdus found ≡ None → found ≡ None
      none_of None is = refl
      none_of (Some link) is = cc

      by : (linked : Bool) → on.linked ≡ linked → link_up side capture ≡ None
      by true is = let never : true ≡ false = sym (on_up is) ∙ off in absurd cc
      by false is = none_of (link_up side capture) (sym (ap (λ (l : Linkage). l.up) on.links_are) ∙ (on.parted.down is).1)

  -- at any moment
  pub last_talk : (before : List (List Talk)) (part : List Talk) (rest : List (List Talk)) → parts talk ≡ before ++ part ∷ rest → IsBehind (up_after false talk) rest → AreTimely false (flat_map talk_marks talk) → IsLastTalk side capture part
  last_talk before part rest are behind timely = by on.linked refl
    where
      by : (linked : Bool) → on.linked ≡ linked → IsLastTalk side capture part
      by true is = let none : rest ≡ [] = subst (λ (b : Bool). IsBehind b rest) (on_up is) behind in last_on is before part (are ∙ ap (λ (ps : List (List Talk)). before ++ part ∷ ps) none)
      by false is = let one : IsBehind false rest = subst (λ (b : Bool). IsBehind b rest) (is_off is) behind in last_off is before part one.0 (are ∙ ap (λ (ps : List (List Talk)). before ++ part ∷ ps) one.1) timely
