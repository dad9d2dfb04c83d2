-- What a host was told and said last falls to the last link that the capture has of it.
use Rattle.std.proofs.Common.{arith, ◌≡◌, ◌≤◌, ℕ, Bool, true, false, List, [], ◌∷◌, ◌++◌, length, map, Option, Some, None, inl, inr, refl, sym, ap, subst, ◌∙◌, append-nil, append_assoc}
use Rattle.std.specs.Prelude.{is_some, option_to_list}
use Rattle.std.specs.List.{AllByRecursion, flat_map}
use Rattle.std.specs.Option.{option_map}
use Rattle.std.proofs.lemmas.List.{same_from_push}
use Rattle.inbox_laws.specs.push_terms.specs.declared.word.Side.{Side}
use Rattle.inbox_laws.specs.capture.specs.declared.flow.Flow.TheVariants.{Out, Into}
use Rattle.inbox_laws.specs.capture.specs.Entries.{Entry}
use Rattle.inbox_laws.specs.capture.specs.Links.{Linking, linking, links}
use Rattle.inbox_laws.specs.capture.specs.Moves.{moves}
use Rattle.inbox_laws.specs.capture.specs.Pdus.{Pdu, pdus}
use Rattle.inbox_laws.specs.world_model.specs.Machines.{Linked, Up, Down, Heard}
use Rattle.inbox_laws.specs.world_model.specs.PerLink.{Linkage, no_linkage, pdus_of, with_moved, link_begins, link_ends, linkage_from, linkage, captured}
use Rattle.inbox_laws.specs.world_model.specs.Talks.{Talk, Told, Said, Unsent}
use Rattle.inbox_laws.specs.host_laws.specs.Calm.{pdus_in}
use Rattle.inbox_laws.specs.host_laws.specs.OverLinks.{parts_from, parts, talk_marks, AreTimely}
use Rattle.inbox_laws.specs.scenario_laws.specs.Coming.{out_of, FallTo}
use Rattle.inbox_laws.specs.scenario_laws.proofs.Coming.{captured_links}
use Rattle.inbox_laws.specs.scenario_laws.proofs.Parting.{past_from, now_from, parts_are, Parted, linkage_append, all_links, all_last}
use Rattle.request_laws.proofs.Feeding.{all_both}

-- what a host was told and said, and what waits, link by link as the capture has it
pub record IsCaptured (side : Side) (capture : List Entry) (talk : List Talk) : Type 0 where
  pub linked : Bool
  pub moved : List Talk
  pub waiting : List (List ℕ)
  pub talk_is : talk ≡ moved ++ map Unsent waiting
  pub parted : Parted linked moved
  pub links_are : linkage moved ≡ captured side capture
  pub none_waits : linked ≡ false → waiting ≡ []

abbrev captured_of : Linking → Linkage
captured_of known = record { past = map pdus known.past; up = option_map pdus known.up }

pub same_captured : (side : Side) (past capture : List Entry) → linking (moves side capture) ≡ linking (moves side past) → captured side past ≡ captured side capture
same_captured side past capture same = ap captured_of (sym same)

-- ---- whether a link is up

abbrev pub up_after : Bool → List Talk → Bool
up_after up [] = up
up_after up (Told (Linked Up) ∷ talk) = up_after true talk
up_after up (Told (Linked (Down reason)) ∷ talk) = up_after false talk
up_after up (one ∷ talk) = up_after up talk

pub still_some : {X Y : Type 0} (f : X → Y) (found : Option X) → is_some (option_map f found) ≡ is_some found
still_some f None = refl
still_some f (Some x) = refl

pub up_linked : (l : Linkage) (talk : List Talk) → is_some (linkage_from l talk).up ≡ up_after (is_some l.up) talk
up_linked l [] = refl
up_linked l (Told (Linked Up) ∷ talk) = up_linked (link_begins l) talk
up_linked l (Told (Linked (Down reason)) ∷ talk) = up_linked (link_ends l) talk
up_linked l (Told (Heard pdu) ∷ talk) = up_linked (with_moved Into (pdu ∷ []) l) talk ∙ ap (λ (b : Bool). up_after b talk) (still_some (λ (now : List Pdu). now ++ pdus_of Into (pdu ∷ [])) l.up)
up_linked l (Said pdu ∷ talk) = up_linked (with_moved Out (pdu ∷ []) l) talk ∙ ap (λ (b : Bool). up_after b talk) (still_some (λ (now : List Pdu). now ++ pdus_of Out (pdu ∷ [])) l.up)
up_linked l (one ∷ talk) = up_linked l talk

pub not_empty : {X : Type 0} (xs : List X) (x : X) → xs ++ x ∷ [] ≡ [] → ⊥
not_empty [] x is = cc
not_empty (y ∷ xs) x is = cc

pub some_parts : (part talk : List Talk) → parts_from part talk ≡ [] → ⊥
some_parts part talk is = not_empty (past_from part talk) (now_from part talk) (sym (parts_are part talk) ∙ is)

-- with one part alone it stays as it was
pub one_part : (up : Bool) (part talk x : List Talk) → parts_from part talk ≡ x ∷ [] → up_after up talk ≡ up
one_part up part [] x is = refl
one_part up part (Told (Linked event) ∷ talk) x is = let none : parts_from [] talk ≡ [] = cc in absurd (some_parts [] talk none)
one_part up part (one ∷ talk) x is = one_part up (part ++ one ∷ []) talk x is

-- ---- what is heard between two links

abbrev pub IsUnheard : Talk → Type 0
IsUnheard (Told (Heard pdu)) = ⊥
IsUnheard one = Unit {0}

pub unheard_out : (part : List Talk) → AllByRecursion IsUnheard part → (outs : List (List ℕ)) × (flat_map pdus_in part ≡ map out_of outs)
unheard_out [] none = ([], refl)
unheard_out (Told (Heard pdu) ∷ part) none = absurd none.0
unheard_out (Said pdu ∷ part) none = let rest = unheard_out part none.1 in (pdu ∷ rest.0, ap (λ (l : List Pdu). out_of pdu ∷ l) rest.1)
unheard_out (Unsent pdu ∷ part) none = let rest = unheard_out part none.1 in (pdu ∷ rest.0, ap (λ (l : List Pdu). out_of pdu ∷ l) rest.1)
unheard_out (one ∷ part) none = unheard_out part none.1

-- ahead of the link that is up no PDU was heard since the one before it
off_unheard : (up : Bool) (part talk : List Talk) (before : List (List Talk)) (one x : List Talk) → parts_from part talk ≡ before ++ one ∷ x ∷ [] → up_after up talk ≡ true → AreTimely up (flat_map talk_marks talk) → (up ≡ false → AllByRecursion IsUnheard part) → AllByRecursion IsUnheard one
off_unheard up part [] [] one x is on timely off = absurd cc
off_unheard up part [] (b ∷ before) one x is on timely off = let none : before ++ one ∷ x ∷ [] ≡ [] = cc in absurd (not_empty (before ++ one ∷ []) x (append_assoc before (one ∷ []) (x ∷ []) ∙ none))
off_unheard up part (Told (Linked Up) ∷ talk) [] one x is on timely off = let same : part ≡ one = cc in subst (AllByRecursion IsUnheard) same (off timely.0)
off_unheard up part (Told (Linked Up) ∷ talk) (b ∷ before) one x is on timely off = let rest : parts_from [] talk ≡ before ++ one ∷ x ∷ [] = cc in off_unheard true [] talk before one x rest on timely.1 (λ no. tt)
off_unheard up part (Told (Linked (Down reason)) ∷ talk) [] one x is on timely off =
    let rest : parts_from [] talk ≡ x ∷ [] = cc in
    absurd (let never : false ≡ true = sym (one_part false [] talk x rest) ∙ on in cc)
off_unheard up part (Told (Linked (Down reason)) ∷ talk) (b ∷ before) one x is on timely off = let rest : parts_from [] talk ≡ before ++ one ∷ x ∷ [] = cc in off_unheard false [] talk before one x rest on timely.1 (λ no. tt)
off_unheard up part (Told (Heard pdu) ∷ talk) before one x is on timely off =
    off_unheard up (part ++ Told (Heard pdu) ∷ []) talk before one x is on timely.1 (λ no. absurd (let never : true ≡ false = sym timely.0 ∙ no in cc))
off_unheard up part (other ∷ talk) before one x is on timely off = off_unheard up (part ++ other ∷ []) talk before one x is on timely (λ no. all_both IsUnheard part (other ∷ []) (off no) (tt, tt))

-- ---- the last link

-- the last part that has PDUs of a link
last_falls : (before : List (List Talk)) (part : List Talk) (links : List (List Pdu)) → FallTo (before ++ part ∷ []) links → (flat_map pdus_in part ≡ [] → ⊥)
    → (ahead : List (List Pdu)) × (link : List Pdu) × (unsent : List (List ℕ)) × (links ≡ ahead ++ link ∷ []) × (flat_map pdus_in part ≡ link ++ map out_of unsent)
last_falls [] part links (inl (none, more)) some = absurd (some none)
last_falls [] part links (inr (link, rest, unsent, is, moved, more)) some = ([], link, unsent, is ∙ ap (λ (l : List (List Pdu)). link ∷ l) more, moved)
last_falls (first ∷ before) part links (inl (none, more)) some = last_falls before part links more some
last_falls (first ∷ before) part links (inr (link, rest, unsent, is, moved, more)) some =
    let later = last_falls before part rest more some in (link ∷ later.0, later.1, later.2, is ∙ ap (λ (l : List (List Pdu)). link ∷ l) later.3, later.4)

-- this part has the PDUs of the last link, and behind them those that it said and that did not move
pub record IsLastLink (side : Side) (capture : List Entry) (part : List Talk) : Type 0 where
  pub ahead : List (List Pdu)
  pub link : List Pdu
  pub unsent : List (List ℕ)
  pub links_are : map pdus (links side capture) ≡ ahead ++ link ∷ []
  pub moved_is : flat_map pdus_in part ≡ link ++ map out_of unsent

module _ (side : Side) (capture : List Entry) (talk : List Talk) (on : IsCaptured side capture talk) where
  abbrev Has : Option (List Pdu) → Type 0
  Has up = map pdus (links side capture) ≡ (linkage on.moved).past ++ option_to_list up

  all_are : (up : Option (List Pdu)) → (linkage on.moved).up ≡ up → Has up
  all_are up is = sym (ap all_links on.links_are ∙ captured_links side capture) ∙ ap (λ (u : Option (List Pdu)). (linkage on.moved).past ++ option_to_list u) is

  off_parts : on.linked ≡ false → parts talk ≡ past_from [] on.moved ++ now_from [] on.moved ∷ []
  off_parts off = ap parts (on.talk_is ∙ (ap (λ (w : List (List ℕ)). on.moved ++ map Unsent w) (on.none_waits off) ∙ append-nil on.moved)) ∙ parts_are [] on.moved

  unsent_same : (l : Linkage) (waiting : List (List ℕ)) → linkage_from l (map Unsent waiting) ≡ l
  unsent_same l [] = refl
  unsent_same l (pdu ∷ waiting) = unsent_same l waiting

  is_up : on.linked ≡ true → up_after false talk ≡ true
  is_up up =
      sym (up_linked no_linkage talk)
      ∙ (ap (λ (t : List Talk). is_some (linkage t).up) on.talk_is
      ∙ (ap (λ (l : Linkage). is_some l.up) (linkage_append no_linkage on.moved (map Unsent on.waiting) ∙ unsent_same (linkage on.moved) on.waiting) ∙ ap is_some (on.parted.up up)))

  -- so it is of each part in which a PDU was heard that is the last one, or the last but one with no link since
  pub falls_last : (before : List (List Talk)) (part : List Talk) (after : List (List Talk)) → parts talk ≡ before ++ part ∷ after → length after ≤ 1 → AreTimely false (flat_map talk_marks talk) → ((outs : List (List ℕ)) → flat_map pdus_in part ≡ map out_of outs → ⊥)
      → IsLastLink side capture part
  falls_last before part after are few timely some = by on.linked after refl are few
    where
      by : (linked : Bool) (after : List (List Talk)) → on.linked ≡ linked → parts talk ≡ before ++ part ∷ after → length after ≤ 1 → IsLastLink side capture part
      by false [] off is few =
          let at = same_from_push before (past_from [] on.moved) part (now_from [] on.moved) (sym is ∙ off_parts off) in
          absurd (some [] (ap (flat_map pdus_in) at.1 ∙ (on.parted.down off).0))
      by false (x ∷ []) off is few =
          let at = same_from_push (before ++ part ∷ []) (past_from [] on.moved) x (now_from [] on.moved) (append_assoc before (part ∷ []) (x ∷ []) ∙ (sym is ∙ off_parts off)) in
          let fall : FallTo (before ++ part ∷ []) (linkage on.moved).past = subst (λ (ps : List (List Talk)). FallTo ps (linkage on.moved).past) (sym at.0) on.parted.past in
          let found = last_falls before part (linkage on.moved).past fall (λ none. some [] none) in
          record { ahead = found.0; link = found.1; unsent = found.2; links_are = all_are None (on.parted.down off).1 ∙ (append-nil (linkage on.moved).past ∙ found.3); moved_is = found.4 }
      by true [] up is few =
          let now = flat_map pdus_in (now_from [] on.moved) in
          let last = all_last on.linked on.moved on.waiting now on.parted (on.parted.up up) in
          let at = same_from_push before last.0 part last.1 (sym is ∙ (ap parts on.talk_is ∙ last.3)) in
          record { ahead = (linkage on.moved).past; link = now; unsent = last.2; links_are = all_are (Some now) (on.parted.up up); moved_is = ap (flat_map pdus_in) at.1 ∙ last.4 }
      by true (x ∷ []) up is few =
          let outs = unheard_out part (off_unheard false [] talk before part x is (is_up up) timely (λ no. tt)) in
          absurd (some outs.0 outs.1)
      by linked (x ∷ y ∷ after) up is few = absurd (omega (arith, few))
