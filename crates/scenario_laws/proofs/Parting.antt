-- What a host was told and said falls to its links: to those that the capture has.
use Rattle.std.proofs.Common.{◌≡◌, ℕ, inl, inr, Bool, true, false, cond, List, [], ◌∷◌, ◌++◌, map, Option, Some, None, option_to_list, refl, sym, ap, subst, ◌∙◌, append_assoc}
use Rattle.std.specs.List.{AllByRecursion, flat_map}
use Rattle.std.proofs.lemmas.List.{append-nil}
use Rattle.std.proofs.lemmas.List.Concat.{flat_map-append}
use Rattle.radio_world.specs.capture.specs.Pdus.{Pdu}
use Rattle.host_laws.specs.world_model.specs.Machines.{LinkEvent, Up, Down, Linked}
use Rattle.host_laws.specs.world_model.specs.Talks.{Talk, Told, Unsent}
use Rattle.host_laws.specs.world_model.specs.PerLink.{Linkage, no_linkage, linkage_after, linkage_from, linkage}
use Rattle.host_laws.specs.turn_laws.proofs.Linkages.{linkage_ended}
use Rattle.host_laws.specs.Calm.{pdus_in}
use Rattle.host_laws.specs.OverLinks.{turns_link, parts_from, parts}
use Rattle.scenario_laws.specs.Coming.{out_of, FallTo, LastHas}

-- ---- up to the last time that the link turned, and since

abbrev pub past_from : (part talk : List Talk) → List (List Talk)
past_from part [] = []
past_from part (one ∷ talk) = cond (turns_link one) (part ∷ past_from [] talk) (past_from (part ++ one ∷ []) talk)

abbrev pub now_from : (part talk : List Talk) → List Talk
now_from part [] = part
now_from part (one ∷ talk) = cond (turns_link one) (now_from [] talk) (now_from (part ++ one ∷ []) talk)

-- by a test, each way
same_by : {X : Type 0} (b : Bool) (x x' y y' : X) → x ≡ x' → y ≡ y' → cond b x y ≡ cond b x' y'
same_by true x x' y y' one other = one
same_by false x x' y y' one other = other

same_cut : (b : Bool) (x y past past' : List (List Talk)) (now now' : List Talk) → x ≡ past ++ now ∷ [] → y ≡ past' ++ now' ∷ [] → cond b x y ≡ cond b past past' ++ cond b now now' ∷ []
same_cut true x y past past' now now' one other = one
same_cut false x y past past' now now' one other = other

pub parts_are : (part talk : List Talk) → parts_from part talk ≡ past_from part talk ++ now_from part talk ∷ []
parts_are part [] = refl
parts_are part (one ∷ talk) =
    same_cut (turns_link one) (part ∷ parts_from [] talk) (parts_from (part ++ one ∷ []) talk) (part ∷ past_from [] talk) (past_from (part ++ one ∷ []) talk) (now_from [] talk) (now_from (part ++ one ∷ []) talk)
    (ap (λ (l : List (List Talk)). part ∷ l) (parts_are [] talk)) (parts_are (part ++ one ∷ []) talk)

-- talk that turns no link stays with the last part
abbrev pub IsAside : Talk → Type 0
IsAside one = turns_link one ≡ false

now_aside : (part more : List Talk) → AllByRecursion IsAside more → now_from part more ≡ part ++ more
now_aside part [] aside = sym (append-nil part)
now_aside part (one ∷ more) aside = ap (λ (b : Bool). cond b (now_from [] more) (now_from (part ++ one ∷ []) more)) aside.0 ∙ (now_aside (part ++ one ∷ []) more aside.1 ∙ append_assoc part (one ∷ []) more)

past_aside : (part more : List Talk) → AllByRecursion IsAside more → past_from part more ≡ []
past_aside part [] aside = refl
past_aside part (one ∷ more) aside = ap (λ (b : Bool). cond b (part ∷ past_from [] more) (past_from (part ++ one ∷ []) more)) aside.0 ∙ past_aside (part ++ one ∷ []) more aside.1

same_with : (b : Bool) (x y x' y' more : List Talk) → x ≡ x' ++ more → y ≡ y' ++ more → cond b x y ≡ cond b x' y' ++ more
same_with true x y x' y' more one other = one
same_with false x y x' y' more one other = other

pub now_more : (part talk more : List Talk) → AllByRecursion IsAside more → now_from part (talk ++ more) ≡ now_from part talk ++ more
now_more part [] more aside = now_aside part more aside
now_more part (one ∷ talk) more aside =
    same_with (turns_link one) (now_from [] (talk ++ more)) (now_from (part ++ one ∷ []) (talk ++ more)) (now_from [] talk) (now_from (part ++ one ∷ []) talk) more (now_more [] talk more aside) (now_more (part ++ one ∷ []) talk more aside)

past_more : (part talk more : List Talk) → AllByRecursion IsAside more → past_from part (talk ++ more) ≡ past_from part talk
past_more part [] more aside = past_aside part more aside
past_more part (one ∷ talk) more aside =
    same_by (turns_link one) (part ∷ past_from [] (talk ++ more)) (part ∷ past_from [] talk) (past_from (part ++ one ∷ []) (talk ++ more)) (past_from (part ++ one ∷ []) talk)
    (ap (λ (l : List (List Talk)). part ∷ l) (past_more [] talk more aside)) (past_more (part ++ one ∷ []) talk more aside)

-- and talk that turns it begins the next
now_turned : (part talk : List Talk) (event : LinkEvent) → now_from part (talk ++ Told (Linked event) ∷ []) ≡ []
now_turned part [] event = refl
now_turned part (one ∷ talk) event =
    same_by (turns_link one) (now_from [] (talk ++ Told (Linked event) ∷ [])) [] (now_from (part ++ one ∷ []) (talk ++ Told (Linked event) ∷ [])) [] (now_turned [] talk event) (now_turned (part ++ one ∷ []) talk event)
    ∙ same_both (turns_link one)
  where
    same_both : (b : Bool) → (let none : List Talk = [] in cond b none none ≡ none)
    same_both true = refl
    same_both false = refl

past_turned : (part talk : List Talk) (event : LinkEvent) → past_from part (talk ++ Told (Linked event) ∷ []) ≡ past_from part talk ++ now_from part talk ∷ []
past_turned part [] event = refl
past_turned part (one ∷ talk) event =
    same_cut (turns_link one) (part ∷ past_from [] (talk ++ Told (Linked event) ∷ [])) (past_from (part ++ one ∷ []) (talk ++ Told (Linked event) ∷ [])) (part ∷ past_from [] talk) (past_from (part ++ one ∷ []) talk)
    (now_from [] talk) (now_from (part ++ one ∷ []) talk) (ap (λ (l : List (List Talk)). part ∷ l) (past_turned [] talk event)) (past_turned (part ++ one ∷ []) talk event)

-- ---- parts fall to links

fall_silent : (parts : List (List Talk)) (part : List Talk) (links : List (List Pdu)) → flat_map pdus_in part ≡ [] → FallTo parts links → FallTo (parts ++ part ∷ []) links
fall_silent [] part links none fall = inl (none, fall)
fall_silent (first ∷ parts) part links none fall =
    elim fall [ inl (silent, more) ↦ inl (silent, fall_silent parts part links none more) | inr (link, rest, unsent, is, moved, more) ↦ inr (link, rest, unsent, is, moved, fall_silent parts part rest none more) ]

fall_linked : (parts : List (List Talk)) (part : List Talk) (links : List (List Pdu)) (link : List Pdu) (unsent : List (List ℕ)) → flat_map pdus_in part ≡ link ++ map out_of unsent → FallTo parts links → FallTo (parts ++ part ∷ []) (links ++ link ∷ [])
fall_linked [] part links link unsent moved fall = inr (link, [], unsent, ap (λ (l : List (List Pdu)). l ++ link ∷ []) fall, moved, refl)
fall_linked (first ∷ parts) part links link unsent moved fall =
    elim fall [
      | inl (silent, more) ↦ inl (silent, fall_linked parts part links link unsent moved more)
      | inr (one, rest, others, is, before, more) ↦ inr (one, rest ++ link ∷ [], others, ap (λ (l : List (List Pdu)). l ++ link ∷ []) is, before, fall_linked parts part rest link unsent moved more)
    ]

-- of all that a host was told and said
pub record Parted (linked : Bool) (talk : List Talk) : Type 0 where
  pub past : FallTo (past_from [] talk) (linkage talk).past
  pub up : linked ≡ true → (linkage talk).up ≡ Some (flat_map pdus_in (now_from [] talk))
  pub down : linked ≡ false → (flat_map pdus_in (now_from [] talk) ≡ []) × ((linkage talk).up ≡ None)

pub first_parted : Parted false []
first_parted = record { past = refl; up = λ on. cc; down = λ off. (refl, refl) }

-- ---- more talk

-- talk that turns no link, and what it adds to the link that is up
pub record Stays (more : List Talk) : Type 0 where
  pub aside : AllByRecursion IsAside more
  pub past : (l : Linkage) → (linkage_from l more).past ≡ l.past
  pub up : (l : Linkage) (now : List Pdu) → l.up ≡ Some now → (linkage_from l more).up ≡ Some (now ++ flat_map pdus_in more)
  pub none : (l : Linkage) → l.up ≡ None → (linkage_from l more).up ≡ None

pub linkage_append : (l : Linkage) (one two : List Talk) → linkage_from l (one ++ two) ≡ linkage_from (linkage_from l one) two
linkage_append l [] two = refl
linkage_append l (talk ∷ one) two = linkage_append (linkage_after l talk) one two

pub parted_more : (linked : Bool) (talk more : List Talk) → Stays more → (linked ≡ false → flat_map pdus_in more ≡ []) → Parted linked talk → Parted linked (talk ++ more)
parted_more linked talk more stays silent parted =
    let links = linkage_append no_linkage talk more in
    let now = now_more [] talk more stays.aside in
    let both : flat_map pdus_in (now_from [] (talk ++ more)) ≡ flat_map pdus_in (now_from [] talk) ++ flat_map pdus_in more = ap (flat_map pdus_in) now ∙ flat_map-append pdus_in (now_from [] talk) more in
    record {
      past = subst (λ (parts : List (List Talk)). FallTo parts (linkage (talk ++ more)).past) (sym (past_more [] talk more stays.aside))
          (subst (FallTo (past_from [] talk)) (sym (ap (λ (l : Linkage). l.past) links ∙ stays.past (linkage talk))) parted.past);
      up = λ on. ap (λ (l : Linkage). l.up) links ∙ (stays.up (linkage talk) (flat_map pdus_in (now_from [] talk)) (parted.up on) ∙ ap (λ (l : List Pdu). Some l) (sym both));
      down = λ off. (
        both ∙ (ap (λ (l : List Pdu). l ++ flat_map pdus_in more) (parted.down off).0 ∙ silent off),
        ap (λ (l : Linkage). l.up) links ∙ stays.none (linkage talk) (parted.down off).1,
      );
    }

pub parted_up : (talk : List Talk) → Parted false talk → Parted true (talk ++ Told (Linked Up) ∷ [])
parted_up talk parted =
    let links = linkage_append no_linkage talk (Told (Linked Up) ∷ []) in
    record {
      past = subst (λ (parts : List (List Talk)). FallTo parts (linkage (talk ++ Told (Linked Up) ∷ [])).past) (sym (past_turned [] talk Up))
          (subst (FallTo (past_from [] talk ++ now_from [] talk ∷ [])) (sym (ap (λ (l : Linkage). l.past) links)) (fall_silent (past_from [] talk) (now_from [] talk) (linkage talk).past (parted.down refl).0 parted.past));
      up = λ on. ap (λ (l : Linkage). l.up) links ∙ ap (λ (t : List Talk). Some (flat_map pdus_in t)) (sym (now_turned [] talk Up));
      down = λ off. cc;
    }

-- ---- the link goes down, with what did not move

pub unsent_aside : (unsent : List (List ℕ)) → AllByRecursion IsAside (map Unsent unsent)
unsent_aside [] = tt
unsent_aside (pdu ∷ unsent) = (refl, unsent_aside unsent)

pub unsent_pdus : (unsent : List (List ℕ)) → flat_map pdus_in (map Unsent unsent) ≡ map out_of unsent
unsent_pdus [] = refl
unsent_pdus (pdu ∷ unsent) = ap (λ (l : List Pdu). out_of pdu ∷ l) (unsent_pdus unsent)

ends_link : (l : Linkage) (reason : ℕ) (now : List Pdu) → l.up ≡ Some now → (linkage_after l (Told (Linked (Down reason)))).past ≡ l.past ++ now ∷ []
ends_link l reason now is = ap (λ (u : Option (List Pdu)). l.past ++ option_to_list u) is

pub parted_down : (reason : ℕ) (unsent : List (List ℕ)) (talk : List Talk) → Parted true talk → Parted false (talk ++ (map Unsent unsent ++ Told (Linked (Down reason)) ∷ []))
parted_down reason unsent talk parted =
    let last : Talk = Told (Linked (Down reason)) in
    let gone = talk ++ map Unsent unsent in
    let all : talk ++ (map Unsent unsent ++ last ∷ []) ≡ gone ++ last ∷ [] = sym (append_assoc talk (map Unsent unsent) (last ∷ [])) in
    let links : linkage (talk ++ (map Unsent unsent ++ last ∷ [])) ≡ linkage_after (linkage talk) last = linkage_ended talk unsent last in
    let now = now_more [] talk (map Unsent unsent) (unsent_aside unsent) in
    let moved : flat_map pdus_in (now_from [] gone) ≡ flat_map pdus_in (now_from [] talk) ++ map out_of unsent =
    ap (flat_map pdus_in) now ∙ (flat_map-append pdus_in (now_from [] talk) (map Unsent unsent) ∙ ap (λ (l : List Pdu). flat_map pdus_in (now_from [] talk) ++ l) (unsent_pdus unsent)) in
    let before : past_from [] gone ≡ past_from [] talk = past_more [] talk (map Unsent unsent) (unsent_aside unsent) in
    let parts_now : past_from [] (talk ++ (map Unsent unsent ++ last ∷ [])) ≡ past_from [] talk ++ now_from [] gone ∷ [] =
    ap (past_from []) all ∙ (past_turned [] gone (Down reason) ∙ ap (λ (l : List (List Talk)). l ++ now_from [] gone ∷ []) before) in
    let link = flat_map pdus_in (now_from [] talk) in
    record {
      past = subst (λ (parts : List (List Talk)). FallTo parts (linkage (talk ++ (map Unsent unsent ++ last ∷ []))).past) (sym parts_now)
          (subst (FallTo (past_from [] talk ++ now_from [] gone ∷ [])) (sym (ap (λ (l : Linkage). l.past) links ∙ ends_link (linkage talk) reason link (parted.up refl)))
          (fall_linked (past_from [] talk) (now_from [] gone) (linkage talk).past link unsent moved parted.past));
      up = λ on. cc;
      down = λ off. (ap (λ (t : List Talk). flat_map pdus_in (now_from [] t)) all ∙ ap (flat_map pdus_in) (now_turned [] gone (Down reason)), ap (λ (l : Linkage). l.up) links);
    }

-- ---- all of it, with what waits

parts_with : (talk : List Talk) (waiting : List (List ℕ)) → parts (talk ++ map Unsent waiting) ≡ past_from [] talk ++ now_from [] (talk ++ map Unsent waiting) ∷ []
parts_with talk waiting =
    let gone = talk ++ map Unsent waiting in
    parts_are [] gone ∙ ap (λ (l : List (List Talk)). l ++ now_from [] gone ∷ []) (past_more [] talk (map Unsent waiting) (unsent_aside waiting))

moved_now : (talk : List Talk) (waiting : List (List ℕ)) → flat_map pdus_in (now_from [] (talk ++ map Unsent waiting)) ≡ flat_map pdus_in (now_from [] talk) ++ map out_of waiting
moved_now talk waiting =
    ap (flat_map pdus_in) (now_more [] talk (map Unsent waiting) (unsent_aside waiting))
    ∙ (flat_map-append pdus_in (now_from [] talk) (map Unsent waiting) ∙ ap (λ (l : List Pdu). flat_map pdus_in (now_from [] talk) ++ l) (unsent_pdus waiting))

-- all links of a host, the last one behind the others
abbrev pub all_links : Linkage → List (List Pdu)
all_links l = l.past ++ option_to_list l.up

pub all_fall : (linked : Bool) (talk : List Talk) (waiting : List (List ℕ)) → (linked ≡ false → waiting ≡ []) → Parted linked talk → FallTo (parts (talk ++ map Unsent waiting)) (all_links (linkage talk))
all_fall linked talk waiting none parted =
    subst (λ (ps : List (List Talk)). FallTo ps (all_links (linkage talk))) (sym (parts_with talk waiting)) (by linked refl)
  where
    gone : List Talk
    gone = talk ++ map Unsent waiting

    links : (now : Option (List Pdu)) → (linkage talk).up ≡ now → (linkage talk).past ++ option_to_list now ≡ all_links (linkage talk)
    links now is = ap (λ (u : Option (List Pdu)). (linkage talk).past ++ option_to_list u) (sym is)

    by : (on : Bool) → linked ≡ on → FallTo (past_from [] talk ++ now_from [] gone ∷ []) (all_links (linkage talk))
    by true is = subst (FallTo (past_from [] talk ++ now_from [] gone ∷ [])) (links (Some (flat_map pdus_in (now_from [] talk))) (parted.up is))
        (fall_linked (past_from [] talk) (now_from [] gone) (linkage talk).past (flat_map pdus_in (now_from [] talk)) waiting (moved_now talk waiting) parted.past)
    by false is = subst (FallTo (past_from [] talk ++ now_from [] gone ∷ [])) (sym (append-nil (linkage talk).past) ∙ links None (parted.down is).1)
        (fall_silent (past_from [] talk) (now_from [] gone) (linkage talk).past
        (moved_now talk waiting ∙ (ap (λ (l : List Pdu). l ++ map out_of waiting) (parted.down is).0 ∙ ap (map out_of) (none is))) parted.past)

-- and the last part to the link that is up
pub all_last : (linked : Bool) (talk : List Talk) (waiting : List (List ℕ)) (now : List Pdu) → Parted linked talk → (linkage talk).up ≡ Some now → LastHas (parts (talk ++ map Unsent waiting)) now
all_last true talk waiting now parted is =
    let same : flat_map pdus_in (now_from [] talk) ≡ now = by (flat_map pdus_in (now_from [] talk)) (sym (parted.up refl) ∙ is) in
    (past_from [] talk, now_from [] (talk ++ map Unsent waiting), waiting, parts_with talk waiting, moved_now talk waiting ∙ ap (λ (l : List Pdu). l ++ map out_of waiting) same)
  where
    by : (other : List Pdu) → Some other ≡ Some now → other ≡ now
    by other is = cc
all_last false talk waiting now parted is = let never : None ≡ Some now = sym (parted.down refl).1 ∙ is in absurd cc
