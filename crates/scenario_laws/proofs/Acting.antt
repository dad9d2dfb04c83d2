-- What a host did is what it was told and said so far, and then what it said that has not moved: at each moment of a run in which PDUs
-- move one at a time.
use Rattle.std.proofs.Common.{◌≡◌, ◌≢◌, ℕ, Bool, true, false, List, [], ◌∷◌, ◌++◌, map, Some, refl, sym, ap, ap₂, subst, ◌∙◌, append_assoc}
use Rattle.std.specs.List.{AllByRecursion, flat_map}
use Rattle.std.proofs.lemmas.List.{append-nil, map-append}
use Rattle.std.proofs.lemmas.List.Concat.{flat_map-append}
use Rattle.std.proofs.lemmas.List.Sums.{fold-append}
use Rattle.radio_world.specs.push_terms.specs.declared.outcome.Outcome.{Outcome}
use Rattle.radio_world.specs.capture.specs.Pdus.{Pdu}
use Rattle.radio_world.specs.radio_model.specs.declared.fate.Fate.{Fate}
use Rattle.host_laws.specs.world_model.specs.Machines.{LinkEvent, Up, Down, News, Linked, Failed, Heard, TimerFired, Cancelled, Opening, Upper}
use Rattle.host_laws.specs.world_model.specs.Talks.{Talk, Told, Said, Unsent, Met, Done}
use Rattle.host_laws.specs.world_model.specs.PerLink.{Linkage, no_linkage, linkage_after, linkage}
use Rattle.host_laws.specs.world_model.specs.Carriages.{linked_by}
use Rattle.host_laws.specs.turn_laws.proofs.Linkages.{linkage_ended}
use Rattle.host_laws.specs.Acts.{Act, Hears, Says, Does, Acting, StaysOnLink}
use Rattle.host_laws.specs.Calm.{pdus_in}
use Rattle.host_laws.specs.OverLinks.{is_up_behind, IsTimely, AreInTurn, turns_link}
use Rattle.host_laws.specs.Turning.{Deed, Spoke, deed_of, deeds_in, IsHeardInQuiet, AreInQuiet, OnLink}
use Rattle.host_laws.proofs.Turning.{acting_then, acting_one, stay_both, quiet_then, up_behind, Went}
use Rattle.scenario_laws.proofs.Parting.{Stays, linkage_append, Parted, first_parted, parted_more, parted_up, parted_down}

-- ---- what is so of a host where it hears something

-- where a PDU comes in, and where its timer fires
abbrev pub IsNewsSo : {S : Type 0} → (Bool → S → Type 0) → News → S → Type 0
IsNewsSo W (Linked event) now = Unit {0}
IsNewsSo W (Failed status) now = Unit {0}
IsNewsSo W (Heard pdu) now = W false now
IsNewsSo W TimerFired now = W true now
IsNewsSo W Cancelled now = Unit {0}
IsNewsSo W (Opening name) now = Unit {0}

abbrev pub IsActSo : {S G : Type 0} → (Bool → S → Type 0) → Act G → S → Type 0
IsActSo W (Hears gifts news) now = IsNewsSo W news now
IsActSo W (Says pdu) now = Unit {0}

-- while a link is up
abbrev pub AreSo : {S G : Type 0} → Upper S G → (Bool → S → Type 0) → (up : Bool) → List (Act G) → S → Type 0
AreSo U W up [] now = Unit {0}
AreSo {S} U W up (act ∷ acts) now = (up ≡ true → IsActSo W act now) × ((next : S) → Does U act now next → AreSo U W (is_up_behind up act) acts next)

so_both : {S G : Type 0} (U : Upper S G) (W : Bool → S → Type 0) (up : Bool) (xs ys : List (Act G)) (old : S) → AreSo U W up xs old → ((mid : S) → Acting U xs old mid → AreSo U W (up_behind up xs) ys mid) → AreSo U W up (xs ++ ys) old
so_both U W up [] ys old one two = two old refl
so_both U W up (x ∷ xs) ys old one two = (one.0, λ next does. so_both U W (is_up_behind up x) xs ys next (one.1 next does) (λ mid acting. two mid (next, does, acting)))

pub so_then : {S G : Type 0} (U : Upper S G) (W : Bool → S → Type 0) (up link : Bool) (xs ys : List (Act G)) (old mid : S) → AreSo U W up xs old → Acting U xs old mid → up_behind up xs ≡ link → AreSo U W link ys mid → AreSo U W up (xs ++ ys) old
so_then {S} U W up link xs ys old mid one acting is two =
    so_both U W up xs ys old one
    (λ other also. subst (λ (s : S). AreSo U W (up_behind up xs) ys s) (acting_one U xs old mid other acting also) (subst (λ (b : Bool). AreSo U W b ys mid) (sym is) two))

so_said : {S G : Type 0} (U : Upper S G) (W : Bool → S → Type 0) (up : Bool) (said : List (List ℕ)) (old : S) → AreSo U W up (map Says said) old
so_said U W up [] old = tt
so_said U W up (pdu ∷ said) old = (λ on. tt, λ next does. so_said U W up said next)

-- ---- what a host did

-- since its link came up; what moved since is what the link has
pub record SinceSo {S G : Type 0} (U : Upper S G) (W : Bool → S → Type 0) (talk : List Talk) (mid : S) : Type 0 where
  pub on : OnLink U talk mid
  pub links_are : (linkage talk).up ≡ Some (flat_map pdus_in on.since)
  pub stays_up : up_behind true on.acts ≡ true
  pub so : AreSo U W true on.acts (U.hear on.gifts (Linked Up) on.old)

-- from its first moment on
pub record WentSo {S G : Type 0} (U : Upper S G) (W : Bool → S → Type 0) (linked : Bool) (talk : List Talk) (mid : S) : Type 0 where
  pub went : Went U linked talk mid
  pub so : AreSo U W false went.over.acts U.first

-- it came to `mid` by what it was told and said and what moved of it, and from there said what waits
pub record ActedSo {S G : Type 0} (U : Upper S G) (W : Bool → S → Type 0) (linked : Bool) (now : S) (waiting : List (List ℕ)) (talk : List Talk) : Type 0 where
  pub mid : S
  pub went : WentSo U W linked talk mid
  pub says : Acting U (map Says waiting) mid now
  pub up : linked ≡ true → SinceSo U W talk mid
  pub down : linked ≡ false → waiting ≡ []
  pub parted : Parted linked talk

abbrev pub Anyhow : {S : Type 0} → Bool → S → Type 0
Anyhow fires now = Unit {0}

-- where nothing is asked
abbrev pub SinceUp : {S G : Type 0} → Upper S G → List Talk → S → Type 0
SinceUp U talk mid = SinceSo U Anyhow talk mid

abbrev pub Acted : {S G : Type 0} → Upper S G → Bool → S → List (List ℕ) → List Talk → Type 0
Acted U linked now waiting talk = ActedSo U Anyhow linked now waiting talk

-- ---- it does more

-- what it does more on its link, and what that adds to its talk
record Adds {S G : Type 0} (U : Upper S G) (W : Bool → S → Type 0) (linked : Bool) (acts : List (Act G)) (talks : List Talk) (old now : S) : Type 0 where
  acting : Acting U acts old now
  deeds : map deed_of acts ≡ flat_map deeds_in talks
  in_turn : AreInTurn U linked acts old
  up_is : up_behind linked acts ≡ linked
  in_quiet : linked ≡ true → AreInQuiet U acts old
  so : AreSo U W linked acts old
  stays : AllByRecursion StaysOnLink acts
  more : Stays talks
  silent : linked ≡ false → flat_map pdus_in talks ≡ []

unfoldable pub up_more : {S G : Type 0} (U : Upper S G) (W : Bool → S → Type 0) (acts : List (Act G)) (talks : List Talk) (mid now : S) (talk : List Talk) → Acting U acts mid now → map deed_of acts ≡ flat_map deeds_in talks → AreInQuiet U acts mid → AllByRecursion StaysOnLink acts → Stays talks → up_behind true acts ≡ true → AreSo U W true acts mid
    → SinceSo U W talk mid → SinceSo U W (talk ++ talks) now
up_more U W acts talks mid now talk acting deeds quiet stays more up_is so up =
    let on = up.on in
    let start = U.hear on.gifts (Linked Up) on.old in
    record {
      on = record {
        before = on.before;
        gifts = on.gifts;
        old = on.old;
        acting_before = on.acting_before;
        acts = on.acts ++ acts;
        acting = acting_then U on.acts acts start mid now on.acting acting;
        stays = stay_both on.acts acts on.stays stays;
        in_quiet = quiet_then U on.acts acts start mid on.in_quiet on.acting quiet;
        past = on.past;
        since = on.since ++ talks;
        talk_is = ap (λ (l : List Talk). l ++ talks) on.talk_is ∙ append_assoc on.past (Told (Linked Up) ∷ on.since) talks;
        deeds_are = map-append deed_of on.acts acts ∙ (ap₂ (λ (x y : List Deed). x ++ y) on.deeds_are deeds ∙ sym (flat_map-append deeds_in on.since talks));
      };
      links_are = ap (λ (l : Linkage). l.up) (linkage_append no_linkage talk talks)
          ∙ (more.up (linkage talk) (flat_map pdus_in on.since) up.links_are ∙ ap (λ (l : List Pdu). Some l) (sym (flat_map-append pdus_in on.since talks)));
      stays_up = fold-append is_up_behind true on.acts acts ∙ (ap (λ (b : Bool). up_behind b acts) up.stays_up ∙ up_is);
      so = so_then U W true true on.acts acts start mid up.so on.acting up.stays_up so;
    }

turns_both : {S G : Type 0} (U : Upper S G) (up : Bool) (xs ys : List (Act G)) (old : S) → AreInTurn U up xs old → ((mid : S) → Acting U xs old mid → AreInTurn U (up_behind up xs) ys mid) → AreInTurn U up (xs ++ ys) old
turns_both U up [] ys old one two = two old refl
turns_both U up (x ∷ xs) ys old one two = (one.0, λ next does. turns_both U (is_up_behind up x) xs ys next (one.1 next does) (λ mid acting. two mid (next, does, acting)))

so_goes_on : {S G : Type 0} (U : Upper S G) (W : Bool → S → Type 0) (link next : Bool) (acts : List (Act G)) (talks past : List Talk) (old new : S) → Acting U acts old new → map deed_of acts ≡ flat_map deeds_in talks → AreInTurn U link acts old → up_behind link acts ≡ next
    → AreSo U W link acts old → WentSo U W link past old → WentSo U W next (past ++ talks) new
so_goes_on {S} U W link next acts talks past old new acting deeds turn up_is so went =
    let over = went.went.over in
    record {
      went = record {
        over = record {
          acts = over.acts ++ acts;
          acting = acting_then U over.acts acts U.first old new over.acting acting;
          deeds_are = map-append deed_of over.acts acts ∙ (ap₂ (λ (x y : List Deed). x ++ y) over.deeds_are deeds ∙ sym (flat_map-append deeds_in past talks));
          in_turn = turns_both U false over.acts acts U.first over.in_turn
              (λ mid also. subst (λ (s : S). AreInTurn U (up_behind false over.acts) acts s) (acting_one U over.acts U.first old mid over.acting also) (subst (λ (b : Bool). AreInTurn U b acts old) (sym went.went.up_is) turn));
        };
        up_is = fold-append is_up_behind false over.acts acts ∙ (ap (λ (b : Bool). up_behind b acts) went.went.up_is ∙ up_is);
      };
      so = so_then U W false link over.acts acts U.first old went.so over.acting went.went.up_is so;
    }

so_on : {S G : Type 0} (U : Upper S G) (W : Bool → S → Type 0) (linked : Bool) (acts : List (Act G)) (old : S) → AreSo U W linked acts old → linked ≡ true → AreSo U W true acts old
so_on U W linked acts old so on = subst (λ (b : Bool). AreSo U W b acts old) on so

up_on : {G : Type 0} (linked : Bool) (acts : List (Act G)) → up_behind linked acts ≡ linked → linked ≡ true → up_behind true acts ≡ true
up_on linked acts is on = subst (λ (b : Bool). up_behind b acts ≡ b) on is

acts_more : {S G : Type 0} (U : Upper S G) (W : Bool → S → Type 0) (linked : Bool) (acts : List (Act G)) (talks : List Talk) (old now : S) (left : List (List ℕ)) (last : S) (talk : List Talk) → Adds U W linked acts talks old now → WentSo U W linked talk old → (linked ≡ true → SinceSo U W talk old)
    → Parted linked talk → Acting U (map Says left) now last → (linked ≡ false → left ≡ []) → ActedSo U W linked last left (talk ++ talks)
acts_more U W linked acts talks old now left last talk adds went up parted says none = record {
  mid = now;
  went = so_goes_on U W linked linked acts talks talk old now adds.acting adds.deeds adds.in_turn adds.up_is adds.so went;
  says = says;
  up = λ on. up_more U W acts talks old now talk adds.acting adds.deeds (adds.in_quiet on) adds.stays adds.more (up_on linked acts adds.up_is on) (so_on U W linked acts old adds.so on) (up on);
  down = none;
  parted = parted_more linked talk talks adds.more adds.silent parted;
}

-- where nothing waits, it is where it came to
pub none_waits : {S G : Type 0} (U : Upper S G) (mid now : S) (waiting : List (List ℕ)) → waiting ≡ [] → Acting U (map Says waiting) mid now → now ≡ mid
none_waits U mid now [] none says = says
none_waits U mid now (pdu ∷ waiting) none says = cc

all_more : {S G : Type 0} (U : Upper S G) (W : Bool → S → Type 0) (linked : Bool) (acts : List (Act G)) (talks : List Talk) (old now : S) (talk : List Talk) → Adds U W linked acts talks old now → ActedSo U W linked old [] talk → ActedSo U W linked now [] (talk ++ talks)
all_more {S} U W linked acts talks old now talk adds acted =
    let back = sym acted.says in
    acts_more U W linked acts talks old now [] now talk adds (subst (λ (s : S). WentSo U W linked talk s) back acted.went) (λ on. subst (λ (s : S). SinceSo U W talk s) back (acted.up on)) acted.parted refl (λ off. refl)

-- ---- what may be added

-- something is told, and its link stays as it is
abbrev pub IsAside : News → Type 0
IsAside (Linked event) = ⊥
IsAside news = Unit {0}

none_more : (now : List Pdu) → Some now ≡ Some (now ++ [])
none_more now = ap (λ (x : List Pdu). Some x) (sym (append-nil now))

pub plain_stays : (one : Talk) → turns_link one ≡ false → pdus_in one ≡ [] → ((l : Linkage) → linkage_after l one ≡ l) → Stays (one ∷ [])
plain_stays one aside none same = record {
  aside = (aside, tt);
  past = λ l. ap (λ (x : Linkage). x.past) (same l);
  up = λ l now is. ap (λ (x : Linkage). x.up) (same l) ∙ (is ∙ (none_more now ∙ ap (λ (ps : List Pdu). Some (now ++ (ps ++ []))) (sym none)));
  none = λ l is. ap (λ (x : Linkage). x.up) (same l) ∙ is;
}

heard_stays : (pdu : List ℕ) → Stays (Told (Heard pdu) ∷ [])
heard_stays pdu = record { aside = (refl, tt); past = λ l. refl; up = λ l now is. rw is refl; none = λ l is. rw is refl }

pub said_stays : (pdu : List ℕ) → Stays (Said pdu ∷ [])
said_stays pdu = record { aside = (refl, tt); past = λ l. refl; up = λ l now is. rw is refl; none = λ l is. rw is refl }

pub told_stays : (news : News) → IsAside news → Stays (Told news ∷ [])
told_stays (Linked event) aside = absurd aside
told_stays (Failed status) aside = plain_stays (Told (Failed status)) refl refl (λ l. refl)
told_stays (Heard pdu) aside = heard_stays pdu
told_stays TimerFired aside = plain_stays (Told TimerFired) refl refl (λ l. refl)
told_stays Cancelled aside = plain_stays (Told Cancelled) refl refl (λ l. refl)
told_stays (Opening name) aside = plain_stays (Told (Opening name)) refl refl (λ l. refl)

pub told_link : {G : Type 0} (linked : Bool) (gifts : List G) (news : News) → IsAside news → (let one : Act G = Hears gifts news in (up_behind linked (one ∷ []) ≡ linked) × StaysOnLink one)
told_link linked gifts (Linked event) aside = absurd aside
told_link linked gifts (Failed status) aside = (refl, tt)
told_link linked gifts (Heard pdu) aside = (refl, tt)
told_link linked gifts TimerFired aside = (refl, tt)
told_link linked gifts Cancelled aside = (refl, tt)
told_link linked gifts (Opening name) aside = (refl, tt)

told_silent : {G : Type 0} (linked : Bool) (gifts : List G) (news : News) → (let one : Act G = Hears gifts news in IsTimely linked one) → linked ≡ false → flat_map pdus_in (Told news ∷ []) ≡ []
told_silent linked gifts (Linked event) timely off = refl
told_silent linked gifts (Failed status) timely off = refl
told_silent linked gifts (Heard pdu) timely off = let never : true ≡ false = sym timely ∙ off in cc
told_silent linked gifts TimerFired timely off = refl
told_silent linked gifts Cancelled timely off = refl
told_silent linked gifts (Opening name) timely off = refl

-- ---- one host

-- it says a PDU, which waits
pub says_acted : {S G : Type 0} (U : Upper S G) (W : Bool → S → Type 0) (old now : S) (pdu : List ℕ) (waiting : List (List ℕ)) (talk : List Talk) → U.next old ≡ Some (pdu, now) → ActedSo U W true old waiting talk → ActedSo U W true now (waiting ++ pdu ∷ []) talk
says_acted U W old now pdu waiting talk next acted = record {
  mid = acted.mid;
  went = acted.went;
  says = subst (λ (xs : List (Act _)). Acting U xs acted.mid now) (sym (map-append Says waiting (pdu ∷ []))) (acting_then U (map Says waiting) (Says pdu ∷ []) acted.mid old now acted.says (now, next, refl));
  up = acted.up;
  down = λ off. cc;
  parted = acted.parted;
}

-- the first that waits moves
pub moves_acted : {S G : Type 0} (U : Upper S G) (W : Bool → S → Type 0) (now : S) (pdu : List ℕ) (left : List (List ℕ)) (talk : List Talk) → ActedSo U W true now (pdu ∷ left) talk → ActedSo U W true now left (talk ++ Said pdu ∷ [])
moves_acted {S} {G} U W now pdu left talk acted =
    let (mid, next, rest) = acted.says in
    let adds : Adds U W true (Says pdu ∷ []) (Said pdu ∷ []) acted.mid mid = record {
      acting = (mid, next, refl);
      deeds = refl;
      in_turn = (record { timely = tt; in_quiet = λ on. tt }, λ later does. tt);
      up_is = refl;
      in_quiet = λ on. (tt, λ later does. tt);
      so = (λ on. tt, λ later does. tt);
      stays = (tt, tt);
      more = said_stays pdu;
      silent = λ off. cc;
    } in
    acts_more U W true (Says pdu ∷ []) (Said pdu ∷ []) acted.mid mid left now talk adds acted.went acted.up acted.parted rest (λ off. cc)

pub hears_acted : {S G : Type 0} (U : Upper S G) (W : Bool → S → Type 0) (linked : Bool) (gifts : List G) (news : News) (old : S) (talk : List Talk) → IsAside news → (let one : Act G = Hears gifts news in IsTimely linked one)
    → (linked ≡ true → IsHeardInQuiet U news old) → (linked ≡ true → IsNewsSo W news old) → ActedSo U W linked old [] talk → ActedSo U W linked (U.hear gifts news old) [] (talk ++ Told news ∷ [])
hears_acted {S} {G} U W linked gifts news old talk aside timely quiet so acted =
    let link = told_link linked gifts news aside in
    all_more U W linked (Hears gifts news ∷ []) (Told news ∷ []) old (U.hear gifts news old) talk (record {
      acting = (_, refl, refl);
      deeds = refl;
      in_turn = (record { timely = timely; in_quiet = quiet }, λ later does. tt);
      up_is = link.0;
      in_quiet = λ on. (quiet on, λ later does. tt);
      so = (so, λ later does. tt);
      stays = (link.1, tt);
      more = told_stays news aside;
      silent = told_silent linked gifts news timely;
    }) acted

-- talk that is nothing that it did
beside_acted : {S G : Type 0} (U : Upper S G) (W : Bool → S → Type 0) (linked : Bool) (now : S) (one : Talk) (talk : List Talk) → deeds_in one ≡ [] → pdus_in one ≡ [] → Stays (one ∷ []) → ActedSo U W linked now [] talk → ActedSo U W linked now [] (talk ++ one ∷ [])
beside_acted U W linked now one talk deeds pdus stays acted =
    all_more U W linked [] (one ∷ []) now now talk
    (record { acting = refl; deeds = sym (ap (λ (l : List Deed). l ++ []) deeds); in_turn = tt; up_is = refl; in_quiet = λ on. tt; so = tt; stays = tt; more = stays; silent = λ off. ap (λ (l : List Pdu). l ++ []) pdus }) acted

pub met_acted : {S G : Type 0} (U : Upper S G) (W : Bool → S → Type 0) (linked : Bool) (now : S) (fate : Fate) (checked : Bool) (talk : List Talk) → ActedSo U W linked now [] talk → ActedSo U W linked now [] (talk ++ Met fate checked ∷ [])
met_acted U W linked now fate checked talk acted = beside_acted U W linked now (Met fate checked) talk refl refl (plain_stays (Met fate checked) refl refl (λ l. refl)) acted

pub done_acted : {S G : Type 0} (U : Upper S G) (W : Bool → S → Type 0) (linked : Bool) (now : S) (outcome : Outcome) (talk : List Talk) → ActedSo U W linked now [] talk → ActedSo U W linked now [] (talk ++ Done outcome ∷ [])
done_acted U W linked now outcome talk acted = beside_acted U W linked now (Done outcome) talk refl refl (plain_stays (Done outcome) refl refl (λ l. refl)) acted

-- ---- it is told of its link

unsent_deeds : (G : Type 0) (waiting : List (List ℕ)) → map (deed_of {G = G}) (map Says waiting) ≡ flat_map deeds_in (map Unsent waiting)
unsent_deeds G [] = refl
unsent_deeds G (pdu ∷ waiting) = ap (λ (l : List Deed). Spoke pdu ∷ l) (unsent_deeds G waiting)

turns_said : {S G : Type 0} (U : Upper S G) (up : Bool) (said : List (List ℕ)) (old : S) → AreInTurn U up (map Says said) old
turns_said U up [] old = tt
turns_said U up (pdu ∷ said) old = (record { timely = tt; in_quiet = λ on. tt }, λ next does. turns_said U up said next)

up_said : (G : Type 0) (up : Bool) (said : List (List ℕ)) → up_behind {G = G} up (map Says said) ≡ up
up_said G up [] = refl
up_said G up (pdu ∷ said) = up_said G up said

-- with what waits, as what did not move
pub went_all : {S G : Type 0} (U : Upper S G) (W : Bool → S → Type 0) (linked : Bool) (now : S) (waiting : List (List ℕ)) (talk : List Talk) → ActedSo U W linked now waiting talk → WentSo U W linked (talk ++ map Unsent waiting) now
went_all {S} {G} U W linked now waiting talk acted =
    so_goes_on U W linked linked (map Says waiting) (map Unsent waiting) talk acted.mid now acted.says (unsent_deeds G waiting) (turns_said U linked waiting acted.mid) (up_said G linked waiting) (so_said U W linked waiting acted.mid) acted.went

pub told_went : {S G : Type 0} (U : Upper S G) (W : Bool → S → Type 0) (linked : Bool) (gifts : List G) (event : LinkEvent) (old : S) (waiting : List (List ℕ)) (talk : List Talk) → (event ≡ Up → linked ≡ false) → (event ≢ Up → linked ≡ true) → ActedSo U W linked old waiting talk
    → WentSo U W (linked_by event) (talk ++ (map Unsent waiting ++ Told (Linked event) ∷ [])) (U.hear gifts (Linked event) old)
told_went {S} {G} U W linked gifts event old waiting talk fresh held acted =
    let now = U.hear gifts (Linked event) old in
    let one : Act G = Hears gifts (Linked event) in
    let turn = by event fresh held in
    subst (λ (l : List Talk). WentSo U W (linked_by event) l now) (append_assoc talk (map Unsent waiting) (Told (Linked event) ∷ []))
    (so_goes_on U W linked (linked_by event) (one ∷ []) (Told (Linked event) ∷ []) (talk ++ map Unsent waiting) old now (_, refl, refl) refl (record { timely = turn.0; in_quiet = λ on. tt }, λ later does. tt) turn.1 (λ on. tt, λ later does. tt) (went_all U W linked old waiting talk acted))
  where
    by : (which : LinkEvent) → (which ≡ Up → linked ≡ false) → (which ≢ Up → linked ≡ true) → (let one : Act G = Hears gifts (Linked which) in IsTimely linked one × (up_behind linked (one ∷ []) ≡ linked_by which))
    by Up fresh held = (fresh refl, refl)
    by (Down reason) fresh held = (held (λ is. cc), refl)

unfoldable pub tells_acted : {S G : Type 0} (U : Upper S G) (W : Bool → S → Type 0) (linked : Bool) (gifts : List G) (event : LinkEvent) (old : S) (waiting : List (List ℕ)) (talk : List Talk) → (event ≡ Up → linked ≡ false) → (event ≢ Up → linked ≡ true) → ActedSo U W linked old waiting talk
    → ActedSo U W (linked_by event) (U.hear gifts (Linked event) old) [] (talk ++ (map Unsent waiting ++ Told (Linked event) ∷ []))
tells_acted {S} U W linked gifts Up old waiting talk fresh held acted =
    let none = acted.down (fresh refl) in
    let same : old ≡ acted.mid = none_waits U acted.mid old waiting none acted.says in
    let talk_is : talk ++ (map Unsent waiting ++ Told (Linked Up) ∷ []) ≡ talk ++ Told (Linked Up) ∷ [] = ap (λ (w : List (List ℕ)). talk ++ (map Unsent w ++ Told (Linked Up) ∷ [])) none in
    record {
      mid = U.hear gifts (Linked Up) old;
      went = told_went U W linked gifts Up old waiting talk fresh held acted;
      says = refl;
      up = λ on. record {
        on = record {
          before = acted.went.went.over.acts;
          gifts = gifts;
          old = old;
          acting_before = subst (λ (s : S). Acting U acted.went.went.over.acts U.first s) (sym same) acted.went.went.over.acting;
          acts = [];
          acting = refl;
          stays = tt;
          in_quiet = tt;
          past = talk;
          since = [];
          talk_is = talk_is;
          deeds_are = refl;
        };
        links_are = ap (λ (l : Linkage). l.up) (linkage_ended talk waiting (Told (Linked Up)));
        stays_up = refl;
        so = tt;
      };
      down = λ off. cc;
      parted = subst (Parted true) (sym talk_is) (parted_up talk (subst (λ (b : Bool). Parted b talk) (fresh refl) acted.parted));
    }
tells_acted U W linked gifts (Down reason) old waiting talk fresh held acted = record {
  mid = U.hear gifts (Linked (Down reason)) old;
  went = told_went U W linked gifts (Down reason) old waiting talk fresh held acted;
  says = refl;
  up = λ on. cc;
  down = λ off. refl;
  parted = parted_down reason waiting talk (subst (λ (b : Bool). Parted b talk) (held (λ is. cc)) acted.parted);
}

pub first_acted : {S G : Type 0} (U : Upper S G) (W : Bool → S → Type 0) → ActedSo U W false U.first [] []
first_acted U W = record {
  mid = U.first;
  went = record { went = record { over = record { acts = []; acting = refl; deeds_are = refl; in_turn = tt }; up_is = refl }; so = tt };
  says = refl;
  up = λ on. cc;
  down = λ off. refl;
  parted = first_parted;
}

-- where all that it said has moved
pub since_up : {S G : Type 0} (U : Upper S G) (W : Bool → S → Type 0) (now : S) (talk : List Talk) → ActedSo U W true now [] talk → SinceSo U W talk now
since_up {S} U W now talk acted = subst (λ (s : S). SinceSo U W talk s) (sym acted.says) (acted.up refl)
