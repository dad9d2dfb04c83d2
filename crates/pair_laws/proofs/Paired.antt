-- Both hosts as the two ends of a pair on each of their links, and what they do at rest: timers fire, and a frame meets its fate.
use Rattle.std.proofs.Common.{◌≡◌, inr, ℕ, ◌+◌, ◌≤◌, Bool, true, false, not, List, [], ◌∷◌, ◌++◌, map, length, refl, sym, ap, subst, ◌∙◌, arith, length-append}
use Rattle.scenario_laws.specs.acl_fragments.specs.Pieces.{channel_of}
use Rattle.scenario_laws.specs.push_terms.specs.declared.outcome.Outcome.{Outcome}
use Rattle.scenario_laws.specs.radio_model.specs.declared.fate.Fate.{Fate}
use Rattle.scenario_laws.specs.radio_model.specs.Fates.{meets, comes_of}
use Rattle.channel_laws.specs.channel_model.specs.Calls.{has_fcs}
use Rattle.channel_laws.specs.channel_model.specs.Policies.{Policy}
use Rattle.channel_laws.specs.Runs.{Occurrence, Fires as Timer, run_of}
use Rattle.channel_laws.specs.Tries.{one_if}
use Rattle.scenario_laws.specs.world_model.specs.Machines.{Up, Down, News, TimerFired}
use Rattle.scenario_laws.specs.world_model.specs.Talks.{Talk, Unsent, Met, Done}
use Rattle.scenario_laws.specs.world_model.specs.Carriages.{Carriage, Motion, Saying, Departure, Arrival, Telling, DoesMotion, IsIdle, IsAtRest, MeetsFate, Doing, Moved, Deeds, Misses, Rises, Falls, Opens, Closes, ActsOn, finds, told, owing, IsDone, first_carriage, words_at, all_words}
use Rattle.scenario_laws.specs.world_model.specs.Carriages as carriages
use Rattle.scenario_laws.specs.host_model.specs.Circumstances.{Circumstance}
use Rattle.scenario_laws.specs.host_model.specs.Hosts.{Host}
use Rattle.scenario_laws.specs.host_model.specs.Profiles.{Profile}
use Rattle.scenario_laws.specs.host_model.specs.Machines.{upper}
use Rattle.host_laws.specs.Calls.{Asks}
use Rattle.host_laws.specs.Calm.{IsCalmNews}
use Rattle.host_laws.specs.Feeds.{Feed, Gifts}
use Rattle.host_laws.specs.Lives.{Mark, Span}
use Rattle.host_laws.specs.OverLinks.{talk_marks}
use Rattle.host_laws.specs.Seen.{IsQuiet}
use Rattle.pair_laws.specs.Granted.{answered_by}
use Rattle.pair_laws.proofs.Given.{Allows}
use Rattle.pair_laws.proofs.Facing.{View, NearBy, FarBy, whole_of, most_of, with_most, PairFrom, PairAt, GivesNone, SaysNone, fire-both}
use Rattle.pair_laws.proofs.Meeting.{IsRight, fate_cost, meets-it}
use Rattle.pair_laws.proofs.Numbered.{part_at, part-now, part-else, Links, turned-links, owes-both, richer-links, comes-over, fires-over}
use Rattle.pair_laws.proofs.Openings.{same_names}
use Rattle.pair_laws.proofs.Walking.{fired-list}
use Rattle.pair_laws.proofs.Hosting.{marks_of, HostAt, Held, held-quiet, walks-still, grown-links, fires-host, fires-held, besides}

-- ---- a frame meets its fate

silent_marks : (talk : List Talk) (waiting : List (List ℕ)) (one : Talk) → talk_marks one ≡ [] → marks_of (talk ++ map Unsent waiting) ≡ marks_of ((talk ++ one ∷ []) ++ map Unsent waiting)
silent_marks [] waiting one none = ap (λ (m : List Mark). m ++ marks_of (map Unsent waiting)) (sym none)
silent_marks (first ∷ talk) waiting one none = ap (λ (m : List Mark). talk_marks first ++ m) (silent_marks talk waiting one none)

met_links : {P T : Type 0} (A : Profile P) (side : View) (m : ℕ) (theirs : Policy) (spans : List Span) (now : List Occurrence) (other : ℕ → List Occurrence) (j : ℕ) (size : ℕ) (fate : Fate) (sender : carriages.End T) (receiver : carriages.End (Host P)) (frame : List ℕ) (rest : List (List ℕ)) (checked : Bool)
    → sender.queue ≡ frame ∷ rest → checked ≡ has_fcs (channel_of frame) receiver.upper.channels → IsRight (whole_of side) fate sender.queue → fate_cost fate + most_of side ≤ m → length spans ≡ j → sender.owed ≡ [] → receiver.coming ≡ [] → receiver.upper.channels ≡ (run_of A.policy now).value → has_fcs 0x0001 receiver.upper.channels ≡ false → GivesNone A.policy now × GivesNone theirs (other (length spans))
    → Links side A.policy theirs spans now receiver other j sender
    → Links (with_most m side) A.policy theirs spans now (record receiver { coming = comes_of size fate checked frame }) other j (record sender { queue = (meets size fate checked frame).stays ++ rest; talk = sender.talk ++ Met fate checked ∷ [] })
met_links A side m theirs spans now other j size fate sender receiver frame rest checked first checked_is right enough level none idle run unchecked silent links =
    let there = other (length spans) in
    comes-over side m A.policy theirs spans now other j receiver (record receiver { coming = comes_of size fate checked frame }) sender (record sender { queue = (meets size fate checked frame).stays ++ rest; talk = sender.talk ++ Met fate checked ∷ [] }) level none (omega (arith, enough)) (refl, refl) refl
    (λ far_coming far_rest p.
    meets-it side m A.policy theirs now there sender.waiting far_coming far_rest size fate checked frame rest enough (subst (IsRight (whole_of side) fate) first right)
    (λ looks. (
      ap (has_fcs (channel_of frame)) (sym run) ∙ (sym checked_is ∙ looks),
      λ here. let never : true ≡ false = sym looks ∙ (checked_is ∙ (ap (λ (n : ℕ). has_fcs n receiver.upper.channels) here ∙ unchecked)) in cc,
    )) silent
    (subst (λ (q : List (List ℕ)). PairFrom side A.policy theirs now there [] (q ++ sender.waiting) far_coming far_rest) first
    (subst (λ (c : List (List ℕ)). PairFrom side A.policy theirs now there c (sender.queue ++ sender.waiting) far_coming far_rest) idle p))) links

-- what a host was told besides changes nothing of its links
same_links : {S T : Type 0} (side : View) (mine theirs : Policy) (spans : List Span) (now : List Occurrence) (other : ℕ → List Occurrence) (j : ℕ) (e : carriages.End S) (f : carriages.End T) (talk : List Talk) → Links side mine theirs spans now e other j f → Links side mine theirs spans now (record e { talk = talk }) other j f
same_links side mine theirs spans now other j e f talk links k =
    let link = links k in record { rest = link.rest; far_rest = link.far_rest; pair = link.pair; none_put = link.none_put; now_put = link.now_put; none_far = link.none_far; now_far = link.now_far }

-- ---- both hosts

-- the profile asks for a link
abbrev pub Wants : {P : Type 0} → Profile P → P → Type 0
Wants A profile = A.wants_link profile ≡ true

abbrev pub Always : {P : Type 0} → P → Type 0
Always profile = Unit {0}

-- the ports answer as they do, and nothing is asked of that
abbrev pub as_it_is : News → List Circumstance → List Circumstance
as_it_is news answers = answers

pub any_allowed : Allows as_it_is Always
any_allowed = record { silent = λ feed silent. tt; given = λ news answers. tt; told = λ news answers. tt }

-- Where all is at rest, a host on a link stays on it.
abbrev pub StayOn : {S T : Type 0} → (S → Type 0) → (T → Type 0) → Carriage S T → Type 0
StayOn Z Y c = (c.a.linked ≡ true → Z c.a.upper) × (c.b.linked ≡ true → Y c.b.upper)

-- on each link at most so many turns disturbed
module _ {P Q : Type 0} (whole : Bool) (most : ℕ) (A : Profile P) (asks_a : Asks A) (B : Profile Q) (asks_b : Asks B) (to_a : News → List Circumstance → List Circumstance) (F : Feed → Type 0) (allows_a : Allows to_a F) (to_b : News → List Circumstance → List Circumstance) (G : Feed → Type 0) (allows_b : Allows to_b G) (H J : List Occurrence → Type 0) where
  pub record PairsOf (e : carriages.End (Host P)) (f : carriages.End (Host Q)) : Type 0 where
    pub number : ℕ
    pub a : HostAt A asks_a (Wants A) F H e
    pub b : HostAt B asks_b Always G J f
    pub level_a : length a.so.lives.spans + length e.owed ≡ number
    pub level_b : length b.so.lives.spans + length f.owed ≡ number
    pub links : Links (NearBy whole most) A.policy B.policy a.so.lives.spans a.so.lives.now e (λ k. part_at k b.so.lives.spans b.so.lives.now) (length b.so.lives.spans) f

  -- each of them as one end, and what it does
  abbrev pub HeldA : {f : carriages.End (Host Q)} → (number : ℕ) → HostAt B asks_b Always G J f → carriages.End (Host P) → Type 0
  HeldA {f} number host e = Held (NearBy whole most) A asks_a (Wants A) F H B.policy number e (λ k. part_at k host.so.lives.spans host.so.lives.now) (length host.so.lives.spans) f

  abbrev pub HeldB : {e : carriages.End (Host P)} → (number : ℕ) → HostAt A asks_a (Wants A) F H e → carriages.End (Host Q) → Type 0
  HeldB {e} number host f = Held (FarBy whole most) B asks_b Always G J A.policy number f (λ k. part_at k host.so.lives.spans host.so.lives.now) (length host.so.lives.spans) e

  abbrev pub held_a : (e : carriages.End (Host P)) (f : carriages.End (Host Q)) (both : PairsOf e f) → HeldA both.number both.b e
  held_a e f both = record { host = both.a; level = both.level_a; links = both.links }

  abbrev pub held_b : (e : carriages.End (Host P)) (f : carriages.End (Host Q)) (both : PairsOf e f) → HeldB both.number both.a f
  held_b e f both =
      let a = both.a.so.lives in
      let b = both.b.so.lives in
      record { host = both.b; level = both.level_b; links = turned-links (NearBy whole most) A.policy B.policy a.spans b.spans a.now b.now e f both.links }

  pub on_a : (e e' : carriages.End (Host P)) (f : carriages.End (Host Q)) (both : PairsOf e f) → HeldA both.number both.b e' → PairsOf e' f
  on_a e e' f both after = record { number = both.number; a = after.host; b = both.b; level_a = after.level; level_b = both.level_b; links = after.links }

  pub on_b : (e : carriages.End (Host P)) (f f' : carriages.End (Host Q)) (both : PairsOf e f) → HeldB both.number both.a f' → PairsOf e f'
  on_b e f f' both after =
      let a = both.a.so.lives in
      let later = after.host.so.lives in
      record { number = both.number; a = both.a; b = after.host; level_a = both.level_a; level_b = after.level; links = turned-links (FarBy whole most) B.policy A.policy later.spans a.spans later.now a.now f' e after.links }

  -- an event is owed to both
  pub owes_up : (e : carriages.End (Host P)) (f : carriages.End (Host Q)) → PairsOf e f → PairsOf (owing Up e) (owing Up f)
  owes_up e f both =
      let a = both.a.so.lives in
      let b = both.b.so.lives in
      let one = both.level_a in
      let two = both.level_b in
      let more = length-append e.owed (Up ∷ []) in
      let others = length-append f.owed (Up ∷ []) in
      record {
        number = both.number + 1;
        a = besides A asks_a (Wants A) F allows_a.silent H e e.talk e.queue e.coming (e.owed ++ Up ∷ []) refl refl both.a both.a.comes;
        b = besides B asks_b Always G allows_b.silent J f f.talk f.queue f.coming (f.owed ++ Up ∷ []) refl refl both.b both.b.comes;
        level_a = omega (arith, one, more);
        level_b = omega (arith, two, others);
        links = owes-both (NearBy whole most) A.policy B.policy a.spans a.now (λ k. part_at k b.spans b.now) (length b.spans) Up Up e f both.links;
      }

  pub owes_down : (x y : ℕ) (e : carriages.End (Host P)) (f : carriages.End (Host Q)) → PairsOf e f → PairsOf (owing (Down x) e) (owing (Down y) f)
  owes_down x y e f both =
      let a = both.a.so.lives in
      let b = both.b.so.lives in
      let one = both.level_a in
      let two = both.level_b in
      let more = length-append e.owed (Down x ∷ []) in
      let others = length-append f.owed (Down y ∷ []) in
      record {
        number = both.number + 1;
        a = besides A asks_a (Wants A) F allows_a.silent H e e.talk [] e.coming (e.owed ++ Down x ∷ []) refl refl both.a both.a.comes;
        b = besides B asks_b Always G allows_b.silent J f f.talk [] f.coming (f.owed ++ Down y ∷ []) refl refl both.b both.b.comes;
        level_a = omega (arith, one, more);
        level_b = omega (arith, two, others);
        links = owes-both (NearBy whole most) A.policy B.policy a.spans a.now (λ k. part_at k b.spans b.now) (length b.spans) (Down x) (Down y) e f both.links;
      }

  -- a push is over
  pub is_done : (outcome : Outcome) (e : carriages.End (Host P)) (f : carriages.End (Host Q)) → PairsOf e f → PairsOf (record e { talk = e.talk ++ Done outcome ∷ [] }) f
  is_done outcome e f both =
      let a = both.a.so.lives in
      let b = both.b.so.lives in
      record {
        number = both.number;
        a = besides A asks_a (Wants A) F allows_a.silent H e (e.talk ++ Done outcome ∷ []) e.queue e.coming e.owed (silent_marks e.talk e.waiting (Done outcome) refl) (same_names e.talk (Done outcome) refl) both.a both.a.comes;
        b = both.b;
        level_a = both.level_a;
        level_b = both.level_b;
        links = same_links (NearBy whole most) A.policy B.policy a.spans a.now (λ k. part_at k b.spans b.now) (length b.spans) e f (e.talk ++ Done outcome ∷ []) both.links;
      }

  -- both are on the same link where nothing is owed to them
  pub same_number : (e : carriages.End (Host P)) (f : carriages.End (Host Q)) (both : PairsOf e f) → e.owed ≡ [] → f.owed ≡ [] → length both.a.so.lives.spans ≡ length both.b.so.lives.spans
  same_number e f both none_a none_b =
      let one = both.level_a in
      let two = both.level_b in
      let x : length e.owed ≡ 0 = ap length none_a in
      let y : length f.owed ≡ 0 = ap length none_b in
      omega (arith, one, two, x, y)

module _ {P Q : Type 0} (whole : Bool) (most m : ℕ) (A : Profile P) (asks_a : Asks A) (B : Profile Q) (asks_b : Asks B) (to_a : News → List Circumstance → List Circumstance) (F : Feed → Type 0) (allows_a : Allows to_a F) (to_b : News → List Circumstance → List Circumstance) (G : Feed → Type 0) (allows_b : Allows to_b G) (H J : List Occurrence → Type 0) where
  abbrev pub Before : carriages.End (Host P) → carriages.End (Host Q) → Type 0
  Before e f = PairsOf whole most A asks_a B asks_b to_a F allows_a to_b G allows_b H J e f

  abbrev pub Behind : carriages.End (Host P) → carriages.End (Host Q) → Type 0
  Behind e f = PairsOf whole m A asks_a B asks_b to_a F allows_a to_b G allows_b H J e f

  -- more may be spent
  pub richer_pairs : (e : carriages.End (Host P)) (f : carriages.End (Host Q)) → most ≤ m → Before e f → Behind e f
  richer_pairs e f more both =
      let a = both.a.so.lives in
      let b = both.b.so.lives in
      record { number = both.number; a = both.a; b = both.b; level_a = both.level_a; level_b = both.level_b; links = richer-links (NearBy whole most) m A.policy B.policy a.spans a.now (λ k. part_at k b.spans b.now) (length b.spans) e f more both.links }

  -- what it needs for a firing of one of them
  pub record CanFire {S T : Type 0} (free : Bool) (e : carriages.End S) (f : carriages.End T) : Type 0 where
    pub waits : e.waiting ≡ []
    pub coming : e.coming ≡ []
    pub owed : e.owed ≡ []
    pub far_coming : f.coming ≡ []
    pub far_owed : f.owed ≡ []
    pub enough : one_if (not free) + most ≤ m
    pub still : free ≡ true → (e.queue ≡ []) × (f.queue ++ f.waiting ≡ [])

  -- what is so of what happened to a host on the link that it is on
  on_now : {R : Type 0} (C : Profile R) (asks_c : Asks C) (W : R → Type 0) (X : Feed → Type 0) (Z : List Occurrence → Type 0) (f : carriages.End (Host R)) (host : HostAt C asks_c W X Z f) (K : List Occurrence → Type 0) (i : ℕ) → i ≡ length host.so.lives.spans → K host.so.lives.now → K (part_at i host.so.lives.spans host.so.lives.now)
  on_now C asks_c W X Z f host K i same is = let lives = host.so.lives in subst K (sym (ap (λ (n : ℕ). part_at n lives.spans lives.now) same ∙ part-now lives.spans lives.now)) is

  pub quiet_a_now : (e : carriages.End (Host P)) (host : HostAt A asks_a (Wants A) F H e) (i : ℕ) → i ≡ length host.so.lives.spans → IsQuiet e.upper.channels → SaysNone A.policy (part_at i host.so.lives.spans host.so.lives.now)
  quiet_a_now e host i same quiet = on_now A asks_a (Wants A) F H e host (SaysNone A.policy) i same (held-quiet A asks_a (Wants A) F allows_a.silent H e host quiet)

  pub quiet_b_now : (f : carriages.End (Host Q)) (host : HostAt B asks_b Always G J f) (i : ℕ) → i ≡ length host.so.lives.spans → IsQuiet f.upper.channels → SaysNone B.policy (part_at i host.so.lives.spans host.so.lives.now)
  quiet_b_now f host i same quiet = on_now B asks_b Always G J f host (SaysNone B.policy) i same (held-quiet B asks_b Always G allows_b.silent J f host quiet)

  pub fires_a : (free : Bool) (e : carriages.End (Host P)) (f : carriages.End (Host Q)) (g : List Circumstance) → F (Gifts g) → IsCalmNews A.policy TimerFired e.upper.channels → CanFire free e f → IsQuiet f.upper.channels → Before e f → Behind (told (upper A) g TimerFired e) f
  fires_a free e f g given calm can quiet both =
      let a = both.a.so.lives in
      let b = both.b.so.lives in
      let held = held_a whole most A asks_a B asks_b to_a F allows_a to_b G allows_b H J e f both in
      let level : length a.spans ≡ length b.spans = same_number whole most A asks_a B asks_b to_a F allows_a to_b G allows_b H J e f both can.owed can.far_owed in
      let after = fires-held A asks_a (Wants A) F allows_a.silent H (NearBy whole most) m B.policy both.number e (λ k. part_at k b.spans b.now) (length b.spans) f g free calm given can.waits can.coming can.owed can.far_owed can.far_coming can.enough held level
      can.still (quiet_b_now f both.b (length a.spans) level quiet) in
      record { number = both.number; a = after.host; b = both.b; level_a = after.level; level_b = both.level_b; links = after.links }

  pub fires_b : (free : Bool) (e : carriages.End (Host P)) (f : carriages.End (Host Q)) (g : List Circumstance) → G (Gifts g) → IsCalmNews B.policy TimerFired f.upper.channels → CanFire free f e → IsQuiet e.upper.channels → Before e f → Behind e (told (upper B) g TimerFired f)
  fires_b free e f g allowed calm can quiet both =
      let a = both.a.so.lives in
      let b = both.b.so.lives in
      let held = held_b whole most A asks_a B asks_b to_a F allows_a to_b G allows_b H J e f both in
      let level : length b.spans ≡ length a.spans = sym (same_number whole most A asks_a B asks_b to_a F allows_a to_b G allows_b H J e f both can.far_owed can.owed) in
      let after = fires-held B asks_b Always G allows_b.silent J (FarBy whole most) m A.policy both.number f (λ k. part_at k a.spans a.now) (length a.spans) e g free calm allowed can.waits can.coming can.owed can.far_owed can.far_coming can.enough held level
      can.still (quiet_a_now e both.a (length b.spans) level quiet) in
      let later = after.host.so.lives in
      record { number = both.number; a = both.a; b = after.host; level_a = both.level_a; level_b = after.level; links = turned-links (FarBy whole m) B.policy A.policy later.spans a.spans later.now a.now (told (upper B) g TimerFired f) e after.links }

  pub met_ab : (size : ℕ) (fate : Fate) (e : carriages.End (Host P)) (f : carriages.End (Host Q)) (e' : carriages.End (Host P)) (f' : carriages.End (Host Q)) → MeetsFate (answered_by to_b (upper B)) size fate e f e' f' → IsRight whole fate e.queue → fate_cost fate + most ≤ m → e.owed ≡ [] → f.owed ≡ [] → f.coming ≡ [] → has_fcs 0x0001 f.upper.channels ≡ false → IsQuiet e.upper.channels × IsQuiet f.upper.channels → (both : Before e f) → (f.linked ≡ true → J both.b.so.lives.now) → Behind e' f'
  met_ab size fate e f e' f' meeting right enough none_a none_b idle unchecked quiet both heard =
      let a = both.a.so.lives in
      let b = both.b.so.lives in
      let rest = (meets size fate meeting.checked meeting.frame).stays ++ meeting.rest in
      let talk = e.talk ++ Met fate meeting.checked ∷ [] in
      let e1 : carriages.End (Host P) = record e { queue = rest; talk = talk } in
      let f1 : carriages.End (Host Q) = record f { coming = comes_of size fate meeting.checked meeting.frame } in
      let level : length b.spans ≡ length a.spans = sym (same_number whole most A asks_a B asks_b to_a F allows_a to_b G allows_b H J e f both none_a none_b) in
      let links = met_links B (FarBy whole most) m A.policy b.spans b.now (λ k. part_at k a.spans a.now) (length a.spans) size fate e f meeting.frame meeting.rest meeting.checked meeting.is meeting.checked_is right enough level none_a idle b.channels_run unchecked
      ((held-quiet B asks_b Always G allows_b.silent J f both.b quiet.1).gives_none, (quiet_a_now e both.a (length b.spans) level quiet.0).gives_none)
      (turned-links (NearBy whole most) A.policy B.policy a.spans b.spans a.now b.now e f both.links) in
      let now : Behind e1 f1 = record {
        number = both.number;
        a = besides A asks_a (Wants A) F allows_a.silent H e talk rest e.coming e.owed (silent_marks e.talk e.waiting (Met fate meeting.checked) refl) (same_names e.talk (Met fate meeting.checked) refl) both.a both.a.comes;
        b = besides B asks_b Always G allows_b.silent J f f.talk f.queue (comes_of size fate meeting.checked meeting.frame) f.owed refl refl both.b (inr heard);
        level_a = both.level_a;
        level_b = both.level_b;
        links = turned-links (FarBy whole m) B.policy A.policy b.spans a.spans b.now a.now f1 e1 links;
      } in
      subst (λ (x : carriages.End (Host P)). Behind x f') (sym meeting.one_is) (subst (λ (y : carriages.End (Host Q)). Behind e1 y) (sym meeting.other_is) now)

  pub met_ba : (size : ℕ) (fate : Fate) (f : carriages.End (Host Q)) (e : carriages.End (Host P)) (f' : carriages.End (Host Q)) (e' : carriages.End (Host P)) → MeetsFate (answered_by to_a (upper A)) size fate f e f' e' → IsRight whole fate f.queue → fate_cost fate + most ≤ m → e.owed ≡ [] → f.owed ≡ [] → e.coming ≡ [] → has_fcs 0x0001 e.upper.channels ≡ false → IsQuiet e.upper.channels × IsQuiet f.upper.channels → (both : Before e f) → (e.linked ≡ true → H both.a.so.lives.now) → Behind e' f'
  met_ba size fate f e f' e' meeting right enough none_a none_b idle unchecked quiet both heard =
      let a = both.a.so.lives in
      let b = both.b.so.lives in
      let rest = (meets size fate meeting.checked meeting.frame).stays ++ meeting.rest in
      let talk = f.talk ++ Met fate meeting.checked ∷ [] in
      let f1 : carriages.End (Host Q) = record f { queue = rest; talk = talk } in
      let e1 : carriages.End (Host P) = record e { coming = comes_of size fate meeting.checked meeting.frame } in
      let level : length a.spans ≡ length b.spans = same_number whole most A asks_a B asks_b to_a F allows_a to_b G allows_b H J e f both none_a none_b in
      let now : Behind e1 f1 = record {
        number = both.number;
        a = besides A asks_a (Wants A) F allows_a.silent H e e.talk e.queue (comes_of size fate meeting.checked meeting.frame) e.owed refl refl both.a (inr heard);
        b = besides B asks_b Always G allows_b.silent J f talk rest f.coming f.owed (silent_marks f.talk f.waiting (Met fate meeting.checked) refl) (same_names f.talk (Met fate meeting.checked) refl) both.b both.b.comes;
        level_a = both.level_a;
        level_b = both.level_b;
        links = met_links A (NearBy whole most) m B.policy a.spans a.now (λ k. part_at k b.spans b.now) (length b.spans) size fate f e meeting.frame meeting.rest meeting.checked meeting.is meeting.checked_is right enough level none_b idle a.channels_run unchecked
            ((held-quiet A asks_a (Wants A) F allows_a.silent H e both.a quiet.0).gives_none, (quiet_b_now f both.b (length a.spans) level quiet.1).gives_none) both.links;
      } in
      subst (λ (x : carriages.End (Host P)). Behind x f') (sym meeting.other_is) (subst (λ (y : carriages.End (Host Q)). Behind e1 y) (sym meeting.one_is) now)

-- a host that is at rest, with nothing of it in the air
pub record IsStill {S : Type 0} (e : carriages.End S) : Type 0 where
  pub none_waits : e.waiting ≡ []
  pub none_comes : e.coming ≡ []
  pub none_owed : e.owed ≡ []
  pub none_air : e.queue ≡ []

-- the timers of both fire
module _ {P Q : Type 0} (whole : Bool) (most : ℕ) (A : Profile P) (asks_a : Asks A) (B : Profile Q) (asks_b : Asks B) (to_a : News → List Circumstance → List Circumstance) (F : Feed → Type 0) (allows_a : Allows to_a F) (to_b : News → List Circumstance → List Circumstance) (G : Feed → Type 0) (allows_b : Allows to_b G) (H J : List Occurrence → Type 0) where
  pub fires_both : (e : carriages.End (Host P)) (f : carriages.End (Host Q)) (g h : List Circumstance) → F (Gifts g) → G (Gifts h) → IsCalmNews A.policy TimerFired e.upper.channels → IsCalmNews B.policy TimerFired f.upper.channels → IsStill e → IsStill f
      → PairsOf whole most A asks_a B asks_b to_a F allows_a to_b G allows_b H J e f → PairsOf whole most A asks_a B asks_b to_a F allows_a to_b G allows_b H J (told (upper A) g TimerFired e) (told (upper B) h TimerFired f)
  fires_both e f g h given_a given_b calm_a calm_b still_a still_b both =
      let e' = told (upper A) g TimerFired e in
      let f' = told (upper B) h TimerFired f in
      let a = both.a.so.lives in
      let b = both.b.so.lives in
      let x = fires-host A asks_a (Wants A) F allows_a.silent H g e both.a calm_a given_a still_a.none_waits still_a.none_comes in
      let y = fires-host B asks_b Always G allows_b.silent J h f both.b calm_b given_b still_b.none_waits still_b.none_comes in
      let mine = x.front ++ Timer ∷ x.behind in
      let theirs = y.front ++ Timer ∷ y.behind in
      let one = a.now ++ x.front in
      let other = b.now ++ y.front in
      let put = e.queue ++ e.waiting in
      let left = f.queue ++ f.waiting in
      let none_put : put ≡ [] = ap (λ (l : List (List ℕ)). l ++ e.waiting) still_a.none_air ∙ still_a.none_waits in
      let none_left : left ≡ [] = ap (λ (l : List (List ℕ)). l ++ f.waiting) still_b.none_air ∙ still_b.none_waits in
      let level : length a.spans ≡ length b.spans = same_number whole most A asks_a B asks_b to_a F allows_a to_b G allows_b H J e f both still_a.none_owed still_b.none_owed in
      let here : (l : List Occurrence) → part_at (length a.spans) b.spans l ≡ l = λ l. ap (λ (n : ℕ). part_at n b.spans l) level ∙ part-now b.spans l in
      let fire : PairAt whole most A.policy B.policy a.now b.now [] left [] put → PairAt whole most A.policy B.policy (a.now ++ mine) (b.now ++ theirs) [] left [] put
      = λ p. subst (λ (l : List Occurrence). PairAt whole most A.policy B.policy (a.now ++ mine) l [] left [] put) (fired-list b.now y.front y.behind)
      (subst (λ (l : List Occurrence). PairAt whole most A.policy B.policy l ((other ++ Timer ∷ []) ++ y.behind) [] left [] put) (fired-list a.now x.front x.behind)
      (walks-still B asks_b Always G allows_b.silent J (FarBy whole most) A.policy ((one ++ Timer ∷ []) ++ x.behind) (other ++ Timer ∷ []) y.behind put left y.none_behind y.meant_behind
      (walks-still A asks_a (Wants A) F allows_a.silent H (NearBy whole most) B.policy (other ++ Timer ∷ []) (one ++ Timer ∷ []) x.behind left put x.none_behind x.meant_behind
      (fire-both whole most A.policy B.policy one other left put none_left none_put x.no_answer y.no_answer x.may y.may y.clear x.still_no_answer x.still_clear
      (walks-still B asks_b Always G allows_b.silent J (FarBy whole most) A.policy one b.now y.front put left y.none_front y.meant_front
      (walks-still A asks_a (Wants A) F allows_a.silent H (NearBy whole most) B.policy b.now a.now x.front left put x.none_front x.meant_front p)))))) in
      let links : Links (NearBy whole most) A.policy B.policy a.spans (a.now ++ mine) e' (λ k. part_at k b.spans (b.now ++ theirs)) (length b.spans) f'
      = fires-over (NearBy whole most) most A.policy B.policy a.spans a.now (a.now ++ mine) (λ k. part_at k b.spans b.now) (λ k. part_at k b.spans (b.now ++ theirs)) (length b.spans) e e' f f' level still_a.none_owed still_b.none_owed still_a.none_comes still_a.none_comes still_b.none_comes still_b.none_comes (omega arith) refl refl
      (λ k apart. part-else k b.spans b.now (b.now ++ theirs) (λ is. apart (is ∙ sym level)))
      (λ p. subst (λ (l : List Occurrence). PairAt whole most A.policy B.policy (a.now ++ mine) l [] left [] put) (sym (here (b.now ++ theirs))) (fire (subst (λ (l : List Occurrence). PairAt whole most A.policy B.policy a.now l [] left [] put) (here b.now) p))) both.links in
      let later = y.grown.after.so.lives in
      record {
        number = both.number;
        a = x.grown.after;
        b = y.grown.after;
        level_a = ap (λ (spans : List Span). length spans + length e.owed) x.grown.spans_is ∙ both.level_a;
        level_b = ap (λ (spans : List Span). length spans + length f.owed) y.grown.spans_is ∙ both.level_b;
        links = grown-links A asks_a (Wants A) F allows_a.silent H (NearBy whole most) B.policy e e' both.a mine x.grown (λ k. part_at k later.spans later.now) (length later.spans) f'
            (subst (λ (spans : List Span). Links (NearBy whole most) A.policy B.policy a.spans (a.now ++ mine) e' (λ k. part_at k spans later.now) (length spans) f') (sym y.grown.spans_is)
            (subst (λ (l : List Occurrence). Links (NearBy whole most) A.policy B.policy a.spans (a.now ++ mine) e' (λ k. part_at k b.spans l) (length b.spans) f') (sym y.grown.now_is) links));
      }
