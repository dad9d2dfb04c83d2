-- Whatever happens to two hosts, on each of their links they are the two ends of a pair.
use Rattle.std.proofs.Common.{◌≡◌, ◌⊎◌, inl, inr, ℕ, zero, suc, ◌+◌, ◌≤◌, Bool, true, false, List, [], ◌∷◌, ◌++◌, map, length, refl, sym, ap, subst, ◌∙◌, arith, if◌then◌else◌}
use Rattle.std.specs.List.{AllByRecursion, list_any}
use Rattle.std.proofs.lemmas.Bool.{cases_eq}
use Rattle.scenario_laws.specs.push_terms.specs.declared.word.Side.TheVariants as sides
use Rattle.scenario_laws.specs.push_terms.specs.declared.word.Way.TheVariants.{Ab, Ba}
use Rattle.scenario_laws.specs.radio_model.specs.Controllers.{is_empty}
use Rattle.scenario_laws.specs.radio_model.specs.declared.deed.Deed.{Deed}
use Rattle.scenario_laws.specs.radio_model.specs.declared.deed.Deed.TheVariants.{Nothing, Meets, Fires, FiresBoth, Breaks, Cancels}
use Rattle.channel_laws.specs.channel_model.specs.Giving.{gives, next_given}
use Rattle.channel_laws.specs.channel_model.specs.Policies.{Policy}
use Rattle.channel_laws.specs.channel_model.specs.Value.{no_channels}
use Rattle.channel_laws.specs.Pairs.{pair_of}
use Rattle.channel_laws.specs.Runs.{Occurrence, Run}
use Rattle.passing_laws.specs.Words.{AreSilent}
use Rattle.scenario_laws.specs.world_model.specs.Machines.{LinkEvent, Up, Down, News, Linked, Heard, TimerFired, Cancelled, Opening, Upper}
use Rattle.scenario_laws.specs.world_model.specs.Talks.{Done}
use Rattle.scenario_laws.specs.world_model.specs.Carriages.{Carriage, Motion, Saying, Departure, Arrival, Telling, DoesMotion, IsIdle, IsAtRest, MeetsFate, Doing, Moved, Deeds, Misses, Rises, Falls, Opens, Closes, ActsOn, finds, told, owing, IsDone, first_carriage, words_at, all_words}
use Rattle.scenario_laws.specs.world_model.specs.Carriages as carriages
use Rattle.scenario_laws.specs.turn_laws.proofs.Advancing.{Both, advances}
use Rattle.scenario_laws.specs.turn_laws.proofs.Finishing.{nothing_more}
use Rattle.scenario_laws.specs.turn_laws.proofs.Recounting.{IsOfScript, RestsIn, CarriesSo}
use Rattle.scenario_laws.specs.turn_laws.proofs.Running.{first_both}
use Rattle.scenario_laws.specs.turn_laws.proofs.Standing.{Sound, quiet_there, idle_linked}
use Rattle.scenario_laws.specs.host_model.specs.Circumstances.{Circumstance}
use Rattle.scenario_laws.specs.host_model.specs.Hosts.{Host, next}
use Rattle.scenario_laws.specs.host_model.specs.Profiles.{Profile}
use Rattle.scenario_laws.specs.host_model.specs.Machines.{upper}
use Rattle.host_laws.specs.Acts.{Says, Acting}
use Rattle.host_laws.specs.Asked.{IsOfLink, IsWantedAt}
use Rattle.host_laws.specs.Calls.{Asks}
use Rattle.host_laws.specs.Calm.{HoldsNothingBack, IsCalmNews}
use Rattle.host_laws.specs.Feeds.{Feed}
use Rattle.host_laws.specs.Read.{IsSoberPdu}
use Rattle.host_laws.specs.Seen.{IsQuiet, FiresPlainly}
use Rattle.host_laws.proofs.Fitting.{IsProper, KeepsFit, FitHost}
use Rattle.host_laws.proofs.Living.{first_lives}
use Rattle.host_laws.proofs.OverLinks.{first_calmly, first-asked}
use Rattle.host_laws.proofs.ReadSo.{reads-so}
use Rattle.scenario_laws.proofs.Both.{ActedEnd, ActedBoth, AreReady, done_both}
use Rattle.scenario_laws.proofs.Acting.{first_acted}
use Rattle.scenario_laws.proofs.Free.{free_where}
use Rattle.scenario_laws.proofs.Gentle.{host-tames}
use Rattle.scenario_laws.proofs.Taming.{AreTame, TameEnd, TameBoth, done-tame}
use Rattle.scenario_laws.proofs.Unlinked.{IsOff, Keeps, acts_off}
use Rattle.pair_laws.specs.Granted.{answered_by}
use Rattle.pair_laws.proofs.Abreast.{off_on, HasToldAll, Awaits, Abreast, done-abreast, first-abreast}
use Rattle.pair_laws.proofs.Answered.{idle_so, rests-so, done-so}
use Rattle.pair_laws.proofs.Given.{Allows, first-served}
use Rattle.pair_laws.specs.Costs.{adverse_in}
use Rattle.pair_laws.proofs.Facing.{View, NearBy, FarBy, PairFrom, GivesNone, new_at}
use Rattle.pair_laws.proofs.Meeting.{IsRightDeed, deed_cost, word-right, word-cost, IsGentle, adverse-both}
use Rattle.pair_laws.proofs.Handover.{IsHanded, HandsOver, done-hands}
use Rattle.pair_laws.proofs.Numbered.{part_at, coming_at, coming_none, Links}
pub use Rattle.pair_laws.proofs.Paired.{Wants, Always, StayOn, as_it_is, any_allowed, same_number}
use Rattle.pair_laws.proofs.Paired.{PairsOf, held_a, held_b, on_a, on_b, owes_up, owes_down, is_done, richer_pairs, quiet_a_now, quiet_b_now, fires_a, fires_b, met_ab, met_ba, fires_both}
use Rattle.pair_laws.proofs.Hosting.{HostAt, Held, IsWord, says-held, moves-held, told-held, hears-held, turns-held}

-- ---- one host

-- what comes in does so on a link
comes_on : {S G : Type 0} (U : Upper S G) (link : Bool) (e : carriages.End S) (pdu : List ℕ) → Sound U link e → e.coming ≡ pdu ∷ [] → e.linked ≡ true
comes_on U link e pdu sound first = by e.linked refl
  where
    by : (linked : Bool) → e.linked ≡ linked → e.linked ≡ true
    by true is = is
    by false is = let never : pdu ∷ [] ≡ [] = sym first ∙ sound.off_coming is in cc

module _ {P : Type 0} (A : Profile P) (asks : Asks A) (K R : P → Type 0) (keeps : KeepsFit A IsSoberPdu (IsProper A.policy) K) (away : Keeps A R) where
  abbrev Fit : Host P → Type 0
  Fit host = FitHost (IsProper A.policy) K host

  -- what is so of it, whatever happened
  pub record Fine (link : Bool) (e : carriages.End (Host P)) : Type 0 where
    pub sound : Sound (upper A) link e
    pub acted : ActedEnd (upper A) (free_where A) e
    pub tame : TameEnd Fit e

  no_more : (waiting : List (List ℕ)) (mid now : Host P) → waiting ≡ [] → Acting (upper A) (map Says waiting) mid now → now ≡ mid
  no_more [] mid now none says = says
  no_more (pdu ∷ waiting) mid now none says = cc

  off_now : (link : Bool) (e : carriages.End (Host P)) → Fine link e → e.linked ≡ false → IsOff R e.upper.channels e.upper.profile
  off_now link e fine down =
      let acted = fine.acted.acted in
      let over = acted.went.went.over in
      let there = acts_off A R away over.acts false (upper A).first acted.mid over.acting over.in_turn (λ is. record { channels_are = refl; profile_is = away.first }) (acted.went.went.up_is ∙ down) in
      subst (λ (host : Host P). IsOff R host.channels host.profile) (sym (no_more e.waiting acted.mid e.upper (acted.down down) acted.says)) there

  pub waits_none : (link : Bool) (e : carriages.End (Host P)) → Fine link e → IsIdle (upper A) e → e.waiting ≡ []
  waits_none link e fine idle = by e.linked refl
    where
      by : (linked : Bool) → e.linked ≡ linked → e.waiting ≡ []
      by true is = (idle.said_all is).none_waits
      by false is = fine.sound.off_waiting is

  plain_firing : FiresPlainly A.policy no_channels
  plain_firing empty = record { waits = refl; due = tt }

  calm_firing : (link : Bool) (e : carriages.End (Host P)) → Fine link e → IsIdle (upper A) e → (e.linked ≡ true → free_where A true e.upper) → IsCalmNews A.policy TimerFired e.upper.channels
  calm_firing link e fine idle free = by e.linked refl
    where
      by : (linked : Bool) → e.linked ≡ linked → IsCalmNews A.policy TimerFired e.upper.channels
      by true is = let so = free is in (so.0 (idle.said_all is).none_next, so.1)
      by false is = let off = off_now link e fine is in (ap next_given off.channels_are, subst (FiresPlainly A.policy) (sym off.channels_are) plain_firing)

  -- at rest it has nothing to give
  pub quiet_resting : (link : Bool) (e : carriages.End (Host P)) → Fine link e → IsIdle (upper A) e → (e.linked ≡ true → free_where A false e.upper) → IsQuiet e.upper.channels
  quiet_resting link e fine idle free = by e.linked refl
    where
      by : (linked : Bool) → e.linked ≡ linked → IsQuiet e.upper.channels
      by true is = free is (idle.said_all is).none_next
      by false is = ap next_given (off_now link e fine is).channels_are

  calm_hearing : (link : Bool) (e : carriages.End (Host P)) (pdu : List ℕ) → Fine link e → e.coming ≡ pdu ∷ [] → IsCalmNews A.policy (Heard pdu) e.upper.channels
  calm_hearing link e pdu fine first =
      let quiet = quiet_there (upper A) e pdu [] fine.sound.hearing first in
      let tame : AreTame (pdu ∷ []) = subst AreTame first fine.tame.coming in
      (by fine.acted.ready quiet.none_next, λ here. let one = tame.0.1 here in (tame.0.0, omega (arith, one)))
    where
      by : (e.coming ≡ []) ⊎ (e.linked ≡ true → HoldsNothingBack A e.upper) → HoldsNothingBack A e.upper
      by (inl none) = let never : pdu ∷ [] ≡ [] = sym first ∙ none in cc
      by (inr ready) = ready (comes_on (upper A) link e pdu fine.sound first)

-- where its ports answer so, and that is so
module _ {P : Type 0} (A : Profile P) (asks : Asks A) (K R : P → Type 0) (keeps : KeepsFit A IsSoberPdu (IsProper A.policy) K) (away : Keeps A R)
    (to : News → List Circumstance → List Circumstance) (G : Feed → Type 0) (allows : Allows to G) (H : List Occurrence → Type 0) where
  wanted_by : (W : P → Type 0) (event : LinkEvent) (more : List LinkEvent) (gifts : List Circumstance) (e : carriages.End (Host P)) → e.owed ≡ event ∷ more → ((answers : List Circumstance) (rest : List LinkEvent) → e.owed ≡ Up ∷ rest → W (A.given answers e.upper.profile)) → IsWantedAt W event (A.given gifts e.upper.profile)
  wanted_by W Up more gifts e first wants = wants gifts more first
  wanted_by W (Down reason) more gifts e first wants = tt

  motion_held : {T : Type 0} (W : P → Type 0) (side : View) (theirs : Policy) (number : ℕ) (link : Bool) (motion : Motion) (e e' : carriages.End (Host P)) (other : ℕ → List Occurrence) (j : ℕ) (f : carriages.End T) → DoesMotion (answered_by to (upper A)) motion e e' → Fine A asks K R keeps away link e
      → ((answers : List Circumstance) (rest : List LinkEvent) → e.owed ≡ Up ∷ rest → W (A.given answers e.upper.profile)) → (held : Held side A asks W G H theirs number e other j f) → (e.coming ≡ []) ⊎ GivesNone theirs (other (length held.host.so.lives.spans)) → Held side A asks W G H theirs number e' other j f
  motion_held W side theirs number link (Saying pdu) e e' other j f does fine wants held far =
      subst (λ (x : carriages.End (Host P)). Held side A asks W G H theirs number x other j f) (sym does.is)
      (says-held A asks W G allows.silent H side theirs number e other j f pdu does.after does.next (reads-so A e.upper does.after pdu fine.tame.upper.channels does.next) does.none_comes held)
  motion_held W side theirs number link (Departure pdu) e e' other j f does fine wants held far =
      subst (λ (x : carriages.End (Host P)). Held side A asks W G H theirs number x other j f) (sym does.is) (moves-held A asks W G allows.silent H side theirs number e other j f pdu does.left does.first held)
  motion_held W side theirs number link (Arrival pdu) e e' other j f does fine wants held far =
      let quiet = quiet_there (upper A) e pdu [] fine.sound.hearing does.first in
      let far_none : GivesNone theirs (other (length held.host.so.lives.spans)) = elim far [ inl none ↦ (let never = sym does.first ∙ none in cc) | inr none ↦ none ] in
      subst (λ (x : carriages.End (Host P)). Held side A asks W G H theirs number x other j f) (sym does.is)
      (hears-held A asks W G allows.silent H side theirs number e other j f (to (Heard pdu) does.answers) pdu (calm_hearing A asks K R keeps away link e pdu fine does.first) (allows.given (Heard pdu) does.answers) (comes_on (upper A) link e pdu fine.sound does.first) quiet.none_waits does.first held far_none)
  motion_held W side theirs number link (Telling event) e e' other j f does fine wants held far =
      subst (λ (x : carriages.End (Host P)). Held side A asks W G H theirs number x other j f) (sym does.is)
      (turns-held A asks W G allows.silent H side theirs number e other j f (to (Linked event) does.answers) event does.more does.first (wanted_by W event does.more (to (Linked event) does.answers) e does.first wants) (allows.given (Linked event) does.answers) does.none_comes (fine.sound.owed_queue (ap (λ (l : List LinkEvent). is_empty l) does.first)) held)

first_rests : {S T : Type 0} (X Y : Carriage S T → Type 0) (doing : Doing) (c : Carriage S T) → RestsIn (λ c. X c × Y c) doing c → RestsIn X doing c
first_rests X Y (Deeds word) c rests = rests.0
first_rests X Y (Misses word) c rests = tt
first_rests X Y (Moved side motion) c rests = tt
first_rests X Y Rises c rests = tt
first_rests X Y (Falls by) c rests = tt
first_rests X Y (Opens name) c rests = tt
first_rests X Y (Closes outcome) c rests = tt

none_at : (k : ℕ) → part_at k [] [] ≡ []
none_at zero = refl
none_at (suc k) = refl

first_links : {S T G H : Type 0} (whole : Bool) (most : ℕ) (U : Upper S G) (V : Upper T H) (near far : Policy) → Links (NearBy whole most) near far [] [] (carriages.first_end U) (λ k. part_at k [] []) 0 (carriages.first_end V)
first_links whole most U V near far k = record {
  rest = [];
  far_rest = [];
  pair = subst (λ (c : List (List ℕ)). PairFrom (NearBy whole most) near far (part_at k [] []) (part_at k [] []) c [] (coming_at k 0 []) []) (sym (coming_none k 0 [] (cases_eq k 0) refl))
      (subst (λ (c : List (List ℕ)). PairFrom (NearBy whole most) near far (part_at k [] []) (part_at k [] []) [] [] c []) (sym (coming_none k 0 [] (cases_eq k 0) refl))
      (subst (λ (l : List Occurrence). PairFrom (NearBy whole most) near far l l [] [] [] []) (sym (none_at k)) (new_at whole most near far)));
  none_put = λ below. refl;
  now_put = λ same owed. refl;
  none_far = λ below. refl;
  now_far = λ same owed. refl;
}

module _ {P Q : Type 0} (whole : Bool) (A : Profile P) (asks_a : Asks A) (B : Profile Q) (asks_b : Asks B) (K R : P → Type 0) (L S : Q → Type 0) (keeps_a : KeepsFit A IsSoberPdu (IsProper A.policy) K) (keeps_b : KeepsFit B IsSoberPdu (IsProper B.policy) L) (away_a : Keeps A R) (away_b : Keeps B S)
    (F : Host Q → Type 0) (awaits : Awaits (upper A) (upper B) HasToldAll F) (same_wish : (gifts : List Circumstance) (p : P) → A.wants_link (A.given gifts p) ≡ A.wants_link p)
    (to_a : News → List Circumstance → List Circumstance) (E : Feed → Type 0) (allows_a : Allows to_a E) (to_b : News → List Circumstance → List Circumstance) (G : Feed → Type 0) (allows_b : Allows to_b G)
    (H J : List Occurrence → Type 0) (Z : Host P → Type 0) (Y : Host Q → Type 0) (so_a : (e : carriages.End (Host P)) (host : HostAt A asks_a (Wants A) E H e) → e.linked ≡ true → Z e.upper → H host.so.lives.now)
    (so_b : (f : carriages.End (Host Q)) (host : HostAt B asks_b Always G J f) → f.linked ≡ true → Y f.upper → J host.so.lives.now) where
  -- both hosts where their ports answer so
  abbrev U : Upper (Host P) Circumstance
  U = answered_by to_a (upper A)

  abbrev V : Upper (Host Q) Circumstance
  V = answered_by to_b (upper B)

  abbrev Quiet : {R : Type 0} → Host R → Type 0
  Quiet host = IsQuiet host.channels

  pub record Sane (most : ℕ) (c : Carriage (Host P) (Host Q)) : Type 0 where
    pub both : Both (upper A) (upper B) c
    pub acted : ActedBoth (upper A) (upper B) (free_where A) (free_where B) c
    pub tame : TameBoth (FitHost (IsProper A.policy) K) (FitHost (IsProper B.policy) L) c
    pub pairs : PairsOf whole most A asks_a B asks_b to_a E allows_a to_b G allows_b H J c.a c.b
    pub abreast : Abreast (upper A) (upper B) HasToldAll F c
    pub hands : HandsOver (upper A) (upper B) Quiet Quiet c

  fine_a : (most : ℕ) (c : Carriage (Host P) (Host Q)) → Sane most c → Fine A asks_a K R keeps_a away_a c.link c.a
  fine_a most c sane = record { sound = sane.both.a; acted = sane.acted.a; tame = sane.tame.a }

  fine_b : (most : ℕ) (c : Carriage (Host P) (Host Q)) → Sane most c → Fine B asks_b L S keeps_b away_b c.link c.b
  fine_b most c sane = record { sound = sane.both.b; acted = sane.acted.b; tame = sane.tame.b }

  abbrev PairsIn : ℕ → Carriage (Host P) (Host Q) → Type 0
  PairsIn most c = PairsOf whole most A asks_a B asks_b to_a E allows_a to_b G allows_b H J c.a c.b

  word_a : (most : ℕ) (c : Carriage (Host P) (Host Q)) (g : List Circumstance) (news : News) → IsWord A asks_a (Wants A) E allows_a.silent H news → (c.a.linked ≡ true → IsOfLink news) → IsCalmNews A.policy news c.a.upper.channels → IsIdle (upper A) c.a → Sane most c → PairsOf whole most A asks_a B asks_b to_a E allows_a to_b G allows_b H J (told U g news c.a) c.b
  word_a most c g news word of calm idle sane =
      let both = sane.pairs in
      let b = both.b.so.lives in
      on_a whole most A asks_a B asks_b to_a E allows_a to_b G allows_b H J c.a (told U g news c.a) c.b both
      (told-held A asks_a (Wants A) E allows_a.silent H (NearBy whole most) B.policy both.number c.a (λ k. part_at k b.spans b.now) (length b.spans) c.b (to_a news g) news word of calm (allows_a.given news g) (allows_a.told news g) (waits_none A asks_a K R keeps_a away_a c.link c.a (fine_a most c sane) idle) idle.none_comes (held_a whole most A asks_a B asks_b to_a E allows_a to_b G allows_b H J c.a c.b both))

  -- ---- timers

  abbrev Ready : Carriage (Host P) (Host Q) → Type 0
  Ready c = AreReady (upper A) (upper B) (free_where A) (free_where B) c × StayOn Z Y c

  calm_a : (most : ℕ) (c : Carriage (Host P) (Host Q)) → IsIdle (upper A) c.a → Ready c → Sane most c → (upper A).armed c.a.upper ≡ true → IsCalmNews A.policy TimerFired c.a.upper.channels
  calm_a most c idle ready sane armed = calm_firing A asks_a K R keeps_a away_a c.link c.a (fine_a most c sane) idle (λ on. (ready.0.0 on).1 armed)

  calm_b : (most : ℕ) (c : Carriage (Host P) (Host Q)) → IsIdle (upper B) c.b → Ready c → Sane most c → (upper B).armed c.b.upper ≡ true → IsCalmNews B.policy TimerFired c.b.upper.channels
  calm_b most c idle ready sane armed = calm_firing B asks_b L S keeps_b away_b c.link c.b (fine_b most c sane) idle (λ on. (ready.0.1 on).1 armed)

  -- at rest neither has anything to say
  quiet_a : (most : ℕ) (c : Carriage (Host P) (Host Q)) → IsAtRest (upper A) (upper B) c → Ready c → Sane most c → IsQuiet c.a.upper.channels
  quiet_a most c rest ready sane = quiet_resting A asks_a K R keeps_a away_a c.link c.a (fine_a most c sane) rest.idle_a (λ on. (ready.0.0 on).0)

  quiet_b : (most : ℕ) (c : Carriage (Host P) (Host Q)) → IsAtRest (upper A) (upper B) c → Ready c → Sane most c → IsQuiet c.b.upper.channels
  quiet_b most c rest ready sane = quiet_resting B asks_b L S keeps_b away_b c.link c.b (fine_b most c sane) rest.idle_b (λ on. (ready.0.1 on).0)

  -- so both are silent on the link on which they are
  pub rests-silent : (most : ℕ) (c : Carriage (Host P) (Host Q)) → IsAtRest (upper A) (upper B) c → Ready c → (sane : Sane most c) → AreSilent (pair_of A.policy B.policy (sane.pairs.links (length sane.pairs.a.so.lives.spans)).pair.turns)
  rests-silent most c rest ready sane =
      let both = sane.pairs in
      let i = length both.a.so.lives.spans in
      let link = (both.links i).pair in
      let a = quiet_a_now whole most most A asks_a B asks_b to_a E allows_a to_b G allows_b H J c.a both.a i refl (quiet_a most c rest ready sane) in
      let b = quiet_b_now whole most most A asks_a B asks_b to_a E allows_a to_b G allows_b H J c.b both.b i (same_number whole most A asks_a B asks_b to_a E allows_a to_b G allows_b H J c.a c.b both rest.idle_a.none_owed rest.idle_b.none_owed) (quiet_b most c rest ready sane) in
      record { near_none = ap (λ (r : Run). list_any gives r.value.held) link.near_is ∙ a.gives_none; far_none = ap (λ (r : Run). list_any gives r.value.held) link.far_is ∙ b.gives_none }

  quiet_at : (most : ℕ) (doing : Doing) (old new : Carriage (Host P) (Host Q)) → IsDone (upper A) (upper B) doing old new → RestsIn Ready doing old → Sane most old → RestsIn (λ (c : Carriage (Host P) (Host Q)). IsQuiet c.a.upper.channels × IsQuiet c.b.upper.channels) doing old
  quiet_at most (Deeds word) old new (rest, acts) ready sane = (quiet_a most old rest ready sane, quiet_b most old rest ready sane)
  quiet_at most (Misses word) old new does ready sane = tt
  quiet_at most (Moved side motion) old new does ready sane = tt
  quiet_at most Rises old new does ready sane = tt
  quiet_at most (Falls by) old new does ready sane = tt
  quiet_at most (Opens name) old new does ready sane = tt
  quiet_at most (Closes outcome) old new does ready sane = tt

  -- alone
  fires_one_a : (most m : ℕ) (c : Carriage (Host P) (Host Q)) (g : List Circumstance) → 1 + most ≤ m → (upper A).armed c.a.upper ≡ true → IsAtRest (upper A) (upper B) c → Ready c → Sane most c → PairsOf whole m A asks_a B asks_b to_a E allows_a to_b G allows_b H J (told U g TimerFired c.a) c.b
  fires_one_a most m c g enough armed rest ready sane =
      fires_a whole most m A asks_a B asks_b to_a E allows_a to_b G allows_b H J false c.a c.b (to_a TimerFired g) (allows_a.given TimerFired g) (calm_a most c rest.idle_a ready sane armed)
      (record { waits = waits_none A asks_a K R keeps_a away_a c.link c.a (fine_a most c sane) rest.idle_a; coming = rest.idle_a.none_comes; owed = rest.idle_a.none_owed; far_coming = rest.idle_b.none_comes; far_owed = rest.idle_b.none_owed; enough = enough; still = λ on. cc })
      (quiet_b most c rest ready sane) sane.pairs

  fires_one_b : (most m : ℕ) (c : Carriage (Host P) (Host Q)) (h : List Circumstance) → 1 + most ≤ m → (upper B).armed c.b.upper ≡ true → IsAtRest (upper A) (upper B) c → Ready c → Sane most c → PairsOf whole m A asks_a B asks_b to_a E allows_a to_b G allows_b H J c.a (told V h TimerFired c.b)
  fires_one_b most m c h enough armed rest ready sane =
      fires_b whole most m A asks_a B asks_b to_a E allows_a to_b G allows_b H J false c.a c.b (to_b TimerFired h) (allows_b.given TimerFired h) (calm_b most c rest.idle_b ready sane armed)
      (record { waits = waits_none B asks_b L S keeps_b away_b c.link c.b (fine_b most c sane) rest.idle_b; coming = rest.idle_b.none_comes; owed = rest.idle_b.none_owed; far_coming = rest.idle_a.none_comes; far_owed = rest.idle_a.none_owed; enough = enough; still = λ on. cc })
      (quiet_a most c rest ready sane) sane.pairs

  -- each that is armed, where nothing is in the air
  fires_two : (most : ℕ) (c : Carriage (Host P) (Host Q)) (g h : List Circumstance) (one other : Bool) → (upper A).armed c.a.upper ≡ one → (upper B).armed c.b.upper ≡ other → IsAtRest (upper A) (upper B) c → Ready c → c.a.queue ≡ [] → c.b.queue ≡ [] → Sane most c
      → PairsOf whole most A asks_a B asks_b to_a E allows_a to_b G allows_b H J (if one then told U g TimerFired c.a else c.a) (if other then told V h TimerFired c.b else c.b)
  fires_two most c g h one other armed_a armed_b rest ready none_a none_b sane = by one other armed_a armed_b
    where
      waits_a : c.a.waiting ≡ []
      waits_a = waits_none A asks_a K R keeps_a away_a c.link c.a (fine_a most c sane) rest.idle_a

      waits_b : c.b.waiting ≡ []
      waits_b = waits_none B asks_b L S keeps_b away_b c.link c.b (fine_b most c sane) rest.idle_b

      by : (one other : Bool) → (upper A).armed c.a.upper ≡ one → (upper B).armed c.b.upper ≡ other
          → PairsOf whole most A asks_a B asks_b to_a E allows_a to_b G allows_b H J (if one then told U g TimerFired c.a else c.a) (if other then told V h TimerFired c.b else c.b)
      by false false armed_a armed_b = sane.pairs
      by true false armed_a armed_b =
          fires_a whole most most A asks_a B asks_b to_a E allows_a to_b G allows_b H J true c.a c.b (to_a TimerFired g) (allows_a.given TimerFired g) (calm_a most c rest.idle_a ready sane armed_a)
          (record { waits = waits_a; coming = rest.idle_a.none_comes; owed = rest.idle_a.none_owed; far_coming = rest.idle_b.none_comes; far_owed = rest.idle_b.none_owed; enough = omega arith; still = λ on. (none_a, ap (λ (l : List (List ℕ)). l ++ c.b.waiting) none_b ∙ waits_b) })
          (quiet_b most c rest ready sane) sane.pairs
      by false true armed_a armed_b =
          fires_b whole most most A asks_a B asks_b to_a E allows_a to_b G allows_b H J true c.a c.b (to_b TimerFired h) (allows_b.given TimerFired h) (calm_b most c rest.idle_b ready sane armed_b)
          (record { waits = waits_b; coming = rest.idle_b.none_comes; owed = rest.idle_b.none_owed; far_coming = rest.idle_a.none_comes; far_owed = rest.idle_a.none_owed; enough = omega arith; still = λ on. (none_b, ap (λ (l : List (List ℕ)). l ++ c.a.waiting) none_a ∙ waits_a) })
          (quiet_a most c rest ready sane) sane.pairs
      by true true armed_a armed_b =
          fires_both whole most A asks_a B asks_b to_a E allows_a to_b G allows_b H J c.a c.b (to_a TimerFired g) (to_b TimerFired h) (allows_a.given TimerFired g) (allows_b.given TimerFired h) (calm_a most c rest.idle_a ready sane armed_a) (calm_b most c rest.idle_b ready sane armed_b)
          (record { none_waits = waits_a; none_comes = rest.idle_a.none_comes; none_owed = rest.idle_a.none_owed; none_air = none_a }) (record { none_waits = waits_b; none_comes = rest.idle_b.none_comes; none_owed = rest.idle_b.none_owed; none_air = none_b }) sane.pairs

  -- ---- deeds

  enriched : (most m : ℕ) (e : carriages.End (Host P)) (f : carriages.End (Host Q)) → 0 + most ≤ m → PairsOf whole most A asks_a B asks_b to_a E allows_a to_b G allows_b H J e f → PairsOf whole m A asks_a B asks_b to_a E allows_a to_b G allows_b H J e f
  enriched most m e f enough both = richer_pairs whole most m A asks_a B asks_b to_a E allows_a to_b G allows_b H J e f (omega (arith, enough)) both

  deed_pairs : (most m : ℕ) (deed : Deed) (old new : Carriage (Host P) (Host Q)) → deed_cost deed + most ≤ m → IsAtRest (upper A) (upper B) old → Ready old → IsRightDeed whole deed old.a.queue old.b.queue → ActsOn U V deed old new → Sane most old → PairsIn m new
  deed_pairs most m Nothing old new enough rest ready right acts sane = absurd acts
  deed_pairs most m (Meets Ab fate) old new enough rest ready right (e, f, meeting, same) sane =
      subst (PairsIn m) (sym same) (met_ab whole most m A asks_a B asks_b to_a E allows_a to_b G allows_b H J old.size fate old.a old.b e f meeting right enough rest.idle_a.none_owed rest.idle_b.none_owed rest.idle_b.none_comes ((host-tames B L keeps_b).unchecked old.b.upper sane.tame.b.upper) (quiet_a most old rest ready sane, quiet_b most old rest ready sane) sane.pairs (λ on. so_b old.b sane.pairs.b on (ready.1.1 on)))
  deed_pairs most m (Meets Ba fate) old new enough rest ready right (e, f, meeting, same) sane =
      subst (PairsIn m) (sym same) (met_ba whole most m A asks_a B asks_b to_a E allows_a to_b G allows_b H J old.size fate old.b old.a f e meeting right enough rest.idle_a.none_owed rest.idle_b.none_owed rest.idle_a.none_comes ((host-tames A K keeps_a).unchecked old.a.upper sane.tame.a.upper) (quiet_a most old rest ready sane, quiet_b most old rest ready sane) sane.pairs (λ on. so_a old.a sane.pairs.a on (ready.1.0 on)))
  deed_pairs most m (Fires sides.A) old new enough rest ready right (armed, g, same) sane = subst (PairsIn m) (sym same) (fires_one_a most m old g enough armed rest ready sane)
  deed_pairs most m (Fires sides.B) old new enough rest ready right (armed, h, same) sane = subst (PairsIn m) (sym same) (fires_one_b most m old h enough armed rest ready sane)
  deed_pairs most m FiresBoth old new enough rest ready right (armed, g, h, same) sane =
      let e' = if (upper A).armed old.a.upper then told U g TimerFired old.a else old.a in
      let f' = if (upper B).armed old.b.upper then told V h TimerFired old.b else old.b in
      subst (PairsIn m) (sym same) (enriched most m e' f' enough (fires_two most old g h ((upper A).armed old.a.upper) ((upper B).armed old.b.upper) refl refl rest ready right.0 right.1 sane))
  deed_pairs most m Breaks old new enough rest ready right same sane =
      subst (PairsIn m) (sym same) (enriched most m (owing (Down 0x08) old.a) (owing (Down 0x08) old.b) enough (owes_down whole most A asks_a B asks_b to_a E allows_a to_b G allows_b H J 0x08 0x08 old.a old.b sane.pairs))
  deed_pairs most m Cancels old new enough rest ready right (may, g, same) sane =
      subst (PairsIn m) (sym same) (enriched most m (told U g Cancelled old.a) old.b enough (word_a most old g Cancelled tt (λ on. tt) tt rest.idle_a sane))

  -- while something comes into one of them the other has nothing to give
  far_of_a : (most : ℕ) (c : Carriage (Host P) (Host Q)) (sane : Sane most c) → (c.a.coming ≡ []) ⊎ GivesNone B.policy (part_at (length sane.pairs.a.so.lives.spans) sane.pairs.b.so.lives.spans sane.pairs.b.so.lives.now)
  far_of_a most c sane = by sane.hands.to_a
    where
      by : IsHanded (upper B) Quiet c.link c.b c.a → (c.a.coming ≡ []) ⊎ GivesNone B.policy (part_at (length sane.pairs.a.so.lives.spans) sane.pairs.b.so.lives.spans sane.pairs.b.so.lives.now)
      by (inl none) = inl none
      by (inr rests) =
          let both = sane.pairs in
          inr (quiet_b_now whole most most A asks_a B asks_b to_a E allows_a to_b G allows_b H J c.b both.b (length both.a.so.lives.spans) (same_number whole most A asks_a B asks_b to_a E allows_a to_b G allows_b H J c.a c.b both rests.none_owed rests.idle.none_owed) rests.quiet).gives_none

  far_of_b : (most : ℕ) (c : Carriage (Host P) (Host Q)) (sane : Sane most c) → (c.b.coming ≡ []) ⊎ GivesNone A.policy (part_at (length sane.pairs.b.so.lives.spans) sane.pairs.a.so.lives.spans sane.pairs.a.so.lives.now)
  far_of_b most c sane = by sane.hands.to_b
    where
      by : IsHanded (upper A) Quiet c.link c.a c.b → (c.b.coming ≡ []) ⊎ GivesNone A.policy (part_at (length sane.pairs.b.so.lives.spans) sane.pairs.a.so.lives.spans sane.pairs.a.so.lives.now)
      by (inl none) = inl none
      by (inr rests) =
          let both = sane.pairs in
          inr (quiet_a_now whole most most A asks_a B asks_b to_a E allows_a to_b G allows_b H J c.a both.a (length both.b.so.lives.spans) (sym (same_number whole most A asks_a B asks_b to_a E allows_a to_b G allows_b H J c.a c.b both rests.idle.none_owed rests.none_owed)) rests.quiet).gives_none

  -- what is done costs as many adverse words as it is one of
  done_pairs : (most m : ℕ) (doing : Doing) (old new : Carriage (Host P) (Host Q)) → adverse_in (words_at doing) + most ≤ m → IsOfScript doing → IsGentle whole doing → IsDone U V doing old new → RestsIn Ready doing old → Sane most old → PairsIn m new
  done_pairs most m (Moved sides.A motion) old new enough script gentle (e, does, same) ready sane =
      let both = sane.pairs in
      let b = both.b.so.lives in
      subst (PairsIn m) (sym same)
      (enriched most m e old.b enough
      (on_a whole most A asks_a B asks_b to_a E allows_a to_b G allows_b H J old.a e old.b both (motion_held A asks_a K R keeps_a away_a to_a E allows_a H (Wants A) (NearBy whole most) B.policy both.number old.link motion old.a e (λ k. part_at k b.spans b.now) (length b.spans) old.b does (fine_a most old sane)
      (λ gifts more first. same_wish gifts old.a.upper.profile ∙ sane.abreast.wants more first) (held_a whole most A asks_a B asks_b to_a E allows_a to_b G allows_b H J old.a old.b both) (far_of_a most old sane))))
  done_pairs most m (Moved sides.B motion) old new enough script gentle (f, does, same) ready sane =
      let both = sane.pairs in
      let a = both.a.so.lives in
      subst (PairsIn m) (sym same)
      (enriched most m old.a f enough
      (on_b whole most A asks_a B asks_b to_a E allows_a to_b G allows_b H J old.a old.b f both (motion_held B asks_b L S keeps_b away_b to_b G allows_b J Always (FarBy whole most) A.policy both.number old.link motion old.b f (λ k. part_at k a.spans a.now) (length a.spans) old.a does (fine_b most old sane)
      (λ gifts more first. tt) (held_b whole most A asks_a B asks_b to_a E allows_a to_b G allows_b H J old.a old.b both) (far_of_b most old sane))))
  done_pairs most m (Deeds word) old new enough script gentle (rest, acts) ready sane =
      let cost = word-cost word old.served old.a.queue old.b.queue old.link in
      deed_pairs most m (finds word old) old new (omega (arith, cost, enough)) (rests-so (upper A) (upper B) to_a to_b old rest) ready (word-right whole word old.served old.a.queue old.b.queue old.link script (λ on. (gentle on).0)) acts sane
  done_pairs most m (Misses word) old new enough script gentle (rest, nothing, same) ready sane =
      subst (PairsIn m) (sym same) (richer_pairs whole most m A asks_a B asks_b to_a E allows_a to_b G allows_b H J old.a old.b (omega (arith, enough)) sane.pairs)
  done_pairs most m Rises old new enough script gentle (down, idle, going, wants, same) ready sane =
      subst (PairsIn m) (sym same) (enriched most m (owing Up old.a) (owing Up old.b) enough (owes_up whole most A asks_a B asks_b to_a E allows_a to_b G allows_b H J old.a old.b sane.pairs))
  done_pairs most m (Falls sides.A) old new enough script gentle (up, idle, leaves, same) ready sane =
      subst (PairsIn m) (sym same) (enriched most m (owing (Down 0x16) old.a) (owing (Down 0x13) old.b) enough (owes_down whole most A asks_a B asks_b to_a E allows_a to_b G allows_b H J 0x16 0x13 old.a old.b sane.pairs))
  done_pairs most m (Falls sides.B) old new enough script gentle (up, idle, leaves, same) ready sane =
      subst (PairsIn m) (sym same) (enriched most m (owing (Down 0x13) old.a) (owing (Down 0x16) old.b) enough (owes_down whole most A asks_a B asks_b to_a E allows_a to_b G allows_b H J 0x13 0x16 old.a old.b sane.pairs))
  done_pairs most m (Opens name) old new enough script gentle (down, idle, pushes, next, g, same) ready sane =
      let quiet = idle_so (upper A) to_a old.a idle in
      subst (PairsIn m) (sym same) (enriched most m (told U g (Opening name) old.a) old.b enough (word_a most old g (Opening name) tt (λ on. off_on old.a.linked on (idle_linked (upper A) old.link old.a quiet sane.both.a ∙ down)) tt quiet sane))
  done_pairs most m (Closes outcome) old new enough script gentle (down, idle_a, idle_b, going, pushes, is, same) ready sane =
      subst (PairsIn m) (sym same) (enriched most m (record old.a { talk = old.a.talk ++ Done outcome ∷ [] }) old.b enough (is_done whole most A asks_a B asks_b to_a E allows_a to_b G allows_b H J outcome old.a old.b sane.pairs))

  carries_pairs : (doings : List Doing) (most m : ℕ) (old new : Carriage (Host P) (Host Q)) → adverse_in (all_words doings) + most ≤ m → AllByRecursion IsOfScript doings → AllByRecursion (IsGentle whole) doings → CarriesSo U V Ready doings old new → Sane most old → Sane m new
  carries_pairs [] most m old new enough script gentle same sane =
      subst (Sane m) (sym same) (record { both = sane.both; acted = sane.acted; tame = sane.tame; pairs = enriched most m old.a old.b enough sane.pairs; abreast = sane.abreast; hands = sane.hands })
  carries_pairs (doing ∷ doings) most m old new enough script gentle (mid, (does', ready), runs) sane =
      let does = done-so (upper A) (upper B) to_a to_b doing old mid does' in
      let now : ℕ = adverse_in (words_at doing) + most in
      let whole_cost = adverse-both (words_at doing) (all_words doings) in
      carries_pairs doings now m mid new (omega (arith, enough, whole_cost)) script.1 gentle.1 runs (record {
        both = (advances (upper A) (upper B) doing old nothing_more nothing_more mid does sane.both).both;
        acted = done_both (upper A) (upper B) (free_where A) (free_where B) doing old mid does (first_rests (AreReady (upper A) (upper B) (free_where A) (free_where B)) (StayOn Z Y) doing old ready) sane.both sane.acted;
        tame = done-tame (upper A) (upper B) (FitHost (IsProper A.policy) K) (FitHost (IsProper B.policy) L) (host-tames A K keeps_a) (host-tames B L keeps_b) doing old mid script.0 does sane.tame;
        pairs = done_pairs most now doing old mid (omega arith) script.0 gentle.0 does' ready sane;
        abreast = done-abreast (upper A) (upper B) HasToldAll F doing old mid does awaits sane.pairs.b.so.lives.all_told sane.both sane.abreast;
        hands = done-hands (upper A) (upper B) Quiet Quiet doing old mid does sane.both (quiet_at most doing old mid does ready sane) sane.hands;
      })

  first_pairs : (size : ℕ) (names : List (List ℕ)) → PairsIn 0 (first_carriage (upper A) (upper B) size names)
  unfolding first_calmly first_lives
  first_pairs size names = record {
    number = 0;
    a = record { marks = []; so = first_calmly A asks_a; marks_are = refl; asked = first-asked A asks_a (Wants A); given = first-served A asks_a E; up_is = refl; heard = (tt, tt); comes = inl refl; named = refl };
    b = record { marks = []; so = first_calmly B asks_b; marks_are = refl; asked = first-asked B asks_b Always; given = first-served B asks_b G; up_is = refl; heard = (tt, tt); comes = inl refl; named = refl };
    level_a = refl;
    level_b = refl;
    links = first_links whole 0 (upper A) (upper B) A.policy B.policy;
  }

  -- At each moment of a run.
  pub all-sane : (size : ℕ) (names : List (List ℕ)) (doings : List Doing) (c : Carriage (Host P) (Host Q)) → AllByRecursion IsOfScript doings → AllByRecursion (IsGentle whole) doings → CarriesSo U V Ready doings (first_carriage (upper A) (upper B) size names) c → Sane (adverse_in (all_words doings)) c
  all-sane size names doings c script gentle runs =
      let tame_a = host-tames A K keeps_a in
      let tame_b = host-tames B L keeps_b in
      carries_pairs doings 0 (adverse_in (all_words doings)) (first_carriage (upper A) (upper B) size names) c (omega arith) script gentle runs (record {
        both = first_both (upper A) (upper B) size names;
        acted = record { a = record { acted = first_acted (upper A) (free_where A); ready = inl refl }; b = record { acted = first_acted (upper B) (free_where B); ready = inl refl } };
        tame = record { a = record { upper = tame_a.first; waiting = tt; queue = tt; coming = tt; talk = tt }; b = record { upper = tame_b.first; waiting = tt; queue = tt; coming = tt; talk = tt } };
        pairs = first_pairs size names;
        abreast = first-abreast (upper A) (upper B) HasToldAll F size names;
        hands = record { to_b = inl refl; to_a = inl refl };
      })
