-- What every step keeps of what carries the SDUs of each channel.
use Rattle.std.proofs.Common.{◌≡◌, ℕ, ◌+◌, ◌<◌, ◌≤◌, List, [], ◌∷◌, ◌++◌, Bool, true, false, cond, ◌&&◌, eqb, Option, Some, None, refl, sym, ap, subst, ◌∙◌, arith}
use Rattle.std.specs.Prelude.{find, drop, option_map, is_some, nat_lt}
use Rattle.std.proofs.lemmas.Bool.{ltb-false, ltb-true}
use Rattle.talk_laws.specs.acl_fragments.specs.Pieces.{channel_of}
use Rattle.talk_laws.specs.l2cap_signal.specs.Reading.{answers}
use Rattle.talk_laws.specs.l2cap_config.specs.declared.wish.Wish.{Wish}
use Rattle.channel_model.specs.declared.event.ChannelEvent.{ChannelEvent}
use Rattle.channel_model.specs.Value.{Own, Unasked, Asking, Granted, Carrier, Setup, Stage, Requested, Connected, Leaving, Closing, Crossed, Held, Channels}
use Rattle.channel_model.specs.Policies.{Policy}
use Rattle.channel_model.specs.Changing.{has_own, is_granted, is_open}
use Rattle.channel_model.specs.Hearing.{hears_commands}
use Rattle.channel_model.specs.Carrying.{takes}
use Rattle.channel_model.proofs.Lookups.{own_of, Distinct, and_off}
use Rattle.channel_model.proofs.Going.{OwnGoes, CarrierGoes, SetupGoes, StageGoes, staged, Moves, IsFirst, new_held, Walks}
use Rattle.channel_model.proofs.Walking.{commands-go}
use Rattle.channel_model.proofs.Calling.{Sending, Hearing, Giving, Firing, connected-goes, asks-features-goes, disconnected-goes, sends-goes, takes-goes, timed-goes, given-goes}
use Rattle.own_channel_laws.specs.Runs.{Occurrence, Comes, Connects, AsksFeatures, Disconnects, Sends, Gives, Fires, Tells, value_after}
use Rattle.own_channel_laws.proofs.Sound.{at_each}
use Rattle.own_channel_laws.proofs.Steps.{less-apart}
use Rattle.own_channel_laws.proofs.Inviting.{held_others, held_here}

-- Something of what carries the SDUs of a channel: by what is wished of it, whether the host has asked for its end, and
-- whether it is open.
abbrev pub OfCarrier : Type 1
OfCarrier = (wish : Wish) (leaving opened : Bool) → Option Carrier → Type 0

abbrev pub StageKeeps : OfCarrier → Wish → Stage → Type 0
StageKeeps P wish (Requested request) = P wish false false None
StageKeeps P wish (Connected peer setup) = P wish false (is_open setup) setup.carrier
StageKeeps P wish (Leaving peer setup request) = P wish true (is_open setup) setup.carrier
StageKeeps P wish (Closing peer request checked) = Unit {0}
StageKeeps P wish (Crossed peer request) = Unit {0}

abbrev pub HeldKeeps : Policy → OfCarrier → Option Held → Type 0
HeldKeeps policy P None = Unit {0}
HeldKeeps policy P (Some held) = StageKeeps P (policy.wish held.psm) held.stage

-- of each own endpoint
pub record AllKeep (policy : Policy) (P : ℕ → OfCarrier) (v : Channels) : Type 0 where
  pub at : (own : ℕ) → HeldKeeps policy (P own) (find (has_own own) v.held)
  pub fresh : (own psm : ℕ) → v.next ≤ own → P own (policy.wish psm) false false None
  pub below : (own : ℕ) → v.next ≤ own → find (has_own own) v.held ≡ None

abbrev pub KeepsOn : Policy → (P : ℕ → OfCarrier) → Channels → Channels → Type 0
KeepsOn policy P v w = AllKeep policy P v → AllKeep policy P w

-- it goes on with what carries, and when the end is asked for
pub record Keeps (policy : Policy) (C : Carrier → Carrier → Type 0) (P : ℕ → OfCarrier) : Type 0 where
  pub same : (carrier : Carrier) → C carrier carrier
  pub goes : (own psm : ℕ) (leaving opened after_opened : Bool) (before after : Option Carrier) → (after_opened ≡ false → opened ≡ false) → CarrierGoes (policy.wish psm) C opened before after
      → P own (policy.wish psm) leaving opened before → P own (policy.wish psm) leaving after_opened after
  pub leaves : (own psm : ℕ) (opened : Bool) (carrier : Option Carrier) → P own (policy.wish psm) false opened carrier → P own (policy.wish psm) true opened carrier

-- a channel that is not open was not open before
shut_before : (wish : Wish) (C : Carrier → Carrier → Type 0) (before after : Setup) → SetupGoes wish C before after → is_open after ≡ false → is_open before ≡ false
shut_before wish C before after goes shut = by before.carrier after.carrier before.own after.own refl refl refl refl goes.carrier_goes goes.own_goes
  where
    by : (c d : Option Carrier) (o p : Own) → before.carrier ≡ c → after.carrier ≡ d → before.own ≡ o → after.own ≡ p → CarrierGoes wish C (is_open before) c d → OwnGoes o p → is_open before ≡ false
    by None d o p is_c is_d is_o is_p cs os = ap (λ x. is_some x && is_granted before.own) is_c
    by (Some c) None o p is_c is_d is_o is_p cs os = elim cs [ ]
    by (Some c) (Some d) Unasked p is_c is_d is_o is_p cs os = ap (λ x. is_some before.carrier && is_granted x) is_o ∙ and_off (is_some before.carrier)
    by (Some c) (Some d) (Asking r o) p is_c is_d is_o is_p cs os = ap (λ x. is_some before.carrier && is_granted x) is_o ∙ and_off (is_some before.carrier)
    by (Some c) (Some d) Granted Unasked is_c is_d is_o is_p cs os = elim os [ ]
    by (Some c) (Some d) Granted (Asking r o) is_c is_d is_o is_p cs os = elim os [ ]
    by (Some c) (Some d) Granted Granted is_c is_d is_o is_p cs os =
        let opened : is_open after ≡ true = ap (λ x. is_some x && is_granted after.own) is_d ∙ ap is_granted is_p in
        let never : true ≡ false = sym opened ∙ shut in absurd cc

-- ---- one step

goes_keep : (policy : Policy) (C : Carrier → Carrier → Type 0) (P : ℕ → OfCarrier) (keeps : Keeps policy C P) (own : ℕ) (held : Held) (before : Stage) (after : Option Stage) (closed : Bool) → StageKeeps (P own) (policy.wish held.psm) before
    → StageGoes (policy.wish held.psm) C before after closed → HeldKeeps policy (P own) (option_map (staged held) after)
goes_keep policy C P keeps own held before None closed was goes = tt
goes_keep policy C P keeps own held (Requested request) (Some (Requested again)) closed was goes = was
goes_keep policy C P keeps own held (Requested request) (Some (Connected peer setup)) closed was (none, silent) =
    subst (λ c. P own (policy.wish held.psm) false (is_some c && is_granted setup.own) c) (sym none) was
goes_keep policy C P keeps own held (Requested request) (Some (Leaving peer setup other)) closed was goes = elim goes [ ]
goes_keep policy C P keeps own held (Requested request) (Some (Closing peer other checked)) closed was goes = tt
goes_keep policy C P keeps own held (Requested request) (Some (Crossed peer other)) closed was goes = tt
goes_keep policy C P keeps own held (Connected peer setup) (Some (Requested request)) closed was goes = elim goes [ ]
goes_keep policy C P keeps own held (Connected peer setup) (Some (Connected at after)) closed was (same, goes, silent) =
    keeps.goes own held.psm false (is_open setup) (is_open after) setup.carrier after.carrier (shut_before (policy.wish held.psm) C setup after goes) goes.carrier_goes was
goes_keep policy C P keeps own held (Connected peer setup) (Some (Leaving at after request)) closed was (same, still, silent) =
    subst (λ (s : Setup). P own (policy.wish held.psm) true (is_open s) s.carrier) (sym still) (keeps.leaves own held.psm (is_open setup) setup.carrier was)
goes_keep policy C P keeps own held (Connected peer setup) (Some (Closing at request checked)) closed was goes = tt
goes_keep policy C P keeps own held (Connected peer setup) (Some (Crossed at request)) closed was goes = tt
goes_keep policy C P keeps own held (Leaving peer setup request) (Some (Requested other)) closed was goes = elim goes [ ]
goes_keep policy C P keeps own held (Leaving peer setup request) (Some (Connected at after)) closed was goes = elim goes [ ]
goes_keep policy C P keeps own held (Leaving peer setup request) (Some (Leaving at after other)) closed was (same, goes, silent) =
    keeps.goes own held.psm true (is_open setup) (is_open after) setup.carrier after.carrier (shut_before (policy.wish held.psm) C setup after goes) goes.carrier_goes was
goes_keep policy C P keeps own held (Leaving peer setup request) (Some (Closing at other checked)) closed was goes = tt
goes_keep policy C P keeps own held (Leaving peer setup request) (Some (Crossed at other)) closed was goes = tt
goes_keep policy C P keeps own held (Closing peer request checked) (Some (Requested other)) closed was goes = elim goes [ ]
goes_keep policy C P keeps own held (Closing peer request checked) (Some (Connected at after)) closed was goes = elim goes [ ]
goes_keep policy C P keeps own held (Closing peer request checked) (Some (Leaving at after other)) closed was goes = elim goes [ ]
goes_keep policy C P keeps own held (Closing peer request checked) (Some (Closing at other still)) closed was goes = tt
goes_keep policy C P keeps own held (Closing peer request checked) (Some (Crossed at other)) closed was goes = tt
goes_keep policy C P keeps own held (Crossed peer request) (Some (Requested other)) closed was goes = elim goes [ ]
goes_keep policy C P keeps own held (Crossed peer request) (Some (Connected at after)) closed was goes = elim goes [ ]
goes_keep policy C P keeps own held (Crossed peer request) (Some (Leaving at after other)) closed was goes = elim goes [ ]
goes_keep policy C P keeps own held (Crossed peer request) (Some (Closing at other checked)) closed was goes = tt
goes_keep policy C P keeps own held (Crossed peer request) (Some (Crossed at other)) closed was goes = tt

-- ---- all channels

pub under : (v : Channels) (held : Held) (next own : ℕ) → next ≡ v.next → ((n : ℕ) → v.next ≤ n → find (has_own n) v.held ≡ None) → find (has_own held.own) v.held ≡ Some held → next ≤ own → held.own < own
under v held next own is below found above = by (nat_lt held.own own) refl
  where
    by : (b : Bool) → nat_lt held.own own ≡ b → held.own < own
    by true less = ltb-true held.own own less
    by false less =
        let high : own ≤ held.own = ltb-false held.own own less in
        let none : find (has_own held.own) v.held ≡ None = below held.own (omega (arith, is, above, high)) in
        let never : None ≡ Some held = sym none ∙ found in absurd cc

moves_keep : (policy : Policy) (C : Carrier → Carrier → Type 0) (P : ℕ → OfCarrier) (keeps : Keeps policy C P) (v w : Channels) (held : Held) (after : Option Stage) (more : List ChannelEvent) → Moves policy C v w held after more → KeepsOn policy P v w
moves_keep policy C P keeps v w held after more moves all = record {
  at = at_each (λ n. HeldKeeps policy (P n) (find (has_own n) v.held)) (λ n. HeldKeeps policy (P n) (find (has_own n) w.held)) held.own
      (λ n apart was. subst (HeldKeeps policy (P n)) (sym (moves.others n apart)) was)
      (subst (HeldKeeps policy (P held.own)) (sym moves.becomes)
      (goes_keep policy C P keeps held.own held held.stage after _ (subst (HeldKeeps policy (P held.own)) moves.found (all.at held.own)) moves.goes))
      all.at;
  fresh = λ own psm above. all.fresh own psm (omega (arith, moves.next_is, above));
  below = λ own above. moves.others own (less-apart held.own own (under v held w.next own moves.next_is all.below moves.found above)) ∙ all.below own (omega (arith, moves.next_is, above));
}

first_keeps : (P : OfCarrier) (wish : Wish) (stage : Stage) → IsFirst stage → P wish false false None → StageKeeps P wish stage
first_keeps P wish (Requested request) is none = none
first_keeps P wish (Connected peer setup) is none = subst (λ (s : Setup). P wish false (is_open s) s.carrier) (sym is) none
first_keeps P wish (Leaving peer setup request) is none = elim is [ ]
first_keeps P wish (Closing peer request checked) is none = tt
first_keeps P wish (Crossed peer request) is none = tt

made_keeps : (policy : Policy) (P : ℕ → OfCarrier) (v w : Channels) (psm : ℕ) (stage : Stage) → IsFirst stage → w.held ≡ v.held ++ new_held psm v.next stage ∷ [] → w.next ≡ v.next + 1 → KeepsOn policy P v w
made_keeps policy P v w psm stage is held_is next_is all =
    let new : Held = new_held psm v.next stage in
    record {
      at = at_each (λ n. HeldKeeps policy (P n) (find (has_own n) v.held)) (λ n. HeldKeeps policy (P n) (find (has_own n) w.held)) v.next
          (λ n apart was. subst (HeldKeeps policy (P n)) (sym (ap (find (has_own n)) held_is ∙ held_others v.held new n apart)) was)
          (subst (HeldKeeps policy (P v.next)) (sym (ap (find (has_own v.next)) held_is ∙ held_here v.held new (all.below v.next (omega arith))))
          (first_keeps (P v.next) (policy.wish psm) stage is (all.fresh v.next psm (omega arith))))
          all.at;
      fresh = λ own n above. all.fresh own n (omega (arith, next_is, above));
      below = λ own above. ap (find (has_own own)) held_is ∙ (held_others v.held new own (less-apart v.next own (omega (arith, next_is, above))) ∙ all.below own (omega (arith, next_is, above)));
    }

still_keep : (policy : Policy) (P : ℕ → OfCarrier) (v w : Channels) → w.held ≡ v.held → w.next ≡ v.next → KeepsOn policy P v w
still_keep policy P v w held_is next_is all = record {
  at = λ own. subst (HeldKeeps policy (P own)) (sym (ap (find (has_own own)) held_is)) (all.at own);
  fresh = λ own psm above. all.fresh own psm (omega (arith, next_is, above));
  below = λ own above. ap (find (has_own own)) held_is ∙ all.below own (omega (arith, next_is, above));
}

pub walks-keep : (policy : Policy) (C : Carrier → Carrier → Type 0) (P : ℕ → OfCarrier) → Keeps policy C P → Walks policy C (KeepsOn policy P)
walks-keep policy C P keeps = record {
  same = keeps.same;
  still = λ v w held_is next_is events_are. still_keep policy P v w held_is next_is;
  tells = λ v w event held_is next_is events_are other. still_keep policy P v w held_is next_is;
  both = λ v u w first second all. second (first all);
  made = λ v w psm stage is held_is next_is events_are. made_keeps policy P v w psm stage is held_is next_is;
  moves = λ v w held after more moves. moves_keep policy C P keeps v w held after more moves;
}

-- and from the one to another
pub keep-also : (policy : Policy) (P Q : ℕ → OfCarrier) (v : Channels) → ((own psm : ℕ) (leaving opened : Bool) (carrier : Option Carrier) → P own (policy.wish psm) leaving opened carrier → Q own (policy.wish psm) leaving opened carrier)
    → AllKeep policy P v → AllKeep policy Q v
keep-also policy P Q v also all =
    record { at = λ own. by own (find (has_own own) v.held) (all.at own); fresh = λ own psm above. also own psm false false None (all.fresh own psm above); below = all.below }
  where
    at_stage : (own psm : ℕ) (stage : Stage) → StageKeeps (P own) (policy.wish psm) stage → StageKeeps (Q own) (policy.wish psm) stage
    at_stage own psm (Requested request) was = also own psm false false None was
    at_stage own psm (Connected peer setup) was = also own psm false (is_open setup) setup.carrier was
    at_stage own psm (Leaving peer setup request) was = also own psm true (is_open setup) setup.carrier was
    at_stage own psm (Closing peer request checked) was = tt
    at_stage own psm (Crossed peer request) was = tt

    by : (own : ℕ) (held : Option Held) → HeldKeeps policy (P own) held → HeldKeeps policy (Q own) held
    by own None was = tt
    by own (Some held) was = at_stage own held.psm held.stage was

-- ---- whatever happens

-- it goes on with what comes in, what is sent and given, and when the timer fires
pub record Carries (C : Carrier → Carrier → Type 0) : Type 0 where
  pub sends : (sdu : List ℕ) → Sending C sdu
  pub gives : Giving C
  pub hears : (pdu : List ℕ) → Hearing C pdu
  pub fires : Firing C

comes_keep : (policy : Policy) (C : Carrier → Carrier → Type 0) (P : ℕ → OfCarrier) → Keeps policy C P → Carries C → (pdu : List ℕ) (v : Channels) (signals : Bool) → KeepsOn policy P v (cond signals (hears_commands policy (answers (drop 4 pdu)) v) (takes (channel_of pdu) pdu v))
comes_keep policy C P keeps carries pdu v true = commands-go policy C (KeepsOn policy P) (walks-keep policy C P keeps) (answers (drop 4 pdu)) v
comes_keep policy C P keeps carries pdu v false = takes-goes policy C (KeepsOn policy P) (walks-keep policy C P keeps) (channel_of pdu) pdu v (carries.hears pdu)

pub keeps-all : (policy : Policy) (C : Carrier → Carrier → Type 0) (P : ℕ → OfCarrier) → Keeps policy C P → Carries C → (more : Occurrence) (v : Channels) → Distinct own_of v.held → KeepsOn policy P v (value_after policy more v)
keeps-all policy C P keeps carries (Comes pdu) v lone = comes_keep policy C P keeps carries pdu v (eqb (channel_of pdu) 0x0001)
keeps-all policy C P keeps carries (Connects psm) v lone = connected-goes policy C (KeepsOn policy P) (walks-keep policy C P keeps) psm v
keeps-all policy C P keeps carries AsksFeatures v lone = asks-features-goes policy C (KeepsOn policy P) (walks-keep policy C P keeps) v
keeps-all policy C P keeps carries (Disconnects own) v lone = disconnected-goes policy C (KeepsOn policy P) (walks-keep policy C P keeps) own v
keeps-all policy C P keeps carries (Sends own sdu) v lone = sends-goes policy C (KeepsOn policy P) (walks-keep policy C P keeps) own sdu v (carries.sends sdu)
keeps-all policy C P keeps carries (Gives pdu) v lone = given-goes policy C (KeepsOn policy P) (walks-keep policy C P keeps) v carries.gives lone
keeps-all policy C P keeps carries Fires v lone = timed-goes policy C (KeepsOn policy P) (walks-keep policy C P keeps) v carries.fires
keeps-all policy C P keeps carries Tells v lone = λ all. record { at = all.at; fresh = all.fresh; below = all.below }
