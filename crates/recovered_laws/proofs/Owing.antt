-- What a host owes its peer.
use Rattle.std.proofs.Common.{◌≡◌, ℕ, ◌≤◌, List, [], ◌∷◌, ◌++◌, Bool, true, false, cond, ◌||◌, Option, Some, None, refl, sym, ap, subst, ◌∙◌, ◌⊎◌, inl, inr}
use Rattle.std.specs.Prelude.{find, nat_le}
use Rattle.std.specs.List.{list_any}
use Rattle.std.proofs.lemmas.List.Sums.{fold-append}
use Rattle.channel_laws.specs.l2cap_config.specs.declared.wish.Agreed.{Agreed}
use Rattle.channel_laws.specs.l2cap_config.specs.declared.wish.Mode.TheVariants.{Basic}
use Rattle.channel_laws.specs.l2cap_config.specs.declared.wish.Wish.{Wish}
use Rattle.channel_laws.specs.ertm_model.specs.declared.reason.ErtmReason.{ErtmReason}
use Rattle.channel_laws.specs.ertm_model.specs.declared.reason.ErtmReason.TheVariants.{RetryLimit}
use Rattle.channel_laws.specs.ertm_model.specs.Value.{Kept, Poll, NoPoll, Due, Waits, Ertm, new_ertm}
use Rattle.channel_laws.specs.ertm_model.specs.Submitting.{is_busy, submitted, taking}
use Rattle.channel_laws.specs.ertm_model.specs.Giving.{giving, closing, polling, first_poll, poll_timed, open_timed, timed}
use Rattle.channel_laws.specs.ertm_model.proofs.Inverting.{IsSilent}
use Rattle.channel_laws.specs.ertm_model.proofs.Resting.{silent}
use Rattle.channel_laws.specs.channel_model.specs.Value.{Carrier, Plain, Retransmitting, Setup, Stage, Requested, Connected, Leaving, Closing, Crossed, Held, Channels}
use Rattle.channel_laws.specs.channel_model.specs.Policies.{Policy}
use Rattle.channel_laws.specs.channel_model.specs.Changing.{has_own, held_at, setup_of}
use Rattle.channel_laws.specs.channel_model.specs.Calls.{carrier_with}
use Rattle.channel_laws.specs.channel_model.specs.Giving.{gives, carrier_given, stage_gives}
use Rattle.channel_laws.specs.channel_model.proofs.Lookups.{own_of, Distinct, any-finds, found-distinct}
use Rattle.channel_laws.specs.channel_model.proofs.Going.{IsAccepted, CarrierGoes}
use Rattle.channel_laws.specs.channel_model.proofs.Calling.{connected-goes, asks-features-goes, disconnected-goes, sends-goes, timed-goes}
use Rattle.channel_laws.specs.Pairs.{is_alone}
use Rattle.channel_laws.specs.Runs.{Occurrence, Comes, Connects, AsksFeatures, Disconnects, Sends, Gives, Fires, Tells, Run, new_link, value_after, run_on, run_of}
use Rattle.channel_laws.proofs.Attending.{IsNew, new-carrier, submits-aside, gives-aside}
use Rattle.channel_laws.proofs.Keeping.{OfCarrier, StageKeeps, HeldKeeps, AllKeep, KeepsOn, Keeps, Carries, walks-keep, keeps-all}
use Rattle.channel_laws.proofs.Running.{all-sound, along}
use Rattle.recovered_laws.specs.Calm.{is_reply, owes_reply, carrier_owes, setup_owes, owes}
use Rattle.recovered_laws.specs.Owing.{OwesOnlyWhatItHeard}
use Rattle.recovered_laws.proofs.Paying.{none_found, silent_stage, not_some}

-- ---- something that is so of each machine

abbrev pub OfMachine : (Ertm → Type 0) → Option Carrier → Type 0
OfMachine G carrier = (m : Ertm) → carrier ≡ Some (Retransmitting m) → G m

abbrev pub Each : (Ertm → Type 0) → ℕ → OfCarrier
Each G own wish leaving opened carrier = OfMachine G carrier

-- it goes on so
abbrev pub Onward : (Ertm → Type 0) → Carrier → Carrier → Type 0
Onward G before after = OfMachine G (Some before) → OfMachine G (Some after)

pub same_machine : (m n : Ertm) → Some (Retransmitting m) ≡ Some (Retransmitting n) → m ≡ n
same_machine m n is = cc

pub to_machine : (G : Ertm → Type 0) (m after : Ertm) → (G m → G after) → Onward G (Retransmitting m) (Retransmitting after)
to_machine G m after goes so n is = subst G (same_machine after n is) (goes (so m refl))

pub plain_so : (G : Ertm → Type 0) (agreed : Agreed) (waiting : Option (List ℕ)) → OfMachine G (Some (Plain agreed waiting))
plain_so G agreed waiting m is = cc

pub new_so : (G : Ertm → Type 0) (wish : Wish) (carrier : Carrier) → ((agreed : Agreed) → G (new_ertm agreed)) → IsAccepted wish carrier → OfMachine G (Some carrier)
new_so G wish carrier new accepted = by (new-carrier wish carrier accepted)
  where
    by : ((a : Agreed) × (carrier ≡ Plain a None) × (wish.mode ≡ Basic)) ⊎ ((a : Agreed) × IsNew wish a carrier) → OfMachine G (Some carrier)
    by (inl (a, is, basic)) = λ m also. let never : Plain a None ≡ Retransmitting m = sym is ∙ (let one : carrier ≡ Retransmitting m = cc in one) in absurd cc
    by (inr (a, made)) = λ m also. let one : new_ertm a ≡ m = same_machine (new_ertm a) m (ap Some (sym made.is) ∙ also) in subst G one (new a)

pub keeps_each : (policy : Policy) (G : Ertm → Type 0) → ((agreed : Agreed) → G (new_ertm agreed)) → Keeps policy (Onward G) (Each G)
keeps_each policy G new = record { same = λ carrier so. so; goes = λ own psm leaving opened after_opened before after shut goes was. by (policy.wish psm) opened before after goes was; leaves = λ own psm opened carrier was. was }
  where
    by : (wish : Wish) (opened : Bool) (before after : Option Carrier) → CarrierGoes wish (Onward G) opened before after → OfMachine G before → OfMachine G after
    by wish opened None None goes was = was
    by wish opened None (Some after) goes was = new_so G wish after new goes
    by wish opened (Some before) None goes was = elim goes [ ]
    by wish opened (Some before) (Some after) (inl goes) was = goes was
    by wish opened (Some before) (Some after) (inr (closed, accepted)) was = new_so G wish after new accepted

-- ---- its receiver stays as it is

pub timed_receiver : (m : Ertm) → (timed m).receiver ≡ m.receiver
timed_receiver m = by m.closed
  where
    first : (unacked : List Kept) → (first_poll unacked m).receiver ≡ m.receiver
    first [] = refl
    first (kept ∷ rest) = refl

    late : (spent : Bool) → (cond spent (closing RetryLimit m) (polling m)).receiver ≡ m.receiver
    late true = refl
    late false = refl

    poll_by : (poll : Poll) → (poll_timed poll m).receiver ≡ m.receiver
    poll_by NoPoll = first m.sender.unacked
    poll_by Due = refl
    poll_by Waits = late (nat_le m.agreed.tries m.sender.polls)

    by : (shut : Option ErtmReason) → (open_timed shut m).receiver ≡ m.receiver
    by (Some reason) = refl
    by None = poll_by m.sender.poll

pub submitted_receiver : (sdu : List ℕ) (m : Ertm) → (submitted sdu m).receiver ≡ m.receiver
submitted_receiver sdu m = by (is_busy m)
  where
    by : (busy : Bool) → (cond busy m (taking sdu m)).receiver ≡ m.receiver
    by true = refl
    by false = refl

abbrev pub OwesNone : Ertm → Type 0
OwesNone m = owes_reply m ≡ false

pub same_receiver : (m after : Ertm) → after.receiver ≡ m.receiver → OwesNone m → OwesNone after
same_receiver m after same none = ap (λ r. r.polled || is_reply r.reply) same ∙ none

pub new_owes : (agreed : Agreed) → OwesNone (new_ertm agreed)
new_owes agreed = refl

-- ---- all machines of a host

pub none_owed : (policy : Policy) (v : Channels) → ((own : ℕ) → v.next ≤ own → find (has_own own) v.held ≡ None) → owes v ≡ false → AllKeep policy (Each OwesNone) v
none_owed policy v below none = record { at = λ own. of own (held_at own v) refl; fresh = λ own psm above m is. cc; below = below }
  where
    machine : (setup : Setup) → carrier_owes setup.carrier ≡ false → OfMachine OwesNone setup.carrier
    machine setup off m is = ap carrier_owes (sym is) ∙ off

    at : (wish : Wish) (stage : Stage) → setup_owes (setup_of stage) ≡ false → StageKeeps (Each OwesNone 0) wish stage
    at wish (Requested request) off = λ m is. cc
    at wish (Connected peer setup) off = machine setup off
    at wish (Leaving peer setup request) off = machine setup off
    at wish (Closing peer request checked) off = tt
    at wish (Crossed peer request) off = tt

    of : (own : ℕ) (held : Option Held) → held_at own v ≡ held → HeldKeeps policy (Each OwesNone own) held
    of own None found = tt
    of own (Some held) found = at (policy.wish held.psm) held.stage (none_found (λ (x : Held). setup_owes (setup_of x.stage)) v.held none own held found)

pub all_clear : (policy : Policy) (v : Channels) → Distinct own_of v.held → AllKeep policy (Each OwesNone) v → owes v ≡ false
all_clear policy v lone all = by (owes v) refl
  where
    carrier : (c : Option Carrier) → carrier_owes c ≡ true → OfMachine OwesNone c → ⊥
    carrier None on so = cc
    carrier (Some (Plain agreed waiting)) on so = cc
    carrier (Some (Retransmitting m)) on so = let never : true ≡ false = sym on ∙ so m refl in cc

    at : (wish : Wish) (stage : Stage) → setup_owes (setup_of stage) ≡ true → StageKeeps (Each OwesNone 0) wish stage → ⊥
    at wish (Requested request) on so = cc
    at wish (Connected peer setup) on so = carrier setup.carrier on so
    at wish (Leaving peer setup request) on so = carrier setup.carrier on so
    at wish (Closing peer request checked) on so = cc
    at wish (Crossed peer request) on so = cc

    by : (b : Bool) → owes v ≡ b → owes v ≡ false
    by false is = is
    by true is =
        let (held, found, on) = any-finds (λ (x : Held). setup_owes (setup_of x.stage)) v.held is in
        let here : held_at held.own v ≡ Some held = found-distinct own_of (λ (x : Held). setup_owes (setup_of x.stage)) v.held held lone found in
        absurd (at (policy.wish held.psm) held.stage on (subst (HeldKeeps policy (Each OwesNone held.own)) here (all.at held.own)))

-- ---- what it does alone

pub sends_so : (G : Ertm → Type 0) (sdu : List ℕ) → ((m : Ertm) → G m → G (submitted sdu m)) → (carrier : Carrier) → Onward G carrier (carrier_with carrier sdu)
sends_so G sdu goes (Plain agreed waiting) so = plain_so G agreed _
sends_so G sdu goes (Retransmitting m) so = to_machine G m (submitted sdu m) (goes m) so

pub alone_keeps : (policy : Policy) (one : Occurrence) (v : Channels) → is_alone one ≡ true → KeepsOn policy (Each OwesNone) v (value_after policy one v)
alone_keeps policy (Comes pdu) v alone = cc
alone_keeps policy (Connects psm) v alone = connected-goes policy (Onward OwesNone) _ (walks-keep policy (Onward OwesNone) (Each OwesNone) (keeps_each policy OwesNone new_owes)) psm v
alone_keeps policy AsksFeatures v alone = asks-features-goes policy (Onward OwesNone) _ (walks-keep policy (Onward OwesNone) (Each OwesNone) (keeps_each policy OwesNone new_owes)) v
alone_keeps policy (Disconnects own) v alone = disconnected-goes policy (Onward OwesNone) _ (walks-keep policy (Onward OwesNone) (Each OwesNone) (keeps_each policy OwesNone new_owes)) own v
alone_keeps policy (Sends own sdu) v alone =
    sends-goes policy (Onward OwesNone) _ (walks-keep policy (Onward OwesNone) (Each OwesNone) (keeps_each policy OwesNone new_owes)) own sdu v (sends_so OwesNone sdu (λ m none. same_receiver m (submitted sdu m) (submitted_receiver sdu m) none))
alone_keeps policy (Gives pdu) v alone = cc
alone_keeps policy Fires v alone =
    timed-goes policy (Onward OwesNone) _ (walks-keep policy (Onward OwesNone) (Each OwesNone) (keeps_each policy OwesNone new_owes)) v (λ m open'. to_machine OwesNone m (timed m) (λ none. same_receiver m (timed m) (timed_receiver m) none))
alone_keeps policy Tells v alone = λ all. record { at = all.at; fresh = all.fresh; below = all.below }

pub run_more : (policy : Policy) (list : List Occurrence) (one : Occurrence) → run_of policy (list ++ one ∷ []) ≡ run_on policy (run_of policy list) one
run_more policy list one = fold-append (run_on policy) new_link list (one ∷ [])

-- ---- machines of channels are open

abbrev pub IsOpenMachine : Ertm → Type 0
IsOpenMachine m = m.closed ≡ None

pub carries_open : Carries (Onward IsOpenMachine)
carries_open = record {
  sends = λ sdu. sends_so IsOpenMachine sdu (λ m open'. (submits-aside sdu m).open_still open');
  gives = gives_so;
  hears = λ pdu m open' so n is. subst IsOpenMachine (same_machine _ n is) open';
  fires = λ m open' so n is. subst IsOpenMachine (same_machine (timed m) n is) open';
}
  where
    gives_so : (carrier : Carrier) → Onward IsOpenMachine carrier (carrier_given carrier)
    gives_so (Plain agreed waiting) so = plain_so IsOpenMachine agreed None
    gives_so (Retransmitting m) so = to_machine IsOpenMachine m _ (λ open'. (gives-aside m).open_still open') so

pub all_open : (policy : Policy) (list : List Occurrence) → AllKeep policy (Each IsOpenMachine) (run_of policy list).value
all_open policy list =
    (along policy (λ run. AllKeep policy (Each IsOpenMachine) run.value) (record { at = λ own. tt; fresh = λ own psm above m is. cc; below = λ own above. refl })
    (λ run more sound all. keeps-all policy (Onward IsOpenMachine) (Each IsOpenMachine) (keeps_each policy IsOpenMachine (λ agreed. refl)) carries_open more run.value sound.core.lone all) list).1

-- one that has nothing to give owes nothing
pub silent_none : (m : Ertm) → m.closed ≡ None → giving m ≡ None → OwesNone m
silent_none m open' none = by (silent m none)
  where
    by : IsSilent m → OwesNone m
    by (inl shut) = absurd (shut open')
    by (inr (quiet, rest)) = ap (λ b. b || is_reply m.receiver.reply) quiet.unpolled ∙ ap is_reply quiet.unreplied

pub silent_all : (policy : Policy) (v : Channels) → AllKeep policy (Each IsOpenMachine) v → list_any gives v.held ≡ false → AllKeep policy (Each OwesNone) v
silent_all policy v all none = record { at = λ own. of own (held_at own v) refl (all.at own); fresh = λ own psm above m is. cc; below = all.below }
  where
    at : (wish : Wish) (stage : Stage) → stage_gives stage ≡ None → StageKeeps (Each IsOpenMachine 0) wish stage → StageKeeps (Each OwesNone 0) wish stage
    at wish (Requested request) off so = λ m is. cc
    at wish (Connected peer setup) off so = λ m is. silent_none m (so m is) (silent_stage (Connected peer setup) setup refl off m is)
    at wish (Leaving peer setup request) off so = λ m is. silent_none m (so m is) (silent_stage (Leaving peer setup request) setup refl off m is)
    at wish (Closing peer request checked) off so = tt
    at wish (Crossed peer request) off so = tt

    of : (own : ℕ) (held : Option Held) → held_at own v ≡ held → HeldKeeps policy (Each IsOpenMachine own) held → HeldKeeps policy (Each OwesNone own) held
    of own None found so = tt
    of own (Some held) found so = at (policy.wish held.psm) held.stage (not_some (stage_gives held.stage) (none_found gives v.held none own held found)) so

pub owes-only_what_it_heard : OwesOnlyWhatItHeard
owes-only_what_it_heard = record {
  alone = λ policy list one alone none.
      let sound = all-sound policy list in
      let after = all-sound policy (list ++ one ∷ []) in
      let lone : Distinct own_of (value_after policy one (run_of policy list).value).held = subst (λ (r : Run). Distinct own_of r.value.held) (run_more policy list one) after.core.lone in
      all_clear policy (value_after policy one (run_of policy list).value) lone (alone_keeps policy one (run_of policy list).value alone (none_owed policy (run_of policy list).value sound.core.held_below none));
  silent = λ policy list none. all_clear policy (run_of policy list).value (all-sound policy list).core.lone (silent_all policy (run_of policy list).value (all_open policy list) none);
}
