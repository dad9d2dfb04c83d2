-- Two hosts that have an enhanced channel in common hold the lesser of their windows.
use Rattle.std.proofs.Common.{◌≡◌, ℕ, ◌≤◌, List, take, drop, sym, subst, arith}
use Rattle.std.specs.Prelude.{min}
use Rattle.std.proofs.lemmas.List.{take-append-drop}
use Rattle.own_channel_laws.specs.talk_laws.specs.capture.specs.Histories.{AtEach}
use Rattle.own_channel_laws.specs.talk_laws.specs.ertm_frames.specs.Picking.{Passage}
use Rattle.own_channel_laws.specs.talk_laws.specs.link_talk.specs.declared.party.Party.{Party}
use Rattle.own_channel_laws.specs.talk_laws.specs.link_talk.specs.Accounts.{frames_passed}
use Rattle.own_channel_laws.specs.talk_laws.specs.link_talk.specs.Sayings.{Saying}
use Rattle.own_channel_laws.specs.channel_model.specs.Policies.{Policy}
use Rattle.own_channel_laws.specs.Runs.{Run}
use Rattle.own_channel_laws.specs.Sdus.{StatesFrame}
use Rattle.channel_laws.specs.Ends.{IsUtteredRunOf}
use Rattle.channel_laws.specs.Pairs.{pair_of}
use Rattle.channel_laws.specs.Windows.{HoldsWindow, HoldsWindows}
use Rattle.channel_laws.proofs.Pairing.{each-end_utters}
use Rattle.channel_laws.proofs.Windowing.{windows-hold}
use Rattle.window_laws.specs.Numbers.{HoldsAsTaken, LastIsTaken}
use Rattle.window_laws.specs.Pairs.{BothHoldAbsolutely}
use Rattle.window_laws.specs.Windows.{HoldsAbsolutely, HoldsOnEach}
use Rattle.window_laws.proofs.Hosts.{hosts-hold_as_taken}
use Rattle.window_laws.proofs.Numbers.{each-front, acknowledged-stands, holds-absolutely}
use Rattle.window_laws.proofs.Taking.{both-take_all}

-- by the window that it states itself
own_holds : (policy : Policy) (party : Party) (run : Run) (window : ℕ) → IsUtteredRunOf policy run → StatesFrame policy party → ((psm : ℕ) → (policy.wish psm).window ≤ window) → HoldsOnEach LastIsTaken party run.said → HoldsOnEach (HoldsAbsolutely window) party run.said
own_holds policy party run window (list, is, uttered) states wide takes channel has mode =
    let own = subst (λ (r : Run). HoldsOnEach (HoldsAsTaken window) party r.said) (sym is) (hosts-hold_as_taken policy party list window states uttered wide) in
    holds-absolutely window (frames_passed party channel run.said) (takes channel has mode) (own channel has mode)

-- A window that is held by the last ReqSeq is held by what all of them stand for.
lesser : (own other window : ℕ) (passed : List Passage) → other ≤ 63 → other ≤ window → AtEach LastIsTaken passed → AtEach (HoldsAbsolutely own) passed → AtEach (HoldsAbsolutely 63) passed → AtEach (HoldsWindow other) passed → AtEach (HoldsAbsolutely (min own window)) passed
lesser own other window passed small le each holds most windows n =
    let front = take n passed in
    let now : AtEach LastIsTaken front = each-front LastIsTaken front (drop n passed) (subst (AtEach LastIsTaken) (sym (take-append-drop n passed)) each) in
    let same = acknowledged-stands front now in
    let taken = each n in
    let within = (holds n).within in
    let near = (most n).within in
    let gone = (holds n).gone in
    let is = (windows n).is in
    let given = (windows n).given in
    let few = (windows n).within in
    record { gone = gone; within = omega (arith, same, taken, within, near, gone, is, given, few, small, le) }

one_holds : (mine theirs : Policy) (party : Party) (run : Run) (own window : ℕ) → IsUtteredRunOf mine run → StatesFrame mine party → ((psm : ℕ) → (mine.wish psm).window ≤ 63) → ((psm : ℕ) → (theirs.wish psm).window ≤ 63) → ((psm : ℕ) → (mine.wish psm).window ≤ own) → ((psm : ℕ) → (theirs.wish psm).window ≤ window)
    → HoldsOnEach LastIsTaken party run.said → HoldsWindows mine theirs run → HoldsOnEach (HoldsAbsolutely (min own window)) party run.said
one_holds mine theirs party run own window uttered states small_own small wide_own wide takes windows channel has mode =
    lesser own (theirs.wish channel.psm).window window (frames_passed party channel run.said) (small channel.psm) (wide channel.psm) (takes channel has mode)
    (own_holds mine party run own uttered states wide_own takes channel has mode) (own_holds mine party run 63 uttered states small_own takes channel has mode) (windows party channel states has mode)

pub both-hold_absolutely : BothHoldAbsolutely
both-hold_absolutely near far turns party near_window far_window near_states far_states fair read carried can near_wide far_wide =
    let (near_takes, far_takes) = both-take_all near far turns party near_states far_states fair read carried can in
    let (near_runs, far_runs) = each-end_utters near far turns fair in
    let (near_holds, far_holds) = windows-hold near far turns fair read carried can in
    let near_small : (psm : ℕ) → (near.wish psm).window ≤ 63 = λ psm. (can psm).near_can.most in
    let far_small : (psm : ℕ) → (far.wish psm).window ≤ 63 = λ psm. (can psm).far_can.most in (
      one_holds near far party _ near_window far_window near_runs near_states near_small far_small near_wide far_wide near_takes near_holds,
      swap (pair_of near far turns).far.run.said (one_holds far near party _ far_window near_window far_runs far_states far_small near_small far_wide near_wide far_takes far_holds),
    )
  where
    swap : (said : List Saying) → HoldsOnEach (HoldsAbsolutely (min far_window near_window)) party said → HoldsOnEach (HoldsAbsolutely (min near_window far_window)) party said
    swap said holds = let same : min far_window near_window ≡ min near_window far_window = omega arith in subst (λ w. HoldsOnEach (HoldsAbsolutely w) party said) same holds
