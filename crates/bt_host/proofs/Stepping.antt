-- What a host does by itself leads to one place: each deed comes where it may, and no other.
use Rattle.std.proofs.Common.{◌≡◌, ◌∙◌, ◌&&◌, not, ℕ, zero, suc, Bool, true, false, is_some, List, refl, sym, ap, true≢false, arith, if◌then◌else◌}
use Rattle.std.specs.Prelude.{Option, Some, None}
use Rattle.channel_model.specs.Giving.{Given, next_given}
use Rattle.host_link.specs.Calling.{may_end}
use Rattle.host_link.specs.PuttingOut.{can_take_pdu, take_pdu, connecting, leaving, is_waiting}
use Rattle.shelf_model.specs.host_model.specs.Pdus.{pdu_of, is_frame}
use Rattle.shelf_model.specs.host_model.specs.Profiles.{Profile}
use Rattle.shelf_model.specs.host_model.specs.Hosts.{Host, next, has_more, after_said, says as say_given}
use Rattle.bt_host.specs.Stacks.{Standing, is_asking, with_line, said_then, says_up_to, says_one, says_all, leaves, pages}
use Rattle.bt_host.specs.Stopping.{none_next}

on_if : {X : Type 0} (test : Bool) (a b : X) → test ≡ true → (if test then a else b) ≡ a
on_if true a b on = refl
on_if false a b on = absurd (true≢false (sym on))

off_if : {X : Type 0} (test : Bool) (a b : X) → test ≡ false → (if test then a else b) ≡ b
off_if true a b off = absurd (true≢false off)
off_if false a b off = refl

same_if : {X : Type 0} (test : Bool) (a : X) → (if test then a else a) ≡ a
same_if true a = refl
same_if false a = refl

last_off : (a b : Bool) → b ≡ false → (a && b) ≡ false
last_off true b off = off
last_off false b off = refl

-- ---- a PDU

-- a host that says one may say one less then
abbrev host_in : {S : Type 0} → Option (List ℕ × Host S) → Host S → Host S
host_in None other = other
host_in (Some (pdu, host)) other = host

framed : {S : Type 0} (test : Bool) (one said : List ℕ × Host S) → (if test then Some one else None) ≡ Some said → one.1 ≡ said.1
framed true one said is = ap (λ found. host_in found one.1) is
framed false one said is = absurd cc

counts_by : {S : Type 0} (A : Profile S) (given : Option Given) (count : ℕ) (host after : Host S) (pdu : List ℕ) → say_given A given count host ≡ Some (pdu, after) → count ≡ suc after.may_say
counts_by A None count host after pdu is = absurd cc
counts_by A (Some given) zero host after pdu is = absurd cc
counts_by A (Some given) (suc count) host after pdu is = ap (λ (h : Host _). suc h.may_say) (framed (is_frame (pdu_of given)) (pdu_of given, after_said A count host) (pdu, after) is)

module _ {S : Type 0} (A : Profile S) where
  pub said_one : (now : Standing S) (host : Host S) (pdu : List ℕ) → can_take_pdu now.line ≡ true → next A now.host ≡ Some (pdu, host) → says_one A now ≡ record now { line = take_pdu pdu now.line; host = host }
  said_one now host pdu can said = on_if (can_take_pdu now.line) (said_then (λ mid. mid) now (next A now.host)) now can ∙ ap (said_then (λ mid. mid) now) said

  stuck_at : (count : ℕ) (now : Standing S) → can_take_pdu now.line ≡ false → says_up_to A count now ≡ now
  unfolding says_up_to
  stuck_at zero now off = refl
  stuck_at (suc count) now off = off_if (can_take_pdu now.line) (said_then (λ mid. says_up_to A count mid) now (next A now.host)) now off

  silent_at : (count : ℕ) (now : Standing S) → next A now.host ≡ None → says_up_to A count now ≡ now
  unfolding says_up_to
  silent_at zero now none = refl
  silent_at (suc count) now none =
      ap (λ said. if can_take_pdu now.line then said_then (λ mid. says_up_to A count mid) now said else now) none ∙ same_if (can_take_pdu now.line) now

  -- where none may be taken, or there is none
  pub none_taken : (now : Standing S) → can_take_pdu now.line ≡ false → says_all A now ≡ now
  none_taken now off = stuck_at now.host.may_say now off

  pub none_is_next : (now : Standing S) → next A now.host ≡ None → says_all A now ≡ now
  none_is_next now none = silent_at now.host.may_say now none

  pub none_there : (now : Standing S) → has_more now.host ≡ false → says_all A now ≡ now
  none_there now off = none_is_next now (none_next A now.host off)

  -- behind a PDU it may say one less
  pub says_one_less : (now : Standing S) (host : Host S) (pdu : List ℕ) (count : ℕ) → now.host.may_say ≡ suc count → next A now.host ≡ Some (pdu, host) → host.may_say ≡ count
  says_one_less now host pdu count is said =
      let spent = counts_by A (next_given now.host.channels) now.host.may_say now.host host pdu said in omega (arith, spent, is)

  step_said : (count : ℕ) (now : Standing S) (host : Host S) (pdu : List ℕ) → can_take_pdu now.line ≡ true → next A now.host ≡ Some (pdu, host)
      → says_up_to A (suc count) now ≡ says_up_to A count (record now { line = take_pdu pdu now.line; host = host })
  unfolding says_up_to
  step_said count now host pdu can said =
      on_if (can_take_pdu now.line) (said_then (λ mid. says_up_to A count mid) now (next A now.host)) now can ∙ ap (said_then (λ mid. says_up_to A count mid) now) said

  once_by : (can : Bool) (said : Option (List ℕ × Host S)) (now : Standing S) → can_take_pdu now.line ≡ can → next A now.host ≡ said
      → says_all A now ≡ says_all A (if can then said_then (λ mid. mid) now said else now)
  once_by false said now can_is said_is = refl
  once_by true None now can_is said_is = refl
  once_by true (Some (pdu, host)) now can_is said_is =
      ap (λ n. says_up_to A n now) (counts_by A (next_given now.host.channels) now.host.may_say now.host host pdu said_is) ∙ step_said host.may_say now host pdu can_is said_is

  -- all PDUs are said, if one is said, and then all
  pub one_and_all : (now : Standing S) → says_all A now ≡ says_all A (says_one A now)
  one_and_all now = once_by (can_take_pdu now.line) (next A now.host) now refl refl

  -- ---- the end of the link

  all_four : (a b c d : Bool) → a ≡ true → b ≡ false → c ≡ false → d ≡ true → (a && (not b && (not c && d))) ≡ true
  all_four a b c d a_is b_is c_is d_is =
      ap (λ (x : Bool). x && (not b && (not c && d))) a_is ∙ ap (λ (x : Bool). not x && (not c && d)) b_is ∙ ap (λ (x : Bool). not x && d) c_is ∙ d_is

  pub left_now : (now : Standing S) → may_end now.line ≡ true → is_waiting now.line ≡ false → has_more now.host ≡ false → A.leaves_link now.host.profile ≡ true → leaves A now ≡ with_line (λ line. leaving line.link line) now
  left_now now may none_waits none ends = on_if _ _ _ (all_four (may_end now.line) (is_waiting now.line) (has_more now.host) (A.leaves_link now.host.profile) may none_waits none ends)

  abbrev behind : Bool → Bool → Bool → Bool
  behind waits more ends = not waits && (not more && ends)

  stays_by : (now : Standing S) → behind (is_waiting now.line) (has_more now.host) (A.leaves_link now.host.profile) ≡ false → leaves A now ≡ now
  stays_by now off = off_if _ _ _ (last_off (may_end now.line) (behind (is_waiting now.line) (has_more now.host) (A.leaves_link now.host.profile)) off)

  pub may_not_end : (now : Standing S) → may_end now.line ≡ false → leaves A now ≡ now
  may_not_end now off = off_if _ _ _ (ap (λ (b : Bool). b && behind (is_waiting now.line) (has_more now.host) (A.leaves_link now.host.profile)) off)

  pub piece_waits : (now : Standing S) → is_waiting now.line ≡ true → leaves A now ≡ now
  piece_waits now on = stays_by now (ap (λ (b : Bool). behind b (has_more now.host) (A.leaves_link now.host.profile)) on)

  pub more_to_say : (now : Standing S) → has_more now.host ≡ true → leaves A now ≡ now
  more_to_say now on = stays_by now (last_off (not (is_waiting now.line)) (not (has_more now.host) && A.leaves_link now.host.profile) (ap (λ (b : Bool). not b && A.leaves_link now.host.profile) on))

  pub link_is_kept : (now : Standing S) → A.leaves_link now.host.profile ≡ false → leaves A now ≡ now
  link_is_kept now off = stays_by now (last_off (not (is_waiting now.line)) (not (has_more now.host) && A.leaves_link now.host.profile) (last_off (not (has_more now.host)) (A.leaves_link now.host.profile) off))

  -- ---- a link

  pub paged_now : (now : Standing S) → is_some now.line.link ≡ false → is_asking now.line ≡ false → A.wants_link now.host.profile ≡ true → pages A now ≡ with_line (connecting now.paged) now
  paged_now now off unasked wants =
      on_if _ _ _ (ap (λ (b : Bool). not b && (not (is_asking now.line) && A.wants_link now.host.profile)) off ∙ ap (λ (b : Bool). not b && A.wants_link now.host.profile) unasked ∙ wants)

  pub link_is_up : (now : Standing S) → is_some now.line.link ≡ true → pages A now ≡ now
  link_is_up now on = off_if _ _ _ (ap (λ (b : Bool). not b && (not (is_asking now.line) && A.wants_link now.host.profile)) on)

  pub link_is_asked : (now : Standing S) → is_asking now.line ≡ true → pages A now ≡ now
  link_is_asked now on = off_if _ _ _ (last_off (not (is_some now.line.link)) (not (is_asking now.line) && A.wants_link now.host.profile) (ap (λ (b : Bool). not b && A.wants_link now.host.profile) on))

  pub none_is_wanted : (now : Standing S) → A.wants_link now.host.profile ≡ false → pages A now ≡ now
  none_is_wanted now off =
      off_if _ _ _ (last_off (not (is_some now.line.link)) (not (is_asking now.line) && A.wants_link now.host.profile) (last_off (not (is_asking now.line)) (A.wants_link now.host.profile) off))
