-- What is asked for, and what is agreed on.
use Rattle.std.proofs.Common.{◌≡◌, ◌∙◌, ℕ, ◌≤◌, Bool, true, false, refl, arith}
use Rattle.std.specs.Prelude.{min, ◌==◌, ◌||◌, not, nat_lt, if◌then◌else◌, Some, length}
use Rattle.std.proofs.lemmas.Bool.{ltb-false, eqb-false}
use Rattle.l2cap_config.specs.declared.options.Options.{Options}
use Rattle.l2cap_config.specs.declared.options.ModeOption.{ModeOption}
use Rattle.l2cap_config.specs.declared.wish.Mode.{Mode}
use Rattle.l2cap_config.specs.declared.wish.Mode.TheVariants.{Basic, Enhanced}
use Rattle.l2cap_config.specs.declared.wish.Wish.{Wish}
use Rattle.l2cap_config.specs.declared.wish.Agreed.{Agreed}
use Rattle.l2cap_config.specs.declared.agreement.ConfigAnswer.{ConfigAnswer}
use Rattle.l2cap_config.specs.declared.agreement.ConfigAnswer.TheVariants.{Accept, Unacceptable, Unknown}
use Rattle.l2cap_config.specs.Agreement.{asked_mode, asked_mtu, mode_number, answered_values, answered, agreed_on, agreed_if, sent_mps, sent_window}
use Rattle.l2cap_channels.specs.Lines.{IsFor}
use Rattle.l2cap_channels.specs.Steps.{IsWish, IsAccept}

pub least_of_same : (n : ℕ) → min n n ≡ n
least_of_same n = omega arith

-- ---- options that are accepted

pub agreed_some : (a : ConfigAnswer) (x : Agreed) → IsAccept a → agreed_if a x ≡ Some x
agreed_some (Accept given) x is = refl
agreed_some (Unacceptable refusal given) x is = absurd is
agreed_some Unknown x is = absurd is

values_by : (unknown wrong low : Bool) (a b c d : ConfigAnswer) → IsAccept (if unknown then a else if wrong then b else if low then c else d)
    → (IsAccept a → ⊥) → (IsAccept b → ⊥) → (IsAccept c → ⊥) → IsAccept d
values_by true wrong low a b c d is na nb nc = absurd (na is)
values_by false true low a b c d is na nb nc = absurd (nb is)
values_by false false true a b c d is na nb nc = absurd (nc is)
values_by false false false a b c d is na nb nc = is

tests_by : (out small : Bool) (a b c : ConfigAnswer) → IsAccept (if out then a else if small then b else c) → (IsAccept a → ⊥) → (IsAccept b → ⊥) → (out ≡ false) × (small ≡ false)
tests_by true small a b c is na nb = absurd (na is)
tests_by false true a b c is na nb = absurd (nb is)
tests_by false false a b c is na nb = (refl, refl)

or_none : (a b : Bool) → (a || b) ≡ false → (a ≡ false) × (b ≡ false)
or_none true b e = cc
or_none false b e = (refl, e)

mode_fits : (mode : Mode) (asked : ModeOption) (send_mtu receive_mtu receive_mps window tries : ℕ) → 1 ≤ window → window ≤ 63 → IsAccept (answered_values mode asked)
    → IsFor mode (record { mode = mode; send_mtu = send_mtu; receive_mtu = receive_mtu; send_mps = sent_mps mode asked; receive_mps = receive_mps; send_window = sent_window mode asked window; receive_window = window; tries = tries })
mode_fits Basic asked send_mtu receive_mtu receive_mps window tries from to is = tt
mode_fits Enhanced asked send_mtu receive_mtu receive_mps window tries from to is =
    let tests = tests_by ((asked.window == 0) || nat_lt 63 asked.window) (nat_lt asked.mps 8) _ _ _ is (λ x. x) (λ x. x) in
    let window_tests = or_none (asked.window == 0) (nat_lt 63 asked.window) tests.0 in
    let most : asked.window ≤ 63 = ltb-false 63 asked.window window_tests.1 in
    let least : 8 ≤ asked.mps = ltb-false asked.mps 8 tests.1 in
    let some : 1 ≤ asked.window = positive asked.window window_tests.0 in
    record {
      mps_from = omega (arith, least);
      mps_to = omega arith;
      send_from = omega (arith, some, from);
      send_to = omega (arith, most, to);
      receive_from = from;
      receive_to = to;
    }
  where
    positive : (n : ℕ) → (n == 0) ≡ false → 1 ≤ n
    positive n e = let none = eqb-false n 0 e in grind (arith, none)

pub agreed_fits : (wish : Wish) (options : Options) → IsWish wish → IsAccept (answered wish options) → IsFor wish.mode (agreed_on wish options)
agreed_fits wish options fits is =
    mode_fits wish.mode (asked_mode options) (asked_mtu options) wish.mtu wish.mps wish.window wish.tries fits.window_from fits.window_to
    (values_by (not (length options.unknown == 0)) (not ((asked_mode options).mode == mode_number wish.mode)) (nat_lt (asked_mtu options) 48) _ _ _ _ is (λ x. x) (λ x. x) (λ x. x))

pub agreement_fits : (wish : Wish) (options : Options) (agreed : Agreed) → IsWish wish → IsAccept (answered wish options) → Some agreed ≡ agreed_if (answered wish options) (agreed_on wish options) → agreed ≡ agreed_on wish options
agreement_fits wish options agreed fits is found = same_some agreed (agreed_on wish options) (found ∙ agreed_some (answered wish options) (agreed_on wish options) is)
  where
    same_some : (x y : Agreed) → Some x ≡ Some y → x ≡ y
    same_some x y e = cc
