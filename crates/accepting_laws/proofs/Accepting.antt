-- The first options that a host asks for are accepted by one that wishes the same.
use Rattle.std.proofs.Common.{◌≡◌, ℕ, ◌≤◌, List, Bool, true, false, cond, eqb, ◌||◌, Some, None, Ok, refl, ap, ◌∙◌, arith}
use Rattle.std.specs.Prelude.{min, nat_lt, IfSome}
use Rattle.std.proofs.Math.Nat.{min-le_right, le-min}
use Rattle.std.proofs.lemmas.Bool.{le-ltb, ne_eqb}
use Rattle.channel_laws.specs.l2cap_config.specs.declared.agreement.ConfigAnswer.{ConfigAnswer}
use Rattle.channel_laws.specs.l2cap_config.specs.declared.agreement.ConfigAnswer.TheVariants.{Accept, Unacceptable}
use Rattle.channel_laws.specs.l2cap_config.specs.declared.options.ConfigRefusal.TheVariants.{BadMtu}
use Rattle.channel_laws.specs.l2cap_config.specs.declared.options.Options.{Options}
use Rattle.channel_laws.specs.l2cap_config.specs.declared.wish.Mode.{Mode}
use Rattle.channel_laws.specs.l2cap_config.specs.declared.wish.Mode.TheVariants.{Basic, Enhanced}
use Rattle.channel_laws.specs.l2cap_config.specs.declared.wish.Wish.{Wish}
use Rattle.channel_laws.specs.l2cap_config.specs.Agreement.{answered_mode, only_mode, only_mtu, answered, requested_mode}
use Rattle.channel_laws.specs.l2cap_config.specs.Items.{no_options, joined}
use Rattle.channel_laws.specs.l2cap_config.specs.Laws.{FitsMode}
use Rattle.channel_laws.specs.l2cap_config.specs.Reading.{options_read}
use Rattle.channel_laws.specs.l2cap_config.specs.Writing.{written}
use Rattle.channel_laws.specs.l2cap_config.proofs.Written.{written_read}
use Rattle.channel_laws.specs.l2cap_signal.specs.Commands.{configuration_response}
use Rattle.channel_laws.specs.channel_model.specs.Answers.{configuration_answer}
use Rattle.channel_laws.specs.channel_model.specs.Asking.{first_options}
use Rattle.channel_laws.specs.channel_model.specs.Changing.{setup_of, is_open}
use Rattle.channel_laws.specs.channel_model.specs.Configuring.{TooLate, Judged, judged_read, judged_setup, judged_stage, verdict_on}
use Rattle.channel_laws.specs.channel_model.specs.Policies.{enhanced_wish}
use Rattle.channel_laws.specs.channel_model.specs.Value.{Setup, Stage, Requested, Connected, Leaving, Closing, Crossed}
use Rattle.channel_laws.specs.Pipes.{CanState}
use Rattle.channel_laws.specs.Views.{peer_of}
use Rattle.accepting_laws.specs.Accepted.{CanBeAccepted, FirstOptionsSucceed, WishesMeet}

-- ---- what is answered

rows : (short none above low : Bool) (x y z g : ConfigAnswer) → short ≡ false → none ≡ false → above ≡ false → low ≡ false → cond short x (cond (none || above) y (cond low z g)) ≡ g
rows short none above low x y z g long some below high =
    ap (λ (b : Bool). cond b x (cond (none || above) y (cond low z g))) long
    ∙ (ap (λ (b : Bool). cond (b || above) y (cond low z g)) some ∙ (ap (λ (b : Bool). cond b y (cond low z g)) below ∙ ap (λ (b : Bool). cond b z g) high))

some_is : (n : ℕ) → 1 ≤ n → eqb n 0 ≡ false
some_is n some = ne_eqb n 0 (λ none. absurd (omega (arith, some, none)))

accepted : (wish : Wish) → CanBeAccepted wish → (given : Options) × (answered wish (first_options wish) ≡ Accept given)
accepted wish can = by wish.mode
  where
    short : nat_lt (min wish.mtu wish.mtu) 48 ≡ false
    short = le-ltb (min wish.mtu wish.mtu) 48 (le-min can.mtu can.mtu)

    by : (mode : Mode) → (let w : Wish = record wish { mode = mode } in (given : Options) × (answered w (first_options w) ≡ Accept given))
    by Basic = (no_options, ap (λ (b : Bool). cond b (Unacceptable BadMtu (only_mtu 48)) (Accept no_options)) short)
    by Enhanced =
        let window = min wish.window wish.window in
        let mps = min wish.mps wish.mps in
        let most = can.can.most in (
          only_mode (answered_mode window (min wish.tries wish.tries) mps),
          rows (nat_lt (min wish.mtu wish.mtu) 48) (eqb window 0) (nat_lt 63 window) (nat_lt mps 8) _ _ _ _ short (some_is window (le-min can.can.some can.can.some))
              (le-ltb 63 window (let less = min-le_right wish.window wish.window in omega (arith, less, most))) (le-ltb mps 8 (le-min can.mps can.mps)),
        )

-- ---- it is read as it was written

fits_mode : (wish : Wish) (mode : Mode) → CanState wish → IfSome (requested_mode wish mode None) FitsMode
fits_mode wish Basic can = tt
fits_mode wish Enhanced can = record {
  mode = omega arith;
  window = omega (arith, can.most, min-le_right wish.window wish.window);
  tries = omega (arith, can.tries, min-le_right wish.tries wish.tries);
  retransmit = omega arith;
  monitor = omega arith;
  mps = omega (arith, can.mps, min-le_right wish.mps wish.mps);
}

read_so : (wish : Wish) → CanState wish → options_read (written (first_options wish)) ≡ Ok (first_options wish)
read_so wish can =
    written_read (first_options wish) (record { mtu = omega (arith, can.mtu, min-le_right wish.mtu wish.mtu); mode = fits_mode wish wish.mode can; fcs = tt; unknown = refl })

-- behind nothing
alone : (wish : Wish) → joined no_options (first_options wish) ≡ first_options wish
alone wish = by wish.mode
  where
    by : (mode : Mode) → (let w : Wish = record wish { mode = mode } in joined no_options (first_options w) ≡ first_options w)
    by Basic = refl
    by Enhanced = refl

-- ---- in time

judged : (wish : Wish) (peer : ℕ) (setup : Setup) (given : Options) → CanState wish → answered wish (first_options wish) ≡ Accept given → is_open setup ≡ false → setup.parts ≡ no_options
    → judged_setup peer 0 wish setup (written (first_options wish)) ≡ Judged peer (first_options wish) (Accept given)
judged wish peer setup given can accepts not_open none =
    let o : Options = first_options wish in
    ap (λ (b : Bool). cond b (TooLate peer) (judged_read peer 0 wish setup (options_read (written o)))) not_open
    ∙ (ap (judged_read peer 0 wish setup) (read_so wish can)
    ∙ (ap (λ (parts : Options). Judged peer (joined parts o) (answered wish (joined parts o))) none ∙ (ap (λ (all : Options). Judged peer all (answered wish all)) (alone wish) ∙ ap (Judged peer o) accepts)))

pub first-options_succeed : FirstOptionsSucceed
first-options_succeed policy own peer psm v awaits can =
    (written given, ap (λ found. Some (configuration_answer (verdict_on found policy 0 octets) own)) awaits.found ∙ ap Some (ap (λ n. configuration_answer (judged_stage awaits.held.stage (policy.wish n) 0 octets) own) awaits.psm_is ∙ by awaits.held.stage awaits.peer_is awaits.setup_is))
  where
    wish : Wish
    wish = policy.wish psm

    octets : List ℕ
    octets = written (first_options wish)

    given : Options
    given = (accepted wish can).0

    so : (at : ℕ) (setup : Setup) → at ≡ peer → setup ≡ awaits.setup → configuration_answer (judged_setup at 0 wish setup octets) own ≡ configuration_response peer 0 0 (written given)
    so at setup there same =
        ap (λ verdict. configuration_answer verdict own) (judged wish at setup given can.can (accepted wish can).1 (ap is_open same ∙ awaits.not_open) (ap (λ (s : Setup). s.parts) same ∙ awaits.no_part)) ∙ ap (λ n. configuration_response n 0 0 (written given)) there

    by : (stage : Stage) → peer_of stage ≡ Some peer → setup_of stage ≡ Some awaits.setup → configuration_answer (judged_stage stage wish 0 octets) own ≡ configuration_response peer 0 0 (written given)
    by (Requested request) at is = cc
    by (Connected n setup) at is = let there : n ≡ peer = cc in let same : setup ≡ awaits.setup = cc in so n setup there same
    by (Leaving n setup request) at is = let there : n ≡ peer = cc in let same : setup ≡ awaits.setup = cc in so n setup there same
    by (Closing n request checked) at is = cc
    by (Crossed n request) at is = cc

-- ---- of settings

pub wishes-meet : WishesMeet
wishes-meet settings psm = (refl, by (eqb psm 0x0001) (eqb psm 0x0003))
  where
    can : CanState (enhanced_wish settings)
    can = record {
      mtu = let high = settings.mtu_high in omega (arith, high);
      mps = let high = settings.mps_high in omega (arith, high);
      least = let low = settings.mps_low in omega (arith, low);
      tries = let high = settings.tries_high in omega (arith, high);
      some = settings.window_low;
      most = settings.window_high;
    }

    mtu : 48 ≤ settings.mtu
    mtu = let low = settings.mtu_low in omega (arith, low)

    mps : 8 ≤ settings.mps
    mps = let low = settings.mps_low in omega (arith, low)

    by : (services rfcomm : Bool) → CanBeAccepted (cond services (record (enhanced_wish settings) { mode = Basic; mtu = 672 }) (cond rfcomm (record (enhanced_wish settings) { mode = Basic }) (enhanced_wish settings)))
    by true rfcomm = record { can = record { mtu = omega arith; mps = can.mps; least = can.least; tries = can.tries; some = can.some; most = can.most }; mtu = omega arith; mps = mps }
    by false true = record { can = record { mtu = can.mtu; mps = can.mps; least = can.least; tries = can.tries; some = can.some; most = can.most }; mtu = mtu; mps = mps }
    by false false = record { can = can; mtu = mtu; mps = mps }
