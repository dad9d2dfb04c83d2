-- Options that a host accepts are within what its peer wishes.
use Rattle.std.proofs.Common.{◌≡◌, ℕ, ◌≤◌, List, [], ◌∷◌, ◌++◌, Bool, true, false, cond, eqb, ◌||◌, Some, None, Ok, refl, sym, ap, subst, ◌∙◌, arith, append_assoc}
use Rattle.std.specs.Prelude.{min, nat_lt, unwrap_or, IfSome, zero, suc, Result}
use Rattle.std.specs.List.{AllByRecursion}
use Rattle.std.proofs.Math.Nat.{min-le_right}
use Rattle.std.proofs.lemmas.Bool.{ltb-false}
use Rattle.own_channel_laws.specs.talk_laws.specs.l2cap_config.specs.declared.options.ModeOption.{ModeOption}
use Rattle.own_channel_laws.specs.talk_laws.specs.l2cap_config.specs.declared.options.Options.{Options}
use Rattle.own_channel_laws.specs.talk_laws.specs.l2cap_config.specs.declared.options.ConfigRefusal.{ConfigRefusal}
use Rattle.own_channel_laws.specs.talk_laws.specs.l2cap_config.specs.declared.agreement.ConfigAnswer.{ConfigAnswer}
use Rattle.own_channel_laws.specs.talk_laws.specs.l2cap_config.specs.declared.agreement.ConfigAnswer.TheVariants.{Accept, Unacceptable}
use Rattle.own_channel_laws.specs.talk_laws.specs.l2cap_config.specs.declared.wish.Mode.{Mode}
use Rattle.own_channel_laws.specs.talk_laws.specs.l2cap_config.specs.declared.wish.Mode.TheVariants.{Basic, Enhanced}
use Rattle.own_channel_laws.specs.talk_laws.specs.l2cap_config.specs.declared.wish.Wish.{Wish}
use Rattle.own_channel_laws.specs.talk_laws.specs.l2cap_config.specs.Laws.{FitsMode, Fits}
use Rattle.own_channel_laws.specs.talk_laws.specs.l2cap_config.specs.Items.{no_options, joined}
use Rattle.own_channel_laws.specs.talk_laws.specs.l2cap_config.specs.Reading.{options_read}
use Rattle.own_channel_laws.specs.talk_laws.specs.l2cap_config.specs.Agreement.{mode_number, own_mode, bounded, requested_mode, requested, answered_values, answered, sent_mps, sent_window, agreed_on}
use Rattle.own_channel_laws.specs.talk_laws.specs.l2cap_config.proofs.Written.{written_read}
use Rattle.own_channel_laws.specs.talk_laws.specs.link_talk.specs.Sayings.{Saying}
use Rattle.own_channel_laws.specs.channel_model.specs.Configuring.{bounded_agreement}
use Rattle.own_channel_laws.specs.Agreements.{IsHeard, joined_parts}
use Rattle.channel_laws.specs.Pairs.{pair_of}
use Rattle.channel_laws.specs.Belonging.{said_at}
use Rattle.channel_laws.specs.Modes.{policy_of}
use Rattle.channel_laws.specs.Pipes.{Suits, CanState}
use Rattle.channel_laws.specs.Suiting.{OptionsSuit}
use Rattle.own_channel_laws.proofs.Agreeing.{read-joined, accepts-mode}
use Rattle.own_channel_laws.proofs.Attending.{accepted-values}
use Rattle.channel_laws.proofs.Modes.{asked-wished}

-- ---- what a host asks for

fits_mode : (wish : Wish) (suggested : Options) (mode : Mode) → CanState wish → IfSome (requested_mode wish mode suggested.mode) FitsMode
fits_mode wish suggested Basic can = tt
fits_mode wish suggested Enhanced can =
    let asked : ModeOption = unwrap_or suggested.mode (own_mode wish Enhanced) in
    record {
      mode = omega arith;
      window = omega (arith, can.most, min-le_right asked.window wish.window);
      tries = omega (arith, can.tries, min-le_right asked.tries wish.tries);
      retransmit = omega arith;
      monitor = omega arith;
      mps = omega (arith, can.mps, min-le_right asked.mps wish.mps);
    }

requested_fits : (wish : Wish) (suggested : Options) → CanState wish → Fits (requested wish suggested)
requested_fits wish suggested can = record {
  mtu = omega (arith, can.mtu, min-le_right (unwrap_or suggested.mtu wish.mtu) wish.mtu);
  mode = fits_mode wish suggested wish.mode can;
  fcs = tt;
  unknown = refl;
}

-- ---- what is acceptable of it

-- windows and frames of values that are acceptable
window_rows : (none above low : Bool) (r s : ConfigRefusal) (x y given : Options) (rest : ConfigAnswer) → cond (none || above) (Unacceptable r x) (cond low (Unacceptable s y) rest) ≡ Accept given → (none ≡ false) × (low ≡ false)
window_rows true above low r s x y given rest is = cc
window_rows false true low r s x y given rest is = cc
window_rows false false true r s x y given rest is = cc
window_rows false false false r s x y given rest is = (refl, refl)

above_none : (n : ℕ) → eqb n 0 ≡ false → 1 ≤ n
above_none zero is = cc
above_none (suc n) is = omega arith

enhanced_rows : (asked : ModeOption) (given : Options) → answered_values Enhanced asked ≡ Accept given → (1 ≤ asked.window) × (8 ≤ asked.mps)
enhanced_rows asked given is =
    let both = window_rows (eqb asked.window 0) (nat_lt 63 asked.window) (nat_lt asked.mps 8) _ _ _ _ given _ is in (above_none asked.window both.0, ltb-false asked.mps 8 both.1)

-- in enhanced mode
sends : (mode : Mode) (asked : ModeOption) (own : ℕ) → mode ≡ Enhanced → (sent_mps mode asked ≡ min asked.mps 1010) × (sent_window mode asked own ≡ min asked.window own)
sends Basic asked own is = cc
sends Enhanced asked own is = (refl, refl)

suits_by : (mine theirs : Wish) (suggested given others : Options) (mode : Mode) → theirs.mode ≡ mode → mine.mode ≡ Enhanced → CanState mine → CanState theirs
    → (let options : Options = record (requested theirs suggested) { mode = requested_mode theirs mode suggested.mode } in answered mine options ≡ Accept given → Suits (bounded_agreement (agreed_on mine options)) (bounded_agreement (agreed_on theirs others)))
suits_by mine theirs suggested given others Basic is enhanced can theirs_can accepts =
    let options : Options = record (requested theirs suggested) { mode = None } in
    let never : 0 ≡ 3 = accepts-mode mine options given accepts ∙ ap mode_number enhanced in absurd (omega (arith, never))
suits_by mine theirs suggested given others Enhanced is enhanced can theirs_can accepts =
    let whole : ModeOption = unwrap_or suggested.mode (own_mode theirs Enhanced) in
    let asked : ModeOption = bounded theirs whole in
    let options : Options = record (requested theirs suggested) { mode = Some asked } in
    let values : answered_values Enhanced asked ≡ Accept given = subst (λ m. answered_values m asked ≡ Accept given) enhanced (accepted-values mine options given accepts) in
    let low = enhanced_rows asked given values in
    let sent = sends mine.mode asked mine.window enhanced in
    let window = min-le_right whole.window theirs.window in
    let mps = min-le_right whole.mps theirs.mps in
    let mtu = min-le_right (unwrap_or suggested.mtu theirs.mtu) theirs.mtu in
    record {
      meets = record {
        some = omega (arith, low.0, can.some, sent.1);
        within = omega (arith, window, sent.1);
        most = theirs_can.most;
        mtu = omega (arith, mtu);
      };
      some = omega (arith, low.1, sent.0);
      within = omega (arith, mps, sent.0);
    }

-- ---- two ends

ok_options : (a b : Options) → (let one : Result Options ConfigRefusal = Ok a in let other : Result Options ConfigRefusal = Ok b in one ≡ other) → a ≡ b
ok_options a b is = cc

-- of what a host asks for, the later takes the place of the earlier
joined_requested : (wish : Wish) (suggested other : Options) → joined (requested wish suggested) (requested wish other) ≡ requested wish other
joined_requested wish suggested other = by wish.mode
  where
    by : (mode : Mode)
        → (let one : Options = record no_options { mtu = Some (min (unwrap_or suggested.mtu wish.mtu) wish.mtu); mode = requested_mode wish mode suggested.mode } in
        let two : Options = record no_options { mtu = Some (min (unwrap_or other.mtu wish.mtu) wish.mtu); mode = requested_mode wish mode other.mode } in joined one two ≡ two)
    by Basic = refl
    by Enhanced = refl

pub options-suit : OptionsSuit
options-suit near far turns read side own entry agreed others found on enhanced can theirs_can =
    subst (λ a. Suits a (bounded_agreement (agreed_on theirs others))) (sym on.agreed_is)
    (subst (λ o. Suits (bounded_agreement (agreed_on mine o)) (bounded_agreement (agreed_on theirs others))) (sym same)
    (suits_by mine theirs whole.0 on.given others theirs.mode refl enhanced can theirs_can (subst (λ o. answered mine o ≡ Accept on.given) same on.accepts)))
  where
    mine : Wish
    mine = (policy_of side near far).wish entry.channel.psm

    theirs : Wish
    theirs = (policy_of side far near).wish entry.channel.psm

    said : List Saying
    said = said_at side (pair_of near far turns)

    Asks : List ℕ → Type 0
    Asks octets = (suggested : Options) × (options_read octets ≡ Ok (requested theirs suggested))

    -- each part states what the other end asks for
    one : (more : Bool) (octets : List ℕ) → IsHeard own more said octets → Asks octets
    one more octets heard =
        let (suggested, is) = asked-wished near far turns read side own entry found octets (heard.identifier, heard.flags, heard.heard) in
        (suggested, ap options_read is ∙ written_read (requested theirs suggested) (requested_fits theirs suggested theirs_can))

    -- and so do all of them
    all : (parts : List (List ℕ)) (last : List ℕ) → AllByRecursion (IsHeard own true said) parts → IsHeard own false said last → Asks (joined_parts parts ++ last)
    all [] last parts_heard last_heard = one false last last_heard
    all (part ∷ parts) last (now, parts_heard) last_heard =
        let (first, first_is) = one true part now in
        let (rest, rest_is) = all parts last parts_heard last_heard in (
          rest,
          ap options_read (append_assoc part (joined_parts parts) last)
              ∙ (read-joined part (joined_parts parts ++ last) (requested theirs first) (requested theirs rest) first_is rest_is ∙ ap Ok (joined_requested theirs first rest)),
        )

    whole : Asks (joined_parts on.parts ++ on.last)
    whole = all on.parts on.last on.parts_heard on.last_heard

    same : on.options ≡ requested theirs whole.0
    same = ok_options on.options (requested theirs whole.0) (sym on.read_is ∙ whole.1)
