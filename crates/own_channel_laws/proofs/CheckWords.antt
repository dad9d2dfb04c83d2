-- Check words are where the talk says that they are.
use Rattle.std.proofs.Common.{◌≡◌, ℕ, List, [], ◌∷◌, Bool, true, false, cond, ◌&&◌, ◌||◌, eqb, Option, Some, None, refl, sym, ap, subst, ◌∙◌}
use Rattle.std.specs.Prelude.{is_some}
use Rattle.std.specs.List.{list_any}
use Rattle.std.proofs.lemmas.Bool.{eqb-true}
use Rattle.talk_laws.specs.l2cap_config.specs.declared.wish.Wish.{Wish}
use Rattle.talk_laws.specs.link_talk.specs.Setups.{is_enhanced}
use Rattle.talk_laws.specs.link_talk.specs.Channels.{is_there, Entry, reading}
use Rattle.talk_laws.specs.link_talk.specs.Waits.{is_checked}
use Rattle.channel_model.specs.Value.{Own, Unasked, Asking, Granted, Stage, Requested, Connected, Leaving, Closing, Crossed, Held}
use Rattle.channel_model.specs.Policies.{Policy}
use Rattle.channel_model.specs.Changing.{held_at, is_stated}
use Rattle.channel_model.specs.Calls.{has_fcs_at, has_fcs_on}
use Rattle.channel_model.proofs.Lookups.{Distinct, not_found}
use Rattle.own_channel_laws.specs.Views.{peer_of, life_of, asked_mode, is_own, standing, is_checked_by, read_at}
use Rattle.own_channel_laws.specs.Runs.{Run, run_of}
use Rattle.own_channel_laws.specs.CheckWords.{CheckWordsAreRead}
use Rattle.own_channel_laws.proofs.Entries.{own_read}
use Rattle.own_channel_laws.proofs.Sound.{AgreesIf, checks-agree, ReadsBy, Reads}
use Rattle.own_channel_laws.proofs.Running.{all-sound}

-- ---- one entry of all

abbrev pub checks : Entry → Bool
checks entry = is_there entry.life && is_checked_by entry.setup

abbrev pub checked : Option Entry → Bool
checked None = false
checked (Some entry) = checks entry

none_checked : (own : ℕ) (entries : List Entry) → read_at own entries ≡ None → list_any (is_checked own) entries ≡ false
none_checked own [] none = refl
none_checked own (entry ∷ entries) none =
    let parts = not_found (is_own own entry) entry (read_at own entries) none in
    ap (λ t. ((t && is_there entry.life) && (is_some entry.setup.accepted && is_enhanced entry.setup.asked)) || list_any (is_checked own) entries) parts.0 ∙ none_checked own entries parts.1

any_at : (own : ℕ) (entries : List Entry) → Distinct own_read entries → list_any (is_checked own) entries ≡ checked (read_at own entries)
any_at own [] distinct = refl
any_at own (entry ∷ entries) (alone, distinct) = by (eqb entry.channel.own own) refl (any_at own entries distinct)
  where
    or_false : (b : Bool) → (b || false) ≡ b
    or_false true = refl
    or_false false = refl

    by : (same : Bool) → eqb entry.channel.own own ≡ same → list_any (is_checked own) entries ≡ checked (read_at own entries)
        → (((same && is_there entry.life) && (is_some entry.setup.accepted && is_enhanced entry.setup.asked)) || list_any (is_checked own) entries) ≡ checked (cond same (Some entry) (read_at own entries))
    by true is later =
        ap (λ t. checks entry || t) (none_checked own entries (ap (λ n. read_at n entries) (sym (eqb-true entry.channel.own own is)) ∙ alone)) ∙ or_false (checks entry)
    by false is later = later

-- ---- one channel

pub stated_mode : (wish : Wish) (own : Own) → is_stated own ≡ true → asked_mode wish own ≡ Some wish.mode
stated_mode wish Unasked is = cc
stated_mode wish (Asking request options) is = refl
stated_mode wish Granted is = refl

stage_checks : (policy : Policy) (held : Held) (stage : Stage) (found : Option Entry) → held.stage ≡ stage → ReadsBy policy held (peer_of stage) found → has_fcs_at stage ≡ checked found
stage_checks policy held (Requested request) None is reads = refl
stage_checks policy held (Requested request) (Some entry) is reads = elim reads [ ]
stage_checks policy held (Connected peer setup) None is reads = elim reads [ ]
stage_checks policy held (Connected peer setup) (Some entry) is (there, agrees) =
    sym (ap (λ t. t && is_checked_by entry.setup) (ap is_there (there.life_is ∙ ap life_of is)) ∙ checks-agree (policy.wish held.psm) setup entry.setup (subst (λ s. AgreesIf (policy.wish held.psm) (standing s) entry.setup) is agrees))
stage_checks policy held (Leaving peer setup request) None is reads = elim reads [ ]
stage_checks policy held (Leaving peer setup request) (Some entry) is (there, agrees) =
    sym (ap (λ t. t && is_checked_by entry.setup) (ap is_there (there.life_is ∙ ap life_of is)) ∙ checks-agree (policy.wish held.psm) setup entry.setup (subst (λ s. AgreesIf (policy.wish held.psm) (standing s) entry.setup) is agrees))
stage_checks policy held (Closing peer request still) None is reads = elim reads [ ]
stage_checks policy held (Closing peer request still) (Some entry) is (there, agrees) =
    let shut : is_checked_by entry.setup ≡ still = subst (λ s. AgreesIf (policy.wish held.psm) (standing s) entry.setup) is agrees in
    sym (ap (λ t. t && is_checked_by entry.setup) (ap is_there (there.life_is ∙ ap life_of is)) ∙ shut)
stage_checks policy held (Crossed peer request) None is reads = elim reads [ ]
stage_checks policy held (Crossed peer request) (Some entry) is (there, agrees) = sym (ap (λ t. t && is_checked_by entry.setup) (ap is_there (there.life_is ∙ ap life_of is)))

pub held_checks : (policy : Policy) (held : Option Held) (found : Option Entry) → Reads policy held found → has_fcs_on held ≡ checked found
held_checks policy None None reads = refl
held_checks policy None (Some entry) reads = sym (ap (λ l. is_there l && is_checked_by entry.setup) reads)
held_checks policy (Some held) found reads = stage_checks policy held held.stage found refl reads

pub check_words-are_read : CheckWordsAreRead
check_words-are_read policy list own =
    let run : Run = run_of policy list in
    let sound = all-sound policy list in
    held_checks policy (held_at own run.value) (read_at own (reading run.said).entries) (sound.core.reads own) ∙ sym (any_at own (reading run.said).entries sound.core.distinct)
