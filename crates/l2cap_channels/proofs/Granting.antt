-- What follows where a channel is granted.
use Rattle.std.proofs.Common.{◌≡◌, ℕ, ◌≤◌, Bool, true, false, length, refl, sym, subst, arith}
use Rattle.std.specs.Prelude.{◌==◌, ◌&&◌, not, nat_lt, nat_le, if◌then◌else◌}
use Rattle.std.proofs.lemmas.Bool.{eqb-true, leb-false, ltb-false, lt-ltb, le-leb, and_from, and_parts}
use Rattle.bt_base.specs.declared.settings.Settings.{Settings}
use Rattle.bt_base.specs.Numbers.{IsPsm}
use Rattle.channel_model.specs.Policies.{Policy, policy, offered}
use Rattle.channel_model.specs.Answers.{connection_result}
use Rattle.channel_model.specs.Calls.{can_connect}
use Rattle.channel_model.specs.Value.{Channels}

-- ---- what is offered is a multiplexer

by_third : (psm : ℕ) (hit serves : Bool) → (psm == 0x1001) ≡ hit → (hit && serves) ≡ true → IsPsm psm
by_third psm true serves is offers = subst IsPsm (sym (eqb-true psm 0x1001 is)) refl
by_third psm false serves is offers = cc

by_second : (psm : ℕ) (hit serves rest : Bool) → (psm == 0x0003) ≡ hit → (if hit then serves else rest) ≡ true → (rest ≡ true → IsPsm psm) → IsPsm psm
by_second psm true serves rest is offers more = subst IsPsm (sym (eqb-true psm 0x0003 is)) refl
by_second psm false serves rest is offers more = more offers

by_first : (psm : ℕ) (hit rest : Bool) → (psm == 0x0001) ≡ hit → (if hit then true else rest) ≡ true → (rest ≡ true → IsPsm psm) → IsPsm psm
by_first psm true rest is offers more = subst IsPsm (sym (eqb-true psm 0x0001 is)) refl
by_first psm false rest is offers more = more offers

pub offered_psm : (settings : Settings) (server : Bool) (psm : ℕ) → offered settings server psm ≡ true → IsPsm psm
offered_psm settings server psm offers =
    by_first psm (psm == 0x0001) _ refl (and_parts _ _ offers).1 (λ rest. by_second psm (psm == 0x0003) _ _ refl rest (λ last. by_third psm (psm == 0x1001) _ refl last))

-- ---- a channel that is granted

tests_by : (offers four spent low taken : Bool) → ◌≡◌ {A = ℕ} (if not offers then 2 else if four then 4 else if spent then 4 else if low then 6 else if taken then 7 else 0) 0
    → (offers ≡ true) × (four ≡ false) × (spent ≡ false) × (low ≡ false)
tests_by false four spent low taken none = absurd (omega (arith, none))
tests_by true true spent low taken none = absurd (omega (arith, none))
tests_by true false true low taken none = absurd (omega (arith, none))
tests_by true false false true taken none = absurd (omega (arith, none))
tests_by true false false false taken none = (refl, refl, refl, refl)

pub granted : (policy : Policy) (psm source : ℕ) (v : Channels) → connection_result policy psm source v ≡ 0
    → (policy.offers psm ≡ true) × (nat_le 4 (length v.held) ≡ false) × (nat_lt 0xFFFF v.next ≡ false) × (nat_lt source 0x0040 ≡ false)
granted policy psm source v none = tests_by (policy.offers psm) (nat_le 4 (length v.held)) (nat_lt 0xFFFF v.next) (nat_lt source 0x0040) _ none

pub granted_psm : (settings : Settings) (server : Bool) (psm source : ℕ) (v : Channels) → connection_result (policy settings server) psm source v ≡ 0 → IsPsm psm
granted_psm settings server psm source v none = offered_psm settings server psm (granted (policy settings server) psm source v none).0

pub granted_source : (policy : Policy) (psm source : ℕ) (v : Channels) → connection_result policy psm source v ≡ 0 → 0x0040 ≤ source
granted_source policy psm source v none = ltb-false source 0x0040 (granted policy psm source v none).3

pub granted_next : (policy : Policy) (psm source : ℕ) (v : Channels) → connection_result policy psm source v ≡ 0 → v.next ≤ 0xFFFF
granted_next policy psm source v none = ltb-false 0xFFFF v.next (granted policy psm source v none).2

pub granted_room : (policy : Policy) (psm source : ℕ) (v : Channels) → connection_result policy psm source v ≡ 0 → can_connect v ≡ true
granted_room policy psm source v none =
    and_from _ _ (lt-ltb (length v.held) 4 (leb-false 4 (length v.held) (granted policy psm source v none).1)) (le-leb v.next 0xFFFF (granted_next policy psm source v none))
