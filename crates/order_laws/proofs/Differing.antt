-- Two answers and a command that waited together.
use Rattle.std.proofs.Common.{◌≡◌, ◌∙◌, ℕ, zero, suc, List, [], ◌∷◌, length, drop, refl, sym, ap, arith}
use Rattle.bt_host.specs.channel_model.specs.Policies.{Policy}
use Rattle.bt_host.specs.host_model.specs.Hosts.{drives}
use Rattle.bt_host.specs.host_model.specs.Profiles.{Profile}
use Rattle.bt_host.specs.host_link.specs.PuttingOut.{put_command}
use Rattle.bt_host.specs.Stacks.{Standing, with_line, says_up_to, leaves, pages, goes_out}
use Rattle.order_laws.specs.Differing.{idle_profile, waiting_together, OrdersMayDiffer}
use Rattle.order_laws.specs.Rounds.{Midway, goes_round, goes_rounds, EndsInRounds, midway_at}

first_of : List ℕ → ℕ
first_of [] = 0
first_of (x ∷ xs) = x

module _ (rules : Policy) where
  abbrev A : Profile (Unit {0})
  A = idle_profile rules

  abbrev begin : Midway (Unit {0})
  begin = midway_at waiting_together

  abbrev octets : Midway (Unit {0}) → List ℕ
  octets midway = midway.now.line.out

  abbrev once : Midway (Unit {0})
  once = goes_round A begin

  abbrev twice : Midway (Unit {0})
  twice = goes_round A once

  stays : (count : ℕ) → goes_round A twice ≡ twice → goes_rounds A count twice ≡ twice
  unfolding goes_rounds
  stays zero still = refl
  stays (suc count) still = ap (goes_rounds A count) still ∙ stays count still

  last_is : (count : ℕ) (last : Midway (Unit {0})) → goes_rounds A count begin ≡ last → goes_round A last ≡ last → last ≡ twice
  unfolding goes_rounds
  last_is zero last rounds still =
      let grew : length (octets once) ≡ length (octets begin) = ap (λ (m : Midway (Unit {0})). length (octets (goes_round A m))) rounds ∙ (ap (λ (m : Midway (Unit {0})). length (octets m)) still ∙ sym (ap (λ (m : Midway (Unit {0})). length (octets m)) rounds)) in
      absurd (omega (arith, grew))
  last_is (suc zero) last rounds still =
      let grew : length (octets twice) ≡ length (octets once) = ap (λ (m : Midway (Unit {0})). length (octets (goes_round A m))) rounds ∙ (ap (λ (m : Midway (Unit {0})). length (octets m)) still ∙ sym (ap (λ (m : Midway (Unit {0})). length (octets m)) rounds)) in
      absurd (omega (arith, grew))
  last_is (suc (suc count)) last rounds still = sym rounds ∙ stays count refl

  fourteenth : Standing (Unit {0}) → ℕ
  fourteenth now = first_of (drop 13 now.line.out)

  differ : EndsInRounds A begin (goes_out A waiting_together) → ⊥
  unfolding says_up_to drives first_of fourteenth
  differ ends =
      let last = last_is ends.count ends.last ends.rounds ends.still in
      let same : fourteenth (goes_out A waiting_together) ≡ fourteenth (with_line put_command (pages A (leaves A twice.now))) = ap fourteenth ends.behind ∙ ap (λ (m : Midway (Unit {0})). fourteenth (with_line put_command (pages A (leaves A m.now)))) last in
      let apart : 2 ≡ 1 = same in
      absurd (omega (arith, apart))

pub orders_may_differ : OrdersMayDiffer
orders_may_differ = differ
