-- Damage of what comes to an endpoint with a check word is seen (Core 5.1, Volume 3 Part A, 3.3.5 and 5.4).
use Rattle.std.specs.Prelude.{ℕ, ◌≡◌, List, []}
use Rattle.scenario_laws.specs.capture.specs.Histories.{EachAfter}
use Rattle.channel_laws.specs.channel_model.specs.Giving.{next_given}
use Rattle.channel_laws.specs.channel_model.specs.Policies.{Policy}
use Rattle.channel_laws.specs.Belonging.{AreRead}
use Rattle.channel_laws.specs.Ends.{end_at, AreFair}
use Rattle.channel_laws.specs.Pairs.{End, Happening, Acts, Puts, Takes, Repeats, Loses, Damages, Turn, pair_of}
use Rattle.channel_laws.specs.Pipes.{IsAddressed}
use Rattle.pair_laws.specs.Changes.{AreChanged, DamageIsSeen}

-- both hosts wish the same mode of each PSM
abbrev pub WishSameModes : (near far : Policy) → Type 0
WishSameModes near far = (psm : ℕ) → (near.wish psm).mode ≡ (far.wish psm).mode

-- each SDU is given for the endpoint that it goes to
abbrev pub IsAddressedAt : Happening → End → Type 0
IsAddressedAt (Acts occurrence) end' = Unit {0}
IsAddressedAt (Puts pdu) end' = IsAddressed (next_given end'.run.value) pdu
IsAddressedAt Takes end' = Unit {0}
IsAddressedAt Repeats end' = Unit {0}
IsAddressedAt Loses end' = Unit {0}
IsAddressedAt (Damages other) end' = Unit {0}

abbrev pub AreAddressed : (near far : Policy) → List Turn → Type 0
AreAddressed near far turns = EachAfter (λ past turn. IsAddressedAt turn.happening (end_at turn.side (pair_of near far past))) [] turns

-- ---- the law

-- Where both hosts wish the same modes, all damage is seen: what comes to an endpoint with a check word was given as a frame of it.
abbrev pub AllDamageIsSeen : Type 0
AllDamageIsSeen = (near far : Policy) (turns : List Turn) → WishSameModes near far → AreFair near far turns → AreRead near far turns → AreChanged near far turns → AreAddressed near far turns → DamageIsSeen near far turns
