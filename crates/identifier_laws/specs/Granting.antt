-- How many channels a host grants (Core 5.1, Volume 3 Part A, 2.1, 4.2 and 4.3).
use Rattle.std.specs.Prelude.{ℕ, ◌≡◌, ◌≤◌, Bool, false, List}
use Rattle.channel_laws.specs.capture.specs.declared.flow.Flow.TheVariants.{Into}
use Rattle.channel_laws.specs.link_talk.specs.declared.call.Call.{Call}
use Rattle.channel_laws.specs.channel_model.specs.Policies.{Policy}
use Rattle.channel_laws.specs.Belonging.{AreRead}
use Rattle.channel_laws.specs.Connections.{requests_for}
use Rattle.channel_laws.specs.Pairs.{Turn, pair_of}
use Rattle.channel_laws.specs.Runs.{Occurrence, run_of}
use Rattle.channel_laws.specs.Singly.{calls_that_went, AreOneByOne}

-- Whatever the link loses, repeats and damages: where a host that offers no channel asks for two at most, one after the other, and its peer for none, the peer grants two
-- at most. Their endpoints there are 0x0040 and 0x0041.
abbrev pub TwoAreGranted : Type 0
TwoAreGranted = (near far : Policy) (turns : List Turn) (one other : List Occurrence) (Fits : ℕ → List Call → Bool) → AreRead near far turns → (pair_of near far turns).near.run ≡ run_of near one → (pair_of near far turns).far.run ≡ run_of far other
    → ((psm : ℕ) → near.offers psm ≡ false) → requests_for one ≤ 14 → requests_for other ≡ 0 → AreOneByOne Fits (calls_that_went Into (run_of far other).said) → (run_of far other).value.next ≤ 66
