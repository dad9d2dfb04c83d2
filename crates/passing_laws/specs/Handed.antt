-- What is handed over on an endpoint was put: so the passes that find a PDU of it are no more than the PDUs that were put for it (this project's own).
use Rattle.std.specs.Prelude.{ℕ, ◌+◌, ◌≤◌, ◌==◌, ◌&&◌, List, [], ◌∷◌, length, Option, Some, None}
use Rattle.channel_laws.specs.acl_fragments.specs.Pieces.{channel_of}
use Rattle.channel_laws.specs.channel_model.specs.Giving.{Given, next_given}
use Rattle.channel_laws.specs.channel_model.specs.Policies.{Policy}
use Rattle.channel_laws.specs.Adverse.{seen_from}
use Rattle.channel_laws.specs.Pairs.{Pair, Happening, Acts, Puts, Takes, Repeats, Loses, Damages, Side, Near, Far, Turn, new_pair, pair_after, pair_of}
use Rattle.channel_laws.specs.Tries.{one_if}
use Rattle.passing_laws.specs.Words.{is_first, is_handed}
use Rattle.passing_laws.specs.Channels.{of_endpoint}

-- of a turn of the near host: a PDU of its endpoint is handed over and goes
abbrev pub handed_at : (own : ℕ) → Happening → Pair → ℕ
handed_at own happening pair = one_if (is_handed happening && is_first own pair.near.coming)

-- and it puts one for an endpoint of the other host
abbrev pub put_by : Option Given → (peer : ℕ) → List ℕ → ℕ
put_by None peer pdu = 0
put_by (Some given) peer pdu = one_if (channel_of pdu == peer)

abbrev pub put_at : (peer : ℕ) → Happening → Pair → ℕ
put_at peer (Acts occurrence) pair = 0
put_at peer (Puts pdu) pair = put_by (next_given pair.near.run.value) peer pdu
put_at peer Takes pair = 0
put_at peer Repeats pair = 0
put_at peer Loses pair = 0
put_at peer (Damages pdu) pair = 0

-- ---- over all turns, for an endpoint of one side

-- where both are the same side
abbrev pub on_side : (side of : Side) → ℕ → ℕ
on_side Near Near count = count
on_side Near Far count = 0
on_side Far Near count = 0
on_side Far Far count = count

abbrev pub other_side : Side → Side
other_side Near = Far
other_side Far = Near

abbrev pub all_handed : Side → (own : ℕ) → Pair → List Turn → ℕ
all_handed side own pair [] = 0
all_handed side own pair (turn ∷ turns) = on_side side turn.side (handed_at own turn.happening (seen_from side pair)) + all_handed side own (pair_after pair turn) turns

-- the other host put them
abbrev pub all_put : Side → (own : ℕ) → Pair → List Turn → ℕ
all_put side own pair [] = 0
all_put side own pair (turn ∷ turns) = on_side (other_side side) turn.side (put_at own turn.happening (seen_from (other_side side) pair)) + all_put side own (pair_after pair turn) turns

-- Whatever goes wrong: the PDUs of an endpoint that were handed over, with those that are still under way, are no more than were put for it.
abbrev pub HandedWerePut : Type 0
HandedWerePut = (near far : Policy) (turns : List Turn) (side : Side) (own : ℕ)
    → all_handed side own (new_pair near far) turns + length (of_endpoint own (seen_from side (pair_of near far turns)).near.coming) ≤ all_put side own (new_pair near far) turns
