-- What is to be done with a piece.
use Rattle.std.specs.Prelude.{◌≡◌, ℕ, ◌+◌, ◌<◌, ◌≤◌, List, ◌++◌, length}
use Rattle.acl_fragments.specs.declared.joiner.Step.{Step}
use Rattle.acl_fragments.specs.declared.joiner.Step.TheVariants as steps
use Rattle.acl_fragments.specs.Pieces.{pdu_length, channel_of}
use Rattle.acl_fragments.specs.Answers.{Pdu, More, Dropped, start_answer, next_answer}

abbrev pub IsStartStep : ℕ → List ℕ → Step → Type 0
IsStartStep limit piece steps.Whole = (4 ≤ length piece) × (start_answer limit piece ≡ Pdu (channel_of piece) piece)
IsStartStep limit piece steps.More =
    (4 ≤ length piece) × (pdu_length piece ≤ limit) × (length piece < pdu_length piece) × (start_answer limit piece ≡ More)
IsStartStep limit piece (steps.Drop reason) = start_answer limit piece ≡ Dropped reason

abbrev pub IsNextStep : List ℕ → List ℕ → Step → Type 0
IsNextStep held piece steps.Whole =
    (length held + length piece ≡ pdu_length held) × (next_answer held piece ≡ Pdu (channel_of (held ++ piece)) (held ++ piece))
IsNextStep held piece steps.More =
    (length held + length piece < pdu_length held) × (next_answer held piece ≡ More)
IsNextStep held piece (steps.Drop reason) = next_answer held piece ≡ Dropped reason
