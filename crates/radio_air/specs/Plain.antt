-- What the types of the code stand for: an answer, how far two devices are with a link, and what is to be done with a piece.
use Rattle.std.specs.Prelude.{ℕ, ◌+◌, ◌≡◌, ◌≤◌, ◌<◌, Bool, true, false, List, [], ◌∷◌, ◌++◌, length, if◌then◌else◌}
use Rattle.bt_base.specs.Octets.{le16}
use Rattle.acl_fragments.specs.Pieces.{channel_of}
use Rattle.acl_fragments.specs.Answers as wants
use Rattle.radio_air.specs.declared.answer.Answer.{Answer as Told}
use Rattle.radio_air.specs.declared.answer.Answer.TheVariants as told
use Rattle.radio_air.specs.declared.phase.Phase.{Phase as Stage}
use Rattle.radio_air.specs.declared.phase.Phase.TheVariants as stages
use Rattle.radio_air.specs.declared.step.Step.{Step}
use Rattle.radio_air.specs.declared.step.Step.TheVariants as steps
use Rattle.radio_model.specs.Controllers.{Answer, Returned, Stated, Called, LinkMade, LinkGone, GivenBack, address}
use Rattle.radio_model.specs.Radio.{Phase, Apart, Paging, Requested, Together, is_apart, is_together}
use Rattle.radio_model.specs.Queues.{Queue}

-- what the code keeps of an answer; all commands return status 0 first (Core 5.1, Volume 2 Part E, 7.3.2, 7.3.18, 7.4.5
-- and 7.4.6)
abbrev pub plain_answer : Told → Answer
plain_answer (told.Done opcode) = Returned opcode (0 ∷ [])
plain_answer (told.BufferSizes size count) = Returned 0x1005 (0 ∷ (le16 size ++ (0 ∷ (le16 count ++ le16 0))))
plain_answer (told.Address side) = Returned 0x1009 (0 ∷ address side)
plain_answer (told.Stated opcode) = Stated opcode
plain_answer told.Called = Called
plain_answer (told.LinkMade handle) = LinkMade handle
plain_answer (told.LinkGone handle reason) = LinkGone handle reason
plain_answer (told.GivenBack handle packets) = GivenBack handle packets

abbrev pub plain_phase : Stage → Phase
plain_phase stages.Apart = Apart
plain_phase stages.Paging = Paging
plain_phase stages.Requested = Requested
plain_phase stages.Together = Together

-- while a link is asked for there is a handle for it
abbrev pub HasHandle : Stage → ℕ → Type 0
HasHandle stage number = is_apart (plain_phase stage) ≡ false → is_together (plain_phase stage) ≡ false → number < 0x0EFF

-- what a piece wants that leads to these octets, by what it gives
abbrev pub is_dropped : wants.Answer → Bool
is_dropped (wants.Dropped reason) = true
is_dropped answer = false

abbrev pub IsStep : Step → List ℕ → wants.Answer → Type 0
IsStep steps.Whole octets answer = (answer ≡ wants.Pdu (channel_of octets) octets) × (4 ≤ length octets) × (length octets ≤ 65539)
IsStep steps.More octets answer = (answer ≡ wants.More) × (4 ≤ length octets) × (length octets ≤ 65539)
IsStep steps.Drop octets answer = is_dropped answer ≡ true

-- the octets may be those of a frame
abbrev pub IsShortStep : Step → List ℕ → Type 0
IsShortStep steps.Whole octets = (4 ≤ length octets) × (length octets ≤ 65539)
IsShortStep steps.More octets = (4 ≤ length octets) × (length octets ≤ 65539)
IsShortStep steps.Drop octets = Unit {0}

abbrev pub stepped : Step → (flies : Bool) → List ℕ → Queue → Queue
stepped steps.Whole flies octets queue = record queue { begun = []; waiting = if flies then queue.waiting ++ (queue.begun ++ octets) ∷ [] else queue.waiting }
stepped steps.More flies octets queue = record queue { begun = queue.begun ++ octets }
stepped steps.Drop flies octets queue = record queue { begun = [] }
