-- What the code keeps of one direction of the air: a ring of frames, and how far the first of them is handed over.
use Rattle.std.specs.Prelude.{ℕ, ◌≡◌, ◌≤◌, ◌<◌, ◌==◌, length, take, drop, if◌then◌else◌}
use Rattle.hci_packets.specs.declared.acl.Boundary.{Boundary}
use Rattle.hci_packets.specs.declared.acl.Boundary.TheVariants.{Continuing, FirstFromController}
use Rattle.acl_fragments.specs.Cuts.{cut}
use Rattle.radio_model.specs.Radio.{first_or_nothing}
use Rattle.radio_model.specs.Queues.{Queue, IsSize}
use Rattle.radio_air.specs.Rings.{Kept}

-- the whole of a frame is a start, the rest of it is continued
abbrev pub boundary_at : ℕ → Boundary
boundary_at gone = if gone == 0 then FirstFromController else Continuing

-- of the first frame so many octets are to be handed over, and so many of these are gone; so many frames wait no more
abbrev pub queue_of : (size : ℕ) → Kept → (handing gone leaving : ℕ) → Queue
queue_of size kept handing gone leaving = record {
  size = size;
  waiting = drop leaving kept.frames;
  begun = kept.begun;
  coming = cut size (boundary_at gone) (drop gone (take handing (first_or_nothing kept.frames)));
}

-- while octets are handed over, some are left; else no frame is left over
pub record IsQueue (size : ℕ) (kept : Kept) (handing gone leaving : ℕ) : Type 0 where
  pub sized : IsSize size
  pub handing_within : handing ≤ length (first_or_nothing kept.frames)
  pub gone_within : gone ≤ handing
  pub leaving_within : leaving ≤ length kept.frames
  pub over : handing ≤ gone → (handing ≡ 0) × (leaving ≡ 0)
  pub headed : 0 < length kept.begun → 4 ≤ length kept.begun
