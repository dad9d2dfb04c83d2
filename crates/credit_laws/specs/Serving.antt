-- The credits of a server over what came and went on the channel of its multiplexer (RFCOMM 1.2, 6.5).
use Rattle.std.specs.Prelude.{ℕ, ◌≡◌, false, List, [], ◌∷◌, Option, None}
use Rattle.std.specs.List.{filter_map}
use Rattle.inbox_laws.specs.bt_base.specs.declared.settings.Settings.{Settings}
use Rattle.inbox_laws.specs.bt_base.specs.Objects.{Contents}
use Rattle.inbox_laws.specs.rfcomm_frames.specs.declared.connection.Role.TheVariants.{Responder}
use Rattle.inbox_laws.specs.push_model.specs.Server.{Reacted, rfcomm_psm}
use Rattle.inbox_laws.specs.push_laws.specs.Occurrences.{Occurrence, Came, done, begun, IsOwn}
use Rattle.inbox_laws.specs.push_laws.specs.Readings.{since, passed_by, user_dlci}
use Rattle.credit_laws.specs.Covered.{IsCovered}

-- What goes is what the server lends; no call of its inbox answered want of memory; and an SDU comes to its multiplexer where no frame of that waits.
pub record GoesQuietly (at : Reacted) (one : Occurrence) : Type 0 where
  pub own : IsOwn one at.server
  pub works : (done one at).server.listener.service.failed ≡ false
  pub quiet : (sdu : List ℕ) → one ≡ Came rfcomm_psm sdu → at.server.frame ≡ None

abbrev pub AllGoQuietly : Reacted → List Occurrence → Type 0
AllGoQuietly at [] = Unit {0}
AllGoQuietly at (one ∷ rest) = GoesQuietly at one × AllGoQuietly (done one at) rest

-- Then at each moment what came on the channel of its multiplexer since that was last closed granted it at least what it spent there, whatever came.
abbrev pub ServersAreCovered : Type 0
ServersAreCovered = (settings : Settings) (content : Option Contents) (occurrences : List Occurrence) → AllGoQuietly (begun settings content) occurrences → IsCovered user_dlci Responder (filter_map passed_by (since rfcomm_psm occurrences))
