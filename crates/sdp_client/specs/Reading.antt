-- The target read part by part.
use Rattle.std.specs.Prelude.{ℕ, Bool, false, Option, Some}
use Rattle.std.specs.List.{flat_map}
use Rattle.std.specs.Option.{option_or}
use Rattle.sdp_elements.specs.declared.target.Target.{Target}
use Rattle.sdp_elements.specs.Elements.{PlainElement, Value, Sequence, Alternative, Tree, Trees}
use Rattle.sdp_elements.specs.Optional.{◌>>=◌}
use Rattle.sdp_elements.specs.Records.{attribute}
use Rattle.sdp_elements.specs.Sequences.{collected, sequence_parts}
use Rattle.sdp_elements.specs.Targets.{number_in, is_service_psm, is_server_channel, kept, is_rfcomm_value, channels_among, psm_in, channel_in, attributes_in, attributes_of, target_of}

abbrev pub is_rfcomm_in : PlainElement → Bool
is_rfcomm_in (Value value) = is_rfcomm_value value
is_rfcomm_in (Sequence content) = false
is_rfcomm_in (Alternative content) = false

abbrev pub service_psm : PlainElement → Option ℕ
service_psm element = number_in 2 element >>= kept is_service_psm

abbrev pub server_channel : PlainElement → Option ℕ
server_channel element = number_in 1 element >>= kept is_server_channel

-- the first server channel of the protocols that a value has
abbrev pub channel_under : Tree → Option ℕ
channel_under value = sequence_parts value >>= channels_among

-- of each way the one that was named earlier
abbrev pub target_or : Target → Target → Target
target_or earlier later = record { l2cap = option_or earlier.l2cap later.l2cap; rfcomm = option_or earlier.rfcomm later.rfcomm }

-- the target that one attribute names
abbrev pub target_by : ℕ → Tree → Target
target_by identifier value = record { l2cap = psm_in (attribute identifier value); rfcomm = channel_in (attribute identifier value) }

-- the target of one service record
abbrev pub record_target : Trees → Option Target
record_target parts = do
  attributes ← attributes_in parts
  Some (target_of attributes)

abbrev pub service_target : Tree → Option Target
service_target service = sequence_parts service >>= record_target

-- the target of service records
abbrev pub records_target : Trees → Option Target
records_target parts = do
  found ← collected attributes_of parts
  Some (target_of (flat_map (λ attributes. attributes) found))
