-- The small talks, worked out.
use Rattle.std.proofs.Common.{refl}
use Rattle.link_talk.specs.l2cap_config.specs.Reading.{items_of, items_within}
use Rattle.link_talk.specs.obex_headers.specs.Reading.{packet_in, front_at, behind_length, headers_in, headers_at, header_at, value_at, text_at, octets_at, one_at, sized_at, fields_in}
use Rattle.talk_laws.specs.Differences.{ChannelsDiffer, SilencesDiffer}

pub channels_differ : ChannelsDiffer
unfolding items_of items_within
channels_differ = record { refused_once = refl; not_answered = (refl, refl); given_once = refl; by_mode = refl }

pub silences_differ : SilencesDiffer
unfolding packet_in front_at behind_length headers_in headers_at header_at value_at text_at octets_at one_at sized_at fields_in
silences_differ = record { refusal_unsaid = refl; grant_unsaid = refl; refusal_said = refl }
