-- The small talks, worked out.
use Rattle.std.proofs.Common.{refl}
use Rattle.obex_headers.specs.Reading.{packet_in, front_at, behind_length, headers_in, headers_at, header_at, value_at, text_at, octets_at, one_at, sized_at, fields_in}
use Rattle.link_talk.specs.Examples.{AreExchanged, AreSilent, AreAnswered, DoWait}

pub are_exchanged : AreExchanged
are_exchanged = record { one_by_one = refl; together = refl; aborted = refl; fault_then_goodbye = refl; unasked = refl }

pub are_silent : AreSilent
unfolding packet_in front_at behind_length headers_in headers_at header_at value_at text_at octets_at one_at sized_at fields_in
are_silent = record { passed_over = refl; read_by_order = refl; singly = refl }

pub are_answered : AreAnswered
are_answered = record { joined = refl; twice = refl; another = refl; unfinished = refl; refused = refl }

pub do_wait : DoWait
do_wait = record {
  nothing = refl;
  call = refl;
  repeated = refl;
  pending = refl;
  refused = refl;
  early = refl;
  low = refl;
  forgone = refl;
  information = refl;
  told = refl;
  ending = refl;
  ended = refl;
  crossed = refl;
  of_another = refl;
}
