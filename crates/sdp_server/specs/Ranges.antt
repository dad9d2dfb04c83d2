-- A range as the code has it.
use Rattle.sdp_elements.specs.Answers.{Range}
use Rattle.sdp_server.specs.declared.list.IdentifierRange.{IdentifierRange}

abbrev pub plain_range : IdentifierRange → Range
plain_range range = record { low = range.low; high = range.high }
