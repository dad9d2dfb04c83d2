-- What holds of the objects that a host heard.
use Rattle.std.specs.Prelude.{◌≡◌, List}
use Rattle.push_terms.specs.declared.word.Side.{Side}
use Rattle.capture.specs.Entries.{Entry}
use Rattle.link_talk.specs.declared.party.Party.{Party}
use Rattle.link_talk.specs.Captures.{objects_heard}
use Rattle.h4_view.specs.Keeping.{of_side}

-- A side heard in a capture what it heard in that of its own packets alone.
abbrev pub HearByTheirOwn : Type 0
HearByTheirOwn = (party : Party) (side : Side) (entries : List Entry) → objects_heard party side (of_side side entries) ≡ objects_heard party side entries
