-- What the ports of a host answer, as it is given to the host with the news that it hears (this project's own).
use Rattle.std.specs.Prelude.{List, [], ◌∷◌}
use Rattle.std.specs.List.{flat_map}
use Rattle.shelf_model.specs.host_model.specs.Circumstances.{Circumstance}
use Rattle.host_laws.specs.Acts.{Act, Hears, Says}
use Rattle.host_laws.specs.Feeds.{Feed, Gifts, Learns, Receives, Happens, Sent, Steps}
use Rattle.host_laws.specs.Woven.{Strand, Hearing, Giving, Firing, Telling, Gifting, Learning, Checking, Stepping}

-- one list of answers for each thing that a host hears
abbrev pub gifts_with : Act Circumstance → List (List Circumstance)
gifts_with (Hears gifts news) = gifts ∷ []
gifts_with (Says pdu) = []

-- the same of what its profile goes through
abbrev pub gifts_in : Feed → List (List Circumstance)
gifts_in (Gifts circumstances) = circumstances ∷ []
gifts_in (Learns circumstances news) = []
gifts_in (Receives own psm sdu) = []
gifts_in (Happens event channels) = []
gifts_in (Sent channels) = []
gifts_in (Steps channels) = []

abbrev pub gifts_of : List Feed → List (List Circumstance)
gifts_of feeds = flat_map gifts_in feeds

-- and of that in one order with what happens to its channels
abbrev pub gifts_by : Strand → List (List Circumstance)
gifts_by (Hearing pdu) = []
gifts_by (Giving pdu) = []
gifts_by Firing = []
gifts_by Telling = []
gifts_by (Gifting circumstances) = circumstances ∷ []
gifts_by (Learning circumstances news) = []
gifts_by Checking = []
gifts_by Stepping = []

abbrev pub gifts_along : List Strand → List (List Circumstance)
gifts_along weave = flat_map gifts_by weave
