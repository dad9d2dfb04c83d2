-- What was said and heard on each link, and what became of it; and pushes in turn (this project's own).
use Rattle.std.specs.Prelude.{ℕ, ◌≡◌, ◌+◌, Bool, true, false, List, [], ◌∷◌, ◌++◌, map, Option, Some, None, option_to_list}
use Rattle.std.specs.Option.{option_map}
use Rattle.push_terms.specs.declared.word.Side.{Side}
use Rattle.capture.specs.declared.flow.Flow.{Flow}
use Rattle.capture.specs.declared.flow.Flow.TheVariants.{Out, Into}
use Rattle.capture.specs.Entries.{Entry}
use Rattle.capture.specs.Moves.{moves}
use Rattle.capture.specs.Links.{linking}
use Rattle.capture.specs.Pdus.{Pdu, pdus}
use Rattle.radio_model.specs.declared.fate.Fate.{Fate}
use Rattle.radio_model.specs.Fates.{meets, comes_of}
use Rattle.world_model.specs.Machines.{Up, Down, Linked, Heard, Opening}
use Rattle.world_model.specs.Pushes.{Pushes, next_name, one_begun, one_ended}
use Rattle.world_model.specs.Talks.{Talk, Told, Said, Unsent, Met, Done}

-- ---- what moved

-- what a capture can know of it: all but the PDUs that did not move
abbrev pub seen : List Talk → List Talk
seen [] = []
seen (Unsent pdu ∷ talks) = seen talks
seen (talk ∷ talks) = talk ∷ seen talks

-- ---- PDUs

-- the PDUs of the links that were, and of the link that is or was the last
pub record PerLink : Type 0 where
  pub done : List (List (List ℕ))
  pub now : List (List ℕ)

abbrev pub none_yet : PerLink
none_yet = record { done = []; now = [] }

abbrev pub next_link : PerLink → PerLink
next_link links = record { done = links.done ++ links.now ∷ []; now = [] }

abbrev pub with_pdus : List (List ℕ) → PerLink → PerLink
with_pdus pdus links = record links { now = links.now ++ pdus }

-- what a host heard
abbrev pub heard_after : PerLink → Talk → PerLink
heard_after links (Told (Linked Up)) = next_link links
heard_after links (Told (Heard pdu)) = with_pdus (pdu ∷ []) links
heard_after links talk = links

abbrev pub heard_from : PerLink → List Talk → PerLink
heard_from links [] = links
heard_from links (talk ∷ talks) = heard_from (heard_after links talk) talks

abbrev pub heard_in : List Talk → PerLink
heard_in talks = heard_from none_yet talks

-- what a host said that is in the air, and what came of the rest by the fates that it met, in order
pub record Flown : Type 0 where
  pub air : List (List ℕ)
  pub over : PerLink

abbrev pub front_meets : (size : ℕ) → Fate → Bool → List (List ℕ) → PerLink → Flown
front_meets size fate checked [] over = record { air = []; over = over }
front_meets size fate checked (frame ∷ rest) over =
    record { air = (meets size fate checked frame).stays ++ rest; over = with_pdus (comes_of size fate checked frame) over }

abbrev pub flies : ℕ → Flown → Talk → Flown
flies size f (Told (Linked Up)) = record { air = []; over = next_link f.over }
flies size f (Told (Linked (Down reason))) = record f { air = [] }
flies size f (Said pdu) = record f { air = f.air ++ pdu ∷ [] }
flies size f (Met fate checked) = front_meets size fate checked f.air f.over
flies size f talk = f

abbrev pub flown_from : ℕ → Flown → List Talk → Flown
flown_from size f [] = f
flown_from size f (talk ∷ talks) = flown_from size (flies size f talk) talks

abbrev pub flown_in : ℕ → List Talk → Flown
flown_in size talks = flown_from size (record { air = []; over = none_yet }) talks

-- what one heard on each link is what came of what the other said on it, by the fates that it met, in order
abbrev pub HearsFrom : ℕ → (one other : List Talk) → Type 0
HearsFrom size one other = heard_in one ≡ (flown_in size other).over

-- how many links a host was told of
abbrev pub is_up : Talk → ℕ
is_up (Told (Linked Up)) = 1
is_up talk = 0

abbrev pub links_told : List Talk → ℕ
links_told [] = 0
links_told (talk ∷ talks) = is_up talk + links_told talks

-- ---- pushes

-- the pushes, and whether a link is up
pub record Stage : Type 0 where
  pub pushes : Pushes
  pub up : Bool

abbrev pub Turned : Stage → Talk → Stage → Type 0
Turned s (Told (Opening name)) t = (next_name s.pushes ≡ Some name) × (s.up ≡ false) × (t ≡ record { pushes = one_begun s.pushes; up = false })
Turned s (Told (Linked Up)) t = (s.pushes.going ≡ true) × (s.up ≡ false) × (t ≡ record { pushes = s.pushes; up = true })
Turned s (Told (Linked (Down reason))) t = (s.up ≡ true) × (t ≡ record { pushes = s.pushes; up = false })
Turned s (Done outcome) t = (s.pushes.going ≡ true) × (s.up ≡ false) × (t ≡ record { pushes = one_ended outcome s.pushes; up = false })
Turned s talk t = t ≡ s

-- each push ends before the next begins, in the order of the names, and each link lies within one
abbrev pub InTurn : Stage → List Talk → Stage → Type 0
InTurn s [] t = t ≡ s
InTurn s (talk ∷ talks) t = (mid : Stage) × Turned s talk mid × InTurn mid talks t

-- ---- links as a capture has them

-- the PDUs of the links that ended, and of the one that is up, both ways, in the order in which they moved
pub record Linkage : Type 0 where
  pub past : List (List Pdu)
  pub up : Option (List Pdu)

abbrev pub no_linkage : Linkage
no_linkage = record { past = []; up = None }

abbrev pub pdus_of : Flow → List (List ℕ) → List Pdu
pdus_of flow pdus = map (λ pdu. record { flow = flow; octets = pdu }) pdus

abbrev pub with_moved : Flow → List (List ℕ) → Linkage → Linkage
with_moved flow pdus linkage = record linkage { up = option_map (λ now. now ++ pdus_of flow pdus) linkage.up }

abbrev pub link_begins : Linkage → Linkage
link_begins linkage = record linkage { up = Some [] }

abbrev pub link_ends : Linkage → Linkage
link_ends linkage = record { past = linkage.past ++ option_to_list linkage.up; up = None }

abbrev pub linkage_after : Linkage → Talk → Linkage
linkage_after linkage (Told (Linked Up)) = link_begins linkage
linkage_after linkage (Told (Linked (Down reason))) = link_ends linkage
linkage_after linkage (Told (Heard pdu)) = with_moved Into (pdu ∷ []) linkage
linkage_after linkage (Said pdu) = with_moved Out (pdu ∷ []) linkage
linkage_after linkage talk = linkage

abbrev pub linkage_from : Linkage → List Talk → Linkage
linkage_from linkage [] = linkage
linkage_from linkage (talk ∷ talks) = linkage_from (linkage_after linkage talk) talks

-- the links that a host was told of, with the PDUs that it heard and that it said and that moved
abbrev pub linkage : List Talk → Linkage
linkage talks = linkage_from no_linkage talks

-- what a capture has of them, by its own definitions of links and PDUs
abbrev pub captured : Side → List Entry → Linkage
captured side entries = record { past = map pdus (linking (moves side entries)).past; up = option_map pdus (linking (moves side entries)).up }
