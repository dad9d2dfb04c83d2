-- Two hosts on a link that keeps the order of what is under way, and loses, repeats and damages (this project's own).
use Rattle.std.specs.Prelude.{ℕ, ◌≡◌, Bool, true, false, List, [], ◌∷◌, ◌++◌, fold, Option, Some, None, if◌then◌else◌}
use Rattle.own_channel_laws.specs.talk_laws.specs.acl_fragments.specs.Pieces.{channel_of}
use Rattle.own_channel_laws.specs.channel_model.specs.Policies.{Policy}
use Rattle.own_channel_laws.specs.channel_model.specs.Calls.{has_fcs}
use Rattle.own_channel_laws.specs.channel_model.specs.Giving.{Given, next_given}
use Rattle.own_channel_laws.specs.Runs.{Occurrence, Comes, Connects, AsksFeatures, Disconnects, Sends, Gives, Fires, Tells, Run, new_link, run_on, run_of}

-- a host, and the PDUs that are under way to it, the first first
pub record End : Type 0 where
  pub policy : Policy
  pub run : Run
  pub coming : List (List ℕ)

pub record Pair : Type 0 where
  pub near : End
  pub far : End

abbrev pub new_end : Policy → End
new_end policy = record { policy = policy; run = new_link; coming = [] }

abbrev pub new_pair : (near far : Policy) → Pair
new_pair near far = record { near = new_end near; far = new_end far }

-- ---- what may happen at one end

pub data Happening : Type 0 where
  -- something that its host does alone
  Acts : (occurrence : Occurrence) → Happening
  -- its host gives its next PDU, with these octets
  Puts : (pdu : List ℕ) → Happening
  -- of what is under way to it, the first comes in; it comes in and stays; it is lost; it comes in with other octets
  Takes : Happening
  Repeats : Happening
  Loses : Happening
  Damages : (pdu : List ℕ) → Happening

abbrev pub is_alone : Occurrence → Bool
is_alone (Comes pdu) = false
is_alone (Connects psm) = true
is_alone AsksFeatures = true
is_alone (Disconnects own) = true
is_alone (Sends own sdu) = true
is_alone (Gives pdu) = false
is_alone Fires = true
is_alone Tells = true

abbrev pub occurs : Occurrence → End → End
occurs occurrence end' = record end' { run = run_on end'.policy end'.run occurrence }

abbrev pub with_near : End → Pair → Pair
with_near end' pair = record pair { near = end' }

abbrev pub put : List ℕ → Pair → Pair
put pdu pair = record { near = occurs (Gives pdu) pair.near; far = record pair.far { coming = pair.far.coming ++ pdu ∷ [] } }

abbrev pub puts : Option Given → List ℕ → Pair → Pair
puts None pdu pair = pair
puts (Some given) pdu pair = put pdu pair

abbrev pub let_go : List (List ℕ) → End → End
let_go coming end' = record end' { coming = coming }

abbrev pub takes_first : List (List ℕ) → End → End
takes_first [] end' = end'
takes_first (pdu ∷ coming) end' = occurs (Comes pdu) (let_go coming end')

abbrev pub repeats_first : List (List ℕ) → End → End
repeats_first [] end' = end'
repeats_first (pdu ∷ coming) end' = occurs (Comes pdu) end'

abbrev pub loses_first : List (List ℕ) → End → End
loses_first [] end' = end'
loses_first (pdu ∷ coming) end' = let_go coming end'

-- without a check word what is damaged is lost
abbrev pub damages_first : List ℕ → List (List ℕ) → End → End
damages_first other [] end' = end'
damages_first other (pdu ∷ coming) end' =
    if has_fcs (channel_of pdu) end'.run.value then occurs (Comes other) (let_go coming end') else let_go coming end'

abbrev pub happens_near : Happening → Pair → Pair
happens_near (Acts occurrence) pair = if is_alone occurrence then with_near (occurs occurrence pair.near) pair else pair
happens_near (Puts pdu) pair = puts (next_given pair.near.run.value) pdu pair
happens_near Takes pair = with_near (takes_first pair.near.coming pair.near) pair
happens_near Repeats pair = with_near (repeats_first pair.near.coming pair.near) pair
happens_near Loses pair = with_near (loses_first pair.near.coming pair.near) pair
happens_near (Damages other) pair = with_near (damages_first other pair.near.coming pair.near) pair

-- ---- at either

pub data Side : Type 0 where
  Near : Side
  Far : Side

abbrev pub turned : Pair → Pair
turned pair = record { near = pair.far; far = pair.near }

pub record Turn : Type 0 where
  pub side : Side
  pub happening : Happening

abbrev pub happens_at : Side → Happening → Pair → Pair
happens_at Near happening pair = happens_near happening pair
happens_at Far happening pair = turned (happens_near happening (turned pair))

abbrev pub pair_after : Pair → Turn → Pair
pair_after pair turn = happens_at turn.side turn.happening pair

abbrev pub pair_of : (near far : Policy) → List Turn → Pair
pair_of near far turns = fold pair_after (new_pair near far) turns

-- ---- each end by itself

-- it is a host to which something occurred, whatever it was
abbrev pub IsRunOf : Policy → Run → Type 0
IsRunOf policy run = (list : List Occurrence) × (run ≡ run_of policy list)

-- So all laws of one host hold at both ends, whatever the link does.
abbrev pub EachEndRuns : Type 0
EachEndRuns = (near far : Policy) (turns : List Turn) → IsRunOf near (pair_of near far turns).near.run × IsRunOf far (pair_of near far turns).far.run
