-- What holds of a client whatever it hears and whenever it is asked for its next step.
use Rattle.std.specs.Prelude.{ℕ, ◌+◌, ◌≤◌, ◌≡◌, List, [], ◌∷◌, Some}
use Rattle.push_terms.specs.declared.outcome.Outcome.{Outcome}
use Rattle.push_model.specs.Client.{Client, cancelled}
use Rattle.push_model.specs.Events.{News, hears_news}
use Rattle.push_model.specs.Steps.{Part, Step, Wait, MakeLink, AskFeatures, OpenChannel, SendSdu, CloseChannel, BreakLink, Ended, NoMemory, steps, stepped}
use Rattle.push_model.specs.declared.course.Point.TheVariants.{Due, Asked}
use Rattle.push_model.specs.declared.course.Stage.{Stage}
use Rattle.push_model.specs.declared.course.Stage.TheVariants.{Rest, Link, SearchChannel, Search, SearchEnd, Features, ObjectChannel, Object, ObjectEnd, LinkEnd, Over}

-- ---- a push over time, from its begin on

pub data Deed : Type 0 where
  Hears : (news : News) → Deed
  -- it is asked for its next step, and the shelf answers so
  Asks : (parts : List Part) → Deed
  -- the step was done
  Finishes : Deed
  Cancels : Deed

abbrev pub done : Deed → Client → Client
done (Hears news) client = hears_news news client
done (Asks parts) client = (steps client parts).client
done Finishes client = stepped client
done Cancels client = cancelled client

abbrev pub all_done : List Deed → Client → Client
all_done [] client = client
all_done (deed ∷ deeds) client = all_done deeds (done deed client)

-- the first cause stays
abbrev pub FirstCausesStay : Type 0
FirstCausesStay = (deeds : List Deed) (client : Client) (outcome : Outcome) → client.cause ≡ Some outcome → (all_done deeds client).cause ≡ Some outcome

-- ---- links

-- how many links a push is still to ask for
abbrev pub links : Stage → ℕ
links Rest = 0
links (Link Due) = 1
links (Link Asked) = 0
links (SearchChannel point) = 0
links Search = 0
links (SearchEnd point) = 0
links (Features point) = 0
links (ObjectChannel point) = 0
links Object = 0
links (ObjectEnd point) = 0
links (LinkEnd point) = 0
links Over = 0

abbrev pub link_steps : Step → ℕ
link_steps Wait = 0
link_steps MakeLink = 1
link_steps AskFeatures = 0
link_steps (OpenChannel psm) = 0
link_steps (SendSdu psm payload) = 0
link_steps (CloseChannel psm) = 0
link_steps BreakLink = 0
link_steps (Ended outcome) = 0
link_steps NoMemory = 0

-- how many links are asked for
abbrev pub links_by : Deed → Client → ℕ
links_by (Hears news) client = 0
links_by (Asks parts) client = link_steps (steps client parts).step
links_by Finishes client = 0
links_by Cancels client = 0

abbrev pub links_asked : List Deed → Client → ℕ
links_asked [] client = 0
links_asked (deed ∷ deeds) client = links_by deed client + links_asked deeds (done deed client)

-- From a begin to the next one a client asks for one link at most, and for none where the shelf did not give the size.
abbrev pub AsksForOneLink : Type 0
AsksForOneLink = (deeds : List Deed) (client : Client) → links_asked deeds client ≤ links client.stage
