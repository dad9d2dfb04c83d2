use Rattle.sdp_elements.proofs.SpellingLaws.{writes_a_form}
use Rattle.sdp_elements.proofs.laws.shortest_is_form.Goals as goal

pub returns : goal.returns
returns c = writes_a_form
