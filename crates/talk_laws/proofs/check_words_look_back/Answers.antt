use Rattle.talk_laws.proofs.CheckWords.{check-words_look_back}
use Rattle.talk_laws.proofs.check_words_look_back.Goals as goal

pub returns : goal.returns
returns c = check-words_look_back
