use Rattle.check_words.proofs.RfcommValues.{rest_is, register_is}
use Rattle.check_words.proofs.laws.rfcomm_table_is_right.Goals as goal

pub returns : goal.returns
returns c octet small = (rest_is octet small, register_is octet small)
