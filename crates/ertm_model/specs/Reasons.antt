-- The numbers of the reasons (this project's own).
use Rattle.std.specs.Prelude.{ℕ}
use Rattle.ertm_model.specs.declared.reason.ErtmReason.{ErtmReason}
use Rattle.ertm_model.specs.declared.reason.ErtmReason.TheVariants.{BadReqSeq, Srej, BadSegment, RetryLimit, TooLongSdu, BadFrame}

abbrev pub number_of : ErtmReason → ℕ
number_of BadReqSeq = 1
number_of Srej = 3
number_of BadSegment = 4
number_of RetryLimit = 5
number_of TooLongSdu = 6
number_of BadFrame = 7
