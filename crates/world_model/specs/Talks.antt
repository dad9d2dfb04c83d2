-- What a host was told and said, in the order in which it was (this project's own).
use Rattle.std.specs.Prelude.{ℕ, Bool, List}
use Rattle.push_terms.specs.declared.outcome.Outcome.{Outcome}
use Rattle.radio_model.specs.declared.fate.Fate.{Fate}
use Rattle.world_model.specs.Machines.{News, Heard}

pub data Talk : Type 0 where
  Told : (news : News) → Talk
  -- a PDU that it said and that moved, and one that did not move before the link was gone
  Said : (pdu : List ℕ) → Talk
  Unsent : (pdu : List ℕ) → Talk
  -- what became of the first PDU of those in the air that it said; `checked` says whether its receiver had a check word for it
  Met : (fate : Fate) (checked : Bool) → Talk
  -- its push is over
  Done : (outcome : Outcome) → Talk

abbrev pub hearing : List ℕ → Talk
hearing pdu = Told (Heard pdu)
