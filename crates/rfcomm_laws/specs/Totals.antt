-- What each side spent and granted in all that happened (RFCOMM 1.2, 6.5).
use Rattle.std.specs.Prelude.{ℕ, ◌+◌, ◌≤◌, ◌==◌, List, [], ◌∷◌, Option, Some, None, if◌then◌else◌}
use Rattle.rfcomm_frames.specs.declared.frame.MuxKind.{MuxKind}
use Rattle.rfcomm_frames.specs.declared.frame.MuxKind.TheVariants.{Sabm, Ua, Dm, Disc, Uih}
use Rattle.rfcomm_frames.specs.declared.connection.Role.{Role}
use Rattle.rfcomm_frames.specs.declared.connection.Role.TheVariants.{Initiator, Responder}
use Rattle.rfcomm_frames.specs.Frames.{PlainFrame}
use Rattle.rfcomm_frames.specs.FrameReading.{MessageAnswer, messages, is_empty}
use Rattle.rfcomm_frames.specs.Multiplexing.{stated_by, credit_octet}
use Rattle.rfcomm_model.specs.Machine.{Mux}
use Rattle.rfcomm_model.specs.Saying.{Said, next}
use Rattle.rfcomm_laws.specs.Pairs.{Move, Speak, Give, Deliver, Pair, ByInitiator, ByResponder, Terms, new_pair}
use Rattle.rfcomm_laws.specs.Happenings.{Happening, Moves, Closes, happens}

-- the credits that control messages state for a channel
abbrev pub stated_sum : ℕ → List MessageAnswer → ℕ
stated_sum d [] = 0
stated_sum d (message ∷ rest) = stated_by d message + stated_sum d rest

-- the credits that a frame grants: by PN, or in a credit octet
abbrev pub bonus_in : ℕ → MuxKind → PlainFrame → ℕ
bonus_in d Sabm f = 0
bonus_in d Ua f = 0
bonus_in d Dm f = 0
bonus_in d Disc f = 0
bonus_in d Uih f = if f.dlci == 0 then stated_sum d (messages f.octets) else credit_octet f.credits

abbrev pub bonus_of : ℕ → PlainFrame → ℕ
bonus_of d f = bonus_in d f.kind f

-- information costs a credit
abbrev pub cost_in : MuxKind → PlainFrame → ℕ
cost_in Sabm f = 0
cost_in Ua f = 0
cost_in Dm f = 0
cost_in Disc f = 0
cost_in Uih f = if f.dlci == 0 then 0 else if is_empty f.octets then 0 else 1

abbrev pub cost_of : PlainFrame → ℕ
cost_of f = cost_in f.kind f

-- of the frame that is said
abbrev pub cost_said : Option Said → ℕ
cost_said None = 0
cost_said (Some said) = cost_of said.frame

abbrev pub bonus_said : ℕ → Option Said → ℕ
bonus_said d None = 0
bonus_said d (Some said) = bonus_of d said.frame

abbrev pub cost_moved : Move → Mux → ℕ
cost_moved Speak m = cost_said (next m)
cost_moved (Give octets) m = 0
cost_moved Deliver m = 0

abbrev pub bonus_moved : ℕ → Move → Mux → ℕ
bonus_moved d Speak m = bonus_said d (next m)
bonus_moved d (Give octets) m = 0
bonus_moved d Deliver m = 0

-- the credits that a side spends, and that it grants
abbrev pub spends : Role → Happening → Pair → ℕ
spends Initiator (Moves (ByInitiator move)) p = cost_moved move p.initiator.mux
spends Initiator (Moves (ByResponder move)) p = 0
spends Responder (Moves (ByInitiator move)) p = 0
spends Responder (Moves (ByResponder move)) p = cost_moved move p.responder.mux
spends role (Closes by) p = 0

abbrev pub grants_made : ℕ → Role → Happening → Pair → ℕ
grants_made d Initiator (Moves (ByInitiator move)) p = bonus_moved d move p.initiator.mux
grants_made d Initiator (Moves (ByResponder move)) p = 0
grants_made d Responder (Moves (ByInitiator move)) p = 0
grants_made d Responder (Moves (ByResponder move)) p = bonus_moved d move p.responder.mux
grants_made d role (Closes by) p = 0

abbrev pub all_spent : Role → List Happening → Pair → ℕ
all_spent role [] p = 0
all_spent role (h ∷ hs) p = spends role h p + all_spent role hs (happens h p)

abbrev pub all_granted : ℕ → Role → List Happening → Pair → ℕ
all_granted d role [] p = 0
all_granted d role (h ∷ hs) p = grants_made d role h p + all_granted d role hs (happens h p)

-- at every moment, whatever happens: a side never sent more frames with information than the other one granted
pub record SentIsGranted (t : Terms) (hs : List Happening) : Type 0 where
  pub forth : all_spent Initiator hs (new_pair t) ≤ all_granted t.dlci Responder hs (new_pair t)
  pub back : all_spent Responder hs (new_pair t) ≤ all_granted t.dlci Initiator hs (new_pair t)

abbrev pub NoneIsOverdrawn : Type 0
NoneIsOverdrawn = (t : Terms) (hs : List Happening) → SentIsGranted t hs
