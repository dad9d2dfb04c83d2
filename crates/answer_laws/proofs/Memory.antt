-- No call of an inbox lacked memory whose server has not failed.
use Rattle.std.proofs.Common.{◌≡◌, ◌||◌, Bool, true, false, List, [], ◌∷◌, Ok, Err}
use Rattle.std.specs.List.{AllByRecursion}
use Rattle.std.proofs.lemmas.Bool.{or_parts}
use Rattle.bt_base.specs.declared.ports.PortFault.TheVariants.{Failed, NoMemory}
use Rattle.obex_session.specs.InboxCalls.{InboxCall, Answer, come_of, left_by}
use Rattle.push_model.specs.Sessions.{is_short}
use Rattle.answer_laws.specs.Memory.{HadMemory, UnfailedLackedNone}
use Rattle.answer_laws.proofs.Using.{sdu_heard, channel_closed, link_gone}

-- calls that come to no want of memory were told of none
calls_had : (calls : List InboxCall) (answers : List Answer) → is_short (come_of calls answers) ≡ false → AllByRecursion HadMemory (left_by calls answers) → AllByRecursion HadMemory answers
calls_had [] answers none rest = rest
calls_had (call ∷ calls) [] none rest = tt
calls_had (call ∷ calls) (Ok done ∷ answers) none rest = ((λ e. absurd cc), calls_had calls answers none rest)
calls_had (call ∷ calls) (Err Failed ∷ answers) none rest = ((λ e. absurd cc), rest)
calls_had (call ∷ calls) (Err NoMemory ∷ answers) none rest = absurd (let e : true ≡ false = none in cc)

-- what is so of the answers that are left, of those at first
abbrev Had : List Answer → Bool → List Answer → Type 0
Had first failed answers = failed ≡ false → AllByRecursion HadMemory answers → AllByRecursion HadMemory first

had_left : (first : List Answer) (failed : Bool) (calls : List InboxCall) (answers : List Answer) → Had first failed answers → Had first (failed || is_short (come_of calls answers)) (left_by calls answers)
had_left first failed calls answers had on rest = let parts = or_parts failed (is_short (come_of calls answers)) on in had parts.0 (calls_had calls answers parts.1 rest)

pub unfailed_lacked_none : UnfailedLackedNone
unfailed_lacked_none = record {
  sdu = λ psm sdu server gift. sdu_heard (Had gift.answers) (had_left gift.answers) psm sdu server gift (λ works had. had);
  channel = λ psm server gift. channel_closed (Had gift.answers) (had_left gift.answers) psm server gift (λ works had. had);
  link = λ server gift. link_gone (Had gift.answers) (had_left gift.answers) server gift (λ works had. had);
}
