-- What the words ask for, and what is left where they could not be read.
use Rattle.std.proofs.Common.{◌≡◌, ℕ, List, [], Option, Some, None, IfSome, IfOk, IfErr, Result, Ok, Err, refl, sym, subst, arith, inl}
use Rattle.bt_base.proofs.PortLaws.{front_none}
use Rattle.clap.specs.Words.{Text}
use Rattle.command_words.specs.Forms.{AsksFor, IsAnswered}
use Rattle.command_words.specs.declared.form.Form.{Form}
use Rattle.command_words.specs.declared.form.Form.TheVariants as form
use Rattle.push_terms.specs.declared.word.Side.{Side}
use Rattle.h4_view.specs.declared.refusal.ViewFault.TheVariants as view
use Rattle.h4_view.specs.View.{OfLines}
use Rattle.h4_view.specs.Viewing.{OfLines as ShownLines}
use Rattle.h4_view.proofs.TaggedEnds.{none_begins as none_tagged}
use Rattle.h4_view.proofs.SnoopEnds.{none_begins as none_snooped}
use Rattle.btsnoop.specs.declared.fault.SnoopFault.TheVariants as snooped
use Rattle.three_wire.specs.declared.fault.CarryFault.TheVariants as fault
use Rattle.three_wire.proofs.Carrying.{carries_nothing}
use Rattle.btpush_forms.specs.declared.status.Status.TheVariants as status
use Rattle.btpush_forms.specs.declared.viewing.Viewing.{Viewing}
use Rattle.btpush_forms.specs.declared.viewing.Viewing.TheVariants.{Raw, Tagged, Snoop}
use Rattle.btpush_forms.specs.Carrying.{Wires}
use Rattle.btpush_forms.specs.Doing.{Does}
use Rattle.btpush_forms.specs.Ports.{Written}
use Rattle.btpush_forms.specs.Run.{Decodes}
use Rattle.btpush_forms.specs.Snooping.{Snoops}
use Rattle.btpush_forms.specs.Words.{WritesTrace, AskForTrace, hosted_form}
use Rattle.btpush_forms.specs.declared.hosted.Hosted.{Hosted}
use Rattle.btpush_forms.specs.declared.status.Status.{Status}

-- ---- the form that was found

pub found : {E : Type 0} (given words : List Text) (result : Result (Option Form) E) (form : Form) → given ≡ words → IfOk result (IsAnswered given) → result ≡ Ok (Some form) → AsksFor words form
found given words result form same answer is = subst (λ (ws : List Text). AsksFor ws form) same (subst (λ r. IfOk r (IsAnswered given)) is answer)

pub found_none : {E : Type 0} (given words : List Text) (result : Result (Option Form) E) → given ≡ words → IfOk result (IsAnswered given) → result ≡ Ok None → (form : Form) → AsksFor words form → ⊥
found_none given words result same answer is form asks = (subst (λ r. IfOk r (IsAnswered given)) is answer) form (subst (λ (ws : List Text). AsksFor ws form) (sym same) asks)

pub not_written : (words : List Text) (form : Form) → AsksFor words form → (AskForTrace words → ⊥) → WritesTrace form → ⊥
not_written words form asks none writes = none (form, writes, asks)

-- a form that needs hosts is not done here
pub hosted_short : (result : Result Status Hosted) (hosted : Hosted) → result ≡ Err hosted → IfOk result (λ s. s ≡ status.NoMemory)
hosted_short result hosted is = rw is tt

pub asked_so : (result : Result Status Hosted) (words : List Text) (form : Form) → AsksFor words form → IfErr result (λ hosted. form ≡ hosted_form hosted) → IfErr result (λ hosted. AsksFor words (hosted_form hosted))
asked_so (Ok done) words form asks is = tt
asked_so (Err hosted) words form asks is = subst (λ (f : Form). AsksFor words f) is asks

-- ---- there was no memory to read the words

nothing_decoded : (viewing : Viewing) (content sink : Option (List ℕ)) → IfSome content (λ input. Decodes viewing input content sink sink status.NoMemory)
nothing_decoded viewing None sink = tt
nothing_decoded Raw (Some input) sink = (Err view.NoMemory, OfLines [] (record { each = tt; within = omega arith; rest = input; whole = refl }) (front_none sink _), refl)
nothing_decoded Tagged (Some input) sink = (Err view.NoMemory, inl (ShownLines [] (none_tagged input) (front_none sink _)), refl)
nothing_decoded Snoop (Some input) sink = (Err view.NoMemory, ShownLines [] (none_snooped input) (front_none sink _), refl)

nothing_snooped : (side : Side) (content sink trace : Option (List ℕ)) → IfSome content (λ input. Snoops side input content sink sink trace trace status.NoMemory)
nothing_snooped side None sink trace = tt
nothing_snooped side (Some input) sink trace = (Err snooped.NoMemory, record { items = []; begins = record { each = tt; within = omega arith; rest = input; whole = refl }; wrote = front_none sink _ }, (refl, refl))

nothing_carried : (number : Option ℕ) (content sink trace : Option (List ℕ)) (Rose : Type 0) → Wires number content sink sink trace trace Rose status.NoMemory
nothing_carried number content sink trace Rose = record { end = Err fault.NoMemory; carried = trace; carries = carries_nothing number content sink trace Rose; tells = (refl, refl) }

pub nothing_done : (form : Form) (content : Option (List ℕ)) (sink trace : Written) → Does form content content sink sink trace trace status.NoMemory
nothing_done form.Decode content sink trace = nothing_decoded Raw content sink.content
nothing_done form.DecodeTagged content sink trace = nothing_decoded Tagged content sink.content
nothing_done form.DecodeSnoop content sink trace = nothing_decoded Snoop content sink.content
nothing_done (form.Snoop side) content sink trace = nothing_snooped side content sink.content trace.content
nothing_done (form.Wire number) content sink trace = nothing_carried number content sink.content trace.content _
nothing_done form.Push content sink trace = tt
nothing_done form.Receive content sink trace = tt
nothing_done (form.Make number) content sink trace = tt
