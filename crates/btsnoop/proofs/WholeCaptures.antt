-- A whole capture is read to its end, and no conversion of it is refused.
use Rattle.std.proofs.Common.{◌≡◌, ℕ, List, [], length, Option, Some, None, Result, Ok, Err, refl, sym, ap, ◌∙◌, subst, ◌≤◌}
use Rattle.std.proofs.lemmas.List.{append-nil}
use Rattle.bt_base.specs.Streams.{gained}
use Rattle.push_terms.specs.declared.word.Side.{Side}
use Rattle.item_stream.specs.Running.{input_limit}
use Rattle.btsnoop.specs.declared.fault.SnoopFault.{SnoopFault}
use Rattle.btsnoop.specs.declared.fault.SnoopFault.TheVariants.{Refused, ReadFault, WriteFault, NoMemory}
use Rattle.btsnoop.specs.Files.{file_of}
use Rattle.btsnoop.specs.Converting.{Item, items_octets, records_of, IsReading, Converts}
use Rattle.btsnoop.specs.Laws.{IsWholeCapture, GainsItsFile, CapturesAreConverted}
use Rattle.btsnoop.proofs.OneConversion.{one_conversion}

whole_read : (input : List ℕ) (items : List Item) → IsWholeCapture input items → IsReading input items None
whole_read input items is = record {
  begins = record {
    each = is.each;
    within = subst (λ (t : List ℕ). length t ≤ input_limit) is.whole is.within;
    rest = [];
    whole = is.whole ∙ sym (append-nil (items_octets items));
  };
  stops = refl;
}

gains : (input : List ℕ) (items : List Item) → IsReading input items None → (side : Side) (left old new : Option (List ℕ)) (result : Result (Unit {0}) SnoopFault) → Converts side input left old new result → GainsItsFile side items old new result
gains input items read side left old new (Ok done) (others, is, wrote) =
    wrote ∙ ap (λ (ks : List Item). gained old (file_of (records_of side ks))) (one_conversion input others items None None is read).0
gains input items read side left old new (Err (Refused refusal place)) (others, is, wrote) =
    let both = (one_conversion input others items (Some (refusal, place)) None is read).1 in cc
gains input items read side left old new (Err ReadFault) h = tt
gains input items read side left old new (Err WriteFault) h = tt
gains input items read side left old new (Err NoMemory) h = tt

pub captures_converted : CapturesAreConverted
captures_converted input items is = let read = whole_read input items is in (read, gains input items read)
