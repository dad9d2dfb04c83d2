use Rattle.btsnoop.specs.Files.{record_octets}
use Rattle.btsnoop.proofs.Parts.{six_added}
use Rattle.btsnoop.proofs.converting.push_record.Goals as goal

pub returns : goal.returns
unfolding record_octets
returns c =
    six_added _ _ _ _ _ _ _ _ _ _ _ _ _ _ _ _ _ _ c.in_ok-extend_from_slice.ensures.items c.to_be_bytes.ensures c.in_ok-extend_from_slice-2.ensures.items c.to_be_bytes-2.ensures
    c.in_ok-extend_from_slice-3.ensures.items c.to_be_bytes-3.ensures c.in_ok-extend_from_slice-4.ensures.items c.to_be_bytes-4.ensures c.in_ok-extend_from_slice-5.ensures.items c.to_be_bytes-5.ensures c.in_ok-extend_from_slice-6.ensures.items
