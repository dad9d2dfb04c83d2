use Rattle.std.proofs.Common.{◌≡◌, ℕ, ◌+◌, List, ◌++◌, drop, ap, ◌∙◌, arith}
use Rattle.std.proofs.lemmas.List.{drop-drop}
use Rattle.capture.specs.Entries.{Entry, payload_of}
use Rattle.capture.specs.Lent.{plain_entry}
use Rattle.capture.proofs.EntryLaws.{payload_short, put_entry_octets}
use Rattle.capture.proofs.writing.put_entry.Goals as goal

pub overflow_cast-length : goal.overflow_cast-length
overflow_cast-length c = omega (arith, payload_short (plain_entry c.args.entry.now) c.requires.entry, c.put_payload-length.ensures.count)

pub returns-clause-written : goal.returns-clause-written
returns-clause-written c =
    let entry : Entry = plain_entry c.args.entry.now in
    let n : ℕ = c.put_payload-length.result in
    let behind : drop n c.split_at_mut-head.result.1.now ≡ drop (3 + n) c.args.into.now = ap (drop n) c.split_at_mut-head.ensures.back ∙ drop-drop n 3 c.args.into.now in
    put_entry_octets entry n c.put_payload-length.ensures.count c.tag_of.result c.copy_from_slice.new.self c.to_be_bytes.result c.put_payload-length.new.into (drop (3 + n) c.args.into.now)
    c.tag_of.ensures c.to_be_bytes.ensures c.copy_from_slice.ensures.after (c.put_payload-length.ensures.written ∙ ap (λ (t : List ℕ). payload_of entry ++ t) behind)
