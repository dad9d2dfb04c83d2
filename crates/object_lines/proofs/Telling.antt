-- What one pass tells of a link is what is told of its objects, and so of all links of a capture.
use Rattle.std.proofs.Common.{◌≡◌, List, [], ◌∷◌, ◌++◌, length, drop, map, fold, Option, Some, None, refl, sym, ap, ◌∙◌, append_assoc, append-nil}
use Rattle.std.specs.Prelude.{option_to_list}
use Rattle.std.specs.List.{flat_map}
use Rattle.std.specs.Option.{option_map}
use Rattle.std.proofs.lemmas.List.{map-append, length-map}
use Rattle.push_terms.specs.declared.word.Side.{Side}
use Rattle.capture.specs.Entries.{Entry as Captured}
use Rattle.capture.specs.Links.{Link, linking}
use Rattle.capture.specs.Moves.{moves}
use Rattle.link_talk.specs.declared.party.Party.{Party}
use Rattle.link_talk.specs.Sayings.{Saying, talk}
use Rattle.link_talk.specs.Senses.{sense}
use Rattle.link_talk.specs.Meanings.{meant}
use Rattle.link_talk.specs.Channels.{Entry, entry_after, Reading, read_on}
use Rattle.link_talk.specs.Packets.{Carrier, OverL2cap, OverRfcomm, OverNothing, carrier}
use Rattle.link_talk.specs.ObjectsHeard.{objects}
use Rattle.link_talk.specs.Captures.{objects_heard}
use Rattle.link_readers.specs.talk_laws.specs.Spelling.{Hearing, no_hearing, objects_told}
use Rattle.link_readers.specs.talk_laws.specs.LinkPass.{KeptChannel, LinkPass, no_pass, entry_of, held_by, kept_after, kept_with, pass_after}
use Rattle.link_readers.specs.talk_laws.specs.LinkObjects.{hearing_step, objects_said, objects_along}
use Rattle.link_readers.specs.talk_laws.specs.CapturePass.{HeldLink, held_links, states, link_back}
use Rattle.link_readers.specs.talk_laws.proofs.LinkObjects.{link-objects_look_back}
use Rattle.link_readers.specs.talk_laws.proofs.CapturePass.{held-is, folds-lead}
use Rattle.object_lines.specs.Tallies.{Told, told}
use Rattle.object_lines.specs.Matters.{Matter, no_matter, matter_by, matter, matter_step, matter_told, matter_pass, pass_told}
use Rattle.object_lines.specs.Passes.{Telling, no_telling, telling_after}
use Rattle.object_lines.specs.Heard.{told_on}
use Rattle.object_lines.proofs.Mattering.{matter_leads, matter_tells}

-- ---- what matters of what a pass holds

abbrev mattering : KeptChannel Hearing → KeptChannel Matter
mattering one = record { entry = one.entry; state = matter one.entry.channel one.state }

abbrev mattering_pass : LinkPass Hearing → LinkPass Matter
mattering_pass pass = record { requests = pass.requests; kept = map mattering pass.kept }

entries_same : (kept : List (KeptChannel Hearing)) → map entry_of (map mattering kept) ≡ map entry_of kept
entries_same [] = refl
entries_same (one ∷ kept) = ap (λ rest. one.entry ∷ rest) (entries_same kept)

held_same : (pass : LinkPass Hearing) → held_by (mattering_pass pass) ≡ held_by pass
held_same pass = ap (λ entries. let held : Reading = record { requests = pass.requests; entries = entries } in held) (entries_same pass.kept)

none_matters : (over : Carrier) → matter_by over no_hearing ≡ no_matter
none_matters OverL2cap = refl
none_matters OverRfcomm = refl
none_matters OverNothing = refl

kept_leads : (party : Party) (held : Reading) (saying : Saying) (kept : List (KeptChannel Hearing))
    → map mattering (map (kept_after (hearing_step party) held saying) kept) ≡ map (kept_after (matter_step party) held saying) (map mattering kept)
kept_leads party held saying [] = refl
kept_leads party held saying (one ∷ kept) =
    ap (λ state. kept_with state (entry_after (meant held.requests (sense saying)) one.entry) ∷ map mattering (map (kept_after (hearing_step party) held saying) kept)) (matter_leads party one.entry.channel held one.state saying)
    ∙ ap (λ rest. kept_after (matter_step party) held saying (mattering one) ∷ rest) (kept_leads party held saying kept)

new_matters : (entries : List Entry) → map mattering (map (kept_with no_hearing) entries) ≡ map (kept_with no_matter) entries
new_matters [] = refl
new_matters (entry ∷ entries) =
    ap (λ state. kept_with state entry ∷ map mattering (map (kept_with no_hearing) entries)) (none_matters (carrier entry.channel.psm)) ∙ ap (λ rest. kept_with no_matter entry ∷ rest) (new_matters entries)

abbrev pass_with : Party → List (KeptChannel Matter) → Saying → Reading → LinkPass Matter
pass_with party kept saying held =
    record { requests = (read_on held saying).requests; kept = map (kept_after (matter_step party) held saying) kept ++ map (kept_with no_matter) (drop (length kept) (read_on held saying).entries) }

pass_leads : (party : Party) (pass : LinkPass Hearing) (saying : Saying) → mattering_pass (pass_after (hearing_step party) no_hearing pass saying) ≡ matter_pass party (mattering_pass pass) saying
pass_leads party pass saying =
    let held = held_by pass in
    let next = read_on held saying in
    let now = map (kept_after (hearing_step party) held saying) pass.kept in
    let new = drop (length pass.kept) next.entries in
    let by : List (KeptChannel Matter) → LinkPass Matter = λ kept. record { requests = next.requests; kept = kept } in
    ap by
    (map-append mattering now (map (kept_with no_hearing) new)
    ∙ (ap (λ front. front ++ map mattering (map (kept_with no_hearing) new)) (kept_leads party held saying pass.kept)
    ∙ (ap (λ behind. map (kept_after (matter_step party) held saying) (map mattering pass.kept) ++ behind) (new_matters new)
    ∙ ap (λ n. map (kept_after (matter_step party) held saying) (map mattering pass.kept) ++ map (kept_with no_matter) (drop n next.entries)) (sym (length-map pass.kept mattering)))))
    ∙ ap (pass_with party (map mattering pass.kept) saying) (sym (held_same pass))

-- ---- what it tells

each_tells : (party : Party) (held : Reading) (saying : Saying) (kept : List (KeptChannel Hearing))
    → map told (flat_map (λ (one : KeptChannel Hearing). objects_told party one.entry.channel held one.state saying) kept)
    ≡ flat_map (λ (one : KeptChannel Matter). matter_told party one.entry.channel held one.state saying) (map mattering kept)
each_tells party held saying [] = refl
each_tells party held saying (one ∷ kept) =
    let rest = flat_map (λ (one : KeptChannel Hearing). objects_told party one.entry.channel held one.state saying) kept in
    map-append told (objects_told party one.entry.channel held one.state saying) rest
    ∙ (ap (λ ts. ts ++ map told rest) (matter_tells party one.entry.channel held one.state saying)
    ∙ ap (λ ts. matter_told party one.entry.channel held (matter one.entry.channel one.state) saying ++ ts) (each_tells party held saying kept))

pass_tells : (party : Party) (pass : LinkPass Hearing) (saying : Saying) → map told (objects_said party pass saying) ≡ pass_told party (mattering_pass pass) saying
pass_tells party pass saying =
    each_tells party (held_by pass) saying pass.kept
    ∙ ap (λ held. flat_map (λ (one : KeptChannel Matter). matter_told party one.entry.channel held one.state saying) (map mattering pass.kept)) (sym (held_same pass))

abbrev telling_of : LinkPass Matter → List Told → Telling
telling_of pass found = record { pass = pass; told = found }

along : (party : Party) (said : List Saying) (pass : LinkPass Hearing) (found : List Told)
    → (fold (telling_after party) (telling_of (mattering_pass pass) found) said).told ≡ found ++ map told (objects_along party pass said)
along party [] pass found = sym (append-nil found)
along party (saying ∷ said) pass found =
    let next = pass_after (hearing_step party) no_hearing pass saying in
    let now = objects_said party pass saying in
    ap (λ later. (fold (telling_after party) (telling_of later (found ++ pass_told party (mattering_pass pass) saying)) said).told) (sym (pass_leads party pass saying))
    ∙ (ap (λ more. (fold (telling_after party) (telling_of (mattering_pass next) (found ++ more)) said).told) (sym (pass_tells party pass saying))
    ∙ (along party said next (found ++ map told now)
    ∙ (append_assoc found (map told now) (map told (objects_along party next said)) ∙ ap (λ ts. found ++ ts) (sym (map-append told now (objects_along party next said))))))

abbrev tells : Party → List Saying → Telling
tells party said = fold (telling_after party) no_telling said

pub talk_told : (party : Party) (said : List Saying) → (tells party said).told ≡ map told (objects party said)
talk_told party said = along party said (no_pass Hearing) [] ∙ ap (map told) (sym (link-objects_look_back.objects party said))

-- ---- of a capture

talks_told : (party : Party) (talks : List (List Saying)) → told_on (map (tells party) talks) ≡ map told (flat_map (objects party) talks)
talks_told party [] = refl
talks_told party (said ∷ talks) =
    ap (λ ts. ts ++ told_on (map (tells party) talks)) (talk_told party said)
    ∙ (ap (λ more. map told (objects party said) ++ more) (talks_told party talks) ∙ sym (map-append told (objects party said) (flat_map (objects party) talks)))

states_back : {X : Type 0} (of : List Saying → X) (past : List Link) (up : Option Link) → map of (map talk (past ++ option_to_list up)) ≡ map (λ link. of (talk link)) past ++ option_to_list (option_map (λ (link : HeldLink X). link.state) (option_map (link_back of) up))
states_back of [] None = refl
states_back of [] (Some link) = refl
states_back of (first ∷ past) up = ap (λ rest. of (talk first) ∷ rest) (states_back of past up)

pub captures_told : (party : Party) (side : Side) (entries : List Captured) → told_on (states (held_links (telling_after party) no_telling side entries)) ≡ map told (objects_heard party side entries)
captures_told party side entries =
    let now = linking (moves side entries) in
    ap (λ links. told_on (states links)) (held-is (telling_after party) no_telling (tells party) (folds-lead (telling_after party) no_telling) side entries)
    ∙ (ap told_on (sym (states_back (tells party) now.past now.up)) ∙ talks_told party (map talk (now.past ++ option_to_list now.up)))
